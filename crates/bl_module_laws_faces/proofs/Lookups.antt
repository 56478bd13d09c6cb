-- Lists of names with what each stands for.
use Rattle.std.proofs.Common.{◌≡◌, ℕ, true, false, cond, List, [], ◌∷◌, ◌++◌, Some, None, refl, sym, subst}
use Rattle.std.specs.Map.{lookup}
use Rattle.std.specs.Option.{option_or}
use Rattle.std.specs.Prelude.{Bool, bytes_eq, ⊤}

-- what a name stands for where one more is declared
pub found_last : {A : Type 0} (name : List ℕ) (xs : List (List ℕ × A)) (text : List ℕ) (a : A) →
    lookup (bytes_eq name) (xs ++ (text, a) ∷ []) ≡ option_or (lookup (bytes_eq name) xs) (cond (bytes_eq name text) (Some a) None)
found_last name [] text a = refl
found_last {A} name (x ∷ xs) text a =
    elim (bytes_eq name x.0) as (λ (test : Bool). cond test (Some x.1) (lookup (bytes_eq name) (xs ++ (text, a) ∷ []))
    ≡ option_or (cond test (Some x.1) (lookup (bytes_eq name) xs)) (cond (bytes_eq name text) (Some a) None)) [
      | true ↦ refl
      | false ↦ found_last name xs text a
    ]

-- two lists have the same names in order
abbrev pub SameTexts : {A B : Type 0} → List (List ℕ × A) → List (List ℕ × B) → Type 0
SameTexts [] [] = ⊤
SameTexts [] (y ∷ ys) = ⊥
SameTexts (x ∷ xs) [] = ⊥
SameTexts (x ∷ xs) (y ∷ ys) = (x.0 ≡ y.0) × SameTexts xs ys

pub texts_back : {A B : Type 0} (xs : List (List ℕ × A)) (ys : List (List ℕ × B)) → SameTexts xs ys → SameTexts ys xs
texts_back [] [] same = tt
texts_back [] (y ∷ ys) same = absurd same
texts_back (x ∷ xs) [] same = absurd same
texts_back (x ∷ xs) (y ∷ ys) same = (sym same.0, texts_back xs ys same.1)

pub texts_next : {A B : Type 0} (xs : List (List ℕ × A)) (ys : List (List ℕ × B)) (text : List ℕ) (a : A) (b : B) → SameTexts xs ys →
    SameTexts (xs ++ (text, a) ∷ []) (ys ++ (text, b) ∷ [])
texts_next [] [] text a b same = (refl, tt)
texts_next [] (y ∷ ys) text a b same = absurd same
texts_next (x ∷ xs) [] text a b same = absurd same
texts_next (x ∷ xs) (y ∷ ys) text a b same = (same.0, texts_next xs ys text a b same.1)

-- a name that the one doesn't have the other doesn't have either
pub absent_alike : {A B : Type 0} (name : List ℕ) (xs : List (List ℕ × A)) (ys : List (List ℕ × B)) → SameTexts xs ys →
    lookup (bytes_eq name) xs ≡ None → lookup (bytes_eq name) ys ≡ None
absent_alike name [] [] same none = refl
absent_alike name [] (y ∷ ys) same none = absurd same
absent_alike name (x ∷ xs) [] same none = absurd same
absent_alike {A} {B} name (x ∷ xs) (y ∷ ys) same none =
    subst (λ text. cond (bytes_eq name text) (Some y.1) (lookup (bytes_eq name) ys) ≡ None) same.0
    (elim (bytes_eq name x.0) as (λ test. cond test (Some x.1) (lookup (bytes_eq name) xs) ≡ None →
    cond test (Some y.1) (lookup (bytes_eq name) ys) ≡ None) [
      | true ↦ λ is. absurd (cc)
      | false ↦ λ is. absent_alike name xs ys same.1 is
    ] none)
