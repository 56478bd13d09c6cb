-- Lists: where their elements come from, and which names are known.
use Rattle.std.proofs.Common.{◌≡◌, ◌⊎◌, ⊎_elim, ℕ, zero, suc, ◌<◌, arith, Bool, true, false}
use Rattle.std.proofs.Common.{◌||◌, List, [], ◌∷◌, ◌++◌, Contains, map, take, length, Some, refl, ◌∙◌}
use Rattle.std.proofs.lemmas.List.Elements.{Contains-append_cases}
use Rattle.std.proofs.lemmas.List.Folds.{list_any-append}
use Rattle.std.specs.List.{list_all, list_any}
use Rattle.std.specs.Prelude.{bytes_eq, slice_get}
use Rattle.std.proofs.lemmas.Bool.{and_from}
use Rattle.bl_tree.proofs.Basics.{contains_further, contains_none, first_or_further}
use Rattle.bl_tree.specs.declared.c.CMember.{CMember}
use Rattle.bl_tree.specs.declared.c.CType.{CType}
use Rattle.bl_tree.specs.declared.c.CType.TheVariants.{Scalar as OfScalar, Struct as OfStruct}
use Rattle.bl_tree.specs.declared.text.Text.{Text}
use Rattle.bl_tree.specs.Reduce.{joined}
use Rattle.bl_emit_structs_laws_wellformed.specs.Names.{is_known}

-- ---- elements

pub from_map : {X Y : Type 0} (f : X → Y) (xs : List X) (y : Y) → Contains (map f xs) y → (x : X) × Contains xs x × (f x ≡ y)
from_map f [] y has = absurd (contains_none y has)
from_map f (x ∷ xs) y has =
    ⊎_elim (λ is. (x, (0, omega arith, refl), is))
    (λ behind. let found = from_map f xs y behind in (found.0, contains_further x xs found.0 found.1, found.2)) (first_or_further (f x) (map f xs) y has)

pub from_joined : {X Y : Type 0} (f : X → List Y) (xs : List X) (y : Y) → Contains (joined (map f xs)) y → (x : X) × Contains xs x × Contains (f x) y
from_joined f [] y has = absurd (contains_none y has)
from_joined f (x ∷ xs) y has =
    ⊎_elim (λ own. (x, (0, omega arith, refl), own))
    (λ behind. let found = from_joined f xs y behind in (found.0, contains_further x xs found.0 found.1, found.2))
    (Contains-append_cases (f x) (joined (map f xs)) y has)

-- ---- positions

pub get_front : {X : Type 0} (xs : List X) (y : X) (j : ℕ) → j < length xs → slice_get (xs ++ y ∷ []) j ≡ slice_get xs j
get_front [] y j less = absurd (omega (arith, less))
get_front (x ∷ xs) y zero less = refl
get_front (x ∷ xs) y (suc j) less = get_front xs y j (omega (arith, less))

pub get_taken : {X : Type 0} (n : ℕ) (xs : List X) (k : ℕ) (x : X) → slice_get (take n xs) k ≡ Some x → (slice_get xs k ≡ Some x) × (k < n)
get_taken zero xs k x there = absurd (cc)
get_taken (suc n) [] k x there = absurd (cc)
get_taken (suc n) (y ∷ xs) zero x there = (there, omega arith)
get_taken (suc n) (y ∷ xs) (suc k) x there =
    let found = get_taken n xs k x there in let less : k < n = found.1 in (found.0, omega (arith, less))

-- ---- names that are known

pub any_first : (test : Text → Bool) (xs ys : List Text) → list_any test xs ≡ true → list_any test (xs ++ ys) ≡ true
any_first test xs ys h = list_any-append test xs ys ∙ by (list_any test xs) (list_any test ys) h
  where
    by : (a b : Bool) → a ≡ true → (a || b) ≡ true
    by true b h = refl
    by false b h = absurd (cc)

pub any_second : (test : Text → Bool) (xs ys : List Text) → list_any test ys ≡ true → list_any test (xs ++ ys) ≡ true
any_second test xs ys h = list_any-append test xs ys ∙ by (list_any test xs) (list_any test ys) h
  where
    by : (a b : Bool) → b ≡ true → (a || b) ≡ true
    by true b h = refl
    by false b h = h

pub known_more : (names more : List Text) (ty : CType) → is_known names ty ≡ true → is_known (names ++ more) ty ≡ true
known_more names more (OfScalar s) h = refl
known_more names more (OfStruct name) h = any_first (bytes_eq name) names more h

pub list_known : (names : List Text) (members : List CMember) → ((m : CMember) → Contains members m → is_known names m.ty ≡ true) →
    list_all (λ (m : CMember). is_known names m.ty) members ≡ true
list_known names [] each = refl
list_known names (m ∷ members) each =
    and_from (is_known names m.ty) (list_all (λ (m : CMember). is_known names m.ty) members) (each m (0, omega arith, refl))
    (list_known names members (λ x has. each x (suc has.0, (let lt = has.1 in omega arith), has.2)))
