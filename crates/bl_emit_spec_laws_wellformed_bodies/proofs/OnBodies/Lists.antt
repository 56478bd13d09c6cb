-- What stands in lists, and what is found by names that differ.
use Rattle.std.proofs.Common.{◌≡◌, ℕ, zero, suc, ◌<◌, ◌≤◌, Bool, true, false, not, List, [], ◌∷◌, ◌++◌, map, Some, refl, sym}
use Rattle.std.proofs.Common.{◌∙◌, subst, arith, ⊎_elim}
use Rattle.std.proofs.lemmas.Bool.{cases_lt}
use Rattle.std.proofs.lemmas.List.Elements.{Contains-append_left, Contains-append_right, Contains-push}
use Rattle.std.specs.Prelude.{Contains, bytes_eq, if◌then◌else◌}
use Rattle.std.proofs.lemmas.Bool.{or_left, or_right}
use Rattle.bl_tree.proofs.Basics.{and_first, and_second}
use Rattle.bl_tree.specs.declared.text.Text.{Text}
use Rattle.bl_tree.specs.Reduce.{joined}
use Rattle.bl_tree.specs.Words.{are_distinct, is_among}
use Rattle.bl_ctext_semantics.specs.Tables.{found}
use Rattle.bl_machine.specs.Blocks.{up_to}
use Rattle.bl_emit_functions_laws_wellformed.proofs.OnFormed.Lookups.{found_here, found_next}
use Rattle.bl_emit_functions_laws_wellformed.proofs.OnFormed.Lookups.{itself}

-- ---- what stands in a list

-- a number below another
pub up-has : (n k : ℕ) → k < n → Contains (up_to n) k
up-has zero k less = absurd (omega (arith, less))
up-has (suc n) k less =
    ⊎_elim (λ (low : k < n). Contains-append_left (up_to n) (n ∷ []) k (up-has n k low))
    (λ (high : n ≤ k). let same : n ≡ k = omega (arith, high, less) in subst (λ m. Contains (up_to n ++ n ∷ []) m) same (Contains-push (up_to n) n))
    (cases_lt k n)

pub joined-has : {A B : Type 0} (make : A → List B) (xs : List A) (x : A) (y : B) → Contains xs x → Contains (make x) y →
    Contains (joined (map make xs)) y
joined-has make [] x y (k, below, is) has = absurd (omega (arith, below))
joined-has make (z ∷ xs) x y (zero, below, is) has =
    Contains-append_left (make z) (joined (map make xs)) y (subst (λ z. Contains (make z) y) (sym is) has)
joined-has make (z ∷ xs) x y (suc k, below, is) has =
    Contains-append_right (make z) (joined (map make xs)) y (joined-has make xs x y (k, omega (arith, below), is) has)

-- ---- what is found

abbrev pub names_of_entries : {A : Type 0} → List (Text × A) → List Text
names_of_entries entries = map (λ entry. entry.0) entries

among : {A : Type 0} (x : Text) (entries : List (Text × A)) (e : Text × A) → Contains entries e → bytes_eq x e.0 ≡ true →
    is_among x (names_of_entries entries) ≡ true
among x [] e (k, below, is) same = absurd (omega (arith, below))
among {A = A} x (f ∷ rest) e (zero, below, is) same =
    or_left (bytes_eq x f.0) (is_among x (names_of_entries rest)) (subst (λ (e : Text × A). bytes_eq x e.0 ≡ true) (sym is) same)
among x (f ∷ rest) e (suc k, below, is) same =
    or_right (bytes_eq x f.0) (is_among x (names_of_entries rest)) (among x rest e (k, omega (arith, below), is) same)

-- where no two entries have one name each is found
pub found-one : {A : Type 0} (entries : List (Text × A)) (e : Text × A) → are_distinct (names_of_entries entries) ≡ true → Contains entries e →
    found e.0 entries ≡ Some e.1
found-one [] e differ (k, below, is) = absurd (omega (arith, below))
found-one {A = A} (f ∷ rest) e differ (zero, below, is) =
    subst (λ (e : Text × A). found e.0 (f ∷ rest) ≡ Some e.1) is (found_here f.0 f rest (itself f.0))
found-one {A = A} (f ∷ rest) e differ (suc k, below, is) =
    found_next e.0 f rest (other (bytes_eq f.0 e.0) refl)
    ∙ found-one rest e (and_second (not (is_among f.0 (names_of_entries rest))) (are_distinct (names_of_entries rest)) differ)
    (k, omega (arith, below), is)
  where
    neither : (b : Bool) → not b ≡ true → b ≡ true → ⊥
    neither true one other = absurd (cc)
    neither false one other = absurd (cc)

    other : (b : Bool) → bytes_eq f.0 e.0 ≡ b → b ≡ false
    other false same = refl
    other true same =
        absurd (neither (is_among f.0 (names_of_entries rest))
        (and_first (not (is_among f.0 (names_of_entries rest))) (are_distinct (names_of_entries rest)) differ)
        (among f.0 rest e (k, omega (arith, below), is) same))
