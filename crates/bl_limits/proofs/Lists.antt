-- The first of several failures, list by list.
use Rattle.std.proofs.Common.{◌≡◌, ℕ, ◌+◌, ◌-◌, ◌^◌, ◌<◌, cond, List, [], ◌∷◌, ◌++◌, map, ◌⊎◌, ⊎_elim, Option, Some, None, refl, sym}
use Rattle.std.proofs.Common.{ap, ◌∙◌, arith}
use Rattle.std.specs.Prelude.{nat_lt}
use Rattle.std.proofs.lemmas.Bool.Decides.{nat_tests}
use Rattle.bl_tree.specs.declared.place.Place.{Place}
use Rattle.bl_tree.specs.declared.rule.Failure.{Failure}
use Rattle.bl_tree.specs.declared.rule.Rule.{Rule}
use Rattle.bl_tree.specs.declared.tree.Unit.{Unit as UnitDef}
use Rattle.bl_tree.specs.Reduce.{joined}
use Rattle.bl_tree.specs.Rules.{first_of, lesser}
use Rattle.bl_limits_measures.specs.Saturated.{saturated}
use Rattle.bl_limits.specs.inner.Failures.{above, at_unit, failure_at, numbered}

pub first-append : (best : Option Failure) (xs ys : List Failure) → first_of best (xs ++ ys) ≡ first_of (first_of best xs) ys
first-append best [] ys = refl
first-append best (x ∷ xs) ys = first-append (lesser best x) xs ys

-- one more list of failures
pub first-next : {X : Type 0} (g : X → List Failure) (all rest : List X) (x : X) (best found : Option Failure) → all ≡ x ∷ rest →
    first_of best (joined (map g all)) ≡ found → first_of (first_of best (g x)) (joined (map g rest)) ≡ found
first-next g all rest x best found is h =
    sym (first-append best (g x) (joined (map g rest))) ∙ ap (λ l. first_of best (joined (map g l))) (sym is) ∙ h

-- ---- numbers with a limit that 64 bits hold

-- a number is above such a limit just where what 64 bits hold of it is
pub above-saturated : (limit n : ℕ) (failure : Failure) → limit < 2 ^ 64 - 1 → above limit (saturated n) failure ≡ above limit n failure
above-saturated limit n failure within = ap (λ test. cond test (failure ∷ []) []) same
  where
    same : nat_lt limit (saturated n) ≡ nat_lt limit n
    same = grind (arith, nat_tests)

pub unit-saturated : (rule : Rule) (limit n : ℕ) (found : Option UnitDef) → limit < 2 ^ 64 - 1 →
    at_unit rule limit (saturated n) found ≡ at_unit rule limit n found
unit-saturated rule limit n (Some unit) within = above-saturated limit n (failure_at rule unit.place) within
unit-saturated rule limit n None within = refl

module _ {A : Type 0} (rule : Rule) (limit : ℕ) (place : A → Place) where
  pub numbered-saturated : (xs : List A) (numbers : List ℕ) → limit < 2 ^ 64 - 1
      → numbered rule limit place xs (map saturated numbers) ≡ numbered rule limit place xs numbers
  numbered-saturated [] numbers within = refl
  numbered-saturated (x ∷ xs) [] within = refl
  numbered-saturated (x ∷ xs) (n ∷ numbers) within =
      ap (λ first. first ++ numbered rule limit place xs (map saturated numbers)) (above-saturated limit n (failure_at rule (place x)) within)
      ∙ ap (λ rest. above limit n (failure_at rule (place x)) ++ rest) (numbered-saturated xs numbers within)

  -- one more number
  pub numbered-next : (xs rest : List A) (numbers others : List ℕ) (x : A) (n : ℕ) (best found : Option Failure)
      → xs ≡ x ∷ rest → numbers ≡ n ∷ others → first_of best (numbered rule limit place xs numbers) ≡ found
      → first_of (first_of best (above limit n (failure_at rule (place x)))) (numbered rule limit place rest others) ≡ found
  numbered-next xs rest numbers others x n best found is_x is_n h =
      sym (first-append best (above limit n (failure_at rule (place x))) (numbered rule limit place rest others))
      ∙ sym (ap (λ l. first_of best (numbered rule limit place l numbers)) is_x
      ∙ ap (λ l. first_of best (numbered rule limit place (x ∷ rest) l)) is_n) ∙ h

  pub numbered-end : (xs : List A) (numbers : List ℕ) → (xs ≡ []) ⊎ (numbers ≡ []) → numbered rule limit place xs numbers ≡ []
  numbered-end [] numbers ends = refl
  numbered-end (x ∷ xs) [] ends = refl
  numbered-end (x ∷ xs) (n ∷ numbers) ends = absurd (⊎_elim (λ is. cc) (λ is. cc) ends)

pub ruleset firsts = first-append
