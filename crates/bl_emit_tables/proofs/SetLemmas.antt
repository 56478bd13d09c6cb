-- Tests that are set by their positions.
use Rattle.std.proofs.Common.{◌≡◌, ◌<◌, ◌≤◌, ℕ, zero, suc, ◌+◌, Bool, true, false, ◌||◌, List, [], ◌∷◌, ◌++◌}
use Rattle.std.proofs.Common.{drop, slice_index, length, map, refl, sym, ap, ap₂, ◌∙◌, arith, slice_set}
use Rattle.std.proofs.lemmas.Grind.{common_steps}
use Rattle.std.proofs.lemmas.Bool.{eq-eqb}
use Rattle.std.proofs.lemmas.List.{length-map, map-append}
use Rattle.std.proofs.lemmas.List.Folds.{list_any-append}
use Rattle.std.specs.List.{list_any}
use Rattle.std.specs.Prelude.{nat_eq}
use Rattle.bl_tree.proofs.Basics.{numbers_differ, or_assoc, or_false, or_true}
use Rattle.bl_tree.specs.declared.tree.Unit.{Unit as UnitDef}
use Rattle.bl_machine.specs.Blocks.{up_to}
use Rattle.bl_machine_prevs.specs.Prevs.{prevs_of}
use Rattle.bl_emit_spec.specs.Activities.{copies_of}
use Rattle.bl_emit_spec.specs.Programs.{set_from}

-- ---- numbers

-- ---- setting

pub set_none : (k : ℕ) (tests : List Bool) → set_from [] k tests ≡ tests
set_none k [] = refl
set_none k (test ∷ rest) = ap₂ ◌∷◌ (or_false test) (set_none (suc k) rest)

pub set_then : (first more : List ℕ) (k : ℕ) (tests : List Bool) → set_from more k (set_from first k tests) ≡ set_from (first ++ more) k tests
set_then first more k [] = refl
set_then first more k (test ∷ rest) =
    ap₂ ◌∷◌ (or_assoc test (list_any (nat_eq k) first) (list_any (nat_eq k) more)
    ∙ ap (λ b. test || b) (sym (list_any-append (nat_eq k) first more)))
    (set_then first more (suc k) rest)

missed_test : (test : Bool) (k p : ℕ) → (k ≡ p → ⊥) → (test || list_any (nat_eq k) (p ∷ [])) ≡ test
missed_test test k p ne = ap (λ b. test || (b || false)) (numbers_differ k p ne) ∙ or_false test

set_below : (p k : ℕ) (tests : List Bool) → p < k → set_from (p ∷ []) k tests ≡ tests
set_below p k [] less = refl
set_below p k (test ∷ rest) less =
    ap₂ ◌∷◌ (missed_test test k p (λ same. omega (arith, less, same))) (set_below p (suc k) rest (omega (arith, less)))

set_past : (p k : ℕ) (tests : List Bool) → k + length tests ≤ p → set_from (p ∷ []) k tests ≡ tests
set_past p k [] past = refl
set_past p k (test ∷ rest) past =
    ap₂ ◌∷◌ (missed_test test k p (λ same. omega (arith, past, same))) (set_past p (suc k) rest (omega (arith, past)))

set_at : (p k i : ℕ) (tests : List Bool) → p ≡ k + i → i < length tests → set_from (p ∷ []) k tests ≡ slice_set tests i true
set_at p k i [] is within = absurd (omega (arith, within))
set_at p k zero (test ∷ rest) is within =
    let hit : nat_eq k p ≡ true = eq-eqb k p (omega (arith, is)) in
    ap₂ ◌∷◌ (ap (λ b. test || (b || false)) hit ∙ or_true test) (set_below p (suc k) rest (omega (arith, is)))
set_at p k (suc i) (test ∷ rest) is within =
    ap₂ ◌∷◌ (missed_test test k p (λ same. omega (arith, is, same))) (set_at p (suc k) i rest (omega (arith, is)) (omega (arith, within)))

-- one position, where there is a test, and where there is none
pub set_hit : (p : ℕ) (tests : List Bool) → p < length tests → slice_set tests p true ≡ set_from (p ∷ []) 0 tests
set_hit p tests within = sym (set_at p 0 p tests (omega arith) within)

pub set_missed : (p : ℕ) (tests : List Bool) → length tests ≤ p → tests ≡ set_from (p ∷ []) 0 tests
set_missed p tests past = sym (set_past p 0 tests (omega (arith, past)))

-- ---- a loop over positions

drop_at : (ps : List ℕ) (i : ℕ) → i < length ps → drop i ps ≡ slice_index ps i ∷ drop (i + 1) ps
drop_at ps i within = grind (arith, common_steps, within)

pub set_step : (ps : List ℕ) (i : ℕ) (tests next whole : List Bool) → i < length ps → next ≡ set_from (slice_index ps i ∷ []) 0 tests →
    set_from (drop i ps) 0 tests ≡ whole → set_from (drop (i + 1) ps) 0 next ≡ whole
set_step ps i tests next whole within is so =
    ap (set_from (drop (i + 1) ps) 0) is
    ∙ (set_then (slice_index ps i ∷ []) (drop (i + 1) ps) 0 tests
    ∙ (ap (λ (ps : List ℕ). set_from ps 0 tests) (sym (drop_at ps i within)) ∙ so))

pub set_end : (ps : List ℕ) (i : ℕ) (tests whole : List Bool) → length ps ≤ i → set_from (drop i ps) 0 tests ≡ whole → tests ≡ whole
set_end ps i tests whole past so =
    let none : drop i ps ≡ [] = grind (arith, common_steps, past) in
    sym (set_none 0 tests) ∙ (ap (λ (ps : List ℕ). set_from ps 0 tests) (sym none) ∙ so)

-- ---- all positions

set_append : (ps : List ℕ) (k : ℕ) (tests : List Bool) (last : Bool) →
    set_from ps k (tests ++ last ∷ []) ≡ set_from ps k tests ++ (last || list_any (nat_eq (k + length tests)) ps) ∷ []
set_append ps k [] last =
    let at : k + 0 ≡ k = omega arith in ap (λ j. (last || list_any (nat_eq j) ps) ∷ []) (sym at)
set_append ps k (test ∷ rest) last =
    let at : suc k + length rest ≡ k + suc (length rest) = omega arith in
    ap (λ more. (test || list_any (nat_eq k) ps) ∷ more)
    (set_append ps (suc k) rest last ∙ ap (λ j. set_from ps (suc k) rest ++ (last || list_any (nat_eq j) ps) ∷ []) at)

pub length_up_to : (n : ℕ) → length (up_to n) ≡ n
length_up_to zero = refl
length_up_to (suc n) = grind (arith, common_steps, length_up_to n)

pub set_all_of : (f : ℕ → Bool) (ps : List ℕ) (n : ℕ) →
    set_from ps 0 (map f (up_to n)) ≡ map (λ k. f k || list_any (nat_eq k) ps) (up_to n)
set_all_of f ps zero = refl
set_all_of f ps (suc n) =
    let many : 0 + length (map f (up_to n)) ≡ n = grind (arith, length-map (up_to n) f, length_up_to n) in
    ap (set_from ps 0) (map-append f (up_to n) (n ∷ []))
    ∙ (set_append ps 0 (map f (up_to n)) (f n)
    ∙ (ap₂ (λ (front : List Bool) (j : ℕ). front ++ (f n || list_any (nat_eq j) ps) ∷ []) (set_all_of f ps n) many
    ∙ sym (map-append (λ k. f k || list_any (nat_eq k) ps) (up_to n) (n ∷ []))))

-- ---- copies

pub copies_are : (unit : UnitDef) (ps : List ℕ) (tests : List Bool) → ps ≡ prevs_of unit →
    tests ≡ map (λ k. false) (up_to (length unit.vars)) → set_from ps 0 tests ≡ copies_of unit
copies_are unit ps tests is none =
    ap₂ (λ (ps : List ℕ) (tests : List Bool). set_from ps 0 tests) is none ∙ set_all_of (λ k. false) (prevs_of unit) (length unit.vars)
