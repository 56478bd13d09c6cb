-- The plant of a name, where it stands in a list.
use Rattle.std.proofs.Common.{◌≡◌, ℕ, suc, ◌+◌, ◌<◌, Bool, true, false, cond, List, [], ◌∷◌, ◌++◌, length, map}
use Rattle.std.proofs.Common.{set, drop, Some, None, Result, Ok, Err, nat_eq, refl, ap, sym, ◌∙◌, arith, length-append}
use Rattle.std.specs.List.{list_any, position_from, remove, slice_get}
use Rattle.std.proofs.Math.Seq.{set-append_seam, take-append_seam}
use Rattle.std.proofs.lemmas.Bool.{eq-eqb}
use Rattle.std.proofs.lemmas.List.{length-map, length-set}
use Rattle.std.specs.Result.{IsErrAnd}
use Rattle.bl_tree.proofs.Basics.{get_seam, neither_first, neither_second, same_some}
use Rattle.bl_plant.specs.Plants.{PlantView}
use Rattle.bl_plant_drive.specs.declared.fault.DriveFault.{DriveFault}
use Rattle.bl_plant_drive.specs.declared.fault.DriveFault.TheVariants as fault
use Rattle.bl_plant_drive.specs.inner.Stands.{IsAround, IsThere}

found : {A : Type 0} (t : A → Bool) (before : List A) (p : A) (after : List A) (i : ℕ) → list_any t before ≡ false → t p ≡ true →
    position_from t i (before ++ p ∷ after) ≡ Some (i + length before)
found t [] p after i none passes = ap (λ b. cond b (Some i) (position_from t (i + 1) after)) passes ∙ ap Some (omega arith)
found t (x ∷ before) p after i none passes =
    ap (λ b. cond b (Some i) (position_from t (i + 1) (before ++ p ∷ after))) (neither_first (t x) (list_any t before) none)
    ∙ found t before p after (i + 1) (neither_second (t x) (list_any t before) none) passes ∙ ap Some (omega arith)

-- where the plant is found
pub at-place : (plants : List PlantView) (n : ℕ) (before : List PlantView) (p : PlantView) (after : List PlantView) (at : ℕ) → IsAround plants n before p after →
    Some at ≡ position_from (λ (q : PlantView). nat_eq q.name n) 0 plants → at ≡ length before
at-place plants n before p after at around is =
    let e = same_some at (0 + length before)
    (is ∙ ap (position_from (λ (q : PlantView). nat_eq q.name n) 0) around.list
    ∙ found (λ (q : PlantView). nat_eq q.name n) before p after 0 around.none (eq-eqb p.name n around.name)) in
    omega (arith, e)

-- it is found
pub is-found : (plants : List PlantView) (n : ℕ) → IsThere plants n → None ≡ position_from (λ (q : PlantView). nat_eq q.name n) 0 plants → ⊥
is-found plants n there is =
    let e = is ∙ ap (position_from (λ (q : PlantView). nat_eq q.name n) 0) there.around.list
    ∙ found (λ (q : PlantView). nat_eq q.name n) there.before there.plant there.after 0 there.around.none
    (eq-eqb there.plant.name n there.around.name) in
    no-some (0 + length there.before) e
  where
    no-some : (x : ℕ) → None ≡ Some x → ⊥
    no-some x e = cc

-- within the list
pub place-within : {A : Type 0} (f : A → PlantView) (xs : List A) (n at : ℕ) → IsThere (map f xs) n →
    Some at ≡ position_from (λ (q : PlantView). nat_eq q.name n) 0 (map f xs) → at < length xs
place-within f xs n at there is =
    let e = at-place (map f xs) n there.before there.plant there.after at there.around is in
    let whole = sym (length-map xs f) ∙ ap length there.around.list ∙ length-append there.before (there.plant ∷ there.after) in
    within (length there.after) (length xs) at (length there.before) e whole
  where
    within : (more whole at before : ℕ) → at ≡ before → whole ≡ before + suc more → at < whole
    within more whole at before e long = omega (arith, e, long)

pub get-around : (plants : List PlantView) (n : ℕ) (before : List PlantView) (p : PlantView) (after : List PlantView) (at : ℕ) → IsAround plants n before p after →
    at ≡ length before → slice_get plants at ≡ Some p
get-around plants n before p after at around is = ap (slice_get plants) is ∙ ap (λ z. slice_get z (length before)) around.list ∙ get_seam before p after

pub set-around : (plants now : List PlantView) (n : ℕ) (before : List PlantView) (p q : PlantView) (after : List PlantView) (at : ℕ) →
    IsAround plants n before p after → at ≡ length before → now ≡ set plants at q → now ≡ before ++ q ∷ after
set-around plants now n before p q after at around is changed =
    changed ∙ ap (λ i. set plants i q) is ∙ ap (λ z. set z (length before) q) around.list ∙ set-append_seam before p after q

drop-seam : {A : Type 0} (before : List A) (p : A) (after : List A) → drop (suc (length before)) (before ++ p ∷ after) ≡ after
drop-seam [] p after = refl
drop-seam (x ∷ before) p after = drop-seam before p after

pub remove-around : (before : List PlantView) (p : PlantView) (after now : List PlantView) (at : ℕ) → at ≡ length before → now
    ≡ remove (before ++ p ∷ after) at →
    now ≡ before ++ after
remove-around before p after now at is gone =
    gone ∙ ap (remove (before ++ p ∷ after)) is ∙ ap (λ z. z ++ drop (suc (length before)) (before ++ p ∷ after))
    (take-append_seam before (p ∷ after))
    ∙ ap (λ z. before ++ z) (drop-seam before p after)

pub kept-within : {A : Type 0} (f : A → PlantView) (xs ys : List A) (at : ℕ) (q : PlantView) → at < length xs → map f ys ≡ set (map f xs) at q →
    at < length ys
kept-within f xs ys at q low is =
    let same : length ys ≡ length xs = sym (length-map ys f) ∙ ap length is ∙ length-set (map f xs) at q ∙ length-map xs f in
    omega (arith, low, same)

-- want of memory that is passed on
pub err-short : (r : Result (Unit {0}) DriveFault) → IsErrAnd r (λ e. e ≡ fault.NoMemory) → r ≡ Err fault.NoMemory
err-short (Ok u) e = absurd e
err-short (Err x) e = ap Err e
