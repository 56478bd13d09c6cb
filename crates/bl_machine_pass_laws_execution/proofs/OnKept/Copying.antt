-- Inputs are copied to one frame.
use Rattle.std.proofs.Common.{◌≡◌, ℕ, zero, suc, Bool, List, [], ◌∷◌, Option, Some, None, refl, sym, ap, ◌∙◌, subst}
use Rattle.std.specs.Prelude.{option_and_then, option_map, slice_get, slice_set, unwrap_or}
use Rattle.bl_tree.proofs.Basics.{same_some}
use Rattle.bl_tree.specs.declared.place.Place.{Place}
use Rattle.bl_tree.specs.declared.tree.Expr.{Expr}
use Rattle.bl_tree.specs.declared.value.Value.{Value}
use Rattle.bl_ctree.specs.Actions.{Copies, Performed, done, values_there}
use Rattle.bl_ctree.specs.Instances.{Setting}
use Rattle.bl_ctree.specs.Store.{Frame, Store, with_frame, with_inputs}
use Rattle.bl_ctree_laws.specs.Pending.{deed}
use Rattle.bl_ctree_laws_confluence.specs.Stores.{before_of}
use Rattle.bl_machine_laws.specs.Passes.Follows.{DeedYields}
use Rattle.bl_machine_pass_laws_execution.specs.Kept.Laws.{InputsGoIn}
use Rattle.bl_machine_pass_laws_execution.proofs.OnFresh.Doing.{found}
use Rattle.bl_machine_pass_laws_execution.proofs.OnFresh.Lists.{get_other}

-- a test of one element sees no change of what it doesn't look at
seen_same : {A B : Type 0} (q : A → B) (xs : List A) (k j : ℕ) (old new : A) → slice_get xs k ≡ Some old → q new ≡ q old →
    option_map q (slice_get (slice_set xs k new) j) ≡ option_map q (slice_get xs j)
seen_same q [] k j old new there same = refl
seen_same q (x ∷ xs) zero zero old new there same = ap Some (same ∙ ap q (sym (same_some x old there)))
seen_same q (x ∷ xs) zero (suc j) old new there same = refl
seen_same q (x ∷ xs) (suc k) zero old new there same = refl
seen_same q (x ∷ xs) (suc k) (suc j) old new there same = seen_same q xs k j old new there same

frame_other : (k x : ℕ) (change : Frame → Frame) (store : Store) → (x ≡ k → ⊥) →
    slice_get (with_frame k change store) x ≡ slice_get store x
frame_other k x change store other = by_frame (slice_get store k)
  where
    by_frame : (o : Option Frame) →
        slice_get (unwrap_or (option_map (λ frame. slice_set store k (change frame)) o) store) x ≡ slice_get store x
    by_frame None = refl
    by_frame (Some frame) = get_other store k x (change frame) other

frame_seen : {B : Type 0} (q : Frame → B) (k x : ℕ) (change : Frame → Frame) (store : Store) →
    ((frame : Frame) → q (change frame) ≡ q frame) →
    option_map q (slice_get (with_frame k change store) x) ≡ option_map q (slice_get store x)
frame_seen q k x change store same = by_frame (slice_get store k) refl
  where
    by_frame : (o : Option Frame) → slice_get store k ≡ o →
        option_map q (slice_get (unwrap_or (option_map (λ frame. slice_set store k (change frame)) o) store) x) ≡ option_map q (slice_get store x)
    by_frame None there = refl
    by_frame (Some frame) there = seen_same q store k x frame (change frame) there (same frame)

abbrev result_of : Frame → Option Value
result_of frame = frame.result

then_mapped : (o : Option Frame) → option_and_then (λ frame. frame.result) o ≡ option_and_then (λ result. result) (option_map result_of o)
then_mapped None = refl
then_mapped (Some frame) = refl

module _ (w : Setting) (i callee x : ℕ) (place : Place) (inputs : List Expr) (store : Store) (d : Bool) (given : Store)
    (copied : DeedYields w (deed i place (Copies callee inputs)) store d given) where
  abbrev answered : Performed
  answered = record { answer = d; store = given }

  is_given : (P : Store → Type 0) → ((values : List Value) → P (with_frame callee (with_inputs values) store)) → P given
  is_given P each =
      let p = found (λ values. done (with_frame callee (with_inputs values) store)) (values_there w store i inputs) answered copied in
      subst P (ap (λ p. p.store) p.2) (each p.0)

  others : (x ≡ callee → ⊥) → slice_get given x ≡ slice_get store x
  others other = is_given (λ s. slice_get s x ≡ slice_get store x) (λ values. frame_other callee x (with_inputs values) store other)

  before : option_map before_of (slice_get given x) ≡ option_map before_of (slice_get store x)
  before = is_given (λ s. option_map before_of (slice_get s x) ≡ option_map before_of (slice_get store x))
      (λ values. frame_seen before_of callee x (with_inputs values) store (λ frame. refl))

  results : option_and_then (λ frame. frame.result) (slice_get given x) ≡ option_and_then (λ frame. frame.result) (slice_get store x)
  results =
      then_mapped (slice_get given x)
      ∙ ap (option_and_then (λ result. result))
      (is_given (λ s. option_map result_of (slice_get s x) ≡ option_map result_of (slice_get store x))
      (λ values. frame_seen result_of callee x (with_inputs values) store (λ frame. refl)))
      ∙ sym (then_mapped (slice_get store x))

pub inputs_go_in : InputsGoIn
inputs_go_in = record { others = others; before = before; results = results }
