-- Stores in which an instance got a result: all values are as they were.
use Rattle.std.proofs.Common.{◌≡◌, ℕ, zero, suc, List, [], ◌∷◌, map, Option, Some, None, refl, sym, ap, ap₂, ◌∙◌}
use Rattle.std.specs.Prelude.{option_and_then, option_map, slice_get, slice_set, unwrap_or}
use Rattle.bl_tree.specs.declared.value.Value.{Value}
use Rattle.bl_tree.specs.declared.value.Value.TheVariants.{Parts}
use Rattle.bl_eval.specs.Values.{value_at}
use Rattle.bl_ctree.specs.Actions.{result_at, with_result}
use Rattle.bl_ctree.specs.Instances.{Setting}
use Rattle.bl_ctree.specs.Store.{Frame, Location, Store, home, value_among, variables_of, view_at, whole_of, with_frame}
use Rattle.bl_machine_pass_laws_typing.proofs.OnSeen.Values.{set_got}

-- ---- one element of a list is set

set_alike : {A B : Type 0} (f : A → Option B) (xs : List A) (k j : ℕ) (old new : A) → slice_get xs k ≡ Some old → f new ≡ f old →
    option_and_then f (slice_get (slice_set xs k new) j) ≡ option_and_then f (slice_get xs j)
set_alike f [] k j old new h same = absurd (cc)
set_alike f (x ∷ xs) zero zero old new h same = same ∙ ap (option_and_then f) (sym h)
set_alike f (x ∷ xs) zero (suc j) old new h same = refl
set_alike f (x ∷ xs) (suc k) zero old new h same = refl
set_alike f (x ∷ xs) (suc k) (suc j) old new h same = set_alike f xs k j old new h same

-- ---- stores

abbrev pub now_of : Frame → List Value
now_of frame = frame.now

value_same : (i : ℕ) (value : Value) (store : Store) (at : Location) →
    value_among now_of (with_frame i (with_result value) store) at ≡ value_among now_of store at
value_same i value store at = by (slice_get store i) refl
  where
    read : Frame → Option Value
    read frame = option_and_then (value_at at.path.fields) (slice_get frame.now at.path.root)

    by : (o : Option Frame) → slice_get store i ≡ o →
        option_and_then read (slice_get (unwrap_or (option_map (λ frame. slice_set store i (with_result value frame)) o) store) at.instance)
        ≡ option_and_then read (slice_get store at.instance)
    by None is = refl
    by (Some frame) is = set_alike read store i at.instance frame (with_result value frame) is refl

map_alike : {A B : Type 0} (f g : A → B) (xs : List A) → ((x : A) → f x ≡ g x) → map f xs ≡ map g xs
map_alike f g [] same = refl
map_alike f g (x ∷ xs) same = ap₂ (λ y ys. y ∷ ys) (same x) (map_alike f g xs same)

-- what instances see is as it was
pub view_same : (w : Setting) (i k : ℕ) (value : Value) (store : Store) →
    (view_at w (with_frame i (with_result value) store) k).now ≡ (view_at w store k).now
view_same w i k value store =
    map_alike _ _ (variables_of w k) (λ x. ap (λ o. unwrap_or o (Parts [])) (value_same i value store (home w (whole_of k x))))

-- and the instance has the result
pub result_own : (i : ℕ) (value : Value) (store : Store) (frame : Frame) → slice_get store i ≡ Some frame →
    result_at (with_frame i (with_result value) store) i ≡ Some value
result_own i value store frame is =
    ap (λ o. option_and_then (λ (frame : Frame). frame.result)
    (slice_get (unwrap_or (option_map (λ frame. slice_set store i (with_result value frame)) o) store) i)) is
    ∙ ap (option_and_then (λ (frame : Frame). frame.result)) (set_got store i frame (with_result value frame) is)
