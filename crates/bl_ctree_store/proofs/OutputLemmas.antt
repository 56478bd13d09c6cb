-- The row of the entry's outputs, number by number.
use Rattle.std.proofs.Common.{◌≡◌, ℕ, zero, suc, ◌+◌, ◌<◌, ◌≤◌, ℤ, pos, List, [], ◌∷◌, ◌++◌, length, take, drop, Option, Some, None, refl, sym, ap, ◌∙◌}
use Rattle.std.proofs.Common.{arith, append-nil}
use Rattle.std.specs.Prelude.{option_and_then, option_map, slice_get, slice_set, unwrap_or}
use Rattle.std.proofs.lemmas.Option.{get_or_from_slice_get, slice_get-map}
use Rattle.bl_tree.proofs.Basics.{map_length}
use Rattle.bl_tree.specs.declared.tree.Unit.{Unit as UnitDef}
use Rattle.bl_tree.specs.declared.value.Value.{Value}
use Rattle.bl_ctree.specs.Store.{Frame, number_or_zero, outputs_of_frame}
use Rattle.bl_ctree_store.proofs.FillLemmas.{fill_step}

get_take : (n : ℕ) (xs : List Value) (k : ℕ) → k < length (take n xs) → slice_get (take n xs) k ≡ slice_get xs k
get_take zero [] k below = absurd (omega arith)
get_take zero (x ∷ xs) k below = absurd (omega arith)
get_take (suc n) [] k below = absurd (omega arith)
get_take (suc n) (x ∷ xs) zero below = refl
get_take (suc n) (x ∷ xs) (suc k) below = get_take n xs k (omega arith)

get_drop : (n : ℕ) (xs : List Value) (k : ℕ) → slice_get (drop n xs) k ≡ slice_get xs (n + k)
get_drop zero [] k = refl
get_drop zero (x ∷ xs) k = let same : 0 + k ≡ k = omega arith in ap (slice_get (x ∷ xs)) (sym same)
get_drop (suc n) [] k = refl
get_drop (suc n) (x ∷ xs) k = get_drop n xs k ∙ (let same : suc n + k ≡ suc (n + k) = omega arith in ap (slice_get (x ∷ xs)) (sym same))

abbrev pub shown : Option Value → ℤ
shown found = unwrap_or (option_map number_or_zero found) (pos 0)

abbrev row : Option UnitDef → Option Frame → List ℤ
row unit frame = unwrap_or (option_and_then (λ unit. option_map (outputs_of_frame unit) frame) unit) []

abbrev inputs_of : Option UnitDef → ℕ
inputs_of unit = unwrap_or (option_map (λ (unit : UnitDef). unit.inputs) unit) 0

shown_at : (xs : List Value) (k : ℕ) → k < length xs → option_map number_or_zero (slice_get xs k) ≡ Some (shown (slice_get xs k))
shown_at [] k below = absurd (omega arith)
shown_at (x ∷ xs) zero below = refl
shown_at (x ∷ xs) (suc k) below = shown_at xs k (omega arith)

-- each number of the row
pub output_is : (unit : Option UnitDef) (frame : Option Frame) (k : ℕ) → k < length (row unit frame)
    → slice_get (row unit frame) k ≡ Some (shown (option_and_then (λ (frame : Frame). slice_get frame.now (inputs_of unit + k)) frame))
output_is None frame k below = absurd (omega arith)
output_is (Some unit) None k below = absurd (omega arith)
output_is (Some unit) (Some frame) k below =
    let kept = take unit.outputs (drop unit.inputs frame.now) in
    let within : k < length kept = omega (arith, map_length number_or_zero kept) in
    slice_get-map number_or_zero kept k
    ∙ shown_at kept k within
    ∙ ap (λ found. Some (shown found)) (get_take unit.outputs (drop unit.inputs frame.now) k within ∙ get_drop unit.inputs frame.now k)

-- one more number is in its place
pub row_next : (row first before after : List ℤ) (k : ℕ) (n : ℤ) → before ≡ take k row ++ drop k first → length first ≡ length row →
    k < length first
    → slice_get row k ≡ Some n → after ≡ slice_set before k n → after ≡ take (k + 1) row ++ drop (k + 1) first
row_next row first before after k n is long within here is_after =
    let below : k < length row = omega arith in
    let fits : length row ≤ length first = omega arith in
    let more : k + 1 ≡ suc k = omega arith in
    is_after ∙ ap (λ xs. slice_set xs k n) is ∙ fill_step row first k n n below fits (sym (get_or_from_slice_get row k n n here))
    ∙ ap (λ m. take m row ++ drop m first) (sym more)

pub row_full : (row first made : List ℤ) (k : ℕ) → made ≡ take k row ++ drop k first → length first ≡ length row → length row ≤ k →
    made ≡ row
row_full row first made k is long over =
    let past : length first ≤ k = omega arith in
    is ∙ ap (λ xs. xs ++ drop k first) (take_all row k over) ∙ ap (λ xs. row ++ xs) (drop_all first k past) ∙ append-nil row
  where
    take_all : (xs : List ℤ) (n : ℕ) → length xs ≤ n → take n xs ≡ xs
    take_all [] zero over = refl
    take_all [] (suc n) over = refl
    take_all (x ∷ xs) zero over = absurd (omega arith)
    take_all (x ∷ xs) (suc n) over = ap (λ rest. x ∷ rest) (take_all xs n (omega arith))

    drop_all : (xs : List ℤ) (n : ℕ) → length xs ≤ n → drop n xs ≡ []
    drop_all [] zero over = refl
    drop_all [] (suc n) over = refl
    drop_all (x ∷ xs) zero over = absurd (omega arith)
    drop_all (x ∷ xs) (suc n) over = drop_all xs n (omega arith)
