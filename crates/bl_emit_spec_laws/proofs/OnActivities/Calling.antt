-- One call of the C function of an activity.
use Rattle.std.proofs.Common.{◌≡◌, ℕ, zero, suc, List, [], ◌∷◌}
use Rattle.std.proofs.Common.{length, take, drop, Some}
use Rattle.std.proofs.Common.{refl, sym, ap, ◌∙◌, arith}
use Rattle.std.specs.Prelude.{slice_get}
use Rattle.bl_tree.specs.declared.tree.StructDef.{StructDef}
use Rattle.bl_tree.specs.declared.tree.Var.{Var}
use Rattle.bl_tree.specs.declared.value.Value.{Value}
use Rattle.bl_ctext_semantics.specs.Memory.{Location, Memory, value_at}
use Rattle.bl_emit_acts_laws_simulation.specs.Acts.{OutputsEncoded}
use Rattle.bl_emit_acts_laws_simulation.specs.Encodes.{Encodes}

-- ---- outputs

none_taken : (A : Type 0) (n : ℕ) → length (take {A = A} n []) ≡ 0
none_taken A zero = refl
none_taken A (suc n) = refl

pub same_length : {A B : Type 0} (m n : ℕ) (xs : List A) (ys : List B) → length xs ≡ length ys → length (take n (drop m xs))
    ≡ length (take n (drop m ys))
same_length zero zero xs ys is = refl
same_length zero (suc n) [] [] is = refl
same_length zero (suc n) [] (y ∷ ys) is = absurd (omega (arith, is))
same_length zero (suc n) (x ∷ xs) [] is = absurd (omega (arith, is))
same_length zero (suc n) (x ∷ xs) (y ∷ ys) is = ap suc (same_length zero n xs ys (omega (arith, is)))
same_length {A = A} {B = B} (suc m) n [] [] is = none_taken A n ∙ sym (none_taken B n)
same_length (suc m) n [] (y ∷ ys) is = absurd (omega (arith, is))
same_length (suc m) n (x ∷ xs) [] is = absurd (omega (arith, is))
same_length (suc m) n (x ∷ xs) (y ∷ ys) is = same_length m n xs ys (omega (arith, is))

-- places of outputs hold what stands at each
pub outputs_from : (structs : List StructDef) (here after : Memory) (vars : List Var) (old new : List Value) (places : List Location) →
    OutputsEncoded structs here vars old places → length new ≡ length vars →
    ((k : ℕ) (var : Var) (value : Value) (place : Location) → slice_get vars k ≡ Some var → slice_get new k ≡ Some value →
    slice_get places k ≡ Some place → Encodes structs var.ty value (value_at after place)) → OutputsEncoded structs after vars new places
outputs_from structs here after [] [] [] [] held is each = unit_here
  where
    unit_here : OutputsEncoded structs after [] [] []
    unit_here = held
outputs_from structs here after [] [] (v ∷ new) [] held is each = absurd (omega (arith, is))
outputs_from structs here after [] [] new (p ∷ places) held is each = absurd held
outputs_from structs here after [] (v ∷ old) new places held is each = absurd held
outputs_from structs here after (var ∷ vars) [] new places held is each = absurd held
outputs_from structs here after (var ∷ vars) (v ∷ old) new [] held is each = absurd held
outputs_from structs here after (var ∷ vars) (v ∷ old) [] (p ∷ places) held is each = absurd (omega (arith, is))
outputs_from structs here after (var ∷ vars) (v ∷ old) (w ∷ new) (p ∷ places) held is each = (
  each zero var w p refl refl refl,
  outputs_from structs here after vars old new places held.1 (omega (arith, is)) (λ k. each (suc k)),
)

-- there is a place for each output
pub output_place : (structs : List StructDef) (here : Memory) (vars : List Var) (old : List Value) (places : List Location) (k : ℕ) (var : Var) →
    OutputsEncoded structs here vars old places → slice_get vars k ≡ Some var → (place : Location) × (slice_get places k ≡ Some place)
output_place structs here [] old places k var held there = absurd (cc)
output_place structs here (first ∷ vars) [] places k var held there = absurd held
output_place structs here (first ∷ vars) (v ∷ old) [] k var held there = absurd held
output_place structs here (first ∷ vars) (v ∷ old) (p ∷ places) zero var held there = (p, refl)
output_place structs here (first ∷ vars) (v ∷ old) (p ∷ places) (suc k) var held there = output_place structs here vars old places k var held.1 there
