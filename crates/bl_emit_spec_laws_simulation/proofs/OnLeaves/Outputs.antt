-- What memory holds at the places of outputs, one by one.
use Rattle.std.proofs.Common.{◌≡◌, ℕ, zero, suc, ◌+◌, ◌<◌, arith, List, [], ◌∷◌, take, drop, Some, refl, ap, ◌∙◌}
use Rattle.std.specs.Prelude.{slice_get}
use Rattle.bl_tree.specs.declared.tree.StructDef.{StructDef}
use Rattle.bl_tree.specs.declared.tree.Var.{Var}
use Rattle.bl_tree.specs.declared.value.Value.{Value}
use Rattle.bl_ctext_semantics.specs.Memory.{Location, Memory, value_at}
use Rattle.bl_emit_acts_laws_simulation.specs.Acts.{OutputsEncoded}
use Rattle.bl_emit_acts_laws_simulation.specs.Encodes.{Encodes}

-- one output with its variable, its value and its place
pub record HoldAt (structs : List StructDef) (here : Memory) (vars : List Var) (values : List Value) (places : List Location) (o : ℕ) : Type 0 where
  pub var : Var
  pub value : Value
  pub place : Location
  pub var_there : slice_get vars o ≡ Some var
  pub value_there : slice_get values o ≡ Some value
  pub place_there : slice_get places o ≡ Some place
  pub holds : Encodes structs var.ty value (value_at here place)

module _ (structs : List StructDef) (here : Memory) where
  deeper : (vars : List Var) (values : List Value) (places : List Location) (o : ℕ) (v : Var) (value : Value) (place : Location) →
      HoldAt structs here vars values places o → HoldAt structs here (v ∷ vars) (value ∷ values) (place ∷ places) (suc o)
  deeper vars values places o v value place one = record {
    var = one.var;
    value = one.value;
    place = one.place;
    var_there = one.var_there;
    value_there = one.value_there;
    place_there = one.place_there;
    holds = one.holds;
  }

  pub hold_by_place : (vars : List Var) (values : List Value) (places : List Location) → OutputsEncoded structs here vars values places → (o : ℕ)
      (place : Location) → slice_get places o ≡ Some place → HoldAt structs here vars values places o
  hold_by_place [] [] [] hold o place is = absurd cc
  hold_by_place [] [] (p ∷ places) hold o place is = absurd hold
  hold_by_place [] (u ∷ values) places hold o place is = absurd hold
  hold_by_place (v ∷ vars) [] places hold o place is = absurd hold
  hold_by_place (v ∷ vars) (u ∷ values) [] hold o place is = absurd hold
  hold_by_place (v ∷ vars) (u ∷ values) (p ∷ places) hold zero place is = record {
    var = v;
    value = u;
    place = p;
    var_there = refl;
    value_there = refl;
    place_there = refl;
    holds = hold.0;
  }
  hold_by_place (v ∷ vars) (u ∷ values) (p ∷ places) hold (suc o) place is =
      deeper vars values places o v u p (hold_by_place vars values places hold.1 o place is)

  pub hold_by_var : (vars : List Var) (values : List Value) (places : List Location) → OutputsEncoded structs here vars values places → (o : ℕ)
      (var : Var) → slice_get vars o ≡ Some var → HoldAt structs here vars values places o
  hold_by_var [] [] [] hold o var is = absurd cc
  hold_by_var [] [] (p ∷ places) hold o var is = absurd hold
  hold_by_var [] (u ∷ values) places hold o var is = absurd hold
  hold_by_var (v ∷ vars) [] places hold o var is = absurd hold
  hold_by_var (v ∷ vars) (u ∷ values) [] hold o var is = absurd hold
  hold_by_var (v ∷ vars) (u ∷ values) (p ∷ places) hold zero var is = record {
    var = v;
    value = u;
    place = p;
    var_there = refl;
    value_there = refl;
    place_there = refl;
    holds = hold.0;
  }
  hold_by_var (v ∷ vars) (u ∷ values) (p ∷ places) hold (suc o) var is =
      deeper vars values places o v u p (hold_by_var vars values places hold.1 o var is)

-- ---- where outputs stand among the variables

pub taken_get : (n : ℕ) (xs : List Value) (k : ℕ) (x : Value) → slice_get (take n xs) k ≡ Some x → (slice_get xs k ≡ Some x) × (k < n)
taken_get zero xs k x is = absurd cc
taken_get (suc n) [] k x is = absurd cc
taken_get (suc n) (y ∷ xs) zero x is = (is, omega arith)
taken_get (suc n) (y ∷ xs) (suc k) x is =
    let more = taken_get n xs k x is in
    let less = more.1 in (more.0, omega (arith, less))

pub dropped_get : (n : ℕ) (xs : List Value) (k : ℕ) (x : Value) → slice_get (drop n xs) k ≡ Some x → slice_get xs (n + k) ≡ Some x
dropped_get zero xs k x is = let none : 0 + k ≡ k = omega arith in ap (slice_get xs) none ∙ is
dropped_get (suc n) [] k x is = absurd cc
dropped_get (suc n) (y ∷ xs) k x is =
    let same : suc n + k ≡ suc (n + k) = omega arith in ap (slice_get (y ∷ xs)) same ∙ dropped_get n xs k x is
