-- Where the outputs of a call lead, by their numbers.
use Rattle.std.proofs.Common.{◌≡◌, ℕ, zero, suc, ◌+◌, ◌≤◌, arith, List, []}
use Rattle.std.proofs.Common.{◌∷◌, drop, length, Some, refl, ap, ◌∙◌, subst}
use Rattle.std.proofs.Common.{length-drop}
use Rattle.std.proofs.lemmas.List.{length-take-le}
use Rattle.std.proofs.lemmas.Option.{same_Some}
use Rattle.std.specs.Prelude.{slice_get}
use Rattle.bl_tree.specs.declared.tree.Path.{Path}
use Rattle.bl_tree.specs.declared.tree.StructDef.{StructDef}
use Rattle.bl_tree.specs.declared.tree.Unit.{Unit as UnitDef}
use Rattle.bl_tree.specs.declared.tree.Var.{Var}
use Rattle.bl_tree.specs.declared.value.Value.{Value}
use Rattle.bl_tree.specs.Static.{static_of}
use Rattle.bl_tree.specs.Typing.{TypingContext, inputs_of, outputs_of}
use Rattle.bl_ctext_semantics.specs.Meaning.{ArgumentValue, Scope}
use Rattle.bl_ctext_semantics.specs.Memory.{Location, Memory}
use Rattle.bl_emit_acts_laws_simulation.specs.Acts.{OutputsEncoded}
use Rattle.bl_emit_acts_laws_simulation.specs.Arguments.{OutputLeads, OutputsLead}
use Rattle.bl_emit_acts_laws_simulation.specs.Simulation.{ArgumentsEncoded}

module _ (site : TypingContext) (now : List Value) (scope : Scope) where
  -- the output with this value
  pub record LeadAt (paths : List Path) (k : ℕ) (value : Value) : Type 0 where
    pub path : Path
    pub got : slice_get paths k ≡ Some path
    pub place : Location
    pub leads : OutputLeads site now scope (static_of path) value place

  pub lead_at : (paths : List Path) (values : List Value) (places : List Location) → OutputsLead site now scope paths values places → (k : ℕ)
      (value : Value) → slice_get values k ≡ Some value → LeadAt paths k value
  lead_at [] [] [] all k value there = absurd (cc)
  lead_at [] [] (place ∷ places) all k value there = absurd all
  lead_at [] (v ∷ values) places all k value there = absurd all
  lead_at (path ∷ paths) [] places all k value there = absurd all
  lead_at (path ∷ paths) (v ∷ values) [] all k value there = absurd all
  lead_at (path ∷ paths) (v ∷ values) (place ∷ places) all zero value there =
      subst (LeadAt (path ∷ paths) zero) (same_Some v value there) (record { path = path; got = refl; place = place; leads = all.0 })
  lead_at (path ∷ paths) (v ∷ values) (place ∷ places) all (suc k) value there =
      let more = lead_at paths values places all.1 k value there in
      record { path = more.path; got = more.got; place = more.place; leads = more.leads }

  -- where a path leads
  pub place_at : (paths : List Path) (values : List Value) (places : List Location) → OutputsLead site now scope paths values places → (k : ℕ)
      (path : Path) (place : Location) → slice_get paths k ≡ Some path → slice_get places k ≡ Some place →
      (value : Value) × OutputLeads site now scope (static_of path) value place
  place_at [] [] [] all k path place there other = absurd (cc)
  place_at [] [] (p ∷ places) all k path place there other = absurd all
  place_at [] (v ∷ values) places all k path place there other = absurd all
  place_at (q ∷ paths) [] places all k path place there other = absurd all
  place_at (q ∷ paths) (v ∷ values) [] all k path place there other = absurd all
  place_at (q ∷ paths) (v ∷ values) (p ∷ places) all zero path place there other = (
    v,
    subst (λ path. OutputLeads site now scope (static_of path) v place) (same_Some q path there)
        (subst (OutputLeads site now scope (static_of q) v) (same_Some p place other) all.0),
  )
  place_at (q ∷ paths) (v ∷ values) (p ∷ places) all (suc k) path place there other =
      place_at paths values places all.1 k path place there other

-- ---- lengths

held_long : (structs : List StructDef) (here : Memory) (vars : List Var) (values : List Value) (places : List Location) →
    OutputsEncoded structs here vars values places → length values ≡ length vars
held_long structs here [] [] [] all = refl
held_long structs here [] [] (place ∷ places) all = absurd all
held_long structs here [] (v ∷ values) places all = absurd all
held_long structs here (var ∷ vars) [] places all = absurd all
held_long structs here (var ∷ vars) (v ∷ values) [] all = absurd all
held_long structs here (var ∷ vars) (v ∷ values) (place ∷ places) all = ap suc (held_long structs here vars values places all.1)

passed_long : (structs : List StructDef) (depth : ℕ) (here : Memory) (vars : List Var) (values : List Value) (passed : List ArgumentValue) →
    ArgumentsEncoded structs depth here vars values passed → length values ≡ length vars
passed_long structs depth here [] [] [] all = refl
passed_long structs depth here [] [] (p ∷ passed) all = absurd all
passed_long structs depth here [] (v ∷ values) passed all = absurd all
passed_long structs depth here (var ∷ vars) [] passed all = absurd all
passed_long structs depth here (var ∷ vars) (v ∷ values) [] all = absurd all
passed_long structs depth here (var ∷ vars) (v ∷ values) (p ∷ passed) all = ap suc (passed_long structs depth here vars values passed all.1)

module _ (unit : UnitDef) (few : unit.inputs + unit.outputs ≤ length unit.vars) where
  pub inputs_long : (structs : List StructDef) (depth : ℕ) (here : Memory) (values : List Value) (passed : List ArgumentValue) →
      ArgumentsEncoded structs depth here (inputs_of unit) values passed → length values ≡ unit.inputs
  inputs_long structs depth here values passed all =
      let within : unit.inputs ≤ length unit.vars = omega (arith, few) in
      passed_long structs depth here (inputs_of unit) values passed all ∙ length-take-le unit.inputs unit.vars within

  pub outputs_long : (structs : List StructDef) (here : Memory) (values : List Value) (places : List Location) →
      OutputsEncoded structs here (outputs_of unit) values places → length values ≡ unit.outputs
  outputs_long structs here values places all =
      let rest = length-drop unit.inputs unit.vars in
      let within : unit.outputs ≤ length (drop unit.inputs unit.vars) = omega (arith, few, rest) in
      held_long structs here (outputs_of unit) values places all ∙ length-take-le unit.outputs (drop unit.inputs unit.vars) within
