-- The units of instances are needed.
use Rattle.std.proofs.Common.{◌≡◌, ℕ, zero, suc, ◌<◌, true, ◌||◌, nat_eq, List, Option, Some, None, ap, ◌∙◌, arith}
use Rattle.std.proofs.lemmas.List.Folds.{list_any-append}
use Rattle.std.specs.Prelude.{slice_get}
use Rattle.std.specs.List.{list_any}
use Rattle.std.proofs.lemmas.Bool.{or_right}
use Rattle.bl_tree.specs.declared.tree.StructDef.{StructDef}
use Rattle.bl_tree.specs.declared.tree.Unit.{Unit as UnitDef}
use Rattle.bl_tree.specs.Program.{IsWellTyped}
use Rattle.bl_limits_measures.specs.Calls.{calls_of}
use Rattle.bl_limits_measures.specs.Runs.{activities_run}
use Rattle.bl_ctree.specs.declared.instance.Instance.{Instance}
use Rattle.bl_ctree.specs.declared.instance.Origin.{Origin}
use Rattle.bl_ctree.specs.Instances.{instances_of}
use Rattle.bl_ctree_laws_confluence.specs.Deeds.Origins.{HasCaller, InstancesHaveCallers}
use Rattle.bl_emit_spec.specs.Programs.{needed_units, needs_of}
use Rattle.bl_emit_spec_laws_wellformed.proofs.OnClosed.Running.{run_named}
use Rattle.bl_emit_spec_laws_wellformed.specs.Closed.{InstancesNeeded, NeededClosed}

module _ (structs : List StructDef) (units : List UnitDef) (entry : ℕ) (needed : NeededClosed structs units entry) (callers : InstancesHaveCallers)
    (keeps : IsWellTyped structs units entry)
  where
    below : (n i : ℕ) (instance : Instance) → i < n → slice_get (instances_of units entry) i ≡ Some instance →
        slice_get (needed_units units entry) instance.unit ≡ Some true
    below zero i instance less there = absurd (omega (arith, less))
    below (suc n) i instance less there = by (λ j caller. below n j caller) instance.origin (callers units entry i instance there)
      where
        by : ((j : ℕ) (caller : Instance) → j < n → slice_get (instances_of units entry) j ≡ Some caller →
            slice_get (needed_units units entry) caller.unit ≡ Some true) → (o : Option Origin) →
            HasCaller units entry (instances_of units entry) i instance o → slice_get (needed_units units entry) instance.unit ≡ Some true
        by before None called = ap (slice_get (needed_units units entry)) called.2 ∙ needed.entry_is keeps
        by before (Some origin) called =
            let earlier = called.earlier in
            let caller = before origin.caller called.caller (omega (arith, less, earlier)) called.there in
            let among : list_any (nat_eq called.run.unit) (needs_of called.unit) ≡ true =
            list_any-append (nat_eq called.run.unit) (calls_of called.unit) (activities_run called.unit)
            ∙ or_right (list_any (nat_eq called.run.unit) (calls_of called.unit)) (list_any (nat_eq called.run.unit) (activities_run called.unit))
            (run_named called.unit called.run called.runs) in
            ap (slice_get (needed_units units entry)) called.names
            ∙ needed.closed called.caller.unit called.run.unit called.unit keeps called.body caller among

pub instances_needed : (structs : List StructDef) (units : List UnitDef) (entry : ℕ) → NeededClosed structs units entry → InstancesHaveCallers →
    InstancesNeeded structs units entry
instances_needed structs units entry needed callers i instance keeps there =
    below structs units entry needed callers keeps (suc i) i instance (omega arith) there
