-- What passes rule Frames on its peeled program has few activity instances.
use Rattle.std.proofs.Common.{◌≡◌, ◌∙◌, ℕ, ◌≤◌, true, List, [], length, ap, refl, inl, inr, arith}
use Rattle.std.proofs.lemmas.Bool.{cases_lt}
use Rattle.std.specs.Prelude.{Option, Some, None, slice_get}
use Rattle.bl_tree.specs.declared.rule.Rule.TheVariants as rule
use Rattle.bl_tree.specs.declared.tree.StructDef.{StructDef}
use Rattle.bl_tree.specs.declared.tree.Unit.{Unit as UnitDef}
use Rattle.bl_tree.specs.Program.{is_entry}
use Rattle.bl_cause_trees.specs.Laws.{PeeledAreThere}
use Rattle.bl_ctree.specs.Instances.{instances_of}
use Rattle.bl_ctree_laws_peeled.specs.Bodies.{PeeledIsSameProgram}
use Rattle.bl_limits_measures.specs.Units.{instances_at}
use Rattle.bl_limits_measures_laws.specs.Laws.{InstancesAreCounted, UnitsUseEarlierOnes}
use Rattle.bl_rules_laws.specs.Traces.Instances.{TreesHaveFewInstances}
use Rattle.bl_rules_laws.specs.Traces.Peeled.{AcceptedKeepPeeled, KeepsPeeled}

record IsThere (found : Option UnitDef) : Type 0 where
  unit : UnitDef
  is : found ≡ Some unit

entry_there : (found : Option UnitDef) → is_entry found ≡ true → IsThere found
entry_there (Some unit) e = record { unit = unit; is = refl }
entry_there None e = absurd cc

few_instances : UnitsUseEarlierOnes → InstancesAreCounted → PeeledIsSameProgram → (structs : List StructDef) (units : List UnitDef) (entry : ℕ)
    (peeled : List UnitDef) → KeepsPeeled structs units entry peeled → length (instances_of units entry) ≤ 4_096
few_instances earlier counted alike structs units entry peeled keeps =
    let there = entry_there (slice_get peeled entry) keeps.peeled_typed.entry_stands in
    let count : length (instances_of units entry) ≡ instances_at peeled entry =
    ap length (alike structs units peeled entry keeps.peels).instances ∙ counted peeled entry (earlier structs peeled keeps.peeled_typed.units_stand) in
    let few : instances_at peeled entry ≤ 4_096 =
    elim (cases_lt 4_096 (instances_at peeled entry)) [
      | inl many ↦ absurd (keeps.limits rule.Frames there.unit.place [] (inl (record { unit = there.unit; is_entry = there.is; many = many; at_name = refl }), refl))
      | inr few ↦ few
    ] in
    omega (arith, count, few)

pub trees_have_few_instances : AcceptedKeepPeeled → UnitsUseEarlierOnes → InstancesAreCounted → PeeledIsSameProgram → PeeledAreThere →
    TreesHaveFewInstances
trees_have_few_instances keep earlier counted alike there program of =
    let has = there program.units in
    few_instances earlier counted alike program.structs program.units program.entry has.peeled_units (keep program has.peeled_units of has.are)
