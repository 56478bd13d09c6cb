-- The functions of needed activities do in the file what the passes of their instances do.
use Rattle.std.proofs.Common.{◌≡◌, ℕ, suc, ◌+◌, List, Option, Some, None, sym, ap, ◌∙◌, subst, arith}
use Rattle.std.specs.Prelude.{option_and_then, option_map, slice_get, unwrap_or}
use Rattle.bl_tree.specs.declared.tree.StructDef.{StructDef}
use Rattle.bl_tree.specs.declared.tree.Unit.{Unit as UnitDef}
use Rattle.bl_ctext_semantics.specs.Meaning.{Meaning, applied}
use Rattle.bl_ctext_semantics.specs.Tables.{Table}
use Rattle.bl_ctree.specs.declared.instance.Instance.{Instance}
use Rattle.bl_ctree.specs.Instances.{Setting, setting_of, unit_at, unit_of}
use Rattle.bl_emit_acts.specs.Types.{unit_name}
use Rattle.bl_emit_spec.specs.Activities.{remembers_any}
use Rattle.bl_emit_spec_laws.specs.Calls.Built.{Activities, activity_at, unit_number}
use Rattle.bl_emit_spec_laws.specs.Calls.Calls.{ActivitySimulates, CallLeaves, passed_to}
use Rattle.bl_emit_laws.specs.Linked.{NeededAreKnown, NeededSimulate, table_of_needed}
use Rattle.bl_emit_spec_laws.specs.Tables.Laws.{TablesKnowAll}
use Rattle.bl_emit_spec_laws.specs.Tables.Tables.{table_of_all}

-- the unit of an instance stands at its position
unit_there : (structs : List StructDef) (units : List UnitDef) (entry i : ℕ) (unit : UnitDef) → unit_at (setting_of structs units entry) i ≡ Some unit →
    slice_get units (unit_number (setting_of structs units entry) i) ≡ Some unit
unit_there structs units entry i unit is = by_instance (slice_get (setting_of structs units entry).instances i) is
  where
    by_instance : (found : Option Instance) → option_and_then (unit_of (setting_of structs units entry)) found ≡ Some unit →
        slice_get units (unwrap_or (option_map (λ (one : Instance). one.unit) found) 0) ≡ Some unit
    by_instance None e = absurd (cc)
    by_instance (Some instance) e = e

-- what a table knows under the names of an activity's unit is all that its calls ask
same_comes : (w : Setting) (activities : Activities) (u depth : ℕ) (one other : Table Meaning) →
    ((i : ℕ) (unit : UnitDef) → unit_number w i ≡ u → unit_at w i ≡ Some unit → other (unit_name unit.name) ≡ one (unit_name unit.name)) →
    ActivitySimulates w activities u one depth → ActivitySimulates w activities u other depth
same_comes w activities u depth one other same comes = record {
  executes = λ i unit given frames store r frames' left r' here number at may begins starts runs.
      subst
      (λ o. CallLeaves w activities i unit depth given frames' left r' here
      (applied o (depth + 1) (passed_to unit (remembers_any (activity_at w activities i)) given) here))
      (sym (same i unit number at)) (comes.executes i unit given frames store r frames' left r' here number at may begins starts runs);
  cut = λ i unit given frames store r here number at may begins starts is_cut.
      ap (λ o. (applied o (depth + 1) (passed_to unit (remembers_any (activity_at w activities i)) given) here).result) (same i unit number at)
      ∙ comes.cut i unit given frames store r here number at may begins starts is_cut;
}

pub compiled_simulate : (structs : List StructDef) (units : List UnitDef) (entry : ℕ) → NeededAreKnown structs units entry → TablesKnowAll →
    NeededSimulate structs units entry
compiled_simulate structs units entry known tables machine activities u depth compiled none law is =
    same_comes (setting_of structs units entry) activities u depth (table_of_all structs units activities)
    (table_of_needed structs units entry activities) same
    (law (suc u) u (table_of_all structs units activities) depth compiled none
    (tables structs units entry machine activities (suc u) compiled.well_typed compiled.built).1 (omega arith))
  where
    same : (i : ℕ) (unit : UnitDef) → unit_number (setting_of structs units entry) i ≡ u → unit_at (setting_of structs units entry) i ≡ Some unit →
        table_of_needed structs units entry activities (unit_name unit.name) ≡ table_of_all structs units activities (unit_name unit.name)
    same i unit number at =
        known machine activities u unit compiled.well_typed compiled.built
        (sym (ap (slice_get units) number) ∙ unit_there structs units entry i unit at) is
