-- What is kept of a machine whose blocks are merged.
use Rattle.std.proofs.Common.{◌≡◌, true, List, [], ◌∷◌, ap, subst, sym, ◌∙◌}
use Rattle.bl_tree.specs.declared.program.Program.{Program}
use Rattle.bl_tree.specs.declared.tree.Unit.{Unit as UnitDef}
use Rattle.bl_machine_prevs.specs.Declared.{FromText}
use Rattle.bl_block.specs.Merged.{AreMergedFrom, EachThree, IsMergedFrom}
use Rattle.bl_cause.specs.Accepted.{AcceptedProgram, IsAccepted}
use Rattle.bl_cause.specs.Activities.{EachTwo, activities}
use Rattle.bl_ctext_semantics.specs.Parts.{parts_from}
use Rattle.bl_machine.specs.declared.machine.Activity.{Activity}
use Rattle.bl_machine.specs.Machines.{AreActivitiesOf, IsMachine, SeenMachine}
use Rattle.bl_ctext.specs.Spellable.{is_spellable}
use Rattle.bl_emit.specs.Programs.{written_told}
use Rattle.bl_emit_laws.specs.Told.{WrittenIsComputed}
use Rattle.bl_emit_spec.specs.Programs.{Written, written}
use Rattle.bl_emit_spec_laws_simulation.specs.Compiled.{AreCountable}
use Rattle.bl_emit_file.specs.Laws.{Known}
use Rattle.bl_emit_file.specs.Merged.{AreMerged, IsMerged, IsOfMerged}

each_merged : (units : List UnitDef) (from to : List Activity) → EachThree IsMergedFrom units from to → EachTwo IsMerged units to
each_merged [] [] [] merged = tt
each_merged [] [] (b ∷ to) merged = absurd merged
each_merged [] (a ∷ from) to merged = absurd merged
each_merged (unit ∷ units) [] to merged = absurd merged
each_merged (unit ∷ units) (a ∷ from) [] merged = absurd merged
each_merged (unit ∷ units) (a ∷ from) (b ∷ to) merged = (merged.0.none_left, each_merged units from to merged.1)

-- the blocks of a machine that is merged from another are merged
pub merged_is : (units : List UnitDef) (from to : List Activity) → AreMergedFrom units from to → AreMerged units to
merged_is units from to merged = each_merged (activities units) from to merged

-- what is made of an accepted program: all is known of its machine, and the file is what is written of that
pub record IsMadeOf (program : Program) (machine : List Activity) (made : Written) : Type 0 where
  pub known : Known program machine
  pub is : made ≡ written program machine

pub made_known : (accepted : AcceptedProgram) (plain merged : SeenMachine) (made : Written) → IsAccepted accepted → FromText accepted.program.units →
    AreCountable accepted.program.units → plain.program ≡ accepted.program → merged.program ≡ plain.program →
    AreMergedFrom plain.program.units plain.activities merged.activities → IsMachine merged → WrittenIsComputed →
    made ≡ written_told merged.program merged.activities → IsMadeOf accepted.program merged.activities made
made_known accepted plain merged made is_accepted text countable one two are_merged is_machine told same =
    let program = accepted.program in
    let from : List Activity = plain.activities in
    let to : List Activity = merged.activities in
    let of_program : AreMergedFrom program.units from to = subst (λ (of : Program). AreMergedFrom of.units from to) one are_merged in record {
      known = record {
        well_typed = program.well_typed;
        passes = is_accepted.passes;
        limits = is_accepted.limits;
        text = text;
        agrees = subst (λ (of : Program). AreActivitiesOf of.units to) (two ∙ one) is_machine;
        merged = merged_is program.units from to of_program;
        countable = countable;
      };
      is = same ∙ ap (λ (of : Program). written_told of to) (two ∙ one) ∙ told program to;
    }

-- what is made as is written has a spelling
pub made_spelled : (program : Program) (machine : List Activity) (made : Written) →
    is_spellable (written program machine).structs (written program machine).funcs ≡ true → IsMadeOf program machine made →
    is_spellable made.structs made.funcs ≡ true
made_spelled program machine made spelled it = subst (λ (it : Written). is_spellable it.structs it.funcs ≡ true) (sym it.is) spelled

-- and it is of a machine whose blocks are merged
pub made_of_merged : (program : Program) (machine : List Activity) (made : Written) → IsMadeOf program machine made →
    IsOfMerged program (parts_from made.structs made.funcs)
made_of_merged program machine made it = record {
  machine = machine;
  agrees = it.known.agrees;
  merged = it.known.merged;
  is = ap (λ (file : Written). parts_from file.structs file.funcs) it.is;
}
