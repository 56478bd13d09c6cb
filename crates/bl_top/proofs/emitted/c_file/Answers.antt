-- What is asked of the peeled program, and what its file shows of the source's.
use Rattle.std.proofs.Common.{subst, sym}
use Rattle.std.proofs.lemmas.Result.{IfOk-weaker}
use Rattle.bl_cause.specs.Accepted.{AcceptedProgram}
use Rattle.bl_ctext_semantics.specs.Parts.{parts_of}
use Rattle.bl_emit_simplified.specs.Written.{IsWrittenOf}
use Rattle.bl_machine_prevs.specs.Declared.{FromText}
use Rattle.bl_rules_laws_sizes.specs.Small.{AreSmall}
use Rattle.bl_top.proofs.Texts.{file_of_source}
use Rattle.bl_top.proofs.emitted.c_file.Goals as goal

pub c_file-requires-clause-text : goal.c_file-requires-clause-text
c_file-requires-clause-text c =
    let accepted = c.args.accepted.now in
    subst (λ (a : AcceptedProgram). FromText a.program.units) (sym c.peeled.ensures)
    (c.accepted_trees_declare.ensures.peeled accepted.program accepted.peeled.program.units c.requires.tree c.is_accepted.ensures.is_peeled.units)

pub c_file-requires-clause-small : goal.c_file-requires-clause-small
c_file-requires-clause-small c =
    let accepted = c.args.accepted.now in
    subst (λ (a : AcceptedProgram). AreSmall a.program.units) (sym c.peeled.ensures)
    (c.peeled_units_stay_small.ensures accepted.program accepted.peeled.program.units c.requires c.is_accepted.ensures.is_peeled.units)

pub returns : goal.returns
returns c =
    IfOk-weaker c.c_file.result _ _
    (λ file shows. file_of_source c.args.accepted.now file c.is_accepted.ensures c.requires.tree c.accepted_trees_have_one_trace.ensures
    c.peeled_programs_mean_the_same.ensures
    (subst (λ (a : AcceptedProgram). IsWrittenOf a.program.structs a.program.units a.program.entry (parts_of file)) c.peeled.ensures shows))
    c.c_file.ensures
