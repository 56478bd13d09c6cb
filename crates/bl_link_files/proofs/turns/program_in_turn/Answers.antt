-- All texts are judged.
use Rattle.std.proofs.Common.{◌∙◌, ap, length, subst, sym}
use Rattle.std.specs.Prelude.{IfErr, IfOk}
use Rattle.bl_link.specs.Files.{AreFilesOf}
use Rattle.bl_link_files.proofs.Judging.{turn_ends}
use Rattle.bl_link_files.specs.inner.Judged.{TextsStop}
use Rattle.bl_link_files.proofs.turns.program_in_turn.Goals as goal

pub link_all-requires : goal.link_all-requires
link_all-requires c = ap length c.in-Ok.ensures.texts ∙ sym c.in-Ok.ensures.count

pub returns-in-Ok-clause-program : goal.returns-in-Ok-clause-program
returns-in-Ok-clause-program c =
    subst (λ texts. IfOk c.link_all.result (λ accepted. AreFilesOf texts accepted.program)) c.in-Ok.ensures.texts c.link_all.ensures.program

pub returns-in-Ok-clause-fault : goal.returns-in-Ok-clause-fault
returns-in-Ok-clause-fault c = subst (λ texts. IfErr c.link_all.result (TextsStop texts)) c.in-Ok.ensures.texts c.link_all.ensures.fault

pub returns-in-Err-clause-fault : goal.returns-in-Err-clause-fault
returns-in-Err-clause-fault c = turn_ends c.args.texts.now c.in-Err.fault c.in-Err.ensures.fault
