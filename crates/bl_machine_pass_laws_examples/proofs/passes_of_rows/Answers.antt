use Rattle.bl_machine_pass_laws_examples.proofs.PassesInTurn.{passes}
use Rattle.bl_machine_pass_laws_examples.proofs.passes_of_rows.Goals as goal

pub returns : goal.returns
returns c = passes
