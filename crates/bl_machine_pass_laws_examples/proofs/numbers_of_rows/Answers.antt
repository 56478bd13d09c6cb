use Rattle.bl_machine_pass_laws_examples.proofs.Numbers.{numbers}
use Rattle.bl_machine_pass_laws_examples.proofs.numbers_of_rows.Goals as goal

pub returns : goal.returns
returns c = numbers
