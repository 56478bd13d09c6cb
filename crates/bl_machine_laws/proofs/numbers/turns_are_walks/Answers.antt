use Rattle.bl_machine_laws.proofs.OnNumbers.Walking.{pass_walks, turn_walks}
use Rattle.bl_machine_laws.proofs.numbers.turns_are_walks.Goals as goal

pub returns : goal.returns
returns c = record {
  turns = λ w rank i c done n c' t. turn_walks t;
  passes = λ w rank i k c done c' p. pass_walks p;
}
