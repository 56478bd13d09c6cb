use Rattle.bl_machine_pass_laws.proofs.OnNumbers.Counting.{first_counter_tells}
use Rattle.bl_machine_pass_laws.proofs.numbers.first_counter_tells.Goals as goal

pub returns : goal.returns
returns c = first_counter_tells c.trees_stay_placed.ensures.nodes
