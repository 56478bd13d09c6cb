use Rattle.bl_graph_nodes.specs.Plain.{plain_body}
use Rattle.bl_machine_pass_laws.proofs.OnNumbers.Telling.{turns_change_numbers}
use Rattle.bl_machine_pass_laws.proofs.numbers.turns_change_numbers.Goals as goal

pub returns : goal.returns
returns c = turns_change_numbers (λ slots unit. c.trees_stay_placed.ensures.nodes slots (plain_body unit.body)) c.nodes_differ.ensures
