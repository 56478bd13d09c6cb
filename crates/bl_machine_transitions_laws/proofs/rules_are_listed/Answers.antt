use Rattle.bl_machine_transitions_laws.proofs.Walked.{rules_are_listed}
use Rattle.bl_machine_transitions_laws.proofs.rules_are_listed.Goals as goal

pub returns : goal.returns
returns c = rules_are_listed c.nodes_have_keys.ensures c.spots_differ.ensures
