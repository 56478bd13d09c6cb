use Rattle.bl_machine_transitions.specs.Runs.{key_of}
use Rattle.bl_machine_transitions.proofs.RunLemmas.{number_put}
use Rattle.bl_machine_transitions.proofs.numbers.RunNumbers.put.Goals as goal

pub returns : goal.returns
returns c q = number_put c.args.self.now c.insert.new.self c.args.at q c.args.number (c.in_ok-insert.ensures (key_of q))
