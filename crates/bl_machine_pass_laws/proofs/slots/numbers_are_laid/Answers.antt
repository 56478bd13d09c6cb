use Rattle.std.specs.Prelude.{[]}
use Rattle.bl_graph_nodes.specs.Plain.{plain_body}
use Rattle.bl_machine_pass_laws.proofs.OnSlots.Laying.{numbers_laid}
use Rattle.bl_machine_pass_laws.proofs.slots.numbers_are_laid.Goals as goal

pub returns : goal.returns
returns c body list counters has = numbers_laid (plain_body body) list (c.spots_differ.ensures body []) counters has
