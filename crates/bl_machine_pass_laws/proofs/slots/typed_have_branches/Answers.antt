use Rattle.std.specs.Prelude.{[]}
use Rattle.bl_machine_pass_laws.proofs.OnSlots.Branching.{unit_branched}
use Rattle.bl_machine_pass_laws.proofs.slots.typed_have_branches.Goals as goal

pub returns : goal.returns
returns c structs units entry k unit keeps there = unit_branched structs [] units k unit keeps.units_stand there
