use Rattle.bl_emit_spec_laws.proofs.OnOwn.Programs.{unit_few}
use Rattle.bl_emit_spec_laws.proofs.own.registers_are_few.Goals as goal

pub returns : goal.returns
returns c structs units machine activities k unit at ordered sized =
    unit_few c.spots_differ.ensures structs units machine activities k unit at c.trees_stay_placed.ensures ordered sized
