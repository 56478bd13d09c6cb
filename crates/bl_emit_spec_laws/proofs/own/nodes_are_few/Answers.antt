use Rattle.bl_emit_spec_laws.proofs.OnOwn.Programs.{unit_node_few}
use Rattle.bl_emit_spec_laws.proofs.own.nodes_are_few.Goals as goal

pub returns : goal.returns
returns c structs units machine activities k unit n at ordered there =
    unit_node_few c.spots_differ.ensures structs units machine activities k unit at c.trees_stay_placed.ensures ordered n there
