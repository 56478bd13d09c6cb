use Rattle.bl_emit_spec_laws.proofs.OnOwn.Programs.{unit_places}
use Rattle.bl_emit_spec_laws.proofs.own.places_count.Goals as goal

pub returns : goal.returns
returns c structs units machine activities k unit p at there =
    unit_places c.spots_differ.ensures structs units machine activities k unit at p there
