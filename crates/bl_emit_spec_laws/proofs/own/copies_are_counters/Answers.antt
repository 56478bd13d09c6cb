use Rattle.bl_emit_spec_laws.proofs.OnOwn.Programs.{unit_copies}
use Rattle.bl_emit_spec_laws.proofs.own.copies_are_counters.Goals as goal

pub returns : goal.returns
returns c structs units machine activities k unit counter at reads =
    unit_copies c.spots_differ.ensures structs units machine activities k unit at counter reads
