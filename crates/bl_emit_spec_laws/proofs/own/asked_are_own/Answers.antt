use Rattle.bl_emit_spec_laws.proofs.OnOwn.Programs.{unit_asks}
use Rattle.bl_emit_spec_laws.proofs.own.asked_are_own.Goals as goal

pub returns : goal.returns
returns c structs units machine activities k unit rule at few first =
    unit_asks c.spots_differ.ensures structs units machine activities k unit at
    (record {
      keys = c.nodes_have_keys.ensures;
      placed = c.trees_stay_placed.ensures;
      listed = c.rules_are_listed.ensures;
      within = c.graphs_stay_within.ensures;
      before = c.flags_come_from_before.ensures;
      asked = c.flags_are_asked.ensures;
      reached = c.flags_are_reached.ensures;
    })
    few rule first
