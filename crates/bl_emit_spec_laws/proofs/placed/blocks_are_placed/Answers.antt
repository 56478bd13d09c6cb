use Rattle.bl_emit_spec_laws.proofs.OnPlaced.Placing.{blocks_placed}
use Rattle.bl_emit_spec_laws.proofs.placed.blocks_are_placed.Goals as goal

pub returns : goal.returns
returns c = λ structs units entry machine activities.
    blocks_placed
    (record {
      keys = c.nodes_have_keys.ensures;
      placed = c.trees_stay_placed.ensures;
      listed = c.rules_are_listed.ensures;
      within = c.graphs_stay_within.ensures;
      before = c.flags_come_from_before.ensures;
      asked = c.flags_are_asked.ensures;
      reached = c.flags_are_reached.ensures;
    })
    c.accepted_programs_are_orderly.ensures structs units entry machine activities
