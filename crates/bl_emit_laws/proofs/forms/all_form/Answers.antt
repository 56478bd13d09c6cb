use Rattle.bl_emit_laws.proofs.OnForms.Forms.{form}
use Rattle.bl_emit_laws.proofs.forms.all_form.Goals as goal

pub returns : goal.returns
returns c program =
    form program.structs program.units program.entry
    (record {
      uses = c.units_use_earlier_ones.ensures;
      add = c.units_add_up.ensures.cells;
      nodes_counted = (c.nodes_counted.ensures program);
      counted = c.activities_count.ensures;
      spell = (c.machines_spell.ensures program);
      differ = (c.machines_differ.ensures program);
      small = (c.needed_small.ensures program);
      numbered = (c.needed_numbered.ensures program);
      spots = c.spots_differ.ensures;
      placing = record {
        keys = c.nodes_have_keys.ensures;
        placed = c.trees_stay_placed.ensures;
        listed = c.rules_are_listed.ensures;
        within = c.graphs_stay_within.ensures;
        before = c.flags_come_from_before.ensures;
        asked = c.flags_are_asked.ensures;
        reached = c.flags_are_reached.ensures;
      };
      nodes = c.trees_stay_placed.ensures.nodes;
      copied = c.nodes_copied.ensures;
      runs = c.runs_copied.ensures;
      scalar = c.prevs_are_scalar.ensures;
    })
