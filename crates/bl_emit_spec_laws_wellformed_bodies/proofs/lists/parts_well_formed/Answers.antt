use Rattle.bl_emit_spec_laws_wellformed_bodies.proofs.OnLists.Walk.{parts}
use Rattle.bl_emit_spec_laws_wellformed_bodies.proofs.lists.parts_well_formed.Goals as goal

pub returns : goal.returns
returns c program =
    parts program.structs program.units program.entry
    (record {
      uses = c.units_use_earlier_ones.ensures;
      closed = (c.needed_closed.ensures program);
      nodes = c.trees_stay_placed.ensures.nodes;
      follow = c.faults_follow.ensures;
      functions = (c.functions_well_formed.ensures program);
      signed = c.functions_signed.ensures;
      grow = (c.chains_grow.ensures program);
      short = (c.chains_short.ensures program);
      activities = (c.activities_well_formed.ensures program);
      marked = c.activities_signed.ensures;
      few = c.activities_call_few.ensures;
      rises = c.activity_chains_grow.ensures;
      low = c.activity_chains_short.ensures;
    })
