use Rattle.bl_emit_spec_laws_simulation.proofs.OnCome.{whole}
use Rattle.bl_emit_spec_laws_simulation.proofs.simulation.compiled_simulate.Goals as goal

pub returns : goal.returns
returns c program =
    whole program.structs program.units program.entry (record {
      views = c.views_are_typed.ensures;
      functions = (c.functions_simulate.ensures program);
      activities = c.activities_simulate.ensures;
      begin = (c.functions_begin.ensures program);
      pointers = (c.pointers_follow.ensures program);
      runs = (c.runs_simulate.ensures program);
      own = (c.rules_are_own.ensures program);
      copied = c.nodes_copied.ensures;
      runs_copied = c.runs_copied.ensures;
      counters = c.counters_suffice.ensures;
      turns = c.turns_fit_compiled.ensures;
      apart = (c.nodes_apart.ensures program);
      fitting = (c.nodes_fit.ensures program);
      given = (c.runs_establish.ensures program);
      left = c.runs_leave.ensures;
      pass = c.blocks_pass.ensures;
      stay = c.passes_stay_within.ensures;
      placed = c.blocks_are_placed.ensures;
      points = (c.points_simulate.ensures program);
      prevs = c.prevs_agree.ensures;
      remember = c.callees_remember.ensures;
      seen = c.own_seen.ensures;
      targets = c.targets_seen.ensures;
      acts = c.acts_leave.ensures;
      remembering = c.remembering_stands.ensures;
    })
