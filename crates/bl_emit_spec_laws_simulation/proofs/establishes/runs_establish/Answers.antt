use Rattle.bl_emit_spec_laws_simulation.proofs.OnGives.Whole.{runs_are_given}
use Rattle.bl_emit_spec_laws_simulation.proofs.establishes.runs_establish.Goals as goal

pub returns : goal.returns
returns c program machine activities stand =
    runs_are_given program.structs program.units program.entry
    (record {
      callers = c.instances_have_callers.ensures.callers;
      homes = c.instances_have_callers.ensures.homes;
      nest = c.instances_nest.ensures;
      views = c.views_are_typed.ensures;
      along = c.stores_are_local.ensures.homes;
      keep = c.frames_keep_others.ensures;
      arguments = (c.arguments_pass.ensures program);
      apart = c.frames_apart.ensures;
      agree = c.prevs_agree.ensures;
      remember = c.callees_remember.ensures;
      outputs = c.outputs_lead.ensures;
      runs = c.rules_run.ensures;
      placed = c.trees_stay_placed.ensures;
    })
    machine activities stand
