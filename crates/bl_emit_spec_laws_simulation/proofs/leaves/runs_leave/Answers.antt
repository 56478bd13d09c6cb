use Rattle.bl_emit_spec_laws_simulation.proofs.OnLeaves.Leaving.{runs_leave_so}
use Rattle.bl_emit_spec_laws_simulation.proofs.leaves.runs_leave.Goals as goal

pub returns : goal.returns
returns c =
    runs_leave_so (record {
      orderly = c.accepted_programs_are_orderly.ensures;
      homes = c.homes_are_apart.ensures;
      callers = c.instances_have_callers.ensures.callers;
      nest = c.instances_nest.ensures;
      views = c.views_are_typed.ensures;
      leads = c.stores_are_local.ensures.homes;
      frames = c.frames_apart.ensures;
      registers = c.registers_apart.ensures;
      clearing = c.clearing_is_inside.ensures;
      remember = c.callees_remember.ensures;
      remembering = c.remembering_stands.ensures;
      types = c.turns_fit.ensures;
      inputs = c.inputs_go_in.ensures;
      outputs = c.outputs_lead.ensures;
      passes = c.passes_keep.ensures;
      run = c.rules_run.ensures;
      keys = c.nodes_have_keys.ensures;
      placed = c.trees_stay_placed.ensures;
    })
