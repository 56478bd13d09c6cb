use Rattle.bl_machine_pass_laws_execution.proofs.OnFrames.{all_frames_nest}
use Rattle.bl_machine_pass_laws_execution.proofs.frames.frames_nest.Goals as goal

pub returns : goal.returns
returns c = all_frames_nest c.instances_nest.ensures c.waking_keeps_numbers.ensures
