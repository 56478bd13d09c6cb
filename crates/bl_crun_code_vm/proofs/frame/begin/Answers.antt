use Rattle.bl_crun_code_vm.proofs.Frames.{frame-begun}
use Rattle.bl_crun_code_vm.proofs.frame.begin.Goals as goal

pub returns : goal.returns
returns c = let h = frame-begun c.args.args.now c.args.size c.args.base c.args.cells.now in cc
