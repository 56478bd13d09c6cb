use Rattle.bl_eval.specs.Standing.{view_of}
use Rattle.bl_eval.proofs.LawLemmas.{act_typed}
use Rattle.bl_eval.proofs.laws.act_keeps_types.Goals as goal

pub returns : goal.returns
returns c =
    act_typed c.args.program.now.structs c.args.program.now.units c.args.program.now.entry c.args.now.now.unit
    (view_of c.args.now.now c.args.before.now) c.args.program.now.well_typed
    c.args.s.now c.requires.stands
