use Rattle.bl_eval.specs.Standing.{view_of}
use Rattle.bl_eval.proofs.LawLemmas.{value_typed}
use Rattle.bl_eval.proofs.laws.value_has_its_type.Goals as goal

pub returns : goal.returns
returns c =
    value_typed c.args.program.now.structs c.args.program.now.units c.args.program.now.entry c.args.now.now.unit
    (view_of c.args.now.now c.args.before.now) c.args.program.now.well_typed
    c.args.e.now c.requires.stands
