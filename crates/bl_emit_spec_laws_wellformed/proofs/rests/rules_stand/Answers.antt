use Rattle.bl_emit_spec_laws_wellformed.proofs.OnRests.Whole.{stand}
use Rattle.bl_emit_spec_laws_wellformed.proofs.rests.rules_stand.Goals as goal

pub returns : goal.returns
returns c program =
    stand program.structs program.units program.entry c.numbers_are_laid.ensures
    c.typed_have_branches.ensures
