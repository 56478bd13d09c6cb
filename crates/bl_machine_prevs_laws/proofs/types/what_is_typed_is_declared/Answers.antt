use Rattle.bl_machine_prevs_laws.proofs.OnTypes.Program.{typed_is_declared}
use Rattle.bl_machine_prevs_laws.proofs.types.what_is_typed_is_declared.Goals as goal

pub returns : goal.returns
returns c = typed_is_declared c.what_is_named_keeps.ensures.keeps c.what_is_named_suits.ensures.units c.what_is_named_suits.ensures.constants
    c.what_is_named_is_declared.ensures
