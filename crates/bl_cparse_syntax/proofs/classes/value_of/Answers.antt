use Rattle.bl_cparse_syntax.proofs.Digits.{too_large}
use Rattle.bl_cparse_syntax.proofs.classes.value_of.Goals as goal

pub returns-in-None-clause-none : goal.returns-in-None-clause-none
returns-in-None-clause-none c = too_large _ _ _ _ c.loop-digit-test.true c.in-None.ensures.none c.loop-digit.invariant.value
