use Rattle.bl_peel.proofs.Keeping.{deep_effect, keeps}
use Rattle.bl_peel.proofs.laws.peeled_statements_have_the_effects.Goals as goal

pub returns-clause-deep : goal.returns-clause-deep
returns-clause-deep c = deep_effect

pub returns-clause-front : goal.returns-clause-front
returns-clause-front c s = (keeps s).front

pub returns-clause-instant : goal.returns-clause-instant
returns-clause-instant c s = (keeps s).tells
