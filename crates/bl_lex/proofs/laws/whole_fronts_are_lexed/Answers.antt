use Rattle.bl_lex.proofs.FrontLaws.{inside, lexed, whole}
use Rattle.bl_lex.proofs.laws.whole_fronts_are_lexed.Goals as goal

pub returns-clause-lexed : goal.returns-clause-lexed
returns-clause-lexed c = lexed

pub returns-clause-whole : goal.returns-clause-whole
returns-clause-whole c = whole

pub returns-clause-inside : goal.returns-clause-inside
returns-clause-inside c = inside
