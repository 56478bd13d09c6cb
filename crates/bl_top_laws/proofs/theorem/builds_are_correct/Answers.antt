use Rattle.bl_top_laws.proofs.Builds.{builds_correct, builds_decide, refused_first}
use Rattle.bl_top_laws.proofs.Texts.{built_correct}
use Rattle.bl_top_laws.proofs.theorem.builds_are_correct.Goals as goal

pub returns-clause-texts : goal.returns-clause-texts
returns-clause-texts c = built_correct

pub returns-clause-written : goal.returns-clause-written
returns-clause-written c = builds_correct

pub returns-clause-refused : goal.returns-clause-refused
returns-clause-refused c = refused_first

pub returns-clause-decided : goal.returns-clause-decided
returns-clause-decided c = builds_decide
