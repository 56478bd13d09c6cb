use Rattle.bl_cparse.proofs.ItemOpening.{star_reads}
use Rattle.bl_cparse.proofs.parser.item.star.Goals as goal

pub returns-clause-follows : goal.returns-clause-follows
returns-clause-follows c = λ room rest e. star_reads c.eat.result c.eat.ensures.is c.eat.ensures.yes c.eat.ensures.no e
