use Rattle.bl_cparse.proofs.ItemOpening.{static_reads}
use Rattle.bl_cparse.proofs.parser.item.fixed.Goals as goal

pub returns-clause-follows : goal.returns-clause-follows
returns-clause-follows c = λ room rest e. static_reads c.eat.result c.eat.ensures.is c.eat.ensures.yes c.eat.ensures.no e
