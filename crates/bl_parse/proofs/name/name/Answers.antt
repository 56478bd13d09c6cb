use Rattle.bl_parse.proofs.ReadLemmas.{pass}
use Rattle.bl_parse.proofs.TokenLemmas.{name_spelled}
use Rattle.bl_parse.proofs.name.name.Goals as goal

pub returns-clause-spelled : goal.returns-clause-spelled
returns-clause-spelled c = record {
  token = c.take.ensures.taken;
  is = name_spelled c.args.source.now.text.now c.args.source.now.tokens.now c.args.at.now c.in_ok-text.ensures c.start_at.ensures c.end_at.ensures;
}

pub returns-clause-follows : goal.returns-clause-follows
returns-clause-follows c = pass c.take.ensures.next
