use Rattle.bl_parse.proofs.ReadLemmas.{next_sign, after, then, pass}
use Rattle.bl_parse.proofs.parts.value.Goals as goal

pub take-requires : goal.take-requires
take-requires c = record { stands = next_sign c.requires.awaits }

pub read_expr-requires : goal.read_expr-requires
read_expr-requires c = record { awaits = after c.requires.awaits (pass c.take.ensures.next) }

pub returns-clause-spelled : goal.returns-clause-spelled
returns-clause-spelled c = record { m = c.take.new.at; sign = c.take.ensures.taken; expr = c.in_ok-e.ensures.spelled }

pub returns-clause-follows : goal.returns-clause-follows
returns-clause-follows c = then (pass c.take.ensures.next) (c.in_ok-e.ensures.follows)
