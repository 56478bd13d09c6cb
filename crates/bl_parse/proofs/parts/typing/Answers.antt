use Rattle.bl_parse.proofs.ReadLemmas.{next_sign, after, then, pass}
use Rattle.bl_parse.proofs.parts.typing.Goals as goal

pub take-requires : goal.take-requires
take-requires c = record { stands = next_sign c.requires.awaits }

pub read_type-requires : goal.read_type-requires
read_type-requires c = record { awaits = after c.requires.awaits (pass c.take.ensures.next) }

pub returns-clause-spelled : goal.returns-clause-spelled
returns-clause-spelled c = record { m = c.take.new.at; sign = c.take.ensures.taken; ty_at = c.in_ok-ty.ensures.spelled }

pub returns-clause-follows : goal.returns-clause-follows
returns-clause-follows c = then (pass c.take.ensures.next) (c.in_ok-ty.ensures.follows)
