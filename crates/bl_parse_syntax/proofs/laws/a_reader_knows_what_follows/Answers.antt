use Rattle.bl_parse_syntax.proofs.Expecting.{expects_program, expects_production, expects_absent, expects_token, expects_nothing}
use Rattle.bl_parse_syntax.proofs.laws.a_reader_knows_what_follows.Goals as goal

pub returns-clause-program : goal.returns-clause-program
returns-clause-program c = expects_program

pub returns-clause-production : goal.returns-clause-production
returns-clause-production c = expects_production

pub returns-clause-absent : goal.returns-clause-absent
returns-clause-absent c = expects_absent

pub returns-clause-token : goal.returns-clause-token
returns-clause-token c = expects_token

pub returns-clause-nothing : goal.returns-clause-nothing
returns-clause-nothing c = expects_nothing
