use Rattle.std.proofs.Common.{subst}
use Rattle.std.specs.Prelude.{MatchOption}
use Rattle.bl_parse_syntax.specs.Rules.{FailsSyntax, SpellsProgram}
use Rattle.bl_parse_syntax.proofs.Once.{first_depth, first_syntax}
use Rattle.bl_parse_syntax.proofs.rules.check.Goals as goal

pub returns-in-Some-clause-refusal : goal.returns-in-Some-clause-refusal
returns-in-Some-clause-refusal c = rw c.failed.ensures (first_depth c.args.text_length c.args.tokens.now c.in-Some.place c.in-Some.ensures)

pub returns-in-Ok-Some-clause-refusal : goal.returns-in-Ok-Some-clause-refusal
returns-in-Ok-Some-clause-refusal c =
    let fails = subst (λ fault. MatchOption fault (SpellsProgram c.args.tokens.now) (FailsSyntax c.args.text_length c.args.tokens.now))
    c.in-Ok-Some.field-0-is c.in-Ok-Some.ensures in
    rw c.failed-in-Ok-Some.ensures (first_syntax c.args.text_length c.args.tokens.now c.in-Ok-Some.place c.in_default.ensures fails)
