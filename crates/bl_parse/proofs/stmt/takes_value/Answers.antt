use Rattle.std.proofs.Common.{◌+◌, ap, sym, ◌∙◌}
use Rattle.std.specs.Prelude.{Some, slice_get}
use Rattle.bl_parse.specs.Statements.{goes_on}
use Rattle.bl_parse.proofs.stmt.takes_value.Goals as goal

pub returns-in-Some : goal.returns-in-Some
returns-in-Some c = c.goes_on.ensures ∙ (ap (goes_on (Some c.in-Some.first)) c.token_at-in-Some.ensures.token
    ∙ ap (λ o. goes_on o (slice_get c.args.source.now.tokens.now (c.args.at + 1))) (sym c.in-Some.is ∙ c.token_at.ensures.token))

pub returns-in-None : goal.returns-in-None
returns-in-None c = ap (λ o. goes_on o (slice_get c.args.source.now.tokens.now (c.args.at + 1))) (sym c.in-None.is ∙ c.token_at.ensures.token)
