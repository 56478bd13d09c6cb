use Rattle.std.proofs.Common.{◌∙◌, ap, subst}
use Rattle.bl_lsp_session.specs.Answers.{Does}
use Rattle.bl_lsp_session.specs.inner.Heard.{leaves}
use Rattle.bl_lsp_session.proofs.hearing.hear_message.Goals as goal

pub returns-clause-sent : goal.returns-clause-sent
returns-clause-sent c = subst (λ todo. Does todo c.in_ok-sent.sent.items) c.in_ok-deed.ensures c.in_ok-sent.ensures

pub returns-clause-left : goal.returns-clause-left
returns-clause-left c = c.leaves.ensures ∙ ap leaves c.in_ok-deed.ensures
