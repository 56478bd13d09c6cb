use Rattle.std.proofs.Common.{◌∙◌, ap, subst}
use Rattle.std.proofs.lemmas.Result.{IfOk-weaker}
use Rattle.serde_json.specs.View.{items_view, view}
use Rattle.bl_lsp_answers.specs.Diagnostics.{diagnostic_data}
use Rattle.bl_lsp_session.proofs.OnJudging.{found_fails}
use Rattle.bl_rules.specs.Rules.{Fails}
use Rattle.bl_tree.specs.Rules.{IsCause}
use Rattle.bl_lsp_session.proofs.judging.told.Goals as goal

pub returns-in_ok-failing-in-Rule : goal.returns-in_ok-failing-in-Rule
returns-in_ok-failing-in-Rule c =
    let uri = c.args.uri.now in
    let text = c.args.text.now in
    IfOk-weaker c.alone.result _ _
    (λ list one. found_fails uri text c.in-Rule.rule c.in-Rule.place c.in-Rule.also (view c.in_ok-failing-in-Rule.failing) (items_view list.items)
    (subst (IsCause (Fails text)) c.in-Rule.is c.requires)
    (c.in_ok-failing-in-Rule.ensures ∙ ap (diagnostic_data uri text c.in-Rule.rule c.in-Rule.place) c.deref.ensures) one)
    c.alone.ensures
