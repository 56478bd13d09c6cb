use Rattle.std.proofs.Common.{subst}
use Rattle.std.proofs.lemmas.Result.{IfOk-weaker}
use Rattle.serde_json.specs.View.{items_view, view}
use Rattle.bl_lsp.specs.Documents.{doc_of}
use Rattle.bl_lsp_session.specs.Found.{Found}
use Rattle.bl_lsp_session.proofs.OnJudging.{is_published}
use Rattle.bl_lsp_session.proofs.judging.judged.Goals as goal

pub returns : goal.returns
returns c =
    let doc = doc_of c.args.document.now in
    let items = items_view c.in_ok-found.found.items in
    IfOk-weaker c.notified.result _ _
    (λ value is. is_published doc items (view value)
    (subst (λ text. Found doc.uri text items) c.as_bytes.ensures.value
    (subst (λ uri. Found uri c.as_bytes.result.now items) c.as_str.ensures.value c.in_ok-found.ensures)) is)
    c.notified.ensures
