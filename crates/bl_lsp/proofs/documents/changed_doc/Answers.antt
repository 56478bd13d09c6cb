use Rattle.std.proofs.Common.{◌∙◌}
use Rattle.std.proofs.lemmas.Result.{IfOk-weaker}
use Rattle.serde_json.specs.View.{view}
use Rattle.bl_lsp.proofs.Changing.{changed_is}
use Rattle.bl_lsp.proofs.documents.changed_doc.Goals as goal

pub returns : goal.returns
returns c =
    IfOk-weaker c.document_from.result _ _
    (λ document made. made ∙ changed_is (view c.args.message.now) _ _ _ c.text_at.ensures c.number_at.ensures c.changed_text.ensures)
    c.document_from.ensures
