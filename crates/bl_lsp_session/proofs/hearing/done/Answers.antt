use Rattle.std.proofs.lemmas.Result.{IfOk-weaker}
use Rattle.serde_json.specs.View.{view}
use Rattle.bl_lsp.specs.Documents.{doc_of}
use Rattle.bl_lsp_session.proofs.OnJudging.{publishes}
use Rattle.bl_lsp_session.proofs.hearing.done.Goals as goal

pub returns-in_ok-value-in-Judge : goal.returns-in_ok-value-in-Judge
returns-in_ok-value-in-Judge c =
    rw c.in-Judge.is
    (IfOk-weaker c.framed-in-Judge.result _ _
    (λ bytes framed. publishes (doc_of c.in-Judge.document) (view c.in_ok-value-in-Judge.value) bytes.items c.in_ok-value-in-Judge.ensures framed)
    c.framed-in-Judge.ensures)
