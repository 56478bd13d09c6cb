use Rattle.serde_json.specs.View.{view}
use Rattle.bl_lsp_answers.specs.Diagnostics.{related_data}
use Rattle.bl_lsp_answers.proofs.Mapped.{mapped_next}
use Rattle.bl_lsp_answers.proofs.diagnostics.all_related.Goals as goal

pub loop-place-preserved : goal.loop-place-preserved
loop-place-preserved c =
    mapped_next view (related_data c.args.uri.now c.args.text.now c.args.rule) c.args.places.now c.loop-place.place-index c.loop-place.list.items
    c.push.new.self.items c.in_ok-related.related _ c.loop-place-test.true c.in_ok-push.ensures.items c.in_ok-related.ensures c.loop-place.invariant
