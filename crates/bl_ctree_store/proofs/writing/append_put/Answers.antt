use Rattle.std.proofs.Common.{ap, sym, ◌∙◌}
use Rattle.std.specs.Prelude.{option_and_then, slice_get}
use Rattle.bl_eval.specs.Values.{value_at}
use Rattle.bl_ctree.specs.Store.{home}
use Rattle.bl_ctree_store.specs.Seen.{setting_in}
use Rattle.bl_ctree_store.proofs.PerformLemmas.{put_more}
use Rattle.bl_ctree_store.proofs.writing.append_put.Goals as goal

pub returns-in_ok-push-in-Some : goal.returns-in_ok-push-in-Some
returns-in_ok-push-in-Some c store =
    let fields = c.in_ok-fields.ensures ∙ c.deref.ensures in
    put_more (setting_in c.args.w.now) c.args.i c.args.variables.now c.args.path.now c.args.into.now c.push.new.self
    (record { at = c.in_ok-at-in-Some.at; value = c.in_ok-value-in-Some.value }) c.in-Some.value.now
    (ap (λ fields. option_and_then (value_at fields) (slice_get c.args.variables.now c.args.path.now.root)) (sym (c.deref-2.ensures ∙ fields))
    ∙ sym c.in-Some.ensures)
    (c.in_ok-at-in-Some.ensures ∙ ap (λ fields. home (setting_in c.args.w.now)
    (record { instance = c.args.i; path = record { root = c.args.path.now.root; fields = fields } })) fields)
    c.in_ok-value-in-Some.ensures c.in_ok-push-in-Some.ensures.ok store
