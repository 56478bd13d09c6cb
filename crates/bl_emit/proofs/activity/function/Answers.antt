use Rattle.std.proofs.Common.{◌≡◌, Bool, false, IfOk, List, ap, sym, ◌∙◌, subst, length, filter, slice_get, unwrap_or, map}
use Rattle.bl_tree.specs.declared.text.Text.{Text}
use Rattle.bl_tree.specs.declared.c.CFunc.{CFunc}
use Rattle.bl_emit_acts.specs.Sites.{site_in}
use Rattle.bl_machine.specs.Blocks.{up_to}
use Rattle.bl_machine_transitions.specs.Runs.{kept_number}
use Rattle.bl_emit.specs.Kept.{run_in, told_in}
use Rattle.bl_emit_tables.specs.Words.{kept_word}
use Rattle.bl_emit.proofs.ViewLemmas.{function_is}
use Rattle.bl_emit.proofs.activity.function.Goals as goal

pub returns : goal.returns
returns c = λ numbers_are runs_are remembers_is.
    subst (λ (f : CFunc). IfOk c.viewed.result (λ made. made ≡ f))
    (function_is (told_in c.args.told.now) (site_in c.site-site.result) c.deref-4.result.now c.deref-6.result.now (kept_word c.deref-5.result.now)
    (kept_number c.args.numbers.now) c.deref-7.result.now c.deref-8.result.now c.in_ok-count.count c.in_ok-many.many (map run_in c.args.runs.now)
    c.args.remembers c.site-site.ensures (c.deref-4.ensures ∙ c.in_ok-copies.ensures)
    (λ k. ap (λ (words : List Text). kept_word words k) c.deref-5.ensures ∙ c.in_ok-words.ensures k) numbers_are
    (λ k. ap (λ (read : List Bool). unwrap_or (slice_get read k) false) c.deref-6.ensures ∙ c.in_ok-read.ensures k)
    (c.deref-7.ensures
    ∙ (c.in_ok-counters.ensures
    ∙ ap (λ (read : List Bool). filter (λ k. unwrap_or (slice_get read k) false) (up_to c.in_ok-count.count))
    (c.deref.ensures ∙ sym c.deref-6.ensures)))
    c.in_ok-count.ensures
    (c.deref-8.ensures
    ∙ (c.in_ok-copied.ensures
    ∙ ap (λ (copies : List Bool). filter (λ k. unwrap_or (slice_get copies k) false) (up_to c.in_ok-many.many))
    (c.deref-3.ensures ∙ sym c.deref-4.ensures)))
    (c.in_ok-many.ensures ∙ ap length c.deref-2.ensures) runs_are remembers_is)
    c.viewed.ensures
