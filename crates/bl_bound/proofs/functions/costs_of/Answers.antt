use Rattle.std.proofs.Common.{◌≡◌, ℕ, List, ap, ◌∙◌}
use Rattle.bl_ctext_semantics.specs.inner.Maps.{text_at}
use Rattle.bl_ctext_semantics.specs.Tables.{with_entry}
use Rattle.bl_bound.specs.inner.Capped.{costs_in}
use Rattle.bl_bound.proofs.CostLemmas.{costs-done, costs-next}
use Rattle.bl_bound.proofs.functions.costs_of.Goals as goal

pub loop-function-preserved : goal.loop-function-preserved
loop-function-preserved c =
    let f = c.function-item.result in
    let old = text_at c.loop-function.known in
    let add : (asked : List ℕ) → text_at c.add.new.map asked ≡ with_entry old f.name c.of_function-cost.result asked =
    λ asked. c.in_ok-add.ensures asked ∙ ap (λ n. with_entry old n c.of_function-cost.result asked) c.as_str.ensures in
    costs-next old (text_at c.add.new.map) c.args.functions.now c.loop-function.function-index f c.of_function-cost.result c.loop-function.costs _ _
    c.loop-function-test.true c.function-item.is c.of_function-cost.ensures add c.in_ok-push.ensures.ok c.loop-function.invariant

pub returns : goal.returns
returns c =
    costs-done (costs_in c.loop-function.known) c.args.functions.now c.loop-function.function-index c.loop-function.costs _ c.loop-function-test.false
    c.loop-function.invariant
