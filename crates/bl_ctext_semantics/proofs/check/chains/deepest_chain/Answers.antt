use Rattle.std.proofs.Common.{◌≡◌, ℕ, ◌+◌, List, drop, ap, ◌∙◌}
use Rattle.bl_tree.proofs.Basics.{drop_next}
use Rattle.bl_ctext_semantics.specs.inner.Maps.{text_at}
use Rattle.bl_ctext_semantics.specs.Tables.{with_entry}
use Rattle.bl_ctext_semantics.proofs.SizeLemmas.{chain-done, chain-next}
use Rattle.bl_ctext_semantics.proofs.check.chains.deepest_chain.Goals as goal

pub loop-of-preserved : goal.loop-of-preserved
loop-of-preserved c =
    let f = c.of-item.result in
    let old = text_at c.loop-of.chains in
    let rest = drop (c.loop-of.of-index + 1) c.args.list.now in
    let add : (asked : List ℕ) → text_at c.add.new.map asked ≡ with_entry old f.name c.in_ok-chain.chain asked =
    λ asked. c.in_ok-add.ensures asked ∙ ap (λ n. with_entry old n c.in_ok-chain.chain asked) c.as_str.ensures in
    chain-next (text_at c.args.sizes.now) old (text_at c.add.new.map) (drop c.loop-of.of-index c.args.list.now) rest f c.in_ok-chain.chain c.loop-of.deepest
    c.max-deepest.result _
    (drop_next c.args.list.now c.loop-of.of-index f c.loop-of-test.true c.of-item.is) c.in_ok-chain.ensures c.max-deepest.ensures add c.loop-of.invariant

pub returns : goal.returns
returns c =
    chain-done (text_at c.args.sizes.now) (text_at c.loop-of.chains) c.args.list.now c.loop-of.of-index c.loop-of.deepest _ c.loop-of-test.false
    c.loop-of.invariant
