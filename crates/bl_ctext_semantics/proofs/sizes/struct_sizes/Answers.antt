use Rattle.std.proofs.Common.{◌≡◌, ℕ, ◌+◌, List, drop, ap, ◌∙◌}
use Rattle.bl_tree.proofs.Basics.{drop_next}
use Rattle.bl_ctext_semantics.specs.inner.Maps.{text_at}
use Rattle.bl_ctext_semantics.specs.Sizes.{sizes}
use Rattle.bl_ctext_semantics.specs.Tables.{with_entry}
use Rattle.bl_ctext_semantics.proofs.SizeLemmas.{size-next}
use Rattle.bl_ctext_semantics.proofs.sizes.struct_sizes.Goals as goal

pub loop-of-preserved : goal.loop-of-preserved
loop-of-preserved c =
    let s = c.of-item.result in
    let old = text_at c.loop-of.sizes in
    let rest = drop (c.loop-of.of-index + 1) c.args.list.now in
    let add : (asked : List ℕ) → text_at c.add.new.map asked ≡ with_entry old s.name c.struct_size-size.result asked =
    λ asked. c.in_ok-add.ensures asked ∙ ap (λ n. with_entry old n c.struct_size-size.result asked) c.as_str.ensures in
    size-next old (text_at c.add.new.map) (drop c.loop-of.of-index c.args.list.now) rest s c.struct_size-size.result (sizes c.args.list.now)
    (drop_next c.args.list.now c.loop-of.of-index s c.loop-of-test.true c.of-item.is) c.struct_size-size.ensures add c.loop-of.invariant
