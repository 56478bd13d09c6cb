use Rattle.std.proofs.Common.{ap, map, ◌∙◌}
use Rattle.bl_tree.specs.Reduce.{total}
use Rattle.bl_ctext_semantics.specs.inner.Maps.{text_at}
use Rattle.bl_ctext_semantics.specs.Saturated.{saturated}
use Rattle.bl_ctext_semantics.specs.Sizes.{size_of_member}
use Rattle.bl_ctext_semantics.proofs.SizeLemmas.{sum-done, sum-next, twice}
use Rattle.bl_ctext_semantics.proofs.sizes.struct_size.Goals as goal

pub loop-member-preserved : goal.loop-member-preserved
loop-member-preserved c =
    sum-next (size_of_member (text_at c.args.sizes.now)) c.as_slice-members.result.now c.loop-member.member-index c.member-item.result c.loop-member.size
    c.member_size.result
    c.saturating_add-size.result _ c.loop-member-test.true c.member-item.is
    (ap saturated c.member_size.ensures ∙ twice (size_of_member (text_at c.args.sizes.now) c.member-item.result)) c.saturating_add-size.ensures
    c.loop-member.invariant

pub returns : goal.returns
returns c =
    sum-done (size_of_member (text_at c.args.sizes.now)) c.as_slice-members.result.now c.loop-member.member-index c.loop-member.size _ c.loop-member-test.false
    c.loop-member.invariant
    ∙ ap (λ l. saturated (total (map (size_of_member (text_at c.args.sizes.now)) l))) c.as_slice-members.ensures
