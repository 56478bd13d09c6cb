use Rattle.std.proofs.Common.{map}
use Rattle.bl_tree.specs.Reduce.{total}
use Rattle.bl_ctext_semantics.specs.inner.Maps.{text_at}
use Rattle.bl_ctext_semantics.specs.Saturated.{saturated}
use Rattle.bl_ctext_semantics.specs.Sizes.{size_of_member}
use Rattle.bl_ctext_semantics.proofs.SizeLemmas.{Summed}
use Rattle.bl_ctext_semantics.proofs.sizes.struct_size.Given as goal

abbrev pub invariant-loop-member : goal.invariant-loop-member
invariant-loop-member l =
    Summed (size_of_member (text_at l.sizes)) l.members l.member-index l.size (saturated (total (map (size_of_member (text_at l.sizes)) l.members)))
