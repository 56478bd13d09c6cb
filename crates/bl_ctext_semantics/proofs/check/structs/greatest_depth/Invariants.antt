use Rattle.std.proofs.Common.{◌≡◌, drop, map, max}
use Rattle.bl_tree.specs.Reduce.{greatest}
use Rattle.bl_ctext_semantics.specs.Faults.{depth_of_type}
use Rattle.bl_ctext_semantics.specs.inner.Maps.{text_at}
use Rattle.bl_ctext_semantics.proofs.check.structs.greatest_depth.Given as goal

abbrev pub invariant-loop-member : goal.invariant-loop-member
invariant-loop-member l =
    max l.greatest (greatest (map (λ m. depth_of_type (text_at l.depths) m.ty) (drop l.member-index l.members)))
    ≡ greatest (map (λ m. depth_of_type (text_at l.depths) m.ty) l.members)
