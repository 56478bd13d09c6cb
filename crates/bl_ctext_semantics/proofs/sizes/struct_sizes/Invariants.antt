use Rattle.std.proofs.Common.{drop}
use Rattle.bl_ctext_semantics.specs.inner.Maps.{text_at}
use Rattle.bl_ctext_semantics.specs.Saturated.{AlikeSaturated}
use Rattle.bl_ctext_semantics.specs.Sizes.{sizes, sizes_after}
use Rattle.bl_ctext_semantics.proofs.sizes.struct_sizes.Given as goal

abbrev pub invariant-loop-of : goal.invariant-loop-of
invariant-loop-of l = AlikeSaturated (sizes_after (text_at l.sizes) (drop l.of-index l.list)) (sizes l.list)
