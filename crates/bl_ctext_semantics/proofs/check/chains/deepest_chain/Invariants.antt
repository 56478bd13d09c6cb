use Rattle.std.proofs.Common.{drop}
use Rattle.bl_ctext_semantics.specs.inner.Maps.{text_at}
use Rattle.bl_ctext_semantics.specs.Saturated.{saturated}
use Rattle.bl_ctext_semantics.specs.Sizes.{deepest_chain}
use Rattle.bl_ctext_semantics.proofs.SizeLemmas.{Deepest}
use Rattle.bl_ctext_semantics.proofs.check.chains.deepest_chain.Given as goal

abbrev pub invariant-loop-of : goal.invariant-loop-of
invariant-loop-of l =
    Deepest (text_at l.sizes) (text_at l.chains) (drop l.of-index l.list) l.deepest (saturated (deepest_chain (text_at l.sizes) l.list))
