use Rattle.std.proofs.Common.{map}
use Rattle.bl_tree.specs.Reduce.{total}
use Rattle.bl_ctext_semantics.specs.inner.Maps.{text_at}
use Rattle.bl_ctext_semantics.specs.Saturated.{saturated}
use Rattle.bl_ctext_semantics.specs.Sizes.{size_of_param}
use Rattle.bl_ctext_semantics.proofs.SizeLemmas.{Summed}
use Rattle.bl_ctext_semantics.proofs.check.chains.params_size.Given as goal

abbrev pub invariant-loop-param : goal.invariant-loop-param
invariant-loop-param l =
    Summed (size_of_param (text_at l.sizes)) l.params l.param-index l.size (saturated (total (map (size_of_param (text_at l.sizes)) l.params)))
