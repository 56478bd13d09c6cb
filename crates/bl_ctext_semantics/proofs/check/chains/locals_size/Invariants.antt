use Rattle.std.proofs.Common.{map}
use Rattle.bl_tree.specs.Reduce.{total}
use Rattle.bl_ctext_semantics.specs.inner.Maps.{text_at}
use Rattle.bl_ctext_semantics.specs.Saturated.{saturated}
use Rattle.bl_ctext_semantics.specs.Sizes.{size_of_type}
use Rattle.bl_ctext_semantics.proofs.SizeLemmas.{Summed}
use Rattle.bl_ctext_semantics.proofs.check.chains.locals_size.Given as goal

abbrev pub invariant-loop-local : goal.invariant-loop-local
invariant-loop-local l =
    Summed (λ v. size_of_type (text_at l.sizes) v.ty) l.locals l.local-index l.size
    (saturated (total (map (λ v. size_of_type (text_at l.sizes) v.ty) l.locals)))
