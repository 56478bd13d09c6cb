use Rattle.std.proofs.Common.{ap, ◌∙◌}
use Rattle.bl_limits_measures.specs.Saturated.{saturated}
use Rattle.bl_limits_measures.specs.Types.{size_by, struct_sizes}
use Rattle.bl_limits_measures.proofs.TypeLemmas.{size_alike}
use Rattle.bl_limits_measures.proofs.measures.Measures.size.Goals as goal

pub returns : goal.returns
returns c = λ structs units told.
    c.size_by.ensures ∙ ap (λ known. saturated (size_by known c.args.ty.now)) (c.deref.ensures ∙ told.sizes)
    ∙ size_alike (struct_sizes structs) c.args.ty.now
