use Rattle.std.proofs.Common.{ap, ◌∙◌}
use Rattle.bl_limits_measures.specs.Saturated.{saturated}
use Rattle.bl_limits_measures.specs.Types.{nesting_by, struct_nestings}
use Rattle.bl_limits_measures.proofs.TypeLemmas.{nesting_alike}
use Rattle.bl_limits_measures.proofs.measures.Measures.nesting.Goals as goal

pub returns : goal.returns
returns c = λ structs units told.
    c.nesting_by.ensures ∙ ap (λ known. saturated (nesting_by known c.args.ty.now)) (c.deref.ensures ∙ told.nestings)
    ∙ nesting_alike (struct_nestings structs) c.args.ty.now
