use Rattle.std.proofs.Common.{◌++◌, ◌∷◌, [], ap, ◌∙◌}
use Rattle.bl_limits_measures.specs.Saturated.{saturated}
use Rattle.bl_limits_measures.specs.Types.{fields_size}
use Rattle.bl_limits_measures.proofs.Orders.{told_more}
use Rattle.bl_limits_measures.proofs.TypeLemmas.{fields_size_respects}
use Rattle.bl_limits_measures.proofs.types.struct_sizes.Goals as goal

pub loop-def-preserved : goal.loop-def-preserved
loop-def-preserved c =
    told_more fields_size c.loop-def.sizes c.push.new.self c.args.structs.now c.loop-def.def-index c.def-item.result
    fields_size_respects c.loop-def-test.true c.def-item.is c.loop-def.invariant
    (c.in_ok-push.ensures.ok ∙ ap (λ n. c.loop-def.sizes ++ n ∷ [])
    (c.fields_size-size.ensures ∙ ap (λ known. saturated (fields_size known c.def-item.result)) c.deref.ensures))
