use Rattle.std.proofs.Common.{◌++◌, ◌∷◌, [], ap, ◌∙◌}
use Rattle.bl_limits_measures.specs.Saturated.{saturated}
use Rattle.bl_limits_measures.specs.Types.{fields_nesting}
use Rattle.bl_limits_measures.proofs.Orders.{told_more}
use Rattle.bl_limits_measures.proofs.TypeLemmas.{fields_nesting_respects}
use Rattle.bl_limits_measures.proofs.types.struct_nestings.Goals as goal

pub loop-def-preserved : goal.loop-def-preserved
loop-def-preserved c =
    told_more fields_nesting c.loop-def.nestings c.push.new.self c.args.structs.now c.loop-def.def-index c.def-item.result
    fields_nesting_respects c.loop-def-test.true c.def-item.is c.loop-def.invariant
    (c.in_ok-push.ensures.ok ∙ ap (λ n. c.loop-def.nestings ++ n ∷ [])
    (c.fields_nesting-nesting.ensures ∙ ap (λ known. saturated (fields_nesting known c.def-item.result)) c.deref.ensures))
