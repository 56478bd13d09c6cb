use Rattle.bl_tree.proofs.Basics.{drop_next}
use Rattle.bl_types.specs.Declarations.{field_lengths, field_of}
use Rattle.bl_types.proofs.GatherLemmas.{mapped_one}
use Rattle.bl_types.proofs.NoteLemmas.{joined_noted}
use Rattle.bl_types.proofs.declare.fields.Goals as goal

pub loop-one-preserved : goal.loop-one-preserved
loop-one-preserved c =
    let step = drop_next c.args.all.now c.loop-one.one-index c.one-item.result c.loop-one-test.true c.one-item.is in (
      mapped_one (field_of c.args.env.now) _ _ c.one-item.result c.loop-one.made c.push.new.self _ c.in_ok-field.field-0 step
          c.in_ok-field.ensures.made c.in_ok-push.ensures.ok c.loop-one.invariant.0,
      joined_noted (field_lengths c.args.env.now) _ _ c.one-item.result c.loop-one.notes c.field.new.notes _ step
          c.in_ok-field.ensures.notes c.loop-one.invariant.1,
    )
