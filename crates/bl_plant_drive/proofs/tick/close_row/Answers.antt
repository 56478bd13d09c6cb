use Rattle.std.proofs.Common.{refl}
use Rattle.bl_plant_drive.specs.inner.Ticks.{hearing_of}
use Rattle.bl_plant_drive.proofs.Closing.{tells-none}
use Rattle.bl_plant_drive.proofs.Ticking.{row-recorded, told-too-short}
use Rattle.bl_plant_drive.proofs.tick.close_row.Goals as goal

pub tell_all-requires : goal.tell_all-requires
tell_all-requires g c =
    let given = c.requires in (
      hearing_of given.0 c.args.into.now c.args.ins c.args.outs,
      refl,
      tells-none given.0 _ _ c.args.into.now c.args.ins c.args.outs given.1,
    )

pub returns-in_err-tell_all : goal.returns-in_err-tell_all
returns-in_err-tell_all g c = λ s has.
    told-too-short s c.args.into.now _ _ c.args.last _ _ _ c.from_residual.result c.from_residual.ensures.1
    (c.in_err-tell_all.ensures (hearing_of s c.args.into.now c.args.ins c.args.outs) refl (tells-none s _ _ c.args.into.now c.args.ins c.args.outs has))

pub returns : goal.returns
returns g c = λ s has.
    row-recorded s c.args.into.now _ _ c.args.last _ _ _ c.record_row.result
    (c.in_ok-tell_all.ensures (hearing_of s c.args.into.now c.args.ins c.args.outs) refl (tells-none s _ _ c.args.into.now c.args.ins c.args.outs has))
    c.record_row.ensures.ok c.record_row.ensures.err
