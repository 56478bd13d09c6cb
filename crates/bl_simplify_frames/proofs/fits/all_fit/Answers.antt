use Rattle.std.proofs.Common.{map, rules}
use Rattle.std.specs.List.{list_all, list_any}
use Rattle.bl_simplify_laws_frames.specs.Reached.{entry_fits, frame_fits, frame_for, holds_of_zero, is_struct_type, member_type}
use Rattle.bl_simplify_facts.specs.Entries.{facts_of, valuation}
use Rattle.bl_simplify_frames.specs.Told.{as_frame, as_frames, part_of}
use Rattle.bl_simplify_calls.proofs.Standing.{all_next}
use Rattle.bl_simplify_frames.proofs.OnLists.{all_mapped}
use Rattle.bl_simplify_frames.proofs.fits.all_fit.Goals as goal

pub loop-frame-preserved : goal.loop-frame-preserved
loop-frame-preserved c =
    all_next (λ x. frame_fits c.args.structs.now (as_frames c.args.frames.now) (as_frame x)) c.args.frames.now c.loop-frame.frame-index c.frame-item.result c.loop-frame.fit _ _ c.loop-frame-test.true c.frame-item.is
    c.frame_fits-fit.ensures c.loop-frame.invariant

pub returns : goal.returns
returns c =
    all_mapped as_frame (λ x. frame_fits c.args.structs.now (as_frames c.args.frames.now) x) c.args.frames.now c.loop-frame.frame-index c.loop-frame.fit c.loop-frame-test.false c.loop-frame.invariant
