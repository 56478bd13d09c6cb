use Rattle.std.proofs.Common.{map, rules}
use Rattle.std.specs.List.{list_all, list_any}
use Rattle.bl_simplify_laws_frames.specs.Reached.{entry_fits, frame_fits, frame_for, holds_of_zero, is_struct_type, member_type}
use Rattle.bl_simplify_facts.specs.declared.entries.Entry.{Entry}
use Rattle.bl_simplify_facts.specs.Entries.{facts_of, valuation}
use Rattle.bl_simplify_frames.specs.Told.{as_frame, as_frames, part_of}
use Rattle.bl_simplify_calls.proofs.Standing.{all_next}
use Rattle.bl_simplify_frames.proofs.OnLists.{all_mapped}
use Rattle.bl_simplify_frames.proofs.fits.case_fits.Goals as goal

pub loop-entry-preserved : goal.loop-entry-preserved
loop-entry-preserved c =
    all_next (λ (x : Entry). entry_fits c.args.structs.now (as_frame c.args.frame.now) (x.spot, x.fact)) c.args.case.now c.loop-entry.entry-index c.entry-item.result c.loop-entry.fits _ _ c.loop-entry-test.true c.entry-item.is
    c.entry_fits-fits.ensures c.loop-entry.invariant

pub returns : goal.returns
returns c =
    all_mapped (λ (e : Entry). (e.spot, e.fact)) (λ x. entry_fits c.args.structs.now (as_frame c.args.frame.now) x) c.args.case.now c.loop-entry.entry-index c.loop-entry.fits c.loop-entry-test.false c.loop-entry.invariant
