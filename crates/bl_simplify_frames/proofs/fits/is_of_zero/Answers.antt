use Rattle.std.proofs.Common.{map, rules}
use Rattle.std.specs.List.{list_all, list_any}
use Rattle.bl_simplify_laws_frames.specs.Reached.{entry_fits, frame_fits, frame_for, holds_of_zero, is_struct_type, member_type}
use Rattle.bl_simplify_facts.specs.declared.entries.Entry.{Entry}
use Rattle.bl_simplify_laws.specs.declared.facts.CSpot.{CSpot}
use Rattle.bl_simplify_laws.specs.declared.facts.Fact.{Fact}
use Rattle.bl_simplify_facts.specs.Entries.{facts_of, valuation}
use Rattle.bl_simplify_frames.specs.Told.{as_frame, as_frames, part_of}
use Rattle.bl_simplify_calls.proofs.Standing.{all_next}
use Rattle.bl_simplify_frames.proofs.OnLists.{all_mapped}
use Rattle.bl_simplify_frames.proofs.fits.is_of_zero.Goals as goal

pub loop-entry-preserved : goal.loop-entry-preserved
loop-entry-preserved c =
    all_next (λ (x : Entry). holds_of_zero x.fact) c.args.case.now c.loop-entry.entry-index c.entry-item.result c.loop-entry.holds _ _ c.loop-entry-test.true c.entry-item.is
    c.holds_of_zero-holds.ensures c.loop-entry.invariant

pub returns : goal.returns
returns c =
    all_mapped (λ (e : Entry). (e.spot, e.fact)) (λ (x : CSpot × Fact). holds_of_zero x.1) c.args.case.now c.loop-entry.entry-index c.loop-entry.holds c.loop-entry-test.false c.loop-entry.invariant
