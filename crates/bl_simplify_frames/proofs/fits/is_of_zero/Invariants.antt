use Rattle.std.proofs.Common.{◌≡◌, ◌&&◌, drop, map}
use Rattle.std.specs.List.{list_all, list_any}
use Rattle.bl_simplify_laws_frames.specs.Reached.{entry_fits, frame_fits, frame_for, holds_of_zero, is_struct_type, member_type}
use Rattle.bl_simplify_facts.specs.declared.entries.Entry.{Entry}
use Rattle.bl_simplify_facts.specs.Entries.{facts_of, valuation}
use Rattle.bl_simplify_frames.specs.Told.{as_frame, as_frames, part_of}
use Rattle.bl_simplify_frames.proofs.fits.is_of_zero.Given as goal

abbrev pub invariant-loop-entry : goal.invariant-loop-entry
invariant-loop-entry l =
    (l.holds && list_all (λ (x : Entry). holds_of_zero x.fact) (drop l.entry-index l.case)) ≡ list_all (λ (x : Entry). holds_of_zero x.fact) l.case
