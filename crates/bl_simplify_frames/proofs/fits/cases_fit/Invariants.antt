use Rattle.std.proofs.Common.{◌≡◌, ◌&&◌, drop, map}
use Rattle.std.specs.List.{list_all, list_any}
use Rattle.bl_simplify_laws_frames.specs.Reached.{entry_fits, frame_fits, frame_for, holds_of_zero, is_struct_type, member_type}
use Rattle.bl_simplify_facts.specs.Entries.{facts_of, valuation}
use Rattle.bl_simplify_frames.specs.Told.{as_frame, as_frames, part_of}
use Rattle.bl_simplify_frames.proofs.fits.cases_fit.Given as goal

abbrev pub invariant-loop-case : goal.invariant-loop-case
invariant-loop-case l =
    (l.fit && list_all (λ x. list_all (entry_fits l.structs (as_frame l.frame)) (valuation x)) (drop l.case-index l.cases)) ≡ list_all (λ x. list_all (entry_fits l.structs (as_frame l.frame)) (valuation x)) l.cases
