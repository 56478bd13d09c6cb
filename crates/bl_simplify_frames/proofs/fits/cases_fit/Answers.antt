use Rattle.std.proofs.Common.{List, map, rules, ap, ◌∙◌}
use Rattle.std.specs.List.{list_all, list_any}
use Rattle.bl_simplify_laws_frames.specs.Reached.{entry_fits, frame_fits, frame_for, holds_of_zero, is_struct_type, member_type}
use Rattle.bl_simplify_facts.specs.declared.entries.Entry.{Entry}
use Rattle.bl_simplify_facts.specs.Entries.{facts_of, valuation}
use Rattle.bl_simplify_frames.specs.Told.{as_frame, as_frames, part_of}
use Rattle.bl_simplify_calls.proofs.Standing.{all_next}
use Rattle.bl_simplify_frames.proofs.OnLists.{all_mapped}
use Rattle.bl_simplify_frames.proofs.fits.cases_fit.Goals as goal

pub loop-case-preserved : goal.loop-case-preserved
loop-case-preserved c =
    all_next (λ x. list_all (entry_fits c.args.structs.now (as_frame c.args.frame.now)) (valuation x)) c.args.cases.now c.loop-case.case-index c.case-item.result c.loop-case.fit _ _ c.loop-case-test.true c.case-item.is
    (c.case_fits-fit.ensures ∙ ap (λ (l : List Entry). list_all (entry_fits c.args.structs.now (as_frame c.args.frame.now)) (valuation l)) c.deref.ensures) c.loop-case.invariant

pub returns : goal.returns
returns c =
    all_mapped valuation (λ x. list_all (entry_fits c.args.structs.now (as_frame c.args.frame.now)) x) c.args.cases.now c.loop-case.case-index c.loop-case.fit c.loop-case-test.false c.loop-case.invariant
