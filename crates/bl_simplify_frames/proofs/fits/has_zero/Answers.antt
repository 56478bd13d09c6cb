use Rattle.std.proofs.Common.{List, map, rules, ap, ◌∙◌}
use Rattle.std.specs.List.{list_all, list_any}
use Rattle.bl_simplify_laws_frames.specs.Reached.{entry_fits, frame_fits, frame_for, holds_of_zero, is_struct_type, member_type}
use Rattle.bl_simplify_facts.specs.declared.entries.Entry.{Entry}
use Rattle.bl_simplify_facts.specs.Entries.{facts_of, valuation}
use Rattle.bl_simplify_frames.specs.Told.{as_frame, as_frames, part_of}
use Rattle.bl_simplify_frames.proofs.OnLists.{any_next, some_mapped}
use Rattle.bl_simplify_frames.proofs.fits.has_zero.Goals as goal

pub loop-case-preserved : goal.loop-case-preserved
loop-case-preserved c =
    any_next (λ x. list_all (λ entry. holds_of_zero entry.1) (valuation x)) c.args.cases.now c.loop-case.case-index c.case-item.result c.loop-case.some _ _ c.loop-case-test.true c.case-item.is
    (c.is_of_zero-some.ensures ∙ ap (λ (l : List Entry). list_all (λ entry. holds_of_zero entry.1) (valuation l)) c.deref.ensures) c.loop-case.invariant

pub returns : goal.returns
returns c =
    some_mapped valuation (λ x. list_all (λ entry. holds_of_zero entry.1) x) c.args.cases.now c.loop-case.case-index c.loop-case.some c.loop-case-test.false c.loop-case.invariant
