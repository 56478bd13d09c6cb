use Rattle.std.proofs.Common.{ap, ◌∙◌, sym}
use Rattle.std.specs.Prelude.{slice_index}
use Rattle.bl_tree.specs.Rules.{is_before}
use Rattle.bl_cause.proofs.BeforeLemmas.{early_fits, late_fits}
use Rattle.bl_cause.proofs.numbers.fits.Goals as goal

pub returns-then-is_before : goal.returns-then-is_before
returns-then-is_before c is =
    early_fits c.args.numbers.now c.args.node c.number_in-high.result c.number_in-low.result c.number_in-data_low.result c.is_next.result
    (is_before c.args.place c.args.at) (c.number_in-high.ensures ∙ ap (λ xs. slice_index xs c.args.node) c.deref.ensures)
    (c.number_in-low.ensures ∙ ap (λ xs. slice_index xs c.args.node) c.deref-2.ensures)
    (c.number_in-data_low.ensures ∙ ap (λ xs. slice_index xs c.args.node) c.deref-3.ensures) c.is_next.ensures is

pub returns-else-is_before : goal.returns-else-is_before
returns-else-is_before c is =
    late_fits c.args.numbers.now c.args.node c.number_in-high.result c.number_in-low.result c.number_in-data_low.result c.is_next-else-is_before.result
    c.is_next-else-is_before-2.result (is_before c.args.place c.args.at) (c.number_in-high.ensures ∙ ap (λ xs. slice_index xs c.args.node) c.deref.ensures)
    (c.number_in-low.ensures ∙ ap (λ xs. slice_index xs c.args.node) c.deref-2.ensures)
    (c.number_in-data_low.ensures ∙ ap (λ xs. slice_index xs c.args.node) c.deref-3.ensures) c.is_next-else-is_before.ensures c.is_next-else-is_before-2.ensures
    (sym c.is_before.ensures ∙ c.if-is_before.false) is
