use Rattle.std.proofs.Common.{ap, ◌∙◌, subst, sym}
use Rattle.std.specs.Prelude.{◌≡◌, Some, slice_get}
use Rattle.bl_graph.proofs.Ending.{of_unit, unit_at}
use Rattle.bl_graph.proofs.graph.graph_of.Goals as goal

pub returns : goal.returns
returns c =
    of_unit c.args.program.now.units c.args.unit c.deref-2.result.now c.graph_of_body.result
    (λ of there. c.deref-2.ensures ∙ ap (λ unit. unit.body) (unit_at c.deref.result.now c.args.unit of
    (subst (λ units. slice_get units c.args.unit ≡ Some of) (sym c.deref.ensures) there) c.index-deref-unit.result))
    c.graph_of_body.ensures
