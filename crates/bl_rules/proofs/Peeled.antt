-- The peeled units of a program, and what they keep.
use Rattle.std.specs.Prelude.{◌↔◌}
use Rattle.bl_cause_trees.specs.Laws.{PeeledAreJudged, UnitsArePeeled}
use Rattle.bl_peel_laws.specs.Places.{PeeledPlacesDecide, PeeledRunsDecide}
use Rattle.bl_peel_laws.specs.Rules.{PeeledUnitsPass}
use Rattle.bl_peel_laws_typing.specs.Typing.{PeeledKeepsTyping}
use Rattle.bl_rules.specs.Laws.{PeeledKeepGraphRules, PeeledKeepUnitRules, PeeledStayTyped}

pub peeled_typed : UnitsArePeeled → PeeledPlacesDecide → PeeledRunsDecide → PeeledKeepsTyping → PeeledStayTyped
peeled_typed peel places runs typed structs units entry keeps shallow ordered peeled are =
    let peels = peel units peeled are in
    typed structs units peeled entry keeps shallow peels (places units peeled peels ordered) (runs units peeled peels ordered keeps.runs_decide)

pub peeled_pass_units : UnitsArePeeled → PeeledUnitsPass → PeeledKeepUnitRules
peeled_pass_units peel pass units peeled are passes = pass units peeled (peel units peeled are) passes

pub peeled_pass_graphs : PeeledAreJudged → PeeledKeepGraphRules
peeled_pass_graphs judged units peeled are passes r p a f = passes r p a ((judged units peeled are r p a).1 f)
