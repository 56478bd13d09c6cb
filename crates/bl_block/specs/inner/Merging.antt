-- What is made of one activity with its tick graph, and of a list of them.
use Rattle.std.specs.Prelude.{List}
use Rattle.bl_graph.specs.declared.tick_graph.Graph.{Graph}
use Rattle.bl_tree.specs.declared.tree.Unit.{Unit as UnitDef}
use Rattle.bl_cause.specs.Activities.{IsGraphOf}
use Rattle.bl_machine.specs.declared.machine.Activity.{Activity}
use Rattle.bl_machine.specs.Machines.{IsActivityOf}
use Rattle.bl_block.specs.Merged.{EachThree, IsMergedFrom}

-- `to` is merged from `from`: for every unit of which these are an activity and a tick graph, it is an activity of the unit too
abbrev pub Merges : Activity → Graph → Activity → Type 0
Merges from graph to =
    (unit : UnitDef) → IsGraphOf unit graph → IsActivityOf unit from → IsActivityOf unit to × IsMergedFrom unit from to

-- each activity of the second list is merged from the one at its position in the first, with the tick graph there
abbrev pub EachMerges : List Activity → List Graph → List Activity → Type 0
EachMerges from graphs to = EachThree Merges from graphs to
