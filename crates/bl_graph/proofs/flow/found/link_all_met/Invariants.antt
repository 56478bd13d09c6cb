use Rattle.std.proofs.Common.{List, take}
use Rattle.bl_graph.specs.Accesses.{writers_of}
use Rattle.bl_graph.specs.inner.Found.{links_met}
use Rattle.bl_graph.specs.inner.Gains.{Gains}
use Rattle.bl_graph.specs.inner.Noted.{HasNotesAndFronts, Note}
use Rattle.bl_graph.proofs.flow.found.link_all_met.Given as goal

abbrev pub invariant-loop-path : goal.invariant-loop-path
invariant-loop-path l = (ns : List Note) → HasNotesAndFronts (writers_of l.initial.accesses) l.notes ns
    → Gains l.initial.accesses l.accesses (links_met ns l.to (take l.path-index l.paths))
