use Rattle.std.proofs.Common.{List}
use Rattle.bl_graph.specs.Accesses.{links, writers_of}
use Rattle.bl_graph.specs.inner.Gains.{Gains}
use Rattle.bl_graph.specs.inner.Noted.{HasNotesAndFronts, Note, numbers_to}
use Rattle.bl_graph.proofs.flow.found.link_fronts.Given as goal

abbrev pub invariant-loop-k : goal.invariant-loop-k
invariant-loop-k l = (ns : List Note) → HasNotesAndFronts (writers_of l.initial.accesses) l.notes ns
    → Gains l.initial.accesses l.accesses (links l.to (numbers_to ns l.path l.k))
