use Rattle.bl_graph.specs.Accesses.{writers_of}
use Rattle.bl_graph.specs.inner.Found.{swept, writes_before}
use Rattle.bl_graph.specs.inner.Gains.{Gains}
use Rattle.bl_graph.specs.inner.Noted.{HasNotesAndFronts}
use Rattle.bl_graph.proofs.flow.sweep.Given as goal

abbrev pub invariant-loop-span : goal.invariant-loop-span
invariant-loop-span l = record {
  tells : HasNotesAndFronts (writers_of l.accesses) l.notes (writes_before l.nodes l.deep l.branches l.span-index);
  gains : Gains l.initial.accesses l.accesses (swept l.nodes l.deep l.branches l.span-index);
}
