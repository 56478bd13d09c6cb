use Rattle.std.proofs.Common.{take}
use Rattle.bl_graph.specs.inner.Found.{notes_of}
use Rattle.bl_graph.specs.inner.Noted.{NotingAll}
use Rattle.bl_graph.proofs.flow.notes.Notes.note_all.Given as goal

abbrev pub invariant-loop-path : goal.invariant-loop-path
invariant-loop-path l = NotingAll l.initial.accesses l.accesses l.initial.self l.self (notes_of l.node (take l.path-index l.paths))
