use Rattle.std.proofs.Common.{◌≡◌, ◌++◌, map}
use Rattle.bl_ctree.specs.Store.{Location}
use Rattle.bl_ctree_store.specs.Seen.{location_of}
use Rattle.bl_ctree_run.specs.inner.Writers.{of_variable, writes_by, writes_kept}
use Rattle.bl_ctree_run.proofs.writers.Writers.note_all.Given as goal

abbrev pub invariant-loop-home : goal.invariant-loop-home
invariant-loop-home l = (at : Location) → writes_kept l.self at ≡ writes_kept l.initial.self at
    ++ of_variable at (writes_by l.branch (map location_of l.yielded))
