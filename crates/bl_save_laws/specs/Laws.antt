-- What holds of saved states, and of runs that go on from them.
use Rattle.std.specs.Prelude.{◌≡◌, ℕ, ◌+◌, ◌*◌, ◌≤◌, ℤ, true, List, ◌++◌, length}
use Rattle.bl_tree.specs.declared.row.Last.TheVariants.{Open}
use Rattle.bl_ctext_semantics.specs.Faults.{WellFormed}
use Rattle.bl_ctext_semantics.specs.Parts.{Parts}
use Rattle.bl_ctext_semantics.specs.Sizes.{cells_needed}
use Rattle.bl_ctext_semantics.specs.Trace.{c_trace, c_trace_from, cells_after, start_cells, start_succeeds, trace_then}
use Rattle.bl_save.specs.States.{SavedState, ShowsBadState}

-- a memory of a file has at most one saved state
abbrev pub OneState : Parts → Type 0
OneState file = (numbers : List ℤ) (bytes others : List ℕ) → SavedState file numbers bytes → SavedState file numbers others → bytes ≡ others

-- bytes first fail to be a saved state at one place only
abbrev pub OnePlace : Parts → Type 0
OnePlace file = (bytes : List ℕ) (here there : ℕ) → ShowsBadState file bytes here → ShowsBadState file bytes there → here ≡ there

-- a saved state has at most eight bytes for each cell that the file needs, behind ten others
abbrev pub ShortStates : Parts → Type 0
ShortStates file = WellFormed file → (numbers : List ℤ) (bytes : List ℕ) → SavedState file numbers bytes → length bytes ≤ 8 * cells_needed file + 10

-- where the start doesn't trap: if a run is open after its first rows, the trace over all rows is theirs, followed by that from the cells they leave
abbrev pub TraceGoesOn : Parts → Type 0
TraceGoesOn file = (first rest : List (List ℤ)) → start_succeeds file ≡ true → (c_trace file first).last ≡ Open →
    c_trace file (first ++ rest) ≡ trace_then (c_trace file first) (c_trace_from file rest (cells_after file first (start_cells file)))

-- a run that was stopped while open has the same trace when it goes on from the saved state of its cells
abbrev pub StateGoesOn : Parts → Type 0
StateGoesOn file = (first rest : List (List ℤ)) (bytes : List ℕ) (numbers : List ℤ) → (c_trace file first).last ≡ Open →
    SavedState file (cells_after file first (start_cells file)) bytes → SavedState file numbers bytes →
    c_trace file (first ++ rest) ≡ trace_then (c_trace file first) (c_trace_from file rest numbers)

-- the state saved after a run that went on from a saved state is the state after all rows
abbrev pub StatesJoin : Parts → Type 0
StatesJoin file = (first rest : List (List ℤ)) (bytes further : List ℕ) (numbers : List ℤ) →
    SavedState file (cells_after file first (start_cells file)) bytes → SavedState file numbers bytes →
    SavedState file (cells_after file rest numbers) further → SavedState file (cells_after file (first ++ rest) (start_cells file)) further
