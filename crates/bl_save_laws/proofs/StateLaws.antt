-- Saved states, and traces that go on from them.
use Rattle.std.proofs.Common.{◌≡◌, ◌∙◌, refl, sym, ap, subst, arith, ℕ, ◌<◌, inl, inr, ℤ, Bool}
use Rattle.std.proofs.Common.{true, List, [], ◌∷◌, ◌++◌}
use Rattle.std.proofs.lemmas.Bool.{cases_lt}
use Rattle.bl_tree.specs.declared.row.Trace.{Trace}
use Rattle.bl_tree.specs.declared.row.Last.TheVariants.{Open}
use Rattle.bl_ctext_semantics.specs.Parts.{Parts}
use Rattle.bl_ctext_semantics.proofs.TraceLemmas.{goes-on}
use Rattle.bl_ctext_semantics.specs.Trace.{c_trace, c_trace_from, cells_after, cells_if, start_cells, start_succeeds, tick_c, trace_after, trace_then}
use Rattle.bl_save.specs.States.{OneMemory, SavedState, ShowsBadState}
use Rattle.bl_save_laws.specs.Laws.{OnePlace, OneState, StateGoesOn, StatesJoin, TraceGoesOn}

-- a trace of a file whose start doesn't trap goes on from what the start leaves
started-trace : (file : Parts) (rows : List (List ℤ)) → start_succeeds file ≡ true → c_trace file rows ≡ c_trace_from file rows (start_cells file)
started-trace file rows starts = ap (λ (b : Bool). trace_after file (cells_if b (start_cells file)) rows) starts

pub trace-goes_on : (file : Parts) → TraceGoesOn file
trace-goes_on file first rest starts running =
    let from : c_trace file first ≡ c_trace_from file first (start_cells file) = started-trace file first starts in
    let from_start : (c_trace_from file first (start_cells file)).last ≡ Open = ap (λ (t : Trace). t.last) (sym from) ∙ running in
    started-trace file (first ++ rest) starts ∙ goes-on file first rest (start_cells file) from_start
    ∙ ap (λ (t : Trace). trace_then t (c_trace_from file rest (cells_after file first (start_cells file)))) (sym from)

-- and from what their saved state stands for
pub state-goes_on : (file : Parts) → OneMemory file → StateGoesOn file
state-goes_on file one first rest bytes numbers running saved read =
    let same = one (cells_after file first (start_cells file)) numbers bytes saved read in
    trace-goes_on file first rest saved.starts running ∙ ap (λ (ns : List ℤ). trace_then (c_trace file first) (c_trace_from file rest ns)) same

-- cells after rows and then others
cells-join : (file : Parts) (first rest : List (List ℤ)) (cells : List ℤ) →
    cells_after file rest (cells_after file first cells) ≡ cells_after file (first ++ rest) cells
cells-join file [] rest cells = refl
cells-join file (ins ∷ first) rest cells = cells-join file first rest (tick_c file cells ins).cells

pub states-join : (file : Parts) → OneMemory file → StatesJoin file
states-join file one first rest bytes further numbers saved read again =
    subst (λ cells. SavedState file cells further)
    (ap (cells_after file rest) (one numbers (cells_after file first (start_cells file)) bytes read saved) ∙ cells-join file first rest (start_cells file))
    again

-- places: the earlier of two can't be one
not-before : (file : Parts) (bytes : List ℕ) (here there : ℕ) → ShowsBadState file bytes here → ShowsBadState file bytes there → here < there →
    ⊥
not-before file bytes here there first second early = first.here (omega (arith, second.within)) (second.before here early)

pub one-place : (file : Parts) → OnePlace file
one-place file bytes here there first second =
    elim (cases_lt here there) [
      | inl early ↦ absurd (not-before file bytes here there first second early)
      | inr late ↦ elim (cases_lt there here) [
        | inl early ↦ absurd (not-before file bytes there here second first early)
        | inr same ↦ omega arith
      ]
    ]

pub one-state : (file : Parts) → OneState file
one-state file numbers bytes others first second = first.written ∙ sym second.written
