-- Files that one text spells have the same saved states, and runs go on from them alike.
use Rattle.std.proofs.Common.{◌≡◌, ◌∙◌, ℕ, ℤ, Bool, true, false, List, [], ◌∷◌, map, refl, sym, ap, subst}
use Rattle.std.specs.Prelude.{◌↔◌, is_some}
use Rattle.bl_crun_ports.specs.Layout.{kinds_of}
use Rattle.bl_ctext_semantics.specs.Faults.{WellFormed}
use Rattle.bl_ctext_semantics.specs.Parts.{Parts, parts_of}
use Rattle.bl_ctext_semantics.specs.Trace.{TickOfFile, c_trace_from, cells_after, cells_if, start_cells, start_succeeds, tick_c, traced}
use Rattle.bl_ctext_semantics_laws_places.specs.Behaviour.{Behaviour, behaviour_of}
use Rattle.bl_ctext_semantics_laws_places.specs.Bytes.{Behaves}
use Rattle.bl_top_commands.specs.Exec.{HasFile}
use Rattle.bl_top_commands.specs.Resumed.{LeavesState}
use Rattle.bl_ctext.specs.SpellsC.{SpellsC}
use Rattle.bl_ctext.specs.declared.file.CFile.{CFile}
use Rattle.bl_save.specs.Bytes.{state_bytes}
use Rattle.bl_save.specs.States.{SavedState}
use Rattle.bl_tree.specs.Ports.{RowsFit, in_ranges}
use Rattle.bl_tree.specs.declared.row.Last.TheVariants.{Open}
use Rattle.bl_tree.specs.declared.row.Trace.{Trace}

-- ---- what a file does, by its ticks alone

abbrev trace_by : (List ℤ → List ℤ → TickOfFile) → List (List ℤ) → List ℤ → Trace
trace_by tick [] cells = record { rows = []; last = Open }
trace_by tick (ins ∷ rows) cells = traced (tick cells ins).reply (tick cells ins).outputs (trace_by tick rows (tick cells ins).cells)

abbrev cells_by : (List ℤ → List ℤ → TickOfFile) → List (List ℤ) → List ℤ → List ℤ
cells_by tick [] cells = cells
cells_by tick (ins ∷ rows) cells = cells_by tick rows (tick cells ins).cells

by_ticks : (file : Parts) (rows : List (List ℤ)) (cells : List ℤ) → c_trace_from file rows cells ≡ trace_by (tick_c file) rows cells
by_ticks file [] cells = refl
by_ticks file (ins ∷ rows) cells =
    ap (traced (tick_c file cells ins).reply (tick_c file cells ins).outputs) (by_ticks file rows (tick_c file cells ins).cells)

after_ticks : (file : Parts) (rows : List (List ℤ)) (cells : List ℤ) → cells_after file rows cells ≡ cells_by (tick_c file) rows cells
after_ticks file [] cells = refl
after_ticks file (ins ∷ rows) cells = after_ticks file rows (tick_c file cells ins).cells

some_if : (b : Bool) (cells : List ℤ) → is_some (cells_if b cells) ≡ b
some_if true cells = refl
some_if false cells = refl

-- ---- two files that behave alike

module _ (file other : Parts) (same : behaviour_of file ≡ behaviour_of other) where
  pub traces_alike : (rows : List (List ℤ)) (cells : List ℤ) → c_trace_from file rows cells ≡ c_trace_from other rows cells
  traces_alike rows cells =
      by_ticks file rows cells ∙ ap (λ (b : Behaviour). trace_by b.tick rows cells) same ∙ sym (by_ticks other rows cells)

  cells_alike : (rows : List (List ℤ)) (cells : List ℤ) → cells_after file rows cells ≡ cells_after other rows cells
  cells_alike rows cells =
      after_ticks file rows cells ∙ ap (λ (b : Behaviour). cells_by b.tick rows cells) same ∙ sym (after_ticks other rows cells)

  pub starts_alike : start_succeeds file ≡ start_succeeds other
  starts_alike =
      sym (some_if (start_succeeds file) (start_cells file)) ∙ ap (λ (b : Behaviour). is_some b.start) same ∙ some_if (start_succeeds other) (start_cells other)

  kinds_alike : kinds_of file ≡ kinds_of other
  kinds_alike = ap (λ (b : Behaviour). map (λ cell. cell.kind) b.cells) same

  pub saved_alike : (numbers : List ℤ) (bytes : List ℕ) → SavedState file numbers bytes → SavedState other numbers bytes
  saved_alike numbers bytes saved = record {
    starts = sym starts_alike ∙ saved.starts;
    fit = ap (λ kinds. in_ranges kinds numbers) (sym kinds_alike) ∙ saved.fit;
    written = saved.written ∙ ap (λ kinds. state_bytes kinds numbers) kinds_alike;
  }

  after_alike : (first : List (List ℤ)) → cells_after file first (start_cells file) ≡ cells_after other first (start_cells other)
  after_alike first = cells_alike first (start_cells file) ∙ ap (λ (b : Behaviour). cells_after other first b.started) same

  pub leaves_alike : (first : List (List ℤ)) (state : List ℕ) → LeavesState file first state → LeavesState other first state
  leaves_alike first state leaves = record {
    fit = subst (λ (b : Behaviour). RowsFit b.inputs first) same leaves.fit;
    running = ap (λ (b : Behaviour). (b.trace first).last) (sym same) ∙ leaves.running;
    saved = subst (λ cells. SavedState other cells state) (after_alike first)
        (saved_alike (cells_after file first (start_cells file)) state leaves.saved);
  }

-- ---- the files of a text

-- each file that bytes spell behaves as they do
abbrev pub EachBehaves : Type 0
EachBehaves = (file : CFile) (bytes : List ℕ) (behaviour : Behaviour) → SpellsC file bytes →
    Behaves bytes behaviour ↔ (WellFormed (parts_of file) × (behaviour ≡ behaviour_of (parts_of file)))

-- so does the one that is run
module _ (each : EachBehaves) (text : List ℕ) (behaviour : Behaviour) (behaves : Behaves text behaviour) (file : Parts) (has : HasFile text file) where
  spelled_behaves : WellFormed (parts_of has.spelled) × (behaviour ≡ behaviour_of (parts_of has.spelled))
  spelled_behaves = (each has.spelled text behaviour has.spells).0 behaves

  pub file_formed : WellFormed file
  file_formed = subst WellFormed (sym has.parts) spelled_behaves.0

  pub file_behaves : behaviour ≡ behaviour_of file
  file_behaves = spelled_behaves.1 ∙ ap behaviour_of (sym has.parts)

pub files_alike : EachBehaves → (text : List ℕ) (behaviour : Behaviour) → Behaves text behaviour → (file other : Parts) → HasFile text file →
    HasFile text other → behaviour_of file ≡ behaviour_of other
files_alike each text behaviour behaves file other has too =
    sym (file_behaves each text behaviour behaves file has) ∙ file_behaves each text behaviour behaves other too
