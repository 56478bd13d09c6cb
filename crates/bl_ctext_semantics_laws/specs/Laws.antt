-- What holds of every C file that is run over numbered cells.
use Rattle.bl_tree.specs.Ports.{in_ranges, row_fits}
use Rattle.std.specs.Prelude.{◌≡◌, ◌≤◌, ℕ, ◌+◌, ℤ, pos, true, List, [], ◌∷◌, ◌++◌, map, length, take, drop, replicate, codes, is_some}
use Rattle.std.specs.List.{list_all}
use Rattle.bl_tree.specs.declared.text.Text.{Text}
use Rattle.bl_tree.specs.declared.scalar.Scalar.{Scalar}
use Rattle.bl_ctext_semantics.specs.Parts.{Parts}
use Rattle.bl_ctext_semantics.specs.Memory.{Memory, state_object, input_object, output_object}
use Rattle.bl_ctext_semantics.specs.Tables.{entry_or, found, no_entries}
use Rattle.bl_ctext_semantics.specs.Meaning.{CallResult}
use Rattle.bl_ctext_semantics.specs.Cells.{cells_of, inputs_of, numbers_of, outputs_of}
use Rattle.bl_ctext_semantics.specs.Sizes.{cells_needed, sizes}
use Rattle.bl_ctext_semantics.specs.Trace.{TickOfFile, call_from_outside, object, reply_of, start_cells, start_succeeds, tick_c}
use Rattle.bl_ctext_semantics.specs.Faults.{WellFormed}
use Rattle.bl_ctext_semantics_laws.specs.Fitting.{cell_holds}
use Rattle.bl_ctext_semantics_laws.specs.Layout.{capped_sizes, layouts}
use Rattle.bl_ctext_semantics_laws.specs.Flat.{Cells, FlatAnswer, Routine, applied, routines_after, with_args}

-- ---- a call from outside

-- the routine of each function of a file, over numbered cells
abbrev pub routines : Parts → List (Text × Routine)
routines file = routines_after (capped_sizes file.structs) (layouts file.structs) no_entries file.funcs

-- how many cells the struct of a name has
abbrev pub cells_in : Parts → Text → ℕ
cells_in file name = entry_or 0 (sizes file.structs) name

-- the first cell of the input object, which stands behind the state
abbrev pub input_at : Parts → ℕ
input_at file = cells_in file (codes "bl_state")

-- the first cell of the output object, which stands behind the input
abbrev pub output_at : Parts → ℕ
output_at file = input_at file + cells_in file (codes "bl_in")

-- how many cells the three objects have
abbrev pub behind_objects : Parts → ℕ
behind_objects file = output_at file + cells_in file (codes "bl_out")

-- a call of a function of the file whose frame begins behind the objects
unfoldable pub entered_flat : Parts → Text → List ℤ → Cells → FlatAnswer ℤ
entered_flat file name args cells = applied (found name (routines file)) (behind_objects file) args cells

-- ---- what holds

-- a call in a C text and over numbered cells agree: counts and answers are the same, and the first cells have the numbers of the three objects' scalars, in
-- their ranges
pub record SameCall (file : Parts) (c : CallResult) (l : FlatAnswer ℤ) : Type 0 where
  pub count : c.count ≡ l.count
  pub answer : c.result ≡ l.answer
  pub cells : take (length (cells_of file)) l.cells ≡ numbers_of (cells_of file) c.memory
  pub room : cells_needed file ≤ length l.cells
  pub fits : list_all (cell_holds c.memory) (cells_of file) ≡ true

-- calls agree from a memory whose scalars are in their ranges, over cells with their numbers and as many others as the file needs
abbrev pub CallsAgree : Parts → Text → (Memory → CallResult) → List ℤ → Type 0
CallsAgree file name call args =
    WellFormed file → cells_needed file ≤ 1000000 → (memory : Memory) (others : List ℤ) → list_all (cell_holds memory) (cells_of file) ≡ true →
    cells_needed file ≤ length (numbers_of (cells_of file) memory ++ others) →
    SameCall file (call memory) (entered_flat file name args (numbers_of (cells_of file) memory ++ others))

-- ticks agree in a C text and over numbered cells
abbrev pub TicksAgree : Parts → Type 0
TicksAgree file =
    CallsAgree file (codes "bl_tick") (call_from_outside file (codes "bl_tick") (object state_object ∷ object input_object ∷ object output_object ∷ []))
    (pos 0 ∷ pos (input_at file) ∷ pos (output_at file) ∷ [])

-- the start
abbrev pub StartsAgree : Parts → Type 0
StartsAgree file = CallsAgree file (codes "bl_init") (call_from_outside file (codes "bl_init") (object state_object ∷ [])) (pos 0 ∷ [])

-- ---- ticks and the start, by the numbers alone

-- the types of the three objects' scalars
abbrev pub kinds_of : Parts → List Scalar
kinds_of file = map (λ cell. cell.kind) (cells_of file)

-- whether there is a number for each of the scalars, in its range
abbrev pub Fitting : Parts → List ℤ → Type 0
Fitting file numbers = in_ranges (kinds_of file) numbers ≡ true

-- a tick in a C text and over numbered cells
pub record SameTick (file : Parts) (t : TickOfFile) (l : FlatAnswer ℤ) : Type 0 where
  pub count : t.count ≡ l.count
  pub reply : t.reply ≡ reply_of l.answer
  pub cells : take (length (cells_of file)) l.cells ≡ t.cells
  pub outputs : take (length (outputs_of file)) (drop (output_at file + 1) l.cells) ≡ t.outputs
  pub room : cells_needed file ≤ length l.cells
  pub fits : Fitting file t.cells

-- a tick over cells of which the first have the numbers of the three objects' scalars, once those of the inputs are set to a row
abbrev pub TicksRun : Parts → Type 0
TicksRun file = WellFormed file → cells_needed file ≤ 1000000 → (numbers others ins : List ℤ) → Fitting file numbers →
    row_fits (inputs_of file) ins ≡ true →
    cells_needed file ≤ length (numbers ++ others) →
    SameTick file (tick_c file numbers ins)
    (entered_flat file (codes "bl_tick") (pos 0 ∷ pos (input_at file) ∷ pos (output_at file) ∷ [])
    (with_args (input_at file + 1) ins (numbers ++ others)))

-- the start in a C text and over numbered cells
pub record SameStart (file : Parts) (l : FlatAnswer ℤ) : Type 0 where
  pub ready : start_succeeds file ≡ is_some l.answer
  pub cells : take (length (cells_of file)) l.cells ≡ start_cells file
  pub room : cells_needed file ≤ length l.cells
  pub fits : Fitting file (start_cells file)

-- a start over cells of which those of the three objects are 0
abbrev pub StartsRun : Parts → Type 0
StartsRun file = WellFormed file → cells_needed file ≤ 1000000 → (others : List ℤ) →
    cells_needed file ≤ length (replicate (length (cells_of file)) (pos 0) ++ others) →
    SameStart file (entered_flat file (codes "bl_init") (pos 0 ∷ []) (replicate (length (cells_of file)) (pos 0) ++ others))
