-- Cells that are read and set.
use Rattle.std.proofs.Common.{◌≡◌, ℕ, zero, suc, ◌<◌, ℤ, Bool, true, List, [], ◌∷◌, length, take, slice_get, slice_set, Some, refl, ap, sym, subst}
use Rattle.std.proofs.Common.{◌∙◌, arith, length-set, length-take-le}
use Rattle.std.proofs.lemmas.List.{length-map}
use Rattle.bl_tree.specs.declared.scalar.Scalar.{Scalar}
use Rattle.bl_tree.specs.Scalar.{in_range}
use Rattle.bl_tree.specs.Ports.{in_ranges}
use Rattle.bl_ctext_semantics_laws.specs.Flat.{cell_at}
use Rattle.bl_crun_code.specs.Vm.{VmState}
use Rattle.bl_crun_code_vm.specs.Steps.{with_cells}
use Rattle.bl_crun.specs.Running.{Running, with_cell}
use Rattle.bl_crun.proofs.Loops.{cell-there}
use Rattle.bl_ctext_semantics.specs.Cells.{cells_of}
use Rattle.bl_ctext_semantics.specs.Parts.{Parts}
use Rattle.bl_crun_ports.specs.Layout.{kinds_of}
use Rattle.bl_crun.specs.declared.prepared.Prepared.{Prepared}
use Rattle.bl_crun.specs.Done.{first_cells}
use Rattle.bl_crun.specs.Prepared.{PreparedInvariant, cell_numbers}
use Rattle.bl_crun.proofs.Cells.{cells-long}
use Rattle.bl_crun.proofs.Keeping.{kept}
use Rattle.bl_crun.proofs.Rows.{ranges-at, ranges-set, set-taken}

get-taken : (n : ℕ) (xs : List ℤ) (k : ℕ) → k < n → slice_get (take n xs) k ≡ slice_get xs k
get-taken zero xs k h = absurd (omega arith)
get-taken (suc n) [] k h = refl
get-taken (suc n) (x ∷ xs) zero h = refl
get-taken (suc n) (x ∷ xs) (suc k) h = get-taken n xs k (omega arith)

kind-there : (ts : List Scalar) (k : ℕ) → k < length ts → (t : Scalar) × (slice_get ts k ≡ Some t)
kind-there [] k h = absurd (omega arith)
kind-there (t ∷ ts) zero h = (t, refl)
kind-there (t ∷ ts) (suc k) h = kind-there ts k (omega arith)

kinds-within : (ts : List Scalar) (k : ℕ) (t : Scalar) → slice_get ts k ≡ Some t → k < length ts
kinds-within [] k t h = cc
kinds-within (u ∷ ts) zero t h = omega arith
kinds-within (u ∷ ts) (suc k) t h = let e = kinds-within ts k t h in omega arith

module _ (file : Parts) (p : Prepared) (keeps : PreparedInvariant file p) where
  pub cells-are : p.base ≡ length (cells_of file)
  cells-are = keeps.base ∙ sym (cells-long file keeps.runs.formed)

  kinds-long : length (kinds_of file) ≡ length (cells_of file)
  kinds-long = length-map (cells_of file) (λ c. c.kind)

  pub cell-within : (k : ℕ) → k < length (cells_of file) → k < length p.machine.cells
  cell-within k h = let a = cells-long file keeps.runs.formed in let b = keeps.cells.room in omega arith

  -- each cell has a number
  pub numbers-whole : length (cells_of file) ≡ length (cell_numbers p)
  numbers-whole =
      let long : length p.kinds.items ≡ length (cells_of file) = ap length keeps.kinds ∙ kinds-long in
      let a = cells-long file keeps.runs.formed in let b = keeps.cells.room in
      sym (length-take-le (length p.kinds.items) p.machine.cells (omega arith) ∙ long)

  pub cell-number : (k : ℕ) (n : ℤ) → k < length (cells_of file) → slice_get p.machine.cells k ≡ Some n →
      slice_get (cell_numbers p) k ≡ Some n
  cell-number k n h there =
      let long : length p.kinds.items ≡ length (cells_of file) = ap length keeps.kinds ∙ kinds-long in
      get-taken (length p.kinds.items) p.machine.cells k (omega arith) ∙ there

  pub cell-range : (k : ℕ) (kind : Scalar) (n : ℤ) → slice_get (kinds_of file) k ≡ Some kind → slice_get p.machine.cells k ≡ Some n →
      in_range kind n ≡ true
  cell-range k kind n is there =
      ranges-at (kinds_of file) (first_cells file p.machine.cells) k kind n keeps.cells.ranges is
      (get-taken (length (kinds_of file)) p.machine.cells k (kinds-within (kinds_of file) k kind is) ∙ there)

  pub put-keeps : (k : ℕ) (n : ℤ) → k < length (cells_of file) →
      ((kind : Scalar) → slice_get (kinds_of file) k ≡ Some kind → in_range kind n ≡ true) →
      PreparedInvariant file (record p { machine = with_cells p.machine (slice_set p.machine.cells k n) })
  put-keeps k n h fits =
      let t = kind-there (kinds_of file) k (let e = kinds-long in omega arith) in
      kept file p (with_cells p.machine (slice_set p.machine.cells k n)) keeps refl refl (record {
        room = let e = length-set p.machine.cells k n in let b = keeps.cells.room in omega arith;
        ranges =
            ap (in_ranges (kinds_of file)) (set-taken (length (kinds_of file)) p.machine.cells k n)
            ∙ ranges-set (kinds_of file) (first_cells file p.machine.cells) k t.0 n keeps.cells.ranges t.1 (fits t.0 t.1);
      })

  pub put-numbers : (k : ℕ) (n : ℤ) → cell_numbers (record p { machine = with_cells p.machine (slice_set p.machine.cells k n) })
      ≡ slice_set (cell_numbers p) k n
  put-numbers k n = set-taken (length p.kinds.items) p.machine.cells k n

-- ---- the same, as a runner shows it

-- a runner of a file, from what it keeps of it
abbrev pub shown : Parts → Prepared → Bool → Bool → Running
shown file p ready live = record { parts = file; cells = cell_numbers p; ready = ready; live = live }

module _ (file : Parts) (p : Prepared) (keeps : PreparedInvariant file p) (ready live : Bool) (r : Running) (is : shown file p ready live ≡ r) where
  shown-within : (k : ℕ) → k < length (cells_of r.parts) → k < length (cells_of file)
  shown-within k h = subst (λ (s : Running). k < length (cells_of s.parts)) (sym is) h

  pub shown-cells : p.base ≡ length (cells_of r.parts)
  shown-cells = subst (λ (s : Running). p.base ≡ length (cells_of s.parts)) is (cells-are file p keeps)

  pub shown-whole : p.base ≡ length r.cells
  shown-whole = subst (λ (s : Running). p.base ≡ length s.cells) is (cells-are file p keeps ∙ numbers-whole file p keeps)

  pub shown-number : (k : ℕ) (n : ℤ) → k < length (cells_of r.parts) → n ≡ cell_at p.machine.cells k → slice_get r.cells k ≡ Some n
  shown-number k n h at =
      let within = shown-within k h in
      ap (λ (s : Running). slice_get s.cells k) (sym is)
      ∙ cell-number file p keeps k n within (cell-there p.machine.cells k n (cell-within file p keeps k within) at)

  pub shown-range : (k : ℕ) (n : ℤ) → k < length (cells_of r.parts) → n ≡ cell_at p.machine.cells k → (kind : Scalar) →
      slice_get (kinds_of r.parts) k ≡ Some kind → in_range kind n ≡ true
  shown-range k n h at kind there =
      let within = shown-within k h in
      cell-range file p keeps k kind n (ap (λ (s : Running). slice_get (kinds_of s.parts) k) is ∙ there)
      (cell-there p.machine.cells k n (cell-within file p keeps k within) at)

  pub shown-put : (k : ℕ) (n : ℤ) (m : VmState) → m ≡ with_cells p.machine (slice_set p.machine.cells k n) →
      shown file (record p { machine = m }) ready live ≡ with_cell r k n
  shown-put k n m set =
      ap (λ x. shown file (record p { machine = x }) ready live) set
      ∙ ap (λ (ns : List ℤ). record { parts = file; cells = ns; ready = ready; live = live }) (put-numbers file p keeps k n)
      ∙ ap (λ s. with_cell s k n) is

  pub shown-keeps : (k : ℕ) (n : ℤ) (m : VmState) → k < length (cells_of r.parts) →
      ((kind : Scalar) → slice_get (kinds_of r.parts) k ≡ Some kind → in_range kind n ≡ true) →
      m ≡ with_cells p.machine (slice_set p.machine.cells k n) → PreparedInvariant file (record p { machine = m })
  shown-keeps k n m h fits set =
      subst (λ x. PreparedInvariant file (record p { machine = x })) (sym set)
      (put-keeps file p keeps k n (shown-within k h) (λ kind there. fits kind (ap (λ (s : Running). slice_get (kinds_of s.parts) k) (sym is) ∙ there)))
