-- Bytes that leave the shape of a state show there that they are none, and those that have it are one.
use Rattle.std.proofs.Common.{◌≡◌, ◌∙◌, sym, ap, subst, arith, ℕ, ◌+◌, suc, ◌<◌, ℤ, true, false, List, ◌++◌}
use Rattle.std.proofs.Common.{length, map, take, drop, Option, Some, None}
use Rattle.std.proofs.lemmas.List.{length-map, take-append-drop}
use Rattle.bl_tree.proofs.Basics.{not_both}
use Rattle.bl_tree.specs.Ports.{in_ranges}
use Rattle.bl_ctext_semantics.specs.Cells.{cells_of}
use Rattle.bl_ctext_semantics.specs.Parts.{Parts}
use Rattle.bl_ctext_semantics.specs.Trace.{start_succeeds}
use Rattle.bl_crun_ports.specs.Layout.{kinds_of}
use Rattle.bl_save.specs.Bytes.{cells_bytes, state_header}
use Rattle.bl_save.specs.States.{BeginsState, SavedState, ShowsBadState}
use Rattle.bl_save.specs.inner.Shapes.{Allowed, cells_shape, earlier, exactly, misfit, state_shape}
use Rattle.bl_save.proofs.Shaped.{completes, leaves-there, misfit-within}
use Rattle.bl_save.proofs.States.{are-state, numbers_in, state-fits}

-- bytes of that shape are a saved state
pub has-state : (file : Parts) (bytes : List ℕ) → start_succeeds file ≡ true → misfit (state_shape (kinds_of file)) bytes ≡ None →
    SavedState file (numbers_in (kinds_of file) (drop 10 bytes)) bytes
has-state file bytes starts fits =
    let state = are-state (kinds_of file) bytes fits in
    record { starts = starts; fit = state.range; written = sym state.written }

-- and a saved state has it
pub state-shape : (file : Parts) (numbers : List ℤ) (bytes : List ℕ) → SavedState file numbers bytes →
    misfit (state_shape (kinds_of file)) bytes ≡ None
state-shape file numbers bytes saved = ap (misfit (state_shape (kinds_of file))) saved.written ∙ state-fits (kinds_of file) numbers saved.fit

-- a place is none
apart : (o : Option ℕ) (at : ℕ) → o ≡ Some at → o ≡ None → ⊥
apart None at some none = cc
apart (Some n) at some none = cc

-- the types of the cells are as many as these
pub count-kinds : (file : Parts) → length (kinds_of file) ≡ length (cells_of file)
count-kinds file = length-map (cells_of file) _

-- where bytes leave it
pub bad-state : (file : Parts) (bytes : List ℕ) (at : ℕ) → start_succeeds file ≡ true → misfit (state_shape (kinds_of file)) bytes ≡ Some at →
    ShowsBadState file bytes at
bad-state file bytes at starts leaves = record {
  none = λ numbers saved. apart (misfit (state_shape (kinds_of file)) bytes) at leaves (state-shape file numbers bytes saved);
  within = misfit-within (state_shape (kinds_of file)) bytes at leaves;
  before = λ n early. begins n early;
  here = λ within begun. ends within begun;
}
  where
    begins : (n : ℕ) → n < at → BeginsState file (take (n + 1) bytes)
    begins n early =
        let full = completes (n + 1) (state_shape (kinds_of file)) bytes at leaves (omega arith) in
        record {
          rest = full.rest;
          numbers = numbers_in (kinds_of file) (drop 10 (take (n + 1) bytes ++ full.rest));
          saved = has-state file (take (n + 1) bytes ++ full.rest) starts full.fits;
        }

    ends : at < length bytes → BeginsState file (take (at + 1) bytes) → ⊥
    ends within begun =
        let fits : misfit (state_shape (kinds_of file)) (take (at + 1) bytes ++ begun.rest) ≡ None =
        state-shape file begun.numbers (take (at + 1) bytes ++ begun.rest) begun.saved in
        let same : at + 1 ≡ suc at = omega arith in
        leaves-there (state_shape (kinds_of file)) bytes at begun.rest leaves within
        (subst (λ (k : ℕ). misfit (state_shape (kinds_of file)) (take k bytes ++ begun.rest) ≡ None) same fits)

pub bad-at-once : (file : Parts) (bytes : List ℕ) → start_succeeds file ≡ false → ShowsBadState file bytes 0
bad-at-once file bytes traps = record {
  none = λ numbers saved. not_both (start_succeeds file) traps saved.starts;
  within = omega arith;
  before = λ n early. absurd (omega (arith, early));
  here = λ within begun. not_both (start_succeeds file) traps begun.saved.starts;
}

-- bytes of the shape whose cells are those of numbers are the saved state of these
pub restored-state : (file : Parts) (bytes : List ℕ) (numbers : List ℤ) → start_succeeds file ≡ true →
    misfit (state_shape (kinds_of file)) bytes ≡ None →
    in_ranges (kinds_of file) numbers ≡ true → drop 10 bytes ≡ cells_bytes (kinds_of file) numbers → SavedState file numbers bytes
restored-state file bytes numbers starts fits range cells =
    let state = are-state (kinds_of file) bytes fits in
    record {
      starts = starts;
      fit = range;
      written = sym (take-append-drop 10 bytes) ∙ ap (λ (front : List ℕ). front ++ drop 10 bytes) state.front
          ∙ ap (λ (back : List ℕ). state_header (length (kinds_of file)) ++ back) cells;
    }

-- where bytes leave what a state begins with, and else its cells
pub state-place : (file : Parts) (bytes header : List ℕ) (count : ℕ) (front : Option ℕ) → header ≡ state_header count →
    count ≡ length (cells_of file) →
    ((shape : List Allowed) → misfit (map exactly header ++ shape) bytes ≡ earlier front (length header) (misfit shape (drop (length header) bytes))) →
    misfit (state_shape (kinds_of file)) bytes ≡ earlier front 10 (misfit (cells_shape (kinds_of file)) (drop 10 bytes))
state-place file bytes header count front is counted leaves =
    let same : header ≡ state_header (length (kinds_of file)) = is ∙ ap state_header (counted ∙ sym (count-kinds file)) in
    let shape = cells_shape (kinds_of file) in
    subst (λ (hd : List ℕ). misfit (map exactly hd ++ shape) bytes ≡ earlier front (length hd) (misfit shape (drop (length hd) bytes)))
    same
    (leaves (cells_shape (kinds_of file)))
