-- A controller's state as bytes, and how bytes that are none show it.
use Rattle.std.specs.Prelude.{◌≡◌, ℕ, ◌+◌, ◌<◌, ◌≤◌, ℤ, true, List, ◌++◌, length, take}
use Rattle.bl_tree.specs.Ports.{in_ranges}
use Rattle.bl_ctext_semantics.specs.Cells.{cells_of, numbers_of}
use Rattle.bl_ctext_semantics.specs.Memory.{Memory}
use Rattle.bl_ctext_semantics.specs.Parts.{Parts}
use Rattle.bl_ctext_semantics.specs.Trace.{start_succeeds}
use Rattle.bl_crun_ports.specs.Layout.{kinds_of}
use Rattle.bl_crun.specs.Running.{Running}
use Rattle.bl_save.specs.Bytes.{state_bytes}
use Rattle.bl_save.specs.declared.fault.StateFault.{StateFault}
use Rattle.bl_save.specs.declared.fault.StateFault.TheVariants.{BadState}

-- the bytes are the saved state of a file with these numbers in its cells, in the ranges of their types. The file's start doesn't trap
pub record SavedState (file : Parts) (numbers : List ℤ) (bytes : List ℕ) : Type 0 where
  pub starts : start_succeeds file ≡ true
  pub fit : in_ranges (kinds_of file) numbers ≡ true
  pub written : bytes ≡ state_bytes (kinds_of file) numbers

-- the bytes are the saved state of the file's cells in the memory
abbrev pub Saves : Parts → Memory → List ℕ → Type 0
Saves file memory bytes = SavedState file (numbers_of (cells_of file) memory) bytes

-- the bytes begin a saved state of a file
pub record BeginsState (file : Parts) (front : List ℕ) : Type 0 where
  pub rest : List ℕ
  pub numbers : List ℤ
  pub saved : SavedState file numbers (front ++ rest)

-- bytes first fail to be a saved state here: the least n such that the first n + 1 bytes begin none, or the number of bytes if all of them begin one
pub record ShowsBadState (file : Parts) (bytes : List ℕ) (at : ℕ) : Type 0 where
  pub none : (numbers : List ℤ) → SavedState file numbers bytes → ⊥
  pub within : at ≤ length bytes
  pub before : (n : ℕ) → n < at → BeginsState file (take (n + 1) bytes)
  pub here : at < length bytes → BeginsState file (take (at + 1) bytes) → ⊥

-- bytes are the saved state of at most one memory of a file
abbrev pub OneMemory : Parts → Type 0
OneMemory file = (numbers others : List ℤ) (bytes : List ℕ) → SavedState file numbers bytes → SavedState file others bytes → numbers ≡ others

-- ---- runners

-- a runner whose cells have other numbers
abbrev pub with_numbers : Running → List ℤ → Running
with_numbers r numbers = record { parts = r.parts; cells = numbers; ready = r.ready; live = r.live }

-- the runner has the cells of a saved state, and is as before otherwise
pub record HasRestored (before : Running) (bytes : List ℕ) (after : Running) : Type 0 where
  pub numbers : List ℤ
  pub saved : SavedState before.parts numbers bytes
  pub runner : after ≡ with_numbers before numbers

-- why a state isn't restored to a runner
abbrev pub IsFaultOf : Parts → List ℕ → StateFault → Type 0
IsFaultOf file bytes (BadState at) = ShowsBadState file bytes at
