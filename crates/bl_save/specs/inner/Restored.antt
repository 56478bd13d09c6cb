-- What a runner is whose cells were set to numbers that bytes stand for.
use Rattle.std.specs.Prelude.{◌≡◌, ℕ, ℤ, true, List}
use Rattle.bl_tree.specs.Ports.{in_ranges}
use Rattle.bl_crun_ports.specs.Layout.{kinds_of}
use Rattle.bl_crun.specs.Running.{Running}
use Rattle.bl_save.specs.Bytes.{cells_bytes}
use Rattle.bl_save.specs.States.{with_numbers}

-- the runner's cells were set to the numbers, in the ranges of their types, that the bytes stand for
pub record HasPut (before : Running) (bytes : List ℕ) (after : Running) : Type 0 where
  pub numbers : List ℤ
  pub fit : in_ranges (kinds_of before.parts) numbers ≡ true
  pub written : bytes ≡ cells_bytes (kinds_of before.parts) numbers
  pub runner : after ≡ with_numbers before numbers
