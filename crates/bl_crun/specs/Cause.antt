-- Why a file isn't loaded.
use Rattle.std.specs.Prelude.{◌≡◌, ◌<◌, ◌≤◌, ℕ, Some}
use Rattle.bl_ctext_semantics.specs.Faults.{WellFormed, first_fault}
use Rattle.bl_ctext_semantics.specs.Parts.{Parts}
use Rattle.bl_ctext_semantics.specs.Saturated.{saturated}
use Rattle.bl_ctext_semantics.specs.Sizes.{cells_needed}
use Rattle.bl_crun.specs.declared.fault.LoadFault.{LoadFault}
use Rattle.bl_crun.specs.declared.fault.LoadFault.TheVariants.{IllFormed, TooLarge, NoMemory}

-- a file that runs: it is well formed and needs at most 1,000,000 cells
pub record IsRunnable (file : Parts) : Type 0 where
  pub formed : WellFormed file
  pub small : cells_needed file ≤ 1000000

-- a well-formed file that needs more than 1,000,000 cells
pub record IsTooLarge (file : Parts) (cells : ℕ) : Type 0 where
  pub formed : WellFormed file
  pub large : 1000000 < cells_needed file
  pub told : cells ≡ saturated (cells_needed file)

-- the cause of a fault: an ill-formed file first fails at the place; want of memory needs no cause
abbrev pub IsCause : Parts → LoadFault → Type 0
IsCause file (IllFormed at) = first_fault file ≡ Some at
IsCause file (TooLarge cells) = IsTooLarge file cells
IsCause file NoMemory = Unit {0}
