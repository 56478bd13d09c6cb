-- Why a file isn't accepted.
use Rattle.std.specs.Prelude.{◌≡◌, Some}
use Rattle.bl_ctext_semantics.specs.declared.check.CheckFault.{CheckFault}
use Rattle.bl_ctext_semantics.specs.declared.check.CheckFault.TheVariants.{IllFormed, NoMemory}
use Rattle.bl_ctext_semantics.specs.Faults.{first_fault}
use Rattle.bl_ctext_semantics.specs.Parts.{Parts}

-- the cause of a fault: an ill-formed file first fails at the place; want of memory needs no cause
abbrev pub IsCause : Parts → CheckFault → Type 0
IsCause file (IllFormed at) = first_fault file ≡ Some at
IsCause file NoMemory = Unit {0}
