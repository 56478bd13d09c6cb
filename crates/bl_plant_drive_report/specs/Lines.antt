-- The lines that tell of plants, each with its line feed.
use Rattle.std.specs.Prelude.{ℕ, ℤ, List, [], ◌∷◌, ◌++◌, codes, decimal, Result, Ok, Err}
use Rattle.std.specs.Fmt.{signed_decimal}
use Rattle.bl_plant_drive.specs.declared.driven.Gone.{Gone}
use Rattle.bl_plant_drive.specs.declared.fault.DriveFault.{DriveFault}
use Rattle.bl_plant_drive.specs.declared.fault.DriveFault.TheVariants as fault

-- a plant has finished, after so many rows
unfoldable pub gone_line : Gone → List ℕ
gone_line gone = codes "plant " ++ (decimal gone.name.number ++ (codes " finished after " ++ (decimal gone.rows ++ codes " rows\n")))

-- the plants that have finished
abbrev pub gone_lines : List Gone → List ℕ
gone_lines [] = []
gone_lines (gone ∷ rest) = gone_line gone ++ gone_lines rest

-- words, a number and words behind it
abbrev pub number_line : List ℕ → ℕ → List ℕ → List ℕ
number_line words number end = words ++ (decimal number ++ end)

-- the plants that are named have so many columns together, and so many inputs are wanted
unfoldable pub width_line : ℕ → ℕ → List ℕ
width_line given wanted = codes "plant shape: width " ++ (decimal given ++ (codes " of " ++ (decimal wanted ++ codes "\n")))

-- the number of an input is outside its type
unfoldable pub range_line : ℕ → ℤ → List ℕ
range_line column number = codes "plant shape: column " ++ (decimal column ++ (codes " number " ++ (signed_decimal number ++ codes "\n")))

-- why a drive has stopped; nothing for want of memory
abbrev pub fault_line : DriveFault → List ℕ
fault_line (fault.Failed name) = number_line (codes "plant ") name.number (codes " failed\n")
fault_line (fault.Absent name) = number_line (codes "plant shape: absent ") name.number (codes "\n")
fault_line (fault.Twice name) = number_line (codes "plant shape: twice ") name.number (codes "\n")
fault_line (fault.Width given wanted) = width_line given wanted
fault_line (fault.Range column number) = range_line column number
fault_line fault.NoMemory = []

-- the line that says why a drive has stopped, if it has
abbrev pub line_after : Result (Unit {0}) DriveFault → List ℕ
line_after (Ok done) = []
line_after (Err fault) = fault_line fault
