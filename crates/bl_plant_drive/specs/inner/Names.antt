-- What the tests of names and widths say.
use Rattle.std.specs.Prelude.{◌≡◌, ◌≢◌, ℕ, List, ◌∷◌, ◌++◌, true, Result, Ok, Err, None, nat_eq}
use Rattle.std.specs.List.{IsDistinct, list_any}
use Rattle.bl_ctext_semantics.specs.Saturated.{saturated}
use Rattle.bl_plant_drive.specs.Drives.{AreThere, widths_of}
use Rattle.bl_plant_drive.specs.Roles.{first_named}
use Rattle.bl_plant_drive.specs.declared.fault.DriveFault.{DriveFault}
use Rattle.bl_plant_drive.specs.declared.fault.DriveFault.TheVariants as fault
use Rattle.bl_plant.specs.Plants.{PlantView}

-- a name that means no plant, the first such
pub record HasAbsent (plants : List PlantView) (names : List ℕ) (name : ℕ) : Type 0 where
  pub earlier : List ℕ
  pub later : List ℕ
  pub names_are : names ≡ earlier ++ name ∷ later
  pub there : AreThere plants earlier
  pub none : first_named name plants ≡ None

-- whether each name means a plant
abbrev pub AreMeant : List PlantView → List ℕ → Result (Unit {0}) DriveFault → Type 0
AreMeant plants names (Ok done) = AreThere plants names
AreMeant plants names (Err (fault.Absent name)) = HasAbsent plants names name.number
AreMeant plants names (Err (fault.Failed name)) = ⊥
AreMeant plants names (Err (fault.Twice name)) = ⊥
AreMeant plants names (Err (fault.Width given wanted)) = ⊥
AreMeant plants names (Err (fault.Range column number)) = ⊥
AreMeant plants names (Err fault.NoMemory) = ⊥

-- a name that was named before, the first such
pub record HasTwice (names : List ℕ) (name : ℕ) : Type 0 where
  pub earlier : List ℕ
  pub later : List ℕ
  pub names_are : names ≡ earlier ++ name ∷ later
  pub distinct : IsDistinct nat_eq earlier
  pub again : list_any (nat_eq name) earlier ≡ true

-- whether no name is named twice
abbrev pub AreDistinct : List ℕ → Result (Unit {0}) DriveFault → Type 0
AreDistinct names (Ok done) = IsDistinct nat_eq names
AreDistinct names (Err (fault.Twice name)) = HasTwice names name.number
AreDistinct names (Err (fault.Failed name)) = ⊥
AreDistinct names (Err (fault.Absent name)) = ⊥
AreDistinct names (Err (fault.Width given wanted)) = ⊥
AreDistinct names (Err (fault.Range column number)) = ⊥
AreDistinct names (Err fault.NoMemory) = ⊥

-- whether both hold, the first one tested first
abbrev pub AreNamed : List PlantView → List ℕ → Result (Unit {0}) DriveFault → Type 0
AreNamed plants names (Ok done) = AreThere plants names × IsDistinct nat_eq names
AreNamed plants names (Err (fault.Absent name)) = HasAbsent plants names name.number
AreNamed plants names (Err (fault.Twice name)) = AreThere plants names × HasTwice names name.number
AreNamed plants names (Err (fault.Failed name)) = ⊥
AreNamed plants names (Err (fault.Width given wanted)) = ⊥
AreNamed plants names (Err (fault.Range column number)) = ⊥
AreNamed plants names (Err fault.NoMemory) = ⊥

-- the plants have another number of columns
pub record HasOtherWidth (plants : List PlantView) (names : List ℕ) (wanted given : ℕ) (told : ℕ) : Type 0 where
  pub given_is : given ≡ saturated (widths_of plants names)
  pub told_is : told ≡ wanted
  pub differ : widths_of plants names ≢ wanted

-- whether the plants that are named have so many columns
abbrev pub IsWide : List PlantView → List ℕ → ℕ → Result (Unit {0}) DriveFault → Type 0
IsWide plants names wanted (Ok done) = widths_of plants names ≡ wanted
IsWide plants names wanted (Err (fault.Width given told)) = HasOtherWidth plants names wanted given told
IsWide plants names wanted (Err (fault.Failed name)) = ⊥
IsWide plants names wanted (Err (fault.Absent name)) = ⊥
IsWide plants names wanted (Err (fault.Twice name)) = ⊥
IsWide plants names wanted (Err (fault.Range column number)) = ⊥
IsWide plants names wanted (Err fault.NoMemory) = ⊥
