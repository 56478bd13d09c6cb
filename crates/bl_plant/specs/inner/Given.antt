-- What a plant that gives a row leaves.
use Rattle.std.specs.Prelude.{◌≡◌, ℤ, List}
use Rattle.bl_plant.specs.Plants.{with_given}
use Rattle.bl_plant.specs.declared.log.Log.{Log}
use Rattle.bl_plant.specs.declared.plant.Give.{Give}
use Rattle.bl_plant.specs.declared.plant.Give.TheVariants as give

-- the row was given and kept in the log, or memory was refused
abbrev pub IsGiven : Log → List ℤ → Give → List ℤ → Log → Type 0
IsGiven before row give.Gave into after = (into ≡ row) × (after ≡ with_given before row)
IsGiven before row give.Finished into after = ⊥
IsGiven before row give.Failed into after = ⊥
IsGiven before row give.NoMemory into after = after ≡ before
