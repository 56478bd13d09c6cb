-- What the plants that are named did in a drive.
use Rattle.std.specs.Prelude.{◌≡◌, ◌<◌, ◌≤◌, ℕ, zero, suc, ℤ, pos, Bool, true, false, ◌&&◌, if◌then◌else◌, List}
use Rattle.std.specs.Prelude.{[], ◌∷◌, ◌++◌, length, map, take, replicate}
use Rattle.std.specs.Prelude.{Option, Some, None, IfSome, nat_eq, slice_get}
use Rattle.std.specs.List.{AllByRecursion, IsDistinct, find, flat_map, list_any}
use Rattle.bl_plant.specs.Plants.{PlantView}
use Rattle.bl_plant_drive.specs.declared.driven.Gone.{Gone}
use Rattle.bl_plant.specs.declared.log.Log.{Log}

-- the plant that a name means: the first of the list that has it
abbrev pub first_named : ℕ → List PlantView → Option PlantView
first_named name plants = find (λ p. nat_eq p.name name) plants

-- what a named plant did in a drive so far
pub record PlantRecord : Type 0 where
  -- the rows that the plant gave, and those that it was told
  pub given : List (List ℤ)
  pub told : List (List ℤ)
  -- the current count of the plant's faults
  pub faults : ℕ
  -- whether the plant answered that it is finished, and was dropped
  pub gone : Bool

-- a named plant as it was handed in, and what it did
pub record Role : Type 0 where
  pub plant : PlantView
  pub part : PlantRecord

-- the plants that the names mean, in the order of the names; none is named twice
pub record IsCast (plants : List PlantView) (names : List ℕ) (cast : List Role) : Type 0 where
  pub named : map (λ r. r.plant.name) cast ≡ names
  pub meant : AllByRecursion (λ r. first_named r.plant.name plants ≡ Some r.plant) cast
  pub distinct : IsDistinct nat_eq names

-- ---- what is left of a list

-- a plant after its part in a drive
abbrev pub after_part : Role → PlantView
after_part r = record {
  name = r.plant.name;
  width = r.plant.width;
  log = record { given = r.plant.log.given ++ r.part.given; told = r.plant.log.told ++ r.part.told };
  faults = r.part.faults;
  rule = r.plant.rule;
}

-- what is left of a plant after its part: nothing where it was dropped
abbrev pub left_of : Role → List PlantView
left_of r = if r.part.gone then [] else after_part r ∷ []

-- the role of the plant that has a name
abbrev pub role_of : ℕ → List Role → Option Role
role_of name [] = None
role_of name (r ∷ cast) = if nat_eq r.plant.name name then Some r else role_of name cast

-- what is left of a plant that has this role, or none
abbrev pub left_by : Option Role → PlantView → List PlantView
left_by None p = p ∷ []
left_by (Some r) p = left_of r

-- what is left of a list of plants, in order. A plant has a role where no earlier one has its name
abbrev pub left_in : List Role → List ℕ → List PlantView → List PlantView
left_in cast earlier [] = []
left_in cast earlier (p ∷ plants) =
    (if list_any (nat_eq p.name) earlier then p ∷ [] else left_by (role_of p.name cast) p) ++ left_in cast (p.name ∷ earlier) plants

-- ---- by its rule

-- the log of a plant in the tick after so many complete ones, with these outputs
abbrev pub log_at : Role → List (List ℤ) → ℕ → Log
log_at r outs k = record { given = r.plant.log.given ++ take k r.part.given; told = r.plant.log.told ++ take k outs }

-- each row that a plant gave is the one that its rule, if it states one, says of its log in that tick
abbrev pub GivesByRule : List (List ℤ) → Role → Type 0
GivesByRule outs r = IfSome r.plant.rule (λ rule. (k : ℕ) (row : List ℤ) → slice_get r.part.given k ≡ Some row → rule (log_at r outs k) ≡ Some row)

-- the rule of a dropped plant says that it is finished in the tick in which it was dropped
abbrev pub EndsByRule : List (List ℤ) → Role → Type 0
EndsByRule outs r = IfSome r.plant.rule (λ rule. rule (log_at r outs (length r.part.given)) ≡ None)

-- a plant that is still there: it gave a row in each tick in which it was asked, and was told these rows
pub record IsThere (rows : List (List ℤ)) (asked : ℕ) (r : Role) : Type 0 where
  pub given : length r.part.given ≡ asked
  pub told : r.part.told ≡ rows

-- a plant that was dropped in the last tick in which it was asked, or before
pub record IsGone (outs : List (List ℤ)) (asked : ℕ) (r : Role) : Type 0 where
  pub earlier : length r.part.given < asked
  pub rule : EndsByRule outs r

-- a plant was asked in so many ticks, whose outputs were these, and told these rows
pub record Plays (outs told : List (List ℤ)) (asked : ℕ) (r : Role) : Type 0 where
  pub rule : GivesByRule outs r
  pub widths : AllByRecursion (λ row. length row ≡ r.plant.width) r.part.given
  pub faults : r.plant.faults ≤ r.part.faults
  pub there : r.part.gone ≡ false → IsThere told asked r
  pub gone : r.part.gone ≡ true → IsGone outs asked r

-- ---- inputs

-- the last row of a list, or this one
abbrev pub last_row : List ℤ → List (List ℤ) → List ℤ
last_row first [] = first
last_row first (row ∷ rows) = last_row row rows

-- the numbers of a plant's columns in the tick after so many complete ones: the last row that it gave, or zeros
abbrev pub numbers_at : ℕ → Role → List ℤ
numbers_at k r = last_row (replicate r.plant.width (pos 0)) (take (suc k) r.part.given)

-- the row of inputs of that tick
abbrev pub inputs_at : ℕ → List Role → List ℤ
inputs_at k cast = flat_map (numbers_at k) cast

-- the rows of inputs of so many ticks
abbrev pub inputs_before : List Role → ℕ → List (List ℤ)
inputs_before cast zero = []
inputs_before cast (suc k) = inputs_before cast k ++ inputs_at k cast ∷ []

-- ---- the plants that were dropped

-- the record of a plant that was dropped in the tick after so many complete ones
abbrev pub gone_in : ℕ → Role → List Gone
gone_in k r = if r.part.gone && nat_eq (length r.part.given) k then record { name = record { number = r.plant.name }; rows = k } ∷ [] else []

-- the plants that were dropped in that tick
abbrev pub gone_at : ℕ → List Role → List Gone
gone_at k cast = flat_map (gone_in k) cast

-- the plants that were dropped in the first k ticks, in the order of dropping
abbrev pub gone_before : List Role → ℕ → List Gone
gone_before cast zero = []
gone_before cast (suc k) = gone_before cast k ++ gone_at k cast
