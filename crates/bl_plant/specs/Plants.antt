-- What plants show, and how they answer.
use Rattle.std.specs.Prelude.{◌≡◌, ◌≤◌, ℕ, ℤ, List, [], ◌∷◌, ◌++◌, Option, Some, None, IfSome, Result, Ok, Err}
use Rattle.bl_io.specs.Count.{Rose}
use Rattle.bl_plant.specs.declared.log.Log.{Log}
use Rattle.bl_plant.specs.declared.plant.Give.{Give}
use Rattle.bl_plant.specs.declared.plant.Give.TheVariants as give
use Rattle.bl_tree.specs.declared.memory.NoMemory.{NoMemory}

-- what a plant shows
pub record PlantView : Type 0 where
  pub name : ℕ
  -- how many numbers a row that it gives has
  pub width : ℕ
  pub log : Log
  -- the count of the plant's faults
  pub faults : ℕ
  -- the plant's rule, where it tells one: by its log, the row that it gives when asked, or that it is finished
  pub rule : Option (Log → Option (List ℤ))

-- the plant is the same: it keeps its name, its width and its rule, and its count of faults never falls
pub record IsSame (before after : PlantView) : Type 0 where
  pub name : after.name ≡ before.name
  pub width : after.width ≡ before.width
  pub rule : after.rule ≡ before.rule
  pub faults : before.faults ≤ after.faults

-- a log with one more row that was given
abbrev pub with_given : Log → List ℤ → Log
with_given log row = record { given = log.given ++ row ∷ []; told = log.told }

-- a log with one more row that was told
abbrev pub with_told : Log → List ℤ → Log
with_told log row = record { given = log.given; told = log.told ++ row ∷ [] }

-- the plant's rule, if it tells one, answers this for its log
abbrev pub AsRuled : PlantView → Option (List ℤ) → Type 0
AsRuled p answer = IfSome p.rule (λ rule. rule p.log ≡ answer)

-- what each answer to whom asks for a row says, and what it leaves of the log
abbrev pub AnsweredBy : PlantView → Give → List ℤ → PlantView → Type 0
AnsweredBy before give.Gave row after = (after.log ≡ with_given before.log row) × AsRuled before (Some row)
AnsweredBy before give.Finished row after = (after.log ≡ before.log) × AsRuled before None
AnsweredBy before give.Failed row after = (after.log ≡ before.log) × Rose before.faults after.faults
AnsweredBy before give.NoMemory row after = after.log ≡ before.log

-- a plant has given this answer when asked for a row
pub record Gives (before : PlantView) (answer : Give) (row : List ℤ) (after : PlantView) : Type 0 where
  pub same : IsSame before after
  pub answered : AnsweredBy before answer row after

-- the log of a plant that was told a row, or for which memory was refused
abbrev pub LogTold : Log → List ℤ → Result (Unit {0}) NoMemory → Log → Type 0
LogTold before row (Ok done) after = after ≡ with_told before row
LogTold before row (Err e) after = after ≡ before

-- a plant was told a row
pub record IsTold (before : PlantView) (row : List ℤ) (answer : Result (Unit {0}) NoMemory) (after : PlantView) : Type 0 where
  pub same : IsSame before after
  pub told : LogTold before.log row answer after.log
