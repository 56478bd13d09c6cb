-- The plants of this crate: what they show when they are made, and their rules.
use Rattle.std.specs.Prelude.{◌≡◌, ℕ, ℤ, pos, neg_ℤ, ◌+ℤ◌, ◌-ℤ◌, ◌^◌, ◌+◌, ◌-◌, List, []}
use Rattle.std.specs.Prelude.{◌∷◌, length, fold, nat_lt, if◌then◌else◌, slice_get}
use Rattle.std.specs.Prelude.{slice_index_or, Option, Some, None}
use Rattle.std.specs.Int.{int_max, int_min}
use Rattle.bl_io.specs.Count.{count_up}
use Rattle.bl_plant.specs.Plants.{PlantView, with_given}
use Rattle.bl_plant.specs.declared.log.Log.{Log}
use Rattle.bl_plant.specs.declared.plant.Give.{Give}
use Rattle.bl_plant.specs.declared.plant.Give.TheVariants as give
use Rattle.bl_plant.specs.declared.script.Turn.{Turn}
use Rattle.bl_plant.specs.declared.script.Turn.TheVariants as turn

-- the log of a plant that was never asked and never told anything
abbrev pub no_log : Log
no_log = record { given = []; told = [] }

-- the first output, or 0 where there is none
abbrev pub first_output : List ℤ → ℤ
first_output outs = slice_index_or outs 0 (pos 0)

-- ---- tanks

-- the level once the first output has flown in and the drain out, kept within 0 and 1000
abbrev pub level_then : ℤ → ℤ → List ℤ → ℤ
level_then drain level outs = int_max (pos 0) (int_min (pos 1000) ((level +ℤ first_output outs) -ℤ drain))

-- the level of a tank after rows of outputs
abbrev pub level_after : ℤ → ℤ → List (List ℤ) → ℤ
level_after first drain told = fold (level_then drain) first told

-- the rule of a tank: it gives its level so many times, and then it is finished
abbrev pub tank_rule : ℤ → ℤ → ℕ → Log → Option (List ℤ)
tank_rule first drain rows log = if nat_lt (length log.given) rows then Some (level_after first drain log.told ∷ []) else None

-- a tank that has this log
abbrev pub tank : ℤ → ℤ → ℕ → Log → PlantView
tank first drain rows log = record { name = 1; width = 1; log = log; faults = 0; rule = Some (tank_rule first drain rows) }

-- ---- ramps

-- the number of a ramp after one more row, within 64 bits
abbrev pub ramp_then : ℤ → ℤ → ℤ
ramp_then step number = int_max (neg_ℤ (pos (2 ^ 63))) (int_min (pos (2 ^ 63 - 1)) (number +ℤ step))

-- the number of a ramp after so many rows: it grows by a step each time
abbrev pub ramp_at : ℤ → ℤ → List (List ℤ) → ℤ
ramp_at first step given = fold (λ number row. ramp_then step number) first given

-- a ramp gives a number and never finishes
abbrev pub ramp_rule : ℤ → ℤ → Log → Option (List ℤ)
ramp_rule first step log = Some (ramp_at first step log.given ∷ [])

-- a ramp that has this log
abbrev pub ramp : ℤ → ℤ → Log → PlantView
ramp first step log = record { name = 2; width = 1; log = log; faults = 0; rule = Some (ramp_rule first step) }

-- ---- scripts

-- the rows that turns give, in order
abbrev pub rows_in : List Turn → List (List ℤ)
rows_in [] = []
rows_in (turn.Give row ∷ turns) = row ∷ rows_in turns
rows_in (turn.Fail ∷ turns) = rows_in turns

-- each row that turns give has this width
abbrev pub AreWide : ℕ → List Turn → Type 0
AreWide width turns = (k : ℕ) (row : List ℤ) → slice_get (rows_in turns) k ≡ Some row → length row ≡ width

-- a script gives the rows of its turns, by the number of rows given, and then it is finished
abbrev pub script_rule : List Turn → Log → Option (List ℤ)
script_rule turns log = slice_get (rows_in turns) (length log.given)

-- a script that has this log and so many faults
abbrev pub script : ℕ → ℕ → List Turn → Log → ℕ → PlantView
script name width turns log faults = record { name = name; width = width; log = log; faults = faults; rule = Some (script_rule turns) }

-- where a script is: how many turns it has taken, what it gave and was told, and its count of faults
pub record ScriptState : Type 0 where
  pub taken : ℕ
  pub log : Log
  pub faults : ℕ

-- a script that has given this row in its turn
abbrev pub turn_given : ScriptState → List ℤ → ScriptState
turn_given s row = record { taken = s.taken + 1; log = with_given s.log row; faults = s.faults }

-- a script that has failed in its turn
abbrev pub turn_failed : ScriptState → ScriptState
turn_failed s = record { taken = s.taken + 1; log = s.log; faults = count_up s.faults }

-- the answer to whom asks in a turn that gives a row: the row comes, or memory is refused and the turn is still to be taken
abbrev pub AnswersRow : ScriptState → List ℤ → Give → List ℤ → ScriptState → Type 0
AnswersRow before row give.Gave into after = (into ≡ row) × (after ≡ turn_given before row)
AnswersRow before row give.Finished into after = ⊥
AnswersRow before row give.Failed into after = ⊥
AnswersRow before row give.NoMemory into after = after ≡ before

-- the answer to whom asks a script that has reached this turn, and where it is then; past its last turn it has finished
abbrev pub AnswersTurn : Option Turn → ScriptState → Give → List ℤ → ScriptState → Type 0
AnswersTurn None before answer into after = (answer ≡ give.Finished) × (after ≡ before)
AnswersTurn (Some turn.Fail) before answer into after = (answer ≡ give.Failed) × (after ≡ turn_failed before)
AnswersTurn (Some (turn.Give row)) before answer into after = AnswersRow before row answer into after
