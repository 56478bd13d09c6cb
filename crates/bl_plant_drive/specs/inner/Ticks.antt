-- Where a drive stands between its ticks, and within one once all plants were asked.
use Rattle.std.specs.Prelude.{◌≡◌, ℕ, suc, ◌<◌, ◌^◌, ℤ, true, List, [], ◌∷◌, ◌++◌, length}
use Rattle.std.specs.Prelude.{map, replicate, pos, false, Result, Ok, Err}
use Rattle.std.specs.List.{AllByRecursion}
use Rattle.bl_crun.specs.Running.{Running, after_tick, answer_of, outputs_after, reply_at}
use Rattle.bl_crun.specs.declared.tick.TickAnswer.{TickAnswer}
use Rattle.bl_crun.specs.declared.tick.TickAnswer.TheVariants as tick
use Rattle.bl_plant_drive.specs.Drives.{DriveEnds, DriveIsOver, DriveSetting, IsShort, columns_in, plant_width, runner_after, trace_over, widths_of}
use Rattle.bl_plant_drive.specs.Roles.{IsCast, Plays, Role, first_named, gone_before, inputs_before, left_in}
use Rattle.bl_plant_drive.specs.declared.driven.Driven.{Driven}
use Rattle.bl_plant_drive.specs.declared.driven.Gone.{Gone}
use Rattle.bl_plant_drive.specs.declared.fault.DriveFault.{DriveFault}
use Rattle.bl_plant_drive.specs.declared.seat.Seat.{Seat}
use Rattle.bl_plant_drive.specs.inner.Round.{RoundEnds, seat_numbers}
use Rattle.bl_plant_drive.specs.inner.Stands.{AskedSoFar, Scene, seat_of}
use Rattle.bl_plant.specs.Plants.{PlantView}
use Rattle.bl_tree.specs.Ports.{RowsFit, row_fits}
use Rattle.bl_tree.specs.declared.memory.NoMemory.{NoMemory}
use Rattle.bl_tree.specs.declared.row.Column.{Column}
use Rattle.bl_tree.specs.declared.row.Last.{Last}
use Rattle.bl_tree.specs.declared.row.Last.TheVariants as last

-- ---- seats

-- the seat of a name before the first tick
abbrev pub new_seat : List PlantView → ℕ → Seat
new_seat plants name = record {
  name = record { number = name };
  columns = replicate (plant_width (first_named name plants)) (pos 0);
  finished = false;
}

-- ---- the record

-- a drive with one more tick, and its row of outputs
abbrev pub with_tick : Driven → List ℤ → List ℤ → Last → Driven
with_tick d ins outs how = record { ins = d.ins ++ ins ∷ []; trace = record { rows = d.trace.rows ++ outs ∷ []; last = how }; gone = d.gone }

-- a drive with one more tick, which has trapped
abbrev pub with_trap : Driven → List ℤ → Driven
with_trap d ins = record { ins = d.ins ++ ins ∷ []; trace = record { rows = d.trace.rows; last = last.Trap }; gone = d.gone }

-- what stays while the plants are asked in the tick behind a record
abbrev pub scene_of : DriveSetting → Driven → Scene
scene_of s d = record { plants = s.plants; names = s.names; ins = d.ins; outs = d.trace.rows }

-- a record of the runner's ticks, which goes on
pub record RunsOn (s : DriveSetting) (runner : Running) (d : Driven) : Type 0 where
  pub fit : RowsFit (columns_in s) d.ins
  pub trace : d.trace ≡ trace_over s.runner d.ins
  pub running : d.trace.last ≡ last.Open
  pub runner_is : runner ≡ runner_after s.runner d.ins
  pub live : runner.live ≡ true
  pub wide : widths_of s.plants s.names ≡ length (columns_in s)
  pub few : length (columns_in s) < 2 ^ 32

-- a drive stands between two ticks
pub record Goes (s : DriveSetting) (ticks : ℕ) (runner : Running) (plants : List PlantView) (seats : List Seat) (d : Driven) : Type 0 where
  pub done : length d.ins ≡ ticks
  pub stands : AskedSoFar (scene_of s d) 0 plants seats d.gone
  pub runs : RunsOn s runner d

-- ---- asked

-- all plants were asked for the row of inputs, or the round has ended with a fault
abbrev pub RowEnds : Scene → List Column → List PlantView → List Seat → List Gone → Result (List ℤ) DriveFault → Type 0
RowEnds s inputs plants seats gone (Ok row) = RoundEnds s inputs plants seats gone (Ok tt) × (row ≡ seat_numbers seats)
RowEnds s inputs plants seats gone (Err e) = RoundEnds s inputs plants seats gone (Err e)

-- ---- told

-- the constants of telling a row to plants: the list as handed in, the names, the rows so far with those of this tick, and the plants dropped
pub record Hearing : Type 0 where
  pub plants : List PlantView
  pub names : List ℕ
  pub ins : List (List ℤ)
  pub outs : List (List ℤ)
  pub row : List ℤ
  pub dropped : List Gone

-- the rows of outputs with that of this tick
abbrev pub outs_now : Hearing → List (List ℤ)
outs_now h = h.outs ++ h.row ∷ []

-- k of the named plants have been told the row, and the lists are those that this leaves
pub record ToldSoFar (h : Hearing) (k : ℕ) (plants : List PlantView) (seats : List Seat) : Type 0 where
  pub done : List Role
  pub rest : List Role
  pub told : length done ≡ k
  pub cast : IsCast h.plants h.names (done ++ rest)
  pub left : plants ≡ left_in (done ++ rest) [] h.plants
  pub seats_are : seats ≡ map seat_of (done ++ rest)
  pub earlier : AllByRecursion (Plays (outs_now h) (outs_now h) (length h.ins)) done
  pub later : AllByRecursion (Plays (outs_now h) h.outs (length h.ins)) rest
  pub ins : h.ins ≡ inputs_before (done ++ rest) (length h.ins)
  pub gone : h.dropped ≡ gone_before (done ++ rest) (length h.ins)
  pub long : length h.ins ≡ suc (length h.outs)

-- the next plant was to be told the row
abbrev pub IsToldNext : Hearing → ℕ → List PlantView → List Seat → Result (Unit {0}) NoMemory → Type 0
IsToldNext h k plants seats (Ok done) = ToldSoFar h (suc k) plants seats
IsToldNext h k plants seats (Err e) = ToldSoFar h k plants seats

-- all were
abbrev pub AreTold : Hearing → List PlantView → List Seat → Result (Unit {0}) NoMemory → Type 0
AreTold h plants seats (Ok done) = ToldSoFar h (length seats) plants seats
AreTold h plants seats (Err e) = (k : ℕ) × ToldSoFar h k plants seats

-- ---- a tick

-- all plants were asked, and gave the row of inputs
pub record HasInputs (s : DriveSetting) (plants : List PlantView) (seats : List Seat) (d : Driven) (ins : List ℤ) : Type 0 where
  pub stands : AskedSoFar (scene_of s d) (length seats) plants seats d.gone
  pub row : ins ≡ seat_numbers seats

-- the constants of telling the outputs of this tick to plants
abbrev pub hearing_of : DriveSetting → Driven → List ℤ → List ℤ → Hearing
hearing_of s d ins outs = record {
  plants = s.plants;
  names = s.names;
  ins = d.ins ++ ins ∷ [];
  outs = d.trace.rows;
  row = outs;
  dropped = d.gone;
}

-- the plants were told these outputs and the tick was recorded, or memory was refused
abbrev pub RowCloses : DriveSetting → Driven → List ℤ → List ℤ → Last → List PlantView → List Seat → Driven → Result (Unit {0}) NoMemory → Type 0
RowCloses s d ins outs how plants seats now (Ok done) =
    (now ≡ with_tick d ins outs how) × ToldSoFar (hearing_of s d ins outs) (length seats) plants seats
RowCloses s d ins outs how plants seats now (Err e) = (now ≡ d) × ((k : ℕ) × ToldSoFar (hearing_of s d ins outs) k plants seats)

-- the plants gave the row of inputs, it fits, and the runner's tick over it gives these outputs and this answer
pub record IsTickOfRunner (s : DriveSetting) (runner : Running) (plants : List PlantView) (seats : List Seat) (d : Driven) (ins outs : List ℤ) (answer : TickAnswer)
    : Type 0 where
  pub within : length d.ins < s.ticks
  pub inputs : HasInputs s plants seats d ins
  pub fits : row_fits (columns_in s) ins ≡ true
  pub before : Running
  pub runs : RunsOn s before d
  pub first : List ℤ
  pub answer_is : answer ≡ answer_of (reply_at before ins)
  pub outs_are : outs ≡ outputs_after before ins first
  pub after : runner ≡ after_tick before ins

-- how a tick leaves a drive
abbrev pub TickEnds : DriveSetting → ℕ → Running → List PlantView → List Seat → Driven → Result TickAnswer DriveFault → Type 0
TickEnds s ticks runner plants seats d (Ok tick.Row) = Goes s (suc ticks) runner plants seats d
TickEnds s ticks runner plants seats d (Ok tick.Ended) = DriveIsOver s (record { runner = runner; plants = plants; driven = d })
TickEnds s ticks runner plants seats d (Ok tick.Trap) = DriveIsOver s (record { runner = runner; plants = plants; driven = d })
TickEnds s ticks runner plants seats d (Err e) = DriveEnds s (record { runner = runner; plants = plants; driven = d }) (Err e)

-- the tick was told and recorded, or memory was refused
abbrev pub TickCloses : DriveSetting → ℕ → Running → List PlantView → List Seat → Driven → TickAnswer → Result (Unit {0}) NoMemory → Type 0
TickCloses s ticks runner plants seats d answer (Ok done) = TickEnds s ticks runner plants seats d (Ok answer)
TickCloses s ticks runner plants seats d answer (Err e) = IsShort s (record { runner = runner; plants = plants; driven = d })
