-- A tick, from asking to its end.
use Rattle.std.proofs.Common.{◌≡◌, ℕ, suc, ◌<◌, ◌+◌, ◌^◌, ℤ, Bool, true, false, List, [], ◌∷◌}
use Rattle.std.proofs.Common.{◌++◌, length, map, nat_eq, Result, Ok, Err}
use Rattle.std.proofs.Common.{refl, ap, sym, subst, ◌∙◌, arith, add-one}
use Rattle.std.specs.List.{IsDistinct}
use Rattle.std.specs.Prelude.{IfErr, OnErr, OnOk}
use Rattle.std.specs.Result.{IsErrAnd}
use Rattle.bl_ctext_semantics.specs.Cells.{inputs_of}
use Rattle.bl_crun.specs.Running.{Running, after_tick, answer_of, is_row, outputs_after, reply_at}
use Rattle.bl_crun.specs.declared.tick.TickAnswer.{TickAnswer}
use Rattle.bl_crun.specs.declared.tick.TickAnswer.TheVariants as tick
use Rattle.bl_plant_drive.specs.Drives.{DriveEnds, DriveIsOver, DriveSetting, IsShort, IsUntouched}
use Rattle.bl_plant_drive.specs.Drives.{AreThere, columns_in, widths_of}
use Rattle.bl_plant_drive.specs.Driven.{nothing_driven}
use Rattle.bl_plant_drive.specs.declared.driven.Driven.{Driven}
use Rattle.bl_plant_drive.specs.declared.driven.Gone.{Gone}
use Rattle.bl_plant_drive.specs.declared.fault.DriveFault.{DriveFault}
use Rattle.bl_plant_drive.specs.declared.fault.DriveFault.TheVariants as fault
use Rattle.bl_plant_drive.specs.declared.seat.Seat.{Seat}
use Rattle.bl_plant_drive.specs.inner.Begins.{HasBegun, HasNotBegun}
use Rattle.bl_plant_drive.specs.inner.Names.{AreNamed, HasOtherWidth, IsWide}
use Rattle.bl_plant_drive.specs.inner.Round.{RoundEnds, seat_numbers}
use Rattle.bl_plant_drive.specs.inner.Stands.{Scene}
use Rattle.bl_plant_drive.specs.inner.Ticks.{AreTold, Goes, IsTickOfRunner, RowCloses, RowEnds, RunsOn, TickCloses, TickEnds, hearing_of, new_seat}
use Rattle.bl_plant_drive.specs.inner.Ticks.{scene_of, with_tick, with_trap}
use Rattle.bl_plant_drive.proofs.Closing.{goes-on, has-ended, has-trapped, short-asking, short-standing, short-telling, short-trapped}
use Rattle.bl_plant_drive.proofs.Ranges.{wide-by}
use Rattle.bl_plant_drive.proofs.Starting.{starts}
use Rattle.bl_plant_drive.proofs.Stopping.{round-stops, runs-same}
use Rattle.bl_plant_drive.proofs.Traces.{runner-parts, trace-none}
use Rattle.bl_plant.specs.Plants.{PlantView}
use Rattle.bl_tree.specs.Ports.{row_fits}
use Rattle.bl_tree.specs.declared.memory.NoMemory.{NoMemory}
use Rattle.bl_tree.specs.declared.row.Column.{Column}
use Rattle.bl_tree.specs.declared.row.Last.{Last}
use Rattle.bl_tree.specs.declared.row.Last.TheVariants as last

-- ---- the runner's file

pub same-file : (s : DriveSetting) (runner : Running) (d : Driven) → RunsOn s runner d → runner.parts ≡ s.runner.parts
same-file s runner d runs = ap (λ (r : Running). r.parts) runs.runner_is ∙ runner-parts s.runner d.ins

pub same-inputs : (s : DriveSetting) (runner : Running) (d : Driven) (inputs : List Column) → RunsOn s runner d → inputs ≡ inputs_of runner.parts →
    inputs ≡ columns_in s
same-inputs s runner d inputs runs is = is ∙ ap inputs_of (same-file s runner d runs)

-- the seats have as many numbers as there are inputs
pub seats-wide : (s : DriveSetting) (ticks : ℕ) (runner : Running) (plants : List PlantView) (seats : List Seat) (d : Driven) (inputs : List Column) →
    Goes s ticks runner plants seats d → inputs ≡ inputs_of runner.parts → length (seat_numbers seats) ≡ length inputs
seats-wide s ticks runner plants seats d inputs goes is =
    wide-by (scene_of s d) 0 plants seats d.gone goes.stands ∙ goes.runs.wide ∙ ap length (sym (same-inputs s runner d inputs goes.runs is))

pub inputs-few : (s : DriveSetting) (runner : Running) (d : Driven) (inputs : List Column) → RunsOn s runner d → inputs ≡ inputs_of runner.parts →
    length inputs < 2 ^ 32
inputs-few s runner d inputs runs is = subst (λ xs. length xs < 2 ^ 32) (sym (same-inputs s runner d inputs runs is)) runs.few

-- ---- asked

row-stops-by : (s : DriveSetting) (ticks : ℕ) (runner : Running) (plants : List PlantView) (seats : List Seat) (d : Driven) (gone : List Gone)
    (inputs : List Column) (e : DriveFault) → RunsOn s runner d → length d.ins < s.ticks → inputs ≡ columns_in s →
    RoundEnds (scene_of s d) inputs plants seats gone (Err e) → TickEnds s ticks runner plants seats
    (record { ins = d.ins; trace = d.trace; gone = gone }) (Err e)
row-stops-by s ticks runner plants seats d gone inputs e runs within is ends =
    round-stops s runner plants seats d gone e runs within (subst (λ xs. RoundEnds (scene_of s d) xs plants seats gone (Err e)) is ends)

-- a fault while plants were asked ends the tick
pub row-stops : (s : DriveSetting) (ticks : ℕ) (runner : Running) (plants : List PlantView) (seats : List Seat) (d : Driven) (gone : List Gone)
    (inputs : List Column) (e : DriveFault) (r : Result TickAnswer DriveFault) → IsErrAnd r (λ x. x ≡ e) → RunsOn s runner d → length d.ins < s.ticks →
    inputs ≡ columns_in s → RowEnds (scene_of s d) inputs plants seats gone (Err e) →
    TickEnds s ticks runner plants seats (record { ins = d.ins; trace = d.trace; gone = gone }) r
row-stops s ticks runner plants seats d gone inputs e (Ok t) is runs within same ends = absurd is
row-stops s ticks runner plants seats d gone inputs e (Err x) is runs within same ends =
    row-stops-by s ticks runner plants seats d gone inputs x runs within same
    (subst (λ y. RowEnds (scene_of s d) inputs plants seats gone (Err y)) (sym is) ends)

-- want of memory behind that
pub short-row : (s : DriveSetting) (ticks : ℕ) (runner : Running) (plants : List PlantView) (seats : List Seat) (d : Driven) (gone : List Gone)
    (inputs : List Column) (ins : List ℤ) (r : Result TickAnswer DriveFault) → IsErrAnd r (λ x. x ≡ fault.NoMemory) → RunsOn s runner d →
    length d.ins < s.ticks →
    RowEnds (scene_of s d) inputs plants seats gone (Ok ins) →
    TickEnds s ticks runner plants seats (record { ins = d.ins; trace = d.trace; gone = gone }) r
short-row s ticks runner plants seats d gone inputs ins (Ok t) is runs within ends = absurd is
short-row s ticks runner plants seats d gone inputs ins (Err x) is runs within ends =
    subst (λ y. TickEnds s ticks runner plants seats (record { ins = d.ins; trace = d.trace; gone = gone }) (Err y)) (sym is)
    (short-asking s (length seats) runner plants seats d gone runs (let low = within in omega (arith, low)) ends.0.stands)

-- the round and its row, where memory was refused for the row
pub row-short : (s : Scene) (inputs : List Column) (plants : List PlantView) (seats : List Seat) (gone : List Gone) (r : Result (List ℤ) DriveFault) →
    IsErrAnd r (λ x. x ≡ fault.NoMemory) → RoundEnds s inputs plants seats gone (Ok tt) → RowEnds s inputs plants seats gone r
row-short s inputs plants seats gone (Ok row) is asked = absurd is
row-short s inputs plants seats gone (Err x) is asked =
    subst (λ y. RowEnds s inputs plants seats gone (Err y)) (sym is) (record { k = length seats; stands = asked.stands })

pub row-failed : (s : Scene) (inputs : List Column) (plants : List PlantView) (seats : List Seat) (gone : List Gone) (e : DriveFault)
    (r : Result (List ℤ) DriveFault) → IsErrAnd r (λ x. x ≡ e) → RoundEnds s inputs plants seats gone (Err e) → RowEnds s inputs plants seats gone r
row-failed s inputs plants seats gone e (Ok row) is ends = absurd is
row-failed s inputs plants seats gone e (Err x) is ends = subst (λ y. RoundEnds s inputs plants seats gone (Err y)) (sym is) ends

-- ---- run

-- the row fits
pub row-fits : (s : DriveSetting) (runner : Running) (plants : List PlantView) (seats : List Seat) (d : Driven) (gone : List Gone) (inputs : List Column)
    (ins : List ℤ) → inputs ≡ inputs_of runner.parts → RowEnds (scene_of s d) inputs plants seats gone (Ok ins) →
    row_fits (inputs_of runner.parts) ins ≡ true
row-fits s runner plants seats d gone inputs ins is ends =
    ap (λ xs. row_fits xs ins) (sym is) ∙ ap (row_fits inputs) ends.1 ∙ ends.0.fit

pub is-run : (s : DriveSetting) (before after : Running) (plants : List PlantView) (seats : List Seat) (d : Driven) (gone : List Gone) (inputs : List Column)
    (ins first outs : List ℤ) (answer : TickAnswer) → RunsOn s before d → length d.ins < s.ticks → inputs ≡ columns_in s →
    RowEnds (scene_of s d) inputs plants seats gone (Ok ins) → answer ≡ answer_of (reply_at before ins) → outs ≡ outputs_after before ins first →
    after ≡ after_tick before ins → IsTickOfRunner s after plants seats (record { ins = d.ins; trace = d.trace; gone = gone }) ins outs answer
is-run s before after plants seats d gone inputs ins first outs answer runs within same ends answer_is outs_are after_is = record {
  within = within;
  inputs = record { stands = ends.0.stands; row = ends.1 };
  fits = ap (λ xs. row_fits xs ins) (sym same) ∙ ap (row_fits inputs) ends.1 ∙ ends.0.fit;
  before = before;
  runs = runs-same s before d gone runs;
  first = first;
  answer_is = answer_is;
  outs_are = outs_are;
  after = after_is;
}

-- the row of outputs was recorded, or memory was refused for that
pub row-recorded : (s : DriveSetting) (d : Driven) (ins outs : List ℤ) (how : Last) (plants : List PlantView) (seats : List Seat) (now : Driven)
    (r : Result (Unit {0}) NoMemory) → AreTold (hearing_of s d ins outs) plants seats (Ok tt) → OnOk r (now ≡ with_tick d ins outs how) →
    OnErr r (now ≡ d) → RowCloses s d ins outs how plants seats now r
row-recorded s d ins outs how plants seats now (Ok u) told ok err = (ok, told)
row-recorded s d ins outs how plants seats now (Err e) told ok err = (err, (length seats, told))

pub told-too-short : (s : DriveSetting) (d : Driven) (ins outs : List ℤ) (how : Last) (plants : List PlantView) (seats : List Seat) (e : NoMemory)
    (r : Result (Unit {0}) NoMemory) → IsErrAnd r (λ x. x ≡ e) → AreTold (hearing_of s d ins outs) plants seats (Err e) →
    RowCloses s d ins outs how plants seats d r
told-too-short s d ins outs how plants seats e (Ok u) is told = absurd is
told-too-short s d ins outs how plants seats e (Err x) is told = (refl, told)

-- how each answer closes the tick
closes-row-by : (s : DriveSetting) (runner : Running) (plants now : List PlantView) (seats : List Seat) (d : Driven) (ins outs : List ℤ) (left : Driven)
    (r : Result (Unit {0}) NoMemory) → IsTickOfRunner s runner plants seats d ins outs tick.Row → RowCloses s d ins outs last.Open now seats left r →
    TickCloses s (length d.ins) runner now seats left tick.Row r
closes-row-by s runner plants now seats d ins outs left (Ok u) run closed =
    subst (Goes s (suc (length d.ins)) runner now seats) (sym closed.0) (goes-on s runner plants now seats d ins outs run closed.1)
closes-row-by s runner plants now seats d ins outs left (Err e) run closed =
    subst (λ x. IsShort s (record { runner = runner; plants = now; driven = x })) (sym closed.0)
    (short-telling s closed.1.0 runner plants now seats d ins outs tick.Row run refl closed.1.1)

pub closes-row : (s : DriveSetting) (runner : Running) (plants now : List PlantView) (seats : List Seat) (d : Driven) (ins outs : List ℤ) (left : Driven)
    (answer : TickAnswer) (r : Result (Unit {0}) NoMemory) → answer ≡ tick.Row → IsTickOfRunner s runner plants seats d ins outs answer →
    RowCloses s d ins outs last.Open now seats left r → TickCloses s (length d.ins) runner now seats left answer r
closes-row s runner plants now seats d ins outs left answer r is run closed =
    subst (λ t. TickCloses s (length d.ins) runner now seats left t r) (sym is)
    (closes-row-by s runner plants now seats d ins outs left r (subst (IsTickOfRunner s runner plants seats d ins outs) is run) closed)

closes-ended-by : (s : DriveSetting) (runner : Running) (plants now : List PlantView) (seats : List Seat) (d : Driven) (ins outs : List ℤ) (left : Driven)
    (r : Result (Unit {0}) NoMemory) → IsTickOfRunner s runner plants seats d ins outs tick.Ended → RowCloses s d ins outs last.Ended now seats left r →
    TickCloses s (length d.ins) runner now seats left tick.Ended r
closes-ended-by s runner plants now seats d ins outs left (Ok u) run closed =
    subst (λ x. DriveIsOver s (record { runner = runner; plants = now; driven = x })) (sym closed.0)
    (has-ended s runner plants now seats d ins outs run closed.1)
closes-ended-by s runner plants now seats d ins outs left (Err e) run closed =
    subst (λ x. IsShort s (record { runner = runner; plants = now; driven = x })) (sym closed.0)
    (short-telling s closed.1.0 runner plants now seats d ins outs tick.Ended run refl closed.1.1)

pub closes-ended : (s : DriveSetting) (runner : Running) (plants now : List PlantView) (seats : List Seat) (d : Driven) (ins outs : List ℤ) (left : Driven)
    (answer : TickAnswer) (r : Result (Unit {0}) NoMemory) → answer ≡ tick.Ended → IsTickOfRunner s runner plants seats d ins outs answer →
    RowCloses s d ins outs last.Ended now seats left r → TickCloses s (length d.ins) runner now seats left answer r
closes-ended s runner plants now seats d ins outs left answer r is run closed =
    subst (λ t. TickCloses s (length d.ins) runner now seats left t r) (sym is)
    (closes-ended-by s runner plants now seats d ins outs left r (subst (IsTickOfRunner s runner plants seats d ins outs) is run) closed)

closes-trap-by : (s : DriveSetting) (runner : Running) (plants : List PlantView) (seats : List Seat) (d : Driven) (ins outs : List ℤ) (left : Driven)
    (r : Result (Unit {0}) NoMemory) → IsTickOfRunner s runner plants seats d ins outs tick.Trap → OnOk r (left ≡ with_trap d ins) → OnErr r (left ≡ d) →
    TickCloses s (length d.ins) runner plants seats left tick.Trap r
closes-trap-by s runner plants seats d ins outs left (Ok u) run ok err =
    subst (λ x. DriveIsOver s (record { runner = runner; plants = plants; driven = x })) (sym ok) (has-trapped s runner plants seats d ins outs run)
closes-trap-by s runner plants seats d ins outs left (Err e) run ok err =
    subst (λ x. IsShort s (record { runner = runner; plants = plants; driven = x })) (sym err)
    (short-trapped s runner plants seats d ins outs tick.Trap run)

pub closes-trap : (s : DriveSetting) (runner : Running) (plants : List PlantView) (seats : List Seat) (d : Driven) (ins outs : List ℤ) (left : Driven)
    (answer : TickAnswer) (r : Result (Unit {0}) NoMemory) → answer ≡ tick.Trap → IsTickOfRunner s runner plants seats d ins outs answer →
    OnOk r (left ≡ with_trap d ins) → OnErr r (left ≡ d) → TickCloses s (length d.ins) runner plants seats left answer r
closes-trap s runner plants seats d ins outs left answer r is run ok err =
    subst (λ t. TickCloses s (length d.ins) runner plants seats left t r) (sym is)
    (closes-trap-by s runner plants seats d ins outs left r (subst (IsTickOfRunner s runner plants seats d ins outs) is run) ok err)

-- all plants were asked, and the tick is closed with these seats
pub close-asked : (s : DriveSetting) (before after : Running) (plants : List PlantView) (seats other : List Seat) (d : Driven) (gone : List Gone)
    (inputs : List Column) (ins first outs : List ℤ) (answer : TickAnswer) → other ≡ seats → RunsOn s before d → length d.ins < s.ticks →
    inputs ≡ columns_in s → RowEnds (scene_of s d) inputs plants seats gone (Ok ins) → answer ≡ answer_of (reply_at before ins) →
    outs ≡ outputs_after before ins first → after ≡ after_tick before ins →
    IsTickOfRunner s after plants other (record { ins = d.ins; trace = d.trace; gone = gone }) ins outs answer
close-asked s before after plants seats other d gone inputs ins first outs answer same runs within are ends answer_is outs_are after_is =
    subst (λ xs. IsTickOfRunner s after plants xs (record { ins = d.ins; trace = d.trace; gone = gone }) ins outs answer) (sym same)
    (is-run s before after plants seats d gone inputs ins first outs answer runs within are ends answer_is outs_are after_is)

-- want of memory behind the tick
pub close-failed : (s : DriveSetting) (n ticks : ℕ) (runner : Running) (plants : List PlantView) (seats other : List Seat) (d : Driven) (answer : TickAnswer)
    (e : NoMemory) (r : Result TickAnswer DriveFault) → other ≡ seats → IsErrAnd r (λ x. x ≡ fault.NoMemory) →
    TickCloses s n runner plants other d answer (Err e) → TickEnds s ticks runner plants seats d r
close-failed s n ticks runner plants seats other d answer e (Ok t) same is short = absurd is
close-failed s n ticks runner plants seats other d answer e (Err x) same is short =
    subst (λ y. TickEnds s ticks runner plants seats d (Err y)) (sym is) short

-- the tick has the number that the drive counts
pub close-done : (s : DriveSetting) (n ticks : ℕ) (runner : Running) (plants : List PlantView) (seats other : List Seat) (d : Driven) (answer : TickAnswer)
    (u : Unit {0}) → other ≡ seats → n ≡ ticks → TickCloses s n runner plants other d answer (Ok u) →
    TickEnds s ticks runner plants seats d (Ok answer)
close-done s n ticks runner plants seats other d answer u same number closed =
    subst (λ m. TickEnds s m runner plants seats d (Ok answer)) number (subst (λ xs. TickEnds s n runner plants xs d (Ok answer)) same closed)

-- ---- before the first tick

abbrev pub setting : Running → List PlantView → List ℕ → ℕ → DriveSetting
setting runner plants names ticks = record { runner = runner; plants = plants; names = names; ticks = ticks }

pub first-goes : (runner : Running) (plants : List PlantView) (names : List ℕ) (ticks : ℕ) (seats : List Seat) (d : Driven) → d ≡ nothing_driven →
    runner.live ≡ true → HasBegun runner plants names seats → Goes (setting runner plants names ticks) 0 runner plants seats d
first-goes runner plants names ticks seats d none live begun =
    subst (Goes (setting runner plants names ticks) 0 runner plants seats) (sym none)
    (record {
      done = refl;
      stands = starts plants names seats begun.there begun.distinct begun.seats_are;
      runs = record {
        fit = refl;
        trace = sym (trace-none runner);
        running = refl;
        runner_is = refl;
        live = live;
        wide = begun.wide;
        few = begun.few;
      };
    })

untouched : (runner : Running) (plants : List PlantView) (names : List ℕ) (ticks : ℕ) (d : Driven) → d ≡ nothing_driven →
    IsUntouched (setting runner plants names ticks) (record { runner = runner; plants = plants; driven = d })
untouched runner plants names ticks d none = record { runner = refl; plants = refl; driven = none }

not-begun-by : (runner : Running) (plants : List PlantView) (names : List ℕ) (ticks : ℕ) (d : Driven) (e : DriveFault) → d ≡ nothing_driven →
    HasNotBegun runner plants names e → DriveEnds (setting runner plants names ticks) (record { runner = runner; plants = plants; driven = d }) (Err e)
not-begun-by runner plants names ticks d (fault.Absent name) none why = (
  record { earlier = why.earlier; later = why.later; names = why.names_are; there = why.there; none = why.none },
  untouched runner plants names ticks d none,
)
not-begun-by runner plants names ticks d (fault.Twice name) none why = (
  record {
    earlier = why.1.earlier;
    later = why.1.later;
    names = why.1.names_are;
    there = why.0;
    distinct = why.1.distinct;
    again = why.1.again;
  },
  untouched runner plants names ticks d none,
)
not-begun-by runner plants names ticks d (fault.Width given wanted) none why = (
  record { there = why.0; distinct = why.1; given_is = why.2.given_is; wanted_is = why.2.told_is; differ = why.2.differ },
  untouched runner plants names ticks d none,
)
not-begun-by runner plants names ticks d (fault.Failed name) none why = absurd why
not-begun-by runner plants names ticks d (fault.Range column number) none why = absurd why
not-begun-by runner plants names ticks d fault.NoMemory none why =
    subst (λ x. IsShort (setting runner plants names ticks) (record { runner = runner; plants = plants; driven = x })) (sym none)
    (short-standing (setting runner plants names ticks) 0 runner plants (map (new_seat plants) names) nothing_driven [] refl (sym (trace-none runner))
    refl refl (omega arith) (starts plants names (map (new_seat plants) names) why.0 why.1 refl))

-- a drive that doesn't begin
pub not-begun : (runner : Running) (plants : List PlantView) (names : List ℕ) (ticks : ℕ) (d : Driven) (e : DriveFault) (r : Result (Unit {0}) DriveFault) →
    IsErrAnd r (λ x. x ≡ e) → d ≡ nothing_driven → HasNotBegun runner plants names e →
    DriveEnds (setting runner plants names ticks) (record { runner = runner; plants = plants; driven = d }) r
not-begun runner plants names ticks d e (Ok u) is none why = absurd is
not-begun runner plants names ticks d e (Err x) is none why =
    not-begun-by runner plants names ticks d x none (subst (HasNotBegun runner plants names) (sym is) why)

-- a tick that ends with a fault ends the drive
pub tick-stops : (s : DriveSetting) (ticks : ℕ) (runner : Running) (plants : List PlantView) (seats : List Seat) (d : Driven) (e : DriveFault)
    (r : Result (Unit {0}) DriveFault) → IsErrAnd r (λ x. x ≡ e) → TickEnds s ticks runner plants seats d (Err e) →
    DriveEnds s (record { runner = runner; plants = plants; driven = d }) r
tick-stops s ticks runner plants seats d e (Ok u) is ends = absurd is
tick-stops s ticks runner plants seats d e (Err x) is ends =
    subst (λ y. DriveEnds s (record { runner = runner; plants = plants; driven = d }) (Err y)) (sym is) ends

-- the first tick that isn't a row is the last
pub tick-over : (s : DriveSetting) (ticks : ℕ) (runner : Running) (plants : List PlantView) (seats : List Seat) (d : Driven) (t : TickAnswer) (b : Bool) →
    b ≡ is_row t → b ≡ false → TickEnds s ticks runner plants seats d (Ok t) → DriveIsOver s (record { runner = runner; plants = plants; driven = d })
tick-over s ticks runner plants seats d tick.Row b is other ends = let bad : true ≡ false = sym is ∙ other in cc
tick-over s ticks runner plants seats d tick.Ended b is other ends = ends
tick-over s ticks runner plants seats d tick.Trap b is other ends = ends

pub tick-goes : (s : DriveSetting) (ticks : ℕ) (runner : Running) (plants : List PlantView) (seats : List Seat) (d : Driven) (t : TickAnswer) (b : Bool) →
    b ≡ is_row t → b ≡ true → TickEnds s ticks runner plants seats d (Ok t) → Goes s (ticks + 1) runner plants seats d
tick-goes s ticks runner plants seats d tick.Row b is row ends = subst (λ m. Goes s m runner plants seats d) (sym (add-one ticks)) ends
tick-goes s ticks runner plants seats d tick.Ended b is row ends = let bad : false ≡ true = sym is ∙ row in cc
tick-goes s ticks runner plants seats d tick.Trap b is row ends = let bad : false ≡ true = sym is ∙ row in cc

-- ---- why a drive doesn't begin

named-stops-by : (runner : Running) (plants : List PlantView) (names : List ℕ) (e : DriveFault) → AreNamed plants names (Err e) →
    HasNotBegun runner plants names e
named-stops-by runner plants names (fault.Absent name) bad = bad
named-stops-by runner plants names (fault.Twice name) bad = bad
named-stops-by runner plants names (fault.Failed name) bad = bad
named-stops-by runner plants names (fault.Width given wanted) bad = absurd bad
named-stops-by runner plants names (fault.Range column number) bad = bad
named-stops-by runner plants names fault.NoMemory bad = absurd bad

pub named-stops : {A : Type 0} (runner : Running) (plants : List PlantView) (names : List ℕ) (e : DriveFault) (r : Result A DriveFault) →
    IsErrAnd r (λ x. x ≡ e) → AreNamed plants names (Err e) → IfErr r (HasNotBegun runner plants names)
named-stops runner plants names e (Ok a) is bad = absurd is
named-stops runner plants names e (Err x) is bad = named-stops-by runner plants names x (subst (λ y. AreNamed plants names (Err y)) (sym is) bad)

width-stops-by : (runner : Running) (plants : List PlantView) (names : List ℕ) (wanted : ℕ) (e : DriveFault) → AreThere plants names →
    IsDistinct nat_eq names → wanted ≡ length (inputs_of runner.parts) → IsWide plants names wanted (Err e) → HasNotBegun runner plants names e
width-stops-by runner plants names wanted (fault.Width given told) there apart is bad =
    (there, apart, subst (λ n. HasOtherWidth plants names n given told) is bad)
width-stops-by runner plants names wanted (fault.Absent name) there apart is bad = absurd bad
width-stops-by runner plants names wanted (fault.Twice name) there apart is bad = absurd bad
width-stops-by runner plants names wanted (fault.Failed name) there apart is bad = bad
width-stops-by runner plants names wanted (fault.Range column number) there apart is bad = bad
width-stops-by runner plants names wanted fault.NoMemory there apart is bad = absurd bad

pub width-stops : {A : Type 0} (runner : Running) (plants : List PlantView) (names : List ℕ) (wanted : ℕ) (e : DriveFault) (r : Result A DriveFault) →
    IsErrAnd r (λ x. x ≡ e) → AreThere plants names → IsDistinct nat_eq names → wanted ≡ length (inputs_of runner.parts) →
    IsWide plants names wanted (Err e) → IfErr r (HasNotBegun runner plants names)
width-stops runner plants names wanted e (Ok a) err there apart is bad = absurd err
width-stops runner plants names wanted e (Err x) err there apart is bad =
    width-stops-by runner plants names wanted x there apart is (subst (λ y. IsWide plants names wanted (Err y)) (sym err) bad)

pub memory-stops : {A : Type 0} (runner : Running) (plants : List PlantView) (names : List ℕ) (r : Result A DriveFault) →
    IsErrAnd r (λ x. x ≡ fault.NoMemory) → AreThere plants names → IsDistinct nat_eq names → IfErr r (HasNotBegun runner plants names)
memory-stops runner plants names (Ok a) err there apart = absurd err
memory-stops runner plants names (Err x) err there apart = subst (HasNotBegun runner plants names) (sym err) (there, apart)

pub has-begun : (runner : Running) (plants : List PlantView) (names : List ℕ) (wanted : ℕ) (seats : List Seat) → AreThere plants names →
    IsDistinct nat_eq names → wanted ≡ length (inputs_of runner.parts) → wanted < 2 ^ 32 → widths_of plants names ≡ wanted →
    seats ≡ map (new_seat plants) names → HasBegun runner plants names seats
has-begun runner plants names wanted seats there apart is few wide are = record {
  there = there;
  distinct = apart;
  wide = wide ∙ is;
  few = subst (λ n. n < 2 ^ 32) is few;
  seats_are = are;
}

-- the same with the plants as they were looked at
pub not-begun-in : (runner : Running) (plants other : List PlantView) (names : List ℕ) (ticks : ℕ) (d : Driven) (e : DriveFault)
    (r : Result (Unit {0}) DriveFault) → other ≡ plants → IsErrAnd r (λ x. x ≡ e) → d ≡ nothing_driven → HasNotBegun runner other names e →
    DriveEnds (setting runner plants names ticks) (record { runner = runner; plants = plants; driven = d }) r
not-begun-in runner plants other names ticks d e r same is none why =
    not-begun runner plants names ticks d e r is none (subst (λ ps. HasNotBegun runner ps names e) same why)

pub first-goes-in : (runner : Running) (plants other : List PlantView) (names : List ℕ) (ticks : ℕ) (seats : List Seat) (d : Driven) → other ≡ plants →
    d ≡ nothing_driven → runner.live ≡ true → HasBegun runner other names seats → Goes (setting runner plants names ticks) 0 runner plants seats d
first-goes-in runner plants other names ticks seats d same none live begun =
    first-goes runner plants names ticks seats d none live (subst (λ ps. HasBegun runner ps names seats) same begun)
