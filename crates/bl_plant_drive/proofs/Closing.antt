-- How a tick leaves a drive once all plants were asked.
use Rattle.std.proofs.Common.{◌≡◌, ◌⊎◌, inl, inr, ℕ, suc, ◌<◌, ◌≤◌, ◌+◌, ℤ, pos, true, false}
use Rattle.std.proofs.Common.{List, [], ◌∷◌, ◌++◌, length, map, take}
use Rattle.std.proofs.Common.{replicate, nat_eq, refl, ap, sym, subst, ◌∙◌, arith, add-one}
use Rattle.std.proofs.Common.{length-append, take_all}
use Rattle.std.specs.List.{AllByRecursion}
use Rattle.std.proofs.Math.Seq.{take-append_seam}
use Rattle.std.proofs.lemmas.Grind.{flat_map-append}
use Rattle.std.proofs.lemmas.List.{append-nil, length-map}
use Rattle.bl_tree.proofs.Basics.{same_number}
use Rattle.bl_crun.specs.Running.{Running, answer_of, outputs_after, reply_at}
use Rattle.bl_crun.specs.declared.tick.TickAnswer.{TickAnswer}
use Rattle.bl_crun.specs.declared.tick.TickAnswer.TheVariants as tick
use Rattle.bl_plant_drive.specs.Drives.{DriveIsOver, DriveSetting, HasDriven, IsShort, MayGoOn, columns_in, rowless, runner_after, trace_over}
use Rattle.bl_plant_drive.specs.Roles.{IsCast, IsGone, Plays, Role, gone_at, gone_before, gone_in, inputs_at, inputs_before, last_row, left_in, numbers_at}
use Rattle.bl_plant_drive.specs.declared.driven.Driven.{Driven}
use Rattle.bl_plant_drive.specs.declared.driven.Gone.{Gone}
use Rattle.bl_plant_drive.specs.declared.seat.Seat.{Seat}
use Rattle.bl_plant_drive.specs.inner.Round.{seat_numbers}
use Rattle.bl_plant_drive.specs.inner.Stands.{AskedSoFar, seat_of}
use Rattle.bl_plant_drive.specs.inner.Ticks.{Goes, HasInputs, IsTickOfRunner, RunsOn, ToldSoFar, hearing_of, scene_of, with_tick, with_trap}
use Rattle.bl_plant_drive.proofs.Asking.{gone-by, gone-not, last-snoc}
use Rattle.bl_plant_drive.proofs.Casts.{split}
use Rattle.bl_plant_drive.proofs.Telling.{all-both, all-map, given-low, plays-same, take-front}
use Rattle.bl_plant_drive.proofs.Traces.{fit-more, live-more, runner-more, trace-more, trace_with}
use Rattle.bl_plant.specs.Plants.{PlantView}
use Rattle.bl_tree.specs.Ports.{RowsFit}
use Rattle.bl_tree.specs.declared.row.Last.TheVariants as last
use Rattle.bl_tree.specs.declared.row.Trace.{Trace}

-- ---- inputs

columns-at : (r : Role) (n : ℕ) → length r.part.given ≤ suc n → (seat_of r).columns ≡ numbers_at n r
columns-at r n low = ap (last_row (replicate r.plant.width (pos 0))) (sym (take_all (suc n) r.part.given low))

-- the numbers of the seats of plants that were asked are those of this tick
pub numbers-at : (cast : List Role) (outs told : List (List ℤ)) (n : ℕ) → AllByRecursion (Plays outs told (suc n)) cast →
    seat_numbers (map seat_of cast) ≡ inputs_at n cast
numbers-at [] outs told n plays = refl
numbers-at (r ∷ cast) outs told n plays =
    ap (λ z. z ++ seat_numbers (map seat_of cast)) (columns-at r n (given-low r outs told (suc n) plays.0))
    ∙ ap (λ z. numbers_at n r ++ z) (numbers-at cast outs told n plays.1)

-- ---- plants that were dropped

not-yet : (a n : ℕ) → a < n → nat_eq a n ≡ false
not-yet a n low = split (nat_eq a n) (λ same. let e : a ≡ n = same_number a n same in absurd (omega (arith, e, low))) (λ fails. fails)

-- no plant was dropped in a tick in which it wasn't asked
pub none-later : (outs told : List (List ℤ)) (n : ℕ) (rest : List Role) → AllByRecursion (Plays outs told n) rest → gone_at n rest ≡ []
none-later outs told n [] plays = refl
none-later outs told n (r ∷ rest) plays =
    ap (λ z. z ++ gone_at n rest)
    (split r.part.gone
    (λ over. let was : IsGone outs n r = plays.0.gone over in gone-by n r true false over (not-yet (length r.part.given) n was.earlier))
    (λ stays. gone-not n r stays))
    ∙ none-later outs told n rest plays.1

-- so those dropped so far are those of all ticks and of this one
pub gone-both : (outs told : List (List ℤ)) (n : ℕ) (done rest : List Role) → AllByRecursion (Plays outs told n) rest →
    gone_before (done ++ rest) n ++ gone_at n done ≡ gone_before (done ++ rest) (suc n)
gone-both outs told n done rest plays =
    ap (λ z. gone_before (done ++ rest) n ++ z)
    (sym (append-nil (gone_at n done)) ∙ ap (λ z. gone_at n done ++ z) (sym (none-later outs told n rest plays))
    ∙ sym (flat_map-append (gone_in n) done rest))

-- ---- all asked

-- all plants were asked in the tick behind a record, and this is the row of inputs
pub record AllAsked (s : DriveSetting) (plants : List PlantView) (seats : List Seat) (d : Driven) (ins : List ℤ) : Type 0 where
  pub cast : List Role
  pub is : IsCast s.plants s.names cast
  pub left : plants ≡ left_in cast [] s.plants
  pub seats_are : seats ≡ map seat_of cast
  pub plays : AllByRecursion (Plays d.trace.rows d.trace.rows (suc (length d.ins))) cast
  pub before : d.ins ≡ inputs_before cast (length d.ins)
  pub row : ins ≡ inputs_at (length d.ins) cast
  pub gone : d.gone ≡ gone_before cast (suc (length d.ins))
  pub long : length d.trace.rows ≡ length d.ins

no-rest : (done rest : List Role) (r : Role) (seats : List Seat) → length done ≡ length seats → seats ≡ map seat_of (done ++ r ∷ rest) → ⊥
no-rest done rest r seats long are =
    let whole : length seats ≡ length done + suc (length rest) = ap length are ∙ length-map (done ++ r ∷ rest) seat_of
    ∙ length-append done (r ∷ rest) in
    omega (arith, whole, long)

all-asked-by : (s : DriveSetting) (plants : List PlantView) (seats : List Seat) (d : Driven) (ins : List ℤ) (done rest : List Role) →
    length done ≡ length seats → IsCast s.plants s.names (done ++ rest) → plants ≡ left_in (done ++ rest) [] s.plants →
    seats ≡ map seat_of (done ++ rest) → AllByRecursion (Plays d.trace.rows d.trace.rows (suc (length d.ins))) done →
    d.ins ≡ inputs_before (done ++ rest) (length d.ins) → d.gone ≡ gone_before (done ++ rest) (length d.ins) ++ gone_at (length d.ins) done →
    length d.trace.rows ≡ length d.ins → ins ≡ seat_numbers seats → AllAsked s plants seats d ins
all-asked-by s plants seats d ins done [] asked cast left seats_are plays before gone long row = record {
  cast = done ++ [];
  is = cast;
  left = left;
  seats_are = seats_are;
  plays = all-both (Plays d.trace.rows d.trace.rows (suc (length d.ins))) done [] plays tt;
  before = before;
  row =
      row ∙ ap seat_numbers seats_are
      ∙ numbers-at (done ++ []) d.trace.rows d.trace.rows (length d.ins)
      (all-both (Plays d.trace.rows d.trace.rows (suc (length d.ins))) done [] plays tt);
  gone = gone ∙ gone-both d.trace.rows d.trace.rows (length d.ins) done [] tt;
  long = long;
}
all-asked-by s plants seats d ins done (r ∷ rest) asked cast left seats_are plays before gone long row =
    absurd (no-rest done rest r seats asked seats_are)

pub all-asked : (s : DriveSetting) (plants : List PlantView) (seats : List Seat) (d : Driven) (ins : List ℤ) → HasInputs s plants seats d ins →
    AllAsked s plants seats d ins
all-asked s plants seats d ins has =
    let st = has.stands in
    all-asked-by s plants seats d ins st.done st.rest st.asked st.cast st.left st.seats_are st.earlier st.ins st.gone st.long has.row

one-more : (d : Driven) (ins : List ℤ) → length (d.ins ++ ins ∷ []) ≡ suc (length d.ins)
one-more d ins = length-append d.ins (ins ∷ []) ∙ add-one (length d.ins)

inputs-more : (s : DriveSetting) (plants : List PlantView) (seats : List Seat) (d : Driven) (ins : List ℤ) (a : AllAsked s plants seats d ins) →
    d.ins ++ ins ∷ [] ≡ inputs_before a.cast (length (d.ins ++ ins ∷ []))
inputs-more s plants seats d ins a =
    ap (λ z. z ++ ins ∷ []) a.before ∙ ap (λ z. inputs_before a.cast (length d.ins) ++ z ∷ []) a.row
    ∙ ap (inputs_before a.cast) (sym (one-more d ins))

-- now they are told
pub tells-none : (s : DriveSetting) (plants : List PlantView) (seats : List Seat) (d : Driven) (ins outs : List ℤ) → HasInputs s plants seats d ins →
    ToldSoFar (hearing_of s d ins outs) 0 plants seats
tells-none s plants seats d ins outs has =
    let a = all-asked s plants seats d ins has in
    let m : length (d.ins ++ ins ∷ []) ≡ suc (length d.ins) = one-more d ins in
    record {
      done = [];
      rest = a.cast;
      told = refl;
      cast = a.is;
      left = a.left;
      seats_are = a.seats_are;
      earlier = tt;
      later =
          all-map (Plays d.trace.rows d.trace.rows (suc (length d.ins)))
          (Plays (d.trace.rows ++ outs ∷ []) d.trace.rows (length (d.ins ++ ins ∷ [])))
          (λ r plays.
          subst (λ n. Plays (d.trace.rows ++ outs ∷ []) d.trace.rows n r) (sym m)
          (plays-same r d.trace.rows (d.trace.rows ++ outs ∷ []) d.trace.rows (suc (length d.ins))
          (λ k low. take-front d.trace.rows outs (suc (length d.ins)) k (ap suc (sym a.long)) low) plays))
          a.cast a.plays;
      ins = inputs-more s plants seats d ins a;
      gone = a.gone ∙ ap (gone_before a.cast) (sym m);
      long = m ∙ ap suc (sym a.long);
    }

-- ---- all told

-- all plants were told a row
pub record AllTold (s : DriveSetting) (plants : List PlantView) (seats : List Seat) (d : Driven) (ins outs : List ℤ) : Type 0 where
  pub cast : List Role
  pub is : IsCast s.plants s.names cast
  pub left : plants ≡ left_in cast [] s.plants
  pub seats_are : seats ≡ map seat_of cast
  pub plays : AllByRecursion (Plays (d.trace.rows ++ outs ∷ []) (d.trace.rows ++ outs ∷ []) (length (d.ins ++ ins ∷ []))) cast
  pub row : d.ins ++ ins ∷ [] ≡ inputs_before cast (length (d.ins ++ ins ∷ []))
  pub gone : d.gone ≡ gone_before cast (length (d.ins ++ ins ∷ []))
  pub long : length (d.trace.rows ++ outs ∷ []) ≡ length (d.ins ++ ins ∷ [])

all-told-by : (s : DriveSetting) (plants : List PlantView) (seats : List Seat) (d : Driven) (ins outs : List ℤ) (done rest : List Role) →
    length done ≡ length seats → IsCast s.plants s.names (done ++ rest) → plants ≡ left_in (done ++ rest) [] s.plants →
    seats ≡ map seat_of (done ++ rest) →
    AllByRecursion (Plays (d.trace.rows ++ outs ∷ []) (d.trace.rows ++ outs ∷ []) (length (d.ins ++ ins ∷ []))) done →
    d.ins ++ ins ∷ [] ≡ inputs_before (done ++ rest) (length (d.ins ++ ins ∷ [])) →
    d.gone ≡ gone_before (done ++ rest) (length (d.ins ++ ins ∷ [])) →
    length (d.ins ++ ins ∷ []) ≡ suc (length d.trace.rows) → AllTold s plants seats d ins outs
all-told-by s plants seats d ins outs done [] told cast left seats_are plays row gone long = record {
  cast = done ++ [];
  is = cast;
  left = left;
  seats_are = seats_are;
  plays =
      all-both (Plays (d.trace.rows ++ outs ∷ []) (d.trace.rows ++ outs ∷ []) (length (d.ins ++ ins ∷ []))) done [] plays tt;
  row = row;
  gone = gone;
  long = length-append d.trace.rows (outs ∷ []) ∙ add-one (length d.trace.rows) ∙ sym long;
}
all-told-by s plants seats d ins outs done (r ∷ rest) told cast left seats_are plays row gone long =
    absurd (no-rest done rest r seats told seats_are)

pub all-told : (s : DriveSetting) (plants : List PlantView) (seats : List Seat) (d : Driven) (ins outs : List ℤ) →
    ToldSoFar (hearing_of s d ins outs) (length seats) plants seats → AllTold s plants seats d ins outs
all-told s plants seats d ins outs t =
    all-told-by s plants seats d ins outs t.done t.rest t.told t.cast t.left t.seats_are t.earlier t.ins t.gone t.long

-- ---- the run

-- the trace with this tick
run-trace : (s : DriveSetting) (before : Running) (d : Driven) (ins outs first : List ℤ) (answer : TickAnswer) → RunsOn s before d →
    answer ≡ answer_of (reply_at before ins) → outs ≡ outputs_after before ins first →
    trace_with d.trace answer outs ≡ trace_over s.runner (d.ins ++ ins ∷ [])
run-trace s before d ins outs first answer runs answer_is outs_are =
    ap (λ z. trace_with d.trace z outs) answer_is ∙ ap (λ z. trace_with d.trace (answer_of (reply_at before ins)) z) outs_are
    ∙ trace-more s.runner before d.ins ins first d.trace runs.trace runs.running runs.runner_is

-- what was recorded before a tick
pub driven-by : (s : DriveSetting) (cast : List Role) (r : Running) (d : Driven) → IsCast s.plants s.names cast →
    d.ins ≡ inputs_before cast (length d.ins) → RunsOn s r d → length d.trace.rows ≡ length d.ins → HasDriven s cast d
driven-by s cast r d is ins runs long =
    let none : rowless d.trace.last ≡ 0 = ap rowless runs.running in
    record {
      is_cast = is;
      ins = ins;
      fit = runs.fit;
      trace = runs.trace;
      begun = omega (arith, long, none);
    }

-- the drive goes on
pub goes-on : (s : DriveSetting) (runner : Running) (plants now : List PlantView) (seats : List Seat) (d : Driven) (ins outs : List ℤ) →
    IsTickOfRunner s runner plants seats d ins outs tick.Row → ToldSoFar (hearing_of s d ins outs) (length seats) now seats →
    Goes s (suc (length d.ins)) runner now seats (with_tick d ins outs last.Open)
goes-on s runner plants now seats d ins outs run told =
    let a = all-told s now seats d ins outs told in
    let m : ℕ = length (d.ins ++ ins ∷ []) in
    record {
      done = one-more d ins;
      stands = record {
        done = [];
        rest = a.cast;
        asked = refl;
        cast = a.is;
        left = a.left;
        seats_are = a.seats_are;
        earlier = tt;
        later = a.plays;
        ins = a.row;
        gone = a.gone ∙ sym (append-nil (gone_before a.cast m));
        long = a.long;
      };
      runs = record {
        fit = fit-more (columns_in s) d.ins ins run.runs.fit run.fits;
        trace = run-trace s run.before d ins outs run.first tick.Row run.runs run.answer_is run.outs_are;
        running = refl;
        runner_is = run.after ∙ runner-more s.runner run.before d.ins ins run.runs.runner_is;
        live = ap (λ (r : Running). r.live) run.after ∙ live-more run.before ins (sym run.answer_is);
        wide = run.runs.wide;
        few = run.runs.few;
      };
    }

no-open : last.Ended ≡ last.Open → ⊥
no-open e = cc

no-open-trap : last.Trap ≡ last.Open → ⊥
no-open-trap e = cc

-- the run has ended
pub has-ended : (s : DriveSetting) (runner : Running) (plants now : List PlantView) (seats : List Seat) (d : Driven) (ins outs : List ℤ) →
    IsTickOfRunner s runner plants seats d ins outs tick.Ended → ToldSoFar (hearing_of s d ins outs) (length seats) now seats →
    DriveIsOver s (record { runner = runner; plants = now; driven = with_tick d ins outs last.Ended })
has-ended s runner plants now seats d ins outs run told =
    let a = all-told s now seats d ins outs told in
    let m : length (d.ins ++ ins ∷ []) ≡ suc (length d.ins) = one-more d ins in
    record {
      cast = a.cast;
      driven = record {
        is_cast = a.is;
        ins = a.row;
        fit = fit-more (columns_in s) d.ins ins run.runs.fit run.fits;
        trace = run-trace s run.before d ins outs run.first tick.Ended run.runs run.answer_is run.outs_are;
        begun = let long = a.long in omega (arith, long);
      };
      wide = run.runs.wide;
      within = let low = run.within in omega (arith, m, low);
      whole = λ e. absurd (no-open e);
      runner = run.after ∙ runner-more s.runner run.before d.ins ins run.runs.runner_is;
      plants = a.left;
      parts = a.plays;
      gone = a.gone;
    }

-- the run has trapped
pub has-trapped : (s : DriveSetting) (runner : Running) (plants : List PlantView) (seats : List Seat) (d : Driven) (ins outs : List ℤ) →
    IsTickOfRunner s runner plants seats d ins outs tick.Trap → DriveIsOver s (record { runner = runner; plants = plants; driven = with_trap d ins })
has-trapped s runner plants seats d ins outs run =
    let a = all-asked s plants seats d ins run.inputs in
    let m : length (d.ins ++ ins ∷ []) ≡ suc (length d.ins) = one-more d ins in
    record {
      cast = a.cast;
      driven = record {
        is_cast = a.is;
        ins = inputs-more s plants seats d ins a;
        fit = fit-more (columns_in s) d.ins ins run.runs.fit run.fits;
        trace =
            ap (λ z. record { rows = z; last = last.Trap }) (sym (append-nil d.trace.rows))
            ∙ run-trace s run.before d ins outs run.first tick.Trap run.runs run.answer_is run.outs_are;
        begun = let long = a.long in omega (arith, m, long);
      };
      wide = run.runs.wide;
      within = let low = run.within in omega (arith, m, low);
      whole = λ e. absurd (no-open-trap e);
      runner = run.after ∙ runner-more s.runner run.before d.ins ins run.runs.runner_is;
      plants = a.left;
      parts = subst (λ n. AllByRecursion (Plays d.trace.rows d.trace.rows n) a.cast) (sym m) a.plays;
      gone = a.gone ∙ ap (gone_before a.cast) (sym m);
    }

-- ---- want of memory

may-by : (outs now told : List (List ℤ)) (asked : ℕ) (r : Role) → (asked ≡ length outs) ⊎ (asked ≡ suc (length outs)) →
    (told ≡ outs) ⊎ ((asked ≡ suc (length outs)) × (told ≡ now)) → Plays outs told asked r → MayGoOn outs now r
may-by outs now told asked r asked_is told_is plays = record {
  asked = asked;
  told = told;
  asked_is = asked_is;
  told_is = told_is;
  plays = plays;
}

-- want of memory where a drive stands so
pub short-standing : (s : DriveSetting) (k : ℕ) (runner : Running) (plants : List PlantView) (seats : List Seat) (d : Driven) (gone : List Gone) →
    RowsFit (columns_in s) d.ins → d.trace ≡ trace_over s.runner d.ins → d.trace.last ≡ last.Open → runner ≡ runner_after s.runner d.ins →
    length d.ins ≤ s.ticks → AskedSoFar (scene_of s d) k plants seats gone →
    IsShort s (record { runner = runner; plants = plants; driven = record { ins = d.ins; trace = d.trace; gone = gone } })
short-standing s k runner plants seats d gone fit trace running runner_is within st =
    let n : ℕ = length d.ins in
    let outs : List (List ℤ) = d.trace.rows in
    let now : List (List ℤ) = (trace_over s.runner (d.ins ++ [])).rows in
    let none : rowless d.trace.last ≡ 0 = ap rowless running in
    let long : length outs ≡ n = st.long in
    record {
      cast = st.done ++ st.rest;
      driven = record {
        is_cast = st.cast;
        ins = st.ins;
        fit = fit;
        trace = trace;
        begun = omega (arith, long, none);
      };
      running = running;
      within = within;
      further = [];
      further_is = inl refl;
      runner = runner_is ∙ ap (runner_after s.runner) (sym (append-nil d.ins));
      plants = st.left;
      parts =
          all-both (MayGoOn outs now) st.done st.rest
          (all-map (Plays outs outs (suc n)) (MayGoOn outs now)
          (λ r plays. may-by outs now outs (suc n) r (inr (ap suc (sym long))) (inl refl) plays) st.done st.earlier)
          (all-map (Plays outs outs n) (MayGoOn outs now) (λ r plays. may-by outs now outs n r (inl (sym long)) (inl refl) plays) st.rest st.later);
      gone = st.gone ∙ gone-both outs outs n st.done st.rest st.later;
    }

-- want of memory while plants are asked, or before they are told
pub short-asking : (s : DriveSetting) (k : ℕ) (runner : Running) (plants : List PlantView) (seats : List Seat) (d : Driven) (gone : List Gone) →
    RunsOn s runner d → length d.ins ≤ s.ticks → AskedSoFar (scene_of s d) k plants seats gone →
    IsShort s (record { runner = runner; plants = plants; driven = record { ins = d.ins; trace = d.trace; gone = gone } })
short-asking s k runner plants seats d gone runs within st =
    short-standing s k runner plants seats d gone runs.fit runs.trace runs.running runs.runner_is within st

back : (outs now : List (List ℤ)) (row : List ℤ) (n : ℕ) (told : List (List ℤ)) (r : Role) → n ≡ suc (length outs) →
    (told ≡ outs) ⊎ (told ≡ now) → Plays (outs ++ row ∷ []) told n r → MayGoOn outs now r
back outs now row n told r long told_is plays =
    may-by outs now told n r (inr long) (told-so told_is)
    (plays-same r (outs ++ row ∷ []) outs told n (λ k low. sym (take-front outs row n k long low)) plays)
  where
    told-so : (told ≡ outs) ⊎ (told ≡ now) → (told ≡ outs) ⊎ ((n ≡ suc (length outs)) × (told ≡ now))
    told-so (inl before) = inl before
    told-so (inr up_to_now) = inr (long, up_to_now)

-- want of memory once the runner has done its tick
short-by : (s : DriveSetting) (runner : Running) (plants now : List PlantView) (seats : List Seat) (d : Driven) (ins outs : List ℤ) (answer : TickAnswer)
    (cast : List Role) → IsTickOfRunner s runner plants seats d ins outs answer → IsCast s.plants s.names cast → now ≡ left_in cast [] s.plants →
    d.ins ++ ins ∷ [] ≡ inputs_before cast (length (d.ins ++ ins ∷ [])) → d.gone ≡ gone_before cast (length (d.ins ++ ins ∷ [])) →
    length d.trace.rows ≡ length d.ins → AllByRecursion (MayGoOn d.trace.rows (trace_over s.runner (d.ins ++ ins ∷ [])).rows) cast →
    IsShort s (record { runner = runner; plants = now; driven = d })
short-by s runner plants now seats d ins outs answer cast run is left row gone long parts =
    let m : length (d.ins ++ ins ∷ []) ≡ suc (length d.ins) = one-more d ins in
    let none : rowless d.trace.last ≡ 0 = ap rowless run.runs.running in
    let both : d.ins ++ ins ∷ [] ≡ inputs_before cast (length d.ins) ++ inputs_at (length d.ins) cast ∷ [] = row ∙ ap (inputs_before cast) m in
    record {
      cast = cast;
      driven = record {
        is_cast = is;
        ins = front-same d.ins (inputs_before cast (length d.ins)) ins (inputs_at (length d.ins) cast) both;
        fit = run.runs.fit;
        trace = run.runs.trace;
        begun = omega (arith, long, none);
      };
      running = run.runs.running;
      within = let low = run.within in omega (arith, low);
      further = ins ∷ [];
      further_is = inr (ap (λ z. z ∷ []) (last-same d.ins (inputs_before cast (length d.ins)) ins (inputs_at (length d.ins) cast) both));
      runner = run.after ∙ runner-more s.runner run.before d.ins ins run.runs.runner_is;
      plants = left;
      parts = parts;
      gone = gone ∙ ap (gone_before cast) m;
    }
  where
    front-same : (xs ys : List (List ℤ)) (x y : List ℤ) → xs ++ x ∷ [] ≡ ys ++ y ∷ [] → xs ≡ ys
    front-same xs ys x y e =
        let both : length xs + 1 ≡ length ys + 1 = sym (length-append xs (x ∷ [])) ∙ ap length e ∙ length-append ys (y ∷ []) in
        let same : length xs ≡ length ys = omega (arith, both) in
        sym (take-append_seam xs (x ∷ [])) ∙ ap (take (length xs)) e ∙ ap (λ n. take n (ys ++ y ∷ [])) same ∙ take-append_seam ys (y ∷ [])

    last-same : (xs ys : List (List ℤ)) (x y : List ℤ) → xs ++ x ∷ [] ≡ ys ++ y ∷ [] → x ≡ y
    last-same xs ys x y e = sym (last-snoc [] xs x) ∙ ap (last_row []) e ∙ last-snoc [] ys y

-- want of memory while plants are told, or once they were
pub short-telling : (s : DriveSetting) (k : ℕ) (runner : Running) (plants now : List PlantView) (seats : List Seat) (d : Driven) (ins outs : List ℤ)
    (answer : TickAnswer) →
    IsTickOfRunner s runner plants seats d ins outs answer → d.trace.rows ++ outs ∷ [] ≡ (trace_with d.trace answer outs).rows →
    ToldSoFar (hearing_of s d ins outs) k now seats → IsShort s (record { runner = runner; plants = now; driven = d })
short-telling s k runner plants now seats d ins outs answer run has_row t =
    let a = all-asked s plants seats d ins run.inputs in
    let rows : List (List ℤ) = d.trace.rows in
    let told : List (List ℤ) = (trace_over s.runner (d.ins ++ ins ∷ [])).rows in
    let told_is : rows ++ outs ∷ [] ≡ told =
    has_row ∙ ap (λ (trace : Trace). trace.rows) (run-trace s run.before d ins outs run.first answer run.runs run.answer_is run.outs_are) in
    short-by s runner plants now seats d ins outs answer (t.done ++ t.rest) run t.cast t.left t.ins t.gone a.long
    (all-both (MayGoOn rows told) t.done t.rest
    (all-map (Plays (rows ++ outs ∷ []) (rows ++ outs ∷ []) (length (d.ins ++ ins ∷ []))) (MayGoOn rows told)
    (λ r plays. back rows told outs (length (d.ins ++ ins ∷ [])) (rows ++ outs ∷ []) r t.long (inr told_is) plays) t.done t.earlier)
    (all-map (Plays (rows ++ outs ∷ []) rows (length (d.ins ++ ins ∷ []))) (MayGoOn rows told)
    (λ r plays. back rows told outs (length (d.ins ++ ins ∷ [])) rows r t.long (inl refl) plays) t.rest t.later))

-- want of memory once a tick has trapped
pub short-trapped : (s : DriveSetting) (runner : Running) (plants : List PlantView) (seats : List Seat) (d : Driven) (ins outs : List ℤ) (answer : TickAnswer) →
    IsTickOfRunner s runner plants seats d ins outs answer → IsShort s (record { runner = runner; plants = plants; driven = d })
short-trapped s runner plants seats d ins outs answer run =
    let a = all-asked s plants seats d ins run.inputs in
    let rows : List (List ℤ) = d.trace.rows in
    let told : List (List ℤ) = (trace_over s.runner (d.ins ++ ins ∷ [])).rows in
    short-by s runner plants plants seats d ins outs answer a.cast run a.is a.left (inputs-more s plants seats d ins a)
    (a.gone ∙ ap (gone_before a.cast) (sym (one-more d ins))) a.long
    (all-map (Plays rows rows (suc (length d.ins))) (MayGoOn rows told)
    (λ r plays. may-by rows told rows (suc (length d.ins)) r (inr (ap suc (sym a.long))) (inl refl) plays) a.cast a.plays)
