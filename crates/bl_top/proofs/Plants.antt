-- No count of faults of a plant falls in a call.
use Rattle.std.proofs.Common.{◌≡◌, ◌∙◌, ℕ, suc, ◌≤◌, ℤ, Bool, true, false, cond, if◌then◌else◌, List, [], ◌∷◌, ◌++◌, length, nat_eq, Option, Some, None, Result}
use Rattle.std.proofs.Common.{Ok, Err, refl, sym, ap, subst, append_assoc, le_refl}
use Rattle.std.specs.List.{AllByRecursion, list_any}
use Rattle.std.proofs.lemmas.Bool.{eq-eqb}
use Rattle.std.proofs.lemmas.List.Folds.{list_any-append}
use Rattle.std.proofs.lemmas.Bool.{or_from}
use Rattle.bl_tree.proofs.Basics.{neither_first, neither_second, same_some}
use Rattle.bl_plant.specs.Plants.{IsSame, PlantView}
use Rattle.bl_plant_drive.specs.Drives.{DriveEnds as EndsOf, DriveSetting, HasStopped, MayGoOn, Outcome, trace_over}
use Rattle.bl_plant_drive.specs.Roles.{Plays, Role, after_part, first_named, left_by, left_in, role_of}
use Rattle.bl_plant_drive.specs.declared.driven.Driven.{Driven}
use Rattle.bl_plant_drive.specs.declared.fault.DriveFault.{DriveFault}
use Rattle.bl_plant_drive.specs.declared.fault.DriveFault.TheVariants as fault
use Rattle.bl_plant_drive.proofs.Casts.{eq-flip, role-name, split}
use Rattle.bl_top.specs.Answers.{Answers, KeepsCounts, KeepsPlants, bounds, builds, checks, counts, drives, dropped, execs, gens, no_job, no_plant, resumes}
use Rattle.bl_top.specs.Answers.{faces, links, runs, saves, saves_from, short as answers_short, stays, walks}
use Rattle.bl_top.specs.Drive.{DriveEnds, HasDrivenSource, LeavesDrivenPlants, Plants, drive_setting, drove, kept, short, stopped, was_driven}
use Rattle.bl_top_args.specs.Jobs.{JobSpec, Word}
use Rattle.bl_top_commands.specs.Calls.{Call}
use Rattle.bl_top_commands.specs.declared.status.Status.{Status}
use Rattle.bl_plant_drive.proofs.Telling.{all-both, all-map}

same-as : (p : PlantView) → IsSame p p
same-as p = record { name = refl; width = refl; rule = refl; faults = le_refl p.faults }

keeps-all : (plants : List PlantView) → KeepsCounts plants plants
keeps-all [] = no_plant
keeps-all (p ∷ plants) = stays (same-as p) (keeps-all plants)

keeps-same : (before after : List PlantView) → after ≡ before → KeepsCounts before after
keeps-same before after same = subst (KeepsCounts before) (sym same) (keeps-all before)

-- ---- lists

role-in : (P : Role → Type 0) (n : ℕ) (cast : List Role) → AllByRecursion P cast → (r : Role) → role_of n cast ≡ Some r → P r
role-in P n [] all r found = absurd (cc)
role-in P n (d ∷ cast) all r found = split (nat_eq d.plant.name n)
    (λ holds. subst P (same_some d r (sym (ap (λ (z : Bool). if z then Some d else role_of n cast) holds) ∙ found)) all.0)
    (λ fails. role-in P n cast all.1 r (sym (ap (λ (z : Bool). if z then Some d else role_of n cast) fails) ∙ found))

pub first-behind : (n : ℕ) (before : List PlantView) (q : PlantView) (after : List PlantView) → list_any (λ (x : PlantView). nat_eq x.name n) before ≡ false →
    q.name ≡ n → first_named n (before ++ q ∷ after) ≡ Some q
first-behind n [] q after none is = ap (λ b. cond b (Some q) (first_named n after)) (eq-eqb q.name n is)
first-behind n (x ∷ before) q after none is =
    ap (λ b. cond b (Some x) (first_named n (before ++ q ∷ after)))
    (neither_first (nat_eq x.name n) (list_any (λ (y : PlantView). nat_eq y.name n) before) none)
    ∙ first-behind n before q after (neither_second (nat_eq x.name n) (list_any (λ (y : PlantView). nat_eq y.name n) before) none) is

-- ---- what a cast leaves

abbrev IsMeant : List PlantView → Role → Type 0
IsMeant plants r = first_named r.plant.name plants ≡ Some r.plant

-- no count falls in a part
abbrev HasNotFallen : Role → Type 0
HasNotFallen r = r.plant.faults ≤ r.part.faults

module _ (whole : List PlantView) (cast : List Role) (meant : AllByRecursion (IsMeant whole) cast) (grew : AllByRecursion HasNotFallen cast) where
  same-part : (r : Role) (p : PlantView) → role_of p.name cast ≡ Some r → first_named p.name whole ≡ Some p → IsSame p (after_part r)
  same-part r p found first =
      let named = role-name p.name cast r found in
      let is : r.plant ≡ p =
      same_some r.plant p (sym (role-in (IsMeant whole) p.name cast meant r found) ∙ ap (λ n. first_named n whole) named ∙ first) in
      subst (λ x. IsSame x (after_part r)) is
      (record { name = refl; width = refl; rule = refl; faults = role-in HasNotFallen p.name cast grew r found })

  part-keeps : (p : PlantView) (plants after : List PlantView) (o : Option Role) → role_of p.name cast ≡ o → first_named p.name whole ≡ Some p →
      KeepsCounts plants after → KeepsCounts (p ∷ plants) (left_by o p ++ after)
  part-keeps p plants after None found first later = stays (same-as p) later
  part-keeps p plants after (Some r) found first later = by-gone r.part.gone
    where
      by-gone : (b : Bool) → KeepsCounts (p ∷ plants) ((if b then [] else after_part r ∷ []) ++ after)
      by-gone true = dropped later
      by-gone false = stays (same-part r p found first) later

  left-keeps : (front plants : List PlantView) (earlier : List ℕ) → whole ≡ front ++ plants →
      ((n : ℕ) → list_any (nat_eq n) earlier ≡ false → list_any (λ (x : PlantView). nat_eq x.name n) front ≡ false) →
      KeepsCounts plants (left_in cast earlier plants)
  left-keeps front [] earlier is apart = no_plant
  left-keeps front (p ∷ plants) earlier is apart =
      by-name (list_any (nat_eq p.name) earlier) refl
      (left-keeps (front ++ p ∷ []) plants (p.name ∷ earlier) (is ∙ sym (append_assoc front (p ∷ []) plants)) apart-more)
    where
      apart-more : (n : ℕ) → list_any (nat_eq n) (p.name ∷ earlier) ≡ false → list_any (λ (x : PlantView). nat_eq x.name n) (front ++ p ∷ []) ≡ false
      apart-more n other =
          list_any-append (λ (x : PlantView). nat_eq x.name n) front (p ∷ [])
          ∙ or_from (list_any (λ (x : PlantView). nat_eq x.name n) front) (list_any (λ (x : PlantView). nat_eq x.name n) (p ∷ []))
          (apart n (neither_second (nat_eq n p.name) (list_any (nat_eq n) earlier) other))
          (or_from (nat_eq p.name n) false (eq-flip n p.name (neither_first (nat_eq n p.name) (list_any (nat_eq n) earlier) other)) refl)

      by-name : (b : Bool) → list_any (nat_eq p.name) earlier ≡ b → KeepsCounts plants (left_in cast (p.name ∷ earlier) plants) →
          KeepsCounts (p ∷ plants) ((if b then p ∷ [] else left_by (role_of p.name cast) p) ++ left_in cast (p.name ∷ earlier) plants)
      by-name true seen later = stays (same-as p) later
      by-name false fresh later =
          part-keeps p plants (left_in cast (p.name ∷ earlier) plants) (role_of p.name cast) refl
          (ap (first_named p.name) is ∙ first-behind p.name front p plants (apart p.name fresh) refl) later

  cast-keeps : KeepsCounts whole (left_in cast [] whole)
  cast-keeps = left-keeps [] whole [] refl (λ n other. refl)

-- ---- drives

plays-count : (outs told : List (List ℤ)) (asked : ℕ) (r : Role) → Plays outs told asked r → HasNotFallen r
plays-count outs told asked r plays = plays.faults

stopped-keeps : (s : DriveSetting) (o : Outcome) (asked others : List Role) → HasStopped s o asked others → KeepsCounts s.plants o.plants
stopped-keeps s o asked others is =
    let outs : List (List ℤ) = o.driven.trace.rows in
    let n : ℕ = length o.driven.ins in
    subst (KeepsCounts s.plants) (sym is.plants)
    (cast-keeps s.plants (asked ++ others) is.driven.is_cast.meant
    (all-both HasNotFallen asked others (all-map (Plays outs outs (suc n)) HasNotFallen (plays-count outs outs (suc n)) asked is.earlier)
    (all-map (Plays outs outs n) HasNotFallen (plays-count outs outs n) others is.later)))

ends-keep : (s : DriveSetting) (o : Outcome) (how : Result (Unit {0}) DriveFault) → EndsOf s o how → KeepsCounts s.plants o.plants
ends-keep s o (Ok done) ends =
    let outs : List (List ℤ) = o.driven.trace.rows in
    let n : ℕ = length o.driven.ins in
    subst (KeepsCounts s.plants) (sym ends.plants)
    (cast-keeps s.plants ends.cast ends.driven.is_cast.meant (all-map (Plays outs outs n) HasNotFallen (plays-count outs outs n) ends.cast ends.parts))
ends-keep s o (Err (fault.Failed name)) ends = stopped-keeps s o ends.asked (ends.role ∷ ends.others) ends.stopped
ends-keep s o (Err (fault.Absent name)) ends = keeps-same s.plants o.plants ends.1.plants
ends-keep s o (Err (fault.Twice name)) ends = keeps-same s.plants o.plants ends.1.plants
ends-keep s o (Err (fault.Width given wanted)) ends = keeps-same s.plants o.plants ends.1.plants
ends-keep s o (Err (fault.Range column number)) ends = stopped-keeps s o (ends.asked ++ ends.role ∷ []) ends.others ends.stopped
ends-keep s o (Err fault.NoMemory) ends =
    subst (KeepsCounts s.plants) (sym ends.plants)
    (cast-keeps s.plants ends.cast ends.driven.is_cast.meant
    (all-map (MayGoOn o.driven.trace.rows (trace_over s.runner (o.driven.ins ++ ends.further)).rows) HasNotFallen (λ r may. may.plays.faults) ends.cast
    ends.parts))

source-keeps : (left : Option (List ℕ)) (plants : Plants) (ticks : ℕ) (names : List ℕ) (driven : Driven) (how : Result (Unit {0}) DriveFault)
    (text : List ℕ) → HasDrivenSource left plants ticks names driven how text → KeepsCounts plants.before plants.after
source-keeps left plants ticks names driven how text has =
    ends-keep (drive_setting has.parts plants.before ticks names)
    (record { runner = has.is_driven.runner; plants = plants.after; driven = driven }) how has.is_driven.ends

leaves-keep : (left : Option (List ℕ)) (plants : Plants) (ticks : ℕ) (names : List ℕ) → LeavesDrivenPlants left plants ticks names →
    KeepsCounts plants.before plants.after
leaves-keep left plants ticks names (kept same) = keeps-same plants.before plants.after same
leaves-keep left plants ticks names (was_driven driven how text has) = source-keeps left plants ticks names driven how text has

drive-keeps : (c : Call) (plants : Plants) (source : Word) (ticks : ℕ) (names : List ℕ) (ended : Status) (lines : List ℕ) →
    DriveEnds c plants source ticks names ended lines → KeepsCounts plants.before plants.after
drive-keeps c plants source ticks names ended lines (drove driven how text has notes) =
    source-keeps (c.left source) plants ticks names driven how text has
drive-keeps c plants source ticks names _ _ (short leaves same) = leaves-keep (c.left source) plants ticks names leaves
drive-keeps c plants source ticks names ended lines (stopped why out same) = keeps-same plants.before plants.after same

-- ---- the call

pub answers_keep : (c : Call) (plants : Plants) (job : Option JobSpec) (ended : Status) (lines : List ℕ) → Answers c plants job ended lines →
    KeepsPlants job plants → KeepsCounts plants.before plants.after
answers_keep c plants _ ended lines (checks {source} ends) same = keeps-same plants.before plants.after same
answers_keep c plants _ ended lines (builds {source} ends) same = keeps-same plants.before plants.after same
answers_keep c plants _ ended lines (runs {source} {rows} ends) same = keeps-same plants.before plants.after same
answers_keep c plants _ ended lines (walks {source} {rows} {seed} ends) same = keeps-same plants.before plants.after same
answers_keep c plants _ ended lines (execs {text} {rows} ends) same = keeps-same plants.before plants.after same
answers_keep c plants _ ended lines (drives {source} {ticks} {names} ends) same = drive-keeps c plants source ticks names ended lines ends
answers_keep c plants _ ended lines (gens {stages} ends) same = keeps-same plants.before plants.after same
answers_keep c plants _ ended lines (bounds {text} ends) same = keeps-same plants.before plants.after same
answers_keep c plants _ ended lines (counts {text} {rows} ends) same = keeps-same plants.before plants.after same
answers_keep c plants _ ended lines (saves {text} {rows} ends) same = keeps-same plants.before plants.after same
answers_keep c plants _ ended lines (saves_from {text} {state} {rows} ends) same = keeps-same plants.before plants.after same
answers_keep c plants _ ended lines (resumes {text} {state} {rows} ends) same = keeps-same plants.before plants.after same
answers_keep c plants _ ended lines (faces {source} {uses} ends) same = keeps-same plants.before plants.after same
answers_keep c plants _ ended lines (links {sources} ends) same = keeps-same plants.before plants.after same
answers_keep c plants _ _ _ (no_job kept_out) same = keeps-same plants.before plants.after same
answers_keep c plants job _ _ (answers_short kept_out same) keeps = keeps-same plants.before plants.after same
