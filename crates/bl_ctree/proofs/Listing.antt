-- The listed points of a tree are the steps of the relation.
use Rattle.std.proofs.Common.{◌≡◌, ℕ, Bool, true, false, not, ◌&&◌, List, [], ◌∷◌, ◌++◌, map, refl, sym, ap, subst, ◌∙◌, Option, Some, None, ◌⊎◌, inl, inr}
use Rattle.std.specs.Prelude.{if◌then◌else◌, option_map, option_and_then, unwrap_or}
use Rattle.std.proofs.lemmas.Bool.{not-true}
use Rattle.bl_tree.proofs.Basics.{not_of_false}
use Rattle.bl_tree.specs.declared.tree.Arm.{Arm}
use Rattle.bl_tree.specs.declared.tree.Branch.{Branch}
use Rattle.bl_tree.specs.declared.tree.Guard.TheVariants.{Abort, Reset}
use Rattle.bl_tree.specs.declared.tree.Stmt.{Stmt}
use Rattle.bl_tree.specs.declared.tree.StmtKind.{StmtKind}
use Rattle.bl_tree.specs.declared.tree.StmtKind.TheOpen.{StmtKind-F}
use Rattle.bl_tree.specs.declared.tree.Unit.{Unit as UnitDef}
use Rattle.bl_ctree.specs.Actions.{Action, Effect, Silent, Acts, Asks, Copies, Gives, Performed, action, effect_on, done, perform, values_there}
use Rattle.bl_ctree.specs.Control.{Control, Branches, Nil, Wait, Test, Idle, Do, Turn, Seq, Par, Guard, Run, no_branch, branch, Check, Body, are_settled}
use Rattle.bl_ctree.specs.Control.{are_done, is_nil, seq}
use Rattle.bl_ctree.specs.Instances.{Setting, callee_of, unit_at}
use Rattle.bl_ctree.specs.Laws.{PointsAct, PointsMove, MovesAreListed, StepsAreListed, StillIsUnlisted, Listed, can_answer}
use Rattle.bl_ctree.specs.Pending.{meets, any_meets}
use Rattle.bl_ctree.specs.Points.{IsMember, here, there, Point, points, branch_points, within, in_first, in_later, guard_points, run_points, joining, free_of}
use Rattle.bl_ctree.specs.Points.{sure, asking, giving, begins, tests, turns_on, checks, copying, or_nothing, run_begins}
use Rattle.bl_ctree.specs.Positions.{Located, kind_of, place_of, is_act}
use Rattle.bl_ctree.specs.Store.{Store, with_frame, with_inputs}
use Rattle.bl_ctree.specs.Steps.{Acting, leads, fails, IsStill, Moves, OneMoves, acts, takes_arm, passes_arm, takes_else, pauses, runs, repeats, repeats_until}
use Rattle.bl_ctree.specs.Steps.{leaves, turns, enters, skips, forks, guards, goes_on, waits, lets, aborts, resets, guard_ends, copies, run_ends, joins, in_seq}
use Rattle.bl_ctree.specs.Steps.{in_par, in_guard, in_run, first, later}
use Rattle.bl_ctree.proofs.Elements.{among-map, of-map, among-left, among-right, of-append, of-filter, among-filter}

-- ---- what is listed may act

-- the one point of `sure` moves where its answer true does
of_sure : {w : Setting} {i : ℕ} {c : Control} (s : Located) (effect : Effect) (after : Control) →
    ((d : Bool) → can_answer effect d ≡ d) → Moves w i c true (action i s effect) after →
    (p : Point Control) → IsMember (Point Control) p (sure i s effect after) → (d : Bool) → can_answer p.action.effect d ≡ true →
    Moves w i c d p.action (p.after d)
of_sure s effect after one move p here true h = move
of_sure s effect after one move p here false h = absurd (let e = one false in cc)
of_sure s effect after one move p (there m) d h = elim m [ ]

of_asking : {w : Setting} {i : ℕ} {c : Control} (s : Located) (effect : Effect) (yes' no' : Control) →
    Moves w i c true (action i s effect) yes' → Moves w i c false (action i s effect) no' →
    (p : Point Control) → IsMember (Point Control) p (asking i s effect yes' no') → (d : Bool) → Moves w i c d p.action (p.after d)
of_asking s effect yes' no' if_true if_false p here true = if_true
of_asking s effect yes' no' if_true if_false p here false = if_false
of_asking s effect yes' no' if_true if_false p (there m) d = elim m [ ]

-- a point that is listed moves
abbrev Sound : Setting → ℕ → Control → List (Point Control) → Type 0
Sound w i c listed =
    (p : Point Control) → IsMember (Point Control) p listed → (d : Bool) → can_answer p.action.effect d ≡ true → Moves w i c d p.action (p.after d)

nothing_sound : (w : Setting) (i : ℕ) (c : Control) → Sound w i c []
nothing_sound w i c p m d h = elim m [ ]

sound_unit : (w : Setting) (i : ℕ) (s : Located) {target : _} {a : ℕ} {inputs : _} {outputs : _} (callee : ℕ) →
    kind_of s ≡ StmtKind-F.Run target a inputs outputs →
    callee_of w i (place_of s) ≡ Some callee → (unit : Option UnitDef) → unit_at w callee ≡ unit →
    Sound w i (Do s) (or_nothing (option_map (run_begins w i s (Copies callee inputs) callee) unit))
sound_unit w i s callee e at None there_is p m d h = elim m [ ]
sound_unit w i s callee e at (Some unit) there_is p m d h = of_sure s (Copies callee _) _ (λ d. refl) (runs e at there_is) p m d h

sound_run : (w : Setting) (i : ℕ) (s : Located) {target : _} {a : ℕ} {inputs : _} {outputs : _} → kind_of s ≡ StmtKind-F.Run target a inputs outputs →
    (found : Option ℕ) → callee_of w i (place_of s) ≡ found →
    Sound w i (Do s) (or_nothing (option_and_then (λ callee. option_map (run_begins w i s (Copies callee inputs) callee) (unit_at w callee)) found))
sound_run w i s e None at p m d h = elim m [ ]
sound_run w i s e (Some callee) at p m d h = sound_unit w i s callee e at (unit_at w callee) refl p m d h

sound_begins : (w : Setting) (i : ℕ) (s : Located) (k : StmtKind-F StmtKind Arm Branch Stmt) → kind_of s ≡ k → Sound w i (Do s) (begins w i s k)
sound_begins w i s (StmtKind-F.Declare k initial) e p m d h = of_sure s (Acts s.stmt) Nil (λ d. refl) (acts (ap is_act e)) p m d h
sound_begins w i s (StmtKind-F.Assign path value) e p m d h = of_sure s (Acts s.stmt) Nil (λ d. refl) (acts (ap is_act e)) p m d h
sound_begins w i s (StmtKind-F.Call f inputs outputs) e p m d h = of_sure s (Acts s.stmt) Nil (λ d. refl) (acts (ap is_act e)) p m d h
sound_begins w i s (StmtKind-F.Return value) e p m d h = of_sure s (Acts s.stmt) Nil (λ d. refl) (acts (ap is_act e)) p m d h
sound_begins w i s (StmtKind-F.Await test) e p m d h = of_sure s Silent (Wait s) (λ d. refl) (pauses e) p m d h
sound_begins w i s (StmtKind-F.Run target a inputs outputs) e p m d h = sound_run w i s e (callee_of w i (place_of s)) refl p m d h
sound_begins w i s (StmtKind-F.If [] other) e p m d h = elim m [ ]
sound_begins w i s (StmtKind-F.If (arm ∷ []) other) e p m d h = of_asking s _ _ _ (takes_arm e) (takes_else e) p m d
sound_begins w i s (StmtKind-F.If (arm ∷ next ∷ arms) other) e p m d h = of_asking s _ _ _ (takes_arm e) (passes_arm e) p m d
sound_begins w i s (StmtKind-F.Cobegin branches) e p m d h = of_sure s Silent _ (λ d. refl) (forks e) p m d h
sound_begins w i s (StmtKind-F.When guard test body) e p m d h = of_sure s Silent _ (λ d. refl) (guards e) p m d h
sound_begins w i s (StmtKind-F.Repeat body) e p m d h = of_sure s Silent _ (λ d. refl) (repeats e) p m d h
sound_begins w i s (StmtKind-F.Until body test) e p m d h = of_sure s Silent _ (λ d. refl) (repeats_until e) p m d h
sound_begins w i s (StmtKind-F.While test body) e p m d h = of_asking s _ _ _ (enters e) (skips e) p m d

sound_tests : (w : Setting) (i : ℕ) (s : Located) (k : StmtKind-F StmtKind Arm Branch Stmt) → kind_of s ≡ k → Sound w i (Test s) (tests i s k)
sound_tests w i s (StmtKind-F.Await test) e p m d h = of_asking s _ _ _ (goes_on e) (waits e) p m d
sound_tests w i s _ e p m d h = elim m [ ]

sound_turn : (w : Setting) (i : ℕ) (s : Located) (k : StmtKind-F StmtKind Arm Branch Stmt) → kind_of s ≡ k → Sound w i (Turn s) (turns_on i s k)
sound_turn w i s (StmtKind-F.Until body test) e p m d h = of_asking s _ _ _ (leaves e) (turns e) p m d
sound_turn w i s _ e p m d h = elim m [ ]

sound_checks : (w : Setting) (i : ℕ) (s : Located) (stood : Bool) (c : Control) (k : StmtKind-F StmtKind Arm Branch Stmt) → kind_of s ≡ k →
    Sound w i (Guard s Check stood c) (checks i s stood c k)
sound_checks w i s stood c (StmtKind-F.When Abort test body) e p m d h = of_asking s _ _ _ (aborts e) (lets e) p m d
sound_checks w i s stood c (StmtKind-F.When Reset test body) e p m d h = of_asking s _ _ _ (resets e) (lets e) p m d
sound_checks w i s stood c _ e p m d h = elim m [ ]

sound_copying : (w : Setting) (i : ℕ) (s : Located) (callee : ℕ) (stood : Bool) (c : Control)
    (k : StmtKind-F StmtKind Arm Branch Stmt) → kind_of s ≡ k →
    Sound w i (Run s callee Check stood c) (copying i s callee stood c k)
sound_copying w i s callee stood c (StmtKind-F.Run target a inputs outputs) e p m d h = of_sure s _ _ (λ d. refl) (copies e) p m d h
sound_copying w i s callee stood c _ e p m d h = elim m [ ]

sound_giving : (w : Setting) (i : ℕ) (s : Located) (callee : ℕ) (stood : Bool) (k : StmtKind-F StmtKind Arm Branch Stmt) → kind_of s ≡ k →
    Sound w i (Run s callee Body stood Nil) (giving i s callee k)
sound_giving w i s callee stood (StmtKind-F.Run target a inputs outputs) e p m d h = of_sure s _ _ (λ d. refl) (run_ends e) p m d h
sound_giving w i s callee stood _ e p m d h = elim m [ ]

-- the points of a tree inside, seen from around it
sound_within : {w : Setting} {i j : ℕ} {c c' : Control} (around : Control → Control) (listed : List (Point Control)) →
    ((d : Bool) (a : Action) (after : Control) → Moves w i c d a after → Moves w j c' d a (around after)) →
    Sound w i c listed → Sound w j c' (map (within around) listed)
sound_within {w} {i} {j} {c} {c'} around listed lift inner p m d h =
    let image = of-map (within around) listed m in
    subst (λ p. can_answer p.action.effect d ≡ true → Moves w j c' d p.action (p.after d)) image.is
    (λ h. lift d _ _ (inner image.source image.among d h)) h

nil_is : (c : Control) → is_nil c ≡ true → c ≡ Nil
nil_is Nil e = refl
nil_is (Wait s) e = absurd cc
nil_is (Test s) e = absurd cc
nil_is (Idle items) e = absurd cc
nil_is (Do s) e = absurd cc
nil_is (Turn s) e = absurd cc
nil_is (Seq c rest) e = absurd cc
nil_is (Par s stood branches) e = absurd cc
nil_is (Guard s phase stood c) e = absurd cc
nil_is (Run s callee phase stood c) e = absurd cc

sound_guard : (w : Setting) (i : ℕ) (s : Located) (stood : Bool) (c : Control) (inner : List (Point Control)) → Sound w i c inner →
    Sound w i (Guard s Body stood c) (guard_points i s stood c inner)
sound_guard w i s stood c inner sound = go (is_nil c) refl
  where
    go : (b : Bool) → is_nil c ≡ b → Sound w i (Guard s Body stood c) (if b then sure i s Silent Nil else map (within (Guard s Body stood)) inner)
    go true e = subst (λ c. Sound w i (Guard s Body stood c) (sure i s Silent Nil)) (sym (nil_is c e)) (of_sure s Silent Nil (λ d. refl) guard_ends)
    go false e = sound_within (Guard s Body stood) inner (λ d a after move. in_guard move) sound

sound_in_run : (w : Setting) (i : ℕ) (s : Located) (callee : ℕ) (stood : Bool) (c : Control) (inner : List (Point Control)) → Sound w callee c inner →
    Sound w i (Run s callee Body stood c) (run_points i s callee stood c inner)
sound_in_run w i s callee stood c inner sound = go (is_nil c) refl
  where
    go : (b : Bool) → is_nil c ≡ b → Sound w i (Run s callee Body stood c)
        (if b then giving i s callee (kind_of s) else map (within (Run s callee Body stood)) inner)
    go true e = subst (λ c. Sound w i (Run s callee Body stood c) (giving i s callee (kind_of s))) (sym (nil_is c e))
        (sound_giving w i s callee stood (kind_of s) refl)
    go false e = sound_within (Run s callee Body stood) inner (λ d a after move. in_run move) sound

sound_joining : (w : Setting) (i : ℕ) (s : Located) (stood : Bool) (branches : Branches) → Sound w i (Par s stood branches) (joining i s branches)
sound_joining w i s stood branches = go (are_settled branches) (are_done branches) refl refl
  where
    go : (a b : Bool) → are_settled branches ≡ a → are_done branches ≡ b →
        Sound w i (Par s stood branches) (if a && b then sure i s Silent Nil else [])
    go true true settled done = of_sure s Silent Nil (λ d. refl) (joins settled done)
    go true false settled done = nothing_sound w i (Par s stood branches)
    go false b settled done = nothing_sound w i (Par s stood branches)

-- the same of branches
abbrev OneSound : Setting → ℕ → Branches → List (Point Branches) → Type 0
OneSound w i branches listed =
    (p : Point Branches) → IsMember (Point Branches) p listed → (d : Bool) → can_answer p.action.effect d ≡ true →
    OneMoves w i branches d p.action (p.after d)

sound_par : (w : Setting) (i : ℕ) (s : Located) (stood : Bool) (branches : Branches) (listed : List (Point Branches)) → OneSound w i branches listed →
    Sound w i (Par s stood branches) (map (within (Par s stood)) listed)
sound_par w i s stood branches listed inner p m d h =
    let image = of-map (within (Par s stood)) listed m in
    subst (λ p. can_answer p.action.effect d ≡ true → Moves w i (Par s stood branches) d p.action (p.after d)) image.is
    (λ h. in_par (inner image.source image.among d h)) h

sound_first : (w : Setting) (i : ℕ) (weak : Bool) (c : Control) (others : Branches) (listed : List (Point Control)) → Sound w i c listed →
    OneSound w i (branch weak c others) (map (in_first (λ c. branch weak c others)) (free_of (any_meets w i others) listed))
sound_first w i weak c others listed inner p m d h =
    let image = of-map (in_first (λ c. branch weak c others)) (free_of (any_meets w i others) listed) m in
    let passing = of-filter (λ point. not (any_meets w i others point.action)) listed image.among in
    subst (λ p. can_answer p.action.effect d ≡ true → OneMoves w i (branch weak c others) d p.action (p.after d)) image.is
    (λ h. first (inner image.source passing.among d h) (not-true _ passing.passes)) h

sound_later : (w : Setting) (i : ℕ) (weak : Bool) (c : Control) (others : Branches) (listed : List (Point Branches)) → OneSound w i others listed →
    OneSound w i (branch weak c others) (map (in_later (branch weak c)) (free_of (meets w i c) listed))
sound_later w i weak c others listed inner p m d h =
    let image = of-map (in_later (branch weak c)) (free_of (meets w i c) listed) m in
    let passing = of-filter (λ point. not (meets w i c point.action)) listed image.among in
    subst (λ p. can_answer p.action.effect d ≡ true → OneMoves w i (branch weak c others) d p.action (p.after d)) image.is
    (λ h. later (inner image.source passing.among d h) (not-true _ passing.passes)) h

either_sound : {w : Setting} {i : ℕ} {c : Control} (xs ys : List (Point Control)) → Sound w i c xs → Sound w i c ys → Sound w i c (xs ++ ys)
either_sound {w} {i} {c} xs ys left right p m d h = go (of-append xs m)
  where
    go : IsMember (Point Control) p xs ⊎ IsMember (Point Control) p ys → Moves w i c d p.action (p.after d)
    go (inl n) = left p n d h
    go (inr n) = right p n d h

one_either_sound : {w : Setting} {i : ℕ} {c : Branches} (xs ys : List (Point Branches)) → OneSound w i c xs → OneSound w i c ys →
    OneSound w i c (xs ++ ys)
one_either_sound {w} {i} {c} xs ys left right p m d h = go (of-append xs m)
  where
    go : IsMember (Point Branches) p xs ⊎ IsMember (Point Branches) p ys → OneMoves w i c d p.action (p.after d)
    go (inl n) = left p n d h
    go (inr n) = right p n d h

mutual
  sound : (w : Setting) (i : ℕ) (c : Control) → Sound w i c (points w i c)
  sound w i Nil = nothing_sound w i Nil
  sound w i (Wait s) = nothing_sound w i (Wait s)
  sound w i (Test s) = sound_tests w i s (kind_of s) refl
  sound w i (Idle items) = nothing_sound w i (Idle items)
  sound w i (Do s) = sound_begins w i s (kind_of s) refl
  sound w i (Turn s) = sound_turn w i s (kind_of s) refl
  sound w i (Seq c rest) = sound_within (λ c. seq c rest) (points w i c) (λ d a after move. in_seq move) (sound w i c)
  sound w i (Par s stood branches) =
      either_sound (joining i s branches) (map (within (Par s stood)) (branch_points w i branches))
      (sound_joining w i s stood branches) (sound_par w i s stood branches (branch_points w i branches) (sound_branches w i branches))
  sound w i (Guard s Check stood c) = sound_checks w i s stood c (kind_of s) refl
  sound w i (Guard s Body stood c) = sound_guard w i s stood c (points w i c) (sound w i c)
  sound w i (Run s callee Check stood c) = sound_copying w i s callee stood c (kind_of s) refl
  sound w i (Run s callee Body stood c) = sound_in_run w i s callee stood c (points w callee c) (sound w callee c)

  sound_branches : (w : Setting) (i : ℕ) (branches : Branches) → OneSound w i branches (branch_points w i branches)
  sound_branches w i no_branch = λ p m d h. elim m [ ]
  sound_branches w i (branch weak c others) =
      one_either_sound (map (in_first (λ c. branch weak c others)) (free_of (any_meets w i others) (points w i c)))
      (map (in_later (branch weak c)) (free_of (meets w i c) (branch_points w i others)))
      (sound_first w i weak c others (points w i c) (sound w i c)) (sound_later w i weak c others (branch_points w i others) (sound_branches w i others))

pub points_move : PointsMove
points_move w i c point m d h = sound w i c point m d h

-- ---- what may act is listed

listed_sure : (i : ℕ) (s : Located) (effect : Effect) (after : Control) → Listed (sure i s effect after) true (action i s effect) after
listed_sure i s effect after = record { point = _; among = here; acts = refl; leads = refl }

listed_true : (i : ℕ) (s : Located) (effect : Effect) (if_true if_false : Control) →
    Listed (asking i s effect if_true if_false) true (action i s effect) if_true
listed_true i s effect if_true if_false = record { point = _; among = here; acts = refl; leads = refl }

listed_false : (i : ℕ) (s : Located) (effect : Effect) (if_true if_false : Control) →
    Listed (asking i s effect if_true if_false) false (action i s effect) if_false
listed_false i s effect if_true if_false = record { point = _; among = here; acts = refl; leads = refl }

listed_within : {A B : Type 0} (around : A → B) {all : List (Point A)} {d : Bool} {a : Action} {after : A} →
    Listed all d a after → Listed (map (within around) all) d a (around after)
listed_within around l = record { point = within around l.point; among = among-map (within around) l.among; acts = l.acts; leads = ap around l.leads }

listed_first : (around : Control → Branches) {all : List (Point Control)} {d : Bool} {a : Action} {after : Control} →
    Listed all d a after → Listed (map (in_first around) all) d a (around after)
listed_first around l = record { point = in_first around l.point; among = among-map (in_first around) l.among; acts = l.acts; leads = ap around l.leads }

listed_later : (around : Branches → Branches) {all : List (Point Branches)} {d : Bool} {a : Action} {after : Branches} →
    Listed all d a after → Listed (map (in_later around) all) d a (around after)
listed_later around l = record { point = in_later around l.point; among = among-map (in_later around) l.among; acts = l.acts; leads = ap around l.leads }

listed_left : {A : Type 0} {xs : List (Point A)} (ys : List (Point A)) {d : Bool} {a : Action} {after : A} → Listed xs d a after →
    Listed (xs ++ ys) d a after
listed_left ys l = record { point = l.point; among = among-left ys l.among; acts = l.acts; leads = l.leads }

listed_right : {A : Type 0} (xs : List (Point A)) {ys : List (Point A)} {d : Bool} {a : Action} {after : A} → Listed ys d a after →
    Listed (xs ++ ys) d a after
listed_right xs l = record { point = l.point; among = among-right xs l.among; acts = l.acts; leads = l.leads }

listed_free : {A : Type 0} (meets : Action → Bool) {all : List (Point A)} {d : Bool} {a : Action} {after : A} →
    Listed all d a after → meets a ≡ false → Listed (free_of meets all) d a after
listed_free meets l free =
    record {
      point = l.point;
      among = among-filter (λ point. not (meets point.action)) l.among
          (not_of_false (meets l.point.action) (ap meets l.acts ∙ free));
      acts = l.acts;
      leads = l.leads;
    }

listed_act : (w : Setting) (i : ℕ) (s : Located) (k : StmtKind-F StmtKind Arm Branch Stmt) → is_act k ≡ true →
    Listed (begins w i s k) true (action i s (Acts s.stmt)) Nil
listed_act w i s (StmtKind-F.Declare k initial) e = listed_sure i s (Acts s.stmt) Nil
listed_act w i s (StmtKind-F.Assign path value) e = listed_sure i s (Acts s.stmt) Nil
listed_act w i s (StmtKind-F.Call f inputs outputs) e = listed_sure i s (Acts s.stmt) Nil
listed_act w i s (StmtKind-F.Return value) e = listed_sure i s (Acts s.stmt) Nil
listed_act w i s (StmtKind-F.Await test) e = absurd cc
listed_act w i s (StmtKind-F.Run target a inputs outputs) e = absurd cc
listed_act w i s (StmtKind-F.If arms other) e = absurd cc
listed_act w i s (StmtKind-F.Cobegin branches) e = absurd cc
listed_act w i s (StmtKind-F.When guard test body) e = absurd cc
listed_act w i s (StmtKind-F.Repeat body) e = absurd cc
listed_act w i s (StmtKind-F.Until body test) e = absurd cc
listed_act w i s (StmtKind-F.While test body) e = absurd cc

by_is : {A B : Type 0} (f : A → List (Point B)) {x y : A} {d : Bool} {a : Action} {after : B} → x ≡ y → Listed (f y) d a after →
    Listed (f x) d a after
by_is f {d = d} {a = a} {after = after} e l = subst (λ x. Listed (f x) d a after) (sym e) l

of_found : (w : Setting) (i : ℕ) (s : Located) (effect : ℕ → Effect) {callee : ℕ} {unit : UnitDef} {d : Bool} {a : Action} {after : Control} →
    callee_of w i (place_of s) ≡ Some callee → unit_at w callee ≡ Some unit → Listed (run_begins w i s (effect callee) callee unit) d a after →
    Listed (or_nothing (option_and_then (λ callee. option_map (run_begins w i s (effect callee) callee) (unit_at w callee))
    (callee_of w i (place_of s)))) d a after
of_found w i s effect {callee} {unit} {d} {a} {after} at there_is l =
    subst (λ found. Listed (or_nothing (option_and_then
    (λ callee. option_map (run_begins w i s (effect callee) callee) (unit_at w callee)) found)) d a after) (sym at)
    (subst (λ found. Listed (or_nothing (option_map (run_begins w i s (effect callee) callee) found)) d a after) (sym there_is) l)

-- what moves has not ended
moving : {w : Setting} {i : ℕ} {c : Control} {d : Bool} {a : Action} {c' : Control} → Moves w i c d a c' → is_nil c ≡ false
moving (acts e) = refl
moving (takes_arm e) = refl
moving (passes_arm e) = refl
moving (takes_else e) = refl
moving (pauses e) = refl
moving (runs e at there_is) = refl
moving (repeats e) = refl
moving (repeats_until e) = refl
moving (leaves e) = refl
moving (turns e) = refl
moving (enters e) = refl
moving (skips e) = refl
moving (forks e) = refl
moving (guards e) = refl
moving (goes_on e) = refl
moving (waits e) = refl
moving (lets e) = refl
moving (aborts e) = refl
moving (resets e) = refl
moving guard_ends = refl
moving (copies e) = refl
moving (run_ends e) = refl
moving (joins settled done) = refl
moving (in_seq move) = refl
moving (in_par move) = refl
moving (in_guard move) = refl
moving (in_run move) = refl

mutual
  complete : {w : Setting} {i : ℕ} {c : Control} {d : Bool} {a : Action} {c' : Control} → Moves w i c d a c' → Listed (points w i c) d a c'
  complete {w} (acts {i} {s} e) = listed_act w i s (kind_of s) e
  complete {w} (takes_arm {i} {s} e) = by_is (begins w i s) e (listed_true i s _ _ _)
  complete {w} (passes_arm {i} {s} e) = by_is (begins w i s) e (listed_false i s _ _ _)
  complete {w} (takes_else {i} {s} e) = by_is (begins w i s) e (listed_false i s _ _ _)
  complete {w} (pauses {i} {s} e) = by_is (begins w i s) e (listed_sure i s _ _)
  complete {w} (runs {i} {s} {inputs = inputs} e at there_is) =
      by_is (begins w i s) e (of_found w i s (λ callee. Copies callee inputs) at there_is (listed_sure i s _ _))
  complete {w} (repeats {i} {s} e) = by_is (begins w i s) e (listed_sure i s _ _)
  complete {w} (repeats_until {i} {s} e) = by_is (begins w i s) e (listed_sure i s _ _)
  complete {w} (leaves {i} {s} e) = by_is (λ k. turns_on i s k) e (listed_true i s _ _ _)
  complete {w} (turns {i} {s} e) = by_is (λ k. turns_on i s k) e (listed_false i s _ _ _)
  complete {w} (enters {i} {s} e) = by_is (begins w i s) e (listed_true i s _ _ _)
  complete {w} (skips {i} {s} e) = by_is (begins w i s) e (listed_false i s _ _ _)
  complete {w} (forks {i} {s} e) = by_is (begins w i s) e (listed_sure i s _ _)
  complete {w} (guards {i} {s} e) = by_is (begins w i s) e (listed_sure i s _ _)
  complete {w} (goes_on {i} {s} e) = by_is (λ k. tests i s k) e (listed_true i s _ _ _)
  complete {w} (waits {i} {s} e) = by_is (λ k. tests i s k) e (listed_false i s _ _ _)
  complete {w} (lets {i} {s} {stood} {c = c} e) = by_is (λ k. checks i s stood c k) e (listed_false i s _ _ _)
  complete {w} (aborts {i} {s} {stood} {c = c} e) = by_is (λ k. checks i s stood c k) e (listed_true i s _ _ _)
  complete {w} (resets {i} {s} {stood} {c = c} e) = by_is (λ k. checks i s stood c k) e (listed_true i s _ _ _)
  complete {w} (guard_ends {i} {s}) = listed_sure i s _ _
  complete {w} (copies {i} {s} {callee} {stood} {c} e) = by_is (λ k. copying i s callee stood c k) e (listed_sure i s _ _)
  complete {w} (run_ends {i} {s} {callee} e) = by_is (λ k. giving i s callee k) e (listed_sure i s _ _)
  complete {w} (joins {i} {s} {stood} {branches} settled done) =
      listed_left (map (within (Par s stood)) (branch_points w i branches))
      (by_is (λ a. if a && are_done branches then sure i s Silent Nil else []) settled
      (by_is (λ b. if b then sure i s Silent Nil else []) done (listed_sure i s _ _)))
  complete {w} (in_seq {rest = rest} move) = listed_within (λ c. seq c rest) (complete move)
  complete {w} (in_par {i} {s} {stood} {branches} move) = listed_right (joining i s branches) (listed_within (Par s stood) (complete_one move))
  complete {w} (in_guard {i} {s} {stood} {c} move) =
      by_is (λ b. if b then sure i s Silent Nil else map (within (Guard s Body stood)) (points w i c)) (moving move)
      (listed_within (Guard s Body stood) (complete move))
  complete {w} (in_run {i} {s} {callee} {stood} {c} move) =
      by_is (λ b. if b then giving i s callee (kind_of s) else map (within (Run s callee Body stood)) (points w callee c))
      (moving move) (listed_within (Run s callee Body stood) (complete move))

  complete_one : {w : Setting} {i : ℕ} {c : Branches} {d : Bool} {a : Action} {c' : Branches} → OneMoves w i c d a c' →
      Listed (branch_points w i c) d a c'
  complete_one {w} (first {i} {weak} {c} {others} move free) =
      listed_left (map (in_later (branch weak c)) (free_of (meets w i c) (branch_points w i others)))
      (listed_first (λ c. branch weak c others) (listed_free (any_meets w i others) (complete move) free))
  complete_one {w} (later {i} {weak} {c} {others} move free) =
      listed_right (map (in_first (λ c. branch weak c others)) (free_of (any_meets w i others) (points w i c)))
      (listed_later (branch weak c) (listed_free (meets w i c) (complete_one move) free))

pub moves_are_listed : MovesAreListed
moves_are_listed w i c d a c' move = complete move

-- ---- whole steps

pub can_true : (effect : Effect) → can_answer effect true ≡ true
can_true Silent = refl
can_true (Acts s) = refl
can_true (Asks e) = refl
can_true (Copies callee inputs) = refl
can_true (Gives callee target) = refl

done_answer : (found : Option Store) (d : Bool) (store : Store) → option_map done found ≡ Some (record { answer = d; store = store }) → d ≡ true
done_answer None d store e = absurd cc
done_answer (Some found) d store e = sym (ap (λ p. unwrap_or (option_map (λ p. p.answer) p) d) e)

copied_answer : {A : Type 0} (found : Option A) (f : A → Store) (d : Bool) (store : Store) →
    option_map (λ a. done (f a)) found ≡ Some (record { answer = d; store = store }) → d ≡ true
copied_answer None f d store e = absurd cc
copied_answer (Some found) f d store e = sym (ap (λ p. unwrap_or (option_map (λ p. p.answer) p) d) e)

answers : (w : Setting) (i : ℕ) (effect : Effect) (store : Store) (d : Bool) (store' : Store) →
    effect_on w i effect store ≡ Some (record { answer = d; store = store' }) → can_answer effect d ≡ true
answers w i Silent store d store' e = done_answer (Some store) d store' e
answers w i (Acts s) store d store' e = done_answer _ d store' e
answers w i (Asks test) store d store' e = refl
answers w i (Copies callee inputs) store d store' e =
    copied_answer (values_there w store i inputs) (λ values. with_frame callee (with_inputs values) store) d store' e
answers w i (Gives callee target) store d store' e = done_answer (Some _) d store' e

moved : {w : Setting} {i : ℕ} {c : Control} {d : Bool} {p : Action} {a : Action} {q : Control} {c' : Control} → p ≡ a → q ≡ c' →
    Moves w i c d p q → Moves w i c d a c'
moved {w} {i} {c} {d} {p} {a} {q} {c'} same_action same_tree move =
    subst (λ a. Moves w i c d a c') same_action (subst (λ c'. Moves w i c d p c') same_tree move)

pub steps_are_listed : StepsAreListed
steps_are_listed w c store a c' store' = (
  λ step. record { answer = step.answer; listed = complete step.moves; performs = step.performs },
  λ taken. record {
    answer = taken.answer;
    moves =
        moved taken.listed.acts taken.listed.leads
        (sound w 0 c taken.listed.point taken.listed.among taken.answer
        (subst (λ a. can_answer a.effect taken.answer ≡ true) (sym taken.listed.acts)
        (answers w a.instance a.effect store taken.answer store' taken.performs)));
    performs = taken.performs;
  },
)

acting : (w : Setting) (c : Control) (store : Store) (a : Action) (p : Point Control) → IsMember (Point Control) p (points w 0 c) → p.action ≡ a →
    (performed : Option Performed) → perform w a store ≡ performed → Acting w c store a
acting w c store a p m same None e =
    fails (record { answer = true; after = p.after true; moves = moved same refl (sound w 0 c p m true (can_true p.action.effect)); fails = e })
acting w c store a p m same (Some performed) e =
    leads (record {
      answer = performed.answer;
      moves =
          moved same refl
          (sound w 0 c p m performed.answer
          (subst (λ a. can_answer a.effect performed.answer ≡ true) (sym same) (answers w a.instance a.effect store performed.answer performed.store e)));
      performs = e;
    })

pub points_act : PointsAct
points_act w c store d a c' move = let l = complete move in acting w c store a l.point l.among l.acts (perform w a store) refl

none_listed : (w : Setting) (c : Control) → IsStill w c → (all : List (Point Control)) → points w 0 c ≡ all → all ≡ []
none_listed w c still [] e = refl
none_listed w c still (p ∷ all) e =
    absurd (still true p.action (p.after true) (sound w 0 c p (subst (IsMember (Point Control) p) (sym e) here) true (can_true p.action.effect)))

no_element : {A : Type 0} {x : A} → IsMember A x [] → ⊥
no_element m = elim m [ ]

pub still_is_unlisted : StillIsUnlisted
still_is_unlisted w c = (
  λ still. none_listed w c still (points w 0 c) refl,
  λ e d a c' move. let l = complete move in no_element (subst (IsMember (Point Control) l.point) e l.among),
)
