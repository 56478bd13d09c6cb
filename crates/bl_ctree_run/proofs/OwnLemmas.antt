-- The point of a node itself, and those inside it.
use Rattle.std.proofs.Common.{◌≡◌, ℕ, Bool, true, false, ◌&&◌, List, [], ◌∷◌, ◌++◌, map, Option, Some, None, refl, sym, ap, ◌∙◌, append_assoc, append-nil}
use Rattle.std.proofs.Common.{if◌then◌else◌}
use Rattle.std.specs.Prelude.{option_and_then, option_map, OnOk, Result, Ok, Err}
use Rattle.bl_tree.proofs.Basics.{map_append}
use Rattle.bl_tree.specs.declared.tree.Arm.{Arm}
use Rattle.bl_tree.specs.declared.tree.Branch.{Branch}
use Rattle.bl_tree.specs.declared.tree.Expr.{Expr}
use Rattle.bl_tree.specs.declared.tree.Stmt.{Stmt}
use Rattle.bl_tree.specs.declared.tree.StmtKind.{StmtKind}
use Rattle.bl_tree.specs.declared.tree.StmtKind.TheOpen.{StmtKind-F}
use Rattle.bl_tree.specs.declared.tree.Unit.{Unit as UnitDef}
use Rattle.bl_ctree.specs.Actions.{Action, Effect, Silent, Acts, Asks, Copies, Gives, effect_reads, reads_of}
use Rattle.bl_ctree.specs.Control.{Control, Branches, Nil, Wait, Test, Idle, Do, Turn, Seq, Par, Guard, Run, Check, Body, is_nil, seq, are_done, are_settled}
use Rattle.bl_ctree.specs.Instances.{Setting, callee_of, unit_at}
use Rattle.bl_ctree.specs.Points.{Point, begins, branch_points, checks, copying, giving, joining, or_nothing, points, run_begins, sure, tests, turns_on, within}
use Rattle.bl_ctree.specs.Positions.{Located, kind_of, place_of}
use Rattle.bl_ctree.specs.Store.{homes}
use Rattle.bl_ctree_enabled.specs.Spots.{Spot, spot_below}
use Rattle.bl_ctree_run.specs.inner.Spots.{Told, effect_paths, own, spot_told, told_point}

-- no point, or one to which no branch leads
pub data Own : List (Point Control) → Type 0 where
  no_point : Own []
  one_point : (p : Point Control) → p.path ≡ [] → Own (p ∷ [])

own_called : (w : Setting) (i : ℕ) (s : Located) (inputs : List Expr) (callee : Option ℕ)
    → Own (or_nothing (option_and_then (λ callee. option_map (run_begins w i s (Copies callee inputs) callee) (unit_at w callee)) callee))
own_called w i s inputs None = no_point
own_called w i s inputs (Some callee) = own_unit (unit_at w callee)
  where
    own_unit : (unit : Option UnitDef) → Own (or_nothing (option_map (run_begins w i s (Copies callee inputs) callee) unit))
    own_unit None = no_point
    own_unit (Some unit) = one_point _ refl

own_begins : (w : Setting) (i : ℕ) (s : Located) (k : StmtKind-F StmtKind Arm Branch Stmt) → Own (begins w i s k)
own_begins w i s (StmtKind-F.Declare k initial) = one_point _ refl
own_begins w i s (StmtKind-F.Assign path e) = one_point _ refl
own_begins w i s (StmtKind-F.Call f inputs outputs) = one_point _ refl
own_begins w i s (StmtKind-F.Return e) = one_point _ refl
own_begins w i s (StmtKind-F.Await e) = one_point _ refl
own_begins w i s (StmtKind-F.Run target a inputs outputs) = own_called w i s inputs (callee_of w i (place_of s))
own_begins w i s (StmtKind-F.If [] other) = no_point
own_begins w i s (StmtKind-F.If (arm ∷ arms) other) = one_point _ refl
own_begins w i s (StmtKind-F.Cobegin branches) = one_point _ refl
own_begins w i s (StmtKind-F.When guard e body) = one_point _ refl
own_begins w i s (StmtKind-F.Repeat body) = one_point _ refl
own_begins w i s (StmtKind-F.Until body e) = one_point _ refl
own_begins w i s (StmtKind-F.While e body) = one_point _ refl

own_tests : (i : ℕ) (s : Located) (k : StmtKind-F StmtKind Arm Branch Stmt) → Own (tests i s k)
own_tests i s (StmtKind-F.Await e) = one_point _ refl
own_tests i s (StmtKind-F.Declare k initial) = no_point
own_tests i s (StmtKind-F.Assign path e) = no_point
own_tests i s (StmtKind-F.Call f inputs outputs) = no_point
own_tests i s (StmtKind-F.Return e) = no_point
own_tests i s (StmtKind-F.Run target a inputs outputs) = no_point
own_tests i s (StmtKind-F.If arms other) = no_point
own_tests i s (StmtKind-F.Cobegin branches) = no_point
own_tests i s (StmtKind-F.When guard e body) = no_point
own_tests i s (StmtKind-F.Repeat body) = no_point
own_tests i s (StmtKind-F.Until body e) = no_point
own_tests i s (StmtKind-F.While e body) = no_point

own_turns : (i : ℕ) (s : Located) (k : StmtKind-F StmtKind Arm Branch Stmt) → Own (turns_on i s k)
own_turns i s (StmtKind-F.Until body e) = one_point _ refl
own_turns i s (StmtKind-F.Declare k initial) = no_point
own_turns i s (StmtKind-F.Assign path e) = no_point
own_turns i s (StmtKind-F.Call f inputs outputs) = no_point
own_turns i s (StmtKind-F.Return e) = no_point
own_turns i s (StmtKind-F.Run target a inputs outputs) = no_point
own_turns i s (StmtKind-F.If arms other) = no_point
own_turns i s (StmtKind-F.Cobegin branches) = no_point
own_turns i s (StmtKind-F.When guard e body) = no_point
own_turns i s (StmtKind-F.Repeat body) = no_point
own_turns i s (StmtKind-F.Await e) = no_point
own_turns i s (StmtKind-F.While e body) = no_point

own_checks : (i : ℕ) (s : Located) (stood : Bool) (c : Control) (k : StmtKind-F StmtKind Arm Branch Stmt) → Own (checks i s stood c k)
own_checks i s stood c (StmtKind-F.When guard e body) = one_point _ refl
own_checks i s stood c (StmtKind-F.Declare k initial) = no_point
own_checks i s stood c (StmtKind-F.Assign path e) = no_point
own_checks i s stood c (StmtKind-F.Call f inputs outputs) = no_point
own_checks i s stood c (StmtKind-F.Return e) = no_point
own_checks i s stood c (StmtKind-F.Run target a inputs outputs) = no_point
own_checks i s stood c (StmtKind-F.If arms other) = no_point
own_checks i s stood c (StmtKind-F.Cobegin branches) = no_point
own_checks i s stood c (StmtKind-F.Until body e) = no_point
own_checks i s stood c (StmtKind-F.Repeat body) = no_point
own_checks i s stood c (StmtKind-F.Await e) = no_point
own_checks i s stood c (StmtKind-F.While e body) = no_point

own_copying : (i : ℕ) (s : Located) (callee : ℕ) (stood : Bool) (c : Control) (k : StmtKind-F StmtKind Arm Branch Stmt) →
    Own (copying i s callee stood c k)
own_copying i s callee stood c (StmtKind-F.Run target a inputs outputs) = one_point _ refl
own_copying i s callee stood c (StmtKind-F.Declare k initial) = no_point
own_copying i s callee stood c (StmtKind-F.Assign path e) = no_point
own_copying i s callee stood c (StmtKind-F.Call f inputs outputs) = no_point
own_copying i s callee stood c (StmtKind-F.Return e) = no_point
own_copying i s callee stood c (StmtKind-F.When guard e body) = no_point
own_copying i s callee stood c (StmtKind-F.If arms other) = no_point
own_copying i s callee stood c (StmtKind-F.Cobegin branches) = no_point
own_copying i s callee stood c (StmtKind-F.Until body e) = no_point
own_copying i s callee stood c (StmtKind-F.Repeat body) = no_point
own_copying i s callee stood c (StmtKind-F.Await e) = no_point
own_copying i s callee stood c (StmtKind-F.While e body) = no_point

pub own_giving : (i : ℕ) (s : Located) (callee : ℕ) (k : StmtKind-F StmtKind Arm Branch Stmt) → Own (giving i s callee k)
own_giving i s callee (StmtKind-F.Run target a inputs outputs) = one_point _ refl
own_giving i s callee (StmtKind-F.Declare k initial) = no_point
own_giving i s callee (StmtKind-F.Assign path e) = no_point
own_giving i s callee (StmtKind-F.Call f inputs outputs) = no_point
own_giving i s callee (StmtKind-F.Return e) = no_point
own_giving i s callee (StmtKind-F.When guard e body) = no_point
own_giving i s callee (StmtKind-F.If arms other) = no_point
own_giving i s callee (StmtKind-F.Cobegin branches) = no_point
own_giving i s callee (StmtKind-F.Until body e) = no_point
own_giving i s callee (StmtKind-F.Repeat body) = no_point
own_giving i s callee (StmtKind-F.Await e) = no_point
own_giving i s callee (StmtKind-F.While e body) = no_point

own_where : (b : Bool) (all : List (Point Control)) → Own all → Own (if b then all else [])
own_where true all o = o
own_where false all o = no_point

pub own_is : (w : Setting) (i : ℕ) (c : Control) → Own (own w i c)
own_is w i Nil = no_point
own_is w i (Wait s) = no_point
own_is w i (Test s) = own_tests i s (kind_of s)
own_is w i (Idle items) = no_point
own_is w i (Do s) = own_begins w i s (kind_of s)
own_is w i (Turn s) = own_turns i s (kind_of s)
own_is w i (Seq c rest) = no_point
own_is w i (Par s stood branches) = own_where (are_settled branches && are_done branches) (sure i s Silent Nil) (one_point _ refl)
own_is w i (Guard s Check stood c) = own_checks i s stood c (kind_of s)
own_is w i (Guard s Body stood c) = own_where (is_nil c) (sure i s Silent Nil) (one_point _ refl)
own_is w i (Run s callee Check stood c) = own_copying i s callee stood c (kind_of s)
own_is w i (Run s callee Body stood c) = own_where (is_nil c) (giving i s callee (kind_of s)) (own_giving i s callee (kind_of s))

-- ---- as they are told

reads_told : (w : Setting) (a : Action) → reads_of w a ≡ homes w a.instance (effect_paths a.effect)
reads_told w a = reads_by w a.instance a.effect
  where
    reads_by : (w : Setting) (i : ℕ) (effect : Effect) → effect_reads w i effect ≡ homes w i (effect_paths effect)
    reads_by w i Silent = refl
    reads_by w i (Acts s) = refl
    reads_by w i (Asks e) = refl
    reads_by w i (Copies callee inputs) = refl
    reads_by w i (Gives callee target) = refl

told_one : (w : Setting) (path : List ℕ) (p : Point Control) → p.path ≡ [] → spot_below w path p ≡ spot_told w path (told_point p)
told_one w path p e = λ i. record {
  place = p.action.place;
  instance = p.action.instance;
  effect = p.action.effect;
  reads = reads_told w p.action i;
  path = (ap (λ rest. path ++ rest) e ∙ append-nil path) i;
}

pub told_own : (w : Setting) (path : List ℕ) (all : List (Point Control)) → Own all →
    map (spot_below w path) all ≡ map (spot_told w path) (map told_point all)
told_own w path all no_point = refl
told_own w path all (one_point p e) = ap (λ spot. spot ∷ []) (told_one w path p e)

-- ---- inside a node

map_within : {A B : Type 0} (w : Setting) (path : List ℕ) (around : A → B) (all : List (Point A)) →
    map (spot_below w path) (map (within around) all) ≡ map (spot_below w path) all
map_within w path around [] = refl
map_within w path around (p ∷ all) = ap (λ rest. spot_below w path p ∷ rest) (map_within w path around all)

nil_has_none : (w : Setting) (i : ℕ) (c : Control) → is_nil c ≡ true → points w i c ≡ []
nil_has_none w i Nil e = refl
nil_has_none w i (Wait s) e = absurd cc
nil_has_none w i (Test s) e = absurd cc
nil_has_none w i (Idle items) e = absurd cc
nil_has_none w i (Do s) e = absurd cc
nil_has_none w i (Turn s) e = absurd cc
nil_has_none w i (Seq c rest) e = absurd cc
nil_has_none w i (Par s stood branches) e = absurd cc
nil_has_none w i (Guard s phase stood c) e = absurd cc
nil_has_none w i (Run s callee phase stood c) e = absurd cc

-- the end of a body, where it has ended, and else the points in it
ended_or : (w : Setting) (path : List ℕ) (i : ℕ) (c : Control) (around : Control → Control) (ends : List (Point Control))
    (b : Bool) → is_nil c ≡ b → Own ends
    → map (spot_below w path) (if b then ends else map (within around) (points w i c))
    ≡ map (spot_told w path) (map told_point (if b then ends else [])) ++ map (spot_below w path) (points w i c)
ended_or w path i c around ends true e o =
    told_own w path ends o
    ∙ sym (ap (λ rest. map (spot_told w path) (map told_point ends) ++ map (spot_below w path) rest) (nil_has_none w i c e)
    ∙ append-nil (map (spot_told w path) (map told_point ends)))
ended_or w path i c around ends false e o = map_within w path around (points w i c)

module _ (w : Setting) (path : List ℕ) (i : ℕ) where
  pub seq_points : (c : Control) (rest : _) → map (spot_below w path) (points w i (Seq c rest)) ≡ map (spot_below w path) (points w i c)
  seq_points c rest = map_within w path (λ c. seq c rest) (points w i c)

  pub guard_inside : (s : Located) (stood : Bool) (c : Control)
      → map (spot_below w path) (points w i (Guard s Body stood c))
      ≡ map (spot_told w path) (map told_point (own w i (Guard s Body stood c))) ++ map (spot_below w path) (points w i c)
  guard_inside s stood c = ended_or w path i c (Guard s Body stood) (sure i s Silent Nil) (is_nil c) refl (one_point _ refl)

  pub run_inside : (s : Located) (callee : ℕ) (stood : Bool) (c : Control)
      → map (spot_below w path) (points w i (Run s callee Body stood c))
      ≡ map (spot_told w path) (map told_point (own w i (Run s callee Body stood c))) ++ map (spot_below w path) (points w callee c)
  run_inside s callee stood c = ended_or w path callee c (Run s callee Body stood) (giving i s callee (kind_of s)) (is_nil c) refl
      (own_giving i s callee (kind_of s))

  pub par_inside : (s : Located) (stood : Bool) (branches : Branches)
      → map (spot_below w path) (points w i (Par s stood branches))
      ≡ map (spot_told w path) (map told_point (own w i (Par s stood branches))) ++ map (spot_below w path) (branch_points w i branches)
  par_inside s stood branches =
      map_append (spot_below w path) (joining i s branches) (map (within (Par s stood)) (branch_points w i branches))
      ∙ ap (λ xs. xs ++ map (spot_below w path) (map (within (Par s stood)) (branch_points w i branches)))
      (told_own w path (joining i s branches) (own_is w i (Par s stood branches)))
      ∙ ap (λ ys. map (spot_told w path) (map told_point (joining i s branches)) ++ ys) (map_within w path (Par s stood) (branch_points w i branches))

-- ---- as the code lists them

-- a node, seen by its parts: its own point, and then those inside it
pub told_inside : (w : Setting) (path : List ℕ) (i : ℕ) (whole made : Control) (told : List Told) (inner : List Spot)
    → told ≡ map told_point (own w i whole) → whole ≡ made
    → map (spot_below w path) (points w i made) ≡ map (spot_told w path) (map told_point (own w i made)) ++ inner
    → map (spot_below w path) (points w i whole) ≡ map (spot_told w path) told ++ inner
told_inside w path i whole made told inner is_told is parted =
    ap (λ c. map (spot_below w path) (points w i c)) is ∙ parted
    ∙ ap (λ told. map (spot_told w path) told ++ inner) (sym (is_told ∙ ap (λ c. map told_point (own w i c)) is))

pub listed_inside : {A E : Type 0} (r : Result A E) (old mid new added inner all : List Spot) → mid ≡ old ++ added → all ≡ added ++ inner
    → OnOk r (new ≡ mid ++ inner) → OnOk r (new ≡ old ++ all)
listed_inside (Ok a) old mid new added inner all is_mid is_all is_new =
    is_new ∙ ap (λ front. front ++ inner) is_mid ∙ append_assoc old added inner ∙ ap (λ rest. old ++ rest) (sym is_all)
listed_inside (Err e) old mid new added inner all is_mid is_all is_new = is_new
