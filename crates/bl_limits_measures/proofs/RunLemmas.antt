-- The activities of `run` statements, by a fold that forgets the places.
use Rattle.std.proofs.Common.{◌≡◌, ℕ, suc, ◌<◌, Bool, true, false, not, cond, List, [], ◌∷◌, ◌++◌, map, get_or, ap, refl, sym, ◌∙◌, arith, length, ◌≤◌}
use Rattle.std.specs.Prelude.{All, AllPairs, filter}
use Rattle.std.proofs.lemmas.List.{length-map, map-append}
use Rattle.std.proofs.lemmas.List.Elements.{All-cons, All-head, All-tail}
use Rattle.bl_tree.specs.declared.place.Place.{Place}
use Rattle.bl_tree.specs.declared.tree.Arm.{Arm, fold-Arm, fold_out-Arm, out-Arm}
use Rattle.bl_tree.specs.declared.tree.Branch.{Branch, fold-Branch, fold_out-Branch, out-Branch}
use Rattle.bl_tree.specs.declared.tree.Stmt.{Stmt, fold-Stmt, fold-roll-Stmt}
use Rattle.bl_tree.specs.declared.tree.StmtKind.{StmtKind, fold-StmtKind, fold-roll-StmtKind, map-StmtKind}
use Rattle.bl_tree.specs.declared.tree.StmtKind.TheOpen.{StmtKind-F, Arm-F, Branch-F, Stmt-F}
use Rattle.bl_tree.specs.declared.tree.Unit.{Unit as UnitDef}
use Rattle.bl_tree.specs.Reduce.{joined}
use Rattle.bl_tree.specs.Rules.{same_place}
use Rattle.bl_tree.proofs.StmtInduction.{Each, EachArm, EachBranch, induct, stmt}
use Rattle.bl_limits_measures.specs.declared.runs.PlacedRun.{PlacedRun}
use Rattle.bl_limits_measures.specs.Runs.{activities_by_place, activities_run, arm_runs, branch_runs, kind_runs, one_a_place, runs_in, runs_in_arm}
use Rattle.bl_limits_measures.specs.Runs.{runs_in_branch, stmt_layer_runs, units_of}

-- ---- activities without places

-- the activities that a kind of statement runs, from those of its blocks
abbrev pub kind_activities : StmtKind-F (List ℕ) (List ℕ) (List ℕ) (List ℕ) → List ℕ
kind_activities (StmtKind-F.Declare k initial) = []
kind_activities (StmtKind-F.Assign path e) = []
kind_activities (StmtKind-F.Call f inputs outputs) = []
kind_activities (StmtKind-F.Await e) = []
kind_activities (StmtKind-F.Run target a inputs outputs) = a ∷ []
kind_activities (StmtKind-F.If arms other) = joined arms ++ joined other
kind_activities (StmtKind-F.Cobegin branches) = joined branches
kind_activities (StmtKind-F.When guard e body) = joined body
kind_activities (StmtKind-F.Repeat body) = joined body
kind_activities (StmtKind-F.Until body e) = joined body
kind_activities (StmtKind-F.While e body) = joined body
kind_activities (StmtKind-F.Return e) = []

abbrev pub arm_activities : Arm-F (List ℕ) (List ℕ) (List ℕ) (List ℕ) → List ℕ
arm_activities arm = joined arm.body

abbrev pub branch_activities : Branch-F (List ℕ) (List ℕ) (List ℕ) (List ℕ) → List ℕ
branch_activities branch = joined branch.body

abbrev pub stmt_activities : Stmt-F (List ℕ) (List ℕ) (List ℕ) (List ℕ) → List ℕ
stmt_activities s = s.what

abbrev pub activities_in : Stmt → List ℕ
activities_in = fold-Stmt (List ℕ) (List ℕ) (List ℕ) (List ℕ) kind_activities arm_activities branch_activities stmt_activities

abbrev pub activities_in_arm : Arm → List ℕ
activities_in_arm = fold-Arm (List ℕ) (List ℕ) (List ℕ) (List ℕ) kind_activities arm_activities branch_activities stmt_activities

abbrev pub activities_in_branch : Branch → List ℕ
activities_in_branch = fold-Branch (List ℕ) (List ℕ) (List ℕ) (List ℕ) kind_activities arm_activities branch_activities stmt_activities

abbrev found_of_kind : StmtKind → Place → List PlacedRun
found_of_kind = fold-StmtKind (Place → List PlacedRun) (List PlacedRun) (List PlacedRun) (List PlacedRun) kind_runs arm_runs branch_runs stmt_layer_runs

abbrev found_parts : StmtKind-F StmtKind Arm Branch Stmt → StmtKind-F (Place → List PlacedRun) (List PlacedRun) (List PlacedRun) (List PlacedRun)
found_parts = map-StmtKind StmtKind Arm Branch Stmt (Place → List PlacedRun) (List PlacedRun) (List PlacedRun) (List PlacedRun) found_of_kind runs_in_arm runs_in_branch runs_in

found_at : (place : Place) (layer : StmtKind-F StmtKind Arm Branch Stmt) → runs_in (stmt place layer) ≡ kind_runs (found_parts layer) place
found_at place layer = rw (fold-roll-Stmt, fold-roll-StmtKind) refl

abbrev named_of_kind : StmtKind → List ℕ
named_of_kind = fold-StmtKind (List ℕ) (List ℕ) (List ℕ) (List ℕ) kind_activities arm_activities branch_activities stmt_activities

abbrev named_parts : StmtKind-F StmtKind Arm Branch Stmt → StmtKind-F (List ℕ) (List ℕ) (List ℕ) (List ℕ)
named_parts = map-StmtKind StmtKind Arm Branch Stmt (List ℕ) (List ℕ) (List ℕ)
    (List ℕ) named_of_kind activities_in_arm activities_in_branch activities_in

named_at : (place : Place) (layer : StmtKind-F StmtKind Arm Branch Stmt) → activities_in (stmt place layer) ≡ kind_activities (named_parts layer)
named_at place layer = rw (fold-roll-Stmt, fold-roll-StmtKind) refl

abbrev Agrees : Stmt → Type 0
Agrees s = units_of (runs_in s) ≡ activities_in s

-- parts one after another
in_order : {A : Type 0} (f : A → List PlacedRun) (g : A → List ℕ) (xs : List A) → All (λ x. units_of (f x) ≡ g x) xs →
    units_of (joined (map f xs)) ≡ joined (map g xs)
in_order f g [] all = refl
in_order f g (x ∷ xs) all =
    map-append (λ (run : PlacedRun). run.unit) (f x) (joined (map f xs))
    ∙ (λ i. All-head (λ x. units_of (f x) ≡ g x) x xs all i ++ in_order f g xs (All-tail (λ x. units_of (f x) ≡ g x) x xs all) i)

block : (body : List Stmt) → Each Agrees body → units_of (joined (map runs_in body)) ≡ joined (map activities_in body)
block body each = in_order runs_in activities_in body each

in_arm : (arm : Arm) → Each Agrees (out-Arm arm).body → units_of (runs_in_arm arm) ≡ activities_in_arm arm
in_arm arm each =
    ap units_of (fold_out-Arm (Place → List PlacedRun) (List PlacedRun) (List PlacedRun) (List PlacedRun) kind_runs arm_runs branch_runs stmt_layer_runs arm)
    ∙ block (out-Arm arm).body each
    ∙ sym (fold_out-Arm (List ℕ) (List ℕ) (List ℕ) (List ℕ) kind_activities arm_activities branch_activities stmt_activities arm)

in_branch : (branch : Branch) → Each Agrees (out-Branch branch).body → units_of (runs_in_branch branch) ≡ activities_in_branch branch
in_branch branch each =
    ap units_of (fold_out-Branch (Place → List PlacedRun) (List PlacedRun) (List PlacedRun) (List PlacedRun) kind_runs arm_runs branch_runs stmt_layer_runs branch)
    ∙ block (out-Branch branch).body each
    ∙ sym (fold_out-Branch (List ℕ) (List ℕ) (List ℕ) (List ℕ) kind_activities arm_activities branch_activities stmt_activities branch)

-- from each element what is shown of it
pub shown : {A : Type 0} (P Q : A → Type 0) → ((x : A) → P x → Q x) → (xs : List A) → All P xs → All Q xs
shown P Q gives xs all = λ k d within. gives _ (all k d within)

arms_agree : (arms : List Arm) → EachArm Agrees arms → units_of (joined (map runs_in_arm arms)) ≡ joined (map activities_in_arm arms)
arms_agree arms each = in_order runs_in_arm activities_in_arm arms
    (shown (λ arm. Each Agrees (out-Arm arm).body) (λ arm. units_of (runs_in_arm arm) ≡ activities_in_arm arm) in_arm arms each)

branches_agree : (branches : List Branch) → EachBranch Agrees branches →
    units_of (joined (map runs_in_branch branches)) ≡ joined (map activities_in_branch branches)
branches_agree branches each =
    in_order runs_in_branch activities_in_branch branches
    (shown (λ branch. Each Agrees (out-Branch branch).body)
    (λ branch. units_of (runs_in_branch branch) ≡ activities_in_branch branch) in_branch branches each)

same : (place : Place) (layer : StmtKind-F StmtKind Arm Branch Stmt) →
    units_of (kind_runs (found_parts layer) place) ≡ kind_activities (named_parts layer) → Agrees (stmt place layer)
same place layer is = ap units_of (found_at place layer) ∙ is ∙ sym (named_at place layer)

agree : (s : Stmt) → Agrees s
agree = induct Agrees (record {
  declare = λ place k initial. same place (StmtKind-F.Declare k initial) refl;
  assign = λ place path e. same place (StmtKind-F.Assign path e) refl;
  call = λ place f inputs outputs. same place (StmtKind-F.Call f inputs outputs) refl;
  await = λ place e. same place (StmtKind-F.Await e) refl;
  run = λ place target a inputs outputs. same place (StmtKind-F.Run target a inputs outputs) refl;
  branching = λ place arms other in_arms in_other. same place (StmtKind-F.If arms other)
      (map-append (λ (run : PlacedRun). run.unit) (joined (map runs_in_arm arms)) (joined (map runs_in other))
      ∙ (λ i. arms_agree arms in_arms i ++ block other in_other i));
  cobegin = λ place branches each. same place (StmtKind-F.Cobegin branches) (branches_agree branches each);
  guarded = λ place guard e body each. same place (StmtKind-F.When guard e body) (block body each);
  repeat = λ place body each. same place (StmtKind-F.Repeat body) (block body each);
  until = λ place body e each. same place (StmtKind-F.Until body e) (block body each);
  while = λ place e body each. same place (StmtKind-F.While e body) (block body each);
  returns = λ place e. same place (StmtKind-F.Return e) refl;
})

pub all_agree : (body : List Stmt) → units_of (joined (map runs_in body)) ≡ joined (map activities_in body)
all_agree body = block body (λ k d within. agree (get_or body k d))

-- the activities that a unit runs are those in its statements
pub activities_are : (unit : UnitDef) → activities_run unit ≡ joined (map activities_in unit.body)
activities_are unit = all_agree unit.body

-- ---- the first of each place

filtered_all : (P : ℕ → Type 0) (test : PlacedRun → Bool) (runs : List PlacedRun) → All P (units_of runs) → All P (units_of (filter test runs))
filtered_all P test [] all = all
filtered_all P test (run ∷ rest) all = by (test run) (filtered_all P test rest (All-tail P run.unit (units_of rest) all))
  where
    by : (b : Bool) → All P (units_of (filter test rest)) → All P (units_of (cond b (run ∷ filter test rest) (filter test rest)))
    by true more = All-cons P run.unit (units_of (filter test rest)) (All-head P run.unit (units_of rest) all) more
    by false more = more

once_all : (P : ℕ → Type 0) (runs : List PlacedRun) → All P (units_of runs) → All P (units_of (one_a_place runs))
once_all P [] all = all
once_all P (run ∷ rest) all =
    All-cons P run.unit (units_of (filter (λ (other : PlacedRun). not (same_place run.place other.place)) (one_a_place rest)))
    (All-head P run.unit (units_of rest) all)
    (filtered_all P (λ (other : PlacedRun). not (same_place run.place other.place)) (one_a_place rest)
    (once_all P rest (All-tail P run.unit (units_of rest) all)))

-- what all activities that a unit runs have, those of its places have
pub placed_all : (P : ℕ → Type 0) (unit : UnitDef) → All P (activities_run unit) → All P (activities_by_place unit)
placed_all P unit = once_all P (joined (map runs_in unit.body))

filtered_few : (test : PlacedRun → Bool) (runs : List PlacedRun) → length (filter test runs) ≤ length runs
filtered_few test [] = omega arith
filtered_few test (run ∷ rest) = by (test run) (filtered_few test rest)
  where
    by : (b : Bool) → length (filter test rest) ≤ length rest → length (cond b (run ∷ filter test rest) (filter test rest)) ≤ suc (length rest)
    by true more = omega (arith, more)
    by false more = omega (arith, more)

once_few : (runs : List PlacedRun) → length (one_a_place runs) ≤ length runs
once_few [] = omega arith
once_few (run ∷ rest) =
    let kept = filtered_few (λ (other : PlacedRun). not (same_place run.place other.place)) (one_a_place rest) in
    let more = once_few rest in
    omega (arith, kept, more)

-- a unit has no more places of `run` statements than `run` statements
pub placed_few : (unit : UnitDef) → length (activities_by_place unit) ≤ length (activities_run unit)
placed_few unit =
    let all = joined (map runs_in unit.body) in
    let one = length-map (one_a_place all) (λ (run : PlacedRun). run.unit) in
    let other = length-map all (λ (run : PlacedRun). run.unit) in
    let few = once_few all in
    omega (arith, one, other, few)

-- ---- runs that stand apart

filter_all : {A : Type 0} (p : A → Bool) (xs : List A) → All (λ x. p x ≡ true) xs → filter p xs ≡ xs
filter_all p [] all = refl
filter_all p (x ∷ xs) all =
    ap (λ b. cond b (x ∷ filter p xs) (filter p xs)) (All-head (λ x. p x ≡ true) x xs all)
    ∙ ap (λ rest. x ∷ rest) (filter_all p xs (All-tail (λ x. p x ≡ true) x xs all))

abbrev Apart : PlacedRun → PlacedRun → Type 0
Apart one other = same_place one.place other.place ≡ false

each_once : (runs : List PlacedRun) → AllPairs Apart runs → one_a_place runs ≡ runs
each_once [] apart = refl
each_once (run ∷ rest) apart =
    ap (λ found. run ∷ filter (λ (other : PlacedRun). not (same_place run.place other.place)) found)
    (each_once rest (λ i j d less within. apart (suc i) (suc j) d (omega arith) (omega arith)))
    ∙ ap (λ found. run ∷ found)
    (filter_all (λ (other : PlacedRun). not (same_place run.place other.place)) rest
    (λ k d within. ap not (apart 0 (suc k) d (omega arith) (omega arith))))

-- `run` statements that stand apart count each
pub apart_count : (unit : UnitDef) → AllPairs Apart (joined (map runs_in unit.body)) → activities_by_place unit ≡ activities_run unit
apart_count unit apart = ap units_of (each_once (joined (map runs_in unit.body)) apart)
