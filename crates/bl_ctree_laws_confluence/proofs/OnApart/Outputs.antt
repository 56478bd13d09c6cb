-- Calls in trees that runs reach stand as their `run` statements do.
use Rattle.std.proofs.Common.{◌≡◌, inl, inr, ℕ, ◌<◌, Bool, true, List, [], ◌∷◌, ◌++◌, map, get_or, Option, Some, refl, sym, ap, ◌∙◌, subst}
use Rattle.std.proofs.Common.{arith, eqb-true}
use Rattle.std.proofs.Math.Logic.{∥∥₁_elim}
use mathlib.Core.Bool.{Bool-set}
use Rattle.std.proofs.lemmas.List.Quantifiers.{position-Some}
use Rattle.std.specs.Prelude.{Contains, IsTrue, nat_eq, option_and_then, slice_get}
use Rattle.std.specs.List.{list_any}
use Rattle.std.proofs.lemmas.List.Elements.{All-head, All-tail}
use Rattle.bl_tree.proofs.Basics.{and_first, and_second, contains_at, get_within, one_some}
use Rattle.bl_tree.specs.declared.place.Place.{Place}
use Rattle.bl_tree.specs.declared.static_path.Static.{Static}
use Rattle.bl_tree.specs.declared.tree.Arm.{Arm, fold_out-Arm, out-Arm}
use Rattle.bl_tree.specs.declared.tree.Branch.{Branch, fold_out-Branch, out-Branch}
use Rattle.bl_tree.specs.declared.tree.Expr.{Expr}
use Rattle.bl_tree.specs.declared.tree.Path.{Path}
use Rattle.bl_tree.specs.declared.tree.Stmt.{Stmt}
use Rattle.bl_tree.specs.declared.tree.StmtKind.{StmtKind}
use Rattle.bl_tree.specs.declared.tree.StmtKind.TheOpen.{StmtKind-F}
use Rattle.bl_tree.specs.declared.tree.StructDef.{StructDef}
use Rattle.bl_tree.specs.declared.tree.Unit.{Unit as UnitDef}
use Rattle.bl_tree.specs.Program.{IsWellTyped}
use Rattle.bl_tree.specs.Reduce.{joined}
use Rattle.bl_tree.specs.Rules.{same_place}
use Rattle.bl_tree.specs.Static.{static_of}
use Rattle.bl_tree.specs.Within.{StandsIn, Within, is_run, is_run_kind, itself, kind_children, place_of}
use Rattle.bl_tree.proofs.StmtInduction.{Cases, Each, EachArm, EachBranch, induct, stmt}
use Rattle.bl_graph_nodes.specs.Plain.{Block, Bodies, Plain, Act, Again, Await, Body as BodyOf, Cobegin, Done, If, Last, Repeat, Run as RunOf, Then, Until}
use Rattle.bl_graph_nodes.specs.Plain.{When, While, plain_body}
use Rattle.bl_ctree.specs.declared.instance.Instance.{Instance}
use Rattle.bl_ctree.specs.declared.instance.Origin.{Origin}
use Rattle.bl_ctree.specs.declared.instance.Run.{Run}
use Rattle.bl_ctree.specs.Instances.{Setting, arm_runs, begins_at, branch_runs, callee_of, kind_runs, runs_in, runs_in_arm, runs_in_branch, runs_of, setting_of}
use Rattle.bl_ctree.specs.Instances.{stmt_layer_runs, unit_at, unit_of}
use Rattle.bl_ctree_laws.specs.Residual.{PlainResidual, PlainResidualEach, PlainResidualOf, ended, none_left, nothing, of_again, of_else, of_guard, of_last}
use Rattle.bl_ctree_laws.specs.Residual.{of_one, of_par, of_repeat, of_run, of_then, of_until, of_while, one_left, paused, tested, to_begin}
use Rattle.bl_ctree_laws.specs.Steps.{turn}
use Rattle.bl_ctree_laws.specs.Trees.{Tree, Trees}
use Rattle.bl_ctree_laws_confluence.specs.Deeds.Origins.{CalledBy, HasCaller}
use Rattle.bl_ctree_laws_confluence.proofs.OnDeeds.Activities.{AllOf, all_both, one_a_place_so}
use Rattle.bl_ctree_laws_confluence.proofs.OnDeeds.Aliases.{of_member, run_parts, runs_at}
use Rattle.bl_ctree_laws_confluence.proofs.OnDeeds.Origins.{instances_have_callers_so}
use Rattle.bl_ctree_laws_confluence.specs.Apart.Forks.{EachFork, EachForkIn, EachForkInEach}
use Rattle.bl_ctree_laws_confluence.specs.Apart.Outputs.{BranchesHaveOutputs, ResidualCallsMatch, RunsHaveOutputs, RunsWith, TypedRunsHaveOutputs}
use Rattle.bl_ctree_laws_confluence.specs.Apart.Owned.{SomeIn, SomeInEach, SomeOf}
use Rattle.bl_ctree_laws_confluence.specs.Apart.Seen.{AllCallsMatchCallees, CallsMatchCallees, HasOutputs}
use Rattle.bl_ctree_laws_confluence.proofs.OnApart.Owned.{looped, stands_in}
use Rattle.bl_ctree_laws_confluence.proofs.OnApart.Running.{layer_at, outputs_at, outputs_of, placed_at, run_found, stands_below, stands_first, stands_left}
use Rattle.bl_ctree_laws_confluence.proofs.OnApart.Running.{stands_right}
use Rattle.bl_tree.proofs.FirstLemmas.{same_true}

-- ---- the listed `run` statements of a body stand in it

-- a listed `run` is that of one of these statements
pub record RunAs (Among : Stmt → Type 0) (run : Run) : Type 0 where
  pub statement : Stmt
  pub among : Among statement
  pub runs : IsTrue (is_run statement)
  pub placed : place_of statement ≡ run.place
  pub outs : map static_of (outputs_of statement) ≡ run.outputs

moved : {A B : Stmt → Type 0} → ((s : Stmt) → A s → B s) → (xs : List Run) → AllOf (RunAs A) xs → AllOf (RunAs B) xs
moved so [] all = tt
moved so (run ∷ rest) all = (
  record { statement = all.0.statement; among = so all.0.statement all.0.among; runs = all.0.runs; placed = all.0.placed; outs = all.0.outs },
  moved so rest all.1,
)

abbrev pub Listed : List Stmt → List Run → Type 0
Listed body xs = AllOf (RunAs (StandsIn body)) xs

abbrev pub S : Stmt → Type 0
S s = AllOf (RunAs (λ t. Within t s)) (runs_in s)

pub block_listed : (body : List Stmt) → Each S body → Listed body (joined (map runs_in body))
block_listed [] each = tt
block_listed (s ∷ rest) each =
    all_both (RunAs (StandsIn (s ∷ rest))) (runs_in s) (joined (map runs_in rest))
    (moved {A = λ t. Within t s} {B = StandsIn (s ∷ rest)} (λ t within. stands_first s rest within) (runs_in s) (All-head S s rest each))
    (moved {A = StandsIn rest} {B = StandsIn (s ∷ rest)} (λ t one. stands_right (s ∷ []) rest one) (joined (map runs_in rest))
    (block_listed rest (All-tail S s rest each)))

pub arm_listed : (arm : Arm) → Each S (out-Arm arm).body → Listed (out-Arm arm).body (runs_in_arm arm)
arm_listed arm each =
    subst (Listed (out-Arm arm).body)
    (sym (fold_out-Arm (Place → List Run) (List Run) (List Run) (List Run) kind_runs arm_runs branch_runs stmt_layer_runs arm))
    (block_listed (out-Arm arm).body each)

pub branch_listed : (branch : Branch) → Each S (out-Branch branch).body → Listed (out-Branch branch).body (runs_in_branch branch)
branch_listed branch each =
    subst (Listed (out-Branch branch).body)
    (sym (fold_out-Branch (Place → List Run) (List Run) (List Run) (List Run) kind_runs arm_runs branch_runs stmt_layer_runs branch))
    (block_listed (out-Branch branch).body each)

pub arms_listed : (arms : List Arm) → EachArm S arms → Listed (joined (map (λ arm. (out-Arm arm).body) arms)) (joined (map runs_in_arm arms))
arms_listed [] each = tt
arms_listed (arm ∷ rest) each =
    let one : List Stmt = (out-Arm arm).body in
    let more : List Stmt = joined (map (λ arm. (out-Arm arm).body) rest) in
    all_both (RunAs (StandsIn (one ++ more))) (runs_in_arm arm) (joined (map runs_in_arm rest))
    (moved {A = StandsIn one} {B = StandsIn (one ++ more)} (λ t there. stands_left one more there) (runs_in_arm arm)
    (arm_listed arm (All-head (λ arm. Each S (out-Arm arm).body) arm rest each)))
    (moved {A = StandsIn more} {B = StandsIn (one ++ more)} (λ t there. stands_right one more there) (joined (map runs_in_arm rest))
    (arms_listed rest (All-tail (λ arm. Each S (out-Arm arm).body) arm rest each)))

pub branches_listed : (branches : List Branch) → EachBranch S branches →
    Listed (joined (map (λ branch. (out-Branch branch).body) branches)) (joined (map runs_in_branch branches))
branches_listed [] each = tt
branches_listed (branch ∷ rest) each =
    let one : List Stmt = (out-Branch branch).body in
    let more : List Stmt = joined (map (λ branch. (out-Branch branch).body) rest) in
    all_both (RunAs (StandsIn (one ++ more))) (runs_in_branch branch) (joined (map runs_in_branch rest))
    (moved {A = StandsIn one} {B = StandsIn (one ++ more)} (λ t there. stands_left one more there) (runs_in_branch branch)
    (branch_listed branch (All-head (λ branch. Each S (out-Branch branch).body) branch rest each)))
    (moved {A = StandsIn more} {B = StandsIn (one ++ more)} (λ t there. stands_right one more there) (joined (map runs_in_branch rest))
    (branches_listed rest (All-tail (λ branch. Each S (out-Branch branch).body) branch rest each)))

by_parts : (place : Place) (layer : StmtKind-F StmtKind Arm Branch Stmt) → Listed (kind_children layer) (kind_runs (run_parts layer) place) →
    S (stmt place layer)
by_parts place layer all =
    subst (AllOf (RunAs (λ t. Within t (stmt place layer)))) (sym (runs_at place layer))
    (moved {A = StandsIn (kind_children layer)} {B = λ t. Within t (stmt place layer)} (λ t one. stands_below place layer one)
    (kind_runs (run_parts layer) place) all)

pub run_listed : (place : Place) (target : Option Path) (a : ℕ) (inputs : List Expr) (outputs : List Path) →
    S (stmt place (StmtKind-F.Run target a inputs outputs))
run_listed place target a inputs outputs =
    let layer : StmtKind-F StmtKind Arm Branch Stmt = StmtKind-F.Run target a inputs outputs in
    subst (AllOf (RunAs (λ t. Within t (stmt place layer)))) (sym (runs_at place layer)) (
      record {
        statement = stmt place layer;
        among = itself;
        runs = ap is_run_kind (layer_at place layer);
        placed = placed_at place layer;
        outs = ap (map static_of) (outputs_at place layer);
      },
      tt,
    )

stmt_cases : Cases S
stmt_cases = record {
  declare = λ place k initial. by_parts place (StmtKind-F.Declare k initial) tt;
  assign = λ place path e. by_parts place (StmtKind-F.Assign path e) tt;
  call = λ place f inputs outputs. by_parts place (StmtKind-F.Call f inputs outputs) tt;
  await = λ place e. by_parts place (StmtKind-F.Await e) tt;
  run = run_listed;
  branching = λ place arms other in_arms in_other.
      let bodies : List Stmt = joined (map (λ arm. (out-Arm arm).body) arms) in
      by_parts place (StmtKind-F.If arms other)
      (all_both (RunAs (StandsIn (bodies ++ other))) (joined (map runs_in_arm arms)) (joined (map runs_in other))
      (moved {A = StandsIn bodies} {B = StandsIn (bodies ++ other)} (λ t there. stands_left bodies other there) (joined (map runs_in_arm arms))
      (arms_listed arms in_arms))
      (moved {A = StandsIn other} {B = StandsIn (bodies ++ other)} (λ t there. stands_right bodies other there) (joined (map runs_in other))
      (block_listed other in_other)));
  cobegin = λ place branches each. by_parts place (StmtKind-F.Cobegin branches) (branches_listed branches each);
  guarded = λ place guard e body each. by_parts place (StmtKind-F.When guard e body) (block_listed body each);
  repeat = λ place body each. by_parts place (StmtKind-F.Repeat body) (block_listed body each);
  until = λ place body e each. by_parts place (StmtKind-F.Until body e) (block_listed body each);
  while = λ place e body each. by_parts place (StmtKind-F.While e body) (block_listed body each);
  returns = λ place e. by_parts place (StmtKind-F.Return e) tt;
}

pub unit_listed : (unit : UnitDef) (run : Run) → Contains (runs_of unit) run → RunAs (StandsIn unit.body) run
unit_listed unit run there =
    let within = there.1 in
    of_member (RunAs (StandsIn unit.body)) (runs_of unit) there.0 run
    (one_a_place_so (RunAs (StandsIn unit.body)) (joined (map runs_in unit.body))
    (block_listed unit.body (λ k d within. induct S stmt_cases (get_or unit.body k d)))) within there.2

-- ---- the outputs of a `run`

module _ (structs : List StructDef) (units : List UnitDef) (entry : ℕ) (keeps : IsWellTyped structs units entry) where
  abbrev W : Setting
  W = setting_of structs units entry

  record Begins (i callee : ℕ) (place : Place) (instance : Instance) (origin : Origin) : Type 0 where
    caller : origin.caller ≡ i
    at : origin.place ≡ place

  begins : (i callee : ℕ) (place : Place) (instance : Instance) (origin : Origin) → callee_of W i place ≡ Some callee →
      slice_get W.instances callee ≡ Some instance → instance.origin ≡ Some origin → Begins i callee place instance origin
  begins i callee place instance origin begun there began =
      let p : Instance → Bool = λ instance. begins_at i place instance.origin in
      let found = position-Some p W.instances callee instance begun in
      let same : get_or W.instances callee instance ≡ instance =
      one_some (get_or W.instances callee instance) instance (slice_get W.instances callee) (get_within W.instances callee instance found.0) there in
      let is : begins_at i place (Some origin) ≡ true =
      subst (λ o. begins_at i place o ≡ true) began (subst (λ instance. begins_at i place instance.origin ≡ true) same found.1) in
      record {
        caller = eqb-true origin.caller i (and_first (nat_eq origin.caller i) (same_place origin.place place) is);
        at = same_true origin.place place (and_second (nat_eq origin.caller i) (same_place origin.place place) is);
      }

  -- statements of one place have outputs of which one test says the same
  same_outputs : (unit : UnitDef) (s t : Stmt) (test : Static → Bool) → Contains units unit → StandsIn unit.body s → StandsIn unit.body t →
      IsTrue (is_run s) → IsTrue (is_run t) → place_of s ≡ place_of t →
      list_any test (map static_of (outputs_of s)) ≡ list_any test (map static_of (outputs_of t))
  same_outputs unit s t test is_there one two runs runs' places =
      ∥∥₁_elim (keeps.runs_decide.same s t (record { unit = unit; is_there = is_there; stands = one })
      (record { unit = unit; is_there = is_there; stands = two }) runs runs' places) (Bool-set _ _)
      (λ same. ap (λ s. list_any test (map static_of (outputs_of s))) same)

  has_outputs : (i : ℕ) (unit : UnitDef) → unit_at W i ≡ Some unit → RunsHaveOutputs W i (plain_body unit.body)
  has_outputs i unit is place outputs callee some begun instance origin test there began any =
      let at = begins i callee place instance origin begun there began in
      let called : CalledBy units W.instances callee instance origin =
      subst (HasCaller units entry W.instances callee instance) began (instances_have_callers_so units entry callee instance there) in
      let caller : unit_at W i ≡ Some called.unit =
      subst (λ i. unit_at W i ≡ Some called.unit) at.caller (ap (option_and_then (unit_of W)) called.there ∙ called.body) in
      let same : called.unit ≡ unit = one_some called.unit unit (unit_at W i) caller is in
      let found : Contains units unit =
      subst (Contains units) same (contains_at units called.caller.unit called.unit called.body) in
      let listed : RunAs (StandsIn unit.body) called.run =
      subst (λ unit. RunAs (StandsIn unit.body) called.run) same (unit_listed called.unit called.run called.runs) in
      let stands = run_found (λ at paths. (at ≡ place) × (paths ≡ outputs)) unit.body [] some in
      let places : place_of listed.statement ≡ place_of stands.statement =
      listed.placed ∙ sym called.place ∙ at.at ∙ sym stands.holds.0 in
      ap (λ paths. list_any test (map static_of paths)) (sym stands.holds.1)
      ∙ sym (same_outputs unit listed.statement stands.statement test found listed.among stands.stands listed.runs stands.runs places)
      ∙ ap (list_any test) (listed.outs ∙ sym called.outputs)
      ∙ any

pub typed_runs_have_outputs_so : TypedRunsHaveOutputs
typed_runs_have_outputs_so structs units entry i unit keeps is = has_outputs structs units entry keeps i unit is

-- ---- the calls of trees

-- each `run` of a part of a body has the outputs; In P says that P holds of a statement there
abbrev Has : Setting → ℕ → ((Plain → Type 0) → Type 0) → Type 0
Has w i In =
    (place : Place) (outputs : List Path) (callee : ℕ) → In (RunsWith place outputs) → callee_of w i place ≡ Some callee →
    HasOutputs w callee (map static_of outputs)

fewer : (w : Setting) (i : ℕ) (In Out : (Plain → Type 0) → Type 0) → ((P : Plain → Type 0) → In P → Out P) → Has w i Out → Has w i In
fewer w i In Out so has place outputs callee some begun = has place outputs callee (so (RunsWith place outputs) some) begun

module _ {w : Setting} (all : (i : ℕ) (unit : UnitDef) → unit_at w i ≡ Some unit → RunsHaveOutputs w i (plain_body unit.body)) where
  mutual
    standing : {stood : Bool} {i : ℕ} {body : Block} {c : Tree} → PlainResidual w stood i body c → Has w i (λ P. SomeIn P body) → CallsMatchCallees w i c
    standing nothing has = tt
    standing {body = body} (of_last {s = s} stands of) has =
        standing_of of (fewer w _ (λ P. SomeOf P s) (λ P. SomeIn P body) (λ P some. stands_in P stands some) has)
    standing {body = body} (of_one {s = s} stands of busy) has =
        standing_of of (fewer w _ (λ P. SomeOf P s) (λ P. SomeIn P body) (λ P some. stands_in P stands some) has)

    standing_of : {stood : Bool} {i : ℕ} {s : Plain} {c : Tree} → PlainResidualOf w stood i s c → Has w i (λ P. SomeOf P s) → CallsMatchCallees w i c
    standing_of to_begin has = tt
    standing_of ended has = tt
    standing_of paused has = tt
    standing_of tested has = tt
    standing_of {s = s} (of_then {body = body} left) has =
        standing left (fewer w _ (λ P. SomeIn P body) (λ P. SomeOf P s) (λ P some. inr (inl some)) has)
    standing_of {s = s} (of_else {other = other} left) has =
        standing left (fewer w _ (λ P. SomeIn P other) (λ P. SomeOf P s) (λ P some. inr (inr some)) has)
    standing_of {s = s} (of_repeat {l = l} {at = at} {body = body} left) has =
        standing left (fewer w _ (λ P. SomeIn P (turn body (Repeat l at body))) (λ P. SomeOf P s)
        (λ P some. looped P body (Repeat l at body) (P (Repeat l at body)) (λ again. again) some) has)
    standing_of {s = s} (of_until {l = l} {at = at} {body = body} {e = e} left) has =
        standing left (fewer w _ (λ P. SomeIn P (turn body (Again l at body e))) (λ P. SomeOf P s)
        (λ P some. looped P body (Again l at body e) (P (Until l at body e)) (λ again. again) some) has)
    standing_of {s = s} (of_while {l = l} {at = at} {e = e} {body = body} left) has =
        standing left (fewer w _ (λ P. SomeIn P (turn body (While l at e body))) (λ P. SomeOf P s)
        (λ P some. looped P body (While l at e body) (P (While l at e body)) (λ again. again) some) has)
    standing_of (of_again of) has = standing_of of has
    standing_of {s = s} (of_par {bodies = bodies} kept each) has =
        standing_in each (fewer w _ (λ P. SomeInEach P bodies) (λ P. SomeOf P s) (λ P some. inr some) has)
    standing_of {s = s} (of_guard {body = body} kept checked left) has =
        standing left (fewer w _ (λ P. SomeIn P body) (λ P. SomeOf P s) (λ P some. inr some) has)
    standing_of (of_run {at = at} {outputs = outputs} {callee = callee} {unit = unit} begun is kept checked left) has =
        (begun, (has at outputs callee (refl, refl) begun, standing left (all callee unit is)))

    standing_in : {stood : Bool} {i : ℕ} {bodies : Bodies} {branches : Trees} → PlainResidualEach w stood i bodies branches →
        Has w i (λ P. SomeInEach P bodies) →
        AllCallsMatchCallees w i branches
    standing_in none_left has = tt
    standing_in {bodies = bodies} (one_left {body = body} {bodies = rest} left each) has = (
      standing left (fewer w _ (λ P. SomeIn P body) (λ P. SomeInEach P bodies) (λ P some. inl some) has),
      standing_in each (fewer w _ (λ P. SomeInEach P rest) (λ P. SomeInEach P bodies) (λ P some. inr some) has),
    )

-- ---- the branches of each `cobegin` of a body that has the outputs have them

module _ (w : Setting) (i : ℕ) where
  mutual
    forked_of : (p : Plain) → Has w i (λ P. SomeOf P p) → EachFork (BranchesHaveOutputs w i) p
    forked_of (Act l s) has = tt
    forked_of (Await l at e) has = tt
    forked_of (RunOf l at target a inputs outputs) has = tt
    forked_of (If l at e body other) has = (
      forked body (fewer w _ (λ P. SomeIn P body) (λ P. SomeOf P (If l at e body other)) (λ P some. inr (inl some)) has),
      forked other (fewer w _ (λ P. SomeIn P other) (λ P. SomeOf P (If l at e body other)) (λ P some. inr (inr some)) has),
    )
    forked_of (Cobegin l at bodies) has =
        let inner : Has w i (λ P. SomeInEach P bodies) =
        fewer w _ (λ P. SomeInEach P bodies) (λ P. SomeOf P (Cobegin l at bodies)) (λ P some. inr some) has in
        (inner, forked_each bodies inner)
    forked_of (When l at guard e body) has =
        forked body (fewer w _ (λ P. SomeIn P body) (λ P. SomeOf P (When l at guard e body)) (λ P some. inr some) has)
    forked_of (Repeat l at body) has = forked body (fewer w _ (λ P. SomeIn P body) (λ P. SomeOf P (Repeat l at body)) (λ P some. inr some) has)
    forked_of (Until l at body e) has = forked body (fewer w _ (λ P. SomeIn P body) (λ P. SomeOf P (Until l at body e)) (λ P some. inr some) has)
    forked_of (While l at e body) has = forked body (fewer w _ (λ P. SomeIn P body) (λ P. SomeOf P (While l at e body)) (λ P some. inr some) has)
    forked_of (Again l at body e) has = forked body (fewer w _ (λ P. SomeIn P body) (λ P. SomeOf P (Again l at body e)) (λ P some. inr some) has)

    forked : (body : Block) → Has w i (λ P. SomeIn P body) → EachForkIn (BranchesHaveOutputs w i) body
    forked Done has = tt
    forked (Then s rest) has = (
      forked_of s (fewer w _ (λ P. SomeOf P s) (λ P. SomeIn P (Then s rest)) (λ P some. inl some) has),
      forked rest (fewer w _ (λ P. SomeIn P rest) (λ P. SomeIn P (Then s rest)) (λ P some. inr some) has),
    )

    forked_each : (bodies : Bodies) → Has w i (λ P. SomeInEach P bodies) → EachForkInEach (BranchesHaveOutputs w i) bodies
    forked_each Last has = tt
    forked_each (BodyOf weak body rest) has = (
      forked body (fewer w _ (λ P. SomeIn P body) (λ P. SomeInEach P (BodyOf weak body rest)) (λ P some. inl some) has),
      forked_each rest (fewer w _ (λ P. SomeInEach P rest) (λ P. SomeInEach P (BodyOf weak body rest)) (λ P some. inr some) has),
    )

pub outputs_in_forks : (w : Setting) (i : ℕ) (body : Block) → RunsHaveOutputs w i body → EachForkIn (BranchesHaveOutputs w i) body
outputs_in_forks w i body has = forked w i body has

pub left_calls_stand_so : ResidualCallsMatch
left_calls_stand_so structs units entry stood i body c keeps has left =
    standing (λ i unit is. typed_runs_have_outputs_so structs units entry i unit keeps is) left has
