-- What is named under a `prev` at the nodes of statements that fit is copied, where these name known variables alone.
use Rattle.std.proofs.Common.{◌≡◌, ℕ, suc, Bool, true, false, ◌&&◌, ◌||◌, List, [], ◌∷◌, ◌++◌, map, Option, Some, None, refl}
use Rattle.std.proofs.Common.{sym, ap, ◌∙◌, subst}
use Rattle.std.proofs.lemmas.List.Elements.{All-head, All-tail}
use Rattle.std.specs.List.{list_all}
use Rattle.std.specs.Prelude.{slice_get}
use Rattle.std.proofs.lemmas.Bool.{and_from}
use Rattle.bl_tree.proofs.Basics.{and_first, and_second}
use Rattle.bl_tree.specs.declared.place.Place.{Place}
use Rattle.bl_tree.specs.declared.scalar.Scalar.{Scalar as ScalarType}
use Rattle.bl_tree.specs.declared.tree.Arm.{Arm, fold-Arm, fold_out-Arm, out-Arm}
use Rattle.bl_tree.specs.declared.tree.Branch.{Branch, fold-Branch, fold_out-Branch, out-Branch}
use Rattle.bl_tree.specs.declared.tree.Expr.{Expr}
use Rattle.bl_tree.specs.declared.tree.Guard.{Guard}
use Rattle.bl_tree.specs.declared.tree.Path.{Path}
use Rattle.bl_tree.specs.declared.tree.Stmt.{Stmt, fold-roll-Stmt, out-Stmt, out-roll-Stmt}
use Rattle.bl_tree.specs.declared.tree.StmtKind.{StmtKind, fold-roll-StmtKind, out-StmtKind, out-roll-StmtKind, roll-StmtKind}
use Rattle.bl_tree.specs.declared.tree.StmtKind.TheOpen.{StmtKind-F}
use Rattle.bl_tree.specs.declared.tree.Ty.{Ty}
use Rattle.bl_tree.specs.declared.tree.Unit.{Unit as UnitDef}
use Rattle.bl_tree.specs.declared.tree.Var.{Var}
use Rattle.bl_tree.specs.Reduce.{all_of, joined}
use Rattle.bl_tree.specs.Types.{scalar}
use Rattle.bl_tree.specs.Typing.{TypingContext, are_same, arguments_fit, arm_fits, branch_fits, call_fits, declaration_fits, fits, inputs_of, is_activity}
use Rattle.bl_tree.specs.Typing.{is_assignable, is_fixed, is_inhabited, is_outlet, is_procedure, is_truth, is_variable, kind_fits, outputs_of}
use Rattle.bl_tree.specs.Typing.{return_fits, run_fits, stmt_fits, target_fits, type_of, type_of_path, types_match, var_at}
use Rattle.bl_tree.proofs.StmtInduction.{Cases, Each, EachArm, EachBranch, induct, stmt}
use Rattle.bl_graph_nodes.specs.Nodes.{ActAt, Arguments, CheckAt, DepthEndAt, DepthJoinAt, EnterAt, ForkAt, HeadAt, Node, PauseAt, ResumeAt}
use Rattle.bl_graph_nodes.specs.Nodes.{StartAt, SurfaceEndAt, SurfaceJoinAt, TestAt, are_instant, arguments_of, is_instant}
use Rattle.bl_graph_nodes.specs.Nodes.{nodes_in, nodes_in_each, nodes_of, where_so}
use Rattle.bl_graph_nodes.specs.Plain.{Act, Arm as PlainArm, Await, Block, Bodies, Branch as PlainBranch, Cobegin, Done, If}
use Rattle.bl_graph_nodes.specs.Plain.{Label, Plain, Position, Repeat, Run, Then, Until, When}
use Rattle.bl_graph_nodes.specs.Plain.{While, arm_plain, block_at, block_from, bodies_from, branch_plain, else_at, if_with}
use Rattle.bl_graph_nodes.specs.Plain.{inside, kind_plain, label_at, passed_one, place_of_test, plain_body, plain_stmt, stmt_plain}
use Rattle.bl_machine_prevs.specs.Prevs.{arm_prevs, branch_prevs, optional_prevs, prevs_in, prevs_in_arm, prevs_in_branch, prevs_in_expr, prevs_in_path}
use Rattle.bl_machine_prevs.specs.Prevs.{stmt_kind_prevs, stmt_layer_prevs, target_prevs}
use Rattle.bl_emit_acts_laws_simulation.specs.Encodes.{copied_in, copied_in_path}
use Rattle.bl_emit_spec_laws_nodes.specs.Points.Nodes.{act_copied, copied_there}
use Rattle.bl_emit_spec_laws_nodes.proofs.OnCopied.Expressions.{Related, all_left, all_right, expr_copied_so, exprs_copied_so, path_copied_so, paths_copied_so}
use Rattle.bl_machine_laws.proofs.OnRests.Rests.{plain_branch, plain_arm}

-- ---- expressions that must have a type

truth_typed : (t : Option Ty) → is_truth t ≡ true → (ty : Ty) × (t ≡ Some ty)
truth_typed (Some ty) is = (ty, refl)
truth_typed None is = absurd (cc)

second_typed : (a b : Option Ty) → are_same a b ≡ true → (ty : Ty) × (b ≡ Some ty)
second_typed (Some a) (Some b) is = (b, refl)
second_typed (Some a) None is = absurd (cc)
second_typed None b is = absurd (cc)

first_typed : (a b : Option Ty) → are_same a b ≡ true → (ty : Ty) × (a ≡ Some ty)
first_typed (Some a) b is = (a, refl)
first_typed None b is = absurd (cc)

-- ---- nodes

-- whether all that the arguments of a `run` name is copied
abbrev pub run_copied : (ℕ → Bool) → Arguments → Bool
run_copied copied arguments = all_of (map (copied_in copied) arguments.inputs) && all_of (map (copied_in_path copied) arguments.outputs)

-- the same of a node at which one begins
abbrev pub run_there : (ℕ → Bool) → Node → Bool
run_there copied (EnterAt l at arguments) = run_copied copied arguments
run_there copied n = true

-- whether the node is fine
abbrev pub is_fine : (ℕ → Bool) → Node → Bool
is_fine copied n = copied_there copied n && run_there copied n

-- all of these are
record Fine (copied : ℕ → Bool) (nodes : List Node) : Type 0 where
  all : list_all (is_fine copied) nodes ≡ true

pub truth_fine : (b : Bool) → b ≡ true → (b && true) ≡ true
truth_fine true h = refl
truth_fine false h = h

module _ (site : TypingContext) (known copied : ℕ → Bool) (related : Related site known copied) where
  abbrev FinePlain : Plain → Type 0
  FinePlain s = Fine copied (nodes_of s)

  abbrev FineBlock : Block → Type 0
  FineBlock body = Fine copied (nodes_in body)

  nothing : Fine copied []
  nothing = record { all = refl }

  one_more : (n : Node) (nodes : List Node) → is_fine copied n ≡ true → Fine copied nodes → Fine copied (n ∷ nodes)
  one_more n nodes own rest = record { all = and_from (is_fine copied n) (list_all (is_fine copied) nodes) own rest.all }

  appended : (ms ns : List Node) → list_all (is_fine copied) ms ≡ true → list_all (is_fine copied) ns ≡ true →
      list_all (is_fine copied) (ms ++ ns) ≡ true
  appended [] ns one other = other
  appended (m ∷ ms) ns one other =
      and_from (is_fine copied m) (list_all (is_fine copied) (ms ++ ns)) (and_first (is_fine copied m) (list_all (is_fine copied) ms) one)
      (appended ms ns (and_second (is_fine copied m) (list_all (is_fine copied) ms) one) other)

  append_fine : (ms ns : List Node) → Fine copied ms → Fine copied ns → Fine copied (ms ++ ns)
  append_fine ms ns one other = record { all = appended ms ns one.all other.all }

  where_fine : (test : Bool) (n : Node) → is_fine copied n ≡ true → Fine copied (where_so test n)
  where_fine true n own = one_more n [] own nothing
  where_fine false n own = nothing

  abbrev Known : List ℕ → Type 0
  Known ks = list_all known ks ≡ true

  truth_copied : (e : Expr) → is_truth (type_of site e) ≡ true → Known (prevs_in_expr e) → (copied_in copied e && true) ≡ true
  truth_copied e fitted all =
      let typed = truth_typed (type_of site e) fitted in
      truth_fine (copied_in copied e) (expr_copied_so site known copied related e typed.0 typed.1 all)

  abbrev S : Stmt → Type 0
  S s = fits site s ≡ true → Known (prevs_in s) → (at : Position) → FinePlain (plain_stmt s at)

  blocks_fine : (body : List Stmt) → Each S body → all_of (map (fits site) body) ≡ true → Known (joined (map prevs_in body)) → (k : ℕ)
      (at : Position) → FineBlock (block_from (map plain_stmt body) k at)
  blocks_fine [] each fitted all k at = nothing
  blocks_fine (s ∷ body) each fitted all k at =
      append_fine (nodes_of (plain_stmt s (at ++ k ∷ []))) (nodes_in (block_from (map plain_stmt body) (suc k) at))
      (All-head S s body each (and_first (fits site s) (all_of (map (fits site) body)) fitted)
      (all_left known (prevs_in s) (joined (map prevs_in body)) all) (at ++ k ∷ []))
      (blocks_fine body (All-tail S s body each) (and_second (fits site s) (all_of (map (fits site) body)) fitted)
      (all_right known (prevs_in s) (joined (map prevs_in body)) all) (suc k) at)

  -- ---- arms

  abbrev arm_fitted : Arm → Bool
  arm_fitted = fold-Arm Bool Bool Bool Bool (kind_fits site) (arm_fits site) branch_fits stmt_fits

  record FineArm (arm : PlainArm) : Type 0 where
    test : (copied_in copied arm.test && true) ≡ true
    body : (at : Position) → FineBlock (arm.body at)

  abbrev OfArm : Arm → Type 0
  OfArm arm = Each S (out-Arm arm).body

  arm_fine : (arm : Arm) → OfArm arm → arm_fitted arm ≡ true → Known (prevs_in_arm arm) → FineArm (plain_arm arm)
  arm_fine arm each fitted all =
      let e : Expr = (out-Arm arm).test in
      let body : List Stmt = (out-Arm arm).body in
      let fits_so = sym (fold_out-Arm Bool Bool Bool Bool (kind_fits site) (arm_fits site) branch_fits stmt_fits arm) ∙ fitted in
      let prevs_are : prevs_in_arm arm ≡ prevs_in_expr e ++ joined (map prevs_in body) =
      fold_out-Arm (List ℕ) (List ℕ) (List ℕ) (List ℕ) stmt_kind_prevs arm_prevs branch_prevs stmt_layer_prevs arm in
      let known_so : Known (prevs_in_expr e ++ joined (map prevs_in body)) = ap (list_all known) (sym prevs_are) ∙ all in
      subst FineArm
      (sym (fold_out-Arm (Place → Position → Plain) PlainArm PlainBranch (Position → Plain) kind_plain arm_plain branch_plain stmt_plain arm))
      (record {
        test = truth_copied e (and_first (is_truth (type_of site e)) (all_of (map (fits site) body)) fits_so)
            (all_left known (prevs_in_expr e) (joined (map prevs_in body)) known_so);
        body = λ at.
            blocks_fine body each
            (and_second (is_truth (type_of site e)) (all_of (map (fits site) body)) fits_so)
            (all_right known (prevs_in_expr e) (joined (map prevs_in body)) known_so) 0 at;
      })

  abbrev FineArms : List PlainArm → Type 0
  FineArms [] = Unit {0}
  FineArms (arm ∷ arms) = FineArm arm × FineArms arms

  arms_fine : (arms : List Arm) → EachArm S arms → all_of (map arm_fitted arms) ≡ true → Known (joined (map prevs_in_arm arms)) →
      FineArms (map plain_arm arms)
  arms_fine [] each fitted all = tt
  arms_fine (arm ∷ arms) each fitted all = (
    arm_fine arm (All-head OfArm arm arms each) (and_first (arm_fitted arm) (all_of (map arm_fitted arms)) fitted)
        (all_left known (prevs_in_arm arm) (joined (map prevs_in_arm arms)) all),
    arms_fine arms (All-tail OfArm arm arms each) (and_second (arm_fitted arm) (all_of (map arm_fitted arms)) fitted)
        (all_right known (prevs_in_arm arm) (joined (map prevs_in_arm arms)) all),
  )

  if_fine : (l : Label) (at : Place) (e : Expr) (body other : Block) → (copied_in copied e && true) ≡ true → FineBlock body →
      FineBlock other → FinePlain (If l at e body other)
  if_fine l at e body other own one two =
      one_more (TestAt l at e) (nodes_in body ++ nodes_in other) own (append_fine (nodes_in body) (nodes_in other) one two)

  single : (s : Plain) → FinePlain s → FineBlock (Then s Done)
  single s fine = append_fine (nodes_of s) [] fine nothing

  else_fine : (l : Label) (arms : List PlainArm) (other : Position → Block) → FineArms arms → ((at : Position) → FineBlock (other at)) →
      FineBlock (else_at l arms other)
  else_fine l [] other all fine = fine (inside l l.passed)
  else_fine l (arm ∷ arms) other all fine =
      single (If l (place_of_test arm) arm.test (arm.body (inside l l.passed)) (else_at (passed_one l) arms other))
      (if_fine l (place_of_test arm) arm.test (arm.body (inside l l.passed)) (else_at (passed_one l) arms other) all.0.test
      (all.0.body (inside l l.passed)) (else_fine (passed_one l) arms other all.1 fine))

  with_fine : (l : Label) (place : Place) (arms : List PlainArm) (other : Position → Block) → is_inhabited arms ≡ true → FineArms arms →
      ((at : Position) → FineBlock (other at)) → FinePlain (if_with l place arms other)
  with_fine l place [] other some all fine = absurd (cc)
  with_fine l place (arm ∷ arms) other some all fine =
      if_fine l place arm.test (arm.body (inside l 0)) (else_at (passed_one l) arms other) all.0.test (all.0.body (inside l 0))
      (else_fine (passed_one l) arms other all.1 fine)

  -- ---- branches

  abbrev branch_fitted : Branch → Bool
  branch_fitted = fold-Branch Bool Bool Bool Bool (kind_fits site) (arm_fits site) branch_fits stmt_fits

  abbrev FineBranch : PlainBranch → Type 0
  FineBranch branch = (at : Position) → FineBlock (branch.body at)

  abbrev OfBranch : Branch → Type 0
  OfBranch branch = Each S (out-Branch branch).body

  branch_fine : (branch : Branch) → OfBranch branch → branch_fitted branch ≡ true → Known (prevs_in_branch branch) →
      FineBranch (plain_branch branch)
  branch_fine branch each fitted all =
      let fits_so = sym (fold_out-Branch Bool Bool Bool Bool (kind_fits site) (arm_fits site) branch_fits stmt_fits branch) ∙ fitted in
      let prevs_are : prevs_in_branch branch ≡ joined (map prevs_in (out-Branch branch).body) =
      fold_out-Branch (List ℕ) (List ℕ) (List ℕ) (List ℕ) stmt_kind_prevs arm_prevs branch_prevs stmt_layer_prevs branch in
      subst FineBranch
      (sym (fold_out-Branch (Place → Position → Plain) PlainArm PlainBranch
      (Position → Plain) kind_plain arm_plain branch_plain stmt_plain branch))
      (λ at. blocks_fine (out-Branch branch).body each fits_so (ap (list_all known) (sym prevs_are) ∙ all) 0 at)

  abbrev FineBranches : List PlainBranch → Type 0
  FineBranches [] = Unit {0}
  FineBranches (branch ∷ branches) = FineBranch branch × FineBranches branches

  branches_fine : (branches : List Branch) → EachBranch S branches → all_of (map branch_fitted branches) ≡ true →
      Known (joined (map prevs_in_branch branches)) → FineBranches (map plain_branch branches)
  branches_fine [] each fitted all = tt
  branches_fine (branch ∷ branches) each fitted all = (
    branch_fine branch (All-head OfBranch branch branches each)
        (and_first (branch_fitted branch) (all_of (map branch_fitted branches)) fitted)
        (all_left known (prevs_in_branch branch) (joined (map prevs_in_branch branches)) all),
    branches_fine branches (All-tail OfBranch branch branches each)
        (and_second (branch_fitted branch) (all_of (map branch_fitted branches)) fitted)
        (all_right known (prevs_in_branch branch) (joined (map prevs_in_branch branches)) all),
  )

  bodies_fine : (branches : List PlainBranch) (k : ℕ) (l : Label) → FineBranches branches → Fine copied (nodes_in_each (bodies_from branches k l))
  bodies_fine [] k l all = nothing
  bodies_fine (branch ∷ branches) k l all =
      append_fine (nodes_in (branch.body (inside l k))) (nodes_in_each (bodies_from branches (suc k) l)) (all.0 (inside l k))
      (bodies_fine branches (suc k) l all.1)

  -- ---- acts

  kind_made : (place : Place) (layer : StmtKind-F StmtKind Arm Branch Stmt) → out-StmtKind (out-Stmt (stmt place layer)).what ≡ layer
  kind_made place layer =
      ap (λ s. out-StmtKind s.what) (out-roll-Stmt (record { place = place; what = roll-StmtKind layer })) ∙ out-roll-StmtKind layer

  act_fine : (l : Label) (place : Place) (layer : StmtKind-F StmtKind Arm Branch Stmt) → act_copied copied layer ≡ true →
      FinePlain (Act l (stmt place layer))
  act_fine l place layer is =
      one_more (ActAt l (stmt place layer)) []
      (truth_fine (act_copied copied (out-StmtKind (out-Stmt (stmt place layer)).what)) (ap (act_copied copied) (kind_made place layer) ∙ is))
      nothing

  abbrev Layer : Type 0
  Layer = StmtKind-F StmtKind Arm Branch Stmt

  abbrev acted : Layer → Bool
  acted layer = act_copied copied layer

  declared_copied : (k : ℕ) (initial : Option Expr) (var : Option Var) → declaration_fits site initial var ≡ true →
      Known (optional_prevs initial) → acted (StmtKind-F.Declare k initial) ≡ true
  declared_copied k None var fitted all = refl
  declared_copied k (Some e) None fitted all = absurd (cc)
  declared_copied k (Some e) (Some var) fitted all =
      let typed = second_typed (Some var.ty) (type_of site e)
      (and_second (is_variable var.role || is_fixed var.role) (are_same (Some var.ty) (type_of site e)) fitted) in
      expr_copied_so site known copied related e typed.0 typed.1 all

  returned_copied : (value : Option Expr) (result : Option ScalarType) → return_fits site value result ≡ true →
      Known (optional_prevs value) → acted (StmtKind-F.Return value) ≡ true
  returned_copied None result fitted all = refl
  returned_copied (Some e) None fitted all = absurd (cc)
  returned_copied (Some e) (Some s) fitted all =
      let typed = second_typed (Some (scalar s)) (type_of site e) fitted in expr_copied_so site known copied related e typed.0 typed.1 all

  assigned_copied : (path : Path) (e : Expr) → (is_assignable site path && are_same (type_of_path site path) (type_of site e)) ≡ true →
      Known (prevs_in_path path ++ prevs_in_expr e) → (copied_in_path copied path && copied_in copied e) ≡ true
  assigned_copied path e fitted all =
      let same = and_second (is_assignable site path) (are_same (type_of_path site path) (type_of site e)) fitted in
      let one = first_typed (type_of_path site path) (type_of site e) same in
      let two = second_typed (type_of_path site path) (type_of site e) same in
      and_from (copied_in_path copied path) (copied_in copied e)
      (path_copied_so site known copied related path one.0 one.1 (all_left known (prevs_in_path path) (prevs_in_expr e) all))
      (expr_copied_so site known copied related e two.0 two.1 (all_right known (prevs_in_path path) (prevs_in_expr e) all))

  abbrev arguments_copied : List Expr → List Path → Bool
  arguments_copied inputs outputs = all_of (map (copied_in copied) inputs) && all_of (map (copied_in_path copied) outputs)

  arguments_so : (inputs : List Expr) (outputs : List Path) (unit : UnitDef) → arguments_fit site inputs outputs unit ≡ true →
      Known (joined (map prevs_in_expr inputs) ++ joined (map prevs_in_path outputs)) → arguments_copied inputs outputs ≡ true
  arguments_so inputs outputs unit fitted all =
      let ins = types_match (map (type_of site) inputs) (inputs_of unit) in
      let outs = types_match (map (type_of_path site) outputs) (outputs_of unit) in
      let lets = all_of (map (is_outlet site) outputs) in
      and_from (all_of (map (copied_in copied) inputs)) (all_of (map (copied_in_path copied) outputs))
      (exprs_copied_so site known copied related inputs (inputs_of unit) (and_first ins (outs && lets) fitted)
      (all_left known (joined (map prevs_in_expr inputs)) (joined (map prevs_in_path outputs)) all))
      (paths_copied_so site known copied related outputs (outputs_of unit) (and_first outs lets (and_second ins (outs && lets) fitted))
      (all_right known (joined (map prevs_in_expr inputs)) (joined (map prevs_in_path outputs)) all))

  called_copied : (inputs : List Expr) (outputs : List Path) (callee : Option UnitDef) → call_fits site inputs outputs callee ≡ true →
      Known (joined (map prevs_in_expr inputs) ++ joined (map prevs_in_path outputs)) → arguments_copied inputs outputs ≡ true
  called_copied inputs outputs None fitted all = absurd (cc)
  called_copied inputs outputs (Some unit) fitted all =
      arguments_so inputs outputs unit (and_second (is_procedure unit) (arguments_fit site inputs outputs unit) fitted) all

  ran_copied : (target : Option Path) (inputs : List Expr) (outputs : List Path) (callee : Option UnitDef) →
      run_fits site target inputs outputs callee ≡ true →
      Known (joined (map prevs_in_expr inputs) ++ joined (map prevs_in_path outputs)) → arguments_copied inputs outputs ≡ true
  ran_copied target inputs outputs None fitted all = absurd (cc)
  ran_copied target inputs outputs (Some unit) fitted all =
      let rest = and_second (is_activity site.kind && is_activity unit.kind)
      (target_fits site unit.result target && arguments_fit site inputs outputs unit) fitted in
      arguments_so inputs outputs unit (and_second (target_fits site unit.result target) (arguments_fit site inputs outputs unit) rest) all

  -- ---- all statements

  as_fine : (s p : Plain) → s ≡ p → FinePlain p → FinePlain s
  as_fine s p is fine = subst FinePlain (sym is) fine

  some_there : {A B C : Type 0} (f : A → B) (g : A → C) (xs : List A) → is_inhabited (map f xs) ≡ true → is_inhabited (map g xs) ≡ true
  some_there f g [] h = absurd (cc)
  some_there f g (x ∷ xs) h = refl

  module _ (place : Place) where
    declare_plain : (k : ℕ) (initial : Option Expr) (at : Position) → plain_stmt (stmt place (StmtKind-F.Declare k initial)) at
        ≡ Act (label_at at) (stmt place (StmtKind-F.Declare k initial))
    declare_plain k initial at = rw (fold-roll-Stmt, fold-roll-StmtKind) refl

    assign_plain : (path : Path) (e : Expr) (at : Position) → plain_stmt (stmt place (StmtKind-F.Assign path e)) at
        ≡ Act (label_at at) (stmt place (StmtKind-F.Assign path e))
    assign_plain path e at = rw (fold-roll-Stmt, fold-roll-StmtKind) refl

    call_plain : (f : ℕ) (inputs : List Expr) (outputs : List Path) (at : Position) → plain_stmt (stmt place (StmtKind-F.Call f inputs outputs)) at
        ≡ Act (label_at at) (stmt place (StmtKind-F.Call f inputs outputs))
    call_plain f inputs outputs at = rw (fold-roll-Stmt, fold-roll-StmtKind) refl

    return_plain : (e : Option Expr) (at : Position) →
        plain_stmt (stmt place (StmtKind-F.Return e)) at ≡ Act (label_at at) (stmt place (StmtKind-F.Return e))
    return_plain e at = rw (fold-roll-Stmt, fold-roll-StmtKind) refl

    await_plain : (e : Expr) (at : Position) → plain_stmt (stmt place (StmtKind-F.Await e)) at ≡ Await (label_at at) place e
    await_plain e at = rw (fold-roll-Stmt, fold-roll-StmtKind) refl

    run_plain : (target : Option Path) (a : ℕ) (inputs : List Expr) (outputs : List Path) (at : Position) →
        plain_stmt (stmt place (StmtKind-F.Run target a inputs outputs)) at ≡ Run (label_at at) place target a inputs outputs
    run_plain target a inputs outputs at = rw (fold-roll-Stmt, fold-roll-StmtKind) refl

    if_plain : (arms : List Arm) (other : List Stmt) (at : Position) → plain_stmt (stmt place (StmtKind-F.If arms other)) at
        ≡ if_with (label_at at) place (map plain_arm arms) (block_at (map plain_stmt other))
    if_plain arms other at = rw (fold-roll-Stmt, fold-roll-StmtKind) refl

    cobegin_plain : (branches : List Branch) (at : Position) → plain_stmt (stmt place (StmtKind-F.Cobegin branches)) at
        ≡ Cobegin (label_at at) place (bodies_from (map plain_branch branches) 0 (label_at at))
    cobegin_plain branches at = rw (fold-roll-Stmt, fold-roll-StmtKind) refl

    when_plain : (guard : Guard) (e : Expr) (body : List Stmt) (at : Position) → plain_stmt (stmt place (StmtKind-F.When guard e body)) at
        ≡ When (label_at at) place guard e (block_at (map plain_stmt body) (inside (label_at at) 0))
    when_plain guard e body at = rw (fold-roll-Stmt, fold-roll-StmtKind) refl

    repeat_plain : (body : List Stmt) (at : Position) → plain_stmt (stmt place (StmtKind-F.Repeat body)) at
        ≡ Repeat (label_at at) place (block_at (map plain_stmt body) (inside (label_at at) 0))
    repeat_plain body at = rw (fold-roll-Stmt, fold-roll-StmtKind) refl

    until_plain : (body : List Stmt) (e : Expr) (at : Position) → plain_stmt (stmt place (StmtKind-F.Until body e)) at
        ≡ Until (label_at at) place (block_at (map plain_stmt body) (inside (label_at at) 0)) e
    until_plain body e at = rw (fold-roll-Stmt, fold-roll-StmtKind) refl

    while_plain : (e : Expr) (body : List Stmt) (at : Position) → plain_stmt (stmt place (StmtKind-F.While e body)) at
        ≡ While (label_at at) place e (block_at (map plain_stmt body) (inside (label_at at) 0))
    while_plain e body at = rw (fold-roll-Stmt, fold-roll-StmtKind) refl

    declare_case : (k : ℕ) (initial : Option Expr) → S (stmt place (StmtKind-F.Declare k initial))
    declare_case k initial fitted all at =
        let fits_so : declaration_fits site initial (var_at site k) ≡ true = rw (fold-roll-Stmt, fold-roll-StmtKind) at fitted in
        let known_so : Known (optional_prevs initial) = rw (fold-roll-Stmt, fold-roll-StmtKind) at all in
        as_fine _ _ (declare_plain k initial at)
        (act_fine (label_at at) place (StmtKind-F.Declare k initial) (declared_copied k initial (var_at site k) fits_so known_so))

    assign_case : (path : Path) (e : Expr) → S (stmt place (StmtKind-F.Assign path e))
    assign_case path e fitted all at =
        let fits_so : (is_assignable site path && are_same (type_of_path site path) (type_of site e)) ≡ true =
        rw (fold-roll-Stmt, fold-roll-StmtKind) at fitted in
        let known_so : Known (prevs_in_path path ++ prevs_in_expr e) = rw (fold-roll-Stmt, fold-roll-StmtKind) at all in
        as_fine _ _ (assign_plain path e at)
        (act_fine (label_at at) place (StmtKind-F.Assign path e) (assigned_copied path e fits_so known_so))

    call_case : (f : ℕ) (inputs : List Expr) (outputs : List Path) → S (stmt place (StmtKind-F.Call f inputs outputs))
    call_case f inputs outputs fitted all at =
        let fits_so : call_fits site inputs outputs (slice_get site.earlier f) ≡ true = rw (fold-roll-Stmt, fold-roll-StmtKind) at fitted in
        let known_so : Known (joined (map prevs_in_expr inputs) ++ joined (map prevs_in_path outputs)) =
        rw (fold-roll-Stmt, fold-roll-StmtKind) at all in
        as_fine _ _ (call_plain f inputs outputs at)
        (act_fine (label_at at) place (StmtKind-F.Call f inputs outputs)
        (called_copied inputs outputs (slice_get site.earlier f) fits_so known_so))

    return_case : (e : Option Expr) → S (stmt place (StmtKind-F.Return e))
    return_case e fitted all at =
        let fits_so : return_fits site e site.result ≡ true = rw (fold-roll-Stmt, fold-roll-StmtKind) at fitted in
        let known_so : Known (optional_prevs e) = rw (fold-roll-Stmt, fold-roll-StmtKind) at all in
        as_fine _ _ (return_plain e at) (act_fine (label_at at) place (StmtKind-F.Return e) (returned_copied e site.result fits_so known_so))

    await_case : (e : Expr) → S (stmt place (StmtKind-F.Await e))
    await_case e fitted all at =
        let truth = and_second (is_activity site.kind) (is_truth (type_of site e)) (rw (fold-roll-Stmt, fold-roll-StmtKind) at fitted) in
        let known_so : Known (prevs_in_expr e) = rw (fold-roll-Stmt, fold-roll-StmtKind) at all in
        as_fine _ _ (await_plain e at)
        (one_more (PauseAt (label_at at) place) (TestAt (label_at at) place e ∷ []) refl
        (one_more (TestAt (label_at at) place e) [] (truth_copied e truth known_so) nothing))

    run_case : (target : Option Path) (a : ℕ) (inputs : List Expr) (outputs : List Path) → S (stmt place (StmtKind-F.Run target a inputs outputs))
    run_case target a inputs outputs fitted all at =
        let fits_so : run_fits site target inputs outputs (slice_get site.earlier a) ≡ true =
        rw (fold-roll-Stmt, fold-roll-StmtKind) at fitted in
        let arguments : List ℕ = joined (map prevs_in_expr inputs) ++ joined (map prevs_in_path outputs) in
        let known_so : Known (target_prevs target ++ arguments) = rw (fold-roll-Stmt, fold-roll-StmtKind) at all in
        let copied_so = ran_copied target inputs outputs (slice_get site.earlier a) fits_so
        (all_right known (target_prevs target) arguments known_so) in
        as_fine _ _ (run_plain target a inputs outputs at)
        (one_more (EnterAt (label_at at) place (arguments_of target inputs outputs))
        (ResumeAt (label_at at) place (arguments_of target inputs outputs) ∷ []) copied_so
        (one_more (ResumeAt (label_at at) place (arguments_of target inputs outputs)) [] refl nothing))

    branching_case : (arms : List Arm) (other : List Stmt) → EachArm S arms → Each S other → S (stmt place (StmtKind-F.If arms other))
    branching_case arms other each others fitted all at =
        let parts = rw (fold-roll-Stmt, fold-roll-StmtKind) at fitted in
        let some = and_first (is_inhabited (map arm_fitted arms)) (all_of (map arm_fitted arms) && all_of (map (fits site) other)) parts in
        let more = and_second (is_inhabited (map arm_fitted arms)) (all_of (map arm_fitted arms) && all_of (map (fits site) other)) parts in
        let known_so : Known (joined (map prevs_in_arm arms) ++ joined (map prevs_in other)) =
        rw (fold-roll-Stmt, fold-roll-StmtKind) at all in
        as_fine _ _ (if_plain arms other at)
        (with_fine (label_at at) place (map plain_arm arms) (block_at (map plain_stmt other)) (some_there arm_fitted plain_arm arms some)
        (arms_fine arms each (and_first (all_of (map arm_fitted arms)) (all_of (map (fits site) other)) more)
        (all_left known (joined (map prevs_in_arm arms)) (joined (map prevs_in other)) known_so))
        (λ at. blocks_fine other others (and_second (all_of (map arm_fitted arms)) (all_of (map (fits site) other)) more)
        (all_right known (joined (map prevs_in_arm arms)) (joined (map prevs_in other)) known_so) 0 at))

    cobegin_case : (branches : List Branch) → EachBranch S branches → S (stmt place (StmtKind-F.Cobegin branches))
    cobegin_case branches each fitted all at =
        let parts = rw (fold-roll-Stmt, fold-roll-StmtKind) at fitted in
        let fits_so = and_second (is_inhabited (map branch_fitted branches)) (all_of (map branch_fitted branches))
        (and_second (is_activity site.kind) (is_inhabited (map branch_fitted branches) && all_of (map branch_fitted branches)) parts) in
        let known_so : Known (joined (map prevs_in_branch branches)) = rw (fold-roll-Stmt, fold-roll-StmtKind) at all in
        let l : Label = label_at at in
        let bodies : Bodies = bodies_from (map plain_branch branches) 0 l in
        as_fine _ _ (cobegin_plain branches at)
        (one_more (ForkAt l place)
        (where_so (is_instant (Cobegin l place bodies)) (SurfaceJoinAt l place) ++ DepthJoinAt l place ∷ nodes_in_each bodies) refl
        (append_fine (where_so (is_instant (Cobegin l place bodies)) (SurfaceJoinAt l place)) (DepthJoinAt l place ∷ nodes_in_each bodies)
        (where_fine (is_instant (Cobegin l place bodies)) (SurfaceJoinAt l place) refl)
        (one_more (DepthJoinAt l place) (nodes_in_each bodies) refl
        (bodies_fine (map plain_branch branches) 0 l (branches_fine branches each fits_so known_so)))))

    guarded_case : (guard : Guard) (e : Expr) (body : List Stmt) → Each S body → S (stmt place (StmtKind-F.When guard e body))
    guarded_case guard e body each fitted all at =
        let parts = and_second (is_activity site.kind) (is_truth (type_of site e) && all_of (map (fits site) body))
        (rw (fold-roll-Stmt, fold-roll-StmtKind) at fitted) in
        let known_so : Known (prevs_in_expr e ++ joined (map prevs_in body)) = rw (fold-roll-Stmt, fold-roll-StmtKind) at all in
        let l : Label = label_at at in
        let inner : Block = block_at (map plain_stmt body) (inside l 0) in
        as_fine _ _ (when_plain guard e body at)
        (one_more (StartAt l place)
        (where_so (are_instant inner) (SurfaceEndAt l place) ++ CheckAt l place e ∷ DepthEndAt l place ∷ nodes_in inner) refl
        (append_fine (where_so (are_instant inner) (SurfaceEndAt l place)) (CheckAt l place e ∷ DepthEndAt l place ∷ nodes_in inner)
        (where_fine (are_instant inner) (SurfaceEndAt l place) refl)
        (one_more (CheckAt l place e) (DepthEndAt l place ∷ nodes_in inner)
        (truth_copied e (and_first (is_truth (type_of site e)) (all_of (map (fits site) body)) parts)
        (all_left known (prevs_in_expr e) (joined (map prevs_in body)) known_so))
        (one_more (DepthEndAt l place) (nodes_in inner) refl
        (blocks_fine body each (and_second (is_truth (type_of site e)) (all_of (map (fits site) body)) parts)
        (all_right known (prevs_in_expr e) (joined (map prevs_in body)) known_so) 0 (inside l 0))))))

    repeat_case : (body : List Stmt) → Each S body → S (stmt place (StmtKind-F.Repeat body))
    repeat_case body each fitted all at =
        let known_so : Known (joined (map prevs_in body)) = rw (fold-roll-Stmt, fold-roll-StmtKind) at all in
        let l : Label = label_at at in
        let inner : Block = block_at (map plain_stmt body) (inside l 0) in
        as_fine _ _ (repeat_plain body at)
        (one_more (HeadAt l place) (nodes_in inner) refl
        (blocks_fine body each (rw (fold-roll-Stmt, fold-roll-StmtKind) at fitted) known_so 0 (inside l 0)))

    until_case : (body : List Stmt) (e : Expr) → Each S body → S (stmt place (StmtKind-F.Until body e))
    until_case body e each fitted all at =
        let parts = rw (fold-roll-Stmt, fold-roll-StmtKind) at fitted in
        let known_so : Known (joined (map prevs_in body) ++ prevs_in_expr e) = rw (fold-roll-Stmt, fold-roll-StmtKind) at all in
        let l : Label = label_at at in
        let inner : Block = block_at (map plain_stmt body) (inside l 0) in
        as_fine _ _ (until_plain body e at)
        (one_more (HeadAt l place) (TestAt l place e ∷ nodes_in inner) refl
        (one_more (TestAt l place e) (nodes_in inner)
        (truth_copied e (and_second (all_of (map (fits site) body)) (is_truth (type_of site e)) parts)
        (all_right known (joined (map prevs_in body)) (prevs_in_expr e) known_so))
        (blocks_fine body each (and_first (all_of (map (fits site) body)) (is_truth (type_of site e)) parts)
        (all_left known (joined (map prevs_in body)) (prevs_in_expr e) known_so) 0 (inside l 0))))

    while_case : (e : Expr) (body : List Stmt) → Each S body → S (stmt place (StmtKind-F.While e body))
    while_case e body each fitted all at =
        let parts = rw (fold-roll-Stmt, fold-roll-StmtKind) at fitted in
        let known_so : Known (prevs_in_expr e ++ joined (map prevs_in body)) = rw (fold-roll-Stmt, fold-roll-StmtKind) at all in
        let l : Label = label_at at in
        let inner : Block = block_at (map plain_stmt body) (inside l 0) in
        as_fine _ _ (while_plain e body at)
        (one_more (TestAt l place e) (nodes_in inner)
        (truth_copied e (and_first (is_truth (type_of site e)) (all_of (map (fits site) body)) parts)
        (all_left known (prevs_in_expr e) (joined (map prevs_in body)) known_so))
        (blocks_fine body each (and_second (is_truth (type_of site e)) (all_of (map (fits site) body)) parts)
        (all_right known (prevs_in_expr e) (joined (map prevs_in body)) known_so) 0 (inside l 0)))

  cases : Cases S
  cases = record {
    declare = declare_case;
    assign = assign_case;
    call = call_case;
    await = await_case;
    run = run_case;
    branching = branching_case;
    cobegin = cobegin_case;
    guarded = guarded_case;
    repeat = repeat_case;
    until = until_case;
    while = while_case;
    returns = return_case;
  }

  -- what is done at the nodes of a body names only what is copied
  pub body_copied : (body : List Stmt) → all_of (map (fits site) body) ≡ true → Known (joined (map prevs_in body)) →
      list_all (is_fine copied) (nodes_in (plain_body body)) ≡ true
  body_copied body fitted all = (blocks_fine body (λ k d within. induct S cases _) fitted all 0 []).all
