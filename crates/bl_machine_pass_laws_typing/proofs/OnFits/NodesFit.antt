-- The nodes of bodies that fit: acts fit, and `run`s give what they call inputs and outputs of its types, and take a result of its type.
use Rattle.std.proofs.Common.{◌≡◌, ℕ, suc, Bool, true, false, ◌&&◌, List, [], ◌∷◌, ◌++◌, map, get_or, Option, Some, None}
use Rattle.std.proofs.Common.{refl, sym, ◌∙◌, subst}
use Rattle.std.specs.Prelude.{slice_get, ⊤}
use Rattle.std.proofs.lemmas.List.Elements.{All-head, All-tail}
use Rattle.bl_tree.proofs.Basics.{and_first, and_second}
use Rattle.bl_tree.specs.declared.place.Place.{Place}
use Rattle.bl_tree.specs.declared.tree.Arm.{Arm, fold-Arm, fold_out-Arm, out-Arm}
use Rattle.bl_tree.specs.declared.tree.Branch.{Branch, fold-Branch, fold_out-Branch, out-Branch}
use Rattle.bl_tree.specs.declared.tree.Expr.{Expr}
use Rattle.bl_tree.specs.declared.tree.Path.{Path}
use Rattle.bl_tree.specs.declared.tree.Stmt.{Stmt, fold-roll-Stmt}
use Rattle.bl_tree.specs.declared.tree.StmtKind.{StmtKind, fold-StmtKind, fold-roll-StmtKind, map-StmtKind}
use Rattle.bl_tree.specs.declared.tree.StmtKind.TheOpen.{StmtKind-F}
use Rattle.bl_tree.specs.declared.tree.Unit.{Unit as UnitDef}
use Rattle.bl_tree.specs.Reduce.{all_of, joined}
use Rattle.bl_tree.specs.Static.{static_of}
use Rattle.bl_tree.specs.Typing.{TypingContext, arm_fits, branch_fits, fits, inputs_of, is_activity, is_inhabited, is_outlet, is_truth, kind_fits}
use Rattle.bl_tree.specs.Typing.{outputs_of, run_fits, stmt_fits, target_fits, type_of, type_of_path, types_match}
use Rattle.bl_tree.proofs.StmtInduction.{Cases, Each, EachArm, EachBranch, induct, stmt}
use Rattle.bl_graph_nodes.specs.Laws.{plain_arm, plain_branch}
use Rattle.bl_graph_nodes.specs.Nodes.{ActAt, Arguments, CheckAt, DepthEndAt, DepthJoinAt, EnterAt, Node, ResumeAt, SurfaceEndAt, SurfaceJoinAt, are_instant}
use Rattle.bl_graph_nodes.specs.Nodes.{arguments_of, is_instant, nodes_in, nodes_in_each, nodes_of, where_so}
use Rattle.bl_graph_nodes.specs.Plain.{Plain, Position, block_from, bodies_from, else_at, inside, label_at, passed_one, plain_block, plain_body, plain_stmt}
use Rattle.bl_graph_nodes.specs.Plain.{Cobegin, Label}
use Rattle.bl_graph_nodes.proofs.Equations.{plain_statements}
use Rattle.bl_ctree.specs.declared.instance.Run.{Run}
use Rattle.bl_ctree.specs.Instances.{arm_runs, branch_runs, kind_runs, runs_in, runs_in_arm, runs_in_branch, stmt_layer_runs}
use Rattle.bl_ctree_laws_confluence.proofs.OnDeeds.Activities.{AllOf, all_both}
use Rattle.bl_ctree_laws_confluence.proofs.OnDeeds.Aliases.{of_first, of_second}

-- a `run` of this kind at the place, of which C holds
pub record RunFits (site : TypingContext) (C : Run → Type 0) (at : Place) (arguments : Arguments) : Type 0 where
  pub named : ℕ
  pub holds : C (record { place = at; unit = named; outputs = map static_of arguments.outputs })
  pub callee : UnitDef
  pub there : slice_get site.earlier named ≡ Some callee
  pub target : target_fits site callee.result arguments.target ≡ true
  pub inputs : types_match (map (type_of site) arguments.inputs) (inputs_of callee) ≡ true
  pub outputs : types_match (map (type_of_path site) arguments.outputs) (outputs_of callee) ≡ true
  pub outlets : all_of (map (is_outlet site) arguments.outputs) ≡ true

-- what a node keeps
abbrev pub NodeFits : TypingContext → (Run → Type 0) → Node → Type 0
NodeFits site C (ActAt l s) = fits site s ≡ true
NodeFits site C (EnterAt l at arguments) = RunFits site C at arguments
NodeFits site C (ResumeAt l at arguments) = RunFits site C at arguments
NodeFits site C _ = ⊤

pub all_where : (P : Node → Type 0) (b : Bool) (n : Node) → P n → AllOf P (where_so b n)
all_where P true n one = (one, tt)
all_where P false n one = tt

module _ (site : TypingContext) (C : Run → Type 0) where
  abbrev N : Node → Type 0
  N = NodeFits site C

  abbrev S : Stmt → Type 0
  S s = fits site s ≡ true → AllOf C (runs_in s) → (at : Position) → AllOf N (nodes_of (plain_stmt s at))

  block_so : (body : List Stmt) (k : ℕ) (block : Position) → Each S body → all_of (map (fits site) body) ≡ true →
      AllOf C (joined (map runs_in body)) → AllOf N (nodes_in (block_from (map plain_stmt body) k block))
  block_so [] k block each fitted all = tt
  block_so (s ∷ rest) k block each fitted all =
      all_both N (nodes_of (plain_stmt s (block ++ k ∷ []))) (nodes_in (block_from (map plain_stmt rest) (suc k) block))
      (All-head S s rest each (and_first (fits site s) (all_of (map (fits site) rest)) fitted)
      (of_first C (runs_in s) (joined (map runs_in rest)) all) (block ++ k ∷ []))
      (block_so rest (suc k) block (All-tail S s rest each) (and_second (fits site s) (all_of (map (fits site) rest)) fitted)
      (of_second C (runs_in s) (joined (map runs_in rest)) all))

  abbrev arm_fitted : Arm → Bool
  arm_fitted = fold-Arm Bool Bool Bool Bool (kind_fits site) (arm_fits site) branch_fits stmt_fits

  abbrev branch_fitted : Branch → Bool
  branch_fitted = fold-Branch Bool Bool Bool Bool (kind_fits site) (arm_fits site) branch_fits stmt_fits

  arm_has : (arm : Arm) → AllOf C (runs_in_arm arm) → AllOf C (joined (map runs_in (out-Arm arm).body))
  arm_has arm all =
      subst (AllOf C) (fold_out-Arm (Place → List Run) (List Run) (List Run) (List Run) kind_runs arm_runs branch_runs stmt_layer_runs arm) all

  branch_has : (branch : Branch) → AllOf C (runs_in_branch branch) → AllOf C (joined (map runs_in (out-Branch branch).body))
  branch_has branch all =
      subst (AllOf C) (fold_out-Branch (Place → List Run) (List Run) (List Run)
      (List Run) kind_runs arm_runs branch_runs stmt_layer_runs branch) all

  arm_inner : (arm : Arm) → arm_fitted arm ≡ true → all_of (map (fits site) (out-Arm arm).body) ≡ true
  arm_inner arm fitted =
      and_second (is_truth (type_of site (out-Arm arm).test)) (all_of (map (fits site) (out-Arm arm).body))
      (sym (fold_out-Arm Bool Bool Bool Bool (kind_fits site) (arm_fits site) branch_fits stmt_fits arm) ∙ fitted)

  branch_inner : (branch : Branch) → branch_fitted branch ≡ true → all_of (map (fits site) (out-Branch branch).body) ≡ true
  branch_inner branch fitted = sym (fold_out-Branch Bool Bool Bool Bool (kind_fits site) (arm_fits site) branch_fits stmt_fits branch) ∙ fitted

  inner_so : (body : List Stmt) (l : Label) (k : ℕ) → Each S body → all_of (map (fits site) body) ≡ true →
      AllOf C (joined (map runs_in body)) → AllOf N (nodes_in (plain_block body (inside l k)))
  inner_so body l k each fitted all = block_so body 0 (inside l k) each fitted all

  arms_so : (at : Label) (arms : List Arm) (other : List Stmt) → EachArm S arms → Each S other → all_of (map arm_fitted arms) ≡ true →
      all_of (map (fits site) other) ≡ true → AllOf C (joined (map runs_in_arm arms)) → AllOf C (joined (map runs_in other)) →
      AllOf N (nodes_in (else_at at (map plain_arm arms) (plain_block other)))
  arms_so at [] other each others fitted last all rest = inner_so other at at.passed others last rest
  arms_so at (arm ∷ arms) other each others fitted last all rest = (
    tt,
    all_both N (nodes_in (plain_block (out-Arm arm).body (inside at at.passed))
        ++ nodes_in (else_at (passed_one at) (map plain_arm arms) (plain_block other))) []
        (all_both N (nodes_in (plain_block (out-Arm arm).body (inside at at.passed)))
        (nodes_in (else_at (passed_one at) (map plain_arm arms) (plain_block other)))
        (inner_so (out-Arm arm).body at at.passed (All-head (λ arm. Each S (out-Arm arm).body) arm arms each)
        (arm_inner arm (and_first (arm_fitted arm) (all_of (map arm_fitted arms)) fitted))
        (arm_has arm (of_first C (runs_in_arm arm) (joined (map runs_in_arm arms)) all)))
        (arms_so (passed_one at) arms other (All-tail (λ arm. Each S (out-Arm arm).body) arm arms each) others
        (and_second (arm_fitted arm) (all_of (map arm_fitted arms)) fitted) last
        (of_second C (runs_in_arm arm) (joined (map runs_in_arm arms)) all) rest)) tt,
  )

  branches_so : (branches : List Branch) (k : ℕ) (at : Label) → EachBranch S branches → all_of (map branch_fitted branches) ≡ true →
      AllOf C (joined (map runs_in_branch branches)) → AllOf N (nodes_in_each (bodies_from (map plain_branch branches) k at))
  branches_so [] k at each fitted all = tt
  branches_so (branch ∷ rest) k at each fitted all =
      all_both N (nodes_in (plain_block (out-Branch branch).body (inside at k))) (nodes_in_each (bodies_from (map plain_branch rest) (suc k) at))
      (inner_so (out-Branch branch).body at k (All-head (λ branch. Each S (out-Branch branch).body) branch rest each)
      (branch_inner branch (and_first (branch_fitted branch) (all_of (map branch_fitted rest)) fitted))
      (branch_has branch (of_first C (runs_in_branch branch) (joined (map runs_in_branch rest)) all)))
      (branches_so rest (suc k) at (All-tail (λ branch. Each S (out-Branch branch).body) branch rest each)
      (and_second (branch_fitted branch) (all_of (map branch_fitted rest)) fitted)
      (of_second C (runs_in_branch branch) (joined (map runs_in_branch rest)) all))

  abbrev fit_parts : StmtKind-F StmtKind Arm Branch Stmt → StmtKind-F Bool Bool Bool Bool
  fit_parts = map-StmtKind StmtKind Arm Branch Stmt Bool Bool Bool Bool
      (fold-StmtKind Bool Bool Bool Bool (kind_fits site) (arm_fits site) branch_fits stmt_fits) arm_fitted branch_fitted (fits site)

  fit_at : (place : Place) (layer : StmtKind-F StmtKind Arm Branch Stmt) → fits site (stmt place layer) ≡ kind_fits site (fit_parts layer)
  fit_at place layer = rw (fold-roll-Stmt, fold-roll-StmtKind) refl

  abbrev run_parts : StmtKind-F StmtKind Arm Branch Stmt → StmtKind-F (Place → List Run) (List Run) (List Run) (List Run)
  run_parts = map-StmtKind StmtKind Arm Branch Stmt (Place → List Run) (List Run) (List Run) (List Run)
      (fold-StmtKind (Place → List Run) (List Run) (List Run)
      (List Run) kind_runs arm_runs branch_runs stmt_layer_runs) runs_in_arm runs_in_branch runs_in

  runs_at : (place : Place) (layer : StmtKind-F StmtKind Arm Branch Stmt) → runs_in (stmt place layer) ≡ kind_runs (run_parts layer) place
  runs_at place layer = rw (fold-roll-Stmt, fold-roll-StmtKind) refl

  by_parts : (place : Place) (layer : StmtKind-F StmtKind Arm Branch Stmt) →
      (kind_fits site (fit_parts layer) ≡ true → AllOf C (kind_runs (run_parts layer) place) → (at : Position) →
      AllOf N (nodes_of (plain_stmt (stmt place layer) at))) → S (stmt place layer)
  by_parts place layer gives fitted all = gives (sym (fit_at place layer) ∙ fitted) (subst (AllOf C) (runs_at place layer) all)

  abbrev AllNodes : Plain → Type 0
  AllNodes s = AllOf N (nodes_of s)

  run_so : (place : Place) (target : Option Path) (a : ℕ) (inputs : List Expr) (outputs : List Path) (found : Option UnitDef) →
      slice_get site.earlier a ≡ found → run_fits site target inputs outputs found ≡ true →
      C (record { place = place; unit = a; outputs = map static_of outputs }) → RunFits site C place (arguments_of target inputs outputs)
  run_so place target a inputs outputs None there fitted holds = absurd cc
  run_so place target a inputs outputs (Some callee) there fitted holds =
      let ins : Bool = types_match (map (type_of site) inputs) (inputs_of callee) in
      let outs : Bool = types_match (map (type_of_path site) outputs) (outputs_of callee) in
      let may : Bool = all_of (map (is_outlet site) outputs) in
      let others : Bool = outs && may in
      let given : Bool = target_fits site callee.result target in
      let two : (given && (ins && others)) ≡ true =
      and_second (is_activity site.kind && is_activity callee.kind) (given && (ins && others)) fitted in record {
        named = a;
        holds = holds;
        callee = callee;
        there = there;
        target = and_first given (ins && others) two;
        inputs = and_first ins others (and_second given (ins && others) two);
        outputs = and_first outs may (and_second ins others (and_second given (ins && others) two));
        outlets = and_second outs may (and_second ins others (and_second given (ins && others) two));
      }

  branching_so : (place : Place) (arms : List Arm) (other : List Stmt) → EachArm S arms → Each S other →
      S (stmt place (StmtKind-F.If arms other))
  branching_so place [] other each others = by_parts place (StmtKind-F.If [] other) (λ fitted all at. absurd (no_arm fitted))
    where
      no_arm : (is_inhabited (map arm_fitted []) && (all_of (map arm_fitted []) && all_of (map (fits site) other))) ≡ true → ⊥
      no_arm e = absurd cc
  branching_so place (arm ∷ rest) other each others = by_parts place (StmtKind-F.If (arm ∷ rest) other) (λ fitted all at.
      let choices : Bool = all_of (map arm_fitted (arm ∷ rest)) in
      let last : Bool = all_of (map (fits site) other) in
      let fitting : (choices && last) ≡ true = and_second (is_inhabited (map arm_fitted (arm ∷ rest))) (choices && last) fitted in
      let arms = of_first C (joined (map runs_in_arm (arm ∷ rest))) (joined (map runs_in other)) all in
      let lasts = of_second C (joined (map runs_in_arm (arm ∷ rest))) (joined (map runs_in other)) all in
      let chosen = and_first choices last fitting in
      subst AllNodes (sym (plain_statements.branching place at arm rest other)) (
        tt,
        all_both N (nodes_in (plain_block (out-Arm arm).body (inside (label_at at) 0)))
            (nodes_in (else_at (passed_one (label_at at)) (map plain_arm rest) (plain_block other)))
            (inner_so (out-Arm arm).body (label_at at) 0 (All-head (λ arm. Each S (out-Arm arm).body) arm rest each)
            (arm_inner arm (and_first (arm_fitted arm) (all_of (map arm_fitted rest)) chosen))
            (arm_has arm (of_first C (runs_in_arm arm) (joined (map runs_in_arm rest)) arms)))
            (arms_so (passed_one (label_at at)) rest other (All-tail (λ arm. Each S (out-Arm arm).body) arm rest each) others
            (and_second (arm_fitted arm) (all_of (map arm_fitted rest)) chosen) (and_second choices last fitting)
            (of_second C (runs_in_arm arm) (joined (map runs_in_arm rest)) arms) lasts),
      ))

  stmt_cases : Cases S
  stmt_cases = record {
    declare = λ place k initial fitted all at. subst AllNodes (sym (plain_statements.declaration place at k initial)) (fitted, tt);
    assign = λ place path e fitted all at. subst AllNodes (sym (plain_statements.assignment place at path e)) (fitted, tt);
    call = λ place f inputs outputs fitted all at. subst AllNodes (sym (plain_statements.call place at f inputs outputs)) (fitted, tt);
    await = λ place e fitted all at. subst AllNodes (sym (plain_statements.pause place at e)) (tt, (tt, tt));
    run = λ place target a inputs outputs. by_parts place (StmtKind-F.Run target a inputs outputs) (λ fitted all at.
        let one = run_so place target a inputs outputs (slice_get site.earlier a) refl fitted all.0 in
        subst AllNodes (sym (plain_statements.run place at target a inputs outputs)) (one, (one, tt)));
    branching = branching_so;
    cobegin = λ place branches each. by_parts place (StmtKind-F.Cobegin branches) (λ fitted all at.
        let some : Bool = is_inhabited (map branch_fitted branches) in
        let within : Bool = all_of (map branch_fitted branches) in
        subst AllNodes (sym (plain_statements.parallel place at branches)) (
          tt,
          all_both N
              (where_so (is_instant (Cobegin (label_at at) place (bodies_from (map plain_branch branches) 0 (label_at at))))
              (SurfaceJoinAt (label_at at) place))
              (DepthJoinAt (label_at at) place ∷ nodes_in_each (bodies_from (map plain_branch branches) 0 (label_at at)))
              (all_where N (is_instant (Cobegin (label_at at) place (bodies_from (map plain_branch branches) 0 (label_at at))))
              (SurfaceJoinAt (label_at at) place) tt)
              (tt, branches_so branches 0 (label_at at) each (and_second some within (and_second (is_activity site.kind) (some && within) fitted)) all),
        ));
    guarded = λ place guard e body each. by_parts place (StmtKind-F.When guard e body) (λ fitted all at.
        let tested : Bool = is_truth (type_of site e) in
        let within : Bool = all_of (map (fits site) body) in
        subst AllNodes (sym (plain_statements.guarded place at guard e body)) (
          tt,
          all_both N (where_so (are_instant (plain_block body (inside (label_at at) 0))) (SurfaceEndAt (label_at at) place))
              (CheckAt (label_at at) place e ∷ DepthEndAt (label_at at) place ∷ nodes_in (plain_block body (inside (label_at at) 0)))
              (all_where N (are_instant (plain_block body (inside (label_at at) 0))) (SurfaceEndAt (label_at at) place) tt) (
                tt,
                (
                  tt,
                  inner_so body (label_at at) 0 each (and_second tested within (and_second (is_activity site.kind) (tested && within) fitted)) all,
                ),
              ),
        ));
    repeat = λ place body each. by_parts place (StmtKind-F.Repeat body) (λ fitted all at.
        subst AllNodes (sym (plain_statements.endless place at body)) (tt, inner_so body (label_at at) 0 each fitted all));
    until = λ place body e each. by_parts place (StmtKind-F.Until body e) (λ fitted all at.
        subst AllNodes (sym (plain_statements.until place at body e)) (
          tt,
          (tt, inner_so body (label_at at) 0 each (and_first (all_of (map (fits site) body)) (is_truth (type_of site e)) fitted) all),
        ));
    while = λ place e body each. by_parts place (StmtKind-F.While e body) (λ fitted all at.
        subst AllNodes (sym (plain_statements.while place at e body))
        (tt, inner_so body (label_at at) 0 each (and_second (is_truth (type_of site e)) (all_of (map (fits site) body)) fitted) all));
    returns = λ place e fitted all at. subst AllNodes (sym (plain_statements.returns place at e)) (fitted, tt);
  }

  -- the nodes of a body that fits, of whose `run`s C holds
  pub body_nodes : (body : List Stmt) → all_of (map (fits site) body) ≡ true → AllOf C (joined (map runs_in body)) →
      AllOf N (nodes_in (plain_body body))
  body_nodes body fitted all = block_so body 0 [] (λ k d within. induct S stmt_cases (get_or body k d)) fitted all
