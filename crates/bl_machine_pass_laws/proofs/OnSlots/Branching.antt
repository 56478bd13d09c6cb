-- In typed bodies each `cobegin` has a branch.
use Rattle.std.proofs.Common.{◌≡◌, ℕ, zero, suc, Bool, true, ◌&&◌, List, [], ◌∷◌, ◌++◌}
use Rattle.std.proofs.Common.{map, length, Some, refl, sym, subst, ◌∙◌}
use Rattle.std.specs.List.{list_all}
use Rattle.std.specs.Prelude.{slice_get}
use Rattle.std.proofs.lemmas.List.Elements.{All-head, All-tail}
use Rattle.bl_tree.proofs.Basics.{all_of_each, and_first, and_second}
use Rattle.bl_tree.specs.declared.place.Place.{Place}
use Rattle.bl_tree.specs.declared.tree.Arm.{Arm, out-Arm}
use Rattle.bl_tree.specs.declared.tree.Branch.{Branch, out-Branch}
use Rattle.bl_tree.specs.declared.tree.Stmt.{Stmt, fold-roll-Stmt}
use Rattle.bl_tree.specs.declared.tree.StmtKind.{fold-roll-StmtKind}
use Rattle.bl_tree.specs.declared.tree.StmtKind.TheOpen.{StmtKind-F}
use Rattle.bl_tree.specs.declared.tree.StructDef.{StructDef}
use Rattle.bl_tree.specs.declared.tree.Unit.{Unit as UnitDef}
use Rattle.bl_tree.specs.Apart.{is_apart}
use Rattle.bl_tree.specs.Depths.{is_shallow}
use Rattle.bl_tree.specs.Program.{names_of, parameters_of, roles_stand, unit_stands, units_stand_after}
use Rattle.bl_tree.specs.Reduce.{all_of}
use Rattle.bl_tree.specs.Returns.{unit_returns}
use Rattle.bl_tree.specs.Types.{type_stands}
use Rattle.bl_tree.specs.Typing.{TypingContext, fits, is_activity, is_inhabited, is_truth, kind_fits, site_of, type_of}
use Rattle.bl_tree.specs.Words.{are_distinct, is_name}
use Rattle.bl_tree.proofs.StmtInduction.{Cases, Each, EachArm, EachBranch, induct, stmt}
use Rattle.bl_graph_nodes.specs.Laws.{plain_arm, plain_branch}
use Rattle.bl_graph_nodes.specs.Plain.{If, Label, Plain, Position, block_from, bodies_from, else_at, inside, label_at, never, passed_one, plain_stmt}
use Rattle.bl_graph_nodes.specs.Plain.{plain_block, plain_body}
use Rattle.bl_graph_nodes.proofs.Equations.{plain_statements}
use Rattle.bl_ctree_laws_confluence.proofs.OnApart.Told.{ArmsFit, BranchesFit, Fit, branch_fitted, arm_fitted, fit_arm, fit_arms, fit_at, fit_branch}
use Rattle.bl_ctree_laws_confluence.proofs.OnApart.Told.{fit_branches, fit_first, fit_parts, fit_rest}
use Rattle.bl_machine_pass_laws.specs.Slots.Branches.{BranchesInEach, BranchesOf, EachBranches, HasBranch}

module _ (site : TypingContext) where
  -- where the statement fits
  abbrev Branched : Stmt → Type 0
  Branched s = fits site s ≡ true → (at : Position) → BranchesOf (plain_stmt s at)

  block_branched : (body : List Stmt) (k : ℕ) (block : Position) → Each Branched body → Fit site body →
      EachBranches (block_from (map plain_stmt body) k block)
  block_branched [] k block each fit = tt
  block_branched (s ∷ rest) k block each fit = (
    All-head Branched s rest each (fit_first site s rest fit) (block ++ k ∷ []),
    block_branched rest (suc k) block (All-tail Branched s rest each) (fit_rest site s rest fit),
  )

  inner : (body : List Stmt) (l : Label) (k : ℕ) → Each Branched body → Fit site body → EachBranches (plain_block body (inside l k))
  inner body l k each fit = block_branched body 0 (inside l k) each fit

  arms_branched : (l : Label) (arms : List Arm) (other : List Stmt) → EachArm Branched arms → ArmsFit site arms → Each Branched other →
      Fit site other →
      EachBranches (else_at l (map plain_arm arms) (plain_block other))
  arms_branched l [] other each fit others fit_other = inner other l l.passed others fit_other
  arms_branched l (arm ∷ rest) other each fit others fit_other = (
    (
      inner (out-Arm arm).body l l.passed (All-head (λ arm. Each Branched (out-Arm arm).body) arm rest each)
          (fit_arm site arm (and_first (arm_fitted site arm) (all_of (map (arm_fitted site) rest)) fit)),
      arms_branched (passed_one l) rest other (All-tail (λ arm. Each Branched (out-Arm arm).body) arm rest each)
          (and_second (arm_fitted site arm) (all_of (map (arm_fitted site) rest)) fit) others fit_other,
    ),
    tt,
  )

  bodies_branched : (branches : List Branch) (k : ℕ) (l : Label) → EachBranch Branched branches → BranchesFit site branches →
      BranchesInEach (bodies_from (map plain_branch branches) k l)
  bodies_branched [] k l each fit = tt
  bodies_branched (b ∷ rest) k l each fit = (
    inner (out-Branch b).body l k (All-head (λ b. Each Branched (out-Branch b).body) b rest each)
        (fit_branch site b (and_first (branch_fitted site b) (all_of (map (branch_fitted site) rest)) fit)),
    bodies_branched rest (suc k) l (All-tail (λ b. Each Branched (out-Branch b).body) b rest each)
        (and_second (branch_fitted site b) (all_of (map (branch_fitted site) rest)) fit),
  )

  of_plain : (one other : Plain) → one ≡ other → BranchesOf other → BranchesOf one
  of_plain one other is has = subst (λ s. BranchesOf s) (sym is) has

  has_branch : (branches : List Branch) (k : ℕ) (l : Label) → is_inhabited (map (branch_fitted site) branches) ≡ true →
      HasBranch (bodies_from (map plain_branch branches) k l)
  has_branch [] k l some = absurd cc
  has_branch (b ∷ rest) k l some = tt

  no_arms : (place : Place) (other : List Stmt) (at : Position) → plain_stmt (stmt place (StmtKind-F.If [] other)) at
      ≡ If (label_at at) place (never place) (plain_block other (inside (label_at at) 0)) (plain_block other (inside (label_at at) 1))
  no_arms place other at = rw (fold-roll-Stmt, fold-roll-StmtKind) refl

  branching_branched : (place : Place) (arms : List Arm) (other : List Stmt) → EachArm Branched arms → Each Branched other →
      Branched (stmt place (StmtKind-F.If arms other))
  branching_branched place [] other each others fit at =
      let both = fit_arms site [] other (sym (fit_at site place (StmtKind-F.If [] other)) ∙ fit) in
      of_plain _ _ (no_arms place other at) (inner other (label_at at) 0 others both.1, inner other (label_at at) 1 others both.1)
  branching_branched place (arm ∷ rest) other each others fit at =
      let both = fit_arms site (arm ∷ rest) other (sym (fit_at site place (StmtKind-F.If (arm ∷ rest) other)) ∙ fit) in
      of_plain _ _ (plain_statements.branching place at arm rest other) (
        inner (out-Arm arm).body (label_at at) 0 (All-head (λ arm. Each Branched (out-Arm arm).body) arm rest each)
            (fit_arm site arm (and_first (arm_fitted site arm) (all_of (map (arm_fitted site) rest)) both.0)),
        arms_branched (passed_one (label_at at)) rest other (All-tail (λ arm. Each Branched (out-Arm arm).body) arm rest each)
            (and_second (arm_fitted site arm) (all_of (map (arm_fitted site) rest)) both.0) others both.1,
      )

  cobegin_branched : (place : Place) (branches : List Branch) → EachBranch Branched branches → Branched (stmt place (StmtKind-F.Cobegin branches))
  cobegin_branched place branches each fit at =
      let parts : kind_fits site (fit_parts site (StmtKind-F.Cobegin branches)) ≡ true = sym (fit_at site place (StmtKind-F.Cobegin branches)) ∙ fit in
      let some : is_inhabited (map (branch_fitted site) branches) ≡ true =
      and_first (is_inhabited (map (branch_fitted site) branches)) (all_of (map (branch_fitted site) branches))
      (and_second (is_activity site.kind) (is_inhabited (map (branch_fitted site) branches) && all_of (map (branch_fitted site) branches)) parts) in
      of_plain _ _ (plain_statements.parallel place at branches)
      (has_branch branches 0 (label_at at) some, bodies_branched branches 0 (label_at at) each (fit_branches site branches parts))

  cases : Cases Branched
  cases = record {
    declare = λ place k initial fit at. of_plain _ _ (plain_statements.declaration place at k initial) tt;
    assign = λ place path e fit at. of_plain _ _ (plain_statements.assignment place at path e) tt;
    call = λ place f inputs outputs fit at. of_plain _ _ (plain_statements.call place at f inputs outputs) tt;
    await = λ place e fit at. of_plain _ _ (plain_statements.pause place at e) tt;
    run = λ place target a inputs outputs fit at. of_plain _ _ (plain_statements.run place at target a inputs outputs) tt;
    branching = branching_branched;
    cobegin = cobegin_branched;
    guarded = λ place guard e body each fit at. of_plain _ _ (plain_statements.guarded place at guard e body)
        (inner body (label_at at) 0 each
        (and_second (is_truth (type_of site e)) (all_of (map (fits site) body))
        (and_second (is_activity site.kind) (is_truth (type_of site e) && all_of (map (fits site) body))
        (sym (fit_at site place (StmtKind-F.When guard e body)) ∙ fit))));
    repeat = λ place body each fit at. of_plain _ _ (plain_statements.endless place at body)
        (inner body (label_at at) 0 each (sym (fit_at site place (StmtKind-F.Repeat body)) ∙ fit));
    until = λ place body e each fit at. of_plain _ _ (plain_statements.until place at body e)
        (inner body (label_at at) 0 each
        (and_first (all_of (map (fits site) body)) (is_truth (type_of site e)) (sym (fit_at site place (StmtKind-F.Until body e)) ∙ fit)));
    while = λ place e body each fit at. of_plain _ _ (plain_statements.while place at e body)
        (inner body (label_at at) 0 each
        (and_second (is_truth (type_of site e)) (all_of (map (fits site) body)) (sym (fit_at site place (StmtKind-F.While e body)) ∙ fit)));
    returns = λ place e fit at. of_plain _ _ (plain_statements.returns place at e) tt;
  }

  branched : (s : Stmt) → Branched s
  branched = induct Branched cases

  each_branched : (body : List Stmt) → Each Branched body
  each_branched body k s lt = branched _

  -- in a typed block
  pub body_branched : (body : List Stmt) → Fit site body → EachBranches (plain_body body)
  body_branched body fit = block_branched body 0 [] (each_branched body) fit

-- ---- typed bodies, unit by unit

body_typed : (structs : List StructDef) (earlier : List UnitDef) (unit : UnitDef) → unit_stands structs earlier unit ≡ true →
    Fit (site_of structs earlier unit) unit.body
body_typed structs earlier unit stands =
    let named : Bool = list_all is_name (names_of unit.vars) && are_distinct (names_of (parameters_of unit)) in
    let types : Bool = list_all (λ var. type_stands (length structs) var.ty) unit.vars in
    let fit : Bool = list_all (fits (site_of structs earlier unit)) unit.body in
    let flat : Bool = is_shallow 200 unit.body in
    let apart : Bool = list_all is_apart unit.body in
    all_of_each (fits (site_of structs earlier unit)) unit.body
    (and_first fit (unit_returns unit && (flat && apart))
    (and_second types (fit && (unit_returns unit && (flat && apart)))
    (and_second (roles_stand unit && named) (types && (fit && (unit_returns unit && (flat && apart)))) stands)))

pub unit_branched : (structs : List StructDef) (earlier units : List UnitDef) (k : ℕ) (unit : UnitDef) → units_stand_after structs earlier units
    ≡ true →
    slice_get units k ≡ Some unit → EachBranches (plain_body unit.body)
unit_branched structs earlier [] k unit stand there = absurd cc
unit_branched structs earlier (first ∷ units) zero unit stand there =
    let same : first ≡ unit = cc in
    subst (λ (u : UnitDef). EachBranches (plain_body u.body)) same
    (body_branched (site_of structs earlier first) first.body
    (body_typed structs earlier first (and_first (unit_stands structs earlier first) (units_stand_after structs (earlier ++ first ∷ []) units) stand)))
unit_branched structs earlier (first ∷ units) (suc k) unit stand there =
    unit_branched structs (earlier ++ first ∷ []) units k unit
    (and_second (unit_stands structs earlier first) (units_stand_after structs (earlier ++ first ∷ []) units) stand) there
