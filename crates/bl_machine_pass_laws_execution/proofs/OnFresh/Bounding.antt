-- In typed bodies declarations are of variables behind the parameters, and `run`s give no more inputs than there are parameters.
use Rattle.std.proofs.Common.{◌≡◌, ◌⊎◌, inl, inr, ℕ, zero, suc, ◌+◌, ◌-◌, ◌<◌, ◌≤◌, Bool, true, false, ◌&&◌, ◌||◌, ◌++◌, List, []}
use Rattle.std.proofs.Common.{◌∷◌, map, take, drop, length, get_or, Option, Some, None, refl, sym, ap, ◌∙◌, subst, arith}
use Rattle.std.proofs.lemmas.Bool.{leb-true, ltb-false, ltb-true}
use Rattle.std.proofs.lemmas.List.Elements.{All-head, All-tail}
use Rattle.std.proofs.lemmas.Option.{slice_get_within}
use Rattle.std.specs.List.{list_all}
use Rattle.std.specs.Prelude.{nat_le, nat_lt, option_and_then, slice_get}
use Rattle.bl_tree.proofs.Basics.{and_first, and_second, contains_at, map_length, one_some}
use Rattle.bl_tree.specs.declared.place.Place.{Place}
use Rattle.bl_tree.specs.declared.tree.Arm.{Arm, fold-Arm, fold_out-Arm, out-Arm}
use Rattle.bl_tree.specs.declared.tree.Branch.{Branch, fold-Branch, fold_out-Branch, out-Branch}
use Rattle.bl_tree.specs.declared.tree.Expr.{Expr}
use Rattle.bl_tree.specs.declared.tree.Path.{Path}
use Rattle.bl_tree.specs.declared.tree.Role.{Role}
use Rattle.bl_tree.specs.declared.tree.Role.TheVariants.{Input, Output, Variable, Fixed}
use Rattle.bl_tree.specs.declared.tree.Stmt.{Stmt, fold-roll-Stmt, out-Stmt, out-roll-Stmt}
use Rattle.bl_tree.specs.declared.tree.StmtKind.{StmtKind, fold-StmtKind, fold-roll-StmtKind, map-StmtKind}
use Rattle.bl_tree.specs.declared.tree.StmtKind.{out-StmtKind, out-roll-StmtKind, roll-StmtKind}
use Rattle.bl_tree.specs.declared.tree.StmtKind.TheOpen.{StmtKind-F}
use Rattle.bl_tree.specs.declared.tree.StructDef.{StructDef}
use Rattle.bl_tree.specs.declared.tree.Ty.{Ty}
use Rattle.bl_tree.specs.declared.tree.Unit.{Unit as UnitDef}
use Rattle.bl_tree.specs.declared.tree.Var.{Var}
use Rattle.bl_tree.specs.Apart.{is_apart}
use Rattle.bl_tree.specs.Depths.{is_shallow}
use Rattle.bl_tree.specs.Program.{is_input, is_output, locals_of, names_of, parameters_of, roles_stand, unit_stands}
use Rattle.bl_tree.specs.Reduce.{all_of, joined}
use Rattle.bl_tree.specs.Returns.{unit_returns}
use Rattle.bl_tree.specs.Static.{static_of}
use Rattle.bl_tree.specs.Types.{same_type, type_stands}
use Rattle.bl_tree.specs.Typing.{TypingContext, are_same, arguments_fit, arm_fits, branch_fits, declaration_fits, fits, inputs_of, is_activity, is_fixed}
use Rattle.bl_tree.specs.Typing.{is_inhabited, is_outlet, is_truth, is_variable, kind_fits, outputs_of, run_fits, site_of, stmt_fits, target_fits, type_of}
use Rattle.bl_tree.specs.Typing.{type_of_path, types_match, var_at}
use Rattle.bl_tree.specs.Words.{are_distinct, is_name}
use Rattle.bl_tree.proofs.StmtInduction.{Cases, Each, EachArm, EachBranch, induct, stmt}
use Rattle.bl_graph_nodes.specs.Laws.{plain_arm, plain_branch}
use Rattle.bl_graph_nodes.specs.Plain.{Label, Position, block_from, bodies_from, else_at, inside, label_at, passed_one, plain_block, plain_body, plain_stmt}
use Rattle.bl_graph_nodes.proofs.Equations.{plain_statements}
use Rattle.bl_machine_prevs.specs.Declared.{declared_in, declared_kind}
use Rattle.bl_ctree.specs.declared.instance.Instance.{Instance}
use Rattle.bl_ctree.specs.declared.instance.Run.{Run}
use Rattle.bl_ctree.specs.Instances.{Setting, arm_runs, branch_runs, callee_of, kind_runs, runs_in, runs_in_arm, runs_in_branch, setting_of, stmt_layer_runs}
use Rattle.bl_ctree.specs.Instances.{unit_at, unit_of}
use Rattle.bl_ctree_laws_confluence.specs.Deeds.Origins.{InstancesHaveCallers}
use Rattle.bl_ctree_laws_confluence.proofs.OnDeeds.Activities.{AllOf}
use Rattle.bl_machine_pass_laws_execution.specs.Fresh.Asks.{Bounded, BoundedAll, BoundedEach, InputsFit, IsAmongVariables}
use Rattle.bl_machine_pass_laws_execution.specs.Fresh.Fresh.{arity, locals}
use Rattle.bl_machine_pass_laws_execution.specs.Fresh.Laws.{BodiesAsk}
use Rattle.bl_machine_pass_laws_execution.proofs.OnFresh.Lists.{among_by, in_range, none_among}
use Rattle.bl_machine_pass_laws_execution.proofs.OnFresh.Naming.{BeginsNamed, body_named}
use Rattle.bl_eval.proofs.UnitFits.{unit_at as unit_stands_at}
use Rattle.bl_ctree_laws_confluence.proofs.OnDeeds.Activities.{taken}
use Rattle.bl_ctree_laws_confluence.proofs.OnDeeds.Aliases.{of_first, of_second}
use Rattle.bl_machine_laws.proofs.OnRests.Whole.{body_fits}

-- ---- inputs

matched_length : (types : List (Option Ty)) (vars : List Var) → types_match types vars ≡ true → length types ≡ length vars
matched_length [] [] e = refl
matched_length [] (var ∷ vars) e = absurd cc
matched_length (Some ty ∷ types) (var ∷ vars) e = ap suc (matched_length types vars (and_second (same_type ty var.ty) (types_match types vars) e))
matched_length (Some ty ∷ types) [] e = absurd cc
matched_length (None ∷ types) [] e = absurd cc
matched_length (None ∷ types) (var ∷ vars) e = absurd cc

taken_length : {A : Type 0} (n : ℕ) (xs : List A) → length (take n xs) ≤ n
taken_length zero xs = omega arith
taken_length (suc n) [] = omega arith
taken_length (suc n) (x ∷ xs) = let rest = taken_length n xs in omega (arith, rest)

inputs_within : (site : TypingContext) (target : Option Path) (inputs : List Expr) (outputs : List Path) (found : Option UnitDef) (callee : UnitDef) →
    found ≡ Some callee → run_fits site target inputs outputs found ≡ true → length inputs ≤ arity callee
inputs_within site target inputs outputs None callee e fit = absurd cc
inputs_within site target inputs outputs (Some other) callee e fit =
    let same : other ≡ callee = cc in
    let all = and_second (target_fits site other.result target) (arguments_fit site inputs outputs other)
    (and_second (is_activity site.kind && is_activity other.kind)
    (target_fits site other.result target && arguments_fit site inputs outputs other) fit) in
    let matched = and_first (types_match (map (type_of site) inputs) (inputs_of other))
    (types_match (map (type_of_path site) outputs) (outputs_of other) && all_of (map (is_outlet site) outputs)) all in
    let long : length inputs ≡ length (inputs_of other) =
    sym (map_length (type_of site) inputs) ∙ matched_length (map (type_of site) inputs) (inputs_of other) matched in
    let less : length (inputs_of other) ≤ other.inputs = taken_length other.inputs other.vars in
    subst (λ u. length inputs ≤ arity u) same (omega (arith, long, less))

-- ---- what is declared

var_in_front : (n k : ℕ) (vars : List Var) (var : Var) → k < n → slice_get vars k ≡ Some var → slice_get (take n vars) k ≡ Some var
var_in_front zero k vars var less e = absurd (omega (arith, less))
var_in_front (suc n) k [] var less e = e
var_in_front (suc n) zero (v ∷ vars) var less e = e
var_in_front (suc n) (suc k) (v ∷ vars) var less e = var_in_front n k vars var (omega (arith, less)) e

var_behind : (n k : ℕ) (vars : List Var) (var : Var) → n ≤ k → slice_get vars k ≡ Some var → slice_get (drop n vars) (k - n) ≡ Some var
var_behind zero k vars var least e = subst (λ j. slice_get vars j ≡ Some var) (omega arith) e
var_behind (suc n) k [] var least e = absurd cc
var_behind (suc n) zero (v ∷ vars) var least e = absurd (omega (arith, least))
var_behind (suc n) (suc k) (v ∷ vars) var least e =
    let same : k - n ≡ suc k - suc n = omega arith in
    subst (λ j. slice_get (drop n vars) j ≡ Some var) same (var_behind n k vars var (omega (arith, least)) e)

role_there : (test : Role → Bool) (vars : List Var) (k : ℕ) (var : Var) → list_all (λ (var : Var). test var.role) vars ≡ true →
    slice_get vars k ≡ Some var → test var.role ≡ true
role_there test [] k var all e = absurd cc
role_there test (v ∷ vars) zero var all e =
    let same : v ≡ var = cc in
    subst (λ (x : Var). test x.role ≡ true) same (and_first (test v.role) (list_all (λ (var : Var). test var.role) vars) all)
role_there test (v ∷ vars) (suc k) var all e =
    role_there test vars k var (and_second (test v.role) (list_all (λ (var : Var). test var.role) vars) all) e

no_input : (role : Role) → (is_variable role || is_fixed role) ≡ true → is_input role ≡ true → ⊥
no_input Input e f = absurd cc
no_input Output e f = absurd cc
no_input Variable e f = absurd cc
no_input Fixed e f = absurd cc

no_output : (role : Role) → (is_variable role || is_fixed role) ≡ true → is_output role ≡ true → ⊥
no_output Input e f = absurd cc
no_output Output e f = absurd cc
no_output Variable e f = absurd cc
no_output Fixed e f = absurd cc

declared_role : (site : TypingContext) (initial : Option Expr) (found : Option Var) → declaration_fits site initial found ≡ true →
    (var : Var) × (found ≡ Some var) × ((is_variable var.role || is_fixed var.role) ≡ true)
declared_role site None None e = absurd cc
declared_role site (Some x) None e = absurd cc
declared_role site None (Some var) e = (var, refl, or_yes (is_variable var.role) (is_fixed var.role) e)
  where
    or_yes : (a b : Bool) → a ≡ true → (a || b) ≡ true
    or_yes true b e = refl
    or_yes false b e = absurd cc
declared_role site (Some x) (Some var) e =
    (var, refl, and_first (is_variable var.role || is_fixed var.role) (are_same (Some var.ty) (type_of site x)) e)

-- what the roles say
pub record Roles (unit : UnitDef) : Type 0 where
  pub enough : arity unit ≤ length unit.vars
  pub ins : list_all (λ (var : Var). is_input var.role) (inputs_of unit) ≡ true
  pub outs : list_all (λ (var : Var). is_output var.role) (outputs_of unit) ≡ true

roles_so : (unit : UnitDef) → roles_stand unit ≡ true → Roles unit
roles_so unit e =
    let many : Bool = nat_le (unit.inputs + unit.outputs) (length unit.vars) in
    let ins : Bool = list_all (λ (var : Var). is_input var.role) (inputs_of unit) in
    let outs : Bool = list_all (λ (var : Var). is_output var.role) (outputs_of unit) in
    let rest : Bool = list_all (λ (var : Var). is_variable var.role || is_fixed var.role) (locals_of unit) in
    let more : (ins && (outs && rest)) ≡ true = and_second many (ins && (outs && rest)) e in record {
      enough = leb-true (unit.inputs + unit.outputs) (length unit.vars) (and_first many (ins && (outs && rest)) e);
      ins = and_first ins (outs && rest) more;
      outs = and_first outs rest (and_second ins (outs && rest) more);
    }

declared_behind : (unit : UnitDef) (k : ℕ) (var : Var) → Roles unit → slice_get unit.vars k ≡ Some var →
    (is_variable var.role || is_fixed var.role) ≡ true → arity unit ≤ k
declared_behind unit k var roles there own = by_first (nat_lt k unit.inputs) refl
  where
    by_second : unit.inputs ≤ k → (b : Bool) → nat_lt k (arity unit) ≡ b → arity unit ≤ k
    by_second least false e = ltb-false k (arity unit) e
    by_second least true e =
        let below = ltb-true k (arity unit) e in
        absurd (no_output var.role own
        (role_there is_output (outputs_of unit) (k - unit.inputs) var roles.outs
        (var_in_front unit.outputs (k - unit.inputs) (drop unit.inputs unit.vars) var (omega (arith, below, least))
        (var_behind unit.inputs k unit.vars var least there))))

    by_first : (b : Bool) → nat_lt k unit.inputs ≡ b → arity unit ≤ k
    by_first true e =
        absurd (no_input var.role own
        (role_there is_input (inputs_of unit) k var roles.ins (var_in_front unit.inputs k unit.vars var (ltb-true k unit.inputs e) there)))
    by_first false e = by_second (ltb-false k unit.inputs e) (nat_lt k (arity unit)) refl

declared_local : (site : TypingContext) (unit : UnitDef) (k : ℕ) (initial : Option Expr) → site.vars ≡ unit.vars → Roles unit →
    declaration_fits site initial (var_at site k) ≡ true → IsAmongVariables (locals unit) k
declared_local site unit k initial vars roles fit =
    let found = declared_role site initial (var_at site k) fit in
    let there : slice_get unit.vars k ≡ Some found.0 = ap (λ vars. slice_get vars k) (sym vars) ∙ found.1 in
    let behind = declared_behind unit k found.0 roles there found.2 in
    let below = slice_get_within unit.vars k found.0 there in
    in_range (arity unit) (length unit.vars - arity unit) k behind (omega (arith, behind, below))

-- ---- bodies

module _ (w : Setting) (i : ℕ) (unit : UnitDef) (site : TypingContext) (units : List UnitDef) (roles : Roles unit) (vars : site.vars ≡ unit.vars)
    (earlier : (a : ℕ) (callee : UnitDef) → slice_get site.earlier a ≡ Some callee → (slice_get units a ≡ Some callee) × Roles callee)
    (C : Run → Type 0)
    (named : (run : Run) → C run → (callee : ℕ) (other : UnitDef) → callee_of w i run.place ≡ Some callee → unit_at w callee
    ≡ Some other →
    slice_get units run.unit ≡ Some other) where
  abbrev S : Stmt → Type 0
  S s = fits site s ≡ true → AllOf C (runs_in s) → (at : Position) → Bounded w i unit (plain_stmt s at)

  block_bounded : (body : List Stmt) (k : ℕ) (block : Position) → Each S body → all_of (map (fits site) body) ≡ true →
      AllOf C (joined (map runs_in body)) → BoundedAll w i unit (block_from (map plain_stmt body) k block)
  block_bounded [] k block each fitted all = tt
  block_bounded (s ∷ rest) k block each fitted all = (
    All-head S s rest each (and_first (fits site s) (all_of (map (fits site) rest)) fitted)
        (of_first C (runs_in s) (joined (map runs_in rest)) all) (block ++ k ∷ []),
    block_bounded rest (suc k) block (All-tail S s rest each) (and_second (fits site s) (all_of (map (fits site) rest)) fitted)
        (of_second C (runs_in s) (joined (map runs_in rest)) all),
  )

  abbrev arm_fitted : Arm → Bool
  arm_fitted = fold-Arm Bool Bool Bool Bool (kind_fits site) (arm_fits site) branch_fits stmt_fits

  abbrev branch_fitted : Branch → Bool
  branch_fitted = fold-Branch Bool Bool Bool Bool (kind_fits site) (arm_fits site) branch_fits stmt_fits

  arm_has : (arm : Arm) → AllOf C (runs_in_arm arm) → AllOf C (joined (map runs_in (out-Arm arm).body))
  arm_has arm all =
      subst (AllOf C) (fold_out-Arm (Place → List Run) (List Run) (List Run) (List Run) kind_runs arm_runs branch_runs stmt_layer_runs arm) all

  branch_has : (branch : Branch) → AllOf C (runs_in_branch branch) → AllOf C (joined (map runs_in (out-Branch branch).body))
  branch_has branch all =
      subst (AllOf C) (fold_out-Branch (Place → List Run) (List Run) (List Run)
      (List Run) kind_runs arm_runs branch_runs stmt_layer_runs branch) all

  arm_inner : (arm : Arm) → arm_fitted arm ≡ true → all_of (map (fits site) (out-Arm arm).body) ≡ true
  arm_inner arm fitted =
      and_second (is_truth (type_of site (out-Arm arm).test)) (all_of (map (fits site) (out-Arm arm).body))
      (sym (fold_out-Arm Bool Bool Bool Bool (kind_fits site) (arm_fits site) branch_fits stmt_fits arm) ∙ fitted)

  branch_inner : (branch : Branch) → branch_fitted branch ≡ true → all_of (map (fits site) (out-Branch branch).body) ≡ true
  branch_inner branch fitted = sym (fold_out-Branch Bool Bool Bool Bool (kind_fits site) (arm_fits site) branch_fits stmt_fits branch) ∙ fitted

  arms_bounded : (at : Label) (arms : List Arm) (other : List Stmt) → EachArm S arms → Each S other → all_of (map arm_fitted arms) ≡ true →
      all_of (map (fits site) other) ≡ true → AllOf C (joined (map runs_in_arm arms)) → AllOf C (joined (map runs_in other)) →
      BoundedAll w i unit (else_at at (map plain_arm arms) (plain_block other))
  arms_bounded at [] other each others fitted last all rest = block_bounded other 0 (inside at at.passed) others last rest
  arms_bounded at (arm ∷ arms) other each others fitted last all rest = (
    (
      block_bounded (out-Arm arm).body 0 (inside at at.passed) (All-head (λ arm. Each S (out-Arm arm).body) arm arms each)
          (arm_inner arm (and_first (arm_fitted arm) (all_of (map arm_fitted arms)) fitted))
          (arm_has arm (of_first C (runs_in_arm arm) (joined (map runs_in_arm arms)) all)),
      arms_bounded (passed_one at) arms other (All-tail (λ arm. Each S (out-Arm arm).body) arm arms each) others
          (and_second (arm_fitted arm) (all_of (map arm_fitted arms)) fitted) last
          (of_second C (runs_in_arm arm) (joined (map runs_in_arm arms)) all) rest,
    ),
    tt,
  )

  branches_bounded : (branches : List Branch) (k : ℕ) (at : Label) → EachBranch S branches → all_of (map branch_fitted branches) ≡ true →
      AllOf C (joined (map runs_in_branch branches)) → BoundedEach w i unit (bodies_from (map plain_branch branches) k at)
  branches_bounded [] k at each fitted all = tt
  branches_bounded (branch ∷ rest) k at each fitted all = (
    block_bounded (out-Branch branch).body 0 (inside at k) (All-head (λ branch. Each S (out-Branch branch).body) branch rest each)
        (branch_inner branch (and_first (branch_fitted branch) (all_of (map branch_fitted rest)) fitted))
        (branch_has branch (of_first C (runs_in_branch branch) (joined (map runs_in_branch rest)) all)),
    branches_bounded rest (suc k) at (All-tail (λ branch. Each S (out-Branch branch).body) branch rest each)
        (and_second (branch_fitted branch) (all_of (map branch_fitted rest)) fitted)
        (of_second C (runs_in_branch branch) (joined (map runs_in_branch rest)) all),
  )

  abbrev fit_parts : StmtKind-F StmtKind Arm Branch Stmt → StmtKind-F Bool Bool Bool Bool
  fit_parts = map-StmtKind StmtKind Arm Branch Stmt Bool Bool Bool Bool
      (fold-StmtKind Bool Bool Bool Bool (kind_fits site) (arm_fits site) branch_fits stmt_fits) arm_fitted branch_fitted (fits site)

  fit_at : (place : Place) (layer : StmtKind-F StmtKind Arm Branch Stmt) → fits site (stmt place layer) ≡ kind_fits site (fit_parts layer)
  fit_at place layer = rw (fold-roll-Stmt, fold-roll-StmtKind) refl

  abbrev run_parts : StmtKind-F StmtKind Arm Branch Stmt → StmtKind-F (Place → List Run) (List Run) (List Run) (List Run)
  run_parts = map-StmtKind StmtKind Arm Branch Stmt (Place → List Run) (List Run) (List Run) (List Run)
      (fold-StmtKind (Place → List Run) (List Run) (List Run)
      (List Run) kind_runs arm_runs branch_runs stmt_layer_runs) runs_in_arm runs_in_branch runs_in

  runs_at : (place : Place) (layer : StmtKind-F StmtKind Arm Branch Stmt) → runs_in (stmt place layer) ≡ kind_runs (run_parts layer) place
  runs_at place layer = rw (fold-roll-Stmt, fold-roll-StmtKind) refl

  by_parts : (place : Place) (layer : StmtKind-F StmtKind Arm Branch Stmt) →
      (kind_fits site (fit_parts layer) ≡ true → AllOf C (kind_runs (run_parts layer) place) → (at : Position) →
      Bounded w i unit (plain_stmt (stmt place layer) at)) → S (stmt place layer)
  by_parts place layer gives fitted all = gives (sym (fit_at place layer) ∙ fitted) (subst (AllOf C) (runs_at place layer) all)

  layer_at : (place : Place) (layer : StmtKind-F StmtKind Arm Branch Stmt) → out-StmtKind (out-Stmt (stmt place layer)).what ≡ layer
  layer_at place layer =
      ap (λ s. out-StmtKind s.what) (out-roll-Stmt (record { place = place; what = roll-StmtKind layer })) ∙ out-roll-StmtKind layer

  -- an act that declares nothing
  none_declared : (place : Place) (layer : StmtKind-F StmtKind Arm Branch Stmt) → declared_kind layer ≡ [] → (x : ℕ) →
      IsAmongVariables (declared_in (stmt place layer)) x → IsAmongVariables (locals unit) x
  none_declared place layer none x at =
      absurd (none_among x (subst (λ xs. IsAmongVariables xs x) (ap declared_kind (layer_at place layer) ∙ none) at))

  one_declared : (place : Place) (k : ℕ) (initial : Option Expr) → IsAmongVariables (locals unit) k → (x : ℕ) →
      IsAmongVariables (declared_in (stmt place (StmtKind-F.Declare k initial))) x → IsAmongVariables (locals unit) x
  one_declared place k initial local x at =
      by_part (among_by k x [] (subst (λ xs. IsAmongVariables xs x) (ap declared_kind (layer_at place (StmtKind-F.Declare k initial))) at))
    where
      by_part : (x ≡ k) ⊎ IsAmongVariables [] x → IsAmongVariables (locals unit) x
      by_part (inl is) = subst (IsAmongVariables (locals unit)) (sym is) local
      by_part (inr none) = absurd (none_among x none)

  run_bounded : (place : Place) (target : Option Path) (a : ℕ) (inputs : List Expr) (outputs : List Path) →
      run_fits site target inputs outputs (slice_get site.earlier a) ≡ true → (run : Run) → run.place ≡ place → run.unit ≡ a → C run →
      (callee : ℕ) (other : UnitDef) → callee_of w i place ≡ Some callee → unit_at w callee ≡ Some other → InputsFit (length inputs) other
  run_bounded place target a inputs outputs fit run places units' holds callee other called of =
      by_found (slice_get site.earlier a) refl fit
    where
      by_found : (o : Option UnitDef) → slice_get site.earlier a ≡ o → run_fits site target inputs outputs o ≡ true →
          InputsFit (length inputs) other
      by_found None there fit = absurd cc
      by_found (Some unit) there fit =
          let before = earlier a unit there in
          let is : slice_get units a ≡ Some other =
          ap (slice_get units) (sym units')
          ∙ named run holds callee other (subst (λ place. callee_of w i place ≡ Some callee) (sym places) called) of in
          let same : unit ≡ other = one_some unit other (slice_get units a) before.0 is in
          subst (InputsFit (length inputs)) same
          (inputs_within site target inputs outputs (Some unit) unit refl fit, before.1.enough)

  branching_bounded : (place : Place) (arms : List Arm) (other : List Stmt) → EachArm S arms → Each S other →
      S (stmt place (StmtKind-F.If arms other))
  branching_bounded place [] other each others = by_parts place (StmtKind-F.If [] other) (λ fitted all at. absurd (no_arm fitted))
    where
      no_arm : (is_inhabited (map arm_fitted []) && (all_of (map arm_fitted []) && all_of (map (fits site) other))) ≡ true → ⊥
      no_arm e = absurd cc
  branching_bounded place (arm ∷ rest) other each others = by_parts place (StmtKind-F.If (arm ∷ rest) other) (λ fitted all at.
      let choices : Bool = all_of (map arm_fitted (arm ∷ rest)) in
      let last : Bool = all_of (map (fits site) other) in
      let fitting : (choices && last) ≡ true = and_second (is_inhabited (map arm_fitted (arm ∷ rest))) (choices && last) fitted in
      let arms = of_first C (joined (map runs_in_arm (arm ∷ rest))) (joined (map runs_in other)) all in
      let lasts = of_second C (joined (map runs_in_arm (arm ∷ rest))) (joined (map runs_in other)) all in
      let chosen = and_first choices last fitting in
      subst (Bounded w i unit) (sym (plain_statements.branching place at arm rest other)) (
        block_bounded (out-Arm arm).body 0 (inside (label_at at) 0) (All-head (λ arm. Each S (out-Arm arm).body) arm rest each)
            (arm_inner arm (and_first (arm_fitted arm) (all_of (map arm_fitted rest)) chosen))
            (arm_has arm (of_first C (runs_in_arm arm) (joined (map runs_in_arm rest)) arms)),
        arms_bounded (passed_one (label_at at)) rest other (All-tail (λ arm. Each S (out-Arm arm).body) arm rest each) others
            (and_second (arm_fitted arm) (all_of (map arm_fitted rest)) chosen) (and_second choices last fitting)
            (of_second C (runs_in_arm arm) (joined (map runs_in_arm rest)) arms) lasts,
      ))

  stmt_cases : Cases S
  stmt_cases = record {
    declare = λ place k initial. by_parts place (StmtKind-F.Declare k initial) (λ fitted all at.
        subst (Bounded w i unit) (sym (plain_statements.declaration place at k initial))
        (one_declared place k initial (declared_local site unit k initial vars roles fitted)));
    assign = λ place path e fitted all at. subst (Bounded w i unit) (sym (plain_statements.assignment place at path e))
        (none_declared place (StmtKind-F.Assign path e) refl);
    call = λ place f inputs outputs fitted all at. subst (Bounded w i unit) (sym (plain_statements.call place at f inputs outputs))
        (none_declared place (StmtKind-F.Call f inputs outputs) refl);
    await = λ place e fitted all at. subst (Bounded w i unit) (sym (plain_statements.pause place at e)) tt;
    run = λ place target a inputs outputs. by_parts place (StmtKind-F.Run target a inputs outputs) (λ fitted all at.
        subst (Bounded w i unit) (sym (plain_statements.run place at target a inputs outputs))
        (run_bounded place target a inputs outputs fitted (record { place = place; unit = a; outputs = map static_of outputs }) refl refl all.0));
    branching = branching_bounded;
    cobegin = λ place branches each. by_parts place (StmtKind-F.Cobegin branches) (λ fitted all at.
        let some : Bool = is_inhabited (map branch_fitted branches) in
        let within : Bool = all_of (map branch_fitted branches) in
        subst (Bounded w i unit) (sym (plain_statements.parallel place at branches))
        (branches_bounded branches 0 (label_at at) each (and_second some within (and_second (is_activity site.kind) (some && within) fitted)) all));
    guarded = λ place guard e body each. by_parts place (StmtKind-F.When guard e body) (λ fitted all at.
        let tested : Bool = is_truth (type_of site e) in
        let within : Bool = all_of (map (fits site) body) in
        subst (Bounded w i unit) (sym (plain_statements.guarded place at guard e body))
        (block_bounded body 0 (inside (label_at at) 0) each
        (and_second tested within (and_second (is_activity site.kind) (tested && within) fitted)) all));
    repeat = λ place body each. by_parts place (StmtKind-F.Repeat body) (λ fitted all at.
        subst (Bounded w i unit) (sym (plain_statements.endless place at body))
        (block_bounded body 0 (inside (label_at at) 0) each fitted all));
    until = λ place body e each. by_parts place (StmtKind-F.Until body e) (λ fitted all at.
        subst (Bounded w i unit) (sym (plain_statements.until place at body e))
        (block_bounded body 0 (inside (label_at at) 0) each (and_first (all_of (map (fits site) body)) (is_truth (type_of site e)) fitted) all));
    while = λ place e body each. by_parts place (StmtKind-F.While e body) (λ fitted all at.
        subst (Bounded w i unit) (sym (plain_statements.while place at e body))
        (block_bounded body 0 (inside (label_at at) 0) each (and_second (is_truth (type_of site e)) (all_of (map (fits site) body)) fitted) all));
    returns = λ place e fitted all at. subst (Bounded w i unit) (sym (plain_statements.returns place at e))
        (none_declared place (StmtKind-F.Return e) refl);
  }

  pub body_bounded : (body : List Stmt) → all_of (map (fits site) body) ≡ true → AllOf C (joined (map runs_in body)) →
      BoundedAll w i unit (plain_body body)
  body_bounded body fitted all = block_bounded body 0 [] (λ k d within. induct S stmt_cases (get_or body k d)) fitted all

-- ---- units that stand

unit_roles : (structs : List StructDef) (earlier : List UnitDef) (unit : UnitDef) → unit_stands structs earlier unit ≡ true → Roles unit
unit_roles structs earlier unit stands =
    let named : Bool = list_all is_name (names_of unit.vars) && are_distinct (names_of (parameters_of unit)) in
    let types : Bool = list_all (λ (var : Var). type_stands (length structs) var.ty) unit.vars in
    let fit : Bool = list_all (fits (site_of structs earlier unit)) unit.body in
    let others : Bool = unit_returns unit && (is_shallow 200 unit.body && list_all is_apart unit.body) in
    roles_so unit (and_first (roles_stand unit) named (and_first (roles_stand unit && named) (types && (fit && others)) stands))

-- the unit of an instance is one of the program's
unit_found : (w : Setting) (i : ℕ) (unit : UnitDef) → unit_at w i ≡ Some unit → (k : ℕ) × (slice_get w.units k ≡ Some unit)
unit_found w i unit e = by_instance (slice_get w.instances i) e
  where
    by_instance : (found : Option Instance) → option_and_then (unit_of w) found ≡ Some unit → (k : ℕ) × (slice_get w.units k ≡ Some unit)
    by_instance None e = absurd cc
    by_instance (Some instance) e = (instance.unit, e)

pub bodies_ask : InstancesHaveCallers → BodiesAsk
bodies_ask callers structs units entry i unit keeps from is =
    let at = unit_found (setting_of structs units entry) i unit is in
    let stands = unit_stands_at structs [] units at.0 unit keeps.units_stand at.1 in (
      from.declared unit (contains_at units at.0 unit at.1),
      body_bounded (setting_of structs units entry) i unit (site_of structs (take at.0 units) unit) units
          (unit_roles structs (take at.0 units) unit stands) refl
          (λ a callee there. (
            taken units at.0 a callee there,
            unit_roles structs (take a units) callee (unit_stands_at structs [] units a callee keeps.units_stand (taken units at.0 a callee there)),
          ))
          (BeginsNamed structs units entry keeps i) (λ run holds. holds) unit.body (body_fits structs (take at.0 units) unit stands)
          (body_named structs units entry keeps callers i unit is),
    )
