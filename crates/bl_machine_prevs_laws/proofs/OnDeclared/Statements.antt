-- Statements that fit, and name only what is declared before, ask what a `var` was only behind its declaration; and each `run` stands alone
-- where statements begin one after another.
use Rattle.std.proofs.Common.{◌≡◌, ℕ, suc, Bool, true, false, ◌&&◌, ◌||◌, List, [], ◌∷◌, ◌++◌, map, Option, Some, None}
use Rattle.std.proofs.Common.{refl, sym, ap, subst, ◌∙◌}
use Rattle.std.proofs.lemmas.List.Elements.{All-head, All-tail}
use Rattle.std.proofs.lemmas.List.Folds.{list_all-append}
use Rattle.std.specs.Prelude.{nat_eq, slice_get}
use Rattle.std.proofs.lemmas.Bool.{and_from}
use Rattle.bl_tree.proofs.Basics.{and_first, and_second}
use Rattle.bl_tree.specs.declared.place.Place.{Place}
use Rattle.bl_tree.specs.declared.scalar.Scalar.{Scalar as ScalarType}
use Rattle.bl_tree.specs.declared.tree.Arm.{Arm, fold-Arm, fold_out-Arm, out-Arm}
use Rattle.bl_tree.specs.declared.tree.Branch.{Branch, fold-Branch, fold_out-Branch, out-Branch}
use Rattle.bl_tree.specs.declared.tree.Expr.{Expr, out-Expr}
use Rattle.bl_tree.specs.declared.tree.Guard.{Guard}
use Rattle.bl_tree.specs.declared.tree.Path.{Path}
use Rattle.bl_tree.specs.declared.tree.Stmt.{Stmt, fold-roll-Stmt, out-roll-Stmt}
use Rattle.bl_tree.specs.declared.tree.StmtKind.{StmtKind, fold-StmtKind, fold-roll-StmtKind, map-StmtKind, out-StmtKind, out-roll-StmtKind}
use Rattle.bl_tree.specs.declared.tree.StmtKind.{roll-StmtKind}
use Rattle.bl_tree.specs.declared.tree.StmtKind.TheOpen.{StmtKind-F, Stmt-F}
use Rattle.bl_tree.specs.declared.tree.Ty.{Ty}
use Rattle.bl_tree.specs.declared.tree.Unit.{Unit as UnitDef}
use Rattle.bl_tree.specs.declared.tree.Var.{Var}
use Rattle.bl_tree.specs.Apart.{Roots, optional_roots, roots_in, roots_in_path, target_roots}
use Rattle.bl_tree.specs.Apart as apart
use Rattle.bl_tree.specs.Reduce.{all_of, joined}
use Rattle.bl_tree.specs.Types.{scalar}
use Rattle.bl_tree.specs.Typing.{TypingContext, are_same, arguments_fit, arm_fits, branch_fits, call_fits, declaration_fits, fits, inputs_of, is_activity}
use Rattle.bl_tree.specs.Typing.{is_assignable, is_fixed, is_inhabited, is_outlet, is_procedure, is_truth, is_variable, kind_fits, outputs_of}
use Rattle.bl_tree.specs.Typing.{return_fits, run_fits, stmt_fits, target_fits, type_of, type_of_path, types_match, var_at}
use Rattle.bl_tree.proofs.StmtInduction.{Cases, Each, EachArm, EachBranch, induct, stmt}
use Rattle.bl_graph_nodes.specs.Laws.{PlainStatements, plain_arm, plain_branch}
use Rattle.bl_graph_nodes.specs.Nodes.{DepthJoinAt}
use Rattle.bl_graph_nodes.specs.Nodes.{is_instant, nodes_in, nodes_in_each}
use Rattle.bl_graph_nodes.specs.Plain.{Act, Await, Block, Bodies, Cobegin, If, Label, Plain, Position, Repeat, Run as RunOf, Until, When, While, block_from}
use Rattle.bl_graph_nodes.specs.Plain.{bodies_from, else_at, inside, label_at, passed_one, plain_block, plain_stmt}
use Rattle.bl_machine_prevs_laws.specs.Names.Scoped.{Scoped, are_known, block_and_condition, every, is_known, stand_in_turn}
use Rattle.bl_machine_prevs.specs.Declared.{declared_by, declared_in, declared_kind, prevs_in_inputs, prevs_stand, prevs_stand_in, prevs_stand_in_each}
use Rattle.bl_machine_prevs.specs.Prevs.{arm_prevs, branch_prevs, optional_prevs, prevs_in, prevs_in_arm, prevs_in_branch, prevs_in_expr, prevs_in_path}
use Rattle.bl_machine_prevs.specs.Prevs.{stmt_kind_prevs, stmt_layer_prevs}
use Rattle.bl_machine_prevs_laws.specs.Types.Declared.{arm_scoped, branch_scoped, scoped_of, stmt_kind_scoped, stmt_layer_scoped}
use Rattle.bl_machine_prevs_laws.specs.Types.inner.Declared.{scoped_of_arm, scoped_of_branch}
use Rattle.bl_machine_prevs_laws.proofs.OnDeclared.Expressions.{Related, expr_stands, exprs_stand, path_stands, paths_stand}
use Rattle.bl_names_laws.proofs.Apart.{or_weaker}

-- ---- expressions that must have a type

pub truth_typed : (t : Option Ty) → is_truth t ≡ true → (ty : Ty) × (t ≡ Some ty)
truth_typed (Some ty) is = (ty, refl)
truth_typed None is = absurd (cc)

pub second_typed : (a b : Option Ty) → are_same a b ≡ true → (ty : Ty) × (b ≡ Some ty)
second_typed (Some a) (Some b) is = (b, refl)
second_typed (Some a) None is = absurd (cc)
second_typed None b is = absurd (cc)

pub first_typed : (a b : Option Ty) → are_same a b ≡ true → (ty : Ty) × (a ≡ Some ty)
first_typed (Some a) b is = (a, refl)
first_typed None b is = absurd (cc)

-- what one knows with these the other knows with them
related_more : (site : TypingContext) (ks known mine : Roots) → Related site known mine → Related site (ks ++ known) (ks ++ mine)
related_more site [] known mine related = related
related_more site (d ∷ ks) known mine related = λ k var is.
    or_weaker (nat_eq k d) (is_known (ks ++ known) k) (is_known (ks ++ mine) k) (related_more site ks known mine related k var) is

-- what holds of a plain statement, of what the statement declares and names
record Turned (site : TypingContext) (p : Plain) (of : Scoped) : Type 0 where
  pub declared : declared_by p ≡ of.declared
  pub stands : (known mine : Roots) → Related site known mine → of.stands known ≡ true → prevs_stand mine p ≡ true

-- of a block
pub record BlockTurned (site : TypingContext) (b : Block) (of : List Scoped) : Type 0 where
  pub stands : (known mine : Roots) → Related site known mine → stand_in_turn of known ≡ true → prevs_stand_in mine b ≡ true

-- of the further arms and the `else` part
record ElseTurned (site : TypingContext) (b : Block) (arms other : List Scoped) : Type 0 where
  pub stands : (known mine : Roots) → Related site known mine → every arms known ≡ true → stand_in_turn other known ≡ true →
      prevs_stand_in mine b ≡ true

-- and of branches
record EachTurned (site : TypingContext) (b : Bodies) (of : List Scoped) : Type 0 where
  pub stands : (known mine : Roots) → Related site known mine → every of known ≡ true → prevs_stand_in_each mine b ≡ true

module _ (plains : PlainStatements) (site : TypingContext) where
  abbrev P : Stmt → Type 0
  P s = fits site s ≡ true → (p : Position) → Turned site (plain_stmt s p) (scoped_of s)

  abbrev good_arm : Arm → Bool
  good_arm = fold-Arm Bool Bool Bool Bool (kind_fits site) (arm_fits site) branch_fits stmt_fits

  abbrev good_branch : Branch → Bool
  good_branch = fold-Branch Bool Bool Bool Bool (kind_fits site) (arm_fits site) branch_fits stmt_fits

  abbrev Layer : Type 0
  Layer = StmtKind-F StmtKind Arm Branch Stmt

  abbrev fits_layer : Layer → Bool
  fits_layer layer = kind_fits site
      (map-StmtKind StmtKind Arm Branch Stmt Bool Bool Bool Bool (fold-StmtKind Bool Bool Bool Bool (kind_fits site)
      (arm_fits site) branch_fits stmt_fits)
      good_arm good_branch (fits site) layer)

  abbrev scoped_layer : Layer → Scoped
  scoped_layer layer = stmt_kind_scoped
      (map-StmtKind StmtKind Arm Branch Stmt Scoped Scoped Scoped Scoped
      (fold-StmtKind Scoped Scoped Scoped Scoped stmt_kind_scoped arm_scoped branch_scoped stmt_layer_scoped)
      scoped_of_arm scoped_of_branch scoped_of layer)

  abbrev prevs_layer : Layer → List ℕ
  prevs_layer layer = stmt_kind_prevs
      (map-StmtKind StmtKind Arm Branch Stmt (List ℕ) (List ℕ) (List ℕ) (List ℕ)
      (fold-StmtKind (List ℕ) (List ℕ) (List ℕ) (List ℕ) stmt_kind_prevs arm_prevs branch_prevs stmt_layer_prevs)
      prevs_in_arm prevs_in_branch prevs_in layer)

  by_kind : (place : Place) (layer : Layer) (q : Position → Plain) → ((p : Position) → plain_stmt (stmt place layer) p ≡ q p) →
      (fits_layer layer ≡ true → (p : Position) → Turned site (q p) (scoped_layer layer)) →
      P (stmt place layer)
  by_kind place layer q is gives fit p =
      let fits_is : fits site (stmt place layer) ≡ fits_layer layer = rw (fold-roll-Stmt, fold-roll-StmtKind) refl in
      let scoped_is : scoped_of (stmt place layer) ≡ scoped_layer layer = rw (fold-roll-Stmt, fold-roll-StmtKind) refl in
      subst (λ plain. Turned site plain (scoped_of (stmt place layer))) (sym (is p))
      (subst (λ of. Turned site (q p) of) (sym scoped_is) (gives (sym fits_is ∙ fit) p))

  -- ---- acts

  by_act : (place : Place) (layer : Layer) → ((p : Position) → plain_stmt (stmt place layer) p ≡ Act (label_at p) (stmt place layer)) →
      declared_in (stmt place layer) ≡ (scoped_layer layer).declared →
      (fits_layer layer ≡ true → (known mine : Roots) → Related site known mine → (scoped_layer layer).stands known ≡ true →
      are_known mine (prevs_layer layer) ≡ true) → P (stmt place layer)
  by_act place layer is declares gives =
      by_kind place layer (λ p. Act (label_at p) (stmt place layer)) is
      (λ fit p.
      let prevs_are : prevs_in (stmt place layer) ≡ prevs_layer layer = rw (fold-roll-Stmt, fold-roll-StmtKind) refl in
      record {
        declared = declares;
        stands = λ known mine related stands. ap (are_known mine) prevs_are ∙ gives fit known mine related stands;
      })

  declares_of : (place : Place) (layer : Layer) (ks : List ℕ) → declared_kind layer ≡ ks → declared_in (stmt place layer) ≡ ks
  declares_of place layer ks is =
      ap (λ (s : Stmt-F StmtKind Arm Branch Stmt). declared_kind (out-StmtKind s.what)) (out-roll-Stmt (record {
        place = place;
        what =
            roll-StmtKind layer;
      }))
      ∙ ap declared_kind (out-roll-StmtKind layer) ∙ is

  initial_stands : (initial : Option Expr) (var : Option Var) → declaration_fits site initial var ≡ true → (known mine : Roots) →
      Related site known mine → are_known known (optional_roots initial) ≡ true → are_known mine (optional_prevs initial) ≡ true
  initial_stands None var fit known mine related all = refl
  initial_stands (Some e) None fit known mine related all = absurd (cc)
  initial_stands (Some e) (Some var) fit known mine related all =
      let typed = second_typed (Some var.ty) (type_of site e) (and_second (is_variable var.role || is_fixed var.role) (are_same (Some var.ty)
      (type_of site e))
      fit) in
      expr_stands site known mine related e typed.0 typed.1 all

  return_stands : (value : Option Expr) (result : Option ScalarType) → return_fits site value result ≡ true → (known mine : Roots) →
      Related site known mine → are_known known (optional_roots value) ≡ true → are_known mine (optional_prevs value) ≡ true
  return_stands None result fit known mine related all = refl
  return_stands (Some e) None fit known mine related all = absurd (cc)
  return_stands (Some e) (Some s) fit known mine related all =
      let typed = second_typed (Some (scalar s)) (type_of site e) fit in
      expr_stands site known mine related e typed.0 typed.1 all

  all_left : (known xs ys : Roots) → are_known known (xs ++ ys) ≡ true → are_known known xs ≡ true
  all_left known xs ys all = and_first (are_known known xs) (are_known known ys) (sym (list_all-append (is_known known) xs ys) ∙ all)

  all_right : (known xs ys : Roots) → are_known known (xs ++ ys) ≡ true → are_known known ys ≡ true
  all_right known xs ys all = and_second (are_known known xs) (are_known known ys) (sym (list_all-append (is_known known) xs ys) ∙ all)

  all_both : (known xs ys : Roots) → are_known known xs ≡ true → are_known known ys ≡ true → are_known known (xs ++ ys) ≡ true
  all_both known xs ys one two = list_all-append (is_known known) xs ys ∙ and_from (are_known known xs) (are_known known ys) one two

  assign_stands : (path : Path) (e : Expr) → (is_assignable site path && are_same (type_of_path site path) (type_of site e)) ≡ true →
      (known mine : Roots) → Related site known mine → are_known known (roots_in_path path ++ roots_in e) ≡ true →
      are_known mine (prevs_in_path path ++ prevs_in_expr e) ≡ true
  assign_stands path e fit known mine related all =
      let same = and_second (is_assignable site path) (are_same (type_of_path site path) (type_of site e)) fit in
      let one = first_typed (type_of_path site path) (type_of site e) same in
      let two = second_typed (type_of_path site path) (type_of site e) same in
      all_both mine (prevs_in_path path) (prevs_in_expr e)
      (path_stands site known mine related path one.0 one.1 (all_left known (roots_in_path path) (roots_in e) all))
      (expr_stands site known mine related e two.0 two.1 (all_right known (roots_in_path path) (roots_in e) all))

  arguments_stand : (inputs : List Expr) (outputs : List Path) (unit : UnitDef) → arguments_fit site inputs outputs unit ≡ true →
      (known mine : Roots) → Related site known mine → are_known known (apart.argument_roots inputs outputs) ≡ true →
      (are_known mine (joined (map prevs_in_expr inputs)) ≡ true) × (are_known mine (joined (map prevs_in_path outputs)) ≡ true)
  arguments_stand inputs outputs unit fit known mine related all =
      let ins = types_match (map (type_of site) inputs) (inputs_of unit) in
      let outs = types_match (map (type_of_path site) outputs) (outputs_of unit) in
      let lets = all_of (map (is_outlet site) outputs) in (
        exprs_stand site known mine related inputs (inputs_of unit) (and_first ins (outs && lets) fit)
            (all_left known (joined (map roots_in inputs)) (joined (map roots_in_path outputs)) all),
        paths_stand site known mine related outputs (outputs_of unit) (and_first outs lets (and_second ins (outs && lets) fit))
            (all_right known (joined (map roots_in inputs)) (joined (map roots_in_path outputs)) all),
      )

  call_stands : (inputs : List Expr) (outputs : List Path) (callee : Option UnitDef) → call_fits site inputs outputs callee ≡ true →
      (known mine : Roots) → Related site known mine → are_known known (apart.argument_roots inputs outputs) ≡ true →
      are_known mine (joined (map prevs_in_expr inputs) ++ joined (map prevs_in_path outputs)) ≡ true
  call_stands inputs outputs None fit known mine related all = absurd (cc)
  call_stands inputs outputs (Some unit) fit known mine related all =
      let stand = arguments_stand inputs outputs unit (and_second (is_procedure unit) (arguments_fit site inputs outputs unit) fit) known mine related
      all in
      all_both mine (joined (map prevs_in_expr inputs)) (joined (map prevs_in_path outputs)) stand.0 stand.1

  run_stands : (target : Option Path) (inputs : List Expr) (outputs : List Path) (callee : Option UnitDef) →
      run_fits site target inputs outputs callee ≡ true → (known mine : Roots) → Related site known mine →
      are_known known (apart.argument_roots inputs outputs) ≡ true → are_known mine (prevs_in_inputs inputs) ≡ true
  run_stands target inputs outputs None fit known mine related all = absurd (cc)
  run_stands target inputs outputs (Some unit) fit known mine related all =
      let rest = and_second (is_activity site.kind && is_activity unit.kind) (target_fits site unit.result target && arguments_fit site inputs outputs
      unit)
      fit in
      (arguments_stand inputs outputs unit (and_second (target_fits site unit.result target) (arguments_fit site inputs outputs unit) rest) known mine
      related
      all).0

  -- ---- blocks

  block_turned : (body : List Stmt) → Each P body → all_of (map (fits site) body) ≡ true → (k : ℕ) (p : Position) →
      BlockTurned site (block_from (map plain_stmt body) k p) (map scoped_of body)
  block_turned [] each fit k p = record { stands = λ known mine related stands. refl }
  block_turned (s ∷ rest) each fit k p =
      let here : Plain = plain_stmt s (p ++ k ∷ []) in
      let behind : Block = block_from (map plain_stmt rest) (suc k) p in
      let first = All-head P s rest each (and_first (fits site s) (all_of (map (fits site) rest)) fit) (p ++ k ∷ []) in
      let more = block_turned rest (All-tail P s rest each) (and_second (fits site s) (all_of (map (fits site) rest)) fit) (suc k) p in
      record {
        stands = λ known mine related stands.
            let of : Scoped = scoped_of s in
            let next = and_second (of.stands known) (stand_in_turn (map scoped_of rest) (of.declared ++ known)) stands in
            and_from (prevs_stand mine here) (prevs_stand_in (declared_by here ++ mine) behind)
            (first.stands known mine related (and_first (of.stands known) (stand_in_turn (map scoped_of rest) (of.declared ++ known)) stands))
            (subst (λ ks. prevs_stand_in (ks ++ mine) behind ≡ true) (sym first.declared)
            (more.stands (of.declared ++ known) (of.declared ++ mine) (related_more site of.declared known mine related) next));
      }

  truth_stands : (e : Expr) → is_truth (type_of site e) ≡ true → (known mine : Roots) → Related site known mine →
      are_known known (roots_in e) ≡ true → are_known mine (prevs_in_expr e) ≡ true
  truth_stands e fit known mine related all =
      let typed = truth_typed (type_of site e) fit in expr_stands site known mine related e typed.0 typed.1 all

  -- ---- arms

  abbrev ElseArms : List Arm → List Stmt → Label → Type 0
  ElseArms arms other l = ElseTurned site (else_at l (map plain_arm arms) (plain_block other)) (map scoped_of_arm arms) (map scoped_of other)

  -- one condition, its block, and what else
  record IfTurned (e : Expr) (body other : Block) (arm : Scoped) (arms others : List Scoped) : Type 0 where
    pub stands : (known mine : Roots) → Related site known mine → arm.stands known ≡ true → every arms known ≡ true →
        stand_in_turn others known ≡ true →
        (are_known mine (prevs_in_expr e) && (prevs_stand_in mine body && prevs_stand_in mine other)) ≡ true

  arm_turned : (arm : Arm) (arms : List Arm) (other : List Stmt) → Each P (out-Arm arm).body → good_arm arm ≡ true →
      (p : Position) (l : Label) →
      ElseArms arms other l →
      IfTurned (out-Arm arm).test (plain_block (out-Arm arm).body p) (else_at l (map plain_arm arms) (plain_block other)) (scoped_of_arm arm)
      (map scoped_of_arm arms) (map scoped_of other)
  arm_turned arm arms other each good p l rest =
      let e : Expr = (out-Arm arm).test in
      let body : List Stmt = (out-Arm arm).body in
      let good_is : good_arm arm ≡ (is_truth (type_of site e) && all_of (map (fits site) body)) =
      fold_out-Arm Bool Bool Bool Bool (kind_fits site) (arm_fits site) branch_fits stmt_fits arm in
      let scoped_is : scoped_of_arm arm ≡ block_and_condition (roots_in e) (map scoped_of body) =
      fold_out-Arm Scoped Scoped Scoped Scoped stmt_kind_scoped arm_scoped branch_scoped stmt_layer_scoped arm in
      let fit : (is_truth (type_of site e) && all_of (map (fits site) body)) ≡ true = sym good_is ∙ good in
      let block = block_turned body each (and_second (is_truth (type_of site e)) (all_of (map (fits site) body)) fit) 0 p in
      let behind : Block = else_at l (map plain_arm arms) (plain_block other) in
      record {
        stands = λ known mine related here arms_stand other_stands.
            let mine_stands : (are_known known (roots_in e) && stand_in_turn (map scoped_of body) known) ≡ true =
            ap (λ (scoped : Scoped). scoped.stands known) (sym scoped_is) ∙ here in
            and_from (are_known mine (prevs_in_expr e)) (prevs_stand_in mine (plain_block body p) && prevs_stand_in mine behind)
            (truth_stands e (and_first (is_truth (type_of site e)) (all_of (map (fits site) body)) fit) known mine related
            (and_first (are_known known (roots_in e)) (stand_in_turn (map scoped_of body) known) mine_stands))
            (and_from (prevs_stand_in mine (plain_block body p)) (prevs_stand_in mine behind)
            (block.stands known mine related (and_second (are_known known (roots_in e)) (stand_in_turn (map scoped_of body) known) mine_stands))
            (rest.stands known mine related arms_stand other_stands));
      }

  else_turned : (arms : List Arm) (other : List Stmt) → EachArm P arms → Each P other → all_of (map good_arm arms) ≡ true →
      all_of (map (fits site) other) ≡ true → (l : Label) → ElseArms arms other l
  else_turned [] other each rest fit fit_other l =
      let block = block_turned other rest fit_other 0 (inside l l.passed) in
      record { stands = λ known mine related arms_stand. block.stands known mine related }
  else_turned (arm ∷ arms) other each rest fit fit_other l =
      let p : Position = inside l l.passed in
      let e : Expr = (out-Arm arm).test in
      let at : Place = (out-Expr e).place in
      let body : Block = plain_block (out-Arm arm).body p in
      let behind : Block = else_at (passed_one l) (map plain_arm arms) (plain_block other) in
      let more = else_turned arms other (All-tail (λ arm. Each P (out-Arm arm).body) arm arms each) rest
      (and_second (good_arm arm) (all_of (map good_arm arms)) fit)
      fit_other (passed_one l) in
      let one = arm_turned arm arms other (All-head (λ arm. Each P (out-Arm arm).body) arm arms each)
      (and_first (good_arm arm) (all_of (map good_arm arms)) fit) p (passed_one l) more in
      let nodes = nodes_in body ++ nodes_in behind in
      record {
        stands = λ known mine related arms_stand other_stands.
            and_from (are_known mine (prevs_in_expr e) && (prevs_stand_in mine body && prevs_stand_in mine behind)) true
            (one.stands known mine related (and_first ((scoped_of_arm arm).stands known) (every (map scoped_of_arm arms) known) arms_stand)
            (and_second ((scoped_of_arm arm).stands known) (every (map scoped_of_arm arms) known) arms_stand) other_stands) refl;
      }

  if_turned : (place : Place) (arms : List Arm) (other : List Stmt) → EachArm P arms → Each P other → P (stmt place (StmtKind-F.If arms other))
  if_turned place [] other each rest = λ fit p.
      let fits_is : fits site (stmt place (StmtKind-F.If [] other)) ≡ false = rw (fold-roll-Stmt, fold-roll-StmtKind) refl in
      absurd (differs (sym fits_is ∙ fit))
    where
      differs : false ≡ true → ⊥
      differs is = absurd (cc)
  if_turned place (arm ∷ arms) other each rest =
      by_kind place (StmtKind-F.If (arm ∷ arms) other)
      (λ p. If (label_at p) place (out-Arm arm).test (plain_block (out-Arm arm).body (inside (label_at p) 0))
      (else_at (passed_one (label_at p)) (map plain_arm arms) (plain_block other)))
      (λ p. plains.branching place p arm arms other)
      (λ fit p.
      let good = all_of (map good_arm arms) in
      let others = all_of (map (fits site) other) in
      let arms_fit = and_first (good_arm arm && good) others fit in
      let l : Label = passed_one (label_at p) in
      let body : Block = plain_block (out-Arm arm).body (inside (label_at p) 0) in
      let behind : Block = else_at l (map plain_arm arms) (plain_block other) in
      let more = else_turned arms other (All-tail (λ arm. Each P (out-Arm arm).body) arm arms each) rest (and_second (good_arm arm) good arms_fit)
      (and_second (good_arm arm && good) others fit) l in
      let one = arm_turned arm arms other (All-head (λ arm. Each P (out-Arm arm).body) arm arms each) (and_first (good_arm arm) good arms_fit)
      (inside (label_at p) 0) l more in
      let nodes = nodes_in body ++ nodes_in behind in
      record {
        declared = refl;
        stands = λ known mine related stands.
            let all = (scoped_of_arm arm).stands known in
            let arms_stand = and_first (all && every (map scoped_of_arm arms) known) (stand_in_turn (map scoped_of other) known) stands in
            one.stands known mine related (and_first all (every (map scoped_of_arm arms) known) arms_stand)
            (and_second all (every (map scoped_of_arm arms) known) arms_stand)
            (and_second (all && every (map scoped_of_arm arms) known) (stand_in_turn (map scoped_of other) known) stands);
      })

  -- ---- branches

  branches_turned : (branches : List Branch) → EachBranch P branches → all_of (map good_branch branches) ≡ true → (k : ℕ) (l : Label) →
      EachTurned site (bodies_from (map plain_branch branches) k l) (map scoped_of_branch branches)
  branches_turned [] each fit k l = record { stands = λ known mine related stands. refl }
  branches_turned (branch ∷ branches) each fit k l =
      let body : List Stmt = (out-Branch branch).body in
      let p : Position = inside l k in
      let good_is : good_branch branch ≡ all_of (map (fits site) body) =
      fold_out-Branch Bool Bool Bool Bool (kind_fits site) (arm_fits site) branch_fits stmt_fits branch in
      let scoped_is : (scoped_of_branch branch).stands ≡ stand_in_turn (map scoped_of body) =
      ap (λ (scoped : Scoped). scoped.stands)
      (fold_out-Branch Scoped Scoped Scoped Scoped stmt_kind_scoped arm_scoped branch_scoped stmt_layer_scoped branch) in
      let first = block_turned body (All-head (λ branch. Each P (out-Branch branch).body) branch branches each)
      (sym good_is ∙ and_first (good_branch branch) (all_of (map good_branch branches)) fit) 0 p in
      let more = branches_turned branches (All-tail (λ branch. Each P (out-Branch branch).body) branch branches each)
      (and_second (good_branch branch) (all_of (map good_branch branches)) fit) (suc k) l in
      let rest : Bodies = bodies_from (map plain_branch branches) (suc k) l in
      record {
        stands = λ known mine related stands.
            let here = (scoped_of_branch branch).stands known in
            let others = every (map scoped_of_branch branches) known in
            and_from (prevs_stand_in mine (plain_block body p)) (prevs_stand_in_each mine rest)
            (first.stands known mine related (ap (λ (stands : Roots → Bool). stands known) (sym scoped_is) ∙ and_first here others stands))
            (more.stands known mine related (and_second here others stands));
      }

  cobegin_turned : (place : Place) (branches : List Branch) → EachBranch P branches → P (stmt place (StmtKind-F.Cobegin branches))
  cobegin_turned place branches each =
      by_kind place (StmtKind-F.Cobegin branches) (λ p. Cobegin (label_at p) place (bodies_from (map plain_branch branches) 0 (label_at p)))
      (λ p. plains.parallel place p branches)
      (λ fit p.
      let l : Label = label_at p in
      let good = all_of (map good_branch branches) in
      let bodies : Bodies = bodies_from (map plain_branch branches) 0 l in
      let all = branches_turned branches each
      (and_second (is_inhabited (map good_branch branches)) good (and_second (is_activity site.kind) (is_inhabited (map good_branch branches) && good)
      fit)) 0 l in
      let test = is_instant (Cobegin l place bodies) in
      let nodes = DepthJoinAt l place ∷ nodes_in_each bodies in
      record {
        declared = refl;
        stands = λ known mine related stands. all.stands known mine related stands;
      })

  -- ---- loops and `when`

  block_here : (body : List Stmt) → Each P body → all_of (map (fits site) body) ≡ true → (p : Position) →
      BlockTurned site (plain_block body p) (map scoped_of body)
  block_here body each fit p = block_turned body each fit 0 p

  tested_stands : (e : Expr) (b : Block) (of : List Scoped) → is_truth (type_of site e) ≡ true →
      BlockTurned site b of →
      (known mine : Roots) → Related site known mine → (are_known known (roots_in e) && stand_in_turn of known) ≡ true →
      (are_known mine (prevs_in_expr e) && prevs_stand_in mine b) ≡ true
  tested_stands e b of truth block known mine related stands =
      and_from (are_known mine (prevs_in_expr e)) (prevs_stand_in mine b)
      (truth_stands e truth known mine related (and_first (are_known known (roots_in e)) (stand_in_turn of known) stands))
      (block.stands known mine related (and_second (are_known known (roots_in e)) (stand_in_turn of known) stands))

  guarded_turned : (place : Place) (guard : Guard) (e : Expr) (body : List Stmt) → Each P body → P (stmt place (StmtKind-F.When guard e body))
  guarded_turned place guard e body each =
      by_kind place (StmtKind-F.When guard e body) (λ p. When (label_at p) place guard e (plain_block body (inside (label_at p) 0)))
      (λ p. plains.guarded place p guard e body)
      (λ fit p.
      let l : Label = label_at p in
      let b : Block = plain_block body (inside l 0) in
      let truth = is_truth (type_of site e) in
      let rest = and_second (is_activity site.kind) (truth && all_of (map (fits site) body)) fit in
      let block = block_here body each (and_second truth (all_of (map (fits site) body)) rest) (inside l 0) in
      record {
        declared = refl;
        stands = tested_stands e b (map scoped_of body) (and_first truth (all_of (map (fits site) body)) rest) block;
      })

  repeat_turned : (place : Place) (body : List Stmt) → Each P body → P (stmt place (StmtKind-F.Repeat body))
  repeat_turned place body each =
      by_kind place (StmtKind-F.Repeat body) (λ p. Repeat (label_at p) place (plain_block body (inside (label_at p) 0)))
      (λ p. plains.endless place p body)
      (λ fit p.
      let l : Label = label_at p in
      let b : Block = plain_block body (inside l 0) in
      let block = block_here body each fit (inside l 0) in
      record {
        declared = refl;
        stands = block.stands;
      })

  until_turned : (place : Place) (body : List Stmt) (e : Expr) → Each P body → P (stmt place (StmtKind-F.Until body e))
  until_turned place body e each =
      by_kind place (StmtKind-F.Until body e) (λ p. Until (label_at p) place (plain_block body (inside (label_at p) 0)) e)
      (λ p. plains.until place p body e)
      (λ fit p.
      let l : Label = label_at p in
      let b : Block = plain_block body (inside l 0) in
      let block = block_here body each (and_first (all_of (map (fits site) body)) (is_truth (type_of site e)) fit) (inside l 0) in
      record {
        declared = refl;
        stands = tested_stands e b (map scoped_of body) (and_second (all_of (map (fits site) body)) (is_truth (type_of site e)) fit) block;
      })

  while_turned : (place : Place) (e : Expr) (body : List Stmt) → Each P body → P (stmt place (StmtKind-F.While e body))
  while_turned place e body each =
      by_kind place (StmtKind-F.While e body) (λ p. While (label_at p) place e (plain_block body (inside (label_at p) 0)))
      (λ p. plains.while place p e body)
      (λ fit p.
      let l : Label = label_at p in
      let b : Block = plain_block body (inside l 0) in
      let block = block_here body each (and_second (is_truth (type_of site e)) (all_of (map (fits site) body)) fit) (inside l 0) in
      record {
        declared = refl;
        stands = tested_stands e b (map scoped_of body) (and_first (is_truth (type_of site e)) (all_of (map (fits site) body)) fit) block;
      })

  -- ---- pauses and `run`s

  await_turned : (place : Place) (e : Expr) → P (stmt place (StmtKind-F.Await e))
  await_turned place e =
      by_kind place (StmtKind-F.Await e) (λ p. Await (label_at p) place e) (λ p. plains.pause place p e)
      (λ fit p.
      let l : Label = label_at p in
      record {
        declared = refl;
        stands = truth_stands e (and_second (is_activity site.kind) (is_truth (type_of site e)) fit);
      })

  run_turned : (place : Place) (target : Option Path) (a : ℕ) (inputs : List Expr) (outputs : List Path) →
      P (stmt place (StmtKind-F.Run target a inputs outputs))
  run_turned place target a inputs outputs =
      by_kind place (StmtKind-F.Run target a inputs outputs) (λ p. RunOf (label_at p) place target a inputs outputs)
      (λ p. plains.run place p target a inputs outputs)
      (λ fit p.
      record {
        declared = refl;
        stands = λ known mine related stands.
            run_stands target inputs outputs (slice_get site.earlier a) fit known mine related
            (all_right known (target_roots target) (apart.argument_roots inputs outputs) stands);
      })

  cases : Cases P
  cases = record {
    declare = λ place k initial. by_act place (StmtKind-F.Declare k initial) (λ p. plains.declaration place p k initial)
        (declares_of place (StmtKind-F.Declare k initial) (k ∷ []) refl)
        (λ fit known mine related stands. initial_stands initial (var_at site k) fit known mine related stands);
    assign = λ place path e. by_act place (StmtKind-F.Assign path e) (λ p. plains.assignment place p path e)
        (declares_of place (StmtKind-F.Assign path e) [] refl)
        (λ fit known mine related stands. assign_stands path e fit known mine related stands);
    call = λ place f inputs outputs. by_act place (StmtKind-F.Call f inputs outputs) (λ p. plains.call place p f inputs outputs)
        (declares_of place (StmtKind-F.Call f inputs outputs) [] refl)
        (λ fit known mine related stands. call_stands inputs outputs (slice_get site.earlier f) fit known mine related stands);
    returns = λ place e. by_act place (StmtKind-F.Return e) (λ p. plains.returns place p e)
        (declares_of place (StmtKind-F.Return e) [] refl)
        (λ fit known mine related stands. return_stands e site.result fit known mine related stands);
    await = await_turned;
    run = run_turned;
    branching = if_turned;
    cobegin = cobegin_turned;
    guarded = guarded_turned;
    repeat = repeat_turned;
    until = until_turned;
    while = while_turned;
  }

  -- the statements of a body that fit
  pub body_turned : (body : List Stmt) → all_of (map (fits site) body) ≡ true → (p : Position) →
      BlockTurned site (plain_block body p) (map scoped_of body)
  body_turned body fit p = block_turned body (λ k d within. induct P cases _) fit 0 p
