-- What is made of blocks fits, and so what is made of each statement.
use Rattle.std.proofs.Common.{◌≡◌, ℕ, List, [], ◌∷◌, ◌++◌, map, Option, Some, refl, ap, sym, subst, ◌∙◌}
use Rattle.std.specs.Prelude.{All, Bool, true, false, ◌&&◌, option_map, slice_get}
use Rattle.std.specs.List.{list_all}
use Rattle.std.proofs.lemmas.List.Elements.{All-cons, All-head, All-nil, All-tail}
use Rattle.std.proofs.lemmas.Option.{same_Some}
use Rattle.std.proofs.lemmas.Bool.{and_from}
use Rattle.bl_tree.proofs.Basics.{all_of_each, and_first, and_second, false_not_true, first_empty, second_empty}
use Rattle.bl_tree.specs.declared.place.Place.{Place}
use Rattle.bl_tree.specs.declared.rule.Failure.{Failure}
use Rattle.bl_tree.specs.declared.scalar.Scalar.TheVariants.{Bool as OfBool}
use Rattle.bl_tree.specs.declared.tree.Arm.{Arm}
use Rattle.bl_tree.specs.declared.tree.Branch.{Branch, fold-roll-Branch, roll-Branch}
use Rattle.bl_tree.specs.declared.tree.Expr.{Expr}
use Rattle.bl_tree.specs.declared.tree.Guard.{Guard}
use Rattle.bl_tree.specs.declared.tree.Stmt.{Stmt}
use Rattle.bl_tree.specs.declared.tree.StmtKind.{StmtKind}
use Rattle.bl_tree.specs.declared.tree.StmtKind.TheOpen.{StmtKind-F}
use Rattle.bl_tree.specs.declared.tree.StmtKind.TheVariants as what
use Rattle.bl_tree.specs.Reduce.{all_of}
use Rattle.bl_tree.specs.Types.{scalar}
use Rattle.bl_tree.specs.Typing.{TypingContext, declaration_fits, fits, is_activity, is_inhabited, is_truth, type_of, var_at}
use Rattle.bl_eval.proofs.OperatorFits.{some_found, where_holds}
use Rattle.bl_names_tree.specs.declared.expr.NamedExpr.{NamedExpr}
use Rattle.bl_names_tree.specs.declared.item.NamedConstant.{NamedConstant}
use Rattle.bl_names_tree.specs.declared.item.NamedVar.{NamedVar}
use Rattle.bl_names_tree.specs.declared.stmt.NamedArm.{NamedArm, fold-roll-NamedArm, roll-NamedArm}
use Rattle.bl_names_tree.specs.declared.stmt.NamedBranch.{NamedBranch, fold-roll-NamedBranch, roll-NamedBranch}
use Rattle.bl_names_tree.specs.declared.stmt.NamedStmt.{NamedStmt, fold-roll-NamedStmt}
use Rattle.bl_names_tree.specs.declared.stmt.NamedStmtKind.{NamedStmtKind, fold-NamedStmtKind, fold-roll-NamedStmtKind, map-NamedStmtKind}
use Rattle.bl_names_tree.specs.declared.stmt.NamedStmtKind.TheOpen.{NamedStmtKind-F}
use Rattle.bl_names_tree.specs.Placed.{DeclaredBefore, PlacedStep, expr_placed, in_turn, stmt_step, tested}
use Rattle.bl_names_tree.specs.inner.Placed.{step_of_arm, step_of_branch}
use Rattle.bl_types.specs.declared.environment.Environment.{Environment}
use Rattle.bl_types.specs.Settled.{Settled}
use Rattle.bl_types.specs.Statements.{Block, StatementJudgement, Walked, arm_of, arm_walked, branch_walked, condition, in_order, misplaced, stmt_made, under}
use Rattle.bl_types.specs.Statements.{walked, walked_arm, walked_block, walked_branch, walked_stmt}
use Rattle.bl_types_laws.specs.Fitting.{IsMade}
use Rattle.bl_types_laws.specs.Standing.{Around, BlockPassed, Known, PartPassed, VariablesThere, arm_named, branch_named, kind_named, stmt_layer_named}
use Rattle.bl_types_laws.specs.Standing.{stmt_named}
use Rattle.bl_types_laws.specs.Within.{calls_functions, known_in}
use Rattle.bl_types_laws.specs.inner.Named.{named_arm, named_branch}
use Rattle.bl_types_laws.proofs.Arguments.{condition_fits}
use Rattle.bl_types_laws.proofs.Declared.{constant_walk_fits, declare_fits}
use Rattle.bl_types_laws.proofs.Forms.{map_found}
use Rattle.bl_types_laws.proofs.MorePlaced.{placed_still}
use Rattle.bl_types_laws.proofs.NamedStmtInduction.{Cases, induct, induct_arm, stmt}
use Rattle.bl_types_laws.proofs.Statements.{arm_is, assign_fits, await_fits, call_fit, fits_is, good_arm, good_branch, own_kind, return_walk_fits, run_fit}
use Rattle.bl_types_laws.proofs.Statements.{truth_made}
use Rattle.bl_types_laws.proofs.StmtLayers.{Layer, step_by, step_is, walked_by, walked_is}
use Rattle.bl_types_laws.proofs.Walks.{own_calls, WalkFits, block_fits, grown_around, grown_further, grown_there, within_of}

-- what holds of each that passes a test, where all pass
pub each_walk : {X : Type 0} (named : X → Bool) (W : X → Type 0) (xs : List X) → All (λ x. named x ≡ true → W x) xs →
    all_of (map named xs) ≡ true → All W xs
each_walk named W [] each all = All-nil W
each_walk named W (x ∷ xs) each all =
    All-cons W x xs (All-head (λ x. named x ≡ true → W x) x xs each (and_first (named x) (all_of (map named xs)) all))
    (each_walk named W xs (All-tail (λ x. named x ≡ true → W x) x xs each) (and_second (named x) (all_of (map named xs)) all))

pub inhabited_mapped : {X Y : Type 0} (f : X → Y) (xs : List X) → is_inhabited (map f xs) ≡ is_inhabited xs
inhabited_mapped f [] = refl
inhabited_mapped f (x ∷ xs) = refl

-- what must be made, as what may be
may_be_made : {A : Type 0} (site : TypingContext) (good : A → Bool) (env : Environment) (counts : DeclaredBefore) (after : Walked A) →
    PartPassed true site good env counts after →
    PartPassed false site good env counts after
may_be_made site good env counts after passed = record {
  grown = passed.grown;
  known = passed.known;
  counts_are = passed.counts_are;
  is_good = passed.is_good;
  is_made = λ must there. absurd (false_not_true must);
}

-- a block of which something is made
whole_passed : {A : Type 0} (site : TypingContext) (good : A → Bool) (inhabited : Bool) (env : Environment) (counts : DeclaredBefore) (body : Block Stmt) (a : A) →
    BlockPassed site (fits site) inhabited env counts body →
    (all_of (map (fits site) body.made) ≡ true → good a ≡ true) → PartPassed true site good env counts (walked body.env (Some a) body.failures)
whole_passed site good inhabited env counts body a passed fit = record {
  grown = passed.grown;
  known = passed.known;
  counts_are = passed.counts_are;
  is_good = λ there b is. subst (λ b. good b ≡ true) (same_Some a b is) (fit (passed.is_good there));
  is_made = λ must there. (a, refl);
}

module _ (constants : List NamedConstant) (vars : List NamedVar) (site : TypingContext) where
  abbrev P : NamedStmt → Type 0
  P s = stmt_named constants vars site.earlier s ≡ true → WalkFits false site (fits site) (walked_stmt constants vars s) (stmt_step vars constants s)

  abbrev Q : NamedArm → Type 0
  Q arm = named_arm constants vars site.earlier arm ≡ true →
      WalkFits true site (good_arm site) (arm_walked constants vars arm) (step_of_arm vars constants arm)

  abbrev R : NamedBranch → Type 0
  R branch = named_branch constants vars site.earlier branch ≡ true → WalkFits true site (good_branch site) (branch_walked constants vars branch)
      (step_of_branch vars constants branch)

  body_fits : (body : List NamedStmt) → All P body → all_of (map (stmt_named constants vars site.earlier) body) ≡ true →
      (env : Environment) → Around env site →
      Known env → (counts : DeclaredBefore) →
      in_turn (map (stmt_step vars constants) body) (known_in env) ≡ Some counts →
      (in_order (map (walked_stmt constants vars) body) env).failures ≡ [] →
      BlockPassed site (fits site) false env counts (in_order (map (walked_stmt constants vars) body) env)
  body_fits body each named =
      block_fits false site (fits site) (walked_stmt constants vars) (stmt_step vars constants) body
      (each_walk (stmt_named constants vars site.earlier) (λ s. WalkFits false site (fits site) (walked_stmt constants vars s) (stmt_step vars constants s))
      body each named)

  -- a condition and a block behind it
  under_passed : {A : Type 0} (good : A → Bool) (earlier : List Failure) (e : NamedExpr) (body : List NamedStmt)
      (make : Expr → List Stmt → A) → All P body →
      all_of (map (stmt_named constants vars site.earlier) body) ≡ true →
      calls_functions site.earlier e ≡ true → (env : Environment) → Around env site → Known env → (counts : DeclaredBefore) →
      tested e (map (stmt_step vars constants) body) (known_in env) ≡ Some counts →
      ((test : Expr) (body : List Stmt) → is_truth (type_of site test) ≡ true → all_of (map (fits site) body) ≡ true →
      good (make test body) ≡ true) →
      (earlier ++ ((condition env e).failures ++ (in_order (map (walked_stmt constants vars) body) env).failures)) ≡ [] →
      PartPassed true site good env counts (under earlier (condition env e) (in_order (map (walked_stmt constants vars) body) env) make)
  under_passed good earlier e body make each named calls env around known counts step fit none =
      let test : Settled = condition env e in
      let all : Block Stmt = in_order (map (walked_stmt constants vars) body) env in
      let holds = where_holds (expr_placed (known_in env) e) (in_turn (map (stmt_step vars constants) body) (known_in env)) counts step in
      let behind : test.failures ++ all.failures ≡ [] = second_empty earlier (test.failures ++ all.failures) none in
      let passed = body_fits body each named env around known counts holds.1 (second_empty test.failures all.failures behind) in
      let tests : VariablesThere all.env site → IsMade site (scalar OfBool) test.made =
      λ there. condition_fits env site (within_of env site around known (grown_there env all.env site passed.grown there)) e holds.0
      (own_calls env site around e calls)
      (first_empty test.failures all.failures behind) in
      record {
        grown = passed.grown;
        known = passed.known;
        counts_are = passed.counts_are;
        is_good = λ there a is.
            let found = map_found (λ e. make e all.made) test.made a is in
            subst (λ a. good a ≡ true) found.2 (fit found.0 all.made (truth_made site test.made found.0 (tests there) found.1) (passed.is_good there));
        is_made = λ must there. let made = tests there in (make made.it all.made, ap (option_map (λ e. make e all.made)) made.is);
      }

  -- ---- by the kind of a statement

  abbrev pub named_by : Layer → Bool
  named_by layer = kind_named constants vars site.earlier
      (map-NamedStmtKind NamedStmtKind NamedArm NamedBranch NamedStmt Bool Bool Bool Bool
      (fold-NamedStmtKind Bool Bool Bool Bool (kind_named constants vars site.earlier) (arm_named site.earlier) branch_named stmt_layer_named)
      (named_arm constants vars site.earlier) (named_branch constants vars site.earlier) (stmt_named constants vars site.earlier) layer)

  pub named_is : (place : Place) (layer : Layer) → stmt_named constants vars site.earlier (stmt place layer) ≡ named_by layer
  named_is place layer = rw (fold-roll-NamedStmt, fold-roll-NamedStmtKind) refl

  abbrev good : Place → StmtKind → Bool
  good place kind = fits site (stmt_made place kind)

  in_place : (place : Place) (env : Environment) (counts : DeclaredBefore) (kind : Walked StmtKind) → PartPassed false site (good place) env counts kind →
      PartPassed false site (fits site) env counts (walked kind.env (option_map (stmt_made place) kind.made) kind.failures)
  in_place place env counts kind passed = record {
    grown = passed.grown;
    known = passed.known;
    counts_are = passed.counts_are;
    is_good = λ there a is.
        let found = map_found (stmt_made place) kind.made a is in
        subst (λ a. fits site a ≡ true) found.2 (passed.is_good there found.0 found.1);
    is_made = λ must there. absurd (false_not_true must);
  }

  by_kind : (place : Place) (layer : Layer) → (named_by layer ≡ true → WalkFits false site (good place) (walked_by constants vars layer place)
      (step_by constants vars layer)) → P (stmt place layer)
  by_kind place layer fit named env around known counts step none =
      subst (λ (walk : StatementJudgement Stmt). PartPassed false site (fits site) env counts (walk env)) (sym (walked_is constants vars place layer))
      (in_place place env counts (walked_by constants vars layer place env)
      (fit (sym (named_is place layer) ∙ named) env around known counts (ap (λ (step : PlacedStep). step (known_in env)) (sym (step_is constants vars place layer))
      ∙ step)
      (ap (λ (walk : StatementJudgement Stmt). (walk env).failures) (sym (walked_is constants vars place layer)) ∙ none)))

  -- ---- statements with blocks

  if_good : (place : Place) (arms : List Arm) (other : List Stmt) → is_inhabited arms ≡ true → all_of (map (good_arm site) arms) ≡ true →
      all_of (map (fits site) other) ≡ true → good place (what.If arms other) ≡ true
  if_good place arms other some each rest =
      fits_is site place (what.If arms other) (StmtKind-F.If arms other) (what.outs-If arms other)
      ∙ and_from (is_inhabited (map (good_arm site) arms)) _ (inhabited_mapped (good_arm site) arms ∙ some)
      (and_from (all_of (map (good_arm site) arms)) (all_of (map (fits site) other)) each rest)

  if_fits : (place : Place) (arms : List NamedArm) (other : List NamedStmt) → All Q arms → All P other → P (stmt place (NamedStmtKind-F.If arms other))
  if_fits place arms other each rest = by_kind place (NamedStmtKind-F.If arms other)
      (λ named env around known counts step none.
      let some : is_inhabited (map (named_arm constants vars site.earlier) arms) ≡ true =
      and_first (is_inhabited (map (named_arm constants vars site.earlier) arms)) _ named in
      let parts = and_second (is_inhabited (map (named_arm constants vars site.earlier) arms))
      (all_of (map (named_arm constants vars site.earlier) arms) && all_of (map (stmt_named constants vars site.earlier) other)) named in
      let all : Block Arm = in_order (map (arm_walked constants vars) arms) env in
      let last : Block Stmt = in_order (map (walked_stmt constants vars) other) all.env in
      let found = some_found (in_turn (map (stmt_step vars constants) other)) (in_turn (map (step_of_arm vars constants) arms) (known_in env)) counts step in
      let first = block_fits true site (good_arm site) (arm_walked constants vars) (step_of_arm vars constants) arms
      (each_walk (named_arm constants vars site.earlier) (λ arm. WalkFits true site (good_arm site) (arm_walked constants vars arm)
      (step_of_arm vars constants arm)) arms each
      (and_first (all_of (map (named_arm constants vars site.earlier) arms)) (all_of (map (stmt_named constants vars site.earlier) other)) parts))
      env around known found.0 found.1 (first_empty all.failures last.failures none) in
      let second = body_fits other rest (and_second (all_of (map (named_arm constants vars site.earlier) arms))
      (all_of (map (stmt_named constants vars site.earlier) other)) parts) all.env
      (grown_around env all.env site first.grown around) first.known counts (ap (in_turn (map (stmt_step vars constants) other)) first.counts_are ∙ found.2)
      (second_empty all.failures last.failures none) in
      record {
        grown = grown_further env all.env last.env first.grown second.grown;
        known = second.known;
        counts_are = second.counts_are;
        is_good = λ there a is.
            let before = grown_there all.env last.env site second.grown there in
            subst (λ a. good place a ≡ true) (same_Some (what.If all.made last.made) a is)
            (if_good place all.made last.made (first.is_inhabited_still (sym (inhabited_mapped (named_arm constants vars site.earlier) arms) ∙ some) before)
            (first.is_good before) (second.is_good there));
        is_made = λ must there. absurd (false_not_true must);
      })

  cobegin_good : (place : Place) (branches : List Branch) → is_activity site.kind ≡ true → is_inhabited branches ≡ true →
      all_of (map (good_branch site) branches) ≡ true → good place (what.Cobegin branches) ≡ true
  cobegin_good place branches own some each =
      fits_is site place (what.Cobegin branches) (StmtKind-F.Cobegin branches) (what.outs-Cobegin branches)
      ∙ and_from (is_activity site.kind) _ own (and_from (is_inhabited (map (good_branch site) branches)) (all_of (map (good_branch site) branches))
      (inhabited_mapped (good_branch site) branches ∙ some) each)

  cobegin_fits : (place : Place) (branches : List NamedBranch) → All R branches → P (stmt place (NamedStmtKind-F.Cobegin branches))
  cobegin_fits place branches each = by_kind place (NamedStmtKind-F.Cobegin branches)
      (λ named env around known counts step none.
      let all : Block Branch = in_order (map (branch_walked constants vars) branches) env in
      let some = and_first (is_inhabited (map (named_branch constants vars site.earlier) branches))
      (all_of (map (named_branch constants vars site.earlier) branches)) named in
      let passed = block_fits true site (good_branch site) (branch_walked constants vars) (step_of_branch vars constants) branches
      (each_walk (named_branch constants vars site.earlier) (λ branch. WalkFits true site (good_branch site) (branch_walked constants vars branch)
      (step_of_branch vars constants branch)) branches each
      (and_second (is_inhabited (map (named_branch constants vars site.earlier) branches)) (all_of (map (named_branch constants vars site.earlier) branches))
      named))
      env around known counts step (second_empty (misplaced env.kind place) all.failures none) in
      record {
        grown = passed.grown;
        known = passed.known;
        counts_are = passed.counts_are;
        is_good = λ there a is.
            subst (λ a. good place a ≡ true) (same_Some (what.Cobegin all.made) a is)
            (cobegin_good place all.made (own_kind site place env around (first_empty (misplaced env.kind place) all.failures none))
            (passed.is_inhabited_still (sym (inhabited_mapped (named_branch constants vars site.earlier) branches) ∙ some) there) (passed.is_good there));
        is_made = λ must there. absurd (false_not_true must);
      })

  when_fits : (place : Place) (guard : Guard) (e : NamedExpr) (body : List NamedStmt) → All P body → P (stmt place (NamedStmtKind-F.When guard e body))
  when_fits place guard e body each = by_kind place (NamedStmtKind-F.When guard e body)
      (λ named env around known counts step none.
      may_be_made site (good place) env counts (under (misplaced env.kind place) (condition env e) (in_order (map (walked_stmt constants vars) body) env)
      (what.When guard))
      (under_passed (good place) (misplaced env.kind place) e body (what.When guard) each
      (and_second (calls_functions site.earlier e) (all_of (map (stmt_named constants vars site.earlier) body)) named)
      (and_first (calls_functions site.earlier e) (all_of (map (stmt_named constants vars site.earlier) body)) named)
      env around known counts step
      (λ test made truth all.
      fits_is site place (what.When guard test made) (StmtKind-F.When guard test made) (what.outs-When guard test made)
      ∙ and_from (is_activity site.kind) _ (own_kind site place env around (first_empty (misplaced env.kind place) _ none))
      (and_from (is_truth (type_of site test)) (all_of (map (fits site) made)) truth all))
      none))

  repeat_fits : (place : Place) (body : List NamedStmt) → All P body → P (stmt place (NamedStmtKind-F.Repeat body))
  repeat_fits place body each = by_kind place (NamedStmtKind-F.Repeat body)
      (λ named env around known counts step none.
      let all : Block Stmt = in_order (map (walked_stmt constants vars) body) env in
      may_be_made site (good place) env counts (walked all.env (Some (what.Repeat all.made)) all.failures)
      (whole_passed site (good place) false env counts all (what.Repeat all.made) (body_fits body each named env around known counts step none)
      (λ good. fits_is site place (what.Repeat all.made) (StmtKind-F.Repeat all.made) (what.outs-Repeat all.made) ∙ good)))

  until_good : (place : Place) (body : List Stmt) (test : Expr) → all_of (map (fits site) body) ≡ true → is_truth (type_of site test) ≡ true →
      good place (what.Until body test) ≡ true
  until_good place body test all truth =
      fits_is site place (what.Until body test) (StmtKind-F.Until body test) (what.outs-Until body test)
      ∙ and_from (all_of (map (fits site) body)) (is_truth (type_of site test)) all truth

  until_fits : (place : Place) (body : List NamedStmt) (e : NamedExpr) → All P body → P (stmt place (NamedStmtKind-F.Until body e))
  until_fits place body e each = by_kind place (NamedStmtKind-F.Until body e)
      (λ named env around known counts step none.
      let all : Block Stmt = in_order (map (walked_stmt constants vars) body) env in
      let test : Settled = condition all.env e in
      let holds = where_holds (expr_placed (known_in env) e) (in_turn (map (stmt_step vars constants) body) (known_in env)) counts step in
      let passed = body_fits body each (and_first (all_of (map (stmt_named constants vars site.earlier) body)) (calls_functions site.earlier e) named) env around
      known counts holds.1 (first_empty all.failures test.failures none) in
      let after : Around all.env site = grown_around env all.env site passed.grown around in
      record {
        grown = passed.grown;
        known = passed.known;
        counts_are = passed.counts_are;
        is_good = λ there a is.
            let found = map_found (λ e. what.Until all.made e) test.made a is in
            let made = condition_fits all.env site (within_of all.env site after passed.known there) e (placed_still env all.env passed.grown e holds.0)
            (own_calls all.env site after e (and_second (all_of (map (stmt_named constants vars site.earlier) body)) (calls_functions site.earlier e) named))
            (second_empty all.failures test.failures none) in
            subst (λ a. good place a ≡ true) found.2 (until_good place all.made found.0 (passed.is_good there)
            (truth_made site test.made found.0 made found.1));
        is_made = λ must there. absurd (false_not_true must);
      })

  while_fits : (place : Place) (e : NamedExpr) (body : List NamedStmt) → All P body → P (stmt place (NamedStmtKind-F.While e body))
  while_fits place e body each = by_kind place (NamedStmtKind-F.While e body)
      (λ named env around known counts step none.
      may_be_made site (good place) env counts (under [] (condition env e) (in_order (map (walked_stmt constants vars) body) env) what.While)
      (under_passed (good place) [] e body what.While each
      (and_second (calls_functions site.earlier e) (all_of (map (stmt_named constants vars site.earlier) body)) named)
      (and_first (calls_functions site.earlier e) (all_of (map (stmt_named constants vars site.earlier) body)) named)
      env around known counts step
      (λ test made truth all.
      fits_is site place (what.While test made) (StmtKind-F.While test made) (what.outs-While test made)
      ∙ and_from (is_truth (type_of site test)) (all_of (map (fits site) made)) truth all)
      none))

  -- ---- arms and branches

  arm_case : (test : NamedExpr) (body : List NamedStmt) → All P body → Q (roll-NamedArm (record { test = test; body = body }))
  arm_case test body each named env around known counts step none =
      let named_as : named_arm constants vars site.earlier (roll-NamedArm (record { test = test; body = body }))
      ≡ (calls_functions site.earlier test && all_of (map (stmt_named constants vars site.earlier) body)) = rw fold-roll-NamedArm refl in
      let walked_as : arm_walked constants vars (roll-NamedArm (record { test = test; body = body }))
      ≡ walked_arm (record { test = test; body = map (walked_stmt constants vars) body }) = rw fold-roll-NamedArm refl in
      let step_as : step_of_arm vars constants (roll-NamedArm (record { test = test; body = body })) ≡ tested test (map (stmt_step vars constants) body) =
      rw fold-roll-NamedArm refl in
      let named' : (calls_functions site.earlier test && all_of (map (stmt_named constants vars site.earlier) body)) ≡ true = sym named_as ∙ named in
      subst (λ (walk : StatementJudgement Arm). PartPassed true site (good_arm site) env counts (walk env)) (sym walked_as)
      (under_passed (good_arm site) [] test body arm_of each
      (and_second (calls_functions site.earlier test) (all_of (map (stmt_named constants vars site.earlier) body)) named')
      (and_first (calls_functions site.earlier test) (all_of (map (stmt_named constants vars site.earlier) body)) named')
      env around known counts (ap (λ (step : PlacedStep). step (known_in env)) (sym step_as) ∙ step)
      (λ test made truth all. arm_is site test made ∙ and_from (is_truth (type_of site test)) (all_of (map (fits site) made)) truth all)
      (ap (λ (walk : StatementJudgement Arm). (walk env).failures) (sym walked_as) ∙ none))

  branch_case : (weak : Bool) (body : List NamedStmt) → All P body → R (roll-NamedBranch (record { weak = weak; body = body }))
  branch_case weak body each named env around known counts step none =
      let named_as : named_branch constants vars site.earlier (roll-NamedBranch (record { weak = weak; body = body }))
      ≡ all_of (map (stmt_named constants vars site.earlier) body) = rw fold-roll-NamedBranch refl in
      let walked_as : branch_walked constants vars (roll-NamedBranch (record { weak = weak; body = body }))
      ≡ walked_branch (record { weak = weak; body = map (walked_stmt constants vars) body }) = rw fold-roll-NamedBranch refl in
      let step_as : step_of_branch vars constants (roll-NamedBranch (record { weak = weak; body = body })) ≡ in_turn (map (stmt_step vars constants) body) =
      rw fold-roll-NamedBranch refl in
      let all : Block Stmt = in_order (map (walked_stmt constants vars) body) env in
      subst (λ (walk : StatementJudgement Branch). PartPassed true site (good_branch site) env counts (walk env)) (sym walked_as)
      (whole_passed site (good_branch site) false env counts all (roll-Branch (record { weak = weak; body = all.made }))
      (body_fits body each (sym named_as ∙ named) env around known counts (ap (λ (step : PlacedStep). step (known_in env)) (sym step_as) ∙ step)
      (ap (λ (walk : StatementJudgement Branch). (walk env).failures) (sym walked_as) ∙ none))
      (λ good. branch_is weak all.made ∙ good))
    where
      branch_is : (weak : Bool) (made : List Stmt) → good_branch site (roll-Branch (record { weak = weak; body = made })) ≡ all_of (map (fits site) made)
      branch_is weak made = rw fold-roll-Branch refl

  declare_good : (place : Place) (k : ℕ) (it : Option Expr) → declaration_fits site it (var_at site k) ≡ true → good place (what.Declare k it) ≡ true
  declare_good place k it fit = fits_is site place (what.Declare k it) (StmtKind-F.Declare k it) (what.outs-Declare k it) ∙ fit

  cases : Cases P Q R
  cases = record {
    declare = λ place k value. by_kind place (NamedStmtKind-F.Declare k value)
        (declare_fits site (good place) k (slice_get vars k) value (declare_good place k));
    constant = λ place k. by_kind place (NamedStmtKind-F.Const k) (constant_walk_fits site (good place) k (slice_get constants k));
    assign = λ place target e. by_kind place (NamedStmtKind-F.Assign target e) (assign_fits site place target e);
    call = λ place name f inputs outputs. by_kind place (NamedStmtKind-F.Call name f inputs outputs) (call_fit site place name f inputs outputs);
    await = λ place e. by_kind place (NamedStmtKind-F.Await e) (await_fits site place e);
    run = λ place target name a inputs outputs. by_kind place (NamedStmtKind-F.Run target name a inputs outputs)
        (run_fit site place target name a inputs outputs);
    branching = if_fits;
    cobegin = cobegin_fits;
    guarded = when_fits;
    repeat = repeat_fits;
    until = until_fits;
    while = while_fits;
    returns = λ place e. by_kind place (NamedStmtKind-F.Return e) (return_walk_fits site place e);
    arm = arm_case;
    branch = branch_case;
  }

  -- a statement in which nothing fails fits
  pub statement_fits : (s : NamedStmt) → stmt_named constants vars site.earlier s ≡ true →
      WalkFits false site (fits site) (walked_stmt constants vars s) (stmt_step vars constants s)
  statement_fits = induct P Q R cases

  -- and so does an arm
  pub arm_fits_there : (arm : NamedArm) → named_arm constants vars site.earlier arm ≡ true →
      WalkFits true site (good_arm site) (arm_walked constants vars arm) (step_of_arm vars constants arm)
  arm_fits_there = induct_arm P Q R cases

  each_arm : (arms : List NamedArm) → all_of (map (named_arm constants vars site.earlier) arms) ≡ true →
      All (λ arm. WalkFits true site (good_arm site) (arm_walked constants vars arm) (step_of_arm vars constants arm)) arms
  each_arm [] named = All-nil (λ arm. WalkFits true site (good_arm site) (arm_walked constants vars arm) (step_of_arm vars constants arm))
  each_arm (arm ∷ rest) named =
      All-cons (λ arm. WalkFits true site (good_arm site) (arm_walked constants vars arm) (step_of_arm vars constants arm)) arm rest
      (arm_fits_there arm (and_first (named_arm constants vars site.earlier arm) (all_of (map (named_arm constants vars site.earlier) rest)) named))
      (each_arm rest (and_second (named_arm constants vars site.earlier arm) (all_of (map (named_arm constants vars site.earlier) rest)) named))

  pub arms_fit : (arms : List NamedArm) → all_of (map (named_arm constants vars site.earlier) arms) ≡ true → (env : Environment) →
      Around env site → Known env →
      (counts : DeclaredBefore) →
      in_turn (map (step_of_arm vars constants) arms) (known_in env) ≡ Some counts →
      (in_order (map (arm_walked constants vars) arms) env).failures ≡ [] →
      BlockPassed site (good_arm site) (true && is_inhabited arms) env counts (in_order (map (arm_walked constants vars) arms) env)
  arms_fit arms named = block_fits true site (good_arm site) (arm_walked constants vars) (step_of_arm vars constants) arms (each_arm arms named)

  each_fits : (body : List NamedStmt) → All P body
  each_fits [] = All-nil P
  each_fits (s ∷ rest) = All-cons P s rest (statement_fits s) (each_fits rest)

  -- and so do the statements of a block
  pub statements_fit : (body : List NamedStmt) → list_all (stmt_named constants vars site.earlier) body ≡ true →
      (env : Environment) → Around env site →
      Known env → (counts : DeclaredBefore) →
      in_turn (map (stmt_step vars constants) body) (known_in env) ≡ Some counts → (walked_block constants vars body env).failures ≡ [] →
      BlockPassed site (fits site) false env counts (walked_block constants vars body env)
  statements_fit body named = body_fits body (each_fits body) (all_of_each (stmt_named constants vars site.earlier) body named)
