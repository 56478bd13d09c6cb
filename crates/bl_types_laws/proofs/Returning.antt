-- What surely returns as it is named does so as it is made.
use Rattle.std.proofs.Common.{◌≡◌, List, [], ◌∷◌, ◌++◌, map, Option, Some, None, refl, ap, sym, subst, ◌∙◌}
use Rattle.std.specs.Prelude.{All, Bool, true, false, ◌&&◌, option_map}
use Rattle.std.specs.List.{cons_option}
use Rattle.std.proofs.lemmas.List.Elements.{All-cons, All-head, All-nil, All-tail}
use Rattle.std.proofs.lemmas.Bool.{and_from}
use Rattle.bl_tree.proofs.Basics.{and_first, and_second, first_empty, second_empty}
use Rattle.bl_tree.specs.declared.place.Place.{Place}
use Rattle.bl_tree.specs.declared.scalar.Scalar.{Scalar as ScalarType}
use Rattle.bl_tree.specs.declared.tree.Arm.{Arm, fold-Arm, fold-roll-Arm}
use Rattle.bl_tree.specs.declared.tree.Branch.{Branch, fold-Branch}
use Rattle.bl_tree.specs.declared.tree.Expr.{Expr}
use Rattle.bl_tree.specs.declared.tree.Stmt.{Stmt, fold-roll-Stmt}
use Rattle.bl_tree.specs.declared.tree.StmtKind.{StmtKind, fold-StmtKind, fold_out-StmtKind, map-StmtKind, out-StmtKind}
use Rattle.bl_tree.specs.declared.tree.StmtKind.TheOpen.{StmtKind-F}
use Rattle.bl_tree.specs.declared.tree.StmtKind.TheVariants as what
use Rattle.bl_tree.specs.Reduce.{all_of}
use Rattle.bl_tree.specs.Returns.{arm_returns, branch_returns, kind_returns, last_of, stmt_returns, surely_returns}
use Rattle.bl_tree.specs.Types.{scalar}
use Rattle.bl_tree.specs.Typing.{TypingContext}
use Rattle.bl_eval.proofs.OperatorFits.{some_found, where_holds}
use Rattle.bl_names_tree.specs.declared.expr.NamedExpr.{NamedExpr}
use Rattle.bl_names_tree.specs.declared.item.NamedConstant.{NamedConstant}
use Rattle.bl_names_tree.specs.declared.item.NamedVar.{NamedVar}
use Rattle.bl_names_tree.specs.declared.stmt.NamedArm.{NamedArm, fold-roll-NamedArm, roll-NamedArm}
use Rattle.bl_names_tree.specs.declared.stmt.NamedBranch.{NamedBranch, fold-NamedBranch}
use Rattle.bl_names_tree.specs.declared.stmt.NamedStmt.{NamedStmt, fold-roll-NamedStmt}
use Rattle.bl_names_tree.specs.declared.stmt.NamedStmtKind.{NamedStmtKind, fold-NamedStmtKind, fold-roll-NamedStmtKind, map-NamedStmtKind}
use Rattle.bl_names_tree.specs.declared.stmt.NamedStmtKind.TheOpen.{NamedStmtKind-F}
use Rattle.bl_names_tree.specs.Placed.{DeclaredBefore, PlacedStep, declares_none, expr_placed, holds_if, in_turn, stmt_step, tested}
use Rattle.bl_names_tree.specs.inner.Placed.{step_of_arm}
use Rattle.bl_types.specs.declared.environment.Environment.{Environment}
use Rattle.bl_types.specs.Expressions.{in_context, judged}
use Rattle.bl_types.specs.Returns.{arm_surely_returns, arm_returns as named_arm_returns, branch_returns as named_branch_returns}
use Rattle.bl_types.specs.Returns.{kind_returns as named_kind_returns, layer_returns, surely_returns as named_surely_returns}
use Rattle.bl_types.specs.Statements.{Block, StatementJudgement, Walked, arm_of, arm_walked, condition, in_order, returned, stmt_made, walked_arm, walked_stmt}
use Rattle.bl_types_laws.specs.Standing.{Around, Known, stmt_named}
use Rattle.bl_types_laws.specs.Within.{calls_functions, known_in}
use Rattle.bl_types_laws.specs.inner.Named.{named_arm}
use Rattle.bl_types_laws.proofs.Arguments.{condition_fits}
use Rattle.bl_types_laws.proofs.Blocks.{arm_fits_there, arms_fit, named_by, named_is, statement_fits}
use Rattle.bl_types_laws.proofs.Expressions.{wanted_fits}
use Rattle.bl_types_laws.proofs.NamedStmtInduction.{Cases, induct, stmt}
use Rattle.bl_types_laws.proofs.StmtLayers.{Layer, step_by, step_is, walked_by, walked_is}
use Rattle.bl_types_laws.proofs.Walks.{own_calls, grown_around, site_in, within_in}

-- one is made, and returns
pub record ReturnMade {A : Type 0} (returns : A → Bool) (made : Option A) : Type 0 where
  pub it : A
  pub is : made ≡ Some it
  pub is_returning : returns it ≡ true

abbrev arm_surely : Arm → Bool
arm_surely = fold-Arm Bool Bool Bool Bool kind_returns arm_returns branch_returns stmt_returns

abbrev kind_surely : StmtKind-F StmtKind Arm Branch Stmt → Bool
kind_surely layer = kind_returns
    (map-StmtKind StmtKind Arm Branch Stmt Bool Bool Bool Bool (fold-StmtKind Bool Bool Bool Bool kind_returns arm_returns branch_returns stmt_returns)
    arm_surely
    (fold-Branch Bool Bool Bool Bool kind_returns arm_returns branch_returns stmt_returns) surely_returns layer)

surely_is : (at : Place) (kind : StmtKind) (layer : StmtKind-F StmtKind Arm Branch Stmt) → out-StmtKind kind ≡ layer →
    surely_returns (stmt_made at kind) ≡ kind_surely layer
surely_is at kind layer is = rw fold-roll-Stmt (fold_out-StmtKind Bool Bool Bool Bool kind_returns arm_returns branch_returns stmt_returns kind
    ∙ ap kind_surely is)

arm_surely_is : (test : Expr) (body : List Stmt) → arm_surely (arm_of test body) ≡ last_of (map surely_returns body)
arm_surely_is test body = rw fold-roll-Arm refl

last_front : (made : Option Stmt) (rest : List Stmt) → last_of (map surely_returns rest) ≡ true →
    last_of (map surely_returns (cons_option made rest)) ≡ true
last_front None rest is = is
last_front (Some a) [] is = absurd (cc)
last_front (Some a) (b ∷ rest) is = is

all_front : (made : Option Arm) (rest : List Arm) → ReturnMade arm_surely made → all_of (map arm_surely rest) ≡ true →
    all_of (map arm_surely (cons_option made rest)) ≡ true
all_front made rest one more = ap (λ made. all_of (map arm_surely (cons_option made rest))) one.is
    ∙ and_from (arm_surely one.it) (all_of (map arm_surely rest)) one.is_returning more

abbrev pub named_kind_surely : Layer → Bool
named_kind_surely layer = named_kind_returns
    (map-NamedStmtKind NamedStmtKind NamedArm NamedBranch NamedStmt Bool Bool Bool Bool
    (fold-NamedStmtKind Bool Bool Bool Bool named_kind_returns named_arm_returns named_branch_returns layer_returns) arm_surely_returns
    (fold-NamedBranch Bool Bool Bool Bool named_kind_returns named_arm_returns named_branch_returns layer_returns) named_surely_returns layer)

pub named_surely_is : (place : Place) (layer : Layer) → named_surely_returns (stmt place layer) ≡ named_kind_surely layer
named_surely_is place layer = rw (fold-roll-NamedStmt, fold-roll-NamedStmtKind) refl

module _ (constants : List NamedConstant) (vars : List NamedVar) (site : TypingContext) where
  -- what is known where a part of a body begins in which nothing fails
  abbrev Walking : {A : Type 0} → (A → Bool) → Bool → Bool → (Environment → Walked A) → PlacedStep → Type 0
  Walking returns named surely walk step =
      named ≡ true → surely ≡ true → (env : Environment) → Around env site → Known env → (counts : DeclaredBefore) →
      step (known_in env) ≡ Some counts →
      (walk env).failures ≡ [] → ReturnMade returns (walk env).made

  abbrev P : NamedStmt → Type 0
  P s = Walking surely_returns (stmt_named constants vars site.earlier s) (named_surely_returns s) (walked_stmt constants vars s) (stmt_step vars constants s)

  abbrev Q : NamedArm → Type 0
  Q arm = Walking arm_surely (named_arm constants vars site.earlier arm) (arm_surely_returns arm) (arm_walked constants vars arm)
      (step_of_arm vars constants arm)

  abbrev R : NamedBranch → Type 0
  R branch = Unit {0}

  body_returns : (body : List NamedStmt) → All P body → all_of (map (stmt_named constants vars site.earlier) body) ≡ true →
      last_of (map named_surely_returns body) ≡ true → (env : Environment) → Around env site → Known env →
      (counts : DeclaredBefore) → in_turn (map (stmt_step vars constants) body) (known_in env) ≡ Some counts →
      (in_order (map (walked_stmt constants vars) body) env).failures ≡ [] →
      last_of (map surely_returns (in_order (map (walked_stmt constants vars) body) env).made) ≡ true
  body_returns [] each named last env around known counts step none = absurd (cc)
  body_returns (s ∷ []) each named last env around known counts step none =
      let found = some_found (in_turn []) (stmt_step vars constants s (known_in env)) counts step in
      let one = All-head P s [] each (and_first (stmt_named constants vars site.earlier s) true named) last env around known found.0 found.1
      (first_empty (walked_stmt constants vars s env).failures [] none) in
      ap (λ made. last_of (map surely_returns (cons_option made []))) one.is ∙ one.is_returning
  body_returns (s ∷ t ∷ rest) each named last env around known counts step none =
      let next : Environment = (walked_stmt constants vars s env).env in
      let further : Block Stmt = in_order (map (walked_stmt constants vars) (t ∷ rest)) next in
      let found = some_found (in_turn (map (stmt_step vars constants) (t ∷ rest))) (stmt_step vars constants s (known_in env)) counts step in
      let passed = statement_fits constants vars site s (and_first (stmt_named constants vars site.earlier s)
      (all_of (map (stmt_named constants vars site.earlier) (t ∷ rest))) named) env around known found.0 found.1
      (first_empty (walked_stmt constants vars s env).failures further.failures none) in
      last_front (walked_stmt constants vars s env).made further.made
      (body_returns (t ∷ rest) (All-tail P s (t ∷ rest) each) (and_second (stmt_named constants vars site.earlier s)
      (all_of (map (stmt_named constants vars site.earlier) (t ∷ rest))) named) last next
      (grown_around env next site passed.grown around) passed.known counts
      (ap (in_turn (map (stmt_step vars constants) (t ∷ rest))) passed.counts_are ∙ found.2)
      (second_empty (walked_stmt constants vars s env).failures further.failures none))

  arms_return : (arms : List NamedArm) → All Q arms → all_of (map (named_arm constants vars site.earlier) arms) ≡ true →
      all_of (map arm_surely_returns arms) ≡ true → (env : Environment) → Around env site → Known env →
      (counts : DeclaredBefore) → in_turn (map (step_of_arm vars constants) arms) (known_in env) ≡ Some counts →
      (in_order (map (arm_walked constants vars) arms) env).failures ≡ [] →
      all_of (map arm_surely (in_order (map (arm_walked constants vars) arms) env).made) ≡ true
  arms_return [] each named all env around known counts step none = refl
  arms_return (arm ∷ rest) each named all env around known counts step none =
      let next : Environment = (arm_walked constants vars arm env).env in
      let further : Block Arm = in_order (map (arm_walked constants vars) rest) next in
      let found = some_found (in_turn (map (step_of_arm vars constants) rest)) (step_of_arm vars constants arm (known_in env)) counts step in
      let own = and_first (named_arm constants vars site.earlier arm) (all_of (map (named_arm constants vars site.earlier) rest)) named in
      let fine = first_empty (arm_walked constants vars arm env).failures further.failures none in
      let passed = arm_fits_there constants vars site arm own env around known found.0 found.1 fine in
      all_front (arm_walked constants vars arm env).made further.made
      (All-head Q arm rest each own (and_first (arm_surely_returns arm) (all_of (map arm_surely_returns rest)) all) env around known found.0 found.1 fine)
      (arms_return rest (All-tail Q arm rest each) (and_second (named_arm constants vars site.earlier arm)
      (all_of (map (named_arm constants vars site.earlier) rest)) named)
      (and_second (arm_surely_returns arm) (all_of (map arm_surely_returns rest)) all) next (grown_around env next site passed.grown around) passed.known counts
      (ap (in_turn (map (step_of_arm vars constants) rest)) passed.counts_are ∙ found.2)
      (second_empty (arm_walked constants vars arm env).failures further.failures none))

  -- ---- by the kind of a statement

  abbrev kind_is_made : Place → StmtKind → Bool
  kind_is_made place kind = surely_returns (stmt_made place kind)

  in_place : (place : Place) (made : Option StmtKind) → ReturnMade (kind_is_made place) made → ReturnMade surely_returns (option_map (stmt_made place) made)
  in_place place made one = record { it = stmt_made place one.it; is = ap (option_map (stmt_made place)) one.is; is_returning = one.is_returning }

  by_kind : (place : Place) (layer : Layer) → Walking (kind_is_made place) (named_by constants vars site layer) (named_kind_surely layer)
      (walked_by constants vars layer place) (step_by constants vars layer) → P (stmt place layer)
  by_kind place layer made named surely env around known counts step none =
      subst (λ (walk : StatementJudgement Stmt). ReturnMade surely_returns (walk env).made) (sym (walked_is constants vars place layer))
      (in_place place (walked_by constants vars layer place env).made
      (made (sym (named_is constants vars site place layer) ∙ named) (sym (named_surely_is place layer) ∙ surely) env around known counts
      (ap (λ (step : PlacedStep). step (known_in env)) (sym (step_is constants vars place layer)) ∙ step)
      (ap (λ (walk : StatementJudgement Stmt). (walk env).failures) (sym (walked_is constants vars place layer)) ∙ none)))

  never : (place : Place) (layer : Layer) → named_kind_surely layer ≡ false → P (stmt place layer)
  never place layer is = by_kind place layer (λ named surely env around known counts step none. absurd (let no : false ≡ true = sym is ∙ surely in cc))

  return_is : (place : Place) (e : Option Expr) → surely_returns (stmt_made place (what.Return e)) ≡ true
  return_is place e = surely_is place (what.Return e) (StmtKind-F.Return e) (what.outs-Return e)

  return_by : (place : Place) (e : Option NamedExpr) (result : Option ScalarType) (env : Environment) → holds_if (calls_functions site.earlier) e ≡ true →
      Around env site → Known env → (counts : DeclaredBefore) →
      declares_none (holds_if (expr_placed (known_in env)) e) (known_in env) ≡ Some counts → (returned place e result env).failures ≡ [] →
      ReturnMade (kind_is_made place) (returned place e result env).made
  return_by place (Some e) (Some s) env named around known counts step none =
      let placed = where_holds (expr_placed (known_in env) e) (Some (known_in env)) counts step in
      let made = wanted_fits env (site_in env) (within_in env site around known) e placed.0 (own_calls env site around e named) (scalar s) none in
      record { it = what.Return (Some made.it); is = ap (option_map (λ e. what.Return (Some e))) made.is; is_returning = return_is place (Some made.it) }
  return_by place (Some e) None env named around known counts step none = absurd (let fails = second_empty (in_context None (judged env e)).failures _ none in cc)
  return_by place None (Some s) env named around known counts step none = absurd (cc)
  return_by place None None env named around known counts step none = record { it = what.Return None; is = refl; is_returning = return_is place None }

  return_case : (place : Place) (e : Option NamedExpr) → P (stmt place (NamedStmtKind-F.Return e))
  return_case place e = by_kind place (NamedStmtKind-F.Return e) (λ named surely env around known counts step none.
      return_by place e env.result env named around known counts step none)

  if_case : (place : Place) (arms : List NamedArm) (other : List NamedStmt) → All Q arms → All P other → P (stmt place (NamedStmtKind-F.If arms other))
  if_case place arms other each rest = by_kind place (NamedStmtKind-F.If arms other)
      (λ named surely env around known counts step none.
      let all : Block Arm = in_order (map (arm_walked constants vars) arms) env in
      let last : Block Stmt = in_order (map (walked_stmt constants vars) other) all.env in
      let parts = and_second _ (all_of (map (named_arm constants vars site.earlier) arms) && all_of (map (stmt_named constants vars site.earlier) other)) named
      in
      let arms_named = and_first (all_of (map (named_arm constants vars site.earlier) arms)) (all_of (map (stmt_named constants vars site.earlier) other)) parts
      in
      let found = some_found (in_turn (map (stmt_step vars constants) other)) (in_turn (map (step_of_arm vars constants) arms) (known_in env)) counts step in
      let fine = first_empty all.failures last.failures none in
      let passed = arms_fit constants vars site arms arms_named env around known found.0 found.1 fine in
      let first = arms_return arms each arms_named (and_first (all_of (map arm_surely_returns arms)) (last_of (map named_surely_returns other)) surely) env
      around known found.0 found.1 fine in
      let second = body_returns other rest (and_second (all_of (map (named_arm constants vars site.earlier) arms))
      (all_of (map (stmt_named constants vars site.earlier) other)) parts)
      (and_second (all_of (map arm_surely_returns arms)) (last_of (map named_surely_returns other)) surely) all.env
      (grown_around env all.env site passed.grown around) passed.known counts
      (ap (in_turn (map (stmt_step vars constants) other)) passed.counts_are ∙ found.2) (second_empty all.failures last.failures none) in
      record {
        it = what.If all.made last.made;
        is = refl;
        is_returning = surely_is place (what.If all.made last.made) (StmtKind-F.If all.made last.made) (what.outs-If all.made last.made)
            ∙ and_from (all_of (map arm_surely all.made)) (last_of (map surely_returns last.made)) first second;
      })

  arm_case : (test : NamedExpr) (body : List NamedStmt) → All P body → Q (roll-NamedArm (record { test = test; body = body }))
  arm_case test body each named surely env around known counts step none =
      let named_as : named_arm constants vars site.earlier (roll-NamedArm (record { test = test; body = body }))
      ≡ (calls_functions site.earlier test && all_of (map (stmt_named constants vars site.earlier) body)) = rw fold-roll-NamedArm refl in
      let surely_as : arm_surely_returns (roll-NamedArm (record { test = test; body = body })) ≡ last_of (map named_surely_returns body) =
      rw fold-roll-NamedArm refl in
      let walked_as : arm_walked constants vars (roll-NamedArm (record { test = test; body = body }))
      ≡ walked_arm (record { test = test; body = map (walked_stmt constants vars) body }) = rw fold-roll-NamedArm refl in
      let step_as : step_of_arm vars constants (roll-NamedArm (record { test = test; body = body })) ≡ tested test (map (stmt_step vars constants) body) =
      rw fold-roll-NamedArm refl in
      let own = sym named_as ∙ named in
      let all : Block Stmt = in_order (map (walked_stmt constants vars) body) env in
      let holds = where_holds (expr_placed (known_in env) test) (in_turn (map (stmt_step vars constants) body) (known_in env)) counts
      (ap (λ (step : PlacedStep). step (known_in env)) (sym step_as) ∙ step) in
      let fine : (condition env test).failures ++ all.failures ≡ [] = ap (λ (walk : StatementJudgement Arm). (walk env).failures) (sym walked_as) ∙ none in
      let made = condition_fits env (site_in env) (within_in env site around known) test holds.0
      (own_calls env site around test (and_first (calls_functions site.earlier test) (all_of (map (stmt_named constants vars site.earlier) body)) own))
      (first_empty (condition env test).failures all.failures fine) in
      let last = body_returns body each (and_second (calls_functions site.earlier test) (all_of (map (stmt_named constants vars site.earlier) body)) own)
      (sym surely_as ∙ surely) env around known counts holds.1
      (second_empty (condition env test).failures all.failures fine) in
      subst (λ (walk : StatementJudgement Arm). ReturnMade arm_surely (walk env).made) (sym walked_as)
      (record { it = arm_of made.it all.made; is = ap (option_map (λ e. arm_of e all.made)) made.is; is_returning = arm_surely_is made.it all.made ∙ last })

  return_cases : Cases P Q R
  return_cases = record {
    declare = λ place k value. never place (NamedStmtKind-F.Declare k value) refl;
    constant = λ place k. never place (NamedStmtKind-F.Const k) refl;
    assign = λ place target e. never place (NamedStmtKind-F.Assign target e) refl;
    call = λ place name f inputs outputs. never place (NamedStmtKind-F.Call name f inputs outputs) refl;
    await = λ place e. never place (NamedStmtKind-F.Await e) refl;
    run = λ place target name a inputs outputs. never place (NamedStmtKind-F.Run target name a inputs outputs) refl;
    branching = if_case;
    cobegin = λ place branches each. never place (NamedStmtKind-F.Cobegin branches) refl;
    guarded = λ place guard e body each. never place (NamedStmtKind-F.When guard e body) refl;
    repeat = λ place body each. never place (NamedStmtKind-F.Repeat body) refl;
    until = λ place body e each. never place (NamedStmtKind-F.Until body e) refl;
    while = λ place e body each. never place (NamedStmtKind-F.While e body) refl;
    returns = return_case;
    arm = arm_case;
    branch = λ weak body each. tt;
  }

  pub statement_returns : (s : NamedStmt) → P s
  statement_returns = induct P Q R return_cases

  each_returns : (body : List NamedStmt) → All P body
  each_returns [] = All-nil P
  each_returns (s ∷ rest) = All-cons P s rest (statement_returns s) (each_returns rest)

  -- a body that surely returns as it is named does so as it is made
  pub bodies_return : (body : List NamedStmt) → all_of (map (stmt_named constants vars site.earlier) body) ≡ true →
      last_of (map named_surely_returns body) ≡ true → (env : Environment) → Around env site → Known env → (counts : DeclaredBefore) →
      in_turn (map (stmt_step vars constants) body) (known_in env) ≡ Some counts →
      (in_order (map (walked_stmt constants vars) body) env).failures ≡ [] →
      last_of (map surely_returns (in_order (map (walked_stmt constants vars) body) env).made) ≡ true
  bodies_return body = body_returns body (each_returns body)
