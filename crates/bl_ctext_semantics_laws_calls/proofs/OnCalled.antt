-- The same fails in a block where two tables have the same of what it calls.
use Rattle.std.proofs.Common.{◌≡◌, ℕ, Bool, true, false, not, ◌&&◌, List, [], ◌∷◌, ◌++◌, map, Option, Some, None, refl, ap}
use Rattle.std.proofs.lemmas.List.Elements.{All-cons, All-head, All-nil, All-tail}
use Rattle.std.specs.Prelude.{All, is_some}
use Rattle.bl_tree.specs.Reduce.{joined}
use Rattle.bl_tree.specs.declared.text.Text.{Text}
use Rattle.bl_tree.specs.declared.place.Place.{Place}
use Rattle.bl_tree.specs.declared.c.CArg.{CArg, fold-roll-CArg}
use Rattle.bl_tree.specs.declared.c.CCall.{CCall, fold-roll-CCall}
use Rattle.bl_tree.specs.declared.c.CExpr.{CExpr, fold-roll-CExpr}
use Rattle.bl_tree.specs.declared.c.CExprKind.{CExprKind, fold-roll-CExprKind}
use Rattle.bl_tree.specs.declared.c.CIndex.{CIndex, fold-roll-CIndex}
use Rattle.bl_tree.specs.declared.c.CPlace.{CPlace, fold-roll-CPlace}
use Rattle.bl_tree.specs.declared.c.CStep.{CStep, fold-roll-CStep, roll-CStep}
use Rattle.bl_tree.specs.declared.c.CStmt.{CStmt, fold-roll-CStmt}
use Rattle.bl_tree.specs.declared.c.CStmtKind.{fold-roll-CStmtKind}
use Rattle.bl_tree.specs.declared.c.CStmtKind.TheOpen.{CStmtKind-F}
use Rattle.bl_tree.specs.declared.c.CType.{CType}
use Rattle.bl_tree.specs.declared.c.CType.TheVariants.{Scalar as OfScalar, Struct as OfStruct}
use Rattle.bl_tree.specs.declared.scalar.Op.{Op}
use Rattle.bl_tree.specs.declared.scalar.Scalar.{Scalar}
use Rattle.bl_ctext.specs.declared.builtin.Builtin.{Builtin}
use Rattle.bl_ctext_semantics.specs.Builtin.{builtin_of}
use Rattle.bl_ctext_semantics.specs.Calls.{calls_in, calls_in_arg, calls_in_block, calls_in_call, calls_in_place, calls_in_step, calls_in_stmt}
use Rattle.bl_ctext_semantics.specs.Faults.{Context, Fault, Judged, JudgedArg, JudgedCall, JudgedIndex, JudgedPlace, Signature, agree, arguments}
use Rattle.bl_ctext_semantics.specs.Faults.{assigned_type, block_faults, bool_type, changes_nothing, condition_faults, condition_type, declared_before}
use Rattle.bl_ctext_semantics.specs.Faults.{faults_in_stmt, fit_args, hands_on, if_typed, indexes, indices, is_void, judge_into, judge_root, judge_steps}
use Rattle.bl_ctext_semantics.specs.Faults.{judged_arg, judged_call, judged_expr, judged_index, judged_place, judged_step, known_result, operand_type}
use Rattle.bl_ctext_semantics.specs.Faults.{result_type, return_faults, returns_result, signature_as, signature_of, takes, unless, void_as_statement}
use Rattle.bl_ctext_semantics.specs.Tables.{Table}
use Rattle.bl_ctext_semantics.proofs.Folds.{calls_in_index, calls_in_kind, judged_kind}
use Rattle.bl_ctext_semantics.proofs.Induction.{ExprCases, Optional, StmtCases, induct_call, induct_expr, induct_place, induct_stmt, stmt}
use Rattle.bl_ctext_semantics_laws_calls.specs.Called.{FaultsFollow, KnowAlike, with_functions}

-- ---- lists

pub front : {A : Type 0} (P : A → Type 0) (xs ys : List A) → All P (xs ++ ys) → All P xs
front P [] ys all = All-nil P
front P (x ∷ xs) ys all = All-cons P x xs (All-head P x (xs ++ ys) all) (front P xs ys (All-tail P x (xs ++ ys) all))

pub back : {A : Type 0} (P : A → Type 0) (xs ys : List A) → All P (xs ++ ys) → All P ys
back P [] ys all = all
back P (x ∷ xs) ys all = back P xs ys (All-tail P x (xs ++ ys) all)

-- ---- what is judged of a part, from what is judged of its parts

abbrev value_arg : Judged → JudgedArg
value_arg v = record { address = false; through = false; ty = v.ty; faults = v.faults }

abbrev address_arg : JudgedPlace → JudgedArg
address_arg p = record { address = true; through = p.through; ty = p.ty; faults = p.faults }

abbrev of_place : JudgedPlace → Judged
of_place p = record { ty = p.ty; faults = p.faults }

abbrev of_call : Place → JudgedCall → Judged
of_call place c = record {
  ty = result_type (known_result c.signature);
  faults = c.faults ++ unless (not (is_void (known_result c.signature))) void_as_statement place;
}

abbrev negated : Place → Judged → Judged
negated place a = record { ty = Some bool_type; faults = a.faults ++ unless (agree a.ty (Some bool_type)) operand_type place }

abbrev between : Op → Place → Judged → Judged → Judged
between op place a b = record {
  ty = Some bool_type;
  faults = a.faults ++ (b.faults ++ unless (if_typed a.ty (takes op) && if_typed b.ty (takes op) && agree a.ty b.ty) operand_type place);
}

abbrev called : Bool → Place → Option Signature → List JudgedArg → JudgedCall
called is_read_only place signature args = record {
  signature = signature;
  faults = unless (is_some signature) declared_before place
      ++ (joined (map (λ (a : JudgedArg). a.faults) args)
      ++ (unless (fit_args signature args) arguments place
      ++ unless (not (is_read_only && hands_on signature args)) changes_nothing place));
}

abbrev indexed : Bool → ℕ → Place → Judged → JudgedIndex
indexed signed length place i = record { length = length; faults = i.faults ++ unless (if_typed i.ty (indexes signed)) indices place }

abbrev placed : Bool → Judged → Judged → JudgedPlace
placed through root last = record { ty = last.ty; through = through; faults = root.faults ++ last.faults }

abbrev then_judged : Judged → Judged → Judged
then_judged one last = record { ty = last.ty; faults = one.faults ++ last.faults }

module _ (context : Context) (one other : Table Signature) where
  abbrev first : Context
  first = with_functions context one

  abbrev second : Context
  second = with_functions context other

  -- the functions of these names are known alike
  abbrev Fine : List Text → Type 0
  Fine names = All (KnowAlike one other) names

  -- ---- expressions

  abbrev OfArg : CArg → Type 0
  OfArg a = Fine (calls_in_arg a) → (place : Place) → judged_arg a first place ≡ judged_arg a second place

  abbrev OfKind : CExprKind → Type 0
  OfKind k = Fine (calls_in_kind k) → (place : Place) → judged_kind k first place ≡ judged_kind k second place

  abbrev OfCall : CCall → Type 0
  OfCall c = Fine (calls_in_call c) → (place : Place) → judged_call c first place ≡ judged_call c second place

  abbrev OfExpr : CExpr → Type 0
  OfExpr e = Fine (calls_in e) → judged_expr e first ≡ judged_expr e second

  abbrev OfIndex : CIndex → Type 0
  OfIndex i = Fine (calls_in_index i) → (place : Place) → judged_index i first place ≡ judged_index i second place

  abbrev OfPlace : CPlace → Type 0
  OfPlace p = Fine (calls_in_place p) → (place : Place) → judged_place p first place ≡ judged_place p second place

  abbrev OfStep : CStep → Type 0
  OfStep s = Fine (calls_in_step s) → (place : Place) (ty : Option CType) → judged_step s first place ty ≡ judged_step s second place ty

  args_same : (args : List CArg) → All OfArg args → Fine (joined (map calls_in_arg args)) → (place : Place) →
      map (λ judge. judge first place) (map judged_arg args) ≡ map (λ judge. judge second place) (map judged_arg args)
  args_same [] h fine place = refl
  args_same (a ∷ args) h fine place =
      let here : judged_arg a first place ≡ judged_arg a second place =
      All-head OfArg a args h (front (KnowAlike one other) (calls_in_arg a) (joined (map calls_in_arg args)) fine) place in
      let rest : map (λ judge. judge first place) (map judged_arg args) ≡ map (λ judge. judge second place) (map judged_arg args) =
      args_same args (All-tail OfArg a args h) (back (KnowAlike one other) (calls_in_arg a) (joined (map calls_in_arg args)) fine) place in
      λ i. here i ∷ rest i

  steps_same : (steps : List CStep) → All OfStep steps → Fine (joined (map calls_in_step steps)) → (place : Place) (ty : Option CType) →
      judge_steps (map judged_step steps) first place ty ≡ judge_steps (map judged_step steps) second place ty
  steps_same [] h fine place ty = refl
  steps_same (s ∷ steps) h fine place ty =
      let here : judged_step s first place ty ≡ judged_step s second place ty =
      All-head OfStep s steps h (front (KnowAlike one other) (calls_in_step s) (joined (map calls_in_step steps)) fine) place ty in
      let rest : (ty : Option CType) → judge_steps (map judged_step steps) first place ty ≡ judge_steps (map judged_step steps) second place ty =
      steps_same steps (All-tail OfStep s steps h) (back (KnowAlike one other) (calls_in_step s) (joined (map calls_in_step steps)) fine) place in
      λ i. then_judged (here i) (rest (here i).ty i)

  signature_same : (name : Text) → KnowAlike one other name → signature_of first name ≡ signature_of second name
  signature_same name alike = by (builtin_of name)
    where
      by : (b : Option Builtin) → signature_as b (one name) ≡ signature_as b (other name)
      by (Some b) = refl
      by None = alike

  step_same : (name : Text) (i : Option CIndex) → Optional OfIndex i → OfStep (roll-CStep (record { member = name; index = i }))
  step_same name None h fine place ty = rw fold-roll-CStep refl
  step_same name (Some i) h fine place ty =
      let inside : judged_index i first place ≡ judged_index i second place = h (rw fold-roll-CStep at fine) place in
      rw fold-roll-CStep (λ j. (record {
        ty = (judge_into context name (Some (inside j).length) place ty).ty;
        faults = (inside j).faults ++ (judge_into context name (Some (inside j).length) place ty).faults;
      }))

  expr_cases : ExprCases OfArg OfKind OfCall OfExpr OfIndex OfPlace OfStep
  expr_cases = record {
    value = λ e h fine place.
        let inside : judged_expr e first ≡ judged_expr e second = h (rw fold-roll-CArg at fine) in
        rw fold-roll-CArg (ap value_arg inside);
    address = λ p h fine place.
        let inside : judged_place p first place ≡ judged_place p second place = h (rw fold-roll-CArg at fine) place in
        rw fold-roll-CArg (ap address_arg inside);
    literal = λ t n fine place. rw fold-roll-CExprKind refl;
    read = λ p h fine place.
        let inside : judged_place p first place ≡ judged_place p second place = h (rw fold-roll-CExprKind at fine) place in
        rw fold-roll-CExprKind (ap of_place inside);
    call = λ c h fine place.
        let inside : judged_call c first place ≡ judged_call c second place = h (rw fold-roll-CExprKind at fine) place in
        rw fold-roll-CExprKind (ap (of_call place) inside);
    negation = λ e h fine place.
        let inside : judged_expr e first ≡ judged_expr e second = h (rw fold-roll-CExprKind at fine) in
        rw fold-roll-CExprKind (ap (negated place) inside);
    two = λ op a b h k fine place.
        let all : Fine (calls_in a ++ calls_in b) = rw fold-roll-CExprKind at fine in
        let left : judged_expr a first ≡ judged_expr a second = h (front (KnowAlike one other) (calls_in a) (calls_in b) all) in
        let right : judged_expr b first ≡ judged_expr b second = k (back (KnowAlike one other) (calls_in a) (calls_in b) all) in
        rw fold-roll-CExprKind (λ i. between op place (left i) (right i));
    calling = λ name args h fine place.
        let all : Fine (name ∷ joined (map calls_in_arg args)) = rw fold-roll-CCall at fine in
        let own : signature_of first name ≡ signature_of second name =
        signature_same name (All-head (KnowAlike one other) name (joined (map calls_in_arg args)) all) in
        let parts : map (λ judge. judge first place) (map judged_arg args) ≡ map (λ judge. judge second place) (map judged_arg args) =
        args_same args h (All-tail (KnowAlike one other) name (joined (map calls_in_arg args)) all) place in
        rw fold-roll-CCall (λ i. called context.is_read_only place (own i) (parts i));
    expr = λ place what h fine. rw fold-roll-CExpr (h (rw fold-roll-CExpr at fine) place);
    index = λ signed inner length h fine place.
        let inside : judged_expr inner first ≡ judged_expr inner second = h (rw fold-roll-CIndex at fine) in
        rw fold-roll-CIndex (ap (indexed signed length place) inside);
    place = λ through name steps h fine place.
        let root : Judged = judge_root (context.variables name) through place in
        let inside : judge_steps (map judged_step steps) first place root.ty ≡ judge_steps (map judged_step steps) second place root.ty =
        steps_same steps h (rw fold-roll-CPlace at fine) place root.ty in
        rw fold-roll-CPlace (ap (placed through root) inside);
    step = step_same;
  }

  expr_same : (e : CExpr) → OfExpr e
  expr_same = induct_expr OfArg OfKind OfCall OfExpr OfIndex OfPlace OfStep expr_cases

  place_same : (p : CPlace) → OfPlace p
  place_same = induct_place OfArg OfKind OfCall OfExpr OfIndex OfPlace OfStep expr_cases

  call_same : (c : CCall) → OfCall c
  call_same = induct_call OfArg OfKind OfCall OfExpr OfIndex OfPlace OfStep expr_cases

  -- ---- statements

  abbrev OfStmt : CStmt → Type 0
  OfStmt s = Fine (calls_in_stmt s) → (looped : Bool) → faults_in_stmt s first looped ≡ faults_in_stmt s second looped

  block_same : (stmts : List CStmt) → All OfStmt stmts → Fine (joined (map calls_in_stmt stmts)) → (looped : Bool) →
      block_faults (map faults_in_stmt stmts) first looped ≡ block_faults (map faults_in_stmt stmts) second looped
  block_same [] h fine looped = refl
  block_same (s ∷ stmts) h fine looped =
      let here : faults_in_stmt s first looped ≡ faults_in_stmt s second looped =
      All-head OfStmt s stmts h (front (KnowAlike one other) (calls_in_stmt s) (joined (map calls_in_stmt stmts)) fine) looped in
      let rest : block_faults (map faults_in_stmt stmts) first looped ≡ block_faults (map faults_in_stmt stmts) second looped =
      block_same stmts (All-tail OfStmt s stmts h) (back (KnowAlike one other) (calls_in_stmt s) (joined (map calls_in_stmt stmts)) fine) looped in
      λ i. here i ++ rest i

  condition_same : (e : CExpr) → Fine (calls_in e) → condition_faults e first ≡ condition_faults e second
  condition_same e fine =
      ap (λ (c : Judged). c.faults ++ unless (agree c.ty (Some bool_type)) condition_type e.place) (expr_same e fine)

  of_if : (at : Place) (e : CExpr) (block : List CStmt) (more : Option (List CStmt)) → All OfStmt block → Optional (All OfStmt) more →
      OfStmt (stmt at (CStmtKind-F.If e block more))
  of_if at e block None h k fine looped =
      let all : Fine (calls_in e ++ joined (map calls_in_stmt block) ++ []) = rw (fold-roll-CStmt, fold-roll-CStmtKind) at fine in
      let own : Fine (calls_in e ++ joined (map calls_in_stmt block)) =
      front (KnowAlike one other) (calls_in e ++ joined (map calls_in_stmt block)) [] all in
      let test : condition_faults e first ≡ condition_faults e second =
      condition_same e (front (KnowAlike one other) (calls_in e) (joined (map calls_in_stmt block)) own) in
      let inner : block_faults (map faults_in_stmt block) first looped ≡ block_faults (map faults_in_stmt block) second looped =
      block_same block h (back (KnowAlike one other) (calls_in e) (joined (map calls_in_stmt block)) own) looped in
      rw (fold-roll-CStmt, fold-roll-CStmtKind) (λ i. test i ++ (inner i ++ []))
  of_if at e block (Some more) h k fine looped =
      let all : Fine ((calls_in e ++ joined (map calls_in_stmt block)) ++ joined (map calls_in_stmt more)) =
      rw (fold-roll-CStmt, fold-roll-CStmtKind) at fine in
      let own : Fine (calls_in e ++ joined (map calls_in_stmt block)) =
      front (KnowAlike one other) (calls_in e ++ joined (map calls_in_stmt block)) (joined (map calls_in_stmt more)) all in
      let test : condition_faults e first ≡ condition_faults e second =
      condition_same e (front (KnowAlike one other) (calls_in e) (joined (map calls_in_stmt block)) own) in
      let inner : block_faults (map faults_in_stmt block) first looped ≡ block_faults (map faults_in_stmt block) second looped =
      block_same block h (back (KnowAlike one other) (calls_in e) (joined (map calls_in_stmt block)) own) looped in
      let last : block_faults (map faults_in_stmt more) first looped ≡ block_faults (map faults_in_stmt more) second looped =
      block_same more k (back (KnowAlike one other) (calls_in e ++ joined (map calls_in_stmt block)) (joined (map calls_in_stmt more)) all) looped in
      rw (fold-roll-CStmt, fold-roll-CStmtKind) (λ i. test i ++ (inner i ++ last i))

  of_return : (at : Place) (e : Option CExpr) → OfStmt (stmt at (CStmtKind-F.Return e))
  of_return at None fine looped =
      rw (fold-roll-CStmt, fold-roll-CStmtKind) (by context.result)
    where
      by : (result : Option Scalar) → return_faults None result first at ≡ return_faults None result second at
      by None = refl
      by (Some t) = refl
  of_return at (Some e) fine looped =
      let value : judged_expr e first ≡ judged_expr e second = expr_same e (rw (fold-roll-CStmt, fold-roll-CStmtKind) at fine) in
      rw (fold-roll-CStmt, fold-roll-CStmtKind) (by context.result value)
    where
      by : (result : Option Scalar) → judged_expr e first ≡ judged_expr e second →
          return_faults (Some e) result first at ≡ return_faults (Some e) result second at
      by None value = ap (λ (v : Judged). v.faults ++ unless false returns_result at) value
      by (Some t) value = ap (λ (v : Judged). v.faults ++ unless (agree v.ty (Some (OfScalar t))) returns_result e.place) value

  abbrev set_by : Place → JudgedPlace → Judged → List Fault
  set_by at p e = p.faults ++ (e.faults ++ (unless (agree p.ty e.ty) assigned_type at ++ unless (not (context.is_read_only && p.through)) changes_nothing at))

  abbrev clear_by : Place → Text → JudgedPlace → List Fault
  clear_by at name p =
      p.faults ++ (unless (is_some (context.structs name)) declared_before at
      ++ (unless (agree p.ty (Some (OfStruct name))) assigned_type at
      ++ unless (not (context.is_read_only && p.through)) changes_nothing at))

  stmt_cases : StmtCases OfStmt
  stmt_cases = record {
    set = λ at p e fine looped.
        let all : Fine (calls_in_place p ++ calls_in e) = rw (fold-roll-CStmt, fold-roll-CStmtKind) at fine in
        let target : judged_place p first at ≡ judged_place p second at =
        place_same p (front (KnowAlike one other) (calls_in_place p) (calls_in e) all) at in
        let value : judged_expr e first ≡ judged_expr e second = expr_same e (back (KnowAlike one other) (calls_in_place p) (calls_in e) all) in
        rw (fold-roll-CStmt, fold-roll-CStmtKind) (λ i. set_by at (target i) (value i));
    clear = λ at p name fine looped.
        let target : judged_place p first at ≡ judged_place p second at = place_same p (rw (fold-roll-CStmt, fold-roll-CStmtKind) at fine) at in
        rw (fold-roll-CStmt, fold-roll-CStmtKind) (ap (clear_by at name) target);
    call = λ at c fine looped.
        let call : judged_call c first at ≡ judged_call c second at = call_same c (rw (fold-roll-CStmt, fold-roll-CStmtKind) at fine) at in
        rw (fold-roll-CStmt, fold-roll-CStmtKind) (ap (λ (c : JudgedCall). c.faults) call);
    branching = of_if;
    loop = λ at turn e body h fine looped.
        let all : Fine (calls_in e ++ joined (map calls_in_stmt body)) = rw (fold-roll-CStmt, fold-roll-CStmtKind) at fine in
        let test : condition_faults e first ≡ condition_faults e second =
        condition_same e (front (KnowAlike one other) (calls_in e) (joined (map calls_in_stmt body)) all) in
        let inner : block_faults (map faults_in_stmt body) first true ≡ block_faults (map faults_in_stmt body) second true =
        block_same body h (back (KnowAlike one other) (calls_in e) (joined (map calls_in_stmt body)) all) true in
        rw (fold-roll-CStmt, fold-roll-CStmtKind) (λ i. test i ++ inner i);
    break = λ at fine looped. rw (fold-roll-CStmt, fold-roll-CStmtKind) refl;
    returns = of_return;
  }

  every : (stmts : List CStmt) → All OfStmt stmts
  every [] = All-nil OfStmt
  every (s ∷ stmts) = All-cons OfStmt s stmts (induct_stmt OfStmt stmt_cases s) (every stmts)

  pub body_same : (stmts : List CStmt) → Fine (calls_in_block stmts) → (looped : Bool) →
      block_faults (map faults_in_stmt stmts) first looped ≡ block_faults (map faults_in_stmt stmts) second looped
  body_same stmts fine looped = block_same stmts (every stmts) fine looped

pub follow : FaultsFollow
follow block context one other looped alike = body_same context one other block alike looped
