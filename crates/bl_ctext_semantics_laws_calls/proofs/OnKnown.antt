-- A C function does the same over two tables where all that its body calls does.
use Rattle.std.proofs.Common.{◌≡◌, ℕ, pos, Bool, true, false, List, [], ◌∷◌, ◌++◌, map, Option, Some, None, refl, ap, ◌∙◌, ◌+◌}
use Rattle.std.proofs.lemmas.List.Elements.{All-cons, All-head, All-nil, All-tail}
use Rattle.std.specs.Prelude.{All, option_map, if◌then◌else◌}
use Rattle.bl_tree.specs.Numbers.{checked_of, checked_one_of, is_one}
use Rattle.bl_tree.specs.Reduce.{joined}
use Rattle.bl_tree.specs.declared.text.Text.{Text}
use Rattle.bl_tree.specs.declared.place.Place.{Place}
use Rattle.bl_tree.specs.declared.scalar.Scalar.TheVariants.{Bool as OfBool}
use Rattle.bl_tree.specs.declared.scalar.Op.{Op}
use Rattle.bl_tree.specs.declared.scalar.Op.TheVariants.{Add, Sub, Mul, Div, Rem, Minus, BitAnd, BitOr, BitXor, BitNot, Shl, Shr}
use Rattle.bl_tree.specs.declared.scalar.Op.TheVariants.{Eq, Ne, Lt, Le, Gt, Ge, And, Or, Not}
use Rattle.bl_tree.specs.declared.c.CArg.{CArg, fold-roll-CArg}
use Rattle.bl_tree.specs.declared.c.CCall.{CCall, fold-roll-CCall}
use Rattle.bl_tree.specs.declared.c.CExpr.{CExpr, fold-roll-CExpr}
use Rattle.bl_tree.specs.declared.c.CExprKind.{CExprKind, fold-roll-CExprKind}
use Rattle.bl_tree.specs.declared.c.CFunc.{CFunc}
use Rattle.bl_tree.specs.declared.c.CIndex.{CIndex, fold-roll-CIndex}
use Rattle.bl_tree.specs.declared.c.CPlace.{CPlace, fold-roll-CPlace}
use Rattle.bl_tree.specs.declared.c.CStep.{CStep, fold-roll-CStep, roll-CStep}
use Rattle.bl_tree.specs.declared.c.CStmt.{CStmt, fold-roll-CStmt}
use Rattle.bl_tree.specs.declared.c.CStmtKind.{fold-roll-CStmtKind}
use Rattle.bl_tree.specs.declared.c.CStmtKind.TheOpen.{CStmtKind-F}
use Rattle.bl_ctext.specs.declared.builtin.Builtin.{Builtin}
use Rattle.bl_ctext_semantics.specs.Builtin.{builtin_of, index_within}
use Rattle.bl_ctext_semantics.specs.Calls.{calls_in, calls_in_arg, calls_in_block, calls_in_call, calls_in_place, calls_in_step, calls_in_stmt}
use Rattle.bl_ctext_semantics.specs.Course.{Outcome, after_statements, ended_by, ending, going, in_order, loop_with_turns, result_at, returns, turn_limit}
use Rattle.bl_ctext_semantics.specs.Course.{turn_or_none}
use Rattle.bl_ctext_semantics.specs.Meaning.{ArgumentValue, CStmtMeaning, CallResult, Counted, Evaluates, Meaning, Scope, applied, at_once, block_c, block_of, by_address, by_value}
use Rattle.bl_ctext_semantics.specs.Meaning.{call_c, call_outcome, called_after, called_as, each_of, element_projection, executed, further, given}
use Rattle.bl_ctext_semantics.specs.Meaning.{later_call, location_c, named_location, next, pointers_of, result_of, runs_c, two_values, value_c, way_of}
use Rattle.bl_ctext_semantics.specs.Meaning.{with_params}
use Rattle.bl_ctext_semantics.specs.Memory.{CValue, Location, Memory, member, scalar, scalar_number, set_at, value_at, without_frame, zeros}
use Rattle.bl_ctext_semantics.specs.Tables.{Table, table_of}
use Rattle.bl_ctext_semantics.proofs.Folds.{arg_c, calls_in_index, calls_in_kind, index_c, kind_c, step_c}
use Rattle.bl_ctext_semantics.proofs.Induction.{ExprCases, Optional, StmtCases, induct_call, induct_expr, induct_place, induct_stmt, stmt}
use Rattle.bl_ctext_semantics_laws_calls.specs.Known.{AreAlike, CallsDecide}
use Rattle.bl_ctext_semantics_laws_calls.proofs.OnCalled.{back, front}

-- ---- lists

-- what two operands give whose values are both asked
abbrev both_by : Op → (Memory → Counted CValue) → (Memory → Counted CValue) → Memory → Counted CValue
both_by op left right memory =
    next (left memory) (λ a. next (right memory) (λ b. given (option_map scalar (checked_of op OfBool (scalar_number a) (scalar_number b)))))

-- a call by what its arguments give
abbrev calling_by : Scope → Text → (Memory → Counted (List ArgumentValue)) → Memory → CallResult
calling_by scope name args memory = called_after scope memory name (args memory).count (args memory).answer

-- a statement with a condition, and a loop, by what that gives
abbrev if_by : (Memory → Counted CValue) → (Bool → Memory → Outcome Memory) → Memory → Outcome Memory
if_by test chosen memory = executed memory (test memory) (λ v. chosen (is_one (scalar_number v)) memory)

abbrev loop_by : (Memory → Counted CValue) → (Memory → Outcome Memory) → Memory → Outcome Memory
loop_by test block memory =
    after_statements 1
    (loop_with_turns turn_limit (λ turn m. ended_by m (test m).count (test m).answer (λ v. turn_or_none (is_one (scalar_number v)) m turn)) block memory)

module _ (one other : Table Meaning) (depth : ℕ) (pointers : Table Location) where
  abbrev first : Scope
  first = record { known = one; depth = depth; pointers = pointers }

  abbrev second : Scope
  second = record { known = other; depth = depth; pointers = pointers }

  -- the functions of these names are known alike
  abbrev Fine : List Text → Type 0
  Fine names = All (AreAlike one other) names

  -- what is evaluated over the one table is what is evaluated over the other
  abbrev Same : {A : Type 0} → Evaluates A → Type 0
  Same evaluate = evaluate first ≡ evaluate second

  -- ---- expressions

  abbrev OfArg : CArg → Type 0
  OfArg a = Fine (calls_in_arg a) → Same (arg_c a)

  abbrev OfKind : CExprKind → Type 0
  OfKind k = Fine (calls_in_kind k) → Same (kind_c k)

  abbrev OfCall : CCall → Type 0
  OfCall c = Fine (calls_in_call c) → call_c c first ≡ call_c c second

  abbrev OfExpr : CExpr → Type 0
  OfExpr e = Fine (calls_in e) → Same (value_c e)

  abbrev OfIndex : CIndex → Type 0
  OfIndex i = Fine (calls_in_index i) → Same (index_c i)

  abbrev OfPlace : CPlace → Type 0
  OfPlace p = Fine (calls_in_place p) → Same (location_c p)

  abbrev OfStep : CStep → Type 0
  OfStep s = Fine (calls_in_step s) → Same (step_c s)

  -- one after the other
  each_same : {X A : Type 0} (f : X → Evaluates A) (g : X → List Text) (xs : List X) → All (λ x. Fine (g x) → Same (f x)) xs →
      Fine (joined (map g xs)) → each_of (map f xs) first ≡ each_of (map f xs) second
  each_same f g [] h fine = refl
  each_same f g (x ∷ xs) h fine =
      let here : f x first ≡ f x second =
      All-head (λ y. Fine (g y) → Same (f y)) x xs h (front (AreAlike one other) (g x) (joined (map g xs)) fine) in
      let rest : each_of (map f xs) first ≡ each_of (map f xs) second =
      each_same f g xs (All-tail (λ y. Fine (g y) → Same (f y)) x xs h) (back (AreAlike one other) (g x) (joined (map g xs)) fine) in
      λ i memory. next (here i memory) (λ a. next (rest i memory) (λ others. given (Some (a ∷ others))))

  choice_same : (b : Bool) (f g : Evaluates CValue) → Same f → Same g → (if b then f else g) first ≡ (if b then f else g) second
  choice_same true f g h k = h
  choice_same false f g h k = k

  both_same : (op : Op) (left right : Evaluates CValue) → Same left → Same right →
      both_by op (left first) (right first) ≡ both_by op (left second) (right second)
  both_same op left right h k = λ i. both_by op (h i) (k i)

  two_same : (op : Op) (left right : Evaluates CValue) → Same left → Same right → two_values op left right first ≡ two_values op left right second
  two_same And left right h k =
      λ i memory. next (h i memory) (λ a. choice_same (is_one (scalar_number a)) right (at_once (pos 0)) k refl i memory)
  two_same Or left right h k =
      λ i memory. next (h i memory) (λ a. choice_same (is_one (scalar_number a)) (at_once (pos 1)) right refl k i memory)
  two_same Not left right h k = both_same Not left right h k
  two_same Minus left right h k = both_same Minus left right h k
  two_same BitNot left right h k = both_same BitNot left right h k
  two_same Add left right h k = both_same Add left right h k
  two_same Sub left right h k = both_same Sub left right h k
  two_same Mul left right h k = both_same Mul left right h k
  two_same Div left right h k = both_same Div left right h k
  two_same Rem left right h k = both_same Rem left right h k
  two_same BitAnd left right h k = both_same BitAnd left right h k
  two_same BitOr left right h k = both_same BitOr left right h k
  two_same BitXor left right h k = both_same BitXor left right h k
  two_same Shl left right h k = both_same Shl left right h k
  two_same Shr left right h k = both_same Shr left right h k
  two_same Eq left right h k = both_same Eq left right h k
  two_same Ne left right h k = both_same Ne left right h k
  two_same Lt left right h k = both_same Lt left right h k
  two_same Le left right h k = both_same Le left right h k
  two_same Gt left right h k = both_same Gt left right h k
  two_same Ge left right h k = both_same Ge left right h k

  -- ---- calls

  as_same : (builtin : Option Builtin) (a b : Option Meaning) (depth : ℕ) (passed : List ArgumentValue) (memory : Memory) →
      (builtin ≡ None → (depth : ℕ) (passed : List ArgumentValue) (memory : Memory) → applied a depth passed memory ≡ applied b depth passed memory) →
      called_as builtin a depth passed memory ≡ called_as builtin b depth passed memory
  as_same (Some builtin) a b depth passed memory alike = refl
  as_same None a b depth passed memory alike = alike refl depth passed memory

  after_same : (memory : Memory) (name : Text) (n : ℕ) (passed : Option (List ArgumentValue)) → AreAlike one other name →
      called_after first memory name n passed ≡ called_after second memory name n passed
  after_same memory name n None alike = refl
  after_same memory name n (Some passed) alike =
      λ i. later_call n (as_same (builtin_of name) (one name) (other name) (depth + 1) passed memory alike i)

  calling_same : (name : Text) (args : List CArg) → AreAlike one other name → each_of (map arg_c args) first ≡ each_of (map arg_c args) second →
      calling_by first name (each_of (map arg_c args) first) ≡ calling_by second name (each_of (map arg_c args) second)
  calling_same name args alike same =
      known_so ∙ (λ i. calling_by second name (same i))
    where
      known_so : calling_by first name (each_of (map arg_c args) first) ≡ calling_by second name (each_of (map arg_c args) first)
      known_so =
          λ i memory. after_same memory name (each_of (map arg_c args) first memory).count (each_of (map arg_c args) first memory).answer alike i

  -- ---- each part

  step_same : (name : Text) (i : Option CIndex) → Optional OfIndex i → OfStep (roll-CStep (record { member = name; index = i }))
  step_same name None h fine = rw fold-roll-CStep refl
  step_same name (Some i) h fine =
      let inside : Same (index_c i) = h (rw fold-roll-CStep at fine) in
      rw fold-roll-CStep (λ j memory. next (inside j memory) (λ parts. given (Some (member name ∷ parts))))

  expr_cases : ExprCases OfArg OfKind OfCall OfExpr OfIndex OfPlace OfStep
  expr_cases = record {
    value = λ e h fine.
        let inside : Same (value_c e) = h (rw fold-roll-CArg at fine) in
        rw fold-roll-CArg (λ i memory. next (inside i memory) (λ v. given (Some (by_value v))));
    address = λ p h fine.
        let inside : Same (location_c p) = h (rw fold-roll-CArg at fine) in
        rw fold-roll-CArg (λ i memory. next (inside i memory) (λ l. given (Some (by_address l))));
    literal = λ t n fine. rw fold-roll-CExprKind refl;
    read = λ p h fine.
        let inside : Same (location_c p) = h (rw fold-roll-CExprKind at fine) in
        rw fold-roll-CExprKind (λ i memory. next (inside i memory) (λ l. given (Some (value_at memory l))));
    call = λ c h fine.
        let inside : call_c c first ≡ call_c c second = h (rw fold-roll-CExprKind at fine) in
        rw fold-roll-CExprKind (λ i memory. result_of (inside i memory));
    negation = λ e h fine.
        let inside : Same (value_c e) = h (rw fold-roll-CExprKind at fine) in
        rw fold-roll-CExprKind (λ i memory. next (inside i memory) (λ a. given (option_map scalar (checked_one_of Not OfBool (scalar_number a)))));
    two = λ op a b h k fine.
        let all : Fine (calls_in a ++ calls_in b) = rw fold-roll-CExprKind at fine in
        rw fold-roll-CExprKind
        (two_same op (value_c a) (value_c b) (h (front (AreAlike one other) (calls_in a) (calls_in b) all))
        (k (back (AreAlike one other) (calls_in a) (calls_in b) all)));
    calling = λ name args h fine.
        let all : Fine (name ∷ joined (map calls_in_arg args)) = rw fold-roll-CCall at fine in
        rw fold-roll-CCall
        (calling_same name args (All-head (AreAlike one other) name (joined (map calls_in_arg args)) all)
        (each_same arg_c calls_in_arg args h (All-tail (AreAlike one other) name (joined (map calls_in_arg args)) all)));
    expr = λ place what h fine. rw fold-roll-CExpr (h (rw fold-roll-CExpr at fine));
    index = λ signed at length h fine.
        let inside : Same (value_c at) = h (rw fold-roll-CIndex at fine) in
        rw fold-roll-CIndex (λ i memory. next (inside i memory) (λ k. given (element_projection (index_within (scalar_number k) (pos length)))));
    place = λ through name steps h fine.
        let inside : each_of (map step_c steps) first ≡ each_of (map step_c steps) second =
        each_same step_c calls_in_step steps h (rw fold-roll-CPlace at fine) in
        rw fold-roll-CPlace (λ i memory. next (inside i memory) (λ ways. given (Some (further (named_location first through name) (way_of ways)))));
    step = step_same;
  }

  expr_same : (e : CExpr) → OfExpr e
  expr_same = induct_expr OfArg OfKind OfCall OfExpr OfIndex OfPlace OfStep expr_cases

  place_same : (p : CPlace) → OfPlace p
  place_same = induct_place OfArg OfKind OfCall OfExpr OfIndex OfPlace OfStep expr_cases

  call_same : (c : CCall) → OfCall c
  call_same = induct_call OfArg OfKind OfCall OfExpr OfIndex OfPlace OfStep expr_cases

  -- ---- statements

  abbrev OfStmt : CStmt → Type 0
  OfStmt s = Fine (calls_in_stmt s) → runs_c s first ≡ runs_c s second

  each_stmt : (stmts : List CStmt) → All OfStmt stmts → Fine (joined (map calls_in_stmt stmts)) →
      map (λ (run : CStmtMeaning). run first) (map runs_c stmts) ≡ map (λ run. run second) (map runs_c stmts)
  each_stmt [] h fine = refl
  each_stmt (s ∷ stmts) h fine =
      let here : runs_c s first ≡ runs_c s second =
      All-head OfStmt s stmts h (front (AreAlike one other) (calls_in_stmt s) (joined (map calls_in_stmt stmts)) fine) in
      let rest : map (λ (run : CStmtMeaning). run first) (map runs_c stmts) ≡ map (λ run. run second) (map runs_c stmts) =
      each_stmt stmts (All-tail OfStmt s stmts h) (back (AreAlike one other) (calls_in_stmt s) (joined (map calls_in_stmt stmts)) fine) in
      λ i. here i ∷ rest i

  block_same : (stmts : List CStmt) → All OfStmt stmts → Fine (joined (map calls_in_stmt stmts)) →
      block_of (map runs_c stmts) first ≡ block_of (map runs_c stmts) second
  block_same stmts h fine = let runs = each_stmt stmts h fine in λ i. in_order (runs i)

  chosen_same : (b : Bool) (f g : CStmtMeaning) → f first ≡ f second → g first ≡ g second → (if b then f else g) first ≡ (if b then f else g) second
  chosen_same true f g h k = h
  chosen_same false f g h k = k

  if_same : (e : CExpr) (f g : CStmtMeaning) → Same (value_c e) → f first ≡ f second → g first ≡ g second →
      if_by (value_c e first) (λ b. (if b then f else g) first) ≡ if_by (value_c e second) (λ b. (if b then f else g) second)
  if_same e f g test h k = λ i. if_by (test i) (λ b. chosen_same b f g h k i)

  of_if : (at : Place) (e : CExpr) (block : List CStmt) (more : Option (List CStmt)) → All OfStmt block → Optional (All OfStmt) more →
      OfStmt (stmt at (CStmtKind-F.If e block more))
  of_if at e block None h k fine =
      let all : Fine (calls_in e ++ joined (map calls_in_stmt block) ++ []) = rw (fold-roll-CStmt, fold-roll-CStmtKind) at fine in
      let own : Fine (calls_in e ++ joined (map calls_in_stmt block)) =
      front (AreAlike one other) (calls_in e ++ joined (map calls_in_stmt block)) [] all in
      rw (fold-roll-CStmt, fold-roll-CStmtKind)
      (if_same e (block_of (map runs_c block)) (block_of []) (expr_same e (front (AreAlike one other) (calls_in e) (joined (map calls_in_stmt block)) own))
      (block_same block h (back (AreAlike one other) (calls_in e) (joined (map calls_in_stmt block)) own)) refl)
  of_if at e block (Some more) h k fine =
      let all : Fine ((calls_in e ++ joined (map calls_in_stmt block)) ++ joined (map calls_in_stmt more)) =
      rw (fold-roll-CStmt, fold-roll-CStmtKind) at fine in
      let own : Fine (calls_in e ++ joined (map calls_in_stmt block)) =
      front (AreAlike one other) (calls_in e ++ joined (map calls_in_stmt block)) (joined (map calls_in_stmt more)) all in
      rw (fold-roll-CStmt, fold-roll-CStmtKind)
      (if_same e (block_of (map runs_c block)) (block_of (map runs_c more))
      (expr_same e (front (AreAlike one other) (calls_in e) (joined (map calls_in_stmt block)) own))
      (block_same block h (back (AreAlike one other) (calls_in e) (joined (map calls_in_stmt block)) own))
      (block_same more k (back (AreAlike one other) (calls_in e ++ joined (map calls_in_stmt block)) (joined (map calls_in_stmt more)) all)))

  loop_same : (e : CExpr) (body : List CStmt) → Same (value_c e) → block_of (map runs_c body) first ≡ block_of (map runs_c body) second →
      loop_by (value_c e first) (block_of (map runs_c body) first) ≡ loop_by (value_c e second) (block_of (map runs_c body) second)
  loop_same e body test block = λ i. loop_by (test i) (block i)

  of_return : (at : Place) (e : Option CExpr) → OfStmt (stmt at (CStmtKind-F.Return e))
  of_return at None fine = rw (fold-roll-CStmt, fold-roll-CStmtKind) refl
  of_return at (Some e) fine =
      let value : Same (value_c e) = expr_same e (rw (fold-roll-CStmt, fold-roll-CStmtKind) at fine) in
      rw (fold-roll-CStmt, fold-roll-CStmtKind) (λ i memory. executed memory (value i memory) (λ v. ending (returns (scalar_number v)) memory))

  stmt_cases : StmtCases OfStmt
  stmt_cases = record {
    set = λ at p e fine.
        let all : Fine (calls_in_place p ++ calls_in e) = rw (fold-roll-CStmt, fold-roll-CStmtKind) at fine in
        let place : Same (location_c p) = place_same p (front (AreAlike one other) (calls_in_place p) (calls_in e) all) in
        let value : Same (value_c e) = expr_same e (back (AreAlike one other) (calls_in_place p) (calls_in e) all) in
        rw (fold-roll-CStmt, fold-roll-CStmtKind)
        (λ i memory. executed memory (next (place i memory) (λ l. next (value i memory) (λ v. given (Some (set_at memory l v))))) going);
    clear = λ at p name fine.
        let place : Same (location_c p) = place_same p (rw (fold-roll-CStmt, fold-roll-CStmtKind) at fine) in
        rw (fold-roll-CStmt, fold-roll-CStmtKind) (λ i memory. executed memory (place i memory) (λ l. going (set_at memory l zeros)));
    call = λ at c fine.
        let call : call_c c first ≡ call_c c second = call_same c (rw (fold-roll-CStmt, fold-roll-CStmtKind) at fine) in
        rw (fold-roll-CStmt, fold-roll-CStmtKind) (λ i memory. call_outcome (call i memory));
    branching = of_if;
    loop = λ at turn e body h fine.
        let all : Fine (calls_in e ++ joined (map calls_in_stmt body)) = rw (fold-roll-CStmt, fold-roll-CStmtKind) at fine in
        rw (fold-roll-CStmt, fold-roll-CStmtKind)
        (loop_same e body (expr_same e (front (AreAlike one other) (calls_in e) (joined (map calls_in_stmt body)) all))
        (block_same body h (back (AreAlike one other) (calls_in e) (joined (map calls_in_stmt body)) all)));
    break = λ at fine. rw (fold-roll-CStmt, fold-roll-CStmtKind) refl;
    returns = of_return;
  }

  every : (stmts : List CStmt) → All OfStmt stmts
  every [] = All-nil OfStmt
  every (s ∷ stmts) = All-cons OfStmt s stmts (induct_stmt OfStmt stmt_cases s) (every stmts)

  pub body_same : (stmts : List CStmt) → Fine (calls_in_block stmts) → block_c stmts first ≡ block_c stmts second
  body_same stmts fine = block_same stmts (every stmts) fine

-- what a function does whose block does this
abbrev done_by : CFunc → ℕ → List ArgumentValue → Memory → (Memory → Outcome Memory) → CallResult
done_by function depth passed memory block =
    let o : Outcome Memory = block (with_params depth function.params passed (without_frame depth memory)) in
    record { memory = without_frame depth o.memory; count = o.count; result = result_at o.end }

pub decide : CallsDecide
decide one other function alike depth passed memory =
    ap (done_by function depth passed memory) (body_same one other depth (table_of (pointers_of function.params passed)) function.body alike)
