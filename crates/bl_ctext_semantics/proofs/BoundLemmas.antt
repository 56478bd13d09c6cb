-- No statement, function or tick executes more statements than its cost.
use Rattle.std.proofs.Common.{◌≡◌, ℕ, zero, suc, ◌+◌, ◌*◌, ◌≤◌, ℤ, pos, Bool, true, false, max, List, [], ◌∷◌, ◌++◌, map, Option, Some, None, refl}
use Rattle.std.proofs.Common.{subst, arith}
use Rattle.std.specs.Prelude.{All, if◌then◌else◌, option_map, unwrap_or, is_none, bytes_eq, codes}
use Rattle.std.specs.Option.{option_or}
use Rattle.std.proofs.lemmas.List.Elements.{All-head, All-tail}
use Rattle.bl_tree.specs.declared.text.Text.{Text}
use Rattle.bl_tree.specs.declared.c.CArg.{CArg, fold-roll-CArg}
use Rattle.bl_tree.specs.declared.c.CCall.{CCall, fold-roll-CCall}
use Rattle.bl_tree.specs.declared.c.CExpr.{CExpr, fold-roll-CExpr}
use Rattle.bl_tree.specs.declared.c.CExprKind.{CExprKind, fold-roll-CExprKind}
use Rattle.bl_tree.specs.declared.c.CIndex.{CIndex, fold-roll-CIndex}
use Rattle.bl_tree.specs.declared.c.CPlace.{CPlace, fold-roll-CPlace}
use Rattle.bl_tree.specs.declared.c.CStep.{CStep, fold-roll-CStep, roll-CStep}
use Rattle.bl_tree.specs.declared.c.CStmt.{CStmt, fold-roll-CStmt}
use Rattle.bl_tree.specs.declared.c.CStmtKind.{fold-roll-CStmtKind}
use Rattle.bl_tree.specs.declared.c.CStmtKind.TheOpen.{CStmtKind-F}
use Rattle.bl_tree.specs.declared.c.CFunc.{CFunc}
use Rattle.bl_tree.specs.declared.place.Place.{Place}
use Rattle.bl_tree.specs.Reduce.{joined, total}
use Rattle.bl_tree.specs.declared.scalar.Op.{Op}
use Rattle.bl_tree.specs.declared.scalar.Op.TheVariants.{And, Or, Not}
use Rattle.bl_tree.specs.declared.scalar.Scalar.TheVariants.{Bool as OfBool}
use Rattle.bl_tree.specs.Numbers.{checked_of, checked_one_of, is_one}
use Rattle.bl_ctext_semantics.specs.Memory.{Memory, CValue, member, scalar_number, scalar, value_at, set_at, zeros, without_frame}
use Rattle.bl_ctext_semantics.specs.Tables.{found, Table, no_entries, table_of, with_entry, entry_or}
use Rattle.bl_ctext.specs.declared.builtin.Builtin.{Builtin}
use Rattle.bl_ctext_semantics.specs.Builtin.{builtin_of, index_within}
use Rattle.bl_ctext_semantics.specs.Course.{End, Outcome, breaks, ended_by, ending, following_end, goes_on, going, returns, traps, turn_end}
use Rattle.bl_ctext_semantics.specs.Course.{loop_with_turns, turn_limit, turn_or_none}
use Rattle.bl_ctext_semantics.specs.Meaning.{Counted, given, going_on, next, once_more, ArgumentValue, by_value, by_address, Meaning, further, named_location, way_of, element_projection}
use Rattle.bl_ctext_semantics.specs.Meaning.{Scope, applied, named_call, called_as, called_after, Evaluates, each_of, at_once, two_values, value_c, location_c}
use Rattle.bl_ctext_semantics.specs.Meaning.{call_c, CStmtMeaning, block_of, runs_c, block_c, function_c, meanings_after, meanings, executed, pointers_of, with_params}
use Rattle.bl_ctext_semantics.specs.Calls.{Names, calls_in, calls_in_arg, calls_in_place, calls_in_call, calls_in_step}
use Rattle.bl_ctext_semantics.proofs.Folds.{arg_c, calls_in_index, calls_in_kind, index_c, kind_c, step_c}
use Rattle.bl_ctext_semantics.specs.Cost.{Costs, cost_of_calls, block_cost, cost_of_stmt, cost_of_function, costs_after, costs as all_costs, tick_bound}
use Rattle.bl_ctext_semantics.specs.Trace.{call_from_outside, tick_c}
use Rattle.bl_ctext_semantics.specs.Parts.{Parts}
use Rattle.bl_ctext_semantics.proofs.Induction.{Optional, ExprCases, induct_expr, induct_place, induct_call, StmtCases, induct_stmt, stmt}

-- ---- counts of what comes one after the other

going_on-le : {A B : Type 0} (n k : ℕ) (answer : Option A) (rest : A → Counted B) → ((a : A) → (rest a).count ≤ k) →
    (going_on n answer rest).count ≤ n + k
going_on-le n k None rest after = omega arith
going_on-le n k (Some a) rest after = let h : (rest a).count ≤ k = after a in omega arith

pub next-le : {A B : Type 0} (first : Counted A) (rest : A → Counted B) (n k : ℕ) → first.count ≤ n → ((a : A) → (rest a).count ≤ k) →
    (next first rest).count ≤ n + k
next-le first rest n k before after =
    let h : (next first rest).count ≤ first.count + k = going_on-le first.count k first.answer rest after in omega arith

-- the costs of calls after others
pub cost-append : (costs : Costs) (xs ys : List Text) → cost_of_calls costs (xs ++ ys) ≡ cost_of_calls costs xs + cost_of_calls costs ys
cost-append costs [] ys = omega arith
cost-append costs (x ∷ xs) ys = omega (arith, cost-append costs xs ys)

-- each of these functions has a cost, and executes at most that
pub record Covers (known : Table Meaning) (costs : Costs) : Type 0 where
  pub same : (name : Text) → is_none (costs name) ≡ is_none (known name)
  pub covers : (name : Text) (depth : ℕ) (passed : List ArgumentValue) (memory : Memory) →
      (applied (known name) depth passed memory).count ≤ entry_or 0 costs name

called_as-le : (known : Table Meaning) (costs : Costs) → Covers known costs →
    (builtin : Option Builtin) (name : Text) (depth : ℕ) (passed : List ArgumentValue) (memory : Memory) →
    (called_as builtin (known name) depth passed memory).count ≤ entry_or 0 costs name
called_as-le known costs h (Some b) name depth passed memory = omega arith
called_as-le known costs h None name depth passed memory = h.covers name depth passed memory

called_after-le : (costs : Costs) (scope : Scope) → Covers scope.known costs → (memory : Memory) (name : Text) (n : ℕ) (passed : Option (List ArgumentValue)) →
    (called_after scope memory name n passed).count ≤ n + entry_or 0 costs name
called_after-le costs scope h memory name n None = omega arith
called_after-le costs scope h memory name n (Some passed) =
    let k : (named_call scope name passed memory).count ≤ entry_or 0 costs name =
    called_as-le scope.known costs h (builtin_of name) name (scope.depth + 1) passed memory in omega arith

module _ (costs : Costs) (scope : Scope) (covers : Covers scope.known costs) (memory : Memory) where
  abbrev Least : {A : Type 0} → Evaluates A → Names → Type 0
  Least evaluate names = (evaluate scope memory).count ≤ cost_of_calls costs names

  abbrev OfArg : CArg → Type 0
  OfArg a = Least (arg_c a) (calls_in_arg a)

  abbrev OfKind : CExprKind → Type 0
  OfKind k = Least (kind_c k) (calls_in_kind k)

  abbrev OfCall : CCall → Type 0
  OfCall c = (call_c c scope memory).count ≤ cost_of_calls costs (calls_in_call c)

  abbrev OfExpr : CExpr → Type 0
  OfExpr e = Least (value_c e) (calls_in e)

  abbrev OfIndex : CIndex → Type 0
  OfIndex i = Least (index_c i) (calls_in_index i)

  abbrev OfPlace : CPlace → Type 0
  OfPlace p = Least (location_c p) (calls_in_place p)

  abbrev OfStep : CStep → Type 0
  OfStep s = Least (step_c s) (calls_in_step s)

  -- one after the other
  each_of-le : {X A : Type 0} (f : X → Evaluates A) (g : X → Names) (xs : List X) → All (λ x. Least (f x) (g x)) xs →
      (each_of (map f xs) scope memory).count ≤ cost_of_calls costs (joined (map g xs))
  each_of-le f g [] h = omega arith
  each_of-le f g (x ∷ xs) h =
      let first : (f x scope memory).count ≤ cost_of_calls costs (g x) = All-head (λ y. Least (f y) (g y)) x xs h in
      let rest : (each_of (map f xs) scope memory).count ≤ cost_of_calls costs (joined (map g xs)) =
      each_of-le f g xs (All-tail (λ y. Least (f y) (g y)) x xs h) in
      let both : (each_of (map f (x ∷ xs)) scope memory).count ≤ cost_of_calls costs (g x) + (cost_of_calls costs (joined (map g xs)) + 0) =
      next-le _ _ _ _ first (λ a. next-le _ _ _ _ rest (λ others. omega arith)) in
      omega (arith, cost-append costs (g x) (joined (map g xs)))

  choice-le : (b : Bool) (f g : Evaluates CValue) (n : ℕ) → (f scope memory).count ≤ n → (g scope memory).count ≤ n →
      ((if b then f else g) scope memory).count ≤ n
  choice-le true f g n h k = h
  choice-le false f g n h k = k

  two_values-le : (op : Op) (left right : Evaluates CValue) (n k : ℕ) → (left scope memory).count ≤ n → (right scope memory).count ≤ k →
      (two_values op left right scope memory).count ≤ n + k
  two_values-le And left right n k h r = next-le _ _ n k h (λ a. choice-le (is_one (scalar_number a)) right (at_once (pos 0)) k r (omega arith))
  two_values-le Or left right n k h r = next-le _ _ n k h (λ a. choice-le (is_one (scalar_number a)) (at_once (pos 1)) right k (omega arith) r)
  two_values-le op left right n k h r =
      let all : (next (left scope memory)
      (λ a. next (right scope memory) (λ b. given (option_map scalar (checked_of op OfBool (scalar_number a) (scalar_number b)))))).count ≤ n + (k + 0) =
      next-le _ _ n (k + 0) h (λ a. next-le _ _ k 0 r (λ b. omega arith)) in
      omega arith

  of_step : (name : Text) (i : Option CIndex) → Optional OfIndex i → OfStep (roll-CStep (record { member = name; index = i }))
  of_step name None h = rw (fold-roll-CStep, fold-roll-CStep) (omega arith)
  of_step name (Some i) h =
      let all : (next (index_c i scope memory) (λ parts. given (Some (member name ∷ parts)))).count ≤ cost_of_calls costs (calls_in_index i) + 0 =
      next-le _ _ _ 0 h (λ parts. omega arith) in
      rw (fold-roll-CStep, fold-roll-CStep) (omega arith)

  expr_cases : ExprCases OfArg OfKind OfCall OfExpr OfIndex OfPlace OfStep
  expr_cases = record {
    value = λ e h.
        let all : (next (value_c e scope memory) (λ v. given (Some (by_value v)))).count ≤ cost_of_calls costs (calls_in e) + 0 =
        next-le _ _ _ 0 h (λ v. omega arith) in
        rw (fold-roll-CArg, fold-roll-CArg) (omega arith);
    address = λ p h.
        let all : (next (location_c p scope memory) (λ l. given (Some (by_address l)))).count ≤ cost_of_calls costs (calls_in_place p) + 0 =
        next-le _ _ _ 0 h (λ l. omega arith) in
        rw (fold-roll-CArg, fold-roll-CArg) (omega arith);
    literal = λ t n. rw (fold-roll-CExprKind, fold-roll-CExprKind) (omega arith);
    read = λ p h.
        let all : (next (location_c p scope memory) (λ l. given (Some (value_at memory l)))).count ≤ cost_of_calls costs (calls_in_place p) + 0 =
        next-le _ _ _ 0 h (λ l. omega arith) in
        rw (fold-roll-CExprKind, fold-roll-CExprKind) (omega arith);
    call = λ c h. rw (fold-roll-CExprKind, fold-roll-CExprKind) h;
    negation = λ e h.
        let all : (next (value_c e scope memory) (λ a. given (option_map scalar (checked_one_of Not OfBool (scalar_number a))))).count ≤ cost_of_calls costs
        (calls_in e) + 0 = next-le _ _ _ 0 h (λ a. omega arith) in
        rw (fold-roll-CExprKind, fold-roll-CExprKind) (omega arith);
    two = λ op a b h k.
        let all : (two_values op (value_c a) (value_c b) scope memory).count ≤ cost_of_calls costs (calls_in a) + cost_of_calls costs (calls_in b) =
        two_values-le op _ _ _ _ h k in
        rw (fold-roll-CExprKind, fold-roll-CExprKind) (omega (arith, cost-append costs (calls_in a) (calls_in b)));
    calling = λ name args h.
        let passed : (each_of (map arg_c args) scope memory).count ≤ cost_of_calls costs (joined (map calls_in_arg args)) =
        each_of-le arg_c calls_in_arg args h in
        let all : (called_after scope memory name (each_of (map arg_c args) scope memory).count
        (each_of (map arg_c args) scope memory).answer).count ≤ (each_of (map arg_c args) scope memory).count + entry_or 0 costs name =
        called_after-le costs scope covers memory name _ _ in
        rw (fold-roll-CCall, fold-roll-CCall) (omega arith);
    expr = λ place what h. rw (fold-roll-CExpr, fold-roll-CExpr) h;
    index = λ signed at length h.
        let all : (next (value_c at scope memory) (λ i. given (element_projection (index_within (scalar_number i) (pos length))))).count ≤ cost_of_calls costs
        (calls_in at) + 0 = next-le _ _ _ 0 h (λ i. omega arith) in
        rw (fold-roll-CIndex, fold-roll-CIndex) (omega arith);
    place = λ through name steps h.
        let ways : (each_of (map step_c steps) scope memory).count ≤ cost_of_calls costs (joined (map calls_in_step steps)) =
        each_of-le step_c calls_in_step steps h in
        let all : (next (each_of (map step_c steps) scope memory)
        (λ parts. given (Some (further (named_location scope through name) (way_of parts))))).count ≤ cost_of_calls costs
        (joined (map calls_in_step steps)) + 0 = next-le _ _ _ 0 ways (λ parts. omega arith) in
        rw (fold-roll-CPlace, fold-roll-CPlace) (omega arith);
    step = of_step;
  }

  -- an expression
  pub expr-le : (e : CExpr) → (value_c e scope memory).count ≤ cost_of_calls costs (calls_in e)
  expr-le = induct_expr OfArg OfKind OfCall OfExpr OfIndex OfPlace OfStep expr_cases

  -- a place
  pub place-le : (p : CPlace) → (location_c p scope memory).count ≤ cost_of_calls costs (calls_in_place p)
  place-le = induct_place OfArg OfKind OfCall OfExpr OfIndex OfPlace OfStep expr_cases

  -- a call
  pub call-le : (c : CCall) → (call_c c scope memory).count ≤ cost_of_calls costs (calls_in_call c)
  call-le = induct_call OfArg OfKind OfCall OfExpr OfIndex OfPlace OfStep expr_cases

-- ---- statements

ended_by-le : {A : Type 0} (memory : Memory) (n k : ℕ) (answer : Option A) (rest : A → Outcome Memory) → ((a : A) → (rest a).count ≤ k) →
    (ended_by memory n answer rest).count ≤ n + k
ended_by-le memory n k None rest h = omega arith
ended_by-le memory n k (Some a) rest h = let r : (rest a).count ≤ k = h a in omega arith

following_end-le : (n k : ℕ) (memory : Memory) (end : End) (rest : Memory → Outcome Memory) → (rest memory).count ≤ k →
    (following_end n memory end rest).count ≤ n + k
following_end-le n k memory goes_on rest h = omega arith
following_end-le n k memory breaks rest h = omega arith
following_end-le n k memory (returns r) rest h = omega arith
following_end-le n k memory traps rest h = omega arith

turn_end-le : (n k : ℕ) (memory : Memory) (end : End) (again : Memory → Outcome Memory) → (again memory).count ≤ k →
    (turn_end n memory end again).count ≤ n + k
turn_end-le n k memory goes_on again h = omega arith
turn_end-le n k memory breaks again h = omega arith
turn_end-le n k memory (returns r) again h = omega arith
turn_end-le n k memory traps again h = omega arith

turn_or_none-le : (b : Bool) (memory : Memory) (turn : Memory → Outcome Memory) (k : ℕ) → (turn memory).count ≤ k →
    (turn_or_none b memory turn).count ≤ 1 + k
turn_or_none-le true memory turn k h = omega arith
turn_or_none-le false memory turn k h = omega arith

-- a loop, by the most of its condition and of its body
turns-le : (n k b : ℕ) (condition : Evaluates CValue) (body : CStmtMeaning) (scope : Scope) →
    ((m : Memory) → (condition scope m).count ≤ k) → ((m : Memory) → (body scope m).count ≤ b) →
    (m : Memory) → (loop_with_turns n (once_more condition scope) (body scope) m).count ≤ (n + 1) * (1 + (k + b))
unfolding loop_with_turns
turns-le zero k b condition body scope hc hb m =
    let c : (condition scope m).count ≤ k = hc m in
    let all : (loop_with_turns zero (once_more condition scope) (body scope) m).count ≤ (condition scope m).count + (1 + 0) =
    ended_by-le m _ (1 + 0) _ _ (λ v. turn_or_none-le (is_one (scalar_number v)) m _ 0 (omega arith)) in
    omega arith
turns-le (suc n) k b condition body scope hc hb m =
    let c : (condition scope m).count ≤ k = hc m in
    let o : (body scope m).count ≤ b = hb m in
    let rest : (loop_with_turns n (once_more condition scope) (body scope) (body scope m).memory).count ≤ (n + 1) * (1 + (k + b)) =
    turns-le n k b condition body scope hc hb (body scope m).memory in
    let turn : (turn_end (body scope m).count (body scope m).memory (body scope m).end
    (loop_with_turns n (once_more condition scope) (body scope))).count ≤ (body scope
    m).count + (n + 1) * (1 + (k + b)) =
    turn_end-le _ _ _ _ _ rest in
    let all : (loop_with_turns (suc n) (once_more condition scope) (body scope) m).count
    ≤ (condition scope m).count + (1 + ((body scope m).count + (n + 1) * (1 + (k + b)))) =
    ended_by-le m _ _ _ _ (λ v. turn_or_none-le (is_one (scalar_number v)) m _ _ turn) in
    omega arith

module _ (costs : Costs) (scope : Scope) (covers : Covers scope.known costs) where
  abbrev OfStmt : CStmt → Type 0
  OfStmt s = (memory : Memory) → (runs_c s scope memory).count ≤ cost_of_stmt s costs

  block-le : (stmts : List CStmt) → All OfStmt stmts → (memory : Memory) →
      (block_of (map runs_c stmts) scope memory).count ≤ block_cost (map cost_of_stmt stmts) costs
  block-le [] h memory = omega arith
  block-le (s ∷ stmts) h memory =
      let first : (runs_c s scope memory).count ≤ cost_of_stmt s costs = All-head OfStmt s stmts h memory in
      let rest : (block_of (map runs_c stmts) scope (runs_c s scope memory).memory).count ≤ block_cost (map cost_of_stmt stmts) costs =
      block-le stmts (All-tail OfStmt s stmts h) (runs_c s scope memory).memory in
      let both : (block_of (map runs_c (s ∷ stmts)) scope memory).count ≤ (runs_c s scope memory).count + block_cost (map cost_of_stmt stmts) costs =
      following_end-le _ _ _ _ _ rest in
      omega arith

  choose-le : (b : Bool) (f g : CStmtMeaning) (n k : ℕ) (memory : Memory) → (f scope memory).count ≤ n → (g scope memory).count ≤ k →
      ((if b then f else g) scope memory).count ≤ max n k
  choose-le true f g n k memory h r = omega arith
  choose-le false f g n k memory h r = omega arith

  of_if : (at : Place) (e : CExpr) (block : List CStmt) (other : Option (List CStmt)) → All OfStmt block → Optional (All OfStmt) other →
      OfStmt (stmt at (CStmtKind-F.If e block other))
  of_if at e block None h r memory =
      let c : (value_c e scope memory).count ≤ cost_of_calls costs (calls_in e) = expr-le costs scope covers memory e in
      let b : (block_of (map runs_c block) scope memory).count ≤ block_cost (map cost_of_stmt block) costs = block-le block h memory in
      let all : (executed memory (value_c e scope memory)
      (λ v. (if is_one (scalar_number v) then block_of (map runs_c block) else block_of []) scope memory)).count
      ≤ (1 + (value_c e scope memory).count) + max (block_cost (map cost_of_stmt block) costs) 0 =
      ended_by-le memory _ _ _ _ (λ v. choose-le (is_one (scalar_number v)) (block_of (map runs_c block)) (block_of []) _ 0 memory b (omega arith)) in
      rw (fold-roll-CStmt, fold-roll-CStmt, fold-roll-CStmtKind, fold-roll-CStmtKind) (omega arith)
  of_if at e block (Some other) h r memory =
      let c : (value_c e scope memory).count ≤ cost_of_calls costs (calls_in e) = expr-le costs scope covers memory e in
      let b : (block_of (map runs_c block) scope memory).count ≤ block_cost (map cost_of_stmt block) costs = block-le block h memory in
      let o : (block_of (map runs_c other) scope memory).count ≤ block_cost (map cost_of_stmt other) costs = block-le other r memory in
      let all : (executed memory (value_c e scope memory)
      (λ v. (if is_one (scalar_number v) then block_of (map runs_c block) else block_of (map runs_c other)) scope memory)).count
      ≤ (1 + (value_c e scope memory).count) + max (block_cost (map cost_of_stmt block) costs) (block_cost (map cost_of_stmt other) costs) =
      ended_by-le memory _ _ _ _ (λ v. choose-le (is_one (scalar_number v)) (block_of (map runs_c block)) (block_of (map runs_c other)) _ _ memory b o)
      in
      rw (fold-roll-CStmt, fold-roll-CStmt, fold-roll-CStmtKind, fold-roll-CStmtKind) (omega arith)

  of_return : (at : Place) (e : Option CExpr) → OfStmt (stmt at (CStmtKind-F.Return e))
  of_return at None memory = rw (fold-roll-CStmt, fold-roll-CStmt, fold-roll-CStmtKind, fold-roll-CStmtKind) (omega arith)
  of_return at (Some e) memory =
      let c : (value_c e scope memory).count ≤ cost_of_calls costs (calls_in e) = expr-le costs scope covers memory e in
      let all : (executed memory (value_c e scope memory) (λ v. ending (returns (scalar_number v)) memory)).count ≤ (1 + (value_c e scope memory).count) + 0 =
      ended_by-le memory _ 0 _ _ (λ v. omega arith) in
      rw (fold-roll-CStmt, fold-roll-CStmt, fold-roll-CStmtKind, fold-roll-CStmtKind) (omega arith)

  stmt_cases : StmtCases OfStmt
  stmt_cases = record {
    set = λ at p e memory.
        let l : (location_c p scope memory).count ≤ cost_of_calls costs (calls_in_place p) = place-le costs scope covers memory p in
        let c : (value_c e scope memory).count ≤ cost_of_calls costs (calls_in e) = expr-le costs scope covers memory e in
        let both : (next (location_c p scope memory) (λ q. next (value_c e scope memory)
        (λ v. given (Some (set_at memory q v))))).count ≤ cost_of_calls costs
        (calls_in_place p) + (cost_of_calls costs (calls_in e) + 0) =
        next-le _ _ _ _ l (λ q. next-le _ _ _ 0 c (λ v. omega arith)) in
        let all : (executed memory (next (location_c p scope memory)
        (λ q. next (value_c e scope memory) (λ v. given (Some (set_at memory q v))))) going).count
        ≤ (1 + (next (location_c p scope memory) (λ q. next (value_c e scope memory) (λ v. given (Some (set_at memory q v))))).count) + 0 =
        ended_by-le memory _ 0 _ _ (λ m. omega arith) in
        rw (fold-roll-CStmt, fold-roll-CStmt, fold-roll-CStmtKind, fold-roll-CStmtKind) (omega arith);
    clear = λ at p name memory.
        let l : (location_c p scope memory).count ≤ cost_of_calls costs (calls_in_place p) = place-le costs scope covers memory p in
        let all : (executed memory (location_c p scope memory) (λ q. going (set_at memory q zeros))).count ≤ (1 + (location_c p scope memory).count) + 0 =
        ended_by-le memory _ 0 _ _ (λ q. omega arith) in
        rw (fold-roll-CStmt, fold-roll-CStmt, fold-roll-CStmtKind, fold-roll-CStmtKind) (omega arith);
    call = λ at c memory.
        let l : (call_c c scope memory).count ≤ cost_of_calls costs (calls_in_call c) = call-le costs scope covers memory c in
        rw (fold-roll-CStmt, fold-roll-CStmt, fold-roll-CStmtKind, fold-roll-CStmtKind) (omega arith);
    branching = of_if;
    loop = λ at turn e body h memory.
        let all : (loop_with_turns turn_limit (once_more (value_c e) scope) (block_of (map runs_c body) scope) memory).count
        ≤ (turn_limit + 1) * (1 + (cost_of_calls costs (calls_in e) + block_cost (map cost_of_stmt body) costs)) =
        turns-le turn_limit _ _ (value_c e) (block_of (map runs_c body)) scope (λ m. expr-le costs scope covers m e) (λ m. block-le body h m) memory in
        rw (fold-roll-CStmt, fold-roll-CStmt, fold-roll-CStmtKind, fold-roll-CStmtKind) (omega arith);
    break = λ at memory. rw (fold-roll-CStmt, fold-roll-CStmt, fold-roll-CStmtKind, fold-roll-CStmtKind) (omega arith);
    returns = of_return;
  }

  -- a statement
  pub stmt-le : (s : CStmt) (memory : Memory) → (runs_c s scope memory).count ≤ cost_of_stmt s costs
  stmt-le = induct_stmt OfStmt stmt_cases

  -- the statements of a block
  pub body-le : (stmts : List CStmt) (memory : Memory) → (block_c stmts scope memory).count ≤ total (map (λ s. cost_of_stmt s costs) stmts)
  body-le [] memory = omega arith
  body-le (s ∷ stmts) memory =
      let first : (runs_c s scope memory).count ≤ cost_of_stmt s costs = stmt-le s memory in
      let rest : (block_c stmts scope (runs_c s scope memory).memory).count ≤ total (map (λ t. cost_of_stmt t costs) stmts) =
      body-le stmts (runs_c s scope memory).memory in
      let both : (block_c (s ∷ stmts) scope memory).count ≤ (runs_c s scope memory).count + total (map (λ t. cost_of_stmt t costs) stmts) =
      following_end-le _ _ _ _ _ rest in
      omega arith

-- ---- functions

choice_of-le : (asked name : Text) (b : Bool) (old : Option Meaning) (cost : Option ℕ) (f : Meaning) (c : ℕ) (depth : ℕ) (passed : List ArgumentValue)
    (memory : Memory) →
    (f depth passed memory).count ≤ c → (applied old depth passed memory).count ≤ unwrap_or cost 0 → is_none cost ≡ is_none old →
    (applied (option_or old (if b then Some f else None)) depth passed memory).count ≤ unwrap_or (option_or cost (if b then Some c else None)) 0
choice_of-le asked name b (Some g) (Some d) f c depth passed memory h r same = r
choice_of-le asked name true None None f c depth passed memory h r same = h
choice_of-le asked name false None None f c depth passed memory h r same = r
choice_of-le asked name b (Some g) None f c depth passed memory h r same = cc
choice_of-le asked name b None (Some d) f c depth passed memory h r same = cc

choice-same : {A B : Type 0} (b : Bool) (cost : Option A) (old : Option B) (c : A) (f : B) → is_none cost ≡ is_none old →
    is_none (option_or cost (if b then Some c else None)) ≡ is_none (option_or old (if b then Some f else None))
choice-same b (Some d) (Some g) c f h = refl
choice-same true None None c f h = refl
choice-same false None None c f h = refl
choice-same b None (Some g) c f h = cc
choice-same b (Some d) None c f h = cc

-- one more function, with its cost
covers-entry : (known : Table Meaning) (costs : Costs) → Covers known costs → (name : Text) (f : Meaning) (c : ℕ) →
    ((depth : ℕ) (passed : List ArgumentValue) (memory : Memory) → (f depth passed memory).count ≤ c) →
    Covers (with_entry known name f) (with_entry costs name c)
covers-entry known costs h name f c le = record {
  same = λ asked. choice-same (bytes_eq name asked) (costs asked) (known asked) c f (h.same asked);
  covers = λ asked depth passed memory.
      choice_of-le asked name (bytes_eq name asked) (known asked) (costs asked) f c depth passed memory (le depth passed memory)
      (h.covers asked depth passed memory) (h.same asked);
}

-- the functions of two lists, one by one: the same name, and no more statements than the cost
abbrev pub Aligned : List (Text × Meaning) → List (Text × ℕ) → Type 0
Aligned [] [] = Unit {0}
Aligned (f ∷ known) (c ∷ costs) =
    (f.0 ≡ c.0) × ((depth : ℕ) (passed : List ArgumentValue) (memory : Memory) → (f.1 depth passed memory).count ≤ c.1) × Aligned known costs
Aligned [] (c ∷ costs) = ⊥
Aligned (f ∷ known) [] = ⊥

applied-le : (b : Bool) (f : Meaning) (c : ℕ) (rest : Option Meaning) (n : Option ℕ) (depth : ℕ) (passed : List ArgumentValue) (memory : Memory) →
    (f depth passed memory).count ≤ c → (applied rest depth passed memory).count ≤ unwrap_or n 0 →
    (applied (if b then Some f else rest) depth passed memory).count ≤ unwrap_or (if b then Some c else n) 0
applied-le true f c rest n depth passed memory h r = h
applied-le false f c rest n depth passed memory h r = r

covers_at : (known : List (Text × Meaning)) (costs : List (Text × ℕ)) → Aligned known costs →
    (name : Text) (depth : ℕ) (passed : List ArgumentValue) (memory : Memory) →
    (applied (found name known) depth passed memory).count ≤ unwrap_or (found name costs) 0
covers_at [] [] h name depth passed memory = omega arith
covers_at (f ∷ known) (c ∷ costs) h name depth passed memory =
    let rest : (applied (found name known) depth passed memory).count ≤ unwrap_or (found name costs) 0 = covers_at known costs h.2 name depth passed memory in
    subst (λ n. (applied (found name (f ∷ known)) depth passed memory).count ≤ unwrap_or (if bytes_eq n name then Some c.1 else found name costs) 0) h.0
    (applied-le (bytes_eq f.0 name) f.1 c.1 (found name known) (found name costs) depth passed memory (h.1 depth passed memory) rest)
covers_at [] (c ∷ costs) h name depth passed memory = absurd h
covers_at (f ∷ known) [] h name depth passed memory = absurd h

-- a function over earlier ones
pub function-le : (known : Table Meaning) (costs : Costs) → Covers known costs →
    (function : CFunc) (depth : ℕ) (passed : List ArgumentValue) (memory : Memory) →
    (function_c known function depth passed memory).count ≤ cost_of_function costs function
function-le known costs h function depth passed memory =
    body-le costs (record { known = known; depth = depth; pointers = table_of (pointers_of function.params passed) })
    h function.body (with_params depth function.params passed (without_frame depth memory))

aligned_after : (known : Table Meaning) (costs : Costs) (functions : List CFunc) → Covers known costs →
    Aligned (meanings_after known functions) (costs_after costs functions)
aligned_after known costs [] h = tt
aligned_after known costs (f ∷ functions) h = (
  refl,
  function-le known costs h f,
  aligned_after (with_entry known f.name (function_c known f)) (with_entry costs f.name (cost_of_function costs f)) functions
      (covers-entry known costs h f.name (function_c known f) (cost_of_function costs f) (function-le known costs h f)),
)

nothing-covers : Covers no_entries no_entries
nothing-covers = record { same = λ name. refl; covers = λ name depth passed memory. omega arith }

-- every call from outside
pub entered-le : (file : Parts) (name : Text) (passed : List ArgumentValue) (memory : Memory) →
    (call_from_outside file name passed memory).count ≤ unwrap_or (found name (all_costs file.funcs)) 0
unfolding call_from_outside
entered-le file name passed memory =
    covers_at (meanings file.funcs) (all_costs file.funcs) (aligned_after no_entries no_entries file.funcs nothing-covers) name 0 passed memory

-- every tick
pub tick-le : (file : Parts) (cells ins : List ℤ) → (tick_c file cells ins).count ≤ tick_bound file
unfolding tick_c
tick-le file cells ins = entered-le file (codes "bl_tick") _ _
