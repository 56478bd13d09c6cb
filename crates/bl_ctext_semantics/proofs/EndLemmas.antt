-- How statements of a well-formed file end.
use Rattle.std.proofs.Common.{◌≡◌, ℕ, zero, suc, ◌+◌, ◌<◌, ℤ, Bool, true, false, ◌&&◌, ◌||◌, List, [], ◌∷◌, ◌++◌, map, length, Option}
use Rattle.std.proofs.Common.{Some, None, refl}
use Rattle.std.specs.Prelude.{All, not, is_none, nat_lt, nat_le, if◌then◌else◌}
use Rattle.std.specs.List.{list_all}
use Rattle.std.proofs.lemmas.List.Elements.{All-nil, All-cons, All-head, All-tail}
use Rattle.bl_tree.proofs.Basics.{and_first, and_second, first_empty, second_empty}
use Rattle.bl_tree.specs.declared.place.Place.{Place}
use Rattle.bl_tree.specs.declared.scalar.Scalar.{Scalar}
use Rattle.bl_tree.specs.declared.c.CExpr.{CExpr}
use Rattle.bl_tree.specs.declared.c.CMember.{CMember}
use Rattle.bl_tree.specs.declared.c.CStmt.{CStmt, fold-roll-CStmt}
use Rattle.bl_tree.specs.declared.c.CStmtKind.{fold-roll-CStmtKind}
use Rattle.bl_tree.specs.declared.c.CStmtKind.TheOpen.{CStmtKind-F}
use Rattle.bl_tree.specs.declared.c.CFunc.{CFunc}
use Rattle.bl_tree.specs.Numbers.{is_one}
use Rattle.bl_ctext_semantics.specs.Memory.{Memory, CValue, scalar_number, set_at, zeros}
use Rattle.bl_ctext_semantics.specs.Course.{End, Outcome, breaks, ended_by, ending, following_end, goes_on, going, returns, traps, turn_end, turn_limit}
use Rattle.bl_ctext_semantics.specs.Course.{loop_with_turns, turn_or_none}
use Rattle.bl_ctext_semantics.specs.Meaning.{Counted, Evaluates, given, next, Scope, CStmtMeaning, block_of, executed, call_end, once_more, runs_c, block_c}
use Rattle.bl_ctext_semantics.specs.Meaning.{value_c, location_c, call_c}
use Rattle.bl_ctext_semantics.specs.Ends.{EndsAs, EndsInside, AlwaysEnds}
use Rattle.bl_ctext_semantics.specs.Tables.{Table, no_entries, with_entry}
use Rattle.bl_ctext_semantics.specs.Faults.{Clause, distinct_names, declared_before, scalar_parameter, static_functions, short_chain, returns_result}
use Rattle.bl_ctext_semantics.specs.Faults.{all_distinct, is_declared, is_scalar, Context, Signature, unless, block_faults, faults_in_stmt}
use Rattle.bl_ctext_semantics.specs.Faults.{surely_returns, last_returns, faults_in_head, variable_names, names_table, faults_in_function}
use Rattle.bl_ctext_semantics.specs.Faults.{function_faults_after, faults_in, condition_faults, context_in, repeated}
use Rattle.bl_ctext_semantics.specs.Faults.{depth_of_function, signature_in, struct_table, struct_faults_after}
use Rattle.bl_ctext_semantics.specs.Loops.{turns_in_block}
use Rattle.bl_ctext_semantics.specs.Parts.{Parts}
use Rattle.bl_ctext_semantics.proofs.Induction.{Optional, StmtCases, induct_stmt, stmt}

-- ---- lists of faults

-- ---- how statements end

abbrev pub leaving : End → Type 0
leaving goes_on = ⊥
leaving breaks = Unit {0}
leaving (returns n) = Unit {0}
leaving traps = Unit {0}

-- an end other than by the last statement
pub record Leaves (end : End) : Type 0 where
  pub it : leaving end

abbrev pub staying : End → Type 0
staying goes_on = Unit {0}
staying breaks = ⊥
staying (returns n) = Unit {0}
staying traps = Unit {0}

-- an end other than by `break`
pub record Stays (end : End) : Type 0 where
  pub it : staying end

ended_by-leaves : {A : Type 0} (memory : Memory) (n : ℕ) (answer : Option A) (rest : A → Outcome Memory) → ((a : A) → Leaves (rest a).end) →
    Leaves (ended_by memory n answer rest).end
ended_by-leaves memory n None rest h = record { it = tt }
ended_by-leaves memory n (Some a) rest h = h a

ended_by-stays : {A : Type 0} (memory : Memory) (n : ℕ) (answer : Option A) (rest : A → Outcome Memory) → ((a : A) → Stays (rest a).end) →
    Stays (ended_by memory n answer rest).end
ended_by-stays memory n None rest h = record { it = tt }
ended_by-stays memory n (Some a) rest h = h a

executed-leaves : {A : Type 0} (memory : Memory) (evaluated : Counted A) (rest : A → Outcome Memory) → ((a : A) → Leaves (rest a).end) →
    Leaves (executed memory evaluated rest).end
executed-leaves memory evaluated rest h = ended_by-leaves memory (1 + evaluated.count) evaluated.answer rest h

executed-stays : {A : Type 0} (memory : Memory) (evaluated : Counted A) (rest : A → Outcome Memory) → ((a : A) → Stays (rest a).end) →
    Stays (executed memory evaluated rest).end
executed-stays memory evaluated rest h = ended_by-stays memory (1 + evaluated.count) evaluated.answer rest h

following-leaves : (n : ℕ) (memory : Memory) (end : End) (rest : Memory → Outcome Memory) → Leaves (rest memory).end →
    Leaves (following_end n memory end rest).end
following-leaves n memory goes_on rest h = h
following-leaves n memory breaks rest h = record { it = tt }
following-leaves n memory (returns r) rest h = record { it = tt }
following-leaves n memory traps rest h = record { it = tt }

following-left : (n : ℕ) (memory : Memory) (end : End) (rest : Memory → Outcome Memory) → Leaves end → Leaves (following_end n memory end rest).end
following-left n memory goes_on rest h = absurd h.it
following-left n memory breaks rest h = record { it = tt }
following-left n memory (returns r) rest h = record { it = tt }
following-left n memory traps rest h = record { it = tt }

following-stays : (n : ℕ) (memory : Memory) (end : End) (rest : Memory → Outcome Memory) → Stays end → Stays (rest memory).end →
    Stays (following_end n memory end rest).end
following-stays n memory goes_on rest h r = r
following-stays n memory breaks rest h r = h
following-stays n memory (returns v) rest h r = record { it = tt }
following-stays n memory traps rest h r = record { it = tt }

turn_end-stays : (n : ℕ) (memory : Memory) (end : End) (again : Memory → Outcome Memory) → Stays (again memory).end →
    Stays (turn_end n memory end again).end
turn_end-stays n memory goes_on again h = h
turn_end-stays n memory breaks again h = record { it = tt }
turn_end-stays n memory (returns r) again h = record { it = tt }
turn_end-stays n memory traps again h = record { it = tt }

turn_or_none-stays : (b : Bool) (memory : Memory) (turn : Memory → Outcome Memory) → Stays (turn memory).end → Stays (turn_or_none b memory turn).end
turn_or_none-stays true memory turn h = h
turn_or_none-stays false memory turn h = record { it = tt }

turns-stays : (n : ℕ) (condition : Evaluates CValue) (body : CStmtMeaning) (scope : Scope) (m : Memory) →
    Stays (loop_with_turns n (once_more condition scope) (body scope) m).end
unfolding loop_with_turns
turns-stays zero condition body scope m =
    let stop : Memory → Outcome Memory = λ w. record { memory = w; end = traps; count = 0 } in
    let trapped : Stays (stop m).end = record { it = tt } in
    ended_by-stays m (condition scope m).count (condition scope m).answer (λ v. turn_or_none (is_one (scalar_number v)) m stop)
    (λ v. turn_or_none-stays (is_one (scalar_number v)) m stop trapped)
turns-stays (suc n) condition body scope m =
    let turn : Memory → Outcome Memory = λ w. turn_end (body scope w).count (body scope w).memory (body scope w).end
    (loop_with_turns n (once_more condition scope) (body scope)) in
    let rest : Stays (turn m).end =
    turn_end-stays (body scope m).count (body scope m).memory (body scope m).end (loop_with_turns n (once_more condition scope) (body scope))
    (turns-stays n condition body scope (body scope m).memory) in
    ended_by-stays m (condition scope m).count (condition scope m).answer (λ v. turn_or_none (is_one (scalar_number v)) m turn)
    (λ v. turn_or_none-stays (is_one (scalar_number v)) m turn rest)

call_end-stays : (result : Option ℤ) → Stays (call_end result)
call_end-stays (Some n) = record { it = tt }
call_end-stays None = record { it = tt }

-- ---- a statement that surely returns leaves its block

module _ (scope : Scope) where
  abbrev Returns : CStmt → Type 0
  Returns s = surely_returns s ≡ true → (memory : Memory) → Leaves (runs_c s scope memory).end

  block-leaves : (stmts : List CStmt) → All Returns stmts → last_returns (map surely_returns stmts) ≡ true → (memory : Memory) →
      Leaves (block_of (map runs_c stmts) scope memory).end
  block-leaves [] h last memory = cc
  block-leaves (s ∷ []) h last memory =
      following-left (runs_c s scope memory).count (runs_c s scope memory).memory (runs_c s scope memory).end (λ m. block_of [] scope m)
      (All-head Returns s [] h last memory)
  block-leaves (s ∷ t ∷ stmts) h last memory =
      following-leaves (runs_c s scope memory).count (runs_c s scope memory).memory (runs_c s scope memory).end
      (λ m. block_of (map runs_c (t ∷ stmts)) scope m) (block-leaves (t ∷ stmts) (All-tail Returns s (t ∷ stmts) h) last (runs_c s scope memory).memory)

  choose-leaves : (b : Bool) (f g : CStmtMeaning) (memory : Memory) → Leaves (f scope memory).end → Leaves (g scope memory).end →
      Leaves ((if b then f else g) scope memory).end
  choose-leaves true f g memory h r = h
  choose-leaves false f g memory h r = r

  if-returns : (at : Place) (e : CExpr) (block : List CStmt) (other : Option (List CStmt)) → All Returns block → Optional (All Returns) other →
      Returns (stmt at (CStmtKind-F.If e block other))
  if-returns at e block None h r sure memory =
      let e : (last_returns (map surely_returns block) && false) ≡ true = rw (fold-roll-CStmt, fold-roll-CStmtKind) at sure in
      absurd (let x : false ≡ true = and_second (last_returns (map surely_returns block)) false e in cc)
  if-returns at e block (Some other) h r sure memory =
      let both : (last_returns (map surely_returns block) && last_returns (map surely_returns other)) ≡ true =
      rw (fold-roll-CStmt, fold-roll-CStmtKind) at sure in
      let first : Leaves (block_of (map runs_c block) scope memory).end = block-leaves block h (and_first _ _ both) memory in
      let second : Leaves (block_of (map runs_c other) scope memory).end = block-leaves other r (and_second _ _ both) memory in
      let all : Leaves (executed memory (value_c e scope memory)
      (λ v. (if is_one (scalar_number v) then block_of (map runs_c block) else block_of (map runs_c other)) scope memory)).end =
      executed-leaves memory (value_c e scope memory)
      (λ v. (if is_one (scalar_number v) then block_of (map runs_c block) else block_of (map runs_c other)) scope memory)
      (λ v. choose-leaves (is_one (scalar_number v)) (block_of (map runs_c block)) (block_of (map runs_c other)) memory first second) in
      rw (fold-roll-CStmt, fold-roll-CStmtKind) all

  return-returns : (at : Place) (e : Option CExpr) → Returns (stmt at (CStmtKind-F.Return e))
  return-returns at None sure memory = rw (fold-roll-CStmt, fold-roll-CStmtKind) (record { it = tt })
  return-returns at (Some e) sure memory =
      let all : Leaves (executed memory (value_c e scope memory) (λ v. ending (returns (scalar_number v)) memory)).end =
      executed-leaves memory (value_c e scope memory) (λ v. ending (returns (scalar_number v)) memory) (λ v. record { it = tt }) in
      rw (fold-roll-CStmt, fold-roll-CStmtKind) all

  return_cases : StmtCases Returns
  return_cases = record {
    set = λ at p e sure memory. absurd (let x : false ≡ true = rw (fold-roll-CStmt, fold-roll-CStmtKind) at sure in cc);
    clear = λ at p name sure memory. absurd (let x : false ≡ true = rw (fold-roll-CStmt, fold-roll-CStmtKind) at sure in cc);
    call = λ at c sure memory. absurd (let x : false ≡ true = rw (fold-roll-CStmt, fold-roll-CStmtKind) at sure in cc);
    branching = if-returns;
    loop = λ at turn e body h sure memory. absurd (let x : false ≡ true = rw (fold-roll-CStmt, fold-roll-CStmtKind) at sure in cc);
    break = λ at sure memory. absurd (let x : false ≡ true = rw (fold-roll-CStmt, fold-roll-CStmtKind) at sure in cc);
    returns = return-returns;
  }

  stmt-returns : (s : CStmt) → Returns s
  stmt-returns = induct_stmt Returns return_cases

  -- a body that surely returns
  pub body-leaves : (stmts : List CStmt) → last_returns (map surely_returns stmts) ≡ true → (memory : Memory) → Leaves (block_c stmts scope memory).end
  body-leaves [] last memory = cc
  body-leaves (s ∷ []) last memory =
      following-left (runs_c s scope memory).count (runs_c s scope memory).memory (runs_c s scope memory).end (λ m. block_of [] scope m)
      (stmt-returns s last memory)
  body-leaves (s ∷ t ∷ stmts) last memory =
      following-leaves (runs_c s scope memory).count (runs_c s scope memory).memory (runs_c s scope memory).end
      (λ m. block_of (map runs_c (t ∷ stmts)) scope m) (body-leaves (t ∷ stmts) last (runs_c s scope memory).memory)

  -- ---- a statement without faults outside of loops breaks nothing off

  abbrev Keeps : CStmt → Type 0
  Keeps s = (context : Context) → faults_in_stmt s context false ≡ [] → (memory : Memory) → Stays (runs_c s scope memory).end

  block-stays : (stmts : List CStmt) → All Keeps stmts → (context : Context) →
      block_faults (map faults_in_stmt stmts) context false ≡ [] → (memory : Memory) →
      Stays (block_of (map runs_c stmts) scope memory).end
  block-stays [] h context none memory = record { it = tt }
  block-stays (s ∷ stmts) h context none memory =
      following-stays (runs_c s scope memory).count (runs_c s scope memory).memory (runs_c s scope memory).end (λ m. block_of (map runs_c stmts) scope m)
      (All-head Keeps s stmts h context (first_empty _ _ none) memory)
      (block-stays stmts (All-tail Keeps s stmts h) context (second_empty (faults_in_stmt s context false) _ none) (runs_c s scope memory).memory)

  choose-stays : (b : Bool) (f g : CStmtMeaning) (memory : Memory) → Stays (f scope memory).end → Stays (g scope memory).end →
      Stays ((if b then f else g) scope memory).end
  choose-stays true f g memory h r = h
  choose-stays false f g memory h r = r

  if-keeps : (at : Place) (e : CExpr) (block : List CStmt) (other : Option (List CStmt)) → All Keeps block → Optional (All Keeps) other →
      Keeps (stmt at (CStmtKind-F.If e block other))
  if-keeps at e block None h r context none memory =
      let all : condition_faults e context ++ (block_faults (map faults_in_stmt block) context false ++ []) ≡ [] =
      rw (fold-roll-CStmt, fold-roll-CStmtKind) at none in
      let first : Stays (block_of (map runs_c block) scope memory).end =
      block-stays block h context (first_empty _ _ (second_empty (condition_faults e context) _ all)) memory in
      let all : Stays (executed memory (value_c e scope memory)
      (λ v. (if is_one (scalar_number v) then block_of (map runs_c block) else block_of []) scope memory)).end =
      executed-stays memory (value_c e scope memory) (λ v. (if is_one (scalar_number v) then block_of (map runs_c block) else block_of []) scope memory)
      (λ v. choose-stays (is_one (scalar_number v)) (block_of (map runs_c block)) (block_of []) memory first (record { it = tt })) in
      rw (fold-roll-CStmt, fold-roll-CStmtKind) all
  if-keeps at e block (Some other) h r context none memory =
      let all : condition_faults e context ++ (block_faults (map faults_in_stmt block) context false ++ block_faults (map faults_in_stmt other) context false)
      ≡ [] = rw (fold-roll-CStmt, fold-roll-CStmtKind) at none in
      let first : Stays (block_of (map runs_c block) scope memory).end =
      block-stays block h context (first_empty _ _ (second_empty (condition_faults e context) _ all)) memory in
      let second : Stays (block_of (map runs_c other) scope memory).end =
      block-stays other r context (second_empty (block_faults (map faults_in_stmt block) context false) _ (second_empty (condition_faults e context) _ all)) memory in
      let all : Stays (executed memory (value_c e scope memory)
      (λ v. (if is_one (scalar_number v) then block_of (map runs_c block) else block_of (map runs_c other)) scope memory)).end =
      executed-stays memory (value_c e scope memory)
      (λ v. (if is_one (scalar_number v) then block_of (map runs_c block) else block_of (map runs_c other)) scope memory)
      (λ v. choose-stays (is_one (scalar_number v)) (block_of (map runs_c block)) (block_of (map runs_c other)) memory first second) in
      rw (fold-roll-CStmt, fold-roll-CStmtKind) all

  return-keeps : (at : Place) (e : Option CExpr) → Keeps (stmt at (CStmtKind-F.Return e))
  return-keeps at None context none memory = rw (fold-roll-CStmt, fold-roll-CStmtKind) (record { it = tt })
  return-keeps at (Some e) context none memory =
      let all : Stays (executed memory (value_c e scope memory) (λ v. ending (returns (scalar_number v)) memory)).end =
      executed-stays memory (value_c e scope memory) (λ v. ending (returns (scalar_number v)) memory) (λ v. record { it = tt }) in
      rw (fold-roll-CStmt, fold-roll-CStmtKind) all

  keep_cases : StmtCases Keeps
  keep_cases = record {
    set = λ at p e context none memory.
        let all : Stays (executed memory (next (location_c p scope memory) (λ q. next (value_c e scope memory) (λ v. given (Some (set_at memory q v)))))
        going).end =
        executed-stays memory (next (location_c p scope memory) (λ q. next (value_c e scope memory) (λ v. given (Some (set_at memory q v))))) going
        (λ m. record { it = tt }) in
        rw (fold-roll-CStmt, fold-roll-CStmtKind) all;
    clear = λ at p name context none memory.
        let all : Stays (executed memory (location_c p scope memory) (λ q. going (set_at memory q zeros))).end =
        executed-stays memory (location_c p scope memory) (λ q. going (set_at memory q zeros)) (λ m. record { it = tt }) in
        rw (fold-roll-CStmt, fold-roll-CStmtKind) all;
    call = λ at c context none memory. rw (fold-roll-CStmt, fold-roll-CStmtKind) (call_end-stays (call_c c scope memory).result);
    branching = if-keeps;
    loop = λ at turn e body h context none memory. rw (fold-roll-CStmt, fold-roll-CStmtKind)
        (turns-stays turn_limit (value_c e) (block_of (map runs_c body)) scope memory);
    break = λ at context none memory. absurd (let x = rw (fold-roll-CStmt, fold-roll-CStmtKind) at none in cc);
    returns = return-keeps;
  }

  stmt-keeps : (s : CStmt) → Keeps s
  stmt-keeps = induct_stmt Keeps keep_cases

  -- a body without faults
  pub body-stays : (stmts : List CStmt) (context : Context) → block_faults (map faults_in_stmt stmts) context false ≡ [] → (memory : Memory) →
      Stays (block_c stmts scope memory).end
  body-stays [] context none memory = record { it = tt }
  body-stays (s ∷ stmts) context none memory =
      following-stays (runs_c s scope memory).count (runs_c s scope memory).memory (runs_c s scope memory).end (λ m. block_of (map runs_c stmts) scope m)
      (stmt-keeps s context (first_empty _ _ none) memory)
      (body-stays stmts context (second_empty (faults_in_stmt s context false) _ none) (runs_c s scope memory).memory)

-- ---- functions

pub unless-nil : (holds : Bool) (clause : Clause) (place : Place) → unless holds clause place ≡ [] → holds ≡ true
unless-nil true clause place h = refl
unless-nil false clause place h = cc

ends_as : (result : Option Scalar) (end : End) → Stays end → (is_none result ≡ false → Leaves end) → EndsAs result end
ends_as result traps stays leaves = tt
ends_as result (returns n) stays leaves = tt
ends_as None goes_on stays leaves = tt
ends_as (Some t) goes_on stays leaves = (leaves refl).it
ends_as result breaks stays leaves = absurd stays.it

sure : (none last : Bool) → (none || last) ≡ true → none ≡ false → last ≡ true
sure true last h k = cc
sure false last h k = h

-- a function without faults
function-ends : (structs : Table (Table CMember)) (functions : Table Signature) (depths : Table ℕ) (last : Bool) (f : CFunc) →
    faults_in_function structs functions depths last f ≡ [] → EndsInside f
function-ends structs functions depths last f none scope memory =
    let h0 = first_empty (faults_in_head structs functions depths last f) _ none in
    let h1 = second_empty (unless (is_none (functions f.name)) distinct_names f.place) _ h0 in
    let h2 = second_empty (unless (all_distinct no_entries (variable_names f)) distinct_names f.place) _ h1 in
    let h3 = second_empty (unless (list_all (λ p. is_declared structs p.ty) f.params && list_all (λ l. is_declared structs l.ty) f.locals) declared_before
    f.place) _ h2 in
    let h4 = second_empty (unless (list_all (λ p. p.pointer || is_scalar p.ty) f.params) scalar_parameter f.place) _ h3 in
    let h5 = second_empty (unless (if last then not f.fixed else f.fixed) static_functions f.place) _ h4 in
    let h6 = second_empty (unless (nat_le (depth_of_function depths f) 300) short_chain f.place) _ h5 in
    let returning = unless-nil (is_none f.result || last_returns (map surely_returns f.body)) returns_result f.place h6 in
    let h7 = second_empty (faults_in_head structs functions depths last f) _ none in
    let body = second_empty (repeated (names_table (variable_names f)) (turns_in_block f.body)) _ h7 in
    ends_as f.result (block_c f.body scope memory).end
    (body-stays scope f.body (context_in structs functions f) body memory)
    (λ has. body-leaves scope f.body (sure (is_none f.result) (last_returns (map surely_returns f.body)) returning has) memory)

functions-end : (structs : Table (Table CMember)) (functions : Table Signature) (depths : Table ℕ) (rest : List CFunc) →
    function_faults_after structs functions depths rest ≡ [] → All EndsInside rest
functions-end structs functions depths [] none = All-nil EndsInside
functions-end structs functions depths (f ∷ rest) none =
    All-cons EndsInside f rest
    (function-ends structs functions depths (nat_lt (length rest) 2) f (first_empty _ _ none))
    (functions-end structs (with_entry functions f.name (signature_in f)) (with_entry depths f.name (depth_of_function depths f)) rest
    (second_empty (faults_in_function structs functions depths (nat_lt (length rest) 2) f) _ none))

-- every function of a well-formed file
pub always-ends : (file : Parts) → AlwaysEnds file
unfolding faults_in
always-ends file formed =
    functions-end (struct_table file.structs) no_entries no_entries file.funcs
    (first_empty _ _ (second_empty (struct_faults_after no_entries no_entries file.structs) _ formed.none))
