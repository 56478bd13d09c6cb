-- How C statements follow one another, choose and repeat, whatever their memory stands for.
use Rattle.std.proofs.Common.{◌≡◌, ℕ, zero, suc, ◌+◌, ◌≤◌, ℤ, pos, Bool, true, false, List, [], ◌∷◌, ◌++◌, map, Option}
use Rattle.std.proofs.Common.{Some, None, refl, sym, ap, ◌∙◌, subst}
use Rattle.std.specs.Prelude.{option_and_then, option_map, unwrap_or, if◌then◌else◌}
use Rattle.bl_tree.specs.declared.text.Text.{Text}
use Rattle.bl_tree.specs.declared.c.CExpr.{CExpr}
use Rattle.bl_tree.specs.declared.c.CStmt.{CStmt, fold-roll-CStmt, roll-CStmt}
use Rattle.bl_tree.specs.declared.c.CStmtKind.{CStmtKind, CStmtKind-F, fold-roll-CStmtKind}
use Rattle.bl_tree.specs.declared.c.CStmtKind.TheVariants as statement
use Rattle.bl_tree.specs.declared.value.Value.{Value}
use Rattle.bl_tree.specs.Numbers.{is_one}
use Rattle.bl_eval.specs.declared.datum.Datum.{Datum}
use Rattle.bl_eval.specs.Functions.{Flow, StmtMeaning, flow_then, looped, most_turns}
use Rattle.bl_ctext_semantics.specs.Course.{End, Outcome, after_statements, breaks, ended_by, ending, following_end, goes_on, returns, traps, turn_end}
use Rattle.bl_ctext_semantics.specs.Course.{turn_limit}
use Rattle.bl_ctext_semantics.specs.Course.{loop_with_turns, turn_or_none}
use Rattle.bl_ctext_semantics.specs.Memory.{CValue, Memory, scalar_number}
use Rattle.bl_ctext_semantics.specs.Meaning.{Scope, block_c, block_of, executed, once_more, runs_c, value_c}
use Rattle.bl_emit_acts.specs.Trees.{nowhere}
use Rattle.bl_emit_functions.specs.Trees.{c_break, c_if, c_loop, c_return}
use Rattle.bl_emit_acts_laws_simulation.proofs.Statements.{what}

-- ---- ends

-- the number that a function returns, 0 where it has other_way result
abbrev pub result_number : (Datum → ℤ) → Option Datum → ℤ
result_number given (Some datum) = given datum
result_number given None = pos 0

-- C that ends so, with this memory, does what the statements of a function do that come to this flow
abbrev pub EndsAt : (Datum → ℤ) → (List Value → Memory → Type 0) → (ℕ → Memory → Memory → Type 0)
    → ℕ → Memory → Option Flow → End → Memory → Type 0
EndsAt given Stand Kept k here None e m = e ≡ traps
EndsAt given Stand Kept k here (Some (Flow.On now)) e m = (e ≡ goes_on) × Stand now m × Kept k here m
EndsAt given Stand Kept k here (Some (Flow.Back now result)) e m = (e ≡ returns (result_number given result)) × Stand now m × Kept k here m

-- two outcomes that differ at most in their counts
abbrev pub Alike : Outcome Memory → Outcome Memory → Type 0
Alike o p = (o.end ≡ p.end) × (o.memory ≡ p.memory)

recount : (n c : ℕ) (m : Memory) (e : End) (rest : Memory → Outcome Memory) → Alike (following_end n m e rest) (following_end c m e rest)
recount n c m goes_on rest = (refl, refl)
recount n c m breaks rest = (refl, refl)
recount n c m (returns x) rest = (refl, refl)
recount n c m traps rest = (refl, refl)

pub alike_trans : (o p q : Outcome Memory) → Alike o p → Alike p q → Alike o q
alike_trans o p q a b = (a.0 ∙ b.0, a.1 ∙ b.1)

module _ (scope : Scope) where
  -- one list of statements behind another
  pub append_alike : (a b : List CStmt) (m : Memory) → Alike (block_c (a ++ b) scope m)
      (following_end (block_c a scope m).count (block_c a scope m).memory (block_c a scope m).end (block_c b scope))
  append_alike [] b m = (refl, refl)
  append_alike (s ∷ a) b m = by (λ k. append_alike a b k) (runs_c s scope m).count (runs_c s scope m).memory (runs_c s scope m).end
    where
      by : ((k : Memory) → Alike (block_c (a ++ b) scope k)
          (following_end (block_c a scope k).count (block_c a scope k).memory (block_c a scope k).end (block_c b scope))) →
          (n : ℕ) (k : Memory) (e : End) → Alike (following_end n k e (block_c (a ++ b) scope))
          (let o : Outcome Memory = following_end n k e (block_c a scope) in following_end o.count o.memory o.end (block_c b scope))
      by further n k goes_on =
          let o = block_c a scope k in
          let again = further k in
          let other = recount o.count (n + o.count) o.memory o.end (block_c b scope) in
          (again.0 ∙ other.0, again.1 ∙ other.1)
      by further n k breaks = (refl, refl)
      by further n k (returns x) = (refl, refl)
      by further n k traps = (refl, refl)

  -- one statement alone
  pub alone_alike : (s : CStmt) (m : Memory) → Alike (block_c (s ∷ []) scope m) (runs_c s scope m)
  alone_alike s m = by (runs_c s scope m).count (runs_c s scope m).memory (runs_c s scope m).end
    where
      by : (n : ℕ) (k : Memory) (e : End) → Alike (following_end n k e (block_c [] scope)) (record { memory = k; end = e; count = n })
      by n k goes_on = (refl, refl)
      by n k breaks = (refl, refl)
      by n k (returns x) = (refl, refl)
      by n k traps = (refl, refl)

-- ---- what each statement runs

module _ (scope : Scope) (here : Memory) where
  -- what an `if` does whose condition is evaluated
  abbrev chooses : CExpr → List CStmt → Option (List CStmt) → Outcome Memory
  chooses test block other =
      executed here (value_c test scope here)
      (λ v. (if is_one (scalar_number v) then block_of (map runs_c block) else block_of (unwrap_or (option_map (map runs_c) other) [])) scope here)

  if-open : (test : CExpr) (block : List CStmt) (other : Option (List CStmt)) → runs_c (what (CStmtKind-F.If test block other)) scope here
      ≡ chooses test block other
  if-open test block None = rw (fold-roll-CStmt, fold-roll-CStmtKind) refl
  if-open test block (Some stmts) = rw (fold-roll-CStmt, fold-roll-CStmtKind) refl

  pub if-runs : (test : CExpr) (block : List CStmt) (other : Option (List CStmt)) → runs_c (c_if test block other) scope here ≡ chooses test block other
  if-runs test block other =
      subst (λ (k : CStmtKind). runs_c (roll-CStmt (record { place = nowhere; what = k })) scope here ≡ chooses test block other)
      (statement.rolls-If test block other) (if-open test block other)

  -- what a loop does
  abbrev repeats : CExpr → List CStmt → Outcome Memory
  repeats test body = after_statements 1 (loop_with_turns turn_limit (once_more (value_c test) scope) (block_c body scope) here)

  loop-open : (turn : Text) (test : CExpr) (body : List CStmt) → runs_c (what (CStmtKind-F.Loop turn test body)) scope here ≡ repeats test body
  loop-open turn test body = rw (fold-roll-CStmt, fold-roll-CStmtKind) refl

  pub loop-runs : (turn : Text) (test : CExpr) (body : List CStmt) → runs_c (c_loop turn test body) scope here ≡ repeats test body
  loop-runs turn test body =
      subst (λ (k : CStmtKind). runs_c (roll-CStmt (record { place = nowhere; what = k })) scope here ≡ repeats test body)
      (statement.rolls-Loop turn test body) (loop-open turn test body)

  break-open : runs_c (what CStmtKind-F.Break) scope here ≡ record { memory = here; end = breaks; count = 1 }
  break-open = rw (fold-roll-CStmt, fold-roll-CStmtKind) refl

  pub break-runs : runs_c c_break scope here ≡ record { memory = here; end = breaks; count = 1 }
  break-runs =
      subst (λ (k : CStmtKind). runs_c (roll-CStmt (record { place = nowhere; what = k })) scope here
      ≡ record { memory = here; end = breaks; count = 1 })
      statement.rolls-Break break-open

  -- what a `return` does
  abbrev gives_back : Option CExpr → Outcome Memory
  gives_back None = record { memory = here; end = returns (pos 0); count = 1 }
  gives_back (Some e) = executed here (value_c e scope here) (λ v. ending (returns (scalar_number v)) here)

  return-open : (e : Option CExpr) → runs_c (what (CStmtKind-F.Return e)) scope here ≡ gives_back e
  return-open None = rw (fold-roll-CStmt, fold-roll-CStmtKind) refl
  return-open (Some e) = rw (fold-roll-CStmt, fold-roll-CStmtKind) refl

  pub return-runs : (e : Option CExpr) → runs_c (c_return e) scope here ≡ gives_back e
  return-runs e =
      subst (λ (k : CStmtKind). runs_c (roll-CStmt (record { place = nowhere; what = k })) scope here ≡ gives_back e)
      (statement.rolls-Return e) (return-open e)

-- whether a condition is true in C; none where it traps
abbrev pub truth_c : Scope → CExpr → Memory → Option Bool
truth_c scope test m = option_map (λ v. is_one (scalar_number v)) (value_c test scope m).answer

-- an `if` comes to what its chosen block comes to
abbrev pub Chosen : Scope → Memory → (End → Memory → Type 0) → List CStmt → Option (List CStmt) → Option Bool → Type 0
Chosen scope here Q block other None = Q traps here
Chosen scope here Q block other (Some true) = Q (block_c block scope here).end (block_c block scope here).memory
Chosen scope here Q block other (Some false) = Q (block_c (unwrap_or other []) scope here).end (block_c (unwrap_or other []) scope here).memory

module _ (scope : Scope) (here : Memory) (Q : End → Memory → Type 0) where
  abbrev Of : Outcome Memory → Type 0
  Of o = Q o.end o.memory

  by_choice : (block : List CStmt) (other : Option (List CStmt)) (b : Bool) → Chosen scope here Q block other (Some b) →
      Of ((if b then block_of (map runs_c block) else block_of (unwrap_or (option_map (map runs_c) other) [])) scope here)
  by_choice block other true h = h
  by_choice block None false h = h
  by_choice block (Some stmts) false h = h

  by_answer : (block : List CStmt) (other : Option (List CStmt)) (n : ℕ) (a : Option CValue) →
      Chosen scope here Q block other (option_map (λ v. is_one (scalar_number v)) a) →
      Of (ended_by here n a (λ v. (if is_one (scalar_number v) then block_of (map runs_c block) else block_of
      (unwrap_or (option_map (map runs_c) other) [])) scope here))
  by_answer block other n None h = h
  by_answer block other n (Some v) h = by_choice block other (is_one (scalar_number v)) h

  pub if_comes : (test : CExpr) (block : List CStmt) (other : Option (List CStmt)) → Chosen scope here Q block other (truth_c scope test here) →
      Of (runs_c (c_if test block other) scope here)
  if_comes test block other h =
      let c = value_c test scope here in
      subst (λ (o : Outcome Memory). Q o.end o.memory) (sym (if-runs scope here test block other)) (by_answer block other (1 + c.count) c.answer h)

-- ---- what follows, choices and loops beside those of a function

module _ (given : Datum → ℤ) (Stand : List Value → Memory → Type 0) (Kept : ℕ → Memory → Memory → Type 0)
    (same : (k : ℕ) (m : Memory) → Kept k m m) (onward : (k : ℕ) (a b c : Memory) → Kept k a b → Kept k b c → Kept k a c)
    (fewer : (j k : ℕ) (a b : Memory) → j ≤ k → Kept k a b → Kept j a b) where
  abbrev At : ℕ → Memory → Option Flow → End → Memory → Type 0
  At = EndsAt given Stand Kept

  abbrev AtOf : ℕ → Memory → Option Flow → Outcome Memory → Type 0
  AtOf k here flow o = At k here flow o.end o.memory

  -- C does what a function's statements do, wherever the memory stands for the values; flags below k are as they were
  abbrev pub Leaves : ℕ → StmtMeaning → (Memory → Outcome Memory) → Type 0
  Leaves k does run = (now : List Value) (here : Memory) → Stand now here → AtOf k here (does now) (run here)

  pub alike_at : (k : ℕ) (here : Memory) (flow : Option Flow) (o p : Outcome Memory) → Alike o p → AtOf k here flow p → AtOf k here flow o
  alike_at k here flow o p alike h =
      subst (λ e. At k here flow e o.memory) (sym alike.0) (subst (λ m. At k here flow p.end m) (sym alike.1) h)

  -- what ends so from later memory ends so from earlier memory
  pub since : (j k : ℕ) (here later : Memory) (flow : Option Flow) (e : End) (m : Memory) → ((m : Memory) → Kept k later m → Kept j here m) →
      At k later flow e m → At j here flow e m
  since j k here later None e m lift h = h
  since j k here later (Some (Flow.On now)) e m lift h = (h.0, h.1, lift m h.2)
  since j k here later (Some (Flow.Back now result)) e m lift h = (h.0, h.1, lift m h.2)

  pub compose : (j k : ℕ) (there here : Memory) (flow : Option Flow) (next : StmtMeaning) (n : ℕ) (e : End) (m : Memory) (rest : Memory → Outcome Memory) →
      At k here flow e m → ((m : Memory) → Kept k here m → Kept j there m) →
      ((now : List Value) → Stand now m → Kept k here m → AtOf j there (next now) (rest m)) →
      AtOf j there (flow_then flow next) (following_end n m e rest)
  compose j k there here None next n e m rest h lift more = ap (λ (e : End). (following_end n m e rest).end) h
  compose j k there here (Some (Flow.On now)) next n e m rest h lift more =
      subst (λ (e : End). AtOf j there (next now) (following_end n m e rest)) (sym h.0) (more now h.1 h.2)
  compose j k there here (Some (Flow.Back now result)) next n e m rest h lift more =
      subst (λ (e : End). AtOf j there (Some (Flow.Back now result)) (following_end n m e rest)) (sym h.0) (refl, h.1, lift m h.2)

  module _ (scope : Scope) where
    -- statements, and others behind them
    pub seq_at : (j k : ℕ) (there here : Memory) (flow : Option Flow) (next : StmtMeaning) (a b : List CStmt) (m : Memory) →
        AtOf k here flow (block_c a scope m) → ((m : Memory) → Kept k here m → Kept j there m) →
        ((now : List Value) → Stand now (block_c a scope m).memory → Kept k here (block_c a scope m).memory →
        AtOf j there (next now) (block_c b scope (block_c a scope m).memory)) →
        AtOf j there (flow_then flow next) (block_c (a ++ b) scope m)
    seq_at j k there here flow next a b m h lift more =
        let o = block_c a scope m in
        alike_at j there (flow_then flow next) (block_c (a ++ b) scope m) (following_end o.count o.memory o.end (block_c b scope))
        (append_alike scope a b m) (compose j k there here flow next o.count o.end o.memory (block_c b scope) h lift more)

    -- one list of statements does what the first does, the other what the second does: both do both
    pub seq_leaves : (j k : ℕ) (first second : StmtMeaning) (a b : List CStmt) → j ≤ k → Leaves j first
        (block_c a scope) → Leaves k second (block_c b scope) →
        Leaves j (λ now. flow_then (first now) second) (block_c (a ++ b) scope)
    seq_leaves j k first second a b less one other now here stand =
        seq_at j j here here (first now) second a b here (one now here stand) (λ m kept. kept)
        (λ new stand kept. let m = (block_c a scope here).memory in
        since j k here m (second new) (block_c b scope m).end (block_c b scope m).memory
        (λ later more. onward j here m later kept (fewer j k m later less more)) (other new m stand))

    pub alone_leaves : (k : ℕ) (does : StmtMeaning) (s : CStmt) → Leaves k does (runs_c s scope) → Leaves k does (block_c (s ∷ []) scope)
    alone_leaves k does s h now here stand =
        alike_at k here (does now) (block_c (s ∷ []) scope here) (runs_c s scope here) (alone_alike scope s here) (h now here stand)

    pub nothing_leaves : (k : ℕ) → Leaves k (λ now. Some (Flow.On now)) (block_c [] scope)
    nothing_leaves k now here stand = (refl, stand, same k here)

    -- a condition of C is one of a function
    abbrev pub Tests : (List Value → Option Bool) → CExpr → Type 0
    Tests holds test = (now : List Value) (here : Memory) → Stand now here → truth_c scope test here ≡ holds now

    chosen_by : (k : ℕ) (now : List Value) (here : Memory) (one_way other_way : StmtMeaning) (block : List CStmt)
        (other : Option (List CStmt)) (holds : Option Bool) →
        AtOf k here (one_way now) (block_c block scope here) → AtOf k here (other_way now) (block_c (unwrap_or other []) scope here) →
        Chosen scope here (At k here (option_and_then (λ holds. if holds then one_way now else other_way now) holds)) block other holds
    chosen_by k now here one_way other_way block other None one two = refl
    chosen_by k now here one_way other_way block other (Some true) one two = one
    chosen_by k now here one_way other_way block other (Some false) one two = two

    pub if_leaves : (k : ℕ) (holds : List Value → Option Bool) (one_way other_way : StmtMeaning)
        (test : CExpr) (block : List CStmt) (other : Option (List CStmt)) →
        Tests holds test → Leaves k one_way (block_c block scope) → Leaves k other_way (block_c (unwrap_or other []) scope) →
        Leaves k (λ now. option_and_then (λ holds. if holds then one_way now else other_way now) (holds now)) (runs_c (c_if test block other) scope)
    if_leaves k holds one_way other_way test block other tests one two now here stand =
        if_comes scope here (At k here (option_and_then (λ holds. if holds then one_way now else other_way now) (holds now))) test block other
        (subst (Chosen scope here (At k here (option_and_then (λ holds. if holds then one_way now else other_way now) (holds now))) block other)
        (sym (tests now here stand))
        (chosen_by k now here one_way other_way block other (holds now) (one now here stand) (two now here stand)))

    -- ---- loops

    -- how a turn ends that comes to this flow: `break` where the loop is over
    abbrev pub TurnOver : ℕ → Memory → List Value → Option Bool → End → Memory → Type 0
    TurnOver k here now None e m = e ≡ traps
    TurnOver k here now (Some true) e m = (e ≡ breaks) × Stand now m × Kept k here m
    TurnOver k here now (Some false) e m = (e ≡ goes_on) × Stand now m × Kept k here m

    abbrev pub TurnAt : ℕ → Memory → (List Value → Option Bool) → Option Flow → End → Memory → Type 0
    TurnAt k here ends None e m = e ≡ traps
    TurnAt k here ends (Some (Flow.On now)) e m = TurnOver k here now (ends now) e m
    TurnAt k here ends (Some (Flow.Back now result)) e m = (e ≡ returns (result_number given result)) × Stand now m × Kept k here m

    -- the C of a turn does what the body does, and breaks where the loop ends behind it
    abbrev pub Turns : ℕ → StmtMeaning → (List Value → Option Bool) → (Memory → Outcome Memory) → Type 0
    Turns k body ends run = (now : List Value) (here : Memory) → Stand now here → TurnAt k here ends (body now) (run here).end (run here).memory

    module _ (k : ℕ) (goes : List Value → Option Bool) (body : StmtMeaning) (ends : List Value → Option Bool) (test : CExpr) (run : Memory → Outcome Memory)
        (tests : Tests goes test) (turn : Turns k body ends run) where
      abbrev again_or : StmtMeaning → StmtMeaning
      again_or again new = option_and_then (λ is_over. if is_over then Some (Flow.On new) else again new) (ends new)

      over_by : (again : StmtMeaning) (runs : Memory → Outcome Memory) → Leaves k again runs → (here : Memory) (now : List Value) (is_over : Option Bool)
          (n : ℕ) (e : End) (m : Memory) → TurnOver k here now is_over e m →
          AtOf k here (option_and_then (λ is_over. if is_over then Some (Flow.On now) else again now) is_over) (turn_end n m e runs)
      over_by again runs more here now None n e m h = ap (λ (e : End). (turn_end n m e runs).end) h
      over_by again runs more here now (Some true) n e m h =
          subst (λ (e : End). AtOf k here (Some (Flow.On now)) (turn_end n m e runs)) (sym h.0) (refl, h.1, h.2)
      over_by again runs more here now (Some false) n e m h =
          subst (λ (e : End). AtOf k here (again now) (turn_end n m e runs)) (sym h.0)
          (since k k here m (again now) (runs m).end (runs m).memory (λ later kept. onward k here m later h.2 kept) (more now m h.1))

      turned_by : (again : StmtMeaning) (runs : Memory → Outcome Memory) → Leaves k again runs → (here : Memory) (flow : Option Flow) (n : ℕ) (e : End)
          (m : Memory) → TurnAt k here ends flow e m → AtOf k here (flow_then flow (again_or again)) (turn_end n m e runs)
      turned_by again runs more here None n e m h = ap (λ (e : End). (turn_end n m e runs).end) h
      turned_by again runs more here (Some (Flow.On now)) n e m h = over_by again runs more here now (ends now) n e m h
      turned_by again runs more here (Some (Flow.Back now result)) n e m h =
          subst (λ (e : End). AtOf k here (Some (Flow.Back now result)) (turn_end n m e runs)) (sym h.0) (refl, h.1, h.2)

      -- what begins once the condition is evaluated
      once_by : (here : Memory) (now : List Value) (flow : Option Flow) (runs : Memory → Outcome Memory) → Stand now here →
          AtOf k here flow (runs here) → (n : ℕ) (a : Option CValue) →
          AtOf k here (option_and_then (λ more. if more then flow else Some (Flow.On now)) (option_map (λ v. is_one (scalar_number v)) a))
          (ended_by here n a (λ v. turn_or_none (is_one (scalar_number v)) here runs))
      once_by here now flow runs stand h n None = refl
      once_by here now flow runs stand h n (Some v) = by (is_one (scalar_number v))
        where
          by : (b : Bool) → AtOf k here (if b then flow else Some (Flow.On now)) (turn_or_none b here runs)
          by true = h
          by false = (refl, stand, same k here)

      once_at : (here : Memory) (now : List Value) (flow : Option Flow) (runs : Memory → Outcome Memory) → Stand now here →
          AtOf k here flow (runs here) →
          AtOf k here (option_and_then (λ more. if more then flow else Some (Flow.On now)) (goes now)) (once_more (value_c test) scope runs here)
      once_at here now flow runs stand h =
          let c = value_c test scope here in
          subst (λ holds. AtOf k here (option_and_then (λ more. if more then flow else Some (Flow.On now)) holds) (once_more (value_c test) scope runs here))
          (tests now here stand) (once_by here now flow runs stand h c.count c.answer)

      pub turns_leave : (n : ℕ) → Leaves k (looped goes body ends n) (loop_with_turns n (once_more (value_c test) scope) run)
      unfolding loop_with_turns
      turns_leave zero now here stand = once_at here now None (ending traps) stand refl
      turns_leave (suc n) now here stand =
          once_at here now (flow_then (body now) (again_or (looped goes body ends n)))
          (λ m. turn_end (run m).count (run m).memory (run m).end (loop_with_turns n (once_more (value_c test) scope) run)) stand
          (turned_by (looped goes body ends n) (loop_with_turns n (once_more (value_c test) scope) run) (turns_leave n) here (body now) (run here).count
          (run here).end
          (run here).memory (turn now here stand))

    limits_same : turn_limit ≡ most_turns
    unfolding turn_limit most_turns
    limits_same = refl

    pub loop_leaves : (k : ℕ) (goes : List Value → Option Bool) (body : StmtMeaning) (ends : List Value → Option Bool) (name : Text) (test : CExpr)
        (code : List CStmt) → Tests goes test → Turns k body ends (block_c code scope) →
        Leaves k (looped goes body ends most_turns) (runs_c (c_loop name test code) scope)
    loop_leaves k goes body ends name test code tests turn now here stand =
        subst (λ (o : Outcome Memory). AtOf k here (looped goes body ends most_turns now) o) (sym (loop-runs scope here name test code))
        (subst (λ n. AtOf k here (looped goes body ends n now)
        (loop_with_turns turn_limit (once_more (value_c test) scope) (block_c code scope) here)) limits_same
        (turns_leave k goes body ends test (block_c code scope) tests turn turn_limit now here stand))

    -- ---- returns

    -- the number that C gives, beside what the function gives
    abbrev pub Numbers : (List Value → Option Datum) → CExpr → Type 0
    Numbers gives e = (now : List Value) (here : Memory) → Stand now here → option_map scalar_number
        (value_c e scope here).answer ≡ option_map given (gives now)

    return_by : (k : ℕ) (now : List Value) (here : Memory) → Stand now here → (n : ℕ) (a : Option CValue) (datum : Option Datum) →
        option_map scalar_number a ≡ option_map given datum →
        AtOf k here (option_map (λ datum. Flow.Back now (Some datum)) datum) (ended_by here n a (λ v. ending (returns (scalar_number v)) here))
    return_by k now here stand n None None is = refl
    return_by k now here stand n None (Some datum) is = absurd (cc)
    return_by k now here stand n (Some v) None is = absurd (cc)
    return_by k now here stand n (Some v) (Some datum) is = (ap returns (some_is (scalar_number v) (given datum) is), stand, same k here)
      where
        some_is : (x y : ℤ) → Some x ≡ Some y → x ≡ y
        some_is x y h = cc

    pub return_leaves : (k : ℕ) (gives : List Value → Option Datum) (e : CExpr) → Numbers gives e →
        Leaves k (λ now. option_map (λ datum. Flow.Back now (Some datum)) (gives now)) (runs_c (c_return (Some e)) scope)
    return_leaves k gives e numbers now here stand =
        let c = value_c e scope here in
        subst (λ (o : Outcome Memory). AtOf k here (option_map (λ datum. Flow.Back now (Some datum)) (gives now)) o) (sym (return-runs scope here (Some e)))
        (return_by k now here stand (1 + c.count) c.answer (gives now) (numbers now here stand))

    pub return_none_leaves : (k : ℕ) → Leaves k (λ now. Some (Flow.Back now None)) (runs_c (c_return None) scope)
    return_none_leaves k now here stand =
        subst (λ (o : Outcome Memory). AtOf k here (Some (Flow.Back now None)) o) (sym (return-runs scope here None)) (refl, stand, same k here)
