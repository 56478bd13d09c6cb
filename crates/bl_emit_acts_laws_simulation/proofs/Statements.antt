-- How the statements of acts end, and what memory they leave.
use Rattle.std.proofs.Common.{◌≡◌, ℕ, ◌+◌, ℤ, List, [], ◌∷◌, Option, Some, None, refl, sym, subst}
use Rattle.std.specs.Prelude.{option_and_then, option_map}
use Rattle.bl_tree.specs.declared.text.Text.{Text}
use Rattle.bl_tree.specs.declared.c.CCall.{CCall}
use Rattle.bl_tree.specs.declared.c.CExpr.{CExpr}
use Rattle.bl_tree.specs.declared.c.CPlace.{CPlace}
use Rattle.bl_tree.specs.declared.c.CStmt.{CStmt, fold-roll-CStmt, roll-CStmt}
use Rattle.bl_tree.specs.declared.c.CStmtKind.{CStmtKind, CStmtKind-F, fold-roll-CStmtKind, roll-CStmtKind}
use Rattle.bl_tree.specs.declared.c.CStmtKind.TheVariants as statement
use Rattle.bl_ctext_semantics.specs.Course.{End, Outcome, after_statements, breaks, following_end, goes_on, going, returns, traps}
use Rattle.bl_ctext_semantics.specs.Memory.{CValue, Location, Memory, set_at, zeros}
use Rattle.bl_ctext_semantics.specs.Meaning.{CallResult, Counted, Scope, block_c, call_c, call_end, call_outcome, executed, given, location_c, next, runs_c, value_c}
use Rattle.bl_emit_acts.specs.Acts.{c_calling, c_clear, c_set}
use Rattle.bl_emit_acts.specs.Trees.{nowhere}

-- statements that trap, or else go on and leave this memory
abbrev pub Ends : Outcome Memory → Option Memory → Type 0
Ends o None = o.end ≡ traps
Ends o (Some m) = (o.end ≡ goes_on) × (o.memory ≡ m)

after_ends : (n : ℕ) (o : Outcome Memory) (r : Option Memory) → Ends o r → Ends (after_statements n o) r
after_ends n o None h = h
after_ends n o (Some m) h = h

then_by : (n : ℕ) (m : Memory) (e : End) (rest : Memory → Outcome Memory) (r : Option Memory) (more : Memory → Option Memory) →
    Ends (record { memory = m; end = e; count = n }) r → ((k : Memory) → r ≡ Some k → Ends (rest k) (more k)) →
    Ends (following_end n m e rest) (option_and_then more r)
then_by n m goes_on rest None more h next = absurd (cc)
then_by n m breaks rest None more h next = absurd (cc)
then_by n m (returns x) rest None more h next = absurd (cc)
then_by n m traps rest None more h next = refl
then_by n m goes_on rest (Some k) more h next =
    after_ends n (rest m) (more k) (subst (λ m. Ends (rest m) (more k)) (sym h.1) (next k refl))
then_by n m breaks rest (Some k) more h next = absurd (let no = h.0 in cc)
then_by n m (returns x) rest (Some k) more h next = absurd (let no = h.0 in cc)
then_by n m traps rest (Some k) more h next = absurd (let no = h.0 in cc)

-- a statement, and others after it
pub then_ends : (scope : Scope) (here : Memory) (s : CStmt) (rest : List CStmt) (r : Option Memory) (more : Memory → Option Memory) →
    Ends (runs_c s scope here) r → ((k : Memory) → r ≡ Some k → Ends (block_c rest scope k) (more k)) →
    Ends (block_c (s ∷ rest) scope here) (option_and_then more r)
then_ends scope here s rest r more h next =
    let o = runs_c s scope here in then_by o.count o.memory o.end (λ m. block_c rest scope m) r more h next

some_again : {A : Type 0} (o : Option A) → option_and_then Some o ≡ o
some_again None = refl
some_again (Some x) = refl

-- one statement alone
pub one_ends : (scope : Scope) (here : Memory) (s : CStmt) (r : Option Memory) → Ends (runs_c s scope here) r → Ends (block_c (s ∷ []) scope here) r
one_ends scope here s r h =
    subst (Ends (block_c (s ∷ []) scope here)) (some_again r) (then_ends scope here s [] r Some h (λ k is. (refl, refl)))

abbrev pub what : CStmtKind-F CStmtKind CStmt → CStmt
what layer = roll-CStmt (record { place = nowhere; what = roll-CStmtKind layer })

module _ (scope : Scope) (here : Memory) where
  -- ---- assignments

  abbrev sets : Counted Location → Counted CValue → Outcome Memory
  sets at value = executed here (next at (λ p. next value (λ v. given (Some (set_at here p v))))) going

  abbrev pub set_after : Option Location → Option CValue → Option Memory
  set_after at value = option_and_then (λ p. option_map (set_at here p) value) at

  set-open : (place : CPlace) (e : CExpr) → runs_c (what (CStmtKind-F.Set place e)) scope here ≡ sets (location_c place scope here) (value_c e scope here)
  set-open place e = rw (fold-roll-CStmt, fold-roll-CStmtKind) refl

  set-runs : (place : CPlace) (e : CExpr) → runs_c (c_set place e) scope here ≡ sets (location_c place scope here) (value_c e scope here)
  set-runs place e =
      subst (λ (k : CStmtKind). runs_c (roll-CStmt (record { place = nowhere; what = k })) scope here
      ≡ sets (location_c place scope here) (value_c e scope here))
      (statement.rolls-Set place e) (set-open place e)

  sets_by : (m n : ℕ) (at : Option Location) (value : Option CValue) →
      Ends (sets (record { count = m; answer = at }) (record { count = n; answer = value })) (set_after at value)
  sets_by m n None value = refl
  sets_by m n (Some p) None = refl
  sets_by m n (Some p) (Some v) = (refl, refl)

  pub set_ends : (place : CPlace) (e : CExpr) → Ends (runs_c (c_set place e) scope here)
      (set_after (location_c place scope here).answer (value_c e scope here).answer)
  set_ends place e =
      let at = location_c place scope here in
      let value = value_c e scope here in
      subst (λ (o : Outcome Memory). Ends o (set_after at.answer value.answer)) (sym (set-runs place e)) (sets_by at.count value.count at.answer value.answer)

  -- ---- zeros

  abbrev clears : Counted Location → Outcome Memory
  clears at = executed here at (λ p. going (set_at here p zeros))

  clear-open : (place : CPlace) (name : Text) → runs_c (what (CStmtKind-F.Clear place name)) scope here ≡ clears (location_c place scope here)
  clear-open place name = rw (fold-roll-CStmt, fold-roll-CStmtKind) refl

  clear-runs : (place : CPlace) (name : Text) → runs_c (c_clear place name) scope here ≡ clears (location_c place scope here)
  clear-runs place name =
      subst (λ (k : CStmtKind). runs_c (roll-CStmt (record { place = nowhere; what = k })) scope here ≡ clears (location_c place scope here))
      (statement.rolls-Clear place name) (clear-open place name)

  clears_by : (n : ℕ) (at : Option Location) → Ends (clears (record { count = n; answer = at })) (option_map (λ p. set_at here p zeros) at)
  clears_by n None = refl
  clears_by n (Some p) = (refl, refl)

  pub clear_ends : (place : CPlace) (name : Text) → Ends (runs_c (c_clear place name) scope here)
      (option_map (λ p. set_at here p zeros) (location_c place scope here).answer)
  clear_ends place name =
      let at = location_c place scope here in
      subst (λ (o : Outcome Memory). Ends o (option_map (λ p. set_at here p zeros) at.answer)) (sym (clear-runs place name)) (clears_by at.count at.answer)

  -- ---- calls

  calling-open : (call : CCall) → runs_c (what (CStmtKind-F.Call call)) scope here ≡ call_outcome (call_c call scope here)
  calling-open call = rw (fold-roll-CStmt, fold-roll-CStmtKind) refl

  calling-runs : (call : CCall) → runs_c (c_calling call) scope here ≡ call_outcome (call_c call scope here)
  calling-runs call =
      subst (λ (k : CStmtKind). runs_c (roll-CStmt (record { place = nowhere; what = k })) scope here ≡ call_outcome (call_c call scope here))
      (statement.rolls-Call call) (calling-open call)

  abbrev pub call_after : CallResult → Option Memory
  call_after c = option_map (λ n. c.memory) c.result

  call_by : (c : CallResult) (result : Option ℤ) → Ends (record { memory = c.memory; end = call_end result; count = 1 + c.count })
      (option_map (λ n. c.memory) result)
  call_by c None = refl
  call_by c (Some n) = (refl, refl)

  pub call_ends : (call : CCall) → Ends (runs_c (c_calling call) scope here) (call_after (call_c call scope here))
  call_ends call =
      let c = call_c call scope here in subst (λ (o : Outcome Memory). Ends o (call_after c)) (sym (calling-runs call)) (call_by c c.result)
