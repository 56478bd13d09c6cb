-- What assignments and choices leave in memory.
use Rattle.std.proofs.Common.{◌≡◌, ℕ, ◌+◌, List, [], ◌∷◌, map, Option, Some, None, refl, sym, subst}
use Rattle.std.specs.Prelude.{option_and_then, option_map, unwrap_or, if◌then◌else◌}
use Rattle.bl_tree.specs.declared.c.CExpr.{CExpr}
use Rattle.bl_tree.specs.declared.c.CPlace.{CPlace}
use Rattle.bl_tree.specs.declared.c.CStmt.{CStmt, fold-roll-CStmt, roll-CStmt}
use Rattle.bl_tree.specs.declared.c.CStmtKind.{CStmtKind, CStmtKind-F, fold-roll-CStmtKind}
use Rattle.bl_tree.specs.declared.c.CStmtKind.TheVariants as statement
use Rattle.bl_tree.specs.Numbers.{is_one}
use Rattle.bl_ctext_semantics.specs.Course.{End, Outcome, breaks, following_end, goes_on, going, returns, traps}
use Rattle.bl_ctext_semantics.specs.Memory.{CValue, Location, Memory, scalar_number, set_at}
use Rattle.bl_ctext_semantics.specs.Meaning.{Counted, Scope, block_c, block_of, executed, given, location_c, next, runs_c, value_c}
use Rattle.bl_emit_acts.specs.Acts.{c_set}
use Rattle.bl_emit_acts.specs.Trees.{nowhere}
use Rattle.bl_emit_functions.specs.Trees.{c_if}
use Rattle.bl_emit_acts_laws_simulation.proofs.Statements.{what, Ends}
use Rattle.bl_emit_functions_laws_simulation.proofs.OnBodies.Courses.{Alike}

module _ (scope : Scope) where
  -- one statement alone
  pub alone_alike : (s : CStmt) (m : Memory) → Alike (block_c (s ∷ []) scope m) (runs_c s scope m)
  alone_alike s m = by (runs_c s scope m).count (runs_c s scope m).memory (runs_c s scope m).end
    where
      by : (n : ℕ) (k : Memory) (e : End) → Alike (following_end n k e (block_c [] scope)) (record { memory = k; end = e; count = n })
      by n k goes_on = (refl, refl)
      by n k breaks = (refl, refl)
      by n k (returns x) = (refl, refl)
      by n k traps = (refl, refl)

module _ (scope : Scope) (here : Memory) where
  -- ---- assignments

  abbrev sets : Counted Location → Counted CValue → Outcome Memory
  sets at value = executed here (next at (λ p. next value (λ v. given (Some (set_at here p v))))) going

  abbrev pub set_after : Option Location → Option CValue → Option Memory
  set_after at value = option_and_then (λ p. option_map (set_at here p) value) at

  set-open : (place : CPlace) (e : CExpr) →
      runs_c (what (CStmtKind-F.Set place e)) scope here ≡ sets (location_c place scope here) (value_c e scope here)
  set-open place e = rw (fold-roll-CStmt, fold-roll-CStmtKind) refl

  set-runs : (place : CPlace) (e : CExpr) → runs_c (c_set place e) scope here ≡ sets (location_c place scope here) (value_c e scope here)
  set-runs place e =
      subst (λ (k : CStmtKind). runs_c (roll-CStmt (record { place = nowhere; what = k })) scope here
      ≡ sets (location_c place scope here) (value_c e scope here))
      (statement.rolls-Set place e) (set-open place e)

  sets_by : (m n : ℕ) (at : Option Location) (value : Option CValue) →
      Ends (sets (record { count = m; answer = at }) (record { count = n; answer = value })) (set_after at value)
  sets_by m n None value = refl
  sets_by m n (Some p) None = refl
  sets_by m n (Some p) (Some v) = (refl, refl)

  pub set_ends : (place : CPlace) (e : CExpr) → Ends (runs_c (c_set place e) scope here)
      (set_after (location_c place scope here).answer (value_c e scope here).answer)
  set_ends place e =
      let at = location_c place scope here in
      let value = value_c e scope here in
      subst (λ (o : Outcome Memory). Ends o (set_after at.answer value.answer)) (sym (set-runs place e))
      (sets_by at.count value.count at.answer value.answer)

  -- what an `if` does whose condition is evaluated
  abbrev chooses : CExpr → List CStmt → Option (List CStmt) → Outcome Memory
  chooses test block other =
      executed here (value_c test scope here)
      (λ v. (if is_one (scalar_number v) then block_of (map runs_c block) else block_of (unwrap_or (option_map (map runs_c) other) [])) scope here)

  if-open : (test : CExpr) (block : List CStmt) (other : Option (List CStmt)) → runs_c (what (CStmtKind-F.If test block other)) scope here
      ≡ chooses test block other
  if-open test block None = rw (fold-roll-CStmt, fold-roll-CStmtKind) refl
  if-open test block (Some stmts) = rw (fold-roll-CStmt, fold-roll-CStmtKind) refl

  pub if-runs : (test : CExpr) (block : List CStmt) (other : Option (List CStmt)) →
      runs_c (c_if test block other) scope here ≡ chooses test block other
  if-runs test block other =
      subst (λ (k : CStmtKind). runs_c (roll-CStmt (record { place = nowhere; what = k })) scope here ≡ chooses test block other)
      (statement.rolls-If test block other) (if-open test block other)
