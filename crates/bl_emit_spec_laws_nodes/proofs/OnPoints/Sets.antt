-- What an assignment leaves in memory.
use Rattle.std.proofs.Common.{◌≡◌, ℕ, [], Option, Some, None, refl, sym, subst}
use Rattle.std.specs.Prelude.{option_and_then, option_map}
use Rattle.bl_tree.specs.declared.c.CExpr.{CExpr}
use Rattle.bl_tree.specs.declared.c.CPlace.{CPlace, fold-roll-CPlace}
use Rattle.bl_tree.specs.declared.c.CStmt.{fold-roll-CStmt, roll-CStmt}
use Rattle.bl_tree.specs.declared.c.CStmtKind.{CStmtKind, CStmtKind-F, fold-roll-CStmtKind}
use Rattle.bl_tree.specs.declared.c.CStmtKind.TheVariants as statement
use Rattle.bl_ctext_semantics.specs.Course.{Outcome, going}
use Rattle.bl_ctext_semantics.specs.Memory.{CValue, Location, Memory, set_at}
use Rattle.bl_ctext_semantics.specs.Meaning.{Counted, Scope, executed, further, given, location_c, next, runs_c, value_c}
use Rattle.bl_emit_acts.specs.Acts.{c_set}
use Rattle.bl_emit_acts.specs.Trees.{nowhere}
use Rattle.bl_emit_spec.specs.Names.{result_place}
use Rattle.bl_emit_spec_laws.specs.Calls.Invariant.{result_at_c}
use Rattle.bl_emit_acts_laws_simulation.proofs.Statements.{what, Ends}

module _ (scope : Scope) (here : Memory) where
  -- ---- assignments

  abbrev sets : Counted Location → Counted CValue → Outcome Memory
  sets at value = executed here (next at (λ p. next value (λ v. given (Some (set_at here p v))))) going

  abbrev pub set_after : Option Location → Option CValue → Option Memory
  set_after at value = option_and_then (λ p. option_map (set_at here p) value) at

  set-open : (place : CPlace) (e : CExpr) →
      runs_c (what (CStmtKind-F.Set place e)) scope here ≡ sets (location_c place scope here) (value_c e scope here)
  set-open place e = rw (fold-roll-CStmt, fold-roll-CStmtKind) refl

  set-runs : (place : CPlace) (e : CExpr) → runs_c (c_set place e) scope here ≡ sets (location_c place scope here) (value_c e scope here)
  set-runs place e =
      subst (λ (k : CStmtKind). runs_c (roll-CStmt (record { place = nowhere; what = k })) scope here
      ≡ sets (location_c place scope here) (value_c e scope here))
      (statement.rolls-Set place e) (set-open place e)

  sets_by : (m n : ℕ) (at : Option Location) (value : Option CValue) →
      Ends (sets (record { count = m; answer = at }) (record { count = n; answer = value })) (set_after at value)
  sets_by m n None value = refl
  sets_by m n (Some p) None = refl
  sets_by m n (Some p) (Some v) = (refl, refl)

  pub set_ends : (place : CPlace) (e : CExpr) → Ends (runs_c (c_set place e) scope here)
      (set_after (location_c place scope here).answer (value_c e scope here).answer)
  set_ends place e =
      let at = location_c place scope here in
      let value = value_c e scope here in
      subst (λ (o : Outcome Memory). Ends o (set_after at.answer value.answer)) (sym (set-runs place e))
      (sets_by at.count value.count at.answer value.answer)

  -- where the result stands
  pub result_location : location_c result_place scope here ≡ given (Some (further (result_at_c scope) []))
  result_location = rw fold-roll-CPlace refl
