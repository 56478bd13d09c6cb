-- Statements of functions in which nothing fails, by what they are made of.
use Rattle.std.proofs.Common.{◌≡◌, Bool, true, List, [], ◌++◌, map, Option, Some, None, refl, ap, ◌∙◌, subst}
use Rattle.std.specs.Prelude.{option_map}
use Rattle.bl_tree.specs.declared.text.Text.{Text}
use Rattle.bl_tree.specs.declared.c.CExpr.{CExpr}
use Rattle.bl_tree.specs.declared.c.CStmt.{CStmt, fold-roll-CStmt, roll-CStmt}
use Rattle.bl_tree.specs.declared.c.CStmtKind.{CStmtKind, CStmtKind-F, fold-roll-CStmtKind}
use Rattle.bl_tree.specs.declared.c.CStmtKind.TheVariants as statement
use Rattle.bl_tree.specs.declared.c.CType.TheVariants.{Scalar as OfScalar}
use Rattle.bl_tree.specs.declared.scalar.Scalar.{Scalar as ScalarType}
use Rattle.bl_ctext_semantics.specs.Faults.{Context, Judged, agree, block_faults, bool_type, condition_faults, condition_type, faults_in_stmt}
use Rattle.bl_ctext_semantics.specs.Faults.{other_faults, return_faults, returns_result, same_type, unless}
use Rattle.bl_emit_acts.specs.Trees.{nowhere}
use Rattle.bl_emit_functions.specs.Trees.{c_break, c_if, c_loop, c_return}
use Rattle.bl_emit_acts_laws_wellformed.specs.Formed.Formed.{BlockIs, ExprIs, StmtIs}
use Rattle.bl_emit_acts_laws_wellformed.proofs.OnFormed.Judged.{kept}
use Rattle.bl_emit_acts_laws_wellformed.proofs.OnFormed.Prelude.{type_same}
use Rattle.bl_emit_acts_laws_simulation.proofs.Statements.{what}

-- nothing fails in statements that stand in a loop, or in none
abbrev pub BlockIn : Context → Bool → List CStmt → Type 0
BlockIn context looped block = block_faults (map faults_in_stmt block) context looped ≡ []

-- the same of an `else` that may be absent
abbrev pub OtherIn : Context → Bool → Option (List CStmt) → Type 0
OtherIn context looped other = other_faults (option_map (map faults_in_stmt) other) context looped ≡ []

module _ (context : Context) where
  condition-is : (test : CExpr) → ExprIs context bool_type test → condition_faults test context ≡ []
  condition-is test is =
      ap (λ (c : Judged). c.faults ++ unless (agree c.ty (Some bool_type)) condition_type test.place) is

  -- ---- choices

  if-open : (test : CExpr) (block : List CStmt) (other : Option (List CStmt)) (looped : Bool) →
      faults_in_stmt (what (CStmtKind-F.If test block other)) context looped
      ≡ condition_faults test context
      ++ (block_faults (map faults_in_stmt block) context looped ++ other_faults (option_map (map faults_in_stmt) other) context looped)
  if-open test block None looped = rw (fold-roll-CStmt, fold-roll-CStmtKind) refl
  if-open test block (Some rest) looped = rw (fold-roll-CStmt, fold-roll-CStmtKind) refl

  pub if-in : (test : CExpr) (block : List CStmt) (other : Option (List CStmt)) (looped : Bool) → ExprIs context bool_type test →
      BlockIn context looped block → OtherIn context looped other → faults_in_stmt (c_if test block other) context looped ≡ []
  if-in test block other looped is one rest =
      subst (λ (k : CStmtKind). faults_in_stmt (roll-CStmt (record { place = nowhere; what = k })) context looped ≡ []) (statement.rolls-If test block other)
      (if-open test block other looped ∙ (λ i. condition-is test is i ++ (one i ++ rest i)))

  pub if-is : (test : CExpr) (block : List CStmt) (other : Option (List CStmt)) → ExprIs context bool_type test → BlockIs context block →
      ((looped : Bool) → OtherIn context looped other) → StmtIs context (c_if test block other)
  if-is test block other is one rest looped = if-in test block other looped is (one looped) (rest looped)

  -- ---- loops

  loop-open : (turn : Text) (test : CExpr) (body : List CStmt) (looped : Bool) →
      faults_in_stmt (what (CStmtKind-F.Loop turn test body)) context looped
      ≡ condition_faults test context ++ block_faults (map faults_in_stmt body) context true
  loop-open turn test body looped = rw (fold-roll-CStmt, fold-roll-CStmtKind) refl

  pub loop-is : (turn : Text) (test : CExpr) (body : List CStmt) → ExprIs context bool_type test → BlockIn context true body →
      StmtIs context (c_loop turn test body)
  loop-is turn test body is inside looped =
      subst (λ (k : CStmtKind). faults_in_stmt (roll-CStmt (record { place = nowhere; what = k })) context looped ≡ []) (statement.rolls-Loop turn test body)
      (loop-open turn test body looped ∙ (λ i. condition-is test is i ++ inside i))

  break-open : faults_in_stmt (what CStmtKind-F.Break) context true ≡ []
  break-open = rw (fold-roll-CStmt, fold-roll-CStmtKind) refl

  -- `break` in a loop
  pub break-in : faults_in_stmt c_break context true ≡ []
  break-in =
      subst (λ (k : CStmtKind). faults_in_stmt (roll-CStmt (record { place = nowhere; what = k })) context true ≡ []) statement.rolls-Break break-open

  -- ---- `return`

  return-open : (value : Option CExpr) (looped : Bool) →
      faults_in_stmt (what (CStmtKind-F.Return value)) context looped ≡ return_faults value context.result context nowhere
  return-open value looped = rw (fold-roll-CStmt, fold-roll-CStmtKind) refl

  return-judged : (value : Option CExpr) (looped : Bool) →
      faults_in_stmt (c_return value) context looped ≡ return_faults value context.result context nowhere
  return-judged value looped =
      subst (λ (k : CStmtKind). faults_in_stmt (roll-CStmt (record { place = nowhere; what = k })) context looped
      ≡ return_faults value context.result context nowhere)
      (statement.rolls-Return value) (return-open value looped)

  pub return-is : (value : CExpr) (t : ScalarType) → context.result ≡ Some t → ExprIs context
      (OfScalar t) value → StmtIs context (c_return (Some value))
  return-is value t result is looped =
      return-judged (Some value) looped ∙ ap (λ o. return_faults (Some value) o context nowhere) result
      ∙ ap (λ (e : Judged). e.faults ++ unless (agree e.ty (Some (OfScalar t))) returns_result value.place) is
      ∙ kept (same_type (OfScalar t) (OfScalar t)) returns_result value.place (type_same (OfScalar t))

  pub return_none-is : context.result ≡ None → StmtIs context (c_return None)
  return_none-is result looped = return-judged None looped ∙ ap (λ o. return_faults None o context nowhere) result
