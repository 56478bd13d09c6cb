-- Blocks that follow, and statements that may be left out.
use Rattle.std.specs.Prelude.{◌≡◌, ◌≤◌, ℕ, List, [], ◌∷◌, ◌++◌, drop, length}
use Rattle.bl_tree.specs.declared.c.CStmt.{CStmt}
use Rattle.bl_simplify_laws.specs.Rules.{AlikeWhere, Facts}

-- the statements of blocks, of which the last comes first
abbrev pub in_turn : {B : Type 0} → (B → List CStmt) → List B → List CStmt
in_turn now [] = []
in_turn now (block ∷ blocks) = in_turn now blocks ++ now block

-- a statement may be left out where these facts hold
pub record IsSkipped (facts : Facts) (stmt : CStmt) : Type 0 where
  pub skipped : (rest new : List CStmt) → AlikeWhere facts rest new → AlikeWhere facts (stmt ∷ rest) new

-- what stands in two blocks behind fronts of these lengths is the same
pub record HaveOneEnd (a b : List CStmt) (first second : ℕ) : Type 0 where
  pub one : first ≤ length a
  pub other : second ≤ length b
  pub same : drop first a ≡ drop second b
