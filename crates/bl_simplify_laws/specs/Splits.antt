-- What follows an `if` may stand in its branches.
use Rattle.std.specs.Prelude.{List, [], ◌∷◌, ◌++◌, Option, Some, unwrap_or}
use Rattle.bl_tree.specs.declared.place.Place.{Place}
use Rattle.bl_tree.specs.declared.c.CExpr.{CExpr}
use Rattle.bl_tree.specs.declared.c.CStmt.{CStmt, roll-CStmt}
use Rattle.bl_tree.specs.declared.c.CStmtKind.{roll-CStmtKind}
use Rattle.bl_tree.specs.declared.c.CStmtKind.TheOpen.{CStmtKind-F}
use Rattle.bl_ctext_semantics.specs.Meaning.{Scope, block_c, runs_c}
use Rattle.bl_ctext_semantics.specs.Memory.{Memory}
use Rattle.bl_simplify_laws.specs.Observed.{SameOutcome}

-- the `if` with this condition and these branches
abbrev pub if_stmt : Place → CExpr → List CStmt → Option (List CStmt) → CStmt
if_stmt place condition block other = roll-CStmt (record { place = place; what = roll-CStmtKind (CStmtKind-F.If condition block other) })

-- the statements of a branch that may be absent
abbrev pub branch : Option (List CStmt) → List CStmt
branch other = unwrap_or other []

-- two blocks do the same in this scope from this memory
abbrev pub BlocksAlike : Scope → Memory → List CStmt → List CStmt → Type 0
BlocksAlike scope memory one other = SameOutcome (block_c one scope memory) (block_c other scope memory)

-- blocks that do the same do so also before a further block
abbrev pub BlocksJoin : Type 0
BlocksJoin =
    (scope : Scope) (memory : Memory) (a b c d : List CStmt) → BlocksAlike scope memory a b → ((m : Memory) → BlocksAlike scope m c d) →
    BlocksAlike scope memory (a ++ c) (b ++ d)

-- an `if` does the same where both of its branches do
abbrev pub BranchesDecide : Type 0
BranchesDecide =
    (scope : Scope) (memory : Memory) (at to : Place) (condition : CExpr) (block else_block : List CStmt) (other other_else : Option (List CStmt)) →
    BlocksAlike scope memory block else_block → BlocksAlike scope memory (branch other) (branch other_else) →
    SameOutcome (runs_c (if_stmt at condition block other) scope memory) (runs_c (if_stmt to condition else_block other_else) scope memory)

-- what follows an `if` may stand in both of its branches
abbrev pub Splits : Type 0
Splits =
    (scope : Scope) (memory : Memory) (at to : Place) (condition : CExpr) (block : List CStmt) (other : Option (List CStmt)) (rest : List CStmt) →
    BlocksAlike scope memory (if_stmt at condition block other ∷ rest) (if_stmt to condition (block ++ rest) (Some (branch other ++ rest)) ∷ [])
