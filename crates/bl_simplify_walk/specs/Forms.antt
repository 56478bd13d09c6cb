-- The forms in which an `if` and what follows it are written anew.
use Rattle.std.specs.Prelude.{true, false, List, [], ◌∷◌, ◌++◌, map, Option, Some, None}
use Rattle.bl_tree.specs.declared.text.Text.{Text}
use Rattle.bl_tree.specs.declared.place.Place.{Place}
use Rattle.bl_tree.specs.declared.c.CExpr.{CExpr}
use Rattle.bl_tree.specs.declared.c.CStmt.{CStmt}
use Rattle.bl_simplify_laws.specs.Conditions.{TestsAlike}
use Rattle.bl_simplify_laws.specs.Joins.{SameBlocks}
use Rattle.bl_simplify_laws.specs.Known.{filtered}
use Rattle.bl_simplify_laws.specs.Rules.{After, AlikeWhere, Facts, StmtsAlikeWhere, Weaker}
use Rattle.bl_simplify_laws.specs.Splits.{branch, if_stmt}
use Rattle.bl_simplify_laws.specs.Steps.{without_spots}
use Rattle.bl_simplify_laws.specs.Written.{loop_stmt, written_in}

-- the `else` with these statements, absent where there are none
abbrev pub else_of : List CStmt → Option (List CStmt)
else_of [] = None
else_of (s ∷ rest) = Some (s ∷ rest)

-- this block does the same as an `if` and what follows it, where these do the same as its branches with what follows
pub record SplitsTo (test : CExpr) (new others made : List CStmt) : Type 0 where
  pub alike : (facts : Facts) (at : Place) (condition : CExpr) (block : List CStmt) (other : Option (List CStmt)) (rest : List CStmt) →
      TestsAlike facts condition test → AlikeWhere (filtered facts test true) (block ++ rest) new →
      AlikeWhere (filtered facts test false) (branch other ++ rest) others → AlikeWhere facts (if_stmt at condition block other ∷ rest) made

-- this block does the same as an `if` and what follows it, where these do the same as its branches and as what follows
pub record KeepsTo (test : CExpr) (new others following made : List CStmt) : Type 0 where
  pub alike : (facts exits : Facts) (at : Place) (condition : CExpr) (block : List CStmt) (other : Option (List CStmt)) (rest : List CStmt) →
      TestsAlike facts condition test → AlikeWhere (filtered facts test true) (block ++ []) new →
      AlikeWhere (filtered facts test false) (branch other ++ []) others → After facts (if_stmt at condition block other) exits →
      AlikeWhere exits rest following → AlikeWhere facts (if_stmt at condition block other ∷ rest) made

-- ---- laws

-- each block does the same as itself
abbrev pub FormCopied : Type 0
FormCopied = (facts : Facts) (block : List CStmt) → AlikeWhere facts block block

-- an `if` with what followed it in its branches
abbrev pub FormSplit : Type 0
FormSplit = (to : Place) (test : CExpr) (new others : List CStmt) → SplitsTo test new others (if_stmt to test new (else_of others) ∷ [])

-- a block that does the same as an `if` with what followed it in its branches
abbrev pub FormSplitSame : Type 0
FormSplitSame =
    (test : CExpr) (new others one made : List CStmt) → SplitsTo test new others one → SameBlocks one made → SplitsTo test new others made

-- an `if` with new branches, before what follows it
abbrev pub FormKept : Type 0
FormKept =
    (to : Place) (test : CExpr) (new others following : List CStmt) → KeepsTo test new others following (if_stmt to test new (else_of others) ∷ following)

-- a block that does the same as an `if` with new branches and what follows it
abbrev pub FormKeptSame : Type 0
FormKeptSame =
    (test : CExpr) (new others following one made : List CStmt) → KeepsTo test new others following one → SameBlocks one made →
    KeepsTo test new others following made

-- a loop with a new body, by what is known in each turn
abbrev pub FormTurns : Type 0
FormTurns =
    (facts turns : Facts) (at to : Place) (turn turned : Text) (condition : CExpr) (body new : List CStmt) →
    Weaker (filtered (map (without_spots (written_in body)) facts) condition true) turns → AlikeWhere turns (body ++ []) new →
    StmtsAlikeWhere facts (loop_stmt at turn condition body) (loop_stmt to turned condition new)
