-- Statements that do the same wherever they stand: joined conditions, ends of branches behind the `if`.
use Rattle.std.specs.Prelude.{◌≡◌, true, List, [], ◌∷◌, ◌++◌, Option, Some}
use Rattle.bl_tree.specs.declared.text.Text.{Text}
use Rattle.bl_tree.specs.declared.place.Place.{Place}
use Rattle.bl_tree.specs.declared.scalar.Op.TheVariants.{And, Or}
use Rattle.bl_tree.specs.declared.c.CArg.TheOpen.{CExprKind-F}
use Rattle.bl_tree.specs.declared.c.CExpr.{CExpr, roll-CExpr}
use Rattle.bl_tree.specs.declared.c.CExprKind.{roll-CExprKind}
use Rattle.bl_tree.specs.declared.c.CFunc.{CFunc}
use Rattle.bl_tree.specs.declared.c.CStmt.{CStmt}
use Rattle.bl_ctext_semantics.specs.Meaning.{Scope}
use Rattle.bl_ctext_semantics.specs.Memory.{Memory}
use Rattle.bl_simplify_laws.specs.Files.{SameFunction}
use Rattle.bl_simplify_laws.specs.Known.{told}
use Rattle.bl_simplify_laws.specs.Splits.{BlocksAlike, branch, if_stmt}
use Rattle.bl_simplify_laws.specs.Written.{loop_stmt}

-- two blocks do the same in each scope, from each memory
pub record SameBlocks (one other : List CStmt) : Type 0 where
  pub same : (scope : Scope) (memory : Memory) → BlocksAlike scope memory one other

-- ---- expressions

-- `a && b`
abbrev pub and_expr : Place → CExpr → CExpr → CExpr
and_expr at a b = roll-CExpr (record { place = at; what = roll-CExprKind (CExprKind-F.Two And a b) })

-- `a || b`
abbrev pub or_expr : Place → CExpr → CExpr → CExpr
or_expr at a b = roll-CExpr (record { place = at; what = roll-CExprKind (CExprKind-F.Two Or a b) })

-- `!a`
abbrev pub not_expr : Place → CExpr → CExpr
not_expr at a = roll-CExpr (record { place = at; what = roll-CExprKind (CExprKind-F.Not a) })

-- ---- what keeps blocks doing the same

-- each block does the same as itself, and what does the same as a block that does the same as another does so too
abbrev pub JoinChain : Type 0
JoinChain =
    ((block : List CStmt) → SameBlocks block block)
    × ((one middle other : List CStmt) → SameBlocks one middle → SameBlocks middle other → SameBlocks one other)

-- blocks that do the same, one after the other
abbrev pub JoinBlocks : Type 0
JoinBlocks = (a b c d : List CStmt) → SameBlocks a b → SameBlocks c d → SameBlocks (a ++ c) (b ++ d)

-- an `if` with branches that do the same
abbrev pub JoinBranches : Type 0
JoinBranches =
    (at to : Place) (condition : CExpr) (block new : List CStmt) (other others : Option (List CStmt)) → SameBlocks block new →
    SameBlocks (branch other) (branch others) → SameBlocks (if_stmt at condition block other ∷ []) (if_stmt to condition new others ∷ [])

-- a loop with a body that does the same
abbrev pub JoinLoop : Type 0
JoinLoop =
    (at to : Place) (turn turned : Text) (condition : CExpr) (body new : List CStmt) → SameBlocks body new →
    SameBlocks (loop_stmt at turn condition body ∷ []) (loop_stmt to turned condition new ∷ [])

-- ---- joined conditions; a branch that is absent is the empty block

-- `if a {if b X else Y} else Y` is `if (a && b) X else Y`
abbrev pub JoinAnd : Type 0
JoinAnd =
    (at inner to and : Place) (a b : CExpr) (block : List CStmt) (other others new : Option (List CStmt)) →
    branch other ≡ branch others → branch others ≡ branch new →
    SameBlocks (if_stmt at a (if_stmt inner b block other ∷ []) others ∷ []) (if_stmt to (and_expr and a b) block new ∷ [])

-- `if a X else {if b X else Y}` is `if (a || b) X else Y`
abbrev pub JoinOr : Type 0
JoinOr =
    (at inner to or : Place) (a b : CExpr) (block : List CStmt) (other new : Option (List CStmt)) → branch other ≡ branch new →
    SameBlocks (if_stmt at a block (Some (if_stmt inner b block other ∷ [])) ∷ []) (if_stmt to (or_expr or a b) block new ∷ [])

-- `if a X else Y` is `if !a Y else X`; with this the two further forms are of the first two
abbrev pub JoinNot : Type 0
JoinNot =
    (at to not : Place) (a : CExpr) (block : List CStmt) (other new : Option (List CStmt)) → branch new ≡ block →
    SameBlocks (if_stmt at a block other ∷ []) (if_stmt to (not_expr not a) (branch other) new ∷ [])

-- `if a {if b X else Y} else X` is `if (a && !b) Y else X`
abbrev pub JoinAndNot : Type 0
JoinAndNot =
    (at inner to and not : Place) (a b : CExpr) (block : List CStmt) (other others new : Option (List CStmt)) →
    branch others ≡ block → branch new ≡ block →
    SameBlocks (if_stmt at a (if_stmt inner b block other ∷ []) others ∷ []) (if_stmt to (and_expr and a (not_expr not b)) (branch other) new ∷ [])

-- `if a X else {if b Y else X}` is `if (a || !b) X else Y`
abbrev pub JoinOrNot : Type 0
JoinOrNot =
    (at inner to or not : Place) (a b : CExpr) (block other : List CStmt) (more new : Option (List CStmt)) →
    branch more ≡ block → branch new ≡ other →
    SameBlocks (if_stmt at a block (Some (if_stmt inner b other more ∷ [])) ∷ []) (if_stmt to (or_expr or a (not_expr not b)) block new ∷ [])

-- ---- ends of branches, and branches that are the same

-- `if c {A; X} else {B; X}` is `if c {A} else {B}` and then `X`
abbrev pub JoinEnds : Type 0
JoinEnds =
    (at to : Place) (condition : CExpr) (block both : List CStmt) (other more new : Option (List CStmt)) →
    branch more ≡ branch other ++ both → branch new ≡ branch other →
    SameBlocks (if_stmt at condition (block ++ both) more ∷ []) (if_stmt to condition block new ∷ both)

-- `if c X else X` is `X` where the condition surely has a value
abbrev pub JoinEither : Type 0
JoinEither =
    (at : Place) (condition : CExpr) (block : List CStmt) (other : Option (List CStmt)) → (told condition).total ≡ true → branch other ≡ block →
    SameBlocks (if_stmt at condition block other ∷ []) block

-- ---- functions

-- a function with another body that does the same everywhere does the same
abbrev pub JoinFunction : Type 0
JoinFunction = (framed : List Text) (f g : CFunc) → f.params ≡ g.params → SameBlocks f.body g.body → SameFunction framed f g
