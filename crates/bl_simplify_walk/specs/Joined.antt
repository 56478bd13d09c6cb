-- An `if` whose branches have something in common, and blocks of which a part is written anew.
use Rattle.std.specs.Prelude.{◌≡◌, true, List, [], ◌∷◌, ◌++◌, Option}
use Rattle.bl_tree.specs.declared.place.Place.{Place}
use Rattle.bl_tree.specs.declared.c.CExpr.{CExpr}
use Rattle.bl_tree.specs.declared.c.CStmt.{CStmt}
use Rattle.bl_simplify_laws.specs.Joins.{SameBlocks, and_expr, not_expr, or_expr}
use Rattle.bl_simplify_laws.specs.Known.{told}
use Rattle.bl_simplify_laws.specs.Rules.{AfterBlock, AlikeWhere, Facts}
use Rattle.bl_simplify_laws.specs.Splits.{branch, if_stmt}
use Rattle.bl_simplify_walk.specs.declared.joins.Made.{Made}
use Rattle.bl_simplify_walk.specs.Forms.{else_of}

-- the `if` of these parts
abbrev pub if_of : Place → Made → CStmt
if_of at it = if_stmt at it.test it.block (else_of it.other)

-- an `if` of other parts does the same
pub record JoinsTo (old new : Made) : Type 0 where
  pub same : (at : Place) → SameBlocks (if_of at old ∷ []) (if_of at new ∷ [])

-- these parts
abbrev pub made_of : CExpr → List CStmt → List CStmt → Made
made_of test block other = record { test = test; block = block; other = other }

-- two blocks end with the same statements, which stand before what follows
pub record EndsOut (new others following block other behind : List CStmt) : Type 0 where
  pub both : List CStmt
  pub first : new ≡ block ++ both
  pub second : others ≡ other ++ both
  pub rest : behind ≡ both ++ following

-- ---- laws

-- what both branches end with stands behind the `if`
abbrev pub FormEnds : Type 0
FormEnds =
    (to : Place) (test : CExpr) (a b both following : List CStmt) →
    SameBlocks (if_stmt to test (a ++ both) (else_of (b ++ both)) ∷ following) (if_stmt to test a (else_of b) ∷ (both ++ following))

-- nothing for an `if` without statements whose condition surely has a value, after what did the same as it
abbrev pub FormEmpty : Type 0
FormEmpty =
    (to : Place) (test : CExpr) (block following : List CStmt) → (told test).total ≡ true →
    SameBlocks block (if_of to (made_of test [] []) ∷ following) → SameBlocks block following

-- other parts that do the same before what follows, after what did the same as the first parts
abbrev pub FormThen : Type 0
FormThen =
    (to : Place) (block following : List CStmt) (old new : Made) → SameBlocks block (if_of to old ∷ following) → JoinsTo old new →
    SameBlocks block (if_of to new ∷ following)

-- a statement before what does the same as what follows it
abbrev pub FormNext : Type 0
FormNext = (s : CStmt) (rest made : List CStmt) → SameBlocks rest made → SameBlocks (s ∷ rest) (s ∷ made)

-- an `if` with branches that do the same, before what follows it
abbrev pub FormBranches : Type 0
FormBranches =
    (at : Place) (condition : CExpr) (block new others following made : List CStmt) (other : Option (List CStmt)) → SameBlocks block new →
    SameBlocks (branch other) others → SameBlocks (if_stmt at condition new (else_of others) ∷ following) made →
    SameBlocks (if_stmt at condition block other ∷ following) made

-- a block that does the same as what does the same
abbrev pub FormChain : Type 0
FormChain =
    ((block : List CStmt) → SameBlocks block block)
    × ((one middle other : List CStmt) → SameBlocks one middle → SameBlocks middle other → SameBlocks one other)

-- each `if` does the same as itself
abbrev pub FormItself : Type 0
FormItself = (it : Made) → JoinsTo it it

-- `if a {} else X` is `if !a X`
abbrev pub FormTurned : Type 0
FormTurned = (not : Place) (a : CExpr) (other : List CStmt) → JoinsTo (made_of a [] other) (made_of (not_expr not a) other [])

-- `if a X else {if b X else Y}` is `if (a || b) X else Y`
abbrev pub FormOr : Type 0
FormOr =
    (inner or : Place) (a b : CExpr) (block : List CStmt) (other : Option (List CStmt)) →
    JoinsTo (made_of a block (if_stmt inner b block other ∷ [])) (made_of (or_expr or a b) block (branch other))

-- `if a {if b X else Y} else Y` is `if (a && b) X else Y`
abbrev pub FormAnd : Type 0
FormAnd =
    (inner and : Place) (a b : CExpr) (block : List CStmt) (other : Option (List CStmt)) →
    JoinsTo (made_of a (if_stmt inner b block other ∷ []) (branch other)) (made_of (and_expr and a b) block (branch other))

-- a block that does the same, and then what does the same after it
abbrev pub FormPart : Type 0
FormPart =
    (facts exits : Facts) (one made rest new : List CStmt) → AlikeWhere facts one made → AfterBlock facts one exits → AlikeWhere exits rest new →
    AlikeWhere facts (one ++ rest) (made ++ new)
