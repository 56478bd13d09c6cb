-- What statements write, and loops: what they don't write stays known.
use Rattle.std.specs.Prelude.{true, List, [], ◌∷◌, ◌++◌, map, Option, Some, None}
use Rattle.bl_tree.specs.Reduce.{joined}
use Rattle.bl_tree.specs.declared.text.Text.{Text}
use Rattle.bl_tree.specs.declared.place.Place.{Place}
use Rattle.bl_tree.specs.declared.c.CExpr.{CExpr}
use Rattle.bl_tree.specs.declared.c.CStmt.{CStmt, fold-CStmt, roll-CStmt}
use Rattle.bl_tree.specs.declared.c.CStmtKind.{roll-CStmtKind}
use Rattle.bl_tree.specs.declared.c.CStmtKind.TheOpen.{CStmtKind-F, CStmt-F}
use Rattle.bl_simplify_laws.specs.declared.facts.CSpot.{CSpot}
use Rattle.bl_simplify_laws.specs.Known.{filtered}
use Rattle.bl_simplify_laws.specs.Rules.{After, AfterBlock, AlikeWhere, Facts, StmtsAlikeWhere, Weaker}
use Rattle.bl_simplify_laws.specs.Spots.{lent_in, spot_of_place}
use Rattle.bl_simplify_laws.specs.Steps.{without_spots}

-- the spots that a block writes that may be absent
abbrev pub block_or_none_writes : Option (List (List CSpot)) → List CSpot
block_or_none_writes None = []
block_or_none_writes (Some block) = joined block

-- the spots that a statement's form writes, or whose addresses its calls get
abbrev pub stmt_kind_writes : CStmtKind-F (List CSpot) (List CSpot) → List CSpot
stmt_kind_writes (CStmtKind-F.Set place e) = spot_of_place place ∷ []
stmt_kind_writes (CStmtKind-F.Clear place struct) = spot_of_place place ∷ []
stmt_kind_writes (CStmtKind-F.Call call) = lent_in call
stmt_kind_writes (CStmtKind-F.If condition block other) = joined block ++ block_or_none_writes other
stmt_kind_writes (CStmtKind-F.Loop turn condition body) = joined body
stmt_kind_writes CStmtKind-F.Break = []
stmt_kind_writes (CStmtKind-F.Return e) = []

-- a statement writes what its form does
abbrev pub stmt_writes : CStmt-F (List CSpot) (List CSpot) → List CSpot
stmt_writes stmt = stmt.what

-- the spots that a statement writes, or whose addresses its calls get
abbrev pub written_by : CStmt → List CSpot
written_by = fold-CStmt (List CSpot) (List CSpot) stmt_kind_writes stmt_writes

-- the spots that the statements of a block write, or whose addresses their calls get
abbrev pub written_in : List CStmt → List CSpot
written_in block = joined (map written_by block)

-- after any statement all is known as before but for what it writes
abbrev pub RuleAfterAny : Type 0
RuleAfterAny = (facts : Facts) (s : CStmt) → After facts s (map (without_spots (written_by s)) facts)

-- after any block all is known as before but for what it writes
abbrev pub RuleAfterAnyBlock : Type 0
RuleAfterAnyBlock = (facts : Facts) (block : List CStmt) → AfterBlock facts block (map (without_spots (written_in block)) facts)

-- the loop statement
abbrev pub loop_stmt : Place → Text → CExpr → List CStmt → CStmt
loop_stmt at turn condition body = roll-CStmt (record { place = at; what = roll-CStmtKind (CStmtKind-F.Loop turn condition body) })

-- a loop with a new body, where what is known before each turn is what the body doesn't write, filtered by the condition
abbrev pub RuleLoop : Type 0
RuleLoop =
    (facts : Facts) (at to : Place) (turn turned : Text) (condition : CExpr) (body new : List CStmt) →
    AlikeWhere (filtered (map (without_spots (written_in body)) facts) condition true) body new →
    StmtsAlikeWhere facts (loop_stmt at turn condition body) (loop_stmt to turned condition new)

-- a loop with a new body, by facts that hold before it and after each turn that goes on
abbrev pub RuleLoopBy : Type 0
RuleLoopBy =
    (facts turns : Facts) (at to : Place) (turn turned : Text) (condition : CExpr) (body new : List CStmt) → Weaker facts turns →
    AlikeWhere (filtered turns condition true) body new → AfterBlock (filtered turns condition true) body turns →
    StmtsAlikeWhere facts (loop_stmt at turn condition body) (loop_stmt to turned condition new)
