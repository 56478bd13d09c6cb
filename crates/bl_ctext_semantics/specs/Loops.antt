-- The variables that count the turns of loops.
use Rattle.std.specs.Prelude.{List, [], ◌∷◌, ◌++◌, map, Option, Some, None}
use Rattle.bl_tree.specs.declared.text.Text.{Text}
use Rattle.bl_tree.specs.declared.place.Place.{Place}
use Rattle.bl_tree.specs.declared.c.CStmtKind.TheOpen.{CStmtKind-F, CStmt-F}
use Rattle.bl_tree.specs.declared.c.CStmt.{CStmt, fold-CStmt}
use Rattle.bl_tree.specs.Reduce.{joined}

-- what counts the turns of a statement's loops: each variable with the place of its loop, in the order of the text
abbrev pub LoopCounters : Type 0
LoopCounters = List (Text × Place)

-- what counts the turns in a block that may be absent
abbrev pub turns_or_none : Option (List LoopCounters) → LoopCounters
turns_or_none None = []
turns_or_none (Some block) = joined block

-- one step of the fold for statements
abbrev pub stmt_kind_turns : CStmtKind-F (Place → LoopCounters) LoopCounters → Place → LoopCounters
stmt_kind_turns (CStmtKind-F.If condition block other) place = joined block ++ turns_or_none other
stmt_kind_turns (CStmtKind-F.Loop turn condition body) place = (turn, place) ∷ joined body
stmt_kind_turns _ place = []

-- the loop counters of a statement are those of its form, a loop at the statement's place
abbrev pub stmt_turns_step : CStmt-F (Place → LoopCounters) LoopCounters → LoopCounters
stmt_turns_step stmt = stmt.what stmt.place

-- what counts turns in a statement
abbrev pub turns_in : CStmt → LoopCounters
turns_in = fold-CStmt (Place → LoopCounters) LoopCounters stmt_kind_turns stmt_turns_step

-- what counts the turns of the loops in a block
abbrev pub turns_in_block : List CStmt → LoopCounters
turns_in_block block = joined (map turns_in block)
