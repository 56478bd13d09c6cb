-- Steps of `specs/Placeless.antt` that proofs name.
use Rattle.bl_tree.specs.declared.c.CPlace.{roll-CPlace}
use Rattle.bl_tree.specs.declared.c.CStep.{CStep, fold-CStep, roll-CStep}
use Rattle.bl_tree.specs.declared.c.CIndex.{CIndex, fold-CIndex, roll-CIndex}
use Rattle.bl_tree.specs.declared.c.CExprKind.{CExprKind, fold-CExprKind, roll-CExprKind}
use Rattle.bl_tree.specs.declared.c.CCall.{roll-CCall}
use Rattle.bl_tree.specs.declared.c.CArg.{CArg, fold-CArg, roll-CArg}
use Rattle.bl_tree.specs.declared.c.CStmtKind.{CStmtKind, fold-CStmtKind}
use Rattle.bl_cparse_syntax_laws.specs.Placeless.{expr_aside, stmt_aside, stmt_kind_aside}

-- an expression's form without its places
abbrev pub placeless_kind : CExprKind → CExprKind
placeless_kind = fold-CExprKind _ _ _ _ _ _ _ roll-CArg roll-CExprKind roll-CCall expr_aside roll-CIndex roll-CPlace roll-CStep

-- a step of a place without the places of the expressions in it
abbrev pub placeless_step : CStep → CStep
placeless_step = fold-CStep _ _ _ _ _ _ _ roll-CArg roll-CExprKind roll-CCall expr_aside roll-CIndex roll-CPlace roll-CStep

-- an index without the places of the expressions in it
abbrev pub placeless_index : CIndex → CIndex
placeless_index = fold-CIndex _ _ _ _ _ _ _ roll-CArg roll-CExprKind roll-CCall expr_aside roll-CIndex roll-CPlace roll-CStep

-- an argument without the places of the expressions in it
abbrev pub placeless_arg : CArg → CArg
placeless_arg = fold-CArg _ _ _ _ _ _ _ roll-CArg roll-CExprKind roll-CCall expr_aside roll-CIndex roll-CPlace roll-CStep

-- a statement's form without its places
abbrev pub placeless_stmt_kind : CStmtKind → CStmtKind
placeless_stmt_kind = fold-CStmtKind _ _ stmt_kind_aside stmt_aside
