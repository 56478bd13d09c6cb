-- What reads the locals that C only sets, by the names that it reads.
use Rattle.std.specs.Prelude.{ℕ, ◌+◌, List, [], ◌∷◌, ◌++◌}
use Rattle.bl_tree.specs.declared.text.Text.{Text}
use Rattle.bl_tree.specs.declared.c.CStmt.{CStmt}
use Rattle.bl_tree.specs.declared.tree.Var.{Var}
use Rattle.bl_tree.specs.Typing.{TypingContext}
use Rattle.bl_tree.specs.Words.{is_among}
use Rattle.bl_emit_acts.specs.Types.{variable_name}
use Rattle.bl_emit_functions.specs.Functions.{has_local, local_again}

-- the statements that read the locals that are none of these names, of variables from this position on
abbrev pub unread_again : TypingContext → List Text → ℕ → List Var → List CStmt
unread_again site read k [] = []
unread_again site read k (var ∷ rest) =
    local_again site k (has_local site var) (is_among (variable_name site.vars k) read) ++ unread_again site read (k + 1) rest
