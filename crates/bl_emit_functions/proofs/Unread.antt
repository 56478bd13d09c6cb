-- What reads the variables that C only sets, by the names that it reads and by the C itself.
use Rattle.std.proofs.Common.{◌≡◌, ℕ, ◌+◌, Bool, List, [], ◌∷◌, ◌++◌, Option, refl, ◌∙◌}
use Rattle.std.specs.Prelude.{codes}
use Rattle.bl_tree.specs.declared.text.Text.{Text}
use Rattle.bl_tree.specs.declared.c.CStmt.{CStmt}
use Rattle.bl_tree.specs.declared.tree.Unit.{Unit as UnitDef}
use Rattle.bl_tree.specs.declared.tree.Var.{Var}
use Rattle.bl_tree.specs.Typing.{TypingContext}
use Rattle.bl_tree.specs.Words.{is_among}
use Rattle.bl_emit_acts.specs.Types.{variable_name}
use Rattle.bl_emit_functions.specs.Functions.{again_code, first_held, has_local, local_again, locals_again, read_code}
use Rattle.bl_emit_functions.specs.Reads.{reads_in_block}
use Rattle.bl_emit_functions.specs.inner.Again.{unread_again}

module _ (site : TypingContext) (read : List Text) (code : List CStmt) (known : (name : Text) → is_among name read ≡ reads_in_block name code) where
  unread-locals : (k : ℕ) (vars : List Var) → unread_again site read k vars ≡ locals_again site code k vars
  unread-locals k [] = refl
  unread-locals k (var ∷ rest) =
      λ i. local_again site k (has_local site var) (known (variable_name site.vars k) i) ++ unread-locals (k + 1) rest i

  pub again-made : (unit : UnitDef) (held : Option ℕ) (has : Bool) (memory locals : List CStmt) → held ≡ first_held site 0 unit.vars →
      has ≡ is_among (codes "m") read → memory ≡ read_code site held has → locals ≡ unread_again site read 0 unit.vars →
      memory ++ locals ≡ again_code site unit code
  again-made unit held has memory locals held_is has_is memory_is locals_are =
      λ i. (memory_is ∙ (λ j. read_code site (held_is j) ((has_is ∙ known (codes "m")) j))) i ++ (locals_are ∙ unread-locals 0 unit.vars) i
