use Rattle.std.proofs.Common.{◌≡◌, map, drop}
use Rattle.bl_cparse_syntax.specs.Tables.{decided_production}
use Rattle.bl_cparse_syntax.specs.inner.Rows.{choice_shown}
use Rattle.bl_cparse_syntax.proofs.choice.chosen.Given as goal

abbrev pub invariant-loop-choice : goal.invariant-loop-choice
invariant-loop-choice l = decided_production (map choice_shown (drop l.choice-index l.choices)) l.piece
    ≡ decided_production (map choice_shown l.choices) l.piece
