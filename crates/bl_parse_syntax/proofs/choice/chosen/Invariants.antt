use Rattle.std.proofs.Common.{◌≡◌, map, drop}
use Rattle.bl_parse_syntax.specs.Tables.{shown, chosen}
use Rattle.bl_parse_syntax.proofs.choice.chosen.Given as goal

abbrev pub invariant-loop-choice : goal.invariant-loop-choice
invariant-loop-choice l = chosen (map shown (drop l.choice-index l.choices)) l.class ≡ chosen (map shown l.choices) l.class
