use Rattle.std.proofs.Common.{◌≡◌, map, drop}
use Rattle.bl_cparse_syntax.specs.Tables.{has}
use Rattle.bl_cparse_syntax.specs.inner.Stacks.{class_shown}
use Rattle.bl_cparse_syntax.proofs.choice.has.Given as goal

abbrev pub invariant-loop-class : goal.invariant-loop-class
invariant-loop-class l = has (map class_shown (drop l.class-index l.classes)) l.piece ≡ has (map class_shown l.classes) l.piece
