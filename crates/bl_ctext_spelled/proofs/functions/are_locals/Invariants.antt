use Rattle.std.proofs.Common.{◌≡◌, ◌&&◌, drop, map}
use Rattle.bl_tree.specs.Reduce.{all_of}
use Rattle.bl_ctext.specs.Spellable.{spells_local}
use Rattle.bl_ctext_spelled.proofs.functions.are_locals.Given as goal

abbrev pub invariant-loop-local : goal.invariant-loop-local
invariant-loop-local l = (l.spell && all_of (map spells_local (drop l.local-index l.locals))) ≡ all_of (map spells_local l.locals)
