use Rattle.std.proofs.Common.{◌≡◌, ◌&&◌, drop, map}
use Rattle.bl_tree.specs.Reduce.{all_of}
use Rattle.bl_ctext.specs.Spellable.{spells_param}
use Rattle.bl_ctext_spelled.proofs.functions.are_params.Given as goal

abbrev pub invariant-loop-param : goal.invariant-loop-param
invariant-loop-param l = (l.spell && all_of (map spells_param (drop l.param-index l.params))) ≡ all_of (map spells_param l.params)
