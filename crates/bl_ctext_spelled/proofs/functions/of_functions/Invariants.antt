use Rattle.std.proofs.Common.{drop, map}
use Rattle.bl_tree.specs.Reduce.{all_of, greatest}
use Rattle.bl_ctext.specs.Spellable.{spells_func}
use Rattle.bl_ctext.specs.inner.Depths.{func_depth}
use Rattle.bl_ctext_spelled.proofs.Depths.{Towards}
use Rattle.bl_ctext_spelled.proofs.functions.of_functions.Given as goal

abbrev pub invariant-loop-function : goal.invariant-loop-function
invariant-loop-function l =
    Towards l.depth (all_of (map spells_func (drop l.function-index l.functions))) (greatest (map func_depth (drop l.function-index l.functions)))
    (all_of (map spells_func l.functions)) (greatest (map func_depth l.functions))
