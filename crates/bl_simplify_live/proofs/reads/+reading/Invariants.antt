use Rattle.std.proofs.Common.{◌≡◌, ◌++◌, drop, map}
use Rattle.bl_tree.specs.Reduce.{joined}
use Rattle.bl_ctext_places.specs.Lists.{path_of}
use Rattle.bl_simplify_live.specs.Reads.{reads_of}
use Rattle.bl_simplify_live.proofs.reads.+reading.Given as goal

abbrev pub invariant-of_block-loop-stmt : goal.invariant-of_block-loop-stmt
invariant-of_block-loop-stmt l =
    map (λ p. path_of p.now) l.found.items ++ joined (map reads_of (drop l.stmt-index l.block))
    ≡ map (λ p. path_of p.now) l.initial.found.items ++ joined (map reads_of l.block)
