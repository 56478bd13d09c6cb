use Rattle.std.proofs.Common.{◌≡◌, ◌++◌, drop, map}
use Rattle.bl_tree.specs.Reduce.{joined}
use Rattle.bl_ctext_places.specs.Lists.{path_of}
use Rattle.bl_ctext_places.specs.Places.{places_in_stmt}
use Rattle.bl_ctext_places.proofs.stmts.+listing.Given as goal

abbrev pub invariant-in_block-loop-stmt : goal.invariant-in_block-loop-stmt
invariant-in_block-loop-stmt l =
    map (λ p. path_of p.now) l.found.items ++ joined (map places_in_stmt (drop l.stmt-index l.block))
    ≡ map (λ p. path_of p.now) l.initial.found.items ++ joined (map places_in_stmt l.block)
