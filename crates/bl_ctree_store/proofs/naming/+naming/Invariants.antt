use Rattle.std.proofs.Common.{◌≡◌, ◌++◌, map, drop}
use Rattle.bl_tree.specs.Apart.{roots_in}
use Rattle.bl_tree.specs.Reduce.{joined}
use Rattle.bl_ctree_store.specs.Agree.{roots_in_part}
use Rattle.bl_ctree_store.proofs.naming.+naming.Given as goal

abbrev pub invariant-exprs-loop-e : goal.invariant-exprs-loop-e
invariant-exprs-loop-e l = l.into ++ joined (map roots_in (drop l.e-index l.inputs)) ≡ l.initial.into ++ joined (map roots_in l.inputs)

abbrev pub invariant-path-loop-each : goal.invariant-path-loop-each
invariant-path-loop-each l = l.into ++ joined (map roots_in_part (drop l.each-index l.each-items)) ≡ l.initial.into ++ joined (map roots_in_part l.each-items)
