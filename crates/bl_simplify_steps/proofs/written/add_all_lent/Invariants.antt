use Rattle.std.proofs.Common.{◌≡◌, ◌++◌, drop, map}
use Rattle.bl_tree.specs.Reduce.{joined}
use Rattle.bl_simplify_laws.specs.Spots.{lent_by}
use Rattle.bl_simplify_steps.proofs.written.add_all_lent.Given as goal

abbrev pub invariant-loop-arg : goal.invariant-loop-arg
invariant-loop-arg l = l.spots ++ joined (map lent_by (drop l.arg-index l.args)) ≡ l.fn.spots ++ joined (map lent_by l.args)
