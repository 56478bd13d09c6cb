use Rattle.std.proofs.Common.{◌≡◌, drop}
use Rattle.bl_tree.specs.Static.{is_front}
use Rattle.bl_ctree_store.proofs.home.is_front.Given as goal

abbrev pub invariant-loop-k : goal.invariant-loop-k
invariant-loop-k l = is_front (drop l.k l.a) (drop l.k l.b) ≡ is_front l.a l.b
