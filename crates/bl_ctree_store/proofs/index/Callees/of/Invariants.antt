use Rattle.std.proofs.Common.{take}
use Rattle.bl_ctree_store.specs.Callees.{IndexesCallees}
use Rattle.bl_ctree_store.proofs.index.Callees.of.Given as goal

abbrev pub invariant-loop-k : goal.invariant-loop-k
invariant-loop-k l = IndexesCallees l.callees (take l.k l.instances)
