use Rattle.std.proofs.Common.{◌≡◌, ◌<◌, ◌+◌, ◌^◌, ◌++◌, map}
use Rattle.std.specs.Prelude.{All}
use Rattle.bl_ctree.specs.Instances.{called_from}
use Rattle.bl_ctree_store.specs.inner.Expansion.{Shifts}
use Rattle.bl_ctree_store.proofs.expansion.append_called.Given as goal

abbrev pub invariant-loop-instance : goal.invariant-loop-instance
invariant-loop-instance l = record {
  made : l.into ≡ l.initial.into ++ map (called_from l.n l.run) l.yielded;
  shift : All (λ x. Shifts l.n x.origin) l.instance-iterator.rest.items;
  depth : All (λ x. x.depth + 1 < 2 ^ 32) l.instance-iterator.rest.items;
}
