use Rattle.std.proofs.Common.{◌<◌, ◌+◌, ◌^◌}
use Rattle.bl_ctree.specs.declared.instance.Instance.{Instance}
use Rattle.bl_ctree.specs.Instances.{called_from}
use Rattle.bl_ctree_store.specs.inner.Expansion.{Shifts}
use Rattle.bl_ctree_store.proofs.ElementLemmas.{all_others, mapped_more}
use Rattle.bl_ctree_store.proofs.expansion.append_called.Goals as goal

pub loop-instance-preserved : goal.loop-instance-preserved
loop-instance-preserved c =
    let left = c.loop-instance.instance-iterator.rest.items in
    let others = c.next.new.self.rest.items in
    record {
      made = mapped_more (called_from c.args.n c.args.run.now) c.args.into.now c.loop-instance.into c.push.new.self
          c.loop-instance.yielded c.in-Some.instance c.in_ok-called_from.field-0
          c.loop-instance.invariant.made c.in_ok-called_from.ensures c.in_ok-push.ensures.ok;
      shift = all_others (λ (x : Instance). Shifts c.args.n x.origin) left others c.in-Some.instance c.in-Some.ensures.steps.0 c.loop-instance.invariant.shift;
      depth = all_others (λ (x : Instance). x.depth + 1 < 2 ^ 32) left others c.in-Some.instance c.in-Some.ensures.steps.0 c.loop-instance.invariant.depth;
    }
