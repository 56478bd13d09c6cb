use Rattle.std.proofs.Common.{sym, ◌∙◌}
use Rattle.bl_ctree_store.proofs.HomeLemmas.{front_past}
use Rattle.bl_ctree_store.proofs.home.is_front.Goals as goal

pub returns-then-k-b : goal.returns-then-k-b
returns-then-k-b c = sym (front_past c.args.a.now c.args.b.now c.loop-k.k c.loop-k-test.true c.if-k-b.true) ∙ c.loop-k.invariant
