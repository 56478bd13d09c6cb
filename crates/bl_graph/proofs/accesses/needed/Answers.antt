use Rattle.std.proofs.Common.{◌≡◌, ℕ, suc, ◌-◌, ◌<◌, ◌∙◌, ap, arith, length, subst, sym}
use Rattle.bl_graph.specs.inner.Needed.{AreNeeded}
use Rattle.bl_graph.proofs.NeededLemmas.{need_size, needed_step}
use Rattle.bl_graph.proofs.accesses.needed.Goals as goal

pub loop-k-preserved : goal.loop-k-preserved
loop-k-preserved c =
    let accesses = c.args.accesses.now in
    let p : ℕ = c.loop-k.k - 1 in
    let below = c.loop-k.invariant.below in
    let inside : p < length accesses = omega arith in
    let next : suc p ≡ c.loop-k.k = omega arith in
    record {
      below = omega arith;
      size = ap length c.need.ensures ∙ need_size _ p c.loop-k.needed ∙ c.loop-k.invariant.size;
      needed = subst (AreNeeded accesses p) (sym c.need.ensures)
          (needed_step accesses p _ c.loop-k.needed inside c.loop-k.invariant.size
          (subst (λ n. AreNeeded accesses n c.loop-k.needed) (sym next) c.loop-k.invariant.needed));
    }

pub returns-clause-needed : goal.returns-clause-needed
returns-clause-needed c =
    let none : c.loop-k.k ≡ 0 = omega arith in subst (λ n. AreNeeded c.args.accesses.now n c.loop-k.needed) none c.loop-k.invariant.needed
