use Rattle.std.proofs.Common.{length, sym, subst}
use Rattle.bl_cause.specs.inner.Lists.{Candidates, Within}
use Rattle.bl_cause.proofs.FirstLemmas.{first_found, next_candidates, remove_within}
use Rattle.bl_cause.proofs.first.first_of.Goals as goal

pub returns-in-Some-2-clause-some : goal.returns-in-Some-2-clause-some
returns-in-Some-2-clause-some c = λ edges rows by_data candidates.
    let begins = rw c.in-Some-2.is at c.in_ok-found.ensures.some in
    let here = rw c.in-Some-2.is at c.in_ok-found.ensures.at in
    first_found c.args.nodes.now edges by_data c.loop-k.left.items c.deref.result.now c.in-Some.k c.remove-edge.result c.deref.ensures.value
    c.in-Some.ensures.some c.in-Some.ensures.least c.remove-edge.ensures.value (c.loop-k.invariant.candidates edges rows by_data candidates)
    c.in-Some-2.found.at c.in-Some-2.found.also (begins edges rows) here

pub loop-k-preserved : goal.loop-k-preserved
loop-k-preserved c = record {
  within = subst (Within (length c.args.rows.now)) (sym c.remove-edge.ensures.items)
      (remove_within (length c.args.rows.now) c.loop-k.left.items c.in-Some.k c.loop-k.invariant.within);
  candidates = λ edges rows by_data candidates.
      let none = rw c.in_default-2.is at c.in_ok-found.ensures.none in
      subst (Candidates edges by_data) (sym c.remove-edge.ensures.items)
      (next_candidates edges by_data c.loop-k.left.items c.deref.result.now c.in-Some.k c.remove-edge.result c.deref.ensures.value
      c.in-Some.ensures.some c.remove-edge.ensures.value (none edges rows) (c.loop-k.invariant.candidates edges rows by_data candidates));
}
