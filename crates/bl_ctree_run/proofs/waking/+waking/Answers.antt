use Rattle.std.proofs.Common.{◌≡◌, ◌<◌, length, length-set, true, arith, subst, ◌∙◌}
use Rattle.std.proofs.lemmas.List.{get_or-set_other}
use Rattle.bl_ctree.specs.Control.{woken}
use Rattle.bl_ctree.specs.Nodes.{control_of}
use Rattle.bl_ctree_run.specs.inner.Wakings.{is_light}
use Rattle.bl_ctree_run.proofs.WakingLemmas.{made_woken, par_woken, seq_inside, wake_next}
use Rattle.bl_ctree_run.proofs.waking.+waking.Goals as goal

pub woken_here-returns-in-Seq : goal.woken_here-returns-in-Seq
woken_here-returns-in-Seq t c =
    seq_inside c.args.node c.in-Seq.inner c.woken_here.result c.in-Seq.rest c.in-Seq.is
    (subst (λ n. is_light (control_of n) ≡ true → control_of c.woken_here.result ≡ woken (control_of n))
    (c.replace-old.ensures.value ∙ c.deref_mut.ensures.value) c.woken_here.ensures)

pub woken_here-returns-in-Par : goal.woken_here-returns-in-Par
woken_here-returns-in-Par t c =
    par_woken c.args.node c.in-Par.s c.in-Par.field-1 c.in-Par.branches c.wake_all.new.branches c.in-Par.is c.wake_all.ensures

pub wake_all-loop-k-preserved : goal.wake_all-loop-k-preserved
wake_all-loop-k-preserved t c =
    let k = c.loop-k.k in
    let now = c.loop-k.branches in
    let b = c.get_mut-branch.result.now in
    let within : k < length now = omega (arith, c.loop-k-test.true, c.len-k-end.ensures, c.loop-k.invariant.many) in
    record {
      woken = wake_next c.args.branches.now now k b _ within c.get_mut-branch.ensures.value c.loop-k.invariant.woken
          (made_woken b c.woken_here.result
          (subst (λ n. is_light (control_of n) ≡ true → control_of c.woken_here.result ≡ woken (control_of n)) c.replace-old.ensures.value
          c.woken_here.ensures));
      many = length-set now k _ ∙ c.loop-k.invariant.many;
      rest = λ n d h. get_or-set_other now k n _ d (λ (e : n ≡ k). omega (arith, e, h)) ∙ c.loop-k.invariant.rest n d (omega (arith, h));
    }
