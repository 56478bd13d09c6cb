use Rattle.std.proofs.Common.{◌≡◌, ◌<◌, get_or, length, map, arith, ap, ◌∙◌, sym, subst, List}
use Rattle.std.specs.Prelude.{IfOk}
use Rattle.bl_ctree.specs.Control.{Par}
use Rattle.bl_ctree.specs.Nodes.{Seen, branches_of, control_of, located, seen_of}
use Rattle.bl_ctree_store.specs.Seen.{setting_in}
use Rattle.bl_ctree_run.specs.inner.Spots.{after_by}
use Rattle.bl_ctree_run.proofs.AfterLemmas.{moved_at, moved_none, par_after}
use Rattle.bl_ctree_run.proofs.NodeLemmas.{par_made}
use Rattle.bl_ctree_run.proofs.after.+acting.Goals as goal
use Rattle.bl_ctree_enabled.proofs.NodeLemmas.{par_is}

pub after-returns-in_ok-at-in-Some : goal.after-returns-in_ok-at-in-Some
after-returns-in_ok-at-in-Some t c =
    let w = setting_in c.args.w.now in
    let after = λ (bs : List Seen). after_by w c.args.i (Par (located c.in-Par.s) c.in-Par.stood (branches_of bs)) c.args.path.now c.args.answer in
    par_made c.in-Par.s c.in_ok-at-in-Some.field-0 c.in-Par.stood c.in_ok-branches-in-Some.branches c.in_ok-at-in-Some.ensures
    ∙ par_after w c.args.i (located c.in-Par.s) c.in-Par.stood (map seen_of c.deref-in-Some.result.now) (map seen_of c.in_ok-branches-in-Some.branches)
    c.args.path.now c.in-Some.k.now c.in-Some.path.now c.args.answer c.in-Some.ensures.cases.0 c.in_ok-branches-in-Some.ensures
    ∙ ap (λ all. after (map seen_of all)) c.deref-in-Some.ensures
    ∙ sym (ap (λ node. after_by w c.args.i node c.args.path.now c.args.answer)
    (par_is c.args.node.now c.in-Par.s c.in-Par.stood c.in-Par.branches c.in-Par.is))

pub after_in-returns-then-k-branches : goal.after_in-returns-then-k-branches
after_in-returns-then-k-branches t c =
    subst (λ (all : List Seen). IfOk c.copies.result (λ made. map seen_of made ≡ all))
    (moved_none seen_of c.args.branches.now c.args.k (λ tree. after_by
    (setting_in c.args.w.now) c.args.i tree c.args.path.now c.args.answer) c.if-k-branches.true) c.copies.ensures

pub after_in-returns : goal.after_in-returns
after_in-returns t c =
    let within : c.args.k < length c.args.branches.now = omega arith in
    subst (λ (all : List Seen). IfOk c.with_tree.result (λ made. map seen_of made ≡ all))
    (moved_at c.args.branches.now c.args.k (get_or c.args.branches.now c.args.k c.index-branches-k.result)
    (λ tree. after_by (setting_in c.args.w.now) c.args.i tree c.args.path.now c.args.answer) (control_of c.in_ok-tree.tree)
    within (ap (get_or c.args.branches.now c.args.k) c.index-branches-k.is) c.in_ok-tree.ensures) c.with_tree.ensures
