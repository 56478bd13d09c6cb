use Rattle.std.proofs.Common.{◌≡◌, ◌+◌, ◌<◌, ◌++◌, get_or, length, map, suc, refl, ap, sym, ◌∙◌, arith}
use Rattle.bl_ctree.specs.Nodes.{branches_of, control_of, items_of, located, seen_of}
use Rattle.bl_ctree.specs.Control.{Body, Guard, Par, Run, Seq}
use Rattle.bl_ctree.specs.Points.{branch_points, points}
use Rattle.bl_ctree_store.specs.Seen.{setting_in}
use Rattle.bl_ctree_enabled.specs.Spots.{homes_seen, spot_below, spot_of}
use Rattle.bl_ctree_run.specs.inner.Spots.{own, spot_told, told_all, told_point}
use Rattle.bl_ctree_run.proofs.AfterLemmas.{seen_out}
use Rattle.bl_ctree_run.proofs.BranchLemmas.{branch_here, loop_goes_on, loop_starts}
use Rattle.bl_ctree_run.proofs.NodeLemmas.{guard_is, run_is, seq_is}
use Rattle.bl_ctree_run.proofs.OwnLemmas.{guard_inside, listed_inside, par_inside, run_inside, seq_points, told_inside}
use Rattle.bl_ctree_run.proofs.WriterLemmas.{all_free}
use Rattle.bl_ctree_run.proofs.points.+points.Goals as goal
use Rattle.bl_ctree_enabled.proofs.NodeLemmas.{par_is}

pub branch_points-loop-k-init : goal.branch_points-loop-k-init
branch_points-loop-k-init t c =
    let w = setting_in c.args.w.now in
    loop_starts w c.args.i c.args.path.now (map (homes_seen w c.args.i) (map seen_of c.args.branches.now))
    (map seen_of c.args.branches.now) (map spot_of c.args.into.now)

pub branch_points-loop-k-preserved : goal.branch_points-loop-k-preserved
branch_points-loop-k-preserved t c =
    let w = setting_in c.args.w.now in
    let k = c.loop-k.k in
    let x = get_or c.args.branches.now k c.index-branches-k.result in
    let within : k < length c.args.branches.now = omega arith in
    let next : k + 1 ≡ suc k = omega arith in
    loop_goes_on w c.args.i c.args.path.now (map seen_of c.args.branches.now)
    (map (homes_seen w c.args.i) (map seen_of c.args.branches.now)) k (k + 1) (seen_of x)
    (map spot_of c.loop-k.into) (map spot_of c.append_free.new.into)
    (map spot_of c.args.into.now ++ map (spot_below w c.args.path.now) (branch_points w c.args.i (branches_of (map seen_of c.args.branches.now))))
    (map spot_of c.points.new.into) c.deref.result.now
    next refl (branch_here seen_of c.args.branches.now k x within (ap (get_or c.args.branches.now k) c.index-branches-k.is))
    (c.deref.ensures ∙ c.in_ok-inner.ensures)
    (c.in_ok-points.ensures ∙ ap (λ found. map spot_of found
    ++ map (spot_below w c.deref.result.now) (points w c.args.i (control_of x.tree))) c.new-found.ensures
    ∙ ap (λ b. map (spot_below w c.deref.result.now) (points w c.args.i b.tree)) (sym (seen_out x)))
    (c.in_ok-append_free.ensures
    ∙ ap (λ free. map spot_of c.loop-k.into ++ free) (all_free c.in_ok-writers.writers
    (map (homes_seen w c.args.i) (map seen_of c.args.branches.now)) k (map spot_of c.points.new.into) c.in_ok-writers.ensures))
    c.loop-k.invariant

pub points-returns-in-Par :
    goal.points-returns-in-Par
points-returns-in-Par t c =
    let w = setting_in c.args.w.now in
    let path = c.args.path.now in
    let node = c.in-Par in
    let inner = map (spot_below w path) (branch_points w c.args.i (branches_of (map seen_of c.deref-in-Par.result.now))) in
    listed_inside c.branch_points.result (map spot_of c.args.into.now) (map spot_of c.push.new.into)
    (map spot_of c.branch_points.new.into) (map (spot_told w path) (told_all c.in_ok-act.act)) inner
    (map (spot_below w path) (points w c.args.i (control_of c.args.node.now))) c.in_ok-push.ensures
    (told_inside w path c.args.i (control_of c.args.node.now)
    (Par (located node.field-0) node.field-1 (branches_of (map seen_of node.branches))) (told_all c.in_ok-act.act) inner c.in_ok-act.ensures
    (par_is c.args.node.now node.field-0 node.field-1 node.branches node.is)
    (par_inside w path c.args.i (located node.field-0) node.field-1 (branches_of (map seen_of node.branches))
    ∙ ap (λ all. map (spot_told w path) (map told_point
    (own w c.args.i (Par (located node.field-0) node.field-1 (branches_of (map seen_of node.branches)))))
    ++ map (spot_below w path) (branch_points w c.args.i (branches_of (map seen_of all)))) (sym c.deref-in-Par.ensures)))
    c.branch_points.ensures

pub points-returns-in-Seq :
    goal.points-returns-in-Seq
points-returns-in-Seq t c =
    let w = setting_in c.args.w.now in
    let path = c.args.path.now in
    let node = c.in-Seq in
    let inner = map (spot_below w path) (points w c.args.i (control_of c.deref.result.now)) in
    listed_inside c.points.result (map spot_of c.args.into.now) (map spot_of c.push.new.into) (map spot_of c.points.new.into)
    (map (spot_told w path) (told_all c.in_ok-act.act)) inner
    (map (spot_below w path) (points w c.args.i (control_of c.args.node.now))) c.in_ok-push.ensures
    (told_inside w path c.args.i (control_of c.args.node.now) (Seq (control_of node.inner) (items_of node.field-1))
    (told_all c.in_ok-act.act) inner c.in_ok-act.ensures
    (seq_is c.args.node.now node.inner node.field-1 node.is)
    (seq_points w path c.args.i (control_of node.inner) (items_of node.field-1)
    ∙ ap (λ inner. map (spot_below w path) (points w c.args.i (control_of inner))) (sym c.deref.ensures)))
    c.points.ensures

pub points-returns-in-Body : goal.points-returns-in-Body
points-returns-in-Body t c =
    let w = setting_in c.args.w.now in
    let path = c.args.path.now in
    let node = c.in-Guard in
    let inner = map (spot_below w path) (points w c.args.i (control_of c.deref-in-Body.result.now)) in
    listed_inside c.points-in-Body.result (map spot_of c.args.into.now) (map spot_of c.push.new.into)
    (map spot_of c.points-in-Body.new.into) (map (spot_told w path) (told_all c.in_ok-act.act)) inner
    (map (spot_below w path) (points w c.args.i (control_of c.args.node.now))) c.in_ok-push.ensures
    (told_inside w path c.args.i (control_of c.args.node.now)
    (Guard (located node.field-0) Body node.field-2 (control_of node.inner)) (told_all c.in_ok-act.act) inner c.in_ok-act.ensures
    (guard_is c.args.node.now node.field-0 node.phase node.field-2 node.inner node.is c.in-Body.is)
    (guard_inside w path c.args.i (located node.field-0) node.field-2 (control_of node.inner)
    ∙ ap (λ inner. map (spot_told w path) (map told_point
    (own w c.args.i (Guard (located node.field-0) Body node.field-2 (control_of node.inner))))
    ++ map (spot_below w path) (points w c.args.i (control_of inner))) (sym c.deref-in-Body.ensures)))
    c.points-in-Body.ensures

pub points-returns-in-Body-phase : goal.points-returns-in-Body-phase
points-returns-in-Body-phase t c =
    let w = setting_in c.args.w.now in
    let path = c.args.path.now in
    let node = c.in-Run in
    let inner = map (spot_below w path) (points w node.callee (control_of c.deref-in-Body-phase.result.now)) in
    listed_inside c.points-in-Body-phase.result (map spot_of c.args.into.now) (map spot_of c.push.new.into)
    (map spot_of c.points-in-Body-phase.new.into) (map (spot_told w path) (told_all c.in_ok-act.act)) inner
    (map (spot_below w path) (points w c.args.i (control_of c.args.node.now))) c.in_ok-push.ensures
    (told_inside w path c.args.i (control_of c.args.node.now)
    (Run (located node.field-0) node.callee Body node.field-3 (control_of node.inner)) (told_all c.in_ok-act.act) inner c.in_ok-act.ensures
    (run_is c.args.node.now node.field-0 node.callee node.phase node.field-3 node.inner node.is c.in-Body-phase.is)
    (run_inside w path c.args.i (located node.field-0) node.callee node.field-3 (control_of node.inner)
    ∙ ap (λ inner. map (spot_told w path) (map told_point
    (own w c.args.i (Run (located node.field-0) node.callee Body node.field-3 (control_of node.inner))))
    ++ map (spot_below w path) (points w node.callee (control_of inner))) (sym c.deref-in-Body-phase.ensures)))
    c.points-in-Body-phase.ensures
