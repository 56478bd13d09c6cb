use Rattle.std.proofs.Common.{◌≤◌, ◌<◌, get_or, length, ap, refl, subst, ◌∙◌}
use Rattle.bl_tree.specs.declared.c.CPlace.{out-CPlace}
use Rattle.bl_ctext_semantics_laws.specs.Reaching.{start_of_slot}
use Rattle.bl_crun_code_layout.specs.Places.{followed_by, reach_so_far}
use Rattle.bl_crun_code_layout.specs.Views.{ground_of}
use Rattle.bl_crun_code_layout.proofs.Places.{reach-is, step-next, walk-is}
use Rattle.bl_crun_code_layout.proofs.place.walk_to.Goals as goal

pub loop-k-init : goal.loop-k-init
loop-k-init c =
    let here = ground_of c.args.here.now in
    let p = c.args.at.now in
    ap (λ r. followed_by here r (out-CPlace p).steps)
    (c.root_at-way.ensures (out-CPlace p).steps ∙ ap (λ n. start_of_slot (here.slots n)) c.deref.ensures) ∙ reach-is here p

pub loop-k-preserved : goal.loop-k-preserved
loop-k-preserved c =
    let here = ground_of c.args.here.now in
    let steps = (out-CPlace c.args.at.now).steps in
    let s = c.index-steps-k.result in
    step-next here steps c.loop-k.k s (reach_so_far here steps c.loop-k.way) _ _
    (subst (λ xs. c.loop-k.k < length xs) c.as_slice-steps.ensures c.loop-k-test.true)
    (c.index-steps-k.is ∙ ap (λ xs. get_or xs c.loop-k.k s) c.as_slice-steps.ensures) (c.in_ok-follow.ensures steps) c.loop-k.invariant

pub returns : goal.returns
returns c = walk-is (ground_of c.args.here.now) c.args.at.now c.loop-k.k c.loop-k.way _
    (subst (λ xs. length xs ≤ c.loop-k.k) c.as_slice-steps.ensures c.loop-k-test.false) c.loop-k.invariant c.in_ok-start.ensures refl refl
