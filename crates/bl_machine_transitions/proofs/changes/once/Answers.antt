use Rattle.std.proofs.Common.{ap, subst, sym, ◌<◌, ◌∙◌, arith}
use Rattle.bl_machine_transitions.specs.inner.Joined.{Seen, layout_in}
use Rattle.bl_machine_transitions.proofs.Once.{once_end, once_first, once_next}
use Rattle.bl_machine_transitions.proofs.Seen.{seen_first, seen_next}
use Rattle.bl_machine_transitions.proofs.changes.once.Goals as goal

pub loop-step-init : goal.loop-step-init
loop-step-init c = (
  subst (Seen c.in_ok-reached.reached.0 c.in_ok-seen.seen) (sym c.new-found.ensures)
      (seen_first c.in_ok-reached.reached.0 c.in_ok-reached.reached.1 c.in_ok-seen.seen c.in_ok-seen.ensures),
  once_first (layout_in c.args.t.now) c.args.p c.args.count c.new-found.result c.new-found.ensures,
)

pub loop-step-preserved : goal.loop-step-preserved
loop-step-preserved c =
    let inside = subst (λ n. c.in_ok-place.place < n) c.len.ensures c.in_ok-place.ensures.within in
    let next = seen_next c.in_ok-reached.reached.0 c.slot-slot.result.counter c.in_ok-place.place c.loop-step.seen c.note.new.seen
    c.loop-step.found c.note.new.found c.in_ok-place.ensures.counter inside c.in_ok-note.ensures.table c.in_ok-note.ensures.found
    c.loop-step.invariant.0 in (
      next.0,
      once_next (layout_in c.args.t.now) c.args.p c.loop-step.step c.args.count c.slot-slot.result.counter c.loop-step.found c.note.new.found _
          c.loop-step-test.true
          (ap (λ slot. slot.counter) c.slot-slot.ensures ∙ ap (λ k. ((layout_in c.args.t.now).slot k).counter) c.in_ok-at.ensures)
          next.1 c.loop-step.invariant.1,
    )

pub returns : goal.returns
returns c =
    once_end (layout_in c.args.t.now) c.args.p c.loop-step.step c.args.count c.loop-step.found _ (omega arith) c.loop-step.invariant.1
