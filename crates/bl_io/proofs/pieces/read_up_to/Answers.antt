use Rattle.std.proofs.Common.{◌≤◌, length, arith, length-append}
use Rattle.std.proofs.lemmas.List.{take-append-le, length-take, length-take-le}
use Rattle.bl_io.proofs.Left.{HasRead-more, GivesUpTo-full, GivesUpTo-at_end, KeepsOthers-trans}
use Rattle.bl_io.proofs.pieces.read_up_to.Goals as goal
use Rattle.bl_io.proofs.pieces.read_up_to.Goals.{else-loop-room-test, then-loop-room-test+in_ok-n+then-n-eq0}

pub loop-room-preserved : goal.loop-room-preserved
loop-room-preserved g c =
    let t = c.in_ok-extend_from_slice.ensures in
    let fits : c.in_ok-n.n ≤ length c.next.new.room = omega (arith, c.in_ok-n.ensures.bound) in
    record {
      bound = rw (t.items, take-append-le, length-append, length-take-le)
          (omega (arith, c.in_ok-n.ensures.bound, length-take c.min-most.result c.loop-room.room));
      read = rw (t.items, take-append-le) (HasRead-more _ _ _ _ c.next.new.room _ c.loop-room.invariant.read c.in_ok-n.ensures.front fits);
      others = KeepsOthers-trans _ _ _ _ c.loop-room.invariant.others c.next.ensures.others;
      counts = λ name. omega (arith, c.loop-room.invariant.counts name, c.next.ensures.counts name);
    }

pub returns-clause-front : goal.returns-clause-front
returns-clause-front g c = elim c.loop-room-test.branch [
  | else-loop-room-test w ↦ rw w.files-is (GivesUpTo-full _ _ _ _ c.loop-room.invariant.read (omega arith) (omega arith))
  | then-loop-room-test+in_ok-n+then-n-eq0 w ↦ rw w.files-is
      (GivesUpTo-at_end _ _ _ _ w.next.new.room _ c.loop-room.invariant.read (rw w.if-n-eq0.true at w.in_ok-n.ensures.front) (omega arith))
]
