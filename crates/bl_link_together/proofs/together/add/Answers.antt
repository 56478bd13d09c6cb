-- A text that stands alone isn't long.
use Rattle.std.proofs.Common.{◌+◌, ◌≤◌, arith, length, subst, sym}
use Rattle.std.specs.Prelude.{IsTrue}
use Rattle.bl_link.proofs.Joining.{grown, text_short}
use Rattle.bl_link_together.proofs.together.add.Goals as goal
use Rattle.bl_link_together.proofs.together.add.Goals.{in-Ok, in-Err}

pub add-requires-clause-room : goal.add-requires-clause-room
add-requires-clause-room c =
    let short = text_short c.args.text.now (c.stands_alone.ensures c.if-not-stands_alone.false).alone.passes in
    omega (arith, short, c.requires.room)

pub returns-clause-grown : goal.returns-clause-grown
returns-clause-grown c =
    elim c.match-add.branch [
      | in-Ok w ↦
          subst (λ told. IsTrue told → length c.add.new.self.text.items ≤ length c.args.joined.now.text.items + 1_048_577) (sym w.result-is)
          (λ yes. grown c.requires.joined.0 c.args.text.now c.args.joined.now c.add.new.self w.in-Ok.ensures.passes c.requires.joined.1
          (w.in-Ok.ensures.added c.requires.joined.0 c.requires.joined.1))
      | in-Err w ↦
          subst (λ told. IsTrue told → length c.add.new.self.text.items ≤ length c.args.joined.now.text.items + 1_048_577) (sym w.result-is)
          (λ yes. absurd (cc))
    ]
