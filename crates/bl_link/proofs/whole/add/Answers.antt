-- The text of a part isn't long.
use Rattle.std.proofs.Common.{ap, arith, length, subst, sym, ◌+◌, ◌≤◌}
use Rattle.std.specs.Prelude.{OnOk}
use Rattle.bl_link.proofs.Joining.{grown, part_passes, text_short}
use Rattle.bl_link.proofs.whole.add.Goals as goal
use Rattle.bl_link.proofs.whole.add.Goals.{in-Ok, in-Err-NoMemory}

pub add-requires-clause-room : goal.add-requires-clause-room
add-requires-clause-room c =
    let short = text_short c.args.part.now.text (part_passes c.args.part.now c.is_part.ensures) in
    let same = ap length c.text.ensures in
    omega (arith, short, same, c.requires.room)

pub returns-clause-grown : goal.returns-clause-grown
returns-clause-grown c =
    elim c.match-add.branch [
      | in-Ok w ↦
          subst (λ r. OnOk r (length c.add.new.self.text.items ≤ length c.args.joined.now.text.items + 1_048_577)) (sym w.result-is)
          (grown c.requires.joined.0 c.text.result.now c.args.joined.now c.add.new.self w.in-Ok.ensures.passes c.requires.joined.1
          (w.in-Ok.ensures.added c.requires.joined.0 c.requires.joined.1))
      | in-Err-NoMemory w ↦
          subst (λ r. OnOk r (length c.add.new.self.text.items ≤ length c.args.joined.now.text.items + 1_048_577)) (sym w.result-is) tt
    ]
