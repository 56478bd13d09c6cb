use Rattle.std.proofs.Common.{rules}
use Rattle.bl_ctext.proofs.Texts.{Grown, piece_grown}
use Rattle.bl_ctext.proofs.writer.Writer.piece.Goals as goal

-- what was written
after : (c : goal.In_ok-extend_from_slice) → Grown c.self.inside.text.items c.args.text.now c.extend_from_slice.new.self.items
after c = piece_grown c.self.inside.text.items c.args.text.now c.extend_from_slice.new.self.items c.self.invariant c.requires (search rules)

pub invariant_of-self-2 : goal.invariant_of-self-2
invariant_of-self-2 c = (after c).text

pub returns : goal.returns
returns c = rw c.self.view_is at (after c).tokens
