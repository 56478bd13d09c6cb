use Rattle.std.proofs.Common.{rules}
use Rattle.bl_ctext.proofs.Texts.{Grown, grown, parted_text, same_text}
use Rattle.bl_ctext.proofs.writer.Writer.write.Goals as goal

-- what the second step wrote
after : (c : goal.In_ok-extend_from_slice) → Grown c.self.inside.text.items c.args.text.now c.extend_from_slice.new.self.items
after c = grown c.self.inside.text.items c.args.text.now c.part.new.text.items c.extend_from_slice.new.self.items c.self.invariant c.requires (search rules)
    (search rules)

pub invariant_of-self-in_err-extend_from_slice : goal.invariant_of-self-in_err-extend_from_slice
invariant_of-self-in_err-extend_from_slice c =
    same_text c.part.new.text.items c.extend_from_slice.new.self.items
    (parted_text c.self.inside.text.items c.args.text.now c.part.new.text.items c.self.invariant (search rules)) (search rules)

pub invariant_of-self-2 : goal.invariant_of-self-2
invariant_of-self-2 c = (after c).text

pub returns : goal.returns
returns c = rw c.self.view_is at (after c).tokens
