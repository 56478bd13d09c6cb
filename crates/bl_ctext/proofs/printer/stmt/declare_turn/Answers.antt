use Rattle.std.proofs.Common.{append_assoc}
use Rattle.bl_ctext.proofs.printer.stmt.declare_turn.Goals as goal

pub returns : goal.returns
returns c =
    simp append_assoc at (rw (c.in_ok-line.ensures, c.in_ok-first_turn.ensures, c.in_ok-byte.ensures, c.as_str.ensures) at c.write.ensures)
