use Rattle.std.proofs.Common.{◌≡◌, drop}
use Rattle.bl_ctext_semantics.specs.Cells.{members_of}
use Rattle.bl_crun_ports.proofs.ports.members.Given as goal

abbrev pub invariant-loop-of : goal.invariant-loop-of
invariant-loop-of l = members_of l.name (drop l.of-index l.structs) ≡ members_of l.name l.structs
