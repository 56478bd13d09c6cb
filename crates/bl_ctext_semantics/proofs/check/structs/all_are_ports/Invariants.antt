use Rattle.std.proofs.Common.{◌≡◌, ◌&&◌, drop}
use Rattle.std.specs.List.{list_all}
use Rattle.bl_ctext_semantics.specs.Faults.{is_port}
use Rattle.bl_ctext_semantics.proofs.check.structs.all_are_ports.Given as goal

abbrev pub invariant-loop-member : goal.invariant-loop-member
invariant-loop-member l = (l.ports && list_all (is_port l.prefix) (drop l.member-index l.members)) ≡ list_all (is_port l.prefix) l.members
