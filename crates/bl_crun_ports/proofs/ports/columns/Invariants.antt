use Rattle.std.proofs.Common.{◌≡◌, ◌++◌, drop}
use Rattle.std.specs.Prelude.{filter_map}
use Rattle.bl_ctext_semantics.specs.Cells.{column_of}
use Rattle.bl_crun_ports.proofs.ports.columns.Given as goal

abbrev pub invariant-loop-member : goal.invariant-loop-member
invariant-loop-member l = l.columns ++ filter_map column_of (drop l.member-index l.members) ≡ filter_map column_of l.members
