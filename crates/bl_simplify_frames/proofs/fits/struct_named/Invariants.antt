use Rattle.std.proofs.Common.{◌≡◌, drop}
use Rattle.bl_ctext_semantics.specs.Faults.{struct_table}
use Rattle.bl_simplify_frames.proofs.fits.struct_named.Given as goal

abbrev pub invariant-loop-of : goal.invariant-loop-of
invariant-loop-of l = struct_table (drop l.of-index l.structs) l.name ≡ struct_table l.structs l.name
