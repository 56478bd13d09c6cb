use Rattle.std.proofs.Common.{◌≡◌, [], drop, take}
use Rattle.bl_emit_spec.specs.Programs.{parts_then}
use Rattle.bl_emit.specs.Kept.{parts_in}
use Rattle.bl_emit.specs.Programs.{units_told}
use Rattle.bl_emit.proofs.units.all_parts.Given as goal

abbrev pub invariant-loop-k : goal.invariant-loop-k
invariant-loop-k l = parts_then (parts_in l.made)
    (units_told l.structs (take l.k l.units) l.made.remember (drop l.k l.units) (drop l.k l.needed) l.left)
    ≡ units_told l.structs [] [] l.units l.needed l.machine
