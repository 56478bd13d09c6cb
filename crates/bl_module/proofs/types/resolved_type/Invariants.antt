use Rattle.std.proofs.Common.{◌≡◌, take}
use Rattle.bl_module.specs.Behind.{array_of, resolved_type}
use Rattle.bl_module.proofs.types.resolved_type.Given as goal

abbrev pub invariant-loop-k : goal.invariant-loop-k
invariant-loop-k l = array_of (take l.k l.lengths) l.made ≡ resolved_type l.names l.ty
