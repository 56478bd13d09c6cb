use Rattle.std.proofs.Common.{◌≡◌, map}
use Rattle.bl_types.proofs.structs.Structs.into_list.Given as goal

abbrev pub invariant-loop-known : goal.invariant-loop-known
invariant-loop-known l = l.list ≡ map (λ known. known.def) l.yielded
