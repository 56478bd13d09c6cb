use Rattle.std.proofs.Common.{◌≡◌, ◌++◌, drop, map}
use Rattle.bl_ctext_semantics.specs.inner.Maps.{bytes_of}
use Rattle.bl_ctext_semantics.proofs.check.structs.member_names.Given as goal

abbrev pub invariant-loop-member : goal.invariant-loop-member
invariant-loop-member l = bytes_of l.names.items ++ map (λ m. m.name) (drop l.member-index l.members) ≡ map (λ m. m.name) l.members
