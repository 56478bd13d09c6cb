use Rattle.std.proofs.Common.{◌≡◌, drop, map}
use Rattle.bl_ctext_semantics.specs.Tables.{found}
use Rattle.bl_simplify_frames.proofs.fits.member_named.Given as goal

abbrev pub invariant-loop-member : goal.invariant-loop-member
invariant-loop-member l = found l.name (map (λ m. (m.name, m)) (drop l.member-index l.members)) ≡ found l.name (map (λ m. (m.name, m)) l.members)
