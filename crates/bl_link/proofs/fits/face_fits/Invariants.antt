use Rattle.std.proofs.Common.{◌≡◌, ◌≤◌, length}
use Rattle.bl_link.proofs.Fitting.{SameFaces}
use Rattle.bl_link.proofs.fits.face_fits.Given as goal

abbrev pub invariant-loop-j : goal.invariant-loop-j
invariant-loop-j l = record {
  size : length l.uses ≡ l.k;
  within : l.j ≤ l.k;
  same : SameFaces l.uses l.parts l.j;
}
