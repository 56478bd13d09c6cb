use Rattle.std.specs.Prelude.{◌≡◌, drop}
use Rattle.bl_tree.specs.Ports.{in_ranges, types_of}
use Rattle.bl_crun.proofs.fits.fit_all.Given as goal

abbrev pub invariant-loop-k : goal.invariant-loop-k
invariant-loop-k l = in_ranges (types_of (drop l.k l.columns)) (drop l.k l.row) ≡ in_ranges (types_of l.columns) l.row
