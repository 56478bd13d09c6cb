use Rattle.std.proofs.Common.{◌≡◌, reverse, take}
use Rattle.bl_names_scopes.specs.Scopes.{bound_around}
use Rattle.bl_names_scopes.proofs.scopes.find_around.Given as goal

abbrev pub invariant-loop-k : goal.invariant-loop-k
invariant-loop-k l = bound_around (reverse (take l.k l.outer)) l.name ≡ bound_around (reverse l.outer) l.name
