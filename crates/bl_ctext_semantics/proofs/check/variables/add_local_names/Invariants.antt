use Rattle.std.proofs.Common.{◌≡◌, ◌++◌, drop, map}
use Rattle.bl_ctext_semantics.specs.inner.Maps.{bytes_of}
use Rattle.bl_ctext_semantics.proofs.check.variables.add_local_names.Given as goal

abbrev pub invariant-loop-local : goal.invariant-loop-local
invariant-loop-local l =
    bytes_of l.names.items ++ map (λ p. p.name) (drop l.local-index l.locals) ≡ bytes_of l.initial.names.items ++ map (λ p. p.name) l.locals
