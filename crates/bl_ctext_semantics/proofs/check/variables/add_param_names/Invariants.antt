use Rattle.std.proofs.Common.{◌≡◌, ◌++◌, drop, map}
use Rattle.bl_ctext_semantics.specs.inner.Maps.{bytes_of}
use Rattle.bl_ctext_semantics.proofs.check.variables.add_param_names.Given as goal

abbrev pub invariant-loop-param : goal.invariant-loop-param
invariant-loop-param l =
    bytes_of l.names.items ++ map (λ p. p.name) (drop l.param-index l.params) ≡ bytes_of l.initial.names.items ++ map (λ p. p.name) l.params
