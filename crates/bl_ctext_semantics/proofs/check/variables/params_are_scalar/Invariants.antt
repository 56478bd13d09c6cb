use Rattle.std.proofs.Common.{◌≡◌, ◌&&◌, ◌||◌, drop}
use Rattle.std.specs.List.{list_all}
use Rattle.bl_ctext_semantics.specs.Faults.{is_scalar}
use Rattle.bl_ctext_semantics.proofs.check.variables.params_are_scalar.Given as goal

abbrev pub invariant-loop-param : goal.invariant-loop-param
invariant-loop-param l =
    (l.scalar && list_all (λ p. p.pointer || is_scalar p.ty) (drop l.param-index l.params)) ≡ list_all (λ p. p.pointer || is_scalar p.ty) l.params
