use Rattle.std.proofs.Common.{◌≡◌, drop, map}
use Rattle.bl_simplify_laws.specs.Tables.{has_name}
use Rattle.bl_simplify_steps.proofs.begin.is_param.Given as goal

abbrev pub invariant-loop-param : goal.invariant-loop-param
invariant-loop-param l = has_name (map (λ p. p.name) (drop l.param-index l.params)) l.name ≡ has_name (map (λ p. p.name) l.params) l.name
