use Rattle.std.proofs.Common.{◌≡◌, ◌&&◌, drop, not}
use Rattle.std.specs.List.{list_all}
use Rattle.bl_simplify_laws.specs.Spots.{is_own}
use Rattle.bl_simplify_calls.proofs.functions.are_plain.Given as goal

abbrev pub invariant-loop-param : goal.invariant-loop-param
invariant-loop-param l =
    (l.plain && list_all (λ q. not (is_own q.name)) (drop l.param-index l.params)) ≡ list_all (λ q. not (is_own q.name)) l.params
