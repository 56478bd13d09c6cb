use Rattle.std.proofs.Common.{◌≡◌, drop}
use Rattle.std.specs.List.{list_all}
use Rattle.bl_simplify_laws.specs.Spots.{spots_apart}
use Rattle.bl_simplify_steps.proofs.forget.is_apart.Given as goal

abbrev pub invariant-loop-other : goal.invariant-loop-other
invariant-loop-other l =
    list_all (λ other. spots_apart other l.spot) (drop l.other-index l.gone) ≡ list_all (λ other. spots_apart other l.spot) l.gone
