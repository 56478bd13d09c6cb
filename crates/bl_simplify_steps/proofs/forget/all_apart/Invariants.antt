use Rattle.std.proofs.Common.{◌≡◌, drop}
use Rattle.std.specs.List.{list_all}
use Rattle.bl_simplify_laws.specs.Spots.{spots_apart}
use Rattle.bl_simplify_steps.proofs.forget.all_apart.Given as goal

abbrev pub invariant-loop-case : goal.invariant-loop-case
invariant-loop-case l =
    list_all (λ case. list_all (λ entry. list_all (λ other. spots_apart other entry.spot) l.gone) case) (drop l.case-index l.cases)
    ≡ list_all (λ case. list_all (λ entry. list_all (λ other. spots_apart other entry.spot) l.gone) case) l.cases
