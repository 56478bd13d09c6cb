use Rattle.std.proofs.Common.{◌≡◌, drop}
use Rattle.std.specs.List.{list_all}
use Rattle.bl_simplify_laws.specs.Spots.{spots_apart}
use Rattle.bl_simplify_steps.proofs.forget.case_apart.Given as goal

abbrev pub invariant-loop-entry : goal.invariant-loop-entry
invariant-loop-entry l =
    list_all (λ entry. list_all (λ other. spots_apart other entry.spot) l.gone) (drop l.entry-index l.case)
    ≡ list_all (λ entry. list_all (λ other. spots_apart other entry.spot) l.gone) l.case
