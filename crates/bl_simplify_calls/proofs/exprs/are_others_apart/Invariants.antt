use Rattle.std.proofs.Common.{◌≡◌, ◌&&◌, List, drop}
use Rattle.std.specs.List.{list_all}
use Rattle.bl_tree.specs.declared.text.Text.{Text}
use Rattle.bl_simplify_laws.specs.Spots.{spot_of_place}
use Rattle.bl_simplify_laws.specs.Tables.{apart_from_lent}
use Rattle.bl_simplify_calls.specs.Checks.{arg_check}
use Rattle.bl_simplify_calls.proofs.exprs.are_others_apart.Given as goal

abbrev pub invariant-loop-arg : goal.invariant-loop-arg
invariant-loop-arg l =
    (names : List Text) → (l.apart && list_all (λ a. apart_from_lent (spot_of_place l.own) (arg_check names a).lent) (drop l.arg-index l.args))
    ≡ list_all (λ a. apart_from_lent (spot_of_place l.own) (arg_check names a).lent) l.args
