use Rattle.std.proofs.Common.{◌≡◌, Some, rules, ap, sym, ◌∙◌}
use Rattle.bl_tree.specs.declared.c.CExpr.{the_lemmas}
use Rattle.bl_simplify_laws.specs.Spots.{spot_of_place, spots_apart}
use Rattle.bl_simplify_laws.specs.Tables.{apart_from_lent, calls_stand_in_place}
use Rattle.bl_simplify_calls.specs.Checks.{arg_check}
use Rattle.bl_simplify_calls.proofs.Standing.{place_spot}
use Rattle.bl_simplify_calls.proofs.exprs.is_other_apart.Goals as goal

pub returns-in-Address : goal.returns-in-Address
returns-in-Address c = λ names.
    let own = spot_of_place c.args.own.now in
    let is : (arg_check names c.args.arg.now).lent ≡ Some (calls_stand_in_place names c.in-Address.place).spot = search (rules, the_lemmas) in
    c.are_apart.ensures ∙ (ap (spots_apart own) (sym (place_spot names c.in-Address.place)) ∙ ap (apart_from_lent own) (sym is))
