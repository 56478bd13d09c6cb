use Rattle.std.proofs.Common.{◌≡◌, map, None, Some, rules, ap, sym, ◌∙◌}
use Rattle.std.specs.List.{list_all}
use Rattle.bl_tree.specs.declared.c.CExpr.{the_lemmas}
use Rattle.bl_simplify_laws.specs.declared.facts.CSpot.{CSpot}
use Rattle.bl_simplify_laws.specs.Tables.{apart_from_lent, calls_stand_in_place, own_lent}
use Rattle.bl_simplify_calls.specs.Checks.{arg_check}
use Rattle.bl_simplify_calls.proofs.Standing.{place_spot}
use Rattle.bl_simplify_calls.proofs.exprs.leads_apart.Goals as goal

pub returns-in-Address : goal.returns-in-Address
returns-in-Address c = λ names.
    let rest = map (arg_check names) c.args.others.now in
    let is : (arg_check names c.args.first.now).lent ≡ Some (calls_stand_in_place names c.in-Address.own).spot = search (rules, the_lemmas) in
    c.are_others_apart.ensures names
    ∙ (ap (λ (spot : CSpot). list_all (λ a. apart_from_lent spot a.lent) rest) (sym (place_spot names c.in-Address.own))
    ∙ ap (λ lent. own_lent lent rest) (sym is))

pub returns-in-Value : goal.returns-in-Value
returns-in-Value c = λ names.
    let is : (arg_check names c.args.first.now).lent ≡ None = search (rules, the_lemmas) in
    ap (λ lent. own_lent lent (map (arg_check names) c.args.others.now)) (sym is)
