use Rattle.std.proofs.Common.{◌∙◌, ap}
use Rattle.bl_names_scopes.specs.Marks.{declares}
use Rattle.bl_names_scopes.specs.Scopes.{enter}
use Rattle.bl_names.proofs.ItemLemmas.{unit_past}
use Rattle.bl_names.proofs.item.unit.Goals as goal

pub returns : goal.returns
returns c =
    unit_past c.args.state.now c.inside.new.state c.open.new.self c.close.new.self c.declare.new.self c.push.new.self c.in_ok-named.named c.args.def.now
    c.in_ok-open.ensures c.in_ok-named.ensures.past c.in_ok-named.ensures.made c.in_ok-push.ensures.ok c.close.ensures
    (c.in_ok-declare.ensures.declares ∙ ap (λ kind. enter c.close.new.self (declares c.args.def.now.name kind)) c.of_unit.ensures)
