use Rattle.std.proofs.Common.{◌≡◌, OnOk, sym, subst}
use Rattle.bl_module.specs.Names.{names_of_map, with_name}
use Rattle.bl_module.proofs.MapLemmas.{added}
use Rattle.bl_module.proofs.names.Names.add.Goals as goal
use Rattle.bl_module.proofs.names.Names.add.Goals.{in-Ok, in-Err}

pub returns : goal.returns
returns c =
    elim c.match-insert.branch [
      | in-Ok w ↦
          subst (λ r. OnOk r (names_of_map c.insert.new.self.entries ≡ with_name c.args.self.now c.args.name.now c.args.referent)) (sym w.result-is)
          (added c.self.inside.map c.insert.new.self c.args.name c.args.referent c.args.self.now c.self.view_is w.in-Ok.ensures.entries c.requires)
      | in-Err w ↦ subst (λ r. OnOk r (names_of_map c.insert.new.self.entries ≡ with_name c.args.self.now c.args.name.now c.args.referent))
          (sym w.result-is) tt
    ]
