use Rattle.std.proofs.Common.{◌≡◌, OnOk, sym, subst}
use Rattle.bl_names_scopes.specs.Scopes.{named, with_name}
use Rattle.bl_names_scopes.proofs.ScopeLemmas.{added}
use Rattle.bl_names_scopes.proofs.scopes.Scope.add.Goals as goal
use Rattle.bl_names_scopes.proofs.scopes.Scope.add.Goals.{in-Ok, in-Err}

pub returns : goal.returns
returns c =
    elim c.match-insert.branch [
      | in-Ok w ↦
          subst (λ r. OnOk r (named c.insert.new.self.entries ≡ with_name c.args.self.now c.args.name.now c.args.kind c.args.position)) (sym w.result-is)
          (added c.self.inside.names c.insert.new.self c.as_str.result c.args.name.now c.args.kind c.args.position c.args.self.now c.as_str.ensures
          c.self.view_is w.in-Ok.ensures.entries c.requires)
      | in-Err w ↦ subst (λ r. OnOk r (named c.insert.new.self.entries ≡ with_name c.args.self.now c.args.name.now c.args.kind c.args.position))
          (sym w.result-is) tt
    ]
