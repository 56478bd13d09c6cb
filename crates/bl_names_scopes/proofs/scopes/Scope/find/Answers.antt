use Rattle.std.proofs.Common.{ap, ◌∙◌}
use Rattle.bl_names_scopes.specs.Scopes.{found}
use Rattle.bl_names_scopes.proofs.ScopeLemmas.{found_named}
use Rattle.bl_names_scopes.proofs.scopes.Scope.find.Goals as goal

pub returns : goal.returns
returns c =
    c.copied.ensures ∙ c.get.ensures.value ∙ found_named c.args.name.now c.self.inside.names.entries
    ∙ ap (λ scope. found scope c.args.name.now) c.self.view_is
