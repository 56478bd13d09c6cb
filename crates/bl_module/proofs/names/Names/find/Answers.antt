use Rattle.std.proofs.Common.{ap, ◌∙◌}
use Rattle.bl_module.specs.Names.{referent_of}
use Rattle.bl_module.proofs.MapLemmas.{found_in}
use Rattle.bl_module.proofs.names.Names.find.Goals as goal

pub returns : goal.returns
returns c =
    c.copied.ensures ∙ c.get.ensures.value ∙ found_in c.args.name.now c.self.inside.map.entries
    ∙ ap (λ names. referent_of names c.args.name.now) c.self.view_is
