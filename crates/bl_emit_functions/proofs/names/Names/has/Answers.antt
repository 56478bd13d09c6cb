use Rattle.std.proofs.Common.{ap, ◌∙◌}
use Rattle.bl_tree.specs.Words.{is_among}
use Rattle.bl_emit_functions.proofs.Among.{among-texts}
use Rattle.bl_emit_functions.proofs.names.Names.has.Goals as goal

pub returns : goal.returns
returns c =
    c.contains.ensures ∙ among-texts c.args.name.now c.self.inside.set.keys ∙ ap (is_among c.args.name.now) c.self.view_is
