use Rattle.std.proofs.Common.{refl, ◌∙◌}
use Rattle.bl_emit_structs.proofs.Steps.{finished}
use Rattle.bl_emit_structs.proofs.program.structs_of.Goals as goal

pub returns : goal.returns
returns c =
    c.into_structs.ensures
    ∙ finished c.args.structs.now c.args.structs.now c.args.structs.now c.args.units.now c.args.units.now c.new-collected.result
    c.add_definitions.new.collected c.add_units.new.collected refl refl refl c.new-collected.ensures c.in_ok-add_definitions.ensures
    c.in_ok-add_units.ensures
