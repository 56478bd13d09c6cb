use Rattle.std.proofs.Common.{ap, sym, ◌∙◌}
use Rattle.bl_plant_drive.specs.Drives.{plant_width}
use Rattle.bl_plant_drive.proofs.Naming.{named-none, named-width, within-place}
use Rattle.bl_plant_drive.proofs.names.width_named.Goals as goal

pub width_at-requires : goal.width_at-requires
width_at-requires g c = within-place _ c.args.plants.now c.args.name.number c.in-Some.at (sym c.in-Some.is ∙ c.place_of.ensures)

pub returns-in-Some : goal.returns-in-Some
returns-in-Some g c = named-width _ c.args.name.number c.in-Some.at c.width_at.result (sym c.in-Some.is ∙ c.place_of.ensures) c.width_at.ensures

pub returns-in-None : goal.returns-in-None
returns-in-None g c = sym (ap plant_width (named-none _ c.args.name.number (sym c.in-None.is ∙ c.place_of.ensures)))
