-- The record of a drive before its first tick.
use Rattle.std.specs.Prelude.{[]}
use Rattle.bl_plant_drive.specs.declared.driven.Driven.{Driven}
use Rattle.bl_tree.specs.declared.row.Last.TheVariants as last

-- nothing was driven yet
abbrev pub nothing_driven : Driven
nothing_driven = record { ins = []; trace = record { rows = []; last = last.Open }; gone = [] }
