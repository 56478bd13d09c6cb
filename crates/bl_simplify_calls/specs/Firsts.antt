-- First members of places.
use Rattle.std.specs.Prelude.{List, map, Option}
use Rattle.bl_tree.specs.declared.c.CStep.{CStep}
use Rattle.bl_tree.specs.declared.text.Text.{Text}
use Rattle.bl_simplify_laws.specs.Spots.{first_of, member_of_step}

-- the first member that steps go through
abbrev pub first_member : List CStep → Option Text
first_member steps = first_of (map member_of_step steps)
