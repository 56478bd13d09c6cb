-- Places that nothing reads.
use Rattle.std.specs.Prelude.{◌≡◌, false, true, Option, None}
use Rattle.bl_tree.specs.declared.c.CPlace.{CPlace}
use Rattle.bl_tree.specs.declared.text.Text.{Text}
use Rattle.bl_simplify_laws.specs.Known.{place_is}
use Rattle.bl_simplify_laws.specs.Spots.{spot_of_place}

-- a place is a variable without an entry in a table, or a part of it, and surely has a location
pub record IsDeadPlace (read : Text → Option (Unit {0})) (place : CPlace) : Type 0 where
  pub local : (spot_of_place place).through ≡ false
  pub unread : read (spot_of_place place).name ≡ None
  pub steady : (place_is place).steady ≡ true
