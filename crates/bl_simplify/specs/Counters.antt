-- Which counters functions name.
use Rattle.std.specs.Prelude.{◌≡◌, true, [], ◌∷◌, Contains, codes}
use Rattle.bl_tree.specs.declared.c.CFunc.{CFunc}
use Rattle.bl_tree.specs.declared.text.Text.{Text}
use Rattle.bl_ctext_places.specs.Counters.{names_counter}
use Rattle.bl_ctext_places.specs.Places.{CPath, CPaths, places_named}
use Rattle.bl_simplify.specs.Simplified.{CounterFrom}

-- a place is a member of `(*f)`
pub record IsOwn (place : CPath) : Type 0 where
  pub counter : Text
  pub is : place ≡ record { through = true; name = codes "f"; members = counter ∷ [] }

-- each of the places that names a counter is a member of `(*f)`
abbrev pub AreOwn : CPaths → Type 0
AreOwn places = (place : CPath) → Contains places place → names_counter place ≡ true → IsOwn place

-- a function names a counter only where another one does, and only one of its own frame
abbrev pub CountersKept : CFunc → CFunc → Type 0
CountersKept old new = (place : CPath) → Contains (places_named new) place → names_counter place ≡ true → CounterFrom old place
