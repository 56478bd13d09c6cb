-- A file where nothing fails first has no faults.
use Rattle.std.proofs.Common.{◌≡◌, Bool, true, false, List, [], ◌∷◌, Option, Some, None, refl}
use Rattle.bl_tree.specs.declared.place.Place.{Place}
use Rattle.bl_ctext_semantics.specs.Faults.{Fault, WellFormed, earlier_of, faults_in, first_fault, first_place, is_before}
use Rattle.std.specs.Prelude.{if◌then◌else◌}
use Rattle.bl_ctext_semantics.specs.Parts.{Parts}

one_of : (b : Bool) (x y : Place) → (if b then Some x else Some y) ≡ None → ⊥
one_of true x y h = cc
one_of false x y h = cc

some_earlier : (a : Place) (b : Option Place) → earlier_of (Some a) b ≡ None → ⊥
some_earlier a None h = cc
some_earlier a (Some b) h = one_of (is_before a b) a b h

no_faults : (faults : List Fault) → first_place faults ≡ None → faults ≡ []
no_faults [] h = refl
no_faults (fault ∷ rest) h = absurd (some_earlier fault.at (first_place rest) h)

pub well_formed : (file : Parts) → first_fault file ≡ None → WellFormed file
well_formed file h = record { none = no_faults (faults_in file) h }
