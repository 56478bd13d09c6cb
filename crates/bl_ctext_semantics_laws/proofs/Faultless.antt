-- Clauses that don't fail.
use Rattle.std.proofs.Common.{◌≡◌, Bool, true, false, [], refl}
use Rattle.bl_tree.specs.declared.place.Place.{Place}
use Rattle.bl_ctext_semantics.specs.Faults.{Clause, unless}

pub unless-nil : (holds : Bool) (clause : Clause) (place : Place) → unless holds clause place ≡ [] → holds ≡ true
unless-nil true clause place h = refl
unless-nil false clause place h = cc
