-- Parts of a program, and why a text has none behind faces.
use Rattle.std.specs.Prelude.{ℕ, Bool, List, ⊤}
use Rattle.bl_face.specs.declared.face.Face.{Face}
use Rattle.bl_tree.specs.declared.place.Place.{Place}
use Rattle.bl_tree.specs.declared.rule.Refusal.{Refusal}
use Rattle.bl_tree.specs.declared.rule.Refusal.TheVariants as refusal
use Rattle.bl_tree.specs.declared.rule.Rule.{Rule}
use Rattle.bl_module.specs.declared.fault.PartFault.{PartFault}
use Rattle.bl_module.specs.declared.fault.PartFault.TheVariants as fault
use Rattle.bl_module.specs.declared.taken.Taken.{Taken}
use Rattle.bl_module.specs.declared.taken.Taken.TheVariants.{AsLast}
use Rattle.bl_module.specs.Faces.{FacesStand, IsBadFace, behind_faces}
use Rattle.bl_module.specs.Own.{IsFaceOf}
use Rattle.bl_module.specs.Rules.{FirstFailingIn, PassesIn}

-- the faces stand, no rule fails for the text behind them, and this is its face
pub record IsGoodBehind (faces : List Face) (taken : Taken) (text : List ℕ) (face : Face) : Type 0 where
  pub stand : FacesStand faces
  pub passes : PassesIn (behind_faces faces) taken text
  pub is_face : IsFaceOf (behind_faces faces) text face

-- what contracts see of a part: its text, the faces behind which it was judged, its face, and whether it was judged as the last file
pub record SeenPart : Type 0 where
  pub text : List ℕ
  pub uses : List Face
  pub face : Face
  pub last : Bool

-- the part with these
abbrev pub part_with : List ℕ → List Face → Face → Bool → SeenPart
part_with text uses face last = record { text = text; uses = uses; face = face; last = last }

-- what every part keeps: its text is good behind the faces
abbrev pub IsPart : SeenPart → Type 0
IsPart part = IsGoodBehind part.uses (AsLast part.last) part.text part.face

-- the faces stand, and the rule is the first that fails for the text behind them
pub record FailsBehindFaces (faces : List Face) (taken : Taken) (text : List ℕ) (rule : Rule) (place : Place) (also : List Place) : Type 0 where
  pub stand : FacesStand faces
  pub first : FirstFailingIn (behind_faces faces) taken text rule place also

-- why the text has no part: a face that can't stand, and else the first rule that fails; want of memory has no cause in the text
abbrev pub PartStops : List Face → Taken → List ℕ → PartFault → Type 0
PartStops faces taken text (fault.BadFace face) = IsBadFace faces face
PartStops faces taken text (fault.Rule rule place also) = FailsBehindFaces faces taken text rule place also
PartStops faces taken text fault.NoMemory = ⊤

-- the fault that tells a refusal
abbrev pub fault_of : Refusal → PartFault
fault_of (refusal.Rule rule place also) = fault.Rule rule place also
fault_of refusal.NoMemory = fault.NoMemory
