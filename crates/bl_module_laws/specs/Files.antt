-- The files of a program, each judged behind the faces of those before it.
use Rattle.std.specs.Prelude.{◌≡◌, ℕ, ◌+◌, nat_eq, List, length, take, slice_get, Some}
use Rattle.bl_face.specs.declared.face.Face.{Face}
use Rattle.bl_module.specs.declared.taken.Taken.{Taken}
use Rattle.bl_module.specs.declared.taken.Taken.TheVariants.{AsLast}
use Rattle.bl_module.specs.Parts.{IsGoodBehind}

-- as which file of so many the one at a position is judged
abbrev pub taken_at : ℕ → ℕ → Taken
taken_at count k = AsLast (nat_eq (k + 1) count)

-- the texts are the first of so many files. Each is good behind the faces of those before it, and these are the faces
pub record AreGoodFiles (count : ℕ) (texts : List (List ℕ)) (faces : List Face) : Type 0 where
  pub counted : length faces ≡ length texts
  pub each : (k : ℕ) (text : List ℕ) (face : Face) → slice_get texts k ≡ Some text → slice_get faces k ≡ Some face →
      IsGoodBehind (take k faces) (taken_at count k) text face
