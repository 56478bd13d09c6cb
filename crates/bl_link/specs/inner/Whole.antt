-- What is known of parts while they are compiled and joined.
use Rattle.std.specs.Prelude.{◌≡◌, ℕ, ◌+◌, ◌<◌, ◌≤◌, ◌^◌, nat_eq, List, length, slice_get, All, IfSome, ⊤}
use Rattle.bl_face.specs.declared.face.Face.{Face}
use Rattle.bl_joined.specs.declared.joined.Joined.{Joined}
use Rattle.bl_joined.specs.Joined.{IsJoinedOf}
use Rattle.bl_lex.specs.Tokens.{Lexes}
use Rattle.bl_link.specs.Fits.{FacesFit, faces_of}
use Rattle.bl_link.specs.Linked.{IsPlaceIn}
use Rattle.bl_link.specs.declared.fault.LinkFault.{LinkFault}
use Rattle.bl_link.specs.declared.fault.LinkFault.TheVariants as fault
use Rattle.bl_module.specs.Faces.{FacesStand, items_of}
use Rattle.bl_module.specs.Parts.{IsPart, SeenPart}
use Rattle.bl_parse_syntax.specs.Rules.{Passes as TokensPass}
use Rattle.bl_tree.specs.declared.rule.Refusal.{Refusal}
use Rattle.bl_tree.specs.declared.rule.Refusal.TheVariants as refusal

-- each part keeps what parts keep
abbrev pub ArePartsOf : List SeenPart → Type 0
ArePartsOf parts = All IsPart parts

-- of so many files each part is the last exactly if it stands last
abbrev pub LastsOf : ℕ → List SeenPart → Type 0
LastsOf count parts = (k : ℕ) → IfSome (slice_get parts k) (λ part. part.last ≡ nat_eq (k + 1) count)

-- parts are the first of from 1 to 64 files, and have these faces, which stand one behind the other
pub record AreFirst (count : ℕ) (parts : List SeenPart) (faces : List Face) : Type 0 where
  pub some : 1 ≤ count
  pub few : count ≤ 64
  pub are : ArePartsOf parts
  pub fit : FacesFit parts
  pub lasts : LastsOf count parts
  pub same : items_of faces ≡ items_of (faces_of parts)
  pub stand : FacesStand faces

-- from 1 to 64 texts were joined
pub record IsOfFew (joined : Joined) : Type 0 where
  pub texts : List (List ℕ)
  pub is : IsJoinedOf texts joined
  pub some : 1 ≤ length texts
  pub few : length texts ≤ 64

-- a joined text isn't too long to be parsed, has these tokens, and they keep the rules Depth and Syntax
pub record IsReadable (joined : Joined) : Type 0 where
  pub short : length joined.text.items < 2 ^ 32
  pub lexes : Lexes joined.text.items joined.tokens.items
  pub passes : TokensPass joined.tokens.items

-- the fault tells a refusal of joined texts, with the place in the text in which it begins
abbrev pub TellsIn : List (List ℕ) → Refusal → LinkFault → Type 0
TellsIn texts (refusal.Rule rule place also) (fault.Rule file of own) = (of ≡ rule) × IsPlaceIn texts place file own
TellsIn texts refusal.NoMemory fault.NoMemory = ⊤
TellsIn texts _ _ = ⊥
