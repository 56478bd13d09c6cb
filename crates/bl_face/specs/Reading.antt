-- Which face a text is read as, and where a text that is none stops being one.
use Rattle.std.specs.Prelude.{◌≡◌, ℕ, ◌<◌, ◌≤◌, ◌⊎◌, List, [], ◌∷◌, ◌++◌, length, ⊤}
use Rattle.bl_tree.specs.declared.token.Token.{Token}
use Rattle.bl_lex.specs.Tokens.{Lexes, FrontOf}
use Rattle.bl_face.specs.declared.face.Face.{Face}
use Rattle.bl_face.specs.declared.fault.FaceFault.{FaceFault}
use Rattle.bl_face.specs.declared.fault.FaceFault.TheVariants.{NotFace, NoMemory}
use Rattle.bl_face.specs.declared.item.FaceItem.{FaceItem}
use Rattle.bl_face.specs.Lexemes.{Lexeme, lexemes}
use Rattle.bl_face.specs.Spells.{SpellsItems}

-- the most bytes of a text of a face
abbrev pub most_bytes : ℕ
most_bytes = 1_048_576

-- the text isn't too long, and its tokens spell the face
pub record ReadsAs (text : List ℕ) (face : Face) : Type 0 where
  pub short : length text ≤ most_bytes
  pub tokens : List Token
  pub lexed : Lexes text tokens
  pub spelled : SpellsItems face.items (lexemes text tokens)

-- the lexemes can be completed to those of a face
abbrev pub BeginsFace : List Lexeme → Type 0
BeginsFace front = (more : List Lexeme) × (items : List FaceItem) × SpellsItems items (front ++ more)

-- the lexemes are those of no face
abbrev pub IsNoFace : List Lexeme → Type 0
IsNoFace whole = (items : List FaceItem) → ¬ SpellsItems items whole

-- the tokens before the one that begins here begin a face, and with it they begin none
pub record StopsAtToken (text : List ℕ) (tokens : List Token) (at : ℕ) : Type 0 where
  pub before : List Token
  pub token : Token
  pub after : List Token
  pub stands : tokens ≡ before ++ token ∷ after
  pub begins : BeginsFace (lexemes text before)
  pub ends : ¬ BeginsFace (lexemes text (before ++ token ∷ []))
  pub is : at ≡ token.place.start

-- the tokens begin a face, and at this place no token follows: the text ends without a face, or something else stands there
pub record StopsBehind (text : List ℕ) (tokens : List Token) (stop at : ℕ) : Type 0 where
  pub begins : BeginsFace (lexemes text tokens)
  pub ends : (stop < length text) ⊎ IsNoFace (lexemes text tokens)
  pub is : at ≡ stop

-- the tokens up to where no token begins stop beginning a face at this place
pub record StopsAt (text : List ℕ) (at : ℕ) : Type 0 where
  pub tokens : List Token
  pub stop : ℕ
  pub front : FrontOf text tokens stop
  pub stops : StopsAtToken text tokens at ⊎ StopsBehind text tokens stop at

-- the text is no face, and this is the place that tells it
pub data NotFaceAt (text : List ℕ) (at : ℕ) : Type 0 where
  too_long : most_bytes < length text → at ≡ most_bytes → NotFaceAt text at
  stops : length text ≤ most_bytes → StopsAt text at → NotFaceAt text at

-- the fault names the place; want of memory has no cause in the text
abbrev pub IsFaceFault : List ℕ → FaceFault → Type 0
IsFaceFault text (NotFace at) = NotFaceAt text at
IsFaceFault text NoMemory = ⊤
