-- Where a reader of tokens stops, and what it knows of them.
use Rattle.std.specs.Prelude.{◌≡◌, ℕ, ◌≤◌, true, List, length, slice_range, All, ⊤}
use Rattle.bl_tree.specs.Words.{is_name}
use Rattle.bl_tree.specs.declared.token.Token.{Token}
use Rattle.bl_tree.specs.declared.token.TokenKind.{TokenKind}
use Rattle.bl_face.specs.declared.fault.FaceFault.{FaceFault}
use Rattle.bl_face.specs.declared.fault.FaceFault.TheVariants.{NotFace, NoMemory}
use Rattle.bl_face.specs.Reading.{StopsAtToken}

-- a token has bytes of the text, which are a name where the token is one
pub record TokenStands (text : List ℕ) (token : Token) : Type 0 where
  pub in_order : token.place.start ≤ token.place.end
  pub inside : token.place.end ≤ length text
  pub named : token.kind ≡ TokenKind.Name → is_name (slice_range text token.place.start token.place.end) ≡ true

-- each token has bytes of the text
abbrev pub TokensStand : List ℕ → List Token → Type 0
TokensStand text tokens = All (λ token. TokenStands text token) tokens

-- the fault names the first token that can't follow; want of memory has no cause in the text
abbrev pub IsStop : List ℕ → List Token → FaceFault → Type 0
IsStop text tokens (NotFace at) = StopsAtToken text tokens at
IsStop text tokens NoMemory = ⊤
