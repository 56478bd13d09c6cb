-- What stands in a list of tokens at a position.
use Rattle.std.specs.Prelude.{◌≡◌, ℕ, ◌+◌, ◌-◌, List, slice_get, slice_range, Option, Some, None, option_map}
use Rattle.bl_tree.specs.declared.place.Place.{Place}
use Rattle.bl_tree.specs.declared.token.Token.{Token}
use Rattle.bl_tree.specs.declared.token.TokenKind.{TokenKind}
use Rattle.bl_parse_tree.specs.declared.name.Name.{Name}

-- the kind of the token
abbrev pub kind_at : List Token → ℕ → Option TokenKind
kind_at tokens k = option_map (λ token. token.kind) (slice_get tokens k)

-- where a token begins; 0 where there is none
abbrev pub start_of : Option Token → ℕ
start_of (Some token) = token.place.start
start_of None = 0

-- where a token ends; 0 where there is none
abbrev pub end_of : Option Token → ℕ
end_of (Some token) = token.place.end
end_of None = 0

-- where the token begins
abbrev pub start_at : List Token → ℕ → ℕ
start_at tokens k = start_of (slice_get tokens k)

-- where the token ends
abbrev pub end_at : List Token → ℕ → ℕ
end_at tokens k = end_of (slice_get tokens k)

-- the place of the tokens from one position up to another: from the first to the last
abbrev pub span : List Token → ℕ → ℕ → Place
span tokens from to = record { start = start_at tokens from; end = end_at tokens (to - 1) }

-- the name that the text has at the place of the token
abbrev pub name_at : List ℕ → List Token → ℕ → Name
name_at text tokens k = record {
  text = slice_range text (start_at tokens k) (end_at tokens k);
  place = record { start = start_at tokens k; end = end_at tokens k };
}

-- the token at a position is of this kind, and the next position is that behind it
pub record Takes (tokens : List Token) (kind : TokenKind) (from to : ℕ) : Type 0 where
  pub stands : kind_at tokens from ≡ Some kind
  pub next : to ≡ from + 1

-- the token is a name, and it is this one
pub record SpellsName (text : List ℕ) (tokens : List Token) (name : Name) (from to : ℕ) : Type 0 where
  pub token : Takes tokens TokenKind.Name from to
  pub is : name ≡ name_at text tokens from
