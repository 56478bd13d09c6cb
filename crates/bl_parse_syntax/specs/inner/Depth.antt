-- What a walk over tokens remembers of those that it has passed.
use Rattle.std.specs.Prelude.{List, [], ◌∷◌, Option, Some}
use Rattle.bl_tree.specs.declared.token.Token.{Token}
use Rattle.bl_tree.specs.declared.token.TokenKind.{TokenKind}

-- the kind of the last token, if there is one, and else this one
abbrev pub last_kind : Option TokenKind → List Token → Option TokenKind
last_kind before [] = before
last_kind before (token ∷ tokens) = last_kind (Some token.kind) tokens
