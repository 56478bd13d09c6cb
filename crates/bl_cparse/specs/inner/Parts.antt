-- What a part of the grammar leaves of the tokens, where it is read from their front.
use Rattle.std.specs.Prelude.{◌≡◌, IsTrue, List, ◌++◌, Option, Some, None}
use Rattle.bl_tree.specs.declared.c.CExprKind.{CExprKind}
use Rattle.bl_ctext.specs.Token.{Token}
use Rattle.bl_ctext.specs.Spelling.{kind_tokens}
use Rattle.bl_ctext.specs.Spellable.{spells_kind}

-- the tokens begin with an expression of this kind, and others follow
abbrev pub IsKind : List Token → List Token → CExprKind → Type 0
IsKind before after kind = (before ≡ kind_tokens kind ++ after) × IsTrue (spells_kind kind)

-- the tokens begin with an expression of this kind, if there is one, and others follow
abbrev pub MaybeKind : List Token → List Token → Option CExprKind → Type 0
MaybeKind before after None = after ≡ before
MaybeKind before after (Some kind) = IsKind before after kind
