-- What the code's tables pick is what the grammar's do.
use Rattle.std.proofs.Common.{◌≡◌, ℕ, Bool, List, ◌++◌, map, refl, ap, ◌∙◌}
use Rattle.std.specs.Prelude.{Option, None}
use Rattle.bl_ctext.specs.Token.{Token}
use Rattle.bl_grammar.specs.declared.symbol.Symbol.{Symbol}
use Rattle.bl_cparse_syntax.specs.declared.grammar.Class.{Class as Row}
use Rattle.bl_cparse_syntax.specs.declared.grammar.Within.{Within}
use Rattle.bl_cparse_syntax.specs.declared.grammar.Roomed.{Roomed}
use Rattle.bl_cparse_syntax.specs.Grammar.{Wanted, Production, wanted_for}
use Rattle.bl_cparse_syntax.specs.Tables.{Choice, absent, choices, decided_production, turn_name_for, decided, pick}
use Rattle.bl_cparse_syntax.specs.inner.Rows.{shape_shown, wanted_from}

pub picked : (whole : Roomed) (piece : Token) (rows : List Choice) (found : Option Production) → rows ≡ choices whole.part → found
    ≡ decided_production rows piece
    → decided whole.room piece (absent whole.part) found ≡ pick whole piece
unfolding pick
picked whole piece rows found is by = rw (by, is) refl

pub none_picked : (whole : Roomed) (piece : Token) (rows : List Choice) (may : Bool) → rows ≡ choices whole.part →
    None ≡ decided_production rows piece → may ≡ absent whole.part
    → decided whole.room piece may None ≡ pick whole piece
none_picked whole piece rows may is by same = ap (λ b. decided whole.room piece b None) same ∙ picked whole piece rows None is by

-- what is put on a stack is what the next piece picks
pub with_turn : (room : ℕ) (name piece : Token) (shapes : List (Symbol Row Within)) (news old : List Wanted) → name ≡ turn_name_for piece
    → news ≡ map (wanted_for room name) (map shape_shown shapes) ++ old → news ≡ wanted_from room piece shapes ++ old
with_turn room name piece shapes news old is pushed = pushed ∙ ap (λ n. map (wanted_for room n) (map shape_shown shapes) ++ old) is
