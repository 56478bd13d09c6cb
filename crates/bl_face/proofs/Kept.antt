-- A face that is read keeps what faces keep.
use Rattle.std.proofs.Common.{◌≡◌, ℕ, suc, Bool, true, ◌&&◌, List, [], ◌∷◌, slice_range, refl, arith}
use Rattle.std.specs.Prelude.{ℤ, Option}
use Rattle.std.specs.List.{list_all}
use Rattle.bl_tree.proofs.Basics.{and_first, and_second}
use Rattle.bl_tree.specs.Words.{is_name}
use Rattle.bl_tree.specs.declared.scalar.Scalar.{Scalar as ScalarType}
use Rattle.bl_tree.specs.declared.token.Token.{Token}
use Rattle.bl_tree.specs.declared.token.TokenKind.{TokenKind}
use Rattle.bl_tree.specs.declared.token.TokenKind.TheVariants.{Name, Number, Word, Sign}
use Rattle.bl_lex.specs.Tokens.{FrontOf}
use Rattle.bl_lex.proofs.NameLaws.{names_among}
use Rattle.bl_lex.proofs.RuleLaws.{placed_inside}
use Rattle.bl_lex.proofs.FrontLaws as fronts
use Rattle.bl_face.specs.declared.class.Class.{Class}
use Rattle.bl_face.specs.declared.class.Class.TheVariants as class
use Rattle.bl_face.specs.declared.class.Mark.TheVariants as mark_of
use Rattle.bl_face.specs.declared.item.FaceField.{FaceField}
use Rattle.bl_face.specs.declared.item.FaceItem.{FaceItem}
use Rattle.bl_face.specs.declared.item.FaceType.{FaceType}
use Rattle.bl_face.specs.Keeps.{base_is_named, field_is_named, item_keeps, Keeps}
use Rattle.bl_face.specs.Lexemes.{Lexeme, lexeme_of, class_of, lexeme_at, lexemes}
use Rattle.bl_face.specs.Lexemes.Lexeme.{named, marked}
use Rattle.bl_face.specs.Spells.{SpellsType, SpellsField, SpellsFields, SpellsMore, SpellsParams, SpellsResult, SpellsValue, SpellsItem, SpellsItems}
use Rattle.bl_face.specs.inner.Stops.{TokenStands, TokensStand}

-- ---- names of lexemes

abbrev is_named : Lexeme → Bool
is_named (named name) = is_name name
is_named (marked mark) = true

abbrev Named : List Lexeme → Type 0
Named whole = list_all is_named whole ≡ true

both : (a b : Bool) → a ≡ true → b ≡ true → a && b ≡ true
both a b ea eb = rw (ea, eb) refl

head_of : (name : List ℕ) (rest : List Lexeme) → Named (named name ∷ rest) → is_name name ≡ true
head_of name rest e = and_first (is_name name) (list_all is_named rest) e

tail_of : (name : List ℕ) (rest : List Lexeme) → Named (named name ∷ rest) → Named rest
tail_of name rest e = and_second (is_name name) (list_all is_named rest) e

-- ---- names of what is spelled

type_kept : {ty : FaceType} {whole left : List Lexeme} → SpellsType ty whole left → Named whole → (base_is_named ty.base ≡ true) × Named left
type_kept SpellsType.scalar e = (refl, e)
type_kept (SpellsType.structure {name} {left}) e = (head_of name left e, tail_of name left e)
type_kept (SpellsType.array spelled) e = type_kept spelled e

field_kept : {field : FaceField} {whole left : List Lexeme} → SpellsField field whole left → Named whole → (field_is_named field ≡ true) × Named left
field_kept (SpellsField.field {name} {ty} {rest} spelled) e =
    let h = type_kept spelled (tail_of name (marked mark_of.Colon ∷ rest) e) in (both _ _ (head_of name (marked mark_of.Colon ∷ rest) e) h.0, h.1)

abbrev AreNamed : List FaceField → Type 0
AreNamed fields = list_all field_is_named fields ≡ true

fields_kept : {fields : List FaceField} {whole left : List Lexeme} → SpellsFields fields whole left → Named whole → AreNamed fields × Named left
fields_kept SpellsFields.none e = (refl, e)
fields_kept (SpellsFields.more one others) e =
    let h = field_kept one e in let g = fields_kept others h.1 in (both _ _ h.0 g.0, g.1)

more_kept : {params : List FaceField} {whole left : List Lexeme} → SpellsMore params whole left → Named whole → AreNamed params × Named left
more_kept SpellsMore.none e = (refl, e)
more_kept (SpellsMore.more one others) e =
    let h = field_kept one e in let g = more_kept others h.1 in (both _ _ h.0 g.0, g.1)

params_kept : {params : List FaceField} {whole left : List Lexeme} → SpellsParams params whole left → Named whole → AreNamed params × Named left
params_kept SpellsParams.none e = (refl, e)
params_kept (SpellsParams.some one others) e =
    let h = field_kept one e in let g = more_kept others h.1 in (both _ _ h.0 g.0, g.1)

result_kept : {result : Option ScalarType} {whole left : List Lexeme} → SpellsResult result whole left → Named whole → Named left
result_kept SpellsResult.none e = e
result_kept SpellsResult.some e = e

value_kept : {value : ℤ} {whole left : List Lexeme} → SpellsValue value whole left → Named whole → Named left
value_kept SpellsValue.truth e = e
value_kept SpellsValue.falsehood e = e
value_kept SpellsValue.number e = e
value_kept SpellsValue.negative e = e

item_kept : {item : FaceItem} {whole left : List Lexeme} → SpellsItem item whole left → Named whole → (item_keeps item ≡ true) × Named left
item_kept (SpellsItem.structure {name} {field} {fields} {rest} spelled) e =
    let h = fields_kept spelled (tail_of name rest e) in (both _ _ (head_of name rest e) h.0, h.1)
item_kept (SpellsItem.constant {name} {of} {value} {rest} spelled) e =
    let behind : List Lexeme = marked mark_of.Colon ∷ marked (mark_of.Scalar of) ∷ marked mark_of.Assign ∷ rest in
    (head_of name behind e, value_kept spelled (tail_of name behind e))
item_kept (SpellsItem.unit {kind} {name} {inputs} {outputs} {result} {rest} ins outs gives) e =
    let i = params_kept ins (tail_of name rest e) in let o = params_kept outs i.1 in
    (both _ _ (head_of name rest e) (both _ _ i.0 o.0), result_kept gives o.1)

items_kept : {items : List FaceItem} {whole : List Lexeme} → SpellsItems items whole → Named whole → list_all item_keeps items ≡ true
items_kept SpellsItems.none e = refl
items_kept (SpellsItems.more one rest) e = let h = item_kept one e in both _ _ h.0 (items_kept rest h.1)

-- ---- names of tokens

one_named : (c : Class) (bytes : List ℕ) → (c ≡ class.Name → is_name bytes ≡ true) → is_named (lexeme_of c bytes) ≡ true
one_named class.Name bytes stands = stands refl
one_named (class.Mark mark) bytes stands = refl

name_class : (kind : TokenKind) → class_of kind ≡ class.Name → kind ≡ Name
name_class Name e = refl
name_class (Number n) e = cc
name_class (Word k) e = cc
name_class (Sign k) e = cc

token_named : (text : List ℕ) (token : Token) → TokenStands text token → is_named (lexeme_at text token) ≡ true
token_named text token stands = one_named (class_of token.kind) (slice_range text token.place.start token.place.end)
    (λ e. stands.named (name_class token.kind e))

tokens_named : (text : List ℕ) (tokens : List Token) → TokensStand text tokens → Named (lexemes text tokens)
tokens_named text [] stand = refl
tokens_named text (token ∷ tokens) stand =
    both _ _ (token_named text token (stand 0 token (omega arith))) (tokens_named text tokens (λ k d inside. stand (suc k) d (omega (arith, inside))))

pub kept : (text : List ℕ) (tokens : List Token) (items : List FaceItem) → TokensStand text tokens → SpellsItems items (lexemes text tokens) → Keeps items
kept text tokens items stand spelled = items_kept spelled (tokens_named text tokens stand)

-- tokens of a front stand in the text
pub tokens_stand : (text : List ℕ) (tokens : List Token) (stop : ℕ) → FrontOf text tokens stop → TokensStand text tokens
tokens_stand text tokens stop front k d inside =
    let placed = placed_inside text front.parts stop front.covers tokens front.are_tokens k d inside in
    record {
      in_order = omega (arith, placed.0);
      inside = omega (arith, placed.1, fronts.inside text tokens stop front);
      named = names_among text front.parts stop front.covers tokens front.are_tokens k d inside;
    }
