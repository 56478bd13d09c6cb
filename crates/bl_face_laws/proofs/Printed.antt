-- The pieces of a face are tokens that spell it.
use Rattle.std.proofs.Common.{◌≡◌, ◌≢◌, ℕ, zero, suc, ◌<◌, ◌≤◌, ◌^◌, ◌-◌, min, Bool, true, false, not, ◌&&◌, ◌||◌, List, [], ◌∷◌, length, refl, ap, sym, ◌∙◌}
use Rattle.std.proofs.Common.{subst, arith}
use Rattle.std.specs.Prelude.{ℤ, pos, negsuc, neg_ℤ, nat_abs, Option, Some, None, codes, slice_get}
use Rattle.std.specs.Fmt.{decimal}
use Rattle.std.specs.List.{list_all}
use Rattle.std.specs.Ordering.{int_eq}
use Rattle.std.specs.Str.{bytes_eq}
use Rattle.std.specs.Char.{is_ascii_digit}
use Rattle.std.proofs.lemmas.Slice.Eq.{bytes_eq-Decides}
use Rattle.std.proofs.lemmas.Bool.Decides.{Decides-int_eq}
use Rattle.std.proofs.lemmas.Bool.{not-true}
use Rattle.bl_tree.proofs.Basics.{and_first, and_second, false_not_true, true_and_false}
use Rattle.bl_tree.specs.declared.token.Keyword.{Keyword}
use Rattle.bl_tree.specs.declared.token.Keyword.TheVariants as keyword
use Rattle.bl_tree.specs.Keywords.{position}
use Rattle.bl_tree.specs.Words.{is_name, is_plain_word, is_among}
use Rattle.bl_tree.specs.Words as words
use Rattle.bl_tree.specs.declared.scalar.Scalar.{Scalar as ScalarType}
use Rattle.bl_tree.specs.declared.scalar.Scalar.TheVariants.{Bool as OfBool, Int, Nat, Bits}
use Rattle.bl_tree.specs.declared.scalar.Width.TheVariants.{W8, W16, W32, W64}
use Rattle.bl_tree.specs.declared.token.TokenKind.TheVariants as kind
use Rattle.bl_tree.specs.declared.tree.UnitKind.{UnitKind}
use Rattle.bl_tree.specs.declared.tree.UnitKind.TheVariants.{Function, Activity}
use Rattle.bl_lex.specs.Spelling.{keywords, words_outside, signs, is_word_byte, IsNumber}
use Rattle.bl_lex.specs.Pieces.{WordIs}
use Rattle.bl_lex.specs.Tokens.{tokens_of}
use Rattle.bl_face.specs.declared.class.Mark.TheVariants as mark_of
use Rattle.bl_face.specs.declared.face.Face.{Face}
use Rattle.bl_face.specs.declared.item.FaceBase.{FaceBase}
use Rattle.bl_face.specs.declared.item.FaceBase.TheVariants as base
use Rattle.bl_face.specs.declared.item.FaceField.{FaceField}
use Rattle.bl_face.specs.declared.item.FaceItem.{FaceItem}
use Rattle.bl_face.specs.declared.item.FaceItem.TheVariants as item
use Rattle.bl_face.specs.Keeps.{base_is_named, field_is_named, has_field, item_keeps, Keeps}
use Rattle.bl_face.specs.Lexemes.{Lexeme, class_of_word}
use Rattle.bl_face.specs.Lexemes.Lexeme.{named, marked}
use Rattle.bl_face.specs.Reading.{most_bytes, ReadsAs}
use Rattle.bl_face.specs.Spells.{kept_length, kept_number, SpellsType, SpellsField, SpellsFields, SpellsMore, SpellsParams, SpellsResult, SpellsValue}
use Rattle.bl_face.specs.Spells.{SpellsItem, SpellsItems}
use Rattle.bl_face.specs.Text.{face_text}
use Rattle.bl_face_laws.specs.Fits.{LengthsFit, FieldsFit, ItemFits, ItemsFit}
use Rattle.bl_face_laws.proofs.Chunks.{Chunk, text_of, lexemes_in, next_byte, WordStands, MarkStands, Stands, AllStand, Cover, cover}
use Rattle.bl_face_laws.proofs.Chunks.Chunk.{word, mark}
use Rattle.bl_face_laws.proofs.Digits.{DigitsOf, decimal_digits}
use Rattle.bl_face_laws.proofs.Pieces.{space, scalar_keyword, scalar_chunk, base_chunk, lengths_chunks, field_chunks, fields_chunks, more_chunks, params_chunks}
use Rattle.bl_face_laws.proofs.Pieces.{number_chunks, by_truth, value_chunks, unit_chunk, result_chunks, line, item_chunks, items_chunks, items_bytes}

-- ---- words and signs

or_left : (a b : Bool) → a ≡ true → a || b ≡ true
or_left true b e = refl
or_left false b e = cc

or_right : (a b : Bool) → b ≡ true → a || b ≡ true
or_right true b e = refl
or_right false b e = e

-- what stands in a list is found there
found : (list : List (List ℕ)) (k : ℕ) (w : List ℕ) → slice_get list k ≡ Some w → is_among w list ≡ true
found [] k w is = cc
found (x ∷ list) zero w is = let e : w ≡ x = cc in or_left (bytes_eq w x) (is_among w list) ((bytes_eq-Decides w x).1 e)
found (x ∷ list) (suc k) w is = or_right (bytes_eq w x) (is_among w list) (found list k w is)

abbrev has_byte : List ℕ → Bool
has_byte [] = false
has_byte (b ∷ bs) = true

filled : (w : List ℕ) → has_byte w ≡ true → 0 < length w
filled [] e = absurd (false_not_true e)
filled (b ∷ bs) e = omega arith

keyword_stands : (k : Keyword) (w : List ℕ) (next : ℕ) → slice_get keywords (position k) ≡ Some w → list_all is_word_byte w ≡ true → has_byte w ≡ true →
    is_word_byte next ≡ false → WordStands w (kind.Word k) next
keyword_stands k w next spelled each some stops = record {
  nonempty = filled w some;
  each = each;
  stops = stops;
  means = λ text end at. WordIs.keyword {k = k} spelled;
}

name_word : (w : List ℕ) (next : ℕ) → is_name w ≡ true → is_word_byte next ≡ false → WordStands w kind.Name next
unfolding keywords words_outside
name_word [] next is stops = absurd (false_not_true is)
name_word (b ∷ bs) next is stops =
    let plain = and_first (is_plain_word (b ∷ bs)) _ is in
    let others = and_second (is_plain_word (b ∷ bs)) (not (is_among (b ∷ bs) words.keywords) && not (is_among (b ∷ bs) words.outside_words)) is in
    let no_word = not-true _ (and_first (not (is_among (b ∷ bs) words.keywords)) _ others) in
    let not_outside = not-true _ (and_second (not (is_among (b ∷ bs) words.keywords)) (not (is_among (b ∷ bs) words.outside_words)) others) in
    record {
      nonempty = omega arith;
      each = and_second (not (is_ascii_digit b)) _ plain;
      stops = stops;
      means = λ text end at. WordIs.name (not-true (is_ascii_digit b) (and_first (not (is_ascii_digit b)) _ plain))
          (λ k e. true_and_false _ (found words.keywords k (b ∷ bs) e) no_word) (λ k e. true_and_false _ (found words.outside_words k (b ∷ bs) e) not_outside);
    }

number_word : (n next : ℕ) → n ≤ 2 ^ 64 → is_word_byte next ≡ false → next ≢ 46 → WordStands (decimal n) (kind.Number n) next
number_word n next small stops no_point =
    let h : DigitsOf n (decimal n) = decimal_digits n (omega (arith, small)) in
    let kept : n ≡ min n (2 ^ 64) = omega (arith, small) in
    record {
      nonempty = h.are.nonempty;
      each = h.bytes;
      stops = stops;
      means = λ text end at. WordIs.number (IsNumber.decimal h.are) (λ _ fraction. no_point (sym at ∙ fraction.0))
          (kept ∙ ap (λ m. min m (2 ^ 64)) (sym h.value));
    }

scalar_word_stands : (of : ScalarType) (next : ℕ) → is_word_byte next ≡ false → Stands (scalar_chunk of) next
unfolding keywords
scalar_word_stands OfBool next stops = keyword_stands keyword.Bool (codes "bool") next refl refl refl stops
scalar_word_stands (Int W8) next stops = keyword_stands keyword.Int8 (codes "int8") next refl refl refl stops
scalar_word_stands (Int W16) next stops = keyword_stands keyword.Int16 (codes "int16") next refl refl refl stops
scalar_word_stands (Int W32) next stops = keyword_stands keyword.Int32 (codes "int32") next refl refl refl stops
scalar_word_stands (Int W64) next stops = keyword_stands keyword.Int64 (codes "int64") next refl refl refl stops
scalar_word_stands (Nat W8) next stops = keyword_stands keyword.Nat8 (codes "nat8") next refl refl refl stops
scalar_word_stands (Nat W16) next stops = keyword_stands keyword.Nat16 (codes "nat16") next refl refl refl stops
scalar_word_stands (Nat W32) next stops = keyword_stands keyword.Nat32 (codes "nat32") next refl refl refl stops
scalar_word_stands (Nat W64) next stops = keyword_stands keyword.Nat64 (codes "nat64") next refl refl refl stops
scalar_word_stands (Bits W8) next stops = keyword_stands keyword.Bits8 (codes "bits8") next refl refl refl stops
scalar_word_stands (Bits W16) next stops = keyword_stands keyword.Bits16 (codes "bits16") next refl refl refl stops
scalar_word_stands (Bits W32) next stops = keyword_stands keyword.Bits32 (codes "bits32") next refl refl refl stops
scalar_word_stands (Bits W64) next stops = keyword_stands keyword.Bits64 (codes "bits64") next refl refl refl stops

var_stands : WordStands (codes "var") (kind.Word keyword.Var) 32
unfolding keywords
var_stands = keyword_stands keyword.Var (codes "var") 32 refl refl refl refl

end_stands : WordStands (codes "end") (kind.Word keyword.End) 10
unfolding keywords
end_stands = keyword_stands keyword.End (codes "end") 10 refl refl refl refl

struct_stands : WordStands (codes "struct") (kind.Word keyword.Struct) 32
unfolding keywords
struct_stands = keyword_stands keyword.Struct (codes "struct") 32 refl refl refl refl

const_stands : WordStands (codes "const") (kind.Word keyword.Const) 32
unfolding keywords
const_stands = keyword_stands keyword.Const (codes "const") 32 refl refl refl refl

returns_stands : WordStands (codes "returns") (kind.Word keyword.Returns) 32
unfolding keywords
returns_stands = keyword_stands keyword.Returns (codes "returns") 32 refl refl refl refl

true_stands : WordStands (codes "true") (kind.Word keyword.True) 10
unfolding keywords
true_stands = keyword_stands keyword.True (codes "true") 10 refl refl refl refl

false_stands : WordStands (codes "false") (kind.Word keyword.False) 10
unfolding keywords
false_stands = keyword_stands keyword.False (codes "false") 10 refl refl refl refl

unit_stands : (unit : UnitKind) → Stands (unit_chunk unit) 32
unfolding keywords
unit_stands Function = keyword_stands keyword.Function (codes "function") 32 refl refl refl refl
unit_stands Activity = keyword_stands keyword.Activity (codes "activity") 32 refl refl refl refl

open_paren : (next : ℕ) → MarkStands 40 0 next
unfolding signs
open_paren next = record { spelled = refl; alone = refl; no_slash = λ e. omega (arith, e) }

close_paren : (next : ℕ) → MarkStands 41 1 next
unfolding signs
close_paren next = record { spelled = refl; alone = refl; no_slash = λ e. omega (arith, e) }

open_bracket : (next : ℕ) → MarkStands 91 2 next
unfolding signs
open_bracket next = record { spelled = refl; alone = refl; no_slash = λ e. omega (arith, e) }

close_bracket : (next : ℕ) → MarkStands 93 3 next
unfolding signs
close_bracket next = record { spelled = refl; alone = refl; no_slash = λ e. omega (arith, e) }

comma : (next : ℕ) → MarkStands 44 4 next
unfolding signs
comma next = record { spelled = refl; alone = refl; no_slash = λ e. omega (arith, e) }

colon : (next : ℕ) → MarkStands 58 6 next
unfolding signs
colon next = record { spelled = refl; alone = refl; no_slash = λ e. omega (arith, e) }

assign : MarkStands 61 7 32
unfolding signs
assign = record { spelled = refl; alone = refl; no_slash = λ e. omega (arith, e) }

minus : (next : ℕ) → MarkStands 45 15 next
unfolding signs
minus next = record { spelled = refl; alone = refl; no_slash = λ e. omega (arith, e) }

-- ---- all pieces stand

-- what follows begins with no byte of a word
abbrev Closes : List Chunk → Type 0
Closes rest = is_word_byte (next_byte (text_of rest)) ≡ false

base_stands : (b : FaceBase) (next : ℕ) → base_is_named b ≡ true → is_word_byte next ≡ false → Stands (base_chunk b) next
base_stands (base.Scalar of) next is stops = scalar_word_stands of next stops
base_stands (base.Struct name) next is stops = name_word name next is stops

lengths_stand : (lengths : List ℕ) (rest : List Chunk) → LengthsFit lengths → AllStand rest → AllStand (lengths_chunks lengths rest)
lengths_stand [] rest fit stand = stand
lengths_stand (n ∷ lengths) rest fit stand = (open_bracket _, (number_word n 93 (omega (arith, fit.0)) refl (λ e. omega (arith, e)), (close_bracket _, lengths_stand lengths rest fit.1 stand)))

field_stands : (field : FaceField) (rest : List Chunk) → field_is_named field ≡ true → LengthsFit field.ty.lengths → Closes rest → AllStand rest →
    AllStand (field_chunks field rest)
field_stands field rest is fit closes stand = (
  name_word field.name 58 (and_first (is_name field.name) _ is) refl,
  (
    colon 32,
    (
      refl,
      lengths_stand field.ty.lengths (base_chunk field.ty.base ∷ rest) fit
          (base_stands field.ty.base (next_byte (text_of rest)) (and_second (is_name field.name) (base_is_named field.ty.base) is) closes, stand),
    ),
  ),
)

fields_close : (fields : List FaceField) (rest : List Chunk) → Closes rest → Closes (fields_chunks fields rest)
fields_close [] rest closes = closes
fields_close (field ∷ fields) rest closes = refl

abbrev AreNamed : List FaceField → Type 0
AreNamed fields = list_all field_is_named fields ≡ true

fields_stand : (fields : List FaceField) (rest : List Chunk) → AreNamed fields → FieldsFit fields → Closes rest → AllStand rest →
    AllStand (fields_chunks fields rest)
fields_stand [] rest are fit closes stand = stand
fields_stand (field ∷ fields) rest are fit closes stand = (
  refl,
  (
    var_stands,
    (
      refl,
      field_stands field (fields_chunks fields rest) (and_first (field_is_named field) (list_all field_is_named fields) are) fit.0 (fields_close fields rest closes)
          (fields_stand fields rest (and_second (field_is_named field) (list_all field_is_named fields) are) fit.1 closes stand),
    ),
  ),
)

more_close : (params : List FaceField) (rest : List Chunk) → Closes rest → Closes (more_chunks params rest)
more_close [] rest closes = closes
more_close (param ∷ params) rest closes = refl

more_stand : (params : List FaceField) (rest : List Chunk) → AreNamed params → FieldsFit params → Closes rest → AllStand rest →
    AllStand (more_chunks params rest)
more_stand [] rest are fit closes stand = stand
more_stand (param ∷ params) rest are fit closes stand = (
  comma 32,
  (
    refl,
    field_stands param (more_chunks params rest) (and_first (field_is_named param) (list_all field_is_named params) are) fit.0 (more_close params rest closes)
        (more_stand params rest (and_second (field_is_named param) (list_all field_is_named params) are) fit.1 closes stand),
  ),
)

params_stand : (params : List FaceField) (rest : List Chunk) → AreNamed params → FieldsFit params → Closes rest → AllStand rest →
    AllStand (params_chunks params rest)
params_stand [] rest are fit closes stand = stand
params_stand (param ∷ params) rest are fit closes stand =
    field_stands param (more_chunks params rest) (and_first (field_is_named param) (list_all field_is_named params) are) fit.0 (more_close params rest closes)
    (more_stand params rest (and_second (field_is_named param) (list_all field_is_named params) are) fit.1 closes stand)

number_stand : (value : ℤ) (rest : List Chunk) → nat_abs value ≤ 2 ^ 64 → AllStand rest → AllStand (number_chunks value (line rest))
number_stand (pos n) rest fit stand = (number_word n 10 fit refl (λ e. omega (arith, e)), (refl, stand))
number_stand (negsuc n) rest fit stand = (minus _, (number_word (suc n) 10 fit refl (λ e. omega (arith, e)), (refl, stand)))

truth_stand : (a b : Bool) (value : ℤ) (rest : List Chunk) → nat_abs value ≤ 2 ^ 64 → AllStand rest → AllStand (by_truth a b value (line rest))
truth_stand true b value rest fit stand = (false_stands, (refl, stand))
truth_stand false true value rest fit stand = (true_stands, (refl, stand))
truth_stand false false value rest fit stand = number_stand value rest fit stand

value_stand : (of : ScalarType) (value : ℤ) (rest : List Chunk) → nat_abs value ≤ 2 ^ 64 → AllStand rest → AllStand (value_chunks of value (line rest))
value_stand OfBool value rest fit stand = truth_stand (int_eq value (pos 0)) (int_eq value (pos 1)) value rest fit stand
value_stand (Int w) value rest fit stand = number_stand value rest fit stand
value_stand (Nat w) value rest fit stand = number_stand value rest fit stand
value_stand (Bits w) value rest fit stand = number_stand value rest fit stand

result_stand : (result : Option ScalarType) (rest : List Chunk) → AllStand rest → AllStand (result_chunks result (line rest))
result_stand None rest stand = (refl, stand)
result_stand (Some of) rest stand = (refl, (returns_stands, (refl, (scalar_word_stands of 10 refl, (refl, stand)))))

item_stands : (it : FaceItem) (rest : List Chunk) → item_keeps it ≡ true → ItemFits it → AllStand rest → AllStand (item_chunks it rest)
item_stands (item.Struct name fields) rest keeps fit stand =
    let named_so = and_second (is_name name) (has_field fields && list_all field_is_named fields) keeps in (
      struct_stands,
      (
        refl,
        (
          name_word name _ (and_first (is_name name) _ keeps) (fields_close fields (space ∷ word (codes "end") (kind.Word keyword.End) ∷ line rest) refl),
          fields_stand fields (space ∷ word (codes "end") (kind.Word keyword.End) ∷ line rest)
              (and_second (has_field fields) (list_all field_is_named fields) named_so) fit refl
              (refl, (end_stands, (refl, stand))),
        ),
      ),
    )
item_stands (item.Constant name of value) rest keeps fit stand = (const_stands, (refl, (name_word name 58 keeps refl, (colon 32, (refl, (scalar_word_stands of 32 refl, (refl, (assign, (refl, value_stand of value rest fit stand)))))))))
item_stands (item.Head unit name inputs outputs result) rest keeps fit stand =
    let lists = and_second (is_name name) (list_all field_is_named inputs && list_all field_is_named outputs) keeps in (
      unit_stands unit,
      (
        refl,
        (
          name_word name 32 (and_first (is_name name) _ keeps) refl,
          (
            refl,
            (
              open_paren _,
              params_stand inputs (mark 41 1 ∷ mark 40 0 ∷ params_chunks outputs (mark 41 1 ∷ result_chunks result (line rest)))
                  (and_first (list_all field_is_named inputs) _ lists) fit.0 refl (
                    close_paren _,
                    (
                      open_paren _,
                      params_stand outputs (mark 41 1 ∷ result_chunks result (line rest)) (and_second (list_all field_is_named inputs) (list_all field_is_named outputs) lists) fit.1
                          refl (close_paren _, result_stand result rest stand),
                    ),
                  ),
            ),
          ),
        ),
      ),
    )

items_stand : (items : List FaceItem) → Keeps items → ItemsFit items → AllStand (items_chunks items)
items_stand [] keeps fit = tt
items_stand (it ∷ items) keeps fit =
    item_stands it (items_chunks items) (and_first (item_keeps it) (list_all item_keeps items) keeps) fit.0
    (items_stand items (and_second (item_keeps it) (list_all item_keeps items) keeps) fit.1)

-- ---- their lexemes spell the face

scalar_is : (of : ScalarType) → class_of_word (scalar_keyword of) ≡ mark_of.Scalar of
scalar_is OfBool = refl
scalar_is (Int W8) = refl
scalar_is (Int W16) = refl
scalar_is (Int W32) = refl
scalar_is (Int W64) = refl
scalar_is (Nat W8) = refl
scalar_is (Nat W16) = refl
scalar_is (Nat W32) = refl
scalar_is (Nat W64) = refl
scalar_is (Bits W8) = refl
scalar_is (Bits W16) = refl
scalar_is (Bits W32) = refl
scalar_is (Bits W64) = refl

base_spelled : (b : FaceBase) (rest : List Chunk) → SpellsType (record { lengths = []; base = b }) (lexemes_in (base_chunk b ∷ rest)) (lexemes_in rest)
base_spelled (base.Scalar of) rest = subst (λ m. SpellsType (record { lengths = []; base = base.Scalar of }) (marked m ∷ lexemes_in rest) (lexemes_in rest))
    (sym (scalar_is of)) SpellsType.scalar
base_spelled (base.Struct name) rest = SpellsType.structure

type_spelled : (lengths : List ℕ) (b : FaceBase) (rest : List Chunk) → LengthsFit lengths →
    SpellsType (record { lengths = lengths; base = b }) (lexemes_in (lengths_chunks lengths (base_chunk b ∷ rest))) (lexemes_in rest)
type_spelled [] b rest fit = base_spelled b rest
type_spelled (n ∷ lengths) b rest fit =
    let kept : kept_length n ≡ n = omega (arith, fit.0) in
    subst (λ m. SpellsType (record { lengths = m ∷ lengths; base = b }) (lexemes_in (lengths_chunks (n ∷ lengths) (base_chunk b ∷ rest))) (lexemes_in rest))
    kept (SpellsType.array (type_spelled lengths b rest fit.1))

field_spelled : (field : FaceField) (rest : List Chunk) → LengthsFit field.ty.lengths → SpellsField field (lexemes_in (field_chunks field rest)) (lexemes_in rest)
field_spelled field rest fit = SpellsField.field (type_spelled field.ty.lengths field.ty.base rest fit)

fields_spelled : (fields : List FaceField) (rest : List Chunk) → FieldsFit fields →
    SpellsFields fields (lexemes_in (fields_chunks fields (space ∷ word (codes "end") (kind.Word keyword.End) ∷ line rest))) (lexemes_in rest)
fields_spelled [] rest fit = SpellsFields.none
fields_spelled (field ∷ fields) rest fit =
    SpellsFields.more (field_spelled field (fields_chunks fields (space ∷ word (codes "end") (kind.Word keyword.End) ∷ line rest)) fit.0)
    (fields_spelled fields rest fit.1)

more_spelled : (params : List FaceField) (rest : List Chunk) → FieldsFit params →
    SpellsMore params (lexemes_in (more_chunks params (mark 41 1 ∷ rest))) (lexemes_in rest)
more_spelled [] rest fit = SpellsMore.none
more_spelled (param ∷ params) rest fit =
    SpellsMore.more (field_spelled param (more_chunks params (mark 41 1 ∷ rest)) fit.0) (more_spelled params rest fit.1)

params_spelled : (params : List FaceField) (rest : List Chunk) → FieldsFit params →
    SpellsParams params (lexemes_in (mark 40 0 ∷ params_chunks params (mark 41 1 ∷ rest))) (lexemes_in rest)
params_spelled [] rest fit = SpellsParams.none
params_spelled (param ∷ params) rest fit =
    SpellsParams.some (field_spelled param (more_chunks params (mark 41 1 ∷ rest)) fit.0) (more_spelled params rest fit.1)

kept_is : (n : ℕ) → n ≤ 2 ^ 64 → kept_number n ≡ n
kept_is n fit = omega (arith, fit)

number_spelled : (value : ℤ) (rest : List Chunk) → nat_abs value ≤ 2 ^ 64 → SpellsValue value (lexemes_in (number_chunks value rest)) (lexemes_in rest)
number_spelled (pos n) rest fit = subst (λ m. SpellsValue (pos m) (lexemes_in (number_chunks (pos n) rest)) (lexemes_in rest)) (kept_is n fit) SpellsValue.number
number_spelled (negsuc n) rest fit =
    subst (λ m. SpellsValue (neg_ℤ (pos m)) (lexemes_in (number_chunks (negsuc n) rest)) (lexemes_in rest)) (kept_is (suc n) fit) SpellsValue.negative

truth_spelled : (a b : Bool) (value : ℤ) (rest : List Chunk) → (a ≡ true → value ≡ pos 0) → (b ≡ true → value ≡ pos 1) → nat_abs value ≤ 2 ^ 64 →
    SpellsValue value (lexemes_in (by_truth a b value rest)) (lexemes_in rest)
truth_spelled true b value rest zero_is one_is fit =
    subst (λ (v : ℤ). SpellsValue v (marked (mark_of.Truth false) ∷ lexemes_in rest) (lexemes_in rest)) (sym (zero_is refl)) SpellsValue.falsehood
truth_spelled false true value rest zero_is one_is fit =
    subst (λ (v : ℤ). SpellsValue v (marked (mark_of.Truth true) ∷ lexemes_in rest) (lexemes_in rest)) (sym (one_is refl)) SpellsValue.truth
truth_spelled false false value rest zero_is one_is fit = number_spelled value rest fit

value_spelled : (of : ScalarType) (value : ℤ) (rest : List Chunk) → nat_abs value ≤ 2 ^ 64 →
    SpellsValue value (lexemes_in (value_chunks of value rest)) (lexemes_in rest)
value_spelled OfBool value rest fit = truth_spelled (int_eq value (pos 0)) (int_eq value (pos 1)) value rest
    (Decides-int_eq value (pos 0)).0 (Decides-int_eq value (pos 1)).0 fit
value_spelled (Int w) value rest fit = number_spelled value rest fit
value_spelled (Nat w) value rest fit = number_spelled value rest fit
value_spelled (Bits w) value rest fit = number_spelled value rest fit

result_spelled : (result : Option ScalarType) (rest : List Chunk) → SpellsResult result (lexemes_in (result_chunks result (line rest))) (lexemes_in rest)
result_spelled None rest = SpellsResult.none
result_spelled (Some of) rest = subst (λ m. SpellsResult (Some of) (marked mark_of.Returns ∷ marked m ∷ lexemes_in rest) (lexemes_in rest))
    (sym (scalar_is of)) SpellsResult.some

const_spelled : (name : List ℕ) (of : ScalarType) (value : ℤ) (rest : List Chunk) → nat_abs value ≤ 2 ^ 64 →
    SpellsItem (item.Constant name of value) (lexemes_in (item_chunks (item.Constant name of value) rest)) (lexemes_in rest)
const_spelled name of value rest fit =
    subst (λ m. SpellsItem (item.Constant name of value)
    (marked mark_of.Const ∷ named name ∷ marked mark_of.Colon ∷ marked m ∷ marked mark_of.Assign ∷ lexemes_in (value_chunks of value (line rest)))
    (lexemes_in rest)) (sym (scalar_is of)) (SpellsItem.constant (value_spelled of value (line rest) fit))

item_spelled : (it : FaceItem) (rest : List Chunk) → item_keeps it ≡ true → ItemFits it → SpellsItem it (lexemes_in (item_chunks it rest)) (lexemes_in rest)
item_spelled (item.Struct name []) rest keeps fit = absurd (false_not_true (and_second (is_name name) false keeps))
item_spelled (item.Struct name (field ∷ fields)) rest keeps fit = SpellsItem.structure (fields_spelled (field ∷ fields) rest fit)
item_spelled (item.Constant name of value) rest keeps fit = const_spelled name of value rest fit
item_spelled (item.Head Function name inputs outputs result) rest keeps fit =
    SpellsItem.unit (params_spelled inputs (mark 40 0 ∷ params_chunks outputs (mark 41 1 ∷ result_chunks result (line rest))) fit.0)
    (params_spelled outputs (result_chunks result (line rest)) fit.1) (result_spelled result rest)
item_spelled (item.Head Activity name inputs outputs result) rest keeps fit =
    SpellsItem.unit (params_spelled inputs (mark 40 0 ∷ params_chunks outputs (mark 41 1 ∷ result_chunks result (line rest))) fit.0)
    (params_spelled outputs (result_chunks result (line rest)) fit.1) (result_spelled result rest)

items_spelled : (items : List FaceItem) → Keeps items → ItemsFit items → SpellsItems items (lexemes_in (items_chunks items))
items_spelled [] keeps fit = SpellsItems.none
items_spelled (it ∷ items) keeps fit =
    SpellsItems.more (item_spelled it (items_chunks items) (and_first (item_keeps it) (list_all item_keeps items) keeps) fit.0)
    (items_spelled items (and_second (item_keeps it) (list_all item_keeps items) keeps) fit.1)

-- ---- the whole text

pub printed_is_read : (face : Face) → ItemsFit face.items → length (face_text face) ≤ most_bytes → ReadsAs (face_text face) face
printed_is_read face fit short =
    let text : List ℕ = face_text face in
    let chunks : List Chunk = items_chunks face.items in
    let covered : Cover text 0 chunks = cover text [] chunks (sym (items_bytes face.items)) (items_stand face.items face.keeps fit) in
    record {
      short = short;
      tokens = tokens_of text covered.parts;
      lexed = record { parts = covered.parts; covers = covered.covers; each_has_a_kind = covered.kept; are_tokens = refl };
      spelled = subst (λ (ls : List Lexeme). SpellsItems face.items ls) (sym covered.lexed) (items_spelled face.items face.keeps fit);
    }
