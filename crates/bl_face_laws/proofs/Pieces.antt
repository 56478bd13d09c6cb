-- A face as the pieces that its text is written in.
use Rattle.std.proofs.Common.{◌≡◌, ℕ, suc, Bool, true, false, List, [], ◌∷◌, ◌++◌, refl, ap, sym, ◌∙◌, append_assoc}
use Rattle.std.specs.Prelude.{ℤ, pos, negsuc, Option, Some, None, codes, if◌then◌else◌}
use Rattle.std.specs.Fmt.{decimal, signed_decimal}
use Rattle.std.specs.Ordering.{int_eq}
use Rattle.bl_tree.specs.declared.token.Keyword.{Keyword}
use Rattle.bl_tree.specs.declared.token.Keyword.TheVariants as keyword
use Rattle.bl_tree.specs.declared.scalar.Scalar.{Scalar as ScalarType}
use Rattle.bl_tree.specs.declared.scalar.Scalar.TheVariants.{Bool as OfBool, Int, Nat, Bits}
use Rattle.bl_tree.specs.declared.scalar.Width.TheVariants.{W8, W16, W32, W64}
use Rattle.bl_tree.specs.declared.token.TokenKind.TheVariants as kind
use Rattle.bl_tree.specs.declared.tree.UnitKind.{UnitKind}
use Rattle.bl_tree.specs.declared.tree.UnitKind.TheVariants.{Function, Activity}
use Rattle.bl_face.specs.declared.item.FaceBase.{FaceBase}
use Rattle.bl_face.specs.declared.item.FaceBase.TheVariants as base
use Rattle.bl_face.specs.declared.item.FaceField.{FaceField}
use Rattle.bl_face.specs.declared.item.FaceItem.{FaceItem}
use Rattle.bl_face.specs.declared.item.FaceItem.TheVariants as item
use Rattle.bl_face.specs.Text.{scalar_word, base_text, length_text, lengths_text, field_text, params_from, fields_text, struct_text, value_text, constant_front}
use Rattle.bl_face.specs.Text.{constant_text, kind_word, head_text, result_text, tail_text, item_text, items_text}
use Rattle.bl_face_laws.proofs.Chunks.{Chunk, text_of}
use Rattle.bl_face_laws.proofs.Chunks.Chunk.{blank, word, mark}

-- ---- pieces

abbrev pub space : Chunk
space = blank 32

abbrev pub scalar_keyword : ScalarType → Keyword
scalar_keyword OfBool = keyword.Bool
scalar_keyword (Int W8) = keyword.Int8
scalar_keyword (Int W16) = keyword.Int16
scalar_keyword (Int W32) = keyword.Int32
scalar_keyword (Int W64) = keyword.Int64
scalar_keyword (Nat W8) = keyword.Nat8
scalar_keyword (Nat W16) = keyword.Nat16
scalar_keyword (Nat W32) = keyword.Nat32
scalar_keyword (Nat W64) = keyword.Nat64
scalar_keyword (Bits W8) = keyword.Bits8
scalar_keyword (Bits W16) = keyword.Bits16
scalar_keyword (Bits W32) = keyword.Bits32
scalar_keyword (Bits W64) = keyword.Bits64

abbrev pub scalar_chunk : ScalarType → Chunk
scalar_chunk of = word (scalar_word of) (kind.Word (scalar_keyword of))

abbrev pub number_chunk : ℕ → Chunk
number_chunk n = word (decimal n) (kind.Number n)

abbrev pub base_chunk : FaceBase → Chunk
base_chunk (base.Scalar of) = scalar_chunk of
base_chunk (base.Struct name) = word name kind.Name

abbrev pub lengths_chunks : List ℕ → List Chunk → List Chunk
lengths_chunks [] rest = rest
lengths_chunks (n ∷ lengths) rest = mark 91 2 ∷ number_chunk n ∷ mark 93 3 ∷ lengths_chunks lengths rest

abbrev pub field_chunks : FaceField → List Chunk → List Chunk
field_chunks field rest = word field.name kind.Name ∷ mark 58 6 ∷ space ∷ lengths_chunks field.ty.lengths (base_chunk field.ty.base ∷ rest)

abbrev pub fields_chunks : List FaceField → List Chunk → List Chunk
fields_chunks [] rest = rest
fields_chunks (field ∷ fields) rest = space ∷ word (codes "var") (kind.Word keyword.Var) ∷ space ∷ field_chunks field (fields_chunks fields rest)

abbrev pub more_chunks : List FaceField → List Chunk → List Chunk
more_chunks [] rest = rest
more_chunks (param ∷ params) rest = mark 44 4 ∷ space ∷ field_chunks param (more_chunks params rest)

abbrev pub params_chunks : List FaceField → List Chunk → List Chunk
params_chunks [] rest = rest
params_chunks (param ∷ params) rest = field_chunks param (more_chunks params rest)

abbrev pub number_chunks : ℤ → List Chunk → List Chunk
number_chunks (pos n) rest = number_chunk n ∷ rest
number_chunks (negsuc n) rest = mark 45 15 ∷ number_chunk (suc n) ∷ rest

abbrev pub by_truth : Bool → Bool → ℤ → List Chunk → List Chunk
by_truth true b value rest = word (codes "false") (kind.Word keyword.False) ∷ rest
by_truth false true value rest = word (codes "true") (kind.Word keyword.True) ∷ rest
by_truth false false value rest = number_chunks value rest

abbrev pub value_chunks : ScalarType → ℤ → List Chunk → List Chunk
value_chunks OfBool value rest = by_truth (int_eq value (pos 0)) (int_eq value (pos 1)) value rest
value_chunks (Int w) value rest = number_chunks value rest
value_chunks (Nat w) value rest = number_chunks value rest
value_chunks (Bits w) value rest = number_chunks value rest

abbrev pub unit_chunk : UnitKind → Chunk
unit_chunk Function = word (codes "function") (kind.Word keyword.Function)
unit_chunk Activity = word (codes "activity") (kind.Word keyword.Activity)

abbrev pub result_chunks : Option ScalarType → List Chunk → List Chunk
result_chunks None rest = rest
result_chunks (Some of) rest = space ∷ word (codes "returns") (kind.Word keyword.Returns) ∷ space ∷ scalar_chunk of ∷ rest

abbrev pub line : List Chunk → List Chunk
line rest = blank 10 ∷ rest

abbrev pub item_chunks : FaceItem → List Chunk → List Chunk
item_chunks (item.Struct name fields) rest =
    word (codes "struct") (kind.Word keyword.Struct) ∷ space ∷ word name kind.Name
    ∷ fields_chunks fields (space ∷ word (codes "end") (kind.Word keyword.End) ∷ line rest)
item_chunks (item.Constant name of value) rest =
    word (codes "const") (kind.Word keyword.Const) ∷ space ∷ word name kind.Name ∷ mark 58 6 ∷ space ∷ scalar_chunk of ∷ space ∷ mark 61 7 ∷ space
    ∷ value_chunks of value (line rest)
item_chunks (item.Head unit name inputs outputs result) rest =
    unit_chunk unit ∷ space ∷ word name kind.Name ∷ space ∷ mark 40 0 ∷ params_chunks inputs
    (mark 41 1 ∷ mark 40 0 ∷ params_chunks outputs (mark 41 1 ∷ result_chunks result (line rest)))

abbrev pub items_chunks : List FaceItem → List Chunk
items_chunks [] = []
items_chunks (item ∷ items) = item_chunks item (items_chunks items)

-- ---- their bytes

base_bytes : (b : FaceBase) (rest : List Chunk) → text_of (base_chunk b ∷ rest) ≡ base_text b ++ text_of rest
base_bytes (base.Scalar of) rest = refl
base_bytes (base.Struct name) rest = refl

three : (a b c rest : List ℕ) → a ++ (b ++ (c ++ rest)) ≡ (a ++ (b ++ c)) ++ rest
three a b c rest = ap (λ (x : List ℕ). a ++ x) (sym (append_assoc b c rest)) ∙ sym (append_assoc a (b ++ c) rest)

lengths_bytes : (lengths : List ℕ) (rest : List Chunk) → text_of (lengths_chunks lengths rest) ≡ lengths_text lengths ++ text_of rest
unfolding length_text
lengths_bytes [] rest = refl
lengths_bytes (n ∷ lengths) rest =
    ap (λ (x : List ℕ). codes "[" ++ (decimal n ++ (codes "]" ++ x))) (lengths_bytes lengths rest)
    ∙ three (codes "[") (decimal n) (codes "]") (lengths_text lengths ++ text_of rest)
    ∙ sym (append_assoc (codes "[" ++ (decimal n ++ codes "]")) (lengths_text lengths) (text_of rest))

field_bytes : (field : FaceField) (rest : List Chunk) → text_of (field_chunks field rest) ≡ field_text field ++ text_of rest
unfolding field_text
field_bytes field rest =
    ap (λ (x : List ℕ). field.name ++ (codes ": " ++ x))
    (lengths_bytes field.ty.lengths (base_chunk field.ty.base ∷ rest)
    ∙ ap (λ (x : List ℕ). lengths_text field.ty.lengths ++ x) (base_bytes field.ty.base rest)
    ∙ sym (append_assoc (lengths_text field.ty.lengths) (base_text field.ty.base) (text_of rest)))
    ∙ three field.name (codes ": ") (lengths_text field.ty.lengths ++ base_text field.ty.base) (text_of rest)

fields_bytes : (fields : List FaceField) (rest : List Chunk) → text_of (fields_chunks fields rest) ≡ fields_text fields ++ text_of rest
fields_bytes [] rest = refl
fields_bytes (field ∷ fields) rest =
    ap (λ (x : List ℕ). codes " var " ++ x)
    (field_bytes field (fields_chunks fields rest) ∙ ap (λ (x : List ℕ). field_text field ++ x) (fields_bytes fields rest))
    ∙ sym (append_assoc (codes " var ") (field_text field) (fields_text fields ++ text_of rest))
    ∙ sym (append_assoc (codes " var " ++ field_text field) (fields_text fields) (text_of rest))

more_bytes : (params : List FaceField) (rest : List Chunk) → text_of (more_chunks params rest) ≡ params_from false params ++ text_of rest
more_bytes [] rest = refl
more_bytes (param ∷ params) rest =
    ap (λ (x : List ℕ). codes ", " ++ x)
    (field_bytes param (more_chunks params rest) ∙ ap (λ (x : List ℕ). field_text param ++ x) (more_bytes params rest))
    ∙ three (codes ", ") (field_text param) (params_from false params) (text_of rest)

params_bytes : (params : List FaceField) (rest : List Chunk) → text_of (params_chunks params rest) ≡ params_from true params ++ text_of rest
params_bytes [] rest = refl
params_bytes (param ∷ params) rest =
    field_bytes param (more_chunks params rest) ∙ ap (λ (x : List ℕ). field_text param ++ x) (more_bytes params rest)
    ∙ sym (append_assoc (field_text param) (params_from false params) (text_of rest))

number_bytes : (value : ℤ) (rest : List Chunk) → text_of (number_chunks value rest) ≡ signed_decimal value ++ text_of rest
number_bytes (pos n) rest = refl
number_bytes (negsuc n) rest = refl

truth_bytes : (a b : Bool) (value : ℤ) (rest : List Chunk) → text_of (by_truth a b value rest)
    ≡ (if a then codes "false" else (if b then codes "true" else signed_decimal value)) ++ text_of rest
truth_bytes true b value rest = refl
truth_bytes false true value rest = refl
truth_bytes false false value rest = number_bytes value rest

value_bytes : (of : ScalarType) (value : ℤ) (rest : List Chunk) → text_of (value_chunks of value rest) ≡ value_text of value ++ text_of rest
unfolding value_text
value_bytes OfBool value rest = truth_bytes (int_eq value (pos 0)) (int_eq value (pos 1)) value rest
value_bytes (Int w) value rest = number_bytes value rest
value_bytes (Nat w) value rest = number_bytes value rest
value_bytes (Bits w) value rest = number_bytes value rest

unit_bytes : (unit : UnitKind) (rest : List Chunk) → text_of (unit_chunk unit ∷ space ∷ rest) ≡ kind_word unit ++ text_of rest
unit_bytes Function rest = refl
unit_bytes Activity rest = refl

result_bytes : (result : Option ScalarType) (rest : List Chunk) → text_of (result_chunks result rest) ≡ result_text result ++ text_of rest
result_bytes None rest = refl
result_bytes (Some of) rest = refl

struct_bytes : (name : List ℕ) (fields : List FaceField) (rest : List Chunk) →
    text_of (item_chunks (item.Struct name fields) rest) ≡ struct_text name fields ++ text_of rest
unfolding struct_text
struct_bytes name fields rest =
    ap (λ (x : List ℕ). codes "struct " ++ (name ++ x))
    (fields_bytes fields (space ∷ word (codes "end") (kind.Word keyword.End) ∷ line rest)
    ∙ sym (append_assoc (fields_text fields) (codes " end\n") (text_of rest)))
    ∙ three (codes "struct ") name (fields_text fields ++ codes " end\n") (text_of rest)

const_bytes : (name : List ℕ) (of : ScalarType) (value : ℤ) (rest : List Chunk) →
    text_of (item_chunks (item.Constant name of value) rest) ≡ constant_text name of value ++ text_of rest
unfolding constant_text constant_front
const_bytes name of value rest =
    ap (λ (x : List ℕ). codes "const " ++ (name ++ (codes ": " ++ (scalar_word of ++ (codes " = " ++ x)))))
    (value_bytes of value (line rest) ∙ sym (append_assoc (value_text of value) (codes "\n") (text_of rest)))
    ∙ ap (λ (x : List ℕ). codes "const " ++ (name ++ x)) (three (codes ": ") (scalar_word of) (codes " = ") end)
    ∙ three (codes "const ") name (codes ": " ++ (scalar_word of ++ codes " = ")) end
    ∙ sym (append_assoc (codes "const " ++ (name ++ (codes ": " ++ (scalar_word of ++ codes " = ")))) (value_text of value ++ codes "\n") (text_of rest))
  where
    end : List ℕ
    end = (value_text of value ++ codes "\n") ++ text_of rest

tail_bytes : (outputs : List FaceField) (result : Option ScalarType) (rest : List Chunk) →
    text_of (mark 40 0 ∷ params_chunks outputs (mark 41 1 ∷ result_chunks result (line rest))) ≡ tail_text outputs result ++ text_of rest
unfolding tail_text
tail_bytes outputs result rest =
    ap (λ (x : List ℕ). codes "(" ++ x)
    (params_bytes outputs (mark 41 1 ∷ result_chunks result (line rest))
    ∙ ap (λ (x : List ℕ). params_from true outputs ++ (codes ")" ++ x))
    (result_bytes result (line rest) ∙ sym (append_assoc (result_text result) (codes "\n") (text_of rest)))
    ∙ three (params_from true outputs) (codes ")") (result_text result ++ codes "\n") (text_of rest))
    ∙ sym (append_assoc (codes "(") (params_from true outputs ++ (codes ")" ++ (result_text result ++ codes "\n"))) (text_of rest))

head_bytes : (unit : UnitKind) (name : List ℕ) (inputs : List FaceField) (rest : List Chunk) →
    text_of (unit_chunk unit ∷ space ∷ word name kind.Name ∷ space ∷ mark 40 0 ∷ params_chunks inputs (mark 41 1 ∷ rest))
    ≡ head_text unit name inputs ++ text_of rest
unfolding head_text
head_bytes unit name inputs rest =
    unit_bytes unit (word name kind.Name ∷ space ∷ mark 40 0 ∷ params_chunks inputs (mark 41 1 ∷ rest))
    ∙ ap (λ (x : List ℕ). kind_word unit ++ (name ++ (codes " (" ++ x))) (params_bytes inputs (mark 41 1 ∷ rest))
    ∙ ap (λ (x : List ℕ). kind_word unit ++ (name ++ x)) (three (codes " (") (params_from true inputs) (codes ")") (text_of rest))
    ∙ three (kind_word unit) name (codes " (" ++ (params_from true inputs ++ codes ")")) (text_of rest)

item_bytes : (it : FaceItem) (rest : List Chunk) → text_of (item_chunks it rest) ≡ item_text it ++ text_of rest
item_bytes (item.Struct name fields) rest = struct_bytes name fields rest
item_bytes (item.Constant name of value) rest = const_bytes name of value rest
item_bytes (item.Head unit name inputs outputs result) rest =
    head_bytes unit name inputs (mark 40 0 ∷ params_chunks outputs (mark 41 1 ∷ result_chunks result (line rest)))
    ∙ ap (λ (x : List ℕ). head_text unit name inputs ++ x) (tail_bytes outputs result rest)
    ∙ sym (append_assoc (head_text unit name inputs) (tail_text outputs result) (text_of rest))

pub items_bytes : (items : List FaceItem) → text_of (items_chunks items) ≡ items_text items
items_bytes [] = refl
items_bytes (it ∷ items) = item_bytes it (items_chunks items) ∙ ap (λ (x : List ℕ). item_text it ++ x) (items_bytes items)
