-- How lexemes spell a face. Each relation says which lexemes are left behind what is spelled.
use Rattle.std.specs.Prelude.{ℕ, ℤ, pos, neg_ℤ, ◌-◌, ◌^◌, min, true, false, List, [], ◌∷◌, Option, Some, None}
use Rattle.bl_tree.specs.declared.scalar.Scalar.{Scalar as ScalarType}
use Rattle.bl_tree.specs.declared.tree.UnitKind.{UnitKind}
use Rattle.bl_face.specs.declared.class.Mark.TheVariants as mark
use Rattle.bl_face.specs.declared.item.FaceBase.TheVariants as base
use Rattle.bl_face.specs.declared.item.FaceField.{FaceField}
use Rattle.bl_face.specs.declared.item.FaceItem.{FaceItem}
use Rattle.bl_face.specs.declared.item.FaceItem.TheVariants as item
use Rattle.bl_face.specs.declared.item.FaceType.{FaceType}
use Rattle.bl_face.specs.Lexemes.{Lexeme}
use Rattle.bl_face.specs.Lexemes.Lexeme.{named, marked}

-- ---- types, fields and parameters

-- a number, or 2^64 where it is greater, as which tokens keep it
abbrev pub kept_number : ℕ → ℕ
kept_number n = min n (2 ^ 64)

-- a length, or 2^32 - 1 where it is greater
abbrev pub kept_length : ℕ → ℕ
kept_length n = min n (2 ^ 32 - 1)

-- a keyword of a scalar type, a struct's name, or a length in brackets and the type of the elements
pub data SpellsType : FaceType → List Lexeme → List Lexeme → Type 0 where
  scalar : {of : ScalarType} {left : List Lexeme} → SpellsType (record { lengths = []; base = base.Scalar of }) (marked (mark.Scalar of) ∷ left) left
  structure : {name : List ℕ} {left : List Lexeme} → SpellsType (record { lengths = []; base = base.Struct name }) (named name ∷ left) left
  array : {n : ℕ} {element : FaceType} {rest left : List Lexeme} → SpellsType element rest left
      → SpellsType (record { lengths = kept_length n ∷ element.lengths; base = element.base })
      (marked mark.OpenBracket ∷ marked (mark.Number n) ∷ marked mark.CloseBracket ∷ rest) left

-- a name, a colon and a type
pub data SpellsField : FaceField → List Lexeme → List Lexeme → Type 0 where
  field : {name : List ℕ} {ty : FaceType} {rest left : List Lexeme} → SpellsType ty rest left
      → SpellsField (record { name = name; ty = ty }) (named name ∷ marked mark.Colon ∷ rest) left

-- fields, each behind `var`, and then `end`
pub data SpellsFields : List FaceField → List Lexeme → List Lexeme → Type 0 where
  none : {left : List Lexeme} → SpellsFields [] (marked mark.End ∷ left) left
  more : {field : FaceField} {fields : List FaceField} {rest between left : List Lexeme} → SpellsField field rest between
      → SpellsFields fields between left → SpellsFields (field ∷ fields) (marked mark.Var ∷ rest) left

-- parameters, each behind a comma, and then `)`
pub data SpellsMore : List FaceField → List Lexeme → List Lexeme → Type 0 where
  none : {left : List Lexeme} → SpellsMore [] (marked mark.CloseParen ∷ left) left
  more : {param : FaceField} {params : List FaceField} {rest between left : List Lexeme} → SpellsField param rest between
      → SpellsMore params between left → SpellsMore (param ∷ params) (marked mark.Comma ∷ rest) left

-- parameters in parentheses, with a comma between each two
pub data SpellsParams : List FaceField → List Lexeme → List Lexeme → Type 0 where
  none : {left : List Lexeme} → SpellsParams [] (marked mark.OpenParen ∷ marked mark.CloseParen ∷ left) left
  some : {param : FaceField} {params : List FaceField} {rest between left : List Lexeme} → SpellsField param rest between
      → SpellsMore params between left → SpellsParams (param ∷ params) (marked mark.OpenParen ∷ rest) left

-- ---- items

-- nothing, or `returns` and a scalar type
pub data SpellsResult : Option ScalarType → List Lexeme → List Lexeme → Type 0 where
  none : {left : List Lexeme} → SpellsResult None left left
  some : {of : ScalarType} {left : List Lexeme} → SpellsResult (Some of) (marked mark.Returns ∷ marked (mark.Scalar of) ∷ left) left

-- `true`, `false`, or a number, maybe behind a minus
pub data SpellsValue : ℤ → List Lexeme → List Lexeme → Type 0 where
  truth : {left : List Lexeme} → SpellsValue (pos 1) (marked (mark.Truth true) ∷ left) left
  falsehood : {left : List Lexeme} → SpellsValue (pos 0) (marked (mark.Truth false) ∷ left) left
  number : {n : ℕ} {left : List Lexeme} → SpellsValue (pos (kept_number n)) (marked (mark.Number n) ∷ left) left
  negative : {n : ℕ} {left : List Lexeme} → SpellsValue (neg_ℤ (pos (kept_number n))) (marked mark.Minus ∷ marked (mark.Number n) ∷ left) left

-- a struct with one or more fields, a constant, or a unit with its inputs, outputs and result
pub data SpellsItem : FaceItem → List Lexeme → List Lexeme → Type 0 where
  structure : {name : List ℕ} {field : FaceField} {fields : List FaceField} {rest left : List Lexeme} → SpellsFields (field ∷ fields) rest left
      → SpellsItem (item.Struct name (field ∷ fields)) (marked mark.Struct ∷ named name ∷ rest) left
  constant : {name : List ℕ} {of : ScalarType} {value : ℤ} {rest left : List Lexeme} → SpellsValue value rest left
      → SpellsItem (item.Constant name of value)
      (marked mark.Const ∷ named name ∷ marked mark.Colon ∷ marked (mark.Scalar of) ∷ marked mark.Assign ∷ rest) left
  unit : {kind : UnitKind} {name : List ℕ} {inputs outputs : List FaceField} {result : Option ScalarType} {rest between behind left : List Lexeme}
      → SpellsParams inputs rest between → SpellsParams outputs between behind → SpellsResult result behind left
      → SpellsItem (item.Head kind name inputs outputs result) (marked (mark.Unit kind) ∷ named name ∷ rest) left

-- the lexemes spell the items, one after another
pub data SpellsItems : List FaceItem → List Lexeme → Type 0 where
  none : SpellsItems [] []
  more : {item : FaceItem} {items : List FaceItem} {rest left : List Lexeme} → SpellsItem item rest left → SpellsItems items left
      → SpellsItems (item ∷ items) rest
