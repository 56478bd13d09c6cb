-- Lexemes that may follow one another up to an end spell the rest of a face.
use Rattle.std.proofs.Common.{◌≡◌, ℕ, Bool, true, false, List, [], ◌∷◌}
use Rattle.std.specs.Prelude.{ℤ, Option, Some, None, ⊤}
use Rattle.bl_tree.proofs.Basics.{from_false}
use Rattle.bl_tree.specs.declared.scalar.Scalar.{Scalar as ScalarType}
use Rattle.bl_tree.specs.declared.tree.UnitKind.{UnitKind}
use Rattle.bl_face.specs.declared.class.Mark.TheVariants as mark
use Rattle.bl_face.specs.declared.item.FaceField.{FaceField}
use Rattle.bl_face.specs.declared.item.FaceItem.{FaceItem}
use Rattle.bl_face.specs.declared.item.FaceItem.TheVariants as item
use Rattle.bl_face.specs.declared.item.FaceType.{FaceType}
use Rattle.bl_face.specs.declared.state.Slot.{Slot}
use Rattle.bl_face.specs.declared.state.Slot.TheVariants.{Field, Input, Output}
use Rattle.bl_face.specs.declared.state.State.{State}
use Rattle.bl_face.specs.declared.state.State.TheVariants as at
use Rattle.bl_face.specs.Lexemes.{Lexeme}
use Rattle.bl_face.specs.Lexemes.Lexeme.{named, marked}
use Rattle.bl_face.specs.Spells.{kept_length, SpellsType, SpellsField, SpellsFields, SpellsMore, SpellsParams, SpellsResult, SpellsValue, SpellsItem}
use Rattle.bl_face.specs.Spells.{SpellsItems}
use Rattle.bl_face.proofs.Accepting.{accepts}

-- ---- what is left to be spelled, by what was read last

record Items (whole : List Lexeme) : Type 0 where
  items : List FaceItem
  spelled : SpellsItems items whole

record Item (whole : List Lexeme) : Type 0 where
  item : FaceItem
  left : List Lexeme
  spelled : SpellsItem item whole left
  rest : Items left

record Result (whole : List Lexeme) : Type 0 where
  result : Option ScalarType
  left : List Lexeme
  spelled : SpellsResult result whole left
  rest : Items left

record Fields (whole : List Lexeme) : Type 0 where
  fields : List FaceField
  left : List Lexeme
  spelled : SpellsFields fields whole left
  rest : Items left

record FirstField (whole : List Lexeme) : Type 0 where
  field : FaceField
  fields : List FaceField
  left : List Lexeme
  spelled : SpellsFields (field ∷ fields) whole left
  rest : Items left

record MoreOutputs (whole : List Lexeme) : Type 0 where
  params : List FaceField
  left : List Lexeme
  spelled : SpellsMore params whole left
  rest : Result left

record Outputs (whole : List Lexeme) : Type 0 where
  params : List FaceField
  left : List Lexeme
  spelled : SpellsParams params whole left
  rest : Result left

record MoreInputs (whole : List Lexeme) : Type 0 where
  params : List FaceField
  left : List Lexeme
  spelled : SpellsMore params whole left
  rest : Outputs left

record Inputs (whole : List Lexeme) : Type 0 where
  params : List FaceField
  left : List Lexeme
  spelled : SpellsParams params whole left
  rest : Outputs left

abbrev Behind : Slot → List Lexeme → Type 0
Behind Field whole = Fields whole
Behind Input whole = MoreInputs whole
Behind Output whole = MoreOutputs whole

record Typed (slot : Slot) (whole : List Lexeme) : Type 0 where
  ty : FaceType
  left : List Lexeme
  spelled : SpellsType ty whole left
  rest : Behind slot left

record Part (slot : Slot) (whole : List Lexeme) : Type 0 where
  field : FaceField
  left : List Lexeme
  spelled : SpellsField field whole left
  rest : Behind slot left

record PartName (slot : Slot) (whole : List Lexeme) : Type 0 where
  ty : FaceType
  left : List Lexeme
  spelled : (name : List ℕ) → SpellsField (record { name = name; ty = ty }) (named name ∷ whole) left
  rest : Behind slot left

record LengthEnd (slot : Slot) (whole : List Lexeme) : Type 0 where
  element : FaceType
  left : List Lexeme
  spelled : (n : ℕ) → SpellsType (record { lengths = kept_length n ∷ element.lengths; base = element.base })
      (marked mark.OpenBracket ∷ marked (mark.Number n) ∷ whole) left
  rest : Behind slot left

record Unit (whole : List Lexeme) : Type 0 where
  name : List ℕ
  inputs : List FaceField
  outputs : List FaceField
  result : Option ScalarType
  left : List Lexeme
  spelled : (kind : UnitKind) → SpellsItem (item.Head kind name inputs outputs result) (marked (mark.Unit kind) ∷ whole) left
  rest : Items left

record Value (whole : List Lexeme) : Type 0 where
  value : ℤ
  left : List Lexeme
  spelled : SpellsValue value whole left
  rest : Items left

record Constant (whole : List Lexeme) : Type 0 where
  of : ScalarType
  value : ℤ
  left : List Lexeme
  spelled : (name : List ℕ) → SpellsItem (item.Constant name of value) (marked mark.Const ∷ named name ∷ whole) left
  rest : Items left

record ConstType (whole : List Lexeme) : Type 0 where
  of : ScalarType
  value : ℤ
  left : List Lexeme
  spelled : (name : List ℕ) → SpellsItem (item.Constant name of value) (marked mark.Const ∷ named name ∷ marked mark.Colon ∷ whole) left
  rest : Items left

record ConstTypeEnd (whole : List Lexeme) : Type 0 where
  value : ℤ
  left : List Lexeme
  spelled : (name : List ℕ) (of : ScalarType) →
      SpellsItem (item.Constant name of value) (marked mark.Const ∷ named name ∷ marked mark.Colon ∷ marked (mark.Scalar of) ∷ whole) left
  rest : Items left

abbrev First : Slot → List Lexeme → Type 0
First Field whole = FirstField whole
First Input whole = Inputs (marked mark.OpenParen ∷ whole)
First Output whole = Outputs (marked mark.OpenParen ∷ whole)

abbrev Params : Slot → List Lexeme → Type 0
Params Field whole = ⊤
Params Input whole = Inputs whole
Params Output whole = Outputs whole

abbrev Rest : State → List Lexeme → Type 0
Rest at.Items whole = Items whole
Rest at.Struct whole = Item (marked mark.Struct ∷ whole)
Rest at.Unit whole = Unit whole
Rest (at.Params slot) whole = Params slot whole
Rest (at.First slot) whole = First slot whole
Rest (at.Part slot) whole = Part slot whole
Rest (at.PartName slot) whole = PartName slot whole
Rest (at.Type slot) whole = Typed slot whole
Rest (at.Length slot) whole = Typed slot (marked mark.OpenBracket ∷ whole)
Rest (at.LengthEnd slot) whole = LengthEnd slot whole
Rest (at.TypeEnd slot) whole = Behind slot whole
Rest at.Outputs whole = Result whole
Rest at.Returns whole = Result (marked mark.Returns ∷ whole)
Rest at.Const whole = Item (marked mark.Const ∷ whole)
Rest at.ConstName whole = Constant whole
Rest at.ConstType whole = ConstType whole
Rest at.ConstTypeEnd whole = ConstTypeEnd whole
Rest at.Value whole = Value whole
Rest at.Minus whole = Value (marked mark.Minus ∷ whole)

-- ---- one lexeme more

begin_items : {whole : List Lexeme} → Item whole → Items whole
begin_items h = record { items = h.item ∷ h.rest.items; spelled = SpellsItems.more h.spelled h.rest.spelled }

no_result : {whole : List Lexeme} → Items whole → Result whole
no_result h = record { result = None; left = _; spelled = SpellsResult.none; rest = h }

unit_item : (kind : UnitKind) {whole : List Lexeme} → Unit whole → Item (marked (mark.Unit kind) ∷ whole)
unit_item kind h = record { item = _; left = h.left; spelled = h.spelled kind; rest = h.rest }

struct_item : (name : List ℕ) {whole : List Lexeme} → FirstField whole → Item (marked mark.Struct ∷ named name ∷ whole)
struct_item name h = record { item = item.Struct name (h.field ∷ h.fields); left = h.left; spelled = SpellsItem.structure h.spelled; rest = h.rest }

const_item : (name : List ℕ) {whole : List Lexeme} → Constant whole → Item (marked mark.Const ∷ named name ∷ whole)
const_item name h = record { item = _; left = h.left; spelled = h.spelled name; rest = h.rest }

named_unit : (name : List ℕ) {whole : List Lexeme} → Inputs whole → Unit (named name ∷ whole)
named_unit name h = record {
  name = name;
  inputs = h.params;
  outputs = h.rest.params;
  result = h.rest.rest.result;
  left = h.rest.rest.left;
  spelled = λ kind. SpellsItem.unit h.spelled h.rest.spelled h.rest.rest.spelled;
  rest = h.rest.rest.rest;
}

first_field : {whole : List Lexeme} → Part Field whole → FirstField (marked mark.Var ∷ whole)
first_field h = record { field = h.field; fields = h.rest.fields; left = h.rest.left; spelled = SpellsFields.more h.spelled h.rest.spelled; rest = h.rest.rest }

more_fields : {whole : List Lexeme} → Part Field whole → Fields (marked mark.Var ∷ whole)
more_fields h = record { fields = h.field ∷ h.rest.fields; left = h.rest.left; spelled = SpellsFields.more h.spelled h.rest.spelled; rest = h.rest.rest }

no_fields : {whole : List Lexeme} → Items whole → Fields (marked mark.End ∷ whole)
no_fields h = record { fields = []; left = _; spelled = SpellsFields.none; rest = h }

more_inputs : {whole : List Lexeme} → Part Input whole → MoreInputs (marked mark.Comma ∷ whole)
more_inputs h = record { params = h.field ∷ h.rest.params; left = h.rest.left; spelled = SpellsMore.more h.spelled h.rest.spelled; rest = h.rest.rest }

no_inputs : {whole : List Lexeme} → Outputs whole → MoreInputs (marked mark.CloseParen ∷ whole)
no_inputs h = record { params = []; left = _; spelled = SpellsMore.none; rest = h }

more_outputs : {whole : List Lexeme} → Part Output whole → MoreOutputs (marked mark.Comma ∷ whole)
more_outputs h = record { params = h.field ∷ h.rest.params; left = h.rest.left; spelled = SpellsMore.more h.spelled h.rest.spelled; rest = h.rest.rest }

no_outputs : {whole : List Lexeme} → Result whole → MoreOutputs (marked mark.CloseParen ∷ whole)
no_outputs h = record { params = []; left = _; spelled = SpellsMore.none; rest = h }

named_part : (slot : Slot) (name : List ℕ) {whole : List Lexeme} → PartName slot whole → Part slot (named name ∷ whole)
named_part slot name h = record { field = _; left = h.left; spelled = h.spelled name; rest = h.rest }

some_inputs : {whole : List Lexeme} → Part Input whole → Inputs (marked mark.OpenParen ∷ whole)
some_inputs h = record { params = h.field ∷ h.rest.params; left = h.rest.left; spelled = SpellsParams.some h.spelled h.rest.spelled; rest = h.rest.rest }

some_outputs : {whole : List Lexeme} → Part Output whole → Outputs (marked mark.OpenParen ∷ whole)
some_outputs h = record { params = h.field ∷ h.rest.params; left = h.rest.left; spelled = SpellsParams.some h.spelled h.rest.spelled; rest = h.rest.rest }

typed_part : (slot : Slot) {whole : List Lexeme} → Typed slot whole → PartName slot (marked mark.Colon ∷ whole)
typed_part slot h = record { ty = h.ty; left = h.left; spelled = λ name. SpellsField.field h.spelled; rest = h.rest }

scalar_type : (slot : Slot) (of : ScalarType) {whole : List Lexeme} → Behind slot whole → Typed slot (marked (mark.Scalar of) ∷ whole)
scalar_type slot of h = record { ty = _; left = _; spelled = SpellsType.scalar; rest = h }

struct_type : (slot : Slot) (name : List ℕ) {whole : List Lexeme} → Behind slot whole → Typed slot (named name ∷ whole)
struct_type slot name h = record { ty = _; left = _; spelled = SpellsType.structure; rest = h }

array_type : (slot : Slot) (n : ℕ) {whole : List Lexeme} → LengthEnd slot whole → Typed slot (marked mark.OpenBracket ∷ marked (mark.Number n) ∷ whole)
array_type slot n h = record { ty = _; left = h.left; spelled = h.spelled n; rest = h.rest }

element_type : (slot : Slot) {whole : List Lexeme} → Typed slot whole → LengthEnd slot (marked mark.CloseBracket ∷ whole)
element_type slot h = record { element = h.ty; left = h.left; spelled = λ n. SpellsType.array h.spelled; rest = h.rest }

given : (of : ScalarType) {whole : List Lexeme} → Items whole → Result (marked mark.Returns ∷ marked (mark.Scalar of) ∷ whole)
given of h = record { result = Some of; left = _; spelled = SpellsResult.some; rest = h }

const_type : {whole : List Lexeme} → ConstType whole → Constant (marked mark.Colon ∷ whole)
const_type h = record { of = h.of; value = h.value; left = h.left; spelled = h.spelled; rest = h.rest }

const_scalar : (of : ScalarType) {whole : List Lexeme} → ConstTypeEnd whole → ConstType (marked (mark.Scalar of) ∷ whole)
const_scalar of h = record { of = of; value = h.value; left = h.left; spelled = λ name. h.spelled name of; rest = h.rest }

assigned : {whole : List Lexeme} → Value whole → ConstTypeEnd (marked mark.Assign ∷ whole)
assigned h = record { value = h.value; left = h.left; spelled = λ name of. SpellsItem.constant h.spelled; rest = h.rest }

truth : (b : Bool) {whole : List Lexeme} → Items whole → Value (marked (mark.Truth b) ∷ whole)
truth true h = record { value = _; left = _; spelled = SpellsValue.truth; rest = h }
truth false h = record { value = _; left = _; spelled = SpellsValue.falsehood; rest = h }

number : (n : ℕ) {whole : List Lexeme} → Items whole → Value (marked (mark.Number n) ∷ whole)
number n h = record { value = _; left = _; spelled = SpellsValue.number; rest = h }

negative : (n : ℕ) {whole : List Lexeme} → Items whole → Value (marked mark.Minus ∷ marked (mark.Number n) ∷ whole)
negative n h = record { value = _; left = _; spelled = SpellsValue.negative; rest = h }

-- ---- by states

module _ (rest : List Lexeme) (behind : (state : State) → accepts state rest ≡ true → Rest state rest) where
  abbrev Goes : State → Lexeme → Type 0
  Goes state l = accepts state (l ∷ rest) ≡ true → Rest state (l ∷ rest)

  items : (l : Lexeme) → Goes at.Items l
  items (marked mark.Struct) e = begin_items (behind at.Struct e)
  items (marked mark.Const) e = begin_items (behind at.Const e)
  items (marked (mark.Unit kind)) e = begin_items (unit_item kind (behind at.Unit e))
  items (named name) e = from_false e
  items (marked _) e = from_false e

  outputs : (l : Lexeme) → Goes at.Outputs l
  outputs (marked mark.Returns) e = behind at.Returns e
  outputs (marked mark.Struct) e = no_result (begin_items (behind at.Struct e))
  outputs (marked mark.Const) e = no_result (begin_items (behind at.Const e))
  outputs (marked (mark.Unit kind)) e = no_result (begin_items (unit_item kind (behind at.Unit e)))
  outputs (named name) e = from_false e
  outputs (marked _) e = from_false e

  structure : (l : Lexeme) → Goes at.Struct l
  structure (named name) e = struct_item name (behind (at.First Field) e)
  structure (marked m) e = from_false e

  constant : (l : Lexeme) → Goes at.Const l
  constant (named name) e = const_item name (behind at.ConstName e)
  constant (marked m) e = from_false e

  unit : (l : Lexeme) → Goes at.Unit l
  unit (named name) e = named_unit name (behind (at.Params Input) e)
  unit (marked m) e = from_false e

  params : (slot : Slot) (l : Lexeme) → Goes (at.Params slot) l
  params Field l e = tt
  params Input (marked mark.OpenParen) e = behind (at.First Input) e
  params Input (named name) e = from_false e
  params Input (marked _) e = from_false e
  params Output (marked mark.OpenParen) e = behind (at.First Output) e
  params Output (named name) e = from_false e
  params Output (marked _) e = from_false e

  first : (slot : Slot) (l : Lexeme) → Goes (at.First slot) l
  first Field (marked mark.Var) e = first_field (behind (at.Part Field) e)
  first Field (named name) e = from_false e
  first Field (marked _) e = from_false e
  first Input (named name) e = some_inputs (named_part Input name (behind (at.PartName Input) e))
  first Input (marked mark.CloseParen) e = let h : Outputs rest = behind (at.Params Output) e in
      record { params = []; left = _; spelled = SpellsParams.none; rest = h }
  first Input (marked _) e = from_false e
  first Output (named name) e = some_outputs (named_part Output name (behind (at.PartName Output) e))
  first Output (marked mark.CloseParen) e = let h : Result rest = behind at.Outputs e in
      record { params = []; left = _; spelled = SpellsParams.none; rest = h }
  first Output (marked _) e = from_false e

  part : (slot : Slot) (l : Lexeme) → Goes (at.Part slot) l
  part slot (named name) e = named_part slot name (behind (at.PartName slot) e)
  part slot (marked m) e = from_false e

  part_name : (slot : Slot) (l : Lexeme) → Goes (at.PartName slot) l
  part_name slot (marked mark.Colon) e = typed_part slot (behind (at.Type slot) e)
  part_name slot (named name) e = from_false e
  part_name slot (marked _) e = from_false e

  typed : (slot : Slot) (l : Lexeme) → Goes (at.Type slot) l
  typed slot (named name) e = struct_type slot name (behind (at.TypeEnd slot) e)
  typed slot (marked (mark.Scalar of)) e = scalar_type slot of (behind (at.TypeEnd slot) e)
  typed slot (marked mark.OpenBracket) e = behind (at.Length slot) e
  typed slot (marked _) e = from_false e

  length : (slot : Slot) (l : Lexeme) → Goes (at.Length slot) l
  length slot (marked (mark.Number n)) e = array_type slot n (behind (at.LengthEnd slot) e)
  length slot (named name) e = from_false e
  length slot (marked _) e = from_false e

  length_end : (slot : Slot) (l : Lexeme) → Goes (at.LengthEnd slot) l
  length_end slot (marked mark.CloseBracket) e = element_type slot (behind (at.Type slot) e)
  length_end slot (named name) e = from_false e
  length_end slot (marked _) e = from_false e

  type_end : (slot : Slot) (l : Lexeme) → Goes (at.TypeEnd slot) l
  type_end Field (marked mark.Var) e = more_fields (behind (at.Part Field) e)
  type_end Field (marked mark.End) e = no_fields (behind at.Items e)
  type_end Field (named name) e = from_false e
  type_end Field (marked _) e = from_false e
  type_end Input (marked mark.Comma) e = more_inputs (behind (at.Part Input) e)
  type_end Input (marked mark.CloseParen) e = no_inputs (behind (at.Params Output) e)
  type_end Input (named name) e = from_false e
  type_end Input (marked _) e = from_false e
  type_end Output (marked mark.Comma) e = more_outputs (behind (at.Part Output) e)
  type_end Output (marked mark.CloseParen) e = no_outputs (behind at.Outputs e)
  type_end Output (named name) e = from_false e
  type_end Output (marked _) e = from_false e

  returns : (l : Lexeme) → Goes at.Returns l
  returns (marked (mark.Scalar of)) e = given of (behind at.Items e)
  returns (named name) e = from_false e
  returns (marked _) e = from_false e

  const_name : (l : Lexeme) → Goes at.ConstName l
  const_name (marked mark.Colon) e = const_type (behind at.ConstType e)
  const_name (named name) e = from_false e
  const_name (marked _) e = from_false e

  const_typed : (l : Lexeme) → Goes at.ConstType l
  const_typed (marked (mark.Scalar of)) e = const_scalar of (behind at.ConstTypeEnd e)
  const_typed (named name) e = from_false e
  const_typed (marked _) e = from_false e

  const_end : (l : Lexeme) → Goes at.ConstTypeEnd l
  const_end (marked mark.Assign) e = assigned (behind at.Value e)
  const_end (named name) e = from_false e
  const_end (marked _) e = from_false e

  value : (l : Lexeme) → Goes at.Value l
  value (marked (mark.Truth b)) e = truth b (behind at.Items e)
  value (marked (mark.Number n)) e = number n (behind at.Items e)
  value (marked mark.Minus) e = behind at.Minus e
  value (named name) e = from_false e
  value (marked _) e = from_false e

  minus : (l : Lexeme) → Goes at.Minus l
  minus (marked (mark.Number n)) e = negative n (behind at.Items e)
  minus (named name) e = from_false e
  minus (marked _) e = from_false e

  by_state : (state : State) (l : Lexeme) → Goes state l
  by_state at.Items = items
  by_state at.Struct = structure
  by_state at.Unit = unit
  by_state (at.Params slot) = params slot
  by_state (at.First slot) = first slot
  by_state (at.Part slot) = part slot
  by_state (at.PartName slot) = part_name slot
  by_state (at.Type slot) = typed slot
  by_state (at.Length slot) = length slot
  by_state (at.LengthEnd slot) = length_end slot
  by_state (at.TypeEnd slot) = type_end slot
  by_state at.Outputs = outputs
  by_state at.Returns = returns
  by_state at.Const = constant
  by_state at.ConstName = const_name
  by_state at.ConstType = const_typed
  by_state at.ConstTypeEnd = const_end
  by_state at.Value = value
  by_state at.Minus = minus

none_left : Items []
none_left = record { items = []; spelled = SpellsItems.none }

at_end : (state : State) → accepts state [] ≡ true → Rest state []
at_end at.Items e = none_left
at_end at.Outputs e = no_result none_left
at_end _ e = from_false e

rest_of : (state : State) (whole : List Lexeme) → accepts state whole ≡ true → Rest state whole
rest_of state [] = at_end state
rest_of state (l ∷ rest) = by_state rest (λ behind. rest_of behind rest) state l

pub accepted_spells : (whole : List Lexeme) → accepts at.Items whole ≡ true → (items : List FaceItem) × SpellsItems items whole
accepted_spells whole e = let h : Items whole = rest_of at.Items whole e in (h.items, h.spelled)
