-- What a reader knows behind lexemes that spell a part of a face.
use Rattle.std.proofs.Common.{◌≡◌, ℕ, List, [], ◌∷◌, ◌++◌, refl, ap, sym, ◌∙◌, append_assoc, append-nil}
use Rattle.std.specs.Prelude.{ℤ, Option, Some, None}
use Rattle.bl_tree.specs.declared.scalar.Scalar.{Scalar as ScalarType}
use Rattle.bl_face.specs.declared.item.FaceBase.{FaceBase}
use Rattle.bl_face.specs.declared.item.FaceBase.TheVariants as base
use Rattle.bl_face.specs.declared.item.FaceField.{FaceField}
use Rattle.bl_face.specs.declared.item.FaceItem.{FaceItem}
use Rattle.bl_face.specs.declared.item.FaceItem.TheVariants as item
use Rattle.bl_face.specs.declared.item.FaceType.{FaceType}
use Rattle.bl_face.specs.declared.reader.Reader.{Reader}
use Rattle.bl_face.specs.declared.state.Slot.{Slot}
use Rattle.bl_face.specs.declared.state.Slot.TheVariants.{Field, Input, Output}
use Rattle.bl_face.specs.declared.state.State.{State}
use Rattle.bl_face.specs.declared.state.State.TheVariants as at
use Rattle.bl_face.specs.Lexemes.{Lexeme}
use Rattle.bl_face.specs.Spells.{kept_length, SpellsType, SpellsField, SpellsFields, SpellsMore, SpellsParams, SpellsResult, SpellsValue, SpellsItem}
use Rattle.bl_face.specs.Spells.{SpellsItems}
use Rattle.bl_face.specs.inner.Reader.{with_struct, with_constant, with_head, run, nothing_read}
use Rattle.bl_face.proofs.Accepting.{finish, read}

abbrev in_state : State → Reader → Reader
in_state state r = record r { state = state }

-- no field or parameter is begun
abbrev tidy : State → Reader → Reader
tidy state r = record r { state = state; part = []; lengths = [] }

-- with the field or parameter of this type
abbrev part_read : Slot → Reader → List ℕ → FaceBase → Reader
part_read slot r lengths base =
    tidy (at.TypeEnd slot) (record r { parts = r.parts ++ record { name = r.part; ty = record { lengths = lengths; base = base } } ∷ [] })

abbrev with_parts : Reader → List FaceField → Reader
with_parts r parts = record r { parts = parts }

abbrev part_added : Slot → Reader → FaceField → Reader
part_added slot r field = tidy (at.TypeEnd slot) (with_parts r (r.parts ++ field ∷ []))

type_runs : (slot : Slot) (r : Reader) {ty : FaceType} {whole left : List Lexeme} → SpellsType ty whole left →
    run (Some (in_state (at.Type slot) r)) whole ≡ run (Some (part_read slot r (r.lengths ++ ty.lengths) ty.base)) left
type_runs slot r (SpellsType.scalar {of} {left}) = ap (λ ls. run (Some (part_read slot r ls (base.Scalar of))) left) (sym (append-nil r.lengths))
type_runs slot r (SpellsType.structure {name} {left}) = ap (λ ls. run (Some (part_read slot r ls (base.Struct name))) left) (sym (append-nil r.lengths))
type_runs slot r (SpellsType.array {n} {element} {rest} {left} spelled) =
    type_runs slot (record r { lengths = r.lengths ++ kept_length n ∷ [] }) spelled
    ∙ ap (λ ls. run (Some (part_read slot r ls element.base)) left) (append_assoc r.lengths (kept_length n ∷ []) element.lengths)

field_runs : (slot : Slot) (r : Reader) {field : FaceField} {whole left : List Lexeme} → SpellsField field whole left →
    run (Some (in_state (at.Part slot) r)) whole ≡ run (Some (part_added slot r field)) left
field_runs slot r (SpellsField.field {name} spelled) = type_runs slot (record r { part = name; lengths = [] }) spelled

first_input : (r : Reader) {field : FaceField} {whole left : List Lexeme} → SpellsField field whole left →
    run (Some (in_state (at.First Input) r)) whole ≡ run (Some (part_added Input r field)) left
first_input r (SpellsField.field {name} spelled) = type_runs Input (record r { part = name; lengths = [] }) spelled

first_output : (r : Reader) {field : FaceField} {whole left : List Lexeme} → SpellsField field whole left →
    run (Some (in_state (at.First Output) r)) whole ≡ run (Some (part_added Output r field)) left
first_output r (SpellsField.field {name} spelled) = type_runs Output (record r { part = name; lengths = [] }) spelled

-- ---- lists of fields and parameters

assoc_parts : (r : Reader) (field : FaceField) (fields : List FaceField) → (r.parts ++ field ∷ []) ++ fields ≡ r.parts ++ field ∷ fields
assoc_parts r field fields = append_assoc r.parts (field ∷ []) fields

fields_run : (r : Reader) {fields : List FaceField} {whole left : List Lexeme} → SpellsFields fields whole left →
    run (Some (tidy (at.TypeEnd Field) r)) whole ≡ run (Some (tidy at.Items (with_struct (with_parts r (r.parts ++ fields))))) left
fields_run r (SpellsFields.none {left}) =
    ap (λ ps. run (Some (tidy at.Items (with_struct (with_parts r ps)))) left) (sym (append-nil r.parts))
fields_run r (SpellsFields.more {field} {fields} {rest} {between} {left} one others) =
    field_runs Field (tidy at.Items r) one
    ∙ fields_run (with_parts r (r.parts ++ field ∷ [])) others
    ∙ ap (λ ps. run (Some (tidy at.Items (with_struct (with_parts r ps)))) left) (assoc_parts r field fields)

-- with these inputs
abbrev with_given : Reader → List FaceField → Reader
with_given r inputs = record r { inputs = inputs; parts = [] }

inputs_run : (r : Reader) {params : List FaceField} {whole left : List Lexeme} → SpellsMore params whole left →
    run (Some (tidy (at.TypeEnd Input) r)) whole ≡ run (Some (tidy (at.Params Output) (with_given r (r.parts ++ params)))) left
inputs_run r (SpellsMore.none {left}) =
    ap (λ ps. run (Some (tidy (at.Params Output) (with_given r ps))) left) (sym (append-nil r.parts))
inputs_run r (SpellsMore.more {param} {params} {rest} {between} {left} one others) =
    field_runs Input (tidy at.Items r) one
    ∙ inputs_run (with_parts r (r.parts ++ param ∷ [])) others
    ∙ ap (λ ps. run (Some (tidy (at.Params Output) (with_given r ps))) left) (assoc_parts r param params)

outputs_run : (r : Reader) {params : List FaceField} {whole left : List Lexeme} → SpellsMore params whole left →
    run (Some (tidy (at.TypeEnd Output) r)) whole ≡ run (Some (tidy at.Outputs (with_parts r (r.parts ++ params)))) left
outputs_run r (SpellsMore.none {left}) =
    ap (λ ps. run (Some (tidy at.Outputs (with_parts r ps))) left) (sym (append-nil r.parts))
outputs_run r (SpellsMore.more {param} {params} {rest} {between} {left} one others) =
    field_runs Output (tidy at.Items r) one
    ∙ outputs_run (with_parts r (r.parts ++ param ∷ [])) others
    ∙ ap (λ ps. run (Some (tidy at.Outputs (with_parts r ps))) left) (assoc_parts r param params)

all_inputs : (r : Reader) {params : List FaceField} {whole left : List Lexeme} → SpellsParams params whole left →
    run (Some (tidy (at.Params Input) (with_parts r []))) whole ≡ run (Some (tidy (at.Params Output) (with_given r params))) left
all_inputs r SpellsParams.none = refl
all_inputs r (SpellsParams.some {param} one others) = first_input (tidy at.Items (with_parts r [])) one ∙ inputs_run (with_parts r (param ∷ [])) others

all_outputs : (r : Reader) {params : List FaceField} {whole left : List Lexeme} → SpellsParams params whole left →
    run (Some (tidy (at.Params Output) (with_parts r []))) whole ≡ run (Some (tidy at.Outputs (with_parts r params))) left
all_outputs r SpellsParams.none = refl
all_outputs r (SpellsParams.some {param} one others) = first_output (tidy at.Items (with_parts r [])) one ∙ outputs_run (with_parts r (param ∷ [])) others

-- ---- items

-- a unit without a result ends where the next item begins, or with the text
without_result : (r : Reader) {items : List FaceItem} {left : List Lexeme} → SpellsItems items left →
    read (Some (tidy at.Outputs r)) left ≡ read (Some (tidy at.Items (with_head r None))) left
without_result r SpellsItems.none = refl
without_result r (SpellsItems.more (SpellsItem.structure fields) rest) = refl
without_result r (SpellsItems.more (SpellsItem.constant value) rest) = refl
without_result r (SpellsItems.more (SpellsItem.unit inputs outputs result) rest) = refl

result_read : (r : Reader) {result : Option ScalarType} {whole left : List Lexeme} {items : List FaceItem} → SpellsResult result whole left →
    SpellsItems items left → read (Some (tidy at.Outputs r)) whole ≡ read (Some (tidy at.Items (with_head r result))) left
result_read r SpellsResult.none rest = without_result r rest
result_read r SpellsResult.some rest = refl

-- a reader that stands before items ends with them
abbrev ReadsAll : List FaceItem → List Lexeme → Type 0
ReadsAll items left = (r : Reader) → read (Some (tidy at.Items r)) left ≡ Some (r.items ++ items)

one_item : (r : Reader) (item : FaceItem) (items : List FaceItem) →
    ◌≡◌ {A = Option (List FaceItem)} (Some ((r.items ++ item ∷ []) ++ items)) (Some (r.items ++ item ∷ items))
one_item r item items = ap (λ (is : List FaceItem). Some is) (append_assoc r.items (item ∷ []) items)

value_read : (r : Reader) {value : ℤ} {whole left : List Lexeme} → SpellsValue value whole left →
    read (Some (tidy at.Value r)) whole ≡ read (Some (tidy at.Items (with_constant r value))) left
value_read r SpellsValue.truth = refl
value_read r SpellsValue.falsehood = refl
value_read r SpellsValue.number = refl
value_read r SpellsValue.negative = refl

item_read : (r : Reader) {item : FaceItem} {items : List FaceItem} {whole left : List Lexeme} → SpellsItem item whole left →
    SpellsItems items left → ReadsAll items left → read (Some (tidy at.Items r)) whole ≡ Some (r.items ++ item ∷ items)
item_read r {items = items} (SpellsItem.structure {name} {field} {fields} (SpellsFields.more one others)) rest reads =
    ap finish (field_runs Field (tidy at.Items (record r { name = name; parts = [] })) one
    ∙ fields_run (record r { name = name; parts = field ∷ [] }) others)
    ∙ reads (with_struct (record r { name = name; parts = field ∷ fields }))
    ∙ one_item r (item.Struct name (field ∷ fields)) items
item_read r {items = items} (SpellsItem.constant {name} {of} {value} spelled) rest reads =
    value_read (record r { name = name; parts = []; scalar = of }) spelled
    ∙ reads (with_constant (record r { name = name; parts = []; scalar = of }) value)
    ∙ one_item r (item.Constant name of value) items
item_read r {items = items} (SpellsItem.unit {kind} {name} {inputs} {outputs} {result} ins outs gives) rest reads =
    ap finish (all_inputs (record r { kind = kind; name = name; parts = [] }) ins
    ∙ all_outputs (record r { kind = kind; name = name; inputs = inputs; parts = [] }) outs)
    ∙ result_read (record r { kind = kind; name = name; inputs = inputs; parts = outputs }) gives rest
    ∙ reads (with_head (record r { kind = kind; name = name; inputs = inputs; parts = outputs }) result)
    ∙ one_item r (item.Head kind name inputs outputs result) items

items_read : {items : List FaceItem} {whole : List Lexeme} → SpellsItems items whole → ReadsAll items whole
items_read SpellsItems.none r = ap (λ (is : List FaceItem). Some is) (sym (append-nil r.items))
items_read (SpellsItems.more one rest) r = item_read r one rest (items_read rest)

-- what spells items is read as them
pub all_read : {items : List FaceItem} {whole : List Lexeme} → SpellsItems items whole → read (Some nothing_read) whole ≡ Some items
all_read spelled = items_read spelled nothing_read
