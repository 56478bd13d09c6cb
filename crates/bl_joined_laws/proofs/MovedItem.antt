-- What tokens of a text spell, the moved tokens spell in the whole, with moved places: items.
use Rattle.std.proofs.Common.{◌≡◌, ℕ, ◌+◌, Bool, List, [], ◌∷◌, ◌++◌, map, refl, ap, sym, ◌∙◌, subst, arith, append_assoc, append-nil}
use Rattle.std.specs.Prelude.{Option, option_map}
use Rattle.bl_tree.specs.declared.place.Place.{Place}
use Rattle.bl_tree.specs.declared.token.Token.{Token}
use Rattle.bl_tree.specs.declared.tree.UnitKind.{UnitKind}
use Rattle.bl_parse_tree.specs.declared.item.RawField.{RawField}
use Rattle.bl_parse_tree.specs.declared.item.RawItem.{RawItem}
use Rattle.bl_parse_tree.specs.declared.item.RawParam.{RawParam}
use Rattle.bl_parse_tree.specs.declared.item.RawStruct.{RawStruct}
use Rattle.bl_parse_tree.specs.declared.item.RawUnit.{RawUnit}
use Rattle.bl_parse_tree.specs.declared.types.RawType.{RawType}
use Rattle.bl_parse.specs.Programs.{SpellsField, SpellsFieldList, SpellsStruct, SpellsMark, SpellsUnitKind, SpellsParam, SpellsParamList, SpellsParams}
use Rattle.bl_parse.specs.Programs.{SpellsOutputParams, SpellsResult, SpellsUnit, SpellsItem, SpellsItems}
use Rattle.bl_joined.specs.Texts.{moved_place}
use Rattle.bl_joined.specs.Trees.{placed_type, placed_field, placed_struct, placed_param, placed_unit, placed_item}
use Rattle.bl_joined_laws.proofs.Moved.{Stands, mapped_more, name, stay, takes}
use Rattle.bl_joined_laws.proofs.MovedExpr.{ty}
use Rattle.bl_joined_laws.proofs.MovedStmt.{block, constant, typing}

module _ {text whole : List ℕ} {tokens all : List Token} {n d : ℕ} (h : Stands text whole tokens all n d) where
  abbrev f : Place → Place
  f = moved_place n

  field : {one : RawField} {from to : ℕ} → SpellsField text tokens one from to → SpellsField whole all (placed_field f one) (d + from) (d + to)
  field s = record { m = _; n = _; word = takes h s.word; name = name h s.name; ty = typing h s.ty }

  fields : {list : List RawField} {from to : ℕ} → SpellsFieldList text tokens list from to →
      SpellsFieldList whole all (map (placed_field f) list) (d + from) (d + to)
  fields (SpellsFieldList.first one is) = SpellsFieldList.first (field one) (ap (map (placed_field f)) is)
  fields (SpellsFieldList.more others one is) = SpellsFieldList.more (fields others) (field one) (mapped_more (placed_field f) _ _ is)

  structure : {def : RawStruct} {from to : ℕ} → SpellsStruct text tokens def from to → SpellsStruct whole all (placed_struct f def) (d + from) (d + to)
  structure s = record { m = _; n = _; o = _; word = takes h s.word; name = name h s.name; fields = fields s.fields; end = takes h s.end }

  mark : {entry : Bool} {from to : ℕ} → SpellsMark tokens entry from to → SpellsMark all entry (d + from) (d + to)
  mark (SpellsMark.absent off is) = SpellsMark.absent off (stay h is)
  mark (SpellsMark.written on at opens one closes) = SpellsMark.written on (takes h at) (takes h opens) (takes h one) (takes h closes)

  unit_kind : {kind : UnitKind} {from to : ℕ} → SpellsUnitKind tokens kind from to → SpellsUnitKind all kind (d + from) (d + to)
  unit_kind s = record { word = s.word; token = takes h s.token; is = s.is }

  param : {one : RawParam} {from to : ℕ} → SpellsParam text tokens one from to → SpellsParam whole all (placed_param f one) (d + from) (d + to)
  param s = record { m = _; name = name h s.name; ty = typing h s.ty }

  param_list : {list : List RawParam} {from to : ℕ} → SpellsParamList text tokens list from to →
      SpellsParamList whole all (map (placed_param f) list) (d + from) (d + to)
  param_list (SpellsParamList.first one is) = SpellsParamList.first (param one) (ap (map (placed_param f)) is)
  param_list (SpellsParamList.more others comma one is) =
      SpellsParamList.more (param_list others) (takes h comma) (param one) (mapped_more (placed_param f) _ _ is)

  params : {list : List RawParam} {from to : ℕ} → SpellsParams text tokens list from to →
      SpellsParams whole all (map (placed_param f) list) (d + from) (d + to)
  params (SpellsParams.none opens closes nothing) = SpellsParams.none (takes h opens) (takes h closes) (ap (map (placed_param f)) nothing)
  params (SpellsParams.some opens list closes) = SpellsParams.some (takes h opens) (param_list list) (takes h closes)

  output_params : {list : List RawParam} {from to : ℕ} → SpellsOutputParams text tokens list from to →
      SpellsOutputParams whole all (map (placed_param f) list) (d + from) (d + to)
  output_params (SpellsOutputParams.absent nothing is) = SpellsOutputParams.absent (ap (map (placed_param f)) nothing) (stay h is)
  output_params (SpellsOutputParams.written list) = SpellsOutputParams.written (params list)

  result : {t : Option RawType} {from to : ℕ} → SpellsResult text tokens t from to →
      SpellsResult whole all (option_map (placed_type f) t) (d + from) (d + to)
  result (SpellsResult.absent nothing is) = SpellsResult.absent (ap (option_map (placed_type f)) nothing) (stay h is)
  result (SpellsResult.written w t is) = SpellsResult.written (takes h w) (ty h t) (ap (option_map (placed_type f)) is)

  unit : {one : RawUnit} {from to : ℕ} → SpellsUnit text tokens one from to → SpellsUnit whole all (placed_unit f one) (d + from) (d + to)
  unit s = record {
    m = _;
    n = _;
    o = _;
    p = _;
    q = _;
    r = _;
    s = _;
    mark = mark s.mark;
    kind = unit_kind s.kind;
    name = name h s.name;
    inputs = params s.inputs;
    outputs = output_params s.outputs;
    result = result s.result;
    body = block h s.body;
    end = takes h s.end;
  }

  item : {one : RawItem} {from to : ℕ} → SpellsItem text tokens one from to → SpellsItem whole all (placed_item f one) (d + from) (d + to)
  item (SpellsItem.structure def is) = SpellsItem.structure (structure def) (ap (placed_item f) is)
  item (SpellsItem.constant c is) = SpellsItem.constant (constant h c) (ap (placed_item f) is)
  item (SpellsItem.unit u is) = SpellsItem.unit (unit u) (ap (placed_item f) is)

  -- behind items that the tokens before spell
  pub items : {before : List RawItem} → SpellsItems whole all before 0 d → {list : List RawItem} {from to : ℕ} →
      SpellsItems text tokens list from to → from ≡ 0 → SpellsItems whole all (before ++ map (placed_item f) list) 0 (d + to)
  items {before} front (SpellsItems.none {to = to} nothing is) start =
      let none_more : d + to ≡ d = omega (arith, is, start) in
      subst (λ (xs : List RawItem). SpellsItems whole all xs 0 (d + to)) (sym (ap (λ (xs : List RawItem). before ++ map (placed_item f) xs) nothing ∙ append-nil before))
      (subst (λ k. SpellsItems whole all before 0 k) (sym none_more) front)
  items {before} front (SpellsItems.more {items = others} {item = last} rest one is) start =
      SpellsItems.more (items front rest start) (item one)
      (ap (λ (xs : List RawItem). before ++ xs) (mapped_more (placed_item f) others last is)
      ∙ sym (append_assoc before (map (placed_item f) others) (placed_item f last ∷ [])))
