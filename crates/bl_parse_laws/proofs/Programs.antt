-- What is spelled as a program derives one.
use Rattle.std.proofs.Common.{ℕ, Bool, List, [], ◌∷◌, length, refl, subst}
use Rattle.std.specs.Prelude.{Option, None}
use Rattle.bl_tree.specs.declared.token.Token.{Token}
use Rattle.bl_tree.specs.declared.token.TokenKind.{TokenKind}
use Rattle.bl_tree.specs.declared.tree.UnitKind.{UnitKind}
use Rattle.bl_grammar.specs.declared.symbol.Symbol.TheVariants.{Terminal}
use Rattle.bl_lex.specs.declared.sign.TheConstants.{COMMA}
use Rattle.bl_parse_syntax.specs.declared.grammar.Part.TheVariants.{Program, Item, Struct, Field, Fields, Unit, PlainUnit, UnitTail, Params, SecondParams}
use Rattle.bl_parse_syntax.specs.declared.grammar.Part.TheVariants.{ParamList, ParamRest, Param, Returns}
use Rattle.bl_parse_syntax.specs.declared.grammar.TokenView.{TokenView}
use Rattle.bl_parse_syntax.specs.Grammar.{the, name, sign, class_of, views, productions, IsAmong, SourceDerives}
use Rattle.bl_parse_syntax.specs.Grammar.IsAmong.{here, later}
use Rattle.bl_parse_syntax.specs.Rules.{SpellsProgram}
use Rattle.bl_parse_tree.specs.declared.item.RawField.{RawField}
use Rattle.bl_parse_tree.specs.declared.item.RawItem.{RawItem}
use Rattle.bl_parse_tree.specs.declared.item.RawParam.{RawParam}
use Rattle.bl_parse_tree.specs.declared.item.RawStruct.{RawStruct}
use Rattle.bl_parse_tree.specs.declared.item.RawUnit.{RawUnit}
use Rattle.bl_parse_tree.specs.declared.raw.Raw.{Raw}
use Rattle.bl_parse_tree.specs.declared.types.RawType.{RawType}
use Rattle.bl_parse.specs.Programs.{SpellsField, SpellsFieldList, SpellsStruct, SpellsMark, IsUnit, SpellsParam, SpellsParamList, SpellsParams}
use Rattle.bl_parse.specs.Programs.{SpellsOutputParams, SpellsResult, SpellsUnit, SpellsItem, SpellsItems, Spells}
use Rattle.bl_parse_laws.proofs.Spans.{Spans, Chain, Listed, token, then, made, empty, from_there, add, repeated, listed_one, listed_more, all_left}
use Rattle.bl_parse_laws.proofs.Types.{a_name, a_type}
use Rattle.bl_parse_laws.proofs.Statements.{typing, a_constant, a_block, stmts}

-- ---- structs

a_field : {text : List ℕ} {tokens : List Token} {field : RawField} {from to : ℕ} → SpellsField text tokens field from to →
    Spans (the Field ∷ []) tokens from to
a_field h = made Field here (λ n. refl) (then (token h.word) (then (a_name h.name) (typing h.ty)))

fields_of : {text : List ℕ} {tokens : List Token} {fields : List RawField} {from to : ℕ} →
    SpellsFieldList text tokens fields from to → Listed (the Field ∷ []) (the Field ∷ []) tokens from to
fields_of (SpellsFieldList.first field is) = listed_one (a_field field)
fields_of (SpellsFieldList.more fields field is) = listed_more (fields_of fields) (a_field field)

a_struct : {text : List ℕ} {tokens : List Token} {def : RawStruct} {from to : ℕ} → SpellsStruct text tokens def from to →
    Spans (the Struct ∷ []) tokens from to
a_struct h = let l = fields_of h.fields in
    made Struct here (λ n. refl) (then (token h.word) (then (a_name h.name)
    (then l.head (then (repeated (the Field ∷ []) Fields here (λ n. refl) l.rest (empty Fields (later here) (λ n. refl) refl)) (token h.end)))))

-- ---- units

a_param : {text : List ℕ} {tokens : List Token} {param : RawParam} {from to : ℕ} → SpellsParam text tokens param from to →
    Spans (the Param ∷ []) tokens from to
a_param h = made Param here (λ n. refl) (then (a_name h.name) (typing h.ty))

-- parameters with commas between them
abbrev ParamsOf : List Token → ℕ → ℕ → Type 0
ParamsOf tokens from to = Listed (the Param ∷ []) (sign COMMA ∷ the Param ∷ []) tokens from to

params_of : {text : List ℕ} {tokens : List Token} {params : List RawParam} {from to : ℕ} →
    SpellsParamList text tokens params from to → ParamsOf tokens from to
params_of (SpellsParamList.first param is) = listed_one (a_param param)
params_of (SpellsParamList.more params comma param is) = listed_more (params_of params) (then (token comma) (a_param param))

param_list : {tokens : List Token} {from to : ℕ} → ParamsOf tokens from to → Spans (the ParamList ∷ []) tokens from to
param_list l = made ParamList here (λ n. refl) (then l.head
    (repeated (sign COMMA ∷ the Param ∷ []) ParamRest here (λ n. refl) l.rest (empty ParamRest (later here) (λ n. refl) refl)))

the_params : {text : List ℕ} {tokens : List Token} {params : List RawParam} {from to : ℕ} →
    SpellsParams text tokens params from to → Spans (the Params ∷ []) tokens from to
the_params (SpellsParams.none opens closes is) = made Params here (λ n. refl)
    (then (token opens) (then (empty ParamList (later here) (λ n. refl) refl) (token closes)))
the_params (SpellsParams.some opens params closes) = made Params here (λ n. refl) (then (token opens) (then (param_list (params_of params)) (token closes)))

second_params : {text : List ℕ} {tokens : List Token} {params : List RawParam} {from to : ℕ} →
    SpellsOutputParams text tokens params from to → Spans (the SecondParams ∷ []) tokens from to
second_params (SpellsOutputParams.absent none is) = empty SecondParams (later here) (λ n. refl) is
second_params (SpellsOutputParams.written params) = made SecondParams here (λ n. refl) (the_params params)

a_result : {text : List ℕ} {tokens : List Token} {result : Option RawType} {from to : ℕ} → SpellsResult text tokens result from to →
    Spans (the Returns ∷ []) tokens from to
a_result (SpellsResult.absent none is) = empty Returns (later here) (λ n. refl) is
a_result (SpellsResult.written t ty is) = made Returns here (λ n. refl) (then (token t) (a_type ty))

among_unit : {kind : TokenKind} {unit : UnitKind} → IsUnit kind unit →
    IsAmong (Terminal (class_of kind) ∷ name ∷ the UnitTail ∷ []) (productions PlainUnit)
among_unit IsUnit.function = here
among_unit IsUnit.activity = later here

marked : {tokens : List Token} {entry : Bool} {from m to : ℕ} → SpellsMark tokens entry from m →
    Spans (the PlainUnit ∷ []) tokens m to → Spans (the Unit ∷ []) tokens from to
marked (SpellsMark.absent none is) plain = from_there is (made Unit (later here) (λ n. refl) plain)
marked (SpellsMark.written on at opens entry closes) plain =
    made Unit here (λ n. refl) (then (token at) (then (token opens) (then (token entry) (then (token closes) plain))))

a_unit : {text : List ℕ} {tokens : List Token} {unit : RawUnit} {from to : ℕ} → SpellsUnit text tokens unit from to →
    Spans (the Unit ∷ []) tokens from to
a_unit h = marked h.mark (made PlainUnit (among_unit h.kind.is) (λ n. refl) (then (token h.kind.token) (then (a_name h.name)
    (made UnitTail here (λ n. refl) (then (the_params h.inputs)
    (then (second_params h.outputs) (then (a_result h.result) (then (a_block (stmts h.body)) (token h.end)))))))))

-- ---- the whole

an_item : {text : List ℕ} {tokens : List Token} {item : RawItem} {from to : ℕ} → SpellsItem text tokens item from to →
    Spans (the Item ∷ []) tokens from to
an_item (SpellsItem.structure def is) = made Item here (λ n. refl) (a_struct def)
an_item (SpellsItem.constant c is) = made Item (later here) (λ n. refl) (a_constant c)
an_item (SpellsItem.unit u is) = made Item (later (later here)) (λ n. refl) (a_unit u)

items_of : {text : List ℕ} {tokens : List Token} {items : List RawItem} {from to : ℕ} → SpellsItems text tokens items from to →
    Chain (the Item ∷ []) tokens from to
items_of (SpellsItems.none none is) = Chain.over is
items_of (SpellsItems.more items item is) = add (items_of items) (an_item item)

a_program : {text : List ℕ} {tokens : List Token} {raw : Raw} → Spells text tokens raw → Spans (the Program ∷ []) tokens 0 (length tokens)
a_program h = repeated (the Item ∷ []) Program here (λ n. refl) (items_of h.items) (empty Program (later here) (λ n. refl) refl)

-- the tokens of a tree that is spelled spell a program
pub spells_program : (text : List ℕ) (tokens : List Token) (raw : Raw) → Spells text tokens raw → SpellsProgram tokens
spells_program text tokens raw h = subst (λ (vs : List TokenView). SourceDerives (the Program ∷ []) (views tokens) vs) (all_left None tokens) (a_program h).goes
