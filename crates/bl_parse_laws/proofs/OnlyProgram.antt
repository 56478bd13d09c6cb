-- A text with its tokens has one tree.
use Rattle.std.proofs.Common.{◌≡◌, ℕ, Bool, true, cond, List, [], ◌∷◌, length, refl, ap, sym, ◌∙◌, subst}
use Rattle.std.specs.Prelude.{Option, Some, None}
use Rattle.bl_tree.specs.declared.token.Token.{Token}
use Rattle.bl_tree.specs.declared.token.TokenKind.{TokenKind}
use Rattle.bl_tree.specs.declared.token.TokenKind.TheVariants.{Word, Sign}
use Rattle.bl_tree.specs.declared.tree.UnitKind.{UnitKind}
use Rattle.bl_tree.specs.declared.tree.UnitKind.TheVariants.{Function, Activity}
use Rattle.bl_tree.specs.declared.token.Keyword.TheVariants as keyword
use Rattle.bl_tree.specs.Keywords.{same_word}
use Rattle.bl_lex.specs.declared.sign.TheConstants.{OPEN_PAREN, CLOSE_PAREN, COMMA, AT}
use Rattle.bl_parse_syntax.specs.declared.grammar.Class.{Class}
use Rattle.bl_parse_syntax.specs.declared.grammar.Class.TheVariants.{AnyName, Keyword, Mark}
use Rattle.bl_parse_syntax.specs.Grammar.{class_of}
use Rattle.bl_parse_syntax.specs.Follow.{after_expression, after_block, after_program, statement_starts}
use Rattle.bl_parse_syntax.proofs.Checks.{are_within}
use Rattle.bl_parse_tree.specs.declared.item.RawField.{RawField}
use Rattle.bl_parse_tree.specs.declared.item.RawItem.{RawItem}
use Rattle.bl_parse_tree.specs.declared.item.RawParam.{RawParam}
use Rattle.bl_parse_tree.specs.declared.item.RawStruct.{RawStruct}
use Rattle.bl_parse_tree.specs.declared.item.RawUnit.{RawUnit}
use Rattle.bl_parse_tree.specs.declared.name.Name.{Name}
use Rattle.bl_parse_tree.specs.declared.raw.Raw.{Raw}
use Rattle.bl_parse_tree.specs.declared.stmt.RawStmt.{RawStmt}
use Rattle.bl_parse_tree.specs.declared.types.RawType.{RawType}
use Rattle.bl_parse.specs.At.{kind_at, Takes}
use Rattle.bl_parse.specs.Programs.{SpellsField, SpellsFieldList, SpellsStruct, SpellsMark, IsUnit, SpellsUnitKind, SpellsParam, SpellsParamList, SpellsParams}
use Rattle.bl_parse.specs.Programs.{SpellsOutputParams, SpellsResult, SpellsUnit, SpellsItem, SpellsItems, Spells}
use Rattle.bl_parse.specs.inner.Reading.{next_among, NoneNext}
use Rattle.bl_parse.specs.Statements.{SpellsBlock, SpellsStmt}
use Rattle.bl_parse_laws.proofs.Only.{One, Elem, Row, Lined, Linked, Begin, Begun, meets_free, one_name, begun, begun_within, same_kind, next_same, clash}
use Rattle.bl_parse_laws.proofs.Only.{token_none, among_none, stops, fewer, add_row, line_one, line_more, rows_same, lines_same, follows_plain, linked}
use Rattle.bl_parse_laws.proofs.Only.{linked_begin}
use Rattle.bl_parse_laws.proofs.OnlyExpr.{differ, begun_in}
use Rattle.bl_parse_laws.proofs.OnlyParts.{by1, by2, by3, by4, same_type, same_typing, same_constant}
use Rattle.bl_parse_laws.proofs.OnlyStmt.{same_block, only_block, row_of_block, begun_stmt}

-- ---- structs

field_of : Name → RawType → RawField
field_of n ty = record { name = n; ty = ty }

elem_field : {text : List ℕ} {tokens : List Token} {x : RawField} {from to : ℕ} → SpellsField text tokens x from to →
    Elem (SpellsField text tokens) (Keyword keyword.Var ∷ []) [] tokens x from to
unfolding field_of
elem_field h = record {
  begins = begun h.word;
  one = record {
    only = λ y end g s r.
        let a = meets_free (one_name h.name) (next_same refl h.word g.word) g.name in let b = same_typing h.ty a.1 g.ty in
        (by2 field_of a.0 b.0 refl refl, b.1);
  };
}

begun_field : {text : List ℕ} {tokens : List Token} → Begin (SpellsField text tokens) (Keyword keyword.Var ∷ []) tokens
begun_field y a b h = begun h.word

line_of_fields : {text : List ℕ} {tokens : List Token} {xs : List RawField} {from to : ℕ} → SpellsFieldList text tokens xs from to →
    Lined (SpellsField text tokens) (SpellsField text tokens) xs from to
line_of_fields (SpellsFieldList.first x is) = line_one x is
line_of_fields (SpellsFieldList.more xs x is) = line_more (line_of_fields xs) x is

only_fields : {text : List ℕ} {tokens : List Token} {xs : List RawField} {from to : ℕ} → SpellsFieldList text tokens xs from to
    → Lined (One (SpellsField text tokens) [] tokens) (Elem (SpellsField text tokens) (Keyword keyword.Var ∷ []) [] tokens) xs from to
only_fields (SpellsFieldList.first x is) = line_one (elem_field x).one is
only_fields (SpellsFieldList.more xs x is) = line_more (only_fields xs) (elem_field x) is

struct_of : Name → List RawField → RawStruct
struct_of n fields = record { name = n; fields = fields }

same_struct : {text : List ℕ} {tokens : List Token} {x y : RawStruct} {a b d : ℕ} → SpellsStruct text tokens x a b →
    SpellsStruct text tokens y a d → (x ≡ y) × (b ≡ d)
unfolding struct_of
same_struct {text} {tokens} h g =
    let n = meets_free (one_name h.name) (next_same refl h.word g.word) g.name in
    let l = lines_same (SpellsField text tokens) (SpellsField text tokens) (Keyword keyword.Var ∷ []) []
    (Keyword keyword.Var ∷ []) tokens begun_field refl refl refl (only_fields h.fields) n.1 (line_of_fields g.fields) (stops h.end refl) (stops g.end refl) in
    (by2 struct_of n.0 l.0 refl refl, next_same l.1 h.end g.end)

-- ---- parameters

param_of : Name → RawType → RawParam
param_of n ty = record { name = n; ty = ty }

one_param : {text : List ℕ} {tokens : List Token} {x : RawParam} {from to : ℕ} → SpellsParam text tokens x from to →
    One (SpellsParam text tokens) [] tokens x from to
unfolding param_of
one_param h = record {
  only = λ y end g s r. let a = meets_free (one_name h.name) refl g.name in let b =
      same_typing h.ty a.1 g.ty in (by2 param_of a.0 b.0 refl refl, b.1);
}

abbrev ParamLink : List ℕ → List Token → RawParam → ℕ → ℕ → Type 0
ParamLink text tokens = Linked (Sign COMMA) tokens (SpellsParam text tokens)

line_of_params : {text : List ℕ} {tokens : List Token} {xs : List RawParam} {from to : ℕ} → SpellsParamList text tokens xs from to →
    Lined (SpellsParam text tokens) (ParamLink text tokens) xs from to
line_of_params (SpellsParamList.first x is) = line_one x is
line_of_params (SpellsParamList.more xs comma x is) = line_more (line_of_params xs) (record { m = _; by = comma; elem = x }) is

only_params : {text : List ℕ} {tokens : List Token} {xs : List RawParam} {from to : ℕ} → SpellsParamList text tokens xs from to
    → Lined (One (SpellsParam text tokens) [] tokens) (Elem (ParamLink text tokens) (Mark COMMA ∷ []) [] tokens) xs from to
only_params (SpellsParamList.first x is) = line_one (one_param x) is
only_params (SpellsParamList.more xs comma x is) = line_more (only_params xs) (linked comma (one_param x)) is

begun_params : {text : List ℕ} {tokens : List Token} {xs : List RawParam} {from to : ℕ} → SpellsParamList text tokens xs from to →
    Begun (AnyName ∷ []) tokens from
begun_params (SpellsParamList.first x is) = begun x.name.token
begun_params (SpellsParamList.more xs comma x is) = begun_params xs

same_params : {text : List ℕ} {tokens : List Token} {xs ys : List RawParam} {a b c d : ℕ} → SpellsParams text tokens xs a b →
    a ≡ c → SpellsParams text tokens ys c d → (xs ≡ ys) × (b ≡ d)
same_params (SpellsParams.none t w is) e (SpellsParams.none u v also) = (is ∙ sym also, next_same (next_same e t u) w v)
same_params (SpellsParams.none t w is) e (SpellsParams.some u ps v) =
    differ (Mark CLOSE_PAREN ∷ []) (AnyName ∷ []) (begun w) (next_same e t u) (begun_params ps) refl
same_params (SpellsParams.some t ps w) e (SpellsParams.none u v also) =
    differ (AnyName ∷ []) (Mark CLOSE_PAREN ∷ []) (begun_params ps) (next_same e t u) (begun v) refl
same_params {text} {tokens} (SpellsParams.some t ps w) e (SpellsParams.some u qs v) =
    let x = lines_same (SpellsParam text tokens) (ParamLink text tokens) (Mark COMMA ∷ []) [] (Mark COMMA ∷ []) tokens
    (linked_begin (Sign COMMA) tokens (SpellsParam text tokens)) refl refl refl
    (only_params ps) (next_same e t u) (line_of_params qs) (stops w refl) (stops v refl) in
    (x.0, next_same x.1 w v)

begun_paren : {text : List ℕ} {tokens : List Token} {xs : List RawParam} {a b : ℕ} → SpellsParams text tokens xs a b →
    Begun (Mark OPEN_PAREN ∷ []) tokens a
begun_paren (SpellsParams.none t w is) = begun t
begun_paren (SpellsParams.some t ps w) = begun t

missing : {P : Type 0} {tokens : List Token} {k j : ℕ} {classes : List Class} → Begun classes tokens j → k ≡ j → NoneNext classes tokens k → P
missing {tokens = tokens} {classes = classes} h e s = among_none (subst (λ n. Begun classes tokens n) (sym e) h) s

same_output_params : {text : List ℕ} {tokens : List Token} {xs ys : List RawParam} {a b c d : ℕ} →
    SpellsOutputParams text tokens xs a b → a ≡ c → SpellsOutputParams text tokens ys c d
    → NoneNext (Mark OPEN_PAREN ∷ []) tokens b → NoneNext (Mark OPEN_PAREN ∷ []) tokens d → (xs ≡ ys) × (b ≡ d)
same_output_params (SpellsOutputParams.absent none is) e (SpellsOutputParams.absent nil also) s r = (none ∙ sym nil, is ∙ (e ∙ sym also))
same_output_params (SpellsOutputParams.absent none is) e (SpellsOutputParams.written ps) s r = missing (begun_paren ps) (is ∙ e) s
same_output_params (SpellsOutputParams.written ps) e (SpellsOutputParams.absent nil also) s r = missing (begun_paren ps) (also ∙ sym e) r
same_output_params (SpellsOutputParams.written ps) e (SpellsOutputParams.written qs) s r = same_params ps e qs

-- ---- units

same_result : {text : List ℕ} {tokens : List Token} {x y : Option RawType} {a b c d : ℕ} → SpellsResult text tokens x a b → a ≡ c →
    SpellsResult text tokens y c d
    → NoneNext (Keyword keyword.Returns ∷ []) tokens b → NoneNext (Keyword keyword.Returns ∷ []) tokens d → (x ≡ y) × (b ≡ d)
same_result (SpellsResult.absent none is) e (SpellsResult.absent nil also) s r = (none ∙ sym nil, is ∙ (e ∙ sym also))
same_result (SpellsResult.absent none is) e (SpellsResult.written u ty also) s r = token_none u (is ∙ e) refl s
same_result (SpellsResult.written t ty is) e (SpellsResult.absent nil also) s r = token_none t (also ∙ sym e) refl r
same_result (SpellsResult.written t ty is) e (SpellsResult.written u other also) s r = let x =
    same_type ty (next_same e t u) other in (by1 (λ (t : RawType). Some t) x.0 is also, x.1)

-- neither `(` nor `returns` begins a block
block_front : {text : List ℕ} {tokens : List Token} {body : List RawStmt} {a b c : ℕ} → SpellsBlock text tokens body a b →
    Takes tokens (Word keyword.End) b c → NoneNext (Mark OPEN_PAREN ∷ Keyword keyword.Returns ∷ []) tokens a
block_front {text} {tokens} body t = follows_plain (SpellsStmt text tokens) statement_starts
    (Mark OPEN_PAREN ∷ Keyword keyword.Returns ∷ []) (Keyword keyword.Returns ∷ after_block) tokens begun_stmt refl refl refl (row_of_block body) (stops t refl)

result_front : {text : List ℕ} {tokens : List Token} {x : Option RawType} {a b : ℕ} → SpellsResult text tokens x a b →
    NoneNext (Mark OPEN_PAREN ∷ Keyword keyword.Returns ∷ []) tokens b → NoneNext (Mark OPEN_PAREN ∷ []) tokens a
result_front {tokens = tokens} (SpellsResult.absent none is) s =
    subst (λ k. NoneNext (Mark OPEN_PAREN ∷ []) tokens k) is (fewer (Mark OPEN_PAREN ∷ []) (Mark OPEN_PAREN ∷ Keyword keyword.Returns ∷ []) refl s)
result_front (SpellsResult.written t ty is) s = stops t refl

unit_kind_of : TokenKind → UnitKind
unit_kind_of (Word w) = cond (same_word w keyword.Function) Function Activity
unit_kind_of _ = Function

kind_as : {kind : TokenKind} {unit : UnitKind} → IsUnit kind unit → unit_kind_of kind ≡ unit
unfolding unit_kind_of
kind_as IsUnit.function = refl
kind_as IsUnit.activity = refl

same_unit_kind : {tokens : List Token} {x y : UnitKind} {a b c d : ℕ} → SpellsUnitKind tokens x a b → a ≡ c →
    SpellsUnitKind tokens y c d → (x ≡ y) × (b ≡ d)
same_unit_kind h e g = (sym (kind_as h.is) ∙ (ap unit_kind_of (same_kind h.token e g.token) ∙ kind_as g.is), next_same e h.token g.token)

abbrev units : List Class
units = Keyword keyword.Function ∷ Keyword keyword.Activity ∷ []

unit_within : {kind : TokenKind} {unit : UnitKind} → IsUnit kind unit → are_within (class_of kind ∷ []) units ≡ true
unit_within IsUnit.function = refl
unit_within IsUnit.activity = refl

begun_unit_kind : {tokens : List Token} {x : UnitKind} {a b : ℕ} → SpellsUnitKind tokens x a b → Begun units tokens a
begun_unit_kind h = begun_in units h.token (unit_within h.is)

same_mark : {tokens : List Token} {x y : Bool} {k l : UnitKind} {a b c d e : ℕ} → SpellsMark tokens x a b →
    SpellsUnitKind tokens k b c → SpellsMark tokens y a d → SpellsUnitKind tokens l d e → (x ≡ y) × (b ≡ d)
same_mark (SpellsMark.absent f g) h (SpellsMark.absent i j) k = (f ∙ sym i, g ∙ sym j)
same_mark (SpellsMark.absent f g) h (SpellsMark.written i t o n w) k = differ units (Mark AT ∷ []) (begun_unit_kind h) g (begun t) refl
same_mark (SpellsMark.written f t o n w) h (SpellsMark.absent i j) k = differ units (Mark AT ∷ []) (begun_unit_kind k) j (begun t) refl
same_mark (SpellsMark.written f t o n w) h (SpellsMark.written i u p m v) k = (f ∙ sym i, next_same (next_same (next_same (next_same refl t u) o p) n m) w v)

unit_of : Bool → UnitKind → Name → List RawParam → List RawParam → Option RawType → List RawStmt → RawUnit
unit_of entry kind name inputs outputs result body =
    record { entry = entry; kind = kind; name = name; inputs = inputs; outputs = outputs; result = result; body = body }

units_same : {x y : RawUnit} → x.entry ≡ y.entry → x.kind ≡ y.kind → x.name ≡ y.name → x.inputs ≡ y.inputs → x.outputs ≡ y.outputs →
    x.result ≡ y.result → x.body ≡ y.body → x ≡ y
unfolding unit_of
units_same {x} {y} a b c d e f g =
    by4 (λ (p : Bool) (q : UnitKind) (r : Name) (s : List RawParam). unit_of p q r s x.outputs x.result x.body) a b c d refl refl
    ∙ by3 (λ (p : List RawParam) (q : Option RawType) (r : List RawStmt). unit_of y.entry y.kind y.name y.inputs p q r) e f g refl refl

same_unit : {text : List ℕ} {tokens : List Token} {x y : RawUnit} {a b d : ℕ} → SpellsUnit text tokens x a b →
    SpellsUnit text tokens y a d → (x ≡ y) × (b ≡ d)
same_unit h g =
    let k = same_mark h.mark h.kind g.mark g.kind in
    let l = same_unit_kind h.kind k.1 g.kind in
    let n = meets_free (one_name h.name) l.1 g.name in
    let i = same_params h.inputs n.1 g.inputs in
    let hf = block_front h.body h.end in
    let gf = block_front g.body g.end in
    let o = same_output_params h.outputs i.1 g.outputs (result_front h.result hf) (result_front g.result gf) in
    let r = same_result h.result o.1 g.result (fewer (Keyword keyword.Returns ∷ []) (Mark OPEN_PAREN ∷ Keyword keyword.Returns ∷ []) refl hf)
    (fewer (Keyword keyword.Returns ∷ []) (Mark OPEN_PAREN ∷ Keyword keyword.Returns ∷ []) refl gf) in
    let b = same_block (only_block h.body) r.1 g.body (stops h.end refl) (stops g.end refl) in
    (units_same k.0 l.0 n.0 i.0 o.0 r.0 b.0, next_same b.1 h.end g.end)

-- ---- the whole

abbrev item_starts : List Class
item_starts = Keyword keyword.Struct ∷ Keyword keyword.Const ∷ Mark AT ∷ Keyword keyword.Function ∷ Keyword keyword.Activity ∷ []

abbrev unit_starts : List Class
unit_starts = Mark AT ∷ units

begun_mark : {tokens : List Token} {x : Bool} {k : UnitKind} {a b c : ℕ} → SpellsMark tokens x a b → SpellsUnitKind tokens k b c →
    Begun unit_starts tokens a
begun_mark {tokens} (SpellsMark.absent f g) h = subst (λ k. Begun unit_starts tokens k) g (begun_within units unit_starts refl (begun_unit_kind h))
begun_mark (SpellsMark.written f t o n w) h = begun_in unit_starts t refl

begun_unit : {text : List ℕ} {tokens : List Token} {x : RawUnit} {a b : ℕ} → SpellsUnit text tokens x a b → Begun unit_starts tokens a
begun_unit h = begun_mark h.mark h.kind

begun_item : {text : List ℕ} {tokens : List Token} → Begin (SpellsItem text tokens) item_starts tokens
begun_item y a b (SpellsItem.structure h is) = begun_in item_starts h.word refl
begun_item y a b (SpellsItem.constant h is) = begun_in item_starts h.word refl
begun_item y a b (SpellsItem.unit h is) = begun_within unit_starts item_starts refl (begun_unit h)

same_item : {text : List ℕ} {tokens : List Token} {x y : RawItem} {a b d : ℕ} → SpellsItem text tokens x a b →
    SpellsItem text tokens y a d → NoneNext after_expression tokens b → NoneNext after_expression tokens d → (x ≡ y) × (b ≡ d)
same_item (SpellsItem.structure h is) (SpellsItem.structure g also) s r = let x = same_struct h g in (by1 RawItem.Struct x.0 is also, x.1)
same_item (SpellsItem.structure h is) (SpellsItem.constant g also) s r = clash h.word refl g.word refl
same_item (SpellsItem.structure h is) (SpellsItem.unit g also) s r = differ (Keyword keyword.Struct ∷ []) unit_starts (begun h.word) refl (begun_unit g) refl
same_item (SpellsItem.constant h is) (SpellsItem.structure g also) s r = clash h.word refl g.word refl
same_item (SpellsItem.constant h is) (SpellsItem.constant g also) s r = let x = same_constant h refl g s r in (by1 RawItem.Constant x.0 is also, x.1)
same_item (SpellsItem.constant h is) (SpellsItem.unit g also) s r = differ (Keyword keyword.Const ∷ []) unit_starts (begun h.word) refl (begun_unit g) refl
same_item (SpellsItem.unit h is) (SpellsItem.structure g also) s r = differ (Keyword keyword.Struct ∷ []) unit_starts (begun g.word) refl (begun_unit h) refl
same_item (SpellsItem.unit h is) (SpellsItem.constant g also) s r = differ (Keyword keyword.Const ∷ []) unit_starts (begun g.word) refl (begun_unit h) refl
same_item (SpellsItem.unit h is) (SpellsItem.unit g also) s r = let x = same_unit h g in (by1 RawItem.Unit x.0 is also, x.1)

row_of_items : {text : List ℕ} {tokens : List Token} {xs : List RawItem} {from to : ℕ} → SpellsItems text tokens xs from to →
    Row (SpellsItem text tokens) xs from to
row_of_items (SpellsItems.none none is) = Row.over none is
row_of_items (SpellsItems.more xs x is) = add_row (row_of_items xs) x is

elem_item : {text : List ℕ} {tokens : List Token} {x : RawItem} {a b : ℕ} → SpellsItem text tokens x a b →
    Elem (SpellsItem text tokens) item_starts after_expression tokens x a b
elem_item h = record { begins = begun_item _ _ _ h; one = record { only = λ y end g s r. same_item h g s r } }

only_items : {text : List ℕ} {tokens : List Token} {xs : List RawItem} {from to : ℕ} → SpellsItems text tokens xs from to →
    Row (Elem (SpellsItem text tokens) item_starts after_expression tokens) xs from to
only_items (SpellsItems.none none is) = Row.over none is
only_items (SpellsItems.more xs x is) = add_row (only_items xs) (elem_item x) is

-- nothing stands at the end
end_stops : (tokens : List Token) (classes : List Class) → NoneNext classes tokens (length tokens)
end_stops tokens classes = record { off = ap (next_among classes) (at_end tokens) }
  where
    at_end : (tokens : List Token) → kind_at tokens (length tokens) ≡ None
    at_end [] = refl
    at_end (x ∷ xs) = at_end xs

raw_of : List RawItem → ℕ → Raw
raw_of items bytes = record { items = items; bytes = bytes }

pub same_tree : (text : List ℕ) (tokens : List Token) (raw other : Raw) → Spells text tokens raw → Spells text tokens other → raw ≡ other
unfolding raw_of
same_tree text tokens raw other h g =
    let x = rows_same (SpellsItem text tokens) item_starts after_expression after_program tokens begun_item refl refl refl
    (only_items h.items) _ _ _ refl (row_of_items g.items) (end_stops tokens after_program) (end_stops tokens after_program) in
    by2 raw_of x.0 (h.bytes ∙ sym g.bytes) refl refl
