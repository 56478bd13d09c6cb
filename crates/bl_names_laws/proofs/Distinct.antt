-- Names that are declared in one scope differ, where rule Duplicate holds.
use Rattle.std.proofs.Common.{◌≡◌, ℕ, suc, ◌+◌, true, List, [], ◌∷◌, ◌++◌, map, length, take, refl, sym, ap, subst, ◌∙◌, append-nil}
use Rattle.std.specs.Prelude.{Some}
use Rattle.std.specs.List.{list_all}
use Rattle.std.proofs.Math.Seq.{take-append_seam}
use Rattle.std.proofs.lemmas.List.{length-append}
use Rattle.std.proofs.lemmas.Bool.{and_from}
use Rattle.bl_tree.specs.declared.tree.Role.{Role}
use Rattle.bl_tree.specs.declared.tree.Role.TheVariants as role
use Rattle.bl_tree.specs.Reduce.{joined}
use Rattle.bl_tree.specs.Words.{are_distinct}
use Rattle.bl_names_tree.specs.declared.item.NamedVar.{NamedVar}
use Rattle.bl_parse_tree.specs.declared.item.RawField.{RawField}
use Rattle.bl_parse_tree.specs.declared.item.RawItem.{RawItem}
use Rattle.bl_parse_tree.specs.declared.item.RawItem.TheVariants as item
use Rattle.bl_parse_tree.specs.declared.item.RawParam.{RawParam}
use Rattle.bl_parse_tree.specs.declared.item.RawStruct.{RawStruct}
use Rattle.bl_parse_tree.specs.declared.item.RawUnit.{RawUnit}
use Rattle.bl_parse_tree.specs.declared.stmt.RawConstant.{RawConstant}
use Rattle.bl_names_scopes.specs.declared.kind.Kind.TheVariants as kind
use Rattle.bl_names_scopes.specs.Marks.{closes, constant_marks, declares, expr_marks, field_mark, field_type_marks, in_scope, inside_unit, item_marks}
use Rattle.bl_names_scopes.specs.Marks.{kind_of_unit, marks_of, optional, param_marks, stmt_marks, struct_marks, type_marks, unit_marks}
use Rattle.bl_names_scopes.specs.Rules.{Passes}
use Rattle.bl_names_scopes.specs.Scopes.{Scopes, after, enter, file_scope}
use Rattle.bl_names.specs.Named.{along, block_piece, inside_piece, named_field, named_program, named_struct, named_unit, none, opened, params_piece, role_piece}
use Rattle.bl_names.specs.Named.{structs_of, units_of}
use Rattle.bl_names.proofs.ItemLemmas.{inside_scopes}
use Rattle.bl_names.proofs.PieceLemmas.{role_marks}
use Rattle.bl_names.proofs.StillLemmas.{Still, after-append, still_all, still_type, still_value}
use Rattle.bl_names_laws.specs.WellFormed.{all_names, fields_differ, names_of, parameters_differ}
use Rattle.bl_names_laws.proofs.Along.{along_under}
use Rattle.bl_names_laws.proofs.ApartProgram.{inside_moves}
use Rattle.bl_names_laws.proofs.Fresh.{Adds, Differ, Fresh, adds, differ_first, differ_middle, differ_skip, fresh_first, fresh_second, none_differ}
use Rattle.bl_names_laws.proofs.Fresh.{program_fresh}
use Rattle.bl_names_laws.proofs.Moves.{Moving, moving_still, own_is}

-- ---- fields

fields_apart : (made : Scopes) (fields : List RawField) (scopes : Scopes) → Fresh scopes (map field_mark fields)
    → Differ scopes.inner (map (λ field. field.name.text) (map (named_field made) fields))
fields_apart made [] scopes fresh = none_differ scopes.inner
fields_apart made (field ∷ fields) scopes fresh =
    differ_first scopes (enter scopes (field_mark field)) field.name.text (map (λ field. field.name.text) (map (named_field made) fields))
    (adds scopes [] field.name kind.Field refl (fresh.0, tt)) (fields_apart made fields (enter scopes (field_mark field)) fresh.1)

struct_apart : (scopes : Scopes) (def : RawStruct) → Fresh scopes (struct_marks def) → fields_differ (named_struct scopes def) ≡ true
struct_apart scopes def fresh =
    let types = joined (map field_type_marks def.fields) in
    let fields = map field_mark def.fields in
    let inside = fresh_second scopes types (in_scope fields) (fresh_first scopes (types ++ in_scope fields) (declares def.name kind.Struct ∷ []) fresh) in
    (fields_apart scopes def.fields (opened (after scopes types)) (fresh_first (opened (after scopes types)) fields (closes ∷ []) inside.1)).distinct

-- ---- parameters

role_apart : (role : Role) (params : List RawParam) (scopes : Scopes) (names : List (List ℕ)) → Fresh scopes (role_piece role params).marks
    → Differ (after scopes (role_piece role params).marks).inner names →
    Differ scopes.inner (names_of ((role_piece role params).vars scopes) ++ names)
role_apart role [] scopes names fresh rest = rest
role_apart role (param ∷ params) scopes names fresh rest =
    let marks = (role_piece role params).marks in
    let middle = after scopes (param_marks param) in
    differ_first scopes middle param.name.text (names_of ((role_piece role params).vars middle) ++ names)
    (adds scopes (type_marks param.ty) param.name kind.Variable (ap (λ s. s.inner) (still_type param.ty scopes))
    (fresh_first scopes (param_marks param) marks fresh))
    (role_apart role params middle names (fresh_second scopes (param_marks param) marks fresh)
    (subst (λ s. Differ s.inner names) (after-append scopes (param_marks param) marks) rest))

pub role_long : (role : Role) (params : List RawParam) (scopes : Scopes) → length ((role_piece role params).vars scopes) ≡ length params
role_long role [] scopes = refl
role_long role (param ∷ params) scopes = ap (λ n. suc n) (role_long role params (after scopes (param_marks param)))

names_append : (xs ys : List NamedVar) → names_of (xs ++ ys) ≡ names_of xs ++ names_of ys
names_append [] ys = refl
names_append (x ∷ xs) ys = ap (λ l. x.name.text ∷ l) (names_append xs ys)

module _ (ins outs locals : List NamedVar) (m n : ℕ) (one : length ins ≡ m) (two : length outs ≡ n) where
  long : length (ins ++ outs) ≡ m + n
  long = length-append ins outs ∙ (λ i. one i + two i)

  taken : names_of (take (m + n) ((ins ++ outs) ++ locals)) ≡ names_of ins ++ (names_of outs ++ [])
  taken =
      (λ i. names_of (take (sym long i) ((ins ++ outs) ++ locals))) ∙ ap names_of (take-append_seam (ins ++ outs) locals)
      ∙ names_append ins outs ∙ ap (λ l. names_of ins ++ l) (sym (append-nil (names_of outs)))

unit_params : (scopes : Scopes) (def : RawUnit) → Fresh scopes (unit_marks def) → parameters_differ (named_unit scopes def) ≡ true
unit_params scopes def fresh =
    let s = opened scopes in
    let ins = role_piece role.Input def.inputs in
    let outs = role_piece role.Output def.outputs in
    let rest = optional type_marks def.result ++ joined (map stmt_marks def.body) in
    let middle = after s ins.marks in
    let inside : Fresh s (inside_unit def) = fresh_first s (inside_unit def) (closes ∷ [])
    (fresh_first scopes (in_scope (inside_unit def)) (declares def.name (kind_of_unit def.kind) ∷ []) fresh).1 in
    let parted : Fresh s (ins.marks ++ (outs.marks ++ rest)) =
    subst (Fresh s) (λ i. sym (role_marks role.Input def.inputs) i ++ (sym (role_marks role.Output def.outputs) i ++ rest)) inside in
    let apart = role_apart role.Input def.inputs s (names_of (outs.vars middle) ++ []) (fresh_first s ins.marks (outs.marks ++ rest) parted)
    (role_apart role.Output def.outputs middle [] (fresh_first middle outs.marks rest (fresh_second s ins.marks (outs.marks ++ rest) parted))
    (none_differ (after middle outs.marks).inner)) in
    ap are_distinct (taken (ins.vars s) (outs.vars middle) ((block_piece def.body).vars (after s (params_piece def).marks)) (length def.inputs)
    (length def.outputs)
    (role_long role.Input def.inputs s) (role_long role.Output def.outputs middle))
    ∙ apart.distinct

-- ---- items

fields_move : (fields : List RawField) → Moving (map field_mark fields) none
fields_move [] = moving_still [] (λ scopes. refl)
fields_move (field ∷ fields) = λ scopes. let rest = fields_move fields (enter scopes (field_mark field)) in record { outer = rest.outer; more = rest.more }

struct_adds : (scopes : Scopes) (def : RawStruct) → Fresh scopes (struct_marks def) → Adds scopes (after scopes (struct_marks def)) def.name.text
struct_adds scopes def =
    let types = joined (map field_type_marks def.fields) in
    let fields = in_scope (map field_mark def.fields) in
    let still : Still types = still_all field_type_marks def.fields (λ k d within. still_type _) in
    adds scopes (types ++ fields) def.name kind.Struct
    (ap (λ s. s.inner) (after-append scopes types fields ∙ ap (λ s. after s fields) (still scopes)
    ∙ own_is (map field_mark def.fields) none (fields_move def.fields) scopes))

constant_adds : (scopes : Scopes) (constant : RawConstant) → Fresh scopes (constant_marks constant)
    → Adds scopes (after scopes (constant_marks constant)) constant.name.text
constant_adds scopes constant =
    adds scopes (optional type_marks constant.ty ++ expr_marks constant.value) constant.name kind.Constant
    (ap (λ s. s.inner) (still_value constant.ty (Some constant.value) scopes))

unit_adds : (scopes : Scopes) (def : RawUnit) → Fresh scopes (unit_marks def) → Adds scopes (after scopes (unit_marks def)) def.name.text
unit_adds scopes def =
    let marks = (inside_piece def).marks in
    adds scopes (in_scope (inside_unit def)) def.name (kind_of_unit def.kind)
    (ap (λ s. s.inner) (after-append (opened scopes) (inside_unit def) (closes ∷ []) ∙ ap (λ s. enter s closes) (sym (inside_scopes (opened scopes) def))
    ∙ sym (after-append (opened scopes) marks (closes ∷ [])) ∙ own_is marks (inside_piece def).vars (inside_moves def) scopes))

abbrev struct_names : Scopes → List RawItem → List (List ℕ)
struct_names scopes items = map (λ def. def.name.text) (along structs_of scopes items)

abbrev unit_names : Scopes → List RawItem → List (List ℕ)
unit_names scopes items = map (λ unit. unit.name.text) (along units_of scopes items)

items_apart : (items : List RawItem) (scopes : Scopes) → Fresh scopes (marks_of items)
    → Differ scopes.inner (struct_names scopes items ++ unit_names scopes items)
items_apart [] scopes fresh = none_differ scopes.inner
items_apart (item.Struct def ∷ items) scopes fresh =
    let new = after scopes (struct_marks def) in
    differ_first scopes new def.name.text (struct_names new items ++ unit_names new items)
    (struct_adds scopes def (fresh_first scopes (struct_marks def) (marks_of items) fresh))
    (items_apart items new (fresh_second scopes (struct_marks def) (marks_of items) fresh))
items_apart (item.Constant constant ∷ items) scopes fresh =
    let new = after scopes (constant_marks constant) in
    differ_skip scopes new constant.name.text (struct_names new items ++ unit_names new items)
    (constant_adds scopes constant (fresh_first scopes (constant_marks constant) (marks_of items) fresh))
    (items_apart items new (fresh_second scopes (constant_marks constant) (marks_of items) fresh))
items_apart (item.Unit def ∷ items) scopes fresh =
    let new = after scopes (unit_marks def) in
    differ_middle scopes new def.name.text (struct_names new items) (unit_names new items)
    (unit_adds scopes def (fresh_first scopes (unit_marks def) (marks_of items) fresh))
    (items_apart items new (fresh_second scopes (unit_marks def) (marks_of items) fresh))

pub names_differ : (items : List RawItem) (bytes : ℕ) → Passes items → are_distinct (all_names (named_program items bytes)) ≡ true
names_differ items bytes passes = (items_apart items file_scope (program_fresh items passes)).distinct

-- every name that is declared from here on is new in its scope
abbrev Known : Scopes → List RawItem → Type 0
Known scopes items = Fresh scopes (marks_of items)

known_next : (scopes : Scopes) (one : RawItem) (items : List RawItem) → Known scopes (one ∷ items) → Known (after scopes (item_marks one)) items
known_next scopes one items known = fresh_second scopes (item_marks one) (marks_of items) known

item_fields : (scopes : Scopes) (one : RawItem) → Fresh scopes (item_marks one) → list_all fields_differ (structs_of scopes one) ≡ true
item_fields scopes (item.Struct def) fresh = and_from (fields_differ (named_struct scopes def)) true (struct_apart scopes def fresh) refl
item_fields scopes (item.Constant constant) fresh = refl
item_fields scopes (item.Unit def) fresh = refl

item_params : (scopes : Scopes) (one : RawItem) → Fresh scopes (item_marks one) → list_all parameters_differ (units_of scopes one) ≡ true
item_params scopes (item.Struct def) fresh = refl
item_params scopes (item.Constant constant) fresh = refl
item_params scopes (item.Unit def) fresh = and_from (parameters_differ (named_unit scopes def)) true (unit_params scopes def fresh) refl

pub all_fields_differ : (items : List RawItem) (bytes : ℕ) → Passes items → list_all fields_differ (named_program items bytes).structs ≡ true
all_fields_differ items bytes passes = along_under Known structs_of fields_differ known_next
    (λ scopes one items known. item_fields scopes one (fresh_first scopes (item_marks one) (marks_of items) known)) file_scope items
    (program_fresh items passes)

pub all_parameters_differ : (items : List RawItem) (bytes : ℕ) → Passes items → list_all parameters_differ (named_program items bytes).units ≡ true
all_parameters_differ items bytes passes = along_under Known units_of parameters_differ known_next
    (λ scopes one items known. item_params scopes one (fresh_first scopes (item_marks one) (marks_of items) known)) file_scope items
    (program_fresh items passes)
