-- What is made behind structs, units and the items of a program.
use Rattle.std.proofs.Common.{◌≡◌, ℕ, ◌+◌, ◌<◌, List, [], ◌∷◌, ◌++◌, map, drop, length, get_or, refl, sym, ap, ◌∙◌, append-nil, append_assoc}
use Rattle.std.specs.Prelude.{Option, Some, option_map}
use Rattle.bl_tree.proofs.Basics.{drop_next}
use Rattle.bl_tree.specs.declared.tree.Role.{Role}
use Rattle.bl_tree.specs.declared.tree.Role.TheVariants as role
use Rattle.bl_tree.specs.Reduce.{joined}
use Rattle.bl_names_tree.specs.declared.item.NamedUnit.{NamedUnit}
use Rattle.bl_names_tree.specs.declared.item.NamedVar.{NamedVar}
use Rattle.bl_names_tree.specs.declared.stmt.NamedStmt.{NamedStmt}
use Rattle.bl_names_tree.specs.declared.types.NamedType.{NamedType}
use Rattle.bl_names_scopes.specs.declared.kind.Kind.TheVariants as kind
use Rattle.bl_names_scopes.specs.Marks.{closes, declares, field_mark, field_type_marks, in_scope, inside_unit, item_marks, kind_of_unit, marks_of, optional}
use Rattle.bl_names_scopes.specs.Marks.{param_marks, stmt_marks, struct_marks, type_marks, unit_marks}
use Rattle.bl_names_scopes.specs.Scopes.{Scopes, after, enter, scopes_outside}
use Rattle.bl_parse_tree.specs.declared.item.RawField.{RawField}
use Rattle.bl_parse_tree.specs.declared.item.RawItem.{RawItem}
use Rattle.bl_parse_tree.specs.declared.item.RawParam.{RawParam}
use Rattle.bl_parse_tree.specs.declared.item.RawStruct.{RawStruct}
use Rattle.bl_parse_tree.specs.declared.item.RawUnit.{RawUnit}
use Rattle.bl_parse_tree.specs.declared.name.Name.{Name}
use Rattle.bl_parse_tree.specs.declared.stmt.RawStmt.{RawStmt}
use Rattle.bl_names.specs.declared.state.State.{State}
use Rattle.bl_names.specs.Named.{along, block_piece, inside_piece, named_var, opened, param_piece, params_piece, role_piece, unit_inside}
use Rattle.bl_names.specs.Naming.{named_type}
use Rattle.bl_names.specs.inner.Past.{past, with_unit, with_variable}
use Rattle.bl_names.proofs.PastLemmas.{enter-behind, past-followed}
use Rattle.bl_names.proofs.PieceLemmas.{block_marks, role_marks}
use Rattle.bl_names.proofs.StillLemmas.{Still, after-append, still_append, still_optional, still_type}

-- ---- structs

pub still_types : (fields : List RawField) → Still (joined (map field_type_marks fields))
still_types [] scopes = refl
still_types (field ∷ fields) scopes =
    still_append (type_marks field.ty) (joined (map field_type_marks fields)) (still_type field.ty) (still_types fields) scopes

pub fields_outer : (fields : List RawField) (scopes : Scopes) → (after scopes (map field_mark fields)).outer ≡ scopes.outer
fields_outer [] scopes = refl
fields_outer (field ∷ fields) scopes = fields_outer fields (enter scopes (field_mark field))

pub fields_counts : (fields : List RawField) (scopes : Scopes) → (after scopes (map field_mark fields)).counts ≡ scopes.counts
fields_counts [] scopes = refl
fields_counts (field ∷ fields) scopes = fields_counts fields (enter scopes (field_mark field))

pub still_fields : (fields : List RawField) → Still (in_scope (map field_mark fields))
still_fields fields scopes =
    after-append (opened scopes) (map field_mark fields) (closes ∷ [])
    ∙ (λ i. scopes_outside (fields_outer fields (opened scopes) i) (fields_counts fields (opened scopes) i))

-- a struct is visible behind its fields
pub struct_scopes : (scopes : Scopes) (def : RawStruct) → enter scopes (declares def.name kind.Struct) ≡ after scopes (struct_marks def)
struct_scopes scopes def =
    enter-behind scopes (joined (map field_type_marks def.fields) ++ in_scope (map field_mark def.fields)) def.name kind.Struct
    (still_append (joined (map field_type_marks def.fields)) (in_scope (map field_mark def.fields)) (still_types def.fields) (still_fields def.fields))

-- ---- units

pub param_past : (state new : State) (role : Role) (param : RawParam) (var : NamedVar) → new ≡ with_variable state param.name var
    → var ≡ named_var state.scopes param.name (Some param.ty) role →
    new ≡ past state (param_piece role param)
param_past state new role param var is var_is =
    is ∙ ap (with_variable state param.name) var_is
    ∙ (λ i. record state {
      scopes = enter-behind state.scopes (type_marks param.ty) param.name kind.Variable (still_type param.ty) i;
      constants = sym (append-nil state.constants) i;
      vars = state.vars ++ (named_var state.scopes param.name (Some param.ty) role ∷ []);
    })

pub params_past : (state one two : State) (def : RawUnit) (inputs outputs : List RawParam) → inputs ≡ def.inputs → outputs ≡ def.outputs →
    one ≡ past state (role_piece role.Input inputs) → two ≡ past one (role_piece role.Output outputs) → two ≡ past state (params_piece def)
params_past state one two def inputs outputs ins outs first second =
    second ∙ (λ i. past (first i) (role_piece role.Output (outs i)))
    ∙ (λ i. past (past state (role_piece role.Input (ins i))) (role_piece role.Output def.outputs))
    ∙ past-followed state (role_piece role.Input def.inputs) (role_piece role.Output def.outputs)

pub inside_past : (state two new : State) (def : RawUnit) (body : List RawStmt) → body ≡ def.body → two ≡ past state (params_piece def)
    → new ≡ past two (block_piece body) →
    new ≡ past state (inside_piece def)
inside_past state two new def body same params h =
    h ∙ (λ i. past (params i) (block_piece (same i))) ∙ past-followed state (params_piece def) (block_piece def.body)

pub inside_made : (state two new : State) (def : RawUnit) (body : List RawStmt) (name : Name) (vars : List NamedVar) (inputs outputs : ℕ)
    (result : Option NamedType) (made : List NamedStmt) →
    body ≡ def.body → two ≡ past state (params_piece def) → new ≡ past two (block_piece body) → state.vars ≡ [] →
    name ≡ def.name → vars ≡ new.vars → inputs ≡ length def.inputs → outputs ≡ length def.outputs →
    result ≡ option_map (named_type two.scopes) def.result → made ≡ (block_piece body).made two.scopes →
    record { entry = def.entry; kind = def.kind; name = name; vars = vars; inputs = inputs; outputs = outputs; result = result; body = made }
    ≡ unit_inside state.scopes def
inside_made state two new def body name vars inputs outputs result made same params h none name_is vars_are inputs_are outputs_are result_is made_is = λ i.
    record {
      entry = def.entry;
      kind = def.kind;
      name = name_is i;
      vars = (vars_are ∙ ap (λ s. s.vars) (inside_past state two new def body same params h)
          ∙ ap (λ l. l ++ (inside_piece def).vars state.scopes) none) i;
      inputs = inputs_are i;
      outputs = outputs_are i;
      result = (result_is ∙ ap (λ s. option_map (named_type s.scopes) def.result) params) i;
      body = (made_is ∙ (λ j. (block_piece (same j)).made (params j).scopes)) i;
    }

inside_marks : (def : RawUnit) → (inside_piece def).marks ≡ (joined (map param_marks def.inputs) ++ joined (map param_marks def.outputs))
    ++ joined (map stmt_marks def.body)
inside_marks def = λ i. (role_marks role.Input def.inputs i ++ role_marks role.Output def.outputs i) ++ block_marks def.body i

pub inside_scopes : (scopes : Scopes) (def : RawUnit) → after scopes (inside_piece def).marks ≡ after scopes (inside_unit def)
inside_scopes scopes def =
    let ins = joined (map param_marks def.inputs) in
    let outs = joined (map param_marks def.outputs) in
    let result = optional type_marks def.result in
    let body = joined (map stmt_marks def.body) in
    let behind = after (after scopes ins) outs in
    ap (after scopes) (inside_marks def)
    ∙ after-append scopes (ins ++ outs) body
    ∙ ap (λ s. after s body) (after-append scopes ins outs ∙ sym (still_optional type_marks def.result still_type behind))
    ∙ sym (after-append behind result body)
    ∙ sym (after-append (after scopes ins) outs (result ++ body))
    ∙ sym (after-append scopes ins (outs ++ (result ++ body)))

-- a unit is visible behind its body
pub unit_scopes : (scopes inner : Scopes) (def : RawUnit) → inner ≡ after (opened scopes) (inside_piece def).marks →
    enter (enter inner closes) (declares def.name (kind_of_unit def.kind)) ≡ after scopes (unit_marks def)
unit_scopes scopes inner def is =
    ap (λ s. enter (enter s closes) (declares def.name (kind_of_unit def.kind))) (is ∙ inside_scopes (opened scopes) def)
    ∙ ap (λ s. enter s (declares def.name (kind_of_unit def.kind))) (sym (after-append (opened scopes) (inside_unit def) (closes ∷ [])))
    ∙ sym (after-append scopes (in_scope (inside_unit def)) (declares def.name (kind_of_unit def.kind) ∷ []))

pub unit_past : (state inner : State) (begun closed ended : Scopes) (units : List NamedUnit) (named : NamedUnit) (def : RawUnit) →
    begun ≡ opened state.scopes →
    inner ≡ record (past (record state { scopes = begun }) (inside_piece def)) { vars = [] } → named ≡ unit_inside begun def
    → units ≡ inner.units ++ (named ∷ []) →
    closed ≡ enter inner.scopes closes → ended ≡ enter closed (declares def.name (kind_of_unit def.kind)) →
    record inner { scopes = ended; units = units }
    ≡ with_unit state def
unit_past state inner begun closed ended units named def begun_is inner_is named_is units_are closed_is ended_is =
    let inside : inner ≡ record (past (record state { scopes = opened state.scopes }) (inside_piece def)) { vars = [] } =
    inner_is ∙ (λ i. record (past (record state { scopes = begun_is i }) (inside_piece def)) { vars = [] }) in
    λ i. record (inside i) {
      scopes =
          (ended_is ∙ ap (λ s. enter s (declares def.name (kind_of_unit def.kind))) closed_is
          ∙ unit_scopes state.scopes inner.scopes def (ap (λ s. s.scopes) inside)) i;
      units = (units_are ∙ (λ j. (inside j).units ++ ((named_is ∙ ap (λ s. unit_inside s def) begun_is) j ∷ []))) i;
    }

-- ---- items

pub along-next : {A : Type 0} (gives : Scopes → RawItem → List A) (xs : List RawItem) (k : ℕ) (x : RawItem) (scopes new : Scopes)
    (old more found : List A)
    → k < length xs → x ≡ get_or xs k x →
    new ≡ after scopes (item_marks x) → more ≡ old ++ gives scopes x → old ++ along gives scopes (drop k xs) ≡ found
    → more ++ along gives new (drop (k + 1) xs) ≡ found
along-next gives xs k x scopes new old more found within is new_is more_is h =
    (λ i. more_is i ++ along gives (new_is i) (drop (k + 1) xs))
    ∙ append_assoc old (gives scopes x) (along gives (after scopes (item_marks x)) (drop (k + 1) xs))
    ∙ ap (λ l. old ++ along gives scopes l) (sym (drop_next xs k x within is)) ∙ h

pub scopes-next : (xs : List RawItem) (k : ℕ) (x : RawItem) (scopes new found : Scopes) → k < length xs → x ≡ get_or xs k x →
    new ≡ after scopes (item_marks x) → after scopes (marks_of (drop k xs)) ≡ found → after new (marks_of (drop (k + 1) xs)) ≡ found
scopes-next xs k x scopes new found within is new_is h =
    ap (λ s. after s (marks_of (drop (k + 1) xs))) new_is
    ∙ sym (after-append scopes (item_marks x) (marks_of (drop (k + 1) xs)))
    ∙ ap (λ l. after scopes (marks_of l)) (sym (drop_next xs k x within is)) ∙ h
