-- What one text declares in environments that agree.
use Rattle.std.proofs.Common.{◌≡◌, inr, ⊎_elim, ℕ, ◌+◌, ◌<◌, ◌≤◌, Bool, true, false, List, [], ◌∷◌, ◌++◌, map, length, refl, ap, ap₂, subst, sym}
use Rattle.std.proofs.Common.{◌∙◌, arith}
use Rattle.std.specs.Prelude.{Option, Some, None, if◌then◌else◌, is_some, option_and_then, option_map, slice_get}
use Rattle.std.proofs.lemmas.Bool.{cases_lt}
use Rattle.std.proofs.lemmas.List.{length-append, map-append}
use Rattle.std.proofs.lemmas.Option.{slice_get_within}
use Rattle.bl_tree.proofs.Basics.{get_front, get_last, none_within}
use Rattle.bl_tree.specs.declared.place.Place.{Place}
use Rattle.bl_tree.specs.declared.rule.Failure.{Failure}
use Rattle.bl_tree.specs.declared.rule.Rule.TheVariants as rule
use Rattle.bl_tree.specs.declared.tree.Expr.{Expr}
use Rattle.bl_tree.specs.declared.tree.Ty.{Ty}
use Rattle.bl_tree.specs.Types.{scalar_in}
use Rattle.bl_tree_laws_places.specs.Placed.{placed_expr, placed_struct}
use Rattle.bl_tree_laws_places.proofs.Lists.{joined-behind, map-alike, map-twice}
use Rattle.bl_names_tree.specs.declared.expr.NamedExpr.{NamedExpr}
use Rattle.bl_names_tree.specs.declared.item.NamedConstant.{NamedConstant}
use Rattle.bl_names_tree.specs.declared.item.NamedField.{NamedField}
use Rattle.bl_names_tree.specs.declared.item.NamedStruct.{NamedStruct}
use Rattle.bl_names_tree.specs.declared.item.NamedVar.{NamedVar}
use Rattle.bl_names_tree.specs.declared.types.NamedType.{NamedType}
use Rattle.bl_names_laws_places.specs.Renamed.{Renaming, renamed_constant, renamed_expr, renamed_field, renamed_struct, renamed_type, renamed_var}
use Rattle.bl_types.specs.declared.environment.Constant.{Constant}
use Rattle.bl_types.specs.declared.environment.Environment.{Environment}
use Rattle.bl_types.specs.declared.form.Form.{Form}
use Rattle.bl_types.specs.declared.form.Form.TheVariants as form
use Rattle.bl_types.specs.declared.form.Valued.{Valued}
use Rattle.bl_types.specs.Declarations.{Declaring, Initial, after_constant, after_parameter, after_parameters, after_struct, after_variable, and_then}
use Rattle.bl_types.specs.Declarations.{closed_initial, constant_failures, constant_of, expr_of_form, field_lengths, field_of, initial, is_parameter}
use Rattle.bl_types.specs.Declarations.{not_scalar, optional_lengths, struct_of, type_of_form, typed_initial, unchanged, with_constant, with_variable}
use Rattle.bl_types.specs.Expressions.{Formed, Judged, closed_form, in_context, judged}
use Rattle.bl_types.specs.Folded.{not_constant, number_or_zero}
use Rattle.bl_types.specs.Settled.{Settled}
use Rattle.bl_types.specs.Written.{bad_lengths, written_type}
use Rattle.bl_types_laws_places.specs.Agree.{EnvironmentsAgree, SameStructs, placed_failure, placed_failures, placed_variable, unplaced}
use Rattle.bl_types_laws_places.specs.Judgements.{DeclaringsAgree, placed_form, placed_formed, placed_initial, placed_settled, placed_valued}
use Rattle.bl_types_laws_places.proofs.Environments.{constants_alike}
use Rattle.bl_types_laws_places.proofs.Exprs.{judged_agrees}
use Rattle.bl_types_laws_places.proofs.Folding.{folded_stays, not_constant_agrees}
use Rattle.bl_types_laws_places.proofs.Forms.{closed_placed, context_placed}
use Rattle.bl_types_laws_places.proofs.Trees.{both_placed, unless_placed}
use Rattle.bl_types_laws_places.proofs.Writing.{lengths_agree, written_agrees}

-- ---- lists with one element more at their end

module _ (constant : ℕ → ℕ) (near far : List Constant) (same : (k : ℕ) → slice_get far (constant k) ≡ slice_get near k)
    (next : (j : ℕ) → constant (length near + j) ≡ length far + j) (one : Constant) where
  next_then : (j : ℕ) → constant (length (near ++ one ∷ []) + j) ≡ length (far ++ one ∷ []) + j
  next_then j =
      let at_near : length (near ++ one ∷ []) ≡ length near + 1 = length-append near (one ∷ []) in
      let at_far : length (far ++ one ∷ []) ≡ length far + 1 = length-append far (one ∷ []) in
      let from_near : length (near ++ one ∷ []) + j ≡ length near + (1 + j) = omega (arith, at_near) in
      let from_far : length far + (1 + j) ≡ length (far ++ one ∷ []) + j = omega (arith, at_far) in
      ap constant from_near ∙ next (1 + j) ∙ from_far

  known_before : (k : ℕ) → k < length near → slice_get (far ++ one ∷ []) (constant k) ≡ slice_get (near ++ one ∷ []) k
  known_before k less =
      get_front far (one ∷ []) (constant k) (within (slice_get near k) refl) ∙ same k ∙ sym (get_front near (one ∷ []) k less)
    where
      within : (found : Option Constant) → slice_get near k ≡ found → constant k < length far
      within (Some x) is = slice_get_within far (constant k) x (same k ∙ is)
      within None is = absurd (none_within near k less is)

  known_then : (k : ℕ) → k < length (near ++ one ∷ []) → slice_get (far ++ one ∷ []) (constant k) ≡ slice_get (near ++ one ∷ []) k
  known_then k less = ⊎_elim (known_before k) last (cases_lt k (length near))
    where
      last : length near ≤ k → slice_get (far ++ one ∷ []) (constant k) ≡ slice_get (near ++ one ∷ []) k
      last past =
          let at_near : length (near ++ one ∷ []) ≡ length near + 1 = length-append near (one ∷ []) in
          let is_last : k ≡ length near + 0 = omega (arith, less, past, at_near) in
          let at_end : length far + 0 ≡ length far = omega arith in
          let is_end : length near ≡ k = omega (arith, is_last) in
          ap (slice_get (far ++ one ∷ [])) (ap constant is_last ∙ next 0 ∙ at_end)
          ∙ get_last far one ∙ sym (get_last near one) ∙ ap (slice_get (near ++ one ∷ [])) is_end

  -- constants correspond with one more on both sides
  pub one_more : (k : ℕ) → slice_get (far ++ one ∷ []) (constant k) ≡ slice_get (near ++ one ∷ []) k
  one_more = constants_alike constant (near ++ one ∷ []) (far ++ one ∷ []) known_then next_then

-- ---- initial values

abbrev initial_of : Option Ty → Option Expr → List Failure → Initial
initial_of ty value failures = record { valued = record { ty = ty; value = value }; failures = failures }

module _ (f : Place → Place) where
  form_type : (form : Form) → type_of_form (placed_form f form) ≡ type_of_form form
  form_type form.Failing = refl
  form_type (form.Open e) = refl
  form_type (form.Of ty e) = refl

  form_expr : (form : Form) → expr_of_form (placed_form f form) ≡ option_map (placed_expr f) (expr_of_form form)
  form_expr form.Failing = refl
  form_expr (form.Open e) = refl
  form_expr (form.Of ty e) = refl

  typed_placed : (ty : Ty) (earlier : List Failure) (value : Settled) →
      typed_initial ty (placed_failures f earlier) (placed_settled f value) ≡ placed_initial f (typed_initial ty earlier value)
  typed_placed ty earlier value = ap (initial_of (Some ty) (option_map (placed_expr f) value.made)) (both_placed f earlier value.failures)

  closed_initial_placed : (earlier : List Failure) (formed : Formed) →
      closed_initial (placed_failures f earlier) (placed_formed f formed) ≡ placed_initial f (closed_initial earlier formed)
  closed_initial_placed earlier formed = λ i. record {
    valued = record { ty = form_type formed.form i; value = form_expr formed.form i };
    failures = both_placed f earlier formed.failures i;
  }

  not_scalar_placed : (at : Place) (ty : Option Ty) → not_scalar (f at) ty ≡ placed_failures f (not_scalar at ty)
  not_scalar_placed at (Some ty) = unless_placed f (is_some (scalar_in ty)) rule.Type at
  not_scalar_placed at None = refl

module _ (by : Renaming) (near far : Environment) (agree : EnvironmentsAgree by near far) where
  written_same : (ty : NamedType) → written_type far.constants (renamed_type by ty) ≡ written_type near.constants ty
  written_same = written_agrees by near.constants far.constants agree.constants

  lengths_same : (ty : NamedType) → bad_lengths far.constants (renamed_type by ty) ≡ placed_failures by.place (bad_lengths near.constants ty)
  lengths_same = lengths_agree by near.constants far.constants agree.constants

  pub context_agrees : (wanted : Option Ty) (e : NamedExpr) →
      in_context wanted (judged far (renamed_expr by e)) ≡ placed_settled by.place (in_context wanted (judged near e))
  context_agrees wanted e = ap (in_context wanted) (judged_agrees by near far agree e) ∙ context_placed by.place wanted (judged near e)

  pub initial_agrees : (ty : Option NamedType) (e : NamedExpr) →
      initial far (option_map (renamed_type by) ty) (renamed_expr by e) ≡ placed_initial by.place (initial near ty e)
  initial_agrees (Some ty) e =
      ap₂ (λ ty earlier. typed_initial ty earlier (in_context (Some ty) (judged far (renamed_expr by e)))) (written_same ty) (lengths_same ty)
      ∙ ap (typed_initial (written_type near.constants ty) (placed_failures by.place (bad_lengths near.constants ty)))
      (context_agrees (Some (written_type near.constants ty)) e)
      ∙ typed_placed by.place (written_type near.constants ty) (bad_lengths near.constants ty)
      (in_context (Some (written_type near.constants ty)) (judged near e))
  initial_agrees None e =
      ap (λ (j : Judged). closed_initial j.failures (closed_form j.form)) (judged_agrees by near far agree e)
      ∙ ap (closed_initial (placed_failures by.place (judged near e).failures)) (closed_placed by.place (judged near e).form)
      ∙ closed_initial_placed by.place (judged near e).failures (closed_form (judged near e).form)

  -- ---- constants

  constant_same : (e : NamedExpr) (valued : Valued) → constant_of (renamed_expr by e) (placed_valued by.place valued) ≡ constant_of e valued
  constant_same e valued =
      ap (λ number. record { ty = option_and_then scalar_in valued.ty; value = number_or_zero number }) (folded_stays by e valued.value)

  constant_fails : (at : Place) (e : NamedExpr) (valued : Valued) →
      constant_failures (by.place at) (renamed_expr by e) (placed_valued by.place valued) ≡ placed_failures by.place (constant_failures at e valued)
  constant_fails at e valued =
      ap₂ (λ xs ys. xs ++ ys) (not_scalar_placed by.place at valued.ty) (not_constant_agrees by e valued.value)
      ∙ both_placed by.place (not_scalar at valued.ty) (not_constant e valued.value)

  with_constant_agrees : (one : Constant) → EnvironmentsAgree by (with_constant near one) (with_constant far one)
  with_constant_agrees one = record {
    structs = agree.structs;
    constants = one_more by.constant near.constants far.constants agree.constants agree.next one;
    next = next_then by.constant near.constants far.constants agree.constants agree.next one;
    units = agree.units;
    vars = agree.vars;
    kind = agree.kind;
    result = agree.result;
  }

  pub constant_agrees : (constant : NamedConstant) →
      DeclaringsAgree by (after_constant constant near) (after_constant (renamed_constant by constant) far)
  constant_agrees constant = record { env = env_agrees; failures = failures_are }
    where
      value : Initial
      value = initial near constant.ty constant.value

      value' : Initial
      value' = initial far (option_map (renamed_type by) constant.ty) (renamed_expr by constant.value)

      value_is : value' ≡ placed_initial by.place value
      value_is = initial_agrees constant.ty constant.value

      constant_is : constant_of constant.value value.valued ≡ constant_of (renamed_expr by constant.value) value'.valued
      constant_is =
          sym (ap (λ (x : Initial). constant_of (renamed_expr by constant.value) x.valued) value_is ∙ constant_same constant.value value.valued)

      env_agrees : EnvironmentsAgree by (with_constant near (constant_of constant.value value.valued))
          (with_constant far (constant_of (renamed_expr by constant.value) value'.valued))
      env_agrees =
          subst (λ one. EnvironmentsAgree by (with_constant near (constant_of constant.value value.valued)) (with_constant far one)) constant_is
          (with_constant_agrees (constant_of constant.value value.valued))

      failures_are : value'.failures ++ constant_failures (by.place constant.name.place) (renamed_expr by constant.value) value'.valued
          ≡ placed_failures by.place (value.failures ++ constant_failures constant.name.place constant.value value.valued)
      failures_are =
          ap
          (λ (x : Initial). x.failures ++ constant_failures (by.place constant.name.place) (renamed_expr by constant.value) x.valued)
          value_is
          ∙ ap (λ xs. placed_failures by.place value.failures ++ xs) (constant_fails constant.name.place constant.value value.valued)
          ∙ both_placed by.place value.failures (constant_failures constant.name.place constant.value value.valued)

  -- ---- structs

  field_is : (field : NamedField) → field_of far (renamed_field by field) ≡ field_of near field
  field_is field = ap (λ ty. record { name = field.name.text; ty = ty }) (written_same field.ty)

  fields_are : (fields : List NamedField) → map (field_of far) (map (renamed_field by) fields) ≡ map (field_of near) fields
  fields_are fields =
      map-twice (field_of far) (renamed_field by) fields ∙ map-alike (λ field. field_of far (renamed_field by field)) (field_of near) field_is fields

  struct_is : (def : NamedStruct) → placed_struct unplaced (struct_of far (renamed_struct by def)) ≡ placed_struct unplaced (struct_of near def)
  struct_is def = ap (λ fields. record { name = def.name.text; place = unplaced def.name.place; fields = fields }) (fields_are def.fields)

  structs_are : (def : NamedStruct) →
      SameStructs (near.structs ++ struct_of near def ∷ []) (far.structs ++ struct_of far (renamed_struct by def) ∷ [])
  structs_are def =
      map-append (placed_struct unplaced) far.structs (struct_of far (renamed_struct by def) ∷ [])
      ∙ ap₂ (λ xs x. xs ++ x ∷ []) agree.structs (struct_is def)
      ∙ sym (map-append (placed_struct unplaced) near.structs (struct_of near def ∷ []))

  pub struct_agrees : (def : NamedStruct) → DeclaringsAgree by (after_struct def near) (after_struct (renamed_struct by def) far)
  struct_agrees def = record {
    env = record {
      structs = structs_are def;
      constants = agree.constants;
      next = agree.next;
      units = agree.units;
      vars = agree.vars;
      kind = agree.kind;
      result = agree.result;
    };
    failures =
        joined-behind (field_lengths far) (renamed_field by) (field_lengths near) (placed_failure by.place) (λ field. lengths_same field.ty) def.fields;
  }

  -- ---- variables

  pub with_variable_agrees : far.kind ≡ near.kind → (var : NamedVar) (ty : Option Ty) →
      EnvironmentsAgree by (with_variable near var ty) (with_variable far (renamed_var by var) ty)
  with_variable_agrees same var ty = record {
    structs = agree.structs;
    constants = agree.constants;
    next = agree.next;
    units = agree.units;
    vars =
        ap (λ vars. vars ++ record { name = var.name.text; place = by.place var.name.place; ty = ty; role = var.role } ∷ []) agree.vars
        ∙ sym
        (map-append (placed_variable by.place) near.vars
        (record { name = var.name.text; place = var.name.place; ty = ty; role = var.role } ∷ []));
    kind = inr same;
    result = agree.result;
  }

  optional_written : (ty : Option NamedType) →
      option_map (written_type far.constants) (option_map (renamed_type by) ty) ≡ option_map (written_type near.constants) ty
  optional_written (Some ty) = ap Some (written_same ty)
  optional_written None = refl

  optional_lengths_same : (ty : Option NamedType) →
      optional_lengths far (option_map (renamed_type by) ty) ≡ placed_failures by.place (optional_lengths near ty)
  optional_lengths_same (Some ty) = lengths_same ty
  optional_lengths_same None = refl

  pub variable_agrees : far.kind ≡ near.kind → (var : NamedVar) → DeclaringsAgree by (after_variable var near) (after_variable (renamed_var by var) far)
  variable_agrees same var = record {
    env =
        subst
        (λ ty. EnvironmentsAgree by (with_variable near var (option_map (written_type near.constants) var.ty)) (with_variable far (renamed_var by var) ty))
        (sym (optional_written var.ty)) (with_variable_agrees same var (option_map (written_type near.constants) var.ty));
    failures = optional_lengths_same var.ty;
  }

  parameter_by : (test : Bool) → far.kind ≡ near.kind → (var : NamedVar) →
      DeclaringsAgree by (if test then after_variable var near else unchanged near)
      (if test then after_variable (renamed_var by var) far else unchanged far)
  parameter_by true same var = variable_agrees same var
  parameter_by false same var = record { env = agree; failures = refl }

  pub parameter_agrees : far.kind ≡ near.kind → (var : NamedVar) → DeclaringsAgree by (after_parameter var near) (after_parameter (renamed_var by var) far)
  parameter_agrees same var = parameter_by (is_parameter var.role) same var

kind_by : (test : Bool) (var : NamedVar) (env : Environment) → (if test then after_variable var env else unchanged env).env.kind ≡ env.kind
kind_by true var env = refl
kind_by false var env = refl

-- a parameter leaves the kind of the unit
pub parameter_kind : (var : NamedVar) (env : Environment) → (after_parameter var env).env.kind ≡ env.kind
parameter_kind var env = kind_by (is_parameter var.role) var env

-- declarations one after another
pub then_agrees : (by : Renaming) (near far : Declaring) (near_next far_next : Environment → Declaring) → DeclaringsAgree by near far →
    DeclaringsAgree by (near_next near.env) (far_next far.env) → DeclaringsAgree by (and_then near near_next) (and_then far far_next)
then_agrees by near far near_next far_next first second = record {
  env = second.env;
  failures = ap₂ (λ xs ys. xs ++ ys) first.failures second.failures ∙ both_placed by.place near.failures (near_next near.env).failures;
}

pub parameters_agree : (by : Renaming) (vars : List NamedVar) (near far : Environment) → EnvironmentsAgree by near far → far.kind ≡ near.kind →
    DeclaringsAgree by (after_parameters vars near) (after_parameters (map (renamed_var by) vars) far)
parameters_agree by [] near far agree same = record { env = agree; failures = refl }
parameters_agree by (var ∷ rest) near far agree same =
    let first : DeclaringsAgree by (after_parameter var near) (after_parameter (renamed_var by var) far) = parameter_agrees by near far agree same var in
    then_agrees by (after_parameter var near) (after_parameter (renamed_var by var) far) (after_parameters rest)
    (after_parameters (map (renamed_var by) rest)) first
    (parameters_agree by rest (after_parameter var near).env (after_parameter (renamed_var by var) far).env first.env
    (parameter_kind (renamed_var by var) far ∙ same ∙ sym (parameter_kind var near)))
