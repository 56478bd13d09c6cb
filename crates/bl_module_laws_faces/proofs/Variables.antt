-- The first variables of a unit are its parameters, with their types.
use Rattle.std.proofs.Common.{◌≡◌, true, List, [], ◌∷◌, ◌++◌, length, drop, map, take, Some, refl, sym, ap, ◌∙◌, append-nil, append_assoc}
use Rattle.std.specs.Prelude.{Bool, ◌&&◌, nat_le, option_and_then}
use Rattle.std.specs.List.{list_all}
use Rattle.std.proofs.Math.Seq.{drop-append_seam}
use Rattle.std.proofs.lemmas.List.Elements.{filter_map-append}
use Rattle.bl_tree.proofs.Basics.{and_first, and_second}
use Rattle.bl_eval.proofs.OperatorFits.{where_holds}
use Rattle.bl_module_laws_faces.proofs.Bodies.{body_grown}
use Rattle.bl_module_laws_faces.proofs.Elements.{typed_param, typed_params}
use Rattle.bl_names.proofs.PieceLemmas.{role_marks}
use Rattle.bl_names.specs.Named.{block_piece, named_unit, named_var, opened, params_piece, role_piece}
use Rattle.bl_names_scopes.specs.Marks.{param_marks}
use Rattle.bl_names_scopes.specs.Scopes.{Scopes, after}
use Rattle.bl_names_tree.specs.declared.item.NamedConstant.{NamedConstant}
use Rattle.bl_names_tree.specs.declared.item.NamedUnit.{NamedUnit}
use Rattle.bl_names_tree.specs.declared.item.NamedVar.{NamedVar}
use Rattle.bl_names_tree.specs.Placed.{DeclaredBefore, behind_unit, head_placed, holds_if, in_turn, parameters, roles_placed, stmt_step, type_placed, unit_step}
use Rattle.bl_names_tree.specs.Placed.{var_placed, with_parameters}
use Rattle.bl_parse_tree.specs.declared.item.RawParam.{RawParam}
use Rattle.bl_parse_tree.specs.declared.item.RawUnit.{RawUnit}
use Rattle.bl_tree.specs.declared.tree.Role.{Role}
use Rattle.bl_tree.specs.declared.tree.Role.TheVariants as role
use Rattle.bl_tree.specs.declared.tree.Var.{Var}
use Rattle.bl_tree.specs.Program.{is_input, is_output}
use Rattle.bl_tree.specs.Reduce.{joined}
use Rattle.bl_types.specs.declared.environment.Environment.{Environment}
use Rattle.bl_types.specs.declared.environment.Variable.{Variable}
use Rattle.bl_types.specs.Declarations.{after_parameter, after_parameters, is_parameter, with_variable}
use Rattle.bl_types.specs.Units.{after_head, after_unit, entered, var_of, vars_of}
use Rattle.bl_types_laws.proofs.Heads.{is_local, locals_pass, parameter_is, parameters_append}
use Rattle.bl_types_laws.proofs.NamedHeads.{head_long}
use Rattle.bl_types_laws.proofs.Standing.{made_of}
use Rattle.bl_types_laws.specs.Standing.{BetweenUnits, unit_named}
use Rattle.bl_types_laws.specs.Within.{known_in}

-- ---- parameters of one role

module _ (of : Role) (parameter : is_parameter of ≡ true) where
  param_known : (param : RawParam) (scopes : Scopes) (env : Environment) →
      (after_parameter (named_var scopes param.name (Some param.ty) of) env).env
      ≡ with_variable env (named_var scopes param.name (Some param.ty) of) (Some (typed_param env.constants of scopes param).ty)
  param_known param scopes env = parameter_is (named_var scopes param.name (Some param.ty) of) env parameter

  -- parameters have the types that are written
  pub params_known : (params : List RawParam) (scopes : Scopes) (env : Environment) →
      vars_of (after_parameters ((role_piece of params).vars scopes) env).env.vars ≡ vars_of env.vars ++ typed_params env.constants of scopes params
  params_known [] scopes env = sym (append-nil (vars_of env.vars))
  params_known (param ∷ params) scopes env =
      let var : NamedVar = named_var scopes param.name (Some param.ty) of in
      let typed : Var = typed_param env.constants of scopes param in
      let next : Environment = with_variable env var (Some typed.ty) in
      let last : Variable = record { name = param.name.text; place = param.name.place; ty = Some typed.ty; role = of } in
      let behind : Scopes = after scopes (param_marks param) in
      let later : List Var = typed_params env.constants of behind params in
      ap (λ (env : Environment). vars_of (after_parameters ((role_piece of params).vars behind) env).env.vars) (param_known param scopes env)
      ∙ params_known params behind next
      ∙ ap (λ (vars : List Var). vars ++ later) (filter_map-append var_of env.vars (last ∷ []))
      ∙ append_assoc (vars_of env.vars) (typed ∷ []) later

  params_constants : (params : List RawParam) (scopes : Scopes) (env : Environment) →
      (after_parameters ((role_piece of params).vars scopes) env).env.constants ≡ env.constants
  params_constants [] scopes env = refl
  params_constants (param ∷ params) scopes env =
      params_constants params (after scopes (param_marks param)) (after_parameter (named_var scopes param.name (Some param.ty) of) env).env
      ∙ ap (λ (env : Environment). env.constants) (param_known param scopes env)

-- ---- a unit

module _ (constants : List NamedConstant) (scopes : Scopes) (def : RawUnit) (env : Environment) (between_units : BetweenUnits env)
    (named : unit_named constants env.units (named_unit scopes def) ≡ true) (counts : DeclaredBefore)
    (step : unit_step constants (named_unit scopes def) (known_in env) ≡ Some counts)
    (none : (after_unit constants (named_unit scopes def) env).failures ≡ []) where
  abbrev earlier : DeclaredBefore
  earlier = known_in env

  abbrev pub ins : List Var
  ins = typed_params env.constants role.Input (opened scopes) def.inputs

  -- the scopes that the inputs leave
  abbrev pub between : Scopes
  between = after (opened scopes) (joined (map param_marks def.inputs))

  abbrev pub outs : List Var
  outs = typed_params env.constants role.Output between def.outputs

  abbrev unit : NamedUnit
  unit = named_unit scopes def

  abbrev params : List NamedVar
  params = (params_piece def).vars (opened scopes)

  abbrev locals : List NamedVar
  locals = (block_piece def.body).vars (after (opened scopes) (params_piece def).marks)

  abbrev start : Environment
  start = entered unit env

  locals_local : list_all is_local locals ≡ true
  locals_local =
      let inputs : Bool = list_all (λ (var : NamedVar). is_input var.role) (take unit.inputs unit.vars) in
      let outputs : Bool = list_all (λ (var : NamedVar). is_output var.role) (take unit.outputs (drop unit.inputs unit.vars)) in
      let rest : Bool = list_all is_local (drop (parameters unit) unit.vars) in
      let holds = where_holds (head_placed earlier unit) (option_and_then (behind_unit unit)
      (in_turn (map (stmt_step unit.vars constants) unit.body) (with_parameters earlier unit))) counts step in
      let roles : roles_placed unit ≡ true = and_first (roles_placed unit) (list_all (var_placed earlier) (take (parameters unit) unit.vars)
      && holds_if (type_placed earlier) unit.result) holds.0 in
      let all : list_all is_local (drop (parameters unit) unit.vars) ≡ true =
      and_second outputs rest
      (and_second inputs (outputs && rest) (and_second (nat_le (parameters unit) (length unit.vars)) (inputs && (outputs && rest)) roles)) in
      ap (list_all is_local) (sym (drop-append_seam params locals) ∙ ap (λ n. drop n unit.vars) (head_long def (opened scopes))) ∙ all

  inside_is : (after_parameters unit.vars start).env ≡ (after_parameters params start).env
  inside_is = parameters_append params locals start ∙ locals_pass locals (after_parameters params start).env locals_local

  abbrev first : List NamedVar
  first = (role_piece role.Input def.inputs).vars (opened scopes)

  abbrev middle : Environment
  middle = (after_parameters first start).env

  same_between : after (opened scopes) (role_piece role.Input def.inputs).marks ≡ between
  same_between = ap (after (opened scopes)) (role_marks role.Input def.inputs)

  -- after the head the parameters are known
  head_known : vars_of (after_head unit env).env.vars ≡ ins ++ outs
  head_known =
      ap (λ (env : Environment). vars_of env.vars) inside_is
      ∙ ap (λ (s : Scopes). vars_of (after_parameters (first ++ (role_piece role.Output def.outputs).vars s) start).env.vars) same_between
      ∙ ap (λ (env : Environment). vars_of env.vars) (parameters_append first ((role_piece role.Output def.outputs).vars between) start)
      ∙ params_known role.Output refl def.outputs between middle
      ∙ (λ i. params_known role.Input refl def.inputs (opened scopes) start i
      ++ typed_params (params_constants role.Input refl def.inputs (opened scopes) start i) role.Output between def.outputs)

  -- what is made of a unit begins with its parameters
  pub record VariablesAre : Type 0 where
    pub more : List Var
    pub are : (made_of constants unit env).vars ≡ ins ++ (outs ++ more)

  pub variables_are : VariablesAre
  variables_are =
      let grown = body_grown constants unit env between_units named counts step none in
      record {
        more = vars_of grown.vars;
        are =
            ap vars_of grown.has_vars ∙ filter_map-append var_of (after_head unit env).env.vars grown.vars
            ∙ ap (λ (vars : List Var). vars ++ vars_of grown.vars) head_known ∙ append_assoc ins outs (vars_of grown.vars);
      }
