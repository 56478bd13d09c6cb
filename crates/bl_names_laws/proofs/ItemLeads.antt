-- The positions in structs, constants and units lead to what the uses in their places are bound to.
use Rattle.std.proofs.Common.{◌≡◌, ℕ, suc, ◌+◌, List, [], ◌∷◌, ◌++◌, map, length, take, Some, None, refl, sym, ap, subst, ◌∙◌, append-nil, append_assoc, arith}
use Rattle.std.specs.Prelude.{option_and_then, option_map, if◌then◌else◌}
use Rattle.std.proofs.Math.Seq.{take-append_seam}
use Rattle.std.proofs.lemmas.List.{length-append}
use Rattle.bl_tree.proofs.Basics.{plus_none}
use Rattle.bl_tree.specs.declared.tree.Role.{Role}
use Rattle.bl_tree.specs.declared.tree.Role.TheVariants as role
use Rattle.bl_tree.specs.declared.tree.UnitKind.{UnitKind}
use Rattle.bl_tree.specs.declared.tree.UnitKind.TheVariants as unit
use Rattle.bl_tree.specs.Reduce.{joined}
use Rattle.bl_names_tree.specs.declared.item.NamedConstant.{NamedConstant}
use Rattle.bl_names_tree.specs.declared.item.NamedStruct.{NamedStruct}
use Rattle.bl_names_tree.specs.declared.item.NamedUnit.{NamedUnit}
use Rattle.bl_names_tree.specs.declared.item.NamedVar.{NamedVar}
use Rattle.bl_names_tree.specs.declared.named.Named.{Named}
use Rattle.bl_names_tree.specs.Placed.{holds_of, item_step, struct_placed, unit_step, with_constant}
use Rattle.bl_parse_tree.specs.declared.item.RawItem.{RawItem}
use Rattle.bl_parse_tree.specs.declared.item.RawItem.TheVariants as item
use Rattle.bl_parse_tree.specs.declared.item.RawParam.{RawParam}
use Rattle.bl_parse_tree.specs.declared.item.RawStruct.{RawStruct}
use Rattle.bl_parse_tree.specs.declared.item.RawUnit.{RawUnit}
use Rattle.bl_parse_tree.specs.declared.name.Name.{Name}
use Rattle.bl_parse_tree.specs.declared.stmt.RawConstant.{RawConstant}
use Rattle.bl_names_scopes.specs.declared.kind.Kind.TheVariants as kind
use Rattle.bl_names_scopes.specs.declared.scopes.Counts.{Counts}
use Rattle.bl_names_scopes.specs.Marks.{Marks, closes, constant_marks, declares, expr_marks, field_mark, field_type_marks, in_scope, inside_unit, item_marks}
use Rattle.bl_names_scopes.specs.Marks.{kind_of_unit, marks_of, optional, param_marks, struct_marks, type_marks, unit_marks}
use Rattle.bl_names_scopes.specs.Rules.{Passes}
use Rattle.bl_names_scopes.specs.Scopes.{Scopes, after, count_of, enter, file_scope}
use Rattle.bl_names.specs.Named.{along, block_piece, constants_in_unit, constants_of, named_constant, named_field, named_program, named_struct, named_unit}
use Rattle.bl_names.specs.Named.{opened, param_piece, params_piece, role_piece, structs_of, units_of}
use Rattle.bl_names.specs.Naming.{named_type}
use Rattle.bl_names.specs.Order.{kind_of_item}
use Rattle.bl_names.proofs.BelowLemmas.{Below, constant_below, struct_below}
use Rattle.bl_names.proofs.FitLemmas.{Fits, fits_behind, fits_first, fits_second, program_fits}
use Rattle.bl_names.proofs.ItemLemmas.{struct_scopes, unit_scopes}
use Rattle.bl_names.proofs.PastLemmas.{enter-behind}
use Rattle.bl_names.proofs.PieceLemmas.{block_marks, role_marks}
use Rattle.bl_names.proofs.PlacedExpr.{earlier}
use Rattle.bl_names.proofs.PlacedItem.{struct_is, unit_holds}
use Rattle.bl_names.proofs.PlacedStmt.{Within, closed_is, constant_is, within_first, within_one, within_second}
use Rattle.bl_names.proofs.StillLemmas.{Still, after-append, still_all, still_optional, still_type, still_value}
use Rattle.bl_names_laws.specs.Bound.{UsesAreBound, EachLeads, uses_of}
use Rattle.bl_names_laws.specs.Referents.{Referents, field_leads, item_leads, items_lead, leads_if, stmt_leads, struct_leads, type_leads, unit_at, unit_leads}
use Rattle.bl_names_laws.specs.Referents.{var_leads}
use Rattle.bl_names_laws.proofs.Bindings.{bindings, bindings_append, bindings_behind, bindings_declared, bindings_fields, bindings_own, each_bound}
use Rattle.bl_names_laws.proofs.ExprLeads.{joined_led, optional_led, type_led}
use Rattle.bl_names_laws.proofs.Listed.{Listed, at_position, declare_listed}
use Rattle.bl_names_laws.proofs.StmtLeads.{Good, Leading, constant_leading, every_block, good_all, good_then, lead_all, variable_leading}
use Rattle.bl_names.proofs.PlacedProgram.{whole}

module _ (named : Named) where
  -- ---- structs

  struct_led : (scopes : Scopes) (def : RawStruct) → Listed named [] scopes → Fits scopes (struct_marks def) →
      struct_leads named (named_struct scopes def) ≡ bindings scopes (struct_marks def)
  struct_led scopes def listed fits =
      let types = joined (map field_type_marks def.fields) in
      let fields = map field_mark def.fields in
      let still : Still types = still_all field_type_marks def.fields (λ k d within. still_type _) in
      joined_led named [] scopes scopes.counts listed field_type_marks (field_leads named) (named_field scopes) def.fields (λ field. still_type field.ty)
      (λ k d within. type_led named [] scopes scopes.counts listed _)
      (fits_first scopes types (in_scope fields) (fits_first scopes (types ++ in_scope fields) (declares def.name kind.Struct ∷ []) fits))
      ∙ sym (append-nil (bindings scopes types))
      ∙ ap (λ l. bindings scopes types ++ l) (sym (bindings_own scopes fields ∙ bindings_fields (opened scopes) def.fields))
      ∙ sym (bindings_behind scopes types (in_scope fields) still)
      ∙ sym (bindings_declared scopes (types ++ in_scope fields) def.name kind.Struct)

  -- ---- parameters

  param_good : (vars : List NamedVar) (role : Role) (param : RawParam) → Good named vars (var_leads named) (param_piece role param)
  param_good vars role param scopes listed fits own constants =
      variable_leading named vars scopes (type_marks param.ty) (type_leads named (named_type scopes param.ty)) param.name (Some param.ty) role
      (still_type param.ty)
      (type_led named vars scopes scopes.counts listed param.ty (fits_first scopes (type_marks param.ty) (declares param.name kind.Variable ∷ []) fits))
      listed own

  role_good : (vars : List NamedVar) (role : Role) (params : List RawParam) → Good named vars (lead_all named vars (var_leads named)) (role_piece role params)
  role_good vars role params = good_all named vars (param_piece role) (var_leads named) params (λ k d within. param_good vars role _)

  -- what is made of parameters is what they declare
  role_made : (role : Role) (params : List RawParam) (scopes : Scopes) → (role_piece role params).made scopes ≡ (role_piece role params).vars scopes
  role_made role [] scopes = refl
  role_made role (param ∷ params) scopes =
      ap (λ rest. (param_piece role param).made scopes ∷ rest) (role_made role params (after scopes (param_marks param)))

  role_long : (role : Role) (params : List RawParam) (scopes : Scopes) → length ((role_piece role params).vars scopes) ≡ length params
  role_long role [] scopes = refl
  role_long role (param ∷ params) scopes = ap (λ n. suc n) (role_long role params (after scopes (param_marks param)))

  lead_append : {A : Type 0} (leads : A → Referents) (xs ys : List A) → joined (map leads (xs ++ ys)) ≡ joined (map leads xs) ++ joined (map leads ys)
  lead_append leads [] ys = refl
  lead_append leads (x ∷ xs) ys =
      ap (λ rest. leads x ++ rest) (lead_append leads xs ys) ∙ sym (append_assoc (leads x) (joined (map leads xs)) (joined (map leads ys)))

  -- those of a unit stand first among its variables
  params_led : (ins outs locals : List NamedVar) (m n : ℕ) → length ins ≡ m → length outs ≡ n →
      joined (map (var_leads named) (take (m + n) ((ins ++ outs) ++ locals)))
      ≡ joined (map (var_leads named) ins) ++ joined (map (var_leads named) outs)
  params_led ins outs locals m n one two =
      let long : length (ins ++ outs) ≡ m + n = length-append ins outs ∙ (λ i. one i + two i) in
      (λ i. joined (map (var_leads named) (take (sym long i) ((ins ++ outs) ++ locals))))
      ∙ ap (λ vars. joined (map (var_leads named) vars)) (take-append_seam (ins ++ outs) locals)
      ∙ lead_append (var_leads named) ins outs

  -- ---- units

  all_of_them : (a b n : ℕ) → a ≡ 0 → b ≡ a + n → n ≡ b
  all_of_them a b n none is = omega arith

  -- the marks in a unit, with the result behind the parameters
  inside_are : (def : RawUnit) → inside_unit def
      ≡ ((role_piece role.Input def.inputs).marks ++ (role_piece role.Output def.outputs).marks)
      ++ (optional type_marks def.result ++ (block_piece def.body).marks)
  inside_are def =
      let ins = (role_piece role.Input def.inputs).marks in
      let outs = (role_piece role.Output def.outputs).marks in
      (λ i. sym (role_marks role.Input def.inputs) i ++ (sym (role_marks role.Output def.outputs) i
      ++ (optional type_marks def.result ++ sym (block_marks def.body) i)))
      ∙ sym (append_assoc ins outs (optional type_marks def.result ++ (block_piece def.body).marks))

  -- a unit stands at the position that it is declared with
  unit_there : (vars : List NamedVar) (of : UnitKind) (counts : Counts) (name : Name) → unit_at named counts.units ≡ Some name →
      at_position named vars (kind_of_unit of) (count_of counts (kind_of_unit of)) ≡ Some name
  unit_there vars unit.Function counts name is = is
  unit_there vars unit.Activity counts name is = is

  module _ (scopes : Scopes) (def : RawUnit) (none : scopes.counts.variables ≡ 0) (listed : (vars : List NamedVar) → Listed named vars scopes)
      (fits : Fits scopes (unit_marks def)) (within : Within named.constants scopes.counts.constants (constants_in_unit scopes def))
      (units : Within named.units scopes.counts.units (named_unit scopes def ∷ [])) where
    abbrev vars : List NamedVar
    vars = (named_unit scopes def).vars

    abbrev in_marks : Marks
    in_marks = (role_piece role.Input def.inputs).marks

    abbrev out_marks : Marks
    out_marks = (role_piece role.Output def.outputs).marks

    abbrev result_marks : Marks
    result_marks = optional type_marks def.result

    abbrev body_marks : Marks
    body_marks = (block_piece def.body).marks

    abbrev one : Scopes
    one = after (opened scopes) in_marks

    abbrev two : Scopes
    two = after (opened scopes) (params_piece def).marks

    abbrev three : Scopes
    three = after two body_marks

    abbrev ins : List NamedVar
    ins = (role_piece role.Input def.inputs).vars (opened scopes)

    abbrev outs : List NamedVar
    outs = (role_piece role.Output def.outputs).vars one

    abbrev locals : List NamedVar
    locals = (block_piece def.body).vars two

    abbrev param_constants : List NamedConstant
    param_constants = (role_piece role.Input def.inputs).constants (opened scopes) ++ (role_piece role.Output def.outputs).constants one

    abbrev body_constants : List NamedConstant
    body_constants = (block_piece def.body).constants two

    inside_fits : Fits (opened scopes) ((in_marks ++ out_marks) ++ (result_marks ++ body_marks))
    inside_fits = subst (Fits (opened scopes)) (inside_are def)
        (fits_first (opened scopes) (inside_unit def) (closes ∷ [])
        (fits_first scopes (in_scope (inside_unit def)) (declares def.name (kind_of_unit def.kind) ∷ []) fits).1)

    rest_fits : Fits two (result_marks ++ body_marks)
    rest_fits = fits_second (opened scopes) (in_marks ++ out_marks) (result_marks ++ body_marks) inside_fits

    head : Leading named vars (opened scopes) two
        (joined (map (var_leads named) ((role_piece role.Input def.inputs).made (opened scopes)))
        ++ joined (map (var_leads named) ((role_piece role.Output def.outputs).made one)))
        (bindings (opened scopes) (in_marks ++ out_marks)) (ins ++ outs) param_constants
    head =
        good_then named vars (role_piece role.Input def.inputs) (role_piece role.Output def.outputs) (lead_all named vars (var_leads named))
        (lead_all named vars (var_leads named)) (opened scopes) (role_good vars role.Input def.inputs) (role_good vars role.Output def.outputs)
        (tt, listed vars) (fits_first (opened scopes) (in_marks ++ out_marks) (result_marks ++ body_marks) inside_fits)
        (record { before = []; rest = locals; there = refl; is_at = sym none })
        (within_first named.constants scopes.counts.constants param_constants body_constants within)

    body : Leading named vars two three (joined (map (stmt_leads named vars) ((block_piece def.body).made two))) (bindings two body_marks) locals
        body_constants
    body =
        every_block named vars def.body two head.listed
        (fits_behind two result_marks body_marks (still_optional type_marks def.result still_type) rest_fits)
        (record {
          before = ins ++ outs;
          rest = [];
          there = ap (λ l. (ins ++ outs) ++ l) (sym (append-nil locals));
          is_at = all_of_them scopes.counts.variables two.counts.variables (length (ins ++ outs)) none head.more_vars;
        })
        (subst (λ at. Within named.constants at body_constants) (sym head.more_constants)
        (within_second named.constants scopes.counts.constants param_constants body_constants within))

    result_led : leads_if (type_leads named) (option_map (named_type two) def.result) ≡ bindings two result_marks
    result_led = optional_led named vars two two.counts head.listed type_marks (type_leads named) (named_type two) def.result
        (type_led named vars two two.counts head.listed) (fits_first two result_marks body_marks rest_fits)

    pub unit_led : unit_leads named (named_unit scopes def) ≡ bindings scopes (unit_marks def)
    unit_led =
        (λ i. (params_led ins outs locals (length def.inputs) (length def.outputs) (role_long role.Input def.inputs (opened scopes))
        (role_long role.Output def.outputs one)
        ∙ (λ j. joined (map (var_leads named) (sym (role_made role.Input def.inputs (opened scopes)) j))
        ++ joined (map (var_leads named) (sym (role_made role.Output def.outputs one) j)))
        ∙ head.is_led) i
        ++ (result_led i ++ body.is_led i))
        ∙ ap (λ l. bindings (opened scopes) (in_marks ++ out_marks) ++ l)
        (sym (bindings_behind two result_marks body_marks (still_optional type_marks def.result still_type)))
        ∙ sym (bindings_append (opened scopes) (in_marks ++ out_marks) (result_marks ++ body_marks))
        ∙ ap (bindings (opened scopes)) (sym (inside_are def))
        ∙ sym (bindings_own scopes (inside_unit def))
        ∙ sym (bindings_declared scopes (in_scope (inside_unit def)) def.name (kind_of_unit def.kind))

    -- the unit is visible behind it, and no variable of it is
    behind_is : enter (record scopes { counts = three.counts }) (declares def.name (kind_of_unit def.kind)) ≡ after scopes (unit_marks def)
    behind_is =
        ap (λ s. enter s (declares def.name (kind_of_unit def.kind))) (sym (closed_is scopes three (body.outer ∙ head.outer)))
        ∙ unit_scopes scopes three def (sym (after-append (opened scopes) (params_piece def).marks body_marks))

    pub unit_listed : (others : List NamedVar) → Listed named others (after scopes (unit_marks def))
    unit_listed others =
        subst (Listed named others) behind_is
        (declare_listed named others (record scopes { counts = three.counts }) def.name (kind_of_unit def.kind)
        (unit_there others def.kind three.counts def.name
        (ap (unit_at named) (body.same_units ∙ head.same_units)
        ∙ ap (option_map (λ (unit : NamedUnit). unit.name)) (within_one named.units scopes.counts.units (named_unit scopes def) [] units)))
        (listed others))

  -- ---- items

  -- behind an item, which gives these structs, constants and units
  record ItemLed (one : RawItem) (scopes new : Scopes) (structs : List NamedStruct) (constants : List NamedConstant) (units : List NamedUnit) : Type 0 where
    pub is_led : item_leads named (kind_of_item one) (earlier scopes) ≡ bindings scopes (item_marks one)
    pub listed : (vars : List NamedVar) → Listed named vars new
    pub steps : item_step named (kind_of_item one) (earlier scopes) ≡ Some (earlier new)
    pub below : Below new
    pub no_variables : new.counts.variables ≡ 0
    pub more_structs : new.counts.structs ≡ scopes.counts.structs + length structs
    pub more_constants : new.counts.constants ≡ scopes.counts.constants + length constants
    pub more_units : new.counts.units ≡ scopes.counts.units + length units

  struct_item : (scopes : Scopes) (def : RawStruct) → Below scopes → scopes.counts.variables ≡ 0 →
      ((vars : List NamedVar) → Listed named vars scopes) →
      Fits scopes (struct_marks def) → Within named.structs scopes.counts.structs (named_struct scopes def ∷ []) →
      ItemLed (item.Struct def) scopes (after scopes (struct_marks def)) (named_struct scopes def ∷ []) [] []
  struct_item scopes def below none listed fits structs =
      let there = within_one named.structs scopes.counts.structs (named_struct scopes def) [] structs in
      subst (λ new. ItemLed (item.Struct def) scopes new (named_struct scopes def ∷ []) [] []) (struct_scopes scopes def)
      (record {
        is_led = ap (leads_if (struct_leads named)) there ∙ struct_led scopes def (listed []) fits;
        listed = λ vars. declare_listed named vars scopes def.name kind.Struct (ap (option_map (λ (one : NamedStruct). one.name)) there) (listed vars);
        steps = ap (λ test. if test then Some (record (earlier scopes) { structs = scopes.counts.structs + 1 }) else None)
            (ap (holds_of (struct_placed (earlier scopes))) there ∙ struct_is scopes def below fits);
        below = struct_below scopes def.name below;
        no_variables = none;
        more_structs = refl;
        more_constants = plus_none scopes.counts.constants;
        more_units = plus_none scopes.counts.units;
      })

  constant_item : (scopes : Scopes) (def : RawConstant) → Below scopes → scopes.counts.variables ≡ 0 →
      ((vars : List NamedVar) → Listed named vars scopes) →
      Fits scopes (constant_marks def) → Within named.constants scopes.counts.constants (named_constant scopes def ∷ []) →
      ItemLed (item.Constant def) scopes (after scopes (constant_marks def)) [] (named_constant scopes def ∷ []) []
  constant_item scopes def below none listed fits constants =
      let marks = optional type_marks def.ty ++ expr_marks def.value in
      let entered = enter-behind scopes marks def.name kind.Constant (still_value def.ty (Some def.value)) in
      record {
        is_led = (constant_leading named [] scopes def (listed []) fits constants).is_led;
        listed = λ vars. (constant_leading named vars scopes def (listed vars) fits constants).listed;
        steps = ap (λ test. if test then Some (with_constant (earlier scopes)) else None)
            (constant_is [] named.constants scopes def below (fits_first scopes marks (declares def.name kind.Constant ∷ []) fits) constants)
            ∙ ap (λ s. Some (earlier s)) entered;
        below = subst Below entered (constant_below scopes def.name below);
        no_variables = ap (λ s. s.counts.variables) (sym entered) ∙ none;
        more_structs = ap (λ s. s.counts.structs) (sym entered) ∙ plus_none scopes.counts.structs;
        more_constants = ap (λ s. s.counts.constants) (sym entered);
        more_units = ap (λ s. s.counts.units) (sym entered) ∙ plus_none scopes.counts.units;
      }

  unit_item : (scopes : Scopes) (def : RawUnit) → Below scopes → scopes.counts.variables ≡ 0 → ((vars : List NamedVar) → Listed named vars scopes) →
      Fits scopes (unit_marks def) → Within named.constants scopes.counts.constants (constants_in_unit scopes def) →
      Within named.units scopes.counts.units (named_unit scopes def ∷ []) →
      ItemLed (item.Unit def) scopes (after scopes (unit_marks def)) [] (constants_in_unit scopes def) (named_unit scopes def ∷ [])
  unit_item scopes def below none listed fits constants units =
      let holds = unit_holds scopes def named.constants below none fits constants in
      let there = within_one named.units scopes.counts.units (named_unit scopes def) [] units in
      record {
        is_led = ap (leads_if (unit_leads named)) there ∙ unit_led scopes def none listed fits constants units;
        listed = unit_listed scopes def none listed fits constants units;
        steps = ap (option_and_then (λ def. unit_step named.constants def (earlier scopes))) there ∙ holds.steps;
        below = holds.below;
        no_variables = holds.no_variables;
        more_structs = holds.same_structs ∙ plus_none scopes.counts.structs;
        more_constants = holds.more_constants;
        more_units = holds.more_units;
      }

  item_led : (one : RawItem) (scopes : Scopes) → Below scopes → scopes.counts.variables ≡ 0 → ((vars : List NamedVar) → Listed named vars scopes) →
      Fits scopes (item_marks one) → Within named.structs scopes.counts.structs (structs_of scopes one) →
      Within named.constants scopes.counts.constants (constants_of scopes one) → Within named.units scopes.counts.units (units_of scopes one) →
      ItemLed one scopes (after scopes (item_marks one)) (structs_of scopes one) (constants_of scopes one) (units_of scopes one)
  item_led (item.Struct def) scopes below none listed fits structs constants units = struct_item scopes def below none listed fits structs
  item_led (item.Constant def) scopes below none listed fits structs constants units = constant_item scopes def below none listed fits constants
  item_led (item.Unit def) scopes below none listed fits structs constants units = unit_item scopes def below none listed fits constants units

  items_led : (items : List RawItem) (scopes : Scopes) → Below scopes → scopes.counts.variables ≡ 0 →
      ((vars : List NamedVar) → Listed named vars scopes) →
      Fits scopes (marks_of items) → Within named.structs scopes.counts.structs (along structs_of scopes items) →
      Within named.constants scopes.counts.constants (along constants_of scopes items) →
      Within named.units scopes.counts.units (along units_of scopes items) →
      items_lead named (map kind_of_item items) (Some (earlier scopes)) ≡ bindings scopes (marks_of items)
  items_led [] scopes below none listed fits structs constants units = refl
  items_led (one ∷ items) scopes below none listed fits structs constants units =
      let new = after scopes (item_marks one) in
      let first = item_led one scopes below none listed (fits_first scopes (item_marks one) (marks_of items) fits)
      (within_first named.structs scopes.counts.structs (structs_of scopes one) (along structs_of new items) structs)
      (within_first named.constants scopes.counts.constants (constants_of scopes one) (along constants_of new items) constants)
      (within_first named.units scopes.counts.units (units_of scopes one) (along units_of new items) units) in
      let later = items_led items new first.below first.no_variables first.listed (fits_second scopes (item_marks one) (marks_of items) fits)
      (subst (λ at. Within named.structs at (along structs_of new items)) (sym first.more_structs)
      (within_second named.structs scopes.counts.structs (structs_of scopes one) (along structs_of new items) structs))
      (subst (λ at. Within named.constants at (along constants_of new items)) (sym first.more_constants)
      (within_second named.constants scopes.counts.constants (constants_of scopes one) (along constants_of new items) constants))
      (subst (λ at. Within named.units at (along units_of new items)) (sym first.more_units)
      (within_second named.units scopes.counts.units (units_of scopes one) (along units_of new items) units)) in
      (λ i. first.is_led i ++ items_lead named (map kind_of_item items) (first.steps i))
      ∙ ap (λ l. bindings scopes (item_marks one) ++ l) later
      ∙ sym (bindings_append scopes (item_marks one) (marks_of items))

-- the positions in a program lead to what its uses are bound to
pub uses_are_bound : (items : List RawItem) (bytes : ℕ) → Passes items → UsesAreBound items (named_program items bytes)
uses_are_bound items bytes passes =
    let named = named_program items bytes in
    let fits = program_fits items passes in
    subst (EachLeads items (uses_of items))
    (sym (items_led named items file_scope (tt, tt) refl (λ vars. (tt, tt)) fits (whole named.structs) (whole named.constants) (whole named.units)))
    (each_bound items [] (marks_of items) refl fits)
