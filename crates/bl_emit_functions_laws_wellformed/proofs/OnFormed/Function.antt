-- No clause fails in the C function of a function.
use Rattle.std.proofs.Common.{◌≡◌, ℕ, zero, suc, ◌+◌, ◌<◌, pos, Bool, true, false, ◌&&◌, ◌||◌, List, [], ◌∷◌, ◌++◌}
use Rattle.std.proofs.Common.{map, take, length}
use Rattle.std.proofs.Common.{Option, Some, None, refl, sym, ap, ◌∙◌, subst, arith, codes}
use Rattle.std.proofs.lemmas.Option.{slice_get_within}
use Rattle.std.specs.Prelude.{is_none, is_some, option_map, slice_get, unwrap_or}
use Rattle.bl_tree.proofs.Basics.{and_false, get_taken}
use Rattle.bl_tree.specs.declared.c.CExpr.{CExpr}
use Rattle.bl_tree.specs.declared.c.CMember.{CMember}
use Rattle.bl_tree.specs.declared.c.CStmt.{CStmt}
use Rattle.bl_tree.specs.declared.c.CType.{CType}
use Rattle.bl_tree.specs.declared.c.CType.TheVariants.{Scalar as OfScalar}
use Rattle.bl_tree.specs.declared.scalar.Scalar.{Scalar as ScalarType}
use Rattle.bl_tree.specs.declared.scalar.Scalar.TheVariants.{Bool as OfBool}
use Rattle.bl_tree.specs.declared.tree.Role.{Role}
use Rattle.bl_tree.specs.declared.tree.Role.TheVariants.{Input, Output, Variable as OfVariable, Fixed}
use Rattle.bl_tree.specs.declared.tree.StructDef.{StructDef}
use Rattle.bl_tree.specs.declared.tree.Unit.{Unit as UnitDef}
use Rattle.bl_tree.specs.declared.tree.Var.{Var}
use Rattle.bl_tree.specs.Program.{IsWellTyped, is_input, is_output, parameters_of}
use Rattle.bl_tree.specs.Types.{scalar_in}
use Rattle.bl_tree.specs.Typing.{TypingContext, fits, inputs_of, is_activity, var_at}
use Rattle.bl_eval.proofs.PassLemmas.{all_at}
use Rattle.bl_ctext_semantics.specs.Faults.{Context, Signature}
use Rattle.bl_ctext_semantics.specs.Tables.{Table, found}
use Rattle.bl_emit_acts.specs.Acts.{c_set, is_copied}
use Rattle.bl_emit_acts.specs.declared.home.Home.{Home}
use Rattle.bl_emit_acts.specs.declared.home.Home.TheVariants.{Held, Local, Lent}
use Rattle.bl_emit_acts.specs.Expressions.{hidden, scalar_at}
use Rattle.bl_emit_acts.specs.Places.{copies_inputs, home_of, home_of_role, is_alone, place_in}
use Rattle.bl_emit_acts.specs.Trees.{c_literal, c_place, c_read}
use Rattle.bl_emit_acts.specs.Types.{c_scalar, c_type, variable_name}
use Rattle.bl_emit_functions.specs.Functions.{again_code, body_code, body_coded, c_input_copied, c_set_again, code_returns, copies_from, end_code}
use Rattle.bl_emit_functions.specs.Functions.{first_held, has_local, input_copied, local_again, locals_again, none_taken, read_code, whole_code}
use Rattle.bl_emit_functions.specs.Reads.{reads_in_block}
use Rattle.bl_emit_functions.specs.Statements.{block_codes, codes_of}
use Rattle.bl_emit_functions.specs.Trees.{c_return_zero}
use Rattle.bl_emit_acts_laws_wellformed.specs.Formed.Declared.{home_leads, leads_through, variable_of}
use Rattle.bl_emit_acts_laws_wellformed.specs.Formed.Formed.{BlockIs, ExprIs, PlaceIs}
use Rattle.bl_emit_acts_laws_wellformed.proofs.OnFormed.Acts.{block_append, block_nil, block_one, set-is}
use Rattle.bl_emit_acts_laws_wellformed.proofs.OnFormed.Judged.{literal-is, read-is}
use Rattle.bl_emit_acts_laws_wellformed.proofs.OnFormed.Operators.{hidden_is}
use Rattle.bl_emit_acts_laws_wellformed.proofs.OnFormed.Parts.{c_scalar_type}
use Rattle.bl_emit_acts_laws_wellformed.proofs.OnFormed.SiteActs.{own_place}
use Rattle.bl_emit_acts_laws_wellformed.proofs.OnFormed.Typed.{pointer_place}
use Rattle.bl_emit_acts_laws_wellformed.proofs.OnFormed.Units.{body_stands, inputs_stand}
use Rattle.bl_emit_functions_laws_simulation.proofs.OnCalls.Locals.{declared_local}
use Rattle.bl_emit_functions_laws_wellformed.specs.Formed.{IsNumbered, StandsBefore}
use Rattle.bl_emit_functions_laws_wellformed.proofs.OnFormed.Held.{held_there}
use Rattle.bl_emit_functions_laws_wellformed.proofs.OnFormed.Locals.{scalar_of_local}
use Rattle.bl_emit_functions_laws_wellformed.proofs.OnFormed.Shapes.{return-is}
use Rattle.bl_emit_functions_laws_wellformed.proofs.OnFormed.Statements.{Good, body_good}
use Rattle.bl_emit_functions_laws_wellformed.proofs.OnFormed.Variables.{declared_here, earlier_here, flag_there, my_context, my_site, n_flags, param_there}
use Rattle.bl_emit_functions_laws_wellformed.proofs.OnFormed.Variables.{plain_here, typed_here}
use Rattle.bl_eval.proofs.UnitFits.{all_listed}

module _ (structs : List StructDef) (units : List UnitDef) (entry k : ℕ) (unit : UnitDef) (keeps : IsWellTyped structs units entry)
    (there : slice_get units k ≡ Some unit)
    (function : is_activity unit.kind ≡ false) (table : Table (Table CMember)) (functions : Table Signature)
    (before : StandsBefore structs units k unit table functions) (numbers : IsNumbered structs (take k units) unit) where
  abbrev site : TypingContext
  site = my_site structs units entry k unit keeps there function table functions before numbers

  abbrev context : Context
  context = my_context structs units entry k unit keeps there function table functions before numbers

  -- ---- inputs that are copied

  pointed_by : (role : Role) (s : Option ScalarType) (alone copies : Bool) → is_input role ≡ true → home_of_role alone role (is_some s) copies ≡ Held →
      (is_output role || is_none s) ≡ true
  pointed_by Input (Some s) alone copies input is = absurd (cc)
  pointed_by Input None alone copies input is = refl
  pointed_by Output s alone copies input is = absurd (cc)
  pointed_by OfVariable s alone copies input is = absurd (cc)
  pointed_by Fixed s alone copies input is = absurd (cc)

  copied_is : (j : ℕ) (var : Var) → slice_get (parameters_of unit) j ≡ Some var → slice_get unit.vars j ≡ Some var → is_input var.role ≡ true →
      (home : Home) → home_of site (Some var) ≡ home → BlockIs context (input_copied site home j)
  copied_is j var in_params in_vars input Local is = block_nil context
  copied_is j var in_params in_vars input Lent is = block_nil context
  copied_is j var in_params in_vars input Held is =
      let pointer : (is_output var.role || is_none (scalar_in var.ty)) ≡ true =
      pointed_by var.role (scalar_in var.ty) (is_alone site var.ty) (copies_inputs site) input is in
      let param : context.variables (variable_name unit.vars j) ≡ Some (variable_of true (c_type structs var.ty)) =
      param_there structs units entry k unit keeps there function table functions before numbers j var in_params in_vars
      ∙ ap (λ p. Some (variable_of p (c_type structs var.ty))) pointer in
      let leads : leads_through site j ≡ false =
      (λ i. home_leads (function i) (home_of site (in_vars i))) ∙ ap (home_leads false) is in
      let own : PlaceIs context (leads_through site j) (c_type structs var.ty) (place_in site j []) =
      own_place site (is_copied []) context (declared_here structs units entry k unit keeps there function table functions before numbers)
      keeps.structs_stand (earlier_here structs units entry k unit keeps there function table functions before numbers)
      (typed_here structs units entry k unit keeps there function table functions before numbers)
      (plain_here structs units entry k unit keeps there function table functions before numbers) j var in_vars in
      block_one context (c_input_copied site j)
      (set-is context (leads_through site j) (c_type structs var.ty) (place_in site j []) (c_read (c_place true (variable_name unit.vars j) [])) own
      (read-is context true (c_type structs var.ty) (c_place true (variable_name unit.vars j) [])
      (pointer_place context (variable_name unit.vars j) (c_type structs var.ty) param))
      (ap (λ b. context.is_read_only && b) leads ∙ and_false context.is_read_only))

  copies_are : (base : ℕ) (vars : List Var) → ((j : ℕ) (var : Var) → slice_get vars j ≡ Some var
      → (slice_get (parameters_of unit) (base + j) ≡ Some var)
      × (slice_get unit.vars (base + j) ≡ Some var) × (is_input var.role ≡ true)) → BlockIs context (copies_from site base vars)
  copies_are base [] each = block_nil context
  copies_are base (var ∷ rest) each =
      let none : base + 0 ≡ base = omega arith in
      let own = each 0 var refl in
      block_append context (input_copied site (home_of site (Some var)) base) (copies_from site (base + 1) rest)
      (copied_is base var (subst (λ n. slice_get (parameters_of unit) n ≡ Some var) none own.0)
      (subst (λ n. slice_get unit.vars n ≡ Some var) none own.1) own.2
      (home_of site (Some var)) refl)
      (copies_are (base + 1) rest (λ j v found. let other = each (suc j) v found in
      let same : base + suc j ≡ (base + 1) + j = omega arith in (
        subst (λ n. slice_get (parameters_of unit) n ≡ Some v) same other.0,
        subst (λ n. slice_get unit.vars n ≡ Some v) same other.1,
        other.2,
      )))

  inputs_there : (j : ℕ) (var : Var) → slice_get (inputs_of unit) j ≡ Some var → (slice_get (parameters_of unit) (0 + j) ≡ Some var)
      × (slice_get unit.vars (0 + j) ≡ Some var) × (is_input var.role ≡ true)
  inputs_there j var found =
      let none : j ≡ 0 + j = omega arith in
      let within : j < length (inputs_of unit) = slice_get_within (inputs_of unit) j var found in
      let less : j < unit.inputs = few unit.vars unit.inputs j within in
      let more : j < unit.inputs + unit.outputs = omega (arith, less) in
      let in_vars : slice_get unit.vars j ≡ Some var = sym (get_taken unit.vars unit.inputs j less) ∙ found in (
        subst (λ n. slice_get (parameters_of unit) n ≡ Some var) none (get_taken unit.vars (unit.inputs + unit.outputs) j more ∙ in_vars),
        subst (λ n. slice_get unit.vars n ≡ Some var) none in_vars,
        all_at (λ (var : Var). is_input var.role) (inputs_of unit) j var (inputs_stand structs units entry keeps k unit there) found,
      )
    where
      few : {A : Type 0} (xs : List A) (n j : ℕ) → j < length (take n xs) → j < n
      few xs zero j less = absurd (omega arith)
      few [] (suc n) j less = absurd (omega arith)
      few (x ∷ xs) (suc n) zero less = omega arith
      few (x ∷ xs) (suc n) (suc j) less = let rest : j < n = few xs n j (omega (arith, less)) in omega (arith, rest)

  -- ---- the body

  result_here : context.result ≡ option_map c_scalar unit.result
  result_here = refl

  body_is_good : Good context (n_flags structs units entry k unit keeps there function table functions before numbers)
      (flag_there structs units entry k unit keeps there function table functions before numbers) (block_codes (map (codes_of site) unit.body))
  body_is_good =
      body_good context (n_flags structs units entry k unit keeps there function table functions before numbers)
      (flag_there structs units entry k unit keeps there function table functions before numbers) site function
      (declared_here structs units entry k unit keeps there function table functions before numbers) keeps.structs_stand
      (earlier_here structs units entry k unit keeps there function table functions before numbers)
      (typed_here structs units entry k unit keeps there function table functions before numbers)
      (plain_here structs units entry k unit keeps there function table functions before numbers) result_here unit.body
      (all_listed (fits site) unit.body (body_stands structs units entry keeps k unit there))

  end_is : (r : Option ScalarType) (returns : Bool) → unit.result ≡ r → BlockIs context (end_code r returns)
  end_is (Some s) false is =
      block_one context (c_return_zero (c_scalar s))
      (return-is context (c_literal (c_scalar s) (pos 0)) (c_scalar s) (result_here ∙ ap (option_map c_scalar) is) (literal-is context (c_scalar s) (pos 0)))
  end_is (Some s) true is = block_nil context
  end_is None returns is = block_nil context

  body_is : BlockIs context (body_code site unit)
  body_is =
      block_append context (copies_from site 0 (inputs_of unit))
      ((body_coded site unit).code ++ end_code unit.result (code_returns (body_coded site unit).code))
      (copies_are 0 (inputs_of unit) inputs_there)
      (block_append context (body_coded site unit).code (end_code unit.result (code_returns (body_coded site unit).code))
      (body_is_good.formed none_taken (omega arith)) (end_is unit.result (code_returns (body_coded site unit).code) refl))

  -- ---- the statements that read what the body only sets

  -- a variable that no pointer leads to is set to a value of its type
  set_again_is : (j : ℕ) (var : Var) (value : CExpr) → slice_get unit.vars j ≡ Some var → home_leads false (home_of site (Some var)) ≡ false →
      (PlaceIs context (leads_through site j) (c_type structs var.ty) (place_in site j []) → ExprIs context (c_type structs var.ty) value) →
      BlockIs context (c_set (place_in site j []) value ∷ [])
  set_again_is j var value in_vars plain is =
      let leads : leads_through site j ≡ false = (λ i. home_leads (function i) (home_of site (in_vars i))) ∙ plain in
      let own : PlaceIs context (leads_through site j) (c_type structs var.ty) (place_in site j []) =
      own_place site (is_copied []) context (declared_here structs units entry k unit keeps there function table functions before numbers)
      keeps.structs_stand (earlier_here structs units entry k unit keeps there function table functions before numbers)
      (typed_here structs units entry k unit keeps there function table functions before numbers)
      (plain_here structs units entry k unit keeps there function table functions before numbers) j var in_vars in
      block_one context (c_set (place_in site j []) value)
      (set-is context (leads_through site j) (c_type structs var.ty) (place_in site j []) value own (is own)
      (ap (λ b. context.is_read_only && b) leads ∙ and_false context.is_read_only))

  again_is : (j : ℕ) (var : Var) → slice_get unit.vars j ≡ Some var → home_of site (Some var) ≡ Held → BlockIs context (c_set_again site j ∷ [])
  again_is j var in_vars is =
      set_again_is j var (c_read (place_in site j [])) in_vars (ap (home_leads false) is)
      (read-is context (leads_through site j) (c_type structs var.ty) (place_in site j []))

  read_is : (held : Option ℕ) (reads : Bool) → first_held site 0 unit.vars ≡ held → BlockIs context (read_code site held reads)
  read_is None reads is = block_nil context
  read_is (Some j) true is = block_nil context
  read_is (Some j) false is = let found = held_there site unit.vars j is in again_is j found.0 found.1 found.2

  hidden_read : (j : ℕ) (var : Var) (s : ScalarType) → slice_get unit.vars j ≡ Some var → scalar_in var.ty ≡ Some s →
      PlaceIs context (leads_through site j) (c_type structs var.ty) (place_in site j []) →
      ExprIs context (c_type structs var.ty) (hidden (scalar_at (var_at site j)) (c_read (place_in site j [])))
  hidden_read j var s in_vars is own =
      let ty : c_type structs var.ty ≡ OfScalar (c_scalar s) = c_scalar_type structs var.ty s is in
      let scalar : scalar_at (var_at site j) ≡ s =
      ap scalar_at in_vars ∙ ap (λ (o : Option ScalarType). unwrap_or o OfBool) is in
      subst (λ (t : CType). ExprIs context t (hidden (scalar_at (var_at site j)) (c_read (place_in site j [])))) (sym ty)
      (subst (λ (s' : ScalarType). ExprIs context (OfScalar (c_scalar s)) (hidden s' (c_read (place_in site j [])))) (sym scalar)
      (hidden_is context s (c_read (place_in site j []))
      (subst (λ (t : CType). ExprIs context t (c_read (place_in site j []))) ty
      (read-is context (leads_through site j) (c_type structs var.ty) (place_in site j []) own))))

  local_is : (j : ℕ) (var : Var) → slice_get unit.vars j ≡ Some var → (local reads : Bool) → has_local site var ≡ local →
      BlockIs context (local_again site j local reads)
  local_is j var in_vars false reads is = block_nil context
  local_is j var in_vars true true is = block_nil context
  local_is j var in_vars true false is =
      let scalar = scalar_of_local site var is in
      set_again_is j var (hidden (scalar_at (var_at site j)) (c_read (place_in site j []))) in_vars
      (ap (home_leads false) (declared_local site var is)) (hidden_read j var scalar.0 in_vars scalar.1)

  locals_are : (code : List CStmt) (base : ℕ) (vars : List Var) → ((j : ℕ) (var : Var) → slice_get vars j ≡ Some var →
      slice_get unit.vars (base + j) ≡ Some var) → BlockIs context (locals_again site code base vars)
  locals_are code base [] each = block_nil context
  locals_are code base (var ∷ rest) each =
      let none : base + 0 ≡ base = omega arith in
      let reads : Bool = reads_in_block (variable_name unit.vars base) code in
      block_append context (local_again site base (has_local site var) reads) (locals_again site code (base + 1) rest)
      (local_is base var (subst (λ n. slice_get unit.vars n ≡ Some var) none (each 0 var refl)) (has_local site var) reads refl)
      (locals_are code (base + 1) rest (λ j v found. let same : base + suc j ≡ (base + 1) + j = omega arith in
      subst (λ n. slice_get unit.vars n ≡ Some v) same (each (suc j) v found)))

  -- nothing fails in the statements of the function
  pub whole_is : BlockIs context (whole_code site unit)
  whole_is =
      let code : List CStmt = body_code site unit in
      let reads : Bool = reads_in_block (codes "m") code in
      block_append context (again_code site unit code) code
      (block_append context (read_code site (first_held site 0 unit.vars) reads) (locals_again site code 0 unit.vars)
      (read_is (first_held site 0 unit.vars) reads refl)
      (locals_are code 0 unit.vars (λ j var found. let none : j ≡ 0 + j = omega arith in subst (λ n. slice_get unit.vars n ≡ Some var) none found)))
      body_is
