-- The C function of a function, and the struct of its variables, have a spelling.
use Rattle.std.proofs.Common.{◌≡◌, ℕ, zero, suc, ◌+◌, ◌^◌, ◌<◌, ◌≤◌, pos}
use Rattle.std.proofs.Common.{Bool, true, false, ◌&&◌, List, [], ◌∷◌, ◌++◌}
use Rattle.std.proofs.Common.{map, take, length, Option, Some, None, refl, sym, ap, ◌∙◌, arith, codes}
use Rattle.std.proofs.lemmas.Bool.Decides.{nat_tests}
use Rattle.std.proofs.lemmas.List.Folds.{list_all-append}
use Rattle.std.proofs.lemmas.Option.{same_Some}
use Rattle.std.proofs.lemmas.Option.{slice_get_within}
use Rattle.std.specs.Prelude.{nat_le, option_map, slice_get}
use Rattle.std.specs.List.{list_all}
use Rattle.std.proofs.lemmas.Bool.{and_from}
use Rattle.bl_tree.proofs.Basics.{all_append, and_first, and_second}
use Rattle.bl_tree.specs.declared.text.Text.{Text}
use Rattle.bl_tree.specs.declared.c.CExpr.{CExpr}
use Rattle.bl_tree.specs.declared.c.CLocal.{CLocal}
use Rattle.bl_tree.specs.declared.c.CMember.{CMember}
use Rattle.bl_tree.specs.declared.c.CStmt.{CStmt}
use Rattle.bl_tree.specs.declared.c.CType.{CType}
use Rattle.bl_tree.specs.declared.c.CType.TheVariants.{Struct as OfStruct}
use Rattle.bl_tree.specs.declared.scalar.Scalar.{Scalar as ScalarType}
use Rattle.bl_tree.specs.declared.tree.StructDef.{StructDef}
use Rattle.bl_tree.specs.declared.tree.Unit.{Unit as UnitDef}
use Rattle.bl_tree.specs.declared.tree.Var.{Var}
use Rattle.bl_tree.specs.Depths.{block, depth_of, is_shallow, of_all}
use Rattle.bl_tree.specs.Apart.{is_apart}
use Rattle.bl_tree.specs.Program.{IsWellTyped, names_of, parameters_of, roles_stand}
use Rattle.bl_tree.specs.Returns.{unit_returns}
use Rattle.bl_tree.specs.Types.{type_stands}
use Rattle.bl_tree.specs.Typing.{TypingContext, fits, inputs_of, site_of, var_at}
use Rattle.bl_tree.specs.Words as words
use Rattle.bl_tree.specs.Words.{are_distinct}
use Rattle.bl_eval.proofs.PassLemmas.{all_at}
use Rattle.bl_ctext.specs.Names.{is_name}
use Rattle.bl_ctext.specs.Spellable.{spells_local, spells_member, spells_param, spells_returned, spells_struct, spells_type}
use Rattle.bl_ctext.specs.inner.Fits.{func_fits, place_fits, stmt_fits, stmts_fit}
use Rattle.bl_ctext.proofs.Fitting.{expr_fits-more, func-fits, place-fits, read-fits, return-fits, set-fits, struct-spells}
use Rattle.bl_ctext.proofs.PrefixedNames.{name-function, name-struct, name-with_prefix}
use Rattle.bl_emit_acts.specs.declared.home.Home.{Home}
use Rattle.bl_emit_acts.specs.declared.home.Home.TheVariants.{Held, Local, Lent}
use Rattle.bl_emit_acts.specs.Expressions.{hidden, scalar_at}
use Rattle.bl_emit_acts.specs.Places.{home_of, place_in}
use Rattle.bl_emit_acts.specs.Trees.{c_literal, c_place, c_read, nowhere}
use Rattle.bl_emit_acts.specs.Types.{c_scalar, c_type, unit_name, variable_name}
use Rattle.bl_emit_acts_laws_wellformed.proofs.OnFormed.Units.{body_stands, taken_there, unit_at, vars_named, vars_stand}
use Rattle.bl_emit_acts_laws_wellformed.specs.Spelled.{ExpressionsFit, PlacesFit}
use Rattle.bl_emit_acts_laws_wellformed.proofs.OnSpelled.Names.{memory-name, variable-name}
use Rattle.bl_emit_acts_laws_wellformed.proofs.OnSpelled.Operators.{hidden-fits}
use Rattle.bl_emit_acts_laws_wellformed.proofs.OnSpelled.Fits.{source_name}
use Rattle.bl_emit_functions.specs.Functions.{again_code, body_code, body_coded, c_input_copied, c_local_again, c_set_again, code_returns, copies_from}
use Rattle.bl_emit_functions.specs.Functions.{end_code, first_held, flag_local, flag_locals, function_code, has_local, held_member, holds_any}
use Rattle.bl_emit_functions.specs.Functions.{input_copied, local_again, locals_again, locals_from, members_of, memory_local, memory_name, memory_struct}
use Rattle.bl_emit_functions.specs.Functions.{none_taken, param_of, params_from, read_code, struct_of, variable_local, variable_locals}
use Rattle.bl_emit_functions.specs.Statements.{block_codes, codes_of}
use Rattle.bl_emit_functions.specs.Trees.{c_return_zero}
use Rattle.bl_emit_functions.specs.Reads.{reads_in_block}
use Rattle.bl_emit_functions_laws_wellformed.specs.Formed.{IsNumbered}
use Rattle.bl_emit_functions_laws_wellformed.proofs.OnSpelled.Acts.{one-fits, own-fits, zero-fits}
use Rattle.bl_emit_functions_laws_wellformed.proofs.OnSpelled.Numbers.{flag-name}
use Rattle.bl_emit_functions_laws_wellformed.proofs.OnSpelled.Statements.{Good, body_good, space}
use Rattle.bl_emit_functions_laws_wellformed.proofs.OnSpelled.Types.{scalar_spelled, struct_names, type-spelled}
use Rattle.bl_emit_functions_laws_wellformed.proofs.OnFormed.Held.{held_there}
use Rattle.bl_emit_functions_laws_wellformed.proofs.OnFormed.Kept.{all_made, every, is_held_in, locals_made, members_made, params_made}
use Rattle.bl_eval.proofs.UnitFits.{all_listed}

taken_few : {A : Type 0} (n : ℕ) (xs : List A) → length (take n xs) ≤ length xs
taken_few zero xs = omega arith
taken_few (suc n) [] = omega arith
taken_few (suc n) (x ∷ xs) = let rest : length (take n xs) ≤ length xs = taken_few n xs in omega (arith, rest)

pub memory-named : (name : Text) → words.is_name name ≡ true → is_name (memory_name name) ≡ true
memory-named name h = name-with_prefix (codes "m_") name refl (source_name name h)

pub named_at : (units : List UnitDef) (k : ℕ) (unit : UnitDef) → list_all words.is_name (map (λ (unit : UnitDef). unit.name) units) ≡ true →
    slice_get units k ≡ Some unit → words.is_name unit.name ≡ true
named_at [] k unit all there = absurd (cc)
named_at (first ∷ units) zero unit all there =
    ap (λ (unit : UnitDef). words.is_name unit.name) (sym (same_Some first unit there))
    ∙ and_first (words.is_name first.name) (list_all words.is_name (map (λ (unit : UnitDef). unit.name) units)) all
named_at (first ∷ units) (suc k) unit all there =
    named_at units k unit (and_second (words.is_name first.name) (list_all words.is_name (map (λ (unit : UnitDef). unit.name) units)) all) there

module _ (structs : List StructDef) (units : List UnitDef) (entry k : ℕ) (unit : UnitDef) (keeps : IsWellTyped structs units entry)
    (there : slice_get units k ≡ Some unit) (few : length unit.vars ≤ 2 ^ 64) where
  abbrev site : TypingContext
  site = site_of structs (take k units) unit

  pub names : list_all words.is_name (map (λ (def : StructDef). def.name) structs) ≡ true
  names = struct_names structs units entry keeps

  unit_names : list_all words.is_name (map (λ (unit : UnitDef). unit.name) units) ≡ true
  unit_names =
      and_second (list_all words.is_name (map (λ (def : StructDef). def.name) structs))
      (list_all words.is_name (map (λ (unit : UnitDef). unit.name) units))
      (sym (list_all-append words.is_name (map (λ (def : StructDef). def.name) structs) (map (λ (unit : UnitDef). unit.name) units))
      ∙ keeps.named)

  own_name : words.is_name unit.name ≡ true
  own_name = named_at units k unit unit_names there

  own_vars : list_all words.is_name (names_of unit.vars) ≡ true
  own_vars = vars_named structs units entry keeps k unit there

  pub earlier_named : (f : ℕ) (callee : UnitDef) → slice_get (take k units) f ≡ Some callee → words.is_name callee.name ≡ true
  earlier_named f callee found = named_at units f callee unit_names (taken_there units k f callee found)

  stand : list_all (λ (var : Var). type_stands (length structs) var.ty) unit.vars ≡ true
  stand = vars_stand structs units entry keeps k unit there

  pub typed : (j : ℕ) (var : Var) → slice_get unit.vars j ≡ Some var → type_stands (length structs) var.ty ≡ true
  typed j var found = all_at (λ (var : Var). type_stands (length structs) var.ty) unit.vars j var stand found

  spelled : (var : Var) → type_stands (length structs) var.ty ≡ true → spells_type (c_type structs var.ty) ≡ true
  spelled var h = let all : length structs ≤ length structs = omega arith in type-spelled structs names (length structs) all var.ty h

  own_named : (i j : ℕ) (var : Var) → i ≡ 0 + j → slice_get unit.vars j ≡ Some var → is_name (variable_name unit.vars i) ≡ true
  own_named i j var at found =
      let within : j < length unit.vars = slice_get_within unit.vars j var found in
      variable-name unit.vars i own_vars (omega (arith, at, within, few))

  -- ---- the variables that it holds

  pub members-spelled : list_all spells_member (members_of structs (take k units) unit) ≡ true
  members-spelled =
      ap (list_all spells_member) (members_made site 0 unit.vars)
      ∙ all_made spells_member (is_held_in site) (held_member structs unit.vars) 0 unit.vars
      (λ i j var at found.
      and_from (spells_type (c_type structs var.ty)) (is_name (variable_name unit.vars i) && true) (spelled var (typed j var found))
      (and_from (is_name (variable_name unit.vars i)) true (own_named i j var at found) refl))

  struct_by : (members : List CMember) → list_all spells_member members ≡ true → list_all spells_struct (struct_of unit.name members) ≡ true
  struct_by [] h = refl
  struct_by (m ∷ members) h =
      and_from (spells_struct (record { place = nowhere; name = memory_name unit.name; members = m ∷ members })) true
      (struct-spells nowhere (memory_name unit.name) (m ∷ members)
      (name-struct (memory_name unit.name) (memory-named unit.name own_name)) refl h) refl

  pub memory-spelled : list_all spells_struct (memory_struct structs (take k units) unit) ≡ true
  memory-spelled = struct_by (members_of structs (take k units) unit) members-spelled

  -- ---- parameters and locals

  pub params-spelled : list_all spells_param (params_from structs unit.vars 0 (parameters_of unit)) ≡ true
  params-spelled =
      ap (list_all spells_param) (params_made structs unit.vars 0 (parameters_of unit))
      ∙ all_made spells_param every (param_of structs unit.vars) 0 (parameters_of unit)
      (λ i j var at found.
      let in_vars : slice_get unit.vars j ≡ Some var = taken_there unit.vars (unit.inputs + unit.outputs) j var found in
      and_from (spells_type (c_type structs var.ty)) (is_name (variable_name unit.vars i)) (spelled var (typed j var in_vars)) (own_named i j var at in_vars))

  variables_by : list_all spells_local (locals_from site 0 unit.vars) ≡ true
  variables_by =
      ap (list_all spells_local) (locals_made site 0 unit.vars)
      ∙ all_made spells_local (has_local site) (variable_local structs unit.vars) 0 unit.vars
      (λ i j var at found.
      and_from (spells_type (c_type structs var.ty)) (is_name (variable_name unit.vars i)) (spelled var (typed j var found)) (own_named i j var at found))

  flags_by : (n : ℕ) → n ≤ 2 ^ 64 → list_all spells_local (flag_locals n) ≡ true
  flags_by zero room = refl
  flags_by (suc n) room =
      let fewer : n ≤ 2 ^ 64 = omega (arith, room) in
      let small : n < 2 ^ 64 = omega (arith, room) in
      all_append spells_local (flag_locals n) (flag_local n ∷ []) (flags_by n fewer)
      (and_from (spells_local (flag_local n)) true (flag-name n small) refl)

  memory_by : (holds : Bool) → list_all spells_local (memory_local unit.name holds) ≡ true
  memory_by false = refl
  memory_by true =
      let of_struct : CType = OfStruct (memory_name unit.name) in
      and_from (spells_local (record { ty = of_struct; name = codes "m" })) true
      (and_from (spells_type of_struct) (is_name (codes "m")) (name-struct (memory_name unit.name) (memory-named unit.name own_name)) memory-name) refl

  locals_by : (n : ℕ) → n ≤ 2 ^ 64 → list_all spells_local (variable_locals site unit ++ flag_locals n) ≡ true
  locals_by n room =
      let memory : List CLocal = memory_local unit.name (holds_any site unit.vars) in
      all_append spells_local (variable_locals site unit) (flag_locals n)
      (all_append spells_local memory (locals_from site 0 unit.vars) (memory_by (holds_any site unit.vars)) variables_by) (flags_by n room)

  returned_by : (r : Option ScalarType) → spells_returned (option_map c_scalar r) ≡ true
  returned_by None = refl
  returned_by (Some s) = scalar_spelled s

  -- ---- statements

  module _ (fit : ExpressionsFit structs units entry) (fit_places : PlacesFit structs units entry) where
    own_by : (d j : ℕ) → 1 ≤ d → j < 2 ^ 64 → place_fits d (place_in site j []) ≡ true
    own_by d j low small =
        own-fits site few names earlier_named own_vars typed (λ e ty typed. fit k unit e ty keeps there few typed)
        (λ path ty typed. fit_places k unit path ty keeps there few typed) d j low small

    copied_by : (d base : ℕ) → 1 ≤ d → base < 2 ^ 64 → (home : Home) → stmts_fit d (input_copied site home base) ≡ true
    copied_by d base low small Local = refl
    copied_by d base low small Lent = refl
    copied_by d base low small Held =
        one-fits d (c_input_copied site base)
        (set-fits d nowhere (place_in site base []) (c_read (c_place true (variable_name unit.vars base) [])) (own_by d base low small)
        (read-fits d nowhere (c_place true (variable_name unit.vars base) [])
        (place-fits d true (variable_name unit.vars base) [] low (variable-name unit.vars base own_vars small) refl)))

    copies_by : (d base : ℕ) (vars : List Var) → 1 ≤ d → base + length vars ≤ 2 ^ 64 → stmts_fit d (copies_from site base vars) ≡ true
    copies_by d base [] low room = refl
    copies_by d base (var ∷ rest) low room =
        let small : base < 2 ^ 64 = omega (arith, room) in
        let later : (base + 1) + length rest ≤ 2 ^ 64 = omega (arith, room) in
        all_append (stmt_fits d) (input_copied site (home_of site (Some var)) base) (copies_from site (base + 1) rest)
        (copied_by d base low small (home_of site (Some var))) (copies_by d (base + 1) rest low later)

    end_by : (d : ℕ) → 2 ≤ d → (r : Option ScalarType) (returns : Bool) → stmts_fit d (end_code r returns) ≡ true
    end_by d low (Some s) false =
        one-fits d (c_return_zero (c_scalar s)) (return-fits d nowhere (c_literal (c_scalar s) (pos 0)) (zero-fits d s low))
    end_by d low (Some s) true = refl
    end_by d low None returns = refl

    read_by : (d : ℕ) → 1 ≤ d → (held : Option ℕ) (reads : Bool) → first_held site 0 unit.vars ≡ held
        → stmts_fit d (read_code site held reads) ≡ true
    read_by d low None reads is = refl
    read_by d low (Some j) true is = refl
    read_by d low (Some j) false is =
        let found = held_there site unit.vars j is in
        let less : j < length unit.vars = slice_get_within unit.vars j found.0 found.1 in
        let own = own_by d j low (omega (arith, less, few)) in
        one-fits d (c_set_again site j)
        (set-fits d nowhere (place_in site j []) (c_read (place_in site j [])) own (read-fits d nowhere (place_in site j []) own))

    again_by : (d j : ℕ) → 3 ≤ d → j < 2 ^ 64 → (local reads : Bool) → stmts_fit d (local_again site j local reads) ≡ true
    again_by d j low small true true = refl
    again_by d j low small false reads = refl
    again_by d j low small true false =
        let s : ScalarType = scalar_at (var_at site j) in
        let value : CExpr = hidden s (c_read (place_in site j [])) in
        one-fits d (c_local_again site j)
        (set-fits d nowhere (place_in site j []) value (own_by d j (omega (arith, low)) small)
        (expr_fits-more (2 + 1) d value low
        (hidden-fits 2 4 (omega arith) (omega arith) s (c_read (place_in site j []))
        (read-fits 2 nowhere (place_in site j []) (own_by 2 j (omega arith) small)))))

    locals_again_by : (d base : ℕ) (code : List CStmt) (vars : List Var) → 3 ≤ d → base + length vars ≤ 2 ^ 64 →
        stmts_fit d (locals_again site code base vars) ≡ true
    locals_again_by d base code [] low room = refl
    locals_again_by d base code (var ∷ rest) low room =
        let reads : Bool = reads_in_block (variable_name unit.vars base) code in
        all_append (stmt_fits d) (local_again site base (has_local site var) reads) (locals_again site code (base + 1) rest)
        (again_by d base low (omega (arith, room)) (has_local site var) reads) (locals_again_by d (base + 1) code rest low (omega (arith, room)))

    shallow : (nat_le (block 0 (map depth_of unit.body)).blocks 200 && nat_le (of_all (map depth_of unit.body)).exprs 200) ≡ true
    shallow =
        let types : Bool = list_all (λ (var : Var). type_stands (length structs) var.ty) unit.vars in
        let fitted : Bool = list_all (fits site) unit.body in
        let deep : Bool = is_shallow 200 unit.body in
        let apart : Bool = list_all is_apart unit.body in
        let heads : Bool = roles_stand unit && (list_all words.is_name (names_of unit.vars) && are_distinct (names_of (parameters_of unit))) in
        let all : (heads && (types && (fitted && (unit_returns unit && (deep && apart))))) ≡ true =
        unit_at structs units entry keeps k unit there in
        and_first deep apart (and_second (unit_returns unit) (deep && apart) (and_second fitted (unit_returns unit && (deep && apart))
        (and_second types (fitted && (unit_returns unit && (deep && apart)))
        (and_second heads (types && (fitted && (unit_returns unit && (deep && apart)))) all))))

    space_there : space (of_all (map depth_of unit.body)) ≤ 1999
    space_there =
        let a : nat_le (block 0 (map depth_of unit.body)).blocks 200 ≡ true = and_first _ _ shallow in
        let b : nat_le (of_all (map depth_of unit.body)).exprs 200 ≡ true =
        and_second (nat_le (block 0 (map depth_of unit.body)).blocks 200) _ shallow in
        let c : 1 + (of_all (map depth_of unit.body)).blocks ≤ 200 = grind (arith, nat_tests, a) in
        let e : (of_all (map depth_of unit.body)).exprs ≤ 200 = grind (arith, nat_tests, b) in
        omega (arith, c, e)

    body_is : Good 1999 (block_codes (map (codes_of site) unit.body))
    body_is =
        body_good site few names earlier_named own_vars typed (λ e ty typed. fit k unit e ty keeps there few typed)
        (λ path ty typed. fit_places k unit path ty keeps there few typed) unit.body
        (all_listed (fits site) unit.body (body_stands structs units entry keeps k unit there)) 1999 space_there

    pub function-fits : IsNumbered structs (take k units) unit → func_fits 2000 (function_code structs (take k units) unit) ≡ true
    function-fits numbers =
        let code : List CStmt = body_code site unit in
        let some : length (inputs_of unit) ≤ length unit.vars = taken_few unit.inputs unit.vars in
        let room : 0 + length (inputs_of unit) ≤ 2 ^ 64 = omega (arith, some, few) in
        func-fits 1999 2000 (function_code structs (take k units) unit) (omega arith) (omega arith) (returned_by unit.result)
        (name-function (unit_name unit.name) (name-with_prefix (codes "a_") unit.name refl (source_name unit.name own_name))) params-spelled
        (locals_by (body_coded site unit).free.flags numbers.flags)
        (all_append (stmt_fits 1999) (again_code site unit code) code
        (all_append (stmt_fits 1999) (read_code site (first_held site 0 unit.vars) (reads_in_block (codes "m") code)) (locals_again site code 0 unit.vars)
        (read_by 1999 (omega arith) (first_held site 0 unit.vars) (reads_in_block (codes "m") code) refl)
        (locals_again_by 1999 0 code unit.vars (omega arith) (omega (arith, few))))
        (all_append (stmt_fits 1999) (copies_from site 0 (inputs_of unit))
        ((body_coded site unit).code ++ end_code unit.result (code_returns (body_coded site unit).code))
        (copies_by 1999 0 (inputs_of unit) (omega arith) room)
        (all_append (stmt_fits 1999) (body_coded site unit).code (end_code unit.result (code_returns (body_coded site unit).code))
        (body_is.fits none_taken numbers.flags numbers.turns) (end_by 1999 (omega arith) unit.result (code_returns (body_coded site unit).code)))))
