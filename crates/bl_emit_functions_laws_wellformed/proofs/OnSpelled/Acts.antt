-- The C of acts fits a depth.
use Rattle.std.proofs.Common.{◌≡◌, ℕ, ◌+◌, ◌^◌, ◌<◌, ◌≤◌, max, pos}
use Rattle.std.proofs.Common.{Bool, true, false, ◌&&◌, ◌||◌, List, [], ◌∷◌, map}
use Rattle.std.proofs.Common.{length, Option, Some, None, refl, sym, subst, arith, codes}
use Rattle.std.proofs.lemmas.Option.{slice_get_within}
use Rattle.std.specs.Prelude.{slice_get}
use Rattle.std.specs.List.{list_all}
use Rattle.std.proofs.lemmas.Bool.{and_from}
use Rattle.bl_tree.proofs.Basics.{all_append, and_first, and_second}
use Rattle.bl_tree.specs.declared.c.CStmt.{CStmt}
use Rattle.bl_tree.specs.declared.scalar.Scalar.{Scalar as ScalarType}
use Rattle.bl_tree.specs.declared.scalar.Scalar.TheVariants.{Bool as OfBool, Int, Nat, Bits}
use Rattle.bl_tree.specs.declared.scalar.Width.TheVariants.{W8, W16, W32, W64}
use Rattle.bl_tree.specs.declared.tree.Expr.{Expr}
use Rattle.bl_tree.specs.declared.tree.Path.{Path}
use Rattle.bl_tree.specs.declared.tree.StructDef.{StructDef}
use Rattle.bl_tree.specs.declared.tree.Ty.{Ty}
use Rattle.bl_tree.specs.declared.tree.Unit.{Unit as UnitDef}
use Rattle.bl_tree.specs.declared.tree.Var.{Var}
use Rattle.bl_tree.specs.Depths.{arguments_depth, expr_depth, optional_depth, path_depth}
use Rattle.bl_tree.specs.Reduce.{greatest}
use Rattle.bl_tree.specs.Types.{same_type, scalar_in, type_stands}
use Rattle.bl_tree.specs.Typing.{TypingContext, are_same, arguments_fit, call_fits, declaration_fits, inputs_of, is_activity, is_assignable, is_fixed}
use Rattle.bl_tree.specs.Typing.{is_procedure, is_variable, outputs_of, type_of, type_of_path, types_match, var_at}
use Rattle.bl_tree.specs.Program.{names_of}
use Rattle.bl_tree.specs.Words as words
use Rattle.bl_ctext.specs.Spellable.{is_literal}
use Rattle.bl_ctext.specs.inner.Fits.{arg_fits, expr_fits, place_fits, step_fits, stmt_fits, stmts_fit}
use Rattle.bl_ctext.proofs.Fitting.{address-fits, call-fits, call_stmt-fits, expr_fits-more, literal-fits}
use Rattle.bl_ctext.proofs.Fitting.{place-fits, place_fits-more, read-fits, set-fits}
use Rattle.bl_ctext.proofs.Fitting.{step-fits, value-fits}
use Rattle.bl_emit_acts.specs.declared.home.Home.{Home}
use Rattle.bl_emit_acts.specs.declared.home.Home.TheVariants.{Held, Local, Lent}
use Rattle.bl_emit_acts.specs.declared.made.Made.{Made}
use Rattle.bl_emit_acts.specs.declared.made.Made.TheVariants.{Number, Whole}
use Rattle.bl_emit_acts.specs.Acts.{c_calling, c_copied, c_set, c_zeroed, call_args, call_made, code_made, copy_code, declared_code, initial_code}
use Rattle.bl_emit_acts.specs.Acts.{is_copied, name_of_callee, output_arg, zeroed}
use Rattle.bl_emit_acts.specs.Expressions.{arg_of, code_of, made_of, stands, type_at}
use Rattle.bl_emit_acts.specs.Places.{home_of, place_by_steps, place_in}
use Rattle.bl_emit_acts.specs.Trees.{c_call, c_literal, c_place, c_read, c_step, nowhere}
use Rattle.bl_emit_acts.specs.Types.{c_scalar, copy_name, type_name, unit_name, variable_name}
use Rattle.bl_emit_acts_laws_wellformed.proofs.OnSpelled.Names.{callee-name, copy-name, memory-name, variable-name}
use Rattle.bl_emit_acts_laws_wellformed.proofs.OnSpelled.Fits.{source_name, room}
use Rattle.bl_emit_functions_laws_wellformed.proofs.OnSpelled.Shapes.{clear-fits, read-place}
use Rattle.bl_emit_functions_laws_wellformed.proofs.OnSpelled.Types.{whole-named}

zero_literal : (s : ScalarType) → is_literal (c_scalar s) (pos 0) ≡ true
zero_literal OfBool = refl
zero_literal (Int W8) = refl
zero_literal (Int W16) = refl
zero_literal (Int W32) = refl
zero_literal (Int W64) = refl
zero_literal (Nat W8) = refl
zero_literal (Nat W16) = refl
zero_literal (Nat W32) = refl
zero_literal (Nat W64) = refl
zero_literal (Bits W8) = refl
zero_literal (Bits W16) = refl
zero_literal (Bits W32) = refl
zero_literal (Bits W64) = refl

pub zero-fits : (d : ℕ) (s : ScalarType) → 2 ≤ d → expr_fits d (c_literal (c_scalar s) (pos 0)) ≡ true
zero-fits d s low = literal-fits d nowhere (c_scalar s) (pos 0) low (zero_literal s)

-- an argument fits where the C expression does
argument_by : (d : ℕ) (made : Made) → expr_fits d (code_of made) ≡ true → arg_fits d (arg_of made) ≡ true
argument_by d (Number s code) h = value-fits d code h
argument_by d (Whole place) h = address-fits d place (read-place d place h)

-- the variable with a place of its own
home_fits : (vars : List Var) → list_all words.is_name (names_of vars) ≡ true → (d : ℕ) (activity : Bool) (home : Home) (k : ℕ) → 1 ≤ d → k < 2 ^ 64 →
    place_fits d (place_by_steps activity home vars k []) ≡ true
home_fits vars vars_named d activity Held k low small =
    place-fits d activity (codes "m") (c_step (variable_name vars k) ∷ []) low memory-name
    (and_from (step_fits d (c_step (variable_name vars k))) true (step-fits d (variable_name vars k) (variable-name vars k vars_named small)) refl)
home_fits vars vars_named d activity Local k low small = place-fits d false (variable_name vars k) [] low (variable-name vars k vars_named small) refl
home_fits vars vars_named d activity Lent k low small = place-fits d true (variable_name vars k) [] low (variable-name vars k vars_named small) refl

pub one-fits : (d : ℕ) (s : CStmt) → stmt_fits d s ≡ true → stmts_fit d (s ∷ []) ≡ true
one-fits d s h = and_from (stmt_fits d s) true h refl

module _ (site : TypingContext) (few : length site.vars ≤ 2 ^ 64)
    (names : list_all words.is_name (map (λ (def : StructDef). def.name) site.structs) ≡ true)
    (named : (f : ℕ) (callee : UnitDef) → slice_get site.earlier f ≡ Some callee → words.is_name callee.name ≡ true)
    (vars_named : list_all words.is_name (names_of site.vars) ≡ true)
    (typed_vars : (k : ℕ) (var : Var) → var_at site k ≡ Some var → type_stands (length site.structs) var.ty ≡ true)
    (exprs : (e : Expr) (ty : Ty) → type_of site e ≡ Some ty → expr_fits (room (expr_depth e)) (code_made site e) ≡ true)
    (paths : (path : Path) (ty : Ty) → type_of_path site path ≡ Some ty →
    place_fits (room (path_depth path)) (stands site path).place ≡ true) where
  below : (k : ℕ) (var : Var) → var_at site k ≡ Some var → k < 2 ^ 64
  below k var there = let within : k < length site.vars = slice_get_within site.vars k var there in omega (arith, within, few)

  pub own-fits : (d k : ℕ) → 1 ≤ d → k < 2 ^ 64 → place_fits d (place_in site k []) ≡ true
  own-fits d k low small = home_fits site.vars vars_named d (is_activity site.kind) (home_of site (var_at site k)) k low small

  -- ---- expressions of known types

  there : (a b : Option Ty) → are_same a b ≡ true → ((ty : Ty) × (a ≡ Some ty)) × ((ty : Ty) × (b ≡ Some ty))
  there None None h = absurd (cc)
  there None (Some b) h = absurd (cc)
  there (Some a) None h = absurd (cc)
  there (Some a) (Some b) h = ((a, refl), (b, refl))

  pub code-fits : (d : ℕ) (e : Expr) (a : Option Ty) → are_same a (type_of site e) ≡ true → room (expr_depth e) ≤ d →
      expr_fits d (code_made site e) ≡ true
  code-fits d e a same le =
      let found = there a (type_of site e) same in
      expr_fits-more (room (expr_depth e)) d (code_made site e) le (exprs e found.1.0 found.1.1)

  -- ---- assignments

  pub assigned-fits : (d : ℕ) (path : Path) (e : Expr) →
      (is_assignable site path && are_same (type_of_path site path) (type_of site e)) ≡ true →
      room (max (path_depth path) (expr_depth e)) ≤ d → stmt_fits d (c_set (stands site path).place (code_made site e)) ≡ true
  assigned-fits d path e fitted le =
      let same = and_second (is_assignable site path) (are_same (type_of_path site path) (type_of site e)) fitted in
      let found = there (type_of_path site path) (type_of site e) same in
      let left : room (path_depth path) ≤ d = omega (arith, le) in
      let right : room (expr_depth e) ≤ d = omega (arith, le) in
      set-fits d nowhere (stands site path).place (code_made site e)
      (place_fits-more (room (path_depth path)) d (stands site path).place left (paths path found.0.0 found.0.1))
      (expr_fits-more (room (expr_depth e)) d (code_made site e) right (exprs e found.1.0 found.1.1))

  -- ---- declarations

  zeroed_by : (d k : ℕ) (var : Var) → 2 ≤ d → var_at site k ≡ Some var → (s : Option ScalarType) → scalar_in var.ty ≡ s →
      stmt_fits d (c_zeroed site.structs (place_in site k []) var.ty s) ≡ true
  zeroed_by d k var low there (Some s) is =
      let one : 1 ≤ d = omega (arith, low) in
      set-fits d nowhere (place_in site k []) (c_literal (c_scalar s) (pos 0)) (own-fits d k one (below k var there)) (zero-fits d s low)
  zeroed_by d k var low there None is =
      let one : 1 ≤ d = omega (arith, low) in
      let all : length site.structs ≤ length site.structs = omega arith in
      clear-fits d (place_in site k []) (type_name site.structs var.ty) one
      (whole-named site.structs names (length site.structs) all var.ty is (typed_vars k var there)) (own-fits d k one (below k var there))

  initial_by : (d k : ℕ) (initial : Option Expr) (o : Option Var) → var_at site k ≡ o → declaration_fits site initial o ≡ true →
      room (optional_depth initial) ≤ d → stmts_fit d (initial_code site k initial) ≡ true
  initial_by d k None None is fitted le = absurd (cc)
  initial_by d k (Some e) None is fitted le = absurd (cc)
  initial_by d k None (Some var) is fitted le =
      let low : 2 ≤ d = omega (arith, le) in
      subst (λ o. stmts_fit d (zeroed site.structs (place_in site k []) (type_at o)) ≡ true) (sym is)
      (one-fits d (c_zeroed site.structs (place_in site k []) var.ty (scalar_in var.ty)) (zeroed_by d k var low is (scalar_in var.ty) refl))
  initial_by d k (Some e) (Some var) is fitted le =
      let one : 1 ≤ d = omega (arith, le) in
      let same : are_same (Some var.ty) (type_of site e) ≡ true = and_second (is_variable var.role || is_fixed var.role) _ fitted in
      one-fits d (c_set (place_in site k []) (code_made site e))
      (set-fits d nowhere (place_in site k []) (code_made site e) (own-fits d k one (below k var is)) (code-fits d e (Some var.ty) same le))

  known_by : (initial : Option Expr) (o : Option Var) → declaration_fits site initial o ≡ true → (var : Var) × (o ≡ Some var)
  known_by None None fitted = absurd (cc)
  known_by (Some e) None fitted = absurd (cc)
  known_by initial (Some var) fitted = (var, refl)

  copied_by : (d k : ℕ) → 1 ≤ d → k < 2 ^ 64 → (copied : Bool) → stmts_fit d (copy_code site copied k) ≡ true
  copied_by d k low small false = refl
  copied_by d k low small true =
      one-fits d (c_copied site k)
      (set-fits d nowhere (c_place false (copy_name site.vars k) []) (c_read (place_in site k []))
      (place-fits d false (copy_name site.vars k) [] low (copy-name site.vars k vars_named small) refl)
      (read-fits d nowhere (place_in site k []) (own-fits d k low small)))

  pub declared-fits : (d : ℕ) (copies : List Bool) (k : ℕ) (initial : Option Expr) → declaration_fits site initial (var_at site k) ≡ true →
      room (optional_depth initial) ≤ d → stmts_fit d (declared_code site copies k initial) ≡ true
  declared-fits d copies k initial fitted le =
      let found = known_by initial (var_at site k) fitted in
      let one : 1 ≤ d = omega (arith, le) in
      all_append (stmt_fits d) (initial_code site k initial) (copy_code site (is_copied copies k) k)
      (initial_by d k initial (var_at site k) refl fitted le) (copied_by d k one (below k found.0 found.1) (is_copied copies k))

  -- ---- calls

  first_input : (d : ℕ) (e : Expr) (t : Option Ty) (types : List (Option Ty)) (vars : List Var) → type_of site e ≡ t →
      types_match (t ∷ types) vars ≡ true → room (expr_depth e) ≤ d → arg_fits d (arg_of (made_of site e)) ≡ true
  first_input d e None types [] is typed le = absurd (cc)
  first_input d e None types (var ∷ vars) is typed le = absurd (cc)
  first_input d e (Some t) types [] is typed le = absurd (cc)
  first_input d e (Some t) types (var ∷ vars) is typed le =
      argument_by d (made_of site e) (expr_fits-more (room (expr_depth e)) d (code_made site e) le (exprs e t is))

  more_types : (t : Option Ty) (types : List (Option Ty)) (vars : List Var) → types_match (t ∷ types) vars ≡ true →
      (others : List Var) × (types_match types others ≡ true)
  more_types None types [] typed = absurd (cc)
  more_types None types (var ∷ vars) typed = absurd (cc)
  more_types (Some t) types [] typed = absurd (cc)
  more_types (Some t) types (var ∷ vars) typed = (vars, and_second (same_type t var.ty) (types_match types vars) typed)

  inputs-fit : (d : ℕ) (inputs : List Expr) (vars : List Var) → types_match (map (type_of site) inputs) vars ≡ true →
      room (greatest (map expr_depth inputs)) ≤ d → list_all (arg_fits d) (map arg_of (map (made_of site) inputs)) ≡ true
  inputs-fit d [] vars typed le = refl
  inputs-fit d (e ∷ inputs) vars typed le =
      let here : room (expr_depth e) ≤ d = omega (arith, le) in
      let later : room (greatest (map expr_depth inputs)) ≤ d = omega (arith, le) in
      let more = more_types (type_of site e) (map (type_of site) inputs) vars typed in
      and_from (arg_fits d (arg_of (made_of site e))) (list_all (arg_fits d) (map arg_of (map (made_of site) inputs)))
      (first_input d e (type_of site e) (map (type_of site) inputs) vars refl typed here) (inputs-fit d inputs more.0 more.1 later)

  first_output : (d : ℕ) (path : Path) (t : Option Ty) (types : List (Option Ty)) (vars : List Var) → type_of_path site path ≡ t →
      types_match (t ∷ types) vars ≡ true → room (path_depth path) ≤ d → arg_fits d (output_arg site path) ≡ true
  first_output d path None types [] is typed le = absurd (cc)
  first_output d path None types (var ∷ vars) is typed le = absurd (cc)
  first_output d path (Some t) types [] is typed le = absurd (cc)
  first_output d path (Some t) types (var ∷ vars) is typed le =
      address-fits d (stands site path).place (place_fits-more (room (path_depth path)) d (stands site path).place le (paths path t is))

  outputs-fit : (d : ℕ) (outputs : List Path) (vars : List Var) → types_match (map (type_of_path site) outputs) vars ≡ true →
      room (greatest (map path_depth outputs)) ≤ d → list_all (arg_fits d) (map (output_arg site) outputs) ≡ true
  outputs-fit d [] vars typed le = refl
  outputs-fit d (path ∷ outputs) vars typed le =
      let here : room (path_depth path) ≤ d = omega (arith, le) in
      let later : room (greatest (map path_depth outputs)) ≤ d = omega (arith, le) in
      let more = more_types (type_of_path site path) (map (type_of_path site) outputs) vars typed in
      and_from (arg_fits d (output_arg site path)) (list_all (arg_fits d) (map (output_arg site) outputs))
      (first_output d path (type_of_path site path) (map (type_of_path site) outputs) vars refl typed here)
      (outputs-fit d outputs more.0 more.1 later)

  -- the arguments of a call
  pub arguments-fit : (d : ℕ) (inputs : List Expr) (outputs : List Path) (callee : UnitDef) →
      arguments_fit site inputs outputs callee ≡ true →
      room (arguments_depth inputs outputs) ≤ d → list_all (arg_fits d) (call_args site inputs outputs) ≡ true
  arguments-fit d inputs outputs callee fitted le =
      let left : room (greatest (map expr_depth inputs)) ≤ d = omega (arith, le) in
      let right : room (greatest (map path_depth outputs)) ≤ d = omega (arith, le) in
      let rest = and_second (types_match (map (type_of site) inputs) (inputs_of callee)) _ fitted in
      all_append (arg_fits d) (map arg_of (map (made_of site) inputs)) (map (output_arg site) outputs)
      (inputs-fit d inputs (inputs_of callee) (and_first (types_match (map (type_of site) inputs) (inputs_of callee)) _ fitted) left)
      (outputs-fit d outputs (outputs_of callee) (and_first (types_match (map (type_of_path site) outputs) (outputs_of callee)) _ rest) right)

  called_by : (d f : ℕ) (inputs : List Expr) (outputs : List Path) (o : Option UnitDef) → slice_get site.earlier f ≡ o →
      call_fits site inputs outputs o ≡ true → room (arguments_depth inputs outputs) + 1 ≤ d →
      stmt_fits d (c_calling (c_call (name_of_callee o) (call_args site inputs outputs))) ≡ true
  called_by d f inputs outputs None is fitted le = absurd (cc)
  called_by d f inputs outputs (Some callee) is fitted le =
      let a : ℕ = room (arguments_depth inputs outputs) in
      call_stmt-fits d nowhere (c_call (unit_name callee.name) (call_args site inputs outputs))
      (call-fits a d (unit_name callee.name) (call_args site inputs outputs) le
      (callee-name callee.name (source_name callee.name (named f callee is)))
      (arguments-fit a inputs outputs callee (and_second (is_procedure callee) _ fitted) (omega arith)))

  pub called-fits : (d f : ℕ) (inputs : List Expr) (outputs : List Path) → call_fits site inputs outputs (slice_get site.earlier f) ≡ true →
      room (arguments_depth inputs outputs) + 1 ≤ d → stmt_fits d (c_calling (call_made site f inputs outputs)) ≡ true
  called-fits d f inputs outputs fitted le = called_by d f inputs outputs (slice_get site.earlier f) refl fitted le
