-- The C of the blocks of an activity fits a depth.
use Rattle.std.proofs.Common.{◌≡◌, ℕ, ◌+◌, ◌*◌, ◌^◌, ◌<◌, ◌≤◌, max, Bool, true, false, ◌&&◌}
use Rattle.std.proofs.Common.{List, [], ◌∷◌, ◌++◌, map, length, Option, Some, None, refl, sym, ap, ◌∙◌, arith, codes}
use Rattle.std.proofs.lemmas.Bool.Decides.{nat_tests}
use Rattle.std.specs.List.{list_all}
use Rattle.std.specs.Prelude.{is_some, nat_le, slice_get, if◌then◌else◌}
use Rattle.std.proofs.lemmas.Bool.{and_from}
use Rattle.bl_tree.proofs.Basics.{all_append, and_first, and_second}
use Rattle.bl_tree.specs.declared.text.Text.{Text}
use Rattle.bl_tree.specs.declared.c.CArg.{CArg}
use Rattle.bl_tree.specs.declared.c.CArg.TheVariants.{Address}
use Rattle.bl_tree.specs.declared.c.CExpr.{CExpr}
use Rattle.bl_tree.specs.declared.c.CStmt.{CStmt}
use Rattle.bl_tree.specs.declared.scalar.Op.TheVariants.{Or}
use Rattle.bl_tree.specs.declared.scalar.Scalar.{Scalar as ScalarType}
use Rattle.bl_tree.specs.declared.place.Place.{Place}
use Rattle.bl_tree.specs.declared.tree.Expr.{Expr}
use Rattle.bl_tree.specs.declared.tree.Path.{Path}
use Rattle.bl_tree.specs.declared.tree.Stmt.{Stmt, fold_out-Stmt, out-Stmt}
use Rattle.bl_tree.specs.declared.tree.StmtKind.{StmtKind, fold-StmtKind, fold_out-StmtKind, map-StmtKind, out-StmtKind}
use Rattle.bl_tree.specs.declared.tree.StmtKind.TheOpen.{StmtKind-F}
use Rattle.bl_tree.specs.declared.tree.Arm.{Arm, fold-Arm}
use Rattle.bl_tree.specs.declared.tree.Branch.{Branch, fold-Branch}
use Rattle.bl_tree.specs.declared.tree.StructDef.{StructDef}
use Rattle.bl_tree.specs.declared.tree.Ty.{Ty}
use Rattle.bl_tree.specs.declared.tree.Unit.{Unit as UnitDef}
use Rattle.bl_tree.specs.declared.tree.Var.{Var}
use Rattle.bl_tree.specs.Depths.{Depth, arguments_depth, arm_depth, branch_depth, depth_of, expr_depth, path_depth}
use Rattle.bl_tree.specs.Depths.{stmt_kind_depth, stmt_layer_depth, target_depth}
use Rattle.bl_tree.specs.Types.{scalar, type_stands}
use Rattle.bl_tree.specs.Typing.{TypingContext, are_same, arguments_fit, fits, is_activity, is_outlet, is_truth, run_fits, target_fits}
use Rattle.bl_tree.specs.Typing.{arm_fits, branch_fits, kind_fits, return_fits, stmt_fits as stmt_fitted}
use Rattle.bl_tree.specs.Typing.{type_of, type_of_path, var_at}
use Rattle.bl_tree.specs.Program.{names_of}
use Rattle.bl_tree.specs.Words as words
use Rattle.bl_ctext.specs.Names.{is_callee, is_name}
use Rattle.bl_ctext.specs.inner.Fits.{arg_fits, expr_fits, place_fits, step_fits, stmt_fits, stmts_fit}
use Rattle.bl_ctext.proofs.Fitting.{address-fits, call-fits, call_stmt-fits, expr_fits-more, if-fits, place-fits}
use Rattle.bl_ctext.proofs.Fitting.{place_fits-more, read-fits, set-fits, step-fits, stmts_fit-more, two-fits}
use Rattle.bl_ctext.proofs.PrefixedNames.{name-struct, name-with_prefix}
use Rattle.bl_graph_nodes.specs.Nodes.{ActAt, Arguments, CheckAt, DepthEndAt, DepthJoinAt, EnterAt, ForkAt, HeadAt, Node, PauseAt}
use Rattle.bl_graph_nodes.specs.Nodes.{ResumeAt, StartAt, SurfaceEndAt, SurfaceJoinAt, TestAt}
use Rattle.bl_machine_pass.specs.Transitions.{Condition, Ended, Flagged, Rested, RestedIn, Transition}
use Rattle.bl_emit_acts.specs.Acts.{act_code, c_calling, c_clear, c_set, call_args, code_made, name_of_callee}
use Rattle.bl_emit_acts.specs.Expressions.{stands}
use Rattle.bl_emit_acts.specs.Trees.{c_call, c_read, c_step, nowhere}
use Rattle.bl_emit_acts_laws_wellformed.proofs.OnSpelled.Names.{callee-name, memory-name, name_bytes}
use Rattle.bl_emit_acts_laws_wellformed.proofs.OnSpelled.Fits.{source_name, room}
use Rattle.bl_emit_functions.specs.Statements.{else_code}
use Rattle.bl_emit_functions.specs.Trees.{c_if, c_truth}
use Rattle.bl_emit_functions_laws_wellformed.proofs.OnSpelled.Acts.{arguments-fit, one-fits}
use Rattle.bl_emit_functions_laws_wellformed.proofs.OnSpelled.Shapes.{clear-fits, else-fits}
use Rattle.bl_emit_spec.specs.Blocks.{ActivityView, NodeCode, all_merged, arg_where, begun_code, changes_code, choice_code, control_code}
use Rattle.bl_emit_spec.specs.Blocks.{control_unless, entered_by, flag_asked, fused_code, guard_of, has_result, last_turn, layer_acted, leaving_flag}
use Rattle.bl_emit_spec.specs.Blocks.{may_end_in, merged_code, name_in, next_turn, node_turn, node_word, own_code, resumed_code, run_args, run_code}
use Rattle.bl_emit_spec.specs.Blocks.{same_run, spelled_truth, stmt_where, target_code, test_code, turns_of, word_at}
use Rattle.bl_emit_spec.specs.Names.{NumberedWord, callee_frame, callee_memory, callee_name, ended_place, flag_place, frame_name, given_place, result_place}
use Rattle.bl_emit_spec.specs.Names.{with_word}
use Rattle.bl_emit_spec_laws_wellformed.specs.Spelled.{all_fit, change_fits, condition_fits, node_fits, rule_fits, run_stands}
use Rattle.bl_emit_spec_laws_wellformed.proofs.OnSpelled.Guards.{Spells, changes-fit, ended-fits, flag-fits, frame-letter}
use Rattle.bl_emit_spec_laws_wellformed.proofs.OnSpelled.Guards.{given-fits, guard-fits, result-fits, spelled-name, where-fits}
use Rattle.bl_emit_functions_laws_wellformed.proofs.OnSpelled.Statements.{truth-fits}

-- a flag whose number has its word fits inside the test of a block
abbrev pub flag_fits : (ℕ → Text) → Option ℕ → Bool
flag_fits word (Some k) = expr_fits 403 (c_read (flag_place (with_word word k)))
flag_fits word None = true

-- what a turn asks fits inside the test of its `if`, and what it does inside the `if`
abbrev pub turn_fits : (ℕ → Text) → NodeCode → Bool
turn_fits word turn = (expr_fits 403 turn.test && flag_fits word turn.flag) && (stmts_fit 404 turn.own && stmts_fit 404 turn.control)

shallow : (n : ℕ) → nat_le n 200 ≡ true → n ≤ 200
shallow n h = grind (arith, nat_tests)

pub frame-named : (name : Text) → words.is_name name ≡ true → is_name (frame_name name) ≡ true
frame-named name h = name-with_prefix (codes "f_") name refl (source_name name h)

pub callee-named : (k : NumberedWord) → Spells k → is_name (callee_name k) ≡ true
callee-named k small = spelled-name 120 k refl refl small

callee-frame-fits : (d : ℕ) (k : NumberedWord) → 1 ≤ d → Spells k → place_fits d (callee_frame k) ≡ true
callee-frame-fits d k some small =
    place-fits d true (codes "f") (c_step (callee_name k) ∷ []) some frame-letter
    (and_from (step_fits d (c_step (callee_name k))) true (step-fits d (callee_name k) (callee-named k small)) refl)

callee-memory-fits : (d : ℕ) (k : NumberedWord) → 1 ≤ d → Spells k → place_fits d (callee_memory k) ≡ true
callee-memory-fits d k some small =
    place-fits d true (codes "m") (c_step (callee_name k) ∷ []) some memory-name
    (and_from (step_fits d (c_step (callee_name k))) true (step-fits d (callee_name k) (callee-named k small)) refl)

-- the activity that a `run` calls
pub run-callee : (site : TypingContext) (target : Option Path) (inputs : List Expr) (outputs : List Path) (o : Option UnitDef) →
    run_fits site target inputs outputs o ≡ true → (callee : UnitDef) × (o ≡ Some callee)
run-callee site target inputs outputs None h = absurd (cc)
run-callee site target inputs outputs (Some callee) h = (callee, refl)

-- ---- the value of a `return`

module _ (site : TypingContext) where
  abbrev fits_inside : StmtKind-F StmtKind Arm Branch Stmt → StmtKind-F Bool Bool Bool Bool
  fits_inside = map-StmtKind StmtKind Arm Branch Stmt Bool Bool Bool Bool
      (fold-StmtKind Bool Bool Bool Bool (kind_fits site) (arm_fits site) branch_fits stmt_fitted)
      (fold-Arm Bool Bool Bool Bool (kind_fits site) (arm_fits site) branch_fits stmt_fitted)
      (fold-Branch Bool Bool Bool Bool (kind_fits site) (arm_fits site) branch_fits stmt_fitted) (fits site)

  fits_at : (s : Stmt) (layer : StmtKind-F StmtKind Arm Branch Stmt) → out-StmtKind (out-Stmt s).what ≡ layer →
      fits site s ≡ kind_fits site (fits_inside layer)
  fits_at s layer is =
      fold_out-Stmt Bool Bool Bool Bool (kind_fits site) (arm_fits site) branch_fits stmt_fitted s
      ∙ fold_out-StmtKind Bool Bool Bool Bool (kind_fits site) (arm_fits site) branch_fits stmt_fitted (out-Stmt s).what
      ∙ ap (λ layer. kind_fits site (fits_inside layer)) is

abbrev deep_inside : StmtKind-F StmtKind Arm Branch Stmt → StmtKind-F Depth Depth Depth Depth
deep_inside = map-StmtKind StmtKind Arm Branch Stmt Depth Depth Depth Depth
    (fold-StmtKind Depth Depth Depth Depth stmt_kind_depth arm_depth branch_depth stmt_layer_depth)
    (fold-Arm Depth Depth Depth Depth stmt_kind_depth arm_depth branch_depth stmt_layer_depth)
    (fold-Branch Depth Depth Depth Depth stmt_kind_depth arm_depth branch_depth stmt_layer_depth) depth_of

deep_at : (s : Stmt) (layer : StmtKind-F StmtKind Arm Branch Stmt) → out-StmtKind (out-Stmt s).what ≡ layer →
    depth_of s ≡ stmt_kind_depth (deep_inside layer)
deep_at s layer is =
    fold_out-Stmt Depth Depth Depth Depth stmt_kind_depth arm_depth branch_depth stmt_layer_depth s
    ∙ fold_out-StmtKind Depth Depth Depth Depth stmt_kind_depth arm_depth branch_depth stmt_layer_depth (out-Stmt s).what
    ∙ ap (λ layer. stmt_kind_depth (deep_inside layer)) is

returned-fits : (site : TypingContext) →
    ((e : Expr) (ty : Ty) → type_of site e ≡ Some ty → expr_fits (room (expr_depth e)) (code_made site e) ≡ true) →
    (s : Stmt) (e : Expr) → out-StmtKind (out-Stmt s).what ≡ StmtKind-F.Return (Some e) →
    (fits site s && nat_le (depth_of s).exprs 200) ≡ true → expr_fits 402 (code_made site e) ≡ true
returned-fits site exprs s e is h =
    let own : return_fits site (Some e) site.result ≡ true =
    sym (fits_at site s (StmtKind-F.Return (Some e)) is) ∙ and_first (fits site s) (nat_le (depth_of s).exprs 200) h in
    let same : (depth_of s).exprs ≡ expr_depth e = ap (λ (d : Depth). d.exprs) (deep_at s (StmtKind-F.Return (Some e)) is) in
    let deep : (depth_of s).exprs ≤ 200 = shallow (depth_of s).exprs (and_second (fits site s) (nat_le (depth_of s).exprs 200) h) in
    let found = by site.result own in
    expr_fits-more (room (expr_depth e)) 402 (code_made site e) (omega (arith, deep, same)) (exprs e found.0 found.1)
  where
    same_there : (a b : Option Ty) → are_same a b ≡ true → (ty : Ty) × (b ≡ Some ty)
    same_there None None h = absurd (cc)
    same_there None (Some b) h = absurd (cc)
    same_there (Some a) None h = absurd (cc)
    same_there (Some a) (Some b) h = (b, refl)

    by : (r : Option ScalarType) → return_fits site (Some e) r ≡ true → (ty : Ty) × (type_of site e ≡ Some ty)
    by None h = absurd (cc)
    by (Some r) h = same_there (Some (scalar r)) (type_of site e) h

module _ (view : ActivityView) (few : length view.site.vars ≤ 2 ^ 64)
    (node_spells : (n : Node) → Spells (node_word view n)) (places : (at : Place) → view.run at < 2 ^ 64)
    (names : list_all words.is_name (map (λ (def : StructDef). def.name) view.site.structs) ≡ true)
    (named : (f : ℕ) (callee : UnitDef) → slice_get view.site.earlier f ≡ Some callee → words.is_name callee.name ≡ true)
    (vars_named : list_all words.is_name (names_of view.site.vars) ≡ true)
    (typed_vars : (k : ℕ) (var : Var) → var_at view.site k ≡ Some var → type_stands (length view.site.structs) var.ty ≡ true)
    (exprs : (e : Expr) (ty : Ty) → type_of view.site e ≡ Some ty → expr_fits (room (expr_depth e)) (code_made view.site e) ≡ true)
    (paths : (path : Path) (ty : Ty) → type_of_path view.site path ≡ Some ty →
    place_fits (room (path_depth path)) (stands view.site path).place ≡ true)
    (acts : (s : Stmt) → fits view.site s ≡ true → stmts_fit (2 * (depth_of s).exprs + 3) (act_code view.site view.copies s) ≡ true) where
  -- ---- acts

  truth_there : (t : Option Ty) → is_truth t ≡ true → (ty : Ty) × (t ≡ Some ty)
  truth_there None h = absurd (cc)
  truth_there (Some ty) h = (ty, refl)

  there : (a b : Option Ty) → are_same a b ≡ true → (ty : Ty) × (b ≡ Some ty)
  there None None h = absurd (cc)
  there None (Some b) h = absurd (cc)
  there (Some a) None h = absurd (cc)
  there (Some a) (Some b) h = (b, refl)

  test-fits : (e : Expr) → (is_truth (type_of view.site e) && nat_le (expr_depth e) 200) ≡ true → expr_fits 402 (code_made view.site e) ≡ true
  test-fits e h =
      let found = truth_there (type_of view.site e) (and_first (is_truth (type_of view.site e)) (nat_le (expr_depth e) 200) h) in
      let deep : expr_depth e ≤ 200 = shallow (expr_depth e) (and_second (is_truth (type_of view.site e)) (nat_le (expr_depth e) 200) h) in
      expr_fits-more (room (expr_depth e)) 402 (code_made view.site e) (omega (arith, deep)) (exprs e found.0 found.1)

  act_is : (s : Stmt) → (fits view.site s && nat_le (depth_of s).exprs 200) ≡ true → stmts_fit 403 (act_code view.site view.copies s) ≡ true
  act_is s h =
      let deep : (depth_of s).exprs ≤ 200 = shallow (depth_of s).exprs (and_second (fits view.site s) (nat_le (depth_of s).exprs 200) h) in
      stmts_fit-more (2 * (depth_of s).exprs + 3) 403 (act_code view.site view.copies s) (omega (arith, deep))
      (acts s (and_first (fits view.site s) (nat_le (depth_of s).exprs 200) h))

  -- ---- runs

  address : (d : ℕ) (test : Bool) (arg : CArg) → arg_fits d arg ≡ true → list_all (arg_fits d) (arg_where test arg) ≡ true
  address d true arg h = and_from (arg_fits d arg) true h refl
  address d false arg h = refl

  callee_named : (o : Option UnitDef) (a : ℕ) → slice_get view.site.earlier a ≡ o → is_some o ≡ true →
      is_callee (name_of_callee o) ≡ true
  callee_named None a is h = absurd (cc)
  callee_named (Some callee) a is h = callee-name callee.name (source_name callee.name (named a callee is))

  name_known : (o : Option UnitDef) (a : ℕ) → slice_get view.site.earlier a ≡ o → is_some o ≡ true → words.is_name (name_in o) ≡ true
  name_known None a is h = absurd (cc)
  name_known (Some callee) a is h = named a callee is

  some_there : (o : Option UnitDef) (callee : UnitDef) → o ≡ Some callee → is_some o ≡ true
  some_there None callee is = absurd (cc)
  some_there (Some x) callee is = refl

  run_arguments : (target : Option Path) (inputs : List Expr) (outputs : List Path) (o : Option UnitDef) →
      run_fits view.site target inputs outputs o ≡ true → (callee : UnitDef) × (arguments_fit view.site inputs outputs callee ≡ true)
      × (target_fits view.site callee.result target ≡ true)
  run_arguments target inputs outputs None h = absurd (cc)
  run_arguments target inputs outputs (Some callee) h =
      let parts = and_second (is_activity view.site.kind && is_activity callee.kind) (target_fits view.site callee.result target
      && arguments_fit view.site inputs outputs callee) h in (
        callee,
        and_second (target_fits view.site callee.result target) (arguments_fit view.site inputs outputs callee) parts,
        and_first (target_fits view.site callee.result target) (arguments_fit view.site inputs outputs callee) parts,
      )

  module _ (a : ℕ) (arguments : Arguments) (stand : run_stands view.site a arguments ≡ true) where
    abbrev fitted : Bool
    fitted = run_fits view.site arguments.target arguments.inputs arguments.outputs (slice_get view.site.earlier a)

    abbrev deepest : ℕ
    deepest = max (target_depth arguments.target) (arguments_depth arguments.inputs arguments.outputs)

    is_fitted : fitted ≡ true
    is_fitted = and_first fitted (nat_le deepest 200) stand

    deep : deepest ≤ 200
    deep = shallow deepest (and_second fitted (nat_le deepest 200) stand)

    known : is_some (slice_get view.site.earlier a) ≡ true
    known =
        let found = run-callee view.site arguments.target arguments.inputs arguments.outputs (slice_get view.site.earlier a) is_fitted in
        some_there (slice_get view.site.earlier a) found.0 found.1

    call-is : (k : NumberedWord) → Spells k → stmts_fit 403 (run_code view k a arguments) ≡ true
    call-is k small =
        let parts = run_arguments arguments.target arguments.inputs arguments.outputs (slice_get view.site.earlier a) is_fitted in
        let within : room (arguments_depth arguments.inputs arguments.outputs) ≤ 402 = omega (arith, deep) in
        let args = arguments-fit view.site few names named vars_named typed_vars exprs paths 402 arguments.inputs arguments.outputs parts.0 parts.1 within in
        let ends : Bool = may_end_in (slice_get view.site.earlier a) in
        all_append (stmt_fits 403) (stmt_where ends (c_set ended_place (c_truth false)))
        (c_calling (c_call (name_of_callee (slice_get view.site.earlier a)) (run_args view k a arguments)) ∷ [])
        (where-fits 403 ends (c_set ended_place (c_truth false))
        (set-fits 403 nowhere ended_place (c_truth false) (ended-fits 403 (omega arith)) (truth-fits 403 false (omega arith))))
        (one-fits 403 (c_calling (c_call (name_of_callee (slice_get view.site.earlier a)) (run_args view k a arguments)))
        (call_stmt-fits 403 nowhere (c_call (name_of_callee (slice_get view.site.earlier a)) (run_args view k a arguments))
        (call-fits 402 403 (name_of_callee (slice_get view.site.earlier a)) (run_args view k a arguments) (omega arith)
        (callee_named (slice_get view.site.earlier a) a refl known)
        (and_from (arg_fits 402 (Address (callee_frame k))) _ (address-fits 402 (callee_frame k) (callee-frame-fits 402 k (omega arith) small))
        (all_append (arg_fits 402) (arg_where (view.remembers a) (Address (callee_memory k)))
        (call_args view.site arguments.inputs arguments.outputs
        ++ (arg_where (has_result (slice_get view.site.earlier a)) (Address (given_place k)) ++ arg_where ends (Address ended_place)))
        (address 402 (view.remembers a) (Address (callee_memory k))
        (address-fits 402 (callee_memory k) (callee-memory-fits 402 k (omega arith) small)))
        (all_append (arg_fits 402) (call_args view.site arguments.inputs arguments.outputs)
        (arg_where (has_result (slice_get view.site.earlier a)) (Address (given_place k)) ++ arg_where ends (Address ended_place)) args
        (all_append (arg_fits 402) (arg_where (has_result (slice_get view.site.earlier a)) (Address (given_place k)))
        (arg_where ends (Address ended_place))
        (address 402 (has_result (slice_get view.site.earlier a)) (Address (given_place k))
        (address-fits 402 (given_place k) (given-fits 402 k (omega arith) small)))
        (address 402 ends (Address ended_place) (address-fits 402 ended_place (ended-fits 402 (omega arith)))))))))))

    target-by : (k : NumberedWord) → Spells k → (result : Option ScalarType) (target : Option Path) → target_fits view.site result target ≡ true →
        target_depth target ≤ 200 → stmts_fit 403 (target_code view k target) ≡ true
    target-by k small result None h le = refl
    target-by k small None (Some path) h le = absurd (cc)
    target-by k small (Some s) (Some path) h le =
        let found = there (Some (scalar s)) (type_of_path view.site path) (and_second (is_outlet view.site path) _ h) in
        one-fits 403 (c_set (stands view.site path).place (c_read (given_place k)))
        (set-fits 403 nowhere (stands view.site path).place (c_read (given_place k))
        (place_fits-more (room (path_depth path)) 403 (stands view.site path).place (omega (arith, le)) (paths path found.0 found.1))
        (read-fits 403 nowhere (given_place k) (given-fits 403 k (omega arith) small)))

    target-is : (k : NumberedWord) → Spells k → stmts_fit 403 (target_code view k arguments.target) ≡ true
    target-is k small =
        let parts = run_arguments arguments.target arguments.inputs arguments.outputs (slice_get view.site.earlier a) is_fitted in
        target-by k small parts.0.result arguments.target parts.2 (omega (arith, deep))

  -- ---- nodes

  return_result : (e : Expr) → expr_fits 402 (code_made view.site e) ≡ true →
      stmts_fit 404 (c_set result_place (code_made view.site e) ∷ []) ≡ true
  return_result e fit =
      one-fits 404 (c_set result_place (code_made view.site e))
      (set-fits 404 nowhere result_place (code_made view.site e) (result-fits 404 (omega arith))
      (expr_fits-more 402 404 (code_made view.site e) (omega arith) fit))

  acted_by : (s : Stmt) (layer : StmtKind-F StmtKind Arm Branch Stmt) → out-StmtKind (out-Stmt s).what ≡ layer →
      (fits view.site s && nat_le (depth_of s).exprs 200) ≡ true → stmts_fit 404 (layer_acted view s layer) ≡ true
  acted_by s (StmtKind-F.Return (Some e)) is h = return_result e (returned-fits view.site exprs s e is h)
  acted_by s (StmtKind-F.Return None) is h = refl
  acted_by s (StmtKind-F.Declare k initial) is h = stmts_fit-more 403 404 (act_code view.site view.copies s) (omega arith) (act_is s h)
  acted_by s (StmtKind-F.Assign path e) is h = stmts_fit-more 403 404 (act_code view.site view.copies s) (omega arith) (act_is s h)
  acted_by s (StmtKind-F.Call f inputs outputs) is h = stmts_fit-more 403 404 (act_code view.site view.copies s) (omega arith) (act_is s h)
  acted_by s (StmtKind-F.Await e) is h = stmts_fit-more 403 404 (act_code view.site view.copies s) (omega arith) (act_is s h)
  acted_by s (StmtKind-F.Run target a inputs outputs) is h = stmts_fit-more 403 404 (act_code view.site view.copies s) (omega arith) (act_is s h)
  acted_by s (StmtKind-F.If arms other) is h = stmts_fit-more 403 404 (act_code view.site view.copies s) (omega arith) (act_is s h)
  acted_by s (StmtKind-F.Cobegin branches) is h = stmts_fit-more 403 404 (act_code view.site view.copies s) (omega arith) (act_is s h)
  acted_by s (StmtKind-F.When guard e body) is h = stmts_fit-more 403 404 (act_code view.site view.copies s) (omega arith) (act_is s h)
  acted_by s (StmtKind-F.Repeat body) is h = stmts_fit-more 403 404 (act_code view.site view.copies s) (omega arith) (act_is s h)
  acted_by s (StmtKind-F.Until body e) is h = stmts_fit-more 403 404 (act_code view.site view.copies s) (omega arith) (act_is s h)
  acted_by s (StmtKind-F.While e body) is h = stmts_fit-more 403 404 (act_code view.site view.copies s) (omega arith) (act_is s h)

  -- the changes of a rule
  on_true-fits : (rule : Transition) → rule_fits view.sizes rule ≡ true → stmts_fit 3 (changes_code view rule.on_true) ≡ true
  on_true-fits rule h =
      changes-fit view node_spells rule.on_true
      (and_first (list_all (change_fits view.sizes) rule.on_true) (list_all (change_fits view.sizes) rule.on_false)
      (and_second (condition_fits view.sizes rule.condition) _ h))

  on_false-fits : (rule : Transition) → rule_fits view.sizes rule ≡ true → stmts_fit 3 (changes_code view rule.on_false) ≡ true
  on_false-fits rule h =
      changes-fit view node_spells rule.on_false
      (and_second (list_all (change_fits view.sizes) rule.on_true) (list_all (change_fits view.sizes) rule.on_false)
      (and_second (condition_fits view.sizes rule.condition) _ h))

  tested-by : (test : CExpr) (on_true other : List CStmt) → expr_fits 402 test ≡ true → stmts_fit 402 on_true ≡ true →
      stmts_fit 402 other ≡ true →
      stmts_fit 404 (c_if test on_true (else_code other) ∷ []) ≡ true
  tested-by test on_true [] one two three =
      stmts_fit-more 403 404 (c_if test on_true None ∷ []) (omega arith)
      (one-fits 403 (c_if test on_true None) (if-fits 402 403 nowhere test on_true (omega arith) one two))
  tested-by test on_true (s ∷ rest) one two three =
      stmts_fit-more 403 404 (c_if test on_true (Some (s ∷ rest)) ∷ []) (omega arith)
      (one-fits 403 (c_if test on_true (Some (s ∷ rest))) (else-fits 402 403 test on_true (s ∷ rest) (omega arith) one two three))

  tested-fits : (e : Expr) (rule : Transition) → rule_fits view.sizes rule ≡ true → expr_fits 402 (code_made view.site e) ≡ true →
      stmts_fit 404 (test_code view (code_made view.site e) rule) ≡ true
  tested-fits e rule h fit = by (spelled_truth (code_made view.site e))
    where
      by : (truth : Option Bool) →
          stmts_fit 404 (choice_code (code_made view.site e) truth (changes_code view rule.on_true) (changes_code view rule.on_false)) ≡ true
      by None =
          tested-by (code_made view.site e) (changes_code view rule.on_true) (changes_code view rule.on_false) fit
          (stmts_fit-more 3 402 (changes_code view rule.on_true) (omega arith) (on_true-fits rule h))
          (stmts_fit-more 3 402 (changes_code view rule.on_false) (omega arith) (on_false-fits rule h))
      by (Some true) = stmts_fit-more 3 404 (changes_code view rule.on_true) (omega arith) (on_true-fits rule h)
      by (Some false) = stmts_fit-more 3 404 (changes_code view rule.on_false) (omega arith) (on_false-fits rule h)

  only : (rule : Transition) → rule_fits view.sizes rule ≡ true → stmts_fit 404 (changes_code view rule.on_true) ≡ true
  only rule h = stmts_fit-more 3 404 (changes_code view rule.on_true) (omega arith) (on_true-fits rule h)

  begun-fits : (k : NumberedWord) (a : ℕ) (arguments : Arguments) (rule : Transition) → Spells k → rule_fits view.sizes rule ≡ true →
      run_stands view.site a arguments ≡ true → stmts_fit 404 (begun_code view k a rule) ≡ true
  begun-fits k a arguments rule small h stand =
      let name : Text = name_in (slice_get view.site.earlier a) in
      and_from (stmt_fits 404 (c_clear (callee_frame k) (frame_name name))) (stmts_fit 404 (changes_code view rule.on_true))
      (clear-fits 404 (callee_frame k) (frame_name name) (omega arith)
      (name-struct (frame_name name) (frame-named name (name_known (slice_get view.site.earlier a) a refl (known a arguments stand))))
      (callee-frame-fits 404 k (omega arith) small)) (only rule h)

  called-fits : (k : NumberedWord) (a : ℕ) (arguments : Arguments) → Spells k → run_stands view.site a arguments ≡ true →
      stmts_fit 404 (run_code view k a arguments) ≡ true
  called-fits k a arguments small stand = stmts_fit-more 403 404 (run_code view k a arguments) (omega arith) (call-is a arguments stand k small)

  resumed-fits : (k : NumberedWord) (a : ℕ) (arguments : Arguments) (rule : Transition) → Spells k → rule_fits view.sizes rule ≡ true →
      run_stands view.site a arguments ≡ true → stmts_fit 404 (resumed_code view k a arguments rule) ≡ true
  resumed-fits k a arguments rule small h stand =
      let code : List CStmt = target_code view k arguments.target ++ changes_code view rule.on_true in
      let ends : Bool = may_end_in (slice_get view.site.earlier a) in
      all_append (stmt_fits 404) (run_code view k a arguments) (stmt_where ends (c_if (c_read ended_place) code None))
      (called-fits k a arguments small stand)
      (where-fits 404 ends (c_if (c_read ended_place) code None)
      (if-fits 403 404 nowhere (c_read ended_place) code (omega arith)
      (read-fits 403 nowhere ended_place (ended-fits 403 (omega arith)))
      (all_append (stmt_fits 403) (target_code view k arguments.target) (changes_code view rule.on_true) (target-is a arguments stand k small)
      (stmts_fit-more 3 403 (changes_code view rule.on_true) (omega arith) (on_true-fits rule h)))))

  -- the number and word in the C names of a `run`
  spells : (at : Place) (a : ℕ) (arguments : Arguments) → run_stands view.site a arguments ≡ true → Spells (word_at view at a)
  spells at a arguments stand = record {
    small = places at;
    word = name_bytes (name_in (slice_get view.site.earlier a)) (name_known (slice_get view.site.earlier a) a refl (known a arguments stand));
  }

  own-is : (a : ℕ) (rule : Transition) (n : Node) → rule_fits view.sizes rule ≡ true → node_fits view.site a n ≡ true →
      stmts_fit 404 (own_code view a rule n) ≡ true
  own-is a rule (ActAt l s) h fit = acted_by s (out-StmtKind (out-Stmt s).what) refl fit
  own-is a rule (TestAt l at e) h fit = refl
  own-is a rule (CheckAt l at e) h fit = refl
  own-is a rule (EnterAt l at arguments) h fit = begun-fits (word_at view at a) a arguments rule (spells at a arguments fit) h fit
  own-is a rule (ResumeAt l at arguments) h fit = refl
  own-is a rule (PauseAt l at) h fit = refl
  own-is a rule (HeadAt l at) h fit = refl
  own-is a rule (StartAt l at) h fit = refl
  own-is a rule (SurfaceEndAt l at) h fit = refl
  own-is a rule (DepthEndAt l at) h fit = refl
  own-is a rule (ForkAt l at) h fit = refl
  own-is a rule (SurfaceJoinAt l at) h fit = refl
  own-is a rule (DepthJoinAt l at) h fit = refl

  control-is : (a : ℕ) (rule : Transition) (n : Node) → rule_fits view.sizes rule ≡ true → node_fits view.site a n ≡ true →
      stmts_fit 404 (control_code view a rule n) ≡ true
  control-is a rule (ActAt l s) h fit = only rule h
  control-is a rule (TestAt l at e) h fit = tested-fits e rule h (test-fits e fit)
  control-is a rule (CheckAt l at e) h fit = tested-fits e rule h (test-fits e fit)
  control-is a rule (EnterAt l at arguments) h fit = called-fits (word_at view at a) a arguments (spells at a arguments fit) fit
  control-is a rule (ResumeAt l at arguments) h fit =
      resumed-fits (word_at view at a) a arguments rule (spells at a arguments fit) h fit
  control-is a rule (PauseAt l at) h fit = only rule h
  control-is a rule (HeadAt l at) h fit = only rule h
  control-is a rule (StartAt l at) h fit = only rule h
  control-is a rule (SurfaceEndAt l at) h fit = only rule h
  control-is a rule (DepthEndAt l at) h fit = only rule h
  control-is a rule (ForkAt l at) h fit = only rule h
  control-is a rule (SurfaceJoinAt l at) h fit = only rule h
  control-is a rule (DepthJoinAt l at) h fit = only rule h

  asked-is : (n : Node) (condition : Condition) → flag_fits view.word (flag_asked view n condition) ≡ true
  asked-is n Flagged = read-fits 403 nowhere (flag_place (node_word view n)) (flag-fits 403 (node_word view n) (omega arith) (node_spells n))
  asked-is n (Rested slot) = refl
  asked-is n (RestedIn slots) = refl
  asked-is n (Ended age needed) = refl

  turn-is : (a : ℕ) (rule : Transition) → rule_fits view.sizes rule ≡ true → node_fits view.site a rule.node ≡ true →
      turn_fits view.word (node_turn view a rule) ≡ true
  turn-is a rule h fit =
      and_from (expr_fits 403 (guard_of view rule.node rule.condition) && flag_fits view.word (flag_asked view rule.node rule.condition))
      (stmts_fit 404 (own_code view a rule rule.node) && stmts_fit 404 (control_code view a rule rule.node))
      (and_from (expr_fits 403 (guard_of view rule.node rule.condition)) (flag_fits view.word (flag_asked view rule.node rule.condition))
      (expr_fits-more 68 403 (guard_of view rule.node rule.condition) (omega arith)
      (guard-fits view node_spells rule.node rule.condition (and_first (condition_fits view.sizes rule.condition) _ h)))
      (asked-is rule.node rule.condition))
      (and_from (stmts_fit 404 (own_code view a rule rule.node)) (stmts_fit 404 (control_code view a rule rule.node))
      (own-is a rule rule.node h fit) (control-is a rule rule.node h fit))

  -- the turns of all nodes fit
  pub turns-fit : (callees : List ℕ) (rules : List Transition) → all_fit view.sizes view.site callees rules ≡ true →
      list_all (turn_fits view.word) (turns_of view callees rules) ≡ true
  turns-fit [] rules all = refl
  turns-fit (a ∷ callees) [] all = refl
  turns-fit (a ∷ callees) (rule ∷ rules) all =
      let own = and_first (rule_fits view.sizes rule && node_fits view.site a rule.node) (all_fit view.sizes view.site callees rules) all in
      and_from (turn_fits view.word (node_turn view a rule)) (list_all (turn_fits view.word) (turns_of view callees rules))
      (turn-is a rule (and_first (rule_fits view.sizes rule) (node_fits view.site a rule.node) own)
      (and_second (rule_fits view.sizes rule) (node_fits view.site a rule.node) own))
      (turns-fit callees rules
      (and_second (rule_fits view.sizes rule && node_fits view.site a rule.node) (all_fit view.sizes view.site callees rules) all))

-- ---- blocks

-- numbers of nodes have these words
module _ (word : ℕ → Text) where
  module _ (turn : NodeCode) (fit : turn_fits word turn ≡ true) where
    abbrev asks : Bool
    asks = expr_fits 403 turn.test && flag_fits word turn.flag

    abbrev does : Bool
    does = stmts_fit 404 turn.own && stmts_fit 404 turn.control

    test-of : expr_fits 403 turn.test ≡ true
    test-of = and_first (expr_fits 403 turn.test) (flag_fits word turn.flag) (and_first asks does fit)

    flag-of : flag_fits word turn.flag ≡ true
    flag-of = and_second (expr_fits 403 turn.test) (flag_fits word turn.flag) (and_first asks does fit)

    own-of : stmts_fit 404 turn.own ≡ true
    own-of = and_first (stmts_fit 404 turn.own) (stmts_fit 404 turn.control) (and_second asks does fit)

    -- with its call, or without it
    control-of : (leaves : Bool) → stmts_fit 404 (control_unless leaves turn) ≡ true
    control-of true = refl
    control-of false = and_second (stmts_fit 404 turn.own) (stmts_fit 404 turn.control) (and_second asks does fit)

  -- what the turns of a block do fits as deep as what each of them does
  fused-fits : (leaves : Bool) (turn : NodeCode) (turns : List NodeCode) → turn_fits word turn ≡ true → list_all (turn_fits word) turns ≡ true →
      stmts_fit 404 (fused_code leaves turn turns) ≡ true
  fused-fits leaves last [] own all =
      all_append (stmt_fits 404) last.own (control_unless leaves last) (own-of last own) (control-of last own leaves)
  fused-fits leaves turn (next ∷ rest) own all =
      all_append (stmt_fits 404) turn.own (fused_code leaves next rest) (own-of turn own)
      (fused-fits leaves next rest (and_first (turn_fits word next) (list_all (turn_fits word) rest) all)
      (and_second (turn_fits word next) (list_all (turn_fits word) rest) all))

  entered-fits : (before : Option ℕ) (test : CExpr) → flag_fits word before ≡ true → expr_fits 403 test ≡ true →
      expr_fits 404 (entered_by word before test) ≡ true
  entered-fits None test flag fit = expr_fits-more 403 404 test (omega arith) fit
  entered-fits (Some k) test flag fit = two-fits 403 404 nowhere Or (c_read (flag_place (with_word word k))) test (omega arith) refl flag fit

  -- a block whose turns fit does so, one level deeper than each of them
  merged-fits : (before : Option ℕ) (leaves : Bool) (turns : List NodeCode) → flag_fits word before ≡ true → list_all (turn_fits word) turns ≡ true →
      stmts_fit 405 (merged_code word before leaves turns) ≡ true
  merged-fits before leaves [] flag all = refl
  merged-fits before leaves (first ∷ rest) flag all =
      let own = and_first (turn_fits word first) (list_all (turn_fits word) rest) all in
      one-fits 405 (c_if (entered_by word before first.test) (fused_code leaves first rest) None)
      (if-fits 404 405 nowhere (entered_by word before first.test) (fused_code leaves first rest) (omega arith)
      (entered-fits before first.test flag (test-of first own))
      (fused-fits leaves first rest own (and_second (turn_fits word first) (list_all (turn_fits word) rest) all)))

  left-fits : (block : List NodeCode) (next : Option NodeCode) → list_all (turn_fits word) block ≡ true → flag_fits word (leaving_flag block next) ≡ true
  left-fits [] next all = refl
  left-fits (first ∷ rest) None all = refl
  left-fits (first ∷ rest) (Some next) all = by (same_run (last_turn first rest).run next.run)
    where
      by : (same : Bool) → flag_fits word (if same then first.flag else None) ≡ true
      by true = flag-of first (and_first (turn_fits word first) (list_all (turn_fits word) rest) all)
      by false = refl

  -- blocks whose turns fit do so
  pub all_merged-fit : (before : Option ℕ) (blocks : List (List NodeCode)) → flag_fits word before ≡ true → list_all (list_all (turn_fits word)) blocks ≡ true →
      stmts_fit 405 (all_merged word before blocks) ≡ true
  all_merged-fit before [] flag all = refl
  all_merged-fit before (block ∷ rest) flag all =
      let left : Option ℕ = leaving_flag block (next_turn rest) in
      let own = and_first (list_all (turn_fits word) block) (list_all (list_all (turn_fits word)) rest) all in
      all_append (stmt_fits 405) (merged_code word before (is_some left) block) (all_merged word left rest) (merged-fits before (is_some left) block flag own)
      (all_merged-fit left rest (left-fits block (next_turn rest) own)
      (and_second (list_all (turn_fits word) block) (list_all (list_all (turn_fits word)) rest) all))
