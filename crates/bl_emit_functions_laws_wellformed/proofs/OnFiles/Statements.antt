-- The C of a statement calls the prelude's functions, and the functions that the statement calls.
use Rattle.std.proofs.Common.{◌≡◌, ℕ, ◌≤◌, pos, Bool, true, false, List, [], ◌∷◌, ◌++◌, map, Option, Some, None}
use Rattle.std.proofs.Common.{sym, subst}
use Rattle.std.proofs.lemmas.List.Elements.{All-cons, All-head, All-nil, All-tail}
use Rattle.std.specs.Prelude.{All, option_map, slice_get, if◌then◌else◌}
use Rattle.bl_tree.specs.declared.text.Text.{Text}
use Rattle.bl_tree.specs.declared.c.CExpr.{CExpr}
use Rattle.bl_tree.specs.declared.c.CPlace.{CPlace}
use Rattle.bl_tree.specs.declared.c.CStmt.{CStmt}
use Rattle.bl_tree.specs.declared.scalar.Op.TheVariants.{And}
use Rattle.bl_tree.specs.declared.scalar.Scalar.{Scalar as ScalarType}
use Rattle.bl_tree.specs.declared.scalar.Scalar.TheVariants.{Bool as OfBool}
use Rattle.bl_tree.specs.declared.tree.Arm.{Arm, fold_out-Arm, out-Arm}
use Rattle.bl_tree.specs.declared.tree.Expr.{Expr}
use Rattle.bl_tree.specs.declared.tree.Path.{Path}
use Rattle.bl_tree.specs.declared.tree.Stmt.{Stmt, fold-roll-Stmt}
use Rattle.bl_tree.specs.declared.tree.StmtKind.{fold-roll-StmtKind}
use Rattle.bl_tree.specs.declared.tree.Ty.{Ty}
use Rattle.bl_tree.specs.Reduce.{joined}
use Rattle.bl_tree.specs.Types.{scalar_in}
use Rattle.bl_tree.specs.Typing.{TypingContext, var_at}
use Rattle.bl_tree.proofs.StmtInduction.{Cases, Each, EachArm, induct}
use Rattle.bl_limits_measures.specs.Calls.{arm_calls, branch_calls, calls_in_arm, calls_in_expr, calls_in_path, optional_calls, stmt_kind_calls}
use Rattle.bl_limits_measures.specs.Calls.{stmt_layer_calls}
use Rattle.bl_limits_measures.specs.Calls.{argument_calls, calls_in as named_in}
use Rattle.bl_ctext_semantics.specs.Calls.{calls_in, calls_in_arg, calls_in_block, calls_in_call, calls_in_place, calls_in_stmt, calls_or_none}
use Rattle.bl_emit_acts.specs.Acts.{c_calling, c_clear, c_set, c_zeroed, call_args, call_made, code_made, copy_code, initial_code, is_copied}
use Rattle.bl_emit_acts.specs.Acts.{name_of_callee, output_arg, zeroed}
use Rattle.bl_emit_acts.specs.Expressions.{arg_of, code_of, function_name, made_of, stands, type_at}
use Rattle.bl_emit_acts.specs.Places.{place_in}
use Rattle.bl_emit_acts.specs.Trees.{c_literal, c_place, c_read, c_two}
use Rattle.bl_emit_acts.specs.Types.{c_scalar, copy_name, type_name}
use Rattle.bl_emit_functions.specs.declared.coded.Coded.{Coded}
use Rattle.bl_emit_functions.specs.declared.coded.Free.{Free}
use Rattle.bl_emit_functions.specs.Statements.{ArmCodes, Codes, arm_codes, arms_taken, assigned_code, block_codes, branch_codes, break_code, choice_code}
use Rattle.bl_emit_functions.specs.Statements.{codes_of, codes_of_arm, either_code, else_code, flag_taken, flagged_code, kind_codes, loop_code}
use Rattle.bl_emit_functions.specs.Statements.{sets_itself, stmt_codes, turn_taken, untaken_code}
use Rattle.bl_emit_functions.specs.Trees.{c_break, c_if, c_loop, c_return, c_truth, flag_name, flag_place, turn_name}
use Rattle.bl_emit_functions_laws_wellformed.proofs.OnFiles.Expressions.{Light, args_light, call-light, callee_light, expr_light, literal-light, none-light}
use Rattle.bl_emit_functions_laws_wellformed.proofs.OnFiles.Expressions.{own_light}
use Rattle.bl_emit_functions_laws_wellformed.proofs.OnFiles.Expressions.{path_light, read-light, root-light, same-light, two-light}
use Rattle.bl_emit_functions_laws_wellformed.proofs.OnFiles.Shapes.{address-calls, break-calls, calling-calls, clear-calls, if-calls, loop-calls, other_calls}
use Rattle.bl_emit_functions_laws_wellformed.proofs.OnFiles.Shapes.{return-calls}
use Rattle.bl_emit_functions_laws_wellformed.proofs.OnFiles.Shapes.{set-calls}
use Rattle.bl_emit_functions_laws_wellformed.proofs.OnFiles.Under.{Under, append-under, back-under, both-under, front-under, head-under, none-under, tail-under}

module _ (weight : Text → ℕ) (prelude : (word : Text) (s : ScalarType) → weight (function_name word s) ≡ 0) where
  -- no function with a greater number is called
  abbrev pub Few : ℕ → List CStmt → Type 0
  Few n code = Light weight prelude n (calls_in_block code)

  abbrev ExprFew : ℕ → CExpr → Type 0
  ExprFew n e = Light weight prelude n (calls_in e)

  abbrev PlaceFew : ℕ → CPlace → Type 0
  PlaceFew n place = Light weight prelude n (calls_in_place place)

  abbrev StmtFew : ℕ → CStmt → Type 0
  StmtFew n s = Light weight prelude n (calls_in_stmt s)

  pub none_few : (n : ℕ) → Few n []
  none_few n = none-under weight n

  pub first_few : (n : ℕ) (s : CStmt) (code : List CStmt) → StmtFew n s → Few n code → Few n (s ∷ code)
  first_few n s code one more = append-under weight n (calls_in_stmt s) (calls_in_block code) one more

  pub one_few : (n : ℕ) (s : CStmt) → StmtFew n s → Few n (s ∷ [])
  one_few n s one = first_few n s [] one (none_few n)

  pub then_few : (n : ℕ) (first second : List CStmt) → Few n first → Few n second → Few n (first ++ second)
  then_few n first second one other = both-under weight n calls_in_stmt first second one other

  -- ---- single statements

  pub set_few : (n : ℕ) (place : CPlace) (e : CExpr) → PlaceFew n place → ExprFew n e → StmtFew n (c_set place e)
  set_few n place e one other =
      same-light weight prelude n (calls_in_stmt (c_set place e)) (calls_in_place place ++ calls_in e) (set-calls place e)
      (append-under weight n (calls_in_place place) (calls_in e) one other)

  pub return_few : (n : ℕ) (value : Option CExpr) → Light weight prelude n (calls_or_none value) → StmtFew n (c_return value)
  return_few n value one = same-light weight prelude n (calls_in_stmt (c_return value)) (calls_or_none value) (return-calls value) one

  if_few : (n : ℕ) (test : CExpr) (block : List CStmt) (other : Option (List CStmt)) → ExprFew n test → Few n block →
      Light weight prelude n (other_calls other) → StmtFew n (c_if test block other)
  if_few n test block other is one more =
      same-light weight prelude n (calls_in_stmt (c_if test block other)) ((calls_in test ++ calls_in_block block) ++ other_calls other)
      (if-calls test block other)
      (append-under weight n (calls_in test ++ calls_in_block block) (other_calls other)
      (append-under weight n (calls_in test) (calls_in_block block) is one) more)

  else_few : (n : ℕ) (code : List CStmt) → Few n code → Light weight prelude n (other_calls (else_code code))
  else_few n [] all = none-under weight n
  else_few n (s ∷ rest) all = all

  truth_few : (n : ℕ) (b : Bool) → ExprFew n (c_truth b)
  truth_few n true = literal-light weight prelude n OfBool (pos 1)
  truth_few n false = literal-light weight prelude n OfBool (pos 0)

  flag_few : (n flag : ℕ) → PlaceFew n (flag_place flag)
  flag_few n flag = root-light weight prelude n false (flag_name flag)

  flag_read : (n flag : ℕ) → ExprFew n (c_read (flag_place flag))
  flag_read n flag = read-light weight prelude n (flag_place flag) (flag_few n flag)

  flag_set : (n flag : ℕ) (b : Bool) → StmtFew n (c_set (flag_place flag) (c_truth b))
  flag_set n flag b = set_few n (flag_place flag) (c_truth b) (flag_few n flag) (truth_few n b)

  break_few : (n : ℕ) (test : CExpr) → ExprFew n test → Few n (break_code test)
  break_few n test is =
      one_few n (c_if test (c_break ∷ []) None)
      (if_few n test (c_break ∷ []) None is (one_few n c_break (none-light weight prelude n (calls_in_stmt c_break) break-calls)) (none-under weight n))

  -- ---- C by the numbers that are free

  abbrev pub CodesFew : ℕ → Codes → Type 0
  CodesFew n codes = (free : Free) → Few n (codes free).code

  abbrev ArmFew : ℕ → ArmCodes → Type 0
  ArmFew n arm = ExprFew n arm.test × CodesFew n arm.body

  abbrev ArmsFew : ℕ → List ArmCodes → Type 0
  ArmsFew n [] = Unit {0}
  ArmsFew n (arm ∷ arms) = ArmFew n arm × ArmsFew n arms

  arms_few : (n flag : ℕ) (arms : List ArmCodes) → ArmsFew n arms → CodesFew n (arms_taken flag arms)
  arms_few n flag [] all free = none_few n
  arms_few n flag (arm ∷ arms) all free =
      first_few n _ (arms_taken flag arms (arm.body free).free).code
      (if_few n (c_two And (c_read (flag_place flag)) arm.test) (c_set (flag_place flag) (c_truth false) ∷ (arm.body free).code) None
      (two-light weight prelude n And (c_read (flag_place flag)) arm.test (flag_read n flag) all.0.0)
      (first_few n (c_set (flag_place flag) (c_truth false)) (arm.body free).code (flag_set n flag false) (all.0.1 free)) (none-under weight n))
      (arms_few n flag arms all.1 (arm.body free).free)

  untaken_few : (n flag : ℕ) (code : List CStmt) → Few n code → Few n (untaken_code flag code)
  untaken_few n flag [] all = none_few n
  untaken_few n flag (s ∷ rest) all =
      one_few n (c_if (c_read (flag_place flag)) (s ∷ rest) None)
      (if_few n (c_read (flag_place flag)) (s ∷ rest) None (flag_read n flag) all (none-under weight n))

  flagged_few : (n : ℕ) (arms : List ArmCodes) (other : Codes) → ArmsFew n arms → CodesFew n other → CodesFew n (flagged_code arms other)
  flagged_few n arms other all more free =
      let inner : Coded = arms_taken free.flags arms (flag_taken free) in
      first_few n (c_set (flag_place free.flags) (c_truth true)) (inner.code ++ untaken_code free.flags (other inner.free).code)
      (flag_set n free.flags true)
      (then_few n inner.code (untaken_code free.flags (other inner.free).code) (arms_few n free.flags arms all (flag_taken free))
      (untaken_few n free.flags (other inner.free).code (more inner.free)))

  either_few : (n : ℕ) (arm : ArmCodes) (other : Codes) → ArmFew n arm → CodesFew n other → CodesFew n (either_code arm other)
  either_few n arm other one more free =
      one_few n (c_if arm.test (arm.body free).code (else_code (other (arm.body free).free).code))
      (if_few n arm.test (arm.body free).code (else_code (other (arm.body free).free).code) one.0 (one.1 free)
      (else_few n (other (arm.body free).free).code (more (arm.body free).free)))

  choice_few : (n : ℕ) (arms : List ArmCodes) (other : Codes) → ArmsFew n arms → CodesFew n other → CodesFew n (choice_code arms other)
  choice_few n [] other all more free = flagged_few n [] other all more free
  choice_few n (arm ∷ []) other all more free = either_few n arm other all.0 more free
  choice_few n (arm ∷ second ∷ []) other all more free =
      either_few n arm (either_code second other) all.0 (either_few n second other all.1.0 more) free
  choice_few n (arm ∷ second ∷ third ∷ rest) other all more free = flagged_few n (arm ∷ second ∷ third ∷ rest) other all more free

  loop_few : (n turn : ℕ) (test : CExpr) (last : List CStmt) (body : Coded) → ExprFew n test → Few n last → Few n body.code →
      Few n (loop_code turn test last body).code
  loop_few n turn test last body is ends all =
      one_few n (c_loop (turn_name turn) test (body.code ++ last))
      (same-light weight prelude n (calls_in_stmt (c_loop (turn_name turn) test (body.code ++ last))) (calls_in test ++ calls_in_block (body.code ++ last))
      (loop-calls (turn_name turn) test (body.code ++ last))
      (append-under weight n (calls_in test) (calls_in_block (body.code ++ last)) is (then_few n body.code last all ends)))

  -- ---- all statements

  module _ (site : TypingContext) (by : ℕ → ℕ) (callees : (f : ℕ) → weight (name_of_callee (slice_get site.earlier f)) ≤ by f) where
    abbrev S : Stmt → Type 0
    S s = (n : ℕ) → Under by n (named_in s) → CodesFew n (codes_of site s)

    code_few : (n : ℕ) (e : Expr) → Under by n (calls_in_expr e) → ExprFew n (code_made site e)
    code_few n e few = expr_light weight prelude site by callees e n few

    place_few : (n : ℕ) (path : Path) → Under by n (calls_in_path path) → PlaceFew n (stands site path).place
    place_few n path few = path_light weight prelude site by callees path n few

    pub own_few : (n k : ℕ) → PlaceFew n (place_in site k [])
    own_few n k = own_light weight prelude site by callees n k

    all_few : (body : List Stmt) → Each S body → (n : ℕ) → Under by n (joined (map named_in body))
        → CodesFew n (block_codes (map (codes_of site) body))
    all_few [] each n few free = none_few n
    all_few (s ∷ body) each n few free =
        then_few n (codes_of site s free).code (block_codes (map (codes_of site) body) (codes_of site s free).free).code
        (All-head S s body each n (front-under by n (named_in s) (joined (map named_in body)) few) free)
        (all_few body (All-tail S s body each) n (back-under by n (named_in s) (joined (map named_in body)) few) (codes_of site s free).free)

    -- ---- declarations

    zeroed_few : (n : ℕ) (place : CPlace) (ty : Ty) (s : Option ScalarType) → PlaceFew n place → StmtFew n (c_zeroed site.structs place ty s)
    zeroed_few n place ty (Some s) one = set_few n place (c_literal (c_scalar s) (pos 0)) one (literal-light weight prelude n (c_scalar s) (pos 0))
    zeroed_few n place ty None one =
        same-light weight prelude n (calls_in_stmt (c_clear place (type_name site.structs ty))) (calls_in_place place)
        (clear-calls place (type_name site.structs ty)) one

    zero_few : (n : ℕ) (place : CPlace) (ty : Option Ty) → PlaceFew n place → Few n (zeroed site.structs place ty)
    zero_few n place (Some ty) one = one_few n (c_zeroed site.structs place ty (scalar_in ty)) (zeroed_few n place ty (scalar_in ty) one)
    zero_few n place None one = none_few n

    initial_few : (n k : ℕ) (initial : Option Expr) → Under by n (optional_calls initial) → Few n (initial_code site k initial)
    initial_few n k (Some e) few =
        one_few n (c_set (place_in site k []) (code_made site e)) (set_few n (place_in site k []) (code_made site e) (own_few n k) (code_few n e few))
    initial_few n k None few = zero_few n (place_in site k []) (type_at (var_at site k)) (own_few n k)

    copy_few : (n k : ℕ) (copied : Bool) → Few n (copy_code site copied k)
    copy_few n k true =
        one_few n (c_set (c_place false (copy_name site.vars k) []) (c_read (place_in site k [])))
        (set_few n (c_place false (copy_name site.vars k) []) (c_read (place_in site k [])) (root-light weight prelude n false (copy_name site.vars k))
        (read-light weight prelude n (place_in site k []) (own_few n k)))
    copy_few n k false = none_few n

    -- ---- assignments

    assigned_few : (n : ℕ) (path : Path) (e : Expr) → Under by n (calls_in_path path ++ calls_in_expr e) → Few n (assigned_code site path e)
    assigned_few n path e all = each (sets_itself path e)
      where
        each : (itself : Bool) → Few n (if itself then [] else c_set (stands site path).place (code_made site e) ∷ [])
        each true = none_few n
        each false =
            one_few n (c_set (stands site path).place (code_made site e))
            (set_few n (stands site path).place (code_made site e)
            (place_few n path (front-under by n (calls_in_path path) (calls_in_expr e) all))
            (code_few n e (back-under by n (calls_in_path path) (calls_in_expr e) all)))

    -- ---- calls

    outputs_few : (n : ℕ) (outputs : List Path) → Under by n (joined (map calls_in_path outputs)) →
        Light weight prelude n (joined (map calls_in_arg (map (output_arg site) outputs)))
    outputs_few n [] few = none-under weight n
    outputs_few n (path ∷ outputs) few =
        append-under weight n (calls_in_arg (output_arg site path)) (joined (map calls_in_arg (map (output_arg site) outputs)))
        (same-light weight prelude n (calls_in_arg (output_arg site path)) (calls_in_place (stands site path).place) (address-calls (stands site path).place)
        (place_few n path (front-under by n (calls_in_path path) (joined (map calls_in_path outputs)) few)))
        (outputs_few n outputs (back-under by n (calls_in_path path) (joined (map calls_in_path outputs)) few))

    abbrev OfExpr : Expr → Type 0
    OfExpr e = (n : ℕ) → Under by n (calls_in_expr e) → Light weight prelude n (calls_in (code_of (made_of site e)))

    each_light : (inputs : List Expr) → All OfExpr inputs
    each_light [] = All-nil OfExpr
    each_light (e ∷ inputs) = All-cons OfExpr e inputs (expr_light weight prelude site by callees e) (each_light inputs)

    call_few : (n f : ℕ) (inputs : List Expr) (outputs : List Path) → Under by n (f ∷ argument_calls inputs outputs) →
        StmtFew n (c_calling (call_made site f inputs outputs))
    call_few n f inputs outputs few =
        let all : Under by n (argument_calls inputs outputs) = tail-under by n f (argument_calls inputs outputs) few in
        same-light weight prelude n (calls_in_stmt (c_calling (call_made site f inputs outputs))) (calls_in_call (call_made site f inputs outputs))
        (calling-calls (call_made site f inputs outputs))
        (call-light weight prelude n (name_of_callee (slice_get site.earlier f)) (call_args site inputs outputs)
        (callee_light weight prelude site by callees n f (head-under by n f (argument_calls inputs outputs) few))
        (both-under weight n calls_in_arg (map arg_of (map (made_of site) inputs)) (map (output_arg site) outputs)
        (args_light weight prelude site by callees inputs (each_light inputs) n
        (front-under by n (joined (map calls_in_expr inputs)) (joined (map calls_in_path outputs)) all))
        (outputs_few n outputs (back-under by n (joined (map calls_in_expr inputs)) (joined (map calls_in_path outputs)) all))))

    -- ---- arms

    arm_out : (arm : Arm) → codes_of_arm site arm
        ≡ record { test = code_made site (out-Arm arm).test; body = block_codes (map (codes_of site) (out-Arm arm).body) }
    arm_out arm = fold_out-Arm Codes ArmCodes Codes Codes (kind_codes site) (arm_codes site) branch_codes stmt_codes arm

    arm_named : (arm : Arm) → calls_in_arm arm ≡ calls_in_expr (out-Arm arm).test ++ joined (map named_in (out-Arm arm).body)
    arm_named arm = fold_out-Arm (List ℕ) (List ℕ) (List ℕ) (List ℕ) stmt_kind_calls arm_calls branch_calls stmt_layer_calls arm

    abbrev OfArm : Arm → Type 0
    OfArm arm = Each S (out-Arm arm).body

    arm_few : (n : ℕ) (arm : Arm) → OfArm arm → Under by n (calls_in_arm arm) → ArmFew n (codes_of_arm site arm)
    arm_few n arm each few =
        let all : Under by n (calls_in_expr (out-Arm arm).test ++ joined (map named_in (out-Arm arm).body)) =
        subst (λ names. Under by n names) (arm_named arm) few in
        subst (ArmFew n) (sym (arm_out arm)) (
          code_few n (out-Arm arm).test (front-under by n (calls_in_expr (out-Arm arm).test) (joined (map named_in (out-Arm arm).body)) all),
          all_few (out-Arm arm).body each n (back-under by n (calls_in_expr (out-Arm arm).test) (joined (map named_in (out-Arm arm).body)) all),
        )

    all_arms : (n : ℕ) (arms : List Arm) → EachArm S arms → Under by n (joined (map calls_in_arm arms)) → ArmsFew n (map (codes_of_arm site) arms)
    all_arms n [] each few = tt
    all_arms n (arm ∷ arms) each few = (
      arm_few n arm (All-head OfArm arm arms each) (front-under by n (calls_in_arm arm) (joined (map calls_in_arm arms)) few),
      all_arms n arms (All-tail OfArm arm arms each) (back-under by n (calls_in_arm arm) (joined (map calls_in_arm arms)) few),
    )

    -- ---- each kind

    value_few : (n : ℕ) (e : Option Expr) → Under by n (optional_calls e) → Light weight prelude n (calls_or_none (option_map (code_made site) e))
    value_few n (Some e) few = code_few n e few
    value_few n None few = none-under weight n

    cases : Cases S
    cases = record {
      declare = λ place k initial n few free.
          rw (fold-roll-Stmt, fold-roll-StmtKind)
          (then_few n (initial_code site k initial) (copy_code site (is_copied [] k) k)
          (initial_few n k initial (rw (fold-roll-Stmt, fold-roll-StmtKind) at few)) (copy_few n k (is_copied [] k)));
      assign = λ place path e n few free.
          let all : Under by n (calls_in_path path ++ calls_in_expr e) = rw (fold-roll-Stmt, fold-roll-StmtKind) at few in
          rw (fold-roll-Stmt, fold-roll-StmtKind) (assigned_few n path e all);
      call = λ place f inputs outputs n few free.
          rw (fold-roll-Stmt, fold-roll-StmtKind)
          (one_few n (c_calling (call_made site f inputs outputs)) (call_few n f inputs outputs (rw (fold-roll-Stmt, fold-roll-StmtKind) at few)));
      await = λ place e n few free. rw (fold-roll-Stmt, fold-roll-StmtKind) (none_few n);
      run = λ place target a inputs outputs n few free. rw (fold-roll-Stmt, fold-roll-StmtKind) (none_few n);
      branching = λ place arms other each others n few free.
          let all : Under by n (joined (map calls_in_arm arms) ++ joined (map named_in other)) = rw (fold-roll-Stmt, fold-roll-StmtKind) at few in
          rw (fold-roll-Stmt, fold-roll-StmtKind)
          (choice_few n (map (codes_of_arm site) arms) (block_codes (map (codes_of site) other))
          (all_arms n arms each (front-under by n (joined (map calls_in_arm arms)) (joined (map named_in other)) all))
          (all_few other others n (back-under by n (joined (map calls_in_arm arms)) (joined (map named_in other)) all)) free);
      cobegin = λ place branches each n few free. rw (fold-roll-Stmt, fold-roll-StmtKind) (none_few n);
      guarded = λ place guard e body each n few free. rw (fold-roll-Stmt, fold-roll-StmtKind) (none_few n);
      repeat = λ place body each n few free.
          rw (fold-roll-Stmt, fold-roll-StmtKind)
          (loop_few n free.turns (c_truth true) [] (block_codes (map (codes_of site) body) (turn_taken free)) (truth_few n true) (none_few n)
          (all_few body each n (rw (fold-roll-Stmt, fold-roll-StmtKind) at few) (turn_taken free)));
      until = λ place body e each n few free.
          let all : Under by n (joined (map named_in body) ++ calls_in_expr e) = rw (fold-roll-Stmt, fold-roll-StmtKind) at few in
          rw (fold-roll-Stmt, fold-roll-StmtKind)
          (loop_few n free.turns (c_truth true) (break_code (code_made site e)) (block_codes (map (codes_of site) body) (turn_taken free)) (truth_few n true)
          (break_few n (code_made site e) (code_few n e (back-under by n (joined (map named_in body)) (calls_in_expr e) all)))
          (all_few body each n (front-under by n (joined (map named_in body)) (calls_in_expr e) all) (turn_taken free)));
      while = λ place e body each n few free.
          let all : Under by n (calls_in_expr e ++ joined (map named_in body)) = rw (fold-roll-Stmt, fold-roll-StmtKind) at few in
          rw (fold-roll-Stmt, fold-roll-StmtKind)
          (loop_few n free.turns (code_made site e) [] (block_codes (map (codes_of site) body) (turn_taken free))
          (code_few n e (front-under by n (calls_in_expr e) (joined (map named_in body)) all)) (none_few n)
          (all_few body each n (back-under by n (calls_in_expr e) (joined (map named_in body)) all) (turn_taken free)));
      returns = λ place e n few free.
          rw (fold-roll-Stmt, fold-roll-StmtKind)
          (one_few n (c_return (option_map (code_made site) e))
          (return_few n (option_map (code_made site) e) (value_few n e (rw (fold-roll-Stmt, fold-roll-StmtKind) at few))));
    }

    stmt_few : (s : Stmt) → S s
    stmt_few = induct S cases

    every : (body : List Stmt) → Each S body
    every [] = All-nil S
    every (s ∷ body) = All-cons S s body (stmt_few s) (every body)

    -- the C of a body calls what the body calls
    pub body_few : (body : List Stmt) (n : ℕ) → Under by n (joined (map named_in body)) → CodesFew n (block_codes (map (codes_of site) body))
    body_few body = all_few body (every body)
