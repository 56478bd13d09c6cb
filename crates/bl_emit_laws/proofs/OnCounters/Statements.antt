-- The C of the statements of a function names no counter.
use Rattle.std.proofs.Common.{◌≡◌, ℕ, pos, Bool, true, false, List, [], ◌∷◌, ◌++◌, map, Option, Some, None}
use Rattle.std.proofs.Common.{sym, subst}
use Rattle.std.proofs.lemmas.List.Elements.{All-cons, All-head, All-nil, All-tail}
use Rattle.std.specs.Prelude.{All, option_map, slice_get, if◌then◌else◌}
use Rattle.bl_tree.specs.declared.c.CArg.{CArg}
use Rattle.bl_tree.specs.declared.c.CExpr.{CExpr}
use Rattle.bl_tree.specs.declared.c.CPlace.{CPlace}
use Rattle.bl_tree.specs.declared.c.CStmt.{CStmt}
use Rattle.bl_tree.specs.declared.scalar.Op.TheVariants.{And}
use Rattle.bl_tree.specs.declared.scalar.Scalar.{Scalar as ScalarType}
use Rattle.bl_tree.specs.declared.scalar.Scalar.TheVariants.{Bool as OfBool}
use Rattle.bl_tree.specs.declared.text.Text.{Text}
use Rattle.bl_tree.specs.declared.tree.Arm.{Arm, fold_out-Arm, out-Arm}
use Rattle.bl_tree.specs.declared.tree.Expr.{Expr}
use Rattle.bl_tree.specs.declared.tree.Path.{Path}
use Rattle.bl_tree.specs.declared.tree.Stmt.{Stmt, fold-roll-Stmt}
use Rattle.bl_tree.specs.declared.tree.StmtKind.{fold-roll-StmtKind}
use Rattle.bl_tree.specs.declared.tree.Ty.{Ty}
use Rattle.bl_tree.specs.Types.{scalar_in}
use Rattle.bl_tree.specs.Typing.{TypingContext, var_at}
use Rattle.bl_tree.proofs.StmtInduction.{Cases, Each, EachArm, induct}
use Rattle.bl_emit_acts.specs.Acts.{c_calling, c_clear, c_set, c_zeroed, call_args, call_made, code_made, copy_code, declared_code, initial_code}
use Rattle.bl_emit_acts.specs.Acts.{is_copied, name_of_callee, output_arg, zeroed}
use Rattle.bl_emit_acts.specs.Expressions.{arg_of, code_of, made_of, stands, type_at}
use Rattle.bl_emit_acts.specs.Places.{place_in}
use Rattle.bl_emit_acts.specs.Trees.{c_call, c_literal, c_place, c_read, c_two}
use Rattle.bl_emit_acts.specs.Types.{c_scalar, copy_name, type_name}
use Rattle.bl_emit_functions.specs.declared.coded.Coded.{Coded}
use Rattle.bl_emit_functions.specs.declared.coded.Free.{Free}
use Rattle.bl_emit_functions.specs.Statements.{ArmCodes, Codes, arm_codes, arms_taken, assigned_code, block_codes, branch_codes, break_code, choice_code}
use Rattle.bl_emit_functions.specs.Statements.{codes_of, codes_of_arm, either_code, else_code, flag_taken, flagged_code, kind_codes, loop_code, sets_itself}
use Rattle.bl_emit_functions.specs.Statements.{stmt_codes, turn_taken, untaken_code}
use Rattle.bl_emit_functions.specs.Trees.{c_break, c_if, c_loop, c_return, c_truth, flag_name, flag_place, turn_name}
use Rattle.bl_emit_spec.specs.Blocks.{stmt_where}
use Rattle.bl_ctext_places.specs.Counters.{names_counter}
use Rattle.bl_ctext_places.specs.Places.{CPath, places_in, places_in_arg, places_in_block, places_in_call, places_in_place, places_in_stmt}
use Rattle.bl_ctext_places.specs.Places.{places_of_option}
use Rattle.bl_emit_laws.proofs.OnCounters.Expressions.{ArgsFine, ExprFine, PlaceFine, address-fine, args_fine, call-fine, expr_fine, first-arg}
use Rattle.bl_emit_laws.proofs.OnCounters.Expressions.{literal-fine, own_fine, path_fine, read-fine, root-fine, two-fine}
use Rattle.bl_emit_laws.proofs.OnCounters.Fine.{Fine, append-fine, both-fine, none-fine, same-fine}
use Rattle.bl_emit_laws.proofs.OnCounters.Shapes.{break-names, calling-names, clear-names, if-names, loop-names, other_places, return-names, set-names}

module _ (P : CPath → Type 0) (plain : (place : CPath) → names_counter place ≡ false → P place) where
  abbrev pub CodeFine : List CStmt → Type 0
  CodeFine code = Fine P (places_in_block code)

  abbrev pub StmtFine : CStmt → Type 0
  StmtFine s = Fine P (places_in_stmt s)

  pub first_stmt : (s : CStmt) (code : List CStmt) → StmtFine s → CodeFine code → CodeFine (s ∷ code)
  first_stmt s code one more = append-fine P (places_in_stmt s) (places_in_block code) one more

  pub one_stmt : (s : CStmt) → StmtFine s → CodeFine (s ∷ [])
  one_stmt s one = first_stmt s [] one tt

  pub then_code : (first second : List CStmt) → CodeFine first → CodeFine second → CodeFine (first ++ second)
  then_code first second one other = both-fine P places_in_stmt first second one other

  pub where_code : (test : Bool) (s : CStmt) → StmtFine s → CodeFine (stmt_where test s)
  where_code true s one = one_stmt s one
  where_code false s one = tt

  -- ---- single statements

  pub set-fine : (place : CPlace) (e : CExpr) → PlaceFine P plain place → ExprFine P plain e → StmtFine (c_set place e)
  set-fine place e one other =
      same-fine P (places_in_stmt (c_set place e)) (places_in_place place ++ places_in e) (set-names place e)
      (append-fine P (places_in_place place) (places_in e) one other)

  pub clear-fine : (place : CPlace) (name : Text) → PlaceFine P plain place → StmtFine (c_clear place name)
  clear-fine place name one = same-fine P (places_in_stmt (c_clear place name)) (places_in_place place) (clear-names place name) one

  pub calling-fine : (name : Text) (args : List CArg) → ArgsFine P plain args → StmtFine (c_calling (c_call name args))
  calling-fine name args all =
      same-fine P (places_in_stmt (c_calling (c_call name args))) (places_in_call (c_call name args)) (calling-names (c_call name args))
      (call-fine P plain name args all)

  pub return-fine : (value : Option CExpr) → Fine P (places_of_option value) → StmtFine (c_return value)
  return-fine value one = same-fine P (places_in_stmt (c_return value)) (places_of_option value) (return-names value) one

  pub if-fine : (test : CExpr) (block : List CStmt) (other : Option (List CStmt)) → ExprFine P plain test → CodeFine block →
      Fine P (other_places other) → StmtFine (c_if test block other)
  if-fine test block other is one more =
      same-fine P (places_in_stmt (c_if test block other)) ((places_in test ++ places_in_block block) ++ other_places other)
      (if-names test block other)
      (append-fine P (places_in test ++ places_in_block block) (other_places other)
      (append-fine P (places_in test) (places_in_block block) is one) more)

  pub else-fine : (code : List CStmt) → CodeFine code → Fine P (other_places (else_code code))
  else-fine [] all = tt
  else-fine (s ∷ rest) all = all

  pub truth-fine : (b : Bool) → ExprFine P plain (c_truth b)
  truth-fine true = literal-fine P plain OfBool (pos 1)
  truth-fine false = literal-fine P plain OfBool (pos 0)

  flag_fine : (flag : ℕ) → PlaceFine P plain (flag_place flag)
  flag_fine flag = root-fine P plain false (flag_name flag)

  flag_read : (flag : ℕ) → ExprFine P plain (c_read (flag_place flag))
  flag_read flag = read-fine P plain (flag_place flag) (flag_fine flag)

  flag_set : (flag : ℕ) (b : Bool) → StmtFine (c_set (flag_place flag) (c_truth b))
  flag_set flag b = set-fine (flag_place flag) (c_truth b) (flag_fine flag) (truth-fine b)

  break_fine : (test : CExpr) → ExprFine P plain test → CodeFine (break_code test)
  break_fine test is =
      one_stmt (c_if test (c_break ∷ []) None)
      (if-fine test (c_break ∷ []) None is (one_stmt c_break (none-fine P (places_in_stmt c_break) break-names)) tt)

  -- ---- C by the numbers that are free

  abbrev pub CodesFine : Codes → Type 0
  CodesFine codes = (free : Free) → CodeFine (codes free).code

  abbrev ArmFine : ArmCodes → Type 0
  ArmFine arm = ExprFine P plain arm.test × CodesFine arm.body

  abbrev ArmsFine : List ArmCodes → Type 0
  ArmsFine [] = Unit {0}
  ArmsFine (arm ∷ arms) = ArmFine arm × ArmsFine arms

  arms_fine : (flag : ℕ) (arms : List ArmCodes) → ArmsFine arms → CodesFine (arms_taken flag arms)
  arms_fine flag [] all free = tt
  arms_fine flag (arm ∷ arms) all free =
      first_stmt _ (arms_taken flag arms (arm.body free).free).code
      (if-fine (c_two And (c_read (flag_place flag)) arm.test) (c_set (flag_place flag) (c_truth false) ∷ (arm.body free).code) None
      (two-fine P plain And (c_read (flag_place flag)) arm.test (flag_read flag) all.0.0)
      (first_stmt (c_set (flag_place flag) (c_truth false)) (arm.body free).code (flag_set flag false) (all.0.1 free)) tt)
      (arms_fine flag arms all.1 (arm.body free).free)

  untaken_fine : (flag : ℕ) (code : List CStmt) → CodeFine code → CodeFine (untaken_code flag code)
  untaken_fine flag [] all = tt
  untaken_fine flag (s ∷ rest) all =
      one_stmt (c_if (c_read (flag_place flag)) (s ∷ rest) None) (if-fine (c_read (flag_place flag)) (s ∷ rest) None (flag_read flag) all tt)

  flagged_fine : (arms : List ArmCodes) (other : Codes) → ArmsFine arms → CodesFine other → CodesFine (flagged_code arms other)
  flagged_fine arms other all more free =
      let inner : Coded = arms_taken free.flags arms (flag_taken free) in
      first_stmt (c_set (flag_place free.flags) (c_truth true)) (inner.code ++ untaken_code free.flags (other inner.free).code)
      (flag_set free.flags true)
      (then_code inner.code (untaken_code free.flags (other inner.free).code) (arms_fine free.flags arms all (flag_taken free))
      (untaken_fine free.flags (other inner.free).code (more inner.free)))

  either_fine : (arm : ArmCodes) (other : Codes) → ArmFine arm → CodesFine other → CodesFine (either_code arm other)
  either_fine arm other one more free =
      one_stmt (c_if arm.test (arm.body free).code (else_code (other (arm.body free).free).code))
      (if-fine arm.test (arm.body free).code (else_code (other (arm.body free).free).code) one.0 (one.1 free)
      (else-fine (other (arm.body free).free).code (more (arm.body free).free)))

  choice_fine : (arms : List ArmCodes) (other : Codes) → ArmsFine arms → CodesFine other → CodesFine (choice_code arms other)
  choice_fine [] other all more free = flagged_fine [] other all more free
  choice_fine (arm ∷ []) other all more free = either_fine arm other all.0 more free
  choice_fine (arm ∷ second ∷ []) other all more free =
      either_fine arm (either_code second other) all.0 (either_fine second other all.1.0 more) free
  choice_fine (arm ∷ second ∷ third ∷ rest) other all more free = flagged_fine (arm ∷ second ∷ third ∷ rest) other all more free

  loop_fine : (turn : ℕ) (test : CExpr) (last : List CStmt) (body : Coded) → ExprFine P plain test → CodeFine last → CodeFine body.code →
      CodeFine (loop_code turn test last body).code
  loop_fine turn test last body is ends all =
      one_stmt (c_loop (turn_name turn) test (body.code ++ last))
      (same-fine P (places_in_stmt (c_loop (turn_name turn) test (body.code ++ last))) (places_in test ++ places_in_block (body.code ++ last))
      (loop-names (turn_name turn) test (body.code ++ last))
      (append-fine P (places_in test) (places_in_block (body.code ++ last)) is (then_code body.code last all ends)))

  -- ---- all statements

  module _ (site : TypingContext) where
    code_fine : (e : Expr) → ExprFine P plain (code_made site e)
    code_fine e = expr_fine P plain site e

    -- ---- declarations

    zeroed_fine : (place : CPlace) (ty : Ty) (s : Option ScalarType) → PlaceFine P plain place → StmtFine (c_zeroed site.structs place ty s)
    zeroed_fine place ty (Some s) one = set-fine place (c_literal (c_scalar s) (pos 0)) one (literal-fine P plain (c_scalar s) (pos 0))
    zeroed_fine place ty None one = clear-fine place (type_name site.structs ty) one

    zero_fine : (place : CPlace) (ty : Option Ty) → PlaceFine P plain place → CodeFine (zeroed site.structs place ty)
    zero_fine place (Some ty) one = one_stmt (c_zeroed site.structs place ty (scalar_in ty)) (zeroed_fine place ty (scalar_in ty) one)
    zero_fine place None one = tt

    initial_fine : (k : ℕ) (initial : Option Expr) → CodeFine (initial_code site k initial)
    initial_fine k (Some e) =
        one_stmt (c_set (place_in site k []) (code_made site e))
        (set-fine (place_in site k []) (code_made site e) (own_fine P plain site k) (code_fine e))
    initial_fine k None = zero_fine (place_in site k []) (type_at (var_at site k)) (own_fine P plain site k)

    copied_fine : (k : ℕ) → StmtFine (c_set (c_place false (copy_name site.vars k) []) (c_read (place_in site k [])))
    copied_fine k =
        set-fine (c_place false (copy_name site.vars k) []) (c_read (place_in site k [])) (root-fine P plain false (copy_name site.vars k))
        (read-fine P plain (place_in site k []) (own_fine P plain site k))

    copy_fine : (k : ℕ) (copied : Bool) → CodeFine (copy_code site copied k)
    copy_fine k true = one_stmt (c_set (c_place false (copy_name site.vars k) []) (c_read (place_in site k []))) (copied_fine k)
    copy_fine k false = tt

    pub declared_fine : (copies : List Bool) (k : ℕ) (initial : Option Expr) → CodeFine (declared_code site copies k initial)
    declared_fine copies k initial =
        then_code (initial_code site k initial) (copy_code site (is_copied copies k) k) (initial_fine k initial) (copy_fine k (is_copied copies k))

    -- the copies of variables
    pub copy-fine : (k : ℕ) → StmtFine (c_set (c_place false (copy_name site.vars k) []) (c_read (place_in site k [])))
    copy-fine k = copied_fine k

    pub assigned_fine : (path : Path) (e : Expr) → CodeFine (c_set (stands site path).place (code_made site e) ∷ [])
    assigned_fine path e =
        one_stmt (c_set (stands site path).place (code_made site e))
        (set-fine (stands site path).place (code_made site e) (path_fine P plain site path) (code_fine e))

    -- a function has no C for one that sets a variable to itself
    assignment_fine : (path : Path) (e : Expr) → CodeFine (assigned_code site path e)
    assignment_fine path e = by (sets_itself path e)
      where
        by : (itself : Bool) → CodeFine (if itself then [] else c_set (stands site path).place (code_made site e) ∷ [])
        by true = tt
        by false = assigned_fine path e

    -- ---- calls

    outputs_fine : (outputs : List Path) → ArgsFine P plain (map (output_arg site) outputs)
    outputs_fine [] = tt
    outputs_fine (path ∷ outputs) =
        first-arg P plain (output_arg site path) (map (output_arg site) outputs)
        (address-fine P plain (stands site path).place (path_fine P plain site path)) (outputs_fine outputs)

    abbrev OfExpr : Expr → Type 0
    OfExpr e = ExprFine P plain (code_of (made_of site e))

    each_fine : (inputs : List Expr) → All OfExpr inputs
    each_fine [] = All-nil OfExpr
    each_fine (e ∷ inputs) = All-cons OfExpr e inputs (expr_fine P plain site e) (each_fine inputs)

    -- the arguments of a call
    pub call_args_fine : (inputs : List Expr) (outputs : List Path) → ArgsFine P plain (call_args site inputs outputs)
    call_args_fine inputs outputs =
        both-fine P places_in_arg (map arg_of (map (made_of site) inputs)) (map (output_arg site) outputs)
        (args_fine P plain site inputs (each_fine inputs)) (outputs_fine outputs)

    pub call_fine : (f : ℕ) (inputs : List Expr) (outputs : List Path) → CodeFine (c_calling (call_made site f inputs outputs) ∷ [])
    call_fine f inputs outputs =
        one_stmt (c_calling (call_made site f inputs outputs))
        (calling-fine (name_of_callee (slice_get site.earlier f)) (call_args site inputs outputs) (call_args_fine inputs outputs))

    -- ---- blocks and arms

    abbrev OfStmt : Stmt → Type 0
    OfStmt s = CodesFine (codes_of site s)

    all_fine : (body : List Stmt) → Each OfStmt body → CodesFine (block_codes (map (codes_of site) body))
    all_fine [] each free = tt
    all_fine (s ∷ body) each free =
        then_code (codes_of site s free).code (block_codes (map (codes_of site) body) (codes_of site s free).free).code
        (All-head OfStmt s body each free) (all_fine body (All-tail OfStmt s body each) (codes_of site s free).free)

    arm_out : (arm : Arm) → codes_of_arm site arm
        ≡ record { test = code_made site (out-Arm arm).test; body = block_codes (map (codes_of site) (out-Arm arm).body) }
    arm_out arm = fold_out-Arm Codes ArmCodes Codes Codes (kind_codes site) (arm_codes site) branch_codes stmt_codes arm

    abbrev OfArm : Arm → Type 0
    OfArm arm = Each OfStmt (out-Arm arm).body

    arm_fine : (arm : Arm) → OfArm arm → ArmFine (codes_of_arm site arm)
    arm_fine arm each = subst ArmFine (sym (arm_out arm)) (code_fine (out-Arm arm).test, all_fine (out-Arm arm).body each)

    all_arms : (arms : List Arm) → EachArm OfStmt arms → ArmsFine (map (codes_of_arm site) arms)
    all_arms [] each = tt
    all_arms (arm ∷ arms) each = (arm_fine arm (All-head OfArm arm arms each), all_arms arms (All-tail OfArm arm arms each))

    -- ---- each kind

    value_fine : (e : Option Expr) → Fine P (places_of_option (option_map (code_made site) e))
    value_fine (Some e) = code_fine e
    value_fine None = tt

    cases : Cases OfStmt
    cases = record {
      declare = λ place k initial free. rw (fold-roll-Stmt, fold-roll-StmtKind) (declared_fine [] k initial);
      assign = λ place path e free. rw (fold-roll-Stmt, fold-roll-StmtKind) (assignment_fine path e);
      call = λ place f inputs outputs free. rw (fold-roll-Stmt, fold-roll-StmtKind) (call_fine f inputs outputs);
      await = λ place e free. rw (fold-roll-Stmt, fold-roll-StmtKind) tt;
      run = λ place target a inputs outputs free. rw (fold-roll-Stmt, fold-roll-StmtKind) tt;
      branching = λ place arms other each others free.
          rw (fold-roll-Stmt, fold-roll-StmtKind)
          (choice_fine (map (codes_of_arm site) arms) (block_codes (map (codes_of site) other)) (all_arms arms each) (all_fine other others) free);
      cobegin = λ place branches each free. rw (fold-roll-Stmt, fold-roll-StmtKind) tt;
      guarded = λ place guard e body each free. rw (fold-roll-Stmt, fold-roll-StmtKind) tt;
      repeat = λ place body each free.
          rw (fold-roll-Stmt, fold-roll-StmtKind)
          (loop_fine free.turns (c_truth true) [] (block_codes (map (codes_of site) body) (turn_taken free)) (truth-fine true) tt
          (all_fine body each (turn_taken free)));
      until = λ place body e each free.
          rw (fold-roll-Stmt, fold-roll-StmtKind)
          (loop_fine free.turns (c_truth true) (break_code (code_made site e)) (block_codes (map (codes_of site) body) (turn_taken free)) (truth-fine true)
          (break_fine (code_made site e) (code_fine e)) (all_fine body each (turn_taken free)));
      while = λ place e body each free.
          rw (fold-roll-Stmt, fold-roll-StmtKind)
          (loop_fine free.turns (code_made site e) [] (block_codes (map (codes_of site) body) (turn_taken free)) (code_fine e) tt
          (all_fine body each (turn_taken free)));
      returns = λ place e free.
          rw (fold-roll-Stmt, fold-roll-StmtKind)
          (one_stmt (c_return (option_map (code_made site) e)) (return-fine (option_map (code_made site) e) (value_fine e)));
    }

    stmt_fine : (s : Stmt) → OfStmt s
    stmt_fine = induct OfStmt cases

    every : (body : List Stmt) → Each OfStmt body
    every [] = All-nil OfStmt
    every (s ∷ body) = All-cons OfStmt s body (stmt_fine s) (every body)

    -- the C of a body names no counter
    pub body_fine : (body : List Stmt) → CodesFine (block_codes (map (codes_of site) body))
    body_fine body = all_fine body (every body)
