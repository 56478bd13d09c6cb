-- Nothing fails in the C of the statements of a function.
use Rattle.std.proofs.Common.{◌≡◌, ℕ, ◌+◌, ◌<◌, ◌≤◌, pos, Bool, true, false, ◌&&◌, List, [], ◌∷◌, ◌++◌, length}
use Rattle.std.proofs.Common.{map, Option, Some, None, refl, sym}
use Rattle.std.proofs.Common.{ap, ◌∙◌, subst, arith}
use Rattle.std.proofs.lemmas.List.Elements.{All-head, All-tail}
use Rattle.std.proofs.lemmas.Option.{same_Some}
use Rattle.std.specs.Prelude.{is_some, option_and_then, option_map, if◌then◌else◌}
use Rattle.bl_tree.proofs.Basics.{and_false, and_first, and_second}
use Rattle.bl_tree.specs.declared.c.CExpr.{CExpr}
use Rattle.bl_tree.specs.declared.c.CStmt.{CStmt}
use Rattle.bl_tree.specs.declared.c.CType.TheVariants.{Scalar as OfScalar}
use Rattle.bl_tree.specs.declared.place.Place.{Place}
use Rattle.bl_tree.specs.declared.scalar.Op.TheVariants.{And}
use Rattle.bl_tree.specs.declared.scalar.Scalar.{Scalar as ScalarType}
use Rattle.bl_tree.specs.declared.scalar.Scalar.TheVariants.{Bool as OfBool, Int, Nat, Bits}
use Rattle.bl_tree.specs.declared.tree.Arm.{Arm, fold-Arm, fold_out-Arm, out-Arm}
use Rattle.bl_tree.specs.declared.tree.Expr.{Expr}
use Rattle.bl_tree.specs.declared.tree.Path.{Path}
use Rattle.bl_tree.specs.declared.tree.Stmt.{Stmt, fold-roll-Stmt}
use Rattle.bl_tree.specs.declared.tree.StmtKind.{fold-roll-StmtKind}
use Rattle.bl_tree.specs.declared.tree.StmtKind.TheOpen.{StmtKind-F}
use Rattle.bl_tree.specs.declared.tree.StructDef.{StructDef}
use Rattle.bl_tree.specs.declared.tree.Ty.{Ty}
use Rattle.bl_tree.specs.declared.tree.Unit.{Unit as UnitDef}
use Rattle.bl_tree.specs.declared.tree.Var.{Var}
use Rattle.bl_tree.specs.Program.{structs_stand_from}
use Rattle.bl_tree.specs.Reduce.{all_of}
use Rattle.bl_tree.specs.Scalar.{is_bool}
use Rattle.bl_tree.specs.Types.{scalar, scalar_in, type_stands}
use Rattle.bl_tree.specs.Typing.{TypingContext, are_same, arm_fits, branch_fits, fits, is_activity, is_inhabited, is_truth, kind_fits, return_fits, run_fits}
use Rattle.bl_tree.specs.Typing.{stmt_fits, type_of, var_at}
use Rattle.bl_tree.proofs.StmtInduction.{Cases, Each, EachArm, induct, stmt}
use Rattle.bl_eval.proofs.OperatorFits.{scalar_alone}
use Rattle.bl_ctext_semantics.specs.Faults.{Context, bool_type, faults_in_stmt}
use Rattle.bl_emit_acts.specs.Acts.{c_calling, c_set, call_made, code_made, declared_code, is_copied}
use Rattle.bl_emit_acts.specs.Expressions.{stands}
use Rattle.bl_emit_acts.specs.Trees.{c_read, c_two}
use Rattle.bl_emit_acts.specs.Types.{c_scalar, c_type}
use Rattle.bl_emit_functions.specs.declared.coded.Free.{Free}
use Rattle.bl_emit_functions.specs.Statements.{ArmCodes, Codes, arm_codes, arm_taken, arms_taken, assigned_code, block_codes, branch_codes, break_code}
use Rattle.bl_emit_functions.specs.Statements.{choice_code, codes_of, codes_of_arm, either_code, else_code, flag_taken, flagged_code, kind_codes, loop_code}
use Rattle.bl_emit_functions.specs.Statements.{sets_itself, stmt_codes, turn_taken, untaken_code}
use Rattle.bl_emit_functions.specs.Trees.{c_break, c_if, c_return, c_truth, flag_name, flag_place, turn_name}
use Rattle.bl_emit_acts_laws_wellformed.specs.Formed.Declared.{ChangesNone, Declared, InActivity, variable_of}
use Rattle.bl_emit_acts_laws_wellformed.specs.Formed.Formed.{BlockIs, ExprIs, PlaceIs, StmtIs}
use Rattle.bl_emit_acts_laws_wellformed.proofs.OnFormed.Acts.{block_append, block_cons, block_nil, block_one, set-is}
use Rattle.bl_emit_acts_laws_wellformed.proofs.OnFormed.Judged.{literal-is, read-is, two-is}
use Rattle.bl_emit_acts_laws_wellformed.proofs.OnFormed.Parts.{c_scalar_type}
use Rattle.bl_emit_acts_laws_wellformed.proofs.OnFormed.SiteActs.{EarlierStand, assign_is, call_is, code_typed, declare_is, same_types}
use Rattle.bl_emit_acts_laws_wellformed.proofs.OnFormed.Typed.{variable_place}
use Rattle.bl_emit_functions_laws_wellformed.proofs.OnFormed.Shapes.{BlockIn, OtherIn, break-in, if-in, if-is, loop-is, return-is, return_none-is}

module _ (context : Context) (most : ℕ) (flags : (k : ℕ) → k < most → context.variables (flag_name k) ≡ Some (variable_of false bool_type)) where
  -- C takes numbers in order, and nothing fails in it where its flags are declared
  pub record Good (codes : Codes) : Type 0 where
    pub grows : (free : Free) → free.flags ≤ (codes free).free.flags
    pub formed : (free : Free) → (codes free).free.flags ≤ most → BlockIs context (codes free).code

  -- so does an arm, whose condition is a bool
  pub record GoodArm (arm : ArmCodes) : Type 0 where
    pub test : ExprIs context bool_type arm.test
    pub body : Good arm.body

  abbrev AllArms : List ArmCodes → Type 0
  AllArms [] = Unit {0}
  AllArms (arm ∷ arms) = GoodArm arm × AllArms arms

  only_good : (code : List CStmt) → BlockIs context code → Good (λ free. record { code = code; free = free })
  only_good code is = record { grows = λ free. omega arith; formed = λ free few. is }

  nothing_good : Good (block_codes [])
  nothing_good = record { grows = λ free. omega arith; formed = λ free few. block_nil context }

  then_good : (codes : Codes) (rest : List Codes) → Good codes → Good (block_codes rest) → Good (block_codes (codes ∷ rest))
  then_good codes rest one more = record {
    grows = λ free. let a = one.grows free in let b = more.grows (codes free).free in omega (arith, a, b);
    formed = λ free few.
        let b : (codes free).free.flags ≤ (block_codes rest (codes free).free).free.flags = more.grows (codes free).free in
        block_append context (codes free).code (block_codes rest (codes free).free).code (one.formed free (omega (arith, b, few)))
        (more.formed (codes free).free few);
  }

  -- ---- flags

  flag-is : (k : ℕ) → k < most → PlaceIs context false bool_type (flag_place k)
  flag-is k less = variable_place context (flag_name k) bool_type (flags k less)

  truth-is : (b : Bool) → ExprIs context bool_type (c_truth b)
  truth-is true = literal-is context OfBool (pos 1)
  truth-is false = literal-is context OfBool (pos 0)

  flag_set : (k : ℕ) (b : Bool) → k < most → StmtIs context (c_set (flag_place k) (c_truth b))
  flag_set k b less = set-is context false bool_type (flag_place k) (c_truth b) (flag-is k less) (truth-is b) (and_false context.is_read_only)

  flag_read : (k : ℕ) → k < most → ExprIs context bool_type (c_read (flag_place k))
  flag_read k less = read-is context false bool_type (flag_place k) (flag-is k less)

  no_other : (looped : Bool) → OtherIn context looped None
  no_other looped = refl

  else-is : (code : List CStmt) → BlockIs context code → (looped : Bool) → OtherIn context looped (else_code code)
  else-is [] is looped = refl
  else-is (s ∷ rest) is looped = is looped

  -- ---- arms

  arms_grow : (flag : ℕ) (arms : List ArmCodes) → AllArms arms → (free : Free) → free.flags ≤ (arms_taken flag arms free).free.flags
  arms_grow flag [] all free = omega arith
  arms_grow flag (arm ∷ arms) all free =
      let a : free.flags ≤ (arm.body free).free.flags = all.0.body.grows free in
      let b : (arm.body free).free.flags ≤ (arms_taken flag arms (arm.body free).free).free.flags = arms_grow flag arms all.1 (arm.body free).free in
      omega (arith, a, b)

  arms_are : (flag : ℕ) → flag < most → (arms : List ArmCodes) → AllArms arms → (free : Free) → (arms_taken flag arms free).free.flags ≤ most →
      BlockIs context (arms_taken flag arms free).code
  arms_are flag less [] all free few = block_nil context
  arms_are flag less (arm ∷ arms) all free few =
      let later : (arm.body free).free.flags ≤ (arms_taken flag arms (arm.body free).free).free.flags = arms_grow flag arms all.1 (arm.body free).free in
      block_append context (arm_taken flag arm free).code (arms_taken flag arms (arm.body free).free).code
      (block_one context (c_if (c_two And (c_read (flag_place flag)) arm.test) (c_set (flag_place flag) (c_truth false) ∷ (arm.body free).code) None)
      (if-is context (c_two And (c_read (flag_place flag)) arm.test) (c_set (flag_place flag) (c_truth false) ∷ (arm.body free).code) None
      (two-is context And bool_type (c_read (flag_place flag)) arm.test refl refl (flag_read flag less) all.0.test)
      (block_cons context (c_set (flag_place flag) (c_truth false)) (arm.body free).code (flag_set flag false less)
      (all.0.body.formed free (omega (arith, later, few)))) no_other))
      (arms_are flag less arms all.1 (arm.body free).free few)

  untaken-is : (flag : ℕ) → flag < most → (code : List CStmt) → BlockIs context code → BlockIs context (untaken_code flag code)
  untaken-is flag less [] is = block_nil context
  untaken-is flag less (s ∷ rest) is =
      block_one context (c_if (c_read (flag_place flag)) (s ∷ rest) None)
      (if-is context (c_read (flag_place flag)) (s ∷ rest) None (flag_read flag less) is no_other)

  flagged_good : (arms : List ArmCodes) (other : Codes) → AllArms arms → Good other → Good (flagged_code arms other)
  flagged_good arms other all good = record {
    grows = λ free.
        let a = arms_grow free.flags arms all (flag_taken free) in
        let b = good.grows (arms_taken free.flags arms (flag_taken free)).free in
        omega (arith, a, b);
    formed = λ free few.
        let a : free.flags + 1 ≤ (arms_taken free.flags arms (flag_taken free)).free.flags = arms_grow free.flags arms all (flag_taken free) in
        let b : (arms_taken free.flags arms (flag_taken free)).free.flags ≤ (other (arms_taken free.flags arms (flag_taken free)).free).free.flags =
        good.grows (arms_taken free.flags arms (flag_taken free)).free in
        let less : free.flags < most = omega (arith, a, b, few) in
        let inner : (arms_taken free.flags arms (flag_taken free)).free.flags ≤ most = omega (arith, b, few) in
        block_cons context (c_set (flag_place free.flags) (c_truth true))
        ((arms_taken free.flags arms (flag_taken free)).code ++ untaken_code free.flags (other (arms_taken free.flags arms (flag_taken free)).free).code)
        (flag_set free.flags true less)
        (block_append context (arms_taken free.flags arms (flag_taken free)).code
        (untaken_code free.flags (other (arms_taken free.flags arms (flag_taken free)).free).code)
        (arms_are free.flags less arms all (flag_taken free) inner)
        (untaken-is free.flags less (other (arms_taken free.flags arms (flag_taken free)).free).code
        (good.formed (arms_taken free.flags arms (flag_taken free)).free few)));
  }

  either_good : (arm : ArmCodes) (other : Codes) → GoodArm arm → Good other → Good (either_code arm other)
  either_good arm other one good = record {
    grows = λ free. let a = one.body.grows free in let b = good.grows (arm.body free).free in omega (arith, a, b);
    formed = λ free few.
        let b : (arm.body free).free.flags ≤ (other (arm.body free).free).free.flags = good.grows (arm.body free).free in
        block_one context (c_if arm.test (arm.body free).code (else_code (other (arm.body free).free).code))
        (if-is context arm.test (arm.body free).code (else_code (other (arm.body free).free).code) one.test
        (one.body.formed free (omega (arith, b, few)))
        (else-is (other (arm.body free).free).code (good.formed (arm.body free).free few)));
  }

  choice_good : (arms : List ArmCodes) (other : Codes) → AllArms arms → Good other → Good (choice_code arms other)
  choice_good [] other all good = let f = flagged_good [] other all good in record { grows = f.grows; formed = f.formed }
  choice_good (arm ∷ []) other all good = let e = either_good arm other all.0 good in record { grows = e.grows; formed = e.formed }
  choice_good (arm ∷ second ∷ []) other all good =
      let e = either_good arm (either_code second other) all.0 (either_good second other all.1.0 good) in
      record { grows = e.grows; formed = e.formed }
  choice_good (arm ∷ second ∷ third ∷ rest) other all good =
      let f = flagged_good (arm ∷ second ∷ third ∷ rest) other all good in record { grows = f.grows; formed = f.formed }

  -- ---- loops

  loop_good : (test : CExpr) (last : List CStmt) (codes : Codes) → ExprIs context bool_type test → BlockIn context true last → Good codes →
      Good (λ free. loop_code free.turns test last (codes (turn_taken free)))
  loop_good test last codes is ends good = record {
    grows = λ free. good.grows (turn_taken free);
    formed = λ free few.
        block_one context _ (loop-is context (turn_name free.turns) test ((codes (turn_taken free)).code ++ last) is
        (inside (codes (turn_taken free)).code (good.formed (turn_taken free) few true)));
  }
    where
      none_front : {A : Type 0} (xs ys : List A) → xs ++ ys ≡ [] → (xs ≡ []) × (ys ≡ [])
      none_front [] ys is = (refl, is)
      none_front (x ∷ xs) ys is = absurd (cc)

      inside : (code : List CStmt) → BlockIn context true code → BlockIn context true (code ++ last)
      inside [] none = ends
      inside (s ∷ rest) none =
          let both = none_front (faults_in_stmt s context true) _ none in (λ i. both.0 i ++ inside rest both.1 i)

  break-is : (test : CExpr) → ExprIs context bool_type test → BlockIn context true (break_code test)
  break-is test is = (λ i. if-in context test (c_break ∷ []) None true is (λ j. break-in context j ++ []) refl i ++ [])

  -- ---- all statements

  module _ (site : TypingContext) (function : is_activity site.kind ≡ false) (declared : Declared site (is_copied []) context)
      (stand : structs_stand_from 0 site.structs ≡ true) (earlier : EarlierStand site)
      (typed_vars : (k : ℕ) (var : Var) → var_at site k ≡ Some var → type_stands (length site.structs) var.ty ≡ true)
      (plain : ChangesNone site context)
      (result : context.result ≡ option_map c_scalar site.result) where
    abbrev structs : List StructDef
    structs = site.structs

    -- a function has no copies
    no_activity : (b : Bool) → InActivity site b
    no_activity b act = absurd (let no : false ≡ true = sym function ∙ act in cc)

    code_of_type : (e : Expr) (ty : Ty) → type_of site e ≡ Some ty → ExprIs context (c_type structs ty) (code_made site e)
    code_of_type e ty typed = code_typed site (is_copied []) context declared stand earlier typed_vars plain e ty (no_activity _) typed

    truth_there : (t : Option Ty) → is_truth t ≡ true → (ty : Ty) × (t ≡ Some ty) × (scalar_in ty ≡ Some OfBool)
    truth_there None h = absurd (cc)
    truth_there (Some ty) h = (ty, refl, by (scalar_in ty) refl h)
      where
        by : (o : Option ScalarType) → scalar_in ty ≡ o → is_some (option_and_then (λ s. if is_bool s then Some s else None) o) ≡ true →
            scalar_in ty ≡ Some OfBool
        by None is h = absurd (cc)
        by (Some OfBool) is h = is
        by (Some (Int w)) is h = absurd (cc)
        by (Some (Nat w)) is h = absurd (cc)
        by (Some (Bits w)) is h = absurd (cc)

    test-is : (e : Expr) → is_truth (type_of site e) ≡ true → ExprIs context bool_type (code_made site e)
    test-is e h =
        let found = truth_there (type_of site e) h in
        subst (λ t. ExprIs context t (code_made site e)) (c_scalar_type structs found.0 OfBool found.2) (code_of_type e found.0 found.1)

    number-is : (e : Expr) (s : ScalarType) → are_same (Some (scalar s)) (type_of site e) ≡ true
        → ExprIs context (OfScalar (c_scalar s)) (code_made site e)
    number-is e s h =
        let same = same_types site (is_copied []) context declared stand earlier typed_vars plain (Some (scalar s)) (type_of site e) h in
        let scalar_is : scalar_in same.0 ≡ Some s = ap scalar_in (sym (same_Some (scalar s) same.0 same.1)) ∙ scalar_alone s in
        subst (λ t. ExprIs context t (code_made site e)) (c_scalar_type structs same.0 s scalar_is) (code_of_type e same.0 same.2)

    abbrev S : Stmt → Type 0
    S s = fits site s ≡ true → Good (codes_of site s)

    all_good : (body : List Stmt) → Each S body → all_of (map (fits site) body) ≡ true → Good (block_codes (map (codes_of site) body))
    all_good [] each fitted = nothing_good
    all_good (s ∷ body) each fitted =
        then_good (codes_of site s) (map (codes_of site) body) (All-head S s body each (and_first (fits site s) (all_of (map (fits site) body)) fitted))
        (all_good body (All-tail S s body each) (and_second (fits site s) (all_of (map (fits site) body)) fitted))

    abbrev arm_fitted : Arm → Bool
    arm_fitted = fold-Arm Bool Bool Bool Bool (kind_fits site) (arm_fits site) branch_fits stmt_fits

    arm_out : (arm : Arm) → codes_of_arm site arm
        ≡ record { test = code_made site (out-Arm arm).test; body = block_codes (map (codes_of site) (out-Arm arm).body) }
    arm_out arm = fold_out-Arm Codes ArmCodes Codes Codes (kind_codes site) (arm_codes site) branch_codes stmt_codes arm

    arm_good : (arm : Arm) → Each S (out-Arm arm).body → arm_fitted arm ≡ true → GoodArm (codes_of_arm site arm)
    arm_good arm each fitted =
        let fits_so = sym (fold_out-Arm Bool Bool Bool Bool (kind_fits site) (arm_fits site) branch_fits stmt_fits arm) ∙ fitted in
        subst GoodArm (sym (arm_out arm)) (record {
          test = test-is (out-Arm arm).test (and_first (is_truth (type_of site (out-Arm arm).test)) (all_of (map (fits site) (out-Arm arm).body)) fits_so);
          body = all_good (out-Arm arm).body each (and_second (is_truth (type_of site (out-Arm arm).test))
              (all_of (map (fits site) (out-Arm arm).body)) fits_so);
        })

    abbrev OfArm : Arm → Type 0
    OfArm arm = Each S (out-Arm arm).body

    arms_good : (arms : List Arm) → EachArm S arms → all_of (map arm_fitted arms) ≡ true → AllArms (map (codes_of_arm site) arms)
    arms_good [] each fitted = tt
    arms_good (arm ∷ arms) each fitted = (
      arm_good arm (All-head OfArm arm arms each) (and_first (arm_fitted arm) (all_of (map arm_fitted arms)) fitted),
      arms_good arms (All-tail OfArm arm arms each) (and_second (arm_fitted arm) (all_of (map arm_fitted arms)) fitted),
    )

    return_good : (e : Option Expr) (r : Option ScalarType) → site.result ≡ r → return_fits site e r ≡ true →
        Good (λ free. record { code = c_return (option_map (code_made site) e) ∷ []; free = free })
    return_good (Some e) (Some s) is fitted =
        only_good (c_return (Some (code_made site e)) ∷ [])
        (block_one context (c_return (Some (code_made site e)))
        (return-is context (code_made site e) (c_scalar s) (result ∙ ap (option_map c_scalar) is) (number-is e s fitted)))
    return_good (Some e) None is fitted = absurd (cc)
    return_good None (Some s) is fitted = absurd (cc)
    return_good None None is fitted =
        only_good (c_return None ∷ []) (block_one context (c_return None) (return_none-is context (result ∙ ap (option_map c_scalar) is)))

    assigned_is : (path : Path) (e : Expr) → StmtIs context (c_set (stands site path).place (code_made site e)) →
        BlockIs context (assigned_code site path e)
    assigned_is path e is = by (sets_itself path e)
      where
        by : (itself : Bool) → BlockIs context (if itself then [] else c_set (stands site path).place (code_made site e) ∷ [])
        by true = block_nil context
        by false = block_one context (c_set (stands site path).place (code_made site e)) is

    never_activity : (b : Bool) → (is_activity site.kind && b) ≡ true → ⊥
    never_activity b h = let no = sym (and_first (is_activity site.kind) b h) ∙ function in cc

    never_run : (target : Option Path) (inputs : List Expr) (outputs : List Path) (callee : Option UnitDef)
        → run_fits site target inputs outputs callee ≡ true → ⊥
    never_run target inputs outputs None h = cc
    never_run target inputs outputs (Some callee) h = never_activity _ (and_first _ _ h)

    as_codes : (a b : Codes) → a ≡ b → Good b → Good a
    as_codes a b is good = subst Good (sym is) good

    module _ (place : Place) where
      declare_codes : (k : ℕ) (initial : Option Expr) → codes_of site (stmt place (StmtKind-F.Declare k initial))
          ≡ (λ free. record { code = declared_code site [] k initial; free = free })
      declare_codes k initial = rw (fold-roll-Stmt, fold-roll-StmtKind) refl

      assign_codes : (path : Path) (e : Expr) → codes_of site (stmt place (StmtKind-F.Assign path e))
          ≡ (λ free. record { code = assigned_code site path e; free = free })
      assign_codes path e = rw (fold-roll-Stmt, fold-roll-StmtKind) refl

      call_codes : (f : ℕ) (inputs : List Expr) (outputs : List Path) → codes_of site (stmt place (StmtKind-F.Call f inputs outputs))
          ≡ (λ free. record { code = c_calling (call_made site f inputs outputs) ∷ []; free = free })
      call_codes f inputs outputs = rw (fold-roll-Stmt, fold-roll-StmtKind) refl

      if_codes : (arms : List Arm) (other : List Stmt) → codes_of site (stmt place (StmtKind-F.If arms other))
          ≡ choice_code (map (codes_of_arm site) arms) (block_codes (map (codes_of site) other))
      if_codes arms other = rw (fold-roll-Stmt, fold-roll-StmtKind) refl

      repeat_codes : (body : List Stmt) → codes_of site (stmt place (StmtKind-F.Repeat body))
          ≡ (λ free. loop_code free.turns (c_truth true) [] (block_codes (map (codes_of site) body) (turn_taken free)))
      repeat_codes body = rw (fold-roll-Stmt, fold-roll-StmtKind) refl

      until_codes : (body : List Stmt) (e : Expr) → codes_of site (stmt place (StmtKind-F.Until body e))
          ≡ (λ free. loop_code free.turns (c_truth true) (break_code (code_made site e)) (block_codes (map (codes_of site) body) (turn_taken free)))
      until_codes body e = rw (fold-roll-Stmt, fold-roll-StmtKind) refl

      while_codes : (e : Expr) (body : List Stmt) → codes_of site (stmt place (StmtKind-F.While e body))
          ≡ (λ free. loop_code free.turns (code_made site e) [] (block_codes (map (codes_of site) body) (turn_taken free)))
      while_codes e body = rw (fold-roll-Stmt, fold-roll-StmtKind) refl

      return_codes : (e : Option Expr) → codes_of site (stmt place (StmtKind-F.Return e))
          ≡ (λ free. record { code = c_return (option_map (code_made site) e) ∷ []; free = free })
      return_codes e = rw (fold-roll-Stmt, fold-roll-StmtKind) refl

    cases : Cases S
    cases = record {
      declare = λ place k initial fitted.
          as_codes _ _ (declare_codes place k initial)
          (only_good (declared_code site [] k initial)
          (declare_is site (is_copied []) context declared stand earlier typed_vars plain k initial (rw (fold-roll-Stmt, fold-roll-StmtKind) at fitted)
          (no_activity _) false (λ no. absurd (cc))));
      assign = λ place path e fitted.
          as_codes _ _ (assign_codes place path e)
          (only_good (assigned_code site path e)
          (assigned_is path e (assign_is site (is_copied []) context declared stand earlier typed_vars plain path e
          (rw (fold-roll-Stmt, fold-roll-StmtKind) at fitted) (no_activity _) (no_activity _))));
      call = λ place f inputs outputs fitted.
          as_codes _ _ (call_codes place f inputs outputs)
          (only_good (c_calling (call_made site f inputs outputs) ∷ [])
          (block_one context (c_calling (call_made site f inputs outputs))
          (call_is site (is_copied []) context declared stand earlier typed_vars plain f inputs outputs (rw (fold-roll-Stmt, fold-roll-StmtKind) at fitted)
          (no_activity _) (no_activity _))));
      await = λ place e fitted. absurd (never_activity _ (rw (fold-roll-Stmt, fold-roll-StmtKind) at fitted));
      run = λ place target a inputs outputs fitted. absurd (never_run _ _ _ _ (rw (fold-roll-Stmt, fold-roll-StmtKind) at fitted));
      branching = λ place arms other each others fitted.
          let both = and_second (is_inhabited (map arm_fitted arms)) (all_of (map arm_fitted arms) && all_of (map (fits site) other))
          (rw (fold-roll-Stmt, fold-roll-StmtKind) at fitted) in
          as_codes _ _ (if_codes place arms other)
          (choice_good (map (codes_of_arm site) arms) (block_codes (map (codes_of site) other))
          (arms_good arms each (and_first (all_of (map arm_fitted arms)) (all_of (map (fits site) other)) both))
          (all_good other others (and_second (all_of (map arm_fitted arms)) (all_of (map (fits site) other)) both)));
      cobegin = λ place branches each fitted. absurd (never_activity _ (rw (fold-roll-Stmt, fold-roll-StmtKind) at fitted));
      guarded = λ place guard e body each fitted. absurd (never_activity _ (rw (fold-roll-Stmt, fold-roll-StmtKind) at fitted));
      repeat = λ place body each fitted.
          as_codes _ _ (repeat_codes place body)
          (loop_good (c_truth true) [] (block_codes (map (codes_of site) body)) (truth-is true) refl
          (all_good body each (rw (fold-roll-Stmt, fold-roll-StmtKind) at fitted)));
      until = λ place body e each fitted.
          let parts = rw (fold-roll-Stmt, fold-roll-StmtKind) at fitted in
          as_codes _ _ (until_codes place body e)
          (loop_good (c_truth true) (break_code (code_made site e)) (block_codes (map (codes_of site) body)) (truth-is true)
          (break-is (code_made site e) (test-is e (and_second (all_of (map (fits site) body)) (is_truth (type_of site e)) parts)))
          (all_good body each (and_first (all_of (map (fits site) body)) (is_truth (type_of site e)) parts)));
      while = λ place e body each fitted.
          let parts = rw (fold-roll-Stmt, fold-roll-StmtKind) at fitted in
          as_codes _ _ (while_codes place e body)
          (loop_good (code_made site e) [] (block_codes (map (codes_of site) body))
          (test-is e (and_first (is_truth (type_of site e)) (all_of (map (fits site) body)) parts)) refl
          (all_good body each (and_second (is_truth (type_of site e)) (all_of (map (fits site) body)) parts)));
      returns = λ place e fitted. as_codes _ _ (return_codes place e) (return_good e site.result refl (rw (fold-roll-Stmt, fold-roll-StmtKind) at fitted));
    }

    -- nothing fails in the C of a statement
    pub stmt_good : (s : Stmt) → S s
    stmt_good = induct S cases

    -- nor in that of a body
    pub body_good : (body : List Stmt) → all_of (map (fits site) body) ≡ true → Good (block_codes (map (codes_of site) body))
    body_good body = all_good body (λ k d within. stmt_good _)
