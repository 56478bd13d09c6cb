-- The C of the statements of a function fits a depth.
use Rattle.std.proofs.Common.{◌≡◌, ℕ, zero, suc, ◌+◌, ◌*◌, ◌^◌, ◌<◌, ◌≤◌, max}
use Rattle.std.proofs.Common.{pos, Bool, true, false, ◌&&◌, List, [], ◌∷◌, ◌++◌, map}
use Rattle.std.proofs.Common.{length, Option, Some, None, refl, sym, ◌∙◌, subst, arith}
use Rattle.std.proofs.lemmas.List.Elements.{All-head, All-tail}
use Rattle.std.specs.Prelude.{option_map, slice_get, if◌then◌else◌}
use Rattle.std.specs.List.{list_all}
use Rattle.std.proofs.lemmas.Bool.{and_from}
use Rattle.bl_tree.proofs.Basics.{all_append, and_first, and_second}
use Rattle.bl_tree.specs.declared.c.CExpr.{CExpr}
use Rattle.bl_tree.specs.declared.c.CStmt.{CStmt}
use Rattle.bl_tree.specs.declared.place.Place.{Place}
use Rattle.bl_tree.specs.declared.scalar.Op.TheVariants.{And}
use Rattle.bl_tree.specs.declared.scalar.Scalar.{Scalar as ScalarType}
use Rattle.bl_tree.specs.declared.scalar.Scalar.TheVariants.{Bool as OfBool}
use Rattle.bl_tree.specs.declared.tree.Arm.{Arm, fold-Arm, fold_out-Arm, out-Arm}
use Rattle.bl_tree.specs.declared.tree.Branch.{Branch}
use Rattle.bl_tree.specs.declared.tree.Expr.{Expr}
use Rattle.bl_tree.specs.declared.tree.Guard.{Guard}
use Rattle.bl_tree.specs.declared.tree.Path.{Path}
use Rattle.bl_tree.specs.declared.tree.Stmt.{Stmt, fold-roll-Stmt}
use Rattle.bl_tree.specs.declared.tree.StmtKind.{fold-roll-StmtKind}
use Rattle.bl_tree.specs.declared.tree.StmtKind.TheOpen.{StmtKind-F}
use Rattle.bl_tree.specs.declared.tree.StructDef.{StructDef}
use Rattle.bl_tree.specs.declared.tree.Ty.{Ty}
use Rattle.bl_tree.specs.declared.tree.Unit.{Unit as UnitDef}
use Rattle.bl_tree.specs.declared.tree.Var.{Var}
use Rattle.bl_tree.specs.Depths.{Depth, arguments_depth, arm_depth, branch_depth, depth_of}
use Rattle.bl_tree.specs.Depths.{expr_depth, of_all, optional_depth, path_depth, stmt_kind_depth}
use Rattle.bl_tree.specs.Depths.{stmt_layer_depth}
use Rattle.bl_tree.specs.Reduce.{all_of}
use Rattle.bl_tree.specs.Types.{scalar, type_stands}
use Rattle.bl_tree.specs.Typing.{TypingContext, arm_fits, branch_fits, fits, is_inhabited, is_truth, kind_fits, return_fits}
use Rattle.bl_tree.specs.Typing.{stmt_fits as stmt_fitted, type_of, type_of_path, var_at}
use Rattle.bl_tree.specs.Program.{names_of}
use Rattle.bl_tree.specs.Words as words
use Rattle.bl_tree.proofs.StmtInduction.{Cases, Each, EachArm, induct, stmt}
use Rattle.bl_ctext.specs.inner.Fits.{expr_fits, place_fits, stmt_fits, stmts_fit}
use Rattle.bl_ctext.proofs.Fitting.{expr_fits-more, if-fits, literal-fits, place-fits, read-fits, return-fits, set-fits, stmts_fit-more, two-fits}
use Rattle.bl_emit_acts.specs.Acts.{c_calling, c_set, call_made, code_made, declared_code}
use Rattle.bl_emit_acts.specs.Expressions.{stands}
use Rattle.bl_emit_acts.specs.Trees.{c_read, c_two, nowhere}
use Rattle.bl_emit_functions.specs.declared.coded.Free.{Free}
use Rattle.bl_emit_functions.specs.Statements.{ArmCodes, Codes, arm_codes, arm_taken, arms_taken, assigned_code, block_codes, branch_codes, break_code}
use Rattle.bl_emit_functions.specs.Statements.{choice_code, codes_of, codes_of_arm, either_code, else_code, flag_taken, flagged_code, kind_codes, loop_code}
use Rattle.bl_emit_functions.specs.Statements.{sets_itself, stmt_codes, turn_taken, untaken_code}
use Rattle.bl_emit_functions.specs.Trees.{c_break, c_if, c_return, c_truth, flag_name, flag_place, turn_name}
use Rattle.bl_emit_functions_laws_wellformed.proofs.OnSpelled.Acts.{assigned-fits, called-fits, code-fits, declared-fits, one-fits}
use Rattle.bl_emit_functions_laws_wellformed.proofs.OnSpelled.Numbers.{flag-name, turn-named}
use Rattle.bl_emit_functions_laws_wellformed.proofs.OnSpelled.Shapes.{break-fits, else-fits, end-fits, loop-fits}
use Rattle.bl_emit_acts_laws_wellformed.proofs.OnSpelled.Fits.{room}

-- how many brackets may be open at once in the C of statements of this depth
abbrev pub space : Depth → ℕ
space depth = 2 * depth.exprs + (2 * depth.blocks + 3)

-- C takes numbers in order, and fits a depth where 64 bits hold them
pub record Good (d : ℕ) (codes : Codes) : Type 0 where
  pub flags : (free : Free) → free.flags ≤ (codes free).free.flags
  pub turns : (free : Free) → free.turns ≤ (codes free).free.turns
  pub fits : (free : Free) → (codes free).free.flags ≤ 2 ^ 64 → (codes free).free.turns ≤ 2 ^ 64 → stmts_fit d (codes free).code ≡ true

only_good : (d : ℕ) (code : List CStmt) → stmts_fit d code ≡ true → Good d (λ free. record { code = code; free = free })
only_good d code is = record { flags = λ free. omega arith; turns = λ free. omega arith; fits = λ free few short. is }

nothing_good : (d : ℕ) → Good d (block_codes [])
nothing_good d = record { flags = λ free. omega arith; turns = λ free. omega arith; fits = λ free few short. refl }

then_good : (d : ℕ) (codes : Codes) (rest : List Codes) → Good d codes → Good d (block_codes rest) → Good d (block_codes (codes ∷ rest))
then_good d codes rest one more = record {
  flags = λ free. let a = one.flags free in let b = more.flags (codes free).free in omega (arith, a, b);
  turns = λ free. let a = one.turns free in let b = more.turns (codes free).free in omega (arith, a, b);
  fits = λ free few short.
      let a : (codes free).free.flags ≤ (block_codes rest (codes free).free).free.flags = more.flags (codes free).free in
      let b : (codes free).free.turns ≤ (block_codes rest (codes free).free).free.turns = more.turns (codes free).free in
      all_append (stmt_fits d) (codes free).code (block_codes rest (codes free).free).code
      (one.fits free (omega (arith, a, few)) (omega (arith, b, short)))
      (more.fits (codes free).free few short);
}

-- ---- flags

flag-fits : (d k : ℕ) → 1 ≤ d → k < 2 ^ 64 → place_fits d (flag_place k) ≡ true
flag-fits d k low small = place-fits d false (flag_name k) [] low (flag-name k small) refl

pub truth-fits : (d : ℕ) (b : Bool) → 2 ≤ d → expr_fits d (c_truth b) ≡ true
truth-fits d true low = literal-fits d nowhere OfBool (pos 1) low refl
truth-fits d false low = literal-fits d nowhere OfBool (pos 0) low refl

flag_set : (d k : ℕ) (b : Bool) → 2 ≤ d → k < 2 ^ 64 → stmt_fits d (c_set (flag_place k) (c_truth b)) ≡ true
flag_set d k b low small =
    let one : 1 ≤ d = omega (arith, low) in set-fits d nowhere (flag_place k) (c_truth b) (flag-fits d k one small) (truth-fits d b low)

flag_read : (d k : ℕ) → 1 ≤ d → k < 2 ^ 64 → expr_fits d (c_read (flag_place k)) ≡ true
flag_read d k low small = read-fits d nowhere (flag_place k) (flag-fits d k low small)

-- ---- arms

either_is : (d e : ℕ) (test : CExpr) (body other : List CStmt) → d + 1 ≤ e → expr_fits d test ≡ true → stmts_fit d body ≡ true →
    stmts_fit d other ≡ true → stmts_fit e (c_if test body (else_code other) ∷ []) ≡ true
either_is d e test body [] next one is others = one-fits e (c_if test body None) (if-fits d e nowhere test body next one is)
either_is d e test body (s ∷ rest) next one is others =
    one-fits e (c_if test body (Some (s ∷ rest))) (else-fits d e test body (s ∷ rest) next one is others)

more_good : (d e : ℕ) (codes : Codes) → d ≤ e → Good d codes → Good e codes
more_good d e codes le good = record {
  flags = good.flags;
  turns = good.turns;
  fits = λ free few short. stmts_fit-more d e (codes free).code le (good.fits free few short);
}

either_good : (d e : ℕ) (arm : ArmCodes) (other : Codes) → d + 1 ≤ e → expr_fits d arm.test ≡ true → Good d arm.body → Good d other →
    Good e (either_code arm other)
either_good d e arm other next is body good = record {
  flags = λ free. let a = body.flags free in let b = good.flags (arm.body free).free in omega (arith, a, b);
  turns = λ free. let a = body.turns free in let b = good.turns (arm.body free).free in omega (arith, a, b);
  fits = λ free few short.
      let a : (arm.body free).free.flags ≤ (other (arm.body free).free).free.flags = good.flags (arm.body free).free in
      let b : (arm.body free).free.turns ≤ (other (arm.body free).free).free.turns = good.turns (arm.body free).free in
      either_is d e arm.test (arm.body free).code (other (arm.body free).free).code next is
      (body.fits free (omega (arith, a, few)) (omega (arith, b, short))) (good.fits (arm.body free).free few short);
}

module _ (d e : ℕ) (low : 3 ≤ d) (next : d + 1 ≤ e) where
  -- an arm whose condition has a bracket to spare
  pub record GoodArm (arm : ArmCodes) : Type 0 where
    pub t : ℕ
    pub some : 1 ≤ t
    pub spare : t + 1 ≤ d
    pub test : expr_fits t arm.test ≡ true
    pub body : Good d arm.body

  abbrev AllArms : List ArmCodes → Type 0
  AllArms [] = Unit {0}
  AllArms (arm ∷ arms) = GoodArm arm × AllArms arms

  arms_flags : (flag : ℕ) (arms : List ArmCodes) → AllArms arms → (free : Free) → free.flags ≤ (arms_taken flag arms free).free.flags
  arms_flags flag [] all free = omega arith
  arms_flags flag (arm ∷ arms) all free =
      let a : free.flags ≤ (arm.body free).free.flags = all.0.body.flags free in
      let b : (arm.body free).free.flags ≤ (arms_taken flag arms (arm.body free).free).free.flags =
      arms_flags flag arms all.1 (arm.body free).free in
      omega (arith, a, b)

  arms_turns : (flag : ℕ) (arms : List ArmCodes) → AllArms arms → (free : Free) → free.turns ≤ (arms_taken flag arms free).free.turns
  arms_turns flag [] all free = omega arith
  arms_turns flag (arm ∷ arms) all free =
      let a : free.turns ≤ (arm.body free).free.turns = all.0.body.turns free in
      let b : (arm.body free).free.turns ≤ (arms_taken flag arms (arm.body free).free).free.turns =
      arms_turns flag arms all.1 (arm.body free).free in
      omega (arith, a, b)

  arm_is : (flag : ℕ) → flag < 2 ^ 64 → (arm : ArmCodes) → GoodArm arm → (free : Free) → (arm.body free).free.flags ≤ 2 ^ 64 →
      (arm.body free).free.turns ≤ 2 ^ 64 → stmts_fit e (arm_taken flag arm free).code ≡ true
  arm_is flag small arm good free few short =
      let two : 2 ≤ d = omega (arith, low) in
      one-fits e (c_if (c_two And (c_read (flag_place flag)) arm.test) (c_set (flag_place flag) (c_truth false) ∷ (arm.body free).code) None)
      (if-fits d e nowhere (c_two And (c_read (flag_place flag)) arm.test) (c_set (flag_place flag) (c_truth false) ∷ (arm.body free).code) next
      (two-fits good.t d nowhere And (c_read (flag_place flag)) arm.test good.spare refl (flag_read good.t flag good.some small) good.test)
      (and_from (stmt_fits d (c_set (flag_place flag) (c_truth false))) (stmts_fit d (arm.body free).code) (flag_set d flag false two small)
      (good.body.fits free few short)))

  arms_are : (flag : ℕ) → flag < 2 ^ 64 → (arms : List ArmCodes) → AllArms arms → (free : Free) →
      (arms_taken flag arms free).free.flags ≤ 2 ^ 64 →
      (arms_taken flag arms free).free.turns ≤ 2 ^ 64 → stmts_fit e (arms_taken flag arms free).code ≡ true
  arms_are flag small [] all free few short = refl
  arms_are flag small (arm ∷ arms) all free few short =
      let a : (arm.body free).free.flags ≤ (arms_taken flag arms (arm.body free).free).free.flags =
      arms_flags flag arms all.1 (arm.body free).free in
      let b : (arm.body free).free.turns ≤ (arms_taken flag arms (arm.body free).free).free.turns =
      arms_turns flag arms all.1 (arm.body free).free in
      all_append (stmt_fits e) (arm_taken flag arm free).code (arms_taken flag arms (arm.body free).free).code
      (arm_is flag small arm all.0 free (omega (arith, a, few)) (omega (arith, b, short)))
      (arms_are flag small arms all.1 (arm.body free).free few short)

  untaken-is : (flag : ℕ) → flag < 2 ^ 64 → (code : List CStmt) → stmts_fit d code ≡ true → stmts_fit e (untaken_code flag code) ≡ true
  untaken-is flag small [] is = refl
  untaken-is flag small (s ∷ rest) is =
      let one : 1 ≤ d = omega (arith, low) in
      one-fits e (c_if (c_read (flag_place flag)) (s ∷ rest) None)
      (if-fits d e nowhere (c_read (flag_place flag)) (s ∷ rest) next (flag_read d flag one small) is)

  flagged_good : (arms : List ArmCodes) (other : Codes) → AllArms arms → Good d other → Good e (flagged_code arms other)
  flagged_good arms other all good = record {
    flags = λ free.
        let a = arms_flags free.flags arms all (flag_taken free) in
        let b = good.flags (arms_taken free.flags arms (flag_taken free)).free in
        omega (arith, a, b);
    turns = λ free.
        let a = arms_turns free.flags arms all (flag_taken free) in
        let b = good.turns (arms_taken free.flags arms (flag_taken free)).free in
        omega (arith, a, b);
    fits = λ free few short.
        let inner = arms_taken free.flags arms (flag_taken free) in
        let a : free.flags + 1 ≤ inner.free.flags = arms_flags free.flags arms all (flag_taken free) in
        let b : inner.free.flags ≤ (other inner.free).free.flags = good.flags inner.free in
        let c : inner.free.turns ≤ (other inner.free).free.turns = good.turns inner.free in
        let small : free.flags < 2 ^ 64 = omega (arith, a, b, few) in
        let two : 2 ≤ e = omega (arith, low, next) in
        and_from (stmt_fits e (c_set (flag_place free.flags) (c_truth true)))
        (stmts_fit e (inner.code ++ untaken_code free.flags (other inner.free).code))
        (flag_set e free.flags true two small)
        (all_append (stmt_fits e) inner.code (untaken_code free.flags (other inner.free).code)
        (arms_are free.flags small arms all (flag_taken free) (omega (arith, b, few)) (omega (arith, c, short)))
        (untaken-is free.flags small (other inner.free).code (good.fits inner.free few short)));
  }

  arm-fits : (arm : ArmCodes) → GoodArm arm → expr_fits d arm.test ≡ true
  arm-fits arm good = let spare = good.spare in expr_fits-more good.t d arm.test (omega (arith, spare)) good.test

  pub choice_good : (arms : List ArmCodes) (other : Codes) → d + 2 ≤ e → AllArms arms → Good d other → Good e (choice_code arms other)
  choice_good [] other room all good =
      let f = flagged_good [] other all good in record { flags = f.flags; turns = f.turns; fits = f.fits }
  choice_good (arm ∷ []) other room all good =
      let f = either_good d e arm other next (arm-fits arm all.0) all.0.body good in record { flags = f.flags; turns = f.turns; fits = f.fits }
  choice_good (arm ∷ second ∷ []) other room all good =
      let one : d ≤ d + 1 = omega arith in
      let same : d + 1 ≤ d + 1 = omega arith in
      let wide : (d + 1) + 1 ≤ e = omega (arith, room) in
      let inner = either_good d (d + 1) second other same (arm-fits second all.1.0) all.1.0.body good in
      let f = either_good (d + 1) e arm (either_code second other) wide (expr_fits-more d (d + 1) arm.test one (arm-fits arm all.0))
      (more_good d (d + 1) arm.body one all.0.body) inner in
      record { flags = f.flags; turns = f.turns; fits = f.fits }
  choice_good (arm ∷ second ∷ third ∷ rest) other room all good =
      let f = flagged_good (arm ∷ second ∷ third ∷ rest) other all good in record { flags = f.flags; turns = f.turns; fits = f.fits }

  -- ---- loops

  pub loop_good : (test : CExpr) (last : List CStmt) (codes : Codes) → d + 2 ≤ e → expr_fits d test ≡ true → stmts_fit d last ≡ true →
      Good d codes →
      Good e (λ free. loop_code free.turns test last (codes (turn_taken free)))
  loop_good test last codes room is ends good = record {
    flags = λ free. good.flags (turn_taken free);
    turns = λ free. let a = good.turns (turn_taken free) in omega (arith, a);
    fits = λ free few short.
        let a : free.turns + 1 ≤ (codes (turn_taken free)).free.turns = good.turns (turn_taken free) in
        let small : free.turns < 2 ^ 64 = omega (arith, a, short) in
        let one : 1 ≤ d = omega (arith, low) in
        one-fits e _ (loop-fits d e (turn_name free.turns) test ((codes (turn_taken free)).code ++ last) room one (turn-named free.turns small) is
        (all_append (stmt_fits d) (codes (turn_taken free)).code last (good.fits (turn_taken free) few short) ends));
  }

  pub break-is : (t : ℕ) (test : CExpr) → t + 1 ≤ d → expr_fits t test ≡ true → stmts_fit d (break_code test) ≡ true
  break-is t test le is =
      one-fits d (c_if test (c_break ∷ []) None) (if-fits t d nowhere test (c_break ∷ []) le is (one-fits t c_break (break-fits t)))

-- ---- all statements

-- what is left of a depth that has room for two
less_two : (d : ℕ) → 2 ≤ d → (i : ℕ) × (i + 2 ≡ d)
less_two zero low = absurd (omega arith)
less_two (suc zero) low = absurd (omega arith)
less_two (suc (suc i)) low = (i, omega arith)

abbrev pub depth_of_arm : Arm → Depth
depth_of_arm = fold-Arm Depth Depth Depth Depth stmt_kind_depth arm_depth branch_depth stmt_layer_depth

module _ (site : TypingContext) (few : length site.vars ≤ 2 ^ 64)
    (names : list_all words.is_name (map (λ (def : StructDef). def.name) site.structs) ≡ true)
    (named : (f : ℕ) (callee : UnitDef) → slice_get site.earlier f ≡ Some callee → words.is_name callee.name ≡ true)
    (vars_named : list_all words.is_name (names_of site.vars) ≡ true)
    (typed_vars : (k : ℕ) (var : Var) → var_at site k ≡ Some var → type_stands (length site.structs) var.ty ≡ true)
    (exprs : (e : Expr) (ty : Ty) → type_of site e ≡ Some ty → expr_fits (room (expr_depth e)) (code_made site e) ≡ true)
    (paths : (path : Path) (ty : Ty) → type_of_path site path ≡ Some ty →
    place_fits (room (path_depth path)) (stands site path).place ≡ true) where
  truth_there : (t : Option Ty) → is_truth t ≡ true → (ty : Ty) × (t ≡ Some ty)
  truth_there None h = absurd (cc)
  truth_there (Some ty) h = (ty, refl)

  test-fits : (e : Expr) → is_truth (type_of site e) ≡ true → expr_fits (room (expr_depth e)) (code_made site e) ≡ true
  test-fits e h = let found = truth_there (type_of site e) h in exprs e found.0 found.1

  abbrev S : Stmt → Type 0
  S s = fits site s ≡ true → (d : ℕ) → space (depth_of s) ≤ d → Good d (codes_of site s)

  all_good : (body : List Stmt) → Each S body → all_of (map (fits site) body) ≡ true → (d : ℕ) →
      space (of_all (map depth_of body)) ≤ d →
      Good d (block_codes (map (codes_of site) body))
  all_good [] each fitted d le = nothing_good d
  all_good (s ∷ body) each fitted d le =
      let here : space (depth_of s) ≤ d = omega (arith, le) in
      let later : space (of_all (map depth_of body)) ≤ d = omega (arith, le) in
      then_good d (codes_of site s) (map (codes_of site) body)
      (All-head S s body each (and_first (fits site s) (all_of (map (fits site) body)) fitted) d here)
      (all_good body (All-tail S s body each) (and_second (fits site s) (all_of (map (fits site) body)) fitted) d later)

  abbrev arm_fitted : Arm → Bool
  arm_fitted = fold-Arm Bool Bool Bool Bool (kind_fits site) (arm_fits site) branch_fits stmt_fitted

  arm_out : (arm : Arm) → codes_of_arm site arm
      ≡ record { test = code_made site (out-Arm arm).test; body = block_codes (map (codes_of site) (out-Arm arm).body) }
  arm_out arm = fold_out-Arm Codes ArmCodes Codes Codes (kind_codes site) (arm_codes site) branch_codes stmt_codes arm

  arm_deep : (arm : Arm) → depth_of_arm arm ≡ arm_depth (record { test = (out-Arm arm).test; body = map depth_of (out-Arm arm).body })
  arm_deep arm = fold_out-Arm Depth Depth Depth Depth stmt_kind_depth arm_depth branch_depth stmt_layer_depth arm

  abbrev OfArm : Arm → Type 0
  OfArm arm = Each S (out-Arm arm).body

  module _ (i e : ℕ) (low : 3 ≤ i) (next : i + 1 ≤ e) where
    arm_good : (arm : Arm) → OfArm arm → arm_fitted arm ≡ true → space (depth_of_arm arm) ≤ i + 2 →
        GoodArm i e low next (codes_of_arm site arm)
    arm_good arm each fitted le =
        let fits_so = sym (fold_out-Arm Bool Bool Bool Bool (kind_fits site) (arm_fits site) branch_fits stmt_fitted arm) ∙ fitted in
        let deep = subst (λ depth. space depth ≤ i + 2) (arm_deep arm) le in
        let test : Expr = (out-Arm arm).test in
        let body : List Stmt = (out-Arm arm).body in
        let spare : room (expr_depth test) + 1 ≤ i = omega (arith, deep) in
        let inner : space (of_all (map depth_of body)) ≤ i = omega (arith, deep) in
        subst (GoodArm i e low next) (sym (arm_out arm)) (record {
          t = room (expr_depth test);
          some = omega arith;
          spare = spare;
          test = test-fits test (and_first (is_truth (type_of site test)) (all_of (map (fits site) body)) fits_so);
          body = all_good body each (and_second (is_truth (type_of site test)) (all_of (map (fits site) body)) fits_so) i inner;
        })

    arms_good : (arms : List Arm) → EachArm S arms → all_of (map arm_fitted arms) ≡ true →
        space (of_all (map depth_of_arm arms)) ≤ i + 2 →
        AllArms i e low next (map (codes_of_arm site) arms)
    arms_good [] each fitted le = tt
    arms_good (arm ∷ arms) each fitted le =
        let here : space (depth_of_arm arm) ≤ i + 2 = omega (arith, le) in
        let later : space (of_all (map depth_of_arm arms)) ≤ i + 2 = omega (arith, le) in (
          arm_good arm (All-head OfArm arm arms each) (and_first (arm_fitted arm) (all_of (map arm_fitted arms)) fitted) here,
          arms_good arms (All-tail OfArm arm arms each) (and_second (arm_fitted arm) (all_of (map arm_fitted arms)) fitted) later,
        )

  return_good : (d : ℕ) (e : Option Expr) (r : Option ScalarType) → return_fits site e r ≡ true → room (optional_depth e) ≤ d →
      Good d (λ free. record { code = c_return (option_map (code_made site) e) ∷ []; free = free })
  return_good d (Some e) (Some s) fitted le =
      only_good d (c_return (Some (code_made site e)) ∷ [])
      (one-fits d (c_return (Some (code_made site e)))
      (return-fits d nowhere (code_made site e)
      (code-fits site few names named vars_named typed_vars exprs paths d e (Some (scalar s)) fitted le)))
  return_good d (Some e) None fitted le = absurd (cc)
  return_good d None (Some s) fitted le = absurd (cc)
  return_good d None None fitted le = only_good d (c_return None ∷ []) (one-fits d (c_return None) (end-fits d))

  assigned_by : (d : ℕ) (path : Path) (e : Expr) → stmt_fits d (c_set (stands site path).place (code_made site e)) ≡ true →
      stmts_fit d (assigned_code site path e) ≡ true
  assigned_by d path e is = by (sets_itself path e)
    where
      by : (itself : Bool) → stmts_fit d (if itself then [] else c_set (stands site path).place (code_made site e) ∷ []) ≡ true
      by true = refl
      by false = one-fits d (c_set (stands site path).place (code_made site e)) is

  as_codes : (d : ℕ) (a b : Codes) → a ≡ b → Good d b → Good d a
  as_codes d a b is good = subst (Good d) (sym is) good

  module _ (place : Place) where
    declare_codes : (k : ℕ) (initial : Option Expr) → codes_of site (stmt place (StmtKind-F.Declare k initial))
        ≡ (λ free. record { code = declared_code site [] k initial; free = free })
    declare_codes k initial = rw (fold-roll-Stmt, fold-roll-StmtKind) refl

    assign_codes : (path : Path) (e : Expr) → codes_of site (stmt place (StmtKind-F.Assign path e))
        ≡ (λ free. record { code = assigned_code site path e; free = free })
    assign_codes path e = rw (fold-roll-Stmt, fold-roll-StmtKind) refl

    call_codes : (f : ℕ) (inputs : List Expr) (outputs : List Path) → codes_of site (stmt place (StmtKind-F.Call f inputs outputs))
        ≡ (λ free. record { code = c_calling (call_made site f inputs outputs) ∷ []; free = free })
    call_codes f inputs outputs = rw (fold-roll-Stmt, fold-roll-StmtKind) refl

    await_codes : (e : Expr) → codes_of site (stmt place (StmtKind-F.Await e)) ≡ (λ free. record { code = []; free = free })
    await_codes e = rw (fold-roll-Stmt, fold-roll-StmtKind) refl

    run_codes : (target : Option Path) (a : ℕ) (inputs : List Expr) (outputs : List Path) →
        codes_of site (stmt place (StmtKind-F.Run target a inputs outputs)) ≡ (λ free. record { code = []; free = free })
    run_codes target a inputs outputs = rw (fold-roll-Stmt, fold-roll-StmtKind) refl

    if_codes : (arms : List Arm) (other : List Stmt) → codes_of site (stmt place (StmtKind-F.If arms other))
        ≡ choice_code (map (codes_of_arm site) arms) (block_codes (map (codes_of site) other))
    if_codes arms other = rw (fold-roll-Stmt, fold-roll-StmtKind) refl

    cobegin_codes : (branches : List Branch) →
        codes_of site (stmt place (StmtKind-F.Cobegin branches)) ≡ (λ free. record { code = []; free = free })
    cobegin_codes branches = rw (fold-roll-Stmt, fold-roll-StmtKind) refl

    when_codes : (guard : Guard) (e : Expr) (body : List Stmt) → codes_of site (stmt place (StmtKind-F.When guard e body))
        ≡ (λ free. record { code = []; free = free })
    when_codes guard e body = rw (fold-roll-Stmt, fold-roll-StmtKind) refl

    repeat_codes : (body : List Stmt) → codes_of site (stmt place (StmtKind-F.Repeat body))
        ≡ (λ free. loop_code free.turns (c_truth true) [] (block_codes (map (codes_of site) body) (turn_taken free)))
    repeat_codes body = rw (fold-roll-Stmt, fold-roll-StmtKind) refl

    until_codes : (body : List Stmt) (e : Expr) → codes_of site (stmt place (StmtKind-F.Until body e))
        ≡ (λ free. loop_code free.turns (c_truth true) (break_code (code_made site e)) (block_codes (map (codes_of site) body) (turn_taken free)))
    until_codes body e = rw (fold-roll-Stmt, fold-roll-StmtKind) refl

    while_codes : (e : Expr) (body : List Stmt) → codes_of site (stmt place (StmtKind-F.While e body))
        ≡ (λ free. loop_code free.turns (code_made site e) [] (block_codes (map (codes_of site) body) (turn_taken free)))
    while_codes e body = rw (fold-roll-Stmt, fold-roll-StmtKind) refl

    return_codes : (e : Option Expr) → codes_of site (stmt place (StmtKind-F.Return e))
        ≡ (λ free. record { code = c_return (option_map (code_made site) e) ∷ []; free = free })
    return_codes e = rw (fold-roll-Stmt, fold-roll-StmtKind) refl

    -- ---- one kind after another

    declare_case : (k : ℕ) (initial : Option Expr) → S (stmt place (StmtKind-F.Declare k initial))
    declare_case k initial fitted d le =
        let deep = rw (fold-roll-Stmt, fold-roll-StmtKind) at le in
        let room_for : room (optional_depth initial) ≤ d = omega (arith, deep) in
        as_codes d _ _ (declare_codes k initial)
        (only_good d (declared_code site [] k initial)
        (declared-fits site few names named vars_named typed_vars exprs paths d [] k initial (rw (fold-roll-Stmt, fold-roll-StmtKind) at fitted) room_for))

    assign_case : (path : Path) (e : Expr) → S (stmt place (StmtKind-F.Assign path e))
    assign_case path e fitted d le =
        let deep = rw (fold-roll-Stmt, fold-roll-StmtKind) at le in
        let room_for : room (max (path_depth path) (expr_depth e)) ≤ d = omega (arith, deep) in
        as_codes d _ _ (assign_codes path e)
        (only_good d (assigned_code site path e)
        (assigned_by d path e
        (assigned-fits site few names named vars_named typed_vars exprs paths d path e (rw (fold-roll-Stmt, fold-roll-StmtKind) at fitted) room_for)))

    call_case : (f : ℕ) (inputs : List Expr) (outputs : List Path) → S (stmt place (StmtKind-F.Call f inputs outputs))
    call_case f inputs outputs fitted d le =
        let deep = rw (fold-roll-Stmt, fold-roll-StmtKind) at le in
        let room_for : room (arguments_depth inputs outputs) + 1 ≤ d = omega (arith, deep) in
        as_codes d _ _ (call_codes f inputs outputs)
        (only_good d (c_calling (call_made site f inputs outputs) ∷ [])
        (one-fits d (c_calling (call_made site f inputs outputs))
        (called-fits site few names named vars_named typed_vars exprs paths d f inputs outputs (rw (fold-roll-Stmt, fold-roll-StmtKind) at fitted) room_for)))

    branching_case : (arms : List Arm) (other : List Stmt) → EachArm S arms → Each S other → S (stmt place (StmtKind-F.If arms other))
    branching_case arms other each others fitted d le =
        let deep = rw (fold-roll-Stmt, fold-roll-StmtKind) at le in
        let parts = and_second (is_inhabited (map arm_fitted arms)) (all_of (map arm_fitted arms) && all_of (map (fits site) other))
        (rw (fold-roll-Stmt, fold-roll-StmtKind) at fitted) in
        let two : 2 ≤ d = omega (arith, deep) in
        let split = less_two d two in
        let i : ℕ = split.0 in
        let is : i + 2 ≡ d = split.1 in
        let low : 3 ≤ i = omega (arith, deep, is) in
        let next : i + 1 ≤ d = omega (arith, is) in
        let in_arms : space (of_all (map depth_of_arm arms)) ≤ i + 2 = omega (arith, deep, is) in
        let in_other : space (of_all (map depth_of other)) ≤ i = omega (arith, deep, is) in
        as_codes d _ _ (if_codes arms other)
        (choice_good i d low next (map (codes_of_arm site) arms) (block_codes (map (codes_of site) other)) (omega (arith, is))
        (arms_good i d low next arms each (and_first (all_of (map arm_fitted arms)) (all_of (map (fits site) other)) parts) in_arms)
        (all_good other others (and_second (all_of (map arm_fitted arms)) (all_of (map (fits site) other)) parts) i in_other))

    repeat_case : (body : List Stmt) → Each S body → S (stmt place (StmtKind-F.Repeat body))
    repeat_case body each fitted d le =
        let deep = rw (fold-roll-Stmt, fold-roll-StmtKind) at le in
        let two : 2 ≤ d = omega (arith, deep) in
        let split = less_two d two in
        let i : ℕ = split.0 in
        let is : i + 2 ≡ d = split.1 in
        let low : 3 ≤ i = omega (arith, deep, is) in
        let next : i + 1 ≤ d = omega (arith, is) in
        let wide : i + 2 ≤ d = omega (arith, is) in
        let some : 2 ≤ i = omega (arith, low) in
        let inner : space (of_all (map depth_of body)) ≤ i = omega (arith, deep, is) in
        as_codes d _ _ (repeat_codes body)
        (loop_good i d low next (c_truth true) [] (block_codes (map (codes_of site) body)) wide (truth-fits i true some) refl
        (all_good body each (rw (fold-roll-Stmt, fold-roll-StmtKind) at fitted) i inner))

    until_case : (body : List Stmt) (e : Expr) → Each S body → S (stmt place (StmtKind-F.Until body e))
    until_case body e each fitted d le =
        let deep = rw (fold-roll-Stmt, fold-roll-StmtKind) at le in
        let parts = rw (fold-roll-Stmt, fold-roll-StmtKind) at fitted in
        let two : 2 ≤ d = omega (arith, deep) in
        let split = less_two d two in
        let i : ℕ = split.0 in
        let is : i + 2 ≡ d = split.1 in
        let low : 3 ≤ i = omega (arith, deep, is) in
        let next : i + 1 ≤ d = omega (arith, is) in
        let wide : i + 2 ≤ d = omega (arith, is) in
        let some : 2 ≤ i = omega (arith, low) in
        let spare : room (expr_depth e) + 1 ≤ i = omega (arith, deep, is) in
        let inner : space (of_all (map depth_of body)) ≤ i = omega (arith, deep, is) in
        as_codes d _ _ (until_codes body e)
        (loop_good i d low next (c_truth true) (break_code (code_made site e)) (block_codes (map (codes_of site) body)) wide (truth-fits i true some)
        (break-is i d low next (room (expr_depth e)) (code_made site e) spare
        (test-fits e (and_second (all_of (map (fits site) body)) (is_truth (type_of site e)) parts)))
        (all_good body each (and_first (all_of (map (fits site) body)) (is_truth (type_of site e)) parts) i inner))

    while_case : (e : Expr) (body : List Stmt) → Each S body → S (stmt place (StmtKind-F.While e body))
    while_case e body each fitted d le =
        let deep = rw (fold-roll-Stmt, fold-roll-StmtKind) at le in
        let parts = rw (fold-roll-Stmt, fold-roll-StmtKind) at fitted in
        let two : 2 ≤ d = omega (arith, deep) in
        let split = less_two d two in
        let i : ℕ = split.0 in
        let is : i + 2 ≡ d = split.1 in
        let low : 3 ≤ i = omega (arith, deep, is) in
        let next : i + 1 ≤ d = omega (arith, is) in
        let wide : i + 2 ≤ d = omega (arith, is) in
        let within : room (expr_depth e) ≤ i = omega (arith, deep, is) in
        let inner : space (of_all (map depth_of body)) ≤ i = omega (arith, deep, is) in
        as_codes d _ _ (while_codes e body)
        (loop_good i d low next (code_made site e) [] (block_codes (map (codes_of site) body)) wide
        (expr_fits-more (room (expr_depth e)) i (code_made site e) within
        (test-fits e (and_first (is_truth (type_of site e)) (all_of (map (fits site) body)) parts))) refl
        (all_good body each (and_second (is_truth (type_of site e)) (all_of (map (fits site) body)) parts) i inner))

    returns_case : (e : Option Expr) → S (stmt place (StmtKind-F.Return e))
    returns_case e fitted d le =
        let deep = rw (fold-roll-Stmt, fold-roll-StmtKind) at le in
        let room_for : room (optional_depth e) ≤ d = omega (arith, deep) in
        as_codes d _ _ (return_codes e) (return_good d e site.result (rw (fold-roll-Stmt, fold-roll-StmtKind) at fitted) room_for)

  cases : Cases S
  cases = record {
    declare = declare_case;
    assign = assign_case;
    call = call_case;
    await = λ place e fitted d le. as_codes d _ _ (await_codes place e) (only_good d [] refl);
    run = λ place target a inputs outputs fitted d le. as_codes d _ _ (run_codes place target a inputs outputs) (only_good d [] refl);
    branching = branching_case;
    cobegin = λ place branches each fitted d le. as_codes d _ _ (cobegin_codes place branches) (only_good d [] refl);
    guarded = λ place guard e body each fitted d le. as_codes d _ _ (when_codes place guard e body) (only_good d [] refl);
    repeat = repeat_case;
    until = until_case;
    while = while_case;
    returns = returns_case;
  }

  -- the C of a body fits
  pub body_good : (body : List Stmt) → all_of (map (fits site) body) ≡ true → (d : ℕ) → space (of_all (map depth_of body)) ≤ d →
      Good d (block_codes (map (codes_of site) body))
  body_good body = all_good body (λ k d within. induct S cases _)
