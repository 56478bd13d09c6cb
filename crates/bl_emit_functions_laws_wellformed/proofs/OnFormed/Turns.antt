-- What counts the turns of a function's loops: each loop has a name of its own.
use Rattle.std.proofs.Common.{◌≡◌, ℕ, zero, suc, ◌+◌, ◌<◌, ◌≤◌, ◌^◌, Bool, true, false, List, [], ◌∷◌, ◌++◌, map}
use Rattle.std.proofs.Common.{drop, Option, Some, None}
use Rattle.std.proofs.Common.{refl, sym, ap, ◌∙◌, subst, arith, append_assoc}
use Rattle.std.proofs.lemmas.Fmt.{decimal_injective}
use Rattle.std.proofs.lemmas.List.{append-nil}
use Rattle.std.proofs.lemmas.List.Elements.{All-head, All-tail}
use Rattle.std.proofs.lemmas.Slice.Eq.{bytes_eq-Decides}
use Rattle.std.specs.Prelude.{bytes_eq, is_none, option_map, if◌then◌else◌}
use Rattle.std.specs.Option.{option_or}
use Rattle.bl_tree.specs.declared.place.Place.{Place}
use Rattle.bl_tree.specs.declared.text.Text.{Text}
use Rattle.bl_tree.specs.declared.c.CExpr.{CExpr}
use Rattle.bl_tree.specs.declared.c.CCall.{CCall}
use Rattle.bl_tree.specs.declared.c.CPlace.{CPlace}
use Rattle.bl_tree.specs.declared.c.CStmt.{CStmt, fold-roll-CStmt, roll-CStmt}
use Rattle.bl_tree.specs.declared.c.CStmtKind.{CStmtKind, CStmtKind-F, fold-roll-CStmtKind, roll-CStmtKind}
use Rattle.bl_tree.specs.declared.c.CStmtKind.TheVariants as statement
use Rattle.bl_tree.specs.declared.scalar.Scalar.{Scalar as ScalarType}
use Rattle.bl_tree.specs.declared.tree.Arm.{Arm, fold_out-Arm, out-Arm}
use Rattle.bl_tree.specs.declared.tree.Branch.{Branch}
use Rattle.bl_tree.specs.declared.tree.Expr.{Expr}
use Rattle.bl_tree.specs.declared.tree.Guard.{Guard}
use Rattle.bl_tree.specs.declared.tree.Path.{Path}
use Rattle.bl_tree.specs.declared.tree.Stmt.{Stmt, fold-roll-Stmt}
use Rattle.bl_tree.specs.declared.tree.StmtKind.{fold-roll-StmtKind}
use Rattle.bl_tree.specs.declared.tree.StmtKind.TheOpen.{StmtKind-F}
use Rattle.bl_tree.specs.declared.tree.Ty.{Ty}
use Rattle.bl_tree.specs.Types.{scalar_in}
use Rattle.bl_tree.specs.Typing.{TypingContext, var_at}
use Rattle.bl_tree.proofs.StmtInduction.{Cases, Each, EachArm, induct, stmt}
use Rattle.bl_ctext_semantics.specs.Faults.{distinct_names, repeated, unless}
use Rattle.bl_ctext_semantics.specs.Loops.{LoopCounters, turns_in, turns_in_block, turns_or_none}
use Rattle.bl_ctext_semantics.specs.Tables.{Table, with_entry}
use Rattle.bl_emit_acts.specs.Acts.{c_calling, c_clear, c_set, c_zeroed, call_made, code_made, declared_code, initial_code, zeroed}
use Rattle.bl_emit_acts.specs.Expressions.{stands, type_at}
use Rattle.bl_emit_acts.specs.Places.{place_in}
use Rattle.bl_emit_acts.specs.Trees.{nowhere}
use Rattle.bl_emit_functions.specs.declared.coded.Coded.{Coded}
use Rattle.bl_emit_functions.specs.declared.coded.Free.{Free}
use Rattle.bl_emit_functions.specs.Statements.{ArmCodes, Codes, arm_codes, arms_taken, assigned_code, block_codes, branch_codes, break_code, choice_code}
use Rattle.bl_emit_functions.specs.Statements.{codes_of, codes_of_arm, either_code, else_code, flag_taken, flagged_code, kind_codes, loop_code, sets_itself}
use Rattle.bl_emit_functions.specs.Statements.{stmt_codes, turn_taken, untaken_code}
use Rattle.bl_emit_functions.specs.Trees.{c_break, c_if, c_loop, c_return, c_truth, turn_name}
use Rattle.bl_emit_acts_laws_wellformed.proofs.OnFormed.Judged.{kept}
use Rattle.bl_emit_acts_laws_simulation.proofs.Statements.{what}

-- ---- single statements

-- what counts turns in a statement of a form
pub by_form : (k : CStmtKind) (layer : CStmtKind-F CStmtKind CStmt) (turns : LoopCounters) → roll-CStmtKind layer ≡ k → turns_in (what layer) ≡ turns →
    turns_in (roll-CStmt (record { place = nowhere; what = k })) ≡ turns
by_form k layer turns is shape = subst (λ (k : CStmtKind). turns_in (roll-CStmt (record { place = nowhere; what = k })) ≡ turns) is shape

pub set-turns : (place : CPlace) (value : CExpr) → turns_in (c_set place value) ≡ []
set-turns place value =
    by_form (statement.Set place value) (CStmtKind-F.Set place value) [] (statement.rolls-Set place value) (rw (fold-roll-CStmt, fold-roll-CStmtKind) refl)

pub clear-turns : (place : CPlace) (name : Text) → turns_in (c_clear place name) ≡ []
clear-turns place name =
    by_form (statement.Clear place name) (CStmtKind-F.Clear place name) [] (statement.rolls-Clear place name) (rw (fold-roll-CStmt, fold-roll-CStmtKind) refl)

pub call-turns : (call : CCall) → turns_in (c_calling call) ≡ []
call-turns call = by_form (statement.Call call) (CStmtKind-F.Call call) [] (statement.rolls-Call call) (rw (fold-roll-CStmt, fold-roll-CStmtKind) refl)

pub return-turns : (value : Option CExpr) → turns_in (c_return value) ≡ []
return-turns value =
    by_form (statement.Return value) (CStmtKind-F.Return value) [] (statement.rolls-Return value) (rw (fold-roll-CStmt, fold-roll-CStmtKind) refl)

break-turns : turns_in c_break ≡ []
break-turns = by_form statement.Break CStmtKind-F.Break [] statement.rolls-Break (rw (fold-roll-CStmt, fold-roll-CStmtKind) refl)

-- those of an `else` that may be absent
abbrev pub turns_of_other : Option (List CStmt) → LoopCounters
turns_of_other other = turns_or_none (option_map (map turns_in) other)

if-turns : (test : CExpr) (block : List CStmt) (other : Option (List CStmt)) → turns_in
    (c_if test block other) ≡ turns_in_block block ++ turns_of_other other
if-turns test block other =
    by_form (statement.If test block other) (CStmtKind-F.If test block other) (turns_in_block block ++ turns_of_other other)
    (statement.rolls-If test block other) (by other)
  where
    by : (other : Option (List CStmt)) → turns_in (what (CStmtKind-F.If test block other)) ≡ turns_in_block block ++ turns_of_other other
    by None = rw (fold-roll-CStmt, fold-roll-CStmtKind) refl
    by (Some rest) = rw (fold-roll-CStmt, fold-roll-CStmtKind) refl

loop-turns : (turn : Text) (test : CExpr) (body : List CStmt) → turns_in (c_loop turn test body) ≡ (turn, nowhere) ∷ turns_in_block body
loop-turns turn test body =
    by_form (statement.Loop turn test body) (CStmtKind-F.Loop turn test body) ((turn, nowhere) ∷ turns_in_block body)
    (statement.rolls-Loop turn test body) (rw (fold-roll-CStmt, fold-roll-CStmtKind) refl)

pub block-turns : (first second : List CStmt) → turns_in_block (first ++ second) ≡ turns_in_block first ++ turns_in_block second
block-turns [] second = refl
block-turns (s ∷ first) second =
    ap (λ rest. turns_in s ++ rest) (block-turns first second) ∙ sym (append_assoc (turns_in s) (turns_in_block first) (turns_in_block second))

-- ---- turns in the order of their numbers

-- so many from a number on
abbrev pub numbered : ℕ → ℕ → LoopCounters
numbered t zero = []
numbered t (suc n) = (turn_name t, nowhere) ∷ numbered (t + 1) n

numbered-append : (t m n : ℕ) → numbered t (m + n) ≡ numbered t m ++ numbered (t + m) n
numbered-append t zero n =
    let same : t ≡ t + 0 = omega arith in let none : 0 + n ≡ n = omega arith in ap (numbered t) none ∙ ap (λ t. numbered t n) same
numbered-append t (suc m) n =
    let long : suc m + n ≡ suc (m + n) = omega arith in
    let later : (t + 1) + m ≡ t + suc m = omega arith in
    ap (numbered t) long
    ∙ ap (λ rest. (turn_name t, nowhere) ∷ rest) (numbered-append (t + 1) m n ∙ ap (λ k. numbered (t + 1) m ++ numbered k n) later)

-- C counts the turns of its loops by the next numbers in order
pub record Counted (codes : Codes) : Type 0 where
  pub count : Free → ℕ
  pub after : (free : Free) → (codes free).free.turns ≡ free.turns + count free
  pub are : (free : Free) → turns_in_block (codes free).code ≡ numbered free.turns (count free)

-- two parts, the second of which begins where the first ends
both_numbered : (t m n : ℕ) (first second : LoopCounters) (u : ℕ) → u ≡ t + m → first ≡ numbered t m
    → second ≡ numbered u n → first ++ second ≡ numbered t (m + n)
both_numbered t m n first second u is one other =
    (λ i. one i ++ other i) ∙ ap (λ u. numbered t m ++ numbered u n) is ∙ sym (numbered-append t m n)

only_counted : (code : List CStmt) → turns_in_block code ≡ [] → Counted (λ free. record { code = code; free = free })
only_counted code none = record { count = λ free. 0; after = λ free. omega arith; are = λ free. none }

nothing_counted : Counted (block_codes [])
nothing_counted = record { count = λ free. 0; after = λ free. omega arith; are = λ free. refl }

then_counted : (codes : Codes) (rest : List Codes) → Counted codes → Counted (block_codes rest) → Counted (block_codes (codes ∷ rest))
then_counted codes rest one more = record {
  count = λ free. one.count free + more.count (codes free).free;
  after = λ free. let a = one.after free in let b = more.after (codes free).free in omega (arith, a, b);
  are = λ free.
      block-turns (codes free).code (block_codes rest (codes free).free).code
      ∙ both_numbered free.turns (one.count free) (more.count (codes free).free) (turns_in_block (codes free).code)
      (turns_in_block (block_codes rest (codes free).free).code) (codes free).free.turns (one.after free) (one.are free) (more.are (codes free).free);
}

-- ---- choices

abbrev pub AllCounted : List ArmCodes → Type 0
AllCounted [] = Unit {0}
AllCounted (arm ∷ arms) = Counted arm.body × AllCounted arms

pub one-turns : (s : CStmt) (turns : LoopCounters) → turns_in s ≡ turns → turns_in_block (s ∷ []) ≡ turns
one-turns s turns is = append-nil (turns_in s) ∙ is

after_set : (place : CPlace) (value : CExpr) (code : List CStmt) → turns_in_block (c_set place value ∷ code) ≡ turns_in_block code
after_set place value code = ap (λ turns. turns ++ turns_in_block code) (set-turns place value)

else-turns : (code : List CStmt) → turns_of_other (else_code code) ≡ turns_in_block code
else-turns [] = refl
else-turns (s ∷ rest) = refl

module _ (flag : ℕ) where
  abbrev taken_count : (arms : List ArmCodes) → AllCounted arms → Free → ℕ
  taken_count [] all free = 0
  taken_count (arm ∷ arms) all free = all.0.count free + taken_count arms all.1 (arm.body free).free

  taken_after : (arms : List ArmCodes) (all : AllCounted arms) (free : Free)
      → (arms_taken flag arms free).free.turns ≡ free.turns + taken_count arms all free
  taken_after [] all free = omega arith
  taken_after (arm ∷ arms) all free =
      let a = all.0.after free in let b = taken_after arms all.1 (arm.body free).free in omega (arith, a, b)

  taken_are : (arms : List ArmCodes) (all : AllCounted arms) (free : Free) →
      turns_in_block (arms_taken flag arms free).code ≡ numbered free.turns (taken_count arms all free)
  taken_are [] all free = refl
  taken_are (arm ∷ arms) all free =
      both_numbered free.turns (all.0.count free) (taken_count arms all.1 (arm.body free).free) _
      (turns_in_block (arms_taken flag arms (arm.body free).free).code)
      (arm.body free).free.turns (all.0.after free)
      (if-turns _ _ None ∙ append-nil _ ∙ after_set _ _ (arm.body free).code ∙ all.0.are free) (taken_are arms all.1 (arm.body free).free)

untaken-turns : (flag : ℕ) (code : List CStmt) → turns_in_block (untaken_code flag code) ≡ turns_in_block code
untaken-turns flag [] = refl
untaken-turns flag (s ∷ rest) = one-turns _ (turns_in_block (s ∷ rest)) (if-turns _ (s ∷ rest) None ∙ append-nil (turns_in_block (s ∷ rest)))

flagged_counted : (arms : List ArmCodes) (other : Codes) → AllCounted arms → Counted other → Counted (flagged_code arms other)
flagged_counted arms other all one = record {
  count = λ free. taken_count free.flags arms all (flag_taken free) + one.count (arms_taken free.flags arms (flag_taken free)).free;
  after = λ free.
      let a = taken_after free.flags arms all (flag_taken free) in
      let b = one.after (arms_taken free.flags arms (flag_taken free)).free in
      omega (arith, a, b);
  are = λ free.
      let inner : Coded = arms_taken free.flags arms (flag_taken free) in
      after_set _ _ (inner.code ++ untaken_code free.flags (other inner.free).code)
      ∙ block-turns inner.code (untaken_code free.flags (other inner.free).code)
      ∙ both_numbered free.turns (taken_count free.flags arms all (flag_taken free)) (one.count inner.free) (turns_in_block inner.code)
      (turns_in_block (untaken_code free.flags (other inner.free).code)) inner.free.turns (taken_after free.flags arms all (flag_taken free))
      (taken_are free.flags arms all (flag_taken free)) (untaken-turns free.flags (other inner.free).code ∙ one.are inner.free);
}

either_counted : (arm : ArmCodes) (other : Codes) → Counted arm.body → Counted other → Counted (either_code arm other)
either_counted arm other first one = record {
  count = λ free. first.count free + one.count (arm.body free).free;
  after = λ free. let a = first.after free in let b = one.after (arm.body free).free in omega (arith, a, b);
  are = λ free.
      one-turns _ _ (if-turns _ (arm.body free).code (else_code (other (arm.body free).free).code)
      ∙ ap (λ turns. turns_in_block (arm.body free).code ++ turns) (else-turns (other (arm.body free).free).code))
      ∙ both_numbered free.turns (first.count free) (one.count (arm.body free).free) (turns_in_block (arm.body free).code)
      (turns_in_block (other (arm.body free).free).code) (arm.body free).free.turns (first.after free) (first.are free) (one.are (arm.body free).free);
}

pub choice_counted : (arms : List ArmCodes) (other : Codes) → AllCounted arms → Counted other → Counted (choice_code arms other)
choice_counted [] other all one =
    let f = flagged_counted [] other all one in record { count = f.count; after = f.after; are = f.are }
choice_counted (arm ∷ []) other all one =
    let e = either_counted arm other all.0 one in record { count = e.count; after = e.after; are = e.are }
choice_counted (arm ∷ second ∷ []) other all one =
    let e = either_counted arm (either_code second other) all.0 (either_counted second other all.1.0 one) in
    record { count = e.count; after = e.after; are = e.are }
choice_counted (arm ∷ second ∷ third ∷ rest) other all one =
    let f = flagged_counted (arm ∷ second ∷ third ∷ rest) other all one in record { count = f.count; after = f.after; are = f.are }

-- ---- loops

pub loop_counted : (test : CExpr) (last : List CStmt) (codes : Codes) → turns_in_block last ≡ [] → Counted codes →
    Counted (λ free. loop_code free.turns test last (codes (turn_taken free)))
loop_counted test last codes none one = record {
  count = λ free. suc (one.count (turn_taken free));
  after = λ free. let a = one.after (turn_taken free) in omega (arith, a);
  are = λ free.
      let body : Coded = codes (turn_taken free) in
      one-turns _ _ (loop-turns (turn_name free.turns) test (body.code ++ last)
      ∙ ap (λ turns. (turn_name free.turns, nowhere) ∷ turns)
      (block-turns body.code last ∙ ap (λ turns. turns_in_block body.code ++ turns) none ∙ append-nil
      (turns_in_block body.code) ∙ one.are (turn_taken free)));
}

-- ---- names that differ

-- turns whose names are in no table are named once
module _ where
  later_differs : (j k : ℕ) → j < k → k < 2 ^ 64 → bytes_eq (turn_name j) (turn_name k) ≡ false
  later_differs j k less small = by (bytes_eq (turn_name j) (turn_name k)) refl
    where
      by : (b : Bool) → bytes_eq (turn_name j) (turn_name k) ≡ b → b ≡ false
      by false is = refl
      by true is =
          let text : turn_name j ≡ turn_name k = (bytes_eq-Decides (turn_name j) (turn_name k)).0 is in
          let low : j < 2 ^ 64 = omega (arith, less, small) in
          let equal : j ≡ k = decimal_injective j k low small (ap (drop 1) text) in
          absurd (omega (arith, equal, less))

  absent : {A : Type 0} (o : Option A) → o ≡ None → is_none o ≡ true
  absent None is = refl
  absent (Some x) is = absurd (cc)

  pub none_repeated : (names : Table (Unit {0})) (t n : ℕ) → t + n ≤ 2 ^ 64 → ((k : ℕ) → t ≤ k → k < t + n → names (turn_name k) ≡ None) →
      repeated names (numbered t n) ≡ []
  none_repeated names t zero few new = refl
  none_repeated names t (suc n) few new =
      let first : unless (is_none (names (turn_name t))) distinct_names nowhere ≡ [] =
      kept (is_none (names (turn_name t))) distinct_names nowhere (absent (names (turn_name t)) (new t (omega arith) (omega arith))) in
      let room : (t + 1) + n ≤ 2 ^ 64 = omega (arith, few) in
      (λ i. first i ++ none_repeated (with_entry names (turn_name t) tt) (t + 1) n room later i)
    where
      later : (k : ℕ) → t + 1 ≤ k → k < (t + 1) + n → with_entry names (turn_name t) tt (turn_name k) ≡ None
      later k more less =
          let low : t ≤ k = omega (arith, more) in
          let high : k < t + suc n = omega (arith, less) in
          let before : t < k = omega (arith, more) in
          let small : k < 2 ^ 64 = omega (arith, few, high) in
          (λ i. option_or (new k low high i) (if later_differs t k before small i then Some tt else None))

-- ---- acts

module _ (site : TypingContext) where
  zeroed-turns : (place : CPlace) (o : Option Ty) → turns_in_block (zeroed site.structs place o) ≡ []
  zeroed-turns place None = refl
  zeroed-turns place (Some ty) = by (scalar_in ty)
    where
      by : (s : Option ScalarType) → turns_in_block (c_zeroed site.structs place ty s ∷ []) ≡ []
      by (Some s) = one-turns _ [] (set-turns place _)
      by None = one-turns _ [] (clear-turns place _)

  initial-turns : (k : ℕ) (initial : Option Expr) → turns_in_block (initial_code site k initial) ≡ []
  initial-turns k (Some e) = one-turns _ [] (set-turns _ _)
  initial-turns k None = zeroed-turns (place_in site k []) (type_at (var_at site k))

  declared-turns : (k : ℕ) (initial : Option Expr) → turns_in_block (declared_code site [] k initial) ≡ []
  declared-turns k initial =
      block-turns (initial_code site k initial) [] ∙ ap (λ turns. turns ++ []) (initial-turns k initial)

  assigned-turns : (path : Path) (e : Expr) → turns_in_block (assigned_code site path e) ≡ []
  assigned-turns path e = by (sets_itself path e)
    where
      by : (itself : Bool) → turns_in_block (if itself then [] else c_set (stands site path).place (code_made site e) ∷ []) ≡ []
      by true = refl
      by false = one-turns _ [] (set-turns _ _)

  abbrev S : Stmt → Type 0
  S s = Counted (codes_of site s)

  all_counted : (body : List Stmt) → Each S body → Counted (block_codes (map (codes_of site) body))
  all_counted [] each = nothing_counted
  all_counted (s ∷ body) each =
      then_counted (codes_of site s) (map (codes_of site) body) (All-head S s body each) (all_counted body (All-tail S s body each))

  abbrev OfArm : Arm → Type 0
  OfArm arm = Each S (out-Arm arm).body

  arm_counted : (arm : Arm) → OfArm arm → Counted (codes_of_arm site arm).body
  arm_counted arm each =
      subst (λ (codes : ArmCodes). Counted codes.body)
      (sym (fold_out-Arm Codes ArmCodes Codes Codes (kind_codes site) (arm_codes site) branch_codes stmt_codes arm)) (all_counted (out-Arm arm).body each)

  arms_counted : (arms : List Arm) → EachArm S arms → AllCounted (map (codes_of_arm site) arms)
  arms_counted [] each = tt
  arms_counted (arm ∷ arms) each =
      (arm_counted arm (All-head OfArm arm arms each), arms_counted arms (All-tail OfArm arm arms each))

  as_codes : (a b : Codes) → a ≡ b → Counted b → Counted a
  as_codes a b is one = subst Counted (sym is) one

  break_code-turns : (test : CExpr) → turns_in_block (break_code test) ≡ []
  break_code-turns test = one-turns _ [] (if-turns test (c_break ∷ []) None ∙ append-nil _ ∙ one-turns c_break [] break-turns)

  module _ (place : Place) where
    declare_codes : (k : ℕ) (initial : Option Expr) → codes_of site (stmt place (StmtKind-F.Declare k initial))
        ≡ (λ free. record { code = declared_code site [] k initial; free = free })
    declare_codes k initial = rw (fold-roll-Stmt, fold-roll-StmtKind) refl

    assign_codes : (path : Path) (e : Expr) → codes_of site (stmt place (StmtKind-F.Assign path e))
        ≡ (λ free. record { code = assigned_code site path e; free = free })
    assign_codes path e = rw (fold-roll-Stmt, fold-roll-StmtKind) refl

    call_codes : (f : ℕ) (inputs : List Expr) (outputs : List Path) → codes_of site (stmt place (StmtKind-F.Call f inputs outputs))
        ≡ (λ free. record { code = c_calling (call_made site f inputs outputs) ∷ []; free = free })
    call_codes f inputs outputs = rw (fold-roll-Stmt, fold-roll-StmtKind) refl

    await_codes : (e : Expr) → codes_of site (stmt place (StmtKind-F.Await e)) ≡ (λ free. record { code = []; free = free })
    await_codes e = rw (fold-roll-Stmt, fold-roll-StmtKind) refl

    run_codes : (target : Option Path) (a : ℕ) (inputs : List Expr) (outputs : List Path) →
        codes_of site (stmt place (StmtKind-F.Run target a inputs outputs)) ≡ (λ free. record { code = []; free = free })
    run_codes target a inputs outputs = rw (fold-roll-Stmt, fold-roll-StmtKind) refl

    if_codes : (arms : List Arm) (other : List Stmt) → codes_of site (stmt place (StmtKind-F.If arms other))
        ≡ choice_code (map (codes_of_arm site) arms) (block_codes (map (codes_of site) other))
    if_codes arms other = rw (fold-roll-Stmt, fold-roll-StmtKind) refl

    cobegin_codes : (branches : List Branch) → codes_of site (stmt place (StmtKind-F.Cobegin branches)) ≡ (λ free. record { code = []; free = free })
    cobegin_codes branches = rw (fold-roll-Stmt, fold-roll-StmtKind) refl

    when_codes : (guard : Guard) (e : Expr) (body : List Stmt) → codes_of site (stmt place (StmtKind-F.When guard e body))
        ≡ (λ free. record { code = []; free = free })
    when_codes guard e body = rw (fold-roll-Stmt, fold-roll-StmtKind) refl

    repeat_codes : (body : List Stmt) → codes_of site (stmt place (StmtKind-F.Repeat body))
        ≡ (λ free. loop_code free.turns (c_truth true) [] (block_codes (map (codes_of site) body) (turn_taken free)))
    repeat_codes body = rw (fold-roll-Stmt, fold-roll-StmtKind) refl

    until_codes : (body : List Stmt) (e : Expr) → codes_of site (stmt place (StmtKind-F.Until body e))
        ≡ (λ free. loop_code free.turns (c_truth true) (break_code (code_made site e)) (block_codes (map (codes_of site) body) (turn_taken free)))
    until_codes body e = rw (fold-roll-Stmt, fold-roll-StmtKind) refl

    while_codes : (e : Expr) (body : List Stmt) → codes_of site (stmt place (StmtKind-F.While e body))
        ≡ (λ free. loop_code free.turns (code_made site e) [] (block_codes (map (codes_of site) body) (turn_taken free)))
    while_codes e body = rw (fold-roll-Stmt, fold-roll-StmtKind) refl

    return_codes : (e : Option Expr) → codes_of site (stmt place (StmtKind-F.Return e))
        ≡ (λ free. record { code = c_return (option_map (code_made site) e) ∷ []; free = free })
    return_codes e = rw (fold-roll-Stmt, fold-roll-StmtKind) refl

  cases : Cases S
  cases = record {
    declare = λ place k initial. as_codes _ _ (declare_codes place k initial) (only_counted (declared_code site [] k initial) (declared-turns k initial));
    assign = λ place path e. as_codes _ _ (assign_codes place path e) (only_counted _ (assigned-turns path e));
    call = λ place f inputs outputs. as_codes _ _ (call_codes place f inputs outputs) (only_counted _ (one-turns _ [] (call-turns _)));
    await = λ place e. as_codes _ _ (await_codes place e) (only_counted [] refl);
    run = λ place target a inputs outputs. as_codes _ _ (run_codes place target a inputs outputs) (only_counted [] refl);
    branching = λ place arms other each others.
        as_codes _ _ (if_codes place arms other)
        (choice_counted (map (codes_of_arm site) arms) (block_codes (map (codes_of site) other)) (arms_counted arms each) (all_counted other others));
    cobegin = λ place branches each. as_codes _ _ (cobegin_codes place branches) (only_counted [] refl);
    guarded = λ place guard e body each. as_codes _ _ (when_codes place guard e body) (only_counted [] refl);
    repeat = λ place body each.
        as_codes _ _ (repeat_codes place body) (loop_counted (c_truth true) [] (block_codes (map (codes_of site) body)) refl (all_counted body each));
    until = λ place body e each.
        as_codes _ _ (until_codes place body e)
        (loop_counted (c_truth true) (break_code (code_made site e)) (block_codes (map (codes_of site) body)) (break_code-turns (code_made site e))
        (all_counted body each));
    while = λ place e body each.
        as_codes _ _ (while_codes place e body) (loop_counted (code_made site e) [] (block_codes (map (codes_of site) body)) refl (all_counted body each));
    returns = λ place e. as_codes _ _ (return_codes place e) (only_counted _ (one-turns _ [] (return-turns _)));
  }

  -- the loops of a body are counted by the next numbers in order
  pub body_counted : (body : List Stmt) → Counted (block_codes (map (codes_of site) body))
  body_counted body = all_counted body (λ k d within. induct S cases _)
