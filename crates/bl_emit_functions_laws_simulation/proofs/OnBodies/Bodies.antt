-- The C of a function's statements does what the statements do, where that of its expressions and acts does.
use Rattle.std.proofs.Common.{◌≡◌, ℕ, ◌^◌, ◌<◌, ◌≤◌, ℤ, Bool, true, false, ◌&&◌, List, [], ◌∷◌, ◌++◌, map}
use Rattle.std.proofs.Common.{Option, Some, None, refl, sym, ap, ◌∙◌, subst, arith}
use Rattle.std.proofs.lemmas.List.Elements.{All-cons, All-head, All-nil, All-tail}
use Rattle.std.proofs.lemmas.List.{append-nil}
use Rattle.std.specs.Prelude.{option_map, unwrap_or}
use Rattle.bl_tree.proofs.Basics.{and_first, and_second, both_empty}
use Rattle.bl_tree.specs.declared.c.CExpr.{CExpr}
use Rattle.bl_tree.specs.declared.c.CStmt.{CStmt}
use Rattle.bl_tree.specs.declared.scalar.Scalar.{Scalar as ScalarType}
use Rattle.bl_tree.specs.declared.tree.Arm.{Arm, fold-Arm, fold_out-Arm, out-Arm}
use Rattle.bl_tree.specs.declared.tree.Expr.{Expr}
use Rattle.bl_tree.specs.declared.tree.Stmt.{Stmt, fold-roll-Stmt}
use Rattle.bl_tree.specs.declared.tree.StmtKind.{fold-roll-StmtKind}
use Rattle.bl_tree.specs.declared.tree.StmtKind.TheOpen.{StmtKind-F}
use Rattle.bl_tree.specs.declared.value.Value.{Value}
use Rattle.bl_tree.specs.declared.place.Place.{Place}
use Rattle.bl_tree.specs.declared.tree.Path.{Path}
use Rattle.bl_tree.specs.declared.tree.Unit.{Unit as UnitDef}
use Rattle.bl_tree.specs.Reduce.{all_of, joined}
use Rattle.bl_tree.specs.Types.{scalar}
use Rattle.bl_tree.specs.Typing.{TypingContext, are_same, arm_fits, branch_fits, fits, is_activity, is_inhabited, is_truth, kind_fits, return_fits, run_fits}
use Rattle.bl_tree.specs.Typing.{stmt_fits, type_of}
use Rattle.bl_tree.specs.Numbers.{is_one}
use Rattle.bl_tree.proofs.StmtInduction.{Cases, Each, EachArm, induct, stmt}
use Rattle.bl_effects.specs.Rules.{Aliased, aliases_in, arm_aliases, branch_aliases, kind_aliases, stmt_aliases}
use Rattle.bl_eval.specs.Changes.{choice_of}
use Rattle.bl_eval.specs.declared.datum.Datum.{Datum}
use Rattle.bl_eval.specs.Functions.{Flow, GuardedBlock, StmtMeaning, condition, does, first_true_choice, flow_then, in_order, looped, most_turns, own}
use Rattle.bl_eval.specs.Functions.{returned, truth}
use Rattle.bl_eval.specs.Meaning.{Scope as Sees, meaning_of}
use Rattle.bl_eval.proofs.MeaningLemmas.{choice_out}
use Rattle.bl_ctext_semantics.specs.Course.{End, Outcome, following_end}
use Rattle.bl_ctext_semantics.specs.Memory.{CValue, Memory, scalar_number, set_at}
use Rattle.bl_ctext_semantics.specs.Meaning.{Scope, block_c, runs_c}
use Rattle.bl_emit_acts.specs.Acts.{call_made, c_calling, code_made, declared_code}
use Rattle.bl_emit_functions.specs.declared.coded.Free.{Free}
use Rattle.bl_emit_functions.specs.Statements.{ArmCodes, Codes, arm_codes, arms_taken, assigned_code, block_codes, branch_codes, break_code, choice_code}
use Rattle.bl_emit_functions.specs.Statements.{codes_of, codes_of_arm, either_code, else_code, flag_taken, flagged_code, kind_codes, loop_code, stmt_codes}
use Rattle.bl_emit_functions.specs.Statements.{turn_taken}
use Rattle.bl_emit_functions.specs.Trees.{c_break, c_if, c_loop, c_return, c_truth, turn_name}
use Rattle.bl_emit_functions_laws_simulation.proofs.OnBodies.Courses.{Chosen, EndsAt, Leaves, Numbers, Tests, TurnAt, TurnOver, Turns, alone_alike}
use Rattle.bl_emit_functions_laws_simulation.proofs.OnBodies.Courses.{alone_leaves}
use Rattle.bl_emit_functions_laws_simulation.proofs.OnBodies.Courses.{append_alike, break-runs, if_comes, if_leaves, loop_leaves, nothing_leaves, return_leaves}
use Rattle.bl_emit_functions_laws_simulation.proofs.OnBodies.Courses.{return_none_leaves, seq_leaves, since}
use Rattle.bl_emit_functions_laws_simulation.proofs.OnBodies.Flags.{ArmDoes, ArmsDo, arms_grow, flag_at, flag_in, flagged_leaves, truth-value}

module _ (number : Datum → ℤ) (Stand : List Value → Memory → Type 0) (Kept : ℕ → Memory → Memory → Type 0)
    (same : (k : ℕ) (m : Memory) → Kept k m m) (onward : (k : ℕ) (a b c : Memory) → Kept k a b → Kept k b c → Kept k a c)
    (fewer : (j k : ℕ) (a b : Memory) → j ≤ k → Kept k a b → Kept j a b) (scope : Scope) where
  abbrev At : ℕ → Memory → Option Flow → End → Memory → Type 0
  At = EndsAt number Stand Kept

  abbrev Does_so : ℕ → StmtMeaning → (Memory → Outcome Memory) → Type 0
  Does_so = Leaves number Stand Kept same onward fewer

  abbrev Asks : (List Value → Option Bool) → CExpr → Type 0
  Asks = Tests number Stand Kept same onward fewer scope

  abbrev Gives : (List Value → Option Datum) → CExpr → Type 0
  Gives = Numbers number Stand Kept same onward fewer scope

  abbrev Turning : ℕ → StmtMeaning → (List Value → Option Bool) → (Memory → Outcome Memory) → Type 0
  Turning = Turns number Stand Kept same onward fewer scope

  abbrev OverAt : ℕ → Memory → List Value → Option Bool → End → Memory → Type 0
  OverAt = TurnOver number Stand Kept same onward fewer scope

  abbrev TurningAt : ℕ → Memory → (List Value → Option Bool) → Option Flow → End → Memory → Type 0
  TurningAt = TurnAt number Stand Kept same onward fewer scope

  weaker : (j k : ℕ) (does : StmtMeaning) (run : Memory → Outcome Memory) → j ≤ k → Does_so k does run → Does_so j does run
  weaker j k does run less h now here stand =
      since number Stand Kept same onward fewer j k here here (does now) (run here).end (run here).memory (λ m kept. fewer j k here m less kept)
      (h now here stand)

  -- ---- turns

  plain_by : (k : ℕ) (here : Memory) (flow : Option Flow) (e : End) (m : Memory) → At k here flow e m → TurningAt k here (λ now. Some false) flow e m
  plain_by k here None e m h = h
  plain_by k here (Some (Flow.On now)) e m h = h
  plain_by k here (Some (Flow.Back now result)) e m h = h

  -- a turn of a loop that doesn't end behind its body
  pub plain_turn : (k : ℕ) (body : StmtMeaning) (code : List CStmt) → Does_so k body (block_c code scope) →
      Turning k body (λ now. Some false) (block_c (code ++ []) scope)
  plain_turn k body code h =
      subst (λ (code : List CStmt). Turning k body (λ now. Some false) (block_c code scope)) (sym (append-nil code))
      (λ now here stand. plain_by k here (body now) (block_c code scope here).end (block_c code scope here).memory (h now here stand))

  break_by : (k : ℕ) (here : Memory) (now : List Value) (m : Memory) → Stand now m → Kept k here m → (test : CExpr) (holds : Option Bool) →
      Chosen scope m (OverAt k here now holds) (c_break ∷ []) None holds
  break_by k here now m stand kept test None = refl
  break_by k here now m stand kept test (Some true) =
      let alone = alone_alike scope c_break m in
      let runs = break-runs scope m in (
        alone.0 ∙ ap (λ (o : Outcome Memory). o.end) runs,
        subst (Stand now) (sym (alone.1 ∙ ap (λ (o : Outcome Memory). o.memory) runs)) stand,
        subst (Kept k here) (sym (alone.1 ∙ ap (λ (o : Outcome Memory). o.memory) runs)) kept,
      )
  break_by k here now m stand kept test (Some false) = (refl, stand, kept)

  breaks_at : (k : ℕ) (here : Memory) (ends : List Value → Option Bool) (test : CExpr)
      → Asks ends test → (now : List Value) (m : Memory) → Stand now m →
      Kept k here m → OverAt k here now (ends now) (block_c (break_code test) scope m).end (block_c (break_code test) scope m).memory
  breaks_at k here ends test asks now m stand kept =
      let alone = alone_alike scope (c_if test (c_break ∷ []) None) m in
      let o = runs_c (c_if test (c_break ∷ []) None) scope m in
      subst (λ e. OverAt k here now (ends now) e (block_c (break_code test) scope m).memory) (sym alone.0)
      (subst (λ after. OverAt k here now (ends now) o.end after) (sym alone.1)
      (if_comes scope m (OverAt k here now (ends now)) test (c_break ∷ []) None
      (subst (Chosen scope m (OverAt k here now (ends now)) (c_break ∷ []) None) (sym (asks now m stand))
      (break_by k here now m stand kept test (ends now)))))

  until_by : (k : ℕ) (here : Memory) (ends : List Value → Option Bool) (test : CExpr) → Asks ends test → (flow : Option Flow) (n : ℕ) (e : End)
      (m : Memory) → At k here flow e m →
      (let o : Outcome Memory = following_end n m e (block_c (break_code test) scope) in TurningAt k here ends flow o.end o.memory)
  until_by k here ends test asks None n e m h = ap (λ (e : End). (following_end n m e (block_c (break_code test) scope)).end) h
  until_by k here ends test asks (Some (Flow.On now)) n e m h =
      subst (λ (e : End). let o : Outcome Memory = following_end n m e (block_c (break_code test) scope) in OverAt k here now (ends now) o.end o.memory)
      (sym h.0) (breaks_at k here ends test asks now m h.1 h.2)
  until_by k here ends test asks (Some (Flow.Back now result)) n e m h =
      subst (λ (e : End). let o : Outcome Memory = following_end n m e (block_c (break_code test) scope) in At k here
      (Some (Flow.Back now result)) o.end o.memory)
      (sym h.0) (refl, h.1, h.2)

  -- a turn of a loop that ends behind its body where a condition is true
  pub until_turn : (k : ℕ) (body : StmtMeaning) (ends : List Value → Option Bool) (code : List CStmt) (test : CExpr) → Does_so k body (block_c code scope) →
      Asks ends test → Turning k body ends (block_c (code ++ break_code test) scope)
  until_turn k body ends code test h asks now here stand =
      let o = block_c code scope here in
      let alike = append_alike scope code (break_code test) here in
      let p : Outcome Memory = following_end o.count o.memory o.end (block_c (break_code test) scope) in
      subst (λ e. TurningAt k here ends (body now) e (block_c (code ++ break_code test) scope here).memory) (sym alike.0)
      (subst (λ after. TurningAt k here ends (body now) p.end after) (sym alike.1)
      (until_by k here ends test asks (body now) o.count o.end o.memory (h now here stand)))

  -- ---- statements and the numbers in their names

  -- C does what a function's statements do, and takes numbers in order
  abbrev pub Good : StmtMeaning → Codes → Type 0
  Good does codes =
      (free : Free) → (free.flags ≤ (codes free).free.flags)
      × ((codes free).free.flags ≤ 2 ^ 64 → Does_so free.flags does (block_c (codes free).code scope))

  pub nothing_good : Good (λ now. Some (Flow.On now)) (block_codes [])
  nothing_good free = (omega arith, λ few. nothing_leaves number Stand Kept same onward fewer scope free.flags)

  pub then_good : (first second : StmtMeaning) (codes : Codes) (rest : List Codes) → Good first codes → Good second (block_codes rest) →
      Good (λ now. flow_then (first now) second) (block_codes (codes ∷ rest))
  then_good first second codes rest one other free =
      let a = one free in
      let b = other (codes free).free in (
        omega (arith, a.0, b.0),
        λ few. seq_leaves number Stand Kept same onward fewer scope free.flags (codes free).free.flags first second (codes free).code
            (block_codes rest (codes free).free).code a.0 (a.1 (omega (arith, b.0, few))) (b.1 few),
      )

  pub loop_good : (goes : List Value → Option Bool) (ends : List Value → Option Bool) (body : StmtMeaning) (codes : Codes) (test : CExpr) (last : List CStmt) →
      Asks goes test → Good body codes → ((free : Free) → (codes (turn_taken free)).free.flags ≤ 2 ^ 64 →
      Turning free.flags body ends (block_c ((codes (turn_taken free)).code ++ last) scope)) →
      Good (looped goes body ends most_turns) (λ free. loop_code free.turns test last (codes (turn_taken free)))
  loop_good goes ends body codes test last asks good turn free =
      let more = good (turn_taken free) in (
        omega (arith, more.0),
        λ few. alone_leaves number Stand Kept same onward fewer scope free.flags (looped goes body ends most_turns)
            (c_loop (turn_name free.turns) test ((codes (turn_taken free)).code ++ last))
            (loop_leaves number Stand Kept same onward fewer scope free.flags goes body ends (turn_name free.turns) test
            ((codes (turn_taken free)).code ++ last) asks (turn free few)),
      )

  else_same : (code : List CStmt) → unwrap_or (else_code code) [] ≡ code
  else_same [] = refl
  else_same (s ∷ rest) = refl

  module _ (kept_set : (j : ℕ) (m : Memory) (v : CValue) → j < 2 ^ 64 → Kept j m (set_at m (flag_at scope j) v))
      (flag_kept : (j k : ℕ) (a b : Memory) → j < k → Kept k a b → flag_in scope j b ≡ flag_in scope j a)
      (stand_set : (now : List Value) (m : Memory) (j : ℕ) (v : CValue) → Stand now m → Stand now (set_at m (flag_at scope j) v)) where
    abbrev AllDo : List ArmCodes → List GuardedBlock → Type 0
    AllDo = ArmsDo number Stand Kept same onward fewer scope kept_set flag_kept stand_set

    flagged_good : (arms : List ArmCodes) (choices : List GuardedBlock) (other : StmtMeaning) (codes : Codes) → AllDo arms choices → Good other codes →
        Good (first_true_choice choices other) (λ free. flagged_code arms codes free)
    flagged_good arms choices other codes all good free =
        let grown = arms_grow number Stand Kept same onward fewer scope kept_set flag_kept stand_set free.flags arms choices (flag_taken free) all in
        let more = good (arms_taken free.flags arms (flag_taken free)).free in (
          omega (arith, grown, more.0),
          λ few. flagged_leaves number Stand Kept same onward fewer scope kept_set flag_kept stand_set arms choices other codes free (λ free. (good free).0)
              (λ free. (good free).1) all (omega (arith, grown, more.0, few)) few,
        )

    abbrev OneDoes : ArmCodes → GuardedBlock → Type 0
    OneDoes = ArmDoes number Stand Kept same onward fewer scope kept_set flag_kept stand_set

    either_good : (arm : ArmCodes) (choice : GuardedBlock) (other : StmtMeaning) (codes : Codes) → OneDoes arm choice → Good other codes →
        Good (first_true_choice (choice ∷ []) other) (either_code arm codes)
    either_good arm choice other codes one good free =
        let body = one.1 free in
        let grown = one.2 free in
        let rest = good (arm.body free).free in
        let code = (codes (arm.body free).free).code in (
          omega (arith, grown, rest.0),
          λ few. alone_leaves number Stand Kept same onward fewer scope free.flags (first_true_choice (choice ∷ []) other)
              (c_if arm.test (arm.body free).code (else_code code))
              (if_leaves number Stand Kept same onward fewer scope free.flags choice.test choice.body other arm.test
              (arm.body free).code (else_code code) one.0 (body (omega (arith, rest.0, few)))
              (subst (λ (code : List CStmt). Does_so free.flags other (block_c code scope)) (sym (else_same code))
              (weaker free.flags (arm.body free).free.flags other (block_c code scope) grown (rest.1 few)))),
        )

    pub choice_good : (arms : List ArmCodes) (choices : List GuardedBlock) (other : StmtMeaning) (codes : Codes) → AllDo arms choices → Good other codes →
        Good (first_true_choice choices other) (choice_code arms codes)
    choice_good [] [] other codes all good free = flagged_good [] [] other codes all good free
    choice_good (arm ∷ []) (choice ∷ []) other codes all good free = either_good arm choice other codes all.0 good free
    choice_good (arm ∷ second ∷ []) (choice ∷ later ∷ []) other codes all good free =
        either_good arm choice (first_true_choice (later ∷ []) other) (either_code second codes) all.0
        (either_good second later other codes all.1.0 good) free
    choice_good (arm ∷ second ∷ third ∷ rest) choices other codes all good free =
        flagged_good (arm ∷ second ∷ third ∷ rest) choices other codes all good free
    choice_good [] (choice ∷ choices) other codes all good free = absurd all
    choice_good (arm ∷ []) [] other codes all good free = absurd all
    choice_good (arm ∷ []) (choice ∷ later ∷ choices) other codes all good free = absurd all.1
    choice_good (arm ∷ second ∷ []) [] other codes all good free = absurd all
    choice_good (arm ∷ second ∷ []) (choice ∷ []) other codes all good free = absurd all.1
    choice_good (arm ∷ second ∷ []) (choice ∷ later ∷ more ∷ choices) other codes all good free = absurd all.1.1

    -- ---- all statements

    module _ (site : TypingContext) (sees : Sees) (function : is_activity site.kind ≡ false)
        (tests : (e : Expr) → is_truth (type_of site e) ≡ true → Asks (truth sees e) (code_made site e))
        (numbers : (e : Expr) (s : ScalarType) → are_same (Some (scalar s)) (type_of site e) ≡ true →
        Gives (λ now. meaning_of sees e (own now)) (code_made site e))
        (declares : (place : Place) (k : ℕ) (initial : Option Expr) → fits site (stmt place (StmtKind-F.Declare k initial)) ≡ true → (n : ℕ) →
        Does_so n (does sees (stmt place (StmtKind-F.Declare k initial))) (block_c (declared_code site [] k initial) scope))
        (assigns : (place : Place) (path : Path) (e : Expr) → fits site (stmt place (StmtKind-F.Assign path e)) ≡ true → (n : ℕ) →
        Does_so n (does sees (stmt place (StmtKind-F.Assign path e))) (block_c (assigned_code site path e) scope))
        (calls : (place : Place) (f : ℕ) (inputs : List Expr) (outputs : List Path) →
        fits site (stmt place (StmtKind-F.Call f inputs outputs)) ≡ true → aliases_in
        (stmt place (StmtKind-F.Call f inputs outputs)) ≡ [] → (n : ℕ) →
        Does_so n (does sees (stmt place (StmtKind-F.Call f inputs outputs))) (block_c (c_calling (call_made site f inputs outputs) ∷ []) scope)) where
      abbrev S : Stmt → Type 0
      S s = fits site s ≡ true → aliases_in s ≡ [] → Good (does sees s) (codes_of site s)

      pub block_good : (body : List Stmt) → Each S body → all_of (map (fits site) body) ≡ true → joined (map aliases_in body) ≡ [] →
          Good (in_order (map (does sees) body)) (block_codes (map (codes_of site) body))
      block_good [] each fitted apart = nothing_good
      block_good (s ∷ body) each fitted apart =
          let none = both_empty (aliases_in s) (joined (map aliases_in body)) apart in
          then_good (does sees s) (in_order (map (does sees) body)) (codes_of site s) (map (codes_of site) body)
          (All-head S s body each (and_first (fits site s) (all_of (map (fits site) body)) fitted) none.0)
          (block_good body (All-tail S s body each) (and_second (fits site s) (all_of (map (fits site) body)) fitted) none.1)

      abbrev arm_fitted : Arm → Bool
      arm_fitted = fold-Arm Bool Bool Bool Bool (kind_fits site) (arm_fits site) branch_fits stmt_fits

      abbrev aliased_in_arm : Arm → List Aliased
      aliased_in_arm = fold-Arm (List Aliased) (List Aliased) (List Aliased) (List Aliased) kind_aliases arm_aliases branch_aliases stmt_aliases

      arm_out : (arm : Arm) → codes_of_arm site arm
          ≡ record { test = code_made site (out-Arm arm).test; body = block_codes (map (codes_of site) (out-Arm arm).body) }
      arm_out arm = fold_out-Arm Codes ArmCodes Codes Codes (kind_codes site) (arm_codes site) branch_codes stmt_codes arm

      arm_does_so : (arm : Arm) → Each S (out-Arm arm).body → arm_fitted arm ≡ true → aliased_in_arm arm ≡ [] →
          OneDoes (codes_of_arm site arm) (choice_of sees arm)
      arm_does_so arm each fitted apart =
          let fits_so = sym (fold_out-Arm Bool Bool Bool Bool (kind_fits site) (arm_fits site) branch_fits stmt_fits arm) ∙ fitted in
          let none = sym (fold_out-Arm (List Aliased) (List Aliased) (List Aliased)
          (List Aliased) kind_aliases arm_aliases branch_aliases stmt_aliases arm) ∙ apart in
          let test = and_first (is_truth (type_of site (out-Arm arm).test)) (all_of (map (fits site) (out-Arm arm).body)) fits_so in
          let body = and_second (is_truth (type_of site (out-Arm arm).test)) (all_of (map (fits site) (out-Arm arm).body)) fits_so in
          let good = block_good (out-Arm arm).body each body none in
          subst (λ (codes : ArmCodes). OneDoes codes (choice_of sees arm)) (sym (arm_out arm))
          (subst (λ (choice : GuardedBlock). OneDoes (record {
            test = code_made site (out-Arm arm).test;
            body = block_codes
                (map (codes_of site) (out-Arm arm).body);
          })
          choice) (sym (choice_out sees arm))
          (tests (out-Arm arm).test test, (λ free. (good free).1), (λ free. (good free).0)))

      abbrev OfArm : Arm → Type 0
      OfArm arm = Each S (out-Arm arm).body

      arms_do : (arms : List Arm) → EachArm S arms → all_of (map arm_fitted arms) ≡ true → joined (map aliased_in_arm arms) ≡ [] →
          AllDo (map (codes_of_arm site) arms) (map (choice_of sees) arms)
      arms_do [] each fitted apart = tt
      arms_do (arm ∷ arms) each fitted apart =
          let none = both_empty (aliased_in_arm arm) (joined (map aliased_in_arm arms)) apart in (
            arm_does_so arm (All-head OfArm arm arms each) (and_first (arm_fitted arm) (all_of (map arm_fitted arms)) fitted) none.0,
            arms_do arms (All-tail OfArm arm arms each) (and_second (arm_fitted arm) (all_of (map arm_fitted arms)) fitted) none.1,
          )

      only_good : (does : StmtMeaning) (code : List CStmt) → ((n : ℕ) → Does_so n does (block_c code scope))
          → Good does (λ free. record { code = code; free = free })
      only_good does code h free = (omega arith, λ few. h free.flags)

      true_asks : Asks (condition sees None true) (c_truth true)
      true_asks now here stand = ap (λ c. option_map (λ v. is_one (scalar_number v)) c.answer) (truth-value scope here true)

      return_good : (e : Option Expr) (result : Option ScalarType) → return_fits site e result ≡ true →
          Good (returned sees e) (λ free. record { code = c_return (option_map (code_made site) e) ∷ []; free = free })
      return_good (Some e) (Some s) fitted =
          only_good (returned sees (Some e)) (c_return (Some (code_made site e)) ∷ [])
          (λ n. alone_leaves number Stand Kept same onward fewer scope n (returned sees (Some e)) (c_return (Some (code_made site e)))
          (return_leaves number Stand Kept same onward fewer scope n (λ now. meaning_of sees e (own now)) (code_made site e) (numbers e s fitted)))
      return_good (Some e) None fitted = absurd (cc)
      return_good None (Some s) fitted = absurd (cc)
      return_good None None fitted =
          only_good (returned sees None) (c_return None ∷ [])
          (λ n. alone_leaves number Stand Kept same onward fewer scope n (returned sees None) (c_return None)
          (return_none_leaves number Stand Kept same onward fewer scope n))

      no_activity : (b : Bool) → (is_activity site.kind && b) ≡ true → ⊥
      no_activity b h = let no = sym (and_first (is_activity site.kind) b h) ∙ function in cc

      no_run : (target : Option Path) (inputs : List Expr) (outputs : List Path) (callee : Option UnitDef)
          → run_fits site target inputs outputs callee ≡ true → ⊥
      no_run target inputs outputs None h = cc
      no_run target inputs outputs (Some callee) h = no_activity _ (and_first _ _ h)

      both_are : (d e : StmtMeaning) (a b : Codes) → d ≡ e → a ≡ b → Good e b → Good d a
      both_are d e a b does_is codes_is good = subst (λ d. Good d a) (sym does_is) (subst (λ a. Good e a) (sym codes_is) good)

      module _ (place : Place) where
        if_codes : (arms : List Arm) (other : List Stmt) → codes_of site (stmt place (StmtKind-F.If arms other))
            ≡ choice_code (map (codes_of_arm site) arms) (block_codes (map (codes_of site) other))
        if_codes arms other = rw (fold-roll-Stmt, fold-roll-StmtKind) refl

        if_does : (arms : List Arm) (other : List Stmt) → does sees (stmt place (StmtKind-F.If arms other))
            ≡ first_true_choice (map (choice_of sees) arms) (in_order (map (does sees) other))
        if_does arms other = rw (fold-roll-Stmt, fold-roll-StmtKind) refl

        repeat_codes : (body : List Stmt) → codes_of site (stmt place (StmtKind-F.Repeat body))
            ≡ (λ free. loop_code free.turns (c_truth true) [] (block_codes (map (codes_of site) body) (turn_taken free)))
        repeat_codes body = rw (fold-roll-Stmt, fold-roll-StmtKind) refl

        repeat_does : (body : List Stmt) → does sees (stmt place (StmtKind-F.Repeat body))
            ≡ looped (condition sees None true) (in_order (map (does sees) body)) (condition sees None false) most_turns
        repeat_does body = rw (fold-roll-Stmt, fold-roll-StmtKind) refl

        until_codes : (body : List Stmt) (e : Expr) → codes_of site (stmt place (StmtKind-F.Until body e))
            ≡ (λ free. loop_code free.turns (c_truth true) (break_code (code_made site e)) (block_codes (map (codes_of site) body) (turn_taken free)))
        until_codes body e = rw (fold-roll-Stmt, fold-roll-StmtKind) refl

        until_does : (body : List Stmt) (e : Expr) → does sees (stmt place (StmtKind-F.Until body e))
            ≡ looped (condition sees None true) (in_order (map (does sees) body)) (condition sees (Some e) false) most_turns
        until_does body e = rw (fold-roll-Stmt, fold-roll-StmtKind) refl

        while_codes : (e : Expr) (body : List Stmt) → codes_of site (stmt place (StmtKind-F.While e body))
            ≡ (λ free. loop_code free.turns (code_made site e) [] (block_codes (map (codes_of site) body) (turn_taken free)))
        while_codes e body = rw (fold-roll-Stmt, fold-roll-StmtKind) refl

        while_does : (e : Expr) (body : List Stmt) → does sees (stmt place (StmtKind-F.While e body))
            ≡ looped (condition sees (Some e) true) (in_order (map (does sees) body)) (condition sees None false) most_turns
        while_does e body = rw (fold-roll-Stmt, fold-roll-StmtKind) refl

        return_codes : (e : Option Expr) → codes_of site (stmt place (StmtKind-F.Return e))
            ≡ (λ free. record { code = c_return (option_map (code_made site) e) ∷ []; free = free })
        return_codes e = rw (fold-roll-Stmt, fold-roll-StmtKind) refl

        return_does : (e : Option Expr) → does sees (stmt place (StmtKind-F.Return e)) ≡ returned sees e
        return_does e = rw (fold-roll-Stmt, fold-roll-StmtKind) refl

      cases : Cases S
      cases = record {
        declare = λ place k initial fitted apart free. rw (fold-roll-Stmt, fold-roll-StmtKind)
            (omega arith, λ few. declares place k initial fitted free.flags);
        assign = λ place path e fitted apart free. rw (fold-roll-Stmt, fold-roll-StmtKind) (omega arith, λ few. assigns place path e fitted free.flags);
        call = λ place f inputs outputs fitted apart free. rw (fold-roll-Stmt, fold-roll-StmtKind)
            (omega arith, λ few. calls place f inputs outputs fitted apart free.flags);
        await = λ place e fitted apart. absurd (no_activity _ (rw (fold-roll-Stmt, fold-roll-StmtKind) at fitted));
        run = λ place target a inputs outputs fitted apart. absurd (no_run _ _ _ _ (rw (fold-roll-Stmt, fold-roll-StmtKind) at fitted));
        branching = λ place arms other each others fitted apart.
            let both = and_second (is_inhabited (map arm_fitted arms)) (all_of (map arm_fitted arms) && all_of (map (fits site) other))
            (rw (fold-roll-Stmt, fold-roll-StmtKind) at fitted) in
            let none = both_empty (joined (map aliased_in_arm arms)) (joined (map aliases_in other)) (rw (fold-roll-Stmt, fold-roll-StmtKind) at apart) in
            both_are _ _ _ _ (if_does place arms other) (if_codes place arms other)
            (choice_good (map (codes_of_arm site) arms) (map (choice_of sees) arms) (in_order (map (does sees) other)) (block_codes (map (codes_of site) other))
            (arms_do arms each (and_first (all_of (map arm_fitted arms)) (all_of (map (fits site) other)) both) none.0)
            (block_good other others (and_second (all_of (map arm_fitted arms)) (all_of (map (fits site) other)) both) none.1));
        cobegin = λ place branches each fitted apart. absurd (no_activity _ (rw (fold-roll-Stmt, fold-roll-StmtKind) at fitted));
        guarded = λ place guard e body each fitted apart. absurd (no_activity _ (rw (fold-roll-Stmt, fold-roll-StmtKind) at fitted));
        repeat = λ place body each fitted apart.
            let good = block_good body each (rw (fold-roll-Stmt, fold-roll-StmtKind) at fitted) (rw (fold-roll-Stmt, fold-roll-StmtKind) at apart) in
            both_are _ _ _ _ (repeat_does place body) (repeat_codes place body)
            (loop_good (condition sees None true) (condition sees None false) (in_order (map (does sees) body))
            (block_codes (map (codes_of site) body)) (c_truth true) []
            true_asks good (λ free few. plain_turn free.flags (in_order (map (does sees) body)) (block_codes (map (codes_of site) body) (turn_taken free)).code
            ((good (turn_taken free)).1 few)));
        until = λ place body e each fitted apart.
            let parts = rw (fold-roll-Stmt, fold-roll-StmtKind) at fitted in
            let good = block_good body each (and_first (all_of (map (fits site) body)) (is_truth (type_of site e)) parts)
            (rw (fold-roll-Stmt, fold-roll-StmtKind) at apart) in
            both_are _ _ _ _ (until_does place body e) (until_codes place body e)
            (loop_good (condition sees None true) (condition sees (Some e) false) (in_order (map (does sees) body)) (block_codes (map (codes_of site) body))
            (c_truth true) (break_code (code_made site e)) true_asks good
            (λ free few. until_turn free.flags (in_order (map (does sees) body)) (truth sees e) (block_codes (map (codes_of site) body) (turn_taken free)).code
            (code_made site e) ((good (turn_taken free)).1 few) (tests e (and_second (all_of (map (fits site) body)) (is_truth (type_of site e)) parts))));
        while = λ place e body each fitted apart.
            let parts = rw (fold-roll-Stmt, fold-roll-StmtKind) at fitted in
            let good = block_good body each (and_second (is_truth (type_of site e)) (all_of (map (fits site) body)) parts)
            (rw (fold-roll-Stmt, fold-roll-StmtKind) at apart) in
            both_are _ _ _ _ (while_does place e body) (while_codes place e body)
            (loop_good (condition sees (Some e) true) (condition sees None false) (in_order (map (does sees) body)) (block_codes (map (codes_of site) body))
            (code_made site e) [] (tests e (and_first (is_truth (type_of site e)) (all_of (map (fits site) body)) parts)) good
            (λ free few. plain_turn free.flags (in_order (map (does sees) body)) (block_codes (map (codes_of site) body) (turn_taken free)).code
            ((good (turn_taken free)).1 few)));
        returns = λ place e fitted apart. both_are _ _ _ _ (return_does place e) (return_codes place e)
            (return_good e site.result (rw (fold-roll-Stmt, fold-roll-StmtKind) at fitted));
      }

      pub stmt_good : (s : Stmt) → S s
      stmt_good = induct S cases

      -- the C of the statements of a function does what they do
      pub body_good : (body : List Stmt) → all_of (map (fits site) body) ≡ true → joined (map aliases_in body) ≡ [] →
          Good (in_order (map (does sees) body)) (block_codes (map (codes_of site) body))
      body_good body = block_good body (every body)
        where
          every : (body : List Stmt) → Each S body
          every [] = All-nil S
          every (s ∷ body) = All-cons S s body (stmt_good s) (every body)
