-- Several arms one behind the other do what the first does whose condition is true, by a flag that tells whether none was taken.
use Rattle.std.proofs.Common.{◌≡◌, ℕ, ◌^◌, ◌<◌, ◌≤◌, ℤ, pos, Bool, true, false, ◌&&◌, List, [], ◌∷◌, ◌++◌}
use Rattle.std.proofs.Common.{Option, Some, None, refl, sym, ap, ap₂}
use Rattle.std.proofs.Common.{◌∙◌, subst, arith}
use Rattle.std.proofs.lemmas.Bool.{eq-eqb}
use Rattle.std.proofs.lemmas.Cmp.{nat_list_eq_equiv}
use Rattle.std.specs.Prelude.{bytes_eq, option_and_then, option_map, if◌then◌else◌}
use Rattle.bl_tree.specs.declared.c.CArg.{CArg}
use Rattle.bl_tree.specs.declared.c.CCall.{CCall}
use Rattle.bl_tree.specs.declared.c.CIndex.{CIndex}
use Rattle.bl_tree.specs.declared.c.CStep.{CStep}
use Rattle.bl_tree.specs.declared.c.CExpr.{CExpr, fold-roll-CExpr, roll-CExpr}
use Rattle.bl_tree.specs.declared.c.CExprKind.{CExprKind, CExprKind-F, fold-roll-CExprKind, roll-CExprKind}
use Rattle.bl_tree.specs.declared.c.CExprKind.TheVariants as expression
use Rattle.bl_tree.specs.declared.c.CPlace.{CPlace, fold-roll-CPlace}
use Rattle.bl_tree.specs.declared.c.CStmt.{CStmt, fold-roll-CStmt, roll-CStmt}
use Rattle.bl_tree.specs.declared.c.CStmtKind.{CStmtKind, CStmtKind-F, fold-roll-CStmtKind, roll-CStmtKind}
use Rattle.bl_tree.specs.declared.c.CStmtKind.TheVariants as statement
use Rattle.bl_tree.specs.declared.scalar.Op.TheVariants.{And}
use Rattle.bl_tree.specs.declared.scalar.Scalar.{Scalar as ScalarType}
use Rattle.bl_tree.specs.declared.value.Value.{Value}
use Rattle.bl_tree.specs.Numbers.{is_one}
use Rattle.bl_eval.specs.declared.datum.Datum.{Datum}
use Rattle.bl_eval.specs.Functions.{Flow, GuardedBlock, StmtMeaning, first_true_choice}
use Rattle.bl_ctext_semantics.specs.Course.{End, Outcome, following_end, goes_on, going}
use Rattle.bl_ctext_semantics.specs.Memory.{CValue, Location, Memory, Root, same_root, scalar, scalar_number, set_at, value_at, variable, with_part}
use Rattle.bl_ctext_semantics.specs.Meaning.{Counted, Scope, block_c, executed, given, location_c, next, runs_c, two_values, value_c}
use Rattle.bl_emit_acts.specs.Acts.{c_set}
use Rattle.bl_emit_acts.specs.Trees.{c_literal, c_read, c_two, nowhere}
use Rattle.bl_emit_functions.specs.declared.coded.Free.{Free}
use Rattle.bl_emit_functions.specs.Statements.{ArmCodes, Codes, arm_taken, arms_taken, flag_taken, flagged_code, untaken_code}
use Rattle.bl_emit_functions.specs.Trees.{c_if, c_truth, flag_name, flag_place}
use Rattle.bl_emit_functions_laws_simulation.proofs.OnBodies.Courses.{Alike, Chosen, EndsAt, Leaves, Tests, alike_at, if_comes, since, truth_c}

-- ---- a flag in memory

-- where a flag is
abbrev pub flag_at : Scope → ℕ → Location
flag_at scope k = record { root = variable scope.depth (flag_name k); parts = [] }

-- the number of a flag
abbrev pub flag_in : Scope → ℕ → Memory → ℤ
flag_in scope k m = m (variable scope.depth (flag_name k)) []

-- the number of a truth
abbrev pub bit : Bool → ℤ
bit true = pos 1
bit false = pos 0

pub variable_itself : (d : ℕ) (name : List ℕ) → same_root (variable d name) (variable d name) ≡ true
variable_itself d name = ap (λ b. b && bytes_eq name name) (eq-eqb d d refl) ∙ nat_list_eq_equiv.refl name

pub flag_set_in : (scope : Scope) (k : ℕ) (m : Memory) (v : CValue) → flag_in scope k (set_at m (flag_at scope k) v) ≡ v []
flag_set_in scope k m v =
    let root : Root = variable scope.depth (flag_name k) in
    ap (λ b. (if b then with_part (m root) [] v else m root) []) (variable_itself scope.depth (flag_name k))

module _ (scope : Scope) (m : Memory) where
  abbrev kind : CExprKind-F CArg CExprKind CCall CExpr CIndex CPlace CStep → CExpr
  kind layer = roll-CExpr (record { place = nowhere; what = roll-CExprKind layer })

  flag-location : (k : ℕ) → location_c (flag_place k) scope m ≡ given (Some (flag_at scope k))
  flag-location k = rw fold-roll-CPlace refl

  abbrev reads : CPlace → Counted CValue
  reads place = next (location_c place scope m) (λ p. given (Some (value_at m p)))

  read-open : (place : CPlace) → value_c (kind (CExprKind-F.Read place)) scope m ≡ reads place
  read-open place = rw (fold-roll-CExpr, fold-roll-CExprKind) refl

  read-value : (place : CPlace) → value_c (c_read place) scope m ≡ reads place
  read-value place =
      subst (λ (k : CExprKind). value_c (roll-CExpr (record { place = nowhere; what = k })) scope m ≡ reads place) (expression.rolls-Read place)
      (read-open place)

  literal-open : (ty : ScalarType) (n : ℤ) → value_c (kind (CExprKind-F.Literal ty n)) scope m ≡ given (Some (scalar n))
  literal-open ty n = rw (fold-roll-CExpr, fold-roll-CExprKind) refl

  literal-value : (ty : ScalarType) (n : ℤ) → value_c (c_literal ty n) scope m ≡ given (Some (scalar n))
  literal-value ty n =
      subst (λ (k : CExprKind). value_c (roll-CExpr (record { place = nowhere; what = k })) scope m ≡ given (Some (scalar n)))
      (expression.rolls-Literal ty n) (literal-open ty n)

  two-open : (a b : CExpr) → value_c (kind (CExprKind-F.Two And a b)) scope m ≡ two_values And (value_c a) (value_c b) scope m
  two-open a b = rw (fold-roll-CExpr, fold-roll-CExprKind) refl

  two-value : (a b : CExpr) → value_c (c_two And a b) scope m ≡ two_values And (value_c a) (value_c b) scope m
  two-value a b =
      subst (λ (k : CExprKind). value_c (roll-CExpr (record { place = nowhere; what = k })) scope m ≡ two_values And (value_c a) (value_c b) scope m)
      (expression.rolls-Two And a b) (two-open a b)

  flag-value : (k : ℕ) → value_c (c_read (flag_place k)) scope m ≡ given (Some (value_at m (flag_at scope k)))
  flag-value k = read-value (flag_place k) ∙ ap (λ (at : Counted Location). next at (λ p. given (Some (value_at m p)))) (flag-location k)

  pub flag-truth : (k : ℕ) → truth_c scope (c_read (flag_place k)) m ≡ Some (is_one (flag_in scope k m))
  flag-truth k = ap (λ (c : Counted CValue). option_map (λ v. is_one (scalar_number v)) c.answer) (flag-value k)

  abbrev both : Counted CValue → CExpr → Option Bool
  both left test =
      option_map (λ v. is_one (scalar_number v))
      (next left (λ a. (if is_one (scalar_number a) then value_c test else (λ scope memory. given (Some (scalar (pos 0))))) scope m)).answer

  both_open : (k : ℕ) (test : CExpr) → truth_c scope (c_two And (c_read (flag_place k)) test) m ≡ both (given (Some (value_at m (flag_at scope k)))) test
  both_open k test =
      ap (λ (c : Counted CValue). option_map (λ v. is_one (scalar_number v)) c.answer) (two-value (c_read (flag_place k)) test)
      ∙ ap (λ (left : Counted CValue). both left test) (flag-value k)

  abbrev taken_by : CExpr → Bool → Option Bool
  taken_by test b =
      option_map (λ v. is_one (scalar_number v)) ((if b then value_c test else (λ scope memory. given (Some (scalar (pos 0))))) scope m).answer

  -- where the flag is 1, the flag and a condition are true where the condition is
  pub both_set : (k : ℕ) (test : CExpr) → flag_in scope k m ≡ pos 1 → truth_c scope (c_two And (c_read (flag_place k)) test) m ≡ truth_c scope test m
  both_set k test is = both_open k test ∙ ap (λ n. taken_by test (is_one n)) is

  -- where it is 0, they aren't
  pub both_clear : (k : ℕ) (test : CExpr) → flag_in scope k m ≡ pos 0 → truth_c scope (c_two And (c_read (flag_place k)) test) m ≡ Some false
  both_clear k test is = both_open k test ∙ ap (λ n. taken_by test (is_one n)) is

  -- ---- a flag is set

  abbrev what : CStmtKind-F CStmtKind CStmt → CStmt
  what layer = roll-CStmt (record { place = nowhere; what = roll-CStmtKind layer })

  abbrev sets : Counted Location → Counted CValue → Outcome Memory
  sets at value = executed m (next at (λ p. next value (λ v. given (Some (set_at m p v))))) going

  set-open : (place : CPlace) (e : CExpr) → runs_c (what (CStmtKind-F.Set place e)) scope m ≡ sets (location_c place scope m) (value_c e scope m)
  set-open place e = rw (fold-roll-CStmt, fold-roll-CStmtKind) refl

  set-runs : (place : CPlace) (e : CExpr) → runs_c (c_set place e) scope m ≡ sets (location_c place scope m) (value_c e scope m)
  set-runs place e =
      subst (λ (k : CStmtKind). runs_c (roll-CStmt (record { place = nowhere; what = k })) scope m ≡ sets (location_c place scope m) (value_c e scope m))
      (statement.rolls-Set place e) (set-open place e)

  pub truth-value : (b : Bool) → value_c (c_truth b) scope m ≡ given (Some (scalar (bit b)))
  truth-value true = literal-value _ _
  truth-value false = literal-value _ _

  pub set_alike : (k : ℕ) (b : Bool) → Alike (runs_c (c_set (flag_place k) (c_truth b)) scope m) (going (set_at m (flag_at scope k) (scalar (bit b))))
  set_alike k b =
      subst (λ (o : Outcome Memory). Alike o (going (set_at m (flag_at scope k) (scalar (bit b))))) (sym
      (set-runs (flag_place k) (c_truth b) ∙ ap₂ sets (flag-location k) (truth-value b)))
      (refl, refl)

-- ---- arms

module _ (number : Datum → ℤ) (Stand : List Value → Memory → Type 0) (Kept : ℕ → Memory → Memory → Type 0)
    (same : (k : ℕ) (m : Memory) → Kept k m m) (onward : (k : ℕ) (a b c : Memory) → Kept k a b → Kept k b c → Kept k a c)
    (fewer : (j k : ℕ) (a b : Memory) → j ≤ k → Kept k a b → Kept j a b) (scope : Scope)
    (kept_set : (j : ℕ) (m : Memory) (v : CValue) → j < 2 ^ 64 → Kept j m (set_at m (flag_at scope j) v))
    (flag_kept : (j k : ℕ) (a b : Memory) → j < k → Kept k a b → flag_in scope j b ≡ flag_in scope j a)
    (stand_set : (now : List Value) (m : Memory) (j : ℕ) (v : CValue) → Stand now m → Stand now (set_at m (flag_at scope j) v)) where
  abbrev At : ℕ → Memory → Option Flow → End → Memory → Type 0
  At = EndsAt number Stand Kept

  abbrev AtOf : ℕ → Memory → Option Flow → Outcome Memory → Type 0
  AtOf k here flow o = At k here flow o.end o.memory

  abbrev Does_so : ℕ → StmtMeaning → (Memory → Outcome Memory) → Type 0
  Does_so = Leaves number Stand Kept same onward fewer

  abbrev Asks : (List Value → Option Bool) → CExpr → Type 0
  Asks = Tests number Stand Kept same onward fewer scope

  -- what comes behind a statement list in which a flag is set
  behind_set : (k : ℕ) (b : Bool) (rest : List CStmt) (m : Memory) →
      Alike (block_c (c_set (flag_place k) (c_truth b) ∷ rest) scope m) (block_c rest scope (set_at m (flag_at scope k) (scalar (bit b))))
  behind_set k b rest m =
      let o = runs_c (c_set (flag_place k) (c_truth b)) scope m in
      by o.count o.memory o.end (set_alike scope m k b)
    where
      by : (n : ℕ) (after : Memory) (e : End) → (e ≡ goes_on) × (after ≡ set_at m (flag_at scope k) (scalar (bit b))) →
          Alike (following_end n after e (block_c rest scope)) (block_c rest scope (set_at m (flag_at scope k) (scalar (bit b))))
      by n after e h =
          subst (λ (e : End). Alike (following_end n after e (block_c rest scope))
          (block_c rest scope (set_at m (flag_at scope k) (scalar (bit b))))) (sym h.0)
          (subst (λ (after : Memory). Alike (following_end n after goes_on (block_c rest scope))
          (block_c rest scope (set_at m (flag_at scope k) (scalar (bit b)))))
          (sym h.1) (refl, refl))

  module _ (f : ℕ) where
    -- statements that do nothing where the flag is 0
    abbrev pub Skips : List CStmt → Type 0
    Skips code = (m : Memory) → flag_in scope f m ≡ pos 0 → Alike (block_c code scope m) (going m)

    -- statements that do this where the flag is 1
    abbrev pub Opens : StmtMeaning → List CStmt → Type 0
    Opens does code = (now : List Value) (m : Memory) → Stand now m → flag_in scope f m ≡ pos 1 → AtOf f m (does now) (block_c code scope m)

    -- what has been done, and then statements that are skipped
    skipped : (k : ℕ) (here there : Memory) (flow : Option Flow) (n : ℕ) (e : End) (m : Memory) (rest : List CStmt) → At k here flow e m →
        ((m : Memory) → Kept k here m → Kept f there m) → ((m : Memory) → Kept k here m → flag_in scope f m ≡ pos 0) → Skips rest →
        AtOf f there flow (following_end n m e (block_c rest scope))
    skipped k here there None n e m rest h lift clear skips = ap (λ (e : End). (following_end n m e (block_c rest scope)).end) h
    skipped k here there (Some (Flow.On now)) n e m rest h lift clear skips =
        let still = skips m (clear m h.2) in
        subst (λ (e : End). AtOf f there (Some (Flow.On now)) (following_end n m e (block_c rest scope))) (sym h.0)
        (alike_at number Stand Kept same onward fewer f there (Some (Flow.On now)) (block_c rest scope m) (going m) still (refl, h.1, lift m h.2))
    skipped k here there (Some (Flow.Back now result)) n e m rest h lift clear skips =
        subst (λ (e : End). AtOf f there (Some (Flow.Back now result)) (following_end n m e (block_c rest scope))) (sym h.0) (refl, h.1, lift m h.2)

    module _ (free : Free) (arm : ArmCodes) (choice : GuardedBlock) (rest : List CStmt) (later : f < free.flags)
        (small : f < 2 ^ 64) where
      abbrev taken : List CStmt
      taken = c_set (flag_place f) (c_truth false) ∷ (arm.body free).code

      abbrev condition : CExpr
      condition = c_two And (c_read (flag_place f)) arm.test

      pub arm_skips : Skips rest → Skips ((arm_taken f arm free).code ++ rest)
      arm_skips skips m clear =
          let o = runs_c (c_if condition taken None) scope m in
          if_comes scope m (λ e k. (n : ℕ) → Alike (following_end n k e (block_c rest scope)) (going m)) condition taken None
          (subst (Chosen scope m (λ e k. (n : ℕ) → Alike (following_end n k e (block_c rest scope)) (going m)) taken None) (sym
          (both_clear scope m f arm.test clear))
          (λ n. skips m clear)) o.count

      abbrev flow : StmtMeaning → List Value → Option Flow
      flow other now = option_and_then (λ holds. if holds then choice.body now else other now) (choice.test now)

      by_test : (other : StmtMeaning) (now : List Value) (m : Memory) → Stand now m → flag_in scope f m ≡ pos 1 →
          Does_so free.flags choice.body (block_c (arm.body free).code scope) → Skips rest → Opens other rest → (holds : Option Bool) →
          Chosen scope m (λ e k. (n : ℕ) →
          AtOf f m (option_and_then (λ holds. if holds then choice.body now else other now) holds) (following_end n k e (block_c rest scope))) taken None holds
      by_test other now m stand is body skips opens None = λ n. refl
      by_test other now m stand is body skips opens (Some true) = λ n.
          let m' : Memory = set_at m (flag_at scope f) (scalar (pos 0)) in
          let alike = behind_set f false (arm.body free).code m in
          let o = block_c taken scope m in
          skipped free.flags m' m (choice.body now) n o.end o.memory rest
          (alike_at number Stand Kept same onward fewer free.flags m' (choice.body now) o (block_c (arm.body free).code scope m') alike
          (body now m' (stand_set now m f (scalar (pos 0)) stand)))
          (λ k kept. onward f m m' k (kept_set f m (scalar (pos 0)) small) (fewer f free.flags m' k (omega (arith, later)) kept))
          (λ k kept. flag_kept f free.flags m' k later kept ∙ flag_set_in scope f m (scalar (pos 0))) skips
      by_test other now m stand is body skips opens (Some false) = λ n. opens now m stand is

      pub arm_opens : (other : StmtMeaning) → Asks choice.test arm.test → Does_so free.flags choice.body (block_c (arm.body free).code scope) → Skips rest →
          Opens other rest → Opens (flow other) ((arm_taken f arm free).code ++ rest)
      arm_opens other asks body skips opens now m stand is =
          let o = runs_c (c_if condition taken None) scope m in
          if_comes scope m (λ e k. (n : ℕ) → AtOf f m (flow other now) (following_end n k e (block_c rest scope))) condition taken None
          (subst (Chosen scope m (λ e k. (n : ℕ) → AtOf f m (flow other now) (following_end n k e (block_c rest scope))) taken None) (sym
          (both_set scope m f arm.test is ∙ asks now m stand))
          (by_test other now m stand is body skips opens (choice.test now))) o.count

    -- what is done where no arm was taken
    pub untaken_skips : (code : List CStmt) → Skips (untaken_code f code)
    untaken_skips [] m clear = (refl, refl)
    untaken_skips (s ∷ rest) m clear =
        let o = runs_c (c_if (c_read (flag_place f)) (s ∷ rest) None) scope m in
        if_comes scope m (λ e k. (n : ℕ) → Alike (following_end n k e (block_c [] scope)) (going m)) (c_read (flag_place f)) (s ∷ rest) None
        (subst (Chosen scope m (λ e k. (n : ℕ) → Alike (following_end n k e (block_c [] scope)) (going m)) (s ∷ rest) None) (sym
        (flag-truth scope m f ∙ ap (λ n. Some (is_one n)) clear))
        (λ n. (refl, refl))) o.count

    at_end : (k : ℕ) (m : Memory) (flow : Option Flow) (n : ℕ) (e : End) (after : Memory) → f ≤ k → At k m flow e after →
        AtOf f m flow (following_end n after e (block_c [] scope))
    at_end k m None n e after less h = ap (λ (e : End). (following_end n after e (block_c [] scope)).end) h
    at_end k m (Some (Flow.On now)) n e after less h =
        subst (λ (e : End). AtOf f m (Some (Flow.On now)) (following_end n after e (block_c [] scope))) (sym h.0) (refl, h.1, fewer f k m after less h.2)
    at_end k m (Some (Flow.Back now result)) n e after less h =
        subst (λ (e : End). AtOf f m (Some (Flow.Back now result)) (following_end n after e (block_c [] scope))) (sym h.0)
        (refl, h.1, fewer f k m after less h.2)

    pub untaken_opens : (k : ℕ) (other : StmtMeaning) (code : List CStmt) → f ≤ k → Does_so k other (block_c code scope) → Opens other (untaken_code f code)
    untaken_opens k other [] less does now m stand is =
        since number Stand Kept same onward fewer f k m m (other now) goes_on m (λ later kept. fewer f k m later less kept) (does now m stand)
    untaken_opens k other (s ∷ rest) less does now m stand is =
        let o = runs_c (c_if (c_read (flag_place f)) (s ∷ rest) None) scope m in
        if_comes scope m (λ e after. (n : ℕ) → AtOf f m (other now) (following_end n after e (block_c [] scope))) (c_read (flag_place f)) (s ∷ rest) None
        (subst (Chosen scope m (λ e after. (n : ℕ) → AtOf f m (other now) (following_end n after e (block_c [] scope))) (s ∷ rest) None) (sym
        (flag-truth scope m f ∙ ap (λ n. Some (is_one n)) is))
        (λ n. let o = block_c (s ∷ rest) scope m in at_end k m (other now) n o.end o.memory less (does now m stand))) o.count

  -- ---- all arms

  -- an arm's C does what the arm does
  abbrev pub ArmDoes : ArmCodes → GuardedBlock → Type 0
  ArmDoes arm choice =
      Asks choice.test arm.test
      × ((free : Free) → (arm.body free).free.flags ≤ 2 ^ 64 → Does_so free.flags choice.body (block_c (arm.body free).code scope))
      × ((free : Free) → free.flags ≤ (arm.body free).free.flags)

  abbrev pub ArmsDo : List ArmCodes → List GuardedBlock → Type 0
  ArmsDo [] [] = Unit {0}
  ArmsDo (arm ∷ arms) (choice ∷ choices) = ArmDoes arm choice × ArmsDo arms choices
  ArmsDo _ _ = ⊥

  pub arms_grow : (f : ℕ) (arms : List ArmCodes) (choices : List GuardedBlock) (free : Free) → ArmsDo arms choices →
      free.flags ≤ (arms_taken f arms free).free.flags
  arms_grow f [] [] free h = omega arith
  arms_grow f (arm ∷ arms) (choice ∷ choices) free h =
      let first = h.0.2 free in
      let rest = arms_grow f arms choices (arm.body free).free h.1 in omega (arith, first, rest)
  arms_grow f [] (choice ∷ choices) free h = absurd h
  arms_grow f (arm ∷ arms) [] free h = absurd h

  module _ (f : ℕ) (other : StmtMeaning) (codes : Codes) (small : f < 2 ^ 64) (grows : (free : Free) → free.flags ≤ (codes free).free.flags)
      (does : (free : Free) → (codes free).free.flags ≤ 2 ^ 64 → Does_so free.flags other (block_c (codes free).code scope)) where
    abbrev all_code : List ArmCodes → Free → List CStmt
    all_code arms free = (arms_taken f arms free).code ++ untaken_code f (codes (arms_taken f arms free).free).code

    arms_skip : (arms : List ArmCodes) (choices : List GuardedBlock) (free : Free) → f < free.flags → ArmsDo arms choices → Skips f (all_code arms free)
    arms_skip [] [] free later h = untaken_skips f (codes free).code
    arms_skip (arm ∷ arms) (choice ∷ choices) free later h =
        let more = h.0.2 free in
        arm_skips f free arm choice (all_code arms (arm.body free).free) later small
        (arms_skip arms choices (arm.body free).free (omega (arith, later, more)) h.1)
    arms_skip [] (choice ∷ choices) free later h = absurd h
    arms_skip (arm ∷ arms) [] free later h = absurd h

    arms_open : (arms : List ArmCodes) (choices : List GuardedBlock) (free : Free) → f < free.flags → ArmsDo arms choices →
        (codes (arms_taken f arms free).free).free.flags ≤ 2 ^ 64 → Opens f (first_true_choice choices other) (all_code arms free)
    arms_open [] [] free later h few = untaken_opens f free.flags other (codes free).code (omega (arith, later)) (does free few)
    arms_open (arm ∷ arms) (choice ∷ choices) free later h few =
        let more = h.0.2 free in
        let still : f < (arm.body free).free.flags = omega (arith, later, more) in
        let grown = arms_grow f arms choices (arm.body free).free h.1 in
        let last = grows (arms_taken f arms (arm.body free).free).free in
        let few_here : (arm.body free).free.flags ≤ 2 ^ 64 = omega (arith, grown, last, few) in
        arm_opens f free arm choice (all_code arms (arm.body free).free) later small (first_true_choice choices other) h.0.0 (h.0.1 free few_here)
        (arms_skip arms choices (arm.body free).free still h.1) (arms_open arms choices (arm.body free).free still h.1 few)
    arms_open [] (choice ∷ choices) free later h few = absurd h
    arms_open (arm ∷ arms) [] free later h few = absurd h

  pub flagged_leaves : (arms : List ArmCodes) (choices : List GuardedBlock) (other : StmtMeaning) (codes : Codes) (free : Free) →
      ((free : Free) → free.flags ≤ (codes free).free.flags) →
      ((free : Free) → (codes free).free.flags ≤ 2 ^ 64 → Does_so free.flags other (block_c (codes free).code scope)) → ArmsDo arms choices →
      free.flags < 2 ^ 64 → (flagged_code arms codes free).free.flags ≤ 2 ^ 64 →
      Does_so free.flags (first_true_choice choices other) (block_c (flagged_code arms codes free).code scope)
  flagged_leaves arms choices other codes free grows does h small few now m stand =
      let f = free.flags in
      let m' : Memory = set_at m (flag_at scope f) (scalar (pos 1)) in
      let code = (arms_taken f arms (flag_taken free)).code ++ untaken_code f (codes (arms_taken f arms (flag_taken free)).free).code in
      let flow = first_true_choice choices other now in
      let o = block_c code scope m' in
      alike_at number Stand Kept same onward fewer f m flow (block_c (flagged_code arms codes free).code scope m) o (behind_set f true code m)
      (since number Stand Kept same onward fewer f f m m' flow o.end o.memory (λ later kept. onward f m m' later (kept_set f m (scalar (pos 1)) small) kept)
      (arms_open f other codes small grows does arms choices (flag_taken free) (omega arith) h few now m' (stand_set now m f (scalar (pos 1)) stand)
      (flag_set_in scope f m (scalar (pos 1)))))
