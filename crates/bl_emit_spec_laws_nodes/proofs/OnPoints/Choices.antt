-- What an `if` comes to.
use Rattle.std.proofs.Common.{◌≡◌, ℕ, ◌+◌, ℤ, Bool, true, false, List, [], ◌∷◌, map, Option, Some, None, refl, sym, ap, ◌∙◌, subst}
use Rattle.std.specs.Prelude.{Contains, ◌||◌, option_map, unwrap_or, if◌then◌else◌}
use Rattle.bl_tree.specs.declared.place.Place.{Place}
use Rattle.bl_tree.specs.declared.c.CArg.{CArg}
use Rattle.bl_tree.specs.declared.c.CCall.{CCall}
use Rattle.bl_tree.specs.declared.c.CExpr.{CExpr, fold-roll-CExpr, out-CExpr, roll-CExpr, roll-out-CExpr}
use Rattle.bl_tree.specs.declared.c.CExprKind.{CExprKind, CExprKind-F, fold-roll-CExprKind, out-CExprKind, roll-CExprKind, roll-out-CExprKind}
use Rattle.bl_tree.specs.declared.c.CIndex.{CIndex}
use Rattle.bl_tree.specs.declared.c.CPlace.{CPlace}
use Rattle.bl_tree.specs.declared.c.CStep.{CStep}
use Rattle.bl_tree.specs.declared.scalar.Scalar.TheVariants.{Bits, Bool as OfBool, Int, Nat}
use Rattle.bl_tree.specs.declared.c.CStmt.{CStmt, fold-roll-CStmt, roll-CStmt}
use Rattle.bl_tree.specs.declared.c.CStmtKind.{CStmtKind, CStmtKind-F, fold-roll-CStmtKind}
use Rattle.bl_tree.specs.declared.c.CStmtKind.TheVariants as statement
use Rattle.bl_tree.specs.Numbers.{is_one, number_of}
use Rattle.bl_ctext_semantics.specs.Course.{End, Outcome, breaks, ended_by, following_end, goes_on, returns, traps}
use Rattle.bl_ctext_semantics.specs.Memory.{CValue, Memory, scalar_number}
use Rattle.bl_ctext_semantics.specs.Meaning.{Scope, block_c, block_of, executed, runs_c, value_c}
use Rattle.bl_emit_acts.specs.Trees.{nowhere}
use Rattle.bl_emit_functions.specs.Statements.{else_code}
use Rattle.bl_emit_functions.specs.Trees.{c_if}
use Rattle.bl_emit_spec.specs.Activities.{activity_view, first_rules}
use Rattle.bl_emit_spec.specs.Blocks.{choice_code, entered_by, guard_of, spelled_in_kind, spelled_truth}
use Rattle.bl_emit_spec_laws.specs.Registers.Laws.{GuardsEvaluate, has_left, is_left}
use Rattle.bl_ctree.specs.Instances.{Setting, setting_of}
use Rattle.bl_ctree.specs.Store.{Store}
use Rattle.bl_emit_spec_laws.specs.Calls.Built.{Activities, activity_at, rank_by, registered, slots_by}
use Rattle.bl_emit_spec_laws.specs.Calls.Laws.{Midway, guarded_by_rule}
use Rattle.bl_emit_spec_laws.proofs.OnRegisters.Statements.{Chosen, truth_c}
use Rattle.bl_emit_spec_laws.proofs.OnPasses.Blocks.{Alike}
use Rattle.bl_machine_pass.specs.Registers.{Registers, is_due}
use Rattle.bl_machine_pass.specs.Transitions.{Transition}
use Rattle.bl_machine_pass_laws_execution.specs.Executes.{HasRule}
use Rattle.bl_machine_pass_laws_execution.specs.Frames.{Frames}
use Rattle.bl_tree.specs.declared.tree.StructDef.{StructDef}
use Rattle.bl_tree.specs.declared.tree.Unit.{Unit as UnitDef}
use Rattle.bl_tree.specs.declared.value.Value.{Value}
use Rattle.bl_machine.specs.declared.machine.Activity.{Activity as InMachine}
use Rattle.bl_emit_spec_laws_nodes.specs.Points.Laws.{GuardsSimulate, RulesOwn}
use Rattle.bl_emit_acts_laws_simulation.proofs.Statements.{what}

module _ (scope : Scope) where
  -- one statement alone
  pub alone_alike : (s : CStmt) (m : Memory) → Alike (block_c (s ∷ []) scope m) (runs_c s scope m)
  alone_alike s m = by (runs_c s scope m).count (runs_c s scope m).memory (runs_c s scope m).end
    where
      by : (n : ℕ) (k : Memory) (e : End) → Alike (following_end n k e (block_c [] scope)) (record { memory = k; end = e; count = n })
      by n k goes_on = (refl, refl)
      by n k breaks = (refl, refl)
      by n k (returns x) = (refl, refl)
      by n k traps = (refl, refl)

module _ (scope : Scope) (here : Memory) where
  -- what an `if` does whose condition is evaluated
  abbrev chooses : CExpr → List CStmt → Option (List CStmt) → Outcome Memory
  chooses test block other =
      executed here (value_c test scope here)
      (λ v. (if is_one (scalar_number v) then block_of (map runs_c block) else block_of (unwrap_or (option_map (map runs_c) other) [])) scope here)

  if-open : (test : CExpr) (block : List CStmt) (other : Option (List CStmt)) → runs_c (what (CStmtKind-F.If test block other)) scope here
      ≡ chooses test block other
  if-open test block None = rw (fold-roll-CStmt, fold-roll-CStmtKind) refl
  if-open test block (Some stmts) = rw (fold-roll-CStmt, fold-roll-CStmtKind) refl

  pub if-runs : (test : CExpr) (block : List CStmt) (other : Option (List CStmt)) →
      runs_c (c_if test block other) scope here ≡ chooses test block other
  if-runs test block other =
      subst (λ (k : CStmtKind). runs_c (roll-CStmt (record { place = nowhere; what = k })) scope here ≡ chooses test block other)
      (statement.rolls-If test block other) (if-open test block other)

module _ (scope : Scope) (here : Memory) (Q : End → Memory → Type 0) where
  abbrev Of : Outcome Memory → Type 0
  Of o = Q o.end o.memory

  by_choice : (block : List CStmt) (other : Option (List CStmt)) (b : Bool) → Chosen scope here Q block other (Some b) →
      Of ((if b then block_of (map runs_c block) else block_of (unwrap_or (option_map (map runs_c) other) [])) scope here)
  by_choice block other true h = h
  by_choice block None false h = h
  by_choice block (Some stmts) false h = h

  by_answer : (block : List CStmt) (other : Option (List CStmt)) (n : ℕ) (a : Option CValue) →
      Chosen scope here Q block other (option_map (λ v. is_one (scalar_number v)) a) →
      Of (ended_by here n a (λ v. (if is_one (scalar_number v) then block_of (map runs_c block) else block_of
      (unwrap_or (option_map (map runs_c) other) [])) scope here))
  by_answer block other n None h = h
  by_answer block other n (Some v) h = by_choice block other (is_one (scalar_number v)) h

  pub if_comes : (test : CExpr) (block : List CStmt) (other : Option (List CStmt)) → Chosen scope here Q block other (truth_c scope test here) →
      Of (runs_c (c_if test block other) scope here)
  if_comes test block other h =
      let c = value_c test scope here in
      subst (λ (o : Outcome Memory). Q o.end o.memory) (sym (if-runs scope here test block other)) (by_answer block other (1 + c.count) c.answer h)

-- ---- tests

is_bit : (b : Bool) → is_one (number_of b) ≡ b
is_bit true = refl
is_bit false = refl

both_maps : (a : Option CValue) → option_map (λ v. is_one (scalar_number v)) a ≡ option_map is_one (option_map scalar_number a)
both_maps None = refl
both_maps (Some v) = refl

-- an `if` alone
pub if_alone : (scope : Scope) (here : Memory) (Q : End → Memory → Type 0) (test : CExpr) (block : List CStmt) (other : Option (List CStmt)) →
    Chosen scope here Q block other (truth_c scope test here) →
    Q (block_c (c_if test block other ∷ []) scope here).end (block_c (c_if test block other ∷ []) scope here).memory
if_alone scope here Q test block other chosen =
    let s = c_if test block other in
    let alone = alone_alike scope s here in
    let done : Q (runs_c s scope here).end (runs_c s scope here).memory = if_comes scope here Q test block other chosen in
    subst (λ (m : Memory). Q (block_c (s ∷ []) scope here).end m) (sym alone.1)
    (subst (λ (e : End). Q e (runs_c s scope here).memory) (sym alone.0) done)

-- one whose test has this answer
if_block : (scope : Scope) (here : Memory) (Q : End → Memory → Type 0) (test : CExpr) (block : List CStmt) (other : Option (List CStmt))
    (b : Bool) →
    option_map scalar_number (value_c test scope here).answer ≡ Some (number_of b) → Chosen scope here Q block other (Some b) →
    Q (block_c (c_if test block other ∷ []) scope here).end (block_c (c_if test block other ∷ []) scope here).memory
if_block scope here Q test block other b shown chosen =
    let truth : truth_c scope test here ≡ Some b =
    both_maps (value_c test scope here).answer ∙ (ap (option_map is_one) shown ∙ ap Some (is_bit b)) in
    if_alone scope here Q test block other (subst (Chosen scope here Q block other) (sym truth) chosen)

-- ---- truths that are spelled

abbrev literal_at : Place → ℤ → CExpr
literal_at place n = roll-CExpr (record { place = place; what = roll-CExprKind (CExprKind-F.Literal OfBool n) })

as_literal : (e : CExpr) (n : ℤ) → out-CExprKind (out-CExpr e).what ≡ CExprKind-F.Literal OfBool n → literal_at (out-CExpr e).place n ≡ e
as_literal e n is =
    ap (λ (layer : CExprKind-F CArg CExprKind CCall CExpr CIndex CPlace CStep).
    roll-CExpr (record { place = (out-CExpr e).place; what = roll-CExprKind layer })) (sym is)
    ∙ (ap (λ (what : CExprKind). roll-CExpr (record { place = (out-CExpr e).place; what = what })) (roll-out-CExprKind (out-CExpr e).what)
    ∙ roll-out-CExpr e)

literal_truth : (place : Place) (n : ℤ) (scope : Scope) (here : Memory) → truth_c scope (literal_at place n) here ≡ Some (is_one n)
literal_truth place n scope here = rw (fold-roll-CExpr, fold-roll-CExprKind) refl

-- an expression that spells a truth has it
spelled_gives : (e : CExpr) (b : Bool) (scope : Scope) (here : Memory) → spelled_truth e ≡ Some b → truth_c scope e here ≡ Some b
spelled_gives e b scope here spelled = by (out-CExprKind (out-CExpr e).what) refl spelled
  where
    by : (layer : CExprKind-F CArg CExprKind CCall CExpr CIndex CPlace CStep) → out-CExprKind (out-CExpr e).what ≡ layer →
        spelled_in_kind layer ≡ Some b → truth_c scope e here ≡ Some b
    by (CExprKind-F.Literal OfBool n) is h =
        ap (λ e. truth_c scope e here) (sym (as_literal e n is)) ∙ (literal_truth (out-CExpr e).place n scope here ∙ h)
    by (CExprKind-F.Literal (Int w) n) is h = absurd (cc)
    by (CExprKind-F.Literal (Nat w) n) is h = absurd (cc)
    by (CExprKind-F.Literal (Bits w) n) is h = absurd (cc)
    by (CExprKind-F.Read place) is h = absurd (cc)
    by (CExprKind-F.Call call) is h = absurd (cc)
    by (CExprKind-F.Not operand) is h = absurd (cc)
    by (CExprKind-F.Two op left right) is h = absurd (cc)

-- an `else` that is left out does nothing
pub else_same : (code : List CStmt) → unwrap_or (else_code code) [] ≡ code
else_same [] = refl
else_same (s ∷ rest) = refl

-- a choice alone comes to what its chosen side comes to
pub choice_alone : (scope : Scope) (here : Memory) (Q : End → Memory → Type 0) (test : CExpr) (on_true other : List CStmt) →
    Chosen scope here Q on_true (else_code other) (truth_c scope test here) →
    Q (block_c (choice_code test (spelled_truth test) on_true other) scope here).end (block_c (choice_code test (spelled_truth test) on_true other) scope here).memory
choice_alone scope here Q test on_true other chosen = by (spelled_truth test) refl
  where
    by : (truth : Option Bool) → spelled_truth test ≡ truth →
        Q (block_c (choice_code test truth on_true other) scope here).end (block_c (choice_code test truth on_true other) scope here).memory
    by None is = if_alone scope here Q test on_true (else_code other) chosen
    by (Some true) is = subst (Chosen scope here Q on_true (else_code other)) (spelled_gives test true scope here is) chosen
    by (Some false) is =
        subst (λ code. Q (block_c code scope here).end (block_c code scope here).memory) (else_same other)
        (subst (Chosen scope here Q on_true (else_code other)) (spelled_gives test false scope here is) chosen)

-- ---- blocks

-- an `if` by the guard of a rule, where it is known whether it is entered
module _ (show : GuardsEvaluate) (structs : List StructDef) (units : List UnitDef) (entry : ℕ) (machine : List InMachine) (activities : Activities)
    (own : RulesOwn (setting_of structs units entry) activities) where
  abbrev w : Setting
  w = setting_of structs units entry

  chosen : (i : ℕ) (unit : UnitDef) (scope : Scope) (frames : Frames) (store : Store) (copies : List Value) (r : Registers) (before : Option ℕ)
      (rule : Transition) (code : List CStmt) (here : Memory) → Midway structs units entry machine activities i unit scope frames store copies r here →
      HasRule (slots_by w activities) i unit rule → Contains (first_rules (activity_at w activities i)) rule →
      has_left (registered (activity_at w activities i)) before ≡ true → (b : Bool) →
      (is_left r before || is_due (rank_by w activities i) rule r) ≡ b → (Q : End → Memory → Type 0) → Chosen scope here Q code None (Some b) →
      Q (block_c (guarded_by_rule (activity_view (activity_at w activities i)) before rule code ∷ []) scope here).end
      (block_c (guarded_by_rule (activity_view (activity_at w activities i)) before rule code ∷ []) scope here).memory
  chosen i unit scope frames store copies r before rule code here midway there first left b due Q so =
      let a = activity_at w activities i in
      let asks = own.asks i unit rule midway.is_there there first in
      let shown =
      show (activity_view a) (registered a) scope before rule.node rule.condition r here (λ k. refl) midway.stands.registers midway.within.rested left asks
      in
      if_block scope here Q (entered_by (activity_view a).word before (guard_of (activity_view a) rule.node rule.condition)) code None b
      (shown ∙ ap (λ b. Some (number_of b)) due) so

pub guards_choose : GuardsEvaluate → GuardsSimulate
guards_choose show structs units entry machine activities own = record {
  enters = λ i unit scope frames store copies r before rule code here midway there first left due.
      chosen show structs units entry machine activities own i unit scope frames store copies r before rule code here midway there first left true due
      (λ e m. (e ≡ (block_c code scope here).end) × (m ≡ (block_c code scope here).memory)) (refl, refl);
  skips = λ i unit scope frames store copies r before rule code here midway there first left due.
      chosen show structs units entry machine activities own i unit scope frames store copies r before rule code here midway there first left false due
      (λ e m. (e ≡ goes_on) × (m ≡ here)) (refl, refl);
}
