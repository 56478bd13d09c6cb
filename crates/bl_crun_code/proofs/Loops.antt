-- The code of a loop does what the loop does: a temporary counts its turns.
use Rattle.std.proofs.Common.{◌≡◌, ◌≤◌, ℕ, zero, suc, ◌+◌, ◌-◌, ℤ, pos, Bool, true, false, List, [], ◌∷◌, ◌++◌, length, Some, None, refl, ap, sym}
use Rattle.std.proofs.Common.{◌∙◌, subst, add-zero, length-append, arith}
use Rattle.std.specs.Prelude.{◌+ℤ◌, ltb, slice_set, if◌then◌else◌}
use Rattle.std.proofs.lemmas.Bool.Decides.{Decides-ltb}
use Rattle.bl_tree.specs.Numbers.{is_one}
use Rattle.bl_ctext_semantics.specs.Course.{End, Outcome, after_statements, breaks, ending, goes_on, loop_with_turns, returns, traps, turn_end, turn_limit}
use Rattle.bl_ctext_semantics.specs.Course.{turn_or_none}
use Rattle.bl_ctext_semantics_laws.specs.Flat.{Cells, Evaluates, FlatAnswer, cell_at, once_more}
use Rattle.bl_ctext_semantics_laws.proofs.Spans.{set-there}
use Rattle.bl_crun_code.specs.declared.instruction.Act.TheVariants as act
use Rattle.bl_crun_code.specs.declared.instruction.Operand.TheVariants as op
use Rattle.bl_crun_code.specs.Code.{Code, Valued, code_of_loop, uncounted, turn_begun, turns_code}
use Rattle.bl_crun_code.specs.Vm.{StepResult, written_if, next_turn, trapped}
use Rattle.bl_crun_code.specs.Laws.{Arrives}
use Rattle.bl_crun_code.proofs.Runs.{After, Fits, From, Kept, Run, Span, acted, acts, arrives-now, begun-zero, fits-fewer, fits-to, instruction, kept-all}
use Rattle.bl_crun_code.proofs.Runs.{kept-less, kept-set, kept-then, span-back, span-end, span-front, span-is, span-tail, st}
use Rattle.bl_crun_code.proofs.Parts.{DueTests, Values}
use Rattle.bl_crun_code.proofs.Statements.{Ends, Left, Performs, execution}

-- ---- turns

below-limit : (k l : ℕ) → suc k ≤ l → (if ltb k l then Some (pos k +ℤ pos 1) else None) ≡ Some (pos (k + 1))
below-limit k l less = ap (λ b. if b then Some (pos k +ℤ pos 1) else None) ((Decides-ltb k l).1 less)

next-turn : (k : ℕ) → suc k ≤ 65536 → next_turn (pos k) ≡ Some (pos (k + 1))
next-turn k less = below-limit k 65536 less

no-turn : (k : ℕ) → k ≡ 65536 → next_turn (pos k) ≡ None
no-turn k is = subst (λ j. next_turn (pos j) ≡ None) (sym is) refl

limit-is : turn_limit ≡ 65536
unfolding turn_limit
limit-is = refl

module _ (r : Run) (depth : ℕ) (w : Valued) (f : Evaluates ℤ) (h : Values r w f) (body : Code) (B : ℕ → Cells → Outcome Cells)
    (turn : Performs r (suc depth) 1 body B) where
  abbrev Test : Code
  Test = w.test w.calm (suc depth) 0 (length body + 2)

  abbrev Back : Code
  Back = uncounted (act.Again (length Test + length body + 1)) ∷ []

  abbrev Turning : Code
  Turning = turn_begun depth ∷ (body ++ Back)

  abbrev Loop : Code
  Loop = turns_code depth Test body

  long : length Loop ≡ length Test + suc (length body + 1)
  long =
      let first : length (Test ++ Turning) ≡ length Test + length Turning = length-append Test Turning in
      let last : length (body ++ Back) ≡ length body + 1 = length-append body Back in
      omega arith

  -- the condition was evaluated: a turn is counted, or the loop is over
  tested : (d : Bool) (p q left : ℕ) (next : Cells → Outcome Cells) (cells : Cells) (temps after : List ℤ) (n : ℕ) (end : StepResult) →
      Kept r depth temps after → Span r.code p Turning q →
      Left r end depth temps q left n (turn_or_none d cells next) →
      (Left r end depth temps q left (n + 1) (next cells) →
      After r.code (written_if (st r p cells after (n + 1)) (op.Temporary depth) (next_turn (cell_at after depth))) end) →
      Arrives r.code (st r (p + (if d then 0 else length body + 2)) cells after n) end
  tested true p q left next cells temps after n end kept span due go =
      subst (λ x. Arrives r.code (st r x cells after n) end) (sym (add-zero p))
      (arrives-now r p cells after n end
      (instruction r p 0 q (turn_begun depth) (body ++ Back) cells after n end (span-is r.code p _ _ q (sym (begun-zero Turning)) span)
      (go (λ later kept'.
      let counts : n + (1 + (next cells).count) ≡ n + 1 + (next cells).count = omega arith in
      subst (λ k. Ends r end q left (next cells).memory later k (next cells).end) counts (due later kept')))))
  tested false p q left next cells temps after n end kept span due go =
      let last : length (body ++ Back) ≡ length body + 1 = length-append body Back in
      let ends : p + suc (length (body ++ Back)) ≡ q = span.ends in
      let place : q ≡ p + (length body + 2) = omega arith in
      subst (λ x. Arrives r.code (st r x cells after n) end) place
      (subst (λ k. Arrives r.code (st r q cells after k) end) (add-zero n) (due after kept))

  -- the condition
  once-runs : (p q left : ℕ) (next : Cells → Outcome Cells) (cells : Cells) (temps now : List ℤ) (count : ℕ) (end : StepResult) → Kept r depth temps now →
      Span r.code p Loop q → Fits r (suc depth) (length Loop) now → r.top ≤ depth →
      Left r end depth temps q left count (once_more f r.base next cells) →
      ((later : Cells) (after : List ℤ) (n : ℕ) → Kept r (suc depth) now after → Left r end depth temps q left n (next later) →
      After r.code (written_if (st r (p + length Test) later after n) (op.Temporary depth) (next_turn (cell_at after depth))) end) →
      Arrives r.code (st r p cells now count) end
  once-runs p q left next cells temps now count end kept span fits low due go =
      let l : FlatAnswer ℤ = f r.base cells in
      let whole : length Loop ≡ length Test + suc (length body + 1) = long in
      arrives-now r p cells now count end
      (subst (λ k. From r 0 p cells now k end) (add-zero count)
      (h.test w.calm (suc depth) 0 (length body + 2) (λ is. is) p 0 q Turning cells now (count + 0) end
      (span-is r.code p _ _ q (sym (begun-zero Loop)) span) (fits-fewer r (suc depth) (length Loop) (length Test) now fits (omega arith))
      (execution r depth q left 0 temps count end l (λ c v. turn_or_none (is_one v) c next)
      (DueTests r (suc depth) 0 (length body + 2) (p + length Test) q Turning now end) due
      (λ v found due' after kept' here.
      tested (is_one v) (p + length Test) q left next l.cells temps after (count + 0 + l.count) end
      (kept-then r depth depth temps now after kept (kept-less r (suc depth) depth now after kept' (omega arith)) (omega arith)) here due'
      (λ due''. go l.cells after (count + 0 + l.count + 1) kept' due'')))))

  -- a turn is over
  turned : (m p q left n : ℕ) (cells : Cells) (temps after : List ℤ) (count : ℕ) (e : End) (again : Cells → Outcome Cells) (end : StepResult) →
      Kept r depth temps after → Span r.code m Back q → m - (length Test + length body + 1) ≡ p →
      Left r end depth temps q left count (turn_end n cells e again) →
      (Left r end depth temps q left (count + n) (again cells) → Arrives r.code (st r p cells after (count + n)) end) →
      Ends r end m 1 cells after (count + n) e
  turned m p q left n cells temps after count goes_on again end kept span is due go =
      let counts : count + (n + (again cells).count) ≡ count + n + (again cells).count = omega arith in
      arrives-now r m cells after (count + n) end
      (acts r m 0 q (act.Again (length Test + length body + 1)) [] cells after (count + n) end
      (span-is r.code m _ _ q (sym (begun-zero Back)) span)
      (subst (λ x. Arrives r.code (st r x cells after (count + n)) end) (sym is)
      (go (λ later kept'. subst (λ k. Ends r end q left (again cells).memory later k (again cells).end) counts (due later kept')))))
  turned m p q left n cells temps after count breaks again end kept span is due go =
      subst (λ x. Arrives r.code (st r x cells after (count + n)) end) (sym (span-end r.code m (uncounted (act.Again (length Test + length body + 1))) q span))
      (due after kept)
  turned m p q left n cells temps after count (returns result) again end kept span is due go = due after kept
  turned m p q left n cells temps after count traps again end kept span is due go = due after kept

  -- a loop that may begin so many turns more
  turns-run : (n k : ℕ) → n + k ≡ 65536 → (p q left : ℕ) (cells : Cells) (temps now : List ℤ) (count : ℕ) (end : StepResult) → Kept r depth temps now →
      cell_at now depth ≡ pos k → Span r.code p Loop q → Fits r (suc depth) (length Loop) now → r.top ≤ depth →
      Left r end depth temps q left count (loop_with_turns n (once_more f r.base) (B r.base) cells) → Arrives r.code (st r p cells now count) end
  unfolding loop_with_turns
  turns-run zero k is p q left cells temps now count end kept there span fits low due =
      once-runs p q left (ending traps) cells temps now count end kept span fits low due
      (λ later after m kept' due'.
      let number : cell_at after depth ≡ pos k = kept'.same depth low (omega arith) ∙ there in
      subst (λ x. After r.code (written_if (st r (p + length Test) later after m) (op.Temporary depth) x) end) (sym (ap next_turn number ∙ no-turn k (omega arith)))
      (subst (λ x. After r.code (trapped later x) end) (add-zero m) (due' temps (kept-all r depth temps))))
  turns-run (suc n) k is p q left cells temps now count end kept there span fits low due =
      once-runs p q left (λ c. turn_end (B r.base c).count (B r.base c).memory (B r.base c).end (loop_with_turns n (once_more f r.base) (B r.base))) cells temps now
      count end kept span fits low due
      (λ later after m kept' due'.
      let number : cell_at after depth ≡ pos k = kept'.same depth low (omega arith) ∙ there in
      let next : List ℤ = slice_set after depth (pos (k + 1)) in
      let u : ℕ = p + length Test + 1 in
      let v : ℕ = u + length body in
      let o : Outcome Cells = B r.base later in
      let again : Cells → Outcome Cells = loop_with_turns n (once_more f r.base) (B r.base) in
      let high : suc depth + length Loop ≤ r.temps = fits.high in
      let same : r.temps ≤ length now = fits.long in
      let same' : length after ≡ length now = kept'.long in
      let whole : length Loop ≡ length Test + suc (length body + 1) = long in
      let behind : Span r.code (p + length Test) Turning q = span-back r.code p Test Turning q span in
      let inside : Span r.code u (body ++ Back) q = span-tail r.code (p + length Test) (turn_begun depth) (body ++ Back) q behind in
      let last : Span r.code v Back q = span-back r.code u body Back q inside in
      let place : v - (length Test + length body + 1) ≡ p = omega arith in
      let kept_next : Kept r depth temps next =
      kept-set r depth depth temps after (pos (k + 1))
      (kept-then r depth depth temps now after kept (kept-less r (suc depth) depth now after kept' (omega arith)) (omega arith)) (omega arith) (omega arith) in
      subst (λ x. After r.code (written_if (st r (p + length Test) later after m) (op.Temporary depth) x) end) (sym (ap next_turn number ∙ next-turn k (omega arith)))
      (turn.runs u v later next m end (span-front r.code u body Back q inside)
      (fits-to r (suc depth) (length Loop) now (suc depth) (length body) next fits (kept_next.long ∙ sym kept.long) (omega arith) (omega arith))
      (λ after' kept''.
      let counter : cell_at after' depth ≡ pos (k + 1) = kept''.same depth low (omega arith) ∙ set-there after depth (pos (k + 1)) (omega arith) in
      let kept_all : Kept r depth temps after' = kept-then r depth (suc depth) temps next after' kept_next kept'' (omega arith) in
      turned v p q left o.count o.memory temps after' m o.end again end kept_all last place due'
      (λ due''.
      turns-run n (k + 1) (omega arith) p q left o.memory temps after' (m + o.count) end kept_all counter span
      (fits-to r (suc depth) (length Loop) now (suc depth) (length Loop) after' fits (kept''.long ∙ kept_next.long ∙ sym kept.long) (omega arith)
      (omega arith)) low due''))))

  pub loop-performs : (left : ℕ) → Performs r depth left (code_of_loop w depth body)
      (λ base cells. after_statements 1 (loop_with_turns turn_limit (once_more f base) (B base) cells))
  loop-performs left = record {
    runs = λ p q cells temps count end span fits due.
        let limit : turn_limit ≡ 65536 = limit-is in
        let out : Outcome Cells = loop_with_turns turn_limit (once_more f r.base) (B r.base) cells in
        let next : List ℤ = slice_set temps depth (pos 0) in
        let high : depth + suc (length Loop) ≤ r.temps = fits.high in
        let low : r.top ≤ depth = fits.low in
        let many : r.temps ≤ length temps = fits.long in
        let kept : Kept r depth temps next = kept-set r depth depth temps temps (pos 0) (kept-all r depth temps) (omega arith) (omega arith) in
        (acts r p 1 q (act.Constant (op.Temporary depth) (pos 0)) Loop cells temps (count + 1) end span
        (turns-run turn_limit 0 (omega arith) (p + 1) q left cells temps next (count + 1) end kept (set-there temps depth (pos 0) (omega arith))
        (acted r p 1 q (uncounted (act.Constant (op.Temporary depth) (pos 0))) Loop span)
        (fits-to r depth (suc (length Loop)) temps (suc depth) (length Loop) next fits kept.long (omega arith) (omega arith)) low
        (λ after kept'.
        let counts : count + (1 + out.count) ≡ count + 1 + out.count = omega arith in
        subst (λ k. Ends r end q left out.memory after k out.end) counts (due after kept')))) count refl;
  }
