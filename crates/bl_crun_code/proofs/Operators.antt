-- The code of negations, comparisons, `&&` and `||`.
use Rattle.std.proofs.Common.{◌≡◌, ◌≤◌, ℕ, ◌+◌, ℤ, pos, Bool, true, false, List, [], ◌∷◌, ◌++◌, length, Option, Some, None, refl, ap, sym, ◌∙◌, subst}
use Rattle.std.proofs.Common.{add-zero, append_assoc, length-append, arith}
use Rattle.std.specs.Prelude.{◌&&◌, not, slice_get, if◌then◌else◌}
use Rattle.bl_tree.proofs.Basics.{and_first, and_second}
use Rattle.bl_tree.specs.declared.scalar.Op.{Op}
use Rattle.bl_tree.specs.declared.scalar.Op.TheVariants.{And, Or}
use Rattle.bl_tree.specs.Numbers.{is_one, number_of}
use Rattle.bl_ctext_semantics_laws.specs.Flat.{Cells, Evaluates, FlatAnswer, at_once, compared, flat_answer, flat_next, two_values}
use Rattle.bl_crun_code.specs.declared.instruction.Act.TheVariants as act
use Rattle.bl_crun_code.specs.declared.instruction.Operand.{Operand}
use Rattle.bl_crun_code.specs.declared.instruction.Operand.TheVariants as op
use Rattle.bl_crun_code.specs.Code.{Code, Valued, with_begun, both_into, both_test, tested_valued, depth_behind, either_into, either_test, negated_into, not_valued, or_else}
use Rattle.bl_crun_code.specs.Code.{pair_code, uncounted, two_valued}
use Rattle.bl_crun_code.specs.Vm.{StepResult, VmState, passing_by, written_if, goes, operand_number, vm_step, step_at, with_number}
use Rattle.bl_crun_code.specs.Laws.{Arrives}
use Rattle.bl_crun_code.proofs.Runs.{After, Fits, Goes, GoesOn, Kept, Run, Span, arrives-now, begun-zero, fits-fewer, fits-to, goes-map, goes-next}
use Rattle.bl_crun_code.proofs.Runs.{kept-then, span-back, span-first, span-is, span-tail, st, stepped}
use Rattle.bl_crun_code.proofs.Parts.{DueTests, DueWrites, Tests, Values, Writes, act-behind}
use Rattle.bl_crun_code.proofs.Operands.{ending-filled, values-condition}
use Rattle.bl_crun_code.proofs.Places.{keeps-then}
use Rattle.bl_crun_code.proofs.Fetches.{pair-does, pair-filled, two_answers}

-- ---- answers that are written or tested

-- an answer is written
pub written-after : (r : Run) (p q : ℕ) (rest : Code) (depth : ℕ) (temps after : List ℤ) (cells : Cells) (n : ℕ) (into : Operand) (end : StepResult)
    (answer number : Option ℤ) → number ≡ answer → Kept r depth temps after → Span r.code (p + 1) rest q →
    Goes r.code end (λ c k v. (after : List ℤ) → Kept r depth temps after → Span r.code (p + 1) rest q →
    Arrives r.code (with_number (st r (p + 1) c after k) into v) end) cells n answer →
    After r.code (written_if (st r p cells after n) into number) end
written-after r p q rest depth temps after cells n into end None number is kept span due =
    subst (λ x. After r.code (written_if (st r p cells after n) into x) end) (sym is) due
written-after r p q rest depth temps after cells n into end (Some v) number is kept span due =
    subst (λ x. After r.code (written_if (st r p cells after n) into x) end) (sym is) (due after kept span)

-- an answer is tested
chosen-after : (r : Run) (p q : ℕ) (rest : Code) (depth : ℕ) (temps after : List ℤ) (cells : Cells) (n hold fail : ℕ) (end : StepResult)
    (answer number : Option ℤ) → number ≡ answer → Kept r depth temps after → Span r.code (p + 1) rest q →
    Goes r.code end (λ c k v. (after : List ℤ) → Kept r depth temps after → Span r.code (p + 1) rest q →
    Arrives r.code (st r (p + 1 + (if is_one v then hold else fail)) c after k) end) cells n answer →
    After r.code (passing_by (st r p cells after n) number hold fail) end
chosen-after r p q rest depth temps after cells n hold fail end None number is kept span due =
    subst (λ x. After r.code (passing_by (st r p cells after n) x hold fail) end) (sym is) due
chosen-after r p q rest depth temps after cells n hold fail end (Some v) number is kept span due =
    subst (λ x. After r.code (passing_by (st r p cells after n) x hold fail) end) (sym is) (due after kept span)

-- ---- comparisons

module _ (r : Run) (x y : Valued) (f g : Evaluates ℤ) (hx : Values r x f) (hy : Values r y g) where
  both-keep : (h : ℤ → ℤ → Option ℤ) → x.calm && y.calm ≡ true → (base : ℕ) (cells : Cells) → (two_answers h f g base cells).cells ≡ cells
  both-keep h calm base cells =
      let first : (f base cells).cells ≡ cells = hx.keeps (and_first x.calm y.calm calm) base cells in
      keeps-then cells (f base cells) (λ after a. flat_next (g base after) (λ last b. flat_answer last (h a b))) first
      (λ a.
      let second : (g base (f base cells).cells).cells ≡ cells = hy.keeps (and_second x.calm y.calm calm) base (f base cells).cells ∙ first in
      keeps-then cells (g base (f base cells).cells) (λ last b. flat_answer last (h a b)) second (λ b. second))

  plain-values : (op : Op) →
      Values r (tested_valued (x.calm && y.calm) (λ late depth into. pair_code x y late depth (λ a b. act.Two op into a b))
      (λ late depth hold fail. pair_code x y late depth (λ a b. act.Compare op a b hold fail))) (two_answers (compared op) f g)
  plain-values op =
      values-condition r (x.calm && y.calm) (λ late depth into. pair_code x y late depth (λ a b. act.Two op into a b))
      (λ late depth hold fail. pair_code x y late depth (λ a b. act.Compare op a b hold fail)) (two_answers (compared op) f g) (both-keep (compared op))
      (λ late depth into. pair-filled x y late depth (λ a b. act.Two op into a b))
      (λ late depth into calm.
      pair-does r x y f g hx hy late depth calm (λ a b. act.Two op into a b) (compared op) (DueWrites r depth into)
      (λ p q rest temps end cells n v w after kept is is' span due.
      written-after r p q rest depth temps after cells n into end (compared op v w)
      (compared op (operand_number r.base cells after (x.ready late depth).it)
      (operand_number r.base cells after (y.ready late (depth_behind depth (x.ready late depth).it)).it))
      (ap (λ a. compared op a (operand_number r.base cells after (y.ready late (depth_behind depth (x.ready late depth).it)).it)) is
      ∙ ap (compared op v) is')
      kept span due))
      (λ late depth hold fail. pair-filled x y late depth (λ a b. act.Compare op a b hold fail))
      (λ late depth hold fail calm.
      pair-does r x y f g hx hy late depth calm (λ a b. act.Compare op a b hold fail) (compared op) (DueTests r depth hold fail)
      (λ p q rest temps end cells n v w after kept is is' span due.
      chosen-after r p q rest depth temps after cells n hold fail end (compared op v w)
      (compared op (operand_number r.base cells after (x.ready late depth).it)
      (operand_number r.base cells after (y.ready late (depth_behind depth (x.ready late depth).it)).it))
      (ap (λ a. compared op a (operand_number r.base cells after (y.ready late (depth_behind depth (x.ready late depth).it)).it)) is
      ∙ ap (compared op v) is')
      kept span due))

  -- ---- `&&` and `||` that are written

  module _ (late : Bool) (depth : ℕ) (into : Operand) (k : ℤ) (calm : late ≡ true → x.calm && y.calm ≡ true) where
    abbrev Second : Code
    Second = y.into late depth into

    abbrev Else : Code
    Else = or_else Second into k

    else-long : length Else ≡ length Second + 2
    else-long = length-append Second (uncounted (act.Skip 1) ∷ uncounted (act.Constant into k) ∷ [])

    abbrev Written : List ℤ → ℕ → ℕ → Code → StepResult → Cells → ℕ → ℤ → Type 0
    Written temps at q rest end c n v =
        (after : List ℤ) → Kept r depth temps after → Span r.code at rest q → Arrives r.code (with_number (st r at c after n) into v) end

    -- an instruction is passed once a number is written
    step-written : (s : VmState) (o : Operand) (v : ℤ) → slice_get r.code s.at ≡ Some (uncounted (act.Skip 1)) →
        vm_step r.code (with_number s o v) ≡ goes (with_number (record s { at = s.at + 1 + 1; count = s.count + 0 }) o v)
    step-written s (op.Literal n) v is = ap (step_at (with_number s (op.Literal n) v)) is
    step-written s (op.Temporary j) v is = ap (step_at (with_number s (op.Temporary j) v)) is
    step-written s (op.Near j) v is = ap (step_at (with_number s (op.Near j) v)) is
    step-written s (op.Through p j) v is = ap (step_at (with_number s (op.Through p j) v)) is
    step-written s (op.Indirect j) v is = ap (step_at (with_number s (op.Indirect j) v)) is
    step-written s (op.NearAddress j) v is = ap (step_at (with_number s (op.NearAddress j) v)) is
    step-written s (op.ThroughAddress p j) v is = ap (step_at (with_number s (op.ThroughAddress p j) v)) is

    right-writes : (p q : ℕ) (rest : Code) (cells : Cells) (temps after : List ℤ) (n : ℕ) (end : StepResult) → Kept r depth temps after →
        Span r.code p (Else ++ rest) q → Fits r depth (length Else) after → GoesOn r.code end (Written temps (p + length Else) q rest end) n (g r.base cells) →
        Arrives r.code (st r p cells after n) end
    right-writes p q rest cells temps after n end kept span fits due =
        let tail : Code = uncounted (act.Skip 1) ∷ uncounted (act.Constant into k) ∷ [] in
        let long : length Else ≡ length Second + 2 = else-long in
        let over : p + length Else ≡ p + length Second + 1 + 1 = omega arith in
        let e : FlatAnswer ℤ = g r.base cells in
        let whole : Span r.code p (Second ++ (tail ++ rest)) q = span-is r.code p _ _ q (append_assoc Second tail rest) span in
        arrives-now r p cells after n end
        (hy.into late depth into (λ is. and_second x.calm y.calm (calm is)) p 0 q (tail ++ rest) cells after n end
        (span-is r.code p _ _ q (sym (begun-zero (Second ++ (tail ++ rest)))) whole) (fits-fewer r depth (length Else) (length Second) after fits (omega arith))
        (goes-map r end (DueWrites r depth into (p + length Second) q (tail ++ rest) after end) (Written temps (p + length Else) q rest end) e.cells (n + e.count) e.answer due
        (λ v found after' kept' here.
        let one : Span r.code (p + length Second + 1) (uncounted (act.Constant into k) ∷ rest) q =
        span-tail r.code (p + length Second) (uncounted (act.Skip 1)) (uncounted (act.Constant into k) ∷ rest) q here in
        let two : Span r.code (p + length Second + 1 + 1) rest q =
        span-tail r.code (p + length Second + 1) (uncounted (act.Constant into k)) rest q one in
        let first : Arrives r.code (with_number (st r (p + length Else) e.cells after' (n + e.count)) into v) end =
        found after' (kept-then r depth depth temps after after' kept kept' (omega arith)) (subst (λ z. Span r.code z rest q) (sym over) two) in
        stepped r.code (with_number (st r (p + length Second) e.cells after' (n + e.count)) into v) _ end
        (step-written (st r (p + length Second) e.cells after' (n + e.count)) into v
        (span-first r.code (p + length Second) (uncounted (act.Skip 1)) (uncounted (act.Constant into k) ∷ rest) q here))
        (subst (λ c. Arrives r.code (with_number (st r (p + length Second + 1 + 1) e.cells after' c) into v) end) (sym (add-zero (n + e.count)))
        (subst (λ z. Arrives r.code (with_number (st r z e.cells after' (n + e.count)) into v) end) over first)))))

    constant-writes-at : (p q : ℕ) (rest : Code) (cells : Cells) (temps after : List ℤ) (n : ℕ) (end : StepResult) → Kept r depth temps after →
        Span r.code p (Else ++ rest) q → Written temps (p + length Else) q rest end cells (n + 0) k →
        Arrives r.code (st r (p + (length Second + 1)) cells after n) end
    constant-writes-at p q rest cells temps after n end kept span due =
        let tail : Code = uncounted (act.Skip 1) ∷ uncounted (act.Constant into k) ∷ [] in
        let long : length Else ≡ length Second + 2 = else-long in
        let over : p + length Else ≡ p + (length Second + 1) + 1 = omega arith in
        let place : p + length Second + 1 ≡ p + (length Second + 1) = omega arith in
        let whole : Span r.code p (Second ++ (tail ++ rest)) q = span-is r.code p _ _ q (append_assoc Second tail rest) span in
        let back : Span r.code (p + length Second) (tail ++ rest) q = span-back r.code p Second (tail ++ rest) q whole in
        let one : Span r.code (p + (length Second + 1)) (uncounted (act.Constant into k) ∷ rest) q =
        subst (λ z. Span r.code z (uncounted (act.Constant into k) ∷ rest) q) place
        (span-tail r.code (p + length Second) (uncounted (act.Skip 1)) (uncounted (act.Constant into k) ∷ rest) q back) in
        let two : Span r.code (p + (length Second + 1) + 1) rest q =
        span-tail r.code (p + (length Second + 1)) (uncounted (act.Constant into k)) rest q one in
        let first : Arrives r.code (with_number (st r (p + length Else) cells after (n + 0)) into k) end =
        due after kept (subst (λ z. Span r.code z rest q) (sym over) two) in
        stepped r.code (st r (p + (length Second + 1)) cells after n) _ end
        (ap (step_at (st r (p + (length Second + 1)) cells after n))
        (span-first r.code (p + (length Second + 1)) (uncounted (act.Constant into k)) rest q one))
        (subst (λ z. Arrives r.code (with_number (st r z cells after (n + 0)) into k) end) over first)

  both-chosen : (late : Bool) (depth : ℕ) (into : Operand) (calm : late ≡ true → x.calm && y.calm ≡ true) (c : Bool) (p q : ℕ) (rest : Code) (cells : Cells)
      (temps after : List ℤ) (n : ℕ) (end : StepResult) → Kept r depth temps after → Span r.code p (or_else (y.into late depth into) into (pos 0) ++ rest) q →
      Fits r depth (length (or_else (y.into late depth into) into (pos 0))) after →
      GoesOn r.code end (Written late depth into (pos 0) calm temps (p + length (or_else (y.into late depth into) into (pos 0))) q rest end) n
      ((if c then g else at_once (pos 0)) r.base cells) →
      Arrives r.code (st r (p + (if c then 0 else length (y.into late depth into) + 1)) cells after n) end
  both-chosen late depth into calm true p q rest cells temps after n end kept span fits due =
      subst (λ z. Arrives r.code (st r z cells after n) end) (sym (add-zero p))
      (right-writes late depth into (pos 0) calm p q rest cells temps after n end kept span fits due)
  both-chosen late depth into calm false p q rest cells temps after n end kept span fits due =
      constant-writes-at late depth into (pos 0) calm p q rest cells temps after n end kept span due

  either-chosen : (late : Bool) (depth : ℕ) (into : Operand) (calm : late ≡ true → x.calm && y.calm ≡ true) (c : Bool) (p q : ℕ) (rest : Code) (cells : Cells)
      (temps after : List ℤ) (n : ℕ) (end : StepResult) → Kept r depth temps after → Span r.code p (or_else (y.into late depth into) into (pos 1) ++ rest) q →
      Fits r depth (length (or_else (y.into late depth into) into (pos 1))) after →
      GoesOn r.code end (Written late depth into (pos 1) calm temps (p + length (or_else (y.into late depth into) into (pos 1))) q rest end) n
      ((if c then at_once (pos 1) else g) r.base cells) →
      Arrives r.code (st r (p + (if c then length (y.into late depth into) + 1 else 0)) cells after n) end
  either-chosen late depth into calm false p q rest cells temps after n end kept span fits due =
      subst (λ z. Arrives r.code (st r z cells after n) end) (sym (add-zero p))
      (right-writes late depth into (pos 1) calm p q rest cells temps after n end kept span fits due)
  either-chosen late depth into calm true p q rest cells temps after n end kept span fits due =
      constant-writes-at late depth into (pos 1) calm p q rest cells temps after n end kept span due

  both-writes : (late : Bool) (depth : ℕ) (into : Operand) → (late ≡ true → x.calm && y.calm ≡ true) →
      Writes r (both_into x y late depth into) depth (two_values And f g) into
  both-writes late depth into calm p m q rest cells temps count end span fits next =
      let second : Code = y.into late depth into in
      let test : Code = x.test late depth 0 (length second + 1) in
      let tail : Code = or_else second into (pos 0) in
      let l : FlatAnswer ℤ = f r.base cells in
      let whole : length (test ++ tail) ≡ length test + length tail = length-append test tail in
      let over : p + length (test ++ tail) ≡ p + length test + length tail = omega arith in
      hx.test late depth 0 (length second + 1) (λ is. and_first x.calm y.calm (calm is)) p m q (tail ++ rest) cells temps count end
      (span-is r.code p _ _ q (ap (with_begun m) (append_assoc test tail rest)) span)
      (fits-fewer r depth (length (test ++ tail)) (length test) temps fits (omega arith))
      (goes-next r end (DueTests r depth 0 (length second + 1) (p + length test) q (tail ++ rest) temps end)
      (Written late depth into (pos 0) calm temps (p + length (test ++ tail)) q rest end) count l
      (λ after a. (if is_one a then g else at_once (pos 0)) r.base after) next
      (λ v found due after kept here.
      both-chosen late depth into calm (is_one v) (p + length test) q rest l.cells temps after (count + l.count) end kept here
      (fits-to r depth (length (test ++ tail)) temps depth (length tail) after fits kept.long (omega arith) (omega arith))
      (subst (λ z. GoesOn r.code end (Written late depth into (pos 0) calm temps z q rest end) (count + l.count)
      ((if is_one v then g else at_once (pos 0)) r.base l.cells)) over due)))

  either-writes : (late : Bool) (depth : ℕ) (into : Operand) → (late ≡ true → x.calm && y.calm ≡ true) →
      Writes r (either_into x y late depth into) depth (two_values Or f g) into
  either-writes late depth into calm p m q rest cells temps count end span fits next =
      let second : Code = y.into late depth into in
      let test : Code = x.test late depth (length second + 1) 0 in
      let tail : Code = or_else second into (pos 1) in
      let l : FlatAnswer ℤ = f r.base cells in
      let whole : length (test ++ tail) ≡ length test + length tail = length-append test tail in
      let over : p + length (test ++ tail) ≡ p + length test + length tail = omega arith in
      hx.test late depth (length second + 1) 0 (λ is. and_first x.calm y.calm (calm is)) p m q (tail ++ rest) cells temps count end
      (span-is r.code p _ _ q (ap (with_begun m) (append_assoc test tail rest)) span)
      (fits-fewer r depth (length (test ++ tail)) (length test) temps fits (omega arith))
      (goes-next r end (DueTests r depth (length second + 1) 0 (p + length test) q (tail ++ rest) temps end)
      (Written late depth into (pos 1) calm temps (p + length (test ++ tail)) q rest end) count l
      (λ after a. (if is_one a then at_once (pos 1) else g) r.base after) next
      (λ v found due after kept here.
      either-chosen late depth into calm (is_one v) (p + length test) q rest l.cells temps after (count + l.count) end kept here
      (fits-to r depth (length (test ++ tail)) temps depth (length tail) after fits kept.long (omega arith) (omega arith))
      (subst (λ z. GoesOn r.code end (Written late depth into (pos 1) calm temps z q rest end) (count + l.count)
      ((if is_one v then at_once (pos 1) else g) r.base l.cells)) over due)))

  -- ---- `&&` and `||` that are tested

  module _ (late : Bool) (depth hold fail : ℕ) (calm : late ≡ true → x.calm && y.calm ≡ true) where
    abbrev Right : Code
    Right = y.test late depth hold fail

    abbrev Tested : List ℤ → ℕ → ℕ → Code → StepResult → Cells → ℕ → ℤ → Type 0
    Tested temps at q rest end c n v =
        (after : List ℤ) → Kept r depth temps after → Span r.code at rest q → Arrives r.code (st r (at + (if is_one v then hold else fail)) c after n) end

    right-tests : (p q : ℕ) (rest : Code) (cells : Cells) (temps after : List ℤ) (n : ℕ) (end : StepResult) → Kept r depth temps after →
        Span r.code p (Right ++ rest) q → Fits r depth (length Right) after → GoesOn r.code end (Tested temps (p + length Right) q rest end) n (g r.base cells) →
        Arrives r.code (st r p cells after n) end
    right-tests p q rest cells temps after n end kept span fits due =
        let e : FlatAnswer ℤ = g r.base cells in
        arrives-now r p cells after n end
        (hy.test late depth hold fail (λ is. and_second x.calm y.calm (calm is)) p 0 q rest cells after n end
        (span-is r.code p _ _ q (sym (begun-zero (Right ++ rest))) span) fits
        (goes-map r end (DueTests r depth hold fail (p + length Right) q rest after end) (Tested temps (p + length Right) q rest end) e.cells (n + e.count) e.answer due
        (λ v found after' kept' here. found after' (kept-then r depth depth temps after after' kept kept' (omega arith)) here)))

    -- the right side isn't evaluated
    passed-tests : (p q : ℕ) (rest : Code) (cells : Cells) (temps after : List ℤ) (n to : ℕ) (end : StepResult) (v : ℤ) → Kept r depth temps after →
        Span r.code p (Right ++ rest) q → Tested temps (p + length Right) q rest end cells (n + 0) v → (if is_one v then hold else fail) ≡ to →
        Arrives r.code (st r (p + (length Right + to)) cells after n) end
    passed-tests p q rest cells temps after n to end v kept span due is =
        let place : p + length Right + to ≡ p + (length Right + to) = omega arith in
        let first : Arrives r.code (st r (p + length Right + (if is_one v then hold else fail)) cells after (n + 0)) end =
        due after kept (span-back r.code p Right rest q span) in
        subst (λ z. Arrives r.code (st r z cells after n) end) place
        (subst (λ z. Arrives r.code (st r (p + length Right + z) cells after n) end) is
        (subst (λ c. Arrives r.code (st r (p + length Right + (if is_one v then hold else fail)) cells after c) end) (add-zero n) first))

    both-decided : (c : Bool) (p q : ℕ) (rest : Code) (cells : Cells) (temps after : List ℤ) (n : ℕ) (end : StepResult) → Kept r depth temps after →
        Span r.code p (Right ++ rest) q → Fits r depth (length Right) after →
        GoesOn r.code end (Tested temps (p + length Right) q rest end) n ((if c then g else at_once (pos 0)) r.base cells) →
        Arrives r.code (st r (p + (if c then 0 else length Right + fail)) cells after n) end
    both-decided true p q rest cells temps after n end kept span fits due =
        subst (λ z. Arrives r.code (st r z cells after n) end) (sym (add-zero p)) (right-tests p q rest cells temps after n end kept span fits due)
    both-decided false p q rest cells temps after n end kept span fits due = passed-tests p q rest cells temps after n fail end (pos 0) kept span due refl

    either-decided : (c : Bool) (p q : ℕ) (rest : Code) (cells : Cells) (temps after : List ℤ) (n : ℕ) (end : StepResult) → Kept r depth temps after →
        Span r.code p (Right ++ rest) q → Fits r depth (length Right) after →
        GoesOn r.code end (Tested temps (p + length Right) q rest end) n ((if c then at_once (pos 1) else g) r.base cells) →
        Arrives r.code (st r (p + (if c then length Right + hold else 0)) cells after n) end
    either-decided false p q rest cells temps after n end kept span fits due =
        subst (λ z. Arrives r.code (st r z cells after n) end) (sym (add-zero p)) (right-tests p q rest cells temps after n end kept span fits due)
    either-decided true p q rest cells temps after n end kept span fits due = passed-tests p q rest cells temps after n hold end (pos 1) kept span due refl

  both-tests : (late : Bool) (depth hold fail : ℕ) → (late ≡ true → x.calm && y.calm ≡ true) →
      Tests r (both_test x y late depth hold fail) depth (two_values And f g) hold fail
  both-tests late depth hold fail calm p m q rest cells temps count end span fits next =
      let second : Code = y.test late depth hold fail in
      let test : Code = x.test late depth 0 (length second + fail) in
      let l : FlatAnswer ℤ = f r.base cells in
      let whole : length (test ++ second) ≡ length test + length second = length-append test second in
      let over : p + length (test ++ second) ≡ p + length test + length second = omega arith in
      hx.test late depth 0 (length second + fail) (λ is. and_first x.calm y.calm (calm is)) p m q (second ++ rest) cells temps count end
      (span-is r.code p _ _ q (ap (with_begun m) (append_assoc test second rest)) span)
      (fits-fewer r depth (length (test ++ second)) (length test) temps fits (omega arith))
      (goes-next r end (DueTests r depth 0 (length second + fail) (p + length test) q (second ++ rest) temps end)
      (Tested late depth hold fail calm temps (p + length (test ++ second)) q rest end) count l
      (λ after a. (if is_one a then g else at_once (pos 0)) r.base after) next
      (λ v found due after kept here.
      both-decided late depth hold fail calm (is_one v) (p + length test) q rest l.cells temps after (count + l.count) end kept here
      (fits-to r depth (length (test ++ second)) temps depth (length second) after fits kept.long (omega arith) (omega arith))
      (subst (λ z. GoesOn r.code end (Tested late depth hold fail calm temps z q rest end) (count + l.count)
      ((if is_one v then g else at_once (pos 0)) r.base l.cells)) over due)))

  either-tests : (late : Bool) (depth hold fail : ℕ) → (late ≡ true → x.calm && y.calm ≡ true) →
      Tests r (either_test x y late depth hold fail) depth (two_values Or f g) hold fail
  either-tests late depth hold fail calm p m q rest cells temps count end span fits next =
      let second : Code = y.test late depth hold fail in
      let test : Code = x.test late depth (length second + hold) 0 in
      let l : FlatAnswer ℤ = f r.base cells in
      let whole : length (test ++ second) ≡ length test + length second = length-append test second in
      let over : p + length (test ++ second) ≡ p + length test + length second = omega arith in
      hx.test late depth (length second + hold) 0 (λ is. and_first x.calm y.calm (calm is)) p m q (second ++ rest) cells temps count end
      (span-is r.code p _ _ q (ap (with_begun m) (append_assoc test second rest)) span)
      (fits-fewer r depth (length (test ++ second)) (length test) temps fits (omega arith))
      (goes-next r end (DueTests r depth (length second + hold) 0 (p + length test) q (second ++ rest) temps end)
      (Tested late depth hold fail calm temps (p + length (test ++ second)) q rest end) count l
      (λ after a. (if is_one a then at_once (pos 1) else g) r.base after) next
      (λ v found due after kept here.
      either-decided late depth hold fail calm (is_one v) (p + length test) q rest l.cells temps after (count + l.count) end kept here
      (fits-to r depth (length (test ++ second)) temps depth (length second) after fits kept.long (omega arith) (omega arith))
      (subst (λ z. GoesOn r.code end (Tested late depth hold fail calm temps z q rest end) (count + l.count)
      ((if is_one v then at_once (pos 1) else g) r.base l.cells)) over due)))

  -- ---- operators

  right-keeps : (c : Bool) (n : ℤ) → y.calm ≡ true → (base : ℕ) (cells after : Cells) → after ≡ cells →
      ((if c then g else at_once n) base after).cells ≡ cells
  right-keeps true n calm base cells after same = hy.keeps calm base after ∙ same
  right-keeps false n calm base cells after same = same

  left-keeps : (c : Bool) (n : ℤ) → y.calm ≡ true → (base : ℕ) (cells after : Cells) → after ≡ cells →
      ((if c then at_once n else g) base after).cells ≡ cells
  left-keeps true n calm base cells after same = same
  left-keeps false n calm base cells after same = hy.keeps calm base after ∙ same

  filled-first : (a b : Code) → 1 ≤ length a → 1 ≤ length (a ++ b)
  filled-first a b h = let whole : length (a ++ b) ≡ length a + length b = length-append a b in omega arith

  pub two-does : (op : Op) → Values r (two_valued op x y) (two_values op f g)
  two-does And =
      values-condition r (x.calm && y.calm) (both_into x y) (both_test x y) (two_values And f g)
      (λ calm base cells.
      let first : (f base cells).cells ≡ cells = hx.keeps (and_first x.calm y.calm calm) base cells in
      keeps-then cells (f base cells) (λ after a. (if is_one a then g else at_once (pos 0)) base after) first
      (λ a. right-keeps (is_one a) (pos 0) (and_second x.calm y.calm calm) base cells (f base cells).cells first))
      (λ late depth into. filled-first (x.test late depth 0 (length (y.into late depth into) + 1)) (or_else (y.into late depth into) into (pos 0))
      (hx.test_filled late depth 0 (length (y.into late depth into) + 1)))
      both-writes
      (λ late depth hold fail. filled-first (x.test late depth 0 (length (y.test late depth hold fail) + fail)) (y.test late depth hold fail)
      (hx.test_filled late depth 0 (length (y.test late depth hold fail) + fail)))
      both-tests
  two-does Or =
      values-condition r (x.calm && y.calm) (either_into x y) (either_test x y) (two_values Or f g)
      (λ calm base cells.
      let first : (f base cells).cells ≡ cells = hx.keeps (and_first x.calm y.calm calm) base cells in
      keeps-then cells (f base cells) (λ after a. (if is_one a then at_once (pos 1) else g) base after) first
      (λ a. left-keeps (is_one a) (pos 1) (and_second x.calm y.calm calm) base cells (f base cells).cells first))
      (λ late depth into. filled-first (x.test late depth (length (y.into late depth into) + 1) 0) (or_else (y.into late depth into) into (pos 1))
      (hx.test_filled late depth (length (y.into late depth into) + 1) 0))
      either-writes
      (λ late depth hold fail. filled-first (x.test late depth (length (y.test late depth hold fail) + hold) 0) (y.test late depth hold fail)
      (hx.test_filled late depth (length (y.test late depth hold fail) + hold) 0))
      either-tests
  two-does op = plain-values op

-- ---- negations

module _ (r : Run) (x : Valued) (f : Evaluates ℤ) (h : Values r x f) where
  abbrev negated : ℤ → ℤ
  negated a = number_of (if is_one a then false else true)

  abbrev Negation : Evaluates ℤ
  Negation base cells = flat_next (f base cells) (λ after a. flat_answer after (Some (negated a)))

  not-is : (b : Bool) → number_of (not b) ≡ number_of (if b then false else true)
  not-is true = refl
  not-is false = refl

  swapped : (b : Bool) (hold fail : ℕ) → (if is_one (number_of (if b then false else true)) then hold else fail) ≡ (if b then fail else hold)
  swapped true hold fail = refl
  swapped false hold fail = refl

  negated-writes : (late : Bool) (depth : ℕ) (into : Operand) → (late ≡ true → x.calm ≡ true) → Writes r (negated_into x late depth into) depth Negation into
  negated-writes late depth into calm =
      act-behind r (x.ready late depth).code depth f (λ cells temps v. operand_number r.base cells temps (x.ready late depth).it ≡ v) (h.ready late depth calm)
      (act.Negate into (x.ready late depth).it) (λ c a. Some (negated a)) (DueWrites r depth into)
      (λ p q rest temps end start cells n v after found kept is span long due.
      subst (λ z. Arrives r.code (with_number (st r (p + 1) cells after n) into (number_of (not (is_one z)))) end) (sym is)
      (subst (λ z. Arrives r.code (with_number (st r (p + 1) cells after n) into z) end) (sym (not-is (is_one v))) (due after kept span)))

  negated-tests : (late : Bool) (depth hold fail : ℕ) → (late ≡ true → x.calm ≡ true) → Tests r (x.test late depth fail hold) depth Negation hold fail
  negated-tests late depth hold fail calm p m q rest cells temps count end span fits next =
      h.test late depth fail hold calm p m q rest cells temps count end span fits
      (goes-next r end (DueTests r depth fail hold (p + length (x.test late depth fail hold)) q rest temps end)
      (DueTests r depth hold fail (p + length (x.test late depth fail hold)) q rest temps end) count (f r.base cells)
      (λ c a. flat_answer c (Some (negated a))) next
      (λ v found due after kept here.
      subst (λ z. Arrives r.code (st r (p + length (x.test late depth fail hold) + z) (f r.base cells).cells after (count + (f r.base cells).count)) end)
      (swapped (is_one v) hold fail)
      (subst (λ c. Arrives r.code (st r (p + length (x.test late depth fail hold) + (if is_one (negated v) then hold else fail)) (f r.base cells).cells after c) end)
      (add-zero (count + (f r.base cells).count)) (due after kept here))))

  pub not-does : Values r (not_valued x) Negation
  not-does =
      values-condition r x.calm (negated_into x) (λ late depth hold fail. x.test late depth fail hold) Negation
      (λ calm base cells. keeps-then cells (f base cells) (λ after a. flat_answer after (Some (negated a))) (h.keeps calm base cells)
      (λ a. h.keeps calm base cells))
      (λ late depth into. ending-filled (x.ready late depth) (λ a. act.Negate into a)) negated-writes
      (λ late depth hold fail. h.test_filled late depth fail hold) negated-tests
