-- Values that are moved, tested or made temporaries' numbers, and literals.
use Rattle.std.proofs.Common.{◌≡◌, ◌≤◌, ℕ, suc, ◌+◌, ℤ, Bool, true, false, List, [], ◌∷◌, ◌++◌, length}
use Rattle.std.proofs.Common.{refl, sym, subst, length-append, arith}
use Rattle.std.specs.Prelude.{slice_set, if◌then◌else◌}
use Rattle.bl_tree.specs.Numbers.{is_one}
use Rattle.bl_ctext_semantics_laws.specs.Flat.{Cells, Evaluates, at_once, cell_at}
use Rattle.bl_ctext_semantics_laws.proofs.Spans.{set-there}
use Rattle.bl_crun_code.specs.declared.instruction.Act.{Act}
use Rattle.bl_crun_code.specs.declared.instruction.Act.TheVariants as act
use Rattle.bl_crun_code.specs.declared.instruction.Operand.{Operand}
use Rattle.bl_crun_code.specs.declared.instruction.Operand.TheVariants as op
use Rattle.bl_crun_code.specs.Code.{Code, Ready, with_begun, tested_valued, depth_behind, ending_with, is_small, literal_valued, made, number_ready, uncounted, valued, written_valued}
use Rattle.bl_crun_code.specs.Vm.{StepResult, operand_number, with_number}
use Rattle.bl_crun_code.specs.Laws.{Arrives}
use Rattle.bl_crun_code.proofs.Runs.{Fits, From, fits-to, Kept, Run, Span, arrives-now, begun-zero, goes-map, kept-set, span-is, st}
use Rattle.bl_crun_code.proofs.Parts.{DueGives, DueTests, DueWrites, Gives, Holds, Tests, Values, Writes, act-last, gives-at-once}

-- what goes on once a temporary has a number
pub on-temporary : {A : Type 0} (r : Run) (at q depth : ℕ) (rest : Code) (temps after : List ℤ) (end : StepResult) (cells : Cells) (n : ℕ) (a : A) (v : ℤ)
    (Is : Cells → List ℤ → A → Type 0) →
    ((later : List ℤ) (m : ℕ) → Kept r depth temps later → Is cells later a → Span r.code at (with_begun m rest) q → From r m at cells later n end) →
    Kept r depth temps after → (cell_at (slice_set after depth v) depth ≡ v → Is cells (slice_set after depth v) a) → Fits r depth 1 after →
    Span r.code at rest q →
    Arrives r.code (st r at cells (slice_set after depth v) n) end
on-temporary r at q depth rest temps after end cells n a v Is next kept is fits span =
    let high : depth + 1 ≤ r.temps = fits.high in
    let long : r.temps ≤ length after = fits.long in
    arrives-now r at cells (slice_set after depth v) n end
    (next (slice_set after depth v) 0 (kept-set r depth depth temps after v kept (omega arith) (omega arith)) (is (set-there after depth v (omega arith)))
    (span-is r.code at rest (with_begun 0 rest) q (sym (begun-zero rest)) span))

-- a value that is written into a temporary
pub made-gives : (r : Run) (part : Code) (depth : ℕ) (f : Evaluates ℤ) → 1 ≤ length part → Writes r part depth f (op.Temporary depth) →
    Gives r part depth f (λ cells temps v. operand_number r.base cells temps (op.Temporary depth) ≡ v)
made-gives r part depth f filled writes p m q rest cells temps count end span fits next =
    writes p m q rest cells temps count end span fits
    (goes-map r end (DueWrites r depth (op.Temporary depth) (p + length part) q rest temps end)
    (DueGives r depth (λ cells temps v. operand_number r.base cells temps (op.Temporary depth) ≡ v) (p + length part) q rest temps end) (f r.base cells).cells (count + (f r.base cells).count) (f r.base cells).answer next
    (λ v found after kept here.
    on-temporary r (p + length part) q depth rest temps after end (f r.base cells).cells (count + (f r.base cells).count) v v
    (λ cells temps v. operand_number r.base cells temps (op.Temporary depth) ≡ v) found kept (λ same. same)
    (fits-to r depth (length part) temps depth 1 after fits kept.long (omega arith) (omega arith)) here))

-- an operand that is tested
pub tested : (r : Run) (ready : Ready) (depth : ℕ) (f : Evaluates ℤ) (hold fail : ℕ) →
    Gives r ready.code depth f (λ cells temps v. operand_number r.base cells temps ready.it ≡ v) →
    Tests r (ending_with ready (λ a. act.Test a hold fail)) depth f hold fail
tested r ready depth f hold fail gives =
    act-last r ready.code depth f (λ cells temps v. operand_number r.base cells temps ready.it ≡ v) gives (act.Test ready.it hold fail) (DueTests r depth hold fail)
    (λ p q rest temps end start cells n v after found kept is span long next.
    subst (λ x. Arrives r.code (st r (p + 1 + (if is_one x then hold else fail)) cells after n) end) (sym is) (next after kept span))

-- an operand that is moved
pub moved : (r : Run) (ready : Ready) (depth : ℕ) (f : Evaluates ℤ) (into : Operand) →
    Gives r ready.code depth f (λ cells temps v. operand_number r.base cells temps ready.it ≡ v) →
    Writes r (ending_with ready (λ a. act.Move into a)) depth f into
moved r ready depth f into gives =
    act-last r ready.code depth f (λ cells temps v. operand_number r.base cells temps ready.it ≡ v) gives (act.Move into ready.it) (DueWrites r depth into)
    (λ p q rest temps end start cells n v after found kept is span long next.
    subst (λ x. Arrives r.code (with_number (st r (p + 1) cells after n) into x) end) (sym is) (next after kept span))

pub ending-filled : (ready : Ready) (does : Operand → Act) → 1 ≤ length (ending_with ready does)
ending-filled ready does =
    let whole : length (ready.code ++ uncounted (does ready.it) ∷ []) ≡ length ready.code + 1 = length-append ready.code (uncounted (does ready.it) ∷ []) in omega arith

-- ---- compiled expressions, by what they are made of

pub values-valued : (r : Run) (calm : Bool) (ready : Bool → ℕ → Ready) (into : Bool → ℕ → Operand → Code) (f : Evaluates ℤ) →
    (calm ≡ true → (base : ℕ) (cells : Cells) → (f base cells).cells ≡ cells) → ((late : Bool) (depth : ℕ) → Holds late depth (ready late depth).it) →
    ((late : Bool) (depth : ℕ) → depth_behind depth (ready late depth).it ≤ depth + length (ready late depth).code) →
    ((late : Bool) (depth : ℕ) → (late ≡ true → calm ≡ true) →
    Gives r (ready late depth).code depth f (λ cells temps v. operand_number r.base cells temps (ready late depth).it ≡ v)) →
    ((late : Bool) (depth : ℕ) (o : Operand) → 1 ≤ length (into late depth o)) →
    ((late : Bool) (depth : ℕ) (o : Operand) → (late ≡ true → calm ≡ true) → Writes r (into late depth o) depth f o) →
    Values r (valued calm ready into) f
values-valued r calm ready into f keeps holds deep gives filled writes = record {
  keeps = keeps;
  holds = holds;
  deep = deep;
  ready = gives;
  filled = filled;
  into = writes;
  test_filled = λ late depth hold fail. ending-filled (ready late depth) (λ a. act.Test a hold fail);
  test = λ late depth hold fail calls. tested r (ready late depth) depth f hold fail (gives late depth calls);
}

made-deep : (into : Bool → ℕ → Operand → Code) → ((late : Bool) (depth : ℕ) (o : Operand) → 1 ≤ length (into late depth o)) → (late : Bool) (depth : ℕ) →
    suc depth ≤ depth + length (into late depth (op.Temporary depth))
made-deep into filled late depth = let some : 1 ≤ length (into late depth (op.Temporary depth)) = filled late depth (op.Temporary depth) in omega arith

pub values-written : (r : Run) (calm : Bool) (into : Bool → ℕ → Operand → Code) (f : Evaluates ℤ) →
    (calm ≡ true → (base : ℕ) (cells : Cells) → (f base cells).cells ≡ cells) →
    ((late : Bool) (depth : ℕ) (o : Operand) → 1 ≤ length (into late depth o)) →
    ((late : Bool) (depth : ℕ) (o : Operand) → (late ≡ true → calm ≡ true) → Writes r (into late depth o) depth f o) →
    Values r (written_valued calm into) f
values-written r calm into f keeps filled writes =
    values-valued r calm (λ late. made (into late)) into f keeps (λ late depth. refl) (made-deep into filled)
    (λ late depth calls.
    made-gives r (into late depth (op.Temporary depth)) depth f (filled late depth (op.Temporary depth)) (writes late depth (op.Temporary depth) calls))
    filled writes

pub values-condition : (r : Run) (calm : Bool) (into : Bool → ℕ → Operand → Code) (test : Bool → ℕ → ℕ → ℕ → Code) (f : Evaluates ℤ) →
    (calm ≡ true → (base : ℕ) (cells : Cells) → (f base cells).cells ≡ cells) →
    ((late : Bool) (depth : ℕ) (o : Operand) → 1 ≤ length (into late depth o)) →
    ((late : Bool) (depth : ℕ) (o : Operand) → (late ≡ true → calm ≡ true) → Writes r (into late depth o) depth f o) →
    ((late : Bool) (depth hold fail : ℕ) → 1 ≤ length (test late depth hold fail)) →
    ((late : Bool) (depth hold fail : ℕ) → (late ≡ true → calm ≡ true) → Tests r (test late depth hold fail) depth f hold fail) →
    Values r (tested_valued calm into test) f
values-condition r calm into test f keeps filled writes some tests = record {
  keeps = keeps;
  holds = λ late depth. refl;
  deep = made-deep into filled;
  ready = λ late depth calls.
      made-gives r (into late depth (op.Temporary depth)) depth f (filled late depth (op.Temporary depth)) (writes late depth (op.Temporary depth) calls);
  filled = filled;
  into = writes;
  test_filled = some;
  test = tests;
}

-- ---- a number

pub constant-writes : (r : Run) (n : ℤ) (depth : ℕ) (into : Operand) → Writes r (uncounted (act.Constant into n) ∷ []) depth (at_once n) into
constant-writes r n depth into =
    act-last r [] depth (at_once n) (λ cells temps v. v ≡ n) (gives-at-once r depth (λ base cells. n) (λ cells temps v. v ≡ n) (λ cells temps. refl))
    (act.Constant into n) (DueWrites r depth into)
    (λ p q rest temps end start cells k v after found kept is span long next.
    subst (λ x. Arrives r.code (with_number (st r (p + 1) cells after k) into x) end) is (next after kept span))

-- a number by whether it is small
abbrev number_by : Bool → ℤ → ℕ → Ready
number_by small n depth = if small then record { code = []; it = op.Literal n } else made (λ _ into. uncounted (act.Constant into n) ∷ []) depth

number-holds : (small late : Bool) (n : ℤ) (depth : ℕ) → Holds late depth (number_by small n depth).it
number-holds true late n depth = tt
number-holds false late n depth = refl

number-deep : (small : Bool) (n : ℤ) (depth : ℕ) → depth_behind depth (number_by small n depth).it ≤ depth + length (number_by small n depth).code
number-deep true n depth = omega arith
number-deep false n depth = omega arith

number-gives : (r : Run) (small : Bool) (n : ℤ) (depth : ℕ) →
    Gives r (number_by small n depth).code depth (at_once n) (λ cells temps v. operand_number r.base cells temps (number_by small n depth).it ≡ v)
number-gives r true n depth =
    gives-at-once r depth (λ base cells. n) (λ cells temps v. operand_number r.base cells temps (op.Literal n) ≡ v) (λ cells temps. refl)
number-gives r false n depth =
    made-gives r (uncounted (act.Constant (op.Temporary depth) n) ∷ []) depth (at_once n) (omega arith) (constant-writes r n depth (op.Temporary depth))

pub literal-values : (r : Run) (n : ℤ) → Values r (literal_valued n) (at_once n)
literal-values r n =
    values-valued r true (λ late depth. number_ready n depth) (λ late depth into. uncounted (act.Constant into n) ∷ []) (at_once n)
    (λ calm base cells. refl) (λ late depth. number-holds (is_small n) late n depth) (λ late depth. number-deep (is_small n) n depth)
    (λ late depth calls. number-gives r (is_small n) n depth) (λ late depth into. omega arith) (λ late depth into calls. constant-writes r n depth into)
