-- Runs up to their ends.
use Rattle.std.proofs.Common.{◌≡◌, ℕ, suc, zero, ◌+◌, ◌-◌, ◌^◌, ◌≤◌, ◌<◌, min, ℤ, Bool, true, false, List, [], ◌∷◌, length, Option, Some, None, arith, sym, ◌∙◌}
use Rattle.std.proofs.Common.{ap, subst, refl, length-set}
use Rattle.std.specs.Prelude.{if◌then◌else◌, nat_lt, not, slice_get}
use Rattle.bl_tree.specs.Numbers.{is_one, number_of}
use Rattle.bl_ctext_semantics_laws.specs.Flat.{Cells, cell_at, compared, frame_begun, prelude_value}
use Rattle.bl_ctext_semantics_laws.specs.Layout.{capped}
use Rattle.bl_crun_code.specs.declared.instruction.Act.{Act}
use Rattle.bl_crun_code.specs.declared.instruction.Act.TheVariants as act
use Rattle.bl_crun_code.specs.declared.instruction.Caller.{Caller}
use Rattle.bl_crun_code.specs.declared.instruction.Instruction.{Instruction}
use Rattle.bl_crun_code.specs.declared.instruction.Operand.{Operand}
use Rattle.bl_crun_code.specs.declared.instruction.Operand.TheVariants as op
use Rattle.bl_crun_code.specs.Code.{Code}
use Rattle.bl_crun_code.specs.Laws.{Arrives, entry_state}
use Rattle.bl_crun_code.specs.Vm.{StepResult, RunsTo, VmState, ahead, args_in, caller_resumed, passing_by, does, done, written_if, goes, last, more, next_turn}
use Rattle.bl_crun_code.specs.Vm.{vm_step, step_at, stops}
use Rattle.bl_crun_code.specs.Vm.{element, operand_in, trapped, with_number}
use Rattle.bl_crun_code_vm.specs.declared.flow.Flow.{Flow}
use Rattle.bl_crun_code_vm.specs.declared.flow.Flow.TheVariants as flow
use Rattle.bl_crun_code_vm.specs.Ends.{Ended, Halts, IsEnd}
use Rattle.bl_crun_code_vm.specs.Steps.{shown_count}
use Rattle.bl_crun_code_vm.specs.inner.Running.{CanRun}
use Rattle.bl_crun_code_vm.specs.inner.State.{Queue, RegisterState, run_start, rested, state_of}
use Rattle.bl_crun_code_vm.specs.inner.Stepping.{Came, StepDone, shown_step}
use Rattle.bl_crun_code_vm.proofs.Counted.{shown-sum, shown-twice}
use Rattle.bl_crun_code_vm.proofs.Frames.{length-frame}
use Rattle.bl_crun_code_vm.proofs.Counts.{counting, does-counts, recounted}

-- ---- a run has one end

no-end : (a b : StepResult) → a ≡ b → IsEnd a → IsEnd b
no-end a b e h = subst IsEnd e h

goes-inj : (s t : VmState) → goes s ≡ goes t → s ≡ t
goes-inj s t e = cc

pub one-end : (code : Code) (n k : ℕ) (s : VmState) (a b : StepResult) → RunsTo code n s a → RunsTo code k s b → IsEnd a → IsEnd b → a ≡ b
one-end code _ _ _ _ _ (last s a e) (last _ b f) ia ib = sym e ∙ f
one-end code _ _ _ _ _ (last s a e) (more k _ u b f q) ia ib = absurd (no-end a (goes u) (sym e ∙ f) ia)
one-end code _ _ _ _ _ (more n s t a e r) (last _ b f) ia ib = absurd (no-end b (goes t) (sym f ∙ e) ib)
one-end code _ _ _ _ _ (more n s t a e r) (more k _ u b f q) ia ib =
    let same : u ≡ t = goes-inj u t (sym f ∙ e) in
    one-end code n k t a b r (subst (λ (x : VmState). RunsTo code k x b) same q) ia ib

-- ---- what a machine shows

abbrev pub as_shown : VmState → VmState
as_shown s = counting (shown_count s.count) s

abbrev pub as_result : StepResult → StepResult
as_result (goes s) = goes (as_shown s)
as_result (done cells count result) = done cells (shown_count count) result
as_result (trapped cells count) = trapped cells (shown_count count)

min-zero : (m : ℕ) → min 0 m ≡ 0
min-zero m = omega arith

-- a result whose count is known
result-shown : (c : ℕ) (r : StepResult) → r ≡ recounted c r → recounted (shown_count c) r ≡ as_result r
result-shown c (goes t) e = let same : t.count ≡ c = ap (λ (x : VmState). x.count) (goes-inj t (counting c t) e) in
    ap (λ (n : ℕ). goes (counting (shown_count n) t)) (sym same)
result-shown c (done cells n v) e = let same : n ≡ c = cc in ap (λ (k : ℕ). done cells (shown_count k) v) (sym same)
result-shown c (trapped cells n) e = let same : n ≡ c = cc in ap (λ (k : ℕ). trapped cells (shown_count k)) (sym same)

pub step-shown : (s : VmState) (i : Option Instruction) → shown_step (as_shown s) i ≡ as_result (step_at s i)
step-shown s None = refl
step-shown s (Some i) =
    let k : ℕ = i.statements in
    let t : VmState = counting (s.count + k) s in
    ap (λ (n : ℕ). does (counting n s) i.act) (shown-sum s.count k)
    ∙ does-counts (shown_count (s.count + k)) t i.act
    ∙ result-shown (s.count + k) (does t i.act) (does-counts (s.count + k) t i.act)

-- ---- how many steps are left of so many

abbrev pub left_after : (VmState → ℕ) → StepResult → ℕ
left_after left (goes s) = suc (left s)
left_after left (done cells count result) = 1
left_after left (trapped cells count) = 1

abbrev pub left : Code → ℕ → VmState → ℕ
left code zero s = 0
left code (suc n) s = left_after (left code n) (vm_step code s)

abbrev count_behind : ℕ → Option Instruction → ℕ
count_behind c None = c
count_behind c (Some i) = c + i.statements

step-counts : (c : ℕ) (s : VmState) (i : Option Instruction) → step_at (counting c s) i ≡ recounted (count_behind c i) (step_at s i)
step-counts c s None = refl
step-counts c s (Some i) = does-counts (c + i.statements) (counting (s.count + i.statements) s) i.act

over-left : (f : VmState → ℕ) (c : ℕ) (r : StepResult) → IsEnd r → left_after f (recounted c r) ≡ 1
over-left f c (goes s) i = absurd i
over-left f c (done cells n v) i = refl
over-left f c (trapped cells n) i = refl

pub left-is : (code : Code) (k : ℕ) (s : VmState) (end : StepResult) → RunsTo code k s end → IsEnd end → (n : ℕ) → k ≤ n → (c : ℕ) →
    left code n (counting c s) ≡ k
left-is code _ _ _ (last s end e) i zero l c = absurd (omega arith)
left-is code _ _ _ (last s end e) i (suc n) l c =
    ap (left_after (left code n)) (step-counts c s (slice_get code s.at) ∙ ap (recounted (count_behind c (slice_get code s.at))) e)
    ∙ over-left (left code n) (count_behind c (slice_get code s.at)) end i
left-is code _ _ _ (more k s t end e r) i zero l c = absurd (omega arith)
left-is code _ _ _ (more k s t end e r) i (suc n) l c =
    ap (left_after (left code n)) (step-counts c s (slice_get code s.at) ∙ ap (recounted (count_behind c (slice_get code s.at))) e)
    ∙ ap (λ (x : ℕ). suc x) (left-is code k t end r i n (omega arith) (count_behind c (slice_get code s.at)))

-- ---- temporaries and room stay

abbrev Stays : VmState → StepResult → Type 0
Stays s (goes t) = (length t.temps ≡ length s.temps) × (t.room ≡ s.room)
Stays s (done cells n v) = Unit {0}
Stays s (trapped cells n) = Unit {0}

written-stays : (s : VmState) (o : Operand) (v : ℤ) → Stays s (goes (with_number s o v))
written-stays s (op.Literal k) v = (refl, refl)
written-stays s (op.Temporary j) v = (length-set s.temps j v, refl)
written-stays s (op.Near k) v = (refl, refl)
written-stays s (op.Through p k) v = (refl, refl)
written-stays s (op.Indirect j) v = (refl, refl)
written-stays s (op.NearAddress k) v = (refl, refl)
written-stays s (op.ThroughAddress p k) v = (refl, refl)

given-stays : (s : VmState) (o : Operand) (answer : Option ℤ) → Stays s (written_if s o answer)
given-stays s o None = tt
given-stays s o (Some v) = written-stays (ahead s) o v

chosen-stays : (s : VmState) (answer : Option ℤ) (hold fail : ℕ) → Stays s (passing_by s answer hold fail)
chosen-stays s None hold fail = tt
chosen-stays s (Some c) hold fail = (refl, refl)

choice-stays : (b : Bool) (s t : VmState) → Stays s (goes t) → Stays s (if b then goes t else stops s)
choice-stays true s t h = h
choice-stays false s t h = tt

resumed-stays : (s : VmState) (v : ℤ) (callers : List Caller) → Stays s (caller_resumed s v callers)
resumed-stays s v [] = tt
resumed-stays s v (w ∷ rest) = written-stays (record s { at = w.back; base = w.base; callers = rest }) w.into v

does-stays : (s : VmState) (a : Act) → Stays s (does s a)
does-stays s (act.Move into a) = written-stays (ahead s) into (operand_in s a)
does-stays s (act.Constant into v) = written-stays (ahead s) into v
does-stays s (act.Element j at i long size) = given-stays s (op.Temporary j) (element long size (operand_in s at) (operand_in s i))
does-stays s (act.Copy at from size) = (refl, refl)
does-stays s (act.Zero at size) = (refl, refl)
does-stays s (act.Negate into a) = written-stays (ahead s) into (number_of (not (is_one (operand_in s a))))
does-stays s (act.Two o into a b) = given-stays s into (compared o (operand_in s a) (operand_in s b))
does-stays s (act.One builtin into a) = given-stays s into (prelude_value builtin (operand_in s a ∷ []))
does-stays s (act.Both builtin into a b) = given-stays s into (prelude_value builtin (operand_in s a ∷ operand_in s b ∷ []))
does-stays s (act.Skip k) = (refl, refl)
does-stays s (act.Again k) = (refl, refl)
does-stays s (act.Test a hold fail) = chosen-stays s (Some (operand_in s a)) hold fail
does-stays s (act.Compare o a b hold fail) = chosen-stays s (compared o (operand_in s a) (operand_in s b)) hold fail
does-stays s (act.Turn j) = given-stays s (op.Temporary j) (next_turn (cell_at s.temps j))
does-stays s (act.Call callee) =
    choice-stays (nat_lt (length s.callers) s.room) s
    (entry_state (record { entry = callee.entry; frame = callee.frame }) (capped (s.base + callee.passed))
    (args_in s.temps callee.first callee.args) s.cells s.temps
    (record { back = s.at + 1; base = s.base; into = callee.into } ∷ s.callers) s.room s.count) (refl, refl)
does-stays s (act.Return a) = resumed-stays s (operand_in s a) s.callers
does-stays s act.Stop = tt

step-stays : (s : VmState) (i : Option Instruction) → Stays s (step_at s i)
step-stays s None = tt
step-stays s (Some i) = does-stays (counting (s.count + i.statements) s) i.act

-- ---- a machine that runs

-- a machine on its way from a state to its end
pub record Going (code : Code) (steps : ℕ) (first from m : VmState) : Type 0 where
  pub end : StepResult
  pub over : IsEnd end
  pub whole : RunsTo code steps first end
  pub s : VmState
  pub rest : ℕ
  pub fewer : rest ≤ steps
  pub runs : RunsTo code rest s end
  pub shows : m ≡ as_shown s
  pub temps_stay : length s.temps ≡ length from.temps
  pub room_stays : s.room ≡ from.room

pub begins : (code : Code) (steps : ℕ) (first from m : VmState) → Halts code steps first → first.count ≡ 0 → length first.temps ≡ length from.temps →
    first.room ≡ from.room → m ≡ first → Going code steps first from m
begins code steps first from m h none temps room e = record {
  end = h.end;
  over = h.over;
  whole = h.runs;
  s = first;
  rest = steps;
  fewer = omega arith;
  runs = h.runs;
  shows =
      let counts : first.count ≡ shown_count first.count = none ∙ sym (min-zero (2 ^ 128 - 1)) ∙ ap shown_count (sym none) in
      e ∙ ap (λ (n : ℕ). counting n first) counts;
  temps_stay = temps;
  room_stays = room;
}

-- what a machine has come to, by the step of the run
came-as : (code : Code) (s m : VmState) (answer : Flow) (n : VmState) → m ≡ as_shown s → StepDone code m answer n → Came m (as_result (vm_step code s)) answer n
came-as code s m answer n shows c =
    subst (λ (x : StepResult). Came m x answer n) (step-shown s (slice_get code s.at))
    (subst (λ (x : VmState). Came m (shown_step x (slice_get code x.at)) answer n) shows c)

no-goes : (m : VmState) (end : StepResult) (n : VmState) → IsEnd end → Came m (as_result end) flow.Goes n → ⊥
no-goes m (goes s) n i c = i
no-goes m (done cells k v) n i c = c
no-goes m (trapped cells k) n i c = c

-- what a step that goes on leaves of a run
record Onward (code : Code) (k : ℕ) (s : VmState) (end : StepResult) (n : VmState) : Type 0 where
  t : VmState
  rest : ℕ
  less : suc rest ≡ k
  is : vm_step code s ≡ goes t
  runs : RunsTo code rest t end
  shows : n ≡ as_shown t

onward : (code : Code) (k : ℕ) (s : VmState) (end : StepResult) (m n : VmState) → RunsTo code k s end → IsEnd end →
    Came m (as_result (vm_step code s)) flow.Goes n →
    Onward code k s end n
onward code _ _ _ m n (last s end e) i c = absurd (no-goes m end n i (subst (λ (x : StepResult). Came m (as_result x) flow.Goes n) e c))
onward code _ _ _ m n (more k s t end e r) i c =
    record { t = t; rest = k; less = refl; is = e; runs = r; shows = subst (λ (x : StepResult). Came m (as_result x) flow.Goes n) e c }

stays-to : (code : Code) (s t : VmState) → vm_step code s ≡ goes t → (length t.temps ≡ length s.temps) × (t.room ≡ s.room)
stays-to code s t e = subst (Stays s) e (step-stays s (slice_get code s.at))

pub goes-on : (code : Code) (steps : ℕ) (first from m n : VmState) → Going code steps first from m → StepDone code m flow.Goes n →
    Going code steps first from n
goes-on code steps first from m n g c =
    let o : Onward code g.rest g.s g.end n = onward code g.rest g.s g.end m n g.runs g.over (came-as code g.s m flow.Goes n g.shows c) in
    let stays : (length o.t.temps ≡ length g.s.temps) × (o.t.room ≡ g.s.room) = stays-to code g.s o.t o.is in
    record {
      end = g.end;
      over = g.over;
      whole = g.whole;
      s = o.t;
      rest = o.rest;
      fewer = omega (arith, o.less, g.fewer);
      runs = o.runs;
      shows = o.shows;
      temps_stay = stays.0 ∙ g.temps_stay;
      room_stays = stays.1 ∙ g.room_stays;
    }

left-of : (code : Code) (steps : ℕ) (first from m : VmState) (g : Going code steps first from m) → left code steps m ≡ g.rest
left-of code steps first from m g =
    ap (left code steps) g.shows ∙ left-is code g.rest g.s g.end g.runs g.over steps g.fewer (shown_count g.s.count)

pub goes-less : (code : Code) (steps : ℕ) (first from m n : VmState) → Going code steps first from m → StepDone code m flow.Goes n →
    left code steps n < left code steps m
goes-less code steps first from m n g c =
    let o : Onward code g.rest g.s g.end n = onward code g.rest g.s g.end m n g.runs g.over (came-as code g.s m flow.Goes n g.shows c) in
    let before : left code steps m ≡ g.rest = left-of code steps first from m g in
    let fewer : o.rest ≤ steps = omega (arith, o.less, g.fewer) in
    let after : left code steps n ≡ o.rest =
    ap (left code steps) o.shows ∙ left-is code o.rest o.t g.end o.runs g.over steps fewer (shown_count o.t.count) in
    omega (arith, o.less)

-- ---- the end

abbrev pub IsAnswer : Flow → Option ℤ → Type 0
IsAnswer flow.Goes o = ⊥
IsAnswer (flow.Done x) o = o ≡ Some x
IsAnswer flow.Trapped o = o ≡ None

came-end : (from m : VmState) (end : StepResult) (answer : Flow) (o : Option ℤ) (n : VmState) → length m.temps ≡ length from.temps →
    m.room ≡ from.room → IsAnswer answer o → Came m (as_result end) answer n → Ended from end o n
came-end from m (goes s) flow.Goes o n a b i w = absurd i
came-end from m (goes s) (flow.Done x) o n a b i w = absurd w
came-end from m (goes s) flow.Trapped o n a b i w = absurd w
came-end from m (done c k r) flow.Goes o n a b i w = absurd i
came-end from m (done c k r) (flow.Done x) o n a b i w =
    subst (λ (p : Option ℤ). Ended from (done c k r) p n) (sym i) (
      record {
        cells_are = w.0.cells_are;
        count_is = ap shown_count w.0.count_is ∙ shown-twice k;
        temps_stay = ap (λ (xs : List ℤ). length xs) w.0.temps_are ∙ a;
        room_stays = w.0.room_is ∙ b;
      },
      w.1,
    )
came-end from m (done c k r) flow.Trapped o n a b i w = absurd w
came-end from m (trapped c k) flow.Goes o n a b i w = absurd i
came-end from m (trapped c k) (flow.Done x) o n a b i w = absurd w
came-end from m (trapped c k) flow.Trapped o n a b i w =
    subst (λ (p : Option ℤ). Ended from (trapped c k) p n) (sym i)
    (record {
      cells_are = w.cells_are;
      count_is = ap shown_count w.count_is ∙ shown-twice k;
      temps_stay = ap (λ (xs : List ℤ). length xs) w.temps_are ∙ a;
      room_stays = w.room_is ∙ b;
    })

no-answer : (m t : VmState) (answer : Flow) (o : Option ℤ) (n : VmState) → IsAnswer answer o → Came m (goes t) answer n → ⊥
no-answer m t flow.Goes o n a w = a
no-answer m t (flow.Done x) o n a w = w
no-answer m t flow.Trapped o n a w = w

end-came : (code : Code) (k : ℕ) (s : VmState) (end : StepResult) (m : VmState) (answer : Flow) (o : Option ℤ) (n : VmState) → RunsTo code k s end → IsEnd end →
    IsAnswer answer o → Came m (as_result (vm_step code s)) answer n → Came m (as_result end) answer n
end-came code _ _ _ m answer o n (last s end e) i a c = subst (λ (x : StepResult). Came m (as_result x) answer n) e c
end-came code _ _ _ m answer o n (more k s t end e r) i a c =
    absurd (no-answer m (as_shown t) answer o n a (subst (λ (x : StepResult). Came m (as_result x) answer n) e c))

pub ends : (code : Code) (steps : ℕ) (first from m n : VmState) (answer : Flow) (o : Option ℤ) → Going code steps first from m → IsAnswer answer o →
    StepDone code m answer n → (end : StepResult) → Arrives code first end → IsEnd end → Ended from end o n
ends code steps first from m n answer o g a c end arrives over =
    let same : g.end ≡ end = one-end code steps arrives.steps first g.end end g.whole arrives.runs g.over over in
    let came : Came m (as_result g.end) answer n =
    end-came code g.rest g.s g.end m answer o n g.runs g.over a (came-as code g.s m answer n g.shows c) in
    let temps : length m.temps ≡ length from.temps = ap (λ (x : VmState). length x.temps) g.shows ∙ g.temps_stay in
    let room : m.room ≡ from.room = ap (λ (x : VmState). x.room) g.shows ∙ g.room_stays in
    came-end from m end answer o n temps room a (subst (λ (x : StepResult). Came m (as_result x) answer n) same came)

-- ---- a machine at rest

pub ended-rests : (first : VmState) (end : StepResult) (o answer : Option ℤ) (r : RegisterState) (count : ℕ) (cells : Cells) (temps : List ℤ) (w : Queue) →
    Ended first end o (state_of r cells temps w) → answer ≡ o → count ≡ r.count → Ended first end answer (rested count cells temps w)
ended-rests first (goes s) None answer r count cells temps w e a h = absurd e
ended-rests first (goes s) (Some x) answer r count cells temps w e a h = absurd e
ended-rests first (done c k v) None answer r count cells temps w e a h = absurd e
ended-rests first (done c k v) (Some x) answer r count cells temps w e a h =
    subst (λ (p : Option ℤ). Ended first (done c k v) p (rested count cells temps w)) (sym a) (
      record {
        cells_are = e.0.cells_are;
        count_is = ap shown_count h ∙ e.0.count_is;
        temps_stay = e.0.temps_stay;
        room_stays = e.0.room_stays;
      },
      e.1,
    )
ended-rests first (trapped c k) None answer r count cells temps w e a h =
    subst (λ (p : Option ℤ). Ended first (trapped c k) p (rested count cells temps w)) (sym a)
    (record {
      cells_are = e.cells_are;
      count_is = ap shown_count h ∙ e.count_is;
      temps_stay = e.temps_stay;
      room_stays = e.room_stays;
    })
ended-rests first (trapped c k) (Some x) answer r count cells temps w e a h = absurd e

pub ended-from : (a b : VmState) (end : StepResult) (answer : Option ℤ) (m : VmState) → length a.temps ≡ length b.temps → a.room ≡ b.room →
    Ended a end answer m → Ended b end answer m
ended-from a b (goes s) None m t r e = absurd e
ended-from a b (goes s) (Some x) m t r e = absurd e
ended-from a b (done c k v) None m t r e = absurd e
ended-from a b (done c k v) (Some x) m t r e = (
  record { cells_are = e.0.cells_are; count_is = e.0.count_is; temps_stay = e.0.temps_stay ∙ t; room_stays = e.0.room_stays ∙ r },
  e.1,
)
ended-from a b (trapped c k) None m t r e =
    record { cells_are = e.cells_are; count_is = e.count_is; temps_stay = e.temps_stay ∙ t; room_stays = e.room_stays ∙ r }
ended-from a b (trapped c k) (Some x) m t r e = absurd e

pub begun-is : (entry frame base : ℕ) (args : List ℤ) (cells after : Cells) (temps : List ℤ) (w left : Queue) → after ≡ frame_begun frame base args cells →
    left ≡ record w { callers = [] } →
    run_start entry base after temps left ≡ entry_state (record { entry = entry; frame = frame }) base args cells temps [] w.room 0
begun-is entry frame base args cells after temps w left e f =
    ap (λ (x : Cells). run_start entry base x temps left) e ∙ ap (λ (x : Queue). run_start entry base (frame_begun frame base args cells) temps x) f

pub can_run : (code : Code) (steps entry frame base : ℕ) (args : List ℤ) (cells these : Cells) (temps those : List ℤ) (room places : ℕ) → these ≡ cells →
    those ≡ temps → places ≡ room → length these ≤ 4294967295 →
    Halts code steps (entry_state (record { entry = entry; frame = frame }) base args cells temps [] room 0) →
    CanRun code steps (entry_state (record { entry = entry; frame = frame }) base args these those [] places 0)
can_run code steps entry frame base args cells these temps those room places a b r few halts = record {
  halts = subst (λ (x : ℕ). Halts code steps (entry_state (record { entry = entry; frame = frame }) base args these those [] x 0)) (sym r)
      (subst (λ (x : List ℤ). Halts code steps (entry_state (record { entry = entry; frame = frame }) base args these x [] room 0)) (sym b)
      (subst (λ (x : Cells). Halts code steps (entry_state (record { entry = entry; frame = frame }) base args x temps [] room 0)) (sym a) halts));
  few = omega (arith, length-frame frame base args these, few);
}
