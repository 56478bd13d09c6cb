-- What a machine does depends on no count of statements, but for the counts that it leaves.
use Rattle.std.proofs.Common.{◌≡◌, ℕ, ◌+◌, ℤ, Bool, true, false, List, [], ◌∷◌, length, Option, Some, None, refl}
use Rattle.std.specs.Prelude.{if◌then◌else◌, nat_lt, not}
use Rattle.bl_tree.specs.Numbers.{is_one, number_of}
use Rattle.bl_ctext_semantics_laws.specs.Flat.{compared, prelude_value}
use Rattle.bl_ctext_semantics_laws.specs.Layout.{capped}
use Rattle.bl_crun_code.specs.declared.instruction.Act.{Act}
use Rattle.bl_crun_code.specs.declared.instruction.Act.TheVariants as act
use Rattle.bl_crun_code.specs.declared.instruction.Callee.{Callee}
use Rattle.bl_crun_code.specs.declared.instruction.Caller.{Caller}
use Rattle.bl_crun_code.specs.declared.instruction.Operand.{Operand}
use Rattle.bl_crun_code.specs.declared.instruction.Operand.TheVariants as op
use Rattle.bl_crun_code.specs.Laws.{entry_state}
use Rattle.bl_crun_code.specs.Vm.{StepResult, VmState, ahead, args_in, caller_resumed, passing_by, does, done, element, entering, written_if, goes, next_turn}
use Rattle.bl_crun_code.specs.Vm.{operand_in, stops, trapped}
use Rattle.bl_crun_code.specs.Vm.{with_number}

-- a state with another count
abbrev pub counting : ℕ → VmState → VmState
counting n s = record s { count = n }

-- a result with another count
abbrev pub recounted : ℕ → StepResult → StepResult
recounted n (goes s) = goes (counting n s)
recounted n (done cells count result) = done cells n result
recounted n (trapped cells count) = trapped cells n

written-counts : (n : ℕ) (s : VmState) (o : Operand) (v : ℤ) → goes (with_number (counting n s) o v) ≡ recounted n (goes (with_number s o v))
written-counts n s (op.Literal k) v = refl
written-counts n s (op.Temporary j) v = refl
written-counts n s (op.Near k) v = refl
written-counts n s (op.Through p k) v = refl
written-counts n s (op.Indirect j) v = refl
written-counts n s (op.NearAddress k) v = refl
written-counts n s (op.ThroughAddress p k) v = refl

given-counts : (n : ℕ) (s : VmState) (o : Operand) (answer : Option ℤ) → written_if (counting n s) o answer ≡ recounted n (written_if s o answer)
given-counts n s o None = refl
given-counts n s o (Some v) = written-counts n (ahead s) o v

chosen-counts : (n : ℕ) (s : VmState) (answer : Option ℤ) (hold fail : ℕ) →
    passing_by (counting n s) answer hold fail ≡ recounted n (passing_by s answer hold fail)
chosen-counts n s None hold fail = refl
chosen-counts n s (Some c) hold fail = refl

choice-counts : (n : ℕ) (b : Bool) (s t : VmState) → (if b then goes (counting n s) else stops (counting n t)) ≡ recounted n (if b then goes s else stops t)
choice-counts n true s t = refl
choice-counts n false s t = refl

entering-counts : (n : ℕ) (s : VmState) (callee : Callee) → entering (counting n s) callee ≡ recounted n (entering s callee)
entering-counts n s callee =
    choice-counts n (nat_lt (length s.callers) s.room)
    (entry_state (record { entry = callee.entry; frame = callee.frame }) (capped (s.base + callee.passed))
    (args_in s.temps callee.first callee.args) s.cells s.temps
    (record { back = s.at + 1; base = s.base; into = callee.into } ∷ s.callers) s.room s.count) s

resumed-counts : (n : ℕ) (s : VmState) (v : ℤ) (callers : List Caller) → caller_resumed (counting n s) v callers ≡ recounted n (caller_resumed s v callers)
resumed-counts n s v [] = refl
resumed-counts n s v (w ∷ rest) = written-counts n (record s { at = w.back; base = w.base; callers = rest }) w.into v

pub does-counts : (n : ℕ) (s : VmState) (a : Act) → does (counting n s) a ≡ recounted n (does s a)
does-counts n s (act.Move into a) = written-counts n (ahead s) into (operand_in s a)
does-counts n s (act.Constant into v) = written-counts n (ahead s) into v
does-counts n s (act.Element j at i long size) = given-counts n s (op.Temporary j) (element long size (operand_in s at) (operand_in s i))
does-counts n s (act.Copy at from size) = refl
does-counts n s (act.Zero at size) = refl
does-counts n s (act.Negate into a) = written-counts n (ahead s) into (number_of (not (is_one (operand_in s a))))
does-counts n s (act.Two o into a b) = given-counts n s into (compared o (operand_in s a) (operand_in s b))
does-counts n s (act.One builtin into a) = given-counts n s into (prelude_value builtin (operand_in s a ∷ []))
does-counts n s (act.Both builtin into a b) = given-counts n s into (prelude_value builtin (operand_in s a ∷ operand_in s b ∷ []))
does-counts n s (act.Skip k) = refl
does-counts n s (act.Again k) = refl
does-counts n s (act.Test a hold fail) = chosen-counts n s (Some (operand_in s a)) hold fail
does-counts n s (act.Compare o a b hold fail) = chosen-counts n s (compared o (operand_in s a) (operand_in s b)) hold fail
does-counts n s (act.Turn j) = given-counts n s (op.Temporary j) (next_turn (operand_in s (op.Temporary j)))
does-counts n s (act.Call callee) = entering-counts n s callee
does-counts n s (act.Return a) = resumed-counts n s (operand_in s a) s.callers
does-counts n s act.Stop = refl
