-- What the machine does where a function of a file is called from outside.
use Rattle.std.proofs.Common.{◌≡◌, ℕ, ◌≤◌, ℤ, Bool, true, false, ◌&&◌, List, [], length, Option, Some, None, refl, ap, sym, subst, ◌∙◌, arith}
use Rattle.std.specs.Prelude.{nat_le, option_map}
use Rattle.bl_tree.specs.declared.text.Text.{Text}
use Rattle.bl_crun_code.specs.Code.{Code, FunctionEntry}
use Rattle.bl_crun_code.specs.Laws.{Arrives, BothDo, code_of_file, entry_in_file, entry_state, routine_in_file, vm_ended}
use Rattle.bl_crun_code.specs.Vm.{RunsTo, StepResult, VmState}
use Rattle.bl_crun_code.proofs.Files.{named-functions-run}
use Rattle.bl_crun_code_layout.specs.Views.{entry_for}
use Rattle.bl_crun_code_layout.specs.declared.here.Entry.{Entry as CodeEntry}
use Rattle.bl_ctext_semantics_laws.specs.Flat.{FlatAnswer, Routine, applied}
use Rattle.bl_ctext_semantics_laws.specs.Laws.{behind_objects, entered_flat}
use Rattle.bl_crun_code_vm.specs.Ends.{Ended, IsEnd}
use Rattle.bl_crun_code_vm.specs.Steps.{Over, shown_count}
use Rattle.bl_ctext_semantics.specs.Parts.{Parts}
use Rattle.bl_crun.specs.declared.call.Called.{Called}
use Rattle.bl_crun.specs.inner.CallsDone.{CallDone, Comes}

-- ---- steps

-- a machine has so many temporaries, and room for so many functions that wait
abbrev is-roomy : ℕ → ℕ → VmState → Bool
is-roomy numbers calls m = nat_le numbers (length m.temps) && nat_le calls m.room

roomy : (a b c d : ℕ) → a ≤ b → c ≤ d → nat_le a b && nat_le c d ≡ true
roomy a b c d h k = grind arith

roomy-temps : (a b c d : ℕ) → nat_le a b && nat_le c d ≡ true → a ≤ b
roomy-temps a b c d h = grind arith

roomy-room : (a b c d : ℕ) → nat_le a b && nat_le c d ≡ true → c ≤ d
roomy-room a b c d h = grind arith

-- how a function that does what its routine does comes to its end
arriving : (code : Code) (numbers calls : ℕ) (entry : FunctionEntry) (routine : Option Routine) (base : ℕ) (args : List ℤ) (m : VmState) →
    BothDo code numbers calls (Some entry) routine → is-roomy numbers calls m ≡ true →
    Arrives code (entry_state entry base args m.cells m.temps [] m.room 0)
    (vm_ended (applied routine base args m.cells).cells (applied routine base args m.cells).count (applied routine base args m.cells).answer)
arriving code numbers calls entry None base args m does fits = absurd does
arriving code numbers calls entry (Some routine) base args m does fits =
    does.does base args m.cells m.temps m.room (roomy-temps numbers (length m.temps) calls m.room fits) (roomy-room numbers (length m.temps) calls m.room fits)

-- in how many steps, where the machine has the room
steps_where : (code : Code) (numbers calls : ℕ) (entry : FunctionEntry) (routine : Option Routine) (base : ℕ) (args : List ℤ) (m : VmState) →
    BothDo code numbers calls (Some entry) routine → (fits : Bool) → is-roomy numbers calls m ≡ fits → ℕ
steps_where code numbers calls entry routine base args m does false is = 0
steps_where code numbers calls entry routine base args m does true is = (arriving code numbers calls entry routine base args m does is).steps

steps_in : (code : Code) (numbers calls : ℕ) (entry : Option FunctionEntry) (routine : Option Routine) (base : ℕ) (args : List ℤ) (m : VmState) →
    BothDo code numbers calls entry routine → ℕ
steps_in code numbers calls None routine base args m does = 0
steps_in code numbers calls (Some entry) routine base args m does =
    steps_where code numbers calls entry routine base args m does (is-roomy numbers calls m) refl

-- the steps of a function of a file that is called from outside
pub steps_of : Parts → Text → List ℤ → VmState → ℕ
steps_of file name args m =
    steps_in (code_of_file file.structs file.funcs) (length (code_of_file file.structs file.funcs)) (length file.funcs)
    (entry_in_file file.structs file.funcs name) (routine_in_file file.structs file.funcs name)
    (behind_objects file) args m (named-functions-run file.structs file.funcs name)

-- ---- what is called comes to its end

runs-where : (code : Code) (numbers calls : ℕ) (entry : FunctionEntry) (routine : Option Routine) (base : ℕ) (args : List ℤ) (m : VmState)
    (does : BothDo code numbers calls (Some entry) routine) (fits : Bool) (is : is-roomy numbers calls m ≡ fits) → is-roomy numbers calls m ≡ true →
    RunsTo code (steps_where code numbers calls entry routine base args m does fits is) (entry_state entry base args m.cells m.temps [] m.room 0)
    (vm_ended (applied routine base args m.cells).cells (applied routine base args m.cells).count (applied routine base args m.cells).answer)
unfolding steps_where
runs-where code numbers calls entry routine base args m does false is fits = absurd (differ (sym is ∙ fits))
  where
    differ : false ≡ true → ⊥
    differ e = cc
runs-where code numbers calls entry routine base args m does true is fits = (arriving code numbers calls entry routine base args m does is).runs

comes : (code : Code) (numbers calls : ℕ) (entry : Option FunctionEntry) (routine : Option Routine) (base : ℕ) (args : List ℤ) (m : VmState)
    (does : BothDo code numbers calls entry routine) →
    (o : Option CodeEntry) → option_map entry_for o ≡ entry → numbers ≤ length m.temps → calls ≤ m.room →
    Comes (steps_in code numbers calls entry routine base args m does) code o base args m (applied routine base args m.cells)
unfolding steps_in
comes code numbers calls None None base args m does None is n c = refl
comes code numbers calls None (Some routine) base args m does None is n c = absurd does
comes code numbers calls None routine base args m does (Some e) is n c = cc
comes code numbers calls (Some entry) routine base args m does None is n c = cc
comes code numbers calls (Some entry) routine base args m does (Some e) is n c =
    subst (λ f. RunsTo code (steps_where code numbers calls entry routine base args m does (is-roomy numbers calls m) refl)
    (entry_state f base args m.cells m.temps [] m.room 0)
    (vm_ended (applied routine base args m.cells).cells (applied routine base args m.cells).count (applied routine base args m.cells).answer))
    (sym (some_is (entry_for e) entry is))
    (runs-where code numbers calls entry routine base args m does (is-roomy numbers calls m) refl (roomy numbers (length m.temps) calls m.room n c))
  where
    some_is : (a b : FunctionEntry) → Some a ≡ Some b → a ≡ b
    some_is a b h = cc

pub file-comes : (file : Parts) (name : Text) (args : List ℤ) (m : VmState) (code : Code) (o : Option CodeEntry) (base : ℕ) →
    code ≡ code_of_file file.structs file.funcs → option_map entry_for o ≡ entry_in_file file.structs file.funcs name →
    base ≡ behind_objects file → length code ≤ length m.temps → length file.funcs ≤ m.room →
    Comes (steps_of file name args m) code o base args m (entered_flat file name args m.cells)
unfolding steps_of entered_flat
file-comes file name args m code o base code-is entry-is base-is n c =
    subst (λ k. Comes (steps_of file name args m) k o base args m (entered_flat file name args m.cells)) (sym code-is)
    (subst (λ b. Comes (steps_of file name args m) (code_of_file file.structs file.funcs) o b args m (entered_flat file name args m.cells))
    (sym base-is)
    (comes (code_of_file file.structs file.funcs) (length (code_of_file file.structs file.funcs)) (length file.funcs)
    (entry_in_file file.structs file.funcs name) (routine_in_file file.structs file.funcs name)
    (behind_objects file) args m (named-functions-run file.structs file.funcs name) o entry-is (subst (λ k. length k ≤ length m.temps) code-is n) c))

-- ---- ends

is-end : (cells : List ℤ) (count : ℕ) (o : Option ℤ) → IsEnd (vm_ended cells count o)
is-end cells count None = tt
is-end cells count (Some n) = tt

-- what a run's end says of an answer
end-says : (cells : List ℤ) (count : ℕ) (o answer : Option ℤ) (before after : VmState) → Ended before (vm_ended cells count o) answer after →
    (answer ≡ o) × Over cells count (length before.temps) before.room after
end-says cells count None None before after e = (refl, e)
end-says cells count None (Some a) before after e = absurd e
end-says cells count (Some r) None before after e = absurd e
end-says cells count (Some r) (Some a) before after e = (ap Some e.1, e.0)

pub call-done : (steps : ℕ) (code : Code) (o : Option CodeEntry) (e : CodeEntry) (base : ℕ) (args : List ℤ) (m after : VmState)
    (called : Called) → o ≡ Some e →
    ((end : StepResult) → Arrives code (entry_state (entry_for e) base args m.cells m.temps [] m.room 0) end → IsEnd end → Ended m end called.answer after) →
    called.count ≡ shown_count after.count →
    (l : FlatAnswer ℤ) → Comes steps code o base args m l → CallDone l m called after
call-done steps code None e base args m after called is ends count l h = cc
call-done steps code (Some f) e base args m after called is ends count l h =
    let runs : RunsTo code steps (entry_state (entry_for e) base args m.cells m.temps [] m.room 0) (vm_ended l.cells l.count l.answer) =
    subst (λ k. RunsTo code steps (entry_state (entry_for k) base args m.cells m.temps [] m.room 0) (vm_ended l.cells l.count l.answer)) (some_is f e is) h in
    let d = end-says l.cells l.count l.answer called.answer m after
    (ends (vm_ended l.cells l.count l.answer) (record { steps = steps; runs = runs }) (is-end l.cells l.count l.answer)) in
    record { answer = d.0; count = count ∙ d.1.count_is; cells = d.1.cells_are; temps = d.1.temps_stay; room = d.1.room_stays }
  where
    some_is : (a b : CodeEntry) → Some a ≡ Some b → a ≡ b
    some_is a b h = cc
