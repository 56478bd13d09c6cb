-- What is prepared after the start and after a tick.
use Rattle.std.proofs.Common.{◌≡◌, ℕ, ◌+◌, ◌≤◌, ◌<◌, ◌^◌, ℤ, pos, true, List, [], ◌∷◌, length, take, drop, ◌-◌, replicate}
use Rattle.std.proofs.Common.{ap, sym, subst, ◌∙◌, arith}
use Rattle.std.specs.Prelude.{codes, is_some, min}
use Rattle.bl_crun_code.specs.Code.{Code}
use Rattle.bl_tree.specs.Ports.{in_ranges, row_fits, types_of}
use Rattle.bl_ctext_semantics_laws.specs.Flat.{FlatAnswer, with_args}
use Rattle.bl_ctext_semantics_laws.specs.Laws.{StartsAgree, TicksAgree, behind_objects, entered_flat, input_at, output_at}
use Rattle.bl_crun_code.specs.Vm.{VmState}
use Rattle.bl_crun_code_vm.specs.Steps.{with_cells}
use Rattle.bl_ctext_semantics.specs.Cells.{cells_of, inputs_of, outputs_of}
use Rattle.bl_ctext_semantics.specs.Parts.{Parts}
use Rattle.bl_ctext_semantics.specs.Sizes.{cells_needed}
use Rattle.bl_ctext_semantics.specs.Trace.{reply_of, start_cells, start_succeeds}
use Rattle.bl_crun_ports.specs.Layout.{kinds_of}
use Rattle.bl_crun_ports.specs.Ports.{PortsStand, inputs_start, outputs_start}
use Rattle.std.proofs.lemmas.List.{length-map}
use Rattle.bl_crun.specs.Cause.{IsRunnable}
use Rattle.bl_crun.specs.declared.call.Called.{Called}
use Rattle.bl_crun.specs.declared.prepared.Prepared.{Prepared}
use Rattle.bl_crun.specs.Done.{CellsKeep, first_cells}
use Rattle.bl_crun.specs.inner.CallsDone.{CallDone, Comes, IsStart, IsTick}
use Rattle.bl_crun.specs.Prepared.{PreparedInvariant, cell_numbers}
use Rattle.bl_crun.specs.inner.Ticked.{Ticked}
use Rattle.bl_crun.proofs.Calls.{file-comes, steps_of}
use Rattle.bl_crun.proofs.Cells.{cells-long, input-start, output-start}
use Rattle.bl_crun.proofs.Ticks.{inputs-within, outputs-within, start-is, tick-is}

-- another machine with as much room
pub kept : (file : Parts) (p : Prepared) (m : VmState) → PreparedInvariant file p → length m.temps ≡ length p.machine.temps → m.room ≡ p.machine.room →
    CellsKeep file m.cells → PreparedInvariant file (record p { machine = m })
kept file p m k n c cells = record {
  runs = k.runs;
  code = k.code;
  init = k.init;
  tick = k.tick;
  inputs = k.inputs;
  outputs = k.outputs;
  kinds = k.kinds;
  input_at = k.input_at;
  output_at = k.output_at;
  base = k.base;
  temps = subst (λ x. length p.code.items ≤ x) (sym n) k.temps;
  room = subst (λ x. length file.funcs ≤ x) (sym c) k.room;
  cells = cells;
}

first-numbers : (file : Parts) (p : Prepared) (m : VmState) → PreparedInvariant file p → cell_numbers (record p { machine = m }) ≡ first_cells file m.cells
first-numbers file p m k = ap (λ ts. take (length ts) m.cells) k.kinds

-- ---- what is prepared at first

-- the numbers of cells fit 32 bits
pub inputs-fit : (file : Parts) → IsRunnable file → inputs_start file.structs < 4294967296
inputs-fit file runs = let e = input-start file runs.formed in let s = runs.small in omega arith

pub outputs-fit : (file : Parts) → IsRunnable file → outputs_start file.structs < 4294967296
outputs-fit file runs = let e = output-start file runs.formed in let s = runs.small in omega arith

pub kinds-base : (file : Parts) → IsRunnable file → length (kinds_of file) ≡ behind_objects file
kinds-base file runs = length-map (cells_of file) (λ c. c.kind) ∙ cells-long file runs.formed

pub kinds-fit : (file : Parts) → IsRunnable file → length (kinds_of file) < 4294967296
kinds-fit file runs = let e = kinds-base file runs in let s = runs.small in omega arith

-- ---- the start

abbrev pub Start : Parts → Prepared → FlatAnswer ℤ
Start file p = entered_flat file (codes "bl_init") (pos 0 ∷ []) p.machine.cells

pub start-comes : (file : Parts) (p : Prepared) → PreparedInvariant file p →
    Comes (steps_of file (codes "bl_init") (pos 0 ∷ []) p.machine) p.code.items p.init p.base (pos 0 ∷ []) p.machine (Start file p)
start-comes file p k = file-comes file (codes "bl_init") (pos 0 ∷ []) p.machine p.code.items p.init p.base k.code k.init k.base k.temps k.room

module _ (file : Parts) (p : Prepared) (k : PreparedInvariant file p) (agrees : StartsAgree file)
    (cleared : p.machine.cells ≡ replicate (cells_needed file) (pos 0))
    (called : Called) (after : VmState) (done : CallDone (entered_flat file (codes "bl_init") (pos 0 ∷ []) p.machine.cells) p.machine called after) where
  started : IsStart file (Start file p)
  started = start-is file k.runs agrees p.machine.cells cleared

  pub start-keeps : PreparedInvariant file (record p { machine = after })
  start-keeps = kept file p after k done.temps done.room (subst (CellsKeep file) (sym done.cells) started.cells_kept)

  pub start-ready : is_some called.answer ≡ start_succeeds file
  start-ready = ap is_some done.answer ∙ started.ready

  pub start-numbers : cell_numbers (record p { machine = after }) ≡ start_cells file
  start-numbers = first-numbers file p after k ∙ ap (first_cells file) done.cells ∙ started.cells

-- ---- ticks

abbrev pub Args : Prepared → List ℤ
Args p = pos 0 ∷ pos p.input_at ∷ pos p.output_at ∷ []

-- the machine with the inputs
abbrev pub Set : Prepared → List ℤ → VmState
Set p ins = with_cells p.machine (with_args (p.input_at + 1) ins p.machine.cells)

pub tick-comes : (file : Parts) (p : Prepared) (m : VmState) (ins : List ℤ) → PreparedInvariant file p → m ≡ Set p ins →
    Comes (steps_of file (codes "bl_tick") (Args p) m) p.code.items p.tick p.base (Args p) m
    (entered_flat file (codes "bl_tick") (Args p) m.cells)
tick-comes file p m ins k is =
    file-comes file (codes "bl_tick") (Args p) m p.code.items p.tick p.base k.code k.tick k.base
    (subst (λ (x : VmState). length p.code.items ≤ length x.temps) (sym is) k.temps) (subst (λ (x : VmState). length file.funcs ≤ x.room) (sym is) k.room)

tick-called : (file : Parts) (p : Prepared) (m : VmState) (ins : List ℤ) → PreparedInvariant file p → m ≡ Set p ins → (code : Code) →
    code ≡ p.code.items → (args : List ℤ) →
    args ≡ Args p →
    Comes (steps_of file (codes "bl_tick") args m) code p.tick p.base args m (entered_flat file (codes "bl_tick") args m.cells)
tick-called file p m ins keeps is code code-is args args-are =
    subst (λ k. Comes (steps_of file (codes "bl_tick") args m) k p.tick p.base args m (entered_flat file (codes "bl_tick") args m.cells))
    (sym code-is)
    (subst (λ given. Comes (steps_of file (codes "bl_tick") given m) p.code.items p.tick p.base given m
    (entered_flat file (codes "bl_tick") given m.cells)) (sym args-are) (tick-comes file p m ins keeps is))

pub tick-required : (file : Parts) (p : Prepared) (m : VmState) (ins : List ℤ) → PreparedInvariant file p → m ≡ Set p ins → (code : Code) →
    code ≡ p.code.items →
    (args : List ℤ) → args ≡ Args p →
    (l : FlatAnswer ℤ) × Comes (steps_of file (codes "bl_tick") args m) code p.tick p.base args m l
tick-required file p m ins keeps is code code-is args args-are =
    (entered_flat file (codes "bl_tick") args m.cells, tick-called file p m ins keeps is code code-is args args-are)

pub tick-done : (file : Parts) (p : Prepared) (m : VmState) (ins : List ℤ) → PreparedInvariant file p → m ≡ Set p ins →
    (code : Code) → code ≡ p.code.items →
    (args : List ℤ) → args ≡ Args p → (called : Called) (after : VmState) →
    ((l : FlatAnswer ℤ) → Comes (steps_of file (codes "bl_tick") args m) code p.tick p.base args m l → CallDone l m called after) →
    CallDone (entered_flat file (codes "bl_tick") (pos 0 ∷ pos p.input_at ∷ pos p.output_at ∷ []) m.cells) m called after
tick-done file p m ins keeps is code code-is args args-are called after does =
    subst (λ given. CallDone (entered_flat file (codes "bl_tick") given m.cells) m called after) args-are
    (does (entered_flat file (codes "bl_tick") args m.cells) (tick-called file p m ins keeps is code code-is args args-are))

start-called : (file : Parts) (p : Prepared) → PreparedInvariant file p → (code : Code) → code ≡ p.code.items →
    Comes (steps_of file (codes "bl_init") (pos 0 ∷ []) p.machine) code p.init p.base (pos 0 ∷ []) p.machine (Start file p)
start-called file p keeps code code-is =
    subst (λ k. Comes (steps_of file (codes "bl_init") (pos 0 ∷ []) p.machine) k p.init p.base (pos 0 ∷ []) p.machine
    (Start file p)) (sym code-is)
    (start-comes file p keeps)

pub start-required : (file : Parts) (p : Prepared) → PreparedInvariant file p → (code : Code) → code ≡ p.code.items →
    (l : FlatAnswer ℤ) × Comes (steps_of file (codes "bl_init") (pos 0 ∷ []) p.machine) code p.init p.base (pos 0 ∷ []) p.machine l
start-required file p keeps code code-is = (Start file p, start-called file p keeps code code-is)

pub start-done : (file : Parts) (p : Prepared) → PreparedInvariant file p → (code : Code) → code ≡ p.code.items → (called : Called) (after : VmState) →
    ((l : FlatAnswer ℤ) → Comes (steps_of file (codes "bl_init") (pos 0 ∷ []) p.machine) code p.init p.base (pos 0 ∷ []) p.machine l →
    CallDone l p.machine called after) →
    CallDone (entered_flat file (codes "bl_init") (pos 0 ∷ []) p.machine.cells) p.machine called after
start-done file p keeps code code-is called after does = does (Start file p) (start-called file p keeps code code-is)

pub set-within : (file : Parts) (p : Prepared) (ins : List ℤ) → PreparedInvariant file p → PortsStand file →
    row_fits (inputs_of file) ins ≡ true → (k : ℕ) → k < length ins →
    p.input_at + 1 + k < length p.machine.cells
set-within file p ins keeps stand fits k within =
    let at = keeps.input_at in
    let h = inputs-within file keeps.runs stand ins p.machine.cells keeps.cells.room fits k within in
    omega arith

module _ (file : Parts) (p : Prepared) (k : PreparedInvariant file p) (agrees : TicksAgree file) (stand : PortsStand file) (ins : List ℤ)
    (fits : row_fits (inputs_of file) ins ≡ true)
    (m : VmState) (is : m ≡ with_cells p.machine (with_args (p.input_at + 1) ins p.machine.cells))
    (called : Called) (after : VmState)
    (done : CallDone (entered_flat file (codes "bl_tick") (pos 0 ∷ pos p.input_at ∷ pos p.output_at ∷ []) m.cells) m called after) where
  numbers : cell_numbers p ≡ first_cells file p.machine.cells
  numbers = first-numbers file p p.machine k

  ticks : IsTick file (cell_numbers p) ins (entered_flat file (codes "bl_tick") (pos 0 ∷ pos p.input_at ∷ pos p.output_at ∷ []) m.cells)
  ticks =
      let formed = k.runs.formed in
      let in-at : inputs_start file.structs ≡ p.input_at = sym k.input_at in
      let in-flat : input_at file ≡ p.input_at = sym (input-start file formed) ∙ sym k.input_at in
      let out-flat : output_at file ≡ p.output_at = sym (output-start file formed) ∙ sym k.output_at in
      let cells : m.cells ≡ with_args (p.input_at + 1) ins p.machine.cells = ap (λ (x : VmState). x.cells) is in
      let t = tick-is file k.runs stand agrees p.machine.cells ins k.cells fits in
      subst (λ ns. IsTick file ns ins (entered_flat file (codes "bl_tick") (pos 0 ∷ pos p.input_at ∷ pos p.output_at ∷ []) m.cells)) (sym numbers)
      (subst (λ cs. IsTick file (first_cells file p.machine.cells) ins
      (entered_flat file (codes "bl_tick") (pos 0 ∷ pos p.input_at ∷ pos p.output_at ∷ []) cs)) (sym cells)
      (subst (λ a. IsTick file (first_cells file p.machine.cells) ins
      (entered_flat file (codes "bl_tick") (pos 0 ∷ pos p.input_at ∷ pos p.output_at ∷ []) (with_args (a + 1) ins p.machine.cells))) in-at
      (subst (λ a. IsTick file (first_cells file p.machine.cells) ins
      (entered_flat file (codes "bl_tick") (pos 0 ∷ pos a ∷ pos p.output_at ∷ []) (with_args (inputs_start file.structs + 1) ins p.machine.cells)))
      in-flat
      (subst (λ a. IsTick file (first_cells file p.machine.cells) ins
      (entered_flat file (codes "bl_tick") (pos 0 ∷ pos (input_at file) ∷ pos a ∷ [])
      (with_args (inputs_start file.structs + 1) ins p.machine.cells))) out-flat t))))

  pub tick-keeps : PreparedInvariant file (record p { machine = after })
  tick-keeps =
      kept file p after k (done.temps ∙ ap (λ (x : VmState). length x.temps) is) (done.room ∙ ap (λ (x : VmState). x.room) is)
      (subst (CellsKeep file) (sym done.cells) ticks.cells_kept)

  pub tick-ticked : Ticked file (cell_numbers p) ins called (record p { machine = after })
  tick-ticked = record {
    reply = ap reply_of done.answer ∙ ticks.reply;
    count = done.count ∙ ap (λ n. min n (2 ^ 128 - 1)) ticks.count;
    after = first-numbers file p after k ∙ ap (first_cells file) done.cells ∙ ticks.after;
    outputs =
        ap (λ cols. take (length cols) (drop (p.output_at + 1) after.cells)) k.outputs
        ∙ ap (λ a. take (length (outputs_of file)) (drop (a + 1) after.cells)) k.output_at
        ∙ ap (λ cs. take (length (outputs_of file)) (drop (outputs_start file.structs + 1) cs)) done.cells ∙ ticks.outputs;
    ranges =
        ap (λ cols. in_ranges (types_of cols) (take (length cols) (drop (p.output_at + 1) after.cells))) k.outputs
        ∙ ap (λ a. in_ranges (types_of (outputs_of file)) (take (length (outputs_of file)) (drop (a + 1) after.cells))) k.output_at
        ∙ ap (λ cs. in_ranges (types_of (outputs_of file)) (take (length (outputs_of file)) (drop (outputs_start file.structs + 1) cs))) done.cells
        ∙ ap (in_ranges (types_of (outputs_of file))) ticks.outputs ∙ ticks.ranges;
    within = λ j low.
        let at = k.output_at in
        let long : length p.outputs ≡ length (outputs_of file) = ap length k.outputs in
        let h = outputs-within file k.runs stand after.cells (subst (CellsKeep file) (sym done.cells) ticks.cells_kept).room j (omega arith) in
        omega arith;
  }
