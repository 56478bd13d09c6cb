-- What the start and the ticks of a file do to numbered cells.
use Rattle.std.proofs.Common.{◌≡◌, ℕ, zero, suc, ◌+◌, ◌≤◌, ◌<◌, ℤ, pos, true, List, [], ◌∷◌, ◌++◌, length, take, drop, replicate, slice_get}
use Rattle.std.proofs.Common.{Some, refl, ap, sym, subst, ◌∙◌, arith, length-take-le}
use Rattle.std.specs.Prelude.{codes, is_some}
use Rattle.std.specs.List.{list_all}
use Rattle.std.proofs.lemmas.Option.{slice_get_within}
use Rattle.std.proofs.lemmas.List.{length-map, take-append-drop, take-replicate}
use Rattle.std.proofs.lemmas.Bool.{and_from}
use Rattle.bl_tree.specs.declared.scalar.Scalar.{Scalar}
use Rattle.bl_tree.specs.declared.text.Text.{Text}
use Rattle.bl_tree.specs.declared.c.CMember.{CMember}
use Rattle.bl_ctext_semantics_laws.specs.Fitting.{cell_holds}
use Rattle.bl_ctext_semantics_laws.specs.Flat.{FlatAnswer, with_args}
use Rattle.bl_ctext_semantics_laws.specs.Laws.{SameCall, StartsAgree, TicksAgree, entered_flat, input_at, output_at}
use Rattle.bl_ctext_semantics_laws.proofs.Spans.{length-args}
use Rattle.bl_ctext_semantics_laws.proofs.Standing.{zero-fits}
use Rattle.bl_ctext_semantics.specs.Cells.{Cell, cells_of, inputs_of, memory_of, numbers_of, outputs_in, outputs_of, port, ports_of, with_inputs}
use Rattle.bl_ctext_semantics.specs.Faults.{WellFormed}
use Rattle.bl_ctext_semantics.specs.Meaning.{CallResult}
use Rattle.bl_ctext_semantics.specs.Memory.{Memory, cleared, state_object, input_object, output_object}
use Rattle.bl_ctext_semantics.specs.Parts.{Parts}
use Rattle.bl_ctext_semantics.specs.Sizes.{cells_needed}
use Rattle.bl_ctext_semantics.specs.Trace.{call_from_outside, object, reply_of, started, tick_c}
use Rattle.bl_crun_ports.specs.Layout.{kinds_of}
use Rattle.bl_crun_ports.specs.Ports.{PortsStand, inputs_start, outputs_start}
use Rattle.bl_crun.specs.Cause.{IsRunnable}
use Rattle.bl_crun.specs.Done.{CellsKeep, first_cells}
use Rattle.bl_crun.specs.inner.CallsDone.{IsStart, IsTick}
use Rattle.bl_tree.specs.Ports.{in_ranges, row_fits, types_of}
use Rattle.bl_crun.proofs.Cells.{cells-long, cells-separate, numbers-made}
use Rattle.bl_crun.proofs.Rows.{args-taken, columns-long, inputs-fit, inputs-long, inputs-set, outputs-fit, outputs-taken, ranges-are, within-taken}

-- ---- a call from outside

module _ (file : Parts) (runs : IsRunnable file) where
  few : length (cells_of file) ≤ cells_needed file
  few = let e = cells-long file runs.formed in omega arith

  kinds-long : length (kinds_of file) ≡ length (cells_of file)
  kinds-long = length-map (cells_of file) (λ c. c.kind)

  -- cells that begin with the numbers of a memory, and what a call leaves there
  call-agrees : (name : Text) (call : Memory → CallResult) (args : List ℤ) →
      (WellFormed file → cells_needed file ≤ 1000000 → (memory : Memory) (others : List ℤ) → list_all (cell_holds memory) (cells_of file) ≡ true →
      cells_needed file ≤ length (numbers_of (cells_of file) memory ++ others) →
      SameCall file (call memory) (entered_flat file name args (numbers_of (cells_of file) memory ++ others))) →
      (memory : Memory) (cells : List ℤ) → cells_needed file ≤ length cells →
      numbers_of (cells_of file) memory ≡ take (length (cells_of file)) cells →
      in_ranges (kinds_of file) (take (length (cells_of file)) cells) ≡ true →
      SameCall file (call memory) (entered_flat file name args cells)
  call-agrees name call args agrees memory cells room begin ranges =
      let whole : numbers_of (cells_of file) memory ++ drop (length (cells_of file)) cells ≡ cells =
      ap (λ l. l ++ drop (length (cells_of file)) cells) begin ∙ take-append-drop (length (cells_of file)) cells in
      subst (λ cs. SameCall file (call memory) (entered_flat file name args cs)) whole
      (agrees runs.formed runs.small memory (drop (length (cells_of file)) cells)
      (ranges-are (cells_of file) memory ∙ ap (in_ranges (kinds_of file)) begin ∙ ranges)
      (subst (λ cs. cells_needed file ≤ length cs) (sym whole) room))

  -- what such a call leaves
  call-keeps : (c : CallResult) (l : FlatAnswer ℤ) → SameCall file c l → CellsKeep file l.cells
  call-keeps c l same = record {
    room = same.room;
    ranges =
        ap (λ n. in_ranges (kinds_of file) (take n l.cells)) kinds-long ∙ ap (in_ranges (kinds_of file)) same.cells
        ∙ sym (ranges-are (cells_of file) c.memory)
        ∙ same.fits;
  }

  first-are : (c : CallResult) (l : FlatAnswer ℤ) → SameCall file c l → first_cells file l.cells ≡ numbers_of (cells_of file) c.memory
  first-are c l same = ap (λ n. take n l.cells) kinds-long ∙ same.cells

  -- ---- the start

  zeros-there : (cs : List Cell) → numbers_of cs cleared ≡ replicate (length cs) (pos 0)
  zeros-there [] = refl
  zeros-there (c ∷ cs) = ap (λ l. pos 0 ∷ l) (zeros-there cs)

  zeros-fit : (ts : List Scalar) → in_ranges ts (replicate (length ts) (pos 0)) ≡ true
  zeros-fit [] = refl
  zeros-fit (t ∷ ts) = and_from _ _ (zero-fits t) (zeros-fit ts)

  length-zeros : (n : ℕ) → length (replicate n (pos 0)) ≡ n
  length-zeros zero = refl
  length-zeros (suc n) = ap suc (length-zeros n)

  zeros-begin : (cells : List ℤ) → cells ≡ replicate (cells_needed file) (pos 0) →
      take (length (cells_of file)) cells ≡ replicate (length (cells_of file)) (pos 0)
  zeros-begin cells is = ap (take (length (cells_of file))) is ∙ take-replicate (length (cells_of file)) (cells_needed file) (pos 0) few

  pub zeros-keep : (cells : List ℤ) → cells ≡ replicate (cells_needed file) (pos 0) → CellsKeep file cells
  zeros-keep cells is = record {
    room = let e = ap length is ∙ length-zeros (cells_needed file) in omega arith;
    ranges =
        ap (λ n. in_ranges (kinds_of file) (take n cells)) kinds-long
        ∙ ap (in_ranges (kinds_of file)) (zeros-begin cells is ∙ ap (λ n. replicate n (pos 0)) (sym kinds-long)) ∙ zeros-fit (kinds_of file);
  }

  pub start-is : StartsAgree file → (cells : List ℤ) → cells ≡ replicate (cells_needed file) (pos 0) →
      IsStart file (entered_flat file (codes "bl_init") (pos 0 ∷ []) cells)
  unfolding started
  start-is agrees cells is =
      let keeps = zeros-keep cells is in
      let same = call-agrees (codes "bl_init") (call_from_outside file (codes "bl_init") (object state_object ∷ []))
      (pos 0 ∷ []) agrees cleared cells keeps.room
      (zeros-there (cells_of file) ∙ sym (zeros-begin cells is)) (ap (λ n. in_ranges (kinds_of file) (take n cells)) (sym kinds-long) ∙ keeps.ranges) in
      let c : CallResult = call_from_outside file (codes "bl_init") (object state_object ∷ []) cleared in
      let l : FlatAnswer ℤ = entered_flat file (codes "bl_init") (pos 0 ∷ []) cells in
      record { ready = ap is_some (sym same.answer); cells = first-are c l same; cells_kept = call-keeps c l same }

  -- ---- ticks

  module _ (stand : PortsStand file) where
    abbrev ins_at : ℕ
    ins_at = inputs_start file.structs + 1

    abbrev outs_at : ℕ
    outs_at = outputs_start file.structs + 1

    abbrev in_ports : List CMember
    in_ports = ports_of (codes "bl_in") file

    abbrev out_ports : List CMember
    out_ports = ports_of (codes "bl_out") file

    there : (ms : List CMember) (j : ℕ) → j < length ms → (m : CMember) × (slice_get ms j ≡ Some m)
    there [] j h = absurd (omega arith)
    there (m ∷ ms) zero h = (m, refl)
    there (m ∷ ms) (suc j) h = there ms j (omega arith)

    -- the outputs lie within the cells
    outs-within : (j : ℕ) → length out_ports ≡ suc j → outs_at + suc j ≤ length (cells_of file)
    outs-within j is =
        let m = there out_ports j (omega arith) in
        let p = (stand runs.formed).1 j m.0 m.1 in
        let l = slice_get_within (cells_of file) (outs_at + j) (record { location = port output_object m.0; kind = p.0 }) p.1.1 in
        omega arith

    pub inputs-within : (ins cells : List ℤ) → cells_needed file ≤ length cells → row_fits (inputs_of file) ins ≡ true → (k : ℕ) →
        k < length ins →
        ins_at + k < length cells
    unfolding inputs_of
    inputs-within ins cells room fits k within =
        let long = inputs-long (cells_of file) ins_at in_ports ins (stand runs.formed).0 fits in
        let m = there in_ports k (omega arith) in
        let p = (stand runs.formed).0 k m.0 m.1 in
        let l = slice_get_within (cells_of file) (ins_at + k) (record { location = port input_object m.0; kind = p.0 }) p.1.1 in
        let f = few in
        omega arith

    pub outputs-within : (cells : List ℤ) → cells_needed file ≤ length cells → (k : ℕ) → k < length (outputs_of file) → outs_at + k < length cells
    unfolding outputs_of
    outputs-within cells room k within =
        let long = columns-long (cells_of file) outs_at output_object out_ports (stand runs.formed).1 in
        let m = there out_ports k (omega arith) in
        let p = (stand runs.formed).1 k m.0 m.1 in
        let l = slice_get_within (cells_of file) (outs_at + k) (record { location = port output_object m.0; kind = p.0 }) p.1.1 in
        let f = few in
        omega arith

    pub tick-is : TicksAgree file → (cells ins : List ℤ) → CellsKeep file cells → row_fits (inputs_of file) ins ≡ true →
        IsTick file (first_cells file cells) ins
        (entered_flat file (codes "bl_tick") (pos 0 ∷ pos (input_at file) ∷ pos (output_at file) ∷ []) (with_args ins_at ins cells))
    unfolding tick_c inputs_of outputs_of
    tick-is agrees cells ins keeps fits =
        let n : ℕ = length (cells_of file) in
        let ports = stand runs.formed in
        let short : first_cells file cells ≡ take n cells = ap (λ k. take k cells) kinds-long in
        let long : length (take n cells) ≡ n = length-take-le n cells (let f = few in let r = keeps.room in omega arith) in
        let before : Memory = memory_of (cells_of file) (first_cells file cells) in
        let memory : Memory = with_inputs in_ports ins before in
        let made : numbers_of (cells_of file) before ≡ take n cells =
        numbers-made (cells_of file) (first_cells file cells) (cells-separate file runs.formed) (ap length short ∙ long) ∙ short in
        let set : numbers_of (cells_of file) memory ≡ with_args ins_at ins (take n cells) =
        inputs-set (cells_of file) (cells-separate file runs.formed) ins_at in_ports ins before ports.0
        (inputs-long (cells_of file) ins_at in_ports ins ports.0 fits) ∙ ap (with_args ins_at ins) made in
        let begin : numbers_of (cells_of file) memory ≡ take n (with_args ins_at ins cells) = set ∙ sym (args-taken n ins_at ins cells) in
        let ranges : in_ranges (kinds_of file) (take n (with_args ins_at ins cells)) ≡ true =
        ap (in_ranges (kinds_of file)) (args-taken n ins_at ins cells)
        ∙ inputs-fit (cells_of file) ins_at in_ports ins (take n cells) ports.0 fits (ap (in_ranges (kinds_of file)) (sym short) ∙ keeps.ranges) in
        let room : cells_needed file ≤ length (with_args ins_at ins cells) =
        subst (λ k. cells_needed file ≤ k) (sym (length-args ins_at ins cells)) keeps.room in
        let same = call-agrees (codes "bl_tick") (call_from_outside file (codes "bl_tick")
        (object state_object ∷ object input_object ∷ object output_object ∷ []))
        (pos 0 ∷ pos (input_at file) ∷ pos (output_at file) ∷ []) agrees memory (with_args ins_at ins cells) room begin ranges in
        let c : CallResult = call_from_outside file (codes "bl_tick") (object state_object ∷ object input_object ∷ object output_object ∷ []) memory in
        let l : FlatAnswer ℤ = entered_flat file (codes "bl_tick") (pos 0 ∷ pos (input_at file) ∷ pos (output_at file) ∷ []) (with_args ins_at ins cells) in
        record {
          reply = ap reply_of (sym same.answer);
          outputs = outs-are c l same;
          ranges = outs-fit c l same;
          after = first-are c l same;
          count = sym same.count;
          cells_kept = call-keeps c l same;
        }
      where
        outs-fit : (c : CallResult) (l : FlatAnswer ℤ) → SameCall file c l → in_ranges (types_of (outputs_of file)) (outputs_in out_ports c.memory) ≡ true
        outs-fit c l same =
            let ports = stand runs.formed in
            ap (in_ranges (types_of (outputs_of file))) (outputs-taken (cells_of file) outs_at out_ports c.memory ports.1)
            ∙ outputs-fit (cells_of file) outs_at out_ports (numbers_of (cells_of file) c.memory) ports.1
            (sym (ranges-are (cells_of file) c.memory) ∙ same.fits)

        outs-are : (c : CallResult) (l : FlatAnswer ℤ) → SameCall file c l →
            take (length (outputs_of file)) (drop outs_at l.cells) ≡ outputs_in out_ports c.memory
        outs-are c l same =
            let ports = stand runs.formed in
            let n : ℕ = length (cells_of file) in
            let many : length (outputs_of file) ≡ length out_ports = columns-long (cells_of file) outs_at output_object out_ports ports.1 in
            ap (λ k. take k (drop outs_at l.cells)) many ∙ sym (within-taken (length out_ports) outs_at n l.cells outs-within)
            ∙ ap (λ l. take (length out_ports) (drop outs_at l)) same.cells ∙ sym (outputs-taken (cells_of file) outs_at out_ports c.memory ports.1)
