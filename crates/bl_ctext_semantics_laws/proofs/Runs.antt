-- Ticks and the start of a file, by the numbers alone.
use Rattle.std.proofs.Common.{◌≡◌, ◌+◌, ◌≤◌, ℤ, pos, true, [], ◌∷◌, ◌++◌, length, replicate, ap, sym, subst, ◌∙◌}
use Rattle.std.specs.Prelude.{codes, is_some}
use Rattle.bl_ctext.specs.Spellable.{is_spellable}
use Rattle.bl_ctext_semantics.specs.Cells.{cells_of, memory_of, ports_of, with_inputs}
use Rattle.bl_ctext_semantics.specs.Memory.{Memory, cleared, state_object, input_object, output_object}
use Rattle.bl_ctext_semantics.specs.Meaning.{CallResult}
use Rattle.bl_ctext_semantics.specs.Parts.{Parts}
use Rattle.bl_ctext_semantics.specs.Sizes.{cells_needed}
use Rattle.bl_ctext_semantics.specs.Trace.{call_from_outside, object, reply_of, started, tick_c}
use Rattle.bl_ctext_semantics_laws.specs.Laws.{StartsRun, TicksRun, entered_flat, input_at, output_at}
use Rattle.bl_ctext_semantics_laws.specs.Flat.{Cells, FlatAnswer, with_args}
use Rattle.bl_ctext_semantics_laws.proofs.Entry.{Standing, begins-standing, call-from, ends-standing, init-passes, interface, objects-declared, tick-passes}
use Rattle.bl_ctext_semantics_laws.proofs.Numbers.{cleared-are, cleared-fit, inputs-stand, memory-stands, outputs-stand, ranges-are}

pub ticks-run : (file : Parts) → is_spellable file.structs file.funcs ≡ true → TicksRun file
unfolding tick_c
ticks-run file spelled formed small numbers others ins fits row room =
    let declared = objects-declared file formed in
    let i = interface file formed declared spelled small in
    let memory : Memory = with_inputs (ports_of (codes "bl_in") file) ins (memory_of (cells_of file) numbers) in
    let cells : Cells = with_args (input_at file + 1) ins (numbers ++ others) in
    let stands : Standing file formed memory cells =
    inputs-stand file formed declared ins (memory_of (cells_of file) numbers) (numbers ++ others) row
    (memory-stands file formed declared numbers others fits room) in
    let agree =
    call-from file formed declared spelled small (codes "bl_tick") i.tick (object state_object ∷ object input_object ∷ object output_object ∷ [])
    (pos 0 ∷ pos (input_at file) ∷ pos (output_at file) ∷ []) i.tick-is
    memory cells stands (tick-passes file formed declared spelled small i.tick.params memory i.tick-params) in
    let after : Memory = (call_from_outside file (codes "bl_tick") (object state_object ∷ object input_object ∷ object output_object ∷ []) memory).memory in
    let left : FlatAnswer ℤ = entered_flat file (codes "bl_tick") (pos 0 ∷ pos (input_at file) ∷ pos (output_at file) ∷ []) cells in
    let ended = ends-standing file formed declared after left.cells agree.stands in
    record {
      count = agree.count;
      reply = ap reply_of agree.answer;
      cells = ended.0;
      outputs = outputs-stand file formed declared after left.cells agree.stands;
      room = agree.stands.room;
      fits = sym (ranges-are after (cells_of file)) ∙ ended.1;
    }

pub starts-run : (file : Parts) → is_spellable file.structs file.funcs ≡ true → StartsRun file
unfolding started
starts-run file spelled formed small others room =
    let declared = objects-declared file formed in
    let i = interface file formed declared spelled small in
    let stands : Standing file formed cleared (replicate (length (cells_of file)) (pos 0) ++ others) =
    subst (λ l. Standing file formed cleared (l ++ others)) (cleared-are (cells_of file))
    (begins-standing file formed declared cleared others (cleared-fit (cells_of file))
    (subst (λ l. cells_needed file ≤ length (l ++ others)) (sym (cleared-are (cells_of file))) room)) in
    let agree =
    call-from file formed declared spelled small (codes "bl_init") i.init (object state_object ∷ []) (pos 0 ∷ []) i.init-is cleared
    (replicate (length (cells_of file)) (pos 0) ++ others) stands
    (init-passes file formed declared spelled small i.init.params cleared i.init-params) in
    let c : CallResult = call_from_outside file (codes "bl_init") (object state_object ∷ []) cleared in
    let left : FlatAnswer ℤ = entered_flat file (codes "bl_init") (pos 0 ∷ []) (replicate (length (cells_of file)) (pos 0) ++ others) in
    let ended = ends-standing file formed declared c.memory left.cells agree.stands in
    record {
      ready = ap is_some agree.answer;
      cells = ended.0;
      room = agree.stands.room;
      fits = sym (ranges-are c.memory (cells_of file)) ∙ ended.1;
    }
