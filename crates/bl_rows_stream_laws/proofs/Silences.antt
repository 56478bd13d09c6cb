-- What a silent run comes to.
use Rattle.std.proofs.Common.{◌≡◌, ◌∙◌, ℕ, ℤ, true, false, List, [], ◌∷◌, refl, sym, ap, inl, inr}
use Rattle.std.specs.Prelude.{Option, Some, None}
use Rattle.bl_ctext_semantics.specs.Cells.{inputs_of}
use Rattle.bl_ctext_semantics.specs.Parts.{Parts}
use Rattle.bl_ctext_semantics.specs.Trace.{Reply, row, ended, trapped, c_trace_from, cells_after, tick_c, traced}
use Rattle.bl_crun.specs.Running.{Running, answer_of, is_row}
use Rattle.bl_rows.specs.Reading.{rows_of}
use Rattle.bl_rows.specs.declared.fault.RowFault.{RowFault}
use Rattle.bl_rows.specs.declared.fault.RowFault.TheVariants as fault
use Rattle.bl_rows_stream.specs.Reports.{HasRun, after_rows}
use Rattle.bl_rows_stream.specs.Streams.{AreLeft, broken}
use Rattle.bl_rows_stream.specs.Streams.{cut, finish_of, ran, while_open}
use Rattle.bl_rows_stream.specs.declared.finish.Finish.{Finish}
use Rattle.bl_rows_stream.specs.declared.finish.Finish.TheVariants as finish
use Rattle.bl_rows_stream_laws.specs.Laws.{RunsAreSilent}
use Rattle.bl_rows_stream_laws.specs.Resumed.{LeavesOpen, RunsSilently, bad_rows, no_memory, goes_on}
use Rattle.bl_rows_stream_laws.specs.Resumed.{ended as silently_ended, runner_from, trapped as silently_trapped, unread}
use Rattle.bl_tree.specs.declared.row.Last.{Last}
use Rattle.bl_tree.specs.declared.row.Last.TheVariants.{Open, Ended, Trap}
use Rattle.bl_tree.specs.declared.row.Trace.{Trace}

-- ---- the runner after rows that leave the run open

-- a runner after a tick that was answered so
abbrev ticked : Parts → Reply → List ℤ → Running
ticked file reply cells = record { parts = file; cells = cells; ready = true; live = is_row (answer_of reply) }

-- a run goes on only from a row
onward : (reply : Reply) (outputs : List ℤ) (rest : Trace) → (traced reply outputs rest).last ≡ Open → (reply ≡ row) × (rest.last ≡ Open)
onward row outputs rest is = (refl, is)
onward ended outputs rest is = absurd (cc)
onward trapped outputs rest is = absurd (cc)

after : (file : Parts) (rows : List (List ℤ)) (cells : List ℤ) → (c_trace_from file rows cells).last ≡ Open →
    after_rows (runner_from file cells) rows ≡ runner_from file (cells_after file rows cells)
after file [] cells is = refl
after file (ins ∷ rows) cells is =
    let t = tick_c file cells ins in
    let on = onward t.reply t.outputs (c_trace_from file rows t.cells) is in
    ap (λ reply. after_rows (ticked file reply t.cells) rows) on.0 ∙ after file rows t.cells on.1

-- ---- how it ends

module _ (file : Parts) (numbers : List ℤ) (left rest : Option (List ℕ)) (now : Running) (bytes : List ℕ) (are : AreLeft left bytes) where
  abbrev rows : List (List ℤ)
  rows = (rows_of bytes (inputs_of file)).rows

  abbrev why : Option RowFault
  why = (rows_of bytes (inputs_of file)).fault

  leaves_open : HasRun (runner_from file numbers) rows now → (c_trace_from file rows numbers).last ≡ Open → why ≡ None →
      LeavesOpen file numbers left now
  leaves_open has is good =
      let same : now ≡ runner_from file (cells_after file rows numbers) = has.going is ∙ after file rows numbers is in
      record {
        bytes = bytes;
        are_left = are;
        good = good;
        going = is;
        live = ap (λ (r : Running). r.live) same;
        parts = ap (λ (r : Running). r.parts) same;
        cells = ap (λ (r : Running). r.cells) same;
      }

  closed : HasRun (runner_from file numbers) rows now → ((c_trace_from file rows numbers).last ≡ Open → ⊥) → now.live ≡ false
  closed has isnt = has.closed isnt

  -- by how the trace stands
  by_last : (last : Last) (how : Finish) → (c_trace_from file rows numbers).last ≡ last → how ≡ finish_of last why →
      HasRun (runner_from file numbers) rows now → RunsSilently file numbers left rest now how
  by_last Open how is e has = by_fault why refl how e
    where
      by_fault : (f : Option RowFault) → why ≡ f → (how : Finish) → how ≡ while_open f → RunsSilently file numbers left rest now how
      by_fault None good finish.Done e = goes_on (leaves_open has is good)
      by_fault (Some (fault.BadHeader line)) bad (finish.BadRows other) e =
          bad_rows other bytes are is (ap while_open bad ∙ sym e)
      by_fault (Some (fault.BadRow line)) bad (finish.BadRows other) e = bad_rows other bytes are is (ap while_open bad ∙ sym e)
      by_fault (Some (fault.LongLine line)) bad (finish.BadRows other) e = bad_rows other bytes are is (ap while_open bad ∙ sym e)
      by_fault f bad finish.NoMemory e = no_memory
      by_fault None good finish.Trapped e = absurd (cc)
      by_fault None good finish.ReadFault e = absurd (cc)
      by_fault None good finish.WriteFault e = absurd (cc)
      by_fault None good (finish.BadRows other) e = absurd (cc)
      by_fault (Some (fault.BadHeader line)) bad finish.Done e = absurd (cc)
      by_fault (Some (fault.BadHeader line)) bad finish.Trapped e = absurd (cc)
      by_fault (Some (fault.BadHeader line)) bad finish.ReadFault e = absurd (cc)
      by_fault (Some (fault.BadHeader line)) bad finish.WriteFault e = absurd (cc)
      by_fault (Some (fault.BadRow line)) bad finish.Done e = absurd (cc)
      by_fault (Some (fault.BadRow line)) bad finish.Trapped e = absurd (cc)
      by_fault (Some (fault.BadRow line)) bad finish.ReadFault e = absurd (cc)
      by_fault (Some (fault.BadRow line)) bad finish.WriteFault e = absurd (cc)
      by_fault (Some (fault.LongLine line)) bad finish.Done e = absurd (cc)
      by_fault (Some (fault.LongLine line)) bad finish.Trapped e = absurd (cc)
      by_fault (Some (fault.LongLine line)) bad finish.ReadFault e = absurd (cc)
      by_fault (Some (fault.LongLine line)) bad finish.WriteFault e = absurd (cc)
      by_fault (Some fault.NoMemory) bad finish.Done e = absurd (cc)
      by_fault (Some fault.NoMemory) bad finish.Trapped e = absurd (cc)
      by_fault (Some fault.NoMemory) bad finish.ReadFault e = absurd (cc)
      by_fault (Some fault.NoMemory) bad finish.WriteFault e = absurd (cc)
      by_fault (Some fault.NoMemory) bad (finish.BadRows other) e = absurd (cc)
  by_last Ended how is e has = rw e (silently_ended bytes are is (closed has (λ o. let bad : Ended ≡ Open = sym is ∙ o in cc)))
  by_last Trap how is e has = rw e (silently_trapped bytes are is)

pub runs-silent : (file : Parts) → RunsAreSilent file
runs-silent file numbers left rest now how no_write (ran bytes are is grew has) =
    by_last file numbers left rest now bytes are (c_trace_from file (rows_of bytes (inputs_of file)).rows numbers).last how refl is has
runs-silent file numbers left rest now _ no_write (broken b) =
    unread (record { read = b.read; handed_over = b.handed; good = b.good; running = b.running; written = tt })
runs-silent file numbers left rest now how no_write (cut bytes are why grew) = elim why [
  | inl write ↦ absurd (no_write write)
  | inr memory ↦ rw memory no_memory
]
