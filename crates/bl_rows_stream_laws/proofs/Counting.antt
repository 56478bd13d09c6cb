-- The lines of a counted run are those of its counts.
use Rattle.std.proofs.Common.{◌≡◌, ◌∙◌, ℕ, ◌+◌, ◌-◌, ℤ, Bool, true, false, List, [], ◌∷◌, ◌++◌}
use Rattle.std.proofs.Common.{refl, sym, ap, subst, append-nil, append_assoc, codes}
use Rattle.bl_bound_laws.specs.Counts.{counts_after, counts_from, counts_if}
use Rattle.bl_ctext_semantics.specs.Cells.{inputs_of}
use Rattle.bl_ctext_semantics.specs.Parts.{Parts}
use Rattle.bl_ctext_semantics.specs.Trace.{Reply, row, ended, trapped, c_trace_from, cells_if, start_cells, start_succeeds, tick_c, trace_after, traced}
use Rattle.bl_ctext_semantics_laws_places.specs.Behaviour.{behaviour_of}
use Rattle.bl_crun.specs.Running.{Running, answer_of, is_row, loaded}
use Rattle.bl_io.specs.Held.{Appends}
use Rattle.bl_rows.specs.Reading.{rows_of}
use Rattle.bl_rows.specs.Text.{last_text}
use Rattle.bl_rows_stream.specs.Reports.{count_text, end_text, if_row, report_from, report_of}
use Rattle.bl_rows_stream.specs.Streams.{AppendsFront, all, broken, cut, front, ran, rows_so_far, unread}
use Rattle.bl_rows_stream.specs.declared.ticks.Report.TheVariants.{Counts}
use Rattle.bl_rows_stream_laws.specs.Counts.{count_lines, counts_text, told_count}
use Rattle.bl_rows_stream_laws.specs.Laws.{CountsAreTold}
use Rattle.bl_tree.specs.declared.row.Trace.{Trace}

-- a line, and what follows it
close : (line end : List ℕ) → (line ++ end) ++ [] ≡ (line ++ []) ++ end
close line end = append-nil (line ++ end) ∙ ap (λ l. l ++ end) (sym (append-nil line))

more : (line rest lines last : List ℕ) → rest ≡ lines ++ last → (line ++ []) ++ rest ≡ (line ++ lines) ++ last
more line rest lines last is =
    ap (λ l. l ++ rest) (append-nil line) ∙ ap (λ r. line ++ r) is ∙ sym (append_assoc line lines last)

step : (n : ℕ) (reply : Reply) (line rest : List ℕ) (outputs : List ℤ) (counts : List ℕ) (trace : Trace) →
    rest ≡ count_lines n counts ++ last_text trace.last →
    (line ++ end_text (answer_of reply)) ++ if_row (answer_of reply) rest
    ≡ (line ++ count_lines n (counts_if reply counts)) ++ last_text (traced reply outputs trace).last
step n row line rest outputs counts trace is = more line rest (count_lines n counts) (last_text trace.last) is
step n ended line rest outputs counts trace is = close line (codes "ended\n")
step n trapped line rest outputs counts trace is = close line (codes "trap\n")

abbrev at : Parts → Bool → List ℤ → Bool → Running
at file ready cells live = record { parts = file; cells = cells; ready = ready; live = live }

lines : (file : Parts) (ready : Bool) (cells : List ℤ) (live : Bool) (n : ℕ) (rows : List (List ℤ)) →
    report_from Counts n (at file ready cells live) rows
    ≡ count_lines n (counts_after (tick_c file) (cells_if ready cells) rows) ++ last_text (trace_after file (cells_if ready cells) rows).last
lines file false cells live n [] = refl
lines file true cells live n [] = refl
lines file false cells live n (ins ∷ rows) = close (count_text n (told_count 0)) (codes "trap\n")
lines file true cells live n (ins ∷ rows) =
    let t = tick_c file cells ins in
    step (n + 1) t.reply (count_text n (told_count t.count))
    (report_from Counts (n + 1) (at file true t.cells (is_row (answer_of t.reply))) rows) t.outputs
    (counts_from (tick_c file) rows t.cells) (c_trace_from file rows t.cells)
    (lines file true t.cells (is_row (answer_of t.reply)) (n + 1) rows)

pub counts-text : (file : Parts) (rows : List (List ℤ)) → report_of Counts (loaded file) rows ≡ counts_text (behaviour_of file) rows
counts-text file rows = ap (λ l. codes "tick,statements\n" ++ l) (lines file (start_succeeds file) (start_cells file) true 1 rows)

pub counts-told : (file : Parts) → CountsAreTold file
counts-told file left rest before after now how (ran bytes are is grew has) =
    all bytes are is (subst (λ t. Appends before t after) (counts-text file (rows_of bytes (inputs_of file)).rows) grew)
counts-told file left rest before after now _ (broken b) =
    unread (record {
      read = b.read;
      handed_over = b.handed;
      good = b.good;
      running = b.running;
      written = subst (λ t. Appends before t after) (counts-text file (rows_so_far (loaded file) b.read)) b.written;
    })
counts-told file left rest before after now how (cut bytes are why grew) =
    front bytes are why (subst (λ t. AppendsFront before t after) (counts-text file (rows_of bytes (inputs_of file)).rows) grew)
