-- How a run over rows ends, by how the stream did.
use Rattle.std.proofs.Common.{◌≡◌, ◌∙◌, ℕ, ◌≤◌, ◌<◌, ◌⊎◌, ◌++◌, ℤ, List, length, refl, sym, ap, subst, inl, inr, arith}
use Rattle.std.proofs.lemmas.List.{take_all}
use Rattle.std.specs.Prelude.{Option, Some, None}
use Rattle.bl_top_commands.specs.Calls.{Count, HasRisen, Output}
use Rattle.bl_top_commands.specs.inner.Outcomes.{IsEndOf, line_in}
use Rattle.bl_top_commands.specs.Notes.{line_of}
use Rattle.bl_top_commands.specs.Rows.{IsInStep, Ran, RanInPart, Streams, bad_rows, done, no_memory, trapped, unread as unread_rows, unwritten}
use Rattle.bl_top_commands.specs.declared.outcome.Outcome.{Outcome}
use Rattle.bl_top_commands.specs.declared.status.Status.{Status}
use Rattle.bl_top_commands.specs.declared.status.Status.TheVariants as status
use Rattle.bl_crun.specs.Running.{Running}
use Rattle.bl_ctext_semantics.specs.Cells.{inputs_of}
use Rattle.bl_io.specs.Held.{Appends}
use Rattle.bl_rows.specs.Reading.{empty_reading, rows_in, rows_of}
use Rattle.bl_rows.specs.declared.fault.RowFault.{RowFault}
use Rattle.bl_rows.specs.declared.fault.RowFault.TheVariants as fault
use Rattle.bl_rows_stream.proofs.Texts.{trace-text}
use Rattle.bl_rows_stream.specs.Reports.{report_of}
use Rattle.bl_rows_stream.specs.Streams.{AppendsFront, Course, Extends, InStep, Streamed, all, course_from, finish_of, front, last_over, rows_so_far, text_over}
use Rattle.bl_rows_stream.specs.Streams.{unread}
use Rattle.bl_rows_stream.specs.declared.finish.Finish.{Finish}
use Rattle.bl_rows_stream.specs.declared.finish.Finish.TheVariants as finish
use Rattle.bl_rows_stream.specs.declared.ticks.Report.{Report}
use Rattle.bl_rows_stream.specs.declared.ticks.Report.TheVariants.{Trace}
use Rattle.bl_tree.specs.declared.row.Last.{Last}
use Rattle.bl_tree.specs.declared.row.Last.TheVariants.{Open, Ended, Trap}
use Rattle.bl_module_files.proofs.Sizes.{rose_from}

-- a whole text is a front of it
whole_front : (before : Option (List ℕ)) (text : List ℕ) (after : Option (List ℕ)) → Appends before text after → AppendsFront before text after
whole_front None text after grew = tt
whole_front (Some bytes) text after grew = (length text, omega arith, grew ∙ ap (λ t. Some (bytes ++ t)) (sym (take_all (length text) text (omega arith))))

-- rows alone never tell of a fault of the file or of `out`
pub no_fault : (l : Last) (f : Option RowFault) → (finish_of l f ≡ finish.ReadFault) ⊎ (finish_of l f ≡ finish.WriteFault) → ⊥
no_fault Open None e = elim e [ inl is ↦ cc | inr is ↦ cc ]
no_fault Open (Some (fault.BadHeader line)) e = elim e [ inl is ↦ cc | inr is ↦ cc ]
no_fault Open (Some (fault.BadRow line)) e = elim e [ inl is ↦ cc | inr is ↦ cc ]
no_fault Open (Some (fault.LongLine line)) e = elim e [ inl is ↦ cc | inr is ↦ cc ]
no_fault Open (Some fault.NoMemory) e = elim e [ inl is ↦ cc | inr is ↦ cc ]
no_fault Ended f e = elim e [ inl is ↦ cc | inr is ↦ cc ]
no_fault Trap f e = elim e [ inl is ↦ cc | inr is ↦ cc ]

module _ (course : Course) (left rest : Option (List ℕ)) (out : Output) where
  -- the whole text, where the run was stopped by no fault
  ran : (how : Finish) → ((how ≡ finish.WriteFault) ⊎ (how ≡ finish.NoMemory) → ⊥) → (how ≡ finish.ReadFault → ⊥) →
      Streamed course left rest out.before out.after how → Ran course left out how
  ran how unstopped read (all bytes are is grew) = record { bytes = bytes; are_left = are; ends = sym is; grew = grew }
  ran _ unstopped read (unread failed) = absurd (read refl)
  ran how unstopped read (front bytes are why grew) = absurd (unstopped why)

  -- at least a front of it
  in_part : (how : Finish) → (how ≡ finish.ReadFault → ⊥) → Streamed course left rest out.before out.after how → RanInPart course left out
  in_part how read (all bytes are is grew) =
      record { bytes = bytes; are_left = are; grew = whole_front out.before (text_over course bytes) out.after grew }
  in_part _ read (unread failed) = absurd (read refl)
  in_part how read (front bytes are why grew) = record { bytes = bytes; are_left = are; grew = grew }

  failed : (rows : Count) (how : Finish) → how ≡ finish.ReadFault → HasRisen rows → Streamed course left rest out.before out.after how →
      Streams course left rest rows out status.ReadFault (line_of status.ReadFault)
  failed rows how read risen (all bytes are is grew) =
      absurd (no_fault (last_over course bytes) (rows_of bytes course.ins).fault (inl (sym is ∙ read)))
  failed rows _ read risen (unread why) = unread_rows why risen
  failed rows how read risen (front bytes are why grew) = absurd (elim why [ inl is ↦ cc | inr is ↦ cc ])

pub streams_end : (course : Course) (left rest : Option (List ℕ)) (rows : Count) (out : Output) (how : Finish) (outcome : Outcome) →
    IsEndOf how outcome → Streamed course left rest out.before out.after how → (how ≡ finish.ReadFault → HasRisen rows) →
    (how ≡ finish.WriteFault → HasRisen out.faults) → Streams course left rest rows out outcome.status (line_in outcome)
streams_end course left rest rows out finish.Done outcome e s r w =
    rw e (done (ran course left rest out finish.Done (λ why. elim why [ inl is ↦ cc | inr is ↦ cc ]) (λ is. cc) s))
streams_end course left rest rows out finish.Trapped outcome e s r w =
    rw e (trapped (ran course left rest out finish.Trapped (λ why. elim why [ inl is ↦ cc | inr is ↦ cc ]) (λ is. cc) s))
streams_end course left rest rows out finish.ReadFault outcome e s r w = rw e (failed course left rest out rows finish.ReadFault refl (r refl) s)
streams_end course left rest rows out finish.WriteFault outcome e s r w =
    rw e (unwritten (in_part course left rest out finish.WriteFault (λ is. cc) s) (w refl))
streams_end course left rest rows out finish.NoMemory outcome e s r w =
    rw e (no_memory (in_part course left rest out finish.NoMemory (λ is. cc) s))
streams_end course left rest rows out (finish.BadRows line) outcome is s r w = elim is [
  | inl told ↦ rw (told.0, told.1)
      (bad_rows line (ran course left rest out (finish.BadRows line) (λ why. elim why [ inl is ↦ cc | inr is ↦ cc ]) (λ is. cc) s))
  | inr none ↦ rw none (no_memory (in_part course left rest out (finish.BadRows line) (λ is. cc) s))
]

-- a run is in step with its rows where what is reported of them is the course's text
pub in_step : (report : Report) (r : Running) (course : Course) (left rest : Option (List ℕ)) (out : Output) → course.ins ≡ inputs_of r.parts →
    ((rows : List (List ℤ)) → report_of report r rows ≡ course.text rows) → InStep report r left rest out.before out.after →
    IsInStep course left rest out
in_step report r course left rest out ins is (inl kept) = inl kept
in_step report r course left rest out ins is (inr keeps) = inr (record {
  told = keeps.read;
  piece = keeps.piece;
  handed_over = keeps.handed;
  short = keeps.short;
  grew = subst (λ text. Extends out.before text out.after)
      (is (rows_so_far r keeps.read) ∙ ap (λ columns. course.text (rows_in (empty_reading columns) keeps.read)) (sym ins)) keeps.written;
})

-- and what is reported of a trace is its text
pub trace_in_step : (r : Running) (left rest : Option (List ℕ)) (out : Output) → InStep Trace r left rest out.before out.after →
    IsInStep (course_from r) left rest out
trace_in_step r left rest out stands = in_step Trace r (course_from r) left rest out refl (trace-text r) stands

-- a count that stood lower before
pub streams_from : (course : Course) (left rest : Option (List ℕ)) (first second last : ℕ) (out : Output) (ended : Status) (line : List ℕ) →
    first ≤ second → Streams course left rest (record { before = second; after = last }) out ended line →
    Streams course left rest (record { before = first; after = last }) out ended line
streams_from course left rest first second last out _ _ below (done is) = done is
streams_from course left rest first second last out _ _ below (trapped is) = trapped is
streams_from course left rest first second last out _ _ below (bad_rows line is) = bad_rows line is
streams_from course left rest first second last out _ _ below (unread_rows why risen) = unread_rows why (rose_from first second last below risen)
streams_from course left rest first second last out _ _ below (unwritten is risen) = unwritten is risen
streams_from course left rest first second last out _ _ below (no_memory is) = no_memory is
