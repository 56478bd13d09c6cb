-- How a walk ends, by what was written of it.
use Rattle.std.proofs.Common.{◌≡◌, ℕ, ◌+◌, ◌-◌, ◌^◌, ◌<◌, ◌≤◌, ℤ, List, [], ◌∷◌, ◌++◌, length, get_or, take, refl, sym, ap, ap₂, ◌∙◌, subst, inl, inr, true}
use Rattle.std.proofs.Common.{append_assoc, append-nil, length-append, arith}
use Rattle.std.proofs.lemmas.List.{take-append-le}
use Rattle.std.proofs.lemmas.Option.{slice_get_read, slice_get_within}
use Rattle.std.specs.Prelude.{Option, Some, None, ◌≢◌, IsTrue, slice_get}
use Rattle.bl_top_commands.specs.Calls.{Call, Output}
use Rattle.bl_top_commands.specs.inner.Outcomes.{IsEndOf, line_in, lines_in}
use Rattle.bl_top_commands.specs.inner.Walked.{ArePorts, IsWalk, WalksRows, WritesWalk, failed, refused, wrote}
use Rattle.bl_top_commands.specs.Notes.{line_of}
use Rattle.bl_top_commands.specs.Reads.{LeftBehind, source_limit}
use Rattle.bl_top_commands.specs.Refusals.{IsNotAccepted}
use Rattle.bl_top_commands.specs.Rows.{RanInPart, no_memory, unwritten as streams_unwritten}
use Rattle.bl_top_commands.specs.Sources.{IsProgramOfSource, RunsAs}
use Rattle.bl_top_commands.specs.Traces.{HasCourse}
use Rattle.bl_top_commands.specs.Walk.{WalkEnds, ran, steps, stopped, unwritten, want}
use Rattle.bl_top_commands.specs.declared.answer.Answer.{Answer}
use Rattle.bl_top_commands.specs.declared.outcome.Outcome.{Outcome}
use Rattle.bl_top_commands.specs.declared.status.Status.TheVariants as status
use Rattle.bl_cause_trees.specs.Peeled.{ArePeeled}
use Rattle.bl_ctree.specs.Control.{Idle}
use Rattle.bl_ctree.specs.Instances.{setting_of}
use Rattle.bl_ctree.specs.Means.{Means, ShownTrace, entry_items, shown_trace}
use Rattle.bl_ctree.specs.Store.{first_store}
use Rattle.bl_io.specs.Count.{Rose}
use Rattle.bl_io.specs.Held.{Appends, AppendsPart}
use Rattle.bl_io.specs.Left.{IsKept}
use Rattle.bl_rows.specs.Reading.{empty_reading, fault_in, rows_in, rows_of}
use Rattle.bl_rows.specs.Text.{header_text, last_text, line_text, lines_from, text_of}
use Rattle.bl_rows.specs.declared.fault.RowFault.{RowFault}
use Rattle.bl_rules_laws.specs.Traces.OneTrace.{SourceHasOneTrace}
use Rattle.bl_rows_stream.specs.Gathered.{Gathers, LeadsTo, broken, finish_over, whole}
use Rattle.bl_rows_stream.specs.Streams.{AppendsFront, AreLeft, Course, HasRead, Streamed, all, finish_of, text_over, unread}
use Rattle.bl_rows_stream.specs.declared.finish.Finish.{Finish}
use Rattle.bl_rows_stream.specs.declared.finish.Finish.TheVariants as finish
use Rattle.bl_rows_stream.specs.declared.gathered.RowsEnd.{RowsEnd}
use Rattle.bl_rows_stream.specs.declared.gathered.RowsEnd.TheVariants.{Read, Unread}
use Rattle.bl_tree.specs.declared.place.Place.{Place}
use Rattle.bl_tree.specs.declared.program.Program.{Program}
use Rattle.bl_tree.specs.declared.row.Column.{Column}
use Rattle.bl_tree.specs.declared.row.Last.{Last}
use Rattle.bl_tree.specs.declared.row.Last.TheVariants as last
use Rattle.bl_tree.specs.declared.row.Trace.{Trace}
use Rattle.bl_tree.specs.declared.tree.StructDef.{StructDef}
use Rattle.bl_tree.specs.declared.tree.Unit.{Unit as UnitDef}
use Rattle.bl_tree.specs.Ports.{input_columns, output_columns}
use Rattle.bl_tree.specs.Program.{is_entry}
use Rattle.bl_walk.specs.Laws.{BeginsNoMoreTicks, ClosedStayClosed, FrontsShowFronts, ShowsFront, ShowsNoMoreRows, WalksAreMeant}
use Rattle.bl_walk.specs.Lines.{tick_lines_from}
use Rattle.bl_walk.specs.Walks.{Appended, HasWalked}
use Rattle.bl_top_args.specs.Jobs.{Word}
use Rattle.bl_top_commands.proofs.Courses.{BytesFit, LinesFit, runs_as_program}
use Rattle.bl_top_commands.proofs.Streams.{no_fault, streams_end, streams_from}

-- ---- texts

-- a text begins with another
record Begins (first text : List ℕ) : Type 0 where
  rest : List ℕ
  is : text ≡ first ++ rest

-- what grew is a front of the longer text
part_front : (before : Option (List ℕ)) (first text : List ℕ) (after : Option (List ℕ)) → Begins first text → AppendsPart before first after →
    AppendsFront before text after
part_front None first text after begins grew = tt
part_front (Some bytes) first text after begins grew =
    let n = grew.0 in
    let short = grew.1 in
    let long = ap length begins.is ∙ length-append first begins.rest in (
      n,
      omega (arith, short, long),
      grew.2 ∙ ap (λ t. Some (bytes ++ t))
          (sym (ap (take n) begins.is ∙ take-append-le n first begins.rest (omega (arith, short)))),
    )

nothing_front : (before : Option (List ℕ)) (text : List ℕ) → AppendsFront before text before
nothing_front None text = tt
nothing_front (Some bytes) text = (0, omega arith, ap Some (sym (append-nil bytes)))

more_lines : (tick : ℕ) (outs : List Column) (rows more : List (List ℤ)) → Begins (lines_from tick outs rows) (lines_from tick outs (rows ++ more))
more_lines tick outs [] more = record { rest = lines_from tick outs more; is = refl }
more_lines tick outs (row ∷ rows) more =
    let later = more_lines (tick + 1) outs rows more in
    record {
      rest = later.rest;
      is = ap (λ ls. line_text tick outs row ++ ls) later.is ∙ sym (append_assoc (line_text tick outs row) (lines_from (tick + 1) outs rows) later.rest);
    }

-- the text of a trace that is open begins that of one that goes on from it
open_begins : (outs : List Column) (t u : Trace) (more : List (List ℤ)) → t.last ≡ last.Open → u.rows ≡ t.rows ++ more →
    Begins (text_of t outs) (text_of u outs)
unfolding text_of
open_begins outs t u more opened are =
    let lines = more_lines 1 outs t.rows more in
    let header = header_text outs in
    let shown_lines = lines_from 1 outs t.rows in
    let behind = lines.rest ++ last_text u.last in
    let here : header ++ (shown_lines ++ last_text t.last) ≡ header ++ shown_lines =
    ap (λ l. header ++ (shown_lines ++ last_text l)) opened ∙ ap (λ ls. header ++ ls) (append-nil shown_lines) in
    record {
      rest = behind;
      is =
          ap (λ rs. header ++ (lines_from 1 outs rs ++ last_text u.last)) are ∙ ap (λ ls. header ++ (ls ++ last_text u.last)) lines.is
          ∙ ap (λ ls. header ++ ls) (append_assoc shown_lines lines.rest (last_text u.last))
          ∙ sym (append_assoc header shown_lines behind) ∙ ap (λ ls. ls ++ behind) (sym here);
    }

-- ---- files

record Rest (left : Option (List ℕ)) (read : List ℕ) : Type 0 where
  bytes : List ℕ
  are : AreLeft left (read ++ bytes)

rest_of : (left rest : Option (List ℕ)) (read : List ℕ) → HasRead left read rest → Rest left read
rest_of None rest read handed = record { bytes = []; are = tt }
rest_of (Some every) rest read handed = record { bytes = handed.0; are = handed.1.0 }

record Bytes (left : Option (List ℕ)) : Type 0 where
  bytes : List ℕ
  are : AreLeft left bytes

bytes_of : (left : Option (List ℕ)) → Bytes left
bytes_of None = record { bytes = []; are = tt }
bytes_of (Some every) = record { bytes = every; are = refl }

-- ---- the one trace

pub same_shown : (t u : Trace) → shown_trace t ≡ shown_trace u → t ≡ u
same_shown t u e =
    let same_rows : t.rows ≡ u.rows = ap (λ (s : ShownTrace). s.rows) e in
    let both : Some t.last ≡ Some u.last = ap (λ (s : ShownTrace). s.last) e in
    let same_last : t.last ≡ u.last = cc in
    ap₂ (λ (rs : List (List ℤ)) (l : Last). record { rows = rs; last = l }) same_rows same_last

closed_last : (how : Last) (t : Trace) → t.last ≡ how → (how ≡ last.Open → ⊥) → (shown_trace t).last ≢ Some last.Open
closed_last how t e closed = λ opened. let same : t.last ≡ last.Open = cc in closed (sym e ∙ same)

-- rows alone never tell of a fault of `out`
no_write_fault : (how : Last) (end : RowsEnd) → finish_over how end ≡ finish.WriteFault → ⊥
no_write_fault how (Read fault) e = no_fault how fault (inr e)
no_write_fault last.Open Unread e = cc
no_write_fault last.Ended Unread e = cc
no_write_fault last.Trap Unread e = cc

-- a run that ended otherwise hasn't the status of a failed write
not_unwritten : (how : Finish) (outcome : Outcome) → (how ≡ finish.WriteFault → ⊥) → IsEndOf how outcome → outcome.status ≢ status.WriteFault
not_unwritten finish.Done outcome other ends = λ e. let same : status.Ok ≡ status.WriteFault = sym ends ∙ e in cc
not_unwritten finish.Trapped outcome other ends = λ e. let same : status.Trapped ≡ status.WriteFault = sym ends ∙ e in cc
not_unwritten (finish.BadRows line) outcome other (inl told) = λ e. let same : status.BadRows ≡ status.WriteFault = sym told.0 ∙ e in cc
not_unwritten (finish.BadRows line) outcome other (inr none) = λ e. let same : status.NoMemory ≡ status.WriteFault = sym none ∙ e in cc
not_unwritten finish.ReadFault outcome other ends = λ e. let same : status.ReadFault ≡ status.WriteFault = sym ends ∙ e in cc
not_unwritten finish.WriteFault outcome other ends = absurd (other refl)
not_unwritten finish.NoMemory outcome other ends = λ e. let same : status.NoMemory ≡ status.WriteFault = sym ends ∙ e in cc

module _ (structs : List StructDef) (units : List UnitDef) (entry : ℕ) (peeled : List UnitDef) (one : SourceHasOneTrace structs units entry peeled)
    (unit : UnitDef) where
  abbrev trace_over : List (List ℤ) → Trace
  trace_over rows = (one.each rows).trace

  abbrev outs : List Column
  outs = output_columns unit

  -- the course of the program's one trace
  abbrev pub walk_course : Course
  walk_course = record {
    ins = input_columns unit;
    last = λ rows. (trace_over rows).last;
    text = λ rows. text_of (trace_over rows) outs;
  }

  pub walk_has_course : ArePeeled units peeled → slice_get units entry ≡ Some unit → BytesFit → LinesFit → HasCourse structs units entry walk_course
  walk_has_course are is_entry fit so_far = record {
    unit = unit;
    is_entry = is_entry;
    inputs = refl;
    trace = trace_over;
    one = λ rows shows fits. (
      (λ means. (one.each rows).only shows means),
      (λ e. subst (Means structs units entry rows) (sym e) (one.each rows).means),
    );
    stands = λ rows. refl;
    shows = λ rows. refl;
    fit = λ bytes. fit bytes (input_columns unit);
    fit_so_far = λ bytes. so_far bytes (input_columns unit);
    peeled = peeled;
    are_peeled = are;
    bounded = one.bounded;
    never_stuck = one.never_stuck;
  }

  module _ (closed : ClosedStayClosed) (fronts : FrontsShowFronts) (left rest : Option (List ℕ)) (out : Output) (gathered : List (List ℤ))
      (trace : Trace) (means : Means structs units entry gathered (shown_trace trace)) where
    same_trace : (rows : List (List ℤ)) → Means structs units entry rows (shown_trace trace) → trace ≡ trace_over rows
    same_trace rows over = same_shown trace (trace_over rows) ((one.each rows).only (shown_trace trace) over)

    -- a trace that is closed is that over more rows
    closed_trace : (how : Last) → trace.last ≡ how → (how ≡ last.Open → ⊥) → (rows later : List (List ℤ)) → rows ≡ gathered ++ later →
        trace ≡ trace_over rows
    closed_trace how e shut rows later are =
        same_trace (gathered ++ later) (closed structs units entry gathered later (shown_trace trace) means (closed_last how trace e shut))
        ∙ ap trace_over (sym are)

    -- the text of a trace begins that over more rows
    begins_over : (how : Last) → trace.last ≡ how → (rows later : List (List ℤ)) → rows ≡ gathered ++ later →
        Begins (text_of trace outs) (text_of (trace_over rows) outs)
    begins_over last.Open e rows later are =
        let front : ShowsFront structs units entry gathered (shown_trace (trace_over rows)) =
        fronts structs units entry gathered later (shown_trace (trace_over rows))
        (subst (λ rs. Means structs units entry rs (shown_trace (trace_over rows))) are (one.each rows).means) in
        let same : front.front ≡ shown_trace trace =
        (one.each gathered).only front.front front.means ∙ sym ((one.each gathered).only (shown_trace trace) means) in
        open_begins outs trace (trace_over rows) front.more e
        (front.are ∙ ap (λ (s : ShownTrace). s.rows ++ front.more) same)
    begins_over last.Ended e rows later are = record {
      rest = [];
      is = sym (ap (λ t. text_of t outs) (closed_trace last.Ended e (λ opened. cc) rows later are)) ∙ sym (append-nil (text_of trace outs));
    }
    begins_over last.Trap e rows later are = record {
      rest = [];
      is = sym (ap (λ t. text_of t outs) (closed_trace last.Trap e (λ opened. cc) rows later are)) ∙ sym (append-nil (text_of trace outs));
    }

    whole_streamed : (fault : Option RowFault) (bytes : List ℕ) → AreLeft left bytes → gathered ≡ (rows_of bytes (input_columns unit)).rows →
        fault ≡ (rows_of bytes (input_columns unit)).fault → Appends out.before (text_of trace outs) out.after →
        Streamed walk_course left rest out.before out.after (finish_of trace.last fault)
    whole_streamed fault bytes are is faults grew =
        let rows = (rows_of bytes (input_columns unit)).rows in
        let same : trace ≡ trace_over rows = same_trace gathered means ∙ ap trace_over is in
        all bytes are (ap₂ (λ (t : Trace) (f : Option RowFault). finish_of t.last f) same faults)
        (subst (λ t. Appends out.before (text_of t outs) out.after) same grew)

    closed_streamed : (how : Last) → trace.last ≡ how → (how ≡ last.Open → ⊥) → (read : List ℕ) → HasRead left read rest →
        ((more : List ℕ) → LeadsTo gathered (rows_of (read ++ more) (input_columns unit)).rows) → Appends out.before (text_of trace outs) out.after →
        ((f g : Option RowFault) → finish_of how f ≡ finish_of how g) → Streamed walk_course left rest out.before out.after (finish_of how None)
    closed_streamed how e shut read handed leads grew alike =
        let left_over = rest_of left rest read handed in
        let bytes = read ++ left_over.bytes in
        let lead = leads left_over.bytes in
        let same : trace ≡ trace_over (rows_of bytes (input_columns unit)).rows =
        closed_trace how e shut (rows_of bytes (input_columns unit)).rows lead.later lead.are in
        let fault = (rows_of bytes (input_columns unit)).fault in
        all bytes left_over.are
        (alike None fault ∙ ap (λ l. finish_of l fault) (sym e ∙ ap (λ (t : Trace). t.last) same))
        (subst (λ t. Appends out.before (text_of t outs) out.after) same grew)

    broken_streamed : (how : Last) → trace.last ≡ how → (read : List ℕ) → HasRead left read rest →
        fault_in (empty_reading (input_columns unit)) read ≡ None → gathered ≡ rows_in (empty_reading (input_columns unit)) read →
        ((more : List ℕ) → LeadsTo gathered (rows_of (read ++ more) (input_columns unit)).rows) → Appends out.before (text_of trace outs) out.after →
        Streamed walk_course left rest out.before out.after (finish_over how Unread)
    broken_streamed last.Open e read handed good is leads grew =
        let same : trace ≡ trace_over (rows_in (empty_reading (input_columns unit)) read) = same_trace gathered means ∙ ap trace_over is in
        unread (record {
          read = read;
          handed_over = handed;
          good = good;
          running = sym (ap (λ (t : Trace). t.last) same) ∙ e;
          written = subst (λ t. Appends out.before (text_of t outs) out.after) same grew;
        })
    broken_streamed last.Ended e read handed good is leads grew =
        closed_streamed last.Ended e (λ opened. cc) read handed leads grew (λ f g. refl)
    broken_streamed last.Trap e read handed good is leads grew =
        closed_streamed last.Trap e (λ opened. cc) read handed leads grew (λ f g. refl)

    -- the whole text of the trace grew
    pub walk_streamed : (end : RowsEnd) → Gathers (input_columns unit) left rest gathered end → Appends out.before (text_of trace outs) out.after →
        Streamed walk_course left rest out.before out.after (finish_over trace.last end)
    walk_streamed _ (whole {fault} bytes are is faults) grew = whole_streamed fault bytes are is faults grew
    walk_streamed _ (broken read handed good is leads) grew =
        broken_streamed trace.last refl read handed good is leads grew

    -- or a front of it did
    pub walk_part : (end : RowsEnd) → Gathers (input_columns unit) left rest gathered end → AppendsPart out.before (text_of trace outs) out.after →
        RanInPart walk_course left out
    walk_part _ (whole {fault} bytes are is faults) grew =
        let rows = (rows_of bytes (input_columns unit)).rows in
        let same : trace ≡ trace_over rows = same_trace gathered means ∙ ap trace_over is in
        let begins : Begins (text_of trace outs) (text_over walk_course bytes) =
        record { rest = []; is = sym (ap (λ t. text_of t outs) same) ∙ sym (append-nil (text_of trace outs)) } in
        record {
          bytes = bytes;
          are_left = are;
          grew = part_front out.before (text_of trace outs) (text_over walk_course bytes) out.after begins grew;
        }
    walk_part _ (broken read handed good is leads) grew =
        let left_over = rest_of left rest read handed in
        let bytes = read ++ left_over.bytes in
        let lead = leads left_over.bytes in
        record {
          bytes = bytes;
          are_left = left_over.are;
          grew = part_front out.before (text_of trace outs) (text_over walk_course bytes) out.after
              (begins_over trace.last refl (rows_of bytes (input_columns unit)).rows lead.later lead.are) grew;
        }

-- ---- the end of the command

entry_from : (found : Option UnitDef) → is_entry found ≡ true → (unit : UnitDef) × (found ≡ Some unit)
entry_from (Some unit) e = (unit, refl)
entry_from None e = absurd cc

module _ (c : Call) (source rows : Word) (seed : ℕ) (program : Program) (peeled : List UnitDef) (are : ArePeeled program.units peeled)
    (is : IsProgramOfSource (c.left source) program) (one : SourceHasOneTrace program.structs program.units program.entry peeled) (fit : BytesFit)
    (so_far : LinesFit) (between : Word → Option (List ℕ)) (behind : LeftBehind source_limit source c.left between) where
  abbrev course_at : UnitDef → Course
  course_at unit = walk_course program.structs program.units program.entry peeled one unit

  runs : (unit : UnitDef) → slice_get program.units program.entry ≡ Some unit → RunsAs (c.left source) (course_at unit)
  runs unit is_entry =
      runs_as_program (c.left source) program (course_at unit) is
      (walk_has_course program.structs program.units program.entry peeled one unit are is_entry fit so_far)

  -- memory was refused before anything was written
  pub walk_refused : (answer : Answer) → IsTrue (is_entry (slice_get program.units program.entry)) → c.out.after ≡ c.out.before →
      answer.outcome.status ≡ status.NoMemory → answer.told.items ≡ [] → WalkEnds c source rows seed answer.outcome.status (lines_in answer)
  walk_refused answer stands same e none =
      let entry = entry_from (slice_get program.units program.entry) stands in
      let every = bytes_of (between rows) in
      let nothing : RanInPart (course_at entry.0) (between rows) c.out = record {
        bytes = every.bytes;
        are_left = every.are;
        grew = subst (λ a. AppendsFront c.out.before (text_over (course_at entry.0) every.bytes) a) (sym same)
            (nothing_front c.out.before (text_over (course_at entry.0) every.bytes));
      } in
      rw (none, e) (ran {lines = []} {line = line_of status.NoMemory} (course_at entry.0) (runs entry.0 entry.1) between behind (no_memory nothing) want)

  module _ (closed : ClosedStayClosed) (fronts : FrontsShowFronts) (meant : WalksAreMeant) (second : ℕ) (below : (c.file rows).before ≤ second)
      (text told : List ℕ) (how : Finish)
      (walk : IsWalk program.structs program.units program.entry (between rows) (c.rest rows) seed text told how)
      (risen : how ≡ finish.ReadFault → Rose second (c.file rows).after) where
    means : Means program.structs program.units program.entry walk.gathered (shown_trace walk.walks.trace)
    means = meant program.structs program.units program.entry seed walk.gathered walk.walks.trace walk.walks.lists walk.walks.walked

    streamed : Appends c.out.before text c.out.after → Streamed (course_at walk.unit) (between rows) (c.rest rows) c.out.before c.out.after how
    streamed grew =
        subst (λ h. Streamed (course_at walk.unit) (between rows) (c.rest rows) c.out.before c.out.after h) (sym walk.walks.how_is)
        (walk_streamed program.structs program.units program.entry peeled one walk.unit closed fronts (between rows) (c.rest rows) c.out walk.gathered
        walk.walks.trace means walk.end walk.gathers (subst (λ t. Appends c.out.before t c.out.after) walk.walks.text_is grew))

    part : AppendsPart c.out.before text c.out.after → RanInPart (course_at walk.unit) (between rows) c.out
    part grew =
        walk_part program.structs program.units program.entry peeled one walk.unit closed fronts (between rows) (c.rest rows) c.out walk.gathered
        walk.walks.trace means walk.end walk.gathers (subst (λ t. AppendsPart c.out.before t c.out.after) walk.walks.text_is grew)

    no_fault_of_out : how ≡ finish.WriteFault → ⊥
    no_fault_of_out e = no_write_fault walk.walks.trace.last walk.end (sym walk.walks.how_is ∙ e)

    pub walk_ran : (answer : Answer) → WritesWalk text told how c.out answer → WalkEnds c source rows seed answer.outcome.status (lines_in answer)
    walk_ran answer (wrote grew same ends) =
        ran (course_at walk.unit) (runs walk.unit walk.is_entry) between behind
        (streams_from (course_at walk.unit) (between rows) (c.rest rows) (c.file rows).before second (c.file rows).after c.out answer.outcome.status
        (line_in answer.outcome) below
        (streams_end (course_at walk.unit) (between rows) (c.rest rows) (record { before = second; after = (c.file rows).after }) c.out how answer.outcome
        ends (streamed grew) risen (λ e. absurd (no_fault_of_out e))))
        (steps (not_unwritten how answer.outcome no_fault_of_out ends) (record {
          text = is.source;
          of_source = is.of_source;
          program = program;
          has = is.has;
          unit = walk.unit;
          is_entry = walk.is_entry;
          gathered = walk.gathered;
          end = walk.end;
          gathers = walk.gathers;
          trace = walk.walks.trace;
          lists = walk.walks.lists;
          walked = walk.walks.walked;
          grew = subst (λ t. Appends c.out.before t c.out.after) walk.walks.text_is grew;
          told = same ∙ walk.walks.told_is;
        }))
    walk_ran answer (failed grew rose none e) =
        rw (none, e) (ran {lines = []} {line = line_of status.WriteFault} (course_at walk.unit) (runs walk.unit walk.is_entry) between behind
        (streams_unwritten (part grew) rose) unwritten)
    walk_ran answer (refused grew none e) =
        rw (none, e) (ran {lines = []} {line = line_of status.NoMemory} (course_at walk.unit) (runs walk.unit walk.is_entry) between behind
        (no_memory (part grew)) want)

-- a source that isn't accepted
pub walk_stopped : (c : Call) (source rows : Word) (seed : ℕ) (answer : Answer) (outcome : Outcome) → answer.outcome ≡ outcome →
    lines_in answer ≡ line_in outcome → IsNotAccepted (c.left source) (c.file source) outcome.status (line_in outcome) →
    IsKept c.out.before c.out.after → WalkEnds c source rows seed answer.outcome.status (lines_in answer)
walk_stopped c source rows seed answer outcome same lines why kept =
    subst (λ ls. WalkEnds c source rows seed answer.outcome.status ls) (sym lines)
    (subst (λ (o : Outcome). WalkEnds c source rows seed o.status (line_in outcome)) (sym same) (stopped why kept))

-- ---- the parts of a walk

-- rows that were gathered for the columns of the program's inputs, and walked
pub is_walk : (structs : List StructDef) (units : List UnitDef) (entry : ℕ) (left rest : Option (List ℕ)) (seed : ℕ) (ins out_columns : List Column)
    (rows : List (List ℤ)) (end : RowsEnd) (text told : List ℕ) (how : Finish) → ArePorts units entry ins out_columns →
    Gathers ins left rest rows end → WalksRows structs units entry seed rows end out_columns text told how →
    IsWalk structs units entry left rest seed text told how
is_walk structs units entry left rest seed ins out_columns rows end text told how ports gathers walks = record {
  unit = ports.unit;
  is_entry = ports.is_entry;
  gathered = rows;
  end = end;
  gathers = subst (λ cs. Gathers cs left rest rows end) ports.inputs gathers;
  walks = subst (λ cs. WalksRows structs units entry seed rows end cs text told how) ports.outputs walks;
}

-- a walk tells that the file failed only where a read did
pub read_failed : (how : Last) (end : RowsEnd) → finish_over how end ≡ finish.ReadFault → end ≡ Unread
read_failed how (Read fault) e = absurd (no_fault how fault (inl e))
read_failed how Unread e = refl

pub walk_read_failed : (structs : List StructDef) (units : List UnitDef) (entry seed : ℕ) (rows : List (List ℤ)) (end : RowsEnd) (columns : List Column)
    (text told : List ℕ) (how : Finish) → WalksRows structs units entry seed rows end columns text told how → how ≡ finish.ReadFault → end ≡ Unread
walk_read_failed structs units entry seed rows end columns text told how walks e = read_failed walks.trace.last end (sym walks.how_is ∙ e)

-- the entry is there
pub entry_within : (units : List UnitDef) (entry : ℕ) → IsTrue (is_entry (slice_get units entry)) → entry < length units
entry_within units entry stands =
    let there = entry_from (slice_get units entry) stands in slice_get_within units entry there.0 there.1

-- ---- rows and lines of a walk

-- so few rows are shown that each tick has a number
pub few_shown : ShowsNoMoreRows → (structs : List StructDef) (units : List UnitDef) (entry : ℕ) (rows gathered : List (List ℤ)) (trace : Trace) →
    rows ≡ gathered → length gathered ≤ 1000000 → Means structs units entry rows (shown_trace trace) → length trace.rows < 2 ^ 32 - 1
few_shown bound structs units entry rows gathered trace same few means =
    let w = setting_of structs units entry in
    let most : length trace.rows ≤ length rows = bound w rows (Idle (entry_items w)) (first_store w) (shown_trace trace) means in
    let long : length rows ≡ length gathered = ap length same in
    omega (arith, most, long, few)

-- and so few ticks are begun
pub few_begun : BeginsNoMoreTicks → (structs : List StructDef) (units : List UnitDef) (entry seed : ℕ) (rows gathered : List (List ℤ)) (trace : Trace)
    (before after : List (List Place)) → before ≡ [] → rows ≡ gathered → length gathered ≤ 1000000 →
    Appended structs units entry seed rows trace before after → length after < 2 ^ 32 - 1
few_begun bound structs units entry seed rows gathered trace before after none same few walked =
    let most : length walked.lists ≤ length rows = bound structs units entry seed rows trace walked.lists walked.walked in
    let grew : after ≡ walked.lists = walked.grew ∙ ap (λ ls. ls ++ walked.lists) none in
    let every : length after ≡ length walked.lists = ap length grew in
    let long : length rows ≡ length gathered = ap length same in
    omega (arith, most, every, long, few)

-- the text and the lines of a walk
pub walks_rows : (structs : List StructDef) (units : List UnitDef) (entry seed : ℕ) (rows gathered : List (List ℤ)) (end : RowsEnd)
    (columns : List Column) (trace : Trace) (before after ticks : List (List Place)) (text told : List ℕ) (how : Finish) → before ≡ [] →
    rows ≡ gathered → Appended structs units entry seed rows trace before after → text ≡ text_of trace columns → ticks ≡ after →
    told ≡ tick_lines_from 1 ticks → how ≡ finish_over trace.last end → WalksRows structs units entry seed gathered end columns text told how
walks_rows structs units entry seed rows gathered end columns trace before after ticks text told how none same walked text_is ticks_are told_is how_is =
    let grew : ticks ≡ walked.lists = ticks_are ∙ walked.grew ∙ ap (λ ls. ls ++ walked.lists) none in
    record {
      trace = trace;
      lists = walked.lists;
      walked = subst (λ rs. HasWalked structs units entry seed rs trace walked.lists) same walked.walked;
      text_is = text_is;
      told_is = told_is ∙ ap (λ ls. tick_lines_from 1 ls) grew;
      how_is = how_is;
    }

-- the columns of the entry that was read
pub are_ports : (units : List UnitDef) (entry : ℕ) (unit : UnitDef) (ins out_columns : List Column) → entry < length units →
    unit ≡ get_or units entry unit → ins ≡ input_columns unit → out_columns ≡ output_columns unit → ArePorts units entry ins out_columns
are_ports units entry unit ins out_columns within is inputs outputs = record {
  unit = unit;
  is_entry = slice_get_read units (length units) entry unit refl within is;
  inputs = inputs;
  outputs = outputs;
}
