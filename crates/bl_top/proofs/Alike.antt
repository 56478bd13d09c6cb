-- The courses that run a source end alike and show the same.
use Rattle.std.proofs.Common.{◌≡◌, ◌∙◌, ℕ, ℤ, List, refl, sym, ap, subst}
use Rattle.std.specs.Prelude.{Option, Some, None, unwrap_or}
use Rattle.bl_top_commands.specs.Calls.{Count, Output}
use Rattle.bl_top_commands.specs.Rows.{Ran, RanInPart, Streams, bad_rows, done, no_memory, trapped, unread, unwritten}
use Rattle.bl_top_commands.specs.Sources.{IsRawTreeOf, RunsAs}
use Rattle.bl_top_commands.specs.Traces.{HasCourse}
use Rattle.bl_top_commands.specs.declared.status.Status.{Status}
use Rattle.bl_ctree.specs.Means.{shown_trace}
use Rattle.bl_io.specs.Held.{Appends}
use Rattle.bl_types_program.specs.Programs.{typed_of}
use Rattle.bl_parse_tree.specs.declared.raw.Raw.{Raw}
use Rattle.bl_rows.specs.Reading.{empty_reading, fault_in, rows_in, rows_of}
use Rattle.bl_rows.specs.Text.{text_of}
use Rattle.bl_rules.specs.Accepted.{HasTree}
use Rattle.bl_rows_stream.specs.Streams.{AppendsFront, Course, Unread, finish_of, last_over, last_so_far, text_over, text_so_far}
use Rattle.bl_rows_stream.specs.declared.finish.Finish.{Finish}
use Rattle.bl_tree.specs.Ports.{RowsFit, input_columns, output_columns}
use Rattle.bl_tree.specs.declared.row.Trace.{Trace}
use Rattle.bl_tree.specs.declared.tree.StructDef.{StructDef}
use Rattle.bl_tree.specs.declared.tree.Unit.{Unit as UnitDef}
use Rattle.bl_top_commands.proofs.Walks.{same_shown}

-- over the rows of any bytes both end alike and show the same, and so they do over those of whole lines
pub record Alike (course other : Course) : Type 0 where
  pub ins : course.ins ≡ other.ins
  pub last : (bytes : List ℕ) → last_over course bytes ≡ last_over other bytes
  pub text : (bytes : List ℕ) → text_over course bytes ≡ text_over other bytes
  pub last_so_far : (bytes : List ℕ) → last_so_far course bytes ≡ last_so_far other bytes
  pub text_so_far : (bytes : List ℕ) → text_so_far course bytes ≡ text_so_far other bytes

-- ---- how runs of both end

module _ (course other : Course) (alike : Alike course other) (left rest : Option (List ℕ)) (out : Output) where
  ran_alike : (how : Finish) → Ran course left out how → Ran other left out how
  ran_alike how ran = record {
    bytes = ran.bytes;
    are_left = ran.are_left;
    ends = subst (λ columns. finish_of (last_over other ran.bytes) (rows_of ran.bytes columns).fault ≡ how) alike.ins
        (subst (λ last. finish_of last (rows_of ran.bytes course.ins).fault ≡ how) (alike.last ran.bytes) ran.ends);
    grew = subst (λ text. Appends out.before text out.after) (alike.text ran.bytes) ran.grew;
  }

  part_alike : RanInPart course left out → RanInPart other left out
  part_alike ran = record {
    bytes = ran.bytes;
    are_left = ran.are_left;
    grew = subst (λ text. AppendsFront out.before text out.after) (alike.text ran.bytes) ran.grew;
  }

  unread_alike : Unread course left rest out.before out.after → Unread other left rest out.before out.after
  unread_alike why = record {
    read = why.read;
    handed_over = why.handed_over;
    good = subst (λ columns. fault_in (empty_reading columns) why.read ≡ None) alike.ins why.good;
    running = sym (alike.last_so_far why.read) ∙ why.running;
    written = subst (λ text. Appends out.before text out.after) (alike.text_so_far why.read) why.written;
  }

  streams_alike : (rows : Count) (ended : Status) (line : List ℕ) → Streams course left rest rows out ended line →
      Streams other left rest rows out ended line
  streams_alike rows _ _ (done ran) = done (ran_alike _ ran)
  streams_alike rows _ _ (trapped ran) = trapped (ran_alike _ ran)
  streams_alike rows _ _ (bad_rows line ran) = bad_rows line (ran_alike _ ran)
  streams_alike rows _ _ (unread why risen) = unread (unread_alike why) risen
  streams_alike rows _ _ (unwritten ran risen) = unwritten (part_alike ran) risen
  streams_alike rows _ _ (no_memory ran) = no_memory (part_alike ran)

-- ---- courses of one program

module _ (structs : List StructDef) (units : List UnitDef) (entry : ℕ) (course other : Course) (is : HasCourse structs units entry course)
    (too : HasCourse structs units entry other) where
  one_unit : is.unit ≡ too.unit
  one_unit = ap (λ (unit : Option UnitDef). unwrap_or unit is.unit) (sym is.is_entry ∙ too.is_entry)

  one_trace : (rows : List (List ℤ)) → RowsFit (input_columns is.unit) rows → is.trace rows ≡ too.trace rows
  one_trace rows fit =
      same_shown (is.trace rows) (too.trace rows)
      ((too.one rows (shown_trace (is.trace rows)) (subst (λ unit. RowsFit (input_columns unit) rows) one_unit fit)).0
      ((is.one rows (shown_trace (is.trace rows)) fit).1 refl))

  one_ins : course.ins ≡ other.ins
  one_ins = is.inputs ∙ ap input_columns one_unit ∙ sym too.inputs

  one_last : (rows : List (List ℤ)) → RowsFit (input_columns is.unit) rows → course.last rows ≡ other.last rows
  one_last rows fit = is.stands rows ∙ ap (λ (trace : Trace). trace.last) (one_trace rows fit) ∙ sym (too.stands rows)

  one_text : (rows : List (List ℤ)) → RowsFit (input_columns is.unit) rows → course.text rows ≡ other.text rows
  one_text rows fit =
      is.shows rows ∙ ap (λ trace. text_of trace (output_columns is.unit)) (one_trace rows fit)
      ∙ ap (λ unit. text_of (too.trace rows) (output_columns unit)) one_unit ∙ sym (too.shows rows)

  alike_courses : Alike course other
  alike_courses = record {
    ins = one_ins;
    last = λ bytes. one_last (rows_of bytes course.ins).rows (is.fit bytes) ∙ ap (λ columns. other.last (rows_of bytes columns).rows) one_ins;
    text = λ bytes. one_text (rows_of bytes course.ins).rows (is.fit bytes) ∙ ap (λ columns. other.text (rows_of bytes columns).rows) one_ins;
    last_so_far = λ bytes. one_last (rows_in (empty_reading course.ins) bytes) (is.fit_so_far bytes)
        ∙ ap (λ columns. other.last (rows_in (empty_reading columns) bytes)) one_ins;
    text_so_far = λ bytes. one_text (rows_in (empty_reading course.ins) bytes) (is.fit_so_far bytes)
        ∙ ap (λ columns. other.text (rows_in (empty_reading columns) bytes)) one_ins;
  }

-- ---- courses of one source

-- an accepted text has one tree
abbrev pub OneTree : Type 0
OneTree = (text : List ℕ) (raw other : Raw) → HasTree text raw → HasTree text other → raw ≡ other

tree_here : (source : List ℕ) (raw : Raw) → IsRawTreeOf (Some source) raw → HasTree source raw
tree_here source raw tree = subst (λ text. HasTree text raw) (sym tree.of_source) tree.has

pub source_streams : OneTree → (source : List ℕ) (course other : Course) → RunsAs (Some source) course → RunsAs (Some source) other →
    (left rest : Option (List ℕ)) (rows : Count) (out : Output) (ended : Status) (line : List ℕ) → Streams course left rest rows out ended line →
    Streams other left rest rows out ended line
source_streams one source course other is too left rest rows out ended line streams =
    let same = one source too.raw is.raw (tree_here source too.raw too.tree) (tree_here source is.raw is.tree) in
    let has = subst (λ raw. HasCourse (typed_of raw).structs (typed_of raw).units (typed_of raw).entry other) same too.has in
    streams_alike course other
    (alike_courses (typed_of is.raw).structs (typed_of is.raw).units (typed_of is.raw).entry course other is.has has) left rest out rows ended
    line streams
