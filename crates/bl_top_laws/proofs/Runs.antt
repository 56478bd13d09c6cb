-- How sources that pass, results and runs over rows end where no count of faults rises.
use Rattle.std.proofs.Common.{◌≡◌, ◌∙◌, ℕ, List, refl, sym, ap, subst, inl, inr}
use Rattle.std.specs.Prelude.{◌⊎◌, Option, Some, slice_get}
use Rattle.bl_ctree.specs.Means.{Means, ShownTrace, shown_trace}
use Rattle.bl_parse_tree.specs.declared.raw.Raw.{Raw}
use Rattle.bl_rows.specs.Reading.{rows_of}
use Rattle.bl_rows.specs.declared.fault.RowFault.{RowFault}
use Rattle.bl_rows_stream.specs.Streams.{AreLeft, Course, finish_of, last_over}
use Rattle.bl_rows_stream.specs.declared.finish.Finish.{Finish}
use Rattle.bl_rows_stream.specs.declared.finish.Finish.TheVariants as finish
use Rattle.bl_rules.specs.Accepted.{HasTree}
use Rattle.bl_rules.specs.Rules.{FirstFailing, Passes}
use Rattle.bl_top_commands.specs.Calls.{Count, HasRisen, Output}
use Rattle.bl_top_commands.specs.Refusals.{IsNotAccepted, RefusedText, refused, short, unread as source_unread}
use Rattle.bl_top_commands.specs.Results.{WritesResult, fault, nothing, want, whole}
use Rattle.bl_top_commands.specs.Rows.{Ran, Streams, bad_rows, done, no_memory, trapped, unread, unwritten}
use Rattle.bl_top_commands.specs.Sources.{RunsAs}
use Rattle.bl_top_commands.specs.Traces.{HasCourse}
use Rattle.bl_top_commands.specs.declared.status.Status.{Status}
use Rattle.bl_top_commands.specs.declared.status.Status.TheVariants as status
use Rattle.bl_top_laws.proofs.Texts.{tree_of_source}
use Rattle.bl_top_laws.specs.Complete.{RunsTo, finish_status, run_status}
use Rattle.bl_tree.specs.Ports.{input_columns}
use Rattle.bl_tree.specs.declared.row.Last.{Last}
use Rattle.bl_tree.specs.declared.row.Trace.{Trace}
use Rattle.bl_tree.specs.declared.tree.Unit.{Unit as UnitDef}
use Rattle.bl_types_program.specs.Programs.{typed_of}
use Rattle.bl_top_commands.proofs.Resumes.{told_source}

-- a status is the one that is due, or that of want of memory
abbrev pub IsDone : Status → Status → Type 0
IsDone ended good = (ended ≡ status.NoMemory) ⊎ (ended ≡ good)

-- ---- sources

-- a rule fails for a source that is refused
pub refused_fails : (left : Option (List ℕ)) (source line : List ℕ) → left ≡ Some source → RefusedText left line → ¬ Passes source
refused_fails left source line holds why = λ passes.
    let same = told_source left source why.text holds why.of_source in
    let first = subst (λ text. FirstFailing text why.rule why.place why.also) (sym same) why.first in
    passes why.rule why.place why.also first.fails

-- a source that passes is accepted, where it can be read and memory isn't refused
pub source_accepted : (left : Option (List ℕ)) (file : Count) (source : List ℕ) (ended : Status) (line : List ℕ) → left ≡ Some source →
    Passes source → ¬ HasRisen file → IsNotAccepted left file ended line → ended ≡ status.NoMemory
source_accepted left file source _ line holds passes none (refused why) = absurd (refused_fails left source line holds why passes)
source_accepted left file source _ _ holds passes none (source_unread risen) = absurd (none risen)
source_accepted left file source _ _ holds passes none short = refl

-- ---- results

pub result_done : (Is : List ℕ → Type 0) (out : Output) (ended : Status) → ¬ HasRisen out.faults → WritesResult Is out ended → IsDone ended status.Ok
result_done Is out _ none (whole text is grew) = inr refl
result_done Is out _ none (fault text is grew risen) = absurd (none risen)
result_done Is out _ none (want text is grew) = inl refl
result_done Is out _ none (nothing kept) = inl refl

-- ---- runs over rows

-- how a run ends over the rows of a file's bytes
ran_over : (course : Course) (left : Option (List ℕ)) (out : Output) (how : Finish) (bytes : List ℕ) → left ≡ Some bytes →
    Ran course left out how → finish_of (last_over course bytes) (rows_of bytes course.ins).fault ≡ how
ran_over course left out how bytes holds ran =
    let same = subst (λ l. AreLeft l ran.bytes) holds ran.are_left in
    subst (λ bs. finish_of (last_over course bs) (rows_of bs course.ins).fault ≡ how) (sym same) ran.ends

-- the status of a run is that of its end
ended_so : (how other : Finish) (ended : Status) → how ≡ other → ended ≡ finish_status other → IsDone ended (finish_status how)
ended_so how other ended same is = inr (is ∙ ap finish_status (sym same))

pub streams_due : (course : Course) (left rest : Option (List ℕ)) (rows : Count) (out : Output) (ended : Status) (line bytes : List ℕ) →
    left ≡ Some bytes → ¬ HasRisen rows → ¬ HasRisen out.faults → Streams course left rest rows out ended line →
    IsDone ended (run_status (last_over course bytes) (rows_of bytes course.ins).fault)
streams_due course left rest rows out _ _ bytes holds none_read none_written (done ran) =
    ended_so _ finish.Done status.Ok (ran_over course left out finish.Done bytes holds ran) refl
streams_due course left rest rows out _ _ bytes holds none_read none_written (trapped ran) =
    ended_so _ finish.Trapped status.Trapped (ran_over course left out finish.Trapped bytes holds ran) refl
streams_due course left rest rows out _ _ bytes holds none_read none_written (bad_rows line ran) =
    ended_so _ (finish.BadRows line) status.BadRows (ran_over course left out (finish.BadRows line) bytes holds ran) refl
streams_due course left rest rows out _ _ bytes holds none_read none_written (unread why risen) = absurd (none_read risen)
streams_due course left rest rows out _ _ bytes holds none_read none_written (unwritten ran risen) = absurd (none_written risen)
streams_due course left rest rows out _ _ bytes holds none_read none_written (no_memory ran) = inl refl

-- ---- courses that run a source

-- an accepted text has one tree
abbrev pub OneTree : Type 0
OneTree = (text : List ℕ) (raw other : Raw) → HasTree text raw → HasTree text other → raw ≡ other

pub one_unit : (found : Option UnitDef) (one other : UnitDef) → found ≡ Some one → found ≡ Some other → one ≡ other
one_unit found one other is too = let both = sym is ∙ too in cc

pub one_last : (one other : Last) → Some one ≡ Some other → one ≡ other
one_last one other same = cc

-- the rows of these bytes end by this fault, if any, and the course stands so after them
pub record GoesTo (course : Course) (bytes : List ℕ) (last : Last) (why : Option RowFault) : Type 0 where
  pub first : (rows_of bytes course.ins).fault ≡ why
  pub is : last_over course bytes ≡ last

module _ (course : Course) (source bytes : List ℕ) (trace : Trace) (to : RunsTo source bytes trace)
    (has : HasCourse (typed_of to.tree).structs (typed_of to.tree).units (typed_of to.tree).entry course) where
  columns_are : course.ins ≡ input_columns to.entry
  columns_are =
      has.inputs ∙ ap input_columns (one_unit (slice_get (typed_of to.tree).units (typed_of to.tree).entry) has.unit to.entry has.is_entry to.is_entry)

  means_over : Means (typed_of to.tree).structs (typed_of to.tree).units (typed_of to.tree).entry (rows_of bytes course.ins).rows (shown_trace trace)
  means_over =
      subst (λ columns. Means (typed_of to.tree).structs (typed_of to.tree).units (typed_of to.tree).entry (rows_of bytes columns).rows (shown_trace trace))
      (sym columns_are) to.means

  course_to : GoesTo course bytes trace.last to.fault
  course_to =
      let rows = (rows_of bytes course.ins).rows in
      let shown = (has.one rows (shown_trace trace) (has.fit bytes)).0 means_over in
      record {
        first = subst (λ columns. (rows_of bytes columns).fault ≡ to.fault) (sym columns_are) to.first;
        is = has.stands rows ∙ sym (one_last trace.last (has.trace rows).last (ap (λ (s : ShownTrace). s.last) shown));
      }

-- what runs a source goes where the source's program does
pub source_to : OneTree → (left : Option (List ℕ)) (source bytes : List ℕ) (trace : Trace) (course : Course) → left ≡ Some source →
    (to : RunsTo source bytes trace) → RunsAs left course → GoesTo course bytes trace.last to.fault
source_to one left source bytes trace course holds to runs =
    let same : runs.raw ≡ to.tree = one source runs.raw to.tree (tree_of_source left source runs.raw holds runs.tree) to.has in
    course_to course source bytes trace to
    (subst (λ (raw : Raw). HasCourse (typed_of raw).structs (typed_of raw).units (typed_of raw).entry course) same runs.has)

-- a run of a course over these bytes ends as it stands after their rows
pub course_due : (course : Course) (left rest : Option (List ℕ)) (rows : Count) (out : Output) (ended : Status) (line bytes : List ℕ) (last : Last)
    (why : Option RowFault) → left ≡ Some bytes → ¬ HasRisen rows → ¬ HasRisen out.faults → GoesTo course bytes last why →
    Streams course left rest rows out ended line → IsDone ended (run_status last why)
course_due course left rest rows out ended line bytes last why holds none_read none_written to streams =
    subst (λ l. IsDone ended (run_status l why)) to.is
    (subst (λ f. IsDone ended (run_status (last_over course bytes) f)) to.first
    (streams_due course left rest rows out ended line bytes holds none_read none_written streams))
