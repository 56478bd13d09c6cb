-- Calls in which no count of faults rises end with the status that is due.
use Rattle.std.proofs.Common.{◌≡◌, ◌∙◌, ℕ, List, refl, sym, ap, subst, inl, inr, arith}
use Rattle.std.specs.Prelude.{◌⊎◌, ◌<◌, ◌≤◌, Some}
use Rattle.bl_ctext.specs.declared.file.CFile.{CFile}
use Rattle.bl_ctext_semantics.specs.Parts.{Parts}
use Rattle.bl_ctext_semantics_laws_places.specs.Behaviour.{Behaviour}
use Rattle.bl_ctree.specs.Means.{Means, ShownTrace, shown_trace}
use Rattle.bl_gen.specs.Outputs.{input_rows}
use Rattle.bl_gen.specs.Text.{most_stages, program_text}
use Rattle.bl_gen_run.specs.Runs.{HasTrace}
use Rattle.bl_parse_tree.specs.declared.raw.Raw.{Raw}
use Rattle.bl_rows_stream.specs.Streams.{Course}
use Rattle.bl_rows_stream_laws.specs.Counts.{counts_by}
use Rattle.bl_rules.specs.Rules.{Passes}
use Rattle.bl_save.specs.States.{OneMemory}
use Rattle.bl_top.specs.Build.{BuildEnds, IsBuiltOf, stopped as build_stopped, written}
use Rattle.bl_top.specs.Drive.{DriveEnds, Plants, drove, short as drive_short, stopped as drive_stopped}
use Rattle.bl_top.specs.Run.{RunEnds, ran as run_ran, stopped as run_stopped}
use Rattle.bl_top_args.specs.Jobs.{JobSpec, Word, bound, build, check, count, drive, exec, face, gen, link, resume, run, save, save_from, walk}
use Rattle.bl_top_commands.proofs.SameFiles.{EachBehaves}
use Rattle.bl_top_commands.specs.Bound.{BoundEnds, TellsBounds, costs_told, stopped as bound_stopped}
use Rattle.bl_top_commands.specs.Calls.{Call, HasRisen}
use Rattle.bl_top_commands.specs.Check.{CheckEnds, accepted, accepted_line, stopped as check_stopped}
use Rattle.bl_top_commands.specs.Exec.{TextEnds, ran as text_ran, stopped as text_stopped}
use Rattle.bl_top_commands.specs.Gen.{GenEnds, IsNotRun, last_status, ran as gen_ran, refused, short, stopped as gen_stopped, too_large}
use Rattle.bl_top_commands.specs.Reads.{source_limit}
use Rattle.bl_top_commands.specs.Refusals.{IsNotAccepted, refused as is_refused, short as is_short, unread as is_unread}
use Rattle.bl_top_commands.specs.Results.{WritesResult, fault, nothing, want, whole}
use Rattle.bl_top_commands.specs.Sources.{IsRawTreeOf}
use Rattle.bl_top_commands.specs.Traces.{course_by}
use Rattle.bl_top_commands.specs.Walk.{WalkEnds, ran as walk_ran, stopped as walk_stopped}
use Rattle.bl_top_commands.specs.declared.status.Status.{Status}
use Rattle.bl_top_commands.specs.declared.status.Status.TheVariants as status
use Rattle.bl_top_laws.proofs.Faces.{FilesDecide, face_due, face_fails, face_stops, face_stops_in}
use Rattle.bl_top_laws.proofs.Jobs.{JobEnds, job_ended, lines_written}
use Rattle.bl_top_laws.proofs.Links.{LinksDecide, link_due, link_fails, link_fails_in}
use Rattle.bl_top_laws.proofs.Loading.{FollowsBehaviour, never_loaded, text_due, text_stops, text_stops_due}
use Rattle.bl_top_laws.proofs.Runs.{IsDone, OneTree, course_due, refused_fails, result_done, source_accepted, source_to}
use Rattle.bl_top_laws.proofs.States.{from_rejected, resume_due, save_due, save_from_due, save_rejected, save_traps, stops_at_state}
use Rattle.bl_top_laws.proofs.Texts.{tree_of_source}
use Rattle.bl_top_laws.specs.Complete.{CallsEndAsDue, GeneratesTo, HoldsBehind, IsDue, IsLoadable, IsRejected, NothingRose, RunsTo, bound_done, build_done}
use Rattle.bl_top_laws.specs.Complete.{check_done, count_done, exec_done, face_done, face_refused, face_stopped, face_stopped_in, gen_done, gen_refused}
use Rattle.bl_top_laws.specs.Complete.{gen_too_large, link_done, link_refused, link_refused_in, resume_done, resume_stopped, run_done, run_status, save_done}
use Rattle.bl_top_laws.specs.Complete.{save_from_done, save_from_stopped, save_trapped, source_named, source_refused, text_named, text_rejected, walk_done}
use Rattle.bl_tree.specs.declared.program.Program.{Program}
use Rattle.bl_tree.specs.declared.row.Trace.{Trace}
use Rattle.bl_tree.specs.declared.tree.StructDef.{StructDef}
use Rattle.bl_tree.specs.declared.tree.Unit.{Unit as UnitDef}
use Rattle.bl_types_program.specs.Programs.{typed_of}
use Rattle.bl_top_laws.proofs.Runs.{one_last}
use Rattle.bl_top_commands.proofs.Resumes.{told_source}

-- ---- sources that pass

check_due : (c : Call) (name : Word) (source : List ℕ) (ended : Status) (line : List ℕ) → c.left name ≡ Some source → Passes source →
    ¬ HasRisen (c.file name) → ¬ HasRisen c.out.faults → CheckEnds c name ended line → IsDone ended status.Ok
check_due c name source ended _ holds passes none_read none_out (accepted raw is writes) =
    result_done (λ text. text ≡ accepted_line) c.out ended none_out writes
check_due c name source ended line holds passes none_read none_out (check_stopped why kept) =
    inl (source_accepted (c.left name) (c.file name) source ended line holds passes none_read why)

build_due : (c : Call) (name : Word) (source : List ℕ) (ended : Status) (line : List ℕ) → c.left name ≡ Some source → Passes source →
    ¬ HasRisen (c.file name) → ¬ HasRisen c.out.faults → BuildEnds c name ended line → IsDone ended status.Ok
build_due c name source ended _ holds passes none_read none_out (written writes) = result_done (IsBuiltOf (c.left name)) c.out ended none_out writes
build_due c name source ended line holds passes none_read none_out (build_stopped why kept) =
    inl (source_accepted (c.left name) (c.file name) source ended line holds passes none_read why)

module _ (one : OneTree) (c : Call) (name rows : Word) (source bytes : List ℕ) (trace : Trace) (holds : c.left name ≡ Some source)
    (behind : HoldsBehind c source_limit name rows bytes) (to : RunsTo source bytes trace) (none_source : ¬ HasRisen (c.file name))
    (none_rows : ¬ HasRisen (c.file rows)) (none_out : ¬ HasRisen c.out.faults) where
  run_due : (ended : Status) (line : List ℕ) → RunEnds c name rows ended line → IsDone ended (run_status trace.last to.fault)
  run_due ended line (run_ran course runs between left over) =
      course_due course (between rows) (c.rest rows) (c.file rows) c.out ended line bytes trace.last to.fault (behind between left) none_rows none_out
      (source_to one (c.left name) source bytes trace course holds to runs) over.streams
  run_due ended line (run_stopped why kept) =
      inl (source_accepted (c.left name) (c.file name) source ended line holds to.has.passes none_source why)

  walk_due : (seed : ℕ) (ended : Status) (line : List ℕ) → WalkEnds c name rows seed ended line → IsDone ended (run_status trace.last to.fault)
  walk_due seed ended _ (walk_ran course runs between left streams notes) =
      course_due course (between rows) (c.rest rows) (c.file rows) c.out ended _ bytes trace.last to.fault (behind between left) none_rows none_out
      (source_to one (c.left name) source bytes trace course holds to runs) streams
  walk_due seed ended line (walk_stopped why kept) =
      inl (source_accepted (c.left name) (c.file name) source ended line holds to.has.passes none_source why)

-- ---- sources for which a rule fails

module _ (c : Call) (name : Word) (source : List ℕ) (holds : c.left name ≡ Some source) (fails : ¬ Passes source) (none : ¬ HasRisen (c.file name)) where
  never_accepted : (raw : Raw) → IsRawTreeOf (c.left name) raw → ⊥
  never_accepted raw is = fails (tree_of_source (c.left name) source raw holds is).passes

  stopped_due : (ended : Status) (line : List ℕ) → IsNotAccepted (c.left name) (c.file name) ended line → IsDone ended status.Refused
  stopped_due _ line (is_refused why) = inr refl
  stopped_due _ _ (is_unread risen) = absurd (none risen)
  stopped_due _ _ is_short = inl refl

  never_built : (ended : Status) → WritesResult (IsBuiltOf (c.left name)) c.out ended → IsDone ended status.Refused
  never_built _ (whole text is grew) = absurd (never_accepted is.raw is.tree)
  never_built _ (fault text is grew risen) = absurd (never_accepted is.raw is.tree)
  never_built _ (want text is grew) = inl refl
  never_built _ (nothing kept) = inl refl

  check_fails : (ended : Status) (line : List ℕ) → CheckEnds c name ended line → IsDone ended status.Refused
  check_fails ended _ (accepted raw is writes) = absurd (never_accepted raw is)
  check_fails ended line (check_stopped why kept) = stopped_due ended line why

  build_fails : (ended : Status) (line : List ℕ) → BuildEnds c name ended line → IsDone ended status.Refused
  build_fails ended _ (written writes) = never_built ended writes
  build_fails ended line (build_stopped why kept) = stopped_due ended line why

  run_fails : (rows : Word) (ended : Status) (line : List ℕ) → RunEnds c name rows ended line → IsDone ended status.Refused
  run_fails rows ended line (run_ran course runs between left over) = absurd (never_accepted runs.raw runs.tree)
  run_fails rows ended line (run_stopped why kept) = stopped_due ended line why

  walk_fails : (rows : Word) (seed : ℕ) (ended : Status) (line : List ℕ) → WalkEnds c name rows seed ended line → IsDone ended status.Refused
  walk_fails rows seed ended _ (walk_ran course runs between left streams notes) = absurd (never_accepted runs.raw runs.tree)
  walk_fails rows seed ended line (walk_stopped why kept) = stopped_due ended line why

  drive_fails : (plants : Plants) (ticks : ℕ) (names : List ℕ) (ended : Status) (lines : List ℕ) → DriveEnds c plants name ticks names ended lines →
      IsDone ended status.Refused
  drive_fails plants ticks names ended lines (drove driven how text has notes) = absurd (never_accepted has.raw has.tree)
  drive_fails plants ticks names _ _ (drive_short leaves kept) = inl refl
  drive_fails plants ticks names ended lines (drive_stopped why kept same) = stopped_due ended lines why

same_word : (one other : Word) → Some one ≡ Some other → other ≡ one
same_word one other same = cc

-- what holds of the file of this name holds of the file that the job reads first
refused_as : (c : Call) (plants : Plants) (name first : Word) (source : List ℕ) → Some first ≡ Some name → c.left name ≡ Some source →
    c.left first ≡ Some source
refused_as c plants name first source same holds = subst (λ n. c.left n ≡ Some source) (same_word first name same) holds

source_fails : (c : Call) (plants : Plants) (job : JobSpec) (name : Word) (source : List ℕ) (ended : Status) (lines : List ℕ) → NothingRose c job →
    source_named job ≡ Some name → c.left name ≡ Some source → ¬ Passes source → JobEnds c plants job ended lines → IsDone ended status.Refused
source_fails c plants (check first) name source ended lines none same holds fails ends =
    check_fails c first source (refused_as c plants name first source same holds) fails none.files.0 ended lines ends
source_fails c plants (build first) name source ended lines none same holds fails ends =
    build_fails c first source (refused_as c plants name first source same holds) fails none.files.0 ended lines ends
source_fails c plants (run first rows) name source ended lines none same holds fails ends =
    run_fails c first source (refused_as c plants name first source same holds) fails none.files.0 rows ended lines ends
source_fails c plants (walk first rows seed) name source ended lines none same holds fails ends =
    walk_fails c first source (refused_as c plants name first source same holds) fails none.files.0 rows seed ended lines ends
source_fails c plants (exec text rows) name source ended lines none same holds fails ends = absurd (cc)
source_fails c plants (drive first ticks names) name source ended lines none same holds fails ends =
    drive_fails c first source (refused_as c plants name first source same holds) fails none.files.0 plants ticks names ended lines ends
source_fails c plants (gen stages) name source ended lines none same holds fails ends = absurd (cc)
source_fails c plants (bound text) name source ended lines none same holds fails ends = absurd (cc)
source_fails c plants (count text rows) name source ended lines none same holds fails ends = absurd (cc)
source_fails c plants (save text rows) name source ended lines none same holds fails ends = absurd (cc)
source_fails c plants (save_from text state rows) name source ended lines none same holds fails ends = absurd (cc)
source_fails c plants (resume text state rows) name source ended lines none same holds fails ends = absurd (cc)
source_fails c plants (face first names) name source ended lines none same holds fails ends = absurd (cc)
source_fails c plants (link names) name source ended lines none same holds fails ends = absurd (cc)

-- ---- C texts

trace_follows : FollowsBehaviour course_by
trace_follows = record { ins = λ b. refl; last = λ b rows. refl }

counts_follow : FollowsBehaviour counts_by
counts_follow = record { ins = λ b. refl; last = λ b rows. refl }

bound_due : EachBehaves → (c : Call) (name : Word) (text : List ℕ) (file : CFile) (ended : Status) (line : List ℕ) → c.left name ≡ Some text →
    IsLoadable text file → ¬ HasRisen (c.file name) → ¬ HasRisen c.out.faults → BoundEnds c name ended line → IsDone ended status.Ok
bound_due each c name text file ended _ holds is none_read none_out (costs_told bytes source writes) =
    result_done (TellsBounds bytes) c.out ended none_out writes
bound_due each c name text file ended line holds is none_read none_out (bound_stopped why kept) =
    inl (text_stops each text file is (c.left name) (c.file name) ended line holds none_read why)

-- ---- C texts that are rejected

module _ (each : EachBehaves) (c : Call) (name : Word) (text : List ℕ) (due : Status) (is : IsRejected text due) (holds : c.left name ≡ Some text)
    (none : ¬ HasRisen (c.file name)) where
  text_rejects : (rows : Word) (course : Behaviour → Course) (ended : Status) (line : List ℕ) → TextEnds c name rows course ended line → IsDone ended due
  text_rejects rows course ended line (text_ran read behaviour source loads between left over) =
      let same = told_source (c.left name) text read holds source in
      absurd (never_loaded each read due behaviour (subst (λ t. IsRejected t due) same is) loads)
  text_rejects rows course ended line (text_stopped why kept) =
      text_stops_due each text due (c.left name) (c.file name) ended line holds none is why

  never_told : (ended : Status) (read : List ℕ) → text ≡ read → WritesResult (TellsBounds read) c.out ended → IsDone ended due
  never_told _ read same (whole told tells grew) =
      absurd (never_loaded each read due tells.behaviour (subst (λ t. IsRejected t due) same is) tells.loads)
  never_told _ read same (fault told tells grew risen) =
      absurd (never_loaded each read due tells.behaviour (subst (λ t. IsRejected t due) same is) tells.loads)
  never_told _ read same (want told tells grew) = inl refl
  never_told _ read same (nothing kept) = inl refl

  bound_rejects : (ended : Status) (line : List ℕ) → BoundEnds c name ended line → IsDone ended due
  bound_rejects ended _ (costs_told read source writes) = never_told ended read (told_source (c.left name) text read holds source) writes
  bound_rejects ended line (bound_stopped why kept) = text_stops_due each text due (c.left name) (c.file name) ended line holds none is why

text_rejects_due : EachBehaves → (c : Call) (plants : Plants) (job : JobSpec) (name : Word) (text : List ℕ) (due ended : Status) (lines : List ℕ) →
    NothingRose c job → text_named job ≡ Some name → c.left name ≡ Some text → IsRejected text due → JobEnds c plants job ended lines →
    IsDone ended due
text_rejects_due each c plants (check first) name text due ended lines none same holds is ends = absurd (cc)
text_rejects_due each c plants (build first) name text due ended lines none same holds is ends = absurd (cc)
text_rejects_due each c plants (run first rows) name text due ended lines none same holds is ends = absurd (cc)
text_rejects_due each c plants (walk first rows seed) name text due ended lines none same holds is ends = absurd (cc)
text_rejects_due each c plants (exec first rows) name text due ended lines none same holds is ends =
    text_rejects each c first text due is (refused_as c plants name first text same holds) none.files.0 rows course_by ended lines ends
text_rejects_due each c plants (drive first ticks names) name text due ended lines none same holds is ends = absurd (cc)
text_rejects_due each c plants (gen stages) name text due ended lines none same holds is ends = absurd (cc)
text_rejects_due each c plants (bound first) name text due ended lines none same holds is ends =
    bound_rejects each c first text due is (refused_as c plants name first text same holds) none.files.0 ended lines ends
text_rejects_due each c plants (count first rows) name text due ended lines none same holds is ends =
    text_rejects each c first text due is (refused_as c plants name first text same holds) none.files.0 rows counts_by ended lines ends
text_rejects_due each c plants (save first rows) name text due ended lines none same holds is ends =
    save_rejected each c first rows text due is (refused_as c plants name first text same holds) none.files.0 ended lines ends
text_rejects_due each c plants (save_from first state rows) name text due ended lines none same holds is ends =
    from_rejected each c first state text due is (refused_as c plants name first text same holds) none.files.0 _ ended lines ends
text_rejects_due each c plants (resume first state rows) name text due ended lines none same holds is ends =
    from_rejected each c first state text due is (refused_as c plants name first text same holds) none.files.0 _ ended lines ends
text_rejects_due each c plants (face first names) name text due ended lines none same holds is ends = absurd (cc)
text_rejects_due each c plants (link names) name text due ended lines none same holds is ends = absurd (cc)

-- ---- `gen`

not_many : (stages : ℕ) → stages ≤ most_stages → most_stages < stages → ⊥
not_many stages few many = omega (arith, few, many)

-- the semantics of a program allows a trace over the generated rows
abbrev Generates : Trace → List StructDef → List UnitDef → ℕ → Type 0
Generates trace structs units entry = Means structs units entry input_rows (shown_trace trace)

generated_last : OneTree → (stages : ℕ) (trace other : Trace) → GeneratesTo stages trace → HasTrace stages other → other.last ≡ trace.last
generated_last one stages trace other to has =
    let made : Raw = has.has.raw in
    let program : Program = has.program in
    let same : to.tree ≡ made = one (program_text stages) to.tree made to.has has.has.has in
    let by_tree : Generates trace (typed_of made).structs (typed_of made).units (typed_of made).entry =
    subst (λ (raw : Raw). Generates trace (typed_of raw).structs (typed_of raw).units (typed_of raw).entry) same to.means in
    let means : Generates trace program.structs program.units program.entry =
    subst (λ structs. Generates trace structs program.units program.entry) (sym has.has.is.structs)
    (subst (λ units. Generates trace (typed_of made).structs units program.entry) (sym has.has.is.units)
    (subst (λ entry. Generates trace (typed_of made).structs (typed_of made).units entry) (sym has.has.is.entry) by_tree)) in
    sym (one_last trace.last other.last (ap (λ (s : ShownTrace). s.last) ((has.one (shown_trace trace)).0 means)))

unrun_due : (stages : ℕ) (trace : Trace) (ended : Status) (line : List ℕ) → GeneratesTo stages trace → IsNotRun stages ended line →
    ended ≡ status.NoMemory
unrun_due stages trace _ _ to (too_large many) = absurd (not_many stages to.few many)
unrun_due stages trace _ line to (refused few why) =
    absurd (refused_fails (Some (program_text stages)) (program_text stages) line refl why to.has.passes)
unrun_due stages trace _ _ to short = refl

gen_due : OneTree → (c : Call) (stages : ℕ) (trace : Trace) (ended : Status) (line : List ℕ) → GeneratesTo stages trace → ¬ HasRisen c.out.faults →
    GenEnds c stages ended line → IsDone ended (last_status trace.last)
gen_due one c stages trace ended _ to none_out (gen_ran text last is writes) =
    subst (λ l. IsDone ended (last_status l)) (is.last_is ∙ generated_last one stages trace is.trace to is.has)
    (lines_written c.out text (last_status last) ended none_out writes)
gen_due one c stages trace ended line to none_out (gen_stopped why kept) = inl (unrun_due stages trace ended line to why)

gen_fails : (c : Call) (stages : ℕ) (ended : Status) (line : List ℕ) → stages ≤ most_stages → ¬ Passes (program_text stages) →
    GenEnds c stages ended line → IsDone ended status.Refused
gen_fails c stages ended _ few fails (gen_ran text last is writes) = absurd (fails is.has.has.has.passes)
gen_fails c stages ended line few fails (gen_stopped why kept) = unrun_fails stages ended line few why
  where
    unrun_fails : (stages : ℕ) (ended : Status) (line : List ℕ) → stages ≤ most_stages → IsNotRun stages ended line → IsDone ended status.Refused
    unrun_fails stages _ _ few (too_large many) = absurd (not_many stages few many)
    unrun_fails stages _ line few (refused within why) = inr refl
    unrun_fails stages _ _ few short = inl refl

gen_large : (c : Call) (stages : ℕ) (ended : Status) (line : List ℕ) → most_stages < stages → GenEnds c stages ended line → IsDone ended status.TooLarge
gen_large c stages ended _ many (gen_ran text last is writes) = absurd (not_many stages is.within many)
gen_large c stages ended line many (gen_stopped why kept) = unrun_large stages ended line many why
  where
    unrun_large : (stages : ℕ) (ended : Status) (line : List ℕ) → most_stages < stages → IsNotRun stages ended line → IsDone ended status.TooLarge
    unrun_large stages _ _ many (too_large more) = inr refl
    unrun_large stages _ line many (refused within why) = absurd (not_many stages within many)
    unrun_large stages _ _ many short = inl refl

-- ---- the call

module _ (one : OneTree) (each : EachBehaves) (memory : (file : Parts) → OneMemory file) (files : FilesDecide) (links : LinksDecide) (c : Call)
    (plants : Plants) where
  job_due : (job : JobSpec) (due ended : Status) (lines : List ℕ) → NothingRose c job → IsDue c job due → JobEnds c plants job ended lines →
      IsDone ended due
  job_due _ _ ended lines none (source_refused {job} {name} source named holds fails) ends =
      source_fails c plants job name source ended lines none named holds fails ends
  job_due _ _ last lines none (text_rejected {job} {name} {ended} text named holds is) ends =
      text_rejects_due each c plants job name text ended last lines none named holds is ends
  job_due _ _ ended lines none (check_done {name} source holds passes) ends =
      check_due c name source ended lines holds passes none.files.0 none.out ends
  job_due _ _ ended lines none (build_done {name} source holds passes) ends =
      build_due c name source ended lines holds passes none.files.0 none.out ends
  job_due _ _ ended lines none (run_done {name} {rows} source bytes trace holds behind to) ends =
      run_due one c name rows source bytes trace holds behind to none.files.0 none.files.1.0 none.out ended lines ends
  job_due _ _ ended lines none (walk_done {name} {rows} {seed} source bytes trace holds behind to) ends =
      walk_due one c name rows source bytes trace holds behind to none.files.0 none.files.1.0 none.out seed ended lines ends
  job_due _ _ ended lines none (exec_done {name} {rows} text bytes trace holds behind to) ends =
      text_due each course_by trace_follows text bytes trace to c name rows ended lines holds behind none.files.0 none.files.1.0 none.out ends
  job_due _ _ ended lines none (count_done {name} {rows} text bytes trace holds behind to) ends =
      text_due each counts_by counts_follow text bytes trace to c name rows ended lines holds behind none.files.0 none.files.1.0 none.out ends
  job_due _ _ ended lines none (bound_done {name} text file holds is) ends =
      bound_due each c name text file ended lines holds is none.files.0 none.out ends
  job_due _ _ ended lines none (save_done {name} {rows} text bytes trace holds behind to begins) ends =
      save_due each c name rows text bytes trace to begins holds behind none.files.0 none.files.1.0 none.out ended lines ends
  job_due _ _ ended lines none (save_trapped {name} {rows} text file holds is traps) ends =
      save_traps each c name rows text file is traps holds none.files.0 ended lines ends
  job_due _ _ ended lines none (save_from_done {name} {state} {rows} text saved bytes trace holds there behind to) ends =
      save_from_due each memory c name state rows text saved bytes trace to holds there behind none.files.0 none.files.1.0 none.files.1.1.0 none.out
      ended lines ends
  job_due _ _ ended lines none (resume_done {name} {state} {rows} text saved bytes trace holds there behind to) ends =
      resume_due each memory c name state rows text saved bytes trace to holds there behind none.files.0 none.files.1.0 none.files.1.1.0 none.out
      ended lines ends
  job_due _ _ ended lines none (save_from_stopped {name} {state} {rows} text saved file holds there is no_state) ends =
      stops_at_state each c name state text saved file is no_state holds there none.files.0 none.files.1.0 _ ended lines ends
  job_due _ _ ended lines none (resume_stopped {name} {state} {rows} text saved file holds there is no_state) ends =
      stops_at_state each c name state text saved file is no_state holds there none.files.0 none.files.1.0 _ ended lines ends
  job_due _ _ ended lines none (gen_done {stages} trace to) ends = gen_due one c stages trace ended lines to none.out ends
  job_due _ _ ended lines none (gen_refused {stages} few fails) ends = gen_fails c stages ended lines few fails ends
  job_due _ _ ended lines none (gen_too_large {stages} many) ends = gen_large c stages ended lines many ends
  job_due _ _ ended lines none (face_done {name} {names} text texts faces told spelled stand passes) ends =
      face_due files c name names text texts told none.files faces spelled stand passes none.out ended lines ends
  job_due _ _ ended lines none (face_refused {name} {names} text texts faces told spelled stand fails) ends =
      face_fails files c name names text texts told none.files faces spelled stand fails ended lines ends
  job_due _ _ ended lines none (face_stopped {name} {names} text texts told no_faces) ends =
      face_stops files c name names text texts told none.files no_faces ended lines ends
  job_due _ _ ended lines none (face_stopped_in {name} {names} earlier later text texts are told no_faces) ends =
      face_stops_in files c name names earlier later are text texts told no_faces none.files ended lines ends
  job_due _ _ ended lines none (link_done {names} texts faces tree told good has passes) ends =
      link_due links c names none.files texts told faces good tree has passes none.out ended lines ends
  job_due _ _ ended lines none (link_refused {names} texts faces tree told good has fails) ends =
      link_fails links c names none.files texts told faces good tree has fails ended lines ends
  job_due _ _ ended lines none (link_refused_in {names} earlier later texts file rule place also are told fails) ends =
      link_fails_in links c names none.files earlier later are texts told file rule place also fails ended lines ends

written_due : (meant ended due : Status) → IsDone meant due → IsDone ended meant → IsDone ended due
written_due meant ended due is wrote = elim wrote [
  | inl short_of ↦ inl short_of
  | inr same ↦ subst (λ s. IsDone s due) (sym same) is
]

asked_due : (meant due : Status) (Ends : Type 0) → (Ends → IsDone meant due) → (meant ≡ status.NoMemory) ⊎ Ends → IsDone meant due
asked_due meant due Ends by how = elim how [ inl short_of ↦ inl short_of | inr ends ↦ by ends ]

pub calls_end_as_due : OneTree → EachBehaves → ((file : Parts) → OneMemory file) → FilesDecide → LinksDecide → CallsEndAsDue
calls_end_as_due one each memory files links words c plants job due ended asks none is answered =
    let meant : Status = answered.meant in
    written_due meant ended due
    (asked_due meant due (JobEnds c plants job meant answered.lines) (job_due one each memory files links c plants job due meant answered.lines none is)
    (job_ended c plants job _ meant answered.lines asks answered.answers))
    (lines_written c.notes answered.lines meant ended none.notes answered.written)
