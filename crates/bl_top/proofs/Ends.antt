-- How `build` and `run` end, and so the call.
use Rattle.std.proofs.Common.{◌≡◌, ℕ, ◌≤◌, List, length, subst, sym}
use Rattle.std.specs.Prelude.{Option, Some, None, IfSome}
use Rattle.bl_top_commands.specs.Bound.{BoundEnds}
use Rattle.bl_top_commands.specs.Calls.{Call}
use Rattle.bl_top_commands.specs.Check.{CheckEnds}
use Rattle.bl_top_commands.specs.Count.{CountEnds}
use Rattle.bl_top_commands.specs.Exec.{ExecEnds}
use Rattle.bl_top_commands.specs.Face.{FaceEnds}
use Rattle.bl_top_commands.specs.Gen.{GenEnds}
use Rattle.bl_top_commands.specs.inner.Outcomes.{chosen_line, line_in, lines_in}
use Rattle.bl_top_commands.specs.Linked.{AreNotLinked}
use Rattle.bl_top_commands.specs.Laws.{FaultsCountFromBefore, ProgramsRunAsTheirSource}
use Rattle.bl_top_commands.specs.Notes.{line_of}
use Rattle.bl_top_commands.specs.Reads.{LeftBehind, source_limit}
use Rattle.bl_top_commands.specs.Refusals.{IsNotAccepted}
use Rattle.bl_top_commands.specs.Results.{WritesResult}
use Rattle.bl_top_commands.specs.Rows.{IsInStep, Streams}
use Rattle.bl_top_commands.specs.Sources.{IsProgramOfSource}
use Rattle.bl_top_commands.specs.Save.{ResumeEnds, SaveEnds, SaveFromEnds}
use Rattle.bl_top_commands.specs.Traces.{HasCourse}
use Rattle.bl_top_commands.specs.Walk.{WalkEnds}
use Rattle.bl_top_commands.specs.declared.answer.Answer.{Answer}
use Rattle.bl_top_commands.specs.declared.outcome.Outcome.{Outcome}
use Rattle.bl_top_commands.specs.declared.status.Status.{Status}
use Rattle.bl_top_commands.specs.declared.status.Status.TheVariants as status
use Rattle.bl_io.specs.Left.{IsKept}
use Rattle.bl_link_files.specs.Programs.{IsProgramOfFiles}
use Rattle.bl_rows_stream.specs.Streams.{Course}
use Rattle.bl_top.specs.Answers.{Answers, bounds, builds, checks, counts, execs, faces, gens, links, no_job, resumes, runs, saves, saves_from, short, walks}
use Rattle.bl_top.specs.Build.{BuildEnds, IsBuiltOf, IsBuiltOfProgram, stopped, written}
use Rattle.bl_top.specs.Drive.{Plants}
use Rattle.bl_top.specs.Link.{IsBuiltOfFiles, LinkEnds, stopped as link_stopped, written as link_written}
use Rattle.bl_top.specs.Run.{RunEnds, ran, stopped as run_stopped}
use Rattle.bl_tree.specs.declared.program.Program.{Program}
use Rattle.bl_top_args.specs.Jobs.{IsCounted, JobSpec, Word, bound, build, check, count, exec, face, gen, link, resume, run, save, save_from, walk}
use Rattle.bl_top.proofs.Programs.{built_of_source}
use Rattle.bl_top_commands.proofs.Ends.{writes_as}

-- ---- `build`

pub build_written : (c : Call) (source : Word) (program : Program) (ended : Status) (line : List ℕ) → IsProgramOfSource (c.left source) program →
    WritesResult (IsBuiltOfProgram program.structs program.units program.entry) c.out ended → line ≡ line_of ended → BuildEnds c source ended line
build_written c source program ended line built writes told =
    rw told (written (writes_as (IsBuiltOfProgram program.structs program.units program.entry) (IsBuiltOf (c.left source)) c.out ended
    (λ text is. built_of_source (c.left source) program text built is) writes))

pub build_stopped : (c : Call) (source : Word) (ended : Status) (line : List ℕ) → IsNotAccepted (c.left source) (c.file source) ended line →
    IsKept c.out.before c.out.after → BuildEnds c source ended line
build_stopped c source ended line stops kept = stopped stops kept

-- ---- `link`

pub link_writes : (c : Call) (sources : List Word) (program : Program) (ended : Status) (line : List ℕ) → IsProgramOfFiles c.left sources program →
    WritesResult (IsBuiltOfProgram program.structs program.units program.entry) c.out ended → line ≡ line_of ended → LinkEnds c sources ended line
link_writes c sources program ended line of_files writes told =
    rw told (link_written (writes_as (IsBuiltOfProgram program.structs program.units program.entry) (IsBuiltOfFiles c.left sources) c.out ended
    (λ text is. record { program = program; of_files = of_files; is = is }) writes))

pub link_stops : (c : Call) (sources : List Word) (ended : Status) (line : List ℕ) → AreNotLinked c sources ended line →
    IsKept c.out.before c.out.after → LinkEnds c sources ended line
link_stops c sources ended line stops kept = link_stopped stops kept

-- ---- `run`

pub run_ran : ProgramsRunAsTheirSource → FaultsCountFromBefore → (c : Call) (source rows : Word) (program : Program) (course : Course)
    (between : Word → Option (List ℕ)) (second : ℕ) (ended : Status) (line : List ℕ) → IsProgramOfSource (c.left source) program →
    HasCourse program.structs program.units program.entry course → LeftBehind source_limit source c.left between → (c.file rows).before ≤ second →
    Streams course (between rows) (c.rest rows) (record { before = second; after = (c.file rows).after }) c.out ended line →
    IsInStep course (between rows) (c.rest rows) c.out → RunEnds c source rows ended line
run_ran as_source from_before c source rows program course between second ended line built has behind below streams in_step =
    ran course (as_source (c.left source) program course built has) between behind
    (record {
      streams = from_before course (between rows) (c.rest rows) (c.file rows).before second (c.file rows).after c.out ended line below streams;
      in_step = in_step;
    })

pub run_stops : (c : Call) (source rows : Word) (ended : Status) (line : List ℕ) →
    IsNotAccepted (c.left source) (c.file source) ended line → IsKept c.out.before c.out.after → RunEnds c source rows ended line
run_stops c source rows ended line stops kept = run_stopped stops kept

-- ---- the job

pub answers_check : (c : Call) (plants : Plants) (job : Option JobSpec) (source : Word) (ended : Status) (line : List ℕ) → job ≡ Some (check source) →
    CheckEnds c source ended line → Answers c plants job ended line
answers_check c plants job source ended line asked ends = rw asked (checks ends)

pub answers_build : (c : Call) (plants : Plants) (job : Option JobSpec) (source : Word) (ended : Status) (line : List ℕ) → job ≡ Some (build source) →
    BuildEnds c source ended line → Answers c plants job ended line
answers_build c plants job source ended line asked ends = rw asked (builds ends)

pub answers_run : (c : Call) (plants : Plants) (job : Option JobSpec) (source rows : Word) (ended : Status) (line : List ℕ) →
    job ≡ Some (run source rows) → RunEnds c source rows ended line → Answers c plants job ended line
answers_run c plants job source rows ended line asked ends = rw asked (runs ends)

pub answers_exec : (c : Call) (plants : Plants) (job : Option JobSpec) (text rows : Word) (ended : Status) (line : List ℕ) →
    job ≡ Some (exec text rows) → ExecEnds c text rows ended line → Answers c plants job ended line
answers_exec c plants job text rows ended line asked ends = rw asked (execs ends)

pub answers_gen : (c : Call) (plants : Plants) (job : Option JobSpec) (stages : ℕ) (ended : Status) (line : List ℕ) → job ≡ Some (gen stages) →
    GenEnds c stages ended line → Answers c plants job ended line
answers_gen c plants job stages ended line asked ends = rw asked (gens ends)

pub answers_bound : (c : Call) (plants : Plants) (job : Option JobSpec) (text : Word) (ended : Status) (line : List ℕ) → job ≡ Some (bound text) →
    BoundEnds c text ended line → Answers c plants job ended line
answers_bound c plants job text ended line asked ends = rw asked (bounds ends)

pub answers_count : (c : Call) (plants : Plants) (job : Option JobSpec) (text rows : Word) (ended : Status) (line : List ℕ) →
    job ≡ Some (count text rows) → CountEnds c text rows ended line → Answers c plants job ended line
answers_count c plants job text rows ended line asked ends = rw asked (counts ends)

pub answers_save : (c : Call) (plants : Plants) (job : Option JobSpec) (text rows : Word) (ended : Status) (line : List ℕ) →
    job ≡ Some (save text rows) → SaveEnds c text rows ended line → Answers c plants job ended line
answers_save c plants job text rows ended line asked ends = rw asked (saves ends)

pub answers_save_from : (c : Call) (plants : Plants) (job : Option JobSpec) (text state rows : Word) (ended : Status) (line : List ℕ) →
    job ≡ Some (save_from text state rows) → SaveFromEnds c text state rows ended line → Answers c plants job ended line
answers_save_from c plants job text state rows ended line asked ends = rw asked (saves_from ends)

pub answers_resume : (c : Call) (plants : Plants) (job : Option JobSpec) (text state rows : Word) (ended : Status) (line : List ℕ) →
    job ≡ Some (resume text state rows) → ResumeEnds c text state rows ended line → Answers c plants job ended line
answers_resume c plants job text state rows ended line asked ends = rw asked (resumes ends)

pub answers_face : (c : Call) (plants : Plants) (job : Option JobSpec) (source : Word) (uses : List Word) (ended : Status) (line : List ℕ) →
    job ≡ Some (face source uses) → FaceEnds c source uses ended line → Answers c plants job ended line
answers_face c plants job source uses ended line asked ends = rw asked (faces ends)

pub answers_link : (c : Call) (plants : Plants) (job : Option JobSpec) (sources : List Word) (ended : Status) (line : List ℕ) →
    job ≡ Some (link sources) → LinkEnds c sources ended line → Answers c plants job ended line
answers_link c plants job sources ended line asked ends = rw asked (links ends)

pub answers_walk : (c : Call) (plants : Plants) (job : Option JobSpec) (source rows : Word) (seed : ℕ) (ended : Status) (lines : List ℕ) →
    job ≡ Some (walk source rows seed) → WalkEnds c source rows seed ended lines → Answers c plants job ended lines
answers_walk c plants job source rows seed ended lines asked ends = rw asked (walks ends)

-- an answer that is an outcome alone
pub answers_alone : (c : Call) (plants : Plants) (job : Option JobSpec) (answer : Answer) (outcome : Outcome) → answer.outcome ≡ outcome →
    lines_in answer ≡ line_in outcome → Answers c plants job outcome.status (line_in outcome) →
    Answers c plants job answer.outcome.status (lines_in answer)
answers_alone c plants job answer outcome same lines answers =
    subst (λ ls. Answers c plants job answer.outcome.status ls) (sym lines)
    (subst (λ (o : Outcome). Answers c plants job o.status (line_in outcome)) (sym same) answers)

pub answers_none : (c : Call) (plants : Plants) (job : Option JobSpec) (ended : Status) (own : List ℕ) → job ≡ None → ended ≡ status.Usage →
    IsKept c.out.before c.out.after → Answers c plants job ended (chosen_line ended own)
answers_none c plants job ended own none e kept = rw (none, e) (no_job kept)

pub answers_short : (c : Call) (plants : Plants) (job : Option JobSpec) (ended : Status) (own : List ℕ) → ended ≡ status.NoMemory →
    IsKept c.out.before c.out.after → plants.after ≡ plants.before → Answers c plants job ended (chosen_line ended own)
answers_short c plants job ended own e kept same = rw e (short kept same)

-- a program that words ask for has a stage
pub stages_asked : (job : Option JobSpec) (stages : ℕ) → job ≡ Some (gen stages) → IfSome job IsCounted → 1 ≤ stages
stages_asked job stages asked counted = subst (λ j. IfSome j IsCounted) asked counted

-- words ask to link from 2 to 64 files
pub sources_asked : (job : Option JobSpec) (sources : List Word) → job ≡ Some (link sources) → IfSome job IsCounted →
    (2 ≤ length sources) × (length sources ≤ 64)
sources_asked job sources asked counted = subst (λ j. IfSome j IsCounted) asked counted
