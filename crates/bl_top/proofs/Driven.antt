-- What is driven of a source, and how the command ends.
use Rattle.std.proofs.Common.{◌≡◌, ◌∙◌, ℕ, List, [], ◌++◌, ap, ap₂, inl, inr, refl, subst, sym}
use Rattle.std.specs.Prelude.{◌⊎◌, ◌↔◌, Option, Some, Result, Ok, Err}
use Rattle.bl_ctext_semantics.specs.Cells.{outputs_of}
use Rattle.bl_ctext_semantics.specs.Parts.{Parts}
use Rattle.bl_ctext_semantics_laws_places.specs.Behaviour.{Behaviour, behaviour_of}
use Rattle.bl_top_commands.specs.Calls.{Call, Output}
use Rattle.bl_top_commands.specs.inner.Outcomes.{chosen_line, line_in, lines_in}
use Rattle.bl_top_commands.specs.Refusals.{IsNotAccepted}
use Rattle.bl_top_commands.specs.Sources.{IsProgramOfSource}
use Rattle.bl_top_commands.specs.declared.answer.Answer.{Answer}
use Rattle.bl_top_commands.specs.declared.outcome.Outcome.{Outcome}
use Rattle.bl_top_commands.specs.declared.status.Status.{Status}
use Rattle.bl_top_commands.specs.declared.status.Status.TheVariants as status
use Rattle.bl_top_commands.specs.Traces.{OneTrace}
use Rattle.bl_crun.specs.Running.{Running, loaded}
use Rattle.bl_ctree.specs.Means.{Means, ShownTrace as Shows, shown_trace}
use Rattle.bl_plant_drive.specs.declared.driven.Driven.{Driven as Record}
use Rattle.bl_plant_drive.specs.declared.fault.DriveFault.{DriveFault}
use Rattle.bl_plant_drive.specs.declared.fault.DriveFault.TheVariants as fault
use Rattle.bl_plant_drive_report.specs.Lines.{gone_lines, line_after}
use Rattle.bl_plant_drive_report.specs.Reports.{IsDriven, IsReport, IsReportOf, LeavesPlants as RunLeaves, end_at, text_shown}
use Rattle.bl_plant_drive_report.specs.declared.report.Report.{Report}
use Rattle.bl_io.specs.Left.{IsKept}
use Rattle.bl_types_program.specs.Programs.{typed_of}
use Rattle.bl_top.specs.Answers.{Answers, drives}
use Rattle.bl_top.specs.Drive.{DriveEnds, DriveNotes, HasDrivenSource, LeavesDrivenPlants, Plants, drive_line, drive_setting, drive_status}
use Rattle.bl_top.specs.Drive.{drove, kept, short, stopped, unwritten, want, was_driven, whole}
use Rattle.bl_top.specs.inner.Driven.{Drives, MayHaveDriven, TellsReport, WritesReport, failed, refused, wrote}
use Rattle.bl_tree.specs.Ports.{RowsFit}
use Rattle.bl_tree.specs.declared.program.Program.{Program}
use Rattle.bl_tree.specs.declared.row.Column.{Column}
use Rattle.bl_tree.specs.declared.row.Last.{Last}
use Rattle.bl_tree.specs.declared.row.Last.TheVariants as last
use Rattle.bl_tree.specs.declared.row.Trace.{Trace}
use Rattle.bl_tree.specs.declared.tree.StructDef.{StructDef}
use Rattle.bl_tree.specs.declared.tree.Unit.{Unit as UnitDef}
use Rattle.bl_top_args.specs.Jobs.{JobSpec, Word, drive}
use Rattle.bl_top_commands.proofs.Fronts.{tree_of_program}

-- ---- the drive of a program

-- a file that was just loaded has the trace of its program
pub one_trace_of : (structs : List StructDef) (units : List UnitDef) (entry : ℕ) (file ready : Parts) → ready ≡ file →
    OneTrace structs units entry (behaviour_of file) → OneTrace structs units entry (behaviour_of ready)
one_trace_of structs units entry file ready same one = subst (λ (p : Parts). OneTrace structs units entry (behaviour_of p)) (sym same) one

module _ (structs : List StructDef) (units : List UnitDef) (entry : ℕ) (runner : Running) (plants : Plants) (ticks : ℕ) (names : List ℕ)
    (one : OneTrace structs units entry (behaviour_of runner.parts)) (fresh : runner ≡ loaded runner.parts) where
  drives_of : (driven : Record) (how : Result (Unit {0}) DriveFault) →
      IsDriven (record { runner = runner; plants = plants.before; names = names; ticks = ticks }) plants.after driven how →
      Drives structs units entry plants ticks names runner.parts driven how
  drives_of driven how is = record {
    one_trace = one;
    is_driven = subst (λ (r : Running). IsDriven (record { runner = r; plants = plants.before; names = names; ticks = ticks }) plants.after driven how)
        fresh is;
  }

  pub report_told : (report : Report) →
      IsReport (record { runner = runner; plants = plants.before; names = names; ticks = ticks }) plants.after report →
      TellsReport structs units entry plants ticks names report
  report_told report h = record {
    parts = runner.parts;
    driven = h.driven;
    how = h.how;
    drives = drives_of h.driven h.how h.is_driven;
    tells = h.tells;
  }

  pub may_have_driven : RunLeaves (record { runner = runner; plants = plants.before; names = names; ticks = ticks }) plants.after →
      MayHaveDriven structs units entry plants ticks names
  may_have_driven (inl same) = inl same
  may_have_driven (inr h) = inr (runner.parts, (h.0, (h.1.0, drives_of h.0 h.1.0 h.1.1)))

-- ---- of a source

-- over the rows that were given the parallel meaning allows the trace that was recorded, and no other
drive_means : (structs : List StructDef) (units : List UnitDef) (entry : ℕ) (plants : Plants) (ticks : ℕ) (names : List ℕ) (parts : Parts)
    (driven : Record) (how : Result (Unit {0}) DriveFault) → OneTrace structs units entry (behaviour_of parts) →
    IsDriven (drive_setting parts plants.before ticks names) plants.after driven how → (shows : Shows) →
    Means structs units entry driven.ins shows ↔ (shows ≡ shown_trace driven.trace)
drive_means structs units entry plants ticks names parts driven how one is shows =
    subst (λ (t : Trace). Means structs units entry driven.ins shows ↔ (shows ≡ shown_trace t)) (sym is.trace)
    (one.trace driven.ins shows (subst (λ (cs : List Column). RowsFit cs driven.ins) one.inputs is.fit))

-- the units and structs of a program are those of its tree
trace_of_tree : (behaviour : Behaviour) (structs structs' : List StructDef) (units units' : List UnitDef) (entry entry' : ℕ) →
    structs ≡ structs' → units ≡ units' → entry ≡ entry' → OneTrace structs units entry behaviour → OneTrace structs' units' entry' behaviour
trace_of_tree behaviour structs structs' units units' entry entry' s u e one =
    subst (λ n. OneTrace structs' units' n behaviour) e (subst (λ us. OneTrace structs' us entry behaviour) u
    (subst (λ ss. OneTrace ss units entry behaviour) s one))

module _ (left : Option (List ℕ)) (program : Program) (built : IsProgramOfSource left program) (plants : Plants) (ticks : ℕ) (names : List ℕ)
    (parts : Parts) (driven : Record) (how : Result (Unit {0}) DriveFault)
    (drives : Drives program.structs program.units program.entry plants ticks names parts driven how) where
  one_of_tree : OneTrace (typed_of built.has.raw).structs (typed_of built.has.raw).units (typed_of built.has.raw).entry (behaviour_of parts)
  one_of_tree = trace_of_tree (behaviour_of parts) program.structs (typed_of built.has.raw).structs program.units
      (typed_of built.has.raw).units program.entry (typed_of built.has.raw).entry built.has.is.structs built.has.is.units built.has.is.entry
      drives.one_trace

  pub source_driven : (text : List ℕ) → text ≡ text_shown (outputs_of parts) driven.trace how →
      HasDrivenSource left plants ticks names driven how text
  source_driven text shows = record {
    raw = built.has.raw;
    tree = tree_of_program left program built;
    parts = parts;
    one_trace = one_of_tree;
    is_driven = drives.is_driven;
    means = drive_means (typed_of built.has.raw).structs (typed_of built.has.raw).units (typed_of built.has.raw).entry plants ticks names parts
        driven how one_of_tree drives.is_driven;
    shows = shows ∙ ap (λ (outs : List Column). text_shown outs driven.trace how) one_of_tree.outputs;
  }

-- ---- what is told

-- the line of a status is that of the drive
line_is : (l : Last) (how : Result (Unit {0}) DriveFault) → chosen_line (drive_status (end_at l how)) (line_after how) ≡ drive_line how
line_is last.Open (Ok done) = refl
line_is last.Ended (Ok done) = refl
line_is last.Trap (Ok done) = refl
line_is l (Err (fault.Failed name)) = refl
line_is l (Err (fault.Absent name)) = refl
line_is l (Err (fault.Twice name)) = refl
line_is l (Err (fault.Width given wanted)) = refl
line_is l (Err (fault.Range column number)) = refl
line_is l (Err fault.NoMemory) = refl

-- an answer with no lines but that of its status
told_alone : (out : Output) (driven : Record) (how : Result (Unit {0}) DriveFault) (text told own : List ℕ) (ended known : Status) → told ≡ [] →
    ended ≡ known → DriveNotes out driven how text known (chosen_line known own) → DriveNotes out driven how text ended (told ++ chosen_line ended own)
told_alone out driven how text told own ended known none e tells = rw (none, e) tells

report_written : (outs : List Column) (out : Output) (driven : Record) (how : Result (Unit {0}) DriveFault) (report : Report) (answer : Answer) →
    IsReportOf outs driven how report → WritesReport report out answer →
    DriveNotes out driven how report.text.items answer.outcome.status (lines_in answer)
report_written outs out driven how report answer is (wrote grew told ended line) =
    let status_is : answer.outcome.status ≡ drive_status (end_at driven.trace.last how) = ended ∙ ap drive_status is.end in
    let lines_are : lines_in answer ≡ gone_lines driven.gone ++ drive_line how =
    ap₂ (λ (a b : List ℕ). a ++ b) (told ∙ is.told) (ap₂ chosen_line status_is (line ∙ is.line) ∙ line_is driven.trace.last how) in
    subst (λ (s : Status). DriveNotes out driven how report.text.items s (lines_in answer)) (sym status_is)
    (subst (λ ls. DriveNotes out driven how report.text.items (drive_status (end_at driven.trace.last how)) ls) (sym lines_are) (whole grew))
report_written outs out driven how report answer is (failed grew risen none e) =
    told_alone out driven how report.text.items answer.told.items answer.outcome.line.items answer.outcome.status status.WriteFault none e
    (unwritten grew risen)
report_written outs out driven how report answer is (refused grew none e) =
    told_alone out driven how report.text.items answer.told.items answer.outcome.line.items answer.outcome.status status.NoMemory none e
    (want grew)

-- ---- the command

pub drive_drove : (c : Call) (plants : Plants) (source : Word) (ticks : ℕ) (names : List ℕ) (program : Program) (report : Report)
    (answer : Answer) → IsProgramOfSource (c.left source) program → TellsReport program.structs program.units program.entry plants ticks names report →
    WritesReport report c.out answer → DriveEnds c plants source ticks names answer.outcome.status (lines_in answer)
drive_drove c plants source ticks names program report answer built told writes =
    drove told.driven told.how report.text.items
    (source_driven (c.left source) program built plants ticks names told.parts told.driven told.how told.drives report.text.items told.tells.text)
    (report_written (outputs_of told.parts) c.out told.driven told.how report answer told.tells writes)

plants_left : (left : Option (List ℕ)) (plants : Plants) (ticks : ℕ) (names : List ℕ) (program : Program) → IsProgramOfSource left program →
    MayHaveDriven program.structs program.units program.entry plants ticks names → LeavesDrivenPlants left plants ticks names
plants_left left plants ticks names program built (inl same) = kept same
plants_left left plants ticks names program built (inr h) =
    was_driven h.1.0 h.1.1.0 (text_shown (outputs_of h.0) h.1.0.trace h.1.1.0)
    (source_driven left program built plants ticks names h.0 h.1.0 h.1.1.0 h.1.1.1 _ refl)

pub drive_short : (c : Call) (plants : Plants) (source : Word) (ticks : ℕ) (names : List ℕ) (program : Program) (answer : Answer) →
    IsProgramOfSource (c.left source) program → MayHaveDriven program.structs program.units program.entry plants ticks names →
    answer.outcome.status ≡ status.NoMemory → answer.told.items ≡ [] → IsKept c.out.before c.out.after →
    DriveEnds c plants source ticks names answer.outcome.status (lines_in answer)
drive_short c plants source ticks names program answer built may e none same =
    rw (none, e) (short (plants_left (c.left source) plants ticks names program built may) same)

pub drive_stopped : (c : Call) (plants : Plants) (source : Word) (ticks : ℕ) (names : List ℕ) (answer : Answer) (outcome : Outcome) →
    answer.outcome ≡ outcome → lines_in answer ≡ line_in outcome → IsNotAccepted (c.left source) (c.file source) outcome.status (line_in outcome) →
    IsKept c.out.before c.out.after → plants.after ≡ plants.before →
    DriveEnds c plants source ticks names answer.outcome.status (lines_in answer)
drive_stopped c plants source ticks names answer outcome same lines why held unchanged =
    subst (λ ls. DriveEnds c plants source ticks names answer.outcome.status ls) (sym lines)
    (subst (λ (o : Outcome). DriveEnds c plants source ticks names o.status (line_in outcome)) (sym same) (stopped why held unchanged))

pub answers_drive : (c : Call) (plants : Plants) (job : Option JobSpec) (source : Word) (ticks : ℕ) (names : List ℕ) (ended : Status)
    (lines : List ℕ) → job ≡ Some (drive source ticks names) → DriveEnds c plants source ticks names ended lines →
    Answers c plants job ended lines
answers_drive c plants job source ticks names ended lines asked ends = rw asked (drives ends)
