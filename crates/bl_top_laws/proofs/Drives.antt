-- Calls of `drive` in which no count of faults rises end as their plants say.
use Rattle.std.proofs.Common.{◌≡◌, ◌∙◌, ℕ, List, [], ◌∷◌, ◌++◌, refl, sym, ap, subst, inl, inr}
use Rattle.std.specs.Prelude.{◌⊎◌, Option, Some, Result, Ok, Err, length, slice_get}
use Rattle.bl_ctext_semantics.specs.Cells.{inputs_of}
use Rattle.bl_parse_tree.specs.declared.raw.Raw.{Raw}
use Rattle.bl_plant_drive.specs.Drives.{AreThere, DriveEnds as Ends, DriveSetting, Outcome, columns_in, widths_of}
use Rattle.bl_plant_drive.specs.Roles.{IsCast, Role}
use Rattle.bl_plant_drive.specs.declared.driven.Driven.{Driven}
use Rattle.bl_plant_drive.specs.declared.fault.DriveFault.{DriveFault}
use Rattle.bl_plant_drive.specs.declared.fault.DriveFault.TheVariants as fault
use Rattle.bl_plant_drive_report.specs.Reports.{end_at, fault_end}
use Rattle.bl_plant_drive_report.specs.declared.report.End.TheVariants as end
use Rattle.bl_rules.specs.Accepted.{HasTree}
use Rattle.bl_top.specs.Drive.{DriveEnds, DriveNotes, HasDrivenSource, Plants, drive_setting, drive_status, drove, short, stopped, unwritten, want, whole}
use Rattle.bl_top_args.specs.Jobs.{Word, drive}
use Rattle.bl_top_commands.specs.Calls.{Call, HasRisen, Output}
use Rattle.bl_top_commands.specs.declared.status.Status.{Status}
use Rattle.bl_top_commands.specs.declared.status.Status.TheVariants as status
use Rattle.bl_top_laws.proofs.Casts.{agreed-by, failed-rises, never-absent, never-twice, outside-shows}
use Rattle.bl_top_laws.proofs.Jobs.{job_ended, lines_written}
use Rattle.bl_top_laws.proofs.Runs.{OneTree, one_unit, source_accepted}
use Rattle.bl_top_laws.proofs.Texts.{tree_of_source}
use Rattle.bl_top_laws.specs.Driven.{AreAgreed, DrivesAndEnds, DrivesEndAsDue, EndsAsDriven, HasOutsideRow, HasRisenPlant, OthersHaveOtherShapes}
use Rattle.bl_tree.specs.Ports.{input_columns}
use Rattle.bl_tree.specs.declared.row.Column.{Column}
use Rattle.bl_tree.specs.declared.row.Last.{Last}
use Rattle.bl_tree.specs.declared.tree.Unit.{Unit as UnitDef}
use Rattle.bl_types_program.specs.Programs.{typed_of}

-- ---- drives that were stopped

module _ (inputs : List Column) (plants : Plants) (s : DriveSetting) (o : Outcome) (found_is : s.plants ≡ plants.before)
    (left_is : o.plants ≡ plants.after) (columns_are : columns_in s ≡ inputs) where
  -- nothing but want of memory stops a drive whose plants agree, count no fault and give no number outside its range
  never_stopped : (e : DriveFault) → Ends s o (Err e) → AreAgreed inputs plants.before s.names → ¬ HasRisenPlant plants s.names →
      ¬ HasOutsideRow inputs plants s.names → fault_end e ≡ end.NoMemory
  never_stopped (fault.Failed name) ends agreed unrisen inside = absurd (unrisen (failed-rises plants s o found_is left_is name.number ends))
  never_stopped (fault.Absent name) ends agreed unrisen inside =
      absurd (never-absent s name.number (subst (λ ps. AreThere ps s.names) (sym found_is) agreed.there) ends.0)
  never_stopped (fault.Twice name) ends agreed unrisen inside = absurd (never-twice s name.number agreed.distinct ends.0)
  never_stopped (fault.Width given wanted) ends agreed unrisen inside =
      absurd (ends.0.differ (ap (λ ps. widths_of ps s.names) found_is ∙ agreed.wide ∙ sym (ap length columns_are)))
  never_stopped (fault.Range column number) ends agreed unrisen inside =
      absurd (inside (outside-shows inputs plants s o found_is left_is columns_are column number ends))
  never_stopped fault.NoMemory ends agreed unrisen inside = refl

  agreed : (cast : List Role) → IsCast s.plants s.names cast → widths_of s.plants s.names ≡ length (columns_in s) →
      AreAgreed inputs plants.before s.names
  agreed cast is wide =
      subst (λ ps. AreAgreed inputs ps s.names) found_is (agreed-by inputs (columns_in s) s.plants s.names cast columns_are is wide)

  -- a drive whose plants don't agree
  stopped_at_shape : (last : Last) (how : Result (Unit {0}) DriveFault) → Ends s o how → ¬ AreAgreed inputs plants.before s.names →
      (end_at last how ≡ end.NoMemory) ⊎ (end_at last how ≡ end.PlantShape)
  stopped_at_shape last (Ok done) ends other = absurd (other (agreed ends.cast ends.driven.is_cast ends.wide))
  stopped_at_shape last (Err (fault.Failed name)) ends other =
      absurd (other (agreed (ends.asked ++ ends.role ∷ ends.others) ends.stopped.driven.is_cast ends.stopped.wide))
  stopped_at_shape last (Err (fault.Absent name)) ends other = inr refl
  stopped_at_shape last (Err (fault.Twice name)) ends other = inr refl
  stopped_at_shape last (Err (fault.Width given wanted)) ends other = inr refl
  stopped_at_shape last (Err (fault.Range column number)) ends other =
      absurd (other (agreed ((ends.asked ++ ends.role ∷ []) ++ ends.others) ends.stopped.driven.is_cast ends.stopped.wide))
  stopped_at_shape last (Err fault.NoMemory) ends other = inl refl

-- ---- drives of a source

-- the inputs of what was driven are those of the source's entry
inputs_same : OneTree → (left : Option (List ℕ)) (plants : Plants) (ticks : ℕ) (names : List ℕ) (driven : Driven) (how : Result (Unit {0}) DriveFault)
    (text source : List ℕ) (tree : Raw) (entry : UnitDef) → left ≡ Some source → HasTree source tree →
    slice_get (typed_of tree).units (typed_of tree).entry ≡ Some entry →
    (has : HasDrivenSource left plants ticks names driven how text) → inputs_of has.parts ≡ input_columns entry
inputs_same one left plants ticks names driven how text source tree entry holds is is_entry has =
    let same : has.raw ≡ tree = one source has.raw tree (tree_of_source left source has.raw holds has.tree) is in
    let found : slice_get (typed_of tree).units (typed_of tree).entry ≡ Some has.one_trace.unit =
    subst (λ (raw : Raw). slice_get (typed_of raw).units (typed_of raw).entry ≡ Some has.one_trace.unit) same has.one_trace.is_entry in
    has.one_trace.inputs ∙ ap input_columns (one_unit (slice_get (typed_of tree).units (typed_of tree).entry) has.one_trace.unit entry found is_entry)

-- the status of want of memory, or what holds of another one
abbrev Unless : Status → (Status → Type 0) → Type 0
Unless ended Holds = (ended ≡ status.NoMemory) ⊎ Holds ended

module _ (left : Option (List ℕ)) (plants : Plants) (ticks : ℕ) (names : List ℕ) (inputs : List Column) (driven : Driven) (text : List ℕ)
    (ended : Status) where
  agreed_due : (how : Result (Unit {0}) DriveFault) (has : HasDrivenSource left plants ticks names driven how text) → inputs_of has.parts ≡ inputs →
      AreAgreed inputs plants.before names → ¬ HasRisenPlant plants names → ¬ HasOutsideRow inputs plants names →
      ended ≡ drive_status (end_at driven.trace.last how) → Unless ended (EndsAsDriven left plants ticks names)
  agreed_due (Ok done) has same agrees unrisen inside is = inr (record { driven = driven; text = text; done = done; drove = has; ended_is = is })
  agreed_due (Err e) has same agrees unrisen inside is =
      inl (is ∙ ap drive_status
      (never_stopped inputs plants (drive_setting has.parts plants.before ticks names)
      (record { runner = has.is_driven.runner; plants = plants.after; driven = driven }) refl refl same e has.is_driven.ends agrees unrisen inside))

  other_due : (how : Result (Unit {0}) DriveFault) (has : HasDrivenSource left plants ticks names driven how text) → inputs_of has.parts ≡ inputs →
      ¬ AreAgreed inputs plants.before names → ended ≡ drive_status (end_at driven.trace.last how) →
      Unless ended (λ found. found ≡ status.PlantShape)
  other_due how has same other is =
      elim (stopped_at_shape inputs plants (drive_setting has.parts plants.before ticks names)
      (record { runner = has.is_driven.runner; plants = plants.after; driven = driven }) refl refl same driven.trace.last how has.is_driven.ends other) [
        | inl short_of ↦ inl (is ∙ ap drive_status short_of)
        | inr shape ↦ inr (is ∙ ap drive_status shape)
      ]

-- what a drive shows is written, where no write fails
notes_due : (out : Output) (driven : Driven) (how : Result (Unit {0}) DriveFault) (text : List ℕ) (ended : Status) (lines : List ℕ) →
    ¬ HasRisen out.faults → DriveNotes out driven how text ended lines → Unless ended (λ found. found ≡ drive_status (end_at driven.trace.last how))
notes_due out driven how text _ _ none (whole grew) = inr refl
notes_due out driven how text _ _ none (unwritten grew risen) = absurd (none risen)
notes_due out driven how text _ _ none (want grew) = inl refl

-- ---- the call

-- what holds of the status with which the lines of a job are written
written_as : (Holds : Status → Type 0) (meant ended : Status) → Unless meant Holds → Unless ended (λ found. found ≡ meant) → Unless ended Holds
written_as Holds meant ended holds wrote = elim wrote [
  | inl short_of ↦ inl short_of
  | inr same ↦ subst (λ found. Unless found Holds) (sym same) holds
]

-- what holds of each drive of the source that was stopped so holds of the call
module _ (one : OneTree) (words : List Word) (c : Call) (plants : Plants) (name : Word) (ticks : ℕ) (names : List ℕ) (inputs : List Column)
    (ended : Status) (call : DrivesAndEnds words c plants name ticks names inputs ended) (Holds : Status → Type 0)
    (by : (driven : Driven) (how : Result (Unit {0}) DriveFault) (text : List ℕ) (has : HasDrivenSource (c.left name) plants ticks names driven how text) →
    inputs_of has.parts ≡ inputs → (meant : Status) → meant ≡ drive_status (end_at driven.trace.last how) → Unless meant Holds) where
  drive_due : (meant : Status) (lines : List ℕ) → DriveEnds c plants name ticks names meant lines → Unless meant Holds
  drive_due meant lines (drove driven how text has notes) =
      let same : inputs_of has.parts ≡ inputs =
      inputs_same one (c.left name) plants ticks names driven how text call.source call.tree call.entry call.holds call.has call.is_entry has
      ∙ sym call.inputs_are in
      elim (notes_due c.out driven how text meant lines call.none.out notes) [
        | inl short_of ↦ inl short_of
        | inr is ↦ by driven how text has same meant is
      ]
  drive_due _ _ (short leaves kept) = inl refl
  drive_due meant lines (stopped why kept same) =
      inl (source_accepted (c.left name) (c.file name) call.source meant lines call.holds call.has.passes call.none.files.0 why)

  job_due : (meant : Status) (lines : List ℕ) → (meant ≡ status.NoMemory) ⊎ DriveEnds c plants name ticks names meant lines → Unless meant Holds
  job_due meant lines how = elim how [ inl short_of ↦ inl short_of | inr ends ↦ drive_due meant lines ends ]

  call_due : Unless ended Holds
  call_due =
      let answered = call.answered in
      written_as Holds answered.meant ended
      (job_due answered.meant answered.lines
      (job_ended c plants (drive name ticks names) _ answered.meant answered.lines call.asks answered.answers))
      (lines_written c.notes answered.lines answered.meant ended call.none.notes answered.written)

pub drives_end_as_due : OneTree → DrivesEndAsDue
drives_end_as_due one words c plants name ticks names inputs ended call agrees unrisen inside =
    call_due one words c plants name ticks names inputs ended call (EndsAsDriven (c.left name) plants ticks names)
    (λ driven how text has same meant is. agreed_due (c.left name) plants ticks names inputs driven text meant how has same agrees unrisen inside is)

pub others_have_other_shapes : OneTree → OthersHaveOtherShapes
others_have_other_shapes one words c plants name ticks names inputs ended call other =
    call_due one words c plants name ticks names inputs ended call (λ found. found ≡ status.PlantShape)
    (λ driven how text has same meant is. other_due (c.left name) plants ticks names inputs driven text meant how has same other is)
