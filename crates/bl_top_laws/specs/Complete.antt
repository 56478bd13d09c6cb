-- The status that is due for a call in which no count of faults rises: what the contents of its files say.
use Rattle.std.specs.Prelude.{◌≡◌, ◌⊎◌, ◌<◌, ◌≤◌, ℕ, ℤ, true, false, List, [], ◌∷◌, ◌++◌, length, take, Option, Some, None, slice_get, ⊤}
use Rattle.bl_ctext.specs.SpellsC.{SpellsC}
use Rattle.bl_ctext.specs.declared.file.CFile.{CFile}
use Rattle.bl_ctext_semantics.specs.Cells.{inputs_of}
use Rattle.bl_ctext_semantics.specs.Faults.{WellFormed}
use Rattle.bl_ctext_semantics.specs.Parts.{parts_of}
use Rattle.bl_ctext_semantics.specs.Sizes.{cells_needed}
use Rattle.bl_ctext_semantics.specs.Trace.{c_trace, c_trace_from, start_succeeds}
use Rattle.bl_ctree.specs.Means.{Means, shown_trace}
use Rattle.bl_face.specs.declared.face.Face.{Face}
use Rattle.bl_gen.specs.Outputs.{input_rows}
use Rattle.bl_gen.specs.Text.{most_stages, program_text}
use Rattle.bl_link.specs.Files.{FailsAtFile}
use Rattle.bl_link.specs.Linked.{HaveTree}
use Rattle.bl_module.specs.declared.taken.Taken.TheVariants.{AsMarked}
use Rattle.bl_module.specs.Faces.{FacesStand, behind_faces}
use Rattle.bl_module.specs.Rules.{PassesIn}
use Rattle.bl_module_files.specs.Faces.{AreSpelled}
use Rattle.bl_module_files.specs.Told.{AreTold}
use Rattle.bl_module_laws.specs.Files.{AreGoodFiles}
use Rattle.bl_parse_tree.specs.declared.raw.Raw.{Raw}
use Rattle.bl_rows.specs.Reading.{rows_of}
use Rattle.bl_rows.specs.declared.fault.RowFault.{RowFault}
use Rattle.bl_rows_stream.specs.Streams.{finish_of, while_open}
use Rattle.bl_rows_stream.specs.declared.finish.Finish.{Finish}
use Rattle.bl_rows_stream.specs.declared.finish.Finish.TheVariants as finish
use Rattle.bl_rules.specs.Accepted.{HasTree}
use Rattle.bl_rules.specs.Rules.{Passes, TreePasses}
use Rattle.bl_save.specs.States.{SavedState}
use Rattle.bl_top.specs.Answers.{Answered}
use Rattle.bl_top.specs.Drive.{Plants}
use Rattle.bl_top_args.specs.Jobs.{JobSpec, Word, bound, build, check, count, drive, exec, face, files_of, gen, job_of, link, resume, run, save, save_from}
use Rattle.bl_top_args.specs.Jobs.{walk}
use Rattle.bl_top_commands.specs.Calls.{Call, HasRisen}
use Rattle.bl_top_commands.specs.Gen.{last_status}
use Rattle.bl_top_commands.specs.Reads.{LeftBehind, longest_text, source_limit, state_limit, text_limit}
use Rattle.bl_top_commands.specs.declared.status.Status.{Status}
use Rattle.bl_top_commands.specs.declared.status.Status.TheVariants as status
use Rattle.bl_tree.specs.declared.place.Place.{Place}
use Rattle.bl_tree.specs.declared.row.Last.{Last}
use Rattle.bl_tree.specs.declared.row.Last.TheVariants.{Open, Ended, Trap}
use Rattle.bl_tree.specs.declared.row.Trace.{Trace}
use Rattle.bl_tree.specs.declared.rule.Rule.{Rule}
use Rattle.bl_tree.specs.declared.tree.Unit.{Unit as UnitDef}
use Rattle.bl_tree.specs.Ports.{input_columns}
use Rattle.bl_types_program.specs.Programs.{typed_of}

-- ---- faults

-- the count of faults of none of these files rose
abbrev pub NoneOfThemRose : Call → List Word → Type 0
NoneOfThemRose c [] = ⊤
NoneOfThemRose c (name ∷ names) = (¬ HasRisen (c.file name)) × NoneOfThemRose c names

-- no count of faults rose of a file that the job reads, of `out` or of `notes`
pub record NothingRose (c : Call) (job : JobSpec) : Type 0 where
  pub files : NoneOfThemRose c (files_of job)
  pub out : ¬ HasRisen c.out.faults
  pub notes : ¬ HasRisen c.notes.faults

-- ---- what files hold

-- these bytes are left of a file once the first one was read to its end or to the limit
abbrev pub HoldsBehind : Call → ℕ → Word → Word → List ℕ → Type 0
HoldsBehind c limit first name bytes = (between : Word → Option (List ℕ)) → LeftBehind limit first c.left between → between name ≡ Some bytes

-- these bytes are left of a file once a C text and a saved state were read
abbrev pub HoldsBehindBoth : Call → Word → Word → Word → List ℕ → Type 0
HoldsBehindBoth c text state name bytes = (between behind : Word → Option (List ℕ)) → LeftBehind text_limit text c.left between →
    LeftBehind state_limit state between behind → behind name ≡ Some bytes

-- the semantics of the program of a source, for which no rule fails, allows this trace over the rows of these bytes up to their first fault
pub record RunsTo (source bytes : List ℕ) (trace : Trace) : Type 0 where
  pub tree : Raw
  pub has : HasTree source tree
  pub entry : UnitDef
  pub is_entry : slice_get (typed_of tree).units (typed_of tree).entry ≡ Some entry
  pub fault : Option RowFault
  pub first : (rows_of bytes (input_columns entry)).fault ≡ fault
  pub means : Means (typed_of tree).structs (typed_of tree).units (typed_of tree).entry (rows_of bytes (input_columns entry)).rows (shown_trace trace)

-- a text that isn't too long spells a well-formed C file, which needs no more cells than can be loaded
pub record IsLoadable (text : List ℕ) (file : CFile) : Type 0 where
  pub short : length text ≤ longest_text
  pub spells : SpellsC file text
  pub well_formed : WellFormed (parts_of file)
  pub small : cells_needed (parts_of file) ≤ 1000000

-- a text is loadable, and this is the trace of its C file over the rows of these bytes up to their first fault
pub record ExecutesTo (text bytes : List ℕ) (trace : Trace) : Type 0 where
  pub file : CFile
  pub loadable : IsLoadable text file
  pub fault : Option RowFault
  pub first : (rows_of bytes (inputs_of (parts_of file))).fault ≡ fault
  pub is : c_trace (parts_of file) (rows_of bytes (inputs_of (parts_of file))).rows ≡ trace

-- a text is loadable, what is read of a state is a saved state of its C file, and this trace goes on from the state over the rows of these bytes up to their
-- first fault
pub record ResumesTo (text state bytes : List ℕ) (trace : Trace) : Type 0 where
  pub file : CFile
  pub loadable : IsLoadable text file
  pub numbers : List ℤ
  pub saved : SavedState (parts_of file) numbers (take state_limit state)
  pub fault : Option RowFault
  pub first : (rows_of bytes (inputs_of (parts_of file))).fault ≡ fault
  pub is : c_trace_from (parts_of file) (rows_of bytes (inputs_of (parts_of file))).rows numbers ≡ trace

-- no rule fails for the text of so many stages, which are few, and the semantics of its program allows this trace over the generated rows
pub record GeneratesTo (stages : ℕ) (trace : Trace) : Type 0 where
  pub few : stages ≤ most_stages
  pub tree : Raw
  pub has : HasTree (program_text stages) tree
  pub means : Means (typed_of tree).structs (typed_of tree).units (typed_of tree).entry input_rows (shown_trace trace)

-- ---- statuses

-- the status of a run with this end
abbrev pub finish_status : Finish → Status
finish_status finish.Done = status.Ok
finish_status finish.Trapped = status.Trapped
finish_status (finish.BadRows line) = status.BadRows
finish_status finish.ReadFault = status.ReadFault
finish_status finish.WriteFault = status.WriteFault
finish_status finish.NoMemory = status.NoMemory

-- the status of a run that stands so after its rows, where the rows end by this fault, if any
abbrev pub run_status : Last → Option RowFault → Status
run_status last fault = finish_status (finish_of last fault)

-- the status of saving the state of a run that stands so after its rows, where the rows end by this fault, if any
abbrev pub save_status : Last → Option RowFault → Status
save_status Open fault = finish_status (while_open fault)
save_status Ended fault = status.SaveEnded
save_status Trap fault = status.Trapped

-- ---- files that are refused

-- the file of the source that a job reads, if it reads one
abbrev pub source_named : JobSpec → Option Word
source_named (check source) = Some source
source_named (build source) = Some source
source_named (run source rows) = Some source
source_named (walk source rows seed) = Some source
source_named (exec text rows) = None
source_named (drive source ticks plants) = Some source
source_named (gen stages) = None
source_named (bound text) = None
source_named (count text rows) = None
source_named (save text rows) = None
source_named (save_from text state rows) = None
source_named (resume text state rows) = None
source_named (face source faces) = None
source_named (link sources) = None

-- the file of the C text that a job reads, if it reads one
abbrev pub text_named : JobSpec → Option Word
text_named (check source) = None
text_named (build source) = None
text_named (run source rows) = None
text_named (walk source rows seed) = None
text_named (exec text rows) = Some text
text_named (drive source ticks plants) = None
text_named (gen stages) = None
text_named (bound text) = Some text
text_named (count text rows) = Some text
text_named (save text rows) = Some text
text_named (save_from text state rows) = Some text
text_named (resume text state rows) = Some text
text_named (face source faces) = None
text_named (link sources) = None

-- a C text is rejected with this status
pub data IsRejected (text : List ℕ) : Status → Type 0 where
  too_long : longest_text < length text → IsRejected text status.TooLarge
  no_file : length text ≤ longest_text → ((file : CFile) → ¬ SpellsC file text) → IsRejected text status.NotSubset
  ill_formed : (file : CFile) → length text ≤ longest_text → SpellsC file text → ¬ WellFormed (parts_of file) → IsRejected text status.NotSubset
  too_many_cells : (file : CFile) → length text ≤ longest_text → SpellsC file text → WellFormed (parts_of file) → 1000000 < cells_needed (parts_of file) →
      IsRejected text status.TooLarge

-- ---- the status that is due

-- by the contents of the files that the job reads, and by its numbers, the job ends with this status
pub data IsDue (c : Call) : JobSpec → Status → Type 0 where
  -- a rule fails for the source
  source_refused : {job : JobSpec} {name : Word} (source : List ℕ) → source_named job ≡ Some name → c.left name ≡ Some source → ¬ Passes source →
      IsDue c job status.Refused
  text_rejected : {job : JobSpec} {name : Word} {ended : Status} (text : List ℕ) → text_named job ≡ Some name → c.left name ≡ Some text →
      IsRejected text ended → IsDue c job ended
  check_done : {name : Word} (source : List ℕ) → c.left name ≡ Some source → Passes source → IsDue c (check name) status.Ok
  build_done : {name : Word} (source : List ℕ) → c.left name ≡ Some source → Passes source → IsDue c (build name) status.Ok
  run_done : {name rows : Word} (source bytes : List ℕ) (trace : Trace) → c.left name ≡ Some source → HoldsBehind c source_limit name rows bytes →
      (to : RunsTo source bytes trace) → IsDue c (run name rows) (run_status trace.last to.fault)
  walk_done : {name rows : Word} {seed : ℕ} (source bytes : List ℕ) (trace : Trace) → c.left name ≡ Some source →
      HoldsBehind c source_limit name rows bytes → (to : RunsTo source bytes trace) → IsDue c (walk name rows seed) (run_status trace.last to.fault)
  exec_done : {name rows : Word} (text bytes : List ℕ) (trace : Trace) → c.left name ≡ Some text → HoldsBehind c text_limit name rows bytes →
      (to : ExecutesTo text bytes trace) → IsDue c (exec name rows) (run_status trace.last to.fault)
  count_done : {name rows : Word} (text bytes : List ℕ) (trace : Trace) → c.left name ≡ Some text → HoldsBehind c text_limit name rows bytes →
      (to : ExecutesTo text bytes trace) → IsDue c (count name rows) (run_status trace.last to.fault)
  bound_done : {name : Word} (text : List ℕ) (file : CFile) → c.left name ≡ Some text → IsLoadable text file → IsDue c (bound name) status.Ok
  save_done : {name rows : Word} (text bytes : List ℕ) (trace : Trace) → c.left name ≡ Some text → HoldsBehind c text_limit name rows bytes →
      (to : ExecutesTo text bytes trace) → start_succeeds (parts_of to.file) ≡ true → IsDue c (save name rows) (save_status trace.last to.fault)
  -- the start of the C file traps
  save_trapped : {name rows : Word} (text : List ℕ) (file : CFile) → c.left name ≡ Some text → IsLoadable text file →
      start_succeeds (parts_of file) ≡ false → IsDue c (save name rows) status.Trapped
  save_from_done : {name state rows : Word} (text saved bytes : List ℕ) (trace : Trace) → c.left name ≡ Some text →
      HoldsBehind c text_limit name state saved → HoldsBehindBoth c name state rows bytes → (to : ResumesTo text saved bytes trace) →
      IsDue c (save_from name state rows) (save_status trace.last to.fault)
  resume_done : {name state rows : Word} (text saved bytes : List ℕ) (trace : Trace) → c.left name ≡ Some text →
      HoldsBehind c text_limit name state saved → HoldsBehindBoth c name state rows bytes → (to : ResumesTo text saved bytes trace) →
      IsDue c (resume name state rows) (run_status trace.last to.fault)
  -- what is read of the state is no saved state of the C file
  save_from_stopped : {name state rows : Word} (text saved : List ℕ) (file : CFile) → c.left name ≡ Some text →
      HoldsBehind c text_limit name state saved → IsLoadable text file →
      ((numbers : List ℤ) → ¬ SavedState (parts_of file) numbers (take state_limit saved)) → IsDue c (save_from name state rows) status.BadState
  resume_stopped : {name state rows : Word} (text saved : List ℕ) (file : CFile) → c.left name ≡ Some text →
      HoldsBehind c text_limit name state saved → IsLoadable text file →
      ((numbers : List ℤ) → ¬ SavedState (parts_of file) numbers (take state_limit saved)) → IsDue c (resume name state rows) status.BadState
  gen_done : {stages : ℕ} (trace : Trace) → GeneratesTo stages trace → IsDue c (gen stages) (last_status trace.last)
  gen_refused : {stages : ℕ} → stages ≤ most_stages → ¬ Passes (program_text stages) → IsDue c (gen stages) status.Refused
  gen_too_large : {stages : ℕ} → most_stages < stages → IsDue c (gen stages) status.TooLarge
  -- the interface files are faces that stand, and no rule fails for the source behind them
  face_done : {name : Word} {names : List Word} (text : List ℕ) (texts : List (List ℕ)) (faces : List Face) →
      AreTold c.left (name ∷ names) (text ∷ texts) → AreSpelled texts faces → FacesStand faces → PassesIn (behind_faces faces) AsMarked text →
      IsDue c (face name names) status.Ok
  face_refused : {name : Word} {names : List Word} (text : List ℕ) (texts : List (List ℕ)) (faces : List Face) →
      AreTold c.left (name ∷ names) (text ∷ texts) → AreSpelled texts faces → FacesStand faces → ¬ PassesIn (behind_faces faces) AsMarked text →
      IsDue c (face name names) status.Refused
  -- the interface files are no faces, or faces that don't stand
  face_stopped : {name : Word} {names : List Word} (text : List ℕ) (texts : List (List ℕ)) → AreTold c.left (name ∷ names) (text ∷ texts) →
      ((faces : List Face) → AreSpelled texts faces → ¬ FacesStand faces) → IsDue c (face name names) status.NotFace
  -- one of the first interface files is no face; the files behind the first ones may hold anything, or can't be read
  face_stopped_in : {name : Word} {names : List Word} (earlier later : List Word) (text : List ℕ) (texts : List (List ℕ)) → names ≡ earlier ++ later →
      AreTold c.left (name ∷ earlier) (text ∷ texts) → ((faces : List Face) → ¬ AreSpelled texts faces) → IsDue c (face name names) status.NotFace
  -- each file is good behind the faces of those before it, and no rule fails for the joined texts
  link_done : {names : List Word} (texts : List (List ℕ)) (faces : List Face) (tree : Raw) → AreTold c.left names texts →
      AreGoodFiles (length texts) texts faces → HaveTree texts tree → TreePasses tree → IsDue c (link names) status.Ok
  link_refused : {names : List Word} (texts : List (List ℕ)) (faces : List Face) (tree : Raw) → AreTold c.left names texts →
      AreGoodFiles (length texts) texts faces → HaveTree texts tree → ¬ TreePasses tree → IsDue c (link names) status.Refused
  -- a rule fails for one of the first files behind the faces of those before it; the files behind the first ones may hold anything, or can't be read
  link_refused_in : {names : List Word} (earlier later : List Word) (texts : List (List ℕ)) (file : ℕ) (rule : Rule) (place : Place) (also : List Place) →
      names ≡ earlier ++ later → AreTold c.left earlier texts → FailsAtFile (length names) texts file rule place also → IsDue c (link names) status.Refused

-- a call in which no count of faults rises ends with the status that is due for its job, want of memory aside
abbrev pub CallsEndAsDue : Type 0
CallsEndAsDue = (words : List Word) (c : Call) (plants : Plants) (job : JobSpec) (due ended : Status) → job_of words ≡ Some job →
    NothingRose c job → IsDue c job due → Answered words c plants ended → (ended ≡ status.NoMemory) ⊎ (ended ≡ due)
