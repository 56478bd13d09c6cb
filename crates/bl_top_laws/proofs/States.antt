-- How states of C texts that can be loaded are saved and resumed.
use Rattle.std.proofs.Common.{◌≡◌, ◌∙◌, ℕ, ℤ, Bool, true, false, List, refl, sym, ap, subst, inl, inr}
use Rattle.std.specs.Prelude.{Option, Some, take}
use Rattle.bl_tree.proofs.Basics.{true_and_false}
use Rattle.bl_ctext.specs.declared.file.CFile.{CFile}
use Rattle.bl_ctext_semantics.specs.Cells.{inputs_of}
use Rattle.bl_ctext_semantics.specs.Parts.{Parts, parts_of}
use Rattle.bl_ctext_semantics.specs.Trace.{c_trace_from, start_cells, start_succeeds}
use Rattle.bl_ctext_semantics_laws_places.specs.Behaviour.{Behaviour, behaviour_of}
use Rattle.bl_ctext_semantics_laws_places.specs.Bytes.{Behaves}
use Rattle.bl_rows.specs.Reading.{rows_of}
use Rattle.bl_rows.specs.declared.fault.RowFault.{RowFault}
use Rattle.bl_rows_stream.specs.Streams.{AreLeft, last_over, while_open}
use Rattle.bl_rows_stream.specs.declared.finish.Finish.{Finish}
use Rattle.bl_rows_stream.specs.declared.finish.Finish.TheVariants as finish
use Rattle.bl_rows_stream_laws.specs.Resumed.{resumed_by, silent_by}
use Rattle.bl_save.specs.States.{OneMemory, SavedState}
use Rattle.bl_top_args.specs.Jobs.{Word}
use Rattle.bl_top_commands.proofs.SameFiles.{EachBehaves, saved_alike, starts_alike, traces_alike}
use Rattle.bl_top_commands.specs.Calls.{Call, Count, HasRisen, Output}
use Rattle.bl_top_commands.specs.Exec.{Loads}
use Rattle.bl_top_commands.specs.Reads.{state_limit, text_limit}
use Rattle.bl_top_commands.specs.Save.{AreRead, FromStateEnds, HoldsState, IsStateAfter, ResumeEnds, SaveEnds, SaveFromEnds, SavesOver, StateStops, bad_rows}
use Rattle.bl_top_commands.specs.Save.{bad_state, ended as save_ended, no_memory, ran, saved as state_saved, state_unread, state_want, stopped}
use Rattle.bl_top_commands.specs.Save.{stopped_at_state, stopped_at_text, trapped, trapped_at_start, unread, went}
use Rattle.bl_top_commands.specs.declared.status.Status.{Status}
use Rattle.bl_top_commands.specs.declared.status.Status.TheVariants as status
use Rattle.bl_top_laws.proofs.Runs.{GoesTo, IsDone, course_due, result_done}
use Rattle.bl_top_laws.proofs.Loading.{never_loaded, one_behaviour, text_stops, text_stops_due}
use Rattle.bl_top_laws.specs.Complete.{ExecutesTo, HoldsBehind, HoldsBehindBoth, IsLoadable, IsRejected, ResumesTo, finish_status, run_status, save_status}
use Rattle.bl_tree.specs.declared.row.Last.{Last}
use Rattle.bl_tree.specs.declared.row.Last.TheVariants.{Open, Ended, Trap}
use Rattle.bl_tree.specs.declared.row.Trace.{Trace}
use Rattle.bl_top_commands.proofs.Resumes.{started_trace, told_source}

-- ---- what is saved

-- a run that is still open is saved with the status of why its rows end
open_due : (fault : Option RowFault) (how : Finish) (ended : Status) → while_open fault ≡ how → IsDone ended (finish_status how) →
    IsDone ended (save_status Open fault)
open_due why how ended is one = subst (λ h. IsDone ended (finish_status h)) (sym is) one

module _ (file : Parts) (numbers : List ℤ) (left rest : Option (List ℕ)) (rows : Count) (out : Output) (bytes : List ℕ)
    (holds : left ≡ Some bytes) (none_read : ¬ HasRisen rows) (none_written : ¬ HasRisen out.faults) where
  same_bytes : (others : List ℕ) → AreLeft left others → others ≡ bytes
  same_bytes others are = sym (subst (λ l. AreLeft l others) holds are)

  -- the status that is due after the rows of these bytes
  abbrev due_over : List ℕ → Status
  due_over bs = save_status (last_over (silent_by file numbers) bs) (rows_of bs (inputs_of file)).fault

  stands_due : (others : List ℕ) (last : Last) (ended : Status) → AreLeft left others → last_over (silent_by file numbers) others ≡ last →
      IsDone ended (save_status last (rows_of others (inputs_of file)).fault) → IsDone ended (due_over bytes)
  stands_due others last ended are is one =
      subst (λ bs. IsDone ended (due_over bs)) (same_bytes others are)
      (subst (λ l. IsDone ended (save_status l (rows_of others (inputs_of file)).fault)) (sym is) one)

  pub saves_due : (ended : Status) (line : List ℕ) → SavesOver file numbers left rest rows out ended line → IsDone ended (due_over bytes)
  saves_due ended _ (state_saved others are good going writes) =
      stands_due others Open ended are going
      (open_due (rows_of others (inputs_of file)).fault finish.Done ended (ap while_open good)
      (result_done (IsStateAfter file numbers (rows_of others (inputs_of file)).rows) out ended none_written writes))
  saves_due _ _ (save_ended others are is kept) = stands_due others Ended status.SaveEnded are is (inr refl)
  saves_due _ _ (trapped others are is kept) = stands_due others Trap status.Trapped are is (inr refl)
  saves_due _ _ (bad_rows n others are is why kept) =
      stands_due others Open status.BadRows are is (open_due (rows_of others (inputs_of file)).fault (finish.BadRows n) status.BadRows why (inr refl))
  saves_due _ _ (unread why risen kept) = absurd (none_read risen)
  saves_due _ _ (no_memory kept) = inl refl

-- the state of a run that goes so is saved as it stands
saved_due : (file : Parts) (numbers : List ℤ) (left rest : Option (List ℕ)) (rows : Count) (out : Output) (bytes : List ℕ) (last : Last)
    (fault : Option RowFault) → left ≡ Some bytes → ¬ HasRisen rows → ¬ HasRisen out.faults → GoesTo (silent_by file numbers) bytes last fault →
    (ended : Status) (line : List ℕ) → SavesOver file numbers left rest rows out ended line → IsDone ended (save_status last fault)
saved_due file numbers left rest rows out bytes last why holds none_read none_written to ended line saves =
    subst (λ l. IsDone ended (save_status l why)) to.is
    (subst (λ f. IsDone ended (save_status (last_over (silent_by file numbers) bytes) f)) to.first
    (saves_due file numbers left rest rows out bytes holds none_read none_written ended line saves))

-- ---- files of one text

-- ---- `save`

-- the file that is loaded behaves as the one that the text spells
as_loaded : EachBehaves → (text : List ℕ) (file : CFile) → IsLoadable text file → (behaviour : Behaviour) (read : List ℕ)
    (loads : Loads read behaviour) → text ≡ read → behaviour_of (parts_of file) ≡ behaviour_of loads.file
as_loaded each text file is behaviour read loads same =
    sym (one_behaviour each text file is behaviour (subst (λ t. Behaves t behaviour) (sym same) loads.behaves)) ∙ loads.is

-- its start traps where that of the other does
starts_as : EachBehaves → (text : List ℕ) (file : CFile) → IsLoadable text file → (behaviour : Behaviour) (read : List ℕ)
    (loads : Loads read behaviour) → text ≡ read → (b : Bool) → start_succeeds (parts_of file) ≡ b → start_succeeds loads.file ≡ b
starts_as each text file is behaviour read loads same b begins =
    sym (starts_alike (parts_of file) loads.file (as_loaded each text file is behaviour read loads same)) ∙ begins

saves_to : EachBehaves → (text bytes : List ℕ) (trace : Trace) (to : ExecutesTo text bytes trace) → start_succeeds (parts_of to.file) ≡ true →
    (behaviour : Behaviour) (read : List ℕ) (loads : Loads read behaviour) → text ≡ read →
    GoesTo (silent_by loads.file (start_cells loads.file)) bytes trace.last to.fault
saves_to each text bytes trace to begins behaviour read loads same =
    let alike = as_loaded each text to.file to.loadable behaviour read loads same in
    let goes = starts_as each text to.file to.loadable behaviour read loads same true begins in
    record {
      first = subst (λ (b : Behaviour). (rows_of bytes b.inputs).fault ≡ to.fault) alike to.first;
      is = ap (λ (t : Trace). t.last) (sym (started_trace loads.file (rows_of bytes (inputs_of loads.file)).rows goes))
          ∙ ap (λ (b : Behaviour). (b.trace (rows_of bytes b.inputs).rows).last) (sym alike) ∙ ap (λ (t : Trace). t.last) to.is;
    }

pub save_due : EachBehaves → (c : Call) (name rows : Word) (text bytes : List ℕ) (trace : Trace) (to : ExecutesTo text bytes trace) →
    start_succeeds (parts_of to.file) ≡ true → c.left name ≡ Some text → HoldsBehind c text_limit name rows bytes → ¬ HasRisen (c.file name) →
    ¬ HasRisen (c.file rows) → ¬ HasRisen c.out.faults → (ended : Status) (line : List ℕ) → SaveEnds c name rows ended line →
    IsDone ended (save_status trace.last to.fault)
save_due each c name rows text bytes trace to begins holds behind none_text none_rows none_out ended line
    (ran read behaviour source loads going between left saves) =
    let same = told_source (c.left name) text read holds source in
    saved_due loads.file (start_cells loads.file) (between rows) (c.rest rows) (c.file rows) c.out bytes trace.last to.fault (behind between left)
    none_rows none_out (saves_to each text bytes trace to begins behaviour read loads same) ended line saves
save_due each c name rows text bytes trace to begins holds behind none_text none_rows none_out _ _
    (trapped_at_start read behaviour source loads traps kept) =
    let same = told_source (c.left name) text read holds source in
    absurd (true_and_false (start_succeeds loads.file) (starts_as each text to.file to.loadable behaviour read loads same true begins) traps)
save_due each c name rows text bytes trace to begins holds behind none_text none_rows none_out ended line (stopped why kept) =
    inl (text_stops each text to.file to.loadable (c.left name) (c.file name) ended line holds none_text why)

pub save_traps : EachBehaves → (c : Call) (name rows : Word) (text : List ℕ) (file : CFile) → IsLoadable text file → start_succeeds (parts_of file) ≡ false →
    c.left name ≡ Some text → ¬ HasRisen (c.file name) → (ended : Status) (line : List ℕ) → SaveEnds c name rows ended line →
    IsDone ended status.Trapped
save_traps each c name rows text file is traps holds none_text ended line (ran read behaviour source loads going between left saves) =
    let same = told_source (c.left name) text read holds source in
    absurd (true_and_false (start_succeeds loads.file) going (starts_as each text file is behaviour read loads same false traps))
save_traps each c name rows text file is traps holds none_text _ _ (trapped_at_start read behaviour source loads none kept) = inr refl
save_traps each c name rows text file is traps holds none_text ended line (stopped why kept) =
    inl (text_stops each text file is (c.left name) (c.file name) ended line holds none_text why)

-- ---- from a state

-- what was read of a state is its first bytes
read_of : (left : Option (List ℕ)) (saved others : List ℕ) → left ≡ Some saved → AreRead left others → others ≡ take state_limit saved
read_of left saved others holds are = subst (λ l. AreRead l others) holds are

module _ (each : EachBehaves) (one : (file : Parts) → OneMemory file) (text saved bytes : List ℕ) (trace : Trace)
    (to : ResumesTo text saved bytes trace) (behaviour : Behaviour) (read : List ℕ) (loads : Loads read behaviour) (same : text ≡ read) where
  alike : behaviour_of (parts_of to.file) ≡ behaviour_of loads.file
  alike = as_loaded each text to.file to.loadable behaviour read loads same

  is_saved : SavedState loads.file to.numbers (take state_limit saved)
  is_saved = saved_alike (parts_of to.file) loads.file alike to.numbers (take state_limit saved) to.saved

  -- the numbers of the state that is read
  numbers_are : (left : Option (List ℕ)) (numbers : List ℤ) → left ≡ Some saved → HoldsState loads.file left numbers → to.numbers ≡ numbers
  numbers_are left numbers holds held =
      one loads.file to.numbers numbers (take state_limit saved) is_saved
      (subst (λ bs. SavedState loads.file numbers bs) (read_of left saved held.bytes holds held.are_read) held.saved)

  -- the state isn't bad
  pub state_taken : (left : Option (List ℕ)) (count : Count) (ended : Status) (line : List ℕ) → left ≡ Some saved → ¬ HasRisen count →
      StateStops loads.file left count ended line → ended ≡ status.NoMemory
  state_taken left count _ _ holds none (bad_state others at are shows) =
      absurd (shows.none to.numbers (subst (λ bs. SavedState loads.file to.numbers bs) (sym (read_of left saved others holds are)) is_saved))
  state_taken left count _ _ holds none (state_unread risen) = absurd (none risen)
  state_taken left count _ _ holds none state_want = refl

  goes_as : GoesTo (resumed_by loads.file to.numbers) bytes trace.last to.fault
  goes_as = record {
    first = subst (λ (b : Behaviour). (rows_of bytes b.inputs).fault ≡ to.fault) alike to.first;
    is = ap (λ columns. (c_trace_from loads.file (rows_of bytes columns).rows to.numbers).last) (sym (ap (λ (b : Behaviour). b.inputs) alike))
        ∙ ap (λ (t : Trace). t.last)
        (sym (traces_alike (parts_of to.file) loads.file alike (rows_of bytes (inputs_of (parts_of to.file))).rows to.numbers))
        ∙ ap (λ (t : Trace). t.last) to.is;
  }

  pub resumed_to : (left : Option (List ℕ)) (numbers : List ℤ) → left ≡ Some saved → HoldsState loads.file left numbers →
      GoesTo (resumed_by loads.file numbers) bytes trace.last to.fault
  resumed_to left numbers holds held =
      subst (λ ns. GoesTo (resumed_by loads.file ns) bytes trace.last to.fault) (numbers_are left numbers holds held) goes_as

-- what shows nothing goes as what shows its trace
silently : (file : Parts) (numbers : List ℤ) (bytes : List ℕ) (last : Last) (fault : Option RowFault) →
    GoesTo (resumed_by file numbers) bytes last fault → GoesTo (silent_by file numbers) bytes last fault
silently file numbers bytes last why to = record { first = to.first; is = to.is }

module _ (each : EachBehaves) (one : (file : Parts) → OneMemory file) (c : Call) (name state rows : Word) (text saved bytes : List ℕ) (trace : Trace)
    (to : ResumesTo text saved bytes trace) (holds : c.left name ≡ Some text) (holds_state : HoldsBehind c text_limit name state saved)
    (behind_both : HoldsBehindBoth c name state rows bytes) (none_text : ¬ HasRisen (c.file name)) (none_state : ¬ HasRisen (c.file state))
    (none_rows : ¬ HasRisen (c.file rows)) (none_out : ¬ HasRisen c.out.faults) where
  from_due : (Goes : Parts → List ℤ → (Word → Option (List ℕ)) → Status → List ℕ → Type 0) (due : Status) →
      ((file : Parts) (numbers : List ℤ) (left : Word → Option (List ℕ)) (ended : Status) (line : List ℕ) → left rows ≡ Some bytes →
      GoesTo (resumed_by file numbers) bytes trace.last to.fault → Goes file numbers left ended line → IsDone ended due) →
      (ended : Status) (line : List ℕ) → FromStateEnds c name state Goes ended line → IsDone ended due
  from_due Goes due goes_due ended line (went read behaviour source loads between left numbers held behind more goes) =
      let same = told_source (c.left name) text read holds source in
      goes_due loads.file numbers behind ended line (behind_both between behind left more)
      (resumed_to each one text saved bytes trace to behaviour read loads same (between state) numbers (holds_state between left) held) goes
  from_due Goes due goes_due ended line (stopped_at_state read behaviour source loads between left why kept) =
      let same = told_source (c.left name) text read holds source in
      inl (state_taken each one text saved bytes trace to behaviour read loads same (between state) (c.file state) ended line
      (holds_state between left) none_state why)
  from_due Goes due goes_due ended line (stopped_at_text why kept) =
      inl (text_stops each text to.file to.loadable (c.left name) (c.file name) ended line holds none_text why)

  pub resume_due : (ended : Status) (line : List ℕ) → ResumeEnds c name state rows ended line → IsDone ended (run_status trace.last to.fault)
  resume_due ended line ends =
      from_due _ (run_status trace.last to.fault)
      (λ file numbers left ended line there goes over. course_due (resumed_by file numbers) (left rows) (c.rest rows) (c.file rows) c.out ended line
      bytes trace.last to.fault there none_rows none_out goes over.streams) ended line ends

  pub save_from_due : (ended : Status) (line : List ℕ) → SaveFromEnds c name state rows ended line → IsDone ended (save_status trace.last to.fault)
  save_from_due ended line ends =
      from_due _ (save_status trace.last to.fault)
      (λ file numbers left ended line there goes saves. saved_due file numbers (left rows) (c.rest rows) (c.file rows) c.out bytes trace.last to.fault
      there none_rows none_out (silently file numbers bytes trace.last to.fault goes) ended line saves) ended line ends

-- ---- bytes that are no state

module _ (each : EachBehaves) (c : Call) (name state : Word) (text saved : List ℕ) (file : CFile) (is : IsLoadable text file)
    (none : (numbers : List ℤ) → ¬ SavedState (parts_of file) numbers (take state_limit saved)) (holds : c.left name ≡ Some text)
    (holds_state : HoldsBehind c text_limit name state saved) (none_text : ¬ HasRisen (c.file name)) (none_state : ¬ HasRisen (c.file state)) where
  never_held : (behaviour : Behaviour) (read : List ℕ) (loads : Loads read behaviour) → text ≡ read → (left : Option (List ℕ)) (numbers : List ℤ) →
      left ≡ Some saved → HoldsState loads.file left numbers → ⊥
  never_held behaviour read loads same left numbers there held =
      none numbers
      (saved_alike loads.file (parts_of file) (sym (as_loaded each text file is behaviour read loads same)) numbers (take state_limit saved)
      (subst (λ bs. SavedState loads.file numbers bs) (read_of left saved held.bytes there held.are_read) held.saved))

  state_stops_due : (loaded : Parts) (left : Option (List ℕ)) (ended : Status) (line : List ℕ) → StateStops loaded left (c.file state) ended line →
      IsDone ended status.BadState
  state_stops_due loaded left _ _ (bad_state others at are shows) = inr refl
  state_stops_due loaded left _ _ (state_unread risen) = absurd (none_state risen)
  state_stops_due loaded left _ _ state_want = inl refl

  pub stops_at_state : (Goes : Parts → List ℤ → (Word → Option (List ℕ)) → Status → List ℕ → Type 0) (ended : Status) (line : List ℕ) →
      FromStateEnds c name state Goes ended line → IsDone ended status.BadState
  stops_at_state Goes ended line (went read behaviour source loads between left numbers held behind more goes) =
      let same = told_source (c.left name) text read holds source in
      absurd (never_held behaviour read loads same (between state) numbers (holds_state between left) held)
  stops_at_state Goes ended line (stopped_at_state read behaviour source loads between left why kept) =
      state_stops_due loads.file (between state) ended line why
  stops_at_state Goes ended line (stopped_at_text why kept) =
      inl (text_stops each text file is (c.left name) (c.file name) ended line holds none_text why)

-- ---- texts that are rejected

pub from_rejected : EachBehaves → (c : Call) (name state : Word) (text : List ℕ) (due : Status) → IsRejected text due → c.left name ≡ Some text →
    ¬ HasRisen (c.file name) → (Goes : Parts → List ℤ → (Word → Option (List ℕ)) → Status → List ℕ → Type 0) (ended : Status) (line : List ℕ) →
    FromStateEnds c name state Goes ended line → IsDone ended due
from_rejected each c name state text due is holds none Goes ended line (went read behaviour source loads between left numbers held behind more goes) =
    let same = told_source (c.left name) text read holds source in
    absurd (never_loaded each text due behaviour is (subst (λ t. Loads t behaviour) (sym same) loads))
from_rejected each c name state text due is holds none Goes ended line (stopped_at_state read behaviour source loads between left why kept) =
    let same = told_source (c.left name) text read holds source in
    absurd (never_loaded each text due behaviour is (subst (λ t. Loads t behaviour) (sym same) loads))
from_rejected each c name state text due is holds none Goes ended line (stopped_at_text why kept) =
    text_stops_due each text due (c.left name) (c.file name) ended line holds none is why

pub save_rejected : EachBehaves → (c : Call) (name rows : Word) (text : List ℕ) (due : Status) → IsRejected text due → c.left name ≡ Some text →
    ¬ HasRisen (c.file name) → (ended : Status) (line : List ℕ) → SaveEnds c name rows ended line → IsDone ended due
save_rejected each c name rows text due is holds none ended line (ran read behaviour source loads going between left saves) =
    let same = told_source (c.left name) text read holds source in
    absurd (never_loaded each text due behaviour is (subst (λ t. Loads t behaviour) (sym same) loads))
save_rejected each c name rows text due is holds none _ _ (trapped_at_start read behaviour source loads traps kept) =
    let same = told_source (c.left name) text read holds source in
    absurd (never_loaded each text due behaviour is (subst (λ t. Loads t behaviour) (sym same) loads))
save_rejected each c name rows text due is holds none ended line (stopped why kept) =
    text_stops_due each text due (c.left name) (c.file name) ended line holds none is why
