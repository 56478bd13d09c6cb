-- How `save` and `resume` end.
use Rattle.std.proofs.Common.{◌≡◌, ◌≢◌, ◌∙◌, ℕ, ◌≤◌, ℤ, Bool, true, false, List, [], refl, sym, ap, subst, inl, inr, arith}
use Rattle.std.specs.Prelude.{Option, Some, None}
use Rattle.bl_tree.proofs.Basics.{not_both}
use Rattle.bl_ctext_semantics.specs.Parts.{Parts}
use Rattle.bl_ctext_semantics.specs.Cells.{inputs_of}
use Rattle.bl_ctext_semantics.specs.Trace.{cells_after, start_cells, start_succeeds}
use Rattle.bl_ctext_semantics_laws_places.specs.Behaviour.{behaviour_of}
use Rattle.bl_top_commands.specs.Calls.{Call, Count, HasRisen, Output}
use Rattle.bl_top_commands.specs.Exec.{TextStops}
use Rattle.bl_top_commands.specs.inner.Outcomes.{IsEndAtState, IsEndOf, IsTold, chosen_line, line_in}
use Rattle.bl_top_commands.specs.inner.Texts.{HasLoaded, StandsAt}
use Rattle.bl_top_commands.specs.Notes.{bad_state_line, line_of}
use Rattle.bl_top_commands.specs.Reads.{LeftBehind, state_limit, text_limit}
use Rattle.bl_top_commands.specs.Results.{WritesResult}
use Rattle.bl_top_commands.specs.Save.{AreRead, FromStateEnds, HoldsState, SaveEnds, SavesOver, StateStops, bad_rows, bad_state, ended as save_ended, no_memory}
use Rattle.bl_top_commands.specs.Save.{ran, saved, state_unread as unread_state, state_want, stopped, stopped_at_state, stopped_at_text, trapped}
use Rattle.bl_top_commands.specs.Save.{trapped_at_start, unread as rows_unread, went}
use Rattle.bl_top_commands.specs.declared.outcome.Outcome.{Outcome}
use Rattle.bl_top_commands.specs.declared.status.Status.{Status}
use Rattle.bl_top_commands.specs.declared.status.Status.TheVariants as status
use Rattle.bl_top_commands.specs.Rows.{IsInStep, RunsOver, Streams}
use Rattle.bl_crun.specs.Running.{Running, loaded}
use Rattle.bl_io.specs.Left.{GivesUpTo, IsKept}
use Rattle.bl_rows.specs.Reading.{rows_of}
use Rattle.bl_save.specs.States.{HasRestored, IsFaultOf, SavedState, ShowsBadState}
use Rattle.bl_save.specs.declared.fault.StateFault.{StateFault}
use Rattle.bl_save.specs.declared.fault.StateFault.TheVariants as fault
use Rattle.bl_rows_stream.specs.declared.finish.Finish.{Finish}
use Rattle.bl_rows_stream.specs.declared.finish.Finish.TheVariants as finish
use Rattle.bl_rows_stream.specs.Streams.{Reported, course_from}
use Rattle.bl_rows_stream.specs.declared.ticks.Report.TheVariants.{Nothing}
use Rattle.bl_rows_stream_laws.specs.Resumed.{RunsSilently, bad_rows as silent_bad_rows, ended as silent_ended, goes_on, no_memory as silent_no_memory}
use Rattle.bl_rows_stream_laws.specs.Resumed.{resumed_by, runner_from, trapped as silent_trapped, unread as silent_unread}
use Rattle.bl_rows_stream_laws.specs.Laws.{RunsAreSilent}
use Rattle.bl_top_args.specs.Jobs.{Word}
use Rattle.bl_top_commands.proofs.Ends.{writes_as}
use Rattle.bl_top_commands.proofs.Streams.{streams_from}
use Rattle.bl_module_files.proofs.Sizes.{rose_from}

-- ---- the state of a job

are_read : (left : Option (List ℕ)) (got : List ℕ) (after : Option (List ℕ)) → GivesUpTo state_limit left got after → AreRead left got
are_read None got after read = tt
are_read (Some whole) got after read = read.front

pub state_bad : (file : Parts) (left : Option (List ℕ)) (count : Count) (got : List ℕ) (after : Option (List ℕ)) (at : ℕ) (outcome : Outcome) →
    GivesUpTo state_limit left got after → ShowsBadState file got at → IsTold status.BadState (bad_state_line at) outcome →
    StateStops file left count outcome.status (line_in outcome)
state_bad file left count got after at outcome read shows told = elim told [
  | inl is ↦ rw (is.0, is.1) (bad_state got at (are_read left got after read) shows)
  | inr none ↦ rw none state_want
]

pub state_faulty : (file : Parts) (left : Option (List ℕ)) (count : Count) (got : List ℕ) (after : Option (List ℕ)) (why : StateFault)
    (outcome : Outcome) → GivesUpTo state_limit left got after → IsFaultOf file got why → IsEndAtState why outcome →
    StateStops file left count outcome.status (line_in outcome)
state_faulty file left count got after (fault.BadState at) outcome read shows told = state_bad file left count got after at outcome read shows told

pub state_unread : (file : Parts) (left : Option (List ℕ)) (count : Count) (ended : Status) (own : List ℕ) → ended ≡ status.ReadFault →
    HasRisen count → StateStops file left count ended (chosen_line ended own)
state_unread file left count ended own e risen = rw e (unread_state risen)

pub state_wanting : (file : Parts) (left : Option (List ℕ)) (count : Count) (ended : Status) (own : List ℕ) → ended ≡ status.NoMemory →
    StateStops file left count ended (chosen_line ended own)
state_wanting file left count ended own e = rw e state_want

abbrev made : Parts → List ℤ → Bool → Bool → Running
made parts cells ready live = record { parts = parts; cells = cells; ready = ready; live = live }

-- a runner that was just loaded, and then set to the numbers of a state
pub stands_at : (left : Option (List ℕ)) (before : Running) (got : List ℕ) (after : Option (List ℕ)) (now : Running) → before
    ≡ loaded before.parts →
    GivesUpTo state_limit left got after → HasRestored before got now → StandsAt left before.parts now
stands_at left before got after now fresh read restored = record {
  numbers = restored.numbers;
  holds = record { bytes = got; are_read = are_read left got after read; saved = restored.saved };
  is = restored.runner
      ∙ ap (λ (r : Running). made r.parts restored.numbers r.ready r.live) fresh
      ∙ ap (λ ready. made before.parts restored.numbers ready true) restored.saved.starts;
}

-- such a runner can be saved
pub stands_ready : (left : Option (List ℕ)) (file : Parts) (now : Running) → StandsAt left file now → start_succeeds now.parts ≡ true
stands_ready left file now stands = ap (λ (r : Running). start_succeeds r.parts) stands.is ∙ stands.holds.saved.starts

pub stands_from : (left : Option (List ℕ)) (file : Parts) (now : Running) → StandsAt left file now → now ≡ runner_from now.parts now.cells
stands_from left file now stands = stands.is ∙ ap (λ (r : Running). runner_from r.parts r.cells) (sym stands.is)

pub loaded_from : (now : Running) → now ≡ loaded now.parts → now.ready ≡ true → now ≡ runner_from now.parts now.cells
loaded_from now fresh ready =
    ap (λ b. made now.parts now.cells b now.live) ready ∙ ap (made now.parts now.cells true) (ap (λ (r : Running). r.live) fresh)

pub loaded_starts : (now : Running) (b : Bool) → now ≡ loaded now.parts → now.ready ≡ b → start_succeeds now.parts ≡ b
loaded_starts now b fresh ready = sym (ap (λ (r : Running). r.ready) fresh) ∙ ready

pub loaded_cells : (now : Running) → now ≡ loaded now.parts → now.cells ≡ start_cells now.parts
loaded_cells now fresh = ap (λ (r : Running). r.cells) fresh

-- ---- a state that is saved

-- what a silent run of such a runner comes to
pub silently : ((file : Parts) → RunsAreSilent file) → (r : Running) → r ≡ runner_from r.parts r.cells → (left rest : Option (List ℕ))
    (now : Running) (how : Finish) → how ≢ finish.WriteFault → Reported Nothing r left rest None None now how →
    RunsSilently r.parts r.cells left rest now how
silently law r from left rest now how no_write reported =
    law r.parts r.cells left rest now how no_write
    (subst (λ runner. Reported Nothing runner left rest None None now how) from reported)

-- a runner that went on can be saved
pub open_ready : (file : Parts) (numbers : List ℤ) (left rest : Option (List ℕ)) (now : Running) (how : Finish) →
    RunsSilently file numbers left rest now how → how ≡ finish.Done → now.live ≡ true → start_succeeds file ≡ true → start_succeeds now.parts ≡ true
open_ready file numbers left rest now _ (goes_on leaves) e live starts = ap start_succeeds leaves.parts ∙ starts
open_ready file numbers left rest now _ (silent_ended bytes are is closed) e live starts = not_both now.live closed live
open_ready file numbers left rest now _ (silent_trapped bytes are is) e live starts = absurd (cc)
open_ready file numbers left rest now _ (silent_bad_rows n bytes are is why) e live starts = absurd (cc)
open_ready file numbers left rest now _ (silent_unread why) e live starts = absurd (cc)
open_ready file numbers left rest now _ silent_no_memory e live starts = absurd (cc)

module _ (file : Parts) (numbers : List ℤ) (left rest : Option (List ℕ)) (rows : Count) (out : Output) (now : Running) where
  -- a run that went on
  pub saves_open : (how : Finish) → RunsSilently file numbers left rest now how → how ≡ finish.Done → now.live ≡ true →
      (ended : Status) (line : List ℕ) → WritesResult (SavedState now.parts now.cells) out ended → line ≡ line_of ended →
      SavesOver file numbers left rest rows out ended line
  saves_open _ (goes_on leaves) e live ended line writes told =
      let rows_run = (rows_of leaves.bytes (inputs_of file)).rows in
      rw told (saved leaves.bytes leaves.are_left leaves.good leaves.going
      (writes_as (SavedState now.parts now.cells) (SavedState file (cells_after file rows_run numbers)) out ended
      (λ written is. subst (λ ns. SavedState file ns written) leaves.cells (subst (λ p. SavedState p now.cells written) leaves.parts is)) writes))
  saves_open _ (silent_ended bytes are is closed) e live ended line writes told = not_both now.live closed live
  saves_open _ (silent_trapped bytes are is) e live ended line writes told = absurd (cc)
  saves_open _ (silent_bad_rows n bytes are is why) e live ended line writes told = absurd (cc)
  saves_open _ (silent_unread why) e live ended line writes told = absurd (cc)
  saves_open _ silent_no_memory e live ended line writes told = absurd (cc)

  -- one that has ended
  pub saves_ended : (how : Finish) → RunsSilently file numbers left rest now how → how ≡ finish.Done → now.live ≡ false →
      (ended : Status) (own : List ℕ) → ended ≡ status.SaveEnded → IsKept out.before out.after →
      SavesOver file numbers left rest rows out ended (chosen_line ended own)
  saves_ended _ (goes_on leaves) e closed ended own is kept = not_both now.live closed leaves.live
  saves_ended _ (silent_ended bytes are has closed) e live ended own is kept = rw is (save_ended bytes are has kept)
  saves_ended _ (silent_trapped bytes are has) e live ended own is kept = absurd (cc)
  saves_ended _ (silent_bad_rows n bytes are has why) e live ended own is kept = absurd (cc)
  saves_ended _ (silent_unread why) e live ended own is kept = absurd (cc)
  saves_ended _ silent_no_memory e live ended own is kept = absurd (cc)

  -- one that was stopped
  pub saves_stopped : (how : Finish) (outcome : Outcome) → RunsSilently file numbers left rest now how → (how ≡ finish.Done → ⊥) →
      IsEndOf how outcome →
      (how ≡ finish.ReadFault → HasRisen rows) → IsKept out.before out.after →
      SavesOver file numbers left rest rows out outcome.status (line_in outcome)
  saves_stopped _ outcome (goes_on leaves) other e risen kept = absurd (other refl)
  saves_stopped _ outcome (silent_ended bytes are is closed) other e risen kept = absurd (other refl)
  saves_stopped _ outcome (silent_trapped bytes are is) other e risen kept = rw e (trapped bytes are is kept)
  saves_stopped _ outcome (silent_bad_rows n bytes are is why) other e risen kept = elim e [
    | inl told ↦ rw (told.0, told.1) (bad_rows n bytes are is why kept)
    | inr none ↦ rw none (no_memory kept)
  ]
  saves_stopped _ outcome (silent_unread why) other e risen kept = rw e (rows_unread why (risen refl) kept)
  saves_stopped _ outcome silent_no_memory other e risen kept = rw e (no_memory kept)

-- a count that stood lower before
saves_from : (file : Parts) (numbers : List ℤ) (left rest : Option (List ℕ)) (first second last : ℕ) (out : Output) (ended : Status) (line : List ℕ) →
    first ≤ second → SavesOver file numbers left rest (record { before = second; after = last }) out ended line →
    SavesOver file numbers left rest (record { before = first; after = last }) out ended line
saves_from file numbers left rest first second last out _ _ below (saved bytes are good is writes) = saved bytes are good is writes
saves_from file numbers left rest first second last out _ _ below (save_ended bytes are is kept) = save_ended bytes are is kept
saves_from file numbers left rest first second last out _ _ below (trapped bytes are is kept) = trapped bytes are is kept
saves_from file numbers left rest first second last out _ _ below (bad_rows n bytes are is why kept) = bad_rows n bytes are is why kept
saves_from file numbers left rest first second last out _ _ below (rows_unread why risen kept) =
    rows_unread why (rose_from first second last below risen) kept
saves_from file numbers left rest first second last out _ _ below (no_memory kept) = no_memory kept

state_from : (file : Parts) (left : Option (List ℕ)) (first second last : ℕ) (ended : Status) (line : List ℕ) → first ≤ second →
    StateStops file left (record { before = second; after = last }) ended line → StateStops file left (record { before = first; after = last }) ended line
state_from file left first second last _ _ below (bad_state bytes at are shows) = bad_state bytes at are shows
state_from file left first second last _ _ below (unread_state risen) = unread_state (rose_from first second last below risen)
state_from file left first second last _ _ below state_want = state_want

-- ---- the commands

module _ (c : Call) (text rows : Word) (parts : Parts) (has : HasLoaded (c.left text) parts) where
  pub save_ran : start_succeeds parts ≡ true → (cells : List ℤ) → cells ≡ start_cells parts → (between : Word → Option (List ℕ)) →
      LeftBehind text_limit text c.left between → (second : ℕ) → (c.file rows).before ≤ second → (ended : Status) (line : List ℕ) →
      SavesOver parts cells (between rows) (c.rest rows) (record { before = second; after = (c.file rows).after }) c.out ended line →
      SaveEnds c text rows ended line
  save_ran begins cells start between behind second below ended line saves =
      ran has.text (behaviour_of parts) has.of_source has.loads (subst (λ p. start_succeeds p ≡ true) (sym has.is) begins) between behind
      (subst (λ p. SavesOver p (start_cells p) (between rows) (c.rest rows) (c.file rows) c.out ended line) (sym has.is)
      (subst (λ ns. SavesOver parts ns (between rows) (c.rest rows) (c.file rows) c.out ended line) start
      (saves_from parts cells (between rows) (c.rest rows) (c.file rows).before second (c.file rows).after c.out ended line below saves)))

  pub save_trapped : start_succeeds parts ≡ false → (ended : Status) (own : List ℕ) → ended ≡ status.Trapped → IsKept c.out.before c.out.after →
      SaveEnds c text rows ended (chosen_line ended own)
  save_trapped traps ended own e kept =
      rw e (trapped_at_start has.text (behaviour_of parts) has.of_source has.loads (subst (λ p. start_succeeds p ≡ false) (sym has.is) traps) kept)

pub save_stopped : (c : Call) (text rows : Word) (ended : Status) (line : List ℕ) → TextStops (c.left text) (c.file text) ended line →
    IsKept c.out.before c.out.after → SaveEnds c text rows ended line
save_stopped c text rows ended line stops kept = stopped stops kept

module _ (c : Call) (text state : Word) (Goes : Parts → List ℤ → (Word → Option (List ℕ)) → Status → List ℕ → Type 0) where
  pub from_went : (parts : Parts) (has : HasLoaded (c.left text) parts) (between : Word → Option (List ℕ)) → LeftBehind text_limit text c.left between →
      (now : Running) (stands : StandsAt (between state) parts now) (behind : Word → Option (List ℕ)) → LeftBehind state_limit state between behind →
      (ended : Status) (line : List ℕ) → Goes parts stands.numbers behind ended line → FromStateEnds c text state Goes ended line
  from_went parts has between left now stands behind more ended line goes =
      went has.text (behaviour_of parts) has.of_source has.loads between left stands.numbers
      (subst (λ p. HoldsState p (between state) stands.numbers) (sym has.is) stands.holds) behind more
      (subst (λ p. Goes p stands.numbers behind ended line) (sym has.is) goes)

  pub from_stopped : (parts : Parts) (has : HasLoaded (c.left text) parts) (between : Word → Option (List ℕ)) →
      LeftBehind text_limit text c.left between → (second : ℕ) → (c.file state).before ≤ second → (ended : Status) (line : List ℕ) →
      StateStops parts (between state) (record { before = second; after = (c.file state).after }) ended line → IsKept c.out.before c.out.after →
      FromStateEnds c text state Goes ended line
  from_stopped parts has between left second below ended line stops kept =
      stopped_at_state has.text (behaviour_of parts) has.of_source has.loads between left
      (subst (λ p. StateStops p (between state) (c.file state) ended line) (sym has.is)
      (state_from parts (between state) (c.file state).before second (c.file state).after ended line below stops)) kept

  pub from_text_stopped : (ended : Status) (line : List ℕ) → TextStops (c.left text) (c.file text) ended line → IsKept c.out.before c.out.after →
      FromStateEnds c text state Goes ended line
  from_text_stopped ended line stops kept = stopped_at_text stops kept

-- over the rows behind a state
pub resume_goes : (parts : Parts) (left : Option (List ℕ)) (now : Running) (stands : StandsAt left parts now) (held rest : Option (List ℕ))
    (first second last : ℕ) (out : Output) (ended : Status) (line : List ℕ) → first ≤ second →
    Streams (course_from now) held rest (record { before = second; after = last }) out ended line → IsInStep (course_from now) held rest out →
    RunsOver (resumed_by parts stands.numbers) held rest (record { before = first; after = last }) out ended line
resume_goes parts left now stands held rest first second last out ended line below streams in_step = record {
  streams = streams_from (resumed_by parts stands.numbers) held rest first second last out ended line below
      (subst (λ (r : Running). Streams (course_from r) held rest (record { before = second; after = last }) out ended line) stands.is streams);
  in_step = subst (λ (r : Running). IsInStep (course_from r) held rest out) stands.is in_step;
}

pub save_goes : (parts : Parts) (left : Option (List ℕ)) (now : Running) (stands : StandsAt left parts now) (held rest : Option (List ℕ))
    (first second last : ℕ) (out : Output) (ended : Status) (line : List ℕ) → first ≤ second →
    SavesOver now.parts now.cells held rest (record { before = second; after = last }) out ended line →
    SavesOver parts stands.numbers held rest (record { before = first; after = last }) out ended line
save_goes parts left now stands held rest first second last out ended line below saves =
    saves_from parts stands.numbers held rest first second last out ended line below
    (subst (λ (r : Running). SavesOver r.parts r.cells held rest (record { before = second; after = last }) out ended line) stands.is saves)

-- the bytes of a state, written
pub state_written : (file : Parts) (numbers : List ℤ) (out : Output) (ended : Status) (bytes written : List ℕ) → SavedState file numbers bytes →
    written ≡ bytes → WritesResult (λ w. w ≡ written) out ended → WritesResult (SavedState file numbers) out ended
state_written file numbers out ended bytes written is same writes =
    writes_as (λ w. w ≡ written) (SavedState file numbers) out ended (λ w e. subst (SavedState file numbers) (sym (e ∙ same)) is) writes

pub stands_live : (left : Option (List ℕ)) (file : Parts) (now : Running) → StandsAt left file now → now.live ≡ true
stands_live left file now stands = ap (λ (r : Running). r.live) stands.is
