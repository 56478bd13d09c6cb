-- How `save` and `resume` end of a text and of states that were saved of it.
use Rattle.std.proofs.Common.{◌≡◌, ◌≢◌, ◌∙◌, ℕ, ◌≤◌, ℤ, true, List, [], ◌++◌, length, slice_index}
use Rattle.std.proofs.Common.{refl, sym, ap, subst, inl, inr, arith}
use Rattle.std.proofs.lemmas.List.{take_all}
use Rattle.std.specs.Prelude.{Option, Some, None, codes}
use Rattle.bl_ctext_semantics.specs.Cells.{inputs_of}
use Rattle.bl_ctext_semantics.specs.Faults.{first_fault, first_place}
use Rattle.bl_ctext_semantics.specs.Parts.{Parts}
use Rattle.bl_ctext_semantics.specs.Sizes.{cells_needed}
use Rattle.bl_ctext_semantics.specs.Trace.{c_trace, c_trace_from, cells_after, cells_if, start_cells, start_succeeds, trace_after}
use Rattle.bl_ctext_semantics_laws_places.specs.Behaviour.{Behaviour}
use Rattle.bl_top_commands.proofs.Courses.{BytesFit, LinesFit}
use Rattle.bl_top_commands.proofs.GoesOn.{RunsGoOn, joined, rows_join, states_source}
use Rattle.bl_top_commands.proofs.SameFiles.{EachBehaves, file_behaves, file_formed, files_alike, leaves_alike}
use Rattle.bl_top_commands.specs.Calls.{Call, Count, Output}
use Rattle.bl_top_commands.specs.Exec.{HasFile, Loads, Rejects, TextStops, ill_formed, no_file, no_memory as text_no_memory, rejected, too_long, too_many_cells}
use Rattle.bl_top_commands.specs.Exec.{unread as text_unread, want as text_want}
use Rattle.bl_top_commands.specs.Notes.{line_of}
use Rattle.bl_top_commands.specs.Reads.{LeftBehind, longest_text, state_limit, text_limit}
use Rattle.bl_top_commands.specs.Results.{WritesResult, fault, nothing, want as write_want, whole}
use Rattle.bl_top_commands.specs.Resumed.{FurtherSavesLeaveStates, GoesOnAs, HasSaved, IsStateOf, LeavesState, ResumedEnds, ResumesShowTheRest}
use Rattle.bl_top_commands.specs.Resumed.{SavesLeaveStates, unread as resumed_unread, want as resumed_want, went as resumed_went}
use Rattle.bl_top_commands.specs.Save.{AreRead, HoldsState, IsStateAfter, ResumeEnds, SaveEnds, SaveFromEnds, SavesOver, StateStops, bad_rows, bad_state}
use Rattle.bl_top_commands.specs.Save.{ended as save_ended, no_memory, ran, saved as saved_over, state_unread, state_want, stopped, stopped_at_state}
use Rattle.bl_top_commands.specs.Save.{stopped_at_text, trapped, trapped_at_start, unread, went}
use Rattle.bl_top_commands.specs.Sources.{IsSource, IsTextOf}
use Rattle.bl_top_commands.specs.declared.status.Status.{Status}
use Rattle.bl_top_commands.specs.declared.status.Status.TheVariants as status
use Rattle.bl_ctext.specs.Prelude.{prelude}
use Rattle.bl_io.specs.Held.{Appends}
use Rattle.bl_io.specs.Left.{IsKept}
use Rattle.bl_rows.specs.Reading.{rows_of}
use Rattle.bl_save.specs.States.{SavedState, ShowsBadState}
use Rattle.bl_save_laws.specs.Laws.{ShortStates, StatesJoin}
use Rattle.bl_rows_stream.specs.Streams.{AreLeft}
use Rattle.bl_rows_stream_laws.specs.Resumed.{resumed_by}
use Rattle.bl_tree.specs.declared.place.Place.{Place}
use Rattle.bl_tree.specs.declared.row.Last.TheVariants.{Open}
use Rattle.bl_tree.specs.declared.row.Trace.{Trace}
use Rattle.bl_top_args.specs.Jobs.{Word}

-- ---- a text and a state are no one file

state_begins : (text rest more : List ℕ) → text ≡ prelude ++ rest → text ≡ codes "BLSV1\n" ++ more → ⊥
unfolding prelude
state_begins text rest more is begins =
    let first : slice_index text 0 ≡ 35 = ap (λ bytes. slice_index bytes 0) is in
    let other : slice_index text 0 ≡ 66 = ap (λ bytes. slice_index bytes 0) begins in
    omega (arith, first, other)

no_text : (text : List ℕ) (first : List (List ℤ)) → IsStateOf text first text → ⊥
no_text text first is = state_begins text is.has.spells.0 _ is.has.spells.1.0 is.leaves.saved.written

told_same : (left : Option (List ℕ)) (one other : List ℕ) → left ≡ Some one → left ≡ Some other → one ≡ other
told_same left one other is too = let e = sym is ∙ too in cc

pub told_source : (left : Option (List ℕ)) (text bytes : List ℕ) → left ≡ Some text → IsSource left bytes → text ≡ bytes
told_source left text bytes stands source = subst (λ l. IsSource l bytes) stands source

module _ (c : Call) (text state : Word) (built kept : List ℕ) (first : List (List ℤ)) (stands : c.left text ≡ Some built)
    (holds : c.left state ≡ Some kept) (is : IsStateOf built first kept) where
  apart : state ≢ text
  apart same =
      let one : built ≡ kept = told_same (c.left text) built kept stands (ap c.left (sym same) ∙ holds) in
      no_text kept first (subst (λ whole. IsStateOf whole first kept) one is)

  -- so the state is as it was once the text was read
  pub state_kept : (between : Word → Option (List ℕ)) → LeftBehind text_limit text c.left between → between state ≡ Some kept
  state_kept between left = subst (λ before. IsKept before (between state)) holds (left.others state apart)

-- ---- a state of a text is read whole, and is none that is bad

module _ (each : EachBehaves) (short : (file : Parts) → ShortStates file) (text : List ℕ) (behaviour : Behaviour) (loads : Loads text behaviour)
    (first : List (List ℤ)) (state : List ℕ) (is : IsStateOf text first state) where
  loaded_leaves : LeavesState loads.file first state
  loaded_leaves =
      leaves_alike is.file loads.file (files_alike each text behaviour loads.behaves is.file loads.file is.has loads.has) first state is.leaves

  within_limit : length state ≤ state_limit
  within_limit =
      let formed = file_formed each text behaviour loads.behaves loads.file loads.has in
      let needed : behaviour.needed ≡ cells_needed loads.file = ap (λ (b : Behaviour). b.needed) loads.is in
      let few = short loads.file formed (cells_after loads.file first (start_cells loads.file)) state loaded_leaves.saved in
      let small = loads.small in
      omega (arith, needed, few, small)

  read_whole : (left : Option (List ℕ)) (bytes : List ℕ) → left ≡ Some state → AreRead left bytes → bytes ≡ state
  read_whole left bytes holds read = subst (λ l. AreRead l bytes) holds read ∙ take_all state_limit state within_limit

  read_state : (left : Option (List ℕ)) (numbers : List ℤ) → left ≡ Some state → HoldsState loads.file left numbers →
      SavedState loads.file numbers state
  read_state left numbers holds held =
      subst (λ bytes. SavedState loads.file numbers bytes) (read_whole left held.bytes holds held.are_read) held.saved

  pub not_bad : (left : Option (List ℕ)) (bytes : List ℕ) (at : ℕ) → left ≡ Some state → AreRead left bytes →
      ShowsBadState loads.file bytes at → ⊥
  not_bad left bytes at holds read shows =
      let numbers = cells_after loads.file first (start_cells loads.file) in
      shows.none numbers (subst (λ b. SavedState loads.file numbers b) (sym (read_whole left bytes holds read)) loaded_leaves.saved)

-- ---- what was saved

-- the state after the rows that are left of a file, from these numbers of the cells, grew
record SavedOver (file : Parts) (numbers : List ℤ) (left : Option (List ℕ)) (out : Output) : Type 0 where
  bytes : List ℕ
  are_left : AreLeft left bytes
  good : (rows_of bytes (inputs_of file)).fault ≡ None
  going : (c_trace_from file (rows_of bytes (inputs_of file)).rows numbers).last ≡ Open
  state : List ℕ
  saved : SavedState file (cells_after file (rows_of bytes (inputs_of file)).rows numbers) state
  grew : Appends out.before state out.after

pub what_grew : (Is : List ℕ → Type 0) (out : Output) (ended : Status) → WritesResult Is out ended → ended ≡ status.Ok →
    (text : List ℕ) × Is text × Appends out.before text out.after
what_grew Is out _ (whole text is grew) e = (text, is, grew)
what_grew Is out _ (fault text is grew risen) e = absurd (cc)
what_grew Is out _ (write_want text is grew) e = absurd (cc)
what_grew Is out _ (nothing kept) e = absurd (cc)

saved_ok : (file : Parts) (numbers : List ℤ) (left rest : Option (List ℕ)) (rows : Count) (out : Output) (ended : Status) (line : List ℕ) →
    SavesOver file numbers left rest rows out ended line → ended ≡ status.Ok → SavedOver file numbers left out
saved_ok file numbers left rest rows out ended _ (saved_over bytes are good going writes) e =
    let some = what_grew (IsStateAfter file numbers (rows_of bytes (inputs_of file)).rows) out ended writes e in
    record { bytes = bytes; are_left = are; good = good; going = going; state = some.0; saved = some.1; grew = some.2 }
saved_ok file numbers left rest rows out _ _ (save_ended bytes are is kept) e = absurd (cc)
saved_ok file numbers left rest rows out _ _ (trapped bytes are is kept) e = absurd (cc)
saved_ok file numbers left rest rows out _ _ (bad_rows n bytes are is why kept) e = absurd (cc)
saved_ok file numbers left rest rows out _ _ (unread why risen kept) e = absurd (cc)
saved_ok file numbers left rest rows out _ _ (no_memory kept) e = absurd (cc)

pub started_trace : (file : Parts) (rows : List (List ℤ)) → start_succeeds file ≡ true → c_trace file rows ≡ c_trace_from file rows (start_cells file)
started_trace file rows begins = ap (λ b. trace_after file (cells_if b (start_cells file)) rows) begins

-- from what the start leaves
save_begun : BytesFit → (text : List ℕ) (file : Parts) → HasFile text file → start_succeeds file ≡ true → (left : Option (List ℕ)) (out : Output) →
    SavedOver file (start_cells file) left out → HasSaved text [] left out
save_begun fit text file has begins left out over =
    let rows = (rows_of over.bytes (inputs_of file)).rows in
    record {
      file = file;
      has = has;
      bytes = over.bytes;
      are_left = over.are_left;
      good = over.good;
      state = over.state;
      leaves = record {
        fit = fit over.bytes (inputs_of file);
        running = ap (λ (trace : Trace). trace.last) (started_trace file rows begins) ∙ over.going;
        saved = over.saved;
      };
      grew = over.grew;
    }

-- and from a state
save_more : BytesFit → RunsGoOn → ((file : Parts) → StatesJoin file) → (text : List ℕ) (file : Parts) → HasFile text file →
    (first : List (List ℤ)) (state : List ℕ) → LeavesState file first state → (numbers : List ℤ) → SavedState file numbers state →
    (left : Option (List ℕ)) (out : Output) → SavedOver file numbers left out → HasSaved text first left out
save_more fit law join text file has first state leaves numbers read left out over =
    let rows = (rows_of over.bytes (inputs_of file)).rows in
    record {
      file = file;
      has = has;
      bytes = over.bytes;
      are_left = over.are_left;
      good = over.good;
      state = over.state;
      leaves = record {
        fit = rows_join (inputs_of file) first rows leaves.fit (fit over.bytes (inputs_of file));
        running = ap (λ (trace : Trace). trace.last) (joined law file first rows state numbers leaves read) ∙ over.going;
        saved = join file first rows state over.state numbers leaves.saved read over.saved;
      };
      grew = over.grew;
    }

-- ---- `save`

rejects_never_ok : (text : List ℕ) (ended : Status) (line : List ℕ) → Rejects text ended line → ended ≡ status.Ok → ⊥
rejects_never_ok text _ _ (too_long long) e = cc
rejects_never_ok text _ _ (no_file at fits shows) e = cc
rejects_never_ok text _ _ (ill_formed file at has is) e = cc
rejects_never_ok text _ _ (too_many_cells file cells has is) e = cc
rejects_never_ok text _ _ text_no_memory e = cc

stops_never_ok : (left : Option (List ℕ)) (file : Count) (ended : Status) (line : List ℕ) → TextStops left file ended line → ended ≡ status.Ok → ⊥
stops_never_ok left file ended line (rejected bytes source why) e = rejects_never_ok bytes ended line why e
stops_never_ok left file _ _ (text_unread risen) e = cc
stops_never_ok left file _ _ text_want e = cc

state_never_ok : (file : Parts) (left : Option (List ℕ)) (state : Count) (ended : Status) (line : List ℕ) → StateStops file left state ended line →
    ended ≡ status.Ok → ⊥
state_never_ok file left state _ _ (bad_state bytes at are shows) e = cc
state_never_ok file left state _ _ (state_unread risen) e = cc
state_never_ok file left state _ _ state_want e = cc

save_ok : BytesFit → (c : Call) (text rows : Word) (ended : Status) (line built : List ℕ) → c.left text ≡ Some built →
    SaveEnds c text rows ended line → ended ≡ status.Ok →
    (between : Word → Option (List ℕ)) × LeftBehind text_limit text c.left between × HasSaved built [] (between rows) c.out
save_ok fit c text rows ended line built stands (ran bytes behaviour source loads begins between behind saves) e =
    let over = saved_ok loads.file (start_cells loads.file) (between rows) (c.rest rows) (c.file rows) c.out ended line saves e in (
      between,
      behind,
      subst (λ whole. HasSaved whole [] (between rows) c.out) (sym (told_source (c.left text) built bytes stands source))
          (save_begun fit bytes loads.file loads.has begins (between rows) c.out over),
    )
save_ok fit c text rows _ _ built stands (trapped_at_start bytes behaviour source loads traps kept) e = absurd (cc)
save_ok fit c text rows ended line built stands (stopped why kept) e = absurd (stops_never_ok (c.left text) (c.file text) ended line why e)

pub saves_leave : BytesFit → SavesLeaveStates
saves_leave fit c text rows line built stands ends = save_ok fit c text rows status.Ok line built stands ends refl

module _ (each : EachBehaves) (short : (file : Parts) → ShortStates file) (fit : BytesFit) (law : RunsGoOn) (join : (file : Parts) → StatesJoin file)
    (c : Call) (text state rows : Word) (built kept : List ℕ) (first : List (List ℤ)) (stands : c.left text ≡ Some built)
    (holds : c.left state ≡ Some kept) (is : IsStateOf built first kept) where
  save_from_ok : (ended : Status) (line : List ℕ) → SaveFromEnds c text state rows ended line → ended ≡ status.Ok →
      (between : Word → Option (List ℕ)) × LeftBehind text_limit text c.left between
      × ((behind : Word → Option (List ℕ)) × LeftBehind state_limit state between behind × HasSaved built first (behind rows) c.out)
  save_from_ok ended line (went bytes behaviour source loads between left numbers held behind more saves) e =
      let same = told_source (c.left text) built bytes stands source in
      let too : IsStateOf bytes first kept = subst (λ whole. IsStateOf whole first kept) same is in
      let read = read_state each short bytes behaviour loads first kept too (between state) numbers
      (state_kept c text state built kept first stands holds is between left) held in
      let over = saved_ok loads.file numbers (behind rows) (c.rest rows) (c.file rows) c.out ended line saves e in (
        between,
        left,
        (
          behind,
          more,
          subst (λ whole. HasSaved whole first (behind rows) c.out) (sym same)
              (save_more fit law join bytes loads.file loads.has first kept (loaded_leaves each short bytes behaviour loads first kept too) numbers read
              (behind rows) c.out over),
        ),
      )
  save_from_ok ended line (stopped_at_state bytes behaviour source loads between left why same) e =
      absurd (state_never_ok loads.file (between state) (c.file state) ended line why e)
  save_from_ok ended line (stopped_at_text why same) e = absurd (stops_never_ok (c.left text) (c.file text) ended line why e)

pub further_saves_leave : EachBehaves → ((file : Parts) → ShortStates file) → BytesFit → RunsGoOn → ((file : Parts) → StatesJoin file) →
    FurtherSavesLeaveStates
further_saves_leave each short fit law join c text state rows line built kept first stands holds is ends =
    save_from_ok each short fit law join c text state rows built kept first stands holds is status.Ok line ends refl

-- ---- `resume`

pub none_and_some : (found : Option Place) (at : Place) → found ≡ None → found ≡ Some at → ⊥
none_and_some found at none some = let e = sym none ∙ some in cc

-- a text that was built is rejected only for want of memory, where it has a file
built_wants : EachBehaves → (source : Option (List ℕ)) (built : List ℕ) → IsTextOf source built → length built ≤ longest_text →
    (ended : Status) (line : List ℕ) → Rejects built ended line → (ended ≡ status.NoMemory) × (line ≡ line_of status.NoMemory)
built_wants each source built is short _ _ (too_long long) = absurd (omega (arith, short, long))
built_wants each source built is short _ _ (no_file at fits shows) = absurd (shows.none is.is.behaves.file is.is.behaves.spells)
built_wants each source built is short _ _ (ill_formed file at has fails) =
    let formed = file_formed each built is.is.behaviour is.is.behaves file has in
    absurd (none_and_some (first_fault file) at (ap first_place formed.none) fails)
built_wants each source built is short _ _ (too_many_cells file cells has large) =
    let small = is.is.one_trace.small in
    let needed : is.is.behaviour.needed ≡ cells_needed file =
    ap (λ (b : Behaviour). b.needed) (file_behaves each built is.is.behaviour is.is.behaves file has) in
    let more = large.large in
    absurd (omega (arith, small, needed, more))
built_wants each source built is short _ _ text_no_memory = (refl, refl)

module _ (each : EachBehaves) (short : (file : Parts) → ShortStates file) (bytes_fit : BytesFit) (lines_fit : LinesFit) (law : RunsGoOn)
    (source : Option (List ℕ)) (c : Call) (text state rows : Word) (built kept : List ℕ) (first : List (List ℤ)) (of : IsTextOf source built)
    (stands : c.left text ≡ Some built) (holds : c.left state ≡ Some kept) (is : IsStateOf built first kept) where
  abbrev Resumed : Status → List ℕ → Type 0
  Resumed = ResumedEnds source first c text state rows

  resumed_wants : (ended : Status) (line : List ℕ) → (ended ≡ status.NoMemory) × (line ≡ line_of status.NoMemory) →
      IsKept c.out.before c.out.after → Resumed ended line
  resumed_wants ended line why same = rw (why.0, why.1) (resumed_want same)

  text_stops : (ended : Status) (line : List ℕ) → TextStops (c.left text) (c.file text) ended line → IsKept c.out.before c.out.after →
      Resumed ended line
  text_stops ended line (rejected bytes told why) same =
      let one = told_source (c.left text) built bytes stands told in
      resumed_wants ended line (built_wants each source built of is.has.short ended line (subst (λ t. Rejects t ended line) (sym one) why)) same
  text_stops _ _ (text_unread risen) same = resumed_unread (inl risen) same
  text_stops _ _ text_want same = resumed_want same

  -- a text that was loaded
  module _ (bytes : List ℕ) (behaviour : Behaviour) (told : IsSource (c.left text) bytes) (loads : Loads bytes behaviour)
      (between : Word → Option (List ℕ)) (left : LeftBehind text_limit text c.left between) where
    one_text : built ≡ bytes
    one_text = told_source (c.left text) built bytes stands told

    state_of : IsStateOf bytes first kept
    state_of = subst (λ whole. IsStateOf whole first kept) one_text is

    still_there : between state ≡ Some kept
    still_there = state_kept c text state built kept first stands holds is between left

    goes_as : (numbers : List ℤ) → HoldsState loads.file (between state) numbers → GoesOnAs source first (resumed_by loads.file numbers)
    goes_as numbers held =
        let spelled = loads.has.spelled in
        let parts = loads.has.parts in
        let leaves = loaded_leaves each short bytes behaviour loads first kept state_of in
        let read = read_state each short bytes behaviour loads first kept state_of (between state) numbers still_there held in
        subst (λ file. GoesOnAs source first (resumed_by file numbers)) (sym parts)
        (states_source law each bytes_fit lines_fit source bytes spelled (subst (IsTextOf source) one_text of) loads.has.spells first kept numbers
        (subst (λ file. LeavesState file first kept) parts leaves) (subst (λ file. SavedState file numbers kept) parts read))

    state_stops : (ended : Status) (line : List ℕ) → StateStops loads.file (between state) (c.file state) ended line →
        IsKept c.out.before c.out.after → Resumed ended line
    state_stops _ _ (bad_state read at are shows) same =
        absurd (not_bad each short bytes behaviour loads first kept state_of (between state) read at still_there are shows)
    state_stops _ _ (state_unread risen) same = resumed_unread (inr risen) same
    state_stops _ _ state_want same = resumed_want same

  resumed_ends : (ended : Status) (line : List ℕ) → ResumeEnds c text state rows ended line → Resumed ended line
  resumed_ends ended line (went bytes behaviour told loads between left numbers held behind more streams) =
      resumed_went (resumed_by loads.file numbers) (goes_as bytes behaviour told loads between left numbers held) between left behind more streams
  resumed_ends ended line (stopped_at_state bytes behaviour told loads between left why same) =
      state_stops bytes behaviour told loads between left ended line why same
  resumed_ends ended line (stopped_at_text why same) = text_stops ended line why same

pub resumes_show : EachBehaves → ((file : Parts) → ShortStates file) → BytesFit → LinesFit → RunsGoOn → ResumesShowTheRest
resumes_show each short bytes_fit lines_fit law source c text state rows ended line built kept first of stands holds is ends =
    resumed_ends each short bytes_fit lines_fit law source c text state rows built kept first of stands holds is ended line ends
