-- A state that was saved of a text is never rejected for it.
use Rattle.std.proofs.Common.{◌≡◌, ℕ, ℤ, List, inl, inr, subst}
use Rattle.std.specs.Prelude.{Option, Some}
use Rattle.bl_ctext_semantics.specs.Parts.{Parts}
use Rattle.bl_ctext_semantics_laws_places.specs.Behaviour.{Behaviour}
use Rattle.bl_top_commands.proofs.Resumes.{not_bad, state_kept, told_source}
use Rattle.bl_top_commands.proofs.SameFiles.{EachBehaves}
use Rattle.bl_top_commands.specs.Calls.{Call, Count, Output}
use Rattle.bl_top_commands.specs.Exec.{Loads, Rejects, TextStops, ill_formed, no_file, no_memory as text_no_memory, rejected, too_long, too_many_cells}
use Rattle.bl_top_commands.specs.Exec.{unread as text_unread, want as text_want}
use Rattle.bl_top_commands.specs.Resumed.{IsStateOf, SavedStatesAreTaken}
use Rattle.bl_top_commands.specs.Results.{WritesResult, fault, nothing, want as write_want, whole}
use Rattle.bl_top_commands.specs.Rows.{Streams, bad_rows as shown_bad_rows, done, no_memory as shown_no_memory, trapped as shown_trapped}
use Rattle.bl_top_commands.specs.Rows.{unread as shown_unread, unwritten}
use Rattle.bl_top_commands.specs.Save.{FromStateEnds, SavesOver, StateStops, bad_rows, bad_state, ended as save_ended, no_memory, saved as saved_over}
use Rattle.bl_top_commands.specs.Save.{state_unread, state_want, stopped_at_state, stopped_at_text, trapped, unread, went}
use Rattle.bl_top_commands.specs.declared.status.Status.{Status}
use Rattle.bl_top_commands.specs.declared.status.Status.TheVariants as status
use Rattle.bl_save_laws.specs.Laws.{ShortStates}
use Rattle.bl_rows_stream.specs.Streams.{Course}
use Rattle.bl_rows_stream_laws.specs.Resumed.{resumed_by}
use Rattle.bl_top_args.specs.Jobs.{Word}

-- ---- what else may stop a job, and what it does from a state

rejects_never : (text : List ℕ) (ended : Status) (line : List ℕ) → Rejects text ended line → ended ≡ status.BadState → ⊥
rejects_never text _ _ (too_long long) e = cc
rejects_never text _ _ (no_file at fits shows) e = cc
rejects_never text _ _ (ill_formed file at has is) e = cc
rejects_never text _ _ (too_many_cells file cells has is) e = cc
rejects_never text _ _ text_no_memory e = cc

text_never : (left : Option (List ℕ)) (file : Count) (ended : Status) (line : List ℕ) → TextStops left file ended line →
    ended ≡ status.BadState → ⊥
text_never left file ended line (rejected bytes source why) e = rejects_never bytes ended line why e
text_never left file _ _ (text_unread risen) e = cc
text_never left file _ _ text_want e = cc

write_never : (Is : List ℕ → Type 0) (out : Output) (ended : Status) → WritesResult Is out ended → ended ≡ status.BadState → ⊥
write_never Is out _ (whole text is grew) e = cc
write_never Is out _ (fault text is grew risen) e = cc
write_never Is out _ (write_want text is grew) e = cc
write_never Is out _ (nothing kept) e = cc

saves_never : (file : Parts) (numbers : List ℤ) (left rest : Option (List ℕ)) (rows : Count) (out : Output) (ended : Status) (line : List ℕ) →
    SavesOver file numbers left rest rows out ended line → ended ≡ status.BadState → ⊥
saves_never file numbers left rest rows out ended _ (saved_over bytes are good going writes) e = write_never _ out ended writes e
saves_never file numbers left rest rows out _ _ (save_ended bytes are is kept) e = cc
saves_never file numbers left rest rows out _ _ (trapped bytes are is kept) e = cc
saves_never file numbers left rest rows out _ _ (bad_rows n bytes are is why kept) e = cc
saves_never file numbers left rest rows out _ _ (unread why risen kept) e = cc
saves_never file numbers left rest rows out _ _ (no_memory kept) e = cc

shows_never : (course : Course) (left rest : Option (List ℕ)) (rows : Count) (out : Output) (ended : Status) (line : List ℕ) →
    Streams course left rest rows out ended line → ended ≡ status.BadState → ⊥
shows_never course left rest rows out _ _ (done ran) e = cc
shows_never course left rest rows out _ _ (shown_trapped ran) e = cc
shows_never course left rest rows out _ _ (shown_bad_rows n ran) e = cc
shows_never course left rest rows out _ _ (shown_unread why risen) e = cc
shows_never course left rest rows out _ _ (unwritten ran risen) e = cc
shows_never course left rest rows out _ _ (shown_no_memory ran) e = cc

-- ---- from a state

module _ (each : EachBehaves) (short : (file : Parts) → ShortStates file) (c : Call) (text state : Word) (built kept : List ℕ)
    (first : List (List ℤ)) (stands : c.left text ≡ Some built) (holds : c.left state ≡ Some kept) (is : IsStateOf built first kept) where
  state_never : (bytes : List ℕ) (behaviour : Behaviour) (loads : Loads bytes behaviour) → IsStateOf bytes first kept → (left : Option (List ℕ)) →
      left ≡ Some kept → (ended : Status) (line : List ℕ) → StateStops loads.file left (c.file state) ended line → ended ≡ status.BadState → ⊥
  state_never bytes behaviour loads of left there _ _ (bad_state read at are shows) e =
      not_bad each short bytes behaviour loads first kept of left read at there are shows
  state_never bytes behaviour loads of left there _ _ (state_unread risen) e = cc
  state_never bytes behaviour loads of left there _ _ state_want e = cc

  from_state : (Goes : Parts → List ℤ → (Word → Option (List ℕ)) → Status → List ℕ → Type 0) →
      ((file : Parts) (numbers : List ℤ) (left : Word → Option (List ℕ)) (ended : Status) (line : List ℕ) → Goes file numbers left ended line →
      ended ≡ status.BadState → ⊥) →
      (ended : Status) (line : List ℕ) → FromStateEnds c text state Goes ended line → ended ≡ status.BadState → ⊥
  from_state Goes never ended line (went bytes behaviour source loads between left numbers held behind more goes) e =
      never loads.file numbers behind ended line goes e
  from_state Goes never ended line (stopped_at_state bytes behaviour source loads between left why same) e =
      let one = told_source (c.left text) built bytes stands source in
      state_never bytes behaviour loads (subst (λ whole. IsStateOf whole first kept) one is) (between state)
      (state_kept c text state built kept first stands holds is between left) ended line why e
  from_state Goes never ended line (stopped_at_text why same) e = text_never (c.left text) (c.file text) ended line why e

pub states_taken : EachBehaves → ((file : Parts) → ShortStates file) → SavedStatesAreTaken
states_taken each short c text state rows ended line built kept first stands holds is ends e = elim ends [
  | inl saves ↦ from_state each short c text state built kept first stands holds is _
      (λ file numbers left. saves_never file numbers (left rows) (c.rest rows) (c.file rows) c.out) ended line saves e
  | inr resumes ↦ from_state each short c text state built kept first stands holds is _
      (λ file numbers left ended line over.
      shows_never (resumed_by file numbers) (left rows) (c.rest rows) (c.file rows) c.out ended line over.streams) ended line resumes e
]
