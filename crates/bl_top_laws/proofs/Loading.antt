-- C texts that can be loaded aren't rejected, and run as their files do; others are rejected.
use Rattle.std.proofs.Common.{◌≡◌, ◌∙◌, ℕ, ◌≤◌, ◌<◌, ℤ, List, length, refl, sym, ap, subst, inl, inr, arith}
use Rattle.std.specs.Prelude.{Option, Some}
use Rattle.bl_ctext.specs.SpellsC.{SpellsC}
use Rattle.bl_ctext.specs.declared.file.CFile.{CFile}
use Rattle.bl_ctext_semantics.specs.Faults.{WellFormed, first_fault}
use Rattle.bl_ctext_semantics.specs.Parts.{Parts, parts_of}
use Rattle.bl_ctext_semantics.specs.Sizes.{cells_needed}
use Rattle.bl_ctext_semantics_laws_places.specs.Behaviour.{Behaviour, behaviour_of}
use Rattle.bl_ctext_semantics_laws_places.specs.Bytes.{Behaves}
use Rattle.bl_rows.specs.Reading.{rows_of}
use Rattle.bl_rows_stream.specs.Streams.{Course}
use Rattle.bl_top_args.specs.Jobs.{Word}
use Rattle.bl_top_commands.proofs.SameFiles.{EachBehaves, file_behaves, file_formed}
use Rattle.bl_top_commands.specs.Calls.{Call, Count, HasRisen}
use Rattle.bl_top_commands.specs.Exec.{HasFile, Loads, Rejects, TextEnds, TextStops, ill_formed, no_file, no_memory, ran, rejected, stopped, too_long}
use Rattle.bl_top_commands.specs.Exec.{too_many_cells, unread, want}
use Rattle.bl_top_commands.specs.Reads.{longest_text, text_limit}
use Rattle.bl_top_commands.specs.declared.status.Status.{Status}
use Rattle.bl_top_commands.specs.declared.status.Status.TheVariants as status
use Rattle.bl_top_laws.proofs.Runs.{GoesTo, IsDone, course_due}
use Rattle.bl_top_laws.specs.Complete.{ExecutesTo, HoldsBehind, IsLoadable, IsRejected, ill_formed as is_ill_formed, no_file as spells_none, run_status}
use Rattle.bl_top_laws.specs.Complete.{too_long as is_long, too_many_cells as needs_many_cells}
use Rattle.bl_tree.specs.declared.place.Place.{Place}
use Rattle.bl_tree.specs.declared.row.Trace.{Trace}
use Rattle.bl_top_commands.proofs.Resumes.{told_source}
use Rattle.bl_top.proofs.Builds.{within_limit}
use Rattle.bl_top.proofs.Courses.{faultless, not_large}

module _ (each : EachBehaves) (text : List ℕ) (file : CFile) (is : IsLoadable text file) where
  behaves : Behaves text (behaviour_of (parts_of file))
  behaves = record { file = file; spells = is.spells; well_formed = is.well_formed; is = refl }

  formed : (other : Parts) → HasFile text other → WellFormed other
  formed other has = file_formed each text (behaviour_of (parts_of file)) behaves other has

  small : (other : Parts) → HasFile text other → cells_needed other ≤ 1000000
  small other has =
      subst (λ (b : Behaviour). b.needed ≤ 1000000) (file_behaves each text (behaviour_of (parts_of file)) behaves other has) is.small

  -- a text that can be loaded is rejected for want of memory alone
  rejects_none : (ended : Status) (line : List ℕ) → Rejects text ended line → ended ≡ status.NoMemory
  rejects_none _ _ (too_long long) = absurd (within_limit text is.short long)
  rejects_none _ _ (no_file at fits shows) = absurd (shows.none file is.spells)
  rejects_none _ _ (ill_formed other at has first) = absurd (faultless other at (formed other has) first)
  rejects_none _ _ (too_many_cells other cells has large) = absurd (not_large (cells_needed other) large.large (small other has))
  rejects_none _ _ no_memory = refl

  pub text_stops : (left : Option (List ℕ)) (count : Count) (ended : Status) (line : List ℕ) → left ≡ Some text → ¬ HasRisen count →
      TextStops left count ended line → ended ≡ status.NoMemory
  text_stops left count ended line holds none (rejected bytes source why) =
      rejects_none ended line (subst (λ b. Rejects b ended line) (sym (told_source left text bytes holds source)) why)
  text_stops left count _ _ holds none (unread risen) = absurd (none risen)
  text_stops left count _ _ holds none want = refl

  -- it behaves in one way
  pub one_behaviour : (behaviour : Behaviour) → Behaves text behaviour → behaviour ≡ behaviour_of (parts_of file)
  one_behaviour behaviour other = ((each file text behaviour is.spells).0 other).1

-- what a course by the behaviour of a text reads, and how it stands
pub record FollowsBehaviour (course : Behaviour → Course) : Type 0 where
  pub ins : (b : Behaviour) → (course b).ins ≡ b.inputs
  pub last : (b : Behaviour) (rows : List (List ℤ)) → (course b).last rows ≡ (b.trace rows).last

module _ (each : EachBehaves) (course : Behaviour → Course) (follows : FollowsBehaviour course) (text bytes : List ℕ) (trace : Trace)
    (to : ExecutesTo text bytes trace) where
  text_to : GoesTo (course (behaviour_of (parts_of to.file))) bytes trace.last to.fault
  text_to =
      let b = behaviour_of (parts_of to.file) in
      record {
        first = subst (λ columns. (rows_of bytes columns).fault ≡ to.fault) (sym (follows.ins b)) to.first;
        is = follows.last b (rows_of bytes (course b).ins).rows
            ∙ ap (λ columns. (b.trace (rows_of bytes columns).rows).last) (follows.ins b) ∙ ap (λ (t : Trace). t.last) to.is;
      }

  course_goes : (behaviour : Behaviour) → Behaves text behaviour → GoesTo (course behaviour) bytes trace.last to.fault
  course_goes behaviour is =
      subst (λ (b : Behaviour). GoesTo (course b) bytes trace.last to.fault) (sym (one_behaviour each text to.file to.loadable behaviour is)) text_to

  pub text_due : (c : Call) (name rows : Word) (ended : Status) (line : List ℕ) → c.left name ≡ Some text →
      HoldsBehind c text_limit name rows bytes → ¬ HasRisen (c.file name) → ¬ HasRisen (c.file rows) → ¬ HasRisen c.out.faults →
      TextEnds c name rows course ended line → IsDone ended (run_status trace.last to.fault)
  text_due c name rows ended line holds behind none_text none_rows none_out (ran read behaviour source loads between left over) =
      let same = told_source (c.left name) text read holds source in
      course_due (course behaviour) (between rows) (c.rest rows) (c.file rows) c.out ended line bytes trace.last to.fault (behind between left)
      none_rows none_out (course_goes behaviour (subst (λ t. Behaves t behaviour) (sym same) loads.behaves)) over.streams
  text_due c name rows ended line holds behind none_text none_rows none_out (stopped why kept) =
      inl (text_stops each text to.file to.loadable (c.left name) (c.file name) ended line holds none_text why)

-- ---- texts that are rejected

not_both_lengths : (text : List ℕ) → longest_text < length text → length text ≤ longest_text → ⊥
not_both_lengths text long short = within_limit text short long

-- the file of a text that is loaded is well formed, and so is each one that the text spells
loaded_formed : EachBehaves → (text : List ℕ) (behaviour : Behaviour) → Behaves text behaviour → (file : CFile) → SpellsC file text →
    WellFormed (parts_of file) × (behaviour ≡ behaviour_of (parts_of file))
loaded_formed each text behaviour is file spells = (each file text behaviour spells).0 is

-- a text that is rejected isn't loaded
pub never_loaded : EachBehaves → (text : List ℕ) (due : Status) (behaviour : Behaviour) → IsRejected text due → Loads text behaviour → ⊥
never_loaded each text _ behaviour (is_long long) loads = not_both_lengths text long loads.has.short
never_loaded each text _ behaviour (spells_none short none) loads = none loads.has.spelled loads.has.spells
never_loaded each text _ behaviour (is_ill_formed file short spells ill) loads = ill (loaded_formed each text behaviour loads.behaves file spells).0
never_loaded each text _ behaviour (needs_many_cells file short spells well large) loads =
    not_large (cells_needed (parts_of file)) large
    (subst (λ (b : Behaviour). b.needed ≤ 1000000) (loaded_formed each text behaviour loads.behaves file spells).1 loads.small)

-- the file of a text that needs too many cells is well formed
behaves_as : (text : List ℕ) (file : CFile) → SpellsC file text → WellFormed (parts_of file) → Behaves text (behaviour_of (parts_of file))
behaves_as text file spells well = record { file = file; spells = spells; well_formed = well; is = refl }

-- a place of a fault shows that a file isn't well formed
module _ (each : EachBehaves) (text : List ℕ) (file : CFile) (spells : SpellsC file text) where
  ill_other : (other : Parts) (at : Place) → HasFile text other → first_fault other ≡ Some at → WellFormed (parts_of file) → ⊥
  ill_other other at has first well =
      faultless other at (file_formed each text (behaviour_of (parts_of file)) (behaves_as text file spells well) other has) first

  formed_too : (other : Parts) → HasFile text other → WellFormed other → WellFormed (parts_of file)
  formed_too other has well =
      let is = subst WellFormed has.parts well in
      (loaded_formed each text (behaviour_of (parts_of has.spelled)) (behaves_as text has.spelled has.spells is) file spells).0

-- a text that is to be rejected is rejected with this status
pub rejects_due : EachBehaves → (text : List ℕ) (due ended : Status) (line : List ℕ) → IsRejected text due → Rejects text ended line →
    IsDone ended due
rejects_due each text _ _ _ (is_long long) (too_long longer) = inr refl
rejects_due each text _ _ _ (is_long long) (no_file at short shows) = absurd (not_both_lengths text long short)
rejects_due each text _ _ _ (is_long long) (ill_formed other at has first) = absurd (not_both_lengths text long has.short)
rejects_due each text _ _ _ (is_long long) (too_many_cells other cells has large) = inr refl
rejects_due each text _ _ _ (is_long long) no_memory = inl refl
rejects_due each text _ _ _ (spells_none short none) (too_long long) = absurd (within_limit text short long)
rejects_due each text _ _ _ (spells_none short none) (no_file at fits shows) = inr refl
rejects_due each text _ _ _ (spells_none short none) (ill_formed other at has first) = inr refl
rejects_due each text _ _ _ (spells_none short none) (too_many_cells other cells has large) = absurd (none has.spelled has.spells)
rejects_due each text _ _ _ (spells_none short none) no_memory = inl refl
rejects_due each text _ _ _ (is_ill_formed file short spells ill) (too_long long) = absurd (within_limit text short long)
rejects_due each text _ _ _ (is_ill_formed file short spells ill) (no_file at fits shows) = inr refl
rejects_due each text _ _ _ (is_ill_formed file short spells ill) (ill_formed other at has first) = inr refl
rejects_due each text _ _ _ (is_ill_formed file short spells ill) (too_many_cells other cells has large) =
    absurd (ill (formed_too each text file spells other has large.formed))
rejects_due each text _ _ _ (is_ill_formed file short spells ill) no_memory = inl refl
rejects_due each text _ _ _ (needs_many_cells file short spells well many) (too_long long) = inr refl
rejects_due each text _ _ _ (needs_many_cells file short spells well many) (no_file at fits shows) = absurd (shows.none file spells)
rejects_due each text _ _ _ (needs_many_cells file short spells well many) (ill_formed other at has first) =
    absurd (ill_other each text file spells other at has first well)
rejects_due each text _ _ _ (needs_many_cells file short spells well many) (too_many_cells other cells has large) = inr refl
rejects_due each text _ _ _ (needs_many_cells file short spells well many) no_memory = inl refl

pub text_stops_due : EachBehaves → (text : List ℕ) (due : Status) (left : Option (List ℕ)) (count : Count) (ended : Status) (line : List ℕ) →
    left ≡ Some text → ¬ HasRisen count → IsRejected text due → TextStops left count ended line → IsDone ended due
text_stops_due each text due left count ended line holds none rejected_so (rejected bytes source why) =
    rejects_due each text due ended line rejected_so (subst (λ b. Rejects b ended line) (sym (told_source left text bytes holds source)) why)
text_stops_due each text due left count _ _ holds none rejected_so (unread risen) = absurd (none risen)
text_stops_due each text due left count _ _ holds none rejected_so want = inl refl
