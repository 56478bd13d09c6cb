-- How jobs on C texts end.
use Rattle.std.proofs.Common.{◌≡◌, ◌≢◌, ◌∙◌, ℕ, ◌≤◌, ◌++◌, List, take, length, refl, sym, ap, subst, inl, inr, arith}
use Rattle.std.proofs.lemmas.Bool.{cases_lt}
use Rattle.std.specs.Prelude.{Option}
use Rattle.bl_bound.specs.Text.{bound_text}
use Rattle.bl_bound_laws.specs.Bounded.{IsBounded}
use Rattle.bl_ctext_semantics.specs.Parts.{Parts, parts_of}
use Rattle.bl_ctext_semantics_laws_places.specs.Behaviour.{Behaviour, behaviour_of}
use Rattle.bl_ctext_semantics_laws_places.specs.Bytes.{Behaves}
use Rattle.bl_top_commands.specs.Calls.{Call, Count, HasRisen, Output}
use Rattle.bl_top_commands.specs.Bound.{BoundEnds, TellsBounds, costs_told, stopped as bound_stopped}
use Rattle.bl_top_commands.specs.Exec.{HasFile, Loads, Rejects, TextEnds, TextStops, ill_formed, no_file, ran, rejected, no_memory, stopped, too_long}
use Rattle.bl_top_commands.specs.Exec.{too_many_cells, unread, want}
use Rattle.bl_top_commands.specs.inner.Outcomes.{IsEndAtLoad, IsEndAtText, IsTold, chosen_line, line_in}
use Rattle.bl_top_commands.specs.inner.Texts.{HasBounds, HasLoaded, IsFileIn, IsFileOf}
use Rattle.bl_top_commands.specs.Notes.{line_of, not_subset_line, too_large_line}
use Rattle.bl_top_commands.specs.Reads.{LeftBehind, longest_text, text_limit}
use Rattle.bl_top_commands.specs.Results.{WritesResult}
use Rattle.bl_top_commands.specs.Rows.{IsInStep, Streams}
use Rattle.bl_top_commands.specs.declared.outcome.Outcome.{Outcome}
use Rattle.bl_top_commands.specs.declared.status.Status.{Status}
use Rattle.bl_top_commands.specs.declared.status.Status.TheVariants as status
use Rattle.bl_cparse.specs.HasPlaces.{HasPlaces}
use Rattle.bl_cparse.specs.Places.{LeavesPrelude, RefusesAt, RefusesNone, SpellsNone}
use Rattle.bl_cparse.specs.declared.refusal.CRefusal.{CRefusal}
use Rattle.bl_cparse.specs.declared.refusal.CRefusal.TheVariants as refusal
use Rattle.bl_crun.specs.Cause.{IsCause, IsRunnable}
use Rattle.bl_crun.specs.declared.fault.LoadFault.{LoadFault}
use Rattle.bl_crun.specs.declared.fault.LoadFault.TheVariants as load
use Rattle.bl_ctext.specs.Prelude.{prelude}
use Rattle.bl_ctext.specs.SpellsC.{SpellsC}
use Rattle.bl_ctext.specs.declared.file.CFile.{CFile}
use Rattle.bl_io.specs.Left.{GivesUpTo, IsKept}
use Rattle.bl_rows_stream.specs.Streams.{Course}
use Rattle.bl_top_args.specs.Jobs.{Word}
use Rattle.bl_top_commands.proofs.Cuts.{front_within, sourced, whole_of_short}
use Rattle.bl_top_commands.proofs.Ends.{writes_as}
use Rattle.bl_top_commands.proofs.Streams.{streams_from}

-- however bytes that spell a file behave, no tick executes more statements than the bound
abbrev pub EachBounded : CFile → Type 0
EachBounded file = (bytes : List ℕ) (behaviour : Behaviour) → SpellsC file bytes → Behaves bytes behaviour → IsBounded behaviour

-- ---- a text that isn't run

-- the outcome of a text that is rejected, unless memory was refused for its line
told_as : (text : List ℕ) (ended : Status) (line : List ℕ) (outcome : Outcome) → ((own : List ℕ) → chosen_line ended own ≡ own) →
    IsTold ended line outcome → Rejects text ended line →
    Rejects text outcome.status (line_in outcome)
told_as text ended line outcome own is because = elim is [
  | inl told ↦
      let same : line_in outcome ≡ line = ap (λ s. chosen_line s outcome.line.items) told.0 ∙ (own outcome.line.items ∙ told.1) in
      subst (λ l. Rejects text outcome.status l) (sym same) (subst (λ s. Rejects text s line) (sym told.0) because)
  | inr none ↦ rw none no_memory
]

pub within : (size : ℕ) → size ≤ text_limit → (size ≡ text_limit → ⊥) → size ≤ longest_text
within size most other = elim (cases_lt longest_text size) [ inl beyond ↦ absurd (other (omega (arith, most, beyond))) | inr fits ↦ fits ]

pub long_rejected : (text : List ℕ) (outcome : Outcome) → length text ≡ text_limit →
    IsTold status.TooLarge (too_large_line text_limit) outcome → Rejects text outcome.status (line_in outcome)
long_rejected text outcome long is = told_as text status.TooLarge (too_large_line text_limit) outcome (λ own. refl) is (too_long (omega (arith, long)))

pub text_rejected : (text : List ℕ) (why : CRefusal) (outcome : Outcome) → length text ≤ longest_text → RefusesNone text why →
    (((rest : List ℕ) → text ≢ prelude ++ rest) → LeavesPrelude text why) →
    ((rest : List ℕ) → text ≡ prelude ++ rest → SpellsNone text → RefusesAt text why) →
    IsEndAtText why outcome → Rejects text outcome.status (line_in outcome)
text_rejected text (refusal.NotSubset at) outcome fits none inside behind is =
    told_as text status.NotSubset (not_subset_line at) outcome (λ own. refl) is
    (no_file at fits (record { none = none; inside = inside; behind = λ rest e. behind rest e none }))
text_rejected text refusal.NoMemory outcome fits none inside behind is = rw is no_memory

abbrev has_file : (text : List ℕ) (file : CFile) → length text ≤ longest_text → SpellsC file text → HasPlaces text file →
    HasFile text (parts_of file)
has_file text file fits spells placed = record { short = fits; spelled = file; spells = spells; placed = placed; parts = refl }

abbrev file_loads : (text : List ℕ) (file : CFile) → IsFileIn text file → EachBounded file → IsRunnable (parts_of file) →
    Loads text (behaviour_of (parts_of file))
file_loads text file is bounded runs =
    let behaves : Behaves text (behaviour_of (parts_of file)) = record { file = file; spells = is.spells; well_formed = runs.formed; is = refl } in
    record {
      file = parts_of file;
      has = has_file text file is.short is.spells is.placed;
      is = refl;
      behaves = behaves;
      small = runs.small;
      bounded = bounded text (behaviour_of (parts_of file)) is.spells behaves;
    }

-- ---- fronts of a text

short_whole : (whole got : List ℕ) → got ≡ take text_limit whole → length got ≤ longest_text → whole ≡ got
short_whole whole got front fits = whole_of_short text_limit whole got front (omega (arith, fits))

whole_rejects : (whole got : List ℕ) → got ≡ take text_limit whole → (ended : Status) (line : List ℕ) → Rejects got ended line →
    Rejects whole ended line
whole_rejects whole got front _ _ (too_long long) = too_long (omega (arith, long, front_within text_limit whole got front))
whole_rejects whole got front _ _ (no_file at fits shows) = rw (short_whole whole got front fits) (no_file at fits shows)
whole_rejects whole got front _ _ (ill_formed file at has is) = rw (short_whole whole got front has.short) (ill_formed file at has is)
whole_rejects whole got front _ _ (too_many_cells file cells has is) = rw (short_whole whole got front has.short) (too_many_cells file cells has is)
whole_rejects whole got front _ _ no_memory = no_memory

whole_file : (whole got : List ℕ) (file : CFile) → got ≡ take text_limit whole → IsFileIn got file → IsFileIn whole file
whole_file whole got file front is = subst (λ t. IsFileIn t file) (sym (short_whole whole got front is.short)) is

-- ---- a job at its text

pub file_of_source : (left : Option (List ℕ)) (got : List ℕ) (after : Option (List ℕ)) (file : CFile) → GivesUpTo text_limit left got after →
    IsFileIn got file → IsFileOf left file
file_of_source left got after file read is =
    let some = sourced text_limit (λ t. IsFileIn t file) left got after read is (λ whole front. whole_file whole got file front is) in
    record { text = some.0; of_source = some.1.0; is = some.1.1 }

pub stops_rejected : (left : Option (List ℕ)) (count : Count) (got : List ℕ) (after : Option (List ℕ)) (ended : Status) (line : List ℕ) →
    GivesUpTo text_limit left got after → Rejects got ended line → TextStops left count ended line
stops_rejected left count got after ended line read because =
    let some = sourced text_limit (λ t. Rejects t ended line) left got after read because
    (λ whole front. whole_rejects whole got front ended line because) in
    rejected some.0 some.1.0 some.1.1

pub stops_unread : (left : Option (List ℕ)) (count : Count) (ended : Status) (own : List ℕ) → ended ≡ status.ReadFault → HasRisen count →
    TextStops left count ended (chosen_line ended own)
stops_unread left count ended own e risen = rw e (unread risen)

pub stops_wanting : (left : Option (List ℕ)) (count : Count) (ended : Status) (own : List ℕ) → ended ≡ status.NoMemory →
    TextStops left count ended (chosen_line ended own)
stops_wanting left count ended own e = rw e want

load_rejects : (text : List ℕ) (file : CFile) (why : LoadFault) (outcome : Outcome) → IsFileIn text file → IsCause (parts_of file) why →
    IsEndAtLoad why outcome → Rejects text outcome.status (line_in outcome)
load_rejects text file (load.IllFormed at) outcome is cause told =
    told_as text status.NotSubset (not_subset_line at.start) outcome (λ own. refl) told
    (ill_formed (parts_of file) at (has_file text file is.short is.spells is.placed) cause)
load_rejects text file (load.TooLarge cells) outcome is cause told =
    told_as text status.TooLarge (too_large_line cells) outcome (λ own. refl) told
    (too_many_cells (parts_of file) cells (has_file text file is.short is.spells is.placed) cause)
load_rejects text file load.NoMemory outcome is cause told = rw told no_memory

pub stops_at_load : (left : Option (List ℕ)) (count : Count) (file : CFile) (why : LoadFault) (outcome : Outcome) → IsFileOf left file →
    IsCause (parts_of file) why → IsEndAtLoad why outcome → TextStops left count outcome.status (line_in outcome)
stops_at_load left count file why outcome of cause told = rejected of.text of.of_source (load_rejects of.text file why outcome of.is cause told)

pub has_loaded : (left : Option (List ℕ)) (file : CFile) (ready : Parts) → IsFileOf left file → EachBounded file → IsRunnable (parts_of file) →
    ready ≡ parts_of file → HasLoaded left ready
has_loaded left file ready of bounded runs same = subst (HasLoaded left) (sym same) (record {
  text = of.text;
  of_source = of.of_source;
  loads = file_loads of.text file of.is bounded runs;
  is = refl;
})

pub has_bounds : (left : Option (List ℕ)) (file : CFile) (written : List ℕ) → IsFileOf left file → EachBounded file → IsRunnable (parts_of file) →
    written ≡ bound_text file.funcs → HasBounds left written
has_bounds left file written of bounded runs told = record {
  text = of.text;
  of_source = of.of_source;
  tells = record { behaviour = behaviour_of (parts_of file); loads = file_loads of.text file of.is bounded runs; told = told };
}

-- ---- the commands

pub text_ran : (c : Call) (text rows : Word) (course : Behaviour → Course) (parts : Parts) (between : Word → Option (List ℕ)) (second : ℕ)
    (ended : Status) (line : List ℕ) → HasLoaded (c.left text) parts → LeftBehind text_limit text c.left between → (c.file rows).before ≤ second →
    Streams (course (behaviour_of parts)) (between rows) (c.rest rows) (record { before = second; after = (c.file rows).after }) c.out ended line →
    IsInStep (course (behaviour_of parts)) (between rows) (c.rest rows) c.out → TextEnds c text rows course ended line
text_ran c text rows course parts between second ended line has behind below streams in_step =
    ran has.text (behaviour_of parts) has.of_source has.loads between behind
    (record {
      streams = streams_from (course (behaviour_of parts)) (between rows) (c.rest rows) (c.file rows).before second (c.file rows).after c.out ended line
          below streams;
      in_step = in_step;
    })

pub text_stopped : (c : Call) (text rows : Word) (course : Behaviour → Course) (ended : Status) (line : List ℕ) →
    TextStops (c.left text) (c.file text) ended line → IsKept c.out.before c.out.after → TextEnds c text rows course ended line
text_stopped c text rows course ended line stops kept = stopped stops kept

bounds_written : (text : List ℕ) (out : Output) (ended : Status) (written : List ℕ) → TellsBounds text written →
    WritesResult (λ w. w ≡ written) out ended →
    WritesResult (TellsBounds text) out ended
bounds_written text out ended written tells writes =
    writes_as (λ w. w ≡ written) (TellsBounds text) out ended (λ w same. subst (TellsBounds text) (sym same) tells) writes

pub bound_told : (c : Call) (text : Word) (written : List ℕ) (ended : Status) (line : List ℕ) → HasBounds (c.left text) written →
    WritesResult (λ w. w ≡ written) c.out ended → line ≡ line_of ended → BoundEnds c text ended line
bound_told c text written ended line has writes same =
    rw same (costs_told has.text has.of_source (bounds_written has.text c.out ended written has.tells writes))

pub bound_stops : (c : Call) (text : Word) (ended : Status) (line : List ℕ) → TextStops (c.left text) (c.file text) ended line →
    IsKept c.out.before c.out.after → BoundEnds c text ended line
bound_stops c text ended line stops kept = bound_stopped stops kept
