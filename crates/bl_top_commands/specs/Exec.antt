-- What is known of a C text, and how `exec` ends.
use Rattle.std.specs.Prelude.{◌≡◌, ◌≢◌, ℕ, ◌<◌, ◌≤◌, List, ◌++◌, length, Option, Some}
use Rattle.bl_bound_laws.specs.Bounded.{IsBounded}
use Rattle.bl_ctext_semantics.specs.Faults.{first_fault}
use Rattle.bl_ctext_semantics.specs.Parts.{Parts, parts_of}
use Rattle.bl_ctext_semantics_laws_places.specs.Behaviour.{Behaviour, behaviour_of}
use Rattle.bl_ctext_semantics_laws_places.specs.Bytes.{Behaves}
use Rattle.bl_top_commands.specs.Calls.{Call, Count, HasRisen}
use Rattle.bl_top_commands.specs.Notes.{line_of, not_subset_line, too_large_line}
use Rattle.bl_top_commands.specs.Reads.{LeftBehind, longest_text, text_limit}
use Rattle.bl_top_commands.specs.Rows.{RunsOver}
use Rattle.bl_top_commands.specs.Sources.{IsSource}
use Rattle.bl_top_commands.specs.Traces.{course_by}
use Rattle.bl_top_commands.specs.declared.status.Status.{Status}
use Rattle.bl_top_commands.specs.declared.status.Status.TheVariants as status
use Rattle.bl_cparse.specs.HasPlaces.{HasPlaces}
use Rattle.bl_cparse.specs.Places.{LeavesPreludeAt, SpellsNone}
use Rattle.bl_crun.specs.Cause.{IsTooLarge}
use Rattle.bl_cparse_syntax.specs.Rules.{FailsFirst}
use Rattle.bl_ctext.specs.declared.file.CFile.{CFile}
use Rattle.bl_ctext.specs.Prelude.{prelude}
use Rattle.bl_ctext.specs.SpellsC.{SpellsC}
use Rattle.bl_io.specs.Left.{IsKept}
use Rattle.bl_rows_stream.specs.Streams.{Course}
use Rattle.bl_tree.specs.declared.place.Place.{Place}
use Rattle.bl_top_args.specs.Jobs.{Word}

-- the offset at which a text leaves the grammar of C files
pub record ShowsAt (text : List ℕ) (at : ℕ) : Type 0 where
  pub none : SpellsNone text
  -- inside the prelude, where it doesn't begin with that
  pub inside : ((rest : List ℕ) → text ≢ prelude ++ rest) → LeavesPreludeAt text at
  -- behind the prelude, where the text begins with it: at the first byte with which the rest begins no text
  pub behind : (rest : List ℕ) → text ≡ prelude ++ rest → FailsFirst text (length prelude) at

-- a text that isn't too long spells a file with these parts, each at its place in the text
pub record HasFile (text : List ℕ) (file : Parts) : Type 0 where
  pub short : length text ≤ longest_text
  pub spelled : CFile
  pub spells : SpellsC spelled text
  pub placed : HasPlaces text spelled
  pub parts : file ≡ parts_of spelled

-- a text that has a file behaves as it does, and needs no more cells than can be loaded. No tick of it executes more statements than its bound
pub record Loads (text : List ℕ) (behaviour : Behaviour) : Type 0 where
  pub file : Parts
  pub has : HasFile text file
  pub is : behaviour ≡ behaviour_of file
  pub behaves : Behaves text behaviour
  pub small : behaviour.needed ≤ 1000000
  pub bounded : IsBounded behaviour

-- why a text isn't run, with the status and the line
pub data Rejects (text : List ℕ) : Status → List ℕ → Type 0 where
  too_long : longest_text < length text → Rejects text status.TooLarge (too_large_line text_limit)
  no_file : (at : ℕ) → length text ≤ longest_text → ShowsAt text at → Rejects text status.NotSubset (not_subset_line at)
  ill_formed : (file : Parts) (at : Place) → HasFile text file → first_fault file ≡ Some at → Rejects text status.NotSubset (not_subset_line at.start)
  too_many_cells : (file : Parts) (cells : ℕ) → HasFile text file → IsTooLarge file cells → Rejects text status.TooLarge (too_large_line cells)
  no_memory : Rejects text status.NoMemory (line_of status.NoMemory)

-- why a job stops at its C text, with the status and the line
pub data TextStops (left : Option (List ℕ)) (file : Count) : Status → List ℕ → Type 0 where
  rejected : {ended : Status} {line : List ℕ} (bytes : List ℕ) → IsSource left bytes → Rejects bytes ended line → TextStops left file ended line
  unread : HasRisen file → TextStops left file status.ReadFault (line_of status.ReadFault)
  want : TextStops left file status.NoMemory (line_of status.NoMemory)

-- the status and the lines for `notes` of running a C text over a file of rows, where `course` says what is shown
pub data TextEnds (c : Call) (text rows : Word) (course : Behaviour → Course) : Status → List ℕ → Type 0 where
  -- over the rows that are left once the text was read
  ran : {ended : Status} {line : List ℕ} (bytes : List ℕ) (behaviour : Behaviour) → IsSource (c.left text) bytes → Loads bytes behaviour →
      (between : Word → Option (List ℕ)) → LeftBehind text_limit text c.left between →
      RunsOver (course behaviour) (between rows) (c.rest rows) (c.file rows) c.out ended line → TextEnds c text rows course ended line
  stopped : {ended : Status} {line : List ℕ} → TextStops (c.left text) (c.file text) ended line → IsKept c.out.before c.out.after →
      TextEnds c text rows course ended line

-- `exec` shows the trace
abbrev pub ExecEnds : Call → Word → Word → Status → List ℕ → Type 0
ExecEnds c text rows = TextEnds c text rows course_by
