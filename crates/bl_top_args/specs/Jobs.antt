-- The job that the words of a command line ask for.
use Rattle.std.specs.Prelude.{◌==◌, ◌≤◌, ℕ, ◌^◌, nat_lt, Bool, false, not, ◌&&◌, List, [], ◌∷◌}
use Rattle.std.specs.Prelude.{length, Option, Some, None, option_map, option_and_then}
use Rattle.std.specs.Prelude.{if◌then◌else◌, codes, map, string_bytes}
use Rattle.std.specs.List.{list_all}
use Rattle.std.specs.Str.{all_ascii_digits, bytes_eq}
use Rattle.std.specs.Str.Parse.{digits_value}
use Rattle.bl_top_args.specs.declared.job.Job.{Job}
use Rattle.bl_top_args.specs.declared.job.Job.TheVariants as job

-- a word, as its bytes
abbrev pub Word : Type 0
Word = List ℕ

-- what the program is to do
pub data JobSpec : Type 0 where
  -- judge the source file of this name
  check : Word → JobSpec
  -- write the C text of the source file of this name
  build : Word → JobSpec
  -- run the source file of the first name over the file of rows of the second
  run : Word → Word → JobSpec
  -- run the source file of the first name over the file of rows of the second, in the interleaving that the seed picks
  walk : Word → Word → ℕ → JobSpec
  -- run the C text of the first name over the file of rows of the second
  exec : Word → Word → JobSpec
  -- run the source file of this name against the plants of these names, for so many ticks
  drive : Word → ℕ → List ℕ → JobSpec
  -- make the program of so many stages, run it, and tell its outputs
  gen : ℕ → JobSpec
  -- say how many C statements each function of the C text of this name can execute
  bound : Word → JobSpec
  -- say how many C statements each tick of the C text of the first name executes over the file of rows of the second
  count : Word → Word → JobSpec
  -- run the C text of the first name over the file of rows of the second, and write the state after them
  save : Word → Word → JobSpec
  -- run a C text from a saved state over a file of rows, and write the state after them: names of text, state, rows
  save_from : Word → Word → Word → JobSpec
  -- run a C text from a saved state over a file of rows: names of text, state, rows
  resume : Word → Word → Word → JobSpec
  -- write the interface of the source file of the first name, judged behind the interface files of the other names
  face : Word → List Word → JobSpec
  -- write the C text of the program whose source files have these names, in order
  link : List Word → JobSpec

-- the files that the job reads, in the order of its words
abbrev pub files_of : JobSpec → List Word
files_of (check source) = source ∷ []
files_of (build source) = source ∷ []
files_of (run source rows) = source ∷ rows ∷ []
files_of (walk source rows seed) = source ∷ rows ∷ []
files_of (exec text rows) = text ∷ rows ∷ []
files_of (drive source ticks plants) = source ∷ []
files_of (gen stages) = []
files_of (bound text) = text ∷ []
files_of (count text rows) = text ∷ rows ∷ []
files_of (save text rows) = text ∷ rows ∷ []
files_of (save_from text state rows) = text ∷ state ∷ rows ∷ []
files_of (resume text state rows) = text ∷ state ∷ rows ∷ []
files_of (face source faces) = source ∷ faces
files_of (link sources) = sources

-- the word is not empty and does not begin with a hyphen (45)
abbrev pub is_plain_word : Word → Bool
is_plain_word [] = false
is_plain_word (byte ∷ rest) = not (byte == 45)

-- a job that one word asks for, and no other number of words
abbrev pub of_one : (Word → JobSpec) → List Word → Option JobSpec
of_one job (first ∷ []) = Some (job first)
of_one job _ = None

-- a job that one word may ask for, and no other number of words
abbrev pub of_one_if : (Word → Option JobSpec) → List Word → Option JobSpec
of_one_if job (first ∷ []) = job first
of_one_if job _ = None

-- a job that two words ask for, and no other number of words
abbrev pub of_two : (Word → Word → JobSpec) → List Word → Option JobSpec
of_two job (first ∷ second ∷ []) = Some (job first second)
of_two job _ = None

-- a job that three words may ask for, and no other number of words
abbrev pub of_three : (Word → Word → Word → Option JobSpec) → List Word → Option JobSpec
of_three job (first ∷ second ∷ third ∷ []) = job first second third
of_three job _ = None

-- a job that two words ask for, another that three words ask for, and no other number of words
abbrev pub of_two_or_three : (Word → Word → JobSpec) → (Word → Word → Word → JobSpec) → List Word → Option JobSpec
of_two_or_three job further (first ∷ second ∷ []) = Some (job first second)
of_two_or_three job further (first ∷ second ∷ third ∷ []) = Some (further first second third)
of_two_or_three job further _ = None

-- the number below 2 to the 64 that decimal digits write, of which there is one or more
abbrev pub seed_of : Word → Option ℕ
seed_of word =
    if all_ascii_digits word && (nat_lt 0 (length word) && nat_lt (digits_value 10 word) (2 ^ 64)) then Some (digits_value 10 word) else None

-- a number of stages, which is from 1 to 2 to the 32 less 1
abbrev pub stages_in : ℕ → Option ℕ
stages_in number = if nat_lt 0 number && nat_lt number (2 ^ 32) then Some number else None

-- the number of stages that decimal digits write, of which there is one or more
abbrev pub stages_of : Word → Option ℕ
stages_of word = option_and_then stages_in (seed_of word)

-- a program to be made, where the word is a number of stages
abbrev pub staged : Word → Option JobSpec
staged word = option_map gen (stages_of word)

-- a walk, where the third word is a seed
abbrev pub seeded : Word → Word → Word → Option JobSpec
seeded source rows word = option_map (walk source rows) (seed_of word)

-- a run from a state, whatever the three words are
abbrev pub resumed : Word → Word → Word → Option JobSpec
resumed text state rows = Some (resume text state rows)

-- a number of ticks is at most 1,000,000
abbrev pub ticks_in : ℕ → Option ℕ
ticks_in number = if nat_lt number 1000001 then Some number else None

-- the number of ticks that decimal digits write, of which there is one or more
abbrev pub ticks_of : Word → Option ℕ
ticks_of word = option_and_then ticks_in (seed_of word)

-- the number of a plant is below 2 to the 32
abbrev pub plant_in : ℕ → Option ℕ
plant_in number = if nat_lt number (2 ^ 32) then Some number else None

-- the plant that a word names: `tank` is plant 1, `ramp` is plant 2, and decimal digits write any number
abbrev pub plant_of : Word → Option ℕ
plant_of word = if bytes_eq (codes "tank") word then Some 1
    else (if bytes_eq (codes "ramp") word then Some 2 else option_and_then plant_in (seed_of word))

-- the numbers of the plants that words name, where each names one
abbrev pub plants_of : List Word → Option (List ℕ)
plants_of [] = Some []
plants_of (word ∷ words) = option_and_then (λ plant. option_map (λ plants. plant ∷ plants) (plants_of words)) (plant_of word)

-- the job of `drive`: a source, a number of ticks, and the names of one or more plants
abbrev pub driven : List Word → Option JobSpec
driven (source ∷ ticks ∷ first ∷ more) = option_and_then (λ count. option_map (drive source count) (plants_of (first ∷ more))) (ticks_of ticks)
driven _ = None

-- the job of `face`: a source, and any number of interface files
abbrev pub faced : List Word → Option JobSpec
faced (source ∷ faces) = Some (face source faces)
faced [] = None

-- the job of `link`: from 2 to 64 source files
abbrev pub linked : List Word → Option JobSpec
linked sources = if nat_lt 1 (length sources) && nat_lt (length sources) 65 then Some (link sources) else None

-- the job of the command with this name, on the words after the name, where it is a command whose number of words is limited
abbrev pub other_job : Word → List Word → Option JobSpec
other_job name values = if bytes_eq (codes "check") name then of_one check values
    else (if bytes_eq (codes "build") name then of_one build values
    else (if bytes_eq (codes "run") name then of_two run values
    else (if bytes_eq (codes "walk") name then of_three seeded values
    else (if bytes_eq (codes "exec") name then of_two exec values
    else (if bytes_eq (codes "gen") name then of_one_if staged values
    else (if bytes_eq (codes "bound") name then of_one bound values
    else (if bytes_eq (codes "count") name then of_two count values
    else (if bytes_eq (codes "save") name then of_two_or_three save save_from values
    else (if bytes_eq (codes "resume") name then of_three resumed values else None)))))))))

-- the job of the command with this name, on the words after the name
abbrev pub command_job : Word → List Word → Option JobSpec
command_job name values = if bytes_eq (codes "drive") name then driven values
    else (if bytes_eq (codes "face") name then faced values
    else (if bytes_eq (codes "link") name then linked values else other_job name values))

-- the job of a list of words: the first names the command, and no word is empty or begins with a hyphen
abbrev pub job_of : List Word → Option JobSpec
job_of [] = None
job_of (name ∷ values) =
    if list_all is_plain_word (name ∷ values) then command_job name values else None

-- a program that the job makes has at least one stage, and the job links from 2 to 64 files
abbrev pub IsCounted : JobSpec → Type 0
IsCounted (gen stages) = 1 ≤ stages
IsCounted (link sources) = (2 ≤ length sources) × (length sources ≤ 64)
IsCounted _ = Unit {0}

-- the job that a value of the program stands for
abbrev pub spec_of : Job → JobSpec
spec_of (job.Check source) = check source.now
spec_of (job.Build source) = build source.now
spec_of (job.Run source rows) = run source.now rows.now
spec_of (job.Walk source rows seed) = walk source.now rows.now seed
spec_of (job.Exec text rows) = exec text.now rows.now
spec_of (job.Drive source ticks plants) = drive source.now ticks plants.items
spec_of (job.Gen stages) = gen stages
spec_of (job.Bound text) = bound text.now
spec_of (job.Count text rows) = count text.now rows.now
spec_of (job.Save text rows) = save text.now rows.now
spec_of (job.SaveFrom text state rows) = save_from text.now state.now rows.now
spec_of (job.Resume text state rows) = resume text.now state.now rows.now
spec_of (job.Face source faces) = face source.now (map string_bytes faces.now)
spec_of (job.Link sources) = link (map string_bytes sources.now)
