-- How the job that words ask for ends, and so a call.
use Rattle.std.specs.Prelude.{◌≡◌, ℕ, List, [], ◌∷◌, Option, Some, None}
use Rattle.bl_top_commands.specs.Bound.{BoundEnds}
use Rattle.bl_top_commands.specs.Calls.{Call}
use Rattle.bl_top_commands.specs.Check.{CheckEnds}
use Rattle.bl_top_commands.specs.Count.{CountEnds}
use Rattle.bl_top_commands.specs.Exec.{ExecEnds}
use Rattle.bl_top_commands.specs.Face.{FaceEnds}
use Rattle.bl_top_commands.specs.Gen.{GenEnds}
use Rattle.bl_top_commands.specs.Notes.{WritesLines, line_of}
use Rattle.bl_top_commands.specs.Save.{ResumeEnds, SaveEnds, SaveFromEnds}
use Rattle.bl_top_commands.specs.declared.status.Status.{Status}
use Rattle.bl_top_commands.specs.declared.status.Status.TheVariants as status
use Rattle.bl_top_commands.specs.Walk.{WalkEnds}
use Rattle.bl_io.specs.Left.{IsKept}
use Rattle.bl_plant.specs.Plants.{IsSame, PlantView}
use Rattle.bl_top.specs.Build.{BuildEnds}
use Rattle.bl_top.specs.Drive.{DriveEnds, Plants}
use Rattle.bl_top.specs.Link.{LinkEnds}
use Rattle.bl_top.specs.Run.{RunEnds}
use Rattle.bl_top_args.specs.Jobs.{JobSpec, Word, bound, build, check, count, drive, exec, face, gen, job_of, link, resume, run, save, save_from, walk}

-- the status with which a job ends, with its cause, what grew on `out`, and its lines for `notes`, the status line last
pub data Answers (c : Call) (plants : Plants) : Option JobSpec → Status → List ℕ → Type 0 where
  checks : {source : Word} {ended : Status} {lines : List ℕ} → CheckEnds c source ended lines → Answers c plants (Some (check source)) ended lines
  builds : {source : Word} {ended : Status} {lines : List ℕ} → BuildEnds c source ended lines → Answers c plants (Some (build source)) ended lines
  runs : {source rows : Word} {ended : Status} {lines : List ℕ} → RunEnds c source rows ended lines →
      Answers c plants (Some (run source rows)) ended lines
  walks : {source rows : Word} {seed : ℕ} {ended : Status} {lines : List ℕ} → WalkEnds c source rows seed ended lines →
      Answers c plants (Some (walk source rows seed)) ended lines
  execs : {text rows : Word} {ended : Status} {lines : List ℕ} → ExecEnds c text rows ended lines → Answers c plants (Some (exec text rows)) ended lines
  drives : {source : Word} {ticks : ℕ} {names : List ℕ} {ended : Status} {lines : List ℕ} → DriveEnds c plants source ticks names ended lines →
      Answers c plants (Some (drive source ticks names)) ended lines
  gens : {stages : ℕ} {ended : Status} {lines : List ℕ} → GenEnds c stages ended lines → Answers c plants (Some (gen stages)) ended lines
  bounds : {text : Word} {ended : Status} {lines : List ℕ} → BoundEnds c text ended lines → Answers c plants (Some (bound text)) ended lines
  counts : {text rows : Word} {ended : Status} {lines : List ℕ} → CountEnds c text rows ended lines →
      Answers c plants (Some (count text rows)) ended lines
  saves : {text rows : Word} {ended : Status} {lines : List ℕ} → SaveEnds c text rows ended lines → Answers c plants (Some (save text rows)) ended lines
  saves_from : {text state rows : Word} {ended : Status} {lines : List ℕ} → SaveFromEnds c text state rows ended lines →
      Answers c plants (Some (save_from text state rows)) ended lines
  resumes : {text state rows : Word} {ended : Status} {lines : List ℕ} → ResumeEnds c text state rows ended lines →
      Answers c plants (Some (resume text state rows)) ended lines
  faces : {source : Word} {uses : List Word} {ended : Status} {lines : List ℕ} → FaceEnds c source uses ended lines →
      Answers c plants (Some (face source uses)) ended lines
  links : {sources : List Word} {ended : Status} {lines : List ℕ} → LinkEnds c sources ended lines → Answers c plants (Some (link sources)) ended lines
  -- the words ask for no job
  no_job : IsKept c.out.before c.out.after → Answers c plants None status.Usage (line_of status.Usage)
  -- memory was refused before they were read
  short : {job : Option JobSpec} → IsKept c.out.before c.out.after → plants.after ≡ plants.before →
      Answers c plants job status.NoMemory (line_of status.NoMemory)

-- every command but `drive` keeps the plants
abbrev pub KeepsPlants : Option JobSpec → Plants → Type 0
KeepsPlants (Some (drive source ticks names)) plants = Unit {0}
KeepsPlants job plants = plants.after ≡ plants.before

-- the plants that a call leaves are those that it found, in their order and without the dropped ones: no count of faults has fallen
pub data KeepsCounts : List PlantView → List PlantView → Type 0 where
  no_plant : KeepsCounts [] []
  stays : {p q : PlantView} {before after : List PlantView} → IsSame p q → KeepsCounts before after → KeepsCounts (p ∷ before) (q ∷ after)
  dropped : {p : PlantView} {before after : List PlantView} → KeepsCounts before after → KeepsCounts (p ∷ before) after

-- a call of these words ends with the status of their job, whose lines grew on `notes`, or with that of writing the lines
pub record Answered (words : List Word) (c : Call) (plants : Plants) (ended : Status) : Type 0 where
  pub meant : Status
  pub lines : List ℕ
  pub answers : Answers c plants (job_of words) meant lines
  pub written : WritesLines c.notes lines meant ended
