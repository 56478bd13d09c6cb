-- How the job ends that words ask for, and how its lines are written.
use Rattle.std.proofs.Common.{◌≡◌, ℕ, List, refl, subst, inl, inr}
use Rattle.std.specs.Prelude.{◌⊎◌, Option, Some}
use Rattle.bl_top.specs.Answers.{Answers, bounds, builds, checks, counts, drives, execs, faces, gens, links, no_job, resumes, runs, saves, saves_from, short}
use Rattle.bl_top.specs.Answers.{walks}
use Rattle.bl_top.specs.Build.{BuildEnds}
use Rattle.bl_top.specs.Drive.{DriveEnds, Plants}
use Rattle.bl_top.specs.Link.{LinkEnds}
use Rattle.bl_top.specs.Run.{RunEnds}
use Rattle.bl_top_args.specs.Jobs.{JobSpec, bound, build, check, count, drive, exec, face, gen, link, resume, run, save, save_from, walk}
use Rattle.bl_top_commands.specs.Bound.{BoundEnds}
use Rattle.bl_top_commands.specs.Calls.{Call, HasRisen, Output}
use Rattle.bl_top_commands.specs.Check.{CheckEnds}
use Rattle.bl_top_commands.specs.Count.{CountEnds}
use Rattle.bl_top_commands.specs.Exec.{ExecEnds}
use Rattle.bl_top_commands.specs.Face.{FaceEnds}
use Rattle.bl_top_commands.specs.Gen.{GenEnds}
use Rattle.bl_top_commands.specs.Notes.{WritesLines, fault, want, whole}
use Rattle.bl_top_commands.specs.Save.{ResumeEnds, SaveEnds, SaveFromEnds}
use Rattle.bl_top_commands.specs.Walk.{WalkEnds}
use Rattle.bl_top_commands.specs.declared.status.Status.{Status}
use Rattle.bl_top_commands.specs.declared.status.Status.TheVariants as status

-- how each job ends
abbrev pub JobEnds : Call → Plants → JobSpec → Status → List ℕ → Type 0
JobEnds c plants (check source) ended lines = CheckEnds c source ended lines
JobEnds c plants (build source) ended lines = BuildEnds c source ended lines
JobEnds c plants (run source rows) ended lines = RunEnds c source rows ended lines
JobEnds c plants (walk source rows seed) ended lines = WalkEnds c source rows seed ended lines
JobEnds c plants (exec text rows) ended lines = ExecEnds c text rows ended lines
JobEnds c plants (drive source ticks names) ended lines = DriveEnds c plants source ticks names ended lines
JobEnds c plants (gen stages) ended lines = GenEnds c stages ended lines
JobEnds c plants (bound text) ended lines = BoundEnds c text ended lines
JobEnds c plants (count text rows) ended lines = CountEnds c text rows ended lines
JobEnds c plants (save text rows) ended lines = SaveEnds c text rows ended lines
JobEnds c plants (save_from text state rows) ended lines = SaveFromEnds c text state rows ended lines
JobEnds c plants (resume text state rows) ended lines = ResumeEnds c text state rows ended lines
JobEnds c plants (face source names) ended lines = FaceEnds c source names ended lines
JobEnds c plants (link sources) ended lines = LinkEnds c sources ended lines

same_job : (one other : JobSpec) → Some one ≡ Some other → one ≡ other
same_job one other same = cc

module _ (c : Call) (plants : Plants) (job : JobSpec) where
  ends_as : (ended : Status) (lines : List ℕ) (one : JobSpec) → Some one ≡ Some job → JobEnds c plants one ended lines →
      (ended ≡ status.NoMemory) ⊎ JobEnds c plants job ended lines
  ends_as ended lines one is ends = inr (subst (λ j. JobEnds c plants j ended lines) (same_job one job is) ends)

  -- a job that words ask for ends as it does, or for want of memory before it began
  pub job_ended : (asked : Option JobSpec) (ended : Status) (lines : List ℕ) → asked ≡ Some job → Answers c plants asked ended lines →
      (ended ≡ status.NoMemory) ⊎ JobEnds c plants job ended lines
  job_ended _ ended lines is (checks {source} ends) = ends_as ended lines (check source) is ends
  job_ended _ ended lines is (builds {source} ends) = ends_as ended lines (build source) is ends
  job_ended _ ended lines is (runs {source} {rows} ends) = ends_as ended lines (run source rows) is ends
  job_ended _ ended lines is (walks {source} {rows} {seed} ends) = ends_as ended lines (walk source rows seed) is ends
  job_ended _ ended lines is (execs {text} {rows} ends) = ends_as ended lines (exec text rows) is ends
  job_ended _ ended lines is (drives {source} {ticks} {names} ends) = ends_as ended lines (drive source ticks names) is ends
  job_ended _ ended lines is (gens {stages} ends) = ends_as ended lines (gen stages) is ends
  job_ended _ ended lines is (bounds {text} ends) = ends_as ended lines (bound text) is ends
  job_ended _ ended lines is (counts {text} {rows} ends) = ends_as ended lines (count text rows) is ends
  job_ended _ ended lines is (saves {text} {rows} ends) = ends_as ended lines (save text rows) is ends
  job_ended _ ended lines is (saves_from {text} {state} {rows} ends) = ends_as ended lines (save_from text state rows) is ends
  job_ended _ ended lines is (resumes {text} {state} {rows} ends) = ends_as ended lines (resume text state rows) is ends
  job_ended _ ended lines is (faces {source} {uses} ends) = ends_as ended lines (face source uses) is ends
  job_ended _ ended lines is (links {sources} ends) = ends_as ended lines (link sources) is ends
  job_ended _ _ _ is (no_job kept) = absurd (cc)
  job_ended asked _ _ is (short kept same) = inl refl

-- where no count of faults of a sink rises a call ends with the status of the job whose lines it writes there, want of memory aside
pub lines_written : (sink : Output) (lines : List ℕ) (meant ended : Status) → ¬ HasRisen sink.faults → WritesLines sink lines meant ended →
    (ended ≡ status.NoMemory) ⊎ (ended ≡ meant)
lines_written sink lines meant _ none (whole grew) = inr refl
lines_written sink lines meant _ none (fault some grew risen) = absurd (none risen)
lines_written sink lines meant _ none (want some grew) = inl refl
