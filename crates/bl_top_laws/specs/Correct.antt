-- Laws of what the one call writes where its words ask for `build`.
use Rattle.std.specs.Prelude.{◌≡◌, ◌⊎◌, ℕ, List, ◌++◌, Option, Some}
use Rattle.bl_rules.specs.Rules.{FirstFailing, Passes}
use Rattle.bl_top.specs.Answers.{Answered}
use Rattle.bl_top.specs.Build.{IsBuiltOf}
use Rattle.bl_top.specs.Drive.{Plants}
use Rattle.bl_top_args.specs.Jobs.{Word, build, job_of}
use Rattle.bl_top_commands.specs.Calls.{Call, HasRisen}
use Rattle.bl_top_commands.specs.Refusals.{refusal_line}
use Rattle.bl_top_commands.specs.declared.status.Status.{Status}
use Rattle.bl_top_commands.specs.declared.status.Status.TheVariants as status
use Rattle.bl_top_laws.specs.Theorem.{Correct}
use Rattle.bl_tree.specs.declared.place.Place.{Place}
use Rattle.bl_tree.specs.declared.rule.Rule.{Rule}

-- a sink holds what it held before, and then a C text that is correct for the source
pub record HasWrittenCorrect (source before : List ℕ) (after : Option (List ℕ)) : Type 0 where
  pub text : List ℕ
  pub correct : Correct source text
  pub grew : after ≡ Some (before ++ text)

-- a sink holds what it held before, and then the line of the first rule that fails for the source, with its place
pub record HasToldFirst (source before : List ℕ) (after : Option (List ℕ)) : Type 0 where
  pub rule : Rule
  pub place : Place
  pub also : List Place
  pub first : FirstFailing source rule place also
  pub grew : after ≡ Some (before ++ refusal_line rule place also)

-- the words ask to build the source file of this name, which holds this text, and the call ends with this status
pub record BuildsAndEnds (words : List Word) (c : Call) (plants : Plants) (name : Word) (source : List ℕ) (ended : Status) : Type 0 where
  pub asks : job_of words ≡ Some (build name)
  pub holds : c.left name ≡ Some source
  pub answered : Answered words c plants ended

-- ---- the laws

-- a C text that is built of a source is correct for it
abbrev pub BuiltTextsAreCorrect : Type 0
BuiltTextsAreCorrect = (source text : List ℕ) → IsBuiltOf (Some source) text → Correct source text

-- a call of `build` that ends Ok has written a correct text on `out`
abbrev pub BuildsAreCorrect : Type 0
BuildsAreCorrect = (words : List Word) (c : Call) (plants : Plants) (name : Word) (source before : List ℕ) →
    BuildsAndEnds words c plants name source status.Ok → c.out.before ≡ Some before → HasWrittenCorrect source before c.out.after

-- a call of `build` that ends Refused has told the first rule that fails on `notes`
abbrev pub RefusedBuildsTellFirst : Type 0
RefusedBuildsTellFirst = (words : List Word) (c : Call) (plants : Plants) (name : Word) (source before : List ℕ) →
    BuildsAndEnds words c plants name source status.Refused → c.notes.before ≡ Some before → HasToldFirst source before c.notes.after

-- no count of faults of the file of this name, of `out` or of `notes` rose
pub record NoneRose (c : Call) (name : Word) : Type 0 where
  pub file : ¬ HasRisen (c.file name)
  pub out : ¬ HasRisen c.out.faults
  pub notes : ¬ HasRisen c.notes.faults

-- a call of `build` in which no count of faults rises ends Ok iff no rule fails for the source, and else Refused, want of memory aside
abbrev pub BuildsDecide : Type 0
BuildsDecide = (words : List Word) (c : Call) (plants : Plants) (name : Word) (source : List ℕ) (ended : Status) →
    BuildsAndEnds words c plants name source ended → NoneRose c name →
    (ended ≡ status.NoMemory) ⊎ ((Passes source × (ended ≡ status.Ok)) ⊎ ((¬ Passes source) × (ended ≡ status.Refused)))
