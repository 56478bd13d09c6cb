-- How `bound` ends.
use Rattle.std.specs.Prelude.{◌≡◌, ℕ, List}
use Rattle.bl_bound.specs.Text.{bound_text}
use Rattle.bl_ctext_semantics_laws_places.specs.Behaviour.{Behaviour}
use Rattle.bl_top_commands.specs.Calls.{Call}
use Rattle.bl_top_commands.specs.Exec.{Loads, TextStops}
use Rattle.bl_top_commands.specs.Notes.{line_of}
use Rattle.bl_top_commands.specs.Results.{WritesResult}
use Rattle.bl_top_commands.specs.Sources.{IsSource}
use Rattle.bl_top_commands.specs.declared.status.Status.{Status}
use Rattle.bl_io.specs.Left.{IsKept}
use Rattle.bl_top_args.specs.Jobs.{Word}

-- the bytes tell what each function of a text can execute. No tick executes more than the cost of `bl_tick` (`Loads`)
pub record TellsBounds (text written : List ℕ) : Type 0 where
  pub behaviour : Behaviour
  pub loads : Loads text behaviour
  pub told : written ≡ bound_text loads.has.spelled.funcs

-- the status with which the costs of a C text are told, and the lines for `notes`
pub data BoundEnds (c : Call) (text : Word) : Status → List ℕ → Type 0 where
  costs_told : {ended : Status} (bytes : List ℕ) → IsSource (c.left text) bytes → WritesResult (TellsBounds bytes) c.out ended →
      BoundEnds c text ended (line_of ended)
  stopped : {ended : Status} {line : List ℕ} → TextStops (c.left text) (c.file text) ended line → IsKept c.out.before c.out.after →
      BoundEnds c text ended line
