-- How `check` ends.
use Rattle.std.specs.Prelude.{◌≡◌, ℕ, List, [], ◌∷◌, ◌++◌, codes}
use Rattle.bl_top_commands.specs.Calls.{Call}
use Rattle.bl_top_commands.specs.Notes.{line_of}
use Rattle.bl_top_commands.specs.Refusals.{IsNotAccepted}
use Rattle.bl_top_commands.specs.Results.{WritesResult}
use Rattle.bl_top_commands.specs.Sources.{IsRawTreeOf}
use Rattle.bl_top_commands.specs.declared.status.Status.{Status}
use Rattle.bl_io.specs.Left.{IsKept}
use Rattle.bl_parse_tree.specs.declared.raw.Raw.{Raw}
use Rattle.bl_top_args.specs.Jobs.{Word}

-- what is said of a source that is accepted, with its line feed
abbrev pub accepted_line : List ℕ
accepted_line = codes "accepted" ++ 10 ∷ []

-- the status with which a source is judged, and the lines for `notes`
pub data CheckEnds (c : Call) (source : Word) : Status → List ℕ → Type 0 where
  -- no rule fails for it, and this is its tree
  accepted : {ended : Status} (raw : Raw) → IsRawTreeOf (c.left source) raw → WritesResult (λ text. text ≡ accepted_line) c.out ended →
      CheckEnds c source ended (line_of ended)
  stopped : {ended : Status} {line : List ℕ} → IsNotAccepted (c.left source) (c.file source) ended line → IsKept c.out.before c.out.after →
      CheckEnds c source ended line
