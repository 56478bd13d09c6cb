-- How `count` ends.
use Rattle.std.specs.Prelude.{ℕ, List}
use Rattle.bl_top_commands.specs.Calls.{Call}
use Rattle.bl_top_commands.specs.Exec.{TextEnds}
use Rattle.bl_top_commands.specs.declared.status.Status.{Status}
use Rattle.bl_rows_stream_laws.specs.Counts.{counts_by}
use Rattle.bl_top_args.specs.Jobs.{Word}

-- how `count` ends: as `exec`, but it shows how many statements each tick executed
abbrev pub CountEnds : Call → Word → Word → Status → List ℕ → Type 0
CountEnds c text rows = TextEnds c text rows counts_by
