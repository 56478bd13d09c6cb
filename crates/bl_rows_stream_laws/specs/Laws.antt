-- What runs over files of rows come to.
use Rattle.std.specs.Prelude.{◌≢◌, ℕ, ℤ, List, Option, None}
use Rattle.bl_ctext_semantics.specs.Parts.{Parts}
use Rattle.bl_ctext_semantics_laws_places.specs.Behaviour.{behaviour_of}
use Rattle.bl_crun.specs.Running.{Running, loaded}
use Rattle.bl_rows_stream.specs.Streams.{Reported, Streamed}
use Rattle.bl_rows_stream.specs.declared.finish.Finish.{Finish}
use Rattle.bl_rows_stream.specs.declared.finish.Finish.TheVariants as finish
use Rattle.bl_rows_stream.specs.declared.ticks.Report.TheVariants.{Counts, Nothing}
use Rattle.bl_rows_stream_laws.specs.Counts.{counts_by}
use Rattle.bl_rows_stream_laws.specs.Resumed.{RunsSilently, runner_from}

-- a counted run of a file that was just loaded writes the text of its counts
abbrev pub CountsAreTold : Parts → Type 0
CountsAreTold file = (left rest before after : Option (List ℕ)) (now : Running) (how : Finish) →
    Reported Counts (loaded file) left rest before after now how → Streamed (counts_by (behaviour_of file)) left rest before after how

-- a silent run from numbers of the cells ends as the trace from them does
abbrev pub RunsAreSilent : Parts → Type 0
RunsAreSilent file = (numbers : List ℤ) (left rest : Option (List ℕ)) (now : Running) (how : Finish) → how ≢ finish.WriteFault →
    Reported Nothing (runner_from file numbers) left rest None None now how → RunsSilently file numbers left rest now how
