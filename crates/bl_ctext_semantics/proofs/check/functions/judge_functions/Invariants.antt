use Rattle.std.proofs.Common.{◌≡◌, drop}
use Rattle.bl_ctext_semantics.specs.inner.Checked.{checked_structs, functions_of}
use Rattle.bl_ctext_semantics.specs.Faults.{earlier_of, first_place, function_faults_after}
use Rattle.bl_ctext_semantics.specs.inner.Maps.{text_at}
use Rattle.bl_ctext_semantics.specs.Tables.{no_entries}
use Rattle.bl_ctext_semantics.proofs.check.functions.judge_functions.Given as goal

abbrev pub invariant-loop-k : goal.invariant-loop-k
invariant-loop-k l =
    earlier_of l.first (first_place (function_faults_after (checked_structs l.structs) (functions_of l.functions) (text_at l.depths) (drop l.k l.list)))
    ≡ first_place (function_faults_after (checked_structs l.structs) no_entries no_entries l.list)
