use Rattle.std.proofs.Common.{◌≡◌, ◌&&◌, drop}
use Rattle.bl_ctext_semantics.specs.Faults.{all_distinct}
use Rattle.bl_ctext_semantics.specs.inner.Maps.{bytes_of, text_at}
use Rattle.bl_ctext_semantics.specs.Tables.{no_entries}
use Rattle.bl_ctext_semantics.proofs.check.names.differ.Given as goal

abbrev pub invariant-loop-name : goal.invariant-loop-name
invariant-loop-name l = (l.answer && all_distinct (text_at l.seen) (bytes_of (drop l.name-index l.names))) ≡ all_distinct no_entries (bytes_of l.names)
