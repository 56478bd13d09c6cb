use Rattle.std.proofs.Common.{◌≡◌, ℕ, List, drop}
use Rattle.std.specs.Option.{option_or}
use Rattle.bl_ctext_semantics.specs.Faults.{names_table}
use Rattle.bl_ctext_semantics.specs.inner.Maps.{bytes_of, text_at}
use Rattle.bl_ctext_semantics.proofs.check.variables.as_keys.Given as goal

abbrev pub invariant-loop-name : goal.invariant-loop-name
invariant-loop-name l =
    (asked : List ℕ) → option_or (text_at l.keys asked) (names_table (bytes_of (drop l.name-index l.names)) asked) ≡ names_table (bytes_of l.names) asked
