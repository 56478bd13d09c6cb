use Rattle.std.proofs.Common.{◌≡◌, ℕ, List, drop}
use Rattle.std.specs.Option.{option_or}
use Rattle.bl_ctext_semantics.specs.inner.Maps.{named_entries, text_at}
use Rattle.bl_ctext_semantics.specs.Tables.{found}
use Rattle.bl_ctext_semantics.proofs.maps.fill.Given as goal

abbrev pub invariant-loop-name : goal.invariant-loop-name
invariant-loop-name g l = (asked : List ℕ) →
    option_or (text_at l.map asked) (found asked (named_entries (drop l.name-index l.entries)))
    ≡ option_or (text_at l.initial.map asked) (found asked (named_entries l.entries))
