use Rattle.std.proofs.Common.{◌≡◌, drop}
use Rattle.bl_ctext_semantics.specs.Faults.{earlier_of, first_place, repeated}
use Rattle.bl_ctext_semantics.specs.inner.Maps.{named_entries, text_at}
use Rattle.bl_ctext_semantics.proofs.check.names.first_repeated.Given as goal

abbrev pub invariant-loop-name : goal.invariant-loop-name
invariant-loop-name l =
    earlier_of l.first (first_place (repeated (text_at l.seen) (named_entries (drop l.name-index l.entries))))
    ≡ first_place (repeated (text_at l.initial.seen) (named_entries l.entries))
