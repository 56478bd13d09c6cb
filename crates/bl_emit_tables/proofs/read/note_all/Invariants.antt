use Rattle.std.proofs.Common.{◌≡◌, ℕ, false, ◌||◌, drop, nat_eq, slice_get, unwrap_or}
use Rattle.std.specs.List.{list_any}
use Rattle.bl_emit_tables.proofs.read.note_all.Given as goal

abbrev pub invariant-loop-slot : goal.invariant-loop-slot
invariant-loop-slot l = (k : ℕ) → list_any (λ slot. nat_eq k slot.counter) (drop l.slot-index l.slots) || unwrap_or (slice_get l.tests k) false
    ≡ list_any (λ slot. nat_eq k slot.counter) l.slots || unwrap_or (slice_get l.initial.tests k) false
