use Rattle.std.proofs.Common.{◌≡◌, ℕ, ◌+◌, List, drop}
use Rattle.std.specs.Prelude.{option_map}
use Rattle.std.specs.Option.{option_or}
use Rattle.bl_ctext_semantics.specs.inner.Maps.{text_at}
use Rattle.bl_crun_ports.specs.inner.Spans.{struct_position}
use Rattle.bl_crun_ports.proofs.places.places_of.Given as goal

abbrev pub invariant-loop-k : goal.invariant-loop-k
invariant-loop-k l = (name : List ℕ) → option_or (text_at l.places name)
    (option_map (λ j. l.k + j) (struct_position name (drop l.k l.structs))) ≡ struct_position name l.structs
