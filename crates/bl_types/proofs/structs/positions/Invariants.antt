use Rattle.std.proofs.Common.{◌≡◌, ℕ, ◌+◌, List, drop, option_map}
use Rattle.std.specs.HashMap.{get_by_text}
use Rattle.bl_types.specs.inner.Fields.{first_named}
use Rattle.bl_types.proofs.structs.positions.Given as goal

abbrev pub invariant-loop-k : goal.invariant-loop-k
invariant-loop-k l = (name : List ℕ) → get_by_text l.by_name name ≡ option_map (λ i. l.k + i) (first_named name (drop l.k l.fields))
