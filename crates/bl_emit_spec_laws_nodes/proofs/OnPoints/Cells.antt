-- Numbers of memory: which ways and places have nothing in common.
use Rattle.std.proofs.Common.{◌≡◌, ◌&&◌, ◌||◌, List, [], ◌∷◌, ◌++◌}
use Rattle.std.proofs.Common.{ap, ◌∙◌}
use Rattle.std.specs.Prelude.{◌==◌, if◌then◌else◌}
use Rattle.bl_ctext_semantics.specs.Memory.{CValue, Location, Memory, number_or, set_at, with_part}
use Rattle.bl_ctext_semantics.specs.Memory.{Projection, left_after}
use Rattle.bl_emit_acts_laws_simulation.proofs.Writes.{same_root_itself}

-- ---- what is set

module _ (here : Memory) (place : Location) (new : CValue) where
  abbrev after : Memory
  after = set_at here place new

  -- what stands at a way from the root of the place that was set
  pub same_object : (parts : List Projection) → after place.root parts ≡ number_or (left_after place.parts parts) new (here place.root parts)
  same_object parts = ap (λ b. (if b then with_part (here place.root) place.parts new else here place.root) parts) (same_root_itself place.root)
