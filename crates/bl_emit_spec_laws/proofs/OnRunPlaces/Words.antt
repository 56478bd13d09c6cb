-- The number and word in the C names of a `run`, by the unit of the instance that it calls.
use Rattle.std.proofs.Common.{◌≡◌, ℕ, Some, ap}
use Rattle.std.specs.Prelude.{option_map, unwrap_or}
use Rattle.bl_tree.specs.declared.place.Place.{Place}
use Rattle.bl_ctree.specs.Instances.{Setting, callee_of}
use Rattle.bl_emit_spec.specs.Activities.{activity_view}
use Rattle.bl_emit_spec.specs.Blocks.{word_at}
use Rattle.bl_emit_spec_laws.specs.Calls.Built.{Activities, activity_at, run_by, unit_number}

pub run_word : (w : Setting) (activities : Activities) (i j : ℕ) (at : Place) → callee_of w i at ≡ Some j →
    run_by w activities i at ≡ word_at (activity_view (activity_at w activities i)) at (unit_number w j)
run_word w activities i j at is = ap (λ o. word_at (activity_view (activity_at w activities i)) at (unwrap_or (option_map (unit_number w) o) 0)) is
