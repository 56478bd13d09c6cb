-- Laws of the C of a block by numbers.
use Rattle.std.specs.Prelude.{◌≡◌, ℕ}
use Rattle.bl_tree.specs.declared.place.Place.{Place}
use Rattle.bl_machine_transitions.specs.Told.{NumberedTransition}
use Rattle.bl_emit_spec.specs.Blocks.{ActivityView}
use Rattle.bl_emit_blocks.specs.Numbered.{numbered_turn}

-- two views of an activity that differ at most in the numbers that nodes have
pub record Alike (v w : ActivityView) : Type 0 where
  pub site : v.site ≡ w.site
  pub copies : v.copies ≡ w.copies
  pub word : (k : ℕ) → v.word k ≡ w.word k
  pub run : (at : Place) → v.run at ≡ w.run at
  pub sizes : v.sizes ≡ w.sizes
  pub is_read : (k : ℕ) → v.is_read k ≡ w.is_read k
  pub remembers : (k : ℕ) → v.remembers k ≡ w.remembers k

-- the turn of a rule is the same in two views that differ only in the numbers of nodes
abbrev pub BlocksAlike : Type 0
BlocksAlike = (v w : ActivityView) → Alike v w → (rule : NumberedTransition) → numbered_turn v rule ≡ numbered_turn w rule
