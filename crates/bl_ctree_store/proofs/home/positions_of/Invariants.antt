use Rattle.std.proofs.Common.{◌≡◌, take}
use Rattle.bl_ctree_store.proofs.home.positions_of.Given as goal

abbrev pub invariant-loop-field : goal.invariant-loop-field
invariant-loop-field l = l.made ≡ take l.field-index l.fields
