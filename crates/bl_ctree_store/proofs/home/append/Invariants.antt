use Rattle.std.proofs.Common.{◌≡◌, ◌++◌, take}
use Rattle.bl_ctree_store.proofs.home.append.Given as goal

abbrev pub invariant-loop-field : goal.invariant-loop-field
invariant-loop-field l = l.into ≡ l.initial.into ++ take l.field-index l.fields
