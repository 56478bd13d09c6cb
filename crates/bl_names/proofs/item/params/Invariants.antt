use Rattle.std.proofs.Common.{◌≡◌, drop}
use Rattle.bl_names.specs.Named.{role_piece}
use Rattle.bl_names.specs.inner.Past.{past}
use Rattle.bl_names.proofs.item.params.Given as goal

abbrev pub invariant-loop-one : goal.invariant-loop-one
invariant-loop-one l = past l.state (role_piece l.role (drop l.one-index l.all)) ≡ past l.initial.state (role_piece l.role l.all)
