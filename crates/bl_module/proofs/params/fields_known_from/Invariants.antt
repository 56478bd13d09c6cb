use Rattle.std.proofs.Common.{◌≡◌, ◌++◌, drop}
use Rattle.bl_module.specs.Own.{fields_known_from}
use Rattle.bl_module.proofs.params.fields_known_from.Given as goal

abbrev pub invariant-loop-field : goal.invariant-loop-field
invariant-loop-field l = l.made ++ fields_known_from l.k l.known (drop l.field-index l.fields) ≡ fields_known_from 0 l.known l.fields
