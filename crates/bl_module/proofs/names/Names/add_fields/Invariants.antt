use Rattle.std.proofs.Common.{◌≡◌, drop}
use Rattle.bl_module.specs.Names.{are_new, with_fields}
use Rattle.bl_module.proofs.names.Names.add_fields.Given as goal

abbrev pub invariant-loop-field : goal.invariant-loop-field
invariant-loop-field l = (are_new l.self (drop l.field-index l.fields) ≡ are_new l.initial.self l.fields)
    × (with_fields l.self (drop l.field-index l.fields) ≡ with_fields l.initial.self l.fields)
