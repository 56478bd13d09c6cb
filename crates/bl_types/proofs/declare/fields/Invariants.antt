use Rattle.std.proofs.Common.{◌≡◌, ◌++◌, drop, map}
use Rattle.bl_tree.specs.Reduce.{joined}
use Rattle.bl_types.specs.Declarations.{field_lengths, field_of}
use Rattle.bl_types.specs.Failures.{noted}
use Rattle.bl_types.proofs.declare.fields.Given as goal

abbrev pub invariant-loop-one : goal.invariant-loop-one
invariant-loop-one l =
    (l.made ++ map (field_of l.env) (drop l.one-index l.all) ≡ map (field_of l.env) l.all)
    × (noted l.notes (joined (map (field_lengths l.env) (drop l.one-index l.all))) ≡ noted l.initial.notes (joined (map (field_lengths l.env) l.all)))
