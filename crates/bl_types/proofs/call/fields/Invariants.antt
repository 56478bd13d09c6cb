use Rattle.std.proofs.Common.{◌≡◌, ◌++◌, drop, map}
use Rattle.bl_types.specs.Expressions.{stepped, to_field}
use Rattle.bl_types.specs.Failures.{noted}
use Rattle.bl_types.proofs.call.fields.Given as goal

abbrev pub invariant-loop-name : goal.invariant-loop-name
invariant-loop-name l =
    ((stepped (map (to_field l.env.structs) (drop l.name-index l.all)) l.ty).ty ≡ (stepped (map (to_field l.env.structs) l.all) l.initial.ty).ty)
    × ((l.parts ++ (stepped (map (to_field l.env.structs) (drop l.name-index l.all)) l.ty).parts
    ≡ (stepped (map (to_field l.env.structs) l.all) l.initial.ty).parts)
    × (noted l.notes (stepped (map (to_field l.env.structs) (drop l.name-index l.all)) l.ty).failures
    ≡ noted l.initial.notes (stepped (map (to_field l.env.structs) l.all) l.initial.ty).failures))
