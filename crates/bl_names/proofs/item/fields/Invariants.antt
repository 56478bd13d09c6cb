use Rattle.std.proofs.Common.{◌≡◌, ◌++◌, drop, map}
use Rattle.bl_names.specs.Named.{named_field}
use Rattle.bl_names.proofs.item.fields.Given as goal

abbrev pub invariant-loop-one : goal.invariant-loop-one
invariant-loop-one l = l.made ++ map (named_field l.scopes) (drop l.one-index l.all) ≡ map (named_field l.scopes) l.all
