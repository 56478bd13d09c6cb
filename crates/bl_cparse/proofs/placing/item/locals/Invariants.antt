use Rattle.std.proofs.Common.{◌≡◌, drop, map}
use Rattle.bl_tree.specs.Reduce.{joined}
use Rattle.bl_ctext.specs.Spelling.{local_tokens}
use Rattle.bl_cparse.specs.HasPlaces.{behind_tokens}
use Rattle.bl_cparse.proofs.placing.item.locals.Given as goal

abbrev pub invariant-loop-one : goal.invariant-loop-one
invariant-loop-one l = behind_tokens (joined (map local_tokens (drop l.one-index l.locals))) l.spot
    ≡ behind_tokens (joined (map local_tokens l.locals)) l.fn.spot
