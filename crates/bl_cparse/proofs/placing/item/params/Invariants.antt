use Rattle.std.proofs.Common.{◌≡◌, drop, map}
use Rattle.bl_ctext.specs.Spelling.{listed, param_tokens, with_commas}
use Rattle.bl_cparse.specs.HasPlaces.{behind_tokens}
use Rattle.bl_cparse.proofs.placing.item.params.Given as goal

abbrev pub invariant-loop-one : goal.invariant-loop-one
invariant-loop-one l = behind_tokens (listed l.first (map param_tokens (drop l.one-index l.params))) l.spot
    ≡ behind_tokens (with_commas (map param_tokens l.params)) l.fn.spot
