use Rattle.std.proofs.Common.{◌<◌, length, length-set, arith, ◌∙◌}
use Rattle.bl_ctext.specs.Spelling.{func_tokens}
use Rattle.bl_ctext.specs.Spellable.{spells_func}
use Rattle.bl_cparse.specs.HasPlaces.{func_walk}
use Rattle.bl_cparse.proofs.WalkLemmas.{mapped_set, turn_set}
use Rattle.bl_cparse.proofs.placing.item.funcs.Goals as goal

pub loop-k-preserved : goal.loop-k-preserved
loop-k-preserved c =
    let within : c.loop-k.k < length c.loop-k.funcs = omega (arith, c.loop-k-test.true, c.len-k-end.ensures, c.loop-k.invariant.many) in
    record {
      places = turn_set func_walk c.loop-k.funcs c.loop-k.k c.func.new.func _ _ _ within c.loop-k.invariant.places c.func.ensures.places;
      tokens = mapped_set func_tokens c.loop-k.funcs c.loop-k.k c.func.new.func c.get_mut.result.now c.get_mut.ensures.value
          c.func.ensures.tokens ∙ c.loop-k.invariant.tokens;
      spells = mapped_set spells_func c.loop-k.funcs c.loop-k.k c.func.new.func c.get_mut.result.now c.get_mut.ensures.value
          c.func.ensures.spells ∙ c.loop-k.invariant.spells;
      many = length-set c.loop-k.funcs c.loop-k.k c.func.new.func ∙ c.loop-k.invariant.many;
    }
