use Rattle.std.proofs.Common.{◌<◌, length, length-set, arith, ◌∙◌}
use Rattle.bl_ctext.specs.Spelling.{struct_tokens}
use Rattle.bl_ctext.specs.Spellable.{spells_struct}
use Rattle.bl_cparse.specs.HasPlaces.{struct_walk}
use Rattle.bl_cparse.proofs.WalkLemmas.{mapped_set, turn_set}
use Rattle.bl_cparse.proofs.placing.item.structs.Goals as goal

pub loop-k-preserved : goal.loop-k-preserved
loop-k-preserved c =
    let within : c.loop-k.k < length c.loop-k.structs = omega (arith, c.loop-k-test.true, c.len-k-end.ensures, c.loop-k.invariant.many) in
    record {
      places = turn_set struct_walk c.loop-k.structs c.loop-k.k c.structure.new.structure _ _ _ within c.loop-k.invariant.places c.structure.ensures.places;
      tokens = mapped_set struct_tokens c.loop-k.structs c.loop-k.k c.structure.new.structure c.get_mut.result.now
          c.get_mut.ensures.value c.structure.ensures.tokens ∙ c.loop-k.invariant.tokens;
      spells = mapped_set spells_struct c.loop-k.structs c.loop-k.k c.structure.new.structure c.get_mut.result.now
          c.get_mut.ensures.value c.structure.ensures.spells ∙ c.loop-k.invariant.spells;
      many = length-set c.loop-k.structs c.loop-k.k c.structure.new.structure ∙ c.loop-k.invariant.many;
    }
