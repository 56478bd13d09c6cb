use Rattle.std.proofs.Common.{◌≡◌, ◌<◌, length, length-set, arith, sym, ap, ◌∙◌}
use Rattle.std.proofs.lemmas.List.{get_or-set_other}
use Rattle.bl_ctext.specs.Spelling.{arg_tokens, step_tokens}
use Rattle.bl_ctext.specs.Spellable.{spells_arg, spells_step}
use Rattle.bl_cparse.specs.HasPlaces.{arg_walk, step_walk}
use Rattle.bl_cparse.proofs.WalkLemmas.{list_set, mapped_set, turn_set}
use Rattle.bl_cparse.proofs.placing.expr.+placed_expressions.Goals as goal

pub args-loop-k-preserved : goal.args-loop-k-preserved
args-loop-k-preserved t c =
    let within : c.loop-k.k < length c.loop-k.args = omega (arith, c.loop-k-test.true, c.len-k-end.ensures, c.loop-k.invariant.many) in
    record {
      places = list_set arg_walk c.loop-k.args c.loop-k.k c.arg.new.arg _ _ _ within c.loop-k.invariant.places
          (ap (arg_walk c.arg.new.arg) (sym c.comma.ensures) ∙ c.arg.ensures.places);
      tokens = mapped_set arg_tokens c.loop-k.args c.loop-k.k c.arg.new.arg c.get_mut.result.now c.get_mut.ensures.value
          c.arg.ensures.tokens ∙ c.loop-k.invariant.tokens;
      spells = mapped_set spells_arg c.loop-k.args c.loop-k.k c.arg.new.arg c.get_mut.result.now c.get_mut.ensures.value
          c.arg.ensures.spells ∙ c.loop-k.invariant.spells;
      many = length-set c.loop-k.args c.loop-k.k c.arg.new.arg ∙ c.loop-k.invariant.many;
      rest = λ n d h. get_or-set_other c.loop-k.args c.loop-k.k n c.arg.new.arg d (λ (e : n ≡ c.loop-k.k). omega (arith, e, h))
          ∙ c.loop-k.invariant.rest n d (omega (arith, h));
    }

pub steps-loop-k-preserved : goal.steps-loop-k-preserved
steps-loop-k-preserved t c =
    let within : c.loop-k.k < length c.loop-k.steps = omega (arith, c.loop-k-test.true, c.len-k-end.ensures, c.loop-k.invariant.many) in
    record {
      places = turn_set step_walk c.loop-k.steps c.loop-k.k c.step.new.step _ _ _ within c.loop-k.invariant.places c.step.ensures.places;
      tokens = mapped_set step_tokens c.loop-k.steps c.loop-k.k c.step.new.step c.get_mut.result.now c.get_mut.ensures.value
          c.step.ensures.tokens ∙ c.loop-k.invariant.tokens;
      spells = mapped_set spells_step c.loop-k.steps c.loop-k.k c.step.new.step c.get_mut.result.now c.get_mut.ensures.value
          c.step.ensures.spells ∙ c.loop-k.invariant.spells;
      many = length-set c.loop-k.steps c.loop-k.k c.step.new.step ∙ c.loop-k.invariant.many;
      rest = λ n d h. get_or-set_other c.loop-k.steps c.loop-k.k n c.step.new.step d (λ (e : n ≡ c.loop-k.k). omega (arith, e, h))
          ∙ c.loop-k.invariant.rest n d (omega (arith, h));
    }
