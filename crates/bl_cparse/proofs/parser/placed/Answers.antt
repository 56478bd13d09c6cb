use Rattle.std.proofs.Common.{◌∙◌}
use Rattle.bl_cparse.proofs.PlacedLemmas.{tokens_same, spellable_same, walked}
use Rattle.bl_cparse.proofs.parser.placed.Goals as goal

pub returns-clause-placed : goal.returns-clause-placed
returns-clause-placed c = walked c.args.text.now c.structs.new.structs c.funcs.new.funcs c.new-spot.result _ _ c.new-spot.ensures
    c.structs.ensures.places c.funcs.ensures.places

pub returns-clause-tokens : goal.returns-clause-tokens
returns-clause-tokens c = tokens_same c.args.structs c.structs.new.structs c.args.funcs c.funcs.new.funcs c.structs.ensures.tokens c.funcs.ensures.tokens

pub invariant_of-result : goal.invariant_of-result
invariant_of-result c = record {
  spellable =
      spellable_same c.args.structs c.structs.new.structs c.args.funcs c.funcs.new.funcs c.structs.ensures.tokens c.funcs.ensures.tokens
      c.structs.ensures.spells c.funcs.ensures.spells
      ∙ c.requires.spellable;
}
