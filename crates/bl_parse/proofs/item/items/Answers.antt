use Rattle.std.proofs.Common.{refl, arith, subst, [], ◌∷◌}
use Rattle.bl_parse_syntax.specs.declared.grammar.Part.TheVariants.{Program}
use Rattle.bl_parse_syntax.specs.Grammar.{the}
use Rattle.bl_parse.specs.Programs.{SpellsItems}
use Rattle.bl_parse.proofs.ReadLemmas.{item_next}
use Rattle.bl_parse.proofs.item.items.Goals as goal

pub items-init : goal.items-init
items-init c = record { items = SpellsItems.none c.new-items.ensures refl; here = record { within = omega arith; expects = c.requires.program } }

pub item-requires : goal.item-requires
item-requires c = record { awaits = record { rest = the Program ∷ []; here = item_next (omega (arith, c.items-test.true)) c.items.invariant.here } }

pub items-preserved : goal.items-preserved
items-preserved c = record {
  items = SpellsItems.more c.items.invariant.items c.in_ok-item.ensures.spelled c.in_ok-push.ensures.ok;
  here = c.in_ok-item.ensures.follows.goes (the Program ∷ []) (item_next (omega (arith, c.items-test.true)) c.items.invariant.here);
}

pub returns : goal.returns
returns c = subst (λ n. SpellsItems c.args.source.now.text.now c.args.source.now.tokens.now c.items.items 0 n)
    (omega (arith, c.items.invariant.here.within, c.items-test.false)) c.items.invariant.items
