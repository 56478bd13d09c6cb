use Rattle.std.proofs.Common.{◌-◌, length, [], ◌∷◌}
use Rattle.bl_parse_syntax.specs.declared.grammar.Part.TheVariants.{Program}
use Rattle.bl_parse_syntax.specs.Grammar.{the}
use Rattle.bl_parse.specs.Programs.{SpellsItems}
use Rattle.bl_parse.specs.inner.Reading.{Here}
use Rattle.bl_parse.proofs.item.items.Given as goal

abbrev pub decreases-items : goal.decreases-items
decreases-items l = length l.source.tokens.now - l.at

abbrev pub invariant-items : goal.invariant-items
invariant-items l = record {
  items : SpellsItems l.source.text.now l.source.tokens.now l.items 0 l.at;
  here : Here (the Program ∷ []) l.source.tokens.now l.at;
}
