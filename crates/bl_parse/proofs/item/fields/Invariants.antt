use Rattle.std.proofs.Common.{◌-◌, ◌<◌, length, [], ◌∷◌}
use Rattle.bl_parse.specs.Programs.{SpellsFieldList}
use Rattle.bl_parse_syntax.specs.declared.grammar.Part.TheVariants.{Field, Fields}
use Rattle.bl_parse_syntax.specs.Grammar.{the}
use Rattle.bl_parse.specs.inner.Reading.{Turns}
use Rattle.bl_parse.proofs.item.fields.Given as goal

abbrev pub decreases-vars : goal.decreases-vars
decreases-vars l = length l.source.tokens.now - l.at

abbrev pub invariant-vars : goal.invariant-vars
invariant-vars l = record {
  fields : SpellsFieldList l.source.text.now l.source.tokens.now l.fields l.fn.at l.at;
  follows : Turns (the Field ∷ the Fields ∷ []) l.source.tokens.now l.fn.at (the Fields ∷ []) l.at;
  ahead : l.fn.at < l.at;
}
