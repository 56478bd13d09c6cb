use Rattle.std.proofs.Common.{◌-◌, ◌<◌, length, [], ◌∷◌}
use Rattle.bl_parse.specs.Statements.{SpellsPaths}
use Rattle.bl_parse_syntax.specs.declared.grammar.Part.TheVariants.{Path, OutputRest}
use Rattle.bl_parse_syntax.specs.Grammar.{the}
use Rattle.bl_parse.specs.inner.Reading.{Turns}
use Rattle.bl_parse.proofs.parts.paths.Given as goal

abbrev pub decreases-commas : goal.decreases-commas
decreases-commas l = length l.source.tokens.now - l.at

abbrev pub invariant-commas : goal.invariant-commas
invariant-commas l = record {
  paths : SpellsPaths l.source.text.now l.source.tokens.now l.paths l.fn.at l.at;
  follows : Turns (the Path ∷ the OutputRest ∷ []) l.source.tokens.now l.fn.at (the OutputRest ∷ []) l.at;
  ahead : l.fn.at < l.at;
}
