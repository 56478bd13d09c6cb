use Rattle.std.proofs.Common.{◌-◌, ◌<◌, length, [], ◌∷◌}
use Rattle.bl_parse.specs.Programs.{SpellsParamList}
use Rattle.bl_parse_syntax.specs.declared.grammar.Part.TheVariants.{Param, ParamRest}
use Rattle.bl_parse_syntax.specs.Grammar.{the}
use Rattle.bl_parse.specs.inner.Reading.{Turns}
use Rattle.bl_parse.proofs.item.listed_params.Given as goal

abbrev pub decreases-commas : goal.decreases-commas
decreases-commas l = length l.source.tokens.now - l.at

abbrev pub invariant-commas : goal.invariant-commas
invariant-commas l = record {
  params : SpellsParamList l.source.text.now l.source.tokens.now l.params l.fn.at l.at;
  follows : Turns (the Param ∷ the ParamRest ∷ []) l.source.tokens.now l.fn.at (the ParamRest ∷ []) l.at;
  ahead : l.fn.at < l.at;
}
