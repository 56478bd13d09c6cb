use Rattle.std.proofs.Common.{◌-◌, ◌≤◌, length}
use Rattle.bl_parse.specs.Statements.{SpellsFields}
use Rattle.bl_parse.specs.inner.Reading.{KeepsFields}
use Rattle.bl_parse.proofs.parts.fields.Given as goal

abbrev pub decreases-dots : goal.decreases-dots
decreases-dots l = length l.source.tokens.now - l.at

abbrev pub invariant-dots : goal.invariant-dots
invariant-dots l = record {
  fields : SpellsFields l.source.text.now l.source.tokens.now l.fields l.fn.at l.at;
  keeps : KeepsFields l.source.tokens.now l.fn.at l.at;
  ahead : l.fn.at ≤ l.at;
}
