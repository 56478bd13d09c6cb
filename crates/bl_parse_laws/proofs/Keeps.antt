-- What a tree keeps that is spelled within the limits of rule Depth.
use Rattle.std.proofs.Common.{ℕ, List}
use Rattle.bl_tree.specs.declared.token.Token.{Token}
use Rattle.bl_lex.specs.Tokens.{Lexes}
use Rattle.bl_parse_syntax.specs.Rules.{PassesDepth}
use Rattle.bl_parse_tree.specs.declared.raw.Raw.{Raw}
use Rattle.bl_parse_tree.specs.WellFormed.{RawIsWellFormed}
use Rattle.bl_parse.specs.Programs.{Spells}
use Rattle.bl_parse_laws.proofs.Stands.{what_stands}
use Rattle.bl_parse_laws.proofs.InOrder.{starts_ascend}
use Rattle.bl_parse_laws.proofs.Nested.{what_is_shallow}

pub what_keeps : (text : List ℕ) (tokens : List Token) (raw : Raw) → Lexes text tokens → PassesDepth tokens → Spells text tokens raw →
    RawIsWellFormed raw.items
what_keeps text tokens raw lexes passes h = record {
  stand = what_stands text tokens raw lexes h;
  shallow = what_is_shallow text tokens raw passes h;
  in_order = starts_ascend text tokens raw lexes h;
}
