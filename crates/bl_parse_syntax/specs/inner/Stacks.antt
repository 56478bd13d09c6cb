-- How the stack of the recogniser goes on.
use Rattle.std.specs.Prelude.{List}
use Rattle.bl_grammar.specs.Runs
use Rattle.bl_parse_syntax.specs.declared.grammar.TokenView.{TokenView}
use Rattle.bl_parse_syntax.specs.Grammar.{Piece, Produces, matches}
use Rattle.bl_parse_syntax.specs.Stack.{tables}

-- two stacks derive the same token lists that begin with this token
abbrev pub StackExpands : TokenView → List Piece → List Piece → Type 0
StackExpands next stack opened = Runs.StackExpands Produces matches tables next stack opened
