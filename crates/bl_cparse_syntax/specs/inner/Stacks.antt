-- How the stack of the recogniser goes on.
use Rattle.std.specs.Prelude.{Bool, List, false, ℕ}
use Rattle.bl_ctext.specs.Token.{Token}
use Rattle.bl_grammar.specs.declared.symbol.Symbol.{Symbol}
use Rattle.bl_grammar.specs.declared.symbol.Symbol.TheVariants.{Nonterminal, Terminal}
use Rattle.bl_cparse_syntax.specs.declared.grammar.Roomed.{Roomed}
use Rattle.bl_cparse_syntax.specs.declared.grammar.Class.{Class as Row}
use Rattle.bl_cparse_syntax.specs.Classes.{Class, matches}
use Rattle.bl_cparse_syntax.specs.Classes.Class.{a_name, exactly, number, one_of, turn}
use Rattle.bl_cparse_syntax.specs.Grammar.{Produces, Wanted}
use Rattle.bl_cparse_syntax.specs.Tables.{absent}
use Rattle.bl_cparse_syntax.specs.Stack.{tables}
use Rattle.bl_grammar.specs.Predictive
use Rattle.bl_grammar.specs.Runs
use Rattle.bl_cparse_syntax.specs.declared.grammar.Class.TheVariants as row

-- both stacks derive the same where the piece comes next
abbrev pub StackExpands : Token → List Wanted → List Wanted → Type 0
StackExpands next stack opened = Runs.StackExpands Produces matches tables next stack opened

-- whether the piece is taken, and what is left then
abbrev pub StackAnswers : Token → List Wanted → Bool → List Wanted → Type 0
StackAnswers next stack taken rest = Runs.StackAnswers Produces matches tables next stack taken rest

-- how far the stack is from the next piece that is read
abbrev pub level : List Wanted → ℕ
level stack = Predictive.level Produces matches tables stack

-- what is on the stack may stand for nothing
abbrev pub vanish : List Wanted → Bool
vanish stack = Predictive.vanish Produces matches tables stack

-- the class or part may stand for nothing
abbrev pub may_vanish : Wanted → Bool
may_vanish (Terminal class) = false
may_vanish (Nonterminal whole) = absent whole.part

-- the class that the code has
abbrev pub class_shown : Row → Class
class_shown (row.Exactly word) = exactly word.now
class_shown (row.OneOf group) = one_of group
class_shown row.Name = a_name
class_shown (row.Number of) = number of
class_shown row.Turn = turn
class_shown (row.Named name) = exactly name.now

-- what stands on the code's stack
abbrev pub shown : Symbol Row Roomed → Wanted
shown (Terminal class) = Terminal (class_shown class)
shown (Nonterminal whole) = Nonterminal whole
