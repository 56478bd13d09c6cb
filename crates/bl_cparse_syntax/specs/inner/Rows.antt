-- What the rows of the code's tables say.
use Rattle.std.specs.Prelude.{ℕ, List, map}
use Rattle.bl_ctext.specs.Token.{Token}
use Rattle.bl_grammar.specs.declared.symbol.Symbol.{Symbol}
use Rattle.bl_grammar.specs.declared.symbol.Symbol.TheVariants.{Terminal, Nonterminal}
use Rattle.bl_cparse_syntax.specs.declared.choice.Choice.{Choice as Row}
use Rattle.bl_cparse_syntax.specs.declared.grammar.Class.{Class}
use Rattle.bl_cparse_syntax.specs.declared.grammar.Within.{Within}
use Rattle.bl_cparse_syntax.specs.Grammar.{Shape, Wanted, Production, wanted_for}
use Rattle.bl_cparse_syntax.specs.Tables.{Choice, turn_name_for}
use Rattle.bl_cparse_syntax.specs.inner.Stacks.{class_shown}

-- a class or part of a production
abbrev pub shape_shown : Symbol Class Within → Shape
shape_shown (Terminal class) = Terminal (class_shown class)
shape_shown (Nonterminal within) = Nonterminal within

-- a row, with the classes that decide on it
abbrev pub choice_shown : Row → Choice
choice_shown row = record { on = map class_shown row.on.now; production = record { needs = row.needs; shapes = map shape_shown row.production.now } }

-- the production of a row
abbrev pub production_shown : Row → Production
production_shown row = (choice_shown row).production

-- the classes and parts of a production in this room before this piece
abbrev pub wanted_from : ℕ → Token → List (Symbol Class Within) → List Wanted
wanted_from room piece shapes = map (wanted_for room (turn_name_for piece)) (map shape_shown shapes)
