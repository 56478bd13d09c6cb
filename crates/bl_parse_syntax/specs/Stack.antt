-- What the stack of the recogniser says of the tokens that were read.
use Rattle.std.specs.Prelude.{ℕ, Bool, true, false, ◌&&◌, List, Option, Some, None}
use Rattle.bl_tree.specs.declared.place.Place.{Place}
use Rattle.bl_grammar.specs.declared.symbol.Symbol.TheVariants.{Terminal, Nonterminal}
use Rattle.bl_grammar.specs.Predictive.{Tables}
use Rattle.bl_grammar.specs.Predictive
use Rattle.bl_grammar.specs.Runs
use Rattle.bl_parse_syntax.specs.declared.grammar.Class.{Class}
use Rattle.bl_parse_syntax.specs.declared.grammar.TokenView.{TokenView}
use Rattle.bl_parse_syntax.specs.declared.grammar.Part.{Part}
use Rattle.bl_parse_syntax.specs.declared.grammar.Part.TheVariants.{Program}
use Rattle.bl_parse_syntax.specs.Grammar.{Piece, Produces, matches, productions}
use Rattle.bl_parse_syntax.specs.Tables.{has, starts, absent, pick, permits}
use Rattle.bl_parse_syntax.specs.Follow.{avoided, height, depth, lower_of}

-- the token can begin the part here
abbrev pub begins : Part → TokenView → Bool
begins part next = permits part next && has (starts part) next.class

-- the tables of the grammar
abbrev pub tables : Tables Class Part TokenView
tables = record {
  begins = begins;
  absent = absent;
  avoids = λ part next. has (avoided part) next.class;
  pick = pick;
  rank = depth;
  limit = 32;
  easy = λ part. lower_of (height part) (productions part);
  height = height;
  sample = λ class. record { class = class; fresh = true };
  is_neutral = λ next. next.fresh;
}

-- no part on the stack is followed by what it avoids
abbrev pub IsGood : List Piece → Type 0
IsGood stack = Predictive.Good Produces matches tables stack

-- the stack derives exactly the token lists that complete a program after these tokens
abbrev pub SourceStackCompletes : List TokenView → List Piece → Type 0
SourceStackCompletes front stack = Runs.StackCompletes Produces matches tables Program front stack

-- whether the token is taken, and what is left then
abbrev pub StackAnswers : TokenView → List Piece → Bool → List Piece → Type 0
StackAnswers next stack taken rest = Runs.StackAnswers Produces matches tables next stack taken rest

-- a bound on the expansions of a stack before its next token is read
abbrev pub level : List Piece → ℕ
level stack = Predictive.level Produces matches tables stack

-- what is on the stack may stand for nothing
abbrev pub vanish : List Piece → Bool
vanish stack = Predictive.vanish Produces matches tables stack

-- the symbol may stand for nothing
abbrev pub may_vanish : Piece → Bool
may_vanish (Terminal class) = false
may_vanish (Nonterminal part) = absent part

-- the place of the text's end, unless the text may end
abbrev pub fault_at_end : Bool → ℕ → Option Place
fault_at_end true size = None
fault_at_end false size = Some (record { start = size; end = size })
