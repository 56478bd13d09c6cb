-- What the stack of the recogniser says of the pieces that were read.
use Rattle.std.specs.Prelude.{true, List, codes}
use Rattle.bl_ctext.specs.Token.{Token}
use Rattle.bl_grammar.specs.Predictive.{Tables}
use Rattle.bl_cparse_syntax.specs.declared.grammar.Digits.TheVariants.{Elements, Int, Negated, Unsigned}
use Rattle.bl_cparse_syntax.specs.declared.grammar.Part.TheVariants.{File}
use Rattle.bl_cparse_syntax.specs.declared.grammar.Roomed.{Roomed}
use Rattle.bl_cparse_syntax.specs.Classes.{Class, words_of, matches}
use Rattle.bl_cparse_syntax.specs.Classes.Class.{exactly, one_of, a_name, number, turn}
use Rattle.bl_cparse_syntax.specs.Pieces.{first_piece}
use Rattle.bl_cparse_syntax.specs.Grammar.{Wanted, Produces, most_open, productions}
use Rattle.bl_cparse_syntax.specs.Tables.{has, starts, absent, wanted_of, pick}
use Rattle.bl_cparse_syntax.specs.Follow.{avoided, height, depth, lower_of}
use Rattle.bl_grammar.specs.Predictive
use Rattle.bl_grammar.specs.Runs

-- a piece of the class
unfoldable pub sample : Class → Token
sample (exactly word) = word
sample (one_of group) = first_piece (words_of group)
sample a_name = codes "x"
sample (number Elements) = codes "1"
sample (number (Int w)) = codes "0"
sample (number (Negated w)) = codes "1"
sample (number (Unsigned w)) = codes "0"
sample turn = codes "t0"

-- the tables of the grammar
abbrev pub tables : Tables Class Roomed Token
tables = record {
  begins = λ whole piece. has (starts whole.part) piece;
  absent = λ whole. absent whole.part;
  avoids = λ whole piece. has (avoided whole.part) piece;
  pick = pick;
  rank = λ whole. depth whole.part;
  limit = 32;
  easy = λ whole. wanted_of whole.room (codes "t0") (lower_of (height whole.part) (productions whole.part));
  height = λ whole. height whole.part;
  sample = sample;
  is_neutral = λ piece. true;
}

-- a whole text in which so many brackets may be open at once
abbrev pub file : Roomed
file = record { part = File; room = most_open }

-- no part on the stack is followed by what it avoids
abbrev pub IsGood : List Wanted → Type 0
IsGood stack = Predictive.Good Produces matches tables stack

-- the stack after these pieces derives exactly what completes a text
abbrev pub CStackCompletes : List Token → List Wanted → Type 0
CStackCompletes front stack = Runs.StackCompletes Produces matches tables file front stack
