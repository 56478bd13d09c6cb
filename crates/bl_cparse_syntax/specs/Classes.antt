-- The classes of pieces that the grammar of C texts tells apart.
use Rattle.std.specs.Prelude.{ℕ, ◌*◌, nat_le, nat_lt, Bool, false, not, ◌&&◌, ◌||◌, ◌==◌, List, [], ◌∷◌, length, map, codes}
use Rattle.std.specs.Char.{is_ascii_digit}
use Rattle.std.specs.Str.Parse.{digits_value}
use Rattle.bl_tree.specs.Reduce.{all_of}
use Rattle.bl_ctext.specs.Token.{Token}
use Rattle.bl_ctext.specs.Names.{is_among, is_name, is_turn_name, prelude_functions}
use Rattle.bl_ctext.specs.Spelling.{negatives}
use Rattle.bl_cparse_syntax.specs.declared.grammar.Group.{Group}
use Rattle.bl_cparse_syntax.specs.declared.grammar.Group.TheVariants.{ScalarTypes, PlainLiterals, Operators, IndexFunctions, StructWords, FunctionWords}
use Rattle.bl_cparse_syntax.specs.declared.grammar.Group.TheVariants.{PreludeFunctions}
use Rattle.bl_cparse_syntax.specs.declared.grammar.Digits.{Digits}
use Rattle.bl_cparse_syntax.specs.declared.grammar.Digits.TheVariants.{Elements, Int, Negated, Unsigned}
use Rattle.bl_cparse_syntax.specs.Pieces.{is_same}

-- what a piece must be: this one, one of a list, a name, the digits of a number, or the name of a loop's turns
pub data Class : Type 0 where
  exactly : Token → Class
  one_of : Group → Class
  a_name : Class
  number : Digits → Class
  turn : Class

-- the words and signs of a list
abbrev pub words_of : Group → List Token
words_of ScalarTypes =
    codes "bool" ∷ codes "int8_t" ∷ codes "int16_t" ∷ codes "int32_t" ∷ codes "int64_t" ∷ codes "uint8_t" ∷ codes "uint16_t"
    ∷ codes "uint32_t" ∷ codes "uint64_t" ∷ []
words_of PlainLiterals = codes "true" ∷ codes "false" ∷ codes "INT8_MIN" ∷ codes "INT16_MIN" ∷ codes "INT32_MIN" ∷ codes "INT64_MIN" ∷ []
words_of Operators = codes "==" ∷ codes "!=" ∷ codes "<" ∷ codes "<=" ∷ codes ">" ∷ codes ">=" ∷ codes "&&" ∷ codes "||" ∷ []
words_of IndexFunctions = codes "bl_ix_s" ∷ codes "bl_ix_u" ∷ []
words_of StructWords = codes "bl_state" ∷ codes "bl_in" ∷ codes "bl_out" ∷ []
words_of FunctionWords = codes "bl_init" ∷ codes "bl_tick" ∷ []
words_of PreludeFunctions = prelude_functions

-- the least number that the digits may spell
abbrev pub least : Digits → ℕ
least Elements = 1
least (Int w) = 0
least (Negated w) = 1
least (Unsigned w) = 0

-- the bound that the digits' number must be below
abbrev pub digits_bound : Digits → ℕ
digits_bound Elements = 65537
digits_bound (Int w) = negatives w
digits_bound (Negated w) = negatives w
digits_bound (Unsigned w) = 2 * negatives w

-- one or more decimal digits, and no zero before others
abbrev pub are_digits : Token → Bool
are_digits [] = false
are_digits (b ∷ bs) = all_of (map is_ascii_digit (b ∷ bs)) && (not (b == 48) || nat_le (length bs) 0)

-- the digits of a number that they may spell
unfoldable pub spells_number : Digits → Token → Bool
spells_number of piece = are_digits piece && (nat_le (least of) (digits_value 10 piece) && nat_lt (digits_value 10 piece) (digits_bound of))

-- the piece is of the class
unfoldable pub matches : Class → Token → Bool
matches (exactly word) piece = is_same word piece
matches (one_of group) piece = is_among piece (words_of group)
matches a_name piece = is_name piece
matches (number of) piece = spells_number of piece
matches turn piece = is_turn_name piece
