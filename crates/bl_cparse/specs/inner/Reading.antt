-- What a reader knows of the pieces that are left, and why it can fail.
use Rattle.std.specs.Prelude.{Bool, List, MatchResult, Result, codes, false, true, ℕ, ◌++◌, ◌-◌, ◌∷◌, []}
use Rattle.bl_tree.specs.declared.scalar.Width.{Width}
use Rattle.bl_tree.specs.declared.scalar.Width.TheVariants.{W16, W32, W64, W8}
use Rattle.bl_ctext.specs.Token.{Token}
use Rattle.bl_grammar.specs.declared.symbol.Symbol.TheVariants.{Nonterminal, Terminal}
use Rattle.bl_cparse_syntax.specs.declared.grammar.Digits.TheVariants.{Elements}
use Rattle.bl_cparse_syntax.specs.declared.grammar.Group.TheVariants.{IndexFunctions, Operators, PlainLiterals, PreludeFunctions, ScalarTypes}
use Rattle.bl_cparse_syntax.specs.declared.grammar.Part.{Part}
use Rattle.bl_cparse_syntax.specs.declared.grammar.Part.TheVariants.{AssignTail, Expr, Steps, Stmts}
use Rattle.bl_cparse_syntax.specs.Classes.{Class}
use Rattle.bl_cparse_syntax.specs.Classes.Class.{a_name, exactly, number, one_of}
use Rattle.bl_cparse_syntax.specs.Grammar.{Wanted}
use Rattle.bl_cparse_syntax.specs.Expects.{Expects}
use Rattle.bl_cparse_syntax.specs.Follow.{constant_starts}
use Rattle.bl_cparse.specs.declared.refusal.CRefusal.{CRefusal}
use Rattle.bl_cparse.specs.Places.{WantsMemory}

-- the symbol of a word or sign
abbrev pub sign : Token → Wanted
sign bytes = Terminal (exactly bytes)

-- a part in which so many brackets may be opened
abbrev pub part : Part → ℕ → Wanted
part what room = Nonterminal (record { part = what; room = room })

-- a reader fails for want of memory only, where the first symbols are expected of the pieces. Otherwise the second symbols are expected of the pieces that it
-- leaves
abbrev pub Follows : {A : Type 0} → Result A CRefusal → List Wanted → List Wanted → List Token → List Token → Type 0
Follows result symbols more old new = (rest : List Wanted) → Expects (symbols ++ rest) old →
    MatchResult result (λ _. Expects (more ++ rest) new) WantsMemory

-- a step that expects the first symbols of the old pieces leaves the second symbols expected of the new ones
abbrev pub Expands : List Wanted → List Wanted → List Token → List Token → Type 0
Expands symbols more old new = (rest : List Wanted) → Expects (symbols ++ rest) old → Expects (more ++ rest) new

-- the symbol of any name
abbrev pub name_of : Wanted
name_of = Terminal a_name

-- the word of a type
abbrev pub scalar_type : Wanted
scalar_type = Terminal (one_of ScalarTypes)

-- the symbol of any operator
abbrev pub operator : Wanted
operator = Terminal (one_of Operators)

-- a function that takes an index
abbrev pub index_function : Wanted
index_function = Terminal (one_of IndexFunctions)

-- the function that takes an index: that for int types, or that for unsigned ones
abbrev pub index_word : Bool → Token
index_word true = codes "bl_ix_s"
index_word false = codes "bl_ix_u"

-- how many elements an array has
abbrev pub elements : Wanted
elements = Terminal (number Elements)

-- the parts that go on while a member of a place stands
pub data GoesOnAPlace : Part → Type 0 where
  steps : GoesOnAPlace Steps
  assigned : GoesOnAPlace AssignTail

-- the symbol of any function of the prelude
abbrev pub prelude_function : Wanted
prelude_function = Terminal (one_of PreludeFunctions)

-- the front of a loop's body, where its turns are counted
abbrev pub turn_wanted : Token → List Wanted
turn_wanted turn = sign (codes "{") ∷ sign turn ∷ sign (codes "=") ∷ sign (codes "bl_turn") ∷ sign (codes "(") ∷ sign turn
    ∷ sign (codes ")") ∷ sign (codes ";") ∷ []

-- a loop behind the name of its turns
abbrev pub behind_turn : Token → ℕ → List Wanted
behind_turn turn room =
    sign (codes "=") ∷ sign (codes "0") ∷ sign (codes ";") ∷ sign (codes "while") ∷ sign (codes "(") ∷ part Expr (room - 2) ∷ sign (codes ")") ∷
    (turn_wanted turn ++ part Stmts (room - 2) ∷ sign (codes "}") ∷ sign (codes "}") ∷ [])

-- the classes of statements that begin with no place and no call
abbrev pub other_starts : List Class
other_starts = exactly (codes "if") ∷ exactly (codes "{") ∷ exactly (codes "break") ∷ exactly (codes "return") ∷ []

-- the classes that a local begins with
abbrev pub local_starts : List Class
local_starts = one_of ScalarTypes ∷ exactly (codes "struct") ∷ []

-- one of four tokens, by a width
abbrev pub by_width : Token → Token → Token → Token → Width → Token
by_width a b c d W8 = a
by_width a b c d W16 = b
by_width a b c d W32 = c
by_width a b c d W64 = d

-- the classes of four words
abbrev pub exactly_one : Token → Token → Token → Token → List Class
exactly_one a b c d = exactly a ∷ exactly b ∷ exactly c ∷ exactly d ∷ []

-- the words of constants of int types
abbrev pub signed_starts : List Class
signed_starts = exactly_one (codes "INT8_C") (codes "INT16_C") (codes "INT32_C") (codes "INT64_C")

-- the words of constants of unsigned types
abbrev pub unsigned_starts : List Class
unsigned_starts = exactly_one (codes "UINT8_C") (codes "UINT16_C") (codes "UINT32_C") (codes "UINT64_C")

-- the words of the least numbers of int types
abbrev pub least_starts : List Class
least_starts = exactly_one (codes "INT8_MIN") (codes "INT16_MIN") (codes "INT32_MIN") (codes "INT64_MIN")

-- the classes that a literal begins with, but for `(`
abbrev pub literal_starts : List Class
literal_starts = one_of PlainLiterals ∷ constant_starts
