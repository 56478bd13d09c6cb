-- What never follows a part of the grammar, and how deep its productions go: by these one token is seen to decide.
use Rattle.std.proofs.Common.{ℕ, zero, suc, ◌+◌, Bool, true, cond, ◌&&◌, List, [], ◌∷◌, ◌++◌, max}
use Rattle.std.specs.Prelude.{nat_lt}
use Rattle.bl_grammar.specs.declared.symbol.Symbol.TheVariants.{Terminal, Nonterminal}
use Rattle.bl_tree.specs.declared.token.Keyword.TheVariants as keyword
use Rattle.bl_lex.specs.declared.sign.TheConstants.{COLON, ASSIGN, AT, OPEN_BRACKET, OPEN_PAREN, COMMA, DOT, EQUAL, NOT_EQUAL, LESS, LESS_OR_EQUAL, GREATER}
use Rattle.bl_lex.specs.declared.sign.TheConstants.{GREATER_OR_EQUAL, BAR, CARET, AMPERSAND, SHIFT_LEFT, SHIFT_RIGHT, PLUS, MINUS, STAR, SLASH, PERCENT}
use Rattle.bl_parse_syntax.specs.declared.grammar.Class.{Class}
use Rattle.bl_parse_syntax.specs.declared.grammar.Class.TheVariants.{AnyName, Keyword, Mark}
use Rattle.bl_parse_syntax.specs.declared.grammar.Part.{Part}
use Rattle.bl_parse_syntax.specs.declared.grammar.Part.TheVariants.{Program, Item, Struct, Field, Fields, Constant, TypeMark, Unit, PlainUnit, UnitTail, Params}
use Rattle.bl_parse_syntax.specs.declared.grammar.Part.TheVariants.{SecondParams, ParamList, ParamRest, Param, Returns, Block, Stmt, VarTail, Initial}
use Rattle.bl_parse_syntax.specs.declared.grammar.Part.TheVariants.{AfterName, CallTail, AssignTail, Accesses, RunTail, RunTarget, Weak, Branches, Until}
use Rattle.bl_parse_syntax.specs.declared.grammar.Part.TheVariants.{Elseifs, Else, AfterReturn, Inputs, InputList, InputRest, Outputs, SecondOutputs}
use Rattle.bl_parse_syntax.specs.declared.grammar.Part.TheVariants.{OutputList, OutputRest, Path, PathRest, Expr, ExprRest, And, AndRest, Comparison}
use Rattle.bl_parse_syntax.specs.declared.grammar.Part.TheVariants.{ComparisonRest, BitOr, BitOrRest, BitXor, BitXorRest, BitAnd, BitAndRest, Shift, ShiftRest}
use Rattle.bl_parse_syntax.specs.declared.grammar.Part.TheVariants.{Sum, SumRest, Product, ProductRest, Cast, CastRest, Unary, Primary, NameUse, NoOutputs}
use Rattle.bl_parse_syntax.specs.Grammar.{Piece, productions, expression_starts}

-- the classes that go on with a name in an expression: none of them follows the whole
abbrev pub after_name : List Class
after_name = Mark DOT ∷ Mark OPEN_BRACKET ∷ Mark OPEN_PAREN ∷ []

-- the classes that go on with an operand and its sign
abbrev pub after_unary : List Class
after_unary = after_name

-- the classes that go on with a cast
abbrev pub after_cast : List Class
after_cast = Keyword keyword.As ∷ after_unary

-- the classes that go on with a product
abbrev pub after_product : List Class
after_product = Mark STAR ∷ Mark SLASH ∷ Mark PERCENT ∷ after_cast

-- the classes that go on with a sum
abbrev pub after_sum : List Class
after_sum = Mark PLUS ∷ Mark MINUS ∷ after_product

-- the classes that go on with a shift
abbrev pub after_shift : List Class
after_shift = Mark SHIFT_LEFT ∷ Mark SHIFT_RIGHT ∷ after_sum

-- the classes that go on with a chain of `&`
abbrev pub after_and : List Class
after_and = Mark AMPERSAND ∷ after_shift

-- the classes that go on with a chain of `^`
abbrev pub after_xor : List Class
after_xor = Mark CARET ∷ after_and

-- the classes that go on with a chain of `|`
abbrev pub after_bits : List Class
after_bits = Mark BAR ∷ after_xor

-- the classes that go on with a comparison
abbrev pub after_comparison : List Class
after_comparison = Mark EQUAL ∷ Mark NOT_EQUAL ∷ Mark LESS ∷ Mark LESS_OR_EQUAL ∷ Mark GREATER ∷ Mark GREATER_OR_EQUAL ∷ after_bits

-- the classes that go on with a chain of `and`
abbrev pub after_both : List Class
after_both = Keyword keyword.And ∷ after_comparison

-- the classes that go on with an expression
abbrev pub after_expression : List Class
after_expression = Keyword keyword.Or ∷ after_both

-- the classes that a statement begins with
abbrev pub statement_starts : List Class
statement_starts =
    Keyword keyword.Var ∷ Keyword keyword.Let ∷ Keyword keyword.Const ∷ AnyName ∷ Keyword keyword.Await ∷ Keyword keyword.Run
    ∷ Keyword keyword.Cobegin ∷ Keyword keyword.When ∷ Keyword keyword.Repeat ∷ Keyword keyword.While ∷ Keyword keyword.If ∷ Keyword keyword.Return ∷ []

-- the classes that go on with a statement
abbrev pub after_statement : List Class
after_statement = Mark ASSIGN ∷ after_expression

-- the classes that go on with a block
abbrev pub after_block : List Class
after_block = statement_starts ++ after_statement

-- the classes that go on with a program
abbrev pub after_program : List Class
after_program = Keyword keyword.Struct ∷ Keyword keyword.Const ∷ Mark AT ∷ Keyword keyword.Function ∷ Keyword keyword.Activity ∷ after_expression

-- the classes that never follow a part, since they would go on with it or with what it ends with
unfoldable pub avoided : Part → List Class
avoided Program = after_program
avoided Item = after_expression
avoided Fields = Keyword keyword.Var ∷ []
avoided Constant = after_expression
avoided TypeMark = Mark COLON ∷ []
avoided SecondParams = Mark OPEN_PAREN ∷ []
avoided ParamList = AnyName ∷ Mark COMMA ∷ []
avoided ParamRest = Mark COMMA ∷ []
avoided Returns = Keyword keyword.Returns ∷ []
avoided Block = after_block
avoided Stmt = after_statement
avoided VarTail = after_statement
avoided Initial = after_statement
avoided AfterName = after_expression
avoided CallTail = Mark OPEN_PAREN ∷ []
avoided AssignTail = after_expression
avoided Accesses = Mark DOT ∷ Mark OPEN_BRACKET ∷ []
avoided RunTail = Mark OPEN_PAREN ∷ []
avoided RunTarget = Mark OPEN_PAREN ∷ []
avoided Weak = Keyword keyword.Weak ∷ []
avoided Branches = Keyword keyword.With ∷ Keyword keyword.Weak ∷ after_block
avoided Until = Keyword keyword.Until ∷ after_expression
avoided Elseifs = Keyword keyword.Elseif ∷ after_block
avoided Else = Keyword keyword.Else ∷ after_block
avoided AfterReturn = after_expression
avoided InputList = Mark COMMA ∷ expression_starts ++ after_expression
avoided InputRest = Mark COMMA ∷ after_expression
avoided SecondOutputs = Mark OPEN_PAREN ∷ []
avoided OutputList = AnyName ∷ Mark COMMA ∷ Mark DOT ∷ []
avoided OutputRest = Mark COMMA ∷ Mark DOT ∷ []
avoided Path = Mark DOT ∷ []
avoided PathRest = Mark DOT ∷ []
avoided Expr = after_expression
avoided ExprRest = after_expression
avoided And = after_both
avoided AndRest = after_both
avoided Comparison = after_comparison
avoided ComparisonRest = after_comparison
avoided BitOr = after_bits
avoided BitOrRest = after_bits
avoided BitXor = after_xor
avoided BitXorRest = after_xor
avoided BitAnd = after_and
avoided BitAndRest = after_and
avoided Shift = after_shift
avoided ShiftRest = after_shift
avoided Sum = after_sum
avoided SumRest = after_sum
avoided Product = after_product
avoided ProductRest = after_product
avoided Cast = after_cast
avoided CastRest = after_cast
avoided Unary = after_unary
avoided Primary = after_unary
avoided NameUse = after_unary
avoided NoOutputs = Mark OPEN_PAREN ∷ []
avoided _ = []

-- the least height of a derivation from a part to tokens alone
unfoldable pub height : Part → ℕ
height Item = 3
height Struct = 2
height Field = 1
height Constant = 12
height Unit = 5
height PlainUnit = 4
height UnitTail = 3
height Params = 2
height Param = 1
height Stmt = 2
height VarTail = 1
height AfterName = 3
height CallTail = 2
height AssignTail = 12
height RunTail = 3
height RunTarget = 3
height Inputs = 1
height Outputs = 1
height Path = 1
height Expr = 11
height And = 10
height Comparison = 9
height BitOr = 8
height BitXor = 7
height BitAnd = 6
height Shift = 5
height Sum = 4
height Product = 3
height Cast = 2
height Unary = 1
height _ = 0

-- the greatest number of productions in turn that begin a production, where those of the parts are known
abbrev pub depth_of : (Part → ℕ) → List (List Piece) → ℕ
depth_of known [] = 1
depth_of known ([] ∷ others) = depth_of known others
depth_of known ((Terminal class ∷ rest) ∷ others) = depth_of known others
depth_of known ((Nonterminal part ∷ rest) ∷ others) = max (known part + 1) (depth_of known others)

-- the greatest number of productions in turn that begin a part before a token is read, computed up to n levels
abbrev pub depth_within : ℕ → Part → ℕ
depth_within zero part = 1
depth_within (suc n) part = depth_of (depth_within n) (productions part)

-- the greatest number of productions in turn that begin a part before a token is read
unfoldable pub depth : Part → ℕ
depth part = depth_within 20 part

-- the parts have less height
abbrev pub are_lower : ℕ → List Piece → Bool
are_lower high [] = true
are_lower high (Terminal class ∷ rest) = are_lower high rest
are_lower high (Nonterminal part ∷ rest) = nat_lt (height part) high && are_lower high rest

-- the first production whose parts have less height
abbrev pub lower_of : ℕ → List (List Piece) → List Piece
lower_of high [] = []
lower_of high (production ∷ others) = cond (are_lower high production) production (lower_of high others)
