-- The grammar over tokens (docs/LANGUAGE.md, "Grammar"), with common beginnings joined.
use Rattle.std.specs.Prelude.{◌≡◌, ℕ, ◌==◌, Bool, true, false, not, ◌&&◌, nat_eq, List, [], ◌∷◌, Option, Some, None}
use Rattle.std.specs.List.{list_any}
use Rattle.bl_tree.specs.declared.token.Token.{Token}
use Rattle.bl_tree.specs.declared.token.TokenKind.{TokenKind}
use Rattle.bl_tree.specs.declared.token.TokenKind.TheVariants.{Name, Number, Word, Sign}
use Rattle.bl_grammar.specs.declared.symbol.Symbol.{Symbol}
use Rattle.bl_grammar.specs.declared.symbol.Symbol.TheVariants.{Terminal, Nonterminal}
use Rattle.bl_grammar.specs.Derivations
use Rattle.bl_tree.specs.declared.token.Keyword.{Keyword as AnyKeyword}
use Rattle.bl_tree.specs.declared.token.Keyword.TheVariants as keyword
use Rattle.bl_tree.specs.Keywords.{same_word}
use Rattle.bl_lex.specs.declared.sign.TheConstants.{COLON, ASSIGN, AT, OPEN_BRACKET, CLOSE_BRACKET, OPEN_PAREN, CLOSE_PAREN, COMMA, DOT, EQUAL, NOT_EQUAL, LESS}
use Rattle.bl_lex.specs.declared.sign.TheConstants.{LESS_OR_EQUAL, GREATER, GREATER_OR_EQUAL, BAR, CARET, AMPERSAND, SHIFT_LEFT, SHIFT_RIGHT, PLUS, MINUS, STAR}
use Rattle.bl_lex.specs.declared.sign.TheConstants.{SLASH, PERCENT, TILDE}
use Rattle.bl_parse_syntax.specs.declared.grammar.Class.{Class}
use Rattle.bl_parse_syntax.specs.declared.grammar.Class.TheVariants.{AnyName, AnyNumber, Keyword, Mark}
use Rattle.bl_parse_syntax.specs.declared.grammar.TokenView.{TokenView}
use Rattle.bl_parse_syntax.specs.declared.grammar.Part.{Part}
use Rattle.bl_parse_syntax.specs.declared.grammar.Part.TheVariants.{Program, Item, Struct, Field, Fields, Constant, TypeMark, Unit, PlainUnit, UnitTail, Params}
use Rattle.bl_parse_syntax.specs.declared.grammar.Part.TheVariants.{SecondParams, ParamList, ParamRest, Param, Returns, Ty, Scalar, Length, Block, Stmt}
use Rattle.bl_parse_syntax.specs.declared.grammar.Part.TheVariants.{VarTail, Initial, AfterName, CallTail, AssignTail, Access, Accesses, RunTail, RunTarget}
use Rattle.bl_parse_syntax.specs.declared.grammar.Part.TheVariants.{Weak, Branches, Guard, Until, Elseifs, Else, AfterReturn, Inputs, InputList, InputRest}
use Rattle.bl_parse_syntax.specs.declared.grammar.Part.TheVariants.{Outputs, SecondOutputs, OutputList, OutputRest, Path, PathRest, Expr, ExprRest, And}
use Rattle.bl_parse_syntax.specs.declared.grammar.Part.TheVariants.{AndRest, Comparison, ComparisonRest, BitOr, BitOrRest, BitXor, BitXorRest, BitAnd}
use Rattle.bl_parse_syntax.specs.declared.grammar.Part.TheVariants.{BitAndRest, Shift, ShiftRest, Sum, SumRest, Product, ProductRest, Cast, CastRest, Unary}
use Rattle.bl_parse_syntax.specs.declared.grammar.Part.TheVariants.{Primary, NameUse, NoOutputs}

-- the class of a token of this kind
abbrev pub class_of : TokenKind → Class
class_of Name = AnyName
class_of (Number value) = AnyNumber
class_of (Word k) = Keyword k
class_of (Sign k) = Mark k

-- the line is not that of the token before
abbrev pub is_fresh : Option ℕ → ℕ → Bool
is_fresh None line = true
is_fresh (Some before) line = not (before == line)

-- the token as the grammar sees it, after a token on this line
abbrev pub view_of : Option ℕ → Token → TokenView
view_of before token = record { class = class_of token.kind; fresh = is_fresh before token.line }

-- the tokens as the grammar sees them, after a token on this line
abbrev pub views_after : Option ℕ → List Token → List TokenView
views_after before [] = []
views_after before (token ∷ tokens) = view_of before token ∷ views_after (Some token.line) tokens

-- the tokens of a text as the grammar sees them
abbrev pub views : List Token → List TokenView
views tokens = views_after None tokens

-- the line of the last token, if there is one, and else this one
abbrev pub last_line : Option ℕ → List Token → Option ℕ
last_line before [] = before
last_line before (token ∷ tokens) = last_line (Some token.line) tokens

-- whether two classes are equal
abbrev pub same_class : Class → Class → Bool
same_class AnyName AnyName = true
same_class AnyNumber AnyNumber = true
same_class (Keyword k) (Keyword n) = same_word k n
same_class (Mark k) (Mark n) = nat_eq k n
same_class _ _ = false

-- the token is of the class
abbrev pub matches : Class → TokenView → Bool
matches class view = same_class class view.class

-- a symbol of a production: a token class or a part
abbrev pub Piece : Type 0
Piece = Symbol Class Part

-- any name
abbrev pub name : Piece
name = Terminal AnyName

-- any number
abbrev pub number : Piece
number = Terminal AnyNumber

-- the keyword with this position
abbrev pub word : AnyKeyword → Piece
word k = Terminal (Keyword k)

-- the sign with this position
abbrev pub sign : ℕ → Piece
sign k = Terminal (Mark k)

-- a part of the grammar
abbrev pub the : Part → Piece
the part = Nonterminal part

-- the productions of each part; `[]` says that the part may be absent
abbrev pub productions : Part → List (List Piece)
productions Program = (the Item ∷ the Program ∷ []) ∷ [] ∷ []
productions Item = (the Struct ∷ []) ∷ (the Constant ∷ []) ∷ (the Unit ∷ []) ∷ []
productions Struct = (word keyword.Struct ∷ name ∷ the Field ∷ the Fields ∷ word keyword.End ∷ []) ∷ []
productions Field = (word keyword.Var ∷ name ∷ sign COLON ∷ the Ty ∷ []) ∷ []
productions Fields = (the Field ∷ the Fields ∷ []) ∷ [] ∷ []
productions Constant = (word keyword.Const ∷ name ∷ the TypeMark ∷ sign ASSIGN ∷ the Expr ∷ []) ∷ []
productions TypeMark = (sign COLON ∷ the Ty ∷ []) ∷ [] ∷ []
-- the name is `EntryPoint`: rule Profile leaves out every other name after `@ [`
productions Unit = (sign AT ∷ sign OPEN_BRACKET ∷ name ∷ sign CLOSE_BRACKET ∷ the PlainUnit ∷ []) ∷ (the PlainUnit ∷ []) ∷ []
productions PlainUnit = (word keyword.Function ∷ name ∷ the UnitTail ∷ []) ∷ (word keyword.Activity ∷ name ∷ the UnitTail ∷ []) ∷ []
productions UnitTail = (the Params ∷ the SecondParams ∷ the Returns ∷ the Block ∷ word keyword.End ∷ []) ∷ []
productions Params = (sign OPEN_PAREN ∷ the ParamList ∷ sign CLOSE_PAREN ∷ []) ∷ []
productions SecondParams = (the Params ∷ []) ∷ [] ∷ []
productions ParamList = (the Param ∷ the ParamRest ∷ []) ∷ [] ∷ []
productions ParamRest = (sign COMMA ∷ the Param ∷ the ParamRest ∷ []) ∷ [] ∷ []
productions Param = (name ∷ sign COLON ∷ the Ty ∷ []) ∷ []
productions Returns = (word keyword.Returns ∷ the Ty ∷ []) ∷ [] ∷ []
productions Ty = (the Scalar ∷ []) ∷ (name ∷ []) ∷ (sign OPEN_BRACKET ∷ the Length ∷ sign CLOSE_BRACKET ∷ the Ty ∷ []) ∷ []
productions Scalar =
    (word keyword.Bool ∷ []) ∷ (word keyword.Int8 ∷ []) ∷ (word keyword.Int16 ∷ []) ∷ (word keyword.Int32 ∷ []) ∷ (word keyword.Int64 ∷ []) ∷
    (word keyword.Nat8 ∷ []) ∷ (word keyword.Nat16 ∷ []) ∷ (word keyword.Nat32 ∷ []) ∷ (word keyword.Nat64 ∷ []) ∷
    (word keyword.Bits8 ∷ []) ∷ (word keyword.Bits16 ∷ []) ∷ (word keyword.Bits32 ∷ []) ∷ (word keyword.Bits64 ∷ []) ∷ []
productions Length = (number ∷ []) ∷ (name ∷ []) ∷ []
productions Block = (the Stmt ∷ the Block ∷ []) ∷ [] ∷ []
productions Stmt =
    (word keyword.Var ∷ name ∷ the VarTail ∷ []) ∷
    (word keyword.Let ∷ name ∷ the TypeMark ∷ sign ASSIGN ∷ the Expr ∷ []) ∷
    (the Constant ∷ []) ∷
    (name ∷ the AfterName ∷ []) ∷
    (word keyword.Await ∷ the Expr ∷ []) ∷
    (word keyword.Run ∷ name ∷ the RunTail ∷ []) ∷
    (word keyword.Cobegin ∷ the Weak ∷ the Block ∷ the Branches ∷ word keyword.End ∷ []) ∷
    (word keyword.When ∷ the Expr ∷ the Guard ∷ the Block ∷ word keyword.End ∷ []) ∷
    (word keyword.Repeat ∷ the Block ∷ the Until ∷ word keyword.End ∷ []) ∷
    (word keyword.While ∷ the Expr ∷ word keyword.Repeat ∷ the Block ∷ word keyword.End ∷ []) ∷
    (word keyword.If ∷ the Expr ∷ word keyword.Then ∷ the Block ∷ the Elseifs ∷ the Else ∷ word keyword.End ∷ []) ∷
    (word keyword.Return ∷ the AfterReturn ∷ []) ∷ []
productions VarTail = (sign COLON ∷ the Ty ∷ the Initial ∷ []) ∷ (sign ASSIGN ∷ the Expr ∷ []) ∷ []
productions Initial = (sign ASSIGN ∷ the Expr ∷ []) ∷ [] ∷ []
productions AfterName = (the CallTail ∷ []) ∷ (the AssignTail ∷ []) ∷ []
productions CallTail = (the Inputs ∷ the SecondOutputs ∷ []) ∷ []
productions AssignTail = (sign ASSIGN ∷ the Expr ∷ []) ∷ (the Access ∷ the AssignTail ∷ []) ∷ []
productions Access = (sign DOT ∷ name ∷ []) ∷ (sign OPEN_BRACKET ∷ the Expr ∷ sign CLOSE_BRACKET ∷ []) ∷ []
productions Accesses = (the Access ∷ the Accesses ∷ []) ∷ [] ∷ []
productions RunTail = (the CallTail ∷ []) ∷ (the RunTarget ∷ []) ∷ []
productions RunTarget = (sign DOT ∷ name ∷ the RunTarget ∷ []) ∷ (sign ASSIGN ∷ name ∷ the CallTail ∷ []) ∷ []
productions Weak = (word keyword.Weak ∷ []) ∷ [] ∷ []
productions Branches = (word keyword.With ∷ the Weak ∷ the Block ∷ the Branches ∷ []) ∷ [] ∷ []
productions Guard = (word keyword.Abort ∷ []) ∷ (word keyword.Reset ∷ []) ∷ []
productions Until = (word keyword.Until ∷ the Expr ∷ []) ∷ [] ∷ []
productions Elseifs = (word keyword.Elseif ∷ the Expr ∷ word keyword.Then ∷ the Block ∷ the Elseifs ∷ []) ∷ [] ∷ []
productions Else = (word keyword.Else ∷ the Block ∷ []) ∷ [] ∷ []
productions AfterReturn = (the Expr ∷ []) ∷ [] ∷ []
productions Inputs = (sign OPEN_PAREN ∷ the InputList ∷ sign CLOSE_PAREN ∷ []) ∷ []
productions InputList = (the Expr ∷ the InputRest ∷ []) ∷ [] ∷ []
productions InputRest = (sign COMMA ∷ the Expr ∷ the InputRest ∷ []) ∷ [] ∷ []
productions Outputs = (sign OPEN_PAREN ∷ the OutputList ∷ sign CLOSE_PAREN ∷ []) ∷ []
productions SecondOutputs = (the Outputs ∷ []) ∷ [] ∷ []
productions OutputList = (the Path ∷ the OutputRest ∷ []) ∷ [] ∷ []
productions OutputRest = (sign COMMA ∷ the Path ∷ the OutputRest ∷ []) ∷ [] ∷ []
productions Path = (name ∷ the PathRest ∷ []) ∷ []
productions PathRest = (sign DOT ∷ name ∷ the PathRest ∷ []) ∷ [] ∷ []
productions Expr = (the And ∷ the ExprRest ∷ []) ∷ []
productions ExprRest = (word keyword.Or ∷ the And ∷ the ExprRest ∷ []) ∷ [] ∷ []
productions And = (the Comparison ∷ the AndRest ∷ []) ∷ []
productions AndRest = (word keyword.And ∷ the Comparison ∷ the AndRest ∷ []) ∷ [] ∷ []
productions Comparison = (the BitOr ∷ the ComparisonRest ∷ []) ∷ []
productions ComparisonRest =
    (sign EQUAL ∷ the BitOr ∷ []) ∷ (sign NOT_EQUAL ∷ the BitOr ∷ []) ∷ (sign LESS ∷ the BitOr ∷ []) ∷
    (sign LESS_OR_EQUAL ∷ the BitOr ∷ []) ∷ (sign GREATER ∷ the BitOr ∷ []) ∷ (sign GREATER_OR_EQUAL ∷ the BitOr ∷ []) ∷ [] ∷ []
productions BitOr = (the BitXor ∷ the BitOrRest ∷ []) ∷ []
productions BitOrRest = (sign BAR ∷ the BitXor ∷ the BitOrRest ∷ []) ∷ [] ∷ []
productions BitXor = (the BitAnd ∷ the BitXorRest ∷ []) ∷ []
productions BitXorRest = (sign CARET ∷ the BitAnd ∷ the BitXorRest ∷ []) ∷ [] ∷ []
productions BitAnd = (the Shift ∷ the BitAndRest ∷ []) ∷ []
productions BitAndRest = (sign AMPERSAND ∷ the Shift ∷ the BitAndRest ∷ []) ∷ [] ∷ []
productions Shift = (the Sum ∷ the ShiftRest ∷ []) ∷ []
productions ShiftRest = (sign SHIFT_LEFT ∷ the Sum ∷ the ShiftRest ∷ []) ∷ (sign SHIFT_RIGHT ∷ the Sum ∷ the ShiftRest ∷ []) ∷ [] ∷ []
productions Sum = (the Product ∷ the SumRest ∷ []) ∷ []
productions SumRest = (sign PLUS ∷ the Product ∷ the SumRest ∷ []) ∷ (sign MINUS ∷ the Product ∷ the SumRest ∷ []) ∷ [] ∷ []
productions Product = (the Cast ∷ the ProductRest ∷ []) ∷ []
productions ProductRest =
    (sign STAR ∷ the Cast ∷ the ProductRest ∷ []) ∷ (sign SLASH ∷ the Cast ∷ the ProductRest ∷ []) ∷
    (sign PERCENT ∷ the Cast ∷ the ProductRest ∷ []) ∷ [] ∷ []
productions Cast = (the Unary ∷ the CastRest ∷ []) ∷ []
productions CastRest = (word keyword.As ∷ the Scalar ∷ the CastRest ∷ []) ∷ [] ∷ []
-- a minus directly before a number makes one literal with it, which spells the same
productions Unary =
    (sign MINUS ∷ the Unary ∷ []) ∷ (sign TILDE ∷ the Unary ∷ []) ∷ (word keyword.Not ∷ the Unary ∷ []) ∷ (the Primary ∷ []) ∷ []
productions Primary =
    (number ∷ []) ∷ (word keyword.True ∷ []) ∷ (word keyword.False ∷ []) ∷ (word keyword.Prev ∷ name ∷ []) ∷ (name ∷ the NameUse ∷ []) ∷
    (sign OPEN_PAREN ∷ the Expr ∷ sign CLOSE_PAREN ∷ []) ∷ []
productions NameUse = (the Inputs ∷ the NoOutputs ∷ []) ∷ (the Access ∷ the Accesses ∷ []) ∷ [] ∷ []
productions NoOutputs = (sign OPEN_PAREN ∷ sign CLOSE_PAREN ∷ []) ∷ [] ∷ []

-- the classes that an expression can begin with
abbrev pub expression_starts : List Class
expression_starts = Mark MINUS ∷ Mark TILDE ∷ Keyword keyword.Not ∷ AnyNumber ∷ Keyword keyword.True ∷ Keyword keyword.False ∷ Keyword keyword.Prev ∷ AnyName
    ∷ Mark OPEN_PAREN ∷ []

-- a token of the class can begin an expression
abbrev pub begins_expression : Class → Bool
begins_expression class = list_any (λ start. same_class start class) expression_starts

-- the token after `return` begins its expression: it stands on the same line and can begin one
abbrev pub continues : Option TokenView → Bool
continues None = false
continues (Some next) = not next.fresh && begins_expression next.class

-- the production may stand before this next token: a `return` has an expression exactly where the next token continues it
abbrev pub may_stand : Part → Option TokenView → List Piece → Bool
may_stand AfterReturn next [] = not (continues next)
may_stand AfterReturn next (first ∷ rest) = continues next
may_stand _ next production = true

-- a production is one of a list
pub data IsAmong (production : List Piece) : List (List Piece) → Type 0 where
  here : {others : List (List Piece)} → IsAmong production (production ∷ others)
  later : {other : List Piece} {others : List (List Piece)} → IsAmong production others → IsAmong production (other ∷ others)

-- the part may stand for these symbols before this next token
abbrev pub Produces : Part → Option TokenView → List Piece → Type 0
Produces part next production = IsAmong production (productions part) × (may_stand part next production ≡ true)

-- the symbols stand for the tokens up to these that are left
abbrev pub SourceDerives : List Piece → List TokenView → List TokenView → Type 0
SourceDerives symbols tokens left = Derivations.Derives Produces matches symbols tokens left

-- the tokens spell a program
abbrev pub IsProgram : List TokenView → Type 0
IsProgram tokens = SourceDerives (the Program ∷ []) tokens []
