-- Tokens as the language of faces sees them.
use Rattle.std.specs.Prelude.{ℕ, true, false, List, map, slice_range, ◌==◌, if◌then◌else◌}
use Rattle.bl_tree.specs.declared.scalar.Scalar.TheVariants.{Bool as OfBool, Int, Nat, Bits}
use Rattle.bl_tree.specs.declared.scalar.Width.TheVariants.{W8, W16, W32, W64}
use Rattle.bl_tree.specs.declared.token.Token.{Token}
use Rattle.bl_tree.specs.declared.token.TokenKind.{TokenKind}
use Rattle.bl_tree.specs.declared.token.TokenKind.TheVariants as kind
use Rattle.bl_tree.specs.declared.tree.UnitKind.TheVariants.{Function, Activity}
use Rattle.bl_tree.specs.declared.token.Keyword.{Keyword}
use Rattle.bl_tree.specs.declared.token.Keyword.TheVariants as keyword
use Rattle.bl_tree.specs.Keywords.{same_word}
use Rattle.bl_lex.specs.declared.sign.TheConstants as sign
use Rattle.bl_face.specs.declared.class.Class.{Class}
use Rattle.bl_face.specs.declared.class.Class.TheVariants as class
use Rattle.bl_face.specs.declared.class.Mark.{Mark}
use Rattle.bl_face.specs.declared.class.Mark.TheVariants as mark

-- the mark of a word for a bits type
abbrev pub bits_of_word : Keyword → Mark
bits_of_word k =
    if same_word k keyword.Bits8 then mark.Scalar (Bits W8)
    else (if same_word k keyword.Bits16 then mark.Scalar (Bits W16)
    else (if same_word k keyword.Bits32 then mark.Scalar (Bits W32)
    else (if same_word k keyword.Bits64 then mark.Scalar (Bits W64) else mark.Other)))

-- the mark of a word for a scalar type
abbrev pub scalar_of_word : Keyword → Mark
scalar_of_word k =
    if same_word k keyword.Bool then mark.Scalar OfBool
    else (if same_word k keyword.Int8 then mark.Scalar (Int W8)
    else (if same_word k keyword.Int16 then mark.Scalar (Int W16)
    else (if same_word k keyword.Int32 then mark.Scalar (Int W32)
    else (if same_word k keyword.Int64 then mark.Scalar (Int W64)
    else (if same_word k keyword.Nat8 then mark.Scalar (Nat W8)
    else (if same_word k keyword.Nat16 then mark.Scalar (Nat W16)
    else (if same_word k keyword.Nat32 then mark.Scalar (Nat W32)
    else (if same_word k keyword.Nat64 then mark.Scalar (Nat W64) else bits_of_word k))))))))

-- the mark of a keyword
abbrev pub class_of_word : Keyword → Mark
class_of_word k =
    if same_word k keyword.Struct then mark.Struct
    else (if same_word k keyword.Const then mark.Const
    else (if same_word k keyword.Function then mark.Unit Function
    else (if same_word k keyword.Activity then mark.Unit Activity
    else (if same_word k keyword.Var then mark.Var
    else (if same_word k keyword.End then mark.End
    else (if same_word k keyword.Returns then mark.Returns
    else (if same_word k keyword.True then mark.Truth true
    else (if same_word k keyword.False then mark.Truth false else scalar_of_word k))))))))

-- the mark of a sign, by its number
abbrev pub class_of_sign : ℕ → Mark
class_of_sign k =
    if k == sign.COLON then mark.Colon
    else (if k == sign.COMMA then mark.Comma
    else (if k == sign.ASSIGN then mark.Assign
    else (if k == sign.MINUS then mark.Minus
    else (if k == sign.OPEN_PAREN then mark.OpenParen
    else (if k == sign.CLOSE_PAREN then mark.CloseParen
    else (if k == sign.OPEN_BRACKET then mark.OpenBracket
    else (if k == sign.CLOSE_BRACKET then mark.CloseBracket else mark.Other)))))))

-- the class of a token of this kind
abbrev pub class_of : TokenKind → Class
class_of kind.Name = class.Name
class_of (kind.Number n) = class.Mark (mark.Number n)
class_of (kind.Word k) = class.Mark (class_of_word k)
class_of (kind.Sign k) = class.Mark (class_of_sign k)

-- a name with its text, or another token
pub data Lexeme : Type 0 where
  named : List ℕ → Lexeme
  marked : Mark → Lexeme

-- the lexeme of a class, where a name has this text
abbrev pub lexeme_of : Class → List ℕ → Lexeme
lexeme_of class.Name text = Lexeme.named text
lexeme_of (class.Mark mark) text = Lexeme.marked mark

-- the lexeme of a token of a text
abbrev pub lexeme_at : List ℕ → Token → Lexeme
lexeme_at text token = lexeme_of (class_of token.kind) (slice_range text token.place.start token.place.end)

-- the lexemes of the tokens of a text
abbrev pub lexemes : List ℕ → List Token → List Lexeme
lexemes text tokens = map (lexeme_at text) tokens
