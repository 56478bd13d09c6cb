-- Operators, and how tightly they bind.
use Rattle.std.specs.Prelude.{ℕ, ◌+◌, ◌≤◌, List, [], ◌∷◌, Bool, true, ◌||◌, nat_eq, if◌then◌else◌}
use Rattle.bl_tree.specs.declared.scalar.Op.{Op}
use Rattle.bl_tree.specs.declared.scalar.Scalar.{Scalar}
use Rattle.bl_tree.specs.declared.scalar.Scalar.TheVariants.{Bool as OfBool, Int, Nat, Bits}
use Rattle.bl_tree.specs.declared.scalar.Width.TheVariants.{W8, W16, W32, W64}
use Rattle.bl_tree.specs.declared.token.Token.{Token}
use Rattle.bl_tree.specs.declared.token.TokenKind.{TokenKind}
use Rattle.bl_tree.specs.declared.token.TokenKind.TheVariants.{Name, Number, Word, Sign}
use Rattle.bl_lex.specs.declared.sign.TheConstants.{EQUAL, NOT_EQUAL, LESS, LESS_OR_EQUAL, GREATER, GREATER_OR_EQUAL, PLUS, MINUS, STAR, SLASH, PERCENT}
use Rattle.bl_lex.specs.declared.sign.TheConstants.{AMPERSAND, BAR, CARET, TILDE, SHIFT_LEFT, SHIFT_RIGHT, OPEN_PAREN}
use Rattle.bl_parse_syntax.specs.declared.grammar.Class.{Class}
use Rattle.bl_parse_syntax.specs.declared.grammar.Class.TheVariants.{Keyword, Mark}
use Rattle.bl_parse.specs.At.{Takes}
use Rattle.bl_tree.specs.declared.token.Keyword.TheVariants as keyword
use Rattle.bl_tree.specs.Keywords.{same_word}

-- the level of a comparison
abbrev pub comparing : ℕ
comparing = 2

-- the level of `as`
abbrev pub casting : ℕ
casting = 9

-- the level of `-`, `~` and `not`
abbrev pub prefixing : ℕ
prefixing = 10

-- the operators with two operands, each with its level: a greater one binds more tightly
pub data IsOperator : TokenKind → ℕ → Op → Type 0 where
  either : IsOperator (Word keyword.Or) 0 Op.Or
  both : IsOperator (Word keyword.And) 1 Op.And
  equal : IsOperator (Sign EQUAL) 2 Op.Eq
  differs : IsOperator (Sign NOT_EQUAL) 2 Op.Ne
  less : IsOperator (Sign LESS) 2 Op.Lt
  at_most : IsOperator (Sign LESS_OR_EQUAL) 2 Op.Le
  greater : IsOperator (Sign GREATER) 2 Op.Gt
  at_least : IsOperator (Sign GREATER_OR_EQUAL) 2 Op.Ge
  bits_or : IsOperator (Sign BAR) 3 Op.BitOr
  bits_xor : IsOperator (Sign CARET) 4 Op.BitXor
  bits_and : IsOperator (Sign AMPERSAND) 5 Op.BitAnd
  shift_left : IsOperator (Sign SHIFT_LEFT) 6 Op.Shl
  shift_right : IsOperator (Sign SHIFT_RIGHT) 6 Op.Shr
  plus : IsOperator (Sign PLUS) 7 Op.Add
  minus : IsOperator (Sign MINUS) 7 Op.Sub
  times : IsOperator (Sign STAR) 8 Op.Mul
  divided : IsOperator (Sign SLASH) 8 Op.Div
  remainder : IsOperator (Sign PERCENT) 8 Op.Rem

-- the level of a left operand: chains associate to the left, and comparisons make none
abbrev pub left_level : ℕ → ℕ
left_level level = if nat_eq level comparing then 3 else level

-- the token is an operator with two operands
pub record SpellsInfix (tokens : List Token) (level : ℕ) (op : Op) (from to : ℕ) : Type 0 where
  pub kind : TokenKind
  pub token : Takes tokens kind from to
  pub is : IsOperator kind level op

-- the operators before one operand
pub data IsPrefix : TokenKind → Op → Type 0 where
  negation : IsPrefix (Sign MINUS) Op.Minus
  complement : IsPrefix (Sign TILDE) Op.BitNot
  denial : IsPrefix (Word keyword.Not) Op.Not

-- the token is an operator before one operand
pub record SpellsPrefix (tokens : List Token) (op : Op) (from to : ℕ) : Type 0 where
  pub kind : TokenKind
  pub token : Takes tokens kind from to
  pub is : IsPrefix kind op

-- the words of the types without parts
pub data IsScalar : TokenKind → Scalar → Type 0 where
  bool : IsScalar (Word keyword.Bool) OfBool
  int8 : IsScalar (Word keyword.Int8) (Int W8)
  int16 : IsScalar (Word keyword.Int16) (Int W16)
  int32 : IsScalar (Word keyword.Int32) (Int W32)
  int64 : IsScalar (Word keyword.Int64) (Int W64)
  nat8 : IsScalar (Word keyword.Nat8) (Nat W8)
  nat16 : IsScalar (Word keyword.Nat16) (Nat W16)
  nat32 : IsScalar (Word keyword.Nat32) (Nat W32)
  nat64 : IsScalar (Word keyword.Nat64) (Nat W64)
  bits8 : IsScalar (Word keyword.Bits8) (Bits W8)
  bits16 : IsScalar (Word keyword.Bits16) (Bits W16)
  bits32 : IsScalar (Word keyword.Bits32) (Bits W32)
  bits64 : IsScalar (Word keyword.Bits64) (Bits W64)

-- the token names a type without parts
pub record SpellsScalar (tokens : List Token) (s : Scalar) (from to : ℕ) : Type 0 where
  pub kind : TokenKind
  pub token : Takes tokens kind from to
  pub is : IsScalar kind s

-- whether an expression may begin with the token
abbrev pub begins_expr : TokenKind → Bool
begins_expr Name = true
begins_expr (Number n) = true
begins_expr (Sign k) = nat_eq k OPEN_PAREN || (nat_eq k MINUS || nat_eq k TILDE)
begins_expr (Word k) = same_word k keyword.Not || (same_word k keyword.True || (same_word k keyword.False || same_word k keyword.Prev))

-- the words of the types without parts, as the grammar sees them
abbrev pub scalar_classes : List Class
scalar_classes =
    Keyword keyword.Bool ∷ Keyword keyword.Int8 ∷ Keyword keyword.Int16 ∷ Keyword keyword.Int32 ∷ Keyword keyword.Int64 ∷
    Keyword keyword.Nat8 ∷ Keyword keyword.Nat16 ∷ Keyword keyword.Nat32 ∷ Keyword keyword.Nat64 ∷
    Keyword keyword.Bits8 ∷ Keyword keyword.Bits16 ∷ Keyword keyword.Bits32 ∷ Keyword keyword.Bits64 ∷ []

-- the operators with two operands, as the grammar sees them
abbrev pub operator_classes : List Class
operator_classes =
    Keyword keyword.Or ∷ Keyword keyword.And ∷ Mark EQUAL ∷ Mark NOT_EQUAL ∷ Mark LESS ∷ Mark LESS_OR_EQUAL ∷ Mark GREATER ∷ Mark GREATER_OR_EQUAL ∷
    Mark BAR ∷ Mark CARET ∷ Mark AMPERSAND ∷ Mark SHIFT_LEFT ∷ Mark SHIFT_RIGHT ∷ Mark PLUS ∷ Mark MINUS ∷ Mark STAR ∷ Mark SLASH
    ∷ Mark PERCENT ∷ []

-- no operator stands at the position that binds as tightly as the level and takes a left operand of the bound
abbrev pub NoInfix : List Token → ℕ → ℕ → ℕ → Type 0
NoInfix tokens level bound at = (own : ℕ) (op : Op) → SpellsInfix tokens own op at (at + 1) → level ≤ own → left_level own ≤ bound → ⊥
