-- What is expected where a reader stands, and what it has read.
use Rattle.std.specs.Prelude.{◌≡◌, ℕ, zero, suc, ◌≤◌, Bool, true, false, List, [], ◌∷◌, ◌++◌, length, drop, slice_range, Option, Some, None}
use Rattle.bl_tree.specs.Words.{is_name}
use Rattle.bl_tree.specs.declared.token.Token.{Token}
use Rattle.bl_tree.specs.declared.token.TokenKind.{TokenKind}
use Rattle.bl_parse_syntax.specs.declared.grammar.TokenView.{TokenView}
use Rattle.bl_lex.specs.declared.sign.TheConstants.{DOT, OPEN_BRACKET}
use Rattle.bl_parse_syntax.specs.declared.grammar.Class.{Class}
use Rattle.bl_parse_syntax.specs.declared.grammar.Class.TheVariants.{Mark}
use Rattle.bl_parse_syntax.specs.declared.grammar.Part.{Part}
use Rattle.bl_parse_syntax.specs.declared.grammar.Part.TheVariants.{Accesses, AssignTail, PathRest, RunTarget, Expr, And, Comparison, BitOr, BitXor, BitAnd}
use Rattle.bl_parse_syntax.specs.declared.grammar.Part.TheVariants.{Shift, Sum, Product, Cast}
use Rattle.bl_parse_syntax.specs.Grammar.{Piece, the, views, class_of}
use Rattle.bl_parse_syntax.specs.Tables.{has}
use Rattle.bl_parse_syntax.specs.Expects.{Expects}
use Rattle.bl_parse.specs.At.{kind_at, start_at, end_at}

-- the tokens from a position on, as the grammar sees them
abbrev pub left : List Token → ℕ → List TokenView
left tokens k = drop k (views tokens)

-- the tokens from the position to the end are expected to spell these symbols
pub record Here (symbols : List Piece) (tokens : List Token) (at : ℕ) : Type 0 where
  pub within : at ≤ length tokens
  pub expects : Expects symbols (left tokens at)

-- the symbols are expected at the position, and something after them
pub record Awaits (symbols : List Piece) (tokens : List Token) (at : ℕ) : Type 0 where
  pub rest : List Piece
  pub here : Here (symbols ++ rest) tokens at

-- Between two positions the expected symbols were read up to the others, whatever is expected after them.
pub record Turns (symbols : List Piece) (tokens : List Token) (from : ℕ) (more : List Piece) (to : ℕ) : Type 0 where
  pub goes : (rest : List Piece) → Here (symbols ++ rest) tokens from → Here (more ++ rest) tokens to

-- whether a token of one of the classes stands next
abbrev pub next_among : List Class → Option TokenKind → Bool
next_among classes None = false
next_among classes (Some kind) = has classes (class_of kind)

-- no token of this kind stands next
pub record NotNext (tokens : List Token) (k : ℕ) (kind : TokenKind) : Type 0 where
  pub not : kind_at tokens k ≡ Some kind → ⊥

-- no token of one of the classes stands next
pub record NoneNext (classes : List Class) (tokens : List Token) (k : ℕ) : Type 0 where
  pub off : next_among classes (kind_at tokens k) ≡ false

-- a part that stands alone
abbrev pub just : Part → List Piece
just part = the part ∷ []

-- the parts that go on while a field or an index of a place stands
pub data IsPlaceTail : Part → Type 0 where
  accesses : IsPlaceTail Accesses
  assigned : IsPlaceTail AssignTail

-- the parts that go on while a field stands
pub data IsPathTail : Part → Type 0 where
  path : IsPathTail PathRest
  target : IsPathTail RunTarget

-- a part is expected that goes on while a field or an index stands
pub record AwaitsTail (tokens : List Token) (at : ℕ) : Type 0 where
  pub part : Part
  pub is : IsPlaceTail part
  pub awaits : Awaits (just part) tokens at

-- between two positions only fields and indices of a part that goes on with them were read
pub record KeepsTail (tokens : List Token) (from to : ℕ) : Type 0 where
  pub keeps : (part : Part) → IsPlaceTail part → Turns (just part) tokens from (just part) to

-- a part is expected that goes on while a field stands
pub record AwaitsFields (tokens : List Token) (at : ℕ) : Type 0 where
  pub part : Part
  pub is : IsPathTail part
  pub awaits : Awaits (just part) tokens at

-- between two positions only fields of a part that goes on with them were read
pub record KeepsFields (tokens : List Token) (from to : ℕ) : Type 0 where
  pub keeps : (part : Part) → IsPathTail part → Turns (just part) tokens from (just part) to

-- what a field or an index begins with
abbrev pub accessing : List Class
accessing = Mark DOT ∷ Mark OPEN_BRACKET ∷ []

-- the part that begins with an operand of the level
abbrev pub operand : ℕ → Part
operand zero = Expr
operand (suc zero) = And
operand (suc (suc zero)) = Comparison
operand (suc (suc (suc zero))) = BitOr
operand (suc (suc (suc (suc zero)))) = BitXor
operand (suc (suc (suc (suc (suc zero))))) = BitAnd
operand (suc (suc (suc (suc (suc (suc zero)))))) = Shift
operand (suc (suc (suc (suc (suc (suc (suc zero))))))) = Sum
operand (suc (suc (suc (suc (suc (suc (suc (suc zero)))))))) = Product
operand _ = Cast

-- where a token is a name, the text has one there
pub record NamesStand (text : List ℕ) (tokens : List Token) : Type 0 where
  pub in_order : (k : ℕ) → kind_at tokens k ≡ Some TokenKind.Name → start_at tokens k ≤ end_at tokens k
  pub inside : (k : ℕ) → kind_at tokens k ≡ Some TokenKind.Name → end_at tokens k ≤ length text
  pub named : (k : ℕ) → kind_at tokens k ≡ Some TokenKind.Name → is_name (slice_range text (start_at tokens k) (end_at tokens k)) ≡ true
