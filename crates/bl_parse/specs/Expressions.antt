-- How tokens spell an expression.
use Rattle.std.specs.Prelude.{◌≡◌, ℕ, ◌+◌, ◌≤◌, List, [], ◌∷◌, ◌++◌, Bool, true, false, Option, Some}
use Rattle.bl_tree.specs.declared.place.Place.{Place}
use Rattle.bl_tree.specs.declared.scalar.Op.{Op}
use Rattle.bl_tree.specs.declared.scalar.Scalar.{Scalar as ScalarType}
use Rattle.bl_tree.specs.declared.token.Token.{Token}
use Rattle.bl_tree.specs.declared.token.TokenKind.{TokenKind}
use Rattle.bl_tree.specs.declared.token.TokenKind.TheVariants.{Number, Word, Sign}
use Rattle.bl_lex.specs.declared.sign.TheConstants.{OPEN_PAREN, CLOSE_PAREN, OPEN_BRACKET, CLOSE_BRACKET, COMMA, DOT, MINUS}
use Rattle.bl_tree.specs.declared.token.Keyword.TheVariants as keyword
use Rattle.bl_parse_tree.specs.declared.expr.RawExpr.{RawExpr, roll-RawExpr}
use Rattle.bl_parse_tree.specs.declared.expr.RawExprKind.{RawExprKind}
use Rattle.bl_parse_tree.specs.declared.expr.RawExprKind as kind
use Rattle.bl_parse_tree.specs.declared.expr.RawPart.{RawPart}
use Rattle.bl_parse_tree.specs.declared.expr.RawPart as step
use Rattle.bl_parse_tree.specs.declared.expr.RawTarget.{RawTarget, roll-RawTarget}
use Rattle.bl_parse_tree.specs.declared.name.Name.{Name}
use Rattle.bl_parse.specs.At.{kind_at, span, SpellsName, Takes}
use Rattle.bl_parse.specs.Operators.{casting, prefixing, left_level, SpellsInfix, SpellsPrefix, SpellsScalar}

-- an expression of a kind at a place
abbrev pub expr : Place → RawExprKind → RawExpr
expr place what = roll-RawExpr (record { place = place; what = what })

-- a target by its place, root and parts
abbrev pub target : Place → Name → List RawPart → RawTarget
target place root parts = roll-RawTarget (record { place = place; root = root; parts = parts })

-- whether a token is a number
abbrev pub is_number : Option TokenKind → Bool
is_number (Some (Number n)) = true
is_number _ = false

-- the words of the two truths
pub data IsTruth : TokenKind → Bool → Type 0 where
  yes : IsTruth (Word keyword.True) true
  no : IsTruth (Word keyword.False) false

-- the token is a truth
pub record SpellsTruth (tokens : List Token) (b : Bool) (from to : ℕ) : Type 0 where
  pub kind : TokenKind
  pub token : Takes tokens kind from to
  pub is : IsTruth kind b

-- nothing, or `( )`
pub data SpellsNone (tokens : List Token) (from to : ℕ) : Type 0 where
  absent : to ≡ from → SpellsNone tokens from to
  empty : {a : ℕ} → Takes tokens (Sign OPEN_PAREN) from a → Takes tokens (Sign CLOSE_PAREN) a to → SpellsNone tokens from to

mutual
  -- The tokens between two positions spell an expression whose operators outside of parentheses bind at least as tightly as the level. Outer parentheses
  -- are outside of its place.
  pub data SpellsExpr (text : List ℕ) (tokens : List Token) : ℕ → RawExpr → ℕ → ℕ → Type 0 where
    -- operand, operator, operand, the right one binding more tightly
    two : {level own : ℕ} {e a b : RawExpr} {from m n to : ℕ} {op : Op} → level ≤ own
        → SpellsExpr text tokens (left_level own) a from m → SpellsInfix tokens own op m n → SpellsExpr text tokens (own + 1) b n to
        → e ≡ expr (span tokens from to) (kind.Two op a b) → SpellsExpr text tokens level e from to
    -- operand, `as`, type
    cast : {level : ℕ} {e a : RawExpr} {from m n to : ℕ} {s : ScalarType} → level ≤ casting
        → SpellsExpr text tokens casting a from m → Takes tokens (Word keyword.As) m n → SpellsScalar tokens s n to
        → e ≡ expr (span tokens from to) (kind.Cast s a) → SpellsExpr text tokens level e from to
    -- a minus directly before a number belongs to it
    negative : {level n : ℕ} {e : RawExpr} {from m to : ℕ} → level ≤ prefixing
        → Takes tokens (Sign MINUS) from m → Takes tokens (Number n) m to
        → e ≡ expr (span tokens from to) (kind.Number true n) → SpellsExpr text tokens level e from to
    -- operator and operand; a minus is one where no number follows
    one : {level : ℕ} {e a : RawExpr} {from m to : ℕ} {op : Op} → level ≤ prefixing
        → SpellsPrefix tokens op from m → (op ≡ Op.Minus → is_number (kind_at tokens m) ≡ false) → SpellsExpr text tokens prefixing a m to
        → e ≡ expr (span tokens from to) (kind.One op a) → SpellsExpr text tokens level e from to
    number : {level n : ℕ} {e : RawExpr} {from to : ℕ} → Takes tokens (Number n) from to
        → e ≡ expr (span tokens from to) (kind.Number false n) → SpellsExpr text tokens level e from to
    truth : {level : ℕ} {e : RawExpr} {from to : ℕ} {b : Bool} → SpellsTruth tokens b from to
        → e ≡ expr (span tokens from to) (kind.Truth b) → SpellsExpr text tokens level e from to
    -- `prev` and a name
    before : {level : ℕ} {e : RawExpr} {from m to : ℕ} {name : Name} → Takes tokens (Word keyword.Prev) from m → SpellsName text tokens name m to
        → e ≡ expr (span tokens from to) (kind.Prev name) → SpellsExpr text tokens level e from to
    read : {level : ℕ} {e : RawExpr} {place : RawTarget} {from to : ℕ} → SpellsTarget text tokens place from to
        → e ≡ expr (span tokens from to) (kind.Read place) → SpellsExpr text tokens level e from to
    -- a name, its inputs, and maybe `( )`
    call : {level : ℕ} {e : RawExpr} {from m n to : ℕ} {name : Name} {inputs : List RawExpr} → SpellsName text tokens name from m
        → SpellsInputs text tokens inputs m n → SpellsNone tokens n to
        → e ≡ expr (span tokens from to) (kind.Call name inputs) → SpellsExpr text tokens level e from to
    parentheses : {level : ℕ} {e : RawExpr} {from m n to : ℕ} → Takes tokens (Sign OPEN_PAREN) from m → SpellsExpr text tokens 0 e m n
        → Takes tokens (Sign CLOSE_PAREN) n to → SpellsExpr text tokens level e from to

  -- a name and the parts behind it
  pub data SpellsTarget (text : List ℕ) (tokens : List Token) : RawTarget → ℕ → ℕ → Type 0 where
    parted : {place : RawTarget} {root : Name} {parts : List RawPart} {from m to : ℕ} → SpellsName text tokens root from m
        → SpellsParts text tokens parts m to → place ≡ target (span tokens from to) root parts → SpellsTarget text tokens place from to

  -- `. name` or `[ expression ]`
  pub data SpellsPart (text : List ℕ) (tokens : List Token) : RawPart → ℕ → ℕ → Type 0 where
    field : {part : RawPart} {from m to : ℕ} {name : Name} → Takes tokens (Sign DOT) from m → SpellsName text tokens name m to
        → part ≡ step.Field name → SpellsPart text tokens part from to
    index : {part : RawPart} {from m n to : ℕ} {e : RawExpr} → Takes tokens (Sign OPEN_BRACKET) from m → SpellsExpr text tokens 0 e m n
        → Takes tokens (Sign CLOSE_BRACKET) n to → part ≡ step.Index e → SpellsPart text tokens part from to

  -- parts, as many as there are
  pub data SpellsParts (text : List ℕ) (tokens : List Token) : List RawPart → ℕ → ℕ → Type 0 where
    no_parts : {parts : List RawPart} {from to : ℕ} → parts ≡ [] → to ≡ from → SpellsParts text tokens parts from to
    more_parts : {all parts : List RawPart} {part : RawPart} {from m to : ℕ} → SpellsParts text tokens parts from m → SpellsPart text tokens part m to
        → all ≡ parts ++ part ∷ [] → SpellsParts text tokens all from to

  -- expressions in parentheses, with commas between them
  pub data SpellsInputs (text : List ℕ) (tokens : List Token) : List RawExpr → ℕ → ℕ → Type 0 where
    no_inputs : {inputs : List RawExpr} {from m to : ℕ} → Takes tokens (Sign OPEN_PAREN) from m → Takes tokens (Sign CLOSE_PAREN) m to
        → inputs ≡ [] → SpellsInputs text tokens inputs from to
    some_inputs : {inputs : List RawExpr} {from m n to : ℕ} → Takes tokens (Sign OPEN_PAREN) from m → SpellsExprs text tokens inputs m n
        → Takes tokens (Sign CLOSE_PAREN) n to → SpellsInputs text tokens inputs from to

  -- one or more expressions, separated by commas
  pub data SpellsExprs (text : List ℕ) (tokens : List Token) : List RawExpr → ℕ → ℕ → Type 0 where
    first_expr : {all : List RawExpr} {e : RawExpr} {from to : ℕ} → SpellsExpr text tokens 0 e from to → all ≡ e ∷ [] →
        SpellsExprs text tokens all from to
    more_exprs : {all es : List RawExpr} {e : RawExpr} {from m n to : ℕ} → SpellsExprs text tokens es from m → Takes tokens (Sign COMMA) m n
        → SpellsExpr text tokens 0 e n to → all ≡ es ++ e ∷ [] → SpellsExprs text tokens all from to
