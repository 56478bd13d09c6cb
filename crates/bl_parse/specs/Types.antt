-- How tokens spell a type.
use Rattle.std.specs.Prelude.{◌≡◌, ℕ, List}
use Rattle.bl_tree.specs.declared.scalar.Scalar.{Scalar as ScalarType}
use Rattle.bl_tree.specs.declared.token.Token.{Token}
use Rattle.bl_tree.specs.declared.token.TokenKind.TheVariants.{Number, Sign}
use Rattle.bl_lex.specs.declared.sign.TheConstants.{OPEN_BRACKET, CLOSE_BRACKET}
use Rattle.bl_parse_tree.specs.declared.name.Name.{Name}
use Rattle.bl_parse_tree.specs.declared.types.RawLength.{RawLength}
use Rattle.bl_parse_tree.specs.declared.types.RawType.{RawType}
use Rattle.bl_parse_tree.specs.declared.types.RawType as form
use Rattle.bl_parse.specs.At.{span, SpellsName, Takes}
use Rattle.bl_parse.specs.Operators.{SpellsScalar}

-- a number or a name spells a length
pub data SpellsLength (text : List ℕ) (tokens : List Token) : RawLength → ℕ → ℕ → Type 0 where
  number : {length : RawLength} {n from to : ℕ} → Takes tokens (Number n) from to
      → length ≡ RawLength.Number (record { place = span tokens from to; value = n }) → SpellsLength text tokens length from to
  constant : {length : RawLength} {name : Name} {from to : ℕ} → SpellsName text tokens name from to
      → length ≡ RawLength.Constant name → SpellsLength text tokens length from to

-- the tokens from a position up to another spell a type
pub data SpellsType (text : List ℕ) (tokens : List Token) : RawType → ℕ → ℕ → Type 0 where
  scalar : {ty : RawType} {from to : ℕ} {s : ScalarType} → SpellsScalar tokens s from to
      → ty ≡ form.Scalar s → SpellsType text tokens ty from to
  named : {ty : RawType} {from to : ℕ} {name : Name} → SpellsName text tokens name from to
      → ty ≡ form.Struct name → SpellsType text tokens ty from to
  -- `[`, a length, `]` and the type of the elements
  array : {ty element : RawType} {from a b c to : ℕ} {length : RawLength} → Takes tokens (Sign OPEN_BRACKET) from a
      → SpellsLength text tokens length a b → Takes tokens (Sign CLOSE_BRACKET) b c → SpellsType text tokens element c to
      → ty ≡ form.Array length element → SpellsType text tokens ty from to
