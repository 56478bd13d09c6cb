-- How tokens fail the rules Depth and Syntax, and at which place.
use Rattle.std.specs.Prelude.{◌≡◌, ℕ, ◌⊎◌, List, [], ◌∷◌, ◌++◌, take}
use Rattle.bl_tree.specs.declared.place.Place.{Place}
use Rattle.bl_tree.specs.declared.rule.Rule.{Rule}
use Rattle.bl_tree.specs.declared.rule.Rule.TheVariants as rule
use Rattle.bl_tree.specs.declared.token.Token.{Token}
use Rattle.bl_tree.specs.Rules.{FailsFirst as FirstOf}
use Rattle.bl_parse_syntax.specs.Grammar.{views, IsProgram}
use Rattle.bl_parse_syntax.specs.Depth.{IsTooDeep}

-- no front of the tokens is too deep
abbrev pub PassesDepth : List Token → Type 0
PassesDepth tokens = (n : ℕ) → ¬ IsTooDeep (take n tokens)

-- Depth: the first token that is too deep stands at this place
pub record FailsDepth (tokens : List Token) (place : Place) : Type 0 where
  pub before : List Token
  pub token : Token
  pub after : List Token
  pub stands : tokens ≡ before ++ token ∷ after
  pub first : PassesDepth before
  pub too_deep : IsTooDeep (before ++ token ∷ [])
  pub at : place ≡ token.place

-- the tokens spell a program
abbrev pub SpellsProgram : List Token → Type 0
SpellsProgram tokens = IsProgram (views tokens)

-- the tokens can be completed to those of a program
abbrev pub BeginsProgram : List Token → Type 0
BeginsProgram tokens = (more : List Token) × SpellsProgram (tokens ++ more)

-- Syntax, at a token: those before it begin a program, and with it they don't
pub record FailsAtToken (tokens : List Token) (place : Place) : Type 0 where
  pub before : List Token
  pub token : Token
  pub after : List Token
  pub stands : tokens ≡ before ++ token ∷ after
  pub begins : BeginsProgram before
  pub ends : ¬ BeginsProgram (before ++ token ∷ [])
  pub at : place ≡ token.place

-- Syntax, at the end of a text of so many bytes: the tokens begin a program and are none
pub record FailsAtEnd (size : ℕ) (tokens : List Token) (place : Place) : Type 0 where
  pub begins : BeginsProgram tokens
  pub no_program : ¬ SpellsProgram tokens
  pub at : place ≡ record { start = size; end = size }

-- Syntax: the tokens of a text of so many bytes fail at this place
abbrev pub FailsSyntax : ℕ → List Token → Place → Type 0
FailsSyntax size tokens place = FailsAtToken tokens place ⊎ FailsAtEnd size tokens place

-- ---- the rules by name

-- the rule fails at this place, and its line names no further one; the others aren't judged here
abbrev pub Fails : ℕ → List Token → Rule → Place → List Place → Type 0
Fails size tokens rule.Depth place also = FailsDepth tokens place × (also ≡ [])
Fails size tokens rule.Syntax place also = FailsSyntax size tokens place × (also ≡ [])
Fails size tokens _ place also = ⊥

-- the rule is the first of the parser's rules that fails, and fails first at this place
abbrev pub FailsFirst : ℕ → List Token → Rule → Place → List Place → Type 0
FailsFirst size tokens = FirstOf (Fails size tokens)

-- the tokens are nowhere too deep and spell a program; so neither fails
pub record Passes (tokens : List Token) : Type 0 where
  pub depth : PassesDepth tokens
  pub syntax : SpellsProgram tokens
