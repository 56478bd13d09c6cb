use Rattle.std.proofs.Common.{ℕ, ◌+◌, ◌-◌, ◌*◌, ◌<◌, ◌≤◌, length, [], ◌∷◌}
use Rattle.bl_parse.specs.Expressions.{SpellsExpr, SpellsParts, SpellsExprs}
use Rattle.bl_parse_syntax.specs.declared.grammar.Part.TheVariants.{Cast, CastRest, Expr, InputRest}
use Rattle.bl_parse_syntax.specs.Grammar.{the}
use Rattle.bl_parse.specs.inner.Reading.{operand, KeepsTail, Turns}
use Rattle.bl_parse.proofs.OperatorLemmas.{below, tails}
use Rattle.bl_parse.proofs.expr.+expressions.Given as goal

-- the tokens that are left, and then how far a function is from passing one
abbrev measure : ℕ → ℕ → ℕ → ℕ
measure all at rank = 16 * (all - at) + rank

abbrev pub decreases-read_exprs : goal.decreases-read_exprs
decreases-read_exprs l = measure (length l.source.now.tokens.now) l.at.now 9

abbrev pub decreases-read_expr : goal.decreases-read_expr
decreases-read_expr l = measure (length l.source.now.tokens.now) l.at.now 8

abbrev pub decreases-expr_of : goal.decreases-expr_of
decreases-expr_of l = measure (length l.source.now.tokens.now) l.at.now 7

abbrev pub decreases-cast : goal.decreases-cast
decreases-cast l = measure (length l.source.now.tokens.now) l.at.now 6

abbrev pub decreases-unary : goal.decreases-unary
decreases-unary l = measure (length l.source.now.tokens.now) l.at.now 5

abbrev pub decreases-negative : goal.decreases-negative
decreases-negative l = measure (length l.source.now.tokens.now) l.at.now 4

abbrev pub decreases-one : goal.decreases-one
decreases-one l = measure (length l.source.now.tokens.now) l.at.now 3

abbrev pub decreases-primary : goal.decreases-primary
decreases-primary l = measure (length l.source.now.tokens.now) l.at.now 4

abbrev pub decreases-named : goal.decreases-named
decreases-named l = measure (length l.source.now.tokens.now) l.at.now 3

abbrev pub decreases-in_parentheses : goal.decreases-in_parentheses
decreases-in_parentheses l = measure (length l.source.now.tokens.now) l.at.now 3

abbrev pub decreases-called : goal.decreases-called
decreases-called l = measure (length l.source.now.tokens.now) l.at.now 6

abbrev pub decreases-read : goal.decreases-read
decreases-read l = measure (length l.source.now.tokens.now) l.at.now 6

abbrev pub decreases-target_of : goal.decreases-target_of
decreases-target_of l = measure (length l.source.now.tokens.now) l.at.now 5

abbrev pub decreases-read_parts : goal.decreases-read_parts
decreases-read_parts l = measure (length l.source.now.tokens.now) l.at.now 4

abbrev pub decreases-read_part : goal.decreases-read_part
decreases-read_part l = measure (length l.source.now.tokens.now) l.at.now 3

abbrev pub decreases-index : goal.decreases-index
decreases-index l = measure (length l.source.now.tokens.now) l.at.now 2

abbrev pub decreases-read_inputs : goal.decreases-read_inputs
decreases-read_inputs l = measure (length l.source.now.tokens.now) l.at.now 4

abbrev pub decreases-expr_of-operators : goal.decreases-expr_of-operators
decreases-expr_of-operators l = length l.source.tokens.now - l.at

abbrev pub invariant-expr_of-operators : goal.invariant-expr_of-operators
invariant-expr_of-operators l = record {
  left : SpellsExpr l.source.text.now l.source.tokens.now l.bound l.left l.from l.at;
  follows : Turns (the (operand l.level) ∷ []) l.source.tokens.now l.fn.at (tails (below l.bound) l.level) l.at;
  ahead : l.from < l.at;
  low : l.level ≤ l.bound;
}

abbrev pub decreases-cast-casts : goal.decreases-cast-casts
decreases-cast-casts l = length l.source.tokens.now - l.at

abbrev pub invariant-cast-casts : goal.invariant-cast-casts
invariant-cast-casts l = record {
  e : SpellsExpr l.source.text.now l.source.tokens.now 9 l.e l.from l.at;
  follows : Turns (the Cast ∷ []) l.source.tokens.now l.fn.at (the CastRest ∷ []) l.at;
  ahead : l.from < l.at;
}

abbrev pub decreases-read_parts-parts : goal.decreases-read_parts-parts
decreases-read_parts-parts l = length l.source.tokens.now - l.at

abbrev pub invariant-read_parts-parts : goal.invariant-read_parts-parts
invariant-read_parts-parts l = record {
  parts : SpellsParts l.source.text.now l.source.tokens.now l.parts l.fn.at l.at;
  keeps : KeepsTail l.source.tokens.now l.fn.at l.at;
  ahead : l.fn.at ≤ l.at;
}

abbrev pub decreases-read_exprs-commas : goal.decreases-read_exprs-commas
decreases-read_exprs-commas l = length l.source.tokens.now - l.at

abbrev pub invariant-read_exprs-commas : goal.invariant-read_exprs-commas
invariant-read_exprs-commas l = record {
  exprs : SpellsExprs l.source.text.now l.source.tokens.now l.exprs l.fn.at l.at;
  follows : Turns (the Expr ∷ the InputRest ∷ []) l.source.tokens.now l.fn.at (the InputRest ∷ []) l.at;
  ahead : l.fn.at < l.at;
}
