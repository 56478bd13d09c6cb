use Rattle.std.proofs.Common.{ℕ, ◌+◌, ◌-◌, ◌*◌, ◌<◌, ◌≤◌, length, [], ◌∷◌}
use Rattle.bl_parse.specs.Statements.{SpellsBlock, SpellsBranches, SpellsArms}
use Rattle.bl_parse_syntax.specs.declared.grammar.Part.TheVariants.{Block, Weak, Branches, Expr, Elseifs}
use Rattle.bl_parse_syntax.specs.Grammar.{the, word}
use Rattle.bl_parse.specs.inner.Reading.{Turns}
use Rattle.bl_tree.specs.declared.token.Keyword.TheVariants as keyword
use Rattle.bl_parse.proofs.stmt.+statements.Given as goal

-- the tokens that are left, and then how far a function is from passing one
abbrev measure : ℕ → ℕ → ℕ → ℕ
measure all at rank = 16 * (all - at) + rank

abbrev pub decreases-branches : goal.decreases-branches
decreases-branches l = measure (length l.source.now.tokens.now) l.at.now 10

abbrev pub decreases-branch : goal.decreases-branch
decreases-branch l = measure (length l.source.now.tokens.now) l.at.now 9

abbrev pub decreases-block : goal.decreases-block
decreases-block l = measure (length l.source.now.tokens.now) l.at.now 8

abbrev pub decreases-stmt : goal.decreases-stmt
decreases-stmt l = measure (length l.source.now.tokens.now) l.at.now 7

abbrev pub decreases-kind : goal.decreases-kind
decreases-kind l = measure (length l.source.now.tokens.now) l.at.now 6

abbrev pub decreases-led : goal.decreases-led
decreases-led l = measure (length l.source.now.tokens.now) l.at.now 5

abbrev pub decreases-cobegin : goal.decreases-cobegin
decreases-cobegin l = measure (length l.source.now.tokens.now) l.at.now 4

abbrev pub decreases-guarded : goal.decreases-guarded
decreases-guarded l = measure (length l.source.now.tokens.now) l.at.now 4

abbrev pub decreases-repeat : goal.decreases-repeat
decreases-repeat l = measure (length l.source.now.tokens.now) l.at.now 4

abbrev pub decreases-while_loop : goal.decreases-while_loop
decreases-while_loop l = measure (length l.source.now.tokens.now) l.at.now 4

abbrev pub decreases-branching : goal.decreases-branching
decreases-branching l = measure (length l.source.now.tokens.now) l.at.now 4

abbrev pub decreases-arms : goal.decreases-arms
decreases-arms l = measure (length l.source.now.tokens.now) l.at.now 3

abbrev pub decreases-arm : goal.decreases-arm
decreases-arm l = measure (length l.source.now.tokens.now) l.at.now 2

abbrev pub decreases-otherwise : goal.decreases-otherwise
decreases-otherwise l = measure (length l.source.now.tokens.now) l.at.now 1

abbrev pub decreases-block-statements : goal.decreases-block-statements
decreases-block-statements l = length l.source.tokens.now - l.at

abbrev pub invariant-block-statements : goal.invariant-block-statements
invariant-block-statements l = record {
  body : SpellsBlock l.source.text.now l.source.tokens.now l.body l.fn.at l.at;
  follows : Turns (the Block ∷ []) l.source.tokens.now l.fn.at (the Block ∷ []) l.at;
  ahead : l.fn.at ≤ l.at;
}

abbrev pub decreases-branches-withs : goal.decreases-branches-withs
decreases-branches-withs l = length l.source.tokens.now - l.at

abbrev pub invariant-branches-withs : goal.invariant-branches-withs
invariant-branches-withs l = record {
  branches : SpellsBranches l.source.text.now l.source.tokens.now l.branches l.fn.at l.at;
  follows : Turns (the Weak ∷ the Block ∷ the Branches ∷ []) l.source.tokens.now l.fn.at (the Branches ∷ []) l.at;
  ahead : l.fn.at ≤ l.at;
}

abbrev pub decreases-arms-elseifs : goal.decreases-arms-elseifs
decreases-arms-elseifs l = length l.source.tokens.now - l.at

abbrev pub invariant-arms-elseifs : goal.invariant-arms-elseifs
invariant-arms-elseifs l = record {
  arms : SpellsArms l.source.text.now l.source.tokens.now l.arms l.fn.at l.at;
  follows : Turns (word keyword.If ∷ the Expr ∷ word keyword.Then ∷ the Block ∷ the Elseifs ∷ []) l.source.tokens.now l.fn.at (the Elseifs ∷ []) l.at;
  ahead : l.fn.at < l.at;
}
