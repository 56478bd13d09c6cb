use Rattle.std.proofs.Common.{◌≡◌, ◌∷◌, pos, map}
use Rattle.std.specs.Prelude.{neg_ℤ}
use Rattle.bl_ctext_semantics.specs.Cells.{below}
use Rattle.bl_simplify_laws.specs.declared.facts.Fact.TheVariants.{AtMost, Number}
use Rattle.bl_simplify_steps.proofs.begin.parts_of.Given as goal

abbrev pub invariant-loop-k : goal.invariant-loop-k
invariant-loop-k l = l.parts ≡ AtMost (neg_ℤ (pos 1)) ∷ map (λ k. Number (pos k)) (below l.k)
