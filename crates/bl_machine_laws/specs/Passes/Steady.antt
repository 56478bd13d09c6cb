-- Trees in which no pass over a called instance is under way.
use Rattle.std.specs.Prelude.{◌≡◌, true, false, ⊤}
use Rattle.bl_ctree.specs.Control.{Body, Check}
use Rattle.bl_ctree_laws.specs.Trees.{Tree, Trees, Nil, Wait, Test, Idle, Do, Seq, Par, Guard, Run, beside, is_nil, is_settled, no_tree}

abbrev mutual
  -- each `run` in the tree that has its inputs has been passed: nothing is left to do in its callee, which hasn't ended. Inside of `run`s without their inputs
  -- the same holds
  pub Steady : Tree → Type 0
  Steady Nil = ⊤
  Steady (Wait s) = ⊤
  Steady (Test s) = ⊤
  Steady (Idle body) = ⊤
  Steady (Do s) = ⊤
  Steady (Seq c rest) = Steady c
  Steady (Par s stood branches) = AllSteady branches
  Steady (Guard s phase stood c) = Steady c
  Steady (Run s callee Check stood c) = Steady c
  Steady (Run s callee Body stood c) = (is_settled c ≡ true) × (is_nil c ≡ false)

  -- each `run` in the branches that has its inputs has been passed
  pub AllSteady : Trees → Type 0
  AllSteady no_tree = ⊤
  AllSteady (beside weak c branches) = Steady c × AllSteady branches
