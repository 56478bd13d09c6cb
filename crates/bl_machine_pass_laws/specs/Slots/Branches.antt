-- Bodies in which each `cobegin` has a branch.
use Rattle.std.specs.Prelude.{⊤}
use Rattle.bl_graph_nodes.specs.Plain.{Act, Again, Await, Block, Bodies, Body as BodyOf, Cobegin, Done, If, Last, Plain, Repeat, Run as RunOf, Then, Until}
use Rattle.bl_graph_nodes.specs.Plain.{When, While}

-- a `cobegin` has at least one branch
abbrev pub HasBranch : Bodies → Type 0
HasBranch Last = ⊥
HasBranch (BodyOf weak body rest) = ⊤

abbrev mutual
  -- each `cobegin` in the statement has a branch
  pub BranchesOf : Plain → Type 0
  BranchesOf (Act l s) = ⊤
  BranchesOf (Await l at e) = ⊤
  BranchesOf (RunOf l at target a inputs outputs) = ⊤
  BranchesOf (If l at e body other) = EachBranches body × EachBranches other
  BranchesOf (Cobegin l at bodies) = HasBranch bodies × BranchesInEach bodies
  BranchesOf (When l at guard e body) = EachBranches body
  BranchesOf (Repeat l at body) = EachBranches body
  BranchesOf (Until l at body e) = EachBranches body
  BranchesOf (While l at e body) = EachBranches body
  BranchesOf (Again l at body e) = EachBranches body

  -- each `cobegin` in the block has a branch
  pub EachBranches : Block → Type 0
  EachBranches Done = ⊤
  EachBranches (Then s rest) = BranchesOf s × EachBranches rest

  -- each `cobegin` in the branches has a branch
  pub BranchesInEach : Bodies → Type 0
  BranchesInEach Last = ⊤
  BranchesInEach (BodyOf weak body rest) = EachBranches body × BranchesInEach rest
