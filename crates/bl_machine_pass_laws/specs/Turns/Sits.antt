-- Trees that are left of the statements of a body, with the rules of these and the counters at which they rest.
use Rattle.std.specs.Prelude.{◌≡◌, ℕ, suc, Bool, true, List, Contains, ⊤}
use Rattle.bl_graph_nodes.specs.Plain.{Await, Bodies, Body as BodyOf, Label, Last}
use Rattle.bl_ctree_laws.specs.Trees.{Tree, Trees, Nil, Wait, Test, Idle, Do, Seq, Par, Guard, Run, beside, no_tree}
use Rattle.bl_ctree_laws_traces.specs.Progress.FitsGraph.{call_stmt, fork_stmt, watch_stmt}
use Rattle.bl_machine.specs.Uses.{Slots, uses, uses_in, uses_in_branch}
use Rattle.bl_machine_pass.specs.SlotLayout.{BlockRestsAt, StatementRestsAt}
use Rattle.bl_machine_pass.specs.Transitions.{Change, SetsCounter, Transition, body_ends, enter, rules_in, rules_of}

-- the second list of rules is part of the first
abbrev pub RulesAreAmong : List Transition → List Transition → Type 0
RulesAreAmong all some = (rule : Transition) → Contains some rule → Contains all rule

abbrev mutual
  -- Sits slots all c next: the rules of all statements that are left in the tree are among these, where that change follows the tree
  pub Sits : Slots → List Transition → Tree → Change → Type 0
  Sits slots all Nil next = ⊤
  Sits slots all (Wait s) next = RulesAreAmong all (rules_of slots (Await s.label s.place s.test) next)
  Sits slots all (Test s) next = RulesAreAmong all (rules_of slots (Await s.label s.place s.test) next)
  Sits slots all (Idle body) next = RulesAreAmong all (rules_in slots body next)
  Sits slots all (Do s) next = RulesAreAmong all (rules_of slots s next)
  Sits slots all (Seq c rest) next = Sits slots all c (enter rest next) × RulesAreAmong all (rules_in slots rest next)
  Sits slots all (Par s stood branches) next =
      RulesAreAmong all (rules_of slots (fork_stmt s) next) × SitEach slots all s.label 0 s.bodies branches
  Sits slots all (Guard s phase stood c) next =
      RulesAreAmong all (rules_of slots (watch_stmt s) next) × Sits slots all c (body_ends s.label s.place s.body)
  Sits slots all (Run s callee phase stood c) next = RulesAreAmong all (rules_of slots (call_stmt s) next)

  -- the rules of all that is left in each branch are among these, from the branch with this number on; branches and bodies correspond
  pub SitEach : Slots → List Transition → Label → ℕ → Bodies → Trees → Type 0
  SitEach slots all l k Last no_tree = ⊤
  SitEach slots all l k (BodyOf weak body rest) (beside weak' c branches) =
      (weak ≡ weak') × Sits slots all c (SetsCounter (slots.ending l k)) × SitEach slots all l (suc k) rest branches
  SitEach slots all l k Last (beside weak c branches) = ⊥
  SitEach slots all l k (BodyOf weak body rest) no_tree = ⊥

abbrev mutual
  -- the tree, and the statements left in it, rest at the counter wherever they rest
  pub Lies : Slots → ℕ → Tree → Type 0
  Lies slots low Nil = ⊤
  Lies slots low (Wait s) = (slots.rest s.label).counter ≡ low
  Lies slots low (Test s) = (slots.rest s.label).counter ≡ low
  Lies slots low (Idle body) = BlockRestsAt slots low body
  Lies slots low (Do s) = StatementRestsAt slots low s
  Lies slots low (Seq c rest) = Lies slots low c × BlockRestsAt slots low rest
  Lies slots low (Par s stood branches) = StatementRestsAt slots low (fork_stmt s) × LieEach slots s.label 0 branches
  Lies slots low (Guard s phase stood c) = BlockRestsAt slots low s.body × Lies slots low c
  Lies slots low (Run s callee phase stood c) = (slots.rest s.label).counter ≡ low

  -- each branch rests at the counter of its end, from the branch with this number on
  pub LieEach : Slots → Label → ℕ → Trees → Type 0
  LieEach slots l k no_tree = ⊤
  LieEach slots l k (beside weak c branches) = Lies slots (slots.ending l k).counter c × LieEach slots l (suc k) branches

abbrev mutual
  -- what is left in the tree uses only counters for which this is true: those of the part of the body of which it is left
  pub UsesOnly : Slots → (ℕ → Bool) → Tree → Type 0
  UsesOnly slots used Nil = ⊤
  UsesOnly slots used (Wait s) = used (slots.rest s.label).counter ≡ true
  UsesOnly slots used (Test s) = used (slots.rest s.label).counter ≡ true
  UsesOnly slots used (Idle body) = (j : ℕ) → uses_in slots body j ≡ true → used j ≡ true
  UsesOnly slots used (Do s) = (j : ℕ) → uses slots s j ≡ true → used j ≡ true
  UsesOnly slots used (Seq c rest) = UsesOnly slots used c × ((j : ℕ) → uses_in slots rest j ≡ true → used j ≡ true)
  UsesOnly slots used (Par s stood branches) =
      ((j : ℕ) → uses slots (fork_stmt s) j ≡ true → used j ≡ true) × UseEach slots s.label 0 s.bodies branches
  UsesOnly slots used (Guard s phase stood c) =
      ((j : ℕ) → uses_in slots s.body j ≡ true → used j ≡ true) × UsesOnly slots (uses_in slots s.body) c
  UsesOnly slots used (Run s callee phase stood c) = used (slots.rest s.label).counter ≡ true

  -- each branch uses only the counters of its body and of its end
  pub UseEach : Slots → Label → ℕ → Bodies → Trees → Type 0
  UseEach slots l k Last branches = ⊤
  UseEach slots l k bodies no_tree = ⊤
  UseEach slots l k (BodyOf weak body rest) (beside weak' c branches) =
      UsesOnly slots (uses_in_branch slots l k body) c × UseEach slots l (suc k) rest branches
