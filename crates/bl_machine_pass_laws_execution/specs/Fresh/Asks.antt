-- What is left of a body asks what variables were only where their copies hold that.
use Rattle.std.specs.Prelude.{◌≡◌, ◌≤◌, ◌⊎◌, ℕ, true, List, [], ◌++◌, length, nat_eq, Some, ⊤}
use Rattle.std.specs.List.{list_any}
use Rattle.bl_tree.specs.declared.tree.Unit.{Unit as UnitDef}
use Rattle.bl_graph_nodes.specs.Nodes.{ActAt, Node}
use Rattle.bl_graph_nodes.specs.Plain.{Act, Again, Await, Block, Bodies, Body as BodyOf, Cobegin, Done, If, Last, Plain, Repeat, Run as RunOf, Then, Until}
use Rattle.bl_graph_nodes.specs.Plain.{When, While}
use Rattle.bl_machine_prevs.specs.Declared.{are_known, declared_by, declared_in, prevs_in_inputs, prevs_stand, prevs_stand_in}
use Rattle.bl_machine_prevs.specs.Prevs.{prevs_in_expr}
use Rattle.bl_ctree.specs.Control.{Body, Check}
use Rattle.bl_ctree.specs.Instances.{Setting, callee_of, unit_at}
use Rattle.bl_ctree_laws.specs.Trees.{Tree, Trees, Nil, Wait, Test, Idle, Do, Seq, Par, Guard, Run, beside, no_tree}
use Rattle.bl_ctree_laws_confluence.specs.Deeds.Nesting.{Inside}
use Rattle.bl_machine_pass_laws_execution.specs.Fresh.Fresh.{arity, locals}

-- the variable is among these
abbrev pub IsAmongVariables : List ℕ → ℕ → Type 0
IsAmongVariables xs x = list_any (nat_eq x) xs ≡ true

-- the unit has at least n parameters for inputs, and its parameters are among its variables
abbrev pub InputsFit : ℕ → UnitDef → Type 0
InputsFit n unit = (n ≤ arity unit) × (arity unit ≤ length unit.vars)

-- ---- statements

abbrev mutual
  -- each declaration in the statement is of a variable behind the parameters, and each `run` gives at most as many inputs as there are parameters
  pub Bounded : Setting → ℕ → UnitDef → Plain → Type 0
  Bounded w i unit (Act l s) = (x : ℕ) → IsAmongVariables (declared_in s) x → IsAmongVariables (locals unit) x
  Bounded w i unit (Await l at e) = ⊤
  Bounded w i unit (RunOf l at target a inputs outputs) =
      (callee : ℕ) (other : UnitDef) → callee_of w i at ≡ Some callee → unit_at w callee ≡ Some other →
      InputsFit (length inputs) other
  Bounded w i unit (If l at e body other) = BoundedAll w i unit body × BoundedAll w i unit other
  Bounded w i unit (Cobegin l at bodies) = BoundedEach w i unit bodies
  Bounded w i unit (When l at guard e body) = BoundedAll w i unit body
  Bounded w i unit (Repeat l at body) = BoundedAll w i unit body
  Bounded w i unit (Until l at body e) = BoundedAll w i unit body
  Bounded w i unit (While l at e body) = BoundedAll w i unit body
  Bounded w i unit (Again l at body e) = BoundedAll w i unit body

  -- each declaration in the block is of a variable behind the parameters, and each `run` gives at most as many inputs as there are parameters
  pub BoundedAll : Setting → ℕ → UnitDef → Block → Type 0
  BoundedAll w i unit Done = ⊤
  BoundedAll w i unit (Then s rest) = Bounded w i unit s × BoundedAll w i unit rest

  -- each declaration in branches is of a variable behind the parameters, and each `run` gives at most as many inputs as there are parameters
  pub BoundedEach : Setting → ℕ → UnitDef → Bodies → Type 0
  BoundedEach w i unit Last = ⊤
  BoundedEach w i unit (BodyOf weak body rest) = BoundedAll w i unit body × BoundedEach w i unit rest

-- a block asks only for known variables and those that it declares before, and is bounded
abbrev pub BlockAsks : Setting → ℕ → UnitDef → List ℕ → Block → Type 0
BlockAsks w i unit known body = (prevs_stand_in known body ≡ true) × BoundedAll w i unit body

-- ---- trees

-- what a tree declares in its next turn, where it is one statement
abbrev pub next_declared : Tree → List ℕ
next_declared (Do s) = declared_by s
next_declared _ = []

-- what a node declares in its turn
abbrev pub declared_at : Node → List ℕ
declared_at (ActAt l s) = declared_in s
declared_at _ = []

abbrev mutual
  -- Asks w i unit known c: the residual of the unit's body asks only for known variables and those that it declares before, and callees ask only for their
  -- locals
  pub Asks : Setting → ℕ → UnitDef → List ℕ → Tree → Type 0
  Asks w i unit known Nil = ⊤
  Asks w i unit known (Wait s) = are_known known (prevs_in_expr s.test) ≡ true
  Asks w i unit known (Test s) = are_known known (prevs_in_expr s.test) ≡ true
  Asks w i unit known (Idle body) = BlockAsks w i unit known body
  Asks w i unit known (Do s) = (prevs_stand known s ≡ true) × Bounded w i unit s
  Asks w i unit known (Seq c rest) = Asks w i unit known c × BlockAsks w i unit (next_declared c ++ known) rest
  Asks w i unit known (Par s stood branches) = EachAsks w i unit known branches
  Asks w i unit known (Guard s phase stood c) =
      (are_known known (prevs_in_expr s.test) ≡ true) × (BlockAsks w i unit known s.body × Asks w i unit known c)
  Asks w i unit known (Run s callee phase stood c) =
      (are_known known (prevs_in_inputs s.arguments.inputs) ≡ true)
      × ((other : UnitDef) → unit_at w callee ≡ Some other →
      InputsFit (length s.arguments.inputs) other × Asks w callee other (locals other) c)

  -- each branch asks only for known variables and those that it declares before
  pub EachAsks : Setting → ℕ → UnitDef → List ℕ → Trees → Type 0
  EachAsks w i unit known no_tree = ⊤
  EachAsks w i unit known (beside weak c branches) = Asks w i unit known c × EachAsks w i unit known branches

-- ---- calls that are due

abbrev mutual
  -- the instance j is inside a call in the tree whose inputs are still to be copied in this tick
  pub DueIn : Setting → Tree → ℕ → Type 0
  DueIn w Nil j = ⊥
  DueIn w (Wait s) j = ⊥
  DueIn w (Test s) j = ⊥
  DueIn w (Idle body) j = ⊥
  DueIn w (Do s) j = ⊥
  DueIn w (Seq c rest) j = DueIn w c j
  DueIn w (Par s stood branches) j = OneDueIn w branches j
  DueIn w (Guard s phase stood c) j = DueIn w c j
  DueIn w (Run s callee Check stood c) j = Inside w callee j
  DueIn w (Run s callee Body stood c) j = ⊥

  -- the instance j is inside a call in one of the branches whose inputs are still to be copied in this tick
  pub OneDueIn : Setting → Trees → ℕ → Type 0
  OneDueIn w no_tree j = ⊥
  OneDueIn w (beside weak c branches) j = DueIn w c j ⊎ OneDueIn w branches j
