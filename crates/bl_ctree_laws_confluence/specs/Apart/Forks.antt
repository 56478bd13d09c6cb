-- Branches of one `cobegin` keep their variables apart.
use Rattle.std.specs.Prelude.{◌≡◌, ℕ, true, List, ⊤}
use Rattle.std.specs.List.{list_all}
use Rattle.bl_tree.specs.declared.tree.Stmt.{Stmt}
use Rattle.bl_tree.specs.Apart.{is_apart}
use Rattle.bl_graph_nodes.specs.Plain.{Block, Bodies, Plain, Position, Act, Again, Await, Body as BodyOf, Cobegin, Done, If, Last, Repeat, Run as RunOf, Then}
use Rattle.bl_graph_nodes.specs.Plain.{Until, When, While, plain_block}
use Rattle.bl_ctree.specs.Actions.{Effect}
use Rattle.bl_ctree.specs.Instances.{Setting}
use Rattle.bl_ctree_laws_confluence.specs.Apart.Named.{OneOf, effect_declares, effect_roots}
use Rattle.bl_ctree_laws_confluence.specs.Apart.Owned.{HasEffect, SomeIn, SomeInEach}

abbrev mutual
  -- P of the branches of each `cobegin` in the statement
  pub EachFork : (Bodies → Type 0) → Plain → Type 0
  EachFork P (Act l s) = ⊤
  EachFork P (Await l at e) = ⊤
  EachFork P (RunOf l at target a inputs outputs) = ⊤
  EachFork P (If l at e body other) = EachForkIn P body × EachForkIn P other
  EachFork P (Cobegin l at bodies) = P bodies × EachForkInEach P bodies
  EachFork P (When l at guard e body) = EachForkIn P body
  EachFork P (Repeat l at body) = EachForkIn P body
  EachFork P (Until l at body e) = EachForkIn P body
  EachFork P (While l at e body) = EachForkIn P body
  EachFork P (Again l at body e) = EachForkIn P body

  -- P holds of the branches of each `cobegin` in the block
  pub EachForkIn : (Bodies → Type 0) → Block → Type 0
  EachForkIn P Done = ⊤
  EachForkIn P (Then s rest) = EachFork P s × EachForkIn P rest

  -- P holds of the branches of each `cobegin` inside the branches
  pub EachForkInEach : (Bodies → Type 0) → Bodies → Type 0
  EachForkInEach P Last = ⊤
  EachForkInEach P (BodyOf weak body rest) = EachForkIn P body × EachForkInEach P rest

-- the first effect names no variable that the second declares
abbrev pub Foreign : Effect → Effect → Type 0
Foreign e other = (k : ℕ) → OneOf k (effect_declares other) → OneOf k (effect_roots e) → ⊥

-- no effect in a branch names a variable that an effect in another branch declares
abbrev pub KeepApart : Bodies → Type 0
KeepApart Last = ⊤
KeepApart (BodyOf weak body rest) =
    ((w : Setting) (i : ℕ) (e other : Effect) → SomeIn (HasEffect w i e) body → SomeInEach (HasEffect w i other) rest → Foreign e other × Foreign other e)
    × KeepApart rest

-- where statements keep apart the branches of each `cobegin` in their plain block do
abbrev pub BranchesKeepApart : Type 0
BranchesKeepApart = (body : List Stmt) (at : Position) → list_all is_apart body ≡ true → EachForkIn KeepApart (plain_block body at)
