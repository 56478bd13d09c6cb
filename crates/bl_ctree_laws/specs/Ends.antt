-- Lists of steps within a tick on plain trees, and that all maximal ones have one end.
use Rattle.std.specs.Prelude.{Bool, List, [], ◌∷◌, Option, Some, None, ◌≡◌, ⊤}
use Rattle.bl_graph_nodes.specs.Plain.{Block}
use Rattle.bl_graph_nodes.specs.Steps.{StepLabel}
use Rattle.bl_ctree.specs.Actions.{Performed, effect_on}
use Rattle.bl_ctree.specs.Instances.{Setting}
use Rattle.bl_ctree.specs.Store.{Store}
use Rattle.bl_ctree_laws.specs.Commutes.{Apart}
use Rattle.bl_ctree_laws.specs.Residual.{PlainResidual}
use Rattle.bl_ctree_laws.specs.Pending.{Deed}
use Rattle.bl_ctree_laws.specs.Shrinks.{Paces}
use Rattle.bl_ctree_laws.specs.Steps.{Moves, Unmet}
use Rattle.bl_ctree_laws.specs.Trees.{Tree}

-- what a deed answers and leaves; none where it traps
abbrev pub done_by : Setting → Deed → Store → Option Performed
done_by w a store = effect_on w a.instance a.effect store

-- a step of the whole plain tree, which stands in instance 0
pub record PlainTreeStep (w : Setting) (c : Tree) (store : Store) (n : StepLabel) (c' : Tree) (store' : Store) : Type 0 where
  pub answer : Bool
  pub deed : Deed
  pub moves : Moves Unmet w 0 c answer deed n c'
  pub performs : done_by w deed store ≡ Some (record { answer = answer; store = store' })

-- a step may act and its value traps
pub record PlainTreeTraps (w : Setting) (c : Tree) (store : Store) (n : StepLabel) : Type 0 where
  pub answer : Bool
  pub deed : Deed
  pub after : Tree
  pub moves : Moves Unmet w 0 c answer deed n after
  pub fails : done_by w deed store ≡ None

-- where a list of steps leads: to a trap, or to a tree and a store
pub data PlainTreeEnd : Type 0 where
  Trapped : PlainTreeEnd
  Rests : Tree → Store → PlainTreeEnd

-- a list of steps, one after another, with their labels. A trapping step is the last one
pub data PlainTreeSteps (w : Setting) : Tree → Store → List StepLabel → PlainTreeEnd → Type 0 where
  none : {c : Tree} {store : Store} → PlainTreeSteps w c store [] (Rests c store)
  traps : {c : Tree} {store : Store} {n : StepLabel} → PlainTreeTraps w c store n → PlainTreeSteps w c store (n ∷ []) Trapped
  step : {c : Tree} {store : Store} {n : StepLabel} {c' : Tree} {store' : Store} {rest : List StepLabel} {end : PlainTreeEnd} →
      PlainTreeStep w c store n c' store' → PlainTreeSteps w c' store' rest end → PlainTreeSteps w c store (n ∷ rest) end

-- nothing may act in the tree
abbrev pub PlainTreeIsStill : Setting → Tree → Type 0
PlainTreeIsStill w c = (d : Bool) (a : Deed) (n : StepLabel) (c' : Tree) → ¬ Moves Unmet w 0 c d a n c'

-- no step can follow: the last one trapped, or nothing may act
abbrev pub PlainTreeIsOver : Setting → PlainTreeEnd → Type 0
PlainTreeIsOver w Trapped = ⊤
PlainTreeIsOver w (Rests c store) = PlainTreeIsStill w c

-- a list of steps that no step can follow
pub record PlainTreeMaximal (w : Setting) (c : Tree) (store : Store) (end : PlainTreeEnd) : Type 0 where
  pub labels : List StepLabel
  pub steps : PlainTreeSteps w c store labels end
  pub over : PlainTreeIsOver w end

-- ---- deeds whose order does not matter

-- two deeds commute in a store: each gives the same answer after the other, and both orders leave one store
pub record BothDone (w : Setting) (a b : Deed) (x y : Performed) : Type 0 where
  pub store : Store
  pub second : done_by w b x.store ≡ Some (record { answer = y.answer; store = store })
  pub first : done_by w a y.store ≡ Some (record { answer = x.answer; store = store })

-- two deeds whose order makes no difference, in any store
pub record Independent (w : Setting) (a b : Deed) : Type 0 where
  pub both : (store : Store) (x y : Performed) → done_by w a store ≡ Some x → done_by w b store ≡ Some y → BothDone w a b x y
  -- a deed that traps before the other also traps after it
  pub traps : (store : Store) (y : Performed) → done_by w a store ≡ None → done_by w b store ≡ Some y → done_by w a y.store ≡ None
  pub trap_stays : (store : Store) (x : Performed) → done_by w b store ≡ None → done_by w a store ≡ Some x → done_by w b x.store ≡ None

-- steps of different branches are independent in all residuals of the body
abbrev pub BranchesAreIndependent : Setting → Bool → Block → Type 0
BranchesAreIndependent w stood body = (c : Tree) (a b : Deed) → PlainResidual w stood 0 body c → Apart w 0 c a b → Independent w a b

-- ticks are confluent: if steps of different branches are independent, all maximal step lists have one end
abbrev pub TicksAreConfluent : Type 0
TicksAreConfluent =
    (w : Setting) (stood : Bool) (body : Block) (c : Tree) (store : Store) (end end' : PlainTreeEnd) → Paces w → BranchesAreIndependent w stood body →
    PlainResidual w stood 0 body c → PlainTreeMaximal w c store end → PlainTreeMaximal w c store end' → end ≡ end'
