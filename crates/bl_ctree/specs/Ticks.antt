-- Ticks: lists of steps, and how they end.
use Rattle.std.specs.Prelude.{ℤ, Bool, true, false, List, [], ◌∷◌, ⊤}
use Rattle.bl_ctree.specs.Actions.{Action}
use Rattle.bl_ctree.specs.Control.{Control, is_nil, is_settled, woken}
use Rattle.bl_ctree.specs.Instances.{Setting}
use Rattle.bl_ctree.specs.Steps.{Step, Traps, IsStill}
use Rattle.bl_ctree.specs.Store.{Store, woken_store}

-- where a list of steps leads: to a trap, or to a tree and a store
pub data End : Type 0 where
  Trapped : End
  Rests : Control → Store → End

-- a list of steps from a tree and a store, one after another, and where it leads. A trapping step is the last one
pub data Steps (w : Setting) : Control → Store → List Action → End → Type 0 where
  none : {c : Control} {store : Store} → Steps w c store [] (Rests c store)
  traps : {c : Control} {store : Store} {a : Action} → Traps w c store a → Steps w c store (a ∷ []) Trapped
  step : {c : Control} {store : Store} {a : Action} {c' : Control} {store' : Store} {rest : List Action} {end : End} →
      Step w c store a c' store' → Steps w c' store' rest end → Steps w c store (a ∷ rest) end

-- no step can follow: the last one trapped, or no point may act
abbrev pub IsOver : Setting → End → Type 0
IsOver w Trapped = ⊤
IsOver w (Rests c store) = IsStill w c

-- a list of steps that no step can follow
pub record Maximal (w : Setting) (c : Control) (store : Store) (actions : List Action) (end : End) : Type 0 where
  pub steps : Steps w c store actions end
  pub over : IsOver w end

-- a tick over a row of inputs between two trees and stores: any maximal list of steps from the woken ones
pub record Tick (w : Setting) (row : List ℤ) (c : Control) (store : Store) (end : End) : Type 0 where
  pub actions : List Action
  pub maximal : Maximal w (woken c) (woken_store row store) actions end

-- the outcome of a tick: the run ended, it waits for the next tick, it is stuck, or it trapped
pub data TickOutcome : Type 0 where
  Ended : TickOutcome
  Paused : TickOutcome
  Stuck : TickOutcome
  Trap : TickOutcome

-- the outcome where no point may act, by whether the tree has ended and whether it is settled
abbrev pub resting_outcome : Bool → Bool → TickOutcome
resting_outcome true settled = Ended
resting_outcome false true = Paused
resting_outcome false false = Stuck

-- the outcome of a tick whose list of steps leads there
abbrev pub outcome_at : End → TickOutcome
outcome_at Trapped = Trap
outcome_at (Rests c store) = resting_outcome (is_nil c) (is_settled c)
