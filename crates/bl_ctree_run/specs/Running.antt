-- What a program that runs shows: its setting, its control tree and its store; and what one of its steps makes of these.
use Rattle.std.specs.Prelude.{ℕ, List, Option, Some, None, option_map, option_and_then, slice_get, Result, Ok, Err, ◌≡◌}
use Rattle.bl_tree.specs.declared.memory.NoMemory.{NoMemory}
use Rattle.bl_eval.specs.declared.values.Did.{Did}
use Rattle.bl_eval.specs.declared.values.Did.TheVariants.{Done, Trap}
use Rattle.bl_ctree.specs.Actions.{Effect, effect_on, perform}
use Rattle.bl_ctree.specs.Control.{Control}
use Rattle.bl_ctree.specs.Instances.{Setting}
use Rattle.bl_ctree.specs.Nodes.{control_of}
use Rattle.bl_ctree.specs.Points.{Point, points}
use Rattle.bl_ctree.specs.Store.{Store}
use Rattle.bl_ctree_store.specs.Seen.{setting_in, store_of}
use Rattle.bl_ctree_run.specs.declared.action.Action.{Action}
use Rattle.bl_ctree_run.specs.declared.action.Step.{Step}
use Rattle.bl_ctree_run.specs.declared.tree.Tree.{Tree}
use Rattle.bl_ctree_enabled.specs.Spots.{Spot}
use Rattle.bl_ctree_run.specs.inner.Spots.{after_by}

-- a control tree and a store
pub record RunState : Type 0 where
  pub control : Control
  pub store : Store

-- the program with its instances
abbrev pub setting : Tree → Setting
setting tree = setting_in tree.setting

-- the control tree and the store of a running program
abbrev pub state : Tree → RunState
state tree = record { control = control_of tree.node; store = store_of tree.frames.items }

-- the action of a point, as it is told
abbrev pub action_of : Point Control → Action
action_of p = record { place = p.action.place; instance = p.action.instance }

-- the state after the point has acted; none where its action traps
abbrev pub stepped_by : Setting → RunState → Point Control → Option RunState
stepped_by w s p = option_map (λ done. record { control = p.after done.answer; store = done.store }) (perform w p.action s.store)

-- the state after the n-th of the points that may act; none where its action traps
abbrev pub stepped : Setting → RunState → ℕ → Option RunState
stepped w s n = option_and_then (stepped_by w s) (slice_get (points w 0 s.control) n)

-- the outcome of a step: the state as meant, or the old state after a trap or a lack of memory
abbrev pub Acted : Option RunState → RunState → RunState → Result Did NoMemory → Type 0
Acted outcome old new (Ok Done) = outcome ≡ Some new
Acted outcome old new (Ok Trap) = (outcome ≡ None) × (new ≡ old)
Acted outcome old new (Err e) = new ≡ old

-- how a step went that is told with its action
abbrev pub how_of : Result Step NoMemory → Result Did NoMemory
how_of (Ok step) = Ok step.did
how_of (Err e) = Err e

-- the state after an effect in an instance, at the point to which this path of branches leads
abbrev pub acted_at : Setting → RunState → ℕ → Effect → List ℕ → Option RunState
acted_at w s i effect path = option_map (λ done. record { control = after_by w 0 s.control path done.answer; store = done.store })
    (effect_on w i effect s.store)

-- the action of which this is told
abbrev pub action_at : Spot → Action
action_at spot = record { place = spot.place; instance = spot.instance }
