-- How a tick of a walk stands, and how its steps leave it.
use Rattle.std.specs.Prelude.{ℕ, ℤ, ◌≤◌, true, List, [], ◌∷◌, ◌++◌, length, Some, None, ◌≡◌}
use Rattle.bl_tree.specs.declared.place.Place.{Place}
use Rattle.bl_tree.specs.declared.row.Last.{Last}
use Rattle.bl_tree.specs.declared.row.Last.TheVariants as last
use Rattle.bl_eval.specs.declared.values.Did.{Did}
use Rattle.bl_eval.specs.declared.values.Did.TheVariants.{Done, Trap}
use Rattle.bl_ctree.specs.Actions.{Action}
use Rattle.bl_ctree.specs.Control.{Control, is_settled, woken}
use Rattle.bl_ctree.specs.Instances.{Setting}
use Rattle.bl_ctree.specs.Points.{Point}
use Rattle.bl_ctree.specs.Reaches.{Reaches, ReachesInside}
use Rattle.bl_ctree.specs.Steps.{IsStill}
use Rattle.bl_ctree.specs.Store.{Store, outputs_row, woken_store}
use Rattle.bl_ctree.specs.Ticks.{End, Ended, Paused, Rests, Trapped, outcome_at}
use Rattle.bl_ctree_run.specs.Running.{RunState, stepped_by}
use Rattle.bl_walk.specs.declared.choice.Choice.{Choice}
use Rattle.bl_walk.specs.Walks.{IsPicked, PickedTick, Picks, places_of}

-- no list of steps of a tick of the program is longer than the number, and no tick is stuck
pub record Steady (most : ℕ) (w : Setting) : Type 0 where
  pub bounded : (rows : List (List ℤ)) (row : List ℤ) (actions : List Action) (end : End) → ReachesInside w rows row actions end →
      length actions ≤ most
  pub never_stuck : (rows : List (List ℤ)) (row : List ℤ) (actions : List Action) (c : Control) (store : Store) →
      ReachesInside w rows row actions (Rests c store) → IsStill w c → is_settled c ≡ true

-- a run stands so between two ticks
pub record WalkBetweenTicks (w : Setting) (s : RunState) : Type 0 where
  pub rows : List (List ℤ)
  pub reached : Reaches w rows s.control s.store

-- a tick of a run has begun
pub record Begun (w : Setting) (s : RunState) : Type 0 where
  pub rows : List (List ℤ)
  pub row : List ℤ
  pub tree : Control
  pub store : Store
  pub reached : Reaches w rows tree store
  pub is : s ≡ record { control = woken tree; store = woken_store row store }

-- a step by the choice, which has moved: the state before and after, and the places of steps before and after
pub data Took (w : Setting) (choice : Choice) (s t : RunState) (old new : List Place) : Did → Type 0 where
  goes : (point : Point Control) → IsPicked w choice s.control point → stepped_by w s point ≡ Some t → new ≡ old ++ point.action.place ∷ [] →
      Took w choice s t old new Done
  fails : (point : Point Control) → IsPicked w choice s.control point → stepped_by w s point ≡ None → new ≡ old ++ point.action.place ∷ [] →
      Took w choice s t old new Trap

-- steps from a state on, and their places
pub record StepsTo (w : Setting) (choice : Choice) (s : RunState) (now : Choice) (t : RunState) (places : List Place) : Type 0 where
  pub actions : List Action
  pub picks : Picks w choice s.control s.store actions now (Rests t.control t.store)
  pub told : places ≡ places_of actions

-- all steps of a tick that has begun, and their places
pub data Reacted (w : Setting) (choice : Choice) (s : RunState) (now : Choice) (t : RunState) (places : List Place) : Did → Type 0 where
  rests : StepsTo w choice s now t places → is_settled t.control ≡ true → Reacted w choice s now t places Done
  breaks_off : (actions : List Action) → Picks w choice s.control s.store actions now Trapped → places ≡ places_of actions →
      Reacted w choice s now t places Trap

-- a whole tick over a row, which appends the list of its places, and its outputs unless it trapped
pub data Ticked (w : Setting) (choice : Choice) (row : List ℤ) (s : RunState) (now : Choice) (t : RunState) (outs outs' : List (List ℤ))
    (lists lists' : List (List Place)) : Last → Type 0 where
  traps : (actions : List Action) → PickedTick w choice row s.control s.store actions now Trapped → outs' ≡ outs →
      lists' ≡ lists ++ places_of actions ∷ [] → Ticked w choice row s now t outs outs' lists lists' last.Trap
  ends : (actions : List Action) → PickedTick w choice row s.control s.store actions now (Rests t.control t.store) →
      outcome_at (Rests t.control t.store) ≡ Ended → outs' ≡ outs ++ outputs_row w t.store ∷ [] →
      lists' ≡ lists ++ places_of actions ∷ [] → Ticked w choice row s now t outs outs' lists lists' last.Ended
  pauses : (actions : List Action) → PickedTick w choice row s.control s.store actions now (Rests t.control t.store) →
      outcome_at (Rests t.control t.store) ≡ Paused → outs' ≡ outs ++ outputs_row w t.store ∷ [] →
      lists' ≡ lists ++ places_of actions ∷ [] → Ticked w choice row s now t outs outs' lists lists' last.Open
