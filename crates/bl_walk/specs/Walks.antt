-- Walks: runs of a program in which a choice picks each step.
use Rattle.std.specs.Prelude.{ℕ, ℤ, List, [], ◌∷◌, ◌++◌, length, map, slice_get, Some, None, ◌≡◌}
use Rattle.bl_tree.specs.declared.place.Place.{Place}
use Rattle.bl_tree.specs.declared.row.Last.TheVariants.{Open, Ended as HasEnded, Trap as HasTrapped}
use Rattle.bl_tree.specs.declared.row.Trace.{Trace}
use Rattle.bl_tree.specs.declared.tree.StructDef.{StructDef}
use Rattle.bl_tree.specs.declared.tree.Unit.{Unit as UnitDef}
use Rattle.bl_ctree.specs.Actions.{Action, Performed, perform}
use Rattle.bl_ctree.specs.Control.{Control, Idle, woken}
use Rattle.bl_ctree.specs.Instances.{Setting, setting_of}
use Rattle.bl_ctree.specs.Means.{ShownTrace, entry_items, nothing_more, row_then, shown_trace}
use Rattle.bl_ctree.specs.Points.{Point, points}
use Rattle.bl_ctree.specs.Store.{Store, first_store, outputs_row, woken_store}
use Rattle.bl_ctree.specs.Ticks.{End, Ended, Maximal, Paused, Rests, Trapped, outcome_at}
use Rattle.bl_walk.specs.declared.choice.Choice.{Choice}
use Rattle.bl_walk.specs.Choices.{choice_of, picked, word_moved}

-- the point is the one that the choice picks among the enabled points of the tree
abbrev pub IsPicked : Setting → Choice → Control → Point Control → Type 0
IsPicked w choice c point = slice_get (points w 0 c) (picked choice (length (points w 0 c))) ≡ Some point

-- a list of picked steps: the choice moves before each step, and a trapping step is the last one
pub data Picks (w : Setting) : Choice → Control → Store → List Action → Choice → End → Type 0 where
  no_step : {choice : Choice} {c : Control} {store : Store} → Picks w choice c store [] choice (Rests c store)
  trap_step : {choice : Choice} {c : Control} {store : Store} (point : Point Control) →
      IsPicked w (word_moved choice) c point → perform w point.action store ≡ None → Picks w choice c store (point.action ∷ []) (word_moved choice) Trapped
  one_step : {choice last : Choice} {c : Control} {store : Store} {rest : List Action} {end : End} (point : Point Control) (done : Performed) →
      IsPicked w (word_moved choice) c point → perform w point.action store ≡ Some done →
      Picks w (word_moved choice) (point.after done.answer) done.store rest last end → Picks w choice c store (point.action ∷ rest) last end

-- a tick over a row of inputs by picked steps: a maximal list of them from the woken tree and store
pub record PickedTick (w : Setting) (choice : Choice) (row : List ℤ) (c : Control) (store : Store) (actions : List Action) (last : Choice)
    (end : End) : Type 0 where
  pub picks : Picks w choice (woken c) (woken_store row store) actions last end
  pub maximal : Maximal w (woken c) (woken_store row store) actions end

-- a run over rows of inputs by picked ticks: the trace shown, and the steps of each tick that it begins
pub data Walks (w : Setting) : Choice → List (List ℤ) → Control → Store → ShownTrace → List (List Action) → Type 0 where
  stays_open : {choice : Choice} {c : Control} {store : Store} → Walks w choice [] c store (nothing_more (Some Open)) []
  traps : {choice last : Choice} {row : List ℤ} {rows : List (List ℤ)} {c : Control} {store : Store} {actions : List Action} →
      PickedTick w choice row c store actions last Trapped → Walks w choice (row ∷ rows) c store (nothing_more (Some HasTrapped)) (actions ∷ [])
  ends : {choice last : Choice} {row : List ℤ} {rows : List (List ℤ)} {c : Control} {store : Store} {actions : List Action}
      {c' : Control} {store' : Store} → PickedTick w choice row c store actions last (Rests c' store') → outcome_at (Rests c' store') ≡ Ended →
      Walks w choice (row ∷ rows) c store (row_then (outputs_row w store') (nothing_more (Some HasEnded))) (actions ∷ [])
  goes_on : {choice last : Choice} {row : List ℤ} {rows : List (List ℤ)} {c : Control} {store : Store} {actions : List Action}
      {c' : Control} {store' : Store} {rest : ShownTrace} {lists : List (List Action)} →
      PickedTick w choice row c store actions last (Rests c' store') → outcome_at (Rests c' store') ≡ Paused →
      Walks w last rows c' store' rest lists → Walks w choice (row ∷ rows) c store (row_then (outputs_row w store') rest) (actions ∷ lists)

-- the places of the statements to which actions belong
abbrev pub places_of : List Action → List Place
places_of actions = map (λ a. a.place) actions

-- the walk of a program by the seed over rows of inputs: its trace, and the places of each tick's steps
pub record HasWalked (structs : List StructDef) (units : List UnitDef) (entry seed : ℕ) (rows : List (List ℤ)) (trace : Trace)
    (lists : List (List Place)) : Type 0 where
  pub steps : List (List Action)
  pub walks :
      let w = setting_of structs units entry in Walks w (choice_of seed) rows (Idle (entry_items w)) (first_store w) (shown_trace trace) steps
  pub places : lists ≡ map places_of steps

-- the lists of places of a walk were appended
pub record Appended (structs : List StructDef) (units : List UnitDef) (entry seed : ℕ) (rows : List (List ℤ)) (trace : Trace)
    (before after : List (List Place)) : Type 0 where
  pub lists : List (List Place)
  pub walked : HasWalked structs units entry seed rows trace lists
  pub grew : after ≡ before ++ lists
