-- What holds of all walks.
use Rattle.std.specs.Prelude.{ℕ, ℤ, ◌≤◌, true, List, [], ◌++◌, length, Some, None, ◌≡◌, ◌≢◌}
use Rattle.bl_tree.specs.declared.place.Place.{Place}
use Rattle.bl_tree.specs.declared.row.Last.TheVariants.{Open}
use Rattle.bl_tree.specs.declared.row.Trace.{Trace}
use Rattle.bl_tree.specs.declared.tree.StructDef.{StructDef}
use Rattle.bl_tree.specs.declared.tree.Unit.{Unit as UnitDef}
use Rattle.bl_ctree.specs.Actions.{Action, Performed, perform}
use Rattle.bl_ctree.specs.Control.{Control, is_settled}
use Rattle.bl_ctree.specs.Instances.{Setting, setting_of}
use Rattle.bl_ctree.specs.Means.{Allows, Means, ShownTrace, shown_trace}
use Rattle.bl_ctree.specs.Points.{IsMember, Point, points}
use Rattle.bl_ctree.specs.Reaches.{NeverStuck, ReachesInside}
use Rattle.bl_ctree.specs.Steps.{Step, Traps}
use Rattle.bl_ctree.specs.Store.{Store}
use Rattle.bl_ctree.specs.Ticks.{End, Rests, Steps}
use Rattle.bl_walk.specs.declared.choice.Choice.{Choice}
use Rattle.bl_walk.specs.Walks.{HasWalked, Picks, Walks}

-- a point that may act steps, or traps
pub record PointsStepOrTrap : Type 0 where
  pub steps : (w : Setting) (c : Control) (store : Store) (point : Point Control) (done : Performed) → IsMember (Point Control) point (points w 0 c) →
      perform w point.action store ≡ Some done → Step w c store point.action (point.after done.answer) done.store
  pub traps : (w : Setting) (c : Control) (store : Store) (point : Point Control) → IsMember (Point Control) point (points w 0 c) →
      perform w point.action store ≡ None → Traps w c store point.action

-- a list of picked steps is a list of steps
abbrev pub PicksAreSteps : Type 0
PicksAreSteps = (w : Setting) (choice last : Choice) (c : Control) (store : Store) (actions : List Action) (end : End) →
    Picks w choice c store actions last end → Steps w c store actions end

-- where no tick is stuck a point may act as long as something is left to do in a tick
abbrev pub UnsettledGoOn : Type 0
UnsettledGoOn = (structs : List StructDef) (units : List UnitDef) (entry : ℕ) → NeverStuck structs units entry →
    let w = setting_of structs units entry in
    (rows : List (List ℤ)) (row : List ℤ) (actions : List Action) (c : Control) (store : Store) →
    ReachesInside w rows row actions (Rests c store) → points w 0 c ≡ [] → is_settled c ≡ true

-- the semantics allows what a walk shows
abbrev pub WalksAreAllowed : Type 0
WalksAreAllowed = (w : Setting) (choice : Choice) (rows : List (List ℤ)) (c : Control) (store : Store) (shows : ShownTrace) (lists : List (List Action)) →
    Walks w choice rows c store shows lists → Allows w rows c store shows

-- every walk of a program shows a trace that the semantics allows
abbrev pub WalksAreMeant : Type 0
WalksAreMeant = (structs : List StructDef) (units : List UnitDef) (entry seed : ℕ) (rows : List (List ℤ)) (trace : Trace) (lists : List (List Place)) →
    HasWalked structs units entry seed rows trace lists → Means structs units entry rows (shown_trace trace)

-- no more rows are shown than there are
abbrev pub ShowsNoMoreRows : Type 0
ShowsNoMoreRows = (w : Setting) (rows : List (List ℤ)) (c : Control) (store : Store) (shows : ShownTrace) → Allows w rows c store shows →
    length shows.rows ≤ length rows

-- a walk begins no more ticks than there are rows
abbrev pub BeginsNoMoreTicks : Type 0
BeginsNoMoreTicks = (structs : List StructDef) (units : List UnitDef) (entry seed : ℕ) (rows : List (List ℤ)) (trace : Trace)
    (lists : List (List Place)) → HasWalked structs units entry seed rows trace lists → length lists ≤ length rows

-- what the meaning allows over the first of some rows, of which something was shown
pub record ShowsFront (structs : List StructDef) (units : List UnitDef) (entry : ℕ) (rows : List (List ℤ)) (shows : ShownTrace) : Type 0 where
  pub front : ShownTrace
  pub means : Means structs units entry rows front
  pub more : List (List ℤ)
  pub are : shows.rows ≡ front.rows ++ more

-- what is shown over rows begins with what is shown over the first of them
abbrev pub FrontsShowFronts : Type 0
FrontsShowFronts = (structs : List StructDef) (units : List UnitDef) (entry : ℕ) (rows more : List (List ℤ)) (shows : ShownTrace) →
    Means structs units entry (rows ++ more) shows → ShowsFront structs units entry rows shows

-- a run that has ended or trapped is as it was, whatever rows come behind
abbrev pub ClosedStayClosed : Type 0
ClosedStayClosed = (structs : List StructDef) (units : List UnitDef) (entry : ℕ) (rows more : List (List ℤ)) (shows : ShownTrace) →
    Means structs units entry rows shows → shows.last ≢ Some Open → Means structs units entry (rows ++ more) shows
