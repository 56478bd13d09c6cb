-- How steps lead through a tick.
use Rattle.std.proofs.Common.{◌≡◌, ℕ, zero, suc, ◌+◌, ◌<◌, ◌≤◌, ℤ, Bool, true, false, List, [], ◌∷◌, ◌++◌, length, refl, sym, ap, ◌∙◌, subst, arith}
use Rattle.std.proofs.lemmas.List.{length-append, length-map, map-append}
use Rattle.std.specs.Prelude.{Option, Some, None, Result, Ok, Err, IfOk, option_and_then, option_map, slice_get, if◌then◌else◌}
use Rattle.bl_tree.specs.declared.memory.NoMemory.{NoMemory}
use Rattle.bl_tree.specs.declared.place.Place.{Place}
use Rattle.bl_tree.specs.declared.row.Last.{Last}
use Rattle.bl_tree.specs.declared.row.Last.TheVariants as last
use Rattle.bl_eval.specs.declared.values.Did.{Did}
use Rattle.bl_eval.specs.declared.values.Did.TheVariants.{Done, Trap}
use Rattle.bl_ctree.specs.Actions.{Action, Performed, perform}
use Rattle.bl_ctree.specs.Control.{Control, is_nil, is_settled, woken}
use Rattle.bl_ctree.specs.Instances.{Setting}
use Rattle.bl_ctree.specs.Laws.{SettledIsStill, StillIsUnlisted}
use Rattle.bl_ctree.specs.Points.{Point, points}
use Rattle.bl_ctree.specs.Reaches.{ReachesInside}
use Rattle.bl_ctree.specs.Store.{outputs_row, woken_store}
use Rattle.bl_ctree.specs.Ticks.{End, Rests, Steps, Trapped, resting_outcome}
use Rattle.bl_ctree_run.specs.Running.{Acted, RunState, action_of, stepped, stepped_by}
use Rattle.bl_ctree_run.specs.declared.action.Action.{Action as Told}
use Rattle.bl_walk.specs.declared.choice.Choice.{Choice}
use Rattle.bl_walk.specs.Choices.{picked, word_moved}
use Rattle.bl_walk.specs.inner.Ticks.{Begun, Reacted, Steady, StepsTo, Ticked, Took, WalkBetweenTicks, breaks_off, ends, fails, goes, pauses, rests}
use Rattle.bl_walk.specs.inner.Ticks.{traps as tick_traps}
use Rattle.bl_walk.specs.Laws.{PicksAreSteps}
use Rattle.bl_walk.specs.Walks.{IsPicked, PickedTick, Picks, no_step, one_step, places_of, trap_step}
use Rattle.bl_walk.proofs.Picking.{picks_append}

-- ---- one step

-- what an action leaves, where it doesn't trap
record Leaves (w : Setting) (s : RunState) (point : Point Control) (t : RunState) : Type 0 where
  done : Performed
  performs : perform w point.action s.store ≡ Some done
  is : record { control = point.after done.answer; store = done.store } ≡ t

abbrev stepped_from : RunState → Point Control → Option Performed → Option RunState
stepped_from s point found = option_map (λ (p : Performed). record { control = point.after p.answer; store = p.store }) found

leaves_from : (w : Setting) (s : RunState) (point : Point Control) (t : RunState) (found : Option Performed) → perform w point.action s.store ≡ found →
    stepped_from s point found ≡ Some t → Leaves w s point t
leaves_from w s point t (Some p) e is = record { done = p; performs = e; is = cc }
leaves_from w s point t None e is = absurd cc

traps_from : (w : Setting) (s : RunState) (point : Point Control) (found : Option Performed) → perform w point.action s.store ≡ found →
    stepped_from s point found ≡ None → perform w point.action s.store ≡ None
traps_from w s point (Some p) e is = absurd cc
traps_from w s point None e is = e

-- an element of a list
record Nth (A : Type 0) (xs : List A) (k : ℕ) : Type 0 where
  element : A
  is : slice_get xs k ≡ Some element

nth : {A : Type 0} (xs : List A) (k : ℕ) → k < length xs → Nth A xs k
nth [] k low = absurd (omega arith)
nth (x ∷ xs) zero low = record { element = x; is = refl }
nth (x ∷ xs) (suc k) low = let more = nth xs k (omega arith) in record { element = more.element; is = more.is }

took : (w : Setting) (choice : Choice) (s t : RunState) (old new : List Place) (point : Point Control) → IsPicked w choice s.control point →
    new ≡ old ++ point.action.place ∷ [] → (result : Result Did NoMemory) → Acted (stepped_by w s point) s t result →
    IfOk result (Took w choice s t old new)
took w choice s t old new point is grew (Ok Done) acted = goes point is acted grew
took w choice s t old new point is grew (Ok Trap) acted = fails point is acted.0 grew
took w choice s t old new point is grew (Err e) acted = tt

-- the action that was picked is done
pub took_by : (w : Setting) (choice : Choice) (s t : RunState) (old new : List Place) (count : ℕ) (action : Told) (at number : ℕ)
    (result : Result Did NoMemory) → count ≡ length (points w 0 s.control) → at ≡ picked choice count → at < count → number ≡ at
    → option_map action_of (slice_get (points w 0 s.control) number) ≡ Some action → new ≡ old ++ action.place ∷ []
    → Acted (stepped w s number) s t result → IfOk result (Took w choice s t old new)
took_by w choice s t old new count action at number result size pick low same told grew acted =
    let all = points w 0 s.control in
    let one = nth all at (omega (arith, low, size)) in
    let here : slice_get all number ≡ Some one.element = ap (slice_get all) same ∙ one.is in
    let both : Some (action_of one.element) ≡ Some action = sym (ap (option_map action_of) here) ∙ told in
    let acts : action_of one.element ≡ action = cc in
    let is : IsPicked w choice s.control one.element = ap (slice_get all) (sym (pick ∙ ap (picked choice) size)) ∙ one.is in
    let outcome : stepped w s number ≡ stepped_by w s one.element = ap (option_and_then (stepped_by w s)) here in
    took w choice s t old new one.element is (grew ∙ ap (λ (a : Told). old ++ a.place ∷ []) (sym acts)) result
    (subst (λ o. Acted o s t result) outcome acted)

-- as many as they were counted in the same state
pub left_by : (w w' : Setting) (s s' : RunState) (left : ℕ) → w' ≡ w → s' ≡ s → left ≡ length (points w 0 s.control) →
    left ≡ length (points w' 0 s'.control)
left_by w w' s s' left is_w is_s counted =
    counted ∙ (λ j. length (points (sym is_w j) 0 (sym is_s j).control))

-- ---- lists of steps

module _ (w : Setting) (s : RunState) where
  -- before the first step
  pub stands_first : (choice : Choice) (places : List Place) → places ≡ [] → StepsTo w choice s choice s places
  stands_first choice places e = record { actions = []; picks = no_step; told = e }

  told_more : (actions : List Action) (a : Action) (old new : List Place) → old ≡ places_of actions → new ≡ old ++ a.place ∷ [] →
      new ≡ places_of (actions ++ a ∷ [])
  told_more actions a old new told e =
      e ∙ ap (λ front. front ++ a.place ∷ []) told ∙ sym (map-append (λ (b : Action). b.place) actions (a ∷ []))

  -- one step more
  stands_on : (choice now : Choice) (t u : RunState) (old new : List Place) → StepsTo w choice s now t old → (point : Point Control) →
      IsPicked w (word_moved now) t.control point → Leaves w t point u → new ≡ old ++ point.action.place ∷ [] →
      StepsTo w choice s (word_moved now) u new
  stands_on choice now t u old new stands point is leaves e = record {
    actions = stands.actions ++ point.action ∷ [];
    picks = picks_append stands.picks (subst (λ (u : RunState). Picks w now t.control t.store (point.action ∷ []) (word_moved now) (Rests u.control u.store))
        leaves.is (one_step point leaves.done is leaves.performs no_step));
    told = told_more stands.actions point.action old new stands.told e;
  }

  pub stands_took : (choice now : Choice) (t u : RunState) (old new : List Place) → StepsTo w choice s now t old → Took w (word_moved now) t u old new Done →
      StepsTo w choice s (word_moved now) u new
  stands_took choice now t u old new stands (goes point is steps e) =
      stands_on choice now t u old new stands point is (leaves_from w t point u (perform w point.action t.store) refl steps) e

  -- a trap is the last step
  pub reacted_trap : (choice now : Choice) (t u : RunState) (old new : List Place) → StepsTo w choice s now t old → Took w (word_moved now) t u old new Trap →
      Reacted w choice s (word_moved now) u new Trap
  reacted_trap choice now t u old new stands (fails point is steps e) =
      breaks_off (stands.actions ++ point.action ∷ [])
      (picks_append stands.picks (trap_step point is (traps_from w t point (perform w point.action t.store) refl steps)))
      (told_more stands.actions point.action old new stands.told e)

  -- ---- in a run

  pub reaches : (begun : Begun w s) (actions : List Action) (end : End) → Steps w s.control s.store actions end →
      ReachesInside w begun.rows begun.row actions end
  reaches begun actions end steps = record {
    tree = begun.tree;
    store = begun.store;
    before = begun.reached;
    steps = subst (λ (s : RunState). Steps w s.control s.store actions end) begun.is steps;
  }

  pub few_steps : (most : ℕ) → Steady most w → Begun w s → PicksAreSteps → (choice now : Choice) (t : RunState) (places : List Place) →
      StepsTo w choice s now t places → length places ≤ most
  few_steps most steady begun are_steps choice now t places stands =
      let few : length stands.actions ≤ most =
      steady.bounded begun.rows begun.row stands.actions (Rests t.control t.store)
      (reaches begun stands.actions (Rests t.control t.store)
      (are_steps w choice now s.control s.store stands.actions (Rests t.control t.store) stands.picks)) in
      let same : length places ≡ length stands.actions = ap length stands.told ∙ length-map stands.actions (λ (a : Action). a.place) in
      omega (arith, few, same)

  -- where no point may act nothing is left to do
  pub settled_there : (most : ℕ) → Steady most w → Begun w s → PicksAreSteps → StillIsUnlisted → (choice now : Choice) (t : RunState) (places : List Place) →
      StepsTo w choice s now t places → points w 0 t.control ≡ [] → is_settled t.control ≡ true
  settled_there most steady begun are_steps still choice now t places stands none =
      steady.never_stuck begun.rows begun.row stands.actions t.control t.store
      (reaches begun stands.actions (Rests t.control t.store)
      (are_steps w choice now s.control s.store stands.actions (Rests t.control t.store) stands.picks))
      ((still w t.control).1 none)

pub none_of : {A : Type 0} (xs : List A) (count : ℕ) → count ≡ length xs → count ≡ 0 → xs ≡ []
none_of [] count size is = refl
none_of (x ∷ xs) count size is = absurd (omega (arith, size, is))

-- a step makes the list of places longer
pub one_place_more : (w : Setting) (choice : Choice) (s t : RunState) (old new : List Place) → Took w choice s t old new Done →
    length new ≡ length old + 1
one_place_more w choice s t old new (goes point is steps e) = ap length e ∙ length-append old (point.action.place ∷ [])

-- ---- steps as they are told

module _ (w w' : Setting) (same : w' ≡ w) (choice : Choice) (s : RunState) (now next : Choice) (turned : next ≡ word_moved now) (t u : RunState)
    (old new : List Place) (stands : StepsTo w choice s now t old) where
  by_moved : (did : Did) → Took w' next t u old new did → Took w (word_moved now) t u old new did
  by_moved did took =
      subst (λ n. Took w n t u old new did) turned (subst (λ (v : Setting). Took v next t u old new did) same took)

  pub stands_by : (did : Did) → did ≡ Done → Took w' next t u old new did → StepsTo w choice s next u new
  stands_by did is took =
      subst (λ n. StepsTo w choice s n u new) (sym turned)
      (stands_took w s choice now t u old new stands (subst (λ d. Took w (word_moved now) t u old new d) is (by_moved did took)))

  pub reacted_by : (did : Did) → did ≡ Trap → Took w' next t u old new did → Reacted w choice s next u new did
  reacted_by did is took =
      subst (λ d. Reacted w choice s next u new d) (sym is) (subst (λ n. Reacted w choice s n u new Trap) (sym turned)
      (reacted_trap w s choice now t u old new stands (subst (λ d. Took w (word_moved now) t u old new d) is (by_moved did took))))

  pub longer_by : (did : Did) → did ≡ Done → Took w' next t u old new did → length new ≡ length old + 1
  longer_by did is took = one_place_more w' next t u old new (subst (λ d. Took w' next t u old new d) is took)

-- ---- the whole tick

module _ (w : Setting) (choice : Choice) (row : List ℤ) (s : RunState) where
  -- what has awoken
  abbrev awake : RunState
  awake = record { control = woken s.control; store = woken_store row s.store }

  pub begins : WalkBetweenTicks w s → (t : RunState) → t ≡ awake → Begun w t
  begins between t e = record {
    rows = between.rows;
    row = row;
    tree = s.control;
    store = s.store;
    reached = between.reached;
    is = e;
  }

  module _ (are_steps : PicksAreSteps) where
    trapped_tick : (now : Choice) (actions : List Action) → Picks w choice awake.control awake.store actions now Trapped →
        PickedTick w choice row s.control s.store actions now Trapped
    trapped_tick now actions picks = record {
      picks = picks;
      maximal = record { steps = are_steps w choice now awake.control awake.store actions Trapped picks; over = tt };
    }

    rested_tick : StillIsUnlisted → SettledIsStill → (now : Choice) (t : RunState) (actions : List Action) →
        Picks w choice awake.control awake.store actions now (Rests t.control t.store) → is_settled t.control ≡ true →
        PickedTick w choice row s.control s.store actions now (Rests t.control t.store)
    rested_tick still settled_still now t actions picks settled = record {
      picks = picks;
      maximal = record {
        steps = are_steps w choice now awake.control awake.store actions (Rests t.control t.store) picks;
        over = (still w t.control).1 (settled_still w 0 t.control settled);
      };
    }

    -- a tick that trapped
    pub ticked_trap : (first : RunState) → first ≡ awake → (now : Choice) (t : RunState) (places : List Place) → Reacted w choice first now t places Trap →
        (outs outs' : List (List ℤ)) (lists lists' : List (List Place)) → outs' ≡ outs → lists' ≡ lists ++ places ∷ [] →
        Ticked w choice row s now t outs outs' lists lists' last.Trap
    ticked_trap first e now t places (breaks_off actions picks told) outs outs' lists lists' same grew =
        tick_traps actions
        (trapped_tick now actions (subst (λ (f : RunState). Picks w choice f.control f.store actions now Trapped) e picks)) same
        (grew ∙ ap (λ p. lists ++ p ∷ []) told)

    by_nil : (still : StillIsUnlisted) (settled_still : SettledIsStill) (now : Choice) (t : RunState) (actions : List Action) →
        Picks w choice awake.control awake.store actions now (Rests t.control t.store) → is_settled t.control ≡ true →
        (outs outs' : List (List ℤ)) (lists lists' : List (List Place)) → outs' ≡ outs ++ outputs_row w t.store ∷ [] →
        lists' ≡ lists ++ places_of actions ∷ [] → (nil : Bool) → is_nil t.control ≡ nil →
        Ticked w choice row s now t outs outs' lists lists' (if nil then last.Ended else last.Open)
    by_nil still settled_still now t actions picks settled outs outs' lists lists' rowed grew true e =
        ends actions (rested_tick still settled_still now t actions picks settled) (ap (λ nil. resting_outcome nil (is_settled t.control)) e) rowed grew
    by_nil still settled_still now t actions picks settled outs outs' lists lists' rowed grew false e =
        pauses actions (rested_tick still settled_still now t actions picks settled)
        (ap (λ nil. resting_outcome nil (is_settled t.control)) e ∙ ap (λ b. resting_outcome false b) settled) rowed grew

    -- one that didn't
    pub ticked_row : StillIsUnlisted → SettledIsStill → (first : RunState) → first ≡ awake → (now : Choice) (t : RunState) (places : List Place) →
        Reacted w choice first now t places Done → (outs outs' : List (List ℤ)) (lists lists' : List (List Place)) →
        outs' ≡ outs ++ outputs_row w t.store ∷ [] → lists' ≡ lists ++ places ∷ [] → (stand : Last) →
        stand ≡ (if is_nil t.control then last.Ended else last.Open) → Ticked w choice row s now t outs outs' lists lists' stand
    ticked_row still settled_still first e now t places (rests stands settled) outs outs' lists lists' rowed grew stand is =
        subst (λ (l : Last). Ticked w choice row s now t outs outs' lists lists' l) (sym is)
        (by_nil still settled_still now t stands.actions
        (subst (λ (f : RunState). Picks w choice f.control f.store stands.actions now (Rests t.control t.store)) e stands.picks) settled
        outs outs' lists lists' rowed (grew ∙ ap (λ p. lists ++ p ∷ []) stands.told) (is_nil t.control) refl)

-- ---- the whole tick as it is told

module _ (w w' : Setting) (same : w' ≡ w) (choice : Choice) (row : List ℤ) (s first : RunState)
    (e : first ≡ record { control = woken s.control; store = woken_store row s.store }) (are_steps : PicksAreSteps) (now : Choice) (t : RunState)
    (places : List Place) (did : Did) (reacted : Reacted w' choice first now t places did) (lists lists' : List (List Place))
    (grew : lists' ≡ lists ++ places ∷ []) where
  there : (kind : Did) → did ≡ kind → Reacted w choice first now t places kind
  there kind is = subst (λ d. Reacted w choice first now t places d) is (subst (λ (v : Setting). Reacted v choice first now t places did) same reacted)

  pub trap_by : did ≡ Trap → (outs : List (List ℤ)) → Ticked w choice row s now t outs outs lists lists' last.Trap
  trap_by is outs = ticked_trap w choice row s are_steps first e now t places (there Trap is) outs outs lists lists' refl grew

  pub row_by : did ≡ Done → StillIsUnlisted → SettledIsStill → (outs outs' : List (List ℤ)) (out : List ℤ) → outs' ≡ outs ++ out ∷ [] →
      out ≡ outputs_row w t.store → (stand : Last) → stand ≡ (if is_nil t.control then last.Ended else last.Open) →
      Ticked w choice row s now t outs outs' lists lists' stand
  row_by is still settled_still outs outs' out rowed e_out stand e_stand =
      ticked_row w choice row s are_steps still settled_still first e now t places (there Done is) outs outs' lists lists'
      (rowed ∙ ap (λ o. outs ++ o ∷ []) e_out) grew stand e_stand
