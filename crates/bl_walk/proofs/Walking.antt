-- How ticks lead through all rows, and what walks show.
use Rattle.std.proofs.Common.{◌≡◌, ℕ, ◌+◌, ◌<◌, ◌≤◌, ℤ, List, [], ◌∷◌, ◌++◌, length, map, refl, sym, ap, ◌∙◌, subst}
use Rattle.std.proofs.Common.{arith}
use Rattle.std.proofs.lemmas.List.{append-nil, append_assoc, length-map, map-append}
use Rattle.std.specs.Prelude.{Some, None, ◌≢◌}
use Rattle.bl_tree.specs.declared.place.Place.{Place}
use Rattle.bl_tree.specs.declared.row.Last.{Last}
use Rattle.bl_tree.specs.declared.row.Last.TheVariants as last
use Rattle.bl_tree.specs.declared.row.Trace.{Trace}
use Rattle.bl_tree.specs.declared.tree.StructDef.{StructDef}
use Rattle.bl_tree.specs.declared.tree.Unit.{Unit as UnitDef}
use Rattle.bl_ctree.specs.Actions.{Action}
use Rattle.bl_ctree.specs.Control.{Control, Idle}
use Rattle.bl_ctree.specs.Instances.{Setting, setting_of}
use Rattle.bl_ctree.specs.Laws.{StillIsUnlisted}
use Rattle.bl_ctree.specs.Means.{Allows, ShownTrace, ends as allows_end, entry_items, goes_on as allows_more, is_stuck as allows_stuck, nothing_more, row_then}
use Rattle.bl_ctree.specs.Means.{shown_trace, stays_open as allows_none, traps as allows_trap}
use Rattle.bl_ctree.specs.Reaches.{Bounded, NeverStuck, after_tick, at_first}
use Rattle.bl_ctree.specs.Store.{Store, first_store, outputs_row}
use Rattle.bl_ctree.specs.Ticks.{Tick, End}
use Rattle.bl_ctree_run.specs.Running.{RunState}
use Rattle.bl_walk.specs.declared.choice.Choice.{Choice}
use Rattle.bl_walk.specs.Choices.{choice_of}
use Rattle.bl_walk.specs.inner.Ticks.{Steady, Ticked, WalkBetweenTicks, ends as tick_ends, pauses as tick_pauses, traps as tick_traps}
use Rattle.bl_walk.specs.Laws.{BeginsNoMoreTicks, ClosedStayClosed, FrontsShowFronts, ShowsNoMoreRows, UnsettledGoOn, WalksAreAllowed, WalksAreMeant}
use Rattle.bl_walk.specs.Walks.{Appended, PickedTick, Walks, ends, goes_on, places_of, stays_open, traps}

-- ---- laws

module _ (w : Setting) where
  tick_of : {choice last : Choice} {row : List ℤ} {c : Control} {store : Store} {actions : List Action} {end : End} →
      PickedTick w choice row c store actions last end → Tick w row c store end
  tick_of {actions = actions} tick = record { actions = actions; maximal = tick.maximal }

  allowed : {choice : Choice} {rows : List (List ℤ)} {c : Control} {store : Store} {shows : ShownTrace} {lists : List (List Action)} →
      Walks w choice rows c store shows lists → Allows w rows c store shows
  allowed stays_open = allows_none
  allowed (traps tick) = allows_trap (tick_of tick)
  allowed (ends tick e) = allows_end (tick_of tick) e
  allowed (goes_on tick e more) = allows_more (tick_of tick) e (allowed more)

  no_more : {rows : List (List ℤ)} {c : Control} {store : Store} {shows : ShownTrace} → Allows w rows c store shows → length shows.rows ≤ length rows
  no_more allows_none = omega arith
  no_more (allows_trap tick) = omega arith
  no_more (allows_stuck tick e) = omega arith
  no_more (allows_end {rows = rows} tick e) = omega arith
  no_more (allows_more tick e rest) = let few = no_more rest in omega arith

  no_more_ticks : {choice : Choice} {rows : List (List ℤ)} {c : Control} {store : Store} {shows : ShownTrace} {lists : List (List Action)} →
      Walks w choice rows c store shows lists → length lists ≤ length rows
  no_more_ticks stays_open = omega arith
  no_more_ticks (traps tick) = omega arith
  no_more_ticks (ends tick e) = omega arith
  no_more_ticks (goes_on tick e rest) = let few = no_more_ticks rest in omega arith

  -- whatever rows come behind a run that is closed
  closed : (more : List (List ℤ)) {rows : List (List ℤ)} {c : Control} {store : Store} {shows : ShownTrace} → Allows w rows c store shows →
      shows.last ≢ Some last.Open → Allows w (rows ++ more) c store shows
  closed more allows_none opened = absurd (opened refl)
  closed more (allows_trap tick) opened = allows_trap tick
  closed more (allows_stuck tick e) opened = allows_stuck tick e
  closed more (allows_end tick e) opened = allows_end tick e
  closed more (allows_more tick e rest) opened = allows_more tick e (closed more rest opened)

-- what is allowed over the first rows
record Front (w : Setting) (rows : List (List ℤ)) (c : Control) (store : Store) (shows : ShownTrace) : Type 0 where
  front : ShownTrace
  allows : Allows w rows c store front
  more : List (List ℤ)
  are : shows.rows ≡ front.rows ++ more

module _ (w : Setting) where
  front_of : (rows more : List (List ℤ)) {c : Control} {store : Store} {shows : ShownTrace} → Allows w (rows ++ more) c store shows →
      Front w rows c store shows
  front_of [] more {shows = shows} allows =
      record { front = nothing_more (Some last.Open); allows = allows_none; more = shows.rows; are = refl }
  front_of (row ∷ rows) more (allows_trap tick) =
      record { front = nothing_more (Some last.Trap); allows = allows_trap tick; more = []; are = refl }
  front_of (row ∷ rows) more (allows_stuck tick e) = record { front = nothing_more None; allows = allows_stuck tick e; more = []; are = refl }
  front_of (row ∷ rows) more (allows_end {store' = store'} tick e) = record {
    front = row_then (outputs_row w store') (nothing_more (Some last.Ended));
    allows = allows_end tick e;
    more = [];
    are = refl;
  }
  front_of (row ∷ rows) more (allows_more {store' = store'} tick e rest) =
      let one = front_of rows more rest in
      record {
        front = row_then (outputs_row w store') one.front;
        allows = allows_more tick e one.allows;
        more = one.more;
        are = ap (λ rs. outputs_row w store' ∷ rs) one.are;
      }

pub fronts_show : FrontsShowFronts
fronts_show structs units entry rows more shows means =
    let one = front_of (setting_of structs units entry) rows more means in
    record { front = one.front; means = one.allows; more = one.more; are = one.are }

pub walks_allowed : WalksAreAllowed
walks_allowed w choice rows c store shows lists walks = allowed w walks

pub walks_meant : WalksAreMeant
walks_meant structs units entry seed rows trace lists has = allowed (setting_of structs units entry) has.walks

pub shows_no_more : ShowsNoMoreRows
shows_no_more w rows c store shows allows = no_more w allows

pub begins_no_more : BeginsNoMoreTicks
begins_no_more structs units entry seed rows trace lists has =
    let few = no_more_ticks (setting_of structs units entry) has.walks in
    let same = ap length has.places ∙ length-map has.steps places_of in
    omega arith

pub closed_stay : ClosedStayClosed
closed_stay structs units entry rows more shows means opened = closed (setting_of structs units entry) more means opened

pub unsettled_on : StillIsUnlisted → UnsettledGoOn
unsettled_on still structs units entry never rows row actions c store inside none =
    never rows row actions c store inside ((still (setting_of structs units entry) c).1 none)

-- ---- over rows

-- what is known of a program is known of its setting
pub steady_at : (most : ℕ) (structs : List StructDef) (units : List UnitDef) (entry : ℕ) → Bounded most structs units entry →
    NeverStuck structs units entry → (w : Setting) → w ≡ setting_of structs units entry → Steady most w
steady_at most structs units entry bounded never w e = subst (Steady most) (sym e) (record { bounded = bounded; never_stuck = never })

-- a walk from where a run stands is one from where it began
pub record Onward (w : Setting) (choice : Choice) (rows : List (List ℤ)) (s : RunState) (lists : List (List Place)) (now : Choice)
    (rows2 : List (List ℤ)) (t : RunState) (outs : List (List ℤ)) (lists2 : List (List Place)) : Type 0 where
  pub steps : List (List Action)
  pub told : lists2 ≡ lists ++ map places_of steps
  pub on : (shows : ShownTrace) (more : List (List Action)) → Walks w now rows2 t.control t.store shows more →
      Walks w choice rows s.control s.store (record { rows = outs ++ shows.rows; last = shows.last }) (steps ++ more)

module _ (w : Setting) (choice : Choice) (rows : List (List ℤ)) (s : RunState) (lists : List (List Place)) where
  pub onward_first : Onward w choice rows s lists choice rows s [] lists
  onward_first = record { steps = []; told = sym (append-nil lists); on = λ shows more walks. walks }

  told_list : (steps : List (List Action)) (actions : List Action) (old new : List (List Place)) → old ≡ lists ++ map places_of steps →
      new ≡ old ++ places_of actions ∷ [] → new ≡ lists ++ map places_of (steps ++ actions ∷ [])
  told_list steps actions old new told e =
      e ∙ ap (λ front. front ++ places_of actions ∷ []) told ∙ append_assoc lists (map places_of steps) (places_of actions ∷ [])
      ∙ ap (λ behind. lists ++ behind) (sym (map-append places_of steps (actions ∷ [])))

  -- ---- after a tick

  abbrev From : Choice → List (List ℤ) → RunState → List (List ℤ) → List (List Place) → Type 0
  From now rows2 t outs lists2 = Onward w choice rows s lists now rows2 t outs lists2

  pub onward_pause : (now later : Choice) (row : List ℤ) (rows2 rows3 : List (List ℤ)) (t u : RunState) (outs outs' : List (List ℤ))
      (lists2 lists3 : List (List Place)) → From now rows2 t outs lists2 → rows2 ≡ row ∷ rows3 →
      Ticked w now row t later u outs outs' lists2 lists3 last.Open → From later rows3 u outs' lists3
  onward_pause now later row rows2 rows3 t u outs outs' lists2 lists3 onward next (tick_pauses actions tick e rowed grew) = record {
    steps = onward.steps ++ actions ∷ [];
    told = told_list onward.steps actions lists2 lists3 onward.told grew;
    on = λ shows more walks.
        let one : Walks w now rows2 t.control t.store (row_then (outputs_row w u.store) shows) (actions ∷ more) =
        subst (λ (rs : List (List ℤ)). Walks w now rs t.control t.store (row_then (outputs_row w u.store) shows) (actions ∷ more)) (sym next)
        (goes_on tick e walks) in
        let all = onward.on (row_then (outputs_row w u.store) shows) (actions ∷ more) one in
        let rows_are : outs ++ (outputs_row w u.store ∷ shows.rows) ≡ outs' ++ shows.rows =
        sym (append_assoc outs (outputs_row w u.store ∷ []) shows.rows) ∙ ap (λ front. front ++ shows.rows) (sym rowed) in
        let steps_are : onward.steps ++ (actions ∷ more) ≡ (onward.steps ++ actions ∷ []) ++ more =
        sym (append_assoc onward.steps (actions ∷ []) more) in
        subst (λ (ls : List (List Action)). Walks w choice rows s.control s.store (record { rows = outs' ++ shows.rows; last = shows.last }) ls) steps_are
        (subst (λ (rs : List (List ℤ)). Walks w choice rows s.control s.store (record { rows = rs; last = shows.last }) (onward.steps ++ (actions ∷ more)))
        rows_are all);
  }

  -- ---- at the end

  -- all steps, with what is shown
  pub record Whole (trace : Trace) (after : List (List Place)) : Type 0 where
    pub all : List (List Action)
    pub walks : Walks w choice rows s.control s.store (shown_trace trace) all
    pub told : after ≡ lists ++ map places_of all

  pub whole_open : (now : Choice) (t : RunState) (outs : List (List ℤ)) (after : List (List Place)) (rows2 : List (List ℤ)) → rows2 ≡ [] →
      From now rows2 t outs after → Whole (record { rows = outs; last = last.Open }) after
  whole_open now t outs after rows2 none onward = record {
    all = onward.steps ++ [];
    walks = subst (λ (rs : List (List ℤ)). Walks w choice rows s.control s.store (record { rows = rs; last = Some last.Open }) (onward.steps ++ []))
        (append-nil outs) (onward.on (nothing_more (Some last.Open)) []
        (subst (λ (rs : List (List ℤ)). Walks w now rs t.control t.store (nothing_more (Some last.Open)) []) (sym none) stays_open));
    told = onward.told ∙ ap (λ steps. lists ++ map places_of steps) (sym (append-nil onward.steps));
  }

  pub whole_closed : (now later : Choice) (row : List ℤ) (rows2 rows3 : List (List ℤ)) (t u : RunState) (outs outs' : List (List ℤ))
      (lists2 after : List (List Place)) → From now rows2 t outs lists2 → rows2 ≡ row ∷ rows3 → (stand : Last) → (stand ≡ last.Open → ⊥) →
      Ticked w now row t later u outs outs' lists2 after stand → Whole (record { rows = outs'; last = stand }) after
  whole_closed now later row rows2 rows3 t u outs outs' lists2 after onward next _ opened (tick_pauses actions tick e rowed grew) = absurd (opened refl)
  whole_closed now later row rows2 rows3 t u outs outs' lists2 after onward next _ opened (tick_traps actions tick same grew) = record {
    all = onward.steps ++ actions ∷ [];
    walks =
        let rows_are : outs ++ [] ≡ outs' = append-nil outs ∙ sym same in
        subst (λ (rs : List (List ℤ)). Walks w choice rows s.control s.store (record { rows = rs; last = Some last.Trap }) (onward.steps ++ actions ∷ []))
        rows_are (onward.on (nothing_more (Some last.Trap)) (actions ∷ [])
        (subst (λ (rs : List (List ℤ)). Walks w now rs t.control t.store (nothing_more (Some last.Trap)) (actions ∷ [])) (sym next) (traps tick)));
    told = told_list onward.steps actions lists2 after onward.told grew;
  }
  whole_closed now later row rows2 rows3 t u outs outs' lists2 after onward next _ opened (tick_ends actions tick e rowed grew) = record {
    all = onward.steps ++ actions ∷ [];
    walks =
        let final = row_then (outputs_row w u.store) (nothing_more (Some last.Ended)) in
        subst (λ (rs : List (List ℤ)). Walks w choice rows s.control s.store (record { rows = rs; last = Some last.Ended }) (onward.steps ++ actions ∷ []))
        (sym rowed) (onward.on final (actions ∷ [])
        (subst (λ (rs : List (List ℤ)). Walks w now rs t.control t.store final (actions ∷ [])) (sym next) (ends tick e)));
    told = told_list onward.steps actions lists2 after onward.told grew;
  }

-- a run stands between two ticks again
pub between_pause : (w : Setting) (now later : Choice) (row : List ℤ) (t u : RunState) (outs outs' : List (List ℤ)) (lists lists' : List (List Place)) →
    WalkBetweenTicks w t → Ticked w now row t later u outs outs' lists lists' last.Open → WalkBetweenTicks w u
between_pause w now later row t u outs outs' lists lists' between (tick_pauses actions tick e rowed grew) = record {
  rows = between.rows ++ row ∷ [];
  reached = after_tick between.reached (tick_of w tick) e refl;
}

pub between_first : (w : Setting) (s : RunState) → s ≡ record { control = Idle (entry_items w); store = first_store w } → WalkBetweenTicks w s
between_first w s e = subst (WalkBetweenTicks w) (sym e) (record { rows = []; reached = at_first })

-- what a program's walk appended
pub appended : (structs : List StructDef) (units : List UnitDef) (entry seed : ℕ) (rows : List (List ℤ)) (trace : Trace)
    (lists after : List (List Place)) (w : Setting) (s : RunState) (choice : Choice) → w ≡ setting_of structs units entry →
    s ≡ record { control = Idle (entry_items w); store = first_store w } → choice ≡ choice_of seed → Whole w choice rows s lists trace after →
    Appended structs units entry seed rows trace lists after
appended structs units entry seed rows trace lists after w s choice we se ce whole = record {
  lists = map places_of whole.all;
  walked = record {
    steps = whole.all;
    walks =
        subst (λ (w : Setting). Walks w (choice_of seed) rows (Idle (entry_items w)) (first_store w) (shown_trace trace) whole.all) we
        (subst (λ (ch : Choice). Walks w ch rows (Idle (entry_items w)) (first_store w) (shown_trace trace) whole.all) ce
        (subst (λ (st : RunState). Walks w choice rows st.control st.store (shown_trace trace) whole.all) se whole.walks));
    places = refl;
  };
  grew = whole.told;
}

-- ---- as it is told

module _ (w w' : Setting) (same : w' ≡ w) (choice : Choice) (rows : List (List ℤ)) (s : RunState) (lists : List (List Place)) (now later : Choice)
    (row : List ℤ) (rows2 rows3 : List (List ℤ)) (t u : RunState) (outs outs' : List (List ℤ)) (lists2 lists3 : List (List Place))
    (onward : Onward w choice rows s lists now rows2 t outs lists2) where
  -- a run that pauses goes on
  pub going_on : WalkBetweenTicks w t → rows2 ≡ row ∷ rows3 → (stand : Last) → stand ≡ last.Open →
      Ticked w' now row t later u outs outs' lists2 lists3 stand →
      WalkBetweenTicks w u × Onward w choice rows s lists later rows3 u outs' lists3
  going_on between next stand is ticked =
      let here : Ticked w now row t later u outs outs' lists2 lists3 last.Open =
      subst (λ l. Ticked w now row t later u outs outs' lists2 lists3 l) is
      (subst (λ (v : Setting). Ticked v now row t later u outs outs' lists2 lists3 stand) same ticked) in (
        between_pause w now later row t u outs outs' lists2 lists3 between here,
        onward_pause w choice rows s lists now later row rows2 rows3 t u outs outs' lists2 lists3 onward next here,
      )

  -- one that is closed was walked
  pub walked_closed : (structs : List StructDef) (units : List UnitDef) (entry seed : ℕ) → w ≡ setting_of structs units entry →
      s ≡ record { control = Idle (entry_items w); store = first_store w } → choice ≡ choice_of seed → rows2 ≡ row ∷ rows3 → (stand : Last) →
      (stand ≡ last.Open → ⊥) → Ticked w' now row t later u outs outs' lists2 lists3 stand →
      Appended structs units entry seed rows (record { rows = outs'; last = stand }) lists lists3
  walked_closed structs units entry seed we se ce next stand shut ticked =
      appended structs units entry seed rows (record { rows = outs'; last = stand }) lists lists3 w s choice we se ce
      (whole_closed w choice rows s lists now later row rows2 rows3 t u outs outs' lists2 lists3 onward next stand shut
      (subst (λ (v : Setting). Ticked v now row t later u outs outs' lists2 lists3 stand) same ticked))

-- and so was one whose rows are used up
pub walked_open : (w : Setting) (choice : Choice) (rows : List (List ℤ)) (s : RunState) (lists : List (List Place)) (now : Choice)
    (rows2 : List (List ℤ)) (t : RunState) (outs : List (List ℤ)) (lists2 : List (List Place)) → Onward w choice rows s lists now rows2 t outs lists2 →
    (structs : List StructDef) (units : List UnitDef) (entry seed : ℕ) → w ≡ setting_of structs units entry →
    s ≡ record { control = Idle (entry_items w); store = first_store w } → choice ≡ choice_of seed → rows2 ≡ [] →
    Appended structs units entry seed rows (record { rows = outs; last = last.Open }) lists lists2
walked_open w choice rows s lists now rows2 t outs lists2 onward structs units entry seed we se ce none =
    appended structs units entry seed rows (record { rows = outs; last = last.Open }) lists lists2 w s choice we se ce
    (whole_open w choice rows s lists now t outs lists2 rows2 none onward)
