-- Each run of a program is one of the program with first turns unrolled.
use Rattle.std.proofs.Common.{◌≡◌, ◌⊎◌, inl, inr, ℕ, ℤ, Bool, true, List, [], ◌∷◌, ◌++◌, Option, Some, None, refl, sym, ap, ◌∙◌, subst}
use Rattle.std.specs.Prelude.{option_map, unwrap_or}
use Rattle.bl_tree.proofs.Basics.{same_some}
use Rattle.bl_tree.specs.declared.row.Last.TheVariants.{Ended as HasEnded, Trap as HasTrapped}
use Rattle.bl_tree.specs.declared.tree.Unit.{Unit as UnitDef}
use Rattle.bl_graph_nodes.specs.Nodes.{Node}
use Rattle.bl_graph_nodes.specs.Plain.{Plain, plain_body}
use Rattle.bl_ctree.specs.Actions.{Action, Effect, Performed, Silent, effect_on, perform}
use Rattle.bl_ctree.specs.Control as control
use Rattle.bl_ctree.specs.Control.{Control}
use Rattle.bl_ctree.specs.Instances.{Setting}
use Rattle.bl_ctree.specs.Laws.{ReachedInsideIsResidual, ReachedIsResidual, StepsFollow, StepsKeepResidual, WokenTreeIsResidual}
use Rattle.bl_ctree.specs.Means as means
use Rattle.bl_ctree.specs.Means.{Allows, ShownTrace, entry_items, nothing_more, row_then}
use Rattle.bl_ctree.specs.Positions.{body_items}
use Rattle.bl_ctree.specs.Reaches.{Reaches, ReachesInside, after_tick, at_first}
use Rattle.bl_ctree.specs.Residual.{Residual}
use Rattle.bl_ctree.specs.Steps as located
use Rattle.bl_ctree.specs.Store.{Store, first_store, outputs_row, woken_store}
use Rattle.bl_ctree.specs.Ticks as ticks
use Rattle.bl_ctree.specs.Ticks.{End, IsOver, Rests, Steps, Tick, Trapped, none, outcome_at, resting_outcome, step, traps}
use Rattle.bl_ctree_laws.specs.Bridge.{deed_of, plain_items, plain_tree}
use Rattle.bl_ctree_laws.specs.Fitted.{ReachedIsArmed}
use Rattle.bl_ctree_laws.specs.Laws.{AnswersArePlain, PlainStepsAreSteps, StatementsArePlain, StepsArePlain, WakingIsPlain}
use Rattle.bl_ctree_laws.specs.Pending.{Deed}
use Rattle.bl_ctree_laws.specs.Steps.{Unmet}
use Rattle.bl_ctree_laws.specs.Trees.{Tree, woken}
use Rattle.bl_ctree_laws_peeled.specs.Answers.{SameDeed}
use Rattle.bl_ctree_laws_peeled.specs.Lines.{Related}
use Rattle.bl_ctree_laws_peeled.specs.Runs.{SameRuns, UnrolledIsNeverStuck, UnrolledMeans}
use Rattle.bl_ctree_laws_peeled.specs.Settings.{SameProgram, UnitUnrolls, no_unit, one_unit}
use Rattle.bl_ctree_laws_peeled.specs.Steps.{FallsAway, StepsAlong}
use Rattle.bl_ctree_laws_peeled.specs.Unrolls.{Unrolls, no_more}
use Rattle.bl_ctree_laws_peeled.proofs.Relating.{related_answers}
use Rattle.bl_ctree_laws_peeled.proofs.Stepping.{related_steps}
use Rattle.bl_ctree_laws_peeled.proofs.Stilling.{still_steps}
use Rattle.bl_ctree_laws_peeled.proofs.Waking.{related_idle, wake_related}

-- ---- stores

-- a step that does nothing leaves the store
silent_leaves : (w : Setting) (i : ℕ) (effect : Effect) (answer : Bool) (store store' : Store) → effect ≡ Silent →
    effect_on w i effect store ≡ Some (record { answer = answer; store = store' }) → store' ≡ store
silent_leaves w i effect answer store store' silent performs =
    sym (ap (λ (p : Performed). p.store) (same_some (record { answer = true; store = store }) (record { answer = answer; store = store' })
    (sym (ap (λ effect. effect_on w i effect store) silent) ∙ performs)))

-- a step that does nothing doesn't trap
silent_traps : {A : Type 0} (w : Setting) (i : ℕ) (effect : Effect) (store : Store) → effect ≡ Silent → effect_on w i effect store ≡ None → A
silent_traps w i effect store silent fails = no_none (sym (ap (λ effect. effect_on w i effect store) silent) ∙ fails)
  where
    no_none : {A : Type 0} {p : Performed} → Some p ≡ None → A
    no_none e = absurd cc

-- ---- what follows

-- where a list of steps of the first program leads, the second one's leads to a related tree with the same store
data Follows (H : ℕ → Node → Plain → Type 0) (w' : Setting) (t : Control) (store : Store) : End → Type 0 where
  traps_too : {actions : List Action} → Steps w' t store actions Trapped → Follows H w' t store Trapped
  rests_too : {actions : List Action} {c' t' : Control} {store' : Store} → Steps w' t store actions (Rests t' store') →
      Related H 0 (plain_tree c') (plain_tree t') → Follows H w' t store (Rests c' store')

one_then : {H : ℕ → Node → Plain → Type 0} {w' : Setting} {t : Control} {store : Store} {a : Action} {t' : Control} {store' : Store} {end : End} →
    located.Step w' t store a t' store' → Follows H w' t' store' end → Follows H w' t store end
one_then one (traps_too more) = traps_too (step one more)
one_then one (rests_too more inner) = rests_too (step one more) inner

-- a tree that a run reaches inside a tick
record Stands (w' : Setting) (rows : List (List ℤ)) (row : List ℤ) (t : Control) (store : Store) : Type 0 where
  taken : List Action
  reaches : ReachesInside w' rows row taken (Rests t store)

-- a step of the second program, and the tree that it leaves
record OneMore (H : ℕ → Node → Plain → Type 0) (w' : Setting) (t : Control) (store : Store) (x : Tree) (store' : Store) : Type 0 where
  action : Action
  after : Control
  takes : located.Step w' t store action after store'
  inner : Related H 0 x (plain_tree after)

-- a tick of the second program, from a tree between ticks
data TickToo (H : ℕ → Node → Plain → Type 0) (w' : Setting) (row : List ℤ) (t : Control) (store : Store) : End → Type 0 where
  tick_traps : Tick w' row t store Trapped → TickToo H w' row t store Trapped
  tick_rests : {c' t' : Control} {store' : Store} → Tick w' row t store (Rests t' store') → Related H 0 (plain_tree c') (plain_tree t') →
      outcome_at (Rests c' store') ≡ outcome_at (Rests t' store') → TickToo H w' row t store (Rests c' store')

-- a tree of the second program between ticks
pub record ReachToo (H : ℕ → Node → Plain → Type 0) (w' : Setting) (rows : List (List ℤ)) (store : Store) (x : Tree) : Type 0 where
  pub tree : Control
  pub reached : Reaches w' rows tree store
  pub inner : Related H 0 x (plain_tree tree)

module _ (kept : StepsKeepResidual) (begun : WokenTreeIsResidual) (between : ReachedIsResidual) (inside : ReachedInsideIsResidual) (follow : StepsFollow)
    (answers : AnswersArePlain) (statements : StatementsArePlain) (sound : StepsArePlain) (complete : PlainStepsAreSteps) (armed : ReachedIsArmed)
    (waking : WakingIsPlain) {H : ℕ → Node → Plain → Type 0} {w w' : Setting} (program : SameProgram H w w') (same : SameRuns w w') where
  -- ---- steps

  further : {rows : List (List ℤ)} {row : List ℤ} {t : Control} {store : Store} {a : Action} {t' : Control} {store' : Store} →
      Stands w' rows row t store → located.Step w' t store a t' store' → Stands w' rows row t' store'
  further {row = row} {t} {store} {a} {t'} {store'} stands one = record {
    taken = stands.taken ++ a ∷ [];
    reaches = record {
      tree = stands.reaches.tree;
      store = stands.reaches.store;
      before = stands.reaches.before;
      steps = follow w' (control.woken stands.reaches.tree) (woken_store row stands.reaches.store) stands.taken (a ∷ []) t store (Rests t' store')
          stands.reaches.steps (step one none);
    };
  }

  -- the effect of a step of the second program
  performs_too : (a : Action) (b : Deed) (action : Action) (store : Store) → SameDeed (deed_of a) b → deed_of action ≡ b →
      perform w' action store ≡ perform w a store
  performs_too a b action store deed does =
      sym (program.effects a.instance a.effect store
      ∙ (λ j. effect_on w' (deed.instance j) (deed.effect j) store)
      ∙ sym (ap (λ (x : Deed). effect_on w' x.instance x.effect store) does))

  one_more : {rows : List (List ℤ)} {row : List ℤ} {t : Control} {store : Store} {d : Bool} (a : Action) {x : Tree} {store' : Store} →
      Stands w' rows row t store → perform w a store ≡ Some (record { answer = d; store = store' }) →
      StepsAlong Unmet H w' 0 x (plain_tree t) d (deed_of a) → OneMore H w' t store x store'
  one_more {rows} {row} {t} {store} {d} a {x} {store'} stands performs one =
      let there = complete w' true 0 (entry_items w') t d one.deed one.label one.after (inside w' rows row stands.taken t store stands.reaches)
      (armed w' rows row stands.taken t store same.typed stands.reaches) one.moves in
      record {
        action = there.action;
        after = there.after;
        takes = record { answer = d; moves = there.moves; performs = performs_too a one.deed there.action store one.same there.does ∙ performs };
        inner = subst (Related H 0 x) (sym there.leads) one.stays;
      }

  trap_case : {rows : List (List ℤ)} {row : List ℤ} {t : Control} {store : Store} {d : Bool} (a : Action) {x : Tree} → Stands w' rows row t store →
      perform w a store ≡ None → FallsAway H 0 x (plain_tree t) d (deed_of a) ⊎ StepsAlong Unmet H w' 0 x (plain_tree t) d (deed_of a) →
      Follows H w' t store Trapped
  trap_case {store = store} a stands fails (inl away) = silent_traps w a.instance a.effect store away.silent fails
  trap_case {rows} {row} {t} {store} {d} a stands fails (inr one) =
      let there = complete w' true 0 (entry_items w') t d one.deed one.label one.after (inside w' rows row stands.taken t store stands.reaches)
      (armed w' rows row stands.taken t store same.typed stands.reaches) one.moves in
      traps_too (traps (record {
        answer = d;
        after = there.after;
        moves = there.moves;
        fails = performs_too a one.deed there.action store one.same there.does ∙ fails;
      }))

  step_case : {rows : List (List ℤ)} {row : List ℤ} {t : Control} {store : Store} {d : Bool} (a : Action) {x : Tree} {store' : Store} {end : End} →
      Stands w' rows row t store → perform w a store ≡ Some (record { answer = d; store = store' }) →
      FallsAway H 0 x (plain_tree t) d (deed_of a) ⊎ StepsAlong Unmet H w' 0 x (plain_tree t) d (deed_of a) →
      ((t : Control) → Stands w' rows row t store' → Related H 0 x (plain_tree t) → Follows H w' t store' end) → Follows H w' t store end
  step_case {rows} {row} {t} {store} {d} a {store' = store'} {end} stands performs (inl away) onward =
      let is : store' ≡ store = silent_leaves w a.instance a.effect d store store' away.silent performs in
      subst (λ store. Follows H w' t store end) is (onward t (subst (Stands w' rows row t) (sym is) stands) away.stays)
  step_case a stands performs (inr along) onward =
      let next = one_more a stands performs along in one_then next.takes (onward next.after (further stands next.takes) next.inner)

  follows : {rows : List (List ℤ)} {row : List ℤ} {c : Control} {store : Store} {actions : List Action} {end : End} → Steps w c store actions end →
      Residual w true 0 (entry_items w) c → (t : Control) → Stands w' rows row t store → Related H 0 (plain_tree c) (plain_tree t) →
      Follows H w' t store end
  follows none left t stands inner = rests_too none inner
  follows (traps {c = c} {a = a} one) left t stands inner =
      let plain = sound w true 0 (entry_items w) c one.answer a one.after left one.moves in
      trap_case a stands one.fails
      (related_steps program inner plain.moves)
  follows (step {c = c} {a = a} {c' = c'} one more) left t stands inner =
      let plain = sound w true 0 (entry_items w) c one.answer a c' left one.moves in
      step_case a stands one.performs
      (related_steps program inner plain.moves)
      (λ t stands inner. follows more (kept w true 0 (entry_items w) one.answer a c c' one.moves left) t stands inner)

  -- ---- where nothing may act

  still_too : {rows rows' : List (List ℤ)} {row : List ℤ} {actions actions' : List Action} {c t : Control} {store store' : Store} →
      ReachesInside w rows row actions (Rests c store) → ReachesInside w' rows' row actions' (Rests t store') →
      Related H 0 (plain_tree c) (plain_tree t) → located.IsStill w c → located.IsStill w' t
  still_too {rows} {rows'} {row} {actions} {actions'} {c} {t} {store} {store'} reaches reaches' inner still d a t' move =
      let plain = sound w' true 0 (entry_items w') t d a t' (inside w' rows' row actions' t store' reaches') move in
      let back = still_steps program inner plain.moves in
      let there = complete w true 0 (entry_items w) c back.answer back.deed back.label back.after (inside w rows row actions c store reaches)
      (armed w rows row actions c store same.source_typed reaches) back.moves in
      still back.answer there.action there.after there.moves

  -- ---- ticks

  ended_too : (c t : Control) → Related H 0 (plain_tree c) (plain_tree t) → control.is_nil c ≡ control.is_nil t
  ended_too c t inner = sym (answers.ended c) ∙ (related_answers inner).ended ∙ answers.ended t

  settled_too : (c t : Control) → Residual w true 0 (entry_items w) c → Residual w' true 0 (entry_items w') t →
      Related H 0 (plain_tree c) (plain_tree t) → control.is_settled c ≡ control.is_settled t
  settled_too c t left left' inner =
      sym (answers.settled w true 0 (entry_items w) c left) ∙ (related_answers inner).settled ∙ answers.settled w' true 0 (entry_items w') t left'

  outcome_too : (c t : Control) (store : Store) → Residual w true 0 (entry_items w) c → Residual w' true 0 (entry_items w') t →
      Related H 0 (plain_tree c) (plain_tree t) → outcome_at (Rests c store) ≡ outcome_at (Rests t store)
  outcome_too c t store left left' inner = λ j. resting_outcome (ended_too c t inner j) (settled_too c t left left' inner j)

  ticks_end : {rows rows' : List (List ℤ)} {row : List ℤ} {c t : Control} {store : Store} {end : End} → Reaches w rows c store →
      Reaches w' rows' t store → Tick w row c store end → Follows H w' (control.woken t) (woken_store row store) end → IsOver w end →
      TickToo H w' row t store end
  ticks_end reached reached' tick (traps_too steps) over = tick_traps (record { actions = _; maximal = record { steps = steps; over = tt } })
  ticks_end {rows} {rows'} {row} {c} {t} {store} reached reached' tick (rests_too {actions} {c'} {t'} {store'} steps inner) over =
      let reaches : ReachesInside w rows row tick.actions (Rests c' store') =
      record { tree = c; store = store; before = reached; steps = tick.maximal.steps } in
      let reaches' : ReachesInside w' rows' row actions (Rests t' store') = record { tree = t; store = store; before = reached'; steps = steps } in
      tick_rests (record { actions = actions; maximal = record { steps = steps; over = still_too reaches reaches' inner over } }) inner
      (outcome_too c' t' store' (inside w rows row tick.actions c' store' reaches) (inside w' rows' row actions t' store' reaches') inner)

  pub woken_related : {rows rows' : List (List ℤ)} {c t : Control} {store : Store} → Reaches w rows c store → Reaches w' rows' t store →
      Related H 0 (plain_tree c) (plain_tree t) → Related H 0 (plain_tree (control.woken c)) (plain_tree (control.woken t))
  woken_related {rows} {rows'} {c} {t} {store} reached reached' inner =
      subst (λ one. Related H 0 one (plain_tree (control.woken t))) (sym (waking w c (between w rows c store reached)))
      (subst (Related H 0 (woken (plain_tree c))) (sym (waking w' t (between w' rows' t store reached'))) (wake_related inner))

  begins : {rows : List (List ℤ)} (row : List ℤ) {t : Control} {store : Store} → Reaches w' rows t store →
      Stands w' rows row (control.woken t) (woken_store row store)
  begins row {t} {store} reached = record { taken = []; reaches = record { tree = t; store = store; before = reached; steps = none } }

  follows_tick : {rows rows' : List (List ℤ)} (row : List ℤ) {c t : Control} {store : Store} {actions : List Action} {end : End} → Reaches w rows c store →
      Reaches w' rows' t store → Related H 0 (plain_tree c) (plain_tree t) →
      Steps w (control.woken c) (woken_store row store) actions end → Follows H w' (control.woken t) (woken_store row store) end
  follows_tick {rows} row {c} {t} {store} reached reached' inner steps =
      follows steps (begun w c (between w rows c store reached)) (control.woken t) (begins row reached') (woken_related reached reached' inner)

  tick_too : {rows rows' : List (List ℤ)} {row : List ℤ} {c t : Control} {store : Store} {end : End} → Reaches w rows c store → Reaches w' rows' t store →
      Related H 0 (plain_tree c) (plain_tree t) → Tick w row c store end → TickToo H w' row t store end
  tick_too {row = row} reached reached' inner tick =
      ticks_end reached reached' tick (follows_tick row reached reached' inner tick.maximal.steps) tick.maximal.over

  -- ---- traces

  trapped : {rows : List (List ℤ)} {row : List ℤ} {t : Control} {store : Store} → TickToo H w' row t store Trapped →
      Allows w' (row ∷ rows) t store (nothing_more (Some HasTrapped))
  trapped (tick_traps tick) = means.traps tick

  stuck : {rows : List (List ℤ)} {row : List ℤ} {t c' : Control} {store store' : Store} → TickToo H w' row t store (Rests c' store') →
      outcome_at (Rests c' store') ≡ ticks.Stuck → Allows w' (row ∷ rows) t store (nothing_more None)
  stuck (tick_rests tick inner outcome) is = means.is_stuck tick (sym outcome ∙ is)

  ended : {rows : List (List ℤ)} {row : List ℤ} {t c' : Control} {store store' : Store} → TickToo H w' row t store (Rests c' store') →
      outcome_at (Rests c' store') ≡ ticks.Ended → Allows w' (row ∷ rows) t store (row_then (outputs_row w store') (nothing_more (Some HasEnded)))
  ended {rows} {row} {t} {store = store} {store'} (tick_rests tick inner outcome) is =
      subst (λ shown. Allows w' (row ∷ rows) t store (row_then shown (nothing_more (Some HasEnded)))) (sym (same.rows store'))
      (means.ends tick (sym outcome ∙ is))

  onward : {rows past : List (List ℤ)} {row : List ℤ} {t c' : Control} {store store' : Store} {shows : ShownTrace} →
      TickToo H w' row t store (Rests c' store') → outcome_at (Rests c' store') ≡ ticks.Paused → Reaches w' past t store →
      ((t' : Control) → Reaches w' (past ++ row ∷ []) t' store' → Related H 0 (plain_tree c') (plain_tree t') → Allows w' rows t' store' shows) →
      Allows w' (row ∷ rows) t store (row_then (outputs_row w store') shows)
  onward {rows} {row = row} {t} {store = store} {store'} {shows} (tick_rests {t' = t'} tick inner outcome) is reached' more =
      subst (λ shown. Allows w' (row ∷ rows) t store (row_then shown shows)) (sym (same.rows store'))
      (means.goes_on tick (sym outcome ∙ is) (more t' (after_tick reached' tick (sym outcome ∙ is) refl) inner))

  allows_too : {rows past past' : List (List ℤ)} {c t : Control} {store : Store} {shows : ShownTrace} → Reaches w past c store →
      Reaches w' past' t store → Related H 0 (plain_tree c) (plain_tree t) → Allows w rows c store shows → Allows w' rows t store shows
  allows_too reached reached' inner means.stays_open = means.stays_open
  allows_too reached reached' inner (means.traps tick) = trapped (tick_too reached reached' inner tick)
  allows_too reached reached' inner (means.is_stuck tick is) = stuck (tick_too reached reached' inner tick) is
  allows_too reached reached' inner (means.ends tick is) = ended (tick_too reached reached' inner tick) is
  allows_too reached reached' inner (means.goes_on tick is more) =
      onward (tick_too reached reached' inner tick) is reached'
      (λ t' reached' inner. allows_too (after_tick reached tick is refl) reached' inner more)

  -- ---- whole runs

  items_unroll : {one other : Option UnitDef} → UnitUnrolls (H 0) one other →
      Unrolls (H 0) (plain_items (unwrap_or (option_map (λ unit. body_items unit.body) one) []))
      (plain_items (unwrap_or (option_map (λ unit. body_items unit.body) other) []))
  items_unroll no_unit = no_more
  items_unroll (one_unit {unit} {unit'} unrolls) =
      subst (λ body. Unrolls (H 0) body (plain_items (body_items unit'.body))) (statements.blocks unit.body [])
      (subst (Unrolls (H 0) (plain_body unit.body)) (statements.blocks unit'.body []) unrolls)

  first_related : Related H 0 (plain_tree (control.Idle (entry_items w))) (plain_tree (control.Idle (entry_items w')))
  first_related = related_idle (items_unroll (program.bodies 0))

  first_reached : Reaches w' [] (control.Idle (entry_items w')) (first_store w)
  first_reached = subst (Reaches w' [] (control.Idle (entry_items w'))) (sym same.first) at_first

  reach_rests : {rows past : List (List ℤ)} {row : List ℤ} {t c' : Control} {store store' : Store} → TickToo H w' row t store (Rests c' store') →
      outcome_at (Rests c' store') ≡ ticks.Paused → Reaches w' past t store → rows ≡ past ++ row ∷ [] → ReachToo H w' rows store' (plain_tree c')
  reach_rests (tick_rests {t' = t'} tick inner outcome) is reached' rows =
      record { tree = t'; reached = after_tick reached' tick (sym outcome ∙ is) rows; inner = inner }

  pub reach_too : {rows : List (List ℤ)} {c : Control} {store : Store} → Reaches w rows c store → ReachToo H w' rows store (plain_tree c)
  reach_too at_first = record { tree = control.Idle (entry_items w'); reached = first_reached; inner = first_related }
  reach_too (after_tick reached tick is rows) =
      let past = reach_too reached in reach_rests (tick_too reached past.reached past.inner tick) is past.reached rows

  stuck_too : {rows : List (List ℤ)} {row : List ℤ} {actions : List Action} {c t : Control} {store first : Store} →
      ((actions : List Action) (t : Control) → ReachesInside w' rows row actions (Rests t store) → located.IsStill w' t → control.is_settled t ≡ true) →
      ReachesInside w rows row actions (Rests c store) → Reaches w' rows t first → Follows H w' (control.woken t) (woken_store row first) (Rests c store) →
      located.IsStill w c → control.is_settled c ≡ true
  stuck_too {rows} {row} {actions} {c} {t} {store} {first} never reaches reached (rests_too {actions = taken} {t' = t'} steps inner) still =
      let reaches' : ReachesInside w' rows row taken (Rests t' store) = record { tree = t; store = first; before = reached; steps = steps } in
      settled_too c t' (inside w rows row actions c store reaches) (inside w' rows row taken t' store reaches') inner
      ∙ never taken t' reaches' (still_too reaches reaches' inner still)

  pub means_too : (rows : List (List ℤ)) (shows : ShownTrace) → Allows w rows (control.Idle (entry_items w)) (first_store w) shows →
      Allows w' rows (control.Idle (entry_items w')) (first_store w') shows
  means_too rows shows allows =
      subst (λ store. Allows w' rows (control.Idle (entry_items w')) store shows) same.first
      (allows_too at_first first_reached first_related allows)

  pub never_stuck_too : ((rows : List (List ℤ)) (row : List ℤ) (actions : List Action) (t : Control) (store : Store) →
      ReachesInside w' rows row actions (Rests t store) → located.IsStill w' t → control.is_settled t ≡ true) →
      (rows : List (List ℤ)) (row : List ℤ) (actions : List Action) (c : Control) (store : Store) →
      ReachesInside w rows row actions (Rests c store) → located.IsStill w c → control.is_settled c ≡ true
  never_stuck_too never rows row actions c store reaches still =
      let past = reach_too reaches.before in
      stuck_too (λ actions t. never rows row actions t store) reaches past.reached (follows_tick row reaches.before past.reached past.inner reaches.steps) still

module _ (kept : StepsKeepResidual) (begun : WokenTreeIsResidual) (between : ReachedIsResidual) (inside : ReachedInsideIsResidual) (follow : StepsFollow)
    (answers : AnswersArePlain) (statements : StatementsArePlain) (sound : StepsArePlain) (complete : PlainStepsAreSteps) (armed : ReachedIsArmed)
    (waking : WakingIsPlain) where
  pub unrolled_means : UnrolledMeans
  unrolled_means structs units others entry rows shows same shown =
      means_too kept begun between inside follow answers statements sound complete armed waking same.program same rows shows shown

  pub unrolled_is_never_stuck : UnrolledIsNeverStuck
  unrolled_is_never_stuck structs units others entry same never rows row actions c store reaches still =
      never_stuck_too kept begun between inside follow answers statements sound complete armed waking same.program same never rows row actions c store reaches still
