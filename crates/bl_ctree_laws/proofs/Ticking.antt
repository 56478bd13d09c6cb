-- Ticks of runs that begin alike have one end, so a program's meaning allows one trace over each list of rows at most.
use Rattle.std.proofs.Common.{◌≡◌, ℤ, true, List, Some, refl, sym, ap, ◌∙◌, subst}
use Rattle.bl_tree.specs.declared.row.Last.TheVariants.{Ended as HasEnded}
use Rattle.bl_ctree.specs.Actions.{Action}
use Rattle.bl_ctree.specs.Control as control
use Rattle.bl_ctree.specs.Instances.{Setting}
use Rattle.bl_ctree.specs.Laws.{ReachedInsideIsResidual, ReachedIsResidual, StepsKeepResidual, WokenTreeIsResidual}
use Rattle.bl_ctree.specs.Residual.{Residual}
use Rattle.bl_ctree.specs.Means.{Allows, ShownTrace, entry_items, ends, goes_on, is_stuck, nothing_more, row_then, stays_open, traps}
use Rattle.bl_ctree.specs.Positions.{Item}
use Rattle.bl_ctree.specs.Reaches.{Reaches, ReachesInside, after_tick, at_first}
use Rattle.bl_ctree.specs.Store.{Store, outputs_row, woken_store}
use Rattle.bl_ctree.specs.Ticks as ticks
use Rattle.bl_ctree.proofs.Proper.{left_proper}
use Rattle.bl_ctree_laws.specs.Bridge.{plain_tree}
use Rattle.bl_ctree_laws.specs.Ends.{BranchesAreIndependent, PlainTreeIsOver, PlainTreeMaximal, Rests, Trapped}
use Rattle.bl_ctree_laws.specs.Fitted.{Fitted}
use Rattle.bl_ctree_laws.specs.Runs.{SameEnd, TicksEndAlikeByPlain, TracesAreOne, entry_block, plain_end}
use Rattle.bl_ctree_laws.specs.Shrinks.{Paces}
use Rattle.bl_ctree_laws.specs.Trees.{Tree, is_nil, is_settled, woken}
use Rattle.bl_ctree_laws.proofs.Answering.{ended, settled}
use Rattle.bl_ctree_laws.proofs.Ending.{ends_are_one}
use Rattle.bl_ctree_laws.proofs.Fitting.{reached_is_armed}
use Rattle.bl_ctree_laws.proofs.Running.{lists_are_plain, reached, still_is_plain, woken_left}
use Rattle.bl_ctree_laws.proofs.Waking.{waking_is_plain}

pub tree_same : (c c' : Tree) (store store' : Store) → Rests c store ≡ Rests c' store' → c ≡ c'
tree_same c c' store store' e = cc

-- what rests with one plain tree is one outcome
resting_same : {w : Setting} {items : List Item} (c c' : control.Control) → Residual w true 0 items c → Residual w true 0 items c' →
    plain_tree c ≡ plain_tree c' →
    ticks.resting_outcome (control.is_nil c) (control.is_settled c) ≡ ticks.resting_outcome (control.is_nil c') (control.is_settled c')
resting_same c c' p p' e =
    let nil = sym (ended c) ∙ ap is_nil e ∙ ended c' in
    let still = sym (settled (left_proper p)) ∙ ap is_settled e ∙ settled (left_proper p') in
    λ i. ticks.resting_outcome (nil i) (still i)

-- what is to hold of a program
record Premises (w : Setting) : Type 0 where
  typed : Fitted w
  paces : Paces w
  free : BranchesAreIndependent w true (entry_block w)

-- what two ends that rest have in common
record SameRest (c c' : Tree) (store store' : Store) : Type 0 where
  trees : c ≡ c'
  stores : store ≡ store'

pub store_same : (c c' : Tree) (store store' : Store) → Rests c store ≡ Rests c' store' → store ≡ store'
store_same c c' store store' e = cc

rests_same : {c c' : Tree} {store store' : Store} → Rests c store ≡ Rests c' store' → SameRest c c' store store'
rests_same {c} {c'} {store} {store'} e = record { trees = tree_same c c' store store' e; stores = store_same c c' store store' e }

-- runs that stand between ticks with one plain tree and one store
record BeginAlike (w : Setting) (c c' : control.Control) (store store' : Store) : Type 0 where
  past : List (List ℤ)
  past' : List (List ℤ)
  reached : Reaches w past c store
  reached' : Reaches w past' c' store'
  same : SameRest (plain_tree c) (plain_tree c') store store'

begin_alike : {w : Setting} {past past' : List (List ℤ)} {c c' : control.Control} {store store' : Store} → Reaches w past c store →
    Reaches w past' c' store' → SameRest (plain_tree c) (plain_tree c') store store' → BeginAlike w c c' store store'
begin_alike one other same = record { past = _; past' = _; reached = one; reached' = other; same = same }

trap_rests : {A : Type 0} {c : Tree} {store : Store} → Trapped ≡ Rests c store → A
trap_rests e = absurd cc

rests_trap : {A : Type 0} {c : Tree} {store : Store} → Rests c store ≡ Trapped → A
rests_trap e = absurd cc

-- outcomes of ticks that are known
meet : {x y one other : ticks.TickOutcome} → x ≡ one → y ≡ other → x ≡ y → one ≡ other
meet is is' same = sym is ∙ same ∙ is'

stuck_ends : {A : Type 0} → ticks.Stuck ≡ ticks.Ended → A
stuck_ends e = absurd cc

stuck_waits : {A : Type 0} → ticks.Stuck ≡ ticks.Paused → A
stuck_waits e = absurd cc

ended_waits : {A : Type 0} → ticks.Ended ≡ ticks.Paused → A
ended_waits e = absurd cc

module _ (kept : StepsKeepResidual) (begun : WokenTreeIsResidual) (between : ReachedIsResidual) (inside : ReachedInsideIsResidual) where
  over : {w : Setting} {rows : List (List ℤ)} {row : List ℤ} {actions : List Action} (end : ticks.End) → Fitted w →
      ReachesInside w rows row actions end → ticks.IsOver w end → PlainTreeIsOver w (plain_end end)
  over ticks.Trapped typed r done = tt
  over {w} {rows} {row} {actions} (ticks.Rests c store) typed r done =
      still_is_plain w true (entry_items w) c (inside w rows row actions c store r) (reached_is_armed w rows row actions c store typed r) done

  within : {w : Setting} {rows : List (List ℤ)} {row : List ℤ} {c : control.Control} {store : Store} {end : ticks.End} → Reaches w rows c store →
      (t : ticks.Tick w row c store end) → ReachesInside w rows row t.actions end
  within {c = c} {store} r t = record { tree = c; store = store; before = r; steps = t.maximal.steps }

  plain_maximal : {w : Setting} {rows : List (List ℤ)} {row : List ℤ} {c : control.Control} {store : Store} {end : ticks.End} → Fitted w →
      Reaches w rows c store → ticks.Tick w row c store end → PlainTreeMaximal w (plain_tree (control.woken c)) (woken_store row store) (plain_end end)
  plain_maximal {w} {rows} {row} {c} {store} {end} typed r t =
      let list = lists_are_plain kept begun between w true (entry_items w) (control.woken c) (woken_store row store) t.actions end
      (begun w c (between w rows c store r)) t.maximal.steps in
      record { labels = list.labels; steps = list.steps; over = over end typed (within r t) t.maximal.over }

  outcome_same : {w : Setting} {rows rows' : List (List ℤ)} {row : List ℤ} {actions actions' : List Action} (end end' : ticks.End) →
      ReachesInside w rows row actions end → ReachesInside w rows' row actions' end' → plain_end end ≡ plain_end end' →
      ticks.outcome_at end ≡ ticks.outcome_at end'
  outcome_same ticks.Trapped ticks.Trapped r r' e = refl
  outcome_same ticks.Trapped (ticks.Rests c' store') r r' e = absurd cc
  outcome_same (ticks.Rests c store) ticks.Trapped r r' e = absurd cc
  outcome_same {w} {rows} {rows'} {row} {actions} {actions'} (ticks.Rests c store) (ticks.Rests c' store') r r' e =
      resting_same c c' (inside w rows row actions c store r) (inside w rows' row actions' c' store' r')
      (tree_same (plain_tree c) (plain_tree c') store store' e)

  -- trees that are one plain tree wake as one
  woken_same : {w : Setting} {rows rows' : List (List ℤ)} {c c' : control.Control} {store store' : Store} → Reaches w rows c store →
      Reaches w rows' c' store' → plain_tree c ≡ plain_tree c' → plain_tree (control.woken c) ≡ plain_tree (control.woken c')
  woken_same {w} {rows} {rows'} {c} {c'} {store} {store'} r r' e =
      waking_is_plain w c (between w rows c store r) ∙ ap woken e ∙ sym (waking_is_plain w c' (between w rows' c' store' r'))

  pub ticks_have_one_end : TicksEndAlikeByPlain
  ticks_have_one_end w rows rows' row c c' store end end' typed paces free r r' e one other =
      let left = woken_left kept begun between c (between w rows c store r) (reached kept begun between r) in
      let alike = subst (λ c. PlainTreeMaximal w c (woken_store row store) (plain_end end')) (sym (woken_same r r' e)) (plain_maximal typed r' other) in
      let same = ends_are_one w true (entry_block w) (plain_tree (control.woken c)) (woken_store row store) (plain_end end) (plain_end end') paces free left
      (plain_maximal typed r one) alike in
      record { plain = same; outcome = outcome_same end end' (within r one) (within r' other) same }

  -- ---- traces

  tick_same : {w : Setting} {row : List ℤ} {c c' : control.Control} {store store' : Store} {end end' : ticks.End} → Premises w →
      BeginAlike w c c' store store' → ticks.Tick w row c store end → ticks.Tick w row c' store' end' → SameEnd end end'
  tick_same {w} {row} {c} {c'} {store} {store'} {end} {end'} given alike one other =
      ticks_have_one_end w alike.past alike.past' row c c' store end end' given.typed given.paces given.free alike.reached
      (subst (Reaches w alike.past' c') (sym alike.same.stores) alike.reached') alike.same.trees one
      (subst (λ store. ticks.Tick w row c' store end') (sym alike.same.stores) other)

  one_trace : {w : Setting} {rows : List (List ℤ)} {c c' : control.Control} {store store' : Store} {one other : ShownTrace} → Premises w →
      BeginAlike w c c' store store' → Allows w rows c store one → Allows w rows c' store' other → one ≡ other
  one_trace given alike stays_open stays_open = refl
  one_trace given alike (traps t) (traps t') = refl
  one_trace given alike (traps t) (is_stuck t' is') = trap_rests (tick_same given alike t t').plain
  one_trace given alike (traps t) (ends t' is') = trap_rests (tick_same given alike t t').plain
  one_trace given alike (traps t) (goes_on t' is' more') = trap_rests (tick_same given alike t t').plain
  one_trace given alike (is_stuck t is) (traps t') = rests_trap (tick_same given alike t t').plain
  one_trace given alike (is_stuck t is) (is_stuck t' is') = refl
  one_trace given alike (is_stuck t is) (ends t' is') = stuck_ends (meet is is' (tick_same given alike t t').outcome)
  one_trace given alike (is_stuck t is) (goes_on t' is' more') = stuck_waits (meet is is' (tick_same given alike t t').outcome)
  one_trace given alike (ends t is) (traps t') = rests_trap (tick_same given alike t t').plain
  one_trace given alike (ends t is) (is_stuck t' is') = stuck_ends (sym (meet is is' (tick_same given alike t t').outcome))
  one_trace {w} given alike (ends t is) (ends t' is') =
      ap (λ store. row_then (outputs_row w store) (nothing_more (Some HasEnded))) (rests_same (tick_same given alike t t').plain).stores
  one_trace given alike (ends t is) (goes_on t' is' more') = ended_waits (meet is is' (tick_same given alike t t').outcome)
  one_trace given alike (goes_on t is more) (traps t') = rests_trap (tick_same given alike t t').plain
  one_trace given alike (goes_on t is more) (is_stuck t' is') = stuck_waits (sym (meet is is' (tick_same given alike t t').outcome))
  one_trace given alike (goes_on t is more) (ends t' is') = ended_waits (sym (meet is is' (tick_same given alike t t').outcome))
  one_trace {w} given alike (goes_on t is more) (goes_on t' is' more') =
      let next = rests_same (tick_same given alike t t').plain in
      let rest = one_trace given (begin_alike (after_tick alike.reached t is refl) (after_tick alike.reached' t' is' refl) next) more more' in
      λ i. row_then (outputs_row w (next.stores i)) (rest i)

  pub traces_are_one : TracesAreOne
  traces_are_one structs units entry rows one other typed paces free means means' =
      one_trace (record { typed = typed; paces = paces; free = free }) (begin_alike at_first at_first (record { trees = refl; stores = refl })) means means'
