-- Where each tick comes to an end something is allowed over all rows, and where none is stuck all that is allowed are traces.
use Rattle.std.proofs.Common.{◌≡◌, ℕ, Bool, true, false, List, [], ◌∷◌, ◌++◌, refl, ap, subst}
use Rattle.std.specs.Prelude.{ℤ, Some, None}
use Rattle.bl_tree.specs.declared.row.Last.{Last}
use Rattle.bl_tree.specs.declared.row.Last.TheVariants.{Open, Ended as HasEnded, Trap as HasTrapped}
use Rattle.bl_tree.specs.declared.row.Trace.{Trace}
use Rattle.bl_tree.specs.declared.tree.StructDef.{StructDef}
use Rattle.bl_tree.specs.declared.tree.Unit.{Unit as UnitDef}
use Rattle.bl_ctree.specs.Control.{Control, Idle, is_nil, is_settled}
use Rattle.bl_ctree.specs.Instances.{Setting, setting_of}
use Rattle.bl_ctree.specs.Means.{Allows, ShownTrace, ends, entry_items, goes_on, is_stuck, row_then, stays_open, traps}
use Rattle.bl_ctree.specs.Reaches.{NeverStuck, Reaches, after_tick, at_first}
use Rattle.bl_ctree.specs.Store.{Store, first_store, outputs_row}
use Rattle.bl_ctree.specs.Ticks.{End, Rests, Stuck, Tick, Trapped, outcome_at, resting_outcome}
use Rattle.bl_ctree_laws_traces.specs.Traces.Maximal.{BoundedHaveMeanings, BoundedHaveTicks, HasTick, IsTrace, UnstuckShowTraces}

-- ---- something is allowed

record Allowed (w : Setting) (rows : List (List ℤ)) (c : Control) (store : Store) : Type 0 where
  shows : ShownTrace
  allows : Allows w rows c store shows

module _ (w : Setting) (tick_from : (before : List (List ℤ)) (row : List ℤ) (c : Control) (store : Store) → Reaches w before c store →
    HasTick w row c store) where
  abbrev FromAll : List (List ℤ) → Type 0
  FromAll rows = (before : List (List ℤ)) (c : Control) (store : Store) → Reaches w before c store → Allowed w rows c store

  by_outcome : (rows : List (List ℤ)) → FromAll rows → (before : List (List ℤ)) (row : List ℤ) (c : Control) (store : Store) →
      Reaches w before c store → (c' : Control) (store' : Store) → Tick w row c store (Rests c' store') → (nil settled : Bool) →
      outcome_at (Rests c' store') ≡ resting_outcome nil settled → Allowed w (row ∷ rows) c store
  by_outcome rows further before row c store reached c' store' tick true settled e = record {
    shows = row_then (outputs_row w store') (record { rows = []; last = Some HasEnded });
    allows = ends tick e;
  }
  by_outcome rows further before row c store reached c' store' tick false false e =
      record { shows = record { rows = []; last = None }; allows = is_stuck tick e }
  by_outcome rows further before row c store reached c' store' tick false true e =
      let more = further (before ++ row ∷ []) c' store' (after_tick reached tick e refl) in
      record { shows = row_then (outputs_row w store') more.shows; allows = goes_on tick e more.allows }

  by_end : (rows : List (List ℤ)) → FromAll rows → (before : List (List ℤ)) (row : List ℤ) (c : Control) (store : Store) →
      Reaches w before c store → (end : End) → Tick w row c store end → Allowed w (row ∷ rows) c store
  by_end rows further before row c store reached Trapped tick =
      record { shows = record { rows = []; last = Some HasTrapped }; allows = traps tick }
  by_end rows further before row c store reached (Rests c' store') tick =
      by_outcome rows further before row c store reached c' store' tick (is_nil c') (is_settled c') refl

  allowed : (rows : List (List ℤ)) → FromAll rows
  allowed [] before c store reached = record { shows = record { rows = []; last = Some Open }; allows = stays_open }
  allowed (row ∷ rows) before c store reached =
      let has = tick_from before row c store reached in by_end rows (allowed rows) before row c store reached has.end has.tick

pub bounded_have_meanings : BoundedHaveTicks → BoundedHaveMeanings
bounded_have_meanings have most structs units entry bounded rows =
    let w : Setting = setting_of structs units entry in
    let one = allowed w (have most structs units entry bounded) rows [] (Idle (entry_items w)) (first_store w) at_first in
    record { shows = one.shows; means = one.allows }

-- ---- traces alone

-- a settled tree isn't stuck
not_stuck : (nil : Bool) → resting_outcome nil true ≡ Stuck → ⊥
not_stuck true e = cc
not_stuck false e = cc

abbrev pub trace_with : List (List ℤ) → Last → Trace
trace_with rows last = record { rows = rows; last = last }

module _ (structs : List StructDef) (units : List UnitDef) (entry : ℕ) (never : NeverStuck structs units entry) where
  abbrev W : Setting
  W = setting_of structs units entry

  traced : {rows : List (List ℤ)} {c : Control} {store : Store} {shows : ShownTrace} → Allows W rows c store shows → (before : List (List ℤ)) →
      Reaches W before c store → IsTrace shows
  traced stays_open before reached = record { trace = trace_with [] Open; is = refl }
  traced (traps tick) before reached = record { trace = trace_with [] HasTrapped; is = refl }
  traced (ends {store' = store'} tick e) before reached = record { trace = trace_with (outputs_row W store' ∷ []) HasEnded; is = refl }
  traced (goes_on {store' = store'} tick e more) before reached =
      let one = traced more (before ++ _ ∷ []) (after_tick reached tick e refl) in
      record { trace = trace_with (outputs_row W store' ∷ one.trace.rows) one.trace.last; is = ap (row_then (outputs_row W store')) one.is }
  traced (is_stuck {row} {c = c} {store = store} {c' = c'} {store' = store'} tick e) before reached =
      let settled : is_settled c' ≡ true =
      never before row tick.actions c' store' (record { tree = c; store = store; before = reached; steps = tick.maximal.steps }) tick.maximal.over in
      absurd (not_stuck (is_nil c') (subst (λ settled. resting_outcome (is_nil c') settled ≡ Stuck) settled e))

pub unstuck_show_traces : UnstuckShowTraces
unstuck_show_traces structs units entry never rows shows means = traced structs units entry never means [] at_first
