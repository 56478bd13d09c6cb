-- The trees that runs reach between ticks are left of their bodies, with all that is called.
use Rattle.std.proofs.Common.{◌≡◌, ◌⊎◌, inl, inr, ℕ, ◌+◌, ◌<◌, Bool, true, false, List, ◌∷◌, ◌++◌, Option, Some, None, refl, sym}
use Rattle.std.proofs.Common.{◌∙◌, subst}
use Rattle.std.specs.Prelude.{ℤ, slice_get}
use Rattle.bl_tree.specs.declared.tree.StructDef.{StructDef}
use Rattle.bl_tree.specs.declared.tree.Unit.{Unit as UnitDef}
use Rattle.bl_tree.specs.Program.{IsWellTyped, is_entry}
use Rattle.bl_effects.specs.Rules.{Passes as UnitsPass}
use Rattle.bl_graph_nodes.specs.Nodes.{Node}
use Rattle.bl_graph_nodes.specs.Plain.{Block, plain_body}
use Rattle.bl_ctree.specs.Control as control
use Rattle.bl_ctree.specs.Control.{Control}
use Rattle.bl_ctree.specs.Instances.{Setting, setting_of, unit_at}
use Rattle.bl_ctree.specs.Means.{entry_items}
use Rattle.bl_ctree.specs.Reaches.{Reaches, after_tick, at_first}
use Rattle.bl_ctree.specs.Store.{Store}
use Rattle.bl_ctree.specs.Ticks.{Paused, Rests, Tick, Trapped, outcome_at, resting_outcome}
use Rattle.bl_ctree_laws.specs.Bridge.{plain_tree}
use Rattle.bl_ctree_laws.specs.Ends as ends
use Rattle.bl_ctree_laws.specs.Laws.{AnswersArePlain, StatementsArePlain}
use Rattle.bl_ctree_laws.specs.Runs.{SameEnd, TicksEndAlikeByPlain}
use Rattle.bl_ctree_laws.specs.Trees.{Tree, do_block, is_nil, woken}
use Rattle.bl_ctree_laws.proofs.Ticking.{tree_same}
use Rattle.bl_ctree_laws_confluence.specs.Deeds.Orderly.{AcceptedIsOrderly}
use Rattle.bl_ctree_laws_confluence.specs.Independent.Accepted.{AcceptedIsIndependent}
use Rattle.bl_machine.specs.Uses.{Slots}
use Rattle.bl_machine_laws.specs.Passes.Orders.{Orders}
use Rattle.bl_machine_laws.specs.Passes.Ticks.{TickPasses, TickTraps, TicksArePasses}
use Rattle.bl_machine_pass.specs.SlotLayout.{SlotsAreDistinct}
use Rattle.bl_machine_pass_laws.specs.Same.Laws.{StaysResidual}
use Rattle.bl_machine_pass_laws.specs.Turns.Laws.{StaysPlaced}
use Rattle.bl_machine_pass_laws_counters.proofs.Calls.{After, begun, pass_left, woken_after}
use Rattle.bl_ctree_laws_traces.proofs.OnBounded.Bounding.{entry_at, entry_is}

-- ---- the entry

entry_found : (found : Option UnitDef) → is_entry found ≡ true → (unit : UnitDef) × (found ≡ Some unit)
entry_found None is = absurd cc
entry_found (Some unit) is = (unit, refl)

-- an accepted program has an instance of its entry
pub entry_there : (structs : List StructDef) (units : List UnitDef) (entry : ℕ) → IsWellTyped structs units entry →
    (unit : UnitDef) × (unit_at (setting_of structs units entry) 0 ≡ Some unit)
entry_there structs units entry keeps =
    let found = entry_found (slice_get units entry) keeps.entry_stands in (found.0, entry_at structs units entry found.0 found.1)

-- ---- ends of ticks

rests_untrapped : {A : Type 0} (c : Tree) (store : Store) → ends.Rests c store ≡ ends.Trapped → A
rests_untrapped c store e = absurd (cc)

not_ended : (nil settled : Bool) → resting_outcome nil settled ≡ Paused → nil ≡ false
not_ended true settled e = absurd (cc)
not_ended false settled e = refl

-- ---- reached trees

module _ (plain : StatementsArePlain) (answers : AnswersArePlain) (alike : TicksEndAlikeByPlain) (orderly : AcceptedIsOrderly)
    (independent : AcceptedIsIndependent) (have : TicksArePasses) (placed : StaysPlaced) (residual : StaysResidual) (structs : List StructDef)
    (units : List UnitDef) (entry : ℕ) (rank : ℕ → Node → ℕ) (slots : ℕ → Slots) (unit : UnitDef) (keeps : IsWellTyped structs units entry)
    (passes : UnitsPass units) (orders : Orders (setting_of structs units entry) rank)
    (laid : (i : ℕ) (unit : UnitDef) → unit_at (setting_of structs units entry) i ≡ Some unit → SlotsAreDistinct (slots i) (plain_body unit.body))
    (is : unit_at (setting_of structs units entry) 0 ≡ Some unit) where
  abbrev W : Setting
  W = setting_of structs units entry

  -- a tree that a run has reached by a tick
  pub record Between (c : Tree) : Type 0 where
    pub after : After W slots 0 unit c
    pub unended : is_nil c ≡ false

  woken_stands : (c : Control) → (c ≡ control.Idle (entry_items W)) ⊎ Between (plain_tree c) → After W slots 0 unit (woken (plain_tree c))
  woken_stands c (inl first) =
      subst (λ (x : Control). After W slots 0 unit (woken (plain_tree x))) (sym first)
      (subst (λ (body : Block). After W slots 0 unit (do_block body)) (sym (entry_is plain W unit is))
      (begun residual placed W rank slots laid 0 unit is))
  woken_stands c (inr between) = woken_after residual placed W rank slots laid 0 unit (plain_tree c) between.after

  by_tick : (before : List (List ℤ)) (row : List ℤ) (c : Control) (store : Store) (c' : Control) (store' : Store) → Reaches W before c store →
      Tick W row c store (Rests c' store') → outcome_at (Rests c' store') ≡ Paused → After W slots 0 unit (woken (plain_tree c)) →
      TickPasses W rank row c store ⊎ TickTraps W rank row c store → Between (plain_tree c')
  by_tick before row c store c' store' reached tick paused from (inl one) =
      let own = orderly structs units entry keeps passes in
      let same : SameEnd (Rests c' store') (Rests one.after one.pass.left) =
      alike W before before row c c store (Rests c' store') (Rests one.after one.pass.left) own.fitted own.paces
      (independent structs units entry true keeps passes) reached reached refl tick (record { actions = one.actions; maximal = one.maximal }) in
      let tree : plain_tree c' ≡ one.pass.tree = tree_same (plain_tree c') (plain_tree one.after) store' one.pass.left same.plain ∙ one.is in
      record {
        after = subst (λ (t : Tree). After W slots 0 unit t) (sym tree)
            (pass_left residual placed W rank slots laid one.pass.passes unit is from);
        unended = answers.ended c' ∙ not_ended (control.is_nil c') (control.is_settled c') paused;
      }
  by_tick before row c store c' store' reached tick paused from (inr trap) =
      let own = orderly structs units entry keeps passes in
      let same : SameEnd (Rests c' store') Trapped =
      alike W before before row c c store (Rests c' store') Trapped own.fitted own.paces (independent structs units entry true keeps passes) reached
      reached refl tick (record { actions = trap.actions; maximal = trap.maximal }) in
      rests_untrapped (plain_tree c') store' same.plain

  -- before the first tick a run stands at the entry's body, and then at trees that are left of it
  pub reached_stands : {rows : List (List ℤ)} {c : Control} {store : Store} → Reaches W rows c store →
      (c ≡ control.Idle (entry_items W)) ⊎ Between (plain_tree c)
  reached_stands at_first = inl refl
  reached_stands (after_tick {before = before} {row = row} {c = c} {store = store} {c' = c'} {store' = store'} reached tick paused is_rows) =
      inr (by_tick before row c store c' store' reached tick paused (woken_stands c (reached_stands reached))
      (have structs units entry rank keeps passes orders before row c store reached))
