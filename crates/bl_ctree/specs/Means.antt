-- The traces that the parallel meaning allows, over all interleavings.
use Rattle.std.specs.Prelude.{ℕ, ℤ, List, [], ◌∷◌, Option, Some, None, unwrap_or, option_map, ◌≡◌}
use Rattle.bl_tree.specs.declared.row.Last.{Last}
use Rattle.bl_tree.specs.declared.row.Last.TheVariants.{Open, Ended as HasEnded, Trap as HasTrapped}
use Rattle.bl_tree.specs.declared.row.Trace.{Trace}
use Rattle.bl_tree.specs.declared.tree.StructDef.{StructDef}
use Rattle.bl_tree.specs.declared.tree.Unit.{Unit as UnitDef}
use Rattle.bl_ctree.specs.Control.{Control, Idle}
use Rattle.bl_ctree.specs.Instances.{Setting, setting_of, unit_at}
use Rattle.bl_ctree.specs.Positions.{Item, body_items}
use Rattle.bl_ctree.specs.Store.{Store, first_store, outputs_row}
use Rattle.bl_ctree.specs.Ticks.{Trapped, Rests, Tick, Ended, Paused, Stuck, outcome_at}

-- what a run shows: the rows of its ticks, and how it stands after them; none where its next tick is stuck
pub record ShownTrace : Type 0 where
  pub rows : List (List ℤ)
  pub last : Option Last

-- what a trace shows: all its rows, and how the run stands after them
abbrev pub shown_trace : Trace → ShownTrace
shown_trace trace = record { rows = trace.rows; last = Some trace.last }

-- no further row, and how the run stands
abbrev pub nothing_more : Option Last → ShownTrace
nothing_more last = record { rows = []; last = last }

-- a shown trace with one more row at its front
abbrev pub row_then : List ℤ → ShownTrace → ShownTrace
row_then row rest = record { rows = row ∷ rest.rows; last = rest.last }

-- what a run may show over the rows of inputs, from a tree and a store between ticks
pub data Allows (w : Setting) : List (List ℤ) → Control → Store → ShownTrace → Type 0 where
  stays_open : {c : Control} {store : Store} → Allows w [] c store (nothing_more (Some Open))
  traps : {row : List ℤ} {rows : List (List ℤ)} {c : Control} {store : Store} →
      Tick w row c store Trapped → Allows w (row ∷ rows) c store (nothing_more (Some HasTrapped))
  is_stuck : {row : List ℤ} {rows : List (List ℤ)} {c : Control} {store : Store} {c' : Control} {store' : Store} →
      Tick w row c store (Rests c' store') → outcome_at (Rests c' store') ≡ Stuck → Allows w (row ∷ rows) c store (nothing_more None)
  ends : {row : List ℤ} {rows : List (List ℤ)} {c : Control} {store : Store} {c' : Control} {store' : Store} →
      Tick w row c store (Rests c' store') → outcome_at (Rests c' store') ≡ Ended →
      Allows w (row ∷ rows) c store (row_then (outputs_row w store') (nothing_more (Some HasEnded)))
  goes_on : {row : List ℤ} {rows : List (List ℤ)} {c : Control} {store : Store} {c' : Control} {store' : Store} {rest : ShownTrace} →
      Tick w row c store (Rests c' store') → outcome_at (Rests c' store') ≡ Paused →
      Allows w rows c' store' rest → Allows w (row ∷ rows) c store (row_then (outputs_row w store') rest)

-- the body of the entry's activity
abbrev pub entry_items : Setting → List Item
entry_items w = unwrap_or (option_map (λ unit. body_items unit.body) (unit_at w 0)) []

-- the traces that the meaning of a program allows over rows of inputs
abbrev pub Means : List StructDef → List UnitDef → ℕ → List (List ℤ) → ShownTrace → Type 0
Means structs units entry rows shown_trace =
    let w = setting_of structs units entry in Allows w rows (Idle (entry_items w)) (first_store w) shown_trace
