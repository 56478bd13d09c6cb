-- The labels of the steps of one tick differ.
use Rattle.std.proofs.Common.{◌≡◌, Bool, List, [], ◌∷◌, Some}
use Rattle.std.specs.Prelude.{⊤}
use Rattle.bl_tree.specs.declared.tree.Unit.{Unit as UnitDef}
use Rattle.bl_graph_nodes.specs.Plain.{plain_body}
use Rattle.bl_graph_nodes.specs.Steps.{StepLabel}
use Rattle.bl_graph.specs.Edges.{EdgeAll}
use Rattle.bl_graph.specs.Laws.{BranchesPart, InstantsPass}
use Rattle.bl_ctree.specs.Instances.{Setting, unit_at}
use Rattle.bl_ctree.specs.Store.{Store}
use Rattle.bl_ctree_laws.specs.Ends.{PlainTreeEnd, PlainTreeSteps, none, step, traps}
use Rattle.bl_ctree_laws.specs.Shrinks.{EndsShrink, MayIsCould, Paces}
use Rattle.bl_ctree_laws.specs.Trees.{Tree}
use Rattle.bl_ctree_laws_traces.specs.Progress.Laws.{StepsKeepFitsGraph}
use Rattle.bl_ctree_laws_traces.specs.Progress.FitsGraph.{FitsGraph}
use Rattle.bl_ctree_laws_traces.specs.Progress.Places.{AllCallable, whole}
use Rattle.bl_ctree_laws_traces.specs.Bounded.Differ.{AllNumbered, LabelsDiffer, TicksDiffer, Unlisted}
use Rattle.bl_ctree_laws_traces.proofs.OnBounded.Ahead.{Ahead}
use Rattle.bl_ctree_laws_traces.proofs.OnBounded.Stepping.{starts_ahead, step_less}

-- P of each label
abbrev Each : (StepLabel → Type 0) → List StepLabel → Type 0
Each P [] = ⊤
Each P (n ∷ rest) = P n × Each P rest

module _ (pass : InstantsPass) (part : BranchesPart) (could : MayIsCould) (shrink : EndsShrink) (kept : StepsKeepFitsGraph) {w : Setting} (pace : Paces w)
    (call : AllCallable w) (all : AllNumbered w) (unit : UnitDef) (is : unit_at w 0 ≡ Some unit) (stood : Bool) where
  abbrev Could : Tree → StepLabel → Type 0
  Could c = Ahead w (EdgeAll (plain_body unit.body)) c

  -- what is in the list after a step was possible before it, and is not this step
  earlier : (c c' : Tree) (n : StepLabel) → ((m : StepLabel) → Could c' m → Could c m × (m ≡ n → ⊥)) → (labels : List StepLabel) →
      Each (Could c') labels → Each (Could c) labels × Unlisted n labels
  earlier c c' n less [] each = (tt, tt)
  earlier c c' n less (m ∷ rest) each =
      let one = less m each.0 in
      let more = earlier c c' n less rest each.1 in ((one.0, more.0), (one.1, more.1))

  labels_differ : {c : Tree} {store : Store} {labels : List StepLabel} {end : PlainTreeEnd} → PlainTreeSteps w c store labels end →
      FitsGraph w 0 c (whole stood (plain_body unit.body)) → Each (Could c) labels × LabelsDiffer labels
  labels_differ none live = (tt, tt)
  labels_differ (traps {c = c} {n = n} t) live =
      ((starts_ahead (could w 0 c t.answer t.deed n t.after t.moves) (whole stood (plain_body unit.body)) live, tt), (tt, tt))
  labels_differ (step {c = c} {n = n} {c' = c'} {rest = rest} s more) live =
      let move = could w 0 c s.answer s.deed n c' s.moves in
      let later = labels_differ more (kept w 0 stood (plain_body unit.body) c s.answer s.deed n c' pace call live move) in
      let ranks = all 0 unit is in
      let before = earlier c c' n (λ m a.
      let less = step_less pass part shrink w pace all move (whole stood (plain_body unit.body)) live ranks.number ranks.rises
      (λ n m h. part unit.body [] n m h) m a in
      (less.ahead, less.differ)) rest later.0 in
      ((starts_ahead move (whole stood (plain_body unit.body)) live, before.0), (before.1, later.1))

pub ticks_differ : InstantsPass → BranchesPart → MayIsCould → EndsShrink → StepsKeepFitsGraph → TicksDiffer
ticks_differ pass part could shrink kept w unit stood c store labels end pace call all is live steps =
    (labels_differ pass part could shrink kept pace call all unit is stood steps live).1
