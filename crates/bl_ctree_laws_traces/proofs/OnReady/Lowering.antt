-- Where numbers rise, what waits does so for what is lower.
use Rattle.std.proofs.Common.{◌≡◌, inl, inr, ℕ, ◌<◌, ◌≤◌, List, [], ◌∷◌, Some, refl, sym, ap, subst, arith}
use Rattle.std.specs.Prelude.{unwrap_or}
use Rattle.bl_tree.specs.declared.tree.Unit.{Unit as UnitDef}
use Rattle.bl_graph_nodes.specs.Nodes.{Node}
use Rattle.bl_graph_nodes.specs.Plain.{plain_body}
use Rattle.bl_graph_nodes.specs.Steps.{Gives, Here, Inside, StepLabel, head_of}
use Rattle.bl_graph.specs.DataEdges.{BesideAll}
use Rattle.bl_graph.specs.Edges.{EdgeAll}
use Rattle.bl_graph.specs.Walks.{Rises, Walk, on, stay}
use Rattle.bl_ctree.specs.Instances.{Setting, setting_of, unit_at}
use Rattle.bl_ctree_laws.specs.Pending.{Deed}
use Rattle.bl_ctree_laws_traces.specs.Progress.Blocked.{ActsOrWaits, WaitsFor, Writer}
use Rattle.bl_ctree_laws_traces.specs.Ready.Ranks.{LowestMayAct, Lower, Rising, callee_there, ranks_in}
use Rattle.bl_ctree_laws_traces.specs.Ready.Touching.{Touched, TouchesAt, WritersTouchOnTheWay}

-- numbers don't fall along a walk
at_most : {E : Node → Node → Type 0} (rank : Node → ℕ) → Rises rank E → {n m : Node} → Walk E n m → rank n ≤ rank m
at_most rank rises (stay n) = omega arith
at_most rank rises (on n by m edge rest) =
    let one : rank n < rank by = rises n by edge in let more : rank by ≤ rank m = at_most rank rises rest in omega arith

module _ (w : Setting) (rank : ℕ → Node → ℕ) (rising : Rising w rank) where
  head_lower : (i : ℕ) (p : StepLabel) (k : ℕ) (rest : List ℕ) → rank i (head_of p) < k → Lower (ranks_in w rank i p) (k ∷ rest)
  head_lower i (Here n) k rest lt = inl lt
  head_lower i (Gives n) k rest lt = inl lt
  head_lower i (Inside n u step) k rest lt = inl lt

  -- what leads to a writer that a data edge joins with the node
  writer_lower : (i : ℕ) (unit : UnitDef) (a : Deed) (p : StepLabel) (n : Node) (rest : List ℕ) → unit_at w i ≡ Some unit → Touched w i a n →
      Writer w i a (EdgeAll (plain_body unit.body)) (BesideAll (plain_body unit.body)) (head_of p) n → Lower (ranks_in w rank i p) (rank i n ∷ rest)
  writer_lower i unit a p n rest is touched h =
      let before : rank i (head_of p) ≤ rank i h.writer = at_most (rank i) (rising.control i unit is) h.walk in
      let after : rank i h.writer < rank i n = rising.by_data i unit is h.writer n (h.beside, touched h.writer h.writes) in
      head_lower i p (rank i n) rest (omega arith)

  waits_lower : (n : StepLabel) (i : ℕ) (unit : UnitDef) (a : Deed) (p : StepLabel) → unit_at w i ≡ Some unit → TouchesAt w i a n →
      WaitsFor w n p i a (EdgeAll (plain_body unit.body)) (BesideAll (plain_body unit.body)) → Lower (ranks_in w rank i p) (ranks_in w rank i n)
  waits_lower (Here n) i unit a p is touched h = writer_lower i unit a p n [] is touched h
  waits_lower (Gives n) i unit a p is touched h = writer_lower i unit a p n [] is touched h
  waits_lower (Inside n u step) i unit a p is touched (inl h) =
      writer_lower i unit a p n (ranks_in w rank (callee_there w i n) step) is touched.0 h
  waits_lower (Inside n u step) i unit a p is touched (inr (callee, inner, q, begins, there, same, h)) =
      subst (λ p. Lower (ranks_in w rank i p) (ranks_in w rank i (Inside n u step))) (sym same)
      (inr (
        refl,
        subst (λ k. Lower (ranks_in w rank k q) (ranks_in w rank k step)) (sym (ap (λ found. unwrap_or found 0) begins))
            (waits_lower step callee inner a q there (touched.1 callee begins) h),
      ))

pub lowest_may_act : ActsOrWaits → WritersTouchOnTheWay → LowestMayAct
lowest_may_act free touch structs units entry rank i unit stood c d a n c' rising outputs is live stand move =
    elim (free (setting_of structs units entry) i stood (plain_body unit.body) c d a n c' live move) [
      | inl able ↦ inl able
      | inr blocked ↦ inr (record {
        could = blocked.could;
        lower = waits_lower (setting_of structs units entry) rank rising n i unit a blocked.could.label is
            (touch structs units entry i c d a n c' outputs stand move) blocked.waits;
      })
    ]
