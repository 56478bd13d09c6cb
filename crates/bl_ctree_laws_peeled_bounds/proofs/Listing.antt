-- The marks of heads that fall away are in a list: for each pass of a tick the heads of the passed body.
use Rattle.std.proofs.Common.{◌≡◌, ℕ, ◌+◌, List, [], ◌∷◌, map, length, refl, sym, ap, ◌∙◌, subst, arith}
use Rattle.std.proofs.lemmas.List.{length-map}
use Rattle.bl_tree.specs.Reduce.{joined, total}
use Rattle.bl_tree.proofs.FirstLemmas.{In}
use Rattle.bl_graph_nodes.specs.Nodes.{Node, entry}
use Rattle.bl_graph_nodes.specs.Plain.{Block, Plain, Done, Then}
use Rattle.bl_graph_nodes.specs.Steps.{Here, Inside, StepLabel, run_node}
use Rattle.bl_ctree.specs.Control.{Check, Body}
use Rattle.bl_ctree.specs.Instances.{Setting}
use Rattle.bl_ctree_laws.specs.Trees.{Tree, Trees, Nil, Wait, Test, Idle, Do, Seq, Par, Guard, Run, before, beside, no_tree}
use Rattle.bl_ctree_laws_traces.specs.Bounded.TickPasses.{Pass, pass_of, step_in, unit_of_pass}
use Rattle.bl_ctree_laws_traces.proofs.OnBounded.Lists.{among_joined, joined_long}
use Rattle.bl_ctree_laws_peeled.proofs.Heads.{FallsAt, FallsEach, FallsIn, falls_begins, falls_fork, falls_guard, falls_here, falls_in, falls_run, falls_there}
use Rattle.bl_ctree_laws_peeled.specs.Lines.{Line, line}
use Rattle.bl_ctree_laws_peeled_bounds.proofs.Marking.{HeadMark}
use Rattle.bl_ctree_laws_peeled_bounds.proofs.Numbers.{AllNumberedRuns, RunsNumbered, unit_number_at}
use Rattle.bl_ctree_laws_peeled_bounds.proofs.Turns.{MayFall, LoopAt}
use Rattle.bl_ctree_laws_confluence.proofs.OnApart.Members.{in_map}

-- by the numbers of units, the heads that may fall away in their bodies
module _ (heads : ℕ → List LoopAt) where
  abbrev mark : StepLabel → Plain → HeadMark
  mark n s = record { label = n; loop = s }

  -- the heads of a pass
  abbrev pass_marks : Pass → List HeadMark
  pass_marks pass = map (λ (x : LoopAt). mark (step_in pass (Here x.node)) x.loop) (heads (unit_of_pass pass))

  -- the heads of passes
  abbrev pub tick_marks : List Pass → List HeadMark
  tick_marks all = joined (map pass_marks all)

  totals_same : (f g : Pass → ℕ) → ((x : Pass) → f x ≡ g x) → (xs : List Pass) → total (map f xs) ≡ total (map g xs)
  totals_same f g same [] = refl
  totals_same f g same (x ∷ xs) = λ j. same x j + totals_same f g same xs j

  pub marks_long : (all : List Pass) → length (tick_marks all) ≡ total (map (λ pass. length (heads (unit_of_pass pass))) all)
  marks_long all =
      joined_long pass_marks all
      ∙ totals_same (λ pass. length (pass_marks pass)) (λ pass. length (heads (unit_of_pass pass)))
      (λ pass. length-map (heads (unit_of_pass pass)) (λ (x : LoopAt). mark (step_in pass (Here x.node)) x.loop)) all

  -- the node at which the head falls away, in the body that the label's pass passes
  pub record HeadFound (k : ℕ) (m : StepLabel) (s : Plain) : Type 0 where
    pub node : Node
    pub again : step_in (pass_of k m) (Here node) ≡ m
    pub listed : In (record { node = node; loop = s }) (heads (unit_of_pass (pass_of k m)))

  pub found_listed : (all : List Pass) (k : ℕ) (m : StepLabel) (s : Plain) → HeadFound k m s → In (pass_of k m) all → In (mark m s) (tick_marks all)
  found_listed all k m s found there =
      among_joined pass_marks (pass_of k m) (mark m s) all there
      (subst (λ n. In (mark n s) (pass_marks (pass_of k m))) found.again
      (in_map (λ (x : LoopAt). mark (step_in (pass_of k m) (Here x.node)) x.loop) (record { node = found.node; loop = s })
      (heads (unit_of_pass (pass_of k m))) found.listed))

  module _ (w : Setting) where
    abbrev H : ℕ → Node → Plain → Type 0
    H i = MayFall (heads (unit_number_at w i))

    found_here : (i k : ℕ) (n : Node) (m : StepLabel) (s : Plain) → m ≡ Here n → H i n s → unit_number_at w i ≡ k → HeadFound k m s
    found_here i k n m s is may same =
        let found : HeadFound k (Here n) s =
        record { node = n; again = refl; listed = subst (λ k. In (record { node = n; loop = s }) (heads k)) same may.among } in
        subst (λ m. HeadFound k m s) (sym is) found

    found_inside : (k u : ℕ) (r : Node) (m inner : StepLabel) (s : Plain) → m ≡ Inside r u inner → HeadFound u inner s → HeadFound k m s
    found_inside k u r m inner s is one =
        let found : HeadFound k (Inside r u inner) s = record { node = one.node; again = ap (Inside r u) one.again; listed = one.listed } in
        subst (λ m. HeadFound k m s) (sym is) found

    mutual
      found_at : {i : ℕ} {L : Line} {m : StepLabel} {s : Plain} (t : Tree) (rest : Block) → FallsAt H i L (line t rest) m s → RunsNumbered w t → (k : ℕ) →
          unit_number_at w i ≡ k → HeadFound k m s
      found_at Nil Done falls runs k same = elim falls [ ]
      found_at {i} {m = m} Nil (Then t rest) (falls_begins {s = s} is may) runs k same = found_here i k (entry t) m s is may same
      found_at (Wait p) rest falls runs k same = elim falls [ ]
      found_at (Test p) rest falls runs k same = elim falls [ ]
      found_at (Idle body) rest falls runs k same = elim falls [ ]
      found_at {i} {m = m} (Do t) rest (falls_begins {s = s} is may) runs k same = found_here i k (entry t) m s is may same
      found_at (Seq c more) rest falls runs k same = found_at c (before more rest) falls runs k same
      found_at (Par p stood branches) rest (falls_fork falls) runs k same = each_found branches falls runs k same
      found_at (Guard p Check stood c) rest falls runs k same = elim falls [ ]
      found_at (Guard p Body stood c) rest (falls_guard (falls_in falls)) runs k same = found_at c Done falls runs k same
      found_at (Run p callee Check stood c) rest falls runs k same = elim falls [ ]
      found_at {m = m} {s} (Run p callee Body stood c) rest (falls_run {inner = inner} is (falls_in falls)) runs k same =
          found_inside k p.unit (run_node stood p.label p.place p.arguments) m inner s is (found_at c Done falls runs.1 p.unit runs.0)

      each_found : {i : ℕ} {source : Trees} {m : StepLabel} {s : Plain} (branches : Trees) → FallsEach H i source branches m s → AllNumberedRuns w branches →
          (k : ℕ) → unit_number_at w i ≡ k → HeadFound k m s
      each_found no_tree falls runs k same = elim falls [ ]
      each_found (beside weak c rest) (falls_here (falls_in falls)) runs k same = found_at c Done falls runs.0 k same
      each_found (beside weak c rest) (falls_there falls) runs k same = each_found rest falls runs.1 k same

    pub found_in : {i : ℕ} {c t : Tree} {m : StepLabel} {s : Plain} → FallsIn H i c t m s → RunsNumbered w t → (k : ℕ) → unit_number_at w i ≡ k →
        HeadFound k m s
    found_in {t = t} (falls_in falls) runs k same = found_at t Done falls runs k same
