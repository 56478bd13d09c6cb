-- Steps of a called instance are the lowest of its caller too, where the caller's node is the first that waits.
use Rattle.std.proofs.Common.{◌≡◌, ◌⊎◌, inl, inr, ℕ, ◌≤◌, Bool, true, false, not, ◌&&◌, List, [], ◌∷◌}
use Rattle.std.proofs.Common.{◌++◌, Some, refl, ap, ◌∙◌, subst, arith}
use Rattle.std.specs.Prelude.{unwrap_or}
use Rattle.bl_tree.proofs.Basics.{true_false_any}
use Rattle.bl_graph_nodes.specs.Nodes.{Node}
use Rattle.bl_graph_nodes.specs.Steps.{Gives, Here, Inside, StepLabel, run_node}
use Rattle.bl_ctree.specs.Control.{Body}
use Rattle.bl_ctree.specs.Instances.{Setting, callee_of}
use Rattle.bl_ctree.specs.Store.{Store}
use Rattle.bl_ctree_laws.specs.Pending.{Deed}
use Rattle.bl_ctree_laws.specs.Shrinks.{MovingIsUnsettled}
use Rattle.bl_ctree_laws.specs.Steps as moves
use Rattle.bl_ctree_laws.specs.Steps.{Anyway, Moves}
use Rattle.bl_ctree_laws.specs.Trees.{Call, Tree, Nil, Run, is_nil, is_settled}
use Rattle.bl_ctree_laws_traces.specs.Ready.Ranks.{Lower, ranks_in}
use Rattle.bl_machine_laws.specs.Numbers.Turns.{AnsweredDeed}
use Rattle.bl_machine_laws.specs.Passes.Low.{LowSteps, LowTrap, Lowest, on, stay}
use Rattle.bl_machine_laws.proofs.OnPasses.Holes.{Has, Hole, fill, hole_moves, lift_moves, this_has}
use Rattle.bl_ctree_laws_traces.proofs.OnProgress.Waiting.{run_place}
use Rattle.bl_ctree_laws_traces.proofs.OnReady.Before.{not_itself}

-- ---- lists of lowest steps

pub low_append : {w : Setting} {rank : ℕ → Node → ℕ} {i : ℕ} {c : Tree} {store : Store} {done : List AnsweredDeed} {c' : Tree} {store' : Store}
    {others : List AnsweredDeed} {c'' : Tree} {store'' : Store} → LowSteps w rank i c store done c' store' →
    LowSteps w rank i c' store' others c'' store'' → LowSteps w rank i c store (done ++ others) c'' store''
low_append stay more = more
low_append (on move low performs rest) more = on move low performs (low_append rest more)

pub trap_after : {w : Setting} {rank : ℕ → Node → ℕ} {i : ℕ} {c : Tree} {store : Store} {done : List AnsweredDeed} {c' : Tree} {store' : Store} →
    LowSteps w rank i c store done c' store' → LowTrap w rank i c' store' → LowTrap w rank i c store
trap_after {done = done} steps trap = record {
  done = done ++ trap.done;
  tree = trap.tree;
  left = trap.left;
  steps = low_append steps trap.steps;
  answer = trap.answer;
  deed = trap.deed;
  label = trap.label;
  after = trap.after;
  moves = trap.moves;
  lowest = trap.lowest;
  fails = trap.fails;
}

-- ---- numbers

-- what is inside a call has the numbers of the callee after that of the call
inside_ranks : (w : Setting) (rank : ℕ → Node → ℕ) (i : ℕ) (s : Call) (stood : Bool) (callee : ℕ) (step : StepLabel) →
    callee_of w i s.place ≡ Some callee →
    ranks_in w rank i (Inside (run_node stood s.label s.place s.arguments) s.unit step)
    ≡ rank i (run_node stood s.label s.place s.arguments) ∷ ranks_in w rank callee step
inside_ranks w rank i s stood callee step begun =
    ap (λ k. rank i (run_node stood s.label s.place s.arguments) ∷ ranks_in w rank k step)
    (ap (λ place. unwrap_or (callee_of w i place) 0) (run_place stood s) ∙ ap (λ found. unwrap_or found 0) begun)

nothing_lower : {A : Type 0} (ys : List ℕ) → Lower [] ys → A
nothing_lower ys low = elim low [ ]

-- where the first numbers are the same the rest decides
rest_lower : (x : ℕ) (xs ys : List ℕ) → Lower (x ∷ xs) (x ∷ ys) → Lower xs ys
rest_lower x xs ys (inl lt) = not_itself x lt
rest_lower x xs ys (inr low) = low.1

-- one number that is no less than the first isn't lower
pub one_not_lower : {A : Type 0} (x y : ℕ) (ys : List ℕ) → y ≤ x → Lower (x ∷ []) (y ∷ ys) → A
one_not_lower x y ys most (inl lt) = not_itself x (omega arith)
one_not_lower x y ys most (inr low) = nothing_lower ys low.1

-- ---- what acts in a call

nil_inner : {w : Setting} {callee : ℕ} {d : Bool} {a : Deed} {n : StepLabel} {c' : Tree} {A : Type 0} → Moves Anyway w callee Nil d a n c' → A
nil_inner move = elim move [ ]

module _ {w : Setting} {i : ℕ} where
  run_inner : {d : Bool} {a : Deed} {n : StepLabel} {c' : Tree} {s : Call} {callee : ℕ} {stood : Bool} {c : Tree} →
      is_settled c ≡ false → Moves Anyway w i (Run s callee Body stood c) d a n c' →
      (step : StepLabel) × (n ≡ Inside (run_node stood s.label s.place s.arguments) s.unit step) × Has w callee c step
  run_inner moving moves.run_ends = true_false_any true refl moving
  run_inner moving (moves.in_run {n = step} move) = (step, refl, this_has move)

  end_inner : {d : Bool} {a : Deed} {n : StepLabel} {c' : Tree} {s : Call} {callee : ℕ} {stood : Bool} →
      Moves Anyway w i (Run s callee Body stood Nil) d a n c' → n ≡ Gives (run_node stood s.label s.place s.arguments)
  end_inner moves.run_ends = refl
  end_inner (moves.in_run inner) = nil_inner inner

-- a step with the label is of a node of the instance whose number is no less than this one
pub record Beyond (rank : ℕ → Node → ℕ) (i k : ℕ) (m : StepLabel) : Type 0 where
  pub node : Node
  pub is : m ≡ Here node
  pub most : k ≤ rank i node

module _ (moving : MovingIsUnsettled) (w : Setting) (rank : ℕ → Node → ℕ) (i : ℕ) (h : Hole) (other : Tree)
    (unended : is_nil other ≡ false) (s : Call)
    (callee : ℕ) (stood : Bool) (called : callee_of w i s.place ≡ Some callee)
    (beyond : (m : StepLabel) → Has w i (fill h other) m → Beyond rank i (rank i (run_node stood s.label s.place s.arguments)) m) where
  abbrev here : Node
  here = run_node stood s.label s.place s.arguments

  -- what stands beside the call is not lower
  beside_not : {A : Type 0} (m : StepLabel) (ys : List ℕ) → Has w i (fill h other) m → Lower (ranks_in w rank i m) (rank i here ∷ ys) → A
  beside_not m ys has low =
      let one = beyond m has in
      one_not_lower (rank i one.node) (rank i here) ys one.most (subst (λ x. Lower (ranks_in w rank i x) (rank i here ∷ ys)) one.is low)

  inside_lowest : (t : Tree) (q : StepLabel) → is_settled t ≡ false → Lowest w rank callee t q →
      Lowest w rank i (fill h (Run s callee Body stood t)) (Inside here s.unit q)
  inside_lowest t q left lowest d a m c' move low = by_side
      (hole_moves h (Run s callee Body stood t) other (ap (λ b. b && not (is_nil t)) left) unended (this_has move))
    where
      low_here : Lower (ranks_in w rank i m) (rank i here ∷ ranks_in w rank callee q)
      low_here = subst (Lower (ranks_in w rank i m)) (inside_ranks w rank i s stood callee q called) low

      by_side : Has w i (Run s callee Body stood t) m ⊎ Has w i (fill h other) m → ⊥
      by_side (inl own) =
          let inner = run_inner left own.moves in
          lowest inner.2.answer inner.2.deed inner.0 inner.2.after inner.2.moves
          (rest_lower (rank i here) (ranks_in w rank callee inner.0) (ranks_in w rank callee q)
          (subst (λ xs. Lower xs (rank i here ∷ ranks_in w rank callee q))
          (ap (ranks_in w rank i) inner.1 ∙ inside_ranks w rank i s stood callee inner.0 called) low_here))
      by_side (inr has) = beside_not m (ranks_in w rank callee q) has low_here

  pub ends_lowest : Lowest w rank i (fill h (Run s callee Body stood Nil)) (Gives here)
  ends_lowest d a m c' move low = by_side (hole_moves h (Run s callee Body stood Nil) other refl unended (this_has move))
    where
      by_side : Has w i (Run s callee Body stood Nil) m ⊎ Has w i (fill h other) m → ⊥
      by_side (inl own) =
          nothing_lower []
          (rest_lower (rank i here) [] [] (subst (λ x. Lower (ranks_in w rank i x) (rank i here ∷ [])) (end_inner own.moves) low))
      by_side (inr has) = beside_not m [] has low

  pub call_steps : {t : Tree} {store : Store} {done : List AnsweredDeed} {t' : Tree} {store' : Store} → LowSteps w rank callee t store done t' store' →
      LowSteps w rank i (fill h (Run s callee Body stood t)) store done (fill h (Run s callee Body stood t')) store'
  call_steps stay = stay
  call_steps (on {c = t} {d = d} {a = a} {n = q} {c' = t'} move low performs rest) =
      on (lift_moves h (Run s callee Body stood t) (Run s callee Body stood t') refl (moves.in_run move))
      (inside_lowest t q (moving w callee t d a q t' move) low) performs (call_steps rest)

  pub call_trap : {t : Tree} {store : Store} → LowTrap w rank callee t store → LowTrap w rank i (fill h (Run s callee Body stood t)) store
  call_trap trap = record {
    done = trap.done;
    tree = fill h (Run s callee Body stood trap.tree);
    left = trap.left;
    steps = call_steps trap.steps;
    answer = trap.answer;
    deed = trap.deed;
    label = Inside here s.unit trap.label;
    after = fill h (Run s callee Body stood trap.after);
    moves = lift_moves h (Run s callee Body stood trap.tree) (Run s callee Body stood trap.after) refl (moves.in_run trap.moves);
    lowest = inside_lowest trap.tree trap.label
        (moving w callee trap.tree trap.answer trap.deed trap.label trap.after trap.moves) trap.lowest;
    fails = trap.fails;
  }
