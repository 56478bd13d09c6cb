-- All maximal lists of steps have one end.
use Rattle.std.proofs.Common.{◌≡◌, ◌⊎◌, inl, inr, Bool, List, Option, Some, None, refl, sym, ap, ◌∙◌, subst}
use Rattle.bl_graph_nodes.specs.Steps.{StepLabel}
use Rattle.bl_ctree.specs.Actions.{Performed}
use Rattle.bl_ctree.specs.Instances.{Setting}
use Rattle.bl_ctree.specs.Store.{Store}
use Rattle.bl_ctree_laws.specs.Commutes.{Apart, OneStep, Swapped}
use Rattle.bl_ctree_laws.specs.Ends.{Independent, PlainTreeEnd, PlainTreeIsOver, PlainTreeIsStill, PlainTreeStep, PlainTreeSteps, PlainTreeTraps, Rests, TicksAreConfluent, Trapped, done_by, none, step, traps}
use Rattle.bl_ctree_laws.specs.Residual.{PlainResidual}
use Rattle.bl_ctree_laws.specs.Pending.{Deed}
use Rattle.bl_ctree_laws.specs.Shrinks.{Paces}
use Rattle.bl_ctree_laws.specs.Steps.{Moves, Unmet}
use Rattle.bl_ctree_laws.specs.Trees.{Tree}
use Rattle.bl_ctree_laws.proofs.Diamond.{two}
use Rattle.bl_ctree_laws.proofs.Leaving.{keeps}

some_is_none : {A : Type 0} {X : Type 0} (one : Option X) (x : X) → one ≡ Some x → one ≡ None → A
some_is_none one x e f = absurd cc

-- what is left of a list of steps with this end
record Onward (w : Setting) (c : Tree) (store : Store) (end : PlainTreeEnd) : Type 0 where
  labels : List StepLabel
  steps : PlainTreeSteps w c store labels end

abbrev done : Bool → Store → Performed
done answer store = record { answer = answer; store = store }

abbrev answer_of : Performed → Bool
answer_of p = p.answer

abbrev store_of : Performed → Store
store_of p = p.store

one_value : {X : Type 0} (one : Option X) (x y : X) → one ≡ Some x → one ≡ Some y → x ≡ y
one_value one x y e f = cc

-- a list of steps from where another tree and store are the same
moved : {w : Setting} {c one : Tree} {store store' : Store} {ls : List StepLabel} {end : PlainTreeEnd} → c ≡ one → store ≡ store' →
    PlainTreeSteps w c store ls end → PlainTreeSteps w one store' ls end
moved {w} {c} {one} {store} {store'} {ls} {end} e f steps =
    subst (λ c. PlainTreeSteps w c store' ls end) e (subst (λ store. PlainTreeSteps w c store ls end) f steps)

module _ {w : Setting} (paces : Paces w) (R : Tree → Type 0)
    (kept : (c : Tree) (d : Bool) (a : Deed) (n : StepLabel) (c' : Tree) → R c → Moves Unmet w 0 c d a n c' → R c')
    (free : (c : Tree) (a b : Deed) → R c → Apart w 0 c a b → Independent w a b) where
  -- ---- after a step the rest has the same end

  trap_stays : {c : Tree} {store : Store} {n m : StepLabel} {c1 : Tree} {store1 : Store} → R c →
      (s : PlainTreeStep w c store n c1 store1) (t : PlainTreeTraps w c store m) →
      OneStep Tree s.answer t.answer s.deed t.deed n m c1 t.after ⊎ Swapped w 0 c s.answer t.answer s.deed t.deed n m c1 t.after → PlainTreeTraps w c1 store1 m
  trap_stays {store = store} r s t (inl one) = some_is_none (done_by w t.deed store) _ (sym (ap (λ a. done_by w a store) one.deed) ∙ s.performs) t.fails
  trap_stays {store = store} r s t (inr swap) = record {
    answer = t.answer;
    deed = t.deed;
    after = swap.both;
    moves = swap.second;
    fails = (free _ _ _ r swap.apart).trap_stays store _ t.fails s.performs;
  }

  from_same : {d e : Bool} {a b : Deed} {n m : StepLabel} {c1 c2 : Tree} {store1 store2 : Store} {ls : List StepLabel} {end : PlainTreeEnd} →
      OneStep Tree d e a b n m c1 c2 → done d store1 ≡ done e store2 → PlainTreeSteps w c2 store2 ls end → Onward w c1 store1 end
  from_same {ls = ls} one is more = record { labels = ls; steps = moved (sym (one.leads (ap answer_of is))) (sym (ap store_of is)) more }

  -- from the same step
  along : {c : Tree} {store : Store} {n m : StepLabel} {c1 c2 : Tree} {store1 store2 : Store} {ls : List StepLabel} {end : PlainTreeEnd} →
      (s : PlainTreeStep w c store n c1 store1) (t : PlainTreeStep w c store m c2 store2) → OneStep Tree s.answer t.answer s.deed t.deed n m c1 c2 →
      PlainTreeSteps w c2 store2 ls end → Onward w c1 store1 end
  along {store = store} s t one more =
      from_same one (one_value (done_by w t.deed store) _ _ (sym (ap (λ a. done_by w a store) one.deed) ∙ s.performs) t.performs) more

  rest : {c : Tree} {store : Store} {n : StepLabel} {c1 : Tree} {store1 : Store} {ls : List StepLabel} {end : PlainTreeEnd} → R c →
      PlainTreeSteps w c store ls end → PlainTreeIsOver w end → PlainTreeStep w c store n c1 store1 → Onward w c1 store1 end
  rest r none over s = absurd (over _ _ _ _ s.moves)
  rest r (traps t) over s = record { labels = _; steps = traps (trap_stays r s t (two paces s.moves t.moves)) }
  rest {c} {store} {n} {c1} {store1} {end = end} r (step {n = m} {c' = c2} {store' = store2} t more) over s =
      by (two paces s.moves t.moves) (λ after store3 s'. rest (kept _ _ _ _ _ r t.moves) more over s')
    where
      by : OneStep Tree s.answer t.answer s.deed t.deed n m c1 c2 ⊎ Swapped w 0 c s.answer t.answer s.deed t.deed n m c1 c2 →
          ((both : Tree) (store3 : Store) → PlainTreeStep w c2 store2 n both store3 → Onward w both store3 end) → Onward w c1 store1 end
      by (inl one) further = along s t one more
      by (inr swap) further =
          let both = (free _ _ _ r swap.apart).both store _ _ s.performs t.performs in
          let onward = further swap.both _ (record { answer = s.answer; deed = s.deed; moves = swap.first; performs = both.first }) in
          record {
            labels = _;
            steps = step (record { answer = t.answer; deed = t.deed; moves = swap.second; performs = both.second }) onward.steps;
          }

  -- ---- one end

  -- where something traps every list ends in a trap
  trapped : {c : Tree} {store : Store} {m : StepLabel} {ls : List StepLabel} {end : PlainTreeEnd} → R c → PlainTreeTraps w c store m → PlainTreeSteps w c store ls end →
      PlainTreeIsOver w end → end ≡ Trapped
  trapped r t none over = absurd (over _ _ _ _ t.moves)
  trapped r t (traps t') over = refl
  trapped r t (step s more) over = trapped (kept _ _ _ _ _ r s.moves) (trap_stays r s t (two paces s.moves t.moves)) more over

  -- where nothing may act there is nothing else
  at_rest : {c : Tree} {store : Store} {ls : List StepLabel} {end : PlainTreeEnd} → PlainTreeIsStill w c → PlainTreeSteps w c store ls end → end ≡ Rests c store
  at_rest still none = refl
  at_rest still (traps t) = absurd (still _ _ _ _ t.moves)
  at_rest still (step s more) = absurd (still _ _ _ _ s.moves)

  one_end : {c : Tree} {store : Store} {ls ls' : List StepLabel} {end end' : PlainTreeEnd} → R c → PlainTreeSteps w c store ls end → PlainTreeIsOver w end →
      PlainTreeSteps w c store ls' end' → PlainTreeIsOver w end' → end' ≡ end
  one_end r none over other over' = at_rest over other
  one_end r (traps t) over other over' = trapped r t other over'
  one_end r (step s more) over other over' =
      let onward = rest r other over' s in one_end (kept _ _ _ _ _ r s.moves) more over onward.steps over'

pub ends_are_one : TicksAreConfluent
ends_are_one w stood body c store end end' paces free left one other =
    sym (one_end paces (PlainResidual w stood 0 body) (λ c d a n c' left move. keeps left move) free left one.steps one.over other.steps other.over)
