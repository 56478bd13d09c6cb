-- The least of what waits, and numbers along walks.
use Rattle.std.proofs.Common.{◌≡◌, ◌⊎◌, inl, inr, ⊎_elim, ℕ, zero, suc, ◌+◌, ◌<◌, ◌≤◌, Bool, true, false, List}
use Rattle.std.proofs.Common.{[], ◌∷◌, Option, Some, None, refl, ap, arith}
use Rattle.std.specs.Prelude.{Contains}
use Rattle.bl_tree.proofs.Basics.{true_false_any}
use Rattle.bl_graph_nodes.specs.Nodes.{Node, entry}
use Rattle.bl_graph_nodes.specs.Steps.{end_node, join_node, run_node}
use Rattle.bl_graph.specs.Walks.{After, Rises, Walk, on, stay}
use Rattle.bl_ctree.specs.Control.{Body, Check}
use Rattle.bl_ctree_laws.specs.Trees.{Fork, Tree, Trees, Nil, Wait, Test, Idle, Do, Seq, Par, Guard, Run, are_done, beside, no_tree}
use Rattle.bl_machine_laws.specs.Numbers.Waiting.{SomeWaits, Waits, check_of, first_in, test_of}

-- ---- numbers

pub data Numbers (x y : ℕ) : Type 0 where
  less : x < y → Numbers x y
  equal : x ≡ y → Numbers x y
  more : y < x → Numbers x y

pub numbers : (x y : ℕ) → Numbers x y
numbers zero zero = equal refl
numbers zero (suc y) = less (omega arith)
numbers (suc x) zero = more (omega arith)
numbers (suc x) (suc y) = by_rest (numbers x y)
  where
    by_rest : Numbers x y → Numbers (suc x) (suc y)
    by_rest (less lt) = less (omega arith)
    by_rest (equal is) = equal (ap suc is)
    by_rest (more lt) = more (omega arith)

-- numbers don't fall along a walk
pub at_most : {E : Node → Node → Type 0} {n m : Node} (number : Node → ℕ) → Rises number E → Walk E n m → number n ≤ number m
at_most number rises (stay n) = omega arith
at_most number rises (on n by m edge rest) =
    let one : number n < number by = rises n by edge in let more : number by ≤ number m = at_most number rises rest in omega arith

pub after_rises : {E : Node → Node → Type 0} {n m : Node} (number : Node → ℕ) → Rises number E → After E n m → number n < number m
after_rises {n = n} {m = m} number rises after =
    let one : number n < number after.by = rises n after.by after.edge in
    let more : number after.by ≤ number m = at_most number rises after.rest in omega arith

-- all members of a list have numbers below one
pub record Bound (number : Node → ℕ) (nodes : List Node) : Type 0 where
  pub top : ℕ
  pub below : (n : Node) → Contains nodes n → number n < top

bound_more : (number : Node → ℕ) (x : Node) (xs : List Node) → Bound number xs → Bound number (x ∷ xs)
bound_more number x xs rest = record { top = suc (number x + rest.top); below = λ n there. one n there }
  where
    one : (n : Node) → Contains (x ∷ xs) n → number n < suc (number x + rest.top)
    one n (zero, within, is) = let same : number x ≡ number n = ap number is in omega arith
    one n (suc k, within, is) = let less : number n < rest.top = rest.below n (k, omega arith, is) in omega arith

pub bound_of : (number : Node → ℕ) (nodes : List Node) → Bound number nodes
bound_of number [] = record { top = 0; below = λ n there. let below = there.1 in absurd (omega arith) }
bound_of number (x ∷ xs) = bound_more number x xs (bound_of number xs)

-- ---- the least

-- nothing has the property, or something has with no greater number than all that have it
pub data Least (number : Node → ℕ) (P : Node → Type 0) : Type 0 where
  nothing : ((n : Node) → P n → ⊥) → Least number P
  least : (n : Node) → P n → ((y : Node) → P y → number n ≤ number y) → Least number P

only : (number : Node → ℕ) (n : Node) → Least number (λ y. y ≡ n)
only number n = least n refl (λ y is. let same : number y ≡ number n = ap number is in omega arith)

either : {P Q : Node → Type 0} (number : Node → ℕ) → Least number P → Least number Q → Least number (λ y. P y ⊎ Q y)
either number (nothing none) (nothing none') = nothing (λ n h. ⊎_elim (none n) (none' n) h)
either number (nothing none) (least n q lowest) = least n (inr q) (λ y h. ⊎_elim (λ p. absurd (none y p)) (lowest y) h)
either number (least n p lowest) (nothing none) = least n (inl p) (λ y h. ⊎_elim (lowest y) (λ q. absurd (none y q)) h)
either {P} {Q} number (least n p lowest) (least m q lowest') = by_number (numbers (number n) (number m))
  where
    first : number n ≤ number m → (y : Node) → P y ⊎ Q y → number n ≤ number y
    first le y (inl h) = lowest y h
    first le y (inr h) = let more : number m ≤ number y = lowest' y h in omega arith

    second : number m ≤ number n → (y : Node) → P y ⊎ Q y → number m ≤ number y
    second le y (inl h) = let more : number n ≤ number y = lowest y h in omega arith
    second le y (inr h) = lowest' y h

    by_number : Numbers (number n) (number m) → Least number (λ y. P y ⊎ Q y)
    by_number (less lt) = least n (inl p) (first (omega arith))
    by_number (equal is) = least n (inl p) (first (omega arith))
    by_number (more lt) = least m (inr q) (second (omega arith))

joined : (number : Node → ℕ) (s : Fork) (stood : Bool) (branches : Trees) →
    Least number (λ y. (are_done branches ≡ true) × (y ≡ join_node stood s.label s.place))
joined number s stood branches = by_end (are_done branches) refl
  where
    by_end : (b : Bool) → are_done branches ≡ b → Least number (λ y. (are_done branches ≡ true) × (y ≡ join_node stood s.label s.place))
    by_end true e = least (join_node stood s.label s.place) (e, refl)
        (λ y h. let same : number y ≡ number (join_node stood s.label s.place) = ap number h.1 in omega arith)
    by_end false e = nothing (λ n h. true_false_any (are_done branches) h.0 e)

mutual
  -- the least of what waits in a tree
  pub least_waits : (number : Node → ℕ) (c : Tree) (next : Option Node) → Least number (Waits c next)
  least_waits number Nil None = nothing (λ n h. absurd h)
  least_waits number Nil (Some m) = only number m
  least_waits number (Wait s) next = nothing (λ n h. absurd h)
  least_waits number (Test s) next = only number (test_of s)
  least_waits number (Idle body) next = nothing (λ n h. absurd h)
  least_waits number (Do s) next = only number (entry s)
  least_waits number (Seq c rest) next = least_waits number c (first_in rest next)
  least_waits number (Par s stood branches) next = either number (some_least number branches) (joined number s stood branches)
  least_waits number (Guard s Body stood c) next = least_waits number c (Some (end_node stood s.label s.place))
  least_waits number (Guard s Check stood c) next =
      either number (only number (check_of s)) (least_waits number c (Some (end_node stood s.label s.place)))
  least_waits number (Run s callee Body stood c) next = nothing (λ n h. absurd h)
  least_waits number (Run s callee Check stood c) next = only number (run_node stood s.label s.place s.arguments)

  some_least : (number : Node → ℕ) (branches : Trees) → Least number (SomeWaits branches)
  some_least number no_tree = nothing (λ n h. absurd h)
  some_least number (beside weak c branches) = either number (least_waits number c None) (some_least number branches)
