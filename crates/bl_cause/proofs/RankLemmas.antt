-- The positions in the order rise along every edge.
use Rattle.std.proofs.Common.{◌≡◌, ℕ, ◌+◌, ◌<◌, ◌≤◌, List, [], ◌∷◌, ◌⊎◌, inl, inr, ⊎_elim, length, take, get_or, set, refl, sym, ap, subst, ◌∙◌, arith}
use Rattle.std.specs.Prelude.{All, Contains, replicate}
use Rattle.std.proofs.lemmas.Bool.{cases_eq}
use Rattle.std.proofs.lemmas.List.{get_or-set_other, get_or-set_same, length-replicate, length-set}
use Rattle.std.proofs.lemmas.List.Elements.{All-contains, All-head, All-more, All-tail}
use Rattle.bl_tree.specs.declared.graph.Edge.{Edge}
use Rattle.bl_cause.specs.Ranks.{Ranks}
use Rattle.bl_cause.specs.Walks.{ClosedWalk}
use Rattle.bl_cause.specs.inner.Limits.{Rise}
use Rattle.bl_cause.specs.inner.Lists.{In, Within}
use Rattle.bl_cause.specs.inner.Orders.{Reaches, Sorted, ranked}
use Rattle.bl_cause.proofs.WalkLemmas.{closed_from}

-- what a node leads to stands behind it
abbrev Strict : List Edge → List ℕ → Type 0
Strict edges [] = Unit {0}
Strict edges (node ∷ rest) = ((edge : Edge) → Contains edges edge → edge.from ≡ node → In edge.to rest) × Strict edges rest

strict_of : (edges : List Edge) → ((walk : List Edge) → ClosedWalk edges walk → ⊥) → (order : List ℕ) → Sorted edges order → Strict edges order
strict_of edges none [] h = tt
strict_of edges none (node ∷ order) h = (
  (λ edge there from.
      ⊎_elim (λ (later : In edge.to order). later)
      (λ (back : Reaches edges edge.to node).
      let walk = closed_from edges edge there (subst (Reaches edges edge.to) (sym from) back) in
      absurd (none (edge ∷ walk.0) walk.1))
      (h.0 edge there from)),
  strict_of edges none order h.1,
)

-- the number is one of these, or not
decide : (x : ℕ) (xs : List ℕ) → In x xs ⊎ (In x xs → ⊥)
decide x [] = inr (λ none. none)
decide x (y ∷ xs) =
    ⊎_elim
    (λ (is : y ≡ x). inl (inl is))
    (λ (not : y ≡ x → ⊥).
    ⊎_elim (λ (later : In x xs). inl (inr later)) (λ (none : In x xs → ⊥). inr (λ h. ⊎_elim not none h)) (decide x xs))
    (cases_eq y x)

-- a node that isn't in the order keeps what it had
ranked_other : (order : List ℕ) (from : ℕ) (ranks : List ℕ) (node : ℕ) → (In node order → ⊥) →
    get_or (ranked order from ranks) node 0 ≡ get_or ranks node 0
ranked_other [] from ranks node none = refl
ranked_other (head ∷ order) from ranks node none =
    ranked_other order (from + 1) (set ranks head from) node (λ later. none (inr later))
    ∙ get_or-set_other ranks head node from 0 (λ is. none (inl (sym is)))

-- a node of the order gets no less than the first number
ranked_from : (order : List ℕ) (from : ℕ) (ranks : List ℕ) (node : ℕ) → All (λ node. node < length ranks) order → In node order →
    from ≤ get_or (ranked order from ranks) node 0
ranked_from [] from ranks node all h = absurd h
ranked_from (head ∷ order) from ranks node all h =
    let rest : All (λ node. node < length (set ranks head from)) order =
    subst (λ n. All (λ node. node < n) order) (sym (length-set ranks head from)) (All-tail (λ node. node < length ranks) head order all) in
    ⊎_elim
    (λ (later : In node order). let e = ranked_from order (from + 1) (set ranks head from) node rest later in omega (arith, e))
    (λ (none : In node order → ⊥).
    ⊎_elim
    (λ (is : head ≡ node).
    let lt = All-head (λ node. node < length ranks) head order all in
    let kept = ranked_other order (from + 1) (set ranks head from) node none in
    let same : get_or (set ranks head from) node 0 ≡ from =
    subst (λ n. get_or (set ranks head from) n 0 ≡ from) is (get_or-set_same ranks head from 0 lt) in
    omega (arith, kept, same))
    (λ (later : In node order). absurd (none later))
    h)
    (decide node order)

ranked_rises : (edges : List Edge) (order : List ℕ) → Strict edges order → (from : ℕ) (ranks : List ℕ) →
    All (λ node. node < length ranks) order →
    (edge : Edge) → Contains edges edge → In edge.from order → get_or (ranked order from ranks) edge.from 0 < get_or (ranked order from ranks) edge.to 0
ranked_rises edges [] strict from ranks all edge there h = absurd h
ranked_rises edges (head ∷ order) strict from ranks all edge there h =
    let rest : All (λ node. node < length (set ranks head from)) order =
    subst (λ n. All (λ node. node < n) order) (sym (length-set ranks head from)) (All-tail (λ node. node < length ranks) head order all) in
    ⊎_elim
    (λ (later : In edge.from order). ranked_rises edges order strict.1 (from + 1) (set ranks head from) rest edge there later)
    (λ (none : In edge.from order → ⊥).
    ⊎_elim
    (λ (is : head ≡ edge.from).
    let lt = All-head (λ node. node < length ranks) head order all in
    let kept = ranked_other order (from + 1) (set ranks head from) edge.from none in
    let same : get_or (set ranks head from) edge.from 0 ≡ from =
    subst (λ n. get_or (set ranks head from) n 0 ≡ from) is (get_or-set_same ranks head from 0 lt) in
    let end = strict.0 edge there (sym is) in
    let more = ranked_from order (from + 1) (set ranks head from) edge.to rest end in
    omega (arith, kept, same, more))
    (λ (later : In edge.from order). absurd (none later))
    h)
    (decide edge.from order)

-- in a graph without closed walks the positions in a sorted order of all nodes rise along every edge
pub ranks_of_order : (edges : List Edge) (order ranks : List ℕ) → ((walk : List Edge) → ClosedWalk edges walk → ⊥) → Sorted edges order →
    All (λ node. node < length ranks) order → ((edge : Edge) → Contains edges edge → In edge.from order) → Ranks edges (ranked order 0 ranks)
ranks_of_order edges order ranks none sorted all every edge there =
    ranked_rises edges order (strict_of edges none order sorted) 0 ranks all edge there (every edge there)

pub ranks_made : (edges : List Edge) (count : ℕ) (order view ranks : List ℕ) → ranks ≡ ranked view 0 (replicate count 0) → view ≡ order →
    Within count edges →
    ((walk : List Edge) → ClosedWalk edges walk → ⊥) → Sorted edges order → All (λ node. node < count) order →
    ((node : ℕ) → node < count → In node order) →
    Ranks edges ranks
ranks_made edges count order view ranks made same within none sorted nodes all =
    subst (Ranks edges) (sym (made ∙ ap (λ it. ranked it 0 (replicate count 0)) same))
    (ranks_of_order edges order (replicate count 0) none sorted (subst (λ n. All (λ node. node < n) order) (sym (length-replicate count 0)) nodes)
    (λ edge there. all edge.from (All-contains (λ edge. (edge.from < count) × (edge.to < count)) edges edge within there).0))

-- ---- numbers that rise

-- where the numbers rise along one edge more of a list, they rise along the first ones and this one
pub rises_more : (edges : List Edge) (lows highs : List ℕ) (i : ℕ) (d : Edge) (a b : ℕ) → i < length edges →
    All (λ edge. get_or lows edge.from 0 < get_or highs edge.to 0) (take i edges) →
    a ≡ get_or lows (get_or edges i d).from 0 → b ≡ get_or highs (get_or edges i d).to 0 → a < b →
    All (λ edge. get_or lows edge.from 0 < get_or highs edge.to 0) (take (i + 1) edges)
rises_more edges lows highs i d a b lt before from to less =
    All-more (λ edge. get_or lows edge.from 0 < get_or highs edge.to 0) edges i d lt before (omega arith)

pub rise_of_all : (edges : List Edge) (lows highs : List ℕ) → All (λ edge. get_or lows edge.from 0 < get_or highs edge.to 0) edges →
    Rise edges lows highs
rise_of_all edges lows highs all edge there = All-contains (λ it. get_or lows it.from 0 < get_or highs it.to 0) edges edge all there

-- what is known of edges and numbers that were lent holds of them
pub ranks_seen : (edges lent : List Edge) (ranks view : List ℕ) → lent ≡ edges → view ≡ ranks → Ranks lent view → Ranks edges ranks
ranks_seen edges lent ranks view same equal rise = subst (λ it. Ranks it ranks) same (subst (Ranks lent) equal rise)

-- the same of numbers that were lent twice
pub rise_seen : (edges lent : List Edge) (ranks lows highs : List ℕ) → lent ≡ edges → lows ≡ ranks → highs ≡ ranks → Rise lent lows highs →
    Ranks edges ranks
rise_seen edges lent ranks lows highs same low high rise =
    subst (λ it. Ranks it ranks) same (subst (λ it. Rise lent ranks it) high (subst (λ it. Rise lent it highs) low rise))

pub rise_lent : (edges : List Edge) (ranks lows highs : List ℕ) → lows ≡ ranks → highs ≡ ranks → Ranks edges ranks → Rise edges lows highs
rise_lent edges ranks lows highs low high rise =
    subst (λ it. Rise edges it highs) (sym low) (subst (λ it. Rise edges ranks it) (sym high) rise)
