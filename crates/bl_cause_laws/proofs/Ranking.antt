-- Where no closed walk leads along the edges numbers rise along them. Edge by edge: behind a further edge all that it leads to
-- gets a greater number than where it begins.
use Rattle.std.proofs.Common.{◌≡◌, ◌⊎◌, inl, inr, ℕ, zero, suc, ◌+◌, ◌<◌, ◌≤◌, Bool, true, false, ◌&&◌, ◌||◌, List, [], ◌∷◌, ◌++◌, refl, sym, ◌∙◌, subst, arith}
use Rattle.std.proofs.Common.{eq-eqb, eqb-true}
use Rattle.std.specs.Prelude.{Contains, if◌then◌else◌, nat_eq, slice_index}
use Rattle.std.proofs.lemmas.Bool.{and_from, false_from_ne_true, or_left, or_right}
use Rattle.bl_tree.proofs.Basics.{and_first, and_second, contains_first, contains_further, contains_none, either_of, first_or_further}
use Rattle.bl_tree.specs.declared.graph.Edge.{Edge}
use Rattle.bl_cause.specs.Walks.{ClosedWalk, EdgeWalk}
use Rattle.bl_cause_laws.specs.Orders.{UnwalkedHaveRanks}

-- ---- tests

-- ---- what leads where

-- whether a walk leads from the one node to the other: without the first edge, or to where it begins and on from where it ends
abbrev leads : List Edge → ℕ → ℕ → Bool
leads [] x y = nat_eq x y
leads (e ∷ edges) x y = leads edges x y || (leads edges x e.from && leads edges e.to y)

leads_itself : (edges : List Edge) (x : ℕ) → leads edges x x ≡ true
leads_itself [] x = eq-eqb x x refl
leads_itself (e ∷ edges) x = or_left (leads edges x x) (leads edges x e.from && leads edges e.to x) (leads_itself edges x)

module _ (e : Edge) (edges : List Edge) (x : ℕ) where
  -- the beginning of the first edge is led to without it
  reached : leads (e ∷ edges) x e.from ≡ true → leads edges x e.from ≡ true
  reached so =
      elim (either_of (leads edges x e.from) (leads edges x e.from && leads edges e.to e.from) so) [
        | inl one ↦ one
        | inr other ↦ and_first (leads edges x e.from) (leads edges e.to e.from) other
      ]

  through : leads edges x e.from ≡ true → leads (e ∷ edges) x e.to ≡ true
  through so =
      or_right (leads edges x e.to) (leads edges x e.from && leads edges e.to e.to)
      (and_from (leads edges x e.from) (leads edges e.to e.to) so (leads_itself edges e.to))

  -- along a later edge
  onward : (d : Edge) → ((x : ℕ) → leads edges x d.from ≡ true → leads edges x d.to ≡ true) →
      (leads edges x d.from ≡ true) ⊎ ((leads edges x e.from && leads edges e.to d.from) ≡ true) → leads (e ∷ edges) x d.to ≡ true
  onward d on (inl one) = or_left (leads edges x d.to) (leads edges x e.from && leads edges e.to d.to) (on x one)
  onward d on (inr other) =
      or_right (leads edges x d.to) (leads edges x e.from && leads edges e.to d.to)
      (and_from (leads edges x e.from) (leads edges e.to d.to) (and_first (leads edges x e.from) (leads edges e.to d.from) other)
      (on e.to (and_second (leads edges x e.from) (leads edges e.to d.from) other)))

-- it leads on along each edge
leads_on : (edges : List Edge) (d : Edge) → Contains edges d → (x : ℕ) → leads edges x d.from ≡ true → leads edges x d.to ≡ true
leads_on [] d there x so = absurd (contains_none d there)
leads_on (e ∷ edges) d there x so =
    elim (first_or_further e edges d there) [
      | inl is ↦ subst (λ d. leads (e ∷ edges) x d.to ≡ true) is
          (through e edges x (reached e edges x (subst (λ d. leads (e ∷ edges) x d.from ≡ true) (sym is) so)))
      | inr later ↦ onward e edges x d (leads_on edges d later) (either_of (leads edges x d.from) (leads edges x e.from && leads edges e.to d.from) so)
    ]

-- ---- walks

more_walk : (e : Edge) (edges : List Edge) (x : ℕ) (walk : List Edge) (y : ℕ) → EdgeWalk edges x walk y → EdgeWalk (e ∷ edges) x walk y
more_walk e edges x [] y w = w
more_walk e edges x (d ∷ walk) y w = (contains_further e edges d w.0, w.1, more_walk e edges d.to walk y w.2)

walk_then : (edges : List Edge) (x : ℕ) (one : List Edge) (y : ℕ) (other : List Edge) (z : ℕ) → EdgeWalk edges x one y → EdgeWalk edges y other z →
    EdgeWalk edges x (one ++ other) z
walk_then edges x [] y other z w v = subst (λ x. EdgeWalk edges x other z) (sym w) v
walk_then edges x (d ∷ one) y other z w v = (w.0, w.1, walk_then edges d.to one y other z w.2 v)

walk_there : (edges : List Edge) (x y : ℕ) → leads edges x y ≡ true → (walk : List Edge) × EdgeWalk edges x walk y
walk_there [] x y so = ([], eqb-true x y so)
walk_there (e ∷ edges) x y so =
    elim (either_of (leads edges x y) (leads edges x e.from && leads edges e.to y) so) [
      | inl one ↦ let w = walk_there edges x y one in (w.0, more_walk e edges x w.0 y w.1)
      | inr other ↦
          let front = walk_there edges x e.from (and_first (leads edges x e.from) (leads edges e.to y) other) in
          let back = walk_there edges e.to y (and_second (leads edges x e.from) (leads edges e.to y) other) in (
            front.0 ++ e ∷ back.0,
            walk_then (e ∷ edges) x front.0 e.from (e ∷ back.0) y (more_walk e edges x front.0 e.from front.1)
                (contains_first e edges, refl, more_walk e edges e.to back.0 y back.1),
          )
    ]

abbrev Unwalked : List Edge → Type 0
Unwalked edges = (walk : List Edge) → ClosedWalk edges walk → ⊥

fewer_unwalked : (e : Edge) (edges : List Edge) → Unwalked (e ∷ edges) → Unwalked edges
fewer_unwalked e edges none [] w = w
fewer_unwalked e edges none (d ∷ walk) w = none (d ∷ walk) (contains_further e edges d w.0, more_walk e edges d.to walk d.from w.1)

-- ---- numbers

abbrev raised : Bool → ℕ → ℕ → ℕ
raised reached by n = if reached then n + suc by else n

abbrev rank : List Edge → ℕ → ℕ
rank [] n = 0
rank (e ∷ edges) n = raised (leads edges e.to n) (rank edges e.from) (rank edges n)

raised_rises : (a b : Bool) (by n m : ℕ) → (a ≡ true → b ≡ true) → n < m → raised a by n < raised b by m
raised_rises true true by n m so less = omega arith
raised_rises true false by n m so less = absurd (cc (so refl))
raised_rises false true by n m so less = omega arith
raised_rises false false by n m so less = less

raised_above : (a b : Bool) (n m : ℕ) → a ≡ false → b ≡ true → raised a n n < raised b n m
raised_above true b n m e f = absurd cc
raised_above false true n m e f = omega arith
raised_above false false n m e f = absurd cc

rank_rises : (edges : List Edge) → Unwalked edges → (d : Edge) → Contains edges d → rank edges d.from < rank edges d.to
rank_rises [] none d there = absurd (contains_none d there)
rank_rises (e ∷ edges) none d there =
    elim (first_or_further e edges d there) [
      | inl is ↦ subst (λ d. rank (e ∷ edges) d.from < rank (e ∷ edges) d.to) is
          (raised_above (leads edges e.to e.from) (leads edges e.to e.to) (rank edges e.from) (rank edges e.to)
          (false_from_ne_true (leads edges e.to e.from) (λ so.
          let back = walk_there edges e.to e.from so in none (e ∷ back.0) (contains_first e edges, more_walk e edges e.to back.0 e.from back.1)))
          (leads_itself edges e.to))
      | inr later ↦ raised_rises (leads edges e.to d.from) (leads edges e.to d.to) (rank edges e.from) (rank edges d.from) (rank edges d.to)
          (leads_on edges d later e.to) (rank_rises edges (fewer_unwalked e edges none) d later)
    ]

-- ---- as lists

-- the values of the function below the number
abbrev values : (ℕ → ℕ) → ℕ → List ℕ
values f zero = []
values f (suc n) = f 0 ∷ values (λ k. f (suc k)) n

value_at : (f : ℕ → ℕ) (n k : ℕ) → k < n → slice_index (values f n) k ≡ f k
value_at f zero k less = absurd (omega arith)
value_at f (suc n) zero less = refl
value_at f (suc n) (suc k) less = value_at (λ k. f (suc k)) n k (omega arith)

-- more than all nodes that the edges name
abbrev bound : List Edge → ℕ
bound [] = 0
bound (e ∷ edges) = suc (e.from + (e.to + bound edges))

within : (edges : List Edge) (d : Edge) → Contains edges d → (d.from < bound edges) × (d.to < bound edges)
within [] d there = absurd (contains_none d there)
within (e ∷ edges) d there =
    elim (first_or_further e edges d there) [
      | inl is ↦ subst (λ d. (d.from < bound (e ∷ edges)) × (d.to < bound (e ∷ edges))) is (omega arith, omega arith)
      | inr later ↦ let rest = within edges d later in let one = rest.0 in let other = rest.1 in (omega arith, omega arith)
    ]

pub unwalked_have_ranks : UnwalkedHaveRanks
unwalked_have_ranks edges none = record {
  ranks = values (rank edges) (bound edges);
  rises = λ d there.
      let inside = within edges d there in
      let from : slice_index (values (rank edges) (bound edges)) d.from ≡ rank edges d.from = value_at (rank edges) (bound edges) d.from inside.0 in
      let to : slice_index (values (rank edges) (bound edges)) d.to ≡ rank edges d.to = value_at (rank edges) (bound edges) d.to inside.1 in
      let rises = rank_rises edges none d there in omega arith;
}
