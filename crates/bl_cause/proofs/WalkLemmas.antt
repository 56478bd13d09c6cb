-- Walks, one after another and turned; numbers along them; closed walks with and without data edges.
use Rattle.std.proofs.Common.{◌≡◌, ℕ, ◌≤◌, Bool, true, false, not, List, [], ◌∷◌, ◌++◌, ◌⊎◌, inl, inr, ⊎_elim, refl, sym, ap, subst, ◌∙◌, arith}
use Rattle.std.specs.Prelude.{Contains, slice_index}
use Rattle.std.proofs.lemmas.Bool.{not-true}
use Rattle.bl_tree.proofs.Basics.{contains_first, contains_further, contains_none, first_or_further}
use Rattle.bl_tree.specs.declared.graph.Edge.{Edge}
use Rattle.bl_graph.specs.declared.tick_graph.Graph.{Graph}
use Rattle.bl_tree.specs.declared.graph.Node.{Node}
use Rattle.bl_cause.specs.Fails.{BeginsWalk, FailsCycle, FailsTwice, Never, place_at, places_of}
use Rattle.bl_cause.specs.Ranks.{Ranks}
use Rattle.bl_cause.specs.Walks.{ClosedWalk, EdgeWalk, controls}
use Rattle.bl_cause.specs.inner.Numbers.{NeverFall}
use Rattle.bl_cause.specs.inner.Orders.{Reaches}
use Rattle.bl_cause.proofs.ListLemmas.{filter_keeps, filter_there, filter_true}

module _ (edges : List Edge) where
  -- a walk goes on where another ends
  pub walk_append : (first middle last : ℕ) (one other : List Edge) → EdgeWalk edges first one middle → EdgeWalk edges middle other last →
      EdgeWalk edges first (one ++ other) last
  walk_append first middle last [] other a b = subst (λ node. EdgeWalk edges node other last) (sym a) b
  walk_append first middle last (edge ∷ one) other a b = (a.0, a.1, walk_append edge.to middle last one other a.2 b)

  pub reaches_itself : (node : ℕ) → Reaches edges node node
  reaches_itself node = ([], refl)

  pub reaches_then : (first middle last : ℕ) → Reaches edges first middle → Reaches edges middle last → Reaches edges first last
  reaches_then first middle last one other = (one.0 ++ other.0, walk_append first middle last one.0 other.0 one.1 other.1)

  pub reaches_edge : (edge : Edge) → Contains edges edge → Reaches edges edge.from edge.to
  reaches_edge edge there = (edge ∷ [], (there, refl, refl))

  -- an edge whose end leads back to its beginning begins a closed walk
  pub closed_from : (edge : Edge) → Contains edges edge → Reaches edges edge.to edge.from → (rest : List Edge) × ClosedWalk edges (edge ∷ rest)
  closed_from edge there back = (back.0, (there, back.1))

  -- each edge of a walk is one of the edges, and the walk leads to it and from it
  pub passes : (first last : ℕ) (walk : List Edge) → EdgeWalk edges first walk last → (edge : Edge) → Contains walk edge →
      Contains edges edge × Reaches edges first edge.from × Reaches edges edge.to last
  passes first last [] w edge h = absurd (contains_none edge h)
  passes first last (head ∷ walk) w edge h =
      ⊎_elim
      (λ (is : head ≡ edge).
      subst (λ it. Contains edges it × Reaches edges first it.from × Reaches edges it.to last) is
      (w.0, ([], sym w.1), (walk, w.2)))
      (λ (later : Contains walk edge).
      let rest = passes head.to last walk w.2 edge later in
      (rest.0, (head ∷ rest.1.0, (w.0, w.1, rest.1.1)), rest.2))
      (first_or_further head walk edge h)

  -- a closed walk can begin with any of its edges
  pub turn : (walk : List Edge) → ClosedWalk edges walk → (edge : Edge) → Contains walk edge → (rest : List Edge) × ClosedWalk edges (edge ∷ rest)
  turn [] w edge h = absurd (contains_none edge h)
  turn (head ∷ walk) w edge h =
      ⊎_elim
      (λ (is : head ≡ edge). subst (λ it. (rest : List Edge) × ClosedWalk edges (it ∷ rest)) is (walk, w))
      (λ (later : Contains walk edge).
      let at = passes head.to head.from walk w.1 edge later in
      let front : Reaches edges head.from edge.from = reaches_then head.from head.to edge.from (reaches_edge head w.0) at.1 in
      closed_from edge at.0 (reaches_then edge.to head.from edge.from at.2 front))
      (first_or_further head walk edge h)

  -- ---- numbers

  pub walk_rises : (ranks : List ℕ) → Ranks edges ranks → (first last : ℕ) (walk : List Edge) → EdgeWalk edges first walk last →
      slice_index ranks first ≤ slice_index ranks last
  walk_rises ranks rise first last [] w = let e = ap (slice_index ranks) w in omega arith
  walk_rises ranks rise first last (edge ∷ walk) w =
      let e = ap (slice_index ranks) w.1 in
      let up = rise edge w.0 in
      let rest = walk_rises ranks rise edge.to last walk w.2 in
      omega arith

  pub ranks_leave_no_walk : (ranks : List ℕ) → Ranks edges ranks → (walk : List Edge) → ClosedWalk edges walk → ⊥
  ranks_leave_no_walk ranks rise [] w = w
  ranks_leave_no_walk ranks rise (edge ∷ walk) w =
      let up = rise edge w.0 in
      let rest = walk_rises ranks rise edge.to edge.from walk w.1 in
      omega arith

  pub walk_never_falls : (numbers : List ℕ) → NeverFall edges numbers → (first last : ℕ) (walk : List Edge) → EdgeWalk edges first walk last →
      slice_index numbers first ≤ slice_index numbers last
  walk_never_falls numbers keep first last [] w = let e = ap (slice_index numbers) w in omega arith
  walk_never_falls numbers keep first last (edge ∷ walk) w =
      let e = ap (slice_index numbers) w.1 in
      let up = keep edge w.0 in
      let rest = walk_never_falls numbers keep edge.to last walk w.2 in
      omega arith

  -- an edge that begins a closed walk has one number at both ends
  pub closed_is_level : (numbers : List ℕ) → NeverFall edges numbers → (edge : Edge) (rest : List Edge) → ClosedWalk edges (edge ∷ rest) →
      slice_index numbers edge.from ≡ slice_index numbers edge.to
  closed_is_level numbers keep edge rest w =
      let up = keep edge w.0 in
      let back = walk_never_falls numbers keep edge.to edge.from rest w.1 in
      omega arith

-- ---- data edges

-- all edges of the list are control edges, or one of them is by data
data_in : (walk : List Edge) →
    ((edge : Edge) → Contains walk edge → edge.by_data ≡ false) ⊎ ((edge : Edge) × Contains walk edge × (edge.by_data ≡ true))
data_in [] = inl (λ edge h. absurd (contains_none edge h))
data_in (head ∷ walk) =
    elim head.by_data as (λ b. head.by_data ≡ b → ((edge : Edge) → Contains (head ∷ walk) edge →
    edge.by_data ≡ false) ⊎ ((edge : Edge) × Contains (head ∷ walk) edge × (edge.by_data ≡ true))) [
      | true ↦ λ is. inr (head, contains_first head walk, is)
      | false ↦ λ is.
          ⊎_elim
          (λ (none : (edge : Edge) → Contains walk edge → edge.by_data ≡ false).
          inl (λ edge h. ⊎_elim (λ (same : head ≡ edge). sym (ap (λ it. it.by_data) same) ∙ is) (none edge) (first_or_further head walk edge h)))
          (λ (some : (edge : Edge) × Contains walk edge × (edge.by_data ≡ true)). inr (some.0, contains_further head walk some.0 some.1, some.2))
          (data_in walk)
    ] refl

is_control : (edges : List Edge) (edge : Edge) → Contains edges edge → edge.by_data ≡ false → Contains (controls edges) edge
is_control edges edge there is = filter_keeps (λ edge. not edge.by_data) edges edge there (ap not is)

walk_by_controls : (edges : List Edge) (first last : ℕ) (walk : List Edge) → EdgeWalk edges first walk last →
    ((edge : Edge) → Contains walk edge → edge.by_data ≡ false) → EdgeWalk (controls edges) first walk last
walk_by_controls edges first last [] w none = w
walk_by_controls edges first last (head ∷ walk) w none = (
  is_control edges head w.0 (none head (contains_first head walk)),
  w.1,
  walk_by_controls edges head.to last walk w.2 (λ edge h. none edge (contains_further head walk edge h)),
)

-- without a closed walk of control edges, and without one that begins with a data edge, there is none
pub no_walk : (edges : List Edge) → ((edge : Edge) (rest : List Edge) → ClosedWalk (controls edges) (edge ∷ rest) → ⊥) →
    ((edge : Edge) (rest : List Edge) → edge.by_data ≡ true → ClosedWalk edges (edge ∷ rest) → ⊥) → (walk : List Edge) →
    ClosedWalk edges walk → ⊥
no_walk edges control written [] w = w
no_walk edges control written (head ∷ walk) w =
    ⊎_elim
    (λ (none : (edge : Edge) → Contains (head ∷ walk) edge → edge.by_data ≡ false).
    control head walk (
      is_control edges head w.0 (none head (contains_first head walk)),
      walk_by_controls edges head.to head.from walk w.1 (λ edge h. none edge (contains_further head walk edge h)),
    ))
    (λ (some : (edge : Edge) × Contains (head ∷ walk) edge × (edge.by_data ≡ true)).
    let turned = turn edges (head ∷ walk) w some.0 some.1 in
    written some.0 turned.0 some.2 turned.1)
    (data_in (head ∷ walk))

-- every edge of a control walk is a control edge
pub control_is : (edges : List Edge) (edge : Edge) → Contains (controls edges) edge → Contains edges edge
control_is edges edge h = filter_there (λ edge. not edge.by_data) edges edge h

-- ---- the rules

-- where no closed walk begins with an edge of the kind, none does at any place
pub none_begins : (nodes : List Node) (edges : List Edge) (by_data : Bool) → Never (BeginsWalk nodes edges by_data) → (edge : Edge) (rest : List Edge) →
    edge.by_data ≡ by_data → ClosedWalk edges (edge ∷ rest) → ⊥
none_begins nodes edges by_data never edge rest kind closed =
    never (place_at nodes edge.from) (places_of nodes rest)
    (record { edge = edge; rest = rest; kind = kind; closed = closed; at_place = refl; further = refl })

-- neither rule fails: there is no closed walk
pub never_twice_never_cycle : (graph : Graph) → Never (FailsTwice graph) → Never (FailsCycle graph) → (walk : List Edge) →
    ClosedWalk graph.edges walk → ⊥
never_twice_never_cycle graph twice cycle walk closed =
    no_walk graph.edges
    (λ edge rest w.
    none_begins graph.nodes (controls graph.edges) false twice edge rest
    (not-true edge.by_data (filter_true (λ it. not it.by_data) graph.edges edge w.0)) w)
    (λ edge rest kind w. none_begins graph.nodes graph.edges true cycle edge rest kind w) walk closed

walk_of_controls : (edges : List Edge) (first last : ℕ) (walk : List Edge) → EdgeWalk (controls edges) first walk last → EdgeWalk edges first walk last
walk_of_controls edges first last [] w = w
walk_of_controls edges first last (head ∷ walk) w = (control_is edges head w.0, w.1, walk_of_controls edges head.to last walk w.2)

control_kind : (edges : List Edge) (edge : Edge) → Contains (controls edges) edge → edge.by_data ≡ false
control_kind edges edge h = not-true edge.by_data (filter_true (λ it. not it.by_data) edges edge h)

pub controls_closed : (edges walk : List Edge) → ClosedWalk (controls edges) walk →
    ClosedWalk edges walk × ((edge : Edge) → Contains walk edge → edge.by_data ≡ false)
controls_closed edges [] w = absurd w
controls_closed edges (head ∷ walk) w = (
  (control_is edges head w.0, walk_of_controls edges head.to head.from walk w.1),
  λ edge h.
      ⊎_elim (λ (same : head ≡ edge). sym (ap (λ it. it.by_data) same) ∙ control_kind edges head w.0)
      (λ (later : Contains walk edge). control_kind edges edge (passes (controls edges) head.to head.from walk w.1 edge later).0)
      (first_or_further head walk edge h),
)

pub closed_controls : (edges walk : List Edge) → ClosedWalk edges walk →
    ((edge : Edge) → Contains walk edge → edge.by_data ≡ false) → ClosedWalk (controls edges) walk
closed_controls edges [] w none = w
closed_controls edges (head ∷ walk) w none = (
  is_control edges head w.0 (none head (contains_first head walk)),
  walk_by_controls edges head.to head.from walk w.1 (λ edge h. none edge (contains_further head walk edge h)),
)
