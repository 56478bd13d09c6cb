-- The listed flows of a body are its data edges.
use Rattle.std.proofs.Common.{◌≡◌, Bool, true, false, ◌&&◌, cond, ◌⊎◌, inl, inr, List, [], ◌∷◌, ◌++◌, refl, ap, sym, ◌∙◌}
use Rattle.std.proofs.lemmas.Bool.{and_from, and_parts, or_left, or_right}
use Rattle.bl_tree.proofs.Basics.{either_of, false_not_true}
use Rattle.bl_tree.specs.Static.{meets}
use Rattle.bl_graph_nodes.specs.Laws.{NodesDiffer}
use Rattle.bl_graph_nodes.specs.Nodes.{Node, node_reads, node_writes}
use Rattle.bl_graph_nodes.specs.Plain.{Act, Again, Await, Block, Bodies, Body, Cobegin, Done, If, Last, Plain, Repeat, Run, Then, Until, When, While}
use Rattle.bl_graph_nodes.specs.Plain.{plain_block}
use Rattle.bl_graph.specs.DataEdges.{Across, Beside, BesideAll, BesideEach, Touches}
use Rattle.bl_graph.specs.Edges.{In, InEach}
use Rattle.bl_graph.specs.Laws.{FlowsAreListed}
use Rattle.bl_graph.specs.Listed.{Pair, across, between, flows_in, flows_in_each, flows_of, in_same_phase, pair, touching}
use Rattle.bl_graph.specs.Marks.{Mark, Marked, again_by, moved, part_in, part_of, parts_of, some_of}
use Rattle.bl_graph.proofs.Enclosing.{FullEach, all_differ, body_differs, branches_differ, depth_in, first_differ, full_each, full_in, moved_differ}
use Rattle.bl_graph.proofs.Enclosing.{second_differ, surface_in}
use Rattle.bl_graph.proofs.Filling.{FullIn}
use Rattle.bl_graph.proofs.Listing.{HasPair, at_pair, maybe_pair, p_cases, p_left, p_right, pair_at, pair_maybe}
use Rattle.bl_graph.proofs.Marking.{At, Differ, Is, is_cases, is_left, is_right, names, pick}
use Rattle.bl_graph.proofs.Sounding.{sound_in}
use Rattle.bl_graph.proofs.Marking.{is_later}

-- ---- branches

in_is : (deep : Bool) (body : Block) → FullIn body → (n : Node) → In deep body n → Is deep (part_in body).nodes n
in_is false body full n h = surface_in body full n h
in_is true body full n h = depth_in body full n h

is_of : (deep : Bool) (body : Block) (n : Node) → Is deep (part_in body).nodes n → In deep body n
is_of false body n is = (sound_in body).surface n is
is_of true body n is = (sound_in body).depth n is

in_each_is : (deep : Bool) (bodies : Bodies) → FullEach bodies → (n : Node) → InEach deep bodies n → Is deep (parts_of bodies).nodes n
in_each_is deep Last fulls n h = elim h [ ]
in_each_is deep (Body weak body rest) fulls n (inl h) = is_left deep (part_in body).nodes (parts_of rest).nodes n (in_is deep body fulls.0 n h)
in_each_is deep (Body weak body rest) fulls n (inr h) = is_right deep (part_in body).nodes (parts_of rest).nodes n (in_each_is deep rest fulls.1 n h)

is_of_each : (deep : Bool) (bodies : Bodies) (n : Node) → Is deep (parts_of bodies).nodes n → InEach deep bodies n
is_of_each deep Last n is = absurd is.there
is_of_each deep (Body weak body rest) n is = elim (is_cases deep (part_in body).nodes (parts_of rest).nodes n is) [
  | inl a ↦ inl (is_of deep body n a)
  | inr b ↦ inr (is_of_each deep rest n b)
]

-- ---- pairs across

-- one is of the first list and the other of the second, both in the surface or both in the depth
abbrev Sides : Bool → List Marked → List Marked → Node → Node → Type 0
Sides deep xs ys n m = (Is deep xs n × Is deep ys m) ⊎ (Is deep ys n × Is deep xs m)

abbrev Either : List Marked → List Marked → Node → Node → Type 0
Either xs ys n m = (Sides false xs ys n m ⊎ Sides true xs ys n m) × Touches n m

sides_more : (deep : Bool) (xs vs ys ws : List Marked) (n m : Node) → ((k : Node) → Is deep xs k → Is deep vs k) →
    ((k : Node) → Is deep ys k → Is deep ws k) →
    Sides deep xs ys n m → Sides deep vs ws n m
sides_more deep xs vs ys ws n m one two (inl h) = inl (one n h.0, two m h.1)
sides_more deep xs vs ys ws n m one two (inr h) = inr (two n h.0, one m h.1)

either_more : (xs vs ys ws : List Marked) (n m : Node) → ((deep : Bool) (k : Node) → Is deep xs k → Is deep vs k) →
    ((deep : Bool) (k : Node) → Is deep ys k → Is deep ws k) → Either xs ys n m → Either vs ws n m
either_more xs vs ys ws n m one two h = (
  elim h.0 [
    | inl a ↦ inl (sides_more false xs vs ys ws n m (one false) (two false) a)
    | inr b ↦ inr (sides_more true xs vs ys ws n m (one true) (two true) b)
  ],
  h.1,
)

first_is : (deep : Bool) (a : Marked) (xs : List Marked) (k : Node) → Is deep (a ∷ []) k → Is deep (a ∷ xs) k
first_is deep a xs k is = is_left deep (a ∷ []) xs k is

touches : (x y n m : Node) → n ≡ x → m ≡ y → Touches x y → Touches n m
touches x y n m one two t = ap (λ k. meets (node_writes k) (node_reads m)) one ∙ ap (λ k. meets (node_writes x) (node_reads k)) two ∙ t

from_touching : (x y n m : Node) → HasPair (touching x y) n m → (n ≡ x) × (m ≡ y) × Touches n m
from_touching x y n m h =
    let is = maybe_pair (meets (node_writes x) (node_reads y)) (pair x y) n m h in (is.1, is.2, touches x y n m is.1 is.2 is.0)

to_touching : (x y n m : Node) → n ≡ x → m ≡ y → Touches n m → HasPair (touching x y) n m
to_touching x y n m one two t =
    pair_maybe (meets (node_writes x) (node_reads y)) (pair x y) n m (touches n m x y (sym one) (sym two) t) one two

at_is : (deep : Bool) (a : Marked) (n : Node) → n ≡ a.node → (mark : Bool) → mark ≡ true → mark ≡ pick deep a.mark → Is deep (a ∷ []) n
at_is false a n same mark so is = record { mark = a.mark; there = inl (same, refl); so = sym is ∙ so }
at_is true a n same mark so is = record { mark = a.mark; there = inl (same, refl); so = sym is ∙ so }

-- two nodes that are together
two_sides : (a b : Marked) (n m : Node) → in_same_phase a.mark b.mark ≡ true → ((n ≡ a.node) × (m ≡ b.node)) ⊎ ((n ≡ b.node) × (m ≡ a.node)) →
    Sides false (a ∷ []) (b ∷ []) n m ⊎ Sides true (a ∷ []) (b ∷ []) n m
two_sides a b n m so same = elim (either_of (a.mark.surface && b.mark.surface) (a.mark.depth && b.mark.depth) so) [
  | inl one ↦ let both = and_parts a.mark.surface b.mark.surface one in inl (elim same [
    | inl is ↦ inl (at_is false a n is.0 a.mark.surface both.0 refl, at_is false b m is.1 b.mark.surface both.1 refl)
    | inr is ↦ inr (at_is false b n is.0 b.mark.surface both.1 refl, at_is false a m is.1 a.mark.surface both.0 refl)
  ])
  | inr one ↦ let both = and_parts a.mark.depth b.mark.depth one in inr (elim same [
    | inl is ↦ inl (at_is true a n is.0 a.mark.depth both.0 refl, at_is true b m is.1 b.mark.depth both.1 refl)
    | inr is ↦ inr (at_is true b n is.0 b.mark.depth both.1 refl, at_is true a m is.1 a.mark.depth both.0 refl)
  ])
]

from_pair : (a b : Marked) (test : Bool) (n m : Node) → test ≡ in_same_phase a.mark b.mark →
    HasPair (cond test (touching a.node b.node ++ touching b.node a.node) []) n m → Either (a ∷ []) (b ∷ []) n m
from_pair a b true n m is h = elim (p_cases (touching a.node b.node) (touching b.node a.node) n m h) [
  | inl one ↦ let t = from_touching a.node b.node n m one in (two_sides a b n m (sym is) (inl (t.0, t.1)), t.2)
  | inr one ↦ let t = from_touching b.node a.node n m one in (two_sides a b n m (sym is) (inr (t.0, t.1)), t.2)
]
from_pair a b false n m is h = elim h [ ]

from_between : (a : Marked) (ys : List Marked) (n m : Node) → HasPair (between a ys) n m → Either (a ∷ []) ys n m
from_between a [] n m h = elim h [ ]
from_between a (b ∷ ys) n m h =
    elim (p_cases (cond (in_same_phase a.mark b.mark) (touching a.node b.node ++ touching b.node a.node) []) (between a ys) n m h) [
      | inl one ↦ either_more (a ∷ []) (a ∷ []) (b ∷ []) (b ∷ ys) n m (λ deep k is. is) (λ deep k is. first_is deep b ys k is)
          (from_pair a b (in_same_phase a.mark b.mark) n m refl one)
      | inr more ↦ either_more (a ∷ []) (a ∷ []) ys (b ∷ ys) n m (λ deep k is. is) (λ deep k is. is_later deep b ys k is) (from_between a ys n m more)
    ]

from_across : (xs ys : List Marked) (n m : Node) → HasPair (across xs ys) n m → Either xs ys n m
from_across [] ys n m h = elim h [ ]
from_across (a ∷ xs) ys n m h = elim (p_cases (between a ys) (across xs ys) n m h) [
  | inl one ↦ either_more (a ∷ []) (a ∷ xs) ys ys n m (λ deep k is. first_is deep a xs k is) (λ deep k is. is) (from_between a ys n m one)
  | inr more ↦ either_more xs (a ∷ xs) ys ys n m (λ deep k is. is_later deep a xs k is) (λ deep k is. is) (from_across xs ys n m more)
]

same_test : (test : Bool) (ps : List Pair) (n m : Node) → test ≡ true → HasPair ps n m → HasPair (cond test ps []) n m
same_test true ps n m is h = h
same_test false ps n m is h = absurd (false_not_true is)

-- the marks of two nodes that are together
marks_together : (deep : Bool) (j k : Mark) → pick deep j ≡ true → pick deep k ≡ true → in_same_phase j k ≡ true
marks_together false j k one two = or_left (j.surface && k.surface) (j.depth && k.depth) (and_from j.surface k.surface one two)
marks_together true j k one two = or_right (j.surface && k.surface) (j.depth && k.depth) (and_from j.depth k.depth one two)

to_between : (a : Marked) (ys : List Marked) (y n m : Node) (k : Mark) → At ys y k → in_same_phase a.mark k ≡ true →
    ((n ≡ a.node) × (m ≡ y)) ⊎ ((n ≡ y) × (m ≡ a.node)) → Touches n m → HasPair (between a ys) n m
to_between a [] y n m k there so same t = elim there [ ]
to_between a (b ∷ ys) y n m k (inl h) so same t =
    let both = touching a.node b.node ++ touching b.node a.node in
    p_left (cond (in_same_phase a.mark b.mark) both []) (between a ys) n m
    (same_test (in_same_phase a.mark b.mark) both n m (sym (ap (in_same_phase a.mark) h.1) ∙ so) (elim same [
      | inl is ↦ p_left (touching a.node b.node) (touching b.node a.node) n m (to_touching a.node b.node n m is.0 (is.1 ∙ h.0) t)
      | inr is ↦ p_right (touching a.node b.node) (touching b.node a.node) n m (to_touching b.node a.node n m (is.0 ∙ h.0) is.1 t)
    ]))
to_between a (b ∷ ys) y n m k (inr h) so same t =
    p_right (cond (in_same_phase a.mark b.mark) (touching a.node b.node ++ touching b.node a.node) []) (between a ys) n m (to_between a ys y n m k h so same t)

to_across : (xs ys : List Marked) (x y n m : Node) (j k : Mark) → At xs x j → At ys y k → in_same_phase j k ≡ true →
    ((n ≡ x) × (m ≡ y)) ⊎ ((n ≡ y) × (m ≡ x)) → Touches n m → HasPair (across xs ys) n m
to_across [] ys x y n m j k one two so same t = elim one [ ]
to_across (a ∷ xs) ys x y n m j k (inl h) two so same t =
    p_left (between a ys) (across xs ys) n m (to_between a ys y n m k two (sym (ap (λ i. in_same_phase i k) h.1) ∙ so) (elim same [
      | inl is ↦ inl (is.0 ∙ h.0, is.1)
      | inr is ↦ inr (is.0, is.1 ∙ h.0)
    ]) t)
to_across (a ∷ xs) ys x y n m j k (inr h) two so same t =
    p_right (between a ys) (across xs ys) n m (to_across xs ys x y n m j k h two so same t)

sides_across : (deep : Bool) (xs ys : List Marked) (n m : Node) → Sides deep xs ys n m → Touches n m → HasPair (across xs ys) n m
sides_across deep xs ys n m (inl h) t =
    to_across xs ys n m n m h.0.mark h.1.mark h.0.there h.1.there (marks_together deep h.0.mark h.1.mark h.0.so h.1.so) (inl (refl, refl)) t
sides_across deep xs ys n m (inr h) t =
    to_across xs ys m n n m h.1.mark h.0.mark h.1.there h.0.there (marks_together deep h.1.mark h.0.mark h.1.so h.0.so) (inr (refl, refl)) t

-- ---- across branches

sides_of : (deep : Bool) (body : Block) (rest : Bodies) (n m : Node) → Sides deep (part_in body).nodes (parts_of rest).nodes n m →
    Across (In deep body) (InEach deep rest) n m
sides_of deep body rest n m (inl h) = inl (is_of deep body n h.0, is_of_each deep rest m h.1)
sides_of deep body rest n m (inr h) = inr (is_of_each deep rest n h.0, is_of deep body m h.1)

of_sides : (deep : Bool) (body : Block) (rest : Bodies) → FullIn body → FullEach rest → (n m : Node) → Across (In deep body) (InEach deep rest) n m →
    Sides deep (part_in body).nodes (parts_of rest).nodes n m
of_sides deep body rest full fulls n m (inl h) = inl (in_is deep body full n h.0, in_each_is deep rest fulls m h.1)
of_sides deep body rest full fulls n m (inr h) = inr (in_each_is deep rest fulls n h.0, in_is deep body full m h.1)

mutual
  listed_flow : (s : Plain) (n m : Node) → HasPair (flows_of s) n m → Beside s n m × Touches n m
  listed_flow (Act l s) n m h = elim h [ ]
  listed_flow (Await l at e) n m h = elim h [ ]
  listed_flow (Run l at target a inputs outputs) n m h = elim h [ ]
  listed_flow (If l at e body other) n m h = elim (p_cases (flows_in body) (flows_in other) n m h) [
    | inl a ↦ let both = listed_flows body n m a in (inl both.0, both.1)
    | inr b ↦ let both = listed_flows other n m b in (inr both.0, both.1)
  ]
  listed_flow (Cobegin l at bodies) n m h = listed_flows_each bodies n m h
  listed_flow (When l at guard e body) n m h = listed_flows body n m h
  listed_flow (Repeat l at body) n m h = listed_flows body n m h
  listed_flow (Until l at body e) n m h = listed_flows body n m h
  listed_flow (While l at e body) n m h = listed_flows body n m h
  listed_flow (Again l at body e) n m h = listed_flows body n m h

  listed_flows : (body : Block) (n m : Node) → HasPair (flows_in body) n m → BesideAll body n m × Touches n m
  listed_flows Done n m h = elim h [ ]
  listed_flows (Then s rest) n m h = elim (p_cases (flows_of s) (flows_in rest) n m h) [
    | inl a ↦ let both = listed_flow s n m a in (inl both.0, both.1)
    | inr b ↦ let both = listed_flows rest n m b in (inr both.0, both.1)
  ]

  listed_flows_each : (bodies : Bodies) (n m : Node) → HasPair (flows_in_each bodies) n m → BesideEach bodies n m × Touches n m
  listed_flows_each Last n m h = elim h [ ]
  listed_flows_each (Body weak body rest) n m h =
      let pairs = across (part_in body).nodes (parts_of rest).nodes in
      elim (p_cases (flows_in body) (pairs ++ flows_in_each rest) n m h) [
        | inl a ↦ let both = listed_flows body n m a in (inl both.0, both.1)
        | inr more ↦ elim (p_cases pairs (flows_in_each rest) n m more) [
          | inl b ↦ let is = from_across (part_in body).nodes (parts_of rest).nodes n m b in (
            elim is.0 [
              | inl c ↦ inr (inl (sides_of false body rest n m c))
              | inr c ↦ inr (inr (inl (sides_of true body rest n m c)))
            ],
            is.1,
          )
          | inr b ↦ let both = listed_flows_each rest n m b in (inr (inr (inr both.0)), both.1)
        ]
      ]

mutual
  flow_listed : (s : Plain) → Differ (names (part_of s).nodes) → (n m : Node) → Beside s n m → Touches n m → HasPair (flows_of s) n m
  flow_listed (Act l s) d n m h t = elim h [ ]
  flow_listed (Await l at e) d n m h t = elim h [ ]
  flow_listed (Run l at target a inputs outputs) d n m h t = elim h [ ]
  flow_listed (If l at e body other) d n m (inl h) t =
      p_left (flows_in body) (flows_in other) n m (flows_listed body (first_differ (part_in body).nodes (part_in other).nodes d.1) n m h t)
  flow_listed (If l at e body other) d n m (inr h) t =
      p_right (flows_in body) (flows_in other) n m (flows_listed other (second_differ (part_in body).nodes (part_in other).nodes d.1) n m h t)
  flow_listed (Cobegin l at bodies) d n m h t = flows_each_listed bodies (branches_differ l at bodies d) n m h t
  flow_listed (When l at guard e body) d n m h t = flows_listed body (body_differs l at guard e body d) n m h t
  flow_listed (Repeat l at body) d n m h t = flows_listed body (moved_differ (again_by (some_of (part_in body).outs)) (part_in body).nodes d.1) n m h t
  flow_listed (Until l at body e) d n m h t = flows_listed body (moved_differ (again_by (some_of (part_in body).outs)) (part_in body).nodes d.1.1) n m h t
  flow_listed (While l at e body) d n m h t = flows_listed body (moved_differ (again_by (some_of (part_in body).outs)) (part_in body).nodes d.1) n m h t
  flow_listed (Again l at body e) d n m h t = flows_listed body (moved_differ (again_by (some_of (part_in body).outs)) (part_in body).nodes d.1.1) n m h t

  flows_listed : (body : Block) → Differ (names (part_in body).nodes) → (n m : Node) → BesideAll body n m → Touches n m → HasPair (flows_in body) n m
  flows_listed Done d n m h t = elim h [ ]
  flows_listed (Then s rest) d n m (inl h) t = p_left (flows_of s) (flows_in rest) n m
      (flow_listed s (first_differ (part_of s).nodes (moved (some_of (part_of s).outs) (part_in rest).nodes) d) n m h t)
  flows_listed (Then s rest) d n m (inr h) t = p_right (flows_of s) (flows_in rest) n m
      (flows_listed rest (moved_differ (some_of (part_of s).outs) (part_in rest).nodes
      (second_differ (part_of s).nodes (moved (some_of (part_of s).outs) (part_in rest).nodes) d)) n m h t)

  flows_each_listed : (bodies : Bodies) → Differ (names (parts_of bodies).nodes) → (n m : Node) → BesideEach bodies n m → Touches n m →
      HasPair (flows_in_each bodies) n m
  flows_each_listed Last d n m h t = elim h [ ]
  flows_each_listed (Body weak body rest) d n m h t =
      let pairs = across (part_in body).nodes (parts_of rest).nodes in
      let db = first_differ (part_in body).nodes (parts_of rest).nodes d in
      let dr = second_differ (part_in body).nodes (parts_of rest).nodes d in
      elim h [
        | inl a ↦ p_left (flows_in body) (pairs ++ flows_in_each rest) n m (flows_listed body db n m a t)
        | inr h1 ↦ p_right (flows_in body) (pairs ++ flows_in_each rest) n m (elim h1 [
          | inl b ↦ p_left pairs (flows_in_each rest) n m (sides_across false (part_in body).nodes (parts_of rest).nodes n m
              (of_sides false body rest (full_in body db) (full_each rest dr) n m b) t)
          | inr h2 ↦ elim h2 [
            | inl b ↦ p_left pairs (flows_in_each rest) n m (sides_across true (part_in body).nodes (parts_of rest).nodes n m
                (of_sides true body rest (full_in body db) (full_each rest dr) n m b) t)
            | inr b ↦ p_right pairs (flows_in_each rest) n m (flows_each_listed rest dr n m b t)
          ]
        ])
      ]

pub flows_are_listed : NodesDiffer → FlowsAreListed
flows_are_listed differ body at n m = (
  λ there. listed_flows (plain_block body at) n m (at_pair (flows_in (plain_block body at)) n m there),
  λ edge. pair_at (flows_in (plain_block body at)) n m
      (flows_listed (plain_block body at) (all_differ (plain_block body at) (differ.blocks body at)) n m edge.0 edge.1),
)
