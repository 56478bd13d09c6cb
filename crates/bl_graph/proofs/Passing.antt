-- What may end in the tick in which it begins has a way through it.
use Rattle.std.proofs.Common.{◌≡◌, Bool, true, false, ◌&&◌, ◌||◌, cond, ◌⊎◌, inl, inr, refl}
use Rattle.bl_tree.specs.declared.place.Place.{Place}
use Rattle.bl_tree.specs.declared.tree.Expr.{Expr}
use Rattle.bl_graph_nodes.specs.Nodes.{ForkAt, HeadAt, Node, StartAt, SurfaceEndAt, SurfaceJoinAt, TestAt, are_instant, entry, is_instant, some_instant}
use Rattle.bl_graph_nodes.specs.Nodes.{some_strong, strong_instant}
use Rattle.bl_graph_nodes.specs.Plain.{Act, Again, Await, Block, Bodies, Body, Cobegin, Done, If, Label, Last, Plain, Repeat, Run, Then, Until, When, While}
use Rattle.bl_graph_nodes.specs.Plain.{is_empty}
use Rattle.bl_graph.specs.Edges.{Edge, EdgeAll, EdgeEach, Entry, OutAll}
use Rattle.bl_graph.specs.Laws.{InstantsPass, WayThrough, WayThroughAll}
use Rattle.bl_graph.specs.Walks.{Walk, on, stay}
use Rattle.bl_graph.proofs.Walking.{walk_more, walk_on}

-- ---- truth

pub either_is : (a b : Bool) → (a || b) ≡ true → (a ≡ true) ⊎ (b ≡ true)
either_is true b is = inl refl
either_is false b is = inr is

pub both_are : (a b : Bool) → (a && b) ≡ true → (a ≡ true) × (b ≡ true)
both_are true b is = (refl, is)
both_are false b is = cc

-- a choice holds: by its test, or without it
choice_is : (test a b : Bool) → cond test a b ≡ true → ((test ≡ true) × (a ≡ true)) ⊎ ((test ≡ false) × (b ≡ true))
choice_is true a b is = inl (refl, is)
choice_is false a b is = inr (refl, is)

-- ---- statements in more than themselves

-- what is reached in a block leads on to what the whole has an edge to
pub through : {E : Node → Node → Type 0} (body : Block) (first last : Node) → ((n m : Node) → EdgeAll body n m → E n m) →
    ((m : Node) → Entry body m → E first m) → ((n : Node) → OutAll body n → E n last) → WayThroughAll body → Walk E first last
through body first last inside begins ends way =
    on first way.is_reached.from last (begins way.is_reached.from way.is_reached.begins)
    (walk_on (walk_more inside way.is_reached.walk) (on way.end last last (ends way.end way.leads_on) (stay last)))

-- the edges of the branches after the first
pub later : (weak : Bool) (body : Block) (rest : Bodies) (l : Label) (at : Place) (so : Bool) (n m : Node) → EdgeEach rest l at so n m →
    EdgeEach (Body weak body rest) l at so n m
later weak body rest l at so n m h = inr (inr (inr (inr h)))

-- one statement more before a block
one_more : (s : Plain) (rest : Block) → WayThrough s → (is_empty rest ≡ true) ⊎ WayThroughAll rest → WayThroughAll (Then s rest)
one_more s rest way (inl empty) = record {
  end = way.end;
  is_reached = record { from = entry s; begins = refl; walk = walk_more (λ n m h. inl h) way.walk };
  leads_on = inr (empty, way.leads_on);
}
one_more s rest way (inr further) = record {
  end = further.end;
  is_reached = record {
    from = entry s;
    begins = refl;
    walk = walk_on (walk_more (λ n m h. inl h) way.walk)
        (on way.end further.is_reached.from further.end (inr (inr (way.leads_on, further.is_reached.begins)))
        (walk_more (λ n m h. inr (inl h)) further.is_reached.walk));
  };
  leads_on = inl further.leads_on;
}

-- one arm of an `if`, and the other
arm : (l : Label) (at : Place) (e : Expr) (body other : Block) → (is_empty body ≡ true) ⊎ WayThroughAll body → WayThrough (If l at e body other)
arm l at e body other (inl empty) = record { end = TestAt l at e; walk = stay (TestAt l at e); leads_on = inr (inr (inl empty, refl)) }
arm l at e body other (inr way) = record {
  end = way.end;
  walk = on (TestAt l at e) way.is_reached.from way.end (inr (inr (refl, inl way.is_reached.begins))) (walk_more (λ n m h. inl h) way.is_reached.walk);
  leads_on = inl way.leads_on;
}

other_arm : (l : Label) (at : Place) (e : Expr) (body other : Block) → (is_empty other ≡ true) ⊎ WayThroughAll other → WayThrough (If l at e body other)
other_arm l at e body other (inl empty) = record { end = TestAt l at e; walk = stay (TestAt l at e); leads_on = inr (inr (inr empty, refl)) }
other_arm l at e body other (inr way) = record {
  end = way.end;
  walk = on (TestAt l at e) way.is_reached.from way.end (inr (inr (refl, inr way.is_reached.begins)))
      (walk_more (λ n m h. inr (inl h)) way.is_reached.walk);
  leads_on = inr (inl way.leads_on);
}

-- from the fork through one branch to the surface join
branch_pass : (weak : Bool) (body : Block) (rest : Bodies) (l : Label) (at : Place) (so : Bool) → so ≡ true →
    (is_empty body ≡ true) ⊎ WayThroughAll body → Walk (EdgeEach (Body weak body rest) l at so) (ForkAt l at) (SurfaceJoinAt l at)
branch_pass weak body rest l at so is (inl empty) =
    on (ForkAt l at) (SurfaceJoinAt l at) (SurfaceJoinAt l at) (inr (inl (refl, inr (empty, (is, refl))))) (stay (SurfaceJoinAt l at))
branch_pass weak body rest l at so is (inr way) =
    on (ForkAt l at) way.is_reached.from (SurfaceJoinAt l at) (inr (inl (refl, inl way.is_reached.begins)))
    (walk_on (walk_more (λ n m h. inl h) way.is_reached.walk)
    (on way.end (SurfaceJoinAt l at) (SurfaceJoinAt l at) (inr (inr (inl ((way.is_reached, inr way.leads_on), (is, refl))))) (stay (SurfaceJoinAt l at))))

mutual
  pub passes : (s : Plain) → is_instant s ≡ true → WayThrough s
  passes (Act l s) is = record { end = entry (Act l s); walk = stay (entry (Act l s)); leads_on = refl }
  passes (Await l at e) is = cc
  passes (Run l at target a inputs outputs) is = cc
  passes (If l at e body other) is = elim (either_is (are_instant body) (are_instant other) is) [
    | inl one ↦ arm l at e body other (passes_all body one)
    | inr one ↦ other_arm l at e body other (passes_all other one)
  ]
  passes (Cobegin l at bodies) is = record {
    end = SurfaceJoinAt l at;
    walk = elim (choice_is (some_strong bodies) (strong_instant bodies) (some_instant bodies) is) [
      | inl strong ↦ strong_pass bodies l at (is_instant (Cobegin l at bodies)) is strong.0 strong.1
      | inr some ↦ some_pass bodies l at (is_instant (Cobegin l at bodies)) is some.0 some.1
    ];
    leads_on = inl (is, refl);
  }
  passes (When l at guard e body) is = record {
    end = SurfaceEndAt l at;
    walk = elim (passes_all body is) [
      | inl empty ↦ on (StartAt l at) (SurfaceEndAt l at) (SurfaceEndAt l at) (inr (inl (refl, inr (empty, inl (is, refl))))) (stay (SurfaceEndAt l at))
      | inr way ↦ through body (StartAt l at) (SurfaceEndAt l at) (λ n m h. inl h) (λ m h. inr (inl (refl, inl h)))
          (λ n h. inr (inr (inr (inr (h, inl (is, refl)))))) way
    ];
    leads_on = inl (is, refl);
  }
  passes (Repeat l at body) is = cc
  passes (Until l at body e) is = record {
    end = TestAt l at e;
    walk = elim (passes_all body is) [
      | inl empty ↦ on (HeadAt l at) (TestAt l at e) (TestAt l at e) (inr (inl (inl (refl, inr (empty, refl))))) (stay (TestAt l at e))
      | inr way ↦ through body (HeadAt l at) (TestAt l at e) (λ n m h. inl h) (λ m h. inr (inl (inl (refl, inl h)))) (λ n h. inr (inl (inr (h, refl)))) way
    ];
    leads_on = refl;
  }
  passes (While l at e body) is = record { end = TestAt l at e; walk = stay (TestAt l at e); leads_on = refl }
  passes (Again l at body e) is = record { end = TestAt l at e; walk = stay (TestAt l at e); leads_on = refl }

  pub passes_all : (body : Block) → are_instant body ≡ true → (is_empty body ≡ true) ⊎ WayThroughAll body
  passes_all Done is = inl refl
  passes_all (Then s rest) is =
      let both = both_are (is_instant s) (are_instant rest) is in inr (one_more s rest (passes s both.0) (passes_all rest both.1))

  strong_pass : (bodies : Bodies) (l : Label) (at : Place) (so : Bool) → so ≡ true → some_strong bodies ≡ true → strong_instant bodies ≡ true →
      Walk (EdgeEach bodies l at so) (ForkAt l at) (SurfaceJoinAt l at)
  strong_pass Last l at so is strong all = cc
  strong_pass (Body false body rest) l at so is strong all =
      branch_pass false body rest l at so is (passes_all body (both_are (are_instant body) (strong_instant rest) all).0)
  strong_pass (Body true body rest) l at so is strong all = walk_more (later true body rest l at so) (strong_pass rest l at so is strong all)

  some_pass : (bodies : Bodies) (l : Label) (at : Place) (so : Bool) → so ≡ true → some_strong bodies ≡ false → some_instant bodies ≡ true →
      Walk (EdgeEach bodies l at so) (ForkAt l at) (SurfaceJoinAt l at)
  some_pass Last l at so is weak some = cc
  some_pass (Body false body rest) l at so is weak some = cc
  some_pass (Body true body rest) l at so is weak some = elim (either_is (are_instant body) (some_instant rest) some) [
    | inl one ↦ branch_pass true body rest l at so is (passes_all body one)
    | inr others ↦ walk_more (later true body rest l at so) (some_pass rest l at so is weak others)
  ]

pub instants_pass : InstantsPass
instants_pass = record { statements = passes; blocks = passes_all }

-- from the fork of a `cobegin` that may end at once to its surface join
pub joins_at_once : (l : Label) (at : Place) (bodies : Bodies) → is_instant (Cobegin l at bodies) ≡ true →
    Walk (Edge (Cobegin l at bodies)) (ForkAt l at) (SurfaceJoinAt l at)
joins_at_once l at bodies is = elim (choice_is (some_strong bodies) (strong_instant bodies) (some_instant bodies) is) [
  | inl strong ↦ strong_pass bodies l at (is_instant (Cobegin l at bodies)) is strong.0 strong.1
  | inr some ↦ some_pass bodies l at (is_instant (Cobegin l at bodies)) is some.0 some.1
]
