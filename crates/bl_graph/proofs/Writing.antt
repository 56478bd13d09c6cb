-- What may be written before the next pause is written at a node that is reached from the entry.
use Rattle.std.proofs.Common.{◌≡◌, ◌<◌, Bool, true, false, cond, inl, inr, List, [], refl, arith}
use Rattle.std.specs.Prelude.{Contains}
use Rattle.std.proofs.lemmas.List.Elements.{Contains-append_cases}
use Rattle.bl_tree.specs.declared.place.Place.{Place}
use Rattle.bl_tree.specs.declared.static_path.Static.{Static}
use Rattle.bl_graph_nodes.specs.Nodes.{ActAt, EnterAt, ForkAt, HeadAt, Node, StartAt, TestAt, arguments_of, entry, is_instant, node_writes}
use Rattle.bl_graph_nodes.specs.Plain.{Act, Again, Await, Block, Bodies, Body, Cobegin, Done, If, Label, Last, Plain, Repeat, Run, Then, Until, When, While}
use Rattle.bl_graph_nodes.specs.Writes.{surface_writes, surface_writes_in, surface_writes_in_each}
use Rattle.bl_graph.specs.Edges.{EdgeAll, EdgeEach, Entry}
use Rattle.bl_graph.specs.Laws.{WayThrough, WayToWriter, WriterIn, WritersAreReached}
use Rattle.bl_graph.specs.Walks.{Walk, on, stay}
use Rattle.bl_graph.proofs.Passing.{later, passes}
use Rattle.bl_graph.proofs.Walking.{walk_more, walk_on}

pub none_in_nothing : (path : Static) → Contains [] path → ⊥
none_in_nothing path h = let lt : h.0 < 0 = h.1 in omega arith

where_contained : (test : Bool) (paths : List Static) (path : Static) → Contains (cond test paths []) path → (test ≡ true) × Contains paths path
where_contained true paths path h = (refl, h)
where_contained false paths path h = absurd (none_in_nothing path h)

-- a walk in branches from their fork to a writer
record WayInto (bodies : Bodies) (l : Label) (at : Place) (so : Bool) (path : Static) : Type 0 where
  writer : Node
  walk : Walk (EdgeEach bodies l at so) (ForkAt l at) writer
  writes : Contains (node_writes writer) path

-- one step to a block, and on in it
into_block : {E : Node → Node → Type 0} (body : Block) (first : Node) (path : Static) → ((n m : Node) → EdgeAll body n m → E n m) →
    ((m : Node) → Entry body m → E first m) → (way : WriterIn body path) → Walk E first way.writer
into_block body first path inside begins way =
    on first way.is_reached.from way.writer (begins way.is_reached.from way.is_reached.begins) (walk_more inside way.is_reached.walk)

first_writes : (s : Plain) (rest : Block) (path : Static) → WayToWriter s path → WriterIn (Then s rest) path
first_writes s rest path way = record {
  writer = way.writer;
  is_reached = record { from = entry s; begins = refl; walk = walk_more (λ n m h. inl h) way.walk };
  writes = way.writes;
}

rest_writes : (s : Plain) (rest : Block) (path : Static) → WayThrough s → WriterIn rest path → WriterIn (Then s rest) path
rest_writes s rest path way further = record {
  writer = further.writer;
  is_reached = record {
    from = entry s;
    begins = refl;
    walk = walk_on (walk_more (λ n m h. inl h) way.walk)
        (into_block rest way.end path (λ n m h. inr (inl h)) (λ m h. inr (inr (way.leads_on, h))) further);
  };
  writes = further.writes;
}

mutual
  written : (s : Plain) (path : Static) → Contains (surface_writes s) path → WayToWriter s path
  written (Act l s) path h = record { writer = ActAt l s; walk = stay (ActAt l s); writes = h }
  written (Await l at e) path h = absurd (none_in_nothing path h)
  written (Run l at target a inputs outputs) path h =
      let n = EnterAt l at (arguments_of target inputs outputs) in record { writer = n; walk = stay n; writes = h }
  written (If l at e body other) path h = elim (Contains-append_cases (surface_writes_in body) (surface_writes_in other) path h) [
    | inl one ↦ let way = written_in body path one in
        record { writer = way.writer; walk = into_block body (TestAt l at e) path (λ n m h. inl h) (λ m h. inr (inr (refl, inl h))) way; writes = way.writes }
    | inr one ↦ let way = written_in other path one in record {
      writer = way.writer;
      walk = into_block other (TestAt l at e) path (λ n m h. inr (inl h)) (λ m h. inr (inr (refl, inr h))) way;
      writes = way.writes;
    }
  ]
  written (Cobegin l at bodies) path h =
      let way = written_in_each bodies path l at (is_instant (Cobegin l at bodies)) h in
      record { writer = way.writer; walk = way.walk; writes = way.writes }
  written (When l at guard e body) path h = let way = written_in body path h in
      record { writer = way.writer; walk = into_block body (StartAt l at) path (λ n m h. inl h) (λ m h. inr (inl (refl, inl h))) way; writes = way.writes }
  written (Repeat l at body) path h = let way = written_in body path h in
      record { writer = way.writer; walk = into_block body (HeadAt l at) path (λ n m h. inl h) (λ m h. inr (inl (refl, inl h))) way; writes = way.writes }
  written (Until l at body e) path h = let way = written_in body path h in record {
    writer = way.writer;
    walk = into_block body (HeadAt l at) path (λ n m h. inl h) (λ m h. inr (inl (inl (refl, inl h)))) way;
    writes = way.writes;
  }
  written (While l at e body) path h = let way = written_in body path h in
      record { writer = way.writer; walk = into_block body (TestAt l at e) path (λ n m h. inl h) (λ m h. inr (inl (refl, inl h))) way; writes = way.writes }
  written (Again l at body e) path h = let way = written_in body path h in record {
    writer = way.writer;
    walk = on (TestAt l at e) (HeadAt l at) way.writer (inr (inr (refl, refl)))
        (into_block body (HeadAt l at) path (λ n m h. inl h) (λ m h. inr (inl (inl (refl, inl h)))) way);
    writes = way.writes;
  }

  written_in : (body : Block) (path : Static) → Contains (surface_writes_in body) path → WriterIn body path
  written_in Done path h = absurd (none_in_nothing path h)
  written_in (Then s rest) path h =
      elim (Contains-append_cases (surface_writes s) (cond (is_instant s) (surface_writes_in rest) []) path h) [
        | inl one ↦ first_writes s rest path (written s path one)
        | inr one ↦ let so = where_contained (is_instant s) (surface_writes_in rest) path one in
            rest_writes s rest path (passes s so.0) (written_in rest path so.1)
      ]

  written_in_each : (bodies : Bodies) (path : Static) (l : Label) (at : Place) (so : Bool) → Contains (surface_writes_in_each bodies) path →
      WayInto bodies l at so path
  written_in_each Last path l at so h = absurd (none_in_nothing path h)
  written_in_each (Body weak body rest) path l at so h =
      elim (Contains-append_cases (surface_writes_in body) (surface_writes_in_each rest) path h) [
        | inl one ↦ let way = written_in body path one in
            record {
              writer = way.writer;
              walk = into_block body (ForkAt l at) path (λ n m h. inl h) (λ m h. inr (inl (refl, inl h))) way;
              writes = way.writes;
            }
        | inr one ↦ let way = written_in_each rest path l at so one in
            record { writer = way.writer; walk = walk_more (later weak body rest l at so) way.walk; writes = way.writes }
      ]

pub writers_are_reached : WritersAreReached
writers_are_reached = record { statements = written; blocks = written_in }
