-- The edges of plain statements whose places are mapped: each edge leads between the nodes that were mapped too.
use Rattle.std.proofs.Common.{◌≡◌, ◌⊎◌, inl, inr, Bool, true, false, List, refl, ap, sym, ◌∙◌}
use Rattle.bl_tree.specs.declared.place.Place.{Place}
use Rattle.bl_tree.specs.declared.tree.Guard.{Guard}
use Rattle.bl_tree.specs.declared.tree.Guard.TheVariants.{Abort, Reset}
use Rattle.bl_tree.specs.Static.{meets}
use Rattle.bl_graph.specs.DataEdges.{Across, Beside, BesideAll, BesideEach, DataEdge, Touches}
use Rattle.bl_graph.specs.Edges.{BodyEnd, Edge, EdgeAll, EdgeEach, Entry, Guarded, In, InEach, Into, Joins, LoopEdge, Out, OutAll, Resume, ResumeAll}
use Rattle.bl_graph.specs.Edges.{ResumeEach, SurfaceJoin}
use Rattle.bl_graph.specs.Walks.{Reached, Walk, on, stay}
use Rattle.bl_graph_nodes.specs.Nodes.{Node, are_instant, is_instant}
use Rattle.bl_graph_nodes.specs.Plain.{Act, Again, Await, Block, Bodies, Body, Cobegin, Done, If, Label, Last, Plain, Repeat, Run, Then, Until, When, While}
use Rattle.bl_graph_nodes.specs.Plain.{is_empty}
use Rattle.bl_graph_laws_places.specs.Placed.{placed_block, placed_bodies, placed_node, placed_plain}
use Rattle.bl_graph_laws_places.proofs.Nodes.{block_ends_stay, empty_stays, ends_stay, entry_moves, node_reads_stay, node_writes_stay}

-- ---- walks

pub walk_moves : (h : Node → Node) (E G : Node → Node → Type 0) → ((n m : Node) → E n m → G (h n) (h m)) → {a b : Node} → Walk E a b →
    Walk G (h a) (h b)
walk_moves h E G moves (stay n) = stay (h n)
walk_moves h E G moves (on n by m edge rest) = on (h n) (h by) (h m) (moves n by edge) (walk_moves h E G moves rest)

pub reached_moves : (h : Node → Node) (F H : Node → Type 0) (E G : Node → Node → Type 0) → ((n : Node) → F n → H (h n)) →
    ((n m : Node) → E n m → G (h n) (h m)) → (m : Node) → Reached F E m → Reached H G (h m)
reached_moves h F H E G begins moves m reached = record {
  from = h reached.from;
  begins = begins reached.from reached.begins;
  walk = walk_moves h E G moves reached.walk;
}

module _ (f : Place → Place) where
  abbrev mapped : Node → Node
  mapped = placed_node f

  -- ---- where blocks begin, end, and go on later

  pub block_entry_moves : (body : Block) (n : Node) → Entry body n → Entry (placed_block f body) (mapped n)
  block_entry_moves Done n h = h
  block_entry_moves (Then s rest) n h = ap mapped h ∙ sym (entry_moves f s)

  pub into_moves : (body : Block) (F H : Node → Type 0) → ((n : Node) → F n → H (mapped n)) → (n : Node) → Into body F n →
      Into (placed_block f body) H (mapped n)
  into_moves body F H moves n (inl h) = inl (block_entry_moves body n h)
  into_moves body F H moves n (inr h) = inr (empty_stays f body ∙ h.0, moves n h.1)

  body_end_moves : (l : Label) (at : Place) (body : Block) (n : Node) → BodyEnd l at body n → BodyEnd l (f at) (placed_block f body) (mapped n)
  body_end_moves l at body n (inl h) = inl (block_ends_stay f body ∙ h.0, ap mapped h.1)
  body_end_moves l at body n (inr h) = inr (ap mapped h)

  surface_join_moves : (c b : Bool) (l : Label) (at : Place) → c ≡ b → (n : Node) → SurfaceJoin b l at n → SurfaceJoin c l (f at) (mapped n)
  surface_join_moves c b l at is n h = (is ∙ h.0, ap mapped h.1)

  empty_either : (body other : Block) → (is_empty body ≡ true) ⊎ (is_empty other ≡ true) →
      (is_empty (placed_block f body) ≡ true) ⊎ (is_empty (placed_block f other) ≡ true)
  empty_either body other (inl h) = inl (empty_stays f body ∙ h)
  empty_either body other (inr h) = inr (empty_stays f other ∙ h)

  mutual
    pub out_moves : (s : Plain) (n : Node) → Out s n → Out (placed_plain f s) (mapped n)
    out_moves (Act l s) n h = ap mapped h
    out_moves (Await l at e) n h = ap mapped h
    out_moves (Run l at target a inputs outputs) n h = ap mapped h
    out_moves (If l at e body other) n (inl h) = inl (block_out_moves body n h)
    out_moves (If l at e body other) n (inr (inl h)) = inr (inl (block_out_moves other n h))
    out_moves (If l at e body other) n (inr (inr h)) = inr (inr (empty_either body other h.0, ap mapped h.1))
    out_moves (Cobegin l at bodies) n (inl h) =
        inl (surface_join_moves (is_instant (placed_plain f (Cobegin l at bodies))) (is_instant (Cobegin l at bodies)) l at
        (ends_stay f (Cobegin l at bodies)) n h)
    out_moves (Cobegin l at bodies) n (inr h) = inr (ap mapped h)
    out_moves (When l at guard e body) n h = body_end_moves l at body n h
    out_moves (Repeat l at body) n h = h
    out_moves (Until l at body e) n h = ap mapped h
    out_moves (While l at e body) n h = ap mapped h
    out_moves (Again l at body e) n h = ap mapped h

    pub block_out_moves : (body : Block) (n : Node) → OutAll body n → OutAll (placed_block f body) (mapped n)
    block_out_moves Done n h = h
    block_out_moves (Then s rest) n (inl h) = inl (block_out_moves rest n h)
    block_out_moves (Then s rest) n (inr h) = inr (empty_stays f rest ∙ h.0, out_moves s n h.1)

  mutual
    resume_moves : (s : Plain) (n : Node) → Resume s n → Resume (placed_plain f s) (mapped n)
    resume_moves (Act l s) n h = h
    resume_moves (Await l at e) n h = ap mapped h
    resume_moves (Run l at target a inputs outputs) n h = ap mapped h
    resume_moves (If l at e body other) n (inl h) = inl (block_resume_moves body n h)
    resume_moves (If l at e body other) n (inr h) = inr (block_resume_moves other n h)
    resume_moves (Cobegin l at bodies) n h = each_resume_moves bodies n h
    resume_moves (When l at guard e body) n h = ap mapped h
    resume_moves (Repeat l at body) n h = block_resume_moves body n h
    resume_moves (Until l at body e) n h = block_resume_moves body n h
    resume_moves (While l at e body) n h = block_resume_moves body n h
    resume_moves (Again l at body e) n h = block_resume_moves body n h

    pub block_resume_moves : (body : Block) (n : Node) → ResumeAll body n → ResumeAll (placed_block f body) (mapped n)
    block_resume_moves Done n h = h
    block_resume_moves (Then s rest) n (inl h) = inl (resume_moves s n h)
    block_resume_moves (Then s rest) n (inr h) = inr (block_resume_moves rest n h)

    each_resume_moves : (bodies : Bodies) (n : Node) → ResumeEach bodies n → ResumeEach (placed_bodies f bodies) (mapped n)
    each_resume_moves Last n h = h
    each_resume_moves (Body weak body rest) n (inl h) = inl (block_resume_moves body n h)
    each_resume_moves (Body weak body rest) n (inr h) = inr (each_resume_moves rest n h)

  -- ---- control edges

  joins_move : (weak : Bool) (F H E G : Node → Type 0) → ((n : Node) → F n → H (mapped n)) → ((n : Node) → E n → G (mapped n)) → (n : Node) →
      Joins weak F E n → Joins weak H G (mapped n)
  joins_move weak F H E G parts ends n (part, inl is) = (parts n part, inl is)
  joins_move weak F H E G parts ends n (part, inr end) = (parts n part, inr (ends n end))

  guarded_moves : (guard : Guard) (l : Label) (at : Place) (body : Block) (n : Node) → Guarded guard l at body n →
      Guarded guard l (f at) (placed_block f body) (mapped n)
  guarded_moves Abort l at body n h = ap mapped h
  guarded_moves Reset l at body n h =
      into_moves body (BodyEnd l at body) (BodyEnd l (f at) (placed_block f body)) (body_end_moves l at body) n h

  loop_moves : (body : Block) (first last n m : Node) → LoopEdge body first last n m →
      LoopEdge (placed_block f body) (mapped first) (mapped last) (mapped n) (mapped m)
  loop_moves body first last n m (inl h) =
      inl (ap mapped h.0, into_moves body (λ k. k ≡ last) (λ k. k ≡ mapped last) (λ k is. ap mapped is) m h.1)
  loop_moves body first last n m (inr h) = inr (block_out_moves body n h.0, ap mapped h.1)

  entry_either : (body other : Block) (m : Node) → Entry body m ⊎ Entry other m →
      Entry (placed_block f body) (mapped m) ⊎ Entry (placed_block f other) (mapped m)
  entry_either body other m (inl h) = inl (block_entry_moves body m h)
  entry_either body other m (inr h) = inr (block_entry_moves other m h)

  mutual
    pub edge_moves : (s : Plain) (n m : Node) → Edge s n m → Edge (placed_plain f s) (mapped n) (mapped m)
    edge_moves (Act l s) n m h = h
    edge_moves (Await l at e) n m h = h
    edge_moves (Run l at target a inputs outputs) n m h = h
    edge_moves (If l at e body other) n m (inl h) = inl (block_edge_moves body n m h)
    edge_moves (If l at e body other) n m (inr (inl h)) = inr (inl (block_edge_moves other n m h))
    edge_moves (If l at e body other) n m (inr (inr h)) = inr (inr (ap mapped h.0, entry_either body other m h.1))
    edge_moves (Cobegin l at bodies) n m h =
        each_edge_moves bodies l at (is_instant (placed_plain f (Cobegin l at bodies))) (is_instant (Cobegin l at bodies))
        (ends_stay f (Cobegin l at bodies)) n m h
    edge_moves (When l at guard e body) n m (inl h) = inl (block_edge_moves body n m h)
    edge_moves (When l at guard e body) n m (inr (inl h)) =
        inr (inl (ap mapped h.0, into_moves body (BodyEnd l at body) (BodyEnd l (f at) (placed_block f body)) (body_end_moves l at body) m h.1))
    edge_moves (When l at guard e body) n m (inr (inr (inl h))) = inr (inr (inl (ap mapped h.0, block_resume_moves body m h.1)))
    edge_moves (When l at guard e body) n m (inr (inr (inr (inl h)))) =
        inr (inr (inr (inl (ap mapped h.0, guarded_moves guard l at body m h.1))))
    edge_moves (When l at guard e body) n m (inr (inr (inr (inr h)))) =
        inr (inr (inr (inr (block_out_moves body n h.0, body_end_moves l at body m h.1))))
    edge_moves (Repeat l at body) n m (inl h) = inl (block_edge_moves body n m h)
    edge_moves (Repeat l at body) n m (inr h) = inr (loop_moves body _ _ n m h)
    edge_moves (Until l at body e) n m (inl h) = inl (block_edge_moves body n m h)
    edge_moves (Until l at body e) n m (inr (inl h)) = inr (inl (loop_moves body _ _ n m h))
    edge_moves (Until l at body e) n m (inr (inr h)) = inr (inr (ap mapped h.0, ap mapped h.1))
    edge_moves (While l at e body) n m (inl h) = inl (block_edge_moves body n m h)
    edge_moves (While l at e body) n m (inr h) = inr (loop_moves body _ _ n m h)
    edge_moves (Again l at body e) n m (inl h) = inl (block_edge_moves body n m h)
    edge_moves (Again l at body e) n m (inr (inl h)) = inr (inl (loop_moves body _ _ n m h))
    edge_moves (Again l at body e) n m (inr (inr h)) = inr (inr (ap mapped h.0, ap mapped h.1))

    pub block_edge_moves : (body : Block) (n m : Node) → EdgeAll body n m → EdgeAll (placed_block f body) (mapped n) (mapped m)
    block_edge_moves Done n m h = h
    block_edge_moves (Then s rest) n m (inl h) = inl (edge_moves s n m h)
    block_edge_moves (Then s rest) n m (inr (inl h)) = inr (inl (block_edge_moves rest n m h))
    block_edge_moves (Then s rest) n m (inr (inr h)) = inr (inr (out_moves s n h.0, block_entry_moves rest m h.1))

    each_edge_moves : (bodies : Bodies) (l : Label) (at : Place) (c b : Bool) → c ≡ b → (n m : Node) → EdgeEach bodies l at b n m →
        EdgeEach (placed_bodies f bodies) l (f at) c (mapped n) (mapped m)
    each_edge_moves Last l at c b is n m h = h
    each_edge_moves (Body weak body rest) l at c b is n m (inl h) = inl (block_edge_moves body n m h)
    each_edge_moves (Body weak body rest) l at c b is n m (inr (inl h)) =
        inr (inl (ap mapped h.0, into_moves body (SurfaceJoin b l at) (SurfaceJoin c l (f at)) (surface_join_moves c b l at is) m h.1))
    each_edge_moves (Body weak body rest) l at c b is n m (inr (inr (inl h))) =
        inr (inr (inl (
          joins_move weak (Reached (Entry body) (EdgeAll body)) (Reached (Entry (placed_block f body)) (EdgeAll (placed_block f body)))
              (OutAll body) (OutAll (placed_block f body))
              (reached_moves mapped (Entry body) (Entry (placed_block f body)) (EdgeAll body) (EdgeAll (placed_block f body)) (block_entry_moves body)
              (block_edge_moves body)) (block_out_moves body) n h.0,
          surface_join_moves c b l at is m h.1,
        )))
    each_edge_moves (Body weak body rest) l at c b is n m (inr (inr (inr (inl h)))) =
        inr (inr (inr (inl (
          joins_move weak (Reached (ResumeAll body) (EdgeAll body))
              (Reached (ResumeAll (placed_block f body)) (EdgeAll (placed_block f body))) (OutAll body) (OutAll (placed_block f body))
              (reached_moves mapped (ResumeAll body) (ResumeAll (placed_block f body)) (EdgeAll body) (EdgeAll (placed_block f body)) (block_resume_moves body)
              (block_edge_moves body)) (block_out_moves body) n h.0,
          ap mapped h.1,
        ))))
    each_edge_moves (Body weak body rest) l at c b is n m (inr (inr (inr (inr h)))) =
        inr (inr (inr (inr (each_edge_moves rest l at c b is n m h))))

  -- ---- data edges

  in_moves : (deep : Bool) (body : Block) (n : Node) → In deep body n → In deep (placed_block f body) (mapped n)
  in_moves false body n h =
      reached_moves mapped (Entry body) (Entry (placed_block f body)) (EdgeAll body) (EdgeAll (placed_block f body)) (block_entry_moves body)
      (block_edge_moves body) n h
  in_moves true body n h =
      reached_moves mapped (ResumeAll body) (ResumeAll (placed_block f body)) (EdgeAll body) (EdgeAll (placed_block f body)) (block_resume_moves body)
      (block_edge_moves body) n h

  in_each_moves : (deep : Bool) (bodies : Bodies) (n : Node) → InEach deep bodies n → InEach deep (placed_bodies f bodies) (mapped n)
  in_each_moves deep Last n h = h
  in_each_moves deep (Body weak body rest) n (inl h) = inl (in_moves deep body n h)
  in_each_moves deep (Body weak body rest) n (inr h) = inr (in_each_moves deep rest n h)

  across_moves : (deep : Bool) (body : Block) (rest : Bodies) (n m : Node) → Across (In deep body) (InEach deep rest) n m →
      Across (In deep (placed_block f body)) (InEach deep (placed_bodies f rest)) (mapped n) (mapped m)
  across_moves deep body rest n m (inl h) = inl (in_moves deep body n h.0, in_each_moves deep rest m h.1)
  across_moves deep body rest n m (inr h) = inr (in_each_moves deep rest n h.0, in_moves deep body m h.1)

  mutual
    beside_moves : (s : Plain) (n m : Node) → Beside s n m → Beside (placed_plain f s) (mapped n) (mapped m)
    beside_moves (Act l s) n m h = h
    beside_moves (Await l at e) n m h = h
    beside_moves (Run l at target a inputs outputs) n m h = h
    beside_moves (If l at e body other) n m (inl h) = inl (block_beside_moves body n m h)
    beside_moves (If l at e body other) n m (inr h) = inr (block_beside_moves other n m h)
    beside_moves (Cobegin l at bodies) n m h = each_beside_moves bodies n m h
    beside_moves (When l at guard e body) n m h = block_beside_moves body n m h
    beside_moves (Repeat l at body) n m h = block_beside_moves body n m h
    beside_moves (Until l at body e) n m h = block_beside_moves body n m h
    beside_moves (While l at e body) n m h = block_beside_moves body n m h
    beside_moves (Again l at body e) n m h = block_beside_moves body n m h

    block_beside_moves : (body : Block) (n m : Node) → BesideAll body n m → BesideAll (placed_block f body) (mapped n) (mapped m)
    block_beside_moves Done n m h = h
    block_beside_moves (Then s rest) n m (inl h) = inl (beside_moves s n m h)
    block_beside_moves (Then s rest) n m (inr h) = inr (block_beside_moves rest n m h)

    each_beside_moves : (bodies : Bodies) (n m : Node) → BesideEach bodies n m → BesideEach (placed_bodies f bodies) (mapped n) (mapped m)
    each_beside_moves Last n m h = h
    each_beside_moves (Body weak body rest) n m (inl h) = inl (block_beside_moves body n m h)
    each_beside_moves (Body weak body rest) n m (inr (inl h)) = inr (inl (across_moves false body rest n m h))
    each_beside_moves (Body weak body rest) n m (inr (inr (inl h))) = inr (inr (inl (across_moves true body rest n m h)))
    each_beside_moves (Body weak body rest) n m (inr (inr (inr h))) = inr (inr (inr (each_beside_moves rest n m h)))

  touches_moves : (n m : Node) → Touches n m → Touches (mapped n) (mapped m)
  touches_moves n m h = (λ i. meets (node_writes_stay f n i) (node_reads_stay f m i)) ∙ h

  pub data_edge_moves : (body : Block) (n m : Node) → DataEdge body n m → DataEdge (placed_block f body) (mapped n) (mapped m)
  data_edge_moves body n m h = (block_beside_moves body n m h.0, touches_moves n m h.1)
