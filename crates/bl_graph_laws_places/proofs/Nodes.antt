-- The nodes of plain statements whose places are mapped.
use Rattle.std.proofs.Common.{◌≡◌, Bool, true, false, ◌&&◌, ◌||◌, List, [], ◌∷◌, ◌++◌, map, refl, ap, ap₂, sym, ◌∙◌}
use Rattle.std.proofs.lemmas.List.{map-append}
use Rattle.std.specs.Prelude.{if◌then◌else◌}
use Rattle.bl_tree.specs.declared.place.Place.{Place}
use Rattle.bl_tree.specs.Static.{set_of}
use Rattle.bl_tree_laws_places.specs.Laws.{BringsBack}
use Rattle.bl_tree_laws_places.proofs.Back.{exprs_back, paths_back, stmt_back, target_back}
use Rattle.bl_tree_laws_places.proofs.Effects.{arguments_stay, mentions_stay, reads_stay, statics_stay, target_stays, writes_stay, written_stays}
use Rattle.bl_tree_laws_places.proofs.Exprs.{expr_back}
use Rattle.bl_tree_laws_places.proofs.Stmts.{stmt_place}
use Rattle.bl_graph.specs.Graph.{graph_node}
use Rattle.bl_graph_nodes.specs.Nodes.{ActAt, CheckAt, DepthEndAt, DepthJoinAt, EnterAt, ForkAt, HeadAt, Node, PauseAt, ResumeAt, StartAt}
use Rattle.bl_graph_nodes.specs.Nodes.{SurfaceEndAt, SurfaceJoinAt, TestAt, are_instant, entry, is_instant, kind_of_node, node_reads, node_writes, nodes_in}
use Rattle.bl_graph_nodes.specs.Nodes.{nodes_in_each, nodes_of, some_instant, some_strong, strong_instant, where_so}
use Rattle.bl_graph_nodes.specs.Plain.{Act, Again, Await, Block, Bodies, Body, Cobegin, Done, If, Last, Plain, Repeat, Run, Then, Until, When, While, is_empty}
use Rattle.bl_graph_laws_places.specs.Placed.{placed_block, placed_bodies, placed_graph_node, placed_node, placed_plain}

module _ (f : Place → Place) where
  -- ---- what a node shows

  pub shown_moves : (n : Node) → graph_node (placed_node f n) ≡ placed_graph_node f (graph_node n)
  shown_moves (ActAt l s) = ap (λ place. record { place = place; kind = kind_of_node (ActAt l s) }) (stmt_place f s)
  shown_moves (TestAt l at e) = refl
  shown_moves (PauseAt l at) = refl
  shown_moves (EnterAt l at arguments) = refl
  shown_moves (ResumeAt l at arguments) = refl
  shown_moves (HeadAt l at) = refl
  shown_moves (StartAt l at) = refl
  shown_moves (CheckAt l at e) = refl
  shown_moves (SurfaceEndAt l at) = refl
  shown_moves (DepthEndAt l at) = refl
  shown_moves (ForkAt l at) = refl
  shown_moves (SurfaceJoinAt l at) = refl
  shown_moves (DepthJoinAt l at) = refl

  pub node_reads_stay : (n : Node) → node_reads (placed_node f n) ≡ node_reads n
  node_reads_stay (ActAt l s) = reads_stay f s
  node_reads_stay (TestAt l at e) = ap set_of (mentions_stay f e)
  node_reads_stay (PauseAt l at) = refl
  node_reads_stay (EnterAt l at arguments) = ap set_of (arguments_stay f arguments.inputs arguments.outputs)
  node_reads_stay (ResumeAt l at arguments) =
      ap₂ (λ xs ys. set_of (xs ++ ys)) (target_stays f arguments.target) (arguments_stay f arguments.inputs arguments.outputs)
  node_reads_stay (HeadAt l at) = refl
  node_reads_stay (StartAt l at) = refl
  node_reads_stay (CheckAt l at e) = ap set_of (mentions_stay f e)
  node_reads_stay (SurfaceEndAt l at) = refl
  node_reads_stay (DepthEndAt l at) = refl
  node_reads_stay (ForkAt l at) = refl
  node_reads_stay (SurfaceJoinAt l at) = refl
  node_reads_stay (DepthJoinAt l at) = refl

  pub node_writes_stay : (n : Node) → node_writes (placed_node f n) ≡ node_writes n
  node_writes_stay (ActAt l s) = writes_stay f s
  node_writes_stay (TestAt l at e) = refl
  node_writes_stay (PauseAt l at) = refl
  node_writes_stay (EnterAt l at arguments) = ap set_of (statics_stay f arguments.outputs)
  node_writes_stay (ResumeAt l at arguments) =
      ap₂ (λ xs ys. set_of (xs ++ ys)) (written_stays f arguments.target) (statics_stay f arguments.outputs)
  node_writes_stay (HeadAt l at) = refl
  node_writes_stay (StartAt l at) = refl
  node_writes_stay (CheckAt l at e) = refl
  node_writes_stay (SurfaceEndAt l at) = refl
  node_writes_stay (DepthEndAt l at) = refl
  node_writes_stay (ForkAt l at) = refl
  node_writes_stay (SurfaceJoinAt l at) = refl
  node_writes_stay (DepthJoinAt l at) = refl

  -- ---- what may end at once

  strong_stays : (bodies : Bodies) → some_strong (placed_bodies f bodies) ≡ some_strong bodies
  strong_stays Last = refl
  strong_stays (Body true body rest) = strong_stays rest
  strong_stays (Body false body rest) = refl

  mutual
    pub ends_stay : (s : Plain) → is_instant (placed_plain f s) ≡ is_instant s
    ends_stay (Act l s) = refl
    ends_stay (Await l at e) = refl
    ends_stay (Run l at target a inputs outputs) = refl
    ends_stay (If l at e body other) = λ i. block_ends_stay body i || block_ends_stay other i
    ends_stay (Cobegin l at bodies) = λ i.
        if strong_stays bodies i then strong_ends_stay bodies i else some_ends_stay bodies i
    ends_stay (When l at guard e body) = block_ends_stay body
    ends_stay (Repeat l at body) = refl
    ends_stay (Until l at body e) = block_ends_stay body
    ends_stay (While l at e body) = refl
    ends_stay (Again l at body e) = refl

    pub block_ends_stay : (body : Block) → are_instant (placed_block f body) ≡ are_instant body
    block_ends_stay Done = refl
    block_ends_stay (Then s rest) = λ i. ends_stay s i && block_ends_stay rest i

    strong_ends_stay : (bodies : Bodies) → strong_instant (placed_bodies f bodies) ≡ strong_instant bodies
    strong_ends_stay Last = refl
    strong_ends_stay (Body weak body rest) = λ i. (weak || block_ends_stay body i) && strong_ends_stay rest i

    some_ends_stay : (bodies : Bodies) → some_instant (placed_bodies f bodies) ≡ some_instant bodies
    some_ends_stay Last = refl
    some_ends_stay (Body weak body rest) = λ i. block_ends_stay body i || some_ends_stay rest i

  pub empty_stays : (body : Block) → is_empty (placed_block f body) ≡ is_empty body
  empty_stays Done = refl
  empty_stays (Then s rest) = refl

  -- ---- the nodes in order

  pub entry_moves : (s : Plain) → entry (placed_plain f s) ≡ placed_node f (entry s)
  entry_moves (Act l s) = refl
  entry_moves (Await l at e) = refl
  entry_moves (Run l at target a inputs outputs) = refl
  entry_moves (If l at e body other) = refl
  entry_moves (Cobegin l at bodies) = refl
  entry_moves (When l at guard e body) = refl
  entry_moves (Repeat l at body) = refl
  entry_moves (Until l at body e) = refl
  entry_moves (While l at e body) = refl
  entry_moves (Again l at body e) = refl

  abbrev each : List Node → List Node
  each = map (placed_node f)

  where_moves : (b c : Bool) (n : Node) → b ≡ c → where_so b (placed_node f n) ≡ each (where_so c n)
  where_moves b true n is = ap (λ x. where_so x (placed_node f n)) is
  where_moves b false n is = ap (λ x. where_so x (placed_node f n)) is

  mutual
    pub nodes_move : (s : Plain) → nodes_of (placed_plain f s) ≡ each (nodes_of s)
    nodes_move (Act l s) = refl
    nodes_move (Await l at e) = refl
    nodes_move (Run l at target a inputs outputs) = refl
    nodes_move (If l at e body other) =
        ap (λ ns. placed_node f (TestAt l at e) ∷ ns)
        (ap₂ (λ xs ys. xs ++ ys) (block_nodes_move body) (block_nodes_move other)
        ∙ sym (map-append (placed_node f) (nodes_in body) (nodes_in other)))
    nodes_move (Cobegin l at bodies) =
        let so : Bool = is_instant (Cobegin l at bodies) in
        ap (λ ns. placed_node f (ForkAt l at) ∷ ns)
        (ap₂ (λ xs ys. xs ++ placed_node f (DepthJoinAt l at) ∷ ys)
        (where_moves (is_instant (placed_plain f (Cobegin l at bodies))) so (SurfaceJoinAt l at) (ends_stay (Cobegin l at bodies)))
        (each_nodes_move bodies)
        ∙ sym (map-append (placed_node f) (where_so so (SurfaceJoinAt l at)) (DepthJoinAt l at ∷ nodes_in_each bodies)))
    nodes_move (When l at guard e body) =
        ap (λ ns. placed_node f (StartAt l at) ∷ ns)
        (ap₂ (λ xs ys. xs ++ placed_node f (CheckAt l at e) ∷ placed_node f (DepthEndAt l at) ∷ ys)
        (where_moves (are_instant (placed_block f body)) (are_instant body) (SurfaceEndAt l at) (block_ends_stay body)) (block_nodes_move body)
        ∙ sym (map-append (placed_node f) (where_so (are_instant body) (SurfaceEndAt l at)) (CheckAt l at e ∷ DepthEndAt l at ∷ nodes_in body)))
    nodes_move (Repeat l at body) = ap (λ ns. placed_node f (HeadAt l at) ∷ ns) (block_nodes_move body)
    nodes_move (Until l at body e) = ap (λ ns. placed_node f (HeadAt l at) ∷ placed_node f (TestAt l at e) ∷ ns) (block_nodes_move body)
    nodes_move (While l at e body) = ap (λ ns. placed_node f (TestAt l at e) ∷ ns) (block_nodes_move body)
    nodes_move (Again l at body e) = ap (λ ns. placed_node f (HeadAt l at) ∷ placed_node f (TestAt l at e) ∷ ns) (block_nodes_move body)

    pub block_nodes_move : (body : Block) → nodes_in (placed_block f body) ≡ each (nodes_in body)
    block_nodes_move Done = refl
    block_nodes_move (Then s rest) =
        ap₂ (λ xs ys. xs ++ ys) (nodes_move s) (block_nodes_move rest) ∙ sym (map-append (placed_node f) (nodes_of s) (nodes_in rest))

    each_nodes_move : (bodies : Bodies) → nodes_in_each (placed_bodies f bodies) ≡ each (nodes_in_each bodies)
    each_nodes_move Last = refl
    each_nodes_move (Body weak body rest) =
        ap₂ (λ xs ys. xs ++ ys) (block_nodes_move body) (each_nodes_move rest)
        ∙ sym (map-append (placed_node f) (nodes_in body) (nodes_in_each rest))

-- ---- back

module _ (f g : Place → Place) (back : BringsBack g f) where
  mutual
    plain_back : (s : Plain) → placed_plain g (placed_plain f s) ≡ s
    plain_back (Act l s) = ap (Act l) (stmt_back f g back s)
    plain_back (Await l at e) = ap₂ (Await l) (back at) (expr_back f g back e)
    plain_back (Run l at target a inputs outputs) = λ i.
        Run l (back at i) (target_back f g back target i) a (exprs_back f g back inputs i) (paths_back f g back outputs i)
    plain_back (If l at e body other) = λ i. If l (back at i) (expr_back f g back e i) (block_back body i) (block_back other i)
    plain_back (Cobegin l at bodies) = λ i. Cobegin l (back at i) (bodies_back bodies i)
    plain_back (When l at guard e body) = λ i. When l (back at i) guard (expr_back f g back e i) (block_back body i)
    plain_back (Repeat l at body) = λ i. Repeat l (back at i) (block_back body i)
    plain_back (Until l at body e) = λ i. Until l (back at i) (block_back body i) (expr_back f g back e i)
    plain_back (While l at e body) = λ i. While l (back at i) (expr_back f g back e i) (block_back body i)
    plain_back (Again l at body e) = λ i. Again l (back at i) (block_back body i) (expr_back f g back e i)

    pub block_back : (body : Block) → placed_block g (placed_block f body) ≡ body
    block_back Done = refl
    block_back (Then s rest) = λ i. Then (plain_back s i) (block_back rest i)

    bodies_back : (bodies : Bodies) → placed_bodies g (placed_bodies f bodies) ≡ bodies
    bodies_back Last = refl
    bodies_back (Body weak body rest) = λ i. Body weak (block_back body i) (bodies_back rest i)
