-- What is made of an activity is an activity with its blocks joined, and so it is of each.
use Rattle.std.proofs.Common.{◌≡◌, ℕ, ◌+◌, ◌<◌, Bool, List, [], ◌∷◌, ◌++◌, length, get_or, take, ap, sym, subst, ◌∙◌, arith}
use Rattle.std.specs.Prelude.{IsPermutation, slice_get}
use Rattle.std.proofs.lemmas.List.{take_more}
use Rattle.std.proofs.lemmas.List.Elements.{All-contains}
use Rattle.bl_tree.proofs.Basics.{true_and_false}
use Rattle.bl_graph.specs.declared.tick_graph.Graph.{Graph}
use Rattle.bl_tree.specs.declared.program.Program.{Program}
use Rattle.bl_tree.specs.declared.tree.Unit.{Unit as UnitDef}
use Rattle.bl_tree.specs.Reduce.{joined}
use Rattle.bl_cause.specs.Activities.{AreGraphs, EachTwo, IsGraphOf, activities}
use Rattle.bl_graph_nodes.specs.Laws.{EachOnce, MadeOfParts, NodesDiffer}
use Rattle.bl_graph_nodes.specs.Nodes.{nodes_in}
use Rattle.bl_graph_nodes.specs.Plain.{Block, plain_body}
use Rattle.bl_graph.specs.Graph.{IsTickGraph}
use Rattle.bl_graph.specs.Laws.{StaysWithin}
use Rattle.bl_machine.specs.Blocks.{Ordered, up_to}
use Rattle.bl_machine.specs.declared.machine.Activity.{Activity}
use Rattle.bl_machine.specs.Machines.{AreActivitiesOf, IsActivityOf}
use Rattle.bl_machine.specs.Slots.{Counters}
use Rattle.bl_block.specs.Merged.{AreMergedFrom, EachThree, IsMergedFrom, NothingLeft}
use Rattle.bl_block.specs.inner.Groups.{grouped}
use Rattle.bl_block.specs.inner.Merging.{EachMerges, Merges}
use Rattle.bl_block.specs.inner.Ways.{follows, ways_of}
use Rattle.bl_block.proofs.Beginning.{Begins, begins}
use Rattle.bl_block.proofs.Grouping.{Chain, apart_grouped, chain_at, chains_grouped, filled_grouped, joined_grouped}
use Rattle.bl_block.proofs.Telling.{following_passes, passing_follows}
use Rattle.bl_machine.proofs.Making.{each_length}

-- ---- one activity

module _ (body : Block) (graph : Graph) (is_graph : IsTickGraph body graph.nodes graph.edges) (once : EachOnce (nodes_in body))
    (starts : Begins body) (within : (block : Block) → StaysWithin block) where
  abbrev test : ℕ → ℕ → Bool
  test = follows (ways_of graph.nodes graph.edges)

  ordered : (from : List (List ℕ)) → Ordered body from → Ordered body (grouped test (joined from))
  ordered from order =
      let same : joined from ≡ joined (grouped test (joined from)) = sym (joined_grouped test (joined from)) in record {
        all = subst (IsPermutation (up_to (length (nodes_in body)))) same order.all;
        rises = λ p q i j first second leads.
            order.rises p q i j (ap (λ xs. slice_get xs p) same ∙ first) (ap (λ xs. slice_get xs q) same ∙ second) leads;
        filled = λ block there. All-contains (λ block. 0 < length block) (grouped test (joined from)) block (filled_grouped test (joined from)) there;
        straight = λ block k i j there first second.
            passing_follows body graph.nodes graph.edges is_graph once starts within i j
            (chain_at test block k i j (All-contains (Chain test) (grouped test (joined from)) block (chains_grouped test (joined from)) there)
            first second);
      }

  nothing_left : (nodes : List ℕ) → NothingLeft body (grouped test nodes)
  nothing_left nodes k one two i j first second end start could =
      true_and_false (test i j) (following_passes body graph.nodes graph.edges is_graph once starts within i j could)
      (apart_grouped test nodes k one two i j first second end start)

pub activity_merges : NodesDiffer → MadeOfParts → ((block : Block) → StaysWithin block) → (from : Activity) (graph : Graph) (to : Activity) →
    to.blocks ≡ grouped (follows (ways_of graph.nodes graph.edges)) (joined from.blocks) → to.slots ≡ from.slots → Merges from graph to
activity_merges differ made within from graph to blocks slots unit is_graph is = (
  record {
    order = subst (Ordered body) (sym blocks) (ordered body graph is_graph once (begins made unit.body) within from.blocks is.order);
    counters = subst (Counters body) (sym slots) is.counters;
    slots = slots ∙ is.slots;
  },
  record {
    nodes = ap joined blocks ∙ joined_grouped (follows (ways_of graph.nodes graph.edges)) (joined from.blocks);
    slots = slots;
    none_left = subst (NothingLeft body) (sym blocks) (nothing_left body graph is_graph once (begins made unit.body) within (joined from.blocks));
  },
)
  where
    body : Block
    body = plain_body unit.body

    once : EachOnce (nodes_in (plain_body unit.body))
    once = differ.blocks unit.body []

-- ---- all of them

pub three_push : {A B C : Type 0} (R : A → B → C → Type 0) (xs : List A) (ys : List B) (zs : List C) (x : A) (y : B) (z : C) →
    EachThree R xs ys zs → R x y z → EachThree R (xs ++ x ∷ []) (ys ++ y ∷ []) (zs ++ z ∷ [])
three_push R [] [] [] x y z each r = (r, tt)
three_push R [] [] (c ∷ zs) x y z each r = absurd each
three_push R [] (b ∷ ys) zs x y z each r = absurd each
three_push R (a ∷ xs) [] zs x y z each r = absurd each
three_push R (a ∷ xs) (b ∷ ys) [] x y z each r = absurd each
three_push R (a ∷ xs) (b ∷ ys) (c ∷ zs) x y z each r = (each.0, three_push R xs ys zs x y z each.1 r)

both_merge : (units : List UnitDef) (from : List Activity) (graphs : List Graph) (to : List Activity) → EachTwo IsActivityOf units from →
    EachTwo IsGraphOf units graphs → EachMerges from graphs to → EachTwo IsActivityOf units to × EachThree IsMergedFrom units from to
both_merge [] [] [] [] are graphed merge = (tt, tt)
both_merge [] [] [] (t ∷ to) are graphed merge = absurd merge
both_merge [] [] (g ∷ graphs) to are graphed merge = absurd graphed
both_merge [] (a ∷ from) graphs to are graphed merge = absurd are
both_merge (u ∷ units) [] graphs to are graphed merge = absurd are
both_merge (u ∷ units) (a ∷ from) [] to are graphed merge = absurd graphed
both_merge (u ∷ units) (a ∷ from) (g ∷ graphs) [] are graphed merge = absurd merge
both_merge (u ∷ units) (a ∷ from) (g ∷ graphs) (t ∷ to) are graphed merge =
    let one = merge.0 u graphed.0 are.0 in
    let rest = both_merge units from graphs to are.1 graphed.1 merge.1 in
    ((one.0, rest.0), (one.1, rest.1))

-- ---- one activity more

pub each_more : (from : List Activity) (graphs : List Graph) (made next : List Activity) (k : ℕ) (activity : Activity) (graph : Graph)
    (one : Activity) → k < length from → length from ≡ length graphs → activity ≡ get_or from k activity → graph ≡ get_or graphs k graph →
    next ≡ made ++ one ∷ [] → Merges activity graph one → EachMerges (take k from) (take k graphs) made →
    EachMerges (take (k + 1) from) (take (k + 1) graphs) next
each_more from graphs made next k activity graph one lt many is_activity is_graph grew merges each =
    let below : k < length graphs = omega (arith, lt, many) in
    let more : take (k + 1) from ≡ take k from ++ activity ∷ [] =
    take_more from k activity lt ∙ ap (λ x. take k from ++ x ∷ []) (sym is_activity) in
    let others : take (k + 1) graphs ≡ take k graphs ++ graph ∷ [] =
    take_more graphs k graph below ∙ ap (λ x. take k graphs ++ x ∷ []) (sym is_graph) in
    subst (λ xs. EachMerges xs (take (k + 1) graphs) next) (sym more)
    (subst (λ ys. EachMerges (take k from ++ activity ∷ []) ys next) (sym others)
    (subst (EachMerges (take k from ++ activity ∷ []) (take k graphs ++ graph ∷ [])) (sym grew)
    (three_push Merges (take k from) (take k graphs) made activity graph one each merges)))

-- ---- a machine

module _ (program other : Program) (from seen : List Activity) (graphs given : List Graph) (same : program ≡ other)
    (are : AreActivitiesOf program.units from) (graphed : AreGraphs other.units graphs) (is_seen : seen ≡ from) (is_given : given ≡ graphs) where
  graphed_here : AreGraphs program.units given
  graphed_here =
      subst (AreGraphs program.units) (sym is_given) (subst (λ (it : Program). AreGraphs it.units graphs) (sym same) graphed)

  seen_are : AreActivitiesOf program.units seen
  seen_are = subst (AreActivitiesOf program.units) (sym is_seen) are

  -- as many activities as tick graphs
  pub as_many : length seen ≡ length given
  as_many =
      sym (each_length IsActivityOf (activities program.units) seen seen_are) ∙ each_length IsGraphOf (activities program.units) given graphed_here

  -- what is made of the activities is a machine, merged from the one
  pub machine_merges : (to : List Activity) → EachMerges seen given to →
      AreActivitiesOf program.units to × AreMergedFrom program.units from to
  machine_merges to merge =
      let both = both_merge (activities program.units) seen given to seen_are graphed_here merge in
      (both.0, subst (λ xs. AreMergedFrom program.units xs to) is_seen both.1)
