-- What is made of a statement from what is made of its blocks.
use Rattle.std.proofs.Common.{◌≡◌, ℕ, ◌+◌, Bool, true, false, not, cond, ◌||◌, List, [], ◌∷◌, ◌++◌, map, Option, Some, refl, ap, sym, ◌∙◌, subst, append_assoc}
use Rattle.bl_tree.specs.declared.graph.Edge.{Edge}
use Rattle.bl_tree.specs.declared.graph.NodeKind.TheVariants as kind
use Rattle.bl_tree.specs.declared.place.Place.{Place}
use Rattle.bl_tree.specs.declared.tree.Expr.{Expr}
use Rattle.bl_tree.specs.declared.tree.Guard.{Guard}
use Rattle.bl_tree.specs.declared.tree.Guard.TheVariants.{Abort, Reset}
use Rattle.bl_tree.specs.declared.tree.Path.{Path}
use Rattle.bl_tree.specs.declared.tree.Stmt.{Stmt, out-Stmt}
use Rattle.bl_tree.specs.Effects.{argument_mentions, reads, target_mentions, target_static, writes}
use Rattle.bl_tree.specs.Static.{mentions, set_of, static_of}
use Rattle.bl_graph_nodes.specs.Nodes.{ActAt, CheckAt, DepthEndAt, HeadAt, Node, ResumeAt, StartAt, SurfaceEndAt, TestAt, are_instant, arguments_of, entry}
use Rattle.bl_graph_nodes.specs.Nodes.{nodes_in, where_so}
use Rattle.bl_graph_nodes.specs.Plain.{Act, Await, Block, Done, If, Label, Plain, Repeat, Run, Then, Until, When, While, is_empty}
use Rattle.bl_graph.specs.declared.part.Links.{Links}
use Rattle.bl_graph.specs.declared.part.Out.{Out}
use Rattle.bl_graph.specs.declared.part.Part.{Part as Made}
use Rattle.bl_graph.specs.Listed.{Pair, each_to, edges_in, edges_of, ends_of, entry_of, flows_in, flows_of, from_to, guard_to, pair, resumes_in, turn_of}
use Rattle.bl_graph.specs.Marks.{Mark, Marked, again_by, begun_by, body_ends, entered, inner, last_end, marked, moved, part_in, part_of, resumed, some_of}
use Rattle.bl_graph.specs.Marks.{turn_ends, where_marked}
use Rattle.bl_graph.specs.inner.Made.{Adds, IsEdge, IsNode, IsOut, Makes, Names, NamesEntry, Naming, Open, Pairwise, flow_of, turning, whole_in, whole_of}
use Rattle.bl_graph.specs.inner.Parts.{act_part, again_of, bare, bare_if, choice_part, endless_part, ends_by, exit_of, followed, guarded_links, guarded_part}
use Rattle.bl_graph.specs.inner.Parts.{guarded_to, into_block, is_nothing, link_if, links_each, links_from, moved_flow, moved_out, node, number_if}
use Rattle.bl_graph.specs.inner.Parts.{out, out_if, pause_part, some_mark, turned, until_part, while_part}
use Rattle.bl_graph.proofs.Following.{Same, after, edges_after, edges_with, exit, exit_is, flows_after, made_empty, nodes_after, outs_after, resumes_after}
use Rattle.bl_graph.proofs.Following.{same_back, same_both, same_itself, same_swap}
use Rattle.bl_graph.proofs.Marking.{names}
use Rattle.bl_graph.proofs.Numbering.{adds_listed, adds_none, adds_same, adds_then, all_pairs, each_pairs, from_pairs, into_pairs, moved_flows, moved_pairs}
use Rattle.bl_graph.proofs.Numbering.{number_pairs, one_edge, out_pairs, pairs_append, some_moved, some_same}

-- edges by the same pairs in any order
pub re_add : (kind : Bool) (naming : Naming) (ps qs : List Pair) (a b : List Edge) → Same ps qs → Adds kind naming ps a b → Adds kind naming qs a b
re_add kind naming ps qs a b same adds = adds_same kind naming ps qs a b same.into same.from adds

-- the flows of nodes one list after another
pub flows_append : (xs ys : List Marked) → map flow_of (xs ++ ys) ≡ map flow_of xs ++ map flow_of ys
flows_append [] ys = refl
flows_append (x ∷ xs) ys = ap (λ fs. flow_of x ∷ fs) (flows_append xs ys)

module _ (naming : Naming) where
  -- a statement after a block
  pub follow_makes : (b : Block) (s : Plain) (next : ℕ) (made more : Made) (l0 l1 l2 l3 : Links) → Makes naming (whole_in b) made l0 l1
      → Makes naming (whole_of s) more l1 l2 → naming next ≡ Some (entry s) → l3.control ≡ l2.control ++ links_each made.outs next
      → l3.by_data ≡ l2.by_data
      → Makes naming (whole_in (after b s)) (followed made more) l0 l3
  follow_makes b s next made more l0 l1 l2 l3 one other is control by_data =
      let empty : is_nothing made.flows ≡ is_empty b = ap is_nothing one.flows ∙ made_empty b in
      let enters : exit_of made ≡ exit b =
      ap (λ t. cond t entered (some_mark made.outs)) empty ∙ exit_is b (some_mark made.outs) (some_same naming made.outs (part_in b).outs one.outs) in
      record {
        flows = ap (λ fs. fs ++ map (moved_flow (exit_of made)) more.flows) one.flows
            ∙ ap (λ x. map flow_of (part_in b).nodes ++ map (moved_flow x) more.flows) enters
            ∙ ap (λ fs. map flow_of (part_in b).nodes ++ map (moved_flow (exit b)) fs) other.flows
            ∙ ap (λ fs. map flow_of (part_in b).nodes ++ fs) (moved_flows (exit b) (part_of s).nodes)
            ∙ sym (flows_append (part_in b).nodes (moved (exit b) (part_of s).nodes))
            ∙ ap (map flow_of) (sym (nodes_after b s));
        outs = subst (Pairwise (IsOut naming) (map (moved_out (exit_of made)) more.outs)) (sym (outs_after b s))
            (subst (λ x. Pairwise (IsOut naming) (map (moved_out x) more.outs) (moved (exit b) (part_of s).outs)) (sym enters)
            (moved_pairs naming (exit b) more.outs (part_of s).outs other.outs));
        resumes = subst (Pairwise (IsNode naming) (made.resumes ++ more.resumes)) (sym (resumes_after b s))
            (pairs_append (IsNode naming) _ _ _ _ one.resumes other.resumes);
        control = re_add false naming (edges_with b s) (edges_in (after b s)) l0.control l3.control (same_back _ _ (edges_after b s))
            (adds_then false naming (edges_in b) (edges_of s ++ each_to (part_in b).outs (entry s)) l0.control l1.control l3.control one.control
            (adds_then false naming (edges_of s) (each_to (part_in b).outs (entry s)) l1.control l2.control l3.control other.control
            (adds_listed false naming (each_to (part_in b).outs (entry s)) (links_each made.outs next) l2.control l3.control
            (each_pairs naming made.outs (part_in b).outs next (entry s) one.outs is) control)));
        by_data = subst (λ ps. Adds true naming ps l0.by_data l3.by_data) (sym (flows_after b s))
            (adds_then true naming (flows_in b) (flows_of s) l0.by_data l1.by_data l3.by_data one.by_data
            (subst (λ es. Adds true naming (flows_of s) l1.by_data es) (sym by_data) other.by_data));
      }

  -- an act
  pub act_makes : (l : Label) (s : Stmt) (first : ℕ) (links : Links) → naming first ≡ Some (ActAt l s)
      → Makes naming (whole_of (Act l s)) (act_part (out-Stmt s).place (reads s) (writes s) first) links links
  act_makes l s first links is = record {
    flows = refl;
    outs = (record { names = is; mark = refl }, tt);
    resumes = tt;
    control = adds_none false naming links.control;
    by_data = adds_none true naming links.by_data;
  }

  -- an `await`
  pub await_makes : (l : Label) (at : Place) (e : Expr) (next : ℕ) (links : Links) → naming next ≡ Some (TestAt l at e)
      → Makes naming (whole_of (Await l at e)) (pause_part (node at kind.Pause entered [] []) (node at kind.Test resumed (set_of
      (mentions e)) []) next) links links
  await_makes l at e next links is = record {
    flows = refl;
    outs = (record { names = is; mark = refl }, tt);
    resumes = (is, tt);
    control = adds_none false naming links.control;
    by_data = adds_none true naming links.by_data;
  }

  -- a `run`
  pub run_makes : (l : Label) (at : Place) (target : Option Path) (a : ℕ) (inputs : List Expr) (outputs : List Path) (next : ℕ) (links : Links)
      → naming next ≡ Some (ResumeAt l at (arguments_of target inputs outputs))
      → Makes naming (whole_of (Run l at target a inputs outputs)) (pause_part
      (node at kind.Start entered (set_of (argument_mentions inputs outputs)) (set_of (map static_of outputs)))
      (node at kind.Resume resumed (set_of (target_mentions target ++ argument_mentions inputs outputs)) (set_of
      (target_static target ++ map static_of outputs)))
      next) links links
  run_makes l at target a inputs outputs next links is = record {
    flows = refl;
    outs = (record { names = is; mark = refl }, tt);
    resumes = (is, tt);
    control = adds_none false naming links.control;
    by_data = adds_none true naming links.by_data;
  }

  -- an edge to a block
  to_block : (i k : ℕ) (n : Node) (b : Block) (empty : Bool) → empty ≡ is_empty b → naming i ≡ Some n → NamesEntry naming k b
      → Pairwise (IsEdge false naming) (link_if (not empty) i k) (from_to n (entry_of b []))
  to_block i k n Done true is from to = tt
  to_block i k n Done false is from to = cc
  to_block i k n (Then s rest) false is from to = (one_edge naming i k n (entry s) from to, tt)
  to_block i k n (Then s rest) true is from to = cc

  not_not : (a b : Bool) → a ≡ not b → not a ≡ b
  not_not true true is = cc
  not_not true false is = refl
  not_not false true is = refl
  not_not false false is = cc

  -- the condition of an `if` and its block
  pub choice_opens : (l : Label) (at : Place) (e : Expr) (b rest : Block) (first next : ℕ) (more empty : Bool) (inside : Made) (l0 l1 : Links)
      (after : List Edge)
      → empty ≡ is_empty b → is_empty rest ≡ not more → naming first ≡ Some (TestAt l at e) → NamesEntry naming (first + 1) b
      → NamesEntry naming next rest
      → Names naming next (nodes_in rest) → Makes naming (whole_in b) inside l0 l1
      → after ≡ (l1.control ++ link_if (not empty) first (first + 1)) ++ link_if more first next
      → Open naming (whole_of (If l at e b rest)) rest next (choice_part at (set_of (mentions e)) (empty || not more) first inside) l0
      (record { control = after; by_data = l1.by_data })
  choice_opens l at e b rest first next more empty inside l0 l1 after is_empty_b is_empty_rest is leads leads_rest names makes grows = record {
    names = names;
    closes = λ others last closed.
        let test : Node = TestAt l at e in
        let own : List Pair = from_to test (entry_of b []) ++ from_to test (entry_of rest []) in
        let more_is : link_if more first next ≡ link_if (not (is_empty rest)) first next =
        ap (λ t. link_if t first next) (sym (not_not (is_empty rest) more is_empty_rest)) in
        record {
          flows = ap (λ fs. flow_of (marked entered test) ∷ (fs ++ others.flows)) makes.flows
              ∙ ap (λ fs. flow_of (marked entered test) ∷ (map flow_of (part_in b).nodes ++ fs)) closed.flows
              ∙ ap (λ fs. flow_of (marked entered test) ∷ fs) (sym (flows_append (part_in b).nodes (part_in rest).nodes));
          outs = subst (λ outs. Pairwise (IsOut naming) outs (part_of (If l at e b rest)).outs)
              (sym (append_assoc inside.outs (out_if (empty || not more) first entered) others.outs))
              (pairs_append (IsOut naming) _ _ _ _ makes.outs
              (pairs_append (IsOut naming) _ _ _ _
              (subst (λ t. Pairwise (IsOut naming) (out_if (empty || not more) first entered) (where_marked t (marked entered test)))
              (λ i. is_empty_b i || sym is_empty_rest i)
              (out_pairs naming (empty || not more) first entered test (λ yes. is)))
              closed.outs));
          resumes = pairs_append (IsNode naming) _ _ _ _ makes.resumes closed.resumes;
          control = re_add false naming (edges_in b ++ (own ++ edges_in rest)) (edges_of (If l at e b rest)) l0.control last.control
              (same_both (edges_in b) (own ++ edges_in rest) (edges_in b) (edges_in rest ++ own) (same_itself (edges_in b)) (same_swap own (edges_in rest)))
              (adds_then false naming (edges_in b) (own ++ edges_in rest) l0.control l1.control last.control makes.control
              (adds_then false naming own (edges_in rest) l1.control after last.control
              (adds_listed false naming own (link_if (not empty) first (first + 1) ++ link_if more first next) l1.control after
              (pairs_append (IsEdge false naming) _ _ _ _
              (to_block first (first + 1) test b empty is_empty_b is leads)
              (subst (λ es. Pairwise (IsEdge false naming) es (from_to test (entry_of rest []))) (sym more_is)
              (to_block first next test rest (is_empty rest) refl is leads_rest)))
              (grows ∙ append_assoc l1.control (link_if (not empty) first (first + 1)) (link_if more first next)))
              closed.control));
          by_data = adds_then true naming (flows_in b) (flows_in rest) l0.by_data l1.by_data last.by_data makes.by_data closed.by_data;
        };
  }

  -- the body of a loop and the edges of its turn
  pub turn_makes : (b : Block) (start first last : ℕ) (n m : Node) (empty : Bool) (inside : Made) (l0 l1 : Links) (after : List Edge) → empty ≡ is_empty b
      → NamesEntry naming start b → naming first ≡ Some n → naming last ≡ Some m → Makes naming (whole_in b) inside l0 l1
      → after ≡ (l1.control ++ links_from first (into_block empty start (last ∷ []))) ++ links_each inside.outs last
      → Makes naming (turning b n m) inside l0 (record { control = after; by_data = l1.by_data })
  turn_makes b start first last n m empty inside l0 l1 after is leads from to makes grows = record {
    flows = makes.flows;
    outs = makes.outs;
    resumes = makes.resumes;
    control = adds_then false naming (edges_in b) (turn_of b n m) l0.control l1.control after makes.control
        (adds_listed false naming (turn_of b n m) (links_from first (into_block empty start (last ∷ [])) ++ links_each inside.outs last) l1.control after
        (pairs_append (IsEdge false naming) _ _ _ _
        (from_pairs naming first n _ _ from (into_pairs naming b empty start (last ∷ []) (m ∷ []) is leads (to, tt)))
        (each_pairs naming inside.outs (part_in b).outs last m makes.outs to))
        (grows ∙ append_assoc l1.control (links_from first (into_block empty start (last ∷ []))) (links_each inside.outs last)));
    by_data = makes.by_data;
  }

  -- the nodes of the body of a loop in it
  again_flows : (inside : Made) (ms outs : List Marked) → inside.flows ≡ map flow_of ms → some_mark inside.outs ≡ some_of outs
      → map (moved_flow (again_of inside)) inside.flows ≡ map flow_of (moved (again_by (some_of outs)) ms)
  again_flows inside ms outs flows marks =
      ap (λ mark. map (moved_flow (again_by mark)) inside.flows) marks
      ∙ ap (map (moved_flow (again_by (some_of outs)))) flows ∙ moved_flows (again_by (some_of outs)) ms

  -- a loop without end
  pub endless_makes : (l : Label) (at : Place) (b : Block) (inside : Made) (l0 l1 : Links) → Makes naming (turning b (HeadAt l at) (HeadAt l at)) inside l0 l1
      → Makes naming (whole_of (Repeat l at b)) (endless_part at inside) l0 l1
  endless_makes l at b inside l0 l1 makes =
      let marks : some_mark inside.outs ≡ some_of (part_in b).outs = some_same naming inside.outs (part_in b).outs makes.outs in
      record {
        flows = λ i. bare at kind.Head (again_by (marks i)) ∷ again_flows inside (part_in b).nodes (part_in b).outs makes.flows marks i;
        outs = tt;
        resumes = makes.resumes;
        control = makes.control;
        by_data = makes.by_data;
      }

  -- a loop that tests before its body
  pub while_makes : (l : Label) (at : Place) (e : Expr) (b : Block) (first : ℕ) (inside : Made) (l0 l1 : Links) → naming first ≡ Some (TestAt l at e)
      → Makes naming (turning b (TestAt l at e) (TestAt l at e)) inside l0 l1
      → Makes naming (whole_of (While l at e b)) (while_part at (set_of (mentions e)) first inside) l0 l1
  while_makes l at e b first inside l0 l1 is makes =
      let marks : some_mark inside.outs ≡ some_of (part_in b).outs = some_same naming inside.outs (part_in b).outs makes.outs in
      record {
        flows = λ i. node at kind.Test (again_by (marks i)) (set_of (mentions e)) []
            ∷ again_flows inside (part_in b).nodes (part_in b).outs makes.flows marks i;
        outs = (record { names = is; mark = ap again_by marks }, tt);
        resumes = makes.resumes;
        control = makes.control;
        by_data = makes.by_data;
      }

  -- a loop that tests after its body
  pub until_makes : (l : Label) (at : Place) (e : Expr) (b : Block) (first test : ℕ) (empty : Bool) (inside : Made) (l0 l1 : Links) (after : List Edge)
      → empty ≡ is_empty b → naming first ≡ Some (HeadAt l at) → naming test ≡ Some (TestAt l at e)
      → Makes naming (turning b (HeadAt l at) (TestAt l at e)) inside l0 l1 → after ≡ l1.control ++ link_if true test first
      → Makes naming (whole_of (Until l at b e)) (until_part at (set_of (mentions e)) empty test inside) l0 (record { control = after; by_data = l1.by_data })
  until_makes l at e b first test empty inside l0 l1 after empty_is head is makes grows =
      let marks : some_mark inside.outs ≡ some_of (part_in b).outs = some_same naming inside.outs (part_in b).outs makes.outs in
      let ends : turned empty inside ≡ turn_ends b (some_of (part_in b).outs) =
      λ i. record { surface = empty_is i || (marks i).surface; depth = (marks i).depth } in
      record {
        flows = λ i. bare at kind.Head (again_by (marks i)) ∷ node at kind.Test (ends i) (set_of (mentions e)) []
            ∷ again_flows inside (part_in b).nodes (part_in b).outs makes.flows marks i;
        outs = (record { names = is; mark = ends }, tt);
        resumes = makes.resumes;
        control = subst (λ ps. Adds false naming ps l0.control after)
            (append_assoc (edges_in b) (turn_of b (HeadAt l at) (TestAt l at e)) (pair (TestAt l at e) (HeadAt l at) ∷ []))
            (adds_then false naming (edges_in b ++ turn_of b (HeadAt l at) (TestAt l at e)) (pair (TestAt l at e) (HeadAt l at) ∷ [])
            l0.control l1.control after makes.control
            (adds_listed false naming (pair (TestAt l at e) (HeadAt l at) ∷ []) (link_if true test first) l1.control after
            (one_edge naming test first (TestAt l at e) (HeadAt l at) is head, tt) grows));
        by_data = makes.by_data;
      }

  -- ---- a `when`

  pub flows_where : (t : Bool) (m : Marked) (ms : List Marked) → cond t (flow_of m ∷ []) [] ++ map flow_of ms ≡ map flow_of (where_marked t m ++ ms)
  flows_where true m ms = refl
  flows_where false m ms = refl

  ends_are : (guard : Guard) (b : Block) (empty : Bool) (outs : List Out) → empty ≡ is_empty b → Pairwise (IsOut naming) outs (part_in b).outs
      → ends_by guard empty outs ≡ body_ends guard b (part_in b).outs
  ends_are guard b empty outs is all =
      let marks : inner (begun_by guard) (some_mark outs) ≡ some_of (moved (begun_by guard) (part_in b).outs) =
      ap (inner (begun_by guard)) (some_same naming outs (part_in b).outs all) ∙ sym (some_moved (begun_by guard) (part_in b).outs) in
      λ i. cond (is i) (begun_by guard) (marks i)

  guard_pairs : (guard : Guard) (l : Label) (at : Place) (b : Block) (empty : Bool) (check : ℕ) (ends : List ℕ) → empty ≡ is_empty b
      → NamesEntry naming (check + 2) b → naming (check + 1) ≡ Some (DepthEndAt l at) → Pairwise (IsNode naming) ends (ends_of l at b)
      → Pairwise (IsNode naming) (guarded_to guard empty check ends) (guard_to guard l at b)
  guard_pairs Abort l at b empty check ends is leads last all = (last, tt)
  guard_pairs Reset l at b empty check ends is leads last all = into_pairs naming b empty (check + 2) ends (ends_of l at b) is leads all

  pub guarded_makes : (l : Label) (at : Place) (guard : Guard) (e : Expr) (b : Block) (first check : ℕ) (empty instant : Bool) (inside : Made) (l0 l1 : Links)
      (after : List Edge) → empty ≡ is_empty b → instant ≡ are_instant b → naming first ≡ Some (StartAt l at)
      → (instant ≡ true → naming (first + 1) ≡ Some (SurfaceEndAt l at)) → naming check ≡ Some (CheckAt l at e)
      → naming (check + 1) ≡ Some (DepthEndAt l at) → NamesEntry naming (check + 2) b → Makes naming (whole_in b) inside l0 l1
      → after ≡ l1.control ++ guarded_links guard empty instant first check inside
      → Makes naming (whole_of (When l at guard e b)) (guarded_part at guard (set_of (mentions e)) empty instant first check inside) l0
      (record { control = after; by_data = l1.by_data })
  guarded_makes l at guard e b first check empty instant inside l0 l1 after empty_is instant_is start surface tests last leads makes grows =
      let numbers : List ℕ = number_if instant (first + 1) ++ (check + 1) ∷ [] in
      let ends : ends_by guard empty inside.outs ≡ body_ends guard b (part_in b).outs = ends_are guard b empty inside.outs empty_is makes.outs in
      let nodes : map (moved_flow (begun_by guard)) inside.flows ≡ map flow_of (moved (begun_by guard) (part_in b).nodes) =
      ap (map (moved_flow (begun_by guard))) makes.flows ∙ moved_flows (begun_by guard) (part_in b).nodes in
      let end : Mark = body_ends guard b (part_in b).outs in
      let ending : Pairwise (IsNode naming) numbers (ends_of l at b) =
      subst (λ t. Pairwise (IsNode naming) numbers (where_so t (SurfaceEndAt l at) ++ DepthEndAt l at ∷ [])) instant_is
      (pairs_append (IsNode naming) _ _ _ _ (number_pairs naming instant (first + 1) (SurfaceEndAt l at) surface) (last, tt)) in
      record {
        flows = (λ i. bare at kind.Start entered ∷ (bare_if (instant_is i) at kind.SurfaceEnd (ends i)
            ++ node at kind.Check resumed (set_of (mentions e)) [] ∷ bare at kind.DepthEnd (last_end guard (ends i)) ∷ nodes i))
            ∙ ap (λ fs. bare at kind.Start entered ∷ fs) (flows_where (are_instant b) (marked end (SurfaceEndAt l at))
            (marked resumed (CheckAt l at e) ∷ marked (last_end guard end) (DepthEndAt l at) ∷ moved (begun_by guard) (part_in b).nodes));
        outs = subst (Pairwise (IsOut naming) (out_if instant (first + 1) (ends_by guard empty inside.outs)
            ++ out (check + 1) (last_end guard (ends_by guard empty inside.outs)) ∷ []))
            (λ i. where_marked (instant_is i) (marked (ends i) (SurfaceEndAt l at)) ++ marked (last_end guard (ends i)) (DepthEndAt l at) ∷ [])
            (pairs_append (IsOut naming) _ _ _ _ (out_pairs naming instant (first + 1) (ends_by guard empty inside.outs) (SurfaceEndAt l at) surface)
            (record { names = last; mark = refl }, tt));
        resumes = (tests, tt);
        control = adds_then false naming (edges_in b) _ l0.control l1.control after makes.control
            (adds_listed false naming _ (guarded_links guard empty instant first check inside) l1.control after
            (pairs_append (IsEdge false naming) _ _ _ _
            (from_pairs naming first (StartAt l at) _ _ start (into_pairs naming b empty (check + 2) numbers (ends_of l at b) empty_is leads ending))
            (pairs_append (IsEdge false naming) _ _ _ _
            (from_pairs naming check (CheckAt l at e) inside.resumes (resumes_in b) tests makes.resumes)
            (pairs_append (IsEdge false naming) _ _ _ _
            (from_pairs naming check (CheckAt l at e) _ _ tests (guard_pairs guard l at b empty check numbers empty_is leads last ending))
            (all_pairs naming inside.outs (part_in b).outs numbers (ends_of l at b) makes.outs ending))))
            grows);
        by_data = makes.by_data;
      }
