-- What is reached is marked: in constructs around others, and in whole bodies.
use Rattle.std.proofs.Common.{◌≡◌, ℕ, zero, suc, Bool, true, false, not, cond, ◌⊎◌, inl, inr, List, [], ◌∷◌, ◌++◌, map, Some, refl, ap, sym, ◌∙◌, subst}
use Rattle.std.specs.Prelude.{Contains, slice_get, ⊤}
use Rattle.std.proofs.lemmas.Option.{slice_get-get_or}
use Rattle.std.proofs.lemmas.Bool.{or_left, or_right}
use Rattle.bl_tree.proofs.Basics.{from_false}
use Rattle.bl_tree.specs.declared.place.Place.{Place}
use Rattle.bl_tree.specs.declared.tree.Expr.{Expr}
use Rattle.bl_tree.specs.declared.tree.Guard.{Guard}
use Rattle.bl_tree.specs.declared.tree.Guard.TheVariants.{Abort, Reset}
use Rattle.bl_graph_nodes.specs.Laws.{EachOnce, NodesDiffer}
use Rattle.bl_graph_nodes.specs.Nodes.{CheckAt, DepthEndAt, DepthJoinAt, ForkAt, Node, StartAt, SurfaceEndAt, SurfaceJoinAt, are_instant, is_instant, nodes_in}
use Rattle.bl_graph_nodes.specs.Plain.{Act, Again, Await, Block, Bodies, Body, Cobegin, Done, If, Label, Last, Plain, Repeat, Run, Then, Until, When, While}
use Rattle.bl_graph_nodes.specs.Plain.{is_empty, plain_block}
use Rattle.bl_graph.specs.Edges.{BodyEnd, Edge, EdgeAll, EdgeEach, Entry, Guarded, Into, Out, OutAll, ResumeAll, ResumeEach}
use Rattle.bl_graph.specs.Laws.{MarksTell, MarksTellIn}
use Rattle.bl_graph.specs.Marks.{Mark, Marked, again_by, begun_by, body_ends, entered, join_mark, last_end, leaves, marked, moved, part_in, part_of, parts_of}
use Rattle.bl_graph.specs.Marks.{resets, resumed, some_of, where_marked}
use Rattle.bl_graph.specs.Walks.{Reached}
use Rattle.bl_graph.proofs.Filling.{again_full, await_full, back_at, block_part, Closed, closed_part, Full, FullIn, if_full, in_moved, in_statement, is_at}
use Rattle.bl_graph.proofs.Filling.{moved_part, moved_to, none_is, out_mark, own_mark, repeat_full, run_full, single_full, some_is_same, until_full}
use Rattle.bl_graph.proofs.Filling.{while_full}
use Rattle.bl_graph.proofs.Marking.{At, Differ, Is, Sub, at_left, at_moved, at_right, back, differ_left, differ_of, differ_right, is_first, is_in, is_left}
use Rattle.bl_graph.proofs.Marking.{is_right, leaves_depth, leaves_surface, moved_at, names, names_append, names_in, names_moved, one_mark}
use Rattle.bl_graph.proofs.Marking.{pick, some_is, to_depth, to_depth_entry, to_surface, where_at}
use Rattle.bl_graph.proofs.Staying.{edge_has, out_has, out_in}
use Rattle.bl_graph.proofs.Sounding.{sound_in}
use Rattle.bl_graph.proofs.Walking.{reached_keeps_both}

-- ---- when

guarded_cases : (guard : Guard) (l : Label) (at : Place) (body : Block) (m : Node) → Guarded guard l at body m →
    ((m ≡ DepthEndAt l at) × (not (resets guard) ≡ true)) ⊎ (Into body (BodyEnd l at body) m × ((begun_by guard).depth ≡ true))
guarded_cases Abort l at body m h = inl (h, refl)
guarded_cases Reset l at body m h = inr (h, refl)

begun_surface : (guard : Guard) → (begun_by guard).surface ≡ true
begun_surface Abort = refl
begun_surface Reset = refl

chosen_first : (deep : Bool) (test : Bool) (a b : Mark) → test ≡ true → pick deep a ≡ true → pick deep (cond test a b) ≡ true
chosen_first deep true a b is so = so
chosen_first deep false a b is so = from_false is

chosen_second : (deep : Bool) (test : Bool) (a b : Mark) → test ≡ false → pick deep b ≡ true → pick deep (cond test a b) ≡ true
chosen_second deep true a b is so = from_false (sym is)
chosen_second deep false a b is so = so

out_fills : (body : Block) (n : Node) → OutAll body n → is_empty body ≡ false
out_fills Done n h = elim h [ ]
out_fills (Then s rest) n h = refl

module _ (l : Label) (at : Place) (guard : Guard) (e : Expr) (body : Block) (full : FullIn body) where
  abbrev so : Bool
  so = are_instant body

  abbrev ends : Mark
  ends = body_ends guard body (part_in body).outs

  abbrev surface_end : Marked
  surface_end = marked ends (SurfaceEndAt l at)

  abbrev check : Marked
  check = marked resumed (CheckAt l at e)

  abbrev depth_end : Marked
  depth_end = marked (last_end guard ends) (DepthEndAt l at)

  abbrev inside : List Marked
  inside = moved (begun_by guard) (part_in body).nodes

  abbrev zs : List Marked
  zs = marked entered (StartAt l at) ∷ (where_marked so surface_end ++ check ∷ depth_end ∷ inside)

  sub_inside : Sub inside zs
  sub_inside n k h = inr (at_right (where_marked so surface_end) (check ∷ depth_end ∷ inside) n k (inr (inr h)))

  at_check : At zs (CheckAt l at e) resumed
  at_check = inr (at_right (where_marked so surface_end) (check ∷ depth_end ∷ inside) (CheckAt l at e) resumed (inl (refl, refl)))

  at_depth_end : At zs (DepthEndAt l at) (last_end guard ends)
  at_depth_end = inr (at_right (where_marked so surface_end) (check ∷ depth_end ∷ inside) (DepthEndAt l at) (last_end guard ends) (inr (inl (refl, refl))))

  at_surface_end : so ≡ true → At zs (SurfaceEndAt l at) ends
  at_surface_end is = inr (at_left (where_marked so surface_end) (check ∷ depth_end ∷ inside) (SurfaceEndAt l at) ends
      (where_at so surface_end (SurfaceEndAt l at) is refl))

  end_in : (deep : Bool) (m : Node) → BodyEnd l at body m → pick deep ends ≡ true → Is deep zs m
  end_in deep m (inl h) is = is_at deep zs m (SurfaceEndAt l at) ends h.1 (at_surface_end h.0) is
  end_in false m (inr h) is = is_at false zs m (DepthEndAt l at) (last_end guard ends) h at_depth_end is
  end_in true m (inr h) is = is_at true zs m (DepthEndAt l at) (last_end guard ends) h at_depth_end (or_left ends.depth (not (resets guard)) is)

  empty_end : (deep : Bool) → is_empty body ≡ true → pick deep (begun_by guard) ≡ true → pick deep ends ≡ true
  empty_end deep empty is = chosen_first deep (is_empty body) (begun_by guard) (some_of (moved (begun_by guard) (part_in body).outs)) empty is

  into_body : (m : Node) → Entry body m → Is false zs m
  into_body m into = is_in false inside zs m sub_inside (to_surface (begun_by guard) (part_in body).nodes m (begun_surface guard) (full.enters m into))

  anew : (m : Node) → (begun_by guard).depth ≡ true → Entry body m → Is true zs m
  anew m is into = is_in true inside zs m sub_inside (to_depth_entry (begun_by guard) (part_in body).nodes m is (full.enters m into))

  when_closed : Differ (names zs) → (deep : Bool) → Closed deep zs (Edge (When l at guard e body))
  when_closed d deep n m is (inl h) = moved_part deep (begun_by guard) body zs full d sub_inside n m is h
  when_closed d false n m is (inr (inl h)) = elim h.1 [
    | inl into ↦ into_body m into
    | inr next ↦ end_in false m next.1 (empty_end false next.0 (begun_surface guard))
  ]
  when_closed d true n m is (inr (inl h)) = from_false (own_mark true zs n entered d (inl (h.0, refl)) is)
  when_closed d false n m is (inr (inr (inl h))) = from_false (own_mark false zs n resumed d (moved_to zs n (CheckAt l at e) resumed h.0 at_check) is)
  when_closed d true n m is (inr (inr (inl h))) = is_in true inside zs m sub_inside (to_depth (begun_by guard) (part_in body).nodes m (full.resumes m h.1))
  when_closed d false n m is (inr (inr (inr (inl h)))) = from_false (own_mark false zs n resumed d (moved_to zs n (CheckAt l at e) resumed h.0 at_check) is)
  when_closed d true n m is (inr (inr (inr (inl h)))) = elim (guarded_cases guard l at body m h.1) [
    | inl out ↦ is_at true zs m (DepthEndAt l at) (last_end guard ends) out.0 at_depth_end (or_right ends.depth (not (resets guard)) out.1)
    | inr again ↦ elim again.0 [
      | inl into ↦ anew m again.1 into
      | inr next ↦ end_in true m next.1 (empty_end true next.0 again.1)
    ]
  ]
  when_closed d deep n m is (inr (inr (inr (inr h)))) =
      end_in deep m h.1 (chosen_second deep (is_empty body) (begun_by guard) (some_of (moved (begun_by guard) (part_in body).outs)) (out_fills body n h.0)
      (out_mark deep (begun_by guard) body zs full d sub_inside n h.0 is))

  when_outs : Differ (names zs) → (n : Node) (k : Mark) → BodyEnd l at body n → At zs n k → At (where_marked so surface_end ++ depth_end ∷ []) n k
  when_outs d n k (inl h) there =
      let same : ends ≡ k = one_mark zs n ends k d (moved_to zs n (SurfaceEndAt l at) ends h.1 (at_surface_end h.0)) there in
      subst (At (where_marked so surface_end ++ depth_end ∷ []) n) same
      (at_left (where_marked so surface_end) (depth_end ∷ []) n ends (where_at so surface_end n h.0 h.1))
  when_outs d n k (inr h) there =
      let same : last_end guard ends ≡ k =
      one_mark zs n (last_end guard ends) k d (moved_to zs n (DepthEndAt l at) (last_end guard ends) h at_depth_end) there in
      at_right (where_marked so surface_end) (depth_end ∷ []) n k (inl (h, sym same))

  when_full : Differ (names zs) → Full (When l at guard e body)
  when_full d = record {
    enters = λ n same. is_first false (marked entered (StartAt l at)) (where_marked so surface_end ++ check ∷ depth_end ∷ inside) n same refl;
    resumes = λ n same. is_at true zs n (CheckAt l at e) resumed same at_check refl;
    closed = when_closed d;
    outs = when_outs d;
  }

-- ---- cobegin

-- the nodes of a branch from which its `cobegin` may end
pub leave_at : (weak : Bool) (body : Block) → FullIn body → (n : Node) (k : Mark) → (weak ≡ true) ⊎ OutAll body n → At (part_in body).nodes n k →
    At (cond weak (part_in body).nodes (part_in body).outs) n k
leave_at true body full n k joins there = there
leave_at false body full n k (inl is) there = from_false is
leave_at false body full n k (inr out) there = full.outs n k out there

keeps_is : (deep : Bool) (body : Block) → FullIn body → (F : Node → Type 0) → ((n : Node) → F n → Is deep (part_in body).nodes n) →
    (n : Node) → Reached F (EdgeAll body) n → Is deep (part_in body).nodes n
keeps_is deep body full F begins n r = reached_keeps_both (Is deep (part_in body).nodes) begins (full.closed deep) n r

pub surface_in : (body : Block) → FullIn body → (n : Node) → Reached (Entry body) (EdgeAll body) n → Is false (part_in body).nodes n
surface_in body full n r = keeps_is false body full (Entry body) full.enters n r

pub depth_in : (body : Block) → FullIn body → (n : Node) → Reached (ResumeAll body) (EdgeAll body) n → Is true (part_in body).nodes n
depth_in body full n r = keeps_is true body full (ResumeAll body) full.resumes n r

-- a node of a branch that is in both
both_marks : (body : Block) (zs : List Marked) (n : Node) → Differ (names zs) → Sub (part_in body).nodes zs → (deep other : Bool) →
    (one : Is deep (part_in body).nodes n) → Is other zs n → pick other one.mark ≡ true
both_marks body zs n d sub deep other one is = own_mark other zs n one.mark d (sub n one.mark one.there) is

record Around (bodies : Bodies) (l : Label) (at : Place) (so : Bool) (left : Mark) (zs : List Marked) : Type 0 where
  differ : Differ (names zs)
  sub : Sub (parts_of bodies).nodes zs
  fork : At zs (ForkAt l at) entered
  surface_join : so ≡ true → At zs (SurfaceJoinAt l at) (join_mark left)
  depth_join : At zs (DepthJoinAt l at) left
  more : (deep : Bool) → pick deep (parts_of bodies).left ≡ true → pick deep left ≡ true

-- the first branch, in the list of all
module _ (weak : Bool) (body : Block) (rest : Bodies) (l : Label) (at : Place) (so : Bool) (left : Mark) (zs : List Marked) (full : FullIn body)
    (around : Around (Body weak body rest) l at so left zs) where
  sub_first : Sub (part_in body).nodes zs
  sub_first n k h = around.sub n k (at_left (part_in body).nodes (parts_of rest).nodes n k h)

  around_rest : Around rest l at so left zs
  around_rest = record {
    differ = around.differ;
    sub = λ n k h. around.sub n k (at_right (part_in body).nodes (parts_of rest).nodes n k h);
    fork = around.fork;
    surface_join = around.surface_join;
    depth_join = around.depth_join;
    more = left_more;
  }
    where
      left_more : (deep : Bool) → pick deep (parts_of rest).left ≡ true → pick deep left ≡ true
      left_more false is = around.more false
          (or_right (leaves (cond weak (part_in body).nodes (part_in body).outs)).surface (parts_of rest).left.surface is)
      left_more true is = around.more true
          (or_right (leaves (cond weak (part_in body).nodes (part_in body).outs)).depth (parts_of rest).left.depth is)

  left_both : (n : Node) (k : Mark) → (weak ≡ true) ⊎ OutAll body n → At (part_in body).nodes n k → k.surface ≡ true → k.depth ≡ true →
      left.surface ≡ true
  left_both n k joins there one two = around.more false
      (or_left (leaves (cond weak (part_in body).nodes (part_in body).outs)).surface (parts_of rest).left.surface
      (leaves_surface (cond weak (part_in body).nodes (part_in body).outs) n k (leave_at weak body full n k joins there) one two))

  left_deep : (n : Node) (k : Mark) → (weak ≡ true) ⊎ OutAll body n → At (part_in body).nodes n k → k.depth ≡ true → left.depth ≡ true
  left_deep n k joins there deep = around.more true
      (or_left (leaves (cond weak (part_in body).nodes (part_in body).outs)).depth (parts_of rest).left.depth
      (leaves_depth (cond weak (part_in body).nodes (part_in body).outs) n k (leave_at weak body full n k joins there) deep))

  first_closed : (deep : Bool) (n m : Node) → Is deep zs n → EdgeEach (Body weak body rest) l at so n m →
      Is deep zs m ⊎ EdgeEach rest l at so n m
  first_closed deep n m is (inl h) = inl (block_part deep body zs full around.differ sub_first n m is h)
  first_closed false n m is (inr (inl h)) = elim h.1 [
    | inl into ↦ inl (is_in false (part_in body).nodes zs m sub_first (full.enters m into))
    | inr next ↦ inl (is_at false zs m (SurfaceJoinAt l at) (join_mark left) next.1.1 (around.surface_join next.1.0) refl)
  ]
  first_closed true n m is (inr (inl h)) =
      from_false (own_mark true zs n entered around.differ (moved_to zs n (ForkAt l at) entered h.0 around.fork) is)
  first_closed false n m is (inr (inr (inl h))) = inl (is_at false zs m (SurfaceJoinAt l at) (join_mark left) h.1.1 (around.surface_join h.1.0) refl)
  first_closed true n m is (inr (inr (inl h))) =
      let own = surface_in body full n h.0.0 in
      let deep = both_marks body zs n around.differ sub_first false true own is in
      inl (is_at true zs m (SurfaceJoinAt l at) (join_mark left) h.1.1 (around.surface_join h.1.0) (left_both n own.mark h.0.1 own.there own.so deep))
  first_closed false n m is (inr (inr (inr (inl h)))) =
      let own = depth_in body full n h.0.0 in
      let surface = both_marks body zs n around.differ sub_first true false own is in
      inl (is_at false zs m (DepthJoinAt l at) left h.1 around.depth_join (left_both n own.mark h.0.1 own.there surface own.so))
  first_closed true n m is (inr (inr (inr (inl h)))) =
      let own = depth_in body full n h.0.0 in
      inl (is_at true zs m (DepthJoinAt l at) left h.1 around.depth_join (left_deep n own.mark h.0.1 own.there own.so))
  first_closed deep n m is (inr (inr (inr (inr h)))) = inr h

abbrev pub FullEach : Bodies → Type 0
FullEach Last = ⊤
FullEach (Body weak body rest) = FullIn body × FullEach rest

each_closed : (bodies : Bodies) (l : Label) (at : Place) (so : Bool) (left : Mark) (zs : List Marked) → FullEach bodies → Around bodies l at so left zs →
    (deep : Bool) → Closed deep zs (EdgeEach bodies l at so)
each_closed Last l at so left zs fulls around deep n m is h = elim h [ ]
each_closed (Body weak body rest) l at so left zs fulls around deep n m is h =
    elim (first_closed weak body rest l at so left zs fulls.0 around deep n m is h) [
      | inl done ↦ done
      | inr further ↦ each_closed rest l at so left zs fulls.1 (around_rest weak body rest l at so left zs fulls.0 around) deep n m is further
    ]

each_resumes : (bodies : Bodies) → FullEach bodies → (n : Node) → ResumeEach bodies n → Is true (parts_of bodies).nodes n
each_resumes Last fulls n h = elim h [ ]
each_resumes (Body weak body rest) fulls n (inl h) = is_left true (part_in body).nodes (parts_of rest).nodes n (fulls.0.resumes n h)
each_resumes (Body weak body rest) fulls n (inr h) = is_right true (part_in body).nodes (parts_of rest).nodes n (each_resumes rest fulls.1 n h)

module _ (l : Label) (at : Place) (bodies : Bodies) (fulls : FullEach bodies) where
  abbrev instant : Bool
  instant = is_instant (Cobegin l at bodies)

  abbrev left_of : Mark
  left_of = (parts_of bodies).left

  abbrev surface_join_of : Marked
  surface_join_of = marked (join_mark left_of) (SurfaceJoinAt l at)

  abbrev depth_join_of : Marked
  depth_join_of = marked left_of (DepthJoinAt l at)

  abbrev whole : List Marked
  whole = marked entered (ForkAt l at) ∷ (where_marked instant surface_join_of ++ depth_join_of ∷ (parts_of bodies).nodes)

  around_all : Differ (names whole) → Around bodies l at instant left_of whole
  around_all d = record {
    differ = d;
    sub = λ n k h. inr (at_right (where_marked instant surface_join_of) (depth_join_of ∷ (parts_of bodies).nodes) n k (inr h));
    fork = inl (refl, refl);
    surface_join = λ is. inr (at_left (where_marked instant surface_join_of) (depth_join_of ∷ (parts_of bodies).nodes) (SurfaceJoinAt l at)
        (join_mark left_of) (where_at instant surface_join_of (SurfaceJoinAt l at) is refl));
    depth_join = inr (at_right (where_marked instant surface_join_of) (depth_join_of ∷ (parts_of bodies).nodes) (DepthJoinAt l at) left_of
        (inl (refl, refl)));
    more = λ deep is. is;
  }

  cobegin_outs : Differ (names whole) → (n : Node) (k : Mark) → Out (Cobegin l at bodies) n → At whole n k →
      At (where_marked instant surface_join_of ++ depth_join_of ∷ []) n k
  cobegin_outs d n k (inl h) there =
      let same : join_mark left_of ≡ k =
      one_mark whole n (join_mark left_of) k d (moved_to whole n (SurfaceJoinAt l at) (join_mark left_of) h.1 ((around_all d).surface_join h.0)) there in
      subst (At (where_marked instant surface_join_of ++ depth_join_of ∷ []) n) same
      (at_left (where_marked instant surface_join_of) (depth_join_of ∷ []) n (join_mark left_of) (where_at instant surface_join_of n h.0 h.1))
  cobegin_outs d n k (inr h) there =
      let same : left_of ≡ k = one_mark whole n left_of k d (moved_to whole n (DepthJoinAt l at) left_of h (around_all d).depth_join) there in
      at_right (where_marked instant surface_join_of) (depth_join_of ∷ []) n k (inl (h, sym same))

  cobegin_full : Differ (names whole) → Full (Cobegin l at bodies)
  cobegin_full d = record {
    enters = λ n same. is_first false (marked entered (ForkAt l at)) (where_marked instant surface_join_of ++ depth_join_of ∷ (parts_of bodies).nodes) n
        same refl;
    resumes = λ n h. is_in true (parts_of bodies).nodes whole n (around_all d).sub (each_resumes bodies fulls n h);
    closed = each_closed bodies l at instant left_of whole fulls (around_all d);
    outs = cobegin_outs d;
  }

-- ---- blocks

module _ (s : Plain) (rest : Block) (one : Full s) (two : FullIn rest) where
  abbrev ends_of : Mark
  ends_of = some_of (part_of s).outs

  abbrev all : List Marked
  all = (part_of s).nodes ++ moved ends_of (part_in rest).nodes

  sub_rest : Sub (moved ends_of (part_in rest).nodes) all
  sub_rest n k h = at_right (part_of s).nodes (moved ends_of (part_in rest).nodes) n k h

  sub_one : Sub (part_of s).nodes all
  sub_one n k h = at_left (part_of s).nodes (moved ends_of (part_in rest).nodes) n k h

  -- how what follows the statement is reached
  leads : (deep : Bool) → Differ (names all) → (n : Node) → Out s n → Is deep all n → pick deep ends_of ≡ true
  leads deep d n out is =
      let own = back deep (part_of s).nodes all n d sub_one (in_statement s n (out_has s n out)) is in
      some_is deep (part_of s).outs n own.mark (one.outs n own.mark out own.there) own.so

  then_closed : Differ (names all) → (deep : Bool) → Closed deep all (EdgeAll (Then s rest))
  then_closed d deep n m is (inl h) =
      closed_part deep (part_of s).nodes all (Edge s) d sub_one (λ k j edge. in_statement s k (edge_has s k j edge).0) (one.closed deep) n m is h
  then_closed d deep n m is (inr (inl h)) = moved_part deep ends_of rest all two d sub_rest n m is h
  then_closed d false n m is (inr (inr h)) =
      is_right false (part_of s).nodes (moved ends_of (part_in rest).nodes) m
      (to_surface ends_of (part_in rest).nodes m (leads false d n h.0 is) (two.enters m h.1))
  then_closed d true n m is (inr (inr h)) =
      is_right true (part_of s).nodes (moved ends_of (part_in rest).nodes) m
      (to_depth_entry ends_of (part_in rest).nodes m (leads true d n h.0 is) (two.enters m h.1))

then_outs : (s : Plain) (rest : Block) → Full s → FullIn rest → Differ (names (part_in (Then s rest)).nodes) → (n : Node) (k : Mark) →
    OutAll (Then s rest) n → At (part_in (Then s rest)).nodes n k → At (part_in (Then s rest)).outs n k
then_outs s Done one two d n k (inl h) there = elim h [ ]
then_outs s Done one two d n k (inr h) there =
    one.outs n k h.1 (back_at (part_of s).nodes (part_in (Then s Done)).nodes n k d
    (λ i j x. at_left (part_of s).nodes (moved (some_of (part_of s).outs) []) i j x) (in_statement s n (out_has s n h.1)) there)
then_outs s (Then t rest) one two d n k (inl h) there =
    let e = some_of (part_of s).outs in
    let ys = part_in (Then t rest) in
    let inside = back_at (moved e ys.nodes) (part_in (Then s (Then t rest))).nodes n k d
    (λ i j x. at_right (part_of s).nodes (moved e ys.nodes) i j x) (in_moved e (Then t rest) n (out_in (Then t rest) n h)) there in
    let b = moved_at e ys.nodes n k inside in
    subst (At (moved e ys.outs) n) (sym b.same) (at_moved e ys.outs n b.mark (two.outs n b.mark h b.there))
then_outs s (Then t rest) one two d n k (inr h) there = from_false h.0

then_full : (s : Plain) (rest : Block) → Full s → FullIn rest → Differ (names (part_in (Then s rest)).nodes) → FullIn (Then s rest)
then_full s rest one two d = let e = some_of (part_of s).outs in record {
  enters = λ n same. is_left false (part_of s).nodes (moved e (part_in rest).nodes) n (one.enters n same);
  resumes = λ n h. elim h [
    | inl r ↦ is_left true (part_of s).nodes (moved e (part_in rest).nodes) n (one.resumes n r)
    | inr r ↦ is_right true (part_of s).nodes (moved e (part_in rest).nodes) n (to_depth e (part_in rest).nodes n (two.resumes n r))
  ];
  closed = then_closed s rest one two d;
  outs = then_outs s rest one two d;
}

-- ---- all

pub first_differ : (xs ys : List Marked) → Differ (names (xs ++ ys)) → Differ (names xs)
first_differ xs ys d = differ_left (names xs) (names ys) (subst Differ (names_append xs ys) d)

pub second_differ : (xs ys : List Marked) → Differ (names (xs ++ ys)) → Differ (names ys)
second_differ xs ys d = differ_right (names xs) (names ys) (subst Differ (names_append xs ys) d)

pub moved_differ : (e : Mark) (xs : List Marked) → Differ (names (moved e xs)) → Differ (names xs)
moved_differ e xs d = subst Differ (names_moved e xs) d

pub body_differs : (l : Label) (at : Place) (guard : Guard) (e : Expr) (body : Block) → Differ (names (part_of (When l at guard e body)).nodes) →
    Differ (names (part_in body).nodes)
body_differs l at guard e body d =
    let last = second_differ (where_marked (are_instant body) (marked (body_ends guard body (part_in body).outs) (SurfaceEndAt l at)))
    (marked resumed (CheckAt l at e) ∷ marked (last_end guard (body_ends guard body (part_in body).outs)) (DepthEndAt l at)
    ∷ moved (begun_by guard) (part_in body).nodes) d.1 in
    moved_differ (begun_by guard) (part_in body).nodes last.1.1

pub branches_differ : (l : Label) (at : Place) (bodies : Bodies) → Differ (names (part_of (Cobegin l at bodies)).nodes) →
    Differ (names (parts_of bodies).nodes)
branches_differ l at bodies d =
    let last = second_differ (where_marked (is_instant (Cobegin l at bodies)) (marked (join_mark (parts_of bodies).left) (SurfaceJoinAt l at)))
    (marked (parts_of bodies).left (DepthJoinAt l at) ∷ (parts_of bodies).nodes) d.1 in
    last.1

mutual
  pub full_of : (s : Plain) → Differ (names (part_of s).nodes) → Full s
  full_of (Act l s) d = single_full l s
  full_of (Await l at e) d = await_full l at e
  full_of (Run l at target a inputs outputs) d = run_full l at target a inputs outputs
  full_of (If l at e body other) d =
      if_full l at e body other (full_in body (first_differ (part_in body).nodes (part_in other).nodes d.1))
      (full_in other (second_differ (part_in body).nodes (part_in other).nodes d.1)) d
  full_of (Cobegin l at bodies) d = cobegin_full l at bodies (full_each bodies (branches_differ l at bodies d)) d
  full_of (When l at guard e body) d = when_full l at guard e body (full_in body (body_differs l at guard e body d)) d
  full_of (Repeat l at body) d =
      repeat_full l at body (full_in body (moved_differ (again_by (some_of (part_in body).outs)) (part_in body).nodes d.1)) d
  full_of (Until l at body e) d =
      until_full l at body e (full_in body (moved_differ (again_by (some_of (part_in body).outs)) (part_in body).nodes d.1.1)) d
  full_of (While l at e body) d =
      while_full l at e body (full_in body (moved_differ (again_by (some_of (part_in body).outs)) (part_in body).nodes d.1)) d
  full_of (Again l at body e) d =
      again_full l at body e (full_in body (moved_differ (again_by (some_of (part_in body).outs)) (part_in body).nodes d.1.1)) d

  pub full_in : (body : Block) → Differ (names (part_in body).nodes) → FullIn body
  full_in Done d = record {
    enters = λ n h. elim h [ ];
    resumes = λ n h. elim h [ ];
    closed = λ deep n m is h. elim h [ ];
    outs = λ n k h there. elim h [ ];
  }
  full_in (Then s rest) d =
      then_full s rest (full_of s (first_differ (part_of s).nodes (moved (some_of (part_of s).outs) (part_in rest).nodes) d))
      (full_in rest (moved_differ (some_of (part_of s).outs) (part_in rest).nodes
      (second_differ (part_of s).nodes (moved (some_of (part_of s).outs) (part_in rest).nodes) d))) d

  pub full_each : (bodies : Bodies) → Differ (names (parts_of bodies).nodes) → FullEach bodies
  full_each Last d = tt
  full_each (Body weak body rest) d = (
    full_in body (first_differ (part_in body).nodes (parts_of rest).nodes d),
    full_each rest (second_differ (part_in body).nodes (parts_of rest).nodes d),
  )

-- ---- marks tell

names_map : (zs : List Marked) → map (λ m. m.node) zs ≡ names zs
names_map [] = refl
names_map (m ∷ zs) = ap (λ l. m.node ∷ l) (names_map zs)

at_from : (zs : List Marked) (m : Marked) (k : ℕ) → slice_get zs k ≡ Some m → At zs m.node m.mark
at_from [] m k is = absurd (none_is m is)
at_from (z ∷ zs) m zero is = let same = some_is_same z m is in inl (sym (ap (λ x. x.node) same), sym (ap (λ x. x.mark) same))
at_from (z ∷ zs) m (suc k) is = inr (at_from zs m k is)

at_of : (zs : List Marked) (m : Marked) → Contains zs m → At zs m.node m.mark
at_of zs m there = at_from zs m there.0 (slice_get-get_or zs there.0 m there.1 ∙ ap Some there.2)

module _ (body : Block) (once : EachOnce (nodes_in body)) where
  pub all_differ : Differ (names (part_in body).nodes)
  all_differ = subst Differ (sym (names_in body)) (differ_of (nodes_in body) once)

  full_body : FullIn body
  full_body = full_in body all_differ

  pub marks_tell_in : MarksTellIn body
  marks_tell_in = record {
    in_order = names_map (part_in body).nodes ∙ names_in body;
    surface = λ m there. (
      λ so. (sound_in body).surface m.node (record { mark = m.mark; there = at_of (part_in body).nodes m there; so = so }),
      λ r. own_mark false (part_in body).nodes m.node m.mark all_differ (at_of (part_in body).nodes m there) (surface_in body full_body m.node r),
    );
    depth = λ m there. (
      λ so. (sound_in body).depth m.node (record { mark = m.mark; there = at_of (part_in body).nodes m there; so = so }),
      λ r. own_mark true (part_in body).nodes m.node m.mark all_differ (at_of (part_in body).nodes m there) (depth_in body full_body m.node r),
    );
  }

pub marks_tell : NodesDiffer → MarksTell
marks_tell differ body at = marks_tell_in (plain_block body at) (differ.blocks body at)
