-- What is marked is reached.
use Rattle.std.proofs.Common.{◌≡◌, Bool, true, false, not, ◌||◌, cond, ◌⊎◌, inl, inr, [], ◌∷◌, ◌++◌, refl, sym, subst}
use Rattle.bl_tree.proofs.Basics.{either_of, from_false}
use Rattle.bl_tree.specs.declared.place.Place.{Place}
use Rattle.bl_tree.specs.declared.tree.Expr.{Expr}
use Rattle.bl_tree.specs.declared.tree.Guard.{Guard}
use Rattle.bl_tree.specs.declared.tree.Guard.TheVariants.{Abort, Reset}
use Rattle.bl_tree.specs.declared.tree.Stmt.{Stmt}
use Rattle.bl_graph_nodes.specs.Nodes.{ActAt, CheckAt, DepthEndAt, DepthJoinAt, EnterAt, ForkAt, HeadAt, Node, PauseAt, ResumeAt, StartAt, SurfaceEndAt}
use Rattle.bl_graph_nodes.specs.Nodes.{SurfaceJoinAt, TestAt, are_instant, arguments_of, entry, is_instant}
use Rattle.bl_graph_nodes.specs.Plain.{Act, Again, Await, Block, Bodies, Body, Cobegin, Done, If, Label, Last, Plain, Repeat, Run, Then, Until, When, While}
use Rattle.bl_graph_nodes.specs.Plain.{is_empty}
use Rattle.bl_graph.specs.Edges.{BodyEnd, Edge, EdgeAll, EdgeEach, Entry, Guarded, Into, LoopEdge, Out, OutAll, Resume, ResumeAll, ResumeEach}
use Rattle.bl_graph.specs.Marks.{Mark, again_by, begun_by, body_ends, entered, join_mark, last_end, leaves, marked, moved, part_in, part_of, parts_of, resets}
use Rattle.bl_graph.specs.Marks.{resumed, some_of, turn_ends, where_marked}
use Rattle.bl_graph.specs.Walks.{Reached, on, stay}
use Rattle.bl_graph.proofs.Marking.{At, Is, SomeMarked, at_cases, at_left, at_moved, at_right, at_where, from_leaves_depth, from_leaves_surface}
use Rattle.bl_graph.proofs.Marking.{is_cases, is_split, is_where, moved_at, moved_depth, moved_surface, pick, some_from}
use Rattle.bl_graph.proofs.Passing.{joins_at_once, later}
use Rattle.bl_graph.proofs.Walking.{walk_more, walk_on}

-- ---- what is reached

none : {A : Type 0} (deep : Bool) (n : Node) → Is deep [] n → A
none deep n is = absurd (is.there)

pub here : {F : Node → Type 0} {E : Node → Node → Type 0} (n : Node) → F n → Reached F E n
here n begins = record { from = n; begins = begins; walk = stay n }

pub reached_on : {F : Node → Type 0} {E : Node → Node → Type 0} (n m : Node) → Reached F E n → E n m → Reached F E m
reached_on n m r edge = record { from = r.from; begins = r.begins; walk = walk_on r.walk (on n m m edge (stay m)) }

pub reached_through : {P F : Node → Type 0} {E G : Node → Node → Type 0} → ((n m : Node) → E n m → G n m) →
    ((m : Node) → P m → Reached F G m) →
    (n : Node) → Reached P E n → Reached F G n
reached_through more begins n r =
    let first = begins r.from r.begins in record { from = first.from; begins = first.begins; walk = walk_on first.walk (walk_more more r.walk) }

pub reached_more : {P F : Node → Type 0} {E G : Node → Node → Type 0} → ((n m : Node) → E n m → G n m) → ((m : Node) → P m → F m) →
    (n : Node) → Reached P E n → Reached F G n
reached_more more begins n r = record { from = r.from; begins = begins r.from r.begins; walk = walk_more more r.walk }

reached_at : {F : Node → Type 0} {E : Node → Node → Type 0} (n m : Node) → n ≡ m → Reached F E m → Reached F E n
reached_at {F} {E} n m same r = subst (Reached F E) (sym same) r

-- ---- statements and blocks

pub record Sound (s : Plain) : Type 0 where
  pub surface : (n : Node) → Is false (part_of s).nodes n → Reached (λ k. k ≡ entry s) (Edge s) n
  pub depth : (n : Node) → Is true (part_of s).nodes n → Reached (Resume s) (Edge s) n
  pub outs : (n : Node) (k : Mark) → At (part_of s).outs n k → At (part_of s).nodes n k × Out s n

pub record SoundIn (body : Block) : Type 0 where
  pub surface : (n : Node) → Is false (part_in body).nodes n → Reached (Entry body) (EdgeAll body) n
  pub depth : (n : Node) → Is true (part_in body).nodes n → Reached (ResumeAll body) (EdgeAll body) n
  pub outs : (n : Node) (k : Mark) → At (part_in body).outs n k → At (part_in body).nodes n k × OutAll body n

pub record SoundEach (bodies : Bodies) (l : Label) (at : Place) (so : Bool) : Type 0 where
  pub surface : (n : Node) → Is false (parts_of bodies).nodes n → Reached (λ k. k ≡ ForkAt l at) (EdgeEach bodies l at so) n
  pub depth : (n : Node) → Is true (parts_of bodies).nodes n → Reached (ResumeEach bodies) (EdgeEach bodies l at so) n
  pub left_surface : (parts_of bodies).left.surface ≡ true → Reached (λ k. k ≡ ForkAt l at) (EdgeEach bodies l at so) (DepthJoinAt l at)
  pub left_again : so ≡ true → (parts_of bodies).left.surface ≡ true → Reached (ResumeEach bodies) (EdgeEach bodies l at so) (SurfaceJoinAt l at)
  pub left_depth : (parts_of bodies).left.depth ≡ true → Reached (ResumeEach bodies) (EdgeEach bodies l at so) (DepthJoinAt l at)

-- a node that leads on from a block and is reached
record OutIs (deep : Bool) (body : Block) : Type 0 where
  node : Node
  is : Is deep (part_in body).nodes node
  leads_on : OutAll body node

out_is : (deep : Bool) (body : Block) → SoundIn body → SomeMarked deep (part_in body).outs → OutIs deep body
out_is deep body sound some =
    let both = sound.outs some.node some.is.mark some.is.there in
    record { node = some.node; is = record { mark = some.is.mark; there = both.0; so = some.is.so }; leads_on = both.1 }

-- ---- loops

-- a body in a loop with these edges, from its first node and to its last
record Looped (body : Block) (first last : Node) (G : Node → Node → Type 0) : Type 0 where
  inside : (n m : Node) → EdgeAll body n m → G n m
  turn : (n m : Node) → LoopEdge body first last n m → G n m

last_deep : {G : Node → Node → Type 0} (body : Block) (first last : Node) → SoundIn body → Looped body first last G →
    (some_of (part_in body).outs).depth ≡ true → Reached (ResumeAll body) G last
last_deep body first last sound looped so =
    let out = out_is true body sound (some_from true (part_in body).outs so) in
    reached_on out.node last (reached_more looped.inside (λ m r. r) out.node (sound.depth out.node out.is))
    (looped.turn out.node last (inr (out.leads_on, refl)))

body_surface : {F : Node → Type 0} {G : Node → Node → Type 0} (body : Block) (first last : Node) → SoundIn body → Looped body first last G →
    Reached F G first → (n : Node) → Is false (part_in body).nodes n → Reached F G n
body_surface body first last sound looped begins n is =
    reached_through looped.inside (λ m e. reached_on first m begins (looped.turn first m (inl (refl, inl e)))) n (sound.surface n is)

last_surface : {F : Node → Type 0} {G : Node → Node → Type 0} (body : Block) (first last : Node) → SoundIn body → Looped body first last G →
    Reached F G first → (turn_ends body (some_of (part_in body).outs)).surface ≡ true → Reached F G last
last_surface body first last sound looped begins so = elim (either_of (is_empty body) (some_of (part_in body).outs).surface so) [
  | inl empty ↦ reached_on first last begins (looped.turn first last (inl (refl, inr (empty, refl))))
  | inr some ↦ let out = out_is false body sound (some_from false (part_in body).outs some) in
      reached_on out.node last (body_surface body first last sound looped begins out.node out.is) (looped.turn out.node last (inr (out.leads_on, refl)))
]

body_depth : {G : Node → Node → Type 0} (body : Block) (first last : Node) → SoundIn body → Looped body first last G →
    ((some_of (part_in body).outs).depth ≡ true → Reached (ResumeAll body) G first) →
    (n : Node) → Is true (moved (again_by (some_of (part_in body).outs)) (part_in body).nodes) n → Reached (ResumeAll body) G n
body_depth body first last sound looped again n is =
    elim (moved_depth (again_by (some_of (part_in body).outs)) (part_in body).nodes n is) [
      | inl deep ↦ reached_more looped.inside (λ m r. r) n (sound.depth n deep)
      | inr anew ↦ body_surface body first last sound looped (again anew.0) n anew.1
    ]

-- ---- the body of a `when`

abbrev Guarding : Label → Place → Guard → Expr → Block → Plain
Guarding l at guard e body = When l at guard e body

guarded_anew : (guard : Guard) (l : Label) (at : Place) (body : Block) (m : Node) → (begun_by guard).depth ≡ true → Into body (BodyEnd l at body) m →
    Guarded guard l at body m
guarded_anew Abort l at body m so into = from_false so
guarded_anew Reset l at body m so into = into

guarded_out : (guard : Guard) (l : Label) (at : Place) (body : Block) → not (resets guard) ≡ true → Guarded guard l at body (DepthEndAt l at)
guarded_out Abort l at body so = refl
guarded_out Reset l at body so = from_false so

choose : (deep : Bool) (test : Bool) (a b : Mark) → pick deep (cond test a b) ≡ true →
    ((test ≡ true) × (pick deep a ≡ true)) ⊎ ((test ≡ false) × (pick deep b ≡ true))
choose deep true a b so = inl (refl, so)
choose deep false a b so = inr (refl, so)

module _ (l : Label) (at : Place) (guard : Guard) (e : Expr) (body : Block) (sound : SoundIn body) where
  from_start : (n : Node) → Is false (part_in body).nodes n → Reached (λ k. k ≡ StartAt l at) (Edge (Guarding l at guard e body)) n
  from_start n is =
      reached_through (λ k m h. inl h) (λ m h. reached_on (StartAt l at) m (here (StartAt l at) refl) (inr (inl (refl, inl h)))) n (sound.surface n is)

  from_check : (n : Node) → Is true (part_in body).nodes n → Reached (λ k. k ≡ CheckAt l at e) (Edge (Guarding l at guard e body)) n
  from_check n is =
      reached_through (λ k m h. inl h) (λ m h. reached_on (CheckAt l at e) m (here (CheckAt l at e) refl) (inr (inr (inl (refl, h))))) n (sound.depth n is)

  anew_from_check : (begun_by guard).depth ≡ true → (n : Node) → Is false (part_in body).nodes n →
      Reached (λ k. k ≡ CheckAt l at e) (Edge (Guarding l at guard e body)) n
  anew_from_check so n is =
      reached_through (λ k m h. inl h)
      (λ m h. reached_on (CheckAt l at e) m (here (CheckAt l at e) refl) (inr (inr (inr (inl (refl, guarded_anew guard l at body m so (inl h))))))) n
      (sound.surface n is)

  to_end : {F : Node → Type 0} (n m : Node) → OutAll body n → BodyEnd l at body m → Reached F (Edge (Guarding l at guard e body)) n →
      Reached F (Edge (Guarding l at guard e body)) m
  to_end n m out is r = reached_on n m r (inr (inr (inr (inr (out, is)))))

  end_surface : (m : Node) → BodyEnd l at body m → (body_ends guard body (part_in body).outs).surface ≡ true →
      Reached (λ k. k ≡ StartAt l at) (Edge (Guarding l at guard e body)) m
  end_surface m is so = elim (choose false (is_empty body) (begun_by guard) (some_of (moved (begun_by guard) (part_in body).outs)) so) [
    | inl empty ↦ reached_on (StartAt l at) m (here (StartAt l at) refl) (inr (inl (refl, inr (empty.0, is))))
    | inr some ↦ let found = some_from false (moved (begun_by guard) (part_in body).outs) some.1 in
        let inner = moved_surface (begun_by guard) (part_in body).outs found.node found.is in
        let out = out_is false body sound (record { node = found.node; is = inner.1 }) in
        to_end out.node m out.leads_on is (from_start out.node out.is)
  ]

  end_depth : (m : Node) → BodyEnd l at body m → (body_ends guard body (part_in body).outs).depth ≡ true →
      Reached (λ k. k ≡ CheckAt l at e) (Edge (Guarding l at guard e body)) m
  end_depth m is so = elim (choose true (is_empty body) (begun_by guard) (some_of (moved (begun_by guard) (part_in body).outs)) so) [
    | inl empty ↦ reached_on (CheckAt l at e) m (here (CheckAt l at e) refl)
        (inr (inr (inr (inl (refl, guarded_anew guard l at body m empty.1 (inr (empty.0, is)))))))
    | inr some ↦ let found = some_from true (moved (begun_by guard) (part_in body).outs) some.1 in
        elim (moved_depth (begun_by guard) (part_in body).outs found.node found.is) [
          | inl deep ↦ let out = out_is true body sound (record { node = found.node; is = deep }) in
              to_end out.node m out.leads_on is (from_check out.node out.is)
          | inr anew ↦ let out = out_is false body sound (record { node = found.node; is = anew.1 }) in
              to_end out.node m out.leads_on is (anew_from_check anew.0 out.node out.is)
        ]
  ]

  last_depth : (last_end guard (body_ends guard body (part_in body).outs)).depth ≡ true →
      Reached (λ k. k ≡ CheckAt l at e) (Edge (Guarding l at guard e body)) (DepthEndAt l at)
  last_depth so = elim (either_of (body_ends guard body (part_in body).outs).depth (not (resets guard)) so) [
    | inl ends ↦ end_depth (DepthEndAt l at) (inr refl) ends
    | inr out ↦ reached_on (CheckAt l at e) (DepthEndAt l at) (here (CheckAt l at e) refl)
        (inr (inr (inr (inl (refl, guarded_out guard l at body out)))))
  ]

  when_sound : Sound (Guarding l at guard e body)
  when_sound = let so = are_instant body in
      let ends = body_ends guard body (part_in body).outs in
      let surface_end = marked ends (SurfaceEndAt l at) in
      let check = marked resumed (CheckAt l at e) in
      let depth_end = marked (last_end guard ends) (DepthEndAt l at) in
      let inner = moved (begun_by guard) (part_in body).nodes in
      record {
        surface = λ n is. elim (is_split false (marked entered (StartAt l at)) (where_marked so surface_end ++ check ∷ depth_end ∷ inner) n is) [
          | inl own ↦ here n own.0
          | inr rest ↦ elim (is_cases false (where_marked so surface_end) (check ∷ depth_end ∷ inner) n rest) [
            | inl w ↦ let h = is_where false so surface_end n w in
                reached_at n (SurfaceEndAt l at) h.1 (end_surface (SurfaceEndAt l at) (inl (h.0, refl)) h.2)
            | inr more ↦ elim (is_split false check (depth_end ∷ inner) n more) [
              | inl own ↦ from_false own.1
              | inr further ↦ elim (is_split false depth_end inner n further) [
                | inl own ↦ reached_at n (DepthEndAt l at) own.0 (end_surface (DepthEndAt l at) (inr refl) own.1)
                | inr in_body ↦ from_start n (moved_surface (begun_by guard) (part_in body).nodes n in_body).1
              ]
            ]
          ]
        ];
        depth = λ n is. elim (is_split true (marked entered (StartAt l at)) (where_marked so surface_end ++ check ∷ depth_end ∷ inner) n is) [
          | inl own ↦ from_false own.1
          | inr rest ↦ elim (is_cases true (where_marked so surface_end) (check ∷ depth_end ∷ inner) n rest) [
            | inl w ↦ let h = is_where true so surface_end n w in reached_at n (SurfaceEndAt l at) h.1 (end_depth (SurfaceEndAt l at) (inl (h.0, refl)) h.2)
            | inr more ↦ elim (is_split true check (depth_end ∷ inner) n more) [
              | inl own ↦ here n own.0
              | inr further ↦ elim (is_split true depth_end inner n further) [
                | inl own ↦ reached_at n (DepthEndAt l at) own.0 (last_depth own.1)
                | inr in_body ↦ elim (moved_depth (begun_by guard) (part_in body).nodes n in_body) [
                  | inl deep ↦ from_check n deep
                  | inr anew ↦ anew_from_check anew.0 n anew.1
                ]
              ]
            ]
          ]
        ];
        outs = λ n k h. elim (at_cases (where_marked so surface_end) (depth_end ∷ []) n k h) [
          | inl w ↦ let is = at_where so surface_end n k w in
              (inr (at_left (where_marked so surface_end) (check ∷ depth_end ∷ inner) n k w), inl (is.0, is.1))
          | inr rest ↦ elim rest [
            | inl own ↦ (inr (at_right (where_marked so surface_end) (check ∷ depth_end ∷ inner) n k (inr (inl own))), inr own.0)
            | inr nil ↦ absurd nil
          ]
        ];
      }

-- ---- all statements

-- the marked nodes of a branch from which its `cobegin` may end
pub joins_of : (weak : Bool) (body : Block) → SoundIn body → (n : Node) (k : Mark) → At (cond weak (part_in body).nodes (part_in body).outs) n k →
    At (part_in body).nodes n k × ((weak ≡ true) ⊎ OutAll body n)
joins_of true body sound n k h = (h, inl refl)
joins_of false body sound n k h = let both = sound.outs n k h in (both.0, inr both.1)

module _ (weak : Bool) (body : Block) (rest : Bodies) (l : Label) (at : Place) (so : Bool) (one : SoundIn body) where
  abbrev AllEdges : Node → Node → Type 0
  AllEdges = EdgeEach (Body weak body rest) l at so

  from_fork : (n : Node) → Is false (part_in body).nodes n → Reached (λ k. k ≡ ForkAt l at) AllEdges n
  from_fork n is =
      reached_through (λ k m h. inl h) (λ m h. reached_on (ForkAt l at) m (here (ForkAt l at) refl) (inr (inl (refl, inl h)))) n (one.surface n is)

  from_resume : (n : Node) → Is true (part_in body).nodes n → Reached (ResumeEach (Body weak body rest)) AllEdges n
  from_resume n is = reached_more (λ k m h. inl h) (λ m h. inl h) n (one.depth n is)

  to_depth_join : {F : Node → Type 0} (n : Node) (k : Mark) → At (cond weak (part_in body).nodes (part_in body).outs) n k → k.depth ≡ true →
      Reached F AllEdges n → Reached F AllEdges (DepthJoinAt l at)
  to_depth_join n k h deep r =
      let joins = joins_of weak body one n k h in
      reached_on n (DepthJoinAt l at) r (inr (inr (inr (inl ((one.depth n (record { mark = k; there = joins.0; so = deep }), joins.1), refl)))))

  to_surface_join : {F : Node → Type 0} (n : Node) (k : Mark) → At (cond weak (part_in body).nodes (part_in body).outs) n k → k.surface ≡ true →
      so ≡ true → Reached F AllEdges n → Reached F AllEdges (SurfaceJoinAt l at)
  to_surface_join n k h is instant r =
      let joins = joins_of weak body one n k h in
      reached_on n (SurfaceJoinAt l at) r (inr (inr (inl ((one.surface n (record { mark = k; there = joins.0; so = is }), joins.1), (instant, refl)))))

  more_sound : SoundEach rest l at so → SoundEach (Body weak body rest) l at so
  more_sound others = let list = cond weak (part_in body).nodes (part_in body).outs in record {
    surface = λ n is. elim (is_cases false (part_in body).nodes (parts_of rest).nodes n is) [
      | inl a ↦ from_fork n a
      | inr b ↦ reached_more (later weak body rest l at so) (λ m h. h) n (others.surface n b)
    ];
    depth = λ n is. elim (is_cases true (part_in body).nodes (parts_of rest).nodes n is) [
      | inl a ↦ from_resume n a
      | inr b ↦ reached_more (later weak body rest l at so) (λ m h. inr h) n (others.depth n b)
    ];
    left_surface = λ left. elim (either_of (leaves list).surface (parts_of rest).left.surface left) [
      | inl first ↦ let t = from_leaves_surface list first in
          to_depth_join t.node t.mark t.there t.depth
          (from_fork t.node (record { mark = t.mark; there = (joins_of weak body one t.node t.mark t.there).0; so = t.surface }))
      | inr more ↦ reached_more (later weak body rest l at so) (λ m h. h) (DepthJoinAt l at) (others.left_surface more)
    ];
    left_again = λ instant left. elim (either_of (leaves list).surface (parts_of rest).left.surface left) [
      | inl first ↦ let t = from_leaves_surface list first in
          to_surface_join t.node t.mark t.there t.surface instant
          (from_resume t.node (record { mark = t.mark; there = (joins_of weak body one t.node t.mark t.there).0; so = t.depth }))
      | inr more ↦ reached_more (later weak body rest l at so) (λ m h. inr h) (SurfaceJoinAt l at) (others.left_again instant more)
    ];
    left_depth = λ left. elim (either_of (leaves list).depth (parts_of rest).left.depth left) [
      | inl first ↦ let t = from_leaves_depth list first in
          to_depth_join t.node t.is.mark t.is.there t.is.so
          (from_resume t.node (record { mark = t.is.mark; there = (joins_of weak body one t.node t.is.mark t.is.there).0; so = t.is.so }))
      | inr more ↦ reached_more (later weak body rest l at so) (λ m h. inr h) (DepthJoinAt l at) (others.left_depth more)
    ];
  }

cobegin_sound : (l : Label) (at : Place) (bodies : Bodies) → SoundEach bodies l at (is_instant (Cobegin l at bodies)) → Sound (Cobegin l at bodies)
cobegin_sound l at bodies sound = let so = is_instant (Cobegin l at bodies) in
    let left = (parts_of bodies).left in
    let surface_join = marked (join_mark left) (SurfaceJoinAt l at) in
    let depth_join = marked left (DepthJoinAt l at) in
    let inner = (parts_of bodies).nodes in
    record {
      surface = λ n is. elim (is_split false (marked entered (ForkAt l at)) (where_marked so surface_join ++ depth_join ∷ inner) n is) [
        | inl own ↦ here n own.0
        | inr rest ↦ elim (is_cases false (where_marked so surface_join) (depth_join ∷ inner) n rest) [
          | inl w ↦ let h = is_where false so surface_join n w in
              reached_at n (SurfaceJoinAt l at) h.1 (record { from = ForkAt l at; begins = refl; walk = joins_at_once l at bodies h.0 })
          | inr more ↦ elim (is_split false depth_join inner n more) [
            | inl own ↦ reached_at n (DepthJoinAt l at) own.0 (sound.left_surface own.1)
            | inr in_body ↦ sound.surface n in_body
          ]
        ]
      ];
      depth = λ n is. elim (is_split true (marked entered (ForkAt l at)) (where_marked so surface_join ++ depth_join ∷ inner) n is) [
        | inl own ↦ from_false own.1
        | inr rest ↦ elim (is_cases true (where_marked so surface_join) (depth_join ∷ inner) n rest) [
          | inl w ↦ let h = is_where true so surface_join n w in reached_at n (SurfaceJoinAt l at) h.1 (sound.left_again h.0 h.2)
          | inr more ↦ elim (is_split true depth_join inner n more) [
            | inl own ↦ reached_at n (DepthJoinAt l at) own.0 (sound.left_depth own.1)
            | inr in_body ↦ sound.depth n in_body
          ]
        ]
      ];
      outs = λ n k h. elim (at_cases (where_marked so surface_join) (depth_join ∷ []) n k h) [
        | inl w ↦ let is = at_where so surface_join n k w in (inr (at_left (where_marked so surface_join) (depth_join ∷ inner) n k w), inl (is.0, is.1))
        | inr rest ↦ elim rest [
          | inl own ↦ (inr (at_right (where_marked so surface_join) (depth_join ∷ inner) n k (inl own)), inr own.0)
          | inr nil ↦ absurd nil
        ]
      ];
    }

if_sound : (l : Label) (at : Place) (e : Expr) (body other : Block) → SoundIn body → SoundIn other → Sound (If l at e body other)
if_sound l at e body other one two = let xs = (part_in body).nodes in let ys = (part_in other).nodes in let test = marked entered (TestAt l at e) in
    record {
      surface = λ n is. elim (is_split false test (xs ++ ys) n is) [
        | inl own ↦ here n own.0
        | inr rest ↦ elim (is_cases false xs ys n rest) [
          | inl a ↦ reached_through (λ k m h. inl h)
              (λ m h. reached_on (TestAt l at e) m (here (TestAt l at e) refl) (inr (inr (refl, inl h)))) n (one.surface n a)
          | inr b ↦ reached_through (λ k m h. inr (inl h))
              (λ m h. reached_on (TestAt l at e) m (here (TestAt l at e) refl) (inr (inr (refl, inr h)))) n (two.surface n b)
        ]
      ];
      depth = λ n is. elim (is_split true test (xs ++ ys) n is) [
        | inl own ↦ from_false own.1
        | inr rest ↦ elim (is_cases true xs ys n rest) [
          | inl a ↦ reached_more (λ k m h. inl h) (λ m h. inl h) n (one.depth n a)
          | inr b ↦ reached_more (λ k m h. inr (inl h)) (λ m h. inr h) n (two.depth n b)
        ]
      ];
      outs = λ n k h. elim (at_cases (part_in body).outs (where_marked (is_empty body || is_empty other) test ++ (part_in other).outs) n k h) [
        | inl a ↦ let is = one.outs n k a in (inr (at_left xs ys n k is.0), inl is.1)
        | inr rest ↦ elim (at_cases (where_marked (is_empty body || is_empty other) test) (part_in other).outs n k rest) [
          | inl w ↦ let is = at_where (is_empty body || is_empty other) test n k w in
              (inl (is.1, is.2), inr (inr (either_of (is_empty body) (is_empty other) is.0, is.1)))
          | inr b ↦ let is = two.outs n k b in (inr (at_right xs ys n k is.0), inr (inl is.1))
        ]
      ];
    }

repeat_sound : (l : Label) (at : Place) (body : Block) → SoundIn body → Sound (Repeat l at body)
repeat_sound l at body sound = let again = again_by (some_of (part_in body).outs) in let inner = moved again (part_in body).nodes in
    let looped : Looped body (HeadAt l at) (HeadAt l at) (Edge (Repeat l at body)) = record { inside = λ n m h. inl h; turn = λ n m h. inr h } in
    let deep = last_deep body (HeadAt l at) (HeadAt l at) sound looped in
    record {
      surface = λ n is. elim (is_split false (marked again (HeadAt l at)) inner n is) [
        | inl own ↦ here n own.0
        | inr rest ↦ body_surface body (HeadAt l at) (HeadAt l at) sound looped (here (HeadAt l at) refl) n
            (moved_surface again (part_in body).nodes n rest).1
      ];
      depth = λ n is. elim (is_split true (marked again (HeadAt l at)) inner n is) [
        | inl own ↦ reached_at n (HeadAt l at) own.0 (deep own.1)
        | inr rest ↦ body_depth body (HeadAt l at) (HeadAt l at) sound looped deep n rest
      ];
      outs = λ n k h. elim h [ ];
    }

until_sound : (l : Label) (at : Place) (body : Block) (e : Expr) → SoundIn body → Sound (Until l at body e)
until_sound l at body e sound = let again = again_by (some_of (part_in body).outs) in let inner = moved again (part_in body).nodes in
    let ends = turn_ends body (some_of (part_in body).outs) in
    let first = HeadAt l at in let last = TestAt l at e in
    let looped : Looped body first last (Edge (Until l at body e)) = record { inside = λ n m h. inl h; turn = λ n m h. inr (inl h) } in
    let deep = last_deep body first last sound looped in
    let head_deep : (some_of (part_in body).outs).depth ≡ true → Reached (ResumeAll body) (Edge (Until l at body e)) first =
    λ so. reached_on last first (deep so) (inr (inr (refl, refl))) in
    record {
      surface = λ n is. elim (is_split false (marked again first) (marked ends last ∷ inner) n is) [
        | inl own ↦ here n own.0
        | inr rest ↦ elim (is_split false (marked ends last) inner n rest) [
          | inl own ↦ reached_at n last own.0 (last_surface body first last sound looped (here first refl) own.1)
          | inr in_body ↦ body_surface body first last sound looped (here first refl) n (moved_surface again (part_in body).nodes n in_body).1
        ]
      ];
      depth = λ n is. elim (is_split true (marked again first) (marked ends last ∷ inner) n is) [
        | inl own ↦ reached_at n first own.0 (head_deep own.1)
        | inr rest ↦ elim (is_split true (marked ends last) inner n rest) [
          | inl own ↦ reached_at n last own.0 (deep own.1)
          | inr in_body ↦ body_depth body first last sound looped head_deep n in_body
        ]
      ];
      outs = λ n k h. elim h [ inl own ↦ (inr (inl own), own.0) | inr nil ↦ absurd nil ];
    }

while_sound : (l : Label) (at : Place) (e : Expr) (body : Block) → SoundIn body → Sound (While l at e body)
while_sound l at e body sound = let again = again_by (some_of (part_in body).outs) in let inner = moved again (part_in body).nodes in
    let test = TestAt l at e in
    let looped : Looped body test test (Edge (While l at e body)) = record { inside = λ n m h. inl h; turn = λ n m h. inr h } in
    let deep = last_deep body test test sound looped in
    record {
      surface = λ n is. elim (is_split false (marked again test) inner n is) [
        | inl own ↦ here n own.0
        | inr rest ↦ body_surface body test test sound looped (here test refl) n (moved_surface again (part_in body).nodes n rest).1
      ];
      depth = λ n is. elim (is_split true (marked again test) inner n is) [
        | inl own ↦ reached_at n test own.0 (deep own.1)
        | inr rest ↦ body_depth body test test sound looped deep n rest
      ];
      outs = λ n k h. elim h [ inl own ↦ (inl own, own.0) | inr nil ↦ absurd nil ];
    }

again_sound : (l : Label) (at : Place) (body : Block) (e : Expr) → SoundIn body → Sound (Again l at body e)
again_sound l at body e sound = let again = again_by (some_of (part_in body).outs) in let inner = moved again (part_in body).nodes in
    let first = HeadAt l at in let last = TestAt l at e in
    let G : Node → Node → Type 0 = Edge (Again l at body e) in
    let looped : Looped body first last G = record { inside = λ n m h. inl h; turn = λ n m h. inr (inl h) } in
    let deep = last_deep body first last sound looped in
    let head : Reached (λ k. k ≡ last) G first = reached_on last first (here last refl) (inr (inr (refl, refl))) in
    let head_deep : (some_of (part_in body).outs).depth ≡ true → Reached (ResumeAll body) G first =
    λ so. reached_on last first (deep so) (inr (inr (refl, refl))) in
    record {
      surface = λ n is. elim (is_split false (marked again first) (marked again last ∷ inner) n is) [
        | inl own ↦ reached_at n first own.0 head
        | inr rest ↦ elim (is_split false (marked again last) inner n rest) [
          | inl own ↦ here n own.0
          | inr in_body ↦ body_surface body first last sound looped head n (moved_surface again (part_in body).nodes n in_body).1
        ]
      ];
      depth = λ n is. elim (is_split true (marked again first) (marked again last ∷ inner) n is) [
        | inl own ↦ reached_at n first own.0 (head_deep own.1)
        | inr rest ↦ elim (is_split true (marked again last) inner n rest) [
          | inl own ↦ reached_at n last own.0 (deep own.1)
          | inr in_body ↦ body_depth body first last sound looped head_deep n in_body
        ]
      ];
      outs = λ n k h. elim h [ inl own ↦ (inr (inl own), own.0) | inr nil ↦ absurd nil ];
    }

-- what pauses at a node and goes on at another
pausing_sound : (s : Plain) (first later_on : Node) → (n : Node) → Is false (marked entered first ∷ marked resumed later_on ∷ []) n → n ≡ first
pausing_sound s first later_on n is = elim (is_split false (marked entered first) (marked resumed later_on ∷ []) n is) [
  | inl own ↦ own.0
  | inr rest ↦ elim (is_split false (marked resumed later_on) [] n rest) [ inl own ↦ from_false own.1 | inr nil ↦ none false n nil ]
]

pausing_deep : (first later_on n : Node) → Is true (marked entered first ∷ marked resumed later_on ∷ []) n → n ≡ later_on
pausing_deep first later_on n is = elim (is_split true (marked entered first) (marked resumed later_on ∷ []) n is) [
  | inl own ↦ from_false own.1
  | inr rest ↦ elim (is_split true (marked resumed later_on) [] n rest) [ inl own ↦ own.0 | inr nil ↦ none true n nil ]
]

single_sound : (l : Label) (s : Stmt) → Sound (Act l s)
single_sound l s = record {
  surface = λ n is. elim (is_split false (marked entered (ActAt l s)) [] n is) [ inl own ↦ here n own.0 | inr nil ↦ none false n nil ];
  depth = λ n is. elim (is_split true (marked entered (ActAt l s)) [] n is) [ inl own ↦ from_false own.1 | inr nil ↦ none true n nil ];
  outs = λ n k h. elim h [ inl own ↦ (inl own, own.0) | inr nil ↦ absurd nil ];
}

then_outs : (s : Plain) (rest : Block) → Sound s → SoundIn rest → (n : Node) (k : Mark) → At (part_in (Then s rest)).outs n k →
    At (part_in (Then s rest)).nodes n k × OutAll (Then s rest) n
then_outs s Done one two n k h = let is = one.outs n k h in (at_left (part_of s).nodes (moved (some_of (part_of s).outs) []) n k is.0, inr (refl, is.1))
then_outs s (Then t rest) one two n k h =
    let e = some_of (part_of s).outs in
    let b = moved_at e (part_in (Then t rest)).outs n k h in
    let is = two.outs n b.mark b.there in (
      at_right (part_of s).nodes (moved e (part_in (Then t rest)).nodes) n k
          (subst (At (moved e (part_in (Then t rest)).nodes) n) (sym b.same) (at_moved e (part_in (Then t rest)).nodes n b.mark is.0)),
      inl is.1,
    )

then_sound : (s : Plain) (rest : Block) → Sound s → SoundIn rest → SoundIn (Then s rest)
then_sound s rest one two = let entry_mark = some_of (part_of s).outs in
    let xs = (part_of s).nodes in let ys = (part_in rest).nodes in
    let into : (deep : Bool) (F : Node → Type 0) → ((m : Node) → Is deep (part_of s).nodes m → Reached F (EdgeAll (Then s rest)) m) →
    pick deep entry_mark ≡ true → (n : Node) → Is false ys n → Reached F (EdgeAll (Then s rest)) n =
    λ deep F first so n is. let out = some_from deep (part_of s).outs so in
    let is_out = one.outs out.node out.is.mark out.is.there in
    reached_through (λ k m h. inr (inl h))
    (λ m h. reached_on out.node m (first out.node (record { mark = out.is.mark; there = is_out.0; so = out.is.so })) (inr (inr (is_out.1, h)))) n
    (two.surface n is) in
    let from_entry : (m : Node) → Is false xs m → Reached (Entry (Then s rest)) (EdgeAll (Then s rest)) m =
    λ m is. reached_more (λ k j h. inl h) (λ j h. h) m (one.surface m is) in
    let from_resumes : (m : Node) → Is true xs m → Reached (ResumeAll (Then s rest)) (EdgeAll (Then s rest)) m =
    λ m is. reached_more (λ k j h. inl h) (λ j h. inl h) m (one.depth m is) in
    record {
      surface = λ n is. elim (is_cases false xs (moved entry_mark ys) n is) [
        | inl a ↦ from_entry n a
        | inr b ↦ let both = moved_surface entry_mark ys n b in into false (Entry (Then s rest)) from_entry both.0 n both.1
      ];
      depth = λ n is. elim (is_cases true xs (moved entry_mark ys) n is) [
        | inl a ↦ from_resumes n a
        | inr b ↦ elim (moved_depth entry_mark ys n b) [
          | inl deep ↦ reached_more (λ k j h. inr (inl h)) (λ j h. inr h) n (two.depth n deep)
          | inr anew ↦ into true (ResumeAll (Then s rest)) from_resumes anew.0 n anew.1
        ]
      ];
      outs = then_outs s rest one two;
    }

mutual
  pub sound_of : (s : Plain) → Sound s
  sound_of (Act l s) = single_sound l s
  sound_of (Await l at e) = record {
    surface = λ n is. here n (pausing_sound (Await l at e) (PauseAt l at) (TestAt l at e) n is);
    depth = λ n is. here n (pausing_deep (PauseAt l at) (TestAt l at e) n is);
    outs = λ n k h. elim h [ inl own ↦ (inr (inl own), own.0) | inr nil ↦ absurd nil ];
  }
  sound_of (Run l at target a inputs outputs) = let given = arguments_of target inputs outputs in record {
    surface = λ n is. here n (pausing_sound (Run l at target a inputs outputs) (EnterAt l at given) (ResumeAt l at given) n is);
    depth = λ n is. here n (pausing_deep (EnterAt l at given) (ResumeAt l at given) n is);
    outs = λ n k h. elim h [ inl own ↦ (inr (inl own), own.0) | inr nil ↦ absurd nil ];
  }
  sound_of (If l at e body other) = if_sound l at e body other (sound_in body) (sound_in other)
  sound_of (Cobegin l at bodies) = cobegin_sound l at bodies (sound_each bodies l at (is_instant (Cobegin l at bodies)))
  sound_of (When l at guard e body) = when_sound l at guard e body (sound_in body)
  sound_of (Repeat l at body) = repeat_sound l at body (sound_in body)
  sound_of (Until l at body e) = until_sound l at body e (sound_in body)
  sound_of (While l at e body) = while_sound l at e body (sound_in body)
  sound_of (Again l at body e) = again_sound l at body e (sound_in body)

  pub sound_in : (body : Block) → SoundIn body
  sound_in Done = record { surface = λ n is. none false n is; depth = λ n is. none true n is; outs = λ n k h. elim h [ ] }
  sound_in (Then s rest) = then_sound s rest (sound_of s) (sound_in rest)

  sound_each : (bodies : Bodies) (l : Label) (at : Place) (so : Bool) → SoundEach bodies l at so
  sound_each Last l at so = record {
    surface = λ n is. none false n is;
    depth = λ n is. none true n is;
    left_surface = λ is. from_false is;
    left_again = λ instant is. from_false is;
    left_depth = λ is. from_false is;
  }
  sound_each (Body weak body rest) l at so = more_sound weak body rest l at so (sound_in body) (sound_each rest l at so)
