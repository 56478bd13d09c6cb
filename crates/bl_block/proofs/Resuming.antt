-- No edge leads from an act or the head of a loop to where a tick may begin.
use Rattle.std.proofs.Common.{◌≡◌, ℕ, zero, suc, ◌<◌, Bool, true, false, ◌⊎◌, inl, inr, List, [], ◌∷◌, ◌++◌, Some, length, get_or, refl, ap, sym, subst, ◌∙◌}
use Rattle.std.proofs.Common.{arith}
use Rattle.std.specs.Prelude.{Contains, slice_get, ⊤}
use Rattle.bl_tree.proofs.Basics.{true_and_false}
use Rattle.bl_graph_nodes.specs.Laws.{EachOnce}
use Rattle.bl_graph_nodes.specs.Nodes.{CheckAt, DepthEndAt, DepthJoinAt, ForkAt, HeadAt, Node, ResumeAt, StartAt, SurfaceEndAt, SurfaceJoinAt, TestAt}
use Rattle.bl_graph_nodes.specs.Nodes.{are_instant, entry, is_instant, nodes_in, nodes_in_each, nodes_of, where_so}
use Rattle.bl_graph_nodes.specs.Plain.{Act, Again, Await, Block, Bodies, Body, Cobegin, Done, If, Label, Last, Plain, Repeat, Run, Then, Until, When, While}
use Rattle.bl_tree.specs.declared.place.Place.{Place}
use Rattle.bl_graph.specs.Edges.{BodyEnd, Edge, EdgeAll, EdgeEach, Entry, Resume, ResumeAll, ResumeEach}
use Rattle.bl_graph.specs.Laws.{StaysWithin}
use Rattle.bl_machine.specs.Blocks.{goes_straight}

-- ---- lists without repetition

abbrev Has : List Node → Node → Type 0
Has [] n = ⊥
Has (x ∷ xs) n = (n ≡ x) ⊎ Has xs n

abbrev Differ : List Node → Type 0
Differ [] = ⊤
Differ (x ∷ xs) = (Has xs x → ⊥) × Differ xs

has_at : (xs : List Node) (n : Node) (k : ℕ) → k < length xs → get_or xs k n ≡ n → Has xs n
has_at [] n k lt is = absurd (omega arith)
has_at (x ∷ xs) n zero lt is = inl (sym is)
has_at (x ∷ xs) n (suc k) lt is = inr (has_at xs n k (omega arith) is)

has_of : (xs : List Node) (n : Node) → Contains xs n → Has xs n
has_of xs n there = has_at xs n there.0 there.1 there.2

place_of : (xs : List Node) (n : Node) → Has xs n → (k : ℕ) × (slice_get xs k ≡ Some n)
place_of [] n h = absurd h
place_of (x ∷ xs) n (inl is) = (0, ap Some (sym is))
place_of (x ∷ xs) n (inr h) = let at = place_of xs n h in (suc at.0, at.1)

differ_of : (xs : List Node) → EachOnce xs → Differ xs
differ_of [] once = tt
differ_of (x ∷ xs) once = (
  λ h. let at = place_of xs x h in let same : 0 ≡ suc at.0 = once 0 (suc at.0) x refl at.1 in omega arith,
  differ_of xs (λ i j n one two. let same : suc i ≡ suc j = once (suc i) (suc j) n one two in omega arith),
)

has_cases : (xs ys : List Node) (n : Node) → Has (xs ++ ys) n → Has xs n ⊎ Has ys n
has_cases [] ys n h = inr h
has_cases (x ∷ xs) ys n (inl e) = inl (inl e)
has_cases (x ∷ xs) ys n (inr h) = elim (has_cases xs ys n h) [ inl a ↦ inl (inr a) | inr b ↦ inr b ]

has_left : (xs ys : List Node) (n : Node) → Has xs n → Has (xs ++ ys) n
has_left [] ys n h = absurd h
has_left (x ∷ xs) ys n (inl e) = inl e
has_left (x ∷ xs) ys n (inr h) = inr (has_left xs ys n h)

has_right : (xs ys : List Node) (n : Node) → Has ys n → Has (xs ++ ys) n
has_right [] ys n h = h
has_right (x ∷ xs) ys n h = inr (has_right xs ys n h)

differ_left : (xs ys : List Node) → Differ (xs ++ ys) → Differ xs
differ_left [] ys differ = tt
differ_left (x ∷ xs) ys differ = (λ h. differ.0 (has_left xs ys x h), differ_left xs ys differ.1)

differ_right : (xs ys : List Node) → Differ (xs ++ ys) → Differ ys
differ_right [] ys differ = differ
differ_right (x ∷ xs) ys differ = differ_right xs ys differ.1

apart : (xs ys : List Node) (n : Node) → Differ (xs ++ ys) → Has xs n → Has ys n → ⊥
apart [] ys n differ one two = absurd one
apart (x ∷ xs) ys n differ (inl is) two = differ.0 (has_right xs ys x (subst (Has ys) is two))
apart (x ∷ xs) ys n differ (inr one) two = apart xs ys n differ.1 one two

-- ---- kinds of nodes

-- a tick may begin at nodes of this kind
abbrev wakes : Node → Bool
wakes (TestAt l at e) = true
wakes (ResumeAt l at arguments) = true
wakes (CheckAt l at e) = true
wakes _ = false

bent : (n x : Node) → n ≡ x → goes_straight x ≡ false → goes_straight n ≡ true → ⊥
bent n x is turns straight = true_and_false (goes_straight n) straight (ap goes_straight is ∙ turns)

asleep : (m x : Node) → m ≡ x → wakes x ≡ false → wakes m ≡ true → ⊥
asleep m x is sleeps up = true_and_false (wakes m) up (ap wakes is ∙ sleeps)

mutual
  wakes_plain : (s : Plain) (m : Node) → Resume s m → wakes m ≡ true
  wakes_plain (Act l s) m r = absurd r
  wakes_plain (Await l at e) m r = ap wakes r
  wakes_plain (Run l at target a inputs outputs) m r = ap wakes r
  wakes_plain (If l at e body other) m (inl r) = wakes_all body m r
  wakes_plain (If l at e body other) m (inr r) = wakes_all other m r
  wakes_plain (Cobegin l at bodies) m r = wakes_each bodies m r
  wakes_plain (When l at guard e body) m r = ap wakes r
  wakes_plain (Repeat l at body) m r = wakes_all body m r
  wakes_plain (Until l at body e) m r = wakes_all body m r
  wakes_plain (While l at e body) m r = wakes_all body m r
  wakes_plain (Again l at body e) m r = wakes_all body m r

  wakes_all : (body : Block) (m : Node) → ResumeAll body m → wakes m ≡ true
  wakes_all Done m r = absurd r
  wakes_all (Then s rest) m (inl r) = wakes_plain s m r
  wakes_all (Then s rest) m (inr r) = wakes_all rest m r

  wakes_each : (bodies : Bodies) (m : Node) → ResumeEach bodies m → wakes m ≡ true
  wakes_each Last m r = absurd r
  wakes_each (Body weak body rest) m (inl r) = wakes_all body m r
  wakes_each (Body weak body rest) m (inr r) = wakes_each rest m r

-- ---- where edges lead

module _ (within : (body : Block) → StaysWithin body) where
  to_all : (body : Block) (n m : Node) → EdgeAll body n m → Has (nodes_in body) m
  to_all body n m edge = let both = (within body).edges n m edge in has_of (nodes_in body) m both.1

  in_first : (body : Block) (m : Node) → Entry body m → Has (nodes_in body) m
  in_first body m is = has_of (nodes_in body) m ((within body).entries m is)

  in_resumes : (body : Block) (m : Node) → ResumeAll body m → Has (nodes_in body) m
  in_resumes body m r = has_of (nodes_in body) m ((within body).resumes m r)

  alone : (s : Plain) (m : Node) → Has (nodes_in (Then s Done)) m → Has (nodes_of s) m
  alone s m h = elim (has_cases (nodes_of s) [] m h) [ inl a ↦ a | inr b ↦ absurd b ]

  to_plain : (s : Plain) (n m : Node) → Edge s n m → Has (nodes_of s) m
  to_plain s n m edge = alone s m (to_all (Then s Done) n m (inl edge))

  in_plain : (s : Plain) (m : Node) → Resume s m → Has (nodes_of s) m
  in_plain s m r = alone s m (in_resumes (Then s Done) m (inl r))

  in_each : (bodies : Bodies) (m : Node) → ResumeEach bodies m → Has (nodes_in_each bodies) m
  in_each Last m r = absurd r
  in_each (Body weak body rest) m (inl r) = has_left (nodes_in body) (nodes_in_each rest) m (in_resumes body m r)
  in_each (Body weak body rest) m (inr r) = has_right (nodes_in body) (nodes_in_each rest) m (in_each rest m r)

  -- an edge in branches, but to a join, leads to a node of theirs
  to_each : (bodies : Bodies) (l : Label) (at : Place) (instant : Bool) (n m : Node) → EdgeEach bodies l at instant n m → wakes m ≡ true →
      Has (nodes_in_each bodies) m
  to_each Last l at instant n m edge up = absurd edge
  to_each (Body weak body rest) l at instant n m (inl edge) up = has_left (nodes_in body) (nodes_in_each rest) m (to_all body n m edge)
  to_each (Body weak body rest) l at instant n m (inr (inl (is, inl first))) up =
      has_left (nodes_in body) (nodes_in_each rest) m (in_first body m first)
  to_each (Body weak body rest) l at instant n m (inr (inl (is, inr none))) up = absurd (asleep m (SurfaceJoinAt l at) none.1.1 refl up)
  to_each (Body weak body rest) l at instant n m (inr (inr (inl surface))) up = absurd (asleep m (SurfaceJoinAt l at) surface.1.1 refl up)
  to_each (Body weak body rest) l at instant n m (inr (inr (inr (inl depth)))) up = absurd (asleep m (DepthJoinAt l at) depth.1 refl up)
  to_each (Body weak body rest) l at instant n m (inr (inr (inr (inr more)))) up =
      has_right (nodes_in body) (nodes_in_each rest) m (to_each rest l at instant n m more up)

  -- no tick begins where a statement or a block does
  entry_rests : (s : Plain) (m : Node) → Differ (nodes_of s) → m ≡ entry s → Resume s m → ⊥
  entry_rests (Act l s) m differ is r = absurd r
  entry_rests (Await l at e) m differ is r = asleep m _ is refl (ap wakes r)
  entry_rests (Run l at target a inputs outputs) m differ is r = asleep m _ is refl (ap wakes r)
  entry_rests (If l at e body other) m differ is (inl r) =
      differ.0 (has_left (nodes_in body) (nodes_in other) (TestAt l at e) (subst (Has (nodes_in body)) is (in_resumes body m r)))
  entry_rests (If l at e body other) m differ is (inr r) =
      differ.0 (has_right (nodes_in body) (nodes_in other) (TestAt l at e) (subst (Has (nodes_in other)) is (in_resumes other m r)))
  entry_rests (Cobegin l at bodies) m differ is r = asleep m _ is refl (wakes_each bodies m r)
  entry_rests (When l at guard e body) m differ is r = asleep m _ is refl (ap wakes r)
  entry_rests (Repeat l at body) m differ is r = asleep m _ is refl (wakes_all body m r)
  entry_rests (Until l at body e) m differ is r = asleep m _ is refl (wakes_all body m r)
  entry_rests (While l at e body) m differ is r = differ.0 (subst (Has (nodes_in body)) is (in_resumes body m r))
  entry_rests (Again l at body e) m differ is r = differ.1.0 (subst (Has (nodes_in body)) is (in_resumes body m r))

  first_rests : (body : Block) (m : Node) → Differ (nodes_in body) → Entry body m → ResumeAll body m → ⊥
  first_rests Done m differ is r = absurd is
  first_rests (Then s rest) m differ is (inl r) = entry_rests s m (differ_left (nodes_of s) (nodes_in rest) differ) is r
  first_rests (Then s rest) m differ is (inr r) =
      apart (nodes_of s) (nodes_in rest) m differ (alone s m (in_first (Then s Done) m is)) (in_resumes rest m r)

  -- ---- edges from acts and heads of loops

  -- what stands in a `when`, and in a `cobegin`
  in_when : (l : Label) (at : Place) (instant : Bool) (check : Node) (ys : List Node) →
      Differ (where_so instant (SurfaceEndAt l at) ++ check ∷ DepthEndAt l at ∷ ys) → Has ys check → ⊥
  in_when l at instant check ys differ h =
      let rest = differ_right (where_so instant (SurfaceEndAt l at)) (check ∷ DepthEndAt l at ∷ ys) differ in rest.0 (inr h)

  in_cobegin : (l : Label) (at : Place) (instant : Bool) (ys : List Node) →
      Differ (where_so instant (SurfaceJoinAt l at) ++ DepthJoinAt l at ∷ ys) → Differ ys
  in_cobegin l at instant ys differ =
      let rest = differ_right (where_so instant (SurfaceJoinAt l at)) (DepthJoinAt l at ∷ ys) differ in rest.1

  ends_sleep : (l : Label) (at : Place) (body : Block) (m : Node) → BodyEnd l at body m → wakes m ≡ true → ⊥
  ends_sleep l at body m (inl surface) up = asleep m (SurfaceEndAt l at) surface.1 refl up
  ends_sleep l at body m (inr depth) up = asleep m (DepthEndAt l at) depth refl up

  mutual
    straight_plain : (s : Plain) (n m : Node) → Differ (nodes_of s) → goes_straight n ≡ true → Edge s n m → Resume s m → ⊥
    straight_plain (Act l s) n m differ straight edge r = absurd edge
    straight_plain (Await l at e) n m differ straight edge r = absurd edge
    straight_plain (Run l at target a inputs outputs) n m differ straight edge r = absurd edge
    straight_plain (If l at e body other) n m differ straight (inl edge) (inl r) =
        straight_all body n m (differ_left (nodes_in body) (nodes_in other) differ.1) straight edge r
    straight_plain (If l at e body other) n m differ straight (inl edge) (inr r) =
        apart (nodes_in body) (nodes_in other) m differ.1 (to_all body n m edge) (in_resumes other m r)
    straight_plain (If l at e body other) n m differ straight (inr (inl edge)) (inl r) =
        apart (nodes_in body) (nodes_in other) m differ.1 (in_resumes body m r) (to_all other n m edge)
    straight_plain (If l at e body other) n m differ straight (inr (inl edge)) (inr r) =
        straight_all other n m (differ_right (nodes_in body) (nodes_in other) differ.1) straight edge r
    straight_plain (If l at e body other) n m differ straight (inr (inr test)) r = bent n (TestAt l at e) test.0 refl straight
    straight_plain (Cobegin l at bodies) n m differ straight edge r =
        straight_each bodies l at (is_instant (Cobegin l at bodies)) n m
        (in_cobegin l at (is_instant (Cobegin l at bodies)) (nodes_in_each bodies) differ.1) straight edge r
    straight_plain (When l at guard e body) n m differ straight (inl edge) r =
        in_when l at (are_instant body) (CheckAt l at e) (nodes_in body) differ.1 (subst (Has (nodes_in body)) r (to_all body n m edge))
    straight_plain (When l at guard e body) n m differ straight (inr (inl start)) r = bent n (StartAt l at) start.0 refl straight
    straight_plain (When l at guard e body) n m differ straight (inr (inr (inl check))) r = bent n (CheckAt l at e) check.0 refl straight
    straight_plain (When l at guard e body) n m differ straight (inr (inr (inr (inl check)))) r = bent n (CheckAt l at e) check.0 refl straight
    straight_plain (When l at guard e body) n m differ straight (inr (inr (inr (inr out)))) r = ends_sleep l at body m out.1 (ap wakes r)
    straight_plain (Repeat l at body) n m differ straight (inl edge) r = straight_all body n m differ.1 straight edge r
    straight_plain (Repeat l at body) n m differ straight (inr (inl (head, inl first))) r = first_rests body m differ.1 first r
    straight_plain (Repeat l at body) n m differ straight (inr (inl (head, inr none))) r = asleep m (HeadAt l at) none.1 refl (wakes_all body m r)
    straight_plain (Repeat l at body) n m differ straight (inr (inr out)) r = asleep m (HeadAt l at) out.1 refl (wakes_all body m r)
    straight_plain (Until l at body e) n m differ straight (inl edge) r = straight_all body n m differ.1.1 straight edge r
    straight_plain (Until l at body e) n m differ straight (inr (inl (inl (head, inl first)))) r = first_rests body m differ.1.1 first r
    straight_plain (Until l at body e) n m differ straight (inr (inl (inl (head, inr none)))) r =
        differ.1.0 (subst (Has (nodes_in body)) none.1 (in_resumes body m r))
    straight_plain (Until l at body e) n m differ straight (inr (inl (inr out))) r =
        differ.1.0 (subst (Has (nodes_in body)) out.1 (in_resumes body m r))
    straight_plain (Until l at body e) n m differ straight (inr (inr test)) r = bent n (TestAt l at e) test.0 refl straight
    straight_plain (While l at e body) n m differ straight (inl edge) r = straight_all body n m differ.1 straight edge r
    straight_plain (While l at e body) n m differ straight (inr (inl turn)) r = bent n (TestAt l at e) turn.0 refl straight
    straight_plain (While l at e body) n m differ straight (inr (inr out)) r =
        differ.0 (subst (Has (nodes_in body)) out.1 (in_resumes body m r))
    straight_plain (Again l at body e) n m differ straight (inl edge) r = straight_all body n m differ.1.1 straight edge r
    straight_plain (Again l at body e) n m differ straight (inr (inl (inl (head, inl first)))) r = first_rests body m differ.1.1 first r
    straight_plain (Again l at body e) n m differ straight (inr (inl (inl (head, inr none)))) r =
        differ.1.0 (subst (Has (nodes_in body)) none.1 (in_resumes body m r))
    straight_plain (Again l at body e) n m differ straight (inr (inl (inr out))) r =
        differ.1.0 (subst (Has (nodes_in body)) out.1 (in_resumes body m r))
    straight_plain (Again l at body e) n m differ straight (inr (inr test)) r = bent n (TestAt l at e) test.0 refl straight

    straight_all : (body : Block) (n m : Node) → Differ (nodes_in body) → goes_straight n ≡ true → EdgeAll body n m → ResumeAll body m → ⊥
    straight_all Done n m differ straight edge r = absurd edge
    straight_all (Then s rest) n m differ straight (inl edge) (inl r) =
        straight_plain s n m (differ_left (nodes_of s) (nodes_in rest) differ) straight edge r
    straight_all (Then s rest) n m differ straight (inl edge) (inr r) =
        apart (nodes_of s) (nodes_in rest) m differ (to_plain s n m edge) (in_resumes rest m r)
    straight_all (Then s rest) n m differ straight (inr (inl edge)) (inl r) =
        apart (nodes_of s) (nodes_in rest) m differ (in_plain s m r) (to_all rest n m edge)
    straight_all (Then s rest) n m differ straight (inr (inl edge)) (inr r) =
        straight_all rest n m (differ_right (nodes_of s) (nodes_in rest) differ) straight edge r
    straight_all (Then s rest) n m differ straight (inr (inr next)) (inl r) =
        apart (nodes_of s) (nodes_in rest) m differ (in_plain s m r) (in_first rest m next.1)
    straight_all (Then s rest) n m differ straight (inr (inr next)) (inr r) =
        first_rests rest m (differ_right (nodes_of s) (nodes_in rest) differ) next.1 r

    straight_each : (bodies : Bodies) (l : Label) (at : Place) (instant : Bool) (n m : Node) → Differ (nodes_in_each bodies) →
        goes_straight n ≡ true → EdgeEach bodies l at instant n m → ResumeEach bodies m → ⊥
    straight_each Last l at instant n m differ straight edge r = absurd edge
    straight_each (Body weak body rest) l at instant n m differ straight (inl edge) (inl r) =
        straight_all body n m (differ_left (nodes_in body) (nodes_in_each rest) differ) straight edge r
    straight_each (Body weak body rest) l at instant n m differ straight (inl edge) (inr r) =
        apart (nodes_in body) (nodes_in_each rest) m differ (to_all body n m edge) (in_each rest m r)
    straight_each (Body weak body rest) l at instant n m differ straight (inr (inl fork)) r = bent n (ForkAt l at) fork.0 refl straight
    straight_each (Body weak body rest) l at instant n m differ straight (inr (inr (inl surface))) r =
        asleep m (SurfaceJoinAt l at) surface.1.1 refl (wakes_each (Body weak body rest) m r)
    straight_each (Body weak body rest) l at instant n m differ straight (inr (inr (inr (inl depth)))) r =
        asleep m (DepthJoinAt l at) depth.1 refl (wakes_each (Body weak body rest) m r)
    straight_each (Body weak body rest) l at instant n m differ straight (inr (inr (inr (inr more)))) (inl r) =
        apart (nodes_in body) (nodes_in_each rest) m differ (in_resumes body m r) (to_each rest l at instant n m more (wakes_all body m r))
    straight_each (Body weak body rest) l at instant n m differ straight (inr (inr (inr (inr more)))) (inr r) =
        straight_each rest l at instant n m (differ_right (nodes_in body) (nodes_in_each rest) differ) straight more r

  -- an edge from an act or the head of a loop leads to no resume node
  pub straight_rests : (body : Block) (n m : Node) → EachOnce (nodes_in body) → goes_straight n ≡ true → EdgeAll body n m → ResumeAll body m → ⊥
  straight_rests body n m once straight edge r = straight_all body n m (differ_of (nodes_in body) once) straight edge r
