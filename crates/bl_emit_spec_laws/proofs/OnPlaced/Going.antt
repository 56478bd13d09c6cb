-- Where one control edge alone leads from an act or a head, joins aside, the rule of that node sets the flag of the node at its end.
use Rattle.std.proofs.Common.{◌≡◌, ◌⊎◌, inl, inr, ℕ, suc, Bool, true, false, List, [], ◌∷◌, ◌++◌, Contains, zero, refl, sym, ap, subst, ◌∙◌, arith}
use Rattle.std.specs.Prelude.{Some, if◌then◌else◌, slice_get}
use Rattle.bl_tree.proofs.Basics.{from_false}
use Rattle.bl_tree.specs.declared.place.Place.{Place}
use Rattle.bl_tree.specs.declared.tree.Expr.{Expr}
use Rattle.bl_graph_nodes.specs.Nodes.{CheckAt, DepthEndAt, DepthJoinAt, ForkAt, HeadAt, Node, StartAt, SurfaceEndAt, SurfaceJoinAt, TestAt, are_instant, is_instant}
use Rattle.bl_graph_nodes.specs.Nodes.{nodes_in, nodes_in_each, nodes_of, where_so}
use Rattle.bl_graph_nodes.specs.Plain.{Act, Again, Await, Block, Bodies, Body as BodyOf, Cobegin, Done, If, Label, Last, Plain, Repeat, Run as RunOf, Then, Until}
use Rattle.bl_graph_nodes.specs.Plain.{When, While, is_empty}
use Rattle.bl_graph.specs.Edges.{BodyEnd, Edge, EdgeAll, EdgeEach, Entry, Into, LoopEdge, Out, OutAll}
use Rattle.bl_graph.proofs.Staying.{Has, edge_has, edge_in, has_left, has_right, out_has, out_in}
use Rattle.bl_machine.specs.Blocks.{goes_straight, is_join}
use Rattle.bl_machine.specs.Uses.{Slots}
use Rattle.bl_machine_pass.specs.Transitions.{Change, EndsWhen, Finishes, SetsCounter, SetsFlag, Transition, body_ends, enter, flagged, rule_where}
use Rattle.bl_machine_pass.specs.Transitions.{rules_in, rules_in_each, rules_of}
use Rattle.bl_machine_pass_laws.proofs.OnFlags.Leading.{NoOut}

-- ---- lists in which no node stands twice

abbrev pub Differ : List Node → Type 0
Differ [] = Unit {0}
Differ (x ∷ xs) = (Has xs x → ⊥) × Differ xs

differ_left : (xs ys : List Node) → Differ (xs ++ ys) → Differ xs
differ_left [] ys all = tt
differ_left (x ∷ xs) ys all = (λ has. all.0 (has_left xs ys x has), differ_left xs ys all.1)

differ_right : (xs ys : List Node) → Differ (xs ++ ys) → Differ ys
differ_right [] ys all = all
differ_right (x ∷ xs) ys all = differ_right xs ys all.1

apart : (xs ys : List Node) (n : Node) → Differ (xs ++ ys) → Has xs n → Has ys n → ⊥
apart [] ys n all one two = absurd one
apart (x ∷ xs) ys n all (inl is) two = all.0 (subst (Has (xs ++ ys)) is (has_right xs ys n two))
apart (x ∷ xs) ys n all (inr one) two = apart xs ys n all.1 one two

-- ---- where a node goes on

-- how an act or a head goes on to a node: its rule flags that node alone, or an edge leads from it to a further node
pub data Leads (E : Node → Node → Type 0) (rule : Transition) (m : Node) : Type 0 where
  sole : rule.on_true ≡ SetsFlag m ∷ [] → Leads E rule m
  split : (k : Node) → E rule.node k → is_join k ≡ false → (k ≡ m → ⊥) → Leads E rule m

-- the rule's node is among these. If it is an act or a head, it goes so to each node to which an edge leads from it, joins aside; and where it leads on out of the
-- part, its rule has only the change that follows the part
pub record Going (N : List Node) (E : Node → Node → Type 0) (O : Node → Type 0) (next : Change) (rule : Transition) : Type 0 where
  pub here : Has N rule.node
  pub edge : goes_straight rule.node ≡ true → (m : Node) → E rule.node m → is_join m ≡ false → Leads E rule m
  pub out : goes_straight rule.node ≡ true → O rule.node → rule.on_true ≡ next ∷ []

abbrev pub AllGoing : List Node → (Node → Node → Type 0) → (Node → Type 0) → Change → List Transition → Type 0
AllGoing N E O next [] = Unit {0}
AllGoing N E O next (rule ∷ rest) = Going N E O next rule × AllGoing N E O next rest

-- a node of another sort
not_straight : {A : Type 0} (n m : Node) → goes_straight n ≡ true → n ≡ m → goes_straight m ≡ false → A
not_straight n m straight is other = from_false (sym other ∙ ap goes_straight (sym is) ∙ straight)

not_joined : {A : Type 0} (n m : Node) → is_join n ≡ false → n ≡ m → is_join m ≡ true → A
not_joined n m other is join = from_false (sym other ∙ ap is_join is ∙ join)

-- a rule whose node is none of these
bent : (N : List Node) (E : Node → Node → Type 0) (O : Node → Type 0) (next : Change) (rule : Transition) → Has N rule.node →
    goes_straight rule.node ≡ false → Going N E O next rule
bent N E O next rule has other =
    record { here = has; edge = λ straight m edge join. from_false (sym other ∙ straight); out = λ straight out. from_false (sym other ∙ straight) }

both_going : (N : List Node) (E : Node → Node → Type 0) (O : Node → Type 0) (next : Change) (xs ys : List Transition) → AllGoing N E O next xs →
    AllGoing N E O next ys → AllGoing N E O next (xs ++ ys)
both_going N E O next [] ys one two = two
both_going N E O next (x ∷ xs) ys one two = (one.0, both_going N E O next xs ys one.1 two)

where_going : (N : List Node) (E : Node → Node → Type 0) (O : Node → Type 0) (next : Change) (test : Bool) (rule : Transition) →
    (test ≡ true → Going N E O next rule) → AllGoing N E O next (rule_where test rule)
where_going N E O next true rule going = (going refl, tt)
where_going N E O next false rule going = tt

-- ---- a part in a greater one

-- where an edge of a greater part starts at an act or a head of a part: in the part, behind the part, or it is one of several
data From (E : Node → Node → Type 0) (O : Node → Type 0) (next : Change) (E' : Node → Node → Type 0) (n m : Node) : Type 0 where
  in_part : E n m → From E O next E' n m
  follows : O n → next ≡ SetsFlag m → From E O next E' n m
  forked : (k : Node) → E' n k → is_join k ≡ false → (k ≡ m → ⊥) → From E O next E' n m

module _ (N : List Node) (E : Node → Node → Type 0) (O : Node → Type 0) (next : Change) (N' : List Node) (E' : Node → Node → Type 0) (O' : Node → Type 0)
    (next' : Change) (has : (n : Node) → Has N n → Has N' n) (up : (n m : Node) → E n m → E' n m)
    (edges : (n m : Node) → goes_straight n ≡ true → Has N n → is_join m ≡ false → E' n m → From E O next E' n m)
    (outs : (n : Node) → goes_straight n ≡ true → Has N n → O' n → O n × (next ≡ next')) where
  one_wider : (rule : Transition) → Going N E O next rule → Going N' E' O' next' rule
  one_wider rule going = record {
    here = has rule.node going.here;
    edge = λ straight m edge join. by straight m join (edges rule.node m straight going.here join edge);
    out = λ straight out. (let on = outs rule.node straight going.here out in going.out straight on.0 ∙ ap (λ (c : Change). c ∷ []) on.1);
  }
    where
      leads_up : (m : Node) → Leads E rule m → Leads E' rule m
      leads_up m (sole is) = sole is
      leads_up m (split k edge join other) = split k (up rule.node k edge) join other

      by : goes_straight rule.node ≡ true → (m : Node) → is_join m ≡ false → From E O next E' rule.node m → Leads E' rule m
      by straight m join (in_part edge) = leads_up m (going.edge straight m edge join)
      by straight m join (follows out is) = sole (going.out straight out ∙ ap (λ (c : Change). c ∷ []) is)
      by straight m join (forked k edge other differ) = split k edge other differ

  all_wider : (rules : List Transition) → AllGoing N E O next rules → AllGoing N' E' O' next' rules
  all_wider [] all = tt
  all_wider (rule ∷ rest) all = (one_wider rule all.0, all_wider rest all.1)

-- ---- what is entered, and what ends

entered : (body : Block) (next : Change) (m : Node) → Entry body m → enter body next ≡ SetsFlag m
entered Done next m first = absurd first
entered (Then s rest) next m first = ap SetsFlag (sym first)

into_flag : (body : Block) (last m : Node) → Into body (λ k. k ≡ last) m → enter body (SetsFlag last) ≡ SetsFlag m
into_flag body last m (inl first) = entered body (SetsFlag last) m first
into_flag Done last m (inr none) = ap SetsFlag (sym none.1)
into_flag (Then s rest) last m (inr none) = from_false none.0

-- an act or a head at the end of the body of a `when` leads to its one end, or to both
ended : (E' : Node → Node → Type 0) (l : Label) (at : Place) (body : Block) (n m : Node) → OutAll body n →
    ((k : Node) → BodyEnd l at body k → E' n k) → BodyEnd l at body m → From (EdgeAll body) (OutAll body) (body_ends l at body) E' n m
ended E' l at body n m out up = by (are_instant body) refl
  where
    by : (instant : Bool) → are_instant body ≡ instant → BodyEnd l at body m →
        From (EdgeAll body) (OutAll body)
        (if instant then EndsWhen (StartAt l at) (SurfaceEndAt l at) (DepthEndAt l at) else SetsFlag (DepthEndAt l at)) E' n m
    by true is (inl surface) = forked (DepthEndAt l at) (up (DepthEndAt l at) (inr refl)) refl
        (λ same. (let both : DepthEndAt l at ≡ SurfaceEndAt l at = same ∙ surface.1 in absurd (cc)))
    by true is (inr depth) = forked (SurfaceEndAt l at) (up (SurfaceEndAt l at) (inl (is, refl))) refl
        (λ same. (let both : SurfaceEndAt l at ≡ DepthEndAt l at = same ∙ depth in absurd (cc)))
    by false is (inl surface) = from_false (sym is ∙ surface.0)
    by false is (inr depth) = follows out (ap SetsFlag (sym depth))

-- no end of a `when` goes straight
end_bent : {A : Type 0} (l : Label) (at : Place) (body : Block) (n : Node) → goes_straight n ≡ true → BodyEnd l at body n → A
end_bent l at body n straight (inl surface) = not_straight n (SurfaceEndAt l at) straight surface.1 refl
end_bent l at body n straight (inr depth) = not_straight n (DepthEndAt l at) straight depth refl

-- ---- rules

-- the nodes of a `when` behind those of its ends, and of a `cobegin` behind its joins
where_right : (test : Bool) (x n : Node) (rest : List Node) → Has rest n → Has (where_so test x ++ rest) n
where_right test x n rest has = has_right (where_so test x) rest n has

where_here : (test : Bool) (x : Node) (rest : List Node) → test ≡ true → Has (where_so test x ++ rest) x
where_here true x rest is = inl refl
where_here false x rest is = from_false is

differ_where : (test : Bool) (x : Node) (rest : List Node) → Differ (where_so test x ++ rest) → Differ rest
differ_where test x rest all = differ_right (where_so test x) rest all

-- an edge among branches that leads from an act or a head to no join starts in one of them
each_in : (bodies : Bodies) (l : Label) (at : Place) (instant : Bool) (n m : Node) → goes_straight n ≡ true → is_join m ≡ false →
    EdgeEach bodies l at instant n m → Has (nodes_in_each bodies) n
each_in Last l at instant n m straight join edge = absurd edge
each_in (BodyOf weak body rest) l at instant n m straight join (inl edge) = has_left (nodes_in body) (nodes_in_each rest) n (edge_in body n m edge).0
each_in (BodyOf weak body rest) l at instant n m straight join (inr (inl fork)) = not_straight n (ForkAt l at) straight fork.0 refl
each_in (BodyOf weak body rest) l at instant n m straight join (inr (inr (inl surface))) = not_joined m (SurfaceJoinAt l at) join surface.1.1 refl
each_in (BodyOf weak body rest) l at instant n m straight join (inr (inr (inr (inl depth)))) = not_joined m (DepthJoinAt l at) join depth.1 refl
each_in (BodyOf weak body rest) l at instant n m straight join (inr (inr (inr (inr edge)))) =
    has_right (nodes_in body) (nodes_in_each rest) n (each_in rest l at instant n m straight join edge)

-- a loop from a head to its last node: what an edge of it from a node of its body tells
turn_on : (body : Block) (first last n m : Node) → Differ (first ∷ nodes_in body) → Has (nodes_in body) n → LoopEdge body first last n m →
    OutAll body n × (m ≡ last)
turn_on body first last n m differ has (inl begins) = absurd (differ.0 (subst (Has (nodes_in body)) begins.0 has))
turn_on body first last n m differ has (inr back) = back

-- and one from the head
turn_in : (body : Block) (first last m : Node) → Differ (first ∷ nodes_in body) → LoopEdge body first last first m → Into body (λ k. k ≡ last) m
turn_in body first last m differ (inl begins) = begins.1
turn_in body first last m differ (inr back) = absurd (differ.0 (out_in body first back.0))

-- the head of a loop with its test at the end, and what stands in it
abbrev Looped : Label → Place → Block → Expr → Node → Node → Type 0
Looped l at body e n m = EdgeAll body n m ⊎ LoopEdge body (HeadAt l at) (TestAt l at e) n m ⊎ ((n ≡ TestAt l at e) × (m ≡ HeadAt l at))

head_alone : (l : Label) (at : Place) (body : Block) (e : Expr) → Differ (HeadAt l at ∷ TestAt l at e ∷ nodes_in body) →
    Differ (HeadAt l at ∷ nodes_in body)
head_alone l at body e differ = (λ has. differ.0 (inr has), differ.1.1)

head_first : (l : Label) (at : Place) (body : Block) (e : Expr) → Differ (HeadAt l at ∷ TestAt l at e ∷ nodes_in body) →
    goes_straight (HeadAt l at) ≡ true → (m : Node) → Looped l at body e (HeadAt l at) m → is_join m ≡ false →
    Leads (Looped l at body e) (flagged (HeadAt l at) (enter body (SetsFlag (TestAt l at e)) ∷ [])) m
head_first l at body e differ straight m (inl edge) join = absurd (differ.0 (inr (edge_in body (HeadAt l at) m edge).0))
head_first l at body e differ straight m (inr (inl turn)) join =
    sole (ap (λ (c : Change). c ∷ [])
    (into_flag body (TestAt l at e) m (turn_in body (HeadAt l at) (TestAt l at e) m (head_alone l at body e differ) turn)))
head_first l at body e differ straight m (inr (inr test)) join = not_straight (HeadAt l at) (TestAt l at e) straight test.0 refl

head_inside : (l : Label) (at : Place) (body : Block) (e : Expr) → Differ (HeadAt l at ∷ TestAt l at e ∷ nodes_in body) → (n m : Node) →
    goes_straight n ≡ true → Has (nodes_in body) n → is_join m ≡ false → Looped l at body e n m →
    From (EdgeAll body) (OutAll body) (SetsFlag (TestAt l at e)) (Looped l at body e) n m
head_inside l at body e differ n m straight has join (inl edge) = in_part edge
head_inside l at body e differ n m straight has join (inr (inl turn)) =
    (let on = turn_on body (HeadAt l at) (TestAt l at e) n m (head_alone l at body e differ) has turn in follows on.0 (ap SetsFlag (sym on.1)))
head_inside l at body e differ n m straight has join (inr (inr test)) = not_straight n (TestAt l at e) straight test.0 refl

module _ (slots : Slots) where
  mutual
    pub plain_going : (s : Plain) (next : Change) → Differ (nodes_of s) → AllGoing (nodes_of s) (Edge s) (Out s) next (rules_of slots s next)
    plain_going (Act l s) next differ =
        (record { here = inl refl; edge = λ straight m edge join. absurd edge; out = λ straight out. refl }, tt)
    plain_going (Await l at e) next differ = (
      bent _ (Edge (Await l at e)) (Out (Await l at e)) next _ (inl refl) refl,
      (bent _ (Edge (Await l at e)) (Out (Await l at e)) next _ (inr (inl refl)) refl, tt),
    )
    plain_going (RunOf l at target a inputs outputs) next differ = (
      bent _ (Edge (RunOf l at target a inputs outputs)) (Out (RunOf l at target a inputs outputs)) next _ (inl refl) refl,
      (bent _ (Edge (RunOf l at target a inputs outputs)) (Out (RunOf l at target a inputs outputs)) next _ (inr (inl refl)) refl, tt),
    )
    plain_going (If l at e body other) next differ = (
      bent _ (Edge (If l at e body other)) (Out (If l at e body other)) next _ (inl refl) refl,
      both_going (nodes_of (If l at e body other)) (Edge (If l at e body other)) (Out (If l at e body other)) next (rules_in slots body next)
          (rules_in slots other next)
          (all_wider (nodes_in body) (EdgeAll body) (OutAll body) next (nodes_of (If l at e body other)) (Edge (If l at e body other))
          (Out (If l at e body other)) next (λ n has. inr (has_left (nodes_in body) (nodes_in other) n has)) (λ n m edge. inl edge) body_edges body_outs
          (rules_in slots body next) (block_going body next (differ_left (nodes_in body) (nodes_in other) differ.1)))
          (all_wider (nodes_in other) (EdgeAll other) (OutAll other) next (nodes_of (If l at e body other)) (Edge (If l at e body other))
          (Out (If l at e body other)) next (λ n has. inr (has_right (nodes_in body) (nodes_in other) n has)) (λ n m edge. inr (inl edge)) other_edges other_outs
          (rules_in slots other next) (block_going other next (differ_right (nodes_in body) (nodes_in other) differ.1))),
    )
      where
        body_edges : (n m : Node) → goes_straight n ≡ true → Has (nodes_in body) n → is_join m ≡ false → Edge (If l at e body other) n m →
            From (EdgeAll body) (OutAll body) next (Edge (If l at e body other)) n m
        body_edges n m straight has join (inl edge) = in_part edge
        body_edges n m straight has join (inr (inl edge)) =
            absurd (apart (nodes_in body) (nodes_in other) n differ.1 has (edge_in other n m edge).0)
        body_edges n m straight has join (inr (inr test)) = not_straight n (TestAt l at e) straight test.0 refl

        body_outs : (n : Node) → goes_straight n ≡ true → Has (nodes_in body) n → Out (If l at e body other) n → OutAll body n × (next ≡ next)
        body_outs n straight has (inl out) = (out, refl)
        body_outs n straight has (inr (inl out)) = absurd (apart (nodes_in body) (nodes_in other) n differ.1 has (out_in other n out))
        body_outs n straight has (inr (inr test)) = not_straight n (TestAt l at e) straight test.1 refl

        other_edges : (n m : Node) → goes_straight n ≡ true → Has (nodes_in other) n → is_join m ≡ false → Edge (If l at e body other) n m →
            From (EdgeAll other) (OutAll other) next (Edge (If l at e body other)) n m
        other_edges n m straight has join (inl edge) =
            absurd (apart (nodes_in body) (nodes_in other) n differ.1 (edge_in body n m edge).0 has)
        other_edges n m straight has join (inr (inl edge)) = in_part edge
        other_edges n m straight has join (inr (inr test)) = not_straight n (TestAt l at e) straight test.0 refl

        other_outs : (n : Node) → goes_straight n ≡ true → Has (nodes_in other) n → Out (If l at e body other) n → OutAll other n × (next ≡ next)
        other_outs n straight has (inl out) = absurd (apart (nodes_in body) (nodes_in other) n differ.1 (out_in body n out) has)
        other_outs n straight has (inr (inl out)) = (out, refl)
        other_outs n straight has (inr (inr test)) = not_straight n (TestAt l at e) straight test.1 refl
    plain_going (Cobegin l at bodies) next differ =
        let N = nodes_of (Cobegin l at bodies) in
        let so = is_instant (Cobegin l at bodies) in
        let depth = DepthJoinAt l at ∷ nodes_in_each bodies in (
          bent N (Edge (Cobegin l at bodies)) (Out (Cobegin l at bodies)) next _ (inl refl) refl,
          both_going N (Edge (Cobegin l at bodies)) (Out (Cobegin l at bodies)) next _ _
              (where_going N (Edge (Cobegin l at bodies)) (Out (Cobegin l at bodies)) next so _
              (λ is. bent N (Edge (Cobegin l at bodies)) (Out (Cobegin l at bodies)) next _ (inr (where_here so (SurfaceJoinAt l at) depth is)) refl)) (
                bent N (Edge (Cobegin l at bodies)) (Out (Cobegin l at bodies)) next _
                    (inr (where_right so (SurfaceJoinAt l at) (DepthJoinAt l at) depth (inl refl))) refl,
                all_wider (nodes_in_each bodies) (EdgeEach bodies l at so) NoOut Finishes N (Edge (Cobegin l at bodies)) (Out (Cobegin l at bodies)) next
                    (λ n has. inr (where_right so (SurfaceJoinAt l at) n depth (inr has))) (λ n m edge. edge) (λ n m straight has join edge. in_part edge) no_out
                    (rules_in_each slots l 0 bodies)
                    (each_going l at so 0 bodies (differ_where so (SurfaceJoinAt l at) depth differ.1).1),
              ),
        )
      where
        no_out : (n : Node) → goes_straight n ≡ true → Has (nodes_in_each bodies) n → Out (Cobegin l at bodies) n → NoOut n × (Finishes ≡ next)
        no_out n straight has (inl surface) = not_straight n (SurfaceJoinAt l at) straight surface.1 refl
        no_out n straight has (inr depth) = not_straight n (DepthJoinAt l at) straight depth refl
    plain_going (When l at guard e body) next differ =
        let N = nodes_of (When l at guard e body) in
        let so = are_instant body in
        let behind = CheckAt l at e ∷ DepthEndAt l at ∷ nodes_in body in (
          bent N (Edge (When l at guard e body)) (Out (When l at guard e body)) next _ (inl refl) refl,
          both_going N (Edge (When l at guard e body)) (Out (When l at guard e body)) next _ _
              (where_going N (Edge (When l at guard e body)) (Out (When l at guard e body)) next so _
              (λ is. bent N (Edge (When l at guard e body)) (Out (When l at guard e body)) next _ (inr (where_here so (SurfaceEndAt l at) behind is)) refl)) (
                bent N (Edge (When l at guard e body)) (Out (When l at guard e body)) next _
                    (inr (where_right so (SurfaceEndAt l at) (CheckAt l at e) behind (inl refl))) refl,
                (
                  bent N (Edge (When l at guard e body)) (Out (When l at guard e body)) next _
                      (inr (where_right so (SurfaceEndAt l at) (DepthEndAt l at) behind (inr (inl refl)))) refl,
                  all_wider (nodes_in body) (EdgeAll body) (OutAll body) (body_ends l at body) N (Edge (When l at guard e body))
                      (Out (When l at guard e body)) next (λ n has. inr (where_right so (SurfaceEndAt l at) n behind (inr (inr has)))) (λ n m edge. inl edge) inside
                      (λ n straight has out. end_bent l at body n straight out) (rules_in slots body (body_ends l at body))
                      (block_going body (body_ends l at body) (differ_where so (SurfaceEndAt l at) behind differ.1).1.1),
                ),
              ),
        )
      where
        inside : (n m : Node) → goes_straight n ≡ true → Has (nodes_in body) n → is_join m ≡ false → Edge (When l at guard e body) n m →
            From (EdgeAll body) (OutAll body) (body_ends l at body) (Edge (When l at guard e body)) n m
        inside n m straight has join (inl edge) = in_part edge
        inside n m straight has join (inr (inl start)) = not_straight n (StartAt l at) straight start.0 refl
        inside n m straight has join (inr (inr (inl check))) = not_straight n (CheckAt l at e) straight check.0 refl
        inside n m straight has join (inr (inr (inr (inl check)))) = not_straight n (CheckAt l at e) straight check.0 refl
        inside n m straight has join (inr (inr (inr (inr out)))) =
            ended (Edge (When l at guard e body)) l at body n m out.0 (λ k end. inr (inr (inr (inr (out.0, end))))) out.1
    plain_going (Repeat l at body) next differ = (
      record { here = inl refl; edge = first; out = λ straight out. absurd out },
      all_wider (nodes_in body) (EdgeAll body) (OutAll body) (SetsFlag (HeadAt l at)) (nodes_of (Repeat l at body)) (Edge (Repeat l at body))
          (Out (Repeat l at body)) next (λ n has. inr has) (λ n m edge. inl edge) inside (λ n straight has out. absurd out)
          (rules_in slots body (SetsFlag (HeadAt l at))) (block_going body (SetsFlag (HeadAt l at)) differ.1),
    )
      where
        first : goes_straight (HeadAt l at) ≡ true → (m : Node) → Edge (Repeat l at body) (HeadAt l at) m → is_join m ≡ false →
            Leads (Edge (Repeat l at body)) (flagged (HeadAt l at) (enter body (SetsFlag (HeadAt l at)) ∷ [])) m
        first straight m (inl edge) join = absurd (differ.0 (edge_in body (HeadAt l at) m edge).0)
        first straight m (inr turn) join =
            sole (ap (λ (c : Change). c ∷ []) (into_flag body (HeadAt l at) m (turn_in body (HeadAt l at) (HeadAt l at) m differ turn)))

        inside : (n m : Node) → goes_straight n ≡ true → Has (nodes_in body) n → is_join m ≡ false → Edge (Repeat l at body) n m →
            From (EdgeAll body) (OutAll body) (SetsFlag (HeadAt l at)) (Edge (Repeat l at body)) n m
        inside n m straight has join (inl edge) = in_part edge
        inside n m straight has join (inr turn) =
            (let on = turn_on body (HeadAt l at) (HeadAt l at) n m differ has turn in follows on.0 (ap SetsFlag (sym on.1)))
    plain_going (Until l at body e) next differ = (
      record { here = inl refl; edge = head_first l at body e differ; out = λ straight out. not_straight (HeadAt l at) (TestAt l at e) refl out refl },
      (
        bent _ (Edge (Until l at body e)) (Out (Until l at body e)) next _ (inr (inl refl)) refl,
        all_wider (nodes_in body) (EdgeAll body) (OutAll body) (SetsFlag (TestAt l at e)) (nodes_of (Until l at body e)) (Edge (Until l at body e))
            (Out (Until l at body e)) next (λ n has. inr (inr has)) (λ n m edge. inl edge) (head_inside l at body e differ)
            (λ n straight has out. not_straight n (TestAt l at e) straight out refl)
            (rules_in slots body (SetsFlag (TestAt l at e))) (block_going body (SetsFlag (TestAt l at e)) differ.1.1),
      ),
    )
    plain_going (While l at e body) next differ = (
      bent _ (Edge (While l at e body)) (Out (While l at e body)) next _ (inl refl) refl,
      all_wider (nodes_in body) (EdgeAll body) (OutAll body) (SetsFlag (TestAt l at e)) (nodes_of (While l at e body)) (Edge (While l at e body))
          (Out (While l at e body)) next (λ n has. inr has) (λ n m edge. inl edge) inside (λ n straight has out. not_straight n (TestAt l at e) straight out refl)
          (rules_in slots body (SetsFlag (TestAt l at e))) (block_going body (SetsFlag (TestAt l at e)) differ.1),
    )
      where
        inside : (n m : Node) → goes_straight n ≡ true → Has (nodes_in body) n → is_join m ≡ false → Edge (While l at e body) n m →
            From (EdgeAll body) (OutAll body) (SetsFlag (TestAt l at e)) (Edge (While l at e body)) n m
        inside n m straight has join (inl edge) = in_part edge
        inside n m straight has join (inr turn) =
            (let on = turn_on body (TestAt l at e) (TestAt l at e) n m differ has turn in follows on.0 (ap SetsFlag (sym on.1)))
    plain_going (Again l at body e) next differ = (
      record { here = inl refl; edge = head_first l at body e differ; out = λ straight out. not_straight (HeadAt l at) (TestAt l at e) refl out refl },
      (
        bent _ (Edge (Again l at body e)) (Out (Again l at body e)) next _ (inr (inl refl)) refl,
        all_wider (nodes_in body) (EdgeAll body) (OutAll body) (SetsFlag (TestAt l at e)) (nodes_of (Again l at body e)) (Edge (Again l at body e))
            (Out (Again l at body e)) next (λ n has. inr (inr has)) (λ n m edge. inl edge) (head_inside l at body e differ)
            (λ n straight has out. not_straight n (TestAt l at e) straight out refl)
            (rules_in slots body (SetsFlag (TestAt l at e))) (block_going body (SetsFlag (TestAt l at e)) differ.1.1),
      ),
    )

    pub block_going : (body : Block) (next : Change) → Differ (nodes_in body) →
        AllGoing (nodes_in body) (EdgeAll body) (OutAll body) next (rules_in slots body next)
    block_going Done next differ = tt
    block_going (Then s rest) next differ =
        both_going (nodes_in (Then s rest)) (EdgeAll (Then s rest)) (OutAll (Then s rest)) next (rules_of slots s (enter rest next)) (rules_in slots rest next)
        (all_wider (nodes_of s) (Edge s) (Out s) (enter rest next) (nodes_in (Then s rest)) (EdgeAll (Then s rest)) (OutAll (Then s rest)) next
        (λ n has. has_left (nodes_of s) (nodes_in rest) n has) (λ n m edge. inl edge) first_edges first_outs (rules_of slots s (enter rest next))
        (plain_going s (enter rest next) (differ_left (nodes_of s) (nodes_in rest) differ)))
        (all_wider (nodes_in rest) (EdgeAll rest) (OutAll rest) next (nodes_in (Then s rest)) (EdgeAll (Then s rest)) (OutAll (Then s rest)) next
        (λ n has. has_right (nodes_of s) (nodes_in rest) n has) (λ n m edge. inr (inl edge)) later_edges later_outs (rules_in slots rest next)
        (block_going rest next (differ_right (nodes_of s) (nodes_in rest) differ)))
      where
        first_edges : (n m : Node) → goes_straight n ≡ true → Has (nodes_of s) n → is_join m ≡ false → EdgeAll (Then s rest) n m →
            From (Edge s) (Out s) (enter rest next) (EdgeAll (Then s rest)) n m
        first_edges n m straight has join (inl edge) = in_part edge
        first_edges n m straight has join (inr (inl edge)) = absurd (apart (nodes_of s) (nodes_in rest) n differ has (edge_in rest n m edge).0)
        first_edges n m straight has join (inr (inr on)) = follows on.0 (entered rest next m on.1)

        first_outs : (n : Node) → goes_straight n ≡ true → Has (nodes_of s) n → OutAll (Then s rest) n → Out s n × (enter rest next ≡ next)
        first_outs n straight has (inl out) = absurd (apart (nodes_of s) (nodes_in rest) n differ has (out_in rest n out))
        first_outs n straight has (inr on) = (on.1, by rest on.0)
          where
            by : (b : Block) → is_empty b ≡ true → enter b next ≡ next
            by Done none = refl
            by (Then s more) none = from_false none

        later_edges : (n m : Node) → goes_straight n ≡ true → Has (nodes_in rest) n → is_join m ≡ false → EdgeAll (Then s rest) n m →
            From (EdgeAll rest) (OutAll rest) next (EdgeAll (Then s rest)) n m
        later_edges n m straight has join (inl edge) = absurd (apart (nodes_of s) (nodes_in rest) n differ (edge_has s n m edge).0 has)
        later_edges n m straight has join (inr (inl edge)) = in_part edge
        later_edges n m straight has join (inr (inr on)) = absurd (apart (nodes_of s) (nodes_in rest) n differ (out_has s n on.0) has)

        later_outs : (n : Node) → goes_straight n ≡ true → Has (nodes_in rest) n → OutAll (Then s rest) n → OutAll rest n × (next ≡ next)
        later_outs n straight has (inl out) = (out, refl)
        later_outs n straight has (inr on) = absurd (apart (nodes_of s) (nodes_in rest) n differ (out_has s n on.1) has)

    -- branches go on by no flag
    each_going : (l : Label) (at : Place) (instant : Bool) (k : ℕ) (bodies : Bodies) → Differ (nodes_in_each bodies) →
        AllGoing (nodes_in_each bodies) (EdgeEach bodies l at instant) NoOut Finishes (rules_in_each slots l k bodies)
    each_going l at instant k Last differ = tt
    each_going l at instant k (BodyOf weak body rest) differ =
        both_going (nodes_in_each (BodyOf weak body rest)) (EdgeEach (BodyOf weak body rest) l at instant) NoOut Finishes
        (rules_in slots body (SetsCounter (slots.ending l k))) (rules_in_each slots l (suc k) rest)
        (all_wider (nodes_in body) (EdgeAll body) (OutAll body) (SetsCounter (slots.ending l k)) (nodes_in_each (BodyOf weak body rest))
        (EdgeEach (BodyOf weak body rest) l at instant) NoOut Finishes (λ n has. has_left (nodes_in body) (nodes_in_each rest) n has) (λ n m edge. inl edge) inside
        (λ n straight has out. absurd out) (rules_in slots body (SetsCounter (slots.ending l k)))
        (block_going body (SetsCounter (slots.ending l k)) (differ_left (nodes_in body) (nodes_in_each rest) differ)))
        (all_wider (nodes_in_each rest) (EdgeEach rest l at instant) NoOut Finishes (nodes_in_each (BodyOf weak body rest))
        (EdgeEach (BodyOf weak body rest) l at instant) NoOut Finishes (λ n has. has_right (nodes_in body) (nodes_in_each rest) n has)
        (λ n m edge. inr (inr (inr (inr edge)))) later
        (λ n straight has out. absurd out) (rules_in_each slots l (suc k) rest)
        (each_going l at instant (suc k) rest (differ_right (nodes_in body) (nodes_in_each rest) differ)))
      where
        inside : (n m : Node) → goes_straight n ≡ true → Has (nodes_in body) n → is_join m ≡ false → EdgeEach (BodyOf weak body rest) l at instant n m →
            From (EdgeAll body) (OutAll body) (SetsCounter (slots.ending l k)) (EdgeEach (BodyOf weak body rest) l at instant) n m
        inside n m straight has join (inl edge) = in_part edge
        inside n m straight has join (inr (inl fork)) = not_straight n (ForkAt l at) straight fork.0 refl
        inside n m straight has join (inr (inr (inl surface))) = not_joined m (SurfaceJoinAt l at) join surface.1.1 refl
        inside n m straight has join (inr (inr (inr (inl depth)))) = not_joined m (DepthJoinAt l at) join depth.1 refl
        inside n m straight has join (inr (inr (inr (inr edge)))) =
            absurd (apart (nodes_in body) (nodes_in_each rest) n differ has (each_in rest l at instant n m straight join edge))

        later : (n m : Node) → goes_straight n ≡ true → Has (nodes_in_each rest) n → is_join m ≡ false → EdgeEach (BodyOf weak body rest) l at instant n m →
            From (EdgeEach rest l at instant) NoOut Finishes (EdgeEach (BodyOf weak body rest) l at instant) n m
        later n m straight has join (inl edge) = absurd (apart (nodes_in body) (nodes_in_each rest) n differ (edge_in body n m edge).0 has)
        later n m straight has join (inr (inl fork)) = not_straight n (ForkAt l at) straight fork.0 refl
        later n m straight has join (inr (inr (inl surface))) = not_joined m (SurfaceJoinAt l at) join surface.1.1 refl
        later n m straight has join (inr (inr (inr (inl depth)))) = not_joined m (DepthJoinAt l at) join depth.1 refl
        later n m straight has join (inr (inr (inr (inr edge)))) = in_part edge

-- ---- a rule among others

pub going_at : (N : List Node) (E : Node → Node → Type 0) (O : Node → Type 0) (next : Change) (some : List Transition) (rule : Transition) →
    AllGoing N E O next some → Contains some rule → Going N E O next rule
going_at N E O next [] rule all has = let less = has.1 in absurd (omega (arith, less))
going_at N E O next (r ∷ rest) rule all (zero, within, is) = subst (Going N E O next) is all.0
going_at N E O next (r ∷ rest) rule all (suc k, within, is) = going_at N E O next rest rule all.1 (k, omega arith, is)

-- ---- lists of different nodes

has_at : (xs : List Node) (n : Node) → Has xs n → (j : ℕ) × (slice_get xs j ≡ Some n)
has_at [] n has = absurd has
has_at (x ∷ xs) n (inl is) = (0, ap Some (sym is))
has_at (x ∷ xs) n (inr has) = let rest = has_at xs n has in (suc rest.0, rest.1)

pub all_differ : (xs : List Node) → ((i j : ℕ) (n : Node) → slice_get xs i ≡ Some n → slice_get xs j ≡ Some n → i ≡ j) → Differ xs
all_differ [] once = tt
all_differ (x ∷ xs) once = (
  λ has. (let at = has_at xs x has in let same : 0 ≡ suc at.0 = once 0 (suc at.0) x refl at.1 in absurd (omega (arith, same))),
  all_differ xs (λ i j n one two. (let same : suc i ≡ suc j = once (suc i) (suc j) n one two in omega (arith, same))),
)
