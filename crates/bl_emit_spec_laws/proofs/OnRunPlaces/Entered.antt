-- The `run`s of a body are those of the nodes at which one begins, and those of the nodes at which one goes on.
use Rattle.std.proofs.Common.{◌≡◌, ◌⊎◌, inl, inr, ℕ, zero, suc, Bool, true, false, List, [], ◌∷◌, ◌++◌, length, Some}
use Rattle.std.proofs.Common.{refl, sym, ap, ap₂, subst, ◌∙◌, arith, append_assoc, if◌then◌else◌}
use Rattle.std.proofs.lemmas.List.{length-append}
use Rattle.std.proofs.lemmas.Option.{same_Some}
use Rattle.std.specs.Prelude.{slice_get}
use Rattle.bl_graph_nodes.specs.Nodes.{ActAt, CheckAt, DepthEndAt, DepthJoinAt, EnterAt, ForkAt, HeadAt, Node, PauseAt, ResumeAt, StartAt, SurfaceEndAt}
use Rattle.bl_graph_nodes.specs.Nodes.{SurfaceJoinAt, TestAt, are_instant, is_instant, nodes_in, nodes_in_each, nodes_of, where_so}
use Rattle.bl_graph_nodes.specs.Plain.{Act, Again, Await, Block, Bodies, Body as BodyOf, Cobegin, Done, If, Last, Plain, Repeat, Run as RunIn, Then, Until}
use Rattle.bl_graph_nodes.specs.Plain.{When, While}
use Rattle.bl_ctree_laws.specs.Trees.{Call}
use Rattle.bl_ctree_laws_traces.proofs.OnBounded.Calls.{calls_in, calls_in_each, calls_of}
use Rattle.bl_ctree_laws_traces.proofs.OnBounded.Lists.{among_either}
use Rattle.bl_machine_transitions.specs.Callees.{callees_in, callees_in_each, callees_of, zero_where}
use Rattle.bl_emit_spec_laws.proofs.OnRemember.Entering.{append_many, where_many}
use Rattle.bl_tree.proofs.FirstLemmas.{In}
use Rattle.bl_ctree_laws_confluence.proofs.OnApart.Members.{in_left, in_right}

-- ---- nodes of `run`s

-- the node at which a `run` begins, or at which it goes on
abbrev pub node_by : Bool → Call → Node
node_by false s = EnterAt s.label s.place s.arguments
node_by true s = ResumeAt s.label s.place s.arguments

-- the `run` of a node of that kind, by the activity that it calls
abbrev pub pick : Bool → Node → ℕ → List Call
pick late (EnterAt l at arguments) u =
    if late then [] else record { label = l; place = at; unit = u; arguments = arguments } ∷ []
pick late (ResumeAt l at arguments) u =
    if late then record { label = l; place = at; unit = u; arguments = arguments } ∷ [] else []
pick late (ActAt l s) u = []
pick late (TestAt l at e) u = []
pick late (PauseAt l at) u = []
pick late (HeadAt l at) u = []
pick late (StartAt l at) u = []
pick late (CheckAt l at e) u = []
pick late (SurfaceEndAt l at) u = []
pick late (DepthEndAt l at) u = []
pick late (ForkAt l at) u = []
pick late (SurfaceJoinAt l at) u = []
pick late (DepthJoinAt l at) u = []

-- those of nodes
abbrev pub picked_calls : Bool → List Node → List ℕ → List Call
picked_calls late [] us = []
picked_calls late (n ∷ ns) [] = []
picked_calls late (n ∷ ns) (u ∷ us) = pick late n u ++ picked_calls late ns us

picked_both : (late : Bool) (ns ms : List Node) (us vs : List ℕ) → length us ≡ length ns →
    picked_calls late (ns ++ ms) (us ++ vs) ≡ picked_calls late ns us ++ picked_calls late ms vs
picked_both late [] ms [] vs many = refl
picked_both late [] ms (u ∷ us) vs many = absurd (omega (arith, many))
picked_both late (n ∷ ns) ms [] vs many = absurd (omega (arith, many))
picked_both late (n ∷ ns) ms (u ∷ us) vs many =
    ap (λ calls. pick late n u ++ calls)
    (picked_both late ns ms us vs (let less : length us ≡ length ns = omega (arith, many) in less))
    ∙ sym (append_assoc (pick late n u) (picked_calls late ns us) (picked_calls late ms vs))

-- a node of another kind, where it stands
behind_where : (late b : Bool) (n : Node) (ns : List Node) (us : List ℕ) → pick late n 0 ≡ [] →
    picked_calls late (where_so b n ++ ns) (zero_where b ++ us) ≡ picked_calls late ns us
behind_where late true n ns us none = ap (λ calls. calls ++ picked_calls late ns us) none
behind_where late false n ns us none = refl

-- ---- as many as nodes

mutual
  callees_many : (s : Plain) → length (callees_of s) ≡ length (nodes_of s)
  callees_many (Act l s) = refl
  callees_many (Await l at e) = refl
  callees_many (RunIn l at target a inputs outputs) = refl
  callees_many (If l at e body other) =
      ap suc (append_many (callees_in body) (callees_in other) (nodes_in body) (nodes_in other) (callees_in_many body) (callees_in_many other))
  callees_many (Cobegin l at bodies) =
      let rest = callees_each_many bodies in
      let own = where_many (is_instant (Cobegin l at bodies)) (SurfaceJoinAt l at) in
      let a = length-append (zero_where (is_instant (Cobegin l at bodies))) (0 ∷ callees_in_each bodies) in
      let b = length-append (where_so (is_instant (Cobegin l at bodies)) (SurfaceJoinAt l at))
      (DepthJoinAt l at ∷ nodes_in_each bodies) in omega arith
  callees_many (When l at guard e body) =
      let rest = callees_in_many body in
      let own = where_many (are_instant body) (SurfaceEndAt l at) in
      let a = length-append (zero_where (are_instant body)) (0 ∷ 0 ∷ callees_in body) in
      let b = length-append (where_so (are_instant body) (SurfaceEndAt l at)) (CheckAt l at e ∷ DepthEndAt l at ∷ nodes_in body) in omega arith
  callees_many (Repeat l at body) = ap suc (callees_in_many body)
  callees_many (Until l at body e) = ap (λ n. suc (suc n)) (callees_in_many body)
  callees_many (While l at e body) = ap suc (callees_in_many body)
  callees_many (Again l at body e) = ap (λ n. suc (suc n)) (callees_in_many body)

  callees_in_many : (body : Block) → length (callees_in body) ≡ length (nodes_in body)
  callees_in_many Done = refl
  callees_in_many (Then s rest) =
      append_many (callees_of s) (callees_in rest) (nodes_of s) (nodes_in rest) (callees_many s) (callees_in_many rest)

  callees_each_many : (bodies : Bodies) → length (callees_in_each bodies) ≡ length (nodes_in_each bodies)
  callees_each_many Last = refl
  callees_each_many (BodyOf weak body rest) =
      append_many (callees_in body) (callees_in_each rest) (nodes_in body) (nodes_in_each rest) (callees_in_many body) (callees_each_many rest)

-- ---- the `run`s are those of nodes

own_calls : (late : Bool) (s : Call) → pick late (EnterAt s.label s.place s.arguments) s.unit
    ++ (pick late (ResumeAt s.label s.place s.arguments) s.unit ++ []) ≡ s ∷ []
own_calls true s = refl
own_calls false s = refl

mutual
  calls_are : (late : Bool) (s : Plain) → picked_calls late (nodes_of s) (callees_of s) ≡ calls_of s
  calls_are late (Act l s) = refl
  calls_are late (Await l at e) = refl
  calls_are late (RunIn l at target a inputs outputs) =
      own_calls late (record { label = l; place = at; unit = a; arguments = record { target = target; inputs = inputs; outputs = outputs } })
  calls_are late (If l at e body other) =
      picked_both late (nodes_in body) (nodes_in other) (callees_in body) (callees_in other) (callees_in_many body)
      ∙ ap₂ (λ one two. one ++ two) (calls_in_are late body) (calls_in_are late other)
  calls_are late (Cobegin l at bodies) =
      behind_where late (is_instant (Cobegin l at bodies)) (SurfaceJoinAt l at) (DepthJoinAt l at ∷ nodes_in_each bodies)
      (0 ∷ callees_in_each bodies) refl
      ∙ calls_each_are late bodies
  calls_are late (When l at guard e body) =
      behind_where late (are_instant body) (SurfaceEndAt l at) (CheckAt l at e ∷ DepthEndAt l at ∷ nodes_in body) (0 ∷ 0 ∷ callees_in body) refl
      ∙ calls_in_are late body
  calls_are late (Repeat l at body) = calls_in_are late body
  calls_are late (Until l at body e) = calls_in_are late body
  calls_are late (While l at e body) = calls_in_are late body
  calls_are late (Again l at body e) = calls_in_are late body

  pub calls_in_are : (late : Bool) (body : Block) → picked_calls late (nodes_in body) (callees_in body) ≡ calls_in body
  calls_in_are late Done = refl
  calls_in_are late (Then s rest) =
      picked_both late (nodes_of s) (nodes_in rest) (callees_of s) (callees_in rest) (callees_many s)
      ∙ ap₂ (λ one two. one ++ two) (calls_are late s) (calls_in_are late rest)

  calls_each_are : (late : Bool) (bodies : Bodies) → picked_calls late (nodes_in_each bodies) (callees_in_each bodies) ≡ calls_in_each bodies
  calls_each_are late Last = refl
  calls_each_are late (BodyOf weak body rest) =
      picked_both late (nodes_in body) (nodes_in_each rest) (callees_in body) (callees_in_each rest) (callees_in_many body)
      ∙ ap₂ (λ one two. one ++ two) (calls_in_are late body) (calls_each_are late rest)

-- ---- positions

-- the node at which a `run` begins stands at a position, and its activity at the same one
pub record CallAt (ns : List Node) (us : List ℕ) (s : Call) : Type 0 where
  pub position : ℕ
  pub node : slice_get ns position ≡ Some (EnterAt s.label s.place s.arguments)
  pub unit : slice_get us position ≡ Some s.unit

pick_is : (n : Node) (u : ℕ) (s : Call) → In s (pick false n u) → (n ≡ EnterAt s.label s.place s.arguments) × (u ≡ s.unit)
pick_is (EnterAt l at arguments) u s (inl is) =
    (sym (ap (λ (s : Call). EnterAt s.label s.place s.arguments) is), sym (ap (λ (s : Call). s.unit) is))
pick_is (EnterAt l at arguments) u s (inr none) = absurd none
pick_is (ResumeAt l at arguments) u s there = absurd there
pick_is (ActAt l a) u s there = absurd there
pick_is (TestAt l at e) u s there = absurd there
pick_is (PauseAt l at) u s there = absurd there
pick_is (HeadAt l at) u s there = absurd there
pick_is (StartAt l at) u s there = absurd there
pick_is (CheckAt l at e) u s there = absurd there
pick_is (SurfaceEndAt l at) u s there = absurd there
pick_is (DepthEndAt l at) u s there = absurd there
pick_is (ForkAt l at) u s there = absurd there
pick_is (SurfaceJoinAt l at) u s there = absurd there
pick_is (DepthJoinAt l at) u s there = absurd there

pub entered_at : (ns : List Node) (us : List ℕ) (s : Call) → In s (picked_calls false ns us) → CallAt ns us s
entered_at [] us s there = absurd there
entered_at (n ∷ ns) [] s there = absurd there
entered_at (n ∷ ns) (u ∷ us) s there =
    by (λ later. entered_at ns us s later) (among_either s (pick false n u) (picked_calls false ns us) there)
  where
    by : (In s (picked_calls false ns us) → CallAt ns us s) → In s (pick false n u) ⊎ In s (picked_calls false ns us) →
        CallAt (n ∷ ns) (u ∷ us) s
    by more (inl here) = let is = pick_is n u s here in record { position = 0; node = ap Some is.0; unit = ap Some is.1 }
    by more (inr later) = let rest = more later in record { position = suc rest.position; node = rest.node; unit = rest.unit }

own_there : (late : Bool) (s : Call) → In s (pick late (node_by late s) s.unit)
own_there true s = inl refl
own_there false s = inl refl

pub call_there : (late : Bool) (ns : List Node) (us : List ℕ) (p : ℕ) (s : Call) → slice_get ns p ≡ Some (node_by late s) →
    slice_get us p ≡ Some s.unit → In s (picked_calls late ns us)
call_there late [] us p s node unit = absurd (cc)
call_there late (n ∷ ns) [] p s node unit = absurd (cc)
call_there late (n ∷ ns) (u ∷ us) zero s node unit =
    in_left s (pick late n u) (picked_calls late ns us)
    (subst (λ n. In s (pick late n u)) (sym (same_Some n (node_by late s) node))
    (subst (λ u. In s (pick late (node_by late s) u)) (sym (same_Some u s.unit unit)) (own_there late s)))
call_there late (n ∷ ns) (u ∷ us) (suc p) s node unit =
    in_right s (pick late n u) (picked_calls late ns us) (call_there late ns us p s node unit)
