-- The `run`s of a body, among the activities that its nodes call.
use Rattle.std.proofs.Common.{◌≡◌, ◌⊎◌, inl, inr, ℕ, zero, suc, Bool, true, false, List, [], ◌∷◌, ◌++◌, length}
use Rattle.std.proofs.Common.{Contains, Some, refl, sym, ap, arith}
use Rattle.std.proofs.lemmas.List.{length-append}
use Rattle.std.specs.Prelude.{slice_get}
use Rattle.bl_tree.specs.declared.place.Place.{Place}
use Rattle.bl_tree.proofs.FirstLemmas.{In}
use Rattle.bl_graph_nodes.specs.Nodes.{Arguments, EnterAt, Node, are_instant, is_instant, nodes_in, nodes_in_each, nodes_of, where_so}
use Rattle.bl_graph_nodes.specs.Nodes.{CheckAt, DepthEndAt, DepthJoinAt, SurfaceEndAt, SurfaceJoinAt, arguments_of}
use Rattle.bl_graph_nodes.specs.Plain.{Act, Again, Await, Block, Bodies, Body as BodyOf, Cobegin, Done, If, Label, Last, Plain, Repeat, Run as RunOf, Then}
use Rattle.bl_graph_nodes.specs.Plain.{Until, When, While}
use Rattle.bl_ctree_laws.specs.Trees.{Call}
use Rattle.bl_ctree_laws_traces.proofs.OnBounded.Calls.{calls_in, calls_in_each, calls_of}
use Rattle.bl_ctree_laws_traces.proofs.OnBounded.Lists.{among_either}
use Rattle.bl_machine_transitions.specs.Callees.{callees_in, callees_in_each, callees_of, zero_where}
use Rattle.bl_emit_spec.specs.Activities.{RunAt}

-- the node begins a `run`
pub record Enters (n : Node) : Type 0 where
  pub label : Label
  pub at : Place
  pub arguments : Arguments
  pub is : n ≡ EnterAt label at arguments

-- some node among these begins a `run` of the activity
abbrev pub Entered : ℕ → List Node → List ℕ → Type 0
Entered u [] cs = ⊥
Entered u (n ∷ ns) [] = ⊥
Entered u (n ∷ ns) (c ∷ cs) = (Enters n × (c ≡ u)) ⊎ Entered u ns cs

entered_left : (u : ℕ) (ns ms : List Node) (cs ds : List ℕ) → Entered u ns cs → Entered u (ns ++ ms) (cs ++ ds)
entered_left u [] ms cs ds at = absurd at
entered_left u (n ∷ ns) ms [] ds at = absurd at
entered_left u (n ∷ ns) ms (c ∷ cs) ds (inl is) = inl is
entered_left u (n ∷ ns) ms (c ∷ cs) ds (inr at) = inr (entered_left u ns ms cs ds at)

entered_right : (u : ℕ) (ns ms : List Node) (cs ds : List ℕ) → length cs ≡ length ns → Entered u ms ds → Entered u (ns ++ ms) (cs ++ ds)
entered_right u [] ms [] ds many at = at
entered_right u [] ms (c ∷ cs) ds many at = absurd (omega (arith, many))
entered_right u (n ∷ ns) ms [] ds many at = absurd (omega (arith, many))
entered_right u (n ∷ ns) ms (c ∷ cs) ds many at =
    inr (entered_right u ns ms cs ds (let less : length cs ≡ length ns = omega (arith, many) in less) at)

-- ---- as many as nodes

pub append_many : (xs ys : List ℕ) (ns ms : List Node) → length xs ≡ length ns → length ys ≡ length ms → length (xs ++ ys)
    ≡ length (ns ++ ms)
append_many xs ys ns ms one two = let a = length-append xs ys in let b = length-append ns ms in omega (arith, one, two)

pub where_many : (b : Bool) (n : Node) → length (zero_where b) ≡ length (where_so b n)
where_many true n = refl
where_many false n = refl

mutual
  callees_many : (s : Plain) → length (callees_of s) ≡ length (nodes_of s)
  callees_many (Act l s) = refl
  callees_many (Await l at e) = refl
  callees_many (RunOf l at target a inputs outputs) = refl
  callees_many (If l at e body other) =
      ap suc (append_many (callees_in body) (callees_in other) (nodes_in body) (nodes_in other) (callees_in_many body) (callees_in_many other))
  callees_many (Cobegin l at bodies) =
      let rest = callees_each_many bodies in
      let own = where_many (is_instant (Cobegin l at bodies)) (SurfaceJoinAt l at) in
      let a = length-append (zero_where (is_instant (Cobegin l at bodies))) (0 ∷ callees_in_each bodies) in
      let b = length-append (where_so (is_instant (Cobegin l at bodies)) (SurfaceJoinAt l at))
      (DepthJoinAt l at ∷ nodes_in_each bodies) in omega arith
  callees_many (When l at guard e body) =
      let rest = callees_in_many body in
      let own = where_many (are_instant body) (SurfaceEndAt l at) in
      let a = length-append (zero_where (are_instant body)) (0 ∷ 0 ∷ callees_in body) in
      let b = length-append (where_so (are_instant body) (SurfaceEndAt l at)) (CheckAt l at e ∷ DepthEndAt l at ∷ nodes_in body) in omega arith
  callees_many (Repeat l at body) = ap suc (callees_in_many body)
  callees_many (Until l at body e) = ap (λ n. suc (suc n)) (callees_in_many body)
  callees_many (While l at e body) = ap suc (callees_in_many body)
  callees_many (Again l at body e) = ap (λ n. suc (suc n)) (callees_in_many body)

  pub callees_in_many : (body : Block) → length (callees_in body) ≡ length (nodes_in body)
  callees_in_many Done = refl
  callees_in_many (Then s rest) =
      append_many (callees_of s) (callees_in rest) (nodes_of s) (nodes_in rest) (callees_many s) (callees_in_many rest)

  callees_each_many : (bodies : Bodies) → length (callees_in_each bodies) ≡ length (nodes_in_each bodies)
  callees_each_many Last = refl
  callees_each_many (BodyOf weak body rest) =
      append_many (callees_in body) (callees_in_each rest) (nodes_in body) (nodes_in_each rest) (callees_in_many body) (callees_each_many rest)

-- ---- each `run` is begun by a node

either : {A : Type 0} (s : Call) (xs ys : List Call) → In s (xs ++ ys) → (In s xs → A) → (In s ys → A) → A
either {A} s xs ys at first second = by (among_either s xs ys at)
  where
    by : In s xs ⊎ In s ys → A
    by (inl one) = first one
    by (inr other) = second other

mutual
  call_entered : (p : Plain) (s : Call) → In s (calls_of p) → Entered s.unit (nodes_of p) (callees_of p)
  call_entered (Act l a) s at = absurd at
  call_entered (Await l at e) s there = absurd there
  call_entered (RunOf l at target a inputs outputs) s (inl is) =
      inl (
        record { label = l; at = at; arguments = arguments_of target inputs outputs; is = refl },
        sym (ap (λ (c : Call). c.unit) is),
      )
  call_entered (RunOf l at target a inputs outputs) s (inr none) = absurd none
  call_entered (If l at e body other) s there =
      inr (either s (calls_in body) (calls_in other) there
      (λ one. entered_left s.unit (nodes_in body) (nodes_in other) (callees_in body) (callees_in other) (calls_entered body s one))
      (λ two. entered_right s.unit (nodes_in body) (nodes_in other) (callees_in body) (callees_in other) (callees_in_many body)
      (calls_entered other s two)))
  call_entered (Cobegin l at bodies) s there =
      inr (entered_right s.unit (where_so (is_instant (Cobegin l at bodies)) (SurfaceJoinAt l at)) (DepthJoinAt l at ∷ nodes_in_each bodies)
      (zero_where (is_instant (Cobegin l at bodies))) (0 ∷ callees_in_each bodies)
      (where_many (is_instant (Cobegin l at bodies)) (SurfaceJoinAt l at))
      (inr (each_entered bodies s there)))
  call_entered (When l at guard e body) s there =
      inr (entered_right s.unit (where_so (are_instant body) (SurfaceEndAt l at)) (CheckAt l at e ∷ DepthEndAt l at ∷ nodes_in body)
      (zero_where (are_instant body)) (0 ∷ 0 ∷ callees_in body) (where_many (are_instant body) (SurfaceEndAt l at))
      (inr (inr (calls_entered body s there))))
  call_entered (Repeat l at body) s there = inr (calls_entered body s there)
  call_entered (Until l at body e) s there = inr (inr (calls_entered body s there))
  call_entered (While l at e body) s there = inr (calls_entered body s there)
  call_entered (Again l at body e) s there = inr (inr (calls_entered body s there))

  pub calls_entered : (body : Block) (s : Call) → In s (calls_in body) → Entered s.unit (nodes_in body) (callees_in body)
  calls_entered Done s at = absurd at
  calls_entered (Then p rest) s at =
      either s (calls_of p) (calls_in rest) at
      (λ one. entered_left s.unit (nodes_of p) (nodes_in rest) (callees_of p) (callees_in rest) (call_entered p s one))
      (λ two. entered_right s.unit (nodes_of p) (nodes_in rest) (callees_of p) (callees_in rest) (callees_many p) (calls_entered rest s two))

  each_entered : (bodies : Bodies) (s : Call) → In s (calls_in_each bodies) → Entered s.unit (nodes_in_each bodies) (callees_in_each bodies)
  each_entered Last s at = absurd at
  each_entered (BodyOf weak body rest) s at =
      either s (calls_in body) (calls_in_each rest) at
      (λ one. entered_left s.unit (nodes_in body) (nodes_in_each rest) (callees_in body) (callees_in_each rest) (calls_entered body s one))
      (λ two. entered_right s.unit (nodes_in body) (nodes_in_each rest) (callees_in body) (callees_in_each rest) (callees_in_many body)
      (each_entered rest s two))

-- ---- runs

-- some `run` is one of the activity
abbrev pub HasRun : ℕ → List RunAt → Type 0
HasRun u [] = ⊥
HasRun u (run ∷ runs) = (run.unit ≡ u) ⊎ HasRun u runs

-- a `run` of the activity is some `run` of it
pub has_run : (runs : List RunAt) (run : RunAt) → Contains runs run → HasRun run.unit runs
has_run [] run (k, below, is) = absurd (omega (arith, below))
has_run (first ∷ runs) run (zero, below, is) = inl (ap (λ (run : RunAt). run.unit) is)
has_run (first ∷ runs) run (suc k, below, is) = inr (has_run runs run (k, omega (arith, below), is))

-- where a node begins a `run` of the activity
pub record EnteredAt (u : ℕ) (ns : List Node) (cs : List ℕ) : Type 0 where
  pub position : ℕ
  pub label : Label
  pub at : Place
  pub arguments : Arguments
  pub node : slice_get ns position ≡ Some (EnterAt label at arguments)
  pub callee : slice_get cs position ≡ Some u

pub entered_at : (u : ℕ) (ns : List Node) (cs : List ℕ) → Entered u ns cs → EnteredAt u ns cs
entered_at u [] cs at = absurd at
entered_at u (n ∷ ns) [] at = absurd at
entered_at u (n ∷ ns) (c ∷ cs) (inl is) = record {
  position = 0;
  label = is.0.label;
  at = is.0.at;
  arguments = is.0.arguments;
  node = ap Some is.0.is;
  callee = ap Some is.1;
}
entered_at u (n ∷ ns) (c ∷ cs) (inr later) =
    let found = entered_at u ns cs later in
    record {
      position = suc found.position;
      label = found.label;
      at = found.at;
      arguments = found.arguments;
      node = found.node;
      callee = found.callee;
    }
