-- What a body begins with is left of it, and so is what each turn leaves.
use Rattle.std.proofs.Common.{◌≡◌, inl, inr, ℕ, suc, Bool, List, [], ◌∷◌, refl}
use Rattle.std.specs.Prelude.{Contains}
use Rattle.bl_tree.specs.declared.place.Place.{Place}
use Rattle.bl_tree.specs.declared.tree.Expr.{Expr}
use Rattle.bl_tree.specs.declared.tree.Guard.{Guard as GuardKind}
use Rattle.bl_tree.specs.declared.tree.Stmt.{Stmt}
use Rattle.bl_graph_nodes.specs.Nodes.{CheckAt, DepthEndAt, DepthJoinAt, ForkAt, Node, StartAt, SurfaceEndAt, SurfaceJoinAt, are_instant, is_instant, nodes_in}
use Rattle.bl_graph_nodes.specs.Nodes.{nodes_in_each, nodes_of, where_so}
use Rattle.bl_graph_nodes.specs.Plain.{Again, Block, Bodies, Body as BodyOf, Cobegin, Done, If, Label, Last, Plain, Repeat, Then, Until, When, While}
use Rattle.bl_graph_nodes.specs.Plain.{plain_body}
use Rattle.bl_ctree.specs.Instances.{Setting}
use Rattle.bl_ctree_laws.specs.Pending.{Deed}
use Rattle.bl_ctree_laws.specs.Steps.{turn}
use Rattle.bl_ctree_laws.specs.Trees.{Tree, Trees, Nil, Wait, Test, Idle, Do, Seq, Par, Guard, Run, all_woken, trees_begun, beside, do_block, no_tree, seq}
use Rattle.bl_ctree_laws.specs.Trees.{woken}
use Rattle.bl_machine_laws.specs.Numbers.Turns as turns
use Rattle.bl_machine_laws.specs.Numbers.Turns.{AnsweredDeed, InstancePoint, OneTurns, Turns}
use Rattle.bl_machine_pass.specs.SlotLayout.{Spot, spots_in, spots_in_each, spots_of}
use Rattle.bl_machine_pass_laws_turns.specs.Joins.Laws.{StaysStemmed}
use Rattle.bl_machine_pass_laws_turns.specs.Joins.Stems.{Member, NodesAreDistinct, Own, OwnAll, StemEach, Stems}
use Rattle.bl_machine_pass_laws_turns.proofs.OnJoins.Lists.{bodies_differ, contained, differ_first, differ_second, itself, left, right}

-- ---- parts of a statement

pub own_all : (R : Spot → Type 0) (P : Node → Type 0) (body : Block) → ((n : Node) → Member (nodes_in body) n → P n) → NodesAreDistinct (nodes_in body) →
    ((p : Spot) → Member (spots_in body) p → R p) → OwnAll R P body
own_all R P Done nodes d spots = tt
own_all R P (Then s rest) nodes d spots = (
  record {
    nodes = λ n h. nodes n (left (nodes_of s) (nodes_in rest) n h);
    differ = differ_first (nodes_of s) (nodes_in rest) d;
    spots = λ p h. spots p (left (spots_of s) (spots_in rest) p h);
  },
  own_all R P rest (λ n h. nodes n (right (nodes_of s) (nodes_in rest) n h)) (differ_second (nodes_of s) (nodes_in rest) d)
      (λ p h. spots p (right (spots_of s) (spots_in rest) p h)),
)

stem_block : (R : Spot → Type 0) (P : Node → Type 0) (body : Block) → OwnAll R P body → Stems R P (do_block body)
stem_block R P Done own = tt
stem_block R P (Then s Done) own = own.0
stem_block R P (Then s (Then t rest)) own = (own.0, own.1)

own_turn : (R : Spot → Type 0) (P : Node → Type 0) (body : Block) (next : Plain) → OwnAll R P body → Own R P next → OwnAll R P (turn body next)
own_turn R P Done next own one = (one, tt)
own_turn R P (Then s rest) next own one = (own.0, own_turn R P rest next own.1 one)

stem_turn : (R : Spot → Type 0) (P : Node → Type 0) (body : Block) (next : Plain) → OwnAll R P body → Own R P next →
    Stems R P (do_block (turn body next))
stem_turn R P body next own one = stem_block R P (turn body next) (own_turn R P body next own one)

stem_seq : (R : Spot → Type 0) (P : Node → Type 0) (c : Tree) (s : Plain) (rest : Block) → Stems R P c → OwnAll R P (Then s rest) →
    Stems R P (seq c (Then s rest))
stem_seq R P Nil s rest h own = stem_block R P (Then s rest) own
stem_seq R P (Wait p) s rest h own = (h, own)
stem_seq R P (Test p) s rest h own = (h, own)
stem_seq R P (Idle body) s rest h own = (h, own)
stem_seq R P (Do p) s rest h own = (h, own)
stem_seq R P (Seq c after) s rest h own = (h, own)
stem_seq R P (Par p stood branches) s rest h own = (h, own)
stem_seq R P (Guard p phase stood c) s rest h own = (h, own)
stem_seq R P (Run p callee phase stood c) s rest h own = (h, own)

own_so : (R : Spot → Type 0) (P : Node → Type 0) (l : Label) (at : Place) (e : Expr) (body other : Block) → Own R P (If l at e body other) →
    OwnAll R P body
own_so R P l at e body other own =
    own_all R P body (λ n h. own.nodes n (inr (left (nodes_in body) (nodes_in other) n h)))
    (differ_first (nodes_in body) (nodes_in other) own.differ.1) (λ p h. own.spots p (left (spots_in body) (spots_in other) p h))

own_else : (R : Spot → Type 0) (P : Node → Type 0) (l : Label) (at : Place) (e : Expr) (body other : Block) → Own R P (If l at e body other) →
    OwnAll R P other
own_else R P l at e body other own =
    own_all R P other (λ n h. own.nodes n (inr (right (nodes_in body) (nodes_in other) n h)))
    (differ_second (nodes_in body) (nodes_in other) own.differ.1) (λ p h. own.spots p (right (spots_in body) (spots_in other) p h))

own_repeat : (R : Spot → Type 0) (P : Node → Type 0) (l : Label) (at : Place) (body : Block) → Own R P (Repeat l at body) → OwnAll R P body
own_repeat R P l at body own = own_all R P body (λ n h. own.nodes n (inr h)) own.differ.1 own.spots

own_until : (R : Spot → Type 0) (P : Node → Type 0) (l : Label) (at : Place) (body : Block) (e : Expr) → Own R P (Until l at body e) → OwnAll R P body
own_until R P l at body e own = own_all R P body (λ n h. own.nodes n (inr (inr h))) own.differ.1.1 own.spots

own_while : (R : Spot → Type 0) (P : Node → Type 0) (l : Label) (at : Place) (e : Expr) (body : Block) → Own R P (While l at e body) → OwnAll R P body
own_while R P l at e body own = own_all R P body (λ n h. own.nodes n (inr h)) own.differ.1 own.spots

-- the test after a turn has the nodes of its loop
own_again : (R : Spot → Type 0) (P : Node → Type 0) (l : Label) (at : Place) (body : Block) (e : Expr) → Own R P (Until l at body e) →
    Own R P (Again l at body e)
own_again R P l at body e own = record { nodes = own.nodes; differ = own.differ; spots = own.spots }

own_again_until : (R : Spot → Type 0) (P : Node → Type 0) (l : Label) (at : Place) (body : Block) (e : Expr) → Own R P (Again l at body e) →
    Own R P (Until l at body e)
own_again_until R P l at body e own = record { nodes = own.nodes; differ = own.differ; spots = own.spots }

-- ---- parts of a `cobegin` and a `when`

-- the nodes of a `cobegin` but for those in its branches, which have none of them
abbrev pub joins_of : Label → Place → Bodies → List Node
joins_of l at bodies = where_so (is_instant (Cobegin l at bodies)) (SurfaceJoinAt l at)

pub fork_inner : (l : Label) (at : Place) (bodies : Bodies) (n : Node) → Member (nodes_in_each bodies) n → Member (nodes_of (Cobegin l at bodies)) n
fork_inner l at bodies n h = inr (right (joins_of l at bodies) (DepthJoinAt l at ∷ nodes_in_each bodies) n (inr h))

pub fork_join : (l : Label) (at : Place) (bodies : Bodies) → Member (nodes_of (Cobegin l at bodies)) (DepthJoinAt l at)
fork_join l at bodies = inr (right (joins_of l at bodies) (DepthJoinAt l at ∷ nodes_in_each bodies) (DepthJoinAt l at) (inl refl))

-- the nodes from its later join on differ
pub fork_differ : (l : Label) (at : Place) (bodies : Bodies) → NodesAreDistinct (nodes_of (Cobegin l at bodies)) →
    NodesAreDistinct (DepthJoinAt l at ∷ nodes_in_each bodies)
fork_differ l at bodies d = differ_second (joins_of l at bodies) (DepthJoinAt l at ∷ nodes_in_each bodies) d.1

-- a `cobegin` doesn't stand in itself
pub fork_alone : (l : Label) (at : Place) (bodies : Bodies) → NodesAreDistinct (nodes_of (Cobegin l at bodies)) → (n : Node) →
    Member (nodes_in_each bodies) n → ForkAt l at ≡ n → ⊥
fork_alone l at bodies d n h e =
    d.0 n (right (joins_of l at bodies) (DepthJoinAt l at ∷ nodes_in_each bodies) n (inr h)) (itself (ForkAt l at) n e)

abbrev ends_of : Label → Place → Block → List Node
ends_of l at body = where_so (are_instant body) (SurfaceEndAt l at)

pub watch_inner : (l : Label) (at : Place) (guard : GuardKind) (e : Expr) (body : Block) (n : Node) → Member (nodes_in body) n →
    Member (nodes_of (When l at guard e body)) n
watch_inner l at guard e body n h = inr (right (ends_of l at body) (CheckAt l at e ∷ DepthEndAt l at ∷ nodes_in body) n (inr (inr h)))

-- nor does a `when`
pub watch_alone : (l : Label) (at : Place) (guard : GuardKind) (e : Expr) (body : Block) → NodesAreDistinct (nodes_of (When l at guard e body)) → (n : Node) →
    Member (nodes_in body) n → StartAt l at ≡ n → ⊥
watch_alone l at guard e body d n h is =
    d.0 n (right (ends_of l at body) (CheckAt l at e ∷ DepthEndAt l at ∷ nodes_in body) n (inr (inr h))) (itself (StartAt l at) n is)

watch_body : (R : Spot → Type 0) (P : Node → Type 0) (l : Label) (at : Place) (guard : GuardKind) (e : Expr) (body : Block) →
    Own R P (When l at guard e body) → Stems R (Member (nodes_in body)) (do_block body)
watch_body R P l at guard e body own =
    stem_block R (Member (nodes_in body)) body
    (own_all R (Member (nodes_in body)) body (λ n h. h)
    (differ_second (ends_of l at body) (CheckAt l at e ∷ DepthEndAt l at ∷ nodes_in body) own.differ.1).1.1 own.spots)

stem_begun : (R : Spot → Type 0) (l : Label) (k : ℕ) (bodies : Bodies) → NodesAreDistinct (nodes_in_each bodies) →
    ((p : Spot) → Member (spots_in_each l k bodies) p → R p) → StemEach R bodies (trees_begun bodies)
stem_begun R l k Last d spots = tt
stem_begun R l k (BodyOf weak body rest) d spots = (
  stem_block R (Member (nodes_in body)) body (own_all R (Member (nodes_in body)) body (λ n h. h)
      (differ_first (nodes_in body) (nodes_in_each rest) d)
      (λ p h. spots p (inr (left (spots_in body) (spots_in_each l (suc k) rest) p h)))),
  stem_begun R l (suc k) rest (differ_second (nodes_in body) (nodes_in_each rest) d)
      (λ p h. spots p (inr (right (spots_in body) (spots_in_each l (suc k) rest) p h))),
)

-- ---- turns

stem_point : {w : Setting} {i : ℕ} {c : Tree} {d : Bool} {a : Deed} {n : Node} {c' : Tree} (R : Spot → Type 0) (P : Node → Type 0) →
    InstancePoint w i c d a n c' → Stems R P c → Stems R P c'
stem_point R P turns.acts own = tt
stem_point R P (turns.takes {l = l} {at = at} {e = e} {body = body} {other = other}) own = stem_block R P body (own_so R P l at e body other own)
stem_point R P (turns.passes {l = l} {at = at} {e = e} {body = body} {other = other}) own = stem_block R P other (own_else R P l at e body other own)
stem_point R P turns.pauses own = own.spots _ (inl refl)
stem_point R P (turns.repeats {l = l} {at = at} {body = body}) own = stem_turn R P body (Repeat l at body) (own_repeat R P l at body own) own
stem_point R P (turns.repeats_until {l = l} {at = at} {body = body} {e = e}) own =
    stem_turn R P body (Again l at body e) (own_until R P l at body e own) (own_again R P l at body e own)
stem_point R P turns.leaves own = tt
stem_point R P (turns.turns {l = l} {at = at} {body = body} {e = e}) own = own_again_until R P l at body e own
stem_point R P (turns.enters {l = l} {at = at} {e = e} {body = body}) own =
    stem_turn R P body (While l at e body) (own_while R P l at e body own) own
stem_point R P turns.skips own = tt
stem_point R P (turns.forks {l = l} {at = at} {bodies = bodies}) own =
    (own, stem_begun R l 0 bodies (fork_differ l at bodies own.differ).1 own.spots)
stem_point R P (turns.guards {l = l} {at = at} {guard = guard} {e = e} {body = body}) own = (own, watch_body R P l at guard e body own)
stem_point R P turns.goes_on own = tt
stem_point R P turns.waits own = own
stem_point R P turns.lets own = own
stem_point R P (turns.aborts is) own = tt
stem_point R P (turns.resets {s = s} is) own = (own.0, watch_body R P s.label s.place s.guard s.test s.body own.0)
stem_point R P turns.guard_ends own = tt
stem_point R P (turns.joins settled done) own = tt

mutual
  stem_turns : {w : Setting} {rank : ℕ → Node → ℕ} {i : ℕ} {c : Tree} {done : List AnsweredDeed} {n : Node} {c' : Tree} (R : Spot → Type 0)
      (P : Node → Type 0) → Turns w rank i c done n c' → Stems R P c → Stems R P c'
  stem_turns R P (turns.point p) own = stem_point R P p own
  stem_turns R P (turns.runs called is passes lasts) own = own.spots _ (inl refl)
  stem_turns R P (turns.resumes passes lasts) own = own
  stem_turns R P (turns.returns passes) own = tt
  stem_turns R P (turns.in_seq {s = s} {rest = rest} {c' = c'} t) own = stem_seq R P c' s rest (stem_turns R P t own.0) own.1
  stem_turns R P (turns.in_par {s = s} t) own = (own.0, stem_one R s.bodies t own.1)
  stem_turns R P (turns.in_guard {s = s} t) own = (own.0, stem_turns R (Member (nodes_in s.body)) t own.1)

  stem_one : {w : Setting} {rank : ℕ → Node → ℕ} {i : ℕ} {branches : Trees} {done : List AnsweredDeed} {n : Node} {branches' : Trees}
      (R : Spot → Type 0) (bodies : Bodies) → OneTurns w rank i branches done n branches' → StemEach R bodies branches →
      StemEach R bodies branches'
  stem_one R Last (turns.first t) own = absurd own
  stem_one R Last (turns.later t) own = absurd own
  stem_one R (BodyOf weak body rest) (turns.first t) own = (stem_turns R (Member (nodes_in body)) t own.0, own.1)
  stem_one R (BodyOf weak body rest) (turns.later t) own = (own.0, stem_one R rest t own.1)

-- ---- waking

mutual
  stem_woken : (R : Spot → Type 0) (P : Node → Type 0) (c : Tree) → Stems R P c → Stems R P (woken c)
  stem_woken R P Nil own = tt
  stem_woken R P (Wait s) own = own
  stem_woken R P (Test s) own = own
  stem_woken R P (Idle body) own = stem_block R P body own
  stem_woken R P (Do s) own = own
  stem_woken R P (Seq c Done) own = absurd own
  stem_woken R P (Seq c (Then s rest)) own = (stem_woken R P c own.0, own.1)
  stem_woken R P (Par s stood branches) own = (own.0, stem_all_woken R s.bodies branches own.1)
  stem_woken R P (Guard s phase stood c) own = (own.0, stem_woken R (Member (nodes_in s.body)) c own.1)
  stem_woken R P (Run s callee phase stood c) own = own

  stem_all_woken : (R : Spot → Type 0) (bodies : Bodies) (branches : Trees) → StemEach R bodies branches → StemEach R bodies (all_woken branches)
  stem_all_woken R Last no_tree own = tt
  stem_all_woken R Last (beside weak c branches) own = absurd own
  stem_all_woken R (BodyOf weak body rest) no_tree own = absurd own
  stem_all_woken R (BodyOf weak body rest) (beside weak' c branches) own =
      (stem_woken R (Member (nodes_in body)) c own.0, stem_all_woken R rest branches own.1)

-- ---- the law

stem_begins : (body : List Stmt) → Stems (Contains (spots_in (plain_body body))) (Contains (nodes_in (plain_body body))) (do_block (plain_body body))
stem_begins body =
    stem_block (Contains (spots_in (plain_body body))) (Contains (nodes_in (plain_body body))) (plain_body body)
    (own_all (Contains (spots_in (plain_body body))) (Contains (nodes_in (plain_body body))) (plain_body body)
    (λ n h. contained (nodes_in (plain_body body)) n h) (bodies_differ body []) (λ p h. contained (spots_in (plain_body body)) p h))

pub stays_stemmed : StaysStemmed
stays_stemmed = record {
  begins = λ unit. stem_begins unit.body;
  wakes = λ body c h. stem_woken (Contains (spots_in body)) (Contains (nodes_in body)) c h;
  turns = λ w rank i body c done n c' t h. stem_turns (Contains (spots_in body)) (Contains (nodes_in body)) t h;
}
