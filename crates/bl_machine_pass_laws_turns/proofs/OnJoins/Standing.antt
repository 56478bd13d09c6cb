-- A `cobegin` that stands in a tree, and what is known of it there.
use Rattle.std.proofs.Common.{◌≡◌, ◌⊎◌, inl, inr, ⊎_elim, ℕ, suc, Bool, true, false, not, ◌||◌, if◌then◌else◌, List, Option, Some, None, refl, sym, ap, subst}
use Rattle.std.proofs.Common.{◌∙◌}
use Rattle.std.specs.Prelude.{Contains, ⊤}
use Rattle.std.proofs.lemmas.Bool.{or_left, or_right}
use Rattle.bl_tree.proofs.Basics.{true_false_any as differ}
use Rattle.bl_tree.specs.declared.place.Place.{Place as Source}
use Rattle.bl_graph_nodes.specs.Nodes.{ActAt, CheckAt, DepthEndAt, DepthJoinAt, EnterAt, ForkAt, HeadAt, Node, PauseAt, ResumeAt, StartAt, SurfaceEndAt}
use Rattle.bl_graph_nodes.specs.Nodes.{SurfaceJoinAt, TestAt, Arguments, entry, is_instant, nodes_in, nodes_in_each, nodes_of}
use Rattle.bl_graph_nodes.specs.Plain.{Act, Again, Await, Block, Bodies, Body as BodyOf, Cobegin, Done, If, Label, Last, Plain, Repeat, Run as RunOf, Then}
use Rattle.bl_graph_nodes.specs.Plain.{Until, When, While}
use Rattle.bl_graph_nodes.specs.Steps.{end_node, join_node, run_node}
use Rattle.bl_ctree.specs.Control.{Body, Check, Phase}
use Rattle.bl_ctree.specs.Instances.{Setting}
use Rattle.bl_ctree_laws.specs.Trees.{Fork, Tree, Trees, Watch, Nil, Wait, Test, Idle, Do, Seq, Par, Guard, Run, are_done, beside, no_tree}
use Rattle.bl_ctree_laws_traces.specs.Progress.FitsGraph.{AllFitGraph, FitsGraph, fork_stmt}
use Rattle.bl_ctree_laws_traces.specs.Progress.Places.{Place, ahead_of, guarded, in_branch, later_on}
use Rattle.bl_machine.specs.Uses.{Slots, uses, uses_in, uses_in_branch, uses_in_each}
use Rattle.bl_machine_laws.specs.Numbers.Numbers.{At, Next, Over, Rests, numbers_in, numbers_of}
use Rattle.bl_machine_laws.specs.Numbers.Waiting.{Is, SomeWaits, Waits, first_in}
use Rattle.bl_machine_pass.specs.SlotLayout.{BranchesRestAt, EndOf, RestOf, Spot, spots_of}
use Rattle.bl_machine_pass.specs.Transitions.{Change, SetsCounter, Transition, body_ends, enter, rules_of}
use Rattle.bl_machine_pass_laws.specs.Turns.Invariant.{MarkEach, Marked}
use Rattle.bl_machine_pass_laws.specs.Turns.Sits.{LieEach, Lies, SitEach, Sits, UseEach, UsesOnly}
use Rattle.bl_machine_pass_laws_turns.specs.Joins.Stems.{Member, NodesAreDistinct, StemEach, Stems}
use Rattle.bl_machine_pass_laws_turns.proofs.OnJoins.Lists.{left, right}
use Rattle.bl_machine_pass_laws_turns.proofs.OnJoins.Resting.{RestsAt, RestsEach}
use Rattle.bl_machine_pass_laws_turns.proofs.OnJoins.Stemming.{fork_inner, watch_inner}
use Rattle.bl_ctree_laws.proofs.Less.{done_join}

mutual
  -- Stands s stood branches c: the `cobegin` with these branches stands in the tree
  pub data Stands (s : Fork) (stood : Bool) (branches : Trees) : Tree → Type 0 where
    found : Stands s stood branches (Par s stood branches)
    in_seq : {c : Tree} {rest : Block} → Stands s stood branches c → Stands s stood branches (Seq c rest)
    in_par : {outer : Fork} {old : Bool} {others : Trees} → StandsIn s stood branches others → Stands s stood branches (Par outer old others)
    in_guard : {outer : Watch} {phase : Phase} {old : Bool} {c : Tree} → Stands s stood branches c → Stands s stood branches (Guard outer phase old c)

  -- in one of these
  pub data StandsIn (s : Fork) (stood : Bool) (branches : Trees) : Trees → Type 0 where
    first : {weak : Bool} {c : Tree} {others : Trees} → Stands s stood branches c → StandsIn s stood branches (beside weak c others)
    later : {weak : Bool} {c : Tree} {others : Trees} → StandsIn s stood branches others → StandsIn s stood branches (beside weak c others)

-- ---- where a branch rests at its end its `cobegin` stands

-- a `cobegin` with this label stands in the tree
pub record StandsAs (l : Label) (c : Tree) : Type 0 where
  pub fork : Fork
  pub stood : Bool
  pub branches : Trees
  pub stands : Stands fork stood branches c
  pub label : fork.label ≡ l

record StandsAmong (l : Label) (others : Trees) : Type 0 where
  fork : Fork
  stood : Bool
  branches : Trees
  stands : StandsIn fork stood branches others
  label : fork.label ≡ l

abbrev spot_label : Spot → Label
spot_label (RestOf l) = l
spot_label (EndOf l k) = l

abbrev is_end : Spot → Bool
is_end (RestOf l) = false
is_end (EndOf l k) = true

no_rest : {A : Type 0} (l m : Label) (k : ℕ) → EndOf l k ≡ RestOf m → A
no_rest l m k e = differ true refl (ap is_end e)

mutual
  pub stands_so : (c : Tree) (l : Label) (k : ℕ) → RestsAt c (EndOf l k) → StandsAs l c
  stands_so Nil l k h = absurd h
  stands_so (Wait s) l k h = no_rest l s.label k h
  stands_so (Test s) l k h = no_rest l s.label k h
  stands_so (Idle body) l k h = absurd h
  stands_so (Do s) l k h = absurd h
  stands_so (Seq c rest) l k h =
      let it = stands_so c l k h in record { fork = it.fork; stood = it.stood; branches = it.branches; stands = in_seq it.stands; label = it.label }
  stands_so (Par s stood branches) l k h =
      ⊎_elim (λ own. record { fork = s; stood = stood; branches = branches; stands = found; label = own })
      (λ it. record { fork = it.fork; stood = it.stood; branches = it.branches; stands = in_par it.stands; label = it.label })
      (stands_in s.label 0 branches l k h)
  stands_so (Guard s phase stood c) l k h =
      let it = stands_so c l k h in record { fork = it.fork; stood = it.stood; branches = it.branches; stands = in_guard it.stands; label = it.label }
  stands_so (Run s callee phase stood c) l k h = no_rest l s.label k h

  stands_in : (own : Label) (j : ℕ) (branches : Trees) (l : Label) (k : ℕ) → RestsEach own j branches (EndOf l k) →
      (own ≡ l) ⊎ StandsAmong l branches
  stands_in own j no_tree l k h = absurd h
  stands_in own j (beside weak c branches) l k (inl ended) = inl (sym (ap spot_label ended.1))
  stands_in own j (beside weak c branches) l k (inr (inl h)) =
      let it = stands_so c l k h in
      inr (record { fork = it.fork; stood = it.stood; branches = it.branches; stands = first it.stands; label = it.label })
  stands_in own j (beside weak c branches) l k (inr (inr h)) =
      ⊎_elim (λ is. inl is)
      (λ it. inr (record { fork = it.fork; stood = it.stood; branches = it.branches; stands = later it.stands; label = it.label }))
      (stands_in own (suc j) branches l k h)

-- ---- what stands is of the part of which the tree is left

mutual
  pub stands_within : {s : Fork} {stood : Bool} {branches : Trees} {c : Tree} (R : Spot → Type 0) (P : Node → Type 0) → Stands s stood branches c →
      Stems R P c → (n : Node) → Member (nodes_of (fork_stmt s)) n → P n
  stands_within R P found own n h = own.0.nodes n h
  stands_within R P (in_seq {rest = Done} there) own n h = absurd own
  stands_within R P (in_seq {rest = Then t rest} there) own n h = stands_within R P there own.0 n h
  stands_within R P (in_par {outer = outer} there) own n h =
      own.0.nodes n (fork_inner outer.label outer.place outer.bodies n (each_within R outer.bodies there own.1 n h))
  stands_within R P (in_guard {outer = outer} there) own n h =
      own.0.nodes n (watch_inner outer.label outer.place outer.guard outer.test outer.body n
      (stands_within R (Member (nodes_in outer.body)) there own.1 n h))

  each_within : {s : Fork} {stood : Bool} {branches : Trees} {others : Trees} (R : Spot → Type 0) (bodies : Bodies) →
      StandsIn s stood branches others → StemEach R bodies others → (n : Node) → Member (nodes_of (fork_stmt s)) n → Member (nodes_in_each bodies) n
  each_within R Last (first there) own n h = absurd own
  each_within R Last (later there) own n h = absurd own
  each_within R (BodyOf weak body rest) (first there) own n h =
      left (nodes_in body) (nodes_in_each rest) n (stands_within R (Member (nodes_in body)) there own.0 n h)
  each_within R (BodyOf weak body rest) (later there) own n h =
      right (nodes_in body) (nodes_in_each rest) n (each_within R rest there own.1 n h)

-- ---- what is known of a `cobegin` that stands

-- its nodes and places
pub record OwnFork (R : Spot → Type 0) (s : Fork) (branches : Trees) : Type 0 where
  pub differ : NodesAreDistinct (nodes_of (fork_stmt s))
  pub spots : (p : Spot) → Member (spots_of (fork_stmt s)) p → R p
  pub stems : StemEach R s.bodies branches

mutual
  pub own_fork : {s : Fork} {stood : Bool} {branches : Trees} {c : Tree} (R : Spot → Type 0) (P : Node → Type 0) → Stands s stood branches c →
      Stems R P c → OwnFork R s branches
  own_fork R P found own = record { differ = own.0.differ; spots = own.0.spots; stems = own.1 }
  own_fork R P (in_seq {rest = Done} there) own = absurd own
  own_fork R P (in_seq {rest = Then t rest} there) own = own_fork R P there own.0
  own_fork R P (in_par {outer = outer} there) own = own_in R outer.bodies there own.1
  own_fork R P (in_guard {outer = outer} there) own = own_fork R (Member (nodes_in outer.body)) there own.1

  own_in : {s : Fork} {stood : Bool} {branches : Trees} {others : Trees} (R : Spot → Type 0) (bodies : Bodies) →
      StandsIn s stood branches others → StemEach R bodies others → OwnFork R s branches
  own_in R Last (first there) own = absurd own
  own_in R Last (later there) own = absurd own
  own_in R (BodyOf weak body rest) (first there) own = own_fork R (Member (nodes_in body)) there own.0
  own_in R (BodyOf weak body rest) (later there) own = own_in R rest there own.1

-- its rules
pub record SitFork (slots : Slots) (ruled : List Transition) (s : Fork) (branches : Trees) : Type 0 where
  pub next : Change
  pub among : (rule : Transition) → Contains (rules_of slots (fork_stmt s) next) rule → Contains ruled rule
  pub each : SitEach slots ruled s.label 0 s.bodies branches

mutual
  pub sit_fork : {s : Fork} {stood : Bool} {branches : Trees} {c : Tree} (slots : Slots) (ruled : List Transition) (next : Change) →
      Stands s stood branches c → Sits slots ruled c next → SitFork slots ruled s branches
  sit_fork slots ruled next found sits = record { next = next; among = sits.0; each = sits.1 }
  sit_fork slots ruled next (in_seq {rest = rest} there) sits = sit_fork slots ruled (enter rest next) there sits.0
  sit_fork slots ruled next (in_par {outer = outer} there) sits = sit_in slots ruled outer.label 0 outer.bodies there sits.1
  sit_fork slots ruled next (in_guard {outer = outer} there) sits =
      sit_fork slots ruled (body_ends outer.label outer.place outer.body) there sits.1

  sit_in : {s : Fork} {stood : Bool} {branches : Trees} {others : Trees} (slots : Slots) (ruled : List Transition) (l : Label) (k : ℕ) (bodies : Bodies) →
      StandsIn s stood branches others → SitEach slots ruled l k bodies others → SitFork slots ruled s branches
  sit_in slots ruled l k Last (first there) sits = absurd sits
  sit_in slots ruled l k Last (later there) sits = absurd sits
  sit_in slots ruled l k (BodyOf weak body rest) (first there) sits = sit_fork slots ruled (SetsCounter (slots.ending l k)) there sits.1
  sit_in slots ruled l k (BodyOf weak body rest) (later there) sits = sit_in slots ruled l (suc k) rest there sits.2

mutual
  -- its counters
  pub laid_fork : {s : Fork} {stood : Bool} {branches : Trees} {c : Tree} (slots : Slots) (low : ℕ) → Stands s stood branches c → Lies slots low c →
      BranchesRestAt slots s.label 0 s.bodies
  laid_fork slots low found lies = lies.0.1
  laid_fork slots low (in_seq there) lies = laid_fork slots low there lies.0
  laid_fork slots low (in_par {outer = outer} there) lies = laid_in slots outer.label 0 there lies.1
  laid_fork slots low (in_guard there) lies = laid_fork slots low there lies.1

  laid_in : {s : Fork} {stood : Bool} {branches : Trees} {others : Trees} (slots : Slots) (l : Label) (k : ℕ) → StandsIn s stood branches others →
      LieEach slots l k others → BranchesRestAt slots s.label 0 s.bodies
  laid_in slots l k (first there) lies = laid_fork slots (slots.ending l k).counter there lies.0
  laid_in slots l k (later there) lies = laid_in slots l (suc k) there lies.1

-- its mark
abbrev pub MarkOf : (Node → ℕ) → (ℕ → Bool) → Fork → Bool → Type 0
MarkOf number marks s stood = is_instant (fork_stmt s) ≡ true → marks (number (ForkAt s.label s.place)) ≡ not stood

mutual
  pub mark_fork : {s : Fork} {stood : Bool} {branches : Trees} {c : Tree} (number : Node → ℕ) (marks : ℕ → Bool) → Stands s stood branches c →
      Marked number marks c → MarkOf number marks s stood
  mark_fork number marks found m = m.0
  mark_fork number marks (in_seq there) m = mark_fork number marks there m
  mark_fork number marks (in_par there) m = mark_in number marks there m.1
  mark_fork number marks (in_guard there) m = mark_fork number marks there m.1

  mark_in : {s : Fork} {stood : Bool} {branches : Trees} {others : Trees} (number : Node → ℕ) (marks : ℕ → Bool) →
      StandsIn s stood branches others →
      MarkEach number marks others → MarkOf number marks s stood
  mark_in number marks (first there) m = mark_fork number marks there m.0
  mark_in number marks (later there) m = mark_in number marks there m.1

-- one that has begun in this tick, and of which so many branches have ended as are needed, may end in the tick in which it begins
abbrev pub MayEnd : Fork → Bool → Trees → Type 0
MayEnd s stood branches = are_done branches ≡ true → stood ≡ false → is_instant (fork_stmt s) ≡ true

mutual
  pub live_fork : {s : Fork} {stood : Bool} {branches : Trees} {c : Tree} (w : Setting) (i : ℕ) (g : Place) → Stands s stood branches c →
      FitsGraph w i c g → MayEnd s stood branches
  live_fork {branches = branches} w i g found live = λ done. (live.1.joins (done_join branches done)).0
  live_fork w i g (in_seq {rest = Done} there) live = absurd live
  live_fork w i g (in_seq {rest = Then t rest} there) live = live_fork w i (ahead_of (entry t) g) there live.0
  live_fork w i g (in_par {outer = outer} {old = old} there) live = live_in w i g old outer.bodies there live.0
  live_fork w i g (in_guard {outer = outer} {phase = Body} there) live = live_fork w i (guarded outer g) there live.0
  live_fork w i g (in_guard {outer = outer} {phase = Check} there) live = live_fork w i (later_on (guarded outer g)) there live.0

  live_in : {s : Fork} {stood : Bool} {branches : Trees} {others : Trees} (w : Setting) (i : ℕ) (g : Place) (old : Bool) (bodies : Bodies) →
      StandsIn s stood branches others → AllFitGraph w i others bodies old g → MayEnd s stood branches
  live_in w i g old Last (first there) live = absurd live
  live_in w i g old Last (later there) live = absurd live
  live_in w i g old (BodyOf weak body rest) (first there) live = live_fork w i (in_branch old body g) there live.0
  live_in w i g old (BodyOf weak body rest) (later there) live = live_in w i g old rest there live.2

-- ---- its numbers

mutual
  -- what it uses is used where it stands
  used_fork : {s : Fork} {stood : Bool} {branches : Trees} {c : Tree} (slots : Slots) (R : Spot → Type 0) (P : Node → Type 0) (used : ℕ → Bool)
      (j : ℕ) → Stands s stood branches c → Stems R P c → UsesOnly slots used c → uses slots (fork_stmt s) j ≡ true → used j ≡ true
  used_fork slots R P used j found own only e = only.0 j e
  used_fork slots R P used j (in_seq {rest = Done} there) own only e = absurd own
  used_fork slots R P used j (in_seq {rest = Then t rest} there) own only e = used_fork slots R P used j there own.0 only.0 e
  used_fork slots R P used j (in_par {outer = outer} there) own only e =
      only.0 j (used_in slots R outer.label 0 outer.bodies j there own.1 only.1 e)
  used_fork slots R P used j (in_guard {outer = outer} there) own only e =
      only.0 j (used_fork slots R (Member (nodes_in outer.body)) (uses_in slots outer.body) j there own.1 only.1 e)

  used_in : {s : Fork} {stood : Bool} {branches : Trees} {others : Trees} (slots : Slots) (R : Spot → Type 0) (l : Label) (k : ℕ) (bodies : Bodies)
      (j : ℕ) → StandsIn s stood branches others → StemEach R bodies others → UseEach slots l k bodies others →
      uses slots (fork_stmt s) j ≡ true → uses_in_each slots l k bodies j ≡ true
  used_in slots R l k Last j (first there) own only e = absurd own
  used_in slots R l k Last j (later there) own only e = absurd own
  used_in slots R l k (BodyOf weak body rest) j (first there) own only e =
      or_left (uses_in_branch slots l k body j) (uses_in_each slots l (suc k) rest j)
      (used_fork slots R (Member (nodes_in body)) (uses_in_branch slots l k body) j there own.0 only.0 e)
  used_in slots R l k (BodyOf weak body rest) j (later there) own only e =
      or_right (uses_in_branch slots l k body j) (uses_in_each slots l (suc k) rest j) (used_in slots R l (suc k) rest j there own.1 only.1 e)

-- a counter of a later branch isn't one of an earlier branch
not_earlier : (slots : Slots) (l : Label) (k : ℕ) (body : Block) (rest : Bodies) (j : ℕ) →
    ((counter : ℕ) → uses_in_branch slots l k body counter ≡ true → uses_in_each slots l (suc k) rest counter ≡ false) →
    uses_in_each slots l (suc k) rest j ≡ true → uses_in_branch slots l k body j ≡ false
not_earlier slots l k body rest j apart after = by_use (uses_in_branch slots l k body j) refl
  where
    by_use : (b : Bool) → uses_in_branch slots l k body j ≡ b → uses_in_branch slots l k body j ≡ false
    by_use true uses_it = differ (uses_in_each slots l (suc k) rest j) after (apart j uses_it)
    by_use false uses_it = uses_it

-- so the number of a later branch is told by that branch
pub later_number : (slots : Slots) (l : Label) (k : ℕ) (weak weak' : Bool) (body : Block) (rest : Bodies) (c : Tree) (others : Trees) (j : ℕ) →
    ((counter : ℕ) → uses_in_branch slots l k body counter ≡ true → uses_in_each slots l (suc k) rest counter ≡ false) →
    uses_in_each slots l (suc k) rest j ≡ true →
    numbers_in slots l k (BodyOf weak body rest) (beside weak' c others) j ≡ numbers_in slots l (suc k) rest others j
later_number slots l k weak weak' body rest c others j apart after =
    ap (λ b. if b then numbers_of slots c (Rests (slots.ending l k)) j else numbers_in slots l (suc k) rest others j)
    (not_earlier slots l k body rest j apart after)

pub first_number : (slots : Slots) (l : Label) (k : ℕ) (weak weak' : Bool) (body : Block) (rest : Bodies) (c : Tree) (others : Trees) (j : ℕ) →
    uses_in_branch slots l k body j ≡ true →
    numbers_in slots l k (BodyOf weak body rest) (beside weak' c others) j ≡ numbers_of slots c (Rests (slots.ending l k)) j
first_number slots l k weak weak' body rest c others j uses_it =
    ap (λ b. if b then numbers_of slots c (Rests (slots.ending l k)) j else numbers_in slots l (suc k) rest others j) uses_it

mutual
  -- the numbers on its counters are its own
  pub numbers_fork : {s : Fork} {stood : Bool} {branches : Trees} {c : Tree} (slots : Slots) (R : Spot → Type 0) (P : Node → Type 0) (low : ℕ)
      (used : ℕ → Bool) (next : Next) (j : ℕ) → Stands s stood branches c → Stems R P c → Lies slots low c → UsesOnly slots used c →
      uses slots (fork_stmt s) j ≡ true → numbers_of slots c next j ≡ numbers_in slots s.label 0 s.bodies branches j
  numbers_fork slots R P low used next j found own lies only e = refl
  numbers_fork slots R P low used next j (in_seq {rest = Done} there) own lies only e = absurd own
  numbers_fork slots R P low used next j (in_seq {rest = Then t rest} there) own lies only e =
      numbers_fork slots R P low used (At (entry t)) j there own.0 lies.0 only.0 e
  numbers_fork slots R P low used next j (in_par {outer = outer} there) own lies only e =
      numbers_each slots R outer.label 0 outer.bodies j there own.1 lies.0.1 lies.1 only.1 e
  numbers_fork slots R P low used next j (in_guard {outer = outer} there) own lies only e =
      numbers_fork slots R (Member (nodes_in outer.body)) low (uses_in slots outer.body) Over j there own.1 lies.1 only.1 e

  numbers_each : {s : Fork} {stood : Bool} {branches : Trees} {others : Trees} (slots : Slots) (R : Spot → Type 0) (l : Label) (k : ℕ)
      (bodies : Bodies) (j : ℕ) → StandsIn s stood branches others → StemEach R bodies others → BranchesRestAt slots l k bodies →
      LieEach slots l k others →
      UseEach slots l k bodies others → uses slots (fork_stmt s) j ≡ true →
      numbers_in slots l k bodies others j ≡ numbers_in slots s.label 0 s.bodies branches j
  numbers_each slots R l k Last j (first there) own laid lies only e = absurd own
  numbers_each slots R l k Last j (later there) own laid lies only e = absurd own
  numbers_each slots R l k (BodyOf weak body rest) j (first {weak = weak'} {c = c} {others = others} there) own laid lies only e =
      first_number slots l k weak weak' body rest c others j
      (used_fork slots R (Member (nodes_in body)) (uses_in_branch slots l k body) j there own.0 only.0 e)
      ∙ numbers_fork slots R (Member (nodes_in body)) (slots.ending l k).counter (uses_in_branch slots l k body) (Rests (slots.ending l k)) j there
      own.0 lies.0 only.0 e
  numbers_each slots R l k (BodyOf weak body rest) j (later {weak = weak'} {c = c} {others = others} there) own laid lies only e =
      later_number slots l k weak weak' body rest c others j laid.1 (used_in slots R l (suc k) rest j there own.1 only.1 e)
      ∙ numbers_each slots R l (suc k) rest j there own.1 laid.2 lies.1 only.1 e

-- ---- its join

mutual
  -- where so many of its branches have ended as are needed it waits at its join
  pub waits_fork : {s : Fork} {stood : Bool} {branches : Trees} {c : Tree} (next : Option Node) → Stands s stood branches c →
      are_done branches ≡ true → Waits c next (join_node stood s.label s.place)
  waits_fork next found done = inr (done, refl)
  waits_fork next (in_seq {rest = rest} there) done = waits_fork (first_in rest next) there done
  waits_fork next (in_par there) done = inl (waits_in there done)
  waits_fork next (in_guard {outer = outer} {phase = Body} {old = old} there) done =
      waits_fork (Some (end_node old outer.label outer.place)) there done
  waits_fork next (in_guard {outer = outer} {phase = Check} {old = old} there) done =
      inr (waits_fork (Some (end_node old outer.label outer.place)) there done)

  waits_in : {s : Fork} {stood : Bool} {branches : Trees} {others : Trees} → StandsIn s stood branches others → are_done branches ≡ true →
      SomeWaits others (join_node stood s.label s.place)
  waits_in (first there) done = inl (waits_fork None there done)
  waits_in (later there) done = inr (waits_in there done)

-- the node is a join
abbrev pub IsJoinNode : Node → Type 0
IsJoinNode (ActAt l s) = ⊥
IsJoinNode (TestAt l at e) = ⊥
IsJoinNode (PauseAt l at) = ⊥
IsJoinNode (EnterAt l at arguments) = ⊥
IsJoinNode (ResumeAt l at arguments) = ⊥
IsJoinNode (HeadAt l at) = ⊥
IsJoinNode (StartAt l at) = ⊥
IsJoinNode (CheckAt l at e) = ⊥
IsJoinNode (SurfaceEndAt l at) = ⊥
IsJoinNode (DepthEndAt l at) = ⊥
IsJoinNode (ForkAt l at) = ⊥
IsJoinNode (SurfaceJoinAt l at) = ⊤
IsJoinNode (DepthJoinAt l at) = ⊤

no_entry : (s : Plain) → IsJoinNode (entry s) → ⊥
no_entry (Act l s) h = h
no_entry (Await l at e) h = h
no_entry (RunOf l at target a inputs outputs) h = h
no_entry (If l at e body other) h = h
no_entry (Cobegin l at bodies) h = h
no_entry (When l at guard e body) h = h
no_entry (Repeat l at body) h = h
no_entry (Until l at body e) h = h
no_entry (While l at e body) h = h
no_entry (Again l at body e) h = h

no_end : (stood : Bool) (l : Label) (at : Source) → IsJoinNode (end_node stood l at) → ⊥
no_end true l at h = h
no_end false l at h = h

no_run : (stood : Bool) (l : Label) (at : Source) (arguments : Arguments) → IsJoinNode (run_node stood l at arguments) → ⊥
no_run true l at arguments h = h
no_run false l at arguments h = h

-- a `cobegin` that waits at the node stands in the tree
pub record JoinsAt (n : Node) (c : Tree) : Type 0 where
  pub fork : Fork
  pub stood : Bool
  pub branches : Trees
  pub stands : Stands fork stood branches c
  pub done : are_done branches ≡ true
  pub is : n ≡ join_node stood fork.label fork.place

record JoinsAmong (n : Node) (others : Trees) : Type 0 where
  fork : Fork
  stood : Bool
  branches : Trees
  stands : StandsIn fork stood branches others
  done : are_done branches ≡ true
  is : n ≡ join_node stood fork.label fork.place

-- what follows the tree is no join
abbrev NoJoin : Option Node → Type 0
NoJoin next = (n : Node) → Is next n → IsJoinNode n → ⊥

first_no_join : (rest : Block) (next : Option Node) → NoJoin next → NoJoin (first_in rest next)
first_no_join Done next none n h join = none n h join
first_no_join (Then s rest) next none n h join = no_entry s (subst IsJoinNode h join)

end_no_join : (stood : Bool) (l : Label) (at : Source) → NoJoin (Some (end_node stood l at))
end_no_join stood l at n h join = no_end stood l at (subst IsJoinNode h join)

mutual
  -- what waits at a join is its `cobegin`
  pub joins_at : (c : Tree) (next : Option Node) (n : Node) → NoJoin next → IsJoinNode n → Waits c next n → JoinsAt n c
  joins_at Nil next n none join h = absurd (none n h join)
  joins_at (Wait s) next n none join h = absurd h
  joins_at (Test s) next n none join h = absurd (subst IsJoinNode h join)
  joins_at (Idle body) next n none join h = absurd h
  joins_at (Do s) next n none join h = absurd (no_entry s (subst IsJoinNode h join))
  joins_at (Seq c rest) next n none join h =
      let it = joins_at c (first_in rest next) n (first_no_join rest next none) join h in
      record { fork = it.fork; stood = it.stood; branches = it.branches; stands = in_seq it.stands; done = it.done; is = it.is }
  joins_at (Par s stood branches) next n none join (inl h) =
      let it = joins_among branches n join h in
      record { fork = it.fork; stood = it.stood; branches = it.branches; stands = in_par it.stands; done = it.done; is = it.is }
  joins_at (Par s stood branches) next n none join (inr h) =
      record { fork = s; stood = stood; branches = branches; stands = found; done = h.0; is = h.1 }
  joins_at (Guard s Body stood c) next n none join h =
      let it = joins_at c (Some (end_node stood s.label s.place)) n (end_no_join stood s.label s.place) join h in
      record { fork = it.fork; stood = it.stood; branches = it.branches; stands = in_guard it.stands; done = it.done; is = it.is }
  joins_at (Guard s Check stood c) next n none join (inl h) = absurd (subst IsJoinNode h join)
  joins_at (Guard s Check stood c) next n none join (inr h) =
      let it = joins_at c (Some (end_node stood s.label s.place)) n (end_no_join stood s.label s.place) join h in
      record { fork = it.fork; stood = it.stood; branches = it.branches; stands = in_guard it.stands; done = it.done; is = it.is }
  joins_at (Run s callee Body stood c) next n none join h = absurd h
  joins_at (Run s callee Check stood c) next n none join h = absurd (no_run stood s.label s.place s.arguments (subst IsJoinNode h join))

  joins_among : (others : Trees) (n : Node) → IsJoinNode n → SomeWaits others n → JoinsAmong n others
  joins_among no_tree n join h = absurd h
  joins_among (beside weak c others) n join (inl h) =
      let it = joins_at c None n (λ m is. absurd is) join h in
      record { fork = it.fork; stood = it.stood; branches = it.branches; stands = first it.stands; done = it.done; is = it.is }
  joins_among (beside weak c others) n join (inr h) =
      let it = joins_among others n join h in
      record { fork = it.fork; stood = it.stood; branches = it.branches; stands = later it.stands; done = it.done; is = it.is }
