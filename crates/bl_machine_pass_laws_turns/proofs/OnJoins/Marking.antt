-- Marks tell what has begun in this tick: as a pass begins, and after each turn.
use Rattle.std.proofs.Common.{◌≡◌, inl, ℕ, suc, Bool, true, false, List, [], ◌∷◌, refl, sym, subst, ◌∙◌}
use Rattle.std.specs.Prelude.{Contains, ⊤}
use Rattle.bl_tree.specs.declared.place.Place.{Place}
use Rattle.bl_tree.specs.declared.tree.Unit.{Unit as UnitDef}
use Rattle.bl_graph_nodes.specs.Nodes.{ActAt, CheckAt, DepthEndAt, DepthJoinAt, EnterAt, ForkAt, HeadAt, Node, PauseAt, ResumeAt, StartAt, SurfaceEndAt}
use Rattle.bl_graph_nodes.specs.Nodes.{SurfaceJoinAt, TestAt, Arguments, are_instant, is_instant, nodes_in, nodes_in_each}
use Rattle.bl_graph_nodes.specs.Plain.{Again, Block, Bodies, Body as BodyOf, Cobegin, Done, Label, Last, Plain, Repeat, Then, When, While, plain_body}
use Rattle.bl_graph_nodes.specs.Steps.{end_node, join_node, run_node}
use Rattle.bl_ctree.specs.Control.{Body}
use Rattle.bl_ctree.specs.Instances.{Setting}
use Rattle.bl_ctree_laws.specs.Pending.{Deed}
use Rattle.bl_ctree_laws.specs.Steps.{turn}
use Rattle.bl_ctree_laws.specs.Trees.{Tree, Trees, Nil, Wait, Test, Idle, Do, Seq, Par, Guard, Run, all_woken, trees_begun, beside, do_block, no_tree, seq}
use Rattle.bl_ctree_laws.specs.Trees.{woken}
use Rattle.bl_machine.specs.Uses.{Slots}
use Rattle.bl_machine_laws.specs.Numbers.Turns as turns
use Rattle.bl_machine_laws.specs.Numbers.Turns.{AnsweredDeed, InstancePoint, OneTurns, Turns}
use Rattle.bl_machine_pass.specs.SlotLayout.{Spot, spots_in}
use Rattle.bl_machine_pass.specs.Registers.{Registers, after_rule}
use Rattle.bl_machine_pass.specs.Transitions.{Change, Finishes, SetsCounter, Transition, body_ends, enter, enter_each, flagged, marked, rules, rules_of}
use Rattle.bl_machine_pass_laws.specs.Turns.Invariant.{MarkEach, Marked}
use Rattle.bl_machine_pass_laws.specs.Turns.Laws.{StaysPlaced, Turning, answer_of, one_answer_of}
use Rattle.bl_machine_pass_laws.specs.Turns.Sits.{SitEach, Sits}
use Rattle.bl_machine_pass_laws_turns.specs.Joins.Laws.{MarksBegin, TurnsKeepMarks}
use Rattle.bl_machine_pass_laws_turns.specs.Joins.Stems.{Member, NodesAreDistinct, StemEach, Stems}
use Rattle.bl_machine_pass_laws_turns.proofs.OnJoins.Lists.{bodies_differ, contained, differ_apart, differ_second, itself, left, right, rule_there, sole_rule}
use Rattle.bl_machine_pass_laws_turns.proofs.OnJoins.Ruling.{begins_marked, rule_keeps, tame_rule}
use Rattle.bl_machine_pass_laws_turns.proofs.OnJoins.Stemming.{fork_alone, fork_differ, fork_inner, watch_alone, watch_inner}

-- ---- trees in which nothing stands yet

pub marked_block : (number : Node → ℕ) (marks : ℕ → Bool) (body : Block) → Marked number marks (do_block body)
marked_block number marks Done = tt
marked_block number marks (Then s Done) = tt
marked_block number marks (Then s (Then t rest)) = tt

marked_begun : (number : Node → ℕ) (marks : ℕ → Bool) (bodies : Bodies) → MarkEach number marks (trees_begun bodies)
marked_begun number marks Last = tt
marked_begun number marks (BodyOf weak body rest) = (marked_block number marks body, marked_begun number marks rest)

marked_seq : (number : Node → ℕ) (marks : ℕ → Bool) (c : Tree) (s : Plain) (rest : Block) → Marked number marks c →
    Marked number marks (seq c (Then s rest))
marked_seq number marks Nil s rest h = marked_block number marks (Then s rest)
marked_seq number marks (Wait p) s rest h = h
marked_seq number marks (Test p) s rest h = h
marked_seq number marks (Idle body) s rest h = h
marked_seq number marks (Do p) s rest h = h
marked_seq number marks (Seq c after) s rest h = h
marked_seq number marks (Par p stood branches) s rest h = h
marked_seq number marks (Guard p phase stood c) s rest h = h
marked_seq number marks (Run p callee phase stood c) s rest h = h

-- ---- as a pass begins

mutual
  marked_woken : (number : Node → ℕ) (c : Tree) → Marked number (λ k. false) (woken c)
  marked_woken number Nil = tt
  marked_woken number (Wait s) = tt
  marked_woken number (Test s) = tt
  marked_woken number (Idle body) = marked_block number (λ k. false) body
  marked_woken number (Do s) = tt
  marked_woken number (Seq c rest) = marked_woken number c
  marked_woken number (Par s stood branches) = (λ instant. refl, marked_all_woken number branches)
  marked_woken number (Guard s phase stood c) = (λ instant. refl, marked_woken number c)
  marked_woken number (Run s callee phase stood c) = tt

  marked_all_woken : (number : Node → ℕ) (branches : Trees) → MarkEach number (λ k. false) (all_woken branches)
  marked_all_woken number no_tree = tt
  marked_all_woken number (beside weak c branches) = (marked_woken number c, marked_all_woken number branches)

pub marks_begin : MarksBegin
marks_begin = record {
  resumes = λ number c counters flags. marked_woken number c;
  begins = λ number body counters flags. marked_block number (λ k. false) body;
}

-- ---- first nodes

-- a `cobegin` or a `when` begins at the node
abbrev Starts : Node → Type 0
Starts (ActAt l s) = ⊥
Starts (TestAt l at e) = ⊥
Starts (PauseAt l at) = ⊥
Starts (EnterAt l at arguments) = ⊥
Starts (ResumeAt l at arguments) = ⊥
Starts (HeadAt l at) = ⊥
Starts (StartAt l at) = ⊤
Starts (CheckAt l at e) = ⊥
Starts (SurfaceEndAt l at) = ⊥
Starts (DepthEndAt l at) = ⊥
Starts (ForkAt l at) = ⊤
Starts (SurfaceJoinAt l at) = ⊥
Starts (DepthJoinAt l at) = ⊥

join_starts : (stood : Bool) (l : Label) (at : Place) → Starts (join_node stood l at) → ⊥
join_starts true l at h = h
join_starts false l at h = h

end_starts : (stood : Bool) (l : Label) (at : Place) → Starts (end_node stood l at) → ⊥
end_starts true l at h = h
end_starts false l at h = h

run_starts : (stood : Bool) (l : Label) (at : Place) (arguments : Arguments) → Starts (run_node stood l at arguments) → ⊥
run_starts true l at arguments h = h
run_starts false l at arguments h = h

-- a construct that begins stands in the part of which the tree is left
point_within : {w : Setting} {i : ℕ} {c : Tree} {d : Bool} {a : Deed} {n : Node} {c' : Tree} (R : Spot → Type 0) (P : Node → Type 0) →
    InstancePoint w i c d a n c' → Stems R P c → Starts n → P n
point_within R P turns.acts own h = absurd h
point_within R P turns.takes own h = absurd h
point_within R P turns.passes own h = absurd h
point_within R P turns.pauses own h = absurd h
point_within R P turns.repeats own h = absurd h
point_within R P turns.repeats_until own h = absurd h
point_within R P turns.leaves own h = absurd h
point_within R P turns.turns own h = absurd h
point_within R P turns.enters own h = absurd h
point_within R P turns.skips own h = absurd h
point_within R P turns.forks own h = own.nodes _ (inl refl)
point_within R P turns.guards own h = own.nodes _ (inl refl)
point_within R P turns.goes_on own h = absurd h
point_within R P turns.waits own h = absurd h
point_within R P turns.lets own h = absurd h
point_within R P (turns.aborts is) own h = absurd h
point_within R P (turns.resets is) own h = absurd h
point_within R P (turns.guard_ends {s = s} {stood = stood}) own h = absurd (end_starts stood s.label s.place h)
point_within R P (turns.joins {s = s} {stood = stood} settled done) own h = absurd (join_starts stood s.label s.place h)

mutual
  turn_within : {w : Setting} {rank : ℕ → Node → ℕ} {i : ℕ} {c : Tree} {done : List AnsweredDeed} {n : Node} {c' : Tree} (R : Spot → Type 0)
      (P : Node → Type 0) → Turns w rank i c done n c' → Stems R P c → Starts n → P n
  turn_within R P (turns.point p) own h = point_within R P p own h
  turn_within R P (turns.runs called is passes lasts) own h = absurd h
  turn_within R P (turns.resumes {s = s} {stood = stood} passes lasts) own h = absurd (run_starts stood s.label s.place s.arguments h)
  turn_within R P (turns.returns {s = s} {stood = stood} passes) own h = absurd (run_starts stood s.label s.place s.arguments h)
  turn_within R P (turns.in_seq t) own h = turn_within R P t own.0 h
  turn_within {n = n} R P (turns.in_par {s = s} t) own h =
      own.0.nodes n (fork_inner s.label s.place s.bodies n (one_within R s.bodies t own.1 h))
  turn_within {n = n} R P (turns.in_guard {s = s} t) own h =
      own.0.nodes n (watch_inner s.label s.place s.guard s.test s.body n (turn_within R (Member (nodes_in s.body)) t own.1 h))

  one_within : {w : Setting} {rank : ℕ → Node → ℕ} {i : ℕ} {branches : Trees} {done : List AnsweredDeed} {n : Node} {branches' : Trees}
      (R : Spot → Type 0) (bodies : Bodies) → OneTurns w rank i branches done n branches' → StemEach R bodies branches → Starts n →
      Member (nodes_in_each bodies) n
  one_within R Last (turns.first t) own h = absurd own
  one_within R Last (turns.later t) own h = absurd own
  one_within {n = n} R (BodyOf weak body rest) (turns.first t) own h =
      left (nodes_in body) (nodes_in_each rest) n (turn_within R (Member (nodes_in body)) t own.0 h)
  one_within {n = n} R (BodyOf weak body rest) (turns.later t) own h =
      right (nodes_in body) (nodes_in_each rest) n (one_within R rest t own.1 h)

-- ---- marks that are as they were

-- the marks of the first nodes of this part are as they were
abbrev SameMarks : (Node → ℕ) → (ℕ → Bool) → (ℕ → Bool) → (Node → Type 0) → Type 0
SameMarks number marks marks' P = (m : Node) → P m → Starts m → marks' (number m) ≡ marks (number m)

mutual
  same_marks : (number : Node → ℕ) (marks marks' : ℕ → Bool) (R : Spot → Type 0) (P : Node → Type 0) (c : Tree) → Stems R P c →
      SameMarks number marks marks' P → Marked number marks c → Marked number marks' c
  same_marks number marks marks' R P Nil own same m = tt
  same_marks number marks marks' R P (Wait s) own same m = tt
  same_marks number marks marks' R P (Test s) own same m = tt
  same_marks number marks marks' R P (Idle body) own same m = tt
  same_marks number marks marks' R P (Do s) own same m = tt
  same_marks number marks marks' R P (Seq c Done) own same m = absurd own
  same_marks number marks marks' R P (Seq c (Then s rest)) own same m = same_marks number marks marks' R P c own.0 same m
  same_marks number marks marks' R P (Par s stood branches) own same m = (
    λ instant. same (ForkAt s.label s.place) (own.0.nodes (ForkAt s.label s.place) (inl refl)) tt ∙ m.0 instant,
    same_each number marks marks' R s.bodies branches own.1
        (λ k there starts. same k (own.0.nodes k (fork_inner s.label s.place s.bodies k there)) starts) m.1,
  )
  same_marks number marks marks' R P (Guard s phase stood c) own same m = (
    λ instant. same (StartAt s.label s.place) (own.0.nodes (StartAt s.label s.place) (inl refl)) tt ∙ m.0 instant,
    same_marks number marks marks' R (Member (nodes_in s.body)) c own.1
        (λ k there starts. same k (own.0.nodes k (watch_inner s.label s.place s.guard s.test s.body k there)) starts) m.1,
  )
  same_marks number marks marks' R P (Run s callee phase stood c) own same m = tt

  same_each : (number : Node → ℕ) (marks marks' : ℕ → Bool) (R : Spot → Type 0) (bodies : Bodies) (branches : Trees) →
      StemEach R bodies branches →
      SameMarks number marks marks' (Member (nodes_in_each bodies)) → MarkEach number marks branches → MarkEach number marks' branches
  same_each number marks marks' R bodies no_tree own same m = tt
  same_each number marks marks' R Last (beside weak c branches) own same m = absurd own
  same_each number marks marks' R (BodyOf weak body rest) (beside weak' c branches) own same m = (
    same_marks number marks marks' R (Member (nodes_in body)) c own.0
        (λ k there starts. same k (left (nodes_in body) (nodes_in_each rest) k there) starts) m.0,
    same_each number marks marks' R rest branches own.1
        (λ k there starts. same k (right (nodes_in body) (nodes_in_each rest) k there) starts) m.1,
  )

-- ---- turns

-- the rule of a node, of those of a body: it leaves the marks of all other nodes, and no other rule is of the node
record Acts (number : Node → ℕ) (All : Node → Type 0) (ruled : List Transition) (rule : Transition) (r : Registers) (n : Node) : Type 0 where
  keeps_others : (answer : Bool) (m : Node) → All m → (m ≡ n → ⊥) → (after_rule number rule answer r).marks (number m) ≡ r.marks (number m)
  sole : (other : Transition) → Contains ruled other → other.node ≡ n → other ≡ rule

module _ (number : Node → ℕ) (All : Node → Type 0) (R : Spot → Type 0) (slots : Slots) (ruled : List Transition) (rule : Transition) (r : Registers) where
  -- a construct that begins sets its mark
  sets_mark : (n : Node) (instant : Bool) (rest : List Change) → Acts number All ruled rule r n →
      Contains ruled (flagged n (marked instant n rest)) → instant ≡ true → (after_rule number rule true r).marks (number n) ≡ true
  sets_mark n instant rest acts there is =
      subst (λ (other : Transition). (after_rule number other true r).marks (number n) ≡ true) (acts.sole (flagged n (marked instant n rest)) there refl)
      (begins_marked number instant n rest r is)

  mark_point : {w : Setting} {i : ℕ} {c : Tree} {d : Bool} {a : Deed} {n : Node} {c' : Tree} (P : Node → Type 0) (next : Change) →
      ((m : Node) → P m → All m) → Acts number All ruled rule r n → InstancePoint w i c d a n c' → Stems R P c → Sits slots ruled c next →
      Marked number r.marks c → Marked number (after_rule number rule d r).marks c'
  mark_point P next sub acts turns.acts own sits m = tt
  mark_point P next sub acts (turns.takes {body = body}) own sits m = marked_block number (after_rule number rule true r).marks body
  mark_point P next sub acts (turns.passes {other = other}) own sits m = marked_block number (after_rule number rule false r).marks other
  mark_point P next sub acts turns.pauses own sits m = tt
  mark_point P next sub acts (turns.repeats {l = l} {at = at} {body = body}) own sits m =
      marked_block number (after_rule number rule true r).marks (turn body (Repeat l at body))
  mark_point P next sub acts (turns.repeats_until {l = l} {at = at} {body = body} {e = e}) own sits m =
      marked_block number (after_rule number rule true r).marks (turn body (Again l at body e))
  mark_point P next sub acts turns.leaves own sits m = tt
  mark_point P next sub acts turns.turns own sits m = tt
  mark_point P next sub acts (turns.enters {l = l} {at = at} {e = e} {body = body}) own sits m =
      marked_block number (after_rule number rule true r).marks (turn body (While l at e body))
  mark_point P next sub acts turns.skips own sits m = tt
  mark_point P next sub acts (turns.forks {l = l} {at = at} {bodies = bodies}) own sits m = (
    λ instant. sets_mark (ForkAt l at) (is_instant (Cobegin l at bodies)) (enter_each slots l 0 bodies) acts
        (sits (flagged (ForkAt l at) (marked (is_instant (Cobegin l at bodies)) (ForkAt l at) (enter_each slots l 0 bodies)))
        (contained (rules_of slots (Cobegin l at bodies) next)
        (flagged (ForkAt l at) (marked (is_instant (Cobegin l at bodies)) (ForkAt l at) (enter_each slots l 0 bodies))) (inl refl))) instant,
    marked_begun number (after_rule number rule true r).marks bodies,
  )
  mark_point P next sub acts (turns.guards {l = l} {at = at} {guard = guard} {e = e} {body = body}) own sits m = (
    λ instant. sets_mark (StartAt l at) (are_instant body) (enter body (body_ends l at body) ∷ []) acts
        (sits (flagged (StartAt l at) (marked (are_instant body) (StartAt l at) (enter body (body_ends l at body) ∷ [])))
        (contained (rules_of slots (When l at guard e body) next)
        (flagged (StartAt l at) (marked (are_instant body) (StartAt l at) (enter body (body_ends l at body) ∷ []))) (inl refl))) instant,
    marked_block number (after_rule number rule true r).marks body,
  )
  mark_point P next sub acts turns.goes_on own sits m = tt
  mark_point P next sub acts turns.waits own sits m = tt
  mark_point P next sub acts (turns.lets {s = s} {stood = stood} {c = c}) own sits m =
      let same : SameMarks number r.marks (after_rule number rule false r).marks P =
      λ k there starts. acts.keeps_others false k (sub k there) (λ e. subst Starts e starts) in
      same_marks number r.marks (after_rule number rule false r).marks R P (Guard s Body stood c) own same m
  mark_point P next sub acts (turns.aborts is) own sits m = tt
  mark_point P next sub acts (turns.resets {s = s} is) own sits m = (
    λ instant. acts.keeps_others true (StartAt s.label s.place) (sub (StartAt s.label s.place) (own.0.nodes (StartAt s.label s.place) (inl refl)))
        (λ e. subst Starts e tt) ∙ m.0 instant,
    marked_block number (after_rule number rule true r).marks s.body,
  )
  mark_point P next sub acts turns.guard_ends own sits m = tt
  mark_point P next sub acts (turns.joins settled done) own sits m = tt

  mutual
    mark_turn : {w : Setting} {rank : ℕ → Node → ℕ} {i : ℕ} {c : Tree} {done : List AnsweredDeed} {n : Node} {c' : Tree} (P : Node → Type 0)
        (next : Change) → ((m : Node) → P m → All m) → Acts number All ruled rule r n → (t : Turns w rank i c done n c') → Stems R P c →
        Sits slots ruled c next → Marked number r.marks c → Marked number (after_rule number rule (answer_of t) r).marks c'
    mark_turn P next sub acts (turns.point p) own sits m = mark_point P next sub acts p own sits m
    mark_turn P next sub acts (turns.runs called is passes lasts) own sits m = tt
    mark_turn P next sub acts (turns.resumes passes lasts) own sits m = tt
    mark_turn P next sub acts (turns.returns passes) own sits m = tt
    mark_turn P next sub acts (turns.in_seq {s = s} {rest = rest} {c' = c'} t) own sits m =
        marked_seq number (after_rule number rule (answer_of t) r).marks c' s rest
        (mark_turn P (enter (Then s rest) next) sub acts t own.0 sits.0 m)
    mark_turn {n = n} P next sub acts (turns.in_par {s = s} t) own sits m = (
      λ instant. acts.keeps_others (one_answer_of t) (ForkAt s.label s.place)
          (sub (ForkAt s.label s.place) (own.0.nodes (ForkAt s.label s.place) (inl refl)))
          (λ e. fork_alone s.label s.place s.bodies own.0.differ n (one_within R s.bodies t own.1 (subst Starts e tt)) e)
          ∙ m.0 instant,
      mark_one P s.label 0 s.bodies (λ k there. own.0.nodes k (fork_inner s.label s.place s.bodies k there)) sub
          (fork_differ s.label s.place s.bodies own.0.differ).1 acts t own.1 sits.1 m.1,
    )
    mark_turn {n = n} P next sub acts (turns.in_guard {s = s} t) own sits m = (
      λ instant. acts.keeps_others (answer_of t) (StartAt s.label s.place)
          (sub (StartAt s.label s.place) (own.0.nodes (StartAt s.label s.place) (inl refl)))
          (λ e. watch_alone s.label s.place s.guard s.test s.body own.0.differ n
          (turn_within R (Member (nodes_in s.body)) t own.1 (subst Starts e tt)) e)
          ∙ m.0 instant,
      mark_turn (Member (nodes_in s.body)) (body_ends s.label s.place s.body)
          (λ k there. sub k (own.0.nodes k (watch_inner s.label s.place s.guard s.test s.body k there))) acts t own.1 sits.1 m.1,
    )

    mark_one : {w : Setting} {rank : ℕ → Node → ℕ} {i : ℕ} {branches : Trees} {done : List AnsweredDeed} {n : Node} {branches' : Trees}
        (P : Node → Type 0) (l : Label) (k : ℕ) (bodies : Bodies) → ((m : Node) → Member (nodes_in_each bodies) m → P m) →
        ((m : Node) → P m → All m) →
        NodesAreDistinct (nodes_in_each bodies) → Acts number All ruled rule r n → (t : OneTurns w rank i branches done n branches') →
        StemEach R bodies branches →
        SitEach slots ruled l k bodies branches → MarkEach number r.marks branches →
        MarkEach number (after_rule number rule (one_answer_of t) r).marks branches'
    mark_one P l k Last within sub differ acts (turns.first t) own sits m = absurd own
    mark_one P l k Last within sub differ acts (turns.later t) own sits m = absurd own
    mark_one {n = n} P l k (BodyOf weak body rest) within sub differ acts (turns.first {others = others} t) own sits m = (
      mark_turn (Member (nodes_in body)) (SetsCounter (slots.ending l k))
          (λ j there. sub j (within j (left (nodes_in body) (nodes_in_each rest) j there))) acts t own.0 sits.1 m.0,
      same_each number r.marks (after_rule number rule (answer_of t) r).marks R rest others own.1
          (λ j there starts. acts.keeps_others (answer_of t) j (sub j (within j (right (nodes_in body) (nodes_in_each rest) j there)))
          (λ e. differ_apart (nodes_in body) (nodes_in_each rest) differ n j
          (turn_within R (Member (nodes_in body)) t own.0 (subst Starts e starts)) there (itself n j (sym e)))) m.1,
    )
    mark_one {n = n} P l k (BodyOf weak body rest) within sub differ acts (turns.later {c = c} t) own sits m = (
      same_marks number r.marks (after_rule number rule (one_answer_of t) r).marks R (Member (nodes_in body)) c own.0
          (λ j there starts. acts.keeps_others (one_answer_of t) j (sub j (within j (left (nodes_in body) (nodes_in_each rest) j there)))
          (λ e. differ_apart (nodes_in body) (nodes_in_each rest) differ j n there
          (one_within R rest t own.1 (subst Starts e starts)) (itself j n e))) m.0,
      mark_one P l (suc k) rest (λ j there. within j (right (nodes_in body) (nodes_in_each rest) j there)) sub
          (differ_second (nodes_in body) (nodes_in_each rest) differ) acts t own.1 sits.2 m.1,
    )

-- ---- the law

acts_so : (w : Setting) (rank : ℕ → Node → ℕ) (i : ℕ) (slots : Slots) (unit : UnitDef) (stood : Bool) (c : Tree) (n : Node) (rule : Transition)
    (r : Registers) →
    StaysPlaced → Turning w rank i slots unit stood c n rule →
    Acts (rank i) (Contains (nodes_in (plain_body unit.body))) (rules slots (plain_body unit.body)) rule r n
acts_so w rank i slots unit stood c n rule r placed turning = record {
  keeps_others = λ answer m there apart.
      rule_keeps (rank i) rule answer r (rank i m) (tame_rule slots (plain_body unit.body) rule turning.there)
      (λ e. apart (turning.orders.apart i unit m rule.node turning.is there node_there e ∙ turning.of_node));
  sole = λ other there is.
      sole_rule (rules slots (plain_body unit.body)) (nodes_in (plain_body unit.body)) (placed.nodes slots (plain_body unit.body))
      (bodies_differ unit.body []) other rule there turning.there (itself other.node rule.node (is ∙ sym turning.of_node));
}
  where
    node_there : Contains (nodes_in (plain_body unit.body)) rule.node
    node_there =
        rule_there (rules slots (plain_body unit.body)) (nodes_in (plain_body unit.body)) (placed.nodes slots (plain_body unit.body)) rule turning.there

pub turns_keep_marks : TurnsKeepMarks
turns_keep_marks w rank i slots unit stood c done n c' rule r turn placed turning stemmed m =
    mark_turn (rank i) (Contains (nodes_in (plain_body unit.body))) (Contains (spots_in (plain_body unit.body))) slots
    (rules slots (plain_body unit.body)) rule r (Contains (nodes_in (plain_body unit.body))) Finishes (λ k there. there)
    (acts_so w rank i slots unit stood c n rule r placed turning) turn stemmed turning.placed.sits m
