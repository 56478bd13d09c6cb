-- The rules of a tree stay among those of its body.
use Rattle.std.proofs.Common.{◌≡◌, ℕ, suc, Bool, true, false, List, [], ◌∷◌, ◌++◌, map, refl, ap, ◌∙◌}
use Rattle.std.proofs.lemmas.List.{map-append}
use Rattle.bl_graph_nodes.specs.Nodes.{CheckAt, DepthEndAt, DepthJoinAt, ForkAt, HeadAt, Node, StartAt, SurfaceEndAt, SurfaceJoinAt, TestAt, are_instant, entry}
use Rattle.bl_graph_nodes.specs.Nodes.{is_instant, nodes_in, nodes_in_each, nodes_of, where_so}
use Rattle.bl_graph_nodes.specs.Plain.{Act, Again, Await, Block, Bodies, Body as BodyOf, Cobegin, Done, If, Label, Last, Plain, Repeat, Run as RunOf, Then}
use Rattle.bl_graph_nodes.specs.Plain.{Until, When, While}
use Rattle.bl_ctree.specs.Instances.{Setting}
use Rattle.bl_ctree_laws.specs.Pending.{Deed}
use Rattle.bl_ctree_laws.specs.Steps.{turn}
use Rattle.bl_ctree_laws.specs.Trees.{Tree, Trees, Nil, Wait, Test, Idle, Do, Seq, Par, Guard, Run, all_woken, trees_begun, beside, do_block, no_tree, seq}
use Rattle.bl_ctree_laws.specs.Trees.{woken}
use Rattle.bl_machine.specs.Uses.{Slots}
use Rattle.bl_machine_laws.specs.Numbers.Turns as turns
use Rattle.bl_machine_laws.specs.Numbers.Turns.{AnsweredDeed, InstancePoint, OneTurns, Turns}
use Rattle.bl_machine_pass.specs.Transitions.{Change, IsNew, SetsCounter, SetsFlag, Transition, body_ends, enter, flagged, joins, rule_where, rules_in, rules_in_each, rules_of}
use Rattle.bl_machine_pass_laws.specs.Turns.Sits.{RulesAreAmong, SitEach, Sits}
use Rattle.bl_machine_pass_laws.proofs.OnNumbers.Members.{Each, among_of, each_both, each_left, each_of, each_right}
use Rattle.bl_machine_pass_laws.proofs.OnNumbers.Parts.{behind_check, body_rules, branch_rules, check, depth_join, surface_end, surface_join}

-- ---- the rules of a body are those of its nodes

abbrev pub node_of : Transition → Node
node_of rule = rule.node

where_nodes : (test : Bool) (rule : Transition) → map node_of (rule_where test rule) ≡ where_so test rule.node
where_nodes true rule = refl
where_nodes false rule = refl

module _ (slots : Slots) where
  mutual
    nodes_of_rules : (s : Plain) (next : Change) → map node_of (rules_of slots s next) ≡ nodes_of s
    nodes_of_rules (Act l s) next = refl
    nodes_of_rules (Await l at e) next = refl
    nodes_of_rules (RunOf l at target a inputs outputs) next = refl
    nodes_of_rules (If l at e body other) next =
        ap (λ nodes. TestAt l at e ∷ nodes)
        (map-append node_of (rules_in slots body next) (rules_in slots other next)
        ∙ ap (λ nodes. nodes ++ map node_of (rules_in slots other next)) (nodes_of_rules_in body next)
        ∙ ap (λ nodes. nodes_in body ++ nodes) (nodes_of_rules_in other next))
    nodes_of_rules (Cobegin l at bodies) next =
        ap (λ nodes. ForkAt l at ∷ nodes)
        (map-append node_of (surface_join slots l at bodies next) (depth_join slots l at bodies next ∷ rules_in_each slots l 0 bodies)
        ∙ ap (λ nodes. nodes ++ map node_of (depth_join slots l at bodies next ∷ rules_in_each slots l 0 bodies))
        (where_nodes (is_instant (Cobegin l at bodies)) (joins slots l bodies (IsNew (ForkAt l at)) (SurfaceJoinAt l at) next))
        ∙ ap (λ nodes. where_so (is_instant (Cobegin l at bodies)) (SurfaceJoinAt l at) ++ DepthJoinAt l at ∷ nodes)
        (nodes_of_rules_in_each l 0 bodies))
    nodes_of_rules (When l at guard e body) next =
        ap (λ nodes. StartAt l at ∷ nodes)
        (map-append node_of (surface_end l at body next) (check slots l at guard e body next ∷ behind_check slots l at body next)
        ∙ ap (λ nodes. nodes ++ map node_of (check slots l at guard e body next ∷ behind_check slots l at body next))
        (where_nodes (are_instant body) (flagged (SurfaceEndAt l at) (next ∷ [])))
        ∙ ap (λ nodes. where_so (are_instant body) (SurfaceEndAt l at) ++ CheckAt l at e ∷ DepthEndAt l at ∷ nodes)
        (nodes_of_rules_in body (body_ends l at body)))
    nodes_of_rules (Repeat l at body) next = ap (λ nodes. HeadAt l at ∷ nodes) (nodes_of_rules_in body (SetsFlag (HeadAt l at)))
    nodes_of_rules (Until l at body e) next =
        ap (λ nodes. HeadAt l at ∷ TestAt l at e ∷ nodes) (nodes_of_rules_in body (SetsFlag (TestAt l at e)))
    nodes_of_rules (While l at e body) next = ap (λ nodes. TestAt l at e ∷ nodes) (nodes_of_rules_in body (SetsFlag (TestAt l at e)))
    nodes_of_rules (Again l at body e) next =
        ap (λ nodes. HeadAt l at ∷ TestAt l at e ∷ nodes) (nodes_of_rules_in body (SetsFlag (TestAt l at e)))

    pub nodes_of_rules_in : (body : Block) (next : Change) → map node_of (rules_in slots body next) ≡ nodes_in body
    nodes_of_rules_in Done next = refl
    nodes_of_rules_in (Then s rest) next =
        map-append node_of (rules_of slots s (enter rest next)) (rules_in slots rest next)
        ∙ ap (λ nodes. nodes ++ map node_of (rules_in slots rest next)) (nodes_of_rules s (enter rest next))
        ∙ ap (λ nodes. nodes_of s ++ nodes) (nodes_of_rules_in rest next)

    nodes_of_rules_in_each : (l : Label) (k : ℕ) (bodies : Bodies) → map node_of (rules_in_each slots l k bodies) ≡ nodes_in_each bodies
    nodes_of_rules_in_each l k Last = refl
    nodes_of_rules_in_each l k (BodyOf weak body rest) =
        map-append node_of (rules_in slots body (SetsCounter (slots.ending l k))) (rules_in_each slots l (suc k) rest)
        ∙ ap (λ nodes. nodes ++ map node_of (rules_in_each slots l (suc k) rest)) (nodes_of_rules_in body (SetsCounter (slots.ending l k)))
        ∙ ap (λ nodes. nodes_in body ++ nodes) (nodes_of_rules_in_each l (suc k) rest)

-- ---- trees that begin

module _ (slots : Slots) (all : List Transition) where
  -- the rules of a statement, one by one
  rules_there : (s : Plain) (next : Change) → RulesAreAmong all (rules_of slots s next) → Each all (rules_of slots s next)
  rules_there s next among = each_of all (rules_of slots s next) among

  pub block_sits : (body : Block) (next : Change) → Each all (rules_in slots body next) → Sits slots all (do_block body) next
  block_sits Done next each = tt
  block_sits (Then s Done) next each = among_of all (rules_of slots s next) (each_left all (rules_of slots s next) [] each)
  block_sits (Then s (Then t rest)) next each = (
    among_of all (rules_of slots s (SetsFlag (entry t)))
        (each_left all (rules_of slots s (SetsFlag (entry t))) (rules_in slots (Then t rest) next) each),
    among_of all (rules_in slots (Then t rest) next)
        (each_right all (rules_of slots s (SetsFlag (entry t))) (rules_in slots (Then t rest) next) each),
  )

  -- the body of a loop before the loop
  turn_rules : (body : Block) (x : Plain) (next : Change) → Each all (rules_in slots body (SetsFlag (entry x))) → Each all (rules_of slots x next) →
      Each all (rules_in slots (turn body x) next)
  turn_rules Done x next some more = each_both all (rules_of slots x next) [] more tt
  turn_rules (Then s Done) x next some more =
      each_both all (rules_of slots s (SetsFlag (entry x))) (rules_of slots x next ++ []) (each_left all (rules_of slots s (SetsFlag (entry x))) [] some)
      (each_both all (rules_of slots x next) [] more tt)
  turn_rules (Then s (Then t rest)) x next some more =
      each_both all (rules_of slots s (SetsFlag (entry t))) (rules_in slots (turn (Then t rest) x) next)
      (each_left all (rules_of slots s (SetsFlag (entry t))) (rules_in slots (Then t rest) (SetsFlag (entry x))) some)
      (turn_rules (Then t rest) x next
      (each_right all (rules_of slots s (SetsFlag (entry t))) (rules_in slots (Then t rest) (SetsFlag (entry x))) some) more)

  begun_sit : (l : Label) (k : ℕ) (bodies : Bodies) → Each all (rules_in_each slots l k bodies) → SitEach slots all l k bodies (trees_begun bodies)
  begun_sit l k Last each = tt
  begun_sit l k (BodyOf weak body rest) each = (
    refl,
    block_sits body (SetsCounter (slots.ending l k))
        (each_left all (rules_in slots body (SetsCounter (slots.ending l k))) (rules_in_each slots l (suc k) rest) each),
    begun_sit l (suc k) rest (each_right all (rules_in slots body (SetsCounter (slots.ending l k))) (rules_in_each slots l (suc k) rest) each),
  )

  seq_sits : (c : Tree) (s : Plain) (rest : Block) (next : Change) → Sits slots all c (SetsFlag (entry s)) →
      RulesAreAmong all (rules_in slots (Then s rest) next) → Sits slots all (seq c (Then s rest)) next
  seq_sits Nil s rest next sits among = block_sits (Then s rest) next (each_of all (rules_in slots (Then s rest) next) among)
  seq_sits (Wait p) s rest next sits among = (sits, among)
  seq_sits (Test p) s rest next sits among = (sits, among)
  seq_sits (Idle body) s rest next sits among = (sits, among)
  seq_sits (Do p) s rest next sits among = (sits, among)
  seq_sits (Seq c after) s rest next sits among = (sits, among)
  seq_sits (Par p stood branches) s rest next sits among = (sits, among)
  seq_sits (Guard p phase stood c) s rest next sits among = (sits, among)
  seq_sits (Run p callee phase stood c) s rest next sits among = (sits, among)

  -- ---- turns

  sits_point : {w : Setting} {i : ℕ} {c : Tree} {d : Bool} {a : Deed} {n : Node} {c' : Tree} (next : Change) → InstancePoint w i c d a n c' →
      Sits slots all c next → Sits slots all c' next
  sits_point next turns.acts sits = tt
  sits_point next (turns.takes {l = l} {at = at} {e = e} {body = body} {other = other}) sits =
      block_sits body next
      (each_left all (rules_in slots body next) (rules_in slots other next) (rules_there (If l at e body other) next sits).1)
  sits_point next (turns.passes {l = l} {at = at} {e = e} {body = body} {other = other}) sits =
      block_sits other next
      (each_right all (rules_in slots body next) (rules_in slots other next) (rules_there (If l at e body other) next sits).1)
  sits_point next turns.pauses sits = sits
  sits_point next (turns.repeats {l = l} {at = at} {body = body}) sits =
      let each = rules_there (Repeat l at body) next sits in
      block_sits (turn body (Repeat l at body)) next (turn_rules body (Repeat l at body) next each.1 each)
  sits_point next (turns.repeats_until {l = l} {at = at} {body = body} {e = e}) sits =
      let each = rules_there (Until l at body e) next sits in
      block_sits (turn body (Again l at body e)) next (turn_rules body (Again l at body e) next each.1.1 each)
  sits_point next turns.leaves sits = tt
  sits_point next turns.turns sits = sits
  sits_point next (turns.enters {l = l} {at = at} {e = e} {body = body}) sits =
      let each = rules_there (While l at e body) next sits in
      block_sits (turn body (While l at e body)) next (turn_rules body (While l at e body) next each.1 each)
  sits_point next turns.skips sits = tt
  sits_point next (turns.forks {l = l} {at = at} {bodies = bodies}) sits =
      (sits, begun_sit l 0 bodies (branch_rules slots all l at bodies next sits))
  sits_point next (turns.guards {l = l} {at = at} {guard = guard} {e = e} {body = body}) sits =
      (sits, block_sits body (body_ends l at body) (body_rules slots all l at guard e body next sits))
  sits_point next turns.goes_on sits = tt
  sits_point next turns.waits sits = sits
  sits_point next turns.lets sits = sits
  sits_point next (turns.aborts is) sits = tt
  sits_point next (turns.resets {s = s} is) sits =
      (sits.0, block_sits s.body (body_ends s.label s.place s.body) (body_rules slots all s.label s.place s.guard s.test s.body next sits.0))
  sits_point next turns.guard_ends sits = tt
  sits_point next (turns.joins settled done) sits = tt

  mutual
    pub sits_turn : {w : Setting} {rank : ℕ → Node → ℕ} {i : ℕ} {c : Tree} {done : List AnsweredDeed} {n : Node} {c' : Tree} (next : Change) →
        Turns w rank i c done n c' → Sits slots all c next → Sits slots all c' next
    sits_turn next (turns.point p) sits = sits_point next p sits
    sits_turn next (turns.runs called is passes unended) sits = sits
    sits_turn next (turns.resumes passes unended) sits = sits
    sits_turn next (turns.returns passes) sits = tt
    sits_turn next (turns.in_seq {s = s} {rest = rest} {c' = c'} t) sits =
        seq_sits c' s rest next (sits_turn (SetsFlag (entry s)) t sits.0) sits.1
    sits_turn next (turns.in_par {s = s} t) sits = (sits.0, one_sits s.label 0 s.bodies t sits.1)
    sits_turn next (turns.in_guard {s = s} t) sits = (sits.0, sits_turn (body_ends s.label s.place s.body) t sits.1)

    one_sits : {w : Setting} {rank : ℕ → Node → ℕ} {i : ℕ} {branches : Trees} {done : List AnsweredDeed} {n : Node} {branches' : Trees}
        (l : Label) (k : ℕ) (bodies : Bodies) → OneTurns w rank i branches done n branches' → SitEach slots all l k bodies branches →
        SitEach slots all l k bodies branches'
    one_sits l k Last (turns.first t) sits = absurd sits
    one_sits l k Last (turns.later t) sits = absurd sits
    one_sits l k (BodyOf weak body rest) (turns.first t) sits = (sits.0, sits_turn (SetsCounter (slots.ending l k)) t sits.1, sits.2)
    one_sits l k (BodyOf weak body rest) (turns.later t) sits = (sits.0, sits.1, one_sits l (suc k) rest t sits.2)

  -- ---- waking

  mutual
    pub woken_sits : (c : Tree) (next : Change) → Sits slots all c next → Sits slots all (woken c) next
    woken_sits Nil next sits = tt
    woken_sits (Wait s) next sits = sits
    woken_sits (Test s) next sits = sits
    woken_sits (Idle body) next sits = block_sits body next (each_of all (rules_in slots body next) sits)
    woken_sits (Do s) next sits = sits
    woken_sits (Seq c rest) next sits = (woken_sits c (enter rest next) sits.0, sits.1)
    woken_sits (Par s stood branches) next sits = (sits.0, all_woken_sit s.label 0 s.bodies branches sits.1)
    woken_sits (Guard s phase stood c) next sits = (sits.0, woken_sits c (body_ends s.label s.place s.body) sits.1)
    woken_sits (Run s callee phase stood c) next sits = sits

    all_woken_sit : (l : Label) (k : ℕ) (bodies : Bodies) (branches : Trees) → SitEach slots all l k bodies branches →
        SitEach slots all l k bodies (all_woken branches)
    all_woken_sit l k Last no_tree sits = tt
    all_woken_sit l k Last (beside weak c branches) sits = absurd sits
    all_woken_sit l k (BodyOf weak body rest) no_tree sits = absurd sits
    all_woken_sit l k (BodyOf weak body rest) (beside weak' c branches) sits =
        (sits.0, woken_sits c (SetsCounter (slots.ending l k)) sits.1, all_woken_sit l (suc k) rest branches sits.2)
