-- Which rules the nodes have at which a tree waits or sleeps.
use Rattle.std.proofs.Common.{◌≡◌, ◌⊎◌, inl, inr, ⊎_elim, ℕ, suc, Bool, true, false, List, [], ◌∷◌, ◌++◌, map, Option, Some, None, refl, sym, subst, ◌∙◌}
use Rattle.std.specs.Prelude.{Contains}
use Rattle.std.proofs.lemmas.Bool.{or_left, or_right}
use Rattle.bl_tree.proofs.Basics.{contains_first, contains_further}
use Rattle.bl_tree.specs.declared.place.Place.{Place as Source}
use Rattle.bl_graph_nodes.specs.Nodes.{ActAt, CheckAt, DepthEndAt, DepthJoinAt, EnterAt, ForkAt, HeadAt, Node, PauseAt, ResumeAt, StartAt, SurfaceEndAt}
use Rattle.bl_graph_nodes.specs.Nodes.{SurfaceJoinAt, TestAt, are_instant, entry, is_instant}
use Rattle.bl_graph_nodes.specs.Plain.{Await, Block, Bodies, Body as BodyOf, Done, Label, Last, Plain, Then}
use Rattle.bl_graph_nodes.specs.Steps.{end_node, join_node, run_node}
use Rattle.bl_cause.proofs.PairLemmas.{contains_left}
use Rattle.bl_ctree.specs.Control.{Body, Check}
use Rattle.bl_ctree.specs.Instances.{Setting}
use Rattle.bl_ctree_laws.specs.Trees.{Call, Fork, Pause, Tree, Trees, Watch, Nil, Wait, Test, Idle, Do, Seq, Par, Guard, Run, beside, no_tree}
use Rattle.bl_ctree_laws_traces.specs.Progress.FitsGraph.{AllFitGraph, FitsGraph, call_stmt, fork_stmt, watch_stmt}
use Rattle.bl_ctree_laws_traces.specs.Progress.Places.{Place, ahead_of, guarded, in_branch, later_on}
use Rattle.bl_machine.specs.declared.slots.Slot.{Slot}
use Rattle.bl_machine.specs.Uses.{Slots, uses, uses_in, uses_in_branch, uses_in_each}
use Rattle.bl_machine_laws.specs.Numbers.Waiting.{Is, Sleeps, SomeSleeps, SomeWaits, Waits, first_in}
use Rattle.bl_machine_pass.specs.Transitions.{Change, SetsFlag, ClearsBoth, SetsCounter, IsNew, Age, Rested, RestedIn, Transition, age_of, body_ends}
use Rattle.bl_machine_pass.specs.Transitions.{counters_in, enter, fires, flagged, enter_each, joins, marked, once, rests_in, rule_where, rules_in}
use Rattle.bl_machine_pass.specs.Transitions.{rules_in_each, rules_of}
use Rattle.bl_machine_pass_laws.specs.Turns.Invariant.{IsFlagged, IsResume}
use Rattle.bl_machine_pass_laws.specs.Turns.Sits.{RulesAreAmong, SitEach, Sits, UseEach, UsesOnly}
use Rattle.bl_machine_pass_laws_turns.proofs.OnWaiting.Lists.{contains_right}
use Rattle.bl_machine_pass_laws_turns.proofs.OnWaiting.Rules.{AsksFor, IsEndNode, IsJoinNode, RuleAt, entry_rule, rests_there_in}

-- ---- the rules of constructs

-- where an `await` goes on
abbrev pub test_rule : Slots → Pause → Change → Transition
test_rule slots s next = record {
  node = TestAt s.label s.place s.test;
  condition = Rested (slots.rest s.label);
  on_true = next ∷ [];
  on_false = [];
}

-- where a `run` does
abbrev pub resume_rule : Slots → Call → Change → Transition
resume_rule slots s next = record {
  node = ResumeAt s.label s.place s.arguments;
  condition = Rested (slots.rest s.label);
  on_true = next ∷ [];
  on_false = [];
}

-- the condition of a `when`
abbrev pub check_rule : Slots → Watch → Change → Transition
check_rule slots s next = record {
  node = CheckAt s.label s.place s.test;
  condition = RestedIn (rests_in slots s.body);
  on_true = map ClearsBoth (once (counters_in slots s.body)) ++ fires s.guard s.label s.place s.body next ∷ [];
  on_false = [];
}

-- where a `when` ends, and where a `cobegin` does
abbrev pub end_rule : Bool → Watch → Change → Transition
end_rule stood s next = flagged (end_node stood s.label s.place) (next ∷ [])

abbrev pub age_when : Bool → Fork → Age
age_when true s = age_of (is_instant (fork_stmt s)) (ForkAt s.label s.place)
age_when false s = IsNew (ForkAt s.label s.place)

abbrev pub join_rule : Slots → Bool → Fork → Change → Transition
join_rule slots stood s next = joins slots s.label s.bodies (age_when stood s) (join_node stood s.label s.place) next

-- they are among those of the statement
pub test_there : (slots : Slots) (s : Pause) (next : Change) → Contains (rules_of slots (Await s.label s.place s.test) next) (test_rule slots s next)
test_there slots s next =
    contains_further (flagged (PauseAt s.label s.place) (SetsCounter (slots.rest s.label) ∷ [])) (test_rule slots s next ∷ []) (test_rule slots s next)
    (contains_first (test_rule slots s next) [])

pub resume_there : (slots : Slots) (s : Call) (next : Change) → Contains (rules_of slots (call_stmt s) next) (resume_rule slots s next)
resume_there slots s next =
    contains_further (flagged (EnterAt s.label s.place s.arguments) (SetsCounter (slots.rest s.label) ∷ [])) (resume_rule slots s next ∷ [])
    (resume_rule slots s next) (contains_first (resume_rule slots s next) [])

where_there : (b : Bool) (rule : Transition) → b ≡ true → Contains (rule_where b rule) rule
where_there true rule e = contains_first rule []
where_there false rule e = absurd cc

-- where a `when` begins, and the rules behind that of its condition
abbrev start_rule : Slots → Watch → Transition
start_rule slots s = flagged (StartAt s.label s.place)
    (marked (are_instant s.body) (StartAt s.label s.place) (enter s.body (body_ends s.label s.place s.body) ∷ []))

abbrev under : Slots → Watch → List Transition
under slots s = rules_in slots s.body (body_ends s.label s.place s.body)

abbrev after_start : Slots → Watch → Change → List Transition
after_start slots s next =
    rule_where (are_instant s.body) (end_rule false s next) ++ check_rule slots s next ∷ end_rule true s next ∷ under slots s

pub check_there : (slots : Slots) (s : Watch) (next : Change) → Contains (rules_of slots (watch_stmt s) next) (check_rule slots s next)
check_there slots s next =
    contains_further (start_rule slots s) (after_start slots s next) (check_rule slots s next)
    (contains_right (rule_where (are_instant s.body) (end_rule false s next)) (check_rule slots s next ∷ end_rule true s next ∷ under slots s)
    (check_rule slots s next) (contains_first (check_rule slots s next) (end_rule true s next ∷ under slots s)))

pub end_there : (slots : Slots) (stood : Bool) (s : Watch) (next : Change) → (stood ≡ false → are_instant s.body ≡ true) →
    Contains (rules_of slots (watch_stmt s) next) (end_rule stood s next)
end_there slots true s next instant =
    contains_further (start_rule slots s) (after_start slots s next) (end_rule true s next)
    (contains_right (rule_where (are_instant s.body) (end_rule false s next)) (check_rule slots s next ∷ end_rule true s next ∷ under slots s)
    (end_rule true s next) (contains_further (check_rule slots s next) (end_rule true s next ∷ under slots s) (end_rule true s next)
    (contains_first (end_rule true s next) (under slots s))))
end_there slots false s next instant =
    contains_further (start_rule slots s) (after_start slots s next) (end_rule false s next)
    (contains_left (rule_where (are_instant s.body) (end_rule false s next)) (check_rule slots s next ∷ end_rule true s next ∷ under slots s)
    (end_rule false s next) (where_there (are_instant s.body) (end_rule false s next) (instant refl)))

abbrev fork_rule : Slots → Fork → Transition
fork_rule slots s = flagged (ForkAt s.label s.place)
    (marked (is_instant (fork_stmt s)) (ForkAt s.label s.place) (enter_each slots s.label 0 s.bodies))

abbrev beside_join : Slots → Fork → List Transition
beside_join slots s = rules_in_each slots s.label 0 s.bodies

abbrev after_fork : Slots → Fork → Change → List Transition
after_fork slots s next =
    rule_where (is_instant (fork_stmt s)) (join_rule slots false s next) ++ join_rule slots true s next ∷ beside_join slots s

pub join_there : (slots : Slots) (stood : Bool) (s : Fork) (next : Change) → (stood ≡ false → is_instant (fork_stmt s) ≡ true) →
    Contains (rules_of slots (fork_stmt s) next) (join_rule slots stood s next)
join_there slots true s next instant =
    contains_further (fork_rule slots s) (after_fork slots s next) (join_rule slots true s next)
    (contains_right (rule_where (is_instant (fork_stmt s)) (join_rule slots false s next)) (join_rule slots true s next ∷ beside_join slots s)
    (join_rule slots true s next) (contains_first (join_rule slots true s next) (beside_join slots s)))
join_there slots false s next instant =
    contains_further (fork_rule slots s) (after_fork slots s next) (join_rule slots false s next)
    (contains_left (rule_where (is_instant (fork_stmt s)) (join_rule slots false s next)) (join_rule slots true s next ∷ beside_join slots s)
    (join_rule slots false s next) (where_there (is_instant (fork_stmt s)) (join_rule slots false s next) (instant refl)))

-- ---- what sleeps

-- the node is one at which a later tick goes on, and asks for these counters alone
abbrev pub Asleep : List Transition → (ℕ → Bool) → Node → Type 0
Asleep all used y = RuleAt all y (λ condition. IsResume condition × ((slot : Slot) → AsksFor condition slot → used slot.counter ≡ true))

pub asleep_within : (all : List Transition) (used used' : ℕ → Bool) (y : Node) → ((j : ℕ) → used j ≡ true → used' j ≡ true) → Asleep all used y →
    Asleep all used' y
asleep_within all used used' y within one =
    record { rule = one.rule; there = one.there; of_node = one.of_node; is = (one.is.0, λ slot asks. within slot.counter (one.is.1 slot asks)) }

rest_asleep : (all : List Transition) (used : ℕ → Bool) (y : Node) (rule : Transition) (slot : Slot) → Contains all rule → rule.node ≡ y → rule.condition
    ≡ Rested slot →
    used slot.counter ≡ true → Asleep all used y
rest_asleep all used y rule slot there of_node condition uses = record {
  rule = rule;
  there = there;
  of_node = of_node;
  is = subst (λ one. IsResume one × ((other : Slot) → AsksFor one other → used other.counter ≡ true)) (sym condition)
      (tt, λ other is. subst (λ one. used one.counter ≡ true) (sym is) uses);
}

module _ (w : Setting) (i : ℕ) (slots : Slots) (all : List Transition) where
  mutual
    pub asleep : (used : ℕ → Bool) (g : Place) (next : Change) (c : Tree) (y : Node) → FitsGraph w i c g → Sits slots all c next →
        UsesOnly slots used c →
        Sleeps c y → Asleep all used y
    asleep used g next Nil y live sits uses h = absurd h
    asleep used g next (Wait s) y live sits uses h = absurd h
    asleep used g next (Test s) y live sits uses h =
        rest_asleep all used y (test_rule slots s next) (slots.rest s.label) (sits (test_rule slots s next) (test_there slots s next)) (sym h) refl uses
    asleep used g next (Idle body) y live sits uses h = absurd h
    asleep used g next (Do s) y live sits uses h = absurd h
    asleep used g next (Seq c Done) y live sits uses h = absurd live
    asleep used g next (Seq c (Then s rest)) y live sits uses h =
        asleep used (ahead_of (entry s) g) (SetsFlag (entry s)) c y live.0 sits.0 uses.0 h
    asleep used g next (Par s stood branches) y live sits uses h =
        asleep_within all (uses_in_each slots s.label 0 s.bodies) used y uses.0
        (asleep_each g stood s.label 0 s.bodies branches y live.0 sits.1 uses.1 h)
    asleep used g next (Guard s Body stood c) y live sits uses h =
        asleep_within all (uses_in slots s.body) used y uses.0
        (asleep (uses_in slots s.body) (guarded s g) (body_ends s.label s.place s.body) c y live.0 sits.1 uses.1 h)
    asleep used g next (Guard s Check stood c) y live sits uses (inl h) = record {
      rule = check_rule slots s next;
      there = sits.0 (check_rule slots s next) (check_there slots s next);
      of_node = sym h;
      is = (tt, λ slot asks. let one = rests_there_in slots s.body slot asks in uses.0 slot.counter one.counted);
    }
    asleep used g next (Guard s Check stood c) y live sits uses (inr h) =
        asleep_within all (uses_in slots s.body) used y uses.0
        (asleep (uses_in slots s.body) (later_on (guarded s g)) (body_ends s.label s.place s.body) c y live.0 sits.1 uses.1 h)
    asleep used g next (Run s callee Body stood c) y live sits uses h = absurd h
    asleep used g next (Run s callee Check stood c) y live sits uses h =
        rest_asleep all used y (resume_rule slots s next) (slots.rest s.label) (sits (resume_rule slots s next) (resume_there slots s next))
        (subst (λ b. run_node b s.label s.place s.arguments ≡ y) live.2.has_stood (sym h)) refl uses

    pub asleep_each : (g : Place) (stood : Bool) (l : Label) (k : ℕ) (bodies : Bodies) (branches : Trees) (y : Node) → AllFitGraph w i branches bodies stood g →
        SitEach slots all l k bodies branches → UseEach slots l k bodies branches → SomeSleeps branches y → Asleep all (uses_in_each slots l k bodies) y
    asleep_each g stood l k bodies no_tree y live sits uses h = absurd h
    asleep_each g stood l k Last (beside weak c branches) y live sits uses h = absurd live
    asleep_each g stood l k (BodyOf weak' body rest) (beside weak c branches) y live sits uses (inl h) =
        asleep_within all (uses_in_branch slots l k body) (uses_in_each slots l k (BodyOf weak' body rest)) y
        (λ j used. or_left (uses_in_branch slots l k body j) (uses_in_each slots l (suc k) rest j) used)
        (asleep (uses_in_branch slots l k body) (in_branch stood body g) (SetsCounter (slots.ending l k)) c y live.0 sits.1 uses.0 h)
    asleep_each g stood l k (BodyOf weak' body rest) (beside weak c branches) y live sits uses (inr h) =
        asleep_within all (uses_in_each slots l (suc k) rest) (uses_in_each slots l k (BodyOf weak' body rest)) y
        (λ j used. or_right (uses_in_branch slots l k body j) (uses_in_each slots l (suc k) rest j) used)
        (asleep_each g stood l (suc k) rest branches y live.2 sits.2 uses.1 h)

-- ---- what waits, and does not sleep

-- it waits by its flag, or a construct ends there
abbrev pub Other : List Transition → Node → Type 0
Other all y = RuleAt all y IsFlagged ⊎ IsEndNode y

entry_other : (slots : Slots) (all : List Transition) (s : Plain) (next : Change) (y : Node) → RulesAreAmong all (rules_of slots s next) → y ≡ entry s → Other all y
entry_other slots all s next y sits h =
    let one = entry_rule slots s next in
    inl (record { rule = one.rule; there = sits one.rule one.there; of_node = one.of_node ∙ sym h; is = one.is })

pub join_is_end : (stood : Bool) (l : Label) (at : Source) → IsEndNode (join_node stood l at)
join_is_end true l at = tt
join_is_end false l at = tt

end_is_end : (stood : Bool) (l : Label) (at : Source) → IsEndNode (end_node stood l at)
end_is_end true l at = tt
end_is_end false l at = tt

pub join_is_join : (stood : Bool) (l : Label) (at : Source) → IsJoinNode (join_node stood l at)
join_is_join true l at = tt
join_is_join false l at = tt

pub join_ends : (y : Node) → IsJoinNode y → IsEndNode y
join_ends (ActAt l s) h = h
join_ends (TestAt l at e) h = h
join_ends (PauseAt l at) h = h
join_ends (EnterAt l at arguments) h = h
join_ends (ResumeAt l at arguments) h = h
join_ends (HeadAt l at) h = h
join_ends (StartAt l at) h = h
join_ends (CheckAt l at e) h = h
join_ends (SurfaceEndAt l at) h = tt
join_ends (DepthEndAt l at) h = tt
join_ends (ForkAt l at) h = h
join_ends (SurfaceJoinAt l at) h = tt
join_ends (DepthJoinAt l at) h = tt

first_other : (slots : Slots) (all : List Transition) (rest : Block) (next : Change) (nx : Option Node) (y : Node) → RulesAreAmong all (rules_in slots rest next) →
    (Is nx y → Other all y) → Is (first_in rest nx) y → Other all y
first_other slots all Done next nx y sits follows h = follows h
first_other slots all (Then s rest) next nx y sits follows h =
    entry_other slots all s (enter rest next) y
    (λ rule there. sits rule (contains_left (rules_of slots s (enter rest next)) (rules_in slots rest next) rule there)) h

module _ (slots : Slots) (all : List Transition) where
  mutual
    -- what waits sleeps, or is another node
    pub waits_other : (next : Change) (c : Tree) (nx : Option Node) (y : Node) → Sits slots all c next → (Is nx y → Other all y) → Waits c nx y →
        Sleeps c y ⊎ Other all y
    waits_other next Nil nx y sits follows h = inr (follows h)
    waits_other next (Wait s) nx y sits follows h = absurd h
    waits_other next (Test s) nx y sits follows h = inl h
    waits_other next (Idle body) nx y sits follows h = absurd h
    waits_other next (Do s) nx y sits follows h = inr (entry_other slots all s next y sits h)
    waits_other next (Seq c rest) nx y sits follows h =
        waits_other (enter rest next) c (first_in rest nx) y sits.0 (first_other slots all rest next nx y sits.1 follows) h
    waits_other next (Par s stood branches) nx y sits follows (inl h) = each_other s.label 0 s.bodies branches y sits.1 h
    waits_other next (Par s stood branches) nx y sits follows (inr h) =
        inr (inr (subst IsEndNode (sym h.1) (join_is_end stood s.label s.place)))
    waits_other next (Guard s Body stood c) nx y sits follows h =
        waits_other (body_ends s.label s.place s.body) c (Some (end_node stood s.label s.place)) y sits.1
        (λ is. inr (subst IsEndNode (sym is) (end_is_end stood s.label s.place))) h
    waits_other next (Guard s Check stood c) nx y sits follows (inl h) = inl (inl h)
    waits_other next (Guard s Check stood c) nx y sits follows (inr h) =
        ⊎_elim (λ sleeps. inl (inr sleeps)) (λ other. inr other)
        (waits_other (body_ends s.label s.place s.body) c (Some (end_node stood s.label s.place)) y sits.1
        (λ is. inr (subst IsEndNode (sym is) (end_is_end stood s.label s.place))) h)
    waits_other next (Run s callee Body stood c) nx y sits follows h = absurd h
    waits_other next (Run s callee Check stood c) nx y sits follows h = inl h

    each_other : (l : Label) (k : ℕ) (bodies : Bodies) (branches : Trees) (y : Node) → SitEach slots all l k bodies branches → SomeWaits branches y →
        SomeSleeps branches y ⊎ Other all y
    each_other l k bodies no_tree y sits h = absurd h
    each_other l k Last (beside weak c branches) y sits h = absurd sits
    each_other l k (BodyOf weak' body rest) (beside weak c branches) y sits (inl h) =
        ⊎_elim (λ sleeps. inl (inl sleeps)) (λ other. inr other)
        (waits_other (SetsCounter (slots.ending l k)) c None y sits.1 (λ none. absurd none) h)
    each_other l k (BodyOf weak' body rest) (beside weak c branches) y sits (inr h) =
        ⊎_elim (λ sleeps. inl (inr sleeps)) (λ other. inr other) (each_other l (suc k) rest branches y sits.2 h)
