-- What a turn does to what waits: the rule of its node, what it makes wait, what goes on waiting, and which counters it forgets.
use Rattle.std.proofs.Common.{◌≡◌, ◌⊎◌, inl, inr, ⊎_elim, ℕ, suc, Bool, true, false, not, if◌then◌else◌, List, [], ◌∷◌, ◌++◌, map, Option, Some, None, refl}
use Rattle.std.proofs.Common.{sym, ap, subst, ◌∙◌}
use Rattle.std.specs.Prelude.{Contains}
use Rattle.std.proofs.lemmas.Bool.{or_left, or_right}
use Rattle.bl_tree.proofs.Basics.{contains_first, contains_further, contains_none, first_or_further, true_false_any}
use Rattle.bl_tree.specs.declared.place.Place.{Place as Source}
use Rattle.bl_tree.specs.declared.tree.Expr.{Expr}
use Rattle.bl_graph_nodes.specs.Nodes.{ActAt, DepthEndAt, EnterAt, ForkAt, HeadAt, Node, PauseAt, StartAt, SurfaceEndAt, TestAt, are_instant, arguments_of}
use Rattle.bl_graph_nodes.specs.Nodes.{entry, is_instant}
use Rattle.bl_graph_nodes.specs.Plain.{Again, Block, Bodies, Body as BodyOf, Cobegin, Done, Label, Last, Repeat, Then, While, is_empty}
use Rattle.bl_graph_nodes.specs.Steps.{end_node, run_node}
use Rattle.bl_ctree.specs.Control.{Body, Check}
use Rattle.bl_ctree.specs.Instances.{Setting}
use Rattle.bl_ctree_laws.specs.Pending.{Deed, may_end}
use Rattle.bl_ctree_laws.specs.Shrinks.{EndsShrink, Paces}
use Rattle.bl_ctree_laws.specs.Steps.{call, fork, pause, turn}
use Rattle.bl_ctree_laws.specs.Trees.{Tree, Trees, Watch, Do, Guard, Par, trees_begun, is_nil}
use Rattle.bl_ctree_laws_traces.specs.Progress.FitsGraph.{AllFitGraph, FitsGraph}
use Rattle.bl_ctree_laws_traces.specs.Progress.Places.{Place, ahead_of, guarded, in_branch, later_on}
use Rattle.bl_machine.specs.declared.slots.Slot.{Slot}
use Rattle.bl_machine.specs.Uses.{Slots, uses_in, uses_in_branch, uses_in_each}
use Rattle.bl_machine_laws.specs.Numbers.Steps.{TurnsAreWalks, TurnsWait}
use Rattle.bl_machine_laws.specs.Numbers.Turns as turns
use Rattle.bl_machine_laws.specs.Numbers.Turns.{AnsweredDeed, InstancePoint, OneTurns, Turns}
use Rattle.bl_machine_laws.specs.Numbers.Waiting.{Is, Sleeps, SomeSleeps, SomeWaits, Waits, check_of, first_in}
use Rattle.bl_machine_laws.proofs.OnWaiting.Fresh.{ends_walk}
use Rattle.bl_machine_pass.specs.SlotLayout.{BranchesRestAt}
use Rattle.bl_machine_pass.specs.Registers.{with_at}
use Rattle.bl_machine_pass.specs.Transitions.{Change, ClearsBoth, EndsWhen, Flagged, SetsCounter, SetsFlag, Transition, body_ends, counters_in}
use Rattle.bl_machine_pass.specs.Transitions.{counters_in_each, enter, enter_each, fires, flagged, marked, once, rules_in, rules_of}
use Rattle.bl_machine_pass_laws.specs.Turns.Dozes.{AllDoze, Dozes}
use Rattle.bl_machine_pass_laws.specs.Turns.Invariant.{IsResume, MarkEach, Marked}
use Rattle.bl_machine_pass_laws.specs.Turns.Laws.{answer_of, one_answer_of}
use Rattle.bl_machine_pass_laws.specs.Turns.Sits.{Lies, LieEach, SitEach, Sits, UseEach, UsesOnly}
use Rattle.bl_machine_pass_laws.proofs.OnNumbers.Acting.{changes_of}
use Rattle.bl_machine_pass_laws_turns.proofs.OnWaiting.Changes.{AllForget, Forgetless, IsNext, Sets, SetsAs, all_freed_forgetless, flagged_by, here_is}
use Rattle.bl_machine_pass_laws_turns.proofs.OnWaiting.Changes.{one_forgetless, sets_all_forgotten, sets_all_freed, sets_none, sets_one}
use Rattle.bl_machine_pass_laws_turns.proofs.OnWaiting.Lists.{from_once, into_once}
use Rattle.bl_machine_pass_laws_turns.proofs.OnWaiting.Rules.{AsksFor, IsJoinNode, RuleAt, counters_used_in, used_counters_in}
use Rattle.bl_machine_pass_laws_turns.proofs.OnWaiting.Sleeping.{asleep, asleep_each, check_rule, check_there, end_rule, end_there, join_is_join, join_rule}
use Rattle.bl_machine_pass_laws_turns.proofs.OnWaiting.Sleeping.{join_there, resume_rule, resume_there, test_rule, test_there}
use Rattle.bl_machine_pass_laws_turns.proofs.OnWaiting.Trees.{branches_quiet}
use Rattle.bl_machine_pass_laws_turns.proofs.OnWaiting.Trees.{turn_first, unended_waits, waits_block, waits_seq}
use Rattle.bl_ctree_laws_traces.proofs.OnProgress.Leading.{is_the_nil}
use Rattle.bl_ctree_laws.proofs.Less.{done_join}
use Rattle.bl_ctree_laws_traces.proofs.OnBounded.Stepping.{empty_instant}
use Rattle.bl_machine_laws.proofs.OnNumbers.Sleeping.{begun_awake, block_awake, seq_sleeps}
use Rattle.bl_machine_laws.proofs.OnWaiting.Fresh.{block_nil, block_waits, seq_waits}

-- ---- what a turn does

-- what waits afterwards waited, is flagged by the changes, or is a `cobegin` at its end
pub data Comes (Before Set : Node → Type 0) (y : Node) : Type 0 where
  waited : Before y → Comes Before Set y
  is_set : Set y → Comes Before Set y
  at_join : IsJoinNode y → Comes Before Set y

-- what waited has acted, still waits, is a `cobegin` at its end, or has been dropped
pub data Stays (After Gone : Node → Type 0) (n y : Node) : Type 0 where
  has_acted : y ≡ n → Stays After Gone n y
  waits_on : After y → Stays After Gone n y
  was_join : IsJoinNode y → Stays After Gone n y
  dropped : Gone y → Stays After Gone n y

-- a later tick would have gone on there, and all its counters are forgotten
abbrev pub Dropped : List Transition → List Change → Node → Type 0
Dropped all changes y = RuleAt all y (λ condition. IsResume condition × ((slot : Slot) → AsksFor condition slot → AllForget changes slot.counter))

-- none of the counters that the node asks for is forgotten
abbrev pub Spared : List Transition → List Change → Node → Type 0
Spared all changes y = RuleAt all y (λ condition. (slot : Slot) → AsksFor condition slot → AllForget changes slot.counter → ⊥)

pub record Acted (all : List Transition) (number : Node → ℕ) (marks used : ℕ → Bool) (n : Node) (answer : Bool)
    (Before After Sleeping : Node → Type 0) : Type 0 where
  pub rule : Transition
  pub there : Contains all rule
  pub of_node : rule.node ≡ n
  pub comes : (y : Node) → After y → Comes Before (Sets number marks (changes_of rule answer)) y
  pub sets : (y : Node) → Sets number marks (changes_of rule answer) y → After y
  pub stays : (y : Node) → Before y → Stays After (Dropped all (changes_of rule answer)) n y
  pub forgets : (j : ℕ) → AllForget (changes_of rule answer) j → used j ≡ true
  pub spares : (y : Node) → Sleeping y → Spared all (changes_of rule answer) y

-- a part of a tree is changed: what waits beside it goes on waiting, and none of its counters is one of the part
lift : {all : List Transition} {number : Node → ℕ} {marks used used' : ℕ → Bool} {n : Node} {answer : Bool}
    {Before After Sleeping Before' After' Sleeping' : Node → Type 0} → Acted all number marks used n answer Before After Sleeping →
    ((y : Node) → Before y → Before' y) → ((y : Node) → After y → After' y) → ((y : Node) → After' y → Comes Before' After y) →
    ((y : Node) → Before' y → Stays After' Before n y) → ((j : ℕ) → used j ≡ true → used' j ≡ true) →
    ((y : Node) → Sleeping' y → Sleeping y ⊎ RuleAt all y (λ condition. (slot : Slot) → AsksFor condition slot → used slot.counter ≡ true → ⊥)) →
    Acted all number marks used' n answer Before' After' Sleeping'
lift {all} {number} {marks} {used} {used'} {n} {answer} {Before} {After} {Sleeping} {Before'} {After'} {Sleeping'} inner up out into back within sleeping =
    record {
      rule = inner.rule;
      there = inner.there;
      of_node = inner.of_node;
      comes = λ y h. by_into y (into y h);
      sets = λ y set. out y (inner.sets y set);
      stays = λ y h. by_back y (back y h);
      forgets = λ j forgotten. within j (inner.forgets j forgotten);
      spares = λ y s. by_sleep y (sleeping y s);
    }
  where
    by_comes : (y : Node) → Comes Before (Sets number marks (changes_of inner.rule answer)) y → Comes Before' (Sets number marks (changes_of inner.rule answer)) y
    by_comes y (waited h) = waited (up y h)
    by_comes y (is_set set) = is_set set
    by_comes y (at_join join) = at_join join

    by_into : (y : Node) → Comes Before' After y → Comes Before' (Sets number marks (changes_of inner.rule answer)) y
    by_into y (waited h) = waited h
    by_into y (is_set h) = by_comes y (inner.comes y h)
    by_into y (at_join join) = at_join join

    by_stays : (y : Node) → Stays After (Dropped all (changes_of inner.rule answer)) n y → Stays After' (Dropped all (changes_of inner.rule answer)) n y
    by_stays y (has_acted is) = has_acted is
    by_stays y (waits_on h) = waits_on (out y h)
    by_stays y (was_join join) = was_join join
    by_stays y (dropped gone) = dropped gone

    by_back : (y : Node) → Stays After' Before n y → Stays After' (Dropped all (changes_of inner.rule answer)) n y
    by_back y (has_acted is) = has_acted is
    by_back y (waits_on h) = waits_on h
    by_back y (was_join join) = was_join join
    by_back y (dropped h) = by_stays y (inner.stays y h)

    by_sleep : (y : Node) → Sleeping y ⊎ RuleAt all y (λ condition. (slot : Slot) → AsksFor condition slot → used slot.counter ≡ true → ⊥) →
        Spared all (changes_of inner.rule answer) y
    by_sleep y (inl h) = inner.spares y h
    by_sleep y (inr one) = record {
      rule = one.rule;
      there = one.there;
      of_node = one.of_node;
      is = λ slot asks forgotten. one.is slot asks (inner.forgets slot.counter forgotten);
    }

-- one node alone waited: it acts, and what it leads to waits
simple : {all : List Transition} {number : Node → ℕ} {marks used : ℕ → Bool} {n : Node} {answer : Bool} {Before After Sleeping : Node → Type 0} →
    (rule : Transition) → Contains all rule → rule.node ≡ n → (next : Option Node) → SetsAs number marks (changes_of rule answer) next →
    Forgetless (changes_of rule answer) → ((y : Node) → Before y → y ≡ n) → ((y : Node) → After y → Is next y) →
    ((y : Node) → Is next y → After y) →
    ((y : Node) → Sleeping y → ⊥) → Acted all number marks used n answer Before After Sleeping
simple rule there of_node next sets forgets before into from awake = record {
  rule = rule;
  there = there;
  of_node = of_node;
  comes = λ y h. is_set (sets.1 y (into y h));
  sets = λ y set. from y (sets.0 y set);
  stays = λ y h. has_acted (before y h);
  forgets = λ j forgotten. absurd (forgets j forgotten);
  spares = λ y sleeps. absurd (awake y sleeps);
}

-- ---- what changes flag, and where the tree goes on

pub enter_agrees : (number : Node → ℕ) (marks : ℕ → Bool) (body : Block) (next : Change) (nx : Option Node) →
    (is_empty body ≡ true → flagged_by number marks next ≡ nx) → flagged_by number marks (enter body next) ≡ first_in body nx
enter_agrees number marks Done next nx agree = agree refl
enter_agrees number marks (Then s rest) next nx agree = refl

enter_next : (body : Block) (next : Change) → IsNext next → IsNext (enter body next)
enter_next Done next is = is
enter_next (Then s rest) next is = tt

ends_next : (l : Label) (at : Source) (body : Block) → IsNext (body_ends l at body)
ends_next l at body = by_instant (are_instant body)
  where
    by_instant : (b : Bool) → IsNext (if b then EndsWhen (StartAt l at) (SurfaceEndAt l at) (DepthEndAt l at) else SetsFlag (DepthEndAt l at))
    by_instant true = tt
    by_instant false = tt

-- the end of a `when`, by its mark
ends_agree : (number : Node → ℕ) (marks : ℕ → Bool) (l : Label) (at : Source) (body : Block) (stood : Bool) →
    (stood ≡ false → are_instant body ≡ true) → (are_instant body ≡ true → marks (number (StartAt l at)) ≡ not stood) →
    flagged_by number marks (body_ends l at body) ≡ Some (end_node stood l at)
ends_agree number marks l at body stood instant marked = by_instant (are_instant body) refl
  where
    by_age : (b : Bool) → Some (if not b then SurfaceEndAt l at else DepthEndAt l at) ≡ Some (end_node b l at)
    by_age true = refl
    by_age false = refl

    depth : (b : Bool) → (b ≡ false → are_instant body ≡ true) → are_instant body ≡ false → Some (DepthEndAt l at) ≡ Some (end_node b l at)
    depth true so e = refl
    depth false so e = true_false_any (are_instant body) (so refl) e

    by_instant : (b : Bool) → are_instant body ≡ b →
        flagged_by number marks (if b then EndsWhen (StartAt l at) (SurfaceEndAt l at) (DepthEndAt l at) else SetsFlag (DepthEndAt l at))
        ≡ Some (end_node stood l at)
    by_instant true e = ap (λ m. Some (if m then SurfaceEndAt l at else DepthEndAt l at)) (marked e) ∙ by_age stood
    by_instant false e = depth stood instant e

-- the start of a `when`
start_sets : (number : Node → ℕ) (marks : ℕ → Bool) (l : Label) (at : Source) (body : Block) →
    SetsAs number marks (marked (are_instant body) (StartAt l at) (enter body (body_ends l at body) ∷ [])) (first_in body (Some (SurfaceEndAt l at)))
start_sets number marks l at body = by_instant (are_instant body) refl
  where
    fresh : SetsAs number (with_at (number (StartAt l at)) true marks)
        (enter body (EndsWhen (StartAt l at) (SurfaceEndAt l at) (DepthEndAt l at)) ∷ []) (first_in body (Some (SurfaceEndAt l at)))
    fresh =
        sets_one number (with_at (number (StartAt l at)) true marks) (enter body (EndsWhen (StartAt l at) (SurfaceEndAt l at) (DepthEndAt l at)))
        (first_in body (Some (SurfaceEndAt l at)))
        (enter_agrees number (with_at (number (StartAt l at)) true marks) body (EndsWhen (StartAt l at) (SurfaceEndAt l at) (DepthEndAt l at))
        (Some (SurfaceEndAt l at))
        (λ e. ap (λ m. Some (if m then SurfaceEndAt l at else DepthEndAt l at)) (here_is (number (StartAt l at)) true marks)))

    by_instant : (b : Bool) → are_instant body ≡ b →
        SetsAs number marks
        (marked b (StartAt l at)
        (enter body (if b then EndsWhen (StartAt l at) (SurfaceEndAt l at) (DepthEndAt l at) else SetsFlag (DepthEndAt l at)) ∷ []))
        (first_in body (Some (SurfaceEndAt l at)))
    by_instant true e = (λ y set. ⊎_elim (λ none. absurd none) (λ is. fresh.0 y is) set, λ y is. inr (fresh.1 y is))
    by_instant false e =
        sets_one number marks (enter body (SetsFlag (DepthEndAt l at))) (first_in body (Some (SurfaceEndAt l at)))
        (enter_agrees number marks body (SetsFlag (DepthEndAt l at)) (Some (SurfaceEndAt l at))
        (λ empty. true_false_any (are_instant body) (empty_instant body empty) e))

marked_forgetless : (b : Bool) (n : Node) (changes : List Change) → Forgetless changes → Forgetless (marked b n changes)
marked_forgetless true n changes none j (inl is) = is
marked_forgetless true n changes none j (inr is) = none j is
marked_forgetless false n changes none j is = none j is

-- the branches of a `cobegin` begin
fork_sets : (number : Node → ℕ) (marks : ℕ → Bool) (slots : Slots) (l : Label) (k : ℕ) (bodies : Bodies) (y : Node) →
    Sets number marks (enter_each slots l k bodies) y → SomeWaits (trees_begun bodies) y
fork_sets number marks slots l k Last y set = set
fork_sets number marks slots l k (BodyOf weak Done rest) y (inl is) = absurd is
fork_sets number marks slots l k (BodyOf weak Done rest) y (inr set) = inr (fork_sets number marks slots l (suc k) rest y set)
fork_sets number marks slots l k (BodyOf weak (Then s after) rest) y (inl is) = inl (waits_block (Then s after) None y is)
fork_sets number marks slots l k (BodyOf weak (Then s after) rest) y (inr set) = inr (fork_sets number marks slots l (suc k) rest y set)

sets_fork : (number : Node → ℕ) (marks : ℕ → Bool) (slots : Slots) (l : Label) (k : ℕ) (bodies : Bodies) (y : Node) → SomeWaits (trees_begun bodies) y →
    Sets number marks (enter_each slots l k bodies) y
sets_fork number marks slots l k Last y h = h
sets_fork number marks slots l k (BodyOf weak Done rest) y (inl h) = absurd h
sets_fork number marks slots l k (BodyOf weak Done rest) y (inr h) = inr (sets_fork number marks slots l (suc k) rest y h)
sets_fork number marks slots l k (BodyOf weak (Then s after) rest) y (inl h) = inl (block_waits (Then s after) None y h)
sets_fork number marks slots l k (BodyOf weak (Then s after) rest) y (inr h) = inr (sets_fork number marks slots l (suc k) rest y h)

marked_sets : (number : Node → ℕ) (marks : ℕ → Bool) (slots : Slots) (l : Label) (bodies : Bodies) (b : Bool) (n y : Node) →
    Sets number marks (marked b n (enter_each slots l 0 bodies)) y → SomeWaits (trees_begun bodies) y
marked_sets number marks slots l bodies true n y (inl none) = absurd none
marked_sets number marks slots l bodies true n y (inr set) = fork_sets number (with_at (number n) true marks) slots l 0 bodies y set
marked_sets number marks slots l bodies false n y set = fork_sets number marks slots l 0 bodies y set

sets_marked : (number : Node → ℕ) (marks : ℕ → Bool) (slots : Slots) (l : Label) (bodies : Bodies) (b : Bool) (n y : Node) →
    SomeWaits (trees_begun bodies) y → Sets number marks (marked b n (enter_each slots l 0 bodies)) y
sets_marked number marks slots l bodies true n y h = inr (sets_fork number (with_at (number n) true marks) slots l 0 bodies y h)
sets_marked number marks slots l bodies false n y h = sets_fork number marks slots l 0 bodies y h

fork_forgetless : (slots : Slots) (l : Label) (k : ℕ) (bodies : Bodies) → Forgetless (enter_each slots l k bodies)
fork_forgetless slots l k Last j is = is
fork_forgetless slots l k (BodyOf weak Done rest) j (inl is) = is
fork_forgetless slots l k (BodyOf weak Done rest) j (inr is) = fork_forgetless slots l (suc k) rest j is
fork_forgetless slots l k (BodyOf weak (Then s after) rest) j (inl is) = is
fork_forgetless slots l k (BodyOf weak (Then s after) rest) j (inr is) = fork_forgetless slots l (suc k) rest j is

-- the counters of a body are forgotten
forgotten_there : (ks : List ℕ) (changes : List Change) (j : ℕ) → Contains ks j → AllForget (map ClearsBoth ks ++ changes) j
forgotten_there [] changes j h = absurd (contains_none j h)
forgotten_there (k ∷ ks) changes j h =
    ⊎_elim (λ (is : k ≡ j). inl (sym is)) (λ (later : Contains ks j). inr (forgotten_there ks changes j later)) (first_or_further k ks j h)

forgotten_from : (ks : List ℕ) (changes : List Change) (j : ℕ) → Forgetless changes → AllForget (map ClearsBoth ks ++ changes) j → Contains ks j
forgotten_from [] changes j none h = absurd (none j h)
forgotten_from (k ∷ ks) changes j none (inl is) = subst (λ z. Contains (z ∷ ks) j) is (contains_first j ks)
forgotten_from (k ∷ ks) changes j none (inr h) = contains_further k ks j (forgotten_from ks changes j none h)

-- ---- points

-- a condition that is true: what stands under it is dropped
module _ {w : Setting} {i : ℕ} (slots : Slots) (all : List Transition) (number : Node → ℕ) (marks used : ℕ → Bool) (g : Place) (next : Change) (s : Watch)
    (stood : Bool) (c : Tree) (live : FitsGraph w i (Guard s Check stood c) g) (sits : Sits slots all (Guard s Check stood c) next)
    (uses : UsesOnly slots used (Guard s Check stood c)) (dozes : Dozes (Guard s Check stood c)) where
  abbrev gone : List Change
  gone = changes_of (check_rule slots s next) true

  is_dropped : (y : Node) → Waits c (Some (end_node stood s.label s.place)) y → Dropped all gone y
  is_dropped y h =
      let one =
      asleep w i slots all (uses_in slots s.body) (later_on (guarded s g)) (body_ends s.label s.place s.body) c y live.0 sits.1 uses.1
      (dozes.0 y (unended_waits w i (later_on (guarded s g)) c (Some (end_node stood s.label s.place)) None y live.0 live.1.unended h)) in
      record {
        rule = one.rule;
        there = one.there;
        of_node = one.of_node;
        is = (
          one.is.0,
          λ slot asks. forgotten_there (once (counters_in slots s.body)) (fires s.guard s.label s.place s.body next ∷ []) slot.counter
              (into_once (counters_in slots s.body) slot.counter (counters_used_in slots s.body slot.counter (one.is.1 slot asks))),
        );
      }

  fires_acted : {After Sleeping : Node → Type 0} (nx fx : Option Node) → IsNext (fires s.guard s.label s.place s.body next) →
      flagged_by number marks (fires s.guard s.label s.place s.body next) ≡ fx → ((y : Node) → After y → Is fx y) →
      ((y : Node) → Is fx y → After y) →
      ((y : Node) → Sleeping y → ⊥) → Acted all number marks used (check_of s) true (Waits (Guard s Check stood c) nx) After Sleeping
  fires_acted nx fx is_next agrees into from awake =
      let sets : SetsAs number marks gone fx =
      sets_all_forgotten number marks (once (counters_in slots s.body)) (fires s.guard s.label s.place s.body next ∷ []) fx
      (sets_one number marks (fires s.guard s.label s.place s.body next) fx agrees) in
      record {
        rule = check_rule slots s next;
        there = sits.0 (check_rule slots s next) (check_there slots s next);
        of_node = refl;
        comes = λ y h. is_set (sets.1 y (into y h));
        sets = λ y set. from y (sets.0 y set);
        stays = λ y h. ⊎_elim (λ is. has_acted is) (λ under. dropped (is_dropped y under)) h;
        forgets = λ j forgotten. uses.0 j (used_counters_in slots s.body j (from_once (counters_in slots s.body) j
            (forgotten_from (once (counters_in slots s.body)) (fires s.guard s.label s.place s.body next ∷ []) j
            (one_forgetless (fires s.guard s.label s.place s.body next) is_next) forgotten)));
        spares = λ y sleeps. absurd (awake y sleeps);
      }

-- a condition that is false: all that stands under it goes on waiting
lets_acted : {w : Setting} {i : ℕ} (slots : Slots) (all : List Transition) (number : Node → ℕ) (marks used : ℕ → Bool) (g : Place) (next : Change)
    (nx : Option Node) (s : Watch) (stood : Bool) (c : Tree) → FitsGraph w i (Guard s Check stood c) g → Sits slots all (Guard s Check stood c) next →
    UsesOnly slots used (Guard s Check stood c) →
    Acted all number marks used (check_of s) false (Waits (Guard s Check stood c) nx) (Waits (Guard s Body stood c) nx) (Sleeps (Guard s Body stood c))
lets_acted {w} {i} slots all number marks used g next nx s stood c live sits uses = record {
  rule = check_rule slots s next;
  there = sits.0 (check_rule slots s next) (check_there slots s next);
  of_node = refl;
  comes = λ y h. waited (inr h);
  sets = λ y set. absurd set;
  stays = λ y h. ⊎_elim (λ is. has_acted is) (λ under. waits_on under) h;
  forgets = λ j forgotten. absurd forgotten;
  spares = λ y sleeps.
      (let one =
      asleep w i slots all (uses_in slots s.body) (later_on (guarded s g)) (body_ends s.label s.place s.body) c y live.0 sits.1 uses.1 sleeps in
      record { rule = one.rule; there = one.there; of_node = one.of_node; is = λ slot asks forgotten. forgotten });
}

forks_acted : (slots : Slots) (all : List Transition) (number : Node → ℕ) (marks used : ℕ → Bool) (next : Change) (nx : Option Node) (l : Label) (at : Source)
    (bodies : Bodies) → Sits slots all (Do (Cobegin l at bodies)) next →
    Acted all number marks used (ForkAt l at) true (Waits (Do (Cobegin l at bodies)) nx) (Waits (Par (fork l at bodies) false (trees_begun bodies)) nx)
    (Sleeps (Par (fork l at bodies) false (trees_begun bodies)))
forks_acted slots all number marks used next nx l at bodies sits = record {
  rule = flagged (ForkAt l at) (marked (is_instant (Cobegin l at bodies)) (ForkAt l at) (enter_each slots l 0 bodies));
  there = sits _ (contains_first _ _);
  of_node = refl;
  comes = λ y h.
      ⊎_elim (λ branch. is_set (sets_marked number marks slots l bodies (is_instant (Cobegin l at bodies)) (ForkAt l at) y branch))
      (λ join. at_join (subst IsJoinNode (sym join.1) tt)) h;
  sets = λ y set. inl (marked_sets number marks slots l bodies (is_instant (Cobegin l at bodies)) (ForkAt l at) y set);
  stays = λ y h. has_acted h;
  forgets = λ j forgotten.
      absurd (marked_forgetless (is_instant (Cobegin l at bodies)) (ForkAt l at) (enter_each slots l 0 bodies) (fork_forgetless slots l 0 bodies) j forgotten);
  spares = λ y sleeps. absurd (begun_awake bodies y sleeps);
}

-- the test after a turn of a loop
abbrev until_rule : Label → Source → Expr → Change → Transition
until_rule l at e next = record { node = TestAt l at e; condition = Flagged; on_true = next ∷ []; on_false = SetsFlag (HeadAt l at) ∷ [] }

until_there : (slots : Slots) (l : Label) (at : Source) (body : Block) (e : Expr) (next : Change) →
    Contains (rules_of slots (Again l at body e) next) (until_rule l at e next)
until_there slots l at body e next =
    contains_further (flagged (HeadAt l at) (enter body (SetsFlag (TestAt l at e)) ∷ []))
    (until_rule l at e next ∷ rules_in slots body (SetsFlag (TestAt l at e))) (until_rule l at e next)
    (contains_first (until_rule l at e next) (rules_in slots body (SetsFlag (TestAt l at e))))

module _ {w : Setting} (slots : Slots) (all : List Transition) (number : Node → ℕ) (marks : ℕ → Bool) where
  point_acted : {i : ℕ} {c : Tree} {d : Bool} {a : Deed} {n : Node} {c' : Tree} (g : Place) (next : Change) (nx : Option Node) (used : ℕ → Bool) →
      FitsGraph w i c g → Sits slots all c next → UsesOnly slots used c → Marked number marks c → Dozes c → IsNext next →
      (is_nil c' ≡ true → flagged_by number marks next ≡ nx) → InstancePoint w i c d a n c' →
      Acted all number marks used n d (Waits c nx) (Waits c' nx) (Sleeps c')
  point_acted g next nx used live sits uses ages dozes is_next agree (turns.acts {l = l} {s = s}) =
      simple (flagged (ActAt l s) (next ∷ [])) (sits (flagged (ActAt l s) (next ∷ [])) (contains_first (flagged (ActAt l s) (next ∷ [])) [])) refl nx
      (sets_one number marks next nx (agree refl))
      (one_forgetless next is_next) (λ y h. h) (λ y h. h) (λ y h. h) (λ y h. h)
  point_acted g next nx used live sits uses ages dozes is_next agree (turns.takes {l = l} {at = at} {e = e} {body = body} {other = other}) =
      simple (record { node = TestAt l at e; condition = Flagged; on_true = enter body next ∷ []; on_false = enter other next ∷ [] })
      (sits _ (contains_first _ _)) refl (first_in body nx)
      (sets_one number marks (enter body next) (first_in body nx) (enter_agrees number marks body next nx (λ empty. agree (block_nil body ∙ empty))))
      (one_forgetless (enter body next) (enter_next body next is_next)) (λ y h. h) (λ y h. block_waits body nx y h) (λ y h. waits_block body nx y h)
      (λ y h. block_awake body y h)
  point_acted g next nx used live sits uses ages dozes is_next agree (turns.passes {l = l} {at = at} {e = e} {body = body} {other = other}) =
      simple (record { node = TestAt l at e; condition = Flagged; on_true = enter body next ∷ []; on_false = enter other next ∷ [] })
      (sits _ (contains_first _ _)) refl (first_in other nx)
      (sets_one number marks (enter other next) (first_in other nx) (enter_agrees number marks other next nx (λ empty. agree (block_nil other ∙ empty))))
      (one_forgetless (enter other next) (enter_next other next is_next)) (λ y h. h) (λ y h. block_waits other nx y h) (λ y h. waits_block other nx y h)
      (λ y h. block_awake other y h)
  point_acted g next nx used live sits uses ages dozes is_next agree (turns.pauses {l = l} {at = at} {e = e}) =
      simple (flagged (PauseAt l at) (SetsCounter (slots.rest l) ∷ [])) (sits _ (contains_first _ (test_rule slots (pause l at e) next ∷ []))) refl None
      (sets_one number marks (SetsCounter (slots.rest l)) None refl) (one_forgetless (SetsCounter (slots.rest l)) tt)
      (λ y h. h) (λ y h. h) (λ y h. h) (λ y h. h)
  point_acted g next nx used live sits uses ages dozes is_next agree (turns.repeats {l = l} {at = at} {body = body}) =
      simple (flagged (HeadAt l at) (enter body (SetsFlag (HeadAt l at)) ∷ [])) (sits _ (contains_first _ _)) refl
      (first_in (turn body (Repeat l at body)) nx)
      (sets_one number marks (enter body (SetsFlag (HeadAt l at))) (first_in (turn body (Repeat l at body)) nx)
      (enter_agrees number marks body (SetsFlag (HeadAt l at)) (Some (HeadAt l at)) (λ empty. refl) ∙ turn_first body (Repeat l at body) nx))
      (one_forgetless (enter body (SetsFlag (HeadAt l at))) (enter_next body (SetsFlag (HeadAt l at)) tt)) (λ y h. h)
      (λ y h. block_waits (turn body (Repeat l at body)) nx y h) (λ y h. waits_block (turn body (Repeat l at body)) nx y h)
      (λ y h. block_awake (turn body (Repeat l at body)) y h)
  point_acted g next nx used live sits uses ages dozes is_next agree (turns.repeats_until {l = l} {at = at} {body = body} {e = e}) =
      simple (flagged (HeadAt l at) (enter body (SetsFlag (TestAt l at e)) ∷ []))
      (sits _ (contains_first _ (until_rule l at e next ∷ rules_in slots body (SetsFlag (TestAt l at e))))) refl
      (first_in (turn body (Again l at body e)) nx)
      (sets_one number marks (enter body (SetsFlag (TestAt l at e))) (first_in (turn body (Again l at body e)) nx)
      (enter_agrees number marks body (SetsFlag (TestAt l at e)) (Some (TestAt l at e)) (λ empty. refl) ∙ turn_first body (Again l at body e) nx))
      (one_forgetless (enter body (SetsFlag (TestAt l at e))) (enter_next body (SetsFlag (TestAt l at e)) tt)) (λ y h. h)
      (λ y h. block_waits (turn body (Again l at body e)) nx y h) (λ y h. waits_block (turn body (Again l at body e)) nx y h)
      (λ y h. block_awake (turn body (Again l at body e)) y h)
  point_acted g next nx used live sits uses ages dozes is_next agree (turns.leaves {l = l} {at = at} {body = body} {e = e}) =
      simple (until_rule l at e next) (sits (until_rule l at e next) (until_there slots l at body e next)) refl nx
      (sets_one number marks next nx (agree refl)) (one_forgetless next is_next)
      (λ y h. h) (λ y h. h) (λ y h. h) (λ y h. h)
  point_acted g next nx used live sits uses ages dozes is_next agree (turns.turns {l = l} {at = at} {body = body} {e = e}) =
      simple (until_rule l at e next) (sits (until_rule l at e next) (until_there slots l at body e next)) refl (Some (HeadAt l at))
      (sets_one number marks (SetsFlag (HeadAt l at)) (Some (HeadAt l at)) refl)
      (one_forgetless (SetsFlag (HeadAt l at)) tt) (λ y h. h) (λ y h. h) (λ y h. h) (λ y h. h)
  point_acted g next nx used live sits uses ages dozes is_next agree (turns.enters {l = l} {at = at} {e = e} {body = body}) =
      simple (record { node = TestAt l at e; condition = Flagged; on_true = enter body (SetsFlag (TestAt l at e)) ∷ []; on_false = next ∷ [] })
      (sits _ (contains_first _ _)) refl (first_in (turn body (While l at e body)) nx)
      (sets_one number marks (enter body (SetsFlag (TestAt l at e))) (first_in (turn body (While l at e body)) nx)
      (enter_agrees number marks body (SetsFlag (TestAt l at e)) (Some (TestAt l at e)) (λ empty. refl) ∙ turn_first body (While l at e body) nx))
      (one_forgetless (enter body (SetsFlag (TestAt l at e))) (enter_next body (SetsFlag (TestAt l at e)) tt)) (λ y h. h)
      (λ y h. block_waits (turn body (While l at e body)) nx y h) (λ y h. waits_block (turn body (While l at e body)) nx y h)
      (λ y h. block_awake (turn body (While l at e body)) y h)
  point_acted g next nx used live sits uses ages dozes is_next agree (turns.skips {l = l} {at = at} {e = e} {body = body}) =
      simple (record { node = TestAt l at e; condition = Flagged; on_true = enter body (SetsFlag (TestAt l at e)) ∷ []; on_false = next ∷ [] })
      (sits _ (contains_first _ _)) refl nx (sets_one number marks next nx (agree refl)) (one_forgetless next is_next)
      (λ y h. h) (λ y h. h) (λ y h. h) (λ y h. h)
  point_acted g next nx used live sits uses ages dozes is_next agree (turns.forks {l = l} {at = at} {bodies = bodies}) =
      forks_acted slots all number marks used next nx l at bodies sits
  point_acted g next nx used live sits uses ages dozes is_next agree (turns.guards {l = l} {at = at} {guard = guard} {e = e} {body = body}) =
      simple (flagged (StartAt l at) (marked (are_instant body) (StartAt l at) (enter body (body_ends l at body) ∷ []))) (sits _ (contains_first _ _)) refl
      (first_in body (Some (SurfaceEndAt l at))) (start_sets number marks l at body)
      (marked_forgetless (are_instant body) (StartAt l at) (enter body (body_ends l at body) ∷ [])
      (one_forgetless (enter body (body_ends l at body)) (enter_next body (body_ends l at body) (ends_next l at body)))) (λ y h. h)
      (λ y h. block_waits body (Some (SurfaceEndAt l at)) y h) (λ y h. waits_block body (Some (SurfaceEndAt l at)) y h) (λ y h. block_awake body y h)
  point_acted g next nx used live sits uses ages dozes is_next agree (turns.goes_on {s = s}) =
      simple (test_rule slots s next) (sits (test_rule slots s next) (test_there slots s next)) refl nx
      (sets_one number marks next nx (agree refl)) (one_forgetless next is_next) (λ y h. h) (λ y h. h) (λ y h. h) (λ y h. h)
  point_acted g next nx used live sits uses ages dozes is_next agree (turns.waits {s = s}) =
      simple (test_rule slots s next) (sits (test_rule slots s next) (test_there slots s next)) refl None (sets_none number marks) (λ j h. h)
      (λ y h. h) (λ y h. h) (λ y h. h) (λ y h. h)
  point_acted g next nx used live sits uses ages dozes is_next agree (turns.lets {s = s} {stood = stood} {c = c}) =
      lets_acted slots all number marks used g next nx s stood c live sits uses
  point_acted g next nx used live sits uses ages dozes is_next agree (turns.aborts {s = s} {stood = stood} {c = c} is) =
      fires_acted slots all number marks used g next s stood c live sits uses dozes nx nx
      (subst (λ k. IsNext (fires k s.label s.place s.body next)) (sym is) is_next)
      (subst (λ k. flagged_by number marks (fires k s.label s.place s.body next) ≡ nx) (sym is) (agree refl))
      (λ y h. h) (λ y h. h) (λ y h. h)
  point_acted g next nx used live sits uses ages dozes is_next agree (turns.resets {s = s} {stood = stood} {c = c} is) =
      fires_acted slots all number marks used g next s stood c live sits uses dozes nx (first_in s.body (Some (end_node stood s.label s.place)))
      (subst (λ k. IsNext (fires k s.label s.place s.body next)) (sym is)
      (enter_next s.body (body_ends s.label s.place s.body) (ends_next s.label s.place s.body)))
      (subst (λ k. flagged_by number marks (fires k s.label s.place s.body next) ≡ first_in s.body (Some (end_node stood s.label s.place))) (sym is)
      (enter_agrees number marks s.body (body_ends s.label s.place s.body) (Some (end_node stood s.label s.place))
      (λ empty. ends_agree number marks s.label s.place s.body stood (λ new. empty_instant s.body empty) ages.0)))
      (λ y h. block_waits s.body (Some (end_node stood s.label s.place)) y h) (λ y h. waits_block s.body (Some (end_node stood s.label s.place)) y h)
      (λ y h. block_awake s.body y h)
  point_acted g next nx used live sits uses ages dozes is_next agree (turns.guard_ends {s = s} {stood = stood}) =
      simple (end_rule stood s next) (sits.0 (end_rule stood s next) (end_there slots stood s next (live.1.closes refl).0)) refl nx
      (sets_one number marks next nx (agree refl)) (one_forgetless next is_next) (λ y h. h) (λ y h. h) (λ y h. h) (λ y h. h)
  point_acted {i} g next nx used live sits uses ages dozes is_next agree (turns.joins {s = s} {stood = stood} {branches = branches} settled done) =
      simple (join_rule slots stood s next) (sits.0 (join_rule slots stood s next) (join_there slots stood s next (live.1.joins (done_join branches done)).0))
      refl nx
      (sets_all_freed number marks (once (counters_in_each slots s.label 0 s.bodies)) (next ∷ []) nx (sets_one number marks next nx (agree refl)))
      (all_freed_forgetless (once (counters_in_each slots s.label 0 s.bodies)) (next ∷ []) (one_forgetless next is_next))
      (λ y h. ⊎_elim (λ branch. absurd (branches_quiet w i g stood branches s.bodies y live.0 settled branch)) (λ join. join.1) h)
      (λ y h. h) (λ y h. h) (λ y h. h)

-- ---- turns

module _ {w : Setting} (slots : Slots) (all : List Transition) (number : Node → ℕ) (marks : ℕ → Bool) (rank : ℕ → Node → ℕ) (paces : Paces w)
    (shrinks : EndsShrink) (lists : TurnsAreWalks) (waiting : TurnsWait) where
  ends_before : {i : ℕ} {c : Tree} {done : List AnsweredDeed} {n : Node} {c' : Tree} → Turns w rank i c done n c' → is_nil c' ≡ true → may_end c ≡ true
  ends_before {i} {c} {done} {n} {c'} t e = ends_walk rank paces shrinks lists waiting (lists.turns w rank i c done n c' t) (ap may_end (is_the_nil c' e))

  mutual
    pub turn_acted : {i : ℕ} {c : Tree} {done : List AnsweredDeed} {n : Node} {c' : Tree} (g : Place) (next : Change) (nx : Option Node) (used : ℕ → Bool)
        (low : ℕ) → FitsGraph w i c g → Sits slots all c next → UsesOnly slots used c → Lies slots low c → Marked number marks c → Dozes c →
        IsNext next →
        (is_nil c' ≡ true → flagged_by number marks next ≡ nx) → (t : Turns w rank i c done n c') →
        Acted all number marks used n (answer_of t) (Waits c nx) (Waits c' nx) (Sleeps c')
    turn_acted g next nx used low live sits uses lies ages dozes is_next agree (turns.point p) =
        point_acted slots all number marks g next nx used live sits uses ages dozes is_next agree p
    turn_acted g next nx used low live sits uses lies ages dozes is_next agree
        (turns.runs {l = l} {at = at} {target = target} {a = a} {inputs = inputs} {outputs = outputs} called is passes lasts) =
        simple (flagged (EnterAt l at (arguments_of target inputs outputs)) (SetsCounter (slots.rest l) ∷ []))
        (sits _ (contains_first _ (resume_rule slots (call l at target a inputs outputs) next ∷ []))) refl None
        (sets_one number marks (SetsCounter (slots.rest l)) None refl) (one_forgetless (SetsCounter (slots.rest l)) tt)
        (λ y h. h) (λ y h. h) (λ y h. h) (λ y h. h)
    turn_acted g next nx used low live sits uses lies ages dozes is_next agree (turns.resumes {s = s} {stood = stood} passes lasts) =
        simple (resume_rule slots s next) (sits (resume_rule slots s next) (resume_there slots s next))
        (ap (λ b. run_node b s.label s.place s.arguments) (sym live.2.has_stood)) None (sets_none number marks) (λ j h. h)
        (λ y h. h) (λ y h. h) (λ y h. h) (λ y h. h)
    turn_acted g next nx used low live sits uses lies ages dozes is_next agree (turns.returns {s = s} {stood = stood} passes) =
        simple (resume_rule slots s next) (sits (resume_rule slots s next) (resume_there slots s next))
        (ap (λ b. run_node b s.label s.place s.arguments) (sym live.2.has_stood)) nx
        (sets_one number marks next nx (agree refl)) (one_forgetless next is_next) (λ y h. h) (λ y h. h) (λ y h. h) (λ y h. h)
    turn_acted g next nx used low live sits uses lies ages dozes is_next agree (turns.in_seq {s = s} {rest = rest} {c' = c'} t) =
        lift
        (turn_acted (ahead_of (entry s) g) (SetsFlag (entry s)) (Some (entry s)) used low live.0 sits.0 uses.0 lies.0 ages dozes tt (λ e. refl) t)
        (λ y h. h) (λ y h. waits_seq c' s rest nx y h) (λ y h. is_set (seq_waits c' s rest nx y h)) (λ y h. dropped h) (λ j h. h)
        (λ y h. inl (seq_sleeps c' s rest y h))
    turn_acted g next nx used low live sits uses lies ages dozes is_next agree
        (turns.in_par {s = s} {stood = stood} {branches = branches} {branches' = branches'} t) =
        lift (one_acted g stood s.label 0 s.bodies live.0 sits.1 uses.1 lies.0.1 lies.1 ages.1 dozes t) (λ y h. inl h) (λ y h. inl h)
        (λ y h. ⊎_elim (λ branch. is_set branch) (λ join. at_join (subst IsJoinNode (sym join.1) (join_is_join stood s.label s.place))) h)
        (λ y h. ⊎_elim (λ branch. dropped branch) (λ join. was_join (subst IsJoinNode (sym join.1) (join_is_join stood s.label s.place))) h)
        uses.0 (λ y h. inl h)
    turn_acted g next nx used low live sits uses lies ages dozes is_next agree (turns.in_guard {s = s} {stood = stood} t) =
        lift
        (turn_acted (guarded s g) (body_ends s.label s.place s.body) (Some (end_node stood s.label s.place)) (uses_in slots s.body) low live.0 sits.1
        uses.1 lies.1 ages.1 dozes (ends_next s.label s.place s.body)
        (λ e. ends_agree number marks s.label s.place s.body stood (live.1.closes (ends_before t e)).0 ages.0) t)
        (λ y h. h) (λ y h. h) (λ y h. is_set h) (λ y h. dropped h) uses.0 (λ y h. inl h)

    one_acted : {i : ℕ} {branches : Trees} {done : List AnsweredDeed} {n : Node} {branches' : Trees} (g : Place) (stood : Bool) (l : Label) (k : ℕ)
        (bodies : Bodies) → AllFitGraph w i branches bodies stood g → SitEach slots all l k bodies branches → UseEach slots l k bodies branches →
        BranchesRestAt slots l k bodies → LieEach slots l k branches → MarkEach number marks branches → AllDoze branches →
        (t : OneTurns w rank i branches done n branches') →
        Acted all number marks (uses_in_each slots l k bodies) n (one_answer_of t) (SomeWaits branches) (SomeWaits branches') (SomeSleeps branches')
    one_acted g stood l k Last live sits uses laid lies ages dozes (turns.first t) = absurd live
    one_acted g stood l k Last live sits uses laid lies ages dozes (turns.later t) = absurd live
    one_acted {i} g stood l k (BodyOf weak' body rest) live sits uses laid lies ages dozes (turns.first {weak = weak} {c = c} {others = others} t) =
        lift
        (turn_acted (in_branch stood body g) (SetsCounter (slots.ending l k)) None (uses_in_branch slots l k body) (slots.ending l k).counter live.0 sits.1
        uses.0 lies.0 ages.0 dozes.0 tt (λ e. refl) t)
        (λ y h. inl h) (λ y h. inl h) (λ y h. ⊎_elim (λ branch. is_set branch) (λ other. waited (inr other)) h)
        (λ y h. ⊎_elim (λ branch. dropped branch) (λ other. waits_on (inr other)) h)
        (λ j h. or_left (uses_in_branch slots l k body j) (uses_in_each slots l (suc k) rest j) h)
        (λ y h. ⊎_elim (λ branch. inl branch) (λ other. inr (beside_first other)) h)
      where
        beside_first : {y : Node} → SomeSleeps others y →
            RuleAt all y (λ condition. (slot : Slot) → AsksFor condition slot → uses_in_branch slots l k body slot.counter ≡ true → ⊥)
        beside_first {y} other =
            let one = asleep_each w i slots all g stood l (suc k) rest others y live.2 sits.2 uses.1 other in
            record {
              rule = one.rule;
              there = one.there;
              of_node = one.of_node;
              is = λ slot asks used. true_false_any (uses_in_each slots l (suc k) rest slot.counter) (one.is.1 slot asks) (laid.1 slot.counter used);
            }
    one_acted {i} g stood l k (BodyOf weak' body rest) live sits uses laid lies ages dozes (turns.later {weak = weak} {c = c} {others = others} t) =
        lift (one_acted g stood l (suc k) rest live.2 sits.2 uses.1 laid.2 lies.1 ages.1 dozes.1 t)
        (λ y h. inr h) (λ y h. inr h) (λ y h. ⊎_elim (λ other. waited (inl other)) (λ branch. is_set branch) h)
        (λ y h. ⊎_elim (λ other. waits_on (inl other)) (λ branch. dropped branch) h)
        (λ j h. or_right (uses_in_branch slots l k body j) (uses_in_each slots l (suc k) rest j) h)
        (λ y h. ⊎_elim (λ other. inr (beside_later other)) (λ branch. inl branch) h)
      where
        beside_later : {y : Node} → Sleeps c y →
            RuleAt all y (λ condition. (slot : Slot) → AsksFor condition slot → uses_in_each slots l (suc k) rest slot.counter ≡ true → ⊥)
        beside_later {y} other =
            let one =
            asleep w i slots all (uses_in_branch slots l k body) (in_branch stood body g) (SetsCounter (slots.ending l k)) c y live.0 sits.1 uses.0 other in
            record {
              rule = one.rule;
              there = one.there;
              of_node = one.of_node;
              is = λ slot asks used. true_false_any (uses_in_each slots l (suc k) rest slot.counter) used (laid.1 slot.counter (one.is.1 slot asks));
            }
