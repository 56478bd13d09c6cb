-- A tree that rests does so at its first counter.
use Rattle.std.proofs.Common.{◌≡◌, ℕ, suc, Bool, true, false, not, List, [], ◌∷◌, ◌++◌, Contains}
use Rattle.std.proofs.Common.{zero, map, refl, sym, ap, subst, ◌∙◌, arith}
use Rattle.std.specs.Prelude.{⊤}
use Rattle.std.proofs.lemmas.List.Elements.{Contains-append_left, Contains-append_right}
use Rattle.std.proofs.lemmas.Bool.{not-true, or_left}
use Rattle.bl_tree.proofs.Basics.{and_first, and_second, contains_first, contains_further, number_test, true_false_any}
use Rattle.bl_tree.specs.declared.place.Place.{Place as Source}
use Rattle.bl_graph_nodes.specs.Nodes.{ActAt, CheckAt, DepthEndAt, DepthJoinAt, EnterAt, ForkAt, HeadAt, Node, PauseAt, ResumeAt, StartAt, SurfaceEndAt}
use Rattle.bl_graph_nodes.specs.Nodes.{SurfaceJoinAt, TestAt, are_instant, arguments_of, entry, is_instant, nodes_in, nodes_in_each, nodes_of, where_so}
use Rattle.bl_graph_nodes.specs.Plain.{Act, Again, Await, Block, Bodies, Body as BodyOf, Cobegin, Done, If, Label, Last, Plain, Repeat, Run as RunOf, Then}
use Rattle.bl_graph_nodes.specs.Plain.{Until, When, While, plain_body}
use Rattle.bl_ctree.specs.Control.{Body, Check}
use Rattle.bl_ctree.specs.Instances.{Setting}
use Rattle.bl_ctree_laws.specs.Trees.{Tree, Trees, Nil, Wait, Test, Idle, Do, Seq, Par, Guard, Run, are_done, are_settled, beside, is_nil, is_settled, no_tree}
use Rattle.bl_ctree_laws_traces.specs.Progress.FitsGraph.{AllFitGraph, FitsGraph, call_stmt, fork_stmt}
use Rattle.bl_ctree_laws_traces.specs.Progress.Places.{Place, ahead_of, guarded, in_branch, whole}
use Rattle.bl_machine.specs.declared.slots.Slot.{Slot}
use Rattle.bl_machine.specs.Uses.{Slots, is_of, uses_in, uses_in_branch}
use Rattle.bl_machine_laws.specs.Numbers.Numbers.{At, Next, Over, Rests, at_next, numbers_in, numbers_of, value_at_counter}
use Rattle.bl_machine_pass.specs.SlotLayout.{BeginsAt, BlockRestsAt, BranchesRestAt, EndOf, RestOf, SlotsAreDistinct, Spot, StatementRestsAt, slot_at, spots_in, spots_in_each, spots_of}
use Rattle.bl_machine_pass.specs.Transitions.{Change, Finishes, SetsCounter, SetsFlag, Transition, body_ends, enter_each, flagged, marked, rules, rules_of}
use Rattle.bl_machine_pass_laws.specs.Turns.Laws.{FirstCounterTells}
use Rattle.bl_machine_pass_laws.specs.Turns.Sits.{LieEach, Lies, SitEach, Sits}
use Rattle.bl_machine_pass_laws.proofs.OnNumbers.Bools.{either, if_true}
use Rattle.bl_machine_pass_laws.proofs.OnNumbers.Members.{each_of}

-- ---- no number of a node is 0

-- the number of what rests by the node isn't 0
abbrev pub Counted : Slots → Node → Type 0
Counted slots (PauseAt l at) = (slots.rest l).value ≡ 0 → ⊥
Counted slots (EnterAt l at arguments) = (slots.rest l).value ≡ 0 → ⊥
Counted slots (ForkAt l at) = (slots.ending l 0).value ≡ 0 → ⊥
Counted slots (ActAt l s) = ⊤
Counted slots (TestAt l at e) = ⊤
Counted slots (ResumeAt l at arguments) = ⊤
Counted slots (HeadAt l at) = ⊤
Counted slots (StartAt l at) = ⊤
Counted slots (CheckAt l at e) = ⊤
Counted slots (SurfaceEndAt l at) = ⊤
Counted slots (DepthEndAt l at) = ⊤
Counted slots (SurfaceJoinAt l at) = ⊤
Counted slots (DepthJoinAt l at) = ⊤

-- all nodes of a list are
abbrev AllCounted : Slots → List Node → Type 0
AllCounted slots [] = ⊤
AllCounted slots (n ∷ rest) = Counted slots n × AllCounted slots rest

-- of no resting place among these the value is 0
abbrev NoneZero : Slots → List Spot → Type 0
NoneZero slots spots = (p : Spot) → Contains spots p → (slot_at slots p).value ≡ 0 → ⊥

module _ (slots : Slots) where
  both_counted : (xs ys : List Node) → AllCounted slots xs → AllCounted slots ys → AllCounted slots (xs ++ ys)
  both_counted [] ys some more = more
  both_counted (x ∷ xs) ys some more = (some.0, both_counted xs ys some.1 more)

  join_counted : (b : Bool) (l : Label) (at : Source) → AllCounted slots (where_so b (SurfaceJoinAt l at))
  join_counted true l at = (tt, tt)
  join_counted false l at = tt

  end_counted : (b : Bool) (l : Label) (at : Source) → AllCounted slots (where_so b (SurfaceEndAt l at))
  end_counted true l at = (tt, tt)
  end_counted false l at = tt

  fork_counted : (low : ℕ) (l : Label) (bodies : Bodies) → BeginsAt slots l low bodies → NoneZero slots (spots_in_each l 0 bodies) →
      (slots.ending l 0).value ≡ 0 → ⊥
  fork_counted low l Last begins none = absurd begins
  fork_counted low l (BodyOf weak body rest) begins none = none (EndOf l 0) (contains_first (EndOf l 0) (spots_in body ++ spots_in_each l 1 rest))

  left_none : (xs ys : List Spot) → NoneZero slots (xs ++ ys) → NoneZero slots xs
  left_none xs ys none p there = none p (Contains-append_left xs ys p there)

  right_none : (xs ys : List Spot) → NoneZero slots (xs ++ ys) → NoneZero slots ys
  right_none xs ys none p there = none p (Contains-append_right xs ys p there)

  mutual
    counted_of : (low : ℕ) (s : Plain) → StatementRestsAt slots low s → NoneZero slots (spots_of s) → AllCounted slots (nodes_of s)
    counted_of low (Act l s) laid none = (tt, tt)
    counted_of low (Await l at e) laid none = (none (RestOf l) (contains_first (RestOf l) []), (tt, tt))
    counted_of low (RunOf l at target a inputs outputs) laid none = (none (RestOf l) (contains_first (RestOf l) []), (tt, tt))
    counted_of low (If l at e body other) laid none = (
      tt,
      both_counted (nodes_in body) (nodes_in other)
          (counted_in low body laid.0 (left_none (spots_in body) (spots_in other) none))
          (counted_in low other laid.1 (right_none (spots_in body) (spots_in other) none)),
    )
    counted_of low (Cobegin l at bodies) laid none = (
      fork_counted low l bodies laid.0 none,
      both_counted (where_so (is_instant (Cobegin l at bodies)) (SurfaceJoinAt l at)) (DepthJoinAt l at ∷ nodes_in_each bodies)
          (join_counted (is_instant (Cobegin l at bodies)) l at) (tt, counted_in_each l 0 bodies laid.1 none),
    )
    counted_of low (When l at guard e body) laid none = (
      tt,
      both_counted (where_so (are_instant body) (SurfaceEndAt l at)) (CheckAt l at e ∷ DepthEndAt l at ∷ nodes_in body)
          (end_counted (are_instant body) l at) (tt, (tt, counted_in low body laid none)),
    )
    counted_of low (Repeat l at body) laid none = (tt, counted_in low body laid none)
    counted_of low (Until l at body e) laid none = (tt, (tt, counted_in low body laid none))
    counted_of low (While l at e body) laid none = (tt, counted_in low body laid none)
    counted_of low (Again l at body e) laid none = (tt, (tt, counted_in low body laid none))

    counted_in : (low : ℕ) (body : Block) → BlockRestsAt slots low body → NoneZero slots (spots_in body) → AllCounted slots (nodes_in body)
    counted_in low Done laid none = tt
    counted_in low (Then s rest) laid none =
        both_counted (nodes_of s) (nodes_in rest) (counted_of low s laid.0 (left_none (spots_of s) (spots_in rest) none))
        (counted_in low rest laid.1 (right_none (spots_of s) (spots_in rest) none))

    counted_in_each : (l : Label) (k : ℕ) (bodies : Bodies) → BranchesRestAt slots l k bodies → NoneZero slots (spots_in_each l k bodies) →
        AllCounted slots (nodes_in_each bodies)
    counted_in_each l k Last laid none = tt
    counted_in_each l k (BodyOf weak body rest) laid none =
        both_counted (nodes_in body) (nodes_in_each rest)
        (counted_in (slots.ending l k).counter body laid.0
        (left_none (spots_in body) (spots_in_each l (suc k) rest) (inner (spots_in body ++ spots_in_each l (suc k) rest) none)))
        (counted_in_each l (suc k) rest laid.2
        (right_none (spots_in body) (spots_in_each l (suc k) rest) (inner (spots_in body ++ spots_in_each l (suc k) rest) none)))
      where
        inner : (spots : List Spot) → NoneZero slots (EndOf l k ∷ spots) → NoneZero slots spots
        inner spots some p there = some p (contains_further (EndOf l k) spots p there)

  -- the node of each rule is
  counted_rule : (all : List Transition) → AllCounted slots (map (λ (rule : Transition). rule.node) all) → (rule : Transition) → Contains all rule →
      Counted slots rule.node
  counted_rule [] counted rule (k, below, is) = absurd (omega arith)
  counted_rule (x ∷ rest) counted rule (zero, below, is) = subst (λ (y : Transition). Counted slots y.node) is counted.0
  counted_rule (x ∷ rest) counted rule (suc k, below, is) = counted_rule rest counted.1 rule (k, omega arith, is)

  pub rules_counted : (body : Block) → map (λ (rule : Transition). rule.node) (rules slots body) ≡ nodes_in body → SlotsAreDistinct slots body → (rule : Transition) →
      Contains (rules slots body) rule → Counted slots rule.node
  rules_counted body are laid =
      counted_rule (rules slots body) (subst (λ nodes. AllCounted slots nodes) (sym are) (counted_in 0 body laid.rests laid.counted))

-- ---- where a tree rests

nil_numbers : (slots : Slots) (c : Tree) (next : Next) (j : ℕ) → is_nil c ≡ true → numbers_of slots c next j ≡ at_next next j
nil_numbers slots Nil next j e = refl
nil_numbers slots (Wait s) next j e = true_false_any false e refl
nil_numbers slots (Test s) next j e = true_false_any false e refl
nil_numbers slots (Idle body) next j e = true_false_any false e refl
nil_numbers slots (Do s) next j e = true_false_any false e refl
nil_numbers slots (Seq c rest) next j e = true_false_any false e refl
nil_numbers slots (Par s stood branches) next j e = true_false_any false e refl
nil_numbers slots (Guard s phase stood c) next j e = true_false_any false e refl
nil_numbers slots (Run s callee phase stood c) next j e = true_false_any false e refl

-- a number is shown at its counter
shown_there : (slot : Slot) (low : ℕ) → slot.counter ≡ low → value_at_counter slot low ≡ slot.value
shown_there slot low e = if_true (is_of slot low) slot.value 0 (number_test low slot.counter (sym e))

module _ (w : Setting) (i : ℕ) (slots : Slots) (all : List Transition) (counted : (rule : Transition) → Contains all rule → Counted slots rule.node) where
  mutual
    pub rests : (g : Place) (low : ℕ) (change : Change) (c : Tree) (next : Next) → FitsGraph w i c g → Sits slots all c change → Lies slots low c →
        is_settled c ≡ true → is_nil c ≡ false → numbers_of slots c next low ≡ 0 → ⊥
    rests g low change Nil next live sits lies settled unended none = true_false_any true refl unended
    rests g low change (Wait s) next live sits lies settled unended none =
        counted (flagged (PauseAt s.label s.place) (SetsCounter (slots.rest s.label) ∷ []))
        (each_of all (rules_of slots (Await s.label s.place s.test) change) sits).0 (sym (shown_there (slots.rest s.label) low lies) ∙ none)
    rests g low change (Test s) next live sits lies settled unended none = true_false_any false settled refl
    rests g low change (Idle body) next live sits lies settled unended none = live
    rests g low change (Do s) next live sits lies settled unended none = true_false_any false settled refl
    rests g low change (Seq c Done) next live sits lies settled unended none = live
    rests g low change (Seq c (Then s rest)) next live sits lies settled unended none =
        rests (ahead_of (entry s) g) low (SetsFlag (entry s)) c (At (entry s)) live.0 sits.0 lies.0 settled live.1.unended none
    rests g low change (Par s stood branches) next live sits lies settled unended none =
        first_rests g stood low s.label s.bodies branches live.0 sits.1 lies.1 lies.0.0
        (and_first (are_settled branches) (not (are_done branches)) settled)
        (counted (flagged (ForkAt s.label s.place) (marked (is_instant (fork_stmt s)) (ForkAt s.label s.place) (enter_each slots s.label 0 s.bodies)))
        (each_of all (rules_of slots (fork_stmt s) change) sits.0).0) none
    rests g low change (Guard s Body stood c) next live sits lies settled unended none =
        rests (guarded s g) low (body_ends s.label s.place s.body) c Over live.0 sits.1 lies.1 (and_first (is_settled c) (not (is_nil c)) settled)
        (not-true (is_nil c) (and_second (is_settled c) (not (is_nil c)) settled)) none
    rests g low change (Guard s Check stood c) next live sits lies settled unended none = true_false_any false settled refl
    rests g low change (Run s callee phase stood c) next live sits lies settled unended none =
        counted (flagged (EnterAt s.label s.place (arguments_of s.arguments.target s.arguments.inputs s.arguments.outputs))
        (SetsCounter (slots.rest s.label) ∷ []))
        (each_of all (rules_of slots (call_stmt s) change) sits).0 (sym (shown_there (slots.rest s.label) low lies) ∙ none)

    -- the first branch rests there
    first_rests : (g : Place) (stood : Bool) (low : ℕ) (l : Label) (bodies : Bodies) (branches : Trees) → AllFitGraph w i branches bodies stood g →
        SitEach slots all l 0 bodies branches → LieEach slots l 0 branches → BeginsAt slots l low bodies → are_settled branches ≡ true →
        ((slots.ending l 0).value ≡ 0 → ⊥) → numbers_in slots l 0 bodies branches low ≡ 0 → ⊥
    first_rests g stood low l Last branches live sits lies begins settled ends none = begins
    first_rests g stood low l (BodyOf weak body rest) no_tree live sits lies begins settled ends none = sits
    first_rests g stood low l (BodyOf weak body rest) (beside weak' c branches) live sits lies begins settled ends none =
        either (is_nil c)
        (λ nil. ends (sym (shown_there (slots.ending l 0) low begins) ∙ sym (nil_numbers slots c (Rests (slots.ending l 0)) low nil) ∙ held))
        (λ unended. rests (in_branch stood body g) (slots.ending l 0).counter (SetsCounter (slots.ending l 0)) c (Rests (slots.ending l 0)) live.0 sits.1
        lies.0 (and_first (is_settled c) (are_settled branches) settled) unended
        (ap (λ j. numbers_of slots c (Rests (slots.ending l 0)) j) begins ∙ held))
      where
        held : numbers_of slots c (Rests (slots.ending l 0)) low ≡ 0
        held =
            sym (if_true (uses_in_branch slots l 0 body low) (numbers_of slots c (Rests (slots.ending l 0)) low)
            (numbers_in slots l 1 rest branches low)
            (or_left (is_of (slots.ending l 0) low) (uses_in slots body low) (number_test low (slots.ending l 0).counter (sym begins)))) ∙ none

-- between ticks the first counter holds a number
pub first_counter_tells : ((slots : Slots) (body : Block) → map (λ (rule : Transition). rule.node) (rules slots body) ≡ nodes_in body) → FirstCounterTells
first_counter_tells nodes w i slots unit stood c live laid placed settled unended none =
    rests w i slots (rules slots (plain_body unit.body))
    (rules_counted slots (plain_body unit.body) (nodes slots (plain_body unit.body)) laid)
    (whole stood (plain_body unit.body)) 0 Finishes c Over live placed.sits placed.lies settled unended none
