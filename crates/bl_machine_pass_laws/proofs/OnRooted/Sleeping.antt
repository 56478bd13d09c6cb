-- What goes on where a tree has rested: the rules of its places, and the conditions around them.
use Rattle.std.proofs.Common.{◌≡◌, ◌⊎◌, inl, inr, ℕ, zero, suc, Bool, true, false, ◌&&◌, not, List, [], ◌∷◌, ◌++◌, map, refl, ap, sym, ◌∙◌, subst}
use Rattle.std.specs.Prelude.{Contains}
use Rattle.bl_tree.proofs.Basics.{and_first, and_second}
use Rattle.bl_tree.proofs.FirstLemmas.{In, in_contains}
use Rattle.bl_graph_nodes.specs.Nodes.{CheckAt, DepthEndAt, Node, ResumeAt, SurfaceEndAt, TestAt, are_instant, entry}
use Rattle.bl_graph_nodes.specs.Plain.{Await, Bodies, Body as BodyOf, Done, Label, Last, Then}
use Rattle.bl_ctree.specs.Control.{Body, Check}
use Rattle.bl_ctree.specs.Instances.{Setting}
use Rattle.bl_ctree_laws.specs.Trees.{Call, Pause, Watch, Tree, Trees, Nil, Wait, Test, Idle, Do, Seq, Par, Guard, Run, are_done, are_settled, beside}
use Rattle.bl_ctree_laws.specs.Trees.{is_nil, is_settled, no_tree, woken, all_woken}
use Rattle.bl_ctree_laws_traces.specs.Progress.FitsGraph.{AllFitGraph, FitsGraph, call_stmt, watch_stmt}
use Rattle.bl_ctree_laws_traces.specs.Progress.Places.{Place, ahead_of, guarded}
use Rattle.bl_ctree_laws_traces.specs.Progress.Places.{in_branch as live_branch}
use Rattle.bl_machine.specs.Uses.{Slots}
use Rattle.bl_machine_laws.specs.Numbers.Waiting.{Sleeps, SomeSleeps}
use Rattle.bl_machine_pass.specs.SlotLayout.{BeginsAt, EndOf, RestOf, Spot, slot_at}
use Rattle.bl_machine_pass.specs.Transitions.{Change, ClearsBoth, Condition, Rested, RestedIn, SetsCounter, Transition, body_ends, counters_in, enter, fires}
use Rattle.bl_machine_pass.specs.Transitions.{flagged, once, rests_in, rule_where, rules_in, rules_of}
use Rattle.bl_machine_pass_laws.specs.Turns.Rooted.{AllRooted, Around, AsksOf, HeldEach, Rooted, in_branch, in_when}
use Rattle.bl_machine_pass_laws.specs.Turns.Sits.{LieEach, Lies, RulesAreAmong, SitEach, Sits}
use Rattle.bl_machine_pass_laws.specs.Spots.{Has}
use Rattle.bl_machine_pass_laws.proofs.OnSpots.{has_cases}
use Rattle.bl_machine_pass_laws.proofs.OnRooted.Covers.{has_left, has_right}
use Rattle.bl_machine_pass_laws.proofs.OnRooted.Resting.{ended_at, only_one, resting, resting_each}
use Rattle.bl_machine_pass_laws.proofs.OnSame.Inside.{phase_open, phase_settled}

-- ---- settled parts

-- a rule behind one that may be there
past_where : (test : Bool) (r : Transition) (rules : List Transition) (rule : Transition) → In rule rules → In rule (rule_where test r ++ rules)
past_where true r rules rule h = inr h
past_where false r rules rule h = h

module _ (slots : Slots) (all : List Transition) where
  -- ---- an `await` or a `run` at which the tree rests

  -- it sleeps at the node of a rule that asks for its number
  pub record Sleeper (c : Tree) (l : Label) : Type 0 where
    pub rule : Transition
    pub there : Contains all rule
    pub condition : rule.condition ≡ Rested (slots.rest l)
    pub sleeps : Sleeps (woken c) rule.node

  record SomeSleeper (branches : Trees) (l : Label) : Type 0 where
    rule : Transition
    there : Contains all rule
    condition : rule.condition ≡ Rested (slots.rest l)
    sleeps : SomeSleeps (all_woken branches) rule.node

  -- the rules of an `await`, a `run` and a `when` in a later tick
  abbrev test_rule : Pause → Change → Transition
  test_rule s next = record {
    node = TestAt s.label s.place s.test;
    condition = Rested (slots.rest s.label);
    on_true = next ∷ [];
    on_false = [];
  }

  abbrev resume_rule : Call → Change → Transition
  resume_rule s next = record {
    node = ResumeAt s.label s.place s.arguments;
    condition = Rested (slots.rest s.label);
    on_true = next ∷ [];
    on_false = [];
  }

  abbrev check_rule : Watch → Change → Transition
  check_rule s next = record {
    node = CheckAt s.label s.place s.test;
    condition = RestedIn (rests_in slots s.body);
    on_true = map ClearsBoth (once (counters_in slots s.body)) ++ fires s.guard s.label s.place s.body next ∷ [];
    on_false = [];
  }

  test_there : (s : Pause) (next : Change) → RulesAreAmong all (rules_of slots (Await s.label s.place s.test) next) → Contains all (test_rule s next)
  test_there s next among =
      among (test_rule s next) (in_contains (test_rule s next) (rules_of slots (Await s.label s.place s.test) next) (inr (inl refl)))

  resume_there : (s : Call) (next : Change) → RulesAreAmong all (rules_of slots (call_stmt s) next) → Contains all (resume_rule s next)
  resume_there s next among =
      among (resume_rule s next) (in_contains (resume_rule s next) (rules_of slots (call_stmt s) next) (inr (inl refl)))

  check_there : (s : Watch) (next : Change) → RulesAreAmong all (rules_of slots (watch_stmt s) next) → Contains all (check_rule s next)
  check_there s next among =
      among (check_rule s next) (in_contains (check_rule s next) (rules_of slots (watch_stmt s) next)
      (inr (past_where (are_instant s.body) (flagged (SurfaceEndAt s.label s.place) (next ∷ []))
      (check_rule s next ∷ flagged (DepthEndAt s.label s.place) (next ∷ []) ∷ rules_in slots s.body (body_ends s.label s.place s.body))
      (check_rule s next) (inl refl))))

  same_rest : (l m : Label) → RestOf l ≡ RestOf m → l ≡ m
  same_rest l m is = cc

  no_end : (b : Bool) (m : Label) (k : ℕ) (l : Label) → Has (ended_at b m k) (RestOf l) → ⊥
  no_end true m k l h = let is = only_one (RestOf l) (EndOf m k) h in cc
  no_end false m k l h = h

  mutual
    pub sleeper : (c : Tree) (next : Change) (l : Label) → Sits slots all c next → Has (resting c) (RestOf l) → is_settled c ≡ true → Sleeper c l
    sleeper Nil next l sits h settled = absurd h
    sleeper (Wait s) next l sits (inl is) settled = record {
      rule = test_rule s next;
      there = test_there s next sits;
      condition = ap (λ x. Rested (slots.rest x)) (sym (same_rest l s.label is));
      sleeps = refl;
    }
    sleeper (Wait s) next l sits (inr other) settled = absurd other
    sleeper (Test s) next l sits h settled = absurd cc
    sleeper (Idle body) next l sits h settled = absurd h
    sleeper (Do s) next l sits h settled = absurd h
    sleeper (Seq c rest) next l sits h settled =
        let one = sleeper c (enter rest next) l sits.0 h settled in
        record { rule = one.rule; there = one.there; condition = one.condition; sleeps = one.sleeps }
    sleeper (Par s stood branches) next l sits h settled =
        let one = some_sleeper s.label 0 s.bodies branches l sits.1 h (and_first (are_settled branches) (not (are_done branches)) settled) in
        record { rule = one.rule; there = one.there; condition = one.condition; sleeps = one.sleeps }
    sleeper (Guard s phase stood c) next l sits h settled =
        let one = sleeper c (body_ends s.label s.place s.body) l sits.1 h (phase_settled phase c settled) in
        record { rule = one.rule; there = one.there; condition = one.condition; sleeps = inr one.sleeps }
    sleeper (Run s callee phase stood c) next l sits (inl is) settled = record {
      rule = resume_rule s next;
      there = resume_there s next sits;
      condition = ap (λ x. Rested (slots.rest x)) (sym (same_rest l s.label is));
      sleeps = refl;
    }
    sleeper (Run s callee phase stood c) next l sits (inr other) settled = absurd other

    some_sleeper : (m : Label) (k : ℕ) (bodies : Bodies) (branches : Trees) (l : Label) → SitEach slots all m k bodies branches →
        Has (resting_each m k branches) (RestOf l) → are_settled branches ≡ true → SomeSleeper branches l
    some_sleeper m k bodies no_tree l sits h settled = absurd h
    some_sleeper m k Last (beside weak c branches) l sits h settled = absurd sits
    some_sleeper m k (BodyOf weak body rest) (beside weak' c branches) l sits h settled =
        elim (has_cases (ended_at (is_nil c) m k) (resting c ++ resting_each m (suc k) branches) (RestOf l) h) [
          | inl end ↦ absurd (no_end (is_nil c) m k l end)
          | inr more ↦ elim (has_cases (resting c) (resting_each m (suc k) branches) (RestOf l) more) [
            | inl here ↦
                let one = sleeper c (SetsCounter (slots.ending m k)) l sits.1 here (and_first (is_settled c) (are_settled branches) settled) in
                record { rule = one.rule; there = one.there; condition = one.condition; sleeps = inl one.sleeps }
            | inr later ↦
                let one = some_sleeper m (suc k) rest branches l sits.2 later (and_second (is_settled c) (are_settled branches) settled) in
                record { rule = one.rule; there = one.there; condition = one.condition; sleeps = inr one.sleeps }
          ]
        ]

  -- ---- the conditions around a place at which the tree rests

  at_branch : (k : ℕ) (around : Around) (n : Node) → (in_branch k around).checks n → around.checks n
  at_branch zero around n h = h
  at_branch (suc k) around n h = h

  end_asks : (b : Bool) (l : Label) (k : ℕ) (p : Spot) (condition : Condition) → Has (ended_at b l k) p → AsksOf condition (slot_at slots p) →
      AsksOf condition (slot_at slots (EndOf l k))
  end_asks true l k p condition h asks = subst (λ q. AsksOf condition (slot_at slots q)) (only_one p (EndOf l k) h) asks
  end_asks false l k p condition h asks = absurd h

  mutual
    -- a rule that asks of its number is that of a `when` around it
    pub checked : (c : Tree) (next : Change) (around : Around) (rule : Transition) (p : Spot) → Sits slots all c next
        → Rooted slots all around c → Contains all rule → Has (resting c) p →
        AsksOf rule.condition (slot_at slots p) → around.checks rule.node ⊎ Sleeps (woken c) rule.node
    checked Nil next around rule p sits rooted there h asks = absurd h
    checked (Wait s) next around rule p sits rooted there (inl is) asks =
        inl (rooted.only_checks rule there (subst (λ q. AsksOf rule.condition (slot_at slots q)) is asks))
    checked (Wait s) next around rule p sits rooted there (inr other) asks = absurd other
    checked (Test s) next around rule p sits rooted there (inl is) asks =
        inl (rooted.only_checks rule there (subst (λ q. AsksOf rule.condition (slot_at slots q)) is asks))
    checked (Test s) next around rule p sits rooted there (inr other) asks = absurd other
    checked (Idle body) next around rule p sits rooted there h asks = absurd h
    checked (Do s) next around rule p sits rooted there h asks = absurd h
    checked (Seq c rest) next around rule p sits rooted there h asks =
        checked c (enter rest next) around rule p sits.0 rooted.0 there h asks
    checked (Par s stood branches) next around rule p sits rooted there h asks =
        some_checked s.label 0 s.bodies branches around rule p sits.1 rooted.0 rooted.1 there h asks
    checked (Guard s phase stood c) next around rule p sits rooted there h asks =
        elim (checked c (body_ends s.label s.place s.body) (in_when slots s.label s.place s.test s.body around) rule p sits.1 rooted.1 there h asks) [
          | inl (inl is) ↦ inr (inl is)
          | inl (inr outer) ↦ inl outer
          | inr sleeps ↦ inr (inr sleeps)
        ]
    checked (Run s callee phase stood c) next around rule p sits rooted there (inl is) asks =
        inl (rooted.only_checks rule there (subst (λ q. AsksOf rule.condition (slot_at slots q)) is asks))
    checked (Run s callee phase stood c) next around rule p sits rooted there (inr other) asks = absurd other

    some_checked : (l : Label) (k : ℕ) (bodies : Bodies) (branches : Trees) (around : Around) (rule : Transition) (p : Spot) →
        SitEach slots all l k bodies branches → HeldEach slots all around l k bodies → AllRooted slots all around l k branches
        → Contains all rule → Has (resting_each l k branches) p →
        AsksOf rule.condition (slot_at slots p) → around.checks rule.node ⊎ SomeSleeps (all_woken branches) rule.node
    some_checked l k bodies no_tree around rule p sits held rooted there h asks = absurd h
    some_checked l k Last (beside weak c branches) around rule p sits held rooted there h asks = absurd sits
    some_checked l k (BodyOf weak body rest) (beside weak' c branches) around rule p sits held rooted there h asks =
        elim (has_cases (ended_at (is_nil c) l k) (resting c ++ resting_each l (suc k) branches) p h) [
          | inl end ↦ inl (at_branch k around rule.node (held.0.only_checks rule there (end_asks (is_nil c) l k p rule.condition end asks)))
          | inr more ↦ elim (has_cases (resting c) (resting_each l (suc k) branches) p more) [
            | inl here ↦ elim (checked c (SetsCounter (slots.ending l k)) (in_branch k around) rule p sits.1 rooted.0 there here asks) [
              | inl outer ↦ inl (at_branch k around rule.node outer)
              | inr sleeps ↦ inr (inl sleeps)
            ]
            | inr later ↦ elim (some_checked l (suc k) rest branches around rule p sits.2 held.2 rooted.1 there later asks) [
              | inl outer ↦ inl outer
              | inr sleeps ↦ inr (inr sleeps)
            ]
          ]
        ]

  -- ---- the first place at which the tree rests is at the counter around it

  pub record Homed (around : Around) (spots : List Spot) : Type 0 where
    pub spot : Spot
    pub there : Has spots spot
    pub home : around.home (slot_at slots spot)

  -- a node at which something sleeps has a rule that asks of a place at which the tree rests
  pub record Slept (c : Tree) (n : Node) : Type 0 where
    pub rule : Transition
    pub there : Contains all rule
    pub of_node : rule.node ≡ n
    pub spot : Spot
    pub rests : Has (resting c) spot
    pub asks : (rule.condition ≡ Rested (slot_at slots spot)) ⊎ AsksOf rule.condition (slot_at slots spot)

  record SomeSlept (l : Label) (k : ℕ) (branches : Trees) (n : Node) : Type 0 where
    rule : Transition
    there : Contains all rule
    of_node : rule.node ≡ n
    spot : Spot
    rests : Has (resting_each l k branches) spot
    asks : (rule.condition ≡ Rested (slot_at slots spot)) ⊎ AsksOf rule.condition (slot_at slots spot)

  -- where the first branch has ended, or rests
  first_home : (l : Label) (c : Tree) (branches : Trees) (around : Around) (b : Bool) → is_nil c ≡ b → around.home (slots.ending l 0) →
      (is_nil c ≡ false → Homed around (resting c)) → Homed around (ended_at (is_nil c) l 0 ++ (resting c ++ resting_each l 1 branches))
  first_home l c branches around true e home inner = record {
    spot = EndOf l 0;
    there = has_left (ended_at (is_nil c) l 0) (resting c ++ resting_each l 1 branches) (EndOf l 0)
        (subst (λ b. Has (ended_at b l 0) (EndOf l 0)) (sym e) (inl refl));
    home = home;
  }
  first_home l c branches around false e home inner =
      let one = inner e in
      record {
        spot = one.spot;
        there = has_right (ended_at (is_nil c) l 0) (resting c ++ resting_each l 1 branches) one.spot
            (has_left (resting c) (resting_each l 1 branches) one.spot one.there);
        home = one.home;
      }

  module _ (w : Setting) (i : ℕ) where
    mutual
      pub homed : (c : Tree) (g : Place) (next : Change) (low : ℕ) (around : Around) → FitsGraph w i c g → Sits slots all c next → Lies slots low c →
          Rooted slots all around c →
          is_settled c ≡ true → is_nil c ≡ false → Homed around (resting c)
      homed Nil g next low around live sits lies rooted settled unended = absurd cc
      homed (Wait s) g next low around live sits lies rooted settled unended = record { spot = RestOf s.label; there = inl refl; home = rooted.home }
      homed (Test s) g next low around live sits lies rooted settled unended = absurd cc
      homed (Idle body) g next low around live sits lies rooted settled unended = absurd live
      homed (Do s) g next low around live sits lies rooted settled unended = absurd cc
      homed (Seq c Done) g next low around live sits lies rooted settled unended = absurd live
      homed (Seq c (Then s rest)) g next low around live sits lies rooted settled unended =
          homed c (ahead_of (entry s) g) (enter (Then s rest) next) low around live.0 sits.0 lies.0 rooted.0 settled live.1.unended
      homed (Par s stood branches) g next low around live sits lies rooted settled unended =
          first_homed s.label s.bodies branches stood g low around live.0 sits.1 lies.0.0 lies.1 rooted.0 rooted.1
          (and_first (are_settled branches) (not (are_done branches)) settled) (and_second (are_settled branches) (not (are_done branches)) settled)
      homed (Guard s Body stood c) g next low around live sits lies rooted settled unended =
          let one = homed c (guarded s g) (body_ends s.label s.place s.body) low (in_when slots s.label s.place s.test s.body around) live.0 sits.1
          lies.1 rooted.1
          (phase_settled Body c settled) (phase_open Body c settled) in
          record { spot = one.spot; there = one.there; home = one.home.1 }
      homed (Guard s Check stood c) g next low around live sits lies rooted settled unended = absurd cc
      homed (Run s callee phase stood c) g next low around live sits lies rooted settled unended =
          record { spot = RestOf s.label; there = inl refl; home = rooted.home }

      -- a `cobegin` that rests has a first branch
      first_homed : (l : Label) (bodies : Bodies) (branches : Trees) (stood : Bool) (g : Place) (low : ℕ) (around : Around) →
          AllFitGraph w i branches bodies stood g →
          SitEach slots all l 0 bodies branches → BeginsAt slots l low bodies → LieEach slots l 0 branches → HeldEach slots all around l 0 bodies →
          AllRooted slots all around l 0 branches →
          are_settled branches ≡ true → not (are_done branches) ≡ true → Homed around (resting_each l 0 branches)
      first_homed l Last no_tree stood g low around lives sits begins lies held rooted settled undone = absurd begins
      first_homed l (BodyOf weak body rest) no_tree stood g low around lives sits begins lies held rooted settled undone = absurd lives
      first_homed l Last (beside weak c branches) stood g low around lives sits begins lies held rooted settled undone = absurd lives
      first_homed l (BodyOf weak body rest) (beside weak' c branches) stood g low around lives sits begins lies held rooted settled undone =
          first_home l c branches around (is_nil c) refl held.0.home
          (λ e. homed c (live_branch stood body g) (SetsCounter (slots.ending l 0)) (slots.ending l 0).counter around lives.0 sits.1 lies.0 rooted.0
          (and_first (is_settled c) (are_settled branches) settled) e)

    -- ---- what sleeps once the tree is woken

    mutual
      pub slept : (c : Tree) (g : Place) (next : Change) (low : ℕ) (around : Around) (n : Node) → FitsGraph w i c g → Sits slots all c next →
          Lies slots low c → Rooted slots all around c → is_settled c ≡ true → Sleeps (woken c) n → Slept c n
      slept Nil g next low around n live sits lies rooted settled h = absurd h
      slept (Wait s) g next low around n live sits lies rooted settled h = record {
        rule = test_rule s next;
        there = test_there s next sits;
        of_node = sym h;
        spot = RestOf s.label;
        rests = inl refl;
        asks = inl refl;
      }
      slept (Test s) g next low around n live sits lies rooted settled h = absurd cc
      slept (Idle body) g next low around n live sits lies rooted settled h = absurd live
      slept (Do s) g next low around n live sits lies rooted settled h = absurd h
      slept (Seq c Done) g next low around n live sits lies rooted settled h = absurd live
      slept (Seq c (Then s rest)) g next low around n live sits lies rooted settled h =
          let one = slept c (ahead_of (entry s) g) (enter (Then s rest) next) low around n live.0 sits.0 lies.0 rooted.0 settled h in
          record { rule = one.rule; there = one.there; of_node = one.of_node; spot = one.spot; rests = one.rests; asks = one.asks }
      slept (Par s stood branches) g next low around n live sits lies rooted settled h =
          let one = some_slept s.label 0 s.bodies branches stood g around n live.0 sits.1 lies.1 rooted.1
          (and_first (are_settled branches) (not (are_done branches)) settled) h in
          record { rule = one.rule; there = one.there; of_node = one.of_node; spot = one.spot; rests = one.rests; asks = one.asks }
      slept (Guard s Body stood c) g next low around n live sits lies rooted settled (inl is) =
          let one = homed c (guarded s g) (body_ends s.label s.place s.body) low (in_when slots s.label s.place s.test s.body around) live.0 sits.1
          lies.1 rooted.1
          (phase_settled Body c settled) (phase_open Body c settled) in
          record {
            rule = check_rule s next;
            there = check_there s next sits.0;
            of_node = sym is;
            spot = one.spot;
            rests = one.there;
            asks = inr one.home.0;
          }
      slept (Guard s Body stood c) g next low around n live sits lies rooted settled (inr h) =
          let one = slept c (guarded s g) (body_ends s.label s.place s.body) low (in_when slots s.label s.place s.test s.body around) n live.0 sits.1
          lies.1 rooted.1
          (phase_settled Body c settled) h in
          record { rule = one.rule; there = one.there; of_node = one.of_node; spot = one.spot; rests = one.rests; asks = one.asks }
      slept (Guard s Check stood c) g next low around n live sits lies rooted settled h = absurd cc
      slept (Run s callee phase stood c) g next low around n live sits lies rooted settled h = record {
        rule = resume_rule s next;
        there = resume_there s next sits;
        of_node = sym h;
        spot = RestOf s.label;
        rests = inl refl;
        asks = inl refl;
      }

      some_slept : (l : Label) (k : ℕ) (bodies : Bodies) (branches : Trees) (stood : Bool) (g : Place) (around : Around) (n : Node) →
          AllFitGraph w i branches bodies stood g → SitEach slots all l k bodies branches → LieEach slots l k branches →
          AllRooted slots all around l k branches →
          are_settled branches ≡ true → SomeSleeps (all_woken branches) n → SomeSlept l k branches n
      some_slept l k bodies no_tree stood g around n lives sits lies rooted settled h = absurd h
      some_slept l k Last (beside weak c branches) stood g around n lives sits lies rooted settled h = absurd lives
      some_slept l k (BodyOf weak body rest) (beside weak' c branches) stood g around n lives sits lies rooted settled (inl h) =
          let one = slept c (live_branch stood body g) (SetsCounter (slots.ending l k)) (slots.ending l k).counter (in_branch k around) n lives.0 sits.1
          lies.0 rooted.0
          (and_first (is_settled c) (are_settled branches) settled) h in
          record {
            rule = one.rule;
            there = one.there;
            of_node = one.of_node;
            spot = one.spot;
            rests = has_right (ended_at (is_nil c) l k) (resting c ++ resting_each l (suc k) branches) one.spot
                (has_left (resting c) (resting_each l (suc k) branches) one.spot one.rests);
            asks = one.asks;
          }
      some_slept l k (BodyOf weak body rest) (beside weak' c branches) stood g around n lives sits lies rooted settled (inr h) =
          let one = some_slept l (suc k) rest branches stood g around n lives.2 sits.2 lies.1 rooted.1
          (and_second (is_settled c) (are_settled branches) settled) h in
          record {
            rule = one.rule;
            there = one.there;
            of_node = one.of_node;
            spot = one.spot;
            rests = has_right (ended_at (is_nil c) l k) (resting c ++ resting_each l (suc k) branches) one.spot
                (has_right (resting c) (resting_each l (suc k) branches) one.spot one.rests);
            asks = one.asks;
          }

  -- ---- where a tree rests is a place of its body

  spots_same : (k : ℕ) (around : Around) (p : Spot) → (in_branch k around).spots p → around.spots p
  spots_same zero around p h = h
  spots_same (suc k) around p h = h

  end_inside : (b : Bool) (l : Label) (k : ℕ) (p : Spot) (around : Around) → Has (ended_at b l k) p → around.spots (EndOf l k) → around.spots p
  end_inside true l k p around h inside = subst around.spots (sym (only_one p (EndOf l k) h)) inside
  end_inside false l k p around h inside = absurd h

  mutual
    pub resting_inside : (c : Tree) (next : Change) (around : Around) (p : Spot) → Sits slots all c next → Rooted slots all around c →
        Has (resting c) p → around.spots p
    resting_inside Nil next around p sits rooted h = absurd h
    resting_inside (Wait s) next around p sits rooted (inl is) = subst around.spots (sym is) rooted.inside
    resting_inside (Wait s) next around p sits rooted (inr other) = absurd other
    resting_inside (Test s) next around p sits rooted (inl is) = subst around.spots (sym is) rooted.inside
    resting_inside (Test s) next around p sits rooted (inr other) = absurd other
    resting_inside (Idle body) next around p sits rooted h = absurd h
    resting_inside (Do s) next around p sits rooted h = absurd h
    resting_inside (Seq c rest) next around p sits rooted h = resting_inside c (enter rest next) around p sits.0 rooted.0 h
    resting_inside (Par s stood branches) next around p sits rooted h =
        each_inside s.label 0 s.bodies branches around p sits.1 rooted.0 rooted.1 h
    resting_inside (Guard s phase stood c) next around p sits rooted h =
        resting_inside c (body_ends s.label s.place s.body) (in_when slots s.label s.place s.test s.body around) p sits.1 rooted.1 h
    resting_inside (Run s callee phase stood c) next around p sits rooted (inl is) = subst around.spots (sym is) rooted.inside
    resting_inside (Run s callee phase stood c) next around p sits rooted (inr other) = absurd other

    each_inside : (l : Label) (k : ℕ) (bodies : Bodies) (branches : Trees) (around : Around) (p : Spot) → SitEach slots all l k bodies branches →
        HeldEach slots all around l k bodies → AllRooted slots all around l k branches → Has (resting_each l k branches) p → around.spots p
    each_inside l k bodies no_tree around p sits held rooted h = absurd h
    each_inside l k Last (beside weak c branches) around p sits held rooted h = absurd sits
    each_inside l k (BodyOf weak body rest) (beside weak' c branches) around p sits held rooted h =
        elim (has_cases (ended_at (is_nil c) l k) (resting c ++ resting_each l (suc k) branches) p h) [
          | inl end ↦ spots_same k around p (end_inside (is_nil c) l k p (in_branch k around) end held.0.inside)
          | inr more ↦ elim (has_cases (resting c) (resting_each l (suc k) branches) p more) [
            | inl here ↦ spots_same k around p (resting_inside c (SetsCounter (slots.ending l k)) (in_branch k around) p sits.1 rooted.0 here)
            | inr later ↦ each_inside l (suc k) rest branches around p sits.2 held.2 rooted.1 later
          ]
        ]
