-- The rule of the node that has a turn leads from the numbers of the tree to those of what it becomes.
use Rattle.std.proofs.Common.{◌≡◌, inl, ℕ, suc, Bool, true, false, List, [], ◌∷◌, ◌++◌, Contains, map, if◌then◌else◌, refl, sym, ap, subst}
use Rattle.bl_tree.proofs.Basics.{number_itself}
use Rattle.bl_tree.specs.declared.place.Place.{Place as Source}
use Rattle.bl_tree.specs.declared.tree.Expr.{Expr}
use Rattle.bl_tree.specs.declared.tree.Guard.{Guard as GuardKind}
use Rattle.bl_tree.specs.declared.tree.Guard.TheVariants.{Abort, Reset}
use Rattle.bl_graph_nodes.specs.Nodes.{ActAt, DepthEndAt, EnterAt, ForkAt, HeadAt, Node, PauseAt, ResumeAt, StartAt, SurfaceEndAt, SurfaceJoinAt, TestAt}
use Rattle.bl_graph_nodes.specs.Nodes.{are_instant, arguments_of, entry, is_instant}
use Rattle.bl_graph_nodes.specs.Plain.{Act, Again, Await, Block, Bodies, Body as BodyOf, Cobegin, Done, If, Label, Last, Plain, Repeat, Run as RunOf, Then}
use Rattle.bl_graph_nodes.specs.Plain.{Until, When, While}
use Rattle.bl_graph_nodes.specs.Steps.{end_node, join_node, run_node}
use Rattle.bl_ctree.specs.Control.{Body, Check}
use Rattle.bl_ctree.specs.Instances.{Setting}
use Rattle.bl_ctree_laws.specs.Pending.{Deed}
use Rattle.bl_ctree_laws.specs.Steps.{call, fork, pause, turn, watch}
use Rattle.bl_ctree_laws.specs.Trees.{Call, Fork, Pause, Tree, Trees, Watch, Nil, Wait, Test, Do, Guard, Par, Run, trees_begun, do_block}
use Rattle.bl_ctree_laws_traces.specs.Progress.FitsGraph.{AllFitGraph, FitsGraph, call_stmt, fork_stmt, watch_stmt}
use Rattle.bl_ctree_laws_traces.specs.Progress.Places.{Place, ahead_of, guarded, in_branch}
use Rattle.bl_machine.specs.Uses.{Slots, uses_in, uses_in_branch, uses_in_each}
use Rattle.bl_machine_laws.specs.Numbers.Numbers.{At, Next, Over, Rests}
use Rattle.bl_machine_laws.specs.Numbers.Turns as turns
use Rattle.bl_machine_laws.specs.Numbers.Turns.{AnsweredDeed, InstancePoint, OneTurns, Turns}
use Rattle.bl_machine_pass.specs.SlotLayout.{BranchesRestAt}
use Rattle.bl_machine_pass.specs.Transitions.{Change, ClearsBoth, ClearsCounter, Flagged, IsNew, Rested, SetsCounter, SetsFlag, Transition, body_ends}
use Rattle.bl_machine_pass.specs.Transitions.{counters_in, counters_in_each, enter, enter_each, fires, flagged, joins, marked, once, rules_of}
use Rattle.bl_machine_pass_laws.specs.Turns.Laws.{answer_of, one_answer_of}
use Rattle.bl_machine_pass_laws.specs.Turns.Sits.{LieEach, Lies, RulesAreAmong, SitEach, Sits, UseEach, UsesOnly}
use Rattle.bl_machine_pass_laws.proofs.OnNumbers.Changing.{Goes, body_ends_go, flags_go, holds_go}
use Rattle.bl_machine_pass_laws.proofs.OnNumbers.Leading.{Leads, LeadsEach, block_leads, clears_body, clears_each, clears_nothing, first_leads, fork_leads}
use Rattle.bl_machine_pass_laws.proofs.OnNumbers.Leading.{guard_leads, later_leads, marked_lead, own_counter, par_leads, rests_lead, seq_leads, stays_lead}
use Rattle.bl_machine_pass_laws.proofs.OnNumbers.Leading.{turn_leads}
use Rattle.bl_machine_pass_laws.proofs.OnNumbers.Members.{Each, each_of}
use Rattle.bl_machine_pass_laws.proofs.OnNumbers.Numbered.{none_may, rest_lingers, unused_lingers}
use Rattle.bl_machine_pass_laws.proofs.OnNumbers.Parts.{check, check_there, depth_end_there, depth_join, depth_join_there, surface_end_there}
use Rattle.bl_machine_pass_laws.proofs.OnNumbers.Parts.{surface_join_there}
use Rattle.bl_ctree_laws.proofs.Less.{done_join}

-- what a rule changes where its node has acted with this answer
abbrev pub changes_of : Transition → Bool → List Change
changes_of rule answer = if answer then rule.on_true else rule.on_false

-- one of these rules is that of the node, and leads from the tree to what it becomes
pub record Acts (slots : Slots) (all : List Transition) (low : ℕ) (number : Node → ℕ) (used : ℕ → Bool) (c : Tree) (next : Next) (last : Bool) (n : Node)
    (answer : Bool) (c' : Tree) : Type 0 where
  pub rule : Transition
  pub there : Contains all rule
  pub of_node : rule.node ≡ n
  pub leads : Leads slots all low number used c next last c' (changes_of rule answer)

-- the number_itself of branches
pub record ActsEach (slots : Slots) (all : List Transition) (number : Node → ℕ) (l : Label) (k : ℕ) (bodies : Bodies) (branches : Trees) (n : Node)
    (answer : Bool) (branches' : Trees) : Type 0 where
  pub rule : Transition
  pub there : Contains all rule
  pub of_node : rule.node ≡ n
  pub leads : LeadsEach slots all number l k bodies branches branches' (changes_of rule answer)

-- what a check does where the kind of its guard is known
fires_abort : (guard : GuardKind) (l : Label) (at : Source) (body : Block) (next : Change) → guard ≡ Abort → fires guard l at body next ≡ next
fires_abort guard l at body next is = ap (λ g. fires g l at body next) is

fires_reset : (guard : GuardKind) (l : Label) (at : Source) (body : Block) (next : Change) → guard ≡ Reset →
    fires guard l at body next ≡ enter body (body_ends l at body)
fires_reset guard l at body next is = ap (λ g. fires g l at body next) is

module _ (slots : Slots) (all : List Transition) (number : Node → ℕ) where
  -- the rules of tests: of an `if`, of a loop's end and of its beginning
  abbrev if_rule : Label → Source → Expr → Block → Block → Change → Transition
  if_rule l at e body other change =
      record { node = TestAt l at e; condition = Flagged; on_true = enter body change ∷ []; on_false = enter other change ∷ [] }

  abbrev again_rule : Label → Source → Expr → Change → Transition
  again_rule l at e change = record { node = TestAt l at e; condition = Flagged; on_true = change ∷ []; on_false = SetsFlag (HeadAt l at) ∷ [] }

  abbrev while_rule : Label → Source → Expr → Block → Change → Transition
  while_rule l at e body change =
      record { node = TestAt l at e; condition = Flagged; on_true = enter body (SetsFlag (TestAt l at e)) ∷ []; on_false = change ∷ [] }

  -- the rule by which an `await` goes on, and that of a `run`
  abbrev test_rule : Pause → Change → Transition
  test_rule s change =
      record { node = TestAt s.label s.place s.test; condition = Rested (slots.rest s.label); on_true = change ∷ []; on_false = [] }

  abbrev resume_rule : Call → Change → Transition
  resume_rule s change =
      record { node = ResumeAt s.label s.place s.arguments; condition = Rested (slots.rest s.label); on_true = change ∷ []; on_false = [] }

  -- all rules of a statement
  rules_there : (s : Plain) (change : Change) → RulesAreAmong all (rules_of slots s change) → Each all (rules_of slots s change)
  rules_there s change among = each_of all (rules_of slots s change) among

  module _ (low : ℕ) (used : ℕ → Bool) (change : Change) (next : Next) (last : Bool) (goes : Goes all low number used change next last) where
    -- a join of a `cobegin`, by its mark
    join_acts : (s : Fork) (stood : Bool) (branches : Trees) → (stood ≡ false → is_instant (fork_stmt s) ≡ true) →
        RulesAreAmong all (rules_of slots (fork_stmt s) change) → ((j : ℕ) → uses_in_each slots s.label 0 s.bodies j ≡ true → used j ≡ true) →
        Acts slots all low number used (Par s stood branches) next last (join_node stood s.label s.place) true Nil
    join_acts s true branches instant among within = record {
      rule = depth_join slots s.label s.place s.bodies change;
      there = depth_join_there slots all s.label s.place s.bodies change among;
      of_node = refl;
      leads = block_leads slots all low number used (Par s true branches) next last
          (map ClearsCounter (once (counters_in_each slots s.label 0 s.bodies))) Done change
          (clears_each slots all low number used (Par s true branches) next s.label s.bodies within
          (λ j v off h. inl (none_may slots all s.label 0 s.bodies branches j v off h)))
          goes;
    }
    join_acts s false branches instant among within = record {
      rule = joins slots s.label s.bodies (IsNew (ForkAt s.label s.place)) (SurfaceJoinAt s.label s.place) change;
      there = surface_join_there slots all s.label s.place s.bodies change (instant refl) among;
      of_node = refl;
      leads = block_leads slots all low number used (Par s false branches) next last
          (map ClearsCounter (once (counters_in_each slots s.label 0 s.bodies))) Done change
          (clears_each slots all low number used (Par s false branches) next s.label s.bodies within
          (λ j v off h. inl (none_may slots all s.label 0 s.bodies branches j v off h)))
          goes;
    }

    -- the end of a `when`, by its mark
    end_acts : (s : Watch) (stood : Bool) → (stood ≡ false → are_instant s.body ≡ true) → RulesAreAmong all (rules_of slots (watch_stmt s) change) →
        Acts slots all low number used (Guard s Body stood Nil) next last (end_node stood s.label s.place) true Nil
    end_acts s true instant among = record {
      rule = flagged (DepthEndAt s.label s.place) (change ∷ []);
      there = depth_end_there slots all s.label s.place s.guard s.test s.body change among;
      of_node = refl;
      leads = block_leads slots all low number used (Guard s Body true Nil) next last [] Done change
          (clears_nothing slots all low number used (Guard s Body true Nil) next (λ j v h. h)) goes;
    }
    end_acts s false instant among = record {
      rule = flagged (SurfaceEndAt s.label s.place) (change ∷ []);
      there = surface_end_there slots all s.label s.place s.guard s.test s.body change among (instant refl);
      of_node = refl;
      leads = block_leads slots all low number used (Guard s Body false Nil) next last [] Done change
          (clears_nothing slots all low number used (Guard s Body false Nil) next (λ j v h. h)) goes;
    }

    -- what begins by one rule
    begins_acts : (s : Plain) (rule : Transition) (answer : Bool) (body : Block) → Contains all rule →
        changes_of rule answer ≡ enter body change ∷ [] → Acts slots all low number used (Do s) next last rule.node answer (do_block body)
    begins_acts s rule answer body there does = record {
      rule = rule;
      there = there;
      of_node = refl;
      leads = subst (λ changes. Leads slots all low number used (Do s) next last (do_block body) changes) (sym does)
          (block_leads slots all low number used (Do s) next last [] body change (clears_nothing slots all low number used (Do s) next (λ j v h. h)) goes);
    }

    -- the body of a loop does, before the loop
    turns_acts : (s : Plain) (rule : Transition) (answer : Bool) (body : Block) (x : Plain) → Contains all rule →
        changes_of rule answer ≡ enter body (SetsFlag (entry x)) ∷ [] →
        Acts slots all low number used (Do s) next last rule.node answer (do_block (turn body x))
    turns_acts s rule answer body x there does = record {
      rule = rule;
      there = there;
      of_node = refl;
      leads = subst (λ changes. Leads slots all low number used (Do s) next last (do_block (turn body x)) changes) (sym does)
          (turn_leads slots all low number used (Do s) next last body x change (λ j v h. h) goes);
    }

    point_acts : {w : Setting} {i : ℕ} {c : Tree} {d : Bool} {a : Deed} {n : Node} {c' : Tree} (g : Place) → InstancePoint w i c d a n c' →
        FitsGraph w i c g → Sits slots all c change → Lies slots low c → UsesOnly slots used c → Acts slots all low number used c next last n d c'
    point_acts g (turns.acts {l = l} {s = s}) live sits lies within =
        begins_acts (Act l s) (flagged (ActAt l s) (change ∷ [])) true Done (rules_there (Act l s) change sits).0 refl
    point_acts g (turns.takes {l = l} {at = at} {e = e} {body = body} {other = other}) live sits lies within =
        let each = rules_there (If l at e body other) change sits in
        begins_acts (If l at e body other) (if_rule l at e body other change) true body each.0 refl
    point_acts g (turns.passes {l = l} {at = at} {e = e} {body = body} {other = other}) live sits lies within =
        let each = rules_there (If l at e body other) change sits in
        begins_acts (If l at e body other) (if_rule l at e body other change) false other each.0 refl
    point_acts g (turns.pauses {l = l} {at = at} {e = e}) live sits lies within = record {
      rule = flagged (PauseAt l at) (SetsCounter (slots.rest l) ∷ []);
      there = (rules_there (Await l at e) change sits).0;
      of_node = refl;
      leads = rests_lead slots all low number used (Do (Await l at e)) next last (Wait (pause l at e)) (slots.rest l)
          (within (slots.rest l).counter (number_itself (slots.rest l).counter)) lies (λ j v h. h) (λ j v h. h) refl;
    }
    point_acts g (turns.repeats {l = l} {at = at} {body = body}) live sits lies within =
        turns_acts (Repeat l at body) (flagged (HeadAt l at) (enter body (SetsFlag (HeadAt l at)) ∷ [])) true body (Repeat l at body)
        (rules_there (Repeat l at body) change sits).0 refl
    point_acts g (turns.repeats_until {l = l} {at = at} {body = body} {e = e}) live sits lies within =
        turns_acts (Until l at body e) (flagged (HeadAt l at) (enter body (SetsFlag (TestAt l at e)) ∷ [])) true body (Again l at body e)
        (rules_there (Until l at body e) change sits).0 refl
    point_acts g (turns.leaves {l = l} {at = at} {body = body} {e = e}) live sits lies within =
        begins_acts (Again l at body e) (again_rule l at e change) true Done (rules_there (Again l at body e) change sits).1.0 refl
    point_acts g (turns.turns {l = l} {at = at} {body = body} {e = e}) live sits lies within = record {
      rule = again_rule l at e change;
      there = (rules_there (Again l at body e) change sits).1.0;
      of_node = refl;
      leads = block_leads slots all low number used (Do (Again l at body e)) next last [] (Then (Until l at body e) Done) change
          (clears_nothing slots all low number used (Do (Again l at body e)) next (λ j v h. h)) goes;
    }
    point_acts g (turns.enters {l = l} {at = at} {e = e} {body = body}) live sits lies within =
        turns_acts (While l at e body) (while_rule l at e body change) true body (While l at e body)
        (rules_there (While l at e body) change sits).0 refl
    point_acts g (turns.skips {l = l} {at = at} {e = e} {body = body}) live sits lies within =
        begins_acts (While l at e body) (while_rule l at e body change) false Done (rules_there (While l at e body) change sits).0 refl
    point_acts g (turns.forks {l = l} {at = at} {bodies = bodies}) live sits lies within = record {
      rule = flagged (ForkAt l at) (marked (is_instant (Cobegin l at bodies)) (ForkAt l at) (enter_each slots l 0 bodies));
      there = (rules_there (Cobegin l at bodies) change sits).0;
      of_node = refl;
      leads = marked_lead slots all low number used (Do (Cobegin l at bodies)) next last (Par (fork l at bodies) false (trees_begun bodies))
          (is_instant (Cobegin l at bodies)) (ForkAt l at) (enter_each slots l 0 bodies)
          (fork_leads slots all low number used (Do (Cobegin l at bodies)) next last (fork l at bodies) false within lies.0 lies.1 (λ j v h. h));
    }
    point_acts g (turns.guards {l = l} {at = at} {guard = guard} {e = e} {body = body}) live sits lies within = record {
      rule = flagged (StartAt l at) (marked (are_instant body) (StartAt l at) (enter body (body_ends l at body) ∷ []));
      there = (rules_there (When l at guard e body) change sits).0;
      of_node = refl;
      leads = marked_lead slots all low number used (Do (When l at guard e body)) next last (Guard (watch l at guard e body) Body false (do_block body))
          (are_instant body) (StartAt l at) (enter body (body_ends l at body) ∷ [])
          (guard_leads slots all low number used (Do (When l at guard e body)) (Do (When l at guard e body)) next last (watch l at guard e body) Body false
          (do_block body) (enter body (body_ends l at body) ∷ []) within (λ j v h. h)
          (block_leads slots all low number (uses_in slots body) (Do (When l at guard e body)) Over false [] body (body_ends l at body)
          (clears_nothing slots all low number (uses_in slots body) (Do (When l at guard e body)) Over (λ j v h. h))
          (body_ends_go all low number (uses_in slots body) l at body)));
    }
    point_acts g (turns.goes_on {s = s}) live sits lies within = record {
      rule = test_rule s change;
      there = (rules_there (Await s.label s.place s.test) change sits).1.0;
      of_node = refl;
      leads = block_leads slots all low number used (Test s) next last [] Done change
          (clears_nothing slots all low number used (Test s) next (rest_lingers slots all low (slots.rest s.label) (test_rule s change)
          (rules_there (Await s.label s.place s.test) change sits).1.0 refl lies)) goes;
    }
    point_acts g (turns.waits {s = s}) live sits lies within = record {
      rule = test_rule s change;
      there = (rules_there (Await s.label s.place s.test) change sits).1.0;
      of_node = refl;
      leads = stays_lead slots all low number used (Test s) next last (Wait s) (λ j v h. h) refl;
    }
    point_acts g (turns.lets {s = s} {stood = stood} {c = c}) live sits lies within = record {
      rule = check slots s.label s.place s.guard s.test s.body change;
      there = check_there slots all s.label s.place s.guard s.test s.body change sits.0;
      of_node = refl;
      leads = stays_lead slots all low number used (Guard s Check stood c) next last (Guard s Body stood c) (λ j v h. h) refl;
    }
    point_acts g (turns.aborts {s = s} {stood = stood} {c = c} is) live sits lies within = record {
      rule = check slots s.label s.place s.guard s.test s.body change;
      there = check_there slots all s.label s.place s.guard s.test s.body change sits.0;
      of_node = refl;
      leads = subst (λ y. Leads slots all low number used (Guard s Check stood c) next last Nil
          (map ClearsBoth (once (counters_in slots s.body)) ++ y ∷ [])) (sym (fires_abort s.guard s.label s.place s.body change is))
          (block_leads slots all low number used (Guard s Check stood c) next last (map ClearsBoth (once (counters_in slots s.body))) Done change
          (clears_body slots all low number used (Guard s Check stood c) next s.body within.0
          (λ j v off h. unused_lingers slots all (uses_in slots s.body) low c Over j v within.1 off (λ x. x) h)) goes);
    }
    point_acts g (turns.resets {s = s} {stood = stood} {c = c} is) live sits lies within = record {
      rule = check slots s.label s.place s.guard s.test s.body change;
      there = check_there slots all s.label s.place s.guard s.test s.body change sits.0;
      of_node = refl;
      leads = subst (λ y. Leads slots all low number used (Guard s Check stood c) next last (Guard s Body stood (do_block s.body))
          (map ClearsBoth (once (counters_in slots s.body)) ++ y ∷ [])) (sym (fires_reset s.guard s.label s.place s.body change is))
          (guard_leads slots all low number used (Guard s Check stood c) c next last s Body stood (do_block s.body)
          (map ClearsBoth (once (counters_in slots s.body)) ++ enter s.body (body_ends s.label s.place s.body) ∷ []) within.0 (λ j v h. h)
          (block_leads slots all low number (uses_in slots s.body) c Over false (map ClearsBoth (once (counters_in slots s.body))) s.body
          (body_ends s.label s.place s.body)
          (clears_body slots all low number (uses_in slots s.body) c Over s.body (λ j on. on)
          (λ j v off h. unused_lingers slots all (uses_in slots s.body) low c Over j v within.1 off (λ x. x) h))
          (body_ends_go all low number (uses_in slots s.body) s.label s.place s.body)));
    }
    point_acts g (turns.guard_ends {s = s} {stood = stood}) live sits lies within =
        end_acts s stood (live.1.closes refl).0 sits.0
    point_acts g (turns.joins {s = s} {stood = stood} {branches = branches} settled done) live sits lies within =
        join_acts s stood branches (live.1.joins (done_join branches done)).0 sits.0 within.0

  -- a `run` that ends: it has stood
  returns_acts : (low : ℕ) (used : ℕ → Bool) (change : Change) (next : Next) (last : Bool) → Goes all low number used change next last → (s : Call)
      (callee : ℕ) (stood : Bool) (c : Tree) → stood ≡ true → RulesAreAmong all (rules_of slots (call_stmt s) change) → (slots.rest s.label).counter ≡ low →
      Acts slots all low number used (Run s callee Check stood c) next last (run_node stood s.label s.place s.arguments) true Nil
  returns_acts low used change next last goes s callee true c is among lies = record {
    rule = resume_rule s change;
    there = (rules_there (call_stmt s) change among).1.0;
    of_node = refl;
    leads = block_leads slots all low number used (Run s callee Check true c) next last [] Done change
        (clears_nothing slots all low number used (Run s callee Check true c) next (rest_lingers slots all low (slots.rest s.label) (resume_rule s change)
        (rules_there (call_stmt s) change among).1.0 refl lies)) goes;
  }
  returns_acts low used change next last goes s callee false c is among lies = absurd cc

  -- or goes on
  resumes_acts : (low : ℕ) (used : ℕ → Bool) (change : Change) (next : Next) (last : Bool) (s : Call) (callee : ℕ) (stood : Bool) (c c' : Tree) →
      stood ≡ true → RulesAreAmong all (rules_of slots (call_stmt s) change) →
      Acts slots all low number used (Run s callee Check stood c) next last (run_node stood s.label s.place s.arguments) false (Run s callee Body stood c')
  resumes_acts low used change next last s callee true c c' is among = record {
    rule = resume_rule s change;
    there = (rules_there (call_stmt s) change among).1.0;
    of_node = refl;
    leads = stays_lead slots all low number used (Run s callee Check true c) next last (Run s callee Body true c') (λ j v h. h) refl;
  }
  resumes_acts low used change next last s callee false c c' is among = absurd cc

  mutual
    pub turn_acts : {w : Setting} {rank : ℕ → Node → ℕ} {i : ℕ} {c : Tree} {done : List AnsweredDeed} {n : Node} {c' : Tree} (used : ℕ → Bool)
        (low : ℕ) (change : Change) (next : Next) (last : Bool) → Goes all low number used change next last → (g : Place) (t : Turns w rank i c done n c') →
        FitsGraph w i c g → Sits slots all c change → Lies slots low c → UsesOnly slots used c → Acts slots all low number used c next last n (answer_of t) c'
    turn_acts used low change next last goes g (turns.point p) live sits lies within =
        point_acts low used change next last goes g p live sits lies within
    turn_acts used low change next last goes g
        (turns.runs {l = l} {at = at} {target = target} {a = a} {inputs = inputs} {outputs = outputs} {callee = callee} {c = c} called is passes unended)
        live sits lies within = record {
          rule = flagged (EnterAt l at (arguments_of target inputs outputs)) (SetsCounter (slots.rest l) ∷ []);
          there = (rules_there (RunOf l at target a inputs outputs) change sits).0;
          of_node = refl;
          leads = rests_lead slots all low number used (Do (RunOf l at target a inputs outputs)) next last
              (Run (call l at target a inputs outputs) callee Body false c)
              (slots.rest l) (within (slots.rest l).counter (number_itself (slots.rest l).counter)) lies (λ j v h. h) (λ j v h. h) refl;
        }
    turn_acts used low change next last goes g (turns.resumes {s = s} {callee = callee} {stood = stood} {c = c} {c' = c'} passes unended)
        live sits lies within = resumes_acts low used change next last s callee stood c c' live.2.has_stood sits
    turn_acts used low change next last goes g (turns.returns {s = s} {callee = callee} {stood = stood} {c = c} passes) live sits lies within =
        returns_acts low used change next last goes s callee stood c live.2.has_stood sits lies
    turn_acts used low change next last goes g (turns.in_seq {c = c} {s = s} {rest = rest} {c' = c'} t) live sits lies within =
        let inner = turn_acts used low (SetsFlag (entry s)) (At (entry s)) false (flags_go all low number used (entry s) (At (entry s)) (λ j v h. h))
        (ahead_of (entry s) g) t live.0 sits.0 lies.0 within.0 in
        record {
          rule = inner.rule;
          there = inner.there;
          of_node = inner.of_node;
          leads = seq_leads slots all low number used c s rest next last c' (changes_of inner.rule (answer_of t)) inner.leads;
        }
    turn_acts used low change next last goes g (turns.in_par {s = s} {stood = stood} {branches = branches} {branches' = branches'} t) live sits lies within =
        let inner = one_acts s.label 0 s.bodies stood g t live.0 sits.1 lies.0.1 lies.1 within.1 in
        record {
          rule = inner.rule;
          there = inner.there;
          of_node = inner.of_node;
          leads = par_leads slots all low number used next last s stood branches branches' (changes_of inner.rule (one_answer_of t)) within.0 inner.leads;
        }
    turn_acts used low change next last goes g (turns.in_guard {s = s} {stood = stood} {c = c} {c' = c'} t) live sits lies within =
        let inner = turn_acts (uses_in slots s.body) low (body_ends s.label s.place s.body) Over false
        (body_ends_go all low number (uses_in slots s.body) s.label s.place s.body) (guarded s g) t live.0 sits.1 lies.1 within.1 in
        record {
          rule = inner.rule;
          there = inner.there;
          of_node = inner.of_node;
          leads = guard_leads slots all low number used (Guard s Body stood c) c next last s Body stood c' (changes_of inner.rule (answer_of t))
              within.0 (λ j v h. h) inner.leads;
        }

    one_acts : {w : Setting} {rank : ℕ → Node → ℕ} {i : ℕ} {branches : Trees} {done : List AnsweredDeed} {n : Node} {branches' : Trees}
        (l : Label) (k : ℕ)
        (bodies : Bodies) (stood : Bool) (g : Place) (t : OneTurns w rank i branches done n branches') → AllFitGraph w i branches bodies stood g →
        SitEach slots all l k bodies branches → BranchesRestAt slots l k bodies → LieEach slots l k branches → UseEach slots l k bodies branches →
        ActsEach slots all number l k bodies branches n (one_answer_of t) branches'
    one_acts l k Last stood g (turns.first t) live sits laid lies within = absurd sits
    one_acts l k Last stood g (turns.later t) live sits laid lies within = absurd sits
    one_acts l k (BodyOf weak body rest) stood g (turns.first {weak = weak'} {c = c} {others = others} {c' = c'} t) live sits laid lies within =
        let inner = turn_acts (uses_in_branch slots l k body) (slots.ending l k).counter (SetsCounter (slots.ending l k)) (Rests (slots.ending l k)) false
        (holds_go all (slots.ending l k).counter number (uses_in_branch slots l k body) (slots.ending l k) (own_counter slots all number l k body) refl)
        (in_branch stood body g) t live.0 sits.1 lies.0 within.0 in
        record {
          rule = inner.rule;
          there = inner.there;
          of_node = inner.of_node;
          leads = first_leads slots all number l k weak weak' body rest c c' others (changes_of inner.rule (answer_of t)) inner.leads;
        }
    one_acts l k (BodyOf weak body rest) stood g (turns.later {weak = weak'} {c = c} {others = others} {others' = others'} t) live sits laid lies within =
        let inner = one_acts l (suc k) rest stood g t live.2 sits.2 laid.2 lies.1 within.1 in
        record {
          rule = inner.rule;
          there = inner.there;
          of_node = inner.of_node;
          leads = later_leads slots all number l k weak weak' body rest c others others' (changes_of inner.rule (one_answer_of t)) laid.1 inner.leads;
        }
