-- A join is due exactly where its `cobegin` waits there.
use Rattle.std.proofs.Common.{◌≡◌, ◌⊎◌, inl, inr, ⊎_elim, ℕ, suc, Bool, true, false, not, ◌&&◌, ◌||◌, if◌then◌else◌, nat_eq, List, [], ◌∷◌, None, refl, sym, ap}
use Rattle.std.proofs.Common.{ap₂, subst, ◌∙◌, arith, eq-eqb, eqb-true}
use Rattle.std.specs.List.{list_all, list_any}
use Rattle.std.specs.Prelude.{Contains, ⊤}
use Rattle.std.proofs.lemmas.Bool.{and_from, false_from_ne_true, or_left, or_right}
use Rattle.bl_tree.proofs.Basics.{and_first, and_second, true_false_any as differ}
use Rattle.bl_tree.specs.declared.place.Place.{Place}
use Rattle.bl_tree.specs.declared.tree.Unit.{Unit as UnitDef}
use Rattle.bl_graph_nodes.specs.Nodes.{DepthEndAt, DepthJoinAt, ForkAt, HeadAt, Node, SurfaceEndAt, SurfaceJoinAt, TestAt, are_instant, is_instant, label_of}
use Rattle.bl_graph_nodes.specs.Nodes.{nodes_in, nodes_in_each, place_of_node, some_strong}
use Rattle.bl_graph_nodes.specs.Plain.{Act, Again, Await, Block, Bodies, Body as BodyOf, Cobegin, Done, If, Label, Last, Plain, Repeat, Run as RunOf, Then}
use Rattle.bl_graph_nodes.specs.Plain.{Until, When, While, plain_body}
use Rattle.bl_graph_nodes.specs.Steps.{join_node}
use Rattle.bl_ctree.specs.Instances.{Setting}
use Rattle.bl_ctree_laws.specs.Trees.{Fork, Tree, Trees, are_done, beside, has_strong, is_nil, no_tree, some_ended, strong_ended}
use Rattle.bl_ctree_laws_traces.specs.Progress.FitsGraph.{fork_stmt}
use Rattle.bl_ctree_laws_traces.specs.Progress.Places.{whole}
use Rattle.bl_machine.specs.Uses.{Slots, is_of, uses_in, uses_in_branch, uses_in_each}
use Rattle.bl_machine_laws.specs.Numbers.Numbers.{Over, numbers_in, numbers_of}
use Rattle.bl_machine_laws.specs.Numbers.Waiting.{Waits}
use Rattle.bl_machine_pass.specs.SlotLayout.{BranchesRestAt, EndOf, RestOf, SlotsAreDistinct, Spot, slot_at, spots_in, spots_in_each, spots_of}
use Rattle.bl_machine_pass.specs.Numbered.{sort}
use Rattle.bl_machine_pass.specs.Registers.{Registers, are_ended, is_aged, is_at, is_due}
use Rattle.bl_machine_pass.specs.Transitions.{Age, Change, Condition, Ended, Finishes, Flagged, IsAny, IsNew, IsOld, Needed, Rested, RestedIn, SetsCounter}
use Rattle.bl_machine_pass.specs.Transitions.{SetsFlag, Transition, age_of, body_ends, endings, enter, flagged, joins, needed, rule_where, rules, rules_in}
use Rattle.bl_machine_pass.specs.Transitions.{rules_in_each, rules_of, strong_endings}
use Rattle.bl_machine_pass_laws.specs.Turns.Holds.{CountersLinger, CountersMayBe, RestsThere}
use Rattle.bl_machine_pass_laws.specs.Turns.Invariant.{Exactly, IsFlagged, IsJoin, IsResume, Marked}
use Rattle.bl_machine_pass_laws.specs.Turns.Laws.{StaysPlaced, Turning}
use Rattle.bl_machine_pass_laws.specs.Turns.Sits.{SitEach}
use Rattle.bl_machine_pass_laws_turns.specs.Joins.Laws.{JoinsWait, RulesWait}
use Rattle.bl_machine_pass_laws_turns.specs.Joins.Stems.{Member, Same, StemEach, Stemmed, Stems}
use Rattle.bl_machine_pass_laws_turns.proofs.OnJoins.Lists.{bodies_differ, contained, either, left, member, right, sole_rule}
use Rattle.bl_machine_pass_laws_turns.proofs.OnJoins.Resting.{RestsAt, end_tells, rests, rests_there}
use Rattle.bl_machine_pass_laws_turns.proofs.OnJoins.Ruling.{fork_rest, watch_rest}
use Rattle.bl_machine_pass_laws_turns.proofs.OnJoins.Standing.{IsJoinNode, MarkOf, MayEnd, Stands, StandsAs, first_number, joins_at, laid_fork, later_number}
use Rattle.bl_machine_pass_laws_turns.proofs.OnJoins.Standing.{live_fork, mark_fork, numbers_fork, own_fork, sit_fork, stands_so}
use Rattle.bl_machine_pass_laws_turns.proofs.OnJoins.Standing.{stands_within, waits_fork}
use Rattle.bl_machine_pass_laws_turns.proofs.OnJoins.Stemming.{fork_differ, fork_join}
use Rattle.bl_machine_pass_laws.proofs.OnRooted.Resuming.{slot_is}
use Rattle.bl_machine_pass_laws.proofs.OnNumbers.Parts.{check, depth_join}

-- ---- rules that ask for ends

abbrev early_rule : Slots → Label → Place → Bodies → Change → Transition
early_rule slots l at bodies next = joins slots l bodies (IsNew (ForkAt l at)) (SurfaceJoinAt l at) next

-- a rule that asks for ends is one of a `cobegin`, whose rules and places are among these
record JoinOf (slots : Slots) (Ruled : Transition → Type 0) (R : Spot → Type 0) (rule : Transition) : Type 0 where
  label : Label
  place : Place
  bodies : Bodies
  next : Change
  deep : Ruled (depth_join slots label place bodies next)
  is : (rule ≡ depth_join slots label place bodies next)
      ⊎ ((is_instant (Cobegin label place bodies) ≡ true) × (rule ≡ early_rule slots label place bodies next))
  spots : (p : Spot) → Member (spots_in_each label 0 bodies) p → R p

where_member : (b : Bool) (x rule : Transition) → Member (rule_where b x) rule → (b ≡ true) × (rule ≡ x)
where_member true x rule (inl e) = (refl, e)
where_member true x rule (inr h) = absurd h
where_member false x rule h = absurd h

not_join : {A : Type 0} (x rule : Transition) → rule ≡ x → (IsJoin x.condition → ⊥) → IsJoin rule.condition → A
not_join x rule e none join = absurd (none (subst (λ (other : Transition). IsJoin other.condition) e join))

mutual
  join_of : (slots : Slots) (Ruled : Transition → Type 0) (R : Spot → Type 0) (s : Plain) (next : Change) (rule : Transition) →
      ((x : Transition) → Member (rules_of slots s next) x → Ruled x) → ((p : Spot) → Member (spots_of s) p → R p) →
      Member (rules_of slots s next) rule → IsJoin rule.condition → JoinOf slots Ruled R rule
  join_of slots Ruled R (Act l s) next rule sub spots (inl e) join = not_join _ rule e (λ h. h) join
  join_of slots Ruled R (Act l s) next rule sub spots (inr h) join = absurd h
  join_of slots Ruled R (Await l at e) next rule sub spots (inl is) join = not_join _ rule is (λ h. h) join
  join_of slots Ruled R (Await l at e) next rule sub spots (inr (inl is)) join = not_join _ rule is (λ h. h) join
  join_of slots Ruled R (Await l at e) next rule sub spots (inr (inr h)) join = absurd h
  join_of slots Ruled R (RunOf l at target a inputs outputs) next rule sub spots (inl is) join = not_join _ rule is (λ h. h) join
  join_of slots Ruled R (RunOf l at target a inputs outputs) next rule sub spots (inr (inl is)) join = not_join _ rule is (λ h. h) join
  join_of slots Ruled R (RunOf l at target a inputs outputs) next rule sub spots (inr (inr h)) join = absurd h
  join_of slots Ruled R (If l at e body other) next rule sub spots (inl is) join = not_join _ rule is (λ h. h) join
  join_of slots Ruled R (If l at e body other) next rule sub spots (inr h) join =
      ⊎_elim
      (λ one. join_in slots Ruled R body next rule (λ x there. sub x (inr (left (rules_in slots body next) (rules_in slots other next) x there)))
      (λ p there. spots p (left (spots_in body) (spots_in other) p there)) one join)
      (λ two. join_in slots Ruled R other next rule (λ x there. sub x (inr (right (rules_in slots body next) (rules_in slots other next) x there)))
      (λ p there. spots p (right (spots_in body) (spots_in other) p there)) two join)
      (either (rules_in slots body next) (rules_in slots other next) rule h)
  join_of slots Ruled R (Cobegin l at bodies) next rule sub spots (inl is) join = not_join _ rule is (λ h. h) join
  join_of slots Ruled R (Cobegin l at bodies) next rule sub spots (inr h) join =
      ⊎_elim
      (λ one. found (inr (where_member (is_instant (Cobegin l at bodies)) (early_rule slots l at bodies next) rule one)))
      (λ two. of_rest (λ there. join_each slots Ruled R l 0 bodies rule (λ x one. among x (inr one)) spots there join) two)
      (either (rule_where (is_instant (Cobegin l at bodies)) (early_rule slots l at bodies next))
      (fork_rest slots l at bodies next) rule h)
    where
      among : (x : Transition) → Member (fork_rest slots l at bodies next) x → Ruled x
      among x there =
          sub x (inr (right (rule_where (is_instant (Cobegin l at bodies)) (early_rule slots l at bodies next))
          (fork_rest slots l at bodies next) x there))

      found : ((rule ≡ depth_join slots l at bodies next)
          ⊎ ((is_instant (Cobegin l at bodies) ≡ true) × (rule ≡ early_rule slots l at bodies next))) → JoinOf slots Ruled R rule
      found is = record {
        label = l;
        place = at;
        bodies = bodies;
        next = next;
        deep = among (depth_join slots l at bodies next) (inl refl);
        is = is;
        spots = spots;
      }

      of_rest : (Member (rules_in_each slots l 0 bodies) rule → JoinOf slots Ruled R rule) → Member (fork_rest slots l at bodies next) rule →
          JoinOf slots Ruled R rule
      of_rest each (inl is) = found (inl is)
      of_rest each (inr there) = each there
  join_of slots Ruled R (When l at guard e body) next rule sub spots (inl is) join = not_join _ rule is (λ h. h) join
  join_of slots Ruled R (When l at guard e body) next rule sub spots (inr h) join =
      ⊎_elim
      (λ one. not_join (flagged (SurfaceEndAt l at) (next ∷ [])) rule
      (where_member (are_instant body) (flagged (SurfaceEndAt l at) (next ∷ [])) rule one).1 (λ k. k) join)
      (λ two. of_rest (λ there. join_in slots Ruled R body (body_ends l at body) rule (λ x one. sub x (inr
      (right (rule_where (are_instant body) (flagged (SurfaceEndAt l at) (next ∷ []))) (watch_rest slots l at guard e body next) x (inr (inr one)))))
      spots there join) two)
      (either (rule_where (are_instant body) (flagged (SurfaceEndAt l at) (next ∷ []))) (watch_rest slots l at guard e body next) rule h)
    where
      of_rest : (Member (rules_in slots body (body_ends l at body)) rule → JoinOf slots Ruled R rule) →
          Member (watch_rest slots l at guard e body next) rule → JoinOf slots Ruled R rule
      of_rest inner (inl is) = not_join (check slots l at guard e body next) rule is (λ k. k) join
      of_rest inner (inr (inl is)) = not_join (flagged (DepthEndAt l at) (next ∷ [])) rule is (λ k. k) join
      of_rest inner (inr (inr there)) = inner there
  join_of slots Ruled R (Repeat l at body) next rule sub spots (inl is) join = not_join _ rule is (λ h. h) join
  join_of slots Ruled R (Repeat l at body) next rule sub spots (inr h) join =
      join_in slots Ruled R body (SetsFlag (HeadAt l at)) rule (λ x there. sub x (inr there)) spots h join
  join_of slots Ruled R (Until l at body e) next rule sub spots (inl is) join = not_join _ rule is (λ h. h) join
  join_of slots Ruled R (Until l at body e) next rule sub spots (inr (inl is)) join = not_join _ rule is (λ h. h) join
  join_of slots Ruled R (Until l at body e) next rule sub spots (inr (inr h)) join =
      join_in slots Ruled R body (SetsFlag (TestAt l at e)) rule (λ x there. sub x (inr (inr there))) spots h join
  join_of slots Ruled R (While l at e body) next rule sub spots (inl is) join = not_join _ rule is (λ h. h) join
  join_of slots Ruled R (While l at e body) next rule sub spots (inr h) join =
      join_in slots Ruled R body (SetsFlag (TestAt l at e)) rule (λ x there. sub x (inr there)) spots h join
  join_of slots Ruled R (Again l at body e) next rule sub spots (inl is) join = not_join _ rule is (λ h. h) join
  join_of slots Ruled R (Again l at body e) next rule sub spots (inr (inl is)) join = not_join _ rule is (λ h. h) join
  join_of slots Ruled R (Again l at body e) next rule sub spots (inr (inr h)) join =
      join_in slots Ruled R body (SetsFlag (TestAt l at e)) rule (λ x there. sub x (inr (inr there))) spots h join

  join_in : (slots : Slots) (Ruled : Transition → Type 0) (R : Spot → Type 0) (body : Block) (next : Change) (rule : Transition) →
      ((x : Transition) → Member (rules_in slots body next) x → Ruled x) → ((p : Spot) → Member (spots_in body) p → R p) →
      Member (rules_in slots body next) rule → IsJoin rule.condition → JoinOf slots Ruled R rule
  join_in slots Ruled R Done next rule sub spots h join = absurd h
  join_in slots Ruled R (Then s rest) next rule sub spots h join =
      ⊎_elim
      (λ one. join_of slots Ruled R s (enter rest next) rule
      (λ x there. sub x (left (rules_of slots s (enter rest next)) (rules_in slots rest next) x there))
      (λ p there. spots p (left (spots_of s) (spots_in rest) p there)) one join)
      (λ two. join_in slots Ruled R rest next rule
      (λ x there. sub x (right (rules_of slots s (enter rest next)) (rules_in slots rest next) x there))
      (λ p there. spots p (right (spots_of s) (spots_in rest) p there)) two join)
      (either (rules_of slots s (enter rest next)) (rules_in slots rest next) rule h)

  join_each : (slots : Slots) (Ruled : Transition → Type 0) (R : Spot → Type 0) (l : Label) (k : ℕ) (bodies : Bodies) (rule : Transition) →
      ((x : Transition) → Member (rules_in_each slots l k bodies) x → Ruled x) → ((p : Spot) → Member (spots_in_each l k bodies) p → R p) →
      Member (rules_in_each slots l k bodies) rule → IsJoin rule.condition → JoinOf slots Ruled R rule
  join_each slots Ruled R l k Last rule sub spots h join = absurd h
  join_each slots Ruled R l k (BodyOf weak body rest) rule sub spots h join =
      ⊎_elim
      (λ one. join_in slots Ruled R body (SetsCounter (slots.ending l k)) rule
      (λ x there. sub x (left (rules_in slots body (SetsCounter (slots.ending l k))) (rules_in_each slots l (suc k) rest) x there))
      (λ p there. spots p (inr (left (spots_in body) (spots_in_each l (suc k) rest) p there))) one join)
      (λ two. join_each slots Ruled R l (suc k) rest rule
      (λ x there. sub x (right (rules_in slots body (SetsCounter (slots.ending l k))) (rules_in_each slots l (suc k) rest) x there))
      (λ p there. spots p (inr (right (spots_in body) (spots_in_each l (suc k) rest) p there))) two join)
      (either (rules_in slots body (SetsCounter (slots.ending l k))) (rules_in_each slots l (suc k) rest) rule h)

-- ---- ends that are needed

-- the end of a branch is held
record EndHeld (slots : Slots) (counters : ℕ → ℕ) (l : Label) (k : ℕ) (bodies : Bodies) : Type 0 where
  branch : ℕ
  there : Member (spots_in_each l k bodies) (EndOf l branch)
  held : is_at counters (slots.ending l branch) ≡ true

later_end : (slots : Slots) (counters : ℕ → ℕ) (l : Label) (k : ℕ) (weak : Bool) (body : Block) (rest : Bodies) →
    EndHeld slots counters l (suc k) rest → EndHeld slots counters l k (BodyOf weak body rest)
later_end slots counters l k weak body rest it = record {
  branch = it.branch;
  there = inr (right (spots_in body) (spots_in_each l (suc k) rest) (EndOf l it.branch) it.there);
  held = it.held;
}

some_end : (slots : Slots) (counters : ℕ → ℕ) (l : Label) (k : ℕ) (bodies : Bodies) → list_any (is_at counters) (endings slots l k bodies)
    ≡ true →
    EndHeld slots counters l k bodies
some_end slots counters l k Last e = differ false e refl
some_end slots counters l k (BodyOf weak body rest) e =
    by_first (is_at counters (slots.ending l k)) refl (λ f. some_end slots counters l (suc k) rest f)
  where
    by_first : (b : Bool) → is_at counters (slots.ending l k) ≡ b →
        (list_any (is_at counters) (endings slots l (suc k) rest) ≡ true → EndHeld slots counters l (suc k) rest) →
        EndHeld slots counters l k (BodyOf weak body rest)
    by_first true held others = record { branch = k; there = inl refl; held = held }
    by_first false unheld others =
        later_end slots counters l k weak body rest
        (others (sym (ap (λ b. b || list_any (is_at counters) (endings slots l (suc k) rest)) unheld) ∙ e))

strong_end : (slots : Slots) (counters : ℕ → ℕ) (l : Label) (k : ℕ) (bodies : Bodies) → some_strong bodies ≡ true →
    list_all (is_at counters) (strong_endings slots l k bodies) ≡ true → EndHeld slots counters l k bodies
strong_end slots counters l k Last strong e = differ false strong refl
strong_end slots counters l k (BodyOf true body rest) strong e =
    later_end slots counters l k true body rest (strong_end slots counters l (suc k) rest strong e)
strong_end slots counters l k (BodyOf false body rest) strong e = record {
  branch = k;
  there = inl refl;
  held = and_first (is_at counters (slots.ending l k)) (list_all (is_at counters) (strong_endings slots l (suc k) rest)) e;
}

-- the needed ends, where this tells whether some branch is strong
abbrev needed_by : Slots → Label → Bodies → Bool → Needed
needed_by slots l bodies strong =
    if strong
    then record { all = true; slots = strong_endings slots l 0 bodies }
    else record { all = false; slots = endings slots l 0 bodies }

-- where so many ends are held as are needed, one is
needed_end : (slots : Slots) (counters : ℕ → ℕ) (l : Label) (bodies : Bodies) → are_ended counters (needed slots l bodies) ≡ true →
    EndHeld slots counters l 0 bodies
needed_end slots counters l bodies e = by_strong (some_strong bodies) refl
  where
    by_strong : (b : Bool) → some_strong bodies ≡ b → EndHeld slots counters l 0 bodies
    by_strong true is = strong_end slots counters l 0 bodies is (sym (ap (λ b. are_ended counters (needed_by slots l bodies b)) is) ∙ e)
    by_strong false is = some_end slots counters l 0 bodies (sym (ap (λ b. are_ended counters (needed_by slots l bodies b)) is) ∙ e)

-- ---- the branches of a `cobegin` that stands

-- the counter of each branch's end tells whether the branch has ended
abbrev EndsTell : Slots → (ℕ → ℕ) → Label → ℕ → Trees → Type 0
EndsTell slots counters l k no_tree = ⊤
EndsTell slots counters l k (beside weak c branches) =
    (is_at counters (slots.ending l k) ≡ is_nil c) × EndsTell slots counters l (suc k) branches

strong_so : (slots : Slots) (ruled : List Transition) (l : Label) (k : ℕ) (bodies : Bodies) (branches : Trees) → SitEach slots ruled l k bodies branches →
    some_strong bodies ≡ has_strong branches
strong_so slots ruled l k Last no_tree sits = refl
strong_so slots ruled l k Last (beside weak c branches) sits = absurd sits
strong_so slots ruled l k (BodyOf weak body rest) no_tree sits = absurd sits
strong_so slots ruled l k (BodyOf weak body rest) (beside weak' c branches) sits =
    ap₂ (λ a b. not a || b) sits.0 (strong_so slots ruled l (suc k) rest branches sits.2)

some_so : (slots : Slots) (ruled : List Transition) (counters : ℕ → ℕ) (l : Label) (k : ℕ) (bodies : Bodies) (branches : Trees) →
    SitEach slots ruled l k bodies branches → EndsTell slots counters l k branches →
    list_any (is_at counters) (endings slots l k bodies) ≡ some_ended branches
some_so slots ruled counters l k Last no_tree sits tell = refl
some_so slots ruled counters l k Last (beside weak c branches) sits tell = absurd sits
some_so slots ruled counters l k (BodyOf weak body rest) no_tree sits tell = absurd sits
some_so slots ruled counters l k (BodyOf weak body rest) (beside weak' c branches) sits tell =
    ap₂ (λ a b. a || b) tell.0 (some_so slots ruled counters l (suc k) rest branches sits.2 tell.1)

all_so : (slots : Slots) (ruled : List Transition) (counters : ℕ → ℕ) (l : Label) (k : ℕ) (bodies : Bodies) (branches : Trees) →
    SitEach slots ruled l k bodies branches → EndsTell slots counters l k branches →
    list_all (is_at counters) (strong_endings slots l k bodies) ≡ strong_ended branches
all_so slots ruled counters l k Last no_tree sits tell = refl
all_so slots ruled counters l k Last (beside weak c branches) sits tell = absurd sits
all_so slots ruled counters l k (BodyOf weak body rest) no_tree sits tell = absurd sits
all_so slots ruled counters l k (BodyOf weak body rest) (beside weak' c branches) sits tell =
    by_kind weak (all_so slots ruled counters l (suc k) rest branches sits.2 tell.1) ∙ ap (λ b. (b || is_nil c) && strong_ended branches) sits.0
  where
    by_kind : (b : Bool) → list_all (is_at counters) (strong_endings slots l (suc k) rest) ≡ strong_ended branches →
        list_all (is_at counters) (strong_endings slots l k (BodyOf b body rest)) ≡ ((b || is_nil c) && strong_ended branches)
    by_kind true others = others
    by_kind false others = ap₂ (λ a x. a && x) tell.0 others

-- so many ends are held as are needed exactly where so many branches have ended
ended_so : (slots : Slots) (ruled : List Transition) (counters : ℕ → ℕ) (l : Label) (bodies : Bodies) (branches : Trees) →
    SitEach slots ruled l 0 bodies branches → EndsTell slots counters l 0 branches → are_ended counters (needed slots l bodies) ≡ are_done branches
ended_so slots ruled counters l bodies branches sits tell =
    by_strong (some_strong bodies)
    ∙ ap (λ b. if b then strong_ended branches else some_ended branches) (strong_so slots ruled l 0 bodies branches sits)
  where
    by_strong : (b : Bool) → are_ended counters (needed_by slots l bodies b) ≡ (if b then strong_ended branches else some_ended branches)
    by_strong true = all_so slots ruled counters l 0 bodies branches sits tell
    by_strong false = some_so slots ruled counters l 0 bodies branches sits tell

is_own : (slots : Slots) (l : Label) (k : ℕ) (body : Block) → uses_in_branch slots l k body (slots.ending l k).counter ≡ true
is_own slots l k body =
    or_left (is_of (slots.ending l k) (slots.ending l k).counter) (uses_in slots body (slots.ending l k).counter)
    (eq-eqb (slots.ending l k).counter (slots.ending l k).counter refl)

-- the ends of a `cobegin` at a place, where no other with its label stands in its branches
module _ (slots : Slots) (R : Spot → Type 0) (l : Label) (at : Place) (counters : ℕ → ℕ)
    (alone : (p q : Spot) → R p → R q → slot_at slots p ≡ slot_at slots q → p ≡ q)
    (counted : (p : Spot) → R p → (slot_at slots p).value ≡ 0 → ⊥) where
  nested : (body : Block) (c : Tree) → ((n : Node) → Member (nodes_in body) n → Same (DepthJoinAt l at) n → ⊥) →
      StandsAs l c → Stems R (Member (nodes_in body)) c → ⊥
  nested body c apart it own =
      apart (DepthJoinAt it.fork.label it.fork.place)
      (stands_within R (Member (nodes_in body)) it.stands own (DepthJoinAt it.fork.label it.fork.place)
      (fork_join it.fork.label it.fork.place it.fork.bodies))
      (record { label = sym it.label; sorted = refl })

  tells : (k : ℕ) (bodies : Bodies) (branches : Trees) → ((n : Node) → Member (nodes_in_each bodies) n → Same (DepthJoinAt l at) n → ⊥) →
      ((p : Spot) → Member (spots_in_each l k bodies) p → R p) → StemEach R bodies branches → BranchesRestAt slots l k bodies →
      ((j : ℕ) → uses_in_each slots l k bodies j ≡ true → counters j ≡ numbers_in slots l k bodies branches j) →
      EndsTell slots counters l k branches
  tells k bodies no_tree apart spots own laid held = tt
  tells k Last (beside weak c branches) apart spots own laid held = absurd own
  tells k (BodyOf weak body rest) (beside weak' c branches) apart spots own laid held = (
    end_tells slots R (Member (nodes_in body)) c (slots.ending l k) counters own.0 (counted (EndOf l k) (spots (EndOf l k) (inl refl)))
        (held (slots.ending l k).counter
        (or_left (uses_in_branch slots l k body (slots.ending l k).counter) (uses_in_each slots l (suc k) rest (slots.ending l k).counter)
        (is_own slots l k body))
        ∙ first_number slots l k weak weak' body rest c branches (slots.ending l k).counter (is_own slots l k body))
        (λ p there e. nested body c (λ n one. apart n (left (nodes_in body) (nodes_in_each rest) n one))
        (stands_so c l k (subst (RestsAt c) (alone p (EndOf l k) (rests_there R (Member (nodes_in body)) c p own.0 there)
        (spots (EndOf l k) (inl refl)) e) there)) own.0),
    tells (suc k) rest branches (λ n one. apart n (right (nodes_in body) (nodes_in_each rest) n one))
        (λ p one. spots p (inr (right (spots_in body) (spots_in_each l (suc k) rest) p one))) own.1 laid.2
        (λ j uses_it. held j (or_right (uses_in_branch slots l k body j) (uses_in_each slots l (suc k) rest j) uses_it)
        ∙ later_number slots l k weak weak' body rest c branches j laid.1 uses_it),
  )

-- ---- ages

abbrev needed_of : Condition → Needed
needed_of Flagged = record { all = true; slots = [] }
needed_of (Rested slot) = record { all = true; slots = [] }
needed_of (RestedIn slots) = record { all = true; slots = [] }
needed_of (Ended age what) = what

abbrev age_asked : Condition → Age
age_asked Flagged = IsAny
age_asked (Rested slot) = IsAny
age_asked (RestedIn slots) = IsAny
age_asked (Ended age what) = age

abbrev is_old : Age → Bool
is_old (IsNew n) = false
is_old (IsOld n) = true
is_old IsAny = false

old_instant : (b : Bool) (n : Node) → is_old (age_of b n) ≡ b
old_instant true n = refl
old_instant false n = refl

not_not : (b : Bool) → not (not b) ≡ b
not_not true = refl
not_not false = refl

-- a `cobegin` is of the age that its later join asks for exactly where it has stood
old_stood : (number : Node → ℕ) (marks : ℕ → Bool) (n : Node) (instant stood : Bool) → (instant ≡ true → marks (number n) ≡ not stood) →
    (stood ≡ false → instant ≡ true) → is_aged number marks (age_of instant n) ≡ true → stood ≡ true
old_stood number marks n true stood mark may e = sym (not_not stood) ∙ sym (ap not (mark refl)) ∙ e
old_stood number marks n false true mark may e = refl
old_stood number marks n false false mark may e = may refl

stood_old : (number : Node → ℕ) (marks : ℕ → Bool) (n : Node) (instant stood : Bool) → (instant ≡ true → marks (number n) ≡ not stood) →
    stood ≡ true → is_aged number marks (age_of instant n) ≡ true
stood_old number marks n true stood mark e = ap not (mark refl) ∙ not_not stood ∙ e
stood_old number marks n false stood mark e = refl

deep_stood : (stood : Bool) (l m : Label) (at by : Place) → DepthJoinAt l at ≡ join_node stood m by → stood ≡ true
deep_stood true l m at by e = refl
deep_stood false l m at by e = absurd (not_sorts (ap sort e))
  where
    not_sorts : ◌≡◌ {A = ℕ} 12 11 → ⊥
    not_sorts is = omega arith

early_stood : (stood : Bool) (l m : Label) (at by : Place) → SurfaceJoinAt l at ≡ join_node stood m by → stood ≡ false
early_stood false l m at by e = refl
early_stood true l m at by e = absurd (not_sorts (ap sort e))
  where
    not_sorts : ◌≡◌ {A = ℕ} 11 12 → ⊥
    not_sorts is = omega arith

join_label : (stood : Bool) (l : Label) (at : Place) → label_of (join_node stood l at) ≡ l
join_label true l at = refl
join_label false l at = refl

-- ---- the law

-- the body of a unit, its places and nodes
abbrev body_of : UnitDef → Block
body_of unit = plain_body unit.body

abbrev Spots : UnitDef → Spot → Type 0
Spots unit = Contains (spots_in (plain_body unit.body))

abbrev Nodes : UnitDef → Node → Type 0
Nodes unit = Contains (nodes_in (plain_body unit.body))

abbrev Join : Slots → UnitDef → Transition → Type 0
Join slots unit rule = JoinOf slots (Contains (rules slots (plain_body unit.body))) (Contains (spots_in (plain_body unit.body))) rule

module _ (w : Setting) (rank : ℕ → Node → ℕ) (i : ℕ) (slots : Slots) (unit : UnitDef) (old : Bool) (c : Tree) (rule : Transition) (r : Registers)
    (placed : StaysPlaced) (turning : Turning w rank i slots unit old c rule.node rule) (stemmed : Stemmed (plain_body unit.body) c)
    (held : (j : ℕ) → r.counters j ≡ numbers_of slots c Over j) (marked : Marked (rank i) r.marks c) where
  the_join : IsJoin rule.condition → Join slots unit rule
  the_join join =
      join_in slots (Contains (rules slots (body_of unit))) (Spots unit) (body_of unit) Finishes rule
      (λ x there. contained (rules slots (body_of unit)) x there)
      (λ p there. contained (spots_in (body_of unit)) p there) (member (rules slots (body_of unit)) rule turning.there) join

  -- the ends of a `cobegin` that stands are held where so many branches have ended
  ends_of : {s : Fork} {stood : Bool} {branches : Trees} → Stands s stood branches c →
      are_ended r.counters (needed slots s.label s.bodies) ≡ are_done branches
  ends_of {s} {stood} {branches} stands =
      let own = own_fork (Spots unit) (Nodes unit) stands stemmed in
      ended_so slots (rules slots (body_of unit)) r.counters s.label s.bodies branches
      (sit_fork slots (rules slots (body_of unit)) Finishes stands turning.placed.sits).each
      (tells slots (Spots unit) s.label s.place r.counters turning.laid.alone turning.laid.counted 0 s.bodies branches
      (fork_differ s.label s.place s.bodies own.differ).0 own.spots own.stems (laid_fork slots 0 stands turning.placed.lies)
      (λ j uses_it. held j ∙ numbers_fork slots (Spots unit) (Nodes unit) 0 (uses_in slots (body_of unit)) Over j stands stemmed turning.placed.lies
      turning.placed.uses uses_it))

  -- the `cobegin` that stands with the label of the join is the one that the join's rule is of
  same_rule : (join : Join slots unit rule) {s : Fork} {stood : Bool} {branches : Trees} (stands : Stands s stood branches c) → s.label ≡ join.label →
      depth_join slots join.label join.place join.bodies join.next
      ≡ depth_join slots s.label s.place s.bodies (sit_fork slots (rules slots (body_of unit)) Finishes stands turning.placed.sits).next
  same_rule join {s} {stood} {branches} stands is =
      let sits = sit_fork slots (rules slots (body_of unit)) Finishes stands turning.placed.sits in
      sole_rule (rules slots (body_of unit)) (nodes_in (body_of unit)) (placed.nodes slots (body_of unit)) (bodies_differ unit.body [])
      (depth_join slots join.label join.place join.bodies join.next) (depth_join slots s.label s.place s.bodies sits.next) join.deep
      (sits.among (depth_join slots s.label s.place s.bodies sits.next)
      (contained (rules_of slots (fork_stmt s) sits.next) (depth_join slots s.label s.place s.bodies sits.next)
      (inr (right (rule_where (is_instant (fork_stmt s)) (early_rule slots s.label s.place s.bodies sits.next))
      (fork_rest slots s.label s.place s.bodies sits.next)
      (depth_join slots s.label s.place s.bodies sits.next) (inl refl)))))
      (record { label = sym is; sorted = refl })

  -- it is due exactly where so many branches have ended as are needed and the join is that of its age
  due_here : (join : Join slots unit rule) {s : Fork} {stood : Bool} {branches : Trees} → Stands s stood branches c → s.label ≡ join.label →
      Exactly (is_due (rank i) rule r) ((are_done branches ≡ true) × (rule.node ≡ join_node stood s.label s.place))
  due_here join {s} {stood} {branches} stands is = by_rule join.is
    where
      one : depth_join slots join.label join.place join.bodies join.next
          ≡ depth_join slots s.label s.place s.bodies (sit_fork slots (rules slots (body_of unit)) Finishes stands turning.placed.sits).next
      one = same_rule join stands is

      instant_same : is_instant (Cobegin join.label join.place join.bodies) ≡ is_instant (fork_stmt s)
      instant_same =
          sym (old_instant (is_instant (Cobegin join.label join.place join.bodies)) (ForkAt join.label join.place))
          ∙ ap (λ (x : Transition). is_old (age_asked x.condition)) one ∙ old_instant (is_instant (fork_stmt s)) (ForkAt s.label s.place)

      node_same : DepthJoinAt join.label join.place ≡ DepthJoinAt s.label s.place
      node_same = ap (λ (x : Transition). x.node) one

      ended_same : are_ended r.counters (needed slots join.label join.bodies) ≡ are_done branches
      ended_same = ap (λ (x : Transition). are_ended r.counters (needed_of x.condition)) one ∙ ends_of stands

      mark : MarkOf (rank i) r.marks s stood
      mark = mark_fork (rank i) r.marks stands marked

      may : MayEnd s stood branches
      may = live_fork w i (whole old (body_of unit)) stands turning.live

      of_deep : Exactly (is_due (rank i) (depth_join slots join.label join.place join.bodies join.next) r)
          ((are_done branches ≡ true) × (DepthJoinAt join.label join.place ≡ join_node stood s.label s.place))
      of_deep = (
        λ due.
            let done : are_done branches ≡ true =
            sym ended_same ∙ and_second (is_aged (rank i) r.marks (age_of (is_instant (Cobegin join.label join.place join.bodies))
            (ForkAt join.label join.place))) (are_ended r.counters (needed slots join.label join.bodies)) due in
            let aged : is_aged (rank i) r.marks (age_of (is_instant (fork_stmt s)) (ForkAt s.label s.place)) ≡ true =
            sym (ap (λ (x : Transition). is_aged (rank i) r.marks (age_asked x.condition)) one)
            ∙ and_first (is_aged (rank i) r.marks (age_of (is_instant (Cobegin join.label join.place join.bodies)) (ForkAt join.label join.place)))
            (are_ended r.counters (needed slots join.label join.bodies)) due in
            let has_stood : stood ≡ true =
            old_stood (rank i) r.marks (ForkAt s.label s.place) (is_instant (fork_stmt s)) stood mark (may done) aged in
            (done, node_same ∙ ap (λ b. join_node b s.label s.place) (sym has_stood)),
        λ there.
            and_from (is_aged (rank i) r.marks (age_of (is_instant (Cobegin join.label join.place join.bodies)) (ForkAt join.label join.place)))
            (are_ended r.counters (needed slots join.label join.bodies))
            (ap (λ (x : Transition). is_aged (rank i) r.marks (age_asked x.condition)) one
            ∙ stood_old (rank i) r.marks (ForkAt s.label s.place) (is_instant (fork_stmt s)) stood mark
            (deep_stood stood join.label s.label join.place s.place there.1))
            (ended_same ∙ there.0),
      )

      fork_same : ForkAt join.label join.place ≡ ForkAt s.label s.place
      fork_same = ap (λ n. ForkAt (label_of n) (place_of_node n)) node_same

      early_same : SurfaceJoinAt join.label join.place ≡ SurfaceJoinAt s.label s.place
      early_same = ap (λ n. SurfaceJoinAt (label_of n) (place_of_node n)) node_same

      of_early : is_instant (Cobegin join.label join.place join.bodies) ≡ true →
          Exactly (is_due (rank i) (early_rule slots join.label join.place join.bodies join.next) r)
          ((are_done branches ≡ true) × (SurfaceJoinAt join.label join.place ≡ join_node stood s.label s.place))
      of_early instant = (
        λ due.
            let done : are_done branches ≡ true =
            sym ended_same ∙ and_second (r.marks (rank i (ForkAt join.label join.place))) (are_ended r.counters (needed slots join.label join.bodies))
            due in
            let begun : not stood ≡ true =
            sym marked_same ∙ and_first (r.marks (rank i (ForkAt join.label join.place))) (are_ended r.counters (needed slots join.label join.bodies))
            due in
            (done, early_same ∙ ap (λ b. join_node b s.label s.place) (sym (sym (not_not stood) ∙ ap not begun))),
        λ there.
            and_from (r.marks (rank i (ForkAt join.label join.place))) (are_ended r.counters (needed slots join.label join.bodies))
            (marked_same ∙ ap not (early_stood stood join.label s.label join.place s.place there.1)) (ended_same ∙ there.0),
      )
        where
          marked_same : r.marks (rank i (ForkAt join.label join.place)) ≡ not stood
          marked_same = ap (λ n. r.marks (rank i n)) fork_same ∙ mark (sym instant_same ∙ instant)

      by_rule : (rule ≡ depth_join slots join.label join.place join.bodies join.next)
          ⊎ ((is_instant (Cobegin join.label join.place join.bodies) ≡ true) × (rule ≡ early_rule slots join.label join.place join.bodies join.next)) →
          Exactly (is_due (rank i) rule r) ((are_done branches ≡ true) × (rule.node ≡ join_node stood s.label s.place))
      by_rule (inl e) =
          subst (λ (x : Transition). Exactly (is_due (rank i) x r) ((are_done branches ≡ true) × (x.node ≡ join_node stood s.label s.place))) (sym e) of_deep
      by_rule (inr early) =
          subst (λ (x : Transition). Exactly (is_due (rank i) x r) ((are_done branches ≡ true) × (x.node ≡ join_node stood s.label s.place))) (sym early.1)
          (of_early early.0)

  -- where so many ends are held as are needed the `cobegin` stands
  held_stands : (join : Join slots unit rule) → are_ended r.counters (needed slots join.label join.bodies) ≡ true → StandsAs join.label c
  held_stands join ended =
      let end = needed_end slots r.counters join.label join.bodies ended in
      let spot : Spots unit (EndOf join.label end.branch) = join.spots (EndOf join.label end.branch) end.there in
      ⊎_elim (λ over. absurd (turning.laid.counted (EndOf join.label end.branch) spot (sym over.1)))
      (λ it. stands_so c join.label end.branch (subst (RestsAt c) (turning.laid.alone it.spot (EndOf join.label end.branch)
      (rests_there (Spots unit) (Nodes unit) c it.spot stemmed it.rests) spot
      (slot_is (slot_at slots it.spot) (slots.ending join.label end.branch) it.counter it.value)) it.rests))
      (rests slots (Spots unit) (Nodes unit) c Over (slots.ending join.label end.branch).counter (slots.ending join.label end.branch).value
      (turning.laid.counted (EndOf join.label end.branch) spot) stemmed
      (sym (held (slots.ending join.label end.branch).counter)
      ∙ eqb-true (r.counters (slots.ending join.label end.branch).counter) (slots.ending join.label end.branch).value end.held))

  due_ended : (join : Join slots unit rule) → is_due (rank i) rule r ≡ true → are_ended r.counters (needed slots join.label join.bodies) ≡ true
  due_ended join due = by_rule join.is
    where
      by_rule : (rule ≡ depth_join slots join.label join.place join.bodies join.next)
          ⊎ ((is_instant (Cobegin join.label join.place join.bodies) ≡ true) × (rule ≡ early_rule slots join.label join.place join.bodies join.next)) →
          are_ended r.counters (needed slots join.label join.bodies) ≡ true
      by_rule (inl e) =
          and_second (is_aged (rank i) r.marks (age_of (is_instant (Cobegin join.label join.place join.bodies)) (ForkAt join.label join.place)))
          (are_ended r.counters (needed slots join.label join.bodies)) (subst (λ (x : Transition). is_due (rank i) x r ≡ true) e due)
      by_rule (inr early) =
          and_second (r.marks (rank i (ForkAt join.label join.place))) (are_ended r.counters (needed slots join.label join.bodies))
          (subst (λ (x : Transition). is_due (rank i) x r ≡ true) early.1 due)

  join_is : (join : Join slots unit rule) → IsJoinNode rule.node × (label_of rule.node ≡ join.label)
  join_is join = by_rule join.is
    where
      by_rule : (rule ≡ depth_join slots join.label join.place join.bodies join.next)
          ⊎ ((is_instant (Cobegin join.label join.place join.bodies) ≡ true) × (rule ≡ early_rule slots join.label join.place join.bodies join.next)) →
          IsJoinNode rule.node × (label_of rule.node ≡ join.label)
      by_rule (inl e) = subst (λ (x : Transition). IsJoinNode x.node × (label_of x.node ≡ join.label)) (sym e) (tt, refl)
      by_rule (inr early) = subst (λ (x : Transition). IsJoinNode x.node × (label_of x.node ≡ join.label)) (sym early.1) (tt, refl)

  due_waits : Join slots unit rule → is_due (rank i) rule r ≡ true → Waits c None rule.node
  due_waits join due =
      let it = held_stands join (due_ended join due) in
      let there = (due_here join it.stands it.label).0 due in
      subst (Waits c None) (sym there.1) (waits_fork None it.stands there.0)

  waits_due : Join slots unit rule → Waits c None rule.node → is_due (rank i) rule r ≡ true
  waits_due join waits =
      let is = join_is join in
      let it = joins_at c None rule.node (λ n none. absurd none) is.0 waits in
      (due_here join it.stands (sym (join_label it.stood it.fork.label it.fork.place) ∙ sym (ap label_of it.is) ∙ is.1)).1 (it.done, it.is)

-- ---- numbers that were left

-- where two lists of counters tell the same of each end they tell the same of all that are needed
module _ (slots : Slots) (one other : ℕ → ℕ) (l : Label) where
  abbrev Alike : ℕ → Bodies → Type 0
  Alike k bodies = (j : ℕ) → Member (spots_in_each l k bodies) (EndOf l j) → is_at one (slots.ending l j) ≡ is_at other (slots.ending l j)

  later_alike : (k : ℕ) (weak : Bool) (body : Block) (rest : Bodies) → Alike k (BodyOf weak body rest) → Alike (suc k) rest
  later_alike k weak body rest same j there = same j (inr (right (spots_in body) (spots_in_each l (suc k) rest) (EndOf l j) there))

  some_alike : (k : ℕ) (bodies : Bodies) → Alike k bodies →
      list_any (is_at one) (endings slots l k bodies) ≡ list_any (is_at other) (endings slots l k bodies)
  some_alike k Last same = refl
  some_alike k (BodyOf weak body rest) same =
      ap₂ (λ a b. a || b) (same k (inl refl)) (some_alike (suc k) rest (later_alike k weak body rest same))

  all_alike : (k : ℕ) (bodies : Bodies) → Alike k bodies →
      list_all (is_at one) (strong_endings slots l k bodies) ≡ list_all (is_at other) (strong_endings slots l k bodies)
  all_alike k Last same = refl
  all_alike k (BodyOf true body rest) same = all_alike (suc k) rest (later_alike k true body rest same)
  all_alike k (BodyOf false body rest) same =
      ap₂ (λ a b. a && b) (same k (inl refl)) (all_alike (suc k) rest (later_alike k false body rest same))

  ended_alike : (bodies : Bodies) → Alike 0 bodies → are_ended one (needed slots l bodies) ≡ are_ended other (needed slots l bodies)
  ended_alike bodies same = by_strong (some_strong bodies)
    where
      by_strong : (b : Bool) → are_ended one (needed_by slots l bodies b) ≡ are_ended other (needed_by slots l bodies b)
      by_strong true = all_alike 0 bodies same
      by_strong false = some_alike 0 bodies same

rest_is_no_end : (l m : Label) (k : ℕ) → RestOf l ≡ EndOf m k → ⊥
rest_is_no_end l m k e = cc

module _ (linger : CountersLinger) (slots : Slots) (unit : UnitDef) (c : Tree) (r : Registers) (laid : SlotsAreDistinct slots (plain_body unit.body))
    (may : CountersMayBe slots (plain_body unit.body) r.counters c) where
  -- the registers with the numbers of the tree in their counters
  abbrev exactly : Registers
  exactly = record { counters = λ j. numbers_of slots c Over j; rested = r.rested; flags = r.flags; marks = r.marks; over = r.over }

  -- what a counter still holds of a place that was left is the number of no end
  end_alike : (l : Label) (k : ℕ) → Spots unit (EndOf l k) → is_at r.counters (slots.ending l k) ≡ is_at exactly.counters (slots.ending l k)
  end_alike l k spot =
      ⊎_elim (λ is. ap (λ x. nat_eq x (slots.ending l k).value) is)
      (λ left. false_from_ne_true (is_at r.counters (slots.ending l k))
      (λ held. no_end left.1 (eqb-true (r.counters (slots.ending l k).counter) (slots.ending l k).value held))
      ∙ sym (false_from_ne_true (is_at exactly.counters (slots.ending l k))
      (λ held. laid.counted (EndOf l k) spot (sym (eqb-true (exactly.counters (slots.ending l k).counter) (slots.ending l k).value held) ∙ left.0))))
      (linger.left slots (body_of unit) r.counters c may (slots.ending l k).counter)
    where
      no_end : (rest : RestsThere slots (body_of unit) (slots.ending l k).counter (r.counters (slots.ending l k).counter)) →
          r.counters (slots.ending l k).counter ≡ (slots.ending l k).value → ⊥
      no_end rest held =
          rest_is_no_end rest.label l k (laid.alone (RestOf rest.label) (EndOf l k) rest.there spot
          (slot_is (slots.rest rest.label) (slots.ending l k) (ap (λ x. x.counter) rest.is) (ap (λ x. x.value) rest.is ∙ held)))

  due_alike : (number : Node → ℕ) (rule : Transition) → Join slots unit rule → is_due number rule r ≡ is_due number rule exactly
  due_alike number rule join = by_rule join.is
    where
      ended : are_ended r.counters (needed slots join.label join.bodies) ≡ are_ended exactly.counters (needed slots join.label join.bodies)
      ended =
          ended_alike slots r.counters exactly.counters join.label join.bodies
          (λ k there. end_alike join.label k (join.spots (EndOf join.label k) there))

      by_rule : (rule ≡ depth_join slots join.label join.place join.bodies join.next)
          ⊎ ((is_instant (Cobegin join.label join.place join.bodies) ≡ true) × (rule ≡ early_rule slots join.label join.place join.bodies join.next)) →
          is_due number rule r ≡ is_due number rule exactly
      by_rule (inl e) =
          subst (λ (x : Transition). is_due number x r ≡ is_due number x exactly) (sym e)
          (ap (λ b. is_aged number r.marks (age_of (is_instant (Cobegin join.label join.place join.bodies)) (ForkAt join.label join.place)) && b) ended)
      by_rule (inr early) =
          subst (λ (x : Transition). is_due number x r ≡ is_due number x exactly) (sym early.1)
          (ap (λ b. is_aged number r.marks (IsNew (ForkAt join.label join.place)) && b) ended)

pub joins_wait : CountersLinger → JoinsWait
joins_wait linger w rank i slots unit stood c rule r placed turning stemmed may marked join =
    let with_numbers : Registers = exactly linger slots unit c r turning.laid may in
    let the = the_join w rank i slots unit stood c rule with_numbers placed turning stemmed (λ j. refl) marked join in
    let same = due_alike linger slots unit c r turning.laid may (rank i) rule the in (
      λ due. due_waits w rank i slots unit stood c rule with_numbers placed turning stemmed (λ j. refl) marked the (sym same ∙ due),
      λ waits. same ∙ waits_due w rank i slots unit stood c rule with_numbers placed turning stemmed (λ j. refl) marked the waits,
    )

-- whatever is asked it is one of the three
by_sort : {A : Type 0} (condition : Condition) → (IsFlagged condition → A) → (IsResume condition → A) → (IsJoin condition → A) → A
by_sort Flagged one two three = one tt
by_sort (Rested slot) one two three = two tt
by_sort (RestedIn slots) one two three = two tt
by_sort (Ended age what) one two three = three tt

pub rules_wait : CountersLinger → RulesWait
rules_wait linger w rank i slots unit stood k c rule r placed turning stemmed keeps ahead =
    by_sort rule.condition (λ flag. keeps.flags rule turning.there flag ahead) (λ resume. keeps.resumes rule turning.there resume ahead)
    (λ join. joins_wait linger w rank i slots unit stood c rule r placed turning stemmed keeps.counters keeps.marks join)
