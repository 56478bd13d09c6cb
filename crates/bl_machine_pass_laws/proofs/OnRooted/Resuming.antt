-- As a pass begins over a tree that rested, what is due is what sleeps.
use Rattle.std.proofs.Common.{◌≡◌, ◌⊎◌, inl, inr, ℕ, zero, suc, ◌||◌, Bool, true, false, List, [], ◌∷◌, ◌++◌, map, Some, None, refl, ap, sym}
use Rattle.std.proofs.Common.{◌∙◌, subst, arith}
use Rattle.std.proofs.lemmas.Bool.{eq-eqb, eqb-true}
use Rattle.std.specs.List.{list_any}
use Rattle.std.specs.Prelude.{Contains, slice_get}
use Rattle.std.proofs.lemmas.Bool.{or_right}
use Rattle.bl_tree.proofs.Basics.{same_some}
use Rattle.bl_tree.specs.declared.tree.Unit.{Unit as UnitDef}
use Rattle.bl_tree.proofs.FirstLemmas.{In, contains_in, in_contains}
use Rattle.bl_graph_nodes.specs.Laws.{EachOnce, NodesDiffer}
use Rattle.bl_graph_nodes.specs.Nodes.{CheckAt, DepthEndAt, DepthJoinAt, EnterAt, ForkAt, HeadAt, Node, PauseAt, ResumeAt, StartAt, SurfaceEndAt}
use Rattle.bl_graph_nodes.specs.Nodes.{SurfaceJoinAt, TestAt, arguments_of}
use Rattle.bl_graph_nodes.specs.Nodes.{are_instant, is_instant, nodes_in, nodes_in_each, nodes_of, where_so}
use Rattle.bl_graph_nodes.specs.Plain.{Act, Again, Await, Block, Bodies, Body as BodyOf, Cobegin, Done, If, Label, Last, Plain, Repeat, Run as RunOf, Then}
use Rattle.bl_graph_nodes.specs.Plain.{Until, When, While, plain_body}
use Rattle.bl_ctree.specs.Instances.{Setting}
use Rattle.bl_ctree_laws.specs.Trees.{Tree, is_nil, is_settled, woken}
use Rattle.bl_ctree_laws_traces.specs.Progress.FitsGraph.{FitsGraph}
use Rattle.bl_ctree_laws_traces.specs.Progress.Places.{whole}
use Rattle.bl_ctree_laws_traces.proofs.OnBounded.Lists.{among_either}
use Rattle.bl_machine.specs.declared.slots.Slot.{Slot}
use Rattle.bl_machine.specs.Uses.{Slots, uses_in}
use Rattle.bl_machine_laws.specs.Numbers.Numbers.{Over, numbers_of}
use Rattle.bl_machine_laws.specs.Numbers.Sleeping.{SleepersWait}
use Rattle.bl_machine_laws.specs.Numbers.Waiting.{Sleeps, Waits}
use Rattle.bl_machine_laws.specs.Waiting.Waking.{WokenRested}
use Rattle.bl_machine_pass.specs.SlotLayout.{EndOf, RestOf, SlotsAreDistinct, Spot, slot_at, spots_in, spots_in_each, spots_of}
use Rattle.bl_machine_pass.specs.Registers.{due_by, is_at, is_due, started}
use Rattle.bl_machine_pass.specs.Transitions.{Change, Condition, Ended, Finishes, Flagged, Rested, RestedIn, SetsCounter, SetsFlag, Transition, body_ends, enter}
use Rattle.bl_machine_pass.specs.Transitions.{ClearsBoth, counters_in, fires, rests_in}
use Rattle.bl_machine_pass.specs.Transitions.{once as each_once}
use Rattle.bl_machine_pass.specs.Transitions.{IsNew, age_of, flagged, joins, rule_where, rules, rules_in, rules_in_each, rules_of}
use Rattle.bl_machine_pass_laws.specs.Turns.Invariant.{Exactly, IsResume}
use Rattle.bl_machine_pass_laws.specs.Turns.Laws.{Placed}
use Rattle.bl_machine_pass_laws.specs.Turns.Rooted.{AsksOf, Rooted, in_none}
use Rattle.bl_machine_pass_laws.specs.Spots.{Has, SpotsAreDistinct, SpotsDiffer}
use Rattle.bl_machine_pass_laws.proofs.OnRooted.Covers.{all_ask_from, differ_apart, differ_left, differ_right, has_left, has_right, in_where}
use Rattle.bl_machine_pass_laws.proofs.OnRooted.Resting.{rests_at, resting, shown_by}
use Rattle.bl_machine_pass_laws.proofs.OnRooted.Rooting.{has_contains}
use Rattle.bl_machine_pass_laws.proofs.OnRooted.Sleeping.{Slept, checked, resting_inside, sleeper, slept}

-- ---- one rule for each node, and for each number that is asked

-- the number at which a rule asks whether the instance rested
rested_is : (a b : Slot) → Rested a ≡ Rested b → a ≡ b
rested_is a b is = cc

module _ (slots : Slots) where
  -- a rule asks for the number of an `await` or a `run` among these places
  pub record FromRest (spots : List Spot) (slot : Slot) : Type 0 where
    pub label : Label
    pub there : Has spots (RestOf label)
    pub is : slots.rest label ≡ slot

  rest_left : (xs ys : List Spot) (slot : Slot) → FromRest xs slot → FromRest (xs ++ ys) slot
  rest_left xs ys slot from = record { label = from.label; there = has_left xs ys (RestOf from.label) from.there; is = from.is }

  rest_right : (xs ys : List Spot) (slot : Slot) → FromRest ys slot → FromRest (xs ++ ys) slot
  rest_right xs ys slot from = record { label = from.label; there = has_right xs ys (RestOf from.label) from.there; is = from.is }

  rest_more : (x : Spot) (xs : List Spot) (slot : Slot) → FromRest xs slot → FromRest (x ∷ xs) slot
  rest_more x xs slot from = record { label = from.label; there = inr from.there; is = from.is }

  other_asked : (rule r : Transition) (slot : Slot) → rule ≡ r → rule.condition ≡ Rested slot → r.condition ≡ Rested slot
  other_asked rule r slot is asked = ap (λ x. x.condition) (sym is) ∙ asked

  mutual
    rest_from : (s : Plain) (next : Change) (rule : Transition) (slot : Slot) → In rule (rules_of slots s next) → rule.condition ≡ Rested slot →
        FromRest (spots_of s) slot
    rest_from (Act l s) next rule slot (inl is) asked = absurd (cc (other_asked rule _ slot is asked))
    rest_from (Act l s) next rule slot (inr other) asked = absurd other
    rest_from (Await l at e) next rule slot (inl is) asked = absurd (cc (other_asked rule _ slot is asked))
    rest_from (Await l at e) next rule slot (inr (inl is)) asked =
        record { label = l; there = inl refl; is = rested_is (slots.rest l) slot (other_asked rule _ slot is asked) }
    rest_from (Await l at e) next rule slot (inr (inr other)) asked = absurd other
    rest_from (RunOf l at target a inputs outputs) next rule slot (inl is) asked = absurd (cc (other_asked rule _ slot is asked))
    rest_from (RunOf l at target a inputs outputs) next rule slot (inr (inl is)) asked =
        record { label = l; there = inl refl; is = rested_is (slots.rest l) slot (other_asked rule _ slot is asked) }
    rest_from (RunOf l at target a inputs outputs) next rule slot (inr (inr other)) asked = absurd other
    rest_from (If l at e body other) next rule slot (inl is) asked = absurd (cc (other_asked rule _ slot is asked))
    rest_from (If l at e body other) next rule slot (inr h) asked =
        elim (among_either rule (rules_in slots body next) (rules_in slots other next) h) [
          | inl a ↦ rest_left (spots_in body) (spots_in other) slot (all_rest_from body next rule slot a asked)
          | inr b ↦ rest_right (spots_in body) (spots_in other) slot (all_rest_from other next rule slot b asked)
        ]
    rest_from (Cobegin l at bodies) next rule slot (inl is) asked = absurd (cc (other_asked rule _ slot is asked))
    rest_from (Cobegin l at bodies) next rule slot (inr h) asked =
        elim (in_where (is_instant (Cobegin l at bodies)) _ _ rule h) [
          | inl is ↦ absurd (cc (other_asked rule _ slot is asked))
          | inr (inl is) ↦ absurd (cc (other_asked rule _ slot is asked))
          | inr (inr more) ↦ each_rest_from l 0 bodies rule slot more asked
        ]
    rest_from (When l at guard e body) next rule slot (inl is) asked = absurd (cc (other_asked rule _ slot is asked))
    rest_from (When l at guard e body) next rule slot (inr h) asked =
        elim (in_where (are_instant body) _ _ rule h) [
          | inl is ↦ absurd (cc (other_asked rule _ slot is asked))
          | inr (inl is) ↦ absurd (cc (other_asked rule _ slot is asked))
          | inr (inr (inl is)) ↦ absurd (cc (other_asked rule _ slot is asked))
          | inr (inr (inr more)) ↦ all_rest_from body (body_ends l at body) rule slot more asked
        ]
    rest_from (Repeat l at body) next rule slot (inl is) asked = absurd (cc (other_asked rule _ slot is asked))
    rest_from (Repeat l at body) next rule slot (inr h) asked = all_rest_from body _ rule slot h asked
    rest_from (Until l at body e) next rule slot (inl is) asked = absurd (cc (other_asked rule _ slot is asked))
    rest_from (Until l at body e) next rule slot (inr (inl is)) asked = absurd (cc (other_asked rule _ slot is asked))
    rest_from (Until l at body e) next rule slot (inr (inr h)) asked = all_rest_from body _ rule slot h asked
    rest_from (While l at e body) next rule slot (inl is) asked = absurd (cc (other_asked rule _ slot is asked))
    rest_from (While l at e body) next rule slot (inr h) asked = all_rest_from body _ rule slot h asked
    rest_from (Again l at body e) next rule slot (inl is) asked = absurd (cc (other_asked rule _ slot is asked))
    rest_from (Again l at body e) next rule slot (inr (inl is)) asked = absurd (cc (other_asked rule _ slot is asked))
    rest_from (Again l at body e) next rule slot (inr (inr h)) asked = all_rest_from body _ rule slot h asked

    pub all_rest_from : (body : Block) (next : Change) (rule : Transition) (slot : Slot) → In rule (rules_in slots body next) → rule.condition ≡ Rested slot →
        FromRest (spots_in body) slot
    all_rest_from Done next rule slot h asked = absurd h
    all_rest_from (Then s rest) next rule slot h asked =
        elim (among_either rule (rules_of slots s (enter rest next)) (rules_in slots rest next) h) [
          | inl a ↦ rest_left (spots_of s) (spots_in rest) slot (rest_from s (enter rest next) rule slot a asked)
          | inr b ↦ rest_right (spots_of s) (spots_in rest) slot (all_rest_from rest next rule slot b asked)
        ]

    each_rest_from : (l : Label) (k : ℕ) (bodies : Bodies) (rule : Transition) (slot : Slot) → In rule (rules_in_each slots l k bodies) →
        rule.condition ≡ Rested slot → FromRest (spots_in_each l k bodies) slot
    each_rest_from l k Last rule slot h asked = absurd h
    each_rest_from l k (BodyOf weak body rest) rule slot h asked =
        rest_more (EndOf l k) (spots_in body ++ spots_in_each l (suc k) rest) slot
        (elim (among_either rule (rules_in slots body (SetsCounter (slots.ending l k))) (rules_in_each slots l (suc k) rest) h) [
          | inl a ↦ rest_left (spots_in body) (spots_in_each l (suc k) rest) slot (all_rest_from body (SetsCounter (slots.ending l k)) rule slot a asked)
          | inr b ↦ rest_right (spots_in body) (spots_in_each l (suc k) rest) slot (each_rest_from l (suc k) rest rule slot b asked)
        ])

  module _ (whole : List Spot) (alone : (p q : Spot) → Has whole p → Has whole q → slot_at slots p ≡ slot_at slots q → p ≡ q) where
    abbrev Inside : List Spot → Type 0
    Inside spots = (p : Spot) → Has spots p → Has whole p

    -- no number is asked for in two parts
    parted : {A : Type 0} (xs ys : List Spot) (slot : Slot) → SpotsAreDistinct (xs ++ ys) → Inside (xs ++ ys) → FromRest xs slot → FromRest ys slot → A
    parted xs ys slot differ inside one two =
        absurd (differ_apart xs ys differ (RestOf one.label) one.there (subst (Has ys)
        (alone (RestOf two.label) (RestOf one.label) (inside (RestOf two.label) (has_right xs ys (RestOf two.label) two.there))
        (inside (RestOf one.label) (has_left xs ys (RestOf one.label) one.there)) (two.is ∙ sym one.is)) two.there))

    abbrev One : List Transition → Type 0
    One rules = (one two : Transition) (slot : Slot) → In one rules → In two rules → one.condition ≡ Rested slot → two.condition ≡ Rested slot → one ≡ two

    one_of_two : (xs ys : List Spot) (rs ts : List Transition) → SpotsAreDistinct (xs ++ ys) → Inside (xs ++ ys) →
        ((rule : Transition) (slot : Slot) → In rule rs → rule.condition ≡ Rested slot → FromRest xs slot) →
        ((rule : Transition) (slot : Slot) → In rule ts → rule.condition ≡ Rested slot → FromRest ys slot) → One rs → One ts → One (rs ++ ts)
    one_of_two xs ys rs ts differ inside first second left right one two slot a b asked asked' =
        elim (among_either one rs ts a) [
          | inl a ↦ elim (among_either two rs ts b) [
            | inl b ↦ left one two slot a b asked asked'
            | inr b ↦ parted xs ys slot differ inside (first one slot a asked) (second two slot b asked')
          ]
          | inr a ↦ elim (among_either two rs ts b) [
            | inl b ↦ parted xs ys slot differ inside (first two slot b asked') (second one slot a asked)
            | inr b ↦ right one two slot a b asked asked'
          ]
        ]

    -- rules that ask for no number, before others
    past_one : (r : Transition) (rules : List Transition) → ((slot : Slot) → r.condition ≡ Rested slot → ⊥) → One rules → One (r ∷ rules)
    past_one r rules none one a b slot (inl is) h asked asked' = absurd (none slot (other_asked a r slot is asked))
    past_one r rules none one a b slot (inr h) (inl is) asked asked' = absurd (none slot (other_asked b r slot is asked'))
    past_one r rules none one a b slot (inr h) (inr h') asked asked' = one a b slot h h' asked asked'

    past_some : (test : Bool) (r : Transition) (rules : List Transition) → ((slot : Slot) → r.condition ≡ Rested slot → ⊥) → One rules →
        One (rule_where test r ++ rules)
    past_some true r rules none one = past_one r rules none one
    past_some false r rules none one = one

    -- one rule alone
    only : (r : Transition) → One (r ∷ [])
    only r a b slot (inl is) (inl is') asked asked' = is ∙ sym is'
    only r a b slot (inl is) (inr other) asked asked' = absurd other
    only r a b slot (inr other) h asked asked' = absurd other

    no_rule : One []
    no_rule a b slot h h' asked asked' = absurd h

    mutual
      one_of : (s : Plain) (next : Change) → SpotsAreDistinct (spots_of s) → Inside (spots_of s) → One (rules_of slots s next)
      one_of (Act l s) next differ inside = past_one _ [] (λ slot asked. cc) no_rule
      one_of (Await l at e) next differ inside =
          let test : Transition = record {
            node = TestAt l at e;
            condition = Rested (slots.rest l);
            on_true = next ∷ [];
            on_false = [];
          } in
          past_one (flagged (PauseAt l at) (SetsCounter (slots.rest l) ∷ [])) (test ∷ []) (λ slot asked. cc) (only test)
      one_of (RunOf l at target a inputs outputs) next differ inside =
          let resume : Transition = record {
            node = ResumeAt l at (arguments_of target inputs outputs);
            condition = Rested (slots.rest l);
            on_true = next ∷ [];
            on_false = [];
          } in
          past_one (flagged (EnterAt l at (arguments_of target inputs outputs)) (SetsCounter (slots.rest l) ∷ [])) (resume ∷ []) (λ slot asked. cc)
          (only resume)
      one_of (If l at e body other) next differ inside =
          past_one _ _ (λ slot asked. cc)
          (one_of_two (spots_in body) (spots_in other) (rules_in slots body next) (rules_in slots other next) differ inside
          (all_rest_from body next) (all_rest_from other next)
          (one_in body next (differ_left (spots_in body) (spots_in other) differ) (λ p h. inside p (has_left (spots_in body) (spots_in other) p h)))
          (one_in other next (differ_right (spots_in body) (spots_in other) differ) (λ p h. inside p (has_right (spots_in body) (spots_in other) p h))))
      one_of (Cobegin l at bodies) next differ inside =
          past_one _ _ (λ slot asked. cc) (past_some (is_instant (Cobegin l at bodies))
          (joins slots l bodies (IsNew (ForkAt l at)) (SurfaceJoinAt l at) next)
          (joins slots l bodies (age_of (is_instant (Cobegin l at bodies)) (ForkAt l at)) (DepthJoinAt l at) next ∷ rules_in_each slots l 0 bodies)
          (λ slot asked. cc)
          (past_one _ _ (λ slot asked. cc) (one_each l 0 bodies differ inside)))
      one_of (When l at guard e body) next differ inside =
          let check : Transition = record {
            node = CheckAt l at e;
            condition = RestedIn (rests_in slots body);
            on_true = map ClearsBoth (each_once (counters_in slots body)) ++ fires guard l at body next ∷ [];
            on_false = [];
          } in
          let depth : Transition = flagged (DepthEndAt l at) (next ∷ []) in
          let inner : List Transition = rules_in slots body (body_ends l at body) in
          past_one _ _ (λ slot asked. cc)
          (past_some (are_instant body) (flagged (SurfaceEndAt l at) (next ∷ [])) (check ∷ depth ∷ inner) (λ slot asked. cc)
          (past_one check (depth ∷ inner) (λ slot asked. cc)
          (past_one depth inner (λ slot asked. cc) (one_in body (body_ends l at body) differ inside))))
      one_of (Repeat l at body) next differ inside = past_one _ _ (λ slot asked. cc) (one_in body _ differ inside)
      one_of (Until l at body e) next differ inside =
          past_one (flagged (HeadAt l at) (enter body (SetsFlag (TestAt l at e)) ∷ []))
          (record { node = TestAt l at e; condition = Flagged; on_true = next ∷ []; on_false = SetsFlag (HeadAt l at) ∷ [] } ∷ rules_in slots body
          (SetsFlag (TestAt l at e)))
          (λ slot asked. cc)
          (past_one (record { node = TestAt l at e; condition = Flagged; on_true = next ∷ []; on_false = SetsFlag (HeadAt l at) ∷ [] })
          (rules_in slots body (SetsFlag (TestAt l at e))) (λ slot asked. cc) (one_in body (SetsFlag (TestAt l at e)) differ inside))
      one_of (While l at e body) next differ inside = past_one _ _ (λ slot asked. cc) (one_in body _ differ inside)
      one_of (Again l at body e) next differ inside =
          past_one (flagged (HeadAt l at) (enter body (SetsFlag (TestAt l at e)) ∷ []))
          (record { node = TestAt l at e; condition = Flagged; on_true = next ∷ []; on_false = SetsFlag (HeadAt l at) ∷ [] } ∷ rules_in slots body
          (SetsFlag (TestAt l at e)))
          (λ slot asked. cc)
          (past_one (record { node = TestAt l at e; condition = Flagged; on_true = next ∷ []; on_false = SetsFlag (HeadAt l at) ∷ [] })
          (rules_in slots body (SetsFlag (TestAt l at e))) (λ slot asked. cc) (one_in body (SetsFlag (TestAt l at e)) differ inside))

      pub one_in : (body : Block) (next : Change) → SpotsAreDistinct (spots_in body) → Inside (spots_in body) → One (rules_in slots body next)
      one_in Done next differ inside = no_rule
      one_in (Then s rest) next differ inside =
          one_of_two (spots_of s) (spots_in rest) (rules_of slots s (enter rest next)) (rules_in slots rest next) differ inside
          (rest_from s (enter rest next)) (all_rest_from rest next)
          (one_of s (enter rest next) (differ_left (spots_of s) (spots_in rest) differ) (λ p h. inside p (has_left (spots_of s) (spots_in rest) p h)))
          (one_in rest next (differ_right (spots_of s) (spots_in rest) differ) (λ p h. inside p (has_right (spots_of s) (spots_in rest) p h)))

      one_each : (l : Label) (k : ℕ) (bodies : Bodies) → SpotsAreDistinct (spots_in_each l k bodies) → Inside (spots_in_each l k bodies) →
          One (rules_in_each slots l k bodies)
      one_each l k Last differ inside = no_rule
      one_each l k (BodyOf weak body rest) differ inside =
          one_of_two (spots_in body) (spots_in_each l (suc k) rest) (rules_in slots body (SetsCounter (slots.ending l k))) (rules_in_each slots l (suc k) rest)
          differ.1 (λ p h. inside p (inr h)) (all_rest_from body (SetsCounter (slots.ending l k))) (each_rest_from l (suc k) rest)
          (one_in body (SetsCounter (slots.ending l k)) (differ_left (spots_in body) (spots_in_each l (suc k) rest) differ.1)
          (λ p h. inside p (inr (has_left (spots_in body) (spots_in_each l (suc k) rest) p h))))
          (one_each l (suc k) rest (differ_right (spots_in body) (spots_in_each l (suc k) rest) differ.1)
          (λ p h. inside p (inr (has_right (spots_in body) (spots_in_each l (suc k) rest) p h))))

-- ---- lists

contains_has : (xs : List Spot) (p : Spot) → Contains xs p → Has xs p
contains_has [] p (k, below, is) = absurd (omega arith)
contains_has (x ∷ xs) p (zero, below, is) = inl (sym is)
contains_has (x ∷ xs) p (suc k, below, is) = inr (contains_has xs p (k, omega arith, is))

-- ---- rules and nodes

map_append : (rs ts : List Transition) → map (λ rule. rule.node) (rs ++ ts) ≡ map (λ rule. rule.node) rs ++ map (λ rule. rule.node) ts
map_append [] ts = refl
map_append (r ∷ rs) ts = ap (λ xs. r.node ∷ xs) (map_append rs ts)

of_where : (test : Bool) (r : Transition) (n : Node) (rules : List Transition) (nodes : List Node) → r.node ≡ n → map (λ rule. rule.node) rules ≡ nodes →
    map (λ rule. rule.node) (rule_where test r ++ rules) ≡ where_so test n ++ nodes
of_where true r n rules nodes is rest = cc
of_where false r n rules nodes is rest = rest

joined : (rs ts : List Transition) (xs ys : List Node) → map (λ rule. rule.node) rs ≡ xs → map (λ rule. rule.node) ts ≡ ys →
    map (λ rule. rule.node) (rs ++ ts) ≡ xs ++ ys
joined rs ts xs ys one two = map_append rs ts ∙ ap (λ x. x ++ map (λ rule. rule.node) ts) one ∙ ap (λ y. xs ++ y) two

module _ (slots : Slots) where
  mutual
    named_of : (s : Plain) (next : Change) → map (λ rule. rule.node) (rules_of slots s next) ≡ nodes_of s
    named_of (Act l s) next = refl
    named_of (Await l at e) next = refl
    named_of (RunOf l at target a inputs outputs) next = refl
    named_of (If l at e body other) next =
        ap (λ xs. TestAt l at e ∷ xs) (joined (rules_in slots body next) (rules_in slots other next) (nodes_in body) (nodes_in other)
        (named_in body next) (named_in other next))
    named_of (Cobegin l at bodies) next =
        ap (λ xs. ForkAt l at ∷ xs) (of_where (is_instant (Cobegin l at bodies)) _ (SurfaceJoinAt l at) _ (DepthJoinAt l at ∷ nodes_in_each bodies) refl
        (ap (λ xs. DepthJoinAt l at ∷ xs) (named_each l 0 bodies)))
    named_of (When l at guard e body) next =
        ap (λ xs. StartAt l at ∷ xs) (of_where (are_instant body) _ (SurfaceEndAt l at) _ (CheckAt l at e ∷ DepthEndAt l at ∷ nodes_in body) refl
        (ap (λ xs. CheckAt l at e ∷ DepthEndAt l at ∷ xs) (named_in body (body_ends l at body))))
    named_of (Repeat l at body) next = ap (λ xs. HeadAt l at ∷ xs) (named_in body (SetsFlag (HeadAt l at)))
    named_of (Until l at body e) next = ap (λ xs. HeadAt l at ∷ TestAt l at e ∷ xs) (named_in body (SetsFlag (TestAt l at e)))
    named_of (While l at e body) next = ap (λ xs. TestAt l at e ∷ xs) (named_in body (SetsFlag (TestAt l at e)))
    named_of (Again l at body e) next = ap (λ xs. HeadAt l at ∷ TestAt l at e ∷ xs) (named_in body (SetsFlag (TestAt l at e)))

    named_in : (body : Block) (next : Change) → map (λ rule. rule.node) (rules_in slots body next) ≡ nodes_in body
    named_in Done next = refl
    named_in (Then s rest) next =
        joined (rules_of slots s (enter rest next)) (rules_in slots rest next) (nodes_of s) (nodes_in rest) (named_of s (enter rest next))
        (named_in rest next)

    named_each : (l : Label) (k : ℕ) (bodies : Bodies) → map (λ rule. rule.node) (rules_in_each slots l k bodies) ≡ nodes_in_each bodies
    named_each l k Last = refl
    named_each l k (BodyOf weak body rest) =
        joined (rules_in slots body (SetsCounter (slots.ending l k))) (rules_in_each slots l (suc k) rest) (nodes_in body) (nodes_in_each rest)
        (named_in body (SetsCounter (slots.ending l k))) (named_each l (suc k) rest)

record AtIndex (all : List Transition) (rule : Transition) : Type 0 where
  index : ℕ
  is : slice_get all index ≡ Some rule

at_index : (all : List Transition) (rule : Transition) → In rule all → AtIndex all rule
at_index [] rule h = absurd h
at_index (r ∷ all) rule (inl is) = record { index = 0; is = ap Some (sym is) }
at_index (r ∷ all) rule (inr h) = let one = at_index all rule h in record { index = suc one.index; is = one.is }

node_at : (all : List Transition) (k : ℕ) (rule : Transition) → slice_get all k ≡ Some rule → slice_get (map (λ rule. rule.node) all) k ≡ Some rule.node
node_at [] k rule is = absurd cc
node_at (r ∷ all) zero rule is = ap (λ x. Some x.node) (same_some r rule is)
node_at (r ∷ all) (suc k) rule is = node_at all k rule is

-- rules of one node are one
one_rule : (all : List Transition) → EachOnce (map (λ rule. rule.node) all) → (one two : Transition) → In one all → In two all → one.node
    ≡ two.node → one ≡ two
one_rule all once one two a b same =
    let first = at_index all one a in let second = at_index all two b in
    let k : first.index ≡ second.index =
    once first.index second.index two.node (node_at all first.index one first.is ∙ ap Some same) (node_at all second.index two second.is) in
    same_some one two (sym first.is ∙ ap (slice_get all) k ∙ second.is)

-- ---- what is due

abbrev pub slot_of : ℕ → ℕ → Slot
slot_of counter value = record { counter = counter; value = value }

pub slot_is : (a b : Slot) → a.counter ≡ b.counter → a.value ≡ b.value → a ≡ b
slot_is a b counter value =
    ap (λ (x : ℕ). slot_of x a.value) counter ∙ ap (λ (y : ℕ). slot_of b.counter y) value

record Holding (counters : ℕ → ℕ) (slots : List Slot) : Type 0 where
  slot : Slot
  there : In slot slots
  holds : is_at counters slot ≡ true

holding_by : (counters : ℕ → ℕ) (slot : Slot) (rest : List Slot) (b : Bool) → is_at counters slot ≡ b →
    (is_at counters slot ≡ false → Holding counters rest) → Holding counters (slot ∷ rest)
holding_by counters slot rest true e more = record { slot = slot; there = inl refl; holds = e }
holding_by counters slot rest false e more =
    let one = more e in record { slot = one.slot; there = inr one.there; holds = one.holds }

some_holds : (counters : ℕ → ℕ) (slots : List Slot) → list_any (is_at counters) slots ≡ true → Holding counters slots
some_holds counters [] h = absurd cc
some_holds counters (slot ∷ rest) h =
    holding_by counters slot rest (is_at counters slot) refl
    (λ e. some_holds counters rest (ap (λ b. b || list_any (is_at counters) rest) (sym e) ∙ h))

holds_some : (counters : ℕ → ℕ) (slots : List Slot) (slot : Slot) → In slot slots → is_at counters slot ≡ true →
    list_any (is_at counters) slots ≡ true
holds_some counters [] slot h e = absurd h
holds_some counters (x ∷ rest) slot (inl is) e = ap (λ b. b || list_any (is_at counters) rest) (ap (is_at counters) (sym is) ∙ e)
holds_some counters (x ∷ rest) slot (inr h) e = or_right (is_at counters x) (list_any (is_at counters) rest) (holds_some counters rest slot h e)

module _ (rested : WokenRested) (waits : SleepersWait) (differ : SpotsDiffer) (once : NodesDiffer) (w : Setting) (number : Node → ℕ) (i : ℕ)
    (slots : Slots) (unit : UnitDef) (stood : Bool) (c : Tree) (counters : ℕ → ℕ) (flags : ℕ → Bool)
    (live : FitsGraph w i c (whole stood (plain_body unit.body))) (laid : SlotsAreDistinct slots (plain_body unit.body)) (placed : Placed slots (plain_body unit.body) c)
    (rooted : Rooted slots (rules slots (plain_body unit.body)) (in_none (plain_body unit.body)) c) (settled : is_settled c ≡ true)
    (unended : is_nil c ≡ false) (holds : (j : ℕ) → counters j ≡ numbers_of slots c Over j) (rule : Transition)
    (there : Contains (rules slots (plain_body unit.body)) rule) where
  abbrev body : Block
  body = plain_body unit.body

  abbrev all : List Transition
  all = rules slots body

  here : In rule all
  here = contains_in rule all there

  alone : (p q : Spot) → Has (spots_in body) p → Has (spots_in body) q → slot_at slots p ≡ slot_at slots q → p ≡ q
  alone p q one two same = laid.alone p q (has_contains (spots_in body) p one) (has_contains (spots_in body) q two) same

  -- a number of the body that a counter holds is that of a place at which the tree rests
  rests_there : (slot : Slot) (q : Spot) → Has (spots_in body) q → slot_at slots q ≡ slot → is_at counters slot ≡ true →
      (p : Spot) × Has (resting c) p × (slot_at slots p ≡ slot)
  rests_there slot q there is due =
      let value : numbers_of slots c Over slot.counter ≡ slot.value = sym (holds slot.counter) ∙ eqb-true (counters slot.counter) slot.value due in
      let some = shown_by slots w i c (whole stood body) live unended Over slot.counter
      (λ none. laid.counted q (has_contains (spots_in body) q there) (ap (λ x. x.value) is ∙ sym value ∙ none)) in
      (some.spot, some.there, slot_is (slot_at slots some.spot) slot some.counter (some.value ∙ value))

  -- and the other way round
  rests_here : (p : Spot) → Has (resting c) p → is_at counters (slot_at slots p) ≡ true
  rests_here p h =
      eq-eqb (counters (slot_at slots p).counter) (slot_at slots p).value
      (holds (slot_at slots p).counter ∙ rests_at slots all 0 c Finishes Over (uses_in slots body) p placed.sits placed.lies placed.uses h)

  wakes : Sleeps (woken c) rule.node → Waits (woken c) None rule.node
  wakes sleeps = waits (woken c) None rule.node sleeps

  sleeping : Waits (woken c) None rule.node → (one : Slept slots all c rule.node) × (one.rule ≡ rule)
  sleeping h =
      let one = slept slots all w i c (whole stood body) Finishes 0 (in_none body) rule.node live placed.sits placed.lies rooted settled
      (rested w i stood body c rule.node live settled h) in (
        one,
        one_rule all (subst EachOnce (sym (named_in slots body Finishes)) (once.blocks unit.body [])) one.rule rule (contains_in one.rule all one.there)
            here one.of_node,
      )

  -- only a node at which a later tick goes on
  asks_resume : (asked : Condition) (slot : Slot) → AsksOf asked slot → IsResume asked
  asks_resume Flagged slot asks = asks
  asks_resume (Rested other) slot asks = tt
  asks_resume (RestedIn list) slot asks = tt
  asks_resume (Ended age needed) slot asks = asks

  pub only_resumes : Waits (woken c) None rule.node → IsResume rule.condition
  only_resumes h = let found = sleeping h in elim found.0.asks [
    | inl asks ↦ subst IsResume (sym asks ∙ ap (λ x. x.condition) found.1) tt
    | inr asks ↦ subst IsResume (ap (λ x. x.condition) found.1) (asks_resume found.0.rule.condition (slot_at slots found.0.spot) asks)
  ]

  by_rest : (slot : Slot) → rule.condition ≡ Rested slot → Exactly (is_at counters slot) (Waits (woken c) None rule.node)
  by_rest slot asked = (forth, back)
    where
      forth : is_at counters slot ≡ true → Waits (woken c) None rule.node
      forth due =
          let from = all_rest_from slots body Finishes rule slot here asked in
          let some = rests_there slot (RestOf from.label) from.there from.is due in
          let same : some.0 ≡ RestOf from.label =
          alone some.0 (RestOf from.label)
          (contains_has (spots_in body) some.0 (resting_inside slots all c Finishes (in_none body) some.0 placed.sits rooted some.1)) from.there
          (some.2 ∙ sym from.is) in
          let one = sleeper slots all c Finishes from.label placed.sits (subst (Has (resting c)) same some.1) settled in
          let is : one.rule ≡ rule =
          one_in slots (spots_in body) alone body Finishes (differ unit.body []) (λ p h. h) one.rule rule slot (contains_in one.rule all one.there) here
          (one.condition ∙ ap Rested from.is) asked in
          wakes (subst (λ x. Sleeps (woken c) x.node) is one.sleeps)

      back : Waits (woken c) None rule.node → is_at counters slot ≡ true
      back h = let found = sleeping h in elim found.0.asks [
        | inl asks ↦
            let is : slot_at slots found.0.spot ≡ slot =
            rested_is (slot_at slots found.0.spot) slot (sym asks ∙ ap (λ x. x.condition) found.1 ∙ asked) in
            ap (is_at counters) (sym is) ∙ rests_here found.0.spot found.0.rests
        | inr asks ↦ absurd (subst (λ x. AsksOf x (slot_at slots found.0.spot)) (ap (λ x. x.condition) found.1 ∙ asked) asks)
      ]

  by_rests : (list : List Slot) → rule.condition ≡ RestedIn list → Exactly (list_any (is_at counters) list) (Waits (woken c) None rule.node)
  by_rests list asked = (forth, back)
    where
      forth : list_any (is_at counters) list ≡ true → Waits (woken c) None rule.node
      forth due =
          let held = some_holds counters list due in
          let asks : AsksOf rule.condition held.slot = subst (λ x. AsksOf x held.slot) (sym asked) (in_contains held.slot list held.there) in
          let from = all_ask_from slots body Finishes rule held.slot here asks in
          let some = rests_there held.slot from.spot from.there from.is held.holds in
          elim (checked slots all c Finishes (in_none body) rule some.0 placed.sits rooted there some.1
          (subst (AsksOf rule.condition) (sym some.2) asks)) [
            | inl outer ↦ absurd outer
            | inr sleeps ↦ wakes sleeps
          ]

      back : Waits (woken c) None rule.node → list_any (is_at counters) list ≡ true
      back h = let found = sleeping h in elim found.0.asks [
        | inl asks ↦ absurd (cc (sym asks ∙ ap (λ x. x.condition) found.1 ∙ asked))
        | inr asks ↦
            holds_some counters list (slot_at slots found.0.spot)
            (contains_in (slot_at slots found.0.spot) list
            (subst (λ x. AsksOf x (slot_at slots found.0.spot)) (ap (λ x. x.condition) found.1 ∙ asked) asks))
            (rests_here found.0.spot found.0.rests)
      ]

  by_asked : (asked : Condition) → rule.condition ≡ asked → IsResume asked →
      Exactly (due_by number (started counters flags) rule.node asked) (Waits (woken c) None rule.node)
  by_asked Flagged is resume = absurd resume
  by_asked (Rested slot) is resume = by_rest slot is
  by_asked (RestedIn list) is resume = by_rests list is
  by_asked (Ended age needed) is resume = absurd resume

  -- what is due is what waits
  pub resumes : IsResume rule.condition → Exactly (is_due number rule (started counters flags)) (Waits (woken c) None rule.node)
  resumes resume = by_asked rule.condition refl resume
