-- Which rules ask whether an instance rested at a place: those of the `when`s around it.
use Rattle.std.proofs.Common.{◌≡◌, ◌⊎◌, inl, inr, ℕ, suc, Bool, true, false, List, [], ◌∷◌, ◌++◌, refl, ap, sym, subst}
use Rattle.bl_graph_nodes.specs.Nodes.{are_instant, is_instant}
use Rattle.bl_graph_nodes.specs.Plain.{Act, Again, Await, Block, Bodies, Body as BodyOf, Cobegin, Done, If, Label, Last, Plain, Repeat, Run as RunOf, Then}
use Rattle.bl_graph_nodes.specs.Plain.{Until, When, While}
use Rattle.bl_machine.specs.declared.slots.Slot.{Slot}
use Rattle.bl_machine.specs.Uses.{Slots}
use Rattle.bl_machine_pass.specs.SlotLayout.{EndOf, RestOf, Spot, slot_at, spots_in, spots_in_each, spots_of}
use Rattle.bl_machine_pass.specs.Transitions.{Change, SetsCounter, Transition, body_ends, enter, rests_in, rests_in_first, rests_of}
use Rattle.bl_machine_pass.specs.Transitions.{rule_where, rules_in, rules_in_each, rules_of}
use Rattle.bl_machine_pass_laws.specs.Turns.Rooted.{AsksOf}
use Rattle.bl_machine_pass_laws.specs.Spots.{Has, SpotsAreDistinct}
use Rattle.bl_tree.proofs.FirstLemmas.{In, contains_in}
use Rattle.bl_ctree_laws_traces.proofs.OnBounded.Lists.{among_either}

-- ---- lists

pub has_left : (xs ys : List Spot) (p : Spot) → Has xs p → Has (xs ++ ys) p
has_left [] ys p h = absurd h
has_left (x ∷ xs) ys p (inl is) = inl is
has_left (x ∷ xs) ys p (inr h) = inr (has_left xs ys p h)

pub has_right : (xs ys : List Spot) (p : Spot) → Has ys p → Has (xs ++ ys) p
has_right [] ys p h = h
has_right (x ∷ xs) ys p h = inr (has_right xs ys p h)

pub differ_left : (xs ys : List Spot) → SpotsAreDistinct (xs ++ ys) → SpotsAreDistinct xs
differ_left [] ys d = tt
differ_left (x ∷ xs) ys d = (λ h. d.0 (has_left xs ys x h), differ_left xs ys d.1)

pub differ_right : (xs ys : List Spot) → SpotsAreDistinct (xs ++ ys) → SpotsAreDistinct ys
differ_right [] ys d = d
differ_right (x ∷ xs) ys d = differ_right xs ys d.1

pub differ_apart : (xs ys : List Spot) → SpotsAreDistinct (xs ++ ys) → (p : Spot) → Has xs p → Has ys p → ⊥
differ_apart [] ys d p one two = one
differ_apart (x ∷ xs) ys d p (inl is) two = d.0 (has_right xs ys x (subst (Has ys) is two))
differ_apart (x ∷ xs) ys d p (inr one) two = differ_apart xs ys d.1 p one two

pub in_where : (test : Bool) (r : Transition) (rules : List Transition) (rule : Transition) → In rule (rule_where test r ++ rules) → (rule ≡ r) ⊎ In rule rules
in_where true r rules rule h = h
in_where false r rules rule h = inr h

-- ---- what asks comes from a place

module _ (slots : Slots) where
  -- the number is that of a place among these
  pub record FromSpot (spots : List Spot) (slot : Slot) : Type 0 where
    pub spot : Spot
    pub there : Has spots spot
    pub is : slot_at slots spot ≡ slot

  of_left : (xs ys : List Spot) (slot : Slot) → FromSpot xs slot → FromSpot (xs ++ ys) slot
  of_left xs ys slot from = record { spot = from.spot; there = has_left xs ys from.spot from.there; is = from.is }

  of_right : (xs ys : List Spot) (slot : Slot) → FromSpot ys slot → FromSpot (xs ++ ys) slot
  of_right xs ys slot from = record { spot = from.spot; there = has_right xs ys from.spot from.there; is = from.is }

  of_more : (x : Spot) (xs : List Spot) (slot : Slot) → FromSpot xs slot → FromSpot (x ∷ xs) slot
  of_more x xs slot from = record { spot = from.spot; there = inr from.there; is = from.is }

  mutual
    -- where a statement may rest
    rests_from : (s : Plain) (slot : Slot) → In slot (rests_of slots s) → FromSpot (spots_of s) slot
    rests_from (Act l s) slot h = absurd h
    rests_from (Await l at e) slot (inl is) = record { spot = RestOf l; there = inl refl; is = sym is }
    rests_from (Await l at e) slot (inr other) = absurd other
    rests_from (RunOf l at target a inputs outputs) slot (inl is) = record { spot = RestOf l; there = inl refl; is = sym is }
    rests_from (RunOf l at target a inputs outputs) slot (inr other) = absurd other
    rests_from (If l at e body other) slot h =
        elim (among_either slot (rests_in slots body) (rests_in slots other) h) [
          | inl a ↦ of_left (spots_in body) (spots_in other) slot (all_rests_from body slot a)
          | inr b ↦ of_right (spots_in body) (spots_in other) slot (all_rests_from other slot b)
        ]
    rests_from (Cobegin l at bodies) slot h = first_rests_from l bodies slot h
    rests_from (When l at guard e body) slot h = all_rests_from body slot h
    rests_from (Repeat l at body) slot h = all_rests_from body slot h
    rests_from (Until l at body e) slot h = all_rests_from body slot h
    rests_from (While l at e body) slot h = all_rests_from body slot h
    rests_from (Again l at body e) slot h = all_rests_from body slot h

    all_rests_from : (body : Block) (slot : Slot) → In slot (rests_in slots body) → FromSpot (spots_in body) slot
    all_rests_from Done slot h = absurd h
    all_rests_from (Then s rest) slot h =
        elim (among_either slot (rests_of slots s) (rests_in slots rest) h) [
          | inl a ↦ of_left (spots_of s) (spots_in rest) slot (rests_from s slot a)
          | inr b ↦ of_right (spots_of s) (spots_in rest) slot (all_rests_from rest slot b)
        ]

    first_rests_from : (l : Label) (bodies : Bodies) (slot : Slot) → In slot (rests_in_first slots l bodies) → FromSpot (spots_in_each l 0 bodies) slot
    first_rests_from l Last slot h = absurd h
    first_rests_from l (BodyOf weak body rest) slot (inl is) = record { spot = EndOf l 0; there = inl refl; is = sym is }
    first_rests_from l (BodyOf weak body rest) slot (inr h) =
        of_more (EndOf l 0) (spots_in body ++ spots_in_each l 1 rest) slot
        (of_left (spots_in body) (spots_in_each l 1 rest) slot (all_rests_from body slot h))

  -- a rule that asks of no number
  pub silent : (rule r : Transition) (slot : Slot) → rule ≡ r → (AsksOf r.condition slot → ⊥) → AsksOf rule.condition slot → ⊥
  silent rule r slot is none asks = none (subst (λ x. AsksOf x.condition slot) is asks)

  mutual
    -- what a rule of a statement asks of is the number of a place of the statement
    pub asks_from : (s : Plain) (next : Change) (rule : Transition) (slot : Slot) → In rule (rules_of slots s next) → AsksOf rule.condition slot →
        FromSpot (spots_of s) slot
    asks_from (Act l s) next rule slot (inl is) asks = absurd (silent rule _ slot is (λ x. x) asks)
    asks_from (Act l s) next rule slot (inr other) asks = absurd other
    asks_from (Await l at e) next rule slot (inl is) asks = absurd (silent rule _ slot is (λ x. x) asks)
    asks_from (Await l at e) next rule slot (inr (inl is)) asks = absurd (silent rule _ slot is (λ x. x) asks)
    asks_from (Await l at e) next rule slot (inr (inr other)) asks = absurd other
    asks_from (RunOf l at target a inputs outputs) next rule slot (inl is) asks = absurd (silent rule _ slot is (λ x. x) asks)
    asks_from (RunOf l at target a inputs outputs) next rule slot (inr (inl is)) asks = absurd (silent rule _ slot is (λ x. x) asks)
    asks_from (RunOf l at target a inputs outputs) next rule slot (inr (inr other)) asks = absurd other
    asks_from (If l at e body other) next rule slot (inl is) asks = absurd (silent rule _ slot is (λ x. x) asks)
    asks_from (If l at e body other) next rule slot (inr h) asks =
        elim (among_either rule (rules_in slots body next) (rules_in slots other next) h) [
          | inl a ↦ of_left (spots_in body) (spots_in other) slot (all_ask_from body next rule slot a asks)
          | inr b ↦ of_right (spots_in body) (spots_in other) slot (all_ask_from other next rule slot b asks)
        ]
    asks_from (Cobegin l at bodies) next rule slot (inl is) asks = absurd (silent rule _ slot is (λ x. x) asks)
    asks_from (Cobegin l at bodies) next rule slot (inr h) asks =
        elim (in_where (is_instant (Cobegin l at bodies)) _ _ rule h) [
          | inl is ↦ absurd (silent rule _ slot is (λ x. x) asks)
          | inr (inl is) ↦ absurd (silent rule _ slot is (λ x. x) asks)
          | inr (inr more) ↦ each_asks_from l 0 bodies rule slot more asks
        ]
    asks_from (When l at guard e body) next rule slot (inl is) asks = absurd (silent rule _ slot is (λ x. x) asks)
    asks_from (When l at guard e body) next rule slot (inr h) asks =
        elim (in_where (are_instant body) _ _ rule h) [
          | inl is ↦ absurd (silent rule _ slot is (λ x. x) asks)
          | inr (inl is) ↦ all_rests_from body slot (contains_in slot (rests_in slots body) (subst (λ x. AsksOf x.condition slot) is asks))
          | inr (inr (inl is)) ↦ absurd (silent rule _ slot is (λ x. x) asks)
          | inr (inr (inr more)) ↦ all_ask_from body (body_ends l at body) rule slot more asks
        ]
    asks_from (Repeat l at body) next rule slot (inl is) asks = absurd (silent rule _ slot is (λ x. x) asks)
    asks_from (Repeat l at body) next rule slot (inr h) asks = all_ask_from body _ rule slot h asks
    asks_from (Until l at body e) next rule slot (inl is) asks = absurd (silent rule _ slot is (λ x. x) asks)
    asks_from (Until l at body e) next rule slot (inr (inl is)) asks = absurd (silent rule _ slot is (λ x. x) asks)
    asks_from (Until l at body e) next rule slot (inr (inr h)) asks = all_ask_from body _ rule slot h asks
    asks_from (While l at e body) next rule slot (inl is) asks = absurd (silent rule _ slot is (λ x. x) asks)
    asks_from (While l at e body) next rule slot (inr h) asks = all_ask_from body _ rule slot h asks
    asks_from (Again l at body e) next rule slot (inl is) asks = absurd (silent rule _ slot is (λ x. x) asks)
    asks_from (Again l at body e) next rule slot (inr (inl is)) asks = absurd (silent rule _ slot is (λ x. x) asks)
    asks_from (Again l at body e) next rule slot (inr (inr h)) asks = all_ask_from body _ rule slot h asks

    pub all_ask_from : (body : Block) (next : Change) (rule : Transition) (slot : Slot) → In rule (rules_in slots body next) → AsksOf rule.condition slot →
        FromSpot (spots_in body) slot
    all_ask_from Done next rule slot h asks = absurd h
    all_ask_from (Then s rest) next rule slot h asks =
        elim (among_either rule (rules_of slots s (enter rest next)) (rules_in slots rest next) h) [
          | inl a ↦ of_left (spots_of s) (spots_in rest) slot (asks_from s (enter rest next) rule slot a asks)
          | inr b ↦ of_right (spots_of s) (spots_in rest) slot (all_ask_from rest next rule slot b asks)
        ]

    pub each_asks_from : (l : Label) (k : ℕ) (bodies : Bodies) (rule : Transition) (slot : Slot) → In rule (rules_in_each slots l k bodies) →
        AsksOf rule.condition slot → FromSpot (spots_in_each l k bodies) slot
    each_asks_from l k Last rule slot h asks = absurd h
    each_asks_from l k (BodyOf weak body rest) rule slot h asks =
        of_more (EndOf l k) (spots_in body ++ spots_in_each l (suc k) rest) slot
        (elim (among_either rule (rules_in slots body (SetsCounter (slots.ending l k))) (rules_in_each slots l (suc k) rest) h) [
          | inl a ↦ of_left (spots_in body) (spots_in_each l (suc k) rest) slot (all_ask_from body (SetsCounter (slots.ending l k)) rule slot a asks)
          | inr b ↦ of_right (spots_in body) (spots_in_each l (suc k) rest) slot (each_asks_from l (suc k) rest rule slot b asks)
        ])
