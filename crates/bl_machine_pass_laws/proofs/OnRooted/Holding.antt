-- The numbers of a body's places are taken for those of its body by the `when`s around each, and by no others.
use Rattle.std.proofs.Common.{◌≡◌, ◌⊎◌, inl, inr, ℕ, zero, suc, Bool, List, [], ◌∷◌, ◌++◌, refl, ap, sym, subst}
use Rattle.std.specs.Prelude.{Contains, ⊤}
use Rattle.bl_tree.specs.declared.place.Place.{Place}
use Rattle.bl_tree.specs.declared.tree.Expr.{Expr}
use Rattle.bl_tree.proofs.FirstLemmas.{In, in_contains}
use Rattle.bl_graph_nodes.specs.Nodes.{HeadAt, TestAt, are_instant, is_instant}
use Rattle.bl_graph_nodes.specs.Plain.{Act, Again, Await, Block, Bodies, Body as BodyOf, Cobegin, Done, If, Label, Last, Plain, Repeat, Run as RunOf, Then}
use Rattle.bl_graph_nodes.specs.Plain.{Until, When, While}
use Rattle.bl_ctree_laws_confluence.proofs.OnApart.Members.{in_left, in_right}
use Rattle.bl_machine.specs.declared.slots.Slot.{Slot}
use Rattle.bl_machine.specs.Uses.{Slots}
use Rattle.bl_machine_pass.specs.SlotLayout.{EndOf, RestOf, Spot, slot_at, spots_in, spots_in_each, spots_of}
use Rattle.bl_machine_pass.specs.Transitions.{Flagged, SetsFlag, flagged}
use Rattle.bl_machine_pass.specs.Transitions.{Change, SetsCounter, Transition, body_ends, enter, rests_in, rests_in_first, rests_of, rules_in, rules_in_each, rules_of}
use Rattle.bl_machine_pass_laws.specs.Turns.Rooted.{Around, AsksOf, Held, HeldEach, HeldIn, HeldOf, in_branch, in_when}
use Rattle.bl_machine_pass_laws.specs.Spots.{Has, SpotsAreDistinct}
use Rattle.bl_machine_pass_laws.proofs.OnRooted.Covers.{FromSpot, all_ask_from, asks_from, differ_apart, differ_left, differ_right, each_asks_from}
use Rattle.bl_machine_pass_laws.proofs.OnRooted.Covers.{has_left, has_right, in_where, silent}
use Rattle.bl_ctree_laws_traces.proofs.OnBounded.Lists.{among_either}

module _ (slots : Slots) (all : List Transition) (whole : List Spot)
    (alone : (p q : Spot) → Has whole p → Has whole q → slot_at slots p ≡ slot_at slots q → p ≡ q) where
  abbrev Inside : List Spot → Type 0
  Inside spots = (p : Spot) → Has spots p → Has whole p

  -- whatever asks of a number of these places is around them, or one of these rules
  abbrev Covers : Around → List Spot → List Transition → Type 0
  Covers around spots rules = (rule : Transition) (p : Spot) → Contains all rule → Has spots p → AsksOf rule.condition (slot_at slots p) →
      around.checks rule.node ⊎ In rule rules

  -- what these rules ask of are numbers of these places
  abbrev Within : List Transition → List Spot → Type 0
  Within rules spots = (rule : Transition) (slot : Slot) → In rule rules → AsksOf rule.condition slot → FromSpot slots spots slot

  -- these are places of the body
  abbrev Among : Around → List Spot → Type 0
  Among around spots = (p : Spot) → Has spots p → around.spots p

  abbrev Homes : Around → List Slot → Type 0
  Homes around rests = (slot : Slot) → In slot rests → around.home slot

  -- the places of two parts side by side
  narrow_left : (around : Around) (xs ys : List Spot) (rs ts : List Transition) → SpotsAreDistinct (xs ++ ys) → Inside (xs ++ ys) → Within ts ys →
      Covers around (xs ++ ys) (rs ++ ts) → Covers around xs rs
  narrow_left around xs ys rs ts differ inside within covers rule p here has asks =
      elim (covers rule p here (has_left xs ys p has) asks) [
        | inl check ↦ inl check
        | inr more ↦ elim (among_either rule rs ts more) [
          | inl one ↦ inr one
          | inr other ↦ let from = within rule (slot_at slots p) other asks in
              absurd (differ_apart xs ys differ p has (subst (Has ys)
              (alone from.spot p (inside from.spot (has_right xs ys from.spot from.there)) (inside p (has_left xs ys p has)) from.is) from.there))
        ]
      ]

  narrow_right : (around : Around) (xs ys : List Spot) (rs ts : List Transition) → SpotsAreDistinct (xs ++ ys) → Inside (xs ++ ys) → Within rs xs →
      Covers around (xs ++ ys) (rs ++ ts) → Covers around ys ts
  narrow_right around xs ys rs ts differ inside within covers rule p here has asks =
      elim (covers rule p here (has_right xs ys p has) asks) [
        | inl check ↦ inl check
        | inr more ↦ elim (among_either rule rs ts more) [
          | inl one ↦ let from = within rule (slot_at slots p) one asks in
              absurd (differ_apart xs ys differ p (subst (Has xs)
              (alone from.spot p (inside from.spot (has_left xs ys from.spot from.there)) (inside p (has_right xs ys p has)) from.is) from.there) has)
          | inr other ↦ inr other
        ]
      ]

  -- a rule that asks of no number, before others
  past_silent : (around : Around) (spots : List Spot) (r : Transition) (rules : List Transition) → ((slot : Slot) → AsksOf r.condition slot → ⊥) →
      Covers around spots (r ∷ rules) → Covers around spots rules
  past_silent around spots r rules none covers rule p here has asks =
      elim (covers rule p here has asks) [
        | inl check ↦ inl check
        | inr (inl is) ↦ absurd (silent slots rule r (slot_at slots p) is (none (slot_at slots p)) asks)
        | inr (inr more) ↦ inr more
      ]

  -- the number of one place that no rule inside asks of
  one_held : (around : Around) (p : Spot) (spots : List Spot) (rules : List Transition) → Has spots p → Among around spots → around.home (slot_at slots p) →
      ((rule : Transition) → In rule rules → AsksOf rule.condition (slot_at slots p) → ⊥) → Covers around spots rules → Held slots all around p
  one_held around p spots rules has among home none covers = record {
    inside = among p has;
    home = home;
    only_checks = λ rule here asks. elim (covers rule p here has asks) [ inl check ↦ check | inr more ↦ absurd (none rule more asks) ];
  }

  in_none : (rule r : Transition) (slot : Slot) → rule ≡ r → (AsksOf r.condition slot → ⊥) → AsksOf rule.condition slot → ⊥
  in_none rule r slot is none asks = silent slots rule r slot is none asks

  -- of the branches the first one rests where the `cobegin` does
  abbrev FirstHomes : Around → Label → ℕ → Bodies → Type 0
  FirstHomes around l k Last = ⊤
  FirstHomes around l k (BodyOf weak body rest) = (slot : Slot) → In slot (slots.ending l k ∷ rests_in slots body) → (in_branch k around).home slot

  first_homes : (around : Around) (l : Label) (bodies : Bodies) → Homes around (rests_in_first slots l bodies) → FirstHomes around l 0 bodies
  first_homes around l Last homes = tt
  first_homes around l (BodyOf weak body rest) homes = λ slot h. homes slot h

  later_homes : (around : Around) (l : Label) (k : ℕ) (bodies : Bodies) → FirstHomes around l (suc k) bodies
  later_homes around l k Last = tt
  later_homes around l k (BodyOf weak body rest) = λ slot h. tt

  -- the rules of a loop with a test after its turns
  abbrev head_rule : Label → Place → Block → Expr → Transition
  head_rule l at body e = flagged (HeadAt l at) (enter body (SetsFlag (TestAt l at e)) ∷ [])

  abbrev again_rule : Label → Place → Expr → Change → Transition
  again_rule l at e next = record { node = TestAt l at e; condition = Flagged; on_true = next ∷ []; on_false = SetsFlag (HeadAt l at) ∷ [] }

  mutual
    pub held_of : (around : Around) (s : Plain) (next : Change) → SpotsAreDistinct (spots_of s) → Inside (spots_of s) → Among around (spots_of s) →
        Covers around (spots_of s) (rules_of slots s next) → Homes around (rests_of slots s) → HeldOf slots all around s
    held_of around (Act l s) next differ inside among covers homes = tt
    held_of around (Await l at e) next differ inside among covers homes =
        one_held around (RestOf l) (RestOf l ∷ []) (rules_of slots (Await l at e) next) (inl refl) among (homes (slots.rest l) (inl refl))
        (λ rule h asks. elim h [
          | inl is ↦ in_none rule _ (slots.rest l) is (λ x. x) asks
          | inr (inl is) ↦ in_none rule _ (slots.rest l) is (λ x. x) asks
          | inr (inr other) ↦ absurd other
        ]) covers
    held_of around (RunOf l at target a inputs outputs) next differ inside among covers homes =
        one_held around (RestOf l) (RestOf l ∷ []) (rules_of slots (RunOf l at target a inputs outputs) next) (inl refl) among
        (homes (slots.rest l) (inl refl))
        (λ rule h asks. elim h [
          | inl is ↦ in_none rule _ (slots.rest l) is (λ x. x) asks
          | inr (inl is) ↦ in_none rule _ (slots.rest l) is (λ x. x) asks
          | inr (inr other) ↦ absurd other
        ]) covers
    held_of around (If l at e body other) next differ inside among covers homes =
        let inner = past_silent around (spots_in body ++ spots_in other) _ (rules_in slots body next ++ rules_in slots other next) (λ slot x. x) covers in (
          held_in around body next (differ_left (spots_in body) (spots_in other) differ)
              (λ p h. inside p (has_left (spots_in body) (spots_in other) p h)) (λ p h. among p (has_left (spots_in body) (spots_in other) p h))
              (narrow_left around (spots_in body) (spots_in other) (rules_in slots body next) (rules_in slots other next) differ inside
              (all_ask_from slots other next) inner)
              (λ slot h. homes slot (in_left slot (rests_in slots body) (rests_in slots other) h)),
          held_in around other next (differ_right (spots_in body) (spots_in other) differ)
              (λ p h. inside p (has_right (spots_in body) (spots_in other) p h)) (λ p h. among p (has_right (spots_in body) (spots_in other) p h))
              (narrow_right around (spots_in body) (spots_in other) (rules_in slots body next) (rules_in slots other next) differ inside
              (all_ask_from slots body next) inner)
              (λ slot h. homes slot (in_right slot (rests_in slots body) (rests_in slots other) h)),
        )
    held_of around (Cobegin l at bodies) next differ inside among covers homes =
        held_each around l 0 bodies differ inside among (λ rule p here has asks. elim (covers rule p here has asks) [
          | inl check ↦ inl check
          | inr (inl is) ↦ absurd (silent slots rule _ (slot_at slots p) is (λ x. x) asks)
          | inr (inr h) ↦ elim (in_where (is_instant (Cobegin l at bodies)) _ _ rule h) [
            | inl is ↦ absurd (silent slots rule _ (slot_at slots p) is (λ x. x) asks)
            | inr (inl is) ↦ absurd (silent slots rule _ (slot_at slots p) is (λ x. x) asks)
            | inr (inr more) ↦ inr more
          ]
        ]) (first_homes around l bodies homes)
    held_of around (When l at guard e body) next differ inside among covers homes =
        held_in (in_when slots l at e body around) body (body_ends l at body) differ inside among
        (λ rule p here has asks. elim (covers rule p here has asks) [
          | inl check ↦ inl (inr check)
          | inr (inl is) ↦ absurd (silent slots rule _ (slot_at slots p) is (λ x. x) asks)
          | inr (inr h) ↦ elim (in_where (are_instant body) _ _ rule h) [
            | inl is ↦ absurd (silent slots rule _ (slot_at slots p) is (λ x. x) asks)
            | inr (inl is) ↦ inl (inl (ap (λ r. r.node) is))
            | inr (inr (inl is)) ↦ absurd (silent slots rule _ (slot_at slots p) is (λ x. x) asks)
            | inr (inr (inr more)) ↦ inr more
          ]
        ])
        (λ slot h. (in_contains slot (rests_in slots body) h, homes slot h))
    held_of around (Repeat l at body) next differ inside among covers homes =
        held_in around body _ differ inside among (past_silent around (spots_in body) _ _ (λ slot x. x) covers) homes
    held_of around (Until l at body e) next differ inside among covers homes =
        held_in around body (SetsFlag (TestAt l at e)) differ inside among
        (past_silent around (spots_in body) (again_rule l at e next) (rules_in slots body (SetsFlag (TestAt l at e))) (λ slot x. x)
        (past_silent around (spots_in body) (head_rule l at body e) (again_rule l at e next ∷ rules_in slots body (SetsFlag (TestAt l at e)))
        (λ slot x. x) covers)) homes
    held_of around (While l at e body) next differ inside among covers homes =
        held_in around body _ differ inside among (past_silent around (spots_in body) _ _ (λ slot x. x) covers) homes
    held_of around (Again l at body e) next differ inside among covers homes =
        held_in around body (SetsFlag (TestAt l at e)) differ inside among
        (past_silent around (spots_in body) (again_rule l at e next) (rules_in slots body (SetsFlag (TestAt l at e))) (λ slot x. x)
        (past_silent around (spots_in body) (head_rule l at body e) (again_rule l at e next ∷ rules_in slots body (SetsFlag (TestAt l at e)))
        (λ slot x. x) covers)) homes

    pub held_in : (around : Around) (body : Block) (next : Change) → SpotsAreDistinct (spots_in body) → Inside (spots_in body) → Among around (spots_in body) →
        Covers around (spots_in body) (rules_in slots body next) → Homes around (rests_in slots body) → HeldIn slots all around body
    held_in around Done next differ inside among covers homes = tt
    held_in around (Then s rest) next differ inside among covers homes = (
      held_of around s (enter rest next) (differ_left (spots_of s) (spots_in rest) differ)
          (λ p h. inside p (has_left (spots_of s) (spots_in rest) p h)) (λ p h. among p (has_left (spots_of s) (spots_in rest) p h))
          (narrow_left around (spots_of s) (spots_in rest) (rules_of slots s (enter rest next)) (rules_in slots rest next) differ inside
          (all_ask_from slots rest next) covers)
          (λ slot h. homes slot (in_left slot (rests_of slots s) (rests_in slots rest) h)),
      held_in around rest next (differ_right (spots_of s) (spots_in rest) differ)
          (λ p h. inside p (has_right (spots_of s) (spots_in rest) p h)) (λ p h. among p (has_right (spots_of s) (spots_in rest) p h))
          (narrow_right around (spots_of s) (spots_in rest) (rules_of slots s (enter rest next)) (rules_in slots rest next) differ inside
          (asks_from slots s (enter rest next)) covers)
          (λ slot h. homes slot (in_right slot (rests_of slots s) (rests_in slots rest) h)),
    )

    pub held_each : (around : Around) (l : Label) (k : ℕ) (bodies : Bodies) → SpotsAreDistinct (spots_in_each l k bodies)
        → Inside (spots_in_each l k bodies) → Among around (spots_in_each l k bodies) →
        Covers around (spots_in_each l k bodies) (rules_in_each slots l k bodies) → FirstHomes around l k bodies →
        HeldEach slots all around l k bodies
    held_each around l k Last differ inside among covers homes = tt
    held_each around l k (BodyOf weak body rest) differ inside among covers homes =
        let rs : List Transition = rules_in slots body (SetsCounter (slots.ending l k)) in
        let ts : List Transition = rules_in_each slots l (suc k) rest in
        let own : Covers around (spots_in body ++ spots_in_each l (suc k) rest) (rs ++ ts) = λ rule p here has asks. covers rule p here (inr has) asks in
        let inner : Inside (spots_in body ++ spots_in_each l (suc k) rest) = λ p h. inside p (inr h) in (
          one_held (in_branch k around) (EndOf l k) (spots_in_each l k (BodyOf weak body rest)) (rs ++ ts) (inl refl)
              (among_same k (spots_in_each l k (BodyOf weak body rest)) among)
              (homes (slots.ending l k) (inl refl))
              (λ rule h asks. elim (among_either rule rs ts h) [
                | inl a ↦ end_unasked k rest weak differ inside (all_ask_from slots body (SetsCounter (slots.ending l k)) rule (slots.ending l k) a asks)
                    (λ p there. has_left (spots_in body) (spots_in_each l (suc k) rest) p there)
                | inr b ↦ end_unasked k rest weak differ inside (each_asks_from slots l (suc k) rest rule (slots.ending l k) b asks)
                    (λ p there. has_right (spots_in body) (spots_in_each l (suc k) rest) p there)
              ]) (checks_same k (spots_in_each l k (BodyOf weak body rest)) (rs ++ ts) covers),
          held_in (in_branch k around) body (SetsCounter (slots.ending l k)) (differ_left (spots_in body) (spots_in_each l (suc k) rest) differ.1)
              (λ p h. inner p (has_left (spots_in body) (spots_in_each l (suc k) rest) p h))
              (among_same k (spots_in body) (λ p h. among p (inr (has_left (spots_in body) (spots_in_each l (suc k) rest) p h))))
              (checks_same k (spots_in body) rs
              (narrow_left around (spots_in body) (spots_in_each l (suc k) rest) rs ts differ.1 inner (each_asks_from slots l (suc k) rest) own))
              (λ slot h. homes slot (inr h)),
          held_each around l (suc k) rest (differ_right (spots_in body) (spots_in_each l (suc k) rest) differ.1)
              (λ p h. inner p (has_right (spots_in body) (spots_in_each l (suc k) rest) p h))
              (λ p h. among p (inr (has_right (spots_in body) (spots_in_each l (suc k) rest) p h)))
              (narrow_right around (spots_in body) (spots_in_each l (suc k) rest) rs ts differ.1 inner
              (all_ask_from slots body (SetsCounter (slots.ending l k))) own)
              (later_homes around l k rest),
        )
      where
        -- a branch has the checks of what is around
        checks_same : (j : ℕ) (spots : List Spot) (rules : List Transition) → Covers around spots rules → Covers (in_branch j around) spots rules
        checks_same zero spots rules covers = covers
        checks_same (suc j) spots rules covers = covers

        among_same : (j : ℕ) (spots : List Spot) → Among around spots → Among (in_branch j around) spots
        among_same zero spots among = among
        among_same (suc j) spots among = among

        -- the end of the branch is no place inside
        end_unasked : (j : ℕ) (others : Bodies) (weak : Bool) → SpotsAreDistinct (EndOf l k ∷ (spots_in body ++ spots_in_each l (suc k) rest)) →
            Inside (EndOf l k ∷ (spots_in body ++ spots_in_each l (suc k) rest)) → {spots : List Spot} → FromSpot slots spots (slots.ending l k) →
            ((p : Spot) → Has spots p → Has (spots_in body ++ spots_in_each l (suc k) rest) p) → ⊥
        end_unasked j others weak differ inside from lift =
            differ.0 (subst (Has (spots_in body ++ spots_in_each l (suc k) rest))
            (alone from.spot (EndOf l k) (inside from.spot (inr (lift from.spot from.there))) (inside (EndOf l k) (inl refl)) from.is)
            (lift from.spot from.there))
