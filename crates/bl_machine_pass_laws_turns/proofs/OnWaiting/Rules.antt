-- The rules of a body: what they ask at which nodes, and which counters.
use Rattle.std.proofs.Common.{◌≡◌, ◌⊎◌, ⊎_elim, ℕ, suc, Bool, true, false, ◌||◌, List, [], ◌∷◌}
use Rattle.std.proofs.Common.{◌++◌, refl, sym, ap, subst, eqb-true, eq-eqb}
use Rattle.std.specs.Prelude.{⊤, Contains}
use Rattle.std.proofs.lemmas.Bool.{or_left, or_right}
use Rattle.bl_tree.proofs.Basics.{any_from, contains_first, contains_further, contains_none, either_of, first_or_further}
use Rattle.bl_graph_nodes.specs.Nodes.{DepthEndAt, DepthJoinAt, Node, SurfaceEndAt, SurfaceJoinAt, are_instant, entry, is_instant}
use Rattle.bl_graph_nodes.specs.Plain.{Act, Again, Await, Block, Bodies, Body as BodyOf, Cobegin, Done, If, Label, Last, Plain, Repeat, Run as RunOf, Then}
use Rattle.bl_graph_nodes.specs.Plain.{Until, When, While}
use Rattle.bl_cause.proofs.PairLemmas.{contains_left}
use Rattle.bl_machine.specs.declared.slots.Slot.{Slot}
use Rattle.bl_machine.specs.Uses.{Slots, is_of, uses, uses_in, uses_in_each}
use Rattle.bl_machine_pass.specs.SlotLayout.{EndOf, RestOf, Spot, slot_at, spots_in, spots_in_each, spots_of}
use Rattle.bl_machine_pass.specs.Registers.{Registers, due_by, is_at}
use Rattle.bl_machine_pass.specs.Transitions.{Change, Condition, Ended, Flagged, Rested, RestedIn, SetsCounter, Transition, body_ends, counters_in}
use Rattle.bl_machine_pass.specs.Transitions.{counters_in_each, counters_of, enter, rests_in, rests_in_first, rests_of, rule_where, rules_in, rules_in_each}
use Rattle.bl_machine_pass.specs.Transitions.{rules_of}
use Rattle.bl_machine_pass_laws.specs.Turns.Invariant.{IsFlagged, IsResume}
use Rattle.bl_machine_pass_laws_turns.proofs.OnWaiting.Lists.{contains_right, contains_split}
use Rattle.bl_graph.proofs.Sweeping.{any_from as any_found}
use Rattle.bl_ctree_laws_traces.proofs.OnBounded.Lists.{EachOf, each_append}

-- ---- what a rule asks

-- it asks whether the instance rested at the number
abbrev pub AsksFor : Condition → Slot → Type 0
AsksFor Flagged slot = ⊥
AsksFor (Rested other) slot = slot ≡ other
AsksFor (RestedIn slots) slot = Contains slots slot
AsksFor (Ended age needed) slot = ⊥

-- a rule of the node, of which this holds
pub record RuleAt (all : List Transition) (y : Node) (P : Condition → Type 0) : Type 0 where
  pub rule : Transition
  pub there : Contains all rule
  pub of_node : rule.node ≡ y
  pub is : P rule.condition

-- a resume node is due exactly where the instance rested at one of its numbers
pub due_at : (number : Node → ℕ) (r : Registers) (n : Node) (condition : Condition) → IsResume condition → due_by number r n condition ≡ true →
    (slot : Slot) × AsksFor condition slot × (is_at r.rested slot ≡ true)
due_at number r n Flagged resume due = absurd resume
due_at number r n (Rested slot) resume due = (slot, refl, due)
due_at number r n (RestedIn slots) resume due = any_found (is_at r.rested) slots due
due_at number r n (Ended age needed) resume due = absurd resume

pub at_due : (number : Node → ℕ) (r : Registers) (n : Node) (condition : Condition) (slot : Slot) → AsksFor condition slot → is_at r.rested slot ≡ true →
    due_by number r n condition ≡ true
at_due number r n Flagged slot asks at = absurd asks
at_due number r n (Rested other) slot asks at = subst (λ one. is_at r.rested one ≡ true) asks at
at_due number r n (RestedIn slots) slot asks at = any_from (is_at r.rested) slots slot asks at
at_due number r n (Ended age needed) slot asks at = absurd asks

-- where a rule asks for its flag that is what is due
pub flag_is_due : (number : Node → ℕ) (r : Registers) (n : Node) (condition : Condition) → IsFlagged condition → due_by number r n condition ≡ r.flags (number n)
flag_is_due number r n Flagged is = refl
flag_is_due number r n (Rested slot) is = absurd is
flag_is_due number r n (RestedIn slots) is = absurd is
flag_is_due number r n (Ended age needed) is = absurd is

-- ---- nodes that begin

first_at : (rule : Transition) (rest : List Transition) (y : Node) → rule.node ≡ y → IsFlagged rule.condition → RuleAt (rule ∷ rest) y IsFlagged
first_at rule rest y of_node is = record { rule = rule; there = contains_first rule rest; of_node = of_node; is = is }

second_at : (first rule : Transition) (rest : List Transition) (y : Node) → rule.node ≡ y → IsFlagged rule.condition → RuleAt (first ∷ rule ∷ rest) y IsFlagged
second_at first rule rest y of_node is =
    record { rule = rule; there = contains_further first (rule ∷ rest) rule (contains_first rule rest); of_node = of_node; is = is }

-- the entry of a statement waits by its flag
pub entry_rule : (slots : Slots) (s : Plain) (next : Change) → RuleAt (rules_of slots s next) (entry s) IsFlagged
entry_rule slots (Act l s) next = first_at _ _ _ refl tt
entry_rule slots (Await l at e) next = first_at _ _ _ refl tt
entry_rule slots (RunOf l at target a inputs outputs) next = first_at _ _ _ refl tt
entry_rule slots (If l at e body other) next = first_at _ _ _ refl tt
entry_rule slots (Cobegin l at bodies) next = first_at _ _ _ refl tt
entry_rule slots (When l at guard e body) next = first_at _ _ _ refl tt
entry_rule slots (Repeat l at body) next = first_at _ _ _ refl tt
entry_rule slots (Until l at body e) next = first_at _ _ _ refl tt
entry_rule slots (While l at e body) next = first_at _ _ _ refl tt
entry_rule slots (Again l at body e) next = second_at _ _ _ _ refl tt

-- ---- the places at which a part rests

-- a number at which a part rests is that of a place of the part, and the part uses its counter
pub record Resting (slots : Slots) (spots : List Spot) (used : ℕ → Bool) (slot : Slot) : Type 0 where
  pub spot : Spot
  pub there : Contains spots spot
  pub is : slot_at slots spot ≡ slot
  pub counted : used slot.counter ≡ true

resting_in : (slots : Slots) (spots spots' : List Spot) (used used' : ℕ → Bool) (slot : Slot) →
    ((p : Spot) → Contains spots p → Contains spots' p) → ((j : ℕ) → used j ≡ true → used' j ≡ true) →
    Resting slots spots used slot → Resting slots spots' used' slot
resting_in slots spots spots' used used' slot into uses one =
    record { spot = one.spot; there = into one.spot one.there; is = one.is; counted = uses slot.counter one.counted }

slot_used : (a b : Slot) → a ≡ b → is_of a b.counter ≡ true
slot_used a b e = eq-eqb b.counter a.counter (sym (ap (λ slot. slot.counter) e))

one_rest : (slots : Slots) (l : Label) (slot : Slot) → Contains (slots.rest l ∷ []) slot →
    Resting slots (RestOf l ∷ []) (is_of (slots.rest l)) slot
one_rest slots l slot h =
    ⊎_elim
    (λ (is : slots.rest l ≡ slot). record {
      spot = RestOf l;
      there = contains_first (RestOf l) [];
      is = is;
      counted = slot_used (slots.rest l) slot is;
    })
    (λ (none : Contains [] slot). absurd (contains_none slot none)) (first_or_further (slots.rest l) [] slot h)

mutual
  pub rests_there : (slots : Slots) (s : Plain) (slot : Slot) → Contains (rests_of slots s) slot → Resting slots (spots_of s) (uses slots s) slot
  rests_there slots (Act l s) slot h = absurd (contains_none slot h)
  rests_there slots (Await l at e) slot h = one_rest slots l slot h
  rests_there slots (RunOf l at target a inputs outputs) slot h = one_rest slots l slot h
  rests_there slots (If l at e body other) slot h =
      ⊎_elim
      (λ (one : Contains (rests_in slots body) slot).
      resting_in slots (spots_in body) (spots_in body ++ spots_in other) (uses_in slots body) (λ j. uses_in slots body j || uses_in slots other j) slot
      (λ p there. contains_left (spots_in body) (spots_in other) p there) (λ j used. or_left (uses_in slots body j) (uses_in slots other j) used)
      (rests_there_in slots body slot one))
      (λ (one : Contains (rests_in slots other) slot).
      resting_in slots (spots_in other) (spots_in body ++ spots_in other) (uses_in slots other) (λ j. uses_in slots body j || uses_in slots other j) slot
      (λ p there. contains_right (spots_in body) (spots_in other) p there) (λ j used. or_right (uses_in slots body j) (uses_in slots other j) used)
      (rests_there_in slots other slot one)) (contains_split (rests_in slots body) (rests_in slots other) slot h)
  rests_there slots (Cobegin l at bodies) slot h = rests_there_first slots l bodies slot h
  rests_there slots (When l at guard e body) slot h = rests_there_in slots body slot h
  rests_there slots (Repeat l at body) slot h = rests_there_in slots body slot h
  rests_there slots (Until l at body e) slot h = rests_there_in slots body slot h
  rests_there slots (While l at e body) slot h = rests_there_in slots body slot h
  rests_there slots (Again l at body e) slot h = rests_there_in slots body slot h

  pub rests_there_in : (slots : Slots) (body : Block) (slot : Slot) → Contains (rests_in slots body) slot →
      Resting slots (spots_in body) (uses_in slots body) slot
  rests_there_in slots Done slot h = absurd (contains_none slot h)
  rests_there_in slots (Then s rest) slot h =
      ⊎_elim
      (λ (one : Contains (rests_of slots s) slot).
      resting_in slots (spots_of s) (spots_of s ++ spots_in rest) (uses slots s) (λ j. uses slots s j || uses_in slots rest j) slot
      (λ p there. contains_left (spots_of s) (spots_in rest) p there) (λ j used. or_left (uses slots s j) (uses_in slots rest j) used)
      (rests_there slots s slot one))
      (λ (one : Contains (rests_in slots rest) slot).
      resting_in slots (spots_in rest) (spots_of s ++ spots_in rest) (uses_in slots rest) (λ j. uses slots s j || uses_in slots rest j) slot
      (λ p there. contains_right (spots_of s) (spots_in rest) p there) (λ j used. or_right (uses slots s j) (uses_in slots rest j) used)
      (rests_there_in slots rest slot one)) (contains_split (rests_of slots s) (rests_in slots rest) slot h)

  rests_there_first : (slots : Slots) (l : Label) (bodies : Bodies) (slot : Slot) → Contains (rests_in_first slots l bodies) slot →
      Resting slots (spots_in_each l 0 bodies) (uses_in_each slots l 0 bodies) slot
  rests_there_first slots l Last slot h = absurd (contains_none slot h)
  rests_there_first slots l (BodyOf weak body rest) slot h =
      ⊎_elim
      (λ (is : slots.ending l 0 ≡ slot). record {
        spot = EndOf l 0;
        there = contains_first (EndOf l 0) (spots_in body ++ spots_in_each l 1 rest);
        is = is;
        counted = or_left (is_of (slots.ending l 0) slot.counter || uses_in slots body slot.counter) (uses_in_each slots l 1 rest slot.counter)
            (or_left (is_of (slots.ending l 0) slot.counter) (uses_in slots body slot.counter) (slot_used (slots.ending l 0) slot is));
      })
      (λ (one : Contains (rests_in slots body) slot).
      resting_in slots (spots_in body) (EndOf l 0 ∷ (spots_in body ++ spots_in_each l 1 rest)) (uses_in slots body)
      (uses_in_each slots l 0 (BodyOf weak body rest)) slot
      (λ p there. contains_further (EndOf l 0) (spots_in body ++ spots_in_each l 1 rest) p (contains_left (spots_in body) (spots_in_each l 1 rest) p there))
      (λ j used. or_left (is_of (slots.ending l 0) j || uses_in slots body j) (uses_in_each slots l 1 rest j)
      (or_right (is_of (slots.ending l 0) j) (uses_in slots body j) used))
      (rests_there_in slots body slot one)) (first_or_further (slots.ending l 0) (rests_in slots body) slot h)

-- ---- the counters of a part

used_one : (slot : Slot) (j : ℕ) → is_of slot j ≡ true → Contains (slot.counter ∷ []) j
used_one slot j e = subst (λ k. Contains (k ∷ []) j) (eqb-true j slot.counter e) (contains_first j [])

one_used : (slot : Slot) (j : ℕ) → Contains (slot.counter ∷ []) j → is_of slot j ≡ true
one_used slot j h =
    ⊎_elim (λ (is : slot.counter ≡ j). eq-eqb j slot.counter (sym is)) (λ (none : Contains [] j). absurd (contains_none j none))
    (first_or_further slot.counter [] j h)

mutual
  counters_used : (slots : Slots) (s : Plain) (j : ℕ) → uses slots s j ≡ true → Contains (counters_of slots s) j
  counters_used slots (Act l s) j e = absurd cc
  counters_used slots (Await l at e') j e = used_one (slots.rest l) j e
  counters_used slots (RunOf l at target a inputs outputs) j e = used_one (slots.rest l) j e
  counters_used slots (If l at e' body other) j e =
      ⊎_elim (λ (one : uses_in slots body j ≡ true). contains_left (counters_in slots body) (counters_in slots other) j
      (counters_used_in slots body j one))
      (λ (one : uses_in slots other j ≡ true). contains_right (counters_in slots body) (counters_in slots other) j (counters_used_in slots other j one))
      (either_of (uses_in slots body j) (uses_in slots other j) e)
  counters_used slots (Cobegin l at bodies) j e = counters_used_each slots l 0 bodies j e
  counters_used slots (When l at guard e' body) j e = counters_used_in slots body j e
  counters_used slots (Repeat l at body) j e = counters_used_in slots body j e
  counters_used slots (Until l at body e') j e = counters_used_in slots body j e
  counters_used slots (While l at e' body) j e = counters_used_in slots body j e
  counters_used slots (Again l at body e') j e = counters_used_in slots body j e

  pub counters_used_in : (slots : Slots) (body : Block) (j : ℕ) → uses_in slots body j ≡ true → Contains (counters_in slots body) j
  counters_used_in slots Done j e = absurd cc
  counters_used_in slots (Then s rest) j e =
      ⊎_elim (λ (one : uses slots s j ≡ true). contains_left (counters_of slots s) (counters_in slots rest) j (counters_used slots s j one))
      (λ (one : uses_in slots rest j ≡ true). contains_right (counters_of slots s) (counters_in slots rest) j (counters_used_in slots rest j one))
      (either_of (uses slots s j) (uses_in slots rest j) e)

  counters_used_each : (slots : Slots) (l : Label) (k : ℕ) (bodies : Bodies) (j : ℕ) → uses_in_each slots l k bodies j ≡ true →
      Contains (counters_in_each slots l k bodies) j
  counters_used_each slots l k Last j e = absurd cc
  counters_used_each slots l k (BodyOf weak body rest) j e =
      ⊎_elim
      (λ (one : (is_of (slots.ending l k) j || uses_in slots body j) ≡ true).
      ⊎_elim
      (λ (is : is_of (slots.ending l k) j ≡ true).
      subst (λ z. Contains (z ∷ (counters_in slots body ++ counters_in_each slots l (suc k) rest)) j) (eqb-true j (slots.ending l k).counter is)
      (contains_first j (counters_in slots body ++ counters_in_each slots l (suc k) rest)))
      (λ (is : uses_in slots body j ≡ true).
      contains_further (slots.ending l k).counter (counters_in slots body ++ counters_in_each slots l (suc k) rest) j
      (contains_left (counters_in slots body) (counters_in_each slots l (suc k) rest) j (counters_used_in slots body j is)))
      (either_of (is_of (slots.ending l k) j) (uses_in slots body j) one))
      (λ (one : uses_in_each slots l (suc k) rest j ≡ true).
      contains_further (slots.ending l k).counter (counters_in slots body ++ counters_in_each slots l (suc k) rest) j
      (contains_right (counters_in slots body) (counters_in_each slots l (suc k) rest) j (counters_used_each slots l (suc k) rest j one)))
      (either_of (is_of (slots.ending l k) j || uses_in slots body j) (uses_in_each slots l (suc k) rest j) e)

mutual
  used_counters : (slots : Slots) (s : Plain) (j : ℕ) → Contains (counters_of slots s) j → uses slots s j ≡ true
  used_counters slots (Act l s) j h = absurd (contains_none j h)
  used_counters slots (Await l at e) j h = one_used (slots.rest l) j h
  used_counters slots (RunOf l at target a inputs outputs) j h = one_used (slots.rest l) j h
  used_counters slots (If l at e body other) j h =
      ⊎_elim (λ (one : Contains (counters_in slots body) j). or_left (uses_in slots body j) (uses_in slots other j) (used_counters_in slots body j one))
      (λ (one : Contains (counters_in slots other) j). or_right (uses_in slots body j) (uses_in slots other j) (used_counters_in slots other j one))
      (contains_split (counters_in slots body) (counters_in slots other) j h)
  used_counters slots (Cobegin l at bodies) j h = used_counters_each slots l 0 bodies j h
  used_counters slots (When l at guard e body) j h = used_counters_in slots body j h
  used_counters slots (Repeat l at body) j h = used_counters_in slots body j h
  used_counters slots (Until l at body e) j h = used_counters_in slots body j h
  used_counters slots (While l at e body) j h = used_counters_in slots body j h
  used_counters slots (Again l at body e) j h = used_counters_in slots body j h

  pub used_counters_in : (slots : Slots) (body : Block) (j : ℕ) → Contains (counters_in slots body) j → uses_in slots body j ≡ true
  used_counters_in slots Done j h = absurd (contains_none j h)
  used_counters_in slots (Then s rest) j h =
      ⊎_elim (λ (one : Contains (counters_of slots s) j). or_left (uses slots s j) (uses_in slots rest j) (used_counters slots s j one))
      (λ (one : Contains (counters_in slots rest) j). or_right (uses slots s j) (uses_in slots rest j) (used_counters_in slots rest j one))
      (contains_split (counters_of slots s) (counters_in slots rest) j h)

  used_counters_each : (slots : Slots) (l : Label) (k : ℕ) (bodies : Bodies) (j : ℕ) → Contains (counters_in_each slots l k bodies) j →
      uses_in_each slots l k bodies j ≡ true
  used_counters_each slots l k Last j h = absurd (contains_none j h)
  used_counters_each slots l k (BodyOf weak body rest) j h =
      ⊎_elim
      (λ (is : (slots.ending l k).counter ≡ j).
      or_left (is_of (slots.ending l k) j || uses_in slots body j) (uses_in_each slots l (suc k) rest j)
      (or_left (is_of (slots.ending l k) j) (uses_in slots body j) (eq-eqb j (slots.ending l k).counter (sym is))))
      (λ (later : Contains (counters_in slots body ++ counters_in_each slots l (suc k) rest) j).
      ⊎_elim
      (λ (one : Contains (counters_in slots body) j).
      or_left (is_of (slots.ending l k) j || uses_in slots body j) (uses_in_each slots l (suc k) rest j)
      (or_right (is_of (slots.ending l k) j) (uses_in slots body j) (used_counters_in slots body j one)))
      (λ (one : Contains (counters_in_each slots l (suc k) rest) j).
      or_right (is_of (slots.ending l k) j || uses_in slots body j) (uses_in_each slots l (suc k) rest j)
      (used_counters_each slots l (suc k) rest j one))
      (contains_split (counters_in slots body) (counters_in_each slots l (suc k) rest) j later))
      (first_or_further (slots.ending l k).counter (counters_in slots body ++ counters_in_each slots l (suc k) rest) j h)

-- ---- what each rule asks

-- the nodes at which a `cobegin` ends
abbrev pub IsJoinNode : Node → Type 0
IsJoinNode (SurfaceJoinAt l at) = ⊤
IsJoinNode (DepthJoinAt l at) = ⊤
IsJoinNode _ = ⊥

-- nodes at which a construct ends: no tick goes on there
abbrev pub IsEndNode : Node → Type 0
IsEndNode (SurfaceEndAt l at) = ⊤
IsEndNode (DepthEndAt l at) = ⊤
IsEndNode (SurfaceJoinAt l at) = ⊤
IsEndNode (DepthJoinAt l at) = ⊤
IsEndNode _ = ⊥

abbrev pub AsksAt : Condition → Node → Type 0
AsksAt Flagged n = IsJoinNode n → ⊥
AsksAt (Rested slot) n = IsEndNode n → ⊥
AsksAt (RestedIn slots) n = IsEndNode n → ⊥
AsksAt (Ended age needed) n = ⊤

-- a rule asks for the numbers of these places alone
abbrev pub AsksAmong : Slots → List Spot → Condition → Type 0
AsksAmong slots spots condition = (slot : Slot) → AsksFor condition slot → (p : Spot) × Contains spots p × (slot_at slots p ≡ slot)

-- what is known of each rule
abbrev pub Known : Slots → List Spot → Transition → Type 0
Known slots spots rule = AsksAt rule.condition rule.node × AsksAmong slots spots rule.condition

known_where : (slots : Slots) (spots : List Spot) (b : Bool) (rule : Transition) → Known slots spots rule → EachOf (Known slots spots) (rule_where b rule)
known_where slots spots true rule known = (known, tt)
known_where slots spots false rule known = tt

mutual
  known_of : (slots : Slots) (spots : List Spot) (s : Plain) (next : Change) → ((p : Spot) → Contains (spots_of s) p → Contains spots p) →
      EachOf (Known slots spots) (rules_of slots s next)
  known_of slots spots (Act l s) next into = ((λ join. join, λ slot none. absurd none), tt)
  known_of slots spots (Await l at e) next into =
      ((λ join. join, λ slot none. absurd none), ((λ end. end, λ slot is. (RestOf l, into (RestOf l) (contains_first (RestOf l) []), sym is)), tt))
  known_of slots spots (RunOf l at target a inputs outputs) next into =
      ((λ join. join, λ slot none. absurd none), ((λ end. end, λ slot is. (RestOf l, into (RestOf l) (contains_first (RestOf l) []), sym is)), tt))
  known_of slots spots (If l at e body other) next into = (
    (λ join. join, λ slot none. absurd none),
    each_append (Known slots spots) (rules_in slots body next) (rules_in slots other next)
        (known_in slots spots body next (λ p there. into p (contains_left (spots_in body) (spots_in other) p there)))
        (known_in slots spots other next (λ p there. into p (contains_right (spots_in body) (spots_in other) p there))),
  )
  known_of slots spots (Cobegin l at bodies) next into = (
    (λ join. join, λ slot none. absurd none),
    each_append (Known slots spots) (rule_where (is_instant (Cobegin l at bodies)) _) _
        (known_where slots spots (is_instant (Cobegin l at bodies)) _ (tt, λ slot none. absurd none))
        ((tt, λ slot none. absurd none), known_each slots spots l 0 bodies into),
  )
  known_of slots spots (When l at guard e body) next into = (
    (λ join. join, λ slot none. absurd none),
    each_append (Known slots spots) (rule_where (are_instant body) _) _
        (known_where slots spots (are_instant body) _ (λ join. join, λ slot none. absurd none)) (
          (λ end. end, λ slot asks. let one = rests_there_in slots body slot asks in (one.spot, into one.spot one.there, one.is)),
          ((λ join. join, λ slot none. absurd none), known_in slots spots body (body_ends l at body) into),
        ),
  )
  known_of slots spots (Repeat l at body) next into = ((λ join. join, λ slot none. absurd none), known_in slots spots body _ into)
  known_of slots spots (Until l at body e) next into =
      ((λ join. join, λ slot none. absurd none), ((λ join. join, λ slot none. absurd none), known_in slots spots body _ into))
  known_of slots spots (While l at e body) next into = ((λ join. join, λ slot none. absurd none), known_in slots spots body _ into)
  known_of slots spots (Again l at body e) next into =
      ((λ join. join, λ slot none. absurd none), ((λ join. join, λ slot none. absurd none), known_in slots spots body _ into))

  pub known_in : (slots : Slots) (spots : List Spot) (body : Block) (next : Change) → ((p : Spot) → Contains (spots_in body) p → Contains spots p) →
      EachOf (Known slots spots) (rules_in slots body next)
  known_in slots spots Done next into = tt
  known_in slots spots (Then s rest) next into =
      each_append (Known slots spots) (rules_of slots s (enter rest next)) (rules_in slots rest next)
      (known_of slots spots s (enter rest next) (λ p there. into p (contains_left (spots_of s) (spots_in rest) p there)))
      (known_in slots spots rest next (λ p there. into p (contains_right (spots_of s) (spots_in rest) p there)))

  known_each : (slots : Slots) (spots : List Spot) (l : Label) (k : ℕ) (bodies : Bodies) →
      ((p : Spot) → Contains (spots_in_each l k bodies) p → Contains spots p) → EachOf (Known slots spots) (rules_in_each slots l k bodies)
  known_each slots spots l k Last into = tt
  known_each slots spots l k (BodyOf weak body rest) into =
      each_append (Known slots spots) (rules_in slots body (SetsCounter (slots.ending l k))) (rules_in_each slots l (suc k) rest)
      (known_in slots spots body (SetsCounter (slots.ending l k)) (λ p there. into p (contains_further (EndOf l k) (spots_in body ++ spots_in_each l (suc k) rest) p
      (contains_left (spots_in body) (spots_in_each l (suc k) rest) p there))))
      (known_each slots spots l (suc k) rest (λ p there. into p (contains_further (EndOf l k) (spots_in body ++ spots_in_each l (suc k) rest) p
      (contains_right (spots_in body) (spots_in_each l (suc k) rest) p there))))

-- ---- what a rule can't ask

pub no_join : (condition : Condition) (n : Node) → AsksAt condition n → IsFlagged condition → IsJoinNode n → ⊥
no_join Flagged n known flag join = known join
no_join (Rested slot) n known flag join = flag
no_join (RestedIn slots) n known flag join = flag
no_join (Ended age needed) n known flag join = flag

pub no_end : (condition : Condition) (n : Node) → AsksAt condition n → IsResume condition → IsEndNode n → ⊥
no_end Flagged n known resume end = resume
no_end (Rested slot) n known resume end = known end
no_end (RestedIn slots) n known resume end = known end
no_end (Ended age needed) n known resume end = resume

pub not_both : (condition : Condition) → IsFlagged condition → IsResume condition → ⊥
not_both Flagged flag resume = resume
not_both (Rested slot) flag resume = flag
not_both (RestedIn slots) flag resume = flag
not_both (Ended age needed) flag resume = flag
