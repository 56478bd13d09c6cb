-- The numbers of a part's resting places by their positions are those by labels.
use Rattle.std.proofs.Common.{◌≡◌, ℕ, suc, ◌+◌, Bool, true, false, List, [], ◌∷◌, ◌++◌, length, map}
use Rattle.std.proofs.Common.{arith, ap, refl, sym, ◌∙◌, if◌then◌else◌}
use Rattle.std.proofs.lemmas.List.{length-append, map-append}
use Rattle.bl_graph_nodes.specs.Nodes.{some_strong}
use Rattle.bl_graph_nodes.specs.Plain.{Act, Again, Await, Block, Bodies, Body as BodyOf, Cobegin, Done, If, Label, Last, Plain, Repeat, Run as RunOf, Then}
use Rattle.bl_graph_nodes.specs.Plain.{Until, When, While}
use Rattle.bl_machine.specs.declared.slots.Slot.{Slot}
use Rattle.bl_machine.specs.Uses.{Slots}
use Rattle.bl_machine_pass.specs.SlotLayout.{Spot, slot_at, spots_in, spots_in_each, spots_of}
use Rattle.bl_machine_pass.specs.Transitions as nodes
use Rattle.bl_machine_transitions.specs.declared.transition.Needed.{Needed}
use Rattle.bl_machine_transitions.specs.Listed.{Layout, counters_from, endings, needed, place_count, places_in_branches, rests_in, rests_in_first, rests_of}
use Rattle.bl_machine_transitions.specs.Listed.{strong_endings}
use Rattle.bl_machine_transitions.specs.Told.{told_needed}
use Rattle.bl_machine_transitions_laws.proofs.Agreeing.{Agrees, in_first, in_second_at}

-- ---- lists

pub joined_is : {X : Type 0} (xs ys zs ws : List X) → xs ≡ ys → zs ≡ ws → xs ++ zs ≡ ys ++ ws
joined_is xs ys zs ws one two = ap (λ x. x ++ zs) one ∙ ap (λ x. ys ++ x) two

pub single_is : {X : Type 0} (x y : X) → x ≡ y → x ∷ [] ≡ y ∷ []
single_is x y is = ap (λ z. z ∷ []) is

pub pair_is : {X : Type 0} (x y z w : X) → x ≡ y → z ≡ w → x ∷ z ∷ [] ≡ y ∷ w ∷ []
pair_is x y z w one two = ap (λ a. a ∷ z ∷ []) one ∙ ap (λ a. y ∷ a ∷ []) two

pub cons_is : {X : Type 0} (x y : X) (xs ys : List X) → x ≡ y → xs ≡ ys → x ∷ xs ≡ y ∷ ys
cons_is x y xs ys one two = ap (λ a. a ∷ xs) one ∙ ap (λ a. y ∷ a) two

-- ---- how many places

pub branches_count : (l : Label) (k : ℕ) (bodies : Bodies) → places_in_branches bodies ≡ length (spots_in_each l k bodies)
branches_count l k Last = refl
branches_count l k (BodyOf weak body rest) =
    ap (λ n. suc (place_count body + n)) (branches_count l (suc k) rest)
    ∙ ap suc (sym (length-append (spots_in body) (spots_in_each l (suc k) rest)))

-- ---- counters by labels

module _ (slots : Slots) where
  abbrev counter_at : Spot → ℕ
  counter_at p = (slot_at slots p).counter

  mutual
    counters_of_spots : (s : Plain) → nodes.counters_of slots s ≡ map counter_at (spots_of s)
    counters_of_spots (Act l s) = refl
    counters_of_spots (Await l at e) = refl
    counters_of_spots (RunOf l at target a inputs outputs) = refl
    counters_of_spots (If l at e body other) =
        joined_is (nodes.counters_in slots body) (map counter_at (spots_in body)) (nodes.counters_in slots other) (map counter_at (spots_in other))
        (counters_in_spots body) (counters_in_spots other)
        ∙ sym (map-append counter_at (spots_in body) (spots_in other))
    counters_of_spots (Cobegin l at bodies) = counters_each_spots l 0 bodies
    counters_of_spots (When l at guard e body) = counters_in_spots body
    counters_of_spots (Repeat l at body) = counters_in_spots body
    counters_of_spots (Until l at body e) = counters_in_spots body
    counters_of_spots (While l at e body) = counters_in_spots body
    counters_of_spots (Again l at body e) = counters_in_spots body

    counters_in_spots : (body : Block) → nodes.counters_in slots body ≡ map counter_at (spots_in body)
    counters_in_spots Done = refl
    counters_in_spots (Then s rest) =
        joined_is (nodes.counters_of slots s) (map counter_at (spots_of s)) (nodes.counters_in slots rest) (map counter_at (spots_in rest))
        (counters_of_spots s) (counters_in_spots rest)
        ∙ sym (map-append counter_at (spots_of s) (spots_in rest))

    counters_each_spots : (l : Label) (k : ℕ) (bodies : Bodies) → nodes.counters_in_each slots l k bodies
        ≡ map counter_at (spots_in_each l k bodies)
    counters_each_spots l k Last = refl
    counters_each_spots l k (BodyOf weak body rest) =
        ap (λ xs. (slots.ending l k).counter ∷ xs)
        (joined_is (nodes.counters_in slots body) (map counter_at (spots_in body)) (nodes.counters_in_each slots l (suc k) rest)
        (map counter_at (spots_in_each l (suc k) rest)) (counters_in_spots body) (counters_each_spots l (suc k) rest)
        ∙ sym (map-append counter_at (spots_in body) (spots_in_each l (suc k) rest)))

module _ (slots : Slots) (layout : Layout) where
  -- the places from the position on have the numbers of their positions
  abbrev pub Placed : ℕ → List Spot → Type 0
  Placed p xs = Agrees (slot_at slots) layout.slot p xs

  -- ---- counters

  counters_agree : (xs : List Spot) (p : ℕ) → Placed p xs → map (counter_at slots) xs ≡ counters_from layout p (length xs)
  counters_agree [] p agrees = refl
  counters_agree (x ∷ xs) p agrees =
      cons_is (slot_at slots x).counter (layout.slot p).counter (map (counter_at slots) xs) (counters_from layout (suc p) (length xs))
      (ap (λ (slot : Slot). slot.counter) agrees.0) (counters_agree xs (suc p) agrees.1)

  pub counters_told : (body : Block) (p : ℕ) → Placed p (spots_in body) → nodes.counters_in slots body
      ≡ counters_from layout p (place_count body)
  counters_told body p agrees = counters_in_spots slots body ∙ counters_agree (spots_in body) p agrees

  pub counters_each_told : (l : Label) (bodies : Bodies) (p : ℕ) → Placed p (spots_in_each l 0 bodies) →
      nodes.counters_in_each slots l 0 bodies ≡ counters_from layout p (places_in_branches bodies)
  counters_each_told l bodies p agrees =
      counters_each_spots slots l 0 bodies ∙ counters_agree (spots_in_each l 0 bodies) p agrees
      ∙ ap (counters_from layout p) (sym (branches_count l 0 bodies))

  -- ---- where a part rests

  mutual
    rests_of_told : (s : Plain) (p : ℕ) → Placed p (spots_of s) → nodes.rests_of slots s ≡ rests_of layout p s
    rests_of_told (Act l s) p agrees = refl
    rests_of_told (Await l at e) p agrees = single_is (slots.rest l) (layout.slot p) agrees.0
    rests_of_told (RunOf l at target a inputs outputs) p agrees = single_is (slots.rest l) (layout.slot p) agrees.0
    rests_of_told (If l at e body other) p agrees =
        joined_is (nodes.rests_in slots body) (rests_in layout p body) (nodes.rests_in slots other) (rests_in layout (p + place_count body) other)
        (rests_told body p (in_first (slot_at slots) layout.slot (spots_in body) (spots_in other) p agrees))
        (rests_told other (p + place_count body)
        (in_second_at (slot_at slots) layout.slot (spots_in body) (spots_in other) p (p + place_count body) refl agrees))
    rests_of_told (Cobegin l at bodies) p agrees = rests_first_told l bodies p agrees
    rests_of_told (When l at guard e body) p agrees = rests_told body p agrees
    rests_of_told (Repeat l at body) p agrees = rests_told body p agrees
    rests_of_told (Until l at body e) p agrees = rests_told body p agrees
    rests_of_told (While l at e body) p agrees = rests_told body p agrees
    rests_of_told (Again l at body e) p agrees = rests_told body p agrees

    pub rests_told : (body : Block) (p : ℕ) → Placed p (spots_in body) → nodes.rests_in slots body ≡ rests_in layout p body
    rests_told Done p agrees = refl
    rests_told (Then s rest) p agrees =
        joined_is (nodes.rests_of slots s) (rests_of layout p s) (nodes.rests_in slots rest) (rests_in layout (p + length (spots_of s)) rest)
        (rests_of_told s p (in_first (slot_at slots) layout.slot (spots_of s) (spots_in rest) p agrees))
        (rests_told rest (p + length (spots_of s))
        (in_second_at (slot_at slots) layout.slot (spots_of s) (spots_in rest) p (p + length (spots_of s)) refl agrees))

    rests_first_told : (l : Label) (bodies : Bodies) (p : ℕ) → Placed p (spots_in_each l 0 bodies) →
        nodes.rests_in_first slots l bodies ≡ rests_in_first layout p bodies
    rests_first_told l Last p agrees = refl
    rests_first_told l (BodyOf weak body rest) p agrees =
        cons_is (slots.ending l 0) (layout.slot p) (nodes.rests_in slots body) (rests_in layout (suc p) body) agrees.0
        (rests_told body (suc p) (in_first (slot_at slots) layout.slot (spots_in body) (spots_in_each l 1 rest) (suc p) agrees.1))

  -- ---- the ends of branches

  -- the places behind the first branch
  pub further : (l : Label) (k : ℕ) (body : Block) (rest : Bodies) (weak : Bool) (p : ℕ) →
      Placed p (spots_in_each l k (BodyOf weak body rest)) →
      Placed (suc (p + place_count body)) (spots_in_each l (suc k) rest)
  further l k body rest weak p agrees =
      let is : suc p + length (spots_in body) ≡ suc (p + length (spots_in body)) = omega arith in
      in_second_at (slot_at slots) layout.slot (spots_in body) (spots_in_each l (suc k) rest) (suc p) (suc (p + place_count body)) is agrees.1

  endings_told : (l : Label) (k : ℕ) (bodies : Bodies) (p : ℕ) → Placed p (spots_in_each l k bodies) →
      nodes.endings slots l k bodies ≡ endings layout p bodies
  endings_told l k Last p agrees = refl
  endings_told l k (BodyOf weak body rest) p agrees =
      cons_is (slots.ending l k) (layout.slot p) (nodes.endings slots l (suc k) rest) (endings layout (suc (p + place_count body)) rest) agrees.0
      (endings_told l (suc k) rest (suc (p + place_count body)) (further l k body rest weak p agrees))

  strong_told : (l : Label) (k : ℕ) (bodies : Bodies) (p : ℕ) → Placed p (spots_in_each l k bodies) →
      nodes.strong_endings slots l k bodies ≡ strong_endings layout p bodies
  strong_told l k Last p agrees = refl
  strong_told l k (BodyOf true body rest) p agrees =
      strong_told l (suc k) rest (suc (p + place_count body)) (further l k body rest true p agrees)
  strong_told l k (BodyOf false body rest) p agrees =
      cons_is (slots.ending l k) (layout.slot p) (nodes.strong_endings slots l (suc k) rest) (strong_endings layout (suc (p + place_count body)) rest)
      agrees.0 (strong_told l (suc k) rest (suc (p + place_count body)) (further l k body rest false p agrees))

  abbrev needed_with : Bool → List Slot → Needed
  needed_with all slots = record { all = all; slots = slots }

  -- in the one case and in the other
  needed_by : (strong : Bool) (some all other others : List Slot) → some ≡ other → all ≡ others →
      told_needed (if strong then record { all = true; slots = some } else record { all = false; slots = all })
      ≡ (if strong then record { all = true; slots = other } else record { all = false; slots = others })
  needed_by true some all other others one two = ap (needed_with true) one
  needed_by false some all other others one two = ap (needed_with false) two

  pub needed_told : (l : Label) (bodies : Bodies) (p : ℕ) → Placed p (spots_in_each l 0 bodies) →
      told_needed (nodes.needed slots l bodies) ≡ needed layout p bodies
  needed_told l bodies p agrees =
      needed_by (some_strong bodies) (nodes.strong_endings slots l 0 bodies) (nodes.endings slots l 0 bodies) (strong_endings layout p bodies)
      (endings layout p bodies) (strong_told l 0 bodies p agrees) (endings_told l 0 bodies p agrees)
