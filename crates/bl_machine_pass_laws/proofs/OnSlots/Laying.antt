-- A layout of places by their numbers in source order is one by labels.
use Rattle.std.proofs.Common.{◌≡◌, ℕ, zero, suc, ◌+◌, ◌<◌, ◌≤◌, Bool, true, false, ◌||◌, List, [], ◌∷◌, ◌++◌, Some}
use Rattle.std.proofs.Common.{Contains, length, unwrap_or, refl, sym, ap, subst, ◌∙◌, arith, eqb-true, length-append}
use Rattle.std.specs.Prelude.{slice_get, slice_index}
use Rattle.std.proofs.lemmas.Option.{slice_get-get_or}
use Rattle.bl_graph_nodes.specs.Plain.{Act, Again, Await, Block, Bodies, Body as BodyOf, Cobegin, Done, If, Label, Last, Plain, Repeat, Run as RunOf, Then}
use Rattle.bl_graph_nodes.specs.Plain.{Until, When, While}
use Rattle.bl_machine.specs.declared.slots.Slot.{Slot}
use Rattle.bl_machine.specs.Counters.{AllRestAt, EachRests, RestsAt}
use Rattle.bl_machine.specs.Layout.{places_in, places_in_each, resting_places}
use Rattle.bl_machine.specs.Slots.{Counters, counters_at, numbered_slots}
use Rattle.bl_machine.specs.Uses.{Slots, is_of, uses, uses_in, uses_in_branch, uses_in_each}
use Rattle.bl_machine_pass.specs.SlotLayout.{BlockRestsAt, BranchesRestAt, EndOf, RestOf, SlotsAreDistinct, Spot, StatementRestsAt, slot_at, spots_in, spots_in_each, spots_of}
use Rattle.bl_machine_pass.specs.Numbered.{no_slot, slot_for, slots_of}
use Rattle.bl_machine_pass_laws.specs.Slots.Branches.{BranchesInEach, BranchesOf, EachBranches}
use Rattle.bl_machine_pass_laws.proofs.OnSlots.Finding.{member_at, number_at}
use Rattle.bl_machine_pass_laws.proofs.OnSlots.Numbering.{numbered_counted, numbered_once}
use Rattle.bl_machine_pass_laws.specs.Spots.{SpotsAreDistinct}

-- ---- each part has as many resting places as places

mutual
  spots_many : (s : Plain) → length (spots_of s) ≡ resting_places s
  spots_many (Act l s) = refl
  spots_many (Await l at e) = refl
  spots_many (RunOf l at target a inputs outputs) = refl
  spots_many (If l at e body other) =
      let one = spots_in_many body in let two = spots_in_many other in let all = length-append (spots_in body) (spots_in other) in omega arith
  spots_many (Cobegin l at bodies) = spots_in_each_many l 0 bodies
  spots_many (When l at guard e body) = spots_in_many body
  spots_many (Repeat l at body) = spots_in_many body
  spots_many (Until l at body e) = spots_in_many body
  spots_many (While l at e body) = spots_in_many body
  spots_many (Again l at body e) = spots_in_many body

  spots_in_many : (body : Block) → length (spots_in body) ≡ places_in body
  spots_in_many Done = refl
  spots_in_many (Then s rest) =
      let one = spots_many s in let two = spots_in_many rest in let all = length-append (spots_of s) (spots_in rest) in omega arith

  spots_in_each_many : (l : Label) (k : ℕ) (bodies : Bodies) → length (spots_in_each l k bodies) ≡ places_in_each bodies
  spots_in_each_many l k Last = refl
  spots_in_each_many l k (BodyOf weak body rest) =
      let one = spots_in_many body in
      let two = spots_in_each_many l (suc k) rest in
      let all = length-append (spots_in body) (spots_in_each l (suc k) rest) in omega arith

-- ---- a part among all places

get_left : (xs ys : List Spot) (m : ℕ) (p : Spot) → slice_get xs m ≡ Some p → slice_get (xs ++ ys) m ≡ Some p
get_left [] ys m p is = absurd cc
get_left (x ∷ xs) ys zero p is = is
get_left (x ∷ xs) ys (suc m) p is = get_left xs ys m p is

get_right : (xs ys : List Spot) (m k : ℕ) (p : Spot) → k ≡ length xs + m → slice_get ys m ≡ Some p → slice_get (xs ++ ys) k ≡ Some p
get_right [] ys m k p at is = subst (λ n. slice_get ys n ≡ Some p) (let same : m ≡ k = omega arith in same) is
get_right (x ∷ xs) ys m zero p at is = absurd (omega arith)
get_right (x ∷ xs) ys m (suc k) p at is = get_right xs ys m k p (omega arith) is

-- these stand among all places from this number on
abbrev Window : List Spot → ℕ → List Spot → Type 0
Window all first part = (m k : ℕ) (p : Spot) → k ≡ first + m → slice_get part m ≡ Some p → slice_get all k ≡ Some p

window_left : (all : List Spot) (first : ℕ) (xs ys : List Spot) → Window all first (xs ++ ys) → Window all first xs
window_left all first xs ys window m k p at is = window m k p at (get_left xs ys m p is)

window_right : (all : List Spot) (first next : ℕ) (xs ys : List Spot) → next ≡ first + length xs → Window all first (xs ++ ys) → Window all next ys
window_right all first next xs ys start window m k p at is =
    window (length xs + m) k p (omega arith) (get_right xs ys m (length xs + m) p refl is)

-- ---- counters by labels

module _ (list : List Slot) (all : List Spot) (differ : SpotsAreDistinct all) (slots : Slots)
    (rest : (l : Label) → slots.rest l ≡ slot_for list all (RestOf l))
    (ending : (l : Label) (k : ℕ) → slots.ending l k ≡ slot_for list all (EndOf l k))
  where
    -- the counters in source order
    abbrev counter : ℕ → ℕ
    counter = slice_index (counters_at list)

    counter_at : (some : List Slot) (i : ℕ) → (unwrap_or (slice_get some i) no_slot).counter ≡ slice_index (counters_at some) i
    counter_at [] i = refl
    counter_at (x ∷ xs) zero = refl
    counter_at (x ∷ xs) (suc i) = counter_at xs i

    slot_counter : (p : Spot) (i : ℕ) → slice_get all i ≡ Some p → (slot_for list all p).counter ≡ counter i
    slot_counter p i is = ap (λ (x : Slot). x.counter) (number_at list all i p differ is) ∙ counter_at list i

    rest_counter : (l : Label) (i : ℕ) → slice_get all i ≡ Some (RestOf l) → (slots.rest l).counter ≡ counter i
    rest_counter l i is = ap (λ (x : Slot). x.counter) (rest l) ∙ slot_counter (RestOf l) i is

    end_counter : (l : Label) (k i : ℕ) → slice_get all i ≡ Some (EndOf l k) → (slots.ending l k).counter ≡ counter i
    end_counter l k i is = ap (λ (x : Slot). x.counter) (ending l k) ∙ slot_counter (EndOf l k) i is

    -- the counter is that of one of these places
    record Used (first last j : ℕ) : Type 0 where
      number : ℕ
      low : first ≤ number
      high : number < last
      is : counter number ≡ j

    used_more : (first last first' last' j : ℕ) → first' ≤ first → last ≤ last' → Used first last j → Used first' last' j
    used_more first last first' last' j low high used =
        let one = used.low in let two = used.high in record { number = used.number; low = omega arith; high = omega arith; is = used.is }

    or_case : {A : Type 0} (a b : Bool) → (a || b) ≡ true → (a ≡ true → A) → (b ≡ true → A) → A
    or_case true b e first second = first refl
    or_case false b e first second = second e

    -- the places in a branch, and those in the further ones
    body_window : (first : ℕ) (l : Label) (k : ℕ) (weak : Bool) (body : Block) (rest : Bodies) →
        Window all first (spots_in_each l k (BodyOf weak body rest)) → Window all (suc first) (spots_in body)
    body_window first l k weak body rest window =
        window_left all (suc first) (spots_in body) (spots_in_each l (suc k) rest)
        (window_right all first (suc first) (EndOf l k ∷ []) (spots_in body ++ spots_in_each l (suc k) rest) (omega arith) window)

    rest_window : (first : ℕ) (l : Label) (k : ℕ) (weak : Bool) (body : Block) (rest : Bodies) →
        Window all first (spots_in_each l k (BodyOf weak body rest)) → Window all (suc first + places_in body) (spots_in_each l (suc k) rest)
    rest_window first l k weak body rest window =
        let many = spots_in_many body in
        window_right all (suc first) (suc first + places_in body) (spots_in body) (spots_in_each l (suc k) rest) (omega arith)
        (window_right all first (suc first) (EndOf l k ∷ []) (spots_in body ++ spots_in_each l (suc k) rest) (omega arith) window)

    mutual
      used_of : (first : ℕ) (s : Plain) (j : ℕ) → Window all first (spots_of s) → uses slots s j ≡ true → Used first (first + resting_places s) j
      used_of first (Act l s) j window on = absurd cc
      used_of first (Await l at e) j window on = record {
        number = first;
        low = omega arith;
        high = omega arith;
        is = sym (rest_counter l first (window 0 first (RestOf l) (omega arith) refl)) ∙ sym (eqb-true j (slots.rest l).counter on);
      }
      used_of first (RunOf l at target a inputs outputs) j window on = record {
        number = first;
        low = omega arith;
        high = omega arith;
        is = sym (rest_counter l first (window 0 first (RestOf l) (omega arith) refl)) ∙ sym (eqb-true j (slots.rest l).counter on);
      }
      used_of first (If l at e body other) j window on =
          let many = spots_in_many body in
          or_case (uses_in slots body j) (uses_in slots other j) on
          (λ e. used_more first (first + places_in body) first (first + (places_in body + places_in other)) j (omega arith) (omega arith)
          (used_in first body j (window_left all first (spots_in body) (spots_in other) window) e))
          (λ e. used_more (first + places_in body) ((first + places_in body) + places_in other) first (first + (places_in body + places_in other)) j
          (omega arith) (omega arith)
          (used_in (first + places_in body) other j
          (window_right all first (first + places_in body) (spots_in body) (spots_in other) (omega arith) window) e))
      used_of first (Cobegin l at bodies) j window on = used_in_each first l 0 bodies j window on
      used_of first (When l at guard e body) j window on = used_in first body j window on
      used_of first (Repeat l at body) j window on = used_in first body j window on
      used_of first (Until l at body e) j window on = used_in first body j window on
      used_of first (While l at e body) j window on = used_in first body j window on
      used_of first (Again l at body e) j window on = used_in first body j window on

      used_in : (first : ℕ) (body : Block) (j : ℕ) → Window all first (spots_in body) → uses_in slots body j ≡ true →
          Used first (first + places_in body) j
      used_in first Done j window on = absurd cc
      used_in first (Then s rest) j window on =
          let many = spots_many s in
          or_case (uses slots s j) (uses_in slots rest j) on
          (λ e. used_more first (first + resting_places s) first (first + (resting_places s + places_in rest)) j (omega arith) (omega arith)
          (used_of first s j (window_left all first (spots_of s) (spots_in rest) window) e))
          (λ e. used_more (first + resting_places s) ((first + resting_places s) + places_in rest) first (first + (resting_places s + places_in rest)) j
          (omega arith) (omega arith)
          (used_in (first + resting_places s) rest j
          (window_right all first (first + resting_places s) (spots_of s) (spots_in rest) (omega arith) window) e))

      used_in_each : (first : ℕ) (l : Label) (k : ℕ) (bodies : Bodies) (j : ℕ) → Window all first (spots_in_each l k bodies) →
          uses_in_each slots l k bodies j ≡ true → Used first (first + places_in_each bodies) j
      used_in_each first l k Last j window on = absurd cc
      used_in_each first l k (BodyOf weak body rest) j window on =
          or_case (uses_in_branch slots l k body j) (uses_in_each slots l (suc k) rest j) on
          (λ e. or_case (is_of (slots.ending l k) j) (uses_in slots body j) e
          (λ ends. record {
            number = first;
            low = omega arith;
            high = omega arith;
            is = sym (end_counter l k first (window 0 first (EndOf l k) (omega arith) refl)) ∙ sym (eqb-true j (slots.ending l k).counter ends);
          })
          (λ inner. used_more (suc first) (suc first + places_in body) first (first + (suc (places_in body) + places_in_each rest)) j
          (omega arith) (omega arith) (used_in (suc first) body j (body_window first l k weak body rest window) inner)))
          (λ e. used_more (suc first + places_in body) ((suc first + places_in body) + places_in_each rest) first
          (first + (suc (places_in body) + places_in_each rest)) j (omega arith) (omega arith)
          (used_in_each (suc first + places_in body) l (suc k) rest j (rest_window first l k weak body rest window) e))

    used_branch : (first : ℕ) (l : Label) (k : ℕ) (weak : Bool) (body : Block) (rest : Bodies) (j : ℕ) →
        Window all first (spots_in_each l k (BodyOf weak body rest)) → uses_in_branch slots l k body j ≡ true →
        Used first (suc first + places_in body) j
    used_branch first l k weak body rest j window on =
        or_case (is_of (slots.ending l k) j) (uses_in slots body j) on
        (λ e. record {
          number = first;
          low = omega arith;
          high = omega arith;
          is = sym (end_counter l k first (window 0 first (EndOf l k) (omega arith) refl)) ∙ sym (eqb-true j (slots.ending l k).counter e);
        })
        (λ e. used_more (suc first) (suc first + places_in body) first (suc first + places_in body) j (omega arith) (omega arith)
        (used_in (suc first) body j (body_window first l k weak body rest window) e))

    isnt : (b : Bool) → (b ≡ true → ⊥) → b ≡ false
    isnt true none = absurd (none refl)
    isnt false none = refl

    mutual
      laid_of : (low first : ℕ) (s : Plain) → Window all first (spots_of s) → BranchesOf s → RestsAt counter low first s → StatementRestsAt slots low s
      laid_of low first (Act l s) window has rests = tt
      laid_of low first (Await l at e) window has rests = rest_counter l first (window 0 first (RestOf l) (omega arith) refl) ∙ rests
      laid_of low first (RunOf l at target a inputs outputs) window has rests =
          rest_counter l first (window 0 first (RestOf l) (omega arith) refl) ∙ rests
      laid_of low first (If l at e body other) window has rests =
          let many = spots_in_many body in (
            laid_in low first body (window_left all first (spots_in body) (spots_in other) window) has.0 rests.0,
            laid_in low (first + places_in body) other
                (window_right all first (first + places_in body) (spots_in body) (spots_in other) (omega arith) window) has.1 rests.1,
          )
      laid_of low first (Cobegin l at Last) window has rests = absurd has.0
      laid_of low first (Cobegin l at (BodyOf weak body rest)) window has rests = (
        end_counter l 0 first (window 0 first (EndOf l 0) (omega arith) refl) ∙ rests.0,
        laid_each first l 0 (BodyOf weak body rest) window has.1 rests.1,
      )
      laid_of low first (When l at guard e body) window has rests = laid_in low first body window has rests
      laid_of low first (Repeat l at body) window has rests = laid_in low first body window has rests
      laid_of low first (Until l at body e) window has rests = laid_in low first body window has rests
      laid_of low first (While l at e body) window has rests = laid_in low first body window has rests
      laid_of low first (Again l at body e) window has rests = laid_in low first body window has rests

      pub laid_in : (low first : ℕ) (body : Block) → Window all first (spots_in body) → EachBranches body → AllRestAt counter low first body →
          BlockRestsAt slots low body
      laid_in low first Done window has rests = tt
      laid_in low first (Then s rest) window has rests =
          let many = spots_many s in (
            laid_of low first s (window_left all first (spots_of s) (spots_in rest) window) has.0 rests.0,
            laid_in low (first + resting_places s) rest
                (window_right all first (first + resting_places s) (spots_of s) (spots_in rest) (omega arith) window) has.1 rests.1,
          )

      laid_each : (first : ℕ) (l : Label) (k : ℕ) (bodies : Bodies) → Window all first (spots_in_each l k bodies) → BranchesInEach bodies →
          EachRests counter first bodies → BranchesRestAt slots l k bodies
      laid_each first l k Last window has rests = tt
      laid_each first l k (BodyOf weak body rest) window has rests = (
        subst (λ low. BlockRestsAt slots low body) (sym (end_counter l k first (window 0 first (EndOf l k) (omega arith) refl)))
            (laid_in (counter first) (suc first) body (body_window first l k weak body rest window) has.0 rests.0),
        λ j on. isnt (uses_in_each slots l (suc k) rest j)
            (λ more. meet j (used_branch first l k weak body rest j window on)
            (used_in_each (suc first + places_in body) l (suc k) rest j (rest_window first l k weak body rest window) more)),
        laid_each (suc first + places_in body) l (suc k) rest (rest_window first l k weak body rest window) has.1 rests.2,
      )
        where
          meet : (j : ℕ) → Used first (suc first + places_in body) j →
              Used (suc first + places_in body) ((suc first + places_in body) + places_in_each rest) j → ⊥
          meet j one two = rests.1 one.number two.number one.low one.high two.low two.high (one.is ∙ sym two.is)

-- ---- the law

module _ (body : Block) (list : List Slot) (differ : SpotsAreDistinct (spots_in body)) (counters : Counters body list) (has : EachBranches body) where
  abbrev slots : Slots
  slots = slots_of body list

  -- the number of a place is that of the list where it stands
  listed : (p : Spot) → slot_at slots p ≡ slot_for list (spots_in body) p
  listed (RestOf l) = refl
  listed (EndOf l k) = refl

  within : (p : Spot) (i : ℕ) → slice_get (spots_in body) i ≡ Some p → i < length (spots_in body) → slice_get list i ≡ Some (slot_at slots p)
  within p i is below =
      let many = spots_in_many body in
      let each = counters.one_each in
      slice_get-get_or list i no_slot (omega arith)
      ∙ ap Some (sym (ap (λ found. unwrap_or found no_slot) (slice_get-get_or list i no_slot (omega arith)))
      ∙ sym (listed p ∙ number_at list (spots_in body) i p differ is))

  numbers_there : (p : Spot) (h : Contains (spots_in body) p) → slice_get (numbered_slots (counters_at list)) h.0 ≡ Some (slot_at slots p)
  numbers_there p h = ap (λ xs. slice_get xs h.0) (sym counters.values) ∙ within p h.0 (member_at (spots_in body) p h) h.1

  alone : (p q : Spot) → Contains (spots_in body) p → Contains (spots_in body) q → slot_at slots p ≡ slot_at slots q → p ≡ q
  alone p q hp hq same =
      ap (λ found. unwrap_or found p)
      (sym (member_at (spots_in body) p hp)
      ∙ ap (λ i. slice_get (spots_in body) i)
      (numbered_once (counters_at list) hp.0 hq.0 (slot_at slots q) (numbers_there p hp ∙ ap Some same) (numbers_there q hq))
      ∙ member_at (spots_in body) q hq)

  pub numbers_laid : SlotsAreDistinct slots body
  numbers_laid = record {
    rests = laid_in list (spots_in body) differ slots (λ l. refl) (λ l k. refl) 0 0 body (λ m k p at is. subst (λ n. slice_get (spots_in body) n ≡ Some p)
        (let same : m ≡ k = omega arith in same) is) has counters.rest;
    alone = alone;
    counted = λ p h none. numbered_counted (counters_at list) h.0 (slot_at slots p) (numbers_there p h) none;
  }
