-- The numbers at which a part rests follow one another.
use Rattle.std.proofs.Common.{◌≡◌, ℕ, zero, suc, ◌+◌, ◌<◌, ◌≤◌, Bool, true, ◌&&◌, List, [], ◌∷◌}
use Rattle.std.proofs.Common.{◌++◌, Some, nat_eq, refl, sym, ap, subst}
use Rattle.std.proofs.Common.{◌∙◌, arith, length, unwrap_or, eq-eqb, eqb-true}
use Rattle.std.specs.Prelude.{slice_get, slice_index}
use Rattle.std.proofs.lemmas.List.{length-append}
use Rattle.std.proofs.lemmas.Bool.{and_from}
use Rattle.bl_tree.proofs.Basics.{and_first, and_second}
use Rattle.bl_graph_nodes.specs.Plain.{Act, Again, Await, Block, Bodies, Body as BodyOf, Cobegin, Done, If, Label, Last, Plain, Repeat, Run as RunOf, Then}
use Rattle.bl_graph_nodes.specs.Plain.{Until, When, While}
use Rattle.bl_machine.specs.declared.slots.Slot.{Slot}
use Rattle.bl_machine.specs.Counters.{AllRestAt, EachRests, RestsAt}
use Rattle.bl_machine.specs.Layout.{places_in, places_in_each, resting_places}
use Rattle.bl_machine.specs.Slots.{counters_at, numbered_slots}
use Rattle.bl_machine.specs.Uses.{Slots}
use Rattle.bl_machine_pass.specs.SlotLayout.{Spot, slot_at, spots_in, spots_in_each, spots_of}
use Rattle.bl_machine_pass.specs.Numbered.{no_slot}
use Rattle.bl_machine_pass.specs.Transitions.{rests_in, rests_of}
use Rattle.bl_machine_transitions_laws.proofs.Agreeing.{Agrees, in_first, in_second_at}
use Rattle.bl_emit_spec_laws.specs.Registers.Laws.{are_in_a_row, follow_on}
use Rattle.bl_emit_spec_laws.proofs.OnOwn.Counting.{counter_at, front_more, in_front, none_other, one_if, one_itself, value_at}
use Rattle.bl_emit_spec_laws.proofs.OnOwn.Fitting.{RowsEach, RowsIn, RowsOf}

-- ---- how many places

mutual
  spots_many : (s : Plain) → length (spots_of s) ≡ resting_places s
  spots_many (Act l s) = refl
  spots_many (Await l at e) = refl
  spots_many (RunOf l at target a inputs outputs) = refl
  spots_many (If l at e body other) =
      let one = spots_in_many body in let two = spots_in_many other in let all = length-append (spots_in body) (spots_in other) in omega arith
  spots_many (Cobegin l at bodies) = spots_in_each_many l 0 bodies
  spots_many (When l at guard e body) = spots_in_many body
  spots_many (Repeat l at body) = spots_in_many body
  spots_many (Until l at body e) = spots_in_many body
  spots_many (While l at e body) = spots_in_many body
  spots_many (Again l at body e) = spots_in_many body

  pub spots_in_many : (body : Block) → length (spots_in body) ≡ places_in body
  spots_in_many Done = refl
  spots_in_many (Then s rest) =
      let one = spots_many s in let two = spots_in_many rest in let all = length-append (spots_of s) (spots_in rest) in omega arith

  spots_in_each_many : (l : Label) (k : ℕ) (bodies : Bodies) → length (spots_in_each l k bodies) ≡ places_in_each bodies
  spots_in_each_many l k Last = refl
  spots_in_each_many l k (BodyOf weak body rest) =
      let one = spots_in_many body in
      let two = spots_in_each_many l (suc k) rest in
      let all = length-append (spots_in body) (spots_in_each l (suc k) rest) in omega arith

-- ---- rows

follow_both : (low v w : ℕ) (xs ys : List Slot) → w ≡ v + length xs → follow_on low v xs ≡ true → follow_on low w ys ≡ true →
    follow_on low v (xs ++ ys) ≡ true
follow_both low v w [] ys is one two = subst (λ n. follow_on low n ys ≡ true) (let same : w ≡ v = omega (arith, is) in same) two
follow_both low v w (x ∷ xs) ys is one two =
    let inner = and_second (nat_eq x.counter low) (nat_eq x.value v && follow_on low (suc v) xs) one in
    and_from (nat_eq x.counter low) (nat_eq x.value v && follow_on low (suc v) (xs ++ ys))
    (and_first (nat_eq x.counter low) (nat_eq x.value v && follow_on low (suc v) xs) one)
    (and_from (nat_eq x.value v) (follow_on low (suc v) (xs ++ ys)) (and_first (nat_eq x.value v) (follow_on low (suc v) xs) inner)
    (follow_both low (suc v) w xs ys (let same : w ≡ suc v + length xs = omega (arith, is) in same)
    (and_second (nat_eq x.value v) (follow_on low (suc v) xs) inner) two))

row_of_follow : (low v : ℕ) (xs : List Slot) → follow_on low v xs ≡ true → are_in_a_row xs ≡ true
row_of_follow low v [] on = refl
row_of_follow low v (x ∷ xs) on =
    let inner = and_second (nat_eq x.counter low) (nat_eq x.value v && follow_on low (suc v) xs) on in
    let counter : x.counter ≡ low = eqb-true x.counter low (and_first (nat_eq x.counter low) (nat_eq x.value v && follow_on low (suc v) xs) on) in
    let value : x.value ≡ v = eqb-true x.value v (and_first (nat_eq x.value v) (follow_on low (suc v) xs) inner) in
    subst (λ c. follow_on c (suc x.value) xs ≡ true) (sym counter)
    (subst (λ n. follow_on low (suc n) xs ≡ true) (sym value) (and_second (nat_eq x.value v) (follow_on low (suc v) xs) inner))

pub there_at : (list : List Slot) (i : ℕ) → i < length list → slice_get list i ≡ Some (unwrap_or (slice_get list i) no_slot)
there_at [] i below = absurd (omega (arith, below))
there_at (x ∷ list) zero below = refl
there_at (x ∷ list) (suc i) below = there_at list i (omega (arith, below))

index_at : (xs : List ℕ) (i x : ℕ) → slice_get xs i ≡ Some x → slice_index xs i ≡ x
index_at [] i x is = absurd (cc)
index_at (y ∷ xs) zero x is = cc
index_at (y ∷ xs) (suc i) x is = index_at xs i x is

module _ (list : List Slot) (counted : list ≡ numbered_slots (counters_at list)) (slots : Slots) where
  abbrev counter : ℕ → ℕ
  counter = slice_index (counters_at list)

  -- what stands at a position
  abbrev slot : ℕ → Slot
  slot i = unwrap_or (slice_get list i) no_slot

  -- how often the counter stands before a position
  abbrev count : ℕ → ℕ → ℕ
  count low i = in_front low i (counters_at list)

  -- the places from the position on have the numbers of their positions
  abbrev pub Placed : ℕ → List Spot → Type 0
  Placed first xs = Agrees (slot_at slots) slot first xs

  counter_there : (i : ℕ) → i < length list → slice_get (counters_at list) i ≡ Some (slot i).counter
  counter_there i below = counter_at list i (slot i) (there_at list i below)

  is_counter : (i : ℕ) → i < length list → counter i ≡ (slot i).counter
  is_counter i below = index_at (counters_at list) i (slot i).counter (counter_there i below)

  -- ---- one place

  -- the numbers follow one another from the position on
  record Row (low first last : ℕ) (xs : List Slot) : Type 0 where
    follow : follow_on low (suc (count low first)) xs ≡ true
    many : count low last ≡ count low first + length xs

  row_one : (low i : ℕ) (x : Slot) → i < length list → counter i ≡ low → x ≡ slot i → Row low i (i + 1) (x ∷ [])
  row_one low i x below at is =
      let of_slot : x.counter ≡ low = ap (λ (y : Slot). y.counter) is ∙ sym (is_counter i below) ∙ at in
      let value : (slot i).value ≡ suc (count (slot i).counter i) =
      value_at (counters_at list) i (slot i) (ap (λ xs. slice_get xs i) (sym counted) ∙ there_at list i below) in
      let low_is : (slot i).counter ≡ low = sym (is_counter i below) ∙ at in
      let of_value : x.value ≡ suc (count low i) = ap (λ (y : Slot). y.value) is ∙ value ∙ ap (λ c. suc (count c i)) low_is in
      let there : slice_get (counters_at list) i ≡ Some low = counter_there i below ∙ ap Some low_is in
      let more = front_more low (counters_at list) i low there in
      let one = one_itself low in
      let next : suc i ≡ i + 1 = omega arith in
      record {
        follow = and_from (nat_eq x.counter low) (nat_eq x.value (suc (count low i)) && true) (eq-eqb x.counter low of_slot)
            (and_from (nat_eq x.value (suc (count low i))) true (eq-eqb x.value (suc (count low i)) of_value) refl);
        many = ap (count low) (sym next) ∙ (let sum : count low (suc i) ≡ count low i + 1 = omega arith in sum);
      }

  -- places of other counters
  flat : (low first n : ℕ) → first + n ≤ length list → ((j : ℕ) → first ≤ j → j < first + n → counter j ≡ low → ⊥) →
      count low (first + n)
      ≡ count low first
  flat low first zero within none = let same : first + 0 ≡ first = omega arith in ap (count low) same
  flat low first (suc n) within none =
      let before = flat low first n (omega (arith, within)) (λ j least most. none j least (omega (arith, most))) in
      let below : first + n < length list = omega (arith, within) in
      let more = front_more low (counters_at list) (first + n) (slot (first + n)).counter (counter_there (first + n) below) in
      let nothing : one_if low (slot (first + n)).counter ≡ 0 =
      none_other low (slot (first + n)).counter (λ is. none (first + n) (omega arith) (omega arith) (is_counter (first + n) below ∙ is)) in
      let next : first + suc n ≡ suc (first + n) = omega arith in
      ap (count low) next ∙ (let sum : count low (suc (first + n)) ≡ count low first = omega arith in sum)

  row_none : (low first last : ℕ) → count low last ≡ count low first → Row low first last []
  row_none low first last is = record { follow = refl; many = (let sum : count low last ≡ count low first + 0 = omega (arith, is) in sum) }

  row_both : (low first middle last : ℕ) (xs ys : List Slot) → Row low first middle xs → Row low middle last ys →
      Row low first last (xs ++ ys)
  row_both low first middle last xs ys one two =
      let a = one.many in
      let b = two.many in
      let all = length-append xs ys in
      record {
        follow = follow_both low (suc (count low first)) (suc (count low middle)) xs ys
            (let same : suc (count low middle) ≡ suc (count low first) + length xs = omega arith in same) one.follow two.follow;
        many = (let sum : count low last ≡ count low first + length (xs ++ ys) = omega arith in sum);
      }

  row_until : (low first last last' : ℕ) (xs : List Slot) → last ≡ last' → Row low first last xs → Row low first last' xs
  row_until low first last last' xs is row = subst (λ n. Row low first n xs) is row

  -- ---- parts

  -- the places of a branch, and those behind it
  in_body : (first : ℕ) (l : Label) (k : ℕ) (weak : Bool) (body : Block) (rest : Bodies) →
      Placed first (spots_in_each l k (BodyOf weak body rest)) →
      Placed (suc first) (spots_in body)
  in_body first l k weak body rest placed = in_first (slot_at slots) slot (spots_in body) (spots_in_each l (suc k) rest) (suc first) placed.1

  in_rest : (first : ℕ) (l : Label) (k : ℕ) (weak : Bool) (body : Block) (rest : Bodies) →
      Placed first (spots_in_each l k (BodyOf weak body rest)) →
      Placed (suc first + places_in body) (spots_in_each l (suc k) rest)
  in_rest first l k weak body rest placed =
      in_second_at (slot_at slots) slot (spots_in body) (spots_in_each l (suc k) rest) (suc first) (suc first + places_in body)
      (ap (λ n. suc first + n) (spots_in_many body)) placed.1

  in_left : (first : ℕ) (xs ys : List Spot) → Placed first (xs ++ ys) → Placed first xs
  in_left first xs ys placed = in_first (slot_at slots) slot xs ys first placed

  in_right : (first n : ℕ) (xs ys : List Spot) → length xs ≡ n → Placed first (xs ++ ys) → Placed (first + n) ys
  in_right first n xs ys is placed = in_second_at (slot_at slots) slot xs ys first (first + n) (ap (λ m. first + m) is) placed

  mutual
    row_of : (low first : ℕ) (s : Plain) → first + resting_places s ≤ length list → Placed first (spots_of s) → RestsAt counter low first s →
        Row low first (first + resting_places s) (rests_of slots s)
    row_of low first (Act l s) within placed rests =
        row_none low first (first + 0) (let same : first + 0 ≡ first = omega arith in ap (count low) same)
    row_of low first (Await l at e) within placed rests = row_one low first (slots.rest l) (omega (arith, within)) rests placed.0
    row_of low first (RunOf l at target a inputs outputs) within placed rests =
        row_one low first (slots.rest l) (omega (arith, within)) rests placed.0
    row_of low first (If l at e body other) within placed rests =
        row_until low first ((first + places_in body) + places_in other) (first + (places_in body + places_in other))
        (rests_in slots body ++ rests_in slots other) (omega arith)
        (row_both low first (first + places_in body) ((first + places_in body) + places_in other) (rests_in slots body) (rests_in slots other)
        (row_in low first body (omega (arith, within)) (in_left first (spots_in body) (spots_in other) placed) rests.0)
        (row_in low (first + places_in body) other (omega (arith, within))
        (in_right first (places_in body) (spots_in body) (spots_in other) (spots_in_many body) placed) rests.1))
    row_of low first (Cobegin l at Last) within placed rests =
        row_none low first (first + 0) (let same : first + 0 ≡ first = omega arith in ap (count low) same)
    row_of low first (Cobegin l at (BodyOf weak body rest)) within placed rests =
        let body_rests : AllRestAt counter low (suc first) body = subst (λ c. AllRestAt counter c (suc first) body) rests.0 rests.1.0 in
        let next : first + 1 ≡ suc first = omega arith in
        let end = row_until low first (first + 1) (suc first) (slots.ending l 0 ∷ []) next
        (row_one low first (slots.ending l 0) (omega (arith, within)) rests.0 placed.0) in
        let inner = row_in low (suc first) body (omega (arith, within)) (in_body first l 0 weak body rest placed) body_rests in
        let both = row_both low first (suc first) (suc first + places_in body) (slots.ending l 0 ∷ []) (rests_in slots body) end inner in
        let others = flat low (suc first + places_in body) (places_in_each rest) (omega (arith, within))
        (λ j least most is. rests.1.1 first j (omega arith) (omega arith) least most (rests.0 ∙ sym is)) in
        let last : (suc first + places_in body) + places_in_each rest ≡ first + (suc (places_in body) + places_in_each rest) = omega arith in
        let many = both.many in
        record {
          follow = both.follow;
          many = ap (count low) (sym last) ∙ others ∙ many;
        }
    row_of low first (When l at guard e body) within placed rests = row_in low first body within placed rests
    row_of low first (Repeat l at body) within placed rests = row_in low first body within placed rests
    row_of low first (Until l at body e) within placed rests = row_in low first body within placed rests
    row_of low first (While l at e body) within placed rests = row_in low first body within placed rests
    row_of low first (Again l at body e) within placed rests = row_in low first body within placed rests

    row_in : (low first : ℕ) (body : Block) → first + places_in body ≤ length list → Placed first (spots_in body) →
        AllRestAt counter low first body → Row low first (first + places_in body) (rests_in slots body)
    row_in low first Done within placed rests =
        row_none low first (first + 0) (let same : first + 0 ≡ first = omega arith in ap (count low) same)
    row_in low first (Then s rest) within placed rests =
        row_until low first ((first + resting_places s) + places_in rest) (first + (resting_places s + places_in rest))
        (rests_of slots s ++ rests_in slots rest) (omega arith)
        (row_both low first (first + resting_places s) ((first + resting_places s) + places_in rest) (rests_of slots s) (rests_in slots rest)
        (row_of low first s (omega (arith, within)) (in_left first (spots_of s) (spots_in rest) placed) rests.0)
        (row_in low (first + resting_places s) rest (omega (arith, within))
        (in_right first (resting_places s) (spots_of s) (spots_in rest) (spots_many s) placed) rests.1))

  mutual
    rows_of : (low first : ℕ) (s : Plain) → first + resting_places s ≤ length list → Placed first (spots_of s) → RestsAt counter low first s →
        RowsOf slots s
    rows_of low first (Act l s) within placed rests = tt
    rows_of low first (Await l at e) within placed rests = tt
    rows_of low first (RunOf l at target a inputs outputs) within placed rests = tt
    rows_of low first (If l at e body other) within placed rests = (
      rows_in low first body (omega (arith, within)) (in_left first (spots_in body) (spots_in other) placed) rests.0,
      rows_in low (first + places_in body) other (omega (arith, within))
          (in_right first (places_in body) (spots_in body) (spots_in other) (spots_in_many body) placed) rests.1,
    )
    rows_of low first (Cobegin l at bodies) within placed rests = rows_each first l 0 bodies within placed rests.1
    rows_of low first (When l at guard e body) within placed rests =
        let row = row_in low first body within placed rests in (
          row_of_follow low (suc (count low first)) (rests_in slots body) row.follow,
          rows_in low first body within placed rests,
        )
    rows_of low first (Repeat l at body) within placed rests = rows_in low first body within placed rests
    rows_of low first (Until l at body e) within placed rests = rows_in low first body within placed rests
    rows_of low first (While l at e body) within placed rests = rows_in low first body within placed rests
    rows_of low first (Again l at body e) within placed rests = rows_in low first body within placed rests

    pub rows_in : (low first : ℕ) (body : Block) → first + places_in body ≤ length list → Placed first (spots_in body) →
        AllRestAt counter low first body → RowsIn slots body
    rows_in low first Done within placed rests = tt
    rows_in low first (Then s rest) within placed rests = (
      rows_of low first s (omega (arith, within)) (in_left first (spots_of s) (spots_in rest) placed) rests.0,
      rows_in low (first + resting_places s) rest (omega (arith, within))
          (in_right first (resting_places s) (spots_of s) (spots_in rest) (spots_many s) placed) rests.1,
    )

    rows_each : (first : ℕ) (l : Label) (k : ℕ) (bodies : Bodies) → first + places_in_each bodies ≤ length list →
        Placed first (spots_in_each l k bodies) → EachRests counter first bodies → RowsEach slots bodies
    rows_each first l k Last within placed rests = tt
    rows_each first l k (BodyOf weak body rest) within placed rests = (
      rows_in (counter first) (suc first) body (omega (arith, within)) (in_body first l k weak body rest placed) rests.0,
      rows_each (suc first + places_in body) l (suc k) rest (omega (arith, within)) (in_rest first l k weak body rest placed) rests.2,
    )
