-- How many members of a frame are counters.
use Rattle.std.proofs.Common.{◌≡◌, ℕ, zero, suc, ◌+◌, ◌%◌, ◌<◌, ◌≤◌, ◌^◌, max, Bool, true, false, ◌&&◌, cond, List, [], ◌∷◌, ◌++◌, Contains}
use Rattle.std.proofs.Common.{map, length, refl, ap, ◌∙◌, arith}
use Rattle.std.proofs.lemmas.Bool.Decides.{nat_tests}
use Rattle.std.proofs.lemmas.Fmt.{decimal_by_steps}
use Rattle.std.proofs.lemmas.List.{append-nil, length_push}
use Rattle.std.proofs.lemmas.List.Elements.{All-head, All-tail, filter-append}
use Rattle.std.specs.Char.{is_ascii_digit}
use Rattle.std.specs.Fmt.{decimal}
use Rattle.std.specs.List.{list_all}
use Rattle.std.specs.Prelude.{All, filter}
use Rattle.bl_tree.proofs.Basics.{last_digit, map_push}
use Rattle.bl_tree.specs.declared.c.CMember.{CMember}
use Rattle.bl_tree.specs.Reduce.{greatest}
use Rattle.bl_machine.specs.declared.slots.Slot.{Slot}
use Rattle.bl_machine.specs.Blocks.{up_to}
use Rattle.bl_machine.specs.Slots.{counters_at, numbered_slots, times}
use Rattle.bl_machine_pass.specs.Numbered.{sizes_for, sizes_of}
use Rattle.bl_emit_spec.specs.Activities.{Activity, counter_member, frame_member, frame_struct, runs_in_body, word_of_run}
use Rattle.bl_emit_spec.specs.Names.{NumberedWord, callee_name, counter_name}
use Rattle.bl_ctext_places.specs.Counters.{is_digit_run, is_counter_name}
use Rattle.bl_emit_laws.specs.Width.{is_counter}
use Rattle.bl_emit_spec_laws.proofs.OnOwn.Counting.{many_up_to}
use Rattle.bl_machine.proofs.SlotLemmas.{counters_after}
use Rattle.bl_emit_spec_laws_wellformed.proofs.OnMachines.Counters.{map_length}
use Rattle.bl_emit_laws.proofs.OnCounters.Flags.{digit_so}

-- ---- names

all_push : (xs : List ℕ) (b : ℕ) → list_all is_ascii_digit xs ≡ true → is_ascii_digit b ≡ true → list_all is_ascii_digit (xs ++ b ∷ []) ≡ true
all_push [] b all one = rw one refl
all_push (x ∷ xs) b all one = by (is_ascii_digit x) (list_all is_ascii_digit xs) all (λ rest. all_push xs b rest one)
  where
    by : (first rest : Bool) → (first && rest) ≡ true → (rest ≡ true → list_all is_ascii_digit (xs ++ b ∷ []) ≡ true) →
        (first && list_all is_ascii_digit (xs ++ b ∷ [])) ≡ true
    by true rest both more = more both
    by false rest both more = both

digits_push : (xs : List ℕ) (b : ℕ) → is_digit_run xs ≡ true → is_ascii_digit b ≡ true → is_digit_run (xs ++ b ∷ []) ≡ true
digits_push [] b some one = absurd (cc)
digits_push (x ∷ xs) b all one = all_push (x ∷ xs) b all one

one_digit : (b : ℕ) → is_ascii_digit b ≡ true → is_digit_run (b ∷ []) ≡ true
one_digit b one = rw one refl

decimal_digits : (n : ℕ) → n < 2 ^ 64 → is_digit_run (decimal n) ≡ true
decimal_digits n small =
    decimal_by_steps (λ (m : ℕ) (digits : List ℕ). is_digit_run digits ≡ true)
    (λ (m : ℕ) (less : m < 10). one_digit (48 + m) (digit_so m less))
    (λ (m : ℕ) (digits : List ℕ) (big : 10 ≤ m) (all : is_digit_run digits ≡ true). digits_push digits (48 + m % 10) all
    (digit_so (m % 10) (last_digit m))) n small

counter_named : (k : ℕ) → k < 2 ^ 64 → is_counter_name (counter_name k) ≡ true
counter_named k small = decimal_digits k small

callee_named : (k : NumberedWord) → is_counter_name (callee_name k) ≡ false
callee_named k = refl

-- ---- members

-- numbers each of which passes are as many as they are
all_pass : {Y : Type 0} (p : Y → Bool) (f : ℕ → Y) (n : ℕ) → ((k : ℕ) → k < n → p (f k) ≡ true) → length (filter p (map f (up_to n))) ≡ n
all_pass p f zero each = refl
all_pass p f (suc n) each =
    ap (λ all. length (filter p all)) (map_push f (up_to n) n)
    ∙ ap length (filter-append p (map f (up_to n)) (f n ∷ []))
    ∙ ap (λ (b : Bool). length (filter p (map f (up_to n)) ++ cond b (f n ∷ []) [])) (each n (omega arith))
    ∙ length_push (filter p (map f (up_to n))) (f n)
    ∙ next (length (filter p (map f (up_to n)))) n (all_pass p f n (λ k less. each k (omega (arith, less))))
  where
    next : (m n : ℕ) → m ≡ n → m + 1 ≡ suc n
    next m n same = omega (arith, same)

-- and of some none of which passes none is left
none_pass : {X Y : Type 0} (p : Y → Bool) (f : X → Y) (xs : List X) → ((x : X) → p (f x) ≡ false) → filter p (map f xs) ≡ []
none_pass p f [] each = refl
none_pass p f (x ∷ xs) each =
    ap (λ (b : Bool). cond b (f x ∷ filter p (map f xs)) (filter p (map f xs))) (each x) ∙ none_pass p f xs each

pub frame_counts : (a : Activity) → ((k : ℕ) → k < length a.sizes → k < 2 ^ 64) →
    length (filter is_counter (frame_struct a).members) ≡ length a.sizes
frame_counts a small =
    let own : List CMember = map (counter_member a.sizes) (up_to (length a.sizes)) in
    let called : List CMember = map (frame_member a) (runs_in_body a) in
    ap length (filter-append is_counter own called)
    ∙ ap (λ rest. length (filter is_counter own ++ rest))
    (none_pass is_counter (frame_member a) (runs_in_body a) (λ run. callee_named (word_of_run a.earlier run)))
    ∙ ap length (append-nil (filter is_counter own))
    ∙ all_pass is_counter (counter_member a.sizes) (length a.sizes) (λ k less. counter_named k (small k less))

-- ---- counters

none_has : (x : ℕ) → Contains [] x → ⊥
none_has x has = let less = has.1 in omega arith

greatest_below : (n : ℕ) (counters : List ℕ) → 0 < n → All (λ counter. counter < n) counters → greatest counters < n
greatest_below n [] some below = some
greatest_below n (c ∷ counters) some below =
    by c (greatest counters) (All-head (λ counter. counter < n) c counters below)
    (greatest_below n counters some (All-tail (λ counter. counter < n) c counters below))
  where
    by : (a b : ℕ) → a < n → b < n → max a b < n
    by a b one two = omega (arith, one, two)

at_most : (xs : List ℕ) (x : ℕ) → Contains xs x → x ≤ greatest xs
at_most [] x has = absurd (none_has x has)
at_most (y ∷ xs) x (zero, within, is) = first x y (greatest xs) is
  where
    first : (x y z : ℕ) → y ≡ x → x ≤ max y z
    first x y z same = omega (arith, same)
at_most (y ∷ xs) x (suc k, within, is) = later x y (greatest xs) (at_most xs x (k, omega arith, is))
  where
    later : (x y z : ℕ) → x ≤ z → x ≤ max y z
    later x y z less = omega (arith, less)

-- counters that are those below a number have as many sizes
sizes_exact : (counters : List ℕ) (n : ℕ) → All (λ counter. counter < n) counters → ((counter : ℕ) → counter < n → Contains counters counter) →
    length (sizes_for counters) ≡ n
sizes_exact [] zero below each = refl
sizes_exact [] (suc n) below each = absurd (none_has 0 (each 0 (omega arith)))
sizes_exact (c ∷ counters) zero below each =
    let first : c < 0 = All-head (λ counter. counter < 0) c counters below in absurd (omega (arith, first))
sizes_exact (c ∷ counters) (suc n) below each =
    let many : length (sizes_for (c ∷ counters)) ≡ suc (greatest (c ∷ counters)) =
    map_length (λ j. times j (c ∷ counters)) (up_to (suc (greatest (c ∷ counters)))) ∙ many_up_to (suc (greatest (c ∷ counters))) in
    many ∙ same (greatest (c ∷ counters)) n (greatest_below (suc n) (c ∷ counters) (omega arith) below)
    (at_most (c ∷ counters) n (each n (omega arith)))
  where
    same : (m n : ℕ) → m < suc n → n ≤ m → suc m ≡ suc n
    same m n one two = omega (arith, one, two)

pub sizes_wide : (slots : List Slot) (counters : List ℕ) (n : ℕ) → slots ≡ numbered_slots counters → All (λ counter. counter < n) counters →
    ((counter : ℕ) → counter < n → Contains counters counter) → length (sizes_of slots) ≡ n
sizes_wide slots counters n is below each =
    ap (λ all. length (sizes_for all)) (ap counters_at is ∙ counters_after [] counters) ∙ sizes_exact counters n below each
