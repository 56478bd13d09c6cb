-- Tables that grow as far as they are written.
use Rattle.std.proofs.Common.{◌≡◌, ◌<◌, ◌≤◌, ℕ, zero, suc, ◌+◌, max, Bool, true, false, ◌||◌}
use Rattle.std.proofs.Common.{List, [], ◌∷◌, ◌++◌, get_or}
use Rattle.std.proofs.Common.{length, map, refl, sym, ap, ap₂, ◌∙◌, arith, slice_set, cond}
use Rattle.std.proofs.lemmas.Grind.{common_steps}
use Rattle.std.proofs.lemmas.Bool.{eq-eqb, eqb-true}
use Rattle.std.proofs.lemmas.List.{length-map}
use Rattle.std.specs.Prelude.{nat_eq, slice_get, unwrap_or}
use Rattle.bl_tree.proofs.Basics.{numbers_differ}
use Rattle.bl_tree.specs.Reduce.{greatest}
use Rattle.bl_machine.specs.Blocks.{up_to}
use Rattle.bl_machine.specs.Slots.{times}
use Rattle.bl_machine_pass.specs.Numbered.{sizes_for}
use Rattle.bl_emit_tables.specs.Sizes.{all_counted, grown, one_more_at}
use Rattle.bl_emit_tables.proofs.SetLemmas.{length_up_to}

-- ---- growing

pub grown_more : {X : Type 0} (none : X) (k : ℕ) (table : List X) → length table ≤ k →
    grown none (suc k) (table ++ none ∷ []) ≡ grown none (suc k) table
grown_more none k [] short = refl
grown_more none zero (x ∷ table) short = absurd (omega (arith, short))
grown_more none (suc k) (x ∷ table) short = ap (λ more. x ∷ more) (grown_more none k table (omega (arith, short)))

pub grown_enough : {X : Type 0} (none : X) (n : ℕ) (table : List X) → n ≤ length table → grown none n table ≡ table
grown_enough none zero table long = refl
grown_enough none (suc n) [] long = absurd (omega (arith, long))
grown_enough none (suc n) (x ∷ table) long = ap (λ more. x ∷ more) (grown_enough none n table (omega (arith, long)))

pub grown_long : {X : Type 0} (none : X) (n : ℕ) (table : List X) → n ≤ length (grown none n table)
grown_long none zero table = omega arith
grown_long none (suc n) [] = let more = grown_long none n [] in omega (arith, more)
grown_long none (suc n) (x ∷ table) = let more = grown_long none n table in omega (arith, more)

-- what stands at a position
abbrev pub entry_at : {X : Type 0} → X → List X → ℕ → X
entry_at none table k = unwrap_or (slice_get table k) none

pub grown_same : {X : Type 0} (none : X) (n : ℕ) (table : List X) (k : ℕ) → entry_at none (grown none n table) k ≡ entry_at none table k
grown_same none zero table k = refl
grown_same none (suc n) [] zero = refl
grown_same none (suc n) [] (suc k) = grown_same none n [] k
grown_same none (suc n) (x ∷ table) zero = refl
grown_same none (suc n) (x ∷ table) (suc k) = grown_same none n table k

-- ---- tests

pub nat_eq_suc : (j k : ℕ) → nat_eq (suc j) (suc k) ≡ nat_eq j k
nat_eq_suc j k = by (nat_eq j k) refl
  where
    by : (t : Bool) → nat_eq j k ≡ t → nat_eq (suc j) (suc k) ≡ nat_eq j k
    by true h = eq-eqb (suc j) (suc k) (ap suc (eqb-true j k h)) ∙ sym h
    by false h = numbers_differ (suc j) (suc k) (λ same. differ h (eq-eqb j k (omega (arith, same)))) ∙ sym h
      where
        differ : nat_eq j k ≡ false → nat_eq j k ≡ true → ⊥
        differ unequal equal = cc

set_reads : (tests : List Bool) (c k : ℕ) → c < length tests →
    entry_at false (slice_set tests c true) k ≡ (nat_eq k c || entry_at false tests k)
set_reads [] c k within = absurd (omega (arith, within))
set_reads (t ∷ tests) zero zero within = ap (λ b. b || t) (sym (eq-eqb 0 0 refl))
set_reads (t ∷ tests) zero (suc k) within = ap (λ b. b || entry_at false tests k) (sym (numbers_differ (suc k) 0 (λ same. omega (arith, same))))
set_reads (t ∷ tests) (suc c) zero within = ap (λ b. b || t) (sym (numbers_differ 0 (suc c) (λ same. omega (arith, same))))
set_reads (t ∷ tests) (suc c) (suc k) within =
    set_reads tests c k (omega (arith, within)) ∙ ap (λ b. b || entry_at false tests k) (sym (nat_eq_suc k c))

pub noted : (tests more : List Bool) (c k : ℕ) → more ≡ grown false (suc c) tests →
    unwrap_or (slice_get (slice_set more c true) k) false ≡ (nat_eq k c || unwrap_or (slice_get tests k) false)
noted tests more c k is =
    ap (λ (more : List Bool). entry_at false (slice_set more c true) k) is
    ∙ (set_reads (grown false (suc c) tests) c k (grown_long false (suc c) tests)
    ∙ ap (λ b. nat_eq k c || b) (grown_same false (suc c) tests k))

pub room : {X : Type 0} (none : X) (tests more : List X) (c : ℕ) → more ≡ grown none (suc c) tests → c < length more
room none tests more c is =
    let long = grown_long none (suc c) tests in
    let same : length more ≡ length (grown none (suc c) tests) = ap length is in omega (arith, long, same)

-- ---- counts

pub counts_so : (k : ℕ) (table : List ℕ) (d n : ℕ) → n ≡ get_or (grown 0 (suc k) table) k d + 1 →
    slice_set (grown 0 (suc k) table) k n ≡ one_more_at k table
counts_so zero [] d n is = ap (λ n. n ∷ []) (is ∙ omega arith)
counts_so zero (x ∷ table) d n is = ap (λ n. n ∷ table) (is ∙ omega arith)
counts_so (suc k) [] d n is = ap (λ more. 0 ∷ more) (counts_so k [] d n is)
counts_so (suc k) (x ∷ table) d n is = ap (λ more. x ∷ more) (counts_so k table d n is)

pub count_made : (k : ℕ) (table more : List ℕ) (d n : ℕ) → more ≡ grown 0 (suc k) table → n ≡ get_or more k d + 1 →
    slice_set more k n ≡ one_more_at k table
count_made k table more d n is next =
    ap (λ (more : List ℕ). slice_set more k n) is ∙ counts_so k table d n (next ∙ ap (λ (more : List ℕ). get_or more k d + 1) is)

-- how many entries a table of these positions has at least
abbrev bound : List ℕ → ℕ
bound [] = 0
bound (k ∷ rest) = max (suc k) (bound rest)

counted_length : (k : ℕ) (table : List ℕ) → length (one_more_at k table) ≡ max (suc k) (length table)
counted_length zero [] = omega arith
counted_length zero (n ∷ table) = omega arith
counted_length (suc k) [] = let more = counted_length k [] in omega (arith, more)
counted_length (suc k) (n ∷ table) = let more = counted_length k table in omega (arith, more)

all_length : (ks table : List ℕ) → length (all_counted ks table) ≡ max (bound ks) (length table)
all_length [] table = omega arith
all_length (k ∷ rest) table = let more = all_length rest (one_more_at k table) in let one = counted_length k table in omega (arith, more, one)

bound_is : (k : ℕ) (rest : List ℕ) → bound (k ∷ rest) ≡ suc (greatest (k ∷ rest))
bound_is k [] = omega arith
bound_is k (j ∷ rest) = let more = bound_is j rest in omega (arith, more)

counted_reads : (k : ℕ) (table : List ℕ) (j : ℕ) → entry_at 0 (one_more_at k table) j ≡ cond (nat_eq k j) 1 0 + entry_at 0 table j
counted_reads zero [] zero = omega arith
counted_reads zero [] (suc j) = rw (numbers_differ 0 (suc j) (λ same. omega (arith, same))) omega arith
counted_reads zero (n ∷ table) zero = omega arith
counted_reads zero (n ∷ table) (suc j) = rw (numbers_differ 0 (suc j) (λ same. omega (arith, same))) omega arith
counted_reads (suc k) [] zero = rw (numbers_differ (suc k) 0 (λ same. omega (arith, same))) omega arith
counted_reads (suc k) [] (suc j) = counted_reads k [] j ∙ ap (λ b. cond b 1 0 + 0) (sym (nat_eq_suc k j))
counted_reads (suc k) (n ∷ table) zero = rw (numbers_differ (suc k) 0 (λ same. omega (arith, same))) omega arith
counted_reads (suc k) (n ∷ table) (suc j) = counted_reads k table j ∙ ap (λ b. cond b 1 0 + entry_at 0 table j) (sym (nat_eq_suc k j))

times_cons : (j k : ℕ) (rest : List ℕ) → times j (k ∷ rest) ≡ cond (nat_eq k j) 1 0 + times j rest
times_cons j k rest = by (nat_eq k j) refl
  where
    by : (t : Bool) → nat_eq k j ≡ t → times j (k ∷ rest) ≡ cond (nat_eq k j) 1 0 + times j rest
    by true h = grind (arith, common_steps, h)
    by false h = grind (arith, common_steps, h)

all_reads : (ks table : List ℕ) (j : ℕ) → entry_at 0 (all_counted ks table) j ≡ times j ks + entry_at 0 table j
all_reads [] table j = omega arith
all_reads (k ∷ rest) table j =
    let more = all_reads rest (one_more_at k table) j in
    let one = counted_reads k table j in
    let here = times_cons j k rest in omega (arith, more, one, here)

-- a counter beyond the table is none of them
times_none : (ks : List ℕ) (j : ℕ) → bound ks ≤ j → times j ks ≡ 0
times_none [] j past = refl
times_none (k ∷ rest) j past =
    let differs : nat_eq k j ≡ false = numbers_differ k j (λ same. omega (arith, past, same)) in let more = times_none rest j (omega (arith, past)) in
    times_cons j k rest ∙ (rw differs (omega (arith, more)))

same_lists : (xs ys : List ℕ) → length xs ≡ length ys → ((j : ℕ) → entry_at 0 xs j ≡ entry_at 0 ys j) → xs ≡ ys
same_lists [] [] long same = refl
same_lists [] (y ∷ ys) long same = absurd (omega (arith, long))
same_lists (x ∷ xs) [] long same = absurd (omega (arith, long))
same_lists (x ∷ xs) (y ∷ ys) long same = ap₂ ◌∷◌ (same 0) (same_lists xs ys (omega (arith, long)) (λ j. same (suc j)))

-- what stands in a table of a function
abbrev from : ℕ → ℕ → List ℕ
from b zero = []
from b (suc n) = b ∷ from (suc b) n

from_last : (b n : ℕ) → from b n ++ (b + n) ∷ [] ≡ from b (suc n)
from_last b zero = ap (λ k. k ∷ []) (omega arith)
from_last b (suc n) =
    let at : b + suc n ≡ suc b + n = omega arith in
    ap (λ more. b ∷ more) (ap (λ k. from (suc b) n ++ k ∷ []) at ∙ from_last (suc b) n)

up_to_from : (n : ℕ) → up_to n ≡ from 0 n
up_to_from zero = refl
up_to_from (suc n) =
    let at : n ≡ 0 + n = omega arith in ap₂ (λ (front : List ℕ) (k : ℕ). front ++ k ∷ []) (up_to_from n) at ∙ from_last 0 n

from_reads : (f : ℕ → ℕ) (b n j : ℕ) → ((k : ℕ) → b + n ≤ k → f k ≡ 0) → entry_at 0 (map f (from b n)) j ≡ f (b + j)
from_reads f b zero j none = sym (none (b + j) (omega arith))
from_reads f b (suc n) zero none = ap f (omega arith)
from_reads f b (suc n) (suc j) none =
    let at : suc b + j ≡ b + suc j = omega arith in from_reads f (suc b) n j (λ k past. none k (omega (arith, past))) ∙ ap f at

pub counts_are : (ks : List ℕ) → all_counted ks [] ≡ sizes_for ks
counts_are [] = refl
counts_are (k ∷ rest) =
    let n = suc (greatest (k ∷ rest)) in
    let is = bound_is k rest in
    let long : length (all_counted (k ∷ rest) []) ≡ n = all_length (k ∷ rest) [] ∙ (omega (arith, is)) in
    let made : length (map (λ j. times j (k ∷ rest)) (up_to n)) ≡ n = length-map (up_to n) (λ j. times j (k ∷ rest)) ∙ length_up_to n in
    let beyond : (j : ℕ) → 0 + n ≤ j → times j (k ∷ rest) ≡ 0 = λ j past. times_none (k ∷ rest) j (omega (arith, past, is)) in
    same_lists (all_counted (k ∷ rest) []) (map (λ j. times j (k ∷ rest)) (up_to n)) (long ∙ sym made)
    (λ j.
    let at : 0 + j ≡ j = omega arith in let none : times j (k ∷ rest) + 0 ≡ times j (k ∷ rest) = omega arith in
    all_reads (k ∷ rest) [] j
    ∙ (none ∙ (ap (λ k'. times k' (k ∷ rest)) (sym at)
    ∙ (sym (from_reads (λ j. times j (k ∷ rest)) 0 n j beyond)
    ∙ ap (λ (list : List ℕ). entry_at 0 (map (λ j. times j (k ∷ rest)) list) j) (sym (up_to_from n))))))
