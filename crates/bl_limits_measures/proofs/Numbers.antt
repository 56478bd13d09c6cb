-- Sums, greatest numbers and products, as far as 64 bits tell them.
use Rattle.std.proofs.Common.{◌≡◌, ℕ, zero, suc, ◌+◌, ◌*◌, ◌<◌, ◌≤◌, max, List, [], ◌∷◌, map, length, get_or, take, ap, refl, ◌∙◌, suc-mul, zero-mul}
use Rattle.std.proofs.Common.{arith}
use Rattle.std.proofs.Math.ListN.{get_or-map}
use Rattle.std.specs.Prelude.{slice_index}
use Rattle.bl_tree.specs.Reduce.{total, greatest}
use Rattle.bl_limits_measures.specs.Saturated.{saturated}

-- ---- numbers

pub twice : (n : ℕ) → saturated (saturated n) ≡ saturated n
twice n = omega arith

pub sum_alike : (a b c d : ℕ) → saturated a ≡ saturated b → saturated c ≡ saturated d → saturated (a + c) ≡ saturated (b + d)
sum_alike a b c d e f = omega arith

pub max_alike : (a b c d : ℕ) → saturated a ≡ saturated b → saturated c ≡ saturated d → saturated (max a c) ≡ saturated (max b d)
max_alike a b c d e f = omega arith

pub product_alike : (n a b : ℕ) → saturated a ≡ saturated b → saturated (n * a) ≡ saturated (n * b)
product_alike zero a b e = rw (zero-mul a, zero-mul b) refl
product_alike (suc n) a b e = rw (suc-mul n a, suc-mul n b) (sum_alike (n * a) (n * b) a b (product_alike n a b e) e)

-- one more than a number that is told as far as 64 bits tell it
pub one_more : (told n more : ℕ) → told ≡ saturated n → more ≡ saturated (told + 1) → more ≡ saturated (1 + n)
one_more told n more is grown = omega arith

-- ---- lists

pub total_alike : {X : Type 0} (f g : X → ℕ) → ((x : X) → saturated (f x) ≡ saturated (g x)) → (xs : List X) →
    saturated (total (map f xs)) ≡ saturated (total (map g xs))
total_alike f g h [] = refl
total_alike f g h (x ∷ xs) = sum_alike (f x) (g x) (total (map f xs)) (total (map g xs)) (h x) (total_alike f g h xs)

pub greatest_alike : {X : Type 0} (f g : X → ℕ) → ((x : X) → saturated (f x) ≡ saturated (g x)) → (xs : List X) →
    saturated (greatest (map f xs)) ≡ saturated (greatest (map g xs))
greatest_alike f g h [] = refl
greatest_alike f g h (x ∷ xs) = max_alike (f x) (g x) (greatest (map f xs)) (greatest (map g xs)) (h x) (greatest_alike f g h xs)

-- what is known as far as 64 bits tell it
pub known_alike : (known : List ℕ) (k : ℕ) → slice_index (map saturated known) k ≡ saturated (slice_index known k)
known_alike known k = get_or-map saturated known k 0

pub known_twice : (known : List ℕ) (k : ℕ) → saturated (slice_index (map saturated known) k) ≡ saturated (slice_index known k)
known_twice known k = ap saturated (known_alike known k) ∙ twice (slice_index known k)

-- ---- loops over a list

total_more : {X : Type 0} (f : X → ℕ) (xs : List X) (k : ℕ) (x : X) → k < length xs → x ≡ get_or xs k x →
    total (map f (take (k + 1) xs)) ≡ total (map f (take k xs)) + f x
total_more f [] k x within is = absurd (omega arith)
total_more f (y ∷ xs) zero x within is = let e : f x ≡ f y = ap f is in omega arith
total_more f (y ∷ xs) (suc k) x within is =
    let rest = total_more f xs k x (omega arith) is in
    let next : suc k + 1 ≡ suc (k + 1) = omega arith in
    rw next (omega arith)

greatest_more : {X : Type 0} (f : X → ℕ) (xs : List X) (k : ℕ) (x : X) → k < length xs → x ≡ get_or xs k x →
    greatest (map f (take (k + 1) xs)) ≡ max (greatest (map f (take k xs))) (f x)
greatest_more f [] k x within is = absurd (omega arith)
greatest_more f (y ∷ xs) zero x within is = let e : f x ≡ f y = ap f is in omega arith
greatest_more f (y ∷ xs) (suc k) x within is =
    let rest = greatest_more f xs k x (omega arith) is in
    let next : suc k + 1 ≡ suc (k + 1) = omega arith in
    rw next (omega arith)

-- the sum so far, and with one element more
pub sum_more : {X : Type 0} (f : X → ℕ) (xs : List X) (k : ℕ) (x : X) (sum here more : ℕ) → k < length xs → x ≡ get_or xs k x →
    here ≡ saturated (f x) → more ≡ saturated (sum + here)
    → sum ≡ saturated (total (map f (take k xs))) → more ≡ saturated (total (map f (take (k + 1) xs)))
sum_more f xs k x sum here more within is e told so_far = let next = total_more f xs k x within is in omega arith

-- the same of numbers that are told whole
pub sum_step : {X : Type 0} (f : X → ℕ) (xs : List X) (k : ℕ) (x : X) (sum here more : ℕ) → k < length xs → x ≡ get_or xs k x →
    here ≡ f x → more ≡ saturated (sum + here)
    → sum ≡ saturated (total (map f (take k xs))) → more ≡ saturated (total (map f (take (k + 1) xs)))
sum_step f xs k x sum here more within is e told so_far = let next = total_more f xs k x within is in omega arith

-- the greatest so far, and with one element more
pub most_more : {X : Type 0} (f : X → ℕ) (xs : List X) (k : ℕ) (x : X) (most here more : ℕ) → k < length xs → x ≡ get_or xs k x →
    here ≡ saturated (f x) → more ≡ max most here
    → most ≡ saturated (greatest (map f (take k xs))) → more ≡ saturated (greatest (map f (take (k + 1) xs)))
most_more f xs k x most here more within is e told so_far = let next = greatest_more f xs k x within is in omega arith

-- the same where nothing saturates
pub greatest_step : {X : Type 0} (f : X → ℕ) (xs : List X) (k : ℕ) (x : X) (most here more : ℕ) → k < length xs →
    x ≡ get_or xs k x → here ≡ f x → more ≡ max most here
    → most ≡ greatest (map f (take k xs)) → more ≡ greatest (map f (take (k + 1) xs))
greatest_step f xs k x most here more within is e told so_far = let next = greatest_more f xs k x within is in omega arith
