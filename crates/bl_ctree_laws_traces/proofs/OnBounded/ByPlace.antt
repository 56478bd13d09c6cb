-- Sums over `run` statements, place by place.
use Rattle.std.proofs.Common.{◌≡◌, ℕ, suc, ◌+◌, ◌*◌, ◌≤◌, Bool, true, false, cond, not, List, [], ◌∷◌, map, length, filter, ◌⊎◌, inl, inr, refl, sym, ap, ◌∙◌}
use Rattle.std.proofs.Common.{subst, arith}
use Rattle.std.specs.Prelude.{⊤}
use Rattle.std.proofs.Math.Nat.{mul-le-mul_right, suc-mul, zero-mul}
use Rattle.bl_tree.specs.declared.place.Place.{Place}
use Rattle.bl_tree.specs.Reduce.{total}
use Rattle.bl_tree.specs.Rules.{same_place}
use Rattle.bl_effects.proofs.EntryLemmas.{same_place_refl}
use Rattle.bl_ctree.specs.declared.instance.Run.{Run}
use Rattle.bl_ctree.specs.Instances.{one_a_place}
use Rattle.bl_ctree.specs.Measure.{count_at}
use Rattle.bl_ctree_laws_traces.proofs.OnBounded.Lists.{totals_less}
use Rattle.bl_tree.proofs.FirstLemmas.{same_true, In}

-- ---- the runs at one place

-- those of the runs that stand at the place
abbrev at_place : Place → List Run → List Run
at_place place runs = filter (λ (run : Run). same_place run.place place) runs

-- what they come to, where units have weights
abbrev sum_at : (ℕ → ℕ) → Place → List Run → ℕ
sum_at g place runs = total (map (λ (run : Run). g run.unit) (at_place place runs))

sum_more : (g : ℕ → ℕ) (place : Place) (x : Run) (xs : List Run) (b : Bool) → same_place x.place place ≡ b →
    sum_at g place (x ∷ xs) ≡ cond b (g x.unit + sum_at g place xs) (sum_at g place xs)
sum_more g place x xs true is = ap (λ b. total (map (λ (run : Run). g run.unit) (cond b (x ∷ at_place place xs) (at_place place xs)))) is
sum_more g place x xs false is = ap (λ b. total (map (λ (run : Run). g run.unit) (cond b (x ∷ at_place place xs) (at_place place xs)))) is

count_more : (place : Place) (x : Run) (xs : List Run) (b : Bool) → same_place x.place place ≡ b →
    count_at place (x ∷ xs) ≡ cond b (suc (count_at place xs)) (count_at place xs)
count_more place x xs true is = ap (λ b. length (cond b (x ∷ at_place place xs) (at_place place xs))) is
count_more place x xs false is = ap (λ b. length (cond b (x ∷ at_place place xs) (at_place place xs))) is

-- ---- runs, each at the place of one of a list

-- one of the list stands where the run does
pub record Placed (x : Run) (places : List Run) : Type 0 where
  pub one : Run
  pub among : In one places
  pub there : same_place x.place one.place ≡ true

sum_grows : (g : ℕ → ℕ) (place : Place) (x : Run) (xs : List Run) → sum_at g place xs ≤ sum_at g place (x ∷ xs)
sum_grows g place x xs = by_test (same_place x.place place) refl
  where
    by_test : (b : Bool) → same_place x.place place ≡ b → sum_at g place xs ≤ sum_at g place (x ∷ xs)
    by_test true is = let more = sum_more g place x xs true is in omega arith
    by_test false is = let more = sum_more g place x xs false is in omega arith

one_more : (g : ℕ → ℕ) (x : Run) (xs places : List Run) (one : Run) → In one places → same_place x.place one.place ≡ true →
    g x.unit + total (map (λ (r : Run). sum_at g r.place xs) places) ≤ total (map (λ (r : Run). sum_at g r.place (x ∷ xs)) places)
one_more g x xs [] one at there = elim at [ ]
one_more g x xs (r ∷ places) one (inl is) there =
    let here = sum_more g r.place x xs true (ap (λ (r : Run). same_place x.place r.place) (sym is) ∙ there) in
    let more = totals_less (λ (r : Run). sum_at g r.place xs) (λ (r : Run). sum_at g r.place (x ∷ xs)) places (λ r at. sum_grows g r.place x xs) in
    omega arith
one_more g x xs (r ∷ places) one (inr at) there =
    let here = sum_grows g r.place x xs in
    let more = one_more g x xs places one at there in
    omega arith

-- a sum over runs is no more than the sums place by place
spread : (g : ℕ → ℕ) (xs places : List Run) → ((x : Run) → In x xs → Placed x places) →
    total (map (λ (x : Run). g x.unit) xs) ≤ total (map (λ (r : Run). sum_at g r.place xs) places)
spread g [] places each = omega arith
spread g (x ∷ xs) places each =
    let placed = each x (inl refl) in
    let more = one_more g x xs places placed.one placed.among placed.there in
    let less = spread g xs places (λ y at. each y (inr at)) in
    omega arith

-- where the runs at a place are of one unit the sum is a product
once_more : (n m : ℕ) → m + n * m ≡ suc n * m
once_more n m = let more = suc-mul n m in omega arith

product_step : (g : ℕ → ℕ) (r x : Run) (xs : List Run) (b : Bool) → same_place x.place r.place ≡ b → (b ≡ true → x.unit ≡ r.unit) →
    sum_at g r.place xs ≡ count_at r.place xs * g r.unit → sum_at g r.place (x ∷ xs) ≡ count_at r.place (x ∷ xs) * g r.unit
product_step g r x xs true is same more =
    sum_more g r.place x xs true is ∙ ap (λ u. g u + sum_at g r.place xs) (same refl) ∙ ap (λ n. g r.unit + n) more
    ∙ once_more (count_at r.place xs) (g r.unit) ∙ sym (ap (λ n. n * g r.unit) (count_more r.place x xs true is))
product_step g r x xs false is same more =
    sum_more g r.place x xs false is ∙ more ∙ sym (ap (λ n. n * g r.unit) (count_more r.place x xs false is))

product_at : (g : ℕ → ℕ) (r : Run) (xs : List Run) → ((x : Run) → In x xs → same_place x.place r.place ≡ true → x.unit ≡ r.unit) →
    sum_at g r.place xs ≡ count_at r.place xs * g r.unit
product_at g r [] same = sym (zero-mul (g r.unit))
product_at g r (x ∷ xs) same =
    product_step g r x xs (same_place x.place r.place) refl (same x (inl refl)) (product_at g r xs (λ y at. same y (inr at)))

module _ (g : ℕ → ℕ) (xs places : List Run) (placed : (x : Run) → In x xs → Placed x places)
    (same : (x r : Run) → In x xs → In r places → same_place x.place r.place ≡ true → x.unit ≡ r.unit) where
  -- a sum over runs, where those of one place are of one unit
  pub by_places : total (map (λ (x : Run). g x.unit) xs) ≤ total (map (λ (r : Run). count_at r.place xs * g r.unit) places)
  by_places =
      let less = spread g xs places placed in
      let equal = totals_less (λ (r : Run). sum_at g r.place xs) (λ (r : Run). count_at r.place xs * g r.unit) places
      (λ r at. let product = product_at g r xs (λ x there is. same x r there at is) in omega arith) in
      omega arith

  -- and where no two stand at one place
  pub by_distinct_places : ((place : Place) → count_at place xs ≤ 1) → total (map (λ (x : Run). g x.unit) xs) ≤ total (map (λ (r : Run). g r.unit) places)
  by_distinct_places few =
      let less = by_places in
      let single = totals_less (λ (r : Run). count_at r.place xs * g r.unit) (λ (r : Run). g r.unit) places
      (λ r at. let once = mul-le-mul_right (g r.unit) (few r.place) in omega arith) in
      omega arith

-- ---- no two runs at one place

abbrev pub PlacesDiffer : List Run → Type 0
PlacesDiffer [] = ⊤
PlacesDiffer (x ∷ xs) = ((y : Run) → In y xs → x.place ≡ y.place → ⊥) × PlacesDiffer xs

none_step : (place : Place) (x : Run) (xs : List Run) (b : Bool) → same_place x.place place ≡ b → (b ≡ true → ⊥) → count_at place xs ≡ 0 →
    count_at place (x ∷ xs) ≡ 0
none_step place x xs true is none more = absurd (none refl)
none_step place x xs false is none more = count_more place x xs false is ∙ more

none_at : (place : Place) (xs : List Run) → ((x : Run) → In x xs → same_place x.place place ≡ true → ⊥) → count_at place xs ≡ 0
none_at place [] none = refl
none_at place (x ∷ xs) none =
    none_step place x xs (same_place x.place place) refl (none x (inl refl)) (none_at place xs (λ y at. none y (inr at)))

few_step : (place : Place) (x : Run) (xs : List Run) (b : Bool) → same_place x.place place ≡ b → (b ≡ true → count_at place xs ≡ 0) →
    count_at place xs ≤ 1 → count_at place (x ∷ xs) ≤ 1
few_step place x xs true is none more = let one = count_more place x xs true is in let rest = none refl in omega arith
few_step place x xs false is none more = let same = count_more place x xs false is in omega arith

pub few_at : (xs : List Run) → PlacesDiffer xs → (place : Place) → count_at place xs ≤ 1
few_at [] differ place = omega arith
few_at (x ∷ xs) differ place =
    few_step place x xs (same_place x.place place) refl
    (λ is. none_at place xs (λ y at there. differ.0 y at (same_true x.place place is ∙ sym (same_true y.place place there))))
    (few_at xs differ.1 place)

-- ---- the first run of each place

skipped : {A : Type 0} (b : Bool) (x y : A) (ys : List A) → In x ys → In x (cond b (y ∷ ys) ys)
skipped true x y ys at = inr at
skipped false x y ys at = at

unskipped : {A : Type 0} (b : Bool) (x y : A) (ys : List A) → In x (cond b (y ∷ ys) ys) → (x ≡ y) ⊎ In x ys
unskipped true x y ys at = at
unskipped false x y ys at = inr at

among_filter : {A : Type 0} (p : A → Bool) (x : A) (xs : List A) → In x (filter p xs) → In x xs
among_filter p x [] at = at
among_filter p x (y ∷ xs) at = elim (unskipped (p y) x y (filter p xs) at) [
  | inl is ↦ inl is
  | inr more ↦ inr (among_filter p x xs more)
]

among_kept : {A : Type 0} (p : A → Bool) (x : A) (xs : List A) → In x xs → p x ≡ true → In x (filter p xs)
among_kept p x [] at holds = elim at [ ]
among_kept p x (y ∷ xs) (inl is) holds =
    subst (λ b. In x (cond b (y ∷ filter p xs) (filter p xs))) (sym (ap p (sym is) ∙ holds)) (inl is)
among_kept p x (y ∷ xs) (inr at) holds = skipped (p y) x y (filter p xs) (among_kept p x xs at holds)

-- it is one of the runs
pub once_among : (xs : List Run) (x : Run) → In x (one_a_place xs) → In x xs
once_among [] x at = at
once_among (run ∷ rest) x (inl is) = inl is
once_among (run ∷ rest) x (inr at) =
    inr (once_among rest x (among_filter (λ (other : Run). not (same_place run.place other.place)) x (one_a_place rest) at))

placed_step : (run x : Run) (rest : List Run) (placed : Placed x (one_a_place rest)) (b : Bool) → same_place run.place placed.one.place ≡ b →
    Placed x (one_a_place (run ∷ rest))
placed_step run x rest placed true is = record {
  one = run;
  among = inl refl;
  there = ap (same_place x.place) (same_true run.place placed.one.place is) ∙ placed.there;
}
placed_step run x rest placed false is = record {
  one = placed.one;
  among = inr (among_kept (λ (other : Run). not (same_place run.place other.place)) placed.one (one_a_place rest) placed.among (ap not is));
  there = placed.there;
}

-- each run stands where the first of its place does
pub once_placed : (xs : List Run) (x : Run) → In x xs → Placed x (one_a_place xs)
once_placed [] x at = elim at [ ]
once_placed (run ∷ rest) x (inl is) = record {
  one = run;
  among = inl refl;
  there = ap (λ (r : Run). same_place r.place run.place) is ∙ same_place_refl run.place;
}
once_placed (run ∷ rest) x (inr at) =
    let placed = once_placed rest x at in
    placed_step run x rest placed (same_place run.place placed.one.place) refl
