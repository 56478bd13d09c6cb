-- What holds of each element of a list, and tests of lists.
use Rattle.std.proofs.Common.{◌≡◌, ℕ, zero, suc, Bool, true, false, ◌&&◌, ◌||◌, List, [], ◌∷◌}
use Rattle.std.proofs.Common.{◌++◌, Contains, map, refl, sym}
use Rattle.std.proofs.Common.{subst, arith}
use Rattle.std.proofs.Common.{◌<◌, if◌then◌else◌, length}
use Rattle.std.specs.List.{list_all, list_any}
use Rattle.std.specs.Prelude.{⊤}
use Rattle.std.proofs.lemmas.Bool.{and_from}
use Rattle.bl_tree.proofs.Basics.{contains_first, contains_further, either_case}
use Rattle.bl_machine_pass.specs.Numbered.{position_where}

-- each element has the property
abbrev pub Every : {X : Type 0} → (X → Type 0) → List X → Type 0
Every P [] = ⊤
Every P (x ∷ xs) = P x × Every P xs

module _ {X : Type 0} (P : X → Type 0) where
  pub every_both : (xs ys : List X) → Every P xs → Every P ys → Every P (xs ++ ys)
  every_both [] ys some more = more
  every_both (x ∷ xs) ys some more = (some.0, every_both xs ys some.1 more)

  pub every_left : (xs ys : List X) → Every P (xs ++ ys) → Every P xs
  every_left [] ys all = tt
  every_left (x ∷ xs) ys all = (all.0, every_left xs ys all.1)

  pub every_right : (xs ys : List X) → Every P (xs ++ ys) → Every P ys
  every_right [] ys all = all
  every_right (x ∷ xs) ys all = every_right xs ys all.1

  pub every_at : (xs : List X) (x : X) → Every P xs → Contains xs x → P x
  every_at [] x all (k, below, is) = absurd (omega arith)
  every_at (y ∷ xs) x all (zero, below, is) = subst P is all.0
  every_at (y ∷ xs) x all (suc k, below, is) = every_at xs x all.1 (k, omega arith, is)

  pub every_from : (xs : List X) → ((x : X) → Contains xs x → P x) → Every P xs
  every_from [] each = tt
  every_from (x ∷ xs) each = (each x (contains_first x xs), every_from xs (λ y there. each y (contains_further x xs y there)))

pub every_map : {X Y : Type 0} (P : X → Type 0) (Q : Y → Type 0) (f : X → Y) (xs : List X) → ((x : X) → P x → Q (f x)) → Every P xs →
    Every Q (map f xs)
every_map P Q f [] keep all = tt
every_map P Q f (x ∷ xs) keep all = (keep x all.0, every_map P Q f xs keep all.1)

-- ---- tests

pub all_true : {X : Type 0} (P : X → Type 0) (test : X → Bool) (xs : List X) → ((x : X) → P x → test x ≡ true) → Every P xs →
    list_all test xs ≡ true
all_true P test [] tells all = refl
all_true P test (x ∷ xs) tells all = and_from (test x) (list_all test xs) (tells x all.0) (all_true P test xs tells all.1)

-- one that passes
pub record Found {X : Type 0} (test : X → Bool) (xs : List X) : Type 0 where
  pub one : X
  pub there : Contains xs one
  pub on : test one ≡ true

pub any_found : {X : Type 0} (test : X → Bool) (xs : List X) → list_any test xs ≡ true → Found test xs
any_found test [] e = absurd cc
any_found test (x ∷ xs) e =
    either_case (test x) (list_any test xs) e (λ on. record { one = x; there = contains_first x xs; on = on })
    (λ more. let found = any_found test xs more in record { one = found.one; there = contains_further x xs found.one found.there; on = found.on })

-- ---- the first that passes

below_if : (b : Bool) (k n : ℕ) → (b ≡ false → k < n) → (if b then 0 else suc k) < suc n
below_if true k n less = omega arith
below_if false k n less = let rest = less refl in omega arith

passes_first : (b : Bool) {A : Type 0} → b ≡ true → b ≡ false → A
passes_first true on off = absurd cc
passes_first false on off = absurd cc

-- where an element passes the first one stands within
pub where_within : {X : Type 0} (test : X → Bool) (xs : List X) (x : X) → Contains xs x → test x ≡ true → position_where test xs < length xs
where_within test [] x (k, below, is) on = absurd (omega (arith, below))
where_within test (y ∷ xs) x (zero, below, is) on =
    below_if (test y) (position_where test xs) (length xs) (passes_first (test y) (subst (λ z. test z ≡ true) (sym is) on))
where_within test (y ∷ xs) x (suc k, below, is) on =
    below_if (test y) (position_where test xs) (length xs) (λ off. where_within test xs x (k, omega (arith, below), is) on)
