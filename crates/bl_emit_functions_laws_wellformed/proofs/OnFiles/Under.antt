-- Lists whose elements have at most a number each.
use Rattle.std.proofs.Common.{◌≡◌, ℕ, ◌≤◌, List, [], ◌∷◌, ◌++◌, map, arith, subst, sym}
use Rattle.bl_tree.specs.Reduce.{greatest, joined}

-- none of these has a greater number
abbrev pub Under : {A : Type 0} → (A → ℕ) → ℕ → List A → Type 0
Under f n xs = greatest (map f xs) ≤ n

pub none-under : {A : Type 0} (f : A → ℕ) (n : ℕ) → Under f n []
none-under f n = omega arith

pub cons-under : {A : Type 0} (f : A → ℕ) (n : ℕ) (x : A) (xs : List A) → f x ≤ n → Under f n xs → Under f n (x ∷ xs)
cons-under f n x xs one more = omega (arith, one, more)

pub head-under : {A : Type 0} (f : A → ℕ) (n : ℕ) (x : A) (xs : List A) → Under f n (x ∷ xs) → f x ≤ n
head-under f n x xs all = omega (arith, all)

pub tail-under : {A : Type 0} (f : A → ℕ) (n : ℕ) (x : A) (xs : List A) → Under f n (x ∷ xs) → Under f n xs
tail-under f n x xs all = omega (arith, all)

pub append-under : {A : Type 0} (f : A → ℕ) (n : ℕ) (xs ys : List A) → Under f n xs → Under f n ys → Under f n (xs ++ ys)
append-under f n [] ys one more = more
append-under f n (x ∷ xs) ys one more =
    cons-under f n x (xs ++ ys) (head-under f n x xs one) (append-under f n xs ys (tail-under f n x xs one) more)

pub front-under : {A : Type 0} (f : A → ℕ) (n : ℕ) (xs ys : List A) → Under f n (xs ++ ys) → Under f n xs
front-under f n [] ys all = none-under f n
front-under f n (x ∷ xs) ys all =
    cons-under f n x xs (head-under f n x (xs ++ ys) all) (front-under f n xs ys (tail-under f n x (xs ++ ys) all))

pub back-under : {A : Type 0} (f : A → ℕ) (n : ℕ) (xs ys : List A) → Under f n (xs ++ ys) → Under f n ys
back-under f n [] ys all = all
back-under f n (x ∷ xs) ys all = back-under f n xs ys (tail-under f n x (xs ++ ys) all)

-- what two lists of parts name
pub both-under : {A B : Type 0} (f : A → ℕ) (n : ℕ) (parts : B → List A) (xs ys : List B) → Under f n (joined (map parts xs)) →
    Under f n (joined (map parts ys)) → Under f n (joined (map parts (xs ++ ys)))
both-under f n parts [] ys one more = more
both-under f n parts (x ∷ xs) ys one more =
    append-under f n (parts x) (joined (map parts (xs ++ ys))) (front-under f n (parts x) (joined (map parts xs)) one)
    (both-under f n parts xs ys (back-under f n (parts x) (joined (map parts xs)) one) more)

-- the same list by another name
pub same-under : {A : Type 0} (f : A → ℕ) (n : ℕ) (xs ys : List A) → xs ≡ ys → Under f n ys → Under f n xs
same-under f n xs ys is all = subst (λ zs. Under f n zs) (sym is) all
