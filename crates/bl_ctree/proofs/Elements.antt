-- Elements of lists: of a list of images, of two lists one behind the other, and of those that pass a test.
use Rattle.std.proofs.Common.{◌≡◌, Bool, true, false, List, [], ◌∷◌, ◌++◌, map, refl, sym, subst, filter, cond, ◌⊎◌, inl, inr}
use Rattle.bl_ctree.specs.Points.{IsMember, here, there}

pub among-map : {A B : Type 0} (f : A → B) {x : A} {xs : List A} → IsMember A x xs → IsMember B (f x) (map f xs)
among-map f here = here
among-map f (there m) = there (among-map f m)

pub record Image (A B : Type 0) (f : A → B) (xs : List A) (y : B) : Type 0 where
  pub source : A
  pub among : IsMember A source xs
  pub is : f source ≡ y

image_there : {A B : Type 0} {f : A → B} {x : A} {xs : List A} {y : B} → Image A B f xs y → Image A B f (x ∷ xs) y
image_there image = record { source = image.source; among = there image.among; is = image.is }

pub of-map : {A B : Type 0} (f : A → B) (xs : List A) {y : B} → IsMember B y (map f xs) → Image A B f xs y
of-map f [] m = elim m [ ]
of-map f (x ∷ xs) here = record { source = x; among = here; is = refl }
of-map f (x ∷ xs) (there m) = image_there (of-map f xs m)

pub among-left : {A : Type 0} {x : A} {xs : List A} (ys : List A) → IsMember A x xs → IsMember A x (xs ++ ys)
among-left ys here = here
among-left ys (there m) = there (among-left ys m)

pub among-right : {A : Type 0} {x : A} (xs : List A) {ys : List A} → IsMember A x ys → IsMember A x (xs ++ ys)
among-right [] m = m
among-right (x ∷ xs) m = there (among-right xs m)

sum_there : {A : Type 0} {x y : A} {xs ys : List A} → IsMember A x xs ⊎ IsMember A x ys → IsMember A x (y ∷ xs) ⊎ IsMember A x ys
sum_there (inl m) = inl (there m)
sum_there (inr m) = inr m

pub of-append : {A : Type 0} {x : A} (xs : List A) {ys : List A} → IsMember A x (xs ++ ys) → IsMember A x xs ⊎ IsMember A x ys
of-append [] m = inr m
of-append (y ∷ xs) here = inl here
of-append (y ∷ xs) (there m) = sum_there (of-append xs m)

-- an element of the list that passes the test
pub record Passing (A : Type 0) (test : A → Bool) (xs : List A) (x : A) : Type 0 where
  pub among : IsMember A x xs
  pub passes : test x ≡ true

passing_there : {A : Type 0} {test : A → Bool} {x y : A} {xs : List A} → Passing A test xs x → Passing A test (y ∷ xs) x
passing_there p = record { among = there p.among; passes = p.passes }

filter_step : {A : Type 0} (test : A → Bool) (y : A) (xs : List A) {x : A} → (IsMember A x (filter test xs) → Passing A test xs x) →
    (b : Bool) → test y ≡ b → IsMember A x (cond b (y ∷ filter test xs) (filter test xs)) → Passing A test (y ∷ xs) x
filter_step test y xs rest true e here = record { among = here; passes = e }
filter_step test y xs rest true e (there m) = passing_there (rest m)
filter_step test y xs rest false e m = passing_there (rest m)

pub of-filter : {A : Type 0} (test : A → Bool) (xs : List A) {x : A} → IsMember A x (filter test xs) → Passing A test xs x
of-filter test [] m = elim m [ ]
of-filter test (y ∷ xs) m = filter_step test y xs (λ n. of-filter test xs n) (test y) refl m

among_if : {A : Type 0} {x : A} {xs : List A} (b : Bool) (y : A) → IsMember A x xs → IsMember A x (cond b (y ∷ xs) xs)
among_if true y m = there m
among_if false y m = m

pub among-filter : {A : Type 0} (test : A → Bool) {x : A} {xs : List A} → IsMember A x xs → test x ≡ true → IsMember A x (filter test xs)
among-filter {A} test {x} (here {xs}) e = subst (λ b. IsMember A x (cond b (x ∷ filter test xs) (filter test xs))) (sym e) here
among-filter test (there {y} {xs} m) e = among_if (test y) y (among-filter test m e)
