-- The `run` statements of a list, one for each place.
use Rattle.std.proofs.Common.{◌≡◌, Bool, true, false, not, ◌&&◌, ◌||◌, cond, List, [], ◌∷◌, ◌++◌, refl, sym, ap, ◌∙◌, append-nil}
use Rattle.std.specs.Prelude.{filter}
use Rattle.std.specs.List.{list_any}
use Rattle.std.proofs.lemmas.Bool.{or_left, or_right}
use Rattle.bl_tree.specs.Rules.{same_place}
use Rattle.bl_effects.proofs.EntryLemmas.{same_place_refl}
use Rattle.bl_ctree.specs.Instances.{one_a_place}
use Rattle.bl_ctree.specs.declared.instance.Run.{Run}
use Rattle.bl_tree.proofs.FirstLemmas.{same_true}

-- ---- lists of which some elements are kept

filter_yes : {A : Type 0} (xs : List A) → filter (λ x. true) xs ≡ xs
filter_yes [] = refl
filter_yes (x ∷ xs) = ap (λ rest. x ∷ rest) (filter_yes xs)

filter_both : {A : Type 0} (p : A → Bool) (xs ys : List A) → filter p (xs ++ ys) ≡ filter p xs ++ filter p ys
filter_both p [] ys = refl
filter_both p (x ∷ xs) ys = by_test (p x) (filter_both p xs ys)
  where
    by_test : (b : Bool) → filter p (xs ++ ys) ≡ filter p xs ++ filter p ys →
        cond b (x ∷ filter p (xs ++ ys)) (filter p (xs ++ ys)) ≡ cond b (x ∷ filter p xs) (filter p xs) ++ filter p ys
    by_test true is = ap (λ rest. x ∷ rest) is
    by_test false is = is

filter_twice : {A : Type 0} (p q : A → Bool) (xs : List A) → filter p (filter q xs) ≡ filter (λ x. q x && p x) xs
filter_twice p q [] = refl
filter_twice p q (x ∷ xs) = by_test (q x) (filter_twice p q xs)
  where
    by_test : (b : Bool) → filter p (filter q xs) ≡ filter (λ x. q x && p x) xs →
        filter p (cond b (x ∷ filter q xs) (filter q xs)) ≡ cond (b && p x) (x ∷ filter (λ x. q x && p x) xs) (filter (λ x. q x && p x) xs)
    by_test true is = ap (λ rest. cond (p x) (x ∷ rest) rest) is
    by_test false is = is

filter_alike : {A : Type 0} (p q : A → Bool) (xs : List A) → ((x : A) → p x ≡ q x) → filter p xs ≡ filter q xs
filter_alike p q xs same = ap (λ test. filter test xs) (λ j x. same x j)

and_swap : (a b : Bool) → (a && b) ≡ (b && a)
and_swap true true = refl
and_swap true false = refl
and_swap false true = refl
and_swap false false = refl

filter_swap : {A : Type 0} (p q : A → Bool) (xs : List A) → filter p (filter q xs) ≡ filter q (filter p xs)
filter_swap p q xs = filter_twice p q xs ∙ filter_alike _ _ xs (λ x. and_swap (q x) (p x)) ∙ sym (filter_twice q p xs)

-- ---- places

-- whether a `run` of the list has the place
abbrev here : List Run → Run → Bool
here xs run = list_any (λ x. same_place x.place run.place) xs

-- the `run`s of the second list at no place of the first one
abbrev without : List Run → List Run → List Run
without xs ys = filter (λ run. not (here xs run)) ys

not_either : (a b : Bool) → (not b && not a) ≡ not (a || b)
not_either true true = refl
not_either true false = refl
not_either false b = and_swap (not b) true

one_append : (xs ys : List Run) → one_a_place (xs ++ ys) ≡ one_a_place xs ++ without xs (one_a_place ys)
one_append [] ys = sym (filter_yes (one_a_place ys))
one_append (x ∷ xs) ys =
    ap (λ rest. x ∷ rest)
    (ap (filter (λ other. not (same_place x.place other.place))) (one_append xs ys)
    ∙ filter_both (λ other. not (same_place x.place other.place)) (one_a_place xs) (without xs (one_a_place ys))
    ∙ ap (λ rest. filter (λ other. not (same_place x.place other.place)) (one_a_place xs) ++ rest)
    (filter_twice (λ other. not (same_place x.place other.place)) (λ run. not (here xs run)) (one_a_place ys)
    ∙ filter_alike _ _ (one_a_place ys) (λ run. not_either (same_place x.place run.place) (here xs run))))

here_filter : (x run : Run) → same_place x.place run.place ≡ false → (xs : List Run) →
    here (filter (λ other. not (same_place x.place other.place)) xs) run ≡ here xs run
here_filter x run apart [] = refl
here_filter x run apart (y ∷ xs) = by_place (same_place x.place y.place) refl (here_filter x run apart xs)
  where
    by_place : (b : Bool) → same_place x.place y.place ≡ b → here (filter (λ other. not (same_place x.place other.place)) xs) run ≡ here xs run →
        here (cond (not b) (y ∷ filter (λ other. not (same_place x.place other.place)) xs) (filter (λ other. not (same_place x.place other.place)) xs)) run
        ≡ (same_place y.place run.place || here xs run)
    by_place true is rest =
        rest ∙ ap (λ b. b || here xs run) (sym (ap (λ place. same_place place run.place) (sym (same_true x.place y.place is)) ∙ apart))
    by_place false is rest = ap (λ b. same_place y.place run.place || b) rest

here_one : (xs : List Run) (run : Run) → here (one_a_place xs) run ≡ here xs run
here_one [] run = refl
here_one (x ∷ xs) run = by_place (same_place x.place run.place) refl (here_one xs run)
  where
    by_place : (b : Bool) → same_place x.place run.place ≡ b → here (one_a_place xs) run ≡ here xs run →
        (b || here (filter (λ other. not (same_place x.place other.place)) (one_a_place xs)) run) ≡ (b || here xs run)
    by_place true is rest = refl
    by_place false is rest = here_filter x run is (one_a_place xs) ∙ rest

-- two lists that have one `run` a place have it when they are joined
pub one_both : (xs xs' ys ys' : List Run) → one_a_place xs ≡ one_a_place xs' → one_a_place ys ≡ one_a_place ys' →
    one_a_place (xs ++ ys) ≡ one_a_place (xs' ++ ys')
one_both xs xs' ys ys' one other =
    one_append xs ys ∙ (λ j. one j ++ filter (λ run. not (places run j)) (other j)) ∙ sym (one_append xs' ys')
  where
    places : (run : Run) → here xs run ≡ here xs' run
    places run = sym (here_one xs run) ∙ ap (λ list. here list run) one ∙ here_one xs' run

covered : (xs zs : List Run) → ((run : Run) → here xs run ≡ true → here zs run ≡ true) → without zs (one_a_place xs) ≡ []
covered [] zs all = refl
covered (x ∷ xs) zs all =
    ap (λ b. cond (not b) (x ∷ filter (λ run. not (here zs run)) others) (filter (λ run. not (here zs run)) others))
    (all x (or_left (same_place x.place x.place) (here xs x) (same_place_refl x.place)))
    ∙ filter_swap (λ run. not (here zs run)) (λ other. not (same_place x.place other.place)) (one_a_place xs)
    ∙ ap (filter (λ other. not (same_place x.place other.place)))
    (covered xs zs (λ run there. all run (or_right (same_place x.place run.place) (here xs run) there)))
  where
    others : List Run
    others = filter (λ other. not (same_place x.place other.place)) (one_a_place xs)

-- a list after one with its places has no further `run`
pub one_twice : (xs ys : List Run) → one_a_place xs ≡ one_a_place ys → one_a_place (xs ++ ys) ≡ one_a_place xs
one_twice xs ys is =
    one_append xs ys ∙ ap (λ rest. one_a_place xs ++ rest) (ap (without xs) (sym is) ∙ covered xs xs (λ run there. there)) ∙ append-nil (one_a_place xs)
