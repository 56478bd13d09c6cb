-- Lists of static paths, tests of them and sets of them.
use Rattle.std.proofs.Common.{◌≡◌, ◌<◌, Bool, true, false, ◌||◌, List, [], ◌∷◌, ◌++◌, inl, inr, refl, sym, ap, ◌∙◌, subst, arith}
use Rattle.std.specs.Prelude.{Contains}
use Rattle.std.specs.List.{list_any}
use Rattle.std.proofs.lemmas.List.Elements.{Contains-append_cases, Contains-append_left, Contains-append_right, Contains-push, Contains-push_cases}
use Rattle.bl_tree.proofs.Basics.{or_true}
use Rattle.bl_tree.specs.declared.static_path.Static.{Static}
use Rattle.bl_tree.specs.Static.{set_of}
use Rattle.bl_effects.proofs.SetLemmas.{In, set_in}
use Rattle.bl_ctree_laws.proofs.Surfaces.{passed, passing}
use Rattle.bl_graph.proofs.Writing.{none_in_nothing}

-- a set passes where its list does
pub set_passes : (test : Static → Bool) (xs : List Static) → list_any test xs ≡ true → list_any test (set_of xs) ≡ true
set_passes test xs e = let p = passing test xs e in passed test (set_of xs) p.one (set_in p.one xs p.among) p.passes

-- and where a part of its list does
pub any_right : (test : Static → Bool) (xs ys : List Static) → list_any test ys ≡ true → list_any test (xs ++ ys) ≡ true
any_right test [] ys e = e
any_right test (x ∷ xs) ys e = ap (λ b. test x || b) (any_right test xs ys e) ∙ or_true (test x)

pub any_left : (test : Static → Bool) (xs ys : List Static) → list_any test xs ≡ true → list_any test (xs ++ ys) ≡ true
any_left test [] ys e = absurd cc
any_left test (x ∷ xs) ys e = by_test (test x) (list_any test xs) (list_any test (xs ++ ys)) (any_left test xs ys) e
  where
    by_test : (a b c : Bool) → (b ≡ true → c ≡ true) → (a || b) ≡ true → (a || c) ≡ true
    by_test true b c more h = refl
    by_test false b c more h = more h

-- members by index and by recursion
pub contained : (xs : List Static) (one : Static) → In one xs → Contains xs one
contained [] one m = elim m [ ]
contained (x ∷ xs) one (inl is) = subst (λ y. Contains (x ∷ xs) y) (sym is) (Contains-append_left (x ∷ []) xs x (Contains-push [] x))
contained (x ∷ xs) one (inr m) = Contains-append_right (x ∷ []) xs one (contained xs one m)

pub member : (xs : List Static) (one : Static) → Contains xs one → In one xs
member [] one m = absurd (none_in_nothing one m)
member (x ∷ xs) one m = elim (Contains-append_cases (x ∷ []) xs one m) [
  | inl here ↦ elim (Contains-push_cases [] x one here) [
    | inl none ↦ absurd (none_in_nothing one none)
    | inr is ↦ inl (sym is)
  ]
  | inr later ↦ inr (member xs one later)
]
