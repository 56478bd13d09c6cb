-- The first of several failures, list by list.
use Rattle.std.proofs.Common.{◌≡◌, ℕ, zero, suc, ◌+◌, ◌<◌, ◌≤◌, Bool, false, ◌&&◌, ◌||◌, List, [], ◌∷◌, ◌++◌, map, length, drop, Option}
use Rattle.std.proofs.Common.{refl, ap, sym, ◌∙◌, append_assoc, arith}
use Rattle.bl_tree.proofs.Basics.{and_assoc, map_append, or_assoc}
use Rattle.bl_tree.proofs.ReduceLemmas.{joined-append}
use Rattle.bl_tree.specs.declared.tree.Var.{Var}
use Rattle.bl_tree.specs.Reduce.{all_of, any_of, joined}
use Rattle.bl_effects.specs.declared.marked.Marked.{Marked}
use Rattle.bl_effects.specs.Rules.{Parallel, Split, splits_after, together}
use Rattle.bl_tree.specs.Static.{is_front}
use Rattle.bl_tree.specs.declared.rule.Failure.{Failure}
use Rattle.bl_tree.specs.Rules.{first_of, lesser}
use Rattle.bl_conflict.specs.inner.Failures.{all_clashes, clashes, least_by}

pub first-append : (best : Option Failure) (xs ys : List Failure) → first_of best (xs ++ ys) ≡ first_of (first_of best xs) ys
first-append best [] ys = refl
first-append best (x ∷ xs) ys = first-append (lesser best x) xs ys

pub least-append : {A : Type 0} (f : A → Failure) (best : Option Failure) (xs ys : List A)
    → least_by f best (xs ++ ys) ≡ least_by f (least_by f best xs) ys
least-append f best [] ys = refl
least-append f best (x ∷ xs) ys = least-append f (lesser best (f x)) xs ys

-- one more list of failures
pub first-next : {X : Type 0} (g : X → List Failure) (all rest : List X) (x : X) (best found : Option Failure) → all ≡ x ∷ rest →
    first_of best (joined (map g all)) ≡ found → first_of (first_of best (g x)) (joined (map g rest)) ≡ found
first-next g all rest x best found is h =
    sym (first-append best (g x) (joined (map g rest))) ∙ ap (λ l. first_of best (joined (map g l))) (sym is) ∙ h

-- the same of what failures are made of
pub best-next : {A X : Type 0} (f : A → Failure) (g : X → List A) (all rest : List X) (x : X) (best found : Option Failure)
    → all ≡ x ∷ rest → least_by f best (joined (map g all)) ≡ found → least_by f (least_by f best (g x)) (joined (map g rest)) ≡ found
best-next f g all rest x best found is h =
    sym (least-append f best (g x) (joined (map g rest))) ∙ ap (λ l. least_by f best (joined (map g l))) (sym is) ∙ h

-- one more list of elements
pub more-next : {A X : Type 0} (g : X → List A) (all rest : List X) (x : X) (done found : List A) → all ≡ x ∷ rest →
    done ++ joined (map g all) ≡ found → (done ++ g x) ++ joined (map g rest) ≡ found
more-next g all rest x done found is h = append_assoc done (g x) (joined (map g rest)) ∙ ap (λ l. done ++ joined (map g l)) (sym is) ∙ h

-- one more answer
pub all-next : {X : Type 0} (g : X → Bool) (all rest : List X) (x : X) (done found : Bool) → all ≡ x ∷ rest →
    (done && all_of (map g all)) ≡ found → ((done && g x) && all_of (map g rest)) ≡ found
all-next g all rest x done found is h = and_assoc done (g x) (all_of (map g rest)) ∙ ap (λ l. done && all_of (map g l)) (sym is) ∙ h

pub any-next : {X : Type 0} (g : X → Bool) (all rest : List X) (x : X) (done found : Bool) → all ≡ x ∷ rest →
    (done || any_of (map g all)) ≡ found → ((done || g x) || any_of (map g rest)) ≡ found
any-next g all rest x done found is h = or_assoc done (g x) (any_of (map g rest)) ∙ ap (λ l. done || any_of (map g l)) (sym is) ∙ h

-- ---- branches

pub clashes-append : (vars : List Var) (xs ys : List Split) → all_clashes vars (xs ++ ys) ≡ all_clashes vars xs ++ all_clashes vars ys
clashes-append vars xs ys = ap joined (map_append (clashes vars) xs ys) ∙ joined-append (map (clashes vars) xs) (map (clashes vars) ys)

-- the branches of one more statement
pub clash-next : (vars : List Var) (all rest : List Parallel) (x : Parallel) (best found : Option Failure) → all ≡ x ∷ rest →
    first_of best (all_clashes vars (together all).splits) ≡ found →
    first_of (first_of best (all_clashes vars x.splits)) (all_clashes vars (together rest).splits) ≡ found
clash-next vars all rest x best found is h =
    sym (first-append best (all_clashes vars x.splits) (all_clashes vars (together rest).splits))
    ∙ ap (first_of best) (sym (clashes-append vars x.splits (together rest).splits))
    ∙ ap (λ l. first_of best (all_clashes vars (together l).splits)) (sym is) ∙ h

-- one more branch, and it beside those before it
pub branch-next : (vars : List Var) (before : List Marked) (all rest : List Parallel) (x : Parallel) (best found : Option Failure) → all ≡ x ∷ rest →
    first_of best (all_clashes vars (splits_after before all)) ≡ found →
    first_of (first_of (first_of best (all_clashes vars x.splits)) (clashes vars (record { earlier = before; writes = x.writes })))
    (all_clashes vars (splits_after (before ++ x.writes) rest)) ≡ found
branch-next vars before all rest x best found is h =
    let this : Split = record { earlier = before; writes = x.writes } in
    let later = splits_after (before ++ x.writes) rest in
    sym (first-append (first_of best (all_clashes vars x.splits)) (clashes vars this) (all_clashes vars later))
    ∙ sym (first-append best (all_clashes vars x.splits) (all_clashes vars (this ∷ later)))
    ∙ ap (first_of best) (sym (clashes-append vars x.splits (this ∷ later)))
    ∙ ap (λ l. first_of best (all_clashes vars (splits_after before l))) (sym is) ∙ h

-- ---- paths

none_front : (xs : List ℕ) (k : ℕ) → k < length xs → is_front (drop k xs) [] ≡ false
none_front [] k below = absurd (omega arith)
none_front (x ∷ xs) zero below = refl
none_front (x ∷ xs) (suc k) below = none_front xs k (omega arith)

-- what is longer is no front
pub front_past : (xs ys : List ℕ) (k : ℕ) → k < length xs → length ys ≤ k → is_front (drop k xs) (drop k ys) ≡ false
front_past [] ys k below past = absurd (omega arith)
front_past (x ∷ xs) [] zero below past = refl
front_past (x ∷ xs) [] (suc k) below past = none_front xs k (omega arith)
front_past (x ∷ xs) (y ∷ ys) zero below past = absurd (omega arith)
front_past (x ∷ xs) (y ∷ ys) (suc k) below past = front_past xs ys k (omega arith) (omega arith)

pub ruleset firsts = (first-append, least-append)
