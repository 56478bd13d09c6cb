-- Members of lists, and lists in which none stands twice.
use Rattle.std.proofs.Common.{◌≡◌, ◌⊎◌, inl, inr, ⊎_elim, ℕ, Bool, true, false, ◌||◌, List, [], ◌∷◌, ◌++◌, map, nat_eq, Some, refl, sym, ap, subst}
use Rattle.std.proofs.Common.{◌∙◌, eqb-true}
use Rattle.std.specs.List.{list_any}
use Rattle.std.specs.Prelude.{Contains, slice_get, if◌then◌else◌}
use Rattle.bl_tree.proofs.Basics.{contains_first, contains_further, contains_none, either_of, first_or_further, get_mapped, index_of}
use Rattle.bl_machine_pass.specs.Transitions.{once, once_but}
use Rattle.bl_ctree_laws_traces.proofs.OnBounded.Lists.{EachOf}

-- ---- members

pub contains_right : {X : Type 0} (xs ys : List X) (x : X) → Contains ys x → Contains (xs ++ ys) x
contains_right [] ys x h = h
contains_right (y ∷ xs) ys x h = contains_further y (xs ++ ys) x (contains_right xs ys x h)

pub contains_split : {X : Type 0} (xs ys : List X) (x : X) → Contains (xs ++ ys) x → Contains xs x ⊎ Contains ys x
contains_split [] ys x h = inr h
contains_split (y ∷ xs) ys x h =
    ⊎_elim (λ (is : y ≡ x). inl (subst (λ z. Contains (z ∷ xs) x) (sym is) (contains_first x xs)))
    (λ (later : Contains (xs ++ ys) x).
    ⊎_elim (λ (one : Contains xs x). inl (contains_further y xs x one)) (λ (two : Contains ys x). inr two) (contains_split xs ys x later))
    (first_or_further y (xs ++ ys) x h)

-- where no node stands twice, what has one node is one
pub one_of_node : {X Y : Type 0} (f : X → Y) (xs : List X) →
    ((i j : ℕ) (y : Y) → slice_get (map f xs) i ≡ Some y → slice_get (map f xs) j ≡ Some y → i ≡ j) →
    (a b : X) → Contains xs a → Contains xs b → f a ≡ f b → a ≡ b
one_of_node f xs once a b one other same =
    let first = index_of xs a one in
    let second = index_of xs b other in
    let at : first.0 ≡ second.0 =
    once first.0 second.0 (f a) (get_mapped f xs first.0 a first.1) (get_mapped f xs second.0 b second.1 ∙ ap Some (sym same)) in
    some_is a b (sym first.1 ∙ ap (slice_get xs) at ∙ second.1)
  where
    some_is : {Z : Type 0} (x y : Z) → Some x ≡ Some y → x ≡ y
    some_is x y e = cc

-- ---- each number once

once_from : (seen ks : List ℕ) (j : ℕ) → Contains (once_but seen ks) j → Contains ks j
once_from seen [] j h = h
once_from seen (k ∷ ks) j h = by_seen (list_any (nat_eq k) seen) (λ there. once_from seen ks j there) (λ there. once_from (k ∷ seen) ks j there) h
  where
    by_seen : (b : Bool) → (Contains (once_but seen ks) j → Contains ks j) → (Contains (once_but (k ∷ seen) ks) j → Contains ks j) →
        Contains (if b then once_but seen ks else k ∷ once_but (k ∷ seen) ks) j → Contains (k ∷ ks) j
    by_seen true old new there = contains_further k ks j (old there)
    by_seen false old new there =
        ⊎_elim (λ (is : k ≡ j). subst (λ z. Contains (z ∷ ks) j) (sym is) (contains_first j ks))
        (λ (later : Contains (once_but (k ∷ seen) ks) j). contains_further k ks j (new later))
        (first_or_further k (once_but (k ∷ seen) ks) j there)

pub from_once : (ks : List ℕ) (j : ℕ) → Contains (once ks) j → Contains ks j
from_once ks j h = once_from [] ks j h

-- what is there and was not seen stands among them
once_into : (seen ks : List ℕ) (j : ℕ) → Contains ks j → (list_any (nat_eq j) seen ≡ true) ⊎ Contains (once_but seen ks) j
once_into seen [] j h = absurd (contains_none j h)
once_into seen (k ∷ ks) j h =
    ⊎_elim
    (λ (is : k ≡ j).
    subst (λ z. (list_any (nat_eq j) seen ≡ true) ⊎ Contains (once_but seen (z ∷ ks)) j) (sym is) (by_head (list_any (nat_eq j) seen) refl))
    (λ (later : Contains ks j). by_seen (list_any (nat_eq k) seen) (once_into seen ks j later) (once_into (k ∷ seen) ks j later)) (first_or_further k ks j h)
  where
    by_head : (b : Bool) → list_any (nat_eq j) seen ≡ b →
        (list_any (nat_eq j) seen ≡ true) ⊎ Contains (if b then once_but seen ks else j ∷ once_but (j ∷ seen) ks) j
    by_head true e = inl e
    by_head false e = inr (contains_first j (once_but (j ∷ seen) ks))

    -- it was seen, or is the first one
    by_first : ((nat_eq j k || list_any (nat_eq j) seen) ≡ true) ⊎ Contains (once_but (k ∷ seen) ks) j →
        (list_any (nat_eq j) seen ≡ true) ⊎ Contains (k ∷ once_but (k ∷ seen) ks) j
    by_first (inl e) =
        ⊎_elim
        (λ (same : nat_eq j k ≡ true).
        inr (subst (λ z. Contains (z ∷ once_but (k ∷ seen) ks) j) (eqb-true j k same) (contains_first j (once_but (k ∷ seen) ks))))
        (λ (was : list_any (nat_eq j) seen ≡ true). inl was) (either_of (nat_eq j k) (list_any (nat_eq j) seen) e)
    by_first (inr there) = inr (contains_further k (once_but (k ∷ seen) ks) j there)

    by_seen : (b : Bool) → (list_any (nat_eq j) seen ≡ true) ⊎ Contains (once_but seen ks) j →
        ((nat_eq j k || list_any (nat_eq j) seen) ≡ true) ⊎ Contains (once_but (k ∷ seen) ks) j →
        (list_any (nat_eq j) seen ≡ true) ⊎ Contains (if b then once_but seen ks else k ∷ once_but (k ∷ seen) ks) j
    by_seen true old new = old
    by_seen false old new = by_first new

pub into_once : (ks : List ℕ) (j : ℕ) → Contains ks j → Contains (once ks) j
into_once ks j h = ⊎_elim (λ (seen : false ≡ true). absurd cc) (λ (there : Contains (once ks) j). there) (once_into [] ks j h)

-- ---- what holds of each member

pub each_of : {X : Type 0} (P : X → Type 0) (xs : List X) (x : X) → EachOf P xs → Contains xs x → P x
each_of P [] x each there = absurd (contains_none x there)
each_of P (y ∷ xs) x each there =
    ⊎_elim (λ (is : y ≡ x). subst P is each.0) (λ (later : Contains xs x). each_of P xs x each.1 later) (first_or_further y xs x there)
