-- Totals over what is made of variables.
use Rattle.std.proofs.Common.{◌≡◌, ℕ, suc, ◌+◌, ◌≤◌, Bool, true, false, List, [], ◌∷◌, ◌++◌, map, take, drop, Some, refl, sym, ap, ◌∙◌, arith}
use Rattle.std.proofs.lemmas.List.{map-append, take-append-drop}
use Rattle.std.specs.Prelude.{slice_get}
use Rattle.bl_tree.specs.declared.tree.Var.{Var}
use Rattle.bl_tree.specs.Reduce.{total}
use Rattle.bl_tree.proofs.ReduceLemmas.{total-append}
use Rattle.bl_emit_functions_laws_wellformed.proofs.OnFormed.Kept.{made_from, one_where}

pub total-both : {A : Type 0} (f : A → ℕ) (xs ys : List A) → total (map f (xs ++ ys)) ≡ total (map f xs) + total (map f ys)
total-both f xs ys = ap total (map-append f xs ys) ∙ total-append (map f xs) (map f ys)

pub total-split : {A : Type 0} (f : A → ℕ) (n : ℕ) (xs : List A) → total (map f xs) ≡ total (map f (take n xs)) + total (map f (drop n xs))
total-split f n xs = ap (λ ys. total (map f ys)) (sym (take-append-drop n xs)) ∙ total-both f (take n xs) (drop n xs)

-- what is made of some variables counts no more than the variables, where each counts no more than its own
pub total-made : {A : Type 0} (f : A → ℕ) (most : Var → ℕ) (kept : Var → Bool) (make : ℕ → Var → A) (base : ℕ) (vars : List Var) →
    ((k j : ℕ) (var : Var) → slice_get vars j ≡ Some var → f (make k var) ≤ most var) →
    total (map f (made_from kept make base vars)) ≤ total (map most vars)
total-made f most kept make base [] each = omega arith
total-made f most kept make base (var ∷ rest) each =
    let one : total (map f (one_where (kept var) (make base var))) ≤ most var = by (kept var) in
    let later : total (map f (made_from kept make (base + 1) rest)) ≤ total (map most rest) =
    total-made f most kept make (base + 1) rest (λ k j v found. each k (suc j) v found) in
    let split = total-both f (one_where (kept var) (make base var)) (made_from kept make (base + 1) rest) in
    omega (arith, one, later, split)
  where
    by : (b : Bool) → total (map f (one_where b (make base var))) ≤ most var
    by true = let own : f (make base var) ≤ most var = each base 0 var refl in omega (arith, own)
    by false = omega arith
