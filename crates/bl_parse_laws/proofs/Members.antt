-- Lists with one more member at their end.
use Rattle.std.proofs.Common.{◌≡◌, ℕ, List, [], ◌∷◌, ◌++◌, map, max, ap, ◌∙◌, arith}
use Rattle.bl_tree.proofs.Basics.{map_push}
use Rattle.bl_tree.specs.Reduce.{greatest}

pub greatest_more : (ns : List ℕ) (n : ℕ) → greatest (ns ++ n ∷ []) ≡ max (greatest ns) n
greatest_more [] n = omega arith
greatest_more (m ∷ ns) n = let rest = greatest_more ns n in omega (arith, rest)

-- the greatest number that a member has
pub greatest_of_more : {A : Type 0} (f : A → ℕ) {all : List A} (xs : List A) (x : A) → all ≡ xs ++ x ∷ [] →
    greatest (map f all) ≡ max (greatest (map f xs)) (f x)
greatest_of_more f xs x is = ap (λ ys. greatest (map f ys)) is ∙ (ap greatest (map_push f xs x) ∙ greatest_more (map f xs) (f x))
