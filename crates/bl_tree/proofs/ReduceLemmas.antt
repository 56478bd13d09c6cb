-- Laws of what a list of answers comes to: at an element, and at one list put behind another.
use Rattle.std.proofs.Common.{◌≡◌, ℕ, ◌+◌, ◌<◌, ◌≤◌, Bool, true, false, ◌&&◌, ◌||◌, List, [], ◌∷◌, ◌++◌, length, get_or, refl, sym, ap, ◌∙◌, append_assoc, zero}
use Rattle.std.proofs.Common.{suc, arith, max}
use Rattle.bl_tree.proofs.Basics.{and_regroup, or_regroup}
use Rattle.bl_tree.specs.Reduce.{all_of, any_of, joined, total, greatest}

pub all_of-append : (xs ys : List Bool) → all_of (xs ++ ys) ≡ (all_of xs && all_of ys)
all_of-append [] ys = refl
all_of-append (x ∷ xs) ys = ap (λ rest. x && rest) (all_of-append xs ys) ∙ and_regroup x (all_of xs) (all_of ys)

pub any_of-append : (xs ys : List Bool) → any_of (xs ++ ys) ≡ (any_of xs || any_of ys)
any_of-append [] ys = refl
any_of-append (x ∷ xs) ys = ap (λ rest. x || rest) (any_of-append xs ys) ∙ or_regroup x (any_of xs) (any_of ys)

pub total-append : (xs ys : List ℕ) → total (xs ++ ys) ≡ total xs + total ys
total-append [] ys = omega arith
total-append (n ∷ xs) ys = omega (arith, total-append xs ys)

pub greatest-append : (xs ys : List ℕ) → greatest (xs ++ ys) ≡ max (greatest xs) (greatest ys)
greatest-append [] ys = omega arith
greatest-append (n ∷ xs) ys = omega (arith, greatest-append xs ys)

pub joined-append : {A : Type 0} (xs ys : List (List A)) → joined (xs ++ ys) ≡ joined xs ++ joined ys
joined-append [] ys = refl
joined-append (x ∷ xs) ys = ap (λ rest. x ++ rest) (joined-append xs ys) ∙ sym (append_assoc x (joined xs) (joined ys))

-- an answer of many that are all yes
pub all_of-at : (xs : List Bool) (k : ℕ) (d : Bool) → k < length xs → all_of xs ≡ true → get_or xs k d ≡ true
all_of-at [] k d within all = absurd (omega arith)
all_of-at (true ∷ xs) zero d within all = refl
all_of-at (true ∷ xs) (suc k) d within all = all_of-at xs k d (omega arith) all
all_of-at (false ∷ xs) k d within all = cc

-- an answer of many of which none is yes
pub any_of-at : (xs : List Bool) (k : ℕ) (d : Bool) → k < length xs → any_of xs ≡ false → get_or xs k d ≡ false
any_of-at [] k d within none = absurd (omega arith)
any_of-at (false ∷ xs) zero d within none = refl
any_of-at (false ∷ xs) (suc k) d within none = any_of-at xs k d (omega arith) none
any_of-at (true ∷ xs) k d within none = cc

-- no answer exceeds the greatest
pub greatest-at : (xs : List ℕ) (k d : ℕ) → k < length xs → get_or xs k d ≤ greatest xs
greatest-at [] k d within = absurd (omega arith)
greatest-at (n ∷ xs) zero d within = omega arith
greatest-at (n ∷ xs) (suc k) d within = let lt : k < length xs = omega arith in omega (arith, greatest-at xs k d lt)
