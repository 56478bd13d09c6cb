-- In what two lists of homes differ decides what they overlap.
use Rattle.std.proofs.Common.{◌≡◌, ℕ, zero, suc, ◌+◌, ◌-◌, ◌≤◌, false, ◌||◌, List, [], ◌∷◌, ◌++◌, take, drop, length}
use Rattle.std.proofs.Common.{refl, sym, ap, ◌∙◌, arith}
use Rattle.std.specs.Prelude.{Some, slice_get}
use Rattle.std.specs.List.{list_any}
use Rattle.std.proofs.lemmas.List.Folds.{list_any-append}
use Rattle.bl_tree.proofs.Basics.{drop_at}
use Rattle.bl_ctree.specs.Store.{Location, overlap}
use Rattle.bl_ctree_enabled.specs.Listing.{touches}
use Rattle.bl_ctree_enabled.specs.inner.Asked.{DecidedBy}
use Rattle.bl_ctree_enabled.proofs.BranchLemmas.{any_or, any_same, take_more}

pub touches-append : (xs ys reads : List Location) → touches (xs ++ ys) reads ≡ (touches xs reads || touches ys reads)
touches-append xs ys reads =
    any_same (λ at. list_any (overlap at) (xs ++ ys)) (λ at. list_any (overlap at) xs || list_any (overlap at) ys) reads
    (λ at. list_any-append (overlap at) xs ys)
    ∙ any_or (λ at. list_any (overlap at) xs) (λ at. list_any (overlap at) ys) reads

pub touches_nothing : (reads : List Location) → touches [] reads ≡ false
touches_nothing [] = refl
touches_nothing (at ∷ reads) = touches_nothing reads

take-drop : {A : Type 0} (k : ℕ) (xs : List A) → take k xs ++ drop k xs ≡ xs
take-drop zero [] = refl
take-drop zero (x ∷ xs) = refl
take-drop (suc k) [] = refl
take-drop (suc k) (x ∷ xs) = ap (λ rest. x ∷ rest) (take-drop k xs)

-- both begin alike
pub behind_front : (k : ℕ) (before now : List Location) → take k before ≡ take k now → DecidedBy (drop k before) (drop k now) before now
behind_front k before now same reads rest =
    sym (ap (λ xs. touches xs reads) (take-drop k before)) ∙ touches-append (take k before) (drop k before) reads
    ∙ (λ i. touches (same i) reads || rest i)
    ∙ sym (touches-append (take k now) (drop k now) reads) ∙ ap (λ xs. touches xs reads) (take-drop k now)

-- both end alike
pub before_back : (m n : ℕ) (before now : List Location) → drop m before ≡ drop n now → DecidedBy (take m before) (take n now) before now
before_back m n before now same reads rest =
    sym (ap (λ xs. touches xs reads) (take-drop m before)) ∙ touches-append (take m before) (drop m before) reads
    ∙ (λ i. rest i || touches (same i) reads)
    ∙ sym (touches-append (take n now) (drop n now) reads) ∙ ap (λ xs. touches xs reads) (take-drop n now)

-- one more home
pub front_more : (k next : ℕ) (before now : List Location) (x : Location) → next ≡ suc k → slice_get before k ≡ Some x → slice_get now k ≡ Some x
    → take k before ≡ take k now → take next before ≡ take next now
front_more k next before now x is_next here there same =
    ap (λ n. take n before) is_next ∙ take_more k before x (drop (suc k) before) (drop_at before k x here)
    ∙ ap (λ xs. xs ++ x ∷ []) same
    ∙ sym (ap (λ n. take n now) is_next ∙ take_more k now x (drop (suc k) now) (drop_at now k x there))

pub back_more : (m n p q : ℕ) (before now : List Location) (x : Location) → p ≡ suc m → q ≡ suc n → slice_get before m ≡ Some x
    → slice_get now n ≡ Some x → drop p before ≡ drop q now → drop m before ≡ drop n now
back_more m n p q before now x is_p is_q here there same =
    drop_at before m x here
    ∙ ap (λ rest. x ∷ rest) (ap (λ n. drop n before) (sym is_p) ∙ same ∙ ap (λ n. drop n now) is_q)
    ∙ sym (drop_at now n x there)

take_all : {A : Type 0} (n : ℕ) (xs : List A) → length xs ≤ n → take n xs ≡ xs
take_all zero [] past = refl
take_all (suc n) [] past = refl
take_all zero (x ∷ xs) past = absurd (omega (arith, past))
take_all (suc n) (x ∷ xs) past = ap (λ rest. x ∷ rest) (take_all n xs (omega (arith, past)))

dropped : {A : Type 0} (k : ℕ) (xs : List A) → k ≤ length xs → length (drop k xs) + k ≡ length xs
dropped zero [] within = refl
dropped zero (x ∷ xs) within = omega arith
dropped (suc k) [] within = absurd (omega (arith, within))
dropped (suc k) (x ∷ xs) within = let rest = dropped k xs (omega (arith, within)) in omega (arith, rest)

-- what is left is whole
pub take_rest : {A : Type 0} (k : ℕ) (xs : List A) → k ≤ length xs → take (length xs - k) (drop k xs) ≡ drop k xs
take_rest k xs within = let many = dropped k xs within in take_all (length xs - k) (drop k xs) (omega (arith, many))
