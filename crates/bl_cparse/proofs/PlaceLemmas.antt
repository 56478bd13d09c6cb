-- Where a text leaves the prelude.
use Rattle.std.proofs.Common.{◌≡◌, ◌≢◌, ℕ, suc, ◌<◌, ◌≤◌, List, [], ◌∷◌, ◌++◌, length, drop, get_or, refl, ap, ◌∙◌, subst, ◌⊎◌, ⊎_elim, arith}
use Rattle.bl_tree.proofs.Basics.{less_or_not}
use Rattle.bl_ctext.specs.Prelude.{prelude}
use Rattle.bl_cparse.specs.Places.{LeavesPreludeAt}

-- a text that agrees with another as long as that one is begins with it
agrees : (p text : List ℕ) → length p ≤ length text → ((k : ℕ) → k < length p → get_or text k 0 ≡ get_or p k 0) →
    text ≡ p ++ drop (length p) text
agrees [] text h same = refl
agrees (x ∷ p) [] h same = absurd (omega (arith, h))
agrees (x ∷ p) (y ∷ text) h same =
    let first : y ≡ x = same 0 (omega arith) in
    let rest : text ≡ p ++ drop (length p) text = agrees p text (omega (arith, h)) (λ (k : ℕ) (lt : k < length p). same (suc k) (omega (arith, lt))) in
    ap (λ (b : ℕ). b ∷ text) first ∙ ap (λ (bs : List ℕ). x ∷ bs) rest

-- the two differ before the one ends
ends_before : (p text : List ℕ) (n : ℕ) → ((rest : List ℕ) → text ≢ p ++ rest) → n ≤ length text → n ≤ length p →
    ((k : ℕ) → k < n → get_or text k 0 ≡ get_or p k 0) → n < length p
ends_before p text n other inside within same =
    ⊎_elim (λ less. less) (λ more. absurd (other (drop (length p) text)
    (agrees p text (omega (arith, inside, more)) (λ (k : ℕ) (lt : k < length p). same k (omega (arith, lt, more)))))) (less_or_not n (length p))

pub leaves : (p text : List ℕ) (n : ℕ) → p ≡ prelude → ((rest : List ℕ) → text ≢ prelude ++ rest) → n ≤ length text → n ≤ length p →
    ((k : ℕ) → k < n → get_or text k 0 ≡ get_or p k 0) →
    (n < length text → n < length p → get_or text n 0 ≢ get_or p n 0) → LeavesPreludeAt text n
leaves p text n e other inside within same differs =
    let all : (k : ℕ) → k < n → get_or text k 0 ≡ get_or prelude k 0 =
    subst (λ (q : List ℕ). (k : ℕ) → k < n → get_or text k 0 ≡ get_or q k 0) e same in
    let short : n ≤ length prelude = subst (λ (q : List ℕ). n ≤ length q) e within in
    let before : n < length prelude = ends_before prelude text n other inside short all in
    let last : n < length text → n < length prelude → get_or text n 0 ≢ get_or prelude n 0 =
    subst (λ (q : List ℕ). n < length text → n < length q → get_or text n 0 ≢ get_or q n 0) e differs in
    record { within = before; inside = inside; same = all; differs = λ (more : n < length text). last more before }
