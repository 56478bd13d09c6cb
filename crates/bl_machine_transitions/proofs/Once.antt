-- Each counter once.
use Rattle.std.proofs.Common.{◌≡◌, ℕ, suc, ◌+◌, ◌-◌, ◌<◌, Bool, true, false, ◌||◌, List, [], ◌∷◌, ◌++◌, nat_eq}
use Rattle.std.proofs.Common.{refl, ap, sym, ◌∙◌, append_assoc, arith}
use Rattle.std.specs.List.{list_any}
use Rattle.std.specs.Prelude.{if◌then◌else◌}
use Rattle.bl_tree.proofs.Basics.{or_swap}
use Rattle.bl_machine_pass.specs.Transitions.{once_but}
use Rattle.bl_machine_transitions.specs.Listed.{Layout, counters_from}

once_same : (xs seen others : List ℕ) → ((j : ℕ) → list_any (nat_eq j) seen ≡ list_any (nat_eq j) others) → once_but seen xs
    ≡ once_but others xs
once_same [] seen others same = refl
once_same (k ∷ xs) seen others same = λ i.
    if same k i then once_same xs seen others same i
    else k ∷ once_same xs (k ∷ seen) (k ∷ others) (λ j i. nat_eq j k || same j i) i

pub any_last : (seen : List ℕ) (k j : ℕ) → list_any (nat_eq j) (seen ++ k ∷ []) ≡ list_any (nat_eq j) (k ∷ seen)
any_last [] k j = refl
any_last (x ∷ seen) k j = ap (λ b. nat_eq j x || b) (any_last seen k j) ∙ or_swap (nat_eq j x) (nat_eq j k) (list_any (nat_eq j) seen)

once_by : (b : Bool) (found : List ℕ) (k : ℕ) (rest : List ℕ) →
    (if b then found else found ++ k ∷ []) ++ once_but (if b then found else found ++ k ∷ []) rest
    ≡ found ++ (if b then once_but found rest else k ∷ once_but (k ∷ found) rest)
once_by true found k rest = refl
once_by false found k rest =
    append_assoc found (k ∷ []) (once_but (found ++ k ∷ []) rest)
    ∙ ap (λ all. found ++ k ∷ all) (once_same rest (found ++ k ∷ []) (k ∷ found) (any_last found k))

one_less : (step count : ℕ) → step < count → count - step ≡ suc (count - (step + 1))
one_less step count within = omega arith

one_further : (p step : ℕ) → p + (step + 1) ≡ suc (p + step)
one_further p step = omega arith

pub once_next : (layout : Layout) (p step count counter : ℕ) (found more total : List ℕ) → step < count → counter
    ≡ (layout.slot (p + step)).counter →
    more ≡ (if list_any (nat_eq counter) found then found else found ++ counter ∷ []) →
    found ++ once_but found (counters_from layout (p + step) (count - step)) ≡ total →
    more ++ once_but more (counters_from layout (p + (step + 1)) (count - (step + 1))) ≡ total
once_next layout p step count counter found more total within reads grows before =
    ap (λ more. more ++ once_but more (counters_from layout (p + (step + 1)) (count - (step + 1)))) grows
    ∙ once_by (list_any (nat_eq counter) found) found counter (counters_from layout (p + (step + 1)) (count - (step + 1)))
    ∙ (λ i. found ++ once_but found (reads i ∷ counters_from layout (one_further p step i) (count - (step + 1))))
    ∙ ap (λ n. found ++ once_but found (counters_from layout (p + step) n)) (sym (one_less step count within))
    ∙ before

nothing_left : (step count : ℕ) → count - step ≡ 0 → (layout : Layout) (p : ℕ) → counters_from layout p (count - step) ≡ []
nothing_left step count none layout p = ap (counters_from layout p) none

pub once_end : (layout : Layout) (p step count : ℕ) (found total : List ℕ) → count - step ≡ 0 →
    found ++ once_but found (counters_from layout (p + step) (count - step)) ≡ total → found ≡ total
once_end layout p step count found total none before =
    sym (append_nil found)
    ∙ ap (λ rest. found ++ once_but found rest) (sym (nothing_left step count none layout (p + step))) ∙ before
  where
    append_nil : (xs : List ℕ) → xs ++ [] ≡ xs
    append_nil [] = refl
    append_nil (x ∷ xs) = ap (λ rest. x ∷ rest) (append_nil xs)

pub once_first : (layout : Layout) (p count : ℕ) (found : List ℕ) → found ≡ [] →
    found ++ once_but found (counters_from layout (p + 0) (count - 0)) ≡ once_but [] (counters_from layout p count)
once_first layout p count found none =
    let same : p + 0 ≡ p = omega arith in
    let all : count - 0 ≡ count = omega arith in
    ap (λ found. found ++ once_but found (counters_from layout (p + 0) (count - 0))) none
    ∙ (λ i. once_but [] (counters_from layout (same i) (all i)))
