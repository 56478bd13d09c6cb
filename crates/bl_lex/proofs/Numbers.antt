-- The kept value of digits, as one digit more is read, and how words spell numbers.
use Rattle.std.proofs.Common.{◌≡◌, subst, ℕ, ◌+◌, ◌*◌, ◌^◌, ◌<◌, ◌≤◌, min, List, [], ◌∷◌, ◌++◌, ◌⊎◌, inl, inr, ⊎_elim, length, get_or, take, refl, arith}
use Rattle.std.proofs.Common.{length-append, add-one}
use Rattle.std.proofs.Math.Nat.{pow-suc, min-eq_right, mul-le-mul_left, mul-le-mul_right, pow-zero}
use Rattle.std.proofs.Math.Seq.{take-suc}
use Rattle.std.proofs.lemmas.List.{get_or_default}
use Rattle.std.proofs.str.Laws.{order}
use Rattle.std.specs.Char.{digit_value}
use Rattle.bl_lex.specs.Spelling.{digits_value, IsDigits, IsNumber}
use Rattle.bl_lex.specs.Spelling.IsNumber.{decimal, hexadecimal, binary}
use Rattle.bl_lex.specs.inner.Steps.{IsNoNumeral}

-- how the value of one digit more comes, with the digits' values and powers as plain numbers
shifted : (d p b v e : ℕ) → d * (p * b) + (v * b + e) ≡ (d * p + v) * b + e
shifted d p b v e = grind arith

pub digits_value-push : (base : ℕ) (digits : List ℕ) (c : ℕ) →
    digits_value base (digits ++ c ∷ []) ≡ digits_value base digits * base + digit_value c
digits_value-push base [] c = rw pow-zero (omega arith)
digits_value-push base (x ∷ xs) c = rw (length-append xs (c ∷ []), add-one, pow-suc, digits_value-push base xs c)
    (shifted (digit_value x) (base ^ length xs) base (digits_value base xs) (digit_value c))

-- what is kept of a number is kept of it with a digit more
pub kept-push : (v b d most : ℕ) → 1 ≤ b → min (min v most * b + d) most ≡ min (v * b + d) most
kept-push v b d most h = ⊎_elim (λ small. let e : min v most ≡ v = omega arith in rw e refl)
    (λ great. let e : min v most ≡ most = min-eq_right great in let one : most * 1 ≤ most * b = mul-le-mul_left most h in
    let more : most * b ≤ v * b = mul-le-mul_right b great in rw e (omega arith)) (order v most)

-- one digit more, in a list of digits
pub kept-take : (base : ℕ) (digits : List ℕ) (i v d most : ℕ) → 1 ≤ base → i < length digits →
    v ≡ min (digits_value base (take i digits)) most → d ≡ digit_value (get_or digits i 0) →
    min (v * base + d) most ≡ min (digits_value base (take (i + 1) digits)) most
kept-take base digits i v d most positive inside before digit =
    rw (before, digit, add-one, take-suc digits i 0 inside, digits_value-push base (take i digits) (get_or digits i 0))
    (kept-push (digits_value base (take i digits)) base (digit_value (get_or digits i 0)) most positive)

-- a digit's value and all before it
pub IsDigits-all : (base : ℕ) (digits : List ℕ) → 0 < length digits →
    ((k : ℕ) → k < length digits → digit_value (get_or digits k 0) < base) → IsDigits base digits
IsDigits-all base digits some each = record { nonempty = some; each = λ k d inside. rw (get_or_default digits k d 0 inside) (each k inside) }

-- a byte of digits, whatever stands past their end
pub IsDigits-at : (base : ℕ) (digits : List ℕ) → IsDigits base digits → (k : ℕ) → k < length digits → digit_value (get_or digits k 0) < base
IsDigits-at base digits is k inside = is.each k 0 inside

-- the three ways in which a word spells a number
abbrev pub NumberCases : List ℕ → ℕ → Type 0
NumberCases word n = (IsDigits 10 word × (n ≡ digits_value 10 word))
    ⊎ (((digits : List ℕ) × (word ≡ 48 ∷ 120 ∷ digits) × IsDigits 16 digits × (n ≡ digits_value 16 digits))
    ⊎ ((digits : List ℕ) × (word ≡ 48 ∷ 98 ∷ digits) × IsDigits 2 digits × (n ≡ digits_value 2 digits)))

pub number_cases : {word : List ℕ} {n : ℕ} → IsNumber word n → NumberCases word n
number_cases (decimal is) = inl (is, refl)
number_cases (hexadecimal is) = inr (inl (_, refl, is, refl))
number_cases (binary is) = inr (inr (_, refl, is, refl))

-- what neither is decimal nor has digits of the base that its letter marks is no number
pub IsNoNumeral-marked : (mark : ℕ) (digits : List ℕ) → ¬ IsDigits 10 (48 ∷ mark ∷ digits) → (mark ≡ 120 → ¬ IsDigits 16 digits) →
    (mark ≡ 98 → ¬ IsDigits 2 digits) → (mark ≡ 111 → ¬ IsDigits 8 digits) → IsNoNumeral (48 ∷ mark ∷ digits)
IsNoNumeral-marked mark digits not_decimal no_hex no_binary no_octal = record {
  no_number = λ n is. ⊎_elim (λ d. not_decimal d.0)
      (⊎_elim (λ h. let e : mark ≡ 120 = cc in let same : h.0 ≡ digits = cc in no_hex e (subst (IsDigits 16) same h.2))
      (λ h. let e : mark ≡ 98 = cc in let same : h.0 ≡ digits = cc in no_binary e (subst (IsDigits 2) same h.2)))
      (number_cases is);
  not_octal = λ h. let e : mark ≡ 111 = cc in let same : h.0 ≡ digits = cc in no_octal e (subst (IsDigits 8) same h.2);
}

-- a word whose second byte is no decimal digit isn't decimal
pub not_decimal-mark : (mark : ℕ) (digits : List ℕ) → IsDigits 10 (48 ∷ mark ∷ digits) → digit_value mark < 10
not_decimal-mark mark digits is = is.each 1 0 (omega arith)
