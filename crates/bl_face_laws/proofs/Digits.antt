-- Decimal digits of a number spell it.
use Rattle.std.proofs.Common.{◌≡◌, ℕ, ◌+◌, ◌/◌, ◌%◌, ◌^◌, ◌<◌, ◌≤◌, Bool, true, false, ◌&&◌, List, [], ◌∷◌, ◌++◌, refl, ◌∙◌, arith, length-append}
use Rattle.std.specs.List.{list_all}
use Rattle.std.specs.Char.{digit_value}
use Rattle.std.specs.Fmt.{decimal}
use Rattle.std.proofs.lemmas.Bool.Decides.{nat_tests}
use Rattle.std.proofs.lemmas.Fmt.{decimal_by_steps_wide}
use Rattle.std.proofs.lemmas.Str.{digit_value_digit}
use Rattle.std.proofs.lemmas.List.Elements.{All-nil, All-cons, All-append}
use Rattle.bl_tree.proofs.Basics.{false_not_true}
use Rattle.bl_lex.specs.Spelling.{is_word_byte, digits_value, IsDigits}
use Rattle.bl_lex.proofs.Numbers.{digits_value-push}

-- digits of a number
pub record DigitsOf (n : ℕ) (digits : List ℕ) : Type 0 where
  pub are : IsDigits 10 digits
  pub value : digits_value 10 digits ≡ n
  pub bytes : list_all is_word_byte digits ≡ true

digit_is : (d : ℕ) → d < 10 → digit_value (48 + d) ≡ d
digit_is d small = let e = digit_value_digit (48 + d) (omega arith, omega (arith, small)) in omega (arith, e)

digit_byte : (d : ℕ) → d < 10 → is_word_byte (48 + d) ≡ true
digit_byte d small = grind (arith, nat_tests)

all_more : (p : ℕ → Bool) (xs : List ℕ) (x : ℕ) → list_all p xs ≡ true → p x ≡ true → list_all p (xs ++ x ∷ []) ≡ true
all_more p [] x all is = rw is refl
all_more p (y ∷ ys) x all is = by_first (p y) all (λ e. all_more p ys x e is)
  where
    by_first : (b : Bool) → b && list_all p ys ≡ true → (list_all p ys ≡ true → list_all p (ys ++ x ∷ []) ≡ true) →
        b && list_all p (ys ++ x ∷ []) ≡ true
    by_first true e rest = rest e
    by_first false e rest = absurd (false_not_true e)

one : (d : ℕ) → d < 10 → DigitsOf d ((48 + d) ∷ [])
one d small = let e = digit_is d small in record {
  are = record {
    nonempty = omega arith;
    each = All-cons (λ c. digit_value c < 10) (48 + d) [] (omega (arith, e, small)) (All-nil (λ c. digit_value c < 10));
  };
  value = digits_value-push 10 [] (48 + d) ∙ omega (arith, e);
  bytes = all_more is_word_byte [] (48 + d) refl (digit_byte d small);
}

next : (n : ℕ) (digits : List ℕ) → 10 ≤ n → DigitsOf (n / 10) digits → DigitsOf n (digits ++ (48 + n % 10) ∷ [])
next n digits great h =
    let small : n % 10 < 10 = omega arith in
    let e = digit_is (n % 10) small in
    record {
      are = record {
        nonempty = omega (arith, length-append digits ((48 + n % 10) ∷ []));
        each = All-append (λ c. digit_value c < 10) digits ((48 + n % 10) ∷ []) h.are.each
            (All-cons (λ c. digit_value c < 10) (48 + n % 10) [] (omega (arith, e, small)) (All-nil (λ c. digit_value c < 10)));
      };
      value = digits_value-push 10 digits (48 + n % 10) ∙ omega (arith, h.value, e);
      bytes = all_more is_word_byte digits (48 + n % 10) h.bytes (digit_byte (n % 10) small);
    }

pub decimal_digits : (n : ℕ) → n < 10 ^ 64 → DigitsOf n (decimal n)
decimal_digits = decimal_by_steps_wide DigitsOf one next
