-- Names, numbers and other words are no brackets.
use Rattle.std.proofs.Common.{◌≡◌, ◌⊎◌, ℕ, ◌+◌, ◌%◌, ◌^◌, ◌≤◌, ◌<◌, true, false, not, ◌&&◌, ◌||◌, ◌==◌, nat_eq, List, [], ◌∷◌, ◌++◌, map, refl}
use Rattle.std.proofs.Common.{sym, ◌∙◌, subst, inl, inr, arith}
use Rattle.std.proofs.lemmas.Bool.Decides.{nat_tests}
use Rattle.std.proofs.lemmas.Fmt.{decimal_by_steps}
use Rattle.std.specs.Cmp.Lexicographic.{pointwise}
use Rattle.std.specs.Fmt.{decimal}
use Rattle.std.proofs.lemmas.Bool.{not-true}
use Rattle.bl_tree.proofs.Basics.{and_first, and_second, either_of, last_digit, same_number}
use Rattle.bl_tree.specs.Reduce.{all_of}
use Rattle.bl_ctext.specs.Token.{Token, is_word_byte, is_word}
use Rattle.bl_ctext.specs.Names.{is_among, is_name, is_struct_name, is_function_name, is_callee, is_turn_name, prelude_functions}
use Rattle.bl_ctext.proofs.Nesting.{is_bracket}

pub same_bytes : (xs ys : List ℕ) → pointwise nat_eq xs ys ≡ true → xs ≡ ys
same_bytes [] [] h = refl
same_bytes [] (y ∷ ys) h = cc
same_bytes (x ∷ xs) [] h = cc
same_bytes (x ∷ xs) (y ∷ ys) h =
    let first : x ≡ y = same_number x y (and_first _ _ h) in
    let rest : xs ≡ ys = same_bytes xs ys (and_second _ _ h) in
    rw (first, rest) refl

other_byte : (b k : ℕ) → is_word_byte k ≡ false → is_word_byte b ≡ true → (b == k) ≡ false
other_byte b k h i = elim (b == k) as (λ v. (b == k) ≡ v → v ≡ false) [
  | true ↦ λ e. sym i ∙ subst (λ (x : ℕ). is_word_byte x ≡ false) (sym (same_number b k e)) h
  | false ↦ λ e. refl
] refl

-- no word is a bracket
pub word-plain : (t : Token) → is_word t ≡ true → is_bracket t ≡ false
word-plain [] h = cc
word-plain (b ∷ []) h =
    let word : is_word_byte b ≡ true = and_first _ _ h in
    rw (
      other_byte b 40 refl word,
      other_byte b 91 refl word,
      other_byte b 123 refl word,
      other_byte b 41 refl word,
      other_byte b 93 refl word,
      other_byte b
          125 refl word,
    )
word-plain (b ∷ c ∷ bs) h = refl

among-plain : (word : Token) (words : List Token) → is_among word words ≡ true →
    all_of (map (λ w. not (is_bracket w)) words) ≡ true → is_bracket word ≡ false
unfolding is_among
among-plain word [] h k = cc
among-plain word (w ∷ words) h k =
    elim (either_of (pointwise nat_eq w word) (is_among word words) h) [
      | inl same ↦ subst (λ (t : Token). is_bracket t ≡ false) (same_bytes w word same) (not-true (is_bracket w) (and_first _ _ k))
      | inr other ↦ among-plain word words other (and_second _ _ k)
    ]

pub name-word : (word : Token) → is_name word ≡ true → is_word word ≡ true
unfolding is_name
name-word word h = and_first _ _ h

pub name-plain : (word : Token) → is_name word ≡ true → is_bracket word ≡ false
name-plain word h = word-plain word (name-word word h)

pub struct_name-plain : (word : Token) → is_struct_name word ≡ true → is_bracket word ≡ false
unfolding is_struct_name
struct_name-plain word h = elim (either_of _ _ h) [ inl name ↦ name-plain word name | inr other ↦ among-plain word _ other refl ]

pub function_name-plain : (word : Token) → is_function_name word ≡ true → is_bracket word ≡ false
unfolding is_function_name
function_name-plain word h = elim (either_of _ _ h) [ inl name ↦ name-plain word name | inr other ↦ among-plain word _ other refl ]

pub callee-plain : (word : Token) → is_callee word ≡ true → is_bracket word ≡ false
unfolding is_callee
callee-plain word h = elim (either_of _ _ h) [ inl name ↦ name-plain word name | inr other ↦ among-plain word prelude_functions other refl ]

pub turn_name-plain : (word : Token) → is_turn_name word ≡ true → is_bracket word ≡ false
unfolding is_turn_name
turn_name-plain [] h = cc
turn_name-plain (t ∷ []) h = let none : false ≡ true = and_first false (all_of []) (and_second (t == 116) (false && all_of []) h) in cc
turn_name-plain (t ∷ d ∷ digits) h = refl

pub digit-word_byte : (n : ℕ) → n < 10 → is_word_byte (48 + n) ≡ true
digit-word_byte n h = grind (arith, nat_tests)

longer-plain : (xs : List ℕ) (b : ℕ) → is_word_byte b ≡ true → is_bracket (xs ++ (b ∷ [])) ≡ false
longer-plain [] b h = word-plain (b ∷ []) (rw h refl)
longer-plain (x ∷ []) b h = refl
longer-plain (x ∷ y ∷ xs) b h = refl

-- nor is a number
pub decimal-plain : (n : ℕ) → n < 2 ^ 64 → is_bracket (decimal n) ≡ false
decimal-plain n h =
    decimal_by_steps (λ (m : ℕ) (digits : List ℕ). is_bracket digits ≡ false)
    (λ (m : ℕ) (small : m < 10). longer-plain [] (48 + m) (digit-word_byte m small))
    (λ (m : ℕ) (digits : List ℕ) (big : 10 ≤ m) (word : is_bracket digits ≡ false). longer-plain digits (48 + m % 10)
    (digit-word_byte (m % 10) (last_digit m))) n h
