-- Names and numbers are words.
use Rattle.std.proofs.Common.{◌≡◌, ℕ, ◌+◌, ◌%◌, ◌^◌, ◌≤◌, ◌<◌, true, nat_eq, List, [], ◌∷◌, ◌++◌, map, refl, subst, inl, inr, arith}
use Rattle.std.proofs.lemmas.Bool.Decides.{nat_tests}
use Rattle.std.proofs.lemmas.Fmt.{decimal_by_steps}
use Rattle.std.specs.Cmp.Lexicographic.{pointwise}
use Rattle.std.specs.Fmt.{decimal}
use Rattle.std.proofs.lemmas.Bool.{and_from, or_left}
use Rattle.bl_tree.proofs.Basics.{and_first, and_second, either_of, last_digit, same_number}
use Rattle.bl_tree.specs.Reduce.{all_of}
use Rattle.bl_ctext.specs.Token.{Token, is_word_byte, is_word, is_sign, is_token}
use Rattle.bl_ctext.specs.Names.{is_among, is_name, is_struct_name, is_function_name, is_callee, is_turn_name, prelude_functions}
use Rattle.bl_ctext.specs.inner.Cut.{tokens_in, are_tokens}
use Rattle.bl_ctext.proofs.Cutting.{tokens_in-token}
use Rattle.bl_ctext.proofs.PlainWords.{digit-word_byte, same_bytes}

pub are_tokens-one : (t : Token) → is_token t ≡ true → are_tokens (tokens_in t) ≡ true
are_tokens-one t h = rw (tokens_in-token t h) (and_from (is_token t) true h refl)

among-token : (word : Token) (words : List Token) → is_among word words ≡ true → are_tokens words ≡ true → is_token word ≡ true
unfolding is_among
among-token word [] h k = cc
among-token word (w ∷ words) h k =
    elim (either_of (pointwise nat_eq w word) (is_among word words) h) [
      | inl same ↦ subst (λ (t : Token). is_token t ≡ true) (same_bytes w word same) (and_first _ _ k)
      | inr other ↦ among-token word words other (and_second _ _ k)
    ]

pub name-token : (word : Token) → is_name word ≡ true → is_token word ≡ true
unfolding is_name
name-token word h = or_left (is_word word) (is_sign word) (and_first _ _ h)

pub struct_name-token : (word : Token) → is_struct_name word ≡ true → is_token word ≡ true
unfolding is_struct_name
struct_name-token word h = elim (either_of _ _ h) [ inl name ↦ name-token word name | inr other ↦ among-token word _ other refl ]

pub function_name-token : (word : Token) → is_function_name word ≡ true → is_token word ≡ true
unfolding is_function_name
function_name-token word h = elim (either_of _ _ h) [ inl name ↦ name-token word name | inr other ↦ among-token word _ other refl ]

pub callee-token : (word : Token) → is_callee word ≡ true → is_token word ≡ true
unfolding is_callee
callee-token word h = elim (either_of _ _ h) [ inl name ↦ name-token word name | inr other ↦ among-token word prelude_functions other refl ]

word_bytes : (digits : List ℕ) → is_word digits ≡ true → all_of (map is_word_byte digits) ≡ true
word_bytes [] h = refl
word_bytes (b ∷ bs) h = h

pub turn_name-token : (word : Token) → is_turn_name word ≡ true → is_token word ≡ true
unfolding is_turn_name
turn_name-token [] h = cc
turn_name-token (t ∷ digits) h =
    let same : t ≡ 116 = same_number t 116 (and_first _ _ h) in
    let first : is_word_byte t ≡ true = rw same refl in
    or_left (is_word (t ∷ digits)) (is_sign (t ∷ digits))
    (and_from (is_word_byte t) (all_of (map is_word_byte digits)) first (word_bytes digits (and_first _ _ (and_second _ _ h))))

all_word-append : (xs : List ℕ) (b : ℕ) → all_of (map is_word_byte xs) ≡ true → is_word_byte b ≡ true →
    all_of (map is_word_byte (xs ++ (b ∷ []))) ≡ true
all_word-append [] b h k = and_from (is_word_byte b) true k refl
all_word-append (x ∷ xs) b h k = and_from (is_word_byte x) (all_of (map is_word_byte (xs ++ (b ∷ [])))) (and_first _ _ h) (all_word-append xs b (and_second _ _ h) k)

word-append : (xs : List ℕ) (b : ℕ) → is_word xs ≡ true → is_word_byte b ≡ true → is_word (xs ++ (b ∷ [])) ≡ true
word-append [] b h k = cc
word-append (x ∷ xs) b h k = and_from (is_word_byte x) (all_of (map is_word_byte (xs ++ (b ∷ [])))) (and_first _ _ h) (all_word-append xs b (and_second _ _ h) k)

decimal-word : (n : ℕ) → n < 2 ^ 64 → is_word (decimal n) ≡ true
decimal-word n h =
    decimal_by_steps (λ (m : ℕ) (digits : List ℕ). is_word digits ≡ true)
    (λ (m : ℕ) (small : m < 10). and_from (is_word_byte (48 + m)) true (digit-word_byte m small) refl)
    (λ (m : ℕ) (digits : List ℕ) (big : 10 ≤ m) (word : is_word digits ≡ true). word-append digits (48 + m % 10) word
    (digit-word_byte (m % 10) (last_digit m))) n h

pub decimal-token : (n : ℕ) → n < 2 ^ 64 → is_token (decimal n) ≡ true
decimal-token n h = or_left (is_word (decimal n)) (is_sign (decimal n)) (decimal-word n h)
