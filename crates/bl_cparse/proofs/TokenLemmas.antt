-- Tokens have bytes, and words are text.
use Rattle.std.proofs.Common.{◌≡◌, ℕ, ◌<◌, ◌^◌, true, nat_eq, List, [], ◌∷◌, map, refl, sym, inl, inr, arith}
use Rattle.std.specs.Cmp.Lexicographic.{pointwise}
use Rattle.std.specs.Fmt.{decimal}
use Rattle.std.specs.Str.{IsAscii, IsUtf8}
use Rattle.std.proofs.lemmas.Bool.Decides.{nat_tests}
use Rattle.std.proofs.lemmas.Str.{IsUtf8-from_ascii}
use Rattle.std.proofs.lemmas.Str.Ascii.{IsAscii-nil, IsAscii-cons}
use Rattle.std.proofs.lemmas.Bool.{and_from}
use Rattle.bl_tree.proofs.Basics.{and_first, and_second, either_of, number_test_swap}
use Rattle.bl_tree.specs.Reduce.{all_of}
use Rattle.bl_ctext.specs.Token.{Token, is_word_byte, is_word, is_token}
use Rattle.bl_ctext.specs.Names.{is_name, is_struct_name, is_function_name, is_callee, is_turn_name}
use Rattle.bl_ctext.specs.Spellable.{has_any}
use Rattle.bl_ctext.proofs.Words.{turn_name-token, decimal-token}
use Rattle.bl_cparse_syntax.specs.Pieces.{is_same}
use Rattle.bl_cparse_syntax.proofs.ClassLemmas.{among_all}
use Rattle.bl_cparse_syntax.proofs.SameLemmas.{is_same-same}

token_any : (t : Token) → is_token t ≡ true → has_any t ≡ true
token_any [] h = cc
token_any (b ∷ bs) h = refl

pub turn_name_any : (t : Token) → is_turn_name t ≡ true → has_any t ≡ true
turn_name_any t h = token_any t (turn_name-token t h)

pub decimal_any : (n : ℕ) → n < 2 ^ 64 → has_any (decimal n) ≡ true
decimal_any n h = token_any (decimal n) (decimal-token n h)

pub name_callee : (t : Token) → is_name t ≡ true → is_callee t ≡ true
unfolding is_callee
name_callee t h = rw h refl

pub name_struct : (t : Token) → is_name t ≡ true → is_struct_name t ≡ true
unfolding is_struct_name
name_struct t h = rw h refl

pub name_function : (t : Token) → is_name t ≡ true → is_function_name t ≡ true
unfolding is_function_name
name_function t h = rw h refl

-- names are words

pub name_word : (t : Token) → is_name t ≡ true → is_word t ≡ true
unfolding is_name
name_word t h = and_first _ _ h

pub struct_name_word : (t : Token) → is_struct_name t ≡ true → is_word t ≡ true
unfolding is_struct_name
struct_name_word t h = elim (either_of _ _ h) [ inl name ↦ name_word t name | inr other ↦ among_all is_word _ t refl other ]

pub function_name_word : (t : Token) → is_function_name t ≡ true → is_word t ≡ true
unfolding is_function_name
function_name_word t h = elim (either_of _ _ h) [ inl name ↦ name_word t name | inr other ↦ among_all is_word _ t refl other ]

pub callee_word : (t : Token) → is_callee t ≡ true → is_word t ≡ true
unfolding is_callee
callee_word t h = elim (either_of _ _ h) [ inl name ↦ name_word t name | inr other ↦ among_all is_word _ t refl other ]

word_bytes : (bs : Token) → is_word bs ≡ true → all_of (map is_word_byte bs) ≡ true
word_bytes [] h = refl
word_bytes (b ∷ bs) h = h

letter_word : (t : ℕ) → nat_eq t 116 ≡ true → is_word_byte t ≡ true
letter_word t h = grind (arith, nat_tests)

pub turn_name_word : (t : Token) → is_turn_name t ≡ true → is_word t ≡ true
unfolding is_turn_name
turn_name_word [] h = cc
turn_name_word (t ∷ digits) h = and_from (is_word_byte t) _ (letter_word t (and_first _ _ h)) (word_bytes digits (and_first _ _ (and_second _ _ h)))

-- words are text

byte_ascii : (b : ℕ) → is_word_byte b ≡ true → b < 128
byte_ascii b h = grind (arith, nat_tests)

bytes_ascii : (bs : List ℕ) → all_of (map is_word_byte bs) ≡ true → IsAscii bs
bytes_ascii [] h = IsAscii-nil
bytes_ascii (b ∷ bs) h = IsAscii-cons b bs (byte_ascii b (and_first _ _ h)) (bytes_ascii bs (and_second _ _ h))

pub word_text : (t : Token) → is_word t ≡ true → IsUtf8 t
word_text t h = IsUtf8-from_ascii t (bytes_ascii t (word_bytes t h))

-- runs of bytes are compared from either_of side

pub same_other : (xs ys : List ℕ) → pointwise nat_eq xs ys ≡ pointwise nat_eq ys xs
same_other [] [] = refl
same_other [] (y ∷ ys) = refl
same_other (x ∷ xs) [] = refl
same_other (x ∷ xs) (y ∷ ys) = rw (number_test_swap x y, same_other xs ys) refl

pub bytes_same : (xs ys : List ℕ) → pointwise nat_eq xs ys ≡ true → ys ≡ xs
unfolding is_same
bytes_same xs ys h = sym (is_same-same xs ys h)
