-- A letter, `_` and any letters, digits and `_` behind them are a name of the subset: no word of C or of the grammar has `_` as its second byte.
use Rattle.std.proofs.Common.{◌≡◌, ℕ, Bool, true, false, not, ◌&&◌, nat_eq, List, [], ◌∷◌, ◌++◌, map, refl, arith, codes}
use Rattle.std.proofs.lemmas.Bool.Decides.{nat_tests}
use Rattle.std.specs.Char.{is_ascii_digit}
use Rattle.std.specs.Cmp.Lexicographic.{pointwise}
use Rattle.std.specs.List.{list_all, starts_with}
use Rattle.std.proofs.lemmas.Bool.{not-true}
use Rattle.bl_tree.proofs.Basics.{and_first, and_second, second_false}
use Rattle.bl_tree.specs.Words as source
use Rattle.bl_tree.specs.Reduce.{all_of}
use Rattle.bl_ctext.specs.Token.{is_word_byte}
use Rattle.bl_ctext.specs.Names.{is_among, grammar_words, c_keywords, is_name, is_struct_name, is_function_name, is_callee}
use Rattle.bl_ctext.specs.inner.Prefixes.{is_prefix, is_source_name}

-- whether `_` isn't the second byte
abbrev pub has_other_second : List ℕ → Bool
has_other_second (first ∷ second ∷ rest) = not (nat_eq second 95)
has_other_second _ = true

differs : (w : List ℕ) (b : ℕ) (word : List ℕ) → has_other_second w ≡ true → pointwise nat_eq w (b ∷ 95 ∷ word) ≡ false
differs [] b word h = refl
differs (x ∷ []) b word h = second_false (nat_eq x b) false refl
differs (x ∷ y ∷ w) b word h = second_false (nat_eq x b) (nat_eq y 95 && pointwise nat_eq w word) (rw (not-true (nat_eq y 95) h) refl)

pub not-among : (b : ℕ) (word : List ℕ) (words : List (List ℕ)) → all_of (map has_other_second words) ≡ true →
    is_among (b ∷ 95 ∷ word) words ≡ false
unfolding is_among
not-among b word [] h = refl
not-among b word (w ∷ words) h =
    rw (differs w b word (and_first (has_other_second w) (all_of (map has_other_second words)) h))
    (not-among b word words (and_second (has_other_second w) (all_of (map has_other_second words)) h))

-- the word before whose second byte no `bl_` stands
no_front : (b : ℕ) (word : List ℕ) → starts_with nat_eq (b ∷ 95 ∷ word) (codes "bl_") ≡ false
no_front b word = second_false (nat_eq 98 b) false refl

pub prefixed-name : (b : ℕ) (word : List ℕ) → is_word_byte b ≡ true → is_ascii_digit b ≡ false → all_of (map is_word_byte word) ≡ true →
    is_name (b ∷ 95 ∷ word) ≡ true
unfolding is_name
prefixed-name b word h i k =
    rw (h, k, i, no_front b word, not-among b word grammar_words refl, not-among b word c_keywords refl, not-among b word (codes "abort" ∷ []) refl) refl

word_bytes : (text : List ℕ) → list_all source.is_word_byte text ≡ true → all_of (map is_word_byte text) ≡ true
word_bytes [] h = refl
word_bytes (b ∷ bs) h =
    rw (and_first (is_word_byte b) (list_all source.is_word_byte bs) h) (word_bytes bs (and_second (is_word_byte b) (list_all source.is_word_byte bs) h))

source_bytes : (text : List ℕ) → source.is_name text ≡ true → list_all source.is_word_byte text ≡ true
source_bytes [] h = refl
source_bytes (b ∷ bs) h = and_second _ _ (and_first (source.is_plain_word (b ∷ bs)) _ h)

byte_of : (u : ℕ) → nat_eq u 95 ≡ true → u ≡ 95
byte_of u h = grind (arith, nat_tests)

-- a prefix before a name of the source
pub name-with_prefix : (prefix word : List ℕ) → is_prefix prefix ≡ true → is_source_name word ≡ true → is_name (prefix ++ word) ≡ true
unfolding is_source_name
name-with_prefix [] word h i = cc
name-with_prefix (b ∷ []) word h i = cc
name-with_prefix (b ∷ u ∷ []) word h i =
    let digit : is_ascii_digit b ≡ false =
    not-true (is_ascii_digit b) (and_first (not (is_ascii_digit b)) (nat_eq u 95) (and_second (is_word_byte b) (not (is_ascii_digit b) && nat_eq u 95) h)) in
    let mark : u ≡ 95 = byte_of u (and_second (not (is_ascii_digit b)) (nat_eq u 95) (and_second (is_word_byte b) (not (is_ascii_digit b) && nat_eq u 95) h)) in
    rw mark (prefixed-name b word (and_first (is_word_byte b) (not (is_ascii_digit b) && nat_eq u 95) h) digit (word_bytes word (source_bytes word i)))
name-with_prefix (b ∷ u ∷ c ∷ more) word h i = cc

-- a name names a struct, a function, and a function that is called
pub name-struct : (word : List ℕ) → is_name word ≡ true → is_struct_name word ≡ true
unfolding is_struct_name
name-struct word h = rw h refl

pub name-function : (word : List ℕ) → is_name word ≡ true → is_function_name word ≡ true
unfolding is_function_name
name-function word h = rw h refl

pub name-callee : (word : List ℕ) → is_name word ≡ true → is_callee word ≡ true
unfolding is_callee
name-callee word h = rw h refl
