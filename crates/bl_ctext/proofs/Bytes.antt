-- Which bytes may stand side by side in one token.
use Rattle.std.specs.Prelude.{not}
use Rattle.std.proofs.Common.{◌≡◌, ◌⊎◌, ℕ, ◌==◌, Bool, true, false, ◌&&◌, ◌||◌, refl, inl, inr, arith}
use Rattle.std.proofs.Math.Bool.{and-false}
use Rattle.std.proofs.lemmas.Bool.Decides.{nat_tests}
use Rattle.std.proofs.lemmas.Bool.{false_from_ne_true, not-true}
use Rattle.bl_tree.proofs.Basics.{neither_first, neither_second}
use Rattle.bl_ctext.specs.Token.{is_blank, is_word_byte, is_sign_byte}
use Rattle.bl_ctext.specs.inner.Cut.{joins, may_follow}

blank_is : (b : ℕ) → is_blank b ≡ true → (b ≡ 32) ⊎ (b ≡ 10)
blank_is b h = grind (arith, nat_tests)

before_space : (a : ℕ) → joins a 32 ≡ false
before_space a = simp and-false

before_line : (a : ℕ) → joins a 10 ≡ false
before_line a = simp and-false

-- nothing goes on into white space, and white space into nothing
pub joins-blank : (a b : ℕ) → is_blank b ≡ true → joins a b ≡ false
joins-blank a b h = elim (blank_is b h) [ inl e ↦ rw e (before_space a) | inr e ↦ rw e (before_line a) ]

pub blank-joins : (a b : ℕ) → is_blank a ≡ true → joins a b ≡ false
blank-joins a b h = elim (blank_is a h) [ inl e ↦ rw e refl | inr e ↦ rw e refl ]

pub joined-not_blank : (a b : ℕ) → joins a b ≡ true → (is_blank a ≡ false) × (is_blank b ≡ false)
joined-not_blank a b h = (
  false_from_ne_true (is_blank a) (λ (k : is_blank a ≡ true). let e = blank-joins a b k in cc),
  false_from_ne_true (is_blank b) (λ (k : is_blank b ≡ true). let e = joins-blank a b k in cc),
)

no_word : (a : ℕ) → is_blank a ≡ true → is_word_byte a ≡ false
no_word a h = elim (blank_is a h) [ inl e ↦ rw e refl | inr e ↦ rw e refl ]

no_sign : (a : ℕ) → is_blank a ≡ true → is_sign_byte a ≡ false
no_sign a h = elim (blank_is a h) [ inl e ↦ rw e refl | inr e ↦ rw e refl ]

pub word_byte-not_blank : (a : ℕ) → is_word_byte a ≡ true → is_blank a ≡ false
word_byte-not_blank a h = false_from_ne_true (is_blank a) (λ (k : is_blank a ≡ true). let e = no_word a k in cc)

pub sign_byte-not_blank : (a : ℕ) → is_sign_byte a ≡ true → is_blank a ≡ false
sign_byte-not_blank a h = false_from_ne_true (is_blank a) (λ (k : is_blank a ≡ true). let e = no_sign a k in cc)

-- neither a word nor a double sign, where its second byte is of none
neither : (a b c d w e m o : Bool) → w ≡ false → e ≡ false → m ≡ false → o ≡ false →
    ((a && w) || ((b && e) || ((c && m) || (d && o)))) ≡ false
neither a b c d w e m o h i j k = rw (h, i, j, k) (simp and-false)

-- what may stand behind no byte in a token goes on none
pub follows-none : (a b : ℕ) → not (may_follow b) ≡ true → joins a b ≡ false
follows-none a b h =
    let none : may_follow b ≡ false = not-true (may_follow b) h in
    let no_word : is_word_byte b ≡ false = neither_first (is_word_byte b) _ none in
    let no_sign : (b == 61 || (b == 38 || b == 124)) ≡ false = neither_second (is_word_byte b) _ none in
    let no_pair : (b == 38 || b == 124) ≡ false = neither_second (b == 61) _ no_sign in
    neither (is_word_byte a) (a == 61 || a == 33 || a == 60 || a == 62) (a == 38) (a == 124) (is_word_byte b) (b == 61) (b == 38) (b == 124)
    no_word
    (neither_first (b == 61) _ no_sign)
    (neither_first (b == 38) _ no_pair)
    (neither_second (b == 38) _ no_pair)
