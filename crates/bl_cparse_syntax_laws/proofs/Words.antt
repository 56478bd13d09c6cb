-- The words of types, the signs of operators and the tokens of literals tell what they spell.
use Rattle.std.proofs.Common.{◌≡◌, ℕ, zero, suc, ◌*◌, ◌^◌, ◌<◌, ◌≤◌, cond, ℤ, pos, negsuc, Bool, true, false, ◌==◌, nat_lt, List, [], ◌∷◌, ◌++◌, refl, sym, ap}
use Rattle.std.proofs.Common.{◌∙◌, arith, codes}
use Rattle.std.proofs.lemmas.Bool.Decides.{nat_tests}
use Rattle.std.proofs.lemmas.Fmt.{decimal_is_IsNumeral}
use Rattle.std.specs.Fmt.{decimal}
use Rattle.std.specs.Str.Parse.{digits_value}
use Rattle.bl_tree.specs.declared.scalar.Width.{Width}
use Rattle.bl_tree.specs.declared.scalar.Width.TheVariants.{W8, W16, W32, W64}
use Rattle.bl_tree.specs.declared.scalar.Scalar.{Scalar}
use Rattle.bl_tree.specs.declared.scalar.Scalar.TheVariants as scalar
use Rattle.bl_tree.specs.declared.scalar.Op.{Op}
use Rattle.bl_tree.specs.declared.scalar.Op.TheVariants as op
use Rattle.bl_ctext.specs.Token.{Token}
use Rattle.bl_ctext.specs.Spelling.{scalar_word, operator_sign, constant_word, negatives, literal_tokens}
use Rattle.bl_ctext.specs.Spellable.{is_c_scalar, is_c_operator, is_literal}
use Rattle.bl_cparse_syntax_laws.proofs.Tests.{is, among, first, tail, second}
use Rattle.bl_ctext.proofs.ExprNesting.{below, negatives-le}

-- ---- types and operators

scalar_in : Token → Scalar
scalar_in t =
    cond (is t (codes "int8_t")) (scalar.Int W8) (cond (is t (codes "int16_t")) (scalar.Int W16)
    (cond (is t (codes "int32_t")) (scalar.Int W32) (cond (is t (codes "int64_t")) (scalar.Int W64)
    (cond (is t (codes "uint8_t")) (scalar.Nat W8) (cond (is t (codes "uint16_t")) (scalar.Nat W16)
    (cond (is t (codes "uint32_t")) (scalar.Nat W32) (cond (is t (codes "uint64_t")) (scalar.Nat W64)
    scalar.Bool)))))))

scalar_back : (s : Scalar) → is_c_scalar s ≡ true → scalar_in (scalar_word s) ≡ s
unfolding scalar_in
scalar_back scalar.Bool h = refl
scalar_back (scalar.Int W8) h = refl
scalar_back (scalar.Int W16) h = refl
scalar_back (scalar.Int W32) h = refl
scalar_back (scalar.Int W64) h = refl
scalar_back (scalar.Nat W8) h = refl
scalar_back (scalar.Nat W16) h = refl
scalar_back (scalar.Nat W32) h = refl
scalar_back (scalar.Nat W64) h = refl
scalar_back (scalar.Bits w) h = cc

pub scalar_same : (s t : Scalar) → is_c_scalar s ≡ true → is_c_scalar t ≡ true → scalar_word s ≡ scalar_word t → s ≡ t
scalar_same s t h k e = sym (scalar_back s h) ∙ (ap scalar_in e ∙ scalar_back t k)

operator_in : Token → Op
operator_in t =
    cond (is t (codes "==")) op.Eq (cond (is t (codes "!=")) op.Ne (cond (is t (codes "<")) op.Lt (cond (is t (codes "<=")) op.Le
    (cond (is t (codes ">")) op.Gt (cond (is t (codes ">=")) op.Ge (cond (is t (codes "&&")) op.And op.Or))))))

operator_back : (o : Op) → is_c_operator o ≡ true → operator_in (operator_sign o) ≡ o
unfolding operator_in
operator_back op.Eq h = refl
operator_back op.Ne h = refl
operator_back op.Lt h = refl
operator_back op.Le h = refl
operator_back op.Gt h = refl
operator_back op.Ge h = refl
operator_back op.And h = refl
operator_back op.Or h = refl
operator_back _ h = cc

pub operator_same : (o p : Op) → is_c_operator o ≡ true → is_c_operator p ≡ true → operator_sign o ≡ operator_sign p → o ≡ p
operator_same o p h k e = sym (operator_back o h) ∙ (ap operator_in e ∙ operator_back p k)

pub operator_off : (o : Op) → is_c_operator o ≡ true → among (operator_sign o) (codes "." ∷ codes "(" ∷ codes "[" ∷ []) ≡ false
operator_off op.Eq h = refl
operator_off op.Ne h = refl
operator_off op.Lt h = refl
operator_off op.Le h = refl
operator_off op.Gt h = refl
operator_off op.Ge h = refl
operator_off op.And h = refl
operator_off op.Or h = refl
operator_off _ h = cc

-- ---- literals

abbrev third : List Token → Token
third ts = second (tail ts)

abbrev fifth : List Token → Token
fifth ts = third (tail (tail ts))

abbrev Literal : Type 0
Literal = Scalar × ℤ

minus : ℕ → ℤ
minus zero = pos zero
minus (suc n) = negsuc n

-- by the literal's word and the digits in parentheses
pub word_in : Token → ℕ → Literal
word_in t n =
    cond (is t (codes "true")) (scalar.Bool, pos 1) (cond (is t (codes "false")) (scalar.Bool, pos 0)
    (cond (is t (codes "INT8_MIN")) (scalar.Int W8, minus (negatives W8)) (cond (is t (codes "INT16_MIN")) (scalar.Int W16, minus (negatives W16))
    (cond (is t (codes "INT32_MIN")) (scalar.Int W32, minus (negatives W32)) (cond (is t (codes "INT64_MIN")) (scalar.Int W64, minus (negatives W64))
    (cond (is t (codes "INT8_C")) (scalar.Int W8, pos n)
    (cond (is t (codes "INT16_C")) (scalar.Int W16, pos n)
    (cond (is t (codes "INT32_C")) (scalar.Int W32, pos n) (cond (is t (codes "INT64_C")) (scalar.Int W64, pos n)
    (cond (is t (codes "UINT8_C")) (scalar.Nat W8, pos n)
    (cond (is t (codes "UINT16_C")) (scalar.Nat W16, pos n) (cond (is t (codes "UINT32_C")) (scalar.Nat W32, pos n) (scalar.Nat W64, pos n)))))))))))))

negative_in : Token → ℕ → Literal
negative_in t n =
    cond (is t (codes "INT8_C")) (scalar.Int W8, minus n)
    (cond (is t (codes "INT16_C")) (scalar.Int W16, minus n) (cond (is t (codes "INT32_C")) (scalar.Int W32, minus n) (scalar.Int W64, minus n)))

literal_in : List Token → Literal
literal_in ts = cond (is (first ts) (codes "(")) (negative_in (third ts) (digits_value 10 (fifth ts))) (word_in (first ts) (digits_value 10 (third ts)))

abbrev plain_literals : List Token
plain_literals = codes "true" ∷ codes "false" ∷ codes "INT8_MIN" ∷ codes "INT16_MIN" ∷ codes "INT32_MIN" ∷ codes "INT64_MIN" ∷ []

abbrev four_off : List Token → List Token
four_off ts = tail (tail (tail (tail ts)))

behind_literal : List Token → List Token
behind_literal ts = cond (is (first ts) (codes "(")) (four_off (tail (tail (tail ts)))) (cond (among (first ts) plain_literals) (tail ts) (four_off ts))

value_back : (n : ℕ) → n < 2 ^ 64 → digits_value 10 (decimal n) ≡ n
value_back n h = (decimal_is_IsNumeral n h).1

few : (w : Width) → negatives w ≤ 2 ^ 64
few w = omega (arith, negatives-le w)

fewer : (w : Width) (n : ℕ) → nat_lt n (negatives w) ≡ true → suc n < 2 ^ 64
fewer w n h = let small : n < negatives w = grind (arith, nat_tests) in omega (arith, negatives-le w, small)

int_back : (w : Width) (n : ℕ) (a : List Token) → n < 2 ^ 64 → literal_in (literal_tokens (scalar.Int w) (pos n) ++ a) ≡ (scalar.Int w, pos n)
unfolding literal_in word_in
int_back W8 n a h = ap (λ n. (scalar.Int W8, pos n)) (value_back n h)
int_back W16 n a h = ap (λ n. (scalar.Int W16, pos n)) (value_back n h)
int_back W32 n a h = ap (λ n. (scalar.Int W32, pos n)) (value_back n h)
int_back W64 n a h = ap (λ n. (scalar.Int W64, pos n)) (value_back n h)

nat_back : (w : Width) (n : ℕ) (a : List Token) → n < 2 ^ 64 → literal_in (literal_tokens (scalar.Nat w) (pos n) ++ a) ≡ (scalar.Nat w, pos n)
unfolding literal_in word_in
nat_back W8 n a h = ap (λ n. (scalar.Nat W8, pos n)) (value_back n h)
nat_back W16 n a h = ap (λ n. (scalar.Nat W16, pos n)) (value_back n h)
nat_back W32 n a h = ap (λ n. (scalar.Nat W32, pos n)) (value_back n h)
nat_back W64 n a h = ap (λ n. (scalar.Nat W64, pos n)) (value_back n h)

same_number : (x y : ℕ) → x == y ≡ true → x ≡ y
same_number x y h = grind (arith, nat_tests)

module _ (n : ℕ) (a : List Token) where
  abbrev least_or : Width → Bool → List Token
  least_or w least = cond least
      ((codes "INT" ++ (Rattle.bl_ctext.specs.Spelling.width_digits w ++ codes "_MIN")) ∷ [])
      (codes "(" ∷ codes "-" ∷ (Rattle.bl_ctext.specs.Spelling.constant_tokens (constant_word (codes "INT") w) (suc n) ++ codes ")" ∷ []))

  minus_back : (w : Width) (least : Bool) → (suc n == negatives w) ≡ least → suc n < 2 ^ 64 →
      literal_in (least_or w least ++ a) ≡ (scalar.Int w, negsuc n)
  unfolding literal_in word_in negative_in minus
  minus_back W8 true e h = ap (λ n. (scalar.Int W8, minus n)) (sym (same_number (suc n) (negatives W8) e))
  minus_back W16 true e h = ap (λ n. (scalar.Int W16, minus n)) (sym (same_number (suc n) (negatives W16) e))
  minus_back W32 true e h = ap (λ n. (scalar.Int W32, minus n)) (sym (same_number (suc n) (negatives W32) e))
  minus_back W64 true e h = ap (λ n. (scalar.Int W64, minus n)) (sym (same_number (suc n) (negatives W64) e))
  minus_back W8 false e h = ap (λ n. (scalar.Int W8, minus n)) (value_back (suc n) h)
  minus_back W16 false e h = ap (λ n. (scalar.Int W16, minus n)) (value_back (suc n) h)
  minus_back W32 false e h = ap (λ n. (scalar.Int W32, minus n)) (value_back (suc n) h)
  minus_back W64 false e h = ap (λ n. (scalar.Int W64, minus n)) (value_back (suc n) h)

  minus_behind : (w : Width) (least : Bool) → behind_literal (least_or w least ++ a) ≡ a
  unfolding behind_literal
  minus_behind W8 true = refl
  minus_behind W16 true = refl
  minus_behind W32 true = refl
  minus_behind W64 true = refl
  minus_behind W8 false = refl
  minus_behind W16 false = refl
  minus_behind W32 false = refl
  minus_behind W64 false = refl

truth_back : (n : ℕ) (a : List Token) → nat_lt n 2 ≡ true → literal_in (literal_tokens scalar.Bool (pos n) ++ a) ≡ (scalar.Bool, pos n)
unfolding literal_in word_in
truth_back zero a h = refl
truth_back (suc zero) a h = refl
truth_back (suc (suc n)) a h = absurd (grind (arith, nat_tests))

literal_back : (s : Scalar) (n : ℤ) (a : List Token) → is_literal s n ≡ true → literal_in (literal_tokens s n ++ a) ≡ (s, n)
literal_back scalar.Bool (pos n) a h = truth_back n a h
literal_back scalar.Bool (negsuc n) a h = cc
literal_back (scalar.Int w) (pos n) a h = int_back w n a (below n (negatives w) h (few w))
literal_back (scalar.Int w) (negsuc n) a h = minus_back n a w (suc n == negatives w) refl (fewer w n h)
literal_back (scalar.Nat w) (pos n) a h = nat_back w n a (below n (2 * negatives w) h (negatives-le w))
literal_back (scalar.Nat w) (negsuc n) a h = cc
literal_back (scalar.Bits w) n a h = cc

truth_behind : (least : Bool) (a : List Token) → behind_literal (cond least (codes "false") (codes "true") ∷ a) ≡ a
unfolding behind_literal
truth_behind true a = refl
truth_behind false a = refl

int_behind : (w : Width) (n : ℕ) (a : List Token) → behind_literal (literal_tokens (scalar.Int w) (pos n) ++ a) ≡ a
unfolding behind_literal
int_behind W8 n a = refl
int_behind W16 n a = refl
int_behind W32 n a = refl
int_behind W64 n a = refl

nat_behind : (w : Width) (n : ℕ) (a : List Token) → behind_literal (literal_tokens (scalar.Nat w) (pos n) ++ a) ≡ a
unfolding behind_literal
nat_behind W8 n a = refl
nat_behind W16 n a = refl
nat_behind W32 n a = refl
nat_behind W64 n a = refl

literal_behind : (s : Scalar) (n : ℤ) (a : List Token) → is_literal s n ≡ true → behind_literal (literal_tokens s n ++ a) ≡ a
literal_behind scalar.Bool (pos n) a h = truth_behind (n == 0) a
literal_behind scalar.Bool (negsuc n) a h = cc
literal_behind (scalar.Int w) (pos n) a h = int_behind w n a
literal_behind (scalar.Int w) (negsuc n) a h = minus_behind n a w (suc n == negatives w)
literal_behind (scalar.Nat w) (pos n) a h = nat_behind w n a
literal_behind (scalar.Nat w) (negsuc n) a h = cc
literal_behind (scalar.Bits w) n a h = cc

-- a literal is told by its tokens, whatever follows it
pub literal_same : (s t : Scalar) (n m : ℤ) (a b : List Token) → is_literal s n ≡ true → is_literal t m ≡ true →
    literal_tokens s n ++ a ≡ literal_tokens t m ++ b
    → ((s ≡ t) × (n ≡ m)) × (a ≡ b)
literal_same s t n m a b h k e =
    let same : (s, n) ≡ (t, m) = sym (literal_back s n a h) ∙ (ap literal_in e ∙ literal_back t m b k) in
    ((ap (λ p. p.0) same, ap (λ p. p.1) same), sym (literal_behind s n a h) ∙ (ap behind_literal e ∙ literal_behind t m b k))
