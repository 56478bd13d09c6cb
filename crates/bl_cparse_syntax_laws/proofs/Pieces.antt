-- What a piece of a class is.
use Rattle.std.proofs.Common.{◌≡◌, ℕ, suc, ◌^◌, ◌≤◌, ◌<◌, true, not, ◌||◌, ◌==◌, nat_eq, nat_le, List, [], ◌∷◌, length, map, refl, sym, subst, inl, inr}
use Rattle.std.proofs.Common.{arith}
use Rattle.std.proofs.lemmas.Bool.Decides.{nat_tests}
use Rattle.std.proofs.lemmas.Fmt.{decimal-digits_value}
use Rattle.std.proofs.lemmas.Str.Parse.{IsNumeralModel, numerals_by_value, tells_all_ascii_digits}
use Rattle.std.specs.Char.{is_ascii_digit}
use Rattle.std.specs.Fmt.{decimal}
use Rattle.std.specs.Str.{all_ascii_digits}
use Rattle.std.specs.Str.Parse.{digits_value}
use Rattle.std.specs.Cmp.Lexicographic.{pointwise}
use Rattle.std.proofs.lemmas.Bool.{or_right}
use Rattle.bl_tree.proofs.Basics.{and_first, and_second, at_most_from, either_of, less_from}
use Rattle.bl_tree.specs.declared.scalar.Width.TheVariants.{W8, W16, W32, W64}
use Rattle.bl_tree.specs.declared.scalar.Scalar.{Scalar}
use Rattle.bl_tree.specs.declared.scalar.Scalar.TheVariants as scalar
use Rattle.bl_tree.specs.declared.scalar.Op.{Op}
use Rattle.bl_tree.specs.declared.scalar.Op.TheVariants as op
use Rattle.bl_tree.specs.Reduce.{all_of}
use Rattle.bl_ctext.specs.Token.{Token}
use Rattle.bl_ctext.specs.Names.{is_among, is_name, is_struct_name, is_function_name, is_callee, prelude_functions}
use Rattle.bl_ctext.specs.Spelling.{scalar_word, operator_sign}
use Rattle.bl_ctext.specs.Spellable.{is_c_scalar, is_c_operator}
use Rattle.bl_cparse_syntax.specs.declared.grammar.Group.{Group}
use Rattle.bl_cparse_syntax.specs.declared.grammar.Group.TheVariants.{ScalarTypes, Operators, StructWords, FunctionWords, PreludeFunctions}
use Rattle.bl_cparse_syntax.specs.declared.grammar.Digits.{Digits}
use Rattle.bl_cparse_syntax.specs.declared.grammar.Digits.TheVariants.{Elements, Int, Negated, Unsigned}
use Rattle.bl_cparse_syntax.specs.Classes.{words_of, least, digits_bound, are_digits, spells_number, matches}
use Rattle.bl_cparse_syntax.specs.Classes.Class.{exactly, one_of, a_name, number}
use Rattle.bl_cparse_syntax.proofs.ClassLemmas.{exactly_is}
use Rattle.bl_cparse_syntax_laws.proofs.Tests.{is_same}
use Rattle.bl_ctext.proofs.ExprNesting.{negatives-le}

pub word_is : {w t : Token} → matches (exactly w) t ≡ true → w ≡ t
word_is {w} {t} m = exactly_is w t m

pub name_is : (t : Token) → matches a_name t ≡ true → is_name t ≡ true
unfolding matches
name_is t m = m

-- one of some words
pub data OneOf (t : Token) : List Token → Type 0 where
  this : {ws : List Token} → OneOf t (t ∷ ws)
  other : {w : Token} {ws : List Token} → OneOf t ws → OneOf t (w ∷ ws)

this_one : {t w : Token} {ws : List Token} → w ≡ t → OneOf t (w ∷ ws)
this_one {t} {w} {ws} e = subst (λ (u : Token). OneOf t (u ∷ ws)) (sym e) OneOf.this

one_among : (t : Token) (ws : List Token) → is_among t ws ≡ true → OneOf t ws
unfolding is_among
one_among t [] h = cc
one_among t (w ∷ ws) h = elim (either_of (pointwise nat_eq w t) (is_among t ws) h)
    [ inl same ↦ this_one (is_same w t same) | inr rest ↦ OneOf.other (one_among t ws rest) ]

pub group_is : (g : Group) (t : Token) → matches (one_of g) t ≡ true → OneOf t (words_of g)
unfolding matches
group_is g t m = one_among t (words_of g) m

pub callee_is : (t : Token) → matches (one_of PreludeFunctions) t ≡ true → is_callee t ≡ true
unfolding matches is_callee
callee_is t m = or_right (is_name t) (is_among t prelude_functions) m

pub struct_word : (t : Token) → matches (one_of StructWords) t ≡ true → is_struct_name t ≡ true
unfolding matches is_struct_name
struct_word t m = or_right (is_name t) _ m

pub function_word : (t : Token) → matches (one_of FunctionWords) t ≡ true → is_function_name t ≡ true
unfolding matches is_function_name
function_word t m = or_right (is_name t) _ m

-- ---- numbers

pub digits_own : IsNumeralModel (λ (ds : List ℕ). all_ascii_digits ds ≡ true) (digits_value 10)
digits_own = numerals_by_value (λ (ds : List ℕ). all_ascii_digits ds ≡ true) tells_all_ascii_digits

pub all_digits : (ds : List ℕ) → all_of (map is_ascii_digit ds) ≡ true → all_ascii_digits ds ≡ true
all_digits [] h = refl
all_digits (d ∷ ds) h = rw (and_first (is_ascii_digit d) (all_of (map is_ascii_digit ds)) h)
    (all_digits ds (and_second (is_ascii_digit d) (all_of (map is_ascii_digit ds)) h))

-- the number that digits spell
pub record Spelled (of : Digits) (t : Token) : Type 0 where
  pub n : ℕ
  pub is : t ≡ decimal n
  pub low : least of ≤ n
  pub high : n < digits_bound of

pub lone : (b : ℕ) (bs : List ℕ) → (not (b == 48) || nat_le (length bs) 0) ≡ true → b ≡ 48 → suc (length bs) ≡ 1
lone b bs h e = elim (either_of (not (b == 48)) (nat_le (length bs) 0) h)
    [ inl differs ↦ absurd (grind (arith, nat_tests)) | inr short ↦ grind (arith, nat_tests) ]

pub bound_le : (of : Digits) → digits_bound of ≤ 2 ^ 64
bound_le Elements = omega arith
bound_le (Int w) = omega (arith, negatives-le w)
bound_le (Negated w) = omega (arith, negatives-le w)
bound_le (Unsigned w) = negatives-le w

pub has_some : (bs : List ℕ) → 0 < suc (length bs)
has_some bs = omega arith

pub wide : (a b : ℕ) → a < b → b ≤ 2 ^ 64 → a < 2 ^ 64
wide a b h k = omega (arith, h, k)

number_of : (of : Digits) (t : Token) → spells_number of t ≡ true → Spelled of t
unfolding spells_number
number_of of [] h = absurd (cc)
number_of of (b ∷ bs) h =
    let digits = and_first (are_digits (b ∷ bs)) _ h in
    let range = and_second (are_digits (b ∷ bs)) _ h in
    let low = at_most_from (least of) (digits_value 10 (b ∷ bs)) (and_first _ _ range) in
    let high = less_from (digits_value 10 (b ∷ bs)) (digits_bound of) (and_second _ _ range) in
    let all = all_digits (b ∷ bs) (and_first (all_of (map is_ascii_digit (b ∷ bs))) (not (b == 48) || nat_le (length bs) 0) digits) in
    let zero_alone = and_second (all_of (map is_ascii_digit (b ∷ bs))) (not (b == 48) || nat_le (length bs) 0) digits in
    record {
      n = digits_value 10 (b ∷ bs);
      is = sym (decimal-digits_value digits_own (b ∷ bs) all (has_some bs) (λ (e : b ≡ 48). lone b bs zero_alone e)
          (wide (digits_value 10 (b ∷ bs)) (digits_bound of) high (bound_le of)));
      low = low;
      high = high;
    }

pub number_is : (of : Digits) (t : Token) → matches (number of) t ≡ true → Spelled of t
unfolding matches
number_is of t m = number_of of t m

-- ---- types and operators

pub scalar_is : {t : Token} → OneOf t (words_of ScalarTypes) → (s : Scalar) × ((t ≡ scalar_word s) × (is_c_scalar s ≡ true))
scalar_is OneOf.this = (scalar.Bool, (refl, refl))
scalar_is (OneOf.other OneOf.this) = (scalar.Int W8, (refl, refl))
scalar_is (OneOf.other (OneOf.other OneOf.this)) = (scalar.Int W16, (refl, refl))
scalar_is (OneOf.other (OneOf.other (OneOf.other OneOf.this))) = (scalar.Int W32, (refl, refl))
scalar_is (OneOf.other (OneOf.other (OneOf.other (OneOf.other OneOf.this)))) = (scalar.Int W64, (refl, refl))
scalar_is (OneOf.other (OneOf.other (OneOf.other (OneOf.other (OneOf.other OneOf.this))))) = (scalar.Nat W8, (refl, refl))
scalar_is (OneOf.other (OneOf.other (OneOf.other (OneOf.other (OneOf.other (OneOf.other OneOf.this)))))) = (scalar.Nat W16, (refl, refl))
scalar_is (OneOf.other (OneOf.other (OneOf.other (OneOf.other (OneOf.other (OneOf.other (OneOf.other OneOf.this))))))) = (scalar.Nat W32, (refl, refl))
scalar_is (OneOf.other (OneOf.other (OneOf.other (OneOf.other (OneOf.other (OneOf.other (OneOf.other (OneOf.other OneOf.this))))))))
    = (scalar.Nat W64, (refl, refl))
scalar_is (OneOf.other (OneOf.other (OneOf.other (OneOf.other (OneOf.other (OneOf.other (OneOf.other (OneOf.other (OneOf.other none))))))))) = elim none [ ]

pub operator_is : {t : Token} → OneOf t (words_of Operators) → (o : Op) × ((t ≡ operator_sign o) × (is_c_operator o ≡ true))
operator_is OneOf.this = (op.Eq, (refl, refl))
operator_is (OneOf.other OneOf.this) = (op.Ne, (refl, refl))
operator_is (OneOf.other (OneOf.other OneOf.this)) = (op.Lt, (refl, refl))
operator_is (OneOf.other (OneOf.other (OneOf.other OneOf.this))) = (op.Le, (refl, refl))
operator_is (OneOf.other (OneOf.other (OneOf.other (OneOf.other OneOf.this)))) = (op.Gt, (refl, refl))
operator_is (OneOf.other (OneOf.other (OneOf.other (OneOf.other (OneOf.other OneOf.this))))) = (op.Ge, (refl, refl))
operator_is (OneOf.other (OneOf.other (OneOf.other (OneOf.other (OneOf.other (OneOf.other OneOf.this)))))) = (op.And, (refl, refl))
operator_is (OneOf.other (OneOf.other (OneOf.other (OneOf.other (OneOf.other (OneOf.other (OneOf.other OneOf.this))))))) = (op.Or, (refl, refl))
operator_is (OneOf.other (OneOf.other (OneOf.other (OneOf.other (OneOf.other (OneOf.other (OneOf.other (OneOf.other none)))))))) = elim none [ ]
