-- What the digits of a number are.
use Rattle.std.proofs.Common.{◌≡◌, ℕ, ◌+◌, ◌-◌, ◌^◌, ◌≤◌, ◌<◌, Bool, true, false, not, ◌||◌, ◌==◌, nat_eq, nat_le, List, [], ◌∷◌, length, map}
use Rattle.std.proofs.Common.{sym, ap, ◌∙◌, subst, arith}
use Rattle.std.proofs.lemmas.Bool.Decides.{nat_tests}
use Rattle.std.proofs.lemmas.Fmt.{decimal-digits_value, decimal_injective}
use Rattle.std.proofs.lemmas.Str.{IsUtf8-from_ascii}
use Rattle.std.proofs.lemmas.Str.Ascii.{IsAscii-nil, IsAscii-cons}
use Rattle.std.proofs.lemmas.Str.Parse.{parse_gives}
use Rattle.std.specs.Char.{is_ascii_digit}
use Rattle.std.specs.Fmt.{decimal}
use Rattle.std.specs.Str.{IsAscii, IsUtf8, all_ascii_digits}
use Rattle.std.specs.Str.Parse.{digits_value, ParsesUnsigned}
use Rattle.std.specs.Prelude.{Result, Ok, Err}
use Rattle.std.specs.Cmp.Lexicographic.{pointwise}
use Rattle.bl_tree.proofs.Basics.{and_first, and_second, at_most_from, less_from}
use Rattle.bl_tree.specs.Reduce.{all_of}
use Rattle.bl_tree.specs.declared.scalar.Width.{Width}
use Rattle.bl_tree.specs.declared.scalar.Width.TheVariants.{W8, W16, W32, W64}
use Rattle.bl_ctext.specs.Token.{Token}
use Rattle.bl_ctext.specs.Spelling.{negatives}
use Rattle.bl_cparse_syntax.specs.declared.grammar.Digits.{Digits}
use Rattle.bl_cparse_syntax.specs.Classes.{least, digits_bound, are_digits, spells_number, matches}
use Rattle.bl_cparse_syntax.specs.Classes.Class.{number}
use Rattle.bl_cparse_syntax.specs.Pieces.{is_same}
use Rattle.bl_cparse_syntax.proofs.ClassLemmas.{is_same-self}
use Rattle.bl_grammar.proofs.Predictive.{not_both}
use Rattle.bl_cparse_syntax_laws.proofs.Pieces.{bound_le}
use Rattle.bl_cparse_syntax_laws.proofs.Pieces.{all_digits, digits_own, has_some, lone, wide}

digit_ascii : (d : ℕ) → is_ascii_digit d ≡ true → d < 128
digit_ascii d h = grind (arith, nat_tests)

digits_ascii : (ds : List ℕ) → all_ascii_digits ds ≡ true → IsAscii ds
digits_ascii [] h = IsAscii-nil
digits_ascii (d ∷ ds) h = IsAscii-cons d ds (digit_ascii d (and_first _ _ h)) (digits_ascii ds (and_second _ _ h))

-- the number of digits that are of the class
pub record Numeral (of : Digits) (t : Token) : Type 0 where
  pub text : IsUtf8 t
  pub digits : all_ascii_digits t ≡ true
  pub some : 0 < length t
  pub small : digits_value 10 t < 2 ^ 64
  pub is : t ≡ decimal (digits_value 10 t)
  pub low : least of ≤ digits_value 10 t
  pub high : digits_value 10 t < digits_bound of

numeral_of : (of : Digits) (t : Token) → spells_number of t ≡ true → Numeral of t
unfolding spells_number
numeral_of of [] h = absurd (cc)
numeral_of of (b ∷ bs) h =
    let digits = and_first (are_digits (b ∷ bs)) _ h in
    let range = and_second (are_digits (b ∷ bs)) _ h in
    let high : digits_value 10 (b ∷ bs) < digits_bound of = less_from (digits_value 10 (b ∷ bs)) (digits_bound of) (and_second _ _ range) in
    let all : all_ascii_digits (b ∷ bs) ≡ true = all_digits (b ∷ bs)
    (and_first (all_of (map is_ascii_digit (b ∷ bs))) (not (b == 48) || nat_le (length bs) 0) digits) in
    let zero_alone = and_second (all_of (map is_ascii_digit (b ∷ bs))) (not (b == 48) || nat_le (length bs) 0) digits in
    let small : digits_value 10 (b ∷ bs) < 2 ^ 64 = wide (digits_value 10 (b ∷ bs)) (digits_bound of) high (bound_le of) in
    record {
      text = IsUtf8-from_ascii (b ∷ bs) (digits_ascii (b ∷ bs) all);
      digits = all;
      some = has_some bs;
      small = small;
      is = sym (decimal-digits_value digits_own (b ∷ bs) all (has_some bs) (λ (e : b ≡ 48). lone b bs zero_alone e) small);
      low = at_most_from (least of) (digits_value 10 (b ∷ bs)) (and_first _ _ range);
      high = high;
    }

pub numeral : (of : Digits) (t : Token) → matches (number of) t ≡ true → Numeral of t
unfolding matches
numeral of t m = numeral_of of t m

pub parsed : {E : Type 0} (of : Digits) (t : Token) (r : Result ℕ E) → ParsesUnsigned 64 10 t r → matches (number of) t ≡ true →
    r ≡ Ok (digits_value 10 t)
parsed of t r p m = let n = numeral of t m in parse_gives digits_own 64 t r p n.digits n.some n.small

-- of a number that the digits spell, that it is in the range
pub in_range : (of : Digits) (t : Token) (n low high : ℕ) → n < 2 ^ 64 → t ≡ decimal n → least of ≡ low → digits_bound of ≡ high + 1 →
    matches (number of) t ≡ true → (low ≤ n) × (n ≤ high)
in_range of t n low high small is l h m =
    let k = numeral of t m in
    let same : digits_value 10 t ≡ n = decimal_injective (digits_value 10 t) n k.small small (sym k.is ∙ is) in
    (omega (arith, k.low, l, same), omega (arith, k.high, h, same))

pub not_parsed : {E : Type 0} (of : Digits) (t : Token) (r : Result ℕ E) {e : E} → ParsesUnsigned 64 10 t r → r ≡ Err e →
    matches (number of) t ≡ true → ⊥
not_parsed of t r {e} p is m = no_value (sym is ∙ parsed of t r p m)
  where
    no_value : {A E : Type 0} {a : A} {e : E} → ◌≡◌ {A = Result A E} (Err e) (Ok a) → ⊥
    no_value e = cc

-- the test that the number is written as the digits fails for none of them
pub written : {E : Type 0} (of : Digits) (t w : Token) (r : Result ℕ E) (same : Bool) {n : ℕ} → ParsesUnsigned 64 10 t r →
    r ≡ Ok n → w ≡ decimal n → same ≡ pointwise nat_eq w t → same ≡ false → matches (number of) t ≡ true → ⊥
unfolding is_same
written of t w r same {n} p is text test off m =
    let k : Numeral of t = numeral of t m in
    let value : digits_value 10 t ≡ n = same_value (sym (parsed of t r p m) ∙ is) in
    let alike : t ≡ w = k.is ∙ (ap decimal value ∙ sym text) in
    not_both same (test ∙ subst (λ (u : Token). pointwise nat_eq w u ≡ true) (sym alike) (is_same-self w)) off
  where
    same_value : {A E : Type 0} {a b : A} → ◌≡◌ {A = Result A E} (Ok a) (Ok b) → a ≡ b
    same_value e = cc

-- the numbers up to one less_from another
pub up_to : (w : Width) {n : ℕ} → n ≡ negatives w → negatives w ≡ (n - 1) + 1
up_to W8 is = omega (arith, is)
up_to W16 is = omega (arith, is)
up_to W32 is = omega (arith, is)
up_to W64 is = omega (arith, is)
