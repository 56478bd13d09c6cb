-- Numbers and literals are of the classes that the grammar has for them.
use Rattle.std.proofs.Common.{◌≡◌, ℕ, zero, suc, ◌+◌, ◌-◌, ◌*◌, ◌^◌, ◌≤◌, ◌<◌, ℤ, pos, negsuc, Bool, true, false, ◌==◌, cond, List, [], ◌∷◌, ◌++◌}
use Rattle.std.proofs.Common.{length, get_or, map, refl, arith, codes}
use Rattle.std.proofs.lemmas.Bool.{le-leb, lt-ltb}
use Rattle.std.proofs.lemmas.Bool.Decides.{nat_tests}
use Rattle.std.proofs.lemmas.Fmt.{decimal_is_IsNumeral, decimal_digit, first_decimal}
use Rattle.std.specs.Char.{is_ascii_digit, digit_value}
use Rattle.std.specs.Str.Parse.{AllDigits, digits_value}
use Rattle.std.specs.Fmt.{decimal}
use Rattle.bl_tree.proofs.Basics.{less_from}
use Rattle.bl_tree.specs.declared.scalar.Width.{Width}
use Rattle.bl_tree.specs.declared.scalar.Width.TheVariants.{W8, W16, W32, W64}
use Rattle.bl_tree.specs.declared.scalar.Scalar.{Scalar}
use Rattle.bl_tree.specs.declared.scalar.Scalar.TheVariants as scalar
use Rattle.bl_tree.specs.Reduce.{all_of}
use Rattle.bl_ctext.specs.Token.{Token}
use Rattle.bl_ctext.specs.Names.{is_among}
use Rattle.bl_ctext.specs.Spelling.{width_digits, constant_word, constant_tokens, negatives, negative_tokens, literal_tokens}
use Rattle.bl_ctext.specs.Spellable.{is_literal, most_open}
use Rattle.bl_ctext.proofs.Nesting.{is_bracket}
use Rattle.bl_ctext.proofs.PlainWords.{decimal-plain}
use Rattle.bl_cparse_syntax.specs.declared.grammar.Group.TheVariants.{PlainLiterals}
use Rattle.bl_cparse_syntax.specs.declared.grammar.Digits.{Digits}
use Rattle.bl_cparse_syntax.specs.declared.grammar.Digits.TheVariants.{Int, Negated, Unsigned}
use Rattle.bl_cparse_syntax.specs.declared.grammar.Part.{Part}
use Rattle.bl_cparse_syntax.specs.declared.grammar.Part.TheVariants.{Simple, Constant, Inside, Negative}
use Rattle.bl_cparse_syntax.specs.Classes.{least, digits_bound, are_digits, spells_number, matches}
use Rattle.bl_cparse_syntax.specs.Classes.Class.{one_of, number}
use Rattle.bl_cparse_syntax.specs.Grammar.{Wanted, productions, needing_none, constant, IsAmong}
use Rattle.bl_cparse_syntax.specs.Grammar.IsAmong.{here, later}
use Rattle.bl_cparse_syntax_laws.proofs.Shallow.{Goes, at, roomed, free, open_then, close_then, class_then, word_then, one_behind}
use Rattle.bl_ctext.proofs.ExprNesting.{int_word-plain, nat_word-plain}
use Rattle.bl_cparse_syntax_laws.proofs.Pieces.{bound_le}

-- numbers

digit_byte : (c : ℕ) → digit_value c < 10 → is_ascii_digit c ≡ true
digit_byte c h = grind (arith, nat_tests)

all_bytes : (ds : List ℕ) → AllDigits 10 ds → all_of (map is_ascii_digit ds) ≡ true
all_bytes [] h = refl
all_bytes (c ∷ cs) h = rw (digit_byte c h.0, all_bytes cs h.1) refl

digits_are : (ds : List ℕ) → 0 < length ds → all_of (map is_ascii_digit ds) ≡ true → (0 < length ds → 48 < get_or ds 0 0) → are_digits ds ≡ true
digits_are [] some all lead = absurd (omega (arith, some))
digits_are (c ∷ cs) some all lead =
    let large : 48 < c = lead some in
    let other : (c == 48) ≡ false = grind (arith, nat_tests) in
    rw (all, other) refl

decimal_digits : (n : ℕ) → n < 2 ^ 64 → are_digits (decimal n) ≡ true
decimal_digits zero h = let e : decimal 0 ≡ 48 ∷ [] = decimal_digit 0 (omega arith) in rw e refl
decimal_digits (suc n) h =
    let k = decimal_is_IsNumeral (suc n) h in
    digits_are (decimal (suc n)) k.0.0 (all_bytes (decimal (suc n)) k.0.1) (λ some. first_decimal (suc n) (omega arith) h)

pub number_is : (of : Digits) (n : ℕ) → least of ≤ n → n < digits_bound of → matches (number of) (decimal n) ≡ true
unfolding matches spells_number
number_is of n low high =
    let small : n < 2 ^ 64 = omega (arith, high, bound_le of) in
    let value : digits_value 10 (decimal n) ≡ n = (decimal_is_IsNumeral n small).1 in
    rw (decimal_digits n small, value, le-leb (least of) n low, lt-ltb n (digits_bound of) high) refl

pub number_plain : (of : Digits) (n : ℕ) → n < digits_bound of → is_bracket (decimal n) ≡ false
number_plain of n high = decimal-plain n (omega (arith, high, bound_le of))

-- constants

constant_goes : (k j : ℕ) (part : Part) (bytes : Token) (of : Digits) (n : ℕ) (ss : List Wanted) (ts : List Token) →
    IsAmong (needing_none (constant bytes of)) (productions part)
    → is_bracket bytes ≡ false → least of ≤ n → n < digits_bound of → Goes k ss ts → Goes k (at j part ∷ ss) (constant_tokens bytes n ++ ts)
constant_goes k j part bytes of n ss ts among h low high go =
    free k j part ss (bytes ∷ codes "(" ∷ decimal n ∷ codes ")" ∷ ts) among (omega arith)
    (word_then k bytes _ _ h (open_then k _ _ _ refl (class_then (number of) (k + 1) (decimal n) _ _ (number_is of n low high)
    (number_plain of n high) (close_then k _ _ _ refl refl go))))

int_among : (w : Width) → IsAmong (needing_none (constant (constant_word (codes "INT") w) (Int w))) (productions Constant)
int_among W8 = here
int_among W16 = later here
int_among W32 = later (later here)
int_among W64 = later (later (later here))

unsigned_among : (w : Width) → IsAmong (needing_none (constant (constant_word (codes "UINT") w) (Unsigned w))) (productions Constant)
unsigned_among W8 = later (later (later (later here)))
unsigned_among W16 = later (later (later (later (later here))))
unsigned_among W32 = later (later (later (later (later (later here)))))
unsigned_among W64 = later (later (later (later (later (later (later here))))))

negated_among : (w : Width) → IsAmong (needing_none (constant (constant_word (codes "INT") w) (Negated w))) (productions Negative)
negated_among W8 = here
negated_among W16 = later here
negated_among W32 = later (later here)
negated_among W64 = later (later (later here))

-- a constant as an expression
simple_constant : (k : ℕ) (bytes : Token) (of : Digits) (n : ℕ) (ss : List Wanted) (ts : List Token) →
    IsAmong (needing_none (constant bytes of)) (productions Constant)
    → is_bracket bytes ≡ false → least of ≤ n → n < digits_bound of → Goes k ss ts → Goes k (at k Simple ∷ ss) (constant_tokens bytes n ++ ts)
simple_constant k bytes of n ss ts among h low high go =
    roomed k k Simple ss (constant_tokens bytes n ++ ts) (later (later (later here))) (λ few. one_behind k bytes (decimal n ∷ codes ")" ∷ ts) h few)
    (constant_goes k k Constant bytes of n ss ts among h low high go)

-- literals of one word

plain_word : (k : ℕ) (w : Token) (ss : List Wanted) (ts : List Token) → matches (one_of PlainLiterals) w ≡ true →
    is_bracket w ≡ false → Goes k ss ts → Goes k (at k Simple ∷ ss) (w ∷ ts)
plain_word k w ss ts m h go = free k k Simple ss (w ∷ ts) (later (later here)) (omega arith) (class_then (one_of PlainLiterals) k w ss ts m h go)

truth_is : (b : Bool) → (matches (one_of PlainLiterals) (cond b (codes "false") (codes "true")) ≡ true)
    × (is_bracket (cond b (codes "false") (codes "true")) ≡ false)
unfolding matches is_among
truth_is true = (refl, refl)
truth_is false = (refl, refl)

least_is : (w : Width) → (matches (one_of PlainLiterals) (codes "INT" ++ (width_digits w ++ codes "_MIN")) ≡ true)
    × (is_bracket (codes "INT" ++ (width_digits w ++ codes "_MIN")) ≡ false)
unfolding matches is_among
least_is W8 = (refl, refl)
least_is W16 = (refl, refl)
least_is W32 = (refl, refl)
least_is W64 = (refl, refl)

-- how an expression goes on: behind its parenthesis, or with what begins with none
pub data Begun (k : ℕ) (ss : List Wanted) (ts xs : List Token) : Type 0 where
  bracketed : (rest : List Token) → xs ≡ codes "(" ∷ rest → Goes (k + 1) (at k Inside ∷ ss) (rest ++ ts) → Begun k ss ts xs
  simple : Goes k (at k Simple ∷ ss) (xs ++ ts) → Begun k ss ts xs

-- the tokens of an expression, before any others
abbrev pub OfKindTokens : List Token → Type 0
OfKindTokens xs = (k : ℕ) (ss : List Wanted) (ts : List Token) → Goes k ss ts → Begun k ss ts xs

abbrev minus_rest : Width → ℕ → List Token
minus_rest w n = codes "-" ∷ (constant_tokens (constant_word (codes "INT") w) n ++ codes ")" ∷ [])

two_open : (k : ℕ) (w : Token) (ts : List Token) → is_bracket w ≡ false →
    most_open (k + 1) (codes "-" ∷ w ∷ codes "(" ∷ ts) ≤ 2000 → 2 ≤ 2000 - k
two_open k w ts h few =
    let deep : most_open (k + 1) (w ∷ codes "(" ∷ ts) ≤ 2000 = omega (arith, few) in
    let one : 1 ≤ 2000 - (k + 1) = one_behind (k + 1) w ts h deep in
    omega (arith, one)

minus_goes : (k : ℕ) (w : Width) (n : ℕ) (ss : List Wanted) (ts : List Token) → 1 ≤ n → n < negatives w → Goes k ss ts →
    Goes (k + 1) (at k Inside ∷ ss) (minus_rest w n ++ ts)
minus_goes k w n ss ts low high go =
    roomed (k + 1) k Inside ss (minus_rest w n ++ ts) (later (later here))
    (λ few. two_open k (constant_word (codes "INT") w) (decimal n ∷ codes ")" ∷ codes ")" ∷ ts) (int_word-plain w) few)
    (word_then (k + 1) _ _ _ refl
    (constant_goes (k + 1) k Negative (constant_word (codes "INT") w) (Negated w) n _ (codes ")" ∷ ts) (negated_among w) (int_word-plain w) low high
    (close_then k _ _ _ refl refl go)))

negative_begun : (w : Width) (n : ℕ) → 1 ≤ n → n ≤ negatives w → OfKindTokens (negative_tokens w n)
negative_begun w n low high k ss ts go = by_least (n == negatives w) refl
  where
    other : (n == negatives w) ≡ false → n < negatives w
    other e = grind (arith, nat_tests)

    by_least : (b : Bool) → (n == negatives w) ≡ b → Begun k ss ts
        (cond b ((codes "INT" ++ (width_digits w ++ codes "_MIN")) ∷ []) (codes "(" ∷ minus_rest w n))
    by_least true e = simple (plain_word k _ ss ts (least_is w).0 (least_is w).1 go)
    by_least false e = bracketed (minus_rest w n) refl (minus_goes k w n ss ts low (other e) go)

pub literal_begun : (s : Scalar) (n : ℤ) → is_literal s n ≡ true → OfKindTokens (literal_tokens s n)
literal_begun scalar.Bool (pos n) h k ss ts go = simple (plain_word k _ ss ts (truth_is (n == 0)).0 (truth_is (n == 0)).1 go)
literal_begun scalar.Bool (negsuc n) h k ss ts go = absurd (let e : false ≡ true = h in cc)
literal_begun (scalar.Int w) (pos n) h k ss ts go =
    simple (simple_constant k _ (Int w) n ss ts (int_among w) (int_word-plain w) (omega arith) (less_from n (negatives w) h) go)
literal_begun (scalar.Int w) (negsuc n) h k ss ts go = let small : n < negatives w = less_from n (negatives w) h in
    negative_begun w (suc n) (omega arith) (omega (arith, small)) k ss ts go
literal_begun (scalar.Nat w) (pos n) h k ss ts go =
    simple (simple_constant k _ (Unsigned w) n ss ts (unsigned_among w) (nat_word-plain w) (omega arith) (less_from n (2 * negatives w) h) go)
literal_begun (scalar.Nat w) (negsuc n) h k ss ts go = absurd (let e : false ≡ true = h in cc)
literal_begun (scalar.Bits w) n h k ss ts go = absurd (let e : false ≡ true = h in cc)
