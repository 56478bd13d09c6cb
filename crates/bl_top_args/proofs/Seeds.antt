-- What `parse` makes of a word that is a seed.
use Rattle.std.proofs.Common.{◌≡◌, ◌∙◌, ℕ, ◌<◌, ◌^◌, ◌&&◌, Bool, true, false, List, length, refl, ap, arith, Some, None, if◌then◌else◌}
use Rattle.std.specs.Prelude.{Result, Ok, Err, nat_lt}
use Rattle.std.specs.Result.{OkIff, result_ok}
use Rattle.std.specs.Str.{all_ascii_digits}
use Rattle.std.specs.Str.Parse.{ParsesUnsigned, digits_value}
use Rattle.std.proofs.lemmas.Bool.Decides.{nat_tests}
use Rattle.std.proofs.lemmas.Str.Parse.{IsNumeralModel, numerals_by_value, parse_digits, tells_all_ascii_digits}
use Rattle.bl_top_args.specs.Jobs.{seed_of}

own : IsNumeralModel (λ ds. all_ascii_digits ds ≡ true) (digits_value 10)
own = numerals_by_value (λ ds. all_ascii_digits ds ≡ true) tells_all_ascii_digits

-- a word with another byte is none
pub seed_none : (word : List ℕ) → all_ascii_digits word ≡ false → None ≡ seed_of word
seed_none word e = rw e refl

found : (a b : Bool) (v : ℕ) → a ≡ true → b ≡ true → Some v ≡ (if a && b then Some v else None)
found true true v e f = refl
found true false v e f = cc
found false b v e f = cc

not_found : (a b : Bool) (v : ℕ) → (a ≡ true → b ≡ true → ⊥) → None ≡ (if a && b then Some v else None)
not_found true true v none = absurd (none refl refl)
not_found true false v none = refl
not_found false b v none = refl

read_as : {E : Type 0} (length value : ℕ) (r : Result ℕ E) → OkIff r ((0 < length) × (value < 2 ^ 64)) value →
    result_ok r ≡ (if nat_lt 0 length && nat_lt value (2 ^ 64) then Some value else None)
read_as length value (Ok n) is =
    let some = is.0.0 in
    let low = is.0.1 in
    let a : nat_lt 0 length ≡ true = grind (arith, nat_tests) in
    let b : nat_lt value (2 ^ 64) ≡ true = grind (arith, nat_tests) in
    ap Some is.1 ∙ found (nat_lt 0 length) (nat_lt value (2 ^ 64)) value a b
read_as length value (Err e) isnt =
    not_found (nat_lt 0 length) (nat_lt value (2 ^ 64)) value
    (λ a b. isnt (let some : 0 < length = grind (arith, nat_tests) in some, let low : value < 2 ^ 64 = grind (arith, nat_tests) in low))

pub seed_read : {E : Type 0} (word : List ℕ) (r : Result ℕ E) → ParsesUnsigned 64 10 word r → all_ascii_digits word ≡ true →
    result_ok r ≡ seed_of word
seed_read word r parses digits = rw digits (read_as (length word) (digits_value 10 word) r (parse_digits own 64 word r parses digits))
