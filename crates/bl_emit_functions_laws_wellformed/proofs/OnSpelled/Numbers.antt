-- The names of flags and turns have a spelling where 64 bits hold their numbers.
use Rattle.std.proofs.Common.{◌≡◌, ℕ, ◌<◌, ◌^◌, true, List, [], ◌∷◌, map, length, refl, arith}
use Rattle.std.proofs.lemmas.Bool.Decides.{nat_tests}
use Rattle.std.proofs.lemmas.Fmt.{decimal_is_IsNumeral}
use Rattle.std.specs.Char.{is_ascii_digit}
use Rattle.std.specs.Fmt.{decimal}
use Rattle.std.specs.Str.Parse.{AllDigits}
use Rattle.std.proofs.lemmas.Bool.{and_from}
use Rattle.bl_tree.specs.Reduce.{all_of}
use Rattle.bl_ctext.specs.Names.{is_name, is_turn_name}
use Rattle.bl_ctext.specs.Token.{is_word}
use Rattle.bl_emit_acts_laws_wellformed.proofs.OnSpelled.Names.{digits_word, numbered-name}
use Rattle.bl_emit_functions.specs.Trees.{flag_name, turn_name}
use Rattle.bl_emit_acts_laws_wellformed.proofs.OnSpelled.Names.{digit_is}

all_digits : (ds : List ℕ) → AllDigits 10 ds → all_of (map is_ascii_digit ds) ≡ true
all_digits [] all = refl
all_digits (c ∷ ds) all = and_from (is_ascii_digit c) (all_of (map is_ascii_digit ds)) (digit_is c all.0) (all_digits ds all.1)

digits_are_word : (ds : List ℕ) → 0 < length ds → AllDigits 10 ds → is_word ds ≡ true
digits_are_word [] some all = absurd (omega arith)
digits_are_word (c ∷ ds) some all = digits_word (c ∷ ds) all

pub flag-name : (k : ℕ) → k < 2 ^ 64 → is_name (flag_name k) ≡ true
flag-name k small = numbered-name 113 k refl refl small

pub turn-named : (k : ℕ) → k < 2 ^ 64 → is_turn_name (turn_name k) ≡ true
unfolding is_turn_name
turn-named k small =
    let numeral = decimal_is_IsNumeral k small in
    and_from (is_word (decimal k)) (all_of (map is_ascii_digit (decimal k))) (digits_are_word (decimal k) numeral.0.0 numeral.0.1)
    (all_digits (decimal k) numeral.0.1)
