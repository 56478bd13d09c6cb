-- Numbers that are too large while their digits are read.
use Rattle.std.proofs.Common.{◌≡◌, ℕ, suc, ◌+◌, ◌*◌, ◌^◌, ◌≤◌, ◌<◌, List, [], ◌∷◌, length, drop, get_or, sym, ap, ◌∙◌, arith}
use Rattle.std.proofs.Math.Seq.{drop-cons}
use Rattle.std.specs.Char.{digit_value}
use Rattle.std.specs.Str.Parse.{digits_value, digits_value_after}

le_after : (n : ℕ) (digits : List ℕ) → n ≤ digits_value_after 10 n digits
le_after n [] = omega arith
le_after n (c ∷ cs) = omega (arith, le_after (n * 10 + digit_value c) cs)

pub too_large : (value i d : ℕ) (piece : List ℕ) → i < length piece → 2 ^ 64 ≤ value * 10 + digit_value (get_or piece i d)
    → digits_value_after 10 value (drop i piece) ≡ digits_value 10 piece → 2 ^ 64 ≤ digits_value 10 piece
too_large value i d piece inside large is =
    let e : digits_value_after 10 (value * 10 + digit_value (get_or piece i d)) (drop (suc i) piece) ≡ digits_value 10 piece =
    sym (ap (digits_value_after 10 value) (drop-cons piece i d inside)) ∙ is in
    omega (arith, large, e, le_after (value * 10 + digit_value (get_or piece i d)) (drop (suc i) piece))
