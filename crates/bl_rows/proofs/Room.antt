-- Bytes written into a room, from a place on.
use Rattle.std.proofs.Common.{◌≡◌, ℕ, ◌+◌, ◌/◌, ◌^◌, ◌<◌, ◌≤◌, List, ◌∷◌, ◌++◌, length, take, drop, get_or, decimal, refl, sym, ◌∙◌, append_assoc, arith, rules, ℤ, Some}
use Rattle.std.specs.List.{slice_get}
use Rattle.std.proofs.Math.Seq.{take-add, take-append_seam}
use Rattle.std.proofs.lemmas.Fmt.{length-decimal-le}
use Rattle.bl_tree.proofs.Basics.{drop_next}
use Rattle.itoa.proofs.Decimal.{length_four, length_one, length_pair, length_two}
use Rattle.bl_tree.specs.declared.row.Column.{Column}
use Rattle.bl_tree.specs.declared.scalar.Scalar.{Scalar}
use Rattle.bl_rows.specs.Text.{value_text, values_text}
use Rattle.bl_rows.proofs.Seq.{drop-got}

-- ---- a number whose digits end at a place

pub number_written : (was now : List ℕ) (at n size begin : ℕ) (rest : List ℕ) → size ≡ length (decimal n) →
    begin + length (decimal n) ≡ at + size → take begin now ≡ take begin was → drop begin now ≡ decimal n ++ rest
    → take (at + size) now ≡ take at was ++ decimal n
number_written was now at n size begin rest same ends before written =
    let here : begin ≡ at = omega (arith, same, ends) in
    let front : take at now ≡ take at was = rw here at before in
    let text : drop at now ≡ decimal n ++ rest = rw here at written in
    rw same (take-add at (length (decimal n)) now ∙ rw (front, text, take-append_seam (decimal n) rest) refl)

-- ---- how many digits a number has

pub digits_within : (n : ℕ) → n < 2 ^ 64 → length (decimal n) ≤ 20
digits_within n h = search (rules, length-decimal-le 20)

pub fours_fit : (count left n : ℕ) → count + length (decimal left) ≡ length (decimal n) → 10000 ≤ left → left < 2 ^ 64 → count + 4 ≤ length (decimal n)
fours_fit count left n all large small = omega (arith, all, length_four left large small)

pub digits_few : (n : ℕ) → n < 100 → 10 ≤ n → 2 ≡ length (decimal n)
digits_few n h g = sym (length_two n g h)

pub digits_three : (n : ℕ) → 100 ≤ n → n < 1000 → 3 ≡ length (decimal n)
digits_three n h g = omega (arith, length_pair n h (omega arith), length_one (n / 100) (omega arith))

pub digits_four : (n : ℕ) → 1000 ≤ n → n < 10000 → 4 ≡ length (decimal n)
digits_four n h g = omega (arith, length_pair n (omega arith) (omega arith), length_two (n / 100) (omega arith) (omega arith))

-- ---- the numbers of a row

pub output_more : (outs : List Column) (row : List ℤ) (k : ℕ) (c : Column) (z : ℤ) (printed now all : List ℕ) (t : Scalar) (x : ℤ) →
    k < length outs → c ≡ get_or outs k c → slice_get row k ≡ Some z → t ≡ c.ty → x ≡ z
    → printed ++ values_text (drop k outs) (drop k row) ≡ all → now ≡ printed ++ (44 ∷ value_text t x)
    → now ++ values_text (drop (k + 1) outs) (drop (k + 1) row) ≡ all
output_more outs row k c z printed now all t x inside e f same_type same_number h g =
    let a = drop_next outs k c inside e in
    let b = drop-got row k z f in
    let h2 : printed ++ (44 ∷ (value_text c.ty z ++ values_text (drop (k + 1) outs) (drop (k + 1) row))) ≡ all = rw (a, b) at h in
    rw (g, same_type, same_number) (simp append_assoc h2)
