-- Counts of statements that are shown.
use Rattle.std.proofs.Common.{◌≡◌, ℕ, ◌+◌, ◌-◌, ◌^◌, min, arith, sym, ◌∙◌, ap}
use Rattle.bl_crun_code_vm.specs.Steps.{shown_count}
use Rattle.bl_crun_code.proofs.Places.{min-min}

min-sum : (n k m : ℕ) → min (min n m + k) m ≡ min (n + k) m
min-sum n k m = omega arith

pub shown-sum : (n k : ℕ) → shown_count (shown_count n + k) ≡ shown_count (n + k)
shown-sum n k = min-sum n k (2 ^ 128 - 1)

pub shown-twice : (n : ℕ) → shown_count (shown_count n) ≡ shown_count n
shown-twice n = min-min n (2 ^ 128 - 1)

-- a count in two parts, with more statements in the second
pub count_added : (past recent n : ℕ) → shown_count (past + (recent + n)) ≡ shown_count (shown_count (past + recent) + n)
count_added past recent n =
    let e : past + (recent + n) ≡ past + recent + n = omega arith in
    ap shown_count e ∙ sym (shown-sum (past + recent) n)

-- the second part is carried to the first
pub count_carried : (past sum : ℕ) → shown_count (shown_count (past + sum) + 0) ≡ shown_count (past + sum)
count_carried past sum =
    let e : shown_count (past + sum) + 0 ≡ shown_count (past + sum) = omega arith in
    ap shown_count e ∙ shown-twice (past + sum)
