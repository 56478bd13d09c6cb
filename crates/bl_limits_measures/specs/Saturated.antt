-- Numbers as far as 64 bits tell them.
use Rattle.std.specs.Prelude.{ℕ, ◌-◌, ◌^◌, min}

-- a number; one that 64 bits can't hold counts as the greatest that they can
abbrev pub saturated : ℕ → ℕ
saturated n = min n (2 ^ 64 - 1)
