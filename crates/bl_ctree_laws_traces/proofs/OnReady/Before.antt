-- No number is below itself.
use Rattle.std.proofs.Common.{ℕ, ◌<◌, arith}

pub not_itself : {A : Type 0} (x : ℕ) → x < x → A
not_itself x lt = absurd (omega arith)
