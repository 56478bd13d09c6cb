-- Tests that hold or don't.
use Rattle.std.proofs.Common.{◌≡◌, ℕ, false, ◌&&◌, ◌∙◌, arith}
use Rattle.std.specs.Prelude.{nat_eq}
use Rattle.std.proofs.lemmas.Bool.Decides.{nat_tests}

pub unequal : (a b : ℕ) → nat_eq a b ≡ false → a ≡ b → ⊥
unequal a b other is = grind (arith, nat_tests)
