-- The numbers of a row from a column on.
use Rattle.std.proofs.Common.{◌≡◌, ℕ, ◌+◌, ◌<◌, List, [], ◌∷◌, ◌++◌, length, drop, refl, min, Bool, true, false, ℤ, arith, ◌≤◌}
use Rattle.std.specs.Prelude.{nat_le}
use Rattle.std.proofs.lemmas.Bool.Decides.{nat_tests}
use Rattle.std.proofs.lemmas.List.{drop_all}
use Rattle.bl_tree.specs.declared.row.Column.{Column}
use Rattle.bl_rows.specs.Text.{values_text}

-- nothing is left after the last number, or the last column
pub printed_all : (outs : List Column) (row : List ℤ) (k : ℕ) → min (length outs) (length row) ≤ k → values_text (drop k outs) (drop k row) ≡ []
printed_all outs row k h = go (nat_le (length outs) (length row)) refl
  where
    none_left : (outs : List Column) → values_text outs [] ≡ []
    none_left [] = refl
    none_left (c ∷ outs) = refl

    go : (b : Bool) → nat_le (length outs) (length row) ≡ b → values_text (drop k outs) (drop k row) ≡ []
    go true e = let few : length outs ≤ length row = grind (arith, nat_tests) in rw (drop_all k outs (omega arith)) refl
    go false e = let few : length row < length outs = grind (arith, nat_tests) in rw (drop_all k row (omega arith)) (none_left (drop k outs))
