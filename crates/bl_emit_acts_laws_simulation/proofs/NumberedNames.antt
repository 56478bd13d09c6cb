-- Names of one letter differ, which stand for different positions: the digits behind the letter end at `_`.
use Rattle.std.proofs.Common.{◌≡◌, ℕ, ◌<◌, ◌^◌, arith, Bool, true, false, not, if◌then◌else◌, List, [], ◌∷◌, ◌++◌}
use Rattle.std.proofs.Common.{drop, refl, sym, ap, ◌∙◌}
use Rattle.std.proofs.lemmas.Bool.Decides.{nat_tests}
use Rattle.std.proofs.lemmas.Fmt.{decimal_injective, decimal_is_IsNumeral}
use Rattle.std.proofs.lemmas.Slice.Eq.{bytes_eq-Decides}
use Rattle.std.specs.Char.{digit_value}
use Rattle.std.specs.Fmt.{decimal}
use Rattle.std.specs.Prelude.{bytes_eq, nat_eq, slice_get}
use Rattle.std.specs.Str.Parse.{AllDigits}
use Rattle.bl_tree.specs.declared.text.Text.{Text}
use Rattle.bl_tree.specs.declared.tree.Var.{Var}
use Rattle.bl_emit_acts.specs.Types.{numbered_name, source_name}

abbrev is_other : ℕ → Bool
is_other c = not (nat_eq c 95)

-- what stands before the first `_`
abbrev front : List ℕ → List ℕ
front [] = []
front (c ∷ rest) = if is_other c then c ∷ front rest else []

digit_other : (c : ℕ) → digit_value c < 10 → is_other c ≡ true
digit_other c h = grind (arith, nat_tests)

front_is : (ds more : List ℕ) → AllDigits 10 ds → front (ds ++ 95 ∷ more) ≡ ds
front_is [] more h = refl
front_is (c ∷ ds) more h =
    ap (λ b. if b then c ∷ front (ds ++ 95 ∷ more) else []) (digit_other c h.0) ∙ ap (λ rest. c ∷ rest) (front_is ds more h.1)

number_before : (k : ℕ) (word : Text) → k < 2 ^ 64 → front (decimal k ++ 95 ∷ word) ≡ decimal k
number_before k word less = let numeral = decimal_is_IsNumeral k less in front_is (decimal k) word numeral.0.1

-- names of one letter with different numbers differ, whatever words stand behind the numbers
pub words_differ : (letter j k : ℕ) (one other : Text) → j < 2 ^ 64 → k < 2 ^ 64 → (j ≡ k → ⊥) →
    bytes_eq (letter ∷ (decimal j ++ 95 ∷ one)) (letter ∷ (decimal k ++ 95 ∷ other)) ≡ false
words_differ letter j k one other less most differ = by (bytes_eq (letter ∷ (decimal j ++ 95 ∷ one)) (letter ∷ (decimal k ++ 95 ∷ other))) refl
  where
    by : (same : Bool) → bytes_eq (letter ∷ (decimal j ++ 95 ∷ one)) (letter ∷ (decimal k ++ 95 ∷ other)) ≡ same → same ≡ false
    by false is = refl
    by true is =
        let text : letter ∷ (decimal j ++ 95 ∷ one) ≡ letter ∷ (decimal k ++ 95 ∷ other) =
        (bytes_eq-Decides (letter ∷ (decimal j ++ 95 ∷ one)) (letter ∷ (decimal k ++ 95 ∷ other))).0 is in
        let numbers : decimal j ≡ decimal k =
        sym (number_before j one less) ∙ ap (λ name. front (drop 1 name)) text ∙ number_before k other most in
        absurd (differ (decimal_injective j k less most numbers))

-- names of variables at different positions, or of their copies, differ
pub names_differ : (letter : ℕ) (vars : List Var) (j k : ℕ) → j < 2 ^ 64 → k < 2 ^ 64 → (j ≡ k → ⊥) →
    bytes_eq (letter ∷ numbered_name vars j) (letter ∷ numbered_name vars k) ≡ false
names_differ letter vars j k less most differ =
    words_differ letter j k (source_name (slice_get vars j)) (source_name (slice_get vars k)) less most differ
