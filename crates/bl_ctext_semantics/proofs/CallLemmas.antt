-- The greatest number of called functions.
use Rattle.std.proofs.Common.{◌≡◌, ℕ, ◌+◌, ◌<◌, List, [], ◌∷◌, ◌++◌, map, max, drop, length, get_or, subst, ◌∙◌, arith}
use Rattle.bl_tree.proofs.Basics.{drop_next}
use Rattle.bl_tree.specs.declared.text.Text.{Text}
use Rattle.bl_tree.specs.Reduce.{joined, greatest}
use Rattle.bl_ctext_semantics.specs.Calls.{most}
use Rattle.bl_ctext_semantics.specs.Tables.{Table}

pub most-append : (t : Table ℕ) (xs ys : List Text) → most t (xs ++ ys) ≡ max (most t xs) (most t ys)
most-append t [] ys = omega arith
most-append t (x ∷ xs) ys = omega (arith, most-append t xs ys)

pub ruleset mosts = (most-append)

-- one more list of names
pub most-next : {X : Type 0} (t : Table ℕ) (names : X → List Text) (xs : List X) (k : ℕ) (x : X) (so_far all : ℕ) → k < length xs →
    x ≡ get_or xs k x →
    max so_far (most t (joined (map names (drop k xs)))) ≡ all → max (max so_far (most t (names x))) (most t (joined (map names (drop (k + 1) xs)))) ≡ all
most-next t names xs k x so_far all within is h =
    let here : max so_far (most t (names x ++ joined (map names (drop (k + 1) xs)))) ≡ all =
    subst (λ l. max so_far (most t (joined (map names l))) ≡ all) (drop_next xs k x within is) h in
    omega (arith, most-append t (names x) (joined (map names (drop (k + 1) xs))))
