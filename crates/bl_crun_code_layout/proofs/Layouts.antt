-- Tables of members, and of parameters and locals.
use Rattle.std.proofs.Common.{◌≡◌, ◌≤◌, ℕ, ◌+◌, min, drop, List, ◌∷◌, map, length, ap, sym}
use Rattle.std.proofs.Common.{◌∙◌, subst, arith}
use Rattle.std.proofs.lemmas.List.{drop_all}
use Rattle.bl_tree.specs.Reduce.{total}
use Rattle.bl_ctext_semantics.specs.Saturated.{saturated}
use Rattle.bl_ctext_semantics_laws.specs.Layout.{capped}

-- ---- numbers

capped-more : (a b rest c : ℕ) → min (min (a + b) c + rest) c ≡ min (a + (b + rest)) c
capped-more a b rest c = omega arith

pub behind-saturated : (a n : ℕ) → capped (a + saturated n) ≡ capped (a + n)
behind-saturated a n = omega arith

-- a sum that is capped, one by one
pub sum-capped : {X : Type 0} (f : X → ℕ) (so_far more all : ℕ) (x : X) (xs rest : List X) → xs ≡ x ∷ rest → more ≡ capped (so_far + f x) →
    capped (so_far + total (map f xs)) ≡ all → capped (more + total (map f rest)) ≡ all
sum-capped f so_far more all x xs rest is told h =
    ap (λ n. capped (n + total (map f rest))) told ∙ capped-more so_far (f x) (total (map f rest)) 4294967295
    ∙ ap (λ l. capped (so_far + total (map f l))) (sym is) ∙ h

pub capped-small : (n k : ℕ) → n ≡ capped k → n ≤ 4294967295
capped-small n k is = omega arith

pub sum-all : {X : Type 0} (f : X → ℕ) (so_far all : ℕ) (xs : List X) (k : ℕ) → length xs ≤ k → so_far ≤ 4294967295 →
    capped (so_far + total (map f (drop k xs))) ≡ all → so_far ≡ all
sum-all f so_far all xs k past small h =
    let last : capped (so_far + 0) ≡ all = subst (λ l. capped (so_far + total (map f l)) ≡ all) (drop_all k xs past) h in
    omega arith
