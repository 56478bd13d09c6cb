-- Blocks of C statements, one behind the other.
use Rattle.std.proofs.Common.{◌≡◌, ℕ, List, [], ◌∷◌, ◌++◌, refl, sym, ap, ◌∙◌}
use Rattle.bl_tree.specs.declared.c.CStmt.{CStmt}
use Rattle.bl_ctext_semantics.specs.Course.{End, Outcome, breaks, following_end, goes_on, returns, traps}
use Rattle.bl_ctext_semantics.specs.Meaning.{Scope, block_c, runs_c}
use Rattle.bl_ctext_semantics.specs.Memory.{Memory}

-- ---- outcomes

pub following_on : (n : ℕ) (end : End) (memory : Memory) (rest : Memory → Outcome Memory) → end ≡ goes_on →
    (following_end n memory end rest).end ≡ (rest memory).end
following_on n goes_on memory rest is = refl
following_on n breaks memory rest is = absurd (cc)
following_on n (returns result) memory rest is = absurd (cc)
following_on n traps memory rest is = absurd (cc)

pub following_memory : (n : ℕ) (end : End) (memory : Memory) (rest : Memory → Outcome Memory) → end ≡ goes_on →
    (following_end n memory end rest).memory ≡ (rest memory).memory
following_memory n goes_on memory rest is = refl
following_memory n breaks memory rest is = absurd (cc)
following_memory n (returns result) memory rest is = absurd (cc)
following_memory n traps memory rest is = absurd (cc)

-- what goes on to its end has gone on before
first_goes : (n : ℕ) (end : End) (memory : Memory) (rest : Memory → Outcome Memory) → (following_end n memory end rest).end ≡ goes_on → end
    ≡ goes_on
first_goes n goes_on memory rest is = refl
first_goes n breaks memory rest is = absurd (cc)
first_goes n (returns result) memory rest is = absurd (cc)
first_goes n traps memory rest is = absurd (cc)

-- ---- statements that go on, before others

pub append_end : (xs ys : List CStmt) (scope : Scope) (here : Memory) → (block_c xs scope here).end ≡ goes_on →
    (block_c (xs ++ ys) scope here).end ≡ (block_c ys scope (block_c xs scope here).memory).end
append_end [] ys scope here goes = refl
append_end (s ∷ xs) ys scope here goes =
    let o = runs_c s scope here in
    let first = first_goes o.count o.end o.memory (λ m. block_c xs scope m) goes in
    let on = sym (following_on o.count o.end o.memory (λ m. block_c xs scope m) first) ∙ goes in
    following_on o.count o.end o.memory (λ m. block_c (xs ++ ys) scope m) first ∙ append_end xs ys scope o.memory on
    ∙ ap (λ (m : Memory). (block_c ys scope m).end) (sym (following_memory o.count o.end o.memory (λ m. block_c xs scope m) first))

pub append_memory : (xs ys : List CStmt) (scope : Scope) (here : Memory) → (block_c xs scope here).end ≡ goes_on →
    (block_c (xs ++ ys) scope here).memory ≡ (block_c ys scope (block_c xs scope here).memory).memory
append_memory [] ys scope here goes = refl
append_memory (s ∷ xs) ys scope here goes =
    let o = runs_c s scope here in
    let first = first_goes o.count o.end o.memory (λ m. block_c xs scope m) goes in
    let on = sym (following_on o.count o.end o.memory (λ m. block_c xs scope m) first) ∙ goes in
    following_memory o.count o.end o.memory (λ m. block_c (xs ++ ys) scope m) first ∙ append_memory xs ys scope o.memory on
    ∙ ap (λ (m : Memory). (block_c ys scope m).memory) (sym (following_memory o.count o.end o.memory (λ m. block_c xs scope m) first))
