-- Blocks of C statements, one before others.
use Rattle.std.proofs.Common.{◌≡◌, ℕ, zero, suc, ◌+◌, ◌<◌, ◌≤◌, Bool, true, false, List, [], ◌∷◌, ◌++◌, length, map, drop, None, Some}
use Rattle.std.proofs.Common.{refl, sym, ap, subst, ◌∙◌, arith}
use Rattle.std.specs.Prelude.{slice_get}
use Rattle.bl_tree.proofs.Basics.{drop_none}
use Rattle.bl_tree.specs.declared.c.CStmt.{CStmt}
use Rattle.bl_ctext_semantics.specs.Course.{End, Outcome, breaks, following_end, goes_on, returns, traps}
use Rattle.bl_ctext_semantics.specs.Meaning.{Scope, block_c, runs_c}
use Rattle.bl_ctext_semantics.specs.Memory.{Memory}
use Rattle.bl_emit_spec.specs.Blocks.{NodeCode}
use Rattle.bl_emit_spec_laws.specs.Passes.{behind_firsts}
use Rattle.bl_emit_spec_laws.proofs.OnActivities.Appending.{following_memory, following_on}

-- ---- lists

-- ---- outcomes

following_traps : (n : ℕ) (end : End) (memory : Memory) (rest : Memory → Outcome Memory) → end ≡ traps →
    (following_end n memory end rest).end ≡ traps
following_traps n goes_on memory rest is = absurd (cc)
following_traps n breaks memory rest is = absurd (cc)
following_traps n (returns result) memory rest is = absurd (cc)
following_traps n traps memory rest is = refl

-- how a block of one statement ends tells how the statement does
end_alone : (n : ℕ) (end : End) (memory : Memory) (then : Memory → Outcome Memory) → ((m : Memory) → (then m).end ≡ goes_on) →
    (following_end n memory end then).end ≡ end
end_alone n goes_on memory then goes = goes memory
end_alone n breaks memory then goes = refl
end_alone n (returns result) memory then goes = refl
end_alone n traps memory then goes = refl

memory_alone : (n : ℕ) (end : End) (memory : Memory) (then : Memory → Outcome Memory) → ((m : Memory) → (then m).memory ≡ m) →
    (following_end n memory end then).memory ≡ memory
memory_alone n goes_on memory then stays = stays memory
memory_alone n breaks memory then stays = refl
memory_alone n (returns result) memory then stays = refl
memory_alone n traps memory then stays = refl

-- ---- one statement before others

module _ (s : CStmt) (rest : List CStmt) (scope : Scope) (here : Memory) where
  abbrev o : Outcome Memory
  o = runs_c s scope here

  alone_end : (block_c (s ∷ []) scope here).end ≡ o.end
  alone_end = end_alone o.count o.end o.memory (λ m. block_c [] scope m) (λ m. refl)

  alone_memory : (block_c (s ∷ []) scope here).memory ≡ o.memory
  alone_memory = memory_alone o.count o.end o.memory (λ m. block_c [] scope m) (λ m. refl)

  -- where it goes on, the others follow from the memory that it leaves
  pub more_end : (block_c (s ∷ []) scope here).end ≡ goes_on →
      (block_c (s ∷ rest) scope here).end ≡ (block_c rest scope (block_c (s ∷ []) scope here).memory).end
  more_end goes =
      following_on o.count o.end o.memory (λ m. block_c rest scope m) (sym alone_end ∙ goes)
      ∙ ap (λ m. (block_c rest scope m).end) (sym alone_memory)

  pub more_memory : (block_c (s ∷ []) scope here).end ≡ goes_on →
      (block_c (s ∷ rest) scope here).memory ≡ (block_c rest scope (block_c (s ∷ []) scope here).memory).memory
  more_memory goes =
      following_memory o.count o.end o.memory (λ m. block_c rest scope m) (sym alone_end ∙ goes)
      ∙ ap (λ m. (block_c rest scope m).memory) (sym alone_memory)

  -- where it traps, all do
  pub more_traps : (block_c (s ∷ []) scope here).end ≡ traps → (block_c (s ∷ rest) scope here).end ≡ traps
  more_traps traps_here = following_traps o.count o.end o.memory (λ m. block_c rest scope m) (sym alone_end ∙ traps_here)

-- ---- what is behind a position

-- where it begins with an element, that stands at the position
pub get_first : {A : Type 0} (xs : List A) (k : ℕ) (y : A) (ys : List A) → drop k xs ≡ y ∷ ys → slice_get xs k ≡ Some y
get_first [] zero y ys is = absurd (cc)
get_first [] (suc k) y ys is = absurd (cc)
get_first {A} (x ∷ xs) zero y ys is = ap (λ (zs : List A). slice_get zs 0) is
get_first (x ∷ xs) (suc k) y ys is = get_first xs k y ys is

-- and the rest is what is behind the next position
pub drop_next : {A : Type 0} (xs : List A) (k : ℕ) (y : A) (ys : List A) → drop k xs ≡ y ∷ ys → drop (suc k) xs ≡ ys
drop_next [] zero y ys is = absurd (cc)
drop_next [] (suc k) y ys is = absurd (cc)
drop_next {A} (x ∷ xs) zero y ys is = drop_none xs ∙ (let same : xs ≡ ys = cc in same)
drop_next (x ∷ xs) (suc k) y ys is = drop_next xs k y ys is

-- where nothing is behind it, nothing is behind the next one
pub drop_past : {A : Type 0} (xs : List A) (k : ℕ) → drop k xs ≡ [] → drop (suc k) xs ≡ []
drop_past [] zero is = refl
drop_past [] (suc k) is = refl
drop_past (x ∷ xs) zero is = absurd (cc)
drop_past (x ∷ xs) (suc k) is = drop_past xs k is

-- it begins with what stands at the position
pub get_drop : {A : Type 0} (xs : List A) (k : ℕ) (ys : List A) → drop k xs ≡ ys → slice_get xs k ≡ slice_get ys 0
get_drop {A} [] zero ys is = ap (λ (zs : List A). slice_get zs 0) is
get_drop {A} [] (suc k) ys is = ap (λ (zs : List A). slice_get zs 0) is
get_drop {A} (x ∷ xs) zero ys is = ap (λ (zs : List A). slice_get zs 0) is
get_drop (x ∷ xs) (suc k) ys is = get_drop xs k ys is

-- no first element stands behind another one
pub none_before : {X : Type 0} (lists : List (List X)) → slice_get (behind_firsts lists) 0 ≡ Some true → ⊥
none_before [] set = nothing_set set
  where
    nothing_set : None ≡ Some true → ⊥
    nothing_set is = cc
none_before ([] ∷ rest) set = none_before rest set
none_before ((x ∷ xs) ∷ rest) set = unset set
  where
    unset : Some false ≡ Some true → ⊥
    unset is = cc

-- marks that are set from a position on
get_front : (n : List Bool) (ts : List NodeCode) (more : List Bool) (j : ℕ) → n ≡ map (λ (t : NodeCode). true) ts ++ more → j < length ts →
    slice_get n j ≡ Some true
get_front n [] more j is less = absurd (omega (arith, less))
get_front n (t ∷ ts) more zero is less = ap (λ (zs : List Bool). slice_get zs 0) is
get_front n (t ∷ ts) more (suc j) is less =
    ap (λ (zs : List Bool). slice_get zs (suc j)) is ∙ get_front (map (λ (t : NodeCode). true) ts ++ more) ts more j refl (omega (arith, less))

pub get_behind : (xs : List Bool) (k p : ℕ) (ts : List NodeCode) (more : List Bool) → drop k xs ≡ map (λ (t : NodeCode). true) ts ++ more → k ≤ p →
    p < k + length ts → slice_get xs p ≡ Some true
get_behind xs zero p ts more is from below = get_front xs ts more p (sym (drop_none xs) ∙ is) (omega (arith, below))
get_behind [] (suc k) p [] more is from below = absurd (omega (arith, from, below))
get_behind [] (suc k) p (t ∷ ts) more is from below = absurd (cc)
get_behind (x ∷ xs) (suc k) zero ts more is from below = absurd (omega (arith, from))
get_behind (x ∷ xs) (suc k) (suc p) ts more is from below = get_behind xs k p ts more is (omega (arith, from)) (omega (arith, below))

-- ---- an `if` that does what stands in it

-- two outcomes that differ at most in their counts
abbrev pub Alike : Outcome Memory → Outcome Memory → Type 0
Alike o p = (o.end ≡ p.end) × (o.memory ≡ p.memory)

follow_counts : (n m : ℕ) (memory : Memory) (end : End) (rest : Memory → Outcome Memory) →
    Alike (following_end n memory end rest) (following_end m memory end rest)
follow_counts n m memory goes_on rest = (refl, refl)
follow_counts n m memory breaks rest = (refl, refl)
follow_counts n m memory (returns result) rest = (refl, refl)
follow_counts n m memory traps rest = (refl, refl)

follow_alike : (n m : ℕ) (memory memory' : Memory) (end end' : End) (rest : Memory → Outcome Memory) → end ≡ end' → memory ≡ memory' →
    Alike (following_end n memory end rest) (following_end m memory' end' rest)
follow_alike n m memory memory' end end' rest same is =
    subst (λ (e : End). Alike (following_end n memory end rest) (following_end m memory' e rest)) same
    (subst (λ (k : Memory). Alike (following_end n memory end rest) (following_end m k end rest)) is (follow_counts n m memory end rest))

-- statements before others, as one before them
as_one : (more later : List CStmt) (scope : Scope) (here : Memory) →
    Alike (block_c (more ++ later) scope here)
    (following_end 0 (block_c more scope here).memory (block_c more scope here).end (λ m. block_c later scope m))
as_one [] later scope here = (refl, refl)
as_one (s ∷ more) later scope here =
    by (as_one more later scope) (runs_c s scope here).count (runs_c s scope here).memory (runs_c s scope here).end
  where
    by : ((k : Memory) → Alike (block_c (more ++ later) scope k)
        (following_end 0 (block_c more scope k).memory (block_c more scope k).end (λ m. block_c later scope m))) → (n : ℕ) (k : Memory) (e : End) →
        Alike (following_end n k e (λ m. block_c (more ++ later) scope m))
        (following_end 0 (following_end n k e (λ m. block_c more scope m)).memory (following_end n k e (λ m. block_c more scope m)).end
        (λ m. block_c later scope m))
    by each n k goes_on = each k
    by each n k breaks = (refl, refl)
    by each n k (returns result) = (refl, refl)
    by each n k traps = (refl, refl)

-- what goes on, and then more
pub then_more : (code more : List CStmt) (scope : Scope) (here : Memory) → (block_c code scope here).end ≡ goes_on →
    Alike (block_c (code ++ more) scope here) (block_c more scope (block_c code scope here).memory)
then_more code more scope here goes =
    let o = block_c code scope here in
    let one = as_one code more scope here in
    (one.0 ∙ following_on 0 o.end o.memory (λ m. block_c more scope m) goes, one.1 ∙ following_memory 0 o.end o.memory (λ m. block_c more scope m) goes)

-- a statement that does what some code does that goes on, and then more
pub opened : (s : CStmt) (code more later : List CStmt) (scope : Scope) (here : Memory) →
    Alike (block_c (s ∷ []) scope here) (block_c (code ++ more) scope here) → (block_c code scope here).end ≡ goes_on →
    Alike (block_c (s ∷ later) scope here) (block_c (more ++ later) scope (block_c code scope here).memory)
opened s code more later scope here enters goes =
    let o = runs_c s scope here in
    let middle = (block_c code scope here).memory in
    let inside = then_more code more scope here goes in
    let end : o.end ≡ (block_c more scope middle).end = sym (alone_end s later scope here) ∙ enters.0 ∙ inside.0 in
    let memory : o.memory ≡ (block_c more scope middle).memory = sym (alone_memory s later scope here) ∙ enters.1 ∙ inside.1 in
    let ahead = follow_alike o.count 0 o.memory (block_c more scope middle).memory o.end (block_c more scope middle).end
    (λ m. block_c later scope m) end memory in
    let back = as_one more later scope middle in (ahead.0 ∙ sym back.0, ahead.1 ∙ sym back.1)

-- what traps, and then more
pub then_traps : (code more : List CStmt) (scope : Scope) (here : Memory) → (block_c code scope here).end ≡ traps →
    (block_c (code ++ more) scope here).end ≡ traps
then_traps code more scope here traps_here =
    let o = block_c code scope here in
    (as_one code more scope here).0 ∙ following_traps 0 o.end o.memory (λ m. block_c more scope m) traps_here

-- one statement that goes on, and then others
pub first_done : (s : CStmt) (later : List CStmt) (scope : Scope) (here middle : Memory) → (block_c (s ∷ []) scope here).end ≡ goes_on →
    (block_c (s ∷ []) scope here).memory ≡ middle → Alike (block_c (s ∷ later) scope here) (block_c later scope middle)
first_done s later scope here middle goes is = (
  more_end s later scope here goes ∙ ap (λ (m : Memory). (block_c later scope m).end) is,
  more_memory s later scope here goes ∙ ap (λ (m : Memory). (block_c later scope m).memory) is,
)
