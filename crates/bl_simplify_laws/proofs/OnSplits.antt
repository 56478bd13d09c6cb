-- Blocks that do the same, and what follows an `if`.
use Rattle.std.proofs.Common.{◌≡◌, ℕ, ◌+◌, Bool, true, false, List, [], ◌∷◌, ◌++◌, map, Option, Some, None, refl, ap, sym, ◌∙◌}
use Rattle.std.specs.Prelude.{if◌then◌else◌}
use Rattle.bl_tree.specs.Numbers.{is_one}
use Rattle.bl_tree.specs.declared.place.Place.{Place}
use Rattle.bl_tree.specs.declared.c.CExpr.{CExpr}
use Rattle.bl_tree.specs.declared.c.CStmt.{CStmt, fold-roll-CStmt}
use Rattle.bl_tree.specs.declared.c.CStmtKind.{fold-roll-CStmtKind}
use Rattle.bl_ctext_semantics.specs.Course.{End, goes_on, breaks, returns, traps, following, following_end}
use Rattle.bl_ctext_semantics.specs.Meaning.{CStmtMeaning, Scope, block_c, block_of, executed, runs_c, value_c}
use Rattle.bl_ctext_semantics.specs.Memory.{Memory, scalar_number}
use Rattle.bl_simplify_laws.specs.Observed.{observed, observed_at}
use Rattle.bl_simplify_laws.specs.Splits.{BlocksJoin, BranchesDecide, Splits, branch, if_stmt}
use Rattle.bl_simplify_laws.proofs.OnOutcomes.{append-by, ended-same, following-same, split-by}

-- a block and a further one
pub block-append : (scope : Scope) (a c : List CStmt) (m : Memory) → observed (block_c (a ++ c) scope m) ≡ observed
    (following (block_c a scope m) (block_c c scope))
block-append scope [] c m = refl
block-append scope (s ∷ a) c m =
    append-by (runs_c s scope m).count (runs_c s scope m).memory (runs_c s scope m).end (block_c (a ++ c) scope) (block_c a scope) (block_c c scope)
    (block-append scope a c)

pub blocks-join : BlocksJoin
blocks-join scope memory a b c d h k =
    block-append scope a c memory ∙ following-same (block_c a scope memory) (block_c b scope memory) (block_c c scope) (block_c d scope) h k
    ∙ sym (block-append scope b d memory)

-- a block of one statement does what that does
pub alone : (scope : Scope) (s : CStmt) (m : Memory) → observed (block_c (s ∷ []) scope m) ≡ observed (runs_c s scope m)
alone scope s m = by (runs_c s scope m).count (runs_c s scope m).memory (runs_c s scope m).end
  where
    by : (n : ℕ) (k : Memory) (e : End) → observed (following_end n k e (block_c [] scope)) ≡ observed_at e k
    by n k goes_on = refl
    by n k breaks = refl
    by n k (returns r) = refl
    by n k traps = refl

-- ---- branches

-- what is chosen does the same where each branch does
chosen-same : (scope : Scope) (m : Memory) (b : Bool) (f g h k : CStmtMeaning) → observed (f scope m) ≡ observed (g scope m) →
    observed (h scope m) ≡ observed (k scope m) →
    observed ((if b then f else h) scope m) ≡ observed ((if b then g else k) scope m)
chosen-same scope m true f g h k p q = p
chosen-same scope m false f g h k p q = q

-- the same, where the further statements follow what is chosen
chosen-append : (scope : Scope) (m : Memory) (b : Bool) (block other rest : List CStmt) →
    observed ((if b then block_of (map runs_c (block ++ rest)) else block_of (map runs_c (other ++ rest))) scope m)
    ≡ observed (following ((if b then block_of (map runs_c block) else block_of (map runs_c other)) scope m) (block_c rest scope))
chosen-append scope m true block other rest = block-append scope block rest m
chosen-append scope m false block other rest = block-append scope other rest m

-- an `if`: its condition, and what is chosen
pub if-is : (at : Place) (condition : CExpr) (block : List CStmt) (other : Option (List CStmt)) (scope : Scope) (m : Memory) →
    runs_c (if_stmt at condition block other) scope m
    ≡ executed m (value_c condition scope m) (λ v. (if is_one (scalar_number v) then block_c block else block_c (branch other)) scope m)
if-is at condition block None scope m = rw (fold-roll-CStmt, fold-roll-CStmtKind) refl
if-is at condition block (Some other) scope m = rw (fold-roll-CStmt, fold-roll-CStmtKind) refl

pub branches-decide : BranchesDecide
branches-decide scope memory at to condition block new other newer h k =
    ap observed (if-is at condition block other scope memory)
    ∙ ended-same memory (1 + (value_c condition scope memory).count) (1 + (value_c condition scope memory).count) (value_c condition scope memory).answer
    (value_c condition scope memory).answer (λ v. (if is_one (scalar_number v) then block_c block else block_c (branch other)) scope memory)
    (λ v. (if is_one (scalar_number v) then block_c new else block_c (branch newer)) scope memory) refl
    (λ v. chosen-same scope memory (is_one (scalar_number v)) (block_c block) (block_c new) (block_c (branch other)) (block_c (branch newer)) h k)
    ∙ sym (ap observed (if-is to condition new newer scope memory))

pub splits : Splits
splits scope memory at to condition block other rest =
    sym
    (alone scope (if_stmt to condition (block ++ rest) (Some (branch other ++ rest))) memory
    ∙ ap observed (if-is to condition (block ++ rest) (Some (branch other ++ rest)) scope memory)
    ∙ split-by memory (1 + (value_c condition scope memory).count) (1 + (value_c condition scope memory).count) (value_c condition scope memory).answer
    (λ v. (if is_one (scalar_number v) then block_c block else block_c (branch other)) scope memory)
    (λ v. (if is_one (scalar_number v) then block_c (block ++ rest) else block_c (branch other ++ rest)) scope memory) (block_c rest scope)
    (λ v. chosen-append scope memory (is_one (scalar_number v)) block (branch other) rest)
    ∙ sym (ap (λ o. observed (following o (block_c rest scope))) (if-is at condition block other scope memory)))
