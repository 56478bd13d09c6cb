-- The costs of statements and functions over tables that tell the same.
use Rattle.std.proofs.Common.{◌≡◌, ℕ, ◌+◌, ◌*◌, ◌^◌, ◌<◌, ◌≤◌, Bool, true, false, List, [], ◌∷◌, ◌++◌, map, length, get_or, drop, Option, Some, None, refl}
use Rattle.std.proofs.Common.{ap, sym, subst, ◌∙◌, append_assoc, arith}
use Rattle.std.specs.Prelude.{All, bytes_eq, nat_lt, option_map, if◌then◌else◌}
use Rattle.std.specs.Option.{option_or}
use Rattle.std.proofs.lemmas.Bool.{le-ltb, lt-ltb, ltb-false, ltb-true}
use Rattle.std.proofs.lemmas.List.{append-nil, drop_all}
use Rattle.std.proofs.lemmas.List.Elements.{All-head, All-tail}
use Rattle.bl_tree.proofs.Basics.{drop_next}
use Rattle.bl_tree.specs.declared.text.Text.{Text}
use Rattle.bl_tree.specs.declared.place.Place.{Place}
use Rattle.bl_tree.specs.declared.c.CExpr.{CExpr}
use Rattle.bl_tree.specs.declared.c.CFunc.{CFunc}
use Rattle.bl_tree.specs.declared.c.CStmt.{CStmt, fold-roll-CStmt}
use Rattle.bl_tree.specs.declared.c.CStmtKind.{fold-roll-CStmtKind}
use Rattle.bl_tree.specs.declared.c.CStmtKind.TheOpen.{CStmtKind-F}
use Rattle.bl_tree.specs.Reduce.{total}
use Rattle.bl_ctext_semantics.specs.Calls.{calls_in, calls_in_call, calls_in_place, calls_or_none}
use Rattle.bl_ctext_semantics.specs.Cost.{Costs, block_cost, cost_of_calls, cost_of_function, cost_of_stmt, costs, costs_after}
use Rattle.bl_ctext_semantics.specs.Course.{turn_limit}
use Rattle.bl_ctext_semantics.specs.Tables.{Table, with_entry}
use Rattle.bl_ctext_semantics.proofs.Induction.{Optional, StmtCases, induct_stmt, stmt}
use Rattle.bl_bound.specs.declared.cost.Cost.{Cost}
use Rattle.bl_bound.specs.declared.cost.Cost.TheVariants.{Number, Over}
use Rattle.bl_bound.specs.inner.Capped.{amount, amounts, capped}
use Rattle.bl_bound.specs.Told.{reported_cost}
use Rattle.bl_bound.proofs.CapLemmas.{AlikeCapped, amount-capped, calls-alike, capped-twice, max-alike, sum-alike, sum-next, total-alike, with-alike}

-- ---- blocks

-- one more statement
pub block-next : (known : Costs) (xs : List CStmt) (k : ℕ) (x : CStmt) (so_far here more all : ℕ) → k < length xs → x ≡ get_or xs k x →
    here ≡ capped (cost_of_stmt x known) → more ≡ capped (so_far + here) →
    capped (so_far + block_cost (map cost_of_stmt (drop k xs)) known) ≡ all →
    capped (more + block_cost (map cost_of_stmt (drop (k + 1) xs)) known) ≡ all
block-next known xs k x so_far here more all within is e told h =
    sum-next so_far here more (cost_of_stmt x known) (block_cost (map cost_of_stmt (drop (k + 1) xs)) known) all e told
    (subst (λ l. capped (so_far + block_cost (map cost_of_stmt l) known) ≡ all) (drop_next xs k x within is) h)

-- all of them
pub block-done : (known : Costs) (xs : List CStmt) (k : ℕ) (cost : Cost) (all : ℕ) → length xs ≤ k →
    capped (amount cost + block_cost (map cost_of_stmt (drop k xs)) known) ≡ all → amount cost ≡ all
block-done known xs k cost all past h =
    let last : capped (amount cost + 0) ≡ all =
    subst (λ l. capped (amount cost + block_cost (map cost_of_stmt l) known) ≡ all) (drop_all k xs past) h in
    omega (arith, amount-capped cost)

-- a function costs what its block costs
pub function-block : (known : Costs) (body : List CStmt) → block_cost (map cost_of_stmt body) known ≡ total (map (λ s. cost_of_stmt s known) body)
function-block known [] = refl
function-block known (s ∷ body) = ap (λ n. cost_of_stmt s known + n) (function-block known body)

-- ---- tables that tell the same

module _ (s t : Costs) (alike : AlikeCapped s t) where
  abbrev OfStmt : CStmt → Type 0
  OfStmt stmt = capped (cost_of_stmt stmt s) ≡ capped (cost_of_stmt stmt t)

  block-alike : (block : List CStmt) → All OfStmt block →
      capped (block_cost (map cost_of_stmt block) s) ≡ capped (block_cost (map cost_of_stmt block) t)
  block-alike [] h = refl
  block-alike (x ∷ block) h =
      sum-alike (cost_of_stmt x s) (cost_of_stmt x t) (block_cost (map cost_of_stmt block) s) (block_cost (map cost_of_stmt block) t)
      (All-head OfStmt x block h) (block-alike block (All-tail OfStmt x block h))

  begun-alike : (a b : ℕ) → capped a ≡ capped b → capped (1 + a) ≡ capped (1 + b)
  begun-alike a b e = omega arith

  turns-alike : (a b : ℕ) → capped a ≡ capped b → capped ((turn_limit + 1) * a) ≡ capped ((turn_limit + 1) * b)
  unfolding turn_limit
  turns-alike a b e = omega arith

  names-alike : (names : List Text) → capped (cost_of_calls s names) ≡ capped (cost_of_calls t names)
  names-alike = calls-alike s t alike

  stmt_cases : StmtCases OfStmt
  stmt_cases = record {
    set = λ at p e.
        rw (fold-roll-CStmt, fold-roll-CStmtKind)
        (begun-alike _ _ (sum-alike _ _ _ _ (names-alike (calls_in_place p)) (names-alike (calls_in e))));
    clear = λ at p name.
        rw (fold-roll-CStmt, fold-roll-CStmtKind) (begun-alike _ _ (names-alike (calls_in_place p)));
    call = λ at c.
        rw (fold-roll-CStmt, fold-roll-CStmtKind) (begun-alike _ _ (names-alike (calls_in_call c)));
    branching = of_if;
    loop = λ at turn e body h.
        rw (fold-roll-CStmt, fold-roll-CStmtKind)
        (begun-alike _ _ (turns-alike _ _ (begun-alike _ _ (sum-alike _ _ _ _ (names-alike (calls_in e)) (block-alike body h)))));
    break = λ at. rw (fold-roll-CStmt, fold-roll-CStmtKind) refl;
    returns = λ at e.
        rw (fold-roll-CStmt, fold-roll-CStmtKind) (begun-alike _ _ (names-alike (calls_or_none e)));
  }
    where
      of_if : (at : Place) (e : CExpr) (block : List CStmt) (other : Option (List CStmt)) → All OfStmt block → Optional (All OfStmt) other →
          OfStmt (stmt at (CStmtKind-F.If e block other))
      of_if at e block None h r =
          rw (fold-roll-CStmt, fold-roll-CStmtKind)
          (begun-alike _ _ (sum-alike _ _ _ _ (names-alike (calls_in e)) (max-alike _ _ _ _ (block-alike block h) refl)))
      of_if at e block (Some other) h r =
          rw (fold-roll-CStmt, fold-roll-CStmtKind)
          (begun-alike _ _ (sum-alike _ _ _ _ (names-alike (calls_in e)) (max-alike _ _ _ _ (block-alike block h) (block-alike other r))))

  pub function-alike : (f : CFunc) → capped (cost_of_function s f) ≡ capped (cost_of_function t f)
  function-alike f = total-alike (λ x. cost_of_stmt x s) (λ x. cost_of_stmt x t) (induct_stmt OfStmt stmt_cases) f.body

-- ---- what is told

pub told-small : (n : ℕ) → n < 2 ^ 128 → reported_cost n ≡ Number n
told-small n h = ap (λ b. if b then Number n else Over) (lt-ltb n (2 ^ 128) h)

pub told-large : (n : ℕ) → 2 ^ 128 ≤ n → reported_cost n ≡ Over
told-large n h = ap (λ b. if b then Number n else Over) (le-ltb n (2 ^ 128) h)

-- what is told of two numbers that costs tell alike
pub told-alike : (m n : ℕ) → capped m ≡ capped n → reported_cost m ≡ reported_cost n
told-alike m n e =
    elim (nat_lt m (2 ^ 128)) as (λ small. nat_lt m (2 ^ 128) ≡ small → reported_cost m ≡ reported_cost n) [
      | true ↦ λ is. let less = ltb-true m (2 ^ 128) is in let same : m ≡ n = omega (arith, less) in ap reported_cost same
      | false ↦ λ is. let least = ltb-false m (2 ^ 128) is in let other : 2 ^ 128 ≤ n = omega (arith, least) in
          told-large m least ∙ sym (told-large n other)
    ] refl

-- a cost whose number 128 bits hold
abbrev pub Fits : Cost → Type 0
Fits (Number n) = n < 2 ^ 128
Fits Over = Unit {0}

-- what a cost tells that stands for a number
pub told-of : (cost : Cost) (n : ℕ) → Fits cost → amount cost ≡ capped n → cost ≡ reported_cost n
told-of (Number m) n fits e = let same : m ≡ n = omega (arith, fits) in ap Number same ∙ sym (told-small n (omega (arith, fits, same)))
told-of Over n fits e = sym (told-large n (omega arith))

-- the number that is told
pub amount-told : (n : ℕ) → amount (reported_cost n) ≡ capped n
amount-told n =
    elim (nat_lt n (2 ^ 128)) as (λ small. nat_lt n (2 ^ 128) ≡ small → amount (reported_cost n) ≡ capped n) [
      | true ↦ λ is. ap amount (told-small n (ltb-true n (2 ^ 128) is))
      | false ↦ λ is. let least = ltb-false n (2 ^ 128) is in
          let full : 2 ^ 128 ≡ capped n = omega (arith, least) in ap amount (told-large n least) ∙ full
    ] refl

-- ---- a list of functions

-- what is told of each of these functions over the costs of earlier ones
abbrev pub told_after : Costs → List CFunc → List Cost
told_after known functions = map (λ cost. reported_cost cost.1) (costs_after known functions)

pub told_after-alike : (s t : Costs) → AlikeCapped s t → (functions : List CFunc) → told_after s functions ≡ told_after t functions
told_after-alike s t alike [] = refl
told_after-alike s t alike (f ∷ functions) =
    let same = function-alike s t alike f in
    ap (λ cost. cost ∷ told_after (with_entry s f.name (cost_of_function s f)) functions) (told-alike (cost_of_function s f) (cost_of_function t f) same)
    ∙ ap (λ rest. reported_cost (cost_of_function t f) ∷ rest)
    (told_after-alike (with_entry s f.name (cost_of_function s f)) (with_entry t f.name (cost_of_function t f))
    (with-alike s t f.name (cost_of_function s f) (cost_of_function t f) alike same) functions)

-- the costs in a map with one more
mapped : (old : Option Cost) (same : Bool) (cost : Cost) →
    option_map amount (option_or old (if same then Some cost else None)) ≡ option_or (option_map amount old) (if same then Some (amount cost) else None)
mapped (Some a) same cost = refl
mapped None true cost = refl
mapped None false cost = refl

-- one more function
pub costs-next : (old new : Table Cost) (functions : List CFunc) (k : ℕ) (f : CFunc) (cost : Cost) (told_so_far more all : List Cost) →
    k < length functions → f ≡ get_or functions k f →
    cost ≡ reported_cost (cost_of_function (amounts old) f) →
    ((asked : Text) → new asked ≡ with_entry old f.name cost asked) → more ≡ told_so_far ++ cost ∷ [] →
    told_so_far ++ told_after (amounts old) (drop k functions) ≡ all →
    more ++ told_after (amounts new) (drop (k + 1) functions) ≡ all
costs-next old new functions k f cost told_so_far more all within is e add grown h =
    let n = cost_of_function (amounts old) f in
    let rest = drop (k + 1) functions in
    let exact : amount cost ≡ capped n = ap amount e ∙ amount-told n in
    let alike : AlikeCapped (amounts new) (with_entry (amounts old) f.name n) =
    λ asked. ap (λ c. option_map capped (option_map amount c)) (add asked)
    ∙ ap (option_map capped) (mapped (old asked) (bytes_eq f.name asked) cost)
    ∙ with-alike (amounts old) (amounts old) f.name (amount cost) n (λ a. refl) (ap capped exact ∙ capped-twice n) asked in
    let whole : told_so_far ++ (reported_cost n ∷ told_after (with_entry (amounts old) f.name n) rest) ≡ all =
    subst (λ l. told_so_far ++ told_after (amounts old) l ≡ all) (drop_next functions k f within is) h in
    ap (λ l. l ++ told_after (amounts new) rest) grown
    ∙ append_assoc told_so_far (cost ∷ []) (told_after (amounts new) rest)
    ∙ ap (λ l. told_so_far ++ cost ∷ l) (told_after-alike (amounts new) (with_entry (amounts old) f.name n) alike rest)
    ∙ ap (λ c. told_so_far ++ c ∷ told_after (with_entry (amounts old) f.name n) rest) e
    ∙ whole

-- all of them
pub costs-done : (known : Costs) (functions : List CFunc) (k : ℕ) (told_so_far all : List Cost) → length functions ≤ k →
    told_so_far ++ told_after known (drop k functions) ≡ all → told_so_far ≡ all
costs-done known functions k told_so_far all past h =
    sym (append-nil told_so_far) ∙ subst (λ l. told_so_far ++ told_after known l ≡ all) (drop_all k functions past) h
