-- Measures in terms of each other.
use Rattle.std.proofs.Common.{◌≡◌, ℕ, zero, suc, ◌+◌, ◌<◌, ◌≤◌, ◌⊎◌, inl, inr, ⊎_elim, max, List, [], ◌∷◌, map, length, get_or, take, Some, None, ap, refl, ◌∙◌}
use Rattle.std.proofs.Common.{arith}
use Rattle.std.specs.Prelude.{Contains, slice_get, slice_index}
use Rattle.std.proofs.lemmas.Bool.{cases_lt}
use Rattle.std.proofs.lemmas.List.{get_or-take, get_or_past, length-take}
use Rattle.std.proofs.lemmas.Option.{slice_get_cases}
use Rattle.bl_tree.specs.declared.tree.Unit.{Unit as UnitDef}
use Rattle.bl_tree.specs.Reduce.{total, greatest}
use Rattle.bl_limits_measures.specs.Calls.{calls_of}
use Rattle.bl_limits_measures.specs.InOrder.{answers}
use Rattle.bl_limits_measures.specs.Laws.{CellsAdd, InstancesAdd, LimitsAreTold, MissingIsNothing, NoChainIsLonger, SomeChainIsAsLong}
use Rattle.bl_limits_measures.specs.Runs.{activities_by_place, activities_run}
use Rattle.bl_limits_measures.specs.Statements.{cell_statements_of}
use Rattle.bl_limits_measures.specs.Types.{struct_sizes}
use Rattle.bl_limits_measures.specs.Units.{all_cells, all_chains, all_instances, cells_by, cells_with, chain_at, chain_by, greatest_at, instances_by, variables_of}
use Rattle.bl_limits_measures.specs.Uses.{IsChain, Uses, UsesEarlierOnly}
use Rattle.bl_limits_measures.proofs.RunLemmas.{placed_all}
use Rattle.bl_limits_measures.proofs.TableLemmas.{answer_at, known_before, length_answers}

pub limits_told : LimitsAreTold
limits_told n limit below = ((λ above. omega arith), (λ above. omega arith))

-- past the end of a table there is nothing
past : (step : List ℕ → UnitDef → ℕ) (units : List UnitDef) (k : ℕ) → length units ≤ k → slice_index (answers step units) k ≡ 0
past step units k over = get_or_past (answers step units) k 0 (let long = length_answers step [] units in omega arith)

pub missing : MissingIsNothing
missing structs units k over = (past instances_by units k over, past chain_by units k over, past (cells_by (struct_sizes structs)) units k over)

-- ---- instances and cells

pub instances_add : InstancesAdd
instances_add units k unit earlier there =
    let its : UsesEarlierOnly k unit = earlier k unit there in
    answer_at instances_by units k unit 0 there ∙ ap (λ numbers. 1 + total numbers) (known_before (all_instances units) k (activities_by_place unit)
    (placed_all (λ j. j < k) unit its.runs))

pub cells_add : CellsAdd
cells_add structs units k unit earlier there =
    let its : UsesEarlierOnly k unit = earlier k unit there in
    let table = all_cells structs units in
    let runs = known_before table k (activities_by_place unit) (placed_all (λ j. j < k) unit its.runs) in
    let calls = known_before table k (calls_of unit) its.calls in
    answer_at (cells_by (struct_sizes structs)) units k unit 0 there
    ∙ (λ i. cells_with unit.kind (variables_of structs unit) (cell_statements_of unit) (total (runs i)) (greatest (calls i)))

-- ---- chains

-- no element has more than the greatest
greatest_has : (f : ℕ → ℕ) (xs : List ℕ) (x : ℕ) → Contains xs x → f x ≤ greatest (map f xs)
greatest_has f [] x (k, within, is) = absurd (omega arith)
greatest_has f (y ∷ xs) x (zero, within, is) = let e : f y ≡ f x = ap f is in omega arith
greatest_has f (y ∷ xs) x (suc k, within, is) = let rest = greatest_has f xs x (k, omega arith, is) in omega arith

-- some element has the greatest, where there is one
pub record Attained (f : ℕ → ℕ) (xs : List ℕ) : Type 0 where
  pub element : ℕ
  pub there : Contains xs element
  pub most : f element ≡ greatest (map f xs)

attained : (f : ℕ → ℕ) (x : ℕ) (xs : List ℕ) → Attained f (x ∷ xs)
attained f x [] = record { element = x; there = (0, omega arith, refl); most = omega arith }
attained f x (y ∷ xs) =
    let rest : Attained f (y ∷ xs) = attained f y xs in
    let n = greatest (map f (y ∷ xs)) in
    ⊎_elim
    (λ (less : f x < n). record {
      element = rest.element;
      there =
          (suc rest.there.0, (let below = rest.there.1 in omega arith), rest.there.2);
      most = (let is = rest.most in omega arith);
    })
    (λ (more : n ≤ f x). record { element = x; there = (0, omega arith, refl); most = omega arith })
    (cases_lt (f x) n)

greatest_attained : (f : ℕ → ℕ) (xs : List ℕ) → (greatest (map f xs) ≡ 0) ⊎ Attained f xs
greatest_attained f [] = inl refl
greatest_attained f (x ∷ xs) = inr (attained f x xs)

-- the chains behind a unit, as far as they are known
abbrev behind : List UnitDef → ℕ → UnitDef → ℕ
behind units k unit = max (greatest_at (take k (all_chains units)) (calls_of unit)) (greatest_at (take k (all_chains units)) (activities_run unit))

chain_is : (units : List UnitDef) (k : ℕ) (unit : UnitDef) → slice_get units k ≡ Some unit → chain_at units k ≡ 1 + behind units k unit
chain_is units k unit there = answer_at chain_by units k unit 0 there

-- a used unit's chain is no longer than what stands behind its user
behind_has : (units : List UnitDef) (k j : ℕ) (uses : Uses units k j) → chain_at units j ≤ behind units k uses.unit
behind_has units k j uses =
    let known = take k (all_chains units) in
    let same : slice_index known j ≡ chain_at units j = get_or-take k (all_chains units) j 0 uses.earlier in
    ⊎_elim
    (λ (called : Contains (calls_of uses.unit) j). let most = greatest_has (slice_index known) (calls_of uses.unit) j called in omega arith)
    (λ (run : Contains (activities_run uses.unit) j). let most = greatest_has (slice_index known) (activities_run uses.unit) j run in omega arith)
    uses.used

pub no_longer : NoChainIsLonger
no_longer units k [] chain =
    ⊎_elim
    (λ (found : (unit : UnitDef) × (k < length units) × (slice_get units k ≡ Some unit) × (get_or units k unit ≡ unit)). let is =
    chain_is units k found.0 found.2 in omega arith)
    (λ (past : (length units ≤ k) × (slice_get units k ≡ None)). absurd (let none = past.0 in let within = chain.0 in omega arith))
    (slice_get_cases units k).1
no_longer units k (j ∷ rest) chain =
    let uses : Uses units k j = chain.0 in
    let longer = no_longer units j rest chain.1 in
    let is = chain_is units k uses.unit uses.there in
    let has = behind_has units k j uses in
    omega arith

-- the unit whose chain is the longest behind another
record Best (f : ℕ → ℕ) (calls runs : List ℕ) : Type 0 where
  position : ℕ
  used : Contains calls position ⊎ Contains runs position
  most : f position ≡ max (greatest (map f calls)) (greatest (map f runs))

best : (f : ℕ → ℕ) (calls runs : List ℕ) → (max (greatest (map f calls)) (greatest (map f runs)) ≡ 0) ⊎ Best f calls runs
best f calls runs =
    ⊎_elim
    (λ (less : greatest (map f calls) < greatest (map f runs)). ⊎_elim
    (λ (none : greatest (map f runs) ≡ 0). absurd (omega arith))
    (λ (at : Attained f runs). inr (record { position = at.element; used = inr at.there; most = (let is = at.most in omega arith) }))
    (greatest_attained f runs))
    (λ (more : greatest (map f runs) ≤ greatest (map f calls)). ⊎_elim
    (λ (none : greatest (map f calls) ≡ 0). inl (omega arith))
    (λ (at : Attained f calls). inr (record { position = at.element; used = inl at.there; most = (let is = at.most in omega arith) }))
    (greatest_attained f calls))
    (cases_lt (greatest (map f calls)) (greatest (map f runs)))

-- what is known past the first positions is nothing
unknown : (table : List ℕ) (k j : ℕ) → k ≤ j → slice_index (take k table) j ≡ 0
unknown table k j past = get_or_past (take k table) j 0 (let long = length-take k table in omega arith)

-- the next unit of the longest chain
record Next (units : List UnitDef) (k : ℕ) : Type 0 where
  position : ℕ
  uses : Uses units k position
  most : chain_at units k ≡ 1 + chain_at units position

next_of : (units : List UnitDef) (k : ℕ) (unit : UnitDef) → slice_get units k ≡ Some unit → (chain_at units k ≡ 1) ⊎ Next units k
next_of units k unit there =
    let known = take k (all_chains units) in
    let is = chain_is units k unit there in
    ⊎_elim
    (λ (none : behind units k unit ≡ 0). inl (omega arith))
    (λ (at : Best (slice_index known) (calls_of unit) (activities_run unit)).
    let most : slice_index known at.position ≡ behind units k unit = at.most in
    ⊎_elim
    (λ (before : at.position < k). inr (record {
      position = at.position;
      uses = record { unit = unit; there = there; used = at.used; earlier = before };
      most = (let same : slice_index known at.position ≡ chain_at units at.position = get_or-take k (all_chains units) at.position 0 before in omega arith);
    }))
    (λ (past : k ≤ at.position). let none = unknown (all_chains units) k at.position past in inl (omega arith))
    (cases_lt at.position k))
    (best (slice_index known) (calls_of unit) (activities_run unit))

as_long_below : (n : ℕ) (units : List UnitDef) (k : ℕ) → k < n → k < length units →
    (rest : List ℕ) × (IsChain units (k ∷ rest)) × (length (k ∷ rest) ≡ chain_at units k)
as_long_below zero units k below within = absurd (omega arith)
as_long_below (suc n) units k below within =
    ⊎_elim
    (λ (found : (unit : UnitDef) × (k < length units) × (slice_get units k ≡ Some unit) × (get_or units k unit ≡ unit)).
    ⊎_elim
    (λ (alone : chain_at units k ≡ 1). ([], (within, tt), omega arith))
    (λ (next : Next units k).
    let before : next.position < k = next.uses.earlier in
    let more = as_long_below n units next.position (omega arith) (omega arith) in
    let long : length (next.position ∷ more.0) ≡ chain_at units next.position = more.2 in
    let most = next.most in
    (next.position ∷ more.0, (next.uses, more.1), omega arith))
    (next_of units k found.0 found.2))
    (λ (past : (length units ≤ k) × (slice_get units k ≡ None)). absurd (let none = past.0 in omega arith))
    (slice_get_cases units k).1

pub some_chain : SomeChainIsAsLong
some_chain units k within = as_long_below (k + 1) units k (omega arith) within
