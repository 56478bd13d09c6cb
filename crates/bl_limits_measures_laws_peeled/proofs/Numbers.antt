-- Peeled units count what the units of the source count.
use Rattle.std.proofs.Common.{◌≡◌, ◌∙◌, ℕ, ◌+◌, max, List, [], ◌∷◌, ◌++◌, take, ap, ap₂, arith, refl, subst, suc, sym, zero}
use Rattle.std.specs.Prelude.{Some, slice_get, slice_index}
use Rattle.bl_tree.specs.declared.tree.StructDef.{StructDef}
use Rattle.bl_tree.specs.declared.tree.Unit.{Unit as UnitDef}
use Rattle.bl_tree.specs.Reduce.{joined}
use Rattle.bl_limits_measures.specs.Calls.{arm_calls, branch_calls, calls_in_expr, calls_of, stmt_kind_calls}
use Rattle.bl_limits_measures.specs.InOrder.{answers, answers_after}
use Rattle.bl_limits_measures.specs.Runs.{activities_by_place, activities_run}
use Rattle.bl_limits_measures.specs.Statements.{cell_statements_of}
use Rattle.bl_limits_measures.specs.Types.{struct_sizes}
use Rattle.bl_limits_measures.specs.Units.{cells_by, cells_with, chain_by, greatest_at, instances_by, total_at, variables_by}
use Rattle.bl_limits_measures.proofs.RunLemmas.{activities_are, arm_activities, branch_activities, kind_activities}
use Rattle.bl_limits_measures.proofs.TableLemmas.{answer_at}
use Rattle.bl_limits_measures_laws.proofs.InstanceLemmas.{named, units_of}
use Rattle.bl_limits_measures_laws_peeled.specs.Laws.{CellsAreOfSource, ChainsAreOfSource, InstancesAreOfSource, cells_of_source}
use Rattle.bl_limits_measures_laws_peeled.proofs.Greatest.{NamesParts, Naming, most, most_both, peeled_names}
use Rattle.bl_peel.specs.Peeled.{peeled}
use Rattle.bl_peel.specs.Units.{UnitPeels, UnitsPeel, is_peeled, kept, more_units, no_units}
use Rattle.bl_ctree_laws_peeled.proofs.Programs.{peeled_unit_runs}

-- ---- what a body names

abbrev calls_naming : Naming
calls_naming = record { kind = stmt_kind_calls; arm = arm_calls; branch = branch_calls; test = calls_in_expr }

max_swap : (a b : ℕ) → max a b ≡ max b a
max_swap a b = omega arith

calls_parts : (f : ℕ → ℕ) → NamesParts f calls_naming
calls_parts f = record {
  arm = λ e body. most_both f (calls_in_expr e) (joined body);
  branch = λ weak body. refl;
  branching = λ arms other. most_both f (joined arms) (joined other);
  cobegin = λ branches. refl;
  when = λ guard e body. most_both f (calls_in_expr e) (joined body);
  repeat = λ body. refl;
  until = λ body e. most_both f (joined body) (calls_in_expr e) ∙ max_swap (most f (joined body)) (most f (calls_in_expr e));
  while = λ e body. most_both f (calls_in_expr e) (joined body);
}

abbrev runs_naming : Naming
runs_naming = record { kind = kind_activities; arm = arm_activities; branch = branch_activities; test = λ e. [] }

none_less : (a : ℕ) → a ≡ max 0 a
none_less a = omega arith

runs_parts : (f : ℕ → ℕ) → NamesParts f runs_naming
runs_parts f = record {
  arm = λ e body. none_less (most f (joined body));
  branch = λ weak body. refl;
  branching = λ arms other. most_both f (joined arms) (joined other);
  cobegin = λ branches. refl;
  when = λ guard e body. none_less (most f (joined body));
  repeat = λ body. refl;
  until = λ body e. none_less (most f (joined body));
  while = λ e body. none_less (most f (joined body));
}

abbrev with_peeled : UnitDef → UnitDef
with_peeled unit = record unit { body = peeled unit.body }

calls_greatest : (known : List ℕ) (unit : UnitDef) → greatest_at known (calls_of (with_peeled unit)) ≡ greatest_at known (calls_of unit)
calls_greatest known unit = peeled_names (slice_index known) calls_naming (calls_parts (slice_index known)) unit.body

runs_greatest : (known : List ℕ) (unit : UnitDef) → greatest_at known (activities_run (with_peeled unit)) ≡ greatest_at known (activities_run unit)
runs_greatest known unit =
    ap (greatest_at known) (activities_are (with_peeled unit)) ∙ peeled_names (slice_index known) runs_naming (runs_parts (slice_index known)) unit.body
    ∙ sym (ap (greatest_at known) (activities_are unit))

placed_same : (unit : UnitDef) → activities_by_place (with_peeled unit) ≡ activities_by_place unit
placed_same unit = sym (named (with_peeled unit)) ∙ ap units_of (peeled_unit_runs unit) ∙ named unit

-- ---- units

instances_same : (known : List ℕ) {unit tree : UnitDef} → UnitPeels unit tree → instances_by known tree ≡ instances_by known unit
instances_same known kept = refl
instances_same known (is_peeled {unit} other) = ap (λ runs. 1 + total_at known runs) (placed_same unit)

chain_same : (known : List ℕ) {unit tree : UnitDef} → UnitPeels unit tree → chain_by known tree ≡ chain_by known unit
chain_same known kept = refl
chain_same known (is_peeled {unit} other) = ap₂ (λ a b. 1 + max a b) (calls_greatest known unit) (runs_greatest known unit)

answers_same : (step : List ℕ → UnitDef → ℕ) (same : (known : List ℕ) (unit tree : UnitDef) → UnitPeels unit tree → step known tree ≡ step known unit)
    (known : List ℕ) {units trees : List UnitDef} → UnitsPeel units trees → answers_after step known trees ≡ answers_after step known units
answers_same step same known no_units = refl
answers_same step same known (more_units {unit} {peeled_unit} {units} {peeled_units} one more) =
    ap (λ n. answers_after step (known ++ n ∷ []) peeled_units) (same known unit peeled_unit one)
    ∙ answers_same step same (known ++ step known unit ∷ []) more

pub instances_are : InstancesAreOfSource
instances_are units trees k peels = ap (λ all. slice_index all k) (answers_same instances_by (λ known unit tree one. instances_same known one) [] peels)

pub chains_are : ChainsAreOfSource
chains_are units trees k peels = ap (λ all. slice_index all k) (answers_same chain_by (λ known unit tree one. chain_same known one) [] peels)

-- ---- cells

cells_same : (structs : List StructDef) (known : List ℕ) {unit tree : UnitDef} → UnitPeels unit tree →
    cells_by (struct_sizes structs) known tree ≡ cells_of_source structs known unit tree
cells_same structs known kept = refl
cells_same structs known (is_peeled {unit} other) =
    ap₂ (λ running calling. cells_with unit.kind (variables_by (struct_sizes structs) unit) (cell_statements_of (with_peeled unit)) running calling)
    (ap (total_at known) (placed_same unit)) (calls_greatest known unit)

peels_at : {units trees : List UnitDef} → UnitsPeel units trees → (k : ℕ) (x y : UnitDef) → slice_get units k ≡ Some x → slice_get trees k ≡ Some y →
    UnitPeels x y
peels_at no_units zero x y found other = absurd cc
peels_at no_units (suc k) x y found other = absurd cc
peels_at (more_units {unit} {peeled_unit} one more) zero x y found other =
    let same : unit ≡ x = cc in
    let other_same : peeled_unit ≡ y = cc in
    subst (λ (z : UnitDef). UnitPeels z y) same (subst (λ (z : UnitDef). UnitPeels unit z) other_same one)
peels_at (more_units one more) (suc k) x y found other = peels_at more k x y found other

pub cells_are : CellsAreOfSource
cells_are structs units trees k unit tree peels found other =
    answer_at (cells_by (struct_sizes structs)) trees k tree 0 other
    ∙ cells_same structs (take k (answers (cells_by (struct_sizes structs)) trees)) (peels_at peels k unit tree found other)
