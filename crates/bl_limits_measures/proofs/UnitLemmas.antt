-- The measures of units, with one unit more.
use Rattle.std.proofs.Common.{◌≡◌, ℕ, ◌+◌, ◌<◌, List, [], ◌∷◌, ◌++◌, map, length, get_or, take, refl, ap, sym, subst, ◌∙◌, arith}
use Rattle.std.specs.Prelude.{slice_index}
use Rattle.std.proofs.lemmas.List.{map-append}
use Rattle.bl_tree.specs.declared.tree.StructDef.{StructDef}
use Rattle.bl_tree.specs.declared.tree.Unit.{Unit as UnitDef}
use Rattle.bl_tree.specs.declared.tree.UnitKind.{UnitKind}
use Rattle.bl_tree.specs.declared.tree.UnitKind.TheVariants.{Function, Activity}
use Rattle.bl_limits_measures.specs.declared.measures.Measures.{Measures}
use Rattle.bl_limits_measures.specs.Calls.{calls_of}
use Rattle.bl_limits_measures.specs.Runs.{activities_by_place, activities_run}
use Rattle.bl_limits_measures.specs.Saturated.{saturated}
use Rattle.bl_limits_measures.specs.Statements.{cell_statements_of}
use Rattle.bl_limits_measures.specs.Tells.{MeasuresTell}
use Rattle.bl_limits_measures.specs.Types.{size_by, struct_sizes}
use Rattle.bl_limits_measures.specs.Units.{cells_by, cells_with, chain_by, greatest_at, instances_by, total_at, variables_by, variables_of}
use Rattle.bl_limits_measures.proofs.Numbers.{greatest_alike, known_twice, max_alike, sum_alike, total_alike}
use Rattle.bl_limits_measures.proofs.Orders.{Respects, take_one, told_push}
use Rattle.bl_limits_measures.proofs.TypeLemmas.{size_alike}

pub total_at_alike : (known positions : List ℕ) → saturated (total_at (map saturated known) positions) ≡ saturated (total_at known positions)
total_at_alike known = total_alike (slice_index (map saturated known)) (slice_index known) (known_twice known)

pub greatest_at_alike : (known positions : List ℕ) → saturated (greatest_at (map saturated known) positions) ≡ saturated (greatest_at known positions)
greatest_at_alike known = greatest_alike (slice_index (map saturated known)) (slice_index known) (known_twice known)

pub variables_alike : (sizes : List ℕ) (unit : UnitDef) → saturated (variables_by (map saturated sizes) unit) ≡ saturated (variables_by sizes unit)
variables_alike sizes unit = total_alike (λ var. size_by (map saturated sizes) var.ty) (λ var. size_by sizes var.ty)
    (λ var. size_alike sizes var.ty) unit.vars

pub instances_respects : Respects instances_by
instances_respects known unit = sum_alike 1 1 _ _ refl (total_at_alike known (activities_by_place unit))

pub chain_respects : Respects chain_by
chain_respects known unit = sum_alike 1 1 _ _ refl (max_alike _ _ _ _ (greatest_at_alike known (calls_of unit)) (greatest_at_alike known (activities_run unit)))

-- cells go by their parts as far as 64 bits tell them
pub cells_alike : (kind : UnitKind) (a b c d e f g : ℕ) → saturated a ≡ saturated e → saturated c ≡ saturated f → saturated d ≡ saturated g
    → saturated (cells_with kind a b c d) ≡ saturated (cells_with kind e b f g)
cells_alike Function a b c d e f g va vc vd = omega arith
cells_alike Activity a b c d e f g va vc vd = omega arith

-- the cells of a unit by sizes that are told as far as 64 bits tell them
cells_sizes : (sizes known : List ℕ) (unit : UnitDef) → saturated (cells_by (map saturated sizes) known unit) ≡ saturated (cells_by sizes known unit)
cells_sizes sizes known unit = cells_alike unit.kind _ _ _ _ _ _ _ (variables_alike sizes unit) refl refl

-- and by such cells
cells_respects : (sizes : List ℕ) → Respects (cells_by sizes)
cells_respects sizes known unit = cells_alike unit.kind _ _ _ _ _ _ _ refl (total_at_alike known (activities_by_place unit)) (greatest_at_alike known (calls_of unit))

-- one element more of a list that goes by each element alone
mapped_push : {X : Type 0} (f : X → ℕ) (held then : List ℕ) (xs : List X) (x : X) (n : ℕ) → held ≡ map f xs →
    then ≡ held ++ n ∷ [] → n ≡ f x → then ≡ map f (xs ++ x ∷ [])
mapped_push f held then xs x n told grown is =
    grown ∙ ap (λ front. front ++ n ∷ []) told ∙ ap (λ last. map f xs ++ last ∷ []) is ∙ sym (map-append f xs (x ∷ []))

-- what the measures tell with one unit more
pub tells_more : (structs : List StructDef) (units : List UnitDef) (unit : UnitDef) (before after : Measures) → MeasuresTell before structs units
    → after.struct_sizes ≡ before.struct_sizes
    → after.struct_nestings ≡ before.struct_nestings
    → after.variables ≡ before.variables ++ saturated (variables_by before.struct_sizes unit) ∷ []
    → after.statements ≡ before.statements ++ saturated (cell_statements_of unit) ∷ []
    → after.instances ≡ before.instances ++ saturated (instances_by before.instances unit) ∷ []
    → after.chains ≡ before.chains ++ saturated (chain_by before.chains unit) ∷ []
    → after.cells ≡ before.cells ++ saturated (cells_by before.struct_sizes before.cells unit) ∷ []
    → MeasuresTell after structs (units ++ unit ∷ [])
tells_more structs units unit before after told sizes nestings variables statements instances chains cells =
    let exact = struct_sizes structs in
    record {
      sizes = sizes ∙ told.sizes;
      nestings = nestings ∙ told.nestings;
      variables = mapped_push (λ u. saturated (variables_of structs u)) before.variables after.variables units unit
          (saturated (variables_by before.struct_sizes unit)) told.variables variables
          (ap (λ known. saturated (variables_by known unit)) told.sizes ∙ variables_alike exact unit);
      statements = mapped_push (λ u. saturated (cell_statements_of u)) before.statements after.statements units unit
          (saturated (cell_statements_of unit)) told.statements statements refl;
      instances = told_push instances_by before.instances after.instances units unit instances_respects told.instances instances;
      chains = told_push chain_by before.chains after.chains units unit chain_respects told.chains chains;
      cells = told_push (cells_by exact) before.cells after.cells units unit (cells_respects exact) told.cells
          (cells ∙ ap (λ n. before.cells ++ n ∷ []) (ap (λ known. saturated (cells_by known before.cells unit)) told.sizes
          ∙ cells_sizes exact before.cells unit));
    }

-- the same in a loop over the units
pub tells_next : (structs : List StructDef) (units : List UnitDef) (k : ℕ) (unit : UnitDef) (after : Measures) → k < length units →
    unit ≡ get_or units k unit
    → MeasuresTell after structs (take k units ++ unit ∷ []) → MeasuresTell after structs (take (k + 1) units)
tells_next structs units k unit after within is told = subst (MeasuresTell after structs) (sym (take_one units k unit within is)) told
