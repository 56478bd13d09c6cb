-- The laws of a whole program.
use Rattle.std.proofs.Common.{◌≡◌, ℕ, ◌≤◌, List, take, sym, subst, arith}
use Rattle.bl_tree.specs.declared.tree.StructDef.{StructDef}
use Rattle.bl_tree.specs.declared.tree.Unit.{Unit as UnitDef}
use Rattle.bl_tree.specs.declared.tree.UnitKind.{UnitKind}
use Rattle.bl_tree.specs.declared.tree.UnitKind.TheVariants.{Function, Activity}
use Rattle.bl_tree.specs.Typing.{site_of}
use Rattle.bl_limits_measures.specs.Calls.{calls_of}
use Rattle.bl_limits_measures.specs.Runs.{activities_by_place}
use Rattle.bl_limits_measures.specs.Statements.{cell_statements_of}
use Rattle.bl_limits_measures.specs.Types.{struct_sizes}
use Rattle.bl_limits_measures.specs.Units.{all_cells, cells_at, cells_by, cells_with, greatest_at, total_at, variables_of}
use Rattle.bl_limits_measures.proofs.TableLemmas.{answer_at}
use Rattle.bl_emit_functions.specs.Functions.{none_taken}
use Rattle.bl_emit_acts_laws_wellformed.proofs.OnFormed.Units.{vars_stand}
use Rattle.bl_emit_functions_laws_wellformed.specs.Numbered.{CellsNumber, CountsNumber, TypesHaveScalars, UnitsCounted}
use Rattle.bl_emit_functions_laws_wellformed.proofs.OnNumbered.Counts.{body_takes}
use Rattle.bl_emit_functions_laws_wellformed.proofs.OnNumbered.Scalars.{size-positive, vars-counted}

pub types : (structs : List StructDef) (units : List UnitDef) (entry : ℕ) → TypesHaveScalars structs units entry
types structs units entry ty keeps stands = size-positive structs keeps.structs_stand ty stands

pub counted : (structs : List StructDef) (units : List UnitDef) (entry : ℕ) → UnitsCounted structs units entry
counted structs units entry k unit keeps there =
    let takes = body_takes (site_of structs (take k units) unit) unit.body in
    let most = takes.most none_taken in record {
      variables = vars-counted structs keeps.structs_stand unit.vars (vars_stand structs units entry keeps k unit there);
      numbers = omega (arith, most);
    }

-- a unit has no fewer cells than scalars, nor than statements
enough : (kind : UnitKind) (variables statements running calling : ℕ) → (variables ≤ cells_with kind variables statements running calling)
    × (statements ≤ cells_with kind variables statements running calling)
enough Function variables statements running calling = (omega arith, omega arith)
enough Activity variables statements running calling = (omega arith, omega arith)

pub by_counts : (structs : List StructDef) (units : List UnitDef) (entry : ℕ) → UnitsCounted structs units entry →
    CountsNumber structs units entry
by_counts structs units entry counted k unit keeps there few short =
    let own = counted k unit keeps there in
    let a = own.variables in
    let b = own.numbers in record {
      variables = omega (arith, a, few);
      flags = omega (arith, b, short);
      turns = omega (arith, b, short);
    }

pub numbered : (structs : List StructDef) (units : List UnitDef) (entry : ℕ) → CountsNumber structs units entry →
    CellsNumber structs units entry
numbered structs units entry counts k unit keeps there small =
    let known : List ℕ = take k (all_cells structs units) in
    let is : cells_at structs units k ≡ cells_by (struct_sizes structs) known unit =
    answer_at (cells_by (struct_sizes structs)) units k unit 0 there in
    let all =
    enough unit.kind (variables_of structs unit) (cell_statements_of unit) (total_at known (activities_by_place unit)) (greatest_at known (calls_of unit)) in
    let few : variables_of structs unit ≤ cells_at structs units k = subst (λ n. variables_of structs unit ≤ n) (sym is) all.0 in
    let short : cell_statements_of unit ≤ cells_at structs units k = subst (λ n. cell_statements_of unit ≤ n) (sym is) all.1 in
    counts k unit keeps there (omega (arith, few, small)) (omega (arith, short, small))
