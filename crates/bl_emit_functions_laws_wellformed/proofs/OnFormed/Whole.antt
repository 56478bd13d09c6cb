-- The laws of a whole program's functions.
use Rattle.std.proofs.Common.{◌≡◌, ℕ, ◌+◌, false, List, [], ◌∷◌, ◌++◌, map, refl, ap}
use Rattle.bl_tree.specs.declared.c.CParam.{CParam}
use Rattle.bl_tree.specs.declared.tree.StructDef.{StructDef}
use Rattle.bl_tree.specs.declared.tree.Unit.{Unit as UnitDef}
use Rattle.bl_tree.specs.declared.tree.Var.{Var}
use Rattle.bl_tree.specs.Program.{parameters_of}
use Rattle.bl_ctext_semantics.specs.Faults.{Variable}
use Rattle.bl_emit_functions.specs.Functions.{params_from}
use Rattle.bl_emit_acts_laws_wellformed.specs.Formed.Declared.{parameter_for, signature_for}
use Rattle.bl_emit_functions_laws_wellformed.specs.Formed.{BodiesWellFormed, FunctionsSigned, FunctionsWellFormed}
use Rattle.bl_emit_functions_laws_wellformed.proofs.OnFormed.Counters.{turns}
use Rattle.bl_emit_functions_laws_wellformed.proofs.OnFormed.Function.{whole_is}
use Rattle.bl_emit_functions_laws_wellformed.proofs.OnFormed.Head.{head_is}

pub bodies : (structs : List StructDef) (units : List UnitDef) (entry : ℕ) → BodiesWellFormed structs units entry
bodies structs units entry k unit table functions keeps there function before numbers =
    whole_is structs units entry k unit keeps there function table functions before numbers

pub functions : (structs : List StructDef) (units : List UnitDef) (entry : ℕ) → FunctionsWellFormed structs units entry
functions structs units entry k unit table known depths keeps there function before numbers new short =
    (λ i. head_is structs units entry k unit keeps there function table known before numbers depths new short i
    ++ (turns structs units k unit there numbers i ++ whole_is structs units entry k unit keeps there function table known before numbers false i))

params_are : (structs : List StructDef) (all : List Var) (base : ℕ) (vars : List Var) →
    map (λ (p : CParam). record { pointer = p.pointer; ty = p.ty }) (params_from structs all base vars) ≡ map (parameter_for structs) vars
params_are structs all base [] = refl
params_are structs all base (var ∷ vars) = ap (λ rest. parameter_for structs var ∷ rest) (params_are structs all (base + 1) vars)

pub signed : FunctionsSigned
signed structs earlier unit =
    ap (λ (params : List Variable). record { widens = false; params = params; result = (signature_for structs unit).result })
    (params_are structs unit.vars 0 (parameters_of unit))
