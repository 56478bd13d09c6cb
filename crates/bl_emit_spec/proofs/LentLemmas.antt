-- What the lent entry has of the entry.
use Rattle.std.proofs.Common.{◌≡◌, ℕ, zero, suc, ◌+◌, Bool, ◌&&◌, List, [], ◌∷◌, ◌++◌, drop, map, take, take-add, length, arith, refl, ap, ◌∙◌}
use Rattle.std.proofs.lemmas.List.{map-append}
use Rattle.std.specs.List.{list_all}
use Rattle.bl_tree.specs.declared.tree.Unit.{Unit as UnitDef}
use Rattle.bl_tree.specs.declared.tree.Var.{Var}
use Rattle.bl_tree.specs.Program.{names_of, parameters_of}
use Rattle.bl_tree.specs.Typing.{inputs_of, outputs_of}
use Rattle.bl_emit_spec.specs.Lent.{lent_unit, lent_var}

pub lent_taken : (n : ℕ) (vars : List Var) → take n (map lent_var vars) ≡ map lent_var (take n vars)
lent_taken zero vars = refl
lent_taken (suc n) [] = refl
lent_taken (suc n) (var ∷ vars) = ap (λ rest. lent_var var ∷ rest) (lent_taken n vars)

pub lent_dropped : (n : ℕ) (vars : List Var) → drop n (map lent_var vars) ≡ map lent_var (drop n vars)
lent_dropped zero vars = refl
lent_dropped (suc n) [] = refl
lent_dropped (suc n) (var ∷ vars) = lent_dropped n vars

-- what depends on no role is mapped alike
pub lent_mapped : {A : Type 0} (f : Var → A) → ((var : Var) → f (lent_var var) ≡ f var) → (vars : List Var) → map f (map lent_var vars) ≡ map f vars
lent_mapped f same [] = refl
lent_mapped f same (var ∷ vars) = λ i. same var i ∷ lent_mapped f same vars i

pub lent_all : (test : Var → Bool) → ((var : Var) → test (lent_var var) ≡ test var) → (vars : List Var) →
    list_all test (map lent_var vars) ≡ list_all test vars
lent_all test same [] = refl
lent_all test same (var ∷ vars) = λ i. same var i && lent_all test same vars i

pub lent_names : (vars : List Var) → names_of (map lent_var vars) ≡ names_of vars
lent_names vars = lent_mapped (λ (var : Var). var.name) (λ var. refl) vars

pub lent_many : (vars : List Var) → length (map lent_var vars) ≡ length vars
lent_many [] = refl
lent_many (var ∷ vars) = ap suc (lent_many vars)

pub drop_none : {A : Type 0} (xs : List A) → drop 0 xs ≡ xs
drop_none [] = refl
drop_none (x ∷ xs) = refl

-- the parameters of the lent entry are those of the entry, each lent
pub lent_parameters : (unit : UnitDef) → parameters_of (lent_unit unit) ≡ map lent_var (parameters_of unit)
lent_parameters unit =
    let same : 0 + (unit.inputs + unit.outputs) ≡ unit.inputs + unit.outputs = omega arith in
    ap (λ n. take n (map lent_var unit.vars)) same ∙ lent_taken (unit.inputs + unit.outputs) unit.vars

-- and so are its outputs
pub lent_outputs : (unit : UnitDef) → outputs_of (lent_unit unit) ≡ map lent_var (parameters_of unit)
lent_outputs unit =
    ap (take (unit.inputs + unit.outputs)) (drop_none (map lent_var unit.vars)) ∙ lent_taken (unit.inputs + unit.outputs) unit.vars

-- the parameters are the inputs and then the outputs
pub lent_parts : (unit : UnitDef) → map lent_var (parameters_of unit) ≡ map lent_var (inputs_of unit) ++ map lent_var (outputs_of unit)
lent_parts unit = ap (map lent_var) (take-add unit.inputs unit.outputs unit.vars) ∙ map-append lent_var (inputs_of unit) (outputs_of unit)

pub lent_parameter_names : (unit : UnitDef) → names_of (parameters_of (lent_unit unit)) ≡ names_of (parameters_of unit)
lent_parameter_names unit = ap names_of (lent_parameters unit) ∙ lent_names (parameters_of unit)

pub lent_parameters_all : (test : Var → Bool) → ((var : Var) → test (lent_var var) ≡ test var) → (unit : UnitDef) →
    list_all test (parameters_of (lent_unit unit)) ≡ list_all test (parameters_of unit)
lent_parameters_all test same unit = ap (list_all test) (lent_parameters unit) ∙ lent_all test same (parameters_of unit)
