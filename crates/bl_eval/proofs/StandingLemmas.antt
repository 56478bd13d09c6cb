-- Values of expressions at their place in a program.
use Rattle.std.proofs.Common.{◌≡◌, ℕ, List, take, Option, Some, ap, ◌∙◌}
use Rattle.std.specs.Prelude.{option_and_then, option_map, slice_get}
use Rattle.bl_tree.specs.declared.tree.Expr.{Expr}
use Rattle.bl_tree.specs.declared.tree.StructDef.{StructDef}
use Rattle.bl_tree.specs.declared.tree.Unit.{Unit as UnitDef}
use Rattle.bl_tree.specs.declared.tree.Var.{Var}
use Rattle.bl_tree.specs.declared.value.Value.{Value}
use Rattle.bl_tree.specs.Typing.{site_of}
use Rattle.bl_eval.specs.declared.datum.Datum.{Datum}
use Rattle.bl_eval.specs.Functions.{callees_of}
use Rattle.bl_eval.specs.Meaning.{View, meaning_of, plain}
use Rattle.bl_eval.specs.Standing.{value_in_unit, value_of}

abbrev given_at : List StructDef → List UnitDef → List Var → ℕ → Expr → View → Option Datum
given_at structs units vars k e view = meaning_of (record { structs = structs; vars = vars; callees = callees_of structs (take k units) }) e view

-- what is found in copies of the lists is found in the lists
pub value_is : (structs found_structs : List StructDef) (units found_units all_units : List UnitDef) (unit : UnitDef) (vars : List Var) (k : ℕ) (e : Expr)
    (now before found_now found_before : List Value) (given : Option Datum) (result : Option Value)
    → found_structs ≡ structs → found_units ≡ units → all_units ≡ units → vars ≡ unit.vars → found_now ≡ now → found_before ≡ before →
    Some unit ≡ slice_get all_units k
    → given ≡ given_at found_structs found_units vars k e (record { now = found_now; before = found_before }) → result ≡ option_map plain given
    → result ≡ value_in_unit structs units k e (record { now = now; before = before })
value_is structs found_structs units found_units all_units unit vars k e now before found_now found_before given result is_structs is_units
    is_all is_vars is_now is_before there is_given is =
    is ∙ ap (option_map plain)
    (is_given
    ∙ ap (λ structs. given_at structs found_units vars k e (record { now = found_now; before = found_before })) is_structs
    ∙ ap (λ units. given_at structs units vars k e (record { now = found_now; before = found_before })) is_units
    ∙ ap (λ vars. given_at structs units vars k e (record { now = found_now; before = found_before })) is_vars
    ∙ ap (λ now. given_at structs units unit.vars k e (record { now = now; before = found_before })) is_now
    ∙ ap (λ before. given_at structs units unit.vars k e (record { now = now; before = before })) is_before)
    ∙ ap (λ unit. option_and_then (λ site. value_of site e (record { now = now; before = before })) (option_map (site_of structs (take k units)) unit))
    (there ∙ ap (λ units. slice_get units k) is_all)
