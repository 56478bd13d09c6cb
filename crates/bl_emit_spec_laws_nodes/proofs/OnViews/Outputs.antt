-- A variable that an activity remembers is no output.
use Rattle.std.proofs.Common.{◌≡◌, ◌<◌, ◌≤◌, ◌+◌, ◌-◌, arith, ℕ, zero, suc, Bool, true, false, ◌&&◌}
use Rattle.std.proofs.Common.{◌||◌, List, [], ◌∷◌, ◌++◌, take, drop}
use Rattle.std.proofs.Common.{length, Some, None, refl, sym, ap, ◌∙◌, subst}
use Rattle.std.proofs.lemmas.Bool.{leb-true, ltb-true}
use Rattle.std.proofs.lemmas.Option.{same_Some}
use Rattle.std.specs.Prelude.{is_some, nat_le, nat_lt, slice_get}
use Rattle.std.specs.List.{list_all}
use Rattle.std.proofs.lemmas.Bool.{false_from_ne_true}
use Rattle.bl_tree.proofs.Basics.{and_first, and_second}
use Rattle.bl_tree.specs.declared.tree.StructDef.{StructDef}
use Rattle.bl_tree.specs.declared.tree.Unit.{Unit as UnitDef}
use Rattle.bl_tree.specs.declared.tree.Var.{Var}
use Rattle.bl_tree.specs.Program.{IsWellTyped, is_input, is_output, locals_of, roles_stand, unit_stands}
use Rattle.bl_tree.specs.Types.{scalar_in}
use Rattle.bl_tree.specs.Typing.{TypingContext, inputs_of, is_fixed, is_variable, outputs_of}
use Rattle.bl_ctree.specs.Store.{is_output_of}
use Rattle.bl_emit_acts.specs.declared.home.Home.TheVariants.{Held}
use Rattle.bl_emit_acts.specs.Places.{copies_inputs, home_of, is_alone}
use Rattle.bl_emit_acts_laws_simulation.proofs.Homes.{output_unheld}
use Rattle.bl_eval.proofs.UnitFits.{unit_at}

-- ---- units

unit_roles : (structs : List StructDef) (earlier : List UnitDef) (unit : UnitDef) → unit_stands structs earlier unit ≡ true →
    roles_stand unit ≡ true
unit_roles structs earlier unit stands = and_first _ _ (and_first _ _ stands)

outputs_are : (unit : UnitDef) → roles_stand unit ≡ true → list_all (λ (var : Var). is_output var.role) (outputs_of unit) ≡ true
outputs_are unit roles =
    let inputs : Bool = list_all (λ (var : Var). is_input var.role) (inputs_of unit) in
    let outputs : Bool = list_all (λ (var : Var). is_output var.role) (outputs_of unit) in
    let locals : Bool = list_all (λ (var : Var). is_variable var.role || is_fixed var.role) (locals_of unit) in
    let all : (nat_le (unit.inputs + unit.outputs) (length unit.vars) && (inputs && (outputs && locals))) ≡ true = roles in
    and_first outputs locals
    (and_second inputs (outputs && locals) (and_second (nat_le (unit.inputs + unit.outputs) (length unit.vars)) (inputs && (outputs && locals)) all))

-- ---- positions

all_at : (vars : List Var) (j : ℕ) (var : Var) → list_all (λ (var : Var). is_output var.role) vars ≡ true → slice_get vars j ≡ Some var →
    is_output var.role ≡ true
all_at [] j var all there = absurd (cc)
all_at (first ∷ vars) zero var all there =
    subst (λ (var : Var). is_output var.role ≡ true) (same_Some first var there)
    (and_first (is_output first.role) (list_all (λ (var : Var). is_output var.role) vars) all)
all_at (first ∷ vars) (suc j) var all there =
    all_at vars j var (and_second (is_output first.role) (list_all (λ (var : Var). is_output var.role) vars) all) there

get_taken : (vars : List Var) (n j : ℕ) → j < n → slice_get (take n vars) j ≡ slice_get vars j
get_taken vars zero j less = absurd (omega arith)
get_taken [] (suc n) j less = refl
get_taken (var ∷ vars) (suc n) zero less = refl
get_taken (var ∷ vars) (suc n) (suc j) less = get_taken vars n j (omega (arith, less))

abbrev no_vars : List Var
no_vars = []

nothing_at : (k : ℕ) → slice_get no_vars k ≡ None
nothing_at zero = refl
nothing_at (suc k) = refl

get_behind : (vars : List Var) (n j i : ℕ) → i ≡ n + j → slice_get (drop n vars) j ≡ slice_get vars i
get_behind vars zero j i is = ap (slice_get vars) (omega (arith, is))
get_behind [] (suc n) j i is = nothing_at j ∙ sym (nothing_at i)
get_behind (var ∷ vars) (suc n) j zero is = absurd (omega (arith, is))
get_behind (var ∷ vars) (suc n) j (suc i) is = get_behind vars n j i (omega (arith, is))

-- an output of the unit has that role
output_role : (unit : UnitDef) (x : ℕ) (var : Var) → roles_stand unit ≡ true → is_output_of unit x ≡ true →
    slice_get unit.vars x ≡ Some var →
    is_output var.role ≡ true
output_role unit x var roles among there =
    let least : unit.inputs ≤ x =
    leb-true unit.inputs x (and_first (nat_le unit.inputs x) (nat_lt x (unit.inputs + unit.outputs)) among) in
    let most : x < unit.inputs + unit.outputs =
    ltb-true x (unit.inputs + unit.outputs) (and_second (nat_le unit.inputs x) (nat_lt x (unit.inputs + unit.outputs)) among) in
    by (x - unit.inputs) (omega (arith, least)) (omega (arith, least, most))
  where
    by : (j : ℕ) → unit.inputs + j ≡ x → j < unit.outputs → is_output var.role ≡ true
    by j is less =
        all_at (outputs_of unit) j var (outputs_are unit roles)
        (get_taken (drop unit.inputs unit.vars) unit.outputs j less
        ∙ (get_behind unit.vars unit.inputs j x (sym is) ∙ there))

-- so one that is remembered is none
pub held_inside : (structs : List StructDef) (units : List UnitDef) (entry k x : ℕ) (unit : UnitDef) (site : TypingContext) (var : Var) →
    IsWellTyped structs units entry → slice_get units k ≡ Some unit → slice_get unit.vars x ≡ Some var →
    home_of site (Some var) ≡ Held → is_output_of unit x ≡ false
held_inside structs units entry k x unit site var keeps there known held =
    let roles = unit_roles structs (take k units) unit (unit_at structs [] units k unit keeps.units_stand there) in
    false_from_ne_true (is_output_of unit x) (λ among.
    output_unheld (is_alone site var.ty) var.role (is_some (scalar_in var.ty)) (copies_inputs site) (output_role unit x var roles among known) held)
