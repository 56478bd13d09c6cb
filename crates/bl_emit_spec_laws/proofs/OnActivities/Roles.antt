-- Roles of the variables of a typed unit, and where its outputs stand among them.
use Rattle.std.proofs.Common.{◌≡◌, ◌⊎◌, inl, inr, ⊎_elim, ℕ, zero, suc, ◌+◌, ◌<◌, ◌≤◌, Bool, true, false, ◌&&◌, ◌||◌}
use Rattle.std.proofs.Common.{List, [], ◌∷◌, ◌++◌, length, take, drop, Some}
use Rattle.std.proofs.Common.{sym, ap, ◌∙◌, subst, arith}
use Rattle.std.proofs.lemmas.Option.{same_Some}
use Rattle.std.specs.List.{list_all}
use Rattle.std.specs.Prelude.{is_some, nat_le, slice_get}
use Rattle.bl_tree.proofs.Basics.{all_at, and_first, and_second, less_or_not, true_not_false}
use Rattle.bl_tree.specs.declared.tree.StructDef.{StructDef}
use Rattle.bl_tree.specs.declared.tree.Unit.{Unit as UnitDef}
use Rattle.bl_tree.specs.declared.tree.Var.{Var}
use Rattle.bl_tree.specs.Depths.{is_shallow}
use Rattle.bl_tree.specs.Apart.{is_apart}
use Rattle.bl_tree.specs.Program.{IsWellTyped, is_input, is_output, locals_of, names_of, parameters_of, roles_stand, unit_stands, units_stand_after}
use Rattle.bl_tree.specs.Returns.{unit_returns}
use Rattle.bl_tree.specs.Types.{scalar_in, type_stands}
use Rattle.bl_tree.specs.Typing.{TypingContext, fits, inputs_of, is_fixed, is_variable, outputs_of, site_of, var_at}
use Rattle.bl_tree.specs.Words.{are_distinct, is_name}
use Rattle.bl_emit_acts.specs.Places.{copies_inputs, home_of, is_alone}
use Rattle.bl_emit_acts.specs.declared.home.Home.TheVariants.{Lent}
use Rattle.bl_emit_acts_laws_simulation.proofs.Homes.{declared_home, declared_unlent, output_home}
use Rattle.bl_emit_acts_laws_simulation.specs.Encodes.{home_at}
use Rattle.bl_emit_spec_laws.proofs.OnActivities.Lists.{get_drop}
use Rattle.bl_emit_functions_laws_simulation.proofs.OnCalls.Procedure.{taken_index}

-- ---- roles stand

stands_at : (structs : List StructDef) (earlier units : List UnitDef) (k : ℕ) (unit : UnitDef) → units_stand_after structs earlier units ≡ true →
    slice_get units k ≡ Some unit → (before : List UnitDef) × (unit_stands structs before unit ≡ true)
stands_at structs earlier [] k unit stand there = absurd (cc)
stands_at structs earlier (first ∷ units) zero unit stand there = (
  earlier,
  subst (λ (u : UnitDef). unit_stands structs earlier u ≡ true) (same_Some first unit there)
      (and_first (unit_stands structs earlier first) (units_stand_after structs (earlier ++ first ∷ []) units) stand),
)
stands_at structs earlier (first ∷ units) (suc k) unit stand there =
    stands_at structs (earlier ++ first ∷ []) units k unit
    (and_second (unit_stands structs earlier first) (units_stand_after structs (earlier ++ first ∷ []) units) stand) there

-- what `roles_stand` says, one by one
pub record Roles (unit : UnitDef) : Type 0 where
  pub fits : nat_le (unit.inputs + unit.outputs) (length unit.vars) ≡ true
  pub inputs : list_all (λ var. is_input var.role) (inputs_of unit) ≡ true
  pub outputs : list_all (λ var. is_output var.role) (outputs_of unit) ≡ true
  pub locals : list_all (λ var. is_variable var.role || is_fixed var.role) (locals_of unit) ≡ true

roles_of : (unit : UnitDef) → roles_stand unit ≡ true → Roles unit
roles_of unit all =
    let ins : Bool = list_all (λ var. is_input var.role) (inputs_of unit) in
    let outs : Bool = list_all (λ var. is_output var.role) (outputs_of unit) in
    let own : Bool = list_all (λ var. is_variable var.role || is_fixed var.role) (locals_of unit) in
    let few : Bool = nat_le (unit.inputs + unit.outputs) (length unit.vars) in
    let whole : (few && (ins && (outs && own))) ≡ true = all in
    let rest = and_second few (ins && (outs && own)) whole in
    let last = and_second ins (outs && own) rest in
    record {
      fits = and_first few (ins && (outs && own)) whole;
      inputs = and_first ins (outs && own) rest;
      outputs = and_first outs own last;
      locals = and_second outs own last;
    }

pub unit_roles : (structs : List StructDef) (units : List UnitDef) (entry k : ℕ) (unit : UnitDef) → IsWellTyped structs units entry →
    slice_get units k ≡ Some unit → Roles unit
unit_roles structs units entry k unit keeps there =
    let found = stands_at structs [] units k unit keeps.units_stand there in
    let before = found.0 in
    let named : Bool = list_all is_name (names_of unit.vars) && are_distinct (names_of (parameters_of unit)) in
    let types : Bool = list_all (λ var. type_stands (length structs) var.ty) unit.vars in
    let fit : Bool = list_all (fits (site_of structs before unit)) unit.body in
    let rest : Bool = types && (fit && (unit_returns unit && (is_shallow 200 unit.body && list_all is_apart unit.body))) in
    let all : ((roles_stand unit && named) && rest) ≡ true = found.1 in
    roles_of unit (and_first (roles_stand unit) named (and_first (roles_stand unit && named) rest all))

-- ---- by position

put_take : {A : Type 0} (n : ℕ) (xs : List A) (k : ℕ) (x : A) → slice_get xs k ≡ Some x → k < n → slice_get (take n xs) k ≡ Some x
put_take zero xs k x there less = absurd (omega (arith, less))
put_take (suc n) [] k x there less = absurd (cc)
put_take (suc n) (y ∷ xs) zero x there less = there
put_take (suc n) (y ∷ xs) (suc k) x there less = put_take n xs k x there (omega (arith, less))

put_drop : {A : Type 0} (m : ℕ) (xs : List A) (k : ℕ) (x : A) → slice_get xs (m + k) ≡ Some x → slice_get (drop m xs) k ≡ Some x
put_drop zero [] k x there = absurd (cc)
put_drop {A = A} zero (y ∷ xs) k x there =
    let same : 0 + k ≡ k = omega arith in subst (λ (n : ℕ). slice_get {X = A} (y ∷ xs) n ≡ Some x) same there
put_drop (suc m) [] k x there = absurd (cc)
put_drop {A = A} (suc m) (y ∷ xs) k x there =
    let same : suc m + k ≡ suc (m + k) = omega arith in
    put_drop m xs k x (subst (λ (n : ℕ). slice_get {X = A} (y ∷ xs) n ≡ Some x) same there)

-- an output of an activity is lent
pub output_lent : (site : TypingContext) (x : ℕ) (var : Var) → var_at site x ≡ Some var → is_output var.role ≡ true → home_at site x ≡ Lent
output_lent site x var there output =
    ap (home_of site) there ∙ output_home (is_alone site var.ty) var.role (is_some (scalar_in var.ty)) (copies_inputs site) output

further_by : (m x : ℕ) → m ≤ x → (k : ℕ) × (x ≡ m + k)
further_by zero x least = let same : x ≡ 0 + x = omega arith in (x, same)
further_by (suc m) zero least = absurd (omega (arith, least))
further_by (suc m) (suc x) least =
    let rest = further_by m x (omega (arith, least)) in
    let is = rest.1 in
    (rest.0, omega (arith, is))

-- where an output stands
pub record OutputAt (unit : UnitDef) (x : ℕ) (var : Var) : Type 0 where
  pub position : ℕ
  pub is : x ≡ unit.inputs + position
  pub there : slice_get (outputs_of unit) position ≡ Some var

-- what is lent and no input is an output
pub lent_output : (site : TypingContext) (unit : UnitDef) (x : ℕ) (var : Var) → Roles unit → site.vars ≡ unit.vars → var_at site x ≡ Some var →
    home_at site x ≡ Lent → is_input var.role ≡ false → OutputAt unit x var
lent_output site unit x var roles same there lent input = by (less_or_not x unit.inputs) (less_or_not x (unit.inputs + unit.outputs))
  where
    is_there : slice_get unit.vars x ≡ Some var
    is_there = ap (λ (vars : List Var). slice_get vars x) (sym same) ∙ there

    by : (x < unit.inputs) ⊎ (unit.inputs ≤ x) → (x < unit.inputs + unit.outputs) ⊎ (unit.inputs + unit.outputs ≤ x) → OutputAt unit x var
    by (inl less) more =
        let one = all_at (λ (v : Var). is_input v.role) (inputs_of unit) x var roles.inputs (put_take unit.inputs unit.vars x var is_there less) in
        absurd (true_not_false (sym one ∙ input))
    by (inr least) (inl less) =
        let behind = further_by unit.inputs x least in
        let k = behind.0 in
        let is : x ≡ unit.inputs + k = behind.1 in
        let near : k < unit.outputs = omega (arith, less, is) in
        record {
          position = k;
          is = is;
          there = put_take unit.outputs (drop unit.inputs unit.vars) k var
              (put_drop unit.inputs unit.vars k var (subst (λ (n : ℕ). slice_get unit.vars n ≡ Some var) is is_there)) near;
        }
    by (inr least) (inr more) =
        let behind = further_by (unit.inputs + unit.outputs) x more in
        let k = behind.0 in
        let is : x ≡ unit.inputs + unit.outputs + k = behind.1 in
        let one = all_at (λ (v : Var). is_variable v.role || is_fixed v.role) (locals_of unit) k var roles.locals
        (put_drop (unit.inputs + unit.outputs) unit.vars k var (subst (λ (n : ℕ). slice_get unit.vars n ≡ Some var) is is_there)) in
        absurd (declared_unlent (is_alone site var.ty)
        (sym (declared_home (is_alone site var.ty) var.role (is_some (scalar_in var.ty)) (copies_inputs site) one)
        ∙ sym (ap (home_of site) there) ∙ lent))

-- an output at a position among the outputs stands so much further on
pub output_at : (site : TypingContext) (unit : UnitDef) (k : ℕ) (var : Var) → Roles unit → site.vars ≡ unit.vars → slice_get (outputs_of unit) k
    ≡ Some var →
    (var_at site (unit.inputs + k) ≡ Some var) × (is_output var.role ≡ true)
output_at site unit k var roles same there = (
  ap (λ (vars : List Var). slice_get vars (unit.inputs + k)) same
      ∙ get_drop unit.inputs unit.vars k var (taken_index unit.outputs (drop unit.inputs unit.vars) k var there),
  all_at (λ (v : Var). is_output v.role) (outputs_of unit) k var roles.outputs there,
)
