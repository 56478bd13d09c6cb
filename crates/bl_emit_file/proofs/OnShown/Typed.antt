-- A program whose entry is shown with its inputs lent is typed.
use Rattle.std.proofs.Common.{◌≡◌, ℕ, ◌+◌, arith, Bool, true, false, ◌&&◌, ◌||◌, List, [], ◌∷◌, ◌++◌, drop, map, length}
use Rattle.std.proofs.Common.{Option, Some, refl, sym, ap, ap₂, ◌∙◌, append_assoc}
use Rattle.std.proofs.lemmas.Bool.{and_from}
use Rattle.std.proofs.lemmas.List.Folds.{list_all-append}
use Rattle.std.specs.List.{list_all}
use Rattle.std.specs.Prelude.{is_none, is_some, nat_le, slice_get, if◌then◌else◌}
use Rattle.bl_tree.proofs.Basics.{all_append, and_first, and_second}
use Rattle.bl_tree.specs.declared.tree.Role.{Role}
use Rattle.bl_tree.specs.declared.tree.Role.TheVariants.{Input, Output, Variable, Fixed}
use Rattle.bl_tree.specs.declared.tree.Stmt.{Stmt}
use Rattle.bl_tree.specs.declared.tree.StructDef.{StructDef}
use Rattle.bl_tree.specs.declared.tree.Unit.{Unit as UnitDef}
use Rattle.bl_tree.specs.declared.tree.Var.{Var}
use Rattle.bl_tree.specs.Apart.{is_apart}
use Rattle.bl_tree.specs.Depths.{is_shallow}
use Rattle.bl_tree.specs.Program.{IsWellTyped, all_names, is_entry, is_input, is_output, locals_of, names_of, parameters_of, roles_stand, unit_stands, units_stand_after}
use Rattle.bl_tree.specs.Returns.{activity_returns, function_returns, unit_returns}
use Rattle.bl_tree.specs.Types.{scalar_in, type_stands}
use Rattle.bl_tree.specs.Typing.{TypingContext, fits, inputs_of, is_activity, is_fixed, is_variable, outputs_of, site_of}
use Rattle.bl_tree.specs.Within.{StandsIn, StandsInUnits}
use Rattle.bl_tree.specs.Words.{are_distinct, is_name}
use Rattle.bl_emit_spec.proofs.LentLemmas.{lent_all, lent_dropped, lent_many, lent_names, lent_outputs, lent_parameter_names, lent_parameters_all, lent_parts}
use Rattle.bl_emit_spec.specs.Lent.{lent_role, lent_unit, lent_var}
use Rattle.bl_emit_structs_laws_wellformed.proofs.OnNames.Named.{distinct_front}
use Rattle.bl_emit_file.proofs.OnShown.Fitting.{fits_lent}
use Rattle.bl_emit_file.proofs.OnShown.Units.{Shown, ShownAs, shown_among, shown_entry}

-- ---- roles

input_points : (role : Role) → is_input role ≡ true → is_output (lent_role role) ≡ true
input_points Input is = refl
input_points Output is = refl
input_points Variable is = absurd (cc)
input_points Fixed is = absurd (cc)

output_points : (role : Role) → is_output role ≡ true → is_output (lent_role role) ≡ true
output_points Input is = absurd (cc)
output_points Output is = refl
output_points Variable is = absurd (cc)
output_points Fixed is = absurd (cc)

declared_stays : (role : Role) → (is_variable (lent_role role) || is_fixed (lent_role role)) ≡ (is_variable role || is_fixed role)
declared_stays Input = refl
declared_stays Output = refl
declared_stays Variable = refl
declared_stays Fixed = refl

all_point : (test : Role → Bool) → ((role : Role) → test role ≡ true → is_output (lent_role role) ≡ true) → (vars : List Var) →
    list_all (λ (var : Var). test var.role) vars ≡ true → list_all (λ (var : Var). is_output var.role) (map lent_var vars) ≡ true
all_point test each [] all = refl
all_point test each (var ∷ vars) all =
    and_from (is_output (lent_role var.role)) (list_all (λ (var : Var). is_output var.role) (map lent_var vars))
    (each var.role (and_first (test var.role) (list_all (λ (var : Var). test var.role) vars) all))
    (all_point test each vars (and_second (test var.role) (list_all (λ (var : Var). test var.role) vars) all))

-- ---- the entry

module _ (unit : UnitDef) (stands : roles_stand unit ≡ true) where
  abbrev within : Bool
  within = nat_le (unit.inputs + unit.outputs) (length unit.vars)

  abbrev ins : Bool
  ins = list_all (λ (var : Var). is_input var.role) (inputs_of unit)

  abbrev outs : Bool
  outs = list_all (λ (var : Var). is_output var.role) (outputs_of unit)

  abbrev declared : List Var → Bool
  declared vars = list_all (λ (var : Var). is_variable var.role || is_fixed var.role) vars

  none_before : 0 + (unit.inputs + unit.outputs) ≡ unit.inputs + unit.outputs
  none_before = omega arith

  lent_within : nat_le (0 + (unit.inputs + unit.outputs)) (length (lent_unit unit).vars) ≡ true
  lent_within = ap₂ (λ n m. nat_le n m) none_before (lent_many unit.vars) ∙ and_first within (ins && (outs && declared (locals_of unit))) stands

  lent_points : list_all (λ (var : Var). is_output var.role) (outputs_of (lent_unit unit)) ≡ true
  lent_points =
      ap (list_all (λ (var : Var). is_output var.role)) (lent_outputs unit ∙ lent_parts unit)
      ∙ all_append (λ (var : Var). is_output var.role) (map lent_var (inputs_of unit)) (map lent_var (outputs_of unit))
      (all_point is_input input_points (inputs_of unit)
      (and_first ins (outs && declared (locals_of unit)) (and_second within (ins && (outs && declared (locals_of unit))) stands)))
      (all_point is_output output_points (outputs_of unit)
      (and_first outs (declared (locals_of unit)) (and_second ins (outs && declared (locals_of unit))
      (and_second within (ins && (outs && declared (locals_of unit))) stands))))

  lent_declared : declared (locals_of (lent_unit unit)) ≡ true
  lent_declared =
      ap (λ n. declared (drop n (map lent_var unit.vars))) none_before
      ∙ ap declared (lent_dropped (unit.inputs + unit.outputs) unit.vars)
      ∙ lent_all (λ (var : Var). is_variable var.role || is_fixed var.role) (λ var. declared_stays var.role) (locals_of unit)
      ∙ and_second outs (declared (locals_of unit)) (and_second ins (outs && declared (locals_of unit))
      (and_second within (ins && (outs && declared (locals_of unit))) stands))

  lent_roles : roles_stand (lent_unit unit) ≡ true
  lent_roles =
      and_from (nat_le (0 + (unit.inputs + unit.outputs)) (length (lent_unit unit).vars)) _ lent_within
      (and_from (list_all (λ (var : Var). is_output var.role) (outputs_of (lent_unit unit))) (declared (locals_of (lent_unit unit))) lent_points
      lent_declared)

each_fits : (site : TypingContext) (body : List Stmt) → list_all (fits site) body ≡ true →
    list_all (fits (record site { vars = map lent_var site.vars })) body ≡ true
each_fits site [] all = refl
each_fits site (s ∷ body) all =
    and_from (fits (record site { vars = map lent_var site.vars }) s) (list_all (fits (record site { vars = map lent_var site.vars })) body)
    (fits_lent site s (and_first (fits site s) (list_all (fits site) body) all))
    (each_fits site body (and_second (fits site s) (list_all (fits site) body) all))

chosen : (b x y z : Bool) → b ≡ true → (if b then x else y) ≡ (if b then x else z)
chosen true x y z is = refl
chosen false x y z is = absurd (cc)

lent_stands : (structs : List StructDef) (earlier : List UnitDef) (unit : UnitDef) → is_activity unit.kind ≡ true →
    unit_stands structs earlier unit ≡ true → unit_stands structs earlier (lent_unit unit) ≡ true
lent_stands structs earlier unit active stands =
    let nested : Bool = is_shallow 200 unit.body && list_all is_apart unit.body in
    let signed : Bool = list_all is_name (names_of unit.vars) && are_distinct (names_of (parameters_of unit)) in
    let types : Bool = list_all (λ (var : Var). type_stands (length structs) var.ty) unit.vars in
    let body : Bool = list_all (fits (site_of structs earlier unit)) unit.body in
    let rest : Bool = unit_returns unit && nested in
    let first : (roles_stand unit && signed) ≡ true = and_first (roles_stand unit && signed) (types && (body && rest)) stands in
    let second : (types && (body && rest)) ≡ true = and_second (roles_stand unit && signed) (types && (body && rest)) stands in
    let names : signed ≡ true = and_second (roles_stand unit) signed first in
    let own : (body && rest) ≡ true = and_second types (body && rest) second in
    and_from (roles_stand (lent_unit unit) && (list_all is_name (names_of (lent_unit unit).vars) && are_distinct (names_of (parameters_of (lent_unit unit)))))
    _
    (and_from (roles_stand (lent_unit unit)) _ (lent_roles unit (and_first (roles_stand unit) signed first))
    (and_from (list_all is_name (names_of (lent_unit unit).vars)) (are_distinct (names_of (parameters_of (lent_unit unit))))
    (ap (list_all is_name) (lent_names unit.vars)
    ∙ and_first (list_all is_name (names_of unit.vars)) (are_distinct (names_of (parameters_of unit))) names)
    (ap are_distinct (lent_parameter_names unit)
    ∙ and_second (list_all is_name (names_of unit.vars)) (are_distinct (names_of (parameters_of unit))) names)))
    (and_from (list_all (λ (var : Var). type_stands (length structs) var.ty) (lent_unit unit).vars) _
    (lent_all (λ (var : Var). type_stands (length structs) var.ty) (λ var. refl) unit.vars ∙ and_first types (body && rest) second)
    (and_from (list_all (fits (site_of structs earlier (lent_unit unit))) unit.body) (unit_returns (lent_unit unit) && nested)
    (each_fits (site_of structs earlier unit) unit.body (and_first body rest own))
    (ap (λ b. b && nested) (chosen (is_activity unit.kind) (activity_returns unit) (function_returns (lent_unit unit)) (function_returns unit) active)
    ∙ and_second body rest own)))

-- ---- the program

units_stand : (structs : List StructDef) {units shown : List UnitDef} {n : ℕ} → Shown units n shown →
    ((unit : UnitDef) → slice_get units n ≡ Some unit → is_activity unit.kind ≡ true) → (earlier : List UnitDef) →
    units_stand_after structs earlier units ≡ true → units_stand_after structs earlier shown ≡ true
units_stand structs (Shown.entry {unit} {rest}) active earlier stand =
    and_from (unit_stands structs earlier (lent_unit unit)) true
    (lent_stands structs earlier unit (active unit refl)
    (and_first (unit_stands structs earlier unit) (units_stand_after structs (earlier ++ unit ∷ []) rest) stand)) refl
units_stand structs (Shown.before {unit} {rest} {shown} more) active earlier stand =
    and_from (unit_stands structs earlier unit) (units_stand_after structs (earlier ++ unit ∷ []) shown)
    (and_first (unit_stands structs earlier unit) (units_stand_after structs (earlier ++ unit ∷ []) rest) stand)
    (units_stand structs more active (earlier ++ unit ∷ [])
    (and_second (unit_stands structs earlier unit) (units_stand_after structs (earlier ++ unit ∷ []) rest) stand))

abbrev unit_names : List UnitDef → List (List ℕ)
unit_names units = map (λ (unit : UnitDef). unit.name) units

-- the names of shown units are the first ones
names_first : {units shown : List UnitDef} {n : ℕ} → Shown units n shown → (rest : List (List ℕ)) × (unit_names units ≡ unit_names shown ++ rest)
names_first (Shown.entry {unit} {rest}) = (unit_names rest, refl)
names_first (Shown.before {unit} more) = let found = names_first more in (found.0, ap (λ names. unit.name ∷ names) found.1)

-- the bodies are the same
in_body : {one other : UnitDef} → ShownAs one other → (s : Stmt) → StandsIn other.body s → StandsIn one.body s
in_body ShownAs.as_it_is s at = at
in_body ShownAs.lent s at = at

in_units : {units shown : List UnitDef} {n : ℕ} → Shown units n shown → (s : Stmt) → StandsInUnits shown s → StandsInUnits units s
in_units are s stands =
    let among = shown_among are stands.unit stands.is_there in
    record { unit = among.unit; is_there = among.is_there; stands = in_body among.is s stands.stands }

entry_active : (o : Option UnitDef) → is_entry o ≡ true → (unit : UnitDef) → o ≡ Some unit → is_activity unit.kind ≡ true
entry_active o stands unit there =
    and_first (is_activity unit.kind) (is_none unit.result && list_all (λ (var : Var). is_some (scalar_in var.ty)) (parameters_of unit))
    (ap is_entry (sym there) ∙ stands)

entry_lent : (o : Option UnitDef) (unit : UnitDef) → o ≡ Some unit → is_entry o ≡ true → is_entry (Some (lent_unit unit)) ≡ true
entry_lent o unit there stands =
    let scalars : UnitDef → Bool = λ (unit : UnitDef). list_all (λ (var : Var). is_some (scalar_in var.ty)) (parameters_of unit) in
    let own : is_entry (Some unit) ≡ true = ap is_entry (sym there) ∙ stands in
    and_from (is_activity unit.kind) (is_none unit.result && scalars (lent_unit unit)) (and_first (is_activity unit.kind) (is_none unit.result && scalars unit) own)
    (and_from (is_none unit.result) (scalars (lent_unit unit))
    (and_first (is_none unit.result) (scalars unit) (and_second (is_activity unit.kind) (is_none unit.result && scalars unit) own))
    (lent_parameters_all (λ (var : Var). is_some (scalar_in var.ty)) (λ var. refl) unit
    ∙ and_second (is_none unit.result) (scalars unit) (and_second (is_activity unit.kind) (is_none unit.result && scalars unit) own)))

pub shown_typed : (structs : List StructDef) (units shown : List UnitDef) (n : ℕ) (unit : UnitDef) → Shown units n shown → slice_get units n ≡ Some unit →
    IsWellTyped structs units n → IsWellTyped structs shown n
shown_typed structs units shown n unit are there keeps =
    let of_structs : List (List ℕ) = map (λ (def : StructDef). def.name) structs in
    let first = names_first are in
    let names : all_names structs units ≡ all_names structs shown ++ first.0 =
    ap (λ names. of_structs ++ names) first.1 ∙ sym (append_assoc of_structs (unit_names shown) first.0) in
    record {
      named = and_first (list_all is_name (all_names structs shown)) (list_all is_name first.0)
          (sym (list_all-append is_name (all_names structs shown) first.0) ∙ ap (list_all is_name) (sym names) ∙ keeps.named);
      distinct = distinct_front (all_names structs shown) first.0 (ap are_distinct (sym names) ∙ keeps.distinct);
      structs_stand = keeps.structs_stand;
      units_stand = units_stand structs are (entry_active (slice_get units n) keeps.entry_stands) [] keeps.units_stand;
      entry_stands = ap is_entry (shown_entry are unit there) ∙ entry_lent (slice_get units n) unit there keeps.entry_stands;
      places_decide = λ s t one other. keeps.places_decide s t (in_units are s one) (in_units are t other);
      runs_decide = record {
        same = λ s t one other. keeps.runs_decide.same s t (in_units are s one) (in_units are t other);
        apart = λ outer s t j k one. keeps.runs_decide.apart outer s t j k (in_units are outer one);
      };
    }
