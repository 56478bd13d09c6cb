-- Where each variable of a called activity stands, beside the argument that it gets.
use Rattle.std.proofs.Common.{◌≡◌, ℕ, ◌+◌, ◌<◌, ◌≤◌, Bool, true, false, not, ◌&&◌, ◌||◌, List, length}
use Rattle.std.proofs.Common.{Some, refl, sym, ap, ◌∙◌}
use Rattle.std.proofs.lemmas.Bool.{ltb-false, ltb-true}
use Rattle.std.specs.Prelude.{is_some, nat_eq, nat_le, nat_lt, slice_get}
use Rattle.std.specs.List.{list_all}
use Rattle.bl_tree.proofs.Basics.{and_second, get_taken}
use Rattle.bl_tree.specs.declared.tree.Role.{Role}
use Rattle.bl_tree.specs.declared.tree.Role.TheVariants.{Input, Output, Variable, Fixed}
use Rattle.bl_tree.specs.declared.tree.StructDef.{StructDef}
use Rattle.bl_tree.specs.declared.tree.Unit.{Unit as UnitDef}
use Rattle.bl_tree.specs.declared.tree.Var.{Var}
use Rattle.bl_tree.specs.declared.value.Value.{Value}
use Rattle.bl_tree.specs.Program.{is_input, is_output, locals_of, parameters_of, roles_stand}
use Rattle.bl_tree.specs.Types.{scalar_in}
use Rattle.bl_tree.specs.Typing.{TypingContext, inputs_of, is_activity, is_fixed, is_variable, outputs_of, site_of, var_at}
use Rattle.bl_eval.specs.Values.{number_in}
use Rattle.bl_ctext_semantics.specs.Meaning.{ArgumentValue, by_address, by_value}
use Rattle.bl_ctext_semantics.specs.Memory.{CValue, Location, Memory, value_at}
use Rattle.bl_ctext_semantics.specs.Memory as memory
use Rattle.bl_emit_acts.specs.declared.home.Home.TheVariants.{Held, Local, Lent}
use Rattle.bl_emit_acts.specs.Places.{home_of, home_of_role}
use Rattle.bl_emit_acts_laws_simulation.specs.Frames.{is_older}
use Rattle.bl_emit_acts_laws_simulation.specs.Encodes.{Encodes, are_apart, home_at}
use Rattle.bl_emit_acts_laws_simulation.proofs.Homes.{activity_home, declared_home}
use Rattle.bl_emit_functions_laws_simulation.specs.Calls.{ArgFor, Handed, HandedOver}
use Rattle.bl_emit_functions_laws_simulation.proofs.OnCalls.Lists.{rest_all}
use Rattle.bl_emit_functions_laws_simulation.proofs.OnCalls.Locals.{parameter_role}
use Rattle.bl_emit_functions_laws_simulation.proofs.OnCalls.Frame.{output_of, none_not}

-- ---- homes

-- a variable is a number that is given, or stands where a pointer leads that is given, or belongs to what the activity remembers
pub data Where (site : TypingContext) (depth : ℕ) (here : Memory) (values : List Value) (passed : List ArgumentValue) (n j : ℕ) (var : Var) : Type 0 where
  number : (held : CValue) (value : Value) → slice_get passed j ≡ Some (by_value held) → slice_get values j ≡ Some value →
      number_in value ≡ Some (memory.scalar_number held) → j < n → home_at site j ≡ Local → Where site depth here values passed n j var
  place : (at : Location) (value : Value) → slice_get passed j ≡ Some (by_address at) → slice_get values j ≡ Some value →
      is_older depth at.root ≡ true → Encodes site.structs var.ty value (value_at here at) → j < n → home_at site j ≡ Lent →
      (is_input var.role || is_output var.role) ≡ true → Where site depth here values passed n j var
  local : n ≤ j → home_at site j ≡ Held → Where site depth here values passed n j var

-- where the pointer of a variable is to lead
pub record LentTo (depth : ℕ) (passed : List ArgumentValue) (n j : ℕ) (var : Var) : Type 0 where
  pub place : Location
  pub is_passed : slice_get passed j ≡ Some (by_address place)
  pub older : is_older depth place.root ≡ true
  pub less : j < n
  pub role : (is_input var.role || is_output var.role) ≡ true

number_home : (role : Role) (scalar : Bool) → (is_input role || is_output role) ≡ true → is_output role ≡ false → scalar ≡ true →
    home_of_role false role scalar false ≡ Local
number_home Input true parameter isnt is = refl
number_home Input false parameter isnt is = absurd (cc)
number_home Output scalar parameter isnt is = absurd (cc)
number_home Variable scalar parameter isnt is = absurd (cc)
number_home Fixed scalar parameter isnt is = absurd (cc)

place_lent : (role : Role) (scalar : Bool) → (is_input role || is_output role) ≡ true → (is_output role || not scalar) ≡ true →
    home_of_role false role scalar false ≡ Lent
place_lent Input true parameter pointer = absurd (cc)
place_lent Input false parameter pointer = refl
place_lent Output scalar parameter pointer = refl
place_lent Variable scalar parameter pointer = absurd (cc)
place_lent Fixed scalar parameter pointer = absurd (cc)

module _ (structs : List StructDef) (earlier : List UnitDef) (unit : UnitDef) (standing : roles_stand unit ≡ true)
    (active : is_activity unit.kind ≡ true) (depth : ℕ) (values : List Value) (passed : List ArgumentValue) (here : Memory)
    (handed : HandedOver structs unit depth here values passed) where
  abbrev site : TypingContext
  site = site_of structs earlier unit

  abbrev n : ℕ
  n = unit.inputs + unit.outputs

  role_of : (j : ℕ) (var : Var) → var_at site j ≡ Some var → j < n → (is_input var.role || is_output var.role) ≡ true
  role_of = parameter_role structs earlier unit standing

  home_is : (j : ℕ) (var : Var) → var_at site j ≡ Some var → home_at site j ≡ home_of_role false var.role (is_some (scalar_in var.ty)) false
  home_is j var there = ap (home_of site) there ∙ activity_home site var active

  parameter_at : (j : ℕ) (var : Var) → var_at site j ≡ Some var → j < n → slice_get (parameters_of unit) j ≡ Some var
  parameter_at j var there less = get_taken unit.vars n j less ∙ there

  abbrev At : ℕ → Var → Type 0
  At = Where site depth here values passed n

  by_arg : (j : ℕ) (var : Var) → var_at site j ≡ Some var → j < n → (arg : ArgumentValue) (value : Value) → slice_get passed j ≡ Some arg →
      slice_get values j ≡ Some value → ArgFor structs depth here var value arg → At j var
  by_arg j var there less (by_value held) value is_passed is_value fits =
      Where.number held value is_passed is_value fits.2 less
      (home_is j var there ∙ number_home var.role (is_some (scalar_in var.ty)) (role_of j var there less) fits.0 fits.1)
  by_arg j var there less (by_address at) value is_passed is_value fits =
      let pointer : (is_output var.role || not (is_some (scalar_in var.ty))) ≡ true =
      ap (λ b. is_output var.role || b) (sym (none_not (scalar_in var.ty))) ∙ fits.0 in
      Where.place at value is_passed is_value fits.1 fits.2 less
      (home_is j var there ∙ place_lent var.role (is_some (scalar_in var.ty)) (role_of j var there less) pointer)
      (role_of j var there less)

  all_locals : list_all (λ (var : Var). is_variable var.role || is_fixed var.role) (locals_of unit) ≡ true
  all_locals =
      let inputs : Bool = list_all (λ (var : Var). is_input var.role) (inputs_of unit) in
      let outputs : Bool = list_all (λ (var : Var). is_output var.role) (outputs_of unit) in
      let locals : Bool = list_all (λ (var : Var). is_variable var.role || is_fixed var.role) (locals_of unit) in
      and_second outputs locals (and_second inputs (outputs && locals)
      (and_second (nat_le n (length unit.vars)) (inputs && (outputs && locals)) standing))

  pub where_is : (j : ℕ) (var : Var) → var_at site j ≡ Some var → Where (site_of structs earlier unit) depth here values passed
      (unit.inputs + unit.outputs) j var
  where_is j var there = by (nat_lt j n) refl
    where
      by : (parameter : Bool) → nat_lt j n ≡ parameter → At j var
      by true is =
          let less : j < n = ltb-true j n is in
          let given : Handed structs depth here values passed j var = handed.each j var (parameter_at j var there less) in
          by_arg j var there less given.arg given.value given.is_passed given.is_value given.fits
      by false is =
          let more : n ≤ j = ltb-false j n is in
          Where.local more
          (home_is j var there
          ∙ declared_home false var.role (is_some (scalar_in var.ty)) false
          (rest_all (λ (var : Var). is_variable var.role || is_fixed var.role) n unit.vars j var all_locals there more))

  pub lent_to : (j : ℕ) (var : Var) → home_at site j ≡ Lent → At j var → LentTo depth passed n j var
  lent_to j var is (Where.number held value p v m less given) = absurd (let isnt = sym given ∙ is in cc)
  lent_to j var is (Where.place at value p v older holds less lent role) =
      record { place = at; is_passed = p; older = older; less = less; role = role }
  lent_to j var is (Where.local more held) = absurd (let isnt = sym held ∙ is in cc)

  pub places_apart : (i j : ℕ) (a b : Var) → var_at site i ≡ Some a → is_input a.role ≡ false → nat_eq i j ≡ false →
      (one : LentTo depth passed n i a) (two : LentTo depth passed n j b) → are_apart one.place two.place ≡ true
  places_apart i j a b there writable differ one two =
      handed.apart i j a one.place two.place (parameter_at i a there one.less) (output_of a.role one.role writable) one.is_passed two.is_passed differ
