-- The inputs and outputs of the entry in the structs of the interface.
use Rattle.std.proofs.Common.{◌≡◌, Bool, true, false, not, ◌||◌, List, [], ◌∷◌, ◌++◌, map, None, Some}
use Rattle.std.proofs.Common.{refl, sym, ap, ◌∙◌, subst, codes, take-add}
use Rattle.std.proofs.lemmas.List.{map-append}
use Rattle.std.specs.Prelude.{Contains, bytes_eq, is_none, option_and_then}
use Rattle.std.specs.List.{list_all}
use Rattle.std.proofs.lemmas.Bool.{and_from}
use Rattle.bl_tree.proofs.Basics.{and_first, and_second, contains_first, contains_further, contains_mapped}
use Rattle.bl_tree.specs.declared.text.Text.{Text}
use Rattle.bl_tree.specs.declared.c.CArg.TheVariants.{Address}
use Rattle.bl_tree.specs.declared.c.CMember.{CMember}
use Rattle.bl_tree.specs.declared.c.CPlace.{CPlace}
use Rattle.bl_tree.specs.declared.c.CType.TheVariants.{Scalar as OfScalar, Struct as OfStruct}
use Rattle.bl_tree.specs.declared.scalar.Scalar.TheVariants.{Nat}
use Rattle.bl_tree.specs.declared.scalar.Width.TheVariants.{W8}
use Rattle.bl_tree.specs.declared.tree.Role.{Role}
use Rattle.bl_tree.specs.declared.tree.Role.TheVariants.{Input, Output, Variable as OfVariable, Fixed}
use Rattle.bl_tree.specs.declared.tree.StructDef.{StructDef}
use Rattle.bl_tree.specs.declared.tree.Unit.{Unit as UnitDef}
use Rattle.bl_tree.specs.declared.tree.Var.{Var}
use Rattle.bl_tree.specs.Program.{is_output, names_of, parameters_of}
use Rattle.bl_tree.specs.Types.{scalar_in}
use Rattle.bl_tree.specs.Typing.{inputs_of, outputs_of}
use Rattle.bl_tree.specs.Words.{are_distinct, is_among}
use Rattle.bl_ctext_semantics.specs.Faults.{Context, member_table}
use Rattle.bl_ctext_semantics.specs.Tables.{Table, found}
use Rattle.bl_emit_acts.specs.Trees.{c_place, c_step}
use Rattle.bl_emit_acts.specs.Types.{c_type}
use Rattle.bl_emit_acts_laws_wellformed.specs.Formed.Declared.{parameter_for, variable_of}
use Rattle.bl_emit_acts_laws_wellformed.specs.Formed.Formed.{PlaceIs}
use Rattle.bl_emit_spec.specs.Lent.{lent_role, lent_var}
use Rattle.bl_emit_spec.specs.Programs.{port_member, port_struct}
use Rattle.bl_emit_spec_laws_wellformed_bodies.proofs.OnBodies.Calls.{Suit, suit-address, suit-append}
use Rattle.bl_emit_spec_laws_wellformed_bodies.proofs.OnBodies.Lists.{found-one, names_of_entries}
use Rattle.bl_emit_spec_laws_wellformed_bodies.proofs.OnBodies.Variables.{member_place}
use Rattle.bl_emit_structs_laws_wellformed.proofs.OnNames.Named.{distinct_front}
use Rattle.bl_emit_spec_laws_wellformed_bodies.proofs.OnStructs.Interface.{distinct_back}

-- ---- a struct of ports

module _ (structs : List StructDef) (prefix : Text) (padded : (x : Text) → bytes_eq (codes "pad") (prefix ++ x) ≡ false)
    (kept : (x y : Text) → bytes_eq (prefix ++ x) (prefix ++ y) ≡ bytes_eq x y) where
  -- their names
  abbrev port_names : List Var → List Text
  port_names vars = map (λ (var : Var). prefix ++ var.name) vars

  no_pad : (vars : List Var) → is_among (codes "pad") (port_names vars) ≡ false
  no_pad [] = refl
  no_pad (var ∷ vars) = (λ i. padded var.name i || no_pad vars i)

  among_same : (x : Text) (vars : List Var) → is_among (prefix ++ x) (port_names vars) ≡ is_among x (names_of vars)
  among_same x [] = refl
  among_same x (var ∷ vars) = (λ i. kept x var.name i || among_same x vars i)

  ports_differ : (vars : List Var) → are_distinct (names_of vars) ≡ true → are_distinct (port_names vars) ≡ true
  ports_differ [] differ = refl
  ports_differ (var ∷ vars) differ =
      and_from (not (is_among (prefix ++ var.name) (port_names vars))) (are_distinct (port_names vars))
      (ap not (among_same var.name vars) ∙ and_first (not (is_among var.name (names_of vars))) (are_distinct (names_of vars)) differ)
      (ports_differ vars (and_second (not (is_among var.name (names_of vars))) (are_distinct (names_of vars)) differ))

  abbrev pad : CMember
  pad = record { ty = OfScalar (Nat W8); name = codes "pad"; length = None }

  abbrev entry_of : CMember → Text × CMember
  entry_of m = (m.name, m)

  entries_named : (vars : List Var) → names_of_entries (map entry_of (map (port_member structs prefix) vars)) ≡ port_names vars
  entries_named [] = refl
  entries_named (var ∷ vars) = ap (λ rest. (prefix ++ var.name) ∷ rest) (entries_named vars)

  port_found : (vars : List Var) (var : Var) → are_distinct (names_of vars) ≡ true → Contains vars var →
      found (prefix ++ var.name) (map entry_of (pad ∷ map (port_member structs prefix) vars)) ≡ Some (port_member structs prefix var)
  port_found vars var differ has =
      found-one (map entry_of (pad ∷ map (port_member structs prefix) vars)) (entry_of (port_member structs prefix var))
      (ap (λ names. are_distinct (codes "pad" ∷ names)) (entries_named vars)
      ∙ and_from (not (is_among (codes "pad") (port_names vars))) (are_distinct (port_names vars)) (ap not (no_pad vars)) (ports_differ vars differ))
      (contains_mapped entry_of (pad ∷ map (port_member structs prefix) vars) (port_member structs prefix var)
      (contains_further pad (map (port_member structs prefix) vars) (port_member structs prefix var)
      (contains_mapped (port_member structs prefix) vars var has)))

  module _ (context : Context) (root name : Text) (vars : List Var) (differ : are_distinct (names_of vars) ≡ true)
      (declared : context.structs name ≡ Some (member_table (port_struct structs name prefix vars)))
      (variable : context.variables root ≡ Some (variable_of true (OfStruct name))) where
    -- a port is a member of what the pointer leads to
    pub port-place : (var : Var) → Contains vars var → PlaceIs context true (c_type structs var.ty)
        (c_place true root (c_step (prefix ++ var.name) ∷ []))
    port-place var has =
        member_place context root name (prefix ++ var.name) (c_type structs var.ty) variable
        (ap (option_and_then (λ (members : Table CMember). members (prefix ++ var.name))) declared ∙ port_found vars var differ has)

-- ---- arguments

module _ (context : Context) where
  output_by_pointer : (role : Role) (rest : Bool) → is_output role ≡ true → (is_output role || rest) ≡ true
  output_by_pointer Output rest output = refl
  output_by_pointer Input rest output = absurd (cc)
  output_by_pointer OfVariable rest output = absurd (cc)
  output_by_pointer Fixed rest output = absurd (cc)

  -- the place of a port
  abbrev port : Text → Text → Var → CPlace
  port root prefix var = c_place true root (c_step (prefix ++ var.name) ∷ [])

  -- the places of ports suit what the entry takes, lent
  pub ports-suit : (structs : List StructDef) (root prefix : Text) (vars : List Var) →
      list_all (λ (var : Var). is_output var.role) (map lent_var vars) ≡ true →
      ((var : Var) → Contains vars var → PlaceIs context true (c_type structs var.ty) (port root prefix var)) →
      Suit context (map (parameter_for structs) (map lent_var vars)) (map (λ (var : Var). Address (port root prefix var)) vars)
  ports-suit structs root prefix [] roles places = (refl, refl)
  ports-suit structs root prefix (var ∷ vars) roles places =
      let rest : List Var = map lent_var vars in
      let pointer : (is_output (lent_role var.role) || is_none (scalar_in var.ty)) ≡ true =
      output_by_pointer (lent_role var.role) (is_none (scalar_in var.ty))
      (and_first (is_output (lent_role var.role)) (list_all (λ (var : Var). is_output var.role) rest) roles) in
      suit-append context (parameter_for structs (lent_var var) ∷ []) (map (parameter_for structs) rest) (Address (port root prefix var) ∷ [])
      (map (λ (var : Var). Address (port root prefix var)) vars)
      (subst (λ b. Suit context (variable_of b (c_type structs var.ty) ∷ []) (Address (port root prefix var) ∷ [])) (sym pointer)
      (suit-address context true (c_type structs var.ty) (port root prefix var) (places var (contains_first var vars))))
      (ports-suit structs root prefix vars
      (and_second (is_output (lent_role var.role)) (list_all (λ (var : Var). is_output var.role) rest) roles)
      (λ other there. places other (contains_further var vars other there)))

-- ---- what the entry has

module _ (unit : UnitDef) where
  parts_are : parameters_of unit ≡ inputs_of unit ++ outputs_of unit
  parts_are = take-add unit.inputs unit.outputs unit.vars

  names_split : names_of (parameters_of unit) ≡ names_of (inputs_of unit) ++ names_of (outputs_of unit)
  names_split = ap names_of parts_are ∙ map-append (λ (var : Var). var.name) (inputs_of unit) (outputs_of unit)

  pub inputs_differ : are_distinct (names_of (parameters_of unit)) ≡ true → are_distinct (names_of (inputs_of unit)) ≡ true
  inputs_differ differ = distinct_front (names_of (inputs_of unit)) (names_of (outputs_of unit)) (ap are_distinct (sym names_split) ∙ differ)

  pub outputs_differ : are_distinct (names_of (parameters_of unit)) ≡ true → are_distinct (names_of (outputs_of unit)) ≡ true
  outputs_differ differ = distinct_back (names_of (inputs_of unit)) (names_of (outputs_of unit)) (ap are_distinct (sym names_split) ∙ differ)
