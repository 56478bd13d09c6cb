-- The structs of the interface: what holds of them.
use Rattle.std.proofs.Common.{◌≡◌, ⊎_elim, ℕ, zero, suc, ◌+◌, arith, Bool, true, false, not, ◌&&◌, ◌||◌}
use Rattle.std.proofs.Common.{List, [], ◌∷◌, ◌++◌, Contains, map, take, drop, length, Option, Some, None, refl, sym, ap, ◌∙◌, subst, codes}
use Rattle.std.proofs.lemmas.Bool.Decides.{nat_tests}
use Rattle.std.proofs.lemmas.List.{map-append}
use Rattle.std.proofs.lemmas.List.Folds.{list_all-append}
use Rattle.std.specs.List.{list_all}
use Rattle.std.specs.Prelude.{bytes_eq, is_some, nat_lt, if◌then◌else◌}
use Rattle.std.proofs.lemmas.Bool.{and_from}
use Rattle.bl_tree.proofs.Basics.{and_first, and_second, contains_none, first_or_further}
use Rattle.bl_tree.specs.declared.c.CMember.{CMember}
use Rattle.bl_tree.specs.declared.c.CType.{CType}
use Rattle.bl_tree.specs.declared.c.CType.TheVariants.{Scalar as OfScalar, Struct as OfStruct}
use Rattle.bl_tree.specs.declared.scalar.Scalar.{Scalar as ScalarType}
use Rattle.bl_tree.specs.declared.text.Text.{Text}
use Rattle.bl_tree.specs.declared.tree.StructDef.{StructDef}
use Rattle.bl_tree.specs.declared.tree.Ty.{Ty}
use Rattle.bl_tree.specs.declared.tree.Unit.{Unit as UnitDef}
use Rattle.bl_tree.specs.declared.tree.Var.{Var}
use Rattle.bl_tree.specs.Program.{names_of, parameters_of}
use Rattle.bl_tree.specs.Types.{scalar_in}
use Rattle.bl_tree.specs.Typing.{inputs_of, outputs_of}
use Rattle.bl_tree.specs.Words.{are_distinct, is_among, is_name}
use Rattle.bl_ctext_semantics.specs.Faults.{interface_fits, is_port, is_scalar}
use Rattle.bl_emit_acts.specs.Types.{c_scalar, c_type}
use Rattle.bl_emit_acts_laws_wellformed.proofs.OnFormed.Parts.{c_scalar_type}
use Rattle.bl_emit_structs_laws_wellformed.specs.Names.{member_names}
use Rattle.bl_emit_functions.specs.Functions.{memory_name}
use Rattle.bl_emit_spec.specs.Activities.{struct_member}
use Rattle.bl_emit_spec.specs.Names.{frame_name}
use Rattle.bl_emit_spec.specs.Programs.{port_member, port_struct, state_struct}
use Rattle.bl_emit_spec_laws_wellformed_bodies.proofs.OnStructs.Lists.{from_map}
use Rattle.bl_emit_spec_laws_wellformed.proofs.OnTexts.Files.{dropped_all, taken_all}
use Rattle.bl_emit_structs_laws_wellformed.proofs.OnNames.Named.{distinct_front}

-- ---- parameters

-- whether a variable is a scalar
abbrev pub is_scalar_var : Var → Bool
is_scalar_var var = is_some (scalar_in var.ty)

-- variables that can be ports: scalars with names that differ
pub record Ports (vars : List Var) : Type 0 where
  pub scalars : list_all is_scalar_var vars ≡ true
  pub names : list_all is_name (names_of vars) ≡ true
  pub differ : are_distinct (names_of vars) ≡ true

abbrev none_of : (A : Type 0) → List A
none_of A = []

take_nothing : {A : Type 0} (n : ℕ) → take n (none_of A) ≡ none_of A
take_nothing zero = refl
take_nothing (suc n) = refl

pub split_take : {A : Type 0} (a b : ℕ) (xs : List A) → take (a + b) xs ≡ take a xs ++ take b (drop a xs)
split_take zero b [] = take_nothing (zero + b) ∙ sym (take_nothing b)
split_take zero b (x ∷ xs) = let same : zero + b ≡ b = omega arith in ap (λ n. take n (x ∷ xs)) same
split_take (suc a) b [] = take_nothing (suc a + b) ∙ sym (take_nothing b)
split_take (suc a) b (x ∷ xs) =
    let same : suc a + b ≡ suc (a + b) = omega arith in
    ap (λ n. take n (x ∷ xs)) same ∙ ap (λ rest. x ∷ rest) (split_take a b xs)

pub distinct_back : (xs ys : List Text) → are_distinct (xs ++ ys) ≡ true → are_distinct ys ≡ true
distinct_back [] ys h = h
distinct_back (x ∷ xs) ys h = distinct_back xs ys (and_second (not (is_among x (xs ++ ys))) (are_distinct (xs ++ ys)) h)

named_all : (vars : List Var) → list_all is_name (names_of vars) ≡ true → list_all (λ (var : Var). is_name var.name) vars ≡ true
named_all [] all = refl
named_all (var ∷ vars) all =
    and_from (is_name var.name) (list_all (λ (var : Var). is_name var.name) vars) (and_first (is_name var.name) (list_all is_name (names_of vars)) all)
    (named_all vars (and_second (is_name var.name) (list_all is_name (names_of vars)) all))

all_named : (vars : List Var) → list_all (λ (var : Var). is_name var.name) vars ≡ true → list_all is_name (names_of vars) ≡ true
all_named [] all = refl
all_named (var ∷ vars) all =
    and_from (is_name var.name) (list_all is_name (names_of vars)) (and_first (is_name var.name) (list_all (λ (var : Var). is_name var.name) vars) all)
    (all_named vars (and_second (is_name var.name) (list_all (λ (var : Var). is_name var.name) vars) all))

module _ (unit : UnitDef) (scalars : list_all is_scalar_var (parameters_of unit) ≡ true) (named : list_all is_name (names_of unit.vars) ≡ true)
    (distinct : are_distinct (names_of (parameters_of unit)) ≡ true) where
  parts_are : parameters_of unit ≡ inputs_of unit ++ outputs_of unit
  parts_are = split_take unit.inputs unit.outputs unit.vars

  scalars_both : (list_all is_scalar_var (inputs_of unit) && list_all is_scalar_var (outputs_of unit)) ≡ true
  scalars_both = sym (list_all-append is_scalar_var (inputs_of unit) (outputs_of unit)) ∙ ap (list_all is_scalar_var) (sym parts_are) ∙ scalars

  distinct_both : are_distinct (names_of (inputs_of unit) ++ names_of (outputs_of unit)) ≡ true
  distinct_both =
      ap are_distinct (sym (map-append (λ (var : Var). var.name) (inputs_of unit) (outputs_of unit)))
      ∙ ap (λ vars. are_distinct (names_of vars)) (sym parts_are) ∙ distinct

  pub inputs_ports : Ports (inputs_of unit)
  inputs_ports = record {
    scalars = and_first (list_all is_scalar_var (inputs_of unit)) (list_all is_scalar_var (outputs_of unit)) scalars_both;
    names = all_named (inputs_of unit) (taken_all (λ (var : Var). is_name var.name) unit.inputs unit.vars (named_all unit.vars named));
    differ = distinct_front (names_of (inputs_of unit)) (names_of (outputs_of unit)) distinct_both;
  }

  pub outputs_ports : Ports (outputs_of unit)
  outputs_ports = record {
    scalars = and_second (list_all is_scalar_var (inputs_of unit)) (list_all is_scalar_var (outputs_of unit)) scalars_both;
    names = all_named (outputs_of unit)
        (taken_all (λ (var : Var). is_name var.name) unit.outputs (drop unit.inputs unit.vars)
        (dropped_all (λ (var : Var). is_name var.name) unit.inputs unit.vars (named_all unit.vars named)));
    differ = distinct_back (names_of (inputs_of unit)) (names_of (outputs_of unit)) distinct_both;
  }

-- ---- ports

input_long : (b : ℕ) (rest : Text) → nat_lt (length (codes "i_")) (length (codes "i_" ++ b ∷ rest)) ≡ true
input_long b rest = grind (arith, nat_tests)

output_long : (b : ℕ) (rest : Text) → nat_lt (length (codes "o_")) (length (codes "o_" ++ b ∷ rest)) ≡ true
output_long b rest = grind (arith, nat_tests)

module _ (structs : List StructDef) where
  type_scalar : (ty : Ty) (s : Option ScalarType) → scalar_in ty ≡ s → is_some s ≡ true →
      (t : ScalarType) × (c_type structs ty ≡ OfScalar (c_scalar t))
  type_scalar ty None is some = absurd (cc)
  type_scalar ty (Some t) is some = (t, c_scalar_type structs ty t is)

  input_port : (name : Text) (ty : CType) → is_name name ≡ true → is_scalar ty ≡ true →
      is_port (codes "i_") (record { ty = ty; name = codes "i_" ++ name; length = None }) ≡ true
  input_port [] ty named scalar = absurd (cc)
  input_port (b ∷ rest) ty named scalar =
      and_from (nat_lt (length (codes "i_")) (length (codes "i_" ++ b ∷ rest))) (is_scalar ty && true) (input_long b rest)
      (and_from (is_scalar ty) true scalar refl)

  output_port : (name : Text) (ty : CType) → is_name name ≡ true → is_scalar ty ≡ true →
      is_port (codes "o_") (record { ty = ty; name = codes "o_" ++ name; length = None }) ≡ true
  output_port [] ty named scalar = absurd (cc)
  output_port (b ∷ rest) ty named scalar =
      and_from (nat_lt (length (codes "o_")) (length (codes "o_" ++ b ∷ rest))) (is_scalar ty && true) (output_long b rest)
      (and_from (is_scalar ty) true scalar refl)

  scalar_there : (var : Var) → is_scalar_var var ≡ true → is_scalar (c_type structs var.ty) ≡ true
  scalar_there var is = let found = type_scalar var.ty (scalar_in var.ty) refl is in ap is_scalar found.1

  input_ports : (vars : List Var) → list_all is_scalar_var vars ≡ true → list_all is_name (names_of vars) ≡ true →
      list_all (is_port (codes "i_")) (map (port_member structs (codes "i_")) vars) ≡ true
  input_ports [] scalars named = refl
  input_ports (var ∷ vars) scalars named =
      and_from (is_port (codes "i_") (port_member structs (codes "i_") var)) (list_all (is_port (codes "i_")) (map (port_member structs (codes "i_")) vars))
      (input_port var.name (c_type structs var.ty) (and_first (is_name var.name) (list_all is_name (names_of vars)) named)
      (scalar_there var (and_first (is_scalar_var var) (list_all is_scalar_var vars) scalars)))
      (input_ports vars (and_second (is_scalar_var var) (list_all is_scalar_var vars) scalars)
      (and_second (is_name var.name) (list_all is_name (names_of vars)) named))

  output_ports : (vars : List Var) → list_all is_scalar_var vars ≡ true → list_all is_name (names_of vars) ≡ true →
      list_all (is_port (codes "o_")) (map (port_member structs (codes "o_")) vars) ≡ true
  output_ports [] scalars named = refl
  output_ports (var ∷ vars) scalars named =
      and_from (is_port (codes "o_") (port_member structs (codes "o_") var)) (list_all (is_port (codes "o_")) (map (port_member structs (codes "o_")) vars))
      (output_port var.name (c_type structs var.ty) (and_first (is_name var.name) (list_all is_name (names_of vars)) named)
      (scalar_there var (and_first (is_scalar_var var) (list_all is_scalar_var vars) scalars)))
      (output_ports vars (and_second (is_scalar_var var) (list_all is_scalar_var vars) scalars)
      (and_second (is_name var.name) (list_all is_name (names_of vars)) named))

  -- ---- names of members

  module _ (prefix : Text) (same : (a b : Text) → bytes_eq (prefix ++ a) (prefix ++ b) ≡ bytes_eq a b)
      (other : (a : Text) → bytes_eq (codes "pad") (prefix ++ a) ≡ false) where
    abbrev port_names : List Var → List Text
    port_names vars = map (λ (m : CMember). m.name) (map (port_member structs prefix) vars)

    among_same : (name : Text) (vars : List Var) → is_among (prefix ++ name) (port_names vars) ≡ is_among name (names_of vars)
    among_same name [] = refl
    among_same name (var ∷ vars) = λ i. same name var.name i || among_same name vars i

    ports_differ : (vars : List Var) → are_distinct (names_of vars) ≡ true → are_distinct (port_names vars) ≡ true
    ports_differ [] differ = refl
    ports_differ (var ∷ vars) differ =
        and_from (not (is_among (prefix ++ var.name) (port_names vars))) (are_distinct (port_names vars))
        (ap not (among_same var.name vars) ∙ and_first (not (is_among var.name (names_of vars))) (are_distinct (names_of vars)) differ)
        (ports_differ vars (and_second (not (is_among var.name (names_of vars))) (are_distinct (names_of vars)) differ))

    no_pad : (vars : List Var) → is_among (codes "pad") (port_names vars) ≡ false
    no_pad [] = refl
    no_pad (var ∷ vars) = λ i. other var.name i || no_pad vars i

    pub members_differ : (name : Text) (vars : List Var) → are_distinct (names_of vars) ≡ true →
        are_distinct (member_names (port_struct structs name prefix vars)) ≡ true
    members_differ name vars differ =
        and_from (not (is_among (codes "pad") (port_names vars))) (are_distinct (port_names vars)) (ap not (no_pad vars)) (ports_differ vars differ)

  pub inputs_differ : (vars : List Var) → Ports vars → are_distinct (member_names (port_struct structs (codes "bl_in") (codes "i_") vars)) ≡ true
  inputs_differ vars ports = members_differ (codes "i_") (λ a b. refl) (λ a. refl) (codes "bl_in") vars ports.differ

  pub outputs_differ : (vars : List Var) → Ports vars → are_distinct (member_names (port_struct structs (codes "bl_out") (codes "o_") vars)) ≡ true
  outputs_differ vars ports = members_differ (codes "o_") (λ a b. refl) (λ a. refl) (codes "bl_out") vars ports.differ

  pub inputs_fit : (vars : List Var) → Ports vars → interface_fits (port_struct structs (codes "bl_in") (codes "i_") vars) ≡ true
  inputs_fit vars ports = input_ports vars ports.scalars ports.names

  pub outputs_fit : (vars : List Var) → Ports vars → interface_fits (port_struct structs (codes "bl_out") (codes "o_") vars) ≡ true
  outputs_fit vars ports = output_ports vars ports.scalars ports.names

  -- ---- types of members

  one_of : {A : Type 0} (test : A → Bool) (xs : List A) (x : A) → list_all test xs ≡ true → Contains xs x → test x ≡ true
  one_of test [] x all has = absurd (contains_none x has)
  one_of test (y ∷ xs) x all has =
      ⊎_elim (λ is. subst (λ x. test x ≡ true) is (and_first (test y) (list_all test xs) all))
      (λ later. one_of test xs x (and_second (test y) (list_all test xs) all) later) (first_or_further y xs x has)

  -- the members of a struct of ports are scalars
  pub port_scalar : (name prefix : Text) (vars : List Var) → Ports vars → (m : CMember) → Contains (port_struct structs name prefix vars).members m →
      (t : ScalarType) × (m.ty ≡ OfScalar t)
  port_scalar name prefix vars ports m has =
      ⊎_elim (λ is. (_, ap (λ (m : CMember). m.ty) (sym is)))
      (λ behind.
      let found = from_map (port_member structs prefix) vars m behind in
      let ty = type_scalar found.0.ty (scalar_in found.0.ty) refl (one_of is_scalar_var vars found.0 ports.scalars found.1) in
      (c_scalar ty.0, ap (λ (m : CMember). m.ty) (sym found.2) ∙ ty.1)) (first_or_further _ (map (port_member structs prefix) vars) m has)

-- the members of the state are the structs of the entry
pub record OfState (name : Text) (remembers : Bool) (m : CMember) : Type 0 where
  pub frame : Bool
  pub is : m.ty ≡ OfStruct (if frame then frame_name name else memory_name name)
  pub tells : frame ≡ false → remembers ≡ true

pub state_members : (name : Text) (remembers : Bool) (m : CMember) → Contains (state_struct name remembers).members m → OfState name remembers m
state_members name false m has =
    ⊎_elim (λ is. record { frame = true; is = ap (λ (m : CMember). m.ty) (sym is); tells = λ never. absurd (differs never) })
    (λ none. absurd (contains_none m none)) (first_or_further (struct_member (codes "f") (frame_name name)) [] m has)
  where
    differs : true ≡ false → ⊥
    differs h = absurd (cc)
state_members name true m has =
    ⊎_elim (λ is. record { frame = true; is = ap (λ (m : CMember). m.ty) (sym is); tells = λ never. refl })
    (λ rest. ⊎_elim (λ is. record { frame = false; is = ap (λ (m : CMember). m.ty) (sym is); tells = λ so. refl })
    (λ none. absurd (contains_none m none)) (first_or_further (struct_member (codes "m") (memory_name name)) [] m rest))
    (first_or_further (struct_member (codes "f") (frame_name name)) (struct_member (codes "m") (memory_name name) ∷ []) m has)

pub state_differs : (name : Text) (remembers : Bool) → are_distinct (member_names (state_struct name remembers)) ≡ true
state_differs name false = refl
state_differs name true = refl
