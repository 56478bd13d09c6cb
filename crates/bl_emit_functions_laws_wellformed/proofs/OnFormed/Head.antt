-- No clause fails in the head of the C function of a function.
use Rattle.std.proofs.Common.{◌≡◌, ℕ, zero, suc, ◌+◌, ◌<◌, ◌≤◌, ◌^◌, Bool, true, false, not, ◌&&◌, ◌||◌, List, []}
use Rattle.std.proofs.Common.{◌∷◌, ◌++◌, map, take, length, Option, Some}
use Rattle.std.proofs.Common.{None, refl, sym, ap, ◌∙◌, subst, arith, append_assoc, codes}
use Rattle.std.proofs.lemmas.Bool.Decides.{nat_tests}
use Rattle.std.proofs.lemmas.List.{length-drop, map-append}
use Rattle.std.proofs.lemmas.List.Folds.{list_any-append}
use Rattle.std.proofs.lemmas.Option.{slice_get_within}
use Rattle.std.proofs.lemmas.Slice.Eq.{bytes_eq-Decides}
use Rattle.std.specs.Prelude.{bytes_eq, is_none, is_some, nat_le, option_map, slice_get}
use Rattle.std.specs.List.{list_all, list_any}
use Rattle.std.proofs.lemmas.Bool.{and_from, not-true, or_from}
use Rattle.bl_tree.proofs.Basics.{all_append, and_first, and_second, neither_first, neither_second}
use Rattle.bl_tree.specs.declared.text.Text.{Text}
use Rattle.bl_tree.specs.declared.c.CExpr.{CExpr}
use Rattle.bl_tree.specs.declared.c.CFunc.{CFunc}
use Rattle.bl_tree.specs.declared.c.CLocal.{CLocal}
use Rattle.bl_tree.specs.declared.c.CMember.{CMember}
use Rattle.bl_tree.specs.declared.c.CParam.{CParam}
use Rattle.bl_tree.specs.declared.c.CStmt.{CStmt, fold-roll-CStmt, roll-CStmt}
use Rattle.bl_tree.specs.declared.c.CStmtKind.{CStmtKind, CStmtKind-F, fold-roll-CStmtKind, roll-CStmtKind}
use Rattle.bl_tree.specs.declared.c.CStmtKind.TheVariants as statement
use Rattle.bl_tree.specs.declared.scalar.Scalar.{Scalar as ScalarType}
use Rattle.bl_tree.specs.declared.tree.StructDef.{StructDef}
use Rattle.bl_tree.specs.declared.tree.Ty.{Ty}
use Rattle.bl_tree.specs.declared.tree.Unit.{Unit as UnitDef}
use Rattle.bl_tree.specs.declared.tree.Var.{Var}
use Rattle.bl_tree.specs.Program.{IsWellTyped, is_output, locals_of, parameters_of, roles_stand}
use Rattle.bl_tree.specs.Types.{scalar_in, type_stands}
use Rattle.bl_tree.specs.Typing.{TypingContext, inputs_of, is_activity, site_of, var_at}
use Rattle.bl_tree.specs.Words.{are_distinct, is_among}
use Rattle.bl_ctext_semantics.specs.Faults.{Context, Signature, all_distinct, declared_before, depth_of_function, distinct_names, faults_in_head}
use Rattle.bl_ctext_semantics.specs.Faults.{is_declared, is_scalar, last_or, last_returns, returns_result, scalar_parameter, short_chain}
use Rattle.bl_ctext_semantics.specs.Faults.{surely_returns, variable_names}
use Rattle.bl_ctext_semantics.specs.Tables.{Table, no_entries}
use Rattle.bl_emit_acts.specs.Places.{home_of}
use Rattle.bl_emit_acts.specs.Trees.{nowhere}
use Rattle.bl_emit_acts.specs.Types.{c_scalar, c_type, variable_name}
use Rattle.bl_emit_structs.specs.Structs.{arrays_of}
use Rattle.bl_emit_functions.specs.Functions.{again_code, body_code, body_coded, code_returns, copies_from, end_code, flag_local, flag_locals}
use Rattle.bl_emit_functions.specs.Functions.{function_code, has_local, holds_any, is_held, locals_from, member_of, members_from, memory_local}
use Rattle.bl_emit_functions.specs.Functions.{memory_name, param_of, params_from, struct_of, variable_local, variable_locals}
use Rattle.bl_emit_functions.specs.Trees.{c_return, flag_name}
use Rattle.bl_emit_acts_laws_wellformed.specs.Formed.Declared.{AreDeclared}
use Rattle.bl_emit_acts_laws_wellformed.proofs.OnFormed.Judged.{kept}
use Rattle.bl_emit_acts_laws_wellformed.proofs.OnFormed.Parts.{c_scalar_type}
use Rattle.bl_emit_acts_laws_wellformed.proofs.OnFormed.TypeNames.{type_declared, whole_type}
use Rattle.bl_emit_acts_laws_wellformed.proofs.OnFormed.Units.{roles_at, taken_there}
use Rattle.bl_emit_structs_laws_wellformed.proofs.OnFormed.Faultless.{all_differ}
use Rattle.bl_emit_functions_laws_simulation.proofs.OnCalls.Locals.{parameters_many, parameters_within}
use Rattle.bl_emit_functions_laws_wellformed.specs.Formed.{IsNumbered, StandsBefore}
use Rattle.bl_emit_functions_laws_wellformed.proofs.OnFormed.Kept.{all_made, every, kept_differ, locals_made, map_made, names_from}
use Rattle.bl_emit_functions_laws_wellformed.proofs.OnFormed.Kept.{other_name, params_made, variables_differ}
use Rattle.bl_emit_functions_laws_wellformed.proofs.OnFormed.Locals.{locals_behind}
use Rattle.bl_emit_functions_laws_wellformed.proofs.OnFormed.Lookups.{numbers_differ}
use Rattle.bl_emit_functions_laws_wellformed.proofs.OnFormed.Variables.{declared_here, my_context, my_site, typed_here}

-- ---- names of parameters and locals differ

abbrev local_names : List CLocal → List Text
local_names locals = map (λ (l : CLocal). l.name) locals

swapped : (a b : Text) → bytes_eq a b ≡ false → bytes_eq b a ≡ false
swapped a b other = by (bytes_eq b a) refl
  where
    by : (y : Bool) → bytes_eq b a ≡ y → y ≡ false
    by false is = refl
    by true is = absurd (let no : true ≡ false = sym ((bytes_eq-Decides a b).1 (sym ((bytes_eq-Decides b a).0 is))) ∙ other in cc)

-- what is among neither is not among and_from
pub among_neither : (x : Text) (xs ys : List Text) → is_among x xs ≡ false → is_among x ys ≡ false → is_among x (xs ++ ys) ≡ false
among_neither x xs ys one other = list_any-append (bytes_eq x) xs ys ∙ (λ i. one i || other i)

distinct_push : (xs : List Text) (x : Text) → are_distinct xs ≡ true → is_among x xs ≡ false → are_distinct (xs ++ x ∷ []) ≡ true
distinct_push [] x differ new = refl
distinct_push (y ∷ xs) x differ new =
    and_from (not (is_among y (xs ++ x ∷ []))) (are_distinct (xs ++ x ∷ []))
    (ap not (among_neither y xs (x ∷ []) (not-true (is_among y xs) (and_first (not (is_among y xs)) (are_distinct xs) differ))
    (or_from (bytes_eq y x) false (swapped x y (neither_first (bytes_eq x y) (is_among x xs) new)) refl)))
    (distinct_push xs x (and_second (not (is_among y xs)) (are_distinct xs) differ) (neither_second (bytes_eq x y) (is_among x xs) new))

names_append : (xs ys : List CLocal) → local_names (xs ++ ys) ≡ local_names xs ++ local_names ys
names_append xs ys = map-append (λ (l : CLocal). l.name) xs ys

-- a name that no flag has
flags_other : (x : Text) (n : ℕ) → ((k : ℕ) → k < n → bytes_eq x (flag_name k) ≡ false) → is_among x (local_names (flag_locals n)) ≡ false
flags_other x zero other = refl
flags_other x (suc n) other =
    ap (is_among x) (names_append (flag_locals n) (flag_local n ∷ []))
    ∙ among_neither x (local_names (flag_locals n)) (local_names (flag_local n ∷ []))
    (flags_other x n (λ k less. let more : k < suc n = omega (arith, less) in other k more))
    (or_from (bytes_eq x (flag_name n)) false (let last : n < suc n = omega arith in other n last) refl)

flags_differ : (n : ℕ) → n ≤ 2 ^ 64 → are_distinct (local_names (flag_locals n)) ≡ true
flags_differ zero few = refl
flags_differ (suc n) few =
    ap are_distinct (names_append (flag_locals n) (flag_local n ∷ []))
    ∙ distinct_push (local_names (flag_locals n)) (flag_name n) (flags_differ n (let le : n ≤ 2 ^ 64 = omega (arith, few) in le))
    (flags_other (flag_name n) n (λ k less. let small : n < 2 ^ 64 = omega (arith, few) in swapped (flag_name k)
    (flag_name n) (numbers_differ 113 k n less small)))

-- two lists of names that differ, none of which is in and_from
distinct_append : (xs ys : List Text) → are_distinct xs ≡ true → are_distinct ys ≡ true → list_all (λ x. not (is_among x ys)) xs ≡ true →
    are_distinct (xs ++ ys) ≡ true
distinct_append [] ys one other apart = other
distinct_append (x ∷ xs) ys one other apart =
    and_from (not (is_among x (xs ++ ys))) (are_distinct (xs ++ ys))
    (ap not (among_neither x xs ys (not-true (is_among x xs) (and_first (not (is_among x xs)) (are_distinct xs) one))
    (not-true (is_among x ys) (and_first (not (is_among x ys)) (list_all (λ x. not (is_among x ys)) xs) apart))))
    (distinct_append xs ys (and_second (not (is_among x xs)) (are_distinct xs) one) other
    (and_second (not (is_among x ys)) (list_all (λ x. not (is_among x ys)) xs) apart))

module _ (structs : List StructDef) (earlier : List UnitDef) (unit : UnitDef) (roles : roles_stand unit ≡ true) (few : length unit.vars ≤ 2 ^ 64) where
  abbrev here : TypingContext
  here = site_of structs earlier unit

  -- how many parameters the unit has
  abbrev params : ℕ
  params = unit.inputs + unit.outputs

  -- the names of the variables that are locals by themselves
  abbrev variable_names_here : List Text
  variable_names_here = names_from unit.vars (has_local here) params (locals_of unit)

  room_behind : params + length (locals_of unit) ≤ 2 ^ 64
  room_behind = let long = length-drop params unit.vars in let within = parameters_within structs earlier unit roles in omega (arith, few, long, within)

  -- the locals without the struct of variables: variables by themselves, and flags
  abbrev single_locals : ℕ → List CLocal
  single_locals n = locals_from here 0 unit.vars ++ flag_locals n

  singles_named : (n : ℕ) → local_names (single_locals n) ≡ variable_names_here ++ local_names (flag_locals n)
  singles_named n =
      names_append (locals_from here 0 unit.vars) (flag_locals n)
      ∙ ap (λ (locals : List CLocal). local_names locals ++ local_names (flag_locals n))
      (locals_behind structs earlier unit roles ∙ locals_made here params (locals_of unit))
      ∙ ap (λ (names : List Text). names ++ local_names (flag_locals n))
      (map_made (λ (l : CLocal). l.name) (has_local here) (variable_local structs unit.vars) params (locals_of unit))

  -- a name that neither a variable behind the parameters nor a flag has
  single_other : (n : ℕ) (x : Text) → ((k : ℕ) → params ≤ k → k < 2 ^ 64 → bytes_eq x (variable_name unit.vars k) ≡ false) →
      ((k : ℕ) → bytes_eq x (flag_name k) ≡ false) → is_among x (local_names (single_locals n)) ≡ false
  single_other n x no_variable no_flag =
      let room = room_behind in
      ap (is_among x) (singles_named n)
      ∙ among_neither x variable_names_here (local_names (flag_locals n))
      (other_name unit.vars (has_local here) x params (locals_of unit) (λ k low high. no_variable k low (omega (arith, high, room))))
      (flags_other x n (λ k less. no_flag k))

  singles_differ : (n : ℕ) → n ≤ 2 ^ 64 → are_distinct (local_names (single_locals n)) ≡ true
  singles_differ n most =
      ap are_distinct (singles_named n)
      ∙ distinct_append variable_names_here (local_names (flag_locals n))
      (kept_differ unit.vars (has_local here) params (locals_of unit) room_behind) (flags_differ n most)
      (all_made (λ x. not (is_among x (local_names (flag_locals n)))) (has_local here) (λ k var. variable_name unit.vars k) params (locals_of unit)
      (λ k j var at found. ap not (flags_other (variable_name unit.vars k) n (λ i less. refl))))

  locals_differ : (n : ℕ) → n ≤ 2 ^ 64 → (holds : Bool) → are_distinct (local_names (memory_local unit.name holds ++ single_locals n)) ≡ true
  locals_differ n most false = singles_differ n most
  locals_differ n most true =
      and_from (not (is_among (codes "m") (local_names (single_locals n)))) (are_distinct (local_names (single_locals n)))
      (ap not (single_other n (codes "m") (λ k low high. refl) (λ k. refl))) (singles_differ n most)

  -- no parameter has a local's name
  param_other : (n k : ℕ) → k < params → (holds : Bool) →
      is_among (variable_name unit.vars k) (local_names (memory_local unit.name holds ++ single_locals n)) ≡ false
  param_other n k less holds =
      by holds
      (single_other n (variable_name unit.vars k) (λ j low high. variables_differ unit.vars k j (omega (arith, less, low)) high) (λ j. refl))
    where
      by : (holds : Bool) → is_among (variable_name unit.vars k) (local_names (single_locals n)) ≡ false →
          is_among (variable_name unit.vars k) (local_names (memory_local unit.name holds ++ single_locals n)) ≡ false
      by true rest = rest
      by false rest = rest

  -- the names of parameters and locals
  abbrev names_here : ℕ → Bool → List Text
  names_here n holds = map (λ (p : CParam). p.name) (params_from structs unit.vars 0 (parameters_of unit))
      ++ local_names (memory_local unit.name holds ++ single_locals n)

  params_named : map (λ (p : CParam). p.name) (params_from structs unit.vars 0 (parameters_of unit))
      ≡ names_from unit.vars every 0 (parameters_of unit)
  params_named =
      ap (map (λ (p : CParam). p.name)) (params_made structs unit.vars 0 (parameters_of unit))
      ∙ map_made (λ (p : CParam). p.name) every (param_of structs unit.vars) 0 (parameters_of unit)

  all_names_differ : (n : ℕ) → n ≤ 2 ^ 64 → (holds : Bool) → are_distinct (names_here n holds) ≡ true
  all_names_differ n most holds =
      let locals : List Text = local_names (memory_local unit.name holds ++ single_locals n) in
      let within = parameters_within structs earlier unit roles in
      let many : length (parameters_of unit) ≡ params = parameters_many structs earlier unit roles in
      ap (λ (names : List Text). are_distinct (names ++ locals)) params_named
      ∙ distinct_append (names_from unit.vars every 0 (parameters_of unit)) locals
      (kept_differ unit.vars every 0 (parameters_of unit) (omega (arith, few, within, many))) (locals_differ n most holds)
      (all_made (λ x. not (is_among x locals)) every (λ k var. variable_name unit.vars k) 0 (parameters_of unit)
      (λ k j var at found.
      let inside : j < length (parameters_of unit) = slice_get_within (parameters_of unit) j var found in
      ap not (param_other n k (omega (arith, at, inside, many)) holds)))

module _ (structs : List StructDef) where
  -- a parameter that is no pointer is a scalar
  scalar_or_pointer : (var : Var) (s : Option ScalarType) → scalar_in var.ty ≡ s →
      ((is_output var.role || is_none s) || is_scalar (c_type structs var.ty)) ≡ true
  scalar_or_pointer var None is = by (is_output var.role)
    where
      by : (b : Bool) → ((b || true) || is_scalar (c_type structs var.ty)) ≡ true
      by true = refl
      by false = refl
  scalar_or_pointer var (Some s) is = by (is_output var.role)
    where
      by : (b : Bool) → ((b || false) || is_scalar (c_type structs var.ty)) ≡ true
      by true = refl
      by false = ap is_scalar (c_scalar_type structs var.ty s is)

-- ---- returns

pub return-returns : (value : Option CExpr) → surely_returns (c_return value) ≡ true
return-returns value =
    subst (λ (k : CStmtKind). surely_returns (roll-CStmt (record { place = nowhere; what = k })) ≡ true) (statement.rolls-Return value) (form value)
  where
    form : (value : Option CExpr) → surely_returns (roll-CStmt (record { place = nowhere; what = roll-CStmtKind (CStmtKind-F.Return value) })) ≡ true
    form value = rw (fold-roll-CStmt, fold-roll-CStmtKind) refl

-- the last of a list behind another
last_append : (other : Bool) (xs ys : List CStmt) → last_or other (map surely_returns (xs ++ ys)) ≡ last_or
    (last_or other (map surely_returns xs)) (map surely_returns ys)
last_append other [] ys = refl
last_append other (x ∷ xs) ys = last_append (surely_returns x) xs ys

-- so it does where other statements come before
returns_behind : (returns : List Bool) (x : Bool) → last_or false returns ≡ true → last_or x returns ≡ true
returns_behind [] x is = absurd (cc)
returns_behind (b ∷ rest) x is = is

module _ (site : TypingContext) where
  whole_returns : (x : Bool) (unit : UnitDef) (s : ScalarType) (b : Bool) → code_returns (body_coded site unit).code ≡ b →
      last_or x (map surely_returns (copies_from site 0 (inputs_of unit) ++ ((body_coded site unit).code ++ end_code (Some s) b))) ≡ true
  whole_returns x unit s b is =
      last_append x (copies_from site 0 (inputs_of unit)) ((body_coded site unit).code ++ end_code (Some s) b)
      ∙ last_append _ (body_coded site unit).code (end_code (Some s) b) ∙ by b is
    where
      by : (b : Bool) → code_returns (body_coded site unit).code ≡ b →
          last_or (last_or (last_or x (map surely_returns (copies_from site 0 (inputs_of unit)))) (map surely_returns (body_coded site unit).code))
          (map surely_returns (end_code (Some s) b))
          ≡ true
      by true is = returns_behind (map surely_returns (body_coded site unit).code) _ is
      by false is = return-returns _

  pub surely : (read : List CStmt) (unit : UnitDef) (r : Option ScalarType) →
      (is_none (option_map c_scalar r) || last_returns (map surely_returns (read ++ (copies_from site 0 (inputs_of unit)
      ++ ((body_coded site unit).code ++ end_code r (code_returns (body_coded site unit).code))))))
      ≡ true
  surely read unit None = refl
  surely read unit (Some s) =
      last_append false read
      (copies_from site 0 (inputs_of unit) ++ ((body_coded site unit).code ++ end_code (Some s) (code_returns (body_coded site unit).code)))
      ∙ whole_returns (last_or false (map surely_returns read)) unit s (code_returns (body_coded site unit).code) refl

-- ---- the head

module _ (structs : List StructDef) (units : List UnitDef) (entry k : ℕ) (unit : UnitDef) (keeps : IsWellTyped structs units entry)
    (there : slice_get units k ≡ Some unit)
    (function : is_activity unit.kind ≡ false) (table : Table (Table CMember)) (functions : Table Signature)
    (before : StandsBefore structs units k unit table functions) (numbers : IsNumbered structs (take k units) unit) where
  abbrev site : TypingContext
  site = my_site structs units entry k unit keeps there function table functions before numbers

  abbrev context : Context
  context = my_context structs units entry k unit keeps there function table functions before numbers

  abbrev f : CFunc
  f = function_code structs (take k units) unit

  -- ---- names

  names_differ : all_distinct no_entries (variable_names f) ≡ true
  names_differ =
      all_differ (variable_names f)
      (ap (λ (locals : List CLocal). are_distinct (map (λ (p : CParam). p.name) f.params ++ local_names locals))
      (append_assoc (memory_local unit.name (holds_any site unit.vars)) (locals_from site 0 unit.vars) (flag_locals (body_coded site unit).free.flags))
      ∙ all_names_differ structs (take k units) unit (roles_at structs units entry keeps k unit there) numbers.variables
      (body_coded site unit).free.flags numbers.flags (holds_any site unit.vars))

  -- ---- types

  declared_level : (ty : Ty) (s : Option ScalarType) → scalar_in ty ≡ s → type_stands
      (length structs) ty ≡ true → AreDeclared table (arrays_of structs ty) →
      is_declared table (c_type structs ty) ≡ true
  declared_level ty (Some s) is stands arrays = ap (is_declared table) (c_scalar_type structs ty s is)
  declared_level ty None is stands arrays =
      ap (is_declared table) (whole_type structs ty is)
      ∙ type_declared structs context (declared_here structs units entry k unit keeps there function table functions before numbers).types.definitions
      ty stands is arrays

  var_declared : (j : ℕ) (var : Var) → var_at site j ≡ Some var → is_declared table (c_type structs var.ty) ≡ true
  var_declared j var found =
      declared_level var.ty (scalar_in var.ty) refl (typed_here structs units entry k unit keeps there function table functions before numbers j var found)
      ((declared_here structs units entry k unit keeps there function table functions before numbers).types.variables j var found)

  params_declared : list_all (λ (p : CParam). is_declared table p.ty) f.params ≡ true
  params_declared =
      ap (list_all (λ (p : CParam). is_declared table p.ty)) (params_made structs unit.vars 0 (parameters_of unit))
      ∙ all_made (λ (p : CParam). is_declared table p.ty) every (param_of structs unit.vars) 0 (parameters_of unit)
      (λ i j var at found. var_declared j var (taken_there unit.vars (unit.inputs + unit.outputs) j var found))

  params_scalar : list_all (λ (p : CParam). p.pointer || is_scalar p.ty) f.params ≡ true
  params_scalar =
      ap (list_all (λ (p : CParam). p.pointer || is_scalar p.ty)) (params_made structs unit.vars 0 (parameters_of unit))
      ∙ all_made (λ (p : CParam). p.pointer || is_scalar p.ty) every (param_of structs unit.vars) 0 (parameters_of unit)
      (λ i j var at found. scalar_or_pointer structs var (scalar_in var.ty) refl)

  -- a unit that holds a variable has a struct
  members_some : (base : ℕ) (vars : List Var) → list_any (λ (var : Var). is_held (home_of site (Some var))) vars ≡ true → (m : CMember) ×
      ((rest : List CMember) × (members_from site base vars ≡ m ∷ rest))
  members_some base [] h = absurd (cc)
  members_some base (v ∷ vars) h = by (is_held (home_of site (Some v))) h (members_some (base + 1) vars)
    where
      by : (b : Bool) → (b || list_any (λ (var : Var). is_held (home_of site (Some var))) vars) ≡ true →
          (list_any (λ (var : Var). is_held (home_of site (Some var))) vars ≡ true → (m : CMember) × ((rest : List CMember)
          × (members_from site (base + 1) vars ≡ m ∷ rest))) →
          (m : CMember) × ((rest : List CMember) × (member_of b structs unit.vars base v ++ members_from site (base + 1) vars ≡ m ∷ rest))
      by true h later = (_, (_, refl))
      by false h later = later h

  memory_there : (members : List CMember) (m : CMember) (rest : List CMember) → members ≡ m ∷ rest → AreDeclared table (struct_of unit.name members) →
      is_some (table (memory_name unit.name)) ≡ true
  memory_there [] m rest is declared = absurd (cc)
  memory_there (first ∷ more) m rest is declared = ap is_some (declared _ (0, omega arith, refl))

  flags_declared : (n : ℕ) → list_all (λ (l : CLocal). is_declared table l.ty) (flag_locals n) ≡ true
  flags_declared zero = refl
  flags_declared (suc n) =
      all_append (λ (l : CLocal). is_declared table l.ty) (flag_locals n) (flag_local n ∷ []) (flags_declared n) refl

  variables_declared : list_all (λ (l : CLocal). is_declared table l.ty) (locals_from site 0 unit.vars) ≡ true
  variables_declared =
      ap (list_all (λ (l : CLocal). is_declared table l.ty)) (locals_made site 0 unit.vars)
      ∙ all_made (λ (l : CLocal). is_declared table l.ty) (has_local site) (variable_local structs unit.vars) 0 unit.vars
      (λ i j var at found. var_declared j var found)

  memory_declared : (holds : Bool) → holds_any site unit.vars ≡ holds →
      list_all (λ (l : CLocal). is_declared table l.ty) (memory_local unit.name holds) ≡ true
  memory_declared false is = refl
  memory_declared true is =
      let some = members_some 0 unit.vars is in
      and_from (is_some (table (memory_name unit.name))) true
      (memory_there (members_from site 0 unit.vars) some.0 some.1.0 some.1.1 before.memory) refl

  locals_declared : list_all (λ (l : CLocal). is_declared table l.ty) f.locals ≡ true
  locals_declared =
      let memory : List CLocal = memory_local unit.name (holds_any site unit.vars) in
      all_append (λ (l : CLocal). is_declared table l.ty) (variable_locals site unit) (flag_locals (body_coded site unit).free.flags)
      (all_append (λ (l : CLocal). is_declared table l.ty) memory (locals_from site 0 unit.vars) (memory_declared (holds_any site unit.vars) refl)
      variables_declared)
      (flags_declared (body_coded site unit).free.flags)

  at_most : (n : ℕ) → n ≤ 300 → nat_le n 300 ≡ true
  at_most n le = grind (arith, nat_tests)

  absent : {A : Type 0} (o : Option A) → o ≡ None → is_none o ≡ true
  absent None is = refl
  absent (Some x) is = absurd (cc)

  -- nothing fails before the statements
  pub head_is : (depths : Table ℕ) → functions f.name ≡ None → depth_of_function depths f ≤ 300
      → faults_in_head table functions depths false f ≡ []
  head_is depths new short =
      let one = kept (is_none (functions f.name)) distinct_names f.place (absent (functions f.name) new) in
      let two = kept (all_distinct no_entries (variable_names f)) distinct_names f.place names_differ in
      let three = kept (list_all (λ (p : CParam). is_declared table p.ty) f.params && list_all (λ (l : CLocal). is_declared table l.ty) f.locals)
      declared_before
      f.place
      (and_from (list_all (λ (p : CParam). is_declared table p.ty) f.params) (list_all (λ (l : CLocal). is_declared table l.ty) f.locals) params_declared
      locals_declared) in
      let four = kept (list_all (λ (p : CParam). p.pointer || is_scalar p.ty) f.params) scalar_parameter f.place params_scalar in
      let six = kept (nat_le (depth_of_function depths f) 300) short_chain f.place (at_most (depth_of_function depths f) short) in
      let seven = kept (is_none f.result || last_returns (map surely_returns f.body)) returns_result f.place
      (surely site (again_code site unit (body_code site unit)) unit unit.result) in
      (λ i. one i ++ (two i ++ (three i ++ (four i ++ ([] ++ (six i ++ seven i))))))
