-- The names and roles of a unit's variables are those that are named.
use Rattle.std.proofs.Common.{◌≡◌, ℕ, suc, ◌+◌, List, [], ◌∷◌, map, length, take, drop, Option, Some, None, refl, ap, sym, subst, ◌∙◌, arith}
use Rattle.std.specs.Prelude.{Bool, true, false, ◌&&◌, ◌||◌, is_none, is_some, nat_le, option_map, slice_get, if◌then◌else◌}
use Rattle.std.specs.List.{cons_option, list_all}
use Rattle.std.proofs.lemmas.List.{drop-map, length-append, take-append-drop, take-map}
use Rattle.std.proofs.lemmas.List.Folds.{list_all-append, list_all-map}
use Rattle.std.proofs.lemmas.Option.{same_Some}
use Rattle.std.proofs.lemmas.Bool.{and_from}
use Rattle.bl_tree.proofs.Basics.{and_first, and_second, get_in_front}
use Rattle.bl_tree.specs.declared.tree.Role.{Role}
use Rattle.bl_tree.specs.declared.tree.Stmt.{Stmt}
use Rattle.bl_tree.specs.declared.tree.Ty.{Ty}
use Rattle.bl_tree.specs.declared.tree.Var.{Var}
use Rattle.bl_tree.specs.Program.{is_entry, is_input, is_output, roles_stand}
use Rattle.bl_tree.specs.Typing.{is_activity, is_fixed, is_variable}
use Rattle.bl_eval.proofs.PassLemmas.{all_at}
use Rattle.bl_names_tree.specs.declared.item.NamedUnit.{NamedUnit}
use Rattle.bl_names_tree.specs.declared.item.NamedVar.{NamedVar}
use Rattle.bl_names_tree.specs.Placed.{parameters, roles_placed}
use Rattle.bl_types.specs.declared.environment.Environment.{Environment}
use Rattle.bl_types.specs.declared.environment.Variable.{Variable}
use Rattle.bl_types.specs.Declarations.{after_parameter, after_parameters, is_parameter, with_variable}
use Rattle.bl_types.specs.Units.{can_be_driven, is_scalar, unit_of, var_typed, vars_of}
use Rattle.bl_types.specs.Written.{written_type}
use Rattle.bl_types_laws.proofs.TypesStand.{scalar_optional}
use Rattle.bl_tree.specs.Types.{scalar_in}
use Rattle.bl_types_laws.specs.Standing.{VariableKnown}
use Rattle.bl_types_laws.specs.inner.Named.{VariablesNamed, has_scalar}
use Rattle.bl_types_laws.proofs.Heads.{is_local, is_typed_parameter, locals_pass, parameter_is, parameters_append}
use Rattle.bl_types_laws.proofs.Turns.{push_named}

-- ---- parameters

-- these stand in the others behind so many
abbrev StandBehind : List NamedVar → ℕ → List NamedVar → Type 0
StandBehind vars n xs = (k : ℕ) (x : NamedVar) → slice_get xs k ≡ Some x → slice_get vars (n + k) ≡ Some x

one_named : (vars : List NamedVar) (env : Environment) (var : NamedVar) (ty : Option Ty) → slice_get vars (length env.vars + 0) ≡ Some var →
    (is_scalar var.ty ≡ true → has_scalar ty ≡ true) → VariablesNamed vars env.vars → VariablesNamed vars (with_variable env var ty).vars
one_named vars env var ty there scalar named =
    push_named vars env.vars (record { name = var.name.text; place = var.name.place; ty = ty; role = var.role }) named
    (record { var = var; is_there = ap (slice_get vars) (nothing_more (length env.vars)) ∙ there; name = refl; place = refl; role = refl; scalar = scalar })
  where
    nothing_more : (n : ℕ) → n ≡ n + 0
    nothing_more n = omega arith

further_behind : (vars : List NamedVar) (n m : ℕ) (var : NamedVar) (rest : List NamedVar) → m ≡ n + 1 → StandBehind vars n (var ∷ rest) →
    StandBehind vars m rest
further_behind vars n m var rest is behind k x there = ap (slice_get vars) (one_more n m k is) ∙ behind (suc k) x there
  where
    one_more : (n m k : ℕ) → m ≡ n + 1 → m + k ≡ n + suc k
    one_more n m k is = omega arith

parameters_named : (vars xs : List NamedVar) (env : Environment) → list_all is_typed_parameter xs ≡ true → StandBehind vars (length env.vars) xs →
    VariablesNamed vars env.vars → VariablesNamed vars (after_parameters xs env).env.vars
parameters_named vars [] env all behind named = named
parameters_named vars (x ∷ rest) env all behind named =
    let role : is_parameter x.role ≡ true = and_first (is_parameter x.role) (is_some x.ty)
    (and_first (is_typed_parameter x) (list_all is_typed_parameter rest) all) in
    let ty : Option Ty = option_map (written_type env.constants) x.ty in
    let next : Environment = with_variable env x ty in
    ap_named vars rest (after_parameter x env).env next (parameter_is x env role)
    (parameters_named vars rest next (and_second (is_typed_parameter x) (list_all is_typed_parameter rest) all)
    (further_behind vars (length env.vars) (length next.vars) x rest (length-append env.vars
    (record { name = x.name.text; place = x.name.place; ty = ty; role = x.role } ∷ [])) behind)
    (one_named vars env x ty (behind 0 x refl) (scalar_optional env.constants x.ty) named))
  where
    ap_named : (vars rest : List NamedVar) (a b : Environment) → a ≡ b → VariablesNamed vars (after_parameters rest b).env.vars →
        VariablesNamed vars (after_parameters rest a).env.vars
    ap_named vars rest a b is named = subst (λ (env : Environment). VariablesNamed vars (after_parameters rest env).env.vars) (sym is) named

-- after the head of a unit each variable is the one that is named at its position
pub head_named : (vars : List NamedVar) (n : ℕ) (env : Environment) → env.vars ≡ [] → list_all is_typed_parameter (take n vars) ≡ true →
    list_all is_local (drop n vars) ≡ true → VariablesNamed vars (after_parameters vars env).env.vars
head_named vars n env none first rest =
    let inside : Environment = (after_parameters (take n vars) env).env in
    let is : (after_parameters vars env).env ≡ inside =
    ap (λ vars. (after_parameters vars env).env) (sym (take-append-drop n vars)) ∙ parameters_append (take n vars) (drop n vars) env
    ∙ locals_pass (drop n vars) inside rest in
    subst (λ (env : Environment). VariablesNamed vars env.vars) (sym is)
    (parameters_named vars (take n vars) env first
    (λ k x there.
    ap (slice_get vars) (nothing_before (length env.vars) k (ap length none))
    ∙ ap (λ vars. slice_get vars k) (sym (take-append-drop n vars))
    ∙ get_in_front (take n vars) (drop n vars) k x there)
    (subst (VariablesNamed vars) (sym none) (λ k known there. absurd (nothing_there k known there))))
  where
    nothing_before : (n k : ℕ) → n ≡ 0 → n + k ≡ k
    nothing_before n k is = omega arith

    nothing_there : (k : ℕ) (known : Variable) → slice_get [] k ≡ Some known → ⊥
    nothing_there k known is = absurd (cc)

-- ---- names and roles

mapped_same : {Y : Type 0} (f : Var → Y) (g : NamedVar → Y) (n : ℕ) (xs : List Variable) (vars : List NamedVar) → length xs ≡ length vars →
    ((k : ℕ) (known : Variable) → slice_get xs k ≡ Some known → VariableKnown n known) →
    ((k : ℕ) (known : Variable) (var : NamedVar) (ty : Ty) → slice_get xs k ≡ Some known → slice_get vars k ≡ Some var →
    f (var_typed known ty) ≡ g var) →
    map f (vars_of xs) ≡ map g vars
mapped_same f g n [] [] count typed each = refl
mapped_same f g n [] (var ∷ vars) count typed each = absurd (omega arith)
mapped_same f g n (x ∷ xs) [] count typed each = absurd (omega arith)
mapped_same f g n (x ∷ xs) (var ∷ vars) count typed each =
    let first = typed 0 x refl in
    ap (λ found. map f (cons_option (option_map (var_typed x) found) (vars_of xs))) first.is_typed
    ∙ ap (λ y. y ∷ map f (vars_of xs)) (each 0 x var first.ty refl refl)
    ∙ ap (λ ys. g var ∷ ys) (mapped_same f g n xs vars (omega arith) (λ k known is. typed (suc k) known is)
    (λ k known var ty is are. each (suc k) known var ty is are))

module _ (vars : List NamedVar) (n : ℕ) (xs : List Variable) (count : length xs ≡ length vars)
    (typed : (k : ℕ) (known : Variable) → slice_get xs k ≡ Some known → VariableKnown n known) (named : VariablesNamed vars xs) where
  pub same_roles : map (λ (var : Var). var.role) (vars_of xs) ≡ map (λ (var : NamedVar). var.role) vars
  same_roles =
      mapped_same (λ (var : Var). var.role) (λ (var : NamedVar). var.role) n xs vars count typed
      (λ k known var ty is are. let found = named k known is in found.role
      ∙ ap (λ (var : NamedVar). var.role) (same_Some found.var var (sym found.is_there ∙ are)))

  pub same_names : map (λ (var : Var). var.name) (vars_of xs) ≡ map (λ (var : NamedVar). var.name.text) vars
  same_names =
      mapped_same (λ (var : Var). var.name) (λ (var : NamedVar). var.name.text) n xs vars count typed
      (λ k known var ty is are. let found = named k known is in found.name
      ∙ ap (λ (var : NamedVar). var.name.text) (same_Some found.var var (sym found.is_there ∙ are)))

module _ {X Y : Type 0} (f : X → Role) (g : Y → Role) (xs : List X) (ys : List Y) (same : map f xs ≡ map g ys) (test : Role → Bool) where
  behind_same : (n : ℕ) → list_all (λ y. test (g y)) (drop n ys) ≡ true → list_all (λ x. test (f x)) (drop n xs) ≡ true
  behind_same n all =
      sym (list_all-map test f (drop n xs)) ∙ ap (list_all test) (sym (drop-map f n xs)) ∙ ap (λ roles. list_all test (drop n roles)) same
      ∙ ap (list_all test) (drop-map g n ys) ∙ list_all-map test g (drop n ys) ∙ all

  between_same : (n m : ℕ) → list_all (λ y. test (g y)) (take m (drop n ys)) ≡ true → list_all (λ x. test (f x)) (take m (drop n xs)) ≡ true
  between_same n m all =
      sym (list_all-map test f (take m (drop n xs))) ∙ ap (list_all test) (sym (take-map f m (drop n xs)) ∙ ap (take m) (sym (drop-map f n xs)))
      ∙ ap (λ roles. list_all test (take m (drop n roles))) same
      ∙ ap (list_all test) (ap (take m) (drop-map g n ys) ∙ take-map g m (drop n ys)) ∙ list_all-map test g (take m (drop n ys)) ∙ all

  front_same : (m : ℕ) → list_all (λ y. test (g y)) (take m ys) ≡ true → list_all (λ x. test (f x)) (take m xs) ≡ true
  front_same m all =
      sym (list_all-map test f (take m xs)) ∙ ap (list_all test) (sym (take-map f m xs)) ∙ ap (λ roles. list_all test (take m roles)) same
      ∙ ap (list_all test) (take-map g m ys) ∙ list_all-map test g (take m ys) ∙ all

-- the roles of a unit's variables stand as they are placed
pub roles_made : (unit : NamedUnit) (made : List Stmt) (env : Environment) →
    map (λ (var : Var). var.role) (vars_of env.vars) ≡ map (λ (var : NamedVar). var.role) unit.vars → length (vars_of env.vars) ≡ length unit.vars →
    roles_placed unit ≡ true →
    roles_stand (unit_of unit made env) ≡ true
roles_made unit made env same count roles =
    let enough : Bool = nat_le (parameters unit) (length unit.vars) in
    let inputs : Bool = list_all (λ (var : NamedVar). is_input var.role) (take unit.inputs unit.vars) in
    let outputs : Bool = list_all (λ (var : NamedVar). is_output var.role) (take unit.outputs (drop unit.inputs unit.vars)) in
    let locals : Bool = list_all (λ (var : NamedVar). is_variable var.role || is_fixed var.role) (drop (parameters unit) unit.vars) in
    let behind : (inputs && (outputs && locals)) ≡ true = and_second enough (inputs && (outputs && locals)) roles in
    let last : (outputs && locals) ≡ true = and_second inputs (outputs && locals) behind in
    let f : Var → Role = λ (var : Var). var.role in
    let g : NamedVar → Role = λ (var : NamedVar). var.role in
    and_from (nat_le (parameters unit) (length (vars_of env.vars))) _
    (ap (nat_le (parameters unit)) count ∙ and_first enough (inputs && (outputs && locals)) roles)
    (and_from (list_all (λ (var : Var). is_input var.role) (take unit.inputs (vars_of env.vars))) _
    (front_same f g (vars_of env.vars) unit.vars same is_input unit.inputs (and_first inputs (outputs && locals) behind))
    (and_from (list_all (λ (var : Var). is_output var.role) (take unit.outputs (drop unit.inputs (vars_of env.vars)))) _
    (between_same f g (vars_of env.vars) unit.vars same is_output unit.inputs unit.outputs (and_first outputs locals last))
    (behind_same f g (vars_of env.vars) unit.vars same (λ role. is_variable role || is_fixed role) (parameters unit) (and_second outputs locals last))))

-- ---- the entry

-- what holds of each named variable holds of the one that is made
each_made : (test : Var → Bool) (n : ℕ) (xs : List Variable) →
    ((k : ℕ) (known : Variable) → slice_get xs k ≡ Some known → VariableKnown n known) →
    ((k : ℕ) (known : Variable) (ty : Ty) → slice_get xs k ≡ Some known → known.ty ≡ Some ty → test (var_typed known ty) ≡ true) →
    list_all test (vars_of xs) ≡ true
each_made test n [] typed each = refl
each_made test n (x ∷ xs) typed each =
    let first = typed 0 x refl in
    ap (λ found. list_all test (cons_option (option_map (var_typed x) found) (vars_of xs))) first.is_typed
    ∙ and_from (test (var_typed x first.ty)) (list_all test (vars_of xs)) (each 0 x first.ty refl first.is_typed)
    (each_made test n xs (λ k known is. typed (suc k) known is) (λ k known ty is are. each (suc k) known ty is are))

-- a parameter is scalar
abbrev scalar_parameter : Var → Bool
scalar_parameter var = if is_parameter var.role then is_some (scalar_in var.ty) else true

driven_one : (parameter scalar : Bool) (found : Bool) → (if parameter then scalar else true) ≡ true → (scalar ≡ true → found ≡ true) →
    (if parameter then found else true) ≡ true
driven_one true scalar found is each = each is
driven_one false scalar found is each = refl

driven_all : (vars : List NamedVar) (n : ℕ) (xs : List Variable) →
    ((k : ℕ) (known : Variable) → slice_get xs k ≡ Some known → VariableKnown n known) →
    VariablesNamed vars xs → list_all can_be_driven vars ≡ true →
    list_all scalar_parameter (vars_of xs) ≡ true
driven_all vars n xs typed named all =
    each_made scalar_parameter n xs typed
    (λ k known ty is are.
    let found = named k known is in
    ap (λ role. if is_parameter role then is_some (scalar_in ty) else true) found.role
    ∙ driven_one (is_parameter found.var.role) (is_scalar found.var.ty) (is_some (scalar_in ty)) (all_at can_be_driven vars k found.var all found.is_there)
    (λ scalar. ap has_scalar (sym are) ∙ found.scalar scalar))

take_all : {X : Type 0} (test : X → Bool) (n : ℕ) (xs : List X) → list_all test xs ≡ true → list_all test (take n xs) ≡ true
take_all test n xs all =
    and_first (list_all test (take n xs)) (list_all test (drop n xs))
    (sym (list_all-append test (take n xs) (drop n xs)) ∙ ap (list_all test) (take-append-drop n xs) ∙ all)

both_alone : (parameter found : Bool) → parameter ≡ true → (if parameter then found else true) ≡ true → found ≡ true
both_alone true found is all = all
both_alone false found is all = absurd (cc)

only_scalar : (xs : List Var) → list_all (λ (var : Var). is_parameter var.role) xs ≡ true → list_all scalar_parameter xs ≡ true →
    list_all (λ (var : Var). is_some (scalar_in var.ty)) xs ≡ true
only_scalar [] parameters all = refl
only_scalar (x ∷ xs) parameters all =
    and_from (is_some (scalar_in x.ty)) (list_all (λ (var : Var). is_some (scalar_in var.ty)) xs)
    (both_alone (is_parameter x.role) (is_some (scalar_in x.ty)) (and_first (is_parameter x.role) (list_all (λ (var : Var). is_parameter var.role) xs)
    parameters) (and_first (scalar_parameter x) (list_all scalar_parameter xs) all))
    (only_scalar xs (and_second (is_parameter x.role) (list_all (λ (var : Var). is_parameter var.role) xs) parameters)
    (and_second (scalar_parameter x) (list_all scalar_parameter xs) all))

-- a unit that the environment can drive may be the entry
pub entry_made : (unit : NamedUnit) (made : List Stmt) (env : Environment) (n : ℕ) → env.result ≡ None →
    ((k : ℕ) (known : Variable) → slice_get env.vars k ≡ Some known → VariableKnown n known) → VariablesNamed unit.vars env.vars →
    map (λ (var : Var). var.role) (vars_of env.vars) ≡ map (λ (var : NamedVar). var.role) unit.vars →
    list_all (λ (var : NamedVar). is_parameter var.role) (take (parameters unit) unit.vars) ≡ true → is_activity unit.kind ≡ true →
    list_all can_be_driven unit.vars ≡ true → is_entry (Some (unit_of unit made env)) ≡ true
entry_made unit made env n result typed named same roles activity all =
    and_from (is_activity unit.kind) _ activity
    (and_from (is_none env.result) _ (ap is_none result)
    (only_scalar (take (parameters unit) (vars_of env.vars))
    (front_same (λ (var : Var). var.role) (λ (var : NamedVar). var.role) (vars_of env.vars) unit.vars same is_parameter (parameters unit) roles)
    (take_all scalar_parameter (parameters unit) (vars_of env.vars) (driven_all unit.vars n env.vars typed named all))))
