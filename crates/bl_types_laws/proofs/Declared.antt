-- Declarations of variables and constants.
use Rattle.std.proofs.Common.{◌≡◌, ℕ, zero, suc, List, [], ◌∷◌, ◌++◌, length, Option, Some, None, refl, ap, sym, subst, ◌∙◌}
use Rattle.std.specs.Prelude.{Bool, true, false, ◌&&◌, ◌||◌, is_some, nat_eq, option_map, slice_get, if◌then◌else◌}
use Rattle.std.proofs.lemmas.Bool.{eqb-true}
use Rattle.std.proofs.lemmas.List.{append-nil, length-append}
use Rattle.std.proofs.lemmas.Option.{same_Some}
use Rattle.std.proofs.lemmas.Bool.{and_from}
use Rattle.bl_tree.proofs.Basics.{and_first, and_second, false_not_true}
use Rattle.bl_tree.specs.declared.tree.Expr.{Expr}
use Rattle.bl_tree.specs.declared.tree.StmtKind.{StmtKind}
use Rattle.bl_tree.specs.declared.tree.StmtKind.TheVariants as what
use Rattle.bl_tree.specs.declared.tree.Ty.{Ty}
use Rattle.bl_tree.specs.Types.{same_type, type_stands}
use Rattle.bl_tree.specs.Typing.{TypingContext, are_same, declaration_fits, is_fixed, is_variable, type_of, var_at}
use Rattle.bl_eval.proofs.OperatorFits.{where_holds}
use Rattle.bl_eval.proofs.PassLemmas.{get_seam}
use Rattle.bl_names_tree.specs.declared.expr.NamedExpr.{NamedExpr}
use Rattle.bl_names_tree.specs.declared.item.NamedConstant.{NamedConstant}
use Rattle.bl_names_tree.specs.declared.item.NamedVar.{NamedVar}
use Rattle.bl_names_tree.specs.Placed.{DeclaredBefore, constant_placed, expr_placed, holds_if, holds_of, type_placed, var_placed}
use Rattle.bl_names_tree.specs.Placed.{with_constant as constant_counted, with_variable as variable_counted}
use Rattle.bl_types.specs.declared.environment.Constant.{Constant}
use Rattle.bl_types.specs.declared.environment.Environment.{Environment}
use Rattle.bl_types.specs.declared.environment.Variable.{Variable}
use Rattle.bl_types.specs.Declarations.{optional_lengths, Initial, after_variable, constant_of, initial, with_constant, with_variable}
use Rattle.bl_types.specs.Statements.{after_optional_constant, constant_walked, declare, declared_with, declared_without}
use Rattle.bl_types.specs.Written.{written_type}
use Rattle.bl_types_laws.specs.Standing.{Around, Grown, Known, PartPassed, VariableKnown, VariablesThere, declared_by}
use Rattle.bl_types_laws.specs.Within.{ConstantStands, VariableThere, calls_functions, known_in}
use Rattle.bl_types_laws.proofs.Expressions.{some_of}
use Rattle.bl_types_laws.proofs.Forms.{map_found, same_type_self}
use Rattle.bl_types_laws.proofs.Initials.{constant_fits, initial_fits}
use Rattle.bl_types_laws.proofs.TypesStand.{typed_stands, vars_stand, written_stands}
use Rattle.bl_names_tree.specs.declared.types.NamedType.{NamedType}
use Rattle.bl_types_laws.proofs.Walks.{WalkFits, grown_there, site_in, within_in, within_of}

-- what holds of each before and of one more
push_each : {A : Type 0} (P : A → Type 0) (xs : List A) (x : A) → ((k : ℕ) (y : A) → slice_get xs k ≡ Some y → P y) → P x →
    (k : ℕ) (y : A) →
    slice_get (xs ++ x ∷ []) k ≡ Some y → P y
push_each P [] x each one zero y is = subst P (same_Some x y is) one
push_each P [] x each one (suc k) y is = absurd (cc)
push_each P (z ∷ xs) x each one zero y is = each 0 y is
push_each P (z ∷ xs) x each one (suc k) y is = push_each P xs x (λ k y is. each (suc k) y is) one k y is

pub variable_grown : (env : Environment) (var : NamedVar) (ty : Option Ty) → Grown env (with_variable env var ty)
variable_grown env var ty = record {
  vars = record { name = var.name.text; place = var.name.place; ty = ty; role = var.role } ∷ [];
  has_vars = refl;
  constants = [];
  has_constants = sym (append-nil env.constants);
  structs = refl;
  units = refl;
  kind = refl;
  result = refl;
}

pub constant_grown : (env : Environment) (constant : Constant) → Grown env (with_constant env constant)
constant_grown env constant = record {
  vars = [];
  has_vars = sym (append-nil env.vars);
  constants = constant ∷ [];
  has_constants = refl;
  structs = refl;
  units = refl;
  kind = refl;
  result = refl;
}

pub variable_known : (env : Environment) (var : NamedVar) (ty : Option Ty) (found : Ty) → Known env → ty ≡ Some found →
    type_stands (length env.structs) found ≡ true → Known (with_variable env var ty)
variable_known env var ty found known is stands = record {
  vars = push_each (VariableKnown (length env.structs)) env.vars (record { name = var.name.text; place = var.name.place; ty = ty; role = var.role }) known.vars
      (record { ty = found; is_typed = is; stands = stands });
  fields = known.fields;
  constants = known.constants;
}

pub constant_known : (env : Environment) (constant : Constant) → Known env → ConstantStands constant → Known (with_constant env constant)
constant_known env constant known stands = record {
  vars = known.vars;
  fields = known.fields;
  constants =
      push_each ConstantStands env.constants constant known.constants stands;
}

-- an optional type that is written stands
pub optional_stands : (earlier : DeclaredBefore) (env : Environment) (ty : Option NamedType) (written : NamedType) → ty ≡ Some written →
    holds_if (type_placed earlier) ty ≡ true → optional_lengths env ty ≡ [] →
    type_stands earlier.structs (written_type env.constants written) ≡ true
optional_stands earlier env ty written is placed none =
    written_stands earlier env.constants written (ap (holds_if (type_placed earlier)) (sym is) ∙ placed) (ap (optional_lengths env) (sym is) ∙ none)

pub variable_counts : (env : Environment) (var : NamedVar) (ty : Option Ty) (counts : DeclaredBefore) → Some (variable_counted (known_in env)) ≡ Some counts →
    known_in (with_variable env var ty) ≡ counts
variable_counts env var ty counts is =
    ap (λ n. record { structs = length env.structs; constants = length env.constants; units = length env.units; variables = n })
    (length-append env.vars (record { name = var.name.text; place = var.name.place; ty = ty; role = var.role } ∷ []))
    ∙ same_Some (variable_counted (known_in env)) counts is

pub constant_counts : (env : Environment) (constant : Constant) (counts : DeclaredBefore) → Some (constant_counted (known_in env)) ≡ Some counts →
    known_in (with_constant env constant) ≡ counts
constant_counts env constant counts is =
    ap (λ n. record { structs = length env.structs; constants = n; units = length env.units; variables = length env.vars })
    (length-append env.constants (constant ∷ []))
    ∙ same_Some (constant_counted (known_in env)) counts is

-- the variable of the site that is declared next
declared_there : (env : Environment) (site : TypingContext) (var : NamedVar) (ty : Option Ty) (k : ℕ) → k ≡ length env.vars →
    VariablesThere (with_variable env var ty) site →
    VariableThere site k (record { name = var.name.text; place = var.name.place; ty = ty; role = var.role })
declared_there env site var ty k is there =
    there k (record { name = var.name.text; place = var.name.place; ty = ty; role = var.role })
    (get_seam env.vars (record { name = var.name.text; place = var.name.place; ty = ty; role = var.role }) k is)

declared_good : (site : TypingContext) (k : ℕ) (known : Variable) (e : Expr) (ty : Ty) → VariableThere site k known →
    (is_variable known.role || is_fixed known.role) ≡ true → known.ty ≡ Some ty → type_of site e ≡ Some ty →
    declaration_fits site (Some e) (var_at site k) ≡ true
declared_good site k known e ty there role is typed =
    ap (declaration_fits site (Some e)) there.is_there
    ∙ and_from (is_variable there.var.role || is_fixed there.var.role) (are_same (Some there.var.ty) (type_of site e))
    (ap (λ role. is_variable role || is_fixed role) (sym there.role) ∙ role)
    (ap (are_same (Some there.var.ty)) typed ∙ ap (λ other. same_type other ty) (same_Some there.var.ty ty (sym there.ty ∙ is)) ∙ same_type_self ty)

bare_good : (site : TypingContext) (k : ℕ) (known : Variable) → VariableThere site k known → is_variable known.role ≡ true →
    declaration_fits site None (var_at site k) ≡ true
bare_good site k known there role = ap (declaration_fits site None) there.is_there ∙ ap is_variable (sym there.role) ∙ role

module _ (site : TypingContext) (good : StmtKind → Bool) where
  -- a declaration with a value
  with_value : (k : ℕ) (var : NamedVar) (e : NamedExpr) → ((it : Expr) → declaration_fits site (Some it) (var_at site k) ≡ true →
      good (what.Declare k (Some it)) ≡ true) →
      (is_variable var.role || is_fixed var.role) ≡ true → calls_functions site.earlier e ≡ true → (env : Environment) →
      Around env site → Known env →
      k ≡ length env.vars → expr_placed (known_in env) e ≡ true →
      (counts : DeclaredBefore) → Some (variable_counted (known_in env)) ≡ Some counts → (initial env var.ty e).failures ≡ [] →
      PartPassed false site good env counts (declared_with var k (initial env var.ty e) env)
  with_value k var e fits role calls env around known next placed counts count none =
      let value : Initial = initial env var.ty e in
      let own : calls_functions env.units e ≡ true = ap (λ units. calls_functions units e) around.units ∙ calls in
      let typed = initial_fits env (site_in env) (within_in env site around known) var.ty e placed own none in
      record {
        grown = variable_grown env var value.valued.ty;
        known = variable_known env var value.valued.ty typed.ty known typed.is_typed
            (typed_stands (site_in env) known.fields (vars_stand (length env.structs) env.vars known.vars) typed.it typed.ty typed.fits);
        counts_are = variable_counts env var value.valued.ty counts count;
        is_good = λ there a is.
            let made = map_found (λ e. what.Declare k (Some e)) value.valued.value a is in
            let within = within_of env site around known (grown_there env (with_variable env var value.valued.ty) site (variable_grown env var value.valued.ty)
            there) in
            let fit = initial_fits env site within var.ty e placed own none in
            let same : made.0 ≡ fit.it = same_Some made.0 fit.it (sym made.1 ∙ fit.is_made) in
            subst (λ a. good a ≡ true) made.2
            (fits made.0
            (declared_good site k (record { name = var.name.text; place = var.name.place; ty = value.valued.ty; role = var.role }) made.0 fit.ty
            (declared_there env site var value.valued.ty k next there) role fit.is_typed
            (ap (type_of site) same ∙ fit.fits)));
        is_made = λ must there. absurd (false_not_true must);
      }

  -- a declaration without one
  without_value : (k : ℕ) (var : NamedVar) → (declaration_fits site None (var_at site k) ≡ true → good (what.Declare k None) ≡ true) →
      (is_variable var.role && is_some var.ty) ≡ true → (env : Environment) → Around env site → Known env → k ≡ length env.vars →
      var_placed (known_in env) var ≡ true →
      (counts : DeclaredBefore) → Some (variable_counted (known_in env)) ≡ Some counts → optional_lengths env var.ty ≡ [] →
      PartPassed false site good env counts (declared_without k (after_variable var env))
  without_value k var fits declared env around known next placed counts count none =
      let ty : Option Ty = option_map (written_type env.constants) var.ty in
      let written = some_of var.ty (and_second (is_variable var.role) (is_some var.ty) declared) in
      record {
        grown = variable_grown env var ty;
        known = variable_known env var ty (written_type env.constants written.0) known (ap (option_map (written_type env.constants)) written.1)
            (optional_stands (known_in env) env var.ty written.0 written.1 placed none);
        counts_are = variable_counts env var ty counts count;
        is_good = λ there a is.
            subst (λ a. good a ≡ true) (same_Some (what.Declare k None) a is)
            (fits (bare_good site k (record { name = var.name.text; place = var.name.place; ty = ty; role = var.role })
            (declared_there env site var ty k next there) (and_first (is_variable var.role) (is_some var.ty) declared)));
        is_made = λ must there. absurd (false_not_true must);
      }

  abbrev declare_step : ℕ → Option NamedVar → Option NamedExpr → DeclaredBefore → Option DeclaredBefore
  declare_step k var e earlier = if nat_eq k earlier.variables && (holds_of (var_placed earlier) var && holds_if (expr_placed earlier) e) then Some
      (variable_counted earlier) else None

  pub declare_fits : (k : ℕ) (var : Option NamedVar) (e : Option NamedExpr) →
      ((it : Option Expr) → declaration_fits site it (var_at site k) ≡ true → good (what.Declare k it) ≡ true) →
      (holds_of (λ var. declared_by var e) var && holds_if (calls_functions site.earlier) e) ≡ true →
      WalkFits false site good (declare k var e) (declare_step k var e)
  declare_fits k None e fits named env around known counts step none = absurd (cc)
  declare_fits k (Some var) None fits named env around known counts step none =
      let holds = where_holds (nat_eq k (length env.vars) && (var_placed (known_in env) var && true)) (Some (variable_counted (known_in env))) counts step in
      without_value k var (fits None) (and_first (is_variable var.role && is_some var.ty) true named) env around known
      (eqb-true k (length env.vars) (and_first (nat_eq k (length env.vars)) (var_placed (known_in env) var && true) holds.0))
      (and_first (var_placed (known_in env) var) true (and_second (nat_eq k (length env.vars)) (var_placed (known_in env) var && true) holds.0)) counts holds.1
      none
  declare_fits k (Some var) (Some e) fits named env around known counts step none =
      let holds = where_holds (nat_eq k (length env.vars) && (var_placed (known_in env) var && expr_placed (known_in env) e))
      (Some (variable_counted (known_in env))) counts step in
      with_value k var e (λ it. fits (Some it)) (and_first (is_variable var.role || is_fixed var.role) (calls_functions site.earlier e) named)
      (and_second (is_variable var.role || is_fixed var.role) (calls_functions site.earlier e) named)
      env around known
      (eqb-true k (length env.vars) (and_first (nat_eq k (length env.vars)) (var_placed (known_in env) var && expr_placed (known_in env) e) holds.0))
      (and_second (var_placed (known_in env) var) (expr_placed (known_in env) e)
      (and_second (nat_eq k (length env.vars)) (var_placed (known_in env) var && expr_placed (known_in env) e) holds.0))
      counts holds.1 none

  abbrev constant_step : ℕ → Option NamedConstant → DeclaredBefore → Option DeclaredBefore
  constant_step k constant earlier = if nat_eq k earlier.constants && holds_of (constant_placed earlier) constant then Some (constant_counted earlier) else None

  pub constant_walk_fits : (k : ℕ) (constant : Option NamedConstant) → holds_of (λ (constant : NamedConstant). calls_functions site.earlier constant.value)
      constant ≡ true →
      WalkFits false site good (λ env. constant_walked (after_optional_constant constant env)) (constant_step k constant)
  constant_walk_fits k None named env around known counts step none = absurd (cc)
  constant_walk_fits k (Some constant) named env around known counts step none =
      let holds = where_holds (nat_eq k (length env.constants) && constant_placed (known_in env) constant) (Some (constant_counted (known_in env))) counts step
      in
      let placed = and_second (holds_if (type_placed (known_in env)) constant.ty) (expr_placed (known_in env) constant.value)
      (and_second (nat_eq k (length env.constants)) (constant_placed (known_in env) constant) holds.0) in
      let own : calls_functions env.units constant.value ≡ true = ap (λ units. calls_functions units constant.value) around.units ∙ named in
      let stands = constant_fits env (site_in env) (within_in env site around known) constant placed own none in
      let value : Initial = initial env constant.ty constant.value in
      record {
        grown = constant_grown env (constant_of constant.value value.valued);
        known = constant_known env (constant_of constant.value value.valued) known stands;
        counts_are = constant_counts env (constant_of constant.value value.valued) counts holds.1;
        is_good = λ there a is. absurd (nothing_made a is);
        is_made = λ must there. absurd (false_not_true must);
      }
    where
      nothing_made : (a : StmtKind) → None ≡ Some a → ⊥
      nothing_made a is = absurd (cc)
