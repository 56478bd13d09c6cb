-- The positions in statements lead to what the uses in their places are bound to.
use Rattle.std.proofs.Common.{◌≡◌, ◌+◌, List, [], ◌∷◌, ◌++◌, map, length, Option, Some, refl, sym, ap, subst, ◌∙◌}
use Rattle.std.specs.Prelude.{All, option_map, slice_get}
use Rattle.std.proofs.lemmas.List.Elements.{All-head, All-tail}
use Rattle.bl_tree.proofs.Basics.{plus_none}
use Rattle.bl_tree.specs.declared.place.Place.{Place}
use Rattle.bl_tree.specs.declared.tree.Role.{Role}
use Rattle.bl_tree.specs.declared.tree.Role.TheVariants as role
use Rattle.bl_tree.specs.Reduce.{joined}
use Rattle.bl_names_tree.specs.declared.expr.NamedExpr.{NamedExpr}
use Rattle.bl_names_tree.specs.declared.item.NamedConstant.{NamedConstant}
use Rattle.bl_names_tree.specs.declared.item.NamedVar.{NamedVar}
use Rattle.bl_names_tree.specs.declared.named.Named.{Named}
use Rattle.bl_names_tree.specs.declared.stmt.NamedStmt.{NamedStmt}
use Rattle.bl_names_tree.specs.declared.stmt.NamedStmtKind.{out-NamedStmtKind}
use Rattle.bl_names_tree.specs.declared.stmt.NamedStmtKind.TheOpen.{NamedStmtKind-F}
use Rattle.bl_names_tree.specs.declared.stmt.NamedStmtKind.TheVariants as what
use Rattle.bl_parse_tree.specs.declared.expr.RawExpr.{RawExpr}
use Rattle.bl_parse_tree.specs.declared.name.Name.{Name}
use Rattle.bl_parse_tree.specs.declared.stmt.RawArm.{RawArm}
use Rattle.bl_parse_tree.specs.declared.stmt.RawBranch.{RawBranch}
use Rattle.bl_parse_tree.specs.declared.stmt.RawConstant.{RawConstant}
use Rattle.bl_parse_tree.specs.declared.stmt.RawPath.{RawPath}
use Rattle.bl_parse_tree.specs.declared.stmt.RawStmt.{RawStmt}
use Rattle.bl_parse_tree.specs.declared.stmt.RawStmtKind.TheOpen.{RawStmtKind-F}
use Rattle.bl_parse_tree.specs.declared.types.RawType.{RawType}
use Rattle.bl_names_scopes.specs.declared.kind.Kind.TheVariants as kind
use Rattle.bl_names_scopes.specs.declared.kind.Wanted.TheVariants as wanted
use Rattle.bl_names_scopes.specs.Marks.{Marks, argument_marks, closes, constant_marks, declared_after, declares, expr_marks, in_scope, optional, path_marks}
use Rattle.bl_names_scopes.specs.Marks.{target_marks, type_marks, uses}
use Rattle.bl_names_scopes.specs.Scopes.{Scopes, after}
use Rattle.bl_names.specs.Named.{Piece, all, kind_piece, made_of_all, marks_of_all, named_constant, named_var, opened, own_scope, piece_of_arm, piece_of_branch}
use Rattle.bl_names.specs.Named.{plain, stmt_piece}
use Rattle.bl_names.specs.Naming.{named_expr, named_path, named_target, named_type, position}
use Rattle.bl_names.proofs.FitLemmas.{Fits, fits_behind, fits_first, fits_second}
use Rattle.bl_names.proofs.PastLemmas.{enter-behind, more}
use Rattle.bl_names.proofs.PieceLemmas.{arm_is, branch_is, parts, stmt_is}
use Rattle.bl_names.proofs.PlacedExpr.{variable_read}
use Rattle.bl_names.proofs.PlacedStmt.{Within, within_first, within_one, within_second}
use Rattle.bl_names.proofs.RawStmtInduction.{Cases, induct, stmt}
use Rattle.bl_names.proofs.StillLemmas.{Still, after-append, still_append, still_arguments, still_expr, still_optional, still_target, still_type, still_use}
use Rattle.bl_names.proofs.StillLemmas.{still_value}
use Rattle.bl_names_laws.specs.Referents.{Referents, arm_layer_leads, branch_layer_leads, constant_leads, expr_leads, leads_if, path_leads, stmt_kind_leads}
use Rattle.bl_names_laws.specs.Referents.{stmt_layer_leads, stmt_leads, target_leads, type_leads, var_leads}
use Rattle.bl_names_laws.specs.inner.Leads.{leads_of_arm, leads_of_branch}
use Rattle.bl_names_laws.proofs.Bindings.{bindings, bindings_append, bindings_behind, bindings_declared, bindings_own}
use Rattle.bl_names_laws.proofs.ExprLeads.{activity_leads, arguments_led, expr_led, function_leads, optional_led, path_led, target_led, type_led}
use Rattle.bl_names_laws.proofs.Listed.{Listed, declare_listed}
use Rattle.bl_names_laws.proofs.Made.{NamedLayer, RawLayer, named_arm_at, named_at, named_branch_at, named_parts}
use Rattle.bl_names.proofs.PlacedStmt.{scope_is}

-- ---- what holds behind a part

-- from the scopes before a part to those behind it: what it leads to is what its uses are bound to, and what is open stands at its
-- position
pub record Leading (named : Named) (vars : List NamedVar) (scopes new : Scopes) (leads bound : Referents) (own : List NamedVar)
    (constants : List NamedConstant) : Type 0 where
  pub is_led : leads ≡ bound
  pub listed : Listed named vars new
  pub outer : new.outer ≡ scopes.outer
  pub more_vars : new.counts.variables ≡ scopes.counts.variables + length own
  pub more_constants : new.counts.constants ≡ scopes.counts.constants + length constants
  pub same_units : new.counts.units ≡ scopes.counts.units

module _ (named : Named) (vars : List NamedVar) where
  leading_then : (scopes middle new : Scopes) (leads bound more_leads more_bound : Referents) (own more_own : List NamedVar)
      (constants more_constants : List NamedConstant) → Leading named vars scopes middle leads bound own constants →
      Leading named vars middle new more_leads more_bound more_own more_constants →
      Leading named vars scopes new (leads ++ more_leads) (bound ++ more_bound) (own ++ more_own) (constants ++ more_constants)
  leading_then scopes middle new leads bound more_leads more_bound own more_own constants more_constants one two = record {
    is_led = λ i. one.is_led i ++ two.is_led i;
    listed = two.listed;
    outer = two.outer ∙ one.outer;
    more_vars = more own more_own scopes.counts.variables middle.counts.variables new.counts.variables one.more_vars two.more_vars;
    more_constants =
        more constants more_constants scopes.counts.constants middle.counts.constants new.counts.constants one.more_constants two.more_constants;
    same_units = two.same_units ∙ one.same_units;
  }

  -- where nothing is declared
  leading_still : (scopes : Scopes) (marks : Marks) (leads : Referents) → Still marks → Listed named vars scopes → leads ≡ bindings scopes marks
      → Leading named vars scopes (after scopes marks) leads (bindings scopes marks) [] []
  leading_still scopes marks leads still listed is =
      subst (λ new. Leading named vars scopes new leads (bindings scopes marks) [] []) (sym (still scopes))
      (record {
        is_led = is;
        listed = listed;
        outer = refl;
        more_vars = plus_none scopes.counts.variables;
        more_constants = plus_none scopes.counts.constants;
        same_units = refl;
      })

  leading_closed : (scopes inner : Scopes) (leads bound : Referents) (own : List NamedVar) (constants : List NamedConstant) → Listed named vars scopes →
      Leading named vars (opened scopes) inner leads bound own constants
      → Leading named vars scopes (record scopes { counts = inner.counts }) leads bound own constants
  leading_closed scopes inner leads bound own constants listed inside = record {
    is_led = inside.is_led;
    listed = listed;
    outer = refl;
    more_vars = inside.more_vars;
    more_constants = inside.more_constants;
    same_units = inside.same_units;
  }

  -- ---- parts

  -- what is made of a part leads to what its uses are bound to
  abbrev pub Good : {A : Type 0} → (A → Referents) → Piece A → Type 0
  Good leads piece =
      (scopes : Scopes) → Listed named vars scopes → Fits scopes piece.marks → Within vars scopes.counts.variables (piece.vars scopes)
      → Within named.constants scopes.counts.constants (piece.constants scopes) →
      Leading named vars scopes (after scopes piece.marks) (leads (piece.made scopes)) (bindings scopes piece.marks) (piece.vars scopes)
      (piece.constants scopes)

  good_plain : {A : Type 0} (leads : A → Referents) (marks : Marks) (made : Scopes → A) → Still marks →
      ((scopes : Scopes) → Listed named vars scopes → Fits scopes marks → leads (made scopes) ≡ bindings scopes marks) → Good leads (plain marks made)
  good_plain leads marks made still gives scopes listed fits own constants =
      leading_still scopes marks (leads (made scopes)) still listed (gives scopes listed fits)

  pub good_then : {A B : Type 0} (first : Piece A) (second : Piece B) (leads : A → Referents) (others : B → Referents) (scopes : Scopes) →
      Good leads first → Good others second → Listed named vars scopes → Fits scopes (first.marks ++ second.marks) →
      Within vars scopes.counts.variables (first.vars scopes ++ second.vars (after scopes first.marks)) →
      Within named.constants scopes.counts.constants (first.constants scopes ++ second.constants (after scopes first.marks)) →
      Leading named vars scopes (after scopes (first.marks ++ second.marks)) (leads (first.made scopes) ++ others (second.made (after scopes first.marks)))
      (bindings scopes (first.marks ++ second.marks)) (first.vars scopes ++ second.vars (after scopes first.marks))
      (first.constants scopes ++ second.constants (after scopes first.marks))
  good_then first second leads others scopes one two listed fits own constants =
      let middle = after scopes first.marks in
      let there = one scopes listed (fits_first scopes first.marks second.marks fits)
      (within_first vars scopes.counts.variables (first.vars scopes) (second.vars middle) own)
      (within_first named.constants scopes.counts.constants (first.constants scopes) (second.constants middle) constants) in
      let behind = two middle there.listed (fits_second scopes first.marks second.marks fits)
      (subst (λ at. Within vars at (second.vars middle)) (sym there.more_vars)
      (within_second vars scopes.counts.variables (first.vars scopes) (second.vars middle) own))
      (subst (λ at. Within named.constants at (second.constants middle)) (sym there.more_constants)
      (within_second named.constants scopes.counts.constants (first.constants scopes) (second.constants middle) constants)) in
      subst (λ new. Leading named vars scopes new (leads (first.made scopes) ++ others (second.made middle)) (bindings scopes (first.marks ++ second.marks))
      (first.vars scopes ++ second.vars middle) (first.constants scopes ++ second.constants middle)) (sym (after-append scopes first.marks second.marks))
      (subst (λ bound. Leading named vars scopes (after middle second.marks) (leads (first.made scopes) ++ others (second.made middle)) bound
      (first.vars scopes ++ second.vars middle) (first.constants scopes ++ second.constants middle)) (sym (bindings_append scopes first.marks second.marks))
      (leading_then scopes middle (after middle second.marks) (leads (first.made scopes)) (bindings scopes first.marks) (others (second.made middle))
      (bindings middle second.marks) (first.vars scopes) (second.vars middle) (first.constants scopes) (second.constants middle) there behind))

  abbrev pub lead_all : {A : Type 0} → (A → Referents) → List A → Referents
  lead_all leads made = joined (map leads made)

  pub good_all : {X A : Type 0} (piece : X → Piece A) (leads : A → Referents) (xs : List X) → All (λ x. Good leads (piece x)) xs
      → Good (lead_all leads) (all (map piece xs))
  good_all piece leads [] each scopes listed fits own constants = leading_still scopes [] [] (λ s. refl) listed refl
  good_all piece leads (x ∷ xs) each scopes listed fits own constants =
      good_then (piece x) (all (map piece xs)) leads (lead_all leads) scopes (All-head (λ x. Good leads (piece x)) x xs each)
      (good_all piece leads xs (All-tail (λ x. Good leads (piece x)) x xs each)) listed fits own constants

  -- in a scope of its own
  good_own : {A : Type 0} (piece : Piece A) (leads : A → Referents) → Good leads piece → Good leads (own_scope piece)
  good_own piece leads good scopes listed fits own constants =
      let inside = good (opened scopes) (tt, listed) (fits_first (opened scopes) piece.marks (closes ∷ []) fits.1) own constants in
      let inner = after (opened scopes) piece.marks in
      subst (λ new. Leading named vars scopes new (leads (piece.made (opened scopes))) (bindings scopes (in_scope piece.marks)) (piece.vars (opened scopes))
      (piece.constants (opened scopes))) (sym (scope_is scopes piece.marks inside.outer))
      (subst (λ bound. Leading named vars scopes (record scopes { counts = inner.counts }) (leads (piece.made (opened scopes))) bound
      (piece.vars (opened scopes)) (piece.constants (opened scopes))) (sym (bindings_own scopes piece.marks))
      (leading_closed scopes inner (leads (piece.made (opened scopes))) (bindings (opened scopes) piece.marks) (piece.vars (opened scopes))
      (piece.constants (opened scopes)) listed inside))

  -- ---- bodies

  abbrev StmtGood : RawStmt → Type 0
  StmtGood s = Good (stmt_leads named vars) (stmt_piece s)

  abbrev ArmGood : RawArm → Type 0
  ArmGood arm = Good (leads_of_arm named vars) (piece_of_arm arm)

  abbrev BranchGood : RawBranch → Type 0
  BranchGood branch = Good (leads_of_branch named vars) (piece_of_branch branch)

  abbrev body_piece : List RawStmt → Piece (List NamedStmt)
  body_piece body = all (map stmt_piece body)

  abbrev body_leads : List NamedStmt → Referents
  body_leads = lead_all (stmt_leads named vars)

  good_body : (body : List RawStmt) → All StmtGood body → Good body_leads (own_scope (body_piece body))
  good_body body each = good_own (body_piece body) body_leads (good_all stmt_piece (stmt_leads named vars) body each)

  abbrev test_piece : RawExpr → Piece NamedExpr
  test_piece e = plain (expr_marks e) (λ scopes. named_expr scopes e)

  good_test : (e : RawExpr) → Good (expr_leads named vars) (test_piece e)
  good_test e = good_plain (expr_leads named vars) (expr_marks e) (λ scopes. named_expr scopes e) (still_expr e)
      (λ scopes listed fits. expr_led named vars scopes scopes.counts listed e fits)

  -- a body before a condition, which sees what is around it
  until_leading : (body : List RawStmt) (e : RawExpr) → All StmtGood body → (scopes : Scopes) → Listed named vars scopes →
      Fits scopes (in_scope (body_piece body).marks ++ expr_marks e) → Within vars scopes.counts.variables ((body_piece body).vars (opened scopes)) →
      Within named.constants scopes.counts.constants ((body_piece body).constants (opened scopes)) →
      Leading named vars scopes (after scopes (in_scope (body_piece body).marks ++ expr_marks e))
      (body_leads ((body_piece body).made (opened scopes)) ++ expr_leads named vars (named_expr scopes e))
      (bindings scopes (in_scope (body_piece body).marks ++ expr_marks e)) ((body_piece body).vars (opened scopes))
      ((body_piece body).constants (opened scopes))
  until_leading body e each scopes listed fits own constants =
      let marks = (body_piece body).marks in
      let inner = after (opened scopes) marks in
      let leads = body_leads ((body_piece body).made (opened scopes)) in
      let inside = good_all stmt_piece (stmt_leads named vars) body each (opened scopes) (tt, listed)
      (fits_first (opened scopes) marks (closes ∷ []) (fits_first scopes (in_scope marks) (expr_marks e) fits).1) own constants in
      let closed : after scopes (in_scope marks) ≡ record scopes { counts = inner.counts } = scope_is scopes marks inside.outer in
      let fits_e : Fits (record scopes { counts = inner.counts }) (expr_marks e) = subst (λ s. Fits s (expr_marks e)) closed
      (fits_second scopes (in_scope marks) (expr_marks e) fits) in
      subst (λ new. Leading named vars scopes new (leads ++ expr_leads named vars (named_expr scopes e)) (bindings scopes (in_scope marks ++ expr_marks e))
      ((body_piece body).vars (opened scopes)) ((body_piece body).constants (opened scopes)))
      (sym (after-append scopes (in_scope marks) (expr_marks e) ∙ still_expr e (after scopes (in_scope marks)) ∙ closed))
      (record {
        is_led =
            (λ i. (inside.is_led ∙ sym (bindings_own scopes marks)) i
            ++ (expr_led named vars scopes inner.counts listed e fits_e ∙ ap (λ s. bindings s (expr_marks e)) (sym closed)) i)
            ∙ sym (bindings_append scopes (in_scope marks) (expr_marks e));
        listed = listed;
        outer = refl;
        more_vars = inside.more_vars;
        more_constants = inside.more_constants;
        same_units = inside.same_units;
      })

  -- ---- declarations

  pub value_led : (scopes : Scopes) (ty : Option RawType) (value : Option RawExpr) → Listed named vars scopes →
      Fits scopes (optional type_marks ty ++ optional expr_marks value) →
      leads_if (type_leads named) (option_map (named_type scopes) ty) ++ leads_if (expr_leads named vars) (option_map (named_expr scopes) value)
      ≡ bindings scopes (optional type_marks ty ++ optional expr_marks value)
  value_led scopes ty value listed fits =
      let types = optional type_marks ty in
      let values = optional expr_marks value in
      (λ i. optional_led named vars scopes scopes.counts listed type_marks (type_leads named) (named_type scopes) ty
      (type_led named vars scopes scopes.counts listed) (fits_first scopes types values fits) i
      ++ optional_led named vars scopes scopes.counts listed expr_marks (expr_leads named vars) (named_expr scopes) value
      (expr_led named vars scopes scopes.counts listed) (fits_behind scopes types values (still_optional type_marks ty still_type) fits) i)
      ∙ sym (bindings_behind scopes types values (still_optional type_marks ty still_type))

  -- behind the declaration of a variable, whatever leads to the uses before it
  pub variable_leading : (scopes : Scopes) (marks : Marks) (leads : Referents) (name : Name) (ty : Option RawType) (role : Role) → Still marks →
      leads ≡ bindings scopes marks → Listed named vars scopes → Within vars scopes.counts.variables (named_var scopes name ty role ∷ []) →
      Leading named vars scopes (after scopes (declared_after marks name kind.Variable)) leads (bindings scopes (declared_after marks name kind.Variable))
      (named_var scopes name ty role ∷ []) []
  variable_leading scopes marks leads name ty role still is listed own =
      subst (λ new. Leading named vars scopes new leads (bindings scopes (declared_after marks name kind.Variable)) (named_var scopes name ty role ∷ []) [])
      (enter-behind scopes marks name kind.Variable still)
      (record {
        is_led = is ∙ sym (bindings_declared scopes marks name kind.Variable);
        listed = declare_listed named vars scopes name kind.Variable
            (ap (option_map (λ (var : NamedVar). var.name)) (within_one vars scopes.counts.variables (named_var scopes name ty role) [] own)) listed;
        outer = refl;
        more_vars = refl;
        more_constants = plus_none scopes.counts.constants;
        same_units = refl;
      })

  declared_leading : (scopes : Scopes) (name : Name) (ty : Option RawType) (role : Role) (value : Option RawExpr) → Listed named vars scopes →
      Fits scopes (declared_after (optional type_marks ty ++ optional expr_marks value) name kind.Variable) →
      Within vars scopes.counts.variables (named_var scopes name ty role ∷ []) →
      Leading named vars scopes (after scopes (declared_after (optional type_marks ty ++ optional expr_marks value) name kind.Variable))
      (leads_if (var_leads named) (slice_get vars scopes.counts.variables) ++ leads_if (expr_leads named vars) (option_map (named_expr scopes) value))
      (bindings scopes (declared_after (optional type_marks ty ++ optional expr_marks value) name kind.Variable)) (named_var scopes name ty role ∷ []) []
  declared_leading scopes name ty role value listed fits own =
      let marks = optional type_marks ty ++ optional expr_marks value in
      let there = within_one vars scopes.counts.variables (named_var scopes name ty role) [] own in
      variable_leading scopes marks
      (leads_if (var_leads named) (slice_get vars scopes.counts.variables) ++ leads_if (expr_leads named vars) (option_map (named_expr scopes) value))
      name ty role (still_value ty value)
      (ap (λ var. leads_if (var_leads named) var ++ leads_if (expr_leads named vars) (option_map (named_expr scopes) value)) there
      ∙ value_led scopes ty value listed (fits_first scopes marks (declares name kind.Variable ∷ []) fits)) listed own

  pub constant_leading : (scopes : Scopes) (constant : RawConstant) → Listed named vars scopes → Fits scopes (constant_marks constant) →
      Within named.constants scopes.counts.constants (named_constant scopes constant ∷ []) →
      Leading named vars scopes (after scopes (constant_marks constant))
      (leads_if (constant_leads named vars) (slice_get named.constants scopes.counts.constants))
      (bindings scopes (constant_marks constant)) [] (named_constant scopes constant ∷ [])
  constant_leading scopes constant listed fits constants =
      let marks = optional type_marks constant.ty ++ expr_marks constant.value in
      let there = within_one named.constants scopes.counts.constants (named_constant scopes constant) [] constants in
      subst (λ new. Leading named vars scopes new (leads_if (constant_leads named vars) (slice_get named.constants scopes.counts.constants))
      (bindings scopes (constant_marks constant)) [] (named_constant scopes constant ∷ []))
      (enter-behind scopes marks constant.name kind.Constant (still_value constant.ty (Some constant.value)))
      (record {
        is_led =
            ap (leads_if (constant_leads named vars)) there
            ∙ value_led scopes constant.ty (Some constant.value) listed (fits_first scopes marks (declares constant.name kind.Constant ∷ []) fits)
            ∙ sym (bindings_declared scopes marks constant.name kind.Constant);
        listed = declare_listed named vars scopes constant.name kind.Constant (ap (option_map (λ (one : NamedConstant). one.name)) there) listed;
        outer = refl;
        more_vars = plus_none scopes.counts.variables;
        more_constants = refl;
        same_units = refl;
      })

  -- ---- each kind

  abbrev new_leads : NamedLayer → Referents
  new_leads layer =
      stmt_kind_leads named vars (named_parts Referents (stmt_kind_leads named vars) (arm_layer_leads named vars) branch_layer_leads stmt_layer_leads layer)

  -- a statement whose kind becomes this
  stmt_good : (place : Place) (layer : RawLayer) (made : Scopes → NamedLayer)
      → ((scopes : Scopes) → out-NamedStmtKind ((kind_piece (parts layer)).made scopes) ≡ made scopes) →
      ((scopes : Scopes) → Listed named vars scopes → Fits scopes (kind_piece (parts layer)).marks →
      Within vars scopes.counts.variables ((kind_piece (parts layer)).vars scopes) →
      Within named.constants scopes.counts.constants ((kind_piece (parts layer)).constants scopes) →
      Leading named vars scopes (after scopes (kind_piece (parts layer)).marks) (new_leads (made scopes)) (bindings scopes (kind_piece (parts layer)).marks)
      ((kind_piece (parts layer)).vars scopes) ((kind_piece (parts layer)).constants scopes)) →
      StmtGood (stmt place layer)
  stmt_good place layer made is gives =
      subst (Good (stmt_leads named vars)) (sym (stmt_is place layer))
      (λ scopes listed fits own constants.
      subst (λ leads. Leading named vars scopes (after scopes (kind_piece (parts layer)).marks) leads (bindings scopes (kind_piece (parts layer)).marks)
      ((kind_piece (parts layer)).vars scopes) ((kind_piece (parts layer)).constants scopes))
      (sym (named_at Referents (stmt_kind_leads named vars) (arm_layer_leads named vars) branch_layer_leads stmt_layer_leads place
      ((kind_piece (parts layer)).made scopes) (made scopes) (is scopes)))
      (gives scopes listed fits own constants))

  still_taker : (target : Option RawPath) → Still (optional path_marks target)
  still_taker target = still_optional path_marks target (λ path. still_use path.root wanted.Variable)

  abbrev behind : RawExpr → Scopes → Scopes
  behind e scopes = opened (after scopes (expr_marks e))

  abbrev behind_arms : List RawArm → Scopes → Scopes
  behind_arms arms scopes = opened (after scopes (marks_of_all (map piece_of_arm arms)))

  tested_leading : (e : RawExpr) (body : List RawStmt) → All StmtGood body → (scopes : Scopes) → Listed named vars scopes →
      Fits scopes (expr_marks e ++ in_scope (body_piece body).marks) → Within vars scopes.counts.variables ((body_piece body).vars (behind e scopes)) →
      Within named.constants scopes.counts.constants ((body_piece body).constants (behind e scopes)) →
      Leading named vars scopes (after scopes (expr_marks e ++ in_scope (body_piece body).marks))
      (expr_leads named vars (named_expr scopes e) ++ body_leads ((body_piece body).made (behind e scopes)))
      (bindings scopes (expr_marks e ++ in_scope (body_piece body).marks)) ((body_piece body).vars (behind e scopes))
      ((body_piece body).constants (behind e scopes))
  tested_leading e body each scopes listed fits own constants =
      good_then (test_piece e) (own_scope (body_piece body)) (expr_leads named vars) body_leads scopes (good_test e) (good_body body each) listed fits own
      constants

  cases : Cases StmtGood ArmGood BranchGood
  cases = record {
    var = λ place name ty value. stmt_good place (RawStmtKind-F.Var name ty value)
        (λ scopes. NamedStmtKind-F.Declare scopes.counts.variables (option_map (named_expr scopes) value))
        (λ scopes. what.outs-Declare scopes.counts.variables (option_map (named_expr scopes) value))
        (λ scopes listed fits own constants. declared_leading scopes name ty role.Variable value listed fits own);
    fixed = λ place name ty value. stmt_good place (RawStmtKind-F.Let name ty value)
        (λ scopes. NamedStmtKind-F.Declare scopes.counts.variables (Some (named_expr scopes value)))
        (λ scopes. what.outs-Declare scopes.counts.variables (Some (named_expr scopes value)))
        (λ scopes listed fits own constants. declared_leading scopes name ty role.Fixed (Some value) listed fits own);
    constant = λ place constant. stmt_good place (RawStmtKind-F.Const constant) (λ scopes. NamedStmtKind-F.Const scopes.counts.constants)
        (λ scopes. what.outs-Const scopes.counts.constants)
        (λ scopes listed fits own constants. constant_leading scopes constant listed fits constants);
    assign = λ place target e. stmt_good place (RawStmtKind-F.Assign target e)
        (λ scopes. NamedStmtKind-F.Assign (named_target scopes target) (named_expr scopes e))
        (λ scopes. what.outs-Assign (named_target scopes target) (named_expr scopes e))
        (λ scopes listed fits own constants.
        let first = target_marks target wanted.Variable in
        let still = still_target target wanted.Variable in
        leading_still scopes (first ++ expr_marks e) (target_leads named vars (named_target scopes target) ++ expr_leads named vars (named_expr scopes e))
        (still_append first (expr_marks e) still (still_expr e)) listed
        ((λ i. target_led named vars scopes scopes.counts listed target wanted.Variable variable_read (fits_first scopes first (expr_marks e) fits) i
        ++ expr_led named vars scopes scopes.counts listed e (fits_behind scopes first (expr_marks e) still fits) i)
        ∙ sym (bindings_behind scopes first (expr_marks e) still)));
    call = λ place f inputs outputs. stmt_good place (RawStmtKind-F.Call f inputs outputs)
        (λ scopes. NamedStmtKind-F.Call f.place (position scopes f) (map (named_expr scopes) inputs) (map (named_path scopes) outputs))
        (λ scopes. what.outs-Call f.place (position scopes f) (map (named_expr scopes) inputs) (map (named_path scopes) outputs))
        (λ scopes listed fits own constants.
        leading_still scopes (uses f wanted.Function ∷ argument_marks inputs outputs) _
        (still_append (uses f wanted.Function ∷ []) (argument_marks inputs outputs) (still_use f wanted.Function) (still_arguments inputs outputs)) listed
        (λ i. function_leads named vars scopes scopes.counts listed f fits.0 i
        ∷ arguments_led named vars scopes scopes.counts listed inputs outputs fits.1 i));
    await = λ place e. stmt_good place (RawStmtKind-F.Await e) (λ scopes. NamedStmtKind-F.Await (named_expr scopes e))
        (λ scopes. what.outs-Await (named_expr scopes e)) (good_test e);
    run = λ place target a inputs outputs. stmt_good place (RawStmtKind-F.Run target a inputs outputs)
        (λ scopes. NamedStmtKind-F.Run (option_map (named_path scopes) target) a.place (position scopes a) (map (named_expr scopes) inputs)
        (map (named_path scopes) outputs))
        (λ scopes. what.outs-Run (option_map (named_path scopes) target) a.place (position scopes a) (map (named_expr scopes) inputs)
        (map (named_path scopes) outputs))
        (λ scopes listed fits own constants.
        let first = optional path_marks target in
        let second = uses a wanted.Activity ∷ argument_marks inputs outputs in
        let later = fits_behind scopes first second (still_taker target) fits in
        leading_still scopes (first ++ second) _
        (still_append first second (still_taker target)
        (still_append (uses a wanted.Activity ∷ []) (argument_marks inputs outputs) (still_use a wanted.Activity) (still_arguments inputs outputs))) listed
        ((λ i. optional_led named vars scopes scopes.counts listed path_marks (path_leads vars) (named_path scopes) target
        (path_led named vars scopes scopes.counts listed) (fits_first scopes first second fits) i
        ++ (activity_leads named vars scopes scopes.counts listed a later.0 i
        ∷ arguments_led named vars scopes scopes.counts listed inputs outputs later.1 i))
        ∙ sym (bindings_behind scopes first second (still_taker target))));
    branching = λ place arms other in_arms in_other. stmt_good place (RawStmtKind-F.If arms other)
        (λ scopes. NamedStmtKind-F.If (made_of_all (map piece_of_arm arms) scopes) (made_of_all (map stmt_piece other) (behind_arms arms scopes)))
        (λ scopes. what.outs-If (made_of_all (map piece_of_arm arms) scopes) (made_of_all (map stmt_piece other) (behind_arms arms scopes)))
        (λ scopes listed fits own constants.
        good_then (all (map piece_of_arm arms)) (own_scope (body_piece other)) (lead_all (leads_of_arm named vars)) body_leads scopes
        (good_all piece_of_arm (leads_of_arm named vars) arms in_arms) (good_body other in_other) listed fits own constants);
    cobegin = λ place branches in_branches. stmt_good place (RawStmtKind-F.Cobegin branches)
        (λ scopes. NamedStmtKind-F.Cobegin (made_of_all (map piece_of_branch branches) scopes))
        (λ scopes. what.outs-Cobegin (made_of_all (map piece_of_branch branches) scopes))
        (good_all piece_of_branch (leads_of_branch named vars) branches in_branches);
    guarded = λ place guard e body each. stmt_good place (RawStmtKind-F.When guard e body)
        (λ scopes. NamedStmtKind-F.When guard (named_expr scopes e) (made_of_all (map stmt_piece body) (behind e scopes)))
        (λ scopes. what.outs-When guard (named_expr scopes e) (made_of_all (map stmt_piece body) (behind e scopes))) (tested_leading e body each);
    repeat = λ place body each. stmt_good place (RawStmtKind-F.Repeat body)
        (λ scopes. NamedStmtKind-F.Repeat (made_of_all (map stmt_piece body) (opened scopes)))
        (λ scopes. what.outs-Repeat (made_of_all (map stmt_piece body) (opened scopes))) (good_body body each);
    until = λ place body e each. stmt_good place (RawStmtKind-F.Until body e)
        (λ scopes. NamedStmtKind-F.Until (made_of_all (map stmt_piece body) (opened scopes)) (named_expr scopes e))
        (λ scopes. what.outs-Until (made_of_all (map stmt_piece body) (opened scopes)) (named_expr scopes e)) (until_leading body e each);
    while = λ place e body each. stmt_good place (RawStmtKind-F.While e body)
        (λ scopes. NamedStmtKind-F.While (named_expr scopes e) (made_of_all (map stmt_piece body) (behind e scopes)))
        (λ scopes. what.outs-While (named_expr scopes e) (made_of_all (map stmt_piece body) (behind e scopes))) (tested_leading e body each);
    returns = λ place e. stmt_good place (RawStmtKind-F.Return e) (λ scopes. NamedStmtKind-F.Return (option_map (named_expr scopes) e))
        (λ scopes. what.outs-Return (option_map (named_expr scopes) e))
        (λ scopes listed fits own constants. leading_still scopes (optional expr_marks e) _ (still_optional expr_marks e still_expr) listed
        (optional_led named vars scopes scopes.counts listed expr_marks (expr_leads named vars) (named_expr scopes) e
        (expr_led named vars scopes scopes.counts listed) fits));
    arm = λ test body each.
        subst (Good (leads_of_arm named vars)) (sym (arm_is test body))
        (λ scopes listed fits own constants.
        subst (λ leads. Leading named vars scopes (after scopes (expr_marks test ++ in_scope (body_piece body).marks)) leads
        (bindings scopes (expr_marks test ++ in_scope (body_piece body).marks)) ((body_piece body).vars (behind test scopes))
        ((body_piece body).constants (behind test scopes)))
        (sym (named_arm_at Referents (stmt_kind_leads named vars) (arm_layer_leads named vars) branch_layer_leads stmt_layer_leads (named_expr scopes test)
        (made_of_all (map stmt_piece body) (behind test scopes))))
        (tested_leading test body each scopes listed fits own constants));
    branch = λ weak body each.
        subst (Good (leads_of_branch named vars)) (sym (branch_is weak body))
        (λ scopes listed fits own constants.
        subst (λ leads. Leading named vars scopes (after scopes (in_scope (body_piece body).marks)) leads (bindings scopes (in_scope (body_piece body).marks))
        ((body_piece body).vars (opened scopes)) ((body_piece body).constants (opened scopes)))
        (sym (named_branch_at Referents (stmt_kind_leads named vars) (arm_layer_leads named vars) branch_layer_leads stmt_layer_leads weak
        (made_of_all (map stmt_piece body) (opened scopes))))
        (good_body body each scopes listed fits own constants));
  }

  pub every_block : (body : List RawStmt) → Good body_leads (body_piece body)
  every_block body = good_all stmt_piece (stmt_leads named vars) body (λ k d within. induct StmtGood ArmGood BranchGood cases _)
