-- Paths that stand for outputs, and targets that are assigned.
use Rattle.std.proofs.Common.{◌≡◌, ℕ, suc, ℤ, List, [], ◌∷◌, ◌++◌, map, length, nat_lt, Option, Some, None, refl, ap, sym, subst, ◌∙◌, arith}
use Rattle.std.specs.Prelude.{Bool, true, false, is_some, option_and_then, slice_get, if◌then◌else◌}
use Rattle.std.specs.List.{cons_option, list_all}
use Rattle.std.proofs.lemmas.Bool.{and_from}
use Rattle.bl_tree.proofs.Basics.{and_first, and_second, first_empty, second_empty}
use Rattle.bl_tree.specs.declared.place.Place.{Place}
use Rattle.bl_tree.specs.declared.rule.Failure.{Failure}
use Rattle.bl_tree.specs.declared.rule.Further.TheVariants.{One}
use Rattle.bl_tree.specs.declared.rule.Rule.TheVariants as rule
use Rattle.bl_tree.specs.declared.tree.Expr.{Expr, fold-Expr}
use Rattle.bl_tree.specs.declared.tree.ExprKind.{ExprKind, fold-ExprKind}
use Rattle.bl_tree.specs.declared.tree.Part.{Part, fold-Part, fold_out-Part, map-Part}
use Rattle.bl_tree.specs.declared.tree.Part.TheVariants as part
use Rattle.bl_tree.specs.declared.tree.Path.{Path, fold-roll-Path, out-Path, out-roll-Path}
use Rattle.bl_tree.specs.declared.tree.StructDef.{StructDef}
use Rattle.bl_tree.specs.declared.tree.Ty.{Ty}
use Rattle.bl_tree.specs.declared.tree.Var.{Var}
use Rattle.bl_tree.specs.Reduce.{all_of}
use Rattle.bl_tree.specs.declared.scalar.Scalar.{Scalar as ScalarType}
use Rattle.bl_tree.specs.Types.{same_type, scalar_in}
use Rattle.bl_tree.specs.Typing.{TypingContext, expr_ignored, is_assignable, is_outlet, is_plain, kind_ignored, may_change, part_is_field, path_is_plain}
use Rattle.bl_tree.specs.Typing.{type_of_path, types_match, var_at}
use Rattle.bl_eval.proofs.FitLemmas.{same_type_is}
use Rattle.bl_parse_tree.specs.declared.name.Name.{Name}
use Rattle.bl_names_tree.specs.declared.expr.NamedTarget.{NamedTarget, fold_out-NamedTarget, out-NamedTarget}
use Rattle.bl_names_tree.specs.declared.expr.Root.{Root}
use Rattle.bl_names_tree.specs.declared.expr.Root.TheVariants as root
use Rattle.bl_names_tree.specs.declared.stmt.NamedPath.{NamedPath}
use Rattle.bl_names_tree.specs.Placed.{expr_layer_placed, kind_placed, part_placed, path_placed, root_placed, target_layer_placed, target_placed}
use Rattle.bl_names_tree.specs.inner.Placed.{step_placed}
use Rattle.bl_types.specs.declared.environment.Environment.{Environment}
use Rattle.bl_types.specs.declared.environment.Variable.{Variable}
use Rattle.bl_types.specs.declared.form.Found.TheVariants as found
use Rattle.bl_types.specs.Expressions.{FieldAt, Formed, Judged, Led, Stepped, Targeted, constant_found, field_found, field_in, judged_kind, judged_layer}
use Rattle.bl_types.specs.Expressions.{judged_part, judged_target, path, path_found, stepped, step_of, targeted, targeted_from, to_field, type_of_constant}
use Rattle.bl_types.specs.Expressions.{type_of_variable, value_of_constant}
use Rattle.bl_types.specs.Failures.{fails_at}
use Rattle.bl_types.specs.Statements.{Lent, all_lent, immutable, immutable_variable, lent, lent_as, paths_failures, paths_made}
use Rattle.bl_types_laws.specs.Fitting.{AllLent, FoundFits, IsLent}
use Rattle.bl_types_laws.specs.Within.{EnvironmentWithin, known_in}
use Rattle.bl_types_laws.proofs.Expressions.{there_at, variable_found}
use Rattle.bl_types_laws.proofs.Forms.{same_type_self}
use Rattle.bl_types_laws.proofs.Targets.{LedFits, field_fits, first_leads, none_lead}

-- ---- by fields alone

abbrev is_field : Part → Bool
is_field = fold-Part (Unit {0}) Bool (Unit {0}) Bool kind_ignored part_is_field expr_ignored path_is_plain

field_alone : (k : ℕ) → is_field (part.Field k) ≡ true
field_alone k =
    fold_out-Part (Unit {0}) Bool (Unit {0}) Bool kind_ignored part_is_field expr_ignored path_is_plain (part.Field k)
    ∙ ap (λ layer. part_is_field (map-Part ExprKind Part Expr Path (Unit {0}) Bool (Unit {0}) Bool
    (fold-ExprKind (Unit {0}) Bool (Unit {0}) Bool kind_ignored part_is_field expr_ignored path_is_plain) is_field
    (fold-Expr (Unit {0}) Bool (Unit {0}) Bool kind_ignored part_is_field expr_ignored path_is_plain) is_plain layer)) (part.outs-Field k)

plain_cons : (at : Place) (o : Option FieldAt) (rest : List Part) → all_of (map is_field rest) ≡ true →
    all_of (map is_field (cons_option (field_found at o).part rest)) ≡ true
plain_cons at None rest all = all
plain_cons at (Some field) rest all = and_from (is_field (part.Field field.position)) (all_of (map is_field rest)) (field_alone field.position) all

plain_first : (structs : List StructDef) (name : Name) (ty : Option Ty) (rest : List Part) → all_of (map is_field rest) ≡ true →
    all_of (map is_field (cons_option (to_field structs name ty).part rest)) ≡ true
plain_first structs name None rest all = all
plain_first structs name (Some ty) rest all = plain_cons name.place (field_in structs name.text _) rest all

plain_parts : (structs : List StructDef) (fields : List Name) (ty : Option Ty) →
    all_of (map is_field (stepped (map (to_field structs) fields) ty).parts) ≡ true
plain_parts structs [] ty = refl
plain_parts structs (name ∷ rest) ty =
    plain_first structs name ty (stepped (map (to_field structs) rest) (to_field structs name ty).ty).parts
    (plain_parts structs rest (to_field structs name ty).ty)

plain_is : (at : Place) (k : ℕ) (parts : List Part) (ty : Ty) → is_plain (path at k parts ty) ≡ all_of (map is_field parts)
plain_is at k parts ty = rw fold-roll-Path refl

root_is : (at : Place) (k : ℕ) (parts : List Part) (ty : Ty) → (out-Path (path at k parts ty)).root ≡ k
root_is at k parts ty = ap (λ layer. layer.root) (out-roll-Path (record { place = at; root = k; parts = parts; ty = ty }))

-- a path, where its type is the one that is wanted
abbrev lent_if : Place → Path → Bool → Lent
lent_if at it same = if same then record { made = Some it; failures = [] } else record { made = None; failures = fails_at rule.Type at }

-- ---- what may be changed

abbrev changed_if : Place → Variable → Bool → List Failure
changed_if at known may = if may then [] else record { rule = rule.Immutable; at = at; further = One known.place } ∷ []

changes : (at : Place) (known : Variable) (may : Bool) → may_change known.role ≡ may → changed_if at known may ≡ [] → may_change known.role ≡ true
changes at known true is none = is
changes at known false is none = absurd (cc)

module _ (env : Environment) (site : TypingContext) (within : EnvironmentWithin env site) where
  may_assign : (at : Place) (k : ℕ) (it : Path) → nat_lt k (length env.vars) ≡ true → (out-Path it).root ≡ k →
      immutable_variable at (slice_get env.vars k) ≡ [] → is_assignable site it ≡ true
  may_assign at k it less root_is none =
      let known = there_at env.vars k less in
      let there = within.vars k known.0 known.1 in
      let may : may_change known.0.role ≡ true = changes at known.0 (may_change known.0.role) refl (ap (immutable_variable at) (sym known.1) ∙ none) in
      ap (λ k. is_some (option_and_then (λ (var : Var). if may_change var.role then Some var else None) (var_at site k))) root_is
      ∙ ap (λ found. is_some (option_and_then (λ (var : Var). if may_change var.role then Some var else None) found)) there.is_there
      ∙ ap (λ may. is_some (if may then Some there.var else None)) (ap may_change (sym there.role) ∙ may)

  -- ---- paths

  fields_lead : (fields : List Name) (ty : Ty) → (stepped (map (to_field env.structs) fields) (Some ty)).failures ≡ [] →
      LedFits site ty (stepped (map (to_field env.structs) fields) (Some ty))
  fields_lead [] = none_lead site (to_field env.structs)
  fields_lead (name ∷ rest) = first_leads site (to_field env.structs) name rest (field_fits env site within name) (fields_lead rest)

  outlet : (at : Place) (k : ℕ) (parts : List Part) (ty : Ty) → all_of (map is_field parts) ≡ true → nat_lt k (length env.vars) ≡ true →
      immutable_variable at (slice_get env.vars k) ≡ [] → is_outlet site (path at k parts ty) ≡ true
  outlet at k parts ty all less none =
      and_from (is_plain (path at k parts ty)) (is_assignable site (path at k parts ty)) (plain_is at k parts ty ∙ all)
      (may_assign at k (path at k parts ty) less (root_is at k parts ty) none)

  same_lent : (wanted : Ty) (at : Place) (it : Path) (same : Bool) → same_type wanted (out-Path it).ty ≡ same →
      type_of_path site it ≡ Some (out-Path it).ty →
      is_outlet site it ≡ true →
      (lent_if at it same).failures ≡ [] → IsLent site wanted (lent_if at it same).made
  same_lent wanted at it true same typed outlet none = record {
    it = it;
    is = refl;
    is_typed = typed
        ∙ ap Some (sym (same_type_is wanted (out-Path it).ty same));
    is_outlet_there = outlet;
  }
  same_lent wanted at it false same typed outlet none = absurd (cc)

  lent_by : (wanted : Ty) (at : Place) (k : ℕ) (led : Led) (ty : Option Ty) → led.ty ≡ ty → FoundFits site (path_found at k led.parts ty) →
      all_of (map is_field led.parts) ≡ true → nat_lt k (length env.vars) ≡ true →
      immutable_variable at (slice_get env.vars k) ≡ [] → (lent_as (Some wanted) at (path_found at k led.parts ty)).failures ≡ [] →
      IsLent site wanted (lent_as (Some wanted) at (path_found at k led.parts ty)).made
  lent_by wanted at k led None is fit plain less none fits = absurd fit
  lent_by wanted at k led (Some ty) is fit plain less none fits =
      same_lent wanted at (path at k led.parts ty) (same_type wanted (out-Path (path at k led.parts ty)).ty) refl fit (outlet at k led.parts ty plain less none)
      fits

  -- a path of which a type is wanted
  pub lent_fits : (path : NamedPath) → path_placed (known_in env) path ≡ true → (ty : Ty) → (lent env (Some ty) path).failures ≡ [] →
      IsLent site ty (lent env (Some ty) path).made
  lent_fits path placed wanted none =
      let known = there_at env.vars path.root placed in
      let there = within.vars path.root known.0 known.1 in
      let typed : type_of_variable (slice_get env.vars path.root) ≡ Some there.var.ty = ap type_of_variable known.1 ∙ there.ty in
      let led : Led = stepped (map (to_field env.structs) path.fields) (type_of_variable (slice_get env.vars path.root)) in
      let fitted : Lent = lent_as (Some wanted) path.place (path_found path.place path.root led.parts led.ty) in
      let none_led : led.failures ≡ [] = first_empty led.failures _ none in
      let behind : fitted.failures ++ immutable_variable path.place (slice_get env.vars path.root) ≡ [] = second_empty led.failures _ none in
      let leads : LedFits site there.var.ty led =
      subst (λ ty. LedFits site there.var.ty (stepped (map (to_field env.structs) path.fields) ty)) (sym typed)
      (fields_lead path.fields there.var.ty (ap (λ ty. (stepped (map (to_field env.structs) path.fields) ty).failures) (sym typed) ∙ none_led)) in
      lent_by wanted path.place path.root led led.ty refl (variable_found env site within path.place path.root there.var led there.is_there leads)
      (plain_parts env.structs path.fields (type_of_variable (slice_get env.vars path.root))) placed (second_empty fitted.failures _ behind)
      (first_empty fitted.failures _ behind)

  lent_first : (var : Var) (vars : List Var) (first : Lent) (rest : List Lent) → IsLent site var.ty first.made → AllLent site vars rest →
      AllLent site (var ∷ vars) (first ∷ rest)
  lent_first var vars first rest one more = record {
    count = ap (λ made. length (cons_option made (paths_made rest))) one.is ∙ ap suc more.count;
    match =
        ap (λ made. types_match (map (type_of_path site) (cons_option made (paths_made rest))) (var ∷ vars)) one.is
        ∙ ap (λ typed. types_match (typed ∷ map (type_of_path site) (paths_made rest)) (var ∷ vars)) one.is_typed
        ∙ and_from (same_type var.ty var.ty) (types_match (map (type_of_path site) (paths_made rest)) vars) (same_type_self var.ty) more.match;
    outlets =
        ap (λ made. all_of (map (is_outlet site) (cons_option made (paths_made rest)))) one.is
        ∙ and_from (is_outlet site one.it) (all_of (map (is_outlet site) (paths_made rest))) one.is_outlet_there more.outlets;
  }

  -- and paths, one for each parameter
  pub all_lent_fit : (paths : List NamedPath) (params : List Var) → list_all (path_placed (known_in env)) paths ≡ true →
      length paths ≡ length params →
      paths_failures (all_lent env paths params) ≡ [] →
      AllLent site params (all_lent env paths params)
  all_lent_fit [] [] placed same none = record { count = refl; match = refl; outlets = refl }
  all_lent_fit [] (var ∷ vars) placed same none = absurd (omega arith)
  all_lent_fit (path ∷ rest) [] placed same none = absurd (omega arith)
  all_lent_fit (path ∷ rest) (var ∷ vars) placed same none =
      lent_first var vars (lent env (Some var.ty) path) (all_lent env rest vars)
      (lent_fits path (and_first (path_placed (known_in env) path) (list_all (path_placed (known_in env)) rest) placed) var.ty
      (first_empty (lent env (Some var.ty) path).failures (paths_failures (all_lent env rest vars)) none))
      (all_lent_fit rest vars (and_second (path_placed (known_in env) path) (list_all (path_placed (known_in env)) rest) placed) (omega arith)
      (second_empty (lent env (Some var.ty) path).failures (paths_failures (all_lent env rest vars)) none))

  -- ---- targets

  found_root : (at : Place) (k : ℕ) (parts : List Part) (ty : Option Ty) (it : Path) → path_found at k parts ty ≡ found.Place it →
      (out-Path it).root ≡ k
  found_root at k parts None it is = absurd (cc)
  found_root at k parts (Some ty) it is = let same : path at k parts ty ≡ it = cc in ap (λ it. (out-Path it).root) (sym same) ∙ root_is at k parts ty

  no_constant : (n : ℤ) (s : Option ScalarType) (it : Path) → constant_found n s ≡ found.Place it → ⊥
  no_constant n None it is = absurd (cc)
  no_constant n (Some s) it is = absurd (cc)

  assign_by : (at : Place) (root : Root) (steps : List (Option Ty → Stepped)) (it : Path) → root_placed (known_in env) root ≡ true →
      (targeted_from env at root steps).found ≡ found.Place it →
      immutable env at root ≡ [] → is_assignable site it ≡ true
  assign_by at (root.Variable k) steps it placed is none =
      may_assign at k it placed (found_root at k (stepped steps (type_of_variable (slice_get env.vars k))).parts
      (stepped steps (type_of_variable (slice_get env.vars k))).ty it is) none
  assign_by at (root.Constant k) steps it placed is none =
      absurd (no_constant (value_of_constant (slice_get env.constants k))
      (option_and_then scalar_in (stepped steps (type_of_constant (slice_get env.constants k))).ty) it is)

  -- what a target leads to may be changed where its root may
  pub target_assignable : (target : NamedTarget) (it : Path) → target_placed (known_in env) target ≡ true →
      (targeted env target).found ≡ found.Place it →
      immutable env (out-NamedTarget target).place (out-NamedTarget target).root ≡ [] → is_assignable site it ≡ true
  target_assignable target it placed is none =
      assign_by (out-NamedTarget target).place (out-NamedTarget target).root (map (step_of env) (out-NamedTarget target).parts) it
      (and_first (root_placed (known_in env) (out-NamedTarget target).root) (all_of (map (step_placed (known_in env)) (out-NamedTarget target).parts))
      (sym (fold_out-NamedTarget Bool Bool Bool Bool (kind_placed (known_in env)) part_placed expr_layer_placed (target_layer_placed (known_in env)) target)
      ∙ placed))
      (ap (λ (targeted : Targeted). targeted.found)
      (sym (fold_out-NamedTarget (Place → Formed) (Option Ty → Stepped) Judged Targeted (judged_kind env) (judged_part env) judged_layer (judged_target env)
      target))
      ∙ is)
      none
