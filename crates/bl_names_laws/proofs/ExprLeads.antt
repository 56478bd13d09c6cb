-- The positions in types and expressions lead to what the uses in their places are bound to.
use Rattle.std.proofs.Common.{◌≡◌, ℕ, true, List, [], ◌∷◌, ◌++◌, map, get_or, Some, None, refl, sym, ap, subst, ◌∙◌}
use Rattle.std.specs.Prelude.{All, Option, option_map}
use Rattle.std.proofs.lemmas.List.Elements.{All-head, All-tail}
use Rattle.bl_tree.specs.declared.place.Place.{Place}
use Rattle.bl_tree.specs.Reduce.{joined}
use Rattle.bl_names_tree.specs.declared.expr.NamedExpr.{NamedExpr}
use Rattle.bl_names_tree.specs.declared.expr.NamedExprKind.{NamedExprKind, out-NamedExprKind}
use Rattle.bl_names_tree.specs.declared.expr.NamedExprKind.TheOpen.{NamedExprKind-F}
use Rattle.bl_names_tree.specs.declared.expr.NamedExprKind.TheVariants as what
use Rattle.bl_names_tree.specs.declared.expr.NamedPart.{NamedPart}
use Rattle.bl_names_tree.specs.declared.expr.NamedTarget.{NamedTarget}
use Rattle.bl_names_tree.specs.declared.item.NamedVar.{NamedVar}
use Rattle.bl_names_tree.specs.declared.named.Named.{Named}
use Rattle.bl_names_tree.specs.declared.types.NamedType.{NamedType, fold_out-NamedType, map-NamedType, out-NamedType}
use Rattle.bl_names_tree.specs.declared.types.NamedType.TheOpen.{NamedType-F}
use Rattle.bl_names_tree.specs.declared.types.NamedType.TheVariants as type
use Rattle.bl_parse_tree.specs.declared.expr.RawExpr.{RawExpr, fold-roll-RawExpr}
use Rattle.bl_parse_tree.specs.declared.expr.RawExprKind.{RawExprKind, fold-RawExprKind, fold-roll-RawExprKind, map-RawExprKind}
use Rattle.bl_parse_tree.specs.declared.expr.RawExprKind.TheOpen.{RawExprKind-F, RawPart-F}
use Rattle.bl_parse_tree.specs.declared.expr.RawPart.{RawPart, fold_out-RawPart, out-RawPart}
use Rattle.bl_parse_tree.specs.declared.expr.RawTarget.{RawTarget, fold-roll-RawTarget, roll-RawTarget}
use Rattle.bl_parse_tree.specs.declared.name.Name.{Name}
use Rattle.bl_parse_tree.specs.declared.stmt.RawPath.{RawPath}
use Rattle.bl_parse_tree.specs.declared.types.RawLength.{RawLength}
use Rattle.bl_parse_tree.specs.declared.types.RawLength.TheVariants as raw_length
use Rattle.bl_parse_tree.specs.declared.types.RawType.{RawType, fold-roll-RawType, ind-RawType, map-RawType, roll-RawType}
use Rattle.bl_parse_tree.specs.declared.types.RawType.TheOpen.{RawType-F}
use Rattle.bl_names_scopes.specs.declared.kind.Kind.{Kind}
use Rattle.bl_names_scopes.specs.declared.kind.Kind.TheVariants as kinds
use Rattle.bl_names_scopes.specs.declared.kind.Wanted.{Wanted}
use Rattle.bl_names_scopes.specs.declared.kind.Wanted.TheVariants as wants
use Rattle.bl_names_scopes.specs.declared.scopes.Counts.{Counts}
use Rattle.bl_names_scopes.specs.Kinds.{suits}
use Rattle.bl_names_scopes.specs.Marks.{Marks, argument_marks, expr_layer_marks, expr_marks, kind_marks, length_marks, marks_of_part, optional, part_marks}
use Rattle.bl_names_scopes.specs.Marks.{path_marks, target_layer_marks, target_marks, type_level_marks, type_marks, uses}
use Rattle.bl_names_scopes.specs.Scopes.{Scopes}
use Rattle.bl_names.specs.Naming.{named_expr, named_expr_layer, named_kind, named_length, named_part, named_path, named_root, named_step, named_target}
use Rattle.bl_names.specs.Naming.{named_target_layer, named_type, named_type_level, position, position_of, root_at, root_of}
use Rattle.bl_names.proofs.FitLemmas.{Fits, IsFit, fits_behind, fits_first}
use Rattle.bl_names.proofs.PlacedExpr.{IsRead, value_read}
use Rattle.bl_names.proofs.RawExprInduction.{Cases, EachIndex, OfIndex, expr, induct, induct_target}
use Rattle.bl_names.proofs.StillLemmas.{Still, still_expr, still_exprs, still_length, still_nil}
use Rattle.bl_names_laws.specs.Referents.{Referents, argument_leads, at_root, constant_at, expr_leads, kind_leads, leads_if, length_leads, part_leads}
use Rattle.bl_names_laws.specs.Referents.{path_leads, struct_at, target_layer_leads, target_leads, type_leads, type_level_leads, unit_at, variable_at}
use Rattle.bl_names_laws.specs.inner.Leads.{step_leads}
use Rattle.bl_names_laws.proofs.Bindings.{bindings, bindings_behind}
use Rattle.bl_names_laws.proofs.ExprMade.{NamedLayer, RawLayer, expr_made, field_made, index_made, named_parts, target_made}
use Rattle.bl_names_laws.proofs.Listed.{Listed, activity_suits, at_position, bound_listed, bound_name, constant_suits, function_suits, name_at, struct_suits}
use Rattle.bl_names_laws.proofs.Listed.{variable_suits}

-- ---- what a raw expression does to names, by its parts

abbrev marks_of_kind : RawExprKind → Marks
marks_of_kind = fold-RawExprKind Marks Marks Marks (Wanted → Marks) kind_marks part_marks expr_layer_marks target_layer_marks

abbrev mark_parts : RawLayer → RawExprKind-F Marks Marks Marks (Wanted → Marks)
mark_parts = map-RawExprKind RawExprKind RawPart RawExpr RawTarget Marks Marks Marks (Wanted → Marks) marks_of_kind marks_of_part expr_marks target_marks

marks_at : (place : Place) (layer : RawLayer) → expr_marks (expr place layer) ≡ kind_marks (mark_parts layer)
marks_at place layer = rw (fold-roll-RawExpr, fold-roll-RawExprKind) refl

abbrev part_marks_of : RawPart-F RawExprKind RawPart RawExpr RawTarget → Marks
part_marks_of (RawPart-F.Field name) = []
part_marks_of (RawPart-F.Index e) = expr_marks e

part_marks_at : (part : RawPart) (layer : RawPart-F RawExprKind RawPart RawExpr RawTarget) → out-RawPart part ≡ layer
    → marks_of_part part ≡ part_marks_of layer
part_marks_at part (RawPart-F.Field name) is =
    rw (fold_out-RawPart Marks Marks Marks (Wanted → Marks) kind_marks part_marks expr_layer_marks target_layer_marks part, is) refl
part_marks_at part (RawPart-F.Index e) is =
    rw (fold_out-RawPart Marks Marks Marks (Wanted → Marks) kind_marks part_marks expr_layer_marks target_layer_marks part, is) refl

-- the names that are used are bound as in these scopes
module _ (named : Named) (vars : List NamedVar) (scopes : Scopes) (counts : Counts) (listed : Listed named vars scopes) where
  abbrev there : Scopes
  there = record scopes { counts = counts }

  -- ---- what a use is bound to

  -- a position that leads to what stands there, where this is wanted, leads to the name of what is bound
  fit_leads : (at : ℕ → Option Name) (name : Name) (wanted : Wanted) →
      ((kind : Kind) (k : ℕ) → suits wanted kind ≡ true → at k ≡ at_position named vars kind k) →
      IsFit there name wanted → at (position scopes name) ≡ bound_name scopes name
  fit_leads at name wanted suited fit =
      ap (λ found. at (position_of found)) fit.is_bound
      ∙ suited fit.declaration.kind fit.declaration.position fit.is_suited
      ∙ bound_listed named vars scopes name.text fit.declaration listed fit.is_bound
      ∙ sym (ap (option_map (name_at name.text)) fit.is_bound)

  -- it is the only use
  pub variable_leads : (name : Name) → Fits there (uses name wants.Variable ∷ []) → variable_at vars (position scopes name) ∷ []
      ≡ bindings there (uses name wants.Variable ∷ [])
  variable_leads name fits = ap (λ one. one ∷ []) (fit_leads (variable_at vars) name wants.Variable (variable_suits named vars) fits.0)

  pub function_leads : (name : Name) → IsFit there name wants.Function → unit_at named (position scopes name) ≡ bound_name scopes name
  function_leads name fit = fit_leads (unit_at named) name wants.Function (function_suits named vars) fit

  pub activity_leads : (name : Name) → IsFit there name wants.Activity → unit_at named (position scopes name) ≡ bound_name scopes name
  activity_leads name fit = fit_leads (unit_at named) name wants.Activity (activity_suits named vars) fit

  root_suits : (kind : Kind) (k : ℕ) → suits wants.Value kind ≡ true → at_root named vars (root_at kind k) ≡ at_position named vars kind k
  root_suits kinds.Struct k suited = absurd (cc)
  root_suits kinds.Constant k suited = refl
  root_suits kinds.Variable k suited = refl
  root_suits kinds.Function k suited = absurd (cc)
  root_suits kinds.Activity k suited = absurd (cc)
  root_suits kinds.Field k suited = absurd (cc)

  root_leads : (name : Name) (wanted : Wanted) → IsRead wanted → IsFit there name wanted → at_root named vars (named_root scopes name)
      ≡ bound_name scopes name
  root_leads name wanted read fit =
      ap (λ found. at_root named vars (root_of found)) fit.is_bound
      ∙ root_suits fit.declaration.kind fit.declaration.position (read fit.declaration.kind fit.is_suited)
      ∙ bound_listed named vars scopes name.text fit.declaration listed fit.is_bound
      ∙ sym (ap (option_map (name_at name.text)) fit.is_bound)

  -- ---- parts one after another

  -- the parts that are made of uses lead to what these are bound to
  abbrev pub IsLed : {X Y : Type 0} → (X → Marks) → (Y → Referents) → (X → Y) → X → Type 0
  IsLed marks leads made x = Fits there (marks x) → leads (made x) ≡ bindings there (marks x)

  pub joined_led : {X Y : Type 0} (marks : X → Marks) (leads : Y → Referents) (made : X → Y) (xs : List X) → ((x : X) → Still (marks x))
      → All (IsLed marks leads made) xs → Fits there (joined (map marks xs)) → joined (map leads (map made xs)) ≡ bindings there (joined (map marks xs))
  joined_led marks leads made [] still each fits = refl
  joined_led marks leads made (x ∷ xs) still each fits =
      (λ i. All-head (IsLed marks leads made) x xs each (fits_first there (marks x) (joined (map marks xs)) fits) i
      ++ joined_led marks leads made xs still (All-tail (IsLed marks leads made) x xs each)
      (fits_behind there (marks x) (joined (map marks xs)) (still x) fits) i)
      ∙ sym (bindings_behind there (marks x) (joined (map marks xs)) (still x))

  pub optional_led : {X Y : Type 0} (marks : X → Marks) (leads : Y → Referents) (made : X → Y) (x : Option X) → ((x : X) → IsLed marks leads made x)
      → Fits there (optional marks x) → leads_if leads (option_map made x) ≡ bindings there (optional marks x)
  optional_led marks leads made (Some x) each fits = each x fits
  optional_led marks leads made None each fits = refl

  -- ---- types

  length_led : (n : RawLength) → Fits there (length_marks n) → length_leads named (named_length scopes n) ≡ bindings there (length_marks n)
  length_led (raw_length.Number n) fits = refl
  length_led (raw_length.Constant name) fits =
      ap (λ one. one ∷ []) (fit_leads (constant_at named) name wants.Length (constant_suits named vars) fits.0)

  abbrev TypeLed : RawType → Type 0
  TypeLed = IsLed type_marks (type_leads named) (named_type scopes)

  type_at : (ty : NamedType) (layer : NamedType-F NamedType) → out-NamedType ty ≡ layer →
      type_leads named ty ≡ type_level_leads named (map-NamedType NamedType Referents (type_leads named) layer)
  type_at ty layer is =
      fold_out-NamedType Referents (type_level_leads named) ty ∙ ap (λ layer. type_level_leads named (map-NamedType NamedType Referents (type_leads named) layer)) is

  -- a written type whose level becomes this
  level_is : (layer : RawType-F RawType) (made : NamedType-F NamedType) →
      out-NamedType (named_type_level scopes (map-RawType RawType NamedType (named_type scopes) layer)) ≡ made →
      (Fits there (type_level_marks (map-RawType RawType Marks type_marks layer)) →
      type_level_leads named (map-NamedType NamedType Referents (type_leads named) made)
      ≡ bindings there (type_level_marks (map-RawType RawType Marks type_marks layer))) → TypeLed (roll-RawType layer)
  level_is layer made is gives fits =
      let marks = fold-roll-RawType Marks type_level_marks layer in
      ap (type_leads named) (fold-roll-RawType NamedType (named_type_level scopes) layer)
      ∙ type_at (named_type_level scopes (map-RawType RawType NamedType (named_type scopes) layer)) made is
      ∙ gives (subst (Fits there) marks fits)
      ∙ ap (bindings there) (sym marks)

  level_led : (level : RawType-F ((ty : RawType) × TypeLed ty))
      → TypeLed (roll-RawType (map-RawType ((ty : RawType) × TypeLed ty) RawType (λ e. e.0) level))
  level_led (RawType-F.Scalar s) = level_is (RawType-F.Scalar s) (NamedType-F.Scalar s) (type.outs-Scalar s) (λ fits. refl)
  level_led (RawType-F.Struct name) =
      level_is (RawType-F.Struct name) (NamedType-F.Struct (position scopes name)) (type.outs-Struct (position scopes name))
      (λ fits. ap (λ one. one ∷ []) (fit_leads (struct_at named) name wants.Type (struct_suits named vars) fits.0))
  level_led (RawType-F.Array n element) =
      level_is (RawType-F.Array n element.0) (NamedType-F.Array (named_length scopes n) (named_type scopes element.0))
      (type.outs-Array (named_length scopes n) (named_type scopes element.0))
      (λ fits. (λ i. length_led n (fits_first there (length_marks n) (type_marks element.0) fits) i
      ++ element.1 (fits_behind there (length_marks n) (type_marks element.0) (still_length n) fits) i)
      ∙ sym (bindings_behind there (length_marks n) (type_marks element.0) (still_length n)))

  pub type_led : (ty : RawType) → TypeLed ty
  type_led = ind-RawType TypeLed (λ x y is. subst (λ level. TypeLed (roll-RawType level)) is (level_led y))

  -- ---- expressions

  abbrev ExprLed : RawExpr → Type 0
  ExprLed = IsLed expr_marks (expr_leads named vars) (named_expr scopes)

  abbrev TargetLed : RawTarget → Type 0
  TargetLed target =
      (wanted : Wanted) → IsRead wanted → Fits there (target_marks target wanted) → target_leads named vars (named_target scopes target)
      ≡ bindings there (target_marks target wanted)

  abbrev led_parts : NamedLayer → NamedExprKind-F Referents Referents Referents Referents
  led_parts = named_parts Referents (kind_leads named vars) part_leads (target_layer_leads named vars) scopes

  abbrev kind_named : RawExprKind → NamedExprKind
  kind_named = fold-RawExprKind NamedExprKind NamedPart NamedExpr NamedTarget (named_kind scopes) named_part named_expr_layer (named_target_layer scopes)

  abbrev becomes : RawLayer → NamedExprKind
  becomes layer =
      named_kind scopes
      (map-RawExprKind RawExprKind RawPart RawExpr RawTarget NamedExprKind NamedPart NamedExpr NamedTarget kind_named (named_step scopes)
      (named_expr scopes) (named_target scopes) layer)

  made_at : (place : Place) (layer : RawLayer) (made : NamedLayer) → out-NamedExprKind (becomes layer) ≡ made →
      expr_leads named vars (named_expr scopes (expr place layer)) ≡ kind_leads named vars (led_parts made)
  made_at = expr_made Referents (kind_leads named vars) part_leads (target_layer_leads named vars) scopes

  -- an expression whose kind becomes this
  kind_led : (place : Place) (layer : RawLayer) (made : NamedLayer) →
      expr_leads named vars (named_expr scopes (expr place layer)) ≡ kind_leads named vars (led_parts made) →
      (Fits there (kind_marks (mark_parts layer)) → kind_leads named vars (led_parts made) ≡ bindings there (kind_marks (mark_parts layer)))
      → ExprLed (expr place layer)
  kind_led place layer made is gives fits =
      is ∙ gives (subst (Fits there) (marks_at place layer) fits) ∙ ap (bindings there) (sym (marks_at place layer))

  step_led : (part : RawPart) (layer : RawPart-F RawExprKind RawPart RawExpr RawTarget) → out-RawPart part ≡ layer → OfIndex ExprLed layer
      → IsLed marks_of_part (step_leads named vars) (named_step scopes) part
  step_led part (RawPart-F.Field name) is of fits =
      field_made Referents (kind_leads named vars) part_leads (target_layer_leads named vars) scopes part name is
      ∙ ap (bindings there) (sym (part_marks_at part (RawPart-F.Field name) is))
  step_led part (RawPart-F.Index e) is of fits =
      index_made Referents (kind_leads named vars) part_leads (target_layer_leads named vars) scopes part e is
      ∙ of (subst (Fits there) (part_marks_at part (RawPart-F.Index e) is) fits)
      ∙ ap (bindings there) (sym (part_marks_at part (RawPart-F.Index e) is))

  still_part : (part : RawPart) (layer : RawPart-F RawExprKind RawPart RawExpr RawTarget) → out-RawPart part ≡ layer → Still (marks_of_part part)
  still_part part (RawPart-F.Field name) is = subst Still (sym (part_marks_at part (RawPart-F.Field name) is)) still_nil
  still_part part (RawPart-F.Index e) is = subst Still (sym (part_marks_at part (RawPart-F.Index e) is)) (still_expr e)

  target_marks_at : (place : Place) (root : Name) (steps : List RawPart) (wanted : Wanted) →
      target_marks (roll-RawTarget (record { place = place; root = root; parts = steps })) wanted ≡ uses root wanted ∷ joined (map marks_of_part steps)
  target_marks_at place root steps wanted = rw fold-roll-RawTarget refl

  target_case : (place : Place) (root : Name) (steps : List RawPart) → EachIndex ExprLed steps
      → TargetLed (roll-RawTarget (record { place = place; root = root; parts = steps }))
  target_case place root steps each wanted read fits =
      let at : Fits there (uses root wanted ∷ joined (map marks_of_part steps)) = subst (Fits there) (target_marks_at place root steps wanted) fits in
      target_made Referents (kind_leads named vars) part_leads (target_layer_leads named vars) scopes place root steps
      ∙ (λ i. root_leads root wanted read at.0 i
      ∷ joined_led marks_of_part (step_leads named vars) (named_step scopes) steps (λ part. still_part part (out-RawPart part) refl)
      (λ k d within. step_led _ _ refl (each k d within)) at.1 i)
      ∙ ap (bindings there) (sym (target_marks_at place root steps wanted))

  cases : Cases ExprLed TargetLed
  cases = record {
    number = λ place minus n. kind_led place (RawExprKind-F.Number minus n) (NamedExprKind-F.Number minus n)
        (made_at place (RawExprKind-F.Number minus n) (NamedExprKind-F.Number minus n) (what.outs-Number minus n)) (λ fits. refl);
    truth = λ place b. kind_led place (RawExprKind-F.Truth b) (NamedExprKind-F.Truth b)
        (made_at place (RawExprKind-F.Truth b) (NamedExprKind-F.Truth b) (what.outs-Truth b)) (λ fits. refl);
    read = λ place target is. kind_led place (RawExprKind-F.Read target) (NamedExprKind-F.Read (named_target scopes target))
        (made_at place (RawExprKind-F.Read target) (NamedExprKind-F.Read (named_target scopes target)) (what.outs-Read (named_target scopes target)))
        (is wants.Value value_read);
    prev = λ place name. kind_led place (RawExprKind-F.Prev name) (NamedExprKind-F.Prev (position scopes name))
        (made_at place (RawExprKind-F.Prev name) (NamedExprKind-F.Prev (position scopes name)) (what.outs-Prev (position scopes name)))
        (variable_leads name);
    one = λ place op a is. kind_led place (RawExprKind-F.One op a) (NamedExprKind-F.One op (named_expr scopes a))
        (made_at place (RawExprKind-F.One op a) (NamedExprKind-F.One op (named_expr scopes a)) (what.outs-One op (named_expr scopes a))) is;
    two = λ place op a b is_a is_b. kind_led place (RawExprKind-F.Two op a b) (NamedExprKind-F.Two op (named_expr scopes a) (named_expr scopes b))
        (made_at place (RawExprKind-F.Two op a b) (NamedExprKind-F.Two op (named_expr scopes a) (named_expr scopes b))
        (what.outs-Two op (named_expr scopes a) (named_expr scopes b)))
        (λ fits. (λ i. is_a (fits_first there (expr_marks a) (expr_marks b) fits) i
        ++ is_b (fits_behind there (expr_marks a) (expr_marks b) (still_expr a) fits) i)
        ∙ sym (bindings_behind there (expr_marks a) (expr_marks b) (still_expr a)));
    cast = λ place s a is. kind_led place (RawExprKind-F.Cast s a) (NamedExprKind-F.Cast s (named_expr scopes a))
        (made_at place (RawExprKind-F.Cast s a) (NamedExprKind-F.Cast s (named_expr scopes a)) (what.outs-Cast s (named_expr scopes a))) is;
    call = λ place f inputs each. kind_led place (RawExprKind-F.Call f inputs)
        (NamedExprKind-F.Call f.place (position scopes f) (map (named_expr scopes) inputs))
        (made_at place (RawExprKind-F.Call f inputs) (NamedExprKind-F.Call f.place (position scopes f) (map (named_expr scopes) inputs))
        (what.outs-Call f.place (position scopes f) (map (named_expr scopes) inputs)))
        (λ fits i. function_leads f fits.0 i ∷ joined_led expr_marks (expr_leads named vars) (named_expr scopes) inputs still_expr each fits.1 i);
    target = target_case;
  }

  pub expr_led : (e : RawExpr) → Fits there (expr_marks e) → expr_leads named vars (named_expr scopes e) ≡ bindings there (expr_marks e)
  expr_led = induct ExprLed TargetLed cases

  pub target_led : (target : RawTarget) (wanted : Wanted) → IsRead wanted → Fits there (target_marks target wanted)
      → target_leads named vars (named_target scopes target) ≡ bindings there (target_marks target wanted)
  target_led = induct_target ExprLed TargetLed cases

  pub path_led : (path : RawPath) → Fits there (path_marks path) → path_leads vars (named_path scopes path) ≡ bindings there (path_marks path)
  path_led path fits = variable_leads path.root fits

  pub arguments_led : (inputs : List RawExpr) (outputs : List RawPath) → Fits there (argument_marks inputs outputs) →
      argument_leads named vars (map (named_expr scopes) inputs) (map (named_path scopes) outputs) ≡ bindings there (argument_marks inputs outputs)
  arguments_led inputs outputs fits =
      let first = joined (map expr_marks inputs) in
      let second = joined (map path_marks outputs) in
      (λ i. joined_led expr_marks (expr_leads named vars) (named_expr scopes) inputs still_expr (λ k d within. expr_led _)
      (fits_first there first second fits) i
      ++ joined_led path_marks (path_leads vars) (named_path scopes) outputs (λ path s. refl) (λ k d within. path_led (get_or outputs k d))
      (fits_behind there first second (still_exprs inputs) fits) i)
      ∙ sym (bindings_behind there first second (still_exprs inputs))
