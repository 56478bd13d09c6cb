-- The positions in types and expressions are in place, where every use fits.
use Rattle.std.proofs.Common.{◌≡◌, ℕ, ◌<◌, Bool, true, ◌&&◌, nat_lt, List, [], ◌∷◌, ◌++◌, map, inl, inr, ⊎_elim, ◌⊎◌, Option, Some, None, refl, ap, subst, ◌∙◌}
use Rattle.std.specs.Prelude.{All, option_map}
use Rattle.std.specs.List.{list_all}
use Rattle.std.proofs.lemmas.Bool.{lt-ltb}
use Rattle.std.proofs.lemmas.List.Elements.{All-head, All-tail}
use Rattle.std.proofs.lemmas.Bool.{and_from}
use Rattle.bl_tree.specs.declared.place.Place.{Place}
use Rattle.bl_tree.specs.Reduce.{all_of, joined}
use Rattle.bl_names_tree.specs.declared.expr.NamedExpr.{NamedExpr, fold-roll-NamedExpr, roll-NamedExpr}
use Rattle.bl_names_tree.specs.declared.expr.NamedExprKind.{NamedExprKind, fold-NamedExprKind, fold_out-NamedExprKind, map-NamedExprKind, out-NamedExprKind}
use Rattle.bl_names_tree.specs.declared.expr.NamedExprKind.TheOpen.{NamedExprKind-F, NamedPart-F}
use Rattle.bl_names_tree.specs.declared.expr.NamedExprKind.TheVariants as what
use Rattle.bl_names_tree.specs.declared.expr.NamedPart.{NamedPart, fold_out-NamedPart, map-NamedPart, out-NamedPart}
use Rattle.bl_names_tree.specs.declared.expr.NamedPart.TheVariants as part
use Rattle.bl_names_tree.specs.declared.expr.NamedTarget.{NamedTarget, fold-roll-NamedTarget}
use Rattle.bl_names_tree.specs.declared.types.NamedType.{NamedType, fold_out-NamedType, map-NamedType, out-NamedType}
use Rattle.bl_names_tree.specs.declared.types.NamedType.TheOpen.{NamedType-F}
use Rattle.bl_names_tree.specs.declared.types.NamedType.TheVariants as type
use Rattle.bl_names_tree.specs.Placed.{DeclaredBefore, expr_layer_placed, expr_placed, holds_if, kind_placed, length_placed, part_placed, path_placed}
use Rattle.bl_names_tree.specs.Placed.{root_placed, target_layer_placed, target_placed, type_level_placed, type_placed}
use Rattle.bl_names_tree.specs.inner.Placed.{step_placed}
use Rattle.bl_names_scopes.specs.declared.kind.Kind.{Kind}
use Rattle.bl_names_scopes.specs.declared.kind.Kind.TheVariants as kinds
use Rattle.bl_names_scopes.specs.declared.kind.Wanted.{Wanted}
use Rattle.bl_names_scopes.specs.declared.kind.Wanted.TheVariants as wants
use Rattle.bl_names_scopes.specs.declared.scopes.Counts.{Counts}
use Rattle.bl_names_scopes.specs.Kinds.{suits}
use Rattle.bl_names_scopes.specs.Marks.{Marks, expr_layer_marks, expr_marks, kind_marks, length_marks, marks_of_part, optional, part_marks, path_marks}
use Rattle.bl_names_scopes.specs.Marks.{target_layer_marks, target_marks, type_marks, uses}
use Rattle.bl_names_scopes.specs.Scopes.{Scopes, count_of}
use Rattle.bl_parse_tree.specs.declared.expr.RawExpr.{RawExpr, fold-roll-RawExpr}
use Rattle.bl_parse_tree.specs.declared.expr.RawExprKind.{RawExprKind, fold-RawExprKind, fold-roll-RawExprKind, map-RawExprKind}
use Rattle.bl_parse_tree.specs.declared.expr.RawExprKind.TheOpen.{RawExprKind-F, RawPart-F}
use Rattle.bl_parse_tree.specs.declared.expr.RawPart.{RawPart, fold_out-RawPart, map-RawPart, out-RawPart}
use Rattle.bl_parse_tree.specs.declared.expr.RawTarget.{RawTarget, fold-roll-RawTarget, roll-RawTarget}
use Rattle.bl_parse_tree.specs.declared.name.Name.{Name}
use Rattle.bl_parse_tree.specs.declared.stmt.RawPath.{RawPath}
use Rattle.bl_parse_tree.specs.declared.types.RawLength.{RawLength}
use Rattle.bl_parse_tree.specs.declared.types.RawLength.TheVariants as raw_length
use Rattle.bl_parse_tree.specs.declared.types.RawType.{RawType, fold-roll-RawType, ind-RawType, map-RawType, roll-RawType}
use Rattle.bl_parse_tree.specs.declared.types.RawType.TheOpen.{RawType-F}
use Rattle.bl_names.specs.Naming.{named_expr, named_expr_layer, named_kind, named_length, named_part, named_path, named_root, named_step, named_target}
use Rattle.bl_names.specs.Naming.{named_target_layer, named_type, position, position_of, root_at, root_of}
use Rattle.bl_names.proofs.BelowLemmas.{Below, DeclarationBelow, bound_below}
use Rattle.bl_names.proofs.FitLemmas.{Fits, IsFit, fits_behind, fits_first}
use Rattle.bl_names.proofs.RawExprInduction.{Cases, EachIndex, OfIndex, expr, induct, induct_target}
use Rattle.bl_names.proofs.StillLemmas.{Still, still_expr, still_length}

abbrev pub earlier_of : Counts → DeclaredBefore
earlier_of counts = record { structs = counts.structs; constants = counts.constants; units = counts.units; variables = counts.variables }

abbrev pub earlier : Scopes → DeclaredBefore
earlier scopes = earlier_of scopes.counts

-- ---- what a use is bound to

below_variable : (counts : Counts) (kind : Kind) (k : ℕ) → suits wants.Variable kind ≡ true → (kind ≡ kinds.Field) ⊎ (k < count_of counts kind)
    → k < counts.variables
below_variable counts kinds.Struct k suited below = absurd (cc)
below_variable counts kinds.Constant k suited below = absurd (cc)
below_variable counts kinds.Variable k suited below = ⊎_elim (λ is. absurd (cc)) (λ less. less) below
below_variable counts kinds.Function k suited below = absurd (cc)
below_variable counts kinds.Activity k suited below = absurd (cc)
below_variable counts kinds.Field k suited below = absurd (cc)

below_struct : (counts : Counts) (kind : Kind) (k : ℕ) → suits wants.Type kind ≡ true →
    (kind ≡ kinds.Field) ⊎ (k < count_of counts kind) → k < counts.structs
below_struct counts kinds.Struct k suited below = ⊎_elim (λ is. absurd (cc)) (λ less. less) below
below_struct counts kinds.Constant k suited below = absurd (cc)
below_struct counts kinds.Variable k suited below = absurd (cc)
below_struct counts kinds.Function k suited below = absurd (cc)
below_struct counts kinds.Activity k suited below = absurd (cc)
below_struct counts kinds.Field k suited below = absurd (cc)

below_constant : (counts : Counts) (kind : Kind) (k : ℕ) → suits wants.Length kind ≡ true → (kind ≡ kinds.Field) ⊎ (k < count_of counts kind)
    → k < counts.constants
below_constant counts kinds.Struct k suited below = absurd (cc)
below_constant counts kinds.Constant k suited below = ⊎_elim (λ is. absurd (cc)) (λ less. less) below
below_constant counts kinds.Variable k suited below = absurd (cc)
below_constant counts kinds.Function k suited below = absurd (cc)
below_constant counts kinds.Activity k suited below = absurd (cc)
below_constant counts kinds.Field k suited below = absurd (cc)

below_unit : (counts : Counts) (kind : Kind) (k : ℕ) → (suits wants.Function kind ≡ true) ⊎ (suits wants.Activity kind ≡ true)
    → (kind ≡ kinds.Field) ⊎ (k < count_of counts kind) → k < counts.units
below_unit counts kinds.Struct k suited below = ⊎_elim (λ is. absurd (cc)) (λ is. absurd (cc)) suited
below_unit counts kinds.Constant k suited below = ⊎_elim (λ is. absurd (cc)) (λ is. absurd (cc)) suited
below_unit counts kinds.Variable k suited below = ⊎_elim (λ is. absurd (cc)) (λ is. absurd (cc)) suited
below_unit counts kinds.Function k suited below = ⊎_elim (λ is. absurd (cc)) (λ less. less) below
below_unit counts kinds.Activity k suited below = ⊎_elim (λ is. absurd (cc)) (λ less. less) below
below_unit counts kinds.Field k suited below = ⊎_elim (λ is. absurd (cc)) (λ is. absurd (cc)) suited

-- what is wanted of the first name of a target
abbrev pub IsRead : Wanted → Type 0
IsRead wanted = (kind : Kind) → suits wanted kind ≡ true → suits wants.Value kind ≡ true

pub value_read : IsRead wants.Value
value_read kind suited = suited

pub variable_read : IsRead wants.Variable
variable_read kinds.Struct suited = absurd (cc)
variable_read kinds.Constant suited = absurd (cc)
variable_read kinds.Variable suited = refl
variable_read kinds.Function suited = absurd (cc)
variable_read kinds.Activity suited = absurd (cc)
variable_read kinds.Field suited = absurd (cc)

below_root : (counts : Counts) (kind : Kind) (k : ℕ) → suits wants.Value kind ≡ true → (kind ≡ kinds.Field) ⊎ (k < count_of counts kind)
    → root_placed (earlier_of counts) (root_at kind k) ≡ true
below_root counts kinds.Struct k suited below = absurd (cc)
below_root counts kinds.Constant k suited below = ⊎_elim (λ is. absurd (cc)) (λ less. lt-ltb k counts.constants less) below
below_root counts kinds.Variable k suited below = ⊎_elim (λ is. absurd (cc)) (λ less. lt-ltb k counts.variables less) below
below_root counts kinds.Function k suited below = absurd (cc)
below_root counts kinds.Activity k suited below = absurd (cc)
below_root counts kinds.Field k suited below = absurd (cc)

-- the names that are used are bound as in these scopes, of which only what is declared before counts
module _ (scopes : Scopes) (counts : Counts) (below : Below scopes) where
  abbrev there : Scopes
  there = record scopes { counts = counts }

  fit_below : (name : Name) (wanted : Wanted) (fit : IsFit there name wanted) → DeclarationBelow scopes.counts fit.declaration
  fit_below name wanted fit = bound_below scopes name.text fit.declaration below fit.is_bound

  pub variable_placed : (name : Name) → IsFit there name wants.Variable → nat_lt (position scopes name) scopes.counts.variables ≡ true
  variable_placed name fit =
      ap (λ found. nat_lt (position_of found) scopes.counts.variables) fit.is_bound
      ∙ lt-ltb fit.declaration.position scopes.counts.variables (below_variable scopes.counts fit.declaration.kind fit.declaration.position fit.is_suited
      (fit_below name wants.Variable fit))

  pub struct_placed : (name : Name) → IsFit there name wants.Type → nat_lt (position scopes name) scopes.counts.structs ≡ true
  struct_placed name fit =
      ap (λ found. nat_lt (position_of found) scopes.counts.structs) fit.is_bound
      ∙ lt-ltb fit.declaration.position scopes.counts.structs (below_struct scopes.counts fit.declaration.kind fit.declaration.position fit.is_suited
      (fit_below name wants.Type fit))

  pub constant_placed : (name : Name) → IsFit there name wants.Length → nat_lt (position scopes name) scopes.counts.constants ≡ true
  constant_placed name fit =
      ap (λ found. nat_lt (position_of found) scopes.counts.constants) fit.is_bound
      ∙ lt-ltb fit.declaration.position scopes.counts.constants (below_constant scopes.counts fit.declaration.kind fit.declaration.position fit.is_suited
      (fit_below name wants.Length fit))

  pub function_placed : (name : Name) → IsFit there name wants.Function → nat_lt (position scopes name) scopes.counts.units ≡ true
  function_placed name fit =
      ap (λ found. nat_lt (position_of found) scopes.counts.units) fit.is_bound
      ∙ lt-ltb fit.declaration.position scopes.counts.units (below_unit scopes.counts fit.declaration.kind fit.declaration.position (inl fit.is_suited)
      (fit_below name wants.Function fit))

  pub activity_placed : (name : Name) → IsFit there name wants.Activity → nat_lt (position scopes name) scopes.counts.units ≡ true
  activity_placed name fit =
      ap (λ found. nat_lt (position_of found) scopes.counts.units) fit.is_bound
      ∙ lt-ltb fit.declaration.position scopes.counts.units (below_unit scopes.counts fit.declaration.kind fit.declaration.position (inr fit.is_suited)
      (fit_below name wants.Activity fit))

  pub target_root_placed : (name : Name) (wanted : Wanted) → IsRead wanted → IsFit there name wanted →
      root_placed (earlier scopes) (named_root scopes name)
      ≡ true
  target_root_placed name wanted read fit =
      ap (λ found. root_placed (earlier scopes) (root_of found)) fit.is_bound
      ∙ below_root scopes.counts fit.declaration.kind fit.declaration.position (read fit.declaration.kind fit.is_suited) (fit_below name wanted fit)

  -- ---- types

  length_is : (n : RawLength) → Fits there (length_marks n) → length_placed (earlier scopes) (named_length scopes n) ≡ true
  length_is (raw_length.Number n) fits = refl
  length_is (raw_length.Constant name) fits = constant_placed name fits.0

  abbrev TypePlaced : RawType → Type 0
  TypePlaced ty = Fits there (type_marks ty) → type_placed (earlier scopes) (named_type scopes ty) ≡ true

  type_at : (ty : NamedType) (layer : NamedType-F NamedType) → out-NamedType ty ≡ layer →
      type_placed (earlier scopes) ty ≡ type_level_placed (earlier scopes) (map-NamedType NamedType Bool (type_placed (earlier scopes)) layer)
  type_at ty layer is =
      fold_out-NamedType Bool (type_level_placed (earlier scopes)) ty
      ∙ ap (λ layer. type_level_placed (earlier scopes) (map-NamedType NamedType Bool (type_placed (earlier scopes)) layer)) is

  level_is : (level : RawType-F ((ty : RawType) × TypePlaced ty))
      → TypePlaced (roll-RawType (map-RawType ((ty : RawType) × TypePlaced ty) RawType (λ e. e.0) level))
  level_is (RawType-F.Scalar s) fits = rw fold-roll-RawType (type_at (type.Scalar s) (NamedType-F.Scalar s) (type.outs-Scalar s))
  level_is (RawType-F.Struct name) fits =
      let at : Fits there (uses name wants.Type ∷ []) = rw fold-roll-RawType at fits in
      rw fold-roll-RawType (type_at (type.Struct (position scopes name)) (NamedType-F.Struct (position scopes name))
      (type.outs-Struct (position scopes name)) ∙ struct_placed name at.0)
  level_is (RawType-F.Array n element) fits =
      let at : Fits there (length_marks n ++ type_marks element.0) = rw fold-roll-RawType at fits in
      rw fold-roll-RawType
      (type_at (type.Array (named_length scopes n) (named_type scopes element.0)) (NamedType-F.Array (named_length scopes n) (named_type scopes element.0))
      (type.outs-Array (named_length scopes n) (named_type scopes element.0))
      ∙ and_from _ _ (length_is n (fits_first there (length_marks n) (type_marks element.0) at))
      (element.1 (fits_behind there (length_marks n) (type_marks element.0) (still_length n) at)))

  pub type_is : (ty : RawType) → Fits there (type_marks ty) → type_placed (earlier scopes) (named_type scopes ty) ≡ true
  type_is = ind-RawType TypePlaced (λ x y is. subst (λ level. TypePlaced (roll-RawType level)) is (level_is y))

  pub optional_is : {X Y : Type 0} (marks : X → Marks) (placed : Y → Bool) (made : X → Y) (x : Option X)
      → ((x : X) → Fits there (marks x) → placed (made x) ≡ true) →
      Fits there (optional marks x) → holds_if placed (option_map made x) ≡ true
  optional_is marks placed made (Some x) each fits = each x fits
  optional_is marks placed made None each fits = refl

  pub all_is : {X Y : Type 0} (marks : X → Marks) (placed : Y → Bool) (made : X → Y) (xs : List X) → ((x : X) → Still (marks x))
      → All (λ x. Fits there (marks x) → placed (made x) ≡ true) xs →
      Fits there (joined (map marks xs)) → all_of (map placed (map made xs)) ≡ true
  all_is marks placed made [] still each fits = refl
  all_is marks placed made (x ∷ xs) still each fits =
      and_from _ _ (All-head (λ x. Fits there (marks x) → placed (made x) ≡ true) x xs each (fits_first there (marks x) (joined (map marks xs)) fits))
      (all_is marks placed made xs still (All-tail (λ x. Fits there (marks x) → placed (made x) ≡ true) x xs each)
      (fits_behind there (marks x) (joined (map marks xs)) (still x) fits))

  -- ---- expressions

  abbrev ExprPlaced : RawExpr → Type 0
  ExprPlaced e = Fits there (expr_marks e) → expr_placed (earlier scopes) (named_expr scopes e) ≡ true

  abbrev TargetPlaced : RawTarget → Type 0
  TargetPlaced target =
      (wanted : Wanted) → IsRead wanted → Fits there (target_marks target wanted) → target_placed (earlier scopes) (named_target scopes target) ≡ true

  abbrev marks_of_kind : RawExprKind → Marks
  marks_of_kind = fold-RawExprKind Marks Marks Marks (Wanted → Marks) kind_marks part_marks expr_layer_marks target_layer_marks

  abbrev mark_parts : RawExprKind-F RawExprKind RawPart RawExpr RawTarget → RawExprKind-F Marks Marks Marks (Wanted → Marks)
  mark_parts = map-RawExprKind RawExprKind RawPart RawExpr RawTarget Marks Marks Marks (Wanted → Marks) marks_of_kind marks_of_part expr_marks target_marks

  abbrev named_of_kind : RawExprKind → NamedExprKind
  named_of_kind = fold-RawExprKind NamedExprKind NamedPart NamedExpr NamedTarget (named_kind scopes) named_part named_expr_layer (named_target_layer scopes)

  abbrev named_parts : RawExprKind-F RawExprKind RawPart RawExpr RawTarget → RawExprKind-F NamedExprKind NamedPart NamedExpr NamedTarget
  named_parts =
      map-RawExprKind RawExprKind RawPart RawExpr RawTarget NamedExprKind NamedPart NamedExpr NamedTarget named_of_kind (named_step scopes)
      (named_expr scopes) (named_target scopes)

  abbrev placed_of_kind : NamedExprKind → Bool
  placed_of_kind = fold-NamedExprKind Bool Bool Bool Bool (kind_placed (earlier scopes)) part_placed expr_layer_placed (target_layer_placed (earlier scopes))

  abbrev placed_parts : NamedExprKind-F NamedExprKind NamedPart NamedExpr NamedTarget → NamedExprKind-F Bool Bool Bool Bool
  placed_parts =
      map-NamedExprKind NamedExprKind NamedPart NamedExpr NamedTarget Bool Bool Bool Bool placed_of_kind (step_placed (earlier scopes))
      (expr_placed (earlier scopes)) (target_placed (earlier scopes))

  marks_at : (place : Place) (layer : RawExprKind-F RawExprKind RawPart RawExpr RawTarget) → expr_marks (expr place layer) ≡ kind_marks (mark_parts layer)
  marks_at place layer = rw (fold-roll-RawExpr, fold-roll-RawExprKind) refl

  named_at : (place : Place) (layer : RawExprKind-F RawExprKind RawPart RawExpr RawTarget) → named_expr scopes (expr place layer)
      ≡ roll-NamedExpr (record { place = place; what = named_kind scopes (named_parts layer) })
  named_at place layer = rw (fold-roll-RawExpr, fold-roll-RawExprKind) refl

  placed_at : (place : Place) (kind : NamedExprKind) (layer : NamedExprKind-F NamedExprKind NamedPart NamedExpr NamedTarget) →
      out-NamedExprKind kind ≡ layer →
      expr_placed (earlier scopes) (roll-NamedExpr (record { place = place; what = kind })) ≡ kind_placed (earlier scopes) (placed_parts layer)
  placed_at place kind layer is =
      rw fold-roll-NamedExpr
      (fold_out-NamedExprKind Bool Bool Bool Bool (kind_placed (earlier scopes)) part_placed expr_layer_placed (target_layer_placed (earlier scopes)) kind
      ∙ ap (λ layer. kind_placed (earlier scopes) (placed_parts layer)) is)

  -- an expression whose kind becomes this
  kind_is : (place : Place) (layer : RawExprKind-F RawExprKind RawPart RawExpr RawTarget)
      (made : NamedExprKind-F NamedExprKind NamedPart NamedExpr NamedTarget) →
      out-NamedExprKind (named_kind scopes (named_parts layer)) ≡ made
      → (Fits there (kind_marks (mark_parts layer)) → kind_placed (earlier scopes) (placed_parts made) ≡ true) → ExprPlaced (expr place layer)
  kind_is place layer made is gives fits =
      ap (expr_placed (earlier scopes)) (named_at place layer)
      ∙ placed_at place (named_kind scopes (named_parts layer)) made is ∙ gives (subst (Fits there) (marks_at place layer) fits)

  abbrev part_layer : NamedPart-F NamedExprKind NamedPart NamedExpr NamedTarget → NamedPart-F Bool Bool Bool Bool
  part_layer =
      map-NamedPart NamedExprKind NamedPart NamedExpr NamedTarget Bool Bool Bool Bool placed_of_kind (step_placed (earlier scopes))
      (expr_placed (earlier scopes)) (target_placed (earlier scopes))

  part_at : (part : NamedPart) (layer : NamedPart-F NamedExprKind NamedPart NamedExpr NamedTarget) → out-NamedPart part ≡ layer
      → step_placed (earlier scopes) part ≡ part_placed (part_layer layer)
  part_at part layer is =
      fold_out-NamedPart Bool Bool Bool Bool (kind_placed (earlier scopes)) part_placed expr_layer_placed (target_layer_placed (earlier scopes)) part
      ∙ ap (λ layer. part_placed (part_layer layer)) is

  named_step_at : (raw : RawPart) (layer : RawPart-F RawExprKind RawPart RawExpr RawTarget) → out-RawPart raw ≡ layer →
      named_step scopes raw ≡ named_part (map-RawPart RawExprKind RawPart RawExpr RawTarget NamedExprKind NamedPart NamedExpr NamedTarget named_of_kind
      (named_step scopes) (named_expr scopes) (named_target scopes) layer)
  named_step_at raw layer is =
      fold_out-RawPart NamedExprKind NamedPart NamedExpr NamedTarget (named_kind scopes) named_part named_expr_layer (named_target_layer scopes) raw
      ∙ ap (λ layer. named_part (map-RawPart RawExprKind RawPart RawExpr RawTarget NamedExprKind NamedPart NamedExpr NamedTarget named_of_kind
      (named_step scopes) (named_expr scopes) (named_target scopes) layer)) is

  part_is : (raw : RawPart) (layer : RawPart-F RawExprKind RawPart RawExpr RawTarget) → out-RawPart raw ≡ layer → OfIndex ExprPlaced layer →
      Fits there (marks_of_part raw) → step_placed (earlier scopes) (named_step scopes raw) ≡ true
  part_is raw (RawPart-F.Field name) is of fits =
      ap (step_placed (earlier scopes)) (named_step_at raw (RawPart-F.Field name) is)
      ∙ part_at (part.Field name) (NamedPart-F.Field name) (part.outs-Field name)
  part_is raw (RawPart-F.Index e) is of fits =
      ap (step_placed (earlier scopes)) (named_step_at raw (RawPart-F.Index e) is)
      ∙ part_at (part.Index (named_expr scopes e)) (NamedPart-F.Index (named_expr scopes e)) (part.outs-Index (named_expr scopes e))
      ∙ of (rw (fold_out-RawPart Marks Marks Marks (Wanted → Marks) kind_marks part_marks expr_layer_marks target_layer_marks raw, is) at fits)

  still_part : (part : RawPart) → Still (marks_of_part part)
  still_part part = part_still part (out-RawPart part) refl
    where
      part_still : (part : RawPart) (layer : RawPart-F RawExprKind RawPart RawExpr RawTarget) → out-RawPart part ≡ layer → Still (marks_of_part part)
      part_still part (RawPart-F.Field name) is =
          rw (fold_out-RawPart Marks Marks Marks (Wanted → Marks) kind_marks part_marks expr_layer_marks target_layer_marks part, is) (λ scopes. refl)
      part_still part (RawPart-F.Index e) is =
          rw (fold_out-RawPart Marks Marks Marks (Wanted → Marks) kind_marks part_marks expr_layer_marks target_layer_marks part, is) (still_expr e)

  target_case : (place : Place) (root : Name) (parts : List RawPart) → EachIndex ExprPlaced parts
      → TargetPlaced (roll-RawTarget (record { place = place; root = root; parts = parts }))
  target_case place root parts each wanted read fits =
      let at = rw fold-roll-RawTarget at fits in
      rw (fold-roll-RawTarget, fold-roll-NamedTarget)
      (and_from _ _ (target_root_placed root wanted read at.0)
      (all_is marks_of_part (step_placed (earlier scopes)) (named_step scopes) parts still_part (λ k d within. part_is _ _ refl (each k d within)) at.1))

  cases : Cases ExprPlaced TargetPlaced
  cases = record {
    number = λ place minus n. kind_is place (RawExprKind-F.Number minus n) (NamedExprKind-F.Number minus n) (what.outs-Number minus n) (λ fits. refl);
    truth = λ place b. kind_is place (RawExprKind-F.Truth b) (NamedExprKind-F.Truth b) (what.outs-Truth b) (λ fits. refl);
    read = λ place target is. kind_is place (RawExprKind-F.Read target) (NamedExprKind-F.Read (named_target scopes target))
        (what.outs-Read (named_target scopes target)) (is wants.Value value_read);
    prev = λ place name. kind_is place (RawExprKind-F.Prev name) (NamedExprKind-F.Prev (position scopes name)) (what.outs-Prev (position scopes name))
        (λ fits. variable_placed name fits.0);
    one = λ place op a is. kind_is place (RawExprKind-F.One op a) (NamedExprKind-F.One op (named_expr scopes a)) (what.outs-One op (named_expr scopes a)) is;
    two = λ place op a b is_a is_b. kind_is place (RawExprKind-F.Two op a b) (NamedExprKind-F.Two op (named_expr scopes a) (named_expr scopes b))
        (what.outs-Two op (named_expr scopes a) (named_expr scopes b))
        (λ fits. and_from _ _ (is_a (fits_first there (expr_marks a) (expr_marks b) fits))
        (is_b (fits_behind there (expr_marks a) (expr_marks b) (still_expr a) fits)));
    cast = λ place s a is. kind_is place (RawExprKind-F.Cast s a) (NamedExprKind-F.Cast s (named_expr scopes a)) (what.outs-Cast s (named_expr scopes a)) is;
    call = λ place f inputs all. kind_is place (RawExprKind-F.Call f inputs)
        (NamedExprKind-F.Call f.place (position scopes f) (map (named_expr scopes) inputs))
        (what.outs-Call f.place (position scopes f) (map (named_expr scopes) inputs))
        (λ fits. and_from _ _ (function_placed f fits.0) (all_is expr_marks (expr_placed (earlier scopes)) (named_expr scopes) inputs still_expr all fits.1));
    target = target_case;
  }

  pub expr_is : (e : RawExpr) → Fits there (expr_marks e) → expr_placed (earlier scopes) (named_expr scopes e) ≡ true
  expr_is = induct ExprPlaced TargetPlaced cases

  pub target_is : (target : RawTarget) (wanted : Wanted) → IsRead wanted → Fits there (target_marks target wanted)
      → target_placed (earlier scopes) (named_target scopes target) ≡ true
  target_is = induct_target ExprPlaced TargetPlaced cases

  pub path_is : (path : RawPath) → Fits there (path_marks path) → path_placed (earlier scopes) (named_path scopes path) ≡ true
  path_is path fits = variable_placed path.root fits.0

  pub exprs_are : (es : List RawExpr) → Fits there (joined (map expr_marks es)) →
      list_all (expr_placed (earlier scopes)) (map (named_expr scopes) es) ≡ true
  exprs_are [] fits = refl
  exprs_are (e ∷ es) fits =
      and_from _ _ (expr_is e (fits_first there (expr_marks e) (joined (map expr_marks es)) fits))
      (exprs_are es (fits_behind there (expr_marks e) (joined (map expr_marks es)) (still_expr e) fits))

  pub paths_are : (paths : List RawPath) → Fits there (joined (map path_marks paths))
      → list_all (path_placed (earlier scopes)) (map (named_path scopes) paths) ≡ true
  paths_are [] fits = refl
  paths_are (path ∷ paths) fits = and_from _ _ (variable_placed path.root fits.0) (paths_are paths fits.1)
