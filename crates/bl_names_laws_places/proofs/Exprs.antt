-- Expressions that were named in scopes that correspond.
use Rattle.std.proofs.Common.{◌≡◌, ℕ, Bool, List, [], ◌∷◌, ◌++◌, map, refl, ap, ap₂, sym, ◌∙◌}
use Rattle.std.specs.Prelude.{All, Option, Some, None, option_map}
use Rattle.bl_tree.specs.declared.place.Place.{Place}
use Rattle.bl_tree.specs.declared.scalar.Op.{Op}
use Rattle.bl_tree.specs.declared.scalar.Scalar.{Scalar}
use Rattle.bl_tree.specs.Reduce.{joined}
use Rattle.bl_joined.specs.Trees.{placed_expr, placed_name, placed_path, placed_target}
use Rattle.bl_names.proofs.FitLemmas.{Fits, fits_behind, fits_first}
use Rattle.bl_names.proofs.StillLemmas.{Still, still_expr, still_use}
use Rattle.bl_names.specs.Naming.{named_expr, named_expr_layer, named_kind, named_part, named_path, named_root, named_step, named_target, named_target_layer}
use Rattle.bl_names.specs.Naming.{position}
use Rattle.bl_names_scopes.specs.declared.kind.Wanted.{Wanted}
use Rattle.bl_names_scopes.specs.declared.kind.Wanted.TheVariants as wanted
use Rattle.bl_names_scopes.specs.declared.scopes.Counts.{Counts}
use Rattle.bl_names_scopes.specs.Marks.{Marks, expr_marks, marks_of_part, optional, path_marks, target_marks, uses}
use Rattle.bl_names_scopes.specs.Scopes.{Scopes}
use Rattle.bl_names_scopes_laws_places.specs.Agree.{ScopesAgree}
use Rattle.bl_names_scopes_laws_places.proofs.MarksMoved.{marks_of_kind}
use Rattle.bl_names_scopes_laws_places.proofs.RawExprs as exprs
use Rattle.bl_names_tree.specs.declared.expr.NamedExpr.{NamedExpr, fold-roll-NamedExpr, roll-NamedExpr}
use Rattle.bl_names_tree.specs.declared.expr.NamedExprKind.{NamedExprKind, fold-NamedExprKind, fold-roll-NamedExprKind}
use Rattle.bl_names_tree.specs.declared.expr.NamedExprKind.TheVariants.{rolls-Number, rolls-Truth, rolls-Read, rolls-Prev, rolls-One, rolls-Two, rolls-Cast}
use Rattle.bl_names_tree.specs.declared.expr.NamedExprKind.TheVariants.{rolls-Call}
use Rattle.bl_names_tree.specs.declared.expr.NamedExprKind.TheVariants as what
use Rattle.bl_names_tree.specs.declared.expr.NamedPart.{NamedPart, fold-NamedPart, fold-roll-NamedPart}
use Rattle.bl_names_tree.specs.declared.expr.NamedPart.TheVariants.{rolls-Field, rolls-Index}
use Rattle.bl_names_tree.specs.declared.expr.NamedPart.TheVariants as part
use Rattle.bl_names_tree.specs.declared.expr.NamedTarget.{NamedTarget, fold-roll-NamedTarget, roll-NamedTarget}
use Rattle.bl_names_tree.specs.declared.expr.Root.{Root}
use Rattle.bl_parse_tree.specs.declared.expr.RawExpr.{RawExpr, fold-roll-RawExpr, roll-RawExpr}
use Rattle.bl_parse_tree.specs.declared.expr.RawExprKind.{RawExprKind, fold-RawExprKind, fold-roll-RawExprKind, roll-RawExprKind}
use Rattle.bl_parse_tree.specs.declared.expr.RawExprKind.TheOpen.{RawExprKind-F, RawPart-F}
use Rattle.bl_parse_tree.specs.declared.expr.RawPart.{RawPart, fold-roll-RawPart, roll-RawPart}
use Rattle.bl_parse_tree.specs.declared.expr.RawTarget.{RawTarget, fold-roll-RawTarget, roll-RawTarget}
use Rattle.bl_parse_tree.specs.declared.name.Name.{Name}
use Rattle.bl_parse_tree.specs.declared.stmt.RawPath.{RawPath}
use Rattle.bl_names_laws_places.specs.Renamed.{Renaming, renamed_expr, renamed_expr_layer, renamed_kind, renamed_part, renamed_path, renamed_root}
use Rattle.bl_names_laws_places.specs.Renamed.{renamed_target, renamed_target_layer}
use Rattle.bl_names_laws_places.proofs.Positions.{fit_there, both_ways, each_fits, map-made, position_same, root_same}

module _ (by : Renaming) where
  -- ---- a named expression, layer by layer

  -- what an expression says, with all places and constants changed
  abbrev saying : NamedExprKind → NamedExprKind
  saying =
      fold-NamedExprKind NamedExprKind NamedPart NamedExpr NamedTarget (renamed_kind by) (renamed_part by) (renamed_expr_layer by)
      (renamed_target_layer by)

  -- a part of a target, with all places and constants changed
  abbrev stepping : NamedPart → NamedPart
  stepping =
      fold-NamedPart NamedExprKind NamedPart NamedExpr NamedTarget (renamed_kind by) (renamed_part by) (renamed_expr_layer by)
      (renamed_target_layer by)

  number_renamed : (minus : Bool) (n : ℕ) → saying (what.Number minus n) ≡ what.Number minus n
  number_renamed minus n = ap saying (sym (rolls-Number minus n)) ∙ rw fold-roll-NamedExprKind refl

  truth_renamed : (b : Bool) → saying (what.Truth b) ≡ what.Truth b
  truth_renamed b = ap saying (sym (rolls-Truth b)) ∙ rw fold-roll-NamedExprKind refl

  read_renamed : (target : NamedTarget) → saying (what.Read target) ≡ what.Read (renamed_target by target)
  read_renamed target = ap saying (sym (rolls-Read target)) ∙ rw fold-roll-NamedExprKind refl

  prev_renamed : (k : ℕ) → saying (what.Prev k) ≡ what.Prev k
  prev_renamed k = ap saying (sym (rolls-Prev k)) ∙ rw fold-roll-NamedExprKind refl

  one_renamed : (op : Op) (a : NamedExpr) → saying (what.One op a) ≡ what.One op (renamed_expr by a)
  one_renamed op a = ap saying (sym (rolls-One op a)) ∙ rw fold-roll-NamedExprKind refl

  two_renamed : (op : Op) (a b : NamedExpr) → saying (what.Two op a b) ≡ what.Two op (renamed_expr by a) (renamed_expr by b)
  two_renamed op a b = ap saying (sym (rolls-Two op a b)) ∙ rw fold-roll-NamedExprKind refl

  cast_renamed : (s : Scalar) (a : NamedExpr) → saying (what.Cast s a) ≡ what.Cast s (renamed_expr by a)
  cast_renamed s a = ap saying (sym (rolls-Cast s a)) ∙ rw fold-roll-NamedExprKind refl

  call_renamed : (place : Place) (k : ℕ) (inputs : List NamedExpr) →
      saying (what.Call place k inputs) ≡ what.Call (by.place place) k (map (renamed_expr by) inputs)
  call_renamed place k inputs = ap saying (sym (rolls-Call place k inputs)) ∙ rw fold-roll-NamedExprKind refl

  field_renamed : (name : Name) → stepping (part.Field name) ≡ part.Field (placed_name by.place name)
  field_renamed name = ap stepping (sym (rolls-Field name)) ∙ rw fold-roll-NamedPart refl

  index_renamed : (e : NamedExpr) → stepping (part.Index e) ≡ part.Index (renamed_expr by e)
  index_renamed e = ap stepping (sym (rolls-Index e)) ∙ rw fold-roll-NamedPart refl

  expr_renamed : (place : Place) (kind : NamedExprKind) →
      renamed_expr by (roll-NamedExpr (record { place = place; what = kind })) ≡ roll-NamedExpr (record { place = by.place place; what = saying kind })
  expr_renamed place kind = rw fold-roll-NamedExpr refl

  target_renamed : (place : Place) (root : Root) (parts : List NamedPart) →
      renamed_target by (roll-NamedTarget (record { place = place; root = root; parts = parts }))
      ≡ roll-NamedTarget (record { place = by.place place; root = renamed_root by root; parts = map stepping parts })
  target_renamed place root parts = rw fold-roll-NamedTarget refl

  module _ (one other : Scopes) (agree : ScopesAgree by.constant one other) (counts : Counts) where
    -- the scopes of the one text, whatever is counted there
    abbrev there : Scopes
    there = record one { counts = counts }

    -- what an expression says, with positions in place of names
    abbrev named_what : Scopes → RawExprKind → NamedExprKind
    named_what scopes =
        fold-RawExprKind NamedExprKind NamedPart NamedExpr NamedTarget (named_kind scopes) named_part named_expr_layer (named_target_layer scopes)

    abbrev KindAgrees : RawExprKind → Type 0
    KindAgrees kind = Fits there (marks_of_kind by.place kind) → named_what other (exprs.said by.place kind) ≡ saying (named_what one kind)

    abbrev PartAgrees : RawPart → Type 0
    PartAgrees step = Fits there (marks_of_part step) → named_step other (exprs.stepped by.place step) ≡ stepping (named_step one step)

    abbrev ExprAgrees : RawExpr → Type 0
    ExprAgrees e = Fits there (expr_marks e) → named_expr other (placed_expr by.place e) ≡ renamed_expr by (named_expr one e)

    abbrev TargetAgrees : RawTarget → Type 0
    TargetAgrees target =
        (needed : Wanted) → Fits there (target_marks target needed) →
        named_target other (placed_target by.place target) ≡ renamed_target by (named_target one target)

    -- a kind agrees where its layer does
    by_layer : (layer : exprs.Layer) →
        named_what other (roll-RawExprKind (exprs.said_layer by.place layer)) ≡ saying (named_what one (roll-RawExprKind layer)) →
        named_what other (exprs.said by.place (roll-RawExprKind layer)) ≡ saying (named_what one (roll-RawExprKind layer))
    by_layer layer h = ap (named_what other) (exprs.said_is by.place layer) ∙ h

    call_agrees : (callee : Name) (inputs : List RawExpr) → All ExprAgrees inputs → KindAgrees (roll-RawExprKind (RawExprKind-F.Call callee inputs))
    call_agrees callee inputs h fits =
        let at : Fits there (uses callee wanted.Function ∷ joined (map expr_marks inputs)) = rw fold-roll-RawExprKind at fits in
        by_layer (RawExprKind-F.Call callee inputs)
        (simp fold-roll-RawExprKind
        (ap₂ (λ k es. what.Call (by.place callee.place) k es) (position_same by one other agree callee wanted.Function refl (fit_there one counts at.0))
        (map-made (named_expr other) (placed_expr by.place) (renamed_expr by) (named_expr one) inputs
        (both_ways (λ e. Fits there (expr_marks e)) (λ e. named_expr other (placed_expr by.place e) ≡ renamed_expr by (named_expr one e)) inputs h
        (each_fits expr_marks still_expr there inputs at.1)))
        ∙ sym (call_renamed callee.place (position one callee) (map (named_expr one) inputs))))

    two_agrees : (op : Op) (a b : RawExpr) → ExprAgrees a → ExprAgrees b → KindAgrees (roll-RawExprKind (RawExprKind-F.Two op a b))
    two_agrees op a b h k fits =
        let at : Fits there (expr_marks a ++ expr_marks b) = rw fold-roll-RawExprKind at fits in
        by_layer (RawExprKind-F.Two op a b)
        (simp fold-roll-RawExprKind
        (ap₂ (what.Two op) (h (fits_first there (expr_marks a) (expr_marks b) at)) (k (fits_behind there (expr_marks a) (expr_marks b) (still_expr a) at))
        ∙ sym (two_renamed op (named_expr one a) (named_expr one b))))

    prev_agrees : (name : Name) → KindAgrees (roll-RawExprKind (RawExprKind-F.Prev name))
    prev_agrees name fits =
        let at : Fits there (uses name wanted.Variable ∷ []) = rw fold-roll-RawExprKind at fits in
        by_layer (RawExprKind-F.Prev name)
        (simp fold-roll-RawExprKind
        (ap what.Prev (position_same by one other agree name wanted.Variable refl (fit_there one counts at.0)) ∙ sym (prev_renamed (position one name))))

    read_agrees : (target : RawTarget) → TargetAgrees target → KindAgrees (roll-RawExprKind (RawExprKind-F.Read target))
    read_agrees target h fits =
        let at : Fits there (target_marks target wanted.Value) = rw fold-roll-RawExprKind at fits in
        by_layer (RawExprKind-F.Read target)
        (simp fold-roll-RawExprKind (ap what.Read (h wanted.Value at) ∙ sym (read_renamed (named_target one target))))

    one_agrees : (op : Op) (a : RawExpr) → ExprAgrees a → KindAgrees (roll-RawExprKind (RawExprKind-F.One op a))
    one_agrees op a h fits =
        let at : Fits there (expr_marks a) = rw fold-roll-RawExprKind at fits in
        by_layer (RawExprKind-F.One op a) (simp fold-roll-RawExprKind (ap (what.One op) (h at) ∙ sym (one_renamed op (named_expr one a))))

    cast_agrees : (s : Scalar) (a : RawExpr) → ExprAgrees a → KindAgrees (roll-RawExprKind (RawExprKind-F.Cast s a))
    cast_agrees s a h fits =
        let at : Fits there (expr_marks a) = rw fold-roll-RawExprKind at fits in
        by_layer (RawExprKind-F.Cast s a) (simp fold-roll-RawExprKind (ap (what.Cast s) (h at) ∙ sym (cast_renamed s (named_expr one a))))

    index_agrees : (e : RawExpr) → ExprAgrees e → PartAgrees (roll-RawPart (RawPart-F.Index e))
    index_agrees e h fits =
        let at : Fits there (expr_marks e) = rw fold-roll-RawPart at fits in
        ap (named_step other) (exprs.index_is by.place e)
        ∙ simp fold-roll-RawPart (ap part.Index (h at) ∙ sym (index_renamed (named_expr one e)))

    expr_agrees_at : (place : Place) (kind : RawExprKind) → KindAgrees kind → ExprAgrees (roll-RawExpr (record { place = place; what = kind }))
    expr_agrees_at place kind h fits =
        let at : Fits there (marks_of_kind by.place kind) = rw fold-roll-RawExpr at fits in
        ap (named_expr other) (exprs.expr_is by.place place kind)
        ∙ simp fold-roll-RawExpr
        (ap (λ x. roll-NamedExpr (record { place = by.place place; what = x })) (h at) ∙ sym (expr_renamed place (named_what one kind)))

    -- the parts of a target use no scope up
    still_part : (step : RawPart) → Still (marks_of_part step)
    still_part = exprs.induct_part (λ step. Still (marks_of_part step)) still_field still_index
      where
        still_field : (name : Name) → Still (marks_of_part (roll-RawPart (RawPart-F.Field name)))
        still_field name = simp fold-roll-RawPart (λ scopes. refl)

        still_index : (e : RawExpr) → Still (marks_of_part (roll-RawPart (RawPart-F.Index e)))
        still_index e = rw fold-roll-RawPart (still_expr e)

    target_agrees_at : (place : Place) (root : Name) (parts : List RawPart) → All PartAgrees parts →
        TargetAgrees (roll-RawTarget (record { place = place; root = root; parts = parts }))
    target_agrees_at place root parts h needed fits =
        let at : Fits there (uses root needed ∷ joined (map marks_of_part parts)) = rw fold-roll-RawTarget at fits in
        ap (named_target other) (exprs.target_is by.place place root parts)
        ∙ simp fold-roll-RawTarget
        (ap₂ (λ r xs. roll-NamedTarget (record { place = by.place place; root = r; parts = xs })) (root_same by one other agree root)
        (map-made (named_step other) (exprs.stepped by.place) stepping (named_step one) parts
        (both_ways (λ x. Fits there (marks_of_part x)) (λ x. named_step other (exprs.stepped by.place x) ≡ stepping (named_step one x)) parts h
        (each_fits marks_of_part still_part there parts at.1)))
        ∙ sym (target_renamed place (named_root one root) (map (named_step one) parts)))

    expr_cases : exprs.Cases KindAgrees PartAgrees ExprAgrees TargetAgrees
    expr_cases = record {
      number = λ minus n fits. by_layer (RawExprKind-F.Number minus n) (simp fold-roll-RawExprKind (sym (number_renamed minus n)));
      truth = λ b fits. by_layer (RawExprKind-F.Truth b) (simp fold-roll-RawExprKind (sym (truth_renamed b)));
      read = read_agrees;
      prev = prev_agrees;
      one = one_agrees;
      two = two_agrees;
      cast = cast_agrees;
      call = call_agrees;
      field = λ name fits. ap (named_step other) (exprs.field_is by.place name) ∙ simp fold-roll-RawPart (sym (field_renamed name));
      index = index_agrees;
      expr = expr_agrees_at;
      target = target_agrees_at;
    }

    pub expr_agrees : (e : RawExpr) → Fits there (expr_marks e) → named_expr other (placed_expr by.place e) ≡ renamed_expr by (named_expr one e)
    expr_agrees = exprs.induct_expr KindAgrees PartAgrees ExprAgrees TargetAgrees expr_cases

    pub target_agrees : (target : RawTarget) → TargetAgrees target
    target_agrees = exprs.induct_target KindAgrees PartAgrees ExprAgrees TargetAgrees expr_cases

    -- ---- several, and where one may be absent

    pub exprs_agree : (es : List RawExpr) → Fits there (joined (map expr_marks es)) →
        map (named_expr other) (map (placed_expr by.place) es) ≡ map (renamed_expr by) (map (named_expr one) es)
    exprs_agree es fits =
        map-made (named_expr other) (placed_expr by.place) (renamed_expr by) (named_expr one) es
        (both_ways (λ e. Fits there (expr_marks e)) (λ e. named_expr other (placed_expr by.place e) ≡ renamed_expr by (named_expr one e)) es
        (λ k d less. expr_agrees _) (each_fits expr_marks still_expr there es fits))

    pub path_agrees : (path : RawPath) → Fits there (path_marks path) →
        named_path other (placed_path by.place path) ≡ renamed_path by (named_path one path)
    path_agrees path fits =
        ap (λ k. record { place = by.place path.place; root = k; fields = map (placed_name by.place) path.fields })
        (position_same by one other agree path.root wanted.Variable refl (fit_there one counts fits.0))

    pub paths_agree : (paths : List RawPath) → Fits there (joined (map path_marks paths)) →
        map (named_path other) (map (placed_path by.place) paths) ≡ map (renamed_path by) (map (named_path one) paths)
    paths_agree paths fits =
        map-made (named_path other) (placed_path by.place) (renamed_path by) (named_path one) paths
        (both_ways (λ p. Fits there (path_marks p)) (λ p. named_path other (placed_path by.place p) ≡ renamed_path by (named_path one p)) paths
        (λ k d less. path_agrees _) (each_fits path_marks (λ path. still_use path.root wanted.Variable) there paths fits))

    pub optional_expr_agrees : (e : Option RawExpr) → Fits there (optional expr_marks e) →
        option_map (named_expr other) (option_map (placed_expr by.place) e) ≡ option_map (renamed_expr by) (option_map (named_expr one) e)
    optional_expr_agrees None fits = refl
    optional_expr_agrees (Some e) fits = ap Some (expr_agrees e fits)

    pub optional_path_agrees : (path : Option RawPath) → Fits there (optional path_marks path) →
        option_map (named_path other) (option_map (placed_path by.place) path) ≡ option_map (renamed_path by) (option_map (named_path one) path)
    optional_path_agrees None fits = refl
    optional_path_agrees (Some path) fits = ap Some (path_agrees path fits)
