-- Expressions ask for no value before but those that they name under a `prev`.
use Rattle.std.proofs.Common.{◌≡◌, ℕ, Bool, true, false, ◌||◌, List, [], ◌∷◌, ◌++◌, map, Option, refl, sym, ap, ◌∙◌, subst}
use Rattle.std.proofs.lemmas.Bool.{eq-eqb}
use Rattle.std.proofs.lemmas.List.Elements.{All-head, All-tail}
use Rattle.std.specs.List.{list_any}
use Rattle.std.specs.Prelude.{All, nat_eq, option_and_then, option_map, slice_get}
use Rattle.bl_tree.specs.declared.place.Place.{Place}
use Rattle.bl_tree.specs.declared.tree.Expr.{Expr, fold-roll-Expr}
use Rattle.bl_tree.specs.declared.tree.ExprKind.{ExprKind, fold-ExprKind, fold-roll-ExprKind}
use Rattle.bl_tree.specs.declared.tree.ExprKind.TheFolds.{map-ExprKind, map-Part}
use Rattle.bl_tree.specs.declared.tree.ExprKind.TheOpen.{ExprKind-F, Part-F}
use Rattle.bl_tree.specs.declared.tree.Part.{Part, fold_out-Part, out-Part}
use Rattle.bl_tree.specs.declared.tree.Path.{Path, fold-roll-Path, roll-Path}
use Rattle.bl_tree.specs.declared.tree.Ty.{Ty}
use Rattle.bl_tree.specs.declared.value.Value.{Value}
use Rattle.bl_tree.specs.Reduce.{joined}
use Rattle.bl_tree.specs.Types.{scalar_in}
use Rattle.bl_tree.proofs.ExprInduction.{Cases, EachIndex, OfIndex, expr, induct, induct_path}
use Rattle.bl_machine_prevs.specs.Prevs.{expr_layer_prevs, kind_prevs, part_prevs, path_layer_prevs, prevs_in_expr, prevs_in_part, prevs_in_path}
use Rattle.bl_eval.specs.declared.datum.Datum.{Datum}
use Rattle.bl_eval.specs.declared.datum.Operand.{Operand}
use Rattle.bl_eval.specs.Changes.{part_of_path}
use Rattle.bl_eval.specs.Meaning.{Meaning, PathMeaning, PathPosition, Scope, View, call_datum, cast_datum, datum_of, expr_means, kind_means, meaning_of}
use Rattle.bl_eval.specs.Meaning.{one_datum, operand_in, part_means, path_meaning_of, path_means, plain, position_in, positions_of, read_at, reading, scalar_of}
use Rattle.bl_eval.specs.Meaning.{two_datum, values_of}
use Rattle.bl_emit_spec_laws_nodes.specs.Points.Nodes.{AgreeAt}

-- ---- lists

any_first : (one rest : List ℕ) (x : ℕ) → list_any (nat_eq x) one ≡ true → list_any (nat_eq x) (one ++ rest) ≡ true
any_first [] rest x h = absurd (cc)
any_first (k ∷ one) rest x h = by (nat_eq x k) h (any_first one rest x)
  where
    by : (b : Bool) → (b || list_any (nat_eq x) one) ≡ true → (list_any (nat_eq x) one ≡ true → list_any (nat_eq x) (one ++ rest) ≡ true) →
        (b || list_any (nat_eq x) (one ++ rest)) ≡ true
    by true h again = refl
    by false h again = again h

any_second : (one rest : List ℕ) (x : ℕ) → list_any (nat_eq x) rest ≡ true → list_any (nat_eq x) (one ++ rest) ≡ true
any_second [] rest x h = h
any_second (k ∷ one) rest x h = by (nat_eq x k) (any_second one rest x h)
  where
    by : (b : Bool) → list_any (nat_eq x) (one ++ rest) ≡ true → (b || list_any (nat_eq x) (one ++ rest)) ≡ true
    by true again = refl
    by false again = again

pub agree_first : (one rest : List ℕ) (xs ys : List Value) → AgreeAt (one ++ rest) xs ys → AgreeAt one xs ys
agree_first one rest xs ys same x among = same x (any_first one rest x among)

pub agree_second : (one rest : List ℕ) (xs ys : List Value) → AgreeAt (one ++ rest) xs ys → AgreeAt rest xs ys
agree_second one rest xs ys same x among = same x (any_second one rest x among)

agree_own : (k : ℕ) (xs ys : List Value) → AgreeAt (k ∷ []) xs ys → slice_get xs k ≡ slice_get ys k
agree_own k xs ys same = same k (ap (λ b. b || false) (eq-eqb k k refl))

-- ---- what is named, by kinds

abbrev kind_named : ExprKind → List ℕ
kind_named = fold-ExprKind (List ℕ) (List ℕ) (List ℕ) (List ℕ) kind_prevs part_prevs expr_layer_prevs path_layer_prevs

abbrev parts_named : ExprKind-F ExprKind Part Expr Path → ExprKind-F (List ℕ) (List ℕ) (List ℕ) (List ℕ)
parts_named = map-ExprKind ExprKind Part Expr Path (List ℕ) (List ℕ) (List ℕ) (List ℕ) kind_named prevs_in_part prevs_in_expr prevs_in_path

prevs_by : (place : Place) (layer : ExprKind-F ExprKind Part Expr Path) → prevs_in_expr (expr place layer) ≡ kind_prevs (parts_named layer)
prevs_by place layer = rw (fold-roll-Expr, fold-roll-ExprKind) refl

named_by : (place : Place) (layer : ExprKind-F ExprKind Part Expr Path) (xs ys : List Value) → AgreeAt (prevs_in_expr (expr place layer)) xs ys →
    AgreeAt (kind_prevs (parts_named layer)) xs ys
named_by place layer xs ys same = subst (λ ks. AgreeAt ks xs ys) (prevs_by place layer) same

abbrev named : Part-F ExprKind Part Expr Path → List ℕ
named q = part_prevs (map-Part ExprKind Part Expr Path (List ℕ) (List ℕ) (List ℕ) (List ℕ) kind_named prevs_in_part prevs_in_expr prevs_in_path q)

part_prevs_by : (part : Part) (q : Part-F ExprKind Part Expr Path) → out-Part part ≡ q → prevs_in_part part ≡ named q
part_prevs_by part q e =
    fold_out-Part (List ℕ) (List ℕ) (List ℕ) (List ℕ) kind_prevs part_prevs expr_layer_prevs path_layer_prevs part ∙ ap named e

path_prevs_is : (place : Place) (root : ℕ) (parts : List Part) (ty : Ty) →
    prevs_in_path (roll-Path (record { place = place; root = root; parts = parts; ty = ty })) ≡ joined (map prevs_in_part parts)
path_prevs_is place root parts ty = rw fold-roll-Path refl

module _ (scope : Scope) where
  abbrev meant : Part-F ExprKind Part Expr Path → PathPosition
  meant q = part_means (map-Part ExprKind Part Expr Path Meaning PathPosition Meaning PathMeaning
      (fold-ExprKind Meaning PathPosition Meaning PathMeaning (kind_means scope) part_means expr_means path_means)
      (part_of_path scope) (meaning_of scope) (path_meaning_of scope) q)

  part_at : (part : Part) (q : Part-F ExprKind Part Expr Path) → out-Part part ≡ q → part_of_path scope part ≡ meant q
  part_at part q e = fold_out-Part Meaning PathPosition Meaning PathMeaning (kind_means scope) part_means expr_means path_means part ∙ ap meant e

  abbrev parts_meant : ExprKind-F ExprKind Part Expr Path → ExprKind-F Meaning PathPosition Meaning PathMeaning
  parts_meant = map-ExprKind ExprKind Part Expr Path Meaning PathPosition Meaning PathMeaning
      (fold-ExprKind Meaning PathPosition Meaning PathMeaning (kind_means scope) part_means expr_means path_means)
      (part_of_path scope) (meaning_of scope) (path_meaning_of scope)

  kind_at : (place : Place) (layer : ExprKind-F ExprKind Part Expr Path) (view : View) →
      meaning_of scope (expr place layer) view ≡ kind_means scope (parts_meant layer) view
  kind_at place layer view = rw (fold-roll-Expr, fold-roll-ExprKind) refl

  spot_is : (place : Place) (root : ℕ) (parts : List Part) (ty : Ty) →
      path_meaning_of scope (roll-Path (record { place = place; root = root; parts = parts; ty = ty }))
      ≡ record { root = root; ty = ty; positions = positions_of (map (part_of_path scope) parts) }
  spot_is place root parts ty = rw fold-roll-Path refl

  module _ (now before other : List Value) where
    abbrev v : View
    v = record { now = now; before = before }

    abbrev u : View
    u = record { now = now; before = other }

    abbrev Local : Expr → Type 0
    Local e = AgreeAt (prevs_in_expr e) before other → meaning_of scope e v ≡ meaning_of scope e u

    abbrev LocalPath : Path → Type 0
    LocalPath path = AgreeAt (prevs_in_path path) before other → (path_meaning_of scope path).positions v ≡ (path_meaning_of scope path).positions u

    abbrev operand_of : Option Datum → Option Operand
    operand_of datum = option_and_then operand_in datum

    part_same : (part : Part) → OfIndex Local (out-Part part) → AgreeAt (prevs_in_part part) before other →
        part_of_path scope part v ≡ part_of_path scope part u
    part_same part inner near = by_kind (out-Part part) refl inner
      where
        by_kind : (q : Part-F ExprKind Part Expr Path) → out-Part part ≡ q → OfIndex Local q →
            part_of_path scope part v ≡ part_of_path scope part u
        by_kind (Part-F.Field k) is inner =
            ap (λ position. position v) (part_at part (Part-F.Field k) is) ∙ sym (ap (λ position. position u) (part_at part (Part-F.Field k) is))
        by_kind (Part-F.Index e) is inner =
            ap (λ position. position v) (part_at part (Part-F.Index e) is)
            ∙ (ap (λ datum. option_and_then position_in (operand_of datum))
            (inner (subst (λ ks. AgreeAt ks before other) (part_prevs_by part (Part-F.Index e) is) near))
            ∙ sym (ap (λ position. position u) (part_at part (Part-F.Index e) is)))

    parts_same : (parts : List Part) → EachIndex Local parts → AgreeAt (joined (map prevs_in_part parts)) before other →
        positions_of (map (part_of_path scope) parts) v ≡ positions_of (map (part_of_path scope) parts) u
    parts_same [] each near = refl
    parts_same (part ∷ parts) each near =
        let one = part_same part (All-head (λ part. OfIndex Local (out-Part part)) part parts each)
        (agree_first (prevs_in_part part) (joined (map prevs_in_part parts)) before other near) in
        let rest = parts_same parts (All-tail (λ part. OfIndex Local (out-Part part)) part parts each)
        (agree_second (prevs_in_part part) (joined (map prevs_in_part parts)) before other near) in
        λ i. option_and_then (λ k. option_map (λ ks. k ∷ ks) (rest i)) (one i)

    path_local : (place : Place) (root : ℕ) (parts : List Part) (ty : Ty) → EachIndex Local parts →
        LocalPath (roll-Path (record { place = place; root = root; parts = parts; ty = ty }))
    path_local place root parts ty each near =
        ap (λ (spot : PathMeaning). spot.positions v) (spot_is place root parts ty)
        ∙ (parts_same parts each (subst (λ ks. AgreeAt ks before other) (path_prevs_is place root parts ty) near)
        ∙ sym (ap (λ (spot : PathMeaning). spot.positions u) (spot_is place root parts ty)))

    pub reading_same : (path : Path) → LocalPath path → AgreeAt (prevs_in_path path) before other →
        reading (path_meaning_of scope path) v ≡ reading (path_meaning_of scope path) u
    reading_same path leads near =
        let spot = path_meaning_of scope path in
        ap (λ positions. option_map (datum_of (scalar_in spot.ty)) (option_and_then (read_at spot.root now) positions)) (leads near)

    values_same : (inputs : List Expr) → All Local inputs → AgreeAt (joined (map prevs_in_expr inputs)) before other →
        values_of (map (meaning_of scope) inputs) v ≡ values_of (map (meaning_of scope) inputs) u
    values_same [] each near = refl
    values_same (e ∷ rest) each near =
        let one = All-head Local e rest each (agree_first (prevs_in_expr e) (joined (map prevs_in_expr rest)) before other near) in
        let others = values_same rest (All-tail Local e rest each)
        (agree_second (prevs_in_expr e) (joined (map prevs_in_expr rest)) before other near) in
        λ i. option_and_then (λ datum. option_map (λ values. plain datum ∷ values) (others i)) (one i)

    cases : Cases Local LocalPath
    cases = record {
      literal = λ place n s near. kind_at place (ExprKind-F.Literal n s) v ∙ sym (kind_at place (ExprKind-F.Literal n s) u);
      read = λ place path p near.
          kind_at place (ExprKind-F.Read path) v
          ∙ (reading_same path p (named_by place (ExprKind-F.Read path) before other near) ∙ sym (kind_at place (ExprKind-F.Read path) u));
      prev = λ place k near.
          kind_at place (ExprKind-F.Prev k) v
          ∙ (ap (option_map (datum_of (scalar_of (slice_get scope.vars k))))
          (agree_own k before other (named_by place (ExprKind-F.Prev k) before other near))
          ∙ sym (kind_at place (ExprKind-F.Prev k) u));
      one = λ place op a inner near.
          kind_at place (ExprKind-F.One op a) v
          ∙ (ap (λ datum. option_and_then (one_datum op) (operand_of datum)) (inner (named_by place (ExprKind-F.One op a) before other near))
          ∙ sym (kind_at place (ExprKind-F.One op a) u));
      two = λ place op a b left right near.
          let all = named_by place (ExprKind-F.Two op a b) before other near in
          let one = left (agree_first (prevs_in_expr a) (prevs_in_expr b) before other all) in
          let last = right (agree_second (prevs_in_expr a) (prevs_in_expr b) before other all) in
          kind_at place (ExprKind-F.Two op a b) v
          ∙ ((λ i. option_and_then (two_datum op (operand_of (last i))) (operand_of (one i)))
          ∙ sym (kind_at place (ExprKind-F.Two op a b) u));
      cast = λ place s a inner near.
          kind_at place (ExprKind-F.Cast s a) v
          ∙ (ap (λ datum. option_and_then (cast_datum s) (operand_of datum)) (inner (named_by place (ExprKind-F.Cast s a) before other near))
          ∙ sym (kind_at place (ExprKind-F.Cast s a) u));
      call = λ place f inputs each near.
          kind_at place (ExprKind-F.Call f inputs) v
          ∙ (ap (λ values. option_and_then (call_datum values) (slice_get scope.callees f))
          (values_same inputs each (named_by place (ExprKind-F.Call f inputs) before other near))
          ∙ sym (kind_at place (ExprKind-F.Call f inputs) u));
      path = path_local;
    }

    pub local : (e : Expr) → Local e
    local = induct Local LocalPath cases

    pub local_path : (path : Path) → LocalPath path
    local_path = induct_path Local LocalPath cases
