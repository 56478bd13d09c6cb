-- Expressions look at nothing but what they mention.
use Rattle.std.proofs.Common.{◌≡◌, ℕ, List, [], ◌∷◌, ◌++◌, map, Option, Some, None, refl, sym, ap, ◌∙◌, subst}
use Rattle.std.specs.Prelude.{All, option_map, option_and_then, slice_get}
use Rattle.std.proofs.lemmas.List.Elements.{All-head, All-tail}
use Rattle.bl_tree.specs.declared.place.Place.{Place}
use Rattle.bl_tree.specs.declared.static_path.Static.{Static}
use Rattle.bl_tree.specs.declared.tree.Expr.{Expr, fold-roll-Expr}
use Rattle.bl_tree.specs.declared.tree.ExprKind.{ExprKind, fold-ExprKind, fold-roll-ExprKind}
use Rattle.bl_tree.specs.declared.tree.ExprKind.TheFolds.{map-ExprKind, map-Part}
use Rattle.bl_tree.specs.declared.tree.ExprKind.TheOpen.{ExprKind-F, Part-F}
use Rattle.bl_tree.specs.declared.tree.Part.{Part, fold-Part, fold_out-Part, out-Part}
use Rattle.bl_tree.specs.declared.tree.Path.{Path, fold-roll-Path, roll-Path}
use Rattle.bl_tree.specs.declared.tree.Ty.{Ty}
use Rattle.bl_tree.specs.declared.value.Value.{Value}
use Rattle.bl_tree.specs.Apart.{Roots, expr_layer_roots, kind_roots, part_roots, path_layer_roots, roots_in, roots_in_path}
use Rattle.bl_tree.specs.Reduce.{joined}
use Rattle.bl_tree.specs.Static.{Reach, StaticStep, expr_mentions, index_mentions, kind_mentions, leading_fields, mentions, part_step, path_mentions}
use Rattle.bl_tree.specs.Static.{path_reach, reach_of, static_of, step_of}
use Rattle.bl_tree.specs.Types.{scalar_in}
use Rattle.bl_tree.proofs.ExprInduction.{Cases, EachIndex, OfIndex, expr, induct, induct_path}
use Rattle.bl_eval.specs.declared.datum.Datum.{Datum}
use Rattle.bl_eval.specs.declared.datum.Operand.{Operand}
use Rattle.bl_eval.specs.Changes.{part_of_path}
use Rattle.bl_eval.specs.Meaning.{Meaning, PathMeaning, PathPosition, Scope, View, call_datum, cast_datum, datum_of, expr_means, kind_means, meaning_of}
use Rattle.bl_eval.specs.Meaning.{one_datum, operand_in, part_means, path_meaning_of, path_means, plain, position_in, positions_of, read_at, reading, scalar_of}
use Rattle.bl_eval.specs.Meaning.{two_datum, values_of}
use Rattle.bl_eval.specs.Values.{part_of, value_at}
use Rattle.bl_eval_laws.specs.Local.{Alike, PathsAreLocal, SameAt, ValuesAreLocal, at_path, seen}

-- ---- lists of paths

pub alike_first : (one rest : List Static) (xs ys : List Value) → Alike (one ++ rest) xs ys → Alike one xs ys
alike_first [] rest xs ys same = tt
alike_first (path ∷ one) rest xs ys same = (same.0, alike_first one rest xs ys same.1)

pub alike_second : (one rest : List Static) (xs ys : List Value) → Alike (one ++ rest) xs ys → Alike rest xs ys
alike_second [] rest xs ys same = same
alike_second (path ∷ one) rest xs ys same = alike_second one rest xs ys same.1

pub same_first : (one rest : List ℕ) (xs ys : List Value) → SameAt (one ++ rest) xs ys → SameAt one xs ys
same_first [] rest xs ys same = tt
same_first (k ∷ one) rest xs ys same = (same.0, same_first one rest xs ys same.1)

pub same_second : (one rest : List ℕ) (xs ys : List Value) → SameAt (one ++ rest) xs ys → SameAt rest xs ys
same_second [] rest xs ys same = same
same_second (k ∷ one) rest xs ys same = same_second one rest xs ys same.1

-- ---- what is there at positions that begin with some

pub value_within : (fields rest : List ℕ) (value : Value) → value_at (fields ++ rest) value ≡ option_and_then (value_at rest) (value_at fields value)
value_within [] rest value = refl
value_within (k ∷ fields) rest value = by_part (part_of k value) (λ part. value_within fields rest part)
  where
    by_part : (part : Option Value) → ((part : Value) → value_at (fields ++ rest) part ≡ option_and_then (value_at rest) (value_at fields part)) →
        option_and_then (value_at (fields ++ rest)) part ≡ option_and_then (value_at rest) (option_and_then (value_at fields) part)
    by_part None inner = refl
    by_part (Some part) inner = inner part

read_within : (root : ℕ) (fields rest : List ℕ) (now : List Value) →
    read_at root now (fields ++ rest) ≡ option_and_then (value_at rest) (at_path now (record { root = root; fields = fields }))
read_within root fields rest now = by_value (slice_get now root)
  where
    by_value : (value : Option Value) →
        option_and_then (value_at (fields ++ rest)) value ≡ option_and_then (value_at rest) (option_and_then (value_at fields) value)
    by_value None = refl
    by_value (Some value) = value_within fields rest value

-- ---- what is mentioned, by kinds

abbrev parts_mentioned : ExprKind-F ExprKind Part Expr Path → ExprKind-F (List Static) StaticStep (List Static) Reach
parts_mentioned = map-ExprKind ExprKind Part Expr Path (List Static) StaticStep (List Static) Reach
    (fold-ExprKind (List Static) StaticStep (List Static) Reach kind_mentions part_step expr_mentions path_reach) step_of mentions reach_of

mentions_at : (place : Place) (layer : ExprKind-F ExprKind Part Expr Path) → mentions (expr place layer) ≡ kind_mentions (parts_mentioned layer)
mentions_at place layer = rw (fold-roll-Expr, fold-roll-ExprKind) refl

mentioned_by : (place : Place) (layer : ExprKind-F ExprKind Part Expr Path) (xs ys : List Value) → Alike (mentions (expr place layer)) xs ys →
    Alike (kind_mentions (parts_mentioned layer)) xs ys
mentioned_by place layer xs ys same = subst (λ paths. Alike paths xs ys) (mentions_at place layer) same

reach_is : (place : Place) (root : ℕ) (parts : List Part) (ty : Ty) → reach_of (roll-Path (record { place = place; root = root; parts = parts; ty = ty }))
    ≡ record {
      static = record { root = root; fields = leading_fields (map step_of parts) };
      indices = joined (map (λ step. step.reads) (map step_of parts));
    }
reach_is place root parts ty = rw fold-roll-Path refl

-- ---- what is named, by kinds

abbrev roots_in_part : Part → List ℕ
roots_in_part = fold-Part Roots Roots Roots Roots kind_roots part_roots expr_layer_roots path_layer_roots

abbrev kind_named : ExprKind → Roots
kind_named = fold-ExprKind Roots Roots Roots Roots kind_roots part_roots expr_layer_roots path_layer_roots

abbrev rooted : Part-F ExprKind Part Expr Path → List ℕ
rooted q = part_roots (map-Part ExprKind Part Expr Path Roots Roots Roots Roots kind_named roots_in_part roots_in roots_in_path q)

part_roots_at : (part : Part) (q : Part-F ExprKind Part Expr Path) → out-Part part ≡ q → roots_in_part part ≡ rooted q
part_roots_at part q e = fold_out-Part Roots Roots Roots Roots kind_roots part_roots expr_layer_roots path_layer_roots part ∙ ap rooted e

abbrev parts_rooted : ExprKind-F ExprKind Part Expr Path → ExprKind-F Roots Roots Roots Roots
parts_rooted = map-ExprKind ExprKind Part Expr Path Roots Roots Roots Roots kind_named roots_in_part roots_in roots_in_path

roots_at : (place : Place) (layer : ExprKind-F ExprKind Part Expr Path) → roots_in (expr place layer) ≡ kind_roots (parts_rooted layer)
roots_at place layer = rw (fold-roll-Expr, fold-roll-ExprKind) refl

rooted_by : (place : Place) (layer : ExprKind-F ExprKind Part Expr Path) (xs ys : List Value) → SameAt (roots_in (expr place layer)) xs ys →
    SameAt (kind_roots (parts_rooted layer)) xs ys
rooted_by place layer xs ys same = subst (λ roots. SameAt roots xs ys) (roots_at place layer) same

path_roots_is : (place : Place) (root : ℕ) (parts : List Part) (ty : Ty) →
    roots_in_path (roll-Path (record { place = place; root = root; parts = parts; ty = ty })) ≡ root ∷ joined (map roots_in_part parts)
path_roots_is place root parts ty = rw fold-roll-Path refl

-- positions that begin with these
pub record Front (fields positions : List ℕ) : Type 0 where
  pub rest : List ℕ
  pub is : positions ≡ fields ++ rest

-- ---- parts of paths, by their kinds

abbrev mentioned : Part-F ExprKind Part Expr Path → StaticStep
mentioned q = part_step (map-Part ExprKind Part Expr Path (List Static) StaticStep (List Static) Reach
    (fold-ExprKind (List Static) StaticStep (List Static) Reach kind_mentions part_step expr_mentions path_reach) step_of mentions reach_of q)

step_at : (part : Part) (q : Part-F ExprKind Part Expr Path) → out-Part part ≡ q → step_of part ≡ mentioned q
step_at part q e = fold_out-Part (List Static) StaticStep (List Static) Reach kind_mentions part_step expr_mentions path_reach part ∙ ap mentioned e

module _ (scope : Scope) where
  abbrev meant : Part-F ExprKind Part Expr Path → PathPosition
  meant q = part_means (map-Part ExprKind Part Expr Path Meaning PathPosition Meaning PathMeaning
      (fold-ExprKind Meaning PathPosition Meaning PathMeaning (kind_means scope) part_means expr_means path_means)
      (part_of_path scope) (meaning_of scope) (path_meaning_of scope) q)

  part_at : (part : Part) (q : Part-F ExprKind Part Expr Path) → out-Part part ≡ q → part_of_path scope part ≡ meant q
  part_at part q e = fold_out-Part Meaning PathPosition Meaning PathMeaning (kind_means scope) part_means expr_means path_means part ∙ ap meant e

  -- the positions of a path begin with its fields
  one_on : (k : ℕ) (fields : List ℕ) (later : Option (List ℕ)) (positions : List ℕ) → option_map (λ ks. k ∷ ks) later ≡ Some positions →
      ((ks : List ℕ) → later ≡ Some ks → Front fields ks) → Front (k ∷ fields) positions
  one_on k fields None positions e inner = absurd cc
  one_on k fields (Some ks) positions e inner =
      let f = inner ks refl in record { rest = f.rest; is = tail_of (k ∷ ks) positions e ∙ ap (λ ks. k ∷ ks) f.is }
    where
      tail_of : (xs ys : List ℕ) → Some xs ≡ Some ys → ys ≡ xs
      tail_of xs ys e = cc

  front : (parts : List Part) (view : View) (positions : List ℕ) → positions_of (map (part_of_path scope) parts) view ≡ Some positions →
      Front (leading_fields (map step_of parts)) positions
  front [] view positions e = record { rest = positions; is = refl }
  front (part ∷ parts) view positions e = by_kind (out-Part part) refl e (λ ks h. front parts view ks h)
    where
      by_kind : (q : Part-F ExprKind Part Expr Path) → out-Part part ≡ q →
          positions_of (part_of_path scope part ∷ map (part_of_path scope) parts) view ≡ Some positions →
          ((ks : List ℕ) → positions_of (map (part_of_path scope) parts) view ≡ Some ks → Front (leading_fields (map step_of parts)) ks) →
          Front (leading_fields (step_of part ∷ map step_of parts)) positions
      by_kind (Part-F.Field k) is e inner =
          subst (λ step. Front (leading_fields (step ∷ map step_of parts)) positions) (sym (step_at part (Part-F.Field k) is))
          (one_on k (leading_fields (map step_of parts)) (positions_of (map (part_of_path scope) parts) view) positions
          (sym (ap (λ position. positions_of (position ∷ map (part_of_path scope) parts) view) (part_at part (Part-F.Field k) is)) ∙ e) inner)
      by_kind (Part-F.Index index) is e inner =
          subst (λ step. Front (leading_fields (step ∷ map step_of parts)) positions) (sym (step_at part (Part-F.Index index) is))
          (record { rest = positions; is = refl })

  -- ---- expressions and paths, by their kinds

  abbrev parts_meant : ExprKind-F ExprKind Part Expr Path → ExprKind-F Meaning PathPosition Meaning PathMeaning
  parts_meant = map-ExprKind ExprKind Part Expr Path Meaning PathPosition Meaning PathMeaning
      (fold-ExprKind Meaning PathPosition Meaning PathMeaning (kind_means scope) part_means expr_means path_means)
      (part_of_path scope) (meaning_of scope) (path_meaning_of scope)

  kind_at : (place : Place) (layer : ExprKind-F ExprKind Part Expr Path) (view : View) →
      meaning_of scope (expr place layer) view ≡ kind_means scope (parts_meant layer) view
  kind_at place layer view = rw (fold-roll-Expr, fold-roll-ExprKind) refl

  spot_is : (place : Place) (root : ℕ) (parts : List Part) (ty : Ty) →
      path_meaning_of scope (roll-Path (record { place = place; root = root; parts = parts; ty = ty }))
      ≡ record { root = root; ty = ty; positions = positions_of (map (part_of_path scope) parts) }
  spot_is place root parts ty = rw fold-roll-Path refl

  -- ---- what is meant

  module _ (before before' : List Value) where
    abbrev Local : Expr → Type 0
    Local e = (xs ys : List Value) → Alike (mentions e) xs ys → SameAt (roots_in e) before before' →
        meaning_of scope e (seen xs before) ≡ meaning_of scope e (seen ys before')

    abbrev operand_of : Option Datum → Option Operand
    operand_of datum = option_and_then operand_in datum

    part_same : (part : Part) → OfIndex Local (out-Part part) → (xs ys : List Value) → Alike (step_of part).reads xs ys →
        SameAt (roots_in_part part) before before' → part_of_path scope part (seen xs before) ≡ part_of_path scope part (seen ys before')
    part_same part inner xs ys same near = by_kind (out-Part part) refl inner
      where
        by_kind : (q : Part-F ExprKind Part Expr Path) → out-Part part ≡ q → OfIndex Local q →
            part_of_path scope part (seen xs before) ≡ part_of_path scope part (seen ys before')
        by_kind (Part-F.Field k) is inner =
            ap (λ position. position (seen xs before)) (part_at part (Part-F.Field k) is)
            ∙ sym (ap (λ position. position (seen ys before')) (part_at part (Part-F.Field k) is))
        by_kind (Part-F.Index e) is inner =
            ap (λ position. position (seen xs before)) (part_at part (Part-F.Index e) is)
            ∙ ap (λ datum. option_and_then position_in (operand_of datum))
            (inner xs ys (subst (λ step. Alike step.reads xs ys) (step_at part (Part-F.Index e) is) same)
            (subst (λ roots. SameAt roots before before') (part_roots_at part (Part-F.Index e) is) near))
            ∙ sym (ap (λ position. position (seen ys before')) (part_at part (Part-F.Index e) is))

    parts_same : (parts : List Part) → EachIndex Local parts → (xs ys : List Value) →
        Alike (joined (map (λ step. step.reads) (map step_of parts))) xs ys →
        SameAt (joined (map roots_in_part parts)) before before' →
        positions_of (map (part_of_path scope) parts) (seen xs before) ≡ positions_of (map (part_of_path scope) parts) (seen ys before')
    parts_same [] each xs ys same near = refl
    parts_same (part ∷ parts) each xs ys same near =
        let one = part_same part (All-head (λ part. OfIndex Local (out-Part part)) part parts each) xs ys
        (alike_first (step_of part).reads (joined (map (λ step. step.reads) (map step_of parts))) xs ys same)
        (same_first (roots_in_part part) (joined (map roots_in_part parts)) before before' near) in
        let rest = parts_same parts (All-tail (λ part. OfIndex Local (out-Part part)) part parts each) xs ys
        (alike_second (step_of part).reads (joined (map (λ step. step.reads) (map step_of parts))) xs ys same)
        (same_second (roots_in_part part) (joined (map roots_in_part parts)) before before' near) in
        λ i. option_and_then (λ k. option_map (λ ks. k ∷ ks) (rest i)) (one i)

    -- where a path leads, and what it begins with
    pub record LocalPath (path : Path) : Type 0 where
      pub leads : (xs ys : List Value) → Alike (index_mentions path) xs ys → SameAt (roots_in_path path) before before' →
          (path_meaning_of scope path).positions (seen xs before) ≡ (path_meaning_of scope path).positions (seen ys before')
      pub begins : (xs : List Value) (positions : List ℕ) → (path_meaning_of scope path).positions (seen xs before) ≡ Some positions →
          Front (static_of path).fields positions
      pub root : (path_meaning_of scope path).root ≡ (static_of path).root

    path_local : (place : Place) (root : ℕ) (parts : List Part) (ty : Ty) → EachIndex Local parts →
        LocalPath (roll-Path (record { place = place; root = root; parts = parts; ty = ty }))
    path_local place root parts ty each =
        record {
          leads = λ xs ys same near.
              ap (λ spot. spot.positions (seen xs before)) (spot_is place root parts ty)
              ∙ parts_same parts each xs ys (subst (λ reach. Alike reach.indices xs ys) (reach_is place root parts ty) same)
              (subst (λ roots. SameAt roots before before') (path_roots_is place root parts ty) near).1
              ∙ sym (ap (λ spot. spot.positions (seen ys before')) (spot_is place root parts ty));
          begins = λ xs positions e.
              subst (λ reach. Front reach.static.fields positions) (sym (reach_is place root parts ty))
              (front parts (seen xs before) positions (sym (ap (λ spot. spot.positions (seen xs before)) (spot_is place root parts ty)) ∙ e));
          root = ap (λ spot. spot.root) (spot_is place root parts ty) ∙ sym (ap (λ reach. reach.static.root) (reach_is place root parts ty));
        }

    -- what is there is in what is at the static path
    read_as : (path : Path) → LocalPath path → (now : List Value) (positions : List ℕ) (f : Front (static_of path).fields positions) →
        read_at (path_meaning_of scope path).root now positions ≡ option_and_then (value_at f.rest) (at_path now (static_of path))
    read_as path p now positions f =
        ap (λ root. read_at root now positions) p.root ∙ ap (read_at (static_of path).root now) f.is
        ∙ read_within (static_of path).root (static_of path).fields f.rest now

    read_same : (path : Path) → LocalPath path → (xs ys : List Value) →
        at_path xs (static_of path) ≡ at_path ys (static_of path) → (positions : List ℕ) →
        (path_meaning_of scope path).positions (seen xs before) ≡ Some positions →
        read_at (path_meaning_of scope path).root xs positions ≡ read_at (path_meaning_of scope path).root ys positions
    read_same path p xs ys same positions e =
        let f = p.begins xs positions e in
        read_as path p xs positions f ∙ ap (option_and_then (value_at f.rest)) same ∙ sym (read_as path p ys positions f)

    there_same : (path : Path) → LocalPath path → (xs ys : List Value) → at_path xs (static_of path) ≡ at_path ys (static_of path) →
        (positions : Option (List ℕ)) → (path_meaning_of scope path).positions (seen xs before) ≡ positions →
        option_and_then (read_at (path_meaning_of scope path).root xs) positions ≡ option_and_then (read_at (path_meaning_of scope path).root ys) positions
    there_same path p xs ys same None e = refl
    there_same path p xs ys same (Some positions) e = read_same path p xs ys same positions e

    pub reading_same : (path : Path) → LocalPath path → (xs ys : List Value) → Alike (path_mentions path) xs ys →
        SameAt (roots_in_path path) before before' → reading (path_meaning_of scope path) (seen xs before)
        ≡ reading (path_meaning_of scope path) (seen ys before')
    reading_same path p xs ys same near =
        ap (option_map (datum_of (scalar_in (path_meaning_of scope path).ty)))
        (there_same path p xs ys same.0 ((path_meaning_of scope path).positions (seen xs before)) refl
        ∙ ap (option_and_then (read_at (path_meaning_of scope path).root ys)) (p.leads xs ys same.1 near))

    values_same : (inputs : List Expr) → All Local inputs → (xs ys : List Value) → Alike (joined (map mentions inputs)) xs ys →
        SameAt (joined (map roots_in inputs)) before before' →
        values_of (map (meaning_of scope) inputs) (seen xs before) ≡ values_of (map (meaning_of scope) inputs) (seen ys before')
    values_same [] each xs ys same near = refl
    values_same (e ∷ rest) each xs ys same near =
        let one = All-head Local e rest each xs ys (alike_first (mentions e) (joined (map mentions rest)) xs ys same)
        (same_first (roots_in e) (joined (map roots_in rest)) before before' near) in
        let others = values_same rest (All-tail Local e rest each) xs ys
        (alike_second (mentions e) (joined (map mentions rest)) xs ys same) (same_second (roots_in e) (joined (map roots_in rest)) before before' near) in
        λ i. option_and_then (λ datum. option_map (λ values. plain datum ∷ values) (others i)) (one i)

    cases : Cases Local LocalPath
    cases = record {
      literal = λ place n s xs ys same near. kind_at place (ExprKind-F.Literal n s) (seen xs before) ∙ sym (kind_at place (ExprKind-F.Literal n s)
          (seen ys before'));
      read = λ place path p xs ys same near.
          kind_at place (ExprKind-F.Read path) (seen xs before)
          ∙ reading_same path p xs ys (mentioned_by place (ExprKind-F.Read path) xs ys same)
          (rooted_by place (ExprKind-F.Read path) before before' near)
          ∙ sym (kind_at place (ExprKind-F.Read path) (seen ys before'));
      prev = λ place k xs ys same near.
          kind_at place (ExprKind-F.Prev k) (seen xs before)
          ∙ ap (option_map (datum_of (scalar_of (slice_get scope.vars k)))) (rooted_by place (ExprKind-F.Prev k) before before' near).0
          ∙ sym (kind_at place (ExprKind-F.Prev k) (seen ys before'));
      one = λ place op a inner xs ys same near.
          kind_at place (ExprKind-F.One op a) (seen xs before)
          ∙ ap (λ datum. option_and_then (one_datum op) (operand_of datum)) (inner xs ys
          (mentioned_by place (ExprKind-F.One op a) xs ys same) (rooted_by place (ExprKind-F.One op a) before before' near))
          ∙ sym (kind_at place (ExprKind-F.One op a) (seen ys before'));
      two = λ place op a b left right xs ys same near.
          let all = mentioned_by place (ExprKind-F.Two op a b) xs ys same in
          let roots = rooted_by place (ExprKind-F.Two op a b) before before' near in
          let one = left xs ys (alike_first (mentions a) (mentions b ++ []) xs ys all) (same_first (roots_in a) (roots_in b) before before' roots) in
          let other = right xs ys (alike_first (mentions b) [] xs ys (alike_second (mentions a) (mentions b ++ []) xs ys all))
          (same_second (roots_in a) (roots_in b) before before' roots) in
          kind_at place (ExprKind-F.Two op a b) (seen xs before)
          ∙ (λ i. option_and_then (two_datum op (operand_of (other i))) (operand_of (one i)))
          ∙ sym (kind_at place (ExprKind-F.Two op a b) (seen ys before'));
      cast = λ place s a inner xs ys same near.
          kind_at place (ExprKind-F.Cast s a) (seen xs before)
          ∙ ap (λ datum. option_and_then (cast_datum s) (operand_of datum)) (inner xs ys
          (mentioned_by place (ExprKind-F.Cast s a) xs ys same) (rooted_by place (ExprKind-F.Cast s a) before before' near))
          ∙ sym (kind_at place (ExprKind-F.Cast s a) (seen ys before'));
      call = λ place f inputs each xs ys same near.
          kind_at place (ExprKind-F.Call f inputs) (seen xs before)
          ∙ ap (λ values. option_and_then (call_datum values) (slice_get scope.callees f))
          (values_same inputs each xs ys (mentioned_by place (ExprKind-F.Call f inputs) xs ys same)
          (rooted_by place (ExprKind-F.Call f inputs) before before' near))
          ∙ sym (kind_at place (ExprKind-F.Call f inputs) (seen ys before'));
      path = path_local;
    }

    pub local : (e : Expr) → Local e
    local = induct Local LocalPath cases

    pub local_path : (path : Path) → LocalPath path
    local_path = induct_path Local LocalPath cases

pub values_are_local_too : ValuesAreLocal
values_are_local_too scope e xs ys before before' same near = ap (option_map plain) (local scope before before' e xs ys same near)

pub paths_are_local : PathsAreLocal
paths_are_local = record {
  leads = λ scope path xs ys before before' same near. (local_path scope before before' path).leads xs ys same near;
  reads = λ scope path xs ys before before' same near.
      reading_same scope before before' path (local_path scope before before' path) xs ys same near;
}
