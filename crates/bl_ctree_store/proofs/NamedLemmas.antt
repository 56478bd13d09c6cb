-- What an expression gives hangs on the variables that it names, and on no others.
use Rattle.std.proofs.Common.{◌≡◌, ℕ, ℤ, List, [], ◌∷◌, ◌++◌, map, Option, refl, ap, ◌∙◌}
use Rattle.std.proofs.lemmas.List.Elements.{All-head, All-tail}
use Rattle.std.specs.Prelude.{All, option_and_then, option_map, slice_get}
use Rattle.bl_tree.specs.declared.place.Place.{Place}
use Rattle.bl_tree.specs.declared.scalar.Op.{Op}
use Rattle.bl_tree.specs.declared.scalar.Scalar.{Scalar as ScalarType}
use Rattle.bl_tree.specs.declared.tree.Expr.{Expr, fold-roll-Expr}
use Rattle.bl_tree.specs.declared.tree.ExprKind.{ExprKind, fold-roll-ExprKind}
use Rattle.bl_tree.specs.declared.tree.ExprKind.TheOpen.{ExprKind-F, Part-F}
use Rattle.bl_tree.specs.declared.tree.Part.{Part, fold_out-Part, out-Part}
use Rattle.bl_tree.specs.declared.tree.Path.{Path, fold-roll-Path, roll-Path}
use Rattle.bl_tree.specs.declared.tree.Ty.{Ty}
use Rattle.bl_tree.specs.declared.value.Value.{Value}
use Rattle.bl_tree.specs.Apart.{Roots, expr_layer_roots, kind_roots, part_roots, path_layer_roots, roots_in, roots_in_path}
use Rattle.bl_tree.specs.Reduce.{joined}
use Rattle.bl_tree.specs.Types.{scalar_in}
use Rattle.bl_tree.proofs.ExprInduction.{Cases, EachIndex, OfIndex, expr, induct, induct_path}
use Rattle.bl_eval.specs.declared.datum.Datum.{Datum}
use Rattle.bl_eval.specs.Changes.{part_of_path}
use Rattle.bl_eval.specs.Meaning.{Meaning, PathMeaning, PathPosition, Scope, View, call_datum, cast_datum, datum_of, expr_means, kind_means, meaning_of}
use Rattle.bl_eval.specs.Meaning.{one_datum, operand, operand_in, part_means, path_meaning_of, path_means, plain, position_in, positions_of, reading, scalar_of}
use Rattle.bl_eval.specs.Meaning.{two_datum, values_of}
use Rattle.bl_eval.specs.Values.{value_at}
use Rattle.bl_ctree_store.specs.Agree.{Same, roots_in_part}
use Rattle.bl_ctree_store.proofs.AgreeLemmas.{agree_first, agree_second}

pub same_first : (ks rest : List ℕ) (a b : View) → Same (ks ++ rest) a b → Same ks a b
same_first ks rest a b same = (agree_first ks rest a.now b.now same.0, agree_first ks rest a.before b.before same.1)

pub same_second : (ks rest : List ℕ) (a b : View) → Same (ks ++ rest) a b → Same rest a b
same_second ks rest a b same = (agree_second ks rest a.now b.now same.0, agree_second ks rest a.before b.before same.1)

pub same_others : (k : ℕ) (rest : List ℕ) (a b : View) → Same (k ∷ rest) a b → Same rest a b
same_others k rest a b same = (same.0.1, same.1.1)

-- the path leads to the same place, and what it leads into is the same
pub record SameSpot (a b : View) (spot : PathMeaning) : Type 0 where
  pub positions : spot.positions a ≡ spot.positions b
  pub variable : slice_get a.now spot.root ≡ slice_get b.now spot.root

pub reading_same : (a b : View) (spot : PathMeaning) → SameSpot a b spot → reading spot a ≡ reading spot b
reading_same a b spot same =
    ap (λ (ks : Option (List ℕ)). option_map (datum_of (scalar_in spot.ty))
    (option_and_then (λ ks. option_and_then (value_at ks) (slice_get a.now spot.root)) ks)) same.positions
    ∙ ap (λ (old : Option Value). option_map (datum_of (scalar_in spot.ty))
    (option_and_then (λ ks. option_and_then (value_at ks) old) (spot.positions b))) same.variable

pub values_same : {X : Type 0} (a b : View) (means : X → Meaning) (roots : X → List ℕ) (xs : List X) →
    All (λ x. Same (roots x) a b → means x a ≡ means x b) xs
    → Same (joined (map roots xs)) a b → values_of (map means xs) a ≡ values_of (map means xs) b
values_same a b means roots [] each same = refl
values_same a b means roots (x ∷ xs) each same =
    ap (λ (first : Option Datum). option_and_then (λ datum. option_map (λ values. plain datum ∷ values) (values_of (map means xs) a)) first)
    (All-head (λ x. Same (roots x) a b → means x a ≡ means x b) x xs each (same_first (roots x) (joined (map roots xs)) a b same))
    ∙ ap (λ (rest : Option (List Value)). option_and_then (λ datum. option_map (λ values. plain datum ∷ values) rest) (means x b))
    (values_same a b means roots xs (All-tail (λ x. Same (roots x) a b → means x a ≡ means x b) x xs each)
    (same_second (roots x) (joined (map roots xs)) a b same))

module _ (scope : Scope) (a b : View) where
  abbrev P : Expr → Type 0
  P e = Same (roots_in e) a b → meaning_of scope e a ≡ meaning_of scope e b

  abbrev Q : Path → Type 0
  Q path = Same (roots_in_path path) a b → SameSpot a b (path_meaning_of scope path)

  literal_same : (place : Place) (n : ℤ) (s : ScalarType) → P (expr place (ExprKind-F.Literal n s))
  literal_same place n s same = rw (fold-roll-Expr, fold-roll-ExprKind) refl

  read_same : (place : Place) (path : Path) → Q path → P (expr place (ExprKind-F.Read path))
  read_same place path leads same =
      rw (fold-roll-Expr, fold-roll-ExprKind) (reading_same a b (path_meaning_of scope path) (leads (rw (fold-roll-Expr, fold-roll-ExprKind) at same)))

  prev_at : (k : ℕ) → Same (k ∷ []) a b → option_map (datum_of (scalar_of (slice_get scope.vars k))) (slice_get a.before k)
      ≡ option_map (datum_of (scalar_of (slice_get scope.vars k))) (slice_get b.before k)
  prev_at k same = ap (option_map (datum_of (scalar_of (slice_get scope.vars k)))) same.1.0

  prev_same : (place : Place) (k : ℕ) → P (expr place (ExprKind-F.Prev k))
  prev_same place k same = rw (fold-roll-Expr, fold-roll-ExprKind) (prev_at k (rw (fold-roll-Expr, fold-roll-ExprKind) at same))

  operand_same : (e : Expr) → P e → Same (roots_in e) a b → operand (meaning_of scope e) a ≡ operand (meaning_of scope e) b
  operand_same e is same = ap (option_and_then operand_in) (is same)

  one_same : (place : Place) (op : Op) (e : Expr) → P e → P (expr place (ExprKind-F.One op e))
  one_same place op e is same =
      rw (fold-roll-Expr, fold-roll-ExprKind) (ap (option_and_then (one_datum op)) (operand_same e is (rw (fold-roll-Expr, fold-roll-ExprKind) at same)))

  two_at : (op : Op) (l r : Expr) → P l → P r → Same (roots_in l ++ roots_in r) a b
      → option_and_then (two_datum op (operand (meaning_of scope r) a)) (operand (meaning_of scope l) a)
      ≡ option_and_then (two_datum op (operand (meaning_of scope r) b)) (operand (meaning_of scope l) b)
  two_at op l r left right same =
      ap (option_and_then (two_datum op (operand (meaning_of scope r) a))) (operand_same l left (same_first (roots_in l) (roots_in r) a b same))
      ∙ ap (λ other. option_and_then (two_datum op other) (operand (meaning_of scope l) b))
      (operand_same r right (same_second (roots_in l) (roots_in r) a b same))

  two_same : (place : Place) (op : Op) (l r : Expr) → P l → P r → P (expr place (ExprKind-F.Two op l r))
  two_same place op l r left right same = rw (fold-roll-Expr, fold-roll-ExprKind) (two_at op l r left right (rw (fold-roll-Expr, fold-roll-ExprKind) at same))

  cast_same : (place : Place) (target : ScalarType) (e : Expr) → P e → P (expr place (ExprKind-F.Cast target e))
  cast_same place target e is same =
      rw (fold-roll-Expr, fold-roll-ExprKind) (ap (option_and_then (cast_datum target)) (operand_same e is (rw (fold-roll-Expr, fold-roll-ExprKind) at same)))

  call_at : (f : ℕ) (inputs : List Expr) → All P inputs → Same (joined (map roots_in inputs)) a b
      → option_and_then (call_datum (values_of (map (meaning_of scope) inputs) a)) (slice_get scope.callees f)
      ≡ option_and_then (call_datum (values_of (map (meaning_of scope) inputs) b)) (slice_get scope.callees f)
  call_at f inputs each same =
      ap (λ values. option_and_then (call_datum values) (slice_get scope.callees f)) (values_same a b (meaning_of scope) roots_in inputs each same)

  call_same : (place : Place) (f : ℕ) (inputs : List Expr) → All P inputs → P (expr place (ExprKind-F.Call f inputs))
  call_same place f inputs each same = rw (fold-roll-Expr, fold-roll-ExprKind) (call_at f inputs each (rw (fold-roll-Expr, fold-roll-ExprKind) at same))

  part_same : (part : Part) (layer : Part-F ExprKind Part Expr Path) → out-Part part ≡ layer → OfIndex P layer →
      Same (roots_in_part part) a b → part_of_path scope part a ≡ part_of_path scope part b
  part_same part (Part-F.Field k) is of same = rw (
    fold_out-Part Meaning PathPosition Meaning PathMeaning
        (kind_means scope) part_means expr_means path_means part,
    is,
  ) refl
  part_same part (Part-F.Index e) is of same =
      rw (fold_out-Part Meaning PathPosition Meaning PathMeaning (kind_means scope) part_means expr_means path_means part, is)
      (ap (option_and_then position_in) (operand_same e of
      (rw (fold_out-Part Roots Roots Roots Roots kind_roots part_roots expr_layer_roots path_layer_roots part, is) at same)))

  parts_same : (parts : List Part) → EachIndex P parts → Same (joined (map roots_in_part parts)) a b →
      positions_of (map (part_of_path scope) parts) a ≡ positions_of (map (part_of_path scope) parts) b
  parts_same [] each same = refl
  parts_same (part ∷ parts) each same =
      ap (λ (first : Option ℕ). option_and_then (λ k. option_map (λ ks. k ∷ ks) (positions_of (map (part_of_path scope) parts) a)) first)
      (part_same part (out-Part part) refl (All-head (λ part. OfIndex P (out-Part part)) part parts each)
      (same_first (roots_in_part part) (joined (map roots_in_part parts)) a b same))
      ∙ ap (λ (rest : Option (List ℕ)). option_and_then (λ k. option_map (λ ks. k ∷ ks) rest) (part_of_path scope part b))
      (parts_same parts (All-tail (λ part. OfIndex P (out-Part part)) part parts each)
      (same_second (roots_in_part part) (joined (map roots_in_part parts)) a b same))

  path_at : (root : ℕ) (parts : List Part) (ty : Ty) → EachIndex P parts → Same (root ∷ joined (map roots_in_part parts)) a b
      → SameSpot a b (record { root = root; ty = ty; positions = positions_of (map (part_of_path scope) parts) })
  path_at root parts ty each same = record {
    positions =
        parts_same parts each (same_others root (joined (map roots_in_part parts)) a b same);
    variable = same.0.0;
  }

  path_same : (place : Place) (root : ℕ) (parts : List Part) (ty : Ty) → EachIndex P parts →
      Q (roll-Path (record { place = place; root = root; parts = parts; ty = ty }))
  path_same place root parts ty each same = rw fold-roll-Path (path_at root parts ty each (rw fold-roll-Path at same))

  cases : Cases P Q
  cases = record {
    literal = literal_same;
    read = read_same;
    prev = prev_same;
    one = one_same;
    two = two_same;
    cast = cast_same;
    call = call_same;
    path = path_same;
  }

  pub expr_same : (e : Expr) → Same (roots_in e) a b → meaning_of scope e a ≡ meaning_of scope e b
  expr_same = induct P Q cases

  pub spot_same : (path : Path) → Same (roots_in_path path) a b → SameSpot a b (path_meaning_of scope path)
  spot_same = induct_path P Q cases
