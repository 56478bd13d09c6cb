-- What an act leaves hangs on the variables that it names: where two views have the same values of them, it leaves the same
-- wherever they were the same before.
use Rattle.std.proofs.Common.{◌≡◌, ℕ, List, [], ◌∷◌, ◌++◌, map, Option, Some, None, refl, ap, ◌∙◌}
use Rattle.std.specs.Prelude.{option_and_then, option_map, slice_get, slice_set, unwrap_or}
use Rattle.bl_tree.specs.declared.tree.Expr.{Expr}
use Rattle.bl_tree.specs.declared.tree.Path.{Path}
use Rattle.bl_tree.specs.declared.tree.StmtKind.TheOpen.{StmtKind-F}
use Rattle.bl_tree.specs.declared.value.Value.{Value}
use Rattle.bl_tree.specs.Apart.{argument_roots, optional_roots, roots_in, roots_in_path}
use Rattle.bl_tree.specs.Reduce.{joined}
use Rattle.bl_eval.specs.declared.datum.Datum.{Datum}
use Rattle.bl_eval.specs.declared.datum.Left.{Left}
use Rattle.bl_eval.specs.Functions.{acted, assigned, call_of, declared, initial_value, outcome_of_call, put_all, put_back}
use Rattle.bl_eval.specs.Meaning.{Callee, Meaning, PathMeaning, Scope, View, meaning_of, path_meaning_of, plain, reading, value_in, values_of}
use Rattle.bl_eval.specs.Values.{put_at, with_value_at}
use Rattle.bl_ctree_store.specs.Agree.{Same, roots_of_act}
use Rattle.bl_ctree_store.proofs.AgreeLemmas.{set_both}
use Rattle.bl_ctree_store.proofs.NamedLemmas.{SameSpot, expr_same, reading_same, same_first, same_others, same_second, spot_same}

-- wherever the views have the same value, so have the lists
abbrev pub Follows : View → View → List Value → List Value → Type 0
Follows a b xs ys = (k : ℕ) → slice_get a.now k ≡ slice_get b.now k → slice_get xs k ≡ slice_get ys k

-- ---- one value is put

module _ (root : ℕ) (xs ys : List Value) (at : slice_get xs root ≡ slice_get ys root) (k : ℕ) (same : slice_get xs k ≡ slice_get ys k) where
  back_made : (made : Option Value) → slice_get (unwrap_or (option_map (λ value. slice_set xs root value) made) xs) k
      ≡ slice_get (unwrap_or (option_map (λ value. slice_set ys root value) made) ys) k
  back_made None = same
  back_made (Some value) = set_both xs ys root k value at same

  back_found : (ks : List ℕ) (new : Value) (found : Option Value)
      → slice_get (unwrap_or (option_and_then (λ old. option_map (λ value. slice_set xs root value) (with_value_at ks new old)) found) xs) k
      ≡ slice_get (unwrap_or (option_and_then (λ old. option_map (λ value. slice_set ys root value) (with_value_at ks new old)) found) ys) k
  back_found ks new None = same
  back_found ks new (Some old) = back_made (with_value_at ks new old)

  back_by : (new : Value) (positions : Option (List ℕ))
      → slice_get (unwrap_or (option_and_then (λ ks. put_at root ks new xs) positions) xs) k
      ≡ slice_get (unwrap_or (option_and_then (λ ks. put_at root ks new ys) positions) ys) k
  back_by new None = same
  back_by new (Some ks) =
      back_found ks new (slice_get xs root)
      ∙ ap (λ found. slice_get (unwrap_or (option_and_then
      (λ old. option_map (λ value. slice_set ys root value) (with_value_at ks new old)) found) ys) k) at

module _ (a b : View) where
  abbrev EachSpot : List PathMeaning → Type 0
  EachSpot [] = Unit {0}
  EachSpot (spot ∷ rest) = SameSpot a b spot × EachSpot rest

  abbrev EachMeaning : List Meaning → Type 0
  EachMeaning [] = Unit {0}
  EachMeaning (means ∷ rest) = (means a ≡ means b) × EachMeaning rest

  back_same : (spot : PathMeaning) (new : Value) (xs ys : List Value) → SameSpot a b spot → Follows a b xs ys →
      Follows a b (put_back spot new a xs) (put_back spot new b ys)
  back_same spot new xs ys is follows k same =
      ap (λ positions. slice_get (unwrap_or (option_and_then (λ ks. put_at spot.root ks new xs) positions) xs) k) is.positions
      ∙ back_by spot.root xs ys (follows spot.root is.variable) k (follows k same) new (spot.positions b)

  all_same : (spots : List PathMeaning) (values xs ys : List Value) → EachSpot spots → Follows a b xs ys →
      Follows a b (put_all spots values a xs) (put_all spots values b ys)
  all_same [] values xs ys each follows = follows
  all_same (spot ∷ spots) [] xs ys each follows = follows
  all_same (spot ∷ spots) (value ∷ values) xs ys each follows =
      all_same spots values (put_back spot value a xs) (put_back spot value b ys) each.1 (back_same spot value xs ys each.0 follows)

  -- ---- arguments

  each_append : (first rest : List Meaning) → EachMeaning first → EachMeaning rest → EachMeaning (first ++ rest)
  each_append [] rest one other = other
  each_append (means ∷ first) rest one other = (one.0, each_append first rest one.1 other)

  each_reading : (spots : List PathMeaning) → EachSpot spots → EachMeaning (map reading spots)
  each_reading [] each = tt
  each_reading (spot ∷ spots) each = (reading_same a b spot each.0, each_reading spots each.1)

  values_each : (all : List Meaning) → EachMeaning all → values_of all a ≡ values_of all b
  values_each [] each = refl
  values_each (means ∷ rest) each =
      ap (λ (first : Option Datum). option_and_then (λ datum. option_map (λ values. plain datum ∷ values) (values_of rest a)) first) each.0
      ∙ ap (λ (values : Option (List Value)). option_and_then (λ datum. option_map (λ values. plain datum ∷ values) values)
      (means b)) (values_each rest each.1)

module _ (scope : Scope) (a b : View) where
  each_input : (inputs : List Expr) → Same (joined (map roots_in inputs)) a b → EachMeaning a b (map (meaning_of scope) inputs)
  each_input [] same = tt
  each_input (e ∷ inputs) same = (
    expr_same scope a b e (same_first (roots_in e) (joined (map roots_in inputs)) a b same),
    each_input inputs (same_second (roots_in e) (joined (map roots_in inputs)) a b same),
  )

  each_output : (outputs : List Path) → Same (joined (map roots_in_path outputs)) a b → EachSpot a b (map (path_meaning_of scope) outputs)
  each_output [] same = tt
  each_output (path ∷ outputs) same = (
    spot_same scope a b path (same_first (roots_in_path path) (joined (map roots_in_path outputs)) a b same),
    each_output outputs (same_second (roots_in_path path) (joined (map roots_in_path outputs)) a b same),
  )

  initial_same : (k : ℕ) (initial : Option Expr) → Same (optional_roots initial) a b → initial_value scope k initial a ≡ initial_value scope k initial b
  initial_same k None same = refl
  initial_same k (Some e) same = ap (option_map plain) (expr_same scope a b e same)

-- ---- acts, as far as something asks of what they leave that hangs on such variables alone

module _ (scope : Scope) (a b : View) (X : Type 0) (asked : List Value → X)
    (hangs : (xs ys : List Value) → Follows a b xs ys → asked xs ≡ asked ys) where
  put_made : (root : ℕ) (made : Option Value) → slice_get a.now root ≡ slice_get b.now root
      → option_map asked (option_map (λ value. slice_set a.now root value) made)
      ≡ option_map asked (option_map (λ value. slice_set b.now root value) made)
  put_made root None at = refl
  put_made root (Some value) at = ap Some (hangs (slice_set a.now root value) (slice_set b.now root value)
      (λ k same. set_both a.now b.now root k value at same))

  put_found : (root : ℕ) (ks : List ℕ) (new : Value) (found : Option Value) → slice_get a.now root ≡ slice_get b.now root
      → option_map asked (option_and_then (λ old. option_map (λ value. slice_set a.now root value) (with_value_at ks new old)) found)
      ≡ option_map asked (option_and_then (λ old. option_map (λ value. slice_set b.now root value) (with_value_at ks new old)) found)
  put_found root ks new None at = refl
  put_found root ks new (Some old) at = put_made root (with_value_at ks new old) at

  put_same : (root : ℕ) (ks : List ℕ) (new : Value) → slice_get a.now root ≡ slice_get b.now root →
      option_map asked (put_at root ks new a.now) ≡ option_map asked (put_at root ks new b.now)
  put_same root ks new at =
      put_found root ks new (slice_get a.now root) at
      ∙ ap (λ found. option_map asked (option_and_then (λ old. option_map (λ value. slice_set b.now root value) (with_value_at ks new old)) found)) at

  -- ---- declarations

  declared_by : (k : ℕ) (value : Option Value) → slice_get a.now k ≡ slice_get b.now k
      → option_map asked (option_and_then (λ value. put_at k [] value a.now) value)
      ≡ option_map asked (option_and_then (λ value. put_at k [] value b.now) value)
  declared_by k None at = refl
  declared_by k (Some value) at = put_same k [] value at

  declared_same : (k : ℕ) (initial : Option Expr) → Same (k ∷ optional_roots initial) a b →
      option_map asked (declared scope k initial a) ≡ option_map asked (declared scope k initial b)
  declared_same k initial same =
      ap (λ value. option_map asked (option_and_then (λ value. put_at k [] value a.now) value))
      (initial_same scope a b k initial (same_others k (optional_roots initial) a b same))
      ∙ declared_by k (initial_value scope k initial b) same.0.0

  -- ---- assignments

  assigned_at : (root : ℕ) (new : Value) (positions : Option (List ℕ)) → slice_get a.now root ≡ slice_get b.now root
      → option_map asked (option_and_then (λ ks. put_at root ks new a.now) positions)
      ≡ option_map asked (option_and_then (λ ks. put_at root ks new b.now) positions)
  assigned_at root new None at = refl
  assigned_at root new (Some ks) at = put_same root ks new at

  assigned_by : (spot : PathMeaning) (value : Option Value) → SameSpot a b spot →
      option_map asked (assigned spot value a) ≡ option_map asked (assigned spot value b)
  assigned_by spot None is = refl
  assigned_by spot (Some value) is =
      ap (λ positions. option_map asked (option_and_then (λ ks. put_at spot.root ks value a.now) positions)) is.positions
      ∙ assigned_at spot.root value (spot.positions b) is.variable

  assigned_same : (path : Path) (e : Expr) → Same (roots_in_path path ++ roots_in e) a b
      → option_map asked (assigned (path_meaning_of scope path) (value_in scope e a) a)
      ≡ option_map asked (assigned (path_meaning_of scope path) (value_in scope e b) b)
  assigned_same path e same =
      ap (λ (datum : Option Datum). option_map asked (assigned (path_meaning_of scope path) (option_map plain datum) a))
      (expr_same scope a b e (same_second (roots_in_path path) (roots_in e) a b same))
      ∙ assigned_by (path_meaning_of scope path) (value_in scope e b) (spot_same scope a b path (same_first (roots_in_path path) (roots_in e) a b same))

  -- ---- calls

  left_by : (spots : List PathMeaning) (left : Option Left) → EachSpot a b spots
      → option_map asked (option_map (λ (left : Left). put_all spots left.outputs a a.now) left)
      ≡ option_map asked (option_map (λ (left : Left). put_all spots left.outputs b b.now) left)
  left_by spots None each = refl
  left_by spots (Some left) each =
      ap Some (hangs (put_all spots left.outputs a a.now) (put_all spots left.outputs b b.now)
      (all_same a b spots left.outputs a.now b.now each (λ k same. same)))

  called_by : (spots : List PathMeaning) (callee : Callee) (values : Option (List Value)) → EachSpot a b spots
      → option_map asked (option_and_then (λ values. option_map (λ (left : Left). put_all spots left.outputs a a.now) (callee values)) values)
      ≡ option_map asked (option_and_then (λ values. option_map (λ (left : Left). put_all spots left.outputs b b.now) (callee values)) values)
  called_by spots callee None each = refl
  called_by spots callee (Some values) each = left_by spots (callee values) each

  call_by : (inputs : List Meaning) (spots : List PathMeaning) (callee : Option Callee) → EachMeaning a b inputs → EachSpot a b spots
      → option_map asked (option_and_then (outcome_of_call inputs spots a) callee)
      ≡ option_map asked (option_and_then (outcome_of_call inputs spots b) callee)
  call_by inputs spots None given each = refl
  call_by inputs spots (Some callee) given each =
      ap (λ values. option_map asked (option_and_then (λ values. option_map (λ (left : Left). put_all spots left.outputs a a.now) (callee values)) values))
      (values_each a b (inputs ++ map reading spots) (each_append a b inputs (map reading spots) given (each_reading a b spots each)))
      ∙ called_by spots callee (values_of (inputs ++ map reading spots) b) each

  call_same : (f : ℕ) (inputs : List Expr) (outputs : List Path) → Same (argument_roots inputs outputs) a b
      → option_map asked (call_of scope f inputs outputs a) ≡ option_map asked (call_of scope f inputs outputs b)
  call_same f inputs outputs same =
      call_by (map (meaning_of scope) inputs) (map (path_meaning_of scope) outputs) (slice_get scope.callees f)
      (each_input scope a b inputs (same_first (joined (map roots_in inputs)) (joined (map roots_in_path outputs)) a b same))
      (each_output scope a b outputs (same_second (joined (map roots_in inputs)) (joined (map roots_in_path outputs)) a b same))

  pub acted_same : {A B C D : Type 0} (kind : StmtKind-F A B C D) → Same (roots_of_act kind) a b →
      option_map asked (acted scope kind a) ≡ option_map asked (acted scope kind b)
  acted_same (StmtKind-F.Declare k initial) same = declared_same k initial same
  acted_same (StmtKind-F.Assign path e) same = assigned_same path e same
  acted_same (StmtKind-F.Call f inputs outputs) same = call_same f inputs outputs same
  acted_same _ same = refl
