-- How deep types are nested, level by level, and which types stand.
use Rattle.std.proofs.Common.{◌≡◌, ℕ, zero, suc, ◌+◌, ◌<◌, ◌≤◌, Bool, true, ◌&&◌, List, [], ◌∷◌, map, take, Some}
use Rattle.std.proofs.Common.{refl, sym, ap, ◌∙◌, subst, arith}
use Rattle.std.proofs.lemmas.Bool.Decides.{nat_tests}
use Rattle.std.proofs.lemmas.List.{get_or-take}
use Rattle.std.proofs.lemmas.Option.{same_Some}
use Rattle.std.specs.Prelude.{Contains, nat_le, slice_get, slice_index}
use Rattle.std.proofs.lemmas.Bool.{and_from}
use Rattle.bl_tree.proofs.Basics.{and_first, and_second, less_from, less_test}
use Rattle.bl_tree.specs.declared.tree.Field.{Field}
use Rattle.bl_tree.specs.declared.tree.StructDef.{StructDef}
use Rattle.bl_tree.specs.declared.tree.Ty.{Ty, fold_out-Ty, ind-Ty, map-Ty, out-Ty, out-roll-Ty, roll-Ty}
use Rattle.bl_tree.specs.declared.tree.Ty.TheOpen.{Ty-F}
use Rattle.bl_tree.specs.Reduce.{greatest}
use Rattle.bl_tree.specs.Types.{type_stands, type_stands_level}
use Rattle.bl_limits_measures.specs.Types.{fields_nesting, level_nesting, nesting, nesting_by, struct_nestings}
use Rattle.bl_limits_measures.proofs.TableLemmas.{answer_at}

pub stands_at : (k : ℕ) (ty : Ty) (layer : Ty-F Ty) → out-Ty ty ≡ layer → type_stands k ty
    ≡ type_stands_level k (map-Ty Ty Bool (type_stands k) layer)
stands_at k ty layer is = fold_out-Ty Bool (type_stands_level k) ty ∙ ap (λ l. type_stands_level k (map-Ty Ty Bool (type_stands k) l)) is

pub nesting_at : (known : List ℕ) (ty : Ty) (layer : Ty-F Ty) → out-Ty ty ≡ layer →
    nesting_by known ty ≡ level_nesting known (map-Ty Ty ℕ (nesting_by known) layer)
nesting_at known ty layer is = fold_out-Ty ℕ (level_nesting known) ty ∙ ap (λ l. level_nesting known (map-Ty Ty ℕ (nesting_by known) l)) is

-- ---- a type that stands among the first structs

module _ (k n : ℕ) (le : k ≤ n) where
  abbrev StandsMore : Ty → Type 0
  StandsMore ty = type_stands k ty ≡ true → type_stands n ty ≡ true

  more_by : (layer : Ty-F ((ty : Ty) × StandsMore ty)) → StandsMore (roll-Ty (map-Ty ((ty : Ty) × StandsMore ty) Ty (λ e. e.0) layer))
  more_by (Ty-F.Scalar s) h = stands_at n (roll-Ty (Ty-F.Scalar s)) (Ty-F.Scalar s) (out-roll-Ty (Ty-F.Scalar s))
  more_by (Ty-F.Struct j) h =
      let less : j < k = less_from j k (sym (stands_at k (roll-Ty (Ty-F.Struct j)) (Ty-F.Struct j) (out-roll-Ty (Ty-F.Struct j))) ∙ h) in
      let lt : j < n = omega (arith, less, le) in
      stands_at n (roll-Ty (Ty-F.Struct j)) (Ty-F.Struct j) (out-roll-Ty (Ty-F.Struct j)) ∙ less_test j n lt
  more_by (Ty-F.Array m e) h =
      let long : Bool = nat_le 1 m && nat_le m 65536 in
      let level : (long && type_stands k e.0) ≡ true =
      sym (stands_at k (roll-Ty (Ty-F.Array m e.0)) (Ty-F.Array m e.0) (out-roll-Ty (Ty-F.Array m e.0))) ∙ h in
      stands_at n (roll-Ty (Ty-F.Array m e.0)) (Ty-F.Array m e.0) (out-roll-Ty (Ty-F.Array m e.0))
      ∙ and_from long (type_stands n e.0) (and_first long (type_stands k e.0) level) (e.1 (and_second long (type_stands k e.0) level))

  pub stands_more : (ty : Ty) → StandsMore ty
  stands_more = ind-Ty StandsMore (λ x y is. subst (λ layer. StandsMore (roll-Ty layer)) is (more_by y))

-- it is nested as deep where the nesting of the first structs alone is known
module _ (known : List ℕ) (k : ℕ) where
  abbrev SameBefore : Ty → Type 0
  SameBefore ty = type_stands k ty ≡ true → nesting_by (take k known) ty ≡ nesting_by known ty

  same_by : (layer : Ty-F ((ty : Ty) × SameBefore ty)) → SameBefore (roll-Ty (map-Ty ((ty : Ty) × SameBefore ty) Ty (λ e. e.0) layer))
  same_by (Ty-F.Scalar s) h =
      nesting_at (take k known) (roll-Ty (Ty-F.Scalar s)) (Ty-F.Scalar s) (out-roll-Ty (Ty-F.Scalar s))
      ∙ sym (nesting_at known (roll-Ty (Ty-F.Scalar s)) (Ty-F.Scalar s) (out-roll-Ty (Ty-F.Scalar s)))
  same_by (Ty-F.Struct j) h =
      let less : j < k = less_from j k (sym (stands_at k (roll-Ty (Ty-F.Struct j)) (Ty-F.Struct j) (out-roll-Ty (Ty-F.Struct j))) ∙ h) in
      nesting_at (take k known) (roll-Ty (Ty-F.Struct j)) (Ty-F.Struct j) (out-roll-Ty (Ty-F.Struct j))
      ∙ get_or-take k known j 0 less
      ∙ sym (nesting_at known (roll-Ty (Ty-F.Struct j)) (Ty-F.Struct j) (out-roll-Ty (Ty-F.Struct j)))
  same_by (Ty-F.Array m e) h =
      let long : Bool = nat_le 1 m && nat_le m 65536 in
      let level : (long && type_stands k e.0) ≡ true =
      sym (stands_at k (roll-Ty (Ty-F.Array m e.0)) (Ty-F.Array m e.0) (out-roll-Ty (Ty-F.Array m e.0))) ∙ h in
      nesting_at (take k known) (roll-Ty (Ty-F.Array m e.0)) (Ty-F.Array m e.0) (out-roll-Ty (Ty-F.Array m e.0))
      ∙ ap (λ n. 1 + n) (e.1 (and_second long (type_stands k e.0) level))
      ∙ sym (nesting_at known (roll-Ty (Ty-F.Array m e.0)) (Ty-F.Array m e.0) (out-roll-Ty (Ty-F.Array m e.0)))

  pub same_before : (ty : Ty) → SameBefore ty
  same_before = ind-Ty SameBefore (λ x y is. subst (λ layer. SameBefore (roll-Ty layer)) is (same_by y))

-- ---- nesting

-- none of a list is greater than the greatest
pub greatest_has : {X : Type 0} (f : X → ℕ) (xs : List X) (k : ℕ) (x : X) → slice_get xs k ≡ Some x → f x ≤ greatest (map f xs)
greatest_has f [] k x there = absurd (cc)
greatest_has f (y ∷ xs) zero x there = let same : f y ≡ f x = ap f (same_Some y x there) in omega (arith, same)
greatest_has f (y ∷ xs) (suc k) x there = let rest : f x ≤ greatest (map f xs) = greatest_has f xs k x there in omega (arith, rest)

-- and the greatest isn't above what none is above
pub greatest_most : {X : Type 0} (f : X → ℕ) (most : ℕ) (xs : List X) → ((x : X) → Contains xs x → f x ≤ most) → greatest (map f xs) ≤ most
greatest_most f most [] each = omega arith
greatest_most f most (x ∷ xs) each =
    let first : f x ≤ most = each x (0, omega arith, refl) in
    let rest : greatest (map f xs) ≤ most = greatest_most f most xs (λ y has. each y (suc has.0, (let lt = has.1 in omega arith), has.2)) in
    omega (arith, first, rest)

module _ (structs : List StructDef) where
  -- a struct is nested one deeper than the greatest nesting of a field
  pub struct_nesting : (k : ℕ) (def : StructDef) → slice_get structs k ≡ Some def →
      slice_index (struct_nestings structs) k ≡ 1 + greatest (map (λ (field : Field). nesting_by (take k (struct_nestings structs)) field.ty) def.fields)
  struct_nesting k def there = answer_at fields_nesting structs k def 0 there

  -- and so deeper than each field
  pub field_nesting : (k j : ℕ) (def : StructDef) (field : Field) → slice_get structs k ≡ Some def → slice_get def.fields j ≡ Some field →
      type_stands k field.ty ≡ true → nesting structs field.ty + 1 ≤ slice_index (struct_nestings structs) k
  field_nesting k j def field there has stands =
      let whole = struct_nesting k def there in
      let one : nesting_by (take k (struct_nestings structs)) field.ty
      ≤ greatest (map (λ (field : Field). nesting_by (take k (struct_nestings structs)) field.ty) def.fields) =
      greatest_has (λ (field : Field). nesting_by (take k (struct_nestings structs)) field.ty) def.fields j field has in
      let same : nesting_by (take k (struct_nestings structs)) field.ty
      ≡ nesting structs field.ty = same_before (struct_nestings structs) k field.ty stands in
      omega (arith, whole, one, same)

  pub struct_some : (k : ℕ) (def : StructDef) → slice_get structs k ≡ Some def → 1 ≤ slice_index (struct_nestings structs) k
  struct_some k def there = let whole = struct_nesting k def there in omega (arith, whole)
