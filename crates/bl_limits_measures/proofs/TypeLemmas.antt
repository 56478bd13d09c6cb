-- Sizes and nesting of types, as far as 64 bits tell them.
use Rattle.std.proofs.Common.{◌≡◌, ℕ, ◌+◌, ◌*◌, List, map, refl, ap, sym, subst, ◌∙◌}
use Rattle.std.specs.Prelude.{slice_index}
use Rattle.bl_tree.specs.declared.scalar.Scalar.{Scalar as ScalarType}
use Rattle.bl_tree.specs.declared.tree.Ty.{Ty, fold-roll-Ty, ind-Ty, roll-Ty}
use Rattle.bl_tree.specs.declared.tree.Ty.TheFolds.{map-Ty}
use Rattle.bl_tree.specs.declared.tree.Ty.TheOpen.{Ty-F}
use Rattle.bl_limits_measures.specs.Saturated.{saturated}
use Rattle.bl_limits_measures.specs.Types.{fields_nesting, fields_size, level_nesting, level_size, nesting_by, size_by}
use Rattle.bl_limits_measures.proofs.Numbers.{greatest_alike, known_twice, product_alike, sum_alike, total_alike}
use Rattle.bl_limits_measures.proofs.Orders.{Respects}

-- P of a type and of what it is made of
module _ (P : Ty → Type 0) (scalar : (s : ScalarType) → P (roll-Ty (Ty-F.Scalar s))) (struct : (k : ℕ) → P (roll-Ty (Ty-F.Struct k)))
    (array : (n : ℕ) (element : Ty) → P element → P (roll-Ty (Ty-F.Array n element))) where
  abbrev Shown : Type 0
  Shown = Ty-F ((ty : Ty) × P ty)

  by_level : (shown : Shown) → P (roll-Ty (map-Ty ((ty : Ty) × P ty) Ty (λ e. e.0) shown))
  by_level (Ty-F.Scalar s) = scalar s
  by_level (Ty-F.Struct k) = struct k
  by_level (Ty-F.Array n element) = array n element.0 element.1

  -- every type has P where the cases show it
  pub induct : (ty : Ty) → P ty
  induct = ind-Ty P (λ x y is. subst (λ level. P (roll-Ty level)) is (by_level y))

size_scalar : (known : List ℕ) (s : ScalarType) → size_by known (roll-Ty (Ty-F.Scalar s)) ≡ 1
size_scalar known s = fold-roll-Ty ℕ (level_size known) (Ty-F.Scalar s)

size_struct : (known : List ℕ) (k : ℕ) → size_by known (roll-Ty (Ty-F.Struct k)) ≡ slice_index known k
size_struct known k = fold-roll-Ty ℕ (level_size known) (Ty-F.Struct k)

size_array : (known : List ℕ) (n : ℕ) (element : Ty) → size_by known (roll-Ty (Ty-F.Array n element)) ≡ n * size_by known element
size_array known n element = fold-roll-Ty ℕ (level_size known) (Ty-F.Array n element)

pub size_alike : (known : List ℕ) (ty : Ty) → saturated (size_by (map saturated known) ty) ≡ saturated (size_by known ty)
size_alike known =
    induct (λ ty. saturated (size_by (map saturated known) ty) ≡ saturated (size_by known ty))
    (λ s. ap saturated (size_scalar (map saturated known) s ∙ sym (size_scalar known s)))
    (λ k. ap saturated (size_struct (map saturated known) k) ∙ known_twice known k ∙ ap saturated (sym (size_struct known k)))
    (λ n element inner.
    ap saturated (size_array (map saturated known) n element)
    ∙ product_alike n (size_by (map saturated known) element) (size_by known element) inner
    ∙ ap saturated (sym (size_array known n element)))

pub nesting_scalar : (known : List ℕ) (s : ScalarType) → nesting_by known (roll-Ty (Ty-F.Scalar s)) ≡ 0
nesting_scalar known s = fold-roll-Ty ℕ (level_nesting known) (Ty-F.Scalar s)

pub nesting_struct : (known : List ℕ) (k : ℕ) → nesting_by known (roll-Ty (Ty-F.Struct k)) ≡ slice_index known k
nesting_struct known k = fold-roll-Ty ℕ (level_nesting known) (Ty-F.Struct k)

pub nesting_array : (known : List ℕ) (n : ℕ) (element : Ty) → nesting_by known (roll-Ty (Ty-F.Array n element)) ≡ 1 + nesting_by known element
nesting_array known n element = fold-roll-Ty ℕ (level_nesting known) (Ty-F.Array n element)

pub nesting_alike : (known : List ℕ) (ty : Ty) → saturated (nesting_by (map saturated known) ty) ≡ saturated (nesting_by known ty)
nesting_alike known =
    induct (λ ty. saturated (nesting_by (map saturated known) ty) ≡ saturated (nesting_by known ty))
    (λ s. ap saturated (nesting_scalar (map saturated known) s ∙ sym (nesting_scalar known s)))
    (λ k. ap saturated (nesting_struct (map saturated known) k) ∙ known_twice known k ∙ ap saturated (sym (nesting_struct known k)))
    (λ n element inner.
    ap saturated (nesting_array (map saturated known) n element)
    ∙ sum_alike 1 1 (nesting_by (map saturated known) element) (nesting_by known element) refl inner
    ∙ ap saturated (sym (nesting_array known n element)))

pub fields_size_respects : Respects fields_size
fields_size_respects known def = total_alike (λ field. size_by (map saturated known) field.ty) (λ field. size_by known field.ty)
    (λ field. size_alike known field.ty) def.fields

pub fields_nesting_respects : Respects fields_nesting
fields_nesting_respects known def =
    sum_alike 1 1 _ _ refl (greatest_alike (λ field. nesting_by (map saturated known) field.ty) (λ field. nesting_by known field.ty)
    (λ field. nesting_alike known field.ty) def.fields)
