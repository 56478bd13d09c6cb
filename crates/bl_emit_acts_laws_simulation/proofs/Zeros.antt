-- The zero of a type is what memory of zeros holds.
use Rattle.std.proofs.Common.{◌≡◌, ℕ, zero, suc, ℤ, pos, List, [], ◌∷◌, ◌++◌, map, Option, Some, None, refl, sym, ap, ◌∙◌, subst}
use Rattle.std.proofs.lemmas.Option.{same_Some}
use Rattle.std.specs.Prelude.{get_or, option_and_then, replicate, slice_get}
use Rattle.bl_tree.specs.declared.tree.StructDef.{StructDef}
use Rattle.bl_tree.specs.declared.tree.Field.{Field}
use Rattle.bl_tree.specs.declared.tree.Ty.{Ty, fold-roll-Ty, ind-Ty, roll-Ty}
use Rattle.bl_tree.specs.declared.tree.Ty.TheOpen.{Ty-F}
use Rattle.bl_tree.specs.declared.tree.Ty.TheFolds.{map-Ty}
use Rattle.bl_tree.specs.declared.value.Value.{Value}
use Rattle.bl_tree.specs.declared.value.Value.TheVariants.{Number, Parts, outs-Number, outs-Parts}
use Rattle.bl_eval.specs.Values.{number_at as number_level, number_in, parts_at, struct_zero, value_at, zero_by, zero_of, zeros_after}
use Rattle.bl_ctext_semantics.specs.Memory.{CValue, Projection}
use Rattle.bl_emit_acts_laws_simulation.specs.Encodes.{Encodes, number_within, way_to}

-- each number in a value is 0
abbrev pub AllZero : Value → Type 0
AllZero value = (ks : List ℕ) (n : ℤ) → number_within ks value ≡ Some n → n ≡ pos 0

abbrev pub EachZero : List Value → Type 0
EachZero all = (k : ℕ) (value : Value) → slice_get all k ≡ Some value → AllZero value

number_zero : AllZero (Number (pos 0))
number_zero [] n is = sym (same_Some (pos 0) n (sym (ap number_level (outs-Number (pos 0))) ∙ is))
number_zero (k ∷ ks) n is = absurd (let none = sym (ap (λ layer. option_and_then number_in (option_and_then (value_at ks)
    (option_and_then (λ all. slice_get all k) (parts_at layer)))) (outs-Number (pos 0))) ∙ is in cc)

pub parts_zero : (all : List Value) → EachZero all → AllZero (Parts all)
parts_zero all each [] n is = absurd (let none = sym (ap number_level (outs-Parts all)) ∙ is in cc)
parts_zero all each (k ∷ ks) n is =
    by (slice_get all k) refl (sym (ap (λ layer. option_and_then number_in (option_and_then (value_at ks)
    (option_and_then (λ all. slice_get all k) (parts_at layer)))) (outs-Parts all)) ∙ is)
  where
    by : (o : Option Value) → slice_get all k ≡ o → option_and_then number_in (option_and_then (value_at ks) o) ≡ Some n → n ≡ pos 0
    by None there h = absurd (cc)
    by (Some value) there h = each k value there ks n h

pub replicate_zero : (m : ℕ) (value : Value) → AllZero value → EachZero (replicate m value)
replicate_zero zero value h k found there = absurd (cc)
replicate_zero (suc m) value h zero found there = subst AllZero (same_Some value found there) h
replicate_zero (suc m) value h (suc k) found there = replicate_zero m value h k found there

pub map_zero : {A : Type 0} (f : A → Value) → ((x : A) → AllZero (f x)) → (xs : List A) → EachZero (map f xs)
map_zero f h [] k found there = absurd (cc)
map_zero f h (x ∷ xs) zero found there = subst AllZero (same_Some (f x) found there) (h x)
map_zero f h (x ∷ xs) (suc k) found there = map_zero f h xs k found there

pub push_zero : (xs : List Value) (x : Value) → EachZero xs → AllZero x → EachZero (xs ++ x ∷ [])
push_zero [] x each h zero found there = subst AllZero (same_Some x found there) h
push_zero [] x each h (suc k) found there = absurd (cc)
push_zero (y ∷ xs) x each h zero found there = each zero found there
push_zero (y ∷ xs) x each h (suc k) found there = push_zero xs x (λ k value there. each (suc k) value there) h k found there

pub get_zero : (xs : List Value) (k : ℕ) (d : Value) → EachZero xs → AllZero d → AllZero (get_or xs k d)
get_zero [] k d each h = h
get_zero (x ∷ xs) zero d each h = each zero x refl
get_zero (x ∷ xs) (suc k) d each h = get_zero xs k d (λ k value there. each (suc k) value there) h

abbrev pub With : (Ty → Type 0) → Type 0
With P = Ty-F ((ty : Ty) × P ty)

abbrev pub bare : (P : Ty → Type 0) → With P → Ty-F Ty
bare P = map-Ty ((ty : Ty) × P ty) Ty (λ e. e.0)

module _ (zeros : List Value) (each : EachZero zeros) where
  abbrev Zero : Ty → Type 0
  Zero ty = AllZero (zero_by zeros ty)

  no_parts : AllZero (Parts [])
  no_parts = parts_zero [] (λ k value there. absurd (cc))

  level_zero : (layer : With Zero) → Zero (roll-Ty (bare Zero layer))
  level_zero (Ty-F.Scalar s) = rw fold-roll-Ty number_zero
  level_zero (Ty-F.Struct k) = rw fold-roll-Ty (get_zero zeros k (Parts []) each no_parts)
  level_zero (Ty-F.Array m element) =
      rw fold-roll-Ty (parts_zero (replicate m (zero_by zeros element.0)) (replicate_zero m (zero_by zeros element.0) element.1))

  by_zero : (ty : Ty) → Zero ty
  by_zero = ind-Ty Zero (λ x y is. subst (λ layer. Zero (roll-Ty layer)) is (level_zero y))

  struct_is_zero : (def : StructDef) → AllZero (struct_zero zeros def)
  struct_is_zero def =
      parts_zero (map (λ (field : Field). zero_by zeros field.ty) def.fields)
      (map_zero (λ (field : Field). zero_by zeros field.ty) (λ (field : Field). by_zero field.ty) def.fields)

pub all_zeros : (structs : List StructDef) (zeros : List Value) → EachZero zeros → EachZero (zeros_after zeros structs)
all_zeros [] zeros each = each
all_zeros (def ∷ rest) zeros each =
    all_zeros rest (zeros ++ struct_zero zeros def ∷ []) (push_zero zeros (struct_zero zeros def) each (struct_is_zero zeros each def))

-- what is 0 everywhere holds the zero of a type
pub zero_holds : (structs : List StructDef) (ty : Ty) (held : CValue) → ((way : List Projection) → held way ≡ pos 0)
    → Encodes structs ty (zero_of structs ty) held
zero_holds structs ty held all = record {
  each = λ ks n is.
      all (way_to structs ks (Some ty))
      ∙ sym (by_zero (zeros_after [] structs) (all_zeros structs [] (λ k value there. absurd (cc))) ty ks n is);
}
