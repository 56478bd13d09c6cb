-- Parts of values of types: they are of their types, and different ones stand at ways that part.
use Rattle.std.proofs.Common.{◌≡◌, ℕ, zero, suc, ◌+◌, ◌<◌, ◌≤◌, Bool, true, false, not, ◌||◌, List, [], ◌∷◌, Some, refl, sym}
use Rattle.std.proofs.Common.{ap, ◌∙◌, subst}
use Rattle.std.proofs.lemmas.Bool.{eq-eqb, eqb-true, ltb-false, ltb-true}
use Rattle.std.proofs.lemmas.Option.{none-some, same_Some, slice_get-map}
use Rattle.std.specs.Prelude.{bytes_eq, nat_eq, nat_lt, option_and_then, option_map, slice_get, ◌==◌}
use Rattle.std.specs.List.{list_any}
use Rattle.std.proofs.lemmas.Bool.{not-true}
use Rattle.bl_tree.proofs.Basics.{and_first, and_second, bytes_differ_swap, neither_first, neither_second}
use Rattle.bl_tree.specs.declared.tree.Field.{Field}
use Rattle.bl_tree.specs.declared.tree.StructDef.{StructDef}
use Rattle.bl_tree.specs.declared.tree.Ty.{Ty, out-Ty}
use Rattle.bl_tree.specs.declared.tree.Ty.TheOpen.{Ty-F}
use Rattle.bl_tree.specs.declared.value.Value.{Value}
use Rattle.bl_tree.specs.Program.{field_names, struct_stands, structs_stand_from}
use Rattle.bl_tree.specs.Words.{are_distinct}
use Rattle.bl_eval.specs.Values.{part_of}
use Rattle.bl_eval.proofs.OperatorFits.{some_found}
use Rattle.bl_eval.proofs.PartFits.{Fits}
use Rattle.bl_ctext_semantics.specs.Memory.{element, member}
use Rattle.bl_emit_acts.specs.Expressions.{field_of_struct, name_of_field}
use Rattle.bl_emit_acts.specs.Types.{elements_name, field_name}
use Rattle.bl_emit_acts_laws_simulation.specs.Encodes.{lead_level, part_level, ways_part}
use Rattle.bl_emit_acts_laws_simulation.proofs.Steps.{Has, field_there, has_field, row}
use Rattle.bl_emit_acts_laws_simulation.proofs.Written.{Forked, PartsFit, map_found, unequal_before}

module _ (structs : List StructDef) (stand : structs_stand_from 0 structs ≡ true) where
  -- ---- parts are of their types

  has_fits : (c : Ty) (k : ℕ) (value u : Value) → Has structs c k value → part_of k value ≡ Some u → Fits structs c u
  has_fits c k value u has there = subst (Fits structs c) (same_Some has.part u (sym has.is_there ∙ there)) has.fits

  in_array : (a c : Ty) (n k : ℕ) (value u : Value) → out-Ty a ≡ Ty-F.Array n c → Fits structs a value → part_of k value ≡ Some u →
      (below : Bool) →
      nat_lt k n ≡ below → Fits structs c u
  in_array a c n k value u is fit there true h =
      let less : k < n = ltb-true k n h in has_fits c k value u ((row structs stand a value fit n c is).below k less) there
  in_array a c n k value u is fit there false h =
      let more : n ≤ k = ltb-false k n h in absurd (none-some u (sym ((row structs stand a value fit n c is).past k more) ∙ there))

  fits_by : (a c : Ty) (k : ℕ) (value u : Value) (layer : Ty-F Ty) → out-Ty a ≡ layer → Fits structs a value → part_level structs k layer
      ≡ Some c →
      part_of k value ≡ Some u → Fits structs c u
  fits_by a c k value u (Ty-F.Scalar s) is fit typed there = absurd (cc)
  fits_by a c k value u (Ty-F.Struct s) is fit typed there =
      let def = some_found (λ (def : StructDef). option_map (λ (field : Field). field.ty) (slice_get def.fields k)) (slice_get structs s) c typed in
      let field = map_found (λ (field : Field). field.ty) (slice_get def.0.fields k) c def.2 in
      subst (λ c. Fits structs c u) field.2
      (has_fits field.0.ty k value u (has_field structs stand a value fit s def.0 k field.0 is def.1 field.1) there)
  fits_by a c k value u (Ty-F.Array n inner) is fit typed there =
      in_array a c n k value u (is ∙ ap (Ty-F.Array n) (same_Some inner c typed)) fit there (nat_lt k n) refl

  pub parts_fit : PartsFit structs
  parts_fit a c k value u fit typed there = fits_by a c k value u (out-Ty a) refl fit typed there

-- ---- names of fields differ

pub among_at : (text : List ℕ) (names : List (List ℕ)) (k : ℕ) (name : List ℕ) → list_any (bytes_eq text) names ≡ false → slice_get names k
    ≡ Some name →
    bytes_eq text name ≡ false
among_at text [] k name h there = absurd (cc)
among_at text (first ∷ names) zero name h there =
    ap (bytes_eq text) (sym (same_Some first name there)) ∙ neither_first (bytes_eq text first) (list_any (bytes_eq text) names) h
among_at text (first ∷ names) (suc k) name h there =
    among_at text names k name (neither_second (bytes_eq text first) (list_any (bytes_eq text) names) h) there

-- names at different positions differ
pub differ_at : (names : List (List ℕ)) (j k : ℕ) (a b : List ℕ) → are_distinct names ≡ true → slice_get names j ≡ Some a → slice_get names k
    ≡ Some b →
    nat_eq j k ≡ false → bytes_eq b a ≡ false
differ_at [] j k a b h i l other = absurd (cc)
differ_at (first ∷ names) zero zero a b h i l other = absurd (cc)
differ_at (first ∷ names) zero (suc k) a b h i l other =
    let front : list_any (bytes_eq first) names ≡ false = not-true (list_any (bytes_eq first) names) (and_first _ _ h) in
    bytes_differ_swap a b (ap (λ a. bytes_eq a b) (sym (same_Some first a i)) ∙ among_at first names k b front l)
differ_at (first ∷ names) (suc j) zero a b h i l other =
    let front : list_any (bytes_eq first) names ≡ false = not-true (list_any (bytes_eq first) names) (and_first _ _ h) in
    ap (λ b. bytes_eq b a) (sym (same_Some first b l)) ∙ among_at first names j a front i
differ_at (first ∷ names) (suc j) (suc k) a b h i l other = differ_at names j k a b (and_second _ _ h) i l (unequal_before j k other)

pub distinct_from : (structs : List StructDef) (before s : ℕ) (def : StructDef) → structs_stand_from before structs ≡ true → slice_get structs s
    ≡ Some def →
    are_distinct (field_names def) ≡ true
distinct_from [] before s def h there = absurd (cc)
distinct_from (first ∷ rest) before zero def h there =
    subst (λ def. are_distinct (field_names def) ≡ true) (same_Some first def there)
    (and_second _ _ (and_first _ _ (and_second _ _ (and_first (struct_stands before first) (structs_stand_from (before + 1) rest) h))))
distinct_from (first ∷ rest) before (suc s) def h there =
    distinct_from rest (before + 1) s def (and_second (struct_stands before first) (structs_stand_from (before + 1) rest) h) there

module _ (structs : List StructDef) (stand : structs_stand_from 0 structs ≡ true) where
  -- ---- ways to different parts

  elements_part : (j k : ℕ) → nat_eq j k ≡ false →
      ways_part (member elements_name ∷ element k ∷ []) (member elements_name ∷ element j ∷ []) ≡ true
  elements_part j k other = by (k == j) refl
    where
      by : (same : Bool) → (k == j) ≡ same → (not same || false) ≡ true
      by true h = absurd (no_other (sym (eq-eqb j k (sym (eqb-true k j h))) ∙ other))
        where
          no_other : true ≡ false → ⊥
          no_other h = cc
      by false h = refl

  fields_part : (s : ℕ) (def : StructDef) (a b : Field) (j k : ℕ) → slice_get structs s ≡ Some def → slice_get def.fields j ≡ Some a →
      slice_get def.fields k ≡ Some b → nat_eq j k ≡ false →
      ways_part (lead_level structs k (Ty-F.Struct s)) (lead_level structs j (Ty-F.Struct s)) ≡ true
  fields_part s def a b j k there first second other =
      let names : bytes_eq b.name a.name ≡ false =
      differ_at (field_names def) j k a.name b.name (distinct_from structs 0 s def stand there)
      (slice_get-map (λ (field : Field). field.name) def.fields j ∙ ap (option_map (λ (field : Field). field.name)) first)
      (slice_get-map (λ (field : Field). field.name) def.fields k ∙ ap (option_map (λ (field : Field). field.name)) second) other in
      let at : (k : ℕ) → field_of_struct structs k (Ty-F.Struct s) ≡ slice_get def.fields k =
      λ k. ap (option_and_then (λ (def : StructDef). slice_get def.fields k)) there in
      ap (λ o. ways_part (member (field_name (name_of_field o)) ∷ []) (lead_level structs j (Ty-F.Struct s))) (at k ∙ second)
      ∙ (ap (λ o. ways_part (member (field_name b.name) ∷ []) (member (field_name (name_of_field o)) ∷ [])) (at j ∙ first)
      ∙ ap (λ same. not same || false) names)

  fork_by : (a c : Ty) (value u : Value) (j k : ℕ) (layer : Ty-F Ty) → out-Ty a ≡ layer → Fits structs a value → part_of j value ≡ Some u →
      part_level structs k layer ≡ Some c → nat_eq j k ≡ false → ways_part (lead_level structs k layer) (lead_level structs j layer) ≡ true
  fork_by a c value u j k (Ty-F.Scalar s) is fit there typed other = absurd (cc)
  fork_by a c value u j k (Ty-F.Array n inner) is fit there typed other = elements_part j k other
  fork_by a c value u j k (Ty-F.Struct s) is fit there typed other =
      let def = some_found (λ (def : StructDef). option_map (λ (field : Field). field.ty) (slice_get def.fields k)) (slice_get structs s) c typed in
      let field = map_found (λ (field : Field). field.ty) (slice_get def.0.fields k) c def.2 in
      let own = field_there structs stand a value fit s def.0 is def.1 j u there in
      fields_part s def.0 own.0 field.0 j k def.1 own.1 field.1 other

  pub forked : Forked structs
  forked a c value u j k fit there typed other =
      fork_by a c value u j k (out-Ty a) refl fit there typed other
