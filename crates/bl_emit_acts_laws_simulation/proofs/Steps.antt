-- One step of a place beside one part of a path: to a field, or to an element.
use Rattle.std.proofs.Common.{◌≡◌, ℕ, zero, suc, ◌<◌, ◌≤◌, ◌^◌, ℤ, pos, negsuc, Bool, true, false, ◌&&◌, List, [], ◌∷◌}
use Rattle.std.proofs.Common.{length, map, take, arith, Option, Some, None, refl, sym, ap, ◌∙◌, subst}
use Rattle.std.proofs.lemmas.Bool.{eqb-true}
use Rattle.std.proofs.lemmas.Int.{ints}
use Rattle.std.proofs.lemmas.Option.{same_Some, slice_get-get_or, slice_get_past, slice_get_within}
use Rattle.std.specs.Prelude.{get_or, int_le, int_lt, nat_eq, nat_lt, option_and_then, option_map, slice_get, if◌then◌else◌}
use Rattle.std.specs.List.{list_all}
use Rattle.bl_tree.proofs.Basics.{and_first, and_second}
use Rattle.bl_tree.specs.declared.scalar.Scalar.{Scalar as ScalarType}
use Rattle.bl_tree.specs.declared.scalar.Scalar.TheVariants.{Bool as OfBool, Int, Nat, Bits}
use Rattle.bl_tree.specs.declared.scalar.Width.TheVariants.{W8, W16, W32, W64}
use Rattle.bl_tree.specs.declared.tree.Field.{Field}
use Rattle.bl_tree.specs.declared.tree.StructDef.{StructDef}
use Rattle.bl_tree.specs.declared.tree.Ty.{Ty, out-Ty}
use Rattle.bl_tree.specs.declared.tree.Ty.TheOpen.{Ty-F}
use Rattle.bl_tree.specs.declared.value.Value.{Value, out-Value}
use Rattle.bl_tree.specs.declared.value.Value.TheOpen.{Value-F}
use Rattle.bl_tree.specs.Program.{structs_stand_from}
use Rattle.bl_tree.specs.Scalar.{in_range}
use Rattle.bl_tree.specs.Types.{type_stands}
use Rattle.bl_tree.specs.Typing.{field_in}
use Rattle.bl_eval.specs.Values.{are_elements, are_fields, by_test, fits_by, parts_at, part_of, pass, position_of, tests_after, value_fits}
use Rattle.bl_eval.proofs.FitLemmas.{Test, fits_array, fits_before, fits_struct, structs_at, test_is}
use Rattle.bl_eval.proofs.PartFits.{Fits}
use Rattle.bl_eval.proofs.PassLemmas.{all_at, pass_at}
use Rattle.bl_ctext_semantics.specs.Builtin.{index_within, only_if}
use Rattle.bl_ctext_semantics.specs.Meaning.{element_projection}
use Rattle.bl_ctext_semantics.specs.Memory.{Projection, element, member}
use Rattle.bl_emit_acts.specs.Expressions.{field_at, field_of_struct, name_of_field}
use Rattle.bl_emit_acts.specs.Types.{elements_name, field_name}
use Rattle.bl_emit_acts_laws_simulation.specs.Encodes.{lead_level, lead_to, part_level, part_type}

-- ---- parts that are there

-- a part of a value, of its type
pub record Has (structs : List StructDef) (c : Ty) (k : ℕ) (value : Value) : Type 0 where
  pub part : Value
  pub is_there : part_of k value ≡ Some part
  pub fits : Fits structs c part

module _ (structs : List StructDef) (stand : structs_stand_from 0 structs ≡ true) (a : Ty) (value : Value) (fit : Fits structs a value) where
  module _ (s : ℕ) (def : StructDef) (k : ℕ) (field : Field) (is : out-Ty a ≡ Ty-F.Struct s) (there : slice_get structs s ≡ Some def)
      (has : slice_get def.fields k ≡ Some field) where
    abbrev tests : List Test
    tests = tests_after [] (take s structs)

    within : s < length structs
    within = slice_get_within structs s def there

    stands : type_stands s field.ty ≡ true
    stands = all_at (λ (field : Field). type_stands s field.ty) def.fields k field (structs_at structs 0 s s def stand there (omega arith)) has

    same : fits_by tests field.ty ≡ value_fits structs field.ty
    same = let most : s ≤ length structs = omega (arith, within) in fits_before structs s field.ty most stands

    level : are_fields (map (λ (field : Field). fits_by tests field.ty) def.fields) (out-Value value) ≡ true
    level = sym (fits_struct (tests_after [] structs) a s value is ∙ ap (λ test. by_test test value) (test_is structs s def there)) ∙ fit

    field_by : (layer : Value-F Value) → out-Value value ≡ layer → are_fields (map (λ (field : Field). fits_by tests field.ty) def.fields) layer
        ≡ true →
        Has structs field.ty k value
    field_by (Value-F.Number n) out h = absurd (cc)
    field_by (Value-F.Parts all) out h =
        let found = pass_at (λ (field : Field). fits_by tests field.ty) def.fields all k field h has in
        record {
          part = found.0;
          is_there = ap (λ (layer : Value-F Value). option_and_then (λ all. slice_get all k) (parts_at layer)) out ∙ found.1;
          fits = ap (λ (f : Test). f found.0) (sym same) ∙ found.2;
        }

    pub has_field : Has structs field.ty k value
    has_field = field_by (out-Value value) refl level

  -- a struct has a field at each position at which a value of it has a part
  module _ (s : ℕ) (def : StructDef) (is : out-Ty a ≡ Ty-F.Struct s) (there : slice_get structs s ≡ Some def) where
    abbrev passes : Value-F Value → Bool
    passes layer = are_fields (map (λ (field : Field). fits_by (tests_after [] (take s structs)) field.ty) def.fields) layer

    field_at_part : (fields : List Field) (all : List Value) (j : ℕ) (u : Value) →
        pass (map (λ (field : Field). fits_by (tests_after [] (take s structs)) field.ty) fields) all ≡ true → slice_get all j ≡ Some u →
        (field : Field) × (slice_get fields j ≡ Some field)
    field_at_part [] [] j u h at = absurd (cc)
    field_at_part [] (v ∷ all) j u h at = absurd (cc)
    field_at_part (field ∷ fields) [] j u h at = absurd (cc)
    field_at_part (field ∷ fields) (v ∷ all) zero u h at = (field, refl)
    field_at_part (field ∷ fields) (v ∷ all) (suc j) u h at = field_at_part fields all j u (and_second _ _ h) at

    there_by : (layer : Value-F Value) → out-Value value ≡ layer → passes layer ≡ true → (j : ℕ) (u : Value) → part_of j value ≡ Some u →
        (field : Field) × (slice_get def.fields j ≡ Some field)
    there_by (Value-F.Number n) out h j u at = absurd (cc)
    there_by (Value-F.Parts all) out h j u at =
        field_at_part def.fields all j u h
        (sym (ap (λ (layer : Value-F Value). option_and_then (λ all. slice_get all j) (parts_at layer)) out) ∙ at)

    pub field_there : (j : ℕ) (u : Value) → part_of j value ≡ Some u → (field : Field) × (slice_get def.fields j ≡ Some field)
    field_there =
        there_by (out-Value value) refl
        (sym (fits_struct (tests_after [] structs) a s value is ∙ ap (λ test. by_test test value) (test_is structs s def there)) ∙ fit)

  module _ (n : ℕ) (c : Ty) (is : out-Ty a ≡ Ty-F.Array n c) where
    elements : are_elements n (value_fits structs c) (out-Value value) ≡ true
    elements = sym (fits_array (tests_after [] structs) a n c value is) ∙ fit

    -- an array has a part at each position below its length, and none elsewhere
    pub record Row : Type 0 where
      pub below : (k : ℕ) → k < n → Has structs c k value
      pub past : (k : ℕ) → n ≤ k → part_of k value ≡ None

    row_by : (layer : Value-F Value) → out-Value value ≡ layer → are_elements n (value_fits structs c) layer ≡ true → Row
    row_by (Value-F.Number m) out h = absurd (cc)
    row_by (Value-F.Parts all) out h =
        let long : length all ≡ n = eqb-true (length all) n (and_first (nat_eq (length all) n) (list_all (value_fits structs c) all) h) in
        let at : (k : ℕ) → part_of k value ≡ slice_get all k =
        λ k. ap (λ (layer : Value-F Value). option_and_then (λ all. slice_get all k) (parts_at layer)) out in
        record {
          below = λ k less.
              let inside : k < length all = omega (arith, less, long) in
              let found : slice_get all k ≡ Some (get_or all k value) = slice_get-get_or all k value inside in
              record {
                part = get_or all k value;
                is_there = at k ∙ found;
                fits = all_at (value_fits structs c) all k (get_or all k value)
                    (and_second (nat_eq (length all) n) (list_all (value_fits structs c) all) h) found;
              };
          past = λ k more. let outside : length all ≤ k = omega (arith, more, long) in at k ∙ slice_get_past all k outside;
        }

    pub row : Row
    row = row_by (out-Value value) refl elements

-- ---- one step

-- a step, which has led to the part at the position for which a part of a path stands
pub record Stepped (structs : List StructDef) (a c : Ty) (value : Value) (way : List Projection) (position : Option ℕ) : Type 0 where
  pub k : ℕ
  pub is : position ≡ Some k
  pub at : way ≡ lead_to structs k a
  pub typed : part_type structs k a ≡ Some c
  pub has : Has structs c k value

-- it traps exactly where no part is there
abbrev pub OneStep : List StructDef → Ty → Ty → Value → Option (List Projection) → Option ℕ → Type 0
OneStep structs a c value None position = option_and_then (λ k. part_of k value) position ≡ None
OneStep structs a c value (Some way) position = Stepped structs a c value way position

-- ---- fields

module _ (structs : List StructDef) (stand : structs_stand_from 0 structs ≡ true) (a c : Ty) (k : ℕ) where
  abbrev field_way : Option (List Projection)
  field_way = Some (member (field_name (name_of_field (field_at structs k (Some a)))) ∷ [])

  -- the step to a field, and the type behind it
  abbrev FieldSteps : Type 0
  FieldSteps = ((value : Value) → Fits structs a value → OneStep structs a c value field_way (Some k))
      × (option_map (λ (field : Field). field.ty) (field_at structs k (Some a)) ≡ Some c)

  field_found : (s : ℕ) (def : StructDef) (field : Field) → out-Ty a ≡ Ty-F.Struct s → slice_get structs s ≡ Some def → slice_get def.fields k
      ≡ Some field →
      field.ty ≡ c → field_in structs k (out-Ty a) ≡ Some c → FieldSteps
  field_found s def field is there has same typed =
      let found : field_at structs k (Some a) ≡ Some field =
      ap (field_of_struct structs k) is ∙ ap (option_and_then (λ (def : StructDef). slice_get def.fields k)) there ∙ has in (
        λ value fit. record {
          k = k;
          is = refl;
          at = ap (λ layer. member (field_name (name_of_field (field_of_struct structs k layer))) ∷ []) is ∙ ap (lead_level structs k) (sym is);
          typed = ap (part_level structs k) is ∙ ap (field_in structs k) (sym is) ∙ typed;
          has = subst (λ c. Has structs c k value) same (has_field structs stand a value fit s def k field is there has);
        },
        ap (option_map (λ (field : Field). field.ty)) found ∙ ap Some same,
      )

  by_field : (s : ℕ) (def : StructDef) (o : Option Field) → out-Ty a ≡ Ty-F.Struct s → slice_get structs s ≡ Some def → slice_get def.fields k
      ≡ o →
      option_map (λ (field : Field). field.ty) o ≡ Some c → field_in structs k (out-Ty a) ≡ Some c → FieldSteps
  by_field s def None is there has typed whole = absurd (cc)
  by_field s def (Some field) is there has typed whole = field_found s def field is there has (same_Some field.ty c typed) whole

  by_def : (s : ℕ) (o : Option StructDef) → out-Ty a ≡ Ty-F.Struct s → slice_get structs s ≡ o →
      option_and_then (λ (def : StructDef). option_map (λ (field : Field). field.ty) (slice_get def.fields k)) o ≡ Some c →
      field_in structs k (out-Ty a) ≡ Some c → FieldSteps
  by_def s None is there typed whole = absurd (cc)
  by_def s (Some def) is there typed whole = by_field s def (slice_get def.fields k) is there refl typed whole

  by_layer : (layer : Ty-F Ty) → out-Ty a ≡ layer → field_in structs k layer ≡ Some c → field_in structs k (out-Ty a) ≡ Some c → FieldSteps
  by_layer (Ty-F.Scalar s) is typed whole = absurd (cc)
  by_layer (Ty-F.Struct s) is typed whole = by_def s (slice_get structs s) is refl typed whole
  by_layer (Ty-F.Array n inner) is typed whole = absurd (cc)

  pub field_steps : field_in structs k (out-Ty a) ≡ Some c → FieldSteps
  field_steps typed = by_layer (out-Ty a) refl typed typed

-- ---- elements

-- a number of a type is below 2 to the 64
pub below_most : (s : ScalarType) (k : ℕ) → in_range s (pos k) ≡ true → nat_lt k (2 ^ 64) ≡ true
below_most OfBool k h = grind (arith, ints)
below_most (Int W8) k h = grind (arith, ints)
below_most (Int W16) k h = grind (arith, ints)
below_most (Int W32) k h = grind (arith, ints)
below_most (Int W64) k h = grind (arith, ints)
below_most (Nat W8) k h = grind (arith, ints)
below_most (Nat W16) k h = grind (arith, ints)
below_most (Nat W32) k h = grind (arith, ints)
below_most (Nat W64) k h = grind (arith, ints)
below_most (Bits W8) k h = grind (arith, ints)
below_most (Bits W16) k h = grind (arith, ints)
below_most (Bits W32) k h = grind (arith, ints)
below_most (Bits W64) k h = grind (arith, ints)

module _ (structs : List StructDef) (stand : structs_stand_from 0 structs ≡ true) (a c : Ty) (n : ℕ) (is : out-Ty a ≡ Ty-F.Array n c) (value : Value)
    (fit : Fits structs a value) where
  -- the way to an element, where the index passed its test
  abbrev element_way : Option (List Projection) → Option (List Projection)
  element_way = option_map (λ parts. member elements_name ∷ parts)

  inside : (s : ScalarType) (k : ℕ) → in_range s (pos k) ≡ true → k < n →
      Stepped structs a c value (member elements_name ∷ element k ∷ []) (position_of (pos k))
  inside s k within less = record {
    k = k;
    is = ap (λ b. if b then Some k else None) (below_most s k within);
    at = ap (lead_level structs k) (sym is);
    typed = ap (part_level structs k) is;
    has = (row structs stand a value fit n c is).below k less;
  }

  outside : (k : ℕ) (b : Bool) → n ≤ k → option_and_then (λ k. part_of k value) (if b then Some k else None) ≡ None
  outside k true more = (row structs stand a value fit n c is).past k more
  outside k false more = refl

  tested : (s : ScalarType) (i : ℤ) (b : Bool) → (int_le (pos 0) i && int_lt i (pos n)) ≡ b → in_range s i ≡ true →
      OneStep structs a c value (element_way (element_projection (only_if b i))) (position_of i)
  tested s (pos k) true h within = let less : k < n = grind (arith, ints) in inside s k within less
  tested s (pos k) false h within = let more : n ≤ k = grind (arith, ints) in outside k (nat_lt k (2 ^ 64)) more
  tested s (negsuc k) true h within = absurd (cc)
  tested s (negsuc k) false h within = refl

  -- the step to the element of a number
  pub element_steps : (s : ScalarType) (i : ℤ) → in_range s i ≡ true →
      OneStep structs a c value (element_way (element_projection (index_within i (pos n)))) (position_of i)
  element_steps s i within = tested s i (int_le (pos 0) i && int_lt i (pos n)) refl within
