-- Ways to the numbers in values of declared types lead to scalars.
use Rattle.std.proofs.Common.{◌≡◌, ℕ, ℤ, zero, suc, ◌+◌, ◌<◌, ◌≤◌, Bool, true, List, [], ◌∷◌, ◌++◌}
use Rattle.std.proofs.Common.{map, length, take}
use Rattle.std.proofs.Common.{Option, Some, None, refl, sym, ap, ◌∙◌, subst, arith}
use Rattle.std.proofs.lemmas.Bool.{eqb-true, lt-ltb}
use Rattle.std.proofs.lemmas.Option.{same_Some}
use Rattle.std.specs.List.{list_all}
use Rattle.std.specs.Prelude.{Contains, nat_eq, nat_lt, option_and_then, option_map, slice_get, if◌then◌else◌}
use Rattle.bl_tree.proofs.Basics.{and_first, and_second, contains_at, get_mapped, get_past, within_at}
use Rattle.bl_tree.specs.declared.c.CType.{CType}
use Rattle.bl_tree.specs.declared.c.CType.TheVariants.{Scalar as OfScalar, Struct as OfStruct}
use Rattle.bl_tree.specs.declared.scalar.Scalar.{Scalar as ScalarType}
use Rattle.bl_tree.specs.declared.text.Text.{Text}
use Rattle.bl_tree.specs.declared.tree.Field.{Field}
use Rattle.bl_tree.specs.declared.tree.StructDef.{StructDef}
use Rattle.bl_tree.specs.declared.tree.Ty.{Ty, fold_out-Ty, map-Ty, out-Ty}
use Rattle.bl_tree.specs.declared.tree.Ty.TheOpen.{Ty-F}
use Rattle.bl_tree.specs.declared.value.Value.{Value, out-Value}
use Rattle.bl_tree.specs.declared.value.Value.TheOpen.{Value-F}
use Rattle.bl_tree.specs.Program.{structs_stand_from}
use Rattle.bl_tree.specs.Types.{scalar_at, type_stands}
use Rattle.bl_eval.specs.Values.{are_elements, are_fields, by_test, fits_by, is_number_of, number_at as number_level, number_in, part_of, parts_at}
use Rattle.bl_eval.specs.Values.{tests_after, value_at, value_fits}
use Rattle.bl_eval.proofs.FitLemmas.{fits_array, fits_before, fits_scalar, fits_struct, scalar_is, structs_at, test_is}
use Rattle.bl_eval.proofs.PassLemmas.{all_at, pass_at}
use Rattle.bl_ctext_semantics.specs.Faults.{WellFormed, struct_table}
use Rattle.bl_ctext_semantics.specs.Memory.{Projection, element, member}
use Rattle.bl_ctext_semantics.specs.Parts.{Parts}
use Rattle.bl_ctext_semantics_laws.specs.Fitting.{ValueSpot, step_in, walk, whole}
use Rattle.bl_emit_acts.specs.Structs.{c_array, c_definition, c_elements, c_field}
use Rattle.bl_emit_acts.specs.Types.{c_scalar, c_type, elements_name, field_name, name_level, type_level, type_name}
use Rattle.bl_emit_acts_laws_simulation.specs.Encodes.{number_within, part_level, part_type, type_after, way_to}
use Rattle.bl_emit_spec_laws_files.specs.States.States.{TypeDeclared}
use Rattle.bl_emit_spec_laws_files.proofs.OnStates.Declared.{member_step}
use Rattle.bl_eval.proofs.MeaningLemmas.{past_get}

-- a value with parts has no number, and one without has no parts
no_parts : (value : Value) (s : ScalarType) → is_number_of s (out-Value value) ≡ true → (k : ℕ) → part_of k value ≡ None
no_parts value s is k = by (out-Value value) is
  where
    by : (level : Value-F Value) → is_number_of s level ≡ true → option_and_then (λ all. slice_get all k) (parts_at level) ≡ None
    by (Value-F.Number n) h = refl
    by (Value-F.Parts all) h = absurd (cc)

tests_length : (structs : List StructDef) (tests : List (Value → Bool)) → length (tests_after tests structs) ≡ length tests + length structs
tests_length [] tests = omega arith
tests_length (def ∷ rest) tests =
    let more = tests_length rest (tests ++ Rattle.bl_eval.specs.Values.struct_test tests def ∷ []) in
    let long = Rattle.std.proofs.Common.length-append tests (Rattle.bl_eval.specs.Values.struct_test tests def ∷ []) in
    omega (arith, more, long)

module _ (structs : List StructDef) (stand : structs_stand_from 0 structs ≡ true) (file : Parts) (formed : WellFormed file) where
  abbrev pub Walks : Option ValueSpot → List Projection → ValueSpot → Type 0
  Walks spot way goal = walk (struct_table file.structs) spot way ≡ Some goal

  name_at : (ty : Ty) (layer : Ty-F Ty) → out-Ty ty ≡ layer → type_name structs ty ≡ name_level structs (map-Ty Ty Text (type_name structs) layer)
  name_at ty layer is = fold_out-Ty Text (name_level structs) ty ∙ ap (λ l. name_level structs (map-Ty Ty Text (type_name structs) l)) is

  -- what lies at a way that leads to a number
  pub record LeadsToScalar (spot : Option ValueSpot) (way : List Projection) : Type 0 where
    pub kind : ScalarType
    pub walks : Walks spot way (whole (OfScalar kind))

  abbrev pub AllDeclared : Ty → Type 0
  AllDeclared ty = (ks : List ℕ) (inner : Ty) → type_after structs ks (Some ty) ≡ Some inner → TypeDeclared structs file.structs (out-Ty inner)

  abbrev pub Leading : List ℕ → Type 0
  Leading ks = (ty : Ty) (value : Value) (n : ℤ) → AllDeclared ty → value_fits structs ty value ≡ true → number_within ks value ≡ Some n →
      LeadsToScalar (Some (whole (c_type structs ty))) (way_to structs ks (Some ty))

  -- ---- structs

  abbrev tests : List (Value → Bool)
  tests = tests_after [] structs

  fields_of : (ty : Ty) (value : Value) (s : ℕ) (def : StructDef) → out-Ty ty ≡ Ty-F.Struct s → slice_get structs s ≡ Some def →
      value_fits structs ty value ≡ true →
      are_fields (map (λ (field : Field). fits_by (tests_after [] (take s structs)) field.ty) def.fields) (out-Value value) ≡ true
  fields_of ty value s def is there fit =
      sym (fits_struct tests ty s value is ∙ ap (λ test. by_test test value) (test_is structs s def there)) ∙ fit

  no_struct : (ty : Ty) (value : Value) (s : ℕ) → out-Ty ty ≡ Ty-F.Struct s → slice_get structs s ≡ None →
      value_fits structs ty value ≡ true → ⊥
  no_struct ty value s is there fit =
      let many = tests_length structs [] in
      let past = past_get structs s there in
      let none = get_past tests s (omega (arith, many, past)) in
      let bad = sym (fits_struct tests ty s value is ∙ ap (λ test. by_test test value) none) ∙ fit in
      cc

  -- ---- the number itself

  no_number : (list : List (Value → Bool)) (level : Value-F Value) (n : ℤ) → are_fields list level ≡ true → number_level level ≡ Some n → ⊥
  no_number list (Value-F.Number m) n h k = cc
  no_number list (Value-F.Parts all) n h k = cc

  no_element_number : (m : ℕ) (test : Value → Bool) (level : Value-F Value) (n : ℤ) → are_elements m test level ≡ true →
      number_level level ≡ Some n → ⊥
  no_element_number m test (Value-F.Number k) n h e = cc
  no_element_number m test (Value-F.Parts all) n h e = cc

  here_by : (ty : Ty) (value : Value) (n : ℤ) (layer : Ty-F Ty) → out-Ty ty ≡ layer → value_fits structs ty value ≡ true →
      number_in value ≡ Some n →
      LeadsToScalar (Some (whole (c_type structs ty))) []
  here_by ty value n (Ty-F.Scalar s) is fit number =
      record { kind = c_scalar s; walks = ap (λ layer. Some (whole (type_level (type_name structs ty) layer))) is }
  here_by ty value n (Ty-F.Struct s) is fit number = absurd (by (slice_get structs s) refl)
    where
      by : (o : Option StructDef) → slice_get structs s ≡ o → ⊥
      by (Some def) there =
          no_number (map (λ (field : Field). fits_by (tests_after [] (take s structs)) field.ty) def.fields) (out-Value value) n
          (fields_of ty value s def is there fit) number
      by None there = no_struct ty value s is there fit
  here_by ty value n (Ty-F.Array m inner) is fit number =
      absurd (no_element_number m (value_fits structs inner) (out-Value value) n (sym (fits_array tests ty m inner value is) ∙ fit) number)

  -- ---- a part

  -- where a part of a value is found
  record PartFound (value : Value) (k : ℕ) (ks : List ℕ) (n : ℤ) : Type 0 where
    part : Value
    is : part_of k value ≡ Some part
    number : number_within ks part ≡ Some n

  part_found : (value : Value) (k : ℕ) (ks : List ℕ) (n : ℤ) → number_within (k ∷ ks) value ≡ Some n → PartFound value k ks n
  part_found value k ks n number = by (part_of k value) refl number
    where
      by : (o : Option Value) → part_of k value ≡ o → option_and_then number_in (option_and_then (value_at ks) o) ≡ Some n → PartFound value k ks n
      by None e h = absurd (cc)
      by (Some part) e h = record { part = part; is = e; number = h }

  inner_declared : (ty : Ty) (k : ℕ) (inner : Ty) → part_type structs k ty ≡ Some inner → AllDeclared ty → AllDeclared inner
  inner_declared ty k inner is all ks last typed = all (k ∷ ks) last (ap (type_after structs ks) is ∙ typed)

  field_fits : (ty : Ty) (value : Value) (s : ℕ) (def : StructDef) (k : ℕ) (field : Field) (part : Value) → out-Ty ty ≡ Ty-F.Struct s →
      slice_get structs s ≡ Some def → slice_get def.fields k ≡ Some field → part_of k value ≡ Some part →
      value_fits structs ty value ≡ true →
      value_fits structs field.ty part ≡ true
  field_fits ty value s def k field part is there has found fit = by (out-Value value) (fields_of ty value s def is there fit) found
    where
      before : List (Value → Bool)
      before = tests_after [] (take s structs)

      same : fits_by before field.ty ≡ value_fits structs field.ty
      same =
          let less = within_at structs s def there in
          fits_before structs s field.ty (omega (arith, less))
          (all_at (λ (field : Field). type_stands s field.ty) def.fields k field (structs_at structs 0 s s def stand there (omega arith)) has)

      by : (level : Value-F Value) → are_fields (map (λ (field : Field). fits_by before field.ty) def.fields) level ≡ true →
          option_and_then (λ all. slice_get all k) (parts_at level) ≡ Some part → value_fits structs field.ty part ≡ true
      by (Value-F.Number m) h e = absurd (cc)
      by (Value-F.Parts all) h e =
          let one = pass_at (λ (field : Field). fits_by before field.ty) def.fields all k field h has in
          let equal = same_Some one.0 part (sym one.1 ∙ e) in
          ap (λ (f : Value → Bool). f part) (sym same) ∙ ap (fits_by before field.ty) (sym equal) ∙ one.2

  -- each part of a value of a struct type is of a field
  field_there : (ty : Ty) (value : Value) (s : ℕ) (def : StructDef) (k : ℕ) (part : Value) → out-Ty ty ≡ Ty-F.Struct s →
      slice_get structs s ≡ Some def →
      part_of k value ≡ Some part → value_fits structs ty value ≡ true → (field : Field) × (slice_get def.fields k ≡ Some field)
  field_there ty value s def k part is there found fit = by (out-Value value) (fields_of ty value s def is there fit) found
    where
      as_many : (fields : List Field) (all : List Value) (j : ℕ) (x : Value) (test : Field → Value → Bool) →
          Rattle.bl_eval.specs.Values.pass (map test fields) all ≡ true → slice_get all j ≡ Some x → (field : Field) ×
          (slice_get fields j ≡ Some field)
      as_many [] [] j x test h e = absurd (cc)
      as_many [] (y ∷ all) j x test h e = absurd (cc)
      as_many (field ∷ fields) [] j x test h e = absurd (cc)
      as_many (field ∷ fields) (y ∷ all) zero x test h e = (field, refl)
      as_many (field ∷ fields) (y ∷ all) (suc j) x test h e =
          as_many fields all j x test (and_second (test field y) (Rattle.bl_eval.specs.Values.pass (map test fields) all) h) e

      by : (level : Value-F Value) → are_fields (map (λ (field : Field). fits_by (tests_after [] (take s structs)) field.ty) def.fields) level ≡ true →
          option_and_then (λ all. slice_get all k) (parts_at level) ≡ Some part → (field : Field) × (slice_get def.fields k ≡ Some field)
      by (Value-F.Number m) h e = absurd (cc)
      by (Value-F.Parts all) h e = as_many def.fields all k part (λ (field : Field). fits_by (tests_after [] (take s structs)) field.ty) h e

  -- an element
  element_within : (m k : ℕ) (test : Value → Bool) (value part : Value) → are_elements m test (out-Value value) ≡ true →
      part_of k value ≡ Some part →
      (k < m) × (test part ≡ true)
  element_within m k test value part h e = by (out-Value value) h e
    where
      by : (level : Value-F Value) → are_elements m test level ≡ true → option_and_then (λ all. slice_get all k) (parts_at level) ≡ Some part →
          (k < m) × (test part ≡ true)
      by (Value-F.Number j) h e = absurd (cc)
      by (Value-F.Parts all) h e =
          let less = within_at all k part e in
          let many = eqb-true (length all) m (and_first (nat_eq (length all) m) (list_all test all) h) in
          (omega (arith, less, many), all_at test all k part (and_second (nat_eq (length all) m) (list_all test all) h) e)

  -- a way that goes on
  goes_on : (spot next : ValueSpot) (first rest : List Projection) → Walks (Some spot) first next → LeadsToScalar (Some next) rest →
      LeadsToScalar (Some spot) (first ++ rest)
  goes_on spot next first rest one more = record {
    kind = more.kind;
    walks = along (Some spot) first ∙ ap (λ o. walk (struct_table file.structs) o rest) one ∙ more.walks;
  }
    where
      none_on : (way : List Projection) → walk (struct_table file.structs) None way ≡ None
      none_on [] = refl
      none_on (p ∷ way) = refl

      along : (o : Option ValueSpot) (first : List Projection) →
          walk (struct_table file.structs) o (first ++ rest) ≡ walk (struct_table file.structs) (walk (struct_table file.structs) o first) rest
      along o [] = refl
      along None (p ∷ first) = sym (none_on rest)
      along (Some spot) (p ∷ first) = along (step_in (struct_table file.structs) spot p) first

  step_by : (k : ℕ) (ks : List ℕ) → Leading ks → (ty : Ty) (value : Value) (n : ℤ) (layer : Ty-F Ty) → out-Ty ty ≡ layer → AllDeclared ty →
      value_fits structs ty value ≡ true → number_within (k ∷ ks) value ≡ Some n →
      LeadsToScalar (Some (whole (c_type structs ty))) (way_to structs (k ∷ ks) (Some ty))
  step_by k ks lead ty value n (Ty-F.Scalar s) is all fit number =
      absurd (let found = part_found value k ks n number in
      let scalar = scalar_is ty s (ap scalar_at is) in
      let fits = sym (fits_scalar tests s value) ∙ subst (λ (ty : Ty). value_fits structs ty value ≡ true) scalar fit in
      let none = sym (no_parts value s fits k) ∙ found.is in cc)
  step_by k ks lead ty value n (Ty-F.Struct s) is all fit number = by (slice_get structs s) refl
    where
      by : (o : Option StructDef) → slice_get structs s ≡ o → LeadsToScalar (Some (whole (c_type structs ty))) (way_to structs (k ∷ ks) (Some ty))
      by None there = absurd (no_struct ty value s is there fit)
      by (Some def) there =
          let found = part_found value k ks n number in
          let has = field_there ty value s def k found.part is there found.is fit in
          let field = has.0 in
          let type_is : c_type structs ty ≡ OfStruct (c_definition structs def).name =
          ap (type_level (type_name structs ty)) is
          ∙ ap OfStruct (name_at ty (Ty-F.Struct s) is
          ∙ ap (λ (o : Option StructDef). Rattle.bl_emit_acts.specs.Types.struct_name (Rattle.bl_emit_acts.specs.Types.name_of_definition o)) there) in
          let part_is : part_type structs k ty ≡ Some field.ty =
          ap (part_level structs k) is
          ∙ ap (option_and_then (λ (def : StructDef). option_map (λ (field : Field). field.ty) (slice_get def.fields k))) there
          ∙ ap (option_map (λ (field : Field). field.ty)) has.1 in
          let first_is : Rattle.bl_emit_acts_laws_simulation.specs.Encodes.lead_to structs k ty ≡ member (field_name field.name) ∷ [] =
          ap (Rattle.bl_emit_acts_laws_simulation.specs.Encodes.lead_level structs k) is
          ∙ ap (λ (o : Option StructDef). member (field_name (Rattle.bl_emit_acts.specs.Expressions.name_of_field
          (option_and_then (λ (def : StructDef). slice_get def.fields k) o))) ∷ []) there
          ∙ ap (λ (o : Option Field). member (field_name (Rattle.bl_emit_acts.specs.Expressions.name_of_field o)) ∷ []) has.1 in
          let declared : Contains file.structs (c_definition structs def) =
          subst (TypeDeclared structs file.structs) is (all [] ty refl) def there in
          let step = member_step file formed (c_definition structs def) (c_field structs field) declared
          (contains_at (c_definition structs def).members k (c_field structs field) (get_mapped (c_field structs) def.fields k field has.1)) in
          let rest = lead field.ty found.part n (inner_declared ty k field.ty part_is all)
          (field_fits ty value s def k field found.part is there has.1 found.is fit) found.number in
          subst (λ (way : List Projection). LeadsToScalar (Some (whole (c_type structs ty))) way)
          (sym (ap (λ (first : List Projection). first ++ way_to structs ks (part_type structs k ty)) first_is
          ∙ ap (λ (o : Option Ty). member (field_name field.name) ∷ way_to structs ks o) part_is))
          (subst (λ (t : CType). LeadsToScalar (Some (whole t)) (member (field_name field.name) ∷ way_to structs ks (Some field.ty))) (sym type_is)
          (goes_on (whole (OfStruct (c_definition structs def).name)) (whole (c_type structs field.ty)) (member (field_name field.name) ∷ [])
          (way_to structs ks (Some field.ty)) step rest))
  step_by k ks lead ty value n (Ty-F.Array m inner) is all fit number =
      let found = part_found value k ks n number in
      let elements = sym (fits_array tests ty m inner value is) ∙ fit in
      let within = element_within m k (value_fits structs inner) value found.part elements found.is in
      let type_is : c_type structs ty ≡ OfStruct (c_array structs m inner).name =
      ap (type_level (type_name structs ty)) is ∙ ap OfStruct (name_at ty (Ty-F.Array m inner) is) in
      let part_is : part_type structs k ty ≡ Some inner = ap (part_level structs k) is in
      let first_is : Rattle.bl_emit_acts_laws_simulation.specs.Encodes.lead_to structs k ty ≡ member elements_name ∷ element k ∷ [] =
      ap (Rattle.bl_emit_acts_laws_simulation.specs.Encodes.lead_level structs k) is in
      let declared : Contains file.structs (c_array structs m inner) = subst (TypeDeclared structs file.structs) is (all [] ty refl) in
      let step = member_step file formed (c_array structs m inner) (c_elements structs m inner) declared (0, omega arith, refl) in
      let less : nat_lt k m ≡ true = lt-ltb k m within.0 in
      let steps : Walks (Some (whole (OfStruct (c_array structs m inner).name))) (member elements_name ∷ element k ∷ []) (whole (c_type structs inner)) =
      ap (λ o. walk (struct_table file.structs) o (element k ∷ [])) step
      ∙ ap (λ (b : Bool). if b then Some (whole (c_type structs inner)) else None) less in
      let rest = lead inner found.part n (inner_declared ty k inner part_is all) within.1 found.number in
      subst (λ (way : List Projection). LeadsToScalar (Some (whole (c_type structs ty))) way)
      (sym (ap (λ (first : List Projection). first ++ way_to structs ks (part_type structs k ty)) first_is
      ∙ ap (λ (o : Option Ty). member elements_name ∷ element k ∷ way_to structs ks o) part_is))
      (subst (λ (t : CType). LeadsToScalar (Some (whole t)) (member elements_name ∷ element k ∷ way_to structs ks (Some inner))) (sym type_is)
      (goes_on (whole (OfStruct (c_array structs m inner).name)) (whole (c_type structs inner)) (member elements_name ∷ element k ∷ [])
      (way_to structs ks (Some inner)) steps rest))

  -- where a value of a type has a number the way to it leads to a scalar
  pub leads : (ks : List ℕ) → Leading ks
  leads [] ty value n all fit number = here_by ty value n (out-Ty ty) refl fit number
  leads (k ∷ ks) ty value n all fit number = step_by k ks (leads ks) ty value n (out-Ty ty) refl all fit number
