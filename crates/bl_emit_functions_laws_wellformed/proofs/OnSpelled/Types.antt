-- The C structs of types have a spelling.
use Rattle.std.proofs.Common.{◌≡◌, ℕ, zero, suc, ◌+◌, ◌<◌, ◌≤◌, ◌^◌, Bool}
use Rattle.std.proofs.Common.{true, false, ◌&&◌, List, [], ◌∷◌, ◌++◌, map}
use Rattle.std.proofs.Common.{length, None, refl, sym, ap, ◌∙◌, subst, arith, codes}
use Rattle.std.proofs.lemmas.Bool.Decides.{nat_tests}
use Rattle.std.proofs.lemmas.Fmt.{decimal_is_IsNumeral}
use Rattle.std.proofs.lemmas.List.Folds.{list_all-append}
use Rattle.std.specs.Prelude.{bytes_eq, nat_le, nat_lt, if◌then◌else◌}
use Rattle.std.specs.List.{list_all, list_any}
use Rattle.std.specs.Fmt.{decimal}
use Rattle.std.proofs.lemmas.Bool.{and_from}
use Rattle.bl_tree.proofs.Basics.{all_append, and_first, and_second, less_from}
use Rattle.bl_tree.specs.declared.text.Text.{Text}
use Rattle.bl_tree.specs.declared.c.CStruct.{CStruct}
use Rattle.bl_tree.specs.declared.scalar.Scalar.{Scalar as ScalarType}
use Rattle.bl_tree.specs.declared.scalar.Scalar.TheVariants.{Bool as OfBool, Int, Nat, Bits}
use Rattle.bl_tree.specs.declared.scalar.Width.TheVariants.{W8, W16, W32, W64}
use Rattle.bl_tree.specs.declared.tree.Field.{Field}
use Rattle.bl_tree.specs.declared.tree.StructDef.{StructDef}
use Rattle.bl_tree.specs.declared.tree.Ty.{Ty, fold-Ty, fold_out-Ty, ind-Ty, map-Ty, out-Ty, out-roll-Ty, roll-Ty}
use Rattle.bl_tree.specs.declared.tree.Ty.TheOpen.{Ty-F}
use Rattle.bl_tree.specs.declared.tree.Unit.{Unit as UnitDef}
use Rattle.bl_tree.specs.declared.tree.Var.{Var}
use Rattle.bl_tree.specs.Program.{IsWellTyped, field_names, struct_stands, structs_stand_from, unit_stands, units_stand_after}
use Rattle.bl_tree.specs.Reduce.{all_of, joined}
use Rattle.bl_tree.specs.Types.{scalar_at, scalar_in, type_stands, type_stands_level}
use Rattle.bl_tree.specs.Typing.{is_inhabited}
use Rattle.bl_tree.specs.Words as words
use Rattle.bl_ctext.specs.Token.{is_word, is_word_byte}
use Rattle.bl_ctext.specs.Names.{is_name, is_struct_name}
use Rattle.bl_ctext.specs.Spellable.{has_any, is_c_scalar, is_length, spells_member, spells_struct, spells_type}
use Rattle.bl_ctext.proofs.Fitting.{struct-spells}
use Rattle.bl_ctext.proofs.PrefixedNames.{name-struct, name-with_prefix}
use Rattle.bl_emit_acts.specs.Structs.{c_array, c_definition, c_elements, c_field}
use Rattle.bl_emit_acts.specs.Trees.{nowhere}
use Rattle.bl_emit_acts.specs.Types.{array_name, c_scalar, c_type, definition_name, elements_name, field_name, name_level, struct_name}
use Rattle.bl_emit_acts.specs.Types.{type_level, type_name, type_word}
use Rattle.bl_emit_structs.specs.Structs.{arrays_level, arrays_of, each_once, structs_for, structs_for_definition, structs_for_unit}
use Rattle.bl_emit_structs.proofs.Steps.{array_is}
use Rattle.bl_emit_acts_laws_wellformed.proofs.OnSpelled.Names.{digits_begin, digits_word, elements-name, field-name, lettered-name}
use Rattle.bl_emit_acts_laws_wellformed.proofs.OnSpelled.Fits.{source_name}

-- ---- one level of a type

module _ (structs : List StructDef) where
  name_at : (ty : Ty) (layer : Ty-F Ty) → out-Ty ty ≡ layer →
      type_name structs ty ≡ name_level structs (map-Ty Ty Text (type_name structs) layer)
  name_at ty layer is = fold_out-Ty Text (name_level structs) ty ∙ ap (λ l. name_level structs (map-Ty Ty Text (type_name structs) l)) is

  stands_at : (k : ℕ) (ty : Ty) (layer : Ty-F Ty) → out-Ty ty ≡ layer →
      type_stands k ty ≡ type_stands_level k (map-Ty Ty Bool (type_stands k) layer)
  stands_at k ty layer is = fold_out-Ty Bool (type_stands_level k) ty ∙ ap (λ l. type_stands_level k (map-Ty Ty Bool (type_stands k) l)) is

  abbrev inner : Ty → Ty → List CStruct
  inner = fold-Ty (Ty → List CStruct) (arrays_level structs)

  arrays_at_layer : (ty : Ty) (layer : Ty-F Ty) → out-Ty ty ≡ layer
      → arrays_of structs ty ≡ arrays_level structs (map-Ty Ty (Ty → List CStruct) inner layer) ty
  arrays_at_layer ty layer is =
      ap (λ f. f ty) (fold_out-Ty (Ty → List CStruct) (arrays_level structs) ty)
      ∙ ap (λ l. arrays_level structs (map-Ty Ty (Ty → List CStruct) inner l) ty) is

-- ---- bytes

bytes_append : (xs ys : List ℕ) → all_of (map is_word_byte xs) ≡ true → all_of (map is_word_byte ys) ≡ true →
    all_of (map is_word_byte (xs ++ ys)) ≡ true
bytes_append [] ys one other = other
bytes_append (x ∷ xs) ys one other =
    and_from (is_word_byte x) (all_of (map is_word_byte (xs ++ ys))) (and_first (is_word_byte x) (all_of (map is_word_byte xs)) one)
    (bytes_append xs ys (and_second (is_word_byte x) (all_of (map is_word_byte xs)) one) other)

word_bytes : (word : Text) → is_word word ≡ true → all_of (map is_word_byte word) ≡ true
word_bytes [] h = absurd (cc)
word_bytes (b ∷ bs) h = h

name_bytes : (name : Text) → is_name name ≡ true → all_of (map is_word_byte name) ≡ true
unfolding is_name
name_bytes name h = word_bytes name (and_first (is_word name) _ h)

scalar_bytes : (s : ScalarType) → all_of (map is_word_byte (type_word s)) ≡ true
scalar_bytes OfBool = refl
scalar_bytes (Int W8) = refl
scalar_bytes (Int W16) = refl
scalar_bytes (Int W32) = refl
scalar_bytes (Int W64) = refl
scalar_bytes (Nat W8) = refl
scalar_bytes (Nat W16) = refl
scalar_bytes (Nat W32) = refl
scalar_bytes (Nat W64) = refl
scalar_bytes (Bits W8) = refl
scalar_bytes (Bits W16) = refl
scalar_bytes (Bits W32) = refl
scalar_bytes (Bits W64) = refl

pub scalar_spelled : (s : ScalarType) → is_c_scalar (c_scalar s) ≡ true
scalar_spelled OfBool = refl
scalar_spelled (Int w) = refl
scalar_spelled (Nat w) = refl
scalar_spelled (Bits w) = refl

-- ---- names

struct-name : (name : Text) → words.is_name name ≡ true → is_name (struct_name name) ≡ true
struct-name name h = name-with_prefix (codes "s_") name refl (source_name name h)

small : (n : ℕ) → is_length n ≡ true → n < 2 ^ 64
small n h = let le : nat_le n 65536 ≡ true = and_second (nat_le 1 n) (nat_le n 65536) h in grind (arith, nat_tests)

array-bytes : (n : ℕ) (element : Text) → is_length n ≡ true → all_of (map is_word_byte element) ≡ true →
    all_of (map is_word_byte (decimal n ++ (codes "_" ++ element))) ≡ true
array-bytes n element long all =
    let numeral = decimal_is_IsNumeral n (small n long) in
    bytes_append (decimal n) (codes "_" ++ element) (digits_word (decimal n) numeral.0.1) (and_from true (all_of (map is_word_byte element)) refl all)

array-name : (n : ℕ) (element : Text) → is_length n ≡ true → all_of (map is_word_byte element) ≡ true →
    is_name (array_name n element) ≡ true
array-name n element long all =
    let numeral = decimal_is_IsNumeral n (small n long) in
    lettered-name 114 (decimal n ++ (codes "_" ++ element)) refl refl (digits_begin (decimal n) (codes "_" ++ element) numeral.0.0 numeral.0.1)
    (array-bytes n element long all)

definition-named : (structs : List StructDef) (k : ℕ) → k < length structs →
    list_all words.is_name (map (λ (def : StructDef). def.name) structs) ≡ true → words.is_name (definition_name structs k) ≡ true
definition-named [] k less all = absurd (omega arith)
definition-named (def ∷ rest) zero less all =
    and_first (words.is_name def.name) (list_all words.is_name (map (λ (def : StructDef). def.name) rest)) all
definition-named (def ∷ rest) (suc k) less all =
    let lt : k < length rest = omega (arith, less) in
    definition-named rest k lt (and_second (words.is_name def.name) (list_all words.is_name (map (λ (def : StructDef). def.name) rest)) all)

-- ---- lists of structs

once_all : (p : CStruct → Bool) (taken : List Text) (structs : List CStruct) → list_all p structs ≡ true →
    list_all p (each_once taken structs) ≡ true
once_all p taken [] h = refl
once_all p taken (s ∷ rest) h =
    by (list_any (bytes_eq s.name) taken) (once_all p taken rest (and_second (p s) (list_all p rest) h))
    (and_from (p s) (list_all p (each_once (taken ++ s.name ∷ []) rest)) (and_first (p s) (list_all p rest) h)
    (once_all p (taken ++ s.name ∷ []) rest (and_second (p s) (list_all p rest) h)))
  where
    by : (b : Bool) → list_all p (each_once taken rest) ≡ true → list_all p (s ∷ each_once (taken ++ s.name ∷ []) rest) ≡ true
        → list_all p (if b then each_once taken rest else s ∷ each_once (taken ++ s.name ∷ []) rest) ≡ true
    by true old new = old
    by false old new = new

joined_all : {X : Type 0} (p : CStruct → Bool) (needs : X → List CStruct) (ok : X → Bool) →
    ((x : X) → ok x ≡ true → list_all p (needs x) ≡ true) →
    (xs : List X) → list_all ok xs ≡ true → list_all p (joined (map needs xs)) ≡ true
joined_all p needs ok each [] h = refl
joined_all p needs ok each (x ∷ xs) h =
    all_append p (needs x) (joined (map needs xs)) (each x (and_first (ok x) (list_all ok xs) h))
    (joined_all p needs ok each xs (and_second (ok x) (list_all ok xs) h))

module _ (structs : List StructDef) (named : list_all words.is_name (map (λ (def : StructDef). def.name) structs) ≡ true) where
  -- ---- types

  module _ (k : ℕ) (within : k ≤ length structs) where
    abbrev Named : Ty → Type 0
    Named ty = type_stands k ty ≡ true → all_of (map is_word_byte (type_name structs ty)) ≡ true

    definition_there : (j : ℕ) → nat_lt j k ≡ true → words.is_name (definition_name structs j) ≡ true
    definition_there j less =
        let lt : j < k = less_from j k less in let few : j < length structs = omega (arith, lt, within) in definition-named structs j few named

    named_by : (layer : Ty-F ((ty : Ty) × Named ty)) → Named (roll-Ty (map-Ty ((ty : Ty) × Named ty) Ty (λ e. e.0) layer))
    named_by (Ty-F.Scalar s) h =
        ap (λ name. all_of (map is_word_byte name)) (name_at structs (roll-Ty (Ty-F.Scalar s)) (Ty-F.Scalar s) (out-roll-Ty (Ty-F.Scalar s)))
        ∙ scalar_bytes s
    named_by (Ty-F.Struct j) h =
        let is : out-Ty (roll-Ty (Ty-F.Struct j)) ≡ Ty-F.Struct j = out-roll-Ty (Ty-F.Struct j) in
        ap (λ name. all_of (map is_word_byte name)) (name_at structs (roll-Ty (Ty-F.Struct j)) (Ty-F.Struct j) is)
        ∙ name_bytes (struct_name (definition_name structs j))
        (struct-name (definition_name structs j)
        (definition_there j (sym (stands_at structs k (roll-Ty (Ty-F.Struct j)) (Ty-F.Struct j) is) ∙ h)))
    named_by (Ty-F.Array n e) h =
        let is : out-Ty (roll-Ty (Ty-F.Array n e.0)) ≡ Ty-F.Array n e.0 = out-roll-Ty (Ty-F.Array n e.0) in
        let level : (is_length n && type_stands k e.0) ≡ true = sym (stands_at structs k (roll-Ty (Ty-F.Array n e.0)) (Ty-F.Array n e.0) is)
        ∙ h in
        let long : is_length n ≡ true = and_first (is_length n) (type_stands k e.0) level in
        ap (λ name. all_of (map is_word_byte name)) (name_at structs (roll-Ty (Ty-F.Array n e.0)) (Ty-F.Array n e.0) is)
        ∙ name_bytes (array_name n (type_name structs e.0))
        (array-name n (type_name structs e.0) long (e.1 (and_second (is_length n) (type_stands k e.0) level)))

    type_bytes : (ty : Ty) → Named ty
    type_bytes = ind-Ty Named (λ x y is. subst (λ layer. Named (roll-Ty layer)) is (named_by y))

    -- the name of a struct's or an array's type
    whole_by : (ty : Ty) (layer : Ty-F Ty) → out-Ty ty ≡ layer → scalar_at layer ≡ None → type_stands k ty ≡ true →
        is_struct_name (type_name structs ty) ≡ true
    whole_by ty (Ty-F.Scalar s) is none stands = absurd (cc)
    whole_by ty (Ty-F.Struct j) is none stands =
        ap is_struct_name (name_at structs ty (Ty-F.Struct j) is)
        ∙ name-struct (struct_name (definition_name structs j))
        (struct-name (definition_name structs j) (definition_there j (sym (stands_at structs k ty (Ty-F.Struct j) is) ∙ stands)))
    whole_by ty (Ty-F.Array n e) is none stands =
        let level : (is_length n && type_stands k e) ≡ true = sym (stands_at structs k ty (Ty-F.Array n e) is) ∙ stands in
        ap is_struct_name (name_at structs ty (Ty-F.Array n e) is)
        ∙ name-struct (array_name n (type_name structs e))
        (array-name n (type_name structs e) (and_first (is_length n) (type_stands k e) level)
        (type_bytes e (and_second (is_length n) (type_stands k e) level)))

    pub whole-named : (ty : Ty) → scalar_in ty ≡ None → type_stands k ty ≡ true → is_struct_name (type_name structs ty) ≡ true
    whole-named ty none stands = whole_by ty (out-Ty ty) refl none stands

    spelled_by : (ty : Ty) (layer : Ty-F Ty) → out-Ty ty ≡ layer → type_stands k ty ≡ true →
        spells_type (type_level (type_name structs ty) layer) ≡ true
    spelled_by ty (Ty-F.Scalar s) is stands = scalar_spelled s
    spelled_by ty (Ty-F.Struct j) is stands = whole_by ty (Ty-F.Struct j) is refl stands
    spelled_by ty (Ty-F.Array n e) is stands = whole_by ty (Ty-F.Array n e) is refl stands

    -- a C type has a spelling
    pub type-spelled : (ty : Ty) → type_stands k ty ≡ true → spells_type (c_type structs ty) ≡ true
    type-spelled ty stands = spelled_by ty (out-Ty ty) refl stands

    -- ---- the structs of arrays

    array_spelled : (n : ℕ) (e : Ty) → is_length n ≡ true → type_stands k e ≡ true → spells_struct (c_array structs n e) ≡ true
    array_spelled n e long stands =
        struct-spells nowhere (array_name n (type_name structs e)) (c_elements structs n e ∷ [])
        (name-struct (array_name n (type_name structs e)) (array-name n (type_name structs e) long (type_bytes e stands))) refl
        (and_from (spells_member (c_elements structs n e)) true
        (and_from (spells_type (c_type structs e)) (is_name elements_name && is_length n) (type-spelled e stands)
        (and_from (is_name elements_name) (is_length n) elements-name long)) refl)

    abbrev Spelled : Ty → Type 0
    Spelled ty = type_stands k ty ≡ true → list_all spells_struct (arrays_of structs ty) ≡ true

    arrays_by : (layer : Ty-F ((ty : Ty) × Spelled ty)) → Spelled (roll-Ty (map-Ty ((ty : Ty) × Spelled ty) Ty (λ e. e.0) layer))
    arrays_by (Ty-F.Scalar s) h =
        ap (list_all spells_struct) (arrays_at_layer structs (roll-Ty (Ty-F.Scalar s)) (Ty-F.Scalar s) (out-roll-Ty (Ty-F.Scalar s)))
    arrays_by (Ty-F.Struct j) h =
        ap (list_all spells_struct) (arrays_at_layer structs (roll-Ty (Ty-F.Struct j)) (Ty-F.Struct j) (out-roll-Ty (Ty-F.Struct j)))
    arrays_by (Ty-F.Array n e) h =
        let is : out-Ty (roll-Ty (Ty-F.Array n e.0)) ≡ Ty-F.Array n e.0 = out-roll-Ty (Ty-F.Array n e.0) in
        let level : (is_length n && type_stands k e.0) ≡ true = sym (stands_at structs k (roll-Ty (Ty-F.Array n e.0)) (Ty-F.Array n e.0) is)
        ∙ h in
        let long : is_length n ≡ true = and_first (is_length n) (type_stands k e.0) level in
        let inner : type_stands k e.0 ≡ true = and_second (is_length n) (type_stands k e.0) level in
        ap (list_all spells_struct) (array_is structs (roll-Ty (Ty-F.Array n e.0)) n e.0 is)
        ∙ all_append spells_struct (arrays_of structs e.0) (c_array structs n e.0 ∷ []) (e.1 inner)
        (and_from (spells_struct (c_array structs n e.0)) true (array_spelled n e.0 long inner) refl)

    -- the structs of a type's arrays have a spelling
    pub arrays-spelled : (ty : Ty) → Spelled ty
    arrays-spelled = ind-Ty Spelled (λ x y is. subst (λ layer. Spelled (roll-Ty layer)) is (arrays_by y))

    -- ---- definitions

    fields_spelled : (fields : List Field) → list_all words.is_name (map (λ (f : Field). f.name) fields) ≡ true →
        list_all (λ (f : Field). type_stands k f.ty) fields ≡ true → list_all spells_member (map (c_field structs) fields) ≡ true
    fields_spelled [] names stand = refl
    fields_spelled (f ∷ fields) names stand =
        and_from (spells_member (c_field structs f)) (list_all spells_member (map (c_field structs) fields))
        (and_from (spells_type (c_type structs f.ty)) (is_name (field_name f.name) && true)
        (type-spelled f.ty (and_first (type_stands k f.ty) (list_all (λ (f : Field). type_stands k f.ty) fields) stand))
        (and_from (is_name (field_name f.name)) true
        (field-name f.name (source_name f.name
        (and_first (words.is_name f.name) (list_all words.is_name (map (λ (f : Field). f.name) fields)) names))) refl))
        (fields_spelled fields (and_second (words.is_name f.name) (list_all words.is_name (map (λ (f : Field). f.name) fields)) names)
        (and_second (type_stands k f.ty) (list_all (λ (f : Field). type_stands k f.ty) fields) stand))

    some_field : (fields : List Field) → is_inhabited fields ≡ true → has_any (map (c_field structs) fields) ≡ true
    some_field [] h = absurd (cc)
    some_field (f ∷ fields) h = refl

    pub definition-spelled : (def : StructDef) → words.is_name def.name ≡ true → struct_stands k def ≡ true →
        list_all spells_struct (structs_for_definition structs def) ≡ true
    definition-spelled def name stands =
        let some : is_inhabited def.fields ≡ true = and_first (is_inhabited def.fields) _ stands in
        let names : list_all words.is_name (field_names def) ≡ true = and_first _ _ (and_first _ _ (and_second (is_inhabited def.fields) _ stands)) in
        let stand : list_all (λ (f : Field). type_stands k f.ty) def.fields ≡ true =
        and_second _ _ (and_second (is_inhabited def.fields) _ stands) in
        all_append spells_struct (joined (map (λ (f : Field). arrays_of structs f.ty) def.fields)) (c_definition structs def ∷ [])
        (joined_all spells_struct (λ (f : Field). arrays_of structs f.ty) (λ (f : Field). type_stands k f.ty)
        (λ f h. arrays-spelled f.ty h) def.fields stand)
        (and_from (spells_struct (c_definition structs def)) true
        (struct-spells nowhere (struct_name def.name) (map (c_field structs) def.fields)
        (name-struct (struct_name def.name) (struct-name def.name name))
        (some_field def.fields some) (fields_spelled def.fields names stand)) refl)

  -- ---- all structs

  definitions-spelled : (rest : List StructDef) (k : ℕ) → k + length rest ≤ length structs →
      list_all words.is_name (map (λ (def : StructDef). def.name) rest) ≡ true → structs_stand_from k rest ≡ true →
      list_all spells_struct (joined (map (structs_for_definition structs) rest)) ≡ true
  definitions-spelled [] k within names stand = refl
  definitions-spelled (def ∷ rest) k within names stand =
      let here : k ≤ length structs = omega (arith, within) in
      let later : (k + 1) + length rest ≤ length structs = omega (arith, within) in
      all_append spells_struct (structs_for_definition structs def) (joined (map (structs_for_definition structs) rest))
      (definition-spelled k here def (and_first (words.is_name def.name) (list_all words.is_name (map (λ (def : StructDef). def.name) rest)) names)
      (and_first (struct_stands k def) (structs_stand_from (k + 1) rest) stand))
      (definitions-spelled rest (k + 1) later
      (and_second (words.is_name def.name) (list_all words.is_name (map (λ (def : StructDef). def.name) rest)) names)
      (and_second (struct_stands k def) (structs_stand_from (k + 1) rest) stand))

  abbrev vars_stand : UnitDef → Bool
  vars_stand unit = list_all (λ (var : Var). type_stands (length structs) var.ty) unit.vars

  units-stand : (units earlier : List UnitDef) → units_stand_after structs earlier units ≡ true → list_all vars_stand units ≡ true
  units-stand [] earlier h = refl
  units-stand (unit ∷ units) earlier h =
      let own : unit_stands structs earlier unit ≡ true =
      and_first (unit_stands structs earlier unit) (units_stand_after structs (earlier ++ unit ∷ []) units) h in
      and_from (vars_stand unit) (list_all vars_stand units) (and_first (vars_stand unit) _ (and_second _ _ own))
      (units-stand units (earlier ++ unit ∷ []) (and_second (unit_stands structs earlier unit) _ h))

  unit-spelled : (unit : UnitDef) → vars_stand unit ≡ true → list_all spells_struct (structs_for_unit structs unit) ≡ true
  unit-spelled unit h =
      let all : length structs ≤ length structs = omega arith in
      joined_all spells_struct (λ (var : Var). arrays_of structs var.ty) (λ (var : Var). type_stands (length structs) var.ty)
      (λ var h. arrays-spelled (length structs) all var.ty h) unit.vars h

pub struct_names : (structs : List StructDef) (units : List UnitDef) (entry : ℕ) → IsWellTyped structs units entry →
    list_all words.is_name (map (λ (def : StructDef). def.name) structs) ≡ true
struct_names structs units entry keeps =
    and_first (list_all words.is_name (map (λ (def : StructDef). def.name) structs))
    (list_all words.is_name (map (λ (unit : UnitDef). unit.name) units))
    (sym (list_all-append words.is_name (map (λ (def : StructDef). def.name) structs) (map (λ (unit : UnitDef). unit.name) units)) ∙ keeps.named)

-- the structs of a program's types have a spelling
pub structs-spelled : (structs : List StructDef) (units : List UnitDef) (entry : ℕ) → IsWellTyped structs units entry →
    list_all spells_struct (each_once [] (structs_for structs units)) ≡ true
structs-spelled structs units entry keeps =
    let names : list_all words.is_name (map (λ (def : StructDef). def.name) structs) ≡ true = struct_names structs units entry keeps in
    once_all spells_struct [] (structs_for structs units)
    (all_append spells_struct (joined (map (structs_for_definition structs) structs)) (joined (map (structs_for_unit structs) units))
    (definitions-spelled structs names structs 0 (omega arith) names keeps.structs_stand)
    (joined_all spells_struct (structs_for_unit structs) (vars_stand structs names) (unit-spelled structs names) units
    (units-stand structs names units [] keeps.units_stand)))
