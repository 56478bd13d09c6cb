-- The fields of structs and the parameters of units, by the names of structs.
use Rattle.std.proofs.Common.{◌≡◌, ℕ, zero, suc, ◌+◌, ◌≤◌, true, List, [], ◌∷◌, ◌++◌, map, length, refl, sym, ap, subst, ◌∙◌, arith, append_assoc}
use Rattle.std.specs.Prelude.{Bool, ◌&&◌, max, nat_le, slice_get, Some, None}
use Rattle.std.proofs.lemmas.List.{length-append}
use Rattle.std.specs.List.{list_all}
use Rattle.std.proofs.lemmas.Bool.{le-leb, leb-true}
use Rattle.std.proofs.lemmas.Bool.{and_from}
use Rattle.bl_tree.proofs.Basics.{and_first, and_second}
use Rattle.bl_face.specs.declared.item.FaceField.{FaceField}
use Rattle.bl_face.specs.declared.item.FaceType.{FaceType}
use Rattle.bl_limits_measures.specs.Types.{nesting_by}
use Rattle.bl_module.specs.Behind.{base_stands, fields_depth, is_length, outside_text, resolved_field, resolved_param, resolved_type, type_depth, type_stands}
use Rattle.bl_module.specs.Behind.{types_stand}
use Rattle.bl_module.specs.declared.names.Referent.TheVariants as referent
use Rattle.bl_module.specs.Names.{DeclaredNames, are_new, is_new, with_fields, with_name}
use Rattle.bl_module.specs.Own.{base_of, face_type, field_type, fields_known_from, lengths_of, params_known_from, var_type}
use Rattle.bl_module_laws_faces.proofs.Lookups.{SameTexts, texts_next}
use Rattle.bl_module_laws_faces.proofs.Scoped.{declared_last, new_alike, resolves_variable}
use Rattle.bl_module_laws_faces.proofs.Types.{DepthsTold, Resolves, lengths_stand, same_type, type_nests}
use Rattle.bl_names.proofs.FitLemmas.{Fits, fits_behind, fits_first, fits_second}
use Rattle.bl_names.proofs.PastLemmas.{enter-behind}
use Rattle.bl_names.proofs.StillLemmas.{after-append, still_type}
use Rattle.bl_names.specs.Naming.{named_type}
use Rattle.bl_module_laws_faces.proofs.Fresh.{Fresh, fresh_first, fresh_second}
use Rattle.bl_names_scopes.specs.declared.kind.Kind.TheVariants as kind
use Rattle.bl_names_scopes.specs.Marks.{Marks, declares, field_mark, field_type_marks, param_marks, type_marks}
use Rattle.bl_names_scopes.specs.Scopes.{Scopes, after, declaration_of, enter, found}
use Rattle.bl_parse_tree.specs.declared.item.RawField.{RawField}
use Rattle.bl_parse_tree.specs.declared.item.RawParam.{RawParam}
use Rattle.bl_parse_tree.specs.declared.types.RawType.{RawType}
use Rattle.bl_tree.specs.declared.tree.Field.{Field}
use Rattle.bl_tree.specs.declared.tree.Role.{Role}
use Rattle.bl_tree.specs.declared.tree.Ty.{Ty}
use Rattle.bl_tree.specs.declared.tree.Var.{Var}
use Rattle.bl_tree.specs.Reduce.{greatest, joined}
use Rattle.bl_tree.specs.Types.{type_stands as typed_stands}
use Rattle.bl_tree_laws_places.specs.Placed.{placed_var}
use Rattle.bl_types.specs.declared.environment.Constant.{Constant}
use Rattle.bl_types.specs.Written.{written_type}
use Rattle.bl_types_laws_places.specs.Agree.{unplaced}

-- a type as a face has it, that is written so and known so
abbrev pub shown_type : List Constant → Scopes → RawType → FaceType
shown_type constants scopes ty = record { lengths = lengths_of (written_type constants (named_type scopes ty)); base = base_of ty }

-- ---- fields and parameters as a face shows them, and as they are known

abbrev pub shown_fields : List Constant → Scopes → List RawField → List FaceField
shown_fields constants scopes [] = []
shown_fields constants scopes (field ∷ fields) =
    record { name = field.name.text; ty = shown_type constants scopes field.ty } ∷ shown_fields constants scopes fields

abbrev pub typed_field : List Constant → Scopes → RawField → Field
typed_field constants scopes field = record { name = field.name.text; ty = written_type constants (named_type scopes field.ty) }

abbrev pub typed_fields : List Constant → Scopes → List RawField → List Field
typed_fields constants scopes [] = []
typed_fields constants scopes (field ∷ fields) = typed_field constants scopes field ∷ typed_fields constants scopes fields

-- each in the scopes that those before it leave
abbrev pub shown_params : List Constant → Scopes → List RawParam → List FaceField
shown_params constants scopes [] = []
shown_params constants scopes (param ∷ params) =
    record { name = param.name.text; ty = shown_type constants scopes param.ty } ∷ shown_params constants (after scopes (param_marks param)) params

abbrev pub typed_param : List Constant → Role → Scopes → RawParam → Var
typed_param constants role scopes param =
    record { name = param.name.text; place = param.name.place; ty = written_type constants (named_type scopes param.ty); role = role }

abbrev pub typed_params : List Constant → Role → Scopes → List RawParam → List Var
typed_params constants role scopes [] = []
typed_params constants role scopes (param ∷ params) =
    typed_param constants role scopes param ∷ typed_params constants role (after scopes (param_marks param)) params

get_next : {A : Type 0} (before rest : List A) (x : A) (k : ℕ) → length before ≡ k → slice_get (before ++ x ∷ rest) k ≡ Some x
get_next [] rest x k is = ap (slice_get (x ∷ rest)) (sym is)
get_next (y ∷ before) rest x zero is = absurd (omega (arith, is))
get_next (y ∷ before) rest x (suc k) is = get_next before rest x k (omega (arith, is))

pub length_next : {A : Type 0} (before : List A) (x : A) (k : ℕ) → length before ≡ k → length (before ++ x ∷ []) ≡ k + 1
length_next before x k is = let one = length-append before (x ∷ []) in omega (arith, is, one)

module _ (constants : List Constant) where
  pub fields_are : (scopes : Scopes) (fields : List RawField) (before : List Field) (k : ℕ) → length before ≡ k →
      fields_known_from k (before ++ typed_fields constants scopes fields) fields ≡ shown_fields constants scopes fields
  fields_are scopes [] before k is = refl
  fields_are scopes (field ∷ fields) before k is =
      let typed : Field = typed_field constants scopes field in
      let rest : List Field = typed_fields constants scopes fields in
      let first : FaceField = record { name = field.name.text; ty = shown_type constants scopes field.ty } in
      (λ i. record { name = field.name.text; ty = face_type field.ty (field_type (get_next before rest typed k is i)) }
      ∷ fields_known_from (k + 1) (sym (append_assoc before (typed ∷ []) rest) i) fields)
      ∙ ap (λ (shown : List FaceField). first ∷ shown) (fields_are scopes fields (before ++ typed ∷ []) (k + 1) (length_next before typed k is))

  pub params_are : (role : Role) (scopes : Scopes) (params : List RawParam) (before rest : List Var) (k : ℕ) → length before ≡ k →
      params_known_from k (before ++ (typed_params constants role scopes params ++ rest)) params ≡ shown_params constants scopes params
  params_are role scopes [] before rest k is = refl
  params_are role scopes (param ∷ params) before rest k is =
      let typed : Var = typed_param constants role scopes param in
      let next : Scopes = after scopes (param_marks param) in
      let more : List Var = typed_params constants role next params ++ rest in
      let first : FaceField = record { name = param.name.text; ty = shown_type constants scopes param.ty } in
      (λ i. record { name = param.name.text; ty = face_type param.ty (var_type (get_next before more typed k is i)) }
      ∷ params_known_from (k + 1) (sym (append_assoc before (typed ∷ []) more) i) params)
      ∙ ap (λ (shown : List FaceField). first ∷ shown)
      (params_are role next params (before ++ typed ∷ []) rest (k + 1) (length_next before typed k is))

-- ---- names of fields

-- the fields of a struct have names that differ
pub fields_new : (constants : List Constant) (made : Scopes) (fields : List RawField) (scopes : Scopes) (local : DeclaredNames) →
    SameTexts scopes.inner local → Fresh scopes (map field_mark fields) → are_new local (shown_fields constants made fields) ≡ true
fields_new constants made [] scopes local texts fresh = refl
fields_new constants made (field ∷ fields) scopes local texts fresh =
    let next : Scopes = enter scopes (field_mark field) in
    let more : DeclaredNames = with_name local field.name.text referent.Other in
    and_from (is_new local field.name.text) (are_new more (shown_fields constants made fields))
    (new_alike field.name.text scopes.inner local texts fresh.0)
    (fields_new constants made fields next more
    (subst (λ inner. SameTexts inner more) (sym (declared_last scopes scopes.counts field.name kind.Field fresh.0))
    (texts_next scopes.inner local field.name.text (declaration_of field.name kind.Field 0) referent.Other texts)) fresh.1)

-- where the nesting of structs is known so, of which so many are declared
module _ (known : List ℕ) (n : ℕ) (names : DeclaredNames) (told : DepthsTold known n names) (constants : List Constant) where
  -- a type that a face shows is the one that is known
  pub record Shown (scopes : Scopes) (ty : RawType) : Type 0 where
    pub same : resolved_type names (shown_type constants scopes ty) ≡ written_type constants (named_type scopes ty)
    pub based : base_stands names (base_of ty) ≡ true
    pub nests : nesting_by known (written_type constants (named_type scopes ty)) ≡ type_depth names (shown_type constants scopes ty)

  shown : (scopes : Scopes) (ty : RawType) → Resolves names scopes → Fits scopes (type_marks ty) → Shown scopes ty
  shown scopes ty resolves fits =
      let same = same_type names scopes constants resolves ty fits in
      record {
        same = same.same;
        based = same.stands;
        nests = ap (nesting_by known) (sym same.same) ∙ type_nests known n names told (shown_type constants scopes ty) same.stands;
      }

  -- and it stands, where the type stands and isn't nested too deep
  shown_stands : (scopes : Scopes) (ty : RawType) (structs : ℕ) → Shown scopes ty →
      typed_stands structs (written_type constants (named_type scopes ty)) ≡ true →
      nesting_by known (written_type constants (named_type scopes ty)) ≤ 100 → type_stands names (shown_type constants scopes ty) ≡ true
  shown_stands scopes ty structs is stands shallow =
      let typed : Ty = written_type constants (named_type scopes ty) in
      and_from (base_stands names (base_of ty) && list_all is_length (lengths_of typed)) (nat_le (type_depth names (shown_type constants scopes ty)) 100)
      (and_from (base_stands names (base_of ty)) (list_all is_length (lengths_of typed)) is.based (lengths_stand structs typed stands))
      (le-leb (type_depth names (shown_type constants scopes ty)) 100 (subst (λ depth. depth ≤ 100) is.nests shallow))

  -- ---- fields

  -- the fields that a face shows are those that are known
  pub record FieldsShown (scopes : Scopes) (fields : List RawField) : Type 0 where
    pub same : map (resolved_field names) (shown_fields constants scopes fields) ≡ typed_fields constants scopes fields
    pub depth : fields_depth names (shown_fields constants scopes fields)
        ≡ greatest (map (λ (field : Field). nesting_by known field.ty) (typed_fields constants scopes fields))

  pub fields_shown : (scopes : Scopes) → Resolves names scopes → (fields : List RawField) → Fits scopes (joined (map field_type_marks fields)) →
      FieldsShown scopes fields
  fields_shown scopes resolves [] fits = record { same = refl; depth = refl }
  fields_shown scopes resolves (field ∷ fields) fits =
      let marks : Marks = joined (map field_type_marks fields) in
      let first = shown scopes field.ty resolves (fits_first scopes (type_marks field.ty) marks fits) in
      let rest = fields_shown scopes resolves fields (fits_behind scopes (type_marks field.ty) marks (still_type field.ty) fits) in
      record {
        same = λ i. record { name = field.name.text; ty = first.same i } ∷ rest.same i;
        depth = λ i. max (sym first.nests i) (rest.depth i);
      }

  pub fields_stand : (scopes : Scopes) → Resolves names scopes → (structs : ℕ) (fields : List RawField) →
      Fits scopes (joined (map field_type_marks fields)) →
      list_all (λ (field : Field). typed_stands structs field.ty) (typed_fields constants scopes fields) ≡ true →
      greatest (map (λ (field : Field). nesting_by known field.ty) (typed_fields constants scopes fields)) ≤ 100 →
      types_stand names (shown_fields constants scopes fields) ≡ true
  fields_stand scopes resolves structs [] fits stand shallow = refl
  fields_stand scopes resolves structs (field ∷ fields) fits stand shallow =
      let marks : Marks = joined (map field_type_marks fields) in
      let rest : List Field = typed_fields constants scopes fields in
      let test : Field → Bool = λ (field : Field). typed_stands structs field.ty in
      let first = shown scopes field.ty resolves (fits_first scopes (type_marks field.ty) marks fits) in
      and_from (type_stands names (shown_type constants scopes field.ty)) (types_stand names (shown_fields constants scopes fields))
      (shown_stands scopes field.ty structs first (and_first (typed_stands structs (typed_field constants scopes field).ty) (list_all test rest) stand)
      (omega (arith, shallow)))
      (fields_stand scopes resolves structs fields (fits_behind scopes (type_marks field.ty) marks (still_type field.ty) fits)
      (and_second (typed_stands structs (typed_field constants scopes field).ty) (list_all test rest) stand) (omega (arith, shallow)))

  -- ---- parameters

  abbrev pub is_shallow : Var → Bool
  is_shallow var = nat_le (nesting_by known var.ty) 100

  -- the parameters of a role that a face shows are those that are known, and their names differ from those before them
  pub record ParamsShown (role : Role) (scopes : Scopes) (params : List RawParam) (local : DeclaredNames) : Type 0 where
    pub same : map (resolved_param names role) (shown_params constants scopes params) ≡ map (placed_var unplaced) (typed_params constants role scopes params)
    pub stand : types_stand names (shown_params constants scopes params) ≡ true
    pub new : are_new local (shown_params constants scopes params) ≡ true
    pub texts : SameTexts (after scopes (joined (map param_marks params))).inner (with_fields local (shown_params constants scopes params))
    pub resolves : Resolves names (after scopes (joined (map param_marks params)))

  module _ (role : Role) (structs : ℕ) where
    abbrev stands : Var → Bool
    stands var = typed_stands structs var.ty

    pub params_shown : (params : List RawParam) (scopes : Scopes) (local : DeclaredNames) → Resolves names scopes → SameTexts scopes.inner local →
        Fits scopes (joined (map param_marks params)) → Fresh scopes (joined (map param_marks params)) →
        list_all stands (typed_params constants role scopes params) ≡ true →
        list_all is_shallow (typed_params constants role scopes params) ≡ true → ParamsShown role scopes params local
    params_shown [] scopes local resolves texts fits fresh stand shallow =
        record { same = refl; stand = refl; new = refl; texts = texts; resolves = resolves }
    params_shown (param ∷ params) scopes local resolves texts fits fresh stand shallow =
        let own : Marks = type_marks param.ty in
        let last : Marks = declares param.name kind.Variable ∷ [] in
        let marks : Marks = joined (map param_marks params) in
        let next : Scopes = after scopes (param_marks param) in
        let typed : Var = typed_param constants role scopes param in
        let later : List Var = typed_params constants role next params in
        let more : DeclaredNames = with_name local param.name.text referent.Other in
        let absent : found scopes.inner param.name.text ≡ None =
        ap (λ (s : Scopes). found s.inner param.name.text) (sym (still_type param.ty scopes))
        ∙ (fresh_second scopes own last (fresh_first scopes (own ++ last) marks fresh)).0 in
        let behind : enter scopes (declares param.name kind.Variable) ≡ next = enter-behind scopes own param.name kind.Variable (still_type param.ty) in
        let first = shown scopes param.ty resolves (fits_first scopes own last (fits_first scopes (own ++ last) marks fits)) in
        let rest = params_shown params next more (subst (Resolves names) behind (resolves_variable names scopes resolves param.name))
        (subst (λ (s : Scopes). SameTexts s.inner more) behind
        (subst (λ inner. SameTexts inner more) (sym (declared_last scopes scopes.counts param.name kind.Variable absent))
        (texts_next scopes.inner local param.name.text (declaration_of param.name kind.Variable scopes.counts.variables) referent.Other texts)))
        (fits_second scopes (own ++ last) marks fits) (fresh_second scopes (own ++ last) marks fresh)
        (and_second (stands typed) (list_all stands later) stand) (and_second (is_shallow typed) (list_all is_shallow later) shallow) in
        let all_of_them : after next marks ≡ after scopes ((own ++ last) ++ marks) = sym (after-append scopes (own ++ last) marks) in
        record {
          same = λ i. record { name = param.name.text; place = outside_text; ty = first.same i; role = role } ∷ rest.same i;
          stand = and_from (type_stands names (shown_type constants scopes param.ty)) (types_stand names (shown_params constants next params))
              (shown_stands scopes param.ty structs first (and_first (stands typed) (list_all stands later) stand)
              (leb-true (nesting_by known typed.ty) 100 (and_first (is_shallow typed) (list_all is_shallow later) shallow))) rest.stand;
          new = and_from (is_new local param.name.text) (are_new more (shown_params constants next params))
              (new_alike param.name.text scopes.inner local texts absent) rest.new;
          texts = subst (λ (s : Scopes). SameTexts s.inner (with_fields more (shown_params constants next params))) all_of_them rest.texts;
          resolves = subst (Resolves names) all_of_them rest.resolves;
        }
