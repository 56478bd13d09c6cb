-- Parts of the values of a type: what lies at the positions that a path leads to is of the path's type, and any value of
-- that type may be put there.
use Rattle.std.proofs.Common.{◌≡◌, ℕ, ◌<◌, Bool, true, false, List, [], ◌∷◌, length, map, take, arith, Option, Some, None, refl, sym, ap, ◌∙◌, subst, IfSome}
use Rattle.std.proofs.lemmas.List.{length-set}
use Rattle.std.proofs.lemmas.Option.{same_Some, slice_get_within, IfSome_then}
use Rattle.std.specs.Prelude.{nat_eq, option_and_then, option_map, slice_get, slice_set, if◌then◌else◌}
use Rattle.std.specs.List.{list_all}
use Rattle.std.proofs.lemmas.Bool.{and_from}
use Rattle.bl_tree.proofs.Basics.{and_first, and_second}
use Rattle.bl_tree.specs.declared.scalar.Scalar.{Scalar as ScalarType}
use Rattle.bl_tree.specs.declared.tree.Expr.{Expr}
use Rattle.bl_tree.specs.declared.tree.ExprKind.{ExprKind}
use Rattle.bl_tree.specs.declared.tree.ExprKind.TheOpen.{Part-F}
use Rattle.bl_tree.specs.declared.tree.Field.{Field}
use Rattle.bl_tree.specs.declared.tree.Part.{Part, fold-Part, fold-roll-Part, out-Part, roll-Part, roll-out-Part}
use Rattle.bl_tree.specs.declared.tree.Path.{Path}
use Rattle.bl_tree.specs.declared.tree.StructDef.{StructDef}
use Rattle.bl_tree.specs.declared.tree.Ty.{Ty, out-Ty}
use Rattle.bl_tree.specs.declared.tree.Ty.TheOpen.{Ty-F}
use Rattle.bl_tree.specs.declared.tree.Var.{Var}
use Rattle.bl_tree.specs.declared.value.Value.{Value, out-Value}
use Rattle.bl_tree.specs.declared.value.Value.TheOpen.{Value-F}
use Rattle.bl_tree.specs.declared.value.Value.TheVariants.{Parts, outs-Parts}
use Rattle.bl_tree.specs.Program.{structs_stand_from}
use Rattle.bl_tree.specs.Scalar.{is_whole}
use Rattle.bl_tree.specs.Types.{scalar_in, type_stands}
use Rattle.bl_tree.specs.Typing.{TypingContext, after_parts, element_in, expr_type, field_in, kind_type, part_type, path_type, type_of, where_whole}
use Rattle.bl_eval.specs.Changes.{part_of_path}
use Rattle.bl_eval.specs.Meaning.{Scope, View, meaning_of, operand, position_in, positions_of, read_at}
use Rattle.bl_eval.specs.Values.{are_elements, are_fields, by_test, fits_by, parts_at, parts_in, put_at, tests_after, value_at, value_fits, values_fit}
use Rattle.bl_eval.specs.Values.{with_value_at}
use Rattle.bl_eval.proofs.FitLemmas.{Test, fits_array, fits_before, fits_struct, structs_at, test_is}
use Rattle.bl_eval.proofs.PassLemmas.{all_at, all_set, pass_at, pass_set}

-- ---- what there may be

pub if_some : {A : Type 0} (P : A → Type 0) (o : Option A) → ((x : A) → o ≡ Some x → P x) → IfSome o P
if_some P None h = tt
if_some P (Some x) h = h x refl

pub some_if : {A : Type 0} (P : A → Type 0) (o : Option A) (x : A) → o ≡ Some x → P x → IfSome o P
some_if P o x is h = subst (λ o. IfSome o P) (sym is) h

pub if_map : {A B : Type 0} (P : A → Type 0) (Q : B → Type 0) (f : A → B) (o : Option A) → IfSome o P → ((x : A) → P x → Q (f x)) →
    IfSome (option_map f o) Q
if_map P Q f None h next = tt
if_map P Q f (Some x) h next = next x h

pub if_then : {A B : Type 0} (P : A → Type 0) (Q : B → Type 0) (f : A → Option B) (o : Option A) → IfSome o P →
    ((x : A) → P x → IfSome (f x) Q) → IfSome (option_and_then f o) Q
if_then P Q f None h next = tt
if_then P Q f (Some x) h next = next x h

-- ---- one part

abbrev pub Fits : List StructDef → Ty → Value → Type 0
Fits structs ty value = value_fits structs ty value ≡ true

-- the part at the position, if it is there, passes the test, and so does the whole with any other that does
abbrev HasPart : (Value → Type 0) → (Value → Type 0) → ℕ → Option (List Value) → Type 0
HasPart Whole Inner k parts = IfSome parts (λ all. IfSome (slice_get all k)
    (λ old. Inner old × ((new : Value) → Inner new → Whole (Parts (slice_set all k new)))))

-- the part of a value of type a at the position is of type c, and may be any value of c
abbrev OnePart : List StructDef → Ty → ℕ → Ty → Type 0
OnePart structs a k c = (v : Value) → Fits structs a v → HasPart (Fits structs a) (Fits structs c) k (parts_in v)

fields_part : (tests : List Test) (fields : List Field) (k : ℕ) (field : Field) (level : Value-F Value)
    → are_fields (map (λ field. fits_by tests field.ty) fields) level ≡ true → slice_get fields k ≡ Some field
    → HasPart (λ whole. are_fields (map (λ field. fits_by tests field.ty) fields) (out-Value whole) ≡ true)
    (λ inner. fits_by tests field.ty inner ≡ true) k (parts_at level)
fields_part tests fields k field (Value-F.Number n) fit there = absurd (cc)
fields_part tests fields k field (Value-F.Parts all) fit there =
    let test : Field → Test = λ field. fits_by tests field.ty in
    let found = pass_at test fields all k field fit there in
    some_if _ (slice_get all k) found.0 found.1 (
      found.2,
      λ new one. ap (are_fields (map test fields)) (outs-Parts (slice_set all k new))
          ∙ pass_set test fields all k field new fit there one,
    )

elements_part : (n : ℕ) (test : Test) (k : ℕ) (level : Value-F Value) → are_elements n test level ≡ true
    → HasPart (λ whole. are_elements n test (out-Value whole) ≡ true) (λ inner. test inner ≡ true) k (parts_at level)
elements_part n test k (Value-F.Number m) fit = absurd (cc)
elements_part n test k (Value-F.Parts all) fit =
    if_some _ (slice_get all k) (λ old there. (
      all_at test all k old (and_second (nat_eq (length all) n) (list_all test all) fit) there,
      λ new one. ap (are_elements n test) (outs-Parts (slice_set all k new))
          ∙ and_from (nat_eq (length (slice_set all k new)) n) (list_all test (slice_set all k new))
          (ap (λ m. nat_eq m n) (length-set all k new) ∙ and_first (nat_eq (length all) n) (list_all test all) fit)
          (all_set test all k new (and_second (nat_eq (length all) n) (list_all test all) fit) one),
    ))

has_part : (Whole Other Inner Part : Value → Type 0) (k : ℕ) (parts : Option (List Value)) → ((v : Value) → Whole v → Other v) →
    ((v : Value) → Inner v → Part v)
    → ((v : Value) → Part v → Inner v) → HasPart Whole Inner k parts → HasPart Other Part k parts
has_part Whole Other Inner Part k parts whole inner back h =
    IfSome_then parts h (λ all found. IfSome_then (slice_get all k) found
    (λ old q. (inner old q.0, λ new one. whole (Parts (slice_set all k new)) (q.1 new (back new one)))))

module _ (structs : List StructDef) (stand : structs_stand_from 0 structs ≡ true) where
  struct_part : (a : Ty) (s : ℕ) (def : StructDef) (k : ℕ) (field : Field) → out-Ty a ≡ Ty-F.Struct s → slice_get structs s ≡ Some def →
      slice_get def.fields k ≡ Some field
      → OnePart structs a k field.ty
  struct_part a s def k field is there has v fit =
      let tests : List Test = tests_after [] (take s structs) in
      let within : s < length structs = slice_get_within structs s def there in
      let stands : type_stands s field.ty ≡ true = all_at (λ (field : Field). type_stands s field.ty) def.fields k field
      (structs_at structs 0 s s def stand there (omega arith)) has in
      let same : fits_by tests field.ty ≡ value_fits structs field.ty = fits_before structs s field.ty (omega arith) stands in
      let level : (v : Value) → value_fits structs a v ≡ are_fields (map (λ field. fits_by tests field.ty) def.fields) (out-Value v) =
      λ v. fits_struct (tests_after [] structs) a s v is ∙ ap (λ test. by_test test v) (test_is structs s def there) in
      has_part _ (Fits structs a) _ (Fits structs field.ty) k (parts_in v) (λ v h. level v ∙ h)
      (λ v h. sym (ap (λ (f : Test). f v) same) ∙ h) (λ v h. ap (λ (f : Test). f v) same ∙ h)
      (fields_part tests def.fields k field (out-Value v) (sym (level v) ∙ fit) has)

  array_part : (a : Ty) (n : ℕ) (c : Ty) (k : ℕ) → out-Ty a ≡ Ty-F.Array n c → OnePart structs a k c
  array_part a n c k is v fit =
      let level : (v : Value) → value_fits structs a v ≡ are_elements n (value_fits structs c) (out-Value v) =
      λ v. fits_array (tests_after [] structs) a n c v is in
      has_part _ (Fits structs a) _ (Fits structs c) k (parts_in v) (λ v h. level v ∙ h) (λ v h. h) (λ v h. h)
      (elements_part n (value_fits structs c) k (out-Value v) (sym (level v) ∙ fit))

  module _ (a c : Ty) (k : ℕ) where
    by_field : (s : ℕ) (def : StructDef) (found : Option Field) → out-Ty a ≡ Ty-F.Struct s → slice_get structs s ≡ Some def
        → slice_get def.fields k ≡ found
        → option_map (λ (field : Field). field.ty) found ≡ Some c → OnePart structs a k c
    by_field s def None is there has typed = absurd (cc)
    by_field s def (Some field) is there has typed = subst (OnePart structs a k) (same_Some field.ty c typed) (struct_part a s def k field is there has)

    by_def : (s : ℕ) (found : Option StructDef) → out-Ty a ≡ Ty-F.Struct s → slice_get structs s ≡ found
        → option_and_then (λ (def : StructDef). option_map (λ (field : Field). field.ty) (slice_get def.fields k)) found ≡ Some c
        → OnePart structs a k c
    by_def s None is there typed = absurd (cc)
    by_def s (Some def) is there typed = by_field s def (slice_get def.fields k) is there refl typed

    by_layer : (layer : Ty-F Ty) → out-Ty a ≡ layer → field_in structs k layer ≡ Some c → OnePart structs a k c
    by_layer (Ty-F.Scalar s) is typed = absurd (cc)
    by_layer (Ty-F.Struct s) is typed = by_def s (slice_get structs s) is refl typed
    by_layer (Ty-F.Array n element) is typed = absurd (cc)

    field_part : field_in structs k (out-Ty a) ≡ Some c → OnePart structs a k c
    field_part typed = by_layer (out-Ty a) refl typed

    by_element : (layer : Ty-F Ty) → out-Ty a ≡ layer → element_in layer ≡ Some c → OnePart structs a k c
    by_element (Ty-F.Scalar s) is typed = absurd (cc)
    by_element (Ty-F.Struct s) is typed = absurd (cc)
    by_element (Ty-F.Array n element) is typed = subst (OnePart structs a k) (same_Some element c typed) (array_part a n element k is)

    element_part : element_in (out-Ty a) ≡ Some c → OnePart structs a k c
    element_part typed = by_element (out-Ty a) refl typed

-- ---- many parts

-- what lies at the positions in a value of type a is of type b, and may be any value of b
abbrev pub Leads : List StructDef → Ty → List ℕ → Ty → Type 0
Leads structs a ks b = (v : Value) → Fits structs a v
    → IfSome (value_at ks v) (Fits structs b) × ((new : Value) → Fits structs b new → IfSome (with_value_at ks new v) (Fits structs a))

pub leads_none : (structs : List StructDef) (a : Ty) → Leads structs a [] a
leads_none structs a v fit = (fit, λ new one. one)

module _ (structs : List StructDef) (a c b : Ty) (k : ℕ) (ks : List ℕ) (rest : Leads structs c ks b) where
  read_step : (parts : Option (List Value)) → HasPart (Fits structs a) (Fits structs c) k parts
      → IfSome (option_and_then (value_at ks) (option_and_then (λ all. slice_get all k) parts)) (Fits structs b)
  read_step None h = tt
  read_step (Some all) h = if_then (λ old. Fits structs c old
      × ((new : Value) → Fits structs c new → Fits structs a (Parts (slice_set all k new)))) (Fits structs b) (value_at ks) (slice_get all k) h
      (λ old q. (rest old q.0).0)

  put_step : (new : Value) → Fits structs b new → (parts : Option (List Value)) → HasPart (Fits structs a) (Fits structs c) k parts
      → IfSome (option_and_then (λ all. option_and_then (λ old. option_map (λ part. Parts (slice_set all k part))
      (with_value_at ks new old)) (slice_get all k)) parts) (Fits structs a)
  put_step new one None h = tt
  put_step new one (Some all) h =
      if_then (λ old. Fits structs c old × ((new : Value) → Fits structs c new → Fits structs a (Parts (slice_set all k new)))) (Fits structs a)
      (λ old. option_map (λ part. Parts (slice_set all k part)) (with_value_at ks new old)) (slice_get all k) h
      (λ old q. if_map (Fits structs c) (Fits structs a) (λ part. Parts (slice_set all k part)) (with_value_at ks new old)
      ((rest old q.0).1 new one) (λ part fit. q.1 part fit))

  leads_step : OnePart structs a k c → Leads structs a (k ∷ ks) b
  leads_step part v fit = (read_step (parts_in v) (part v fit), λ new one. put_step new one (parts_in v) (part v fit))

positions_if : (structs : List StructDef) (a c b : Ty) (first : Option ℕ) (rest : Option (List ℕ)) →
    IfSome first (λ k. OnePart structs a k c) → IfSome rest (λ ks. Leads structs c ks b)
    → IfSome (option_and_then (λ k. option_map (λ ks. k ∷ ks) rest) first) (λ ks. Leads structs a ks b)
positions_if structs a c b None rest one more = tt
positions_if structs a c b (Some k) None one more = tt
positions_if structs a c b (Some k) (Some ks) one more = leads_step structs a c b k ks more one

-- ---- the parts of a path

abbrev pub type_of_part : TypingContext → Part → Ty → Option Ty
type_of_part site = fold-Part (Option Ty) (Ty → Option Ty) (Option Ty) (Option Ty) (kind_type site) (part_type site) expr_type (path_type site)

where_true : (holds : Bool) (t : Option Ty) (c : Ty) → (if holds then t else None) ≡ Some c → t ≡ Some c
where_true true t c is = is
where_true false t c is = absurd (cc)

where_scalar : (s : Option ScalarType) (t : Option Ty) (c : Ty) → option_and_then (λ s. if is_whole s then t else None) s ≡ Some c → t ≡ Some c
where_scalar None t c is = absurd (cc)
where_scalar (Some s) t c is = where_true (is_whole s) t c is

where_whole_is : (index t : Option Ty) (c : Ty) → where_whole index t ≡ Some c → t ≡ Some c
where_whole_is None t c is = absurd (cc)
where_whole_is (Some ty) t c is = where_scalar (scalar_in ty) t c is

module _ (site : TypingContext) (scope : Scope) (view : View) (stand : structs_stand_from 0 site.structs ≡ true) where
  part_at : (layer : Part-F ExprKind Part Expr Path) (a c : Ty) → type_of_part site (roll-Part layer) a ≡ Some c
      → IfSome (part_of_path scope (roll-Part layer) view) (λ k. OnePart site.structs a k c)
  part_at (Part-F.Field k) a c is = rw fold-roll-Part (field_part site.structs stand a c k (rw fold-roll-Part at is))
  part_at (Part-F.Index e) a c is =
      let element : element_in (out-Ty a) ≡ Some c = where_whole_is (type_of site e) (element_in (out-Ty a)) c (rw fold-roll-Part at is) in
      rw fold-roll-Part (if_some (λ k. OnePart site.structs a k c) (option_and_then position_in (operand (meaning_of scope e) view))
      (λ k _. element_part site.structs stand a c k element))

  part_leads : (part : Part) (a c : Ty) → type_of_part site part a ≡ Some c → IfSome (part_of_path scope part view) (λ k. OnePart site.structs a k c)
  part_leads part a c = subst (λ part. type_of_part site part a ≡ Some c →
      IfSome (part_of_path scope part view) (λ k. OnePart site.structs a k c)) (roll-out-Part part) (part_at (out-Part part) a c)

  abbrev PartsLead : List Part → Ty → Type 0
  PartsLead parts b = (a : Ty) → after_parts (map (type_of_part site) parts) a ≡ Some b →
      IfSome (positions_of (map (part_of_path scope) parts) view) (λ ks. Leads site.structs a ks b)

  parts_first : (part : Part) (rest : List Part) (a b : Ty) (found : Option Ty) → PartsLead rest b → type_of_part site part a ≡ found
      → option_and_then (after_parts (map (type_of_part site) rest)) found ≡ Some b
      → IfSome (positions_of (map (part_of_path scope) (part ∷ rest)) view) (λ ks. Leads site.structs a ks b)
  parts_first part rest a b None again is typed = absurd (cc)
  parts_first part rest a b (Some c) again is typed =
      positions_if site.structs a c b (part_of_path scope part view) (positions_of (map (part_of_path scope) rest) view)
      (part_leads part a c is) (again c typed)

  pub parts_lead : (parts : List Part) (b : Ty) → PartsLead parts b
  parts_lead [] b a typed = subst (Leads site.structs a []) (same_Some a b typed) (leads_none site.structs a)
  parts_lead (part ∷ rest) b a typed = parts_first part rest a b (type_of_part site part a) (parts_lead rest b) refl typed

-- ---- parts of variables

module _ (structs : List StructDef) (vars : List Var) (root : ℕ) (var : Var) (ks : List ℕ) (b : Ty) (there : slice_get vars root ≡ Some var)
    (leads : Leads structs var.ty ks b) (now : List Value)
    (fit : values_fit structs vars now ≡ true) where
  abbrev test : Var → Test
  test var = value_fits structs var.ty

  pub read_fits : IfSome (read_at root now ks) (Fits structs b)
  read_fits =
      let found = pass_at test vars now root var fit there in
      subst (λ at. IfSome (option_and_then (value_at ks) at) (Fits structs b)) (sym found.1) (leads found.0 found.2).0

  pub put_fits : (new : Value) → Fits structs b new → IfSome (put_at root ks new now) (λ made. values_fit structs vars made ≡ true)
  put_fits new one =
      let found = pass_at test vars now root var fit there in
      subst (λ at. IfSome (option_and_then (λ old. option_map (λ value. slice_set now root value) (with_value_at ks new old)) at)
      (λ made. values_fit structs vars made ≡ true)) (sym found.1)
      (if_map (Fits structs var.ty) (λ made. values_fit structs vars made ≡ true) (λ value. slice_set now root value)
      (with_value_at ks new found.0) ((leads found.0 found.2).1 new one)
      (λ value fits. pass_set test vars now root var value fit there fits))
