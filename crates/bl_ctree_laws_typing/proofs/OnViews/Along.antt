-- The type at positions of the values of a type, and that values have parts of these types there.
use Rattle.std.proofs.Common.{◌≡◌, ◌⊎◌, inl, inr, ℕ, zero, suc, ◌+◌, true, List, [], ◌∷◌, ◌++◌, length, map, take}
use Rattle.std.proofs.Common.{arith, Option, Some, None, refl, sym, ap, ◌∙◌, subst, eqb-true, length-append}
use Rattle.std.proofs.lemmas.List.{length-set}
use Rattle.std.proofs.lemmas.Option.{slice_get_within}
use Rattle.std.specs.Prelude.{nat_eq, option_and_then, option_map, slice_get, slice_set}
use Rattle.std.specs.List.{list_all}
use Rattle.std.proofs.lemmas.Bool.{and_from}
use Rattle.bl_tree.proofs.Basics.{and_first, and_second, one_some}
use Rattle.bl_tree.specs.declared.scalar.Scalar.{Scalar as ScalarType}
use Rattle.bl_tree.specs.declared.tree.Field.{Field}
use Rattle.bl_tree.specs.declared.tree.StructDef.{StructDef}
use Rattle.bl_tree.specs.declared.tree.Ty.{Ty, fold-roll-Ty, out-Ty}
use Rattle.bl_tree.specs.declared.tree.Ty.TheOpen.{Ty-F}
use Rattle.bl_tree.specs.declared.value.Value.{Value, out-Value}
use Rattle.bl_tree.specs.declared.value.Value.TheOpen.{Value-F}
use Rattle.bl_tree.specs.declared.value.Value.TheVariants.{Parts, outs-Parts}
use Rattle.bl_tree.specs.Program.{structs_stand_from}
use Rattle.bl_tree.specs.Types.{type_stands}
use Rattle.bl_tree.specs.Typing.{field_in}
use Rattle.bl_eval.specs.Values.{are_elements, are_fields, by_test, fits_by, is_number_of, pass, part_of, parts_at, parts_in, struct_test, tests_after}
use Rattle.bl_eval.specs.Values.{value_at, value_fits, with_value_at}
use Rattle.bl_eval.proofs.FitLemmas.{Test, fits_array, fits_before, fits_struct, structs_at, test_is, rolled}
use Rattle.bl_eval.proofs.PartFits.{Fits}
use Rattle.bl_eval.proofs.PassLemmas.{all_at, all_set, pass_at, pass_set}

-- ---- types

-- the element's type, where an array of the length has an element at the position
abbrev pub element_at : ℕ → ℕ → Ty → Option Ty
element_at k zero element = None
element_at zero (suc n) element = Some element
element_at (suc k) (suc n) element = element_at k n element

-- the type at a position of the values of a type
abbrev pub part_type : List StructDef → ℕ → Ty-F Ty → Option Ty
part_type structs k (Ty-F.Scalar s) = None
part_type structs k (Ty-F.Struct s) = field_in structs k (Ty-F.Struct s)
part_type structs k (Ty-F.Array n element) = element_at k n element

-- the type at positions, from the outermost inwards
abbrev pub along : List StructDef → List ℕ → Ty → Option Ty
along structs [] ty = Some ty
along structs (k ∷ ks) ty = option_and_then (along structs ks) (part_type structs k (out-Ty ty))

pub along_both : (structs : List StructDef) (ks js : List ℕ) (ty : Ty) →
    along structs (ks ++ js) ty ≡ option_and_then (along structs js) (along structs ks ty)
along_both structs [] js ty = refl
along_both structs (k ∷ ks) js ty = by (part_type structs k (out-Ty ty)) (along_both structs ks js)
  where
    by : (o : Option Ty) → ((c : Ty) → along structs (ks ++ js) c ≡ option_and_then (along structs js) (along structs ks c)) →
        option_and_then (along structs (ks ++ js)) o ≡ option_and_then (along structs js) (option_and_then (along structs ks) o)
    by None inner = refl
    by (Some c) inner = inner c

-- ---- lists

get_past : {A : Type 0} (xs : List A) (j k : ℕ) → j ≡ length xs + k → slice_get xs j ≡ None
get_past [] zero k is = refl
get_past [] (suc j) k is = refl
get_past (x ∷ xs) zero k is = absurd (omega arith)
get_past (x ∷ xs) (suc j) k is = let less : j ≡ length xs + k = omega arith in get_past xs j k less

tests_none : (structs : List StructDef) (tests : List Test) (j k : ℕ) → slice_get structs k ≡ None → j ≡ length tests + k →
    slice_get (tests_after tests structs) j ≡ None
tests_none [] tests j k there is = get_past tests j k is
tests_none (def ∷ rest) tests j zero there is = absurd cc
tests_none (def ∷ rest) tests j (suc k) there is =
    let later : j ≡ length (tests ++ struct_test tests def ∷ []) + k = omega (arith, length-append tests (struct_test tests def ∷ [])) in
    tests_none rest (tests ++ struct_test tests def ∷ []) j k there later

pub pass_past : {X : Type 0} (test : X → Test) (xs : List X) (values : List Value) (k : ℕ) → pass (map test xs) values ≡ true →
    slice_get xs k ≡ None → slice_get values k ≡ None
pass_past test [] [] zero all past = refl
pass_past test [] [] (suc k) all past = refl
pass_past test [] (v ∷ values) k all past = absurd cc
pass_past test (x ∷ xs) [] k all past = absurd cc
pass_past test (x ∷ xs) (v ∷ values) zero all past = absurd cc
pass_past test (x ∷ xs) (v ∷ values) (suc k) all past =
    pass_past test xs values k (and_second (test x v) (pass (map test xs) values) all) past

-- an element that is there, or none
abbrev Element : List Value → ℕ → Ty → Type 0
Element all k element =
    ((slice_get all k ≡ None) × (element_at k (length all) element ≡ None))
    ⊎ ((old : Value) × (slice_get all k ≡ Some old) × (element_at k (length all) element ≡ Some element))

element_case : (all : List Value) (k : ℕ) (element : Ty) → Element all k element
element_case [] zero element = inl (refl, refl)
element_case [] (suc k) element = inl (refl, refl)
element_case (v ∷ all) zero element = inr (v, refl, refl)
element_case (v ∷ all) (suc k) element = element_case all k element

-- ---- one part

-- the value has a part of the type at the position, and may have any other of that type there
pub record HasPart (structs : List StructDef) (a c : Ty) (k : ℕ) (v : Value) : Type 0 where
  pub all : List Value
  pub old : Value
  pub parts : parts_in v ≡ Some all
  pub at : slice_get all k ≡ Some old
  pub fit : Fits structs c old
  pub puts : (new : Value) → Fits structs c new → Fits structs a (Parts (slice_set all k new))

-- there is such a part, or neither part nor type
abbrev PartCase : List StructDef → Ty → ℕ → Option Ty → Value → Type 0
PartCase structs a k found v =
    ((found ≡ None) × (part_of k v ≡ None)) ⊎ ((c : Ty) × (found ≡ Some c) × HasPart structs a c k v)

scalar_level : (tests : List Test) (ty : Ty) (s : ScalarType) (v : Value) → out-Ty ty ≡ Ty-F.Scalar s →
    fits_by tests ty v ≡ is_number_of s (out-Value v)
scalar_level tests ty s v is = rw (rolled ty (Ty-F.Scalar s) is, fold-roll-Ty) refl

part_none : (k : ℕ) (v : Value) (parts : Option (List Value)) → parts_in v ≡ parts →
    option_and_then (λ all. slice_get all k) parts ≡ None → part_of k v ≡ None
part_none k v parts is none = ap (option_and_then (λ all. slice_get all k)) is ∙ none

scalar_case : (structs : List StructDef) (a : Ty) (s : ScalarType) (k : ℕ) (v : Value) → out-Ty a ≡ Ty-F.Scalar s → Fits structs a v →
    part_of k v ≡ None
scalar_case structs a s k v is fit =
    by (out-Value v) refl (sym (scalar_level (tests_after [] structs) a s v is) ∙ fit)
  where
    by : (level : Value-F Value) → out-Value v ≡ level → is_number_of s level ≡ true → part_of k v ≡ None
    by (Value-F.Number n) e h = part_none k v None (ap parts_at e) refl
    by (Value-F.Parts all) e h = absurd cc

array_case : (structs : List StructDef) (a : Ty) (n : ℕ) (element : Ty) (k : ℕ) (v : Value) → out-Ty a ≡ Ty-F.Array n element →
    Fits structs a v →
    PartCase structs a k (element_at k n element) v
array_case structs a n element k v is fit = by (out-Value v) refl (sym (level v) ∙ fit)
  where
    test : Test
    test = value_fits structs element

    level : (v : Value) → value_fits structs a v ≡ are_elements n test (out-Value v)
    level v = fits_array (tests_after [] structs) a n element v is

    by : (layer : Value-F Value) → out-Value v ≡ layer → are_elements n test layer ≡ true → PartCase structs a k (element_at k n element) v
    by (Value-F.Number m) e h = absurd cc
    by (Value-F.Parts all) e h =
        let sized : nat_eq (length all) n ≡ true = and_first (nat_eq (length all) n) (list_all test all) h in
        let many : length all ≡ n = eqb-true (length all) n sized in
        let each : list_all test all ≡ true = and_second (nat_eq (length all) n) (list_all test all) h in
        subst (λ n. PartCase structs a k (element_at k n element) v) many (found sized each (element_case all k element))
      where
        found : nat_eq (length all) n ≡ true → list_all test all ≡ true → Element all k element →
            PartCase structs a k (element_at k (length all) element) v
        found sized each (inl none) = inl (none.1, part_none k v (Some all) (ap parts_at e) none.0)
        found sized each (inr (old, at, typed)) = inr (
          element,
          typed,
          record {
            all = all;
            old = old;
            parts = ap parts_at e;
            at = at;
            fit = all_at test all k old each at;
            puts = λ new one. level (Parts (slice_set all k new)) ∙ ap (are_elements n test) (outs-Parts (slice_set all k new))
                ∙ and_from (nat_eq (length (slice_set all k new)) n) (list_all test (slice_set all k new))
                (ap (λ m. nat_eq m n) (length-set all k new) ∙ sized) (all_set test all k new each one);
          },
        )

module _ (structs : List StructDef) (stand : structs_stand_from 0 structs ≡ true) where
  struct_case : (a : Ty) (s : ℕ) (k : ℕ) (v : Value) → out-Ty a ≡ Ty-F.Struct s → Fits structs a v →
      PartCase structs a k (field_in structs k (Ty-F.Struct s)) v
  struct_case a s k v is fit = by (slice_get structs s) refl
    where
      level : (v : Value) → value_fits structs a v ≡ by_test (slice_get (tests_after [] structs) s) v
      level v = fits_struct (tests_after [] structs) a s v is

      by : (found : Option StructDef) → slice_get structs s ≡ found →
          PartCase structs a k (option_and_then (λ (def : StructDef). option_map (λ (field : Field). field.ty) (slice_get def.fields k)) found) v
      by None there =
          let none : slice_get (tests_after [] structs) s ≡ None = tests_none structs [] s s there (omega arith) in
          let so : by_test None v ≡ true = ap (λ test. by_test test v) (sym none) ∙ sym (level v) ∙ fit in
          absurd cc
      by (Some def) there = of_parts (out-Value v) refl (sym (levels v) ∙ fit)
        where
          tests : List Test
          tests = tests_after [] (take s structs)

          test : Field → Test
          test field = fits_by tests field.ty

          levels : (v : Value) → value_fits structs a v ≡ are_fields (map test def.fields) (out-Value v)
          levels v = level v ∙ ap (λ test. by_test test v) (test_is structs s def there)

          of_parts : (layer : Value-F Value) → out-Value v ≡ layer → are_fields (map test def.fields) layer ≡ true →
              PartCase structs a k (option_map (λ (field : Field). field.ty) (slice_get def.fields k)) v
          of_parts (Value-F.Number m) e h = absurd cc
          of_parts (Value-F.Parts all) e h = of_field (slice_get def.fields k) refl
            where
              of_field : (field : Option Field) → slice_get def.fields k ≡ field →
                  PartCase structs a k (option_map (λ (field : Field). field.ty) field) v
              of_field None has = inl (refl, part_none k v (Some all) (ap parts_at e) (pass_past test def.fields all k h has))
              of_field (Some field) has =
                  let found = pass_at test def.fields all k field h has in
                  let within = slice_get_within structs s def there in
                  let stands : type_stands s field.ty ≡ true = all_at (λ (field : Field). type_stands s field.ty) def.fields k field
                  (structs_at structs 0 s s def stand there (omega arith)) has in
                  let same : fits_by tests field.ty ≡ value_fits structs field.ty = fits_before structs s field.ty (omega arith) stands in inr (
                    field.ty,
                    refl,
                    record {
                      all = all;
                      old = found.0;
                      parts = ap parts_at e;
                      at = found.1;
                      fit = sym (ap (λ (f : Test). f found.0) same) ∙ found.2;
                      puts = λ new one. levels (Parts (slice_set all k new)) ∙ ap (are_fields (map test def.fields)) (outs-Parts
                          (slice_set all k new))
                          ∙ pass_set test def.fields all k field new h has (ap (λ (f : Test). f new) same ∙ one);
                    },
                  )

  part_case : (a : Ty) (k : ℕ) (v : Value) → Fits structs a v → PartCase structs a k (part_type structs k (out-Ty a)) v
  part_case a k v fit = by (out-Ty a) refl
    where
      by : (layer : Ty-F Ty) → out-Ty a ≡ layer → PartCase structs a k (part_type structs k layer) v
      by (Ty-F.Scalar s) is = inl (refl, scalar_case structs a s k v is fit)
      by (Ty-F.Struct s) is = struct_case a s k v is fit
      by (Ty-F.Array n element) is = array_case structs a n element k v is fit

  -- ---- parts of parts

  -- what lies at the positions is of the type, and may be any other of it
  pub record Leads (a c : Ty) (ks : List ℕ) (v : Value) : Type 0 where
    pub old : Value
    pub at : value_at ks v ≡ Some old
    pub fit : Fits structs c old
    pub puts : (new : Value) → Fits structs c new → (made : Value) × (with_value_at ks new v ≡ Some made) × Fits structs a made

  abbrev pub AlongCase : Ty → List ℕ → Option Ty → Value → Type 0
  AlongCase a ks found v = ((found ≡ None) × (value_at ks v ≡ None)) ⊎ ((c : Ty) × (found ≡ Some c) × Leads a c ks v)

  -- the positions lead to a part of the type, or neither to a part nor to a type
  pub along_case : (ks : List ℕ) (a : Ty) (v : Value) → Fits structs a v → AlongCase a ks (along structs ks a) v
  along_case [] a v fit = inr (a, refl, record { old = v; at = refl; fit = fit; puts = λ new one. (new, refl, one) })
  along_case (k ∷ ks) a v fit = by (part_type structs k (out-Ty a)) (part_case a k v fit) (λ c old fit. along_case ks c old fit)
    where
      by : (found : Option Ty) → PartCase structs a k found v → ((c : Ty) (old : Value) → Fits structs c old →
          AlongCase c ks (along structs ks c) old) →
          AlongCase a (k ∷ ks) (option_and_then (along structs ks) found) v
      by found (inl none) inner = inl (ap (option_and_then (along structs ks)) none.0, ap (option_and_then (value_at ks)) none.1)
      by found (inr (c, is, part)) inner =
          subst (λ found. AlongCase a (k ∷ ks) (option_and_then (along structs ks) found) v) (sym is)
          (deeper (along structs ks c) (inner c part.old part.fit))
        where
          here : part_of k v ≡ Some part.old
          here = ap (option_and_then (λ all. slice_get all k)) part.parts ∙ part.at

          at_part : value_at (k ∷ ks) v ≡ value_at ks part.old
          at_part = ap (option_and_then (value_at ks)) here

          put_part : (new : Value) → with_value_at (k ∷ ks) new v ≡ option_map (λ p. Parts (slice_set part.all k p)) (with_value_at
              ks new part.old)
          put_part new =
              ap (option_and_then (λ all. option_and_then (λ old. option_map (λ p. Parts (slice_set all k p)) (with_value_at ks new old))
              (slice_get all k))) part.parts
              ∙ ap (option_and_then (λ old. option_map (λ p. Parts (slice_set part.all k p)) (with_value_at ks new old))) part.at

          deeper : (found : Option Ty) → AlongCase c ks found part.old → AlongCase a (k ∷ ks) found v
          deeper found (inl none) = inl (none.0, at_part ∙ none.1)
          deeper found (inr (b, so, more)) = inr (
            b,
            so,
            record {
              old = more.old;
              at = at_part ∙ more.at;
              fit = more.fit;
              puts = λ new one.
                  let made = more.puts new one in (
                    Parts (slice_set part.all k made.0),
                    put_part new ∙ ap (option_map (λ p. Parts (slice_set part.all k p))) made.1,
                    part.puts made.0 made.2,
                  );
            },
          )

  -- where the type is known there is a part
  pub along_leads : (ks : List ℕ) (a c : Ty) (v : Value) → Fits structs a v → along structs ks a ≡ Some c → Leads a c ks v
  along_leads ks a c v fit typed = by (along structs ks a) typed (along_case ks a v fit)
    where
      by : (found : Option Ty) → found ≡ Some c → AlongCase a ks found v → Leads a c ks v
      by found is (inl none) = let so : None ≡ Some c = sym none.0 ∙ is in absurd cc
      by found is (inr (b, so, leads)) = subst (λ c. Leads a c ks v) (one_some b c found so is) leads

  -- where there is a part its type is known
  pub along_there : (ks : List ℕ) (a : Ty) (v x : Value) → Fits structs a v → value_at ks v ≡ Some x →
      (c : Ty) × (along structs ks a ≡ Some c) × Fits structs c x
  along_there ks a v x fit there = by (along_case ks a v fit)
    where
      by : AlongCase a ks (along structs ks a) v → (c : Ty) × (along structs ks a ≡ Some c) × Fits structs c x
      by (inl none) = let so : None ≡ Some x = sym none.1 ∙ there in absurd cc
      by (inr (b, so, leads)) = (b, so, subst (Fits structs b) (one_some leads.old x (value_at ks v) leads.at there) leads.fit)
