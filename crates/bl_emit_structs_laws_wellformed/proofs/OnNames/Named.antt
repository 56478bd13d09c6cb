-- Types that have one name in C are one.
use Rattle.std.proofs.Common.{◌^◌, arith, ◌≡◌, ℕ, suc, zero, ◌<◌, Bool, true, false, not, ◌&&◌, if◌then◌else◌, List, [], ◌∷◌, ◌++◌, map, drop, length, Option}
use Rattle.std.proofs.Common.{Some, None, refl, sym, ap, subst, ◌∙◌}
use Rattle.std.proofs.lemmas.Bool.Decides.{nat_tests}
use Rattle.std.proofs.lemmas.Fmt.{decimal_injective, decimal_is_IsNumeral}
use Rattle.std.proofs.lemmas.Option.{same_Some}
use Rattle.std.proofs.lemmas.Slice.Eq.{bytes_eq-Decides}
use Rattle.std.specs.Fmt.{decimal}
use Rattle.std.specs.Prelude.{bytes_eq, nat_eq, nat_le, nat_lt}
use Rattle.std.specs.List.{list_all}
use Rattle.std.specs.Char.{digit_value}
use Rattle.std.specs.Str.Parse.{AllDigits}
use Rattle.std.proofs.lemmas.Bool.{and_from, or_left, or_right}
use Rattle.bl_tree.proofs.Basics.{and_first, and_second}
use Rattle.bl_tree.specs.declared.text.Text.{Text}
use Rattle.bl_tree.specs.declared.scalar.Scalar.{Scalar as ScalarType}
use Rattle.bl_tree.specs.declared.scalar.Scalar.TheVariants.{Bool as OfBool, Int, Nat, Bits}
use Rattle.bl_tree.specs.declared.scalar.Width.TheVariants.{W8, W16, W32, W64}
use Rattle.bl_tree.specs.declared.tree.StructDef.{StructDef}
use Rattle.bl_tree.specs.declared.tree.Ty.{Ty, ind-Ty, map-Ty, out-Ty, out-roll-Ty, roll-Ty, roll-out-Ty}
use Rattle.bl_tree.specs.declared.tree.Ty.TheOpen.{Ty-F}
use Rattle.bl_tree.specs.declared.tree.Unit.{Unit as UnitDef}
use Rattle.bl_tree.specs.Program.{IsWellTyped}
use Rattle.bl_tree.specs.Types.{type_stands}
use Rattle.bl_tree.specs.Words.{are_distinct}
use Rattle.bl_emit_acts.specs.Types.{array_name, definition_name, struct_name, type_name, type_word}
use Rattle.bl_emit_structs_laws_wellformed.proofs.OnNames.Known.{has_front}
use Rattle.bl_emit_structs_laws_wellformed.proofs.OnNames.Needed.{below, name_at, stands_at}
use Rattle.bl_emit_structs_laws_wellformed.proofs.OnFormed.Faultless.{has}

-- ---- the letter with which a name begins

-- 1 for the name of a struct, 2 for that of an array's, and else 0
kind_of : Text → ℕ
kind_of [] = 0
kind_of (c ∷ rest) = if nat_eq c 115 then 1 else if nat_eq c 114 then 2 else 0

word_kind : (s : ScalarType) → kind_of (type_word s) ≡ 0
unfolding kind_of
word_kind OfBool = refl
word_kind (Int W8) = refl
word_kind (Int W16) = refl
word_kind (Int W32) = refl
word_kind (Int W64) = refl
word_kind (Nat W8) = refl
word_kind (Nat W16) = refl
word_kind (Nat W32) = refl
word_kind (Nat W64) = refl
word_kind (Bits W8) = refl
word_kind (Bits W16) = refl
word_kind (Bits W32) = refl
word_kind (Bits W64) = refl

struct_kind : (name : Text) → kind_of (struct_name name) ≡ 1
unfolding kind_of
struct_kind name = refl

array_kind : (n : ℕ) (element : Text) → kind_of (array_name n element) ≡ 2
unfolding kind_of
array_kind n element = refl

-- ---- scalars

abbrev words : List (Text × ScalarType)
words =
    (type_word OfBool, OfBool) ∷ (type_word (Int W8), Int W8) ∷ (type_word (Int W16), Int W16) ∷ (type_word (Int W32), Int W32) ∷
    (type_word (Int W64), Int W64) ∷ (type_word (Nat W8), Nat W8) ∷ (type_word (Nat W16), Nat W16) ∷ (type_word (Nat W32), Nat W32) ∷
    (type_word (Nat W64), Nat W64) ∷ (type_word (Bits W8), Bits W8) ∷ (type_word (Bits W16), Bits W16) ∷ (type_word (Bits W32), Bits W32) ∷
    (type_word (Bits W64), Bits W64) ∷ []

abbrev first_of : List (Text × ScalarType) → Text → Option ScalarType
first_of [] name = None
first_of (entry ∷ rest) name = if bytes_eq entry.0 name then Some entry.1 else first_of rest name

word_back : (s : ScalarType) → first_of words (type_word s) ≡ Some s
word_back OfBool = refl
word_back (Int W8) = refl
word_back (Int W16) = refl
word_back (Int W32) = refl
word_back (Int W64) = refl
word_back (Nat W8) = refl
word_back (Nat W16) = refl
word_back (Nat W32) = refl
word_back (Nat W64) = refl
word_back (Bits W8) = refl
word_back (Bits W16) = refl
word_back (Bits W32) = refl
word_back (Bits W64) = refl

same_scalar : (s t : ScalarType) → type_word s ≡ type_word t → s ≡ t
same_scalar s t same = same_Some s t (sym (word_back s) ∙ ap (first_of words) same ∙ word_back t)

-- ---- structs

not_both : (b : Bool) → not b ≡ true → b ≡ true → ⊥
not_both true h k = let x : false ≡ true = h in cc
not_both false h k = let x : false ≡ true = k in cc

pub distinct_front : (xs ys : List Text) → are_distinct (xs ++ ys) ≡ true → are_distinct xs ≡ true
distinct_front [] ys h = refl
distinct_front (x ∷ xs) ys h =
    and_from (not (has x xs)) (are_distinct xs) (by (has x xs) refl) (distinct_front xs ys (and_second (not (has x (xs ++ ys))) (are_distinct (xs ++ ys)) h))
  where
    by : (b : Bool) → has x xs ≡ b → not b ≡ true
    by true is = absurd (not_both (has x (xs ++ ys)) (and_first (not (has x (xs ++ ys))) (are_distinct (xs ++ ys)) h) (has_front x xs ys is))
    by false is = refl

abbrev definition_names : List StructDef → List Text
definition_names structs = map (λ (def : StructDef). def.name) structs

name_there : (structs : List StructDef) (k : ℕ) → k < length structs → has (definition_name structs k) (definition_names structs) ≡ true
name_there [] k less = absurd (omega arith)
name_there (def ∷ rest) zero less = or_left (bytes_eq def.name def.name) _ ((bytes_eq-Decides def.name def.name).1 refl)
name_there (def ∷ rest) (suc k) less =
    let lt : k < length rest = omega arith in
    or_right (bytes_eq (definition_name rest k) def.name) _ (name_there rest k lt)

same_position : (structs : List StructDef) (j k : ℕ) → are_distinct (definition_names structs) ≡ true → j < length structs → k < length structs
    → definition_name structs j ≡ definition_name structs k → j ≡ k
same_position [] j k distinct less least same = absurd (omega arith)
same_position (def ∷ rest) zero zero distinct less least same = refl
same_position (def ∷ rest) zero (suc k) distinct less least same =
    let lt : k < length rest = omega arith in
    absurd (not_both (has def.name (definition_names rest)) (and_first _ (are_distinct (definition_names rest)) distinct)
    (subst (λ n. has n (definition_names rest) ≡ true) (sym same) (name_there rest k lt)))
same_position (def ∷ rest) (suc j) zero distinct less least same =
    let lt : j < length rest = omega arith in
    absurd (not_both (has def.name (definition_names rest)) (and_first _ (are_distinct (definition_names rest)) distinct)
    (subst (λ n. has n (definition_names rest) ≡ true) same (name_there rest j lt)))
same_position (def ∷ rest) (suc j) (suc k) distinct less least same =
    let lt : j < length rest = omega arith in
    let le : k < length rest = omega arith in
    ap suc (same_position rest j k (and_second (not (has def.name (definition_names rest))) _ distinct) lt le same)

-- ---- arrays

abbrev is_other : ℕ → Bool
is_other c = not (nat_eq c 95)

-- what stands before the first `_`, and behind it
abbrev front : List ℕ → List ℕ
front [] = []
front (c ∷ rest) = if is_other c then c ∷ front rest else []

abbrev back : List ℕ → List ℕ
back [] = []
back (c ∷ rest) = if is_other c then back rest else rest

digit_other : (c : ℕ) → digit_value c < 10 → is_other c ≡ true
digit_other c h = grind (arith, nat_tests)

all_other : (ds : List ℕ) → AllDigits 10 ds → list_all is_other ds ≡ true
all_other [] h = refl
all_other (c ∷ rest) h = and_from (is_other c) (list_all is_other rest) (digit_other c h.0) (all_other rest h.1)

front_is : (ds more : List ℕ) → list_all is_other ds ≡ true → front (ds ++ 95 ∷ more) ≡ ds
front_is [] more h = refl
front_is (c ∷ ds) more h =
    ap (λ b. if b then c ∷ front (ds ++ 95 ∷ more) else []) (and_first (is_other c) (list_all is_other ds) h)
    ∙ ap (λ rest. c ∷ rest) (front_is ds more (and_second (is_other c) (list_all is_other ds) h))

back_is : (ds more : List ℕ) → list_all is_other ds ≡ true → back (ds ++ 95 ∷ more) ≡ more
back_is [] more h = refl
back_is (c ∷ ds) more h =
    ap (λ b. if b then back (ds ++ 95 ∷ more) else ds ++ 95 ∷ more) (and_first (is_other c) (list_all is_other ds) h)
    ∙ back_is ds more (and_second (is_other c) (list_all is_other ds) h)

decimal_other : (n : ℕ) → n < 2 ^ 64 → list_all is_other (decimal n) ≡ true
decimal_other n h = let k = decimal_is_IsNumeral n h in all_other (decimal n) k.0.1

small : (n : ℕ) → (nat_le 1 n && nat_le n 65536) ≡ true → n < 2 ^ 64
small n h = let le : nat_le n 65536 ≡ true = and_second (nat_le 1 n) (nat_le n 65536) h in grind (arith, nat_tests)

same_length : (n m : ℕ) (a b : Text) → n < 2 ^ 64 → m < 2 ^ 64 → array_name n a ≡ array_name m b → n ≡ m
same_length n m a b less least same =
    decimal_injective n m less least
    (sym (front_is (decimal n) a (decimal_other n less)) ∙ ap (λ name. front (drop 1 name)) same ∙ front_is (decimal m) b (decimal_other m least))

same_element : (n m : ℕ) (a b : Text) → n < 2 ^ 64 → m < 2 ^ 64 → array_name n a ≡ array_name m b → a ≡ b
same_element n m a b less least same =
    sym (back_is (decimal n) a (decimal_other n less)) ∙ ap (λ name. back (drop 1 name)) same ∙ back_is (decimal m) b (decimal_other m least)

-- ---- types

differ : {A : Type 0} (a b : Text) (j k : ℕ) → kind_of a ≡ j → kind_of b ≡ k → nat_eq j k ≡ false → a ≡ b → A
differ a b j k one other apart same =
    let equal : j ≡ k = sym one ∙ ap kind_of same ∙ other in
    absurd (let x : nat_eq j j ≡ false = ap (nat_eq j) equal ∙ apart in grind (arith, nat_tests, x))

module _ (structs : List StructDef) (distinct : are_distinct (definition_names structs) ≡ true) where
  abbrev name : Ty → Text
  name = type_name structs

  abbrev stands : Ty → Bool
  stands = type_stands (length structs)

  abbrev Alone : Ty → Type 0
  Alone a = (b : Ty) → stands a ≡ true → stands b ≡ true → name a ≡ name b → a ≡ b

  back_to : (b : Ty) (layer : Ty-F Ty) → out-Ty b ≡ layer → roll-Ty layer ≡ b
  back_to b layer is = ap roll-Ty (sym is) ∙ roll-out-Ty b

  alone_by : (layer : Ty-F ((ty : Ty) × Alone ty)) → Alone (roll-Ty (map-Ty ((ty : Ty) × Alone ty) Ty (λ e. e.0) layer))
  alone_by (Ty-F.Scalar s) b first second same = by (out-Ty b) refl
    where
      own : name (roll-Ty (Ty-F.Scalar s)) ≡ type_word s
      own = name_at structs (roll-Ty (Ty-F.Scalar s)) (Ty-F.Scalar s) (out-roll-Ty (Ty-F.Scalar s))

      by : (layer : Ty-F Ty) → out-Ty b ≡ layer → roll-Ty (Ty-F.Scalar s) ≡ b
      by (Ty-F.Scalar t) is =
          let equal : s ≡ t = same_scalar s t (sym own ∙ same ∙ name_at structs b (Ty-F.Scalar t) is) in
          ap (λ x. roll-Ty (Ty-F.Scalar x)) equal ∙ back_to b (Ty-F.Scalar t) is
      by (Ty-F.Struct k) is = differ (type_word s) _ 0 1 (word_kind s) (struct_kind (definition_name structs k)) refl
          (sym own ∙ same ∙ name_at structs b (Ty-F.Struct k) is)
      by (Ty-F.Array m f) is = differ (type_word s) _ 0 2 (word_kind s) (array_kind m (name f)) refl
          (sym own ∙ same ∙ name_at structs b (Ty-F.Array m f) is)
  alone_by (Ty-F.Struct j) b first second same = by (out-Ty b) refl
    where
      own : name (roll-Ty (Ty-F.Struct j)) ≡ struct_name (definition_name structs j)
      own = name_at structs (roll-Ty (Ty-F.Struct j)) (Ty-F.Struct j) (out-roll-Ty (Ty-F.Struct j))

      less : nat_lt j (length structs) ≡ true
      less = sym (stands_at structs (length structs) (roll-Ty (Ty-F.Struct j)) (Ty-F.Struct j) (out-roll-Ty (Ty-F.Struct j))) ∙ first

      by : (layer : Ty-F Ty) → out-Ty b ≡ layer → roll-Ty (Ty-F.Struct j) ≡ b
      by (Ty-F.Scalar t) is = differ (struct_name (definition_name structs j)) _ 1 0 (struct_kind (definition_name structs j)) (word_kind t) refl
          (sym own ∙ same ∙ name_at structs b (Ty-F.Scalar t) is)
      by (Ty-F.Struct k) is =
          let least : nat_lt k (length structs) ≡ true = sym (stands_at structs (length structs) b (Ty-F.Struct k) is) ∙ second in
          let names : struct_name (definition_name structs j) ≡ struct_name (definition_name structs k) =
          sym own ∙ same ∙ name_at structs b (Ty-F.Struct k) is in
          let equal : j ≡ k = same_position structs j k distinct (below structs j (length structs) less) (below structs k (length structs) least)
          (ap (drop 2) names) in
          ap (λ x. roll-Ty (Ty-F.Struct x)) equal ∙ back_to b (Ty-F.Struct k) is
      by (Ty-F.Array m f) is = differ (struct_name (definition_name structs j)) _ 1 2 (struct_kind (definition_name structs j)) (array_kind m (name f)) refl
          (sym own ∙ same ∙ name_at structs b (Ty-F.Array m f) is)
  alone_by (Ty-F.Array n e) b first second same = by (out-Ty b) refl
    where
      own : name (roll-Ty (Ty-F.Array n e.0)) ≡ array_name n (name e.0)
      own = name_at structs (roll-Ty (Ty-F.Array n e.0)) (Ty-F.Array n e.0) (out-roll-Ty (Ty-F.Array n e.0))

      fits : ((nat_le 1 n && nat_le n 65536) && stands e.0) ≡ true
      fits = sym (stands_at structs (length structs) (roll-Ty (Ty-F.Array n e.0)) (Ty-F.Array n e.0) (out-roll-Ty (Ty-F.Array n e.0))) ∙ first

      by : (layer : Ty-F Ty) → out-Ty b ≡ layer → roll-Ty (Ty-F.Array n e.0) ≡ b
      by (Ty-F.Scalar t) is = differ (array_name n (name e.0)) _ 2 0 (array_kind n (name e.0)) (word_kind t) refl
          (sym own ∙ same ∙ name_at structs b (Ty-F.Scalar t) is)
      by (Ty-F.Struct k) is = differ (array_name n (name e.0)) _ 2 1 (array_kind n (name e.0)) (struct_kind (definition_name structs k)) refl
          (sym own ∙ same ∙ name_at structs b (Ty-F.Struct k) is)
      by (Ty-F.Array m f) is =
          let other : ((nat_le 1 m && nat_le m 65536) && stands f) ≡ true = sym (stands_at structs (length structs) b (Ty-F.Array m f) is) ∙ second in
          let names : array_name n (name e.0) ≡ array_name m (name f) = sym own ∙ same ∙ name_at structs b (Ty-F.Array m f) is in
          let low : n < 2 ^ 64 = small n (and_first (nat_le 1 n && nat_le n 65536) (stands e.0) fits) in
          let high : m < 2 ^ 64 = small m (and_first (nat_le 1 m && nat_le m 65536) (stands f) other) in
          let equal : n ≡ m = same_length n m (name e.0) (name f) low high names in
          let elements : e.0 ≡ f =
          e.1 f (and_second (nat_le 1 n && nat_le n 65536) (stands e.0) fits) (and_second (nat_le 1 m && nat_le m 65536) (stands f) other)
          (same_element n m (name e.0) (name f) low high names) in
          (λ i. roll-Ty (Ty-F.Array (equal i) (elements i))) ∙ back_to b (Ty-F.Array m f) is

  pub alone : (a : Ty) → Alone a
  alone = ind-Ty Alone (λ x y is. subst (λ layer. Alone (roll-Ty layer)) is (alone_by y))

pub named_apart : (structs : List StructDef) (units : List UnitDef) (entry : ℕ) (a b : Ty) → IsWellTyped structs units entry
    → type_stands (length structs) a ≡ true → type_stands (length structs) b ≡ true → type_name structs a ≡ type_name structs b → a ≡ b
named_apart structs units entry a b keeps first second same =
    alone structs (distinct_front (definition_names structs) (map (λ (unit : UnitDef). unit.name) units) keeps.distinct) a b first second same
