-- The fields of a record from a column on.
use Rattle.std.proofs.Common.{◌≡◌, ◌≢◌, ℕ, zero, suc, ◌+◌, ◌<◌, List, [], ◌∷◌, ◌++◌, length, get_or, drop, ap, refl, sym, ◌∙◌, Option, Some, None, option_map}
use Rattle.std.proofs.Common.{ℤ, arith, Bool, true, false, ◌&&◌, if◌then◌else◌, codes}
use Rattle.std.specs.List.{slice_get}
use Rattle.std.specs.Str.{bytes_eq}
use Rattle.bl_tree.proofs.Basics.{drop_next}
use Rattle.csv.specs.Records.{field_at}
use Rattle.bl_tree.specs.declared.row.Column.{Column}
use Rattle.bl_rows.specs.Fields.{both, value_of, values_of, is_header, are_names, row_of, is_this_number, number_of}
use Rattle.bl_rows.specs.inner.Found.{is_word}
use Rattle.bl_rows.proofs.Seq.{drop-got}

-- csv's place is std's
pub field_get : (fields : List (List ℕ)) (k : ℕ) → field_at fields k ≡ slice_get fields k
unfolding field_at
field_get [] k = refl
field_get (f ∷ fields) zero = refl
field_get (f ∷ fields) (suc k) = field_get fields k

dropped_none : {A : Type 0} (xs : List A) (j : ℕ) → slice_get xs j ≡ None → drop j xs ≡ []
dropped_none [] zero e = refl
dropped_none [] (suc j) e = refl
dropped_none (x ∷ xs) zero e = cc
dropped_none (x ∷ xs) (suc j) e = dropped_none xs j e

names_length : (columns : List Column) (fields : List (List ℕ)) → are_names columns fields ≡ true → length fields ≡ length columns
names_length [] [] e = refl
names_length [] (f ∷ fields) e = cc
names_length (c ∷ columns) [] e = cc
names_length (c ∷ columns) (f ∷ fields) e = ap suc (names_length columns fields (second (bytes_eq f c.name) _ e))
  where
    second : (a b : Bool) → (a && b) ≡ true → b ≡ true
    second true b e = e
    second false b e = cc

-- a record with another number of fields is no header
pub header_length : (columns : List Column) (fields : List (List ℕ)) → length fields ≢ length columns + 1 → false ≡ is_header columns fields
header_length columns [] h = refl
header_length columns (word ∷ names) h = unnamed (bytes_eq word (codes "tick")) (are_names columns names)
    (λ e. h (let q = names_length columns names e in omega arith))
  where
    unnamed : (a b : Bool) → b ≢ true → false ≡ (a && b)
    unnamed true true h = absurd (h refl)
    unnamed true false h = refl
    unnamed false b h = refl

-- one name more is compared
names_by : (columns : List Column) (fields : List (List ℕ)) (j : ℕ) (c : Column) (o : Option (List ℕ)) → slice_get fields j ≡ o
    → are_names (c ∷ columns) (drop j fields) ≡ (is_word c.name o && are_names columns (drop (j + 1) fields))
names_by columns fields j c None e = rw (dropped_none fields j e) refl
names_by columns fields j c (Some f) e = rw (drop-got fields j f e) refl

names_at : (columns : List Column) (fields : List (List ℕ)) (k j : ℕ) (c : Column) → k < length columns → c ≡ get_or columns k c
    → are_names (drop k columns) (drop j fields) ≡ (is_word c.name (slice_get fields j) && are_names (drop (k + 1) columns) (drop (j + 1) fields))
names_at columns fields k j c h e = rw (drop_next columns k c h e) (names_by (drop (k + 1) columns) fields j c (slice_get fields j) refl)

-- as the loop over the columns says it, where the field at hand isn't, or is, the name
pub names_differ : (columns list : List Column) (fields : List (List ℕ)) (k : ℕ) (c : Column) (word name : List ℕ)
    (same all : Bool) → list ≡ columns → k < length columns → c ≡ get_or list k c
    → word ≡ name → name ≡ (get_or list k c).name → same ≡ is_word word (slice_get fields (k + 1)) →
    all ≡ are_names (drop k columns) (drop (k + 1) fields) → same ≡ false → false ≡ all
names_differ columns list fields k c word name same all e h place e2 e3 tested so_far fails =
    let here : c ≡ get_or columns k c = rw e at place in
    let name_is : word ≡ c.name = e2 ∙ (e3 ∙ ap (λ (x : Column). x.name) (sym place)) in
    let failed : is_word c.name (slice_get fields (k + 1)) ≡ false = rw name_is at (sym tested ∙ fails) in
    sym (so_far ∙ (names_at columns fields k (k + 1) c h here ∙ rw failed refl))

pub names_agree : (columns list : List Column) (fields : List (List ℕ)) (k : ℕ) (c : Column) (word name : List ℕ)
    (same all : Bool) → list ≡ columns → k < length columns → c ≡ get_or list k c
    → word ≡ name → name ≡ (get_or list k c).name → same ≡ is_word word (slice_get fields (k + 1)) →
    all ≡ are_names (drop k columns) (drop (k + 1) fields) → same ≡ true
    → all ≡ are_names (drop (k + 1) columns) (drop (k + 1 + 1) fields)
names_agree columns list fields k c word name same all e h place e2 e3 tested so_far holds =
    let here : c ≡ get_or columns k c = rw e at place in
    let name_is : word ≡ c.name = e2 ∙ (e3 ∙ ap (λ (x : Column). x.name) (sym place)) in
    let passed : is_word c.name (slice_get fields (k + 1)) ≡ true = rw name_is at (sym tested ∙ holds) in
    so_far ∙ (names_at columns fields k (k + 1) c h here ∙ rw passed refl)

values_length : (columns : List Column) (fields : List (List ℕ)) → length fields ≢ length columns → values_of columns fields ≡ None
values_length [] [] h = absurd (h refl)
values_length [] (f ∷ fields) h = refl
values_length (c ∷ columns) [] h = refl
values_length (c ∷ columns) (f ∷ fields) h = rw (values_length columns fields (λ e. h (ap suc e))) (both_none (value_of c.ty f))
  where
    both_none : (o : Option ℤ) → both o None ≡ None
    both_none None = refl
    both_none (Some z) = refl

-- a record with another number of fields is no row
pub row_length : (columns : List Column) (n : ℕ) (fields : List (List ℕ)) → length fields ≢ length columns + 1 → None ≡ row_of columns n fields
row_length columns n [] h = refl
row_length columns n (tick ∷ fields) h = if_none (is_this_number n (number_of tick)) _ (values_length columns fields (λ e. h (omega arith)))
  where
    if_none : (b : Bool) (o : Option (List ℤ)) → o ≡ None → None ≡ (if b then o else None)
    if_none true o e = sym e
    if_none false o e = refl

-- numbers before those of the columns that are left
abbrev pub after_front : List ℤ → Option (List ℤ) → Option (List ℤ)
after_front zs o = option_map (λ ys. zs ++ ys) o
