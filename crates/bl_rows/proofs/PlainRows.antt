-- Plain lines, field by field.
use Rattle.std.proofs.Common.{◌≡◌, ℕ, suc, ◌+◌, ◌-◌, ◌*◌, ◌<◌, ◌≤◌, ◌==◌, List, [], ◌∷◌, ◌++◌, length, take, drop, get_or, slice_range, refl, ap, sym, ◌∙◌, Option, Some, None, option_map, ℤ, pos, neg_ℤ, Bool, true, false, not, ◌&&◌, arith, rules, add-one, drop-cons, append_assoc, append-nil, if◌then◌else◌, slice_set, length-drop}
use Rattle.std.specs.Char.{digit_value, is_ascii_digit}
use Rattle.std.specs.Str.{all_ascii_digits, bytes_eq}
use Rattle.std.specs.Str.Parse.{digits_value}
use Rattle.std.proofs.lemmas.Bool.Decides.{nat_tests}
use Rattle.std.proofs.lemmas.Slice.Eq.{bytes_eq-Decides}
use Rattle.std.proofs.lemmas.Int.Digits.{digits_value_push}
use Rattle.std.proofs.Math.Seq.{take-add, take-suc}
use Rattle.std.proofs.lemmas.List.{length-set, take_all, take_more_set}
use Rattle.csv.specs.Machine.{next_record}
use Rattle.csv.specs.Reading.{default_config}
use Rattle.csv.specs.declared.parser.State.{State}
use Rattle.csv.specs.declared.parser.State.TheVariants as st
use Rattle.bl_tree.specs.declared.row.Column.{Column}
use Rattle.bl_tree.specs.declared.scalar.Scalar.{Scalar}
use Rattle.bl_tree.specs.declared.scalar.Scalar.TheVariants.{Bool as OfBool}
use Rattle.bl_rows.specs.Lines.{has_feed}
use Rattle.bl_rows.specs.Fields.{both, is_this_number, number_of, number_of_digits, records_in, truth_of, value_of, values_of, within}
use Rattle.bl_rows.specs.inner.Plain.{AreDigits, IsNumber, IsPlainRow, IsValue, IsValueBehind, is_mark, is_unmarked}
use Rattle.bl_rows.proofs.Cuts.{feedless_append, or_false}
use Rattle.bl_rows.proofs.Plain.{HasBegun, IsPlain, at_end, comma, field_more, line_read, other}

-- ---- fields

-- no byte of a plain field is a mark
unmarked : (b : ℕ) (bytes : List ℕ) → is_unmarked (b ∷ bytes) ≡ true → (is_mark b ≡ false) × (is_unmarked bytes ≡ true)
unmarked b bytes h = parts (is_mark b) (is_unmarked bytes) h
  where
    parts : (m p : Bool) → (not m && p) ≡ true → (m ≡ false) × (p ≡ true)
    parts true p h = cc
    parts false p h = (refl, h)

plain_feedless : (a : List ℕ) → is_unmarked a ≡ true → has_feed a ≡ false
plain_feedless [] h = refl
plain_feedless (x ∷ a) h =
    let p = unmarked x a h in
    let q = or_false (x == 34) _ p.0 in
    let r = or_false (x == 13) _ q.1 in
    let s = or_false (x == 10) _ r.1 in
    rw (s.0, plain_feedless a p.1) refl

-- a digit is no mark
digit_unmarked : (b : ℕ) → is_ascii_digit b ≡ true → is_mark b ≡ false
digit_unmarked b h = grind (arith, nat_tests)

first_digit : (b : ℕ) (ds : List ℕ) → all_ascii_digits (b ∷ ds) ≡ true → (is_ascii_digit b ≡ true) × (all_ascii_digits ds ≡ true)
first_digit b ds h = parts (is_ascii_digit b) (all_ascii_digits ds) h
  where
    parts : (m p : Bool) → (m && p) ≡ true → (m ≡ true) × (p ≡ true)
    parts true p h = (refl, h)
    parts false p h = cc

pub digits_plain : (ds : List ℕ) → all_ascii_digits ds ≡ true → is_unmarked ds ≡ true
digits_plain [] h = refl
digits_plain (d ∷ ds) h = let p = first_digit d ds h in rw (digit_unmarked d p.0, digits_plain ds p.1) refl

-- one digit more
pub digits_more : (ds : List ℕ) (d : ℕ) → all_ascii_digits ds ≡ true → is_ascii_digit d ≡ true → all_ascii_digits (ds ++ d ∷ []) ≡ true
digits_more [] d h g = rw g refl
digits_more (c ∷ ds) d h g = let p = first_digit c ds h in rw (p.0, digits_more ds d p.1 g) refl

are_all : (ds : List ℕ) (n : ℕ) → number_of_digits ds ≡ Some n → all_ascii_digits ds ≡ true
are_all ds n h = first (all_ascii_digits ds) _ _ h
  where
    first : (a b : Bool) (m : ℕ) → (if a && b then Some m else None) ≡ Some n → a ≡ true
    first true b m h = refl
    first false b m h = cc

-- the number of digits is that of the field that they are
pub number_of_field : (ds : List ℕ) (n : ℕ) → number_of_digits ds ≡ Some n → number_of ds ≡ Some (pos n)
number_of_field [] n h = cc
number_of_field (d ∷ ds) n h =
    let digit = first_digit d ds (are_all (d ∷ ds) n h) in
    let sign : (d == 45) ≡ false = no_sign d digit.0 in
    rw (sign, h) refl
  where
    no_sign : (d : ℕ) → is_ascii_digit d ≡ true → (d == 45) ≡ false
    no_sign d h = grind (arith, nat_tests)

-- the bytes between two places, by the first of them
slice_first : (bytes : List ℕ) (start end : ℕ) → start < end → start < length bytes →
    slice_range bytes start end ≡ get_or bytes start 0 ∷ slice_range bytes (start + 1) end
slice_first bytes start end h g =
    let n : end - start ≡ suc (end - (start + 1)) = omega arith in
    rw (n, drop-cons bytes start 0 g, add-one) refl

pub digits_are_number : (bytes : List ℕ) (start number end : ℕ) (z : ℤ) → AreDigits bytes start number end → z ≡ pos number →
    IsNumber bytes start z end
digits_are_number bytes start number end z d e = record {
  onward = omega (arith, d.onward);
  inside = omega (arith, d.inside);
  plain = digits_plain (slice_range bytes start end) (are_all (slice_range bytes start end) number d.writes);
  writes = rw e (number_of_field (slice_range bytes start end) number d.writes);
}

pub minus_and_digits : (bytes : List ℕ) (start number end : ℕ) (z : ℤ) → start < length bytes → get_or bytes start 0 ≡ 45 →
    AreDigits bytes (start + 1) number end → z ≡ neg_ℤ (pos number)
    → IsNumber bytes start z end
minus_and_digits bytes start number end z inside minus d e =
    let field : slice_range bytes start end ≡ 45 ∷ slice_range bytes (start + 1) end =
    slice_first bytes start end (omega (arith, d.onward)) inside ∙ rw minus refl in
    record {
      onward = omega (arith, d.onward);
      inside = omega (arith, d.inside);
      plain =
          rw (field, digits_plain (slice_range bytes (start + 1) end) (are_all (slice_range bytes (start + 1) end) number d.writes)) refl;
      writes = rw (field, d.writes, e) refl;
    }

-- ---- lines

-- fields, each behind a comma, 44
abbrev pub behind : List (List ℕ) → List ℕ
behind [] = []
behind (f ∷ fields) = 44 ∷ (f ++ behind fields)

-- every field is plain
abbrev pub are_unmarked : List (List ℕ) → Bool
are_unmarked [] = true
are_unmarked (f ∷ fields) = is_unmarked f && are_unmarked fields

first_plain : (f : List ℕ) (fields : List (List ℕ)) → are_unmarked (f ∷ fields) ≡ true → (is_unmarked f ≡ true) × (are_unmarked fields ≡ true)
first_plain f fields h = parts (is_unmarked f) (are_unmarked fields) h
  where
    parts : (m p : Bool) → (m && p) ≡ true → (m ≡ true) × (p ≡ true)
    parts true p h = (refl, h)
    parts false p h = cc

plain_more : (fields : List (List ℕ)) (f : List ℕ) → are_unmarked fields ≡ true → is_unmarked f ≡ true → are_unmarked (fields ++ f ∷ []) ≡ true
plain_more [] f h g = rw g refl
plain_more (e ∷ fields) f h g = let p = first_plain e fields h in rw (p.0, plain_more fields f p.1 g) refl

behind_more : (fields : List (List ℕ)) (f : List ℕ) → behind (fields ++ f ∷ []) ≡ behind fields ++ (44 ∷ f)
behind_more [] f = rw append-nil refl
behind_more (e ∷ fields) f = rw (behind_more fields f, append_assoc e (behind fields) (44 ∷ f)) refl

behind_feedless : (fields : List (List ℕ)) → are_unmarked fields ≡ true → has_feed (behind fields) ≡ false
behind_feedless [] h = refl
behind_feedless (f ∷ fields) h =
    let p = first_plain f fields h in
    feedless_append f (behind fields) (plain_feedless f p.0) (behind_feedless fields p.1)

-- the state behind the bytes of a field
abbrev after_field : State → List ℕ → State
after_field s [] = s
after_field s (b ∷ bytes) = st.InField

begun_plain : (s : State) → HasBegun s → IsPlain s
begun_plain st.StartRecord h = absurd h
begun_plain st.StartField h = tt
begun_plain st.InField h = tt
begun_plain st.InQuoted h = absurd h
begun_plain st.AfterQuote h = absurd h
begun_plain st.InEscape h = absurd h
begun_plain st.InComment h = absurd h
begun_plain st.AfterCr h = absurd h

after_begun : (s : State) (f : List ℕ) → HasBegun s → HasBegun (after_field s f)
after_begun s [] h = h
after_begun s (b ∷ f) h = tt

after_two : (b : ℕ) (f : List ℕ) → after_field st.InField f ≡ st.InField
after_two b [] = refl
after_two b (c ∷ f) = refl

-- the bytes of a plain field join it
field_read : (f : List ℕ) (s : State) (fields : List (List ℕ)) (held rest : List ℕ) → IsPlain s → is_unmarked f ≡ true →
    next_record default_config s fields held (f ++ rest) ≡ next_record default_config (after_field s f) fields (held ++ f) rest
field_read [] s fields held rest h g = rw append-nil refl
field_read (b ∷ f) s fields held rest h g =
    let p = unmarked b f g in
    let q = or_false (b == 34) _ p.0 in
    let r = or_false (b == 13) _ q.1 in
    let t = or_false (b == 10) _ r.1 in
    other s b fields held (f ++ rest) h q.0 r.0 t.0 t.1
    ∙ (field_read f st.InField fields (held ++ b ∷ []) rest tt p.1
    ∙ (ap (λ u. next_record default_config u fields ((held ++ b ∷ []) ++ f) rest) (after_two b f)
    ∙ ap (λ l. next_record default_config st.InField fields l rest) (append_assoc held (b ∷ []) f)))

-- the fields behind a first one
fields_read : (fields : List (List ℕ)) (s : State) (done : List (List ℕ)) (held : List ℕ) → HasBegun s → are_unmarked fields ≡ true →
    next_record default_config s done held (behind fields) ≡ Some (done ++ held ∷ fields, st.StartRecord, [])
fields_read [] s done held h g = at_end s done held h
fields_read (f ∷ fields) s done held h g =
    let p = first_plain f fields g in
    comma s done held (f ++ behind fields) (begun_plain s h)
    ∙ (field_read f st.StartField (done ++ held ∷ []) [] (behind fields) tt p.0
    ∙ (fields_read fields (after_field st.StartField f) (done ++ held ∷ []) f (after_begun st.StartField f tt) p.1
    ∙ ap (λ l. let r : Option (List (List ℕ) × State × List ℕ) = Some (l, st.StartRecord, []) in r) (append_assoc done (held ∷ []) (f ∷ fields))))

-- the one record of a plain line
plain_record : (first : List ℕ) (fields : List (List ℕ)) → all_ascii_digits first ≡ true → 0 < length first → are_unmarked fields ≡ true →
    records_in (first ++ behind fields) ≡ (first ∷ fields) ∷ []
plain_record [] fields h some g = absurd (omega arith)
plain_record (d ∷ ds) fields h some g =
    line_read ((d ∷ ds) ++ behind fields) ((d ∷ ds) ∷ fields) (no_mark d (first_digit d ds h).0)
    (field_read (d ∷ ds) st.StartRecord [] [] (behind fields) tt (digits_plain (d ∷ ds) h)
    ∙ fields_read fields st.InField [] (d ∷ ds) tt g)
  where
    no_mark : (d : ℕ) → is_ascii_digit d ≡ true → (d == 239) ≡ false
    no_mark d h = grind (arith, nat_tests)

-- ---- values

-- the numbers of one column more
values_more : (columns : List Column) (fields : List (List ℕ)) (c : Column) (f : List ℕ) (zs : List ℤ) (z : ℤ) →
    values_of columns fields ≡ Some zs → value_of c.ty f ≡ Some z
    → values_of (columns ++ c ∷ []) (fields ++ f ∷ []) ≡ Some (zs ++ z ∷ [])
values_more [] [] c f [] z h g = rw g refl
values_more [] [] c f (y ∷ zs) z h g = cc
values_more [] (e ∷ fields) c f zs z h g = cc
values_more (b ∷ columns) [] c f zs z h g = cc
values_more (b ∷ columns) (e ∷ fields) c f zs z h g =
    joined (value_of b.ty e) (values_of columns fields) zs h (λ ys k. values_more columns fields c f ys z k g)
  where
    joined : (o : Option ℤ) (p : Option (List ℤ)) (zs : List ℤ) → both o p ≡ Some zs →
        ((ys : List ℤ) → p ≡ Some ys → values_of (columns ++ c ∷ []) (fields ++ f ∷ []) ≡ Some (ys ++ z ∷ []))
        → both o (values_of (columns ++ c ∷ []) (fields ++ f ∷ [])) ≡ Some (zs ++ z ∷ [])
    joined None p zs h k = cc
    joined (Some y) None zs h k = cc
    joined (Some y) (Some ys) [] h k = cc
    joined (Some y) (Some ys) (x ∷ zs) h k =
        let more = k ys refl in rw more (ap (λ (o : Option (List ℤ)). option_map (λ l. l ++ z ∷ []) o) h)

-- ---- a line that is read up to a place

-- the first k columns have their numbers from the fields up to a place, behind the number of the tick
pub record ReadUpTo (columns : List Column) (tick : ℕ) (bytes : List ℕ) (k end : ℕ) (row : List ℤ) : Type 0 where
  pub inside : end ≤ length bytes
  pub first : List ℕ
  pub fields : List (List ℕ)
  pub are : take end bytes ≡ first ++ behind fields
  pub digits : all_ascii_digits first ≡ true
  pub some : 0 < length first
  pub tick_is : is_this_number tick (number_of first) ≡ true
  pub plain : are_unmarked fields ≡ true
  pub values : values_of (take k columns) fields ≡ Some (take k row)
  pub size : length row ≡ length columns

-- nothing but the number of the tick was read
pub read_start : (columns : List Column) (tick : ℕ) (bytes : List ℕ) (number end : ℕ) (row : List ℤ) → AreDigits bytes 0 number end →
    number ≡ tick → length row ≡ length columns → ReadUpTo columns tick bytes 0 end row
read_start columns tick bytes number end row d e size =
    let all : end - 0 ≡ end = omega arith in
    let field : slice_range bytes 0 end ≡ take end bytes = rw all refl in
    let digits : number_of_digits (take end bytes) ≡ Some number = rw field at d.writes in
    record {
      inside = omega (arith, d.inside);
      first = take end bytes;
      fields = [];
      are = sym (append-nil (take end bytes));
      digits = are_all (take end bytes) number digits;
      some = nonempty (take end bytes) number digits;
      tick_is =
          rw (number_of_field (take end bytes) number digits, e) (search rules);
      plain = refl;
      values = refl;
      size = size;
    }
  where
    nonempty : (ds : List ℕ) (n : ℕ) → number_of_digits ds ≡ Some n → 0 < length ds
    nonempty [] n h = cc
    nonempty (d ∷ ds) n h = omega arith

-- a comma and a field more
front_more : (bytes : List ℕ) (at end : ℕ) → at + 1 ≤ end → at < length bytes → get_or bytes at 0 ≡ 44 →
    take end bytes ≡ take at bytes ++ (44 ∷ slice_range bytes (at + 1) end)
front_more bytes at end h inside comma =
    let whole : end ≡ at + (end - at) = omega arith in
    let rest : slice_range bytes at end ≡ 44 ∷ slice_range bytes (at + 1) end = slice_first bytes at end (omega arith) inside ∙ rw comma refl in
    ap (λ n. take n bytes) whole ∙ (take-add at (end - at) bytes ∙ ap (λ l. take at bytes ++ l) rest)

pub read_more : (columns : List Column) (tick : ℕ) (bytes : List ℕ) (k at end : ℕ) (row row2 : List ℤ) (c : Column) (t : Scalar) (n : ℤ) →
    ReadUpTo columns tick bytes k at row → k < length columns → c ≡ get_or columns k c → t ≡ c.ty
    → IsValueBehind t bytes at n end → row2 ≡ slice_set row k n → ReadUpTo columns tick bytes (k + 1) end row2
read_more columns tick bytes k at end row row2 c t n r within column ty v e =
    let field = slice_range bytes (at + 1) end in
    let value : value_of c.ty field ≡ Some n = rw ty at v.value.value in
    let more : take (k + 1) columns ≡ take k columns ++ c ∷ [] = rw add-one (take-suc columns k c within ∙ rw (sym column) refl) in
    let set : take (k + 1) row2 ≡ take k row ++ n ∷ [] = rw e (take_more_set row k n (omega (arith, r.size))) in
    record {
      inside = v.value.inside;
      first = r.first;
      fields = r.fields ++ field ∷ [];
      are =
          front_more bytes at end (omega (arith, v.value.onward)) v.before v.comma
          ∙ (ap (λ l. l ++ (44 ∷ field)) r.are ∙ (append_assoc r.first (behind r.fields) (44 ∷ field)
          ∙ ap (λ l. r.first ++ l) (sym (behind_more r.fields field))));
      digits = r.digits;
      some = r.some;
      tick_is = r.tick_is;
      plain = plain_more r.fields field r.plain v.value.plain;
      values = rw (more, set) (values_more (take k columns) r.fields c field (take k row) n r.values value);
      size = rw e (length-set row k n ∙ r.size);
    }

-- the line feed stands behind the last field
pub read_all : (columns : List Column) (tick : ℕ) (bytes : List ℕ) (k end : ℕ) (row : List ℤ) → ReadUpTo columns tick bytes k end row →
    length columns ≤ k → end < length bytes → get_or bytes end 0 ≡ 10 → IsPlainRow columns tick bytes row end
read_all columns tick bytes k end row r all inside feed =
    let values : values_of columns r.fields ≡ Some row =
    rw (take_all k columns all, take_all k row (omega (arith, r.size))) at r.values in
    record {
      inside = inside;
      feed = feed;
      whole = rw r.are (line_feedless r.first r.fields r.digits r.plain);
      fields = r.first ∷ r.fields;
      record_is = rw r.are (plain_record r.first r.fields r.digits r.some r.plain);
      row_is = rw (r.tick_is) values;
    }
  where
    line_feedless : (first : List ℕ) (fields : List (List ℕ)) → all_ascii_digits first ≡ true → are_unmarked fields ≡ true →
        has_feed (first ++ behind fields) ≡ false
    line_feedless first fields h g =
        feedless_append first (behind fields) (plain_feedless first (digits_plain first h)) (behind_feedless fields g)

-- ---- digits as they are read

pub value_more : (bytes : List ℕ) (start end n m : ℕ) → start ≤ end → end < length bytes → digits_value 10 (slice_range bytes start end) ≡ n
    → m ≡ n * 10 + digit_value (get_or bytes end 0) → digits_value 10 (slice_range bytes start (end + 1)) ≡ m
value_more bytes start end n m h g value e =
    rw (field_more bytes start end h g) (digits_value_push 10 (slice_range bytes start end) (get_or bytes end 0) ∙ rw value (sym e))

pub all_more : (bytes : List ℕ) (start end : ℕ) → start ≤ end → end < length bytes → all_ascii_digits (slice_range bytes start end) ≡ true
    → is_ascii_digit (get_or bytes end 0) ≡ true → all_ascii_digits (slice_range bytes start (end + 1)) ≡ true
all_more bytes start end h g all digit =
    rw (field_more bytes start end h g) (digits_more (slice_range bytes start end) (get_or bytes end 0) all digit)

-- ---- words

same_bytes : (a b : List ℕ) → bytes_eq a b ≡ true → a ≡ b
same_bytes a b h = (bytes_eq-Decides a b).0 h

-- a word that the bytes from a place on begin with
pub word_is_value : (bytes : List ℕ) (start : ℕ) (rest word : List ℕ) (z : ℤ) → rest ≡ drop start bytes → start ≤ length bytes →
    length word ≤ length rest → bytes_eq word (take (length word) rest) ≡ true → is_unmarked word ≡ true → truth_of word ≡ Some z →
    IsValue OfBool bytes start z (start + length word)
word_is_value bytes start rest word z from inside long same plain value =
    let size : start + length word - start ≡ length word = omega arith in
    let field : slice_range bytes start (start + length word) ≡ word =
    rw (size, ← from) (sym (same_bytes word (take (length word) rest) same)) in
    record {
      onward = omega arith;
      inside = omega (arith, length-drop start bytes, long, ap length from);
      plain = rw field plain;
      value = rw field value;
    }
