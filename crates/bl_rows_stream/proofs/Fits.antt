-- Rows that are read fit, and there are no more of them than lines.
use Rattle.std.proofs.Common.{◌≡◌, ℕ, ◌+◌, ◌<◌, ◌≤◌, ℤ, pos, Bool, true, false, ◌&&◌, List, [], ◌∷◌, ◌++◌, length, Option, Some, None, refl, ap, subst, arith}
use Rattle.std.specs.Prelude.{nat_le, nat_lt, if◌then◌else◌}
use Rattle.std.specs.List.{list_all}
use Rattle.std.specs.Str.{bytes_eq}
use Rattle.std.specs.Str.Parse.{true_text, false_text}
use Rattle.std.proofs.lemmas.Bool.Decides.{nat_tests}
use Rattle.std.proofs.lemmas.Bool.{and_from}
use Rattle.bl_tree.proofs.Basics.{and_second}
use Rattle.bl_tree.specs.Scalar.{in_range}
use Rattle.bl_tree.specs.Ports.{RowsFit, row_fits}
use Rattle.bl_tree.specs.declared.row.Column.{Column}
use Rattle.bl_tree.specs.declared.scalar.Scalar.{Scalar}
use Rattle.bl_tree.specs.declared.scalar.Scalar.TheVariants.{Bool as OfBool, Int, Nat, Bits}
use Rattle.bl_rows.specs.Fields.{both, is_header, is_this_number, number_of, records_in, row_of, value_of, values_of, within}
use Rattle.bl_rows.specs.Lines.{lines_of, whole_lines}
use Rattle.bl_rows.specs.Reading.{Scan, at_start, bad_or, empty_reading, judged_line, judged_record, led_by_line, line_number, longest_line, numbers_or_bad}
use Rattle.bl_rows.specs.Reading.{over_limit, place_after, rows_in, rows_of, scan, verdict}
use Rattle.bl_rows.specs.declared.fault.RowFault.{RowFault}
use Rattle.bl_rows.specs.declared.fault.RowFault.TheVariants.{BadHeader, BadRow, LongLine}
use Rattle.bl_rows.specs.declared.verdict.RowPlace.{RowPlace}
use Rattle.bl_rows.specs.declared.verdict.Verdict.{Verdict}
use Rattle.bl_rows.specs.declared.verdict.Verdict.TheVariants.{Passed, Header, Numbers, Bad}

-- ---- numbers of fields

if-some : {A : Type 0} (b : Bool) (x y : A) → (if b then Some x else None) ≡ Some y → (b ≡ true) × (x ≡ y)
if-some true x y e = (refl, cc)
if-some false x y e = absurd (cc)

within-fits : (t : Scalar) (o : Option ℤ) (z : ℤ) → within t o ≡ Some z → in_range t z ≡ true
within-fits t None z e = absurd (cc)
within-fits t (Some x) z e =
    let p = if-some (in_range t x) x z e in
    subst (λ n. in_range t n ≡ true) p.1 p.0

truth-fits : (a b : Bool) (z : ℤ) → (if a then Some (pos 1) else if b then Some (pos 0) else None) ≡ Some z → in_range OfBool z ≡ true
truth-fits true b z e = let is : pos 1 ≡ z = cc in subst (λ n. in_range OfBool n ≡ true) is refl
truth-fits false true z e = let is : pos 0 ≡ z = cc in subst (λ n. in_range OfBool n ≡ true) is refl
truth-fits false false z e = absurd (cc)

value-fits : (t : Scalar) (field : List ℕ) (z : ℤ) → value_of t field ≡ Some z → in_range t z ≡ true
value-fits OfBool field z e = truth-fits (bytes_eq field true_text) (bytes_eq field false_text) z e
value-fits (Int w) field z e = within-fits (Int w) (number_of field) z e
value-fits (Nat w) field z e = within-fits (Nat w) (number_of field) z e
value-fits (Bits w) field z e = within-fits (Bits w) (number_of field) z e

-- ---- tests

-- ---- rows

abbrev Fits : List Column → List ℤ → Type 0
Fits columns row = row_fits columns row ≡ true

both-fits : (c : Column) (columns : List Column) (a : Option ℤ) (b : Option (List ℤ)) (row : List ℤ) → both a b ≡ Some row →
    ((z : ℤ) → a ≡ Some z → in_range c.ty z ≡ true) → ((zs : List ℤ) → b ≡ Some zs → Fits columns zs) → Fits (c ∷ columns) row
both-fits c columns None b row e first later = absurd (cc)
both-fits c columns (Some z) None row e first later = absurd (cc)
both-fits c columns (Some z) (Some zs) row e first later =
    let is : z ∷ zs ≡ row = cc in
    subst (Fits (c ∷ columns)) is (and_from (in_range c.ty z) (row_fits columns zs) (first z refl) (later zs refl))

values-fit : (columns : List Column) (fields : List (List ℕ)) (row : List ℤ) → values_of columns fields ≡ Some row → Fits columns row
values-fit [] [] row e = let is : [] ≡ row = cc in subst (Fits []) is refl
values-fit [] (f ∷ fields) row e = absurd (cc)
values-fit (c ∷ columns) [] row e = absurd (cc)
values-fit (c ∷ columns) (f ∷ fields) row e =
    both-fits c columns (value_of c.ty f) (values_of columns fields) row e (value-fits c.ty f) (values-fit columns fields)

numbered-fits : (columns : List Column) (b : Bool) (values : Option (List ℤ)) (row : List ℤ) →
    ((zs : List ℤ) → values ≡ Some zs → Fits columns zs) → (if b then values else None) ≡ Some row → Fits columns row
numbered-fits columns true values row fit e = fit row e
numbered-fits columns false values row fit e = absurd (cc)

row-fits : (columns : List Column) (n : ℕ) (fields : List (List ℕ)) (row : List ℤ) → row_of columns n fields ≡ Some row → Fits columns row
row-fits columns n [] row e = absurd (cc)
row-fits columns n (tick ∷ fields) row e = numbered-fits columns (is_this_number n (number_of tick)) (values_of columns fields) row
    (values-fit columns fields) e

judged-row : (columns : List Column) (line : ℕ) (o : Option (List ℤ)) (row : List ℤ) →
    ((zs : List ℤ) → o ≡ Some zs → Fits columns zs) → numbers_or_bad line o ≡ Numbers row → Fits columns row
judged-row columns line None row fit e = absurd (cc)
judged-row columns line (Some zs) row fit e = let is : zs ≡ row = cc in subst (Fits columns) is (fit zs refl)

header-fits : (columns : List Column) (line : ℕ) (b : Bool) (row : List ℤ) →
    (if b then Header else Bad (BadHeader line)) ≡ Numbers row → Fits columns row
header-fits columns line true row e = absurd (cc)
header-fits columns line false row e = absurd (cc)

record-fits : (columns : List Column) (ticks : Option ℕ) (line : ℕ) (fields : List (List ℕ)) (row : List ℤ) →
    judged_record columns ticks line fields ≡ Numbers row → Fits columns row
record-fits columns None line fields row e = header-fits columns line (is_header columns fields) row e
record-fits columns (Some t) line fields row e = judged-row columns line (row_of columns (t + 1) fields) row (row-fits columns (t + 1) fields) e

judged-fits : (columns : List Column) (at : RowPlace) (records : List (List (List ℕ))) (row : List ℤ) →
    judged_line columns at records ≡ Numbers row → Fits columns row
judged-fits columns at [] row e = absurd (cc)
judged-fits columns at (fields ∷ []) row e = record-fits columns at.ticks (line_number at) fields row e
judged-fits columns at (fields ∷ more ∷ others) row e = absurd (cc)

good-fits : (columns : List Column) (fault : Option RowFault) (found : Verdict) (row : List ℤ) →
    (found ≡ Numbers row → Fits columns row) → bad_or fault found ≡ Numbers row → Fits columns row
good-fits columns (Some fault) found row fit e = absurd (cc)
good-fits columns None found row fit e = fit e

verdict-fits : (columns : List Column) (at : RowPlace) (line : List ℕ) (row : List ℤ) → verdict columns at line ≡ Numbers row → Fits columns row
unfolding verdict
verdict-fits columns at line row e = good-fits columns (over_limit at (length line)) (judged_line columns at (records_in line)) row
    (judged-fits columns at (records_in line) row) e

-- ---- lines

led-fits : (columns : List Column) (at : RowPlace) (v : Verdict) (s : Scan) → ((row : List ℤ) → v ≡ Numbers row → Fits columns row) →
    RowsFit columns s.rows → RowsFit columns (led_by_line at v s).rows
led-fits columns at Passed s first later = later
led-fits columns at Header s first later = later
led-fits columns at (Numbers row) s first later = and_from (row_fits columns row) (list_all (row_fits columns) s.rows) (first row refl) later
led-fits columns at (Bad fault) s first later = refl

pub scan-fits : (columns : List Column) (at : RowPlace) (lines : List (List ℕ)) → RowsFit columns (scan columns at lines).rows
scan-fits columns at [] = refl
scan-fits columns at (line ∷ lines) =
    led-fits columns at (verdict columns at line) (scan columns (place_after at (verdict columns at line)) lines)
    (verdict-fits columns at line) (scan-fits columns (place_after at (verdict columns at line)) lines)

pub told-fits : (bytes : List ℕ) (columns : List Column) → RowsFit columns (rows_of bytes columns).rows
unfolding rows_of
told-fits bytes columns = scan-fits columns at_start (lines_of bytes)

pub lines-fit : (bytes : List ℕ) (columns : List Column) → RowsFit columns (rows_in (empty_reading columns) bytes)
unfolding rows_in
lines-fit bytes columns = scan-fits columns at_start (whole_lines bytes)

-- ---- how many

full-bad : (at : RowPlace) (line : List ℕ) (found : Verdict) (b : Bool) → nat_le 1000000 at.lines ≡ b →
    ((fault : RowFault) → bad_or (over_limit at (length line)) found ≡ Bad fault → ⊥) → at.lines < 1000000
full-bad at line found true e good =
    absurd (good (BadRow (line_number at)) (ap (λ b. bad_or
    (if b then Some (BadRow (line_number at)) else if nat_lt longest_line (length line) then Some (LongLine (line_number at)) else None) found) e))
full-bad at line found false e good = grind (arith, nat_tests)

pub lines-left : (columns : List Column) (at : RowPlace) (line : List ℕ) →
    ((fault : RowFault) → verdict columns at line ≡ Bad fault → ⊥) → at.lines < 1000000
unfolding verdict
lines-left columns at line good = full-bad at line (judged_line columns at (records_in line)) (nat_le 1000000 at.lines) refl good

led-few : (at : RowPlace) (v : Verdict) (s : Scan) → at.lines ≤ 1000000 →
    (((fault : RowFault) → v ≡ Bad fault → ⊥) → at.lines < 1000000) →
    ((place_after at v).lines ≤ 1000000 → length s.rows + (place_after at v).lines ≤ 1000000) →
    length (led_by_line at v s).rows + at.lines ≤ 1000000
led-few at Passed s low left later = let l = left (λ fault e. cc) in let h = later (omega arith) in omega arith
led-few at Header s low left later = let l = left (λ fault e. cc) in let h = later (omega arith) in omega arith
led-few at (Numbers row) s low left later = let l = left (λ fault e. cc) in let h = later (omega arith) in omega arith
led-few at (Bad fault) s low left later = omega arith

scan-few : (columns : List Column) (at : RowPlace) (lines : List (List ℕ)) → at.lines ≤ 1000000 →
    length (scan columns at lines).rows + at.lines ≤ 1000000
scan-few columns at [] low = omega arith
scan-few columns at (line ∷ lines) low =
    led-few at (verdict columns at line) (scan columns (place_after at (verdict columns at line)) lines) low (lines-left columns at line)
    (scan-few columns (place_after at (verdict columns at line)) lines)

pub told-few : (bytes : List ℕ) (columns : List Column) → length (rows_of bytes columns).rows ≤ 1000000
unfolding rows_of
told-few bytes columns = let h = scan-few columns at_start (lines_of bytes) (omega arith) in omega arith

pub lines-few : (bytes : List ℕ) (columns : List Column) → length (rows_in (empty_reading columns) bytes) ≤ 1000000
unfolding rows_in
lines-few bytes columns = let h = scan-few columns at_start (whole_lines bytes) (omega arith) in omega arith

-- ---- parts of rows

pub fit-later : (columns : List Column) (a b : List (List ℤ)) → RowsFit columns (a ++ b) → RowsFit columns b
fit-later columns [] b fit = fit
fit-later columns (row ∷ a) b fit = fit-later columns a b (and_second (row_fits columns row) (list_all (row_fits columns) (a ++ b)) fit)

-- ---- lengths

pub fits-long : (columns : List Column) (row : List ℤ) → Fits columns row → length row ≡ length columns
fits-long [] [] fit = refl
fits-long [] (z ∷ row) fit = absurd (cc)
fits-long (c ∷ columns) [] fit = absurd (cc)
fits-long (c ∷ columns) (z ∷ row) fit = let h = fits-long columns row (and_second (in_range c.ty z) (row_fits columns row) fit) in omega arith
