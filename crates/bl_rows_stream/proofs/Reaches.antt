-- How far a reader has come: each byte of a good piece moves it on.
use Rattle.std.proofs.Common.{◌≡◌, ℕ, ◌+◌, ◌*◌, ◌<◌, ◌≤◌, Bool, true, false, List, [], ◌∷◌, ◌++◌, length, Option, Some, None, refl, ap, sym, subst, ◌∙◌, arith}
use Rattle.std.proofs.Common.{length-append}
use Rattle.std.specs.Prelude.{nat_le, nat_lt, if◌then◌else◌, ◌==◌}
use Rattle.std.proofs.lemmas.Bool.Decides.{nat_tests}
use Rattle.bl_tree.specs.declared.row.Column.{Column}
use Rattle.bl_rows.specs.Fields.{records_in}
use Rattle.bl_rows.specs.Lines.{Cut, cut, has_feed, last_line, led_by_byte, lines_of, unfinished, whole_lines}
use Rattle.bl_rows.proofs.Cuts.{cut_append, cut_other, lines_append, or_false, unfinished_feedless}
use Rattle.bl_rows.specs.Reading.{Reading, Scan, at_start, bad_or, empty_reading, fault_in, fault_of_scan, judged_line, led_by_line, line_number}
use Rattle.bl_rows.specs.Reading.{most_lines, over_limit, overrun, place_after, read_on, scan, scanned, verdict}
use Rattle.bl_rows.specs.declared.fault.RowFault.{RowFault}
use Rattle.bl_rows.specs.declared.fault.RowFault.TheVariants.{BadRow, LongLine}
use Rattle.bl_rows.specs.declared.verdict.RowPlace.{RowPlace}
use Rattle.bl_rows.specs.declared.verdict.Verdict.{Verdict}
use Rattle.bl_rows.specs.declared.verdict.Verdict.TheVariants.{Passed, Header, Numbers, Bad}
use Rattle.bl_rows_stream.specs.inner.Going.{reach}
use Rattle.bl_rows_stream.proofs.Fits.{lines-left}
use Rattle.bl_rows.proofs.Pieces.{no_fault}

-- ---- bytes of lines, each with its line feed

abbrev bytes_in : List (List ℕ) → ℕ
bytes_in [] = 0
bytes_in (line ∷ lines) = length line + 1 + bytes_in lines

-- the bytes of a cut
abbrev size_of : Cut → ℕ
size_of c = bytes_in c.whole + length c.rest

led-size : (b : ℕ) (whole : List (List ℕ)) (rest : List ℕ) → size_of (led_by_byte b whole rest) ≡ bytes_in whole + length rest + 1
led-size b [] rest = omega arith
led-size b (line ∷ lines) rest = omega arith

cut-choice : (c : Bool) (b : ℕ) (bytes : List ℕ) → size_of (cut bytes) ≡ length bytes →
    size_of (if c then record { whole = [] ∷ (cut bytes).whole; rest = (cut bytes).rest } else led_by_byte b (cut bytes).whole
    (cut bytes).rest) ≡ length (b ∷ bytes)
cut-choice true b bytes same = omega arith
cut-choice false b bytes same = let e = led-size b (cut bytes).whole (cut bytes).rest in omega arith

cut-size : (bytes : List ℕ) → size_of (cut bytes) ≡ length bytes
cut-size [] = refl
cut-size (b ∷ bytes) = cut-choice (b == 10) b bytes (cut-size bytes)

-- ---- good lines

short-bad : (at : RowPlace) (line : List ℕ) (found : Verdict) (a b : Bool) → nat_le most_lines at.lines ≡ a →
    nat_lt 65536 (length line) ≡ b → ((f : RowFault) → bad_or (over_limit at (length line)) found ≡ Bad f → ⊥) → length line ≤ 65536
short-bad at line found true b e k good =
    absurd (good (BadRow (line_number at)) (ap (λ c. bad_or
    (if c then Some (BadRow (line_number at)) else if nat_lt 65536 (length line) then Some (LongLine (line_number at)) else None) found) e))
short-bad at line found false true e k good =
    absurd (good (LongLine (line_number at))
    (ap (λ c. bad_or (if c then Some (BadRow (line_number at)) else if nat_lt 65536 (length line) then Some (LongLine (line_number at)) else None) found) e
    ∙ ap (λ c. bad_or (if c then Some (LongLine (line_number at)) else None) found) k))
short-bad at line found false false e k good = grind (arith, nat_tests)

short-line : (columns : List Column) (at : RowPlace) (line : List ℕ) → ((f : RowFault) → verdict columns at line ≡ Bad f → ⊥) → length line ≤ 65536
unfolding verdict
short-line columns at line good = short-bad at line (judged_line columns at (records_in line)) (nat_le most_lines at.lines)
    (nat_lt 65536 (length line)) refl refl good

-- so many lines more, and no byte too many
record Comes (at : RowPlace) (bytes : ℕ) (later : RowPlace) : Type 0 where
  pub on : bytes + at.lines * 65537 ≤ later.lines * 65537
  pub low : later.lines ≤ 1000000

led-comes : (at : RowPlace) (v : Verdict) (s : Scan) (size bytes : ℕ) → (led_by_line at v s).fault ≡ None →
    (((f : RowFault) → v ≡ Bad f → ⊥) → (size ≤ 65536) × (at.lines < 1000000)) →
    ((place_after at v).lines ≤ 1000000 → s.fault ≡ None → Comes (place_after at v) bytes s.at) → Comes at (size + 1 + bytes) (led_by_line at v s).at
led-comes at Passed s size bytes none fits later =
    let f = fits (λ x e. cc) in
    let l = later (let h = f.1 in omega arith) none in
    let a = f.0 in
    let on = l.on in
    record { on = omega arith; low = l.low }
led-comes at Header s size bytes none fits later =
    let f = fits (λ x e. cc) in
    let l = later (let h = f.1 in omega arith) none in
    let a = f.0 in
    let on = l.on in
    record { on = omega arith; low = l.low }
led-comes at (Numbers row) s size bytes none fits later =
    let f = fits (λ x e. cc) in
    let l = later (let h = f.1 in omega arith) none in
    let a = f.0 in
    let on = l.on in
    record { on = omega arith; low = l.low }
led-comes at (Bad fault) s size bytes none fits later = absurd (cc)

scan-comes : (columns : List Column) (at : RowPlace) (lines : List (List ℕ)) → at.lines ≤ 1000000 →
    (scan columns at lines).fault ≡ None → Comes at (bytes_in lines) (scan columns at lines).at
scan-comes columns at [] low none = record { on = omega arith; low = low }
scan-comes columns at (line ∷ lines) low none =
    led-comes at (verdict columns at line) (scan columns (place_after at (verdict columns at line)) lines) (length line)
    (bytes_in lines) none (λ good. (short-line columns at line good, lines-left columns at line good))
    (scan-comes columns (place_after at (verdict columns at line)) lines)

-- ---- pieces

scanned-good : (s : Reading) (piece : List ℕ) → fault_in s piece ≡ None → (scanned s piece).fault ≡ None
unfolding fault_in
scanned-good s piece good =
    let later = (no_fault s.stop (fault_of_scan (scanned s piece) (unfinished (s.line ++ piece))) good).1 in
    (no_fault (scanned s piece).fault (overrun (scanned s piece).at (unfinished (s.line ++ piece))) later).0

piece-comes : (s : Reading) (piece : List ℕ) → s.at.lines ≤ 1000000 → fault_in s piece ≡ None →
    Comes s.at (bytes_in (whole_lines (s.line ++ piece))) (scanned s piece).at
piece-comes s piece low good = scan-comes s.columns s.at (whole_lines (s.line ++ piece)) low (scanned-good s piece good)

pub reads-low : (s s2 : Reading) (piece : List ℕ) → s.at.lines ≤ 1000000 → fault_in s piece ≡ None → s2 ≡ read_on s piece →
    s2.at.lines ≤ 1000000
unfolding read_on
reads-low s s2 piece low good is = subst (λ (r : Reading). r.at.lines ≤ 1000000) (sym is) (piece-comes s piece low good).low

pub reads-on : (s s2 : Reading) (piece : List ℕ) → s.at.lines ≤ 1000000 → fault_in s piece ≡ None → s2 ≡ read_on s piece →
    reach s + length piece ≤ reach s2
unfolding read_on
reads-on s s2 piece low good is =
    let on = (piece-comes s piece low good).on in
    let size = cut-size (s.line ++ piece) in
    let both = length-append s.line piece in
    let further : reach s + length piece ≤ reach (read_on s piece) = omega arith in
    subst (λ r. reach s + length piece ≤ reach r) (sym is) further

-- ---- how many lines were begun

-- each good line is counted
led-count : (at : RowPlace) (v : Verdict) (s : Scan) (more : ℕ) → (led_by_line at v s).fault ≡ None →
    (s.fault ≡ None → s.at.lines ≡ (place_after at v).lines + more) → (led_by_line at v s).at.lines ≡ at.lines + (more + 1)
led-count at Passed s more none later = let l = later none in omega (arith, l)
led-count at Header s more none later = let l = later none in omega (arith, l)
led-count at (Numbers row) s more none later = let l = later none in omega (arith, l)
led-count at (Bad fault) s more none later = absurd (cc)

scan-count : (columns : List Column) (at : RowPlace) (lines : List (List ℕ)) → (scan columns at lines).fault ≡ None →
    (scan columns at lines).at.lines ≡ at.lines + length lines
scan-count columns at [] none = omega arith
scan-count columns at (line ∷ lines) none =
    let l = led-count at (verdict columns at line) (scan columns (place_after at (verdict columns at line)) lines) (length lines) none
    (scan-count columns (place_after at (verdict columns at line)) lines) in omega (arith, l)

-- the fault of a next line of so many bytes, where the lines are used up or not
abbrev over_by : RowPlace → ℕ → Bool → Option RowFault
over_by at size full = if full then Some (BadRow (line_number at)) else if nat_lt 65536 size then Some (LongLine (line_number at)) else None

-- a line that is begun where no other may be shows it
room-left : (at : RowPlace) (size : ℕ) (full : Bool) → nat_le most_lines at.lines ≡ full → over_limit at size ≡ None → at.lines < 1000000
room-left at size true e none =
    absurd (let bad = ap (over_by at size) (sym e) ∙ none in cc)
room-left at size false e none = grind (arith, nat_tests)

last-room : (at : RowPlace) (rest : List ℕ) → at.lines ≤ 1000000 → overrun at rest ≡ None → at.lines + length (last_line rest) ≤ 1000000
last-room at [] low none = omega (arith, low)
last-room at (b ∷ rest) low none =
    let room = room-left at (length (b ∷ rest)) (nat_le most_lines at.lines) refl none in omega (arith, room)

-- bytes without a fault begin no line too many
pub few-lines : (ins : List Column) (read : List ℕ) → fault_in (empty_reading ins) read ≡ None → length (lines_of read) ≤ most_lines
unfolding fault_in
few-lines ins read good =
    let later = no_fault (scanned (empty_reading ins) read).fault (overrun (scanned (empty_reading ins) read).at (unfinished read)) good in
    let low = (scan-comes ins at_start (whole_lines read) (omega arith) later.0).low in
    let count = scan-count ins at_start (whole_lines read) later.0 in
    let room = last-room (scanned (empty_reading ins) read).at (unfinished read) low later.1 in
    let long = length-append (whole_lines read) (last_line (unfinished read)) in omega (arith, count, room, long)

-- the lines that are whole once a good piece was read, and the bytes after them
pub lines-on : (s s2 : Reading) (read piece : List ℕ) → s.at.lines ≡ length (whole_lines read) → s.line ≡ unfinished read → fault_in s piece ≡ None →
    s2 ≡ read_on s piece → s2.at.lines ≡ length (whole_lines (read ++ piece))
unfolding read_on
lines-on s s2 read piece lines line good is =
    let both : whole_lines (read ++ piece) ≡ whole_lines read ++ whole_lines (unfinished read ++ piece) =
    ap (λ (c : Cut). c.whole) (cut_append read piece) in
    ap (λ (r : Reading). r.at.lines) is ∙ scan-count s.columns s.at (whole_lines (s.line ++ piece)) (scanned-good s piece good)
    ∙ ap (λ n. n + length (whole_lines (s.line ++ piece))) lines
    ∙ ap (λ l. length (whole_lines read) + length (whole_lines (l ++ piece))) line
    ∙ sym (ap length both ∙ length-append (whole_lines read) (whole_lines (unfinished read ++ piece)))

pub line-on : (s s2 : Reading) (read piece : List ℕ) → s.line ≡ unfinished read → s2 ≡ read_on s piece → s2.line ≡ unfinished (read ++ piece)
unfolding read_on
line-on s s2 read piece line is =
    ap (λ (r : Reading). r.line) is ∙ ap (λ l. unfinished (l ++ piece)) line ∙ sym (ap (λ (c : Cut). c.rest) (cut_append read piece))

-- ---- how many lines a piece begins

many-bytes : (lines : List (List ℕ)) → length lines ≤ bytes_in lines
many-bytes [] = omega arith
many-bytes (line ∷ lines) = let few = many-bytes lines in omega (arith, few)

one-line : (rest : List ℕ) → length (last_line rest) ≤ length rest
one-line [] = omega arith
one-line (b ∷ rest) = omega arith

-- each byte begins one at most
lines-short : (bytes : List ℕ) → length (lines_of bytes) ≤ length bytes
lines-short bytes =
    let size = cut-size bytes in
    let few = many-bytes (whole_lines bytes) in
    let last = one-line (unfinished bytes) in
    let both = length-append (whole_lines bytes) (last_line (unfinished bytes)) in
    omega (arith, size, few, last, both)

led-lines : (b : ℕ) (whole : List (List ℕ)) (rest : List ℕ) (n : ℕ) → 1 ≤ n → length (whole ++ last_line rest) ≤ n →
    length ((led_by_byte b whole rest).whole ++ last_line (led_by_byte b whole rest).rest) ≤ n
led-lines b [] rest n one few = one
led-lines b (line ∷ lines) rest n one few = few

-- bytes of an unfinished line come before them
behind-lines : (line bytes : List ℕ) (n : ℕ) → has_feed line ≡ false → 1 ≤ n → length (lines_of bytes) ≤ n → length (lines_of (line ++ bytes)) ≤ n
behind-lines [] bytes n none one few = few
behind-lines (b ∷ line) bytes n none one few =
    let tests = or_false (b == 10) (has_feed line) none in
    subst (λ (c : Cut). length (c.whole ++ last_line c.rest) ≤ n) (sym (cut_other b (line ++ bytes) tests.0))
    (led-lines b (whole_lines (line ++ bytes)) (unfinished (line ++ bytes)) n one (behind-lines line bytes n tests.1 one few))

lines-by : (read piece : List ℕ) (most n : ℕ) → 1 ≤ n → length piece ≤ n → length (whole_lines read) + n ≤ most + 1 →
    length (lines_of (read ++ piece)) ≤ most + 1
lines-by read piece most n one long fits =
    let short = lines-short piece in
    let more = behind-lines (unfinished read) piece n (unfinished_feedless read) one (omega (arith, short, long)) in
    let same = ap length (lines_append read piece) in
    let both = length-append (whole_lines read) (lines_of (unfinished read ++ piece)) in
    omega (arith, more, same, both, fits)

-- a piece that has no more bytes than lines may still begin
pub piece-lines : (read piece : List ℕ) (most : ℕ) → length (whole_lines read) ≤ most → length (whole_lines read) + length piece ≤ most + 1 →
    length (lines_of (read ++ piece)) ≤ most + 1
piece-lines read [] most few fits = lines-by read [] most 1 (omega arith) (omega arith) (omega (arith, few))
piece-lines read (b ∷ piece) most few fits = lines-by read (b ∷ piece) most (length (b ∷ piece)) (omega arith) (omega arith) fits
