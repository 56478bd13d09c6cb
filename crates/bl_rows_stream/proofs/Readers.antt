-- A reader from piece to piece.
use Rattle.std.proofs.Common.{◌≡◌, ℕ, ◌+◌, ◌≤◌, ℤ, false, List, [], ◌∷◌, ◌++◌, length, None, refl, ap, sym, subst, ◌∙◌, arith, append_assoc, append-nil}
use Rattle.std.proofs.Common.{length-append}
use Rattle.std.specs.List.{list_all}
use Rattle.std.proofs.lemmas.Bool.{and_from}
use Rattle.bl_tree.proofs.Basics.{and_first, and_second}
use Rattle.bl_tree.specs.declared.row.Column.{Column}
use Rattle.bl_rows.specs.Reading.{Reading, RowsRead, empty_reading, fault_in, led_by_rows, read_on, rows_after, rows_in, rows_of}
use Rattle.bl_rows_stream.specs.inner.Going.{HasFed}
use Rattle.bl_tree.specs.Ports.{RowsFit, row_fits}
use Rattle.bl_rows_stream.proofs.Fits.{fit-later, told-few, told-fits}
use Rattle.bl_rows_stream.proofs.Reaches.{line-on, lines-on}
use Rattle.bl_rows.proofs.Pieces.{stopped_told}

pub none-in : (ins : List Column) → rows_in (empty_reading ins) [] ≡ []
unfolding rows_in
none-in ins = refl

good-none : (ins : List Column) → fault_in (empty_reading ins) [] ≡ None
unfolding fault_in
good-none ins = refl

-- a reader that has read nothing
pub fed-first : (ins : List Column) (s : Reading) → s ≡ empty_reading ins → ((bytes : List ℕ) → rows_after s bytes ≡ rows_of bytes ins) → HasFed ins [] s
fed-first ins s is tells = record {
  told = λ rest. sym (tells rest) ∙ ap (λ rows. led_by_rows rows (rows_after s rest)) (sym (none-in ins));
  rows = λ more. ap (λ (r : Reading). rows_in r more) (sym is) ∙ ap (λ rows. rows ++ rows_in s more) (sym (none-in ins));
  fault = λ more. ap (λ (r : Reading). fault_in r more) (sym is);
  good = good-none ins;
  running = ap (λ (r : Reading). r.ended) is;
  lines = ap (λ (r : Reading). r.at.lines) is;
  line = ap (λ (r : Reading). r.line) is;
}

-- what a file tells whose next bytes are a piece
pub told-more : (ins : List Column) (read piece rest : List ℕ) (s s2 : Reading) → HasFed ins read s →
    rows_after s (piece ++ rest) ≡ led_by_rows (rows_in s piece) (rows_after s2 rest) →
    rows_of ((read ++ piece) ++ rest) ins ≡ led_by_rows (rows_in (empty_reading ins) read ++ rows_in s piece) (rows_after s2 rest)
told-more ins read piece rest s s2 fed cuts =
    ap (λ bytes. rows_of bytes ins) (append_assoc read piece rest) ∙ fed.told (piece ++ rest) ∙ ap (led_by_rows (rows_in (empty_reading ins) read)) cuts
    ∙ ap (λ rows. record { rows = rows; fault = (rows_after s2 rest).fault })
    (sym (append_assoc (rows_in (empty_reading ins) read) (rows_in s piece) (rows_after s2 rest).rows))

-- a piece without a fault
pub fed-more : (ins : List Column) (read piece : List ℕ) (s s2 : Reading) → HasFed ins read s → fault_in s piece ≡ None → s2 ≡ read_on s piece →
    ((rest : List ℕ) → rows_after s (piece ++ rest) ≡ led_by_rows (rows_in s piece) (rows_after s2 rest)) →
    ((more : List ℕ) → (rows_in s (piece ++ more) ≡ rows_in s piece ++ rows_in s2 more) × (fault_in s (piece ++ more) ≡ fault_in s2 more)) →
    s2.ended ≡ false → HasFed ins (read ++ piece) s2
fed-more ins read piece s s2 fed good on cuts joins running = record {
  told = λ rest. told-more ins read piece rest s s2 fed (cuts rest) ∙ ap (λ rows. led_by_rows rows (rows_after s2 rest)) (sym (fed.rows piece));
  rows = λ more.
      ap (rows_in (empty_reading ins)) (append_assoc read piece more) ∙ fed.rows (piece ++ more) ∙ ap (λ rows. rows_in (empty_reading ins) read ++ rows) (joins more).0
      ∙ sym (append_assoc (rows_in (empty_reading ins) read) (rows_in s piece) (rows_in s2 more)) ∙ ap (λ rows. rows ++ rows_in s2 more) (sym (fed.rows piece));
  fault = λ more. ap (fault_in (empty_reading ins)) (append_assoc read piece more) ∙ fed.fault (piece ++ more) ∙ (joins more).1;
  good = fed.fault piece ∙ good;
  running = running;
  lines = lines-on s s2 read piece fed.lines fed.line good on;
  line = line-on s s2 read piece fed.line on;
}

-- ---- rows that a piece makes whole, or that the file's end does

-- rows of a whole file, of which the first ones came before
pub later-fit : (ins : List Column) (bytes : List ℕ) (first later : List (List ℤ)) → (rows_of bytes ins).rows ≡ first ++ later → RowsFit ins later
later-fit ins bytes first later is = fit-later ins first later (subst (RowsFit ins) is (told-fits bytes ins))

pub later-few : (ins : List Column) (bytes : List ℕ) (first later : List (List ℤ)) → (rows_of bytes ins).rows ≡ first ++ later →
    length first + length later ≤ 1000000
later-few ins bytes first later is =
    let few = told-few bytes ins in
    let long = ap length is ∙ length-append first later in
    omega arith

-- those of a piece are among the file's, and so are the ones before it
pub piece-later : (ins : List Column) (read piece : List ℕ) (s s2 : Reading) → HasFed ins read s →
    rows_after s (piece ++ []) ≡ led_by_rows (rows_in s piece) (rows_after s2 []) →
    (rows_of ((read ++ piece) ++ []) ins).rows ≡ rows_in (empty_reading ins) read ++ (rows_in s piece ++ (rows_after s2 []).rows)
piece-later ins read piece s s2 fed cuts =
    ap (λ (t : RowsRead). t.rows) (told-more ins read piece [] s s2 fed cuts) ∙ append_assoc (rows_in (empty_reading ins) read) (rows_in s piece) (rows_after s2 []).rows

pub fit-first : (ins : List Column) (a b : List (List ℤ)) → RowsFit ins (a ++ b) → RowsFit ins a
fit-first ins [] b fit = refl
fit-first ins (row ∷ a) b fit =
    let first = and_first (row_fits ins row) (list_all (row_fits ins) (a ++ b)) fit in
    let rest = fit-first ins a b (and_second (row_fits ins row) (list_all (row_fits ins) (a ++ b)) fit) in
    and_from (row_fits ins row) (list_all (row_fits ins) a) first rest

pub piece-fits : (ins : List Column) (read piece : List ℕ) (s s2 : Reading) → HasFed ins read s →
    ((rest : List ℕ) → rows_after s (piece ++ rest) ≡ led_by_rows (rows_in s piece) (rows_after s2 rest)) → RowsFit ins (rows_in s piece)
piece-fits ins read piece s s2 fed cuts =
    fit-first ins (rows_in s piece) (rows_after s2 []).rows
    (later-fit ins ((read ++ piece) ++ []) (rows_in (empty_reading ins) read) (rows_in s piece ++ (rows_after s2 []).rows)
    (piece-later ins read piece s s2 fed (cuts [])))

pub piece-few : (ins : List Column) (read piece : List ℕ) (s s2 : Reading) → HasFed ins read s →
    ((rest : List ℕ) → rows_after s (piece ++ rest) ≡ led_by_rows (rows_in s piece) (rows_after s2 rest)) →
    length (rows_in (empty_reading ins) read) + length (rows_in s piece) ≤ 1000000
piece-few ins read piece s s2 fed cuts =
    let few = later-few ins ((read ++ piece) ++ []) (rows_in (empty_reading ins) read) (rows_in s piece ++ (rows_after s2 []).rows)
    (piece-later ins read piece s s2 fed (cuts [])) in
    let long = length-append (rows_in s piece) (rows_after s2 []).rows in
    omega arith

-- those of the end
pub end-told : (ins : List Column) (read : List ℕ) (s : Reading) → HasFed ins read s →
    rows_of read ins ≡ led_by_rows (rows_in (empty_reading ins) read) (rows_after s [])
end-told ins read s fed = ap (λ bytes. rows_of bytes ins) (sym (append-nil read)) ∙ fed.told []

pub end-fits : (ins : List Column) (read : List ℕ) (s : Reading) → HasFed ins read s → RowsFit ins (rows_after s []).rows
end-fits ins read s fed = later-fit ins read (rows_in (empty_reading ins) read) (rows_after s []).rows (ap (λ (t : RowsRead). t.rows) (end-told ins read s fed))

pub end-few : (ins : List Column) (read : List ℕ) (s : Reading) → HasFed ins read s →
    length (rows_in (empty_reading ins) read) + length (rows_after s []).rows ≤ 1000000
end-few ins read s fed = later-few ins read (rows_in (empty_reading ins) read) (rows_after s []).rows (ap (λ (t : RowsRead). t.rows) (end-told ins read s fed))
