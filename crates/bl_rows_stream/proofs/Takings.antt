-- Rows of a file that are gathered, from piece to piece.
use Rattle.std.proofs.Common.{◌≡◌, ℕ, ◌≤◌, ℤ, false, List, [], ◌++◌, length, Option, Some, None, IfSome, refl, ap, sym, subst, ◌∙◌, arith, append-nil}
use Rattle.bl_io.specs.Left.{IsKept}
use Rattle.bl_tree.specs.declared.row.Column.{Column}
use Rattle.bl_rows.specs.Reading.{Reading, RowsRead, empty_reading, fault_in, led_by_rows, read_on, rows_after, rows_in, rows_of}
use Rattle.bl_rows.specs.declared.fault.RowFault.{RowFault}
use Rattle.bl_rows_stream.specs.Gathered.{Gathers, broken, whole}
use Rattle.bl_rows_stream.specs.Streams.{AreLeft, HasRead}
use Rattle.bl_rows_stream.specs.declared.gathered.RowsEnd.{RowsEnd}
use Rattle.bl_rows_stream.specs.declared.gathered.RowsEnd.TheVariants.{Read, Unread}
use Rattle.bl_rows_stream.specs.inner.Taking.{Taken, TakesOn, at_fault}
use Rattle.bl_rows_stream.proofs.Fits.{lines-few, told-few}
use Rattle.bl_rows_stream.proofs.Reaches.{reads-low}
use Rattle.bl_rows_stream.proofs.Readers.{end-told, fed-first, fed-more, none-in, told-more}
use Rattle.bl_rows_stream.proofs.Steps.{rest-left}
use Rattle.bl_rows.proofs.Pieces.{stopped_told}

has-read-none : (all : Option (List ℕ)) → HasRead all [] all
has-read-none None = tt
has-read-none (Some bytes) = (bytes, (refl, refl))

-- a file that is as it was
pub kept-same : (held : Option (List ℕ)) → IsKept held held
kept-same None = tt
kept-same (Some bytes) = refl

-- before the first piece
pub taken-first : (ins : List Column) (all : Option (List ℕ)) (s : Reading) (rows : List (List ℤ)) → s ≡ empty_reading ins →
    ((bytes : List ℕ) → rows_after s bytes ≡ rows_of bytes ins) → rows ≡ [] → Taken ins all all s rows
taken-first ins all s rows is tells none = record {
  read = [];
  has_read = has-read-none all;
  fed = fed-first ins s is tells;
  are = none ∙ sym (none-in ins);
  low = let e = ap (λ (t : Reading). t.at.lines) is in omega arith;
  short = let e = ap (λ (t : Reading). length t.line) is in omega arith;
}

module _ (ins : List Column) (all left left2 : Option (List ℕ)) (s s2 : Reading) (rows rows2 : List (List ℤ)) (taken : Taken ins all left s rows)
    (piece : List ℕ) (read : HasRead all (taken.read ++ piece) left2) (grew : rows2 ≡ rows ++ rows_in s piece)
    (cuts : (rest : List ℕ) → rows_after s (piece ++ rest) ≡ led_by_rows (rows_in s piece) (rows_after s2 rest)) where
  both-rows : rows2 ≡ rows_in (empty_reading ins) taken.read ++ rows_in s piece
  both-rows = grew ∙ ap (λ first. first ++ rows_in s piece) taken.are

  -- a piece without a fault
  piece-good : fault_in s piece ≡ None → s2 ≡ read_on s piece →
      ((more : List ℕ) → (rows_in s (piece ++ more) ≡ rows_in s piece ++ rows_in s2 more) × (fault_in s (piece ++ more) ≡ fault_in s2 more)) →
      s2.ended ≡ false → length s2.line ≤ 65536 → Taken ins all left2 s2 rows2
  piece-good good on joins running short = record {
    read = taken.read ++ piece;
    has_read = read;
    fed = fed-more ins taken.read piece s s2 taken.fed good on cuts joins running;
    are = both-rows ∙ sym (taken.fed.rows piece);
    low = reads-low s s2 piece taken.low good on;
    short = short;
  }

  -- a piece with one
  piece-bad : (fault : RowFault) → s2.stop ≡ Some fault → Gathers ins all left2 rows2 (Read (Some fault))
  piece-bad fault stop =
      let rest = rest-left all left2 (taken.read ++ piece) read in
      let tells : rows_of ((taken.read ++ piece) ++ rest.0) ins
      ≡ led_by_rows (rows_in (empty_reading ins) taken.read ++ rows_in s piece) (record { rows = []; fault = Some fault }) =
      told-more ins taken.read piece rest.0 s s2 taken.fed (cuts rest.0)
      ∙ ap (led_by_rows (rows_in (empty_reading ins) taken.read ++ rows_in s piece)) (stopped_told s2 rest.0 fault stop) in
      whole ((taken.read ++ piece) ++ rest.0) rest.1
      (both-rows ∙ sym (append-nil (rows_in (empty_reading ins) taken.read ++ rows_in s piece)) ∙ sym (ap (λ (t : RowsRead). t.rows) tells))
      (sym (ap (λ (t : RowsRead). t.fault) tells))

  pub piece-takes : (fault : Option RowFault) → fault ≡ fault_in s piece → (fault ≡ None → s2 ≡ read_on s piece) →
      (fault ≡ None → (more : List ℕ) → (rows_in s (piece ++ more) ≡ rows_in s piece ++ rows_in s2 more)
      × (fault_in s (piece ++ more) ≡ fault_in s2 more)) → IfSome fault (λ f. s2.stop ≡ Some f) → s2.ended ≡ false → length s2.line ≤ 65536 →
      TakesOn ins all left2 s2 rows2 (at_fault fault)
  piece-takes None found on joins stop running short = piece-good (sym found) (on refl) (joins refl) running short
  piece-takes (Some fault) found on joins stop running short = piece-bad fault stop

-- the end of the file
pub end-takes : (ins : List Column) (all left2 : Option (List ℕ)) (s : Reading) (rows rows2 : List (List ℤ)) (left : Option (List ℕ)) →
    (taken : Taken ins all left s rows) → AreLeft all taken.read → rows2 ≡ rows ++ (rows_after s []).rows → (fault : Option RowFault) →
    fault ≡ (rows_after s []).fault → Gathers ins all left2 rows2 (Read fault)
end-takes ins all left2 s rows rows2 left taken are grew fault found =
    let tells = end-told ins taken.read s taken.fed in
    whole taken.read are (grew ∙ ap (λ first. first ++ (rows_after s []).rows) taken.are ∙ sym (ap (λ (t : RowsRead). t.rows) tells))
    (found ∙ sym (ap (λ (t : RowsRead). t.fault) tells))

-- a read that failed
pub unread-takes : (ins : List Column) (all left left2 : Option (List ℕ)) (s : Reading) (rows : List (List ℤ)) → Taken ins all left s rows →
    left2 ≡ left → Gathers ins all left2 rows Unread
unread-takes ins all left left2 s rows taken same =
    broken taken.read (subst (HasRead all taken.read) (sym same) taken.has_read) taken.fed.good taken.are (λ more.
    let tells = ap (λ (t : RowsRead). t.rows) (taken.fed.told more) in
    record { later = (rows_after s more).rows; are = tells ∙ ap (λ first. first ++ (rows_after s more).rows) (sym taken.are) })

-- no file has more rows
pub gathers-few : (ins : List Column) (left rest : Option (List ℕ)) (rows : List (List ℤ)) (end : RowsEnd) → Gathers ins left rest rows end →
    length rows ≤ 1000000
gathers-few ins left rest rows _ (whole bytes are is fault) = let few = told-few bytes ins in let same = ap length is in omega arith
gathers-few ins left rest rows _ (broken read handed good is leads) = let few = lines-few read ins in let same = ap length is in omega arith

-- rows go on where there is no fault
pub no-fault : (fault : Option RowFault) → at_fault fault ≡ None → fault ≡ None
no-fault None e = refl
no-fault (Some fault) e = cc
