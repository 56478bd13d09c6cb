-- What a line is, by its limits and its records.
use Rattle.std.proofs.Common.{◌≡◌, ℕ, List, length, refl, sym, ◌∙◌, Some, None, ℤ, ◌++◌, [], ◌∷◌, ◌+◌, ◌<◌, ◌≤◌, arith, lit≤, append-nil, take, length-take, Option, IfSome}
use Rattle.std.proofs.lemmas.Bool.Decides.{nat_tests}
use Rattle.bl_rows.specs.inner.Plain.{IsPlainRow}
use Rattle.bl_rows.specs.inner.Steps.{IsNextRow, rows_by}
use Rattle.bl_tree.specs.declared.row.Column.{Column}
use Rattle.bl_rows.specs.declared.fault.RowFault.{RowFault}
use Rattle.bl_rows.specs.declared.verdict.Verdict.TheVariants.{Bad}
use Rattle.bl_rows.specs.declared.in_place.PlainRow.{PlainRow}
use Rattle.bl_rows.specs.declared.verdict.RowPlace.{RowPlace}
use Rattle.bl_rows.specs.Fields.{records_in}
use Rattle.bl_rows.specs.Reading.{Reading, verdict, over_limit, overrun, judged_line}

pub past_limit : (columns : List Column) (at : RowPlace) (line : List ℕ) (fault : RowFault) →
    over_limit at (length line) ≡ Some fault → verdict columns at line ≡ Bad fault
unfolding verdict
past_limit columns at line fault e = rw e refl

pub in_limit : (columns : List Column) (at : RowPlace) (line : List ℕ) → over_limit at (length line) ≡ None →
    verdict columns at line ≡ judged_line columns at (records_in line)
unfolding verdict
in_limit columns at line e = rw e refl

pub no_rows_past : (columns : List Column) (at : RowPlace) (line : List ℕ) (fault : RowFault) (rows : List (List ℤ)) →
    over_limit at (length line) ≡ Some fault → rows ≡ rows ++ rows_by (verdict columns at line)
no_rows_past columns at line fault rows e = rw (past_limit columns at line fault e) (sym (append-nil rows))

over_short : (at : RowPlace) (n : ℕ) → over_limit at n ≡ None → n ≤ 65536
over_short at n e = grind (arith, nat_tests)

-- an unfinished line that may go on is no longer than a line may be
pub kept_short : (at : RowPlace) (line : List ℕ) → overrun at line ≡ None → length line ≤ 65536
kept_short at [] e = lit≤ tt
kept_short at (b ∷ line) e = over_short at (length (b ∷ line)) e

-- ---- a plain row

in_limits : (at : RowPlace) (n : ℕ) → at.lines < 1000000 → n ≤ 65536 → over_limit at n ≡ None
in_limits at n h g = grind (arith, nat_tests)

next_row : (s : Reading) (t : ℕ) (bytes : List ℕ) (row : List ℤ) (end : ℕ) → s.line ≡ [] → s.at.lines < 1000000 → s.at.ticks ≡ Some t
    → end ≤ 65536 → IsPlainRow s.columns (t + 1) bytes row end → IsNextRow s bytes row end
next_row s t bytes row end empty few ticks short p =
    let size : length (take end bytes) ≤ 65536 = omega (arith, length-take end bytes) in
    record {
      unbegun = empty;
      lines = few;
      inside = p.inside;
      feed = p.feed;
      whole = p.whole;
      verdict_is =
          in_limit s.columns s.at (take end bytes) (in_limits s.at (length (take end bytes)) few size)
          ∙ rw (p.record_is, ticks, p.row_is) refl;
    }

pub next_found : (s : Reading) (columns : List Column) (at : RowPlace) (t : ℕ) (bytes : List ℕ) (found : Option PlainRow) (it : PlainRow) →
    s.columns ≡ columns → s.at ≡ at → s.line ≡ [] → at.lines < 1000000 → at.ticks ≡ Some t → it.end ≤ 65536 →
    IfSome found (λ p. IsPlainRow columns (t + 1) bytes p.row p.end) → found ≡ Some it → IsNextRow s bytes it.row it.end
next_found s columns at t bytes found it same_columns same_at empty few ticks short told e =
    let plain : IsPlainRow columns (t + 1) bytes it.row it.end = rw e at told in
    let own : IsPlainRow s.columns (t + 1) bytes it.row it.end = rw same_columns plain in
    next_row s t bytes it.row it.end empty (rw same_at few) (rw same_at ticks) short own
