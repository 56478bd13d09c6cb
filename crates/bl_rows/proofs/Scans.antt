-- What lines give, in parts.
use Rattle.std.proofs.Common.{◌≡◌, ℕ, List, [], ◌∷◌, ◌++◌, drop, refl, ap, sym, ◌∙◌, Bool, true, false, Option, Some, None, ℤ, append_assoc, append-nil}
use Rattle.std.proofs.Common.{is_none, is_some, not, Result, Ok, Err, OnOk, IfSome}
use Rattle.bl_tree.specs.declared.row.Column.{Column}
use Rattle.bl_rows.specs.declared.fault.RowFault.{RowFault}
use Rattle.bl_rows.specs.declared.verdict.Verdict.{Verdict}
use Rattle.bl_rows.specs.declared.verdict.Verdict.TheVariants.{Passed, Header, Numbers, Bad}
use Rattle.bl_rows.specs.declared.verdict.RowPlace.{RowPlace}
use Rattle.bl_rows.specs.Lines.{Cut, cut, whole_lines, unfinished, has_feed}
use Rattle.bl_rows.specs.Reading.{Reading, Scan, scan, scanned, verdict, overrun, place_after, led_by_line, earlier_fault, fault_in, rows_in, read_on, Front}
use Rattle.bl_rows.specs.inner.Steps.{TakesLine, fault_of, rows_by, left_after_stop, with_rows}
use Rattle.bl_rows.proofs.Cuts.{cut_line, cut_none, feedless_append}

-- what is left of the whole lines of a piece, for a reader in the midst of it
abbrev pub left : Reading → List ℕ → Scan
left s rest = left_after_stop s.stop s.at (scan s.columns s.at (whole_lines (s.line ++ rest)))

-- a reader in the midst of a piece: the rows handed over, and what is left
pub record Midst (before : Reading) (piece : List ℕ) (was now : List (List ℤ)) (s : Reading) (rest : List ℕ) : Type 0 where
  pub handed : List (List ℤ)
  pub grown : now ≡ was ++ handed
  pub gives : scanned before piece ≡ with_rows handed (left s rest)
  pub goes_on : s.stop ≡ None → unfinished (before.line ++ piece) ≡ unfinished (s.line ++ rest)
  pub columns : s.columns ≡ before.columns
  pub ended : s.ended ≡ before.ended

-- what one line gives, and what is left then
led : (columns columns2 : List Column) (at at2 : RowPlace) (v : Verdict) (stop2 : Option RowFault) (w w2 : List (List ℕ)) →
    stop2 ≡ fault_of v → at2 ≡ place_after at v → columns2 ≡ columns → (stop2 ≡ None → w2 ≡ w)
    → led_by_line at v (scan columns (place_after at v) w) ≡ with_rows (rows_by v) (left_after_stop stop2 at2 (scan columns2 at2 w2))
led columns columns2 at at2 Passed stop2 w w2 e g h k = rw (e, g, h, k e) refl
led columns columns2 at at2 Header stop2 w w2 e g h k = rw (e, g, h, k e) refl
led columns columns2 at at2 (Numbers row) stop2 w w2 e g h k = rw (e, g, h, k e) refl
led columns columns2 at at2 (Bad fault) stop2 w w2 e g h k = rw (e, g) refl

-- a whole line and the bytes after it
line_cut : (line front rest2 rest : List ℕ) → has_feed line ≡ false → has_feed front ≡ false → rest ≡ front ++ (10 ∷ rest2)
    → cut (line ++ rest) ≡ record { whole = (line ++ front) ∷ whole_lines rest2; rest = unfinished rest2 }
line_cut line front rest2 rest h g e = rw (e, ← append_assoc line front (10 ∷ rest2)) (cut_line (line ++ front) rest2 (feedless_append line front h g))

with_more : (a b : List (List ℤ)) (s : Scan) → with_rows a (with_rows b s) ≡ with_rows (a ++ b) s
with_more a b s = rw append_assoc refl

midst_line : (before : Reading) (piece : List ℕ) (was now now2 : List (List ℤ)) (s s2 : Reading) (rest front rest2 : List ℕ) →
    Midst before piece was now s rest → s.stop ≡ None
    → has_feed s.line ≡ false → has_feed front ≡ false → rest ≡ front ++ (10 ∷ rest2)
    → s2.stop ≡ fault_of (verdict s.columns s.at (s.line ++ front)) →
    s2.at ≡ place_after s.at (verdict s.columns s.at (s.line ++ front)) → now2 ≡ now ++ rows_by (verdict s.columns s.at (s.line ++ front))
    → (s2.stop ≡ None → s2.line ≡ []) → s2.columns ≡ s.columns → s2.ended ≡ s.ended → Midst before piece was now2 s2 rest2
midst_line before piece was now now2 s s2 rest front rest2 m running feedless front_feedless splits stop2 at2 rows2 line2 columns2 ended2 =
    let v = verdict s.columns s.at (s.line ++ front) in
    let cuts = line_cut s.line front rest2 rest feedless front_feedless splits in
    let first : left s rest ≡ led_by_line s.at v (scan s.columns (place_after s.at v) (whole_lines rest2)) =
    rw (running) (ap (λ (c : Cut). scan s.columns s.at c.whole) cuts) in
    let then : left s rest ≡ with_rows (rows_by v) (left s2 rest2) =
    first ∙ led s.columns s2.columns s.at s2.at v s2.stop (whole_lines rest2) (whole_lines (s2.line ++ rest2)) stop2 at2 columns2
    (λ e. ap (λ l. whole_lines (l ++ rest2)) (line2 e)) in
    record {
      handed = m.handed ++ rows_by v;
      grown = rows2 ∙ (ap (λ r. r ++ rows_by v) m.grown ∙ append_assoc was m.handed (rows_by v));
      gives = m.gives ∙ (ap (λ (c : Scan). with_rows m.handed c) then ∙ with_more m.handed (rows_by v) (left s2 rest2));
      goes_on = λ e. m.goes_on running ∙ (ap (λ (c : Cut). c.rest) cuts ∙ ap (λ l. unfinished (l ++ rest2)) (sym (line2 e)));
      columns = columns2 ∙ m.columns;
      ended = ended2 ∙ m.ended;
    }

midst_taken : (before : Reading) (piece : List ℕ) (was now now2 : List (List ℤ)) (s s2 : Reading) (rest rest2 : List ℕ) (taken : ℕ) →
    Midst before piece was now s rest → s.stop ≡ None → has_feed s.line ≡ false → rest2 ≡ drop taken rest →
    TakesLine s rest now taken now2 s2 → Midst before piece was now2 s2 rest2
midst_taken before piece was now now2 s s2 rest rest2 taken m running feedless left t =
    midst_line before piece was now now2 s s2 rest t.front rest2 m running feedless t.whole
    (t.splits ∙ ap (λ l. t.front ++ (10 ∷ l)) (sym left)) t.stop t.at t.rows t.line t.columns t.ended

pub midst_next : (before : Reading) (piece : List ℕ) (was now now2 : List (List ℤ)) (s s2 : Reading) (rest rest2 : List ℕ) (found : Option ℕ)
    (taken : ℕ) → Midst before piece was now s rest → s.stop ≡ None → has_feed s.line ≡ false → rest2 ≡ drop taken rest →
    IfSome found (λ n. TakesLine s rest now n now2 s2) → found ≡ Some taken → Midst before piece was now2 s2 rest2
midst_next before piece was now now2 s s2 rest rest2 found taken m running feedless left t e =
    let line : TakesLine s rest now taken now2 s2 = rw e at t in
    midst_taken before piece was now now2 s s2 rest rest2 taken m running feedless left line

pub midst_same : (before : Reading) (piece : List ℕ) (was now now2 : List (List ℤ)) (s s2 : Reading) (rest : List ℕ) →
    Midst before piece was now s rest → s2 ≡ s → now2 ≡ now → Midst before piece was now2 s2 rest
midst_same before piece was now now2 s s2 rest m e g = rw (e, g) m

pub rows_of_scan : (before : Reading) (piece : List ℕ) → before.stop ≡ None → rows_in before piece ≡ (scanned before piece).rows
unfolding rows_in
rows_of_scan before piece running = rw running refl

pub midst_front : (before : Reading) (piece : List ℕ) (was now : List (List ℤ)) (s : Reading) (rest : List ℕ) → before.stop ≡ None →
    Midst before piece was now s rest
    → Front was now (rows_in before piece)
midst_front before piece was now s rest running m =
    record { handed = m.handed; left = (left s rest).rows; grown = m.grown; front = rows_of_scan before piece running ∙ ap (λ (c : Scan). c.rows) m.gives }

-- rows that were all handed over
pub midst_rows : (before : Reading) (piece : List ℕ) (was now : List (List ℤ)) (s : Reading) (rest : List ℕ) → before.stop ≡ None →
    Midst before piece was now s rest → (left s rest).rows ≡ []
    → now ≡ was ++ rows_in before piece
midst_rows before piece was now s rest running m none =
    m.grown ∙ ap (λ r. was ++ r) (sym (rows_of_scan before piece running
    ∙ (ap (λ (c : Scan). c.rows) m.gives ∙ (ap (λ r. m.handed ++ r) none ∙ append-nil m.handed))))

stopped_rows : (stop : Option RowFault) (at : RowPlace) (c : Scan) → is_none stop ≡ false → (left_after_stop stop at c).rows ≡ []
stopped_rows None at c h = cc
stopped_rows (Some fault) at c h = refl

stopped_fault : (stop : Option RowFault) (at : RowPlace) (c : Scan) → is_none stop ≡ false → (rest : Option RowFault) →
    earlier_fault (left_after_stop stop at c).fault rest ≡ stop
stopped_fault None at c h rest = cc
stopped_fault (Some fault) at c h rest = refl

pub midst_stopped_rows : (before : Reading) (piece : List ℕ) (was now : List (List ℤ)) (s : Reading) (rest : List ℕ) →
    before.stop ≡ None → Midst before piece was now s rest → is_none s.stop ≡ false
    → now ≡ was ++ rows_in before piece
midst_stopped_rows before piece was now s rest running m h = midst_rows before piece was now s rest running m (stopped_rows s.stop s.at _ h)

pub midst_stopped_fault : (before : Reading) (piece : List ℕ) (was now : List (List ℤ)) (s : Reading) (rest : List ℕ) →
    before.stop ≡ None → Midst before piece was now s rest → is_none s.stop ≡ false
    → s.stop ≡ fault_in before piece
unfolding fault_in
midst_stopped_fault before piece was now s rest running m h =
    rw running (sym (ap (λ (c : Scan). earlier_fault c.fault (overrun c.at (unfinished (before.line ++ piece)))) m.gives ∙ stopped_fault s.stop s.at _ h _))

-- no line feed is left
left_none : (s : Reading) (rest : List ℕ) → s.stop ≡ None → has_feed s.line ≡ false → has_feed rest ≡ false →
    left s rest ≡ record { rows = []; at = s.at; fault = None }
left_none s rest running h g = rw running (ap (λ (c : Cut). scan s.columns s.at c.whole) (cut_none (s.line ++ rest) (feedless_append s.line rest h g)))

pub midst_kept_rows : (before : Reading) (piece : List ℕ) (was now : List (List ℤ)) (s : Reading) (rest : List ℕ) →
    before.stop ≡ None → Midst before piece was now s rest → s.stop ≡ None
    → has_feed s.line ≡ false → has_feed rest ≡ false → now ≡ was ++ rows_in before piece
midst_kept_rows before piece was now s rest running m still h g =
    midst_rows before piece was now s rest running m (ap (λ (c : Scan). c.rows) (left_none s rest still h g))

-- the rest is the unfinished line
kept_rest : (before : Reading) (piece : List ℕ) (was now : List (List ℤ)) (s : Reading) (rest : List ℕ) →
    Midst before piece was now s rest → s.stop ≡ None
    → has_feed s.line ≡ false → has_feed rest ≡ false → unfinished (before.line ++ piece) ≡ s.line ++ rest
kept_rest before piece was now s rest m still h g = m.goes_on still ∙ ap (λ (c : Cut). c.rest) (cut_none (s.line ++ rest) (feedless_append s.line rest h g))

kept_scan : (before : Reading) (piece : List ℕ) (was now : List (List ℤ)) (s : Reading) (rest : List ℕ) →
    (m : Midst before piece was now s rest) → s.stop ≡ None
    → has_feed s.line ≡ false → has_feed rest ≡ false → scanned before piece ≡ with_rows m.handed (record { rows = []; at = s.at; fault = None })
kept_scan before piece was now s rest m still h g = m.gives ∙ ap (λ (c : Scan). with_rows m.handed c) (left_none s rest still h g)

pub midst_kept_fault : (before : Reading) (piece : List ℕ) (was now : List (List ℤ)) (s : Reading) (rest : List ℕ)
    (stop2 : Option RowFault) → before.stop ≡ None → Midst before piece was now s rest → s.stop ≡ None
    → has_feed s.line ≡ false → has_feed rest ≡ false → stop2 ≡ overrun s.at (s.line ++ rest) → stop2 ≡ fault_in before piece
unfolding fault_in
midst_kept_fault before piece was now s rest stop2 running m still h g e =
    rw running (sym (ap (λ (c : Scan). earlier_fault c.fault (overrun c.at (unfinished (before.line ++ piece))))
    (kept_scan before piece was now s rest m still h g)
    ∙ (ap (λ u. overrun s.at u) (kept_rest before piece was now s rest m still h g) ∙ sym e)))

abbrev reading_of : List Column → RowPlace → List ℕ → Option RowFault → Bool → Reading
reading_of columns at line stop ended = record { columns = columns; at = at; line = line; stop = stop; ended = ended }

same_reading : (a b : Reading) → a.columns ≡ b.columns → a.at ≡ b.at → a.line ≡ b.line → a.stop ≡ b.stop → a.ended ≡ b.ended → a ≡ b
same_reading a b c d e f g = ap (λ x. reading_of x a.at a.line a.stop a.ended) c ∙ (ap (λ x. reading_of b.columns x a.line a.stop a.ended) d
    ∙ (ap (λ x. reading_of b.columns b.at x a.stop a.ended) e
    ∙ (ap (λ x. reading_of b.columns b.at b.line x a.ended) f ∙ ap (λ x. reading_of b.columns b.at b.line b.stop x) g)))

pub midst_kept_state : (before : Reading) (piece : List ℕ) (was now : List (List ℤ)) (s s2 : Reading) (rest : List ℕ) →
    before.stop ≡ None → Midst before piece was now s rest → s.stop ≡ None
    → has_feed s.line ≡ false → has_feed rest ≡ false → s2.stop ≡ None → s2.line ≡ s.line ++ rest → s2.at ≡ s.at →
    s2.columns ≡ s.columns → s2.ended ≡ s.ended → s2 ≡ read_on before piece
unfolding read_on
midst_kept_state before piece was now s s2 rest running m still h g stop2 line2 at2 columns2 ended2 =
    same_reading s2 _ (columns2 ∙ m.columns) (at2 ∙ sym (ap (λ (c : Scan). c.at) (kept_scan before piece was now s rest m still h g)))
    (line2 ∙ sym (kept_rest before piece was now s rest m still h g)) (stop2 ∙ sym running) (ended2 ∙ m.ended)

-- what a test for a fault tells
pub no_stop : (stop : Option RowFault) (r : Bool) → is_some stop ≡ not r → r ≡ true → stop ≡ None
no_stop None r e h = refl
no_stop (Some fault) r e h = absurd (differ (e ∙ ap not h))
  where
    differ : true ≡ false → ⊥
    differ e = cc

pub a_stop : (stop : Option RowFault) (r : Bool) → is_some stop ≡ not r → r ≡ false → is_none stop ≡ false
a_stop None r e h = absurd (differ (e ∙ ap not h))
  where
    differ : false ≡ true → ⊥
    differ e = cc
a_stop (Some fault) r e h = refl

-- a fact of a good answer by another one
pub map_ok : {T E : Type 0} {P Q : Type 0} (r : Result T E) → (P → Q) → OnOk r P → OnOk r Q
map_ok (Ok x) f h = f h
map_ok (Err e) f h = h

pub ok_by : {T E : Type 0} {P : Type 0} (r : Result T E) → P → OnOk r P
ok_by (Ok x) h = h
ok_by (Err e) h = tt

pub both_ok : {T E : Type 0} {P Q S : Type 0} (r : Result T E) → (P → Q → S) → OnOk r P → OnOk r Q → OnOk r S
both_ok (Ok x) f h g = f h g
both_ok (Err e) f h g = tt
