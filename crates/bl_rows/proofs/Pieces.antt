-- What a reader tells does not depend on where the bytes are cut.
use Rattle.std.proofs.Common.{◌≡◌, ◌≢◌, Result, Ok, Err, OnOk, OnErr, ℕ, ◌≤◌, List, [], ◌∷◌, ◌++◌, length, refl, ap, sym, ◌∙◌, subst, false, Option, Some, None}
use Rattle.std.proofs.Common.{ℤ, append_assoc, append-nil, arith, length-append, ◌==◌}
use Rattle.std.proofs.lemmas.Bool.Decides.{nat_tests}
use Rattle.bl_tree.specs.declared.row.Column.{Column}
use Rattle.bl_rows.specs.declared.fault.RowFault.{RowFault}
use Rattle.bl_rows.specs.declared.fault.RowFault.TheVariants.{BadHeader, BadRow, LongLine, NoMemory}
use Rattle.bl_rows.specs.declared.verdict.Verdict.{Verdict}
use Rattle.bl_rows.specs.declared.verdict.Verdict.TheVariants.{Passed, Header, Numbers, Bad}
use Rattle.bl_rows.specs.declared.verdict.RowPlace.{RowPlace}
use Rattle.bl_rows.specs.Lines.{Cut, cut, led_by_byte, whole_lines, unfinished, last_line, lines_of, has_feed}
use Rattle.bl_rows.specs.Reading.{Reading, Scan, scan, scanned, verdict, over_limit, overrun, place_after, led_by_line, RowsRead, read_to_end, earlier_fault}
use Rattle.bl_rows.specs.Reading.{fault_in, rows_in, read_on, rows_after, led_by_rows, unless_stopped, fault_at_end, Front, Unrefused, call_answer}
use Rattle.bl_rows.specs.inner.Steps.{fault_of, rows_by, with_rows}
use Rattle.bl_rows.proofs.Scans.{ok_by, rows_of_scan}
use Rattle.bl_rows.proofs.Cuts.{cut_none, cut_append, cut_other, lines_append, unfinished_feedless, or_false}
use Rattle.bl_rows.proofs.Verdicts.{past_limit}

-- lines in two parts
then_by : List Column → Option RowFault → Scan → List (List ℕ) → Scan
then_by columns None s lines = with_rows s.rows (scan columns s.at lines)
then_by columns (Some fault) s lines = s

led_then : (columns : List Column) (at : RowPlace) (v : Verdict) (o : Option RowFault) (s : Scan) (b : List (List ℕ)) → s.fault ≡ o
    → led_by_line at v (then_by columns s.fault s b) ≡ then_by columns (led_by_line at v s).fault (led_by_line at v s) b
unfolding then_by
led_then columns at Passed o s b e = refl
led_then columns at Header o s b e = refl
led_then columns at (Numbers row) None s b e = rw e refl
led_then columns at (Numbers row) (Some fault) s b e = rw e refl
led_then columns at (Bad fault) o s b e = refl

scan_append : (columns : List Column) (at : RowPlace) (a b : List (List ℕ)) →
    scan columns at (a ++ b) ≡ then_by columns (scan columns at a).fault (scan columns at a) b
unfolding then_by
scan_append columns at [] b = refl
scan_append columns at (line ∷ a) b =
    ap (λ (s : Scan). led_by_line at (verdict columns at line) s) (scan_append columns (place_after at (verdict columns at line)) a b)
    ∙ led_then columns at (verdict columns at line) _ (scan columns (place_after at (verdict columns at line)) a) b refl

-- the lines of bytes that go on after a start without a line feed
led_all : List ℕ → List (List ℕ) → List ℕ → Cut
led_all u [] r = record { whole = []; rest = u ++ r }
led_all u (l ∷ w) r = record { whole = (u ++ l) ∷ w; rest = r }

led_more : (b : ℕ) (u : List ℕ) (w : List (List ℕ)) (r : List ℕ) → led_by_byte b (led_all u w r).whole (led_all u w r).rest ≡ led_all (b ∷ u) w r
unfolding led_all
led_more b u [] r = refl
led_more b u (l ∷ w) r = refl

led_none : (w : List (List ℕ)) (r : List ℕ) → led_all [] w r ≡ record { whole = w; rest = r }
unfolding led_all
led_none [] r = refl
led_none (l ∷ w) r = refl

cut_led : (u rest : List ℕ) → has_feed u ≡ false → cut (u ++ rest) ≡ led_all u (whole_lines rest) (unfinished rest)
cut_led [] rest h = sym (led_none (whole_lines rest) (unfinished rest))
cut_led (b ∷ u) rest h =
    let p = or_false (b == 10) (has_feed u) h in
    cut_other b (u ++ rest) p.0 ∙ (ap (λ (c : Cut). led_by_byte b c.whole c.rest) (cut_led u rest p.1) ∙ led_more b u (whole_lines rest) (unfinished rest))

-- the first of these lines begins with that start
record Begins (start : List ℕ) (lines : List (List ℕ)) : Type 0 where
  pub more : List ℕ
  pub others : List (List ℕ)
  pub is : lines ≡ (start ++ more) ∷ others

begins_by : (b : ℕ) (u : List ℕ) (w : List (List ℕ)) (r : List ℕ) →
    Begins (b ∷ u) ((led_all (b ∷ u) w r).whole ++ last_line (led_all (b ∷ u) w r).rest)
unfolding led_all
begins_by b u [] r = record { more = r; others = []; is = refl }
begins_by b u (l ∷ w) r = record { more = l; others = w ++ last_line r; is = refl }

begins : (b : ℕ) (u rest : List ℕ) → has_feed (b ∷ u) ≡ false → Begins (b ∷ u) (lines_of ((b ∷ u) ++ rest))
begins b u rest h = subst (λ (c : Cut). Begins (b ∷ u) (c.whole ++ last_line c.rest)) (sym (cut_led (b ∷ u) rest h))
    (begins_by b u (whole_lines rest) (unfinished rest))

-- a line past a limit stays past it
over_grows : (at : RowPlace) (n m : ℕ) (fault : RowFault) → n ≤ m → over_limit at n ≡ Some fault → over_limit at m ≡ Some fault
over_grows at n m fault h e = grind (arith, nat_tests)

overrun_stops : (columns : List Column) (at : RowPlace) (u rest : List ℕ) (fault : RowFault) → has_feed u ≡ false → overrun at u ≡ Some fault
    → scan columns at (lines_of (u ++ rest)) ≡ record { rows = []; at = at; fault = Some fault }
overrun_stops columns at [] rest fault h e = cc
overrun_stops columns at (b ∷ u) rest fault h e =
    let start = begins b u rest h in
    let long : over_limit at (length ((b ∷ u) ++ start.more)) ≡ Some fault =
    over_grows at (length (b ∷ u)) _ fault (omega (arith, length-append (b ∷ u) start.more)) e in
    rw (start.is, past_limit columns at ((b ∷ u) ++ start.more) fault long) refl

-- a scan that stopped, or goes on with what is unfinished
by_scan : (columns : List Column) (s : Scan) (u rest : List ℕ) (o p stop : Option RowFault) (later : RowsRead) → has_feed u ≡ false →
    s.fault ≡ o → overrun s.at u ≡ p → stop ≡ earlier_fault s.fault (overrun s.at u)
    → (stop ≡ None → later ≡ read_to_end (scan columns s.at (lines_of (u ++ rest))))
    → read_to_end (then_by columns s.fault s (lines_of (u ++ rest))) ≡ led_by_rows s.rows (unless_stopped stop later)
unfolding then_by
by_scan columns s u rest (Some fault) p stop later h e g k f = rw (k, e, append-nil) refl
by_scan columns s u rest None (Some fault) stop later h e g k f = rw (k, e, g, overrun_stops columns s.at u rest fault h g, append-nil) refl
by_scan columns s u rest None None stop later h e g k f = let none : stop ≡ None = k ∙ rw (e, g) refl in rw (e, none, f none) refl

-- with no fault before a piece
after_piece : (before now : Reading) (piece rest : List ℕ) → before.stop ≡ None → now.stop ≡ fault_in before piece →
    (now.stop ≡ None → now ≡ read_on before piece)
    → rows_after before (piece ++ rest) ≡ led_by_rows (rows_in before piece) (rows_after now rest)
unfolding rows_after rows_in fault_in read_on
after_piece before now piece rest running stop state =
    let x = before.line ++ piece in
    let s = scanned before piece in
    let fault : now.stop ≡ earlier_fault s.fault (overrun s.at (unfinished x)) = stop ∙ rw running refl in
    let lines : scan before.columns before.at (lines_of (before.line ++ (piece ++ rest)))
    ≡ then_by before.columns s.fault s (lines_of (unfinished x ++ rest)) =
    ap (λ l. scan before.columns before.at (lines_of l)) (sym (append_assoc before.line piece rest))
    ∙ (ap (λ l. scan before.columns before.at l) (lines_append x rest)
    ∙ scan_append before.columns before.at (whole_lines x) (lines_of (unfinished x ++ rest))) in
    rw running (ap read_to_end lines ∙ by_scan before.columns s (unfinished x) rest s.fault (overrun s.at (unfinished x)) now.stop _
    (unfinished_feedless x) refl refl fault
    (λ e. ap (λ (r : Reading). read_to_end (scan r.columns r.at (lines_of (r.line ++ rest)))) (state e)))

-- the bytes that end
pub rows_at_end : (s : Reading) → s.stop ≡ None → has_feed s.line ≡ false → rows_after s [] ≡ read_to_end (scan s.columns s.at (last_line s.line))
unfolding rows_after
rows_at_end s running h =
    let lines : lines_of (s.line ++ []) ≡ last_line s.line =
    ap lines_of (append-nil s.line) ∙ ap (λ (c : Cut). c.whole ++ last_line c.rest) (cut_none s.line h) in
    rw (running, lines) refl

-- bytes that end after a line feed
pub ended_clean : (s : Reading) → s.stop ≡ None → s.line ≡ [] → rows_after s [] ≡ record { rows = []; fault = fault_at_end s.at None }
ended_clean s running empty = rows_at_end s running (rw empty refl) ∙ ap (λ l. read_to_end (scan s.columns s.at (last_line l))) empty

-- a last line that has bytes
led_last : (at : RowPlace) (v : Verdict) → read_to_end (led_by_line at v (record { rows = []; at = place_after at v; fault = None }))
    ≡ record { rows = rows_by v; fault = fault_at_end (place_after at v) (fault_of v) }
led_last at Passed = refl
led_last at Header = refl
led_last at (Numbers row) = refl
led_last at (Bad fault) = refl

last_scan : (columns : List Column) (at : RowPlace) (line : List ℕ) → line ≢ [] → read_to_end (scan columns at (last_line line))
    ≡ record { rows = rows_by (verdict columns at line); fault = fault_at_end (place_after at (verdict columns at line)) (fault_of (verdict columns at line)) }
last_scan columns at [] h = absurd (h refl)
last_scan columns at (b ∷ line) h = led_last at (verdict columns at (b ∷ line))

ended_told : (s : Reading) → s.stop ≡ None → has_feed s.line ≡ false → s.line ≢ [] → rows_after s []
    ≡ record {
      rows = rows_by (verdict s.columns s.at (s.line ++ []));
      fault =
          fault_at_end (place_after s.at (verdict s.columns s.at (s.line ++ []))) (fault_of (verdict s.columns s.at (s.line ++ [])));
    }
ended_told s running h some = rows_at_end s running h ∙ (last_scan s.columns s.at s.line some
    ∙ ap (λ l. let t : RowsRead = record {
      rows = rows_by (verdict s.columns s.at l);
      fault =
          fault_at_end (place_after s.at (verdict s.columns s.at l)) (fault_of (verdict s.columns s.at l));
    } in t) (sym (append-nil s.line)))

pub ended_rows : (s : Reading) (was now : List (List ℤ)) → s.stop ≡ None → has_feed s.line ≡ false → s.line ≢ [] →
    now ≡ was ++ rows_by (verdict s.columns s.at (s.line ++ [])) → now ≡ was ++ (rows_after s []).rows
ended_rows s was now running h some e = e ∙ ap (λ r. was ++ r) (sym (ap (λ (t : RowsRead). t.rows) (ended_told s running h some)))

pub ended_fault : (s : Reading) (stop : Option RowFault) (at : RowPlace) → s.stop ≡ None → has_feed s.line ≡ false → s.line ≢ [] →
    stop ≡ fault_of (verdict s.columns s.at (s.line ++ []))
    → at ≡ place_after s.at (verdict s.columns s.at (s.line ++ [])) → fault_at_end at stop ≡ (rows_after s []).fault
ended_fault s stop at running h some e g = rw (e, g) (sym (ap (λ (t : RowsRead). t.fault) (ended_told s running h some)))

-- rows that were all handed over, or none
pub all_handed : (was now rows : List (List ℤ)) → now ≡ was ++ rows → Front was now rows
all_handed was now rows e = record { handed = rows; left = []; grown = e; front = sym (append-nil rows) }

pub none_handed : (was now rows : List (List ℤ)) → now ≡ was → Front was now rows
none_handed was now rows e = record { handed = []; left = rows; grown = e ∙ sym (append-nil was); front = refl }

pub handed_by : {T E : Type 0} (r : Result T E) (was now rows : List (List ℤ)) → OnOk r (now ≡ was ++ rows) → OnErr r (now ≡ was) →
    Front was now rows
handed_by (Ok x) was now rows h g = all_handed was now rows h
handed_by (Err e) was now rows h g = none_handed was now rows g

-- a fact that needs no refusal
pub unrefused_by : {P : Type 0} (r : Result Unit RowFault) → P → Unrefused r P
unrefused_by (Ok u) h = h
unrefused_by (Err NoMemory) h = tt
unrefused_by (Err (BadHeader line)) h = h
unrefused_by (Err (BadRow line)) h = h
unrefused_by (Err (LongLine line)) h = h

-- a reader that has stopped
pub stopped_fault : (s : Reading) (piece : List ℕ) (fault : RowFault) → s.stop ≡ Some fault → fault_in s piece ≡ Some fault
unfolding fault_in
stopped_fault s piece fault e = rw e refl

pub stopped_rows : (s : Reading) (piece : List ℕ) (fault : RowFault) → s.stop ≡ Some fault → rows_in s piece ≡ []
unfolding rows_in
stopped_rows s piece fault e = rw e refl

pub stopped_told : (s : Reading) (bytes : List ℕ) (fault : RowFault) → s.stop ≡ Some fault →
    rows_after s bytes ≡ record { rows = []; fault = Some fault }
unfolding rows_after
stopped_told s bytes fault e = rw e refl

pub stopped_cut : (s : Reading) (piece rest : List ℕ) (fault : RowFault) → s.stop ≡ Some fault →
    rows_after s (piece ++ rest) ≡ led_by_rows (rows_in s piece) (rows_after s rest)
stopped_cut s piece rest fault e = rw (stopped_told s (piece ++ rest) fault e, stopped_rows s piece fault e, stopped_told s rest fault e) refl

-- what feed says of any cut
pub answered_cut : {E : Type 0} (taken : Result Unit E) (before mid now : Reading) (piece rest : List ℕ) (r : Result Unit RowFault) → before.stop ≡ None
    → OnOk taken ((r ≡ call_answer mid.stop) × (now ≡ mid)) → OnErr taken ((r ≡ Err NoMemory) × (now ≡ record mid { stop = Some NoMemory }))
    → OnOk taken (mid.stop ≡ fault_in before piece) → OnOk taken (mid.stop ≡ None → mid ≡ read_on before piece)
    → Unrefused r (rows_after before (piece ++ rest) ≡ led_by_rows (rows_in before piece) (rows_after now rest))
answered_cut (Ok x) before mid now piece rest r running ok err stop state = unrefused_by r (rw ok.1 (after_piece before mid piece rest running stop state))
answered_cut (Err x) before mid now piece rest r running ok err stop state = rw err.0 tt

-- pieces that were read one after another give what they give at once
record Joins (before now : Reading) (piece more : List ℕ) : Type 0 where
  pub rows : rows_in before (piece ++ more) ≡ rows_in before piece ++ rows_in now more
  pub fault : fault_in before (piece ++ more) ≡ fault_in now more

pub no_fault : (first later : Option RowFault) → earlier_fault first later ≡ None → (first ≡ None) × (later ≡ None)
no_fault None later e = (refl, e)
no_fault (Some fault) later e = cc

joined_scan : (before now : Reading) (piece more : List ℕ) → (scanned before piece).fault ≡ None → now ≡ read_on before piece
    → scanned before (piece ++ more) ≡ with_rows (scanned before piece).rows (scanned now more)
unfolding read_on then_by
joined_scan before now piece more clean state =
    let x = before.line ++ piece in
    ap (λ l. scan before.columns before.at (whole_lines l)) (sym (append_assoc before.line piece more))
    ∙ (ap (λ (c : Cut). scan before.columns before.at c.whole) (cut_append x more)
    ∙ (scan_append before.columns before.at (whole_lines x) (whole_lines (unfinished x ++ more)) ∙ rw (clean, state) refl))

joined_rest : (before now : Reading) (piece more : List ℕ) → now ≡ read_on before piece →
    unfinished (before.line ++ (piece ++ more)) ≡ unfinished (now.line ++ more)
unfolding read_on
joined_rest before now piece more state =
    ap (λ l. unfinished l) (sym (append_assoc before.line piece more))
    ∙ (ap (λ (c : Cut). c.rest) (cut_append (before.line ++ piece) more) ∙ rw state refl)

fault_by_scan : (s : Reading) (piece : List ℕ) → s.stop ≡ None →
    fault_in s piece ≡ earlier_fault (scanned s piece).fault (overrun (scanned s piece).at (unfinished (s.line ++ piece)))
unfolding fault_in
fault_by_scan s piece running = rw running refl

pieces_join : (before now : Reading) (piece more : List ℕ) → before.stop ≡ None → now.stop ≡ None → fault_in before piece ≡ None →
    now ≡ read_on before piece → Joins before now piece more
pieces_join before now piece more running still clean state =
    let first = no_fault (scanned before piece).fault _ (sym (fault_by_scan before piece running) ∙ clean) in
    let scans = joined_scan before now piece more first.0 state in
    record {
      rows = rows_of_scan before (piece ++ more) running ∙ (ap (λ (c : Scan). c.rows) scans
          ∙ (ap (λ r. r ++ (scanned now more).rows) (sym (rows_of_scan before piece running))
          ∙ ap (λ r. rows_in before piece ++ r) (sym (rows_of_scan now more still))));
      fault = fault_by_scan before (piece ++ more) running
          ∙ (ap (λ (c : Scan). earlier_fault c.fault (overrun c.at (unfinished (before.line ++ (piece ++ more))))) scans
          ∙ (ap (λ u. earlier_fault (scanned now more).fault (overrun (scanned now more).at u)) (joined_rest before now piece more state)
          ∙ sym (fault_by_scan now more still)));
    }

pub answered_joins : {E : Type 0} (taken : Result Unit E) (before mid now : Reading) (piece : List ℕ) (r : Result Unit RowFault) → before.stop ≡ None
    → OnOk taken ((r ≡ call_answer mid.stop) × (now ≡ mid)) → OnErr taken ((r ≡ Err NoMemory) × (now ≡ record mid { stop = Some NoMemory }))
    → OnOk taken (mid.stop ≡ fault_in before piece) → OnOk taken (mid.stop ≡ None → mid ≡ read_on before piece)
    → OnOk r ((more : List ℕ) → (rows_in before (piece ++ more) ≡ rows_in before piece ++ rows_in now more)
    × (fault_in before (piece ++ more) ≡ fault_in now more))
answered_joins (Ok x) before mid now piece r running ok err stop state = by_stop mid.stop refl
  where
    by_stop : (o : Option RowFault) → mid.stop ≡ o → OnOk r
        ((more : List ℕ) → (rows_in before (piece ++ more) ≡ rows_in before piece ++ rows_in now more)
        × (fault_in before (piece ++ more) ≡ fault_in now more))
    by_stop None e = ok_by r (λ more. let j = pieces_join before mid piece more running e (sym stop ∙ e) (state e) in rw ok.1 (j.rows, j.fault))
    by_stop (Some fault) e = rw (ok.0, e) tt
answered_joins (Err x) before mid now piece r running ok err stop state = rw err.0 tt
