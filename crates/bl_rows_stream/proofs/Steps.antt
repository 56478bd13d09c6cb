-- From one piece of the file to the next.
use Rattle.std.proofs.Common.{◌≡◌, ℕ, ◌+◌, ◌≤◌, ◌⊎◌, true, List, [], ◌++◌, length, take, drop, Option, Some, None, inl, inr, refl, ap, sym, subst, ◌∙◌, arith}
use Rattle.std.proofs.Common.{append_assoc, append-nil, length-append}
use Rattle.std.proofs.lemmas.List.{length-take-le, take-append-drop}
use Rattle.bl_ctext_semantics.specs.Cells.{inputs_of, outputs_of}
use Rattle.bl_ctext_semantics.specs.Parts.{Parts}
use Rattle.bl_crun.specs.Running.{Running}
use Rattle.bl_io.specs.Held.{Appends}
use Rattle.bl_io.specs.Left.{HandsOver, IsNext}
use Rattle.bl_io.proofs.Held.{Appends-nothing}
use Rattle.bl_rows.specs.Lines.{last_line, lines_of, unfinished, whole_lines}
use Rattle.bl_rows.specs.Reading.{Reading, empty_reading, fault_in, most_lines, rows_of}
use Rattle.bl_io.specs.declared.pieces.TheConstants.{PIECE}
use Rattle.bl_rows.specs.declared.fault.RowFault.{RowFault}
use Rattle.bl_rows.specs.declared.fault.RowFault.TheVariants as fault
use Rattle.bl_tree.specs.declared.row.Column.{Column}
use Rattle.bl_tree.specs.declared.row.Last.{Last}
use Rattle.bl_tree.specs.declared.row.Last.TheVariants.{Open, Ended, Trap}
use Rattle.bl_tree.specs.declared.row.Trace.{Trace}
use Rattle.bl_rows_stream.specs.Reports.{after_rows, report_from, report_header, report_of, trace_from}
use Rattle.bl_rows_stream.specs.inner.Going.{RunEnds, Going, GoesOrEnds, HasFed, Leaves, RunStands, Start, most_reach, reach, runner_at, runner_start, stopped}
use Rattle.bl_rows_stream.specs.inner.Going.{whole}
use Rattle.bl_rows_stream.specs.Streams.{AppendsFront, AreLeft, HasRead, ReadsLines, Reported, Streamed, all, broken, course_from, cut, finish_of, front}
use Rattle.bl_rows_stream.specs.Streams.{last_over, ran, report_over, rows_so_far, unread}
use Rattle.bl_rows_stream.specs.declared.finish.Finish.{Finish}
use Rattle.bl_rows_stream.specs.declared.finish.Finish.TheVariants as finish
use Rattle.bl_rows_stream.specs.declared.finish.Progress.{Progress}
use Rattle.bl_rows_stream.specs.declared.finish.Progress.TheVariants as progress
use Rattle.bl_rows_stream.specs.declared.pieces.Session.{Session}
use Rattle.bl_rows_stream.specs.declared.ticks.Report.{Report}
use Rattle.bl_rows_stream.specs.declared.ticks.Report.TheVariants as kind
use Rattle.bl_rows_stream.proofs.PieceEnds.{refused}
use Rattle.bl_rows_stream.proofs.Reaches.{few-lines, piece-lines}
use Rattle.bl_rows_stream.proofs.Readers.{none-in}
use Rattle.bl_rows_stream.proofs.Texts.{Begins, front-all, front-more, trace-text}
use Rattle.bl_rows_stream.proofs.Traces.{trace-none}

-- ---- the bytes of the file

pub read-more : (every left left2 : Option (List ℕ)) (read room : List ℕ) (n : ℕ) → HasRead every read left →
    HandsOver left n room left2 → HasRead every (read ++ take n room) left2
read-more None left left2 read room n so next = tt
read-more (Some bytes) left left2 read room n so next =
    let now : IsNext so.0 n room left2 = rw so.1.1 at next in (
      drop n so.0,
      (
        so.1.0 ∙ ap (λ l. read ++ l) (sym (take-append-drop n so.0)) ∙ sym (append_assoc read (take n so.0) (drop n so.0))
            ∙ ap (λ l. (read ++ l) ++ drop n so.0) (sym now.front),
        now.rest,
      ),
    )

-- the file has ended
pub read-all : (every left left2 : Option (List ℕ)) (read room : List ℕ) → HasRead every read left → HandsOver left 0 room left2 → AreLeft every read
read-all None left left2 read room so next = tt
read-all (Some bytes) left left2 read room so next =
    let now : IsNext so.0 0 room left2 = rw so.1.1 at next in
    so.1.0 ∙ ap (λ l. read ++ l) (now.at_end refl) ∙ append-nil read

pub rest-left : (every left : Option (List ℕ)) (read : List ℕ) → HasRead every read left → (rest : List ℕ) × AreLeft every (read ++ rest)
rest-left None left read so = ([], tt)
rest-left (Some bytes) left read so = (so.0, so.1.0)

pub bytes-left : (every : Option (List ℕ)) → (bytes : List ℕ) × AreLeft every bytes
bytes-left None = ([], tt)
bytes-left (Some bytes) = (bytes, refl)

-- ---- steps

pub reported-by : (report : Report) (first : Running) (every rest before after : Option (List ℕ)) (now : Running) (bytes : List ℕ) (ended : Finish) →
    AreLeft every bytes → RunEnds report first bytes before after now ended → Reported report first every rest before after now ended
reported-by report first every rest before after now bytes ended left (whole is grew has) = ran bytes left is grew has
reported-by report first every rest before after now bytes ended left (stopped why grew) = cut bytes left why grew

-- the report that is the text of a trace
pub streamed-by : (r : Running) (every rest before after : Option (List ℕ)) (now : Running) (ended : Finish) →
    Reported kind.Trace r every rest before after now ended → Streamed (course_from r) every rest before after ended
streamed-by r every rest before after now ended (ran bytes left is grew has) =
    all bytes left is (subst (λ text. Appends before text after) (trace-text r (rows_of bytes (inputs_of r.parts)).rows) grew)
streamed-by r every rest before after now _ (broken b) =
    unread (record {
      read = b.read;
      handed_over = b.handed;
      good = b.good;
      running = b.running;
      written = subst (λ text. Appends before text after) (trace-text r (rows_so_far r b.read)) b.written;
    })
streamed-by r every rest before after now ended (cut bytes left why grew) =
    front bytes left why (subst (λ text. AppendsFront before text after) (trace-text r (rows_of bytes (inputs_of r.parts)).rows) grew)

pub next-goes : (report : Report) (start : Start) (file : Parts) (every before left now : Option (List ℕ)) (read : List ℕ) (s : Session) (r : Running)
    (l : Progress) →
    HasRead every read left → Leaves report start file read before s r now l → GoesOrEnds report start file every before s r left now l
next-goes report start file every before left now read s r progress.Open so leaves = record { read = read; has_read = so; stands = leaves }
next-goes report start file every before left now read s r (progress.Over ended) so leaves =
    let rest = rest-left every left read so in
    reported-by report (runner_at start file) every left before now r (read ++ rest.0) ended rest.1 (leaves rest.0)

-- want of memory
pub goes-refused : (report : Report) (start : Start) (every before left now rest : Option (List ℕ)) (s : Session) (r now2 : Running) →
    Going report start r.parts every before s r left now →
    Reported report (runner_at start r.parts) every rest before now now2 finish.NoMemory
goes-refused report start every before left now after s r now2 going =
    let rest = rest-left every left going.read going.has_read in
    reported-by report (runner_at start r.parts) every after before now now2 (going.read ++ rest.0) finish.NoMemory rest.1
    (refused report start going.read rest.0 before now s r now2 going.stands finish.NoMemory (inr refl))

pub goes-unread : (report : Report) (start : Start) (every before left now rest : Option (List ℕ)) (s : Session) (r : Running) →
    Going report start r.parts every before s r left now → rest ≡ left →
    Reported report (runner_at start r.parts) every rest before now r finish.ReadFault
goes-unread report start every before left now rest s r going same =
    broken (record {
      read = going.read;
      handed = subst (HasRead every going.read) (sym same) going.has_read;
      good = going.stands.fed.good;
      running = going.stands.running;
      written = going.stands.written;
      runner = going.stands.runs;
    })

-- ---- how far the file is read

-- nothing was handed over
pub reads-none : (most : ℕ) (left : Option (List ℕ)) → ReadsLines most left left
reads-none most None = tt
reads-none most (Some bytes) =
    record { read = []; piece = []; rest = bytes; are = refl; few = omega arith; short = omega arith; within = omega arith; left = refl }

-- the piece behind what was read so far, or none
pub reads-piece : (ins : List Column) (every left left2 : Option (List ℕ)) (read room : List ℕ) (n size : ℕ) (s : Reading) → HasRead every read left →
    HasFed ins read s → n ≤ size → size ≤ PIECE → s.at.lines + n ≤ 1000001 → HandsOver left n room left2 → ReadsLines most_lines every left2
reads-piece ins None left left2 read room n size s so fed within short fits next = tt
reads-piece ins (Some bytes) left left2 read room n size s so fed within short fits next =
    let now : IsNext so.0 n room left2 = rw so.1.1 at next in
    let long : length (take n so.0) ≡ n = length-take-le n so.0 now.within in
    let few = few-lines ins read fed.good in
    let both = length-append (whole_lines read) (last_line (unfinished read)) in
    let lines = fed.lines in
    record {
      read = read;
      piece = take n so.0;
      rest = drop n so.0;
      are = so.1.0 ∙ ap (λ l. read ++ l) (sym (take-append-drop n so.0));
      few = few;
      short = omega (arith, long, within, short);
      within = piece-lines read (take n so.0) most_lines (omega (arith, few, both)) (omega (arith, lines, long, fits));
      left = now.rest;
    }

pub going-reads : (report : Report) (start : Start) (file : Parts) (every before left left2 now : Option (List ℕ)) (s : Session) (r : Running)
    (room : List ℕ) (n size : ℕ) →
    Going report start file every before s r left now → n ≤ size → size ≤ PIECE → s.reader.at.lines + n ≤ 1000001 → HandsOver left n room left2 →
    ReadsLines most_lines every left2
going-reads report start file every before left left2 now s r room n size going within short fits next =
    reads-piece (inputs_of file) every left left2 going.read room n size s.reader going.has_read going.stands.fed within short fits next

-- a file that is as it was
pub still-there : (every left left2 : Option (List ℕ)) (read : List ℕ) → HasRead every read left → left2 ≡ left → (ins : List Column) →
    fault_in (empty_reading ins) read ≡ None → ReadsLines most_lines every left2
still-there None left left2 read so same ins good = tt
still-there (Some bytes) left left2 read so same ins good = record {
  read = read;
  piece = [];
  rest = so.0;
  are = so.1.0;
  few = few-lines ins read good;
  short = omega arith;
  within =
      let few = few-lines ins read good in
      let same = ap (λ l. length (lines_of l)) (append-nil read) in
      omega (arith, few, same);
  left = same ∙ so.1.1;
}

pub going-reads-none : (report : Report) (start : Start) (file : Parts) (every before left left2 now : Option (List ℕ)) (s : Session) (r : Running) →
    Going report start file every before s r left now → left2 ≡ left → ReadsLines most_lines every left2
going-reads-none report start file every before left left2 now s r going same =
    still-there every left left2 going.read going.has_read same (inputs_of file) going.stands.fed.good

-- ---- the beginning

-- a live runner stands where it stands
pub runner-same : (r : Running) → r.live ≡ true → runner_at (runner_start r) r.parts ≡ r
runner-same r live = λ i. record { parts = r.parts; cells = r.cells; ready = r.ready; live = sym live i }

pub stands-first : (report : Report) (r : Running) (s : Session) (before now : Option (List ℕ)) → r.live ≡ true →
    s.reader ≡ empty_reading (inputs_of r.parts) → HasFed (inputs_of r.parts) [] s.reader → s.ticks.done ≡ 0 → s.ticks.report ≡ report →
    length s.ticks.outputs ≡ length (outputs_of r.parts) →
    Appends before (report_header report (outputs_of r.parts)) now → RunStands report (runner_start r) r.parts [] before s r now
stands-first report r s before now live first fed done reports long grew =
    let none = none-in (inputs_of r.parts) in
    let from : Running = runner_at (runner_start r) r.parts in
    record {
      fed = fed;
      runs = sym (runner-same r live) ∙ sym (ap (after_rows from) none);
      parts = refl;
      live = live;
      low = let e = ap (λ (t : Reading). t.at.lines) first in omega arith;
      short = let e = ap (λ (t : Reading). length t.line) first in omega arith;
      running = ap (λ (t : Trace). t.last) (ap (trace_from from) none ∙ trace-none from);
      done = done ∙ sym (ap length none);
      reports = reports;
      outputs = long;
      written =
          subst (λ text. Appends before text now)
          (sym (append-nil (report_header report (outputs_of r.parts))) ∙ sym (ap (report_of report from) none)) grew;
    }

header-begins : (report : Report) (r : Running) (bytes : List ℕ) → Begins (report_header report (outputs_of r.parts)) (report_over report r bytes)
header-begins report r bytes = record { rest = report_from report 1 r (rows_of bytes (inputs_of r.parts)).rows; is = refl }

-- what comes before the first tick couldn't be written
pub header-front : (report : Report) (r : Running) (bytes : List ℕ) (before after : Option (List ℕ)) (now : Running) (ended : Finish) →
    (ended ≡ finish.WriteFault) ⊎ (ended ≡ finish.NoMemory) → AppendsFront before (report_header report (outputs_of r.parts)) after →
    RunEnds report r bytes before after now ended
header-front report r bytes before after now ended why grew =
    stopped why (front-more before before after [] (report_header report (outputs_of r.parts)) (report_over report r bytes)
    (Appends-nothing before) grew (header-begins report r bytes))

-- nothing was written
pub nothing-front : (report : Report) (r : Running) (bytes : List ℕ) (before : Option (List ℕ)) (now : Running) →
    RunEnds report r bytes before before now finish.NoMemory
nothing-front report r bytes before now = stopped (inr refl)
    (front-all before before [] (report_over report r bytes) (Appends-nothing before) (record { rest = report_over report r bytes; is = refl }))

-- ---- a file's parts and those of its runner

pub going-here : (report : Report) (start : Start) (file : Parts) (every before left now : Option (List ℕ)) (s : Session) (r : Running) →
    Going report start file every before s r left now → Going report start r.parts every before s r left now
going-here report start file every before left now s r going =
    subst (λ f. Going report start f every before s r left now) (sym going.stands.parts) going

-- ---- how far a run can come

pub going-within : (report : Report) (start : Start) (file : Parts) (every before left now : Option (List ℕ)) (s : Session) (r : Running) →
    Going report start file every before s r left now → reach s.reader ≤ most_reach
going-within report start file every before left now s r going =
    let low = going.stands.low in
    let short = going.stands.short in
    omega arith

-- ---- rows alone never tell of a failed file

no-read-fault : (l : Last) (f : Option RowFault) → finish_of l f ≡ finish.ReadFault → ⊥
no-read-fault Open None e = cc
no-read-fault Open (Some (fault.BadHeader line)) e = cc
no-read-fault Open (Some (fault.BadRow line)) e = cc
no-read-fault Open (Some (fault.LongLine line)) e = cc
no-read-fault Open (Some fault.NoMemory) e = cc
no-read-fault Ended f e = cc
no-read-fault Trap f e = cc

no-stop-fault : (ended : Finish) → (ended ≡ finish.WriteFault) ⊎ (ended ≡ finish.NoMemory) → ended ≡ finish.ReadFault → ⊥
no-stop-fault ended (inl is) e = cc
no-stop-fault ended (inr is) e = cc

ends-never : (report : Report) (first : Running) (bytes : List ℕ) (before after : Option (List ℕ)) (now : Running) (ended : Finish) →
    RunEnds report first bytes before after now ended → ended ≡ finish.ReadFault → ⊥
ends-never report first bytes before after now ended (whole is grew has) e =
    no-read-fault (last_over (course_from first) bytes) (rows_of bytes (inputs_of first.parts)).fault (sym is ∙ e)
ends-never report first bytes before after now ended (stopped why grew) e = no-stop-fault ended why e

pub leaves-never : (report : Report) (start : Start) (file : Parts) (read : List ℕ) (before : Option (List ℕ)) (s : Session) (r : Running)
    (now : Option (List ℕ)) (l : Progress) → Leaves report start file read before s r now l → l ≡ progress.Over finish.ReadFault → ⊥
leaves-never report start file read before s r now progress.Open leaves e = cc
leaves-never report start file read before s r now (progress.Over ended) leaves e = let same : ended ≡ finish.ReadFault = cc in
    ends-never report (runner_at start file) (read ++ []) before now r ended (leaves []) same
