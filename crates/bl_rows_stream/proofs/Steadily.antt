-- What was written keeps up with what was handed over.
use Rattle.std.proofs.Common.{◌≡◌, ◌∙◌, ℕ, ◌≤◌, List, [], ◌++◌, length, take, Option, Some, None, ap, sym, subst, arith, append_assoc, append-nil}
use Rattle.std.proofs.lemmas.List.{length-take}
use Rattle.bl_crun.specs.Running.{Running}
use Rattle.bl_ctext_semantics.specs.Cells.{inputs_of}
use Rattle.bl_ctext_semantics.specs.Parts.{Parts}
use Rattle.bl_io.specs.Held.{Appends}
use Rattle.bl_io.specs.Left.{HandsOver}
use Rattle.bl_io.specs.declared.pieces.TheConstants.{PIECE}
use Rattle.bl_rows.specs.Reading.{empty_reading, rows_in}
use Rattle.bl_rows_stream.specs.Reports.{report_of}
use Rattle.bl_rows_stream.specs.Streams.{AppendsFront, Extends, HasRead, KeepsUp}
use Rattle.bl_rows_stream.specs.declared.pieces.Session.{Session}
use Rattle.bl_rows_stream.specs.declared.ticks.Report.{Report}
use Rattle.bl_rows_stream.specs.inner.Going.{Going, Start, runner_at}
use Rattle.bl_rows_stream.proofs.Steps.{read-more}

-- ---- the bytes held

pub extends-same : (held : Option (List ℕ)) → Extends held [] held
extends-same None = tt
extends-same (Some bytes) = ([], ap Some (sym (append-nil bytes)))

pub extends-all : (before after : Option (List ℕ)) (text : List ℕ) → Appends before text after → Extends before [] after
extends-all None after text grew = tt
extends-all (Some bytes) after text grew = (text, grew)

pub extends-front : (before after : Option (List ℕ)) (text : List ℕ) → AppendsFront before text after → Extends before [] after
extends-front None after text grew = tt
extends-front (Some bytes) after text grew = (take grew.0 text, grew.2)

extends-by : (before now after : Option (List ℕ)) (text : List ℕ) → Appends before text now → Extends now [] after → Extends before text after
extends-by None now after text wrote grew = tt
extends-by (Some bytes) now after text wrote grew =
    let more : Extends (Some (bytes ++ text)) [] after = rw wrote at grew in
    (more.0, more.1 ∙ ap Some (append_assoc bytes text more.0))

-- ---- the file

-- a piece more was handed over
pub keeps-piece : (report : Report) (start : Start) (file : Parts) (every before left left2 now after : Option (List ℕ)) (s : Session) (r : Running)
    (room : List ℕ) (n size : ℕ) → Going report start file every before s r left now → n ≤ size → size ≤ PIECE → HandsOver left n room left2 →
    Extends now [] after → KeepsUp report (runner_at start file) every left2 before after
keeps-piece report start file every before left left2 now after s r room n size going within short next grew = record {
  read = going.read;
  piece = take n room;
  handed = read-more every left left2 going.read room n going.has_read next;
  short = let long = length-take n room in omega (arith, long, within, short);
  written =
      extends-by before now after (report_of report (runner_at start file) (rows_in (empty_reading (inputs_of file)) going.read)) going.stands.written grew;
}

-- nothing more was
pub keeps-none : (report : Report) (start : Start) (file : Parts) (every before left left2 now : Option (List ℕ)) (s : Session) (r : Running) →
    Going report start file every before s r left now → left2 ≡ left → KeepsUp report (runner_at start file) every left2 before now
keeps-none report start file every before left left2 now s r going same = record {
  read = going.read;
  piece = [];
  handed = subst (λ l. HasRead every l left2) (sym (append-nil going.read)) (subst (HasRead every going.read) (sym same) going.has_read);
  short = omega arith;
  written =
      extends-by before now now (report_of report (runner_at start file) (rows_in (empty_reading (inputs_of file)) going.read)) going.stands.written
      (extends-same now);
}
