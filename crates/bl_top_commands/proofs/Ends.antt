-- What is written of a result, and how `check` ends.
use Rattle.std.proofs.Common.{◌≡◌, ℕ, List, subst}
use Rattle.bl_top_commands.specs.Calls.{Call, HasRisen, Output}
use Rattle.bl_top_commands.specs.Check.{CheckEnds, accepted, accepted_line, stopped as check_ends}
use Rattle.bl_top_commands.specs.Notes.{line_of}
use Rattle.bl_top_commands.specs.Refusals.{IsNotAccepted}
use Rattle.bl_top_commands.specs.Results.{WritesResult, fault, nothing, want, whole}
use Rattle.bl_top_commands.specs.Sources.{IsProgramOfSource}
use Rattle.bl_top_commands.specs.declared.status.Status.{Status}
use Rattle.bl_top_commands.specs.declared.status.Status.TheVariants as status
use Rattle.bl_io.specs.Held.{Appends, AppendsPart}
use Rattle.bl_io.specs.Left.{IsKept}
use Rattle.bl_tree.specs.declared.program.Program.{Program}
use Rattle.bl_top_args.specs.Jobs.{Word}
use Rattle.bl_top_commands.proofs.Fronts.{tree_of_program}

-- ---- results

-- what was written is the result, or a front of it
pub wrote_all : (IsResult : List ℕ → Type 0) (out : Output) (ended : Status) (text piece : List ℕ) → ended ≡ status.Ok → piece ≡ text →
    IsResult text → Appends out.before piece out.after → WritesResult IsResult out ended
wrote_all IsResult out ended text piece e same is grew = rw e (whole text is (subst (λ t. Appends out.before t out.after) same grew))

pub wrote_part : (IsResult : List ℕ → Type 0) (out : Output) (ended : Status) (text piece : List ℕ) → ended ≡ status.WriteFault →
    piece ≡ text → IsResult text → AppendsPart out.before piece out.after → HasRisen out.faults → WritesResult IsResult out ended
wrote_part IsResult out ended text piece e same is grew risen =
    rw e (fault text is (subst (λ t. AppendsPart out.before t out.after) same grew) risen)

pub wrote_less : (IsResult : List ℕ → Type 0) (out : Output) (ended : Status) (text piece : List ℕ) → ended ≡ status.NoMemory →
    piece ≡ text → IsResult text → AppendsPart out.before piece out.after → WritesResult IsResult out ended
wrote_less IsResult out ended text piece e same is grew = rw e (want text is (subst (λ t. AppendsPart out.before t out.after) same grew))

pub wrote_nothing : (IsResult : List ℕ → Type 0) (out : Output) (ended : Status) → ended ≡ status.NoMemory → IsKept out.before out.after →
    WritesResult IsResult out ended
wrote_nothing IsResult out ended e kept = rw e (nothing kept)

-- what is a result in one sense is one in another
pub writes_as : (P Q : List ℕ → Type 0) (out : Output) (ended : Status) → ((text : List ℕ) → P text → Q text) → WritesResult P out ended →
    WritesResult Q out ended
writes_as P Q out _ turned (whole text is grew) = whole text (turned text is) grew
writes_as P Q out _ turned (fault text is grew risen) = fault text (turned text is) grew risen
writes_as P Q out _ turned (want text is grew) = want text (turned text is) grew
writes_as P Q out _ turned (nothing kept) = nothing kept

-- ---- `check`

pub check_accepted : (c : Call) (source : Word) (program : Program) (ended : Status) (line : List ℕ) → IsProgramOfSource (c.left source) program →
    WritesResult (λ text. text ≡ accepted_line) c.out ended → line ≡ line_of ended → CheckEnds c source ended line
check_accepted c source program ended line is writes told = rw told (accepted is.has.raw (tree_of_program (c.left source) program is) writes)

pub check_stopped : (c : Call) (source : Word) (ended : Status) (line : List ℕ) → IsNotAccepted (c.left source) (c.file source) ended line →
    IsKept c.out.before c.out.after → CheckEnds c source ended line
check_stopped c source ended line stops kept = check_ends stops kept
