-- What `notes` hold after lines were to be written.
use Rattle.std.proofs.Common.{◌≡◌, ◌≢◌, ℕ, ◌+◌, ◌≤◌, List, [], ◌∷◌, ◌++◌, refl, sym, subst, ap, ◌∙◌, append-nil, append_assoc, Bool, true, false, length}
use Rattle.std.proofs.Common.{length-append, take, arith}
use Rattle.std.proofs.Math.Seq.{take-append-add}
use Rattle.std.proofs.lemmas.List.{take-append-le}
use Rattle.std.proofs.lemmas.Bool.Decides.{nat_tests}
use Rattle.std.specs.Prelude.{Option, Some, None, ◌==◌}
use Rattle.bl_top_commands.specs.Calls.{HasRisen, Output}
use Rattle.bl_top_commands.specs.Notes.{WritesLines, whole, fault, want}
use Rattle.bl_top_commands.specs.declared.status.Status.{Status}
use Rattle.bl_top_commands.specs.declared.status.Status.TheVariants as status
use Rattle.bl_io.specs.Held.{Appends, AppendsPart}
use Rattle.bl_module_files.proofs.Sizes.{rose_from}

pub appends_nothing : (held : Option (List ℕ)) (line : List ℕ) → line ≡ [] → Appends held line held
appends_nothing None line e = tt
appends_nothing (Some bytes) line e = rw e (ap Some (sym (append-nil bytes)))

pub written_whole : (notes : Output) (ended : Status) (told line : List ℕ) → line ≡ told → Appends notes.before line notes.after →
    WritesLines notes told ended ended
written_whole notes ended told line e grew = whole (subst (λ l. Appends notes.before l notes.after) e grew)

pub written_fault : (notes : Output) (meant : Status) (told line : List ℕ) → line ≡ told → line ≢ [] →
    AppendsPart notes.before line notes.after → HasRisen notes.faults → WritesLines notes told meant status.WriteFault
written_fault notes meant told line e some grew risen =
    fault (subst (λ l. l ≢ []) e some) (subst (λ l. AppendsPart notes.before l notes.after) e grew) risen

pub written_want : (notes : Output) (meant : Status) (told line : List ℕ) → line ≡ told → line ≢ [] →
    AppendsPart notes.before line notes.after → WritesLines notes told meant status.NoMemory
written_want notes meant told line e some grew =
    want (subst (λ l. l ≢ []) e some) (subst (λ l. AppendsPart notes.before l notes.after) e grew)

-- what a test of a text's length says of the text
pub is_empty_from_test : (line : List ℕ) (b : Bool) → b ≡ (length line == 0) → b ≡ true → line ≡ []
is_empty_from_test [] b e t = refl
is_empty_from_test (byte ∷ line) b e t = let h : (length (byte ∷ line) == 0) ≡ true = sym e ∙ t in absurd (grind (arith, nat_tests))

pub is_some_from_test : (line : List ℕ) (b : Bool) → b ≡ (length line == 0) → b ≡ false → line ≢ []
is_some_from_test [] b e f is = cc
is_some_from_test (byte ∷ line) b e f is = absurd (cc)

-- ---- lines behind others

appends_both : (before : Option (List ℕ)) (told line : List ℕ) (held after : Option (List ℕ)) → Appends before told held → Appends held line after →
    Appends before (told ++ line) after
appends_both None told line held after first second = tt
appends_both (Some bytes) told line held after first second =
    let grew : Appends (Some (bytes ++ told)) line after = subst (λ h. Appends h line after) first second in
    grew ∙ ap Some (append_assoc bytes told line)

appends_behind : (before : Option (List ℕ)) (told line : List ℕ) (held after : Option (List ℕ)) → Appends before told held →
    AppendsPart held line after →
    AppendsPart before (told ++ line) after
appends_behind None told line held after first second = tt
appends_behind (Some bytes) told line held after first second =
    let grew : AppendsPart (Some (bytes ++ told)) line after = subst (λ h. AppendsPart h line after) first second in
    let short = grew.1 in
    let long = length-append told line in (
      length told + grew.0,
      omega (arith, short, long),
      grew.2 ∙ ap Some (append_assoc bytes told (take grew.0 line) ∙ ap (λ t. bytes ++ t) (sym (take-append-add told line grew.0))),
    )

appends_front : (before : Option (List ℕ)) (told line : List ℕ) (after : Option (List ℕ)) → AppendsPart before told after →
    AppendsPart before (told ++ line) after
appends_front None told line after grew = tt
appends_front (Some bytes) told line after grew =
    let short = grew.1 in
    let long = length-append told line in
    (grew.0, omega (arith, short, long), grew.2 ∙ ap (λ t. Some (bytes ++ t)) (sym (take-append-le grew.0 told line (omega (arith, short)))))

some_behind : (told line : List ℕ) → line ≢ [] → told ++ line ≢ []
some_behind [] line some = some
some_behind (byte ∷ told) line some = λ e. cc

some_before : (told line : List ℕ) → told ≢ [] → told ++ line ≢ []
some_before [] line some = absurd (some refl)
some_before (byte ∷ told) line some = λ e. cc

-- a line was written behind lines that were written
pub written_behind : (notes : Output) (told line : List ℕ) (middle : ℕ) (held : Option (List ℕ)) (meant ended : Status) →
    notes.faults.before ≤ middle → Appends notes.before told held →
    WritesLines (record { faults = record { before = middle; after = notes.faults.after }; before = held; after = notes.after }) line meant ended →
    WritesLines notes (told ++ line) meant ended
written_behind notes told line middle held meant _ below first (whole grew) = whole (appends_both notes.before told line held notes.after first grew)
written_behind notes told line middle held meant _ below first (fault some grew risen) =
    fault (some_behind told line some) (appends_behind notes.before told line held notes.after first grew)
    (rose_from notes.faults.before middle notes.faults.after below risen)
written_behind notes told line middle held meant _ below first (want some grew) =
    want (some_behind told line some) (appends_behind notes.before told line held notes.after first grew)

-- or those before it couldn't be written
pub written_before_fault : (notes : Output) (told line : List ℕ) (meant : Status) → told ≢ [] → AppendsPart notes.before told notes.after →
    HasRisen notes.faults → WritesLines notes (told ++ line) meant status.WriteFault
written_before_fault notes told line meant some grew risen =
    fault (some_before told line some) (appends_front notes.before told line notes.after grew) risen

pub written_before_want : (notes : Output) (told line : List ℕ) (meant : Status) → told ≢ [] → AppendsPart notes.before told notes.after →
    WritesLines notes (told ++ line) meant status.NoMemory
written_before_want notes told line meant some grew =
    want (some_before told line some) (appends_front notes.before told line notes.after grew)

-- there are none before it
pub written_alone : (notes : Output) (told line : List ℕ) (meant ended : Status) → told ≡ [] → WritesLines notes line meant ended →
    WritesLines notes (told ++ line) meant ended
written_alone notes told line meant ended none written = subst (λ t. WritesLines notes (t ++ line) meant ended) (sym none) written
