-- How a call of `build` ends, and what it has written.
use Rattle.std.proofs.Common.{◌≡◌, ℕ, List, ◌++◌, refl, sym, subst, inl, inr}
use Rattle.std.specs.Prelude.{◌⊎◌, Option, Some}
use Rattle.bl_io.specs.Held.{Appends}
use Rattle.bl_rules.specs.Rules.{FirstFailing, Passes}
use Rattle.bl_top.specs.Build.{BuildEnds, IsBuiltOf, stopped, written}
use Rattle.bl_top_args.specs.Jobs.{Word, build}
use Rattle.bl_top_commands.specs.Calls.{Call, Count, HasRisen, Output}
use Rattle.bl_top_commands.specs.Notes.{WritesLines, fault as notes_fault, want as notes_want, whole as notes_whole}
use Rattle.bl_top_commands.specs.Refusals.{IsNotAccepted, RefusedText, refused, short, unread}
use Rattle.bl_top_commands.specs.Results.{WritesResult, fault, nothing, want, whole}
use Rattle.bl_top_commands.specs.declared.status.Status.{Status}
use Rattle.bl_top_commands.specs.declared.status.Status.TheVariants as status
use Rattle.bl_top_laws.specs.Correct.{BuildsAreCorrect, BuildsDecide, HasToldFirst, HasWrittenCorrect, NoneRose, RefusedBuildsTellFirst}
use Rattle.bl_top_laws.proofs.Runs.{refused_fails}
use Rattle.bl_top_laws.proofs.Jobs.{job_ended}
use Rattle.bl_top_laws.proofs.Texts.{built_correct, tree_of_source}
use Rattle.bl_top_commands.proofs.Resumes.{told_source, what_grew}

-- ---- Ok

-- a call that ends Ok has written the lines of a job that ended Ok
ok_meant : (notes : Output) (lines : List ℕ) (meant ended : Status) → WritesLines notes lines meant ended → ended ≡ status.Ok → meant ≡ status.Ok
ok_meant notes lines meant _ (notes_whole grew) ok = ok
ok_meant notes lines meant _ (notes_fault some grew risen) ok = absurd (cc)
ok_meant notes lines meant _ (notes_want some grew) ok = absurd (cc)

-- a source that isn't accepted doesn't end a job Ok
not_ok : (left : Option (List ℕ)) (file : Count) (ended : Status) (line : List ℕ) → IsNotAccepted left file ended line → ended ≡ status.Ok → ⊥
not_ok left file _ line (refused why) ok = cc
not_ok left file _ _ (unread risen) ok = cc
not_ok left file _ _ short ok = cc

-- what a sink holds whose content was told
told_grew : (before after : Option (List ℕ)) (held text : List ℕ) → before ≡ Some held → Appends before text after → after ≡ Some (held ++ text)
told_grew before after held text holds grew = subst (λ b. Appends b text after) holds grew

build_wrote : (c : Call) (name : Word) (source before : List ℕ) (ended : Status) (lines : List ℕ) → c.left name ≡ Some source →
    c.out.before ≡ Some before → BuildEnds c name ended lines → ended ≡ status.Ok → HasWrittenCorrect source before c.out.after
build_wrote c name source before ended _ holds held (written writes) ok =
    let some = what_grew (IsBuiltOf (c.left name)) c.out ended writes ok in
    record {
      text = some.0;
      correct = built_correct source some.0 (subst (λ left. IsBuiltOf left some.0) holds some.1);
      grew = told_grew c.out.before c.out.after before some.0 held some.2;
    }
build_wrote c name source before ended lines holds held (stopped why kept) ok =
    absurd (not_ok (c.left name) (c.file name) ended lines why ok)

ended_ok : (c : Call) (name : Word) (source before : List ℕ) (ended : Status) (lines : List ℕ) → c.left name ≡ Some source →
    c.out.before ≡ Some before → (ended ≡ status.NoMemory) ⊎ BuildEnds c name ended lines → ended ≡ status.Ok →
    HasWrittenCorrect source before c.out.after
ended_ok c name source before ended lines holds held how ok = elim how [
  | inl none ↦ absurd (cc)
  | inr ends ↦ build_wrote c name source before ended lines holds held ends ok
]

pub builds_correct : BuildsAreCorrect
builds_correct words c plants name source before call held =
    let answered = call.answered in
    ended_ok c name source before answered.meant answered.lines call.holds held
    (job_ended c plants (build name) _ answered.meant answered.lines call.asks answered.answers)
    (ok_meant c.notes answered.lines answered.meant status.Ok answered.written refl)

-- ---- Refused

-- a call that ends Refused has written all lines of a job that ended Refused
refused_meant : (notes : Output) (lines : List ℕ) (meant ended : Status) → WritesLines notes lines meant ended → ended ≡ status.Refused →
    (meant ≡ status.Refused) × Appends notes.before lines notes.after
refused_meant notes lines meant _ (notes_whole grew) is = (is, grew)
refused_meant notes lines meant _ (notes_fault some grew risen) is = absurd (cc)
refused_meant notes lines meant _ (notes_want some grew) is = absurd (cc)

-- what is written isn't refused
not_refused : (Is : List ℕ → Type 0) (out : Output) (ended : Status) → WritesResult Is out ended → ended ≡ status.Refused → ⊥
not_refused Is out _ (whole text is grew) e = cc
not_refused Is out _ (fault text is grew risen) e = cc
not_refused Is out _ (want text is grew) e = cc
not_refused Is out _ (nothing kept) e = cc

refusal : (left : Option (List ℕ)) (file : Count) (ended : Status) (line : List ℕ) → IsNotAccepted left file ended line →
    ended ≡ status.Refused → RefusedText left line
refusal left file _ line (refused why) e = why
refusal left file _ _ (unread risen) e = absurd (cc)
refusal left file _ _ short e = absurd (cc)

build_refused : (c : Call) (name : Word) (ended : Status) (lines : List ℕ) → BuildEnds c name ended lines → ended ≡ status.Refused →
    RefusedText (c.left name) lines
build_refused c name ended _ (written writes) e = absurd (not_refused (IsBuiltOf (c.left name)) c.out ended writes e)
build_refused c name ended lines (stopped why kept) e = refusal (c.left name) (c.file name) ended lines why e

ended_refused : (c : Call) (name : Word) (ended : Status) (lines : List ℕ) → (ended ≡ status.NoMemory) ⊎ BuildEnds c name ended lines →
    ended ≡ status.Refused → RefusedText (c.left name) lines
ended_refused c name ended lines how e = elim how [
  | inl none ↦ absurd (cc)
  | inr ends ↦ build_refused c name ended lines ends e
]

first_told : (left : Option (List ℕ)) (source before lines : List ℕ) (held after : Option (List ℕ)) → left ≡ Some source → held ≡ Some before →
    RefusedText left lines → Appends held lines after → HasToldFirst source before after
first_told left source before lines held after holds is_held why grew =
    let same = told_source left source why.text holds why.of_source in
    record {
      rule = why.rule;
      place = why.place;
      also = why.also;
      first = subst (λ text. FirstFailing text why.rule why.place why.also) (sym same) why.first;
      grew = subst (λ line. after ≡ Some (before ++ line)) why.told (told_grew held after before lines is_held grew);
    }

pub refused_first : RefusedBuildsTellFirst
refused_first words c plants name source before call held =
    let answered = call.answered in
    let is = refused_meant c.notes answered.lines answered.meant status.Refused answered.written refl in
    first_told (c.left name) source before answered.lines c.notes.before c.notes.after call.holds held
    (ended_refused c name answered.meant answered.lines
    (job_ended c plants (build name) _ answered.meant answered.lines call.asks answered.answers) is.0) is.1

-- ---- what else there is

-- the status of a job of this source, where neither a fault nor want of memory decides
abbrev Decided : List ℕ → Status → Type 0
Decided source ended = (ended ≡ status.NoMemory) ⊎ ((Passes source × (ended ≡ status.Ok)) ⊎ ((¬ Passes source) × (ended ≡ status.Refused)))

-- what was built and written is of a source that passes
written_decides : (left : Option (List ℕ)) (source : List ℕ) (out : Output) (ended : Status) → left ≡ Some source → ¬ HasRisen out.faults →
    WritesResult (IsBuiltOf left) out ended → Decided source ended
written_decides left source out _ holds none (whole text is grew) = inr (inl ((tree_of_source left source is.raw holds is.tree).passes, refl))
written_decides left source out _ holds none (fault text is grew risen) = absurd (none risen)
written_decides left source out _ holds none (want text is grew) = inl refl
written_decides left source out _ holds none (nothing kept) = inl refl

stopped_decides : (left : Option (List ℕ)) (file : Count) (source : List ℕ) (ended : Status) (line : List ℕ) → left ≡ Some source →
    ¬ HasRisen file → IsNotAccepted left file ended line → Decided source ended
stopped_decides left file source _ line holds none (refused why) = inr (inr (refused_fails left source line holds why, refl))
stopped_decides left file source _ _ holds none (unread risen) = absurd (none risen)
stopped_decides left file source _ _ holds none short = inl refl

build_decides : (c : Call) (name : Word) (source : List ℕ) (ended : Status) (lines : List ℕ) → c.left name ≡ Some source → NoneRose c name →
    BuildEnds c name ended lines → Decided source ended
build_decides c name source ended _ holds none (written writes) = written_decides (c.left name) source c.out ended holds none.out writes
build_decides c name source ended lines holds none (stopped why kept) =
    stopped_decides (c.left name) (c.file name) source ended lines holds none.file why

ended_decides : (c : Call) (name : Word) (source : List ℕ) (ended : Status) (lines : List ℕ) → c.left name ≡ Some source → NoneRose c name →
    (ended ≡ status.NoMemory) ⊎ BuildEnds c name ended lines → Decided source ended
ended_decides c name source ended lines holds none how = elim how [
  | inl short_of ↦ inl short_of
  | inr ends ↦ build_decides c name source ended lines holds none ends
]

-- the lines for `notes` are written, or memory is refused
notes_decide : (source : List ℕ) (notes : Output) (lines : List ℕ) (meant ended : Status) → ¬ HasRisen notes.faults → Decided source meant →
    WritesLines notes lines meant ended → Decided source ended
notes_decide source notes lines meant _ none decided (notes_whole grew) = decided
notes_decide source notes lines meant _ none decided (notes_fault some grew risen) = absurd (none risen)
notes_decide source notes lines meant _ none decided (notes_want some grew) = inl refl

pub builds_decide : BuildsDecide
builds_decide words c plants name source ended call none =
    let answered = call.answered in
    let ends = job_ended c plants (build name) _ answered.meant answered.lines call.asks answered.answers in
    notes_decide source c.notes answered.lines answered.meant ended none.notes
    (ended_decides c name source answered.meant answered.lines call.holds none ends) answered.written
