-- What the parser reads of plain words is the job that they ask for.
use Rattle.std.proofs.Common.{◌≡◌, Bool, false, true, inl, inr, refl, sym, subst, List, [], ◌∷◌, Option, Some, None, codes, find, if◌then◌else◌, true≢false}
use Rattle.std.specs.List.{list_all}
use Rattle.std.specs.Str.{bytes_eq}
use Rattle.std.proofs.lemmas.Slice.Eq.{bytes_eq-Decides}
use Rattle.clap.specs.Faults.{fault_of}
use Rattle.clap.specs.Kinds.{HasKind, IsAmong}
use Rattle.clap.specs.Simple.{label_of, subcommand_of}
use Rattle.clap.specs.Values.{kind_of}
use Rattle.clap.specs.Walk.{Text, answers_to}
use Rattle.clap.specs.declared.error.Error.{Error}
use Rattle.clap.specs.declared.error.kind.ErrorKind.TheVariants.{OutOfMemory}
use Rattle.clap.proofs.OnLiterals.{clap_on_literals}
use Rattle.bl_top_args.specs.inner.FirstWords.{behind_first, first_is}
use Rattle.bl_top_args.specs.inner.CommandLine.{command_line, job_read, named_read, one_if_read, one_read, three_read, two_or_three_read, two_read}
use Rattle.bl_top_args.specs.Jobs.{JobSpec, Word, bound, build, check, count, driven, exec, faced, is_plain_word, job_of, linked, of_one, of_one_if, of_three}
use Rattle.bl_top_args.specs.Jobs.{of_two, other_job}
use Rattle.bl_top_args.specs.Jobs.{of_two_or_three, resumed, run, save, save_from, seeded, staged}
use Rattle.bl_top_args.proofs.Program.{ReadsAs, commands, name_refused, others_plain, program, takes_reads}
use Rattle.bl_top_args.proofs.Values.{one, one_if_taken, one_taken, three, three_taken, two, two_or_three, two_or_three_taken, two_taken}

-- the words whose first is this name, and else those of the other commands
trying : (label name : Text) (values : List Text) (job others : Option JobSpec) → ReadsAs job (label ∷ values) →
    (bytes_eq label name ≡ false → ReadsAs others (name ∷ values))
    → ReadsAs (if bytes_eq label name then job else others) (name ∷ values)
trying label name values job others same other = go (bytes_eq label name) refl
  where
    go : (b : Bool) → bytes_eq label name ≡ b → ReadsAs (if bytes_eq label name then job else others) (name ∷ values)
    go true e = rw e (subst (λ n. ReadsAs job (n ∷ values)) ((bytes_eq-Decides label name).0 e) same)
    go false e = rw e (other e)

-- a command with one value, one with two, one with three, and one with two or three
one_reads : (label : Text) (job : Word → JobSpec) (read : (first second third : Option Text) → named_read label first second third ≡ one_read job first)
    (named : find (answers_to label) commands ≡ Some (label, []))
    (is : find (λ c. answers_to label (label_of c)) program.subs ≡ Some (one label)) (own : bytes_eq label (codes "help") ≡ false)
    (values : List Text) → list_all is_plain_word values ≡ true
    → ReadsAs (of_one job values) (label ∷ values)
one_reads label job read named is own values plain =
    takes_reads label (one label) named is own (of_one job values) values (one_taken label job read values plain)

one_if_reads : (label : Text) (job : Word → Option JobSpec)
    (read : (first second third : Option Text) → named_read label first second third ≡ one_if_read job first)
    (named : find (answers_to label) commands ≡ Some (label, []))
    (is : find (λ c. answers_to label (label_of c)) program.subs ≡ Some (one label)) (own : bytes_eq label (codes "help") ≡ false)
    (values : List Text) → list_all is_plain_word values ≡ true
    → ReadsAs (of_one_if job values) (label ∷ values)
one_if_reads label job read named is own values plain =
    takes_reads label (one label) named is own (of_one_if job values) values (one_if_taken label job read values plain)

two_reads : (label : Text) (job : Word → Word → JobSpec)
    (read : (first second third : Option Text) → named_read label first second third ≡ two_read job first second)
    (named : find (answers_to label) commands ≡ Some (label, []))
    (is : find (λ c. answers_to label (label_of c)) program.subs ≡ Some (two label)) (own : bytes_eq label (codes "help") ≡ false)
    (values : List Text) → list_all is_plain_word values ≡ true
    → ReadsAs (of_two job values) (label ∷ values)
two_reads label job read named is own values plain =
    takes_reads label (two label) named is own (of_two job values) values (two_taken label job read values plain)

three_reads : (label : Text) (job : Word → Word → Word → Option JobSpec)
    (read : (first second third : Option Text) → named_read label first second third ≡ three_read job first second third)
    (named : find (answers_to label) commands ≡ Some (label, []))
    (is : find (λ c. answers_to label (label_of c)) program.subs ≡ Some (three label)) (own : bytes_eq label (codes "help") ≡ false)
    (values : List Text) → list_all is_plain_word values ≡ true
    → ReadsAs (of_three job values) (label ∷ values)
three_reads label job read named is own values plain =
    takes_reads label (three label) named is own (of_three job values) values (three_taken label job read values plain)

either_reads : (label : Text) (job : Word → Word → JobSpec) (further : Word → Word → Word → JobSpec)
    (read : (first second third : Option Text) → named_read label first second third ≡ two_or_three_read job further first second third)
    (named : find (answers_to label) commands ≡ Some (label, []))
    (is : find (λ c. answers_to label (label_of c)) program.subs ≡ Some (two_or_three label)) (own : bytes_eq label (codes "help") ≡ false)
    (values : List Text) → list_all is_plain_word values ≡ true
    → ReadsAs (of_two_or_three job further values) (label ∷ values)
either_reads label job further read named is own values plain =
    takes_reads label (two_or_three label) named is own (of_two_or_three job further values) values
    (two_or_three_taken label job further read values plain)

command_reads : (name : Text) (values : List Text) → list_all is_plain_word (name ∷ values) ≡ true → ReadsAs (other_job name values) (name ∷ values)
command_reads name values plain =
    let others = others_plain name values plain in
    trying (codes "check") name values _ _ (one_reads (codes "check") check (λ f s t. refl) refl refl refl values others) (λ not_check.
    trying (codes "build") name values _ _ (one_reads (codes "build") build (λ f s t. refl) refl refl refl values others) (λ not_build.
    trying (codes "run") name values _ _ (two_reads (codes "run") run (λ f s t. refl) refl refl refl values others) (λ not_run.
    trying (codes "walk") name values _ _ (three_reads (codes "walk") seeded (λ f s t. refl) refl refl refl values others) (λ not_walk.
    trying (codes "exec") name values _ _ (two_reads (codes "exec") exec (λ f s t. refl) refl refl refl values others) (λ not_exec.
    trying (codes "gen") name values _ _ (one_if_reads (codes "gen") staged (λ f s t. refl) refl refl refl values others) (λ not_gen.
    trying (codes "bound") name values _ _ (one_reads (codes "bound") bound (λ f s t. refl) refl refl refl values others) (λ not_bound.
    trying (codes "count") name values _ _ (two_reads (codes "count") count (λ f s t. refl) refl refl refl values others) (λ not_count.
    trying (codes "save") name values _ _ (either_reads (codes "save") save save_from (λ f s t. refl) refl refl refl values others) (λ not_save.
    trying (codes "resume") name values _ _ (three_reads (codes "resume") resumed (λ f s t. refl) refl refl refl values others) (λ not_resume.
    inr (
      name_refused name values plain (rw (not_check, not_build, not_run, not_walk, not_exec, not_gen, not_bound, not_count, not_save, not_resume) refl),
      refl,
    )))))))))))

reads : (words : List Text) → list_all is_plain_word words ≡ true → first_is (codes "drive") words ≡ false → first_is (codes "face") words ≡ false →
    first_is (codes "link") words ≡ false → ReadsAs (job_of words) words
unfolding clap_on_literals
reads [] plain no_drive no_face no_link = inr (λ none. cc, refl)
reads (name ∷ values) plain no_drive no_face no_link = rw (plain, no_drive, no_face, no_link) (command_reads name values plain)

-- where the parse has a result, it is the job
pub result_is : (words : List Text) → list_all is_plain_word words ≡ true → first_is (codes "drive") words ≡ false →
    first_is (codes "face") words ≡ false → first_is (codes "link") words ≡ false → fault_of command_line words ≡ [] →
    job_read (subcommand_of command_line words) ≡ job_of words
result_is words plain no_drive no_face no_link taken = go (reads words plain no_drive no_face no_link)
  where
    go : ReadsAs (job_of words) words → job_read (subcommand_of command_line words) ≡ job_of words
    go (inl h) = h.1
    go (inr h) = absurd (h.0 taken)

-- where it refuses the words, there is no job
pub refusal_is : (words : List Text) (error : Error) → list_all is_plain_word words ≡ true → first_is (codes "drive") words ≡ false →
    first_is (codes "face") words ≡ false → first_is (codes "link") words ≡ false → HasKind (fault_of command_line words) error →
    (kind_of error ≡ OutOfMemory → ⊥) → None ≡ job_of words
refusal_is words error plain no_drive no_face no_link kinds memory = go (reads words plain no_drive no_face no_link) kinds
  where
    go : ReadsAs (job_of words) words → HasKind (fault_of command_line words) error → None ≡ job_of words
    go (inr h) k = sym h.1
    go (inl h) (inl k) = absurd (memory k)
    go (inl h) (inr k) = absurd (subst (IsAmong (kind_of error)) h.0 k)

pub none_plain : (words : List Text) → list_all is_plain_word words ≡ false → None ≡ job_of words
none_plain [] e = refl
none_plain (name ∷ values) e = rw e refl

-- words whose first is `drive` ask for what the others do
pub drive_is : (words : List Text) → list_all is_plain_word words ≡ true → first_is (codes "drive") words ≡ true →
    driven (behind_first words) ≡ job_of words
drive_is [] plain e = absurd (true≢false (sym e))
drive_is (name ∷ values) plain e = rw (plain, e) refl

-- words whose first is `face` ask for what the others do
pub face_is : (words : List Text) → list_all is_plain_word words ≡ true → first_is (codes "drive") words ≡ false → first_is (codes "face") words ≡ true →
    faced (behind_first words) ≡ job_of words
face_is [] plain no_drive e = absurd (true≢false (sym e))
face_is (name ∷ values) plain no_drive e = rw (plain, no_drive, e) refl

-- words whose first is `link` ask for what the others do
pub link_is : (words : List Text) → list_all is_plain_word words ≡ true → first_is (codes "drive") words ≡ false → first_is (codes "face") words ≡ false →
    first_is (codes "link") words ≡ true → linked (behind_first words) ≡ job_of words
link_is [] plain no_drive no_face e = absurd (true≢false (sym e))
link_is (name ∷ values) plain no_drive no_face e = rw (plain, no_drive, no_face, e) refl
