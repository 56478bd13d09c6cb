use Rattle.std.proofs.Common.{◌≡◌, ◌&&◌, ℕ, Bool, IfSome, Some, length, nat_lt, None, false, true, refl, List, [], ◌∷◌, Option, codes, if◌then◌else◌, map}
use Rattle.std.proofs.Common.{string_bytes}
use Rattle.std.specs.List.{list_all}
use Rattle.std.specs.Str.{bytes_eq}
use Rattle.bl_top_args.specs.Jobs.{JobSpec, Word, bound, build, check, command_job, count}
use Rattle.bl_top_args.specs.Jobs.{driven, exec, faced, files_of, is_plain_word, job_of, linked, of_one, of_one_if, of_three, of_two, of_two_or_three}
use Rattle.bl_top_args.specs.Jobs.{link, other_job, plants_of, resumed, run, save, save_from, seed_of, seeded, staged, stages_of, ticks_of}
use Rattle.bl_top_args.proofs.Program.{others_plain}
use Rattle.bl_top_args.proofs.job.files_have_plain_names.Goals as goal

abbrev HasPlainFiles : JobSpec → Type 0
HasPlainFiles job = list_all is_plain_word (files_of job) ≡ true

one_plain : (job : Word → JobSpec) → ((first : Word) → files_of (job first) ≡ first ∷ []) → (values : List Word) →
    list_all is_plain_word values ≡ true → IfSome (of_one job values) HasPlainFiles
one_plain job files [] plain = tt
one_plain job files (first ∷ []) plain = rw (files first) plain
one_plain job files (first ∷ second ∷ more) plain = tt

two_plain : (job : Word → Word → JobSpec) → ((first second : Word) → files_of (job first second) ≡ first ∷ second ∷ []) →
    (values : List Word) → list_all is_plain_word values ≡ true
    → IfSome (of_two job values) HasPlainFiles
two_plain job files [] plain = tt
two_plain job files (first ∷ []) plain = tt
two_plain job files (first ∷ second ∷ []) plain = rw (files first second) plain
two_plain job files (first ∷ second ∷ next ∷ more) plain = tt

seed_plain : (source rows word : Word) → list_all is_plain_word (source ∷ rows ∷ []) ≡ true → IfSome (seeded source rows word) HasPlainFiles
seed_plain source rows word plain = go (seed_of word) refl
  where
    go : (seed : Option ℕ) → seed_of word ≡ seed → IfSome (seeded source rows word) HasPlainFiles
    go (Some n) e = rw e plain
    go None e = rw e tt

-- a program that is made is of no file
staged_plain : (word : Word) → IfSome (staged word) HasPlainFiles
staged_plain word = go (stages_of word) refl
  where
    go : (stages : Option ℕ) → stages_of word ≡ stages → IfSome (staged word) HasPlainFiles
    go (Some n) e = rw e refl
    go None e = rw e tt

gen_plain : (values : List Word) → IfSome (of_one_if staged values) HasPlainFiles
gen_plain [] = tt
gen_plain (first ∷ []) = staged_plain first
gen_plain (first ∷ second ∷ more) = tt

one_of : (a b : Bool) → (a && b) ≡ true → (a && true) ≡ true
one_of true b e = refl
one_of false b e = e

two_of_three : (a b c : Bool) → (a && (b && (c && true))) ≡ true → (a && (b && true)) ≡ true
two_of_three true true c e = refl
two_of_three true false c e = e
two_of_three false b c e = e

-- where three words ask for a job whose files are the first two of them, or all three
two_or_three_plain : (values : List Word) → list_all is_plain_word values ≡ true → IfSome (of_two_or_three save save_from values) HasPlainFiles
two_or_three_plain [] plain = tt
two_or_three_plain (first ∷ []) plain = tt
two_or_three_plain (first ∷ second ∷ []) plain = plain
two_or_three_plain (first ∷ second ∷ third ∷ []) plain = plain
two_or_three_plain (first ∷ second ∷ third ∷ next ∷ more) plain = tt

resume_plain : (values : List Word) → list_all is_plain_word values ≡ true → IfSome (of_three resumed values) HasPlainFiles
resume_plain [] plain = tt
resume_plain (first ∷ []) plain = tt
resume_plain (first ∷ second ∷ []) plain = tt
resume_plain (first ∷ second ∷ third ∷ []) plain = plain
resume_plain (first ∷ second ∷ third ∷ next ∷ more) plain = tt

three_plain : (values : List Word) → list_all is_plain_word values ≡ true → IfSome (of_three seeded values) HasPlainFiles
three_plain [] plain = tt
three_plain (first ∷ []) plain = tt
three_plain (first ∷ second ∷ []) plain = tt
three_plain (first ∷ second ∷ third ∷ []) plain =
    seed_plain first second third (two_of_three (is_plain_word first) (is_plain_word second) (is_plain_word third) plain)
three_plain (first ∷ second ∷ third ∷ next ∷ more) plain = tt

trying : (b : Bool) (job others : Option JobSpec) → IfSome job HasPlainFiles → IfSome others HasPlainFiles →
    IfSome (if b then job else others) HasPlainFiles
trying true job others holds other = holds
trying false job others holds other = other

-- a job against plants is of its source
driven_plain : (values : List Word) → list_all is_plain_word values ≡ true → IfSome (driven values) HasPlainFiles
driven_plain [] plain = tt
driven_plain (source ∷ []) plain = tt
driven_plain (source ∷ ticks ∷ []) plain = tt
driven_plain (source ∷ ticks ∷ first ∷ more) plain = go (ticks_of ticks) (plants_of (first ∷ more)) refl refl
  where
    go : (count : Option ℕ) (plants : Option (List ℕ)) → ticks_of ticks ≡ count → plants_of (first ∷ more) ≡ plants →
        IfSome (driven (source ∷ ticks ∷ first ∷ more)) HasPlainFiles
    go (Some n) (Some ks) e f = rw (e, f) (one_of (is_plain_word source) _ plain)
    go (Some n) None e f = rw (e, f) tt
    go None plants e f = rw e tt

-- a job of `face` is of all its words
faced_plain : (values : List Word) → list_all is_plain_word values ≡ true → IfSome (faced values) HasPlainFiles
faced_plain [] plain = tt
faced_plain (source ∷ faces) plain = plain

-- a job of `link` is of all its words
linked_plain : (values : List Word) → list_all is_plain_word values ≡ true → IfSome (linked values) HasPlainFiles
linked_plain values plain = go (nat_lt 1 (length values) && nat_lt (length values) 65)
  where
    go : (few : Bool) → IfSome (if few then Some (link values) else None) HasPlainFiles
    go true = plain
    go false = tt

other_plain : (name : Word) (values : List Word) → list_all is_plain_word values ≡ true → IfSome (other_job name values) HasPlainFiles
other_plain name values plain =
    trying (bytes_eq (codes "check") name) _ _ (one_plain check (λ first. refl) values plain) (
    trying (bytes_eq (codes "build") name) _ _ (one_plain build (λ first. refl) values plain) (
    trying (bytes_eq (codes "run") name) _ _ (two_plain run (λ first second. refl) values plain) (
    trying (bytes_eq (codes "walk") name) _ _ (three_plain values plain) (
    trying (bytes_eq (codes "exec") name) _ _ (two_plain exec (λ first second. refl) values plain) (
    trying (bytes_eq (codes "gen") name) _ _ (gen_plain values) (
    trying (bytes_eq (codes "bound") name) _ _ (one_plain bound (λ first. refl) values plain) (
    trying (bytes_eq (codes "count") name) _ _ (two_plain count (λ first second. refl) values plain) (
    trying (bytes_eq (codes "save") name) _ _ (two_or_three_plain values plain) (
    trying (bytes_eq (codes "resume") name) _ _ (resume_plain values plain) tt)))))))))

command_plain : (name : Word) (values : List Word) → list_all is_plain_word values ≡ true → IfSome (command_job name values) HasPlainFiles
command_plain name values plain =
    trying (bytes_eq (codes "drive") name) _ _ (driven_plain values plain)
    (trying (bytes_eq (codes "face") name) _ _ (faced_plain values plain)
    (trying (bytes_eq (codes "link") name) _ _ (linked_plain values plain) (other_plain name values plain)))

job_plain : (words : List Word) → IfSome (job_of words) HasPlainFiles
job_plain [] = tt
job_plain (name ∷ values) = go (list_all is_plain_word (name ∷ values)) refl
  where
    go : (b : Bool) → list_all is_plain_word (name ∷ values) ≡ b → IfSome (job_of (name ∷ values)) HasPlainFiles
    go true e = rw e (command_plain name values (others_plain name values e))
    go false e = rw e tt

pub returns : goal.returns
returns c = job_plain (map string_bytes c.args.words.now)
