-- Of all commands one makes a program, and one links files.
use Rattle.std.proofs.Common.{◌≡◌, ◌≤◌, ◌^◌, ℕ, Bool, IfSome, Some, None, false, true, refl, List}
use Rattle.std.proofs.Common.{[], ◌∷◌, Option, arith, codes, if◌then◌else◌}
use Rattle.std.proofs.Common.{map, string_bytes}
use Rattle.std.proofs.lemmas.Bool.Decides.{nat_tests}
use Rattle.std.specs.List.{list_all}
use Rattle.std.specs.Prelude.{◌&&◌, length, nat_lt}
use Rattle.std.specs.Str.{bytes_eq}
use Rattle.bl_top_args.specs.Jobs.{IsCounted, JobSpec, Word, bound, build, check, command_job, count, driven, exec, faced, is_plain_word, job_of, link, linked}
use Rattle.bl_top_args.specs.Jobs.{of_one}
use Rattle.bl_top_args.specs.Jobs.{of_one_if, of_three, of_two, of_two_or_three, other_job, plants_of, resumed, run, save, save_from, seed_of, seeded, staged}
use Rattle.bl_top_args.specs.Jobs.{stages_in}
use Rattle.bl_top_args.specs.Jobs.{ticks_of}
use Rattle.bl_top_args.proofs.job.jobs_are_counted.Goals as goal

-- a job that makes no program and links no files needs no number
of_one_has : (job : Word → JobSpec) → ((first : Word) → IsCounted (job first)) → (values : List Word) → IfSome (of_one job values) IsCounted
of_one_has job each [] = tt
of_one_has job each (first ∷ []) = each first
of_one_has job each (first ∷ second ∷ more) = tt

of_two_has : (job : Word → Word → JobSpec) → ((first second : Word) → IsCounted (job first second)) → (values : List Word) →
    IfSome (of_two job values) IsCounted
of_two_has job each [] = tt
of_two_has job each (first ∷ []) = tt
of_two_has job each (first ∷ second ∷ []) = each first second
of_two_has job each (first ∷ second ∷ third ∷ more) = tt

of_three_has : (job : Word → Word → Word → Option JobSpec) → ((first second third : Word) → IfSome (job first second third) IsCounted) →
    (values : List Word) → IfSome (of_three job values) IsCounted
of_three_has job each [] = tt
of_three_has job each (first ∷ []) = tt
of_three_has job each (first ∷ second ∷ []) = tt
of_three_has job each (first ∷ second ∷ third ∷ []) = each first second third
of_three_has job each (first ∷ second ∷ third ∷ fourth ∷ more) = tt

either_has : (values : List Word) → IfSome (of_two_or_three save save_from values) IsCounted
either_has [] = tt
either_has (first ∷ []) = tt
either_has (first ∷ second ∷ []) = tt
either_has (first ∷ second ∷ third ∷ []) = tt
either_has (first ∷ second ∷ third ∷ fourth ∷ more) = tt

seeded_has : (source rows word : Word) → IfSome (seeded source rows word) IsCounted
seeded_has source rows word = go (seed_of word) refl
  where
    go : (seed : Option ℕ) → seed_of word ≡ seed → IfSome (seeded source rows word) IsCounted
    go (Some n) e = rw e tt
    go None e = rw e tt

-- a number of stages is at least one
some_stages : (number stages : ℕ) → stages_in number ≡ Some stages → 1 ≤ stages
some_stages number stages is = go (nat_lt 0 number) (nat_lt number (2 ^ 32)) refl is
  where
    go : (a b : Bool) → nat_lt 0 number ≡ a → (if a && b then Some number else None) ≡ Some stages → 1 ≤ stages
    go true true some is = let same : number ≡ stages = cc in grind (arith, nat_tests)
    go true false some is = cc
    go false b some is = cc

staged_has : (word : Word) → IfSome (staged word) IsCounted
staged_has word = go (seed_of word) refl
  where
    counted : (number : ℕ) (stages : Option ℕ) → seed_of word ≡ Some number → stages_in number ≡ stages → IfSome (staged word) IsCounted
    counted number (Some stages) e is = rw (e, is) (some_stages number stages is)
    counted number None e is = rw (e, is) tt

    go : (number : Option ℕ) → seed_of word ≡ number → IfSome (staged word) IsCounted
    go (Some number) e = counted number (stages_in number) e refl
    go None e = rw e tt

gen_has : (values : List Word) → IfSome (of_one_if staged values) IsCounted
gen_has [] = tt
gen_has (first ∷ []) = staged_has first
gen_has (first ∷ second ∷ more) = tt

trying : (b : Bool) (job others : Option JobSpec) → IfSome job IsCounted → IfSome others IsCounted → IfSome (if b then job else others) IsCounted
trying true job others holds other = holds
trying false job others holds other = other

driven_has : (values : List Word) → IfSome (driven values) IsCounted
driven_has [] = tt
driven_has (source ∷ []) = tt
driven_has (source ∷ ticks ∷ []) = tt
driven_has (source ∷ ticks ∷ first ∷ more) = go (ticks_of ticks) (plants_of (first ∷ more)) refl refl
  where
    go : (count : Option ℕ) (plants : Option (List ℕ)) → ticks_of ticks ≡ count → plants_of (first ∷ more) ≡ plants →
        IfSome (driven (source ∷ ticks ∷ first ∷ more)) IsCounted
    go (Some n) (Some ks) e f = rw (e, f) tt
    go (Some n) None e f = rw (e, f) tt
    go None plants e f = rw e tt

faced_has : (values : List Word) → IfSome (faced values) IsCounted
faced_has [] = tt
faced_has (source ∷ faces) = tt

linked_has : (values : List Word) → IfSome (linked values) IsCounted
linked_has values = go (nat_lt 1 (length values)) (nat_lt (length values) 65) refl refl
  where
    go : (some few : Bool) → nat_lt 1 (length values) ≡ some → nat_lt (length values) 65 ≡ few →
        IfSome (if some && few then Some (link values) else None) IsCounted
    go true true more less = (grind (arith, nat_tests), grind (arith, nat_tests))
    go true false more less = tt
    go false few more less = tt

other_has : (name : Word) (values : List Word) → IfSome (other_job name values) IsCounted
other_has name values =
    trying (bytes_eq (codes "check") name) _ _ (of_one_has check (λ first. tt) values) (
    trying (bytes_eq (codes "build") name) _ _ (of_one_has build (λ first. tt) values) (
    trying (bytes_eq (codes "run") name) _ _ (of_two_has run (λ first second. tt) values) (
    trying (bytes_eq (codes "walk") name) _ _ (of_three_has seeded seeded_has values) (
    trying (bytes_eq (codes "exec") name) _ _ (of_two_has exec (λ first second. tt) values) (
    trying (bytes_eq (codes "gen") name) _ _ (gen_has values) (
    trying (bytes_eq (codes "bound") name) _ _ (of_one_has bound (λ first. tt) values) (
    trying (bytes_eq (codes "count") name) _ _ (of_two_has count (λ first second. tt) values) (
    trying (bytes_eq (codes "save") name) _ _ (either_has values) (
    trying (bytes_eq (codes "resume") name) _ _ (of_three_has resumed (λ first second third. tt) values) tt)))))))))

command_has : (name : Word) (values : List Word) → IfSome (command_job name values) IsCounted
command_has name values =
    trying (bytes_eq (codes "drive") name) _ _ (driven_has values)
    (trying (bytes_eq (codes "face") name) _ _ (faced_has values)
    (trying (bytes_eq (codes "link") name) _ _ (linked_has values) (other_has name values)))

job_has : (words : List Word) → IfSome (job_of words) IsCounted
job_has [] = tt
job_has (name ∷ values) = go (list_all is_plain_word (name ∷ values)) refl
  where
    go : (b : Bool) → list_all is_plain_word (name ∷ values) ≡ b → IfSome (job_of (name ∷ values)) IsCounted
    go true e = rw e (command_has name values)
    go false e = rw e tt

pub returns : goal.returns
returns c = job_has (map string_bytes c.args.words.now)
