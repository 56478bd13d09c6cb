-- What a judge remembers is the first of all failures.
use Rattle.std.proofs.Common.{◌≡◌, List, [], ◌∷◌, ◌++◌, inl, inr, ⊎_elim, Option, Some, None, refl, sym, ap, ◌∙◌, subst}
use Rattle.bl_tree.specs.declared.rule.Failure.{Failure}
use Rattle.bl_tree.specs.Rules.{first_of}
use Rattle.bl_tree.proofs.FirstLemmas.{In}
use Rattle.bl_names_scopes.specs.declared.judge.Judge.{Judge}
use Rattle.bl_names_scopes.specs.inner.Failures.{failure_at}
use Rattle.bl_names_scopes.specs.inner.Judged.{first_failure, fresh, judged, judged_by, kept}
use Rattle.bl_names_scopes.specs.Marks.{Mark, Marks}
use Rattle.bl_names_scopes.specs.Scopes.{Scopes, after, enter}

abbrev listed : Option Failure → List Failure → List Failure
listed (Some failure) rest = failure ∷ rest
listed None rest = rest

-- what fails at marks
abbrev pub told : Scopes → Marks → List Failure
told scopes [] = []
told scopes (mark ∷ rest) = listed (failure_at scopes mark) (told (enter scopes mark) rest)

first_listed : (first found : Option Failure) (rest : List Failure) → first_of (kept first found) rest ≡ first_of first (listed found rest)
first_listed first (Some failure) rest = refl
first_listed first None rest = refl

judged_first : (judge : Judge) (marks : Marks) → (judged_by judge marks).first ≡ first_of judge.first (told judge.scopes marks)
judged_first judge [] = refl
judged_first judge (mark ∷ rest) =
    judged_first (judged judge mark) rest ∙ first_listed judge.first (failure_at judge.scopes mark) (told (enter judge.scopes mark) rest)

pub first_is_told : (start : Scopes) (marks : Marks) → first_failure start marks ≡ first_of None (told start marks)
first_is_told start marks = judged_first (fresh start) marks

-- this fails at a mark behind others
pub record Happens (scopes : Scopes) (marks : Marks) (failure : Failure) : Type 0 where
  pub before : Marks
  pub mark : Mark
  pub rest : Marks
  pub there : marks ≡ before ++ (mark ∷ rest)
  pub says : failure_at (after scopes before) mark ≡ Some failure

behind : (scopes : Scopes) (mark : Mark) (rest : Marks) (failure : Failure) → Happens (enter scopes mark) rest failure →
    Happens scopes (mark ∷ rest) failure
behind scopes mark rest failure happens = record {
  before = mark ∷ happens.before;
  mark = happens.mark;
  rest = happens.rest;
  there = ap (λ l. mark ∷ l) happens.there;
  says = happens.says;
}

pub told_from : (scopes : Scopes) (marks : Marks) (failure : Failure) → In failure (told scopes marks) → Happens scopes marks failure
told_from scopes [] failure there = absurd there
told_from scopes (mark ∷ rest) failure there =
    elim (failure_at scopes mark) as (λ found. failure_at scopes mark ≡ found → In failure (listed found (told (enter scopes mark) rest))
    → Happens scopes (mark ∷ rest) failure) [
      | Some first ↦ λ says h.
          ⊎_elim (λ same. record { before = []; mark = mark; rest = rest; there = refl; says = says ∙ ap (λ f. Some f) (sym same) })
          (λ later. behind scopes mark rest failure (told_from (enter scopes mark) rest failure later)) h
      | None ↦ λ says h. behind scopes mark rest failure (told_from (enter scopes mark) rest failure h)
    ] refl there

listed_later : (found : Option Failure) (rest : List Failure) (failure : Failure) → In failure rest → In failure (listed found rest)
listed_later (Some first) rest failure there = inr there
listed_later None rest failure there = there

pub told_to : (scopes : Scopes) (before : Marks) (mark : Mark) (rest : Marks) (failure : Failure)
    → failure_at (after scopes before) mark ≡ Some failure → In failure (told scopes (before ++ (mark ∷ rest)))
told_to scopes [] mark rest failure says =
    subst (λ found. In failure (listed found (told (enter scopes mark) rest))) (sym says) (inl refl)
told_to scopes (first ∷ before) mark rest failure says =
    listed_later (failure_at scopes first) (told (enter scopes first) (before ++ (mark ∷ rest))) failure
    (told_to (enter scopes first) before mark rest failure says)
