-- What is remembered of failures after some and then others.
use Rattle.std.proofs.Common.{◌≡◌, map, List, [], ◌∷◌, ◌++◌, Option, refl, sym, ap, ◌∙◌}
use Rattle.std.specs.Prelude.{Result, Ok, Err, OnOk}
use Rattle.bl_tree.specs.declared.rule.Failure.{Failure}
use Rattle.bl_tree.specs.Reduce.{joined}
use Rattle.bl_types.specs.declared.failure.Notes.{Notes}
use Rattle.bl_tree.specs.Rules.{first_of, lesser}
use Rattle.bl_types.specs.Failures.{noted}

first-append : (first : Option Failure) (xs ys : List Failure) → first_of first (xs ++ ys) ≡ first_of (first_of first xs) ys
first-append first [] ys = refl
first-append first (x ∷ xs) ys = first-append (lesser first x) xs ys

pub noted-append : (notes : Notes) (xs ys : List Failure) → noted notes (xs ++ ys) ≡ noted (noted notes xs) ys
noted-append notes xs ys = ap (λ first. record { first = first }) (first-append notes.first xs ys)

-- one part after another
pub then_noted : (old middle last : Notes) (first second whole : List Failure) → middle ≡ noted old first →
    whole ≡ first ++ second → last ≡ noted middle second → last ≡ noted old whole
then_noted old middle last first second whole one is two =
    two ∙ ap (λ n. noted n second) one ∙ sym (noted-append old first second) ∙ ap (noted old) (sym is)

pub on_ok : {A E : Type 0} (P Q : Type 0) (r : Result A E) → (P → Q) → OnOk r P → OnOk r Q
on_ok P Q (Ok x) f h = f h
on_ok P Q (Err e) f h = h

-- the same, where the last part may be refused memory
pub then_noted_ok : {A E : Type 0} (r : Result A E) (old middle last : Notes) (first second whole : List Failure) →
    middle ≡ noted old first → whole ≡ first ++ second
    → OnOk r (last ≡ noted middle second) → OnOk r (last ≡ noted old whole)
then_noted_ok r old middle last first second whole one is =
    on_ok (last ≡ noted middle second) (last ≡ noted old whole) r (then_noted old middle last first second whole one is)

-- three parts, of which the last may be refused memory
pub three_noted_ok : {A E : Type 0} (r : Result A E) (old middle later last : Notes) (first second third given : List Failure) →
    middle ≡ noted old first → later ≡ noted middle second → given ≡ third
    → OnOk r (last ≡ noted later given) → OnOk r (last ≡ noted old (first ++ (second ++ third)))
three_noted_ok r old middle later last first second third given one two same =
    on_ok (last ≡ noted later given) (last ≡ noted old (first ++ (second ++ third))) r
    (λ three. three ∙ ap (noted later) same ∙ ap (λ n. noted n third) (two ∙ ap (λ n. noted n second) one)
    ∙ sym (noted-append (noted old first) second third) ∙ sym (noted-append old first (second ++ third)))

-- one more part of a list
pub next_noted : (old middle found : Notes) (first given rest : List Failure) → middle ≡ noted old given → given ≡ first →
    noted old (first ++ rest) ≡ found → noted middle rest ≡ found
next_noted old middle found first given rest one same h = ap (λ n. noted n rest) (one ∙ ap (noted old) same) ∙ sym (noted-append old first rest) ∙ h

-- one more list of failures
pub joined_noted : {X : Type 0} (f : X → List Failure) (all rest : List X) (x : X) (old middle found : Notes) → all ≡ x ∷ rest →
    middle ≡ noted old (f x)
    → noted old (joined (map f all)) ≡ found → noted middle (joined (map f rest)) ≡ found
joined_noted f all rest x old middle found is one h =
    next_noted old middle found (f x) (f x) (joined (map f rest)) one refl (sym (ap (λ l. noted old (joined (map f l))) is) ∙ h)

pub ruleset notes = (noted-append)
