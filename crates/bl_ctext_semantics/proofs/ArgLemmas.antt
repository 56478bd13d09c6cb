-- Arguments against parameters, one by one.
use Rattle.std.proofs.Common.{◌≡◌, ℕ, zero, suc, ◌+◌, ◌<◌, ◌≤◌, Bool, ◌&&◌, ◌||◌, List, [], ◌∷◌, map, length, drop, Option, Some}
use Rattle.std.proofs.Common.{None, refl, ap, sym, ◌∙◌, add-one, arith}
use Rattle.std.specs.Prelude.{slice_get, nat_le}
use Rattle.std.proofs.lemmas.Grind.{common_steps}
use Rattle.std.proofs.lemmas.List.{drop_all}
use Rattle.bl_tree.proofs.Basics.{and_assoc, or_assoc}
use Rattle.bl_tree.specs.declared.place.Place.{Place}
use Rattle.bl_tree.specs.declared.c.CArg.{CArg}
use Rattle.bl_tree.specs.declared.c.CType.{CType}
use Rattle.bl_tree.specs.Reduce.{any_of, joined}
use Rattle.bl_ctext_semantics.proofs.FirstLemmas.{earlier_of-assoc, first_place-append}
use Rattle.bl_ctext_semantics.specs.Faults.{Context, StepJudgement, judge_steps, earlier_of, first_place, Variable, Signature, JudgedArg, fit_each}
use Rattle.bl_ctext_semantics.specs.inner.Checked.{is_handed, judged_args, fit_from, fits_nth, fits_param_at, wants_up_to}

each-step : (widens : Bool) (params : List Variable) (k : ℕ) (a : JudgedArg) (rest : List JudgedArg) →
    fit_each widens (drop k params) (a ∷ rest) ≡ (fits_param_at widens (slice_get params k) a.address a.ty && fit_each widens (drop (suc k) params) rest)
each-step widens [] zero a rest = refl
each-step widens [] (suc k) a rest = refl
each-step widens (p ∷ params) zero a rest = refl
each-step widens (p ∷ params) (suc k) a rest = each-step widens params k a rest

each-end : (widens : Bool) (params : List Variable) (k : ℕ) → fit_each widens (drop k params) [] ≡ nat_le (length params) k
each-end widens [] zero = search
each-end widens [] (suc k) = grind (arith, common_steps)
each-end widens (p ∷ params) zero = grind (arith, common_steps)
each-end widens (p ∷ params) (suc k) = each-end widens params k ∙ grind (arith, common_steps)

pub fit-step : (signature : Option Signature) (k : ℕ) (a : JudgedArg) (rest : List JudgedArg) →
    fit_from signature k (a ∷ rest) ≡ (fits_nth signature k a.address a.ty && fit_from signature (k + 1) rest)
fit-step None k a rest = refl
fit-step (Some s) k a rest = rw add-one (each-step s.widens s.params k a rest)

pub fit-end : (signature : Option Signature) (k : ℕ) → fit_from signature k [] ≡ wants_up_to signature k
fit-end None k = refl
fit-end (Some s) k = each-end s.widens s.params k

-- ---- one more argument

pub fit-next : (signature : Option Signature) (k : ℕ) (a : JudgedArg) (rest all : List JudgedArg) (fit : Bool) (x : Bool) → all ≡ a ∷ rest →
    (fit && fit_from signature k all) ≡ x → ((fit && fits_nth signature k a.address a.ty) && fit_from signature (k + 1) rest) ≡ x
fit-next signature k a rest all fit x is h =
    and_assoc fit (fits_nth signature k a.address a.ty) (fit_from signature (k + 1) rest)
    ∙ ap (λ b. fit && b) (sym (fit-step signature k a rest)) ∙ ap (λ l. fit && fit_from signature k l) (sym is) ∙ h

pub handed-next : (a : JudgedArg) (rest all : List JudgedArg) (handed : Bool) (x : Bool) → all ≡ a ∷ rest →
    (handed || any_of (map is_handed all)) ≡ x → ((handed || (a.address && a.through)) || any_of (map is_handed rest)) ≡ x
handed-next a rest all handed x is h =
    or_assoc handed (a.address && a.through) (any_of (map is_handed rest)) ∙ ap (λ l. handed || any_of (map is_handed l)) (sym is) ∙ h

pub first-next : (a : JudgedArg) (rest all : List JudgedArg) (first : Option Place) (x : Option Place) → all ≡ a ∷ rest →
    earlier_of first (first_place (joined (map (λ b. b.faults) all))) ≡ x →
    earlier_of (earlier_of first (first_place a.faults)) (first_place (joined (map (λ b. b.faults) rest))) ≡ x
first-next a rest all first x is h =
    sym (earlier_of-assoc first (first_place a.faults) (first_place (joined (map (λ b. b.faults) rest))))
    ∙ ap (λ p. earlier_of first p) (sym (first_place-append a.faults (joined (map (λ b. b.faults) rest))))
    ∙ ap (λ l. earlier_of first (first_place (joined (map (λ b. b.faults) l)))) (sym is) ∙ h

-- after the last argument
pub fit-done : (signature : Option Signature) (args : List CArg) (k : ℕ) (context : Context) (at : Place) (fit x : Bool) →
    length args ≤ k → k ≤ length args →
    (fit && fit_from signature k (judged_args (drop k args) context at)) ≡ x → (fit && wants_up_to signature (length args)) ≡ x
fit-done signature args k context at fit x low high h =
    let same : length args ≡ k = omega arith in
    ap (λ n. fit && wants_up_to signature n) same
    ∙ ap (λ b. fit && b) (sym (fit-end signature k))
    ∙ ap (λ l. fit && fit_from signature k (judged_args l context at)) (sym (drop_all k args low)) ∙ h

-- ---- one more step of a place

pub type-next : (all rest : List StepJudgement) (step : StepJudgement) (context : Context) (at : Place) (ty next x : Option CType) → all ≡ step ∷ rest →
    next ≡ (step context at ty).ty →
    (judge_steps all context at ty).ty ≡ x → (judge_steps rest context at next).ty ≡ x
type-next all rest step context at ty next x is to h =
    ap (λ t. (judge_steps rest context at t).ty) to ∙ ap (λ l. (judge_steps l context at ty).ty) (sym is) ∙ h

pub place-next : (all rest : List StepJudgement) (step : StepJudgement) (context : Context) (at : Place) (ty next : Option CType) (first x : Option Place) →
    all ≡ step ∷ rest → next ≡ (step context at ty).ty →
    earlier_of first (first_place (judge_steps all context at ty).faults) ≡ x →
    earlier_of (earlier_of first (first_place (step context at ty).faults)) (first_place (judge_steps rest context at next).faults) ≡ x
place-next all rest step context at ty next first x is to h =
    ap (λ t. earlier_of (earlier_of first (first_place (step context at ty).faults)) (first_place (judge_steps rest context at t).faults)) to
    ∙ sym (earlier_of-assoc first (first_place (step context at ty).faults) (first_place (judge_steps rest context at (step context at ty).ty).faults))
    ∙ ap (λ p. earlier_of first p) (sym (first_place-append (step context at ty).faults (judge_steps rest context at (step context at ty).ty).faults))
    ∙ ap (λ l. earlier_of first (first_place (judge_steps l context at ty).faults)) (sym is) ∙ h
