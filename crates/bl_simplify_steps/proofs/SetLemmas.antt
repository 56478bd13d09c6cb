-- What is known after an assignment, and assignments that change nothing.
use Rattle.std.proofs.Common.{◌≡◌, Bool, true, List, [], ◌∷◌, ◌++◌, map, Option, Some, None, refl, ap, ◌∙◌}
use Rattle.std.specs.List.{list_all}
use Rattle.std.specs.Prelude.{All, is_some, option_and_then}
use Rattle.bl_tree.specs.declared.text.Text.{Text}
use Rattle.bl_tree.specs.declared.place.Place.{Place}
use Rattle.bl_tree.specs.declared.c.CExpr.{CExpr}
use Rattle.bl_tree.specs.declared.c.CIndex.{CIndex}
use Rattle.bl_tree.specs.declared.c.CPlace.{CPlace, fold-roll-CPlace, roll-CPlace}
use Rattle.bl_tree.specs.declared.c.CStep.{CStep, fold-roll-CStep, roll-CStep}
use Rattle.bl_tree.specs.declared.c.CStmt.{CStmt}
use Rattle.bl_ctext_semantics.proofs.Induction.{ExprCases, induct_place}
use Rattle.std.proofs.lemmas.List.Elements.{All-head}
use Rattle.bl_simplify_laws.specs.declared.facts.CSpot.{CSpot}
use Rattle.bl_simplify_laws.specs.declared.facts.Fact.{Fact}
use Rattle.bl_simplify_laws.specs.Known.{Valuation, fact_in, place_is, spot_told, told}
use Rattle.bl_simplify_laws.specs.Rules.{AlikeWhere, Facts, RuleSame}
use Rattle.bl_simplify_laws.specs.Spots.{first_of, member_of_step, spot_of_place}
use Rattle.bl_simplify_laws.specs.Steps.{after_set, same_whole, set_known, set_stmt, without_spot, without_spots}
use Rattle.bl_simplify_steps.specs.inner.Looser.{entry_of, set_entry}
use Rattle.bl_simplify_facts.specs.inner.Told.{step_is}

-- ---- a place that is a spot lies in it

some-of : {A : Type 0} (a b : A) → Some a ≡ Some b → a ≡ b
some-of a b h = cc

abbrev Nothing : {A : Type 0} → A → Type 0
Nothing a = Unit {0}

abbrev OfStep : CStep → Type 0
OfStep s = (m : Text) → step_is s ≡ Some m → member_of_step s ≡ m

abbrev OfPlace : CPlace → Type 0
OfPlace p = (spot : CSpot) → (place_is p).spot ≡ Some spot → spot_of_place p ≡ spot

step-member : (name : Text) (i : Option CIndex) → OfStep (roll-CStep (record { member = name; index = i }))
step-member name None m is = let own : Some name ≡ Some m = rw fold-roll-CStep at is in rw fold-roll-CStep (some-of name m own)
step-member name (Some i) m is = let no : None ≡ Some m = rw fold-roll-CStep at is in cc

place-spot : (through : Bool) (name : Text) (steps : List CStep) → All OfStep steps →
    OfPlace (roll-CPlace (record { through = through; name = name; steps = steps }))
place-spot through name steps h spot is = rw fold-roll-CPlace (by steps h (rw fold-roll-CPlace at is))
  where
    one : (s : CStep) (o : Option Text) → step_is s ≡ o → OfStep s → spot_told through name (o ∷ []) ≡ Some spot →
        record { through = through; name = name; first = Some (member_of_step s) } ≡ spot
    one s None e h is = cc
    one s (Some m) e h is =
        ap (λ n. record { through = through; name = name; first = Some n }) (h m e)
        ∙ some-of (record { through = through; name = name; first = Some m }) spot is

    more : (o p : Option Text) (rest : List (Option Text)) → spot_told through name (o ∷ p ∷ rest) ≡ Some spot → ⊥
    more None None rest is = cc
    more None (Some n) rest is = cc
    more (Some m) None rest is = cc
    more (Some m) (Some n) rest is = cc

    by : (steps : List CStep) → All OfStep steps → spot_told through name (map step_is steps) ≡ Some spot →
        record { through = through; name = name; first = first_of (map member_of_step steps) } ≡ spot
    by [] h is = some-of (record { through = through; name = name; first = None }) spot is
    by (s ∷ []) h is = one s (step_is s) refl (All-head OfStep s [] h) is
    by (s ∷ t ∷ steps) h is = absurd (more (step_is s) (step_is t) (map step_is steps) is)

expr_cases : ExprCases Nothing Nothing Nothing Nothing Nothing OfPlace OfStep
expr_cases = record {
  value = λ e h. tt;
  address = λ p h. tt;
  literal = λ t n. tt;
  read = λ p h. tt;
  call = λ c h. tt;
  negation = λ e h. tt;
  two = λ op a b h k. tt;
  calling = λ name args h. tt;
  expr = λ place what h. tt;
  index = λ signed at length h. tt;
  place = place-spot;
  step = λ name i h. step-member name i;
}

spot-around : (p : CPlace) → OfPlace p
spot-around = induct_place Nothing Nothing Nothing Nothing Nothing OfPlace OfStep expr_cases

-- ---- what is known after an assignment

known-set : (o : Option CSpot) (around : CSpot) (fact : Option Fact) (known : Valuation) → ((spot : CSpot) → o ≡ Some spot → around ≡ spot) →
    entry_of o fact ++ without_spot around known ≡ set_known o around fact known
known-set None around fact known h = refl
known-set (Some spot) around (Some fact) known h = ap (λ s. (spot, fact) ∷ without_spot s known) (h spot refl)
known-set (Some spot) around None known h = ap (λ s. without_spot s known) (h spot refl)

-- what was known but for the place, with the new fact before it
pub set-made : (place : CPlace) (e : CExpr) (known first made : Valuation) (fact : Option Fact) (gone : List CSpot) →
    gone ≡ spot_of_place place ∷ [] → fact ≡ (told e).fact known → first ≡ set_entry place fact → made ≡ first ++ without_spots gone known →
    made ≡ after_set place e known
set-made place e known first made fact gone only is begins is_made =
    is_made
    ∙ (ap (λ v. v ++ without_spots gone known) begins
    ∙ (ap (λ g. set_entry place fact ++ without_spots g known) only
    ∙ (ap (λ f. set_entry place f ++ without_spot (spot_of_place place) known) is
    ∙ known-set (place_is place).spot (spot_of_place place) ((told e).fact known) known (spot-around place))))

-- ---- an assignment that changes nothing

pub changes-nothing : RuleSame → (facts : Facts) (place : CPlace) (e : CExpr) → is_some (place_is place).spot ≡ true →
    list_all (λ known. same_whole ((told e).fact known) (option_and_then (λ spot. fact_in spot known) (place_is place).spot)) facts ≡ true →
    (to : Place) (rest new : List CStmt) → AlikeWhere facts rest new → AlikeWhere facts (set_stmt to place e ∷ rest) new
changes-nothing rule facts place e some same to rest new alike = by (place_is place).spot refl some same
  where
    by : (o : Option CSpot) → (place_is place).spot ≡ o → is_some o ≡ true →
        list_all (λ known. same_whole ((told e).fact known) (option_and_then (λ spot. fact_in spot known) o)) facts ≡ true →
        AlikeWhere facts (set_stmt to place e ∷ rest) new
    by None is some same = cc
    by (Some spot) is some same = rule facts to place e spot rest new is same alike
