-- Picked steps are steps, and lists of them go on.
use Rattle.std.proofs.Common.{◌≡◌, zero, suc, ℕ, true, List, [], ◌∷◌, ◌++◌, refl, subst}
use Rattle.std.specs.Prelude.{Some, slice_get}
use Rattle.bl_ctree.specs.Actions.{Action}
use Rattle.bl_ctree.specs.Control.{Control}
use Rattle.bl_ctree.specs.Instances.{Setting}
use Rattle.bl_ctree.specs.Laws.{PointsMove, StepsAreListed}
use Rattle.bl_ctree.specs.Points.{IsMember, here, points, there}
use Rattle.bl_ctree.specs.Store.{Store}
use Rattle.bl_ctree.specs.Ticks.{End, Rests, Steps, none, step, traps}
use Rattle.bl_walk.specs.declared.choice.Choice.{Choice}
use Rattle.bl_walk.specs.Laws.{PicksAreSteps, PointsStepOrTrap}
use Rattle.bl_walk.specs.Walks.{Picks, no_step, one_step, trap_step}
use Rattle.bl_ctree.proofs.Listing.{can_true}

pub among_at : {A : Type 0} (xs : List A) (k : ℕ) (x : A) → slice_get xs k ≡ Some x → IsMember A x xs
among_at [] k x e = cc
among_at {A} (y ∷ xs) zero x e = let same : y ≡ x = cc in subst (λ (z : A). IsMember A z (y ∷ xs)) same here
among_at (y ∷ xs) (suc k) x e = there (among_at xs k x e)

pub step_or_trap : PointsMove → StepsAreListed → PointsStepOrTrap
step_or_trap moves listed = record {
  steps = λ w c store point done among performs.
      (listed w c store point.action (point.after done.answer) done.store).1 (record {
        answer = done.answer;
        listed = record { point = point; among = among; acts = refl; leads = refl };
        performs = performs;
      });
  traps = λ w c store point among fails. record {
    answer = true;
    after = point.after true;
    moves = moves w 0 c point among true (can_true point.action.effect);
    fails = fails;
  };
}

module _ (law : PointsStepOrTrap) (w : Setting) where
  are_steps : {choice last : Choice} {c : Control} {store : Store} {actions : List Action} {end : End} →
      Picks w choice c store actions last end → Steps w c store actions end
  are_steps no_step = none
  are_steps (trap_step {c = c} {store = store} point is fails) = traps (law.traps w c store point (among_at (points w 0 c) _ point is) fails)
  are_steps (one_step {c = c} {store = store} point done is performs rest) =
      step (law.steps w c store point done (among_at (points w 0 c) _ point is) performs) (are_steps rest)

pub picks_are_steps : PointsStepOrTrap → PicksAreSteps
picks_are_steps law w choice last c store actions end picks = are_steps law w picks

-- a list of picked steps goes on where it rests
pub picks_append : {w : Setting} {choice mid last : Choice} {c : Control} {store : Store} {c' : Control} {store' : Store}
    {front rest : List Action} {end : End} → Picks w choice c store front mid (Rests c' store') → Picks w mid c' store' rest last end →
    Picks w choice c store (front ++ rest) last end
picks_append no_step more = more
picks_append (one_step point done is performs front) more = one_step point done is performs (picks_append front more)
