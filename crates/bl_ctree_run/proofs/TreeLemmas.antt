-- The n-th point, as it is told, leads where the n-th of the points does.
use Rattle.std.proofs.Common.{◌≡◌, ℕ, zero, suc, ◌≢◌, ◌<◌, true, List, [], ◌∷◌, map, length, Option, Some, None, refl, sym, ap, ◌∙◌, subst, arith}
use Rattle.std.specs.Prelude.{option_and_then, option_map, slice_get, Result, Ok, Err, IfOk, IfSome}
use Rattle.bl_tree.proofs.Basics.{map_length}
use Rattle.bl_tree.specs.declared.memory.NoMemory.{NoMemory}
use Rattle.bl_eval.specs.declared.values.Did.{Did}
use Rattle.bl_ctree.specs.Actions.{Effect, Performed, done, effect_on, perform, values_there}
use Rattle.bl_ctree.specs.Store.{Store, with_frame, with_inputs}
use Rattle.bl_ctree_store.specs.declared.perform.Deed.{Deed}
use Rattle.bl_ctree_store.specs.declared.perform.Deed.TheVariants.{Silent, Acts, Copies, Gives}
use Rattle.bl_ctree_store.specs.Deeds.{deed_on, effect_of}
use Rattle.bl_ctree.specs.Control.{Control}
use Rattle.bl_ctree.specs.Instances.{Setting}
use Rattle.bl_ctree.specs.Points.{IsMember, here, there, Point, points}
use Rattle.bl_ctree_enabled.specs.declared.point.Point.{Point as PointNode}
use Rattle.bl_ctree_run.specs.declared.action.Action.{Action}
use Rattle.bl_ctree_run.specs.Running.{Acted, RunState, acted_at, action_at, action_of, stepped, stepped_by}
use Rattle.bl_ctree_enabled.specs.Spots.{Spot, effect_in, spot_below, spot_of}
use Rattle.bl_ctree_run.specs.inner.Spots.{after_by, unread}
use Rattle.bl_ctree_enabled.specs.Laws.{PointsAreListed}
use Rattle.bl_ctree_enabled.specs.Listing.{EnabledView, Lists, enabled}
use Rattle.bl_ctree_run.specs.inner.Spines.{fork_at}
use Rattle.bl_ctree_run.proofs.AfterLemmas.{leads_on}
use Rattle.bl_ctree_run.proofs.SpineLemmas.{spine_points}

pub record Nth (w : Setting) (c : Control) (all : List (Point Control)) (n : ℕ) (spot : Spot) : Type 0 where
  pub point : Point Control
  pub there_is : slice_get all n ≡ Some point
  pub among : IsMember (Point Control) point all
  pub told : unread (spot_below w [] point) ≡ spot

later : {w : Setting} {c : Control} {p : Point Control} {all : List (Point Control)} {n : ℕ} {spot : Spot} → Nth w c all n spot →
    Nth w c (p ∷ all) (suc n) spot
later nth = record { point = nth.point; there_is = nth.there_is; among = there nth.among; told = nth.told }

nth_of : (w : Setting) (c : Control) (all : List (Point Control)) (n : ℕ) (spot : Spot)
    → option_map unread (slice_get (map (spot_below w []) all) n) ≡ Some spot → Nth w c all n spot
nth_of w c [] n spot is = absurd cc
nth_of w c (p ∷ all) zero spot is = let same : unread (spot_below w [] p) ≡ spot = cc in record { point = p; there_is = refl; among = here; told = same }
nth_of w c (p ∷ all) (suc n) spot is = later (nth_of w c all n spot is)

led : (w : Setting) (s : RunState) (p : Point Control) (made : Option Performed) → IsMember (Point Control) p (points w 0 s.control)
    → ◌≡◌ {A = Option RunState} (option_map (λ made. record { control = after_by w 0 s.control p.path made.answer; store = made.store }) made)
    (option_map (λ made. record { control = p.after made.answer; store = made.store }) made)
led w s p None m = refl
led w s p (Some made) m = ap (λ c. Some (record { control = c; store = made.store })) (sym (leads_on w 0 s.control p m made.answer))

-- the same state by the point as it is told
told_steps : (w : Setting) (s : RunState) (n : ℕ) (spot : Spot) → Nth w s.control (points w 0 s.control) n spot
    → acted_at w s spot.instance spot.effect spot.path ≡ stepped w s n
told_steps w s n spot nth =
    ap (λ (spot : Spot). acted_at w s spot.instance spot.effect spot.path) (sym nth.told)
    ∙ led w s nth.point (perform w nth.point.action s.store) nth.among
    ∙ sym (ap (option_and_then (stepped_by w s)) nth.there_is)

-- the n-th point acts as it is told
pub acts_nth : (w : Setting) (s new : RunState) (n : ℕ) (p : PointNode) (r : Result Did NoMemory)
    → option_map unread (slice_get (map (spot_below w []) (points w 0 s.control)) n) ≡ Some (spot_of p)
    → Acted (acted_at w s p.instance (effect_in p.effect) p.path) s new r → Acted (stepped w s n) s new r
acts_nth w s new n p r is acted =
    subst (λ outcome. Acted outcome s new r) (told_steps w s n (spot_of p) (nth_of w s.control (points w 0 s.control) n (spot_of p) is)) acted

-- by its effect and the branches that lead to it
pub acts_told : (w : Setting) (s new : RunState) (p : PointNode) (effect : Effect) (path : List ℕ) (r : Result Did NoMemory) → effect_in p.effect ≡ effect →
    path ≡ p.path → Acted (acted_at w s p.instance effect path) s new r
    → Acted (acted_at w s p.instance (effect_in p.effect) p.path) s new r
acts_told w s new p effect path r is_effect is_path acted =
    subst (λ outcome. Acted outcome s new r)
    (ap (λ effect. acted_at w s p.instance effect path) (sym is_effect) ∙ ap (acted_at w s p.instance (effect_in p.effect)) is_path) acted

-- and its action is the one that is told
pub told_nth : (w : Setting) (all : List (Point Control)) (n : ℕ) (spot : Spot)
    → option_map unread (slice_get (map (spot_below w []) all) n) ≡ Some spot → option_map action_of (slice_get all n) ≡ Some (action_at spot)
told_nth w [] n spot is = absurd cc
told_nth w (p ∷ all) zero spot is = let same : unread (spot_below w [] p) ≡ spot = cc in ap (λ spot. Some (action_at spot)) same
told_nth w (p ∷ all) (suc n) spot is = told_nth w all n spot is

-- ---- points that are chosen

-- of those that are listed
pub chosen_listed : PointsAreListed → (w : Setting) (c : Control) (l : EnabledView) (n : ℕ) (spot : Spot) → Lists w (fork_at 0 c) l
    → Some spot ≡ slice_get (enabled l) n → slice_get (map (spot_below w []) (points w 0 c)) n ≡ Some spot
chosen_listed law w c l n spot lists is =
    ap (λ spots. slice_get spots n) (spine_points w l law 0 c lists (λ none. nothing (is ∙ ap (λ spots. slice_get spots n) none))) ∙ sym is
  where
    nothing : ◌≡◌ {A = Option Spot} (Some spot) (slice_get [] n) → ⊥
    nothing is = absurd cc

pub chosen_some : PointsAreListed → (w : Setting) (c : Control) (l : EnabledView) (n : ℕ) → Lists w (fork_at 0 c) l → {P : Type 0} (found : Option P)
    (f : P → Spot) → option_map f found ≡ slice_get (enabled l) n
    → IfSome found (λ p. slice_get (map (spot_below w []) (points w 0 c)) n ≡ Some (f p))
chosen_some law w c l n lists None f is = tt
chosen_some law w c l n lists (Some p) f is = chosen_listed law w c l n (f p) lists is

-- as many as are listed
pub count_listed : PointsAreListed → (w : Setting) (c : Control) (l : EnabledView) → Lists w (fork_at 0 c) l → enabled l ≢ []
    → length (enabled l) ≡ length (points w 0 c)
count_listed law w c l lists some =
    ap length (sym (spine_points w l law 0 c lists some)) ∙ map_length (spot_below w []) (points w 0 c)

-- some may act where so many are counted
pub some_counted : (l : EnabledView) (count : ℕ) → count ≡ length (enabled l) → 0 < count → enabled l ≢ []
some_counted l count is some none = absurd (omega (arith, is, some, ap length none))

-- ---- a test

told_all : (w : Setting) (all : List (Point Control)) → map action_at (map (spot_below w []) all) ≡ map action_of all
told_all w [] = refl
told_all w (p ∷ all) = ap (λ rest. action_of p ∷ rest) (told_all w all)

-- the actions as they are told
pub told_actions : (w : Setting) (found : List PointNode) (all : List (Point Control)) (r : Result (List Action) NoMemory) →
    map spot_of found ≡ map (spot_below w []) all
    → IfOk r (λ actions. actions ≡ map action_at (map spot_of found)) → IfOk r (λ actions. actions ≡ map action_of all)
told_actions w found all (Ok actions) same told = told ∙ ap (map action_at) same ∙ told_all w all
told_actions w found all (Err e) same told = told

-- ---- an action that tests nothing

done_map : {X : Type 0} (f : X → Store) (found : Option X) →
    ◌≡◌ {A = Option Performed} (option_map (λ x. done (f x)) found) (option_map done (option_map f found))
done_map f None = refl
done_map f (Some x) = refl

effect_as_deed : (w : Setting) (i : ℕ) (deed : Deed) (store : Store) → effect_on w i (effect_of deed) store ≡ option_map done (deed_on w i deed store)
effect_as_deed w i Silent store = refl
effect_as_deed w i (Acts s) store = refl
effect_as_deed w i (Copies callee inputs) store = done_map (λ values. with_frame callee (with_inputs values) store) (values_there w store i inputs.now)
effect_as_deed w i (Gives callee target) store = refl

module _ (w : Setting) (s : RunState) (i : ℕ) (deed : Deed) (path : List ℕ) where
  abbrev led_to : Performed → RunState
  led_to made = record { control = after_by w 0 s.control path made.answer; store = made.store }

  deed_leads : (left : Option Store) → deed_on w i deed s.store ≡ left → acted_at w s i (effect_of deed) path ≡ option_map led_to (option_map done left)
  deed_leads left is = ap (option_map led_to) (effect_as_deed w i deed s.store ∙ ap (option_map done) is)

  -- it is done
  pub deed_done : (control : Control) (new : Store) → control ≡ after_by w 0 s.control path true → deed_on w i deed s.store ≡ Some new
      → acted_at w s i (effect_of deed) path ≡ Some (record { control = control; store = new })
  deed_done control new leads is = deed_leads (Some new) is ∙ ap (λ c. Some (record { control = c; store = new })) (sym leads)

  -- it traps
  pub deed_traps : deed_on w i deed s.store ≡ None → acted_at w s i (effect_of deed) path ≡ None
  deed_traps is = deed_leads None is
