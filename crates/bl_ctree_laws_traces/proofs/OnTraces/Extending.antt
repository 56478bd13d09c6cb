-- Where ticks are bounded every list of steps goes on to a maximal one: the first listed point acts as long as there is one.
use Rattle.std.proofs.Common.{◌≡◌, ℕ, zero, suc, ◌+◌, ◌<◌, ◌≤◌, true, List, [], ◌∷◌, ◌++◌, length, refl, sym, ap, subst, arith}
use Rattle.bl_ctree.specs.Actions.{Action}
use Rattle.bl_ctree.specs.Control.{Control, woken}
use Rattle.bl_ctree.specs.Instances.{Setting, setting_of}
use Rattle.bl_ctree.specs.Laws.{PointsAct, PointsMove, StepsFollow, StillIsUnlisted}
use Rattle.bl_ctree.specs.Points.{IsMember, Point, here, points}
use Rattle.bl_ctree.specs.Steps.{Acting, fails, leads}
use Rattle.bl_ctree.specs.Store.{Store, woken_store}
use Rattle.bl_ctree.specs.Ticks.{Rests, Steps, Trapped, none, step, traps}
use Rattle.bl_ctree_laws_traces.specs.Traces.Maximal.{BoundedExtend, BoundedHaveTicks, ExtendsToMaximal}
use Rattle.bl_ctree.proofs.Listing.{can_true}

one_longer : (actions : List Action) (a : Action) → length (actions ++ a ∷ []) ≡ suc (length actions)
one_longer [] a = refl
one_longer (x ∷ actions) a = ap suc (one_longer actions a)

module _ (still : StillIsUnlisted) (moves : PointsMove) (act : PointsAct) (follow : StepsFollow) (w : Setting) (c0 : Control) (store0 : Store)
    (most : ℕ) (bounded : (list : List Action) (c : Control) (store : Store) → Steps w c0 store0 list (Rests c store) → length list ≤ most) where
  -- a list that leaves room for so many steps goes on
  abbrev Extends : ℕ → Type 0
  Extends left =
      (actions : List Action) (c : Control) (store : Store) → Steps w c0 store0 actions (Rests c store) → most < length actions + left → ExtendsToMaximal w c store

  by_step : (left : ℕ) → Extends left → (actions : List Action) (c : Control) (store : Store) → Steps w c0 store0 actions (Rests c store) →
      most < length actions + suc left → (a : Action) → Acting w c store a → ExtendsToMaximal w c store
  by_step left further actions c store taken few a (fails trap) =
      record { rest = a ∷ []; end = Trapped; maximal = record { steps = traps trap; over = tt } }
  by_step left further actions c store taken few a (leads {c'} {store'} one) =
      let long : length (actions ++ a ∷ []) ≡ suc (length actions) = one_longer actions a in
      let more : ExtendsToMaximal w c' store' =
      further (actions ++ a ∷ []) c' store' (follow w c0 store0 actions (a ∷ []) c store (Rests c' store') taken (step one none)) (omega arith) in
      record { rest = a ∷ more.rest; end = more.end; maximal = record { steps = step one more.maximal.steps; over = more.maximal.over } }

  by_points : (left : ℕ) → Extends left → (actions : List Action) (c : Control) (store : Store) → Steps w c0 store0 actions (Rests c store) →
      most < length actions + suc left → (all : List (Point Control)) → points w 0 c ≡ all → ExtendsToMaximal w c store
  by_points left further actions c store taken few [] e =
      record { rest = []; end = Rests c store; maximal = record { steps = none; over = (still w c).1 e } }
  by_points left further actions c store taken few (p ∷ all) e =
      by_step left further actions c store taken few p.action (act w c store true p.action (p.after true)
      (moves w 0 c p (subst (IsMember (Point Control) p) (sym e) here) true (can_true p.action.effect)))

  extend : (left : ℕ) → Extends left
  extend zero actions c store taken few = let long : length actions ≤ most = bounded actions c store taken in absurd (omega arith)
  extend (suc left) actions c store taken few = by_points left (extend left) actions c store taken few (points w 0 c) refl

pub bounded_go_on : StillIsUnlisted → PointsMove → PointsAct → StepsFollow → BoundedExtend
bounded_go_on still moves act follow most structs units entry bounded rows row actions c store r =
    let w : Setting = setting_of structs units entry in
    extend still moves act follow w (woken r.tree) (woken_store row r.store) most
    (λ actions c store taken. bounded rows row actions (Rests c store) (record { tree = r.tree; store = r.store; before = r.before; steps = taken }))
    (suc most) actions c store r.steps (omega arith)

pub bounded_have_ticks : BoundedExtend → BoundedHaveTicks
bounded_have_ticks go_on most structs units entry bounded rows row c store reached =
    let on = go_on most structs units entry bounded rows row [] (woken c) (woken_store row store)
    (record { tree = c; store = store; before = reached; steps = none }) in
    record { end = on.end; tick = record { actions = on.rest; maximal = on.maximal } }
