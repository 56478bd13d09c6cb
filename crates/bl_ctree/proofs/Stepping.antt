-- Lists of steps: their fronts, one behind another, and what a run reaches by them.
use Rattle.std.proofs.Common.{◌≡◌, List, [], ◌∷◌, ◌++◌, refl, sym, subst}
use Rattle.bl_ctree.specs.Actions.{Action}
use Rattle.bl_ctree.specs.Control.{Control}
use Rattle.bl_ctree.specs.Instances.{Setting}
use Rattle.bl_ctree.specs.Laws.{FrontsAreSteps, MaximalIsSteps, StepsFollow, Taking}
use Rattle.bl_ctree.specs.Steps.{Step, Traps}
use Rattle.bl_ctree.specs.Store.{Store}
use Rattle.bl_ctree.specs.Ticks.{End, Rests, Trapped, Steps, none, traps, step}

taking_none : (w : Setting) (c : Control) (store : Store) → Taking w c store []
taking_none w c store = record { end = Rests c store; steps = none }

taking_trap : {w : Setting} {c : Control} {store : Store} {a b : Action} (front rest : List Action) → b ≡ a → front ++ rest ≡ [] →
    Traps w c store a → Taking w c store (b ∷ front)
taking_trap {w} {c} {store} {a} {b} [] rest same over t = record { end = Trapped; steps = traps (subst (λ a. Traps w c store a) (sym same) t) }
taking_trap (x ∷ front) rest same over t = absurd cc

taking_step : {w : Setting} {c : Control} {store : Store} {a b : Action} {c' : Control} {store' : Store} {front : List Action} → b ≡ a →
    Step w c store a c' store' → Taking w c' store' front → Taking w c store (b ∷ front)
taking_step {w} {c} {store} {c' = c'} {store' = store'} same s t =
    record { end = t.end; steps = step (subst (λ a. Step w c store a c' store') (sym same) s) t.steps }

head_same : (a b : Action) (xs ys : List Action) → a ∷ xs ≡ b ∷ ys → a ≡ b
head_same a b xs ys e = cc

tail_same : (a b : Action) (xs ys : List Action) → a ∷ xs ≡ b ∷ ys → xs ≡ ys
tail_same a b xs ys e = cc

front_taken : {w : Setting} {c : Control} {store : Store} {all : List Action} {end : End} → Steps w c store all end →
    (front rest : List Action) → front ++ rest ≡ all → Taking w c store front
front_taken {w} {c} {store} none [] rest e = taking_none w c store
front_taken none (b ∷ front) rest e = absurd cc
front_taken {w} {c} {store} (traps t) [] rest e = taking_none w c store
front_taken (traps {a = a} t) (b ∷ front) rest e = taking_trap front rest (head_same b a (front ++ rest) [] e) (tail_same b a (front ++ rest) [] e) t
front_taken {w} {c} {store} (step s more) [] rest e = taking_none w c store
front_taken (step {a = a} {rest = after} s more) (b ∷ front) rest e =
    taking_step (head_same b a (front ++ rest) after e) s (front_taken more front rest (tail_same b a (front ++ rest) after e))

pub fronts_are_steps : FrontsAreSteps
fronts_are_steps w c store front rest end steps = front_taken steps front rest refl

follow : {w : Setting} {c : Control} {store : Store} {front rest : List Action} {middle end : End} {c' : Control} {store' : Store} →
    Steps w c store front middle → middle ≡ Rests c' store' → Steps w c' store' rest end → Steps w c store (front ++ rest) end
follow {w} {rest = rest} {end = end} {c' = c'} {store' = store'} (none {c} {store}) e more =
    subst (λ c. Steps w c store rest end) (sym (tree_same c c' store store' e))
    (subst (λ store. Steps w c' store rest end) (sym (store_same c c' store store' e)) more)
  where
    tree_same : (c c' : Control) (store store' : Store) → Rests c store ≡ Rests c' store' → c ≡ c'
    tree_same c c' store store' e = cc

    store_same : (c c' : Control) (store store' : Store) → Rests c store ≡ Rests c' store' → store ≡ store'
    store_same c c' store store' e = cc
follow (traps t) e more = absurd cc
follow (step s inner) e more = step s (follow inner e more)

pub steps_follow : StepsFollow
steps_follow w c store front rest c' store' end first then = follow first refl then

pub maximal_is_steps : MaximalIsSteps
maximal_is_steps w c store actions end maximal = maximal.steps
