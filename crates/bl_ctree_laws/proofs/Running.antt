-- What runs reach is left of the entry's body, and their lists of steps are those of plain trees.
use Rattle.std.proofs.Common.{◌≡◌, ℤ, suc, true, List, refl, sym, ap, subst}
use Rattle.bl_graph_nodes.specs.Plain.{Block}
use Rattle.bl_ctree.specs.Actions.{Action}
use Rattle.bl_ctree.specs.Control as control
use Rattle.bl_ctree.specs.Instances.{Setting}
use Rattle.bl_ctree.specs.Laws as laws
use Rattle.bl_ctree.specs.Residual as located_left
use Rattle.bl_ctree.specs.Positions.{Item}
use Rattle.bl_ctree.specs.Reaches.{Reaches, after_tick, at_first}
use Rattle.bl_ctree.specs.Store.{Store}
use Rattle.bl_ctree.specs.Ticks as ticks
use Rattle.bl_ctree_laws.specs.Bridge.{plain_tree}
use Rattle.bl_ctree_laws.specs.Ends.{none, step, traps}
use Rattle.bl_ctree_laws.specs.Residual.{PlainResidual, PlainResidualTree, has_begun, not_begun}
use Rattle.bl_ctree_laws.specs.Runs.{ListsArePlain, PlainList, ReachedInsideIsPlainResidual, ReachedIsPlainResidual, StillIsPlain, entry_block}
use Rattle.bl_ctree_laws.proofs.Backward.{plain_steps_are_steps}
use Rattle.bl_ctree_laws.proofs.Forward.{steps_are_plain}
use Rattle.bl_ctree_laws.proofs.Leaving.{keeps, waking_keeps_left}
use Rattle.bl_ctree_laws.proofs.Waking.{waking_is_plain}

pub tree_same : (c c' : control.Control) (store store' : Store) → ticks.Rests c store ≡ ticks.Rests c' store' → c ≡ c'
tree_same c c' store store' e = cc

module _ (kept : laws.StepsKeepResidual) (begun : laws.WokenTreeIsResidual) (between : laws.ReachedIsResidual) where
  after_steps : {w : Setting} {items : List Item} {body : Block} {c : control.Control} {store : Store} {actions : List Action} {c' : control.Control}
      {store' : Store} {end : ticks.End} → ticks.Steps w c store actions end → end ≡ ticks.Rests c' store' → located_left.Residual w true 0 items c →
      PlainResidual w true 0 body (plain_tree c) → PlainResidual w true 0 body (plain_tree c')
  after_steps {w} {body = body} {c' = c'} {store' = store'} (ticks.none {c = c} {store = store}) e p left =
      subst (λ c. PlainResidual w true 0 body (plain_tree c)) (tree_same c c' store store' e) left
  after_steps (ticks.traps t) e p left = absurd cc
  after_steps {w} {items} (ticks.step {c = c} {a = a} {c' = c'} s more) e p left =
      after_steps more e (kept w true 0 items s.answer a c c' s.moves p)
      (keeps left (steps_are_plain w true 0 items c s.answer a c' p s.moves).moves)

  -- the woken tree of a whole one
  pub woken_left : {w : Setting} {body : Block} (c : control.Control) → located_left.ResidualTree w c → PlainResidualTree w body (plain_tree c) →
      PlainResidual w true 0 body (plain_tree (control.woken c))
  woken_left {w} {body} c p left = subst (PlainResidual w true 0 body) (sym (waking_is_plain w c p)) (waking_keeps_left w body (plain_tree c) left)

  pub reached : {w : Setting} {rows : List (List ℤ)} {c : control.Control} {store : Store} → Reaches w rows c store →
      PlainResidualTree w (entry_block w) (plain_tree c)
  reached at_first = not_begun
  reached {w} (after_tick {before = rows} {c = c} {store} before tick paused is) =
      let p = between w rows c store before in
      has_begun (after_steps tick.maximal.steps refl (begun w c p) (woken_left c p (reached before)))

  pub reached_is_left : ReachedIsPlainResidual
  reached_is_left w rows c store r = reached r

  pub reached_inside_is_left : ReachedInsideIsPlainResidual
  reached_inside_is_left w rows row actions c store r =
      let p = between w rows r.tree _ r.before in
      after_steps r.steps refl (begun w r.tree p) (woken_left r.tree p (reached r.before))

  pub lists_are_plain : ListsArePlain
  lists_are_plain w stood items c store actions end p list = go list p
    where
      go : {c : control.Control} {store : Store} {actions : List Action} {end : ticks.End} → ticks.Steps w c store actions end →
          located_left.Residual w stood 0 items c → PlainList w c store actions end
      go ticks.none p = record { labels = _; steps = none; as_many = refl }
      go (ticks.traps {c = c} {a = a} t) p =
          let m = steps_are_plain w stood 0 items c t.answer a t.after p t.moves in
          record { labels = _; steps = traps (record { answer = t.answer; deed = _; after = _; moves = m.moves; fails = t.fails }); as_many = refl }
      go (ticks.step {c = c} {a = a} {c' = c'} s more) p =
          let m = steps_are_plain w stood 0 items c s.answer a c' p s.moves in
          let rest = go more (kept w stood 0 items s.answer a c c' s.moves p) in
          record {
            labels = _;
            steps = step (record { answer = s.answer; deed = _; moves = m.moves; performs = s.performs }) rest.steps;
            as_many = ap suc rest.as_many;
          }

pub still_is_plain : StillIsPlain
still_is_plain w stood items c left armed still d a n c' move =
    let step = plain_steps_are_steps w stood 0 items c d a n c' left armed move in still d step.action step.after step.moves
