-- The trees that runs reach stand at their places.
use Rattle.std.proofs.Common.{◌≡◌, ℤ, Bool, true, false, List, Option, Some, None, refl, sym, ◌∙◌, subst}
use Rattle.std.specs.Prelude.{[], option_map, unwrap_or}
use Rattle.bl_tree.specs.declared.tree.Unit.{Unit as UnitDef}
use Rattle.bl_graph_nodes.specs.Plain.{Block}
use Rattle.bl_graph.specs.Laws.{InstantsPass}
use Rattle.bl_graph.specs.Walks.{stay}
use Rattle.bl_ctree.specs.Actions.{Action}
use Rattle.bl_ctree.specs.Control as control
use Rattle.bl_ctree.specs.Instances.{Setting, unit_at}
use Rattle.bl_ctree.specs.Positions.{Item, body_items}
use Rattle.bl_ctree.specs.Laws.{ReachedIsResidual, StepsKeepResidual, WokenTreeIsResidual}
use Rattle.bl_ctree.specs.Residual as left_tree
use Rattle.bl_ctree.specs.Residual.{Residual, ResidualTree}
use Rattle.bl_ctree.specs.Means.{entry_items}
use Rattle.bl_ctree.specs.Reaches.{Reaches, after_tick, at_first}
use Rattle.bl_ctree.specs.Store.{Store}
use Rattle.bl_ctree.specs.Ticks as ticks
use Rattle.bl_ctree_laws.specs.Bridge.{plain_items, plain_tree}
use Rattle.bl_ctree_laws.specs.Laws.{AnswersArePlain, StatementsArePlain, StepsArePlain, WakingIsPlain}
use Rattle.bl_ctree_laws.specs.Runs.{entry_block}
use Rattle.bl_ctree_laws.specs.Shrinks.{EndsShrink, MayIsCould, Paces}
use Rattle.bl_ctree_laws.specs.Trees.{Tree, do_block, is_settled, woken}
use Rattle.bl_ctree_laws_traces.specs.Progress.FitsGraph.{FitsGraph}
use Rattle.bl_ctree_laws_traces.specs.Progress.Places.{AllCallable, CallableAll, whole}
use Rattle.bl_ctree_laws_traces.specs.Progress.Reached.{ReachedCould, ReachedFitsGraph, ReachedInsideFitsGraph, TreeFitsGraph, TreeFitsGraphNow, not_begun, rests}
use Rattle.bl_ctree_laws_traces.proofs.OnProgress.Acting.{unsettled_could}
use Rattle.bl_ctree_laws_traces.proofs.OnProgress.Beginning.{do_lives}
use Rattle.bl_ctree_laws_traces.proofs.OnProgress.Keeping.{steps_keep_fits_graph}
use Rattle.bl_ctree_laws_traces.proofs.OnProgress.Waking.{waking_keeps_fits_graph}
use Rattle.bl_ctree_laws.proofs.Running.{tree_same}

-- what waits for the next tick is settled
paused_settled : (nil settled : Bool) → ticks.resting_outcome nil settled ≡ ticks.Paused → settled ≡ true
paused_settled true settled e = absurd cc
paused_settled false true e = refl
paused_settled false false e = absurd cc

-- a block that begins in its own graph
block_lives : (w : Setting) (body : Block) → CallableAll w 0 body → FitsGraph w 0 (do_block body) (whole false body)
block_lives w body calls = do_lives body (whole false body) (record {
  edges = λ n m h. h;
  outs = λ n h. h;
  resumes = λ n h. record { from = n; begins = h; walk = stay n };
  beside = λ n m h. h;
  calls = calls;
}) (λ n h. record { from = n; begins = h; walk = stay n })

-- the entry's body is that of the unit of instance 0, so what it calls has instances
entry_calls : StatementsArePlain → (w : Setting) → AllCallable w → CallableAll w 0 (entry_block w)
entry_calls plain w all = by_unit (unit_at w 0) refl
  where
    by_unit : (found : Option UnitDef) → unit_at w 0 ≡ found →
        CallableAll w 0 (plain_items (unwrap_or (option_map (λ unit. body_items unit.body) found) []))
    by_unit None is = tt
    by_unit (Some unit) is = subst (CallableAll w 0) (plain.blocks unit.body []) (all 0 unit is)

module _ (kept : StepsKeepResidual) (begun : WokenTreeIsResidual) (between : ReachedIsResidual) (statements : StatementsArePlain)
    (answers : AnswersArePlain) (waking : WakingIsPlain) (steps : StepsArePlain) (pass : InstantsPass) (could : MayIsCould) (shrink : EndsShrink) where
  after_steps : (w : Setting) (stood : Bool) (body : Block) → Paces w → AllCallable w → {items : List Item} {c : control.Control} {store : Store}
      {actions : List Action} {c' : control.Control} {store' : Store} {end : ticks.End} → ticks.Steps w c store actions end →
      end ≡ ticks.Rests c' store' → Residual w true 0 items c → FitsGraph w 0 (plain_tree c) (whole stood body) → FitsGraph w 0 (plain_tree c') (whole stood body)
  after_steps w stood body pace all {c' = c'} {store' = store'} (ticks.none {c = c} {store = store}) e p live =
      subst (λ x. FitsGraph w 0 (plain_tree x) (whole stood body)) (tree_same c c' store store' e) live
  after_steps w stood body pace all (ticks.traps t) e p live = absurd cc
  after_steps w stood body pace all {items} (ticks.step {c = c} {a = a} {c' = c'} s more) e p live =
      let plain = steps w true 0 items c s.answer a c' p s.moves in
      after_steps w stood body pace all more e (kept w true 0 items s.answer a c c' s.moves p)
      (steps_keep_fits_graph pass shrink w 0 stood body (plain_tree c) s.answer _ plain.label (plain_tree c') pace all live
      (could w 0 (plain_tree c) s.answer _ plain.label (plain_tree c') plain.moves))

  -- a tree that is woken goes on, or begins
  woken_tree : (w : Setting) (body : Block) → CallableAll w 0 body → (c : Tree) → TreeFitsGraph w body c → TreeFitsGraphNow w body (woken c)
  woken_tree w body calls _ not_begun = record { stood = false; lives = block_lives w body calls }
  woken_tree w body calls _ (rests stood c settled live) =
      record { stood = true; lives = waking_keeps_fits_graph pass w 0 stood body c settled live }

  woken_live : (w : Setting) (c : control.Control) → AllCallable w → ResidualTree w c → TreeFitsGraph w (entry_block w) (plain_tree c) →
      TreeFitsGraphNow w (entry_block w) (plain_tree (control.woken c))
  woken_live w c all p live =
      subst (TreeFitsGraphNow w (entry_block w)) (sym (waking w c p)) (woken_tree w (entry_block w) (entry_calls statements w all) (plain_tree c) live)

  -- and after any steps it is there still
  inside : (w : Setting) (rows : List (List ℤ)) (c : control.Control) (store store' : Store) (actions : List Action) (c' : control.Control) (end : Store) →
      Paces w → AllCallable w → Reaches w rows c store → TreeFitsGraph w (entry_block w) (plain_tree c) →
      ticks.Steps w (control.woken c) store' actions (ticks.Rests c' end) → TreeFitsGraphNow w (entry_block w) (plain_tree c')
  inside w rows c store store' actions c' end pace all before live list =
      let p = between w rows c store before in
      let now = woken_live w c all p live in
      record { stood = now.stood; lives = after_steps w now.stood (entry_block w) pace all list refl (begun w c p) now.lives }

  settled_plain : (w : Setting) (c : control.Control) → ResidualTree w c → is_settled (plain_tree c) ≡ control.is_settled c
  settled_plain w c left_tree.not_begun = refl
  settled_plain w c (left_tree.has_begun {stood} left) = answers.settled w stood 0 (entry_items w) c left

  pub reached : (w : Setting) → Paces w → AllCallable w → {rows : List (List ℤ)} {c : control.Control} {store : Store} → Reaches w rows c store →
      TreeFitsGraph w (entry_block w) (plain_tree c)
  reached w pace all at_first = not_begun
  reached w pace all (after_tick {before = rows} {row} {c} {store} {c' = c'} {store' = store'} before tick paused is) =
      let now = inside w rows c store _ tick.actions c' store' pace all before (reached w pace all before) tick.maximal.steps in
      rests now.stood (plain_tree c')
      (settled_plain w c' (between w _ c' store' (after_tick before tick paused is)) ∙ paused_settled (control.is_nil c') (control.is_settled c') paused)
      now.lives

  pub reached_is_live : ReachedFitsGraph
  reached_is_live w rows c store pace all r = reached w pace all r

  pub reached_inside_is_live : ReachedInsideFitsGraph
  reached_inside_is_live w rows row actions c store pace all r =
      inside w rows r.tree r.store _ actions c store pace all r.before (reached w pace all r.before) r.steps

  pub reached_could : ReachedCould
  reached_could w rows row actions c store pace all r open_still =
      let now = reached_inside_is_live w rows row actions c store pace all r in
      unsettled_could w 0 now.stood (entry_block w) (plain_tree c) now.lives open_still
