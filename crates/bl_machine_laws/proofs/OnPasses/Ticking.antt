-- Ticks as passes: the lowest steps may act, and are steps of the tree of the program.
use Rattle.std.proofs.Common.{◌≡◌, ◌⊎◌, inl, inr, ⊎_elim, ℕ, Bool, true, false, List, [], ◌∷◌, ◌++◌}
use Rattle.std.proofs.Common.{Some, None, refl, sym, ap, ◌∙◌, subst, arith}
use Rattle.std.specs.Prelude.{ℤ, map}
use Rattle.bl_tree.proofs.Basics.{map_push, true_false_any}
use Rattle.bl_tree.specs.declared.tree.StructDef.{StructDef}
use Rattle.bl_tree.specs.declared.tree.Unit.{Unit as UnitDef}
use Rattle.bl_tree.specs.Program.{IsWellTyped}
use Rattle.bl_effects.specs.Rules.{Passes}
use Rattle.bl_graph_nodes.specs.Nodes.{Node}
use Rattle.bl_graph_nodes.specs.Steps.{StepLabel}
use Rattle.bl_ctree.specs.Actions.{Action}
use Rattle.bl_ctree.specs.Control as control
use Rattle.bl_ctree.specs.Control.{Control}
use Rattle.bl_ctree.specs.Instances.{Setting, setting_of, unit_at}
use Rattle.bl_ctree.specs.Laws.{ReachedInsideIsResidual, ReachedIsResidual, StepsFollow}
use Rattle.bl_ctree.specs.Residual.{Residual}
use Rattle.bl_ctree.specs.Means.{entry_items}
use Rattle.bl_ctree.specs.Reaches.{ReachesInside}
use Rattle.bl_ctree.specs.Steps as located
use Rattle.bl_ctree.specs.Store.{Store, woken_store}
use Rattle.bl_ctree.specs.Ticks as ticks
use Rattle.bl_ctree_laws.specs.Bridge.{deed_of, plain_tree}
use Rattle.bl_ctree_laws.specs.Ends.{done_by}
use Rattle.bl_ctree_laws.specs.Fitted.{Fitted, ReachedIsArmed}
use Rattle.bl_ctree_laws.specs.Laws.{AnswersArePlain, LocatedStep, PlainStepsAreSteps, StatementsArePlain, StepsArePlain, WakingIsPlain}
use Rattle.bl_ctree_laws.specs.Pending.{Deed}
use Rattle.bl_ctree_laws.specs.Runs.{entry_block}
use Rattle.bl_ctree_laws.specs.Shrinks.{MayIsCould, MovingIsUnsettled}
use Rattle.bl_ctree_laws.specs.Steps.{Anyway, Moves}
use Rattle.bl_ctree_laws.specs.Trees.{Tree, is_settled, woken}
use Rattle.bl_ctree_laws_confluence.specs.Deeds.Orderly.{AcceptedIsOrderly}
use Rattle.bl_ctree_laws_traces.specs.Progress.Accepted.{AcceptedTreesFitGraphs, ProgramsAreCallable}
use Rattle.bl_ctree_laws_traces.specs.Progress.Laws.{NodesAreInPart, UnsettledCould}
use Rattle.bl_ctree_laws_traces.specs.Progress.FitsGraph.{FitsGraph}
use Rattle.bl_ctree_laws_traces.specs.Progress.Places.{whole}
use Rattle.bl_ctree_laws_traces.specs.Ready.Never.{ReachedLowestMayAct}
use Rattle.bl_machine_laws.specs.Numbers.Turns as turns
use Rattle.bl_machine_laws.specs.Numbers.Turns.{AnsweredDeed}
use Rattle.bl_machine_laws.specs.Passes.Follows as follows
use Rattle.bl_machine_laws.specs.Passes.Low.{LowSteps, LowTrap, Lowest, on, stay}
use Rattle.bl_machine_laws.specs.Passes.Orders.{Orders}
use Rattle.bl_machine_laws.specs.Passes.Pass.{InstancesHavePasses, PassOrTrap, WholePass, comes_to_end, is_cut}
use Rattle.bl_machine_laws.specs.Passes.Ticks.{TickPasses, TickTraps, TicksArePasses}
use Rattle.bl_machine_laws.proofs.OnPasses.Steadying.{pass_settles, woken_steady}
use Rattle.bl_ctree_laws_traces.proofs.OnReady.Never.{in_unit}

-- ---- steps of the program's tree

module _ (lowest : ReachedLowestMayAct) (complete : PlainStepsAreSteps) (inside : ReachedInsideIsResidual) (armed : ReachedIsArmed) (follow : StepsFollow)
    (structs : List StructDef) (units : List UnitDef) (entry : ℕ) (rank : ℕ → Node → ℕ) (keeps : IsWellTyped structs units entry) (passes : Passes units)
    (orders : Orders (setting_of structs units entry) rank) (fitted : Fitted (setting_of structs units entry)) (rows : List (List ℤ)) (row : List ℤ) where
  abbrev W : Setting
  W = setting_of structs units entry

  -- the lowest step is one of the tree
  step_there : (c : Control) (store : Store) (taken : List Action) → ReachesInside W rows row taken (ticks.Rests c store) → (t : Tree) →
      plain_tree c ≡ t → (d : Bool) (a : Deed) (n : StepLabel) (c' : Tree) → Moves Anyway W 0 t d a n c' → Lowest W rank 0 t n →
      LocatedStep W 0 c d a c'
  step_there c store taken reaches t eq d a n c' move low =
      ⊎_elim
      (λ free. complete W true 0 (entry_items W) c d a n c' (inside W rows row taken c store reaches) (armed W rows row taken c store fitted reaches) free)
      (λ lower. absurd (subst (λ (x : Tree). Lowest W rank 0 x n) (sym eq) low lower.could.answer lower.could.deed lower.could.label lower.could.after
      lower.could.moves lower.lower))
      (lowest structs units entry rank keeps passes orders.rising rows row taken c store reaches d a n c'
      (subst (λ (x : Tree). Moves Anyway W 0 x d a n c') (sym eq) move))

  pub record Located (c : Control) (store : Store) (done : List AnsweredDeed) (tree : Tree) (left : Store) : Type 0 where
    pub actions : List Action
    pub after : Control
    pub is : plain_tree after ≡ tree
    pub steps : ticks.Steps W c store actions (ticks.Rests after left)
    pub deeds : map deed_of actions ≡ map (λ one. one.deed) done
    pub taken : List Action
    pub reaches : ReachesInside W rows row taken (ticks.Rests after left)

  -- one more step
  reaches_on : (c : Control) (store : Store) (taken : List Action) (a : Action) (c' : Control) (store' : Store) →
      ReachesInside W rows row taken (ticks.Rests c store) → located.Step W c store a c' store' →
      ReachesInside W rows row (taken ++ a ∷ []) (ticks.Rests c' store')
  reaches_on c store taken a c' store' reaches step = record {
    tree = reaches.tree;
    store = reaches.store;
    before = reaches.before;
    steps = follow W (control.woken reaches.tree) (woken_store row reaches.store) taken (a ∷ []) c store (ticks.Rests c' store') reaches.steps
        (ticks.step step ticks.none);
  }

  performed : (c : Control) (store : Store) (d : Bool) (a : Deed) (c' : Tree) (store' : Store) (one : LocatedStep W 0 c d a c') →
      done_by W a store ≡ Some (record { answer = d; store = store' }) → located.Step W c store one.action one.after store'
  performed c store d a c' store' one performs = record {
    answer = d;
    moves = one.moves;
    performs = subst (λ x. done_by W x store ≡ Some (record { answer = d; store = store' })) (sym one.does) performs;
  }

  pub locate : (c : Control) (store : Store) (taken : List Action) → ReachesInside W rows row taken (ticks.Rests c store) → {t : Tree} →
      {done : List AnsweredDeed} {tree : Tree} {left : Store} → plain_tree c ≡ t → LowSteps W rank 0 t store done tree left → Located c store done tree left
  locate c store taken reaches eq stay =
      record { actions = []; after = c; is = eq; steps = ticks.none; deeds = refl; taken = taken; reaches = reaches }
  locate c store taken reaches {t = t} eq (on {d = d} {a = a} {n = n} {c' = c'} {store' = store'} move low performs rest) =
      let one = step_there c store taken reaches t eq d a n c' move low in
      let step = performed c store d a c' store' one performs in
      let more = locate one.after store' (taken ++ one.action ∷ []) (reaches_on c store taken one.action one.after store' reaches step) one.leads rest in
      record {
        actions = one.action ∷ more.actions;
        after = more.after;
        is = more.is;
        steps = ticks.step step more.steps;
        deeds = ap (λ x. x ∷ map deed_of more.actions) one.does ∙ ap (λ xs. a ∷ xs) more.deeds;
        taken = more.taken;
        reaches = more.reaches;
      }

  -- the lowest steps and one that traps
  pub trap_there : (c : Control) (store : Store) → ReachesInside W rows row [] (ticks.Rests (control.woken c) (woken_store row store)) →
      plain_tree (control.woken c) ≡ woken (plain_tree c) → LowTrap W rank 0 (woken (plain_tree c)) (woken_store row store) → TickTraps W rank row c store
  trap_there c store reaches eq trap =
      let front = locate (control.woken c) (woken_store row store) [] reaches eq trap.steps in
      let one = step_there front.after trap.left front.taken front.reaches trap.tree front.is trap.answer trap.deed trap.label trap.after trap.moves
      trap.lowest in
      record {
        trap = trap;
        actions = front.actions ++ one.action ∷ [];
        maximal = record {
          steps = follow W (control.woken c) (woken_store row store) front.actions (one.action ∷ []) front.after trap.left ticks.Trapped front.steps
              (ticks.traps (record {
                answer = trap.answer;
                after = one.after;
                moves = one.moves;
                fails = subst (λ x. done_by W x trap.left ≡ None) (sym one.does) trap.fails;
              }));
          over = tt;
        };
        deeds = map_push deed_of front.actions one.action ∙ ap (λ xs. xs ++ deed_of one.action ∷ []) front.deeds
            ∙ ap (λ x. map (λ one. one.deed) trap.done ++ x ∷ []) one.does;
      }

  module _ (sound : StepsArePlain) (could : MayIsCould) (moving : MovingIsUnsettled) (answers : AnswersArePlain) where
    -- where nothing is left to do nothing may act
    still : (c : Control) → Residual W true 0 (entry_items W) c → is_settled (plain_tree c) ≡ true → located.IsStill W c
    still c is_left settled d a c' move =
        let plain = sound W true 0 (entry_items W) c d a c' is_left move in
        true_false_any (is_settled (plain_tree c)) settled
        (moving W 0 (plain_tree c) d (deed_of a) plain.label (plain_tree c')
        (could W 0 (plain_tree c) d (deed_of a) plain.label (plain_tree c') plain.moves))

    pub pass_there : (c : Control) (store : Store) → ReachesInside W rows row [] (ticks.Rests (control.woken c) (woken_store row store)) →
        plain_tree (control.woken c) ≡ woken (plain_tree c) → WholePass W rank 0 0 (woken (plain_tree c)) (woken_store row store) →
        TickPasses W rank row c store
    pass_there c store reaches eq pass =
        let all = locate (control.woken c) (woken_store row store) [] reaches eq pass.steps in
        let is_left = inside W rows row all.taken all.after pass.left all.reaches in
        let settled : is_settled (plain_tree all.after) ≡ true = ap is_settled all.is ∙ pass_settles pass.passes in
        record {
          pass = pass;
          actions = all.actions;
          after = all.after;
          is = all.is;
          maximal = record { steps = all.steps; over = still all.after is_left settled };
          deeds = all.deeds;
          settled = sym (answers.settled W true 0 (entry_items W) all.after is_left) ∙ settled;
        }

-- ---- ticks

module _ (lowest : ReachedLowestMayAct) (complete : PlainStepsAreSteps) (sound : StepsArePlain) (could : MayIsCould) (moving : MovingIsUnsettled)
    (answers : AnswersArePlain) (inside : ReachedInsideIsResidual) (between : ReachedIsResidual) (armed : ReachedIsArmed) (follow : StepsFollow)
    (waking : WakingIsPlain) (plain : StatementsArePlain) (part : NodesAreInPart) (unsettled : UnsettledCould) (live : AcceptedTreesFitGraphs)
    (callable : ProgramsAreCallable) (orderly : AcceptedIsOrderly) (have : InstancesHavePasses) where
  pub ticks_are_passes : TicksArePasses
  ticks_are_passes structs units entry rank keeps passes orders rows row c store reached = by_rest (is_settled tree) refl
    where
      W : Setting
      W = setting_of structs units entry

      tree : Tree
      tree = woken (plain_tree c)

      eq : plain_tree (control.woken c) ≡ tree
      eq = waking W c (between W rows c store reached)

      reaches : ReachesInside W rows row [] (ticks.Rests (control.woken c) (woken_store row store))
      reaches = record { tree = c; store = store; before = reached; steps = ticks.none }

      ends : PassOrTrap W rank 0 0 tree (woken_store row store) → TickPasses W rank row c store ⊎ TickTraps W rank row c store
      ends (comes_to_end pass) =
          inl (pass_there lowest complete inside armed follow structs units entry rank keeps passes orders (orderly structs units entry keeps passes).fitted
          rows row sound could moving answers c store reaches eq pass)
      ends (is_cut trap fails) =
          inr (trap_there lowest complete inside armed follow structs units entry rank keeps passes orders (orderly structs units entry keeps passes).fitted
          rows row c store reaches eq trap)

      by_rest : (b : Bool) → is_settled tree ≡ b → TickPasses W rank row c store ⊎ TickTraps W rank row c store
      by_rest true e =
          ends (comes_to_end (record { done = []; tree = tree; left = woken_store row store; passes = turns.rests e; steps = stay; follows = follows.rests e }))
      by_rest false e =
          let now = (live structs units entry keeps passes).inside rows row [] (control.woken c) (woken_store row store) reaches in
          let lives : FitsGraph W 0 tree (whole now.stood (entry_block W)) = subst (λ (x : Tree). FitsGraph W 0 x (whole now.stood (entry_block W))) eq now.lives in
          let at = in_unit part plain W now.stood tree (unit_at W 0) refl lives (unsettled W 0 now.stood (entry_block W) tree lives e) in
          ends (have structs units entry rank 0 0 at.unit at.stood tree (woken_store row store) (orderly structs units entry keeps passes).paces
          (callable structs units entry keeps) orders at.is at.lives (woken_steady (plain_tree c)) (λ n h. omega arith))
