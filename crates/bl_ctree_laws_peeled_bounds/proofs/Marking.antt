-- The steps of a tick are those of the related tree, and heads of loops that fall away: each at a label and with a loop of its own.
use Rattle.std.proofs.Common.{◌≡◌, ℕ, ◌+◌, Bool, true, List, [], ◌∷◌, length, Some, None, inl, inr, refl, sym, ap, ◌∙◌, subst, arith}
use Rattle.bl_tree.specs.declared.tree.Unit.{Unit as UnitDef}
use Rattle.bl_graph_nodes.specs.Nodes.{Node}
use Rattle.bl_graph_nodes.specs.Plain.{Plain, plain_body}
use Rattle.bl_graph_nodes.specs.Steps.{StepLabel}
use Rattle.bl_graph.specs.Edges.{EdgeAll}
use Rattle.bl_graph.specs.Laws.{BranchesPart, InstantsPass}
use Rattle.bl_ctree.specs.Actions.{Performed, Silent, effect_on}
use Rattle.bl_ctree.specs.Instances.{Setting, unit_at}
use Rattle.bl_ctree.specs.Store.{Store}
use Rattle.bl_ctree_laws.specs.Ends.{PlainTreeEnd, PlainTreeStep, PlainTreeSteps, Rests, Trapped, done_by, none, step, traps}
use Rattle.bl_ctree_laws.specs.Pending.{Deed}
use Rattle.bl_ctree_laws.specs.Shrinks.{EndsShrink, MayIsCould, Paces}
use Rattle.bl_ctree_laws.specs.Steps.{Unmet}
use Rattle.bl_ctree_laws.specs.Trees.{Tree}
use Rattle.bl_ctree_laws_traces.specs.Bounded.Differ.{AllNumbered}
use Rattle.bl_ctree_laws_traces.specs.Progress.FitsGraph.{FitsGraph}
use Rattle.bl_ctree_laws_traces.specs.Progress.Laws.{StepsKeepFitsGraph}
use Rattle.bl_ctree_laws_traces.specs.Progress.Places.{AllCallable, whole}
use Rattle.bl_ctree_laws_traces.proofs.OnBounded.Ahead.{Ahead}
use Rattle.bl_ctree_laws_traces.proofs.OnBounded.Lists.{EachOf}
use Rattle.bl_ctree_laws_traces.proofs.OnBounded.Stepping.{Parted, starts_ahead, step_less}
use Rattle.bl_ctree_laws_peeled.specs.Answers.{SameDeed}
use Rattle.bl_ctree_laws_peeled.proofs.Heads.{FallsIn, FewInTree, HasTurn, HeadFalls, HeadsStay, leading}
use Rattle.bl_ctree_laws_peeled.specs.Lines.{Related}
use Rattle.bl_ctree_laws_peeled.specs.Settings.{SameProgram}
use Rattle.bl_ctree_laws_peeled.proofs.Stepping.{steps_keep_heads}
use Rattle.bl_ctree_laws_peeled_bounds.proofs.Beginning.{falls_alone, falls_moves, falls_turn}
use Rattle.bl_ctree_laws_peeled_bounds.proofs.Pigeons.{AllDiffer, Missing}

-- the head of a loop that falls away, and the label at which it does
pub record HeadMark : Type 0 where
  pub label : StepLabel
  pub loop : Plain

-- the head may still fall away: its label is ahead, and not fewer may fall away there
abbrev May : Setting → (Node → Node → Type 0) → Tree → Tree → HeadMark → Type 0
May w E c t x = Ahead w E t x.label × (FewInTree (leading x.loop) c t x.label → ⊥)

-- the steps of the related tree, and marks of the others
pub record MarkedSteps (w : Setting) (E : Node → Node → Type 0) (Kept : HeadMark → Type 0) (c t : Tree) (store : Store) (labels : List StepLabel) : Type 0 where
  pub own : List StepLabel
  pub end : PlainTreeEnd
  pub steps : PlainTreeSteps w t store own end
  pub marks : List HeadMark
  pub as_many : length labels ≡ length own + length marks
  pub may : EachOf (May w E c t) marks
  pub kept : EachOf Kept marks
  pub differ : AllDiffer marks

-- ---- what steps do

some_one : (x y : Performed) → Some x ≡ Some y → x ≡ y
some_one x y e = cc

-- a step that does nothing leaves the store
silent_leaves : (w : Setting) (a : Deed) (answer : Bool) (store store' : Store) → a.effect ≡ Silent →
    done_by w a store ≡ Some (record { answer = answer; store = store' }) → store' ≡ store
silent_leaves w a answer store store' silent performs =
    sym (ap (λ (p : Performed). p.store) (some_one (record { answer = true; store = store }) (record { answer = answer; store = store' })
    (sym (ap (λ effect. effect_on w a.instance effect store) silent) ∙ performs)))

-- two deeds that are the same do the same in both programs
done_alike : {H : ℕ → Node → Plain → Type 0} {w w' : Setting} → SameProgram H w w' → (a b : Deed) → SameDeed a b → (store : Store) →
    done_by w' b store ≡ done_by w a store
done_alike {w' = w'} program a b same store =
    sym (program.effects a.instance a.effect store ∙ (λ j. effect_on w' (same.instance j) (same.effect j) store))

module _ (pass : InstantsPass) (part : BranchesPart) (could : MayIsCould) (shrink : EndsShrink) (stays : StepsKeepFitsGraph)
    {H : ℕ → Node → Plain → Type 0} (turns : (i : ℕ) (n : Node) (s : Plain) → H i n s → HasTurn s) {w w' : Setting} (program : SameProgram H w w')
    (pace : Paces w') (call : AllCallable w') (all : AllNumbered w') (unit : UnitDef) (is : unit_at w' 0 ≡ Some unit) (stood : Bool) where
  abbrev Fits : Tree → Type 0
  Fits t = FitsGraph w' 0 t (whole stood (plain_body unit.body))

  abbrev Heads : Tree → Tree → HeadMark → Type 0
  Heads c t = May w' (EdgeAll (plain_body unit.body)) c t

  parted : Parted (whole stood (plain_body unit.body)).links
  parted n m h = part unit.body [] n m h

  -- ---- heads that fall away

  abbrev mark_of : {c c' t : Tree} {d : Bool} {a : Deed} → HeadFalls H 0 c c' t d a → HeadMark
  mark_of gone = record { label = gone.label; loop = gone.loop }

  head_may : {c c' t : Tree} {d : Bool} {a : Deed} → Fits t → (gone : HeadFalls H 0 c c' t d a) → Heads c t (mark_of gone)
  head_may live gone = (
    starts_ahead (falls_moves part w' gone.falls (whole stood (plain_body unit.body)) live).moves (whole stood (plain_body unit.body)) live,
    λ few. falls_alone part w' gone.falls few (whole stood (plain_body unit.body)) live parted,
  )

  few_of : {c' t : Tree} (x y : HeadMark) → y ≡ x → FewInTree (leading x.loop) c' t x.label → FewInTree (leading y.loop) c' t y.label
  few_of {c'} {t} x y e few = subst (λ (x : HeadMark). FewInTree (leading x.loop) c' t x.label) (sym e) few

  -- what may fall away afterwards might before, and is another one
  head_later : {c c' t : Tree} {d : Bool} {a : Deed} (gone : HeadFalls H 0 c c' t d a) (x : HeadMark) → Heads c' t x → Heads c t x × (x ≡ mark_of gone → ⊥)
  head_later gone x may = (
    (may.0, λ few. may.1 (gone.keeps (leading x.loop) x.label few)),
    λ e. may.1 (few_of (mark_of gone) x e (gone.fewer (falls_turn turns gone.falls))),
  )

  heads_later : {c c' t : Tree} {d : Bool} {a : Deed} (gone : HeadFalls H 0 c c' t d a) (marks : List HeadMark) → EachOf (Heads c' t) marks →
      EachOf (Heads c t) marks × Missing (mark_of gone) marks
  heads_later gone [] each = (tt, tt)
  heads_later gone (x ∷ marks) each =
      let one = head_later gone x each.0 in
      let more = heads_later gone marks each.1 in
      ((one.0, more.0), (one.1, more.1))

  -- ---- steps of the related tree

  own_later : {c c' t : Tree} {d : Bool} {a : Deed} → Fits t → (one : HeadsStay Unmet H w' 0 c c' t d a) (x : HeadMark) → Heads c' one.along.after x →
      Heads c t x
  own_later {t = t} {d} live one x may =
      let ranks = all 0 unit is in
      let less = step_less pass part shrink w' pace all (could w' 0 t d one.along.deed one.along.label one.along.after one.along.moves)
      (whole stood (plain_body unit.body)) live ranks.number ranks.rises parted x.label may.0 in
      (less.ahead, λ few. may.1 (one.keeps (leading x.loop) x.label few less.differ))

  owns_later : {c c' t : Tree} {d : Bool} {a : Deed} → Fits t → (one : HeadsStay Unmet H w' 0 c c' t d a) (marks : List HeadMark) →
      EachOf (Heads c' one.along.after) marks → EachOf (Heads c t) marks
  owns_later live one [] each = tt
  owns_later live one (x ∷ marks) each = (own_later live one x each.0, owns_later live one marks each.1)

  -- ---- a tick

  module _ (Holds : Tree → Store → Type 0)
      (holds : (t : Tree) (store : Store) (n : StepLabel) (t' : Tree) (store' : Store) → PlainTreeStep w' t store n t' store' → Holds t store → Holds t' store')
      (Kept : HeadMark → Type 0)
      (kept : (c t : Tree) (store : Store) (m : StepLabel) (s : Plain) → FallsIn H 0 c t m s → Fits t → Holds t store →
      Kept (record { label = m; loop = s })) where
    abbrev AllMarked : Tree → Tree → Store → List StepLabel → Type 0
    AllMarked = MarkedSteps w' (EdgeAll (plain_body unit.body)) Kept

    -- a head falls away, and steps follow
    gone_marked : {c c' t : Tree} {d : Bool} {a : Deed} {store store' : Store} {labels : List StepLabel} (n : StepLabel) → Fits t → Holds t store →
        HeadFalls H 0 c c' t d a → store' ≡ store → AllMarked c' t store' labels → AllMarked c t store (n ∷ labels)
    gone_marked {t = t} {store = store} n live held gone same more =
        let later = heads_later gone more.marks more.may in
        let many = more.as_many in
        record {
          own = more.own;
          end = more.end;
          steps = subst (λ store. PlainTreeSteps w' t store more.own more.end) same more.steps;
          marks = mark_of gone ∷ more.marks;
          as_many = omega arith;
          may = (head_may live gone, later.0);
          kept = (kept _ t store gone.label gone.loop gone.falls live held, more.kept);
          differ = (later.1, more.differ);
        }

    -- a head that falls away is the last step
    gone_last : {c c' t : Tree} {d : Bool} {a : Deed} {store : Store} (n : StepLabel) → Fits t → Holds t store → HeadFalls H 0 c c' t d a →
        AllMarked c t store (n ∷ [])
    gone_last {t = t} {store = store} n live held gone = record {
      own = [];
      end = Rests t store;
      steps = none;
      marks = mark_of gone ∷ [];
      as_many = refl;
      may = (head_may live gone, tt);
      kept = (kept _ t store gone.label gone.loop gone.falls live held, tt);
      differ = (tt, tt);
    }

    step_too : {c c' t : Tree} {d : Bool} {a : Deed} {store store' : Store} (one : HeadsStay Unmet H w' 0 c c' t d a) →
        done_by w a store ≡ Some (record { answer = d; store = store' }) → PlainTreeStep w' t store one.along.label one.along.after store'
    step_too {d = d} {a} {store} one performs = record {
      answer = d;
      deed = one.along.deed;
      moves = one.along.moves;
      performs = done_alike program a one.along.deed one.along.same store ∙ performs;
    }

    -- the related tree steps too, and steps follow
    step_marked : {c c' t : Tree} {d : Bool} {a : Deed} {store store' : Store} {labels : List StepLabel} (n : StepLabel) → Fits t →
        (one : HeadsStay Unmet H w' 0 c c' t d a) → done_by w a store ≡ Some (record { answer = d; store = store' }) →
        AllMarked c' one.along.after store' labels → AllMarked c t store (n ∷ labels)
    step_marked n live one performs more =
        let many = more.as_many in
        record {
          own = one.along.label ∷ more.own;
          end = more.end;
          steps = step (step_too one performs) more.steps;
          marks = more.marks;
          as_many = omega arith;
          may = owns_later live one more.marks more.may;
          kept = more.kept;
          differ = more.differ;
        }

    -- the related tree traps too
    trap_marked : {c c' t : Tree} {d : Bool} {a : Deed} {store : Store} (n : StepLabel) → HeadsStay Unmet H w' 0 c c' t d a →
        done_by w a store ≡ None → AllMarked c t store (n ∷ [])
    trap_marked {d = d} {a} {store} n one fails = record {
      own = one.along.label ∷ [];
      end = Trapped;
      steps = traps (record {
        answer = d;
        deed = one.along.deed;
        after = one.along.after;
        moves = one.along.moves;
        fails = done_alike program a one.along.deed one.along.same store ∙ fails;
      });
      marks = [];
      as_many = refl;
      may = tt;
      kept = tt;
      differ = tt;
    }

    pub marked_steps : {c t : Tree} {store : Store} {labels : List StepLabel} {end : PlainTreeEnd} → PlainTreeSteps w c store labels end → Related H 0 c t →
        Fits t → Holds t store → AllMarked c t store labels
    marked_steps {t = t} {store = store} none inner live held =
        record { own = []; end = Rests t store; steps = none; marks = []; as_many = refl; may = tt; kept = tt; differ = tt }
    marked_steps (traps {n = n} one) inner live held = elim (steps_keep_heads program inner one.moves) [
      | inl gone ↦ gone_last n live held gone
      | inr along ↦ trap_marked n along one.fails
    ]
    marked_steps {t = t} {store = store} (step {n = n} {store' = store'} one more) inner live held = elim (steps_keep_heads program inner one.moves) [
      | inl gone ↦
          let same = silent_leaves w one.deed one.answer store store' gone.away.silent one.performs in
          gone_marked n live held gone same (marked_steps more gone.away.stays live (subst (Holds t) (sym same) held))
      | inr along ↦
          let move = could w' 0 t one.answer along.along.deed along.along.label along.along.after along.along.moves in
          step_marked n live along one.performs
          (marked_steps more along.along.stays
          (stays w' 0 stood (plain_body unit.body) t one.answer along.along.deed along.along.label along.along.after pace call live move)
          (holds t store along.along.label along.along.after store' (step_too along one.performs) held))
    ]
