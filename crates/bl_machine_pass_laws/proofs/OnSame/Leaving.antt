-- A body that begins is left of itself, and waking, turns and passes leave it left of the body.
use Rattle.std.proofs.Common.{◌≡◌, ◌⊎◌, inl, inr, ℕ, Bool, true, false, List, Some, refl, ap, sym, ◌∙◌, subst}
use Rattle.bl_graph_nodes.specs.Nodes.{Node}
use Rattle.bl_graph_nodes.specs.Plain.{Act, Again, Await, Block, Bodies, Body as BodyOf, Cobegin, Done}
use Rattle.bl_graph_nodes.specs.Plain.{If, Last, Plain, Repeat, Run as RunOf, Then, Until, When, While}
use Rattle.bl_ctree.specs.Control.{Body, Check}
use Rattle.bl_ctree.specs.Instances.{Setting, callee_of}
use Rattle.bl_ctree_laws.specs.Pending.{Deed}
use Rattle.bl_ctree_laws.specs.Steps.{call, fork, pause, turn, watch}
use Rattle.bl_ctree_laws.specs.Trees.{Tree, Trees, Nil, Wait, Test, Idle, Do, Seq, Par, Guard, Run, all_woken, before, trees_begun, beside, do_block, followed}
use Rattle.bl_ctree_laws.specs.Trees.{is_nil, no_tree, seq, woken}
use Rattle.bl_machine_laws.specs.Numbers.Turns as turns
use Rattle.bl_machine_laws.specs.Numbers.Turns.{AnsweredDeed, InstancePoint, OneTurns, Passes, Turns}
use Rattle.bl_machine_pass_laws.specs.Same.Laws.{StaysResidual}
use Rattle.bl_machine_pass_laws.specs.Same.Residual.{BegunResidual, InstanceResidual, InstanceResidualEach, InstanceResidualIn, InstanceResidualOf}
use Rattle.bl_ctree_laws.proofs.Waking.{seq_busy}
use Rattle.bl_ctree_laws.proofs.Diamond.{seq_done}

-- ---- what a turn leaves of a tree

-- of a statement that is to begin
abbrev Became : Setting → ℕ → Plain → Tree → Type 0
Became w i (Act l s) c' = c' ≡ Nil
Became w i (Await l at e) c' = c' ≡ Wait (pause l at e)
Became w i (RunOf l at target a inputs outputs) c' =
    (callee : ℕ) × (d : Tree) × (callee_of w i at ≡ Some callee) × (c' ≡ Run (call l at target a inputs outputs) callee Body false d)
Became w i (If l at e body other) c' = (c' ≡ do_block body) ⊎ (c' ≡ do_block other)
Became w i (Cobegin l at bodies) c' = c' ≡ Par (fork l at bodies) false (trees_begun bodies)
Became w i (When l at guard e body) c' = c' ≡ Guard (watch l at guard e body) Body false (do_block body)
Became w i (Repeat l at body) c' = c' ≡ do_block (turn body (Repeat l at body))
Became w i (Until l at body e) c' = c' ≡ do_block (turn body (Again l at body e))
Became w i (While l at e body) c' = (c' ≡ Nil) ⊎ (c' ≡ do_block (turn body (While l at e body)))
Became w i (Again l at body e) c' = (c' ≡ Nil) ⊎ (c' ≡ Do (Until l at body e))

-- of a tree, by what it is
abbrev Turned : Setting → (ℕ → Node → ℕ) → ℕ → List AnsweredDeed → Node → Tree → Tree → Type 0
Turned w rank i done n Nil c' = ⊥
Turned w rank i done n (Wait s) c' = ⊥
Turned w rank i done n (Test s) c' = (c' ≡ Nil) ⊎ (c' ≡ Wait s)
Turned w rank i done n (Idle body) c' = ⊥
Turned w rank i done n (Do s) c' = Became w i s c'
Turned w rank i done n (Seq c rest) c' = (d : Tree) × Turns w rank i c done n d × (c' ≡ seq d rest)
Turned w rank i done n (Par s stood branches) c' =
    (c' ≡ Nil) ⊎ ((others : Trees) × OneTurns w rank i branches done n others × (c' ≡ Par s stood others))
Turned w rank i done n (Guard s phase stood c) c' =
    (c' ≡ Nil) ⊎ ((c' ≡ Guard s Body stood c) ⊎ ((c' ≡ Guard s Body stood (do_block s.body))
    ⊎ ((d : Tree) × Turns w rank i c done n d × (c' ≡ Guard s Body stood d))))
Turned w rank i done n (Run s callee phase stood c) c' = (c' ≡ Nil) ⊎ ((d : Tree) × (c' ≡ Run s callee Body stood d))

point_turned : {w : Setting} {i : ℕ} {c : Tree} {d : Bool} {a : Deed} {n : Node} {c' : Tree} (rank : ℕ → Node → ℕ) (done : List AnsweredDeed)
    (m : Node) →
    InstancePoint w i c d a n c' → Turned w rank i done m c c'
point_turned rank done m turns.acts = refl
point_turned rank done m turns.takes = inl refl
point_turned rank done m turns.passes = inr refl
point_turned rank done m turns.pauses = refl
point_turned rank done m turns.repeats = refl
point_turned rank done m turns.repeats_until = refl
point_turned rank done m turns.leaves = inl refl
point_turned rank done m turns.turns = inr refl
point_turned rank done m turns.enters = inr refl
point_turned rank done m turns.skips = inl refl
point_turned rank done m turns.forks = refl
point_turned rank done m turns.guards = refl
point_turned rank done m turns.goes_on = inl refl
point_turned rank done m turns.waits = inr refl
point_turned rank done m turns.lets = inr (inl refl)
point_turned rank done m (turns.aborts is) = inl refl
point_turned rank done m (turns.resets is) = inr (inr (inl refl))
point_turned rank done m turns.guard_ends = inl refl
point_turned rank done m (turns.joins settled done') = inl refl

turned : {w : Setting} {rank : ℕ → Node → ℕ} {i : ℕ} {c : Tree} {done : List AnsweredDeed} {n : Node} {c' : Tree} →
    Turns w rank i c done n c' → Turned w rank i done n c c'
turned {rank = rank} {done = done} {n = n} (turns.point p) = point_turned rank done n p
turned (turns.runs {callee = callee} {c = c} called is passes unended) = (callee, c, called, refl)
turned (turns.resumes {c' = c'} passes unended) = inr (c', refl)
turned (turns.returns passes) = inl refl
turned (turns.in_seq {c' = c'} t) = (c', t, refl)
turned (turns.in_par {branches' = others} t) = inr (others, t, refl)
turned (turns.in_guard {c' = c'} t) = inr (inr (inr (c', t, refl)))

-- ---- trees and what follows them

before_done : (body : Block) → before body Done ≡ body
before_done Done = refl
before_done (Then s rest) = ap (Then s) (before_done rest)

followed_open : (c : Tree) (block : Block) → is_nil c ≡ false → is_nil (followed c block) ≡ false
followed_open c Done e = e
followed_open c (Then s rest) e = refl

pub woken_followed : (c : Tree) (block : Block) → woken (followed c block) ≡ followed (woken c) block
woken_followed c Done = refl
woken_followed c (Then s rest) = refl

module _ (w : Setting) (i : ℕ) where
  -- ---- what is left has not ended

  open_one : (s : Plain) (c : Tree) → (BegunResidual w i s c → is_nil c ≡ false) → InstanceResidualOf w i s c → is_nil c ≡ false
  open_one s c inner (inl is) = ap is_nil is
  open_one s c inner (inr h) = inner h

  mutual
    open_within : (s : Plain) (c : Tree) → BegunResidual w i s c → is_nil c ≡ false
    open_within (Act l s) c h = absurd h
    open_within (Await l at e) c (inl is) = ap is_nil is
    open_within (Await l at e) c (inr is) = ap is_nil is
    open_within (RunOf l at target a inputs outputs) c h = ap is_nil h.5
    open_within (If l at e body other) c (inl h) = open_in body Done c h
    open_within (If l at e body other) c (inr h) = open_in other Done c h
    open_within (Cobegin l at bodies) c h = ap is_nil h.2
    open_within (When l at guard e body) c h = ap is_nil h.3
    open_within (Repeat l at body) c h = open_in body (Then (Repeat l at body) Done) c h
    open_within (Until l at body e) c (inl h) = open_in body (Then (Again l at body e) Done) c h
    open_within (Until l at body e) c (inr is) = ap is_nil is
    open_within (While l at e body) c h = open_in body (Then (While l at e body) Done) c h
    open_within (Again l at body e) c (inl h) = open_in body (Then (Again l at body e) Done) c h
    open_within (Again l at body e) c (inr is) = ap is_nil is

    pub open_in : (body after : Block) (c : Tree) → InstanceResidualIn w i body after c → is_nil c ≡ false
    open_in Done after c h = absurd h
    open_in (Then s rest) after c (inl h) = ap is_nil h.2 ∙ followed_open h.0 (before rest after) (open_one s h.0 (λ x. open_within s h.0 x) h.1)
    open_in (Then s rest) after c (inr h) = open_in rest after c h

  open_of : (s : Plain) (c : Tree) → InstanceResidualOf w i s c → is_nil c ≡ false
  open_of s c h = open_one s c (λ x. open_within s c x) h

  -- ---- blocks that begin

  begun_in : (body after : Block) (c : Tree) → c ≡ do_block (before body after) → (c ≡ do_block after) ⊎ InstanceResidualIn w i body after c
  begun_in Done after c is = inl is
  begun_in (Then s rest) after c is = inr (inl (Do s, inl refl, is))

  pub block_in : (body : Block) (c : Tree) → c ≡ do_block body → (c ≡ Nil) ⊎ InstanceResidualIn w i body Done c
  block_in body c is = begun_in body Done c (is ∙ ap do_block (sym (before_done body)))

  begun_each : (bodies : Bodies) → InstanceResidualEach w i bodies (trees_begun bodies)
  begun_each Last = tt
  begun_each (BodyOf weak body rest) = (refl, block_in body (do_block body) refl, begun_each rest)

  -- a statement that began, or ended at once
  became : (s : Plain) (c' : Tree) → Became w i s c' → (c' ≡ Nil) ⊎ InstanceResidualOf w i s c'
  became (Act l s) c' is = inl is
  became (Await l at e) c' is = inr (inr (inl is))
  became (RunOf l at target a inputs outputs) c' h = inr (inr (h.0, Body, false, h.1, h.2, h.3))
  became (If l at e body other) c' (inl is) = elim (block_in body c' is) [
    | inl ended ↦ inl ended
    | inr left ↦ inr (inr (inl left))
  ]
  became (If l at e body other) c' (inr is) = elim (block_in other c' is) [
    | inl ended ↦ inl ended
    | inr left ↦ inr (inr (inr left))
  ]
  became (Cobegin l at bodies) c' is = inr (inr (false, trees_begun bodies, is, begun_each bodies))
  became (When l at guard e body) c' is = inr (inr (Body, false, do_block body, is, block_in body (do_block body) refl))
  became (Repeat l at body) c' is = elim (begun_in body (Then (Repeat l at body) Done) c' is) [
    | inl again ↦ inr (inl again)
    | inr left ↦ inr (inr left)
  ]
  became (Until l at body e) c' is = elim (begun_in body (Then (Again l at body e) Done) c' is) [
    | inl test ↦ inr (inr (inr test))
    | inr left ↦ inr (inr (inl left))
  ]
  became (While l at e body) c' (inl is) = inl is
  became (While l at e body) c' (inr is) = elim (begun_in body (Then (While l at e body) Done) c' is) [
    | inl again ↦ inr (inl again)
    | inr left ↦ inr (inr left)
  ]
  became (Again l at body e) c' (inl is) = inl is
  became (Again l at body e) c' (inr is) = inr (inr (inr is))

  -- ---- waking

  wake_one : (s : Plain) (c : Tree) → (BegunResidual w i s c → BegunResidual w i s (woken c)) → InstanceResidualOf w i s c → InstanceResidualOf w i s (woken c)
  wake_one s c inner (inl is) = inl (ap woken is)
  wake_one s c inner (inr h) = inr (inner h)

  wake_body : (body : Block) (c : Tree) → (InstanceResidualIn w i body Done c → InstanceResidualIn w i body Done (woken c)) → (c ≡ Nil) ⊎ InstanceResidualIn w i body Done c →
      (woken c ≡ Nil) ⊎ InstanceResidualIn w i body Done (woken c)
  wake_body body c inner (inl is) = inl (ap woken is)
  wake_body body c inner (inr h) = inr (inner h)

  mutual
    wake_within : (s : Plain) (c : Tree) → BegunResidual w i s c → BegunResidual w i s (woken c)
    wake_within (Act l s) c h = absurd h
    wake_within (Await l at e) c (inl is) = inr (ap woken is)
    wake_within (Await l at e) c (inr is) = inr (ap woken is)
    wake_within (RunOf l at target a inputs outputs) c h = (h.0, Check, true, woken h.3, h.4, ap woken h.5)
    wake_within (If l at e body other) c (inl h) = inl (wake_in body Done c h)
    wake_within (If l at e body other) c (inr h) = inr (wake_in other Done c h)
    wake_within (Cobegin l at bodies) c h = (true, all_woken h.1, ap woken h.2, wake_each bodies h.1 h.3)
    wake_within (When l at guard e body) c h = (Check, true, woken h.2, ap woken h.3, wake_body body h.2 (λ x. wake_in body Done h.2 x) h.4)
    wake_within (Repeat l at body) c h = wake_in body (Then (Repeat l at body) Done) c h
    wake_within (Until l at body e) c (inl h) = inl (wake_in body (Then (Again l at body e) Done) c h)
    wake_within (Until l at body e) c (inr is) = inr (ap woken is)
    wake_within (While l at e body) c h = wake_in body (Then (While l at e body) Done) c h
    wake_within (Again l at body e) c (inl h) = inl (wake_in body (Then (Again l at body e) Done) c h)
    wake_within (Again l at body e) c (inr is) = inr (ap woken is)

    wake_in : (body after : Block) (c : Tree) → InstanceResidualIn w i body after c → InstanceResidualIn w i body after (woken c)
    wake_in Done after c h = absurd h
    wake_in (Then s rest) after c (inl h) =
        inl (woken h.0, wake_one s h.0 (λ x. wake_within s h.0 x) h.1, ap woken h.2 ∙ woken_followed h.0 (before rest after))
    wake_in (Then s rest) after c (inr h) = inr (wake_in rest after c h)

    wake_each : (bodies : Bodies) (branches : Trees) → InstanceResidualEach w i bodies branches → InstanceResidualEach w i bodies (all_woken branches)
    wake_each Last no_tree h = tt
    wake_each Last (beside weak c branches) h = absurd h
    wake_each (BodyOf weak body rest) no_tree h = absurd h
    wake_each (BodyOf weak body rest) (beside weak' c branches) h = (h.0, wake_body body c (λ x. wake_in body Done c x) h.1, wake_each rest branches h.2)

  module _ (rank : ℕ → Node → ℕ) (done : List AnsweredDeed) (n : Node) where
    -- ---- turns

    -- the turn of a part is that of the tree with what follows the part
    part_turns : (block : Block) (part c c' : Tree) → c ≡ followed part block → Turns w rank i c done n c' →
        (d : Tree) × Turns w rank i part done n d × (c' ≡ seq d block)
    part_turns Done part c c' is t = (c', subst (λ x. Turns w rank i x done n c') is t, sym (seq_done c'))
    part_turns (Then s rest) part c c' is t = subst (λ x. Turned w rank i done n x c') is (turned t)

    by : (c x c' : Tree) → c ≡ x → Turns w rank i c done n c' → Turned w rank i done n x c'
    by c x c' is t = subst (λ y. Turned w rank i done n y c') is (turned t)

    turn_one : (s : Plain) (c c' : Tree) → (BegunResidual w i s c → (c' ≡ Nil) ⊎ InstanceResidualOf w i s c') → InstanceResidualOf w i s c → Turns w rank i c done n c' →
        (c' ≡ Nil) ⊎ InstanceResidualOf w i s c'
    turn_one s c c' inner (inl is) t = became s c' (by c (Do s) c' is t)
    turn_one s c c' inner (inr h) t = inner h

    turn_body : (body : Block) (c c' : Tree) → (InstanceResidualIn w i body Done c → (c' ≡ Nil) ⊎ InstanceResidualIn w i body Done c') →
        (c ≡ Nil) ⊎ InstanceResidualIn w i body Done c → Turns w rank i c done n c' → (c' ≡ Nil) ⊎ InstanceResidualIn w i body Done c'
    turn_body body c c' inner (inl is) t = absurd (by c Nil c' is t)
    turn_body body c c' inner (inr h) t = inner h

    mutual
      turn_within : (s : Plain) (c c' : Tree) → BegunResidual w i s c → Turns w rank i c done n c' → (c' ≡ Nil) ⊎ InstanceResidualOf w i s c'
      turn_within (Act l s) c c' h t = absurd h
      turn_within (Await l at e) c c' (inl is) t = absurd (by c (Wait (pause l at e)) c' is t)
      turn_within (Await l at e) c c' (inr is) t = elim (by c (Test (pause l at e)) c' is t) [
        | inl ended ↦ inl ended
        | inr waits ↦ inr (inr (inl waits))
      ]
      turn_within (RunOf l at target a inputs outputs) c c' h t =
          elim (by c (Run (call l at target a inputs outputs) h.0 h.1 h.2 h.3) c' h.5 t) [
            | inl ended ↦ inl ended
            | inr on ↦ inr (inr (h.0, Body, h.2, on.0, h.4, on.1))
          ]
      turn_within (If l at e body other) c c' (inl h) t = elim (turn_in body Done c c' h t) [
        | inl ended ↦ inl ended
        | inr left ↦ inr (inr (inl left))
      ]
      turn_within (If l at e body other) c c' (inr h) t = elim (turn_in other Done c c' h t) [
        | inl ended ↦ inl ended
        | inr left ↦ inr (inr (inr left))
      ]
      turn_within (Cobegin l at bodies) c c' h t = elim (by c (Par (fork l at bodies) h.0 h.1) c' h.2 t) [
        | inl ended ↦ inl ended
        | inr on ↦ inr (inr (h.0, on.0, on.2, turn_each bodies h.1 on.0 h.3 on.1))
      ]
      turn_within (When l at guard e body) c c' h t = elim (by c (Guard (watch l at guard e body) h.0 h.1 h.2) c' h.3 t) [
        | inl ended ↦ inl ended
        | inr (inl lets) ↦ inr (inr (Body, h.1, h.2, lets, h.4))
        | inr (inr (inl resets)) ↦ inr (inr (Body, h.1, do_block body, resets, block_in body (do_block body) refl))
        | inr (inr (inr on)) ↦ inr (inr (Body, h.1, on.0, on.2, turn_body body h.2 on.0 (λ x. turn_in body Done h.2 on.0 x on.1) h.4 on.1))
      ]
      turn_within (Repeat l at body) c c' h t = elim (turn_in body (Then (Repeat l at body) Done) c c' h t) [
        | inl again ↦ inr (inl again)
        | inr left ↦ inr (inr left)
      ]
      turn_within (Until l at body e) c c' (inl h) t = elim (turn_in body (Then (Again l at body e) Done) c c' h t) [
        | inl test ↦ inr (inr (inr test))
        | inr left ↦ inr (inr (inl left))
      ]
      turn_within (Until l at body e) c c' (inr is) t = elim (by c (Do (Again l at body e)) c' is t) [
        | inl ended ↦ inl ended
        | inr again ↦ inr (inl again)
      ]
      turn_within (While l at e body) c c' h t = elim (turn_in body (Then (While l at e body) Done) c c' h t) [
        | inl again ↦ inr (inl again)
        | inr left ↦ inr (inr left)
      ]
      turn_within (Again l at body e) c c' (inl h) t = elim (turn_in body (Then (Again l at body e) Done) c c' h t) [
        | inl test ↦ inr (inl test)
        | inr left ↦ inr (inr (inl left))
      ]
      turn_within (Again l at body e) c c' (inr is) t =
          elim (begun_in body (Then (Again l at body e) Done) c' (by c (Do (Until l at body e)) c' is t)) [
            | inl test ↦ inr (inl test)
            | inr left ↦ inr (inr (inl left))
          ]

      -- where the statement ends, the rest of the block begins
      turn_in : (body after : Block) (c c' : Tree) → InstanceResidualIn w i body after c → Turns w rank i c done n c' → (c' ≡ do_block after)
          ⊎ InstanceResidualIn w i body after c'
      turn_in Done after c c' h t = absurd h
      turn_in (Then s rest) after c c' (inl h) t =
          let block : Block = before rest after in
          let one = part_turns block h.0 c c' h.2 t in
          elim (turn_one s h.0 one.0 (λ x. turn_within s h.0 one.0 x one.1) h.1 one.1) [
            | inl ended ↦ elim (begun_in rest after c' (one.2 ∙ ap (λ x. seq x block) ended)) [
              | inl over ↦ inl over
              | inr left ↦ inr (inr left)
            ]
            | inr left ↦ inr (inl (one.0, left, one.2 ∙ seq_busy one.0 block (open_of s one.0 left)))
          ]
      turn_in (Then s rest) after c c' (inr h) t = elim (turn_in rest after c c' h t) [
        | inl over ↦ inl over
        | inr left ↦ inr (inr left)
      ]

      turn_each : (bodies : Bodies) (branches others : Trees) → InstanceResidualEach w i bodies branches → OneTurns w rank i branches done n others →
          InstanceResidualEach w i bodies others
      turn_each Last branches others h (turns.first t) = absurd h
      turn_each Last branches others h (turns.later t) = absurd h
      turn_each (BodyOf weak body rest) branches others h (turns.first {c = c} {c' = c'} t) =
          (h.0, turn_body body c c' (λ x. turn_in body Done c c' x t) h.1 t, h.2)
      turn_each (BodyOf weak body rest) branches others h (turns.later {others = trees} {others' = after} t) =
          (h.0, h.1, turn_each rest trees after h.2 t)

    turn_left : (body : Block) (c c' : Tree) → InstanceResidual w i body c → Turns w rank i c done n c' → InstanceResidual w i body c'
    turn_left body c c' h t = turn_body body c c' (λ x. turn_in body Done c c' x t) h t

-- ---- whole passes

left_passes : {w : Setting} {rank : ℕ → Node → ℕ} {i k : ℕ} {c : Tree} {done : List AnsweredDeed} {c' : Tree} (body : Block) →
    Passes w rank i k c done c' → InstanceResidual w i body c → InstanceResidual w i body c'
left_passes body (turns.rests settled) left = left
left_passes {w = w} {rank = rank} {i = i} body (turns.goes {c = c} {done = done} {n = n} {c' = c'} low t more) left =
    left_passes body more (turn_left w i rank done n body c c' left t)

pub stays_residual : StaysResidual
stays_residual = record {
  begins = λ w i body. block_in w i body (do_block body) refl;
  wakes = λ w i body c left. wake_body w i body c (λ x. wake_in w i body Done c x) left;
  turns = λ w rank i body c done n c' t left. turn_left w i rank done n body c c' left t;
  passes = λ w rank i k body c done c' passes left. left_passes body passes left;
}
