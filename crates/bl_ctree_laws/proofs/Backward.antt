-- Each step of the plain tree of what may be left of items is one of the tree.
use Rattle.std.proofs.Common.{◌≡◌, ℕ, suc, Bool, true, false, List, [], ◌∷◌, refl, ap, sym, ◌∙◌, subst, Option}
use Rattle.bl_tree.specs.declared.tree.Arm.{Arm, out-Arm}
use Rattle.bl_tree.specs.declared.tree.Branch.{Branch, out-Branch}
use Rattle.bl_tree.specs.declared.tree.Expr.{Expr}
use Rattle.bl_tree.specs.declared.tree.Guard.{Guard as GuardKind}
use Rattle.bl_tree.specs.declared.tree.Guard.TheVariants.{Abort, Reset}
use Rattle.bl_tree.specs.declared.tree.Path.{Path}
use Rattle.bl_tree.specs.declared.tree.Stmt.{Stmt}
use Rattle.bl_tree.specs.declared.tree.StmtKind.{StmtKind}
use Rattle.bl_tree.specs.declared.tree.StmtKind.TheOpen.{StmtKind-F}
use Rattle.bl_graph_nodes.specs.Steps.{StepLabel}
use Rattle.bl_ctree.specs.Actions.{Action, action, Silent, Acts, Asks, Copies, Gives}
use Rattle.bl_ctree.specs.Control as control
use Rattle.bl_ctree.specs.Control.{Body, Check}
use Rattle.bl_ctree.specs.Instances.{Setting}
use Rattle.bl_ctree.specs.Pending as pending
use Rattle.bl_ctree.specs.Positions.{Item, Begin, Again, Located, further, is_act, kind_of, place_of}
use Rattle.bl_ctree.specs.Steps as located
use Rattle.bl_ctree.proofs.Proper.{Proper, a_nil, a_wait, a_test, a_do, a_turn, a_seq, a_par, a_guard, a_run, BranchesProper, no_more, a_branch, left_proper}
use Rattle.bl_ctree_laws.specs.Bridge.{again, deed_of, label_of, plain_items, plain_kind, plain_tree, plain_trees}
use Rattle.bl_ctree_laws.specs.Laws.{AllArmed, Armed, LocatedStep, PlainStepsAreSteps, has_arm}
use Rattle.bl_ctree_laws.specs.Pending.{Deed, any_meets, deed, meets}
use Rattle.bl_ctree_laws.specs.Steps.{Moves, OneMoves, Unmet, acts, takes, passes, pauses, runs, repeats, repeats_until, leaves, turns, enters, skips, forks}
use Rattle.bl_ctree_laws.specs.Steps.{guards, goes_on, waits, lets, aborts, resets, guard_ends, copies, run_ends, joins, in_seq, in_par, in_guard, in_run}
use Rattle.bl_ctree_laws.specs.Steps.{first, later}
use Rattle.bl_ctree_laws.specs.Trees.{Pause, Tree, Trees, Nil, Wait, Test, Do, Guard, Par, Run, Seq, beside, is_nil, no_tree, seq}
use Rattle.bl_ctree_laws.proofs.Answering.{all_settled, call_of, fork_of, pause_of, watch_of, any_meeting, done_is, ended, guard_is, meeting, par_is, run_is}
use Rattle.bl_ctree_laws.proofs.Answering.{test_is, wait_is}
use Rattle.bl_ctree_laws.proofs.Forward.{block_begins, further_is, guard_begins, par_begins, run_begins, turn_begins}
use Rattle.bl_ctree_laws.proofs.PlainKinds.{of_kind}
use Rattle.bl_ctree_laws.proofs.Waking.{seq_is}

-- a step of the tree with this action
found : {w : Setting} {i : ℕ} {c : control.Control} {d : Bool} (a : Action) (after : control.Control) {c' : Tree} →
    located.Moves w i c d a after → plain_tree after ≡ c' → LocatedStep w i c d (deed_of a) c'
found a after move leads = record { action = a; after = after; moves = move; does = refl; leads = leads }

apart : Abort ≡ Reset → ⊥
apart is = absurd cc

-- ---- a statement that is to begin

module _ {w : Setting} {i : ℕ} (s : Located) where
  begins : (layer : StmtKind-F StmtKind Arm Branch Stmt) {d : Bool} {a : Deed} {n : StepLabel} {c' : Tree} → kind_of s ≡ layer →
      has_arm layer ≡ true →
      Moves Unmet w i (Do (plain_kind s.stmt (label_of s) (place_of s) layer)) d a n c' → LocatedStep w i (control.Do s) d a c'
  begins (StmtKind-F.Declare k initial) e arm acts = found (action i s (Acts s.stmt)) control.Nil (located.acts (ap is_act e)) refl
  begins (StmtKind-F.Assign path value) e arm acts = found (action i s (Acts s.stmt)) control.Nil (located.acts (ap is_act e)) refl
  begins (StmtKind-F.Call f inputs outputs) e arm acts = found (action i s (Acts s.stmt)) control.Nil (located.acts (ap is_act e)) refl
  begins (StmtKind-F.Return value) e arm acts = found (action i s (Acts s.stmt)) control.Nil (located.acts (ap is_act e)) refl
  begins (StmtKind-F.Await test) e arm pauses = found (action i s Silent) (control.Wait s) (located.pauses e) (wait_is s e)
  begins (StmtKind-F.Run target a inputs outputs) e arm (runs {callee = callee} {unit} at there) =
      found (action i s (Copies callee inputs)) _ (located.runs e at there)
      (sym (run_begins s callee target a inputs outputs unit.body e))
  begins (StmtKind-F.If [] other) e arm move = absurd cc
  begins (StmtKind-F.If (arm ∷ arms) other) e h takes =
      found (action i s (Asks (out-Arm arm).test)) _ (located.takes_arm e) (sym (block_begins s s.passed (out-Arm arm).body))
  begins (StmtKind-F.If (arm ∷ []) other) e h passes =
      found (action i s (Asks (out-Arm arm).test)) _ (located.takes_else e) (sym (block_begins s (suc s.passed) other))
  begins (StmtKind-F.If (arm ∷ next ∷ arms) other) e h passes =
      found (action i s (Asks (out-Arm arm).test)) (control.Do (further s next arms other)) (located.passes_arm e) (sym (further_is s next arms other))
  begins (StmtKind-F.Cobegin branches) e arm forks =
      found (action i s Silent) (control.Par s false (control.branches_begun s 0 branches)) (located.forks e)
      (sym (par_begins s branches e))
  begins (StmtKind-F.When guard test body) e arm guards =
      found (action i s Silent) _ (located.guards e)
      (sym (guard_begins s false guard test body e))
  begins (StmtKind-F.Repeat body) e arm repeats =
      found (action i s Silent) _ (located.repeats e) (sym (turn_begins s body (Begin s) _ (of_kind s _ e)))
  begins (StmtKind-F.Until body test) e arm repeats_until =
      found (action i s Silent) _ (located.repeats_until e) (sym (turn_begins s body (Again s) _ (ap again (of_kind s _ e))))
  begins (StmtKind-F.While test body) e arm enters =
      found (action i s (Asks test)) _ (located.enters e) (sym (turn_begins s body (Begin s) _ (of_kind s _ e)))
  begins (StmtKind-F.While test body) e arm skips = found (action i s (Asks test)) control.Nil (located.skips e) refl

  turns_on : (body : List Stmt) (test : Expr) {d : Bool} {a : Deed} {n : StepLabel} {c' : Tree} → kind_of s ≡ StmtKind-F.Until body test →
      Moves Unmet w i (Do (again (plain_kind s.stmt (label_of s) (place_of s) (StmtKind-F.Until body test)))) d a n c' →
      LocatedStep w i (control.Turn s) d a c'
  turns_on body test e leaves = found (action i s (Asks test)) control.Nil (located.leaves e) refl
  turns_on body test e turns = found (action i s (Asks test)) (control.Do s) (located.turns e) (ap Do (of_kind s _ e))

  tests : (test : Expr) {d : Bool} {a : Deed} {n : StepLabel} {c' : Tree} → kind_of s ≡ StmtKind-F.Await test →
      Moves Unmet w i (Test (pause_of s test)) d a n c' → LocatedStep w i (control.Test s) d a c'
  tests test e goes_on = found (action i s (Asks test)) control.Nil (located.goes_on e) refl
  tests test e waits = found (action i s (Asks test)) (control.Wait s) (located.waits e) (wait_is s e)

  -- ---- nodes over what is inside

  checks : (stood : Bool) (c : control.Control) (guard : GuardKind) (test : Expr) (body : List Stmt) {d : Bool} {a : Deed} {n : StepLabel} {c' : Tree} →
      kind_of s ≡ StmtKind-F.When guard test body →
      Moves Unmet w i (Guard (watch_of s guard test body) control.Check stood (plain_tree c)) d a n c' →
      LocatedStep w i (control.Guard s control.Check stood c) d a c'
  checks stood c guard test body e lets =
      found (action i s (Asks test)) (control.Guard s control.Body stood c) (located.lets e) (guard_is s control.Body stood (plain_tree c) e)
  checks stood c Abort test body e (aborts is) = found (action i s (Asks test)) control.Nil (located.aborts e) refl
  checks stood c Reset test body e (aborts is) = absurd (apart (sym is))
  checks stood c Abort test body e (resets is) = absurd (apart is)
  checks stood c Reset test body e (resets is) =
      found (action i s (Asks test)) _ (located.resets e)
      (sym (guard_begins s stood Reset test body e))

  copying : (callee : ℕ) (stood : Bool) (c : control.Control) (target : Option Path) (unit : ℕ)
      (inputs : List Expr) (outputs : List Path) {d : Bool} {a : Deed} {n : StepLabel} {c' : Tree} →
      kind_of s ≡ StmtKind-F.Run target unit inputs outputs →
      Moves Unmet w i (Run (call_of s target unit inputs outputs) callee control.Check stood (plain_tree c)) d a n c' →
      LocatedStep w i (control.Run s callee control.Check stood c) d a c'
  copying callee stood c target unit inputs outputs e copies =
      found (action i s (Copies callee inputs)) (control.Run s callee control.Body stood c) (located.copies e)
      (run_is s callee control.Body stood (plain_tree c) e)

-- a step of the branches for one of the plain branches
record LocatedOne (w : Setting) (i : ℕ) (branches : control.Branches) (d : Bool) (a : Deed) (branches' : Trees) : Type 0 where
  action : Action
  after : control.Branches
  moves : located.OneMoves w i branches d action after
  does : deed_of action ≡ a
  leads : plain_trees after ≡ branches'

-- ---- a step inside

sequence : {w : Setting} {i : ℕ} (c : control.Control) (rest : List Item) {d : Bool} {a : Deed} {n : StepLabel} {c' : Tree} →
    ((t : Tree) → Moves Unmet w i (plain_tree c) d a n t → LocatedStep w i c d a t) →
    Moves Unmet w i (Seq (plain_tree c) (plain_items rest)) d a n c' → LocatedStep w i (control.Seq c rest) d a c'
sequence c rest inner (in_seq move) =
    let step = inner _ move in
    record {
      action = step.action;
      after = control.seq step.after rest;
      moves = located.in_seq step.moves;
      does = step.does;
      leads = seq_is step.after rest ∙ ap (λ c. seq c (plain_items rest)) step.leads;
    }

module _ {w : Setting} {i : ℕ} (s : Located) (stood : Bool) where
  guard_over : (c : control.Control) → control.is_nil c ≡ true →
      LocatedStep w i (control.Guard s control.Body stood c) true (deed i (place_of s) Silent) Nil
  guard_over control.Nil e = found (action i s Silent) control.Nil located.guard_ends refl
  guard_over c e = absurd cc

  within_guard : (c : control.Control) (guard : GuardKind) (test : Expr) (body : List Stmt) {d : Bool} {a : Deed} {n : StepLabel} {c' : Tree} →
      kind_of s ≡ StmtKind-F.When guard test body → (t : Tree) → control.is_nil c ≡ is_nil t →
      ((after : Tree) → Moves Unmet w i t d a n after → LocatedStep w i c d a after) →
      Moves Unmet w i (Guard (watch_of s guard test body) control.Body stood t) d a n c' → LocatedStep w i (control.Guard s control.Body stood c) d a c'
  within_guard c guard test body e t nil inner guard_ends = guard_over c nil
  within_guard c guard test body e t nil inner (in_guard move) =
      let step = inner _ move in
      record {
        action = step.action;
        after = control.Guard s control.Body stood step.after;
        moves = located.in_guard step.moves;
        does = step.does;
        leads = guard_is s control.Body stood (plain_tree step.after) e ∙ ap (Guard (watch_of s guard test body) control.Body stood) step.leads;
      }

  run_over : (c : control.Control) (callee : ℕ) (target : Option Path) (a : ℕ) (inputs : List Expr) (outputs : List Path) →
      kind_of s ≡ StmtKind-F.Run target a inputs outputs → control.is_nil c ≡ true →
      LocatedStep w i (control.Run s callee control.Body stood c) true (deed i (place_of s) (Gives callee target)) Nil
  run_over control.Nil callee target a inputs outputs e over = found (action i s (Gives callee target)) control.Nil (located.run_ends e) refl
  run_over c callee target a inputs outputs e over = absurd cc

  within_run : (c : control.Control) (callee : ℕ) (target : Option Path) (unit : ℕ)
      (inputs : List Expr) (outputs : List Path) {d : Bool} {a : Deed} {n : StepLabel} {c' : Tree} →
      kind_of s ≡ StmtKind-F.Run target unit inputs outputs →
      (t : Tree) → control.is_nil c ≡ is_nil t →
      ((m : StepLabel) (after : Tree) → Moves Unmet w callee t d a m after → LocatedStep w callee c d a after) →
      Moves Unmet w i (Run (call_of s target unit inputs outputs) callee control.Body stood t) d a n c' →
      LocatedStep w i (control.Run s callee control.Body stood c) d a c'
  within_run c callee target unit inputs outputs e t nil inner run_ends = run_over c callee target unit inputs outputs e nil
  within_run c callee target unit inputs outputs e t nil inner (in_run move) =
      let step = inner _ _ move in
      record {
        action = step.action;
        after = control.Run s callee control.Body stood step.after;
        moves = located.in_run step.moves;
        does = step.does;
        leads = run_is s callee control.Body stood (plain_tree step.after) e
            ∙ ap (Run (call_of s target unit inputs outputs) callee control.Body stood) step.leads;
      }

  within_par : (written : List Branch) (branches : control.Branches) {d : Bool} {a : Deed} {n : StepLabel} {c' : Tree} →
      kind_of s ≡ StmtKind-F.Cobegin written → BranchesProper w i written branches →
      ((after : Trees) → OneMoves Unmet w i (plain_trees branches) d a n after → LocatedOne w i branches d a after) →
      Moves Unmet w i (Par (fork_of s written) stood (plain_trees branches)) d a n c' → LocatedStep w i (control.Par s stood branches) d a c'
  within_par written branches e all inner (joins still done) =
      found (action i s Silent) control.Nil (located.joins (sym (all_settled all) ∙ still) (sym (done_is branches) ∙ done)) refl
  within_par written branches e all inner (in_par move) =
      let step = inner _ move in
      record {
        action = step.action;
        after = control.Par s stood step.after;
        moves = located.in_par step.moves;
        does = step.does;
        leads = par_is s stood (plain_trees step.after) e ∙ ap (Par (fork_of s written) stood) step.leads;
      }

-- what the action reads no other branch may still write
free_of_all : {w : Setting} {i : ℕ} {written : List Branch} {branches : control.Branches} {a : Deed} (made : Action) → deed_of made ≡ a →
    BranchesProper w i written branches → any_meets w i (plain_trees branches) a ≡ false → pending.any_meets w i branches made ≡ false
free_of_all {w} {i} {branches = branches} made is p free = sym (any_meeting made p) ∙ ap (any_meets w i (plain_trees branches)) is ∙ free

free_of : {w : Setting} {i : ℕ} {c : control.Control} {a : Deed} (made : Action) → deed_of made ≡ a → Proper w i c →
    meets w i (plain_tree c) a ≡ false → pending.meets w i c made ≡ false
free_of {w} {i} {c} made is p free = sym (meeting made p) ∙ ap (meets w i (plain_tree c)) is ∙ free

-- ---- steps

still : {A : Type 0} {w : Setting} {i : ℕ} {s : Pause} {d : Bool} {a : Deed} {n : StepLabel} {c' : Tree} → Moves Unmet w i (Wait s) d a n c' → A
still move = elim move [ ]

over : {A : Type 0} {w : Setting} {i : ℕ} {d : Bool} {a : Deed} {n : StepLabel} {c' : Tree} → Moves Unmet w i Nil d a n c' → A
over move = elim move [ ]

none : {A : Type 0} {w : Setting} {i : ℕ} {d : Bool} {a : Deed} {n : StepLabel} {branches' : Trees} → OneMoves Unmet w i no_tree d a n branches' → A
none move = elim move [ ]

-- a step of a tree that is equal to this one
as_of : {w : Setting} {i : ℕ} {one c c' : Tree} {d : Bool} {a : Deed} {n : StepLabel} → one ≡ c → Moves Unmet w i one d a n c' →
    Moves Unmet w i c d a n c'
as_of {w} {i} {c' = c'} {d} {a} {n} e move = subst (λ c. Moves Unmet w i c d a n c') e move

mutual
  back : {w : Setting} {i : ℕ} {c : control.Control} {d : Bool} {a : Deed} {n : StepLabel} {c' : Tree} → Proper w i c → Armed c →
      Moves Unmet w i (plain_tree c) d a n c' → LocatedStep w i c d a c'
  back a_nil armed move = over move
  back (a_wait {s = s} e) armed move = still (as_of (wait_is s e) move)
  back (a_test {s = s} {e = test} e) armed move = tests s test e (as_of (test_is s e) move)
  back (a_do {s = s}) armed move = begins s (kind_of s) refl armed move
  back (a_turn {s = s} {body} {e = test} e) armed move = turns_on s body test e (as_of (ap (λ made. Do (again made)) (of_kind s _ e)) move)
  back (a_seq {c = c} {rest} busy more inner items) armed move = sequence c rest (λ t m. back inner armed m) move
  back (a_par {s = s} {stood} {written} {branches} e all) armed move =
      within_par s stood written branches e all (λ after m. back_one all armed m) (as_of (par_is s stood (plain_trees branches) e) move)
  back (a_guard {s = s} {phase = Check} {stood} {c} {guard} {e = test} {body} e inner) armed move =
      checks s stood c guard test body e (as_of (guard_is s control.Check stood (plain_tree c) e) move)
  back (a_guard {s = s} {phase = Body} {stood} {c} {guard} {e = test} {body} e inner) armed move =
      within_guard s stood c guard test body e (plain_tree c) (sym (ended c)) (λ after m. back inner armed m)
      (as_of (guard_is s control.Body stood (plain_tree c) e) move)
  back (a_run {s = s} {callee} {phase = Check} {stood} {c} {target} {a = unit} {inputs} {outputs} e at there inner) armed move =
      copying s callee stood c target unit inputs outputs e (as_of (run_is s callee control.Check stood (plain_tree c) e) move)
  back (a_run {s = s} {callee} {phase = Body} {stood} {c} {target} {a = unit} {inputs} {outputs} e at there inner) armed move =
      within_run s stood c callee target unit inputs outputs e (plain_tree c) (sym (ended c)) (λ m after inside. back inner armed inside)
      (as_of (run_is s callee control.Body stood (plain_tree c) e) move)

  back_one : {w : Setting} {i : ℕ} {written : List Branch} {branches : control.Branches} {d : Bool} {a : Deed} {n : StepLabel} {after : Trees} →
      BranchesProper w i written branches → AllArmed branches → OneMoves Unmet w i (plain_trees branches) d a n after → LocatedOne w i branches d a after
  back_one no_more armed move = none move
  back_one (a_branch {b = b} {c} {others = others} inner rest) armed (first {a = a} move free) =
      let step = back inner armed.0 move in
      record {
        action = step.action;
        after = control.branch (out-Branch b).weak step.after others;
        moves = located.first step.moves (free_of_all step.action step.does rest free);
        does = step.does;
        leads = ap (λ c. beside (out-Branch b).weak c (plain_trees others)) step.leads;
      }
  back_one (a_branch {b = b} {c} {others = others} inner rest) armed (later move free) =
      let step = back_one rest armed.1 move in
      record {
        action = step.action;
        after = control.branch (out-Branch b).weak c step.after;
        moves = located.later step.moves (free_of step.action step.does inner free);
        does = step.does;
        leads = ap (beside (out-Branch b).weak (plain_tree c)) step.leads;
      }

pub plain_steps_are_steps : PlainStepsAreSteps
plain_steps_are_steps w stood i items c d a n c' left armed move = back (left_proper left) armed move
