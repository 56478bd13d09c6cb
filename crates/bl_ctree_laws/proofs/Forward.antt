-- Each step of what may be left of items is one of its plain tree.
use Rattle.std.proofs.Common.{◌≡◌, ℕ, suc, Bool, false, List, [], ◌∷◌, map, refl, ap, sym, ◌∙◌, subst, Option}
use Rattle.bl_tree.specs.declared.tree.Arm.{Arm, out-Arm}
use Rattle.bl_tree.specs.declared.tree.Branch.{Branch, out-Branch}
use Rattle.bl_tree.specs.declared.tree.Expr.{Expr, out-Expr}
use Rattle.bl_tree.specs.declared.tree.Guard.{Guard as GuardKind}
use Rattle.bl_tree.specs.declared.tree.Guard.TheVariants.{Reset}
use Rattle.bl_tree.specs.declared.tree.Path.{Path}
use Rattle.bl_tree.specs.declared.tree.Stmt.{Stmt, out-Stmt, out-roll-Stmt, roll-Stmt}
use Rattle.bl_tree.specs.declared.tree.StmtKind.{StmtKind, out-StmtKind, out-roll-StmtKind, roll-StmtKind}
use Rattle.bl_tree.specs.declared.tree.StmtKind.TheOpen.{Stmt-F, StmtKind-F}
use Rattle.bl_graph_nodes.specs.Laws.{plain_arm, plain_branch}
use Rattle.bl_graph_nodes.specs.Plain.{Plain, bodies_from, else_at, inside, passed_one, plain_block, plain_body}
use Rattle.bl_graph_nodes.specs.Steps.{StepLabel}
use Rattle.bl_ctree.specs.Actions.{Action}
use Rattle.bl_ctree.specs.Control as control
use Rattle.bl_ctree.specs.Instances.{Setting}
use Rattle.bl_ctree.specs.Positions.{Item, Begin, Again, Located, block_items, body_items, further, kind_of}
use Rattle.bl_ctree.specs.Steps as located
use Rattle.bl_ctree.proofs.Proper.{Proper, a_seq, a_par, a_guard, a_run, BranchesProper, a_branch, left_proper}
use Rattle.bl_ctree_laws.specs.Bridge.{again, deed_of, guarded, parallel, running, label_of, plain_at, plain_item, plain_items, plain_kind, plain_tree}
use Rattle.bl_ctree_laws.specs.Bridge.{plain_trees}
use Rattle.bl_ctree_laws.specs.Laws.{PlainStep, StepsArePlain}
use Rattle.bl_ctree_laws.specs.Pending.{Deed}
use Rattle.bl_ctree_laws.specs.Steps.{Moves, OneMoves, Unmet, acts, takes, passes, pauses, runs, repeats, repeats_until, leaves, turns, enters, skips, forks}
use Rattle.bl_ctree_laws.specs.Steps.{guards, goes_on, waits, lets, aborts, resets, guard_ends, copies, run_ends, joins, in_seq, in_par, in_guard, in_run}
use Rattle.bl_ctree_laws.specs.Steps.{first, later, turn}
use Rattle.bl_ctree_laws.specs.Trees.{Tree, Do, Guard, Par, Run, trees_begun, beside, do_block}
use Rattle.bl_ctree_laws.proofs.Answering.{all_settled, call_of, fork_of, watch_of, any_meeting, done_is, guard_is, meeting, par_is, run_is, test_is, wait_is}
use Rattle.bl_ctree_laws.proofs.PlainKinds.{act_is, before_is, block_is, inner_is, of_kind}
use Rattle.bl_ctree_laws.proofs.Waking.{begins_is, seq_is}

-- a step between trees that are equal to these
pub between : {w : Setting} {i : ℕ} {c c' one other : Tree} {d : Bool} {a : Deed} {n : StepLabel} → one ≡ c → c' ≡ other →
    Moves Unmet w i c d a n c' → Moves Unmet w i one d a n other
between {w} {i} {c} {other = other} {d} {a} {n} e f move =
    subst (λ one. Moves Unmet w i one d a n other) (sym e) (subst (λ after. Moves Unmet w i c d a n after) f move)

-- ---- what begins

pub block_begins : (s : Located) (k : ℕ) (body : List Stmt) →
    do_block (plain_block body (inside (label_of s) k)) ≡ plain_tree (control.do_all (block_items s k body))
block_begins s k body = ap do_block (inner_is s k body) ∙ sym (begins_is (block_items s k body))

pub body_begins : (body : List Stmt) → do_block (plain_body body) ≡ plain_tree (control.do_all (body_items body))
body_begins body = ap do_block (block_is body 0 []) ∙ sym (begins_is (body_items body))

pub turn_begins : (s : Located) (body : List Stmt) (next : Item) (then : Plain) → plain_item next ≡ then →
    do_block (turn (plain_block body (inside (label_of s) 0)) then) ≡ plain_tree (control.do_all (located.turn_items s body next))
turn_begins s body next then is =
    (λ i. do_block (turn (inner_is s 0 body i) then))
    ∙ ap (λ then. do_block (turn (plain_items (block_items s 0 body)) then)) (sym is)
    ∙ ap do_block (sym (before_is (block_items s 0 body) (next ∷ [])))
    ∙ sym (begins_is (located.turn_items s body next))

pub branches_begin : (s : Located) (k : ℕ) (branches : List Branch) →
    trees_begun (bodies_from (map plain_branch branches) k (label_of s)) ≡ plain_trees (control.branches_begun s k branches)
branches_begin s k [] = refl
branches_begin s k (b ∷ rest) = λ i. beside (out-Branch b).weak (block_begins s k (out-Branch b).body i) (branches_begin s (suc k) rest i)

-- ---- what is around it

pub par_begins : (s : Located) (branches : List Branch) → kind_of s ≡ StmtKind-F.Cobegin branches →
    Par (fork_of s branches) false (trees_begun (bodies_from (map plain_branch branches) 0 (label_of s)))
    ≡ plain_tree (control.Par s false (control.branches_begun s 0 branches))
par_begins s branches e =
    sym (par_is s false (trees_begun (bodies_from (map plain_branch branches) 0 (label_of s))) e)
    ∙ ap (λ all. parallel false all (plain_at s)) (branches_begin s 0 branches)

pub guard_begins : (s : Located) (stood : Bool) (guard : GuardKind) (test : Expr) (body : List Stmt) → kind_of s ≡ StmtKind-F.When guard test body →
    Guard (watch_of s guard test body) control.Body stood (do_block (plain_block body (inside (label_of s) 0)))
    ≡ plain_tree (control.Guard s control.Body stood (control.do_all (block_items s 0 body)))
guard_begins s stood guard test body e =
    sym (guard_is s control.Body stood (do_block (plain_block body (inside (label_of s) 0))) e)
    ∙ ap (λ c. guarded control.Body stood c (plain_at s)) (block_begins s 0 body)

pub run_begins : (s : Located) (callee : ℕ) (target : Option Path) (a : ℕ) (inputs : List Expr) (outputs : List Path) (body : List Stmt) →
    kind_of s ≡ StmtKind-F.Run target a inputs outputs →
    Run (call_of s target a inputs outputs) callee control.Body false (do_block (plain_body body))
    ≡ plain_tree (control.Run s callee control.Body false (control.do_all (body_items body)))
run_begins s callee target a inputs outputs body e =
    sym (run_is s callee control.Body false (do_block (plain_body body)) e)
    ∙ ap (λ c. running callee control.Body false c (plain_at s)) (body_begins body)

-- ---- the `if` with its further arms

abbrev made : Arm → List Arm → List Stmt → Stmt-F StmtKind Arm Branch Stmt
made arm arms other = record { place = (out-Expr (out-Arm arm).test).place; what = roll-StmtKind (StmtKind-F.If (arm ∷ arms) other) }

opened : (arm : Arm) (arms : List Arm) (other : List Stmt) → out-Stmt (roll-Stmt (made arm arms other)) ≡ made arm arms other
opened arm arms other = out-roll-Stmt (made arm arms other)

pub further_is : (s : Located) (arm : Arm) (arms : List Arm) (other : List Stmt) →
    do_block (else_at (passed_one (label_of s)) (map plain_arm (arm ∷ arms)) (plain_block other)) ≡ Do (plain_at (further s arm arms other))
further_is s arm arms other =
    ap (λ layer. Do (plain_kind (further s arm arms other).stmt (label_of (further s arm arms other)) (made arm arms other).place layer))
    (sym (out-roll-StmtKind (StmtKind-F.If (arm ∷ arms) other)))
    ∙ ap (λ shown. Do (plain_kind (further s arm arms other).stmt (label_of (further s arm arms other)) shown.place (out-StmtKind shown.what)))
    (sym (opened arm arms other))

-- ---- steps

-- a step of the plain branches
record PlainOne (w : Setting) (i : ℕ) (branches : control.Branches) (d : Bool) (a : Action) (branches' : control.Branches) : Type 0 where
  label : StepLabel
  moves : OneMoves Unmet w i (plain_trees branches) d (deed_of a) label (plain_trees branches')

by : {w : Setting} {i : ℕ} {c c' : control.Control} {d : Bool} {a : Action} {n : StepLabel} →
    Moves Unmet w i (plain_tree c) d (deed_of a) n (plain_tree c') →
    PlainStep w i c d a c'
by {n = n} move = record { label = n; moves = move }

mutual
  steps : {w : Setting} {i : ℕ} {c : control.Control} {d : Bool} {a : Action} {c' : control.Control} →
      located.Moves w i c d a c' → Proper w i c → PlainStep w i c d a c'
  steps (located.acts {s = s} e) p = by (between (ap Do (act_is s e)) refl acts)
  steps (located.takes_arm {s = s} {arm} e) p = by (between (ap Do (of_kind s _ e)) (block_begins s s.passed (out-Arm arm).body) takes)
  steps (located.passes_arm {s = s} {next = next} {arms} {other} e) p =
      by (between (ap Do (of_kind s _ e)) (further_is s next arms other) passes)
  steps (located.takes_else {s = s} {other = other} e) p = by (between (ap Do (of_kind s _ e)) (block_begins s (suc s.passed) other) passes)
  steps (located.pauses {s = s} e) p = by (between (ap Do (of_kind s _ e)) (sym (wait_is s e)) pauses)
  steps (located.runs {s = s} {target} {a} {inputs} {outputs} {callee} {unit} e at there) p =
      by (between (ap Do (of_kind s _ e)) (run_begins s callee target a inputs outputs unit.body e) (runs at there))
  steps (located.repeats {s = s} {body} e) p =
      by (between (ap Do (of_kind s _ e)) (turn_begins s body (Begin s) _ (of_kind s _ e)) repeats)
  steps (located.repeats_until {s = s} {body} e) p =
      by (between (ap Do (of_kind s _ e)) (turn_begins s body (Again s) _ (ap again (of_kind s _ e))) repeats_until)
  steps (located.leaves {s = s} e) p = by (between (ap (λ made. Do (again made)) (of_kind s _ e)) refl leaves)
  steps (located.turns {s = s} e) p = by (between (ap (λ made. Do (again made)) (of_kind s _ e)) (ap Do (sym (of_kind s _ e))) turns)
  steps (located.enters {s = s} {body = body} e) p =
      by (between (ap Do (of_kind s _ e)) (turn_begins s body (Begin s) _ (of_kind s _ e)) enters)
  steps (located.skips {s = s} e) p = by (between (ap Do (of_kind s _ e)) refl skips)
  steps (located.forks {s = s} {branches} e) p =
      by (between (ap Do (of_kind s _ e)) (par_begins s branches e) forks)
  steps (located.guards {s = s} {guard} {e = test} {body} e) p =
      by (between (ap Do (of_kind s _ e)) (guard_begins s false guard test body e) guards)
  steps (located.goes_on {s = s} e) p = by (between (test_is s e) refl goes_on)
  steps (located.waits {s = s} e) p = by (between (test_is s e) (sym (wait_is s e)) waits)
  steps (located.lets {s = s} {stood} {c = c} e) p =
      by (between (guard_is s control.Check stood (plain_tree c) e) (sym (guard_is s control.Body stood (plain_tree c) e)) lets)
  steps (located.aborts {s = s} {stood} {c = c} e) p = by (between (guard_is s control.Check stood (plain_tree c) e) refl (aborts refl))
  steps (located.resets {s = s} {stood} {e = test} {body} {c} e) p =
      by (between (guard_is s control.Check stood (plain_tree c) e) (guard_begins s stood Reset test body e) (resets refl))
  steps (located.guard_ends {s = s} {stood}) (a_guard e inner) = by (between (guard_is s control.Body stood (plain_tree control.Nil) e) refl guard_ends)
  steps (located.copies {s = s} {callee} {stood} {c} e) p =
      by (between (run_is s callee control.Check stood (plain_tree c) e) (sym (run_is s callee control.Body stood (plain_tree c) e)) copies)
  steps (located.run_ends {s = s} {callee} {stood} e) p = by (between (run_is s callee control.Body stood (plain_tree control.Nil) e) refl run_ends)
  steps (located.joins {s = s} {stood} {branches} still done) (a_par e all) =
      by (between (par_is s stood (plain_trees branches) e) refl (joins (all_settled all ∙ still) (done_is branches ∙ done)))
  steps (located.in_seq {rest = rest} {c' = c'} move) (a_seq busy more inner items) = by (between refl (sym (seq_is c' rest)) (in_seq (steps move inner).moves))
  steps (located.in_par {s = s} {stood} {branches} {branches' = branches'} move) (a_par e all) =
      by (between (par_is s stood (plain_trees branches) e) (sym (par_is s stood (plain_trees branches') e)) (in_par (one_steps move all).moves))
  steps (located.in_guard {s = s} {stood} {c} {c' = c'} move) (a_guard e inner) =
      by (between (guard_is s control.Body stood (plain_tree c) e) (sym (guard_is s control.Body stood (plain_tree c') e)) (in_guard (steps move inner).moves))
  steps (located.in_run {s = s} {callee} {stood} {c} {c' = c'} move) (a_run e at there inner) =
      by (between (run_is s callee control.Body stood (plain_tree c) e) (sym (run_is s callee control.Body stood (plain_tree c') e))
      (in_run (steps move inner).moves))

  one_steps : {w : Setting} {i : ℕ} {branches : control.Branches} {d : Bool} {a : Action} {branches' : control.Branches} {written : List Branch} →
      located.OneMoves w i branches d a branches' → BranchesProper w i written branches → PlainOne w i branches d a branches'
  one_steps (located.first {a = a} move free) (a_branch inner others) =
      let m = steps move inner in record { label = m.label; moves = first m.moves (any_meeting a others ∙ free) }
  one_steps (located.later {a = a} move free) (a_branch inner others) =
      let m = one_steps move others in record { label = m.label; moves = later m.moves (meeting a inner ∙ free) }

pub steps_are_plain : StepsArePlain
steps_are_plain w stood i items c d a c' left move = steps move (left_proper left)
