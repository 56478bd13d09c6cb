-- What can be asked of a tree is the same of its plain tree.
use Rattle.std.proofs.Common.{◌≡◌, ℕ, Bool, true, false, not, ◌&&◌, ◌||◌, List, [], ◌∷◌, map, refl, ap, sym, ◌∙◌, cond, Option}
use Rattle.std.specs.List.{list_any}
use Rattle.bl_tree.specs.declared.static_path.Static.{Static}
use Rattle.bl_tree.specs.declared.tree.Branch.{Branch, out-Branch}
use Rattle.bl_tree.specs.declared.tree.Expr.{Expr}
use Rattle.bl_tree.specs.declared.tree.Guard.{Guard as GuardKind}
use Rattle.bl_tree.specs.declared.tree.Path.{Path}
use Rattle.bl_tree.specs.declared.tree.Stmt.{Stmt}
use Rattle.bl_tree.specs.declared.tree.StmtKind.TheOpen.{StmtKind-F}
use Rattle.bl_tree.specs.Effects.{target_static}
use Rattle.bl_tree.specs.Instant.{instant}
use Rattle.bl_tree.specs.Static.{static_of}
use Rattle.bl_effects.specs.Surface.{surface_of}
use Rattle.bl_graph_nodes.specs.Laws.{plain_branch}
use Rattle.bl_graph_nodes.specs.Nodes.{are_instant, is_instant}
use Rattle.bl_graph_nodes.specs.Plain.{Plain, Await as AwaitOf, Cobegin as CobeginOf, Run as RunOf, Until, When as WhenOf, bodies_from, inside, plain_block}
use Rattle.bl_ctree.specs.Actions.{Action, reads_of}
use Rattle.bl_ctree.specs.Control as control
use Rattle.bl_ctree.specs.Instances.{Setting}
use Rattle.bl_ctree.specs.Residual.{TestsFit, no_item, a_begin, an_again}
use Rattle.bl_ctree.specs.Pending as pending
use Rattle.bl_ctree.specs.Positions.{Item, Begin, Again, Located, kind_of, place_of}
use Rattle.bl_ctree.specs.Store.{Location, home, overlap}
use Rattle.bl_ctree.proofs.Proper.{Proper, a_nil, a_wait, a_test, a_do, a_turn, a_seq, a_par, a_guard, a_run, BranchesProper, no_more, a_branch, left_proper}
use Rattle.bl_ctree_laws.specs.Bridge.{again, deed_of, guarded, label_of, parallel, plain_at, plain_item, plain_items, plain_tree, plain_trees, running}
use Rattle.bl_ctree_laws.specs.Bridge.{testing, waiting}
use Rattle.bl_ctree_laws.specs.Laws.{AnswersArePlain}
use Rattle.bl_ctree_laws.specs.Pending.{anew, any_meets, any_writes, guard_may_end, leads_over, may_end, may_join, may_write, may_write_path, meets}
use Rattle.bl_ctree_laws.specs.Pending.{run_may_end, run_writes, soon, soon_in}
use Rattle.bl_ctree_laws.specs.Steps.{call, fork, pause, watch}
use Rattle.bl_ctree_laws.specs.Trees.{Call, Fork, Pause, Tree, Trees, Watch, Test, Wait, Guard, Par, Run, are_done, are_settled, has_strong, is_nil, is_settled}
use Rattle.bl_ctree_laws.specs.Trees.{some_ended, strong_ended, in_body}
use Rattle.bl_ctree_laws.proofs.Alike.{items_end, statement_ends}
use Rattle.bl_ctree_laws.proofs.PlainKinds.{of_kind}
use Rattle.bl_ctree_laws.proofs.Surfaces.{located_soon}

-- ---- ended

waiting_busy : (s : Plain) → is_nil (waiting s) ≡ false
waiting_busy (AwaitOf l at e) = refl
waiting_busy s = refl

testing_busy : (s : Plain) → is_nil (testing s) ≡ false
testing_busy (AwaitOf l at e) = refl
testing_busy s = refl

parallel_busy : (stood : Bool) (branches : Trees) (s : Plain) → is_nil (parallel stood branches s) ≡ false
parallel_busy stood branches (CobeginOf l at bodies) = refl
parallel_busy stood branches s = refl

guarded_busy : (phase : control.Phase) (stood : Bool) (c : Tree) (s : Plain) → is_nil (guarded phase stood c s) ≡ false
guarded_busy phase stood c (WhenOf l at guard e body) = refl
guarded_busy phase stood c s = refl

running_busy : (callee : ℕ) (phase : control.Phase) (stood : Bool) (c : Tree) (s : Plain) → is_nil (running callee phase stood c s) ≡ false
running_busy callee phase stood c (RunOf l at target a inputs outputs) = refl
running_busy callee phase stood c s = refl

pub ended : (c : control.Control) → is_nil (plain_tree c) ≡ control.is_nil c
ended control.Nil = refl
ended (control.Wait s) = waiting_busy (plain_at s)
ended (control.Test s) = testing_busy (plain_at s)
ended (control.Idle items) = refl
ended (control.Do s) = refl
ended (control.Turn s) = refl
ended (control.Seq c rest) = refl
ended (control.Par s stood branches) = parallel_busy stood (plain_trees branches) (plain_at s)
ended (control.Guard s phase stood c) = guarded_busy phase stood (plain_tree c) (plain_at s)
ended (control.Run s callee phase stood c) = running_busy callee phase stood (plain_tree c) (plain_at s)

-- ---- nodes over their own statements

abbrev pub pause_of : Located → Expr → Pause
pause_of s e = pause (label_of s) (place_of s) e

abbrev pub fork_of : Located → List Branch → Fork
fork_of s written = fork (label_of s) (place_of s) (bodies_from (map plain_branch written) 0 (label_of s))

abbrev pub watch_of : Located → GuardKind → Expr → List Stmt → Watch
watch_of s guard e body = watch (label_of s) (place_of s) guard e (plain_block body (inside (label_of s) 0))

abbrev pub call_of : Located → Option Path → ℕ → List Expr → List Path → Call
call_of s target a inputs outputs = call (label_of s) (place_of s) target a inputs outputs

pub wait_is : (s : Located) {e : Expr} → kind_of s ≡ StmtKind-F.Await e → plain_tree (control.Wait s) ≡ Wait (pause_of s e)
wait_is s is = ap waiting (of_kind s _ is)

pub test_is : (s : Located) {e : Expr} → kind_of s ≡ StmtKind-F.Await e → plain_tree (control.Test s) ≡ Test (pause_of s e)
test_is s is = ap testing (of_kind s _ is)

pub par_is : (s : Located) {written : List Branch} (stood : Bool) (branches : Trees) → kind_of s ≡ StmtKind-F.Cobegin written →
    parallel stood branches (plain_at s) ≡ Par (fork_of s written) stood branches
par_is s stood branches is = ap (parallel stood branches) (of_kind s _ is)

pub guard_is : (s : Located) {guard : GuardKind} {e : Expr} {body : List Stmt} (phase : control.Phase) (stood : Bool) (c : Tree) →
    kind_of s ≡ StmtKind-F.When guard e body → guarded phase stood c (plain_at s) ≡ Guard (watch_of s guard e body) phase stood c
guard_is s phase stood c is = ap (guarded phase stood c) (of_kind s _ is)

pub run_is : (s : Located) {target : Option Path} {a : ℕ} {inputs : List Expr} {outputs : List Path} (callee : ℕ)
    (phase : control.Phase) (stood : Bool) (c : Tree) → kind_of s ≡ StmtKind-F.Run target a inputs outputs →
    running callee phase stood c (plain_at s) ≡ Run (call_of s target a inputs outputs) callee phase stood c
run_is s callee phase stood c is = ap (running callee phase stood c) (of_kind s _ is)

-- ---- branches

pub strong_there : (branches : control.Branches) → has_strong (plain_trees branches) ≡ control.has_strong branches
strong_there control.no_branch = refl
strong_there (control.branch weak c rest) = ap (λ b. not weak || b) (strong_there rest)

strong_over : (branches : control.Branches) → strong_ended (plain_trees branches) ≡ control.strong_ended branches
strong_over control.no_branch = refl
strong_over (control.branch weak c rest) = λ i. (weak || ended c i) && strong_over rest i

some_over : (branches : control.Branches) → some_ended (plain_trees branches) ≡ control.some_ended branches
some_over control.no_branch = refl
some_over (control.branch weak c rest) = λ i. ended c i || some_over rest i

pub done_is : (branches : control.Branches) → are_done (plain_trees branches) ≡ control.are_done branches
done_is branches = λ i. cond (strong_there branches i) (strong_over branches i) (some_over branches i)

-- ---- settled

phase_is : (phase : control.Phase) → in_body phase ≡ control.in_body phase
phase_is control.Check = refl
phase_is control.Body = refl

at_rest : (phase : control.Phase) (c : control.Control) → is_settled (plain_tree c) ≡ control.is_settled c →
    (in_body phase && (is_settled (plain_tree c) && not (is_nil (plain_tree c))))
    ≡ (control.in_body phase && (control.is_settled c && not (control.is_nil c)))
at_rest phase c is = λ i. phase_is phase i && (is i && not (ended c i))

mutual
  pub settled : {w : Setting} {i : ℕ} {c : control.Control} → Proper w i c → is_settled (plain_tree c) ≡ control.is_settled c
  settled a_nil = refl
  settled (a_wait {s = s} e) = ap is_settled (wait_is s e)
  settled (a_test {s = s} e) = ap is_settled (test_is s e)
  settled a_do = refl
  settled (a_turn e) = refl
  settled (a_seq busy more inner items) = settled inner
  settled (a_par {s = s} {stood} {branches = branches} e all) =
      ap is_settled (par_is s stood (plain_trees branches) e) ∙ (λ i. all_settled all i && not (done_is branches i))
  settled (a_guard {s = s} {phase} {stood} {c} e inner) = ap is_settled (guard_is s phase stood (plain_tree c) e) ∙ at_rest phase c (settled inner)
  settled (a_run {s = s} {callee} {phase} {stood} {c} e at there inner) =
      ap is_settled (run_is s callee phase stood (plain_tree c) e) ∙ at_rest phase c (settled inner)

  pub all_settled : {w : Setting} {i : ℕ} {written : List Branch} {branches : control.Branches} → BranchesProper w i written branches →
      are_settled (plain_trees branches) ≡ control.are_settled branches
  all_settled no_more = refl
  all_settled (a_branch inner others) = λ i. settled inner i && all_settled others i

-- ---- ends

guard_ends_is : (s : Located) {guard : GuardKind} {e : Expr} {body : List Stmt} (phase : control.Phase) (one other : Bool) → one ≡ other →
    kind_of s ≡ StmtKind-F.When guard e body →
    guard_may_end phase (watch_of s guard e body) one ≡ pending.guard_may_end phase s other
guard_ends_is s {guard} {e} {body} control.Check one other same is =
    (λ i. cond (pending.is_reset_kind guard) (same i || are_instant (plain_block body (inside (label_of s) 0))) true)
    ∙ ap (λ b. cond (pending.is_reset_kind guard) (other || b) true) (sym (ap is_instant (of_kind s _ is)) ∙ statement_ends s)
    ∙ sym (ap (λ layer. cond (pending.is_reset layer) (other || instant s.stmt) true) is)
guard_ends_is s control.Body one other same is = same

run_ends_is : (phase : control.Phase) (one other : Bool) → one ≡ other → run_may_end phase one ≡ pending.run_may_end phase other
run_ends_is control.Check one other same = refl
run_ends_is control.Body one other same = same

mutual
  pub ends : {w : Setting} {i : ℕ} {c : control.Control} → Proper w i c → may_end (plain_tree c) ≡ pending.may_end c
  ends a_nil = refl
  ends (a_wait {s = s} e) = ap may_end (wait_is s e)
  ends (a_test {s = s} e) = ap may_end (test_is s e)
  ends (a_do {s}) = statement_ends s
  ends (a_turn {s} e) = ap (λ made. is_instant (again made)) (of_kind s _ e)
  ends (a_seq busy more inner items) = λ i. ends inner i && items_end items i
  ends (a_par {s = s} {stood} {branches = branches} e all) =
      ap may_end (par_is s stood (plain_trees branches) e)
      ∙ ap (λ b. may_join b (plain_trees branches)) (strong_there branches) ∙ all_end (control.has_strong branches) all
  ends (a_guard {s = s} {phase} {stood} {c} e inner) =
      ap may_end (guard_is s phase stood (plain_tree c) e) ∙ guard_ends_is s phase (may_end (plain_tree c)) (pending.may_end c) (ends inner) e
  ends (a_run {s = s} {callee} {phase} {stood} {c} e at there inner) =
      ap may_end (run_is s callee phase stood (plain_tree c) e) ∙ run_ends_is phase (may_end (plain_tree c)) (pending.may_end c) (ends inner)

  all_end : {w : Setting} {i : ℕ} {written : List Branch} {branches : control.Branches} (strong : Bool) → BranchesProper w i written branches →
      may_join strong (plain_trees branches) ≡ pending.may_join strong branches
  all_end true no_more = refl
  all_end false no_more = refl
  all_end true (a_branch {b = b} inner others) = λ i. ((out-Branch b).weak || ends inner i) && all_end true others i
  all_end false (a_branch inner others) = λ i. ends inner i || all_end false others i

-- ---- writes

any_of_images : {A B : Type 0} (test : B → Bool) (f : A → B) (xs : List A) → list_any test (map f xs) ≡ list_any (λ x. test (f x)) xs
any_of_images test f [] = refl
any_of_images test f (x ∷ xs) = ap (λ b. test (f x) || b) (any_of_images test f xs)

module _ (w : Setting) (i : ℕ) (at : Location) where
  abbrev over : Static → Bool
  over = leads_over w i at

  lies : (paths : List Static) → list_any over paths ≡ pending.lie_over w i paths at
  lies paths = sym (any_of_images (overlap at) (λ path. home w (record { instance = i; path = path })) paths)

  surface_is : (s : Located) → soon over (plain_at s) ≡ pending.surface_over w i s at
  surface_is s = located_soon over s ∙ lies (surface_of s.stmt).writes

  again_soon : (s : Plain) → soon over (again s) ≡ soon over s
  again_soon (Until l place body e) = refl
  again_soon s = refl

  item_soon : (item : Item) → soon over (plain_item item) ≡ pending.item_surface w i item at
  item_soon (Begin s) = surface_is s
  item_soon (Again s) = again_soon (plain_at s) ∙ surface_is s

  items_soon : {items : List Item} → TestsFit items → soon_in over (plain_items items) ≡ pending.items_surface w i items at
  items_soon no_item = refl
  items_soon (a_begin {s} {rest} p) = λ j. item_soon (Begin s) j || (statement_ends s j && items_soon p j)
  items_soon (an_again {s} {rest = rest} e p) =
      λ j. item_soon (Again s) j || (ap (λ made. is_instant (again made)) (of_kind s _ e) j && items_soon p j)

  anew_is : (s : Located) {guard : GuardKind} {e : Expr} {body : List Stmt} (phase : control.Phase) → kind_of s ≡ StmtKind-F.When guard e body →
      anew over (watch_of s guard e body) phase ≡ pending.anew w i s phase at
  anew_is s {guard} control.Check is =
      ap (λ b. pending.is_reset_kind guard && b) (sym (ap (soon over) (of_kind s _ is)) ∙ surface_is s)
      ∙ sym (ap (λ layer. pending.is_reset layer && pending.surface_over w i s at) is)
  anew_is s control.Body is = refl

  run_is_over : (s : Located) {target : _} {a : ℕ} {inputs : List Expr} {outputs : List Path} (still other may may' : Bool) →
      kind_of s ≡ StmtKind-F.Run target a inputs outputs → still ≡ other → may ≡ may' →
      run_writes over (call_of s target a inputs outputs) still may ≡ pending.run_writes w i s other may' at
  run_is_over s {target} {outputs = outputs} still other may may' is same ends =
      (λ j. not (same j) && (lies (map static_of outputs) j || (ends j && lies (target_static target) j)))
      ∙ sym (ap (λ layer. not other
      && (pending.lie_over w i (pending.outputs_of_kind layer) at || (may' && pending.lie_over w i (pending.target_of_kind layer) at))) is)

mutual
  pub writes : {w : Setting} {i : ℕ} {c : control.Control} (at : Location) → Proper w i c → may_write w i (plain_tree c) at ≡ pending.may_write w i c at
  writes at a_nil = refl
  writes {w} {i} at (a_wait {s = s} e) = ap (may_write_path (leads_over w i at)) (wait_is s e)
  writes {w} {i} at (a_test {s = s} e) = ap (may_write_path (leads_over w i at)) (test_is s e)
  writes {w} {i} at (a_do {s = s}) = surface_is w i at s
  writes {w} {i} at (a_turn {s = s} e) = item_soon w i at (Again s)
  writes {w} {i} at (a_seq busy more inner items) = λ j. writes at inner j || (ends inner j && items_soon w i at items j)
  writes {w} {i} at (a_par {s = s} {stood} {branches = branches} e all) =
      ap (may_write_path (leads_over w i at)) (par_is s stood (plain_trees branches) e) ∙ all_write at all
  writes {w} {i} at (a_guard {s = s} {phase} {stood} {c} e inner) =
      ap (may_write_path (leads_over w i at)) (guard_is s phase stood (plain_tree c) e) ∙ (λ j. writes at inner j || anew_is w i at s phase e j)
  writes {w} {i} at (a_run {s = s} {callee} {phase} {stood} {c} e place there inner) =
      ap (may_write_path (leads_over w i at)) (run_is s callee phase stood (plain_tree c) e)
      ∙ run_is_over w i at s _ _ _ _ e (at_rest phase c (settled inner)) (run_ends_is phase (may_end (plain_tree c)) (pending.may_end c) (ends inner))

  all_write : {w : Setting} {i : ℕ} {written : List Branch} {branches : control.Branches} (at : Location) → BranchesProper w i written branches →
      any_writes w i (plain_trees branches) at ≡ pending.any_writes w i branches at
  all_write at no_more = refl
  all_write at (a_branch inner others) = λ j. writes at inner j || all_write at others j

-- ---- meeting

any_alike : (one other : Location → Bool) → ((at : Location) → one at ≡ other at) → (xs : List Location) → list_any one xs ≡ list_any other xs
any_alike one other same [] = refl
any_alike one other same (x ∷ xs) = λ i. same x i || any_alike one other same xs i

pub meeting : {w : Setting} {i : ℕ} {c : control.Control} (a : Action) → Proper w i c → meets w i (plain_tree c) (deed_of a) ≡ pending.meets w i c a
meeting {w} {i} {c} a p = any_alike (may_write w i (plain_tree c)) (pending.may_write w i c) (λ at. writes at p) (reads_of w a)

pub any_meeting : {w : Setting} {i : ℕ} {written : List Branch} {branches : control.Branches} (a : Action) → BranchesProper w i written branches →
    any_meets w i (plain_trees branches) (deed_of a) ≡ pending.any_meets w i branches a
any_meeting {w} {i} {branches = branches} a p =
    any_alike (any_writes w i (plain_trees branches)) (pending.any_writes w i branches) (λ at. all_write at p) (reads_of w a)

pub answers_are_plain : AnswersArePlain
answers_are_plain = record {
  ended = ended;
  settled = λ w stood i items c left. settled (left_proper left);
  ends = λ w stood i items c left. ends (left_proper left);
  writes = λ w stood i items c at left. writes at (left_proper left);
  meeting = λ w stood i items c a left. meeting a (left_proper left);
}
