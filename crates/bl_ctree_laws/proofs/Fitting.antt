-- Steps and waking keep trees typed.
use Rattle.std.proofs.Common.{◌≡◌, ℕ, ℤ, suc, Bool, true, ◌&&◌, List, [], ◌∷◌, ◌++◌, map, Option, Some, None, refl, sym, ap, ◌∙◌, subst}
use Rattle.std.specs.Prelude.{option_map, unwrap_or, ⊤}
use Rattle.std.proofs.lemmas.Bool.{and_from}
use Rattle.bl_tree.proofs.Basics.{and_first, and_second}
use Rattle.bl_tree.specs.declared.place.Place.{Place}
use Rattle.bl_tree.specs.declared.tree.Arm.{Arm, fold-Arm, fold_out-Arm, out-Arm}
use Rattle.bl_tree.specs.declared.tree.Branch.{Branch, fold-Branch, fold_out-Branch, out-Branch}
use Rattle.bl_tree.specs.declared.tree.Expr.{Expr}
use Rattle.bl_tree.specs.declared.tree.Guard.{Guard as GuardKind}
use Rattle.bl_tree.specs.declared.tree.Stmt.{Stmt, fold-roll-Stmt, fold_out-Stmt, out-Stmt, roll-Stmt}
use Rattle.bl_tree.specs.declared.tree.StmtKind.{StmtKind, fold-StmtKind, fold-roll-StmtKind, fold_out-StmtKind, map-StmtKind, roll-StmtKind}
use Rattle.bl_tree.specs.declared.tree.StmtKind.TheOpen.{StmtKind-F}
use Rattle.bl_tree.specs.declared.tree.Unit.{Unit as UnitDef}
use Rattle.bl_tree.specs.Reduce.{all_of}
use Rattle.bl_tree.specs.Typing.{TypingContext, arm_fits, branch_fits, fits, is_activity, is_inhabited, is_truth, kind_fits, stmt_fits, type_of}
use Rattle.bl_ctree.specs.Actions.{Action}
use Rattle.bl_ctree.specs.Control.{Control, Branches, Nil, Wait, Test, Idle, Do, Turn, Seq, Par, Guard, Run, no_branch, branch, all_woken, branches_begun}
use Rattle.bl_ctree.specs.Control.{do_all, followed, seq, woken}
use Rattle.bl_ctree.specs.Instances.{Setting, unit_at}
use Rattle.bl_ctree.specs.Means.{entry_items}
use Rattle.bl_ctree.specs.Positions.{Item, Begin, Again, Located, Position, block_items, body_items, further, items_from, kind_of, stmt_kind}
use Rattle.bl_ctree.specs.Reaches.{Reaches, after_tick, at_first}
use Rattle.bl_ctree.specs.Steps.{Moves, OneMoves, acts, takes_arm, passes_arm, takes_else, pauses, runs, repeats, repeats_until, leaves, turns, enters, skips}
use Rattle.bl_ctree.specs.Steps.{forks, guards, goes_on, waits, lets, aborts, resets, guard_ends, copies, run_ends, joins, in_seq, in_par, in_guard, in_run}
use Rattle.bl_ctree.specs.Steps.{first, later}
use Rattle.bl_ctree.specs.Store.{Store}
use Rattle.bl_ctree.specs.Ticks as ticks
use Rattle.bl_ctree_laws.specs.Fitted.{Fitted, ReachedIsArmed}
use Rattle.bl_ctree_laws.specs.Laws.{AllArmed, Armed, has_arm}
use Rattle.bl_ctree_laws.proofs.Running.{tree_same}

-- ---- typed statements, by their kinds

-- a statement may stand at some site
record Fits (s : Stmt) : Type 0 where
  site : TypingContext
  is : fits site s ≡ true

abbrev kind_typed : TypingContext → StmtKind → Bool
kind_typed site = fold-StmtKind Bool Bool Bool Bool (kind_fits site) (arm_fits site) branch_fits stmt_fits

abbrev arm_typed : TypingContext → Arm → Bool
arm_typed site = fold-Arm Bool Bool Bool Bool (kind_fits site) (arm_fits site) branch_fits stmt_fits

abbrev branch_typed : TypingContext → Branch → Bool
branch_typed site = fold-Branch Bool Bool Bool Bool (kind_fits site) (arm_fits site) branch_fits stmt_fits

abbrev parts : TypingContext → StmtKind-F StmtKind Arm Branch Stmt → StmtKind-F Bool Bool Bool Bool
parts site = map-StmtKind StmtKind Arm Branch Stmt Bool Bool Bool Bool (kind_typed site) (arm_typed site) (branch_typed site) (fits site)

fits_at : (site : TypingContext) (s : Stmt) (layer : StmtKind-F StmtKind Arm Branch Stmt) → stmt_kind s ≡ layer → fits site s ≡ kind_fits site (parts site layer)
fits_at site s layer e =
    fold_out-Stmt Bool Bool Bool Bool (kind_fits site) (arm_fits site) branch_fits stmt_fits s
    ∙ fold_out-StmtKind Bool Bool Bool Bool (kind_fits site) (arm_fits site) branch_fits stmt_fits (out-Stmt s).what
    ∙ ap (λ layer. kind_fits site (parts site layer)) e

arm_at : (site : TypingContext) (arm : Arm) → arm_typed site arm ≡ (is_truth (type_of site (out-Arm arm).test) && all_of (map (fits site) (out-Arm arm).body))
arm_at site arm = fold_out-Arm Bool Bool Bool Bool (kind_fits site) (arm_fits site) branch_fits stmt_fits arm

branch_at : (site : TypingContext) (b : Branch) → branch_typed site b ≡ all_of (map (fits site) (out-Branch b).body)
branch_at site b = fold_out-Branch Bool Bool Bool Bool (kind_fits site) (arm_fits site) branch_fits stmt_fits b

abbrev Block : TypingContext → List Stmt → Type 0
Block site body = all_of (map (fits site) body) ≡ true

-- what is known of the parts
known : {s : Stmt} {layer : StmtKind-F StmtKind Arm Branch Stmt} (f : Fits s) → stmt_kind s ≡ layer → kind_fits f.site (parts f.site layer) ≡ true
known {s} {layer} f e = sym (fits_at f.site s layer e) ∙ f.is

arms_of : {s : Stmt} {arms : List Arm} {other : List Stmt} (f : Fits s) → stmt_kind s ≡ StmtKind-F.If arms other →
    (all_of (map (arm_typed f.site) arms) && all_of (map (fits f.site) other)) ≡ true
arms_of {arms = arms} {other} f e =
    and_second (is_inhabited (map (arm_typed f.site) arms)) (all_of (map (arm_typed f.site) arms) && all_of (map (fits f.site) other)) (known f e)

first_arm : {s : Stmt} {arm : Arm} {arms : List Arm} {other : List Stmt} (f : Fits s) → stmt_kind s ≡ StmtKind-F.If (arm ∷ arms) other →
    Block f.site (out-Arm arm).body
first_arm {arm = arm} {arms} {other} f e =
    and_second (is_truth (type_of f.site (out-Arm arm).test)) (all_of (map (fits f.site) (out-Arm arm).body))
    (sym (arm_at f.site arm) ∙ and_first (arm_typed f.site arm) (all_of (map (arm_typed f.site) arms))
    (and_first (arm_typed f.site arm && all_of (map (arm_typed f.site) arms)) (all_of (map (fits f.site) other)) (arms_of f e)))

else_of : {s : Stmt} {arms : List Arm} {other : List Stmt} (f : Fits s) → stmt_kind s ≡ StmtKind-F.If arms other → Block f.site other
else_of {arms = arms} {other} f e = and_second (all_of (map (arm_typed f.site) arms)) (all_of (map (fits f.site) other)) (arms_of f e)

made_fits : (site : TypingContext) (place : Place) (arm : Arm) (arms : List Arm) (other : List Stmt) →
    (all_of (map (arm_typed site) (arm ∷ arms)) && all_of (map (fits site) other)) ≡ true →
    fits site (roll-Stmt (record { place = place; what = roll-StmtKind (StmtKind-F.If (arm ∷ arms) other) })) ≡ true
made_fits site place arm arms other e = rw (fold-roll-Stmt, fold-roll-StmtKind) e

further_fits : (s : Located) {arm next : Arm} {arms : List Arm} {other : List Stmt} → Fits s.stmt →
    kind_of s ≡ StmtKind-F.If (arm ∷ next ∷ arms) other →
    Fits (further s next arms other).stmt
further_fits s {arm} {next} {arms} {other} f e = record {
  site = f.site;
  is = made_fits f.site _ next arms other (and_from (all_of (map (arm_typed f.site) (next ∷ arms))) (all_of (map (fits f.site) other))
      (and_second (arm_typed f.site arm) (all_of (map (arm_typed f.site) (next ∷ arms)))
      (and_first (all_of (map (arm_typed f.site) (arm ∷ next ∷ arms))) (all_of (map (fits f.site) other)) (arms_of f e))) (else_of f e));
}

guarded_body : {s : Stmt} {guard : GuardKind} {e : Expr} {body : List Stmt} (f : Fits s) → stmt_kind s ≡ StmtKind-F.When guard e body → Block f.site body
guarded_body {e = e} {body} f is =
    and_second (is_truth (type_of f.site e)) (all_of (map (fits f.site) body))
    (and_second (is_activity f.site.kind) (is_truth (type_of f.site e) && all_of (map (fits f.site) body)) (known f is))

arm_there : (site : TypingContext) (layer : StmtKind-F StmtKind Arm Branch Stmt) → kind_fits site (parts site layer) ≡ true → has_arm layer ≡ true
arm_there site (StmtKind-F.If [] other) e = absurd cc
arm_there site (StmtKind-F.If (arm ∷ arms) other) e = refl
arm_there site (StmtKind-F.Declare k initial) e = refl
arm_there site (StmtKind-F.Assign path value) e = refl
arm_there site (StmtKind-F.Call f inputs outputs) e = refl
arm_there site (StmtKind-F.Await test) e = refl
arm_there site (StmtKind-F.Run target a inputs outputs) e = refl
arm_there site (StmtKind-F.Cobegin branches) e = refl
arm_there site (StmtKind-F.When guard test body) e = refl
arm_there site (StmtKind-F.Repeat body) e = refl
arm_there site (StmtKind-F.Until body test) e = refl
arm_there site (StmtKind-F.While test body) e = refl
arm_there site (StmtKind-F.Return value) e = refl

-- ---- typed trees

abbrev FitsItems : List Item → Type 0
FitsItems [] = ⊤
FitsItems (Begin s ∷ rest) = Fits s.stmt × FitsItems rest
FitsItems (Again s ∷ rest) = Fits s.stmt × FitsItems rest

abbrev mutual
  FitsTree : Control → Type 0
  FitsTree Nil = ⊤
  FitsTree (Wait s) = ⊤
  FitsTree (Test s) = ⊤
  FitsTree (Idle items) = FitsItems items
  FitsTree (Do s) = Fits s.stmt
  FitsTree (Turn s) = Fits s.stmt
  FitsTree (Seq c rest) = FitsTree c × FitsItems rest
  FitsTree (Par s stood branches) = FitsTrees branches
  FitsTree (Guard s phase stood c) = Fits s.stmt × FitsTree c
  FitsTree (Run s callee phase stood c) = FitsTree c

  FitsTrees : Branches → Type 0
  FitsTrees no_branch = ⊤
  FitsTrees (branch weak c rest) = FitsTree c × FitsTrees rest

mutual
  armed : (c : Control) → FitsTree c → Armed c
  armed Nil f = tt
  armed (Wait s) f = tt
  armed (Test s) f = tt
  armed (Idle items) f = tt
  armed (Do s) f = arm_there f.site (kind_of s) (known f refl)
  armed (Turn s) f = tt
  armed (Seq c rest) f = armed c f.0
  armed (Par s stood branches) f = all_armed branches f
  armed (Guard s phase stood c) f = armed c f.1
  armed (Run s callee phase stood c) f = armed c f

  all_armed : (branches : Branches) → FitsTrees branches → AllArmed branches
  all_armed no_branch f = tt
  all_armed (branch weak c rest) f = (armed c f.0, all_armed rest f.1)

-- ---- what begins

items_fit : (site : TypingContext) (position : Position) (k : ℕ) (body : List Stmt) (after : List Item) → Block site body → FitsItems after →
    FitsItems (items_from position k body ++ after)
items_fit site position k [] after e f = f
items_fit site position k (s ∷ rest) after e f = (
  record { site = site; is = and_first (fits site s) (all_of (map (fits site) rest)) e },
  items_fit site position (suc k) rest after (and_second (fits site s) (all_of (map (fits site) rest)) e) f,
)

block_fit : (site : TypingContext) (position : Position) (k : ℕ) (body : List Stmt) → Block site body → FitsItems (items_from position k body)
block_fit site position k [] e = tt
block_fit site position k (s ∷ rest) e = (
  record { site = site; is = and_first (fits site s) (all_of (map (fits site) rest)) e },
  block_fit site position (suc k) rest (and_second (fits site s) (all_of (map (fits site) rest)) e),
)

followed_fit : (c : Control) (rest : List Item) → FitsTree c → FitsItems rest → FitsTree (followed c rest)
followed_fit c [] f g = f
followed_fit c (item ∷ rest) f g = (f, g)

do_fit : (items : List Item) → FitsItems items → FitsTree (do_all items)
do_fit [] f = tt
do_fit (Begin s ∷ rest) f = followed_fit (Do s) rest f.0 f.1
do_fit (Again s ∷ rest) f = followed_fit (Turn s) rest f.0 f.1

seq_fit : (c : Control) (rest : List Item) → FitsTree c → FitsItems rest → FitsTree (seq c rest)
seq_fit Nil rest f g = do_fit rest g
seq_fit (Wait s) rest f g = followed_fit (Wait s) rest f g
seq_fit (Test s) rest f g = followed_fit (Test s) rest f g
seq_fit (Idle items) rest f g = followed_fit (Idle items) rest f g
seq_fit (Do s) rest f g = followed_fit (Do s) rest f g
seq_fit (Turn s) rest f g = followed_fit (Turn s) rest f g
seq_fit (Seq c after) rest f g = followed_fit (Seq c after) rest f g
seq_fit (Par s stood branches) rest f g = followed_fit (Par s stood branches) rest f g
seq_fit (Guard s phase stood c) rest f g = followed_fit (Guard s phase stood c) rest f g
seq_fit (Run s callee phase stood c) rest f g = followed_fit (Run s callee phase stood c) rest f g

block_begins : (site : TypingContext) (s : Located) (k : ℕ) (body : List Stmt) → Block site body → FitsTree (do_all (block_items s k body))
block_begins site s k body e = do_fit (block_items s k body) (block_fit site (s.position ++ k ∷ []) 0 body e)

turn_begins : (site : TypingContext) (s : Located) (body : List Stmt) (next : Item) → Block site body → FitsItems (next ∷ []) →
    FitsTree (do_all (block_items s 0 body ++ next ∷ []))
turn_begins site s body next e f = do_fit (block_items s 0 body ++ next ∷ []) (items_fit site (s.position ++ 0 ∷ []) 0 body (next ∷ []) e f)

branches_begin : (site : TypingContext) (s : Located) (k : ℕ) (branches : List Branch) → all_of (map (branch_typed site) branches) ≡ true →
    FitsTrees (branches_begun s k branches)
branches_begin site s k [] e = tt
branches_begin site s k (b ∷ rest) e = (
  block_begins site s k (out-Branch b).body (sym (branch_at site b) ∙ and_first (branch_typed site b) (all_of (map (branch_typed site) rest)) e),
  branches_begin site s (suc k) rest (and_second (branch_typed site b) (all_of (map (branch_typed site) rest)) e),
)

-- ---- steps

module _ {w : Setting} (typed : Fitted w) where
  mutual
    keeps : {i : ℕ} {c : Control} {d : Bool} {a : Action} {c' : Control} → Moves w i c d a c' → FitsTree c → FitsTree c'
    keeps (acts e) f = tt
    keeps (takes_arm {s = s} {arm} e) f = block_begins f.site s s.passed (out-Arm arm).body (first_arm f e)
    keeps (passes_arm {s = s} e) f = further_fits s f e
    keeps (takes_else {s = s} {other = other} e) f = block_begins f.site s (suc s.passed) other (else_of f e)
    keeps (pauses e) f = tt
    keeps (runs {callee = callee} {unit} e at there) f =
        let body = typed callee unit there in do_fit (body_items unit.body) (block_fit body.site [] 0 unit.body body.each)
    keeps (repeats {s = s} {body} e) f = turn_begins f.site s body (Begin s) (known f e) (f, tt)
    keeps (repeats_until {s = s} {body} {e = test} e) f =
        turn_begins f.site s body (Again s) (and_first (all_of (map (fits f.site) body)) (is_truth (type_of f.site test)) (known f e)) (f, tt)
    keeps (leaves e) f = tt
    keeps (turns e) f = f
    keeps (enters {s = s} {e = test} {body} e) f =
        turn_begins f.site s body (Begin s) (and_second (is_truth (type_of f.site test)) (all_of (map (fits f.site) body)) (known f e)) (f, tt)
    keeps (skips e) f = tt
    keeps (forks {s = s} {branches} e) f =
        branches_begin f.site s 0 branches (and_second (is_inhabited (map (branch_typed f.site) branches)) (all_of (map (branch_typed f.site) branches))
        (and_second (is_activity f.site.kind)
        (is_inhabited (map (branch_typed f.site) branches) && all_of (map (branch_typed f.site) branches)) (known f e)))
    keeps (guards {s = s} {body = body} e) f = (f, block_begins f.site s 0 body (guarded_body f e))
    keeps (goes_on e) f = tt
    keeps (waits e) f = tt
    keeps (lets e) f = f
    keeps (aborts e) f = tt
    keeps (resets {s = s} {body = body} e) f = (f.0, block_begins f.0.site s 0 body (guarded_body f.0 e))
    keeps guard_ends f = tt
    keeps (copies e) f = f
    keeps (run_ends e) f = tt
    keeps (joins still done) f = tt
    keeps (in_seq {rest = rest} {c' = c'} move) f = seq_fit c' rest (keeps move f.0) f.1
    keeps (in_par move) f = keeps_one move f
    keeps (in_guard move) f = (f.0, keeps move f.1)
    keeps (in_run move) f = keeps move f

    keeps_one : {i : ℕ} {branches : Branches} {d : Bool} {a : Action} {branches' : Branches} → OneMoves w i branches d a branches' →
        FitsTrees branches → FitsTrees branches'
    keeps_one (first move free) f = (keeps move f.0, f.1)
    keeps_one (later move free) f = (f.0, keeps_one move f.1)

mutual
  wakes : (c : Control) → FitsTree c → FitsTree (woken c)
  wakes Nil f = tt
  wakes (Wait s) f = tt
  wakes (Test s) f = tt
  wakes (Idle items) f = do_fit items f
  wakes (Do s) f = f
  wakes (Turn s) f = f
  wakes (Seq c rest) f = seq_fit (woken c) rest (wakes c f.0) f.1
  wakes (Par s stood branches) f = all_wake branches f
  wakes (Guard s phase stood c) f = (f.0, wakes c f.1)
  wakes (Run s callee phase stood c) f = wakes c f

  all_wake : (branches : Branches) → FitsTrees branches → FitsTrees (all_woken branches)
  all_wake no_branch f = tt
  all_wake (branch weak c rest) f = (wakes c f.0, all_wake rest f.1)

-- ---- runs

entry_fits : (w : Setting) → Fitted w → FitsItems (entry_items w)
entry_fits w typed = go (unit_at w 0) refl
  where
    go : (unit : Option UnitDef) → unit_at w 0 ≡ unit → FitsItems (unwrap_or (option_map (λ unit. body_items unit.body) unit) [])
    go None e = tt
    go (Some unit) e = let body = typed 0 unit e in block_fit body.site [] 0 unit.body body.each

steps_fit : {w : Setting} {c : Control} {store : Store} {actions : List Action} {c' : Control} {store' : Store} {end : ticks.End} → Fitted w →
    ticks.Steps w c store actions end → end ≡ ticks.Rests c' store' → FitsTree c → FitsTree c'
steps_fit {c' = c'} {store' = store'} typed (ticks.none {c = c} {store = store}) e f = subst FitsTree (tree_same c c' store store' e) f
steps_fit typed (ticks.traps t) e f = absurd cc
steps_fit typed (ticks.step s more) e f = steps_fit typed more e (keeps typed s.moves f)

reached : {w : Setting} {rows : List (List ℤ)} {c : Control} {store : Store} → Fitted w → Reaches w rows c store → FitsTree c
reached {w} typed at_first = entry_fits w typed
reached typed (after_tick {c = c} before tick paused is) = steps_fit typed tick.maximal.steps refl (wakes c (reached typed before))

pub reached_is_armed : ReachedIsArmed
reached_is_armed w rows row actions c store typed r = armed c (steps_fit typed r.steps refl (wakes r.tree (reached typed r.before)))
