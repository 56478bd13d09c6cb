-- Steps and waking lead from what may be left of items to what may be left of them.
use Rattle.std.proofs.Common.{◌≡◌, ℕ, suc, Bool, true, false, List, [], ◌∷◌, ◌++◌, refl, subst, ℤ, Option, Some, None}
use Rattle.std.specs.Prelude.{option_map, unwrap_or}
use Rattle.bl_tree.proofs.Basics.{from_false}
use Rattle.bl_tree.specs.declared.tree.Arm.{out-Arm}
use Rattle.bl_tree.specs.declared.tree.Branch.{Branch, out-Branch}
use Rattle.bl_tree.specs.declared.tree.Stmt.{Stmt}
use Rattle.bl_tree.specs.declared.tree.Unit.{Unit as UnitDef}
use Rattle.bl_ctree.specs.Actions.{Action}
use Rattle.bl_ctree.specs.Control.{Control, Branches, Nil, Wait, Test, Idle, Do, Turn, Seq, Par, Guard, Run, Check, Body, do_all, followed, seq, branches_begun}
use Rattle.bl_ctree.specs.Control.{woken, all_woken, is_nil}
use Rattle.bl_ctree.specs.Instances.{Setting, unit_at}
use Rattle.bl_ctree.specs.Laws.{BlocksFit, ItemsBeginResidual, ReachedInsideIsResidual, ReachedIsResidual, SeqIsResidual, StepsKeepResidual}
use Rattle.bl_ctree.specs.Laws.{WakingKeepsResidual, WokenTreeIsResidual}
use Rattle.bl_ctree.specs.Residual.{Residual, ResidualEach, ResidualOf, ResidualTree, SplitsAt, TestsFit, a_begin, an_again, ended, has_begun, here}
use Rattle.bl_ctree.specs.Residual.{no_branch_left, no_item, not_begun, nothing, of_again, of_arm, of_else, of_further, of_guard, of_last, of_one, of_par}
use Rattle.bl_ctree.specs.Residual.{of_repeat, of_run, of_until, of_while, one_branch_left, paused, tested, there, to_begin, to_turn}
use Rattle.bl_ctree.specs.Means.{entry_items}
use Rattle.bl_ctree.specs.Positions.{Item, Again, Begin, Located, Position, block_items, body_items, items_from}
use Rattle.bl_ctree.specs.Reaches.{Reaches, after_tick, at_first}
use Rattle.bl_ctree.specs.Steps.{Moves, OneMoves, acts, takes_arm, passes_arm, takes_else, pauses, runs, repeats, repeats_until, leaves, turns, enters, skips}
use Rattle.bl_ctree.specs.Steps.{forks, guards, goes_on, waits, lets, aborts, resets, guard_ends, copies, run_ends, joins, in_seq, in_par, in_guard, in_run}
use Rattle.bl_ctree.specs.Steps.{first, later, turn_items}
use Rattle.bl_ctree.specs.Store.{Store}
use Rattle.bl_ctree.specs.Ticks.{End, Rests, Steps, none, traps, step}

-- ---- tests at the end of turns

pub blocks_fit : BlocksFit
blocks_fit position k [] = no_item
blocks_fit position k (s ∷ body) = a_begin (blocks_fit position (suc k) body)

-- what ends a turn follows its body
then_fits : (position : Position) (k : ℕ) (body : List Stmt) (then : List Item) → TestsFit then → TestsFit (items_from position k body ++ then)
then_fits position k [] then fit = fit
then_fits position k (s ∷ body) then fit = a_begin (then_fits position (suc k) body then fit)

-- ---- what begins

next : {item other : Item} {rest items : List Item} → SplitsAt item (other ∷ rest) items → SplitsAt other rest items
next here = there here
next (there stands) = there (next stands)

-- items from one on that are all to begin
first_left : {w : Setting} {stood : Bool} {i : ℕ} {items : List Item} {item : Item} (rest : List Item) → SplitsAt item rest items →
    TestsFit (item ∷ rest) → Residual w stood i items (do_all (item ∷ rest))
first_left [] stands (a_begin fit) = of_last stands to_begin
first_left [] stands (an_again e fit) = of_last stands (to_turn e)
first_left (other ∷ rest) stands (a_begin fit) = of_one stands fit to_begin refl
first_left (other ∷ rest) stands (an_again e fit) = of_one stands fit (to_turn e) refl

-- what follows an item is left where it begins
rest_left : {w : Setting} {stood : Bool} {i : ℕ} {item : Item} {items : List Item} (rest : List Item) → SplitsAt item rest items → TestsFit rest →
    Residual w stood i items (do_all rest)
rest_left [] stands fit = nothing
rest_left (other ∷ rest) stands fit = first_left rest (next stands) fit

all_left : {w : Setting} {stood : Bool} {i : ℕ} (items : List Item) → TestsFit items → Residual w stood i items (do_all items)
all_left [] fit = nothing
all_left (item ∷ rest) fit = first_left rest here fit

pub items_begin_left : ItemsBeginResidual
items_begin_left w stood i items fit = all_left items fit

block_left : {w : Setting} {stood : Bool} {i : ℕ} (s : Located) (block : ℕ) (body : List Stmt) →
    Residual w stood i (block_items s block body) (do_all (block_items s block body))
block_left s block body = all_left (block_items s block body) (blocks_fit (s.position ++ block ∷ []) 0 body)

unit_left : {w : Setting} {stood : Bool} {i : ℕ} (body : List Stmt) → Residual w stood i (body_items body) (do_all (body_items body))
unit_left body = all_left (body_items body) (blocks_fit [] 0 body)

-- the body of a loop, and what ends its turn
turn_left : {w : Setting} {stood : Bool} {i : ℕ} (s : Located) (body : List Stmt) (after : Item) → TestsFit (after ∷ []) →
    Residual w stood i (turn_items s body after) (do_all (turn_items s body after))
turn_left s body after fit = all_left (turn_items s body after) (then_fits (s.position ++ 0 ∷ []) 0 body (after ∷ []) fit)

each_left : {w : Setting} {stood : Bool} {i : ℕ} (s : Located) (k : ℕ) (written : List Branch) → ResidualEach w stood i s k written (branches_begun s k written)
each_left s k [] = no_branch_left
each_left s k (b ∷ written) = one_branch_left (block_left s k (out-Branch b).body) (each_left s (suc k) written)

-- a tree that has not ended, and what follows it
busy_left : {w : Setting} {stood : Bool} {i : ℕ} {item : Item} {items : List Item} (c : Control) (rest : List Item) → is_nil c ≡ false →
    SplitsAt item rest items → TestsFit rest → ResidualOf w stood i item c → Residual w stood i items (followed c rest)
busy_left c [] busy stands fit of = of_last stands of
busy_left c (other ∷ rest) busy stands fit of = of_one stands fit of busy

-- what is left of an item, and what follows it
seq_left : {w : Setting} {stood : Bool} {i : ℕ} {item : Item} {items : List Item} (c : Control) (rest : List Item) → SplitsAt item rest items →
    TestsFit rest → ResidualOf w stood i item c → Residual w stood i items (seq c rest)
seq_left Nil rest stands fit of = rest_left rest stands fit
seq_left (Wait s) rest stands fit of = busy_left (Wait s) rest refl stands fit of
seq_left (Test s) rest stands fit of = busy_left (Test s) rest refl stands fit of
seq_left (Idle all) rest stands fit of = busy_left (Idle all) rest refl stands fit of
seq_left (Do s) rest stands fit of = busy_left (Do s) rest refl stands fit of
seq_left (Turn s) rest stands fit of = busy_left (Turn s) rest refl stands fit of
seq_left (Seq c after) rest stands fit of = busy_left (Seq c after) rest refl stands fit of
seq_left (Par s stood branches) rest stands fit of = busy_left (Par s stood branches) rest refl stands fit of
seq_left (Guard s phase stood c) rest stands fit of = busy_left (Guard s phase stood c) rest refl stands fit of
seq_left (Run s callee phase stood c) rest stands fit of = busy_left (Run s callee phase stood c) rest refl stands fit of

pub seq_is_left : SeqIsResidual
seq_is_left w stood i item rest items c stands fit of = seq_left c rest stands fit of

-- ---- steps

-- and is not to be checked
pub unchecked : {A : Type 0} → Body ≡ Check → A
unchecked e = absurd cc

mutual
  keeps : {w : Setting} {stood : Bool} {i : ℕ} {items : List Item} {c : Control} {d : Bool} {a : Action} {c' : Control} →
      Residual w stood i items c → Moves w i c d a c' → Residual w stood i items c'
  keeps nothing move = elim move [ ]
  keeps (of_last stands of) move = of_last stands (keeps_of of move)
  keeps (of_one {next = other} {rest} stands fit of busy) (in_seq {c' = c'} move) = seq_left c' (other ∷ rest) stands fit (keeps_of of move)

  keeps_of : {w : Setting} {stood : Bool} {i : ℕ} {item : Item} {c : Control} {d : Bool} {a : Action} {c' : Control} →
      ResidualOf w stood i item c → Moves w i c d a c' → ResidualOf w stood i item c'
  keeps_of to_begin (acts e) = ended
  keeps_of to_begin (takes_arm {s = s} {arm} e) = of_arm e (block_left s s.passed (out-Arm arm).body)
  keeps_of to_begin (passes_arm e) = of_further e to_begin
  keeps_of to_begin (takes_else {s = s} {other = other} e) = of_else e (block_left s (suc s.passed) other)
  keeps_of to_begin (pauses e) = paused e
  keeps_of to_begin (runs {unit = unit} e at is) = of_run e at is from_false unchecked (unit_left unit.body)
  keeps_of to_begin (repeats {s = s} {body} e) = of_repeat e (turn_left s body (Begin s) (a_begin no_item))
  keeps_of to_begin (repeats_until {s = s} {body} e) = of_until e (turn_left s body (Again s) (an_again e no_item))
  keeps_of to_begin (enters {s = s} {body = body} e) = of_while e (turn_left s body (Begin s) (a_begin no_item))
  keeps_of to_begin (skips e) = ended
  keeps_of to_begin (forks {s = s} {branches} e) = of_par e from_false (each_left s 0 branches)
  keeps_of to_begin (guards {s = s} {body = body} e) = of_guard e from_false unchecked (block_left s 0 body)
  keeps_of (to_turn e) (leaves is) = ended
  keeps_of (to_turn e) (turns is) = of_again e to_begin
  keeps_of ended move = elim move [ ]
  keeps_of (paused e) move = elim move [ ]
  keeps_of (tested e) (goes_on is) = ended
  keeps_of (tested e) (waits is) = paused e
  keeps_of (of_arm e left) move = of_arm e (keeps left move)
  keeps_of (of_further e of) move = of_further e (keeps_of of move)
  keeps_of (of_else e left) move = of_else e (keeps left move)
  keeps_of (of_repeat e left) move = of_repeat e (keeps left move)
  keeps_of (of_until e left) move = of_until e (keeps left move)
  keeps_of (of_while e left) move = of_while e (keeps left move)
  keeps_of (of_again e of) move = of_again e (keeps_of of move)
  keeps_of (of_par e around each) (joins still done) = ended
  keeps_of (of_par e around each) (in_par move) = of_par e around (keeps_each each move)
  keeps_of (of_guard e around check left) (lets is) = of_guard e around unchecked left
  keeps_of (of_guard e around check left) (aborts is) = ended
  keeps_of (of_guard e around check left) (resets {s = s} {body = body} is) = of_guard is around unchecked (block_left s 0 body)
  keeps_of (of_guard e around check left) guard_ends = ended
  keeps_of (of_guard e around check left) (in_guard move) = of_guard e around check (keeps left move)
  keeps_of (of_run e at is around check left) (copies same) = of_run e at is around unchecked left
  keeps_of (of_run e at is around check left) (run_ends same) = ended
  keeps_of (of_run e at is around check left) (in_run move) = of_run e at is around check (keeps left move)

  keeps_each : {w : Setting} {stood : Bool} {i : ℕ} {s : Located} {k : ℕ} {written : List Branch} {branches : Branches} {d : Bool} {a : Action}
      {branches' : Branches} →
      ResidualEach w stood i s k written branches → OneMoves w i branches d a branches' → ResidualEach w stood i s k written branches'
  keeps_each no_branch_left move = elim move [ ]
  keeps_each (one_branch_left left each) (first move free) = one_branch_left (keeps left move) each
  keeps_each (one_branch_left left each) (later move free) = one_branch_left left (keeps_each each move)

pub moves_keep_left : StepsKeepResidual
moves_keep_left w stood i items d a c c' move left = keeps left move

-- ---- waking

mutual
  wakes : {w : Setting} {stood : Bool} {i : ℕ} {items : List Item} {c : Control} → Residual w stood i items c → Residual w true i items (woken c)
  wakes nothing = nothing
  wakes (of_last stands of) = of_last stands (wakes_of of)
  wakes (of_one {next = other} {rest} {c = c} stands fit of busy) = seq_left (woken c) (other ∷ rest) stands fit (wakes_of of)

  wakes_of : {w : Setting} {stood : Bool} {i : ℕ} {item : Item} {c : Control} → ResidualOf w stood i item c → ResidualOf w true i item (woken c)
  wakes_of to_begin = to_begin
  wakes_of (to_turn e) = to_turn e
  wakes_of ended = ended
  wakes_of (paused e) = tested e
  wakes_of (tested e) = tested e
  wakes_of (of_arm e left) = of_arm e (wakes left)
  wakes_of (of_further e of) = of_further e (wakes_of of)
  wakes_of (of_else e left) = of_else e (wakes left)
  wakes_of (of_repeat e left) = of_repeat e (wakes left)
  wakes_of (of_until e left) = of_until e (wakes left)
  wakes_of (of_while e left) = of_while e (wakes left)
  wakes_of (of_again e of) = of_again e (wakes_of of)
  wakes_of (of_par e around each) = of_par e (λ t. refl) (wakes_each each)
  wakes_of (of_guard e around check left) = of_guard e (λ t. refl) (λ t. refl) (wakes left)
  wakes_of (of_run e at is around check left) = of_run e at is (λ t. refl) (λ t. refl) (wakes left)

  wakes_each : {w : Setting} {stood : Bool} {i : ℕ} {s : Located} {k : ℕ} {written : List Branch} {branches : Branches} →
      ResidualEach w stood i s k written branches → ResidualEach w true i s k written (all_woken branches)
  wakes_each no_branch_left = no_branch_left
  wakes_each (one_branch_left left each) = one_branch_left (wakes left) (wakes_each each)

pub waking_keeps_left : WakingKeepsResidual
waking_keeps_left w stood i items c left = wakes left

-- ---- runs

entry_fits : (w : Setting) → TestsFit (entry_items w)
entry_fits w = go (unit_at w 0)
  where
    go : (unit : Option UnitDef) → TestsFit (unwrap_or (option_map (λ unit. body_items unit.body) unit) [])
    go None = no_item
    go (Some unit) = blocks_fit [] 0 unit.body

tree_wakes : {w : Setting} {c : Control} → ResidualTree w c → Residual w true 0 (entry_items w) (woken c)
tree_wakes {w} not_begun = all_left (entry_items w) (entry_fits w)
tree_wakes (has_begun left) = wakes left

pub woken_tree_is_left : WokenTreeIsResidual
woken_tree_is_left w c left = tree_wakes left

tree_same : (c c' : Control) (store store' : Store) → Rests c store ≡ Rests c' store' → c ≡ c'
tree_same c c' store store' e = cc

steps_keep : {w : Setting} {stood : Bool} {items : List Item} {c : Control} {store : Store} {actions : List Action} {c' : Control}
    {store' : Store} {end : End} →
    Steps w c store actions end → end ≡ Rests c' store' → Residual w stood 0 items c → Residual w stood 0 items c'
steps_keep {w} {stood} {items = items} {c' = c'} {store' = store'} (none {c} {store}) e left =
    subst (Residual w stood 0 items) (tree_same c c' store store' e) left
steps_keep (traps t) e left = absurd cc
steps_keep (step s rest) e left = steps_keep rest e (keeps left s.moves)

reached : {w : Setting} {rows : List (List ℤ)} {c : Control} {store : Store} → Reaches w rows c store → ResidualTree w c
reached at_first = not_begun
reached (after_tick before tick waiting is) = has_begun (steps_keep tick.maximal.steps refl (tree_wakes (reached before)))

pub reached_is_left : ReachedIsResidual
reached_is_left w rows c store r = reached r

pub reached_inside_is_left : ReachedInsideIsResidual
reached_inside_is_left w rows row actions c store r = steps_keep r.steps refl (tree_wakes (reached r.before))
