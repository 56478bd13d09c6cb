-- A step never lets its branch end or write more.
use Rattle.std.proofs.Common.{◌≡◌, ℕ, Bool, true, false, not, ◌&&◌, ◌||◌, cond, map, refl, sym, ap, ◌∙◌, subst}
use Rattle.std.specs.List.{list_any}
use Rattle.std.proofs.lemmas.Bool.{and_from, or_left, or_right}
use Rattle.bl_tree.proofs.Basics.{and_false, and_first, and_second, and_true, first_of_or, from_false, not_both}
use Rattle.bl_tree.specs.declared.static_path.Static.{Static}
use Rattle.bl_tree.specs.declared.tree.Guard.TheVariants.{Abort}
use Rattle.bl_tree.specs.Effects.{target_static}
use Rattle.bl_tree.specs.Static.{static_of}
use Rattle.bl_graph_nodes.specs.Nodes.{are_instant, is_instant, some_instant, some_strong, strong_instant}
use Rattle.bl_graph_nodes.specs.Plain.{Block, Bodies, Plain, Again, Body as BodyOf, Done, Last, Repeat, Then, While, plain_body}
use Rattle.bl_graph_nodes.specs.Steps.{StepLabel}
use Rattle.bl_ctree.specs.Control.{Check, Body}
use Rattle.bl_ctree.specs.Instances.{Setting}
use Rattle.bl_ctree.specs.Pending.{is_reset_kind}
use Rattle.bl_ctree_laws.specs.Pending.{Deed, any_writes_path, anew, deed_reads, guard_may_end, leads_over, may_end, may_join, may_write, may_write_path, meets}
use Rattle.bl_ctree_laws.specs.Pending.{run_writes, soon, soon_in, soon_in_each}
use Rattle.bl_ctree_laws.specs.Shrinks.{EndsShrink, MayIsCould, MeetsShrink, MovingIsUnsettled, Paces, WritesShrink}
use Rattle.bl_ctree_laws.specs.Steps.{Anyway, Moves, OneMoves, Unmet, acts, takes, passes, pauses, runs, repeats, repeats_until, leaves, turns, enters, skips}
use Rattle.bl_ctree_laws.specs.Steps.{forks, guards, goes_on, waits, lets, aborts, resets, guard_ends, copies, run_ends, joins, in_seq, in_par, in_guard}
use Rattle.bl_ctree_laws.specs.Steps.{in_run, first, later, call, turn}
use Rattle.bl_ctree_laws.specs.Trees.{Call, Tree, Trees, Watch, Nil, Wait, Test, Idle, Do, Seq, Par, Guard, Run, are_done, are_settled, before, trees_begun}
use Rattle.bl_ctree_laws.specs.Trees.{beside, do_block, followed, has_strong, is_nil, is_settled, no_tree, seq, some_ended, strong_ended}
use Rattle.bl_ctree_laws.proofs.Tests.{and_le, any_less, not_less, or_le, or_of}

-- ---- what may act could act

mutual
  could : {w : Setting} {i : ℕ} {c : Tree} {d : Bool} {a : Deed} {n : StepLabel} {c' : Tree} → Moves Unmet w i c d a n c' → Moves Anyway w i c d a n c'
  could acts = acts
  could takes = takes
  could passes = passes
  could pauses = pauses
  could (runs at there) = runs at there
  could repeats = repeats
  could repeats_until = repeats_until
  could leaves = leaves
  could turns = turns
  could enters = enters
  could skips = skips
  could forks = forks
  could guards = guards
  could goes_on = goes_on
  could waits = waits
  could lets = lets
  could (aborts is) = aborts is
  could (resets is) = resets is
  could guard_ends = guard_ends
  could copies = copies
  could run_ends = run_ends
  could (joins still done) = joins still done
  could (in_seq move) = in_seq (could move)
  could (in_par move) = in_par (one_could move)
  could (in_guard move) = in_guard (could move)
  could (in_run move) = in_run (could move)

  one_could : {w : Setting} {i : ℕ} {branches : Trees} {d : Bool} {a : Deed} {n : StepLabel} {branches' : Trees} →
      OneMoves Unmet w i branches d a n branches' → OneMoves Anyway w i branches d a n branches'
  one_could (first move free) = first (could move) tt
  one_could (later move free) = later (one_could move) tt

pub may_is_could : MayIsCould
may_is_could w i c d a n c' move = could move

-- ---- what moves is not settled

pub done_unsettled : (settled done : Bool) → done ≡ true → (settled && not done) ≡ false
done_unsettled settled true e = and_false settled
done_unsettled settled false e = absurd cc

module _ {T : Bool → Type 0} {w : Setting} where
  mutual
    pub unsettled : {i : ℕ} {c : Tree} {d : Bool} {a : Deed} {n : StepLabel} {c' : Tree} → Moves T w i c d a n c' → is_settled c ≡ false
    unsettled acts = refl
    unsettled takes = refl
    unsettled passes = refl
    unsettled pauses = refl
    unsettled (runs at there) = refl
    unsettled repeats = refl
    unsettled repeats_until = refl
    unsettled leaves = refl
    unsettled turns = refl
    unsettled enters = refl
    unsettled skips = refl
    unsettled forks = refl
    unsettled guards = refl
    unsettled goes_on = refl
    unsettled waits = refl
    unsettled lets = refl
    unsettled (aborts is) = refl
    unsettled (resets is) = refl
    unsettled guard_ends = refl
    unsettled copies = refl
    unsettled run_ends = refl
    unsettled (joins {branches = branches} still done) = done_unsettled (are_settled branches) (are_done branches) done
    unsettled (in_seq move) = unsettled move
    unsettled (in_par {branches = branches} move) = ap (λ b. b && not (are_done branches)) (one_unsettled move)
    unsettled (in_guard {c = c} move) = ap (λ b. b && not (is_nil c)) (unsettled move)
    unsettled (in_run {c = c} move) = ap (λ b. b && not (is_nil c)) (unsettled move)

    pub one_unsettled : {i : ℕ} {branches : Trees} {d : Bool} {a : Deed} {n : StepLabel} {branches' : Trees} → OneMoves T w i branches d a n branches' →
        are_settled branches ≡ false
    one_unsettled (first {others = others} move free) = ap (λ b. b && are_settled others) (unsettled move)
    one_unsettled (later {c = c} move free) = ap (λ b. is_settled c && b) (one_unsettled move) ∙ and_false (is_settled c)

pub moving_is_unsettled : MovingIsUnsettled
moving_is_unsettled w i c d a n c' move = unsettled move

-- ---- blocks that begin

pub or_nothing : (a b : Bool) → (a || (b && false)) ≡ a
or_nothing true b = refl
or_nothing false true = refl
or_nothing false false = refl

pub do_ends : (body : Block) → may_end (do_block body) ≡ are_instant body
do_ends Done = refl
do_ends (Then s Done) = sym (and_true (is_instant s))
do_ends (Then s (Then t rest)) = refl

pub do_writes : (test : Static → Bool) (body : Block) → may_write_path test (do_block body) ≡ soon_in test body
do_writes test Done = refl
do_writes test (Then s Done) = sym (or_nothing (soon test s) (is_instant s))
do_writes test (Then s (Then t rest)) = refl

pub before_ends : (body after : Block) → are_instant (before body after) ≡ (are_instant body && are_instant after)
before_ends Done after = refl
before_ends (Then s rest) after =
    ap (λ b. is_instant s && b) (before_ends rest after) ∙ sym (and_apart (is_instant s) (are_instant rest) (are_instant after))
  where
    and_apart : (a b c : Bool) → ((a && b) && c) ≡ (a && (b && c))
    and_apart true b c = refl
    and_apart false b c = refl

-- a block and one after it write what the one or the other does
pub before_writes : (test : Static → Bool) (body after : Block) → soon_in test (before body after) ≡ true →
    (soon_in test body || soon_in test after) ≡ true
before_writes test Done after e = e
before_writes test (Then s rest) after e =
    regroup (soon test s) (is_instant s) (soon_in test rest) (soon_in test after) (soon_in test (before rest after)) (before_writes test rest after) e
  where
    regroup : (a b c d more : Bool) → (more ≡ true → (c || d) ≡ true) → (a || (b && more)) ≡ true → ((a || (b && c)) || d) ≡ true
    regroup true b c d more f e = refl
    regroup false true c d more f e = f e
    regroup false false c d more f e = absurd cc

-- the turn of a loop that surely pauses at its end, and that of one that may end
turn_pauses : (body : Block) (s : Plain) → is_instant s ≡ false → are_instant (turn body s) ≡ false
turn_pauses body s e = before_ends body (Then s Done) ∙ ap (λ b. are_instant body && (b && true)) e ∙ and_false (are_instant body)

-- a loop writes what its body does
turn_writes : (test : Static → Bool) (body : Block) (s : Plain) → soon test s ≡ soon_in test body →
    may_write_path test (do_block (turn body s)) ≡ true → soon_in test body ≡ true
turn_writes test body s same e =
    or_of (soon_in test body) (soon_in test (Then s Done)) (soon_in test body) (λ h. h)
    (λ h. sym same ∙ first_of_or (soon test s) (subst (λ b. (soon test s || b) ≡ true) (and_false (is_instant s)) h))
    (before_writes test body (Then s Done) (sym (do_writes test (turn body s)) ∙ e))

followed_ends : (c : Tree) (rest : Block) → may_end (followed c rest) ≡ (may_end c && are_instant rest)
followed_ends c Done = sym (and_true (may_end c))
followed_ends c (Then s rest) = refl

followed_writes : (test : Static → Bool) (c : Tree) (rest : Block) →
    may_write_path test (followed c rest) ≡ (may_write_path test c || (may_end c && soon_in test rest))
followed_writes test c Done = sym (or_nothing (may_write_path test c) (may_end c))
followed_writes test c (Then s rest) = refl

-- a tree and what follows it
pub seq_ends : (c : Tree) (rest : Block) → may_end (seq c rest) ≡ (may_end c && are_instant rest)
seq_ends Nil rest = do_ends rest
seq_ends (Wait p) rest = followed_ends (Wait p) rest
seq_ends (Test p) rest = followed_ends (Test p) rest
seq_ends (Idle p) rest = followed_ends (Idle p) rest
seq_ends (Do p) rest = followed_ends (Do p) rest
seq_ends (Seq c p) rest = followed_ends (Seq c p) rest
seq_ends (Par p stood branches) rest = followed_ends (Par p stood branches) rest
seq_ends (Guard p phase stood c) rest = followed_ends (Guard p phase stood c) rest
seq_ends (Run p callee phase stood c) rest = followed_ends (Run p callee phase stood c) rest

pub seq_writes : (test : Static → Bool) (c : Tree) (rest : Block) →
    may_write_path test (seq c rest) ≡ (may_write_path test c || (may_end c && soon_in test rest))
seq_writes test Nil rest = do_writes test rest
seq_writes test (Wait p) rest = followed_writes test (Wait p) rest
seq_writes test (Test p) rest = followed_writes test (Test p) rest
seq_writes test (Idle p) rest = followed_writes test (Idle p) rest
seq_writes test (Do p) rest = followed_writes test (Do p) rest
seq_writes test (Seq c p) rest = followed_writes test (Seq c p) rest
seq_writes test (Par p stood branches) rest = followed_writes test (Par p stood branches) rest
seq_writes test (Guard p phase stood c) rest = followed_writes test (Guard p phase stood c) rest
seq_writes test (Run p callee phase stood c) rest = followed_writes test (Run p callee phase stood c) rest

-- ---- branches that begin

pub begun_strong : (bodies : Bodies) → has_strong (trees_begun bodies) ≡ some_strong bodies
begun_strong Last = refl
begun_strong (BodyOf weak body rest) = ap (λ b. not weak || b) (begun_strong rest)

begun_join : (strong : Bool) (bodies : Bodies) → may_join strong (trees_begun bodies) ≡ cond strong (strong_instant bodies) (some_instant bodies)
begun_join true Last = refl
begun_join false Last = refl
begun_join true (BodyOf weak body rest) = λ i. (weak || do_ends body i) && begun_join true rest i
begun_join false (BodyOf weak body rest) = λ i. do_ends body i || begun_join false rest i

begun_ends : (bodies : Bodies) →
    may_join (has_strong (trees_begun bodies)) (trees_begun bodies) ≡ cond (some_strong bodies) (strong_instant bodies) (some_instant bodies)
begun_ends bodies = ap (λ b. may_join b (trees_begun bodies)) (begun_strong bodies) ∙ begun_join (some_strong bodies) bodies

begun_writes : (test : Static → Bool) (bodies : Bodies) → any_writes_path test (trees_begun bodies) ≡ soon_in_each test bodies
begun_writes test Last = refl
begun_writes test (BodyOf weak body rest) = λ i. do_writes test body i || begun_writes test rest i

-- ---- branches that are done may end

pub nil_ends : (c : Tree) → is_nil c ≡ true → may_end c ≡ true
nil_ends Nil e = refl
nil_ends c e = absurd cc

pub strong_join : (branches : Trees) → strong_ended branches ≡ true → may_join true branches ≡ true
strong_join no_tree e = refl
strong_join (beside weak c rest) e =
    and_le (weak || is_nil c) (strong_ended rest) (weak || may_end c) (may_join true rest)
    (or_le weak (is_nil c) weak (may_end c) (λ h. h) (nil_ends c)) (strong_join rest) e

pub some_join : (branches : Trees) → some_ended branches ≡ true → may_join false branches ≡ true
some_join no_tree e = absurd cc
some_join (beside weak c rest) e = or_le (is_nil c) (some_ended rest) (may_end c) (may_join false rest) (nil_ends c) (some_join rest) e

pub done_join : (branches : Trees) → are_done branches ≡ true → may_join (has_strong branches) branches ≡ true
done_join branches e = by_kind (has_strong branches) e
  where
    by_kind : (strong : Bool) → cond strong (strong_ended branches) (some_ended branches) ≡ true → may_join strong branches ≡ true
    by_kind true e = strong_join branches e
    by_kind false e = some_join branches e

-- ---- guards

aborts_end : (s : Watch) (inner : Bool) → s.guard ≡ Abort → guard_may_end Check s inner ≡ true
aborts_end s inner is = ap (λ guard. cond (is_reset_kind guard) (inner || are_instant s.body) true) is

resets_end : (s : Watch) (inner : Bool) → are_instant s.body ≡ true → guard_may_end Check s inner ≡ true
resets_end s inner e = by_kind (is_reset_kind s.guard)
  where
    by_kind : (reset : Bool) → cond reset (inner || are_instant s.body) true ≡ true
    by_kind true = or_right inner (are_instant s.body) e
    by_kind false = refl

lets_end : (s : Watch) (inner : Bool) → inner ≡ true → guard_may_end Check s inner ≡ true
lets_end s inner e = by_kind (is_reset_kind s.guard)
  where
    by_kind : (reset : Bool) → cond reset (inner || are_instant s.body) true ≡ true
    by_kind true = or_left inner (are_instant s.body) e
    by_kind false = refl

-- ---- a `run`, and what ends

-- a `run` that has begun and can't end in this tick writes its outputs alone
new_run_writes : (test : Static → Bool) (s : Call) (settled ends : Bool) → ends ≡ false → run_writes test s settled ends ≡ true →
    list_any test (map static_of s.arguments.outputs) ≡ true
new_run_writes test s settled true is e = absurd cc
new_run_writes test s settled false is e =
    first_of_or (list_any test (map static_of s.arguments.outputs)) (and_second (not settled) (list_any test (map static_of s.arguments.outputs) || false) e)

run_less : (test : Static → Bool) (s : Call) (before after : Bool) (may may' : Bool) → before ≡ false → (may' ≡ true → may ≡ true) →
    run_writes test s after may' ≡ true → run_writes test s before may ≡ true
run_less test s false after may may' is less e =
    or_le (list_any test (map static_of s.arguments.outputs)) (may' && list_any test (target_static s.arguments.target))
    (list_any test (map static_of s.arguments.outputs)) (may && list_any test (target_static s.arguments.target))
    (λ h. h) (and_le may' (list_any test (target_static s.arguments.target)) may (list_any test (target_static s.arguments.target)) less (λ h. h))
    (and_second (not after) _ e)
run_less test s true after may may' is less e = absurd cc

-- ---- ends

same_strong : {T : Bool → Type 0} {w : Setting} {i : ℕ} {branches : Trees} {d : Bool} {a : Deed} {n : StepLabel} {branches' : Trees} →
    OneMoves T w i branches d a n branches' → has_strong branches ≡ has_strong branches'
same_strong (first move free) = refl
same_strong (later {weak = weak} move free) = ap (λ b. not weak || b) (same_strong move)

module _ {T : Bool → Type 0} {w : Setting} (paces : Paces w) where
  mutual
    pub ends_less : {i : ℕ} {c : Tree} {d : Bool} {a : Deed} {n : StepLabel} {c' : Tree} → Moves T w i c d a n c' → may_end c' ≡ true →
        may_end c ≡ true
    ends_less acts e = refl
    ends_less (takes {body = body} {other}) e = or_left (are_instant body) (are_instant other) (sym (do_ends body) ∙ e)
    ends_less (passes {body = body} {other}) e = or_right (are_instant body) (are_instant other) (sym (do_ends other) ∙ e)
    ends_less pauses e = absurd cc
    ends_less (runs {callee = callee} {unit} at there) e = not_both _ (do_ends (plain_body unit.body) ∙ paces callee unit there) e
    ends_less (repeats {l = l} {at} {body}) e = not_both _ (do_ends (turn body (Repeat l at body)) ∙ turn_pauses body (Repeat l at body) refl) e
    ends_less (repeats_until {l = l} {at} {body} {e = test}) e =
        and_first (are_instant body) true (sym (before_ends body (Then (Again l at body test) Done)) ∙ sym (do_ends (turn body (Again l at body test))) ∙ e)
    ends_less leaves e = refl
    ends_less turns e = refl
    ends_less enters e = refl
    ends_less skips e = refl
    ends_less (forks {bodies = bodies}) e = sym (begun_ends bodies) ∙ e
    ends_less (guards {body = body}) e = sym (do_ends body) ∙ e
    ends_less goes_on e = refl
    ends_less waits e = refl
    ends_less (lets {s = s} {c = c}) e = lets_end s (may_end c) e
    ends_less (aborts {s = s} {c = c} is) e = aborts_end s (may_end c) is
    ends_less (resets {s = s} {c = c} is) e = resets_end s (may_end c) (sym (do_ends s.body) ∙ e)
    ends_less guard_ends e = refl
    ends_less copies e = refl
    ends_less run_ends e = refl
    ends_less (joins {branches = branches} still done) e = done_join branches done
    ends_less (in_seq {c = c} {rest} {c' = c'} move) e =
        and_le (may_end c') (are_instant rest) (may_end c) (are_instant rest) (ends_less move) (λ h. h) (sym (seq_ends c' rest) ∙ e)
    ends_less (in_par {branches = branches} {branches' = branches'} move) e =
        one_ends_less (has_strong branches) move (ap (λ b. may_join b branches') (same_strong move) ∙ e)
    ends_less (in_guard move) e = ends_less move e
    ends_less (in_run move) e = ends_less move e

    one_ends_less : {i : ℕ} {branches : Trees} {d : Bool} {a : Deed} {n : StepLabel} {branches' : Trees} (strong : Bool) →
        OneMoves T w i branches d a n branches' → may_join strong branches' ≡ true → may_join strong branches ≡ true
    one_ends_less true (first {weak = weak} {c} {others} {c' = c'} move free) e =
        and_le (weak || may_end c') (may_join true others) (weak || may_end c) (may_join true others)
        (or_le weak (may_end c') weak (may_end c) (λ h. h) (ends_less move)) (λ h. h) e
    one_ends_less true (later {weak = weak} {c} {others} {others' = others'} move free) e =
        and_le (weak || may_end c) (may_join true others') (weak || may_end c) (may_join true others) (λ h. h) (one_ends_less true move) e
    one_ends_less false (first {c = c} {others} {c' = c'} move free) e =
        or_le (may_end c') (may_join false others) (may_end c) (may_join false others) (ends_less move) (λ h. h) e
    one_ends_less false (later {c = c} {others} {others' = others'} move free) e =
        or_le (may_end c) (may_join false others') (may_end c) (may_join false others) (λ h. h) (one_ends_less false move) e

  mutual
    pub writes_less : {i : ℕ} {c : Tree} {d : Bool} {a : Deed} {n : StepLabel} {c' : Tree} (test : Static → Bool) → Moves T w i c d a n c' →
        may_write_path test c' ≡ true → may_write_path test c ≡ true
    writes_less test acts e = from_false e
    writes_less test (takes {body = body} {other}) e = or_left (soon_in test body) (soon_in test other) (sym (do_writes test body) ∙ e)
    writes_less test (passes {body = body} {other}) e = or_right (soon_in test body) (soon_in test other) (sym (do_writes test other) ∙ e)
    writes_less test pauses e = from_false e
    writes_less test (runs {l = l} {at} {target} {a} {inputs} {outputs} {callee} {unit} called there) e =
        new_run_writes test (call l at target a inputs outputs)
        (is_settled (Run (call l at target a inputs outputs) callee Body false (do_block (plain_body unit.body))))
        (may_end (do_block (plain_body unit.body))) (do_ends (plain_body unit.body) ∙ paces callee unit there) e
    writes_less test (repeats {l = l} {at} {body}) e = turn_writes test body (Repeat l at body) refl e
    writes_less test (repeats_until {l = l} {at} {body} {e = condition}) e = turn_writes test body (Again l at body condition) refl e
    writes_less test leaves e = from_false e
    writes_less test turns e = e
    writes_less test (enters {l = l} {at} {e = condition} {body}) e = turn_writes test body (While l at condition body) refl e
    writes_less test skips e = from_false e
    writes_less test (forks {bodies = bodies}) e = sym (begun_writes test bodies) ∙ e
    writes_less test (guards {body = body}) e = sym (do_writes test body) ∙ first_of_or (may_write_path test (do_block body)) e
    writes_less test goes_on e = from_false e
    writes_less test waits e = from_false e
    writes_less test (lets {s = s} {c = c}) e = or_left (may_write_path test c) (anew test s Check) (first_of_or (may_write_path test c) e)
    writes_less test (aborts is) e = from_false e
    writes_less test (resets {s = s} {c = c} is) e =
        or_right (may_write_path test c) (anew test s Check) (and_from (is_reset_kind s.guard) (soon_in test s.body)
        (ap is_reset_kind is) (sym (do_writes test s.body) ∙ first_of_or (may_write_path test (do_block s.body)) e))
    writes_less test guard_ends e = from_false e
    writes_less test (copies {s = s} {callee} {stood} {c}) e =
        run_less test s false (is_settled (Run s callee Body stood c)) true (may_end c) refl (λ h. refl) e
    writes_less test run_ends e = from_false e
    writes_less test (joins still done) e = from_false e
    writes_less test (in_seq {c = c} {rest} {c' = c'} move) e =
        or_le (may_write_path test c') (may_end c' && soon_in test rest) (may_write_path test c) (may_end c && soon_in test rest) (writes_less test move)
        (and_le (may_end c') (soon_in test rest) (may_end c) (soon_in test rest) (ends_less move) (λ h. h)) (sym (seq_writes test c' rest) ∙ e)
    writes_less test (in_par move) e = one_writes_less test move e
    writes_less test (in_guard {c = c} {c' = c'} move) e =
        or_left (may_write_path test c) false (writes_less test move (first_of_or (may_write_path test c') e))
    writes_less test (in_run {s = s} {callee} {stood} {c} {c' = c'} move) e =
        run_less test s (is_settled (Run s callee Body stood c)) (is_settled (Run s callee Body stood c')) (may_end c) (may_end c')
        (ap (λ b. b && not (is_nil c)) (unsettled move)) (ends_less move) e

    pub one_writes_less : {i : ℕ} {branches : Trees} {d : Bool} {a : Deed} {n : StepLabel} {branches' : Trees} (test : Static → Bool) →
        OneMoves T w i branches d a n branches' → any_writes_path test branches' ≡ true → any_writes_path test branches ≡ true
    one_writes_less test (first {c = c} {others} {c' = c'} move free) e =
        or_le (may_write_path test c') (any_writes_path test others) (may_write_path test c) (any_writes_path test others) (writes_less test move) (λ h. h) e
    one_writes_less test (later {c = c} {others} {others' = others'} move free) e =
        or_le (may_write_path test c) (any_writes_path test others') (may_write_path test c) (any_writes_path test others)
        (λ h. h) (one_writes_less test move) e

pub ends_shrink : EndsShrink
ends_shrink w i c d a n c' paces move e = ends_less paces move e

pub writes_shrink : WritesShrink
writes_shrink w i c d a n c' at paces move e = writes_less paces (leads_over w i at) move e

pub meets_shrink : MeetsShrink
meets_shrink w i c d a n c' other paces move free =
    not_less (meets w i c' other) (meets w i c other)
    (any_less (may_write w i c') (may_write w i c) (λ at. writes_less paces (leads_over w i at) move) (deed_reads w other)) free
