-- The tick of the two branches that need each other: which step may be taken when.
use Rattle.std.proofs.Common.{◌≡◌, ◌||◌, Bool, true, false, refl, sym, ap, ◌∙◌}
use Rattle.std.specs.List.{list_any}
use Rattle.bl_tree.proofs.Basics.{from_true_false}
use Rattle.bl_graph_nodes.specs.Steps.{StepLabel}
use Rattle.bl_ctree.specs.Store.{homes, whole_of}
use Rattle.bl_ctree_laws.specs.Pending.{Deed, any_meets, any_writes, leads_over, may_write, meets, soon_in}
use Rattle.bl_ctree_laws.specs.Steps.{Moves, OneMoves, Unmet, acts, first, in_par, in_seq, joins, later, pauses}
use Rattle.bl_ctree_laws.specs.Trees.{Tree, Trees, beside, no_tree}
use Rattle.bl_ctree_laws_examples.specs.Trees.TwoWay.{label_inside, left_position, right_position, sets_o, sets_x, sets_y, x}
use Rattle.bl_ctree_laws_examples.specs.Trees.TwoWayTrees.{acting, before_o, before_x, before_y, both, left_done, left_pause, left_paused, o_is_set, pausing}
use Rattle.bl_ctree_laws_examples.specs.Trees.TwoWayTrees.{program, reaches_pause, right_done, right_pause, right_paused, x_is_set, y_is_set}
use Rattle.bl_ctree_laws_examples.proofs.OnTrees.Sets.{o_reads, o_writes, x_reads, x_writes, y_reads, y_writes}

-- ---- who waits

pub y_waits : meets program 0 before_x y_is_set ≡ true
y_waits j = list_any (λ at. list_any (leads_over program 0 at) (x_writes j)
    || (list_any (leads_over program 0 at) (o_writes j) || soon_in (leads_over program 0 at) left_pause)) (homes program 0 (y_reads j))

pub y_goes_on : meets program 0 before_o y_is_set ≡ false
y_goes_on j =
    list_any (λ at. list_any (leads_over program 0 at) (o_writes j) || soon_in (leads_over program 0 at) left_pause) (homes program 0 (y_reads j))

pub o_waits : meets program 0 before_y o_is_set ≡ true
o_waits j =
    list_any (λ at. list_any (leads_over program 0 at) (y_writes j) || soon_in (leads_over program 0 at) right_pause) (homes program 0 (o_reads j))

x_free : any_meets program 0 (beside false before_y no_tree) x_is_set ≡ false
x_free j =
    list_any (λ at. (list_any (leads_over program 0 at) (y_writes j) || soon_in (leads_over program 0 at) right_pause) || false)
    (homes program 0 (x_reads j))

o_free : any_meets program 0 (beside false right_done no_tree) o_is_set ≡ false
o_free j = list_any (λ at. soon_in (leads_over program 0 at) right_pause || false) (homes program 0 (o_reads j))

y_alone_free : any_meets program 0 no_tree y_is_set ≡ false
y_alone_free = ap (λ read. list_any (any_writes program 0 no_tree) (homes program 0 read)) y_reads

-- ---- the steps in their order

pub x_first : Moves Unmet program 0 (both before_x before_y) true x_is_set (acting (label_inside left_position 0) sets_x) (both before_o before_y)
x_first = in_par (first (in_seq acts) x_free)

pub y_second : Moves Unmet program 0 (both before_o before_y) true y_is_set (acting (label_inside right_position 0) sets_y) (both before_o right_done)
y_second = in_par (later (first (in_seq acts) y_alone_free) y_goes_on)

pub o_third : Moves Unmet program 0 (both before_o right_done) true o_is_set (acting (label_inside left_position 1) sets_o) (both left_done right_done)
o_third = in_par (first (in_seq acts) o_free)

pub left_pauses : Moves Unmet program 0 (both left_done right_done) true (reaches_pause 3) (pausing (label_inside left_position 2) 3)
    (both left_paused right_done)
left_pauses = in_par (first (in_seq pauses) refl)

pub right_pauses :
    Moves Unmet program 0 (both left_paused right_done) true (reaches_pause 5) (pausing (label_inside right_position 1) 5) (both left_paused right_paused)
right_pauses = in_par (later (first (in_seq pauses) refl) refl)

-- ---- and no other one is first

sets_x_alone : {d : Bool} {a : Deed} {n : StepLabel} {c : Tree} → Moves Unmet program 0 before_x d a n c → a ≡ x_is_set
sets_x_alone (in_seq acts) = refl

sets_y_alone : {d : Bool} {a : Deed} {n : StepLabel} {c : Tree} → Moves Unmet program 0 before_y d a n c → a ≡ y_is_set
sets_y_alone (in_seq acts) = refl

one_alone : {d : Bool} {a : Deed} {n : StepLabel} {c : Trees}
    → OneMoves Unmet program 0 (beside false before_x (beside false before_y no_tree)) d a n c → a ≡ x_is_set
one_alone (first move free) = sets_x_alone move
one_alone (later (first move free) waits) =
    from_true_false (sym y_waits ∙ ap (meets program 0 before_x) (sym (sets_y_alone move)) ∙ waits)
one_alone (later (later move free) waits) = elim move [ ]

pub x_alone : (d : Bool) (a : Deed) (n : StepLabel) (c : Tree) → Moves Unmet program 0 (both before_x before_y) d a n c → a ≡ x_is_set
x_alone d a n c (in_par move) = one_alone move
x_alone d a n c (joins still done) = from_true_false (sym still)

-- ---- what may still be written

pub x_may_be_written : may_write program 0 before_x (whole_of 0 x) ≡ true
x_may_be_written j = list_any (leads_over program 0 (whole_of 0 x)) (x_writes j)
    || (list_any (leads_over program 0 (whole_of 0 x)) (o_writes j) || soon_in (leads_over program 0 (whole_of 0 x)) left_pause)

pub x_stays : may_write program 0 before_o (whole_of 0 x) ≡ false
x_stays j = list_any (leads_over program 0 (whole_of 0 x)) (o_writes j) || soon_in (leads_over program 0 (whole_of 0 x)) left_pause
