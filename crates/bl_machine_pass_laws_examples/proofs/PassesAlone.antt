-- The passes of the worked examples, turn by turn.
use Rattle.std.proofs.Common.{true, false, List, [], ◌∷◌, refl}
use Rattle.bl_graph_nodes.specs.Nodes.{Node}
use Rattle.bl_ctree_laws.specs.Trees.{Idle, Tree, woken}
use Rattle.bl_ctree_laws_examples.specs.Trees.TwoWay.{plain_statements}
use Rattle.bl_machine_laws.specs.Numbers.Turns.{AnsweredDeed, Passes, aborts as abort_acts, acts, first, forks, goes_on, guards, in_guard, in_par, in_seq}
use Rattle.bl_machine_laws.specs.Numbers.Turns.{joins, later, lets, pauses, point, repeats, resets, waits}
use Rattle.bl_machine_pass_laws_examples.specs.Aborting as aborting
use Rattle.bl_machine_pass_laws_examples.specs.Blinking as blinking
use Rattle.bl_machine_pass_laws_examples.specs.Fields as fields
use Rattle.bl_machine_pass_laws_examples.specs.Resetting as resetting
use Rattle.bl_machine_pass_laws_examples.specs.TwoBranches as two_branches
use Rattle.bl_machine_pass_laws_examples.specs.Weakly as weakly
use Rattle.bl_machine_pass_laws_examples.specs.Worked.{alone, ranked}
use Rattle.bl_machine_pass_laws_examples.proofs.Turning.{ends, then}

-- one pass of a program with one instance
abbrev Pass : List Node → Tree → List AnsweredDeed → Tree → Type 0
Pass order c done after = Passes alone (ranked (order ∷ [])) 0 0 (woken c) done after

-- ---- a loop that pauses twice a turn

pub blinking_begins : Pass blinking.order (Idle blinking.body) blinking.first_half blinking.lit
blinking_begins = then (point repeats) refl (then (in_seq (point acts)) refl (then (in_seq (point pauses)) refl (ends refl)))

pub blinking_goes_on : Pass blinking.order blinking.lit blinking.second_half blinking.dark
blinking_goes_on = then (in_seq (point goes_on)) refl (then (in_seq (point acts)) refl (then (in_seq (point pauses)) refl (ends refl)))

pub blinking_again : Pass blinking.order blinking.dark blinking.again blinking.lit
blinking_again =
    then (in_seq (point goes_on)) refl
    (then (point repeats) refl
    (then (in_seq (point acts)) refl
    (then (in_seq (point pauses)) refl (ends refl))))

-- ---- two branches that need each other

pub two_branches_begin : Pass two_branches.order (Idle plain_statements) two_branches.first_tick two_branches.after_first_tick
two_branches_begin =
    then (in_seq (point acts)) refl
    (then (in_seq (point acts)) refl
    (then (point forks) refl
    (then (in_par (first (point repeats))) refl
    (then (in_par (later (first (point repeats)))) refl
    (then (in_par (first (in_seq (point acts)))) refl
    (then (in_par (later (first (in_seq (point acts))))) refl
    (then (in_par (first (in_seq (point acts)))) refl
    (then (in_par (first (in_seq (point pauses)))) refl
    (then (in_par (later (first (in_seq (point pauses))))) refl (ends refl))))))))))

pub two_branches_go_on : Pass two_branches.order two_branches.after_first_tick two_branches.later_tick two_branches.later
two_branches_go_on =
    then (in_par (first (in_seq (point goes_on)))) refl
    (then (in_par (first (point repeats))) refl
    (then (in_par (later (first (in_seq (point goes_on))))) refl
    (then (in_par (later (first (point repeats)))) refl
    (then (in_par (first (in_seq (point acts)))) refl
    (then (in_par (later (first (in_seq (point acts))))) refl
    (then (in_par (first (in_seq (point acts)))) refl
    (then (in_par (first (in_seq (point pauses)))) refl
    (then (in_par (later (first (in_seq (point pauses))))) refl (ends refl)))))))))

pub fields_begin : Pass fields.order (Idle fields.body) fields.first_tick (fields.paused false)
fields_begin =
    then (in_seq (point acts)) refl
    (then (point forks) refl
    (then (in_par (first (point repeats))) refl
    (then (in_par (later (first (point repeats)))) refl
    (then (in_par (first (in_seq (point acts)))) refl
    (then (in_par (later (first (in_seq (point acts))))) refl
    (then (in_par (first (in_seq (point acts)))) refl
    (then (in_par (first (in_seq (point pauses)))) refl
    (then (in_par (later (first (in_seq (point pauses))))) refl (ends refl)))))))))

pub fields_go_on : Pass fields.order (fields.paused false) fields.later_tick (fields.paused true)
fields_go_on =
    then (in_par (first (in_seq (point goes_on)))) refl
    (then (in_par (first (point repeats))) refl
    (then (in_par (later (first (in_seq (point goes_on))))) refl
    (then (in_par (later (first (point repeats)))) refl
    (then (in_par (first (in_seq (point acts)))) refl
    (then (in_par (later (first (in_seq (point acts))))) refl
    (then (in_par (first (in_seq (point acts)))) refl
    (then (in_par (first (in_seq (point pauses)))) refl
    (then (in_par (later (first (in_seq (point pauses))))) refl (ends refl)))))))))

-- ---- a body that is given up

pub aborting_begins : Pass aborting.order (Idle aborting.body) aborting.first_tick aborting.after_first_tick
aborting_begins =
    then (in_seq (point guards)) refl
    (then (in_seq (in_guard (in_seq (point acts)))) refl
    (then (in_seq (in_guard (point repeats))) refl
    (then (in_seq (in_guard (in_seq (point pauses)))) refl (ends refl))))

pub aborting_ends : Pass aborting.order aborting.after_first_tick aborting.aborts aborting.over
aborting_ends =
    then (in_seq (point (abort_acts refl))) refl
    (then (in_seq (point acts)) refl
    (then (point pauses) refl (ends refl)))

-- ---- a reset beside a loop

pub resetting_begins : Pass resetting.order (Idle resetting.body) resetting.first_tick (resetting.paused false)
resetting_begins =
    then (point forks) refl
    (then (in_par (first (point guards))) refl
    (then (in_par (first (in_guard (in_seq (point acts))))) refl
    (then (in_par (first (in_guard (point repeats)))) refl
    (then (in_par (first (in_guard (in_seq (point pauses))))) refl
    (then (in_par (later (first (in_seq (point acts))))) refl
    (then (in_par (later (first (point repeats)))) refl
    (then (in_par (later (first (in_seq (point pauses))))) refl (ends refl))))))))

-- whether the branches have begun in the last tick or before
pub resetting_goes_on : Pass resetting.order (resetting.paused true) resetting.later_tick (resetting.paused true)
resetting_goes_on =
    then (in_par (first (point lets))) refl
    (then (in_par (first (in_guard (in_seq (point goes_on))))) refl
    (then (in_par (first (in_guard (in_seq (point acts))))) refl
    (then (in_par (first (in_guard (point repeats)))) refl
    (then (in_par (first (in_guard (in_seq (point pauses))))) refl
    (then (in_par (later (first (in_seq (point goes_on))))) refl
    (then (in_par (later (first (in_seq (point acts))))) refl
    (then (in_par (later (first (point repeats)))) refl
    (then (in_par (later (first (in_seq (point pauses))))) refl (ends refl)))))))))

pub resetting_resets : Pass resetting.order (resetting.paused true) resetting.resets (resetting.paused true)
resetting_resets =
    then (in_par (first (point (resets refl)))) refl
    (then (in_par (first (in_guard (in_seq (point acts))))) refl
    (then (in_par (first (in_guard (point repeats)))) refl
    (then (in_par (first (in_guard (in_seq (point pauses))))) refl
    (then (in_par (later (first (in_seq (point goes_on))))) refl
    (then (in_par (later (first (in_seq (point acts))))) refl
    (then (in_par (later (first (point repeats)))) refl
    (then (in_par (later (first (in_seq (point pauses))))) refl (ends refl))))))))

-- ---- a weak branch

pub weakly_begins : Pass weakly.order (Idle weakly.body) weakly.first_tick (weakly.paused false)
weakly_begins =
    then (in_seq (point forks)) refl
    (then (in_seq (in_par (first (point repeats)))) refl
    (then (in_seq (in_par (first (in_seq (point acts))))) refl
    (then (in_seq (in_par (first (in_seq (point pauses))))) refl
    (then (in_seq (in_par (later (first (point pauses))))) refl (ends refl)))))

pub weakly_goes_on : Pass weakly.order (weakly.paused false) weakly.later_tick (weakly.paused true)
weakly_goes_on =
    then (in_seq (in_par (first (in_seq (point goes_on))))) refl
    (then (in_seq (in_par (first (point repeats)))) refl
    (then (in_seq (in_par (first (in_seq (point acts))))) refl
    (then (in_seq (in_par (first (in_seq (point pauses))))) refl
    (then (in_seq (in_par (later (first (point waits))))) refl (ends refl)))))

pub weakly_ends : Pass weakly.order (weakly.paused true) weakly.ends weakly.over
weakly_ends =
    then (in_seq (in_par (first (in_seq (point goes_on))))) refl
    (then (in_seq (in_par (first (point repeats)))) refl
    (then (in_seq (in_par (first (in_seq (point acts))))) refl
    (then (in_seq (in_par (first (in_seq (point pauses))))) refl
    (then (in_seq (in_par (later (first (point goes_on))))) refl
    (then (in_seq (point (joins refl refl))) refl
    (then (in_seq (point acts)) refl
    (then (point pauses) refl (ends refl))))))))
