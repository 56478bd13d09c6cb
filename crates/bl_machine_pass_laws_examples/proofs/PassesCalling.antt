-- The passes of the activity that runs two others, turn by turn.
use Rattle.std.proofs.Common.{◌≡◌, ℕ, true, List, [], ◌∷◌, ◌++◌, refl, subst, sym}
use Rattle.bl_tree.specs.declared.scalar.Op.TheVariants.{Add}
use Rattle.bl_graph_nodes.specs.Plain.{Block, block_at, plain_body}
use Rattle.bl_ctree_laws.specs.Trees.{Idle, Nil, Tree, do_block, woken}
use Rattle.bl_ctree_laws_examples.specs.Trees.Calls.{first_called, second_called}
use Rattle.bl_ctree_laws_examples.specs.Trees.Made.{always, at, number, two, value}
use Rattle.bl_machine_laws.specs.Numbers.Turns.{AnsweredDeed, Passes, acts, first, forks, goes_on, in_par, in_seq, joins, later, pauses, point, repeats}
use Rattle.bl_machine_laws.specs.Numbers.Turns.{returns, runs}
use Rattle.bl_machine_pass_laws_examples.specs.Calling.{adds_x, body, first_body, first_paused, first_tick, later_tick as deeds_later, orders, paused, program}
use Rattle.bl_machine_pass_laws_examples.specs.Calling.{raises_o, raises_x, second_body, second_paused, sets_x}
use Rattle.bl_machine_pass_laws_examples.specs.Worked.{act, asked, ranked, still}
use Rattle.bl_machine_pass_laws_examples.proofs.Turning.{ends, then}
use Rattle.bl_ctree_laws_examples.proofs.OnTrees.Plainly.{pause_is, set_is}

first_plain : plain_body first_called.body ≡ first_body
first_plain i = block_at (set_is 1 1 (value 0) i ∷ pause_is 2 i ∷ set_is 3 1 (two Add (value 1) (number 10)) i ∷ []) []

second_plain : plain_body second_called.body ≡ second_body
second_plain i = block_at (set_is 4 1 (two Add (value 1) (value 0)) i ∷ pause_is 5 i ∷ set_is 6 1 (two Add (value 1) (number 100)) i ∷ []) []

-- a pass of the instance with this number
abbrev Pass : ℕ → Tree → List AnsweredDeed → Tree → Type 0
Pass i c done after = Passes program (ranked orders) i 0 c done after

-- ---- the called activities

first_begins : Pass 1 (do_block first_body) (act 1 sets_x ++ still 1 2) first_paused
first_begins = then (in_seq (point acts)) refl (then (in_seq (point pauses)) refl (ends refl))

first_ends : Pass 1 (woken first_paused) (asked 1 2 always true ++ act 1 raises_x) Nil
first_ends = then (in_seq (point goes_on)) refl (then (point acts) refl (ends refl))

second_begins : Pass 2 (do_block second_body) (act 2 adds_x ++ still 2 5) second_paused
second_begins = then (in_seq (point acts)) refl (then (in_seq (point pauses)) refl (ends refl))

second_ends : Pass 2 (woken second_paused) (asked 2 5 always true ++ act 2 raises_o) Nil
second_ends = then (in_seq (point goes_on)) refl (then (point acts) refl (ends refl))

-- each begins at the plain statements of its unit
first_entered : Pass 1 (do_block (plain_body first_called.body)) (act 1 sets_x ++ still 1 2) first_paused
first_entered = subst (λ (block : Block). Pass 1 (do_block block) (act 1 sets_x ++ still 1 2) first_paused) (sym first_plain) first_begins

second_entered : Pass 2 (do_block (plain_body second_called.body)) (act 2 adds_x ++ still 2 5) second_paused
second_entered = subst (λ (block : Block). Pass 2 (do_block block) (act 2 adds_x ++ still 2 5) second_paused) (sym second_plain) second_begins

-- ---- the caller

pub calling_begins : Pass 0 (woken (Idle body)) first_tick paused
calling_begins =
    then (in_seq (point acts)) refl
    (then (point repeats) refl
    (then (in_seq (point forks)) refl
    (then (in_seq (in_par (first (runs {unit = first_called} refl refl first_entered refl)))) refl
    (then (in_seq (in_par (later (first (runs {unit = second_called} refl refl second_entered refl))))) refl (ends refl)))))

pub calling_goes_on : Pass 0 (woken paused) deeds_later paused
calling_goes_on =
    then (in_seq (in_par (first (returns first_ends)))) refl
    (then (in_seq (in_par (later (first (returns second_ends))))) refl
    (then (in_seq (point (joins refl refl))) refl
    (then (point repeats) refl
    (then (in_seq (point forks)) refl
    (then (in_seq (in_par (first (runs {unit = first_called} refl refl first_entered refl)))) refl
    (then (in_seq (in_par (later (first (runs {unit = second_called} refl refl second_entered refl))))) refl (ends refl)))))))
