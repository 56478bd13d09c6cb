-- The test of a guard and the `await` of another branch, in either order.
use Rattle.std.proofs.Common.{◌≡◌, ◌||◌, true, false, [], ◌∷◌, Option, Some, None, ap, refl}
use Rattle.std.specs.List.{list_any}
use Rattle.std.specs.Prelude.{option_and_then, slice_get}
use Rattle.bl_tree.specs.Effects.{writes}
use Rattle.bl_tree.specs.Static.{whole}
use Rattle.bl_tree.specs.declared.tree.Unit.{Unit as UnitDef}
use Rattle.bl_ctree.specs.declared.instance.Instance.{Instance}
use Rattle.bl_ctree.specs.Instances.{unit_of}
use Rattle.bl_ctree.specs.Store.{homes}
use Rattle.bl_ctree_laws.specs.Commutes.{Swapped, in_branches, left_right}
use Rattle.bl_ctree_laws.specs.Pending.{any_meets, any_writes, leads_over, may_write, meets, soon_in}
use Rattle.bl_ctree_laws.specs.Steps.{first, goes_on, in_par, in_seq, later, resets}
use Rattle.bl_ctree_laws.specs.Trees.{Tree, beside, no_tree}
use Rattle.bl_ctree_laws.specs.Shrinks.{Paces}
use Rattle.bl_graph_nodes.specs.Nodes.{are_instant}
use Rattle.bl_graph_nodes.specs.Plain.{Done, Then, plain_body}
use Rattle.bl_ctree_laws_examples.specs.Trees.Reset.{b, at_await, at_guard, begun_anew, both, loop_b, program, raises_b, tests_guard, to_check, to_wake, wakes}
use Rattle.bl_ctree_laws_examples.specs.Trees.Reset.{woken_up}
use Rattle.bl_tree.specs.declared.scalar.Op.TheVariants.{Add}
use Rattle.bl_ctree_laws_examples.specs.Trees.Made.{number, two, value}
use Rattle.bl_ctree_laws_examples.proofs.OnTrees.Sets.{always_reads, flag_reads, writes_of}

b_writes : writes raises_b ≡ whole b ∷ []
b_writes = writes_of 6 b (two Add (value b) (number 1))

-- an `await` of what is true reads nothing
wakes_free : (tree : Tree) → meets program 0 tree wakes ≡ false
wakes_free tree = ap (λ read. list_any (may_write program 0 tree) (homes program 0 read)) always_reads

alone_free : any_meets program 0 no_tree wakes ≡ false
alone_free = ap (λ read. list_any (any_writes program 0 no_tree) (homes program 0 read)) always_reads

-- the second branch writes nothing that the guard reads, before and after its `await`
guard_free : any_meets program 0 (beside false to_wake no_tree) tests_guard ≡ false
guard_free j =
    list_any (λ at. (list_any (leads_over program 0 at) (b_writes j) || soon_in (leads_over program 0 at) (Then loop_b Done)) || false)
    (homes program 0 (flag_reads 0 j))

guard_free_later : any_meets program 0 (beside false woken_up no_tree) tests_guard ≡ false
guard_free_later j =
    list_any (λ at. (list_any (leads_over program 0 at) (b_writes j) || soon_in (leads_over program 0 at) (Then loop_b Done)) || false)
    (homes program 0 (flag_reads 0 j))

pub swapped :
    Swapped program 0 (both to_check to_wake) true true tests_guard wakes at_guard at_await (both begun_anew to_wake) (both to_check woken_up)
swapped = record {
  both = both begun_anew woken_up;
  second = in_par (later (first (in_seq goes_on) alone_free) (wakes_free begun_anew));
  first = in_par (first (resets refl) guard_free_later);
  apart = in_branches (left_right (resets refl) guard_free (first (in_seq goes_on) alone_free) (wakes_free to_check));
}

-- ---- the program has no activity that ends in the tick in which it begins, since it has none

none_there : (found : Option Instance) (unit : UnitDef) → option_and_then (unit_of program) found ≡ Some unit
    → are_instant (plain_body unit.body) ≡ false
none_there None unit is = absurd cc
none_there (Some instance) unit is = absurd cc

pub paces : Paces program
paces i unit is = none_there (slice_get program.instances i) unit is
