-- What deeds read.
use Rattle.std.proofs.Common.{◌≡◌, ℕ, zero, suc, Bool, true, false, List, [], ◌∷◌, ◌++◌, map, refl, sym, subst, arith}
use Rattle.std.specs.Prelude.{Contains}
use Rattle.std.proofs.lemmas.List.Elements.{Contains-append_left, Contains-append_right}
use Rattle.bl_tree.specs.declared.place.Place.{Place}
use Rattle.bl_tree.specs.declared.static_path.Static.{Static}
use Rattle.bl_tree.specs.declared.tree.Expr.{Expr}
use Rattle.bl_tree.specs.Effects.{argument_mentions, reads, target_mentions}
use Rattle.bl_tree.specs.Reduce.{joined}
use Rattle.bl_tree.specs.Static.{mentions, path_mentions, set_of}
use Rattle.bl_graph_nodes.specs.Nodes.{Arguments, Node, node_reads}
use Rattle.bl_graph_nodes.specs.Plain.{Label}
use Rattle.bl_graph_nodes.specs.Steps.{StepLabel, leaf_of, run_node}
use Rattle.bl_effects.proofs.SetLemmas.{set_members}
use Rattle.bl_ctree.specs.Instances.{Setting}
use Rattle.bl_ctree.specs.Store.{Location, home, homes}
use Rattle.bl_ctree_laws.specs.Pending.{Deed, deed_reads}
use Rattle.bl_ctree_laws.specs.Steps.{Anyway, Moves, OneMoves, acts, takes, passes, pauses, runs, repeats, repeats_until, leaves, turns, enters, skips, forks}
use Rattle.bl_ctree_laws.specs.Steps.{guards, goes_on, waits, lets, aborts, resets, guard_ends, copies, run_ends, joins, in_seq, in_par, in_guard, in_run}
use Rattle.bl_ctree_laws.specs.Steps.{first, later}
use Rattle.bl_ctree_laws.specs.Trees.{Tree, Trees}
use Rattle.bl_ctree_laws_traces.specs.Progress.Reading.{DeedsReadAtNodes, IsRead}

-- ---- members

none_in : {A B : Type 0} (x : A) → Contains [] x → B
none_in x there = let below = there.1 in absurd (omega arith)

-- a home of a list is that of one of its paths
record HomeOf (w : Setting) (i : ℕ) (paths : List Static) (at : Location) : Type 0 where
  path : Static
  in_paths : Contains paths path
  is : at ≡ home w (record { instance = i; path = path })

of_homes : (w : Setting) (i : ℕ) (paths : List Static) (at : Location) → Contains (homes w i paths) at → HomeOf w i paths at
of_homes w i [] at there = none_in at there
of_homes w i (path ∷ rest) at (zero, within, is) = record { path = path; in_paths = (zero, omega arith, refl); is = sym is }
of_homes w i (path ∷ rest) at (suc k, within, is) =
    let more = of_homes w i rest at (k, omega arith, is) in
    let below = more.in_paths.1 in
    record { path = more.path; in_paths = (suc more.in_paths.0, omega arith, more.in_paths.2); is = more.is }

read_in : (w : Setting) (i : ℕ) (paths : List Static) (n : Node) (at : Location) → ((x : Static) → Contains paths x → Contains (node_reads n) x) →
    Contains (homes w i paths) at → IsRead w i n at
read_in w i paths n at more there =
    let one = of_homes w i paths at there in record { path = one.path; reads = more one.path one.in_paths; is = one.is }

asked : (w : Setting) (i : ℕ) (e : Expr) (n : Node) (at : Location) → node_reads n ≡ set_of (mentions e) → Contains (homes w i (mentions e)) at →
    IsRead w i n at
asked w i e n at is there = read_in w i (mentions e) n at
    (λ x h. subst (λ xs. Contains xs x) (sym is) ((set_members (mentions e) x).1 h)) there

-- both nodes of a `run` read its inputs
copied : (w : Setting) (i : ℕ) (stood : Bool) (l : Label) (place : Place) (arguments : Arguments) (at : Location) →
    Contains (homes w i (joined (map mentions arguments.inputs))) at → IsRead w i (run_node stood l place arguments) at
copied w i false l place arguments at there = read_in w i (joined (map mentions arguments.inputs)) _ at
    (λ x h. (set_members (argument_mentions arguments.inputs arguments.outputs) x).1
    (Contains-append_left (joined (map mentions arguments.inputs)) (joined (map path_mentions arguments.outputs)) x h)) there
copied w i true l place arguments at there = read_in w i (joined (map mentions arguments.inputs)) _ at
    (λ x h. (set_members (target_mentions arguments.target ++ argument_mentions arguments.inputs arguments.outputs) x).1
    (Contains-append_right (target_mentions arguments.target) (argument_mentions arguments.inputs arguments.outputs) x
    (Contains-append_left (joined (map mentions arguments.inputs)) (joined (map path_mentions arguments.outputs)) x h))) there

-- ---- deeds

module _ {w : Setting} where
  mutual
    reads_at : {i : ℕ} {c : Tree} {d : Bool} {a : Deed} {n : StepLabel} {c' : Tree} → Moves Anyway w i c d a n c' → (at : Location) →
        Contains (deed_reads w a) at → IsRead w a.instance (leaf_of n) at
    reads_at (acts {i = i} {s = s}) at h = read_in w i (reads s) _ at (λ x there. there) h
    reads_at (takes {i = i} {e = e}) at h = asked w i e _ at refl h
    reads_at (passes {i = i} {e = e}) at h = asked w i e _ at refl h
    reads_at pauses at h = none_in at h
    reads_at (runs {i = i} {l = l} {at = place} {target = target} {inputs = inputs} {outputs = outputs} here there) at h =
        copied w i false l place (record { target = target; inputs = inputs; outputs = outputs }) at h
    reads_at repeats at h = none_in at h
    reads_at repeats_until at h = none_in at h
    reads_at (leaves {i = i} {e = e}) at h = asked w i e _ at refl h
    reads_at (turns {i = i} {e = e}) at h = asked w i e _ at refl h
    reads_at (enters {i = i} {e = e}) at h = asked w i e _ at refl h
    reads_at (skips {i = i} {e = e}) at h = asked w i e _ at refl h
    reads_at forks at h = none_in at h
    reads_at guards at h = none_in at h
    reads_at (goes_on {i = i} {s = s}) at h = asked w i s.test _ at refl h
    reads_at (waits {i = i} {s = s}) at h = asked w i s.test _ at refl h
    reads_at (lets {i = i} {s = s}) at h = asked w i s.test _ at refl h
    reads_at (aborts {i = i} {s = s} is) at h = asked w i s.test _ at refl h
    reads_at (resets {i = i} {s = s} is) at h = asked w i s.test _ at refl h
    reads_at guard_ends at h = none_in at h
    reads_at (copies {i = i} {s = s} {stood = stood}) at h = copied w i stood s.label s.place s.arguments at h
    reads_at run_ends at h = none_in at h
    reads_at (joins still done) at h = none_in at h
    reads_at (in_seq move) at h = reads_at move at h
    reads_at (in_par move) at h = one_reads_at move at h
    reads_at (in_guard move) at h = reads_at move at h
    reads_at (in_run move) at h = reads_at move at h

    one_reads_at : {i : ℕ} {branches : Trees} {d : Bool} {a : Deed} {n : StepLabel} {branches' : Trees} → OneMoves Anyway w i branches d a n branches' →
        (at : Location) → Contains (deed_reads w a) at → IsRead w a.instance (leaf_of n) at
    one_reads_at (first move free) at h = reads_at move at h
    one_reads_at (later move free) at h = one_reads_at move at h

pub deeds_read_at_nodes : DeedsReadAtNodes
deeds_read_at_nodes w i c d a n c' at move h = reads_at move at h
