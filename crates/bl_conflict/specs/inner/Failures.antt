-- Failures as values: those of each rule as a list, and the first of a list.
use Rattle.std.specs.Prelude.{◌&&◌, List, [], ◌∷◌, ◌++◌, map, slice_get, find, Option, Some, None, option_map, is_none, if◌then◌else◌}
use Rattle.bl_tree.specs.declared.place.Place.{Place}
use Rattle.bl_tree.specs.declared.rule.Failure.{Failure}
use Rattle.bl_tree.specs.declared.rule.Further.TheVariants.{Nothing, One, Two}
use Rattle.bl_tree.specs.declared.rule.Rule.TheVariants as rule
use Rattle.bl_tree.specs.declared.tree.Arm.{Arm, fold-Arm}
use Rattle.bl_tree.specs.declared.tree.Branch.{Branch, fold-Branch}
use Rattle.bl_tree.specs.declared.tree.Path.{Path, out-Path}
use Rattle.bl_tree.specs.declared.tree.Unit.{Unit as UnitDef}
use Rattle.bl_tree.specs.declared.tree.Var.{Var}
use Rattle.bl_tree.specs.Reduce.{joined}
use Rattle.bl_tree.specs.Types.{scalar_in}
use Rattle.bl_tree.specs.Typing.{is_activity}
use Rattle.bl_effects.specs.declared.marked.Marked.{Marked}
use Rattle.bl_tree.specs.declared.static_path.Static.{Static}
use Rattle.bl_tree.specs.Instant.{is_instant_block}
use Rattle.bl_effects.specs.Rules.{Aliased, BranchLoops, Loops, Parallel, Split, aliases_in, arm_aliases, arm_loops, arm_parallel, branch_aliases, branch_loops}
use Rattle.bl_effects.specs.Rules.{branch_parallel, instant_loops, kind_aliases, kind_loops, kind_parallel, splits_of, stmt_aliases, stmt_loops, stmt_parallel}
use Rattle.bl_tree.specs.Static.{overlaps, static_of}
use Rattle.bl_tree.specs.Rules.{first_of, lesser}

-- ---- the first of several

-- the least of the best failure so far and those of a list
abbrev pub least_by : {A : Type 0} → (A → Failure) → Option Failure → List A → Option Failure
least_by failure best xs = first_of best (map failure xs)

-- ---- the failures of the rules

-- the failure of an activity that may never pause, at its name
abbrev pub of_pause : Place → Failure
of_pause at = record { rule = rule.Pause; at = at; further = Nothing }

-- the failures of a unit by the rule Pause
abbrev pub pause_of : UnitDef → List Failure
pause_of unit = if is_activity unit.kind && is_instant_block unit.body then of_pause unit.place ∷ [] else []

-- the failures of all units by the rule Pause
abbrev pub pause_failures : List UnitDef → List Failure
pause_failures units = joined (map pause_of units)

-- the failure of a loop whose body may end at once
abbrev pub of_loop : Place → Failure
of_loop at = record { rule = rule.Instant; at = at; further = Nothing }

-- the places of a unit's loops that fail the rule Instant: none in a function
abbrev pub loops_of : UnitDef → List Place
loops_of unit = if is_activity unit.kind then instant_loops unit else []

-- the places of all loops that fail the rule Instant
abbrev pub instant_failures : List UnitDef → List Place
instant_failures units = joined (map loops_of units)

-- the failure of an output or target, with what it overlaps
abbrev pub of_alias : Aliased → Failure
of_alias aliased = record { rule = rule.Alias; at = aliased.at; further = One aliased.also }

-- the first of the best so far and the failure at the place, where there is one
abbrev pub added : Option Failure → Place → Option Place → Option Failure
added best at (Some also) = lesser best (of_alias (record { at = at; also = also }))
added best at None = best

-- the failures of a unit by the rule Alias
abbrev pub aliases_of_unit : UnitDef → List Aliased
aliases_of_unit unit = joined (map aliases_in unit.body)

-- the failures of all units by the rule Alias
abbrev pub alias_failures : List UnitDef → List Aliased
alias_failures units = joined (map aliases_of_unit units)

-- the failure of two writes of branches, with the declaration of their root
abbrev pub of_clash : Place → Marked → Marked → Failure
of_clash declared second first = record { rule = rule.Conflict; at = first.place; further = Two second.place declared }

-- the failure of two writes, where they overlap
abbrev pub clash_of : Place → Marked → Marked → List Failure
clash_of declared second first = if overlaps first.path second.path then of_clash declared second first ∷ [] else []

-- a write and the earlier ones
abbrev pub clashes_at : Place → List Marked → Marked → List Failure
clashes_at declared earlier second = joined (map (clash_of declared second) earlier)

-- the failures of a write with earlier ones, at the declaration of its root if there is one
abbrev pub clashes_under : Option Var → List Marked → Marked → List Failure
clashes_under (Some var) earlier second = clashes_at var.place earlier second
clashes_under None earlier second = []

-- the failures of a write with earlier ones in a unit with these variables
abbrev pub clashes_with : List Var → List Marked → Marked → List Failure
clashes_with vars earlier second = clashes_under (slice_get vars second.path.root) earlier second

-- the conflicts of a branch with the branches before it
abbrev pub clashes : List Var → Split → List Failure
clashes vars split = joined (map (clashes_with vars split.earlier) split.writes)

-- the failures of all branches of a unit
abbrev pub all_clashes : List Var → List Split → List Failure
all_clashes vars splits = joined (map (clashes vars) splits)

-- the failures of a unit by the rule Conflict
abbrev pub clashes_of_unit : UnitDef → List Failure
clashes_of_unit unit = all_clashes unit.vars (splits_of unit)

-- the failures of all units by the rule Conflict
abbrev pub conflict_failures : List UnitDef → List Failure
conflict_failures units = joined (map clashes_of_unit units)

-- all failures of Pause, Conflict, Alias and Instant
abbrev pub failures : List UnitDef → List Failure
failures units =
    pause_failures units ++ (conflict_failures units ++ (map of_alias (alias_failures units) ++ map of_loop (instant_failures units)))

-- ---- parts of the tree

-- what the rule Instant asks of an arm
abbrev pub loops_of_arm : Arm → Loops
loops_of_arm = fold-Arm (Place → Loops) Loops BranchLoops Loops kind_loops arm_loops branch_loops stmt_loops

-- what the rule Instant asks of a branch
abbrev pub loops_of_branch : Branch → BranchLoops
loops_of_branch = fold-Branch (Place → Loops) Loops BranchLoops Loops kind_loops arm_loops branch_loops stmt_loops

-- the places of the loops in branches that may end in the tick in which they begin
abbrev pub branches_loops : List BranchLoops → List Place
branches_loops branches = joined (map (λ branch. branch.places) branches)

-- the failures of the calls in an arm by the rule Alias
abbrev pub aliases_of_arm : Arm → List Aliased
aliases_of_arm = fold-Arm (List Aliased) (List Aliased) (List Aliased) (List Aliased) kind_aliases arm_aliases branch_aliases stmt_aliases

-- the failures of the calls in a branch by the rule Alias
abbrev pub aliases_of_branch : Branch → List Aliased
aliases_of_branch = fold-Branch (List Aliased) (List Aliased) (List Aliased) (List Aliased) kind_aliases arm_aliases branch_aliases stmt_aliases

-- what the acts in an arm write, and the branches that stand in it
abbrev pub parallel_of_arm : Arm → Parallel
parallel_of_arm = fold-Arm (Place → Parallel) Parallel Parallel Parallel kind_parallel arm_parallel branch_parallel stmt_parallel

-- what the acts in a branch write, and the branches that stand in it
abbrev pub parallel_of_branch : Branch → Parallel
parallel_of_branch = fold-Branch (Place → Parallel) Parallel Parallel Parallel kind_parallel arm_parallel branch_parallel stmt_parallel

-- a static path that the act at the place writes
abbrev pub written : Place → Static → Marked
written at path = record { place = at; path = path }

-- the path that an input reads, with the input's place, where it is an aggregate
abbrev pub marked_read : Place → Path → List Marked
marked_read at path = if is_none (scalar_in (out-Path path).ty) then record { place = at; path = static_of path } ∷ [] else []

-- the place of the first marked path in a list that overlaps the given one
abbrev pub place_overlapping : List Marked → Marked → Option Place
place_overlapping others one = option_map (λ other. other.place) (find (λ other. overlaps one.path other.path) others)
