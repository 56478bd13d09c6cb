-- How the functions over trees say what they give: changes of variables, and ends of statements.
use Rattle.std.specs.Prelude.{ℕ, List, [], ◌∷◌, map, Option, Some, None, option_map, option_and_then, slice_get, slice_set, unwrap_or}
use Rattle.std.specs.List.{zip}
use Rattle.bl_tree.specs.declared.tree.Arm.{Arm, fold-Arm}
use Rattle.bl_tree.specs.declared.tree.Part.{Part, fold-Part}
use Rattle.bl_tree.specs.declared.value.Value.{Value}
use Rattle.bl_eval.specs.declared.datum.Put.{Put}
use Rattle.bl_eval.specs.declared.datum.Target.{Target}
use Rattle.bl_eval.specs.declared.evaluation.Flow.{Flow as Ended}
use Rattle.bl_eval.specs.declared.evaluation.Flow.TheVariants.{On, Back, Trap}
use Rattle.bl_eval.specs.declared.evaluation.Site.{Site}
use Rattle.bl_eval.specs.declared.evaluation.View.{View as Seen}
use Rattle.bl_eval.specs.Functions.{Flow, GuardedBlock, StmtMeaning, arm_does, branch_does, callees_of, kind_does, stmt_does}
use Rattle.bl_eval.specs.Meaning.{View, Scope, Meaning, PathPosition, PathMeaning, kind_means, part_means, expr_means, path_means, read_at}
use Rattle.bl_eval.specs.Values.{with_value_at}

-- the scope of a site that the code has: its unit's variables, and the functions before its unit
abbrev pub scope_in : Site → Scope
scope_in site = record { structs = site.structs.now; vars = site.vars.now; callees = callees_of site.structs.now site.earlier.now }

-- the values that the code has, as lists
abbrev pub view_in : Seen → View
view_in view = record { now = view.now.now; before = view.before.now }

-- what a part of a path means
abbrev pub part_of_path : Scope → Part → PathPosition
part_of_path scope = fold-Part Meaning PathPosition Meaning PathMeaning (kind_means scope) part_means expr_means path_means

-- a statement's end, with the variables that it left
abbrev pub ended : Ended → List Value → Option Flow
ended On now = Some (Flow.On now)
ended (Back datum) now = Some (Flow.Back now datum)
ended Trap now = None

-- the value with the new one at the positions; unchanged where they lead outside
abbrev pub replaced : List ℕ → Value → Value → Value
replaced positions new value = unwrap_or (with_value_at positions new value) value

-- the parts with the new value at the positions in one of them; unchanged where they lead outside
abbrev pub with_element_at : ℕ → List ℕ → Value → List Value → List Value
with_element_at k rest new all = unwrap_or (option_map (λ old. slice_set all k (replaced rest new old)) (slice_get all k)) all

-- the variables after a change
abbrev pub changed : List Value → Put → List Value
changed now put = with_element_at put.root put.positions put.value now

-- the variables after several changes, in order
abbrev pub all_changed : List Put → List Value → List Value
all_changed [] now = now
all_changed (put ∷ puts) now = all_changed puts (changed now put)

-- the targets to which several paths lead; none where a path traps
abbrev pub targets_of : List PathMeaning → View → Option (List Target)
targets_of [] view = Some []
targets_of (path ∷ paths) view =
    option_and_then (λ positions. option_map (λ rest. record { root = path.root; positions = positions } ∷ rest) (targets_of paths view))
    (path.positions view)

-- the values at several targets; none where one is missing
abbrev pub current_of : List Target → List Value → Option (List Value)
current_of [] now = Some []
current_of (target ∷ rest) now =
    option_and_then (λ value. option_map (λ values. value ∷ values) (current_of rest now)) (read_at target.root now target.positions)

-- a target with its value
abbrev pub put_of : Target × Value → Put
put_of pair = record { root = pair.0.root; positions = pair.0.positions; value = pair.1 }

-- the targets with their values, one for one
abbrev pub puts_of : List Target → List Value → List Put
puts_of targets values = map put_of (zip targets values)

-- the meaning of an arm of an `if`
abbrev pub choice_of : Scope → Arm → GuardedBlock
choice_of scope = fold-Arm StmtMeaning GuardedBlock StmtMeaning StmtMeaning (kind_does scope) (arm_does scope) branch_does stmt_does
