-- The C of an activity, by the list of its rules, where nodes are told by their numbers.
use Rattle.std.specs.Prelude.{ℕ, Bool, true, false, List, [], ◌∷◌, ◌++◌, map, Option, Some, None, if◌then◌else◌}
use Rattle.std.specs.Prelude.{codes, length, nat_lt, filter, option_and_then, slice_get, unwrap_or}
use Rattle.bl_tree.specs.declared.text.Text.{Text}
use Rattle.bl_tree.specs.declared.c.CFunc.{CFunc}
use Rattle.bl_tree.specs.declared.c.CLocal.{CLocal}
use Rattle.bl_tree.specs.declared.c.CMember.{CMember}
use Rattle.bl_tree.specs.declared.c.CParam.{CParam}
use Rattle.bl_tree.specs.declared.c.CStmt.{CStmt}
use Rattle.bl_tree.specs.declared.c.CStruct.{CStruct}
use Rattle.bl_tree.specs.declared.tree.StructDef.{StructDef}
use Rattle.bl_tree.specs.declared.tree.Unit.{Unit as UnitDef}
use Rattle.bl_tree.specs.declared.scalar.Op.TheVariants.{Eq}
use Rattle.bl_tree.specs.Program.{parameters_of}
use Rattle.bl_tree.specs.Reduce.{joined}
use Rattle.bl_tree.specs.Typing.{site_of}
use Rattle.bl_machine.specs.Blocks.{up_to}
use Rattle.bl_emit_acts.specs.Acts.{c_copied, c_set, is_copied}
use Rattle.bl_emit_acts.specs.Expressions.{scalar_at}
use Rattle.bl_emit_acts.specs.Trees.{c_read, c_two, nowhere}
use Rattle.bl_emit_acts.specs.Types.{c_scalar, copy_name, unit_name}
use Rattle.bl_emit_functions.specs.Functions.{members_of, memory_name, params_from, struct_of}
use Rattle.bl_machine_transitions.specs.Runs.{run_number}
use Rattle.bl_machine_transitions.specs.Told.{NumberedTransition}
use Rattle.bl_emit_spec.specs.Blocks.{ActivityView, Sizes, counter_value, name_in, unit_may_end}
use Rattle.bl_emit_spec.specs.Names.{callee_name, flag_place, frame_name, with_word}
use Rattle.bl_emit_spec.specs.Activities.{RunAt, blocks_code, copies_of, counter_member, ended_local, entry_place, given_local, over_params, pointer_param}
use Rattle.bl_emit_spec.specs.Activities.{rested_code, rested_local, result_params, scalar_local, some_ends, struct_member, word_of_run}
use Rattle.bl_emit_blocks.specs.Numbered.{numbered_turn}
use Rattle.bl_emit_tables.specs.Told.{flags_told, marks_told, read_told, runs_told}
use Rattle.bl_emit_tables.specs.Words.{word_told}

-- what C is made of: a unit with the structs and units before it, its rules in source order, and the blocks of their nodes
pub record ActivityInput : Type 0 where
  pub structs : List StructDef
  pub earlier : List UnitDef
  pub unit : UnitDef
  pub blocks : List (List ℕ)
  pub rules : List NumberedTransition
  -- how many values each counter has
  pub sizes : Sizes
  -- whether each of the earlier units remembers variables
  pub remember : List Bool

-- the view that blocks have of the activity, without numbers of nodes, but with the words of these numbers, and with those of `run`s
abbrev pub view_told : ActivityInput → ActivityView
view_told a = record {
  site = site_of a.structs a.earlier a.unit;
  copies = copies_of a.unit;
  number = λ n. 0;
  word = word_told (site_of a.structs a.earlier a.unit) a.rules;
  run = run_number a.rules;
  sizes = a.sizes;
  is_read = read_told a.rules;
  remembers = λ k. unwrap_or (slice_get a.remember k) false;
}

-- ---- structs

-- the struct member for where the activity that a `run` calls rests
abbrev pub frame_member_told : List UnitDef → RunAt → CMember
frame_member_told earlier run = struct_member (callee_name (word_of_run earlier run)) (frame_name (name_in (slice_get earlier run.unit)))

-- the struct of where an activity of this name rests: its counters, and the structs of the activities that it runs
abbrev pub frame_by : List UnitDef → Text → Sizes → List RunAt → CStruct
frame_by earlier name sizes runs = record {
  place = nowhere;
  name = frame_name name;
  members = map (counter_member sizes) (up_to (length sizes)) ++ map (frame_member_told earlier) runs;
}

-- the struct of where the activity rests
abbrev pub frame_told : ActivityInput → CStruct
frame_told a = frame_by a.earlier a.unit.name a.sizes (runs_told a.rules)

-- the struct member for what the activity that a `run` calls remembers, if anything
abbrev pub memory_member_told : List UnitDef → List Bool → RunAt → List CMember
memory_member_told earlier remember run =
    if unwrap_or (slice_get remember run.unit) false
    then struct_member (callee_name (word_of_run earlier run)) (memory_name (name_in (slice_get earlier run.unit))) ∷ []
    else []

-- what an activity with these `run`s remembers: its variables, and what the activities that it runs remember
abbrev pub remembered_by : List StructDef → List UnitDef → List Bool → UnitDef → List RunAt → List CMember
remembered_by structs earlier remember unit runs = members_of structs earlier unit ++ joined (map (memory_member_told earlier remember) runs)

-- the members for what the activity remembers
abbrev pub remembered_told : ActivityInput → List CMember
remembered_told a = remembered_by a.structs a.earlier a.remember a.unit (runs_told a.rules)

-- the struct of what the activity remembers, if anything
abbrev pub remembered_struct_told : ActivityInput → List CStruct
remembered_struct_told a = struct_of a.unit.name (remembered_told a)

-- whether the activity remembers anything
abbrev pub remembers_told : ActivityInput → Bool
remembers_told a = nat_lt 0 (length (remembered_told a))

-- ---- the function

-- the parameter for what the activity remembers, if anything
abbrev pub memory_params_told : Text → Bool → List CParam
memory_params_told name remembers = if remembers then pointer_param (codes "m") (memory_name name) ∷ [] else []

-- the parameters of the activity's function: for where it rests, what it remembers, its inputs and outputs, its result, and whether it has ended, where it
-- may end
abbrev pub params_told : List StructDef → UnitDef → Bool → List CParam
params_told structs unit remembers =
    pointer_param (codes "f") (frame_name unit.name)
    ∷ (memory_params_told unit.name remembers
    ++ (params_from structs unit.vars 0 (parameters_of unit) ++ (result_params unit.result ++ over_params (unit_may_end unit))))

-- the counters of which some rule asks what they held, in order
abbrev pub counters_told : Sizes → List NumberedTransition → List ℕ
counters_told sizes rules = filter (read_told rules) (up_to (length sizes))

-- the local for the copy of a variable
abbrev pub copy_told : UnitDef → ℕ → CLocal
copy_told unit k = scalar_local (c_scalar (scalar_at (slice_get unit.vars k))) (copy_name unit.vars k)

-- the positions of the variables that are copied
abbrev pub copied_told : UnitDef → List ℕ
copied_told unit = filter (is_copied (copies_of unit)) (up_to (length unit.vars))

-- the local for the result of what a `run` calls, where it has one
abbrev pub run_locals_told : List UnitDef → RunAt → List CLocal
run_locals_told earlier run = given_local (word_of_run earlier run) (option_and_then (λ unit. unit.result) (slice_get earlier run.unit))

-- the locals of the activity's function: copies of counters, flags of the first nodes of blocks, marks, copies of variables, whether what was called has
-- ended, where it may, and the results of `run`s
abbrev pub locals_by : List UnitDef → UnitDef → ActivityView → List NumberedTransition → List (List ℕ) → List ℕ → List ℕ → List RunAt → List CLocal
locals_by earlier unit view rules blocks counters copied runs =
    map (rested_local view.sizes) counters
    ++ (flags_told view.word rules blocks
    ++ (marks_told view.word rules
    ++ (map (copy_told unit) copied ++ (ended_local (some_ends earlier runs) ++ joined (map (run_locals_told earlier) runs)))))

-- the locals of the activity
abbrev pub locals_told : ActivityInput → List CLocal
locals_told a = locals_by a.earlier a.unit (view_told a) a.rules a.blocks (counters_told a.sizes a.rules) (copied_told a.unit) (runs_told a.rules)

-- the node with the number waits where the first counter held 0: the body begins
abbrev pub entry_at : ActivityView → ℕ → CStmt
entry_at view number =
    c_set (flag_place (with_word view.word number)) (c_two Eq (c_read (entry_place (view.is_read 0))) (counter_value view.sizes 0 0))

-- the C of an optional entry
abbrev pub entry_where : ActivityView → Option NumberedTransition → List CStmt
entry_where view (Some rule) = entry_at view rule.number ∷ []
entry_where view None = []

-- the entry is the first node; a body without statements has none
abbrev pub entry_told : ActivityView → List NumberedTransition → List CStmt
entry_told view [] = []
entry_told view (rule ∷ rest) = entry_at view rule.number ∷ []

-- the body: copies of what these counters held and of these variables when the tick began, and the blocks in their order
abbrev pub code_by : ActivityView → List NumberedTransition → List (List ℕ) → List ℕ → List ℕ → List CStmt
code_by view rules blocks counters copied =
    map rested_code counters
    ++ (entry_told view rules ++ (map (c_copied view.site) copied ++ blocks_code view.word (map (numbered_turn view) rules) blocks))

-- the body of the activity
abbrev pub code_told : ActivityInput → List CStmt
code_told a = code_by (view_told a) a.rules a.blocks (counters_told a.sizes a.rules) (copied_told a.unit)

-- a C function of an activity
abbrev pub function_by : List StructDef → UnitDef → Bool → List CLocal → List CStmt → CFunc
function_by structs unit remembers locals body = record {
  place = nowhere;
  fixed = true;
  result = None;
  name = unit_name unit.name;
  params = params_told structs unit remembers;
  locals = locals;
  body = body;
}

-- the C function of the activity
abbrev pub function_told : ActivityInput → CFunc
function_told a = function_by a.structs a.unit (remembers_told a) (locals_told a) (code_told a)

-- a C function of the activity, as its blocks see it, where these counters are asked for, these variables copied and these are its `run`s
abbrev pub function_viewed : ActivityInput → ActivityView → List ℕ → List ℕ → List RunAt → Bool → CFunc
function_viewed a view counters copied runs remembers =
    function_by a.structs a.unit remembers (locals_by a.earlier a.unit view a.rules a.blocks counters copied runs)
    (code_by view a.rules a.blocks counters copied)
